-- Calls of a node's devices, one after the other.
use Rattle.std.proofs.Common.{◌≡◌, ◌⊎◌, inl, inr, ⊎_elim, ℕ, ◌<◌, List, Result, Ok, Err, refl, sym, ◌∙◌, ap, subst, arith}
use Rattle.std.specs.Prelude.{OnErr, IsErrOf}
use Rattle.disk_trait.specs.Image.{IsImage}
use Rattle.disk_trait.specs.Calls.{DiskState}
use Rattle.vault.proofs.Uppers.{runs_then}
use Rattle.chunk_store.specs.Payload.{chunks_of}
use Rattle.chunk_store.specs.Standing as chunks
use Rattle.slot_store.specs.Data.{data_of}
use Rattle.slot_store.specs.Standing as slots
use Rattle.plan_log.specs.Journal.{journal_of}
use Rattle.plan_log.specs.Standing as journals
use Rattle.client_journal.specs.declared.devs.Journal.{Journal}
use Rattle.client_journal.specs.declared.fault.JournalFault.{JournalFault}
use Rattle.client_journal.specs.declared.fault.JournalFault.TheVariants as journal
use Rattle.client_journal.specs.Devs.{ClientDevs, Write}
use Rattle.client_journal.specs.Standing.{devs, writes_of, all_faults, AreUp, AreLookedAt, AreSound, IsReady}
use Rattle.client_journal.specs.Asking.{AllStay, AllLeave, Asks}
use Rattle.client_journal.proofs.Asking.{stay_up}
use Rattle.client_journal.proofs.Fusing.{keeps_then, keeps_same}
use Rattle.client_journal.proofs.Fuses.{chunk_still_ready, slot_still_ready, journal_still_ready}
use Rattle.client_journal.proofs.Works.{same_ready, up_or_down}
use Rattle.client_journal.proofs.Resting.{rests_all}
use Rattle.client_node.specs.declared.fault.CallFault.{CallFault}
use Rattle.client_node.specs.declared.fault.CallFault.TheVariants as call
use Rattle.client_node.specs.Fault.{fault_of}
use Rattle.client_node.specs.Answers.{IsFault}
use Rattle.client_node.specs.Looks.{IsNotDisk, Serves, Looks}

pub on_err : {T : Type 0} (r : Result T CallFault) (P : Type 0) → P → OnErr r P
on_err (Ok x) P p = tt
on_err (Err e) P p = p

module _ {D : Type 0} (state : D → DiskState) (images : D → ℕ → List ℕ → Type 0) where
  -- devices that stay are ready for the same writes
  pub ready_stays : (old new : Journal D) (ws : List Write) → AllStay state old new → IsReady state old ws → IsReady state new ws
  ready_stays old new ws s r =
      let one : Journal D = record old { chunks = new.chunks } in
      let two : Journal D = record one { slots = new.slots } in
      let three : Journal D = record two { journal = new.journal } in
      let a = chunk_still_ready state old ws r new.chunks s.chunks in
      let b = slot_still_ready state one ws a new.slots s.slots in
      let c = journal_still_ready state two ws b new.journal s.journal in
      same_ready state images three new refl refl refl ws c

  pub ready_looked : (client : Journal D) (ws : List Write) → IsReady state client ws → AreLookedAt state client
  ready_looked client ws r = record { chunks = r.chunk_looked; slots = r.slot_looked; journal = r.journal_looked }

  pub ready_sound : (client : Journal D) (ws : List Write) → IsReady state client ws → AreSound state client
  ready_sound client ws r = record { chunks = r.chunk_sound; slots = r.slot_sound; journal = r.journal_sound }

  -- what crashes leave, from call to call
  pub leave_then : (old mid new : Journal D) → devs state mid ≡ devs state old → AllLeave state images old mid → AllLeave state images mid new → AllLeave state images old new
  leave_then old mid new same l m = record {
    chunks = runs_then state images (chunks.vault_of old.chunks) (chunks.vault_of mid.chunks) (chunks.vault_of new.chunks) (λ l. chunks_of l ≡ chunks.chunks state old.chunks) (λ l. chunks_of l ≡ chunks.chunks state mid.chunks) (λ l. chunks_of l ≡ chunks.chunks state old.chunks)
        l.chunks m.chunks (λ l is. is) (λ l is. is ∙ ap (λ (d : ClientDevs). d.chunks) same);
    slots = runs_then state images (slots.vault_of old.slots) (slots.vault_of mid.slots) (slots.vault_of new.slots) (λ l. data_of l ≡ slots.held state old.slots) (λ l. data_of l ≡ slots.held state mid.slots) (λ l. data_of l ≡ slots.held state old.slots)
        l.slots m.slots (λ l is. is) (λ l is. is ∙ ap (λ (d : ClientDevs). d.held) same);
    journal = runs_then state images (journals.vault_of old.journal) (journals.vault_of mid.journal) (journals.vault_of new.journal) (λ l. journal_of l ≡ journals.held state old.journal) (λ l. journal_of l ≡ journals.held state mid.journal) (λ l. journal_of l ≡ journals.held state old.journal)
        l.journal m.journal (λ l is. is) (λ l is. is ∙ ap (λ (d : ClientDevs). d.journal) same);
  }

  -- ---- what was only read

  module _ (old new : Journal D) (up : AreUp old) (ready : IsReady state old (writes_of old)) where
    -- it was answered, whatever is made of the answer
    pub looks_ok : {T S : Type 0} (x : T) → Asks {T = T} state images old new (Ok x) → (r : Result S CallFault) → IsNotDisk r → Looks state images old new r
    looks_ok x a r n =
        let stay = a.stay (λ is. cc) in
        record {
          serves = record {
            same = λ _. a.same (λ is. cc);
            up = λ _. stay_up state old new stay up;
            ready = λ _. subst (λ (l : List Write). IsReady state new l) (sym a.agenda) (ready_stays old new (writes_of old) stay ready);
            refused = on_err r (writes_of new ≡ writes_of old) a.agenda;
            counted = λ _. a.counted (λ is. cc);
            disk = λ is. absurd (n is);
            leave = a.leave up (ready_sound old (writes_of old) ready);
            fuse = a.fuse;
          };
          agenda = a.agenda;
        }

    -- it wasn't
    pub looks_fault : {T S : Type 0} (e : JournalFault) → Asks {T = T} state images old new (Err e) → Looks {T = S} state images old new (Err (fault_of e))
    looks_fault {T} {S} e a = record {
      serves = record {
        same = λ n. a.same (not_it n);
        up = λ n. stay_up state old new (a.stay (not_it n)) up;
        ready = λ n. subst (λ (l : List Write). IsReady state new l) (sym a.agenda) (ready_stays old new (writes_of old) (a.stay (not_it n)) ready);
        refused = a.agenda;
        counted = λ n. a.counted (not_it n);
        disk = λ is. (a.disk (was_disk e is (λ down. up_or_down old up (a.down.0 down)))).0;
        leave = a.leave up (ready_sound old (writes_of old) ready);
        fuse = a.fuse;
      };
      agenda = a.agenda;
    }
      where
        not_it : IsNotDisk {T = S} (Err (fault_of e)) → IsErrOf {T = T} (Err e) journal.Disk → ⊥
        not_it n is = n (let same : e ≡ journal.Disk = cc in ap (λ (x : JournalFault). Err (fault_of x)) same)

        was_disk : (f : JournalFault) → IsErrOf {T = S} (Err (fault_of f)) call.Disk → (IsErrOf {T = T} (Err f) journal.Down → ⊥) → IsErrOf {T = T} (Err f) journal.Disk
        was_disk (journal.Busy plan) is n = absurd cc
        was_disk (journal.Spent last) is n = absurd cc
        was_disk journal.Disk is n = refl
        was_disk journal.Down is n = absurd (n refl)
        was_disk journal.Memory is n = absurd cc

    pub ask_fault : {T : Type 0} (e : JournalFault) → Asks {T = T} state images old new (Err e) → IsFault (fault_of e)
    ask_fault e a = ⊎_elim (λ disk. inl (ap fault_of disk)) (λ more. ⊎_elim (λ down. inl (ap fault_of down)) (λ memory. inr (ap fault_of memory)) more) a.only

    -- one that was answered, and then another
    pub serves_then : {T S : Type 0} (mid : Journal D) (x : S) (r : Result T CallFault) → Looks {T = S} state images old mid (Ok x) → Serves state images mid new r → Serves state images old new r
    serves_then mid x r a b =
        let counted = a.serves.counted (λ is. cc) in
        record {
          same = λ n. b.same n ∙ a.serves.same (λ is. cc);
          up = b.up;
          ready = b.ready;
          refused = behind r b.refused;
          counted = λ n. b.counted n ∙ counted;
          disk = λ is. let less = b.disk is in omega (arith, less, counted);
          leave = leave_then old mid new (a.serves.same (λ is. cc)) a.serves.leave b.leave;
          fuse = keeps_then state old mid new a.serves.fuse b.fuse;
        }
      where
        behind : {T : Type 0} (r : Result T CallFault) → OnErr r (writes_of new ≡ writes_of mid) → OnErr r (writes_of new ≡ writes_of old)
        behind (Ok y) is = tt
        behind (Err e) is = is ∙ a.agenda

    pub looks_then : {T S : Type 0} (mid : Journal D) (x : S) (r : Result T CallFault) → Looks {T = S} state images old mid (Ok x) → Looks state images mid new r → Looks state images old new r
    looks_then mid x r a b = record { serves = serves_then mid x r a b.serves; agenda = b.agenda ∙ a.agenda }

    -- the same under another answer
    pub looks_other : {T S : Type 0} (x : S) (r : Result T CallFault) → Looks {T = S} state images old new (Ok x) → IsNotDisk r → Looks state images old new r
    looks_other x r a n = record {
      serves = record {
        same = λ _. a.serves.same (λ is. cc);
        up = λ _. a.serves.up (λ is. cc);
        ready = λ _. a.serves.ready (λ is. cc);
        refused = on_err r (writes_of new ≡ writes_of old) a.agenda;
        counted = λ _. a.serves.counted (λ is. cc);
        disk = λ is. absurd (n is);
        leave = a.serves.leave;
        fuse = a.serves.fuse;
      };
      agenda = a.agenda;
    }

    pub looks_err : {T S : Type 0} (e : CallFault) → Looks {T = S} state images old new (Err e) → Looks {T = T} state images old new (Err e)
    looks_err {T} {S} e a = record {
      serves = record {
        same = λ n. a.serves.same (λ is. n (again is));
        up = λ n. a.serves.up (λ is. n (again is));
        ready = λ n. a.serves.ready (λ is. n (again is));
        refused = a.agenda;
        counted = λ n. a.serves.counted (λ is. n (again is));
        disk = λ is. a.serves.disk (let same : e ≡ call.Disk = cc in ap (λ (x : CallFault). Err x) same);
        leave = a.serves.leave;
        fuse = a.serves.fuse;
      };
      agenda = a.agenda;
    }
      where
        again : IsErrOf {T = S} (Err e) call.Disk → IsErrOf {T = T} (Err e) call.Disk
        again is = let same : e ≡ call.Disk = cc in ap (λ (x : CallFault). Err x) same

  -- nothing is done
  pub looks_none : {T : Type 0} → ((disk : D) (image : List ℕ) → images disk (state disk).moment image → IsImage (state disk).pending image) → (old : Journal D) → AreUp old → IsReady state old (writes_of old) → (r : Result T CallFault) → IsNotDisk r
      → Looks state images old old r
  looks_none only_now old up ready r n = record {
    serves = record {
      same = λ _. refl;
      up = λ _. up;
      ready = λ _. ready;
      refused = on_err r (writes_of old ≡ writes_of old) refl;
      counted = λ _. refl;
      disk = λ is. absurd (n is);
      leave = rests_all state images only_now old (writes_of old) ready;
      fuse = keeps_same state old old refl refl refl;
    };
    agenda = refl;
  }
