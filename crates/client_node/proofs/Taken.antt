-- How a start is taken on by a client's devices, call by call.
use Rattle.std.proofs.Common.{◌≡◌, ◌⊎◌, inl, inr, ⊎_elim, ℕ, ◌<◌, List, [], Result, Ok, Err, refl, sym, ◌∙◌, ap, subst, arith}
use Rattle.std.specs.Prelude.{IsErrOf}
use Rattle.disk_trait.specs.Calls.{DiskState}
use Rattle.held_value.specs.declared.local_name.LocalName.{LocalName}
use Rattle.client_journal.specs.declared.devs.Journal.{Journal}
use Rattle.client_journal.specs.declared.rolled.Rolled.{Rolled}
use Rattle.client_journal.specs.declared.fault.JournalFault.{JournalFault}
use Rattle.client_journal.specs.declared.fault.JournalFault.TheVariants as journal
use Rattle.client_journal.specs.Agenda.{Runs, IsRedoing}
use Rattle.client_journal.specs.Asking.{AllStay, AllLeave, Asks}
use Rattle.client_journal.specs.Causes.{HasCause as HasJournalCause}
use Rattle.client_journal.specs.Devs.{ClientDevs, Write}
use Rattle.client_journal.specs.NamedSlots.{NamedSlots}
use Rattle.client_journal.specs.Recover.{AreRecoveryWrites, IsStarting, Recovers}
use Rattle.client_journal.specs.Redone.{redone}
use Rattle.client_journal.specs.Standing.{devs, writes_of, all_faults, AreUp, AreLookedAt, AreSound, HaveOpenings}
use Rattle.client_journal.specs.Unset.{KeepsUnset}
use Rattle.client_journal.proofs.Fusing.{keeps_then}
use Rattle.client_journal.proofs.Works.{up_or_down}
use Rattle.client_node.specs.declared.fault.CallFault.{CallFault}
use Rattle.client_node.specs.declared.fault.CallFault.TheVariants as call
use Rattle.client_node.specs.Fault.{fault_of}
use Rattle.client_node.specs.Answers.{IsFault}
use Rattle.client_node.specs.Devices.{HasCause, BeginsStart}
use Rattle.client_node.specs.Looks.{IsNotDisk, Looks}
use Rattle.client_node.proofs.Serving.{leave_then}
use Rattle.client_node.proofs.Making.{cause_ok, cause_err, cause_then, journal_cause}

module _ {D : Type 0} (state : D → DiskState) where
  pub looked_up : (client : Journal D) → AreLookedAt state client → AreUp client
  looked_up client r = record { chunks = r.chunks.vault.up; slots = r.slots.vault.up; journal = r.journal.vault.up }

  pub still_looked : (old new : Journal D) → AllStay state old new → AreLookedAt state old → AreLookedAt state new
  still_looked old new stay l = record { chunks = stay.chunks.looked l.chunks; slots = stay.slots.looked l.slots; journal = stay.journal.looked l.journal }

  -- what was scanned may be recovered
  pub scanned_starts : (old new : Journal D) → AllStay state old new → AreLookedAt state old → AreSound state old → HaveOpenings state old → writes_of new ≡ writes_of old → writes_of old ≡ [] → IsStarting state new
  scanned_starts old new stay l sound room agenda idle = record {
    looked = still_looked old new stay l;
    sound = record { chunks = stay.chunks.sound sound.chunks; slots = stay.slots.sound sound.slots; journal = stay.journal.sound sound.journal };
    openings = record { chunks = stay.chunks.room 1 0 0 room.chunks; slots = stay.slots.room 1 0 0 room.slots; journal = stay.journal.room 1 0 0 room.journal };
    idle = agenda ∙ idle;
  }

module _ {D : Type 0} (state : D → DiskState) (images : D → ℕ → List ℕ → Type 0) where
  pub looked_ready : {T : Type 0} (old new : Journal D) (x : T) → Asks {T = T} state images old new (Ok x) → AreLookedAt state old → AreLookedAt state new
  looked_ready old new x a l = still_looked state old new (a.stay (λ is. cc)) l

  -- none is taken on
  pub begins_not : {T : Type 0} (old new : Journal D) (e : CallFault) → HasCause {T = T} state old new (Err e) → AllLeave state images old new → BeginsStart {T = T} state images old new (Err e)
  begins_not old new e cause leave = record { writes = tt; ready = tt; up = tt; same = tt; runs = tt; cause = cause; leave = leave }

  pub look_failed : {T S : Type 0} (old new : Journal D) (e : JournalFault) → HasJournalCause {T = S} state old new (Err e) → KeepsUnset state old new → AllLeave state images old new → BeginsStart {T = T} state images old new (Err (fault_of e))
  look_failed {T} {S} old new e cause keeps leave = begins_not {T = T} old new (fault_of e) (journal_cause state {T = T} {S = S} old new e cause keeps) leave

  module _ {L : Type 0} (old looked : Journal D) (l : AreLookedAt state looked) (sound : AreSound state looked) (same : devs state looked ≡ devs state old) (x : L) (cause : HasJournalCause {T = L} state old looked (Ok x)) (keeps : KeepsUnset state old looked) (leave : AllLeave state images old looked) where
    up : AreUp looked
    up = looked_up state looked l

    since_looked : HasCause {T = L} state old looked (Ok x)
    since_looked = cause_ok state {T = L} old looked x cause.cause keeps

    asks_cause : {T S : Type 0} (new : Journal D) (e : JournalFault) → Asks {T = S} state images looked new (Err e) → HasCause {T = T} state looked new (Err (fault_of e))
    asks_cause {T} {S} new e a = cause_err state {T = T} {S = S} looked new e a.counted (λ d. (a.disk d).0) (⊎_elim (λ is. inl is) (λ more. ⊎_elim (λ is. absurd (up_or_down looked up (a.down.0 (ap (λ (f : JournalFault). Err f) is)))) (λ is. inr is) more) a.only) a.fuse

    scan_leaves : {S : Type 0} (new : Journal D) (r : Result S JournalFault) → Asks {T = S} state images looked new r → AllLeave state images old new
    scan_leaves new r a = leave_then state images old looked new same leave (a.leave up sound)

    pub scan_failed : {T S : Type 0} (new : Journal D) (e : JournalFault) → Asks {T = S} state images looked new (Err e) → BeginsStart {T = T} state images old new (Err (fault_of e))
    scan_failed {T} {S} new e a = begins_not {T = T} old new (fault_of e) (cause_then state {T = T} {S = L} old looked new x (Err (fault_of e)) since_looked (asks_cause {T = T} {S = S} new e a)) (scan_leaves {S = S} new (Err e) a)

    module _ {S : Type 0} (scanned : Journal D) (y : S) (a : Asks {T = S} state images looked scanned (Ok y)) (new : Journal D) (kept : KeepsUnset state scanned new) (recovered : AllLeave state images scanned new) where
      now_same : devs state scanned ≡ devs state old
      now_same = a.same (λ is. cc) ∙ same

      since_scanned : HasCause {T = L} state old scanned (Ok x)
      since_scanned = cause_ok state {T = L} old scanned x (a.counted (λ is. cc) ∙ cause.cause) (keeps_then state old looked scanned keeps a.fuse)

      all_leave : AllLeave state images old new
      all_leave = leave_then state images old scanned new now_same (scan_leaves {S = S} scanned (Ok y) a) recovered

      pub recover_failed : {T : Type 0} (e : JournalFault) → Recovers state images scanned new (Err e) → BeginsStart {T = T} state images old new (Err (fault_of e))
      recover_failed {T} e k =
          let own : HasCause {T = T} state scanned new (Err (fault_of e)) = cause_err state {T = T} {S = Rolled} scanned new e (λ n. ⊎_elim (λ is. absurd (n (ap (λ (f : JournalFault). Err f) is))) (λ is. (k.memory (ap (λ (f : JournalFault). Err f) is)).counted) k.only) (λ d. (k.disk d).1) k.only kept in
          begins_not {T = T} old new (fault_of e) (cause_then state {T = T} {S = L} old scanned new x (Err (fault_of e)) since_scanned own) all_leave

      pub start_begun : (rolled : Rolled) → Recovers state images scanned new (Ok rolled) → BeginsStart {T = Rolled} state images old new (Ok rolled)
      start_begun rolled k = record {
        writes = subst (λ (d : ClientDevs). AreRecoveryWrites d (writes_of new)) now_same k.writes;
        ready = k.ready;
        up = k.up;
        same = k.same ∙ now_same;
        runs = λ meaning named.
            subst (λ (e : ClientDevs). Runs (IsRedoing meaning (redone e)) (devs state new) (writes_of new)) now_same (k.runs meaning (subst (λ (e : ClientDevs). NamedSlots meaning e) (sym now_same) named));
        cause = cause_ok state {T = Rolled} old new rolled (k.counted ∙ (a.counted (λ is. cc) ∙ cause.cause)) (keeps_then state old scanned new since_scanned.fuse kept);
        leave = all_leave;
      }

  -- ---- behind it the devices are only read

  module _ {S : Type 0} (old begun : Journal D) (x : S) (k : BeginsStart {T = S} state images old begun (Ok x)) where
    -- memory was refused behind it
    pub begun_short : {T : Type 0} → BeginsStart {T = T} state images old begun (Err call.Memory)
    begun_short {T} = begins_not {T = T} old begun call.Memory (record { counted = λ _. k.cause.counted (λ is. cc); disk = λ is. absurd cc; only = inr refl; fuse = k.cause.fuse }) k.leave

    -- it is answered with another value
    pub begun_other : {T : Type 0} (y : T) → BeginsStart {T = T} state images old begun (Ok y)
    begun_other {T} y = record { writes = k.writes; ready = k.ready; up = k.up; same = k.same; runs = k.runs; cause = cause_ok state {T = T} old begun y (k.cause.counted (λ is. cc)) k.cause.fuse; leave = k.leave }

    module _ (new : Journal D) where
      pub read_failed : {T V : Type 0} (e : CallFault) → Looks {T = V} state images begun new (Err e) → IsFault e → BeginsStart {T = T} state images old new (Err e)
      read_failed {T} {V} e l fault =
          let own : HasCause {T = T} state begun new (Err e) = record {
            counted = λ n. l.serves.counted (λ is. n (let same : e ≡ call.Disk = cc in ap (λ (f : CallFault). Err f) same));
            disk = λ is. l.serves.disk (let same : e ≡ call.Disk = cc in ap (λ (f : CallFault). Err f) same);
            only = fault;
            fuse = l.serves.fuse;
          } in
          begins_not {T = T} old new e (cause_then state {T = T} {S = S} old begun new x (Err e) k.cause own) (leave_then state images old begun new k.same k.leave l.serves.leave)

      pub read_done : {T : Type 0} (y : T) → Looks {T = T} state images begun new (Ok y) → BeginsStart {T = T} state images old new (Ok y)
      read_done {T} y l =
          let still = l.serves.same (λ is. cc) in
          record {
            writes = subst (λ (ws : List Write). AreRecoveryWrites (devs state old) ws) (sym l.agenda) k.writes;
            ready = l.serves.ready (λ is. cc);
            up = l.serves.up (λ is. cc);
            same = still ∙ k.same;
            runs = λ meaning named.
                subst (λ (ws : List Write). Runs (IsRedoing meaning (redone (devs state old))) (devs state new) ws) (sym l.agenda)
                (subst (λ (d : ClientDevs). Runs (IsRedoing meaning (redone (devs state old))) d (writes_of begun)) (sym still) (k.runs meaning named));
            cause = cause_ok state {T = T} old new y (l.serves.counted (λ is. cc) ∙ k.cause.counted (λ is. cc)) (keeps_then state old begun new k.cause.fuse l.serves.fuse);
            leave = leave_then state images old begun new k.same k.leave l.serves.leave;
          }
