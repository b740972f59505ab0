-- Devices that have no row: what is known of them, and that opening them leaves what they hold.
use Rattle.std.proofs.Common.{◌≡◌, inl, inr, ⊎_elim, ℕ, ◌==◌, ◌&&◌, length, map, Bool, true, false, List, [], ◌∷◌, Option, Some, None, Result, Ok, Err, refl, sym, ◌∙◌, ap, arith}
use Rattle.std.specs.Prelude.{OnOk, not, is_some}
use Rattle.std.specs.Map.{keys_of}
use Rattle.std.specs.BTreeSet.{keys}
use Rattle.std.proofs.lemmas.Bool.{eqb-true}
use Rattle.std.proofs.lemmas.Result.{on_ok_weaker}
use Rattle.disk_trait.specs.Image.{IsImage}
use Rattle.disk_trait.specs.Calls.{DiskState}
use Rattle.vault.specs.Calls.{IsEither}
use Rattle.vault.proofs.Uppers.{runs_weaker}
use Rattle.chunk_store.specs.Payload.{chunks_of}
use Rattle.chunk_store.specs.Standing as chunks
use Rattle.row_store.specs.Data.{data_of, sub_of, subs_of}
use Rattle.row_store.specs.Standing as rows
use Rattle.status_log.specs.Payload.{pending_of}
use Rattle.status_log.specs.Standing as logs
use Rattle.store_commit.specs.declared.devs.TableDevs.{TableDevs}
use Rattle.store_commit.specs.declared.fault.CommitFault.{CommitFault}
use Rattle.store_commit.specs.declared.fault.CommitFault.TheVariants.{Busy, Spent, Disk, Down, Memory}
use Rattle.store_commit.specs.Devs.{Devs}
use Rattle.store_commit.specs.Standing.{devs, write_of, writes_of, nothing, AreUp, AreSound, AreSynced, AreLookedAt, HaveOpenings, IsReady, NothingHidden}
use Rattle.store_commit.specs.Scan.{AllStay, Asks}
use Rattle.store_commit.specs.TakesOn.{AllLeave}
use Rattle.store_commit.specs.Unset.{KeepsUnset, HasCause}
use Rattle.store_commit.specs.Bare.{is_bare, has_no_rows, IsBare, Clears}
use Rattle.store_commit.proofs.Works.{synced_chunks, synced_rows, synced_log, up_or_down}
use Rattle.store_commit.proofs.Moments.{all_then}
use Rattle.store_commit.proofs.Fusing.{keeps, keeps_then, cause_then}

on_ok : {T P : Type 0} (r : Result T CommitFault) → P → OnOk r P
on_ok (Ok x) p = p
on_ok (Err e) p = tt

-- ---- restarts

module _ {D : Type 0} (state : D → DiskState) (images : D → ℕ → List ℕ → Type 0) where
  module _ (old new : TableDevs D) (cs : chunks.Restarts state images old.chunks new.chunks) (rs : rows.Restarts state images old.rows new.rows) (ls : logs.Restarts state images old.log new.log) where
    pub restart_keeps : KeepsUnset state old new
    restart_keeps = keeps state old new (λ _. record { chunks = cs.unset; rows = rs.unset; log = ls.unset }) (λ _. omega (arith, cs.stops_stay, rs.stops_stay, ls.stops_stay))

    pub restart_caused : HasCause {T = Unit {0}} state old new (Ok tt)
    restart_caused = record { cause = omega (arith, cs.faults_stay, rs.faults_stay, ls.faults_stay); only = tt }

    pub restart_leaves : ((disk : D) (image : List ℕ) → images disk (state disk).moment image → IsImage (state disk).pending image) → AreUp old → AreSynced state old → AreSound state old → AllLeave state images old new
    restart_leaves only_now up synced sound =
        let c = chunks.chunks state old.chunks in
        let r = rows.held state old.rows in
        let l = logs.entry_open state old.log in
        record {
          chunks = runs_weaker state images (chunks.vault_of old.chunks) (chunks.vault_of new.chunks) (λ x. IsEither c c (chunks_of x)) (λ x. chunks_of x ≡ c)
              (cs.since old.chunks.inner c c (runs_weaker state images (chunks.vault_of old.chunks) (chunks.vault_of old.chunks) (λ x. chunks_of x ≡ c) (λ x. IsEither c c (chunks_of x)) (synced_chunks state images only_now old.chunks up.chunks synced.chunks sound.chunks) (λ x is. inl is)))
              (λ x either. ⊎_elim (λ is. is) (λ is. is) either);
          rows = runs_weaker state images (rows.vault_of old.rows) (rows.vault_of new.rows) (λ x. IsEither r r (data_of x)) (λ x. data_of x ≡ r)
              (rs.since old.rows.inner r r (runs_weaker state images (rows.vault_of old.rows) (rows.vault_of old.rows) (λ x. data_of x ≡ r) (λ x. IsEither r r (data_of x)) (synced_rows state images only_now old.rows up.rows synced.rows sound.rows) (λ x is. inl is)))
              (λ x either. ⊎_elim (λ is. is) (λ is. is) either);
          log = runs_weaker state images (logs.vault_of old.log) (logs.vault_of new.log) (λ x. IsEither l l (pending_of x)) (λ x. pending_of x ≡ l)
              (ls.since old.log.inner l l (runs_weaker state images (logs.vault_of old.log) (logs.vault_of old.log) (λ x. pending_of x ≡ l) (λ x. IsEither l l (pending_of x)) (synced_log state images only_now old.log up.log synced.log sound.log) (λ x is. inl is)))
              (λ x either. ⊎_elim (λ is. is) (λ is. is) either);
        }

    -- bare devices are so still
    pub restart_quiet : ((disk : D) (image : List ℕ) → images disk (state disk).moment image → IsImage (state disk).pending image) → AreUp new → AreSynced state new
        → (AreUp old → AreSynced state old → AreSound state old → (devs state new ≡ devs state old) × AreSound state new)
        → IsBare state old → IsBare state new × (devs state new ≡ devs state old) × AllLeave state images old new
    restart_quiet only_now up synced rests bare =
        let x = rests bare.up bare.synced bare.sound in
        (record { up = up; synced = synced; sound = x.1; bare = ap is_bare x.0 ∙ bare.bare }, x.0, restart_leaves only_now bare.up bare.synced bare.sound)

  -- Calls that write nothing, where devices are bare, and then those that clear them.
  pub clears_then : (old mid new : TableDevs D) (r : Result (Unit {0}) CommitFault) → KeepsUnset state old mid → HasCause {T = Unit {0}} state old mid (Ok tt)
      → (IsBare state old → IsBare state mid × (devs state mid ≡ devs state old) × AllLeave state images old mid) → Clears state images mid new r → Clears state images old new r
  clears_then old mid new r fuse cause quiet k = record {
    bare = k.bare;
    rests = k.rests;
    idle = k.idle;
    hidden = k.hidden;
    fuse = keeps_then state old mid new fuse k.fuse;
    cause = cause_then state old mid new tt r cause k.cause;
    leave = λ bare. let q = quiet bare in all_then state images old mid new q.1 q.2 (k.leave q.0);
    same = λ bare. let q = quiet bare in on_ok_weaker r (λ kept. kept ∙ q.1) (k.same q.0);
  }

  -- ---- calls, one after the other

  pub looked_up : (table : TableDevs D) → AreLookedAt state table → AreUp table
  looked_up table l = record { chunks = l.chunks.vault.up; rows = l.rows.vault.up; log = l.log.vault.up }

  pub looked_synced : (table : TableDevs D) → AreLookedAt state table → AreSynced state table
  looked_synced table l = record { chunks = λ _. l.chunks.vault.synced; rows = λ _. l.rows.vault.synced; log = λ _. l.log.vault.synced }

  pub still_looked : (old new : TableDevs D) → AllStay state old new → AreLookedAt state old → AreLookedAt state new
  still_looked old new stay l = record { chunks = stay.chunks.looked l.chunks; rows = stay.rows.looked l.rows; log = stay.log.looked l.log }

  pub still_sound : (old new : TableDevs D) → AllStay state old new → AreSound state old → AreSound state new
  still_sound old new stay s = record { chunks = stay.chunks.sound s.chunks; rows = stay.rows.sound s.rows; log = stay.log.sound s.log }

  pub still_openings : (old new : TableDevs D) → AllStay state old new → HaveOpenings state old → HaveOpenings state new
  still_openings old new stay room = record { chunks = stay.chunks.room 1 0 0 room.chunks; rows = stay.rows.room 1 0 0 room.rows; log = stay.log.room 1 0 0 room.log }

  pub asks_cause : {S T : Type 0} (old new : TableDevs D) (e : CommitFault) → AreUp old → Asks {T = T} state images old new (Err e) → HasCause {T = S} state old new (Err e)
  asks_cause old new (Busy v) up k = ⊎_elim (λ is. absurd cc) (λ more. ⊎_elim (λ is. absurd cc) (λ is. absurd cc) more) k.only
  asks_cause old new Spent up k = ⊎_elim (λ is. absurd cc) (λ more. ⊎_elim (λ is. absurd cc) (λ is. absurd cc) more) k.only
  asks_cause old new Disk up k = record { cause = (λ is. (k.disk refl).0, λ isnt. absurd (isnt refl)); only = inl refl }
  asks_cause old new Down up k = absurd (up_or_down old up (k.down.0 refl))
  asks_cause old new Memory up k = record { cause = (λ is. absurd cc, λ isnt. k.counted (λ is. cc)); only = inr refl }

  -- ---- an opening of all three

  pub same_devs : (old new : TableDevs D) → chunks.chunks state new.chunks ≡ chunks.chunks state old.chunks → rows.held state new.rows ≡ rows.held state old.rows
      → logs.entry_open state new.log ≡ logs.entry_open state old.log → devs state new ≡ devs state old
  same_devs old new c r l = cc

  -- ---- an opening of bare devices, and a format of others

  module _ (old mid : TableDevs D) (looked : AreLookedAt state old) (b : Bool) (is : b ≡ is_bare (devs state old)) (a : Asks {T = Bool} state images old mid (Ok b)) (same_agenda : mid.agenda ≡ old.agenda) (same_scanned : mid.scanned ≡ old.scanned)
      (idle : writes_of old ≡ []) (hidden : NothingHidden old) where
    asked : HasCause {T = Unit {0}} state old mid (Ok tt)
    asked = record { cause = a.counted (λ is. cc); only = tt }

    pub opened_clears : (new : TableDevs D) (r : Result (Unit {0}) CommitFault) → b ≡ true → KeepsUnset state mid new → HasCause state mid new r → OnOk r (IsReady state new []) → OnOk r (devs state new ≡ devs state mid)
        → (AreSound state mid → AllLeave state images mid new) → new.agenda ≡ mid.agenda → new.scanned ≡ mid.scanned → Clears state images old new r
    opened_clears new r holds fuse cause rests same leave agenda scanned = record {
      bare = on_ok_weaker r (λ kept. ap is_bare (kept ∙ a.same (λ e. cc)) ∙ (sym is ∙ holds)) same;
      rests = rests;
      idle = on_ok r (ap (λ x. map write_of x.items) (agenda ∙ same_agenda) ∙ idle);
      hidden = on_ok r (ap (λ x. keys x.hidden) (scanned ∙ same_scanned) ∙ hidden);
      fuse = keeps_then state old mid new a.fuse fuse;
      cause = cause_then state old mid new tt r asked cause;
      leave = λ bare. all_then state images old mid new (a.same (λ e. cc)) (a.leave bare.up bare.sound) (leave (still_sound old mid (a.stay (λ e. cc)) bare.sound));
      same = λ bare. on_ok_weaker r (λ kept. kept ∙ a.same (λ e. cc)) same;
    }

    pub formatted_clears : (new : TableDevs D) (r : Result (Unit {0}) CommitFault) → b ≡ false → KeepsUnset state mid new → HasCause state mid new r → OnOk r (IsReady state new []) → OnOk r (devs state new ≡ nothing)
        → writes_of new ≡ [] → NothingHidden new → Clears state images old new r
    formatted_clears new r lacks fuse cause rests empty none shown = record {
      bare = on_ok_weaker r (λ at. ap is_bare at) empty;
      rests = rests;
      idle = on_ok r none;
      hidden = on_ok r shown;
      fuse = keeps_then state old mid new a.fuse fuse;
      cause = cause_then state old mid new tt r asked cause;
      leave = λ bare. absurd (isnt bare);
      same = λ bare. absurd (isnt bare);
    }
      where
        isnt : IsBare state old → ⊥
        isnt bare = let both : true ≡ false = sym bare.bare ∙ (sym is ∙ lacks) in cc

-- ---- what bare devices hold

both_true : (a b : Bool) → (a && b) ≡ true → (a ≡ true) × (b ≡ true)
both_true true true is = (refl, refl)
both_true true false is = (refl, is)
both_true false b is = (is, absurd cc)

none_mapped : {A B : Type 0} (f : A → B) (l : List A) → (length (map f l) == 0) ≡ true → l ≡ []
none_mapped f [] is = refl
none_mapped f (x ∷ l) is = let none = eqb-true (length (map f (x ∷ l))) 0 is in absurd (omega (arith, none))

none_some : {T : Type 0} (o : Option T) → not (is_some o) ≡ true → o ≡ None
none_some None is = refl
none_some (Some x) is = absurd cc

-- nothing but the record of a table is held, if even that
pub record HoldsNoMore (d : Devs) : Type 0 where
  pub rows : d.held.rows ≡ []
  pub subs : d.held.subs ≡ []
  pub chunks : d.chunks ≡ []
  pub pending : d.pending ≡ None

pub bare_holds : (d : Devs) → is_bare d ≡ true → HoldsNoMore d
bare_holds d is =
    let first = both_true (has_no_rows d.held) ((length (keys_of d.chunks) == 0) && not (is_some d.pending)) is in
    let held = both_true (length (keys_of d.held.rows) == 0) (length (subs_of d.held) == 0) first.0 in
    let rest = both_true (length (keys_of d.chunks) == 0) (not (is_some d.pending)) first.1 in
    record { rows = none_mapped (λ e. e.0) d.held.rows held.0; subs = none_mapped sub_of d.held.subs held.1; chunks = none_mapped (λ e. e.0) d.chunks rest.0; pending = none_some d.pending rest.1 }
