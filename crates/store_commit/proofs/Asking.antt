-- What a call promises that writes nothing and may be made whatever is still to be done.
use Rattle.std.proofs.Common.{◌≡◌, inl, inr, ⊎_elim, ◌⊎◌, ℕ, ◌+◌, ◌<◌, List, [], Option, Some, None, Result, Ok, Err, refl, sym, ◌∙◌, ap, subst, arith}
use Rattle.std.specs.Prelude.{IsErrOf, IfOk, IfErr}
use Rattle.disk_trait.specs.Image.{IsImage}
use Rattle.disk_trait.specs.Calls.{DiskState}
use Rattle.vault.specs.declared.fault.VaultFault.{VaultFault}
use Rattle.vault.specs.declared.fault.VaultFault.TheVariants as causes
use Rattle.vault.specs.declared.folded.Folded.{Folded}
use Rattle.vault.specs.Folded.{Stays}
use Rattle.vault.specs.Standing.{payloads, faults, stops, disk_of, IsUp, IsDown, IsSound, SameFuse}
use Rattle.vault.specs.Standing as vaults
use Rattle.vault.proofs.Uppers.{runs_then, runs_weaker}
use Rattle.vault.proofs.Stayings.{looked_leaves}
use Rattle.stab_base.specs.declared.chunk_name.ChunkName.{ChunkName}
use Rattle.chunk_store.specs.declared.device.ChunkDev.{ChunkDev}
use Rattle.chunk_store.specs.declared.fault.ChunkFault.{ChunkFault}
use Rattle.chunk_store.specs.declared.fault.ChunkFault.TheVariants as chunk_faults
use Rattle.chunk_store.specs.Payload.{chunks_of}
use Rattle.chunk_store.specs.Standing as chunks
use Rattle.row_store.specs.declared.device.RowDev.{RowDev}
use Rattle.row_store.specs.declared.fault.RowFault.{RowFault}
use Rattle.row_store.specs.declared.fault.RowFault.TheVariants as row_faults
use Rattle.row_store.specs.declared.stored.StoredRow.{StoredRow}
use Rattle.row_store.specs.Data.{TableData, data_of}
use Rattle.row_store.specs.Standing as rows
use Rattle.status_log.specs.Entry.{Entry}
use Rattle.status_log.specs.Payload.{pending_of}
use Rattle.status_log.specs.Standing as logs
use Rattle.store_commit.specs.declared.devs.TableDevs.{TableDevs}
use Rattle.store_commit.specs.declared.fault.CommitFault.{CommitFault}
use Rattle.store_commit.specs.declared.fault.CommitFault.TheVariants.{Disk, Down, Memory}
use Rattle.store_commit.specs.Fault.{caused, row_cause, found_of, chunk_found}
use Rattle.store_commit.specs.Devs.{Devs}
use Rattle.store_commit.specs.Standing.{devs, writes_of, all_faults, AreUp, IsOneDown, AreLookedAt, AreSound, DevsLeave}
use Rattle.store_commit.specs.TakesOn.{IsNotDisk, AllLeave}
use Rattle.store_commit.specs.Unset.{KeepsUnset}
use Rattle.store_commit.specs.Scan.{ReadsRows, AllStay, Asks}
use Rattle.store_commit.proofs.Works.{all_same, up_or_down}
use Rattle.store_commit.proofs.Moments.{all_then}
use Rattle.store_commit.proofs.Fusing.{keeps_then, keeps_same, keeps_vaults, chunk_same, row_same}

-- ---- a folded vault

module _ {D F : Type 0} (state : D → DiskState) (fits : F → List (List ℕ) → Type 0) (has_spare : F → ℕ → ℕ → Type 0) where
  pub itself : (f : Folded D F) → Stays state fits has_spare f f
  itself f = record { same = refl; down = refl; synced = λ h. h; looked = λ h. h; opened = λ h. h; sound = λ h. h; room = λ o a b h. h }

  pub both_stay : (old mid new : Folded D F) → Stays state fits has_spare old mid → Stays state fits has_spare mid new → Stays state fits has_spare old new
  both_stay old mid new a b = record {
    same = b.same ∙ a.same;
    down = b.down ∙ a.down;
    synced = λ h. b.synced (a.synced h);
    looked = λ h. b.looked (a.looked h);
    opened = λ h. b.opened (a.opened h);
    sound = λ h. b.sound (a.sound h);
    room = λ o n m h. b.room o n m (a.room o n m h);
  }

-- ---- answers

pub listed_only : {T : Type 0} (r : Result T RowFault) → (IsErrOf r row_faults.NoRow → ⊥) → (IsErrOf r row_faults.Disk → ⊥) → (IsErrOf r row_faults.Down → ⊥) → IfErr r (λ e. (e ≡ row_faults.Disk) ⊎ (e ≡ row_faults.Memory))
listed_only (Ok x) not_row not_disk not_down = tt
listed_only (Err row_faults.NoRow) not_row not_disk not_down = absurd (not_row refl)
listed_only (Err row_faults.Disk) not_row not_disk not_down = absurd (not_disk refl)
listed_only (Err row_faults.Down) not_row not_disk not_down = absurd (not_down refl)
listed_only (Err row_faults.Memory) not_row not_disk not_down = inr refl

pub listed_memory : {T : Type 0} (r : Result T RowFault) (e : CommitFault) → (IsErrOf r row_faults.NoRow → ⊥) → (IsErrOf r row_faults.Disk → ⊥) → (IsErrOf r row_faults.Down → ⊥) → Err e ≡ caused row_cause r → e ≡ Memory
listed_memory (Ok x) e not_row not_disk not_down is = absurd cc
listed_memory (Err row_faults.NoRow) e not_row not_disk not_down is = absurd (not_row refl)
listed_memory (Err row_faults.Disk) e not_row not_disk not_down is = absurd (not_disk refl)
listed_memory (Err row_faults.Down) e not_row not_disk not_down is = absurd (not_down refl)
listed_memory (Err row_faults.Memory) e not_row not_disk not_down is = cc

pub was_ok : {T : Type 0} (r : Result T RowFault) (x : T) → Ok x ≡ caused row_cause r → r ≡ Ok x
was_ok (Ok y) x is = let same : x ≡ y = cc in ap (λ z. Ok z) (sym same)
was_ok (Err e) x is = absurd cc

pub caused_ok : {T E : Type 0} (cause : E → CommitFault) (P : T → Type 0) (r : Result T E) → IfOk r P → IfOk (caused cause r) P
caused_ok cause P (Ok x) h = h
caused_ok cause P (Err e) h = tt

-- ---- the device of the rows

module _ {D : Type 0} (state : D → DiskState) (images : D → ℕ → List ℕ → Type 0) (only_now : (disk : D) (image : List ℕ) → images disk (state disk).moment image → IsImage (state disk).pending image) where
  row_leaves : (dev : RowDev D) → vaults.IsLookedAt state (rows.vault_of dev) → IsSound state (rows.vault_of dev) → rows.Leaves state images dev dev (λ here. here ≡ rows.held state dev)
  row_leaves dev looked sound = runs_weaker state images (rows.vault_of dev) (rows.vault_of dev) (λ l. l ≡ payloads state (rows.vault_of dev)) (λ l. data_of l ≡ rows.held state dev) (looked_leaves state images only_now (rows.vault_of dev) looked sound) (λ l is. ap data_of is)

  -- nothing was read
  pub reads_none : {T : Type 0} (dev : RowDev D) (x : T) → rows.IsLookedAt state dev → ReadsRows state images dev dev (Ok x)
  reads_none dev x looked = record {
    stays = λ n. itself state _ _ dev.inner;
    counted = λ n. refl;
    disk = λ is. absurd cc;
    any_moment = λ sound. row_leaves dev looked.vault sound;
    only = tt;
    fuse = record { stops = refl; is_armed = refl; passes = refl; pick = refl };
  }

  pub reads_row : {T : Type 0} (old new : RowDev D) (r : Result T RowFault) → IsUp (rows.vault_of old) → rows.Gets state images old new r → (IsErrOf r row_faults.NoRow → ⊥) → ReadsRows state images old new r
  reads_row old new (Ok x) up k found = record {
    stays = λ n. k.stays;
    counted = λ n. k.refuses.cause;
    disk = λ is. absurd cc;
    any_moment = λ sound. k.any_moment up sound;
    only = tt;
    fuse = k.fuse;
  }
  reads_row old new (Err row_faults.NoRow) up k found = absurd (found refl)
  reads_row old new (Err row_faults.Disk) up k found = record {
    stays = λ n. absurd (n refl);
    counted = λ n. absurd (n refl);
    disk = λ is. (k.refuses.disk refl, k.refuses.cause.0 refl);
    any_moment = λ sound. k.any_moment up sound;
    only = inl refl;
    fuse = k.fuse;
  }
  reads_row old new (Err row_faults.Memory) up k found = record {
    stays = λ n. k.memory refl;
    counted = λ n. k.refuses.cause.1 (λ is. cc);
    disk = λ is. absurd cc;
    any_moment = λ sound. k.any_moment up sound;
    only = inr refl;
    fuse = k.fuse;
  }
  reads_row old new (Err row_faults.Down) up k found = let down : IsDown (rows.vault_of old) = k.refuses.down.0 refl in absurd cc

  -- no disk was read: room was added, or nothing was done
  pub reads_still : {T : Type 0} (old new : RowDev D) (r : Result T RowFault) → rows.IsLookedAt state old → rows.Stays state old new → rows.vault_of new ≡ rows.vault_of old
      → (IsErrOf r row_faults.Disk → ⊥) → IfErr r (λ e. (e ≡ row_faults.Disk) ⊎ (e ≡ row_faults.Memory)) → ReadsRows state images old new r
  reads_still old new r looked stays vault not_disk only = record {
    stays = λ n. stays;
    counted = λ n. ap (λ v. faults state v) vault;
    disk = λ is. absurd (not_disk is);
    any_moment = λ sound. subst (λ v. vaults.Leaves state images (rows.vault_of old) v (λ l. data_of l ≡ rows.held state old)) (sym vault) (row_leaves old looked.vault sound);
    only = only;
    fuse = record {
      stops = ap (λ v. stops state v) vault;
      is_armed = ap (λ v. (state (disk_of v)).is_armed) vault;
      passes = ap (λ v. (state (disk_of v)).passes) vault;
      pick = ap (λ v. (state (disk_of v)).pick) vault;
    };
  }

  -- what is kept in memory was asked
  pub reads_listed : {T : Type 0} (old new : RowDev D) (r : Result T RowFault) → rows.IsLookedAt state old → rows.Stays state old new → rows.vault_of new ≡ rows.vault_of old
      → (IsErrOf r row_faults.NoRow → ⊥) → (IsErrOf r row_faults.Disk → ⊥) → (IsErrOf r row_faults.Down → IsDown (rows.vault_of old)) → ReadsRows state images old new r
  reads_listed old new r looked stays vault not_row not_disk down = reads_still old new r looked stays vault not_disk (listed_only r not_row not_disk (λ is. let d = down is in let up = looked.vault.up in absurd cc))

  module _ {T S : Type 0} (old new : RowDev D) where
    pub reads_err : (e : RowFault) → ReadsRows {T = S} state images old new (Err e) → ReadsRows {T = T} state images old new (Err e)
    reads_err e k = record {
      stays = λ n. k.stays (λ is. let same : e ≡ row_faults.Disk = cc in n (ap (λ (x : RowFault). Err x) same));
      counted = λ n. k.counted (λ is. let same : e ≡ row_faults.Disk = cc in n (ap (λ (x : RowFault). Err x) same));
      disk = λ is. let same : e ≡ row_faults.Disk = cc in k.disk (ap (λ (x : RowFault). Err x) same);
      any_moment = k.any_moment;
      only = k.only;
      fuse = k.fuse;
    }

    -- memory was refused behind it
    pub reads_short : (x : S) → ReadsRows state images old new (Ok x) → ReadsRows {T = T} state images old new (Err row_faults.Memory)
    reads_short x k = record {
      stays = λ n. k.stays (λ is. cc);
      counted = λ n. k.counted (λ is. cc);
      disk = λ is. absurd cc;
      any_moment = k.any_moment;
      only = inr refl;
      fuse = k.fuse;
    }

    pub reads_named : (x : S) (y : T) → ReadsRows state images old new (Ok x) → ReadsRows state images old new (Ok y)
    reads_named x y k = record {
      stays = λ n. k.stays (λ is. cc);
      counted = λ n. k.counted (λ is. cc);
      disk = λ is. absurd cc;
      any_moment = k.any_moment;
      only = tt;
      fuse = k.fuse;
    }

  -- one read, and then others
  pub reads_then : {T S : Type 0} (old mid new : RowDev D) (x : S) (r : Result T RowFault) → ReadsRows state images old mid (Ok x) → ReadsRows state images mid new r → ReadsRows state images old new r
  reads_then old mid new x r a b = record {
    stays = λ n. both_stay state _ _ old.inner mid.inner new.inner first (b.stays n);
    counted = λ n. b.counted n ∙ counted;
    disk = λ is. let d = b.disk is in (d.0, omega (arith, d.1, counted));
    any_moment = λ sound. runs_then state images (rows.vault_of old) (rows.vault_of mid) (rows.vault_of new) (λ l. data_of l ≡ rows.held state old) (λ l. data_of l ≡ rows.held state mid) (λ l. data_of l ≡ rows.held state old)
        (a.any_moment sound) (b.any_moment (first.sound sound)) (λ l is. is) (λ l is. is ∙ ap data_of first.same);
    only = b.only;
    fuse = record {
      stops = b.fuse.stops ∙ a.fuse.stops;
      is_armed = b.fuse.is_armed ∙ a.fuse.is_armed;
      passes = b.fuse.passes ∙ a.fuse.passes;
      pick = b.fuse.pick ∙ a.fuse.pick;
    };
  }
    where
      first : rows.Stays state old mid
      first = a.stays (λ is. cc)

      counted : faults state (rows.vault_of mid) ≡ faults state (rows.vault_of old)
      counted = a.counted (λ is. cc)

  -- ---- the three devices

  chunk_leaves : (dev : ChunkDev D) → vaults.IsLookedAt state (chunks.vault_of dev) → IsSound state (chunks.vault_of dev) → chunks.Leaves state images dev dev (λ here. here ≡ chunks.chunks state dev)
  chunk_leaves dev looked sound = runs_weaker state images (chunks.vault_of dev) (chunks.vault_of dev) (λ l. l ≡ payloads state (chunks.vault_of dev)) (λ l. chunks_of l ≡ chunks.chunks state dev) (looked_leaves state images only_now (chunks.vault_of dev) looked sound) (λ l is. ap chunks_of is)

  log_leaves : (table : TableDevs D) → vaults.IsLookedAt state (logs.vault_of table.log) → IsSound state (logs.vault_of table.log) → logs.Leaves state images table.log table.log (λ here. here ≡ logs.entry_open state table.log)
  log_leaves table looked sound = runs_weaker state images (logs.vault_of table.log) (logs.vault_of table.log) (λ l. l ≡ payloads state (logs.vault_of table.log)) (λ l. pending_of l ≡ logs.entry_open state table.log) (looked_leaves state images only_now (logs.vault_of table.log) looked sound) (λ l is. ap pending_of is)

  abbrev OnlyThese : {T : Type 0} → Result T CommitFault → Type 0
  OnlyThese result = IfErr result (λ e. (e ≡ Disk) ⊎ (e ≡ Memory))

  module _ (old : TableDevs D) where
    -- a device is down
    pub asks_down : {T : Type 0} → IsOneDown old → Asks {T = T} state images old old (Err Down)
    asks_down down = record {
      stay = λ n. record { chunks = itself state _ _ old.chunks.inner; rows = itself state _ _ old.rows.inner; log = itself state _ _ old.log.inner };
      same = λ n. refl;
      counted = λ n. refl;
      disk = λ is. absurd cc;
      down = (λ is. down, λ is. refl);
      unchanged = λ is. refl;
      only = inr (inl refl);
      any_moment = λ up. absurd (up_or_down old up down);
      agenda = refl;
      leave = λ up. absurd (up_or_down old up down);
      fuse = keeps_same state old old refl refl refl;
    }

    module _ (up : AreUp old) (looked : AreLookedAt state old) where
      -- what the devices do is known one by one
      pub asks : {T : Type 0} (new : TableDevs D) (r : Result T CommitFault) → (IsNotDisk r → AllStay state old new) → (IsNotDisk r → all_faults state new ≡ all_faults state old)
          → (IsErrOf r Disk → (all_faults state old < all_faults state new) × IsOneDown new)
          → OnlyThese r
          → (AreSound state old → chunks.Leaves state images old.chunks new.chunks (λ here. here ≡ chunks.chunks state old.chunks))
          → (AreSound state old → rows.Leaves state images old.rows new.rows (λ here. here ≡ rows.held state old.rows))
          → (AreSound state old → logs.Leaves state images old.log new.log (λ here. here ≡ logs.entry_open state old.log))
          → writes_of new ≡ writes_of old → KeepsUnset state old new → Asks state images old new r
      asks new r stay counted disk only cs rs ls agenda fuse = record {
        stay = stay;
        same = λ n.
            let s = stay n in
            let c : chunks.chunks state new.chunks ≡ chunks.chunks state old.chunks = ap chunks_of s.chunks.same in
            let h : rows.held state new.rows ≡ rows.held state old.rows = ap data_of s.rows.same in
            let l : logs.entry_open state new.log ≡ logs.entry_open state old.log = ap pending_of s.log.same in
            cc;
        counted = counted;
        disk = disk;
        down = (λ is. absurd (not_down r only is), λ down. absurd (up_or_down old up down));
        unchanged = λ is. absurd (not_down r only is);
        only = wider r only;
        any_moment = λ up sound. all_same state images only_now old new (cs sound) (rs sound) (ls sound);
        agenda = agenda;
        leave = λ up sound. record { chunks = cs sound; rows = rs sound; log = ls sound };
        fuse = fuse;
      }
        where
          not_down : {T : Type 0} (r : Result T CommitFault) → OnlyThese r → IsErrOf r Down → ⊥
          not_down (Ok x) only is = cc
          not_down (Err e) only is = let same : e ≡ Down = cc in ⊎_elim (λ x. cc) (λ x. cc) only

          wider : {T : Type 0} (r : Result T CommitFault) → OnlyThese r → IfErr r (λ e. (e ≡ Disk) ⊎ ((e ≡ Down) ⊎ (e ≡ Memory)))
          wider (Ok x) only = tt
          wider (Err e) only = ⊎_elim (λ x. inl x) (λ x. inr (inr x)) only

      -- nothing was done
      pub asks_none : {T : Type 0} (r : Result T CommitFault) → IsNotDisk r → OnlyThese r → Asks state images old old r
      asks_none r not_disk only = asks old r
          (λ n. record { chunks = itself state _ _ old.chunks.inner; rows = itself state _ _ old.rows.inner; log = itself state _ _ old.log.inner })
          (λ n. refl) (λ is. absurd (not_disk is)) only
          (λ s. chunk_leaves old.chunks looked.chunks.vault s.chunks) (λ s. row_leaves old.rows looked.rows.vault s.rows) (λ s. log_leaves old looked.log.vault s.log) refl (keeps_same state old old refl refl refl)

      -- rows were read, and no name was looked for at another device's disk
      pub asks_rows : {T S : Type 0} (dev : RowDev D) (r : Result S RowFault) (result : Result T CommitFault) → ReadsRows state images old.rows dev r
          → (IsErrOf result Disk → IsErrOf r row_faults.Disk) → (IsErrOf r row_faults.Disk → IsErrOf result Disk) → OnlyThese result
          → Asks state images old (record old { rows = dev }) result
      asks_rows dev r result k to back only =
          let new : TableDevs D = record old { rows = dev } in
          asks new result
          (λ n. record { chunks = itself state _ _ old.chunks.inner; rows = k.stays (λ is. n (back is)); log = itself state _ _ old.log.inner })
          (λ n. omega (arith, k.counted (λ is. n (back is))))
          (λ is. let d = k.disk (to is) in (omega (arith, d.1), inr (inl d.0)))
          only
          (λ s. chunk_leaves old.chunks looked.chunks.vault s.chunks) (λ s. k.any_moment s.rows) (λ s. log_leaves old looked.log.vault s.log) refl (row_same state old dev k.fuse)

      -- rows couldn't be read
      pub asks_caused : {T S : Type 0} (dev : RowDev D) (r : Result S RowFault) → ReadsRows state images old.rows dev r → (e : CommitFault) → caused row_cause r ≡ Err e → Asks {T = T} state images old (record old { rows = dev }) (Err e)
      asks_caused dev (Ok x) k e is = absurd cc
      asks_caused dev (Err row_faults.NoRow) k e is = absurd (⊎_elim (λ x. cc) (λ x. cc) k.only)
      asks_caused dev (Err row_faults.Down) k e is = absurd (⊎_elim (λ x. cc) (λ x. cc) k.only)
      asks_caused {T} dev (Err row_faults.Disk) k e is =
          let same : Disk ≡ e = cc in
          let r : Asks {T = T} state images old (record old { rows = dev }) (Err Disk) = asks_rows dev (Err row_faults.Disk) (Err Disk) k (λ x. refl) (λ x. refl) (inl refl) in
          subst (λ (f : CommitFault). Asks {T = T} state images old (record old { rows = dev }) (Err f)) same r
      asks_caused {T} dev (Err row_faults.Memory) k e is =
          let same : Memory ≡ e = cc in
          let r : Asks {T = T} state images old (record old { rows = dev }) (Err Memory) = asks_rows dev (Err row_faults.Memory) (Err Memory) k (λ x. cc) (λ x. cc) (inr refl) in
          subst (λ (f : CommitFault). Asks {T = T} state images old (record old { rows = dev }) (Err f)) same r

      -- what is kept in memory of the rows was asked
      pub asks_listed : {T : Type 0} (dev : RowDev D) (r : Result T RowFault) → ReadsRows state images old.rows dev r → Asks state images old (record old { rows = dev }) (caused row_cause r)
      asks_listed dev (Ok x) k = asks_rows dev (Ok x) (Ok x) k (λ is. cc) (λ is. cc) tt
      asks_listed dev (Err e) k = asks_caused dev (Err e) k (row_cause e) refl

      -- rows were read, and names of chunks were found
      pub asks_both : {T S : Type 0} (new : TableDevs D) (x : S) (result : Result T CommitFault) → ReadsRows state images old.rows new.rows (Ok x)
          → chunks.Stays state old.chunks new.chunks → chunks.vault_of new.chunks ≡ chunks.vault_of old.chunks → new.log ≡ old.log → writes_of new ≡ writes_of old
          → IsNotDisk result → OnlyThese result → Asks state images old new result
      asks_both new x result k stays vault log agenda not_disk only =
          asks new result
          (λ n. record { chunks = stays; rows = k.stays (λ is. cc); log = rw log (itself state _ _ old.log.inner) })
          (λ n.
          let c : faults state (chunks.vault_of new.chunks) ≡ faults state (chunks.vault_of old.chunks) = ap (λ v. faults state v) vault in
          let l : faults state (logs.vault_of new.log) ≡ faults state (logs.vault_of old.log) = ap (λ d. faults state (logs.vault_of d)) log in
          omega (arith, k.counted (λ is. cc)))
          (λ is. absurd (not_disk is))
          only
          (λ s. subst (λ v. vaults.Leaves state images (chunks.vault_of old.chunks) v (λ l. chunks_of l ≡ chunks.chunks state old.chunks)) (sym vault) (chunk_leaves old.chunks looked.chunks.vault s.chunks))
          (λ s. k.any_moment s.rows)
          (λ s. rw log (log_leaves old looked.log.vault s.log))
          agenda
          (let read : TableDevs D = record old { rows = new.rows } in
          keeps_then state old read new (row_same state old new.rows k.fuse) (keeps_vaults state read new vault refl (ap logs.vault_of log)))

      -- a row was looked for
      pub asks_row : (dev : RowDev D) (r : Result StoredRow RowFault) → rows.Gets state images old.rows dev r → (IsErrOf r row_faults.NoRow → dev ≡ old.rows) → Asks state images old (record old { rows = dev }) (found_of r)
      asks_row dev (Ok x) k same = asks_rows dev (Ok x) (Ok (Some x)) (reads_row old.rows dev (Ok x) up.rows k (λ is. cc)) (λ is. cc) (λ is. cc) tt
      asks_row dev (Err row_faults.NoRow) k same =
          let none : Option StoredRow = None in
          subst (λ (d : RowDev D). Asks state images old (record old { rows = d }) (Ok none)) (sym (same refl)) (asks_none {T = Option StoredRow} (Ok None) (λ is. cc) tt)
      asks_row dev (Err row_faults.Disk) k same = asks_rows dev (Err row_faults.Disk) (Err Disk) (reads_row old.rows dev (Err row_faults.Disk) up.rows k (λ is. cc)) (λ is. refl) (λ is. refl) (inl refl)
      asks_row dev (Err row_faults.Memory) k same = asks_rows dev (Err row_faults.Memory) (Err Memory) (reads_row old.rows dev (Err row_faults.Memory) up.rows k (λ is. cc)) (λ is. cc) (λ is. cc) (inr refl)
      asks_row dev (Err row_faults.Down) k same = let down : IsDown (rows.vault_of old.rows) = k.refuses.down.0 refl in let is = up.rows in absurd cc

      chunk_asks : {T : Type 0} (dev : ChunkDev D) (result : Result T CommitFault) → (IsNotDisk result → chunks.Stays state old.chunks dev)
          → (IsNotDisk result → faults state (chunks.vault_of dev) ≡ faults state (chunks.vault_of old.chunks))
          → (IsErrOf result Disk → IsDown (chunks.vault_of dev) × (faults state (chunks.vault_of old.chunks) < faults state (chunks.vault_of dev)))
          → (AreSound state old → chunks.Leaves state images old.chunks dev (λ here. here ≡ chunks.chunks state old.chunks)) → OnlyThese result
          → SameFuse state (chunks.vault_of old.chunks) (chunks.vault_of dev)
          → Asks state images old (record old { chunks = dev }) result
      chunk_asks dev result stays counted disk leaves only fuse =
          let new : TableDevs D = record old { chunks = dev } in
          asks new result
          (λ n. record { chunks = stays n; rows = itself state _ _ old.rows.inner; log = itself state _ _ old.log.inner })
          (λ n. omega (arith, counted n))
          (λ is. let d = disk is in (omega (arith, d.1), inl d.0))
          only leaves (λ s. row_leaves old.rows looked.rows.vault s.rows) (λ s. log_leaves old looked.log.vault s.log) refl (chunk_same state old dev fuse)

      -- a chunk was looked for
      pub asks_chunk : (dev : ChunkDev D) (r : Result (List ℕ) ChunkFault) → chunks.Gets state images old.chunks dev r → (IsErrOf r chunk_faults.Absent → dev ≡ old.chunks)
          → Asks state images old (record old { chunks = dev }) (chunk_found r)
      asks_chunk dev (Ok x) k same = chunk_asks dev (Ok (Some x)) (λ n. k.stays) (λ n. k.refuses.cause) (λ is. cc) (λ s. k.any_moment up.chunks s.chunks) tt k.fuse
      asks_chunk dev (Err chunk_faults.Absent) k same =
          let none : Option (List ℕ) = None in
          subst (λ (d : ChunkDev D). Asks state images old (record old { chunks = d }) (Ok none)) (sym (same refl)) (asks_none {T = Option (List ℕ)} (Ok None) (λ is. cc) tt)
      asks_chunk dev (Err chunk_faults.Disk) k same = chunk_asks dev (Err Disk) (λ n. absurd (n refl)) (λ n. absurd (n refl)) (λ is. (k.refuses.disk refl, k.refuses.cause.0 refl)) (λ s. k.any_moment up.chunks s.chunks) (inl refl) k.fuse
      asks_chunk dev (Err chunk_faults.Memory) k same = chunk_asks dev (Err Memory) (λ n. k.memory refl) (λ n. k.refuses.cause.1 (λ is. cc)) (λ is. cc) (λ s. k.any_moment up.chunks s.chunks) (inr refl) k.fuse
      asks_chunk dev (Err chunk_faults.Down) k same = let down : IsDown (chunks.vault_of old.chunks) = k.refuses.down.0 refl in let is = up.chunks in absurd cc

  -- ---- several calls

  -- one that was answered, and then another
  pub asks_then : {T S : Type 0} (old mid new : TableDevs D) (x : S) (r : Result T CommitFault) → AreUp old → Asks {T = S} state images old mid (Ok x) → Asks state images mid new r → Asks state images old new r
  asks_then old mid new x r up a b = record {
    stay = λ n.
        let s = b.stay n in
        record {
          chunks = both_stay state _ _ old.chunks.inner mid.chunks.inner new.chunks.inner first.chunks s.chunks;
          rows = both_stay state _ _ old.rows.inner mid.rows.inner new.rows.inner first.rows s.rows;
          log = both_stay state _ _ old.log.inner mid.log.inner new.log.inner first.log s.log;
        };
    same = λ n. b.same n ∙ before;
    counted = λ n. b.counted n ∙ counted;
    disk = λ is. let d = b.disk is in (omega (arith, d.0, counted), d.1);
    down = (λ is. absurd (up_or_down mid up_mid (b.down.0 is)), λ down. absurd (up_or_down old up down));
    unchanged = λ is. absurd (up_or_down mid up_mid (b.down.0 is));
    only = b.only;
    any_moment = λ up sound. let l = leave up sound in all_same state images only_now old new l.chunks l.rows l.log;
    agenda = b.agenda ∙ a.agenda;
    leave = leave;
    fuse = keeps_then state old mid new a.fuse b.fuse;
  }
    where
      first : AllStay state old mid
      first = a.stay (λ is. cc)

      before : devs state mid ≡ devs state old
      before = a.same (λ is. cc)

      counted : all_faults state mid ≡ all_faults state old
      counted = a.counted (λ is. cc)

      up_mid : AreUp mid
      up_mid = record { chunks = first.chunks.down ∙ up.chunks; rows = first.rows.down ∙ up.rows; log = first.log.down ∙ up.log }

      leave : AreUp old → AreSound state old → AllLeave state images old new
      leave up sound =
          all_then state images old mid new before (a.leave up sound) (b.leave up_mid (record { chunks = first.chunks.sound sound.chunks; rows = first.rows.sound sound.rows; log = first.log.sound sound.log }))

  -- the same with another value, with the same fault, and where memory was refused behind it
  module _ {T S : Type 0} (old new : TableDevs D) where
    pub asks_named : (x : S) (y : T) → Asks {T = S} state images old new (Ok x) → Asks {T = T} state images old new (Ok y)
    asks_named x y a = record {
      stay = λ n. a.stay (λ is. cc);
      same = λ n. a.same (λ is. cc);
      counted = λ n. a.counted (λ is. cc);
      disk = λ is. absurd cc;
      down = (λ is. absurd cc, λ down. let no_ = a.down.1 down in absurd cc);
      unchanged = λ is. absurd cc;
      only = tt;
      any_moment = a.any_moment;
      agenda = a.agenda;
      leave = a.leave;
      fuse = a.fuse;
    }

    pub asks_short : (x : S) → Asks {T = S} state images old new (Ok x) → Asks {T = T} state images old new (Err Memory)
    asks_short x a = record {
      stay = λ n. a.stay (λ is. cc);
      same = λ n. a.same (λ is. cc);
      counted = λ n. a.counted (λ is. cc);
      disk = λ is. absurd cc;
      down = (λ is. absurd cc, λ down. let no_ = a.down.1 down in absurd cc);
      unchanged = λ is. absurd cc;
      only = inr (inr refl);
      any_moment = a.any_moment;
      agenda = a.agenda;
      leave = a.leave;
      fuse = a.fuse;
    }

    pub asks_err : (e : CommitFault) → Asks {T = S} state images old new (Err e) → Asks {T = T} state images old new (Err e)
    asks_err e a = record {
      stay = λ n. a.stay (λ is. n (other is));
      same = λ n. a.same (λ is. n (other is));
      counted = λ n. a.counted (λ is. n (other is));
      disk = λ is. let same : e ≡ Disk = cc in a.disk (ap (λ (x : CommitFault). Err x) same);
      down = (λ is. let same : e ≡ Down = cc in a.down.0 (ap (λ (x : CommitFault). Err x) same), λ down. let is = a.down.1 down in let same : e ≡ Down = cc in ap (λ (x : CommitFault). Err x) same);
      unchanged = λ is. let same : e ≡ Down = cc in a.unchanged (ap (λ (x : CommitFault). Err x) same);
      only = a.only;
      any_moment = a.any_moment;
      agenda = a.agenda;
      leave = a.leave;
      fuse = a.fuse;
    }
      where
        other : IsErrOf {T = S} {E = CommitFault} (Err e) Disk → IsErrOf {T = T} {E = CommitFault} (Err e) Disk
        other is = let same : e ≡ Disk = cc in ap (λ (x : CommitFault). Err x) same
