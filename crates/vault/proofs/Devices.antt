-- From what a vault promises of its payloads to what a device promises of what it reads them as.
use Rattle.std.proofs.Common.{◌≡◌, inl, inr, ⊎_elim, ℕ, ◌+◌, ◌≤◌, List, [], ◌∷◌, ◌++◌, length, Result, Ok, Err, refl, sym, ◌∙◌, ap, subst}
use Rattle.std.specs.Prelude.{OnOk, OnErr, IsErrOf}
use Rattle.std.specs.Vec.{vec_capacity}
use Rattle.disk_trait.specs.Image.{IsImage}
use Rattle.disk_trait.specs.Calls.{DiskState, IsCounted, Elapses}
use Rattle.disk_trait.specs.Calls as disks
use Rattle.vault.specs.declared.fault.VaultFault.{VaultFault}
use Rattle.vault.specs.declared.fault.VaultFault.TheVariants.{Disk, Down, Memory}
use Rattle.vault.specs.declared.vault.Vault.{Vault}
use Rattle.vault.specs.declared.folded.Folded.{Folded}
use Rattle.vault.specs.Standing.{payloads, faults, IsDown, IsUp, IsSound, IsSynced, Burns}
use Rattle.vault.specs.Standing as vaults
use Rattle.vault.specs.Calls.{IsEither, AreApart, Refuses, RefusesOnly, Views, Restarts, Formats, Looks, OpensWrite, Reserves, Appends, Reads, answer_as}
use Rattle.vault.proofs.Uppers.{runs_weaker, restarted, restarted_leaves}
use Rattle.vault.proofs.Rooms.{room_written}
use Rattle.vault.proofs.Stayings.{same_fuse, looked_leaves}

abbrev err_at : (T : Type 0) {E : Type 0} → E → Result T E
err_at T e = Err e

abbrev ok_at : {T E : Type 0} → T → Result T E
ok_at x = Ok x

abbrev done : Result (Unit {0}) VaultFault
done = Ok tt

-- ---- answers under other names

module _ {E : Type 0} (fault : VaultFault → E) (apart : AreApart fault) where
  one_fault : (e f : VaultFault) → fault e ≡ fault f → e ≡ f
  one_fault Disk Disk same = refl
  one_fault Disk Down same = absurd (apart.down same)
  one_fault Disk Memory same = absurd (apart.disk (sym same))
  one_fault Down Disk same = absurd (apart.down (sym same))
  one_fault Down Down same = refl
  one_fault Down Memory same = absurd (apart.memory (sym same))
  one_fault Memory Disk same = absurd (apart.disk same)
  one_fault Memory Down same = absurd (apart.memory same)
  one_fault Memory Memory same = refl

  module _ {T : Type 0} where
    ok_as : (r : Result T VaultFault) (P : Type 0) → OnOk r P → OnOk (answer_as fault r) P
    ok_as (Ok x) P h = h
    ok_as (Err e) P h = tt

    err_as : (r : Result T VaultFault) (P : Type 0) → OnErr r P → OnErr (answer_as fault r) P
    err_as (Ok x) P h = tt
    err_as (Err e) P h = h

    was_err : (r : Result T VaultFault) (f : VaultFault) → IsErrOf (answer_as fault r) (fault f) → IsErrOf r f
    was_err (Ok x) f is = absurd cc
    was_err (Err e) f is = let same : fault e ≡ fault f = cc in ap (λ (g : VaultFault). Err g) (one_fault e f same)

    is_err : (r : Result T VaultFault) (f : VaultFault) → IsErrOf r f → IsErrOf (answer_as fault r) (fault f)
    is_err (Ok x) f is = absurd cc
    is_err (Err e) f is = let same : e ≡ f = cc in ap (λ (g : VaultFault). Err (fault g)) same

    counted_as : (before after : ℕ) (r : Result T VaultFault) → IsCounted Disk before after r → IsCounted (fault Disk) before after (answer_as fault r)
    counted_as before after (Ok x) h = h
    counted_as before after (Err e) h = (λ same. h.0 (one_fault e Disk same), λ other. h.1 (λ same. other (ap fault same)))

    burns_as : (calls : ℕ) (old new : DiskState) (r : Result T VaultFault) → disks.Burns calls old new r → disks.Burns calls old new (answer_as fault r)
    burns_as calls old new r b = record {
      later = b.later;
      one = b.one;
      unarmed = b.unarmed;
      passed = b.passed;
      passes_left = λ armed le. ok_as r _ (b.passes_left armed le);
      stopped = λ armed lt. ok_as r _ (b.stopped armed lt);
    }

    only_as : (r : Result T VaultFault) → RefusesOnly fault (answer_as fault r)
    only_as (Ok x) = tt
    only_as (Err e) = (e, refl)

    refuses_as : {D X Y : Type 0} (state : D → DiskState) (old new : Vault D) (b a : Y) (before after : X) (r : Result T VaultFault) → (a ≡ b → after ≡ before)
        → Refuses state (λ (f : VaultFault). f) old new b a r → Refuses state fault old new before after (answer_as fault r)
    refuses_as state old new b a before after r whole h = record {
      down = (λ is. h.down.0 (was_err r Down is), λ is. is_err r Down (h.down.1 is));
      unchanged = λ is. whole (h.unchanged (was_err r Down is));
      disk = λ is. h.disk (was_err r Disk is);
      cause = counted_as (faults state old) (faults state new) r h.cause;
    }

-- an append of what was written into the buffer before: what is up can't be refused as down
module _ {D X Y E : Type 0} (state : D → DiskState) (fault : VaultFault → E) (apart : AreApart fault) (old new : Vault D) (b a : Y) (before after : X) (up : IsUp old) where
  pub refuses_written : {T : Type 0} (r : Result T VaultFault) → Refuses state (λ (f : VaultFault). f) old new b a r → Refuses state fault old new before after (answer_as fault r)
  refuses_written r h = record {
    down = (λ is. h.down.0 (was_err fault apart r Down is), λ is. absurd cc);
    unchanged = λ is. let at : IsDown old = h.down.0 (was_err fault apart r Down is) in absurd cc;
    disk = λ is. h.disk (was_err fault apart r Disk is);
    cause = counted_as fault apart (faults state old) (faults state new) r h.cause;
  }

ok_map : {T P Q : Type 0} (r : Result T VaultFault) → (P → Q) → OnOk r P → OnOk r Q
ok_map (Ok x) to h = to h
ok_map (Err e) to h = tt

-- ---- the calls

abbrev plain : List (List ℕ) → List (List ℕ)
plain list = list

abbrev same_fault : VaultFault → VaultFault
same_fault f = f

module _ {D F V : Type 0} (state : D → DiskState) (images : D → ℕ → List ℕ → Type 0) (fits : F → List (List ℕ) → Type 0) (has_spare : F → ℕ → ℕ → Type 0) (view : List (List ℕ) → V) where
  -- lists that are all this one have its view
  views_as : (old new : Folded D F) (list : List (List ℕ)) → Views state images plain old new (λ l. l ≡ list) → Views state images view old new (λ here. here ≡ view list)
  views_as old new list run = runs_weaker state images old.vault new.vault (λ l. l ≡ list) (λ l. view l ≡ view list) run (λ l is. ap view is)

  module _ {E : Type 0} (fault : VaultFault → E) (apart : AreApart fault) where
    module _ {X : Type 0} (old new : Folded D F) (before after : X) (whole : new ≡ old → after ≡ before) where
      pub formats_as : (r : Result (Unit {0}) VaultFault) → Formats state images fits has_spare plain same_fault old new old new r
          → Formats state images fits has_spare view fault old new before after (answer_as fault r)
      formats_as r k = record {
        opened = ok_as fault apart r _ k.opened;
        empty = ok_as fault apart r _ (ok_map r (λ is. ap view is) k.empty);
        durable = ok_as fault apart r _ (ok_map r (views_as new new []) k.durable);
        blank = λ up blank. views_as old new [] (k.blank up blank);
        room = ok_as fault apart r _ k.room;
        memory = λ is. k.memory (was_err fault apart r Memory is);
        fuse = λ up. burns_as fault apart 3 (state old.vault.disk) (state new.vault.disk) r (k.fuse up);
        refuses = refuses_as fault apart state old.vault new.vault old new before after r whole k.refuses;
        only = only_as fault apart r;
      }

      pub looks_as : (r : Result (Unit {0}) VaultFault) → Looks state images fits has_spare plain same_fault old new old new r
          → Looks state images fits has_spare view fault old new before after (answer_as fault r)
      looks_as r k = record {
        looked = ok_as fault apart r _ k.looked;
        same = ok_as fault apart r _ (ok_map r (λ is. ap view is) k.same);
        sound = ok_as fault apart r _ k.sound;
        room = ok_as fault apart r _ k.room;
        any_moment = λ up sound. views_as old new (payloads state old.vault) (k.any_moment up sound);
        memory = λ is. k.memory (was_err fault apart r Memory is);
        memory_same = λ is. ap view (k.memory_same (was_err fault apart r Memory is));
        memory_synced = λ is. k.memory_synced (was_err fault apart r Memory is);
        memory_up = λ is. k.memory_up (was_err fault apart r Memory is);
        memory_sound = λ is. k.memory_sound (was_err fault apart r Memory is);
        fuse = k.fuse;
        refuses = refuses_as fault apart state old.vault new.vault old new before after r whole k.refuses;
        only = only_as fault apart r;
      }

      pub opens_as : (r : Result (Unit {0}) VaultFault) → OpensWrite state images fits has_spare plain same_fault old new old new r
          → OpensWrite state images fits has_spare view fault old new before after (answer_as fault r)
      opens_as r k = record {
        opened = ok_as fault apart r _ k.opened;
        same = ok_as fault apart r _ (ok_map r (λ is. ap view is) k.same);
        durable = ok_as fault apart r _ (ok_map r (views_as new new (payloads state old.vault)) k.durable);
        room = ok_as fault apart r _ k.room;
        any_moment = λ up sound. views_as old new (payloads state old.vault) (k.any_moment up sound);
        failed = err_as fault apart r _ k.failed;
        no_memory = λ is. k.no_memory (was_err fault apart r Memory is);
        fuse = λ up. burns_as fault apart 4 (state old.vault.disk) (state new.vault.disk) r (k.fuse up);
        refuses = refuses_as fault apart state old.vault new.vault old new before after r whole k.refuses;
        only = only_as fault apart r;
      }

      pub reserves_as : (appends bytes : ℕ) (r : Result (Unit {0}) VaultFault) → Reserves state images fits has_spare plain same_fault appends bytes old new old new r
          → Reserves state images fits has_spare view fault appends bytes old new before after (answer_as fault r)
      reserves_as appends bytes r k = record {
        room = ok_as fault apart r _ k.room;
        stays = ok_as fault apart r _ k.stays;
        any_moment = λ up sound. views_as old new (payloads state old.vault) (k.any_moment up sound);
        memory = λ is. k.memory (was_err fault apart r Memory is);
        fuse = k.fuse;
        refuses = refuses_as fault apart state old.vault new.vault old new before after r whole k.refuses;
        only = only_as fault apart r;
      }

    -- an append of what was written into the buffer before
    module _ {X : Type 0} (old mid new : Folded D F) (before after : X) (vault : mid.vault ≡ old.vault) (memory : mid.memory ≡ old.memory) (capacity : vec_capacity old.payload ≤ vec_capacity mid.payload) (up : IsUp old.vault) where
      pub appends_as : (size : ℕ) (added : V) (r : Result (Unit {0}) VaultFault) → length mid.payload.items ≡ size → view (payloads state old.vault ++ mid.payload.items ∷ []) ≡ added
          → Appends state images fits has_spare plain same_fault (length mid.payload.items) (payloads state mid.vault ++ mid.payload.items ∷ []) mid new mid new r
          → Appends state images fits has_spare view fault size added old new before after (answer_as fault r)
      appends_as size added r size_is grown k =
          let list : payloads state mid.vault ++ mid.payload.items ∷ [] ≡ payloads state old.vault ++ mid.payload.items ∷ [] = ap (λ (v : Vault D). payloads state v ++ mid.payload.items ∷ []) vault in
          let grown_mid : view (payloads state mid.vault ++ mid.payload.items ∷ []) ≡ added = ap view list ∙ grown in
          let up_mid : IsUp mid.vault = rw vault up in
          record {
            opened = ok_as fault apart r _ k.opened;
            put = ok_as fault apart r _ (ok_map r (λ is. ap view is ∙ grown_mid) k.put);
            durable = ok_as fault apart r _ (ok_map r (λ run. runs_weaker state images new.vault new.vault (λ l. l ≡ payloads state mid.vault ++ mid.payload.items ∷ []) (λ l. view l ≡ added) run (λ l is. ap view is ∙ grown_mid)) k.durable);
            room = ok_as fault apart r _ (ok_map r (λ to o a more h. to o a more (room_written state has_spare old mid vault memory capacity o (a + 1) more size (length mid.payload.items) size_is h)) k.room);
            any_moment = λ _. subst (λ (v : Vault D). vaults.Leaves state images v new.vault (λ l. IsEither (view (payloads state v)) added (view l))) vault
                (runs_weaker state images mid.vault new.vault (IsEither (payloads state mid.vault) (payloads state mid.vault ++ mid.payload.items ∷ [])) (λ l. IsEither (view (payloads state mid.vault)) added (view l)) (k.any_moment up_mid)
                (λ l is. ⊎_elim (λ same. inl (ap view same)) (λ more. inr (ap view more ∙ grown_mid)) is));
            early = λ _ within. subst (λ (v : Vault D). vaults.Leaves state images v new.vault (λ l. view l ≡ view (payloads state v))) vault
                (views_as mid new (payloads state mid.vault) (k.early up_mid (rw vault within)));
            failed = err_as fault apart r _ k.failed;
            no_memory = λ is. k.no_memory (was_err fault apart r Memory is);
            fuse = λ _. burns_as fault apart 4 (state old.vault.disk) (state new.vault.disk) r (subst (λ (v : Vault D). Burns state 4 v new.vault r) vault (k.fuse up_mid));
            refuses = record {
              down = (λ is. rw (← vault) (k.refuses.down.0 (was_err fault apart r Down is)), λ is. absurd cc);
              unchanged = λ is. let was : IsDown mid.vault = k.refuses.down.0 (was_err fault apart r Down is) in absurd cc;
              disk = λ is. k.refuses.disk (was_err fault apart r Disk is);
              cause = subst (λ (v : Vault D). IsCounted (fault Disk) (faults state v) (faults state new.vault) (answer_as fault r)) vault (counted_as fault apart (faults state mid.vault) (faults state new.vault) r k.refuses.cause);
            };
            only = only_as fault apart r;
          }

    -- what is down refuses all
    module _ {X : Type 0} (old : Folded D F) (before : X) (is_down : IsDown old.vault) where
      refuses_down : {T : Type 0} → Refuses state fault old.vault old.vault before before (err_at T (fault Down))
      refuses_down = record {
        down = (λ _. is_down, λ _. refl);
        unchanged = λ _. refl;
        disk = λ _. is_down;
        cause = (λ same. absurd (apart.down (sym same)), λ _. refl);
      }

      not_up : {P : Type 0} → IsUp old.vault → P
      not_up up = absurd cc

      pub appends_down : (size : ℕ) (added : V) → Appends state images fits has_spare view fault size added old old before before (Err (fault Down))
      appends_down size added = record {
        opened = tt;
        put = tt;
        durable = tt;
        room = tt;
        any_moment = not_up;
        early = λ up. not_up up;
        failed = is_down;
        no_memory = λ is. let same : fault Down ≡ fault Memory = cc in absurd (apart.memory (sym same));
        fuse = not_up;
        refuses = refuses_down;
        only = (Down, refl);
      }

      pub reads_down : {T : Type 0} → Reads state images fits has_spare view fault old old before before (err_at T (fault Down))
      reads_down = record {
        stays = tt;
        any_moment = λ up. not_up up;
        memory = λ is. let same : fault Down ≡ fault Memory = cc in absurd (apart.memory (sym same));
        fuse = same_fuse state old.vault;
        refuses = refuses_down;
      }

    -- a read, and what is made of it
    module _ {X T : Type 0} (old new : Folded D F) (before after : X) (up : IsUp old.vault) where
      pub reads_failed : (e : VaultFault) → Reads state images fits has_spare plain same_fault old new old.vault new.vault (err_at (Unit {0}) e)
          → Reads state images fits has_spare view fault old new before after (err_at T (fault e))
      reads_failed e k = record {
        stays = tt;
        any_moment = λ up sound. views_as old new (payloads state old.vault) (k.any_moment up sound);
        memory = λ is. k.memory (was e Memory is);
        fuse = k.fuse;
        refuses = record {
          down = (λ is. k.refuses.down.0 (was e Down is), λ is. absurd cc);
          unchanged = λ is. let at : IsDown old.vault = k.refuses.down.0 (was e Down is) in absurd cc;
          disk = λ is. k.refuses.disk (was e Disk is);
          cause = counted_as fault apart (faults state old.vault) (faults state new.vault) (err_at (Unit {0}) e) k.refuses.cause;
        };
      }
        where
          was : (e f : VaultFault) → err_at T (fault e) ≡ Err (fault f) → err_at (Unit {0}) e ≡ Err f
          was e f is = let same : fault e ≡ fault f = cc in ap (λ (g : VaultFault). err_at (Unit {0}) g) (one_fault fault apart e f same)

      pub reads_done : (x : T) → Reads state images fits has_spare plain same_fault old new old.vault new.vault (done) → Reads state images fits has_spare view fault old new before after (ok_at x)
      reads_done x k = record {
        stays = k.stays;
        any_moment = λ up sound. views_as old new (payloads state old.vault) (k.any_moment up sound);
        memory = λ is. absurd cc;
        fuse = k.fuse;
        refuses = record { down = (λ is. absurd cc, λ is. absurd cc); unchanged = λ is. absurd cc; disk = λ is. absurd cc; cause = k.refuses.cause };
      }

      pub reads_short : Reads state images fits has_spare plain same_fault old new old.vault new.vault (done)
          → Reads state images fits has_spare view fault old new before after (err_at T (fault Memory))
      reads_short k = record {
        stays = tt;
        any_moment = λ up sound. views_as old new (payloads state old.vault) (k.any_moment up sound);
        memory = λ _. k.stays;
        fuse = k.fuse;
        refuses = record {
          down = (λ is. let same : fault Memory ≡ fault Down = cc in absurd (apart.memory same), λ is. absurd cc);
          unchanged = λ is. let same : fault Memory ≡ fault Down = cc in absurd (apart.memory same);
          disk = λ is. let same : fault Memory ≡ fault Disk = cc in absurd (apart.disk same);
          cause = (λ same. absurd (apart.disk same), λ _. k.refuses.cause);
        };
      }

    -- a refusal of the device's own, before anything is read
    pub reads_none : {X T : Type 0} → ((disk : D) (image : List ℕ) → images disk (state disk).moment image → IsImage (state disk).pending image) → (old : Folded D F) (before : X) (e : E)
        → ((f : VaultFault) → e ≡ fault f → ⊥) → IsUp old.vault → vaults.IsLookedAt state old.vault
        → Reads state images fits has_spare view fault old old before before (err_at T e)
    reads_none only_now old before e other up looked = record {
      stays = tt;
      any_moment = λ _ sound. views_as old old (payloads state old.vault) (looked_leaves state images only_now old.vault looked sound);
      memory = λ is. let same : e ≡ fault Memory = cc in absurd (other Memory same);
      fuse = same_fuse state old.vault;
      refuses = record {
        down = (λ is. let same : e ≡ fault Down = cc in absurd (other Down same), λ is. absurd cc);
        unchanged = λ _. refl;
        disk = λ is. let same : e ≡ fault Disk = cc in absurd (other Disk same);
        cause = (λ same. absurd (other Disk same), λ _. refl);
      };
    }

  -- ---- a restart

  pub restarts_as : ((disk : D) (t : ℕ) (image : List ℕ) → t ≤ (state disk).moment → IsImage (state disk).pending image → images disk t image) → (old new : Folded D F)
      → vaults.IsRestarted state old.vault new.vault
      → Elapses (state old.vault.disk) (state new.vault.disk) (images old.vault.disk) (images new.vault.disk) → Restarts state images plain old new → Restarts state images view old new
  restarts_as counts_now old new image time k = record {
    up = k.up;
    synced = k.synced;
    same = λ up synced. ap view (k.same up synced);
    left = λ start a b run. (restarted state images counts_now start.vault old.vault new.vault (λ l. IsEither a b (view l)) run image).0;
    sound = λ start a b run. (restarted state images counts_now start.vault old.vault new.vault (λ l. IsEither a b (view l)) run image).1;
    since = λ start a b run. restarted_leaves state images counts_now start.vault old.vault new.vault (λ l. IsEither a b (view l)) run image (k.synced k.up) time;
    faults_stay = k.faults_stay;
    stops_stay = k.stops_stay;
    unset = k.unset;
  }
