-- Devices that have no row, and what is promised of those that are made such.
use Rattle.std.specs.Prelude.{◌≡◌, ℕ, ◌==◌, Bool, true, ◌&&◌, not, List, [], length, is_some, Result, OnOk}
use Rattle.std.specs.Map.{keys_of}
use Rattle.disk_trait.specs.Calls.{DiskState}
use Rattle.row_store.specs.Data.{TableData, subs_of}
use Rattle.store_commit.specs.declared.devs.TableDevs.{TableDevs}
use Rattle.store_commit.specs.declared.fault.CommitFault.{CommitFault}
use Rattle.store_commit.specs.Devs.{Devs}
use Rattle.store_commit.specs.Standing.{devs, writes_of, AreUp, AreSound, AreSynced, IsReady, NothingHidden}
use Rattle.store_commit.specs.TakesOn.{AllLeave}
use Rattle.store_commit.specs.Unset.{KeepsUnset, HasCause}

-- no row and no subscription
abbrev pub has_no_rows : TableData → Bool
has_no_rows held = (length (keys_of held.rows) == 0) && (length (subs_of held) == 0)

-- Nothing but the record of a table, if even that: no row, no subscription, no chunk and no open entry.
abbrev pub is_bare : Devs → Bool
is_bare d = has_no_rows d.held && ((length (keys_of d.chunks) == 0) && not (is_some d.pending))

-- Devices are bare, and not by chance, and all that is seen is on the disks.
pub record IsBare {D : Type 0} (state : D → DiskState) (table : TableDevs D) : Type 0 where
  pub up : AreUp table
  pub synced : AreSynced state table
  pub sound : AreSound state table
  pub bare : is_bare (devs state table) ≡ true

-- The devices are bare, and at rest. Where they were bare before, a crash at any moment leaves what they held, and they
-- hold it still.
pub record Clears {D : Type 0} (state : D → DiskState) (images : D → ℕ → List ℕ → Type 0) (old new : TableDevs D)
    (result : Result (Unit {0}) CommitFault) : Type 0 where
  pub bare : OnOk result (is_bare (devs state new) ≡ true)
  pub rests : OnOk result (IsReady state new [])
  pub idle : OnOk result (writes_of new ≡ [])
  pub hidden : OnOk result (NothingHidden new)
  pub fuse : KeepsUnset state old new
  pub cause : HasCause state old new result
  pub leave : IsBare state old → AllLeave state images old new
  pub same : IsBare state old → OnOk result (devs state new ≡ devs state old)
