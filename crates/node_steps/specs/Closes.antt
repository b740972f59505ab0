-- What goes back to a depot when a world ends.
use Rattle.std.specs.Prelude.{◌≡◌, ℕ, ◌+◌, ◌==◌, ◌<◌, Bool, ◌&&◌, not, Option, Some, None}
use Rattle.std.specs.Prelude.{if◌then◌else◌}
use Rattle.store_host.specs.declared.hosted.Hosted.{Hosted}
use Rattle.store_host.specs.Holds.{disks_at}
use Rattle.client_node.specs.declared.node.ClientNode.{ClientNode}
use Rattle.journal_host.specs.Holds as clients
use Rattle.node_steps.specs.Holds.{first_disk, first_client_disk}

-- the three disks of a table or of a client that begin at this number are no longer out
abbrev pub without_three : ℕ → (ℕ → Bool) → ℕ → Bool
without_three first is_out k =
    not (k == first + 2) && (not (k == first + 1) && (not (k == first) && is_out k))

-- the disks that a depot tells, before and after three more: these under their numbers, and the same under each other
abbrev pub TellsThree : {D : Type 0} → Option (ℕ → Option D) → Option (ℕ → Option D) → ℕ → D × D × D → Type 0
TellsThree None None first disks = Unit {0}
TellsThree (Some old) (Some new) first disks = (k : ℕ) → new k ≡ (if k == first + 2 then Some disks.2
    else (if k == first + 1 then Some disks.1 else (if k == first then Some disks.0 else old k)))
TellsThree None (Some new) first disks = ⊥
TellsThree (Some old) None first disks = ⊥

-- the disks that a depot tells under numbers below this one are as they were
abbrev pub StayBelow : {D : Type 0} → Option (ℕ → Option D) → Option (ℕ → Option D) → ℕ → Type 0
StayBelow None None n = Unit {0}
StayBelow (Some old) (Some new) n = (k : ℕ) → k < n → new k ≡ old k
StayBelow None (Some new) n = ⊥
StayBelow (Some old) None n = ⊥

-- a table's three disks came back last under their numbers
pub record AreBack {D : Type 0} (disks : ℕ → Option D) (table : ℕ) (it : Hosted D) : Type 0 where
  pub chunks : disks (first_disk table) ≡ Some (disks_at (table, it)).1.0
  pub rows : disks (first_disk table + 1) ≡ Some (disks_at (table, it)).1.1
  pub log : disks (first_disk table + 2) ≡ Some (disks_at (table, it)).1.2

-- a client's three disks came back last under their numbers
pub record AreClientBack {D : Type 0} (disks : ℕ → Option D) (c : ℕ) (node : ClientNode D) : Type 0 where
  pub journal : disks (first_client_disk c) ≡ Some (clients.disks_at (c, node)).1.0
  pub slots : disks (first_client_disk c + 1) ≡ Some (clients.disks_at (c, node)).1.1
  pub chunks : disks (first_client_disk c + 2) ≡ Some (clients.disks_at (c, node)).1.2
