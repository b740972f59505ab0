-- Which items a table's disks may hold at a moment of an event, and where they stand in the table's history.
use Rattle.std.specs.Prelude.{◌≡◌, ◌⊎◌, ℕ, zero, suc, ◌==◌, List, [], ◌∷◌, ◌++◌, map, slice_get, Option, Some, None}
use Rattle.std.specs.Prelude.{if◌then◌else◌}
use Rattle.stab_base.specs.declared.node.Node.{Node}
use Rattle.stab_base.specs.declared.node.Node.TheVariants as nodes
use Rattle.table_model.specs.declared.entry.Entry.{Entry}
use Rattle.table_model.specs.declared.event.Event.{Event}
use Rattle.table_model.specs.declared.event.Event.TheVariants as events
use Rattle.step_tables.specs.Store.{Stored}
use Rattle.step_tables.specs.Messages.{Luck, table_of}
use Rattle.step_tables.specs.StoreMoves as store
use Rattle.step_tables.specs.StoreMoves.{StoreDisk, StoreTask, changed}
use Rattle.world_tables.specs.World.{World, Lucks, Packet, Hosted, owner_of, tables_of, tasks_in, move_table}
use Rattle.world_tables.specs.World.{tables_fall}
use Rattle.world_tables.specs.World.{tables_start}

-- the disk behind the first so many of these tasks
abbrev pub after_tasks : ℕ → StoreDisk → List StoreTask → StoreDisk
after_tasks zero disk tasks = disk
after_tasks (suc k) disk [] = disk
after_tasks (suc k) disk (task ∷ tasks) = after_tasks k (changed disk task.change) tasks

-- the items of a table behind so many of its next writes
abbrev pub items_behind : Hosted → ℕ → List Stored
items_behind hosted k = (after_tasks k hosted.store.disk (tasks_in hosted.store.agenda)).items

abbrev pub entries_of : List Stored → List Entry
entries_of items = map (λ (item : Stored). item.entry) items

-- The items go on from one history, and are a front of another one, or that with one more.
pub record IsBetween (before after : List Entry) (items : List Stored) : Type 0 where
  pub more : List Entry
  pub from : entries_of items ≡ before ++ more
  pub to : ((rest : List Entry) × (after ≡ (before ++ more) ++ rest))
      ⊎ ((entry : Entry) × (before ++ more ≡ after ++ entry ∷ []))

-- What comes first in an event, before the writes that follow: a table takes a message that came to its owner, and a
-- Store's tables are started.
abbrev pub taken_by : World → Packet → Node → World
taken_by w packet (nodes.Store number) = let table : ℕ = table_of packet.message in
    if owner_of w table == number then (move_table table (store.Take packet.from packet.message) w).world else w
taken_by w packet (nodes.Client c) = w
taken_by w packet (nodes.Gate gate) = w

abbrev pub taken_from : World → Option Packet → World
taken_from w None = w
taken_from w (Some packet) = taken_by w packet packet.to

abbrev pub taken_part : World → Event → World
taken_part w (events.Deliver packet) = taken_from w (slice_get w.packets packet)
taken_part w other = w

abbrev pub started_at : World → List Luck → Node → World
started_at w lucks (nodes.Store number) = let tables : List ℕ = tables_of w number in
    (tables_start tables lucks (tables_fall tables w).world).world
started_at w lucks (nodes.Client c) = w
started_at w lucks (nodes.Gate gate) = w

abbrev pub first_part : World → Event → Lucks → World
first_part w (events.Start node) lucks = started_at w lucks.calls node
first_part w other lucks = taken_part w other
