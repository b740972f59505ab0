-- The device faults of a run, as its events show them: a disk of a Store or of a client that failed.
use Rattle.std.specs.Prelude.{ℕ, ◌+◌, Bool, true, false, List, [], ◌∷◌, Option, Some, None, if◌then◌else◌}
use Rattle.stab_base.specs.declared.node.Node.{Node}
use Rattle.stab_base.specs.declared.node.Node.TheVariants as nodes
use Rattle.table_model.specs.declared.event.Event.{Event}
use Rattle.table_model.specs.declared.event.Event.TheVariants as events
use Rattle.step_tables.specs.Facts.{Answer}
use Rattle.step_tables.specs.Messages.{Luck}
use Rattle.step_tables.specs.Messages as messages
use Rattle.step_tables.specs.ClientMoves.{Client, ClientTask}
use Rattle.world_tables.specs.World.{World, Hosted, step, hosted_at, client_at, busy_table, client_tasks, is_down}
use Rattle.world_tables.specs.World.{Lucks, is_fault, first_luck, other_lucks}
use Rattle.world_tables.specs.Turns.{Happening}

abbrev pub is_failure : Luck → Bool
is_failure messages.Done = false
is_failure messages.FailedBefore = true
is_failure messages.FailedAfter = true

-- a table that is there isn't made again
abbrev pub fails_new : Option Hosted → List Luck → Bool
fails_new None lucks = is_failure (first_luck lucks)
fails_new (Some hosted) lucks = false

-- and neither is a client
abbrev pub fails_joined : Option Client → List Luck → Bool
fails_joined None lucks = is_failure (first_luck lucks)
fails_joined (Some node) lucks = false

-- a disk fails by itself in the write that a crash cuts; beside a write no disk is called
abbrev pub fails_cut : Option ℕ → List Luck → Bool
fails_cut None lucks = false
fails_cut (Some table) lucks = is_failure (first_luck lucks)

-- the same of a client's next write, where it has one
abbrev pub fails_write : List ClientTask → List Luck → Bool
fails_write [] lucks = false
fails_write (task ∷ tasks) lucks = is_failure (first_luck lucks)

-- a gateway has no devices
abbrev pub fails_crash : World → List Luck → Node → Bool
fails_crash w lucks (nodes.Store number) = fails_cut (busy_table w number) lucks
fails_crash w lucks (nodes.Client c) = fails_write (client_tasks (client_at w c)) lucks
fails_crash w lucks (nodes.Gate gate) = false

abbrev pub is_fault_answer : Option Answer → Bool
is_fault_answer None = false
is_fault_answer (Some answer) = is_fault answer

-- whether a device fault shows in an event: it is answered so; a declaration leaves its node down; or a disk fails by
-- itself in the write that a crash cuts
abbrev pub is_device_fault : World → Event → Lucks → Bool
is_device_fault w (events.Table table schema) lucks = fails_new (hosted_at w table) lucks.calls
is_device_fault w (events.Draft table schema) lucks = fails_new (hosted_at w table) lucks.calls
is_device_fault w (events.Client c gate tables) lucks = fails_joined (client_at w c) lucks.calls
is_device_fault w (events.Crash node calls pick) lucks =
    if is_down w node then false else fails_crash w lucks.calls node
is_device_fault w event lucks = is_fault_answer (step w event lucks).answer

abbrev pub one_if : Bool → ℕ
one_if true = 1
one_if false = 0

-- how many
abbrev pub device_faults : World → List Happening → ℕ
device_faults w [] = 0
device_faults w (h ∷ more) =
    one_if (is_device_fault w h.event h.lucks) + device_faults (step w h.event h.lucks).world more

-- the lucks where no disk fails: all is done, and in a crash the write at work goes by its second luck
abbrev pub quiet_calls : Event → List Luck → List Luck
quiet_calls (events.Crash node calls pick) lucks = messages.Done ∷ first_luck (other_lucks lucks) ∷ []
quiet_calls event lucks = []

abbrev pub quiet_lucks : Event → Lucks → Lucks
quiet_lucks event lucks = record lucks { calls = quiet_calls event lucks.calls }
