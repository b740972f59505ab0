-- What a Store's moves come to: what they keep of the world, and what is answered.
use Rattle.std.specs.Prelude.{◌≡◌, ℕ, List, is_some, if◌then◌else◌}
use Rattle.disk_trait.specs.Calls.{DiskState}
use Rattle.table_model.specs.declared.line.Answer.{Answer}
use Rattle.step_tables.specs.Facts as facts
use Rattle.step_tables.specs.Messages.{Luck}
use Rattle.step_tables.specs.Messages as messages
use Rattle.step_tables.specs.StoreMoves.{StoreMove}
use Rattle.step_tables.specs.Lines.{answer_of}
use Rattle.world_tables.specs.World.{World, Moved, still, failing, store_falls, owner_of, to_hosted, hosted_at}
use Rattle.world_tables.specs.World.{answering}
use Rattle.store_host.specs.declared.host.StoreHost.{StoreHost}
use Rattle.store_host.specs.Calls.{IsMoved}

-- What a Store's moves keep of a world: all but the tables, the packets, and which Stores are down.
pub record Goes (w : World) (m : Moved) : Type 0 where
  pub stores : m.world.stores ≡ w.stores
  pub schemas : m.world.schemas ≡ w.schemas
  pub clients : m.world.clients ≡ w.clients
  pub holds : m.world.holds ≡ w.holds
  pub cuts : m.world.cuts ≡ w.cuts
  pub phases : m.world.phases ≡ w.phases
  pub tables : (table : ℕ) → is_some (hosted_at m.world table) ≡ is_some (hosted_at w table)

-- The Stores did these moves. The answer is this one, or that a device failed.
pub record IsAnswered {D : Type 0} (state : D → DiskState) (old new : StoreHost D) (answer : facts.Answer) (m : Moved)
    (given : Answer) : Type 0 where
  pub moved : IsMoved state old new m
  pub answer_is : answer_of given ≡ (if m.failed then facts.Refuses facts.NoDevice else answer)

-- The same of a move of one of its tables, if the table is there: what the world makes of it is the answer to these
-- moves.
pub record IsTakenAs {D : Type 0} (state : D → DiskState) (w : World) (table : ℕ) (move : StoreMove)
    (lucks : List Luck) (old new : StoreHost D) (given : Answer) : Type 0 where
  pub answer : facts.Answer
  pub moves : Moved
  pub step_is : to_hosted w table move lucks (hosted_at w table) ≡ answering answer moves
  pub answered : IsAnswered state old new answer moves given
  pub goes : Goes w moves

-- a read of a table's disks, which may fail
abbrev pub read_moves : World → ℕ → Luck → Moved
read_moves w table messages.Done = still w
read_moves w table messages.FailedBefore = failing (store_falls (owner_of w table) w)
read_moves w table messages.FailedAfter = failing (store_falls (owner_of w table) w)
