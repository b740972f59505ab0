-- All that the world promises of an event.
use Rattle.std.specs.Prelude.{ℕ, ◌+◌, Bool, List, Result}
use Rattle.disk_trait.specs.Calls.{DiskState}
use Rattle.table_model.specs.declared.event.Event.{Event}
use Rattle.table_model.specs.declared.line.TextLine.{TextLine}
use Rattle.gated_tables.specs.Net.{Net}
use Rattle.node_steps.specs.declared.fault.WorldFault.{WorldFault}
use Rattle.net_steps.specs.declared.world.World.{World}
use Rattle.net_steps.specs.Calls.{Comes, Overruns, IsLimited, Leaves}
use Rattle.net_steps.specs.Steps.{HavePlansBelow, may_begin}

pub record Promises {D : Type 0} (state : D → DiskState) (images : D → ℕ → List ℕ → Type 0) (n : Net) (event : Event)
    (is_out : ℕ → Bool) (result : Result (List TextLine) WorldFault) (old new : World D) : Type 0 where
  pub done : Comes state images n event is_out result old new
  pub over : Overruns state images n event is_out result old new
  pub limit : (m : ℕ) → HavePlansBelow state m old → IsLimited m n event result
  pub plans : (m : ℕ) → HavePlansBelow state m old → HavePlansBelow state (may_begin n event + m) new
  pub left : Leaves state n event is_out result old new
