-- The wires that a script leads to.
use Rattle.std.specs.Prelude.{◌≡◌, List}
use Rattle.world_tables.specs.Turns.{Happening}
use Rattle.wire_tables.specs.Wire.{Wire, start}
use Rattle.wire_tables.specs.Runs.{wire_from}
use Rattle.wire_laws.specs.Runs.{AreBuilt}

-- built events lead to this wire, with some lucks
pub record IsReached (v : Wire) : Type 0 where
  pub run : List Happening
  pub built : AreBuilt run
  pub is : v ≡ wire_from start run
