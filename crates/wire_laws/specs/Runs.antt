-- A run of wires as a run of whole worlds.
use Rattle.std.specs.Prelude.{◌≡◌, List}
use Rattle.std.specs.List.{AllByRecursion}
use Rattle.world_tables.specs.Turns.{Happening, turns, world_from}
use Rattle.world_tables.specs.World as world
use Rattle.fair_laws.specs.Reached.{IsBuilt}
use Rattle.wire_tables.specs.Wire.{start}
use Rattle.wire_tables.specs.Runs.{wire_from, wire_turns}
use Rattle.wire_laws.specs.Alike.{AreAlike}

-- its tables have chunks of some size, among the limits of a script
abbrev pub AreBuilt : List Happening → Type 0
AreBuilt run = AllByRecursion (λ (h : Happening). IsBuilt h.event) run

-- Packets that are parts make of the nodes what a run of whole packets makes of them, and its turns are alike.
pub record IsRunOf (run : List Happening) : Type 0 where
  pub whole : List Happening
  pub built : AreBuilt whole
  pub world : (wire_from start run).world ≡ world_from world.start whole
  pub alike : AreAlike (wire_turns run) (turns whole)
