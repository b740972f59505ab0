-- What a step says of each script that led here: with the event it is sound.
use Rattle.std.specs.Prelude.{◌≡◌, List, [], ◌∷◌, ◌++◌, map}
use Rattle.table_model.specs.declared.event.Event.{Event}
use Rattle.table_model.specs.declared.line.TextLine.{TextLine}
use Rattle.step_tables.specs.Lines.{line_of}
use Rattle.world_tables.specs.Sound.{IsSound}
use Rattle.world_tables.specs.Turns.{Happening}
use Rattle.world_tables.specs.World.{Lucks}
use Rattle.wire_tables.specs.Wire.{start, wire_step, lines_of}
use Rattle.wire_tables.specs.Runs.{wire_from, wire_turns}

-- with some lucks of the event these are its lines, and the run with it is sound
pub record GoesOnSound (run : List Happening) (event : Event) (lines : List TextLine) : Type 0 where
  pub lucks : Lucks
  pub lines_are : map line_of lines ≡ lines_of (wire_from start run) (wire_step (wire_from start run) event lucks)
  pub sound : IsSound (wire_turns (run ++ record { event = event; lucks = lucks } ∷ []))
