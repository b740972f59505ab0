-- What a step says of each script that led here: with the event it is sound.
use Rattle.std.specs.Prelude.{◌≡◌, List, [], ◌∷◌, ◌++◌, map}
use Rattle.table_model.specs.declared.event.Event.{Event}
use Rattle.table_model.specs.declared.line.TextLine.{TextLine}
use Rattle.step_tables.specs.Lines.{line_of}
use Rattle.world_tables.specs.Sound.{IsSound}
use Rattle.world_tables.specs.Turns.{Happening}
use Rattle.world_tables.specs.World.{Lucks}
use Rattle.gated_tables.specs.Net.{start, net_step, lines_of}
use Rattle.gated_tables.specs.Runs.{net_from, net_turns}

-- with some lucks of the event these are its lines, and the run with it is sound
pub record GoesOnSound (run : List Happening) (event : Event) (lines : List TextLine) : Type 0 where
  pub lucks : Lucks
  pub lines_are : map line_of lines ≡ lines_of (net_from start run) (net_step (net_from start run) event lucks)
  pub sound : IsSound (net_turns (run ++ record { event = event; lucks = lucks } ∷ []))
