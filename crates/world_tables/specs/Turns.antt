-- The runs of a world: what each event of a script writes.
use Rattle.std.specs.Prelude.{List, [], ◌∷◌}
use Rattle.std.specs.List.{flat_map}
use Rattle.table_model.specs.declared.event.Event.{Event}
use Rattle.step_tables.specs.Facts.{Line}
use Rattle.world_tables.specs.World.{World, Lucks, start, step, lines_of}

-- an event, and what of it isn't in the script
pub record Happening : Type 0 where
  pub event : Event
  pub lucks : Lucks

-- an event with the lines that it wrote
pub record Turn : Type 0 where
  pub event : Event
  pub lines : List Line

abbrev pub turns_from : World → List Happening → List Turn
turns_from w [] = []
turns_from w (h ∷ more) =
    record { event = h.event; lines = lines_of w (step w h.event h.lucks) }
    ∷ turns_from (step w h.event h.lucks).world more

-- what happens from the start writes
abbrev pub turns : List Happening → List Turn
turns happenings = turns_from start happenings

abbrev pub world_from : World → List Happening → World
world_from w [] = w
world_from w (h ∷ more) = world_from (step w h.event h.lucks).world more

-- the transcript of some turns
abbrev pub transcript_of : List Turn → List Line
transcript_of some = flat_map (λ (turn : Turn). turn.lines) some
