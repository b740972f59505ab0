-- The runs of a world whose packets are parts: what each event of a script writes.
use Rattle.std.specs.Prelude.{List, [], ◌∷◌}
use Rattle.world_tables.specs.Turns.{Happening, Turn}
use Rattle.wire_tables.specs.Wire.{Wire, start, wire_step, lines_of}

abbrev pub wire_from : Wire → List Happening → Wire
wire_from v [] = v
wire_from v (h ∷ more) = wire_from (wire_step v h.event h.lucks).wire more

abbrev pub turns_from : Wire → List Happening → List Turn
turns_from v [] = []
turns_from v (h ∷ more) =
    record { event = h.event; lines = lines_of v (wire_step v h.event h.lucks) }
    ∷ turns_from (wire_step v h.event h.lucks).wire more

-- what happens from the start writes
abbrev pub wire_turns : List Happening → List Turn
wire_turns happenings = turns_from start happenings
