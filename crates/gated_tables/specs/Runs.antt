-- The runs of a world with gateways: what each event of a script writes.
use Rattle.std.specs.Prelude.{List, [], ◌∷◌}
use Rattle.world_tables.specs.Turns.{Happening, Turn}
use Rattle.gated_tables.specs.Net.{Net, NetStep, start, net_step, lines_of}

abbrev pub net_from : Net → List Happening → Net
net_from n [] = n
net_from n (h ∷ more) = net_from (net_step n h.event h.lucks).net more

abbrev pub turns_from : Net → List Happening → List Turn
turns_from n [] = []
turns_from n (h ∷ more) = let s : NetStep = net_step n h.event h.lucks in
    record { event = h.event; lines = lines_of n s } ∷ turns_from s.net more

-- what happens from the start writes
abbrev pub net_turns : List Happening → List Turn
net_turns happenings = turns_from start happenings
