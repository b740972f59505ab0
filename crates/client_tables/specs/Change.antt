-- What an event makes of a row.
use Rattle.std.specs.Prelude.{ℕ, ◌<◌, ◌^◌, [], length, Option, Some, None, unwrap_or}
use Rattle.held_value.specs.declared.slots.Out.{Out}
use Rattle.held_value.specs.declared.slots.Shadow.{Shadow}
use Rattle.held_value.specs.declared.slots.Slots.{Slots}
use Rattle.client_tables.specs.declared.change.Change.{Change}
use Rattle.client_tables.specs.declared.change.Sending.{Sending}

-- no slot changes and nothing is told
abbrev pub unchanged : Sending → Change
unchanged sends = record { slots = None; tells = []; sends = sends }

-- the slots behind a change
abbrev pub after : Slots → Change → Slots
after slots change = unwrap_or change.slots slots

-- the version of the row that was read, 0 where there is none
abbrev pub version_in : Option Shadow → ℕ
version_in None = 0
version_in (Some shadow) = shadow.version

-- the version that the client has seen: that of the conflict, else the one that was read
abbrev pub seen_in : Option Shadow → Option Shadow → ℕ
seen_in None shadow = version_in shadow
seen_in (Some row) shadow = row.version

-- the chunks of the write that waits can be numbered
abbrev pub IsCountable : Out → Type 0
IsCountable out = length out.pieces < 2 ^ 32

abbrev pub IsCountableOut : Option Out → Type 0
IsCountableOut None = Unit {0}
IsCountableOut (Some out) = IsCountable out

abbrev pub AreCountable : Slots → Type 0
AreCountable slots = IsCountableOut slots.out
