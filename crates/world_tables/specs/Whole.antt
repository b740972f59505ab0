-- What lines say of a client and a row, over the whole list of lines.
use Rattle.std.specs.Prelude.{ℕ, ◌==◌, Bool, ◌&&◌, max, List, [], ◌∷◌, Option, Some, None}
use Rattle.std.specs.Prelude.{if◌then◌else◌}
use Rattle.std.specs.Option.{option_or}
use Rattle.table_model.specs.History.{same_row}
use Rattle.step_tables.specs.Facts.{Line}
use Rattle.step_tables.specs.Sayings.{Saying, SaysAck, SaysConflict, SaysResolved, SaysRead, SaysPosition}
use Rattle.step_tables.specs.Sayings.{says}

-- whether a saying is of this client, on this row of this table
abbrev pub is_of : ℕ → ℕ → List ℕ → ℕ → ℕ → List ℕ → Bool
is_of client table row c t r = (client == c) && ((table == t) && same_row row r)

-- the version of a row that a saying makes its client read: of lines `acked`, `new`, `conflict` and `resolved`
abbrev pub read_by : ℕ → ℕ → List ℕ → Saying → ℕ
read_by client table row (SaysAck c n t r version) = if is_of client table row c t r then version else 0
read_by client table row (SaysConflict c n t r version) = if is_of client table row c t r then version else 0
read_by client table row (SaysResolved c n t r version) = if is_of client table row c t r then version else 0
read_by client table row (SaysRead c t r version) = if is_of client table row c t r then version else 0
read_by client table row other = 0

-- the same without `conflict`
abbrev pub shadow_by : ℕ → ℕ → List ℕ → Saying → ℕ
shadow_by client table row (SaysAck c n t r version) = if is_of client table row c t r then version else 0
shadow_by client table row (SaysResolved c n t r version) = if is_of client table row c t r then version else 0
shadow_by client table row (SaysRead c t r version) = if is_of client table row c t r then version else 0
shadow_by client table row other = 0

abbrev pub position_by : ℕ → ℕ → Saying → ℕ
position_by client table (SaysPosition c t position) = if (client == c) && (table == t) then position else 0
position_by client table other = 0

-- the greatest number of what lines say, 0 where there is none
abbrev pub greatest : (Saying → ℕ) → List Line → ℕ
greatest number [] = 0
greatest number (line ∷ more) = max (number (says line)) (greatest number more)

-- the version in the last conflict that names a number
abbrev pub conflict_by : ℕ → ℕ → List ℕ → ℕ → Saying → Option ℕ
conflict_by client table row number (SaysConflict c n t r version) =
    if is_of client table row c t r && (number == n) then Some version else None
conflict_by client table row number other = None

abbrev pub last_conflict : ℕ → ℕ → List ℕ → ℕ → List Line → Option ℕ
last_conflict client table row number [] = None
last_conflict client table row number (line ∷ more) =
    option_or (last_conflict client table row number more) (conflict_by client table row number (says line))
