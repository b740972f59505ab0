-- What the tells of a plan say of a client's row.
use Rattle.std.specs.Prelude.{ℕ, List, [], ◌∷◌, ◌++◌, Option, Some, None, option_to_list}
use Rattle.held_value.specs.declared.tell.Tell.{Tell}
use Rattle.held_value.specs.declared.tell.Tell.TheVariants as tell
use Rattle.step_tables.specs.Facts.{Fact}
use Rattle.step_tables.specs.Facts as facts

-- what a tell says of a client's row, where no content comes with it
abbrev pub told_fact : ℕ → ℕ → List ℕ → Tell → Option Fact
told_fact c table row (tell.Acked number version) = Some (facts.Client (facts.Acked c number table row version))
told_fact c table row (tell.Refused number latest) = Some (facts.Client (facts.Refused c number table row latest))
told_fact c table row (tell.Conflict number version) =
    Some (facts.Client (facts.Conflict c number table row version))
told_fact c table row (tell.Resolved number version) =
    Some (facts.Client (facts.Resolved c number table row version))
told_fact c table row (tell.New version) = Some (facts.Client (facts.New c table row version))
told_fact c table row (tell.Position position) = Some (facts.Client (facts.Position c table position))
told_fact c table row (tell.Wrote number read) = None
told_fact c table row tell.Opened = None
told_fact c table row tell.Dropped = None

abbrev pub facts_told : ℕ → ℕ → List ℕ → List Tell → List Fact
facts_told c table row [] = []
facts_told c table row (told ∷ tells) = option_to_list (told_fact c table row told) ++ facts_told c table row tells

-- a new position is told behind what a change tells
abbrev pub with_position : List Tell → Option ℕ → List Tell
with_position tells None = tells
with_position tells (Some position) = tells ++ tell.Position position ∷ []
