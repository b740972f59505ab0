-- What a start tells again.
use Rattle.std.specs.Prelude.{◌≡◌, ℕ, List, [], ◌∷◌, ◌++◌, Option, Some, None, option_map, option_to_list}
use Rattle.held_value.specs.declared.local_name.LocalName.{LocalName}
use Rattle.held_value.specs.declared.slots.Slots.{Slots as HeldSlots}
use Rattle.held_value.specs.declared.tell.Tell.{Tell}
use Rattle.held_value.specs.declared.tell.Tell.TheVariants as tell
use Rattle.client_journal.specs.Devs.{ClientDevs, local_in}
use Rattle.client_journal.specs.Names.{Has, names_in}
use Rattle.step_tables.specs.Facts.{ClientFact, Fact, Redone}
use Rattle.step_tables.specs.ClientMoves.{RowPut}
use Rattle.journal_laws.specs.Holds.{fact_in}
use Rattle.journal_laws.specs.Whole.{whole_slots}
use Rattle.client_node.specs.Answers.{held_at}

-- each chunk that the slots name is on the device, with the bytes that its name stands for
abbrev pub AreNamesThere : (LocalName → List ℕ) → ClientDevs → HeldSlots → Type 0
AreNamesThere meaning d slots =
    (name : LocalName) → Has (names_in slots) name → local_in d.chunks name ≡ Some (meaning name)

-- a row's slots, whole
abbrev pub put_of : (LocalName → List ℕ) → List ℕ → HeldSlots → RowPut
put_of meaning row slots = record { row = row; slots = whole_slots meaning slots }

-- those of a plan's row as they are read, if it has one
abbrev pub put_again : (LocalName → List ℕ) → ClientDevs → ℕ → Option (List ℕ) → Option RowPut
put_again meaning d table None = None
put_again meaning d table (Some row) = Some (put_of meaning row (held_at d table row))

-- a tell that no content is read for
abbrev pub IsPlain : Tell → Type 0
IsPlain (tell.Wrote number read) = ⊥
IsPlain told = Unit {0}

abbrev pub again_if : Option ClientFact → List Fact
again_if fact = option_to_list (option_map Redone fact)

-- what these tells of a plan say, told again
abbrev pub told_again : ℕ → ℕ → Option RowPut → List Tell → List Fact
told_again c table put [] = []
told_again c table put (told ∷ tells) = again_if (fact_in c table put told) ++ told_again c table put tells
