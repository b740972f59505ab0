-- What a plan carries out for a row: the change of its slots, the chunks that it brings, and those that it drops.
use Rattle.std.specs.Prelude.{◌≡◌, ℕ, ◌<◌, ◌⊎◌, true, ◌&&◌, not, List, [], map, Option, Some, None}
use Rattle.std.specs.List.Sorted.{IsStrictlySortedBy}
use Rattle.held_value.specs.declared.local_name.LocalName.{LocalName}
use Rattle.held_value.specs.declared.slots.Slots.{Slots}
use Rattle.client_tables.specs.declared.change.Change.{Change}
use Rattle.client_tables.specs.declared.resolving.HeldChoice.{HeldChoice}
use Rattle.client_tables.specs.declared.resolving.HeldChoice.TheVariants as choices
use Rattle.client_tables.specs.declared.plan.RowPlan.{RowPlan}
use Rattle.client_tables.specs.Change.{after}
use Rattle.client_tables.specs.Drops.{is_among, names_of, names_in, pair_cmp, pair_of}
use Rattle.client_tables.specs.Kept.{SlotEvent, Write, WriteStrong, Send, Answer, Row, Resolve}

-- where no slot changes nothing is brought
abbrev pub brought_by : Option Slots → List (List ℕ) → List (List ℕ)
brought_by None chunks = []
brought_by (Some slots) chunks = chunks

-- the plan makes this change of these slots, brings the chunks, and drops, each once, those that the slots name and the
-- slots behind it don't
pub record IsPlan (slots : Slots) (made : Change) (given : List (List ℕ)) (plan : RowPlan) : Type 0 where
  pub change : plan.change ≡ made
  pub chunks : plan.chunks ≡ brought_by made.slots given
  pub drops :
      (name : LocalName) → is_among plan.drops name
      ≡ (is_among (names_in slots) name && not (is_among (names_in (after slots made)) name))
  pub rising : IsStrictlySortedBy pair_cmp (map pair_of plan.drops)

-- ---- names that are known

abbrev pub Has : List LocalName → LocalName → Type 0
Has names name = is_among names name ≡ true

-- a name of plan 0 stands for the chunk of its number among those that are brought
abbrev pub IsBrought : ℕ → LocalName → Type 0
IsBrought count name = (name.plan ≡ 0) × (name.ordinal < count)

-- each name is one that the slots name, or stands for a chunk that is brought
abbrev pub AreKnown : Slots → ℕ → List LocalName → Type 0
AreKnown slots count names =
    (name : LocalName) → Has names name → Has (names_in slots) name ⊎ IsBrought count name

abbrev pub names_of_choice : HeldChoice → List LocalName
names_of_choice choices.Mine = []
names_of_choice choices.Theirs = []
names_of_choice (choices.New content) = names_of content

-- the names of the content that comes with an event
abbrev pub names_with : SlotEvent → List LocalName
names_with (Write number content) = names_of content
names_with (WriteStrong number content pieces) = names_of content
names_with (Send pieces) = []
names_with (Answer number outcome) = []
names_with (Row yours row) = names_of row.content
names_with (Resolve number choice) = names_of_choice choice
