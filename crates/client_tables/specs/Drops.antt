-- The local names that slots name, and those that a change drops.
use Rattle.std.specs.Prelude.{◌≡◌, ℕ, ◌==◌, Bool, ◌&&◌, ◌||◌, not, List, [], ◌++◌, map, Option, Some, None}
use Rattle.std.specs.List.{list_any, flat_map}
use Rattle.std.specs.Ordering.{nat_cmp, ordering_then}
use Rattle.std.specs.declared.cmp.Ordering.{Ordering}
use Rattle.std.specs.BTreeSet as tree
use Rattle.std.specs.BTreeSet.{BTreeSet}
use Rattle.held_value.specs.declared.local_name.LocalName.{LocalName}
use Rattle.held_value.specs.declared.content.HeldPiece.{HeldPiece}
use Rattle.held_value.specs.declared.content.HeldObject.{HeldObject}
use Rattle.held_value.specs.declared.content.HeldContent.{HeldContent}
use Rattle.held_value.specs.declared.content.HeldContent.TheVariants.{Gone, Row}
use Rattle.held_value.specs.declared.slots.Main.{Main}
use Rattle.held_value.specs.declared.slots.Shadow.{Shadow}
use Rattle.held_value.specs.declared.slots.Out.{Out}
use Rattle.held_value.specs.declared.slots.Slots.{Slots}

abbrev pub same_name : LocalName → LocalName → Bool
same_name a b = (a.plan == b.plan) && (a.ordinal == b.ordinal)

-- whether a name is one of these
abbrev pub is_among : List LocalName → LocalName → Bool
is_among names name = list_any (same_name name) names

abbrev pub names_of_pieces : List HeldPiece → List LocalName
names_of_pieces pieces = map (λ piece. piece.local) pieces

abbrev pub names_of_objects : List HeldObject → List LocalName
names_of_objects objects = flat_map (λ object. names_of_pieces object.pieces) objects

abbrev pub names_of : HeldContent → List LocalName
names_of Gone = []
names_of (Row some objects) = names_of_objects objects

abbrev pub names_of_main : Option Main → List LocalName
names_of_main None = []
names_of_main (Some main) = names_of main.content

abbrev pub names_of_shadow : Option Shadow → List LocalName
names_of_shadow None = []
names_of_shadow (Some shadow) = names_of shadow.content

abbrev pub names_of_out : Option Out → List LocalName
names_of_out None = []
names_of_out (Some out) = names_of out.content

-- the chunks that a row's slots name
abbrev pub names_in : Slots → List LocalName
names_in slots =
    names_of_main slots.main ++ names_of_shadow slots.shadow ++ names_of_out slots.out ++ names_of_shadow slots.conflict

-- ---- names in a tree

abbrev pub pair_cmp : ℕ × ℕ → ℕ × ℕ → Ordering
pair_cmp a b = ordering_then (nat_cmp a.0 b.0) (nat_cmp a.1 b.1)

abbrev pub pair_of : LocalName → ℕ × ℕ
pair_of name = (name.plan, name.ordinal)

abbrev pub name_of : ℕ × ℕ → LocalName
name_of pair = record { plan = pair.0; ordinal = pair.1 }

abbrev pub has : BTreeSet (ℕ × ℕ) → LocalName → Bool
has names name = tree.contains pair_cmp names (pair_of name)

-- the tree has besides, or no longer, the names of a list
abbrev pub Notes : BTreeSet (ℕ × ℕ) → BTreeSet (ℕ × ℕ) → List LocalName → Type 0
Notes old new names = (name : LocalName) → has new name ≡ (has old name || is_among names name)

abbrev pub Forgets : BTreeSet (ℕ × ℕ) → BTreeSet (ℕ × ℕ) → List LocalName → Type 0
Forgets old new names = (name : LocalName) → has new name ≡ (has old name && not (is_among names name))
