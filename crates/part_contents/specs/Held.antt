-- Where each of the chunks that are held stands among them.
use Rattle.std.specs.Prelude.{◌≡◌, ℕ, suc, ◌==◌, ◌&&◌, cond, Bool, List, [], ◌∷◌, length, Option, Some, None}
use Rattle.std.specs.Prelude.{option_map}
use Rattle.std.specs.declared.cmp.Ordering.{Ordering}
use Rattle.std.specs.Ordering.{nat_cmp, ordering_then}
use Rattle.std.specs.List.{list_any}
use Rattle.std.specs.BTreeMap as tree
use Rattle.std.specs.BTreeSet as set
use Rattle.stab_base.specs.declared.chunk_name.ChunkName.{ChunkName}
use Rattle.step_tables.specs.Chunks.{name_cmp}
use Rattle.part_tables.specs.ClientParts.{Held, is_under}

-- the first place of what passes a test
abbrev pub first_place : {X : Type 0} → (X → Bool) → List X → Option ℕ
first_place test [] = None
first_place test (x ∷ xs) = cond (test x) (Some 0) (option_map suc (first_place test xs))

-- the first place of each name
abbrev pub ArePlaces : List Held → tree.BTreeMap ChunkName ℕ → Type 0
ArePlaces held places =
    (name : ChunkName) → tree.get name_cmp places name ≡ first_place (λ (own : Held). is_under name own.0) held

-- a name with a length
abbrev pub named_len_cmp : ChunkName × ℕ → ChunkName × ℕ → Ordering
named_len_cmp a b = ordering_then (name_cmp a.0 b.0) (nat_cmp a.1 b.1)

abbrev pub is_named_len : ChunkName → ℕ → Held → Bool
is_named_len name len own = is_under name own.0 && (length own.1 == len)

abbrev pub AreLens : List Held → set.BTreeSet (ChunkName × ℕ) → Type 0
AreLens held lens =
    (name : ChunkName) (len : ℕ) → set.contains named_len_cmp lens (name, len) ≡ list_any (is_named_len name len) held
