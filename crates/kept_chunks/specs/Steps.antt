-- What is made of the chunks that a content brings, one after the other.
use Rattle.std.specs.Prelude.{◌≡◌, ◌⊎◌, ℕ, ◌<◌, ◌≤◌, false, List, [], ◌∷◌, ◌++◌, length, slice_index_or}
use Rattle.std.specs.List.{AllByRecursion}
use Rattle.std.specs.BTreeSet.{BTreeSet, contains}
use Rattle.stab_base.specs.declared.chunk_name.ChunkName.{ChunkName}
use Rattle.chunk_store.specs.Payload.{name_cmp}
use Rattle.held_value.specs.declared.local_name.LocalName.{LocalName}
use Rattle.held_value.specs.declared.content.HeldPiece.{HeldPiece}
use Rattle.client_journal.specs.Devs.{chunk_of}
use Rattle.client_journal.specs.Names.{Has}
use Rattle.client_journal.specs.There.{HasNames, repeats}
use Rattle.held_contents.specs.Holding.{brought_name}
use Rattle.kept_chunks.specs.declared.keeping.Keeping.{Keeping}
use Rattle.kept_chunks.specs.Kept.{IsHeldAs, IsBroughtAs, AreNumbered}

-- the next chunk has this local name
pub record AddsName (old new : Keeping) (name : LocalName) : Type 0 where
  pub locals : new.locals.items ≡ old.locals.items ++ name ∷ []
  pub taken : (names : List LocalName) → HasNames names old.taken → HasNames (names ++ name ∷ []) new.taken
  pub brought : new.brought ≡ old.brought

-- it is brought, behind the others
pub record Brings (old new : Keeping) (bytes : List ℕ) : Type 0 where
  pub locals : new.locals.items ≡ old.locals.items ++ brought_name (length old.brought) ∷ []
  pub taken : (names : List LocalName) → HasNames names old.taken
      → HasNames (names ++ brought_name (length old.brought) ∷ []) new.taken
  pub brought : new.brought ≡ old.brought ++ bytes ∷ []

-- it is held, under a local name that the content hasn't yet
pub record Keeps (held : List (List (HeldPiece × List ℕ))) (old new : Keeping) (bytes : List ℕ) : Type 0 where
  pub local : LocalName
  pub is_held : IsHeldAs held local bytes
  pub free : contains name_cmp old.taken (chunk_of local) ≡ false
  pub added : AddsName old new local

abbrev pub Puts : List (List (HeldPiece × List ℕ)) → (old new : Keeping) → List ℕ → Type 0
Puts held old new bytes = Keeps held old new bytes ⊎ Brings old new bytes

-- These chunks have these local names, and those are brought, where the content had others; all are taken.
pub record IsSoFar (held : List (List (HeldPiece × List ℕ))) (content : List LocalName) (done : List (List ℕ))
    (locals : List LocalName) (brought : List (List ℕ)) (taken : BTreeSet ChunkName) : Type 0 where
  pub count : length locals ≡ length done
  pub each : (ordinal : ℕ) (none : LocalName) → ordinal < length done
      → IsHeldAs held (slice_index_or locals ordinal none) (slice_index_or done ordinal [])
      ⊎ IsBroughtAs brought (slice_index_or locals ordinal none) (slice_index_or done ordinal [])
  pub below : AreNumbered held → (name : LocalName) → Has locals name → name.plan ≡ 0
      → name.ordinal < length brought
  pub once : AreNumbered held → repeats [] locals ≡ false
  pub apart : AreNumbered held → (name : LocalName) → Has locals name → (name.plan ≡ 0 → ⊥)
      → Has content name → ⊥
  pub fewer : length brought ≤ length done
  pub all_brought : (ordinal : ℕ) → ordinal < length brought → Has locals (brought_name ordinal)
  pub small : (most : ℕ) → AllByRecursion (λ bytes. length bytes ≤ most) done
      → AllByRecursion (λ bytes. length bytes ≤ most) brought
  pub all_taken : HasNames (content ++ locals) taken

abbrev pub KeepsSoFar : List (List (HeldPiece × List ℕ)) → List LocalName → List (List ℕ) → Keeping → Type 0
KeepsSoFar held content done keeping =
    IsSoFar held content done keeping.locals.items keeping.brought keeping.taken
