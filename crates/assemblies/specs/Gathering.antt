-- What has come of the chunks that are awaited.
use Rattle.std.specs.Prelude.{◌≡◌, ℕ, ◌<◌, ◌==◌, ◌&&◌, Bool, true, false, not, if◌then◌else◌, List, [], ◌∷◌, map}
use Rattle.std.specs.Prelude.{length, Option, Some, None, is_none, is_some, count_by}
use Rattle.std.specs.List.{list_any, list_all, AllByRecursion, HoldsAt}
use Rattle.assemblies.specs.declared.awaiting.Awaited.{Awaited}
use Rattle.assemblies.specs.Places.{Rises}

-- a chunk that is awaited, and what has come of it
abbrev pub Slot : Type 0
Slot = Awaited × Option (List ℕ)

-- nothing has come
abbrev pub waiting : List Awaited → List Slot
waiting awaited = map (λ it. (it, None)) awaited

abbrev pub stands_at : ℕ → ℕ → Awaited → Bool
stands_at column place it = (it.column == column) && (it.place == place)

abbrev pub has_place : ℕ → ℕ → ℕ → Awaited → Bool
has_place column place len it = stands_at column place it && (it.len == len)

-- a chunk of this column, place and length that hasn't come
abbrev pub is_lacking : ℕ → ℕ → ℕ → Slot → Bool
is_lacking column place len slot = has_place column place len slot.0 && is_none slot.1

-- it is there where it was lacking; nothing else changes
abbrev pub taken : ℕ → ℕ → List ℕ → List Slot → List Slot
taken column place bytes [] = []
taken column place bytes (slot ∷ slots) =
    (if is_lacking column place (length bytes) slot then (slot.0, Some bytes) else slot)
    ∷ taken column place bytes slots

abbrev pub takes : ℕ → ℕ → List ℕ → List Slot → Bool
takes column place bytes slots = list_any (is_lacking column place (length bytes)) slots

abbrev pub is_whole : List Slot → Bool
is_whole slots = list_all (λ slot. is_some slot.1) slots

-- the chunks that have come, in order
abbrev pub chunks_of : List Slot → List (List ℕ)
chunks_of [] = []
chunks_of ((it, None) ∷ slots) = chunks_of slots
chunks_of ((it, Some bytes) ∷ slots) = bytes ∷ chunks_of slots

-- ---- how an assembly is kept: whether each chunk has come, and the bytes of those that have

abbrev pub slots_of : List Awaited → List Bool → List (List ℕ) → List Slot
slots_of [] came chunks = []
slots_of (it ∷ awaited) [] chunks = []
slots_of (it ∷ awaited) (here ∷ came) [] = []
slots_of (it ∷ awaited) (here ∷ came) (bytes ∷ chunks) =
    (it, (if here then Some bytes else None)) ∷ slots_of awaited came chunks

pub record IsAssembly (awaited : List Awaited) (came : List Bool) (chunks : List (List ℕ)) (lacking : ℕ) : Type 0 where
  pub rising : Rises awaited
  pub flags : length came ≡ length awaited
  pub count : length chunks ≡ length awaited
  pub lacks : lacking ≡ count_by not came

-- ---- where a chunk is found

abbrev pub NoneStands : ℕ → ℕ → List Awaited → Type 0
NoneStands column place awaited = AllByRecursion (λ it. stands_at column place it ≡ false) awaited

pub record StandsAt (column place : ℕ) (awaited : List Awaited) (number : ℕ) : Type 0 where
  pub within : number < length awaited
  pub here : HoldsAt (λ it. stands_at column place it ≡ true) awaited number

abbrev pub NoneLacks : ℕ → ℕ → ℕ → List Awaited → List Bool → Type 0
NoneLacks column place len [] came = Unit {0}
NoneLacks column place len (it ∷ awaited) [] = Unit {0}
NoneLacks column place len (it ∷ awaited) (here ∷ came) =
    ((has_place column place len it && not here) ≡ false) × NoneLacks column place len awaited came

pub record LacksAt (column place len : ℕ) (awaited : List Awaited) (came : List Bool) (number : ℕ) : Type 0 where
  pub within : number < length awaited
  pub here : HoldsAt (λ it. has_place column place len it ≡ true) awaited number
  pub still : HoldsAt (λ here. here ≡ false) came number
