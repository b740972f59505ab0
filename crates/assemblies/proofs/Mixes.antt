-- Fragments of one content, in any order.
use Rattle.std.proofs.Common.{true, false, ◌≡◌, ℕ, Bool, List, [], ◌∷◌, length, Option, Some, None, refl, sym, ap, ◌∙◌}
use Rattle.std.specs.Prelude.{◌==◌, ◌&&◌, ◌||◌, map, is_some, is_none, if◌then◌else◌}
use Rattle.std.specs.List.{AllByRecursion, list_any, list_all}
use Rattle.std.proofs.lemmas.Bool.{eqb-true}
use Rattle.row_value.specs.declared.content.Content.{Content}
use Rattle.row_value.specs.declared.pieces.Piece.{Piece}
use Rattle.row_value.specs.declared.pieces.PieceContent.{PieceContent}
use Rattle.assemblies.specs.declared.awaiting.Awaited.{Awaited}
use Rattle.assemblies.specs.Places.{awaited_of}
use Rattle.assemblies.specs.Gathering.{Slot, waiting, stands_at, has_place, is_lacking, taken, takes, is_whole, chunks_of}
use Rattle.assemblies.proofs.Listing.{both_left, both_right}
use Rattle.assemblies.specs.Parts.{chunk_in, parts_at, parts_of, Fragment, gathered, brings, IsChunkOf, AreChunksOf}

abbrev pub places : List Slot → List Awaited
places slots = map (λ slot. slot.0) slots

-- ---- the places stay

place_stays : (b : Bool) (slot : Slot) (came : Option (List ℕ)) → (λ (s : Slot). s.0) (if b then (slot.0, came) else slot) ≡ slot.0
place_stays true slot came = refl
place_stays false slot came = refl

pub places_stay : (column place : ℕ) (bytes : List ℕ) (slots : List Slot) → places (taken column place bytes slots) ≡ places slots
places_stay column place bytes [] = refl
places_stay column place bytes (slot ∷ slots) =
    ap (λ (z : List Awaited). (λ (s : Slot). s.0) (if is_lacking column place (length bytes) slot then (slot.0, Some bytes) else slot) ∷ z) (places_stay column place bytes slots)
    ∙ ap (λ (z : Awaited). z ∷ places slots) (place_stays (is_lacking column place (length bytes) slot) slot (Some bytes))

pub places_gathered : (fragments : List Fragment) (slots : List Slot) → places (gathered fragments slots) ≡ places slots
places_gathered [] slots = refl
places_gathered (it ∷ fragments) slots = places_gathered fragments (taken it.column it.place it.bytes slots) ∙ places_stay it.column it.place it.bytes slots

pub places_waiting : (awaited : List Awaited) → places (waiting awaited) ≡ awaited
places_waiting [] = refl
places_waiting (it ∷ awaited) = ap (λ (z : List Awaited). it ∷ z) (places_waiting awaited)

-- ---- what has come is the whole's

same_bytes : (a b : List ℕ) → Some a ≡ Some b → a ≡ b
same_bytes a b e = cc

-- a chunk that is lacking at a place stands there
stands : (column place len : ℕ) (slot : Slot) → is_lacking column place len slot ≡ true → (slot.0.column ≡ column) × (slot.0.place ≡ place)
stands column place len slot e =
    let here = both_left (stands_at column place slot.0) (slot.0.len == len) (both_left (has_place column place len slot.0) (is_none slot.1) e) in
    (eqb-true slot.0.column column (both_left (slot.0.column == column) (slot.0.place == place) here), eqb-true slot.0.place place (both_right (slot.0.column == column) (slot.0.place == place) here))

module _ (size : ℕ) (whole : Content) where
  pub none_came : (awaited : List Awaited) → AllByRecursion (IsChunkOf size whole) (waiting awaited)
  none_came [] = tt
  none_came (it ∷ awaited) = ((λ bytes e. absurd (let bad : None ≡ Some bytes = e in cc)), none_came awaited)

  module _ (column place : ℕ) (bytes : List ℕ) where
    one_came : (b : Bool) (slot : Slot) → is_lacking column place (length bytes) slot ≡ b → (b ≡ true → bytes ≡ chunk_in size whole column place) → IsChunkOf size whole slot
        → IsChunkOf size whole (if b then (slot.0, Some bytes) else slot)
    one_came true slot lack fits is = λ came e. sym (same_bytes bytes came e) ∙ fits refl
        ∙ (let at = stands column place (length bytes) slot lack in ap (λ c. chunk_in size whole c place) (sym at.0) ∙ ap (λ p. chunk_in size whole slot.0.column p) (sym at.1))
    one_came false slot lack fits is = is

    any_left : (a b : Bool) → a ≡ true → (a || b) ≡ true
    any_left true b e = refl
    any_left false b e = absurd (let bad : false ≡ true = e in cc)

    any_right : (a b : Bool) → b ≡ true → (a || b) ≡ true
    any_right true b e = refl
    any_right false b e = e

    pub more_came : (slots : List Slot) → (takes column place bytes slots ≡ true → bytes ≡ chunk_in size whole column place) → AllByRecursion (IsChunkOf size whole) slots
        → AllByRecursion (IsChunkOf size whole) (taken column place bytes slots)
    more_came [] fits all = tt
    more_came (slot ∷ slots) fits all = (
      one_came (is_lacking column place (length bytes) slot) slot refl (λ e. fits (any_left (is_lacking column place (length bytes) slot) (takes column place bytes slots) e)) all.0,
      more_came slots (λ e. fits (any_right (is_lacking column place (length bytes) slot) (takes column place bytes slots) e)) all.1,
    )

  pub whole_came : (slots : List Slot) → is_whole slots ≡ true → AllByRecursion (IsChunkOf size whole) slots → chunks_of slots ≡ parts_at size whole (places slots)
  whole_came [] e all = refl
  whole_came ((it, None) ∷ slots) e all = absurd (let bad : false ≡ true = e in cc)
  whole_came ((it, Some bytes) ∷ slots) e all =
      ap (λ (z : List ℕ). z ∷ chunks_of slots) (all.0 bytes refl) ∙ ap (λ (z : List (List ℕ)). chunk_in size whole it.column it.place ∷ z) (whole_came slots e all.1)

  all_came : (fragments : List Fragment) (slots : List Slot) → AreChunksOf size whole fragments slots → AllByRecursion (IsChunkOf size whole) slots
      → AllByRecursion (IsChunkOf size whole) (gathered fragments slots)
  all_came [] slots fits all = all
  all_came (it ∷ fragments) slots fits all = all_came fragments (taken it.column it.place it.bytes slots) fits.1 (more_came it.column it.place it.bytes slots fits.0 all)

  pub parts_came : (sends : Piece → Bool) (content : PieceContent) (fragments : List Fragment) → AreChunksOf size whole fragments (waiting (awaited_of sends size content))
      → is_whole (gathered fragments (waiting (awaited_of sends size content))) ≡ true
      → chunks_of (gathered fragments (waiting (awaited_of sends size content))) ≡ parts_of sends size content whole
  parts_came sends content fragments fits e =
      let start = waiting (awaited_of sends size content) in
      whole_came (gathered fragments start) e (all_came fragments start fits (none_came (awaited_of sends size content)))
      ∙ ap (parts_at size whole) (places_gathered fragments start ∙ places_waiting (awaited_of sends size content))

-- ---- whole once each has come

-- it is there, or one of the fragments brings it
abbrev came_by : List Fragment → Slot → Bool
came_by fragments slot = is_some slot.1 || list_any (brings slot.0) fragments

one_brought : (b : Bool) (it : Awaited) (came : Option (List ℕ)) (bytes : List ℕ) (rest : Awaited → Bool)
    → (λ (s : Slot). is_some s.1 || rest s.0) (if b && is_none came then (it, Some bytes) else (it, came)) ≡ (is_some came || (b || rest it))
one_brought true it None bytes rest = refl
one_brought true it (Some old) bytes rest = refl
one_brought false it None bytes rest = refl
one_brought false it (Some old) bytes rest = refl

more_brought : (f : Fragment) (fragments : List Fragment) (slots : List Slot) → list_all (came_by fragments) (taken f.column f.place f.bytes slots) ≡ list_all (came_by (f ∷ fragments)) slots
more_brought f fragments [] = refl
more_brought f fragments ((it, came) ∷ slots) =
    ap (λ (b : Bool). b && list_all (came_by fragments) (taken f.column f.place f.bytes slots))
    (one_brought (has_place f.column f.place (length f.bytes) it) it came f.bytes (λ a. list_any (brings a) fragments))
    ∙ ap (λ (b : Bool). (is_some came || list_any (brings it) (f ∷ fragments)) && b) (more_brought f fragments slots)

none_brought : (slots : List Slot) → is_whole slots ≡ list_all (came_by []) slots
none_brought [] = refl
none_brought ((it, None) ∷ slots) = refl
none_brought ((it, Some bytes) ∷ slots) = none_brought slots

whole_by : (fragments : List Fragment) (slots : List Slot) → is_whole (gathered fragments slots) ≡ list_all (came_by fragments) slots
whole_by [] slots = none_brought slots
whole_by (f ∷ fragments) slots = whole_by fragments (taken f.column f.place f.bytes slots) ∙ more_brought f fragments slots

all_brought : (fragments : List Fragment) (awaited : List Awaited) → list_all (came_by fragments) (waiting awaited) ≡ list_all (λ it. list_any (brings it) fragments) awaited
all_brought fragments [] = refl
all_brought fragments (it ∷ awaited) = ap (λ (b : Bool). list_any (brings it) fragments && b) (all_brought fragments awaited)

pub whole_when_brought : (awaited : List Awaited) (fragments : List Fragment) → is_whole (gathered fragments (waiting awaited)) ≡ list_all (λ it. list_any (brings it) fragments) awaited
whole_when_brought awaited fragments = whole_by fragments (waiting awaited) ∙ all_brought fragments awaited
