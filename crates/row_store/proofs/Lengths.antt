-- How long payloads are.
use Rattle.std.proofs.Common.{◌≡◌, ℕ, zero, suc, ◌+◌, ◌*◌, ◌<◌, ◌≤◌, Bool, true, false, List, [], ◌∷◌, ◌++◌, length, take, drop, get_or, refl, sym, ◌∙◌, ap, arith, length-append, take-append-drop}
use Rattle.std.specs.Int.{w32, w64, to_be_bytes}
use Rattle.std.specs.Prelude.{◌&&◌}
use Rattle.std.specs.List.{flat_map, list_all}
use Rattle.std.proofs.lemmas.List.{take_more}
use Rattle.std.proofs.lemmas.Grind.{flat_map-append}
use Rattle.std.proofs.lemmas.List.Concat.{flat_map-cons}
use Rattle.row_value.specs.declared.pieces.Piece.{Piece}
use Rattle.row_value.specs.declared.pieces.Piece.TheVariants.{Keep, Fresh}
use Rattle.row_value.specs.declared.pieces.PieceObject.{PieceObject}
use Rattle.value_codec.specs.Spelling.{list_spelling, content_spelling, piece_spelling, object_spelling}
use Rattle.row_store.specs.declared.stored.LastWrite.{LastWrite}
use Rattle.row_store.specs.declared.stored.StoredRow.{StoredRow}
use Rattle.row_store.specs.Spelling.{is_keep, last_spelling, row_payload}

last_len : (last : LastWrite) → length (last_spelling last) ≡ 20
last_len last = omega (arith, length-append (to_be_bytes w32 last.client) (to_be_bytes w64 last.number ++ to_be_bytes w64 last.version), length-append (to_be_bytes w64 last.number) (to_be_bytes w64 last.version))

pub lasts_len : (lasts : List LastWrite) → length (flat_map last_spelling lasts) ≡ 20 * length lasts
lasts_len [] = refl
lasts_len (last ∷ lasts) = omega (arith, ap length (flat_map-cons last_spelling last lasts), length-append (last_spelling last) (flat_map last_spelling lasts), last_len last, lasts_len lasts)

pub row_len : (stored : StoredRow) → length (row_payload stored) ≡ 13 + length stored.row + length (content_spelling stored.content) + 20 * length stored.pairs
row_len stored =
    let v = to_be_bytes w64 stored.version in
    let c = content_spelling stored.content in
    let f = flat_map last_spelling stored.pairs in
    let n = to_be_bytes w32 (length stored.pairs) in
    omega (
      arith,
      length-append stored.row (v ++ (c ++ (n ++ f))),
      length-append v (c ++ (n ++ f)),
      length-append c (n ++ f),
      length-append n f,
      lasts_len stored.pairs,
    )

-- ---- sums over lists

-- an item at a place, behind those before it
pub next_len : {X : Type 0} (spell : X → List ℕ) (i : ℕ) (xs : List X) (d : X) → i < length xs
    → length (flat_map spell (take (i + 1) xs)) ≡ length (flat_map spell (take i xs)) + length (spell (get_or xs i d))
next_len {X} spell i xs d lt =
    ap (λ (l : List X). length (flat_map spell l)) (take_more xs i d lt)
    ∙ (ap length (flat_map-append spell (take i xs) (get_or xs i d ∷ []))
    ∙ omega (arith, length-append (flat_map spell (take i xs)) (flat_map spell (get_or xs i d ∷ [])), ap length (flat_map-cons spell (get_or xs i d) []), length-append (spell (get_or xs i d)) (flat_map spell [])))

pub front_len : {X : Type 0} (spell : X → List ℕ) (i : ℕ) (xs : List X) → length (flat_map spell (take i xs)) ≤ length (flat_map spell xs)
front_len {X} spell i xs =
    let parts = ap (flat_map spell) (take-append-drop i xs) in
    omega (arith, ap length (sym parts), ap length (flat_map-append spell (take i xs) (drop i xs)), length-append (flat_map spell (take i xs)) (flat_map spell (drop i xs)))

keep_len : (pieces : List Piece) → list_all is_keep pieces ≡ true → length (flat_map piece_spelling pieces) ≡ 13 * length pieces
keep_len [] h = refl
keep_len (Keep name ∷ pieces) h =
    omega (arith, ap length (flat_map-cons piece_spelling (Keep name) pieces), length-append (piece_spelling (Keep name)) (flat_map piece_spelling pieces), length-append (to_be_bytes w64 name.version) (to_be_bytes w32 name.ordinal), keep_len pieces h)
keep_len (Fresh ordinal ∷ pieces) h = absurd cc

pub object_len : (object : PieceObject) → list_all is_keep object.pieces ≡ true → length (object_spelling object) ≡ 8 + 13 * length object.pieces
object_len object h =
    omega (arith, length-append (to_be_bytes w32 object.len) (list_spelling piece_spelling object.pieces), length-append (to_be_bytes w32 (length object.pieces)) (flat_map piece_spelling object.pieces), keep_len object.pieces h)

both : (a b : Bool) → a && b ≡ true → (a ≡ true) × (b ≡ true)
both true b h = (refl, h)
both false b h = absurd cc

pub keeps_at : (objects : List PieceObject) (i : ℕ) (d : PieceObject) → i < length objects → list_all (λ (o : PieceObject). list_all is_keep o.pieces) objects ≡ true
    → list_all is_keep (get_or objects i d).pieces ≡ true
keeps_at [] i d lt h = absurd (omega arith)
keeps_at (o ∷ objects) zero d lt h = (both (list_all is_keep o.pieces) (list_all (λ (o : PieceObject). list_all is_keep o.pieces) objects) h).0
keeps_at (o ∷ objects) (suc i) d lt h = keeps_at objects i d (omega arith) (both (list_all is_keep o.pieces) (list_all (λ (o : PieceObject). list_all is_keep o.pieces) objects) h).1
