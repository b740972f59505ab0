-- Cells, pieces, objects and contents: where reading fails, no spelling goes on.
use Rattle.std.proofs.Common.{◌≡◌, ℕ, suc, ◌^◌, ◌<◌, ◌≤◌, Bool, true, false, cond, eqb, ltb, ◌&&◌, List, [], ◌∷◌, ◌++◌, length, Err, refl, sym, ap, subst, ◌∙◌, arith, inl, inr}
use Rattle.std.specs.Int.{w32, w64, to_be_bytes, cast_unsigned, cast_signed}
use Rattle.std.proofs.lemmas.Bool.{eqb-true, eqb-false, ltb-true, ltb-false}
use Rattle.std.proofs.lemmas.Int.{of_z-to_z}
use Rattle.std.proofs.Math.Facts.{Fits-of_z, sfits_to_z}
use Rattle.stab_base.specs.Codec.{IsBytes, counted}
use Rattle.stab_base.specs.declared.chunk_name.ChunkName.{ChunkName}
use Rattle.row_value.specs.declared.content.Cell.{Cell}
use Rattle.row_value.specs.declared.content.Cell.TheVariants as cells
use Rattle.row_value.specs.declared.pieces.Piece.{Piece}
use Rattle.row_value.specs.declared.pieces.Piece.TheVariants.{Keep, Fresh}
use Rattle.row_value.specs.declared.pieces.PieceObject.{PieceObject}
use Rattle.row_value.specs.declared.pieces.PieceContent.{PieceContent}
use Rattle.row_value.specs.declared.pieces.PieceContent.TheVariants.{Gone, Row}
use Rattle.value_codec.specs.FirstBad.{IsFirstBad}
use Rattle.value_codec.specs.Spelling.{flag_spelling, list_spelling, cell_spelling, HasCellSpelling, name_spelling, HasNameSpelling, piece_spelling, HasPieceSpelling, object_spelling}
use Rattle.value_codec.specs.Spelling.{content_spelling, HasContentSpelling, HasKeptSpelling}
use Rattle.value_codec.specs.Reading.{byte_at, number_at, flag_at, text_at, list_at, int_at, bool_at, text_cell_at, cell_at, after_cell, cell_in, name_at, keep_at, fresh_at, piece_at, exactly_at}
use Rattle.value_codec.specs.Reading.{fresh_is_at, piece_in, after_piece, object_in, after_object, row_from, content_from, content_at, kept_content_at}
use Rattle.value_codec.proofs.FieldReads.{gives, four_reads, eight_reads}
use Rattle.value_codec.proofs.CellReads.{cell_reads}
use Rattle.value_codec.proofs.PieceReads.{IsNext, next_reads}
use Rattle.value_codec.proofs.ContentReads.{IsObjectNext, object_reads, AreNext, pieces_read, AreCells, AreObjectsFrom, cells_read, objects_read, IsContentFrom, content_is, is_content, kept_is}
use Rattle.value_codec.proofs.ContentReads.{is_kept}
use Rattle.value_codec.proofs.Stops.{Stops, retold_stop, err_is, not_ok, bind_err, branch_err, one_err, head_is, tail_is, moved, behind, no_byte, bad_byte, two_fail_made}
use Rattle.value_codec.proofs.FieldStops.{four_stop, eight_stop, flag_stop, exactly_fails, Given, given, IsText, text_stop, list_stop}

pub IsBytes-rest : (b : ℕ) (bytes : List ℕ) → IsBytes (b ∷ bytes) → IsBytes bytes
IsBytes-rest b bytes h i = h (suc i)

pub differ : {A : Type 0} (m n : ℕ) (xs ys : List ℕ) → eqb m n ≡ false → m ∷ xs ≡ n ∷ ys → A
differ m n xs ys apart e = absurd (eqb-false m n apart (head_is m n xs ys e))

-- ---- cells

int_back : (z : Cell) (others : List ℕ) → HasCellSpelling z → cell_spelling z ≡ 1 ∷ others → (n : ℕ) × (n < 2 ^ 64) × (to_be_bytes w64 n ≡ others)
int_back (cells.Int n) others h e = (cast_unsigned w64 n, (Fits-of_z {w = w64} {z = n} h).fits, tail_is 1 1 (to_be_bytes w64 (cast_unsigned w64 n)) others e)
int_back (cells.Bool b) others h e = differ 2 1 (flag_spelling b) others refl e
int_back (cells.Text text) others h e = differ 3 1 (counted text) others refl e

bool_back : (z : Cell) (others : List ℕ) → HasCellSpelling z → cell_spelling z ≡ 2 ∷ others → (b : Bool) × Unit {0} × (flag_spelling b ≡ others)
bool_back (cells.Int n) others h e = differ 1 2 (to_be_bytes w64 (cast_unsigned w64 n)) others refl e
bool_back (cells.Bool b) others h e = (b, tt, tail_is 2 2 (flag_spelling b) others e)
bool_back (cells.Text text) others h e = differ 3 2 (counted text) others refl e

text_back : (z : Cell) (others : List ℕ) → HasCellSpelling z → cell_spelling z ≡ 3 ∷ others → (text : List ℕ) × IsText text × (counted text ≡ others)
text_back (cells.Int n) others h e = differ 1 3 (to_be_bytes w64 (cast_unsigned w64 n)) others refl e
text_back (cells.Bool b) others h e = differ 2 3 (flag_spelling b) others refl e
text_back (cells.Text text) others h e = (text, h, tail_is 3 3 (counted text) others e)

no_cell : (b : ℕ) → eqb b 1 ≡ false → eqb b 2 ≡ false → eqb b 3 ≡ false → (z : Cell) (others : List ℕ) → HasCellSpelling z → cell_spelling z ≡ b ∷ others → ⊥
no_cell b p q r (cells.Int n) others h e = eqb-false b 1 p (sym (head_is 1 b (to_be_bytes w64 (cast_unsigned w64 n)) others e))
no_cell b p q r (cells.Bool f) others h e = eqb-false b 2 q (sym (head_is 2 b (flag_spelling f) others e))
no_cell b p q r (cells.Text text) others h e = eqb-false b 3 r (sym (head_is 3 b (counted text) others e))

abbrev BadCell : List ℕ → ℕ → Type 0
BadCell bytes left = IsFirstBad HasCellSpelling cell_spelling bytes left

abbrev some_cell : Cell
some_cell = cells.Bool true

int_fails : (bytes : List ℕ) (left : ℕ) → IsBytes bytes → int_at bytes ≡ Err left → BadCell (1 ∷ bytes) left
unfolding int_at
int_fails bytes left fits e =
    behind 1 (λ n. n < 2 ^ 64) (to_be_bytes w64) HasCellSpelling cell_spelling bytes left
    (λ n h. (cells.Int (cast_signed w64 n), sfits_to_z {w = w64} {n = n} (record { fits = h }), ap (λ (m : ℕ). 1 ∷ to_be_bytes w64 m) (of_z-to_z w64 n h)))
    int_back (eight_stop.fails bytes left fits (one_err (number_at w64 bytes) (λ n. cells.Int (cast_signed w64 n)) left e))

bool_fails : (bytes : List ℕ) (left : ℕ) → IsBytes bytes → bool_at bytes ≡ Err left → BadCell (2 ∷ bytes) left
unfolding bool_at
bool_fails bytes left fits e =
    behind 2 (λ b. Unit {0}) flag_spelling HasCellSpelling cell_spelling bytes left (λ b h. (cells.Bool b, tt, refl)) bool_back
    (flag_stop.fails bytes left fits (one_err (flag_at bytes) (λ b. cells.Bool b) left e))

text_cell_fails : (bytes : List ℕ) (left : ℕ) → IsBytes bytes → text_cell_at bytes ≡ Err left → BadCell (3 ∷ bytes) left
unfolding text_cell_at
text_cell_fails bytes left fits e =
    behind 3 IsText counted HasCellSpelling cell_spelling bytes left (λ text h. (cells.Text text, h, refl)) text_back
    (text_stop.fails bytes left fits (one_err (text_at bytes) (λ text. cells.Text text) left e))

cell_fails : (bytes : List ℕ) (left : ℕ) → IsBytes bytes → cell_at bytes ≡ Err left → BadCell bytes left
unfolding cell_at byte_at
cell_fails [] left fits e = subst (BadCell []) (err_is {A = Cell × List ℕ} 0 left e) (no_byte HasCellSpelling cell_spelling some_cell tt)
cell_fails (b ∷ bytes) left fits e =
    let rest = IsBytes-rest b bytes fits in
    let tagged : (n : ℕ) → b ≡ n → BadCell (n ∷ bytes) left → BadCell (b ∷ bytes) left = λ n is. subst (λ (m : ℕ). BadCell (m ∷ bytes) left) (sym is) in
    elim (branch_err (eqb b 1) (int_at bytes) (cond (eqb b 2) (bool_at bytes) (cond (eqb b 3) (text_cell_at bytes) (Err (suc (length bytes))))) left e) [
      | inl y ↦ tagged 1 (eqb-true _ _ y.0) (int_fails bytes left rest y.1)
      | inr p ↦ elim (branch_err (eqb b 2) (bool_at bytes) (cond (eqb b 3) (text_cell_at bytes) (Err (suc (length bytes)))) left p.1) [
        | inl y ↦ tagged 2 (eqb-true _ _ y.0) (bool_fails bytes left rest y.1)
        | inr q ↦ elim (branch_err (eqb b 3) (text_cell_at bytes) (Err (suc (length bytes))) left q.1) [
          | inl y ↦ tagged 3 (eqb-true _ _ y.0) (text_cell_fails bytes left rest y.1)
          | inr r ↦ subst (BadCell (b ∷ bytes)) (err_is {A = Cell × List ℕ} (suc (length bytes)) left r.1) (bad_byte HasCellSpelling cell_spelling some_cell b bytes tt (no_cell b p.0 q.0 r.0))
        ]
      ]
    ]

pub cell_stop : Stops HasCellSpelling cell_spelling cell_at
cell_stop = record { some = some_cell; has = tt; fails = cell_fails }

-- ---- names

abbrev name_of : ℕ → ℕ → ChunkName
name_of version ordinal = record { version = version; ordinal = ordinal }

abbrev no_name : ChunkName
no_name = name_of 0 0

no_name_fits : HasNameSpelling no_name
no_name_fits = record { version = omega arith; ordinal = omega arith }

name_fails : (bytes : List ℕ) (left : ℕ) → IsBytes bytes → name_at bytes ≡ Err left → IsFirstBad HasNameSpelling name_spelling bytes left
unfolding name_at
name_fails bytes left fits e =
    moved {W = ℕ × ℕ} (λ p. (p.0 < 2 ^ 64) × (p.1 < 2 ^ 32)) (λ p. to_be_bytes w64 p.0 ++ to_be_bytes w32 p.1) HasNameSpelling name_spelling bytes left
    (λ p h. (name_of p.0 p.1, record { version = h.0; ordinal = h.1 }, refl)) (λ n h. ((n.version, n.ordinal), (h.version, h.ordinal), refl))
    (two_fail_made (λ n. n < 2 ^ 64) (to_be_bytes w64) (number_at w64) (λ v n. n < 2 ^ 32) (λ (v : ℕ). to_be_bytes w32) (λ (v : ℕ). number_at w32) eight_reads eight_stop (λ v. four_reads) (λ v h. four_stop) name_of bytes left fits e)

pub name_stop : Stops HasNameSpelling name_spelling name_at
name_stop = record { some = no_name; has = no_name_fits; fails = name_fails }

-- ---- pieces

keep_err : (bytes : List ℕ) (left : ℕ) → keep_at bytes ≡ Err left → name_at bytes ≡ Err left
unfolding keep_at
keep_err bytes left e = one_err (name_at bytes) (λ name. Keep name) left e

fresh_err : (bytes : List ℕ) (left : ℕ) → fresh_at bytes ≡ Err left → number_at w32 bytes ≡ Err left
unfolding fresh_at
fresh_err bytes left e = one_err (number_at w32 bytes) (λ n. Fresh n) left e

keep_back : (z : Piece) (others : List ℕ) → HasPieceSpelling z → piece_spelling z ≡ 0 ∷ others → (n : ChunkName) × HasNameSpelling n × (name_spelling n ≡ others)
keep_back (Keep n) others h e = (n, h, tail_is 0 0 (name_spelling n) others e)
keep_back (Fresh n) others h e = differ 1 0 (to_be_bytes w32 n) others refl e

fresh_back : (z : Piece) (others : List ℕ) → HasPieceSpelling z → piece_spelling z ≡ 1 ∷ others → (n : ℕ) × (n < 2 ^ 32) × (to_be_bytes w32 n ≡ others)
fresh_back (Keep n) others h e = differ 0 1 (name_spelling n) others refl e
fresh_back (Fresh n) others h e = (n, h, tail_is 1 1 (to_be_bytes w32 n) others e)

no_piece : (b : ℕ) → eqb b 0 ≡ false → eqb b 1 ≡ false → (z : Piece) (others : List ℕ) → HasPieceSpelling z → piece_spelling z ≡ b ∷ others → ⊥
no_piece b p q (Keep n) others h e = eqb-false b 0 p (sym (head_is 0 b (name_spelling n) others e))
no_piece b p q (Fresh n) others h e = eqb-false b 1 q (sym (head_is 1 b (to_be_bytes w32 n) others e))

abbrev BadPiece : List ℕ → ℕ → Type 0
BadPiece bytes left = IsFirstBad HasPieceSpelling piece_spelling bytes left

piece_fails : (bytes : List ℕ) (left : ℕ) → IsBytes bytes → piece_at bytes ≡ Err left → BadPiece bytes left
unfolding piece_at byte_at
piece_fails [] left fits e = subst (BadPiece []) (err_is {A = Piece × List ℕ} 0 left e) (no_byte HasPieceSpelling piece_spelling (Keep no_name) no_name_fits)
piece_fails (b ∷ bytes) left fits e =
    let rest = IsBytes-rest b bytes fits in
    let tagged : (n : ℕ) → b ≡ n → BadPiece (n ∷ bytes) left → BadPiece (b ∷ bytes) left = λ n is. subst (λ (m : ℕ). BadPiece (m ∷ bytes) left) (sym is) in
    elim (branch_err (eqb b 0) (keep_at bytes) (cond (eqb b 1) (fresh_at bytes) (Err (suc (length bytes)))) left e) [
      | inl y ↦ tagged 0 (eqb-true _ _ y.0) (behind 0 HasNameSpelling name_spelling HasPieceSpelling piece_spelling bytes left (λ n h. (Keep n, h, refl)) keep_back (name_fails bytes left rest (keep_err bytes left y.1)))
      | inr p ↦ elim (branch_err (eqb b 1) (fresh_at bytes) (Err (suc (length bytes))) left p.1) [
        | inl y ↦ tagged 1 (eqb-true _ _ y.0) (behind 1 (λ n. n < 2 ^ 32) (to_be_bytes w32) HasPieceSpelling piece_spelling bytes left (λ n h. (Fresh n, h, refl)) fresh_back (four_stop.fails bytes left rest (fresh_err bytes left y.1)))
        | inr q ↦ subst (BadPiece (b ∷ bytes)) (err_is {A = Piece × List ℕ} (suc (length bytes)) left q.1) (bad_byte HasPieceSpelling piece_spelling (Keep no_name) b bytes no_name_fits (no_piece b p.0 q.0))
      ]
    ]

pub piece_stop : Stops HasPieceSpelling piece_spelling piece_at
piece_stop = record { some = Keep no_name; has = no_name_fits; fails = piece_fails }

-- ---- a piece behind so many new chunks

fresh_is_err : (fresh : ℕ) (bytes : List ℕ) (left : ℕ) → fresh_is_at fresh bytes ≡ Err left → exactly_at (to_be_bytes w32 fresh) bytes ≡ Err left
unfolding fresh_is_at
fresh_is_err fresh bytes left e =
    elim (bind_err (exactly_at (to_be_bytes w32 fresh) bytes) (λ rest. gives (Fresh fresh) rest) left e) [
      | inl h ↦ h
      | inr h ↦ absurd (not_ok (Fresh fresh, h.0) left h.2)
    ]

next_keep_back : (fresh : ℕ) (z : Piece) (others : List ℕ) → IsNext fresh z → piece_spelling z ≡ 0 ∷ others → (n : ChunkName) × HasNameSpelling n × (name_spelling n ≡ others)
next_keep_back fresh (Keep n) others h e = (n, h, tail_is 0 0 (name_spelling n) others e)
next_keep_back fresh (Fresh n) others h e = differ 1 0 (to_be_bytes w32 n) others refl e

next_back : (fresh : ℕ) (z : Piece) (others : List ℕ) → IsNext fresh z → piece_spelling z ≡ 1 ∷ others → (u : Unit {0}) × Unit {0} × (to_be_bytes w32 fresh ≡ others)
next_back fresh (Keep n) others h e = differ 0 1 (name_spelling n) others refl e
next_back fresh (Fresh n) others h e = (tt, tt, ap (to_be_bytes w32) (sym h.0) ∙ tail_is 1 1 (to_be_bytes w32 n) others e)

both_false : (a b : Bool) → (a && b) ≡ false → a ≡ true → b ≡ false
both_false true b e h = e
both_false false b e h = absurd cc

both_are : (a b : Bool) → (a && b) ≡ true → (a ≡ true) × (b ≡ true)
both_are true b e = (refl, e)
both_are false b e = absurd cc

no_next : (fresh b : ℕ) → eqb b 0 ≡ false → (eqb b 1 && ltb fresh (2 ^ 32)) ≡ false → (z : Piece) (others : List ℕ) → IsNext fresh z → piece_spelling z ≡ b ∷ others → ⊥
no_next fresh b p q (Keep n) others h e = eqb-false b 0 p (sym (head_is 0 b (name_spelling n) others e))
no_next fresh b p q (Fresh n) others h e =
    let one : 1 ≡ b = head_is 1 b (to_be_bytes w32 n) others e in
    let test : ltb fresh (2 ^ 32) ≡ false = both_false (eqb b 1) (ltb fresh (2 ^ 32)) q (ap (λ (m : ℕ). eqb m 1) (sym one)) in
    let full : 2 ^ 32 ≤ fresh = ltb-false _ _ test in
    omega (arith, full, h.1)

abbrev BadNext : ℕ → List ℕ → ℕ → Type 0
BadNext fresh bytes left = IsFirstBad (IsNext fresh) piece_spelling bytes left

next_fails : (fresh : ℕ) (bytes : List ℕ) (left : ℕ) → IsBytes bytes → piece_in fresh bytes ≡ Err left → BadNext fresh bytes left
unfolding piece_in byte_at
next_fails fresh [] left fits e = subst (BadNext fresh []) (err_is {A = Piece × List ℕ} 0 left e) (no_byte (IsNext fresh) piece_spelling (Keep no_name) no_name_fits)
next_fails fresh (b ∷ bytes) left fits e =
    let rest = IsBytes-rest b bytes fits in
    let tagged : (n : ℕ) → b ≡ n → BadNext fresh (n ∷ bytes) left → BadNext fresh (b ∷ bytes) left = λ n is. subst (λ (m : ℕ). BadNext fresh (m ∷ bytes) left) (sym is) in
    elim (branch_err (eqb b 0) (keep_at bytes) (cond (eqb b 1 && ltb fresh (2 ^ 32)) (fresh_is_at fresh bytes) (Err (suc (length bytes)))) left e) [
      | inl y ↦ tagged 0 (eqb-true _ _ y.0) (behind 0 HasNameSpelling name_spelling (IsNext fresh) piece_spelling bytes left (λ n h. (Keep n, h, refl)) (next_keep_back fresh) (name_fails bytes left rest (keep_err bytes left y.1)))
      | inr p ↦ elim (branch_err (eqb b 1 && ltb fresh (2 ^ 32)) (fresh_is_at fresh bytes) (Err (suc (length bytes))) left p.1) [
        | inl y ↦
            let tests = both_are (eqb b 1) (ltb fresh (2 ^ 32)) y.0 in
            tagged 1 (eqb-true _ _ tests.0) (behind 1 Given (given (to_be_bytes w32 fresh)) (IsNext fresh) piece_spelling bytes left (λ u h. (Fresh fresh, (refl, ltb-true _ _ tests.1), refl)) (next_back fresh)
            (exactly_fails (to_be_bytes w32 fresh) bytes left (fresh_is_err fresh bytes left y.1)))
        | inr q ↦ subst (BadNext fresh (b ∷ bytes)) (err_is {A = Piece × List ℕ} (suc (length bytes)) left q.1) (bad_byte (IsNext fresh) piece_spelling (Keep no_name) b bytes no_name_fits (no_next fresh b p.0 q.0))
      ]
    ]

next_stop : (fresh : ℕ) → Stops (IsNext fresh) piece_spelling (piece_in fresh)
next_stop fresh = record { some = Keep no_name; has = no_name_fits; fails = next_fails fresh }

-- ---- objects

abbrev object_of : ℕ → List Piece → PieceObject
object_of len pieces = record { len = len; pieces = pieces }

pieces_stop : (fresh : ℕ) → Stops (AreNext fresh) (list_spelling piece_spelling) (list_at after_piece piece_in fresh)
pieces_stop fresh = list_stop after_piece IsNext piece_spelling piece_in next_reads next_stop fresh

object_fails : (fresh : ℕ) (bytes : List ℕ) (left : ℕ) → IsBytes bytes → object_in fresh bytes ≡ Err left → IsFirstBad (IsObjectNext fresh) object_spelling bytes left
unfolding object_in
object_fails fresh bytes left fits e =
    moved {W = ℕ × List Piece} (λ p. (p.0 < 2 ^ 32) × AreNext fresh p.1) (λ p. to_be_bytes w32 p.0 ++ list_spelling piece_spelling p.1) (IsObjectNext fresh) object_spelling bytes left
    (λ p h. (object_of p.0 p.1, (h.0, h.1), refl)) (λ o h. ((o.len, o.pieces), (h.0, h.1), refl))
    (two_fail_made (λ n. n < 2 ^ 32) (to_be_bytes w32) (number_at w32) (λ (n : ℕ). AreNext fresh) (λ (n : ℕ). list_spelling piece_spelling) (λ (n : ℕ). list_at after_piece piece_in fresh) four_reads four_stop (λ n. pieces_read fresh) (λ n h. pieces_stop fresh) object_of bytes left fits e)

object_stop : (fresh : ℕ) → Stops (IsObjectNext fresh) object_spelling (object_in fresh)
object_stop fresh = let none : List Piece = [] in record { some = object_of 0 none; has = (omega arith, (omega arith, tt)); fails = object_fails fresh }

-- ---- contents

cells_stop : Stops AreCells (list_spelling cell_spelling) (list_at after_cell cell_in tt)
cells_stop = list_stop after_cell (λ s. HasCellSpelling) cell_spelling cell_in (λ s. cell_reads) (λ s. cell_stop) tt

objects_stop : (fresh : ℕ) → Stops (AreObjectsFrom fresh) (list_spelling object_spelling) (list_at after_object object_in fresh)
objects_stop fresh = list_stop after_object IsObjectNext object_spelling object_in object_reads object_stop fresh

abbrev AreParts : ℕ → List Cell × List PieceObject → Type 0
AreParts fresh p = AreCells p.0 × AreObjectsFrom fresh p.1

abbrev parts_spelling : List Cell × List PieceObject → List ℕ
parts_spelling p = list_spelling cell_spelling p.0 ++ list_spelling object_spelling p.1

row_back : (fresh : ℕ) (z : PieceContent) (others : List ℕ) → IsContentFrom fresh z → content_spelling z ≡ 1 ∷ others
    → (p : List Cell × List PieceObject) × AreParts fresh p × (parts_spelling p ≡ others)
row_back fresh Gone others h e = differ 0 1 [] others refl e
row_back fresh (Row some objects) others h e = ((some, objects), h, tail_is 1 1 (parts_spelling (some, objects)) others e)

no_content : (fresh b : ℕ) → eqb b 0 ≡ false → eqb b 1 ≡ false → (z : PieceContent) (others : List ℕ) → IsContentFrom fresh z → content_spelling z ≡ b ∷ others → ⊥
no_content fresh b p q Gone others h e = eqb-false b 0 p (sym (head_is 0 b [] others e))
no_content fresh b p q (Row some objects) others h e = eqb-false b 1 q (sym (head_is 1 b (parts_spelling (some, objects)) others e))

abbrev BadContent : ℕ → List ℕ → ℕ → Type 0
BadContent fresh bytes left = IsFirstBad (IsContentFrom fresh) content_spelling bytes left

abbrev row_of : List Cell → List PieceObject → PieceContent
row_of some objects = Row some objects

row_fails : (fresh : ℕ) (bytes : List ℕ) (left : ℕ) → IsBytes bytes → row_from fresh bytes ≡ Err left → BadContent fresh (1 ∷ bytes) left
unfolding row_from
row_fails fresh bytes left fits e =
    behind {W = List Cell × List PieceObject} 1 (AreParts fresh) parts_spelling (IsContentFrom fresh) content_spelling bytes left (λ p h. (Row p.0 p.1, h, refl)) (row_back fresh)
    (two_fail_made AreCells (list_spelling cell_spelling) (list_at after_cell cell_in tt) (λ (cs : List Cell). AreObjectsFrom fresh) (λ (cs : List Cell). list_spelling object_spelling) (λ (cs : List Cell). list_at after_object object_in fresh) cells_read cells_stop (λ cs. objects_read fresh) (λ cs h. objects_stop fresh) row_of bytes left fits e)

content_fails : (fresh : ℕ) (bytes : List ℕ) (left : ℕ) → IsBytes bytes → content_from fresh bytes ≡ Err left → BadContent fresh bytes left
unfolding content_from byte_at
content_fails fresh [] left fits e = subst (BadContent fresh []) (err_is {A = PieceContent × List ℕ} 0 left e) (no_byte (IsContentFrom fresh) content_spelling Gone tt)
content_fails fresh (b ∷ bytes) left fits e =
    let rest = IsBytes-rest b bytes fits in
    elim (branch_err (eqb b 0) (gives Gone bytes) (cond (eqb b 1) (row_from fresh bytes) (Err (suc (length bytes)))) left e) [
      | inl y ↦ absurd (not_ok (Gone, bytes) left y.1)
      | inr p ↦ elim (branch_err (eqb b 1) (row_from fresh bytes) (Err (suc (length bytes))) left p.1) [
        | inl y ↦ subst (λ (m : ℕ). BadContent fresh (m ∷ bytes) left) (sym (eqb-true b 1 y.0)) (row_fails fresh bytes left rest y.1)
        | inr q ↦ subst (BadContent fresh (b ∷ bytes)) (err_is {A = PieceContent × List ℕ} (suc (length bytes)) left q.1) (bad_byte (IsContentFrom fresh) content_spelling Gone b bytes tt (no_content fresh b p.0 q.0))
      ]
    ]

content_from_stop : (fresh : ℕ) → Stops (IsContentFrom fresh) content_spelling (content_from fresh)
content_from_stop fresh = record { some = Gone; has = tt; fails = content_fails fresh }

pub content_stop : Stops HasContentSpelling content_spelling content_at
content_stop = retold_stop (IsContentFrom 0) HasContentSpelling content_spelling content_at (content_from_stop 0) content_is is_content

pub kept_stop : Stops HasKeptSpelling content_spelling kept_content_at
kept_stop = retold_stop (IsContentFrom (2 ^ 32)) HasKeptSpelling content_spelling kept_content_at (content_from_stop (2 ^ 32)) kept_is is_kept
