-- Objects and contents: what is read is spelled so, and what is spelled so is read.
use Rattle.std.proofs.Common.{◌≡◌, ℕ, suc, ◌+◌, ◌^◌, ◌<◌, cond, eqb, List, [], ◌∷◌, ◌++◌, length, Ok, Err, refl, sym, ap, subst, ◌∙◌, arith, inl, inr}
use Rattle.std.specs.List.{AllByRecursion}
use Rattle.std.specs.Int.{w32, to_be_bytes}
use Rattle.std.proofs.lemmas.Bool.{eqb-true}
use Rattle.std.proofs.lemmas.List.Concat.{flat_map-cons}
use Rattle.stab_base.specs.Codec.{IsBytes}
use Rattle.row_value.specs.declared.content.Cell.{Cell}
use Rattle.row_value.specs.declared.pieces.Piece.{Piece}
use Rattle.row_value.specs.declared.pieces.Piece.TheVariants.{Keep, Fresh}
use Rattle.row_value.specs.declared.pieces.PieceObject.{PieceObject}
use Rattle.row_value.specs.declared.pieces.PieceContent.{PieceContent}
use Rattle.row_value.specs.declared.pieces.PieceContent.TheVariants.{Gone, Row}
use Rattle.value_codec.specs.Spelling.{list_spelling, cell_spelling, HasCellSpelling, piece_spelling, HasPieceSpelling, fresh_in, object_spelling, HasObjectSpelling, pieces_of, CountsFrom}
use Rattle.value_codec.specs.Spelling.{content_spelling, HasContentSpelling, HasKeptSpelling}
use Rattle.value_codec.specs.Reading.{byte_at, number_at, list_at, after_cell, cell_in, piece_in, after_piece, object_in, after_object, row_from, content_from, content_at, kept_content_at}
use Rattle.value_codec.proofs.FieldReads.{bind_ok, ok_is, branch, no_fault, gives, Reads, retold, rest_fits, two_take, two_again, byte_reads, four_reads}
use Rattle.value_codec.proofs.ListReads.{EachFrom, list_reads, each_of, each_from}
use Rattle.value_codec.proofs.CellReads.{cell_reads}
use Rattle.value_codec.proofs.PieceReads.{IsNext, next_reads}
use Rattle.value_codec.proofs.FreshOrder.{fresh_in-append}

-- ---- objects

abbrev pub AreNext : ℕ → List Piece → Type 0
AreNext fresh pieces = (length pieces < 2 ^ 32) × EachFrom after_piece IsNext fresh pieces

abbrev pub IsObjectNext : ℕ → PieceObject → Type 0
IsObjectNext fresh object = (object.len < 2 ^ 32) × AreNext fresh object.pieces

abbrev object_of : ℕ → List Piece → PieceObject
object_of len pieces = record { len = len; pieces = pieces }

pub pieces_read : (fresh : ℕ) → Reads (AreNext fresh) (list_spelling piece_spelling) (list_at after_piece piece_in fresh)
pieces_read fresh = list_reads after_piece IsNext piece_spelling piece_in next_reads fresh

object_takes : (fresh : ℕ) (bytes : List ℕ) (x : PieceObject) (rest : List ℕ) → IsBytes bytes → object_in fresh bytes ≡ Ok (x, rest) → IsObjectNext fresh x × (bytes ≡ object_spelling x ++ rest)
unfolding object_in
object_takes fresh bytes x rest fits e =
    let t = two_take (λ n. n < 2 ^ 32) (to_be_bytes w32) (number_at w32) (λ (n : ℕ). AreNext fresh) (λ (n : ℕ). list_spelling piece_spelling) (λ (n : ℕ). list_at after_piece piece_in fresh) object_of four_reads (λ n. pieces_read fresh) bytes x rest fits e in
    subst (λ (o : PieceObject). IsObjectNext fresh o × (bytes ≡ object_spelling o ++ rest)) t.2 ((t.3, t.4), t.5)

object_again : (fresh : ℕ) (x : PieceObject) (rest : List ℕ) → IsObjectNext fresh x → object_in fresh (object_spelling x ++ rest) ≡ Ok (x, rest)
unfolding object_in
object_again fresh x rest h = two_again (λ n. n < 2 ^ 32) (to_be_bytes w32) (number_at w32) (λ (n : ℕ). AreNext fresh) (λ (n : ℕ). list_spelling piece_spelling) (λ (n : ℕ). list_at after_piece piece_in fresh) object_of four_reads (λ n. pieces_read fresh) x.len x.pieces rest h.0 h.1

pub object_reads : (fresh : ℕ) → Reads (IsObjectNext fresh) object_spelling (object_in fresh)
object_reads fresh = record { takes = object_takes fresh; again = object_again fresh }

-- ---- one number after the other

counts_split : (first : ℕ) (xs ys : List ℕ) → CountsFrom first (xs ++ ys) → CountsFrom first xs × CountsFrom (first + length xs) ys
counts_split first [] ys h = (tt, let e : first ≡ first + 0 = omega arith in subst (λ (n : ℕ). CountsFrom n ys) e h)
counts_split first (x ∷ xs) ys h =
    let t = counts_split (first + 1) xs ys h.1 in
    let e : (first + 1) + length xs ≡ first + suc (length xs) = omega arith in
    ((h.0, t.0), subst (λ (n : ℕ). CountsFrom n ys) e t.1)

counts_join : (first : ℕ) (xs ys : List ℕ) → CountsFrom first xs → CountsFrom (first + length xs) ys → CountsFrom first (xs ++ ys)
counts_join first [] ys h k = let e : first + 0 ≡ first = omega arith in subst (λ (n : ℕ). CountsFrom n ys) e k
counts_join first (x ∷ xs) ys h k =
    let e : first + suc (length xs) ≡ (first + 1) + length xs = omega arith in
    (h.0, counts_join (first + 1) xs ys h.1 (subst (λ (n : ℕ). CountsFrom n ys) e k))

next_is : (fresh : ℕ) (ps : List Piece) → EachFrom after_piece IsNext fresh ps → AllByRecursion HasPieceSpelling ps × CountsFrom fresh (fresh_in ps)
next_is fresh [] h = (tt, tt)
next_is fresh (Keep name ∷ ps) h = let t = next_is fresh ps h.1 in ((h.0, t.0), t.1)
next_is fresh (Fresh n ∷ ps) h = let t = next_is (fresh + 1) ps h.1 in ((omega (arith, h.0.0, h.0.1), t.0), (h.0.0, t.1))

is_next : (fresh : ℕ) (ps : List Piece) → AllByRecursion HasPieceSpelling ps → CountsFrom fresh (fresh_in ps) → EachFrom after_piece IsNext fresh ps
is_next fresh [] h k = tt
is_next fresh (Keep name ∷ ps) h k = (h.0, is_next fresh ps h.1 k)
is_next fresh (Fresh n ∷ ps) h k = ((k.0, omega (arith, h.0, k.0)), is_next (fresh + 1) ps h.1 k.1)

fresh_of_objects : (o : PieceObject) (os : List PieceObject) → fresh_in (pieces_of (o ∷ os)) ≡ fresh_in o.pieces ++ fresh_in (pieces_of os)
fresh_of_objects o os = ap fresh_in (flat_map-cons (λ (object : PieceObject). object.pieces) o os) ∙ fresh_in-append o.pieces (pieces_of os)

pub objects_are : (fresh : ℕ) (os : List PieceObject) → EachFrom after_object IsObjectNext fresh os → AllByRecursion HasObjectSpelling os × CountsFrom fresh (fresh_in (pieces_of os))
objects_are fresh [] h = (tt, tt)
objects_are fresh (o ∷ os) h =
    let t = next_is fresh o.pieces h.0.1.1 in
    let later = objects_are (after_object fresh o) os h.1 in
    ((record { len = h.0.0; count = h.0.1.0; each_piece = t.0 }, later.0), subst (CountsFrom fresh) (sym (fresh_of_objects o os)) (counts_join fresh (fresh_in o.pieces) (fresh_in (pieces_of os)) t.1 later.1))

pub are_objects : (fresh : ℕ) (os : List PieceObject) → AllByRecursion HasObjectSpelling os → CountsFrom fresh (fresh_in (pieces_of os)) → EachFrom after_object IsObjectNext fresh os
are_objects fresh [] h k = tt
are_objects fresh (o ∷ os) h k =
    let c = counts_split fresh (fresh_in o.pieces) (fresh_in (pieces_of os)) (subst (CountsFrom fresh) (fresh_of_objects o os) k) in
    ((h.0.len, (h.0.count, is_next fresh o.pieces h.0.each_piece c.0)), are_objects (after_object fresh o) os h.1 c.1)

-- ---- contents

abbrev pub AreCells : List Cell → Type 0
AreCells cells = (length cells < 2 ^ 32) × EachFrom after_cell (λ s. HasCellSpelling) tt cells

abbrev pub AreObjectsFrom : ℕ → List PieceObject → Type 0
AreObjectsFrom fresh objects = (length objects < 2 ^ 32) × EachFrom after_object IsObjectNext fresh objects

pub cells_read : Reads AreCells (list_spelling cell_spelling) (list_at after_cell cell_in tt)
cells_read = list_reads after_cell (λ s. HasCellSpelling) cell_spelling cell_in (λ s. cell_reads) tt

pub objects_read : (fresh : ℕ) → Reads (AreObjectsFrom fresh) (list_spelling object_spelling) (list_at after_object object_in fresh)
objects_read fresh = list_reads after_object IsObjectNext object_spelling object_in object_reads fresh

-- a content behind so many new chunks
abbrev pub IsContentFrom : ℕ → PieceContent → Type 0
IsContentFrom fresh Gone = Unit {0}
IsContentFrom fresh (Row some objects) = AreCells some × AreObjectsFrom fresh objects

abbrev row_of : List Cell → List PieceObject → PieceContent
row_of cells objects = Row cells objects

row_takes : (fresh : ℕ) (bytes : List ℕ) (x : PieceContent) (rest : List ℕ) → IsBytes bytes → row_from fresh bytes ≡ Ok (x, rest) → IsContentFrom fresh x × (1 ∷ bytes ≡ content_spelling x ++ rest)
unfolding row_from
row_takes fresh bytes x rest fits e =
    let t = two_take AreCells (list_spelling cell_spelling) (list_at after_cell cell_in tt) (λ (cs : List Cell). AreObjectsFrom fresh) (λ (cs : List Cell). list_spelling object_spelling) (λ (cs : List Cell). list_at after_object object_in fresh) row_of cells_read (λ cs. objects_read fresh) bytes x rest fits e in
    subst (λ (c : PieceContent). IsContentFrom fresh c × (1 ∷ bytes ≡ content_spelling c ++ rest)) t.2 ((t.3, t.4), ap (λ (l : List ℕ). 1 ∷ l) t.5)

content_takes : (fresh : ℕ) (bytes : List ℕ) (x : PieceContent) (rest : List ℕ) → IsBytes bytes → content_from fresh bytes ≡ Ok (x, rest) → IsContentFrom fresh x × (bytes ≡ content_spelling x ++ rest)
unfolding content_from
content_takes fresh bytes x rest fits e =
    let a = bind_ok (byte_at bytes) (λ tag. cond (eqb tag.0 0) (gives Gone tag.1) (cond (eqb tag.0 1) (row_from fresh tag.1) (Err (length bytes)))) (x, rest) e in
    let t = byte_reads.takes bytes a.0.0 a.0.1 fits a.1 in
    let behind : IsBytes a.0.1 = rest_fits (a.0.0 ∷ []) a.0.1 bytes t.1 fits in
    let tagged : (n : ℕ) → a.0.0 ≡ n → bytes ≡ n ∷ a.0.1 = λ n is. t.1 ∙ ap (λ (m : ℕ). m ∷ a.0.1) is in
    elim (branch (eqb a.0.0 0) (gives Gone a.0.1) (cond (eqb a.0.0 1) (row_from fresh a.0.1) (Err (length bytes))) (x, rest) a.2) [
      | inl y ↦ subst (λ (p : PieceContent × List ℕ). IsContentFrom fresh p.0 × (bytes ≡ content_spelling p.0 ++ p.1)) (ok_is (Gone, a.0.1) (x, rest) y.1) (tt, tagged 0 (eqb-true _ _ y.0))
      | inr n ↦ elim (branch (eqb a.0.0 1) (row_from fresh a.0.1) (Err (length bytes)) (x, rest) n.1) [
        | inl y ↦ let o = row_takes fresh a.0.1 x rest behind y.1 in (o.0, tagged 1 (eqb-true _ _ y.0) ∙ o.1)
        | inr m ↦ absurd (no_fault (length bytes) (x, rest) m.1)
      ]
    ]

content_again : (fresh : ℕ) (x : PieceContent) (rest : List ℕ) → IsContentFrom fresh x → content_from fresh (content_spelling x ++ rest) ≡ Ok (x, rest)
unfolding content_from byte_at row_from
content_again fresh Gone rest h = refl
content_again fresh (Row cells objects) rest h =
    two_again AreCells (list_spelling cell_spelling) (list_at after_cell cell_in tt) (λ (cs : List Cell). AreObjectsFrom fresh) (λ (cs : List Cell). list_spelling object_spelling) (λ (cs : List Cell). list_at after_object object_in fresh) row_of cells_read (λ cs. objects_read fresh) cells objects rest h.0 h.1

pub content_from_reads : (fresh : ℕ) → Reads (IsContentFrom fresh) content_spelling (content_from fresh)
content_from_reads fresh = record { takes = content_takes fresh; again = content_again fresh }

-- ---- from the first new chunk on

pub content_is : (x : PieceContent) → IsContentFrom 0 x → HasContentSpelling x
content_is Gone h = tt
content_is (Row some objects) h =
    let each = objects_are 0 objects h.1.1 in
    record { cell_count = h.0.0; each_cell = each_of after_cell HasCellSpelling tt some h.0.1; object_count = h.1.0; each_object = each.0; fresh = each.1 }

pub is_content : (x : PieceContent) → HasContentSpelling x → IsContentFrom 0 x
is_content Gone h = tt
is_content (Row some objects) h = ((h.cell_count, each_from after_cell HasCellSpelling tt some h.each_cell), (h.object_count, are_objects 0 objects h.each_object h.fresh))

pub content_reads : Reads HasContentSpelling content_spelling content_at
content_reads = retold (IsContentFrom 0) HasContentSpelling content_spelling content_at (content_from_reads 0) content_is is_content

-- ---- without new chunks

keeps : (ps : List Piece) → EachFrom after_piece IsNext (2 ^ 32) ps → fresh_in ps ≡ []
keeps [] h = refl
keeps (Keep name ∷ ps) h = keeps ps h.1
keeps (Fresh n ∷ ps) h = absurd (omega (arith, h.0.1))

keep_objects : (os : List PieceObject) → EachFrom after_object IsObjectNext (2 ^ 32) os → fresh_in (pieces_of os) ≡ []
keep_objects [] h = refl
keep_objects (o ∷ os) h =
    let none = keeps o.pieces h.0.1.1 in
    let later : EachFrom after_object IsObjectNext (2 ^ 32) os = subst (λ (ns : List ℕ). EachFrom after_object IsObjectNext (2 ^ 32 + length ns) os) none h.1 in
    fresh_of_objects o os ∙ ap (λ (ns : List ℕ). ns ++ fresh_in (pieces_of os)) none ∙ keep_objects os later

pub kept_is : (x : PieceContent) → IsContentFrom (2 ^ 32) x → HasKeptSpelling x
kept_is Gone h = record { spelled = tt; kept = tt }
kept_is (Row some objects) h =
    let none = keep_objects objects h.1.1 in
    record {
      spelled = record {
        cell_count = h.0.0;
        each_cell = each_of after_cell HasCellSpelling tt some h.0.1;
        object_count = h.1.0;
        each_object = (objects_are (2 ^ 32) objects h.1.1).0;
        fresh = subst (CountsFrom 0) (sym none) tt;
      };
      kept = none;
    }

pub is_kept : (x : PieceContent) → HasKeptSpelling x → IsContentFrom (2 ^ 32) x
is_kept Gone h = tt
is_kept (Row some objects) h =
    let s = h.spelled in
    ((s.cell_count, each_from after_cell HasCellSpelling tt some s.each_cell), (s.object_count, are_objects (2 ^ 32) objects s.each_object (subst (CountsFrom (2 ^ 32)) (sym h.kept) tt)))

pub kept_reads : Reads HasKeptSpelling content_spelling kept_content_at
kept_reads = retold (IsContentFrom (2 ^ 32)) HasKeptSpelling content_spelling kept_content_at (content_from_reads (2 ^ 32)) kept_is is_kept
