-- Cells: what is read is spelled so, and what is spelled so is read.
use Rattle.std.proofs.Common.{◌≡◌, ℕ, ◌^◌, ◌<◌, cond, eqb, List, [], ◌∷◌, ◌++◌, length, Ok, Err, sym, ap, subst, ◌∙◌, inl, inr}
use Rattle.std.specs.Prelude.{IsUtf8}
use Rattle.std.specs.Int.{w64, to_be_bytes, cast_unsigned, cast_signed}
use Rattle.std.proofs.lemmas.Bool.{eqb-true}
use Rattle.std.proofs.lemmas.Int.{to_z-of_z, of_z-to_z}
use Rattle.std.proofs.Math.Facts.{Fits-of_z, sfits_to_z}
use Rattle.stab_base.specs.Codec.{IsBytes, counted}
use Rattle.row_value.specs.declared.content.Cell.{Cell}
use Rattle.row_value.specs.declared.content.Cell.TheVariants as cells
use Rattle.value_codec.specs.Spelling.{flag_spelling, cell_spelling, HasCellSpelling}
use Rattle.value_codec.specs.Reading.{byte_at, number_at, flag_at, text_at, int_at, bool_at, text_cell_at, cell_at}
use Rattle.value_codec.proofs.FieldReads.{bind_ok, branch, no_fault, gives, Reads, rest_fits, one_takes, one_again, byte_reads, eight_reads, flag_reads, text_reads}

int_takes : (bytes : List ℕ) (c : Cell) (rest : List ℕ) → IsBytes bytes → int_at bytes ≡ Ok (c, rest) → HasCellSpelling c × (1 ∷ bytes ≡ cell_spelling c ++ rest)
unfolding int_at
int_takes bytes c rest fits e =
    let o = one_takes (λ n. n < 2 ^ 64) (to_be_bytes w64) (number_at w64) (λ n. cells.Int (cast_signed w64 n)) eight_reads bytes c rest fits e in
    subst (λ (d : Cell). HasCellSpelling d × (1 ∷ bytes ≡ cell_spelling d ++ rest)) o.1
    (sfits_to_z {w = w64} {n = o.0} (record { fits = o.2 }), ap (λ (l : List ℕ). 1 ∷ l) o.3 ∙ ap (λ (m : ℕ). 1 ∷ (to_be_bytes w64 m ++ rest)) (sym (of_z-to_z w64 o.0 o.2)))

bool_takes : (bytes : List ℕ) (c : Cell) (rest : List ℕ) → IsBytes bytes → bool_at bytes ≡ Ok (c, rest) → HasCellSpelling c × (2 ∷ bytes ≡ cell_spelling c ++ rest)
unfolding bool_at
bool_takes bytes c rest fits e =
    let o = one_takes (λ b. Unit {0}) flag_spelling flag_at (λ b. cells.Bool b) flag_reads bytes c rest fits e in
    subst (λ (d : Cell). HasCellSpelling d × (2 ∷ bytes ≡ cell_spelling d ++ rest)) o.1 (tt, ap (λ (l : List ℕ). 2 ∷ l) o.3)

text_takes : (bytes : List ℕ) (c : Cell) (rest : List ℕ) → IsBytes bytes → text_cell_at bytes ≡ Ok (c, rest) → HasCellSpelling c × (3 ∷ bytes ≡ cell_spelling c ++ rest)
unfolding text_cell_at
text_takes bytes c rest fits e =
    let o = one_takes (λ text. (length text < 2 ^ 32) × IsUtf8 text) counted text_at (λ text. cells.Text text) text_reads bytes c rest fits e in
    subst (λ (d : Cell). HasCellSpelling d × (3 ∷ bytes ≡ cell_spelling d ++ rest)) o.1 (o.2, ap (λ (l : List ℕ). 3 ∷ l) o.3)

cell_takes : (bytes : List ℕ) (c : Cell) (rest : List ℕ) → IsBytes bytes → cell_at bytes ≡ Ok (c, rest) → HasCellSpelling c × (bytes ≡ cell_spelling c ++ rest)
unfolding cell_at
cell_takes bytes c rest fits e =
    let a = bind_ok (byte_at bytes) (λ tag. cond (eqb tag.0 1) (int_at tag.1) (cond (eqb tag.0 2) (bool_at tag.1) (cond (eqb tag.0 3) (text_cell_at tag.1) (Err (length bytes))))) (c, rest) e in
    let t = byte_reads.takes bytes a.0.0 a.0.1 fits a.1 in
    let behind : IsBytes a.0.1 = rest_fits (a.0.0 ∷ []) a.0.1 bytes t.1 fits in
    let tagged : (n : ℕ) → a.0.0 ≡ n → bytes ≡ n ∷ a.0.1 = λ n is. t.1 ∙ ap (λ (m : ℕ). m ∷ a.0.1) is in
    elim (branch (eqb a.0.0 1) (int_at a.0.1) (cond (eqb a.0.0 2) (bool_at a.0.1) (cond (eqb a.0.0 3) (text_cell_at a.0.1) (Err (length bytes)))) (c, rest) a.2) [
      | inl y ↦ let o = int_takes a.0.1 c rest behind y.1 in (o.0, tagged 1 (eqb-true _ _ y.0) ∙ o.1)
      | inr n ↦ elim (branch (eqb a.0.0 2) (bool_at a.0.1) (cond (eqb a.0.0 3) (text_cell_at a.0.1) (Err (length bytes))) (c, rest) n.1) [
        | inl y ↦ let o = bool_takes a.0.1 c rest behind y.1 in (o.0, tagged 2 (eqb-true _ _ y.0) ∙ o.1)
        | inr m ↦ elim (branch (eqb a.0.0 3) (text_cell_at a.0.1) (Err (length bytes)) (c, rest) m.1) [
          | inl y ↦ let o = text_takes a.0.1 c rest behind y.1 in (o.0, tagged 3 (eqb-true _ _ y.0) ∙ o.1)
          | inr k ↦ absurd (no_fault (length bytes) (c, rest) k.1)
        ]
      ]
    ]

cell_again : (c : Cell) (rest : List ℕ) → HasCellSpelling c → cell_at (cell_spelling c ++ rest) ≡ Ok (c, rest)
unfolding cell_at byte_at int_at bool_at text_cell_at
cell_again (cells.Int n) rest h =
    one_again (λ n. n < 2 ^ 64) (to_be_bytes w64) (number_at w64) (λ n. cells.Int (cast_signed w64 n)) eight_reads (cast_unsigned w64 n) rest (Fits-of_z {w = w64} {z = n} h).fits
    ∙ ap (λ m. gives (cells.Int m) rest) (to_z-of_z w64 n h)
cell_again (cells.Bool b) rest h = one_again (λ b. Unit {0}) flag_spelling flag_at (λ b. cells.Bool b) flag_reads b rest tt
cell_again (cells.Text text) rest h = one_again (λ text. (length text < 2 ^ 32) × IsUtf8 text) counted text_at (λ text. cells.Text text) text_reads text rest h

pub cell_reads : Reads HasCellSpelling cell_spelling cell_at
cell_reads = record { takes = cell_takes; again = cell_again }
