-- A row that is read stood there as it is spelled.
use Rattle.std.proofs.Common.{◌≡◌, ℕ, zero, suc, ◌<◌, ◌≤◌, Bool, true, false, cond, eqb, ltb, List, [], ◌∷◌, ◌++◌, length, get_or, take, drop, Result, Ok, Err, refl, sym, ◌∙◌, ap, subst, arith}
use Rattle.std.proofs.Common.{take-append-drop, inl, inr}
use Rattle.std.specs.Prelude.{◌&&◌, nat_le}
use Rattle.std.specs.Int.{w64, to_be_bytes}
use Rattle.std.proofs.lemmas.Bool.{ltb-false, eqb-true}
use Rattle.std.proofs.lemmas.Bool.Decides.{nat_tests}
use Rattle.std.proofs.lemmas.List.{length-take-le}
use Rattle.vault.specs.Limit.{payload_most}
use Rattle.vault.specs.File.{AllShort}
use Rattle.stab_base.specs.declared.limits.TheConstants.{NUMBER_MAX}
use Rattle.stab_base.specs.Codec.{IsBytes}
use Rattle.row_value.specs.declared.pieces.PieceContent.{PieceContent}
use Rattle.value_codec.specs.Spelling.{content_spelling}
use Rattle.value_codec.specs.Reading.{◌>>=◌, byte_at, number_at, list_at, content_at, whole}
use Rattle.value_codec.proofs.FieldReads.{Reads, bind_ok, ok_is, branch, no_fault, gives, rest_fits, eight_reads}
use Rattle.value_codec.proofs.ContentReads.{content_reads}
use Rattle.value_codec.proofs.Answering.{whole_found}
use Rattle.row_store.specs.declared.stored.LastWrite.{LastWrite}
use Rattle.row_store.specs.declared.stored.StoredRow.{StoredRow}
use Rattle.row_store.specs.Spelling.{all_keep, stored_spelling, HasStoredSpelling, row_payload}
use Rattle.row_store.specs.Reading.{id_at, last_in, after_last, is_allowed, allowed_at, stored_at, tag_at, row_in}
use Rattle.row_store.proofs.Again.{lasts_read, are_lasts, spelling_parts, stored_again}

id_takes : (bytes id rest : List ℕ) → id_at bytes ≡ Ok (id, rest) → (length id ≡ 16) × (bytes ≡ id ++ rest)
unfolding id_at
id_takes bytes id rest e =
    elim (branch (ltb (length bytes) 16) (Err 0) (Ok (take 16 bytes, drop 16 bytes)) (id, rest) e) [
      | inl y ↦ absurd (no_fault 0 (id, rest) y.1)
      | inr n ↦
          let long : 16 ≤ length bytes = ltb-false _ _ n.0 in
          subst (λ (p : List ℕ × List ℕ). (length p.0 ≡ 16) × (bytes ≡ p.0 ++ p.1)) (ok_is (take 16 bytes, drop 16 bytes) (id, rest) n.1) (length-take-le 16 bytes long, sym (take-append-drop 16 bytes))
    ]

abbrev made : List ℕ → ℕ → PieceContent → List LastWrite → StoredRow
made row version content lasts = record { row = row; version = version; content = content; pairs = lasts }

both : (a b : Bool) → a && b ≡ true → (a ≡ true) × (b ≡ true)
both true b h = (refl, h)
both false b h = absurd cc

stored_takes : (bytes : List ℕ) (stored : StoredRow) (rest : List ℕ) → IsBytes bytes → stored_at bytes ≡ Ok (stored, rest) → HasStoredSpelling stored × (bytes ≡ stored_spelling stored ++ rest)
unfolding stored_at
stored_takes bytes stored rest fits e =
    let f3 : List ℕ × List ℕ → ℕ × List ℕ → PieceContent × List ℕ → List LastWrite × List ℕ → Result (StoredRow × List ℕ) ℕ = λ row version content lasts. allowed_at bytes (made row.0 version.0 content.0 lasts.0) lasts.1 in
    let f2 : List ℕ × List ℕ → ℕ × List ℕ → PieceContent × List ℕ → Result (StoredRow × List ℕ) ℕ = λ row version content. list_at after_last last_in 0 content.1 >>= f3 row version content in
    let f1 : List ℕ × List ℕ → ℕ × List ℕ → Result (StoredRow × List ℕ) ℕ = λ row version. content_at version.1 >>= f2 row version in
    let f0 : List ℕ × List ℕ → Result (StoredRow × List ℕ) ℕ = λ row. number_at w64 row.1 >>= f1 row in
    let a = bind_ok (id_at bytes) f0 (stored, rest) e in
    let b = bind_ok (number_at w64 a.0.1) (f1 a.0) (stored, rest) a.2 in
    let c = bind_ok (content_at b.0.1) (f2 a.0 b.0) (stored, rest) b.2 in
    let d = bind_ok (list_at after_last last_in 0 c.0.1) (f3 a.0 b.0 c.0) (stored, rest) c.2 in
    let t0 = id_takes bytes a.0.0 a.0.1 a.1 in
    let fits1 : IsBytes a.0.1 = rest_fits a.0.0 a.0.1 bytes t0.1 fits in
    let t1 = eight_reads.takes a.0.1 b.0.0 b.0.1 fits1 b.1 in
    let fits2 : IsBytes b.0.1 = rest_fits (to_be_bytes w64 b.0.0) b.0.1 a.0.1 t1.1 fits1 in
    let t2 = content_reads.takes b.0.1 c.0.0 c.0.1 fits2 c.1 in
    let fits3 : IsBytes c.0.1 = rest_fits (content_spelling c.0.0) c.0.1 b.0.1 t2.1 fits2 in
    let t3 = lasts_read.takes c.0.1 d.0.0 d.0.1 fits3 d.1 in
    let it : StoredRow = made a.0.0 b.0.0 c.0.0 d.0.0 in
    elim (branch (is_allowed it) (gives it d.0.1) (Err (length bytes)) (stored, rest) d.2) [
      | inl y ↦
          let tests = both (all_keep c.0.0) (nat_le b.0.0 NUMBER_MAX) y.0 in
          let least : nat_le b.0.0 NUMBER_MAX ≡ true = tests.1 in
          let version : b.0.0 ≤ NUMBER_MAX = grind (arith, nat_tests) in
          let parts : bytes ≡ stored_spelling it ++ d.0.1 =
          t0.1 ∙ (ap (λ (l : List ℕ). a.0.0 ++ l) (t1.1 ∙ ap (λ (l : List ℕ). to_be_bytes w64 b.0.0 ++ l) (t2.1 ∙ ap (λ (l : List ℕ). content_spelling c.0.0 ++ l) t3.1)) ∙ sym (spelling_parts it d.0.1)) in
          subst (λ (p : StoredRow × List ℕ). HasStoredSpelling p.0 × (bytes ≡ stored_spelling p.0 ++ p.1)) (ok_is (it, d.0.1) (stored, rest) y.1)
          (record { row = t0.0; version = version; content = t2.0; keeps = tests.0; lasts = are_lasts 0 d.0.0 t3.0.1 }, parts)
      | inr n ↦ absurd (no_fault (length bytes) (stored, rest) n.1)
    ]

stored_reads : Reads HasStoredSpelling stored_spelling stored_at
stored_reads = record { takes = stored_takes; again = stored_again }

tag_is : (payload rest : List ℕ) → tag_at 1 payload ≡ Ok rest → payload ≡ 1 ∷ rest
unfolding tag_at byte_at
tag_is [] rest e = absurd cc
tag_is (b ∷ bytes) rest e =
    elim (branch (eqb b 1) (Ok bytes) (Err (length (b ∷ bytes))) rest e) [
      | inl y ↦ let is : b ≡ 1 = eqb-true _ _ y.0 in ap (λ (n : ℕ). n ∷ bytes) is ∙ ap (λ (l : List ℕ). 1 ∷ l) (ok_is bytes rest y.1)
      | inr n ↦ absurd (no_fault (length (b ∷ bytes)) rest n.1)
    ]

-- the row in a payload has this payload
pub row_takes : (payload : List ℕ) (stored : StoredRow) → IsBytes payload → row_in payload ≡ Ok stored → HasStoredSpelling stored × (payload ≡ row_payload stored)
unfolding row_in
row_takes payload stored fits e =
    let a = bind_ok (tag_at 1 payload) (λ rest. whole (stored_at rest)) stored e in
    let tagged = tag_is payload a.0 a.1 in
    let one : List ℕ = 1 ∷ [] in
    let t = whole_found HasStoredSpelling stored_spelling stored_at stored_reads a.0 (Ok stored) (rest_fits one a.0 payload tagged fits) a.2 in
    (t.0, tagged ∙ ap (λ (l : List ℕ). 1 ∷ l) t.1)

-- and its version is within the limit
stored_most : (bytes : List ℕ) (stored : StoredRow) (rest : List ℕ) → stored_at bytes ≡ Ok (stored, rest) → stored.version ≤ NUMBER_MAX
unfolding stored_at
stored_most bytes stored rest e =
    let f3 : List ℕ × List ℕ → ℕ × List ℕ → PieceContent × List ℕ → List LastWrite × List ℕ → Result (StoredRow × List ℕ) ℕ = λ row version content lasts. allowed_at bytes (made row.0 version.0 content.0 lasts.0) lasts.1 in
    let f2 : List ℕ × List ℕ → ℕ × List ℕ → PieceContent × List ℕ → Result (StoredRow × List ℕ) ℕ = λ row version content. list_at after_last last_in 0 content.1 >>= f3 row version content in
    let f1 : List ℕ × List ℕ → ℕ × List ℕ → Result (StoredRow × List ℕ) ℕ = λ row version. content_at version.1 >>= f2 row version in
    let f0 : List ℕ × List ℕ → Result (StoredRow × List ℕ) ℕ = λ row. number_at w64 row.1 >>= f1 row in
    let a = bind_ok (id_at bytes) f0 (stored, rest) e in
    let b = bind_ok (number_at w64 a.0.1) (f1 a.0) (stored, rest) a.2 in
    let c = bind_ok (content_at b.0.1) (f2 a.0 b.0) (stored, rest) b.2 in
    let d = bind_ok (list_at after_last last_in 0 c.0.1) (f3 a.0 b.0 c.0) (stored, rest) c.2 in
    let it : StoredRow = made a.0.0 b.0.0 c.0.0 d.0.0 in
    elim (branch (is_allowed it) (gives it d.0.1) (Err (length bytes)) (stored, rest) d.2) [
      | inl y ↦
          let tests = both (all_keep c.0.0) (nat_le b.0.0 NUMBER_MAX) y.0 in
          let least : nat_le b.0.0 NUMBER_MAX ≡ true = tests.1 in
          let version : b.0.0 ≤ NUMBER_MAX = grind (arith, nat_tests) in
          subst (λ (p : StoredRow × List ℕ). p.0.version ≤ NUMBER_MAX) (ok_is (it, d.0.1) (stored, rest) y.1) version
      | inr n ↦ absurd (no_fault (length bytes) (stored, rest) n.1)
    ]

pub row_most : (payload : List ℕ) (stored : StoredRow) → row_in payload ≡ Ok stored → stored.version ≤ NUMBER_MAX
unfolding row_in whole
row_most payload stored e =
    let a = bind_ok (tag_at 1 payload) (λ rest. whole (stored_at rest)) stored e in
    let b = bind_ok (stored_at a.0) (λ x. cond (eqb (length x.1) 0) (Ok x.0) (Err (length x.1))) stored a.2 in
    elim (branch (eqb (length b.0.1) 0) (Ok b.0.0) (Err (length b.0.1)) stored b.2) [
      | inl y ↦ subst (λ (s : StoredRow). s.version ≤ NUMBER_MAX) (ok_is b.0.0 stored y.1) (stored_most a.0 b.0.0 b.0.1 b.1)
      | inr n ↦ absurd (no_fault (length b.0.1) stored n.1)
    ]

-- and its id has sixteen bytes
stored_sixteen : (bytes : List ℕ) (stored : StoredRow) (rest : List ℕ) → stored_at bytes ≡ Ok (stored, rest) → length stored.row ≡ 16
unfolding stored_at
stored_sixteen bytes stored rest e =
    let f3 : List ℕ × List ℕ → ℕ × List ℕ → PieceContent × List ℕ → List LastWrite × List ℕ → Result (StoredRow × List ℕ) ℕ = λ row version content lasts. allowed_at bytes (made row.0 version.0 content.0 lasts.0) lasts.1 in
    let f2 : List ℕ × List ℕ → ℕ × List ℕ → PieceContent × List ℕ → Result (StoredRow × List ℕ) ℕ = λ row version content. list_at after_last last_in 0 content.1 >>= f3 row version content in
    let f1 : List ℕ × List ℕ → ℕ × List ℕ → Result (StoredRow × List ℕ) ℕ = λ row version. content_at version.1 >>= f2 row version in
    let f0 : List ℕ × List ℕ → Result (StoredRow × List ℕ) ℕ = λ row. number_at w64 row.1 >>= f1 row in
    let a = bind_ok (id_at bytes) f0 (stored, rest) e in
    let b = bind_ok (number_at w64 a.0.1) (f1 a.0) (stored, rest) a.2 in
    let c = bind_ok (content_at b.0.1) (f2 a.0 b.0) (stored, rest) b.2 in
    let d = bind_ok (list_at after_last last_in 0 c.0.1) (f3 a.0 b.0 c.0) (stored, rest) c.2 in
    let it : StoredRow = made a.0.0 b.0.0 c.0.0 d.0.0 in
    elim (branch (is_allowed it) (gives it d.0.1) (Err (length bytes)) (stored, rest) d.2) [
      | inl y ↦ subst (λ (p : StoredRow × List ℕ). length p.0.row ≡ 16) (ok_is (it, d.0.1) (stored, rest) y.1) (id_takes bytes a.0.0 a.0.1 a.1).0
      | inr n ↦ absurd (no_fault (length bytes) (stored, rest) n.1)
    ]

pub row_sixteen : (payload : List ℕ) (stored : StoredRow) → row_in payload ≡ Ok stored → length stored.row ≡ 16
unfolding row_in whole
row_sixteen payload stored e =
    let a = bind_ok (tag_at 1 payload) (λ rest. whole (stored_at rest)) stored e in
    let b = bind_ok (stored_at a.0) (λ x. cond (eqb (length x.1) 0) (Ok x.0) (Err (length x.1))) stored a.2 in
    elim (branch (eqb (length b.0.1) 0) (Ok b.0.0) (Err (length b.0.1)) stored b.2) [
      | inl y ↦ subst (λ (s : StoredRow). length s.row ≡ 16) (ok_is b.0.0 stored y.1) (stored_sixteen a.0 b.0.0 b.0.1 b.1)
      | inr n ↦ absurd (no_fault (length b.0.1) stored n.1)
    ]

-- a payload of a vault is short
pub short_at : (ps : List (List ℕ)) (i : ℕ) → AllShort ps → i < length ps → length (get_or ps i []) ≤ payload_most
short_at [] i short within = absurd (omega arith)
short_at (p ∷ ps) zero short within = short.0
short_at (p ∷ ps) (suc i) short within = short_at ps i short.1 (omega arith)
