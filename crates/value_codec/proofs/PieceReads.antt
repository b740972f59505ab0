-- Names and pieces: what is read is spelled so, and what is spelled so is read.
use Rattle.std.proofs.Common.{◌≡◌, ℕ, suc, ◌^◌, ◌<◌, Bool, true, false, cond, eqb, ltb, ◌&&◌, List, [], ◌∷◌, ◌++◌, length, Ok, Err, refl, ap, subst, ◌∙◌, inl, inr}
use Rattle.std.specs.Int.{w32, w64, to_be_bytes}
use Rattle.std.proofs.lemmas.Bool.{cases_Bool, eqb-true, eqb-false, ltb-true, lt-ltb}
use Rattle.stab_base.specs.Codec.{IsBytes}
use Rattle.stab_base.specs.declared.chunk_name.ChunkName.{ChunkName}
use Rattle.row_value.specs.declared.pieces.Piece.{Piece}
use Rattle.row_value.specs.declared.pieces.Piece.TheVariants.{Keep, Fresh}
use Rattle.value_codec.specs.Spelling.{name_spelling, HasNameSpelling, piece_spelling, HasPieceSpelling}
use Rattle.value_codec.specs.Reading.{byte_at, number_at, name_at, keep_at, fresh_at, piece_at, exactly_at, fresh_is_at, piece_in}
use Rattle.value_codec.proofs.FieldReads.{bind_ok, ok_is, branch, no_fault, gives, Reads, rest_fits, one_takes, one_again, two_take, two_again, byte_reads, four_reads, eight_reads}

abbrev name_of : ℕ → ℕ → ChunkName
name_of version ordinal = record { version = version; ordinal = ordinal }

name_takes : (bytes : List ℕ) (x : ChunkName) (rest : List ℕ) → IsBytes bytes → name_at bytes ≡ Ok (x, rest) → HasNameSpelling x × (bytes ≡ name_spelling x ++ rest)
unfolding name_at
name_takes bytes x rest fits e =
    let t = two_take (λ n. n < 2 ^ 64) (to_be_bytes w64) (number_at w64) (λ v n. n < 2 ^ 32) (λ (v : ℕ). to_be_bytes w32) (λ (v : ℕ). number_at w32) name_of eight_reads (λ v. four_reads) bytes x rest fits e in
    subst (λ (n : ChunkName). HasNameSpelling n × (bytes ≡ name_spelling n ++ rest)) t.2 (record { version = t.3; ordinal = t.4 }, t.5)

name_again : (x : ChunkName) (rest : List ℕ) → HasNameSpelling x → name_at (name_spelling x ++ rest) ≡ Ok (x, rest)
unfolding name_at
name_again x rest h = two_again (λ n. n < 2 ^ 64) (to_be_bytes w64) (number_at w64) (λ v n. n < 2 ^ 32) (λ (v : ℕ). to_be_bytes w32) (λ (v : ℕ). number_at w32) name_of eight_reads (λ v. four_reads) x.version x.ordinal rest h.version h.ordinal

pub name_reads : Reads HasNameSpelling name_spelling name_at
name_reads = record { takes = name_takes; again = name_again }

-- ---- a piece with any ordinal

keep_takes : (bytes : List ℕ) (p : Piece) (rest : List ℕ) → IsBytes bytes → keep_at bytes ≡ Ok (p, rest)
    → (name : ChunkName) × (Keep name ≡ p) × HasNameSpelling name × (bytes ≡ name_spelling name ++ rest)
unfolding keep_at
keep_takes bytes p rest fits e = one_takes HasNameSpelling name_spelling name_at (λ name. Keep name) name_reads bytes p rest fits e

fresh_takes : (bytes : List ℕ) (p : Piece) (rest : List ℕ) → IsBytes bytes → fresh_at bytes ≡ Ok (p, rest) → (n : ℕ) × (Fresh n ≡ p) × (n < 2 ^ 32) × (bytes ≡ to_be_bytes w32 n ++ rest)
unfolding fresh_at
fresh_takes bytes p rest fits e = one_takes (λ n. n < 2 ^ 32) (to_be_bytes w32) (number_at w32) (λ n. Fresh n) four_reads bytes p rest fits e

piece_takes : (bytes : List ℕ) (p : Piece) (rest : List ℕ) → IsBytes bytes → piece_at bytes ≡ Ok (p, rest) → HasPieceSpelling p × (bytes ≡ piece_spelling p ++ rest)
unfolding piece_at
piece_takes bytes p rest fits e =
    let a = bind_ok (byte_at bytes) (λ tag. cond (eqb tag.0 0) (keep_at tag.1) (cond (eqb tag.0 1) (fresh_at tag.1) (Err (length bytes)))) (p, rest) e in
    let t = byte_reads.takes bytes a.0.0 a.0.1 fits a.1 in
    let behind : IsBytes a.0.1 = rest_fits (a.0.0 ∷ []) a.0.1 bytes t.1 fits in
    let tagged : (n : ℕ) → a.0.0 ≡ n → bytes ≡ n ∷ a.0.1 = λ n is. t.1 ∙ ap (λ (m : ℕ). m ∷ a.0.1) is in
    elim (branch (eqb a.0.0 0) (keep_at a.0.1) (cond (eqb a.0.0 1) (fresh_at a.0.1) (Err (length bytes))) (p, rest) a.2) [
      | inl y ↦ let o = keep_takes a.0.1 p rest behind y.1 in
          subst (λ (q : Piece). HasPieceSpelling q × (bytes ≡ piece_spelling q ++ rest)) o.1 (o.2, tagged 0 (eqb-true _ _ y.0) ∙ ap (λ (l : List ℕ). 0 ∷ l) o.3)
      | inr n ↦ elim (branch (eqb a.0.0 1) (fresh_at a.0.1) (Err (length bytes)) (p, rest) n.1) [
        | inl y ↦ let o = fresh_takes a.0.1 p rest behind y.1 in
            subst (λ (q : Piece). HasPieceSpelling q × (bytes ≡ piece_spelling q ++ rest)) o.1 (o.2, tagged 1 (eqb-true _ _ y.0) ∙ ap (λ (l : List ℕ). 1 ∷ l) o.3)
        | inr m ↦ absurd (no_fault (length bytes) (p, rest) m.1)
      ]
    ]

piece_again : (p : Piece) (rest : List ℕ) → HasPieceSpelling p → piece_at (piece_spelling p ++ rest) ≡ Ok (p, rest)
unfolding piece_at byte_at keep_at fresh_at
piece_again (Keep name) rest h = one_again HasNameSpelling name_spelling name_at (λ name. Keep name) name_reads name rest h
piece_again (Fresh n) rest h = one_again (λ n. n < 2 ^ 32) (to_be_bytes w32) (number_at w32) (λ n. Fresh n) four_reads n rest h

pub piece_reads : Reads HasPieceSpelling piece_spelling piece_at
piece_reads = record { takes = piece_takes; again = piece_again }

-- ---- a piece behind so many new chunks

pub exactly_takes : (text bytes rest : List ℕ) → exactly_at text bytes ≡ Ok rest → bytes ≡ text ++ rest
unfolding exactly_at
exactly_takes [] bytes rest e = ok_is bytes rest e
exactly_takes (x ∷ text) [] rest e = absurd (no_fault 0 rest e)
exactly_takes (x ∷ text) (b ∷ bytes) rest e =
    elim (branch (eqb b x) (exactly_at text bytes) (Err (suc (length bytes))) rest e) [
      | inl y ↦ ap (λ (n : ℕ). n ∷ bytes) (eqb-true b x y.0) ∙ ap (λ (l : List ℕ). x ∷ l) (exactly_takes text bytes rest y.1)
      | inr n ↦ absurd (no_fault (suc (length bytes)) rest n.1)
    ]

eqb_same : (x : ℕ) → eqb x x ≡ true
eqb_same x = elim (cases_Bool (eqb x x)) [ inl h ↦ h | inr h ↦ absurd (eqb-false x x h refl) ]

pub exactly_again : (text rest : List ℕ) → exactly_at text (text ++ rest) ≡ Ok rest
unfolding exactly_at
exactly_again [] rest = refl
exactly_again (x ∷ text) rest = rw (eqb_same x) (exactly_again text rest)

-- the ordinal of a new chunk is the number of those before it
abbrev pub IsNext : ℕ → Piece → Type 0
IsNext fresh (Keep name) = HasNameSpelling name
IsNext fresh (Fresh ordinal) = (ordinal ≡ fresh) × (fresh < 2 ^ 32)

both_true : (a b : Bool) → (a && b) ≡ true → (a ≡ true) × (b ≡ true)
both_true true b e = (refl, e)
both_true false b e = absurd cc

fresh_is_takes : (fresh : ℕ) (bytes : List ℕ) (p : Piece) (rest : List ℕ) → fresh < 2 ^ 32 → fresh_is_at fresh bytes ≡ Ok (p, rest) → IsNext fresh p × (1 ∷ bytes ≡ piece_spelling p ++ rest)
unfolding fresh_is_at
fresh_is_takes fresh bytes p rest room e =
    let a = bind_ok (exactly_at (to_be_bytes w32 fresh) bytes) (λ rest. gives (Fresh fresh) rest) (p, rest) e in
    subst (λ (q : Piece × List ℕ). IsNext fresh q.0 × (1 ∷ bytes ≡ piece_spelling q.0 ++ q.1)) (ok_is (Fresh fresh, a.0) (p, rest) a.2)
    ((refl, room), ap (λ (l : List ℕ). 1 ∷ l) (exactly_takes (to_be_bytes w32 fresh) bytes a.0 a.1))

next_takes : (fresh : ℕ) (bytes : List ℕ) (p : Piece) (rest : List ℕ) → IsBytes bytes → piece_in fresh bytes ≡ Ok (p, rest) → IsNext fresh p × (bytes ≡ piece_spelling p ++ rest)
unfolding piece_in
next_takes fresh bytes p rest fits e =
    let a = bind_ok (byte_at bytes) (λ tag. cond (eqb tag.0 0) (keep_at tag.1) (cond (eqb tag.0 1 && ltb fresh (2 ^ 32)) (fresh_is_at fresh tag.1) (Err (length bytes)))) (p, rest) e in
    let t = byte_reads.takes bytes a.0.0 a.0.1 fits a.1 in
    let behind : IsBytes a.0.1 = rest_fits (a.0.0 ∷ []) a.0.1 bytes t.1 fits in
    let tagged : (n : ℕ) → a.0.0 ≡ n → bytes ≡ n ∷ a.0.1 = λ n is. t.1 ∙ ap (λ (m : ℕ). m ∷ a.0.1) is in
    elim (branch (eqb a.0.0 0) (keep_at a.0.1) (cond (eqb a.0.0 1 && ltb fresh (2 ^ 32)) (fresh_is_at fresh a.0.1) (Err (length bytes))) (p, rest) a.2) [
      | inl y ↦ let o = keep_takes a.0.1 p rest behind y.1 in
          subst (λ (q : Piece). IsNext fresh q × (bytes ≡ piece_spelling q ++ rest)) o.1 (o.2, tagged 0 (eqb-true _ _ y.0) ∙ ap (λ (l : List ℕ). 0 ∷ l) o.3)
      | inr n ↦ elim (branch (eqb a.0.0 1 && ltb fresh (2 ^ 32)) (fresh_is_at fresh a.0.1) (Err (length bytes)) (p, rest) n.1) [
        | inl y ↦ let both = both_true (eqb a.0.0 1) (ltb fresh (2 ^ 32)) y.0 in
            let o = fresh_is_takes fresh a.0.1 p rest (ltb-true _ _ both.1) y.1 in
            (o.0, tagged 1 (eqb-true _ _ both.0) ∙ o.1)
        | inr m ↦ absurd (no_fault (length bytes) (p, rest) m.1)
      ]
    ]

next_again : (fresh : ℕ) (p : Piece) (rest : List ℕ) → IsNext fresh p → piece_in fresh (piece_spelling p ++ rest) ≡ Ok (p, rest)
unfolding piece_in byte_at keep_at fresh_is_at
next_again fresh (Keep name) rest h = one_again HasNameSpelling name_spelling name_at (λ name. Keep name) name_reads name rest h
next_again fresh (Fresh n) rest h =
    rw (lt-ltb fresh (2 ^ 32) h.1, h.0, exactly_again (to_be_bytes w32 fresh) rest) refl

pub next_reads : (fresh : ℕ) → Reads (IsNext fresh) piece_spelling (piece_in fresh)
next_reads fresh = record { takes = next_takes fresh; again = next_again fresh }
