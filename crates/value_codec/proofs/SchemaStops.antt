-- Schemas: where reading fails, no spelling goes on.
use Rattle.std.proofs.Common.{◌≡◌, ℕ, suc, ◌<◌, ◌≤◌, Bool, true, false, cond, eqb, ltb, ◌||◌, List, [], ◌∷◌, ◌++◌, length, drop, Result, Ok, Err, refl, sym, ap, subst, ◌∙◌, arith, ◌⊎◌, inl, inr}
use Rattle.std.specs.List.{flat_map}
use Rattle.std.specs.Int.{w32, to_be_bytes}
use Rattle.std.proofs.lemmas.Bool.{eqb-true, eqb-false, ltb-true, ltb-false, ne_eqb, le-ltb}
use Rattle.stab_base.specs.Codec.{IsBytes, counted}
use Rattle.row_value.specs.declared.schema.ColumnKind.{ColumnKind}
use Rattle.row_value.specs.declared.schema.ColumnKind.TheVariants as kinds
use Rattle.row_value.specs.declared.schema.Scheme.{Scheme}
use Rattle.row_value.specs.declared.schema.Scheme.TheVariants.{Strong, Causal, Eventual}
use Rattle.row_value.specs.declared.schema.Column.{Column}
use Rattle.row_value.specs.declared.schema.Schema.{Schema}
use Rattle.value_codec.specs.FirstBad.{IsFirstBad}
use Rattle.value_codec.specs.Spelling.{list_spelling}
use Rattle.value_codec.specs.SchemaSpelling.{kind_code, scheme_code, IsChunkSize, column_spelling, schema_spelling, HasSchemaSpelling}
use Rattle.value_codec.specs.Reading.{◌>>=◌, byte_at, exactly_at, text_at, items_at}
use Rattle.value_codec.specs.SchemaReading.{scheme_at, low_chunk_at, high_chunk_at, chunk_at, low_count_at, count_at, kind_in, column_in, after_column, columns_at, schema_at}
use Rattle.value_codec.proofs.FieldReads.{bind_ok, ok_is, branch, no_fault, gives, Reads, text_reads}
use Rattle.value_codec.proofs.PieceReads.{exactly_takes, exactly_again}
use Rattle.value_codec.proofs.ListReads.{IsList, items_reads}
use Rattle.value_codec.proofs.SchemaReads.{scheme_reads, IsKindNext, kind_reads, chunk_reads, IsColumnCount, small, count_reads, IsColumnNext, column_reads, AreColumns, columns_read, each_are}
use Rattle.value_codec.proofs.SchemaReads.{are_each}
use Rattle.value_codec.proofs.Stops.{Stops, err_is, not_ok, bind_err, branch_err, head_is, tail_is, moved, behind, no_byte, bad_byte, two_fail, two_fail_made, paired, pair_reads, pair_stop, bind_same}
use Rattle.value_codec.proofs.Stops.{two_then}
use Rattle.value_codec.proofs.FieldStops.{exactly_fails, Given, given, IsText, text_stop, items_stop}
use Rattle.value_codec.proofs.ValueStops.{differ}

abbrev Whatever : {X : Type 0} → X → Type 0
Whatever x = Unit {0}

-- ---- a byte that is one of few

abbrev scheme_byte : Scheme → List ℕ
scheme_byte x = scheme_code x ∷ []

no_scheme : (b : ℕ) → eqb b 1 ≡ false → eqb b 2 ≡ false → eqb b 3 ≡ false → (x : Scheme) (others : List ℕ) → Unit {0} → scheme_byte x ≡ b ∷ others → ⊥
no_scheme b p q r Strong others h e = eqb-false b 1 p (sym (head_is 1 b [] others e))
no_scheme b p q r Causal others h e = eqb-false b 2 q (sym (head_is 2 b [] others e))
no_scheme b p q r Eventual others h e = eqb-false b 3 r (sym (head_is 3 b [] others e))

abbrev BadScheme : List ℕ → ℕ → Type 0
BadScheme bytes left = IsFirstBad (λ (x : Scheme). Unit {0}) scheme_byte bytes left

scheme_fails : (bytes : List ℕ) (left : ℕ) → IsBytes bytes → scheme_at bytes ≡ Err left → BadScheme bytes left
unfolding scheme_at byte_at
scheme_fails [] left fits e = subst (BadScheme []) (err_is {A = Scheme × List ℕ} 0 left e) (no_byte (λ (x : Scheme). Unit {0}) scheme_byte Strong tt)
scheme_fails (b ∷ bytes) left fits e =
    elim (branch_err (eqb b 1) (gives Strong bytes) (cond (eqb b 2) (gives Causal bytes) (cond (eqb b 3) (gives Eventual bytes) (Err (suc (length bytes))))) left e) [
      | inl y ↦ absurd (not_ok (Strong, bytes) left y.1)
      | inr p ↦ elim (branch_err (eqb b 2) (gives Causal bytes) (cond (eqb b 3) (gives Eventual bytes) (Err (suc (length bytes)))) left p.1) [
        | inl y ↦ absurd (not_ok (Causal, bytes) left y.1)
        | inr q ↦ elim (branch_err (eqb b 3) (gives Eventual bytes) (Err (suc (length bytes))) left q.1) [
          | inl y ↦ absurd (not_ok (Eventual, bytes) left y.1)
          | inr r ↦ subst (BadScheme (b ∷ bytes)) (err_is {A = Scheme × List ℕ} (suc (length bytes)) left r.1) (bad_byte (λ (x : Scheme). Unit {0}) scheme_byte Strong b bytes tt (no_scheme b p.0 q.0 r.0))
        ]
      ]
    ]

scheme_stop : Stops (λ (x : Scheme). Unit {0}) scheme_byte scheme_at
scheme_stop = record { some = Strong; has = tt; fails = scheme_fails }

abbrev kind_byte : ColumnKind → List ℕ
kind_byte x = kind_code x ∷ []

object_next : (only : Bool) → IsKindNext only kinds.Object
object_next only o = refl

no_cell_kind : (b : ℕ) → eqb b 4 ≡ false → (x : ColumnKind) (others : List ℕ) → IsKindNext true x → kind_byte x ≡ b ∷ others → ⊥
no_cell_kind b p kinds.Int others h e = let q : false ≡ true = h refl in absurd cc
no_cell_kind b p kinds.Bool others h e = let q : false ≡ true = h refl in absurd cc
no_cell_kind b p kinds.Text others h e = let q : false ≡ true = h refl in absurd cc
no_cell_kind b p kinds.Object others h e = eqb-false b 4 p (sym (head_is 4 b [] others e))

no_kind : (b : ℕ) → eqb b 4 ≡ false → eqb b 1 ≡ false → eqb b 2 ≡ false → eqb b 3 ≡ false → (x : ColumnKind) (others : List ℕ) → IsKindNext false x → kind_byte x ≡ b ∷ others → ⊥
no_kind b p q r s kinds.Int others h e = eqb-false b 1 q (sym (head_is 1 b [] others e))
no_kind b p q r s kinds.Bool others h e = eqb-false b 2 r (sym (head_is 2 b [] others e))
no_kind b p q r s kinds.Text others h e = eqb-false b 3 s (sym (head_is 3 b [] others e))
no_kind b p q r s kinds.Object others h e = eqb-false b 4 p (sym (head_is 4 b [] others e))

abbrev BadKind : Bool → List ℕ → ℕ → Type 0
BadKind only bytes left = IsFirstBad (IsKindNext only) kind_byte bytes left

kind_fails : (only : Bool) (bytes : List ℕ) (left : ℕ) → IsBytes bytes → kind_in only bytes ≡ Err left → BadKind only bytes left
unfolding kind_in byte_at
kind_fails only [] left fits e = subst (BadKind only []) (err_is {A = ColumnKind × List ℕ} 0 left e) (no_byte (IsKindNext only) kind_byte kinds.Object (object_next only))
kind_fails true (b ∷ bytes) left fits e =
    elim (branch_err (eqb b 4) (gives kinds.Object bytes) (Err (suc (length bytes))) left e) [
      | inl y ↦ absurd (not_ok (kinds.Object, bytes) left y.1)
      | inr p ↦ subst (BadKind true (b ∷ bytes)) (err_is {A = ColumnKind × List ℕ} (suc (length bytes)) left p.1) (bad_byte (IsKindNext true) kind_byte kinds.Object b bytes (object_next true) (no_cell_kind b p.0))
    ]
kind_fails false (b ∷ bytes) left fits e =
    elim (branch_err (eqb b 4) (gives kinds.Object bytes) (cond (eqb b 1) (gives kinds.Int bytes) (cond (eqb b 2) (gives kinds.Bool bytes) (cond (eqb b 3) (gives kinds.Text bytes) (Err (suc (length bytes)))))) left e) [
      | inl y ↦ absurd (not_ok (kinds.Object, bytes) left y.1)
      | inr p ↦ elim (branch_err (eqb b 1) (gives kinds.Int bytes) (cond (eqb b 2) (gives kinds.Bool bytes) (cond (eqb b 3) (gives kinds.Text bytes) (Err (suc (length bytes))))) left p.1) [
        | inl y ↦ absurd (not_ok (kinds.Int, bytes) left y.1)
        | inr q ↦ elim (branch_err (eqb b 2) (gives kinds.Bool bytes) (cond (eqb b 3) (gives kinds.Text bytes) (Err (suc (length bytes)))) left q.1) [
          | inl y ↦ absurd (not_ok (kinds.Bool, bytes) left y.1)
          | inr r ↦ elim (branch_err (eqb b 3) (gives kinds.Text bytes) (Err (suc (length bytes))) left r.1) [
            | inl y ↦ absurd (not_ok (kinds.Text, bytes) left y.1)
            | inr s ↦ subst (BadKind false (b ∷ bytes)) (err_is {A = ColumnKind × List ℕ} (suc (length bytes)) left s.1) (bad_byte (IsKindNext false) kind_byte kinds.Object b bytes (object_next false) (no_kind b p.0 q.0 r.0 s.0))
          ]
        ]
      ]
    ]

kind_stop : (only : Bool) → Stops (IsKindNext only) kind_byte (kind_in only)
kind_stop only = record { some = kinds.Object; has = object_next only; fails = kind_fails only }

-- ---- the chunk size, its first bytes left out

abbrev chunk_from : ℕ → ℕ → List ℕ
chunk_from from n = drop from (to_be_bytes w32 n)

abbrev IsLow : ℕ → Type 0
IsLow n = (n ≡ 64) ⊎ (n ≡ 1024)

given_err : {A : Type 0} (text bytes : List ℕ) (x : A) (left : ℕ) → (exactly_at text bytes >>= λ end. gives x end) ≡ Err left → exactly_at text bytes ≡ Err left
given_err text bytes x left e =
    elim (bind_err (exactly_at text bytes) (λ end. gives x end) left e) [
      | inl h ↦ h
      | inr h ↦ absurd (not_ok (x, h.0) left h.2)
    ]

back_64 : (z : ℕ) (others : List ℕ) → IsLow z → chunk_from 2 z ≡ 0 ∷ others → (u : Unit {0}) × Unit {0} × (64 ∷ [] ≡ others)
back_64 z others (inl is) e = (tt, tt, tail_is 0 0 (64 ∷ []) others (ap (chunk_from 2) (sym is) ∙ e))
back_64 z others (inr is) e = differ 4 0 (0 ∷ []) others refl (ap (chunk_from 2) (sym is) ∙ e)

back_1024 : (z : ℕ) (others : List ℕ) → IsLow z → chunk_from 2 z ≡ 4 ∷ others → (u : Unit {0}) × Unit {0} × (0 ∷ [] ≡ others)
back_1024 z others (inl is) e = differ 0 4 (64 ∷ []) others refl (ap (chunk_from 2) (sym is) ∙ e)
back_1024 z others (inr is) e = (tt, tt, tail_is 4 4 (0 ∷ []) others (ap (chunk_from 2) (sym is) ∙ e))

no_low : (b : ℕ) → eqb b 0 ≡ false → eqb b 4 ≡ false → (z : ℕ) (others : List ℕ) → IsLow z → chunk_from 2 z ≡ b ∷ others → ⊥
no_low b p q z others (inl is) e = eqb-false b 0 p (sym (head_is 0 b (64 ∷ []) others (ap (chunk_from 2) (sym is) ∙ e)))
no_low b p q z others (inr is) e = eqb-false b 4 q (sym (head_is 4 b (0 ∷ []) others (ap (chunk_from 2) (sym is) ∙ e)))

low_fails : (bytes : List ℕ) (left : ℕ) → low_chunk_at bytes ≡ Err left → IsFirstBad IsLow (chunk_from 2) bytes left
unfolding low_chunk_at byte_at
low_fails [] left e = subst (IsFirstBad IsLow (chunk_from 2) []) (err_is {A = ℕ × List ℕ} 0 left e) (no_byte IsLow (chunk_from 2) 64 (inl refl))
low_fails (b ∷ bytes) left e =
    elim (branch_err (eqb b 0) (exactly_at (64 ∷ []) bytes >>= λ end. gives 64 end) (cond (eqb b 4) (exactly_at (0 ∷ []) bytes >>= λ end. gives 1024 end) (Err (suc (length bytes)))) left e) [
      | inl y ↦ subst (λ (m : ℕ). IsFirstBad IsLow (chunk_from 2) (m ∷ bytes) left) (sym (eqb-true b 0 y.0))
          (behind 0 Given (given (64 ∷ [])) IsLow (chunk_from 2) bytes left (λ u h. (64, inl refl, refl)) back_64 (exactly_fails (64 ∷ []) bytes left (given_err (64 ∷ []) bytes 64 left y.1)))
      | inr p ↦ elim (branch_err (eqb b 4) (exactly_at (0 ∷ []) bytes >>= λ end. gives 1024 end) (Err (suc (length bytes))) left p.1) [
        | inl y ↦ subst (λ (m : ℕ). IsFirstBad IsLow (chunk_from 2) (m ∷ bytes) left) (sym (eqb-true b 4 y.0))
            (behind 4 Given (given (0 ∷ [])) IsLow (chunk_from 2) bytes left (λ u h. (1024, inr refl, refl)) back_1024 (exactly_fails (0 ∷ []) bytes left (given_err (0 ∷ []) bytes 1024 left y.1)))
        | inr q ↦ subst (IsFirstBad IsLow (chunk_from 2) (b ∷ bytes)) (err_is {A = ℕ × List ℕ} (suc (length bytes)) left q.1) (bad_byte IsLow (chunk_from 2) 64 b bytes (inl refl) (no_low b p.0 q.0))
      ]
    ]

low_of : (z : ℕ) → IsLow z → IsChunkSize z × (chunk_from 1 z ≡ 0 ∷ chunk_from 2 z)
low_of z (inl is) = (inl is, rw is refl)
low_of z (inr is) = (inr (inl is), rw is refl)

back_low : (z : ℕ) (others : List ℕ) → IsChunkSize z → chunk_from 1 z ≡ 0 ∷ others → (w : ℕ) × IsLow w × (chunk_from 2 w ≡ others)
back_low z others (inl is) e = (64, inl refl, tail_is 0 0 (0 ∷ (64 ∷ [])) others (ap (chunk_from 1) (sym is) ∙ e))
back_low z others (inr (inl is)) e = (1024, inr refl, tail_is 0 0 (4 ∷ (0 ∷ [])) others (ap (chunk_from 1) (sym is) ∙ e))
back_low z others (inr (inr is)) e = differ 1 0 (0 ∷ (0 ∷ [])) others refl (ap (chunk_from 1) (sym is) ∙ e)

back_high : (z : ℕ) (others : List ℕ) → IsChunkSize z → chunk_from 1 z ≡ 1 ∷ others → (u : Unit {0}) × Unit {0} × (0 ∷ (0 ∷ []) ≡ others)
back_high z others (inl is) e = differ 0 1 (0 ∷ (64 ∷ [])) others refl (ap (chunk_from 1) (sym is) ∙ e)
back_high z others (inr (inl is)) e = differ 0 1 (4 ∷ (0 ∷ [])) others refl (ap (chunk_from 1) (sym is) ∙ e)
back_high z others (inr (inr is)) e = (tt, tt, tail_is 1 1 (0 ∷ (0 ∷ [])) others (ap (chunk_from 1) (sym is) ∙ e))

no_high : (b : ℕ) → eqb b 0 ≡ false → eqb b 1 ≡ false → (z : ℕ) (others : List ℕ) → IsChunkSize z → chunk_from 1 z ≡ b ∷ others → ⊥
no_high b p q z others (inl is) e = eqb-false b 0 p (sym (head_is 0 b (0 ∷ (64 ∷ [])) others (ap (chunk_from 1) (sym is) ∙ e)))
no_high b p q z others (inr (inl is)) e = eqb-false b 0 p (sym (head_is 0 b (4 ∷ (0 ∷ [])) others (ap (chunk_from 1) (sym is) ∙ e)))
no_high b p q z others (inr (inr is)) e = eqb-false b 1 q (sym (head_is 1 b (0 ∷ (0 ∷ [])) others (ap (chunk_from 1) (sym is) ∙ e)))

high_fails : (bytes : List ℕ) (left : ℕ) → high_chunk_at bytes ≡ Err left → IsFirstBad IsChunkSize (chunk_from 1) bytes left
unfolding high_chunk_at byte_at
high_fails [] left e = subst (IsFirstBad IsChunkSize (chunk_from 1) []) (err_is {A = ℕ × List ℕ} 0 left e) (no_byte IsChunkSize (chunk_from 1) 64 (inl refl))
high_fails (b ∷ bytes) left e =
    elim (branch_err (eqb b 0) (low_chunk_at bytes) (cond (eqb b 1) (exactly_at (0 ∷ (0 ∷ [])) bytes >>= λ end. gives 65536 end) (Err (suc (length bytes)))) left e) [
      | inl y ↦ subst (λ (m : ℕ). IsFirstBad IsChunkSize (chunk_from 1) (m ∷ bytes) left) (sym (eqb-true b 0 y.0))
          (behind 0 IsLow (chunk_from 2) IsChunkSize (chunk_from 1) bytes left (λ z h. (z, (low_of z h).0, (low_of z h).1)) back_low (low_fails bytes left y.1))
      | inr p ↦ elim (branch_err (eqb b 1) (exactly_at (0 ∷ (0 ∷ [])) bytes >>= λ end. gives 65536 end) (Err (suc (length bytes))) left p.1) [
        | inl y ↦ subst (λ (m : ℕ). IsFirstBad IsChunkSize (chunk_from 1) (m ∷ bytes) left) (sym (eqb-true b 1 y.0))
            (behind 1 Given (given (0 ∷ (0 ∷ []))) IsChunkSize (chunk_from 1) bytes left (λ u h. (65536, inr (inr refl), refl)) back_high (exactly_fails (0 ∷ (0 ∷ [])) bytes left (given_err (0 ∷ (0 ∷ [])) bytes 65536 left y.1)))
        | inr q ↦ subst (IsFirstBad IsChunkSize (chunk_from 1) (b ∷ bytes)) (err_is {A = ℕ × List ℕ} (suc (length bytes)) left q.1) (bad_byte IsChunkSize (chunk_from 1) 64 b bytes (inl refl) (no_high b p.0 q.0))
      ]
    ]

zero_first : (z : ℕ) → IsChunkSize z → to_be_bytes w32 z ≡ 0 ∷ chunk_from 1 z
zero_first z (inl is) = rw is refl
zero_first z (inr (inl is)) = rw is refl
zero_first z (inr (inr is)) = rw is refl

chunk_fails : (bytes : List ℕ) (left : ℕ) → IsBytes bytes → chunk_at bytes ≡ Err left → IsFirstBad IsChunkSize (to_be_bytes w32) bytes left
unfolding chunk_at exactly_at
chunk_fails [] left fits e = subst (IsFirstBad IsChunkSize (to_be_bytes w32) []) (err_is {A = ℕ × List ℕ} 0 left e) (no_byte IsChunkSize (to_be_bytes w32) 64 (inl refl))
chunk_fails (b ∷ bytes) left fits e =
    elim (bind_err (cond (eqb b 0) (Ok bytes) (Err (suc (length bytes)))) high_chunk_at left e) [
      | inl h ↦ elim (branch_err (eqb b 0) (Ok bytes) (Err (suc (length bytes))) left h) [
        | inl y ↦ absurd (not_ok bytes left y.1)
        | inr q ↦ subst (IsFirstBad IsChunkSize (to_be_bytes w32) (b ∷ bytes)) (err_is {A = List ℕ} (suc (length bytes)) left q.1)
            (bad_byte IsChunkSize (to_be_bytes w32) 64 b bytes (inl refl) (λ z others k f. eqb-false b 0 q.0 (sym (head_is 0 b (chunk_from 1 z) others (sym (zero_first z k) ∙ f)))))
      ]
      | inr h ↦
          let s = opened (eqb b 0) bytes (suc (length bytes)) h.0 h.1 in
          let high : high_chunk_at bytes ≡ Err left = ap high_chunk_at s.1 ∙ h.2 in
          subst (λ (m : ℕ). IsFirstBad IsChunkSize (to_be_bytes w32) (m ∷ bytes) left) (sym (eqb-true b 0 s.0))
          (behind 0 IsChunkSize (chunk_from 1) IsChunkSize (to_be_bytes w32) bytes left (λ z k. (z, k, zero_first z k)) (λ z others k f. (z, k, tail_is 0 0 (chunk_from 1 z) others (sym (zero_first z k) ∙ f))) (high_fails bytes left high))
    ] where
      opened : (t : Bool) (l : List ℕ) (n : ℕ) (r : List ℕ) → cond t (Ok l) (Err n) ≡ Ok r → (t ≡ true) × (l ≡ r)
      opened true l n r f = (refl, cc)
      opened false l n r f = absurd cc

chunk_stop : Stops IsChunkSize (to_be_bytes w32) chunk_at
chunk_stop = record { some = 64; has = inl refl; fails = chunk_fails }

-- ---- the number of columns

neither : (a b : Bool) → (a || b) ≡ false → (a ≡ false) × (b ≡ false)
neither true b e = absurd cc
neither false b e = (refl, e)

some_of : (a b : Bool) → (a || b) ≡ true → (a ≡ true) ⊎ (b ≡ true)
some_of true b e = inl refl
some_of false b e = inr e

abbrev last_byte : ℕ → List ℕ
last_byte n = n ∷ []

one_column : IsColumnCount 1
one_column = record { some = omega arith; most = omega arith }

low_count_fails : (bytes : List ℕ) (left : ℕ) → low_count_at bytes ≡ Err left → IsFirstBad IsColumnCount last_byte bytes left
unfolding low_count_at byte_at
low_count_fails [] left e = subst (IsFirstBad IsColumnCount last_byte []) (err_is {A = ℕ × List ℕ} 0 left e) (no_byte IsColumnCount last_byte 1 one_column)
low_count_fails (b ∷ bytes) left e =
    elim (branch_err (eqb b 0 || ltb 32 b) (Err (suc (length bytes))) (gives b bytes) left e) [
      | inr h ↦ absurd (not_ok (b, bytes) left h.1)
      | inl h ↦ subst (IsFirstBad IsColumnCount last_byte (b ∷ bytes)) (err_is {A = ℕ × List ℕ} (suc (length bytes)) left h.1) (bad_byte IsColumnCount last_byte 1 b bytes one_column (λ n others k f.
          let is : n ≡ b = head_is n b [] others f in
          let some : 1 ≤ n = k.some in
          let most : n ≤ 32 = k.most in
          elim (some_of (eqb b 0) (ltb 32 b) h.0) [
            | inl z ↦ (let none : b ≡ 0 = eqb-true _ _ z in omega arith)
            | inr z ↦ (let many : 32 < b = ltb-true _ _ z in omega arith)
          ]))
    ]

three_zeros : (n : ℕ) → IsColumnCount n → to_be_bytes w32 n ≡ 0 ∷ (0 ∷ (0 ∷ last_byte n))
three_zeros n h = let most : n ≤ 32 = h.most in small n (omega arith)

low_count_takes : (bytes : List ℕ) (x : ℕ) (rest : List ℕ) → IsBytes bytes → low_count_at bytes ≡ Ok (x, rest) → IsColumnCount x × (bytes ≡ last_byte x ++ rest)
unfolding low_count_at byte_at
low_count_takes [] x rest fits e = absurd (no_fault 0 (x, rest) e)
low_count_takes (b ∷ bytes) x rest fits e =
    elim (branch (eqb b 0 || ltb 32 b) (Err (suc (length bytes))) (gives b bytes) (x, rest) e) [
      | inl y ↦ absurd (no_fault (suc (length bytes)) (x, rest) y.1)
      | inr n ↦
          let tests = neither (eqb b 0) (ltb 32 b) n.0 in
          let most : b ≤ 32 = ltb-false _ _ tests.1 in
          let some : 1 ≤ b = (let nonzero : b ≡ 0 → ⊥ = eqb-false _ _ tests.0 in omega arith) in
          subst (λ (p : ℕ × List ℕ). IsColumnCount p.0 × (b ∷ bytes ≡ last_byte p.0 ++ p.1)) (ok_is (b, bytes) (x, rest) n.1) (record { some = some; most = most }, refl)
    ]

low_count_again : (x : ℕ) (rest : List ℕ) → IsColumnCount x → low_count_at (last_byte x ++ rest) ≡ Ok (x, rest)
unfolding low_count_at byte_at
low_count_again x rest h =
    let some : 1 ≤ x = h.some in
    let nonzero : eqb x 0 ≡ false = ne_eqb x 0 (λ e. omega arith) in
    rw (nonzero, le-ltb 32 x h.most) refl

low_count_reads : Reads IsColumnCount last_byte low_count_at
low_count_reads = record { takes = low_count_takes; again = low_count_again }

low_count_stop : Stops IsColumnCount last_byte low_count_at
low_count_stop = record { some = 1; has = one_column; fails = λ bytes left fits e. low_count_fails bytes left e }

abbrev three : List ℕ
three = 0 ∷ (0 ∷ (0 ∷ []))

abbrev zeros_at : List ℕ → Result (Unit {0} × List ℕ) ℕ
zeros_at bytes = exactly_at three bytes >>= λ rest. gives tt rest

zeros_takes : (bytes : List ℕ) (u : Unit {0}) (rest : List ℕ) → IsBytes bytes → zeros_at bytes ≡ Ok (u, rest) → Unit {0} × (bytes ≡ three ++ rest)
zeros_takes bytes u rest fits e =
    let a = bind_ok (exactly_at three bytes) (λ rest. gives tt rest) (u, rest) e in
    (tt, exactly_takes three bytes a.0 a.1 ∙ ap (λ (p : Unit {0} × List ℕ). three ++ p.1) (ok_is (tt, a.0) (u, rest) a.2))

zeros_again : (u : Unit {0}) (rest : List ℕ) → Unit {0} → zeros_at (three ++ rest) ≡ Ok (u, rest)
zeros_again u rest h = rw (exactly_again three rest) refl

zeros_reads : Reads Given (given three) zeros_at
zeros_reads = record { takes = zeros_takes; again = zeros_again }

zeros_stop : Stops Given (given three) zeros_at
zeros_stop = record { some = tt; has = tt; fails = λ bytes left fits e. exactly_fails three bytes left (given_err three bytes tt left e) }

abbrev nothing_and : List ℕ → Result (Unit {0} × List ℕ) ℕ
nothing_and rest = Ok (tt, rest)

counted_behind : (r : Result (List ℕ) ℕ) → ((r >>= nothing_and) >>= λ a. low_count_at a.1) ≡ (r >>= low_count_at)
counted_behind (Ok rest) = refl
counted_behind (Err n) = refl

count_fails : (bytes : List ℕ) (left : ℕ) → IsBytes bytes → count_at bytes ≡ Err left → IsFirstBad IsColumnCount (to_be_bytes w32) bytes left
unfolding count_at
count_fails bytes left fits e =
    moved {W = Unit {0} × ℕ} (λ p. Unit {0} × IsColumnCount p.1) (λ p. three ++ last_byte p.1) IsColumnCount (to_be_bytes w32) bytes left
    (λ p h. (p.1, h.1, three_zeros p.1 h.1)) (λ n h. ((tt, n), (tt, h), sym (three_zeros n h)))
    (two_fail Given (given three) zeros_at (λ u. IsColumnCount) (λ (u : Unit {0}). last_byte) (λ (u : Unit {0}). low_count_at) zeros_reads zeros_stop (λ u. low_count_reads) (λ u h. low_count_stop) bytes left fits
    (counted_behind (exactly_at three bytes) ∙ e))

count_stop : Stops IsColumnCount (to_be_bytes w32) count_at
count_stop = record { some = 1; has = one_column; fails = count_fails }

-- ---- columns

abbrev column_of : List ℕ → ColumnKind → Column
column_of name kind = record { name = name; kind = kind }

column_fails : (only : Bool) (bytes : List ℕ) (left : ℕ) → IsBytes bytes → column_in only bytes ≡ Err left → IsFirstBad (IsColumnNext only) column_spelling bytes left
unfolding column_in
column_fails only bytes left fits e =
    moved {W = List ℕ × ColumnKind} (λ p. IsText p.0 × IsKindNext only p.1) (λ p. counted p.0 ++ kind_byte p.1) (IsColumnNext only) column_spelling bytes left
    (λ p h. (column_of p.0 p.1, (h.0, h.1), refl)) (λ c h. ((c.name, c.kind), (h.0, h.1), refl))
    (two_fail_made IsText counted text_at (λ (n : List ℕ). IsKindNext only) (λ (n : List ℕ). kind_byte) (λ (n : List ℕ). kind_in only) text_reads text_stop (λ n. kind_reads only) (λ n h. kind_stop only) column_of bytes left fits e)

column_stop : (only : Bool) → Stops (IsColumnNext only) column_spelling (column_in only)
column_stop only = record { some = column_of text_stop.some kinds.Object; has = (text_stop.has, object_next only); fails = column_fails only }

columns_fail : (bytes : List ℕ) (left : ℕ) → IsBytes bytes → columns_at bytes ≡ Err left → IsFirstBad AreColumns (list_spelling column_spelling) bytes left
unfolding columns_at
columns_fail bytes left fits e =
    moved {W = ℕ × List Column} (λ p. IsColumnCount p.0 × IsList after_column IsColumnNext false p.0 p.1) (λ p. to_be_bytes w32 p.0 ++ flat_map column_spelling p.1) AreColumns (list_spelling column_spelling) bytes left
    (λ p h. (p.1, (subst IsColumnCount (sym h.1.0) h.0, h.1.1), ap (λ (n : ℕ). to_be_bytes w32 n ++ flat_map column_spelling p.1) h.1.0))
    (λ xs h. ((length xs, xs), (h.0, (refl, h.1)), refl))
    (two_fail IsColumnCount (to_be_bytes w32) count_at (λ (n : ℕ). IsList after_column IsColumnNext false n) (λ (n : ℕ). flat_map column_spelling) (λ (n : ℕ). items_at after_column column_in false n) count_reads count_stop
    (λ n. items_reads after_column IsColumnNext column_spelling column_in column_reads n false) (λ n h. items_stop after_column IsColumnNext column_spelling column_in column_reads column_stop n false) bytes left fits e)

columns_stop : Stops AreColumns (list_spelling column_spelling) columns_at
columns_stop =
    let one = items_stop after_column IsColumnNext column_spelling column_in column_reads column_stop 1 false in
    record { some = one.some; has = (subst IsColumnCount (sym one.has.0) one_column, one.has.1); fails = columns_fail }

-- ---- schemas

abbrev IsEnd : ℕ × List Column → Type 0
IsEnd p = IsChunkSize p.0 × AreColumns p.1

abbrev end_spelling : ℕ × List Column → List ℕ
end_spelling p = to_be_bytes w32 p.0 ++ list_spelling column_spelling p.1

abbrev end_at : List ℕ → Result ((ℕ × List Column) × List ℕ) ℕ
end_at bytes = chunk_at bytes >>= λ a. columns_at a.1 >>= λ b. paired a.0 b.0 b.1

end_reads : Reads IsEnd end_spelling end_at
end_reads = pair_reads IsChunkSize (to_be_bytes w32) chunk_at (λ (n : ℕ). AreColumns) (λ (n : ℕ). list_spelling column_spelling) (λ (n : ℕ). columns_at) chunk_reads (λ n. columns_read)

end_stop : Stops IsEnd end_spelling end_at
end_stop = pair_stop IsChunkSize (to_be_bytes w32) chunk_at (λ (n : ℕ). AreColumns) (λ (n : ℕ). list_spelling column_spelling) (λ (n : ℕ). columns_at) chunk_reads chunk_stop (λ n. columns_read) (λ n h. columns_stop)

abbrev IsTail : Scheme × (ℕ × List Column) → Type 0
IsTail p = Unit {0} × IsEnd p.1

abbrev tail_spelling : Scheme × (ℕ × List Column) → List ℕ
tail_spelling p = scheme_byte p.0 ++ end_spelling p.1

abbrev tail_at : List ℕ → Result ((Scheme × (ℕ × List Column)) × List ℕ) ℕ
tail_at bytes = scheme_at bytes >>= λ a. end_at a.1 >>= λ b. paired a.0 b.0 b.1

tail_reads : Reads IsTail tail_spelling tail_at
tail_reads = pair_reads (λ (x : Scheme). Unit {0}) scheme_byte scheme_at (λ (x : Scheme). IsEnd) (λ (x : Scheme). end_spelling) (λ (x : Scheme). end_at) scheme_reads (λ n. end_reads)

tail_stop : Stops IsTail tail_spelling tail_at
tail_stop = pair_stop (λ (x : Scheme). Unit {0}) scheme_byte scheme_at (λ (x : Scheme). IsEnd) (λ (x : Scheme). end_spelling) (λ (x : Scheme). end_at) scheme_reads scheme_stop (λ n. end_reads) (λ n h. end_stop)

abbrev made : List ℕ → Scheme × (ℕ × List Column) → Schema
made name p = record { name = name; scheme = p.0; chunk = p.1.0; columns = p.1.1 }

regrouped : (bytes : List ℕ) → (text_at bytes >>= λ name. tail_at name.1 >>= λ p. gives (made name.0 p.0) p.1) ≡ schema_at bytes
unfolding schema_at
regrouped bytes =
    bind_same (text_at bytes) (λ name. tail_at name.1 >>= λ p. gives (made name.0 p.0) p.1)
    (λ name. scheme_at name.1 >>= λ scheme. chunk_at scheme.1 >>= λ chunk. columns_at chunk.1 >>= λ columns. gives (made name.0 (scheme.0, (chunk.0, columns.0))) columns.1)
    (λ name. two_then (scheme_at name.1) (λ a. end_at a.1) (λ p. gives (made name.0 p.0) p.1)
    ∙ bind_same (scheme_at name.1) (λ a. end_at a.1 >>= λ b. gives (made name.0 (a.0, b.0)) b.1)
    (λ scheme. chunk_at scheme.1 >>= λ chunk. columns_at chunk.1 >>= λ columns. gives (made name.0 (scheme.0, (chunk.0, columns.0))) columns.1)
    (λ scheme. two_then (chunk_at scheme.1) (λ a. columns_at a.1) (λ b. gives (made name.0 (scheme.0, b.0)) b.1)))

schema_of : (w : List ℕ × (Scheme × (ℕ × List Column))) → IsText w.0 × IsTail w.1 → HasSchemaSpelling (made w.0 w.1)
schema_of w h =
    let columns = h.1.1.1 in
    let each = each_are false w.1.1.1 columns.1 in
    record { text = h.0; size = h.1.1.0; some = columns.0.some; most = columns.0.most; each = each.0; order = each.2 }

parts_of : (z : Schema) → HasSchemaSpelling z → (w : List ℕ × (Scheme × (ℕ × List Column))) × (IsText w.0 × IsTail w.1) × (counted w.0 ++ tail_spelling w.1 ≡ schema_spelling z)
parts_of z h =
    let columns : AreColumns z.columns = (record { some = h.some; most = h.most }, are_each false z.columns h.each (λ o. let f : ⊥ = (let q : false ≡ true = o in cc) in absurd f) h.order) in
    ((z.name, (z.scheme, (z.chunk, z.columns))), (h.text, (tt, (h.size, columns))), refl)

schema_fails : (bytes : List ℕ) (left : ℕ) → IsBytes bytes → schema_at bytes ≡ Err left → IsFirstBad HasSchemaSpelling schema_spelling bytes left
schema_fails bytes left fits e =
    moved {W = List ℕ × (Scheme × (ℕ × List Column))} (λ w. IsText w.0 × IsTail w.1) (λ w. counted w.0 ++ tail_spelling w.1) HasSchemaSpelling schema_spelling bytes left
    (λ w h. (made w.0 w.1, schema_of w h, refl)) parts_of
    (two_fail_made IsText counted text_at (λ (n : List ℕ). IsTail) (λ (n : List ℕ). tail_spelling) (λ (n : List ℕ). tail_at) text_reads text_stop (λ n. tail_reads) (λ n h. tail_stop) made bytes left fits (regrouped bytes ∙ e))

pub schema_stop : Stops HasSchemaSpelling schema_spelling schema_at
schema_stop = record { some = made text_stop.some tail_stop.some; has = schema_of (text_stop.some, tail_stop.some) (text_stop.has, tail_stop.has); fails = schema_fails }
