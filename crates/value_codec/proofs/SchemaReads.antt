-- Schemas: what is read is spelled so, and what is spelled so is read.
use Rattle.std.proofs.Common.{◌≡◌, ℕ, ◌^◌, ◌<◌, ◌≤◌, ◌/◌, ◌%◌, Bool, true, false, cond, eqb, ltb, ◌||◌, List, [], ◌∷◌, ◌++◌, length, Ok, Err, refl, sym, ap, subst, ◌∙◌, append_assoc, arith, ◌⊎◌, inl}
use Rattle.std.proofs.Common.{inr}
use Rattle.std.specs.Prelude.{IsUtf8}
use Rattle.std.specs.List.{flat_map, AllByRecursion}
use Rattle.std.specs.Int.{w32, to_be_bytes}
use Rattle.std.proofs.lemmas.Bool.{eqb-true, eqb-false, ne_eqb, ltb-false, le-ltb}
use Rattle.stab_base.specs.Codec.{IsBytes, counted}
use Rattle.row_value.specs.declared.schema.ColumnKind.{ColumnKind}
use Rattle.row_value.specs.declared.schema.ColumnKind.TheVariants as kinds
use Rattle.row_value.specs.declared.schema.Scheme.{Scheme}
use Rattle.row_value.specs.declared.schema.Scheme.TheVariants.{Strong, Causal, Eventual}
use Rattle.row_value.specs.declared.schema.Column.{Column}
use Rattle.row_value.specs.declared.schema.Schema.{Schema}
use Rattle.row_value.specs.Fit.{is_object}
use Rattle.value_codec.specs.Spelling.{list_spelling}
use Rattle.value_codec.specs.SchemaSpelling.{kind_code, scheme_code, IsChunkSize, column_spelling, HasColumnSpelling, AreObjectColumns, CellsFirst, schema_spelling, HasSchemaSpelling}
use Rattle.value_codec.specs.Reading.{◌>>=◌, byte_at, exactly_at, text_at, items_at}
use Rattle.value_codec.specs.SchemaReading.{scheme_at, low_chunk_at, high_chunk_at, chunk_at, low_count_at, count_at, kind_in, column_in, after_column, columns_at, schema_at}
use Rattle.value_codec.proofs.FieldReads.{bind_ok, ok_is, branch, no_fault, gives, Reads, rest_fits, two_take, two_again, byte_reads, text_reads}
use Rattle.value_codec.proofs.ListReads.{EachFrom, items_reads}
use Rattle.value_codec.proofs.PieceReads.{exactly_takes}

-- ---- a byte that is one of few

scheme_takes : (bytes : List ℕ) (x : Scheme) (rest : List ℕ) → IsBytes bytes → scheme_at bytes ≡ Ok (x, rest) → Unit {0} × (bytes ≡ (scheme_code x ∷ []) ++ rest)
unfolding scheme_at
scheme_takes bytes x rest fits e =
    let a = bind_ok (byte_at bytes) (λ code. cond (eqb code.0 1) (gives Strong code.1) (cond (eqb code.0 2) (gives Causal code.1) (cond (eqb code.0 3) (gives Eventual code.1) (Err (length bytes))))) (x, rest) e in
    let t = byte_reads.takes bytes a.0.0 a.0.1 fits a.1 in
    let made : (s : Scheme) → a.0.0 ≡ scheme_code s → gives s a.0.1 ≡ gives x rest → Unit {0} × (bytes ≡ (scheme_code x ∷ []) ++ rest) = λ s code is.
    subst (λ (p : Scheme × List ℕ). Unit {0} × (bytes ≡ scheme_code p.0 ∷ p.1)) (ok_is (s, a.0.1) (x, rest) is) (tt, t.1 ∙ ap (λ (n : ℕ). n ∷ a.0.1) code) in
    elim (branch (eqb a.0.0 1) (gives Strong a.0.1) (cond (eqb a.0.0 2) (gives Causal a.0.1) (cond (eqb a.0.0 3) (gives Eventual a.0.1) (Err (length bytes)))) (x, rest) a.2) [
      | inl y ↦ made Strong (eqb-true _ _ y.0) y.1
      | inr n ↦ elim (branch (eqb a.0.0 2) (gives Causal a.0.1) (cond (eqb a.0.0 3) (gives Eventual a.0.1) (Err (length bytes))) (x, rest) n.1) [
        | inl y ↦ made Causal (eqb-true _ _ y.0) y.1
        | inr m ↦ elim (branch (eqb a.0.0 3) (gives Eventual a.0.1) (Err (length bytes)) (x, rest) m.1) [
          | inl y ↦ made Eventual (eqb-true _ _ y.0) y.1
          | inr k ↦ absurd (no_fault (length bytes) (x, rest) k.1)
        ]
      ]
    ]

scheme_again : (x : Scheme) (rest : List ℕ) → Unit {0} → scheme_at ((scheme_code x ∷ []) ++ rest) ≡ Ok (x, rest)
unfolding scheme_at byte_at
scheme_again Strong rest h = refl
scheme_again Causal rest h = refl
scheme_again Eventual rest h = refl

pub scheme_reads : Reads (λ x. Unit {0}) (λ x. scheme_code x ∷ []) scheme_at
scheme_reads = record { takes = scheme_takes; again = scheme_again }

abbrev pub IsKindNext : Bool → ColumnKind → Type 0
IsKindNext only kind = only ≡ true → is_object kind ≡ true

kind_takes : (only : Bool) (bytes : List ℕ) (x : ColumnKind) (rest : List ℕ) → IsBytes bytes → kind_in only bytes ≡ Ok (x, rest) → IsKindNext only x × (bytes ≡ (kind_code x ∷ []) ++ rest)
unfolding kind_in
kind_takes only bytes x rest fits e =
    let a = bind_ok (byte_at bytes) (λ code. cond (eqb code.0 4) (gives kinds.Object code.1) (cond only (Err (length bytes)) (cond (eqb code.0 1) (gives kinds.Int code.1) (cond (eqb code.0 2) (gives kinds.Bool code.1) (cond (eqb code.0 3) (gives kinds.Text code.1) (Err (length bytes))))))) (x, rest) e in
    let t = byte_reads.takes bytes a.0.0 a.0.1 fits a.1 in
    let made : (k : ColumnKind) → IsKindNext only k → a.0.0 ≡ kind_code k → gives k a.0.1 ≡ gives x rest → IsKindNext only x × (bytes ≡ (kind_code x ∷ []) ++ rest) = λ k next code is.
    subst (λ (p : ColumnKind × List ℕ). IsKindNext only p.0 × (bytes ≡ kind_code p.0 ∷ p.1)) (ok_is (k, a.0.1) (x, rest) is) (next, t.1 ∙ ap (λ (n : ℕ). n ∷ a.0.1) code) in
    elim (branch (eqb a.0.0 4) (gives kinds.Object a.0.1) (cond only (Err (length bytes)) (cond (eqb a.0.0 1) (gives kinds.Int a.0.1) (cond (eqb a.0.0 2) (gives kinds.Bool a.0.1) (cond (eqb a.0.0 3) (gives kinds.Text a.0.1) (Err (length bytes)))))) (x, rest) a.2) [
      | inl y ↦ made kinds.Object (λ o. refl) (eqb-true _ _ y.0) y.1
      | inr n ↦ elim (branch only (Err (length bytes)) (cond (eqb a.0.0 1) (gives kinds.Int a.0.1) (cond (eqb a.0.0 2) (gives kinds.Bool a.0.1) (cond (eqb a.0.0 3) (gives kinds.Text a.0.1) (Err (length bytes))))) (x, rest) n.1) [
        | inl y ↦ absurd (no_fault (length bytes) (x, rest) y.1)
        | inr free ↦
            let any : (k : ColumnKind) → IsKindNext only k = λ k o. let f : ⊥ = (let q : true ≡ false = sym o ∙ free.0 in cc) in absurd f in
            elim (branch (eqb a.0.0 1) (gives kinds.Int a.0.1) (cond (eqb a.0.0 2) (gives kinds.Bool a.0.1) (cond (eqb a.0.0 3) (gives kinds.Text a.0.1) (Err (length bytes)))) (x, rest) free.1) [
              | inl y ↦ made kinds.Int (any kinds.Int) (eqb-true _ _ y.0) y.1
              | inr m ↦ elim (branch (eqb a.0.0 2) (gives kinds.Bool a.0.1) (cond (eqb a.0.0 3) (gives kinds.Text a.0.1) (Err (length bytes))) (x, rest) m.1) [
                | inl y ↦ made kinds.Bool (any kinds.Bool) (eqb-true _ _ y.0) y.1
                | inr l ↦ elim (branch (eqb a.0.0 3) (gives kinds.Text a.0.1) (Err (length bytes)) (x, rest) l.1) [
                  | inl y ↦ made kinds.Text (any kinds.Text) (eqb-true _ _ y.0) y.1
                  | inr k ↦ absurd (no_fault (length bytes) (x, rest) k.1)
                ]
              ]
            ]
      ]
    ]

kind_again : (only : Bool) (x : ColumnKind) (rest : List ℕ) → IsKindNext only x → kind_in only ((kind_code x ∷ []) ++ rest) ≡ Ok (x, rest)
unfolding kind_in byte_at
kind_again only kinds.Object rest h = refl
kind_again true kinds.Int rest h = absurd (let q : false ≡ true = h refl in cc)
kind_again true kinds.Bool rest h = absurd (let q : false ≡ true = h refl in cc)
kind_again true kinds.Text rest h = absurd (let q : false ≡ true = h refl in cc)
kind_again false kinds.Int rest h = refl
kind_again false kinds.Bool rest h = refl
kind_again false kinds.Text rest h = refl

pub kind_reads : (only : Bool) → Reads (IsKindNext only) (λ x. kind_code x ∷ []) (kind_in only)
kind_reads only = record { takes = kind_takes only; again = kind_again only }

-- ---- the chunk size

low_chunk_takes : (bytes : List ℕ) (x : ℕ) (rest : List ℕ) → IsBytes bytes → low_chunk_at bytes ≡ Ok (x, rest) → IsChunkSize x × (0 ∷ (0 ∷ bytes) ≡ to_be_bytes w32 x ++ rest)
unfolding low_chunk_at
low_chunk_takes bytes x rest fits e =
    let a = bind_ok (byte_at bytes) (λ third. cond (eqb third.0 0) (exactly_at (64 ∷ []) third.1 >>= λ end. gives 64 end) (cond (eqb third.0 4) (exactly_at (0 ∷ []) third.1 >>= λ end. gives 1024 end) (Err (length bytes)))) (x, rest) e in
    let t = byte_reads.takes bytes a.0.0 a.0.1 fits a.1 in
    elim (branch (eqb a.0.0 0) (exactly_at (64 ∷ []) a.0.1 >>= λ end. gives 64 end) (cond (eqb a.0.0 4) (exactly_at (0 ∷ []) a.0.1 >>= λ end. gives 1024 end) (Err (length bytes))) (x, rest) a.2) [
      | inl y ↦
          let b = bind_ok (exactly_at (64 ∷ []) a.0.1) (λ end. gives 64 end) (x, rest) y.1 in
          let whole : bytes ≡ 0 ∷ (64 ∷ b.0) = t.1 ∙ ap (λ (n : ℕ). n ∷ a.0.1) (eqb-true _ _ y.0) ∙ ap (λ (l : List ℕ). 0 ∷ l) (exactly_takes (64 ∷ []) a.0.1 b.0 b.1) in
          subst (λ (p : ℕ × List ℕ). IsChunkSize p.0 × (0 ∷ (0 ∷ bytes) ≡ to_be_bytes w32 p.0 ++ p.1)) (ok_is (64, b.0) (x, rest) b.2) (inl refl, ap (λ (l : List ℕ). 0 ∷ (0 ∷ l)) whole)
      | inr n ↦ elim (branch (eqb a.0.0 4) (exactly_at (0 ∷ []) a.0.1 >>= λ end. gives 1024 end) (Err (length bytes)) (x, rest) n.1) [
        | inl y ↦
            let b = bind_ok (exactly_at (0 ∷ []) a.0.1) (λ end. gives 1024 end) (x, rest) y.1 in
            let whole : bytes ≡ 4 ∷ (0 ∷ b.0) = t.1 ∙ ap (λ (n : ℕ). n ∷ a.0.1) (eqb-true _ _ y.0) ∙ ap (λ (l : List ℕ). 4 ∷ l) (exactly_takes (0 ∷ []) a.0.1 b.0 b.1) in
            subst (λ (p : ℕ × List ℕ). IsChunkSize p.0 × (0 ∷ (0 ∷ bytes) ≡ to_be_bytes w32 p.0 ++ p.1)) (ok_is (1024, b.0) (x, rest) b.2) (inr (inl refl), ap (λ (l : List ℕ). 0 ∷ (0 ∷ l)) whole)
        | inr m ↦ absurd (no_fault (length bytes) (x, rest) m.1)
      ]
    ]

high_chunk_takes : (bytes : List ℕ) (x : ℕ) (rest : List ℕ) → IsBytes bytes → high_chunk_at bytes ≡ Ok (x, rest) → IsChunkSize x × (0 ∷ bytes ≡ to_be_bytes w32 x ++ rest)
unfolding high_chunk_at
high_chunk_takes bytes x rest fits e =
    let a = bind_ok (byte_at bytes) (λ second. cond (eqb second.0 0) (low_chunk_at second.1) (cond (eqb second.0 1) (exactly_at (0 ∷ (0 ∷ [])) second.1 >>= λ end. gives 65536 end) (Err (length bytes)))) (x, rest) e in
    let t = byte_reads.takes bytes a.0.0 a.0.1 fits a.1 in
    elim (branch (eqb a.0.0 0) (low_chunk_at a.0.1) (cond (eqb a.0.0 1) (exactly_at (0 ∷ (0 ∷ [])) a.0.1 >>= λ end. gives 65536 end) (Err (length bytes))) (x, rest) a.2) [
      | inl y ↦
          let low = low_chunk_takes a.0.1 x rest (rest_fits (a.0.0 ∷ []) a.0.1 bytes t.1 fits) y.1 in
          (low.0, ap (λ (l : List ℕ). 0 ∷ l) (t.1 ∙ ap (λ (n : ℕ). n ∷ a.0.1) (eqb-true _ _ y.0)) ∙ low.1)
      | inr n ↦ elim (branch (eqb a.0.0 1) (exactly_at (0 ∷ (0 ∷ [])) a.0.1 >>= λ end. gives 65536 end) (Err (length bytes)) (x, rest) n.1) [
        | inl y ↦
            let b = bind_ok (exactly_at (0 ∷ (0 ∷ [])) a.0.1) (λ end. gives 65536 end) (x, rest) y.1 in
            let whole : bytes ≡ 1 ∷ (0 ∷ (0 ∷ b.0)) = t.1 ∙ ap (λ (n : ℕ). n ∷ a.0.1) (eqb-true _ _ y.0) ∙ ap (λ (l : List ℕ). 1 ∷ l) (exactly_takes (0 ∷ (0 ∷ [])) a.0.1 b.0 b.1) in
            subst (λ (p : ℕ × List ℕ). IsChunkSize p.0 × (0 ∷ bytes ≡ to_be_bytes w32 p.0 ++ p.1)) (ok_is (65536, b.0) (x, rest) b.2) (inr (inr refl), ap (λ (l : List ℕ). 0 ∷ l) whole)
        | inr m ↦ absurd (no_fault (length bytes) (x, rest) m.1)
      ]
    ]

chunk_takes : (bytes : List ℕ) (x : ℕ) (rest : List ℕ) → IsBytes bytes → chunk_at bytes ≡ Ok (x, rest) → IsChunkSize x × (bytes ≡ to_be_bytes w32 x ++ rest)
unfolding chunk_at
chunk_takes bytes x rest fits e =
    let a = bind_ok (exactly_at (0 ∷ []) bytes) high_chunk_at (x, rest) e in
    let zero_first : bytes ≡ 0 ∷ a.0 = exactly_takes (0 ∷ []) bytes a.0 a.1 in
    let high = high_chunk_takes a.0 x rest (rest_fits (0 ∷ []) a.0 bytes zero_first fits) a.2 in
    (high.0, zero_first ∙ high.1)

chunk_again : (x : ℕ) (rest : List ℕ) → IsChunkSize x → chunk_at (to_be_bytes w32 x ++ rest) ≡ Ok (x, rest)
unfolding chunk_at high_chunk_at low_chunk_at byte_at exactly_at
chunk_again x rest (inl e) = rw e refl
chunk_again x rest (inr (inl e)) = rw e refl
chunk_again x rest (inr (inr e)) = rw e refl

pub chunk_reads : Reads IsChunkSize (to_be_bytes w32) chunk_at
chunk_reads = record { takes = chunk_takes; again = chunk_again }

-- ---- the number of columns

pub record IsColumnCount (n : ℕ) : Type 0 where
  pub some : 1 ≤ n
  pub most : n ≤ 32

neither : (a b : Bool) → (a || b) ≡ false → (a ≡ false) × (b ≡ false)
neither true b e = absurd cc
neither false b e = (refl, e)

pub small : (n : ℕ) → n < 256 → to_be_bytes w32 n ≡ 0 ∷ (0 ∷ (0 ∷ (n ∷ [])))
small n lt =
    let a : n / 16777216 % 256 ≡ 0 = omega arith in
    let b : n / 65536 % 256 ≡ 0 = omega arith in
    let c : n / 256 % 256 ≡ 0 = omega arith in
    let d : n % 256 ≡ n = omega arith in
    cc

count_takes : (bytes : List ℕ) (x : ℕ) (rest : List ℕ) → IsBytes bytes → count_at bytes ≡ Ok (x, rest) → IsColumnCount x × (bytes ≡ to_be_bytes w32 x ++ rest)
unfolding count_at low_count_at
count_takes bytes x rest fits e =
    let a = bind_ok (exactly_at (0 ∷ (0 ∷ (0 ∷ []))) bytes) low_count_at (x, rest) e in
    let zeros : bytes ≡ 0 ∷ (0 ∷ (0 ∷ a.0)) = exactly_takes (0 ∷ (0 ∷ (0 ∷ []))) bytes a.0 a.1 in
    let b = bind_ok (byte_at a.0) (λ last. cond (eqb last.0 0 || ltb 32 last.0) (Err (length a.0)) (gives last.0 last.1)) (x, rest) a.2 in
    let t = byte_reads.takes a.0 b.0.0 b.0.1 (rest_fits (0 ∷ (0 ∷ (0 ∷ []))) a.0 bytes zeros fits) b.1 in
    elim (branch (eqb b.0.0 0 || ltb 32 b.0.0) (Err (length a.0)) (gives b.0.0 b.0.1) (x, rest) b.2) [
      | inl y ↦ absurd (no_fault (length a.0) (x, rest) y.1)
      | inr n ↦
          let tests = neither (eqb b.0.0 0) (ltb 32 b.0.0) n.0 in
          let most : b.0.0 ≤ 32 = ltb-false _ _ tests.1 in
          let some : 1 ≤ b.0.0 = (let no : b.0.0 ≡ 0 → ⊥ = eqb-false _ _ tests.0 in omega arith) in
          let spelled : to_be_bytes w32 b.0.0 ≡ 0 ∷ (0 ∷ (0 ∷ (b.0.0 ∷ []))) = small b.0.0 (omega arith) in
          subst (λ (p : ℕ × List ℕ). IsColumnCount p.0 × (bytes ≡ to_be_bytes w32 p.0 ++ p.1)) (ok_is (b.0.0, b.0.1) (x, rest) n.1)
          (record { some = some; most = most }, zeros ∙ ap (λ (l : List ℕ). 0 ∷ (0 ∷ (0 ∷ l))) t.1 ∙ ap (λ (l : List ℕ). l ++ b.0.1) (sym spelled))
    ]

count_again : (x : ℕ) (rest : List ℕ) → IsColumnCount x → count_at (to_be_bytes w32 x ++ rest) ≡ Ok (x, rest)
unfolding count_at low_count_at exactly_at byte_at
count_again x rest h =
    let some : 1 ≤ x = h.some in
    let most : x ≤ 32 = h.most in
    let spelled : to_be_bytes w32 x ++ rest ≡ 0 ∷ (0 ∷ (0 ∷ (x ∷ rest))) = ap (λ (l : List ℕ). l ++ rest) (small x (omega arith)) in
    let nonzero : eqb x 0 ≡ false = ne_eqb x 0 (λ e. omega arith) in
    ap count_at spelled ∙ rw (nonzero, le-ltb 32 x most) refl

pub count_reads : Reads IsColumnCount (to_be_bytes w32) count_at
count_reads = record { takes = count_takes; again = count_again }

-- ---- columns

abbrev pub IsText : List ℕ → Type 0
IsText text = (length text < 2 ^ 32) × IsUtf8 text

abbrev pub IsColumnNext : Bool → Column → Type 0
IsColumnNext only column = IsText column.name × IsKindNext only column.kind

abbrev column_of : List ℕ → ColumnKind → Column
column_of name kind = record { name = name; kind = kind }

column_takes : (only : Bool) (bytes : List ℕ) (x : Column) (rest : List ℕ) → IsBytes bytes → column_in only bytes ≡ Ok (x, rest) → IsColumnNext only x × (bytes ≡ column_spelling x ++ rest)
unfolding column_in
column_takes only bytes x rest fits e =
    let t = two_take IsText counted text_at (λ (n : List ℕ). IsKindNext only) (λ (n : List ℕ) (k : ColumnKind). kind_code k ∷ []) (λ (n : List ℕ). kind_in only) column_of text_reads (λ n. kind_reads only) bytes x rest fits e in
    subst (λ (c : Column). IsColumnNext only c × (bytes ≡ column_spelling c ++ rest)) t.2 ((t.3, t.4), t.5)

column_again : (only : Bool) (x : Column) (rest : List ℕ) → IsColumnNext only x → column_in only (column_spelling x ++ rest) ≡ Ok (x, rest)
unfolding column_in
column_again only x rest h = two_again IsText counted text_at (λ (n : List ℕ). IsKindNext only) (λ (n : List ℕ) (k : ColumnKind). kind_code k ∷ []) (λ (n : List ℕ). kind_in only) column_of text_reads (λ n. kind_reads only) x.name x.kind rest h.0 h.1

pub column_reads : (only : Bool) → Reads (IsColumnNext only) column_spelling (column_in only)
column_reads only = record { takes = column_takes only; again = column_again only }

abbrev pub AreColumns : List Column → Type 0
AreColumns columns = IsColumnCount (length columns) × EachFrom after_column IsColumnNext false columns

columns_take : (bytes : List ℕ) (xs : List Column) (rest : List ℕ) → IsBytes bytes → columns_at bytes ≡ Ok (xs, rest) → AreColumns xs × (bytes ≡ list_spelling column_spelling xs ++ rest)
unfolding columns_at
columns_take bytes xs rest fits e =
    let a = bind_ok (count_at bytes) (λ count. items_at after_column column_in false count.0 count.1) (xs, rest) e in
    let t = count_reads.takes bytes a.0.0 a.0.1 fits a.1 in
    let u = (items_reads after_column IsColumnNext column_spelling column_in column_reads a.0.0 false).takes a.0.1 xs rest (rest_fits (to_be_bytes w32 a.0.0) a.0.1 bytes t.1 fits) a.2 in
    let whole : bytes ≡ (to_be_bytes w32 a.0.0 ++ flat_map column_spelling xs) ++ rest = t.1 ∙ ap (λ (l : List ℕ). to_be_bytes w32 a.0.0 ++ l) u.1 ∙ sym (append_assoc (to_be_bytes w32 a.0.0) (flat_map column_spelling xs) rest) in
    ((subst IsColumnCount (sym u.0.0) t.0, u.0.1), whole ∙ ap (λ (n : ℕ). (to_be_bytes w32 n ++ flat_map column_spelling xs) ++ rest) (sym u.0.0))

columns_again : (xs : List Column) (rest : List ℕ) → AreColumns xs → columns_at (list_spelling column_spelling xs ++ rest) ≡ Ok (xs, rest)
unfolding columns_at
columns_again xs rest h =
    ap columns_at (append_assoc (to_be_bytes w32 (length xs)) (flat_map column_spelling xs) rest)
    ∙ rw (count_reads.again (length xs) (flat_map column_spelling xs ++ rest) h.0) ((items_reads after_column IsColumnNext column_spelling column_in column_reads (length xs) false).again xs rest (refl, h.1))

pub columns_read : Reads AreColumns (list_spelling column_spelling) columns_at
columns_read = record { takes = columns_take; again = columns_again }

or_left : (a b : Bool) → a ≡ true → (a || b) ≡ true
or_left true b e = refl
or_left false b e = absurd cc

or_right : (a b : Bool) → b ≡ true → (a || b) ≡ true
or_right true b e = refl
or_right false b e = e

or_one : (a b : Bool) → (a || b) ≡ true → (a ≡ true) ⊎ (b ≡ true)
or_one true b e = inl refl
or_one false b e = inr e

pub each_are : (only : Bool) (cs : List Column) → EachFrom after_column IsColumnNext only cs → AllByRecursion HasColumnSpelling cs × (only ≡ true → AreObjectColumns cs) × CellsFirst cs
each_are only [] h = (tt, λ o. tt, tt)
each_are only (c ∷ cs) h =
    let t = each_are (only || is_object c.kind) cs h.1 in
    ((h.0.0, t.0), λ o. (h.0.1 o, t.1 (or_left only (is_object c.kind) o)), (λ o. t.1 (or_right only (is_object c.kind) o), t.2))

pub are_each : (only : Bool) (cs : List Column) → AllByRecursion HasColumnSpelling cs → (only ≡ true → AreObjectColumns cs) → CellsFirst cs → EachFrom after_column IsColumnNext only cs
are_each only [] all objects first = tt
are_each only (c ∷ cs) all objects first =
    ((all.0, λ o. (objects o).0), are_each (only || is_object c.kind) cs all.1 (λ e. elim (or_one only (is_object c.kind) e) [ inl o ↦ (objects o).1 | inr o ↦ first.0 o ]) first.1)

-- ---- schemas

joined : (bytes a b c d name chunk columns : List ℕ) (scheme : ℕ) → bytes ≡ name ++ a → a ≡ (scheme ∷ []) ++ b → b ≡ chunk ++ c → c ≡ columns ++ d
    → bytes ≡ (name ++ (scheme ∷ (chunk ++ columns))) ++ d
joined bytes a b c d name chunk columns scheme p q r t =
    let tail : b ≡ (chunk ++ columns) ++ d = r ∙ ap (λ (l : List ℕ). chunk ++ l) t ∙ sym (append_assoc chunk columns d) in
    p ∙ ap (λ (l : List ℕ). name ++ l) (q ∙ ap (λ (l : List ℕ). scheme ∷ l) tail) ∙ sym (append_assoc name (scheme ∷ (chunk ++ columns)) d)

schema_takes : (bytes : List ℕ) (x : Schema) (rest : List ℕ) → IsBytes bytes → schema_at bytes ≡ Ok (x, rest) → HasSchemaSpelling x × (bytes ≡ schema_spelling x ++ rest)
unfolding schema_at
schema_takes bytes x rest fits e =
    let a = bind_ok (text_at bytes) (λ name. scheme_at name.1 >>= λ scheme. chunk_at scheme.1 >>= λ chunk. columns_at chunk.1 >>= λ columns. gives (record { name = name.0; scheme = scheme.0; chunk = chunk.0; columns = columns.0 }) columns.1) (x, rest) e in
    let b = bind_ok (scheme_at a.0.1) (λ scheme. chunk_at scheme.1 >>= λ chunk. columns_at chunk.1 >>= λ columns. gives (record { name = a.0.0; scheme = scheme.0; chunk = chunk.0; columns = columns.0 }) columns.1) (x, rest) a.2 in
    let c = bind_ok (chunk_at b.0.1) (λ chunk. columns_at chunk.1 >>= λ columns. gives (record { name = a.0.0; scheme = b.0.0; chunk = chunk.0; columns = columns.0 }) columns.1) (x, rest) b.2 in
    let d = bind_ok (columns_at c.0.1) (λ columns. gives (record { name = a.0.0; scheme = b.0.0; chunk = c.0.0; columns = columns.0 }) columns.1) (x, rest) c.2 in
    let t0 = text_reads.takes bytes a.0.0 a.0.1 fits a.1 in
    let fits1 = rest_fits (counted a.0.0) a.0.1 bytes t0.1 fits in
    let t1 = scheme_reads.takes a.0.1 b.0.0 b.0.1 fits1 b.1 in
    let fits2 = rest_fits (scheme_code b.0.0 ∷ []) b.0.1 a.0.1 t1.1 fits1 in
    let t2 = chunk_reads.takes b.0.1 c.0.0 c.0.1 fits2 c.1 in
    let fits3 = rest_fits (to_be_bytes w32 c.0.0) c.0.1 b.0.1 t2.1 fits2 in
    let t3 = columns_read.takes c.0.1 d.0.0 d.0.1 fits3 d.1 in
    let each = each_are false d.0.0 t3.0.1 in
    let made : Schema = record { name = a.0.0; scheme = b.0.0; chunk = c.0.0; columns = d.0.0 } in
    let whole : bytes ≡ schema_spelling made ++ d.0.1 = joined bytes a.0.1 b.0.1 c.0.1 d.0.1 (counted a.0.0) (to_be_bytes w32 c.0.0) (list_spelling column_spelling d.0.0) (scheme_code b.0.0) t0.1 t1.1 t2.1 t3.1 in
    subst (λ (p : Schema × List ℕ). HasSchemaSpelling p.0 × (bytes ≡ schema_spelling p.0 ++ p.1)) {x = (made, d.0.1)} (ok_is (made, d.0.1) (x, rest) d.2)
    (record { text = t0.0; size = t2.0; some = t3.0.0.some; most = t3.0.0.most; each = each.0; order = each.2 }, whole)

schema_again : (x : Schema) (rest : List ℕ) → HasSchemaSpelling x → schema_at (schema_spelling x ++ rest) ≡ Ok (x, rest)
unfolding schema_at
schema_again x rest h =
    let columns : AreColumns x.columns = (record { some = h.some; most = h.most }, are_each false x.columns h.each (λ o. let f : ⊥ = (let q : false ≡ true = o in cc) in absurd f) h.order) in
    let tail : List ℕ = list_spelling column_spelling x.columns ++ rest in
    let after_scheme : List ℕ = to_be_bytes w32 x.chunk ++ tail in
    let regrouped : schema_spelling x ++ rest ≡ counted x.name ++ ((scheme_code x.scheme ∷ []) ++ after_scheme) = append_assoc (counted x.name) (scheme_code x.scheme ∷ (to_be_bytes w32 x.chunk ++ list_spelling column_spelling x.columns)) rest ∙ ap (λ (l : List ℕ). counted x.name ++ (scheme_code x.scheme ∷ l)) (append_assoc (to_be_bytes w32 x.chunk) (list_spelling column_spelling x.columns) rest) in
    ap schema_at regrouped ∙ rw (text_reads.again x.name ((scheme_code x.scheme ∷ []) ++ after_scheme) h.text, scheme_reads.again x.scheme after_scheme tt, chunk_reads.again x.chunk tail h.size, columns_read.again x.columns rest columns) refl

pub schema_reads : Reads HasSchemaSpelling schema_spelling schema_at
schema_reads = record { takes = schema_takes; again = schema_again }
