-- Schemas that are the same are equal.
use Rattle.std.proofs.Common.{◌≡◌, ℕ, Bool, true, false, List, [], ◌∷◌, length, refl, sym, ◌∙◌, ap, true≢false, arith}
use Rattle.std.specs.Prelude.{◌&&◌, ◌==◌, zip}
use Rattle.std.specs.List.{list_all}
use Rattle.std.specs.Str.{bytes_eq}
use Rattle.std.proofs.lemmas.Bool.Decides.{nat_tests}
use Rattle.std.proofs.lemmas.Slice.Eq.{bytes_eq-Decides}
use Rattle.row_value.specs.declared.schema.Column.{Column}
use Rattle.row_value.specs.declared.schema.ColumnKind.{ColumnKind}
use Rattle.row_value.specs.declared.schema.ColumnKind.TheVariants as kinds
use Rattle.row_value.specs.declared.schema.Schema.{Schema}
use Rattle.row_value.specs.declared.schema.Scheme.{Scheme}
use Rattle.row_value.specs.declared.schema.Scheme.TheVariants as schemes
use Rattle.gated_tables.specs.Schemas.{same_scheme, same_kind, same_column, same_columns, same_schema}

both : (a b : Bool) → (a && b) ≡ true → (a ≡ true) × (b ≡ true)
both true b is = (refl, is)
both false b is = absurd (true≢false (sym is))

either : (a b : Bool) → a ≡ true → b ≡ true → (a && b) ≡ true
either true b is also = also
either false b is also = is

bytes_equal : (a b : List ℕ) → bytes_eq a b ≡ true → a ≡ b
bytes_equal a b is = (bytes_eq-Decides a b).0 is

bytes_same : (a : List ℕ) → bytes_eq a a ≡ true
bytes_same a = (bytes_eq-Decides a a).1 refl

numbers_equal : (a b : ℕ) → (a == b) ≡ true → a ≡ b
numbers_equal a b is = grind (is, arith, nat_tests)

number_same : (a : ℕ) → (a == a) ≡ true
number_same a = grind (arith, nat_tests)

schemes_equal : (a b : Scheme) → same_scheme a b ≡ true → a ≡ b
schemes_equal schemes.Strong schemes.Strong is = refl
schemes_equal schemes.Causal schemes.Causal is = refl
schemes_equal schemes.Eventual schemes.Eventual is = refl
schemes_equal a b is = absurd cc

scheme_same : (a : Scheme) → same_scheme a a ≡ true
scheme_same schemes.Strong = refl
scheme_same schemes.Causal = refl
scheme_same schemes.Eventual = refl

kinds_equal : (a b : ColumnKind) → same_kind a b ≡ true → a ≡ b
kinds_equal kinds.Int kinds.Int is = refl
kinds_equal kinds.Bool kinds.Bool is = refl
kinds_equal kinds.Text kinds.Text is = refl
kinds_equal kinds.Object kinds.Object is = refl
kinds_equal a b is = absurd cc

kind_same : (a : ColumnKind) → same_kind a a ≡ true
kind_same kinds.Int = refl
kind_same kinds.Bool = refl
kind_same kinds.Text = refl
kind_same kinds.Object = refl

column_equal : (a b : Column) → same_column (a, b) ≡ true → a ≡ b
column_equal a b is =
    let x = both (bytes_eq a.name b.name) (same_kind a.kind b.kind) is in
    ap (λ (name : List ℕ). record a { name = name }) (bytes_equal a.name b.name x.0)
    ∙ ap (λ (kind : ColumnKind). record b { kind = kind }) (kinds_equal a.kind b.kind x.1)

column_same : (a : Column) → same_column (a, a) ≡ true
column_same a = either (bytes_eq a.name a.name) (same_kind a.kind a.kind) (bytes_same a.name) (kind_same a.kind)

each_equal : (cs ds : List Column) → length cs ≡ length ds → list_all same_column (zip cs ds) ≡ true → cs ≡ ds
each_equal [] [] long is = refl
each_equal [] (b ∷ ds) long is = absurd cc
each_equal (a ∷ cs) [] long is = absurd cc
each_equal (a ∷ cs) (b ∷ ds) long is =
    let x = both (same_column (a, b)) (list_all same_column (zip cs ds)) is in
    ap (λ (c : Column). c ∷ cs) (column_equal a b x.0) ∙ ap (λ (es : List Column). b ∷ es) (each_equal cs ds (let e : length cs ≡ length ds = cc in e) x.1)

each_same : (cs : List Column) → list_all same_column (zip cs cs) ≡ true
each_same [] = refl
each_same (a ∷ cs) = either (same_column (a, a)) (list_all same_column (zip cs cs)) (column_same a) (each_same cs)

columns_equal : (cs ds : List Column) → same_columns cs ds ≡ true → cs ≡ ds
columns_equal cs ds is =
    let x = both (length cs == length ds) (list_all same_column (zip cs ds)) is in
    each_equal cs ds (numbers_equal (length cs) (length ds) x.0) x.1

columns_same : (cs : List Column) → same_columns cs cs ≡ true
columns_same cs = either (length cs == length cs) (list_all same_column (zip cs cs)) (number_same (length cs)) (each_same cs)

pub schemas_equal : (a b : Schema) → same_schema a b ≡ true → a ≡ b
schemas_equal a b is =
    let name = both (bytes_eq a.name b.name) (same_scheme a.scheme b.scheme && (a.chunk == b.chunk && same_columns a.columns b.columns)) is in
    let scheme = both (same_scheme a.scheme b.scheme) (a.chunk == b.chunk && same_columns a.columns b.columns) name.1 in
    let rest = both (a.chunk == b.chunk) (same_columns a.columns b.columns) scheme.1 in
    ap (λ (x : List ℕ). record a { name = x }) (bytes_equal a.name b.name name.0)
    ∙ (ap (λ (x : Scheme). record a { name = b.name; scheme = x }) (schemes_equal a.scheme b.scheme scheme.0)
    ∙ (ap (λ (x : ℕ). record b { chunk = x; columns = a.columns }) (numbers_equal a.chunk b.chunk rest.0)
    ∙ ap (λ (x : List Column). record b { columns = x }) (columns_equal a.columns b.columns rest.1)))

pub schema_same : (a : Schema) → same_schema a a ≡ true
schema_same a = either (bytes_eq a.name a.name) (same_scheme a.scheme a.scheme && (a.chunk == a.chunk && same_columns a.columns a.columns)) (bytes_same a.name)
    (either (same_scheme a.scheme a.scheme) (a.chunk == a.chunk && same_columns a.columns a.columns) (scheme_same a.scheme)
    (either (a.chunk == a.chunk) (same_columns a.columns a.columns) (number_same a.chunk) (columns_same a.columns)))
