-- Words that are right at their places.
use Rattle.std.proofs.Common.{◌≡◌, ℕ, ◌<◌, ◌≤◌, ◌^◌, true, false, eqb, List, [], ◌∷◌, ◌++◌, map, codes, Option, Some, None, Ok}
use Rattle.std.proofs.Common.{refl, ap, ◌∙◌, inl, inr, arith, All}
use Rattle.std.specs.Fmt.{decimal}
use Rattle.std.specs.List.{AllByRecursion, IsDistinct}
use Rattle.std.specs.Str.{bytes_eq}
use Rattle.std.specs.Str.Parse.{AllDigits}
use Rattle.std.proofs.lemmas.Bool.{cases_Bool, eqb-true}
use Rattle.std.proofs.lemmas.List.Elements.{All-from_recursion}
use Rattle.std.proofs.lemmas.List.Splits.{slice_split_none, slice_split_at}
use Rattle.std.proofs.lemmas.Fmt.{decimal_is_IsNumeral}
use Rattle.std.proofs.lemmas.Str.Parse.{digit_from_value}
use Rattle.stab_base.specs.Row.{row_of}
use Rattle.stab_base.specs.declared.node.Node.{Node}
use Rattle.stab_base.specs.declared.node.Node.TheVariants as nodes
use Rattle.row_value.specs.declared.schema.Scheme.{Scheme}
use Rattle.row_value.specs.declared.schema.Scheme.TheVariants as schemes
use Rattle.script_text.specs.Names.{Names, has_store, has_gate, has_table, has_name, has_client}
use Rattle.script_words.specs.Words.{is_name}
use Rattle.script_text.specs.Places.{is_comma, parts_at, opened_at, tables_in, client_at, store_at, named_gate_at, new_gate_at, own_gate_at}
use Rattle.script_text.specs.Places.{party_at, table_at, new_store_at, new_table_at}
use Rattle.script_text.specs.Places.{new_client_at, gate_at, tables_at, new_name_at, scheme_at, chunk_at, row_at, found_row}
use Rattle.script_text.specs.Grammar.{IsChunk, IsUpTo, scheme_word, client_word, store_word, table_word, tables_word, node_word, IsClient, IsTable, IsNode, gate_word, gateway_word, IsGateway}
use Rattle.script_text.proofs.Numbers.{node-right, limited-right}
use Rattle.script_text.proofs.Distinct.{NewTo, distinct-new, distinct-words}
use Rattle.script_text.proofs.PlaceLemmas.{text-64, text-1024, text-65536}

module _ (names : Names) (n : ℕ) where
  pub client_at-right : IsClient names n → client_at names (client_word n) ≡ Ok n
  unfolding client_at
  client_at-right h = rw (node-right 67 n h.0 h.1, h.2) refl

  pub table_at-right : IsTable names n → table_at names (table_word n) ≡ Ok n
  unfolding table_at
  table_at-right h = rw (node-right 84 n h.0 h.1, h.2) refl

  pub new_table_at-right : IsUpTo 64 n → has_table names n ≡ false → new_table_at names (table_word n) ≡ Ok (Some n)
  unfolding new_table_at
  new_table_at-right h new = rw (limited-right 84 64 n h.0 h.1 (omega arith), new) refl

  pub new_client_at-right : IsUpTo 64 n → has_client names n ≡ false → new_client_at names (client_word n) ≡ Ok (Some n)
  unfolding new_client_at
  new_client_at-right h new = rw (limited-right 67 64 n h.0 h.1 (omega arith), new) refl

  opened_at-right : IsUpTo 64 n → has_table names n ≡ true → opened_at names (table_word n) ≡ Ok (Some n)
  unfolding opened_at
  opened_at-right h has = rw (limited-right 84 64 n h.0 h.1 (omega arith), has) refl

store_at-right : (names : Names) (n : ℕ) → IsNode names (nodes.Store n) → store_at names (node_word (nodes.Store n)) ≡ Ok n
unfolding store_at
store_at-right names n h = rw (node-right 83 n h.0 h.1, h.2) refl

named_gate_at-right : (names : Names) (n : ℕ) → IsNode names (nodes.Gate n) → named_gate_at names (node_word (nodes.Gate n)) ≡ Ok n
unfolding named_gate_at
named_gate_at-right names n h = rw (node-right 71 n h.0 h.1, h.2) refl

pub party_at-right : (names : Names) (node : Node) → IsNode names node → party_at names (node_word node) ≡ Ok node
unfolding party_at
party_at-right names (nodes.Store n) h = rw (store_at-right names n h) refl
party_at-right names (nodes.Gate n) h = rw (named_gate_at-right names n h) refl
party_at-right names (nodes.Client n) h = rw (client_at-right names n h) refl

-- the words between commas

not_comma : (b : ℕ) → 48 ≤ b → is_comma b ≡ false
not_comma b h = elim (cases_Bool (is_comma b)) [
  | inl is ↦ absurd (let same : b ≡ 44 = eqb-true b 44 is in omega (arith, same, h))
  | inr other ↦ other
]

digits_plain : (ds : List ℕ) → AllDigits 10 ds → AllByRecursion (λ b. is_comma b ≡ false) ds
digits_plain [] h = tt
digits_plain (c ∷ ds) h = (not_comma c (digit_from_value c h.0).0, digits_plain ds h.1)

table_plain : (n : ℕ) → n < 2 ^ 64 → All (λ b. is_comma b ≡ false) (table_word n)
table_plain n h = All-from_recursion (λ b. is_comma b ≡ false) (table_word n) (refl, digits_plain (decimal n) (decimal_is_IsNumeral n h).0.1)

parts-right : (tables : List ℕ) (n : ℕ) → AllByRecursion (λ m. m < 2 ^ 64) (n ∷ tables) → parts_at (tables_word (n ∷ tables)) ≡ map table_word (n ∷ tables)
parts-right [] n h = slice_split_none is_comma (table_word n) (table_plain n h.0)
parts-right (m ∷ tables) n h =
    slice_split_at is_comma (table_word n) 44 (tables_word (m ∷ tables)) (table_plain n h.0) refl
    ∙ ap (λ (words : List (List ℕ)). table_word n ∷ words) (parts-right tables m h.1)

no_dash : (tables : List ℕ) (n : ℕ) → bytes_eq (tables_word (n ∷ tables)) (codes "-") ≡ false
no_dash [] n = refl
no_dash (m ∷ tables) n = refl

all_below : (names : Names) (tables : List ℕ) → AllByRecursion (λ n. IsUpTo 64 n × (has_table names n ≡ true)) tables → AllByRecursion (λ n. n < 2 ^ 64) tables
all_below names [] h = tt
all_below names (n ∷ tables) h = (omega (arith, h.0.0.1), all_below names tables h.1)

module _ (names : Names) where
  pub new_store_at-right : (n : ℕ) → IsUpTo 16 n → has_store names n ≡ false → new_store_at names (store_word n) ≡ Ok (Some n)
  unfolding new_store_at
  new_store_at-right n h new = rw (limited-right 83 16 n h.0 h.1 (omega arith), new) refl

  pub new_gate_at-right : (n : ℕ) → IsUpTo 16 n → has_gate names n ≡ false → new_gate_at names (gate_word n) ≡ Ok (Some n)
  unfolding new_gate_at
  new_gate_at-right n h new = rw (limited-right 71 16 n h.0 h.1 (omega arith), new) refl

  own_gate_at-right : (n : ℕ) → IsUpTo 16 n → has_gate names n ≡ true → own_gate_at names (gate_word n) ≡ Ok (Some n)
  unfolding own_gate_at
  own_gate_at-right n h has = rw (limited-right 71 16 n h.0 h.1 (omega arith), has) refl

  tables_in-right : (before : List (List ℕ)) (tables : List ℕ) → AllByRecursion (λ n. IsUpTo 64 n × (has_table names n ≡ true)) tables → NewTo before (map table_word tables)
      → tables_in names before (map table_word tables) ≡ Ok (Some tables)
  unfolding tables_in
  tables_in-right before [] h new = refl
  tables_in-right before (n ∷ tables) h new =
      rw (opened_at-right names n h.0.0 h.0.1, new.0, tables_in-right (before ++ table_word n ∷ []) tables h.1 new.1) refl

  pub tables_at-right : (tables : List ℕ) → AllByRecursion (λ n. IsUpTo 64 n × (has_table names n ≡ true)) tables → IsDistinct (λ m n. eqb m n) tables
      → tables_at names (tables_word tables) ≡ Ok (Some tables)
  unfolding tables_at
  tables_at-right [] h d = refl
  tables_at-right (n ∷ tables) h d =
      let below = all_below names (n ∷ tables) h in
      rw (no_dash tables n, parts-right tables n below)
      (tables_in-right [] (n ∷ tables) h (distinct-new (map table_word (n ∷ tables)) (distinct-words (n ∷ tables) below d)))

  pub new_name_at-right : (name : List ℕ) → is_name name ≡ true → has_name names name ≡ false → new_name_at names name ≡ Ok name
  unfolding new_name_at
  new_name_at-right name is new = rw (is, new) refl

pub gate_at-right : (names : Names) (gate : Option ℕ) → IsGateway names gate → gate_at names (gateway_word gate) ≡ Ok (Some gate)
unfolding gate_at
gate_at-right names None h = refl
gate_at-right names (Some n) h = rw (own_gate_at-right names n h.0 h.1) refl

pub scheme_at-right : (scheme : Scheme) → scheme_at (scheme_word scheme) ≡ Ok scheme
unfolding scheme_at
scheme_at-right schemes.Strong = refl
scheme_at-right schemes.Causal = refl
scheme_at-right schemes.Eventual = refl

pub chunk_at-right : (n : ℕ) → IsChunk n → chunk_at (decimal n) ≡ Ok n
unfolding chunk_at
chunk_at-right n (inl e) = rw (e, text-64) refl
chunk_at-right n (inr (inl e)) = rw (e, text-1024) refl
chunk_at-right n (inr (inr e)) = rw (e, text-65536) refl

pub row_at-right : (word row : List ℕ) → row_of word ≡ Some row → row_at word ≡ Ok row
unfolding row_at
row_at-right word row e = ap found_row e
