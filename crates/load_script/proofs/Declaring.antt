-- The declarations with one client more.
use Rattle.std.proofs.Common.{◌≡◌, ℕ, ◌+◌, ◌-◌, ◌≤◌, List, [], ◌∷◌, ◌++◌, map, sym, ap, ◌∙◌, arith, append_assoc}
use Rattle.std.specs.List.{range_with_len}
use Rattle.std.proofs.lemmas.List.FromFn.{map-range_with_len_more}
use Rattle.load_script.specs.Script.{stores_and_tables, declarations}
use Rattle.load_script.specs.Text.{client_line}

pub one_more : (lines : List (List ℕ)) (c : ℕ) → 1 ≤ c → lines ≡ stores_and_tables ++ map client_line (range_with_len 1 (c - 1))
    → lines ++ client_line c ∷ [] ≡ stores_and_tables ++ map client_line (range_with_len 1 (c + 1 - 1))
one_more lines c first is =
    let on : c - 1 + 1 ≡ c + 1 - 1 = omega arith in
    ap (λ front. front ++ client_line c ∷ []) is
    ∙ append_assoc stores_and_tables (map client_line (range_with_len 1 (c - 1))) (client_line c ∷ [])
    ∙ ap (λ rest. stores_and_tables ++ rest) (sym (map-range_with_len_more client_line 1 (c - 1) c (omega arith)))
    ∙ ap (λ n. stores_and_tables ++ map client_line (range_with_len 1 n)) on

pub all_made : (lines : List (List ℕ)) (c : ℕ) → c ≡ 65 → lines ≡ stores_and_tables ++ map client_line (range_with_len 1 (c - 1)) → lines ≡ declarations
unfolding declarations
all_made lines c all is = is ∙ ap (λ n. stores_and_tables ++ map client_line (range_with_len 1 (n - 1))) all
