-- Whether rows are asked for whole, or a table's next change.
use Rattle.std.proofs.Common.{◌≡◌, ◌≢◌, ℕ, List, [], ◌∷◌, length, refl, sym, ◌∙◌, ap, arith}
use Rattle.step_tables.specs.ClientMoves.{Next}

pub none_asked : {X : Type 0} (xs : List X) (count : ℕ) → count ≡ length xs → count ≡ 0 → xs ≡ []
none_asked [] count is e = refl
none_asked (x ∷ xs) count is e = absurd (omega (arith, is, e))

pub some_asked : {X : Type 0} (xs : List X) (count : ℕ) → count ≡ length xs → (count ≡ 0 → ⊥) → xs ≢ []
some_asked [] count is some = absurd (some is)
some_asked (x ∷ xs) count is some = λ none. cc

-- the next change is asked for where no row is
pub next_asked : (table : ℕ) (tears asks : List (List ℕ)) → asks ≡ [] → (asks ≡ [] → tears ≡ []) → Next table [] [] ≡ Next table tears asks
next_asked table tears asks is none =
    ap (λ (rows : List (List ℕ)). Next table [] rows) (sym is) ∙ ap (λ (rows : List (List ℕ)). Next table rows asks) (sym (none is))
