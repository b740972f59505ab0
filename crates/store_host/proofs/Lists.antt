-- A list that is mapped one item after the other, and an empty one.
use Rattle.std.proofs.Common.{◌≡◌, ◌<◌, ◌++◌, List, [], ◌∷◌, length, drop, map, None, refl, sym, ap, ◌∙◌, append_assoc, arith}
use Rattle.std.specs.Prelude.{option_map, slice_get}

pub mapped_on : {A B : Type 0} (f : A → B) (done new : List B) (left rest : List A) (e : A) (x : B) (all : List B)
    → new ≡ done ++ x ∷ [] → x ≡ f e → left ≡ e ∷ rest → done ++ map f left ≡ all → new ++ map f rest ≡ all
mapped_on {A} {B} f done new left rest e x all put is steps so_far =
    ap (λ (l : List B). l ++ map f rest) put
    ∙ (append_assoc done (x ∷ []) (map f rest) ∙ (ap (λ (y : B). done ++ y ∷ map f rest) is ∙ (ap (λ (l : List A). done ++ map f l) (sym steps) ∙ so_far)))

-- of a list that has no item there is no first, and nothing behind it
pub none_first : {A B : Type 0} (f : A → B) (es : List A) → (0 < length es → ⊥) → None ≡ option_map f (slice_get es 0)
none_first f [] none = refl
none_first f (e ∷ es) none = absurd (none (omega arith))

pub none_behind : {A : Type 0} (es : List A) → (0 < length es → ⊥) → es ≡ drop 1 es
none_behind [] none = refl
none_behind (e ∷ es) none = absurd (none (omega arith))
