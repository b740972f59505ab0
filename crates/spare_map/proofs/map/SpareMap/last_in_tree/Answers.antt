use Rattle.std.proofs.Common.{◌≡◌, ◌∷◌, ◌++◌, [], List, sym, ap, ◌∙◌, append_assoc}
use Rattle.std.specs.Map.{keys_of}
use Rattle.spare_map.proofs.map.SpareMap.last_in_tree.Goals as goal

pub loop-key-preserved : goal.loop-key-preserved
loop-key-preserved g c =
    let inv = c.loop-key.invariant in
    let key = c.in-Some.key.now in
    let step : c.loop-key.key-iterator ≡ (key, c.in-Some.field-0-1.now) ∷ c.next.new.self = c.in-Some.ensures.steps in
    (inv.0 ++ key ∷ [], append_assoc inv.0 (key ∷ []) (keys_of c.next.new.self) ∙ (ap (λ (es : List (g.row.K.Denot × g.row.V.Denot)). inv.0 ++ keys_of es) (sym step) ∙ inv.1), c.greater-last.ensures inv.0 inv.2)
