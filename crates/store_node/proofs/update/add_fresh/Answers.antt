use Rattle.std.proofs.Common.{◌++◌, [], ◌∷◌, List, ℕ, true, false, sym, ◌∙◌, ap, append-nil}
use Rattle.store_node.proofs.Pieced.{fresh_at}
use Rattle.store_node.proofs.update.add_fresh.Goals as goal

pub returns-in_ok-push : goal.returns-in_ok-push
returns-in_ok-push c =
    c.in_ok-push.ensures.items
    ∙ ap (λ (l : List (List ℕ)). c.args.fresh.now.items ++ l)
    (ap (λ (x : List ℕ). x ∷ []) (c.in_ok-from_slice.ensures ∙ c.as_slice.ensures) ∙ sym (fresh_at c.args.pieces.now c.args.place c.args.chunk.now true (sym c.if-is_fresh_at.true ∙ c.is_fresh_at.ensures)))

pub returns-else-is_fresh_at : goal.returns-else-is_fresh_at
returns-else-is_fresh_at c =
    sym (ap (λ (l : List (List ℕ)). c.args.fresh.now.items ++ l) (fresh_at c.args.pieces.now c.args.place c.args.chunk.now false (sym c.if-is_fresh_at.false ∙ c.is_fresh_at.ensures)) ∙ append-nil c.args.fresh.now.items)
