use Rattle.std.proofs.Common.{◌≡◌, ◌∷◌, ◌++◌, [], List, refl, sym, ap, subst, ◌∙◌, append_assoc}
use Rattle.std.specs.Prelude.{map}
use Rattle.std.specs.Map.{keys_of}
use Rattle.std.specs.VecDeque.Iter.{deque_iter_rest}
use Rattle.std.proofs.lemmas.List.{append-nil}
use Rattle.spare_map.specs.declared.map.Change.{Change}
use Rattle.spare_map.specs.Late.{entries_of, IsLastOf}
use Rattle.spare_map.proofs.Lasts.{keys_push}
use Rattle.spare_map.proofs.map.SpareMap.last_in_all.Goals as goal

pub loop-change-init : goal.loop-change-init
loop-change-init g c =
    let cmp = g.K.Ord.cmp in
    let self = c.args.self.now in
    let at : deque_iter_rest c.into_iter-change-iterator.result ≡ self.late.items = cc c.iter-change-items.ensures.rest in
    ([], at, subst (λ (keys : List g.row.K.Denot). IsLastOf cmp (entries_of cmp self) keys c.last_in_tree-last.result) (sym (append-nil (keys_of self.tree.entries))) c.last_in_tree-last.ensures)

pub loop-change-preserved : goal.loop-change-preserved
loop-change-preserved g c =
    let cmp = g.K.Ord.cmp in
    let self = c.args.self.now in
    let inv = c.loop-change.invariant in
    let change : Change g.row.K.Denot g.row.V.Denot = c.in-Some.change.now in
    let step : deque_iter_rest c.loop-change.change-iterator ≡ change ∷ deque_iter_rest c.next.new.self = c.in-Some.ensures.steps in (
      inv.0 ++ change ∷ [],
      append_assoc inv.0 (change ∷ []) (deque_iter_rest c.next.new.self) ∙ (ap (λ (cs : List (Change g.row.K.Denot g.row.V.Denot)). inv.0 ++ cs) (sym step) ∙ inv.1),
      subst (λ (keys : List g.row.K.Denot). IsLastOf cmp (entries_of cmp self) keys c.greater-last.result) (keys_push (keys_of self.tree.entries) inv.0 change)
          (c.greater-last.ensures (keys_of self.tree.entries ++ map (λ (c : Change g.row.K.Denot g.row.V.Denot). c.key) inv.0) inv.2),
    )
