use Rattle.std.proofs.Common.{arith, sym, ◌∙◌, below_more, ◌≡◌, true, ℕ}
use Rattle.row_value.specs.Fit.{has_cell}
use Rattle.row_value.proofs.Wrongs.{wrong_in-first, wrong_in-none, no_room, has_room}
use Rattle.row_value.proofs.fit.first_wrong_cell.Goals as goal

pub returns-in-None : goal.returns-in-None
returns-in-None c =
    sym (wrong_in-first (has_cell c.args.columns.now c.args.cells.now) _ _ c.loop-place-test.true
    (no_room _ _ _ _ _ c.loop-place-test.true c.index-columns-place.is c.loop-place.invariant.room (sym c.room_at.ensures ∙ c.in-None.is))
    c.loop-place.invariant.right)

pub loop-place-preserved : goal.loop-place-preserved
loop-place-preserved c =
    let next = has_room _ _ _ _ _ c.loop-place-test.true c.index-columns-place.is c.loop-place.invariant.room _ (sym c.room_at.ensures ∙ c.in-Some.is) in
    record {
      room = next.1;
      right = below_more (λ (k : ℕ). has_cell c.args.columns.now c.args.cells.now k ≡ true) _ c.loop-place.invariant.right next.0;
    }

pub returns : goal.returns
returns c = sym (wrong_in-none (has_cell c.args.columns.now c.args.cells.now) _ (λ k h. c.loop-place.invariant.right k (omega arith)))
