use Rattle.std.proofs.Common.{◌++◌, ◌∷◌, [], List, ℕ, sym, subst}
use Rattle.slot_store.specs.Data.{AreRowsOf}
use Rattle.client_journal.specs.Asking.{applied_if, HaveSameIds}
use Rattle.client_journal.proofs.RowSets.{rows_more}
use Rattle.client_journal.proofs.reading.rows_with.Goals as goal

pub returns-in_ok-ids-in-Some : goal.returns-in_ok-ids-in-Some
returns-in_ok-ids-in-Some c = λ held are.
    let k = c.in_ok-ids-in-Some.ensures in
    let made = c.in_ok-ids-in-Some.ids.items in
    let same : HaveSameIds made (c.args.rows ++ c.in-Some.row ∷ []) = subst (λ (l : List (List ℕ)). HaveSameIds made (l ++ c.in-Some.row ∷ [])) c.as_slice.ensures k.same in
    subst (λ (l : List (List ℕ)). AreRowsOf (applied_if c.args.commit.now held) c.args.table l) (sym c.from_vec.ensures) (rows_more held (applied_if c.args.commit.now held) c.args.table c.args.rows made c.in-Some.row (c.in-Some.ensures.some held) same k.rising are)
