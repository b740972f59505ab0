use Rattle.std.proofs.Common.{◌++◌, ◌∷◌, [], List, ℕ, sym, subst}
use Rattle.std.specs.BTreeSet.{keys}
use Rattle.client_journal.specs.Asking.{HaveSameIds}
use Rattle.client_journal.proofs.RowSets.{same_more}
use Rattle.client_journal.proofs.reading.add_row.Goals as goal

pub returns : goal.returns
returns c = λ list s. subst (λ (l : List (List ℕ)). HaveSameIds l (list ++ c.args.row ∷ [])) (sym c.in_ok-insert.ensures.keys) (same_more (keys c.args.ids.now) list c.args.row s)
