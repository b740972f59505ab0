use Rattle.std.proofs.Common.{◌≡◌, ℕ, ◌+◌, List, take, sym, ◌∙◌, subst, arith}
use Rattle.std.proofs.lemmas.List.{take_all}
use Rattle.std.specs.BTreeSet.{contains}
use Rattle.stab_base.specs.declared.row_version.RowVersion.{RowVersion}
use Rattle.row_store.specs.Data.{id_cmp}
use Rattle.store_commit.specs.TakesOn.{IsNewestOf}
use Rattle.store_commit.proofs.Seen.{newest_none, newest_hidden, newest_more}
use Rattle.store_commit.proofs.taking.newest_of.Goals as goal
use Rattle.store_commit.proofs.taking.newest_of.Goals.{then-not-contains, else-not-contains}

pub loop-row-init : goal.loop-row-init
loop-row-init c = newest_none (contains id_cmp c.args.hidden.now)

pub loop-row-preserved : goal.loop-row-preserved
loop-row-preserved c =
    let hid = contains id_cmp c.args.hidden.now in
    let rows = c.args.rows.now in
    let row = c.row-item.result in
    elim c.if-not-contains.branch [
      | then-not-contains w ↦ subst (λ (n : ℕ). IsNewestOf hid (take (c.loop-row.row-index + 1) rows) n) (sym (w.newest-is ∙ w.max-newest.ensures))
          (newest_more hid rows c.loop-row.row-index row row c.loop-row.newest c.loop-row-test.true c.row-item.is c.loop-row.invariant (sym c.contains.ensures ∙ w.if-not-contains.true))
      | else-not-contains w ↦ subst (λ (n : ℕ). IsNewestOf hid (take (c.loop-row.row-index + 1) rows) n) (sym w.newest-is)
          (newest_hidden hid rows c.loop-row.row-index row row c.loop-row.newest c.loop-row-test.true c.row-item.is c.loop-row.invariant (sym c.contains.ensures ∙ w.if-not-contains.false))
    ]

pub returns : goal.returns
returns c = subst (λ (l : List RowVersion). IsNewestOf (contains id_cmp c.args.hidden.now) l c.loop-row.newest) (take_all c.loop-row.row-index c.args.rows.now c.loop-row-test.false) c.loop-row.invariant
