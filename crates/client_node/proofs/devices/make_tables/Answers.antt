use Rattle.std.proofs.Common.{◌≡◌, ℕ, ◌+◌, ◌<◌, ◌∷◌, List, length, get_or, drop, add-one, Ok, Err, refl, ◌∙◌, subst}
use Rattle.std.proofs.Math.Seq.{drop-cons}
use Rattle.std.proofs.lemmas.List.{drop_all}
use Rattle.std.proofs.lemmas.Result.{err_from_is_err_and}
use Rattle.row_value.specs.declared.schema.Schema.{Schema}
use Rattle.client_node.proofs.Making.{HoldSoFar, journal_cause, so_far_none, so_far_more, so_far_all, so_far_failed, makes_failed}
use Rattle.client_node.proofs.devices.make_tables.Goals as goal

pub returns-in_err-format : goal.returns-in_err-format
returns-in_err-format g c =
    let p = err_from_is_err_and c.from_residual.result c.from_residual.ensures.1 in
    rw (p.1, p.2) (makes_failed g.D.Disk.state c.args.tables.now c.args.devs.now c.format.new.self _ (journal_cause g.D.Disk.state c.args.devs.now c.format.new.self c.in_err-format.field-0.0 (c.in_err-format.ensures.cause c.requires.up) (c.in_err-format.ensures.fuse c.requires.up)))

pub loop-table-init : goal.loop-table-init
loop-table-init g c =
    let f = c.in_ok-format.ensures in
    so_far_none g.D.Disk.state c.args.tables.now c.args.devs.now c.format.new.self c.requires.opens f.rests f.empty f.idle (f.cause c.requires.up) (f.fuse c.requires.up)

here_is : (xs : List (ℕ × Schema)) (i : ℕ) (x : ℕ × Schema) → i < length xs → x ≡ get_or xs i x → drop i xs ≡ x ∷ drop (i + 1) xs
here_is xs i x less is = drop-cons xs i x less ∙ rw (← is, ← add-one i) refl

pub loop-table-preserved : goal.loop-table-preserved
loop-table-preserved g c =
    let s = g.D.Disk.state in
    let tables = c.args.tables.now in
    let old = c.args.devs.now in
    let now = c.loop-table.devs in
    let table = c.table-item.result in
    let e = c.in_ok-put_opened.ensures in
    let h : HoldSoFar s tables (table ∷ drop (c.loop-table.table-index + 1) tables) old now = subst (λ (l : List (ℕ × Schema)). HoldSoFar s tables l old now) (here_is tables c.loop-table.table-index table c.loop-table-test.true c.table-item.is) c.loop-table.invariant in
    so_far_more s tables old now c.put_opened.new.devs table (drop (c.loop-table.table-index + 1) tables) h e.put e.up e.ready e.idle e.cause

pub put_opened-requires-clause-opens : goal.put_opened-requires-clause-opens
put_opened-requires-clause-opens g c =
    let s = g.D.Disk.state in
    let tables = c.args.tables.now in
    let table = c.table-item.result in
    let h : HoldSoFar s tables (table ∷ drop (c.loop-table.table-index + 1) tables) c.args.devs.now c.loop-table.devs = subst (λ (l : List (ℕ × Schema)). HoldSoFar s tables l c.args.devs.now c.loop-table.devs) (here_is tables c.loop-table.table-index table c.loop-table-test.true c.table-item.is) c.loop-table.invariant in
    h.opens.0

pub returns-in_err-put_opened : goal.returns-in_err-put_opened
returns-in_err-put_opened g c =
    let p = err_from_is_err_and c.from_residual-in_err-put_opened.result c.from_residual-in_err-put_opened.ensures.1 in
    rw (p.1, p.2) (so_far_failed g.D.Disk.state c.args.tables.now c.args.devs.now c.loop-table.devs c.put_opened.new.devs (drop c.loop-table.table-index c.args.tables.now) c.in_err-put_opened.field-0.0 c.loop-table.invariant c.in_err-put_opened.ensures.cause)

pub returns : goal.returns
returns g c =
    so_far_all g.D.Disk.state c.args.tables.now c.args.devs.now c.loop-table.devs
    (subst (λ (l : List (ℕ × Schema)). HoldSoFar g.D.Disk.state c.args.tables.now l c.args.devs.now c.loop-table.devs) (drop_all c.loop-table.table-index c.args.tables.now c.loop-table-test.false) c.loop-table.invariant)
