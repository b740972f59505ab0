use Rattle.std.proofs.Common.{◌≡◌, ℕ, suc, ◌+◌, ◌<◌, ◌≤◌, ◌++◌, List, length, drop, sym, ap, ◌∙◌, arith, rules, append-nil}
use Rattle.row_value.specs.declared.schema.Schema.{Schema}
use Rattle.journal_host.specs.Opening.{declared_among}
use Rattle.journal_host.proofs.Ends.{drop_next, drop_done}
use Rattle.journal_host.proofs.opening.declared_among.Goals as goal

pub loop-table-preserved : goal.loop-table-preserved
loop-table-preserved c =
    let i = c.loop-table.table-index in
    let below : i < length c.args.tables.now = search rules in
    let next : i + 1 ≡ suc i = omega arith in
    ap (λ (k : ℕ). c.put.new.found.items ++ declared_among c.args.schemas.now (drop k c.args.tables.now)) next
    ∙ (c.in_ok-put.ensures.put (declared_among c.args.schemas.now (drop (suc i) c.args.tables.now))
    ∙ (ap (λ (l : List (ℕ × Schema)). c.loop-table.found.items ++ l) (sym (drop_next c.args.schemas.now c.args.tables.now i below)) ∙ c.loop-table.invariant))

pub returns-clause-found : goal.returns-clause-found
returns-clause-found c =
    let past : length c.args.tables.now ≤ c.loop-table.table-index = search rules in
    sym (append-nil c.loop-table.found.items)
    ∙ (ap (λ (l : List (ℕ × Schema)). c.loop-table.found.items ++ l) (sym (drop_done c.args.schemas.now c.args.tables.now c.loop-table.table-index past)) ∙ c.loop-table.invariant)
