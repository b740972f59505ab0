use Rattle.std.proofs.Common.{◌≡◌, ◌++◌, ◌+◌, drop, List, [], refl, sym, ◌∙◌, ap, subst}
use Rattle.std.proofs.lemmas.List.{drop_all}
use Rattle.slot_store.specs.declared.held.RowKey.{RowKey}
use Rattle.client_journal.specs.Scan.{with_waiting}
use Rattle.client_journal.proofs.Scans.{rest_from}
use Rattle.client_journal.proofs.scan.with_key.Goals as goal

pub loop-next-preserved : goal.loop-next-preserved
loop-next-preserved c =
    let rest = rest_from c.args.keys.now c.loop-next.next-index c.next-item.result c.next-item.result c.loop-next-test.true c.next-item.is in
    c.in_ok-add_between.ensures (drop (c.loop-next.next-index + 1) c.args.keys.now)
    ∙ (ap (λ (l : List RowKey). c.loop-next.made.items ++ with_waiting c.loop-next.waits l) (sym rest) ∙ c.loop-next.invariant)

pub returns : goal.returns
returns c =
    c.in_ok-add_last.ensures
    ∙ (ap (λ (l : List RowKey). c.loop-next.made.items ++ with_waiting c.loop-next.waits l) (sym (drop_all c.loop-next.next-index c.args.keys.now c.loop-next-test.false)) ∙ c.loop-next.invariant)
