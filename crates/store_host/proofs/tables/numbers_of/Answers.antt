use Rattle.std.proofs.Common.{ℕ, sym, ap}
use Rattle.std.specs.Prelude.{◌==◌}
use Rattle.store_host.proofs.Renewing.{kept_on}
use Rattle.store_host.proofs.tables.numbers_of.Goals as goal

pub loop-table-preserved : goal.loop-table-preserved
loop-table-preserved g c =
    kept_on c.args.store c.loop-table.numbers c.add_if.new.numbers c.loop-table.table-iterator c.next.new.self (c.in-Some.table.now, c.in-Some.hosted.now) _ _ c.in-Some.ensures.steps (ap (λ (n : ℕ). n == c.args.store) (sym c.store.ensures))
    c.in_ok-add_if.ensures.added c.loop-table.invariant
