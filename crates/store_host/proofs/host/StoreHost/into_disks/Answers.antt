use Rattle.store_host.specs.Holds.{disks_at}
use Rattle.store_host.proofs.Lists.{mapped_on}
use Rattle.store_host.proofs.host.StoreHost.into_disks.Goals as goal

pub loop-table-preserved : goal.loop-table-preserved
loop-table-preserved g c =
    mapped_on disks_at c.loop-table.disks c.push.new.self c.loop-table.table-iterator c.next.new.self (c.in-Some.table, c.in-Some.hosted) (c.in-Some.table, c.into_disks.result) _
    c.in_ok-push.ensures.ok (c.into_disks.ensures c.in-Some.table)
    c.in-Some.ensures.steps c.loop-table.invariant
