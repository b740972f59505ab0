use Rattle.journal_host.specs.Holds.{disks_at}
use Rattle.journal_host.proofs.Lists.{mapped_on, three_parts}
use Rattle.journal_host.proofs.host.ClientHost.into_disks.Goals as goal

pub loop-client-preserved : goal.loop-client-preserved
loop-client-preserved g c =
    mapped_on disks_at c.loop-client.disks c.push.new.self c.loop-client.client-iterator c.next.new.self (c.in-Some.client, c.in-Some.node) (c.in-Some.client, c.into_disks.result) _
    c.in_ok-push.ensures.ok (three_parts c.in-Some.client c.into_disks.result _ _ _ c.into_disks.ensures.journal c.into_disks.ensures.slots c.into_disks.ensures.chunks)
    c.in-Some.ensures.steps c.loop-client.invariant
