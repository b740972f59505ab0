use Rattle.client_events.proofs.CallEvents.{lists_whole}
use Rattle.client_events.proofs.Wholes.{stays_kept}
use Rattle.client_events.proofs.events.conflicts.Goals as goal

pub conflicts-requires : goal.conflicts-requires
conflicts-requires g c = record { clients = c.requires.clients; none = c.requires.none }

pub returns-clause-called : goal.returns-clause-called
returns-clause-called g c w h =
    lists_whole g.D.Disk.state c.args.clients.now c.conflicts.new.self w c.args.client c.args.table c.conflicts.new.pairs c.conflicts.result (c.conflicts.ensures.called w h)

pub returns-clause-spent : goal.returns-clause-spent
returns-clause-spent g c w n h below = c.conflicts.ensures.spent w n h below

pub returns-clause-kept : goal.returns-clause-kept
returns-clause-kept g c w h = stays_kept g.D.Disk.state c.args.clients.now c.conflicts.new.self w c.conflicts.result (c.conflicts.ensures.kept w h)

pub returns-clause-cause : goal.returns-clause-cause
returns-clause-cause g c = c.conflicts.ensures.cause

pub returns-clause-plans : goal.returns-clause-plans
returns-clause-plans g c n below = c.conflicts.ensures.plans n below
