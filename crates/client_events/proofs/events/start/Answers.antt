use Rattle.std.proofs.Common.{◌≡◌, refl}
use Rattle.journal_host.specs.declared.fault.ClientFault.TheVariants.{Memory}
use Rattle.journal_host.specs.Moves.{start_alone}
use Rattle.client_events.proofs.Wholes.{whole, fault_rests, are_clients, whole_fault, whole_cause}
use Rattle.client_events.proofs.CallEvents.{start_event}
use Rattle.client_events.proofs.events.start.Goals as goal

pub follow-requires : goal.follow-requires
follow-requires g c =
    let a = c.requires in
    are_clients g.D.Disk.state c.args.clients.now c.start-started.new.self (start_alone a.0 c.args.client) c.start-started.result (c.start-started.ensures.called a.0 a.1)

pub returns-clause-called : goal.returns-clause-called
returns-clause-called g c w h is =
    whole g.D.Disk.state c.args.clients.now c.start-started.new.self c.follow.new.clients w c.args.client _ _ (start_event w c.args.client) h
    c.args.is_held c.is_busy-was_busy.result is (c.is_busy-was_busy.ensures w h) c.start-started.result c.follow.result (c.start-started.ensures.called w h)
    c.follow.ensures.refused c.follow.ensures.held c.follow.ensures.busy c.follow.ensures.work

pub returns-clause-cause : goal.returns-clause-cause
returns-clause-cause g c =
    let a = c.requires in
    whole_cause g.D.Disk.state c.args.client c.args.clients.now c.start-started.new.self c.follow.new.clients c.start-started.result c.follow.result c.start-started.ensures.cause
    c.follow.ensures.refused c.follow.ensures.cause
    (fault_rests g.D.Disk.state c.args.clients.now c.start-started.new.self c.follow.new.clients a.0 c.args.client _ _ (start_event a.0 c.args.client)
    c.is_busy-was_busy.result (c.is_busy-was_busy.ensures a.0 a.1) c.start-started.result c.follow.result (c.start-started.ensures.called a.0 a.1) c.follow.ensures.busy c.follow.ensures.idle)

pub returns-clause-memory : goal.returns-clause-memory
returns-clause-memory g c =
    whole_fault g.D.Disk.state c.args.clients.now c.start-started.new.self c.follow.new.clients (λ e. e ≡ Memory) refl c.start-started.result c.follow.result c.start-started.ensures.memory c.follow.ensures.fault

pub returns-clause-plans : goal.returns-clause-plans
returns-clause-plans g c n below = c.follow.ensures.plans n (c.start-started.ensures.plans n below)
