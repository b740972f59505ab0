use Rattle.std.proofs.Common.{suc, refl}
use Rattle.world_tables.specs.World.{client_at}
use Rattle.step_tables.specs.ClientMoves.{Alter, Opens}
use Rattle.journal_host.specs.Calls.{IsNumberCause}
use Rattle.journal_host.specs.Moves.{call_alone}
use Rattle.client_events.proofs.Wholes.{whole, fault_rests, are_clients, whole_kept, whole_fault, whole_cause}
use Rattle.client_events.proofs.CallEvents.{call_event}
use Rattle.client_events.proofs.events.open.Goals as goal

pub follow-requires : goal.follow-requires
follow-requires g c =
    let a = c.requires.clients in
    are_clients g.D.Disk.state c.args.clients.now c.open-found.new.self (call_alone a.0 c.args.client (Alter c.args.table (Opens c.args.schema))) c.open-found.result (c.open-found.ensures.called a.0 a.1)

pub returns-clause-called : goal.returns-clause-called
returns-clause-called g c w h is =
    whole g.D.Disk.state c.args.clients.now c.open-found.new.self c.follow.new.clients w c.args.client _ _ (call_event w c.args.client (Alter c.args.table (Opens c.args.schema)) refl) h
    c.args.is_held c.is_busy-was_busy.result is (c.is_busy-was_busy.ensures w h) c.open-found.result c.follow.result (c.open-found.ensures.called w h)
    c.follow.ensures.refused c.follow.ensures.held c.follow.ensures.busy c.follow.ensures.work

pub returns-clause-kept : goal.returns-clause-kept
returns-clause-kept g c w h =
    whole_kept g.D.Disk.state c.args.clients.now c.open-found.new.self c.follow.new.clients w c.open-found.result c.follow.result (c.open-found.ensures.kept w h) c.follow.ensures.fault

pub returns-clause-cause : goal.returns-clause-cause
returns-clause-cause g c =
    let a = c.requires.clients in
    whole_cause g.D.Disk.state c.args.client c.args.clients.now c.open-found.new.self c.follow.new.clients c.open-found.result c.follow.result c.open-found.ensures.cause
    c.follow.ensures.refused c.follow.ensures.cause
    (fault_rests g.D.Disk.state c.args.clients.now c.open-found.new.self c.follow.new.clients a.0 c.args.client _ _ (call_event a.0 c.args.client (Alter c.args.table (Opens c.args.schema)) refl)
    c.is_busy-was_busy.result (c.is_busy-was_busy.ensures a.0 a.1) c.open-found.result c.follow.result (c.open-found.ensures.called a.0 a.1) c.follow.ensures.busy c.follow.ensures.idle)

pub returns-clause-spent : goal.returns-clause-spent
returns-clause-spent g c w n h below =
    whole_fault g.D.Disk.state c.args.clients.now c.open-found.new.self c.follow.new.clients (IsNumberCause n (client_at w c.args.client)) tt c.open-found.result c.follow.result
    (c.open-found.ensures.spent w n h below) c.follow.ensures.fault

pub returns-clause-plans : goal.returns-clause-plans
returns-clause-plans g c n below = c.follow.ensures.plans (suc n) (c.open-found.ensures.plans n below)
