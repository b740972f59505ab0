use Rattle.std.proofs.Common.{⊎_elim, suc}
use Rattle.world_tables.specs.World.{client_at}
use Rattle.step_tables.specs.Travels.{message_of}
use Rattle.journal_host.specs.Calls.{IsNumberCause}
use Rattle.journal_host.specs.Moves.{take_alone}
use Rattle.client_events.proofs.Wholes.{whole, fault_rests, dropped_rests, are_clients, are_clients_or, whole_kept, whole_fault, whole_cause}
use Rattle.client_events.proofs.CallEvents.{take_event, fits_or, fits_to, fits_from}
use Rattle.client_events.proofs.events.deliver.Goals as goal

pub follow-requires : goal.follow-requires
follow-requires g c =
    let a = c.requires in
    let alone = take_alone a.0 c.args.client (message_of c.args.message) in
    ⊎_elim
    (λ fits. are_clients g.D.Disk.state c.args.clients.now c.deliver-found.new.self alone c.deliver-found.result (c.deliver-found.ensures.called a.0 a.1 (fits_to _ (client_at a.0 c.args.client) c.args.message (λ d k. k) fits)))
    (λ unfit. are_clients_or g.D.Disk.state c.args.clients.now c.deliver-found.new.self alone a.0 c.deliver-found.result (c.deliver-found.ensures.dropped a.0 a.1 (λ k. unfit (fits_from _ (client_at a.0 c.args.client) c.args.message (λ d x. x) k))))
    (fits_or a.0 c.args.client c.args.message)

pub returns-clause-called : goal.returns-clause-called
returns-clause-called g c w h is fits =
    whole g.D.Disk.state c.args.clients.now c.deliver-found.new.self c.follow.new.clients w c.args.client _ _ (take_event w c.args.client c.args.message) h
    c.args.is_held c.is_busy-was_busy.result is (c.is_busy-was_busy.ensures w h) c.deliver-found.result c.follow.result (c.deliver-found.ensures.called w h (fits_to _ (client_at w c.args.client) c.args.message (λ d k. k) fits))
    c.follow.ensures.refused c.follow.ensures.held c.follow.ensures.busy c.follow.ensures.work

pub returns-clause-kept : goal.returns-clause-kept
returns-clause-kept g c w h =
    whole_kept g.D.Disk.state c.args.clients.now c.deliver-found.new.self c.follow.new.clients w c.deliver-found.result c.follow.result (c.deliver-found.ensures.kept w h) c.follow.ensures.fault

pub returns-clause-cause : goal.returns-clause-cause
returns-clause-cause g c =
    let a = c.requires in
    let e = take_event a.0 c.args.client c.args.message in
    let b = c.is_busy-was_busy.ensures a.0 a.1 in
    whole_cause g.D.Disk.state c.args.client c.args.clients.now c.deliver-found.new.self c.follow.new.clients c.deliver-found.result c.follow.result c.deliver-found.ensures.cause
    c.follow.ensures.refused c.follow.ensures.cause
    (⊎_elim
    (λ fits. fault_rests g.D.Disk.state c.args.clients.now c.deliver-found.new.self c.follow.new.clients a.0 c.args.client _ _ e c.is_busy-was_busy.result b c.deliver-found.result c.follow.result
    (c.deliver-found.ensures.called a.0 a.1 (fits_to _ (client_at a.0 c.args.client) c.args.message (λ d k. k) fits)) c.follow.ensures.busy c.follow.ensures.idle)
    (λ unfit. dropped_rests g.D.Disk.state c.args.clients.now c.deliver-found.new.self c.follow.new.clients a.0 c.args.client _ _ e c.is_busy-was_busy.result b c.deliver-found.result c.follow.result
    (c.deliver-found.ensures.dropped a.0 a.1 (λ k. unfit (fits_from _ (client_at a.0 c.args.client) c.args.message (λ d x. x) k))) c.follow.ensures.busy c.follow.ensures.idle)
    (fits_or a.0 c.args.client c.args.message))

pub returns-clause-spent : goal.returns-clause-spent
returns-clause-spent g c w n h below fits =
    whole_fault g.D.Disk.state c.args.clients.now c.deliver-found.new.self c.follow.new.clients (IsNumberCause n (client_at w c.args.client)) tt c.deliver-found.result c.follow.result
    (c.deliver-found.ensures.spent w n h below (fits_to _ (client_at w c.args.client) c.args.message (λ d k. k) fits)) c.follow.ensures.fault

pub returns-clause-plans : goal.returns-clause-plans
returns-clause-plans g c n below = c.follow.ensures.plans (suc n) (c.deliver-found.ensures.plans n below)
