use Rattle.std.proofs.lemmas.Result.{err_from_is_err_and}
use Rattle.wire_steps.specs.Calls.{SpendsAny}
use Rattle.wire_steps.specs.Delivering.{IsHeldFor, delivery}
use Rattle.wire_steps.proofs.Answered.{send_limited, memory_ends, memory_limits, plans_stay, plans_later}
use Rattle.wire_steps.proofs.Coming.{still_of, still_goes, still_ends, client_tells, client_comes, client_ends}
use Rattle.wire_steps.proofs.world.World.bring_to_opened.Goals as goal

pub held-requires : goal.held-requires
held-requires g c = let x = c.requires.brought in record { held = (x.of_client.brought.v, x.of_client.brought.sent.reached, x.of_client.brought.held, x.of_client.ready) }

pub arrive_part-requires : goal.arrive_part-requires
arrive_part-requires g c =
    let x = c.requires.brought in
    let seen = (rw c.in-Found.is at (c.in_ok-held.ensures.seen x.of_client.brought.v x.of_client.brought.p.part x.of_client.brought.sent.reached x.of_client.brought.held x.of_client.ready x.of_client.brought.part_is)) in
    record { held = (record { of_opened = record { of_client = still_of g.D.Disk.state g.D.Disk.images c.args.self.now c.held.new.self c.args.client c.args.from c.args.table c.args.part x.of_client (IsHeldFor x.of_client.brought.v c.args.client c.args.table x.of_client.brought.p.part) c.in-Found.held seen; opened = x.opened }; held = seen.found }) }

pub tell-requires : goal.tell-requires
tell-requires g c =
    let x = c.requires.brought in
    let lost = (rw c.in-Fallen.is at (c.in_ok-held.ensures.seen x.of_client.brought.v x.of_client.brought.p.part x.of_client.brought.sent.reached x.of_client.brought.held x.of_client.ready x.of_client.brought.part_is)) in
    record { told = client_tells g.D.Disk.state g.D.Disk.images c.args.self.now c.held.new.self c.args.client c.args.from c.args.table c.args.part x.of_client c.in-Fallen.told lost }

pub returns-in-Found-clause-done : goal.returns-in-Found-clause-done
returns-in-Found-clause-done g c x =
    let seen = (rw c.in-Found.is at (c.in_ok-held.ensures.seen x.of_client.brought.v x.of_client.brought.p.part x.of_client.brought.sent.reached x.of_client.brought.held x.of_client.ready x.of_client.brought.part_is)) in
    still_goes g.D.Disk.state g.D.Disk.images c.args.self.now c.held.new.self c.args.client c.args.from c.args.table c.args.part x.of_client (IsHeldFor x.of_client.brought.v c.args.client c.args.table x.of_client.brought.p.part) c.in-Found.held seen c.arrive_part.new.self c.arrive_part.result
    (c.arrive_part.ensures.done (record { of_opened = record { of_client = still_of g.D.Disk.state g.D.Disk.images c.args.self.now c.held.new.self c.args.client c.args.from c.args.table c.args.part x.of_client (IsHeldFor x.of_client.brought.v c.args.client c.args.table x.of_client.brought.p.part) c.in-Found.held seen; opened = x.opened }; held = seen.found }))

pub returns-in-Found-clause-ends : goal.returns-in-Found-clause-ends
returns-in-Found-clause-ends g c x =
    let seen = (rw c.in-Found.is at (c.in_ok-held.ensures.seen x.of_client.brought.v x.of_client.brought.p.part x.of_client.brought.sent.reached x.of_client.brought.held x.of_client.ready x.of_client.brought.part_is)) in
    still_ends g.D.Disk.state g.D.Disk.images c.args.self.now c.held.new.self c.args.client c.args.from c.args.table c.args.part x.of_client (IsHeldFor x.of_client.brought.v c.args.client c.args.table x.of_client.brought.p.part) c.in-Found.held seen c.arrive_part.new.self c.arrive_part.result
    (c.arrive_part.ensures.ends (record { of_opened = record { of_client = still_of g.D.Disk.state g.D.Disk.images c.args.self.now c.held.new.self c.args.client c.args.from c.args.table c.args.part x.of_client (IsHeldFor x.of_client.brought.v c.args.client c.args.table x.of_client.brought.p.part) c.in-Found.held seen; opened = x.opened }; held = seen.found }))

pub returns-in-Found-clause-limit : goal.returns-in-Found-clause-limit
returns-in-Found-clause-limit g c x n below =
    let seen = (rw c.in-Found.is at (c.in_ok-held.ensures.seen x.of_client.brought.v x.of_client.brought.p.part x.of_client.brought.sent.reached x.of_client.brought.held x.of_client.ready x.of_client.brought.part_is)) in
    c.arrive_part.ensures.limit (record { of_opened = record { of_client = still_of g.D.Disk.state g.D.Disk.images c.args.self.now c.held.new.self c.args.client c.args.from c.args.table c.args.part x.of_client (IsHeldFor x.of_client.brought.v c.args.client c.args.table x.of_client.brought.p.part) c.in-Found.held seen; opened = x.opened }; held = seen.found }) _ (c.in_ok-held.ensures.plans n below)

pub returns-in-Fallen-clause-done : goal.returns-in-Fallen-clause-done
returns-in-Fallen-clause-done g c x =
    let lost = (rw c.in-Fallen.is at (c.in_ok-held.ensures.seen x.of_client.brought.v x.of_client.brought.p.part x.of_client.brought.sent.reached x.of_client.brought.held x.of_client.ready x.of_client.brought.part_is)) in
    client_comes g.D.Disk.state g.D.Disk.images c.args.self.now c.held.new.self c.args.client c.args.from c.args.table c.args.part x.of_client c.in-Fallen.told lost c.tell.new.self c.tell.ensures.nodes c.tell.result (c.tell.ensures.told (client_tells g.D.Disk.state g.D.Disk.images c.args.self.now c.held.new.self c.args.client c.args.from c.args.table c.args.part x.of_client c.in-Fallen.told lost))

pub returns-in-Fallen-clause-ends : goal.returns-in-Fallen-clause-ends
returns-in-Fallen-clause-ends g c x =
    let lost = (rw c.in-Fallen.is at (c.in_ok-held.ensures.seen x.of_client.brought.v x.of_client.brought.p.part x.of_client.brought.sent.reached x.of_client.brought.held x.of_client.ready x.of_client.brought.part_is)) in
    client_ends g.D.Disk.state g.D.Disk.images c.args.self.now c.held.new.self c.args.client c.args.from c.args.table c.args.part x.of_client c.in-Fallen.told lost c.tell.new.self c.tell.ensures.nodes c.tell.result (c.tell.ensures.over (client_tells g.D.Disk.state g.D.Disk.images c.args.self.now c.held.new.self c.args.client c.args.from c.args.table c.args.part x.of_client c.in-Fallen.told lost)) c.tell.ensures.only

pub returns-in-Fallen-clause-limit : goal.returns-in-Fallen-clause-limit
returns-in-Fallen-clause-limit g c x n below = send_limited (SpendsAny _ x.of_client.brought.v.world) c.tell.result c.tell.ensures.only

pub returns-in-Fallen-clause-plans : goal.returns-in-Fallen-clause-plans
returns-in-Fallen-clause-plans g c n below =
    plans_stay g.D.Disk.state _ c.held.new.self.nodes c.tell.new.self.nodes c.tell.ensures.nodes (plans_later g.D.Disk.state _ c.held.new.self.nodes (c.in_ok-held.ensures.plans n below))

pub returns-in_err-held-clause-ends : goal.returns-in_err-held-clause-ends
returns-in_err-held-clause-ends g c x =
    let p = err_from_is_err_and c.from_residual.result c.from_residual.ensures.1 in
    rw (p.1, p.2) (memory_ends g.D.Disk.state g.D.Disk.images x.of_client.brought.v (delivery x.of_client.brought.v x.of_client.brought.sent) c.args.self.now c.held.new.self c.in_err-held.field-0.0
    c.in_err-held.ensures.memory)

pub returns-in_err-held-clause-limit : goal.returns-in_err-held-clause-limit
returns-in_err-held-clause-limit g c x n below =
    let p = err_from_is_err_and c.from_residual.result c.from_residual.ensures.1 in
    rw (p.1, p.2) (memory_limits (SpendsAny _ x.of_client.brought.v.world) c.in_err-held.field-0.0 c.in_err-held.ensures.memory)

pub returns-in_err-held-clause-plans : goal.returns-in_err-held-clause-plans
returns-in_err-held-clause-plans g c n below = plans_later g.D.Disk.state _ c.held.new.self.nodes (c.in_err-held.ensures.plans n below)

pub returns-in-Found-clause-plans : goal.returns-in-Found-clause-plans
returns-in-Found-clause-plans g c n below = c.arrive_part.ensures.plans _ (c.in_ok-held.ensures.plans n below)
