use Rattle.std.proofs.lemmas.Result.{err_from_is_err_and}
use Rattle.wire_steps.specs.Calls.{SpendsAny}
use Rattle.wire_steps.specs.Delivering.{delivery}
use Rattle.wire_steps.proofs.Answered.{send_limited, memory_ends, memory_limits, plans_stay, plans_later}
use Rattle.wire_steps.proofs.Coming.{seen_of, seen_comes, seen_ends, table_tells, table_comes, table_ends}
use Rattle.wire_steps.proofs.Viewed.{takes_both}
use Rattle.wire_steps.proofs.world.World.bring_to_table.Goals as goal

pub view-requires : goal.view-requires
view-requires g c = let x = c.requires.brought in record { held = (x.brought.v, x.brought.sent.reached, x.brought.held, (takes_both x.brought.v.world c.args.store c.args.table x.takes).1) }

pub gather_part-requires : goal.gather_part-requires
gather_part-requires g c =
    let x = c.requires.brought in
    let seen = (rw c.in-Found.is at (c.in_ok-view.ensures.seen x.brought.v x.brought.p.part x.brought.sent.reached x.brought.held (takes_both x.brought.v.world c.args.store c.args.table x.takes).1 x.brought.part_is)) in
    record { seen = seen_of g.D.Disk.state g.D.Disk.images c.args.self.now c.view.new.self c.args.store c.args.from c.args.table c.args.part x c.in-Found.view seen }

pub tell-requires : goal.tell-requires
tell-requires g c =
    let x = c.requires.brought in
    let lost = (rw c.in-Fallen.is at (c.in_ok-view.ensures.seen x.brought.v x.brought.p.part x.brought.sent.reached x.brought.held (takes_both x.brought.v.world c.args.store c.args.table x.takes).1 x.brought.part_is)) in
    record { told = table_tells g.D.Disk.state g.D.Disk.images c.args.self.now c.view.new.self c.args.store c.args.from c.args.table c.args.part x c.in-Fallen.told lost }

pub returns-in-Found-clause-done : goal.returns-in-Found-clause-done
returns-in-Found-clause-done g c x =
    let seen = (rw c.in-Found.is at (c.in_ok-view.ensures.seen x.brought.v x.brought.p.part x.brought.sent.reached x.brought.held (takes_both x.brought.v.world c.args.store c.args.table x.takes).1 x.brought.part_is)) in
    seen_comes g.D.Disk.state g.D.Disk.images c.args.self.now c.view.new.self c.args.store c.args.from c.args.table c.args.part x c.in-Found.view seen c.gather_part.new.self c.gather_part.result (c.gather_part.ensures.done (seen_of g.D.Disk.state g.D.Disk.images c.args.self.now c.view.new.self c.args.store c.args.from c.args.table c.args.part x c.in-Found.view seen))

pub returns-in-Found-clause-ends : goal.returns-in-Found-clause-ends
returns-in-Found-clause-ends g c x =
    let seen = (rw c.in-Found.is at (c.in_ok-view.ensures.seen x.brought.v x.brought.p.part x.brought.sent.reached x.brought.held (takes_both x.brought.v.world c.args.store c.args.table x.takes).1 x.brought.part_is)) in
    seen_ends g.D.Disk.state g.D.Disk.images c.args.self.now c.view.new.self c.args.store c.args.from c.args.table c.args.part x c.in-Found.view seen c.gather_part.new.self c.gather_part.result (c.gather_part.ensures.ends (seen_of g.D.Disk.state g.D.Disk.images c.args.self.now c.view.new.self c.args.store c.args.from c.args.table c.args.part x c.in-Found.view seen))

pub returns-in-Found-clause-limit : goal.returns-in-Found-clause-limit
returns-in-Found-clause-limit g c x n below =
    let seen = (rw c.in-Found.is at (c.in_ok-view.ensures.seen x.brought.v x.brought.p.part x.brought.sent.reached x.brought.held (takes_both x.brought.v.world c.args.store c.args.table x.takes).1 x.brought.part_is)) in
    c.gather_part.ensures.limit (seen_of g.D.Disk.state g.D.Disk.images c.args.self.now c.view.new.self c.args.store c.args.from c.args.table c.args.part x c.in-Found.view seen) n (c.in_ok-view.ensures.plans n below)

pub returns-in-Fallen-clause-done : goal.returns-in-Fallen-clause-done
returns-in-Fallen-clause-done g c x =
    let lost = (rw c.in-Fallen.is at (c.in_ok-view.ensures.seen x.brought.v x.brought.p.part x.brought.sent.reached x.brought.held (takes_both x.brought.v.world c.args.store c.args.table x.takes).1 x.brought.part_is)) in
    table_comes g.D.Disk.state g.D.Disk.images c.args.self.now c.view.new.self c.args.store c.args.from c.args.table c.args.part x c.in-Fallen.told lost c.tell.new.self c.tell.ensures.nodes c.tell.result (c.tell.ensures.told (table_tells g.D.Disk.state g.D.Disk.images c.args.self.now c.view.new.self c.args.store c.args.from c.args.table c.args.part x c.in-Fallen.told lost))

pub returns-in-Fallen-clause-ends : goal.returns-in-Fallen-clause-ends
returns-in-Fallen-clause-ends g c x =
    let lost = (rw c.in-Fallen.is at (c.in_ok-view.ensures.seen x.brought.v x.brought.p.part x.brought.sent.reached x.brought.held (takes_both x.brought.v.world c.args.store c.args.table x.takes).1 x.brought.part_is)) in
    table_ends g.D.Disk.state g.D.Disk.images c.args.self.now c.view.new.self c.args.store c.args.from c.args.table c.args.part x c.in-Fallen.told lost c.tell.new.self c.tell.ensures.nodes c.tell.result (c.tell.ensures.over (table_tells g.D.Disk.state g.D.Disk.images c.args.self.now c.view.new.self c.args.store c.args.from c.args.table c.args.part x c.in-Fallen.told lost)) c.tell.ensures.only

pub returns-in-Fallen-clause-limit : goal.returns-in-Fallen-clause-limit
returns-in-Fallen-clause-limit g c x n below = send_limited (SpendsAny n x.brought.v.world) c.tell.result c.tell.ensures.only

pub returns-in-Fallen-clause-plans : goal.returns-in-Fallen-clause-plans
returns-in-Fallen-clause-plans g c n below =
    plans_stay g.D.Disk.state _ c.view.new.self.nodes c.tell.new.self.nodes c.tell.ensures.nodes (plans_later g.D.Disk.state n c.view.new.self.nodes (c.in_ok-view.ensures.plans n below))

pub returns-in_err-view-clause-ends : goal.returns-in_err-view-clause-ends
returns-in_err-view-clause-ends g c x =
    let p = err_from_is_err_and c.from_residual.result c.from_residual.ensures.1 in
    rw (p.1, p.2) (memory_ends g.D.Disk.state g.D.Disk.images x.brought.v (delivery x.brought.v x.brought.sent) c.args.self.now c.view.new.self c.in_err-view.field-0.0 c.in_err-view.ensures.memory)

pub returns-in_err-view-clause-limit : goal.returns-in_err-view-clause-limit
returns-in_err-view-clause-limit g c x n below =
    let p = err_from_is_err_and c.from_residual.result c.from_residual.ensures.1 in
    rw (p.1, p.2) (memory_limits (SpendsAny n x.brought.v.world) c.in_err-view.field-0.0 c.in_err-view.ensures.memory)

pub returns-in_err-view-clause-plans : goal.returns-in_err-view-clause-plans
returns-in_err-view-clause-plans g c n below = plans_later g.D.Disk.state n c.view.new.self.nodes (c.in_err-view.ensures.plans n below)

pub returns-in-Found-clause-plans : goal.returns-in-Found-clause-plans
returns-in-Found-clause-plans g c n below = c.gather_part.ensures.plans n (c.in_ok-view.ensures.plans n below)
