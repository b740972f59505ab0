use Rattle.std.proofs.Common.{◌∙◌, ap, None}
use Rattle.std.proofs.lemmas.Result.{err_from_is_err_and}
use Rattle.world_tables.specs.World.{busy_live}
use Rattle.gated_tables.specs.Net.{restored}
use Rattle.net_steps.proofs.Delivered.{delivers_as, memory_delivers}
use Rattle.net_steps.proofs.Sessions.{busy_found, busy_none, busy_delivers}
use Rattle.net_steps.proofs.world.World.restore.Goals as goal

pub refuse_busy_live-requires : goal.refuse_busy_live-requires
refuse_busy_live-requires g c = let k = c.requires.here in (k.1.wire, k.2.held.wire)

pub returns-in_err-found : goal.returns-in_err-found
returns-in_err-found g c is_out n p x from =
    let q = err_from_is_err_and c.from_residual.result c.from_residual.ensures.1 in
    rw q.1 (memory_delivers g.D.Disk.state g.D.Disk.images n (λ lucks. restored n c.args.store p c.args.asked (busy_live n.wire.world c.args.store)) q.0
    (q.2 ∙ c.in_err-found.ensures.memory) is_out c.args.self.now c.args.self.now (λ m below. below))

pub returns-in-Some : goal.returns-in-Some
returns-in-Some g c is_out n p x from =
    let k = busy_found n c.args.store c.in_ok-found.found (c.in_ok-found.ensures.lines n.wire x.held.wire) c.in-Some.lines c.in-Some.is in
    busy_delivers g.D.Disk.state g.D.Disk.images g.met.D.Disk.only_now is_out n c.args.store p c.args.asked c.args.self.now x k.0 k.1 c.in-Some.lines k.2

pub returns-in-None : goal.returns-in-None
returns-in-None g c is_out n p x from =
    delivers_as g.D.Disk.state g.D.Disk.images n (λ lucks. restored n c.args.store p c.args.asked (busy_live n.wire.world c.args.store)) (λ lucks. restored n c.args.store p c.args.asked None)
    (λ lucks. ap (restored n c.args.store p c.args.asked)
    (busy_none n c.args.store c.in_ok-found.found (c.in_ok-found.ensures.lines n.wire x.held.wire) c.in-None.is))
    c.restore_idle.result is_out c.args.self.now c.restore_idle.new.self (c.restore_idle.ensures is_out n p x from)
