use Rattle.std.proofs.lemmas.Result.{err_from_is_err_and}
use Rattle.node_steps.specs.Steps.{SpendsNumber}
use Rattle.wire_steps.proofs.Answered.{send_limited, plans_stay}
use Rattle.wire_steps.proofs.Brought.{pull_tells, pull_comes, pull_ends_so, pull_ends, pull_spends, limit_is}
use Rattle.wire_steps.proofs.world.World.pull_rows.Goals as goal

pub pull-requires-clause-held : goal.pull-requires-clause-held
pull-requires-clause-held g c = (c.requires.held.kept.world, c.requires.held.held.nodes)

pub tell-requires : goal.tell-requires
tell-requires g c =
    let x = c.requires.held in
    let k = c.in_ok-told.ensures in
    record {
      told = pull_tells g.D.Disk.state g.D.Disk.images g.met.D.Disk.only_now c.args.self.now c.args.client c.args.table c.args.tears c.args.asks x c.pull.new.self
          c.in_ok-told.told (k.done x.kept.world x.held.nodes) k.counted k.store;
    }

pub returns-clause-done : goal.returns-clause-done
returns-clause-done g c x =
    let k = c.in_ok-told.ensures in
    let done = k.done x.kept.world x.held.nodes in
    pull_comes g.D.Disk.state g.D.Disk.images g.met.D.Disk.only_now c.args.self.now c.args.client c.args.table c.args.tears c.args.asks x c.pull.new.self c.in_ok-told.told done k.counted k.store
    c.tell.new.self c.tell.ensures.nodes c.tell.result
    (c.tell.ensures.told (pull_tells g.D.Disk.state g.D.Disk.images g.met.D.Disk.only_now c.args.self.now c.args.client c.args.table c.args.tears c.args.asks x c.pull.new.self
    c.in_ok-told.told done k.counted k.store))

pub returns-clause-ends : goal.returns-clause-ends
returns-clause-ends g c x =
    let k = c.in_ok-told.ensures in
    let done = k.done x.kept.world x.held.nodes in
    pull_ends_so g.D.Disk.state g.D.Disk.images g.met.D.Disk.only_now c.args.self.now c.args.client c.args.table c.args.tears c.args.asks x c.pull.new.self c.in_ok-told.told done k.counted k.store
    c.tell.new.self c.tell.ensures.nodes c.tell.result
    (c.tell.ensures.over (pull_tells g.D.Disk.state g.D.Disk.images g.met.D.Disk.only_now c.args.self.now c.args.client c.args.table c.args.tears c.args.asks x c.pull.new.self
    c.in_ok-told.told done k.counted k.store)) c.tell.ensures.only

pub returns-clause-limit : goal.returns-clause-limit
returns-clause-limit g c x n below = send_limited (SpendsNumber n x.kept.world c.args.client) c.tell.result c.tell.ensures.only

pub returns-clause-plans : goal.returns-clause-plans
returns-clause-plans g c n below = plans_stay g.D.Disk.state _ c.pull.new.self c.tell.new.self.nodes c.tell.ensures.nodes (c.in_ok-told.ensures.plans n below)

pub returns-in_err-told-clause-ends : goal.returns-in_err-told-clause-ends
returns-in_err-told-clause-ends g c x =
    let p = err_from_is_err_and c.from_residual.result c.from_residual.ensures.1 in
    rw (p.1, p.2) (pull_ends g.D.Disk.state g.D.Disk.images g.met.D.Disk.only_now c.args.self.now c.args.client c.args.table c.args.tears c.args.asks x _ c.in_err-told.field-0.0
    (λ n below. pull_spends n x.kept.world c.args.client c.in_err-told.field-0.0 (c.in_err-told.ensures.limit x.kept.world n x.held.nodes below)) c.in_err-told.ensures.only)

pub returns-in_err-told-clause-limit : goal.returns-in_err-told-clause-limit
returns-in_err-told-clause-limit g c x n below =
    let p = err_from_is_err_and c.from_residual.result c.from_residual.ensures.1 in
    rw (p.1, p.2) (limit_is (SpendsNumber n x.kept.world c.args.client) c.in_err-told.field-0.0 (c.in_err-told.ensures.limit x.kept.world n x.held.nodes below))
