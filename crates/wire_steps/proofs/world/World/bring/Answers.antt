use Rattle.std.proofs.lemmas.Result.{err_from_is_err_and}
use Rattle.wire_steps.specs.Calls.{SpendsAny}
use Rattle.wire_steps.proofs.Answered.{send_limited, plans_stay}
use Rattle.wire_steps.proofs.Brought.{to_carry, fits_to, bring_tells, bring_comes, bring_ends, carry_ends, limit_is}
use Rattle.wire_steps.proofs.world.World.bring.Goals as goal

pub carry-requires : goal.carry-requires
carry-requires g c = record { held = to_carry g.D.Disk.state g.D.Disk.images c.args.self.now c.args.from c.args.to c.args.message c.requires.carried }

pub tell-requires : goal.tell-requires
tell-requires g c =
    let x = c.requires.carried in
    let fits = fits_to g.D.Disk.state g.D.Disk.images c.args.self.now c.args.from c.args.to c.args.message x in
    let k = c.in_ok-told.ensures in
    record {
      told = bring_tells g.D.Disk.state g.D.Disk.images c.args.self.now c.args.from c.args.to c.args.message x c.carry.new.self c.in_ok-told.told
          (k.done x.kept.world x.held.nodes fits) k.counted (k.rows x.kept.world x.held.nodes fits);
    }

pub returns-clause-done : goal.returns-clause-done
returns-clause-done g c x =
    let fits = fits_to g.D.Disk.state g.D.Disk.images c.args.self.now c.args.from c.args.to c.args.message x in
    let k = c.in_ok-told.ensures in
    let done = k.done x.kept.world x.held.nodes fits in
    let rows = k.rows x.kept.world x.held.nodes fits in
    bring_comes g.D.Disk.state g.D.Disk.images c.args.self.now c.args.from c.args.to c.args.message x c.carry.new.self c.in_ok-told.told done k.counted rows
    c.tell.new.self c.tell.ensures.nodes c.tell.result
    (c.tell.ensures.told (bring_tells g.D.Disk.state g.D.Disk.images c.args.self.now c.args.from c.args.to c.args.message x c.carry.new.self c.in_ok-told.told done k.counted rows))

pub returns-clause-ends : goal.returns-clause-ends
returns-clause-ends g c x =
    let fits = fits_to g.D.Disk.state g.D.Disk.images c.args.self.now c.args.from c.args.to c.args.message x in
    let k = c.in_ok-told.ensures in
    let done = k.done x.kept.world x.held.nodes fits in
    let rows = k.rows x.kept.world x.held.nodes fits in
    bring_ends g.D.Disk.state g.D.Disk.images c.args.self.now c.args.from c.args.to c.args.message x c.carry.new.self c.in_ok-told.told done k.counted rows
    c.tell.new.self c.tell.ensures.nodes c.tell.result
    (c.tell.ensures.over (bring_tells g.D.Disk.state g.D.Disk.images c.args.self.now c.args.from c.args.to c.args.message x c.carry.new.self c.in_ok-told.told done k.counted rows))
    c.tell.ensures.only

pub returns-clause-limit : goal.returns-clause-limit
returns-clause-limit g c x n below = send_limited (SpendsAny n x.kept.world) c.tell.result c.tell.ensures.only

pub returns-clause-plans : goal.returns-clause-plans
returns-clause-plans g c n below = plans_stay g.D.Disk.state _ c.carry.new.self c.tell.new.self.nodes c.tell.ensures.nodes (c.in_ok-told.ensures.plans n below)

pub returns-in_err-told-clause-ends : goal.returns-in_err-told-clause-ends
returns-in_err-told-clause-ends g c x =
    let fits = fits_to g.D.Disk.state g.D.Disk.images c.args.self.now c.args.from c.args.to c.args.message x in
    let p = err_from_is_err_and c.from_residual.result c.from_residual.ensures.1 in
    rw (p.1, p.2) (carry_ends g.D.Disk.state g.D.Disk.images c.args.self.now c.args.from c.args.to c.args.message x _ c.in_err-told.field-0.0
    (λ n below. c.in_err-told.ensures.limit x.kept.world n x.held.nodes fits below) c.in_err-told.ensures.only)

pub returns-in_err-told-clause-limit : goal.returns-in_err-told-clause-limit
returns-in_err-told-clause-limit g c x n below =
    let fits = fits_to g.D.Disk.state g.D.Disk.images c.args.self.now c.args.from c.args.to c.args.message x in
    let p = err_from_is_err_and c.from_residual.result c.from_residual.ensures.1 in
    rw (p.1, p.2) (limit_is (SpendsAny n x.kept.world) c.in_err-told.field-0.0 (c.in_err-told.ensures.limit x.kept.world n x.held.nodes fits below))
