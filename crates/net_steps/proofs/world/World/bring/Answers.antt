use Rattle.std.proofs.lemmas.Result.{err_from_is_err_and}
use Rattle.net_steps.proofs.Brought.{brings_carry, to_carry_on, brings_carried, brings_ended, counted_apart, send_apart}
use Rattle.net_steps.proofs.world.World.bring.Goals as goal

pub step-requires-clause-held : goal.step-requires-clause-held
step-requires-clause-held g c = let k = c.requires.here in record { v = k.1; reached = k.2.reached; held = k.2.held; out = k.2.out }

pub carry-requires : goal.carry-requires
carry-requires g c =
    let k = c.requires.here in
    brings_carry g.D.Disk.state g.D.Disk.images k.0 k.1 c.args.packet (g.P.Depot.state c.args.depot.now).is_out (g.P.Depot.state c.step.new.depot).is_out c.args.self.now k.2 c.step.new.self
    c.in_ok-lines.lines (c.in_ok-lines.ensures.done k.1 k.2.reached k.2.held k.2.out)

pub returns-clause-brings : goal.returns-clause-brings
returns-clause-brings g c n v x =
    let s = c.in_ok-lines.ensures.done v x.reached x.held x.out in
    let k = to_carry_on g.D.Disk.state g.D.Disk.images n v c.args.packet (g.P.Depot.state c.args.depot.now).is_out (g.P.Depot.state c.step.new.depot).is_out c.args.self.now x c.step.new.self
    c.in_ok-lines.lines s in
    brings_carried g.D.Disk.state g.D.Disk.images n v c.args.packet (g.P.Depot.state c.args.depot.now).is_out (g.P.Depot.state c.step.new.depot).is_out c.args.self.now x c.step.new.self
    c.in_ok-lines.lines s c.carry.new.self c.carry.ensures.same c.carry.result (c.carry.ensures.done n v _ k) (c.carry.ensures.over n v _ k) c.carry.ensures.only
    (λ m below. c.in_ok-lines.ensures.plans v m x.reached x.held below)

pub returns-clause-depot : goal.returns-clause-depot
returns-clause-depot g c = counted_apart _ _ c.in_ok-lines.ensures.depot c.carry.result (send_apart c.carry.result c.carry.ensures.only)

pub returns-in_err-lines-clause-brings : goal.returns-in_err-lines-clause-brings
returns-in_err-lines-clause-brings g c n v x =
    let p = err_from_is_err_and c.from_residual.result c.from_residual.ensures.1 in
    rw (p.1, p.2) (brings_ended g.D.Disk.state g.D.Disk.images n v c.args.packet (g.P.Depot.state c.args.depot.now).is_out (g.P.Depot.state c.step.new.depot).is_out c.args.self.now x
    c.step.new.self c.in_err-lines.field-0.0 (c.in_err-lines.ensures.over v x.reached x.held x.out)
    (λ m below. c.in_err-lines.ensures.limit v m x.reached x.held below) (λ m below. c.in_err-lines.ensures.plans v m x.reached x.held below)
    (c.in_err-lines.ensures.apart (λ own. own)))
