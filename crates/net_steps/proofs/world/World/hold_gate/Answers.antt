use Rattle.std.proofs.Common.{sym, ◌∙◌}
use Rattle.net_steps.specs.declared.kinds.Deed.TheVariants as deeds
use Rattle.net_steps.proofs.Deeded.{is_down_node, is_up_node, refuse_promises, hold_starts_nothing, held_on, held_built, deed_of}
use Rattle.net_steps.proofs.Promised.{memory_apart, counted_alone}
use Rattle.net_steps.proofs.world.World.hold_gate.Goals as goal

pub carry_out-requires-clause-built : goal.carry_out-requires-clause-built
carry_out-requires-clause-built g c = held_built c.args.gate c.args.event.now (deed_of c.args.event.now c.args.gate deeds.Hold c.requires.kind)

pub carry_out-requires-clause-held : goal.carry_out-requires-clause-held
carry_out-requires-clause-held g c =
    let n = c.requires.held.0 in
    let b = c.requires.held.1 in (
      n,
      b,
      held_on n c.args.gate
          (is_up_node g.D.Disk.state g.D.Disk.images g.met.D.Disk.only_now n c.args.gate (g.P.Depot.state c.args.depot.now).is_out c.args.self.now b.held
          (sym c.is_up.ensures.up ∙ c.if-not-is_up.false)) c.args.event.now (deed_of c.args.event.now c.args.gate deeds.Hold c.requires.kind),
    )

pub returns-then-not-is_up-clause-promises : goal.returns-then-not-is_up-clause-promises
returns-then-not-is_up-clause-promises g c n b =
    refuse_promises g.D.Disk.state g.D.Disk.images g.met.D.Disk.only_now n c.args.gate (g.P.Depot.state c.args.depot.now).is_out c.args.self.now c.args.event.now deeds.Hold c.requires.kind b
    c.refuse_gate.result c.refuse_gate.ensures.memory
    (is_down_node g.D.Disk.state g.D.Disk.images g.met.D.Disk.only_now n c.args.gate (g.P.Depot.state c.args.depot.now).is_out c.args.self.now b.held c.is_up.result c.is_up.ensures.held
    c.if-not-is_up.true) hold_starts_nothing c.refuse_gate.ensures.lines

pub returns-then-not-is_up-clause-depot : goal.returns-then-not-is_up-clause-depot
returns-then-not-is_up-clause-depot g c = counted_alone _ c.refuse_gate.result (memory_apart c.refuse_gate.result c.refuse_gate.ensures.memory)

pub returns-clause-promises : goal.returns-clause-promises
returns-clause-promises g c n b =
    let k = held_on n c.args.gate
    (is_up_node g.D.Disk.state g.D.Disk.images g.met.D.Disk.only_now n c.args.gate (g.P.Depot.state c.args.depot.now).is_out c.args.self.now b.held (sym c.is_up.ensures.up ∙ c.if-not-is_up.false))
    c.args.event.now (deed_of c.args.event.now c.args.gate deeds.Hold c.requires.kind) in
    record {
      done = c.carry_out.ensures.done n b k;
      over = c.carry_out.ensures.over n b k;
      limit = λ m below. c.carry_out.ensures.limit n m b k below;
      plans = λ m below. c.carry_out.ensures.plans n m b below;
      left = c.carry_out.ensures.left n b;
    }
