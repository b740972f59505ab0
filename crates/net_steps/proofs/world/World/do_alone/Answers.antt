use Rattle.std.proofs.Common.{sym, ◌∙◌}
use Rattle.net_steps.proofs.Deeded.{is_down_node, is_up_node, refuse_promises, work_promises, work_all_promises, crash_as}
use Rattle.net_steps.proofs.Promised.{memory_apart}
use Rattle.net_steps.proofs.world.World.do_alone.Goals as goal

pub returns-then-not-is_up : goal.returns-then-not-is_up
returns-then-not-is_up g c = record {
  promises = λ is_out event n kind b.
      refuse_promises g.D.Disk.state g.D.Disk.images g.met.D.Disk.only_now n c.args.gate is_out c.args.self.now event c.args.deed kind b c.refuse_gate.result c.refuse_gate.ensures.memory
      (is_down_node g.D.Disk.state g.D.Disk.images g.met.D.Disk.only_now n c.args.gate is_out c.args.self.now b.held c.is_up.result c.is_up.ensures.held c.if-not-is_up.true)
      c.in_default.not-Start c.refuse_gate.ensures.lines;
  apart = memory_apart c.refuse_gate.result c.refuse_gate.ensures.memory;
}

pub returns-in-Work : goal.returns-in-Work
returns-in-Work g c = record {
  promises = λ is_out event n kind b.
      work_promises g.D.Disk.state g.D.Disk.images g.met.D.Disk.only_now n c.args.gate is_out c.args.self.now event c.args.deed kind b c.only.result c.only.ensures.memory c.in-Work.is
      (is_up_node g.D.Disk.state g.D.Disk.images g.met.D.Disk.only_now n c.args.gate is_out c.args.self.now b.held (sym c.is_up.ensures.up ∙ c.if-not-is_up.false)) c.only.ensures.lines;
  apart = memory_apart c.only.result c.only.ensures.memory;
}

pub returns-in-WorkAll : goal.returns-in-WorkAll
returns-in-WorkAll g c = record {
  promises = λ is_out event n kind b.
      work_all_promises g.D.Disk.state g.D.Disk.images g.met.D.Disk.only_now n c.args.gate is_out c.args.self.now event c.args.deed kind b c.only-in-WorkAll.result
      c.only-in-WorkAll.ensures.memory c.in-WorkAll.is
      (is_up_node g.D.Disk.state g.D.Disk.images g.met.D.Disk.only_now n c.args.gate is_out c.args.self.now b.held (sym c.is_up.ensures.up ∙ c.if-not-is_up.false))
      c.only-in-WorkAll.ensures.lines;
  apart = memory_apart c.only-in-WorkAll.result c.only-in-WorkAll.ensures.memory;
}

pub returns-in-Crash : goal.returns-in-Crash
returns-in-Crash g c = record {
  promises = λ is_out event n kind b.
      crash_as g.D.Disk.state g.D.Disk.images g.met.D.Disk.only_now n c.args.gate is_out c.args.self.now event c.args.deed kind c.in-Crash.is b c.crash_gate.result c.crash_gate.new.self
      (c.crash_gate.ensures.promises is_out n);
  apart = c.crash_gate.ensures.apart;
}
