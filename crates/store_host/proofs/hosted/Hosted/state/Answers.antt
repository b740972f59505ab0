use Rattle.std.proofs.Common.{sym, ◌∙◌}
use Rattle.store_host.proofs.Hosting.{up_state, down_state}
use Rattle.store_host.proofs.hosted.Hosted.state.Goals as goal

pub state-requires : goal.state-requires
state-requires g c = record { up = sym c.is_up.ensures ∙ c.if-is_up.true }

pub returns-then-is_up : goal.returns-then-is_up
returns-then-is_up g c s t = up_state g.D.Disk.state c.args.self.now.node s.disk s.agenda t (sym c.is_up.ensures ∙ c.if-is_up.true) c.state.result (c.state.ensures s t)

pub returns : goal.returns
returns g c s t = down_state g.D.Disk.state c.args.self.now.node s.disk s.agenda t (sym c.is_up.ensures ∙ c.if-is_up.false)
