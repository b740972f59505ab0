use Rattle.std.proofs.Common.{[]}
use Rattle.stab_base.specs.declared.node.Node.TheVariants as nodes
use Rattle.step_tables.specs.Facts as facts
use Rattle.table_model.specs.declared.line.Answer.TheVariants as answers
use Rattle.world_tables.specs.World.{crashed}
use Rattle.world_tables.specs.Faults.{fails_crash}
use Rattle.node_steps.specs.Calls.{with_calls}
use Rattle.node_steps.proofs.Counted.{client_done}
use Rattle.node_steps.proofs.Keeping.{crashed_keeps}
use Rattle.node_steps.proofs.Clients.{crash_called, crash_rose, crash_same, told_ok, plans_told}
use Rattle.node_steps.proofs.world.World.crash_client.Goals as goal

pub returns-clause-done : goal.returns-clause-done
returns-clause-done g c w h =
    let k = c.crash.ensures.crashed w h.clients in let mid = c.crash.new.self in let old = c.args.self.now in
    client_done g.D.Disk.state w (λ lucks. crashed w c.args.calls lucks.calls (nodes.Client c.args.client)) (λ lucks. crashed w c.args.calls lucks.calls (nodes.Client c.args.client))
    (λ lucks. fails_crash w lucks.calls (nodes.Client c.args.client)) (λ lucks. fails_crash w lucks.calls (nodes.Client c.args.client)) c.tell_clients.result old c.tell_clients.new.self
    (with_calls k.0) mid c.args.client facts.Done
    (told_ok g.D.Disk.state w old h (crashed w c.args.calls k.0 (nodes.Client c.args.client)) [] (crashed_keeps w c.args.client c.args.calls k.0) mid answers.Done
    (crash_called g.D.Disk.state w c.args.client c.args.calls old.clients mid k.0 k.1) c.tell_clients.new.self c.tell_clients.result c.tell_clients.ensures.told) c.tell_clients.ensures.told
    (crash_rose g.D.Disk.state w c.args.client c.args.calls old.clients mid k.0 k.2) (crash_same g.D.Disk.state w c.args.client c.args.calls old.clients mid k.0 k.2)

pub returns-clause-plans : goal.returns-clause-plans
returns-clause-plans g c n plans =
    plans_told g.D.Disk.state c.crash.new.self c.tell_clients.new.self n c.tell_clients.ensures.nodes (c.crash.ensures.plans n plans)
