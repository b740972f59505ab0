use Rattle.std.proofs.Common.{map, refl, ap}
use Rattle.disk_trait.specs.Fuse.{inner_of}
use Rattle.step_tables.specs.Travels.{send_of}
use Rattle.store_node.specs.Due.{fact_of}
use Rattle.store_node.proofs.Halting.{halts_up, halts_down, halted_node}
use Rattle.store_node.proofs.node.TableNode.halt.Goals as goal

pub returns-then-self-clause-halts : goal.returns-then-self-clause-halts
returns-then-self-clause-halts g c s t =
    let f = c.fall.ensures in
    halts_up g.D.Disk.state g.D.Disk.images (λ d image left. g.met.D.Disk.only_now (inner_of d) image left) c.args.self.now c.fall.new.self f.falls
    (record { told = ap (λ x. map fact_of x.items.items) f.facts; sent = ap (λ x. map send_of x.items.items) f.messages; same = f.same; declared = f.declared; state = f.state }) f.down s s.agenda refl t c.if-self.true

pub returns-else-self-clause-halts : goal.returns-else-self-clause-halts
returns-else-self-clause-halts g c s t = halts_down g.D.Disk.state g.D.Disk.images (λ d image left. g.met.D.Disk.only_now (inner_of d) image left) c.args.self.now s.disk s.agenda t c.if-self.false

pub returns-then-self-clause-node : goal.returns-then-self-clause-node
returns-then-self-clause-node g c = let n = c.requires in halted_node g.D.Disk.state g.D.Disk.images n.0 c.args.self.now c.fall.new.self (returns-then-self-clause-halts g c n.0 n.1)
