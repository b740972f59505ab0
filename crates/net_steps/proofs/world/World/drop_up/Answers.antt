use Rattle.std.proofs.Common.{◌∙◌, List, Option, Err, refl, ap}
use Rattle.std.proofs.lemmas.Result.{err_from_is_err_and}
use Rattle.stab_base.specs.declared.node.Node.TheVariants as nodes
use Rattle.table_model.specs.declared.event.Event.TheVariants as events
use Rattle.table_model.specs.declared.line.TextLine.{TextLine}
use Rattle.step_tables.specs.ClientMoves.{Client}
use Rattle.world_tables.specs.World.{client_at}
use Rattle.gated_tables.specs.Net.{to_give}
use Rattle.journal_host.specs.Calls.{has_table}
use Rattle.net_steps.proofs.Altered.{up_stood}
use Rattle.net_steps.proofs.Brought.{send_apart}
use Rattle.net_steps.proofs.Carried.{wire_of}
use Rattle.net_steps.proofs.Passing.{to_send}
use Rattle.net_steps.proofs.Promised.{memory_apart}
use Rattle.net_steps.proofs.Relinked.{some_of}
use Rattle.net_steps.proofs.Requested.{drop_fallen, drop_read, fall, fallen_promises, found_promises, memory_promises, plan_after, read_up, up_here}
use Rattle.net_steps.proofs.world.World.drop_up.Goals as goal

pub has_opened-requires : goal.has_opened-requires
has_opened-requires g c =
    let k = c.requires.held in
    record { held = (k.1.wire, wire_of k.1 k.3.reached, k.3.held.wire, up_here (client_at k.1.wire.world c.args.client) k.4 k.3.up) }

pub drop_by_read-requires : goal.drop_by_read-requires
drop_by_read-requires g c =
    let k = c.requires.held in
    let x = k.3 in
    let read = rw c.in-Found.is at (c.in_ok-is_open.ensures.read k.1.wire k.0 (wire_of k.1 x.reached) x.held.wire (up_here (client_at k.1.wire.world c.args.client) k.4 x.up) x.out) in
    record { here = (k.0, k.1, read_up g.D.Disk.state g.D.Disk.images k.1 k.0 c.args.client c.args.table c.args.self.now x c.has_opened.new.self c.in-Found.is_open read, k.4) }

pub carry-requires : goal.carry-requires
carry-requires g c =
    let k = c.requires.held in
    let x = k.3 in
    let event = events.Drop (nodes.Client c.args.client) c.args.table in
    let read = rw c.in-Fallen.is at (c.in_ok-is_open.ensures.read k.1.wire k.0 (wire_of k.1 x.reached) x.held.wire (up_here (client_at k.1.wire.world c.args.client) k.4 x.up) x.out) in (
      k.1,
      k.1.wire,
      fall g.D.Disk.state g.D.Disk.images k.1 k.0 c.args.client c.args.table c.args.self.now x c.has_opened.new.self c.in-Fallen.lines read,
      to_send g.D.Disk.state g.D.Disk.images k.1 event k.0 k.0 c.args.self.now (up_stood g.D.Disk.state k.0 c.args.client k.1 c.args.self.now x) c.in-Fallen.lines c.has_opened.new.self read.step,
    )

pub returns-in_err-is_open-clause-promises : goal.returns-in_err-is_open-clause-promises
returns-in_err-is_open-clause-promises g c is_out n at x there =
    let p = err_from_is_err_and c.from_residual.result c.from_residual.ensures.1 in
    let new = record c.args.self.now { wire = c.has_opened.new.self } in
    rw p.1 (memory_promises g.D.Disk.state g.D.Disk.images n (events.Drop (nodes.Client c.args.client) c.args.table) is_out c.args.self.now new (λ lucks. refl) p.0
    (p.2 ∙ c.in_err-is_open.ensures.memory) (λ m below. plan_after g.D.Disk.state m new (c.in_err-is_open.ensures.plans m below)))

pub returns-in_err-is_open-clause-apart : goal.returns-in_err-is_open-clause-apart
returns-in_err-is_open-clause-apart g c =
    let p = err_from_is_err_and c.from_residual.result c.from_residual.ensures.1 in
    rw p.1 (memory_apart {T = List TextLine} (Err p.0) (p.2 ∙ c.in_err-is_open.ensures.memory))

pub returns-in-Found-clause-promises : goal.returns-in-Found-clause-promises
returns-in-Found-clause-promises g c is_out n at x there =
    let node = some_of (client_at n.wire.world c.args.client) there in
    let read = rw c.in-Found.is at (c.in_ok-is_open.ensures.read n.wire is_out (wire_of n x.reached) x.held.wire (up_here (client_at n.wire.world c.args.client) there x.up) x.out) in
    let here = read_up g.D.Disk.state g.D.Disk.images n is_out c.args.client c.args.table c.args.self.now x c.has_opened.new.self c.in-Found.is_open read in
    found_promises g.D.Disk.state g.D.Disk.images n is_out c.args.client c.args.table c.args.self.now x c.has_opened.new.self c.in-Found.is_open read c.drop_by_read.new.self
    (λ lucks. to_give n c.args.client c.args.table lucks node.0) (λ lucks quiet. drop_read n c.args.client c.args.table lucks node.0 node.1 x.up quiet) c.drop_by_read.result
    (c.drop_by_read.ensures is_out n node.0 here node.1 (read.found_is ∙ ap (λ (o : Option Client). has_table o c.args.table) node.1)) c.in_ok-is_open.ensures.plans

pub returns-in-Found-clause-apart : goal.returns-in-Found-clause-apart
returns-in-Found-clause-apart g c =
    let k = c.requires.held in
    let x = k.3 in
    let node = some_of (client_at k.1.wire.world c.args.client) k.4 in
    let read = rw c.in-Found.is at (c.in_ok-is_open.ensures.read k.1.wire k.0 (wire_of k.1 x.reached) x.held.wire (up_here (client_at k.1.wire.world c.args.client) k.4 x.up) x.out) in
    let here = read_up g.D.Disk.state g.D.Disk.images k.1 k.0 c.args.client c.args.table c.args.self.now x c.has_opened.new.self c.in-Found.is_open read in
    send_apart c.drop_by_read.result
    (c.drop_by_read.ensures k.0 k.1 node.0 here node.1 (read.found_is ∙ ap (λ (o : Option Client). has_table o c.args.table) node.1)).only

pub returns-in-Fallen-clause-promises : goal.returns-in-Fallen-clause-promises
returns-in-Fallen-clause-promises g c is_out n at x there =
    let event = events.Drop (nodes.Client c.args.client) c.args.table in
    let node = some_of (client_at n.wire.world c.args.client) there in
    let read = rw c.in-Fallen.is at (c.in_ok-is_open.ensures.read n.wire is_out (wire_of n x.reached) x.held.wire (up_here (client_at n.wire.world c.args.client) there x.up) x.out) in
    let s = fall g.D.Disk.state g.D.Disk.images n is_out c.args.client c.args.table c.args.self.now x c.has_opened.new.self c.in-Fallen.lines read in
    let to = to_send g.D.Disk.state g.D.Disk.images n event is_out is_out c.args.self.now (up_stood g.D.Disk.state is_out c.args.client n c.args.self.now x) c.in-Fallen.lines c.has_opened.new.self
    read.step in
    fallen_promises g.D.Disk.state g.D.Disk.images n is_out c.args.client c.args.table c.args.self.now x c.has_opened.new.self c.in-Fallen.lines read
    (drop_fallen n c.args.client c.args.table read.step.lucks node.0 node.1 x.up read.failed) c.carry.new.self c.carry.ensures.same c.carry.result
    (c.carry.ensures.done n n.wire s to) (c.carry.ensures.over n n.wire s to) c.carry.ensures.only c.in_ok-is_open.ensures.plans

pub returns-in-Fallen-clause-apart : goal.returns-in-Fallen-clause-apart
returns-in-Fallen-clause-apart g c = send_apart c.carry.result c.carry.ensures.only
