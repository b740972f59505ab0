use Rattle.std.proofs.Common.{map, ap}
use Rattle.step_tables.specs.Lines.{fact_of}
use Rattle.step_tables.specs.Travels.{send_of}
use Rattle.client_node.proofs.Declaring.{tables_open, declare_done, declare_failed}
use Rattle.client_node.proofs.Rooms.{devices_up}
use Rattle.client_node.proofs.node.ClientNode.make.Goals as goal

pub make_tables-requires-clause-up : goal.make_tables-requires-clause-up
make_tables-requires-clause-up g c = let n = c.requires.node in devices_up g.D.Disk.state c.args.self.now n.0.disk n.0.agenda n.1

pub make_tables-requires-clause-opens : goal.make_tables-requires-clause-opens
make_tables-requires-clause-opens g c =
    let n = c.requires.node in
    let is = c.as_slice.ensures.value in
    rw is (tables_open g.D.Disk.state c.args.self.now n.0.disk n.0.agenda n.1 c.requires.undeclared)

pub returns-in-Ok-clause-declares : goal.returns-in-Ok-clause-declares
returns-in-Ok-clause-declares g c s t =
    let is = c.as_slice.ensures.value in
    declare_done g.D.Disk.state c.args.self.now s.disk s.agenda t c.requires.undeclared c.make_tables.new.devs c.nothing.result c.nothing.ensures.facts c.nothing.ensures.messages (rw (← is) c.in-Ok.ensures)

pub returns-in-Err-clause-declares : goal.returns-in-Err-clause-declares
returns-in-Err-clause-declares g c s t =
    let is = c.as_slice.ensures.value in
    let old = c.args.self.now in
    let f = c.fall.ensures in
    declare_failed g.D.Disk.state old s.disk s.agenda t c.requires.undeclared g.D.Disk.images (record old { devs = c.make_tables.new.devs }) c.fall.new.self c.in-Err.fault (rw (← is) c.in-Err.ensures) f.falls
    (record { told = ap (λ x. map fact_of x.items.items) f.facts; sent = ap (λ x. map send_of x.items.items) f.messages; same = record { number = f.same.number; linked = f.same.linked }; declared = f.declared }) f.down f.tables
