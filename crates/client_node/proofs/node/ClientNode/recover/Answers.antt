use Rattle.std.proofs.Common.{map, ap, ◌∙◌}
use Rattle.disk_trait.specs.Fuse.{inner_of}
use Rattle.step_tables.specs.Lines.{fact_of}
use Rattle.step_tables.specs.Travels.{send_of}
use Rattle.client_node.proofs.Resuming.{rests_down, start_done, start_failed}
use Rattle.client_node.proofs.Rooms.{devices_up}
use Rattle.client_node.proofs.node.ClientNode.recover.Goals as goal

pub resume-resumed-requires-clause-up : goal.resume-resumed-requires-clause-up
resume-resumed-requires-clause-up g c = let n = c.requires.node in devices_up g.D.Disk.state c.args.self.now n.0.disk n.0.agenda n.1

pub resume-resumed-requires-clause-synced : goal.resume-resumed-requires-clause-synced
resume-resumed-requires-clause-synced g c = let n = c.requires.node in (rests_down g.D.Disk.state g.D.Disk.images (λ f image left. g.met.D.Disk.only_now (inner_of f) image left) c.args.self.now n.0.disk n.0.agenda n.1 c.requires.down).1.synced c.requires.declared

pub resume-resumed-requires-clause-sound : goal.resume-resumed-requires-clause-sound
resume-resumed-requires-clause-sound g c = let n = c.requires.node in (rests_down g.D.Disk.state g.D.Disk.images (λ f image left. g.met.D.Disk.only_now (inner_of f) image left) c.args.self.now n.0.disk n.0.agenda n.1 c.requires.down).1.sound c.requires.declared

pub resume-resumed-requires-clause-idle : goal.resume-resumed-requires-clause-idle
resume-resumed-requires-clause-idle g c = let n = c.requires.node in (rests_down g.D.Disk.state g.D.Disk.images (λ f image left. g.met.D.Disk.only_now (inner_of f) image left) c.args.self.now n.0.disk n.0.agenda n.1 c.requires.down).1.idle

pub returns-in-Ok-clause-starts : goal.returns-in-Ok-clause-starts
returns-in-Ok-clause-starts g c s t =
    let e = c.in-Ok.ensures in
    start_done g.D.Disk.state g.D.Disk.images (λ f image left. g.met.D.Disk.only_now (inner_of f) image left) c.args.self.now s.disk s.agenda t c.requires.declared c.requires.down c.resume-resumed.new.devs c.in-Ok.owed c.resume-resumed.new.facts e.begins e.owes e.room c.requires.quiet e.told c.resume-resumed.new.waiting e.noted

pub returns-in-Err-clause-starts : goal.returns-in-Err-clause-starts
returns-in-Err-clause-starts g c s t =
    let old = c.args.self.now in
    let f = c.fall.ensures in
    start_failed g.D.Disk.state g.D.Disk.images (λ f image left. g.met.D.Disk.only_now (inner_of f) image left) old s.disk s.agenda t c.requires.declared c.requires.down (record old { devs = c.resume-resumed.new.devs; facts = c.resume-resumed.new.facts; waiting = c.resume-resumed.new.waiting }) c.fall.new.self c.in-Err.fault c.in-Err.ensures.begins f.falls
    (record { told = ap (λ x. map fact_of x.items.items) f.facts ∙ ap (map fact_of) c.in-Err.ensures.kept; sent = ap (λ x. map send_of x.items.items) f.messages; same = record { number = f.same.number; linked = f.same.linked }; declared = f.declared }) f.down
