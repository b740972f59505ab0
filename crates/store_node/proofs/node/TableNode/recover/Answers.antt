use Rattle.std.proofs.Common.{◌++◌, map, length, Err, sym, ◌∙◌, ap, subst}
use Rattle.std.specs.Prelude.{option_to_list}
use Rattle.std.proofs.lemmas.Result.{err_from_is_err_and}
use Rattle.disk_trait.specs.Fuse.{inner_of}
use Rattle.step_tables.specs.Travels.{send_of}
use Rattle.store_node.specs.Due.{fact_of, facts_found}
use Rattle.store_node.proofs.Following.{less_room}
use Rattle.store_node.proofs.Starting.{room_two, one_at_most}
use Rattle.store_node.proofs.Handing.{put_told}
use Rattle.store_node.proofs.Beginning.{rests_down, whole_down, recover_short, recover_done, recover_failed}
use Rattle.store_node.specs.declared.fault.NodeFault.{NodeFault}
use Rattle.store_node.specs.Calls.{Recovers}
use Rattle.store_node.proofs.node.TableNode.recover.Goals as goal

pub returns-in_err-reserve-clause-recovers : goal.returns-in_err-reserve-clause-recovers
returns-in_err-reserve-clause-recovers g c s t =
    let p = err_from_is_err_and c.from_residual.result c.from_residual.ensures.1 in
    rw (p.1, p.2) (recover_short g.D.Disk.state g.D.Disk.images (λ d image left. g.met.D.Disk.only_now (inner_of d) image left) c.args.self.now c.reserve.new.self s.disk s.agenda
    c.reserve.ensures.same t c.requires.declared c.requires.down)

pub resume-requires-clause-up : goal.resume-requires-clause-up
resume-requires-clause-up g c = let n = c.requires.node in (rests_down g.D.Disk.state g.D.Disk.images c.args.self.now n.0.disk n.0.agenda n.1 c.requires.declared c.requires.down).up

pub resume-requires-clause-synced : goal.resume-requires-clause-synced
resume-requires-clause-synced g c = let n = c.requires.node in (rests_down g.D.Disk.state g.D.Disk.images c.args.self.now n.0.disk n.0.agenda n.1 c.requires.declared c.requires.down).synced

pub resume-requires-clause-sound : goal.resume-requires-clause-sound
resume-requires-clause-sound g c = let n = c.requires.node in (rests_down g.D.Disk.state g.D.Disk.images c.args.self.now n.0.disk n.0.agenda n.1 c.requires.declared c.requires.down).sound

pub resume-requires-clause-idle : goal.resume-requires-clause-idle
resume-requires-clause-idle g c = let n = c.requires.node in (rests_down g.D.Disk.state g.D.Disk.images c.args.self.now n.0.disk n.0.agenda n.1 c.requires.declared c.requires.down).idle

pub resume-requires-clause-whole : goal.resume-requires-clause-whole
resume-requires-clause-whole g c = let n = c.requires.node in whole_down g.D.Disk.state g.D.Disk.images c.args.self.now n.0.disk n.0.agenda n.1 c.requires.declared c.requires.down

pub put_if-requires : goal.put_if-requires
put_if-requires g c =
    let o = c.found-fact.result in
    less_room c.reserve.new.self (length (option_to_list o)) 1 (room_two c.reserve.new.self (length (option_to_list o)) (one_at_most o) c.in_ok-reserve.ensures.room)

pub returns-in-Ok-clause-recovers : goal.returns-in-Ok-clause-recovers
returns-in-Ok-clause-recovers g c s t =
    let old = c.args.self.now in
    let o = c.found-fact.result in
    let room = c.put_if.ensures.room 1 (room_two c.reserve.new.self (length (option_to_list o)) (one_at_most o) c.in_ok-reserve.ensures.room) in
    let told = put_told fact_of c.reserve.new.self.items.items c.put_if.new.self.items.items o (facts_found old.table c.in-Ok.resumed.recovery) c.put_if.ensures.added c.found-fact.ensures ∙ ap (λ l. map fact_of l ++ facts_found old.table c.in-Ok.resumed.recovery) c.reserve.ensures.same in
    recover_done g.D.Disk.state g.D.Disk.images old c.reserve.new.self c.put_if.new.self s.disk s.agenda t c.requires.declared c.requires.down c.resume.new.table c.in-Ok.resumed.recovery c.in-Ok.resumed.state c.in-Ok.ensures.stage c.in-Ok.ensures.begins room told

pub returns-in-Err-clause-recovers : goal.returns-in-Err-clause-recovers
returns-in-Err-clause-recovers g c s t =
    let old = c.args.self.now in
    let f = c.fall.ensures in
    subst (λ (f : NodeFault). Recovers g.D.Disk.state g.D.Disk.images s old c.fall.new.self (Err f)) (sym c.from.ensures)
    (recover_failed g.D.Disk.state g.D.Disk.images old s.disk s.agenda t c.requires.declared c.requires.down (record old { devs = c.resume.new.table; facts = c.reserve.new.self })
    c.fall.new.self c.in-Err.fault c.in-Err.ensures.begins f.falls
    (record { told = ap (λ x. map fact_of x.items.items) f.facts ∙ ap (map fact_of) c.reserve.ensures.same; sent = ap (λ x. map send_of x.items.items) f.messages; same = record { store = f.same.store; table = f.same.table; schema = f.same.schema }; declared = f.declared; state = f.state }) f.down)
