use Rattle.std.proofs.Common.{◌≡◌, ◌+◌, ◌++◌, ℕ, length, map, Result, Ok, Err, refl, sym, ◌∙◌, ap, subst}
use Rattle.std.specs.Prelude.{IfOk}
use Rattle.std.specs.Vec.{vec_len}
use Rattle.std.proofs.lemmas.Result.{err_from_is_err_and}
use Rattle.disk_trait.specs.Fuse.{behind, inner_of}
use Rattle.gathering.specs.Room.{HasRoom, HasSpare}
use Rattle.step_tables.specs.Travels.{send_of}
use Rattle.client_node.specs.declared.fault.CallFault.{CallFault}
use Rattle.client_node.specs.declared.node.ClientNode.{ClientNode}
use Rattle.client_node.specs.declared.owed.Owed.{Owed}
use Rattle.client_node.specs.declared.owed.When.TheVariants.{AtCommit}
use Rattle.client_node.specs.Begins.{BeginsPlan}
use Rattle.client_node.specs.Looks.{Serves}
use Rattle.client_node.proofs.CarriedOut.{more_none, amid, short, not_begun, begun_serves, carried, refused_of, done_of}
use Rattle.client_node.proofs.node.ClientNode.carry_out.Goals as goal

pub returns-in_err-reserve-clause-carries : goal.returns-in_err-reserve-clause-carries
returns-in_err-reserve-clause-carries g c =
    let old = c.args.self.now in
    let p = err_from_is_err_and c.from_residual.result c.from_residual.ensures.1 in
    let a = amid old c.reserve.new.self old.messages old.waiting old.devs c.in_err-reserve.ensures.same refl c.in_err-reserve.ensures.kept (λ n h. h) (more_none old.waiting) in
    rw (p.1, p.2) (refused_of old g.D.Disk.state g.D.Disk.images (λ f image left. g.met.D.Disk.only_now (inner_of f) image left) _ c.args.planned (map send_of c.args.again.items) _
    (short old g.D.Disk.state g.D.Disk.images (λ f image left. g.met.D.Disk.only_now (inner_of f) image left) (record old { facts = c.reserve.new.self }) a refl c.requires.up c.requires.ready _ refl))

pub returns-in_err-reserve-2-clause-carries : goal.returns-in_err-reserve-2-clause-carries
returns-in_err-reserve-2-clause-carries g c =
    let old = c.args.self.now in
    let p = err_from_is_err_and c.from_residual-in_err-reserve-2.result c.from_residual-in_err-reserve-2.ensures.1 in
    let a = amid old c.reserve.new.self c.reserve-2.new.self old.waiting old.devs c.in_ok-reserve.ensures.same c.in_err-reserve-2.ensures.same c.in_ok-reserve.ensures.kept c.in_err-reserve-2.ensures.kept (more_none old.waiting) in
    rw (p.1, p.2) (refused_of old g.D.Disk.state g.D.Disk.images (λ f image left. g.met.D.Disk.only_now (inner_of f) image left) _ c.args.planned (map send_of c.args.again.items) _
    (short old g.D.Disk.state g.D.Disk.images (λ f image left. g.met.D.Disk.only_now (inner_of f) image left) (record old { facts = c.reserve.new.self; messages = c.reserve-2.new.self }) a refl c.requires.up c.requires.ready _ refl))

pub returns-in_err-note_plan-clause-carries : goal.returns-in_err-note_plan-clause-carries
returns-in_err-note_plan-clause-carries g c =
    let old = c.args.self.now in
    let p = err_from_is_err_and c.from_residual-in_err-note_plan.result c.from_residual-in_err-note_plan.ensures.1 in
    let a = amid old c.reserve.new.self c.reserve-2.new.self c.note_plan.new.waiting old.devs c.in_ok-reserve.ensures.same c.in_ok-reserve-2.ensures.same c.in_ok-reserve.ensures.kept c.in_ok-reserve-2.ensures.kept c.in_err-note_plan.ensures.more in
    rw (p.1, p.2) (refused_of old g.D.Disk.state g.D.Disk.images (λ f image left. g.met.D.Disk.only_now (inner_of f) image left) _ c.args.planned (map send_of c.args.again.items) _
    (short old g.D.Disk.state g.D.Disk.images (λ f image left. g.met.D.Disk.only_now (inner_of f) image left) (record old { facts = c.reserve.new.self; messages = c.reserve-2.new.self; waiting = c.note_plan.new.waiting }) a refl c.requires.up c.requires.ready _ refl))

pub returns-in_err-self-clause-carries : goal.returns-in_err-self-clause-carries
returns-in_err-self-clause-carries g c =
    let old = c.args.self.now in
    let p = err_from_is_err_and c.from_residual-in_err-self.result c.from_residual-in_err-self.ensures.1 in
    let a = amid old c.reserve.new.self c.reserve-2.new.self c.note_plan.new.waiting c.begin-begun.new.devs c.in_ok-reserve.ensures.same c.in_ok-reserve-2.ensures.same c.in_ok-reserve.ensures.kept c.in_ok-reserve-2.ensures.kept c.in_ok-note_plan.ensures.more in
    let k = c.begin-begun.ensures in
    let e = c.in_err-self.ensures in
    rw (p.1, p.2) (refused_of old g.D.Disk.state g.D.Disk.images (λ f image left. g.met.D.Disk.only_now (inner_of f) image left) _ c.args.planned (map send_of c.args.again.items) _
    (not_begun old g.D.Disk.state g.D.Disk.images (λ f image left. g.met.D.Disk.only_now (inner_of f) image left) (record old { facts = c.reserve.new.self; messages = c.reserve-2.new.self; waiting = c.note_plan.new.waiting; devs = c.begin-begun.new.devs }) _ a c.begin-begun.result c.in_err-self.field-0.0 e.same k.serves k.refused (λ d. e.disk (e.same ∙ d)) (λ n. e.other (λ d. n (sym e.same ∙ d)))))

pub returns-clause-carries : goal.returns-clause-carries
returns-clause-carries g c =
    let old = c.args.self.now in
    let st = g.D.Disk.state in
    let im = g.D.Disk.images in
    let x = c.args.planned in
    let q = c.in_ok-self.ensures in
    let owed = c.in_ok-self.field-0 in
    let b = c.begin-begun in
    let is = q.other (λ no. cc) in
    let begins = subst (λ (r : Result Owed CallFault). IfOk r (λ owed. BeginsPlan (λ f. behind st f) old.devs b.new.devs x.plan)) (sym q.same) b.ensures.begins in
    let when = subst (λ (r : Result Owed CallFault). IfOk r (λ owed. owed.when ≡ AtCommit)) (sym q.same) b.ensures.when in
    let tells = subst (λ (r : Result Owed CallFault). IfOk r (λ owed. owed.facts.items ≡ x.facts.items)) (sym q.same) b.ensures.facts in
    let sends = subst (λ (r : Result Owed CallFault). IfOk r (λ owed. owed.messages.items ≡ x.messages.items)) (sym q.same) b.ensures.messages in
    let fact_room = subst (λ (n : ℕ). HasRoom c.reserve.new.self n) (c.len.ensures ∙ x.facts.ok.0) c.in_ok-reserve.ensures.room in
    let count : c.len-2.result + c.len-3.result ≡ vec_len c.args.again + length x.messages.items = ap (λ (n : ℕ). n + c.len-3.result) c.len-2.ensures ∙ ap (λ (n : ℕ). vec_len c.args.again + n) (c.len-3.ensures ∙ x.messages.ok.0) in
    let spare = subst (λ (n : ℕ). HasSpare c.reserve-2.new.self n) count c.in_ok-reserve-2.ensures.spare in
    let there = subst (λ (n : ClientNode g.row.D.Denot). HasSpare n.messages (vec_len c.args.again + length x.messages.items)) (sym is) spare in
    let message_room = c.put_all.ensures.room (length x.messages.items) there in
    let added = c.put_all.ensures.added ∙ ap (λ (n : ClientNode g.row.D.Denot). n.messages.items.items ++ c.args.again.items) is in
    let a = amid old c.reserve.new.self c.reserve-2.new.self c.note_plan.new.waiting b.new.devs c.in_ok-reserve.ensures.same c.in_ok-reserve-2.ensures.same c.in_ok-reserve.ensures.kept c.in_ok-reserve-2.ensures.kept c.in_ok-note_plan.ensures.more in
    let k = carried old st im (λ f image left. g.met.D.Disk.only_now (inner_of f) image left) c.reserve.new.self c.reserve-2.new.self c.put_all.new.self c.note_plan.new.waiting b.new.devs x owed c.args.again.items c.settle.new.self is a c.in_ok-reserve-2.ensures.same added begins when tells sends fact_room message_room c.in_ok-note_plan.ensures.row in
    let serves = begun_serves old st im (λ f image left. g.met.D.Disk.only_now (inner_of f) image left) b.new.devs b.result owed q.same b.ensures.serves in
    done_of old st im (λ f image left. g.met.D.Disk.only_now (inner_of f) image left) _ x (map send_of c.args.again.items) k (subst (λ (n : ClientNode g.row.D.Denot). Serves {T = Unit {0}} (λ f. behind st f) (λ f. im (inner_of f)) old.devs n.devs (Ok tt)) (sym is) serves)
