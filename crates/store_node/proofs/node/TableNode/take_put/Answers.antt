use Rattle.std.proofs.Common.{Result, Ok, Err, refl, sym, ap, subst}
use Rattle.std.proofs.lemmas.Result.{err_from_is_err_and}
use Rattle.disk_trait.specs.Fuse.{inner_of, behind}
use Rattle.store_commit.specs.declared.fault.CommitFault.{CommitFault}
use Rattle.store_node.specs.Calls.{Answers, put_step}
use Rattle.store_node.specs.Sides.{put_of}
use Rattle.store_node.specs.declared.fault.NodeFault.{NodeFault}
use Rattle.store_node.proofs.Asks.{serves_takes}
use Rattle.store_node.proofs.Handing.{node_ready}
use Rattle.store_node.proofs.Answering.{ready_idle, shortly, refusedly, puts_beside}
use Rattle.store_node.proofs.node.TableNode.take_put.Goals as goal

pub returns-in_err-reserve-clause-answers : goal.returns-in_err-reserve-clause-answers
returns-in_err-reserve-clause-answers g c s t =
    let old = c.args.self.now in
    let p = err_from_is_err_and c.from_residual.result c.from_residual.ensures.1 in
    rw (p.1, p.2) (shortly g.D.Disk.state g.D.Disk.images (λ f image left. g.met.D.Disk.only_now (inner_of f) image left) old c.requires.up c.requires.idle
    (λ disk. put_step old.table disk (put_of c.args.put)) (λ _. ⊥) c.reserve.new.self old.messages c.reserve.ensures.same refl s t)

pub begin_beside-requires-clause-ready : goal.begin_beside-requires-clause-ready
begin_beside-requires-clause-ready g c up = let n = c.requires.node in node_ready g.D.Disk.state g.D.Disk.images c.args.self.now n.0.disk n.0.agenda n.1 c.requires.up

pub begin_beside-requires-clause-spelled : goal.begin_beside-requires-clause-spelled
begin_beside-requires-clause-spelled g c = c.requires.node.1.spelled

pub begin_beside-requires-clause-short : goal.begin_beside-requires-clause-short
begin_beside-requires-clause-short g c = c.requires.node.1.short

pub returns-in-Ok-clause-answers : goal.returns-in-Ok-clause-answers
returns-in-Ok-clause-answers g c s t =
    let old = c.args.self.now in
    let ready = ready_idle g.D.Disk.state g.D.Disk.images (λ f image left. g.met.D.Disk.only_now (inner_of f) image left) old c.requires.up c.requires.idle (node_ready g.D.Disk.state g.D.Disk.images old s.disk s.agenda t c.requires.up) in
    let k = c.in-Ok.ensures in
    puts_beside g.D.Disk.state g.D.Disk.images (λ f image left. g.met.D.Disk.only_now (inner_of f) image left) old c.requires.up c.requires.idle c.begin_beside.new.table c.reserve.new.self old.messages c.args.put tt
    (serves_takes (behind g.D.Disk.state) (λ f. g.D.Disk.images (inner_of f)) old.devs c.begin_beside.new.table ⊥ _ (Ok tt) ready c.requires.idle k.takes k.scanned (λ is. absurd cc))
    k.takes.taken c.reserve.ensures.same c.in_ok-reserve.ensures.room s t

pub returns-in-Err-clause-answers : goal.returns-in-Err-clause-answers
returns-in-Err-clause-answers g c s t =
    let old = c.args.self.now in
    let ready = ready_idle g.D.Disk.state g.D.Disk.images (λ f image left. g.met.D.Disk.only_now (inner_of f) image left) old c.requires.up c.requires.idle (node_ready g.D.Disk.state g.D.Disk.images old s.disk s.agenda t c.requires.up) in
    let k = c.in-Err.ensures in
    let r : Result (Unit {0}) CommitFault = Err c.in-Err.fault in
    subst (λ (f : NodeFault). Answers g.D.Disk.state g.D.Disk.images s (put_step old.table s.disk (put_of c.args.put)) ⊥ old c.fail.new.self (Err f)) (sym c.fail.ensures.fault)
    (refusedly g.D.Disk.state g.D.Disk.images (λ f image left. g.met.D.Disk.only_now (inner_of f) image left) old c.requires.up c.requires.idle c.begin_beside.new.table c.reserve.new.self old.messages
    (λ disk. put_step old.table disk (put_of c.args.put)) (λ _. ⊥) c.fail.new.self {T = Unit {0}} c.in-Err.fault (λ _ _ is. (k.takes.spent (ap (λ (f : CommitFault). Err f) is)).2)
    (serves_takes (behind g.D.Disk.state) (λ f. g.D.Disk.images (inner_of f)) old.devs c.begin_beside.new.table ⊥ _ r ready c.requires.idle k.takes k.scanned (λ is. absurd (k.takes.spent is).2))
    c.reserve.ensures.same refl c.fail.ensures.disk c.fail.ensures.other s t)
