use Rattle.std.proofs.Common.{Result, Ok, Err, refl, sym, subst}
use Rattle.std.proofs.lemmas.Result.{err_from_is_err_and}
use Rattle.disk_trait.specs.Fuse.{inner_of, behind}
use Rattle.store_commit.specs.declared.fault.CommitFault.{CommitFault}
use Rattle.store_commit.specs.Standing.{writes_of}
use Rattle.step_tables.specs.StoreMoves.{torn_answered}
use Rattle.step_tables.specs.Travels.{torn_of}
use Rattle.step_tables.specs.declared.message.TornRowResponse.{TornRowResponse}
use Rattle.store_node.specs.Calls.{Answers}
use Rattle.store_node.specs.declared.fault.NodeFault.{NodeFault}
use Rattle.store_node.proofs.Asks.{serves_only}
use Rattle.store_node.proofs.Onlys.{ready_looked}
use Rattle.store_node.proofs.Handing.{devices_up, node_ready, node_hidden}
use Rattle.store_node.proofs.Answering.{never_spent, pushed, shortly, refusedly, pulls_torn}
use Rattle.store_node.proofs.node.TableNode.answer_torn.Goals as goal

pub returns-in_err-reserve-clause-answers : goal.returns-in_err-reserve-clause-answers
returns-in_err-reserve-clause-answers g c s t =
    let p = err_from_is_err_and c.from_residual.result c.from_residual.ensures.1 in
    rw (p.1, p.2) (shortly g.D.Disk.state g.D.Disk.images (λ f image left. g.met.D.Disk.only_now (inner_of f) image left) c.args.self.now c.requires.up c.requires.idle
    (λ disk. torn_answered disk c.args.from (torn_of c.args.request.now)) (λ _. ⊥) c.args.self.now.facts c.reserve.new.self refl c.reserve.ensures.same s t)

pub pull_torn-requires : goal.pull_torn-requires
pull_torn-requires g c =
    let old = c.args.self.now in
    let n = c.requires.node in
    record {
      up = devices_up g.D.Disk.state g.D.Disk.images old n.0.disk n.0.agenda n.1;
      looked = ready_looked (behind g.D.Disk.state) (λ f. g.D.Disk.images (inner_of f)) old.devs (writes_of old.devs) (node_ready g.D.Disk.state g.D.Disk.images old n.0.disk n.0.agenda n.1 c.requires.up);
      hidden = node_hidden g.D.Disk.state g.D.Disk.images old n.0.disk n.0.agenda n.1 c.requires.up;
    }

pub returns-in-Ok-clause-answers : goal.returns-in-Ok-clause-answers
returns-in-Ok-clause-answers g c s t =
    let old = c.args.self.now in
    let ready = node_ready g.D.Disk.state g.D.Disk.images old s.disk s.agenda t c.requires.up in
    pulls_torn g.D.Disk.state g.D.Disk.images (λ f image left. g.met.D.Disk.only_now (inner_of f) image left) old c.requires.up c.requires.idle
    c.pull_torn.new.table old.facts c.put.new.self c.args.from c.args.request.now c.in-Ok.response
    (serves_only (behind g.D.Disk.state) (λ f. g.D.Disk.images (inner_of f)) old.devs c.pull_torn.new.table (Ok c.in-Ok.response) ready c.in-Ok.ensures.reads)
    c.in-Ok.ensures.reads.asks.agenda c.in-Ok.ensures.answer refl (pushed _ _ _ _ c.put.ensures.added c.reserve.ensures.same) s t

pub returns-in-Err-clause-answers : goal.returns-in-Err-clause-answers
returns-in-Err-clause-answers g c s t =
    let old = c.args.self.now in
    let r : Result TornRowResponse CommitFault = Err c.in-Err.fault in
    let ready = node_ready g.D.Disk.state g.D.Disk.images old s.disk s.agenda t c.requires.up in
    subst (λ (f : NodeFault). Answers g.D.Disk.state g.D.Disk.images s (torn_answered s.disk c.args.from (torn_of c.args.request.now)) ⊥ old c.fail.new.self (Err f)) (sym c.fail.ensures.fault)
    (refusedly g.D.Disk.state g.D.Disk.images (λ f image left. g.met.D.Disk.only_now (inner_of f) image left) old c.requires.up c.requires.idle c.pull_torn.new.table old.facts c.reserve.new.self
    (λ disk. torn_answered disk c.args.from (torn_of c.args.request.now)) (λ _. ⊥) c.fail.new.self {T = TornRowResponse} c.in-Err.fault
    (λ _ _ is. never_spent c.in-Err.fault c.in-Err.ensures.reads.asks.only is)
    (serves_only (behind g.D.Disk.state) (λ f. g.D.Disk.images (inner_of f)) old.devs c.pull_torn.new.table r ready c.in-Err.ensures.reads)
    refl c.reserve.ensures.same c.fail.ensures.disk c.fail.ensures.other s t)
