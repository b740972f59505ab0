use Rattle.std.proofs.Common.{◌≡◌, length, None, Err, refl, sym, ap, subst}
use Rattle.std.proofs.lemmas.Result.{err_from_is_err_and}
use Rattle.disk_trait.specs.Fuse.{inner_of}
use Rattle.stab_base.specs.declared.limits.TheConstants.{NUMBER_MAX}
use Rattle.store_commit.specs.declared.fault.CommitFault.{CommitFault}
use Rattle.store_node.specs.Calls.{Answers}
use Rattle.store_node.specs.declared.fault.NodeFault.{NodeFault}
use Rattle.store_node.specs.declared.taking.Taken.{Taken}
use Rattle.store_node.specs.Taking.{refused_by, step_for}
use Rattle.store_node.specs.Update.{request_of}
use Rattle.store_node.proofs.Handing.{node_ready}
use Rattle.store_node.proofs.Answering.{pushed, ready_idle, shortly, refusedly, answers_request, begins_request}
use Rattle.store_node.proofs.node.TableNode.take_request.Goals as goal

pub returns-in_err-reserve-clause-answers : goal.returns-in_err-reserve-clause-answers
returns-in_err-reserve-clause-answers g c s t =
    let old = c.args.self.now in
    let p = err_from_is_err_and c.from_residual.result c.from_residual.ensures.1 in
    rw (p.1, p.2) (shortly g.D.Disk.state g.D.Disk.images (λ f image left. g.met.D.Disk.only_now (inner_of f) image left) old c.requires.up c.requires.idle (λ disk. step_for old.schema.chunk old.table disk c.args.from (request_of c.args.request.now) (refused_by old.schema.scheme old.schema.chunk disk c.args.request.now)) (λ disk. (refused_by old.schema.scheme old.schema.chunk disk c.args.request.now ≡ None) × (length disk.items ≡ NUMBER_MAX))
    c.reserve.new.self old.messages c.reserve.ensures.same refl s t)

pub returns-in_err-reserve-2-clause-answers : goal.returns-in_err-reserve-2-clause-answers
returns-in_err-reserve-2-clause-answers g c s t =
    let old = c.args.self.now in
    let p = err_from_is_err_and c.from_residual-in_err-reserve-2.result c.from_residual-in_err-reserve-2.ensures.1 in
    rw (p.1, p.2) (shortly g.D.Disk.state g.D.Disk.images (λ f image left. g.met.D.Disk.only_now (inner_of f) image left) old c.requires.up c.requires.idle (λ disk. step_for old.schema.chunk old.table disk c.args.from (request_of c.args.request.now) (refused_by old.schema.scheme old.schema.chunk disk c.args.request.now)) (λ disk. (refused_by old.schema.scheme old.schema.chunk disk c.args.request.now ≡ None) × (length disk.items ≡ NUMBER_MAX))
    c.reserve.new.self c.reserve-2.new.self c.reserve.ensures.same c.reserve-2.ensures.same s t)

pub take_write-requires-clause-ready : goal.take_write-requires-clause-ready
take_write-requires-clause-ready g c =
    let old = c.args.self.now in
    let n = c.requires.node in
    ready_idle g.D.Disk.state g.D.Disk.images (λ f image left. g.met.D.Disk.only_now (inner_of f) image left) old c.requires.up c.requires.idle (node_ready g.D.Disk.state g.D.Disk.images old n.0.disk n.0.agenda n.1 c.requires.up)

pub returns-in-Ok-Answered-clause-answers : goal.returns-in-Ok-Answered-clause-answers
returns-in-Ok-Answered-clause-answers g c s t =
    let old = c.args.self.now in
    answers_request g.D.Disk.state g.D.Disk.images (λ f image left. g.met.D.Disk.only_now (inner_of f) image left) old c.requires.up c.requires.idle c.take_write.new.table c.reserve.new.self c.put.new.self c.args.from c.args.request.now c.in-Ok-Answered.outcome c.response.result c.in-Ok-Answered.field-0 c.in-Ok-Answered.field-0-is c.in-Ok-Answered.ensures.serves c.in-Ok-Answered.ensures.taken c.response.ensures
    c.reserve.ensures.same (pushed _ _ _ _ c.put.ensures.added c.reserve-2.ensures.same) s t

pub returns-in-Ok-Begun-clause-answers : goal.returns-in-Ok-Begun-clause-answers
returns-in-Ok-Begun-clause-answers g c s t =
    let old = c.args.self.now in
    begins_request g.D.Disk.state g.D.Disk.images (λ f image left. g.met.D.Disk.only_now (inner_of f) image left) old c.requires.up c.requires.idle c.take_write.new.table c.reserve.new.self c.reserve-2.new.self c.args.from c.args.request.now c.in-Ok-Begun.version c.entry.result c.in-Ok-Begun.field-0 c.in-Ok-Begun.field-0-is c.in-Ok-Begun.ensures.serves c.in-Ok-Begun.ensures.taken c.requires.pieces c.entry.ensures
    c.requires.table c.requires.client c.requires.fits c.reserve.ensures.same c.reserve-2.ensures.same c.in_ok-reserve.ensures.room c.in_ok-reserve-2.ensures.room s t

pub returns-in-Err-clause-answers : goal.returns-in-Err-clause-answers
returns-in-Err-clause-answers g c s t =
    let old = c.args.self.now in
    subst (λ (f : NodeFault). Answers g.D.Disk.state g.D.Disk.images s (step_for old.schema.chunk old.table s.disk c.args.from (request_of c.args.request.now) (refused_by old.schema.scheme old.schema.chunk s.disk c.args.request.now)) ((refused_by old.schema.scheme old.schema.chunk s.disk c.args.request.now ≡ None) × (length s.disk.items ≡ NUMBER_MAX)) old c.fail.new.self (Err f)) (sym c.fail.ensures.fault)
    (refusedly g.D.Disk.state g.D.Disk.images (λ f image left. g.met.D.Disk.only_now (inner_of f) image left) old c.requires.up c.requires.idle c.take_write.new.table c.reserve.new.self c.reserve-2.new.self
    (λ disk. step_for old.schema.chunk old.table disk c.args.from (request_of c.args.request.now) (refused_by old.schema.scheme old.schema.chunk disk c.args.request.now)) (λ disk. (refused_by old.schema.scheme old.schema.chunk disk c.args.request.now ≡ None) × (length disk.items ≡ NUMBER_MAX)) c.fail.new.self {T = Taken} c.in-Err.fault (λ disk stands is. c.in-Err.ensures.spent disk stands (ap (λ (f : CommitFault). Err f) is))
    c.in-Err.ensures.serves c.reserve.ensures.same c.reserve-2.ensures.same c.fail.ensures.disk c.fail.ensures.other s t)
