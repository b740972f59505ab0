use Rattle.std.proofs.Common.{refl, sym, ◌∙◌}
use Rattle.std.proofs.lemmas.Result.{err_from_is_err_and}
use Rattle.disk_trait.specs.Fuse.{inner_of}
use Rattle.step_tables.specs.StoreMoves.{asked}
use Rattle.store_node.specs.Calls.{IsSpentOn}
use Rattle.store_node.specs.Update.{request_of}
use Rattle.store_node.proofs.Answering.{shortly, unspelled_at, spelled_at}
use Rattle.store_node.proofs.node.TableNode.take_spelled.Goals as goal

pub returns-in_err-is_spelled-clause-answers : goal.returns-in_err-is_spelled-clause-answers
returns-in_err-is_spelled-clause-answers g c s t =
    let old = c.args.self.now in
    let p = err_from_is_err_and c.from_residual.result c.from_residual.ensures.1 in
    rw (p.1, p.2) (shortly g.D.Disk.state g.D.Disk.images (λ f image left. g.met.D.Disk.only_now (inner_of f) image left) old c.requires.up c.requires.idle (λ disk. asked old.schema.scheme old.schema.chunk old.table disk c.args.from (request_of c.args.request.now)) (λ disk. IsSpentOn old.schema.scheme old.schema.chunk disk c.args.request.now)
    old.facts old.messages refl refl s t)

pub returns-then-not-branch-clause-answers : goal.returns-then-not-branch-clause-answers
returns-then-not-branch-clause-answers g c s t =
    let old = c.args.self.now in
    unspelled_at g.D.Disk.state g.D.Disk.images (λ f image left. g.met.D.Disk.only_now (inner_of f) image left) old c.requires.up c.requires.idle c.args.from c.args.request.now (sym c.in_ok-is_spelled.ensures.spells ∙ c.if-not-branch.true) s t

pub returns-clause-answers : goal.returns-clause-answers
returns-clause-answers g c s t =
    let old = c.args.self.now in
    spelled_at g.D.Disk.state g.D.Disk.images (λ f image left. g.met.D.Disk.only_now (inner_of f) image left) old c.requires.up c.requires.idle c.args.from c.args.request.now (sym c.in_ok-is_spelled.ensures.spells ∙ c.if-not-branch.false) c.take_request.new.self c.take_request.result s
    (c.take_request.ensures.answers s t)
