use Rattle.std.proofs.Common.{List, sym, ◌∙◌, subst}
use Rattle.store_host.specs.declared.hosted.TableOut.{TableOut}
use Rattle.store_host.specs.Steps.{HasTaken}
use Rattle.store_host.proofs.Hosting.{busy_taken, take_cause}
use Rattle.store_host.proofs.hosted.Hosted.deliver.Goals as goal

pub returns-then-is_busy-clause-taken : goal.returns-then-is_busy-clause-taken
returns-then-is_busy-clause-taken g c store schema table hosted h =
    busy_taken g.D.Disk.state g.D.Disk.images store schema table hosted c.args.self.now h c.requires.up c.args.from c.args.message.now c.args.outs.now c.deliver.new.self c.deliver.result (sym (c.is_busy.ensures hosted.store h.node) ∙ c.if-is_busy.true)
    (c.deliver.ensures.delivers hosted.store h.node) c.deliver.ensures.declared

pub returns-then-is_busy-clause-cause : goal.returns-then-is_busy-clause-cause
returns-then-is_busy-clause-cause g c =
    let n = c.requires.node in
    take_cause g.D.Disk.state g.D.Disk.images n.0 c.args.from c.args.message.now c.args.self.now.node c.deliver.new.self c.deliver.result (c.deliver.ensures.delivers n.0 n.1)

pub returns-clause-taken : goal.returns-clause-taken
returns-clause-taken g c store schema table hosted h =
    subst (λ (l : List TableOut). HasTaken g.D.Disk.state store schema table hosted c.args.from c.args.message.now c.args.self.now c.take-answer.new.self c.args.outs.now l c.take-answer.result) (sym c.from_vec.ensures)
    (subst (λ (l : List TableOut). HasTaken g.D.Disk.state store schema table hosted c.args.from c.args.message.now c.args.self.now c.take-answer.new.self l c.take-answer.new.outs.items c.take-answer.result)
    (c.into_vec-room.ensures ∙ c.replace.ensures.value) (c.take-answer.ensures.taken store schema table hosted h))

pub returns-then-is_busy-clause-left : goal.returns-then-is_busy-clause-left
returns-then-is_busy-clause-left g c store schema table hosted h made = (c.deliver.ensures.delivers hosted.store h.node).rows_left

pub returns-clause-left : goal.returns-clause-left
returns-clause-left g c store schema table hosted h made = c.take-answer.ensures.left store schema table hosted h made
