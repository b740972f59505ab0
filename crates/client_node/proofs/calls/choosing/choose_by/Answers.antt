use Rattle.std.proofs.Common.{◌≡◌}
use Rattle.std.proofs.lemmas.Result.{err_from_is_err_and}
use Rattle.conflicts.specs.Stored.{chosen}
use Rattle.client_journal.specs.Standing.{devs}
use Rattle.client_node.proofs.MadeChoices.{chooses_read}
use Rattle.client_node.proofs.Serving.{looks_none, looks_err, looks_other}
use Rattle.client_node.proofs.calls.choosing.choose_by.Goals as goal

pub returns-in-Mine-clause-looks : goal.returns-in-Mine-clause-looks
returns-in-Mine-clause-looks g c = looks_none g.D.Disk.state g.D.Disk.images g.met.D.Disk.only_now c.args.devs.now c.requires.up c.requires.ready _ (λ no. cc)

pub returns-in-Theirs-clause-looks : goal.returns-in-Theirs-clause-looks
returns-in-Theirs-clause-looks g c = looks_none g.D.Disk.state g.D.Disk.images g.met.D.Disk.only_now c.args.devs.now c.requires.up c.requires.ready _ (λ no. cc)

pub returns-in_err-pair-in-Larger-clause-looks : goal.returns-in_err-pair-in-Larger-clause-looks
returns-in_err-pair-in-Larger-clause-looks g c =
    let p = err_from_is_err_and c.from_residual.result c.from_residual.ensures.1 in
    rw (p.1, p.2) (looks_err g.D.Disk.state g.D.Disk.images c.args.devs.now c.read_pair.new.devs c.requires.up c.requires.ready c.in_err-pair-in-Larger.field-0.0 c.in_err-pair-in-Larger.ensures.looks)

pub returns-in_err-pair-in-Larger-clause-refused : goal.returns-in_err-pair-in-Larger-clause-refused
returns-in_err-pair-in-Larger-clause-refused g c =
    let p = err_from_is_err_and c.from_residual.result c.from_residual.ensures.1 in
    rw (p.1, p.2) c.in_err-pair-in-Larger.ensures.refused

pub returns-in_ok-pair-in-Larger-clause-looks : goal.returns-in_ok-pair-in-Larger-clause-looks
returns-in_ok-pair-in-Larger-clause-looks g c = looks_other g.D.Disk.state g.D.Disk.images c.args.devs.now c.read_pair.new.devs c.requires.up c.requires.ready c.in_ok-pair-in-Larger.pair _ c.in_ok-pair-in-Larger.ensures.looks (λ no. cc)

pub returns-in_ok-pair-in-Larger-clause-chosen : goal.returns-in_ok-pair-in-Larger-clause-chosen
returns-in_ok-pair-in-Larger-clause-chosen g c =
    chooses_read (devs g.D.Disk.state c.args.devs.now) c.args.at.now c.args.seen c.in_ok-pair-in-Larger.pair c.in_ok-pair-in-Larger.ensures.pair (λ pair choice. choice ≡ chosen c.args.by pair) c.choose.result c.choose.ensures
