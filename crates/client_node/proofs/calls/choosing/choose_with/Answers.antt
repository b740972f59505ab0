use Rattle.std.proofs.Common.{Ok, Err}
use Rattle.std.proofs.lemmas.Result.{err_from_is_err_and}
use Rattle.client_journal.specs.Standing.{devs}
use Rattle.client_node.specs.declared.fault.CallFault.TheVariants as call
use Rattle.client_node.proofs.MadeChoices.{chooses_read, asks_read}
use Rattle.client_node.proofs.Serving.{looks_err, looks_other}
use Rattle.client_node.proofs.calls.choosing.choose_with.Goals as goal

pub returns-in_err-pair-clause-looks : goal.returns-in_err-pair-clause-looks
returns-in_err-pair-clause-looks g c =
    let p = err_from_is_err_and c.from_residual.result c.from_residual.ensures.1 in
    rw (p.1, p.2) (looks_err g.D.Disk.state g.D.Disk.images c.args.devs.now c.read_pair.new.devs c.requires.up c.requires.ready c.in_err-pair.field-0.0 c.in_err-pair.ensures.looks)

pub returns-in_err-pair-clause-refused : goal.returns-in_err-pair-clause-refused
returns-in_err-pair-clause-refused g c =
    let p = err_from_is_err_and c.from_residual.result c.from_residual.ensures.1 in
    rw (p.1, p.2) c.in_err-pair.ensures.refused

pub choose-requires : goal.choose-requires
choose-requires g c =
    asks_read (devs g.D.Disk.state c.args.devs.now) c.args.at.now c.args.seen c.in_ok-pair.pair c.in_ok-pair.ensures.pair (g.R.Resolver.schema_of c.args.by.now) c.requires.fits

pub returns-in_err-choose-clause-looks : goal.returns-in_err-choose-clause-looks
returns-in_err-choose-clause-looks g c =
    let p = err_from_is_err_and c.from_residual-in_err-choose.result c.from_residual-in_err-choose.ensures.1 in
    rw (p.1, p.2) (looks_other g.D.Disk.state g.D.Disk.images c.args.devs.now c.read_pair.new.devs c.requires.up c.requires.ready c.in_ok-pair.pair (Err call.Memory) c.in_ok-pair.ensures.looks (λ no. cc))

pub returns-clause-looks : goal.returns-clause-looks
returns-clause-looks g c = looks_other g.D.Disk.state g.D.Disk.images c.args.devs.now c.read_pair.new.devs c.requires.up c.requires.ready c.in_ok-pair.pair _ c.in_ok-pair.ensures.looks (λ no. cc)

pub returns-clause-answers : goal.returns-clause-answers
returns-clause-answers g c =
    chooses_read (devs g.D.Disk.state c.args.devs.now) c.args.at.now c.args.seen c.in_ok-pair.pair c.in_ok-pair.ensures.pair (λ pair choice. g.R.Resolver.answers c.args.by.now pair (Ok choice)) c.in_ok-choose.field-0 c.in_ok-choose.ensures.answer
