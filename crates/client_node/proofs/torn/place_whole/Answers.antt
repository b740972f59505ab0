use Rattle.std.proofs.Common.{Ok, Err}
use Rattle.std.proofs.lemmas.Result.{err_from_is_err_and}
use Rattle.client_journal.specs.Standing.{devs}
use Rattle.client_node.specs.declared.fault.CallFault.TheVariants as call
use Rattle.client_node.specs.declared.planning.Reaction.TheVariants.{Nothing}
use Rattle.client_node.proofs.Serving.{looks_none}
use Rattle.client_node.proofs.RowsTaken.{chunk_some}
use Rattle.client_node.proofs.WholeRows.{torn_other}
use Rattle.client_node.proofs.torn.place_whole.Goals as goal

pub is_whole-requires : goal.is_whole-requires
is_whole-requires g c = record { size = chunk_some (devs g.D.Disk.state c.args.devs.now) c.args.client c.requires.idle c.args.answer.now.table c.args.opened.now c.requires.opened }

pub returns-in_err-whole-clause-looks : goal.returns-in_err-whole-clause-looks
returns-in_err-whole-clause-looks g c =
    let p = err_from_is_err_and c.from_residual.result c.from_residual.ensures.1 in
    rw (p.1, p.2) (looks_none g.D.Disk.state g.D.Disk.images g.met.D.Disk.only_now c.args.devs.now c.requires.up c.requires.ready (Err call.Memory) (λ no. cc))

pub returns-then-not-whole-clause-looks : goal.returns-then-not-whole-clause-looks
returns-then-not-whole-clause-looks g c = looks_none g.D.Disk.state g.D.Disk.images g.met.D.Disk.only_now c.args.devs.now c.requires.up c.requires.ready (Ok Nothing) (λ no. cc)

pub returns-then-not-whole-clause-reacts : goal.returns-then-not-whole-clause-reacts
returns-then-not-whole-clause-reacts g c = torn_other (devs g.D.Disk.state c.args.devs.now) c.args.client c.args.answer.now c.args.opened.now c.requires.opened c.args.header.now c.requires.header (c.in_ok-whole.ensures.other c.if-not-whole.true)

pub place_row-requires-clause-whole : goal.place_row-requires-clause-whole
place_row-requires-clause-whole g c = c.in_ok-whole.ensures.whole c.if-not-whole.false
