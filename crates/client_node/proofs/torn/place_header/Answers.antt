use Rattle.std.proofs.Common.{map, Ok, Err}
use Rattle.std.proofs.lemmas.Result.{err_from_is_err_and}
use Rattle.client_journal.specs.Standing.{devs}
use Rattle.step_tables.specs.Travels.{send_of}
use Rattle.client_node.specs.declared.fault.CallFault.TheVariants as call
use Rattle.client_node.specs.declared.planning.Reaction.TheVariants.{Sends}
use Rattle.client_node.proofs.Serving.{looks_none}
use Rattle.client_node.proofs.WholeRows.{torn_empty}
use Rattle.client_node.proofs.torn.place_header.Goals as goal

pub returns-in_err-next-in-None-clause-looks : goal.returns-in_err-next-in-None-clause-looks
returns-in_err-next-in-None-clause-looks g c =
    let p = err_from_is_err_and c.from_residual.result c.from_residual.ensures.1 in
    rw (p.1, p.2) (looks_none g.D.Disk.state g.D.Disk.images g.met.D.Disk.only_now c.args.devs.now c.requires.up c.requires.ready (Err call.Memory) (λ no. cc))

pub returns-in_ok-next-in-None-clause-looks : goal.returns-in_ok-next-in-None-clause-looks
returns-in_ok-next-in-None-clause-looks g c = looks_none g.D.Disk.state g.D.Disk.images g.met.D.Disk.only_now c.args.devs.now c.requires.up c.requires.ready (Ok (Sends c.in_ok-next-in-None.next)) (λ no. cc)

pub returns-in_ok-next-in-None-clause-reacts : goal.returns-in_ok-next-in-None-clause-reacts
returns-in_ok-next-in-None-clause-reacts g c = torn_empty (devs g.D.Disk.state c.args.devs.now) c.args.client c.args.answer.now c.args.opened.now c.requires.opened c.in-None.is (map send_of c.in_ok-next-in-None.next.items) c.in_ok-next-in-None.ensures

pub place_whole-requires-clause-header : goal.place_whole-requires-clause-header
place_whole-requires-clause-header g c = c.in-Some.is
