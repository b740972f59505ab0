use Rattle.std.proofs.Common.{◌≡◌, ⊎_elim, Option, Some, None, Result, Ok, refl, sym, subst}
use Rattle.std.specs.Prelude.{IfOk}
use Rattle.client_journal.specs.Standing.{devs}
use Rattle.step_tables.specs.declared.message.Message.{Message}
use Rattle.client_node.specs.declared.fault.CallFault.{CallFault}
use Rattle.client_node.specs.declared.planning.Reaction.TheVariants.{Nothing}
use Rattle.client_node.specs.Readied.{Readies, Reacts}
use Rattle.client_node.proofs.Serving.{looks_none}
use Rattle.client_node.proofs.Ignored.{request_readies, pull_readies, torn_readies}
use Rattle.client_node.proofs.calls.taking.prepare.Goals as goal

pub returns-in-SyncResponse-clause-reacts : goal.returns-in-SyncResponse-clause-reacts
returns-in-SyncResponse-clause-reacts g c = subst (λ (m : Message). IfOk c.answer.result (Reacts (devs g.D.Disk.state c.args.devs.now) c.args.client m)) (sym c.in-SyncResponse.is) c.answer.ensures.reacts

pub returns-in-SyncRequest-clause-looks : goal.returns-in-SyncRequest-clause-looks
returns-in-SyncRequest-clause-looks g c = looks_none g.D.Disk.state g.D.Disk.images g.met.D.Disk.only_now c.args.devs.now c.requires.up c.requires.ready (Ok Nothing) (λ no. cc)

pub returns-in-SyncRequest-clause-reacts : goal.returns-in-SyncRequest-clause-reacts
returns-in-SyncRequest-clause-reacts g c =
    let d = devs g.D.Disk.state c.args.devs.now in
    ⊎_elim (λ x. subst (λ (m : Message). Readies d c.args.client m None) (sym x.1) (request_readies d c.args.client x.0))
    (⊎_elim (λ x. subst (λ (m : Message). Readies d c.args.client m None) (sym x.1) (pull_readies d c.args.client x.0)) (λ x. subst (λ (m : Message). Readies d c.args.client m None) (sym x.1) (torn_readies d c.args.client x.0)))
    c.in-SyncRequest.is

pub returns-in-TornRowResponse-clause-reacts : goal.returns-in-TornRowResponse-clause-reacts
returns-in-TornRowResponse-clause-reacts g c = subst (λ (m : Message). IfOk c.place_torn.result (Reacts (devs g.D.Disk.state c.args.devs.now) c.args.client m)) (sym c.in-TornRowResponse.is) c.place_torn.ensures.reacts
