use Rattle.std.proofs.Common.{◌≡◌, ℕ, List, map, Option, Some, None, Result, Ok, Err, ⊎_elim, inr, refl, sym, ◌∙◌, ap, subst, [], ◌∷◌}
use Rattle.std.specs.Prelude.{IsSome}
use Rattle.std.proofs.lemmas.Result.{err_from_is_err_and, IfOk-weaker}
use Rattle.slot_store.specs.declared.held.TableRecord.{TableRecord}
use Rattle.client_journal.specs.Devs.{ClientDevs}
use Rattle.client_journal.specs.Redone.{redone}
use Rattle.client_journal.specs.Standing.{devs}
use Rattle.step_tables.specs.declared.message.Message.TheVariants.{PullResponse}
use Rattle.step_tables.specs.Travels.{send_of}
use Rattle.client_node.specs.declared.fault.CallFault.TheVariants as call
use Rattle.client_node.specs.Answers.{record_at, held_at}
use Rattle.client_node.specs.Placing.{IsOfPosition}
use Rattle.client_node.specs.Readied.{IsIdle, Readies}
use Rattle.client_node.proofs.Serving.{looks_err, looks_ok, looks_fault, looks_none, looks_other, looks_then}
use Rattle.client_node.proofs.placing.move_position.Goals as goal

pub returns-in_err-last-clause-looks : goal.returns-in_err-last-clause-looks
returns-in_err-last-clause-looks g c =
    let p = err_from_is_err_and c.from_residual.result c.from_residual.ensures.1 in
    rw (p.1, p.2) (looks_err g.D.Disk.state g.D.Disk.images c.args.devs.now c.last_write.new.devs c.requires.up c.requires.ready c.in_err-last.field-0.0 c.in_err-last.ensures.looks)

pub returns-in_err-next-clause-looks : goal.returns-in_err-next-clause-looks
returns-in_err-next-clause-looks g c =
    let p = err_from_is_err_and c.from_residual-in_err-next.result c.from_residual-in_err-next.ensures.1 in
    rw (p.1, p.2) (looks_other g.D.Disk.state g.D.Disk.images c.args.devs.now c.last_write.new.devs c.requires.up c.requires.ready c.in_ok-last.last (Err call.Memory) c.in_ok-last.ensures.looks (λ no. cc))

pub returns-in_err-planned-clause-looks : goal.returns-in_err-planned-clause-looks
returns-in_err-planned-clause-looks g c =
    let p = err_from_is_err_and c.from_residual-in_err-planned.result c.from_residual-in_err-planned.ensures.1 in
    rw (p.1, p.2) (looks_other g.D.Disk.state g.D.Disk.images c.args.devs.now c.last_write.new.devs c.requires.up c.requires.ready c.in_ok-last.last (Err call.Memory) c.in_ok-last.ensures.looks (λ no. cc))

pub returns-clause-looks : goal.returns-clause-looks
returns-clause-looks g c = looks_other g.D.Disk.state g.D.Disk.images c.args.devs.now c.last_write.new.devs c.requires.up c.requires.ready c.in_ok-last.last (Ok (Some c.in_ok-planned.planned)) c.in_ok-last.ensures.looks (λ no. cc)

pub returns-clause-moves : goal.returns-clause-moves
returns-clause-moves g c =
    subst (λ sends. IsOfPosition c.args.client c.args.pulled.now.table (redone (devs g.D.Disk.state c.args.devs.now)).last c.args.pulled.now.to sends c.in_ok-planned.planned) c.in_ok-next.ensures
    (subst (λ n. IsOfPosition c.args.client c.args.pulled.now.table n c.args.pulled.now.to (map send_of c.in_ok-next.next.items) c.in_ok-planned.planned) c.in_ok-last.ensures.last
    (subst (λ n. IsOfPosition c.args.client c.args.pulled.now.table c.in_ok-last.last n (map send_of c.in_ok-next.next.items) c.in_ok-planned.planned) c.of_64_bits-position.ensures.same c.in_ok-planned.ensures))
