use Rattle.std.proofs.Common.{◌≡◌, ℕ, List, map, Option, Some, None, Result, Ok, Err, true, false, ⊎_elim, inr, refl, sym, ◌∙◌, ap, subst, [], ◌∷◌}
use Rattle.std.proofs.lemmas.Result.{err_from_is_err_and, IfOk-weaker}
use Rattle.slot_store.specs.declared.held.TableRecord.{TableRecord}
use Rattle.client_journal.specs.Devs.{ClientDevs}
use Rattle.client_journal.specs.Redone.{redone}
use Rattle.client_journal.specs.Standing.{devs}
use Rattle.step_tables.specs.declared.message.Message.TheVariants.{PullResponse}
use Rattle.step_tables.specs.Travels.{send_of}
use Rattle.client_node.specs.declared.fault.CallFault.TheVariants as call
use Rattle.client_node.specs.Answers.{record_at, held_at}
use Rattle.client_node.specs.Readied.{IsIdle, Readies}
use Rattle.client_node.proofs.Serving.{looks_err, looks_ok, looks_fault, looks_none, looks_other, looks_then}
use Rattle.client_node.proofs.Pulled.{pulled_other}
use Rattle.client_node.proofs.RowsTaken.{chunk_some}
use Rattle.client_node.proofs.placing.place_next.Goals as goal

pub comes_next-requires : goal.comes_next-requires
comes_next-requires g c = record { size = chunk_some (devs g.D.Disk.state c.args.devs.now) c.args.client c.requires.idle c.args.pulled.now.table c.args.opened.now c.requires.opened }

pub returns-in_err-is_next-clause-looks : goal.returns-in_err-is_next-clause-looks
returns-in_err-is_next-clause-looks g c =
    let p = err_from_is_err_and c.from_residual.result c.from_residual.ensures.1 in
    rw (p.1, p.2) (looks_none g.D.Disk.state g.D.Disk.images g.met.D.Disk.only_now c.args.devs.now c.requires.up c.requires.ready (Err call.Memory) (λ no. cc))

pub returns-then-not-is_next-clause-looks : goal.returns-then-not-is_next-clause-looks
returns-then-not-is_next-clause-looks g c = looks_none g.D.Disk.state g.D.Disk.images g.met.D.Disk.only_now c.args.devs.now c.requires.up c.requires.ready (Ok None) (λ no. cc)

pub returns-then-not-is_next-clause-readies : goal.returns-then-not-is_next-clause-readies
returns-then-not-is_next-clause-readies g c = pulled_other (devs g.D.Disk.state c.args.devs.now) c.args.client c.args.pulled.now c.args.opened.now c.requires.opened c.args.header.now c.requires.header (c.in_ok-is_next.ensures.other c.if-not-is_next.true)

pub place_row-requires-clause-next : goal.place_row-requires-clause-next
place_row-requires-clause-next g c = c.in_ok-is_next.ensures.next c.if-not-is_next.false
