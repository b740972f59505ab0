use Rattle.std.proofs.Common.{◌≡◌, ℕ, List, map, Option, Some, None, Result, Ok, Err, true, false, ⊎_elim, inr, refl, sym, ◌∙◌, ap, subst, [], ◌∷◌}
use Rattle.std.proofs.lemmas.Result.{err_from_is_err_and, IfOk-weaker}
use Rattle.slot_store.specs.declared.held.TableRecord.{TableRecord}
use Rattle.client_journal.specs.Devs.{ClientDevs}
use Rattle.client_journal.specs.Redone.{redone}
use Rattle.client_journal.specs.Standing.{devs}
use Rattle.step_tables.specs.declared.message.Message.TheVariants.{PullResponse}
use Rattle.step_tables.specs.Travels.{send_of}
use Rattle.client_node.specs.declared.fault.CallFault.TheVariants as call
use Rattle.client_node.specs.Answers.{record_at, held_at}
use Rattle.client_node.specs.Readied.{IsIdle, Readies}
use Rattle.client_node.proofs.Serving.{looks_err, looks_ok, looks_fault, looks_none, looks_other, looks_then}
use Rattle.client_node.proofs.Pulled.{pulled_empty}
use Rattle.client_node.proofs.placing.place_header.Goals as goal

pub returns-in-None-clause-looks : goal.returns-in-None-clause-looks
returns-in-None-clause-looks g c = looks_none g.D.Disk.state g.D.Disk.images g.met.D.Disk.only_now c.args.devs.now c.requires.up c.requires.ready (Ok None) (λ no. cc)

pub returns-in-None-clause-readies : goal.returns-in-None-clause-readies
returns-in-None-clause-readies g c = pulled_empty (devs g.D.Disk.state c.args.devs.now) c.args.client c.args.pulled.now c.args.opened.now c.requires.opened c.in-None.is

pub place_next-requires-clause-header : goal.place_next-requires-clause-header
place_next-requires-clause-header g c = c.in-Some.is
