use Rattle.std.proofs.Common.{◌≡◌, ℕ, map, Option, Some, None, Result, Ok, Err, ⊎_elim, inr, refl, sym, ◌∙◌, ap, subst, [], ◌∷◌}
use Rattle.std.specs.Prelude.{IsSome}
use Rattle.std.proofs.lemmas.Result.{err_from_is_err_and, IfOk-weaker}
use Rattle.slot_store.specs.declared.held.TableRecord.{TableRecord}
use Rattle.client_journal.specs.Devs.{ClientDevs}
use Rattle.client_journal.specs.Redone.{redone}
use Rattle.client_journal.specs.Standing.{devs}
use Rattle.step_tables.specs.Travels.{send_of}
use Rattle.held_contents.specs.Reading.{AreThere}
use Rattle.client_node.specs.declared.fault.CallFault.TheVariants as call
use Rattle.client_node.specs.Answers.{record_at, held_at}
use Rattle.client_node.specs.Readied.{IsIdle}
use Rattle.client_node.proofs.Serving.{looks_err, looks_other, looks_then}
use Rattle.client_node.proofs.Serving.{looks_none}
use Rattle.client_node.proofs.SendPlans.{cannot_send}
use Rattle.client_node.proofs.calls.sending.plan_of_send.Goals as goal

pub returns-in-None-clause-looks : goal.returns-in-None-clause-looks
returns-in-None-clause-looks g c = looks_none g.D.Disk.state g.D.Disk.images g.met.D.Disk.only_now c.args.devs.now c.requires.up c.requires.ready (Ok None) (λ no. cc)

pub returns-in-None-clause-plan : goal.returns-in-None-clause-plan
returns-in-None-clause-plan g c = cannot_send c.args.slots.now c.in-None.is c.requires.sends

pub plan_of_main-requires-clause-main : goal.plan_of_main-requires-clause-main
plan_of_main-requires-clause-main g c = c.in-Some.is
