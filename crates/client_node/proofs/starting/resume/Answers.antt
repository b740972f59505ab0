use Rattle.std.proofs.Common.{ℕ, map, Err, sym, ◌∙◌, ap, subst}
use Rattle.std.proofs.lemmas.Result.{err_from_is_err_and}
use Rattle.held_value.specs.declared.local_name.LocalName.{LocalName}
use Rattle.plan_log.specs.Spelling.{IsTable}
use Rattle.client_journal.specs.Devs.{ClientDevs}
use Rattle.client_journal.specs.Recover.{rolled_of}
use Rattle.client_journal.specs.Standing.{devs}
use Rattle.step_tables.specs.Lines.{fact_of}
use Rattle.step_tables.specs.ClientMoves.{ClientDisk, told_at_start}
use Rattle.journal_laws.specs.Holds.{Stands}
use Rattle.client_node.specs.Noting.{AreNotedOf, IsRedoneNoted}
use Rattle.client_node.proofs.Taken.{begun_short, begun_other, read_failed, read_done}
use Rattle.client_node.proofs.starting.resume.Goals as goal

pub returns-in_err-told-clause-begins : goal.returns-in_err-told-clause-begins
returns-in_err-told-clause-begins g c =
    let p = err_from_is_err_and c.from_residual-in_err-told.result c.from_residual-in_err-told.ensures.1 in
    let e = c.in_err-told.ensures in
    rw (p.1, p.2) (read_failed g.D.Disk.state g.D.Disk.images c.args.devs.now c.begin_start.new.devs _ c.in_ok-rolled.ensures.begins c.tell_found.new.devs c.in_err-told.field-0.0 e.looks e.refused)

pub note_tables-requires-clause-up : goal.note_tables-requires-clause-up
note_tables-requires-clause-up g c = (read_done g.D.Disk.state g.D.Disk.images c.args.devs.now c.begin_start.new.devs _ c.in_ok-rolled.ensures.begins c.tell_found.new.devs _ c.in_ok-told.ensures.looks).up

pub note_tables-requires-clause-ready : goal.note_tables-requires-clause-ready
note_tables-requires-clause-ready g c = (read_done g.D.Disk.state g.D.Disk.images c.args.devs.now c.begin_start.new.devs _ c.in_ok-rolled.ensures.begins c.tell_found.new.devs _ c.in_ok-told.ensures.looks).ready

pub returns-in_err-held-clause-begins : goal.returns-in_err-held-clause-begins
returns-in_err-held-clause-begins g c =
    let p = err_from_is_err_and c.from_residual-in_err-held.result c.from_residual-in_err-held.ensures.1 in
    let e = c.in_err-held.ensures in
    rw (p.1, p.2) (read_failed g.D.Disk.state g.D.Disk.images c.args.devs.now c.tell_found.new.devs _ (read_done g.D.Disk.state g.D.Disk.images c.args.devs.now c.begin_start.new.devs _ c.in_ok-rolled.ensures.begins c.tell_found.new.devs _ c.in_ok-told.ensures.looks) c.note_tables.new.devs c.in_err-held.field-0.0 e.looks e.refused)

pub returns-in_err-owed-clause-begins : goal.returns-in_err-owed-clause-begins
returns-in_err-owed-clause-begins g c =
    let p = err_from_is_err_and c.from_residual-in_err-owed.result c.from_residual-in_err-owed.ensures.1 in
    rw (p.1, p.2) (begun_short g.D.Disk.state g.D.Disk.images c.args.devs.now c.note_tables.new.devs _ (read_done g.D.Disk.state g.D.Disk.images c.args.devs.now c.tell_found.new.devs _ (read_done g.D.Disk.state g.D.Disk.images c.args.devs.now c.begin_start.new.devs _ c.in_ok-rolled.ensures.begins c.tell_found.new.devs _ c.in_ok-told.ensures.looks) c.note_tables.new.devs _ c.in_ok-held.ensures.looks))

pub returns-in_err-made-clause-begins : goal.returns-in_err-made-clause-begins
returns-in_err-made-clause-begins g c =
    let p = err_from_is_err_and c.from_residual-in_err-made.result c.from_residual-in_err-made.ensures.1 in
    rw (p.1, p.2) (begun_short g.D.Disk.state g.D.Disk.images c.args.devs.now c.note_tables.new.devs _ (read_done g.D.Disk.state g.D.Disk.images c.args.devs.now c.tell_found.new.devs _ (read_done g.D.Disk.state g.D.Disk.images c.args.devs.now c.begin_start.new.devs _ c.in_ok-rolled.ensures.begins c.tell_found.new.devs _ c.in_ok-told.ensures.looks) c.note_tables.new.devs _ c.in_ok-held.ensures.looks))

pub returns-clause-begins : goal.returns-clause-begins
returns-clause-begins g c =
    begun_other g.D.Disk.state g.D.Disk.images c.args.devs.now c.note_tables.new.devs _ (read_done g.D.Disk.state g.D.Disk.images c.args.devs.now c.tell_found.new.devs _ (read_done g.D.Disk.state g.D.Disk.images c.args.devs.now c.begin_start.new.devs _ c.in_ok-rolled.ensures.begins c.tell_found.new.devs _ c.in_ok-told.ensures.looks) c.note_tables.new.devs _ c.in_ok-held.ensures.looks) c.in_ok-owed.owed

pub returns-clause-noted : goal.returns-clause-noted
returns-clause-noted g c =
    let told = read_done g.D.Disk.state g.D.Disk.images c.args.devs.now c.begin_start.new.devs _ c.in_ok-rolled.ensures.begins c.tell_found.new.devs _ c.in_ok-told.ensures.looks in
    let e = c.in_ok-held.ensures in
    record {
      each = subst (λ (d : ClientDevs). (table : ℕ) → IsTable table → AreNotedOf d c.in_ok-held.held table) told.same e.each;
      redone = subst (IsRedoneNoted c.in_ok-held.held) c.in_ok-rolled.ensures.answer e.redone;
    }

pub returns-clause-told : goal.returns-clause-told
returns-clause-told g c meaning disk stands =
    let s = g.D.Disk.state in
    let begun = c.begin_start.new.devs in
    let same = c.in_ok-rolled.ensures.begins.same in
    let is = c.in_ok-rolled.ensures.answer in
    let here = subst (λ (d : ClientDevs). Stands c.args.client meaning d disk) (sym same) stands in
    let told = c.in_ok-told.ensures.told meaning disk here (is ∙ ap (λ (d : ClientDevs). rolled_of d.journal.at_work) (sym same)) in
    ap (map fact_of) c.in_ok-made.ensures.told ∙ (told ∙ ap (λ r. told_at_start c.args.client r.torn disk.plan) is)
