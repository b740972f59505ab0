use Rattle.std.proofs.Common.{◌≡◌, Option, Some, None, Result, Ok, Err, refl, sym, ◌∙◌, ap, subst, inr}
use Rattle.std.specs.Prelude.{IsErrOf, is_some}
use Rattle.std.proofs.lemmas.Result.{err_from_is_err_and}
use Rattle.chunk_store.specs.Standing as chunks
use Rattle.row_store.specs.declared.fault.RowFault.{RowFault}
use Rattle.row_store.specs.declared.fault.RowFault.TheVariants.{NoRow, Memory}
use Rattle.row_store.specs.declared.stored.StoredRow.{StoredRow}
use Rattle.row_store.specs.Data.{row_of}
use Rattle.row_store.specs.Standing as rows
use Rattle.store_commit.specs.Scan.{NotesRow, ReadsRows}
use Rattle.store_commit.proofs.Asking.{reads_row, reads_err, reads_short, reads_named}
use Rattle.store_commit.proofs.scan.scan_row.Goals as goal

pub returns-in_err-stored-clause-reads : goal.returns-in_err-stored-clause-reads
returns-in_err-stored-clause-reads g c =
    let p = err_from_is_err_and c.from_residual.result c.from_residual.ensures.1 in
    let s = g.D.Disk.state in
    let r : Result StoredRow RowFault = Err c.in_err-stored.field-0.0 in
    let x : IsErrOf r NoRow → ⊥ = λ is. let none : row_of (rows.held s c.args.row_dev.now) c.args.row ≡ None = (c.in_err-stored.ensures.no_row.0 is).1 in let there = c.requires.there in let no_ = ap is_some none in cc in
    rw (p.1, p.2) (reads_err s g.D.Disk.images g.met.D.Disk.only_now c.args.row_dev.now c.get_row.new.self c.in_err-stored.field-0.0 (reads_row s g.D.Disk.images g.met.D.Disk.only_now c.args.row_dev.now c.get_row.new.self r c.requires.row_up c.in_err-stored.ensures.reads x))

pub returns-in_err-note_row-clause-reads : goal.returns-in_err-note_row-clause-reads
returns-in_err-note_row-clause-reads g c =
    let p = err_from_is_err_and c.from_residual-in_err-note_row.result c.from_residual-in_err-note_row.ensures.1 in
    let s = g.D.Disk.state in
    rw (p.1, p.2) (reads_short s g.D.Disk.images g.met.D.Disk.only_now c.args.row_dev.now c.get_row.new.self c.in_ok-stored.stored (reads_row s g.D.Disk.images g.met.D.Disk.only_now c.args.row_dev.now c.get_row.new.self (Ok c.in_ok-stored.stored) c.requires.row_up c.in_ok-stored.ensures.reads (λ is. cc)))

pub returns-clause-reads : goal.returns-clause-reads
returns-clause-reads g c =
    let s = g.D.Disk.state in
    reads_named s g.D.Disk.images g.met.D.Disk.only_now c.args.row_dev.now c.get_row.new.self c.in_ok-stored.stored tt (reads_row s g.D.Disk.images g.met.D.Disk.only_now c.args.row_dev.now c.get_row.new.self (Ok c.in_ok-stored.stored) c.requires.row_up c.in_ok-stored.ensures.reads (λ is. cc))

pub returns-clause-noted : goal.returns-clause-noted
returns-clause-noted g c stored at =
    let both : Some c.in_ok-stored.stored ≡ Some stored = sym c.in_ok-stored.ensures.row ∙ at in
    let same : c.in_ok-stored.stored ≡ stored = cc in
    subst (λ (x : StoredRow). NotesRow (chunks.chunks g.D.Disk.state c.args.chunk_dev.now) c.args.table.now c.args.row x c.args.found.now c.note_row.new.found) same c.in_ok-note_row.ensures
