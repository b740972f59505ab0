use Rattle.std.proofs.Common.{Bool, Result, Err, inr, refl, sym, subst}
use Rattle.std.proofs.lemmas.Result.{err_from_is_err_and}
use Rattle.store_commit.specs.declared.fault.CommitFault.{CommitFault}
use Rattle.store_commit.specs.declared.fault.CommitFault.TheVariants.{Memory}
use Rattle.store_commit.specs.Scan.{ReadsRows}
use Rattle.store_commit.proofs.Asking.{asks_caused, asks_both, itself, was_ok}
use Rattle.store_commit.proofs.Bares.{looked_up}
use Rattle.store_commit.proofs.devs.TableDevs.is_bare.Goals as goal

pub returns-in_err-no_rows-clause-asks : goal.returns-in_err-no_rows-clause-asks
returns-in_err-no_rows-clause-asks g c =
    let s = g.D.Disk.state in
    let p = err_from_is_err_and c.from_residual.result c.from_residual.ensures.1 in
    rw (p.1, p.2) (asks_caused s g.D.Disk.images g.met.D.Disk.only_now c.args.self.now (looked_up s g.D.Disk.images c.args.self.now c.requires) c.requires c.has_no_rows.new.row_dev c.has_no_rows.result c.has_no_rows.ensures.reads c.in_err-no_rows.field-0.0 (sym c.in_err-no_rows.ensures))

pub returns-in_err-names-clause-asks : goal.returns-in_err-names-clause-asks
returns-in_err-names-clause-asks g c =
    let s = g.D.Disk.state in
    let images = g.D.Disk.images in
    let old = c.args.self.now in
    let new = record old { rows = c.has_no_rows.new.row_dev } in
    let p = err_from_is_err_and c.from_residual-in_err-names.result c.from_residual-in_err-names.ensures.1 in
    let is = was_ok c.has_no_rows.result c.in_ok-no_rows.no_rows c.in_ok-no_rows.ensures in
    let reads = subst (λ x. ReadsRows s images old.rows c.has_no_rows.new.row_dev x) is c.has_no_rows.ensures.reads in
    let r : Result Bool CommitFault = Err Memory in
    rw (p.1, p.2) (asks_both s images g.met.D.Disk.only_now old (looked_up s g.D.Disk.images old c.requires) c.requires new c.in_ok-no_rows.no_rows r reads (itself s _ _ old.chunks.inner) refl refl refl (λ e. cc) (inr refl))

pub returns-clause-asks : goal.returns-clause-asks
returns-clause-asks g c =
    let s = g.D.Disk.state in
    let images = g.D.Disk.images in
    let old = c.args.self.now in
    let new = record old { rows = c.has_no_rows.new.row_dev } in
    let is = was_ok c.has_no_rows.result c.in_ok-no_rows.no_rows c.in_ok-no_rows.ensures in
    let reads = subst (λ x. ReadsRows s images old.rows c.has_no_rows.new.row_dev x) is c.has_no_rows.ensures.reads in
    asks_both s images g.met.D.Disk.only_now old (looked_up s images old c.requires) c.requires new c.in_ok-no_rows.no_rows _ reads (itself s _ _ old.chunks.inner) refl refl refl (λ e. cc) tt
