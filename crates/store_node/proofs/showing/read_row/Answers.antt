use Rattle.std.proofs.Common.{◌≡◌, Option, Some, None, Result, Ok, Err, sym, ◌∙◌, ap, subst}
use Rattle.std.specs.Prelude.{option_map}
use Rattle.std.proofs.lemmas.Result.{err_from_is_err_and}
use Rattle.row_store.specs.Data.{row_of}
use Rattle.store_commit.specs.declared.fault.CommitFault.{CommitFault}
use Rattle.store_commit.specs.Devs.{Devs}
use Rattle.store_commit.specs.Standing.{devs}
use Rattle.store_commit.proofs.Seen.{seen_all}
use Rattle.store_node.specs.Reading.{whole_row}
use Rattle.store_node.specs.declared.showing.WholeRow.{WholeRow}
use Rattle.store_node.proofs.Onlys.{only_then, only_named, only_err, only_up, only_looked, only_same}
use Rattle.store_node.proofs.showing.read_row.Goals as goal

pub returns-in_err-stored-clause-reads : goal.returns-in_err-stored-clause-reads
returns-in_err-stored-clause-reads g c =
    let p = err_from_is_err_and c.from_residual.result c.from_residual.ensures.1 in
    rw (p.1, p.2) (only_err g.D.Disk.state g.D.Disk.images g.met.D.Disk.only_now c.args.table.now c.row.new.self c.in_err-stored.field-0.0 (record { asks = c.in_err-stored.ensures.asks; scanned = c.in_err-stored.ensures.scanned }))

pub read_whole-requires-clause-up : goal.read_whole-requires-clause-up
read_whole-requires-clause-up g c = only_up g.D.Disk.state g.D.Disk.images c.args.table.now c.row.new.self c.in_ok-stored.field-0 (record { asks = c.in_ok-stored.ensures.asks; scanned = c.in_ok-stored.ensures.scanned }) c.requires.up

pub read_whole-requires-clause-looked : goal.read_whole-requires-clause-looked
read_whole-requires-clause-looked g c = only_looked g.D.Disk.state g.D.Disk.images c.args.table.now c.row.new.self c.in_ok-stored.field-0 (record { asks = c.in_ok-stored.ensures.asks; scanned = c.in_ok-stored.ensures.scanned }) c.requires.looked

pub returns-in_err-read_whole-in-Some-clause-reads : goal.returns-in_err-read_whole-in-Some-clause-reads
returns-in_err-read_whole-in-Some-clause-reads g c =
    let p = err_from_is_err_and c.from_residual-in_err-read_whole-in-Some.result c.from_residual-in_err-read_whole-in-Some.ensures.1 in
    let e = c.in_err-read_whole-in-Some.field-0.0 in
    let r : Result WholeRow CommitFault = Err e in
    let both = only_then g.D.Disk.state g.D.Disk.images g.met.D.Disk.only_now c.args.table.now c.row.new.self c.read_whole.new.table c.in_ok-stored.field-0 r c.requires.up (record { asks = c.in_ok-stored.ensures.asks; scanned = c.in_ok-stored.ensures.scanned }) c.in_err-read_whole-in-Some.ensures.reads in
    rw (p.1, p.2) (only_err g.D.Disk.state g.D.Disk.images g.met.D.Disk.only_now c.args.table.now c.read_whole.new.table e both)

pub returns-in_ok-read_whole-in-Some-clause-reads : goal.returns-in_ok-read_whole-in-Some-clause-reads
returns-in_ok-read_whole-in-Some-clause-reads g c =
    let found = c.in_ok-read_whole-in-Some.field-0 in
    let r : Result WholeRow CommitFault = Ok found in
    let both = only_then g.D.Disk.state g.D.Disk.images g.met.D.Disk.only_now c.args.table.now c.row.new.self c.read_whole.new.table c.in_ok-stored.field-0 r c.requires.up (record { asks = c.in_ok-stored.ensures.asks; scanned = c.in_ok-stored.ensures.scanned }) c.in_ok-read_whole-in-Some.ensures.reads in
    only_named g.D.Disk.state g.D.Disk.images g.met.D.Disk.only_now c.args.table.now c.read_whole.new.table found (Some found) both

pub returns-in_ok-read_whole-in-Some-clause-row : goal.returns-in_ok-read_whole-in-Some-clause-row
returns-in_ok-read_whole-in-Some-clause-row g c =
    let s = g.D.Disk.state in
    let old = c.args.table.now in
    let same : devs s c.row.new.self ≡ devs s old = only_same g.D.Disk.state g.D.Disk.images old c.row.new.self c.in_ok-stored.field-0 (record { asks = c.in_ok-stored.ensures.asks; scanned = c.in_ok-stored.ensures.scanned }) in
    let there : row_of (devs s old).held c.args.row.now ≡ Some c.in-Some.stored = subst (λ (d : Devs). row_of d.held c.args.row.now ≡ c.in_ok-stored.field-0) (seen_all s old c.requires.hidden) c.in_ok-stored.ensures.row ∙ c.in-Some.is in
    ap (λ (x : WholeRow). Some x) (subst (λ (d : Devs). c.in_ok-read_whole-in-Some.field-0 ≡ whole_row d c.in-Some.stored) same c.in_ok-read_whole-in-Some.ensures.row)
    ∙ sym (ap (option_map (whole_row (devs s old))) there)

pub returns-in-None-clause-reads : goal.returns-in-None-clause-reads
returns-in-None-clause-reads g c =
    let none : Option WholeRow = None in
    only_named g.D.Disk.state g.D.Disk.images g.met.D.Disk.only_now c.args.table.now c.row.new.self c.in_ok-stored.field-0 none (record { asks = c.in_ok-stored.ensures.asks; scanned = c.in_ok-stored.ensures.scanned })

pub returns-in-None-clause-row : goal.returns-in-None-clause-row
returns-in-None-clause-row g c =
    let s = g.D.Disk.state in
    let old = c.args.table.now in
    let there : row_of (devs s old).held c.args.row.now ≡ None = subst (λ (d : Devs). row_of d.held c.args.row.now ≡ c.in_ok-stored.field-0) (seen_all s old c.requires.hidden) c.in_ok-stored.ensures.row ∙ c.in-None.is in
    sym (ap (option_map (whole_row (devs s old))) there)
