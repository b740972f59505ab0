use Rattle.std.proofs.Common.{drop, Ok}
use Rattle.client_journal.specs.Asking.{applied_if, Reads}
use Rattle.client_journal.specs.Scan.{IsScanned}
use Rattle.client_journal.specs.Standing.{devs}
use Rattle.client_journal.proofs.devs.Journal.scan_rows.Given as goal

abbrev pub invariant-loop-key : goal.invariant-loop-key
invariant-loop-key g l =
    let d = devs g.D.Disk.state l.initial.self in
    let held = applied_if l.commit d.held in
    Reads {T = Unit {0}} g.D.Disk.state g.D.Disk.images l.initial.self l.self (Ok tt)
    × IsScanned d.chunks held d.journal.greatest (drop l.key-index held.rows) l.found
