use Rattle.std.proofs.Common.{◌≡◌, [], List, refl, sym, ◌∙◌, ap, subst}
use Rattle.std.proofs.lemmas.Result.{IfOk-weaker}
use Rattle.slot_store.specs.declared.held.RowKey.{RowKey}
use Rattle.client_journal.specs.There.{HasKeys}
use Rattle.client_journal.specs.Standing.{devs}
use Rattle.client_journal.proofs.Scans.{no_hidden}
use Rattle.client_journal.proofs.Wholes.{whole_shown}
use Rattle.client_journal.proofs.Asking.{asks_down, asks_reads}
use Rattle.client_journal.proofs.devs.Journal.scan.Goals as goal

pub returns-then-is_down-clause-asks : goal.returns-then-is_down-clause-asks
returns-then-is_down-clause-asks g c = asks_down g.D.Disk.state g.D.Disk.images g.met.D.Disk.only_now c.args.self.now c.if-is_down.ensures

pub returns-clause-asks : goal.returns-clause-asks
returns-clause-asks g c =
    let up = c.if-is_down.ensures in
    asks_reads g.D.Disk.state g.D.Disk.images g.met.D.Disk.only_now c.args.self.now up (c.requires up) c.find_rows.new.self c.find_rows.result c.find_rows.ensures.reads

pub returns-clause-whole : goal.returns-clause-whole
returns-clause-whole g c =
    let d = devs g.D.Disk.state c.args.self.now in
    IfOk-weaker c.find_rows.result _ _ (λ scanned found meaning named whole.
    no_hidden scanned.hidden (subst (λ (l : List RowKey). HasKeys l scanned.hidden) (whole_shown meaning d named whole found.rising) found.hidden)) c.find_rows.ensures.found
