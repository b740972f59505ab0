use Rattle.std.proofs.Common.{◌≡◌, ℕ, refl, sym, ◌∙◌, ap, subst}
use Rattle.std.proofs.lemmas.Result.{on_ok_weaker}
use Rattle.slot_store.specs.Data.{record_of}
use Rattle.client_journal.specs.Asking.{applied_if}
use Rattle.client_journal.specs.Scan.{NotesRow}
use Rattle.client_journal.specs.Standing.{devs}
use Rattle.client_journal.proofs.devs.Journal.note_slots.Goals as goal

pub returns : goal.returns
returns g c =
    let d = devs g.D.Disk.state c.args.self.now in
    let held = applied_if c.args.commit.now d.held in
    let is : record_of held c.args.key.now.table ≡ c.in_ok-table.table = c.in_ok-table.ensures d.held (sym (c.in_ok-old.ensures.record_ c.requires.up.slots)) in
    let top : c.greatest.result ≡ d.journal.greatest = c.greatest.ensures.greatest c.requires.up.journal in
    on_ok_weaker c.note_row.result (λ noted. subst (λ (n : ℕ). NotesRow d.chunks held n c.args.key.now c.args.slots.now c.args.found.now c.note_row.new.found) top (noted held is)) c.note_row.ensures
