use Rattle.std.proofs.Common.{◌≡◌, List, refl, sym, subst}
use Rattle.disk_trait.specs.Fuse.{behind, inner_of}
use Rattle.client_journal.specs.Devs.{ClientDevs, Write}
use Rattle.client_journal.specs.Agenda.{Runs}
use Rattle.client_journal.specs.Standing.{devs, writes_of, IsReady}
use Rattle.journal_tests.specs.Standing.{IsNamedMoment}
use Rattle.journal_tests.proofs.Moves.{crashed_inside}
use Rattle.journal_tests.proofs.calls.stop.Goals as goal

pub work-requires : goal.work-requires
work-requires g c =
    let start = c.stop_after.new.self in
    let same : writes_of start ≡ writes_of c.args.client.now = cc c.stop_after.ensures.agenda in
    record { ready = λ up. subst (IsReady (behind g.D.Disk.state) start) (sym same) (c.stop_after.ensures.ready (writes_of c.args.client.now) c.requires.ready) }

pub returns : goal.returns
returns g c =
    let state = behind g.D.Disk.state in
    let old = c.args.client.now in
    let start = c.stop_after.new.self in
    let up = c.stop_after.ensures.up c.requires.up in
    let same : writes_of start ≡ writes_of old = cc c.stop_after.ensures.agenda in
    let ready : IsReady state start (writes_of start) = subst (IsReady state start) (sym same) (c.stop_after.ensures.ready (writes_of old) c.requires.ready) in
    let held : devs state start ≡ devs state old = c.stop_after.ensures.same in
    let moved : Runs IsNamedMoment (devs state start) (writes_of old) = subst (λ (d : ClientDevs). Runs IsNamedMoment d (writes_of old)) (sym held) c.requires.runs in
    let runs : Runs IsNamedMoment (devs state start) (writes_of start) = subst (λ (ws : List Write). Runs IsNamedMoment (devs state start) ws) (sym same) moved in
    let again = c.restart.ensures in
    let both = crashed_inside state (λ f. g.D.Disk.images (inner_of f)) start c.work.new.self c.restart.new.self c.work.result (writes_of start) refl (c.work.ensures.works up) up ready runs again.left again.rests in
    record { up = again.up; synced = again.synced; sound = both.0; idle = again.idle; are = both.1 }
