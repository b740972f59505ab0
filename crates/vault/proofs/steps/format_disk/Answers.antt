use Rattle.std.proofs.Common.{◌∙◌, ap, sym, length, ◌≤◌, subst, List, ℕ}
use Rattle.disk_trait.specs.Image.{settled}
use Rattle.disk_trait.proofs.Moments.{leaves_then}
use Rattle.vault.proofs.Blanks.{IsShort}
use Rattle.vault.proofs.Quiet.{quiet}
use Rattle.vault.proofs.steps.format_disk.Goals as goal

pub returns-in_err-room-clause-blank : goal.returns-in_err-room-clause-blank
returns-in_err-room-clause-blank g c synced short =
    quiet g.D.Disk.state g.D.Disk.images g.met.D.Disk.only_now c.args.disk.now synced IsShort short c.room.new.self c.room.ensures.same c.room.ensures.time

pub returns-in_err-wipe-clause-blank : goal.returns-in_err-wipe-clause-blank
returns-in_err-wipe-clause-blank g c synced short =
    let s = g.D.Disk.state in
    let same = c.room.ensures.same in
    let roomy = quiet s g.D.Disk.images g.met.D.Disk.only_now c.args.disk.now synced IsShort short c.room.new.self same c.room.ensures.time in
    leaves_then s g.D.Disk.images c.args.disk.now c.room.new.self c.wipe.new.disk IsShort IsShort IsShort roomy
    (c.wipe.ensures.blank (same.pending ∙ (synced ∙ ap settled (sym same.seen))) (subst (λ (l : List ℕ). length l ≤ 1) (sym same.seen) short)) (λ image is. is) (λ image is. is)

pub returns-clause-blank : goal.returns-clause-blank
returns-clause-blank g c synced short =
    let s = g.D.Disk.state in
    let same = c.room.ensures.same in
    let roomy = quiet s g.D.Disk.images g.met.D.Disk.only_now c.args.disk.now synced IsShort short c.room.new.self same c.room.ensures.time in
    leaves_then s g.D.Disk.images c.args.disk.now c.room.new.self c.wipe.new.disk IsShort IsShort IsShort roomy
    (c.wipe.ensures.blank (same.pending ∙ (synced ∙ ap settled (sym same.seen))) (subst (λ (l : List ℕ). length l ≤ 1) (sym same.seen) short)) (λ image is. is) (λ image is. is)
