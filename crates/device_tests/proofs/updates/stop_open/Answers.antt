use Rattle.std.proofs.Common.{◌≡◌, ◌+◌, ◌*◌, ◌∙◌, Some, None, subst, arith}
use Rattle.disk_trait.specs.Fuse.{behind, inner_of}
use Rattle.vault.specs.Standing.{IsUp}
use Rattle.vault.proofs.Uppers.{opened_sound}
use Rattle.status_log.specs.Entry.{entry_of, size_of}
use Rattle.status_log.specs.Standing.{entry_open, vault_of, HasRoom}
use Rattle.device_tests.proofs.Stands.{log_looked, none_open}
use Rattle.device_tests.proofs.updates.stop_open.Goals as goal

pub open_entry-requires-clause-room : goal.open_entry-requires-clause-room
open_entry-requires-clause-room g c up =
    let n = 53 + 12 * c.len.result in
    let same : n ≡ size_of (entry_of c.args.entry.now) = omega (arith, c.len.ensures) in
    subst (HasRoom (behind g.D.Disk.state) c.stop_after.new.self 0 1) same (c.stop_after.ensures.stays.room 0 1 n (c.in_ok-open_write.ensures.room 0 1 n c.in_ok-reserve.ensures.room))

pub returns-then-is_some : goal.returns-then-is_some
returns-then-is_some g c =
    let o = c.stop_after.ensures.stays.opened c.in_ok-open_write.ensures.opened in
    record { looked = record { vault = o.vault.looked; memory = o.memory }; sound = opened_sound (behind g.D.Disk.state) (vault_of c.stop_after.new.self) o.vault }

pub returns : goal.returns
returns g c =
    let state = behind g.D.Disk.state in
    let start = c.stop_after.new.self in
    let up : IsUp (vault_of start) = c.stop_after.ensures.stays.down ∙ c.in_ok-open_write.ensures.opened.vault.looked.up in
    let none : entry_open state start ≡ None = none_open _ c.pending.result (entry_open state start) (c.pending.ensures up) c.if-is_some.ensures in
    let sound = c.restart.ensures.restarts.sound start.inner (entry_open state start) (Some (entry_of c.args.entry.now)) ((c.open_entry.ensures.opens none).any_moment up) in
    log_looked state (λ f. g.D.Disk.images (inner_of f)) c.restart.new.self c.look.new.self c.look.result c.look.ensures sound
