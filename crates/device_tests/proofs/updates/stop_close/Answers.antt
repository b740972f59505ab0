use Rattle.std.proofs.Common.{◌∙◌, None}
use Rattle.disk_trait.specs.Fuse.{behind, inner_of}
use Rattle.vault.specs.Standing.{IsUp}
use Rattle.vault.proofs.Uppers.{opened_sound}
use Rattle.status_log.specs.Standing.{entry_open, vault_of}
use Rattle.device_tests.proofs.Stands.{log_looked}
use Rattle.device_tests.proofs.updates.stop_close.Goals as goal

pub close_entry-requires-clause-room : goal.close_entry-requires-clause-room
close_entry-requires-clause-room g c up = c.stop_after.ensures.stays.room 0 1 9 (c.in_ok-open_write.ensures.room 0 1 9 c.in_ok-reserve.ensures.room)

pub returns-then-is_none : goal.returns-then-is_none
returns-then-is_none g c =
    let o = c.stop_after.ensures.stays.opened c.in_ok-open_write.ensures.opened in
    record { looked = record { vault = o.vault.looked; memory = o.memory }; sound = opened_sound (behind g.D.Disk.state) (vault_of c.stop_after.new.self) o.vault }

pub returns : goal.returns
returns g c =
    let state = behind g.D.Disk.state in
    let start = c.stop_after.new.self in
    let up : IsUp (vault_of start) = c.stop_after.ensures.stays.down ∙ c.in_ok-open_write.ensures.opened.vault.looked.up in
    let sound = c.restart.ensures.restarts.sound start.inner (entry_open state start) None (c.close_entry.ensures.any_moment up) in
    log_looked state (λ f. g.D.Disk.images (inner_of f)) c.restart.new.self c.look.new.self c.look.result c.look.ensures sound
