use Rattle.std.proofs.Common.{◌∙◌}
use Rattle.vault.specs.Calls.{IsEither}
use Rattle.client_journal.proofs.Renewing.{renewed_devs, renewed_disks, renewed_fresh, renewed_same, renewed_ready}
use Rattle.client_journal.proofs.fused.Journal+FuseDisk+D.renew.Goals as goal

pub returns-clause-fresh : goal.returns-clause-fresh
returns-clause-fresh g c = renewed_fresh g.D.Disk.state g.D.Disk.images c.args.self.now c.renew.new.self c.renew-2.new.self c.renew-3.new.self c.renew.ensures c.renew-2.ensures.renews c.renew-3.ensures

pub returns-clause-devs : goal.returns-clause-devs
returns-clause-devs g c = renewed_same g.D.Disk.state g.D.Disk.images c.args.self.now c.renew.new.self c.renew-2.new.self c.renew-3.new.self c.renew.ensures c.renew-2.ensures.renews c.renew-3.ensures

pub returns-clause-up : goal.returns-clause-up
returns-clause-up g c up = record { chunks = c.renew.ensures.stays.down ∙ up.chunks; slots = c.renew-2.ensures.renews.stays.down ∙ up.slots; journal = c.renew-3.ensures.stays.down ∙ up.journal }

pub returns-clause-synced : goal.returns-clause-synced
returns-clause-synced g c synced = record { chunks = c.renew.ensures.stays.synced synced.chunks; slots = c.renew-2.ensures.renews.stays.synced synced.slots; journal = c.renew-3.ensures.stays.synced synced.journal }

pub returns-clause-sound : goal.returns-clause-sound
returns-clause-sound g c sound = record { chunks = c.renew.ensures.stays.sound sound.chunks; slots = c.renew-2.ensures.renews.stays.sound sound.slots; journal = c.renew-3.ensures.stays.sound sound.journal }

pub returns-clause-ready : goal.returns-clause-ready
returns-clause-ready g c ws ready = renewed_ready g.D.Disk.state g.D.Disk.images c.args.self.now c.renew.new.self c.renew-2.new.self c.renew-3.new.self c.renew.ensures c.renew-2.ensures.renews c.renew-3.ensures ws ready

pub returns-clause-inner : goal.returns-clause-inner
returns-clause-inner g c = renewed_disks g.D.Disk.state g.D.Disk.images c.args.self.now c.renew.new.self c.renew-2.new.self c.renew-3.new.self c.renew.ensures c.renew-2.ensures.renews c.renew-3.ensures

pub returns-clause-left : goal.returns-clause-left
returns-clause-left g c start a b run =
    renewed_devs g.D.Disk.state g.D.Disk.images start c.args.self.now _ (IsEither a b)
    (renewed_disks g.D.Disk.state g.D.Disk.images c.args.self.now c.renew.new.self c.renew-2.new.self c.renew-3.new.self c.renew.ensures c.renew-2.ensures.renews c.renew-3.ensures) run
