use Rattle.std.proofs.Common.{◌<◌, ℕ, refl, subst}
use Rattle.step_tables.specs.Messages as messages
use Rattle.store_host.specs.Holds.{faults_at}
use Rattle.node_steps.proofs.Counted.{added_badly, some_failed}
use Rattle.node_steps.proofs.moves.add.Goals as goal

pub returns-in-Err-Disk-clause-added : goal.returns-in-Err-Disk-clause-added
returns-in-Err-Disk-clause-added g c w h =
    let is = c.in-Err-Disk.field-0-is in
    let k = c.in-Err-Disk.ensures in (
      messages.FailedBefore,
      k.failed w h cc,
      some_failed g.D.Disk.state c.args.stores.now.tables c.add.new.self.tables _ refl
          (added_badly g.D.Disk.state c.args.stores.now.tables c.add.new.self.tables c.args.table 0 c.requires.absent
          (subst (λ (n : ℕ). n < faults_at g.D.Disk.state c.add.new.self.tables c.args.table) c.requires.sound (k.cause cc)) (λ q no. k.others_failed q no cc)),
    )

pub returns-in-Err-Disk-clause-rows : goal.returns-in-Err-Disk-clause-rows
returns-in-Err-Disk-clause-rows g c w h = let is = c.in-Err-Disk.field-0-is in c.in-Err-Disk.ensures.left_failed w h cc
