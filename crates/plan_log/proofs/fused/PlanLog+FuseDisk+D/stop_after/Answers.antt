use Rattle.std.proofs.Common.{◌≡◌, ap}
use Rattle.disk_trait.specs.Fuse.{behind, inner_of}
use Rattle.vault.specs.Standing.{payloads}
use Rattle.vault.proofs.Uppers.{runs_weaker}
use Rattle.plan_log.specs.Journal.{journal_of}
use Rattle.plan_log.proofs.fused.PlanLog+FuseDisk+D.stop_after.Goals as goal

pub returns : goal.returns
returns g c =
    let old = c.args.self.now.inner.vault in
    let new = c.stop_after.new.self.vault in
    let before = payloads (behind g.D.Disk.state) old in
    record {
      armed = c.stop_after.ensures.armed;
      stays = c.stop_after.ensures.stays;
      any_moment = λ up synced sound. runs_weaker (behind g.D.Disk.state) (λ f. g.D.Disk.images (inner_of f)) old new (λ l. l ≡ before) (λ l. journal_of l ≡ journal_of before)
          (c.stop_after.ensures.any_moment up synced sound) (λ l is. ap journal_of is);
    }
