use Rattle.std.proofs.Common.{refl, rules}
use Rattle.disk_trait.specs.Fuse.{behind}
use Rattle.vault.proofs.Stayings.{stays_alone}
use Rattle.vault.proofs.folded_fused.Folded+FuseDisk+D+F.stop_after.Goals as goal

pub returns : goal.returns
returns g c = record {
  armed = search rules;
  stays = stays_alone (behind g.D.Disk.state) g.F.Fold.fits g.F.Fold.has_spare c.args.self.now _ c.stop_after.ensures.stays refl refl;
  any_moment = search rules;
}
