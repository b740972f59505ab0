use Rattle.disk_trait.specs.Fuse.{behind}
use Rattle.vault.proofs.Stayings.{stays_alone}
use Rattle.vault.proofs.folded_fused.Folded+FuseDisk+D+F.renew.Goals as goal
use Rattle.std.proofs.Common.{refl}

pub returns : goal.returns
returns g c = record {
  inner = c.renew.ensures.inner;
  fuse = c.renew.ensures.fuse;
  stays = stays_alone (behind g.D.Disk.state) g.F.Fold.fits g.F.Fold.has_spare c.args.self.now _ c.renew.ensures.stays refl refl;
  left = λ start a b run. c.renew.ensures.left start.vault a b run;
}
