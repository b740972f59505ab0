use Rattle.std.proofs.Common.{refl, rules}
use Rattle.std.proofs.lemmas.Result.{on_ok_weaker}
use Rattle.vault.proofs.Stayings.{stays_alone}
use Rattle.vault.proofs.folded.Folded.read.Goals as goal

pub returns-clause-reads : goal.returns-clause-reads
returns-clause-reads g c = record {
  stays = on_ok_weaker c.get.result (λ s. stays_alone g.D.Disk.state g.F.Fold.fits g.F.Fold.has_spare c.args.self.now _ s refl refl) c.get.ensures.stays;
  any_moment = search rules;
  memory = λ is. stays_alone g.D.Disk.state g.F.Fold.fits g.F.Fold.has_spare c.args.self.now _ (c.get.ensures.memory is) refl refl;
  fuse = search rules;
  refuses = record { down = search rules; unchanged = search rules; disk = search rules; cause = search rules };
}
