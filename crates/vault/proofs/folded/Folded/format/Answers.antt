use Rattle.std.proofs.Common.{refl, rules}
use Rattle.std.specs.Prelude.{IsErrOf}
use Rattle.vault.specs.declared.fault.VaultFault.TheVariants.{Memory}
use Rattle.vault.proofs.Stayings.{stays_alone, only_own}
use Rattle.vault.proofs.folded.Folded.format.Goals as goal

pub returns-in_err-format : goal.returns-in_err-format
returns-in_err-format g c = record {
  opened = search rules;
  empty = search rules;
  durable = search rules;
  blank = search rules;
  room = search rules;
  memory = λ is. let was : IsErrOf c.format.result Memory = search rules in stays_alone g.D.Disk.state g.F.Fold.fits g.F.Fold.has_spare c.args.self.now _ (c.format.ensures.memory was) refl refl;
  fuse = search rules;
  refuses = record { down = search rules; unchanged = search rules; disk = search rules; cause = search rules };
  only = only_own _;
}
