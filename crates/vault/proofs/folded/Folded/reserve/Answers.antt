use Rattle.std.proofs.Common.{refl, rules, arith}
use Rattle.std.specs.Prelude.{IsErrOf}
use Rattle.vault.specs.declared.fault.VaultFault.TheVariants.{Memory}
use Rattle.vault.proofs.Stayings.{stays_alone, stays_with, only_own}
use Rattle.vault.proofs.folded.Folded.reserve.Goals as goal

pub returns-in_err-reserve : goal.returns-in_err-reserve
returns-in_err-reserve g c = record {
  room = search rules;
  stays = search rules;
  any_moment = search rules;
  memory = λ is. let was : IsErrOf c.reserve.result Memory = search rules in stays_alone g.D.Disk.state g.F.Fold.fits g.F.Fold.has_spare c.args.self.now _ (c.reserve.ensures.memory was) refl refl;
  fuse = search rules;
  refuses = record { down = search rules; unchanged = search rules; disk = search rules; cause = search rules };
  only = only_own _;
}

pub returns-in_err-reserve-2 : goal.returns-in_err-reserve-2
returns-in_err-reserve-2 g c = record {
  room = search rules;
  stays = search rules;
  any_moment = search rules;
  memory = λ is. stays_with g.D.Disk.state g.F.Fold.fits g.F.Fold.has_spare c.args.self.now _ c.in_ok-reserve.ensures.stays c.reserve-2.ensures.same c.reserve-2.ensures.kept (omega arith);
  fuse = search rules;
  refuses = record { down = search rules; unchanged = search rules; disk = search rules; cause = search rules };
  only = only_own _;
}

pub returns-in_err-reserve-3 : goal.returns-in_err-reserve-3
returns-in_err-reserve-3 g c = record {
  room = search rules;
  stays = search rules;
  any_moment = search rules;
  memory = λ is. stays_with g.D.Disk.state g.F.Fold.fits g.F.Fold.has_spare c.args.self.now _ c.in_ok-reserve.ensures.stays c.reserve-2.ensures.same c.reserve-2.ensures.kept (omega (arith, c.clear.ensures.capacity, c.reserve-3.ensures.capacity));
  fuse = search rules;
  refuses = record { down = search rules; unchanged = search rules; disk = search rules; cause = search rules };
  only = only_own _;
}

pub returns : goal.returns
returns g c = record {
  room = search rules;
  stays = stays_with g.D.Disk.state g.F.Fold.fits g.F.Fold.has_spare c.args.self.now _ c.in_ok-reserve.ensures.stays c.reserve-2.ensures.same c.reserve-2.ensures.kept (omega (arith, c.clear.ensures.capacity, c.reserve-3.ensures.capacity));
  any_moment = search rules;
  memory = search rules;
  fuse = search rules;
  refuses = record { down = search rules; unchanged = search rules; disk = search rules; cause = search rules };
  only = tt;
}
