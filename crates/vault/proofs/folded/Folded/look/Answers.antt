use Rattle.std.proofs.Common.{◌≡◌, refl, rules, arith, ◌∙◌}
use Rattle.std.specs.Prelude.{IsErrOf}
use Rattle.vault.specs.declared.fault.VaultFault.TheVariants.{Memory}
use Rattle.vault.proofs.Stayings.{stays_alone, stays_then, only_own}
use Rattle.vault.specs.Standing.{payloads}
use Rattle.vault.proofs.Uppers.{runs_then}
use Rattle.vault.proofs.folded.Folded.look.Goals as goal

pub returns-in_err-look : goal.returns-in_err-look
returns-in_err-look g c = record {
  looked = search rules;
  same = search rules;
  sound = search rules;
  room = search rules;
  any_moment = search rules;
  memory = λ is was. let at : IsErrOf c.look.result Memory = search rules in stays_alone g.D.Disk.state g.F.Fold.fits g.F.Fold.has_spare c.args.self.now _ (c.look.ensures.memory at) refl refl;
  memory_same = search rules;
  memory_synced = search rules;
  memory_up = search rules;
  memory_sound = search rules;
  fuse = search rules;
  refuses = record { down = search rules; unchanged = search rules; disk = search rules; cause = search rules };
  only = only_own _;
}

pub returns-in_err-self : goal.returns-in_err-self
returns-in_err-self g c = record {
  looked = search rules;
  same = search rules;
  sound = search rules;
  room = search rules;
  any_moment = λ up sound.
      runs_then g.D.Disk.state g.D.Disk.images c.args.self.now.vault c.look.new.self c.note_all.new.vault (λ list. list ≡ payloads g.D.Disk.state c.args.self.now.vault) (λ list. list ≡ payloads g.D.Disk.state c.look.new.self) (λ list. list ≡ payloads g.D.Disk.state c.args.self.now.vault)
      (c.look.ensures.any_moment up sound) (c.note_all.ensures.any_moment (c.in_ok-look.ensures.sound sound)) (λ list is. is) (λ list is. is ∙ c.in_ok-look.ensures.same);
  memory = λ is was.
      let at : IsErrOf c.note_all.result Memory = search rules in
      stays_alone g.D.Disk.state g.F.Fold.fits g.F.Fold.has_spare c.args.self.now _
      (stays_then g.D.Disk.state c.args.self.now.vault c.look.new.self c.note_all.new.vault (c.in_ok-look.ensures.stays was.vault) (c.note_all.ensures.memory at)) refl refl;
  memory_same = search rules;
  memory_synced = search rules;
  memory_up = search rules;
  memory_sound = search rules;
  fuse = search rules;
  refuses = record { down = search rules; unchanged = search rules; disk = search rules; cause = search rules };
  only = only_own _;
}

pub returns : goal.returns
returns g c = record {
  looked = search rules;
  same = search rules;
  sound = search rules;
  room = record {
    vault = c.in_ok-self.ensures.stays.room 1 0 0 c.in_ok-look.ensures.room;
    memory = λ some. absurd (omega arith);
    payload = λ some. absurd (omega arith);
  };
  any_moment = λ up sound.
      runs_then g.D.Disk.state g.D.Disk.images c.args.self.now.vault c.look.new.self c.note_all.new.vault (λ list. list ≡ payloads g.D.Disk.state c.args.self.now.vault) (λ list. list ≡ payloads g.D.Disk.state c.look.new.self) (λ list. list ≡ payloads g.D.Disk.state c.args.self.now.vault)
      (c.look.ensures.any_moment up sound) (c.note_all.ensures.any_moment (c.in_ok-look.ensures.sound sound)) (λ list is. is) (λ list is. is ∙ c.in_ok-look.ensures.same);
  memory = search rules;
  memory_same = search rules;
  memory_synced = search rules;
  memory_up = search rules;
  memory_sound = search rules;
  fuse = search rules;
  refuses = record { down = search rules; unchanged = search rules; disk = search rules; cause = search rules };
  only = tt;
}
