use Rattle.std.proofs.Common.{◌≡◌, refl}
use Rattle.vault.specs.File.{StandsForOne}
use Rattle.vault.specs.Standing.{payloads}
use Rattle.vault.proofs.Quiet.{still, quiet}
use Rattle.vault.proofs.vault.Vault.reserve.Goals as goal

pub returns-in_err-reserve-clause-any_moment : goal.returns-in_err-reserve-clause-any_moment
returns-in_err-reserve-clause-any_moment g c up sound =
    still g.D.Disk.state g.D.Disk.images g.met.D.Disk.only_now c.args.self.now.disk (c.requires.ready up).synced (StandsForOne (λ list. list ≡ payloads g.D.Disk.state c.args.self.now)) (payloads g.D.Disk.state c.args.self.now, sound, refl)

pub returns-in_err-reserve-2-clause-any_moment : goal.returns-in_err-reserve-2-clause-any_moment
returns-in_err-reserve-2-clause-any_moment g c up sound =
    still g.D.Disk.state g.D.Disk.images g.met.D.Disk.only_now c.args.self.now.disk (c.requires.ready up).synced (StandsForOne (λ list. list ≡ payloads g.D.Disk.state c.args.self.now)) (payloads g.D.Disk.state c.args.self.now, sound, refl)

pub returns-in-Ok-clause-any_moment : goal.returns-in-Ok-clause-any_moment
returns-in-Ok-clause-any_moment g c up sound =
    quiet g.D.Disk.state g.D.Disk.images g.met.D.Disk.only_now c.args.self.now.disk (c.requires.ready up).synced (StandsForOne (λ list. list ≡ payloads g.D.Disk.state c.args.self.now)) (payloads g.D.Disk.state c.args.self.now, sound, refl)
    c.room.new.self c.room.ensures.same c.room.ensures.time

pub returns-in-Err-Memory-clause-any_moment : goal.returns-in-Err-Memory-clause-any_moment
returns-in-Err-Memory-clause-any_moment g c up sound =
    quiet g.D.Disk.state g.D.Disk.images g.met.D.Disk.only_now c.args.self.now.disk (c.requires.ready up).synced (StandsForOne (λ list. list ≡ payloads g.D.Disk.state c.args.self.now)) (payloads g.D.Disk.state c.args.self.now, sound, refl)
    c.room.new.self c.room.ensures.same c.room.ensures.time

pub returns-in-Err-Failed-clause-any_moment : goal.returns-in-Err-Failed-clause-any_moment
returns-in-Err-Failed-clause-any_moment g c up sound =
    quiet g.D.Disk.state g.D.Disk.images g.met.D.Disk.only_now c.args.self.now.disk (c.requires.ready up).synced (StandsForOne (λ list. list ≡ payloads g.D.Disk.state c.args.self.now)) (payloads g.D.Disk.state c.args.self.now, sound, refl)
    c.room.new.self c.room.ensures.same c.room.ensures.time
