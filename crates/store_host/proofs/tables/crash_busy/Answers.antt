use Rattle.std.proofs.Common.{ℕ, Option, None, refl, sym, subst}
use Rattle.disk_trait.specs.Fuse.{inner_of}
use Rattle.store_host.specs.Calls.{AreCrashed}
use Rattle.store_host.proofs.Lefts.{still_left, none_still}
use Rattle.store_host.proofs.Crashed.{none_crashed}
use Rattle.store_host.proofs.tables.crash_busy.Goals as goal

pub returns-in-Some-clause-crashed : goal.returns-in-Some-clause-crashed
returns-in-Some-clause-crashed g c w h =
    subst (λ (o : Option ℕ). AreCrashed g.D.Disk.state w o c.args.calls c.args.tables.now c.crash_at.new.tables) (sym c.in-Some.is) (c.crash_at.ensures.crashed w h)

pub returns-in_default-clause-crashed : goal.returns-in_default-clause-crashed
returns-in_default-clause-crashed g c w h =
    subst (λ (o : Option ℕ). AreCrashed g.D.Disk.state w o c.args.calls c.args.tables.now c.args.tables.now) (sym c.in_default.is)
    (none_crashed g.D.Disk.state w c.args.calls c.args.tables.now h None (λ luck. refl))

pub returns-in_default-clause-left : goal.returns-in_default-clause-left
returns-in_default-clause-left g c w h =
    still_left g.D.Disk.state g.D.Disk.images w c.args.tables.now c.args.tables.now
    (none_still g.D.Disk.state g.D.Disk.images (λ d image left. g.met.D.Disk.only_now (inner_of d) image left) w c.args.tables.now h)
