use Rattle.std.proofs.Common.{sym, subst}
use Rattle.disk_trait.specs.Image.{Pending, LeavesLess, settled, shortened}
use Rattle.disk_trait.proofs.Images.{less_shortened}
use Rattle.disk_trait.proofs.Moments.{two_calls}
use Rattle.disk_trait.proofs.durable.cut_durably.Goals as goal

pub returns-clause-any_moment : goal.returns-clause-any_moment
returns-clause-any_moment g c =
    let file = settled (g.D.Disk.state c.args.disk.now).seen in
    let limit = shortened c.args.len file in
    two_calls g.D.Disk.state g.D.Disk.images g.met.D.Disk.only_now c.args.disk.now c.cut.new.self c.sync.new.self limit
    (subst (λ (p : Pending). LeavesLess p limit) (sym c.requires.durable) (less_shortened c.args.len file))
    c.cut.ensures.time
    (subst (λ (p : Pending). LeavesLess (g.D.Disk.state c.cut.new.self).pending (shortened c.args.len p)) c.requires.durable c.cut.ensures.crash)
    c.sync.ensures.time c.sync.ensures.crash
