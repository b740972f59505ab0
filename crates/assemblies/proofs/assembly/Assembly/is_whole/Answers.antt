use Rattle.std.proofs.Common.{◌==◌, ap, ◌∙◌}
use Rattle.assemblies.specs.Gathering.{is_whole}
use Rattle.assemblies.proofs.Slots.{whole_by_count}
use Rattle.assemblies.proofs.assembly.Assembly.is_whole.Goals as goal

pub returns : goal.returns
returns c =
    ap (λ n. n == 0) c.self.invariant.lacks
    ∙ whole_by_count c.self.inside.awaited c.self.inside.came.items c.self.inside.chunks.items c.self.invariant.flags c.self.invariant.count
    ∙ ap is_whole c.self.view_is
