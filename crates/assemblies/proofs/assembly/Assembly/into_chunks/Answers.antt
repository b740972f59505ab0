use Rattle.std.proofs.Common.{◌≡◌, true, List, sym, subst, ap, ◌∙◌}
use Rattle.assemblies.specs.Gathering.{Slot, is_whole, chunks_of}
use Rattle.assemblies.proofs.Slots.{chunks_when_whole}
use Rattle.assemblies.proofs.assembly.Assembly.into_chunks.Goals as goal

pub returns : goal.returns
returns c =
    let whole = subst (λ (s : List Slot). is_whole s ≡ true) (sym c.self.view_is) c.requires in
    c.from_vec.ensures
    ∙ chunks_when_whole c.self.inside.awaited c.self.inside.came.items c.self.inside.chunks.items c.self.invariant.flags c.self.invariant.count whole
    ∙ ap chunks_of c.self.view_is
