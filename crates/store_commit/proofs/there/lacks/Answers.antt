use Rattle.std.proofs.Common.{◌≡◌, ℕ, List, Bool, not, Option, Some, refl, sym, ◌∙◌, ap, subst}
use Rattle.std.specs.List.{list_all}
use Rattle.row_value.specs.declared.pieces.PieceObject.{PieceObject}
use Rattle.chunk_store.specs.Standing.{chunks, chunk_in}
use Rattle.store_commit.specs.There.{kept, has_lens, lacks}
use Rattle.store_commit.proofs.there.lacks.Goals as goal

pub returns-in-Row : goal.returns-in-Row
returns-in-Row g c =
    let stands = kept (chunk_in (chunks g.D.Disk.state c.args.dev.now)) in
    let all = c.all_lens.ensures ∙ ap (λ (l : List PieceObject). list_all (has_lens stands c.in-Some.schema.chunk) l) c.as_slice.ensures in
    rw (c.in-Some.is, c.in-Row.is) (ap not all)
