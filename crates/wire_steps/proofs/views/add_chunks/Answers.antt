use Rattle.std.proofs.Common.{ℕ, List, ◌++◌, sym, ◌∙◌, ap, subst}
use Rattle.std.specs.Prelude.{zip}
use Rattle.std.proofs.lemmas.List.{nil_from_length}
use Rattle.stab_base.specs.declared.chunk_name.ChunkName.{ChunkName}
use Rattle.step_tables.specs.Chunks.{cut}
use Rattle.chunker.specs.Cut.{IsCut}
use Rattle.chunker.proofs.Cuts.{one_cut}
use Rattle.row_pieces.proofs.Cuts.{cut_is}
use Rattle.part_store.specs.View.{under_names}
use Rattle.wire_steps.proofs.Viewed.{nothing_left}
use Rattle.wire_steps.proofs.views.add_chunks.Goals as goal

pub loop-bytes-init : goal.loop-bytes-init
loop-bytes-init c =
    let made = subst (λ (o : List ℕ). IsCut c.args.size o c.in_ok-cut.field-0) c.as_slice.ensures c.in_ok-cut.ensures in
    let is = c.into_iter-bytes-iterator.ensures.into_iter_gives.0 ∙ (c.into_vec-bytes-items.ensures
    ∙ one_cut c.args.size c.args.object.now c.in_ok-cut.field-0 (cut c.args.size c.args.object.now) c.requires made (cut_is c.args.size c.args.object.now c.requires)) in
    ap (λ (l : List (List ℕ)). c.args.chunks.now.items ++ under_names (zip c.as_slice-rest.result.now l)) is
    ∙ ap (λ (ns : List ChunkName). c.args.chunks.now.items ++ under_names (zip ns (cut c.args.size c.args.object.now))) c.as_slice-rest.ensures

pub returns : goal.returns
returns c =
    nothing_left c.loop-bytes.chunks.items c.loop-bytes.rest.now c.loop-bytes.bytes-iterator.rest.items _
    (nil_from_length _ (sym c.loop-bytes.bytes-iterator.rest.ok.0 ∙ c.in-None.ensures.steps.0)) c.loop-bytes.invariant
