use Rattle.std.proofs.Common.{List, subst, ap, ◌∙◌}
use Rattle.std.specs.List.{AllByRecursion}
use Rattle.std.proofs.lemmas.Result.{IfOk-weaker}
use Rattle.stab_base.specs.declared.chunk_name.ChunkName.{ChunkName}
use Rattle.value_codec.specs.Spelling.{HasNameSpelling}
use Rattle.step_tables.specs.Chunks.{flat}
use Rattle.row_pieces.proofs.Flats.{each_all}
use Rattle.row_pieces.proofs.naming.is_named.Goals as goal

pub returns-clause-spelled : goal.returns-clause-spelled
returns-clause-spelled c =
    IfOk-weaker c.are_apart.result _ _
    (λ is to are. each_all HasNameSpelling c.args.names.now (subst (λ (l : List ChunkName). AllByRecursion HasNameSpelling l) (c.deref.ensures.value ∙ (c.in_ok-all.ensures ∙ ap flat c.as_slice-2.ensures)) (to are)))
    c.are_apart.ensures.spelled
