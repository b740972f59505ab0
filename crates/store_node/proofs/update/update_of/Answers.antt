use Rattle.std.proofs.Common.{List, ℕ, refl, sym, ◌∙◌, ap}
use Rattle.std.specs.List.{list_all}
use Rattle.row_value.specs.declared.pieces.PieceContent.{PieceContent}
use Rattle.chunk_store.specs.Standing.{chunk_in}
use Rattle.stab_base.specs.declared.chunk_name.ChunkName.{ChunkName}
use Rattle.store_commit.specs.declared.update.Update.{Update}
use Rattle.step_tables.specs.Chunks.{flat, each_chunk, objects_of}
use Rattle.store_node.specs.Update.{is_found}
use Rattle.store_node.proofs.Pieced.{made_again, missing_again}
use Rattle.store_node.proofs.Noted.{found_is_kept}
use Rattle.store_node.proofs.update.update_of.Goals as goal

pub returns-in-Some-clause-update : goal.returns-in-Some-clause-update
returns-in-Some-clause-update c =
    let q = c.args.request.now in
    let same = ap (λ (es : List (ChunkName × List ℕ)). list_all (is_found (chunk_in es)) (flat (each_chunk c.args.size q.pieces (objects_of q.content)))) c.in_ok-found.ensures
    ∙ found_is_kept c.args.size c.args.held.now q.content q.pieces c.requires.different in
    made_again made _ _ _ (c.in-Some.content, c.in-Some.fresh) _ _ same (sym c.in-Some.is ∙ c.in_ok-content.ensures.content) (ap with_number c.of_64_bits-number.ensures.same) refl
  where
    made : PieceContent × List (List ℕ) → Update
    made x = record { row = c.args.request.now.row; client = c.args.request.now.client; number = c.args.request.now.number; base = c.args.request.now.base; content = x.0; fresh = x.1 }

    with_number : ℕ → Update
    with_number n = record { row = c.args.request.now.row; client = c.args.request.now.client; number = n; base = c.args.request.now.base; content = c.in-Some.content; fresh = c.in-Some.fresh }

pub returns-clause-update : goal.returns-clause-update
returns-clause-update c =
    let q = c.args.request.now in
    let same = ap (λ (es : List (ChunkName × List ℕ)). list_all (is_found (chunk_in es)) (flat (each_chunk c.args.size q.pieces (objects_of q.content)))) c.in_ok-found.ensures
    ∙ found_is_kept c.args.size c.args.held.now q.content q.pieces c.requires.different in
    missing_again _ _ _ _ same (sym c.in-None.is ∙ c.in_ok-content.ensures.content)
