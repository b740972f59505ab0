use Rattle.std.proofs.Common.{◌≡◌, List, true, None, cond, take, get_or, sym, subst}
use Rattle.std.specs.BTreeMap.{is_at}
use Rattle.std.specs.BTreeSet.{contains}
use Rattle.stab_base.specs.declared.chunk_name.ChunkName.{ChunkName}
use Rattle.chunk_store.specs.Payload.{name_cmp}
use Rattle.held_value.specs.declared.local_name.LocalName.{LocalName}
use Rattle.held_value.specs.declared.content.HeldPiece.{HeldPiece}
use Rattle.client_journal.specs.Names.{names_of_pieces}
use Rattle.client_journal.specs.There.{HasNames}
use Rattle.client_journal.proofs.Theres.{no_names, names_push}
use Rattle.kept_chunks.proofs.SoFar.{names_take}
use Rattle.kept_chunks.proofs.pieces.taken_by.Goals as goal

pub loop-piece-init : goal.loop-piece-init
loop-piece-init c = no_names c.new-taken.result c.new-taken.ensures.empty

pub loop-piece-preserved : goal.loop-piece-preserved
loop-piece-preserved c =
    let none : HeldPiece = record { local = record { plan = 0; ordinal = 0 }; name = None } in
    let piece : HeldPiece = get_or c.args.pieces.now c.loop-piece.piece-index none in
    subst (λ (names : List LocalName). HasNames names c.insert.new.self) (sym (names_take c.args.pieces.now c.loop-piece.piece-index none c.loop-piece-test.true))
    (names_push c.loop-piece.taken c.insert.new.self (names_of_pieces (take c.loop-piece.piece-index c.args.pieces.now)) piece.local c.loop-piece.invariant
    (subst (λ (k : ChunkName). (q : ChunkName) → contains name_cmp c.insert.new.self q ≡ cond (is_at (name_cmp k) q) true (contains name_cmp c.loop-piece.taken q)) c.chunk_name.ensures c.in_ok-insert.ensures.updates.0))
