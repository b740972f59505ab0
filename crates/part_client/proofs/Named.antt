-- The names that the pieces of each object keep.
use Rattle.std.proofs.Common.{◌≡◌, List, [], ◌∷◌, map, refl, ap}
use Rattle.stab_base.specs.declared.chunk_name.ChunkName.{ChunkName}
use Rattle.row_value.specs.declared.pieces.PieceObject.{PieceObject}
use Rattle.step_tables.specs.Chunks.{kept_in}

pub names_are : (objects : List PieceObject) → map (λ (object : PieceObject). kept_in object.pieces) objects ≡ map kept_in (map (λ (object : PieceObject). object.pieces) objects)
names_are [] = refl
names_are (object ∷ objects) = ap (λ (l : List (List ChunkName)). kept_in object.pieces ∷ l) (names_are objects)
