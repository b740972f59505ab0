-- The content that a device's row gives, with its chunks read from the devices.
use Rattle.std.specs.Prelude.{◌≡◌, ℕ, List, [], ◌∷◌, length, map, Some}
use Rattle.std.specs.List.{concat}
use Rattle.row_value.specs.declared.content.Content.{Content}
use Rattle.row_value.specs.declared.content.Content.TheVariants as contents
use Rattle.row_value.specs.declared.pieces.PieceObject.{PieceObject}
use Rattle.row_value.specs.declared.pieces.PieceContent.{PieceContent}
use Rattle.row_value.specs.declared.pieces.PieceContent.TheVariants.{Gone, Row}
use Rattle.store_commit.specs.Devs.{Devs}
use Rattle.store_commit.specs.NamedChunks.{names_in, chunks_for}
use Rattle.stab_base.specs.declared.row_version.RowVersion.{RowVersion}
use Rattle.step_tables.specs.Store.{Stored}

-- each chunk that the object names is there, and one behind the other they are these bytes
pub record IsRead (d : Devs) (object : PieceObject) (bytes : List ℕ) : Type 0 where
  pub len : object.len ≡ length bytes
  pub pieces : List (List ℕ)
  pub there : chunks_for d (names_in object.pieces) ≡ map (λ piece. Some piece) pieces
  pub whole : concat pieces ≡ bytes

abbrev pub AreRead : Devs → List PieceObject → List (List ℕ) → Type 0
AreRead d [] [] = Unit {0}
AreRead d (object ∷ objects) (bytes ∷ more) = IsRead d object bytes × AreRead d objects more
AreRead d objects whole = ⊥

abbrev pub Reads : Devs → PieceContent → Content → Type 0
Reads d Gone contents.Gone = Unit {0}
Reads d (Row cells objects) (contents.Row these whole) = (cells ≡ these) × AreRead d objects whole
Reads d content other = ⊥

-- the row of an item, and its version
abbrev pub row_version_of : Stored → RowVersion
row_version_of item = record { version = item.entry.version; row = item.entry.row }
