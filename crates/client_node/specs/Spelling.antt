-- How the chunks of a write are spelled against what was read last.
use Rattle.std.specs.Prelude.{◌≡◌, ℕ, ◌<◌, ◌^◌, List, length, map, Option}
use Rattle.row_value.specs.declared.content.Content.{Content}
use Rattle.row_value.specs.declared.pieces.Piece.{Piece}
use Rattle.field_codec.specs.Forms.{AreEach}
use Rattle.value_codec.specs.Spelling.{HasPieceSpelling}
use Rattle.held_value.specs.declared.local_name.LocalName.{LocalName}
use Rattle.held_value.specs.declared.content.HeldContent.{HeldContent}
use Rattle.held_value.specs.declared.slots.Shadow.{Shadow as HeldShadow}
use Rattle.client_journal.specs.Devs.{ClientDevs}
use Rattle.step_tables.specs.Chunks.{flat, cut, objects_of}
use Rattle.journal_laws.specs.Whole.{whole}
use Rattle.held_contents.specs.Reading.{AreThere, AreThereIf, chunks_shown, content_read}
use Rattle.held_contents.specs.Request.{request_pieces}

-- the chunks of each object of a content, in chunks of a size
abbrev pub cuts_of : ℕ → Content → List (List (List ℕ))
cuts_of size content = map (cut size) (objects_of content)

-- These pieces spell the chunks of a content against what was read last.
pub record SpellsContent (d : ClientDevs) (size : ℕ) (shadow : Option HeldShadow) (content : Content) (pieces : List Piece)
    : Type 0 where
  pub are : (meaning : LocalName → List ℕ) → AreThereIf meaning d (content_read shadow)
      → pieces ≡ request_pieces (chunks_shown meaning (content_read shadow)) (cuts_of size content)
  pub spelled : AreEach HasPieceSpelling pieces

-- a content whose chunks are there, and can be numbered
pub record IsFewChunks (d : ClientDevs) (size : ℕ) (held : HeldContent) : Type 0 where
  pub meaning : LocalName → List ℕ
  pub there : AreThere meaning d held
  pub few : length (flat (cuts_of size (whole meaning held))) < 2 ^ 32
