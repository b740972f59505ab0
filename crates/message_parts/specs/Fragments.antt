-- The chunks of a row, each on its way.
use Rattle.std.specs.Prelude.{ℕ, Bool, true, List, [], map, Option, Some, None}
use Rattle.row_value.specs.declared.content.Content.{Content}
use Rattle.row_value.specs.declared.pieces.Piece.{Piece}
use Rattle.assemblies.specs.declared.awaiting.Awaited.{Awaited}
use Rattle.assemblies.specs.Parts.{chunk_in}
use Rattle.step_tables.specs.Messages.{Header}
use Rattle.table_model.specs.declared.message.Message.{Message}
use Rattle.table_model.specs.declared.message.Message.TheVariants as kinds
use Rattle.part_tables.specs.Parts.{Fragment, fragments_of, kept}
use Rattle.message_parts.specs.declared.fragments.Way.{Way}
use Rattle.message_parts.specs.Parts as parts

-- the chunk of a content that stands there
abbrev pub fragment_at : ℕ → Way → Content → Awaited → Fragment
fragment_at size way content it = record {
  client = way.client;
  table = way.table;
  row = way.row;
  key = way.key;
  column = it.column;
  place = it.place;
  bytes = chunk_in size content it.column it.place;
}

abbrev pub sent_at : ℕ → Way → Content → Awaited → Message
sent_at size way content it = kinds.ObjectFragment (parts.fragment_at way.down (fragment_at size way content it))

-- the chunks of a row that go to a client
abbrev pub chunks_of_row : (Piece → Bool) → ℕ → ℕ → ℕ → Option Header → List Fragment
chunks_of_row sends size client table None = []
chunks_of_row sends size client table (Some h) =
    fragments_of sends size client table h.row h.version h.content (kept h.names)

abbrev pub down : List Fragment → List Message
down fragments = map (λ (f : Fragment). kinds.ObjectFragment (parts.fragment_at true f)) fragments
