-- What holds a row whose chunks are held already in part: these keep their local names.
use Rattle.std.specs.Prelude.{◌≡◌, ◌⊎◌, ℕ, ◌==◌, ◌<◌, ◌≤◌, false, List, [], ◌++◌, length, map, slice_index_or}
use Rattle.std.specs.Prelude.{if◌then◌else◌}
use Rattle.std.specs.Prelude.{Some, Ok}
use Rattle.std.specs.List.{AllByRecursion, Contains, flat_map}
use Rattle.stab_base.specs.declared.chunk_name.ChunkName.{ChunkName}
use Rattle.row_value.specs.declared.content.Content.{Content}
use Rattle.row_value.specs.Fit.{fit_of}
use Rattle.value_codec.specs.SchemaSpelling.{HasSchemaSpelling}
use Rattle.value_codec.specs.Spelling.{HasNameSpelling}
use Rattle.held_value.specs.declared.local_name.LocalName.{LocalName}
use Rattle.held_value.specs.declared.content.HeldPiece.{HeldPiece}
use Rattle.held_value.specs.declared.content.HeldObject.{HeldObject}
use Rattle.held_value.specs.declared.content.HeldContent.{HeldContent}
use Rattle.held_value.specs.declared.content.HeldContent.TheVariants.{Gone, Row}
use Rattle.held_codec.specs.Spelling.{HasHeldPiece}
use Rattle.slot_store.specs.declared.held.TableRecord.{TableRecord}
use Rattle.client_tables.specs.Plan.{IsBrought}
use Rattle.client_journal.specs.Names.{Has, names_of}
use Rattle.client_journal.specs.There.{repeats}
use Rattle.held_contents.specs.declared.holding.HeldNew.{HeldNew}
use Rattle.step_tables.specs.ClientMoves.{known}
use Rattle.journal_laws.specs.Moves.{plan_meaning}
use Rattle.journal_laws.specs.Whole.{whole, names_known, HaveLens}
use Rattle.held_contents.specs.Holding.{brought_name, pieces_shown, names_shown, AreShown}
use Rattle.plan_limits.specs.Fit.{IsFitContent, HaveWords}

-- ---- other local names

-- a content whose pieces have other local names
abbrev pub piece_under : (LocalName → LocalName) → HeldPiece → HeldPiece
piece_under f piece = record { local = f piece.local; name = piece.name }

abbrev pub object_under : (LocalName → LocalName) → HeldObject → HeldObject
object_under f object = record { len = object.len; pieces = map (piece_under f) object.pieces }

abbrev pub content_under : (LocalName → LocalName) → HeldContent → HeldContent
content_under f Gone = Gone
content_under f (Row cells objects) = Row cells (map (object_under f) objects)

-- A brought chunk has the local name of its number in the list, and another one its own.
abbrev pub local_for : List LocalName → LocalName → LocalName
local_for locals name = if name.plan == 0 then slice_index_or locals name.ordinal name else name

-- the pieces of objects, one behind the other
abbrev pub pieces_in : List HeldObject → List HeldPiece
pieces_in objects = flat_map (λ (object : HeldObject). object.pieces) objects

-- ---- chunks and their local names

-- a chunk that is held has this local name and these bytes
pub record IsHeldAs (held : List (List (HeldPiece × List ℕ))) (local : LocalName) (bytes : List ℕ) : Type 0 where
  pub object : List (HeldPiece × List ℕ)
  pub piece : HeldPiece
  pub there : Contains held object
  pub chunk : Contains object (piece, bytes)
  pub local_is : piece.local ≡ local

-- the name stands for one of the chunks that are brought, which has these bytes
pub record IsBroughtAs (new : List (List ℕ)) (local : LocalName) (bytes : List ℕ) : Type 0 where
  pub plan : local.plan ≡ 0
  pub below : local.ordinal < length new
  pub bytes_are : slice_index_or new local.ordinal [] ≡ bytes

-- each chunk that is held has a plan's number
abbrev pub AreNumbered : List (List (HeldPiece × List ℕ)) → Type 0
AreNumbered held = AllByRecursion (AllByRecursion (λ (chunk : HeldPiece × List ℕ). chunk.0.local.plan ≡ 0 → ⊥)) held

-- Each chunk that was brought has another local name: that of a chunk that is held and has its bytes, or its number
-- among those that are brought now. No two have one, and none has one that the content had; each that is brought now
-- was.
pub record IsKept (held : List (List (HeldPiece × List ℕ))) (old new : HeldNew) : Type 0 where
  pub locals : List LocalName
  pub content : new.content ≡ content_under (local_for locals) old.content
  pub count : length locals ≡ length old.brought
  pub each : (ordinal : ℕ) (none : LocalName) → ordinal < length old.brought
      → IsHeldAs held (slice_index_or locals ordinal none) (slice_index_or old.brought ordinal [])
      ⊎ IsBroughtAs new.brought (slice_index_or locals ordinal none) (slice_index_or old.brought ordinal [])
  pub once : AreNumbered held → repeats [] locals ≡ false
  pub apart : AreNumbered held → (name : LocalName) → Has locals name → (name.plan ≡ 0 → ⊥)
      → Has (names_of old.content) name → ⊥
  pub fewer : length new.brought ≤ length old.brought
  pub all_brought : (ordinal : ℕ) → ordinal < length new.brought → Has locals (brought_name ordinal)
  pub small : (most : ℕ) → AllByRecursion (λ bytes. length bytes ≤ most) old.brought
      → AllByRecursion (λ bytes. length bytes ≤ most) new.brought

-- ---- what holds a row

-- What holds the content of a row where these chunks are held, those that are shown first: it is whole under a plan of
-- any number above theirs, it names some of them and the chunks that it brings, and it is fit where they are. Its
-- chunks have the Store's names.
pub record HoldsKept (size : ℕ) (shown more : List (List (HeldPiece × List ℕ))) (content : Content)
    (given : List (List ChunkName)) (made : HeldNew) : Type 0 where
  pub whole_is : (meaning : LocalName → List ℕ) (number : ℕ) → AreShown meaning number (shown ++ more)
      → whole (plan_meaning meaning number made.brought) made.content ≡ content
  pub lens : (meaning : LocalName → List ℕ) (number : ℕ) → AreShown meaning number (shown ++ more)
      → HaveLens (plan_meaning meaning number made.brought) made.content
  pub fit : (meaning : LocalName → List ℕ) (number : ℕ) → AreShown meaning number (shown ++ more)
      → (table : TableRecord) → table.schema.chunk ≡ size → HasSchemaSpelling table.schema
      → fit_of table.schema content ≡ Ok tt → HaveWords content
      → AllByRecursion (AllByRecursion HasNameSpelling) given
      → AllByRecursion HasHeldPiece (pieces_shown (shown ++ more)) → repeats [] (names_shown shown) ≡ false
      → IsFitContent (plan_meaning meaning number made.brought) (Some table) made.content
  pub names : (meaning : LocalName → List ℕ) (number : ℕ) → AreShown meaning number (shown ++ more)
      → (name : LocalName) → Has (names_of made.content) name
      → Has (names_shown (shown ++ more)) name ⊎ IsBrought (length made.brought) name
  pub named : names_known made.content ≡ known given
  pub all_brought : (ordinal : ℕ) → ordinal < length made.brought
      → Has (names_of made.content) (brought_name ordinal)
  pub small : AllByRecursion (λ bytes. length bytes ≤ size) made.brought
