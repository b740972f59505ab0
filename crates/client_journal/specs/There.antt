-- Which rows a start takes as not there, whatever the bytes of the disks are.
use Rattle.std.specs.Prelude.{◌≡◌, ℕ, ◌+◌, ◌==◌, ◌&&◌, ◌||◌, Bool, true, false, not, nat_lt, if◌then◌else◌}
use Rattle.std.specs.Prelude.{List, [], ◌∷◌, ◌++◌, length, filter, map, replicate, is_ok, Option, Some, None}
use Rattle.std.specs.List.{list_any, list_all}
use Rattle.std.specs.BTreeMap.{is_at}
use Rattle.std.specs.BTreeSet.{BTreeSet, contains}
use Rattle.stab_base.specs.declared.chunk_name.ChunkName.{ChunkName}
use Rattle.row_value.specs.declared.content.Content.{Content}
use Rattle.row_value.specs.declared.content.Content.TheVariants as contents
use Rattle.row_value.specs.declared.schema.Schema.{Schema}
use Rattle.row_value.specs.Fit.{fit_of}
use Rattle.chunker.specs.Sized.{count_of, len_at}
use Rattle.held_value.specs.declared.local_name.LocalName.{LocalName}
use Rattle.held_value.specs.declared.content.HeldPiece.{HeldPiece}
use Rattle.held_value.specs.declared.content.HeldObject.{HeldObject}
use Rattle.held_value.specs.declared.content.HeldContent.{HeldContent}
use Rattle.held_value.specs.declared.content.HeldContent.TheVariants.{Gone, Row}
use Rattle.held_value.specs.declared.slots.Main.{Main}
use Rattle.held_value.specs.declared.slots.Shadow.{Shadow}
use Rattle.held_value.specs.declared.slots.Out.{Out}
use Rattle.held_value.specs.declared.slots.Slots.{Slots}
use Rattle.chunk_store.specs.Payload.{name_cmp}
use Rattle.slot_store.specs.declared.held.RowKey.{RowKey}
use Rattle.slot_store.specs.declared.held.RowSlots.{RowSlots}
use Rattle.slot_store.specs.declared.held.TableRecord.{TableRecord}
use Rattle.slot_store.specs.Data.{SlotData, key_cmp, slots_of, record_of}
use Rattle.client_journal.specs.Names.{is_among, names_of, names_in}
use Rattle.client_journal.specs.Devs.{ClientDevs, chunk_of, local_in}
use Rattle.client_journal.specs.Redone.{redone}

-- ---- objects, and the lengths of the places of their chunks

abbrev pub has_len : Option (List ℕ) → ℕ → Bool
has_len None len = false
has_len (Some bytes) len = length bytes == len

-- From a place of an object on, each piece stands for a chunk with the length of its place.
abbrev pub lens_from : (LocalName → Option (List ℕ)) → ℕ → ℕ → ℕ → List HeldPiece → Bool
lens_from stands size len place [] = true
lens_from stands size len place (piece ∷ pieces) =
    has_len (stands piece.local) (len_at size len place) && lens_from stands size len (place + 1) pieces

-- an object has as many pieces as one of its length has chunks, and each stands for one with the length of its place
abbrev pub has_lens : (LocalName → Option (List ℕ)) → ℕ → HeldObject → Bool
has_lens stands size object =
    (length object.pieces == count_of size object.len) && lens_from stands size object.len 0 object.pieces

abbrev pub all_lens : (LocalName → Option (List ℕ)) → ℕ → HeldContent → Bool
all_lens stands size Gone = true
all_lens stands size (Row some objects) = list_all (has_lens stands size) objects

-- objects of these lengths; their bytes don't matter
abbrev pub zeros_for : List HeldObject → List (List ℕ)
zeros_for objects = map (λ object. replicate object.len 0) objects

abbrev pub sized : HeldContent → Content
sized Gone = contents.Gone
sized (Row some objects) = contents.Row some (zeros_for objects)

-- whether a content with objects of these lengths is a row of the table
abbrev pub fits_by_len : Schema → HeldContent → Bool
fits_by_len schema content = is_ok (fit_of schema (sized content))

-- ---- what is wrong with a content, whatever the other slots are

-- a chunk isn't there, or hasn't the length of its place
abbrev pub lacks : (LocalName → Option (List ℕ)) → Option TableRecord → HeldContent → Bool
lacks stands None content = false
lacks stands (Some table) content = not (all_lens stands table.schema.chunk content)

-- a name stands there twice, where these were met before
abbrev pub repeats : List LocalName → List LocalName → Bool
repeats met [] = false
repeats met (name ∷ names) = is_among met name || repeats (name ∷ met) names

-- the content doesn't fit the table's schema; nothing fits that of a table that has no record
abbrev pub misfits : Option TableRecord → HeldContent → Bool
misfits None content = true
misfits (Some table) content = not (fits_by_len table.schema content)

abbrev pub is_wrong : (LocalName → Option (List ℕ)) → Option TableRecord → HeldContent → Bool
is_wrong stands table content = lacks stands table content || (repeats [] (names_of content) || misfits table content)

-- ---- the four slots

abbrev pub in_main : (HeldContent → Bool) → Option Main → Bool
in_main test None = false
in_main test (Some main) = test main.content

abbrev pub in_shadow : (HeldContent → Bool) → Option Shadow → Bool
in_shadow test None = false
in_shadow test (Some shadow) = test shadow.content

abbrev pub in_out : (HeldContent → Bool) → Option Out → Bool
in_out test None = false
in_out test (Some out) = test out.content

-- one of the contents of the slots passes
abbrev pub any_content : (HeldContent → Bool) → Slots → Bool
any_content test slots =
    in_main test slots.main || (in_shadow test slots.shadow || (in_out test slots.out || in_shadow test slots.conflict))

-- one of the names is one of those before
abbrev pub shares : List LocalName → List LocalName → Bool
shares before names = list_any (λ name. is_among before name) names

-- one of the names has a plan above the greatest
abbrev pub exceeds : ℕ → List LocalName → Bool
exceeds greatest names = list_any (λ name. nat_lt greatest name.plan) names

abbrev pub Chunks : Type 0
Chunks = List (ChunkName × List ℕ)

-- The slots of a row aren't there, where these are the names of the rows before it that are: one of their contents
-- names a chunk that isn't on the device or hasn't the length of its place, names one twice, or doesn't fit the schema
-- of the table's record; or they name a chunk that a row before it names, or a plan above the greatest.
abbrev pub is_not_there : Chunks → Option TableRecord → ℕ → List LocalName → Slots → Bool
is_not_there chunks table greatest before slots =
    any_content (is_wrong (local_in chunks) table) slots
    || (shares before (names_in slots) || exceeds greatest (names_in slots))

-- ---- the rows by rising table and id

-- what is known of the rows: the chunks, what the devices stand for, and the greatest plan
abbrev pub is_hidden_at : Chunks → SlotData → ℕ → List LocalName → RowKey × RowSlots → Bool
is_hidden_at chunks held greatest before e = is_not_there chunks (record_of held e.0.table) greatest before e.1.slots

-- the keys of those that aren't there; a row that isn't there names nothing
abbrev pub hidden_from : Chunks → SlotData → ℕ → List LocalName → List (RowKey × RowSlots) → List RowKey
hidden_from chunks held greatest before [] = []
hidden_from chunks held greatest before (e ∷ rows) =
    if is_hidden_at chunks held greatest before e then e.0 ∷ hidden_from chunks held greatest before rows
    else hidden_from chunks held greatest (before ++ names_in e.1.slots) rows

-- the names of those that are
abbrev pub named_from : Chunks → SlotData → ℕ → List LocalName → List (RowKey × RowSlots) → List LocalName
named_from chunks held greatest before [] = before
named_from chunks held greatest before (e ∷ rows) =
    if is_hidden_at chunks held greatest before e then named_from chunks held greatest before rows
    else named_from chunks held greatest (before ++ names_in e.1.slots) rows

-- of the slots that the devices stand for, a commit at work applied
abbrev pub hidden_rows : ClientDevs → List RowKey
hidden_rows d = hidden_from d.chunks (redone d) d.journal.greatest [] (redone d).rows

abbrev pub names_there : ClientDevs → List LocalName
names_there d = named_from d.chunks (redone d) d.journal.greatest [] (redone d).rows

-- ---- sets

-- the set has these names
pub record HasNames (names : List LocalName) (set : BTreeSet ChunkName) : Type 0 where
  pub same : (name : LocalName) → contains name_cmp set (chunk_of name) ≡ is_among names name

abbrev pub is_key_among : RowKey → List RowKey → Bool
is_key_among key keys = list_any (is_at (key_cmp key)) keys

-- the set has these keys
pub record HasKeys (keys : List RowKey) (set : BTreeSet RowKey) : Type 0 where
  pub same : (key : RowKey) → contains key_cmp set key ≡ is_key_among key keys

-- without the rows that are hidden
abbrev pub shown : (RowKey → Bool) → SlotData → SlotData
shown is_hidden held =
    record { rows = filter (λ e. not (is_hidden e.0)) held.rows; tables = held.tables; last = held.last }

-- ---- whole rows

-- a content fits the schema, and each of its pieces stands for a chunk with the length of its place, each once
pub record IsWhole (stands : LocalName → Option (List ℕ)) (table : Option TableRecord) (slots : Slots) : Type 0 where
  pub right : any_content (is_wrong stands table) slots ≡ false

-- each row's slots are whole, where `meaning` is the bytes that each name stands for
pub record WholeSlots (meaning : LocalName → List ℕ) (held : SlotData) : Type 0 where
  pub each : (table : ℕ) (row : List ℕ) (stored : RowSlots) → slots_of held table row ≡ Some stored
      → IsWhole (λ name. Some (meaning name)) (record_of held table) stored.slots
