-- What a scan of the slots finds.
use Rattle.std.specs.Prelude.{◌≡◌, ℕ, List, [], ◌∷◌, ◌++◌, Option, Some, None}
use Rattle.std.specs.BTreeSet.{insert_key}
use Rattle.std.specs.Map.{keys_of}
use Rattle.std.specs.List.Sorted.{IsStrictlySortedBy}
use Rattle.std.specs.Bool.{MatchBool}
use Rattle.slot_store.specs.declared.held.RowKey.{RowKey}
use Rattle.slot_store.specs.declared.held.RowSlots.{RowSlots}
use Rattle.slot_store.specs.Data.{SlotData, key_cmp, record_of}
use Rattle.held_value.specs.declared.local_name.LocalName.{LocalName}
use Rattle.held_value.specs.declared.slots.Slots.{Slots}
use Rattle.client_journal.specs.declared.scanned.Scanned.{Scanned}
use Rattle.client_journal.specs.Names.{names_in}
use Rattle.client_journal.specs.Devs.{ClientDevs}
use Rattle.client_journal.specs.Redone.{redone}
use Rattle.client_journal.specs.There.{Chunks, is_not_there, hidden_from, named_from, hidden_rows, names_there}
use Rattle.client_journal.specs.There.{HasNames, HasKeys}

-- ---- the rows behind a commit

-- the slots that it puts, or else those that are held
abbrev pub put_or : Option RowSlots → Option RowSlots → Option RowSlots
put_or None held = held
put_or (Some put) held = Some put

-- these keys, and the one that waits for its place among them
abbrev pub with_waiting : Option RowKey → List RowKey → List RowKey
with_waiting None rest = rest
with_waiting (Some key) rest = insert_key key_cmp rest key

-- ---- the scan

-- Slots of a row are noted: that they aren't there, or their names.
pub record NotesRow (chunks : Chunks) (held : SlotData) (greatest : ℕ) (key : RowKey) (slots : Slots)
    (old new : Scanned) : Type 0 where
  pub noted : (before : List LocalName) (keys : List RowKey) → HasNames before old.named → HasKeys keys old.hidden
      → MatchBool (is_not_there chunks (record_of held key.table) greatest before slots)
      (HasNames before new.named × HasKeys (keys ++ key ∷ []) new.hidden)
      (HasNames (before ++ names_in slots) new.named × HasKeys keys new.hidden)

-- what was found of the rows behind the first ones, which are gone through: the names and keys so far, and those to
-- come
pub record IsScanned (chunks : Chunks) (held : SlotData) (greatest : ℕ) (rest : List (RowKey × RowSlots))
    (found : Scanned) : Type 0 where
  pub before : List LocalName
  pub keys : List RowKey
  pub named : HasNames before found.named
  pub hidden : HasKeys keys found.hidden
  pub all_named : named_from chunks held greatest [] held.rows ≡ named_from chunks held greatest before rest
  pub all_hidden : hidden_from chunks held greatest [] held.rows ≡ keys ++ hidden_from chunks held greatest before rest

-- the keys of the rows that aren't there, and the names of those that are
pub record IsFound (d : ClientDevs) (found : Scanned) : Type 0 where
  pub named : HasNames (names_there d) found.named
  pub hidden : HasKeys (hidden_rows d) found.hidden
  pub rising : IsStrictlySortedBy key_cmp (keys_of (redone d).rows)
