-- How the rows that wait are noted, and taken off again.
use Rattle.std.specs.Prelude.{◌≡◌, ℕ, ◌&&◌, Bool, not, true, List, []}
use Rattle.std.specs.List.{list_any}
use Rattle.std.specs.BTreeMap.{is_at}
use Rattle.std.specs.BTreeSet.{BTreeSet, contains, keys}
use Rattle.slot_store.specs.declared.held.RowKey.{RowKey}
use Rattle.slot_store.specs.Data.{key_cmp, key_at}
use Rattle.client_node.specs.declared.waiting.Waiting.{Waiting}

-- each row that was noted still is
pub record IsMore (old new : Waiting) : Type 0 where
  pub outs : (key : RowKey) → contains key_cmp old.outs key ≡ true → contains key_cmp new.outs key ≡ true
  pub ready : (key : RowKey) → contains key_cmp old.ready key ≡ true → contains key_cmp new.ready key ≡ true
  pub conflicts : (key : RowKey) → contains key_cmp old.conflicts key ≡ true
      → contains key_cmp new.conflicts key ≡ true

-- whether a key is that of one of these rows of a table
abbrev pub is_key_of : ℕ → List (List ℕ) → RowKey → Bool
is_key_of table rows key = list_any (λ row. is_at (key_cmp (key_at table row)) key) rows

-- these rows of a table are taken off a set, and no others
abbrev pub TakesOff : ℕ → List (List ℕ) → BTreeSet RowKey → BTreeSet RowKey → Type 0
TakesOff table rows old new =
    (key : RowKey) → contains key_cmp new key ≡ (contains key_cmp old key && not (is_key_of table rows key))

-- no row is noted
pub record NoneNoted (w : Waiting) : Type 0 where
  pub outs : keys w.outs ≡ []
  pub ready : keys w.ready ≡ []
  pub conflicts : keys w.conflicts ≡ []

-- a row is noted as one that waits for an answer, as one that has a write to send, and as one in conflict
pub record IsNotedTwice (w : Waiting) (table : ℕ) (row : List ℕ) : Type 0 where
  pub out : contains key_cmp w.outs (key_at table row) ≡ true
  pub ready : contains key_cmp w.ready (key_at table row) ≡ true
  pub conflict : contains key_cmp w.conflicts (key_at table row) ≡ true
