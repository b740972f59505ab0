-- What is seen of a table behind a write.
use Rattle.std.specs.Prelude.{◌≡◌, if◌then◌else◌, false, ℕ, List, [], ◌∷◌}
use Rattle.std.specs.BTreeMap.{is_at}
use Rattle.std.specs.BTreeSet.{BTreeSet, contains}
use Rattle.row_store.specs.Data.{id_cmp, row_of}
use Rattle.store_commit.specs.Devs.{Devs, Write, PutRow, changed_by}

-- behind the first of these writes, if there is one
abbrev pub behind_first : List Write → Devs → Devs
behind_first [] d = d
behind_first (w ∷ ws) d = changed_by d w

-- the two hold the same: of each id the same row, and all else is equal
pub record ShowsAlike (a b : Devs) : Type 0 where
  pub rows : (row : List ℕ) → row_of b.held row ≡ row_of a.held row
  pub table : b.held.table ≡ a.held.table
  pub subs : b.held.subs ≡ a.held.subs
  pub chunks : b.chunks ≡ a.chunks
  pub pending : b.pending ≡ a.pending

-- the ids that are hidden behind a write: a row that is put is no more
abbrev pub HiddenBehind : Write → BTreeSet (List ℕ) → BTreeSet (List ℕ) → Type 0
HiddenBehind (PutRow stored) old new = (row : List ℕ)
    → contains id_cmp new row ≡ (if is_at (id_cmp stored.row) row then false else contains id_cmp old row)
HiddenBehind _ old new = new ≡ old
