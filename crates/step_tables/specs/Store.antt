-- The items of a table at the Store: its rows as they are now, and the next change above a position.
use Rattle.std.specs.Prelude.{ℕ, ◌&&◌, nat_lt, not, List, [], ◌∷◌, map, Bool, Option, Some, None, if◌then◌else◌}
use Rattle.std.specs.List.{list_any}
use Rattle.stab_base.specs.declared.chunk_name.ChunkName.{ChunkName}
use Rattle.row_value.specs.declared.content.Content.{Content}
use Rattle.table_model.specs.declared.entry.Entry.{Entry}
use Rattle.table_model.specs.Last.{last_where}
use Rattle.table_model.specs.History.{same_row}

-- an entry of the history, what was written, and the names of the chunks of each of its objects
pub record Stored : Type 0 where
  pub entry : Entry
  pub content : Content
  pub names : List (List ChunkName)

abbrev pub entries_of : List Stored → List Entry
entries_of stored = map (λ (s : Stored). s.entry) stored

abbrev pub is_of_row : List ℕ → Stored → Bool
is_of_row row s = same_row s.entry.row row

-- the row as it is now
abbrev pub current_of : List Stored → List ℕ → Option Stored
current_of stored row = last_where (is_of_row row) stored

-- the first entry above a position behind which no entry of its row stands: the changed row of least version
abbrev pub next_changed : ℕ → List Stored → Option Stored
next_changed position [] = None
next_changed position (s ∷ later) =
    if nat_lt position s.entry.version && not (list_any (is_of_row s.entry.row) later) then Some s
    else next_changed position later

abbrev pub version_or : ℕ → Option Stored → ℕ
version_or position None = position
version_or position (Some s) = s.entry.version
