-- What becomes of a table's rows at a client where all its conflicts are resolved in one way.
use Rattle.std.specs.Prelude.{◌≡◌, ℕ, false, List, ◌++◌, Option, Some, None}
use Rattle.row_value.specs.declared.content.Content.{Content}
use Rattle.conflicts.specs.declared.pair.Choice.{Choice}
use Rattle.conflicts.specs.declared.pair.Choice.TheVariants as choices
use Rattle.conflicts.specs.declared.pair.Pair.{Pair}
use Rattle.conflicts.specs.declared.stored.Stored.{Stored}
use Rattle.conflicts.specs.Stored.{chosen}
use Rattle.table_model.specs.declared.line.RowPair.{RowPair}
use Rattle.table_model.specs.History.{same_row}
use Rattle.step_tables.specs.Slots.{Main}
use Rattle.step_tables.specs.Slots.{Shadow}
use Rattle.step_tables.specs.Members.{Among}
use Rattle.step_tables.specs.ClientMoves.{Slots, Client, no_slots, slots_of, seen}
use Rattle.world_tables.specs.World.{World, client_at, client_pairs}

-- what a client keeps of a row, as it is read
abbrev pub slots_in : Option Client → ℕ → List ℕ → Slots
slots_in None table row = no_slots
slots_in (Some node) table row = slots_of (seen node.disk) table row

abbrev pub kept_at : World → ℕ → ℕ → List ℕ → Slots
kept_at w c table row = slots_in (client_at w c) table row

abbrev pub pair_for : List ℕ → Main → Shadow → Pair
pair_for row main x =
    record { row = row; number = main.number; version = x.version; mine = main.content; theirs = x.content }

-- what is written where this is chosen: the client's content again, nothing, or a new content
abbrev pub content_for : Choice → Main → Option Content
content_for choices.Mine main = Some main.content
content_for choices.Theirs main = None
content_for (choices.New content) main = Some content

-- the write of this content over this version, whatever its number; none where there is none
abbrev pub IsMain : ℕ → Option Content → Option Main → Type 0
IsMain read None written = written ≡ None
IsMain read (Some content) written =
    (number : ℕ) × (written ≡ Some (record { number = number; read = read; content = content }))

-- a row that was in conflict is resolved: the Store's row is read, what was chosen is written over it, and nothing is
-- in conflict
pub record IsResolved (by : Stored) (row : List ℕ) (before after : Slots) : Type 0 where
  pub main : Main
  pub theirs : Shadow
  pub was_main : before.main ≡ Some main
  pub was_conflict : before.conflict ≡ Some theirs
  pub written : IsMain theirs.version (content_for (chosen by (pair_for row main theirs)) main) after.main
  pub read : after.shadow ≡ Some theirs
  pub waits : after.out ≡ before.out
  pub free : after.conflict ≡ None

-- of the rows in conflict, by rising row, the first ones are resolved, and all else is as it was
pub record FirstResolved (by : Stored) (c table : ℕ) (w v : World) : Type 0 where
  pub done : List RowPair
  pub rest : List RowPair
  pub split : client_pairs (client_at w c) table ≡ done ++ rest
  pub resolved : (pair : RowPair) → Among done pair
      → IsResolved by pair.row (kept_at w c table pair.row) (kept_at v c table pair.row)
  pub left : (row : List ℕ) → ((pair : RowPair) → Among done pair → same_row pair.row row ≡ false)
      → kept_at v c table row ≡ kept_at w c table row

-- each row that was in conflict is resolved, none is in conflict, and all else is as it was
pub record AllResolved (by : Stored) (c table : ℕ) (w v : World) : Type 0 where
  pub resolved : (row : List ℕ) (main : Main) (x : Shadow) → (kept_at w c table row).main ≡ Some main
      → (kept_at w c table row).conflict ≡ Some x → IsResolved by row (kept_at w c table row) (kept_at v c table row)
  pub left : (row : List ℕ) → (kept_at w c table row).conflict ≡ None → kept_at v c table row ≡ kept_at w c table row
  pub free : (row : List ℕ) → (kept_at v c table row).conflict ≡ None
