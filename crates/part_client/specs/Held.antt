-- What a client holds of a row.
use Rattle.std.specs.Prelude.{◌≡◌, ℕ, List}
use Rattle.step_tables.specs.ClientMoves.{TableDisk, slots_at, top}
use Rattle.part_tables.specs.ClientParts.{held_in}
use Rattle.part_client.specs.declared.held.RowHeld.{RowHeld}

-- of the row of an opened table
pub record IsHeldOf (opened : TableDisk) (row : List ℕ) (view : RowHeld) : Type 0 where
  pub position : view.position ≡ opened.position
  pub chunk : view.chunk ≡ opened.schema.chunk
  pub read : view.read ≡ top (slots_at opened row).conflict (slots_at opened row).shadow
  pub held : view.held.items ≡ held_in opened.schema.chunk (slots_at opened row)
