-- Which Store owned a table when a message was sent to it.
use Rattle.std.specs.Prelude.{◌≡◌, ◌⊎◌, ℕ, List, ◌++◌, Option, None}
use Rattle.row_value.specs.declared.schema.Schema.{Schema}
use Rattle.world_tables.specs.World.{owner_by}

-- These Stores are declared now, and this is what the table is. The Store was its owner by what was there then: some
-- Stores may have joined since, and a table that wasn't declared may be.
pub record WasOwner (stores : List ℕ) (schema : Option Schema) (number : ℕ) : Type 0 where
  pub later : List ℕ
  pub earlier : List ℕ
  pub known : Option Schema
  pub joined : stores ≡ later ++ earlier
  pub declared : (known ≡ None) ⊎ (known ≡ schema)
  pub is : number ≡ owner_by earlier known
