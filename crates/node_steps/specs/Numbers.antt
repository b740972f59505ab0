-- The numbers of a world's tables and clients.
use Rattle.std.specs.Prelude.{◌≡◌, ℕ, ◌≤◌, true, is_some}
use Rattle.row_store.specs.Spelling.{IsClient}
use Rattle.world_tables.specs.World.{World, schema_at, hosted_at, client_at}

-- a table that has a schema is hosted; the numbers of tables and of clients are from 1 to 64
pub record AreNumbered (w : World) : Type 0 where
  pub both : (table : ℕ) → is_some (schema_at w table) ≡ is_some (hosted_at w table)
  pub tables : (table : ℕ) → is_some (hosted_at w table) ≡ true → (1 ≤ table) × (table ≤ 64)
  pub clients : (client : ℕ) → is_some (client_at w client) ≡ true → IsClient client
