-- Which events declare a table.
use Rattle.std.specs.Prelude.{◌≡◌, ℕ}
use Rattle.row_value.specs.declared.schema.Schema.{Schema}
use Rattle.table_model.specs.declared.event.Event.{Event}
use Rattle.table_model.specs.declared.table_state.TableState.{TableState}
use Rattle.world_tables.specs.Faults.{is_device_fault, fails_new}
use Rattle.world_tables.specs.World.{World, Lucks, silent, declared, first_luck, hosted_at, step}

-- the event declares this table, in this state
pub record Declares (event : Event) (table : ℕ) (schema : Schema) (state : TableState) : Type 0 where
  pub steps : (w : World) (lucks : Lucks) → step w event lucks
      ≡ silent (declared w table schema state (first_luck lucks.calls) (hosted_at w table))
  pub fails : (w : World) (lucks : Lucks) → is_device_fault w event lucks ≡ fails_new (hosted_at w table) lucks.calls
