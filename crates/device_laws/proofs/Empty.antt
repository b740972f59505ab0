-- A table without a row stands for the empty disk.
use Rattle.std.proofs.Common.{refl}
use Rattle.row_value.specs.declared.schema.Schema.{Schema}
use Rattle.table_model.specs.declared.table_state.TableState.{TableState}
use Rattle.step_tables.specs.StoreMoves.{new_disk}
use Rattle.device_laws.specs.Stands.{Stands}
use Rattle.device_laws.specs.Worked.{nothing_in}

pub nothing_stands : (schema : Schema) (state : TableState) → Stands schema (nothing_in schema state) (new_disk state)
nothing_stands schema state = record {
  held = record {
    table = refl;
    subs = refl;
    numbered = tt;
    made = tt;
    rows = λ row. tt;
  };
  chunks = record {
    held = λ name bytes h. absurd h.among;
    left = λ name a. absurd a;
    only = λ name bytes found. absurd cc;
    apart = λ name bytes a h. a;
  };
  entry = refl;
}
