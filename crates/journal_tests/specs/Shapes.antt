-- The plans of the tests.
use Rattle.std.specs.Prelude.{ℕ, false, List, [], ◌∷◌, Option, Some, None}
use Rattle.row_value.specs.declared.schema.Schema.{Schema}
use Rattle.held_value.specs.declared.local_name.LocalName.{LocalName}
use Rattle.held_value.specs.declared.content.HeldPiece.{HeldPiece}
use Rattle.held_value.specs.declared.content.HeldObject.{HeldObject}
use Rattle.held_value.specs.declared.content.HeldContent.{HeldContent}
use Rattle.held_value.specs.declared.content.HeldContent.TheVariants.{Gone, Row}
use Rattle.held_value.specs.declared.slots.Slots.{Slots}
use Rattle.plan_log.specs.declared.plan.RowChange.{RowChange}
use Rattle.plan_log.specs.declared.plan.RecordChange.{RecordChange}
use Rattle.client_journal.specs.declared.plan.Plan.{Plan}

-- the piece of the brought chunk of this number
abbrev pub new_piece : ℕ → HeldPiece
new_piece ordinal = record { local = record { plan = 0; ordinal = ordinal }; name = None }

abbrev pub object_of : ℕ → List HeldPiece → HeldContent
object_of len pieces = Row [] (record { len = len; pieces = pieces } ∷ [])

-- a last write of a row, which isn't sent
abbrev pub main_of : ℕ → HeldContent → Slots
main_of number content =
    record {
      main = Some (record { number = number; read = 0; content = content });
      shadow = None;
      out = None;
      conflict = None;
    }

abbrev pub change_of : List ℕ → ℕ → HeldContent → RowChange
change_of row number content = record { row = row; slots = main_of number content }

-- a plan of table 1, which tells nothing
abbrev pub plan_of : ℕ → Option RowChange → Option ℕ → Option RecordChange → List (List ℕ) → List LocalName → Plan
plan_of last row position new_record brought drops = record {
  server = false;
  table = 1;
  last = last;
  row = row;
  position = position;
  new_record = new_record;
  brought = brought;
  drops = drops;
  tells = [];
}
