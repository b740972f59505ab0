-- Small devices, over which it is computed which rows a start takes as not there.
use Rattle.std.specs.Prelude.{ℕ, true, List, [], ◌∷◌, map, Option, Some, None}
use Rattle.row_value.specs.declared.schema.Column.{Column}
use Rattle.row_value.specs.declared.schema.ColumnKind.TheVariants as kinds
use Rattle.row_value.specs.declared.schema.Scheme.TheVariants.{Causal}
use Rattle.row_value.specs.declared.schema.Schema.{Schema}
use Rattle.held_value.specs.declared.local_name.LocalName.{LocalName}
use Rattle.held_value.specs.declared.content.HeldObject.{HeldObject}
use Rattle.held_value.specs.declared.content.HeldContent.{HeldContent}
use Rattle.held_value.specs.declared.content.HeldContent.TheVariants.{Gone, Row}
use Rattle.held_value.specs.declared.slots.Slots.{Slots}
use Rattle.slot_store.specs.declared.held.RowKey.{RowKey}
use Rattle.slot_store.specs.declared.held.RowSlots.{RowSlots}
use Rattle.slot_store.specs.Data.{key_at}
use Rattle.plan_log.specs.declared.plan.Commit.{Commit}
use Rattle.plan_log.specs.Journal.{AtWork, Idle, Committed}
use Rattle.client_journal.specs.Devs.{ClientDevs, chunk_of}

-- one object in chunks of two bytes
abbrev pub small_schema : Schema
small_schema =
    record {
      name = [];
      scheme = Causal;
      chunk = 2;
      columns = record { name = []; kind = kinds.Object } ∷ [];
    }

abbrev pub named : ℕ → ℕ → LocalName
named plan ordinal = record { plan = plan; ordinal = ordinal }

-- two chunks of two bytes, one of one, and one of two whose plan is above the greatest
abbrev pub first : LocalName
first = named 1 0

abbrev pub last : LocalName
last = named 1 1

abbrev pub later : LocalName
later = named 2 0

abbrev pub above : LocalName
above = named 3 0

abbrev pub absent : LocalName
absent = named 1 7

abbrev pub object : ℕ → List LocalName → HeldObject
object len names = record { len = len; pieces = map (λ name. record { local = name; name = None }) names }

-- a content of one object
abbrev pub one : ℕ → List LocalName → HeldContent
one len names = Row [] (object len names ∷ [])

-- and one of two
abbrev pub two : List LocalName → HeldContent
two names = Row [] (object 2 names ∷ object 0 [] ∷ [])

abbrev pub no_slots : Slots
no_slots = record { main = None; shadow = None; out = None; conflict = None }

abbrev pub in_main : HeldContent → Slots
in_main content = record {
  main = Some (record { number = 1; read = 0; content = content });
  shadow = None;
  out = None;
  conflict = None;
}

abbrev pub in_shadow : HeldContent → Slots
in_shadow content =
    record { main = None; shadow = Some (record { version = 1; content = content }); out = None; conflict = None }

abbrev pub in_out : HeldContent → Slots
in_out content = record {
  main = None;
  shadow = None;
  out = Some (record { number = 1; read = 0; base = 0; whole = true; content = content; pieces = [] });
  conflict = None;
}

abbrev pub in_conflict : HeldContent → Slots
in_conflict content =
    record { main = None; shadow = None; out = None; conflict = Some (record { version = 1; content = content }) }

abbrev pub in_two : HeldContent → HeldContent → Slots
in_two content other = record {
  main = Some (record { number = 1; read = 0; content = content });
  shadow = Some (record { version = 1; content = other });
  out = None;
  conflict = None;
}

abbrev pub key : ℕ → ℕ → RowKey
key table id = key_at table (id ∷ [])

abbrev pub row : ℕ → ℕ → Slots → RowKey × RowSlots
row table id slots = (key table id, record { table = table; row = id ∷ []; last = 0; slots = slots })

-- tables 1 and 2 have a record, and table 3 has none
abbrev pub small_at : AtWork → List (RowKey × RowSlots) → ClientDevs
small_at work rows =
    record {
      chunks = (chunk_of first, 5 ∷ 6 ∷ []) ∷ (chunk_of last, 7 ∷ []) ∷ (chunk_of later, 8 ∷ 9 ∷ [])
          ∷ (chunk_of above, 1 ∷ 2 ∷ []) ∷ [];
      held = record {
        rows = rows;
        tables = (1, record { table = 1; state = 1; schema = small_schema; position = 0 })
            ∷ (2, record { table = 2; state = 1; schema = small_schema; position = 0 }) ∷ [];
        last = 0;
      };
      journal = record { greatest = 2; at_work = work };
    }

abbrev pub small : List (RowKey × RowSlots) → ClientDevs
small rows = small_at Idle rows

-- a commit that puts these slots of a row of table 1
abbrev pub puts_slots : ℕ → Slots → AtWork
puts_slots id slots = Committed (record {
  plan = 2;
  last = 0;
  table = 1;
  row = Some (record { row = id ∷ []; slots = slots });
  position = None;
  new_record = None;
  drops = [];
  tells = [];
})
