-- What a client's disk keeps, whatever is done to it: its tables and their rows stand in rising order, and each row that
-- waits is noted.
use Rattle.std.specs.Prelude.{◌≡◌, ℕ, ◌+◌, ◌≤◌, true, List, [], ◌∷◌, length, Option, Some, None, IsSome, IfSome}
use Rattle.std.specs.Ordering.{nat_cmp}
use Rattle.std.specs.Map.{keys_of}
use Rattle.std.specs.BTreeSet.{contains}
use Rattle.std.specs.List.Sorted.{IsStrictlySortedBy}
use Rattle.stab_base.specs.declared.limits.TheConstants.{NUMBER_MAX}
use Rattle.row_value.specs.declared.schema.Schema.{Schema}
use Rattle.value_codec.specs.SchemaSpelling.{HasSchemaSpelling, schema_spelling}
use Rattle.vault.specs.Limit.{payload_most}
use Rattle.plan_log.specs.Spelling.{IsTable}
use Rattle.slot_store.specs.Data.{key_cmp, key_at}
use Rattle.step_tables.specs.Client.{row_cmp}
use Rattle.step_tables.specs.ClientMoves.{Slots, TableDisk, RowPut, Plan, ClientDisk, ClientChange, ClientTask}
use Rattle.step_tables.specs.ClientMoves.{TableChange, Opens, Closes, Commit, PutRow, PutTable, Finish, Keep}
use Rattle.step_tables.specs.ClientMoves.{slots_at, table_at, to_send}
use Rattle.client_node.specs.declared.waiting.Waiting.{Waiting}

-- A row that is noted where its write waits for an answer, where it has one to send, and where it is in conflict; there
-- its id has sixteen bytes.
pub record IsNoted (waiting : Waiting) (table : ℕ) (row : List ℕ) (slots : Slots) : Type 0 where
  pub sent : IsSome slots.out → contains key_cmp waiting.outs (key_at table row) ≡ true
  pub ready : IsSome (to_send slots slots.out slots.main slots.conflict)
      → contains key_cmp waiting.ready (key_at table row) ≡ true
  pub conflict : IsSome slots.conflict → contains key_cmp waiting.conflicts (key_at table row) ≡ true
  pub sized : IsSome slots.conflict → length row ≡ 16

-- a payload has the schema with at most 128 bytes more, as the record of its table and the commit of a plan that opens
-- or closes it
abbrev pub IsShortSchema : Schema → Type 0
IsShortSchema schema = length (schema_spelling schema) + 128 ≤ payload_most

pub record IsSteadyTable (waiting : Waiting) (number : ℕ) (table : TableDisk) : Type 0 where
  pub numbered : IsTable number
  pub spelled : HasSchemaSpelling table.schema
  pub short : IsShortSchema table.schema
  pub rising : IsStrictlySortedBy row_cmp (keys_of table.rows)
  pub noted : (row : List ℕ) → IsNoted waiting number row (slots_at table row)

-- a table that is opened has a number, and its schema a spelling that isn't too long
abbrev pub IsSteadyAlter : ℕ → Option TableChange → Type 0
IsSteadyAlter table None = Unit {0}
IsSteadyAlter table (Some (Opens schema)) = IsTable table × HasSchemaSpelling schema × IsShortSchema schema
IsSteadyAlter table (Some Closes) = Unit {0}

pub record IsSteadyPlan (waiting : Waiting) (p : Plan) : Type 0 where
  pub few : p.last ≤ NUMBER_MAX
  pub alters : IsSteadyAlter p.table p.alters
  pub noted : IfSome p.row (λ put. IsNoted waiting p.table put.row put.slots)

pub record IsSteady (waiting : Waiting) (disk : ClientDisk) : Type 0 where
  pub few : disk.last ≤ NUMBER_MAX
  pub rising : IsStrictlySortedBy nat_cmp (keys_of disk.tables)
  pub each : (table : ℕ) → IfSome (table_at disk table) (IsSteadyTable waiting table)
  pub plan : IfSome disk.plan (IsSteadyPlan waiting)

-- of these tasks each plan
abbrev pub IsSteadyChange : Waiting → ClientChange → Type 0
IsSteadyChange waiting (Commit p) = IsSteadyPlan waiting p
IsSteadyChange waiting (PutRow p) = IsSteadyPlan waiting p
IsSteadyChange waiting (PutTable p) = IsSteadyPlan waiting p
IsSteadyChange waiting Finish = Unit {0}
IsSteadyChange waiting (Keep step) = Unit {0}

abbrev pub AreSteady : Waiting → List ClientTask → Type 0
AreSteady waiting [] = Unit {0}
AreSteady waiting (task ∷ tasks) = IsSteadyChange waiting task.change × AreSteady waiting tasks
