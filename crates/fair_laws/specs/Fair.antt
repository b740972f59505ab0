-- What a client writes and sends: each content is a row of its table, and each request is the client's own.
use Rattle.std.specs.Prelude.{◌≡◌, ℕ, List, [], Option, Some, None, Ok}
use Rattle.std.specs.List.{AllByRecursion}
use Rattle.row_value.specs.declared.content.Content.{Content}
use Rattle.row_value.specs.declared.schema.Schema.{Schema}
use Rattle.row_value.specs.Fit.{fit_of}
use Rattle.step_tables.specs.Slots.{Main}
use Rattle.step_tables.specs.Slots.{InFlight}
use Rattle.step_tables.specs.Messages.{Message, Send, SyncRequest, SyncResponse, PullRequest, PullResponse}
use Rattle.step_tables.specs.Messages.{TornRowRequest, TornRowResponse}
use Rattle.step_tables.specs.ClientMoves.{Slots, TableDisk, TableChange, Opens, Closes, RowPut, Plan, ClientDisk}
use Rattle.step_tables.specs.ClientMoves.{ClientChange, ClientTask, Client, ClientMove, ClientStep, Shape}
use Rattle.step_tables.specs.ClientMoves.{Commit, PutRow, PutTable, Finish, Keep, Alter}
use Rattle.step_tables.specs.ClientMoves.{table_at, client_step}
use Rattle.world_tables.specs.World.{World, schema_at, tasks_in, new_client, open_all}

-- ---- contents

-- the content is one of a row of this schema
abbrev pub IsFitContent : Schema → Content → Type 0
IsFitContent schema content = fit_of schema content ≡ Ok tt

-- what is written and what is sent of a row
pub record IsFairSlots (schema : Schema) (slots : Slots) : Type 0 where
  pub main : (m : Main) → slots.main ≡ Some m → IsFitContent schema m.content
  pub out : (o : InFlight) → slots.out ≡ Some o → IsFitContent schema o.content

abbrev pub IsFairRow : Schema → List ℕ × Slots → Type 0
IsFairRow schema entry = IsFairSlots schema entry.1

-- ---- disks: of each table the schema is known by its number

pub record IsFairTable (known : ℕ → Option Schema) (number : ℕ) (table : TableDisk) : Type 0 where
  pub schema : known number ≡ Some table.schema
  pub rows : AllByRecursion (IsFairRow table.schema) table.rows

abbrev pub IsFairPut : Option Schema → Option RowPut → Type 0
IsFairPut known None = Unit {0}
IsFairPut known (Some put) = (schema : Schema) × (known ≡ Some schema) × IsFairSlots schema put.slots

-- a table is opened with its own schema
abbrev pub IsFairAlter : Option Schema → TableChange → Type 0
IsFairAlter known (Opens schema) = known ≡ Some schema
IsFairAlter known Closes = Unit {0}

abbrev pub IsFairPlanBy : (ℕ → Option Schema) → Plan → Option TableChange → Type 0
IsFairPlanBy known p None = IsFairPut (known p.table) p.row
IsFairPlanBy known p (Some change) = IsFairAlter (known p.table) change

abbrev pub IsFairPlan : (ℕ → Option Schema) → Plan → Type 0
IsFairPlan known p = IsFairPlanBy known p p.alters

pub record IsFairDisk (known : ℕ → Option Schema) (d : ClientDisk) : Type 0 where
  pub tables : (number : ℕ) (table : TableDisk) → table_at d number ≡ Some table → IsFairTable known number table
  pub plan : (p : Plan) → d.plan ≡ Some p → IsFairPlan known p

-- ---- what is sent

-- a request is one of this client, and what it asks to be accepted is a row of its table
abbrev pub IsFairRequest : (ℕ → Option Schema) → ℕ → Message → Type 0
IsFairRequest known c (SyncRequest q) =
    (q.client ≡ c) × (schema : Schema) × (known q.table ≡ Some schema) × IsFitContent schema q.content
IsFairRequest known c (PullRequest q) = q.client ≡ c
IsFairRequest known c (SyncResponse r) = ⊥
IsFairRequest known c (PullResponse q) = ⊥
IsFairRequest known c (TornRowRequest q) = q.client ≡ c
IsFairRequest known c (TornRowResponse q) = ⊥

abbrev pub AreFairSends : (ℕ → Option Schema) → ℕ → List Send → Type 0
AreFairSends known c sends = AllByRecursion (λ (send : Send). IsFairRequest known c send.message) sends

-- ---- what is to be written

abbrev pub IsFairChange : (ℕ → Option Schema) → ClientChange → Type 0
IsFairChange known (Commit p) = IsFairPlan known p
IsFairChange known (PutRow p) = IsFairPut (known p.table) p.row
IsFairChange known (PutTable p) = IsFairPlan known p
IsFairChange known Finish = Unit {0}
IsFairChange known (Keep step) = Unit {0}

abbrev pub IsFairTask : (ℕ → Option Schema) → ℕ → ClientTask → Type 0
IsFairTask known c task = IsFairChange known task.change × AreFairSends known c task.sends

-- ---- a client, and a step of it

-- now and behind each of its writes
pub record IsFairClient (known : ℕ → Option Schema) (c : ℕ) (s : Client) : Type 0 where
  pub disk : IsFairDisk known s.disk
  pub tasks : AllByRecursion (IsFairTask known c) (tasks_in s.agenda)

pub record IsFairStep (known : ℕ → Option Schema) (c : ℕ) (step : ClientStep) : Type 0 where
  pub client : IsFairClient known c step.client
  pub sends : AreFairSends known c step.sends

-- a move that opens a table has the table's own schema
abbrev pub OpensKnown : (ℕ → Option Schema) → ClientMove → Type 0
OpensKnown known (Alter table change) = IsFairAlter (known table) change
OpensKnown known other = Unit {0}

-- Whatever is done to a client, it stays so, and each request that it sends is such a one.
abbrev pub ClientsStayFair : Type 0
ClientsStayFair = (known : ℕ → Option Schema) (c : ℕ) (shape : Shape) (s : Client) (move : ClientMove)
    → OpensKnown known move → IsFairClient known c s → IsFairStep known c (client_step c shape s move)

-- where more schemas are known it is such a one too
abbrev pub MoreIsKnown : Type 0
MoreIsKnown = (known more : ℕ → Option Schema) (c : ℕ) (s : Client)
    → ((number : ℕ) (schema : Schema) → known number ≡ Some schema → more number ≡ Some schema)
    → IsFairClient known c s → IsFairClient more c s

-- and so is one that joins
abbrev pub NewClientsAreFair : Type 0
NewClientsAreFair = (w : World) (c : ℕ) (tables : List ℕ)
    → IsFairClient (schema_at w) c (new_client (open_all w [] tables) (Some []))
