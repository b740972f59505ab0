-- What is declared of a world's gateways, and what each call makes of them.
use Rattle.std.specs.Prelude.{ℕ, ◌+◌, Bool, false, List, [], ◌∷◌, map, Option, Some, None, is_some}
use Rattle.std.specs.Prelude.{if◌then◌else◌}
use Rattle.std.specs.Ordering.{nat_cmp}
use Rattle.std.specs.Map.{lookup}
use Rattle.std.specs.BTreeMap.{is_at, insert_entry}
use Rattle.stab_base.specs.declared.node.Node.{Node}
use Rattle.row_value.specs.declared.schema.Schema.{Schema}
use Rattle.table_model.specs.declared.message.Message.{Message}
use Rattle.ring_map.specs.Owners.{owner_on}
use Rattle.gate_tables.specs.declared.timer.Placed.{Placed}
use Rattle.gate_tables.specs.Gate.{Gateway, Running, Directory, Done, taken, crashed, started}
use Rattle.gateway_core.specs.Directories.{owners_of}

-- ---- the directory that declared Stores and tables give

abbrev pub schema_in : List (ℕ × Schema) → ℕ → Option Schema
schema_in schemas table = lookup (is_at (nat_cmp table)) schemas

abbrev pub place_of : List ℕ → Schema → Placed
place_of stores schema = record { owner = owner_on schema.name stores; scheme = schema.scheme }

-- no table is anywhere where there is no Store
abbrev pub places_of : List ℕ → List (ℕ × Schema) → List (ℕ × Placed)
places_of [] schemas = []
places_of (store ∷ stores) schemas = map (λ e. (e.0, place_of (store ∷ stores) e.1)) schemas

abbrev pub directory_by : List ℕ → List (ℕ × Schema) → Directory
directory_by stores schemas = record {
  tables = places_of stores schemas;
  owners = owners_of (places_of stores schemas);
}

-- a table that is there stays
abbrev pub with_schema : ℕ → Schema → List (ℕ × Schema) → List (ℕ × Schema)
with_schema table schema schemas =
    if is_some (schema_in schemas table) then schemas else insert_entry nat_cmp schemas table schema

-- ---- gateways

abbrev pub gate_in : List (ℕ × Gateway) → ℕ → Option Gateway
gate_in gates number = lookup (is_at (nat_cmp number)) gates

abbrev pub put_gate : ℕ → Gateway → List (ℕ × Gateway) → List (ℕ × Gateway)
put_gate number gateway gates = insert_entry nat_cmp gates number gateway

abbrev pub up : ℕ → Running → Gateway
up starts running = record { starts = starts; running = Some running }

abbrev pub down : ℕ → Gateway
down starts = record { starts = starts; running = None }

abbrev pub is_up_in : Option Gateway → Bool
is_up_in None = false
is_up_in (Some gateway) = is_some gateway.running

-- it is up and has no sessions
abbrev pub new_gate : Gateway
new_gate = record { starts = 0; running = Some (record { drawn = 0; sessions = [] }) }

-- a gateway that is there stays
abbrev pub added : ℕ → Option Gateway → List (ℕ × Gateway) → List (ℕ × Gateway)
added number None gates = put_gate number new_gate gates
added number (Some gateway) gates = gates

abbrev pub with_gate : ℕ → List (ℕ × Gateway) → List (ℕ × Gateway)
with_gate number gates = added number (gate_in gates number) gates

abbrev pub fallen : ℕ → Option Gateway → List (ℕ × Gateway) → List (ℕ × Gateway)
fallen number None gates = gates
fallen number (Some gateway) gates = put_gate number (crashed gateway) gates

abbrev pub with_crash : ℕ → List (ℕ × Gateway) → List (ℕ × Gateway)
with_crash number gates = fallen number (gate_in gates number) gates

-- how often a gateway starts, at most
abbrev pub most_starts : ℕ
most_starts = 4294967295

-- one that is up stays
abbrev pub restarted : Gateway → Gateway
restarted gateway = if is_some gateway.running then gateway else started gateway (gateway.starts + 1)

abbrev pub risen : ℕ → Option Gateway → List (ℕ × Gateway) → List (ℕ × Gateway)
risen number None gates = gates
risen number (Some gateway) gates = if is_some gateway.running then gates
    else put_gate number (started gateway (gateway.starts + 1)) gates

abbrev pub with_start : ℕ → List (ℕ × Gateway) → List (ℕ × Gateway)
with_start number gates = risen number (gate_in gates number) gates

-- ---- messages

-- what a message makes of the gateway of a number that is up
abbrev pub done_by : List ℕ → List (ℕ × Schema) → ℕ → ℕ → Running → Node → Message → Done
done_by stores schemas number starts running from message =
    taken (directory_by stores schemas) number starts running from message

abbrev pub with_done : ℕ → ℕ → Done → List (ℕ × Gateway) → List (ℕ × Gateway)
with_done number starts d gates = put_gate number (up starts d.running) gates
