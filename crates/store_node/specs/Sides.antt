-- What is put beside the rows of a table, as the step table has it and as the devices write it.
use Rattle.std.specs.Prelude.{ℕ, List, Option, map, option_map}
use Rattle.row_value.specs.declared.schema.Schema.{Schema}
use Rattle.row_store.specs.Data.{sub_of}
use Rattle.row_store.specs.Spelling.{IsClient}
use Rattle.row_store.specs.declared.stored.Sub.{Sub}
use Rattle.table_model.specs.declared.table_state.TableState.{TableState}
use Rattle.store_commit.specs.Devs.{Write, PutTable}
use Rattle.store_commit.specs.Devs as devs
use Rattle.step_tables.specs.StoreMoves.{Terms, PutState, PutSub}
use Rattle.step_tables.specs.StoreMoves as moves
use Rattle.device_laws.specs.Stands.{state_number, stored_terms, stored_subs}
use Rattle.table_model.specs.declared.event.SubTerms.{SubTerms}
use Rattle.store_node.specs.declared.side_put.SidePut.{SidePut}
use Rattle.store_node.specs.declared.side_put.SidePut.TheVariants.{State, Sub as SubOf}

-- a put as the step table has it
abbrev pub put_of : SidePut → moves.SidePut
put_of (State stage) = PutState stage
put_of (SubOf client terms) = PutSub client terms

abbrev pub sub_write : ℕ → Option SubTerms → Write
sub_write client terms = devs.PutSub client (option_map stored_terms terms)

-- its write
abbrev pub write_beside : Schema → SidePut → Write
write_beside schema (State stage) = PutTable schema (state_number stage)
write_beside schema (SubOf client terms) = sub_write client terms

-- a subscription is one of the clients'
abbrev pub IsOfClient : SidePut → Type 0
IsOfClient (State stage) = Unit {0}
IsOfClient (SubOf client terms) = IsClient client

-- the table's state behind a put
abbrev pub state_behind : moves.SidePut → TableState → TableState
state_behind (PutState stage) before = stage
state_behind (PutSub client terms) before = before

-- subscriptions as a node lists them
abbrev pub listed : List (ℕ × Terms) → List Sub
listed subs = map sub_of (stored_subs subs)
