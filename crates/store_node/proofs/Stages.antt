-- What the tasks of a node make of its table's state, and what a put beside its rows tells.
use Rattle.std.proofs.Common.{◌≡◌, ℕ, ◌≤◌, ◌++◌, List, [], ◌∷◌, refl, arith}
use Rattle.stab_base.specs.declared.chunk_name.ChunkName.{ChunkName}
use Rattle.stab_base.specs.declared.node.Node.{Node}
use Rattle.row_value.specs.declared.schema.Schema.{Schema}
use Rattle.store_commit.specs.Devs.{Devs}
use Rattle.device_laws.specs.Stands.{Stands, Follows}
use Rattle.device_laws.proofs.Beside.{state_follows, sub_follows}
use Rattle.table_model.specs.declared.entry.Entry.{Entry}
use Rattle.table_model.specs.declared.table_state.TableState.{TableState}
use Rattle.table_model.specs.declared.table_state.TableState.TheVariants.{Draft, Live, Dropped}
use Rattle.step_tables.specs.Chunks.{rising, new_names, old_names}
use Rattle.step_tables.specs.Messages.{Request}
use Rattle.step_tables.specs.Store.{Stored}
use Rattle.step_tables.specs.StoreMoves.{StoreDisk, StoreTask, SidePut, PutState, PutSub, put_beside, beside_task, accepting, recovering, reopening, puts, drops}
use Rattle.store_node.specs.Due.{state_at}
use Rattle.store_node.specs.Gathered.{HasRoom}
use Rattle.store_node.specs.Sides.{state_behind, put_of, write_beside}
use Rattle.store_node.specs.declared.side_put.SidePut as sides
use Rattle.store_node.specs.declared.side_put.SidePut.TheVariants.{State, Sub as SubOf}
use Rattle.store_node.specs.declared.gathered.Gathered.{Gathered}
use Rattle.store_node.specs.declared.told.StoreFact.{StoreFact}
use Rattle.store_node.specs.declared.owed.Owed.{Owed}
use Rattle.store_node.specs.declared.owed.Owed.TheVariants as owed
use Rattle.store_node.specs.Node.{PutStates, GoesWell, facts_in}
use Rattle.store_node.proofs.Starting.{no_room}

module _ (o : Owed) (keeps : (stage : TableState) → stage ≡ state_at o stage) where
  drops_keep : (names : List ChunkName) (tasks : List StoreTask) → PutStates o tasks → PutStates o (drops names ++ tasks)
  drops_keep [] tasks p = p
  drops_keep (name ∷ names) tasks p = ((λ disk. keeps disk.state), drops_keep names tasks p)

  puts_keep : (names : List ChunkName) (tasks : List StoreTask) → PutStates o tasks → PutStates o (puts names ++ tasks)
  puts_keep [] tasks p = p
  puts_keep (name ∷ names) tasks p = ((λ disk. keeps disk.state), puts_keep names tasks p)

pub accepting_puts : (from : Node) (entry : Entry) (size table : ℕ) (items : List Stored) (request : Request) (item : Stored)
    → PutStates (owed.Update from entry) (accepting size table items from request item)
accepting_puts from entry size table items request item = (
  (λ disk. refl),
  puts_keep (owed.Update from entry) (λ stage. refl) (new_names size item) _
      ((λ disk. refl), drops_keep (owed.Update from entry) (λ stage. refl) (old_names size items item) _ ((λ disk. refl), tt)),
)

pub recovering_puts : (store table : ℕ) (disk : StoreDisk) → PutStates (owed.Start store) (recovering store table disk)
recovering_puts store table disk =
    ((λ d. refl), ((λ d. refl), ((λ d. refl), drops_keep (owed.Start store) (λ stage. refl) (rising disk.left) _ ((λ d. refl), tt))))

pub reopening_puts : (store table : ℕ) → PutStates (owed.Start store) (reopening store table)
reopening_puts store table = ((λ d. refl), ((λ d. refl), ((λ d. refl), tt)))

-- ---- a put beside the rows

pub place_puts : (put : SidePut) (disk : StoreDisk) → (put_beside disk put).state ≡ state_behind put disk.state
place_puts (PutState stage) disk = refl
place_puts (PutSub client terms) disk = refl

pub place_room : (table : ℕ) (put : SidePut) (facts : Gathered StoreFact) → HasRoom facts 1 → HasRoom facts (facts_in (beside_task table put ∷ []))
place_room table (PutState Draft) facts room = no_room facts
place_room table (PutState Live) facts room = room
place_room table (PutState Dropped) facts room = room
place_room table (PutSub client terms) facts room = room

pub place_facts : (table : ℕ) (put : SidePut) → facts_in (beside_task table put ∷ []) ≤ 1
place_facts table (PutState Draft) = omega arith
place_facts table (PutState Live) = omega arith
place_facts table (PutState Dropped) = omega arith
place_facts table (PutSub client terms) = omega arith

pub place_follows : (schema : Schema) (d : Devs) (disk : StoreDisk) (table : ℕ) (put : sides.SidePut) → Stands schema d disk
    → Follows schema d (write_beside schema put ∷ []) disk (beside_task table (put_of put) ∷ [])
place_follows schema d disk table (State stage) st = state_follows schema d disk table stage st
place_follows schema d disk table (SubOf client terms) st = sub_follows schema d disk table client terms st

-- behind it the rows stand as they did, and no entry is open
pub place_well : (schema : Schema) (disk : StoreDisk) (table : ℕ) (put : SidePut) → GoesWell schema disk [] → GoesWell schema disk (beside_task table put ∷ [])
place_well schema disk table (PutState stage) well = (well.0, well)
place_well schema disk table (PutSub client terms) well = (well.0, well)
