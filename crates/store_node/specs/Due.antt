-- What a write tells and sends once it is done.
use Rattle.std.specs.Prelude.{ℕ, Bool, true, false, List, [], ◌∷◌, Some}
use Rattle.stab_base.specs.declared.node.Node.{Node}
use Rattle.stab_base.specs.declared.step.Step.{Step}
use Rattle.stab_base.specs.declared.step.Step.TheVariants as steps
use Rattle.step_tables.specs.Facts.{Fact}
use Rattle.step_tables.specs.Facts as facts
use Rattle.step_tables.specs.Messages.{Send}
use Rattle.step_tables.specs.Messages as messages
use Rattle.step_tables.specs.StoreMoves.{told_beside}
use Rattle.store_commit.specs.Devs.{Write}
use Rattle.store_commit.specs.declared.recovery.Recovery.{Recovery}
use Rattle.store_commit.specs.declared.recovery.Recovery.TheVariants.{Nothing, Forward, Back}
use Rattle.store_node.specs.Sides.{put_of, state_behind}
use Rattle.store_node.specs.declared.told.StoreFact.{StoreFact}
use Rattle.store_node.specs.declared.told.StoreFact.TheVariants as told
use Rattle.store_node.specs.declared.owed.Owed.{Owed}
use Rattle.store_node.specs.declared.owed.Owed.TheVariants as owed
use Rattle.table_model.specs.declared.entry.Entry.{Entry}
use Rattle.table_model.specs.declared.table_state.TableState.{TableState}

abbrev pub fact_of : StoreFact → Fact
fact_of (told.Accepted table entry) = facts.Accepted table entry
fact_of (told.Forward table entry) = facts.Forward table entry
fact_of (told.Back table version) = facts.Back table version
fact_of (told.Recovered store table) = facts.StoreRecovered store table
fact_of (told.Made table) = facts.Made table
fact_of (told.Unmade table) = facts.Unmade table
fact_of (told.Saved table) = facts.Saved table

abbrev pub accepted : ℕ → Node → Entry → Send
accepted table to entry = record {
  to = Some to;
  message = messages.SyncResponse (record {
    client = entry.client;
    table = table;
    row = entry.row;
    number = entry.number;
    outcome = messages.Accepted entry.version;
  });
}

-- What a write of this name tells, which may be the last: the put of a row that its entry was accepted, the last write
-- of a start that the table has recovered, a put of the table's state what it is now.
abbrev pub told_at : ℕ → Owed → Step → Bool → List Fact
told_at table owed.Nothing step is_last = []
told_at table (owed.Update to entry) steps.RowPut is_last = facts.Accepted table entry ∷ []
told_at table (owed.Update to entry) step is_last = []
told_at table (owed.Start store) step true = facts.StoreRecovered store table ∷ []
told_at table (owed.Start store) step false = []
told_at table (owed.Place put) step is_last = told_beside table (put_of put)

-- and what it sends: the close of an entry answers its request
abbrev pub sent_at : ℕ → Owed → Step → List Send
sent_at table (owed.Update to entry) steps.LogClose = accepted table to entry ∷ []
sent_at table o step = []

-- the table's state behind a write, where it was put there
abbrev pub state_at : Owed → TableState → TableState
state_at (owed.Place put) before = state_behind (put_of put) before
state_at o before = before

-- whether no write stands behind
abbrev pub is_last_of : List Write → Bool
is_last_of [] = true
is_last_of (w ∷ ws) = false

-- what a start tells of the write that was at work
abbrev pub facts_found : ℕ → Recovery → List Fact
facts_found table Nothing = []
facts_found table (Forward e) = facts.Forward table (record {
  row = e.row;
  version = e.version;
  client = e.client;
  number = e.number;
  base = e.base;
}) ∷ []
facts_found table (Back version) = facts.Back table version ∷ []
