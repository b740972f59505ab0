-- Devices that hold nothing, and a table that is declared.
use Rattle.std.proofs.Common.{◌≡◌, inl, inr, ⊎_elim, ℕ, List, Option, Some, None, refl, sym, ap}
use Rattle.std.specs.Ordering.{nat_cmp}
use Rattle.std.specs.Map.{lookup}
use Rattle.std.specs.BTreeMap.{insert_entry, is_at}
use Rattle.row_value.specs.declared.schema.Schema.{Schema}
use Rattle.stab_base.specs.declared.chunk_name.ChunkName.{ChunkName}
use Rattle.held_value.specs.declared.local_name.LocalName.{LocalName}
use Rattle.slot_store.specs.declared.held.TableRecord.{TableRecord}
use Rattle.slot_store.specs.Data.{SlotData, with_record}
use Rattle.plan_log.specs.Journal.{AtWork, Idle, Intended, Committed}
use Rattle.client_journal.specs.Devs.{ClientDevs, PutRecord, changed_by}
use Rattle.client_journal.specs.NamedSlots.{NamedSlots, IsNotCommitted}
use Rattle.step_tables.specs.ClientMoves.{Plan, TableDisk, ClientDisk, slots_in, opened_table}
use Rattle.journal_laws.specs.Holds.{HoldsTables, StandsPlan, Stands}
use Rattle.journal_laws.specs.Moves.{opened_record}
use Rattle.journal_laws.proofs.Tables.{table_put}

-- the record of a table without a row
declared_held : (meaning : LocalName → List ℕ) (held : SlotData) (last : ℕ) (tables : List (ℕ × TableDisk)) (at : ℕ) (schema : Schema) → HoldsTables meaning held last tables
    → lookup (is_at (nat_cmp at)) tables ≡ None
    → HoldsTables meaning (with_record held (opened_record at schema)) last (insert_entry nat_cmp tables at (opened_table schema))
declared_held meaning held last tables at schema h none =
    table_put meaning held last tables (opened_record at schema) (opened_table schema) h (record { state = refl; schema = refl; position = refl })
    (λ r. ap (λ (o : Option TableDisk). slots_in o r) (sym none))

abbrev devs_of : List (ChunkName × List ℕ) → SlotData → ℕ → AtWork → ClientDevs
devs_of cs held greatest work = record { chunks = cs; held = held; journal = record { greatest = greatest; at_work = work } }

named_still : (meaning : LocalName → List ℕ) (cs : List (ChunkName × List ℕ)) (held : SlotData) (greatest : ℕ) (work : AtWork) (table : TableRecord) → IsNotCommitted work
    → NamedSlots meaning (devs_of cs held greatest work) → NamedSlots meaning (devs_of cs (with_record held table) greatest work)
named_still meaning cs held greatest Idle table not_ n = record {
  there = λ name a. n.there name (record { table = a.table; row = a.row; stored = a.stored; there = a.there; among = a.among });
  once = λ name a b. n.once name (record { table = a.table; row = a.row; stored = a.stored; there = a.there; among = a.among })
      (record { table = b.table; row = b.row; stored = b.stored; there = b.there; among = b.among });
  below = λ name a. n.below name (record { table = a.table; row = a.row; stored = a.stored; there = a.there; among = a.among });
  others = λ name bytes is. ⊎_elim (λ a. inl (record { table = a.table; row = a.row; stored = a.stored; there = a.there; among = a.among })) inr (n.others name bytes is);
  apart = λ name left a. n.apart name left (record { table = a.table; row = a.row; stored = a.stored; there = a.there; among = a.among });
}
named_still meaning cs held greatest (Intended intend) table not_ n = record {
  there = λ name a. n.there name (record { table = a.table; row = a.row; stored = a.stored; there = a.there; among = a.among });
  once = λ name a b. n.once name (record { table = a.table; row = a.row; stored = a.stored; there = a.there; among = a.among })
      (record { table = b.table; row = b.row; stored = b.stored; there = b.there; among = b.among });
  below = λ name a. n.below name (record { table = a.table; row = a.row; stored = a.stored; there = a.there; among = a.among });
  others = λ name bytes is. ⊎_elim (λ a. inl (record { table = a.table; row = a.row; stored = a.stored; there = a.there; among = a.among })) inr (n.others name bytes is);
  apart = λ name left a. n.apart name left (record { table = a.table; row = a.row; stored = a.stored; there = a.there; among = a.among });
}
named_still meaning cs held greatest (Committed commit) table not_ n = absurd not_

still_planned : (meaning : LocalName → List ℕ) (c : ℕ) (last : ℕ) (tables more : List (ℕ × TableDisk)) (work : AtWork) (o : Option Plan) → IsNotCommitted work
    → StandsPlan meaning c (record { last = last; tables = tables; plan = o }) work o → StandsPlan meaning c (record { last = last; tables = more; plan = o }) work o
still_planned meaning c last tables more Idle None not_ s = tt
still_planned meaning c last tables more Idle (Some p) not_ s = absurd s
still_planned meaning c last tables more (Intended intend) None not_ s = tt
still_planned meaning c last tables more (Intended intend) (Some p) not_ s = absurd s
still_planned meaning c last tables more (Committed commit) o not_ s = absurd not_

pub declared : (c : ℕ) (meaning : LocalName → List ℕ) (d : ClientDevs) (disk : ClientDisk) (at : ℕ) (schema : Schema) → Stands c meaning d disk → IsNotCommitted d.journal.at_work
    → lookup (is_at (nat_cmp at)) disk.tables ≡ None
    → Stands c meaning (changed_by d (PutRecord (opened_record at schema))) (record disk { tables = insert_entry nat_cmp disk.tables at (opened_table schema) })
declared c meaning d disk at schema st not_ none = record {
  named = named_still meaning d.chunks d.held d.journal.greatest d.journal.at_work (opened_record at schema) not_ st.named;
  held = declared_held meaning d.held disk.last disk.tables at schema st.held none;
  plan = still_planned meaning c disk.last disk.tables (insert_entry nat_cmp disk.tables at (opened_table schema)) d.journal.at_work disk.plan not_ st.plan;
}
