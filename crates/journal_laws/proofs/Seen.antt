-- What the devices stand for, with the commit at work, is the disk as it is read.
use Rattle.std.proofs.Common.{ℕ, List, [], Option, Some, None, sym, subst}
use Rattle.held_value.specs.declared.local_name.LocalName.{LocalName}
use Rattle.slot_store.specs.Data.{SlotData}
use Rattle.plan_log.specs.Journal.{AtWork, Idle, Intended, Committed}
use Rattle.client_journal.specs.Devs.{ClientDevs}
use Rattle.client_journal.specs.Redone.{redone, redone_by}
use Rattle.step_tables.specs.ClientMoves.{Plan, TableDisk, ClientDisk, planned_in, seen}
use Rattle.journal_laws.specs.Holds.{HoldsTables, StandsPlan, Stands}
use Rattle.journal_laws.proofs.Redoes.{applied_behind}

abbrev disk_of : ℕ → List (ℕ × TableDisk) → Option Plan → ClientDisk
disk_of last tables o = record { last = last; tables = tables; plan = o }

abbrev HoldsDisk : (LocalName → List ℕ) → SlotData → ClientDisk → Type 0
HoldsDisk meaning held disk = HoldsTables meaning held disk.last disk.tables

by_work : (c : ℕ) (meaning : LocalName → List ℕ) (held : SlotData) (last : ℕ) (tables : List (ℕ × TableDisk)) (greatest : ℕ) (work : AtWork) (o : Option Plan) → HoldsTables meaning held last tables
    → StandsPlan meaning c (disk_of last tables o) work o
    → HoldsDisk meaning (redone_by work held) (planned_in (disk_of last tables o) o)
by_work c meaning held last tables greatest Idle None h s = h
by_work c meaning held last tables greatest Idle (Some p) h s = absurd s
by_work c meaning held last tables greatest (Intended intend) None h s = h
by_work c meaning held last tables greatest (Intended intend) (Some p) h s = absurd s
by_work c meaning held last tables greatest (Committed commit) None h s = absurd s
by_work c meaning held last tables greatest (Committed commit) (Some p) h s =
    let b = applied_behind c meaning greatest commit p s.0 [] [] held last tables h s.1 in
    subst (λ (e : ClientDisk). HoldsDisk meaning (redone_by (Committed commit) held) e) (sym b.is_disk) b.holds

pub seen_held : (c : ℕ) (meaning : LocalName → List ℕ) (d : ClientDevs) (disk : ClientDisk) → Stands c meaning d disk → HoldsTables meaning (redone d) (seen disk).last (seen disk).tables
seen_held c meaning d disk st = by_work c meaning d.held disk.last disk.tables d.journal.greatest d.journal.at_work disk.plan st.held st.plan
