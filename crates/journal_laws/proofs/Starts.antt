-- The writes of a start are the tasks of its agenda.
use Rattle.std.proofs.Common.{◌≡◌, ℕ, List, [], ◌∷◌, ◌++◌, Option, Some, None, refl, sym, subst}
use Rattle.stab_base.specs.declared.chunk_name.ChunkName.{ChunkName}
use Rattle.stab_base.specs.declared.step.Step.{Step}
use Rattle.stab_base.specs.declared.step.Step.TheVariants as steps
use Rattle.held_value.specs.declared.local_name.LocalName.{LocalName}
use Rattle.slot_store.specs.Data.{SlotData}
use Rattle.plan_log.specs.declared.plan.Intend.{Intend}
use Rattle.plan_log.specs.Journal.{AtWork, Idle, Intended, Committed}
use Rattle.client_journal.specs.Names.{Has}
use Rattle.client_journal.specs.Devs.{ClientDevs, Write, OpenJournal, OpenSlots, OpenChunks, DropChunk, changed_by}
use Rattle.client_journal.specs.Redone.{redone}
use Rattle.client_journal.specs.Agenda.{drops, rest_writes, recovery_writes, AreLeftovers, IsRedoing, Runs}
use Rattle.client_journal.proofs.Lookups.{has_head}
use Rattle.client_journal.proofs.Recoveries.{recovery_runs}
use Rattle.step_tables.specs.Facts.{Fact}
use Rattle.step_tables.specs.ClientMoves.{Plan, ClientDisk, ClientTask, Shape, TableDisk, changed, keeps, rest_of, ending, opening}
use Rattle.journal_laws.specs.Holds.{HoldsTables, Stands, Follows}
use Rattle.journal_laws.specs.Moves.{drop_steps, IsStartShape}
use Rattle.journal_laws.proofs.Redoes.{Names, named_runs, redo_follows}

module _ (c : ℕ) (meaning : LocalName → List ℕ) where
  -- what is told changes no write
  ending_follows : (some : List Fact) (d : ClientDevs) (ws : List Write) (disk : ClientDisk) (tasks : List ClientTask) → Follows c meaning d ws disk tasks
      → Follows c meaning d ws disk (ending some tasks)
  ending_follows some d ws disk [] f = f
  ending_follows some d [] disk (task ∷ []) f = absurd f
  ending_follows some d (w ∷ ws) disk (task ∷ []) f = f
  ending_follows some d [] disk (task ∷ next ∷ more) f = absurd f
  ending_follows some d (w ∷ ws) disk (task ∷ next ∷ more) f = (f.0, f.1, ending_follows some (changed_by d w) ws (changed disk task.change) (next ∷ more) f.2)

  abbrev at_ : List (ChunkName × List ℕ) → SlotData → ℕ → AtWork → ClientDevs
  at_ cs held greatest work = record { chunks = cs; held = held; journal = record { greatest = greatest; at_work = work } }

  abbrev disk_of : ℕ → List (ℕ × TableDisk) → Option Plan → ClientDisk
  disk_of last tables o = record { last = last; tables = tables; plan = o }

  -- the chunks of an intend
  undo_follows : (cs : List (ChunkName × List ℕ)) (held : SlotData) (greatest : ℕ) (intend : Intend) (last : ℕ) (tables : List (ℕ × TableDisk)) (names : List LocalName)
      → HoldsTables meaning held last tables
      → Runs (Names meaning) (at_ cs held greatest (Intended intend)) (drops names)
      → Follows c meaning (at_ cs held greatest (Intended intend)) (drops names) (disk_of last tables None) (keeps (drop_steps names))
  undo_follows cs held greatest intend last tables [] h r = record { named = r; held = h; plan = tt }
  undo_follows cs held greatest intend last tables (name ∷ names) h r = (
    record { named = r.0; held = h; plan = tt },
    refl,
    undo_follows (changed_by (at_ cs held greatest (Intended intend)) (DropChunk name)).chunks held greatest intend last tables names h r.1,
  )

  abbrev behind : Shape → Option Plan → List ClientTask
  behind shape None = keeps shape.after
  behind shape (Some p) = rest_of shape p []

  module _ (cs : List (ChunkName × List ℕ)) (held : SlotData) (greatest last : ℕ) (tables : List (ℕ × TableDisk)) (names : List LocalName) (shape : Shape) (after : shape.after ≡ drop_steps names) where
    rest_follows : (work : AtWork) (o : Option Plan) → Stands c meaning (at_ cs held greatest work) (disk_of last tables o) → AreLeftovers (at_ cs held greatest work) names
        → Runs (Names meaning) (at_ cs held greatest work) (rest_writes work held names)
        → Follows c meaning (at_ cs held greatest work) (rest_writes work held names) (disk_of last tables o) (behind shape o)
    rest_follows Idle None st l r = none_left names after (λ name has. l.left name has)
      where
        none_left : (some : List LocalName) → shape.after ≡ drop_steps some → ((name : LocalName) → Has some name → ⊥)
            → Follows c meaning (at_ cs held greatest Idle) [] (disk_of last tables None) (keeps shape.after)
        none_left [] is none = subst (λ (l : List Step). Follows c meaning (at_ cs held greatest Idle) [] (disk_of last tables None) (keeps l)) (sym is) st
        none_left (name ∷ some) is none = absurd (none name (has_head name name some refl))
    rest_follows Idle (Some p) st l r = absurd st.plan
    rest_follows (Intended intend) None st l r =
        subst (λ (l : List Step). Follows c meaning (at_ cs held greatest (Intended intend)) (drops names) (disk_of last tables None) (keeps l)) (sym after)
        (undo_follows cs held greatest intend last tables names st.held r)
    rest_follows (Intended intend) (Some p) st l r = absurd st.plan
    rest_follows (Committed commit) None st l r = absurd st.plan
    rest_follows (Committed commit) (Some p) st l r = redo_follows c meaning greatest commit p st.plan.0 names [] held last tables cs st.held st.plan.1 shape after r

  abbrev opening_first : List Write → List Write
  opening_first ws = OpenJournal ∷ OpenSlots ∷ OpenChunks ∷ ws

  opens_follow : (d : ClientDevs) (disk : ClientDisk) (ws : List Write) (shape : Shape) (o : Option Plan) → Stands c meaning d disk
      → shape.before ≡ steps.OpenJournal ∷ steps.OpenSlots ∷ steps.OpenChunks ∷ []
      → Follows c meaning d ws disk (behind shape o) → Follows c meaning d (opening_first ws) disk (opening shape o)
  opens_follow d disk ws shape None st before f = subst (λ (l : List Step). Follows c meaning d (opening_first ws) disk (keeps l ++ keeps shape.after)) (sym before)
      (st, refl, (st, refl, (st, refl, f)))
  opens_follow d disk ws shape (Some p) st before f = subst (λ (l : List Step). Follows c meaning d (opening_first ws) disk (keeps l ++ rest_of shape p [])) (sym before)
      (st, refl, (st, refl, (st, refl, f)))

  pub start_follows : (d : ClientDevs) (disk : ClientDisk) (names : List LocalName) (shape : Shape) (some : List Fact) → Stands c meaning d disk → AreLeftovers d names → IsStartShape shape names
      → Follows c meaning d (recovery_writes d names) disk (ending some (opening shape disk.plan))
  start_follows d disk names shape some st l s =
      let runs : Runs (Names meaning) d (recovery_writes d names) =
      named_runs meaning (IsRedoing meaning (redone d)) (λ ws e m. m.named) d (recovery_writes d names) (recovery_runs meaning d names st.named l) in
      let rest = rest_follows d.chunks d.held d.journal.greatest disk.last disk.tables names shape s.after d.journal.at_work disk.plan st l runs.1.1.1 in
      ending_follows some d (recovery_writes d names) disk (opening shape disk.plan)
      (opens_follow d disk (rest_writes d.journal.at_work d.held names) shape disk.plan st s.before rest)
