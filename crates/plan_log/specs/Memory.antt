-- What a journal keeps in memory: the greatest number of a plan, the intend at work, or where the commit stands.
use Rattle.std.specs.Prelude.{◌≡◌, ℕ, ◌<◌, Bool, true, false, ◌==◌, ◌&&◌, ◌||◌, nat_lt, if◌then◌else◌, List, [], length}
use Rattle.std.specs.Prelude.{slice_index_or, Ok}
use Rattle.plan_log.specs.declared.plan.Intend.{Intend}
use Rattle.plan_log.specs.declared.plan.Commit.{Commit}
use Rattle.plan_log.specs.declared.change.Change.{Change}
use Rattle.plan_log.specs.declared.change.Change.TheVariants as changes
use Rattle.plan_log.specs.declared.memory.Work.{Work}
use Rattle.plan_log.specs.declared.memory.Work.TheVariants as works
use Rattle.plan_log.specs.declared.memory.PlanMemory.{PlanMemory}
use Rattle.plan_log.specs.Reading.{Said, SaysIntend, SaysCommit, SaysDone, SaysNothing, said_by, commit_in}
use Rattle.plan_log.specs.Journal.{AtWork, Idle, Intended, Committed, Journal, journal_of}

-- this commit is in the payload of this index
pub record IsAt (payloads : List (List ℕ)) (index : ℕ) (commit : Commit) : Type 0 where
  pub within : index < length payloads
  pub there : commit_in (slice_index_or payloads index []) ≡ Ok commit

abbrev pub IsWork : List (List ℕ) → Work → AtWork → Type 0
IsWork payloads works.Idle Idle = Unit {0}
IsWork payloads works.Idle (Intended intend) = ⊥
IsWork payloads works.Idle (Committed commit) = ⊥
IsWork payloads (works.Intended kept) Idle = ⊥
IsWork payloads (works.Intended kept) (Intended intend) = kept ≡ intend
IsWork payloads (works.Intended kept) (Committed commit) = ⊥
IsWork payloads (works.Committed index) Idle = ⊥
IsWork payloads (works.Committed index) (Intended intend) = ⊥
IsWork payloads (works.Committed index) (Committed commit) = IsAt payloads index commit

pub record Keeps (payloads : List (List ℕ)) (memory : PlanMemory) (journal : Journal) : Type 0 where
  pub greatest : memory.greatest ≡ journal.greatest
  pub at_work : IsWork payloads memory.work journal.at_work

abbrev pub Fits : PlanMemory → List (List ℕ) → Type 0
Fits memory payloads = Keeps payloads memory (journal_of payloads)

-- what is kept takes no more room as plans go on
abbrev pub HasSpare : PlanMemory → ℕ → ℕ → Type 0
HasSpare memory payloads bytes = Unit {0}

-- ---- what one payload makes of it

abbrev pub is_intended_work : Work → Bool
is_intended_work works.Idle = false
is_intended_work (works.Intended intend) = true
is_intended_work (works.Committed index) = false

abbrev pub is_committed_work : Work → Bool
is_committed_work works.Idle = false
is_committed_work (works.Intended intend) = false
is_committed_work (works.Committed index) = true

abbrev pub keeping : ℕ → Work → PlanMemory
keeping greatest work = record { greatest = greatest; work = work }

abbrev pub keeping_intend : PlanMemory → Intend → PlanMemory
keeping_intend memory intend =
    if nat_lt memory.greatest intend.plan then keeping intend.plan (works.Intended intend) else memory

abbrev pub memory_takes_commit : PlanMemory → ℕ → Bool
memory_takes_commit memory plan =
    nat_lt memory.greatest plan || ((plan == memory.greatest) && is_intended_work memory.work)

abbrev pub keeping_commit : PlanMemory → ℕ → ℕ → PlanMemory
keeping_commit memory plan index =
    if memory_takes_commit memory plan then keeping plan (works.Committed index) else memory

abbrev pub memory_takes_done : PlanMemory → ℕ → Bool
memory_takes_done memory plan = (plan == memory.greatest) && is_committed_work memory.work

abbrev pub keeping_done : PlanMemory → ℕ → PlanMemory
keeping_done memory plan = if memory_takes_done memory plan then keeping plan works.Idle else memory

-- what is to be noted of a payload
abbrev pub shape_of : Said → Change
shape_of (SaysIntend intend) = changes.Intend intend
shape_of (SaysCommit commit) = changes.Commit commit.plan
shape_of (SaysDone plan) = changes.Done plan
shape_of SaysNothing = changes.Nothing

abbrev pub Says : List ℕ → Change → Type 0
Says payload change = change ≡ shape_of (said_by payload)
