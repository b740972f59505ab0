-- What a list of payloads says of the plan at work: the plan of the greatest number alone counts.
use Rattle.std.specs.Prelude.{◌≡◌, ◌≤◌, ℕ, Bool, true, false, ◌==◌, ◌&&◌, ◌||◌, not, nat_lt, if◌then◌else◌}
use Rattle.std.specs.Prelude.{List, Option, Some, None, fold}
use Rattle.stab_base.specs.declared.limits.TheConstants.{NUMBER_MAX}
use Rattle.plan_log.specs.declared.plan.Intend.{Intend}
use Rattle.plan_log.specs.declared.plan.Commit.{Commit}
use Rattle.plan_log.specs.Reading.{Said, SaysIntend, SaysCommit, SaysDone, SaysNothing, said_by}

pub data AtWork : Type 0 where
  Idle : AtWork
  Intended : Intend → AtWork
  Committed : Commit → AtWork

-- the greatest number of a plan, 0 where there is none, and what is at work
pub record Journal : Type 0 where
  pub greatest : ℕ
  pub at_work : AtWork

abbrev pub is_idle : AtWork → Bool
is_idle Idle = true
is_idle (Intended intend) = false
is_idle (Committed commit) = false

abbrev pub is_intended : AtWork → Bool
is_intended Idle = false
is_intended (Intended intend) = true
is_intended (Committed commit) = false

abbrev pub is_committed : AtWork → Bool
is_committed Idle = false
is_committed (Intended intend) = false
is_committed (Committed commit) = true

abbrev pub intend_of : AtWork → Option Intend
intend_of Idle = None
intend_of (Intended intend) = Some intend
intend_of (Committed commit) = None

-- the plan of the commit at work
abbrev pub committed_plan : AtWork → Option ℕ
committed_plan Idle = None
committed_plan (Intended intend) = None
committed_plan (Committed commit) = Some commit.plan

-- ---- what one payload makes of it

abbrev pub nothing_planned : Journal
nothing_planned = record { greatest = 0; at_work = Idle }

abbrev pub intended : Intend → Journal
intended intend = record { greatest = intend.plan; at_work = Intended intend }

abbrev pub committed : Commit → Journal
committed commit = record { greatest = commit.plan; at_work = Committed commit }

abbrev pub rested : ℕ → Journal
rested plan = record { greatest = plan; at_work = Idle }

-- a new plan
abbrev pub with_intend : Journal → Intend → Journal
with_intend journal intend = if nat_lt journal.greatest intend.plan then intended intend else journal

-- a new plan, or the one that is intended
abbrev pub takes_commit : Journal → ℕ → Bool
takes_commit journal plan =
    nat_lt journal.greatest plan || ((plan == journal.greatest) && is_intended journal.at_work)

abbrev pub with_commit : Journal → Commit → Journal
with_commit journal commit = if takes_commit journal commit.plan then committed commit else journal

-- the plan that is committed
abbrev pub takes_done : Journal → ℕ → Bool
takes_done journal plan = (plan == journal.greatest) && is_committed journal.at_work

abbrev pub with_done : Journal → ℕ → Journal
with_done journal plan = if takes_done journal plan then rested plan else journal

abbrev pub step : Journal → Said → Journal
step journal (SaysIntend intend) = with_intend journal intend
step journal (SaysCommit commit) = with_commit journal commit
step journal (SaysDone plan) = with_done journal plan
step journal SaysNothing = journal

unfoldable pub journal_of : List (List ℕ) → Journal
journal_of payloads = fold (λ journal payload. step journal (said_by payload)) nothing_planned payloads

-- ---- what is asked of a call

-- a new plan, while none is committed
abbrev pub may_intend : Journal → ℕ → Bool
may_intend journal plan = nat_lt journal.greatest plan && not (is_committed journal.at_work)

-- ---- what is true of each journal

-- the plan at work is the greatest
abbrev pub IsPlanOf : ℕ → AtWork → Type 0
IsPlanOf greatest Idle = Unit {0}
IsPlanOf greatest (Intended intend) = (intend.plan ≡ greatest) × (1 ≤ greatest)
IsPlanOf greatest (Committed commit) = (commit.plan ≡ greatest) × (1 ≤ greatest)

pub record IsSound (journal : Journal) : Type 0 where
  pub most : journal.greatest ≤ NUMBER_MAX
  pub plan : IsPlanOf journal.greatest journal.at_work
