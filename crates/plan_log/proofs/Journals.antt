-- Journals after one payload more, and what is true of each journal.
use Rattle.std.proofs.Common.{◌≡◌, ℕ, ◌≤◌, Bool, true, false, cond, leb, List, [], ◌∷◌, ◌++◌, Result, Ok, Err, refl, ◌∙◌, ap, arith}
use Rattle.std.specs.Prelude.{fold, IsSome, ◌==◌, ◌&&◌, not, nat_lt}
use Rattle.std.proofs.lemmas.Bool.Decides.{nat_tests}
use Rattle.std.proofs.lemmas.List.Sums.{fold-append}
use Rattle.stab_base.specs.declared.limits.TheConstants.{NUMBER_MAX}
use Rattle.field_codec.proofs.Ranges.{both_are}
use Rattle.plan_log.specs.declared.plan.Intend.{Intend}
use Rattle.plan_log.specs.declared.plan.Commit.{Commit}
use Rattle.plan_log.specs.Spelling.{IsPlan}
use Rattle.plan_log.specs.Reading.{is_plan, is_table, Said, SaysIntend, SaysCommit, SaysDone, SaysNothing, said_done, said_commit, said_intend, said_by, intend_in, commit_in, done_in}
use Rattle.plan_log.specs.Journal.{AtWork, Idle, Intended, Committed, Journal, is_committed, committed_plan, nothing_planned, intended, committed, rested, with_intend, takes_commit}
use Rattle.plan_log.specs.Journal.{with_commit, takes_done, with_done, step, journal_of, may_intend, IsPlanOf, IsSound}
use Rattle.plan_log.proofs.PlanCodecs.{plan_is}
use Rattle.plan_log.proofs.Again.{intend_checked, commit_checked, done_checked}

pub journal_of-push : (ps : List (List ℕ)) (p : List ℕ) → journal_of (ps ++ p ∷ []) ≡ step (journal_of ps) (said_by p)
unfolding journal_of
journal_of-push ps p = fold-append (λ (journal : Journal) (payload : List ℕ). step journal (said_by payload)) nothing_planned ps (p ∷ [])

pub grown : (ps : List (List ℕ)) (p : List ℕ) (said : Said) → said_by p ≡ said → journal_of (ps ++ p ∷ []) ≡ step (journal_of ps) said
grown ps p said is = journal_of-push ps p ∙ ap (step (journal_of ps)) is

-- ---- what a call that may be made makes of a journal

pub when : (b : Bool) (x y : Journal) → b ≡ true → cond b x y ≡ x
when b x y e = ap (λ (t : Bool). cond t x y) e

pub unless : (b : Bool) (x y : Journal) → b ≡ false → cond b x y ≡ y
unless b x y e = ap (λ (t : Bool). cond t x y) e

left_is : (a b : Bool) → (a && b) ≡ true → a ≡ true
left_is a b e = (both_are a b e).0

pub intends : (journal : Journal) (intend : Intend) → may_intend journal intend.plan ≡ true → with_intend journal intend ≡ intended intend
intends journal intend may = when (nat_lt journal.greatest intend.plan) (intended intend) journal (left_is (nat_lt journal.greatest intend.plan) (not (is_committed journal.at_work)) may)

pub commits : (journal : Journal) (commit : Commit) → takes_commit journal commit.plan ≡ true → with_commit journal commit ≡ committed commit
commits journal commit may = when (takes_commit journal commit.plan) (committed commit) journal may

-- the plan of a commit at work is the greatest
some_committed : (work : AtWork) → IsSome (committed_plan work) → is_committed work ≡ true
some_committed Idle some = absurd cc
some_committed (Intended intend) some = absurd cc
some_committed (Committed commit) some = refl

same_plan : (plan : ℕ) → (plan == plan) ≡ true
same_plan plan = grind (arith, nat_tests)

pub ends : (journal : Journal) → IsSome (committed_plan journal.at_work) → with_done journal journal.greatest ≡ rested journal.greatest
ends journal some =
    when (takes_done journal journal.greatest) (rested journal.greatest) journal
    (ap (λ (b : Bool). b && is_committed journal.at_work) (same_plan journal.greatest) ∙ some_committed journal.at_work some)

-- ---- what is true of each journal

abbrev IsSaid : Said → Type 0
IsSaid (SaysIntend intend) = IsPlan intend.plan
IsSaid (SaysCommit commit) = IsPlan commit.plan
IsSaid (SaysDone plan) = IsPlan plan
IsSaid SaysNothing = Unit {0}

either : (b : Bool) (x y : Journal) → IsSound x → IsSound y → IsSound (cond b x y)
either true x y h k = h
either false x y h k = k

-- an end counts where its plan is the greatest
ended : (b : Bool) (journal : Journal) (plan : ℕ) → plan ≤ NUMBER_MAX → IsSound journal → IsSound (cond b (rested plan) journal)
ended true journal plan most h = record { most = most; plan = tt }
ended false journal plan most h = h

step_sound : (journal : Journal) (said : Said) → IsSound journal → IsSaid said → IsSound (step journal said)
step_sound journal (SaysIntend intend) h is = either (nat_lt journal.greatest intend.plan) (intended intend) journal (record { most = is.most; plan = (refl, is.least) }) h
step_sound journal (SaysCommit commit) h is = either (takes_commit journal commit.plan) (committed commit) journal (record { most = is.most; plan = (refl, is.least) }) h
step_sound journal (SaysDone plan) h is = ended (takes_done journal plan) journal plan is.most h
step_sound journal SaysNothing h is = h

said_is : (p : List ℕ) → IsSaid (said_by p)
unfolding said_by
said_is p = split (intend_in p) (commit_in p) (done_in p) refl refl refl
  where
    split : (r : Result Intend ℕ) (s : Result Commit ℕ) (t : Result ℕ ℕ) → intend_in p ≡ r → commit_in p ≡ s → done_in p ≡ t → IsSaid (said_intend r (said_commit s (said_done t)))
    split (Ok x) s t e f g = plan_is x.plan (left_is (is_plan x.plan) (is_table x.table) (intend_checked p x e))
    split (Err left) (Ok x) t e f g = plan_is x.plan (left_is (is_plan x.plan) (leb x.last NUMBER_MAX && is_table x.table) (commit_checked p x f))
    split (Err left) (Err left') (Ok x) e f g = plan_is x (done_checked p x g)
    split (Err left) (Err left') (Err left'') e f g = tt

fold_sound : (ps : List (List ℕ)) (journal : Journal) → IsSound journal → IsSound (fold (λ (journal : Journal) (payload : List ℕ). step journal (said_by payload)) journal ps)
fold_sound [] journal h = h
fold_sound (p ∷ ps) journal h = fold_sound ps (step journal (said_by p)) (step_sound journal (said_by p) h (said_is p))

pub journal_sound : (ps : List (List ℕ)) → IsSound (journal_of ps)
unfolding journal_of
journal_sound ps = fold_sound ps nothing_planned (record { most = omega arith; plan = tt })

pub plan_of : (journal : Journal) → IsSound journal → IsSome (committed_plan journal.at_work) → IsPlan journal.greatest
plan_of journal sound some = record { least = least journal.at_work sound.plan some; most = sound.most }
  where
    least : (work : AtWork) → IsPlanOf journal.greatest work → IsSome (committed_plan work) → 1 ≤ journal.greatest
    least Idle h some = absurd cc
    least (Intended intend) h some = h.1
    least (Committed commit) h some = h.1
