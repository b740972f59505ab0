-- What is kept in memory, after one payload more.
use Rattle.std.proofs.Common.{◌≡◌, ℕ, zero, suc, ◌<◌, ◌≤◌, Bool, true, false, cond, List, [], ◌∷◌, ◌++◌, length, get_or, Some, None, refl, sym, ◌∙◌, ap, subst, arith, length-append}
use Rattle.std.specs.Prelude.{IsSome, ◌==◌, ◌&&◌, ◌||◌, not, nat_lt}
use Rattle.std.proofs.lemmas.List.{get_or_append_left}
use Rattle.std.proofs.Math.Seq.{get_or-append_seam}
use Rattle.vault.specs.Limit.{payload_most}
use Rattle.vault.specs.File.{AllShort}
use Rattle.plan_log.specs.declared.plan.Intend.{Intend}
use Rattle.plan_log.specs.declared.plan.Commit.{Commit}
use Rattle.plan_log.specs.declared.memory.Work.{Work}
use Rattle.plan_log.specs.declared.memory.Work.TheVariants as works
use Rattle.plan_log.specs.declared.memory.PlanMemory.{PlanMemory}
use Rattle.plan_log.specs.Reading.{SaysIntend, SaysCommit, SaysDone, SaysNothing, said_by, commit_in}
use Rattle.plan_log.specs.Journal.{AtWork, Idle, Intended, Committed, Journal, is_intended, is_committed, committed_plan, intended, committed, rested, takes_commit, takes_done}
use Rattle.plan_log.specs.Journal.{journal_of, may_intend, IsSound}
use Rattle.plan_log.specs.Memory.{IsAt, IsWork, Keeps, Fits, is_intended_work, is_committed_work, keeping, keeping_intend, memory_takes_commit, keeping_commit, memory_takes_done, keeping_done}
use Rattle.plan_log.proofs.Again.{commit_said}
use Rattle.plan_log.proofs.Journals.{grown, journal_sound}

-- a payload of a vault is short
pub short_at : (ps : List (List ℕ)) (i : ℕ) → AllShort ps → i < length ps → length (get_or ps i []) ≤ payload_most
short_at [] i short within = absurd (omega arith)
short_at (p ∷ ps) zero short within = short.0
short_at (p ∷ ps) (suc i) short within = short_at ps i short.1 (omega arith)

-- ---- what is at work, as it is kept

pub same_intended : (ps : List (List ℕ)) (work : Work) (at_work : AtWork) → IsWork ps work at_work → is_intended_work work ≡ is_intended at_work
same_intended ps works.Idle Idle h = refl
same_intended ps works.Idle (Intended intend) h = absurd h
same_intended ps works.Idle (Committed commit) h = absurd h
same_intended ps (works.Intended kept) Idle h = absurd h
same_intended ps (works.Intended kept) (Intended intend) h = refl
same_intended ps (works.Intended kept) (Committed commit) h = absurd h
same_intended ps (works.Committed index) Idle h = absurd h
same_intended ps (works.Committed index) (Intended intend) h = absurd h
same_intended ps (works.Committed index) (Committed commit) h = refl

pub same_committed : (ps : List (List ℕ)) (work : Work) (at_work : AtWork) → IsWork ps work at_work → is_committed_work work ≡ is_committed at_work
same_committed ps works.Idle Idle h = refl
same_committed ps works.Idle (Intended intend) h = absurd h
same_committed ps works.Idle (Committed commit) h = absurd h
same_committed ps (works.Intended kept) Idle h = absurd h
same_committed ps (works.Intended kept) (Intended intend) h = refl
same_committed ps (works.Intended kept) (Committed commit) h = absurd h
same_committed ps (works.Committed index) Idle h = absurd h
same_committed ps (works.Committed index) (Intended intend) h = absurd h
same_committed ps (works.Committed index) (Committed commit) h = refl

-- the commit that is kept by its index
pub at_index : (ps : List (List ℕ)) (work : Work) (at_work : AtWork) (index : ℕ) → IsWork ps work at_work → work ≡ works.Committed index
    → (commit : Commit) × (at_work ≡ Committed commit) × IsAt ps index commit
at_index ps works.Idle at_work index h e = absurd cc
at_index ps (works.Intended kept) at_work index h e = absurd cc
at_index ps (works.Committed other) Idle index h e = absurd h
at_index ps (works.Committed other) (Intended intend) index h e = absurd h
at_index ps (works.Committed other) (Committed commit) index h e = let same : other ≡ index = cc in (commit, refl, subst (λ (i : ℕ). IsAt ps i commit) same h)

pub takes_same : (ps : List (List ℕ)) (memory : PlanMemory) (journal : Journal) (plan : ℕ) → Keeps ps memory journal → memory_takes_commit memory plan ≡ takes_commit journal plan
takes_same ps memory journal plan k =
    ap (λ (n : ℕ). nat_lt n plan || ((plan == n) && is_intended_work memory.work)) k.greatest
    ∙ ap (λ (b : Bool). nat_lt journal.greatest plan || ((plan == journal.greatest) && b)) (same_intended ps memory.work journal.at_work k.at_work)

ends_same : (ps : List (List ℕ)) (memory : PlanMemory) (journal : Journal) (plan : ℕ) → Keeps ps memory journal → memory_takes_done memory plan ≡ takes_done journal plan
ends_same ps memory journal plan k =
    ap (λ (n : ℕ). (plan == n) && is_committed_work memory.work) k.greatest
    ∙ ap (λ (b : Bool). (plan == journal.greatest) && b) (same_committed ps memory.work journal.at_work k.at_work)

-- ---- one payload more

module _ (ps : List (List ℕ)) (p : List ℕ) where
  abbrev pub more : List (List ℕ)
  more = ps ++ p ∷ []

  still_at : (index : ℕ) (commit : Commit) → IsAt ps index commit → IsAt more index commit
  still_at index commit h = record {
    within = omega (arith, h.within, length-append ps (p ∷ []));
    there = ap commit_in (get_or_append_left ps (p ∷ []) [] index h.within) ∙ h.there;
  }

  still_work : (work : Work) (at_work : AtWork) → IsWork ps work at_work → IsWork more work at_work
  still_work works.Idle Idle h = h
  still_work works.Idle (Intended intend) h = h
  still_work works.Idle (Committed commit) h = h
  still_work (works.Intended kept) Idle h = h
  still_work (works.Intended kept) (Intended intend) h = h
  still_work (works.Intended kept) (Committed commit) h = h
  still_work (works.Committed index) Idle h = h
  still_work (works.Committed index) (Intended intend) h = h
  still_work (works.Committed index) (Committed commit) h = still_at index commit h

  still : (memory : PlanMemory) (journal : Journal) → Keeps ps memory journal → Keeps more memory journal
  still memory journal k = record { greatest = k.greatest; at_work = still_work memory.work journal.at_work k.at_work }

  -- where a test is passed both change, and else both stay
  both_change : (a b : Bool) → a ≡ b → (memory new : PlanMemory) (journal after : Journal) → Keeps ps memory journal → Keeps more new after → Keeps more (cond a new memory) (cond b after journal)
  both_change true true e memory new journal after k n = n
  both_change true false e memory new journal after k n = absurd cc
  both_change false true e memory new journal after k n = absurd cc
  both_change false false e memory new journal after k n = still memory journal k

  module _ (memory : PlanMemory) (fit : Fits memory ps) where
    pub noted_intend : (intend : Intend) → said_by p ≡ SaysIntend intend → Fits (keeping_intend memory intend) more
    noted_intend intend says =
        subst (Keeps more (keeping_intend memory intend)) (sym (grown ps p (SaysIntend intend) says))
        (both_change (nat_lt memory.greatest intend.plan) (nat_lt (journal_of ps).greatest intend.plan) (ap (λ (n : ℕ). nat_lt n intend.plan) fit.greatest) memory
        (keeping intend.plan (works.Intended intend)) (journal_of ps) (intended intend) fit (record { greatest = refl; at_work = refl }))

    here : (commit : Commit) → said_by p ≡ SaysCommit commit → (index : ℕ) → index ≡ length ps → IsAt more index commit
    here commit says index at = record {
      within = omega (arith, at, length-append ps (p ∷ []));
      there = ap commit_in (ap (λ (n : ℕ). get_or more n []) at ∙ get_or-append_seam ps p [] []) ∙ commit_said p commit says;
    }

    pub noted_commit : (commit : Commit) (plan index : ℕ) → said_by p ≡ SaysCommit commit → commit.plan ≡ plan → index ≡ length ps → Fits (keeping_commit memory plan index) more
    noted_commit commit plan index says named at =
        subst (λ (n : ℕ). Fits (keeping_commit memory n index) more) named (subst (Keeps more (keeping_commit memory commit.plan index)) (sym (grown ps p (SaysCommit commit) says))
        (both_change (memory_takes_commit memory commit.plan) (takes_commit (journal_of ps) commit.plan) (takes_same ps memory (journal_of ps) commit.plan fit) memory
        (keeping commit.plan (works.Committed index)) (journal_of ps) (committed commit) fit
        (record { greatest = refl; at_work = here commit says index at })))

    pub noted_done : (plan : ℕ) → said_by p ≡ SaysDone plan → Fits (keeping_done memory plan) more
    noted_done plan says =
        subst (Keeps more (keeping_done memory plan)) (sym (grown ps p (SaysDone plan) says))
        (both_change (memory_takes_done memory plan) (takes_done (journal_of ps) plan) (ends_same ps memory (journal_of ps) plan fit) memory (keeping plan works.Idle) (journal_of ps)
        (rested plan) fit (record { greatest = refl; at_work = tt }))

    pub noted_nothing : said_by p ≡ SaysNothing → Fits memory more
    noted_nothing says = subst (Keeps more memory) (sym (grown ps p SaysNothing says)) (still memory (journal_of ps) fit)

-- ---- what is told of it

module _ (ps : List (List ℕ)) (memory : PlanMemory) (fit : Fits memory ps) where
  abbrev held : Journal
  held = journal_of ps

  pub may_same : (plan : ℕ) → (nat_lt memory.greatest plan && not (is_committed_work memory.work)) ≡ may_intend held plan
  may_same plan =
      ap (λ (n : ℕ). nat_lt n plan && not (is_committed_work memory.work)) fit.greatest
      ∙ ap (λ (b : Bool). nat_lt held.greatest plan && not b) (same_committed ps memory.work held.at_work fit.at_work)

  -- a commit that is kept is the greatest plan's
  plan_told : (work : Work) (at_work : AtWork) → IsWork ps work at_work → is_committed_work work ≡ true → IsSound (record { greatest = held.greatest; at_work = at_work })
      → Some memory.greatest ≡ committed_plan at_work
  plan_told works.Idle at_work h e s = absurd cc
  plan_told (works.Intended kept) at_work h e s = absurd cc
  plan_told (works.Committed index) Idle h e s = absurd h
  plan_told (works.Committed index) (Intended intend) h e s = absurd h
  plan_told (works.Committed index) (Committed commit) h e s = ap (λ (n : ℕ). Some n) (fit.greatest ∙ sym s.plan.0)

  pub plan_some : is_committed_work memory.work ≡ true → Some memory.greatest ≡ committed_plan held.at_work
  plan_some e = plan_told memory.work held.at_work fit.at_work e (journal_sound ps)

  pub plan_none : is_committed_work memory.work ≡ false → None ≡ committed_plan held.at_work
  plan_none e = none held.at_work (sym (same_committed ps memory.work held.at_work fit.at_work) ∙ e)
    where
      none : (at_work : AtWork) → is_committed at_work ≡ false → None ≡ committed_plan at_work
      none Idle e = refl
      none (Intended intend) e = refl
      none (Committed commit) e = absurd cc

  pub some_kept : IsSome (committed_plan held.at_work) → is_committed_work memory.work ≡ true
  some_kept some = same_committed ps memory.work held.at_work fit.at_work ∙ is held.at_work some
    where
      is : (at_work : AtWork) → IsSome (committed_plan at_work) → is_committed at_work ≡ true
      is Idle some = absurd cc
      is (Intended intend) some = absurd cc
      is (Committed commit) some = refl
