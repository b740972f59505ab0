use Rattle.std.proofs.Common.{◌≡◌, ℕ, Bool, true, false, List, [], ◌∷◌, refl, ◌∙◌, ap, arith}
use Rattle.std.specs.Prelude.{◌==◌, ◌&&◌, nat_lt}
use Rattle.std.proofs.lemmas.Bool.Decides.{nat_tests}
use Rattle.plan_log.specs.declared.plan.Intend.{Intend}
use Rattle.plan_log.specs.declared.plan.Commit.{Commit}
use Rattle.plan_log.specs.Spelling.{HasIntend, intend_payload, HasCommit, commit_payload, done_payload}
use Rattle.plan_log.specs.Reading.{SaysIntend, SaysCommit, SaysDone}
use Rattle.plan_log.specs.Journal.{Journal, nothing_planned, intended, committed, rested, takes_commit, takes_done, with_intend, with_commit, with_done, journal_of}
use Rattle.plan_log.proofs.Again.{says_intend, says_commit, says_done}
use Rattle.plan_log.proofs.Journals.{grown, when, unless, journal_sound}
use Rattle.plan_log.proofs.laws.journals_follow_their_payloads.Goals as goal

nothing : List (List ℕ)
nothing = []

empty : journal_of [] ≡ nothing_planned
unfolding journal_of
empty = refl

one_intend : (x : Intend) → HasIntend x → journal_of (intend_payload x ∷ []) ≡ intended x
one_intend x h =
    let positive : nat_lt 0 x.plan ≡ true = (let least = h.plan.least in grind (arith, nat_tests)) in
    grown [] (intend_payload x) (SaysIntend x) (says_intend x h) ∙ (ap (λ (j : Journal). with_intend j x) empty ∙ when (nat_lt 0 x.plan) (intended x) nothing_planned positive)

one_commit : (x : Commit) → HasCommit x → journal_of (commit_payload x ∷ []) ≡ committed x
one_commit x h =
    let positive : takes_commit nothing_planned x.plan ≡ true = (let least = h.plan.least in grind (arith, nat_tests)) in
    grown [] (commit_payload x) (SaysCommit x) (says_commit x h) ∙ (ap (λ (j : Journal). with_commit j x) empty ∙ when (takes_commit nothing_planned x.plan) (committed x) nothing_planned positive)

pub returns-clause-empty : goal.returns-clause-empty
returns-clause-empty c = empty

pub returns-clause-intend : goal.returns-clause-intend
returns-clause-intend c = one_intend

pub returns-clause-commit : goal.returns-clause-commit
returns-clause-commit c = one_commit

pub returns-clause-both : goal.returns-clause-both
returns-clause-both c x y h k same =
    let takes : takes_commit (intended x) y.plan ≡ true = grind (arith, nat_tests) in
    grown (intend_payload x ∷ []) (commit_payload y) (SaysCommit y) (says_commit y k) ∙ (ap (λ (j : Journal). with_commit j y) (one_intend x h)
    ∙ when (takes_commit (intended x) y.plan) (committed y) (intended x) takes)

pub returns-clause-done : goal.returns-clause-done
returns-clause-done c x h =
    let takes : takes_done (committed x) x.plan ≡ true = grind (arith, nat_tests) in
    grown (commit_payload x ∷ []) (done_payload x.plan) (SaysDone x.plan) (says_done x.plan h.plan)
    ∙ (ap (λ (j : Journal). with_done j x.plan) (one_commit x h) ∙ when (takes_done (committed x) x.plan) (rested x.plan) (committed x) takes)

pub returns-clause-older : goal.returns-clause-older
returns-clause-older c x y h k le =
    let no : nat_lt x.plan y.plan ≡ false = grind (arith, nat_tests) in
    grown (intend_payload x ∷ []) (intend_payload y) (SaysIntend y) (says_intend y k) ∙ (ap (λ (j : Journal). with_intend j y) (one_intend x h)
    ∙ unless (nat_lt x.plan y.plan) (intended y) (intended x) no)

pub returns-clause-older_commit : goal.returns-clause-older_commit
returns-clause-older_commit c x y h k lt =
    let no : takes_commit (intended x) y.plan ≡ false = grind (arith, nat_tests) in
    grown (intend_payload x ∷ []) (commit_payload y) (SaysCommit y) (says_commit y k) ∙ (ap (λ (j : Journal). with_commit j y) (one_intend x h)
    ∙ unless (takes_commit (intended x) y.plan) (committed y) (intended x) no)

pub returns-clause-not_committed : goal.returns-clause-not_committed
returns-clause-not_committed c x plan h is =
    let no : takes_done (intended x) plan ≡ false = never (plan == x.plan) in
    grown (intend_payload x ∷ []) (done_payload plan) (SaysDone plan) (says_done plan is) ∙ (ap (λ (j : Journal). with_done j plan) (one_intend x h)
    ∙ unless (takes_done (intended x) plan) (rested plan) (intended x) no)
  where
    never : (b : Bool) → (b && false) ≡ false
    never true = refl
    never false = refl

pub returns-clause-sound : goal.returns-clause-sound
returns-clause-sound c = journal_sound
