-- The open entry after one payload more.
use Rattle.std.proofs.Common.{◌≡◌, ℕ, ◌≤◌, Bool, true, false, cond, List, [], ◌∷◌, ◌++◌, length, Option, Some, None, Result, Ok, Err, refl, ◌∙◌, ap, subst, arith}
use Rattle.std.specs.Prelude.{fold, ◌==◌, if◌then◌else◌}
use Rattle.std.proofs.lemmas.Bool.Decides.{nat_tests}
use Rattle.std.proofs.lemmas.List.Sums.{fold-append}
use Rattle.stab_base.specs.declared.codec.TakeFault.{TakeFault}
use Rattle.stab_base.specs.declared.limits.TheConstants.{NUMBER_MAX}
use Rattle.stab_base.specs.Codec.{byte_at}
use Rattle.status_log.specs.declared.payload.Opening.{Opening}
use Rattle.status_log.specs.Entry.{Entry}
use Rattle.status_log.specs.Payload.{opening_at, is_whole, opened_by, entry_in, opens, closes, without, step, pending_of}

pub pending_of-push : (ps : List (List ℕ)) (p : List ℕ) → pending_of (ps ++ p ∷ []) ≡ step (pending_of ps) (opens p) (closes p)
unfolding pending_of
pending_of-push ps p = fold-append (λ (pending : Option Entry) (payload : List ℕ). step pending (opens payload) (closes payload)) None ps (p ∷ [])

module _ (ps : List (List ℕ)) (p : List ℕ) where
  pub step_open : (entry : Entry) → opens p ≡ Some entry → pending_of (ps ++ p ∷ []) ≡ Some entry
  step_open entry is = pending_of-push ps p ∙ ap (λ (o : Option Entry). step (pending_of ps) o (closes p)) is

  pub step_close : (version : ℕ) → opens p ≡ None → closes p ≡ Some version → pending_of (ps ++ p ∷ []) ≡ without (pending_of ps) version
  step_close version none is = pending_of-push ps p ∙ (ap (λ (o : Option Entry). step (pending_of ps) o (closes p)) none ∙ ap (λ (v : Option ℕ). step (pending_of ps) None v) is)

  pub step_nothing : opens p ≡ None → closes p ≡ None → pending_of (ps ++ p ∷ []) ≡ pending_of ps
  step_nothing none is = pending_of-push ps p ∙ (ap (λ (o : Option Entry). step (pending_of ps) o (closes p)) none ∙ ap (λ (v : Option ℕ). step (pending_of ps) None v) is)

-- ---- the open entry's version is within the limit

abbrev IsWithin : Option Entry → Type 0
IsWithin None = Unit {0}
IsWithin (Some entry) = entry.version ≤ NUMBER_MAX

opened_within : (opening : Opening) (names : List ℕ) → IsWithin (opened_by opening names)
opened_within opening names = split (is_whole opening (length names)) refl
  where
    split : (b : Bool) → is_whole opening (length names) ≡ b → IsWithin (cond b (Some (entry_in opening names)) None)
    split true is = grind (arith, nat_tests)
    split false is = tt

abbrev pub said : Result (Opening × List ℕ) TakeFault → Option Entry
said (Ok found) = opened_by found.0 found.1
said (Err fault) = None

said_within : (r : Result (Opening × List ℕ) TakeFault) → IsWithin (said r)
said_within (Ok found) = opened_within found.0 found.1
said_within (Err fault) = tt

abbrev pub tagged : Result (ℕ × List ℕ) TakeFault → Option Entry
tagged (Ok tag) = if tag.0 == 1 then said (opening_at tag.1) else None
tagged (Err fault) = None

tagged_within : (r : Result (ℕ × List ℕ) TakeFault) → IsWithin (tagged r)
tagged_within (Ok tag) = split (tag.0 == 1)
  where
    split : (b : Bool) → IsWithin (cond b (said (opening_at tag.1)) None)
    split true = said_within (opening_at tag.1)
    split false = tt
tagged_within (Err fault) = tt

opens_within : (p : List ℕ) → IsWithin (opens p)
unfolding opens
opens_within p = tagged_within (byte_at p)

without_within : (pending : Option Entry) (version : ℕ) → IsWithin pending → IsWithin (without pending version)
without_within None version h = tt
without_within (Some entry) version h = split (entry.version == version)
  where
    split : (b : Bool) → IsWithin (cond b None (Some entry))
    split true = tt
    split false = h

step_within : (pending opened : Option Entry) (closed : Option ℕ) → IsWithin pending → IsWithin opened → IsWithin (step pending opened closed)
step_within pending (Some entry) closed h o = o
step_within pending None (Some version) h o = without_within pending version h
step_within pending None None h o = h

fold_within : (ps : List (List ℕ)) (pending : Option Entry) → IsWithin pending
    → IsWithin (fold (λ (pending : Option Entry) (payload : List ℕ). step pending (opens payload) (closes payload)) pending ps)
fold_within [] pending h = h
fold_within (p ∷ ps) pending h = fold_within ps (step pending (opens p) (closes p)) (step_within pending (opens p) (closes p) h (opens_within p))

pub pending_within : (ps : List (List ℕ)) (entry : Entry) → pending_of ps ≡ Some entry → entry.version ≤ NUMBER_MAX
unfolding pending_of
pending_within ps entry is = subst IsWithin is (fold_within ps None tt)

-- closing the open entry
pub closed_is : (pending : Option Entry) (entry : Entry) → pending ≡ Some entry → without pending entry.version ≡ None
closed_is pending entry is = ap (λ (o : Option Entry). without o entry.version) is ∙ same
  where
    same : cond (entry.version == entry.version) None (Some entry) ≡ None
    same = let b : (entry.version == entry.version) ≡ true = grind (arith, nat_tests) in ap (λ (b : Bool). cond b None (Some entry)) b
