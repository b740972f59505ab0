-- Closing the entry that is kept in memory.
use Rattle.std.proofs.Common.{◌≡◌, ◌≤◌, ℕ, Bool, true, false, cond, List, [], ◌∷◌, ◌++◌, Option, Some, None, refl, ◌∙◌, ap, subst}
use Rattle.std.specs.Prelude.{IsSome}
use Rattle.stab_base.specs.declared.limits.TheConstants.{NUMBER_MAX}
use Rattle.status_log.specs.declared.memory.LogMemory.{LogMemory}
use Rattle.status_log.specs.Entry.{Entry, entry_of}
use Rattle.status_log.specs.Payload.{opens, closes, close_payload, pending_of}
use Rattle.status_log.specs.Memory.{Fits}
use Rattle.status_log.proofs.Again.{closes_again, opens_not}
use Rattle.status_log.proofs.Steps.{step_close, pending_within, closed_is}

module _ (memory : LogMemory) (ps : List (List ℕ)) (fit : Fits memory ps) (some : IsSome (pending_of ps)) where
  held : pending_of ps ≡ Some (entry_of memory.entry)
  held = fit.pending ∙ split memory.is_open (subst (λ (o : Option Entry). IsSome o) fit.pending some)
    where
      split : (b : Bool) → IsSome (cond b (Some (entry_of memory.entry)) None) → cond b (Some (entry_of memory.entry)) None ≡ Some (entry_of memory.entry)
      split true h = refl
      split false h = absurd cc

  pub held_within : memory.entry.version ≤ NUMBER_MAX
  held_within = pending_within ps (entry_of memory.entry) held

  pub held_closed : (p : List ℕ) → p ≡ close_payload memory.entry.version → pending_of (ps ++ p ∷ []) ≡ None
  held_closed p is =
      step_close ps p memory.entry.version (ap opens is ∙ opens_not memory.entry.version held_within) (ap closes is ∙ closes_again memory.entry.version held_within)
      ∙ closed_is (pending_of ps) (entry_of memory.entry) held
