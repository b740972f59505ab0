use Rattle.std.proofs.Common.{◌≡◌, ℕ, ◌<◌, ◌≤◌, List, sym, subst, arith, ◌∙◌, get_or}
use Rattle.std.specs.Prelude.{All}
use Rattle.row_value.specs.declared.schema.Scheme.{Scheme}
use Rattle.row_value.specs.declared.schema.Scheme.TheVariants.{Strong, Causal, Eventual}
use Rattle.table_model.specs.declared.entry.Entry.{Entry}
use Rattle.table_model.specs.History.{current}
use Rattle.table_model.specs.Allowed.{IsAllowed, IsReadOrOwn}
use Rattle.schemes.specs.declared.decision.Decision.TheVariants.{Accept}
use Rattle.schemes.specs.Decide.{decision_of}
use Rattle.std.proofs.lemmas.Bool.Decides.{nat_tests}
use Rattle.scheme_laws.specs.Requests.{IsRising, RestsOn}
use Rattle.scheme_laws.proofs.Currents.{bound}
use Rattle.scheme_laws.proofs.what_is_accepted_is_allowed.Goals as goal

on_current : (base now : ℕ) (last : ℕ × ℕ) (number : ℕ) → decision_of Strong base now last number ≡ Accept → base ≡ now
on_current base now last number accepted = grind (arith, nat_tests)

on_current_causal : (base now : ℕ) (last : ℕ × ℕ) (number : ℕ) → decision_of Causal base now last number ≡ Accept → base ≡ now
on_current_causal base now last number accepted = grind (arith, nat_tests)

allowed : (scheme : Scheme) (history : List Entry) (entry : Entry) (read : ℕ) (last : ℕ × ℕ) → IsRising history → RestsOn scheme history entry read
    → decision_of scheme entry.base (current history entry.row) last entry.number ≡ Accept → IsAllowed scheme history entry read
allowed Strong history entry read last rising rests accepted = (rests, on_current entry.base (current history entry.row) last entry.number accepted)
allowed Causal history entry read last rising rests accepted =
    let on : entry.base ≡ current history entry.row = on_current_causal entry.base (current history entry.row) last entry.number accepted in
    (on, λ k d lt same later. rests k d lt same later (subst (λ n. (get_or history k d).version ≤ n) (sym on) (bound entry.row history rising k d lt same)))
allowed Eventual history entry read last rising rests accepted = rests

pub returns : goal.returns
returns c = allowed
