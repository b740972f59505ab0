-- What a crash makes of a client, and the lucks with which it does so.
use Rattle.std.proofs.Common.{◌≡◌, ◌⊎◌, inl, inr, ⊎_elim, ℕ, ◌<◌, ◌≤◌, Bool, true, false, List, [], ◌∷◌, Option, refl, sym, subst, arith}
use Rattle.std.specs.Prelude.{nat_le, nat_lt}
use Rattle.std.proofs.lemmas.Bool.{cases_lt}
use Rattle.std.proofs.lemmas.Bool.Decides.{nat_tests}
use Rattle.disk_trait.specs.Calls.{DiskState}
use Rattle.step_tables.specs.Messages.{Luck}
use Rattle.step_tables.specs.Messages as messages
use Rattle.step_tables.specs.ClientMoves.{ClientDisk, ClientTask, Client, Crash, client_step, no_shape}
use Rattle.client_node.specs.declared.node.ClientNode.{ClientNode}
use Rattle.client_node.specs.Calls.{Crashes, IsBehind, step_at}
use Rattle.world_tables.specs.World.{luck_of, crash_luck}
use Rattle.journal_host.specs.Holds.{IsHosted, node_faults}
use Rattle.journal_host.specs.Steps.{HasTold, HasCrashed}
use Rattle.journal_host.proofs.Hosting.{crashes_silent, down_crashes}

-- ---- the luck of the write at work

few_calls : (calls : ℕ) (luck : Luck) → calls ≤ 1 → luck_of calls luck ≡ messages.FailedBefore
few_calls calls luck few = let e : nat_le calls 1 ≡ true = grind (arith, nat_tests, few) in rw e refl

some_calls : (calls : ℕ) (luck : Luck) → 1 < calls → calls < 4 → luck_of calls luck ≡ luck
some_calls calls luck more less =
    let e : nat_le calls 1 ≡ false = grind (arith, nat_tests, more) in
    let f : nat_lt calls 4 ≡ true = grind (arith, nat_tests, less) in
    rw (e, f) refl

many_calls : (calls : ℕ) (luck : Luck) → 4 ≤ calls → luck_of calls luck ≡ messages.FailedAfter
many_calls calls luck many =
    let e : nat_le calls 1 ≡ false = grind (arith, nat_tests, many) in
    let f : nat_lt calls 4 ≡ false = grind (arith, nat_tests, many) in
    rw (e, f) refl

-- ---- a client

-- one that is down stays
pub crashed_down : {D : Type 0} (state : D → DiskState) (cut : Bool) (c calls : ℕ) (d : ClientDisk) (agenda : Option (List ClientTask)) (node : ClientNode D)
    → IsHosted state cut c (record { disk = d; agenda = agenda }) node → node.is_up ≡ false → HasCrashed state cut c calls (record { disk = d; agenda = agenda }) node node
crashed_down state cut c calls d agenda node h down = record {
  lucks = [];
  told = down_crashes state cut c d agenda node (luck_of calls messages.Done) h down;
  done = λ same. refl;
  counted = λ is. refl;
  later = omega arith;
  idle = λ none. refl;
}

module _ {D : Type 0} (state : D → DiskState) (images : D → ℕ → List ℕ → Type 0) (cut : Bool) (c calls : ℕ) (s : Client) (old new : ClientNode D) (h : IsHosted state cut c s old)
    (k : Crashes state images calls s old new) where
  abbrev Told : Luck → Type 0
  Told luck = HasTold state cut c (client_step c no_shape s (Crash luck)) new [] []

  told_at : (luck : Luck) → IsBehind state old new (step_at old s (Crash luck)) → Told luck
  told_at luck b = crashes_silent state cut c s old new luck h b

  -- a disk has failed by itself
  fell : node_faults state old < node_faults state new → (luck : Luck) → crash_luck calls [] luck ≡ luck → (luck ≡ messages.Done → ⊥) → Told luck → HasCrashed state cut c calls s old new
  fell rose luck is isnt told = record {
    lucks = luck ∷ [];
    told = subst Told (sym is) told;
    done = λ same. absurd (omega (arith, rose, same));
    counted = λ e. absurd (isnt e);
    later = k.later;
    idle = k.idle;
  }

  -- none has
  stood : node_faults state new ≡ node_faults state old → (luck : Luck) → Told (luck_of calls luck) → HasCrashed state cut c calls s old new
  stood same luck told = record { lucks = messages.Done ∷ luck ∷ []; told = told; done = λ _. refl; counted = λ _. same; later = k.later; idle = k.idle }

  by_calls : node_faults state new ≡ node_faults state old → (calls < 2) ⊎ (2 ≤ calls) → (calls < 4) ⊎ (4 ≤ calls) → HasCrashed state cut c calls s old new
  by_calls same (inl few) which =
      let less : calls ≤ 1 = omega (arith, few) in stood same messages.Done (subst Told (sym (few_calls calls messages.Done less)) (told_at messages.FailedBefore (k.undone same less)))
  by_calls same (inr more) (inl less) =
      let one : 1 < calls = omega (arith, more) in
      ⊎_elim
      (λ b. stood same messages.FailedBefore (subst Told (sym (some_calls calls messages.FailedBefore one less)) (told_at messages.FailedBefore b)))
      (λ b. stood same messages.FailedAfter (subst Told (sym (some_calls calls messages.FailedAfter one less)) (told_at messages.FailedAfter b)))
      k.crashed
  by_calls same (inr more) (inr many) = stood same messages.Done (subst Told (sym (many_calls calls messages.Done many)) (told_at messages.FailedAfter (k.done same many)))

  pub crashed_up : HasCrashed state cut c calls s old new
  crashed_up =
      ⊎_elim
      (λ rose. ⊎_elim (λ b. fell rose messages.FailedBefore refl (λ e. cc) (told_at messages.FailedBefore b))
      (λ b. fell rose messages.FailedAfter refl (λ e. cc) (told_at messages.FailedAfter b)) k.crashed)
      (λ most. let l = k.later in by_calls (omega (arith, most, l)) (cases_lt calls 2) (cases_lt calls 4))
      (cases_lt (node_faults state old) (node_faults state new))
