-- An event that asks a client is its call.
use Rattle.std.proofs.Common.{◌≡◌, ℕ, false, Some, Result, Ok, Err, refl, subst}
use Rattle.std.specs.Prelude.{IfErr}
use Rattle.table_model.specs.declared.event.Event.{Event}
use Rattle.table_model.specs.declared.event.Event.TheVariants as events
use Rattle.fault_laws.proofs.Answered.{is_declaration}
use Rattle.world_tables.specs.Faults.{is_device_fault, is_fault_answer}
use Rattle.world_tables.specs.World.{Lucks, step, call}
use Rattle.world_tables.specs.World as moves
use Rattle.journal_host.specs.declared.asking.Ask.{Ask}
use Rattle.journal_host.specs.declared.asking.Ask.TheVariants as asks
use Rattle.journal_host.specs.Asks.{move_of}
use Rattle.node_steps.specs.declared.fault.WorldFault.{WorldFault}
use Rattle.node_steps.specs.declared.fault.WorldFault.TheVariants.{Limit}
use Rattle.node_steps.specs.declared.told.Told.{Told}
use Rattle.node_steps.specs.Asked.{ask_of}
use Rattle.node_steps.specs.Calls.{by_lucks}
use Rattle.node_steps.specs.Steps.{Spends, SpendsNumber, may_begin}

-- the event is this call of this client
pub record IsCallOf (event : Event) (c : ℕ) (ask : Ask) : Type 0 where
  pub told : is_declaration event ≡ false
  pub fails : (w : moves.World) (lucks : Lucks) → is_device_fault w event lucks ≡ is_fault_answer (step w event lucks).answer
  pub steps : (w : moves.World) (lucks : Lucks) → step w event lucks ≡ by_lucks (call w c (move_of ask)) lucks
  pub spends : (n : ℕ) (w : moves.World) → SpendsNumber n w c → Spends n w event
  pub begins : (w : moves.World) → may_begin w event ≡ 1

some_same : (p q : ℕ × Ask) → Some p ≡ Some q → p ≡ q
some_same p q e = cc

asked_as : (event : Event) (p : ℕ × Ask) → ask_of event ≡ Some p → (q : ℕ × Ask) → ask_of event ≡ Some q → IsCallOf event p.0 p.1 → IsCallOf event q.0 q.1
asked_as event p at q is k = let same : Some p ≡ Some q = cc in subst (λ (x : ℕ × Ask). IsCallOf event x.0 x.1) (some_same p q same) k

call_of : (event : Event) (p : ℕ × Ask) → ask_of event ≡ Some p → IsCallOf event p.0 p.1
call_of (events.Write c table row content) p is = asked_as (events.Write c table row content) (c, asks.Write table row content) refl p is
    (record { told = refl; fails = λ w lucks. refl; steps = λ w lucks. refl; spends = λ n w k. k; begins = λ w. refl })
call_of (events.Edit c table row edit) p is = asked_as (events.Edit c table row edit) (c, asks.Edit table row edit) refl p is
    (record { told = refl; fails = λ w lucks. refl; steps = λ w lucks. refl; spends = λ n w k. k; begins = λ w. refl })
call_of (events.Show c table row) p is = asked_as (events.Show c table row) (c, asks.Show table row) refl p is
    (record { told = refl; fails = λ w lucks. refl; steps = λ w lucks. refl; spends = λ n w k. k; begins = λ w. refl })
call_of (events.Sum c table row) p is = asked_as (events.Sum c table row) (c, asks.Sum table row) refl p is
    (record { told = refl; fails = λ w lucks. refl; steps = λ w lucks. refl; spends = λ n w k. k; begins = λ w. refl })
call_of (events.Sync c table) p is = asked_as (events.Sync c table) (c, asks.Sync table) refl p is
    (record { told = refl; fails = λ w lucks. refl; steps = λ w lucks. refl; spends = λ n w k. k; begins = λ w. refl })
call_of (events.BeginCr c table) p is = asked_as (events.BeginCr c table) (c, asks.BeginCr table) refl p is
    (record { told = refl; fails = λ w lucks. refl; steps = λ w lucks. refl; spends = λ n w k. k; begins = λ w. refl })
call_of (events.EndCr c table) p is = asked_as (events.EndCr c table) (c, asks.EndCr table) refl p is
    (record { told = refl; fails = λ w lucks. refl; steps = λ w lucks. refl; spends = λ n w k. k; begins = λ w. refl })
call_of (events.Resolve c table row seen choice) p is = asked_as (events.Resolve c table row seen choice) (c, asks.Resolve table row seen choice) refl p is
    (record { told = refl; fails = λ w lucks. refl; steps = λ w lucks. refl; spends = λ n w k. k; begins = λ w. refl })
call_of other p is = absurd cc

pub as_call : (event : Event) (c : ℕ) (ask : Ask) → ask_of event ≡ Some (c, ask) → IsCallOf event c ask
as_call event c ask is = call_of event (c, ask) is

-- it spends a number where its call does
pub spent_limit : (w : moves.World) (n : ℕ) (event : Event) (c : ℕ) → (SpendsNumber n w c → Spends n w event) → (result : Result Told WorldFault)
    → IfErr result (λ e. (code count : ℕ) → e ≡ Limit code count → (code ≡ 11) × SpendsNumber n w c) → IfErr result (λ e. (code count : ℕ) → e ≡ Limit code count → (code ≡ 11) × Spends n w event)
spent_limit w n event c spends (Ok told) k = tt
spent_limit w n event c spends (Err e) k = λ code count is. let x = k code count is in (x.0, spends x.1)
