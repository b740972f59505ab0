-- How long marked timers wait.
use Rattle.std.proofs.Common.{◌≡◌, ℕ, ◌+◌, Bool, true, false, ◌||◌, ◌&&◌, cond, leb, List, [], ◌∷◌, refl, sym, ◌∙◌, inl, inr}
use Rattle.std.specs.List.{AllByRecursion}
use Rattle.std.proofs.lemmas.Bool.{cases_Bool, leb-false}
use Rattle.gate_tables.specs.declared.timer.Timer.{Timer}
use Rattle.gate_tables.specs.Timers.{Timers, is_due, as_fired, each, any_due, after_firing}
use Rattle.std.specs.Prelude.{map}
use Rattle.gate_tables.specs.Gate.{Session, Running, counted, after_tick, ticked}
use Rattle.gate_tables.specs.Laws.{Waits, AllWait}

unmarked_if : (timer : Timer) (b : Bool) → timer.marked ≡ b → (cond b (record timer { count = 0; marked = false }) timer).marked ≡ false
unmarked_if timer true e = refl
unmarked_if timer false e = e

unmarked : (timer : Timer) → (as_fired timer).marked ≡ false
unmarked timer = unmarked_if timer timer.marked refl

all_fired : (timers : Timers) → AllByRecursion Waits (each as_fired timers)
all_fired [] = tt
all_fired (e ∷ timers) = (λ is. let no : true ≡ false = sym is ∙ unmarked e.1 in absurd cc, all_fired timers)

neither : (a b : Bool) → (a || b) ≡ false → (a ≡ false) × (b ≡ false)
neither true b e = absurd cc
neither false b e = (refl, e)

other_false : (a b : Bool) → (a && b) ≡ false → a ≡ true → b ≡ false
other_false true b e h = e
other_false false b e h = absurd cc

not_due : (timers : Timers) → any_due timers ≡ false → AllByRecursion Waits timers
not_due [] h = tt
not_due (e ∷ timers) h =
    let t = neither (is_due e.1) (any_due timers) h in
    (λ is. leb-false (e.1.period + e.1.tolerance) e.1.count (other_false e.1.marked (leb (e.1.period + e.1.tolerance) e.1.count) t.0 is), not_due timers t.1)

after_wait : (timers : Timers) → AllByRecursion Waits (after_firing timers)
after_wait timers =
    elim (cases_Bool (any_due timers)) [
      | inl h ↦ rw h (all_fired timers)
      | inr h ↦ rw h (not_due timers h)
    ]

each_waits : (sessions : List (ℕ × Session)) → AllByRecursion AllWait (map (λ (e : ℕ × Session). (e.0, after_tick e.1)) sessions)
each_waits [] = tt
each_waits (e ∷ sessions) = (after_wait (counted e.1), each_waits sessions)

pub all_wait : (running : Running) → AllByRecursion AllWait (ticked running).running.sessions
all_wait running = each_waits running.sessions
