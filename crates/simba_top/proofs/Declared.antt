-- No declaration stands behind another event: so a script's grammar says, and so it is of each front of a run.
use Rattle.std.proofs.Common.{◌≡◌, ℕ, Bool, true, false, List, [], ◌∷◌, ◌++◌, refl}
use Rattle.std.specs.Prelude.{MatchBool}
use Rattle.std.specs.List.{AllByRecursion}
use Rattle.table_model.specs.declared.event.Event.{Event}
use Rattle.table_model.specs.declared.event.Event.TheVariants as events
use Rattle.script_text.specs.Names.{Names, with_event}
use Rattle.script_text.specs.Grammar.{SpelledBy, Spells}
use Rattle.world_tables.specs.Sound.{is_declaration}
use Rattle.world_tables.specs.Turns.{Happening}
use Rattle.gated_laws.specs.Runs.{AreDeclaredFirst}

-- ---- in a script

-- a declaration is spelled where no other event was
spelled_early : (names : Names) (words : List (List ℕ)) (event : Event) → SpelledBy names words event → is_declaration event ≡ true → names.started ≡ false
spelled_early names words (events.Store store) s is = s.2
spelled_early names words (events.Gate gate) s is = s.2
spelled_early names words (events.Table table schema) s is = s.5
spelled_early names words (events.Draft table schema) s is = s.5
spelled_early names words (events.Client client gate tables) s is = s.5
spelled_early names words other s is = absurd cc

pub early : (names : Names) (line : List ℕ) (event : Event) → Spells names line event → is_declaration event ≡ true → names.started ≡ false
early names line event s is = spelled_early names _ event s.2 is

-- names that allow a declaration behind an event allowed it before, and the event is one
pub still_early : (names : Names) (event : Event) → (with_event names event).started ≡ false → (names.started ≡ false) × (is_declaration event ≡ true)
still_early names (events.Store store) is = (is, refl)
still_early names (events.Gate gate) is = (is, refl)
still_early names (events.Table table schema) is = (is, refl)
still_early names (events.Draft table schema) is = (is, refl)
still_early names (events.Client client gate tables) is = (is, refl)
still_early names other is = absurd cc

-- ---- in a run

plain_front : (front more : List Happening) → AllByRecursion (λ (h : Happening). is_declaration h.event ≡ false) (front ++ more) → AllByRecursion (λ (h : Happening). is_declaration h.event ≡ false) front
plain_front [] more all = tt
plain_front (h ∷ front) more all = (all.0, plain_front front more all.1)

pub first_front : (front more : List Happening) → AreDeclaredFirst (front ++ more) → AreDeclaredFirst front
first_front [] more first = tt
first_front (h ∷ front) more first = go (is_declaration h.event) first (first_front front more)
  where
    go : (b : Bool) → MatchBool b (AreDeclaredFirst (front ++ more)) (AllByRecursion (λ (x : Happening). is_declaration x.event ≡ false) (front ++ more))
        → (AreDeclaredFirst (front ++ more) → AreDeclaredFirst front) → MatchBool b (AreDeclaredFirst front) (AllByRecursion (λ (x : Happening). is_declaration x.event ≡ false) front)
    go true f rest = rest f
    go false f rest = plain_front front more f
