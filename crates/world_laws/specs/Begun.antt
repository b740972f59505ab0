-- How many writes the events of a run may begin.
use Rattle.std.specs.Prelude.{ℕ, ◌+◌, List, [], ◌∷◌, length}
use Rattle.std.specs.List.{AllByRecursion}
use Rattle.table_model.specs.declared.event.Event.{Event}
use Rattle.table_model.specs.declared.event.Event.TheVariants as events
use Rattle.world_tables.specs.World.{World, start, client_at, client_pairs, step}
use Rattle.world_tables.specs.Turns.{Happening}

-- one at most; where all conflicts of a table are resolved, one for each of them
abbrev pub begun_by : World → Event → ℕ
begun_by w (events.ResolveAll c table by) = length (client_pairs (client_at w c) table)
begun_by w other = 1

abbrev pub begun_from : World → List Happening → ℕ
begun_from w [] = 0
begun_from w (h ∷ more) = begun_by w h.event + begun_from (step w h.event h.lucks).world more

abbrev pub begun_in : List Happening → ℕ
begun_in run = begun_from start run

-- an event that doesn't resolve all conflicts of a table
abbrev pub IsSingle : Event → Type 0
IsSingle (events.ResolveAll c table by) = ⊥
IsSingle other = Unit {0}

abbrev pub AreSingle : List Happening → Type 0
AreSingle run = AllByRecursion (λ (h : Happening). IsSingle h.event) run
