-- What each of a Store's moves but a message keeps of every table, along the moves of an event.
use Rattle.std.proofs.Common.{◌≡◌, ⊎_elim, ℕ, zero, suc, Bool, true, false, List, [], ◌∷◌, length, Option, Some, None, refl, sym, ◌∙◌, subst}
use Rattle.std.specs.Prelude.{drop, if◌then◌else◌}
use Rattle.stab_base.specs.declared.node.Node.TheVariants as nodes
use Rattle.step_tables.specs.Messages.{Luck}
use Rattle.step_tables.specs.Messages as messages
use Rattle.step_tables.specs.StoreMoves as store
use Rattle.step_tables.specs.StoreMoves.{StoreMove, StoreStep}
use Rattle.world_tables.specs.World.{World, Hosted, Moved, owner_of, hosted_at, tables_of, has_node, still, and_then, and_unless}
use Rattle.world_tables.specs.World.{history_on, after_table, table_step, move_hosted, move_table, first_luck, other_lucks}
use Rattle.world_tables.specs.World.{tables_fall, without_down, store_falls, is_at_work, busy_table, write_next, store_works, tasks_of, store_until_idle}
use Rattle.world_tables.specs.World.{store_follows, table_follows}
use Rattle.world_tables.specs.World.{declared_late, start_hosted, table_starts, tables_start, store_starts, crash_luck, table_crashes, store_crashes}
use Rattle.world_laws.proofs.Looks.{look_cases}

-- a table behind a step of its own
abbrev pub behind_step : Hosted → StoreStep → Hosted
behind_step hosted s = record { store = s.store; history = history_on hosted.history s.facts; made = hosted.made }

abbrev pub All : (ℕ → Hosted → Type 0) → World → Type 0
All P w = (table : ℕ) (hosted : Hosted) → hosted_at w table ≡ Some hosted → P table hosted

module _ (P : ℕ → Hosted → Type 0)
    (works : (w : World) (table : ℕ) (hosted : Hosted) (luck : Luck) → P table hosted → P table (behind_step hosted (table_step w table hosted (store.Work luck))))
    (crashes : (w : World) (table : ℕ) (hosted : Hosted) (luck : Luck) → P table hosted → P table (behind_step hosted (table_step w table hosted (store.Crash luck))))
    (starts : (w : World) (table : ℕ) (hosted : Hosted) → hosted.made ≡ true → P table hosted → P table (behind_step hosted (table_step w table hosted store.Start)))
    (late : (w : World) (table : ℕ) (hosted : Hosted) → hosted.made ≡ false → P table hosted → P table (behind_step (record hosted { made = true })
    (declared_late (owner_of w table) table hosted.store.disk.state))) where
  pub put_all : (w : World) (table : ℕ) (new : Hosted) → All P w → P table new → (s : StoreStep) → (hosted : Hosted) → behind_step hosted s ≡ new → All P (after_table w table hosted s).world
  put_all w table new all p s hosted is q found at = ⊎_elim
      (λ e. let both : Some (behind_step hosted s) ≡ Some found = sym e.1 ∙ at in let same : behind_step hosted s ≡ found = cc in subst (P q) (sym is ∙ same) (subst (λ (n : ℕ). P n new) (sym e.0) p))
      (λ e. all q found (sym e.1 ∙ at)) (look_cases w.tables table (behind_step hosted s) q)

  pub move_all : (w : World) (table : ℕ) (move : StoreMove)
      → ((hosted : Hosted) → hosted_at w table ≡ Some hosted → P table hosted → P table (behind_step hosted (table_step w table hosted move))) → All P w
      → All P (move_table table move w).world
  move_all w table move f all = go (hosted_at w table) refl
    where
      go : (o : Option Hosted) → hosted_at w table ≡ o → All P (move_hosted w table move o).world
      go None at = all
      go (Some hosted) at = put_all w table _ all (f hosted at (all table hosted at)) (table_step w table hosted move) hosted refl

  pub tables_fall_all : (tables : List ℕ) (w : World) → All P w → All P (tables_fall tables w).world
  tables_fall_all [] w all = all
  tables_fall_all (table ∷ tables) w all = tables_fall_all tables _ (move_all w table (store.Crash messages.FailedBefore) (λ hosted at p. crashes w table hosted messages.FailedBefore p) all)

  pub falls_all : (number : ℕ) (w : World) → All P w → All P (store_falls number w).world
  falls_all number w all = tables_fall_all (tables_of w number) w all

  pub write_all : (number : ℕ) (luck : Luck) (o : Option ℕ) (w : World) → All P w → All P (write_next number luck o w).world
  write_all number luck None w all = all
  write_all number luck (Some table) w all = go m.failed
    where
      m : Moved
      m = move_table table (store.Work luck) w

      first : All P m.world
      first = move_all w table (store.Work luck) (λ hosted at p. works w table hosted luck p) all

      go : (b : Bool) → All P (if b then and_then m (store_falls number) else m).world
      go true = falls_all number m.world first
      go false = first

  pub works_all : (number count : ℕ) (lucks : List Luck) (w : World) → All P w → All P (store_works number count lucks w).world
  works_all number zero lucks w all = all
  works_all number (suc more) lucks w all = go m.failed (write_all number (first_luck lucks) (busy_table w number) w all) (λ x. works_all number more (other_lucks lucks) x)
    where
      m : Moved
      m = write_next number (first_luck lucks) (busy_table w number) w

      go : (b : Bool) → All P m.world → ((x : World) → All P x → All P (store_works number more (other_lucks lucks) x).world)
          → All P (if b then m else and_then m (store_works number more (other_lucks lucks))).world
      go true first on = first
      go false first on = on m.world first

  pub follows_all : (number : ℕ) (lucks : List Luck) (w : World) → All P w → All P (store_follows number lucks w).world
  follows_all number lucks w all = go (has_node w.holds (nodes.Store number))
    where
      go : (held : Bool) → All P (if held then still w else store_until_idle number lucks w).world
      go true = all
      go false = works_all number (length (tasks_of w number)) lucks w all

  pub table_follows_all : (table : ℕ) (lucks : List Luck) (w : World) → All P w → All P (table_follows table lucks w).world
  table_follows_all table lucks w all = go (is_at_work w table)
    where
      go : (busy : Bool) → All P (if busy then store_follows (owner_of w table) lucks w else still w).world
      go true = follows_all (owner_of w table) lucks w all
      go false = all

  pub crashes_all : (number calls : ℕ) (lucks : List Luck) (w : World) → All P w → All P (store_crashes number calls lucks w).world
  crashes_all number calls lucks w all = falls_all number m.world (go (busy_table w number))
    where
      luck : Luck
      luck = crash_luck calls (other_lucks lucks) (first_luck lucks)

      m : Moved
      m = table_crashes luck (busy_table w number) w

      go : (o : Option ℕ) → All P (table_crashes luck o w).world
      go None = all
      go (Some table) = move_all w table (store.Crash luck) (λ hosted at p. crashes w table hosted luck p) all

  pub start_all : (table : ℕ) (w : World) → All P w → All P (start_hosted w table (hosted_at w table)).world
  start_all table w all = go (hosted_at w table) refl
    where
      go : (o : Option Hosted) → hosted_at w table ≡ o → All P (start_hosted w table o).world
      go None at = all
      go (Some hosted) at = made hosted.made refl
        where
          step : StoreStep
          step = declared_late (owner_of w table) table hosted.store.disk.state

          made : (b : Bool) → hosted.made ≡ b → All P (if b then move_table table store.Start w else after_table w table (record hosted { made = true }) step).world
          made true is = subst (λ (o : Option Hosted). All P (move_hosted w table store.Start o).world) (sym at)
              (put_all w table _ all (starts w table hosted is (all table hosted at)) (table_step w table hosted store.Start) hosted refl)
          made false is = put_all w table _ all (late w table hosted is (all table hosted at)) step (record hosted { made = true }) refl

  pub tables_start_all : (tables : List ℕ) (lucks : List Luck) (w : World) → All P w → All P (tables_start tables lucks w).world
  tables_start_all [] lucks w all = all
  tables_start_all (table ∷ tables) lucks w all = go (first_luck lucks) (λ x. tables_start_all tables (other_lucks lucks) x)
    where
      m : Moved
      m = start_hosted w table (hosted_at w table)

      on : (b : Bool) → ((x : World) → All P x → All P (tables_start tables (other_lucks lucks) x).world) → All P (if b then m else and_then m (tables_start tables (other_lucks lucks))).world
      on true more = start_all table w all
      on false more = more m.world (start_all table w all)

      go : (luck : Luck) → ((x : World) → All P x → All P (tables_start tables (other_lucks lucks) x).world)
          → All P (and_unless (table_starts table luck w) (tables_start tables (other_lucks lucks))).world
      go messages.FailedBefore more = all
      go messages.FailedAfter more = all
      go messages.Done more = on m.failed more

  -- the tables of a Store are started behind their fall
  pub begins_all : (number : ℕ) (lucks : List Luck) (w : World) → All P w → All P (and_then (tables_fall (tables_of w number) w) (tables_start (tables_of w number) lucks)).world
  begins_all number lucks w all = tables_start_all (tables_of w number) lucks (tables_fall (tables_of w number) w).world (tables_fall_all (tables_of w number) w all)

  pub starts_all : (number : ℕ) (lucks : List Luck) (w : World) → All P w → All P (store_starts number lucks w).world
  starts_all number lucks w all = go m.failed
    where
      tables : List ℕ
      tables = tables_of w number

      m : Moved
      m = and_then (tables_fall tables w) (tables_start tables lucks)

      first : All P m.world
      first = begins_all number lucks w all

      go : (b : Bool) → All P (if b then and_then m (store_falls number) else and_then m (λ x. store_follows number (drop (length tables) lucks) (without_down (nodes.Store number) x))).world
      go true = falls_all number m.world first
      go false = follows_all number (drop (length tables) lucks) (without_down (nodes.Store number) m.world) first
