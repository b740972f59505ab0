-- What the moves of a Store keep of each table that was declared.
use Rattle.std.proofs.Common.{◌≡◌, ⊎_elim, ℕ, zero, suc, Bool, true, false, List, [], ◌∷◌, Option, Some, None, refl, sym, ap, ◌∙◌, subst}
use Rattle.std.specs.Prelude.{if◌then◌else◌}
use Rattle.step_tables.specs.Messages.{Luck}
use Rattle.step_tables.specs.Messages as messages
use Rattle.step_tables.specs.Store.{Stored}
use Rattle.step_tables.specs.StoreMoves.{StoreDisk, StoreTask, TableStore, StoreStep, StoreMove, Work, Crash, Start, worked, crashed, started, recover, recovered, item_at, changed}
use Rattle.world_tables.specs.World.{World, Hosted, Moved, hosted_at, owner_of, and_then, after_table, table_step, move_hosted, move_table, start_hosted, table_starts}
use Rattle.world_tables.specs.World.{table_falls, tables_fall, store_falls, or_falls, write_next, table_crashes, declared_late, tasks_in, tables_start, and_unless, first_luck, other_lucks}
use Rattle.world_tables.specs.Passed.{after_tasks}
use Rattle.store_host.specs.Holds.{behind_step}
use Rattle.store_host.specs.Calls.{restart_moves}
use Rattle.store_host.proofs.Maps.{look_cases}

-- of each declared table of the first world there is something in the second that is so to it
pub record IsFrom (Q : TableStore → TableStore → Type 0) (w v : World) : Type 0 where
  pub schemas : v.schemas ≡ w.schemas
  pub there : (table : ℕ) (hosted : Hosted) → hosted_at w table ≡ Some hosted → hosted.made ≡ true
      → (later : Hosted) × (hosted_at v table ≡ Some later) × (later.made ≡ true) × Q hosted.store later.store

-- its disk is the same
abbrev pub SameDisk : TableStore → TableStore → Type 0
SameDisk s t = t.disk ≡ s.disk

-- its disk behind some of its tasks is one behind some of those that it had
abbrev pub GoesOn : TableStore → TableStore → Type 0
GoesOn s t = (k : ℕ) → (m : ℕ) × (after_tasks k t.disk (tasks_in t.agenda) ≡ after_tasks m s.disk (tasks_in s.agenda))

pub from_itself : (Q : TableStore → TableStore → Type 0) → ((s : TableStore) → Q s s) → (w : World) → IsFrom Q w w
from_itself Q itself w = record { schemas = refl; there = λ table hosted at made. (hosted, at, made, itself hosted.store) }

pub from_then : (P Q S : TableStore → TableStore → Type 0) → ((s t u : TableStore) → P s t → Q t u → S s u) → (w v x : World) → IsFrom P w v → IsFrom Q v x → IsFrom S w x
from_then P Q S joins w v x a b = record {
  schemas = b.schemas ∙ a.schemas;
  there = λ table hosted at made.
      let f = a.there table hosted at made in
      let g = b.there table f.0 f.1 f.2 in
      (g.0, g.1, g.2, joins hosted.store f.0.store g.0.store f.3 g.3);
}

pub same_then : (s t u : TableStore) → SameDisk s t → SameDisk t u → SameDisk s u
same_then s t u a b = b ∙ a

pub goes_itself : (s : TableStore) → GoesOn s s
goes_itself s k = (k, refl)

pub goes_then : (s t u : TableStore) → GoesOn s t → GoesOn t u → GoesOn s u
goes_then s t u a b k = let x = b k in let y = a x.0 in (y.0, x.1 ∙ y.1)

-- ---- a table's move

module _ (Q : TableStore → TableStore → Type 0) (itself : (s : TableStore) → Q s s) where
  -- a table behind a step
  pub after_from : (w : World) (table : ℕ) (hosted base : Hosted) (s : StoreStep) → hosted_at w table ≡ Some hosted → (hosted.made ≡ true → (base.made ≡ true) × Q hosted.store s.store)
      → IsFrom Q w (after_table w table base s).world
  after_from w table hosted base s there so = record {
    schemas = refl;
    there = λ q found at made.
        ⊎_elim
        (λ e.
        let both : Some hosted ≡ Some found = sym there ∙ (ap (hosted_at w) (sym e.0) ∙ at) in
        let same : hosted ≡ found = cc in
        let k = so (ap (λ (x : Hosted). x.made) same ∙ made) in
        (behind_step base s, e.1, k.0, subst (λ (x : Hosted). Q x.store s.store) same k.1))
        (λ e. (found, e.1 ∙ at, made, itself found.store))
        (look_cases w.tables table (behind_step base s) q);
  }

  pub move_from : (move : StoreMove) → ((w : World) (table : ℕ) (hosted : Hosted) → Q hosted.store (table_step w table hosted move).store) → (w : World) (table : ℕ)
      → IsFrom Q w (move_table table move w).world
  move_from move so w table = go (hosted_at w table) refl
    where
      go : (o : Option Hosted) → hosted_at w table ≡ o → IsFrom Q w (move_hosted w table move o).world
      go None at = from_itself Q itself w
      go (Some hosted) at = after_from w table hosted hosted (table_step w table hosted move) at (λ made. (made, so w table hosted))

-- ---- writes and crashes

after_none : (k : ℕ) (disk : StoreDisk) → after_tasks k disk [] ≡ disk
after_none zero disk = refl
after_none (suc k) disk = refl

abbrev at : StoreDisk → Option (List StoreTask) → TableStore
at disk agenda = record { disk = disk; agenda = agenda }

crash_goes : (disk : StoreDisk) (agenda : Option (List StoreTask)) (luck : Luck) → GoesOn (at disk agenda) (crashed disk agenda luck).store
crash_goes disk None luck k = (k, refl)
crash_goes disk (Some []) luck k = (k, refl)
crash_goes disk (Some (task ∷ tasks)) messages.FailedBefore k = (0, after_none k disk)
crash_goes disk (Some (task ∷ tasks)) messages.FailedAfter k = (1, after_none k (changed disk task.change))
crash_goes disk (Some (task ∷ tasks)) messages.Done k = (1, after_none k (changed disk task.change))

work_goes : (disk : StoreDisk) (agenda : Option (List StoreTask)) (luck : Luck) → GoesOn (at disk agenda) (worked disk agenda luck).store
work_goes disk None messages.Done k = (k, refl)
work_goes disk (Some []) messages.Done k = (k, refl)
work_goes disk (Some (task ∷ tasks)) messages.Done k = (suc k, refl)
work_goes disk agenda messages.FailedBefore k = crash_goes disk agenda messages.FailedBefore k
work_goes disk agenda messages.FailedAfter k = crash_goes disk agenda messages.FailedAfter k

pub work_from : (luck : Luck) (w : World) (table : ℕ) → IsFrom GoesOn w (move_table table (Work luck) w).world
work_from luck = move_from GoesOn goes_itself (Work luck) (λ w table hosted. work_goes hosted.store.disk hosted.store.agenda luck)

pub crash_from : (luck : Luck) (busy : Option ℕ) (w : World) → IsFrom GoesOn w (table_crashes luck busy w).world
crash_from luck None w = from_itself GoesOn goes_itself w
crash_from luck (Some table) w = move_from GoesOn goes_itself (Crash luck) (λ v t hosted. crash_goes hosted.store.disk hosted.store.agenda luck) w table

-- a write that went well
pub write_from : (number : ℕ) (w : World) (table : ℕ) → (move_table table (Work messages.Done) w).failed ≡ false → IsFrom GoesOn w (write_next number messages.Done (Some table) w).world
write_from number w table well =
    let m : Moved = move_table table (Work messages.Done) w in
    let is : or_falls number m ≡ m = ap (λ (b : Bool). if b then and_then m (store_falls number) else m) well in
    subst (λ (x : Moved). IsFrom GoesOn w x.world) (sym is) (work_from messages.Done w table)

-- ---- falls

fall_disk : (disk : StoreDisk) (agenda : Option (List StoreTask)) → (crashed disk agenda messages.FailedBefore).store.disk ≡ disk
fall_disk disk None = refl
fall_disk disk (Some []) = refl
fall_disk disk (Some (task ∷ tasks)) = refl

pub fall_from : (w : World) (table : ℕ) → IsFrom SameDisk w (table_falls table w).world
fall_from = move_from SameDisk (λ s. refl) (Crash messages.FailedBefore) (λ w table hosted. fall_disk hosted.store.disk hosted.store.agenda)

-- ---- starts

found_disk : (number table : ℕ) (disk : StoreDisk) (pending : Stored) (o : Option Stored) → (recovered number table disk pending o).store.disk ≡ disk
found_disk number table disk pending None = refl
found_disk number table disk pending (Some item) = refl

pending_disk : (number table : ℕ) (disk : StoreDisk) (o : Option Stored) → (recover number table disk o).store.disk ≡ disk
pending_disk number table disk None = refl
pending_disk number table disk (Some pending) = found_disk number table disk pending (item_at pending.entry.version disk.items)

start_disk : (number table : ℕ) (disk : StoreDisk) (agenda : Option (List StoreTask)) → (started number table disk agenda).store.disk ≡ disk
start_disk number table disk (Some tasks) = refl
start_disk number table disk None = pending_disk number table disk disk.pending

-- a start, whatever it keeps
module _ (Q : TableStore → TableStore → Type 0) (itself : (s : TableStore) → Q s s) (joins : (s t u : TableStore) → Q s t → Q t u → Q s u)
    (starts : (number table : ℕ) (disk : StoreDisk) (agenda : Option (List StoreTask)) → Q (at disk agenda) (started number table disk agenda).store) where
  start_goes : (w : World) (table : ℕ) → IsFrom Q w (table_starts table messages.Done w).world
  start_goes w table = go (hosted_at w table) refl
    where
      go : (o : Option Hosted) → hosted_at w table ≡ o → IsFrom Q w (start_hosted w table o).world
      go None is = from_itself Q itself w
      go (Some hosted) is = by_made hosted.made refl
        where
          again : IsFrom Q w (move_table table Start w).world
          again = move_from Q itself Start (λ v t found. starts (owner_of v t) t found.store.disk found.store.agenda) w table

          by_made : (b : Bool) → hosted.made ≡ b → IsFrom Q w (if b then move_table table Start w else after_table w table (record hosted { made = true }) (declared_late (owner_of w table) table hosted.store.disk.state)).world
          by_made true made = again
          by_made false made = after_from Q itself w table hosted (record hosted { made = true }) (declared_late (owner_of w table) table hosted.store.disk.state) is (λ e. absurd (let both : true ≡ false = sym e ∙ made in cc))

  pub starts_go : (tables : List ℕ) (lucks : List Luck) (w : World) → IsFrom Q w (tables_start tables lucks w).world
  starts_go [] lucks w = from_itself Q itself w
  starts_go (table ∷ tables) lucks w = by_luck (λ v. starts_go tables (other_lucks lucks) v) (first_luck lucks)
    where
      rest : Moved → Moved
      rest m = and_unless m (tables_start tables (other_lucks lucks))

      by_luck : ((v : World) → IsFrom Q v (tables_start tables (other_lucks lucks) v).world) → (luck : Luck) → IsFrom Q w (rest (table_starts table luck w)).world
      by_luck more messages.FailedBefore = from_itself Q itself w
      by_luck more messages.FailedAfter = from_itself Q itself w
      by_luck more messages.Done = go (table_starts table messages.Done w).failed
        where
          m : Moved
          m = table_starts table messages.Done w

          go : (b : Bool) → IsFrom Q w (if b then m else and_then m (tables_start tables (other_lucks lucks))).world
          go true = start_goes w table
          go false = from_then Q Q Q joins w m.world (tables_start tables (other_lucks lucks) m.world).world (start_goes w table) (more m.world)

pub start_from : (w : World) (table : ℕ) → IsFrom SameDisk w (table_starts table messages.Done w).world
start_from = start_goes SameDisk (λ s. refl) same_then start_disk

starts_from : (tables : List ℕ) (lucks : List Luck) (w : World) → IsFrom SameDisk w (tables_start tables lucks w).world
starts_from = starts_go SameDisk (λ s. refl) same_then start_disk

pub falls_from : (tables : List ℕ) (w : World) → IsFrom SameDisk w (tables_fall tables w).world
falls_from [] w = from_itself SameDisk (λ s. refl) w
falls_from (table ∷ tables) w =
    let v = (table_falls table w).world in
    from_then SameDisk SameDisk SameDisk same_then w v (tables_fall tables v).world (fall_from w table) (falls_from tables v)

pub restart_from : (tables : List ℕ) (lucks : List Luck) (w : World) → IsFrom SameDisk w (restart_moves tables lucks w).world
restart_from tables lucks w =
    let v = (tables_fall tables w).world in
    from_then SameDisk SameDisk SameDisk same_then w v (tables_start tables lucks v).world (falls_from tables w) (starts_from tables lucks v)
