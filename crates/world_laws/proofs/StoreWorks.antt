-- A Store's work, falls, crashes and starts keep the world: they are moves of its tables, one after the other.
use Rattle.std.proofs.Common.{◌≡◌, ℕ, zero, suc, ◌+◌, Bool, true, false, List, [], ◌∷◌, ◌++◌, length, Option, Some, None, refl, ap, ◌∙◌}
use Rattle.std.specs.Prelude.{drop, map, if◌then◌else◌}
use Rattle.stab_base.specs.declared.node.Node.TheVariants as nodes
use Rattle.row_value.specs.declared.schema.Scheme.{Scheme}
use Rattle.step_tables.specs.Facts.{Fact, FactLine}
use Rattle.step_tables.specs.Messages.{Luck}
use Rattle.step_tables.specs.Messages as messages
use Rattle.step_tables.specs.Sayings.{Said}
use Rattle.step_tables.specs.StoreMoves as store
use Rattle.step_tables.specs.StoreMoves.{StoreDisk, StoreTask, StoreMove}
use Rattle.world_tables.specs.World.{World, Packet, Hosted, Outbox, Moved, owner_of, hosted_at, tables_of, has_node, without_node, still, and_then, lines_from, sent_lines, packets_from}
use Rattle.world_tables.specs.World.{move_hosted, move_table, first_luck, other_lucks}
use Rattle.world_tables.specs.World.{table_falls, tables_fall, with_down, without_down, store_falls, or_falls, is_at_work, busy_table, write_next, store_works, tasks_of, store_until_idle, store_follows, table_follows}
use Rattle.world_tables.specs.World.{start_hosted, table_starts, tables_start, store_starts, crash_luck, table_crashes, store_crashes}
use Rattle.world_laws.proofs.Kept.{Kept, MoveSound}
use Rattle.world_laws.proofs.Lines.{sent_by}
use Rattle.world_laws.proofs.Orders.{still_sound, nodes_kept, nodes_sound, both_sound, unless_sound, failing_sound}

-- a write or a crash: a table that isn't made stays so under it
abbrev pub IsWorkOrCrash : StoreMove → Type 0
IsWorkOrCrash (store.Work luck) = Unit {0}
IsWorkOrCrash (store.Crash luck) = Unit {0}
IsWorkOrCrash other = ⊥

abbrev pub TableWorks : (ℕ → Scheme) → Type 0
TableWorks g = (w : World) (s : Said) (number : ℕ) → Kept g w s → (table : ℕ) (move : StoreMove) → IsWorkOrCrash move → MoveSound g s w number (move_table table move w)

abbrev pub TableStarts : (ℕ → Scheme) → Type 0
TableStarts g = (w : World) (s : Said) (number : ℕ) → Kept g w s → (table : ℕ) → MoveSound g s w number (start_hosted w table (hosted_at w table))

-- ---- falls and crashes tell and send nothing

abbrev pub AreSilent : List Outbox → Type 0
AreSilent [] = Unit {0}
AreSilent (out ∷ more) = (out.facts ≡ []) × (out.packets ≡ []) × AreSilent more

silent_join : (xs ys : List Outbox) → AreSilent xs → AreSilent ys → AreSilent (xs ++ ys)
silent_join [] ys a b = b
silent_join (x ∷ xs) ys a b = (a.0, a.1, silent_join xs ys a.2 b)

pub silent_lines : (number : ℕ) (outs : List Outbox) → AreSilent outs → lines_from number outs ≡ []
silent_lines number [] a = refl
silent_lines number (out ∷ more) a =
    ap (λ (some : List Fact). map FactLine some ++ (sent_lines number out.packets ++ lines_from (number + length out.packets) more)) a.0
    ∙ (ap (λ (packets : List Packet). sent_lines number packets ++ lines_from (number + length packets) more) a.1 ∙ silent_lines (number + 0) more a.2)

crash_silent : (luck : Luck) (table : ℕ) (w : World) → AreSilent (move_table table (store.Crash luck) w).outs
crash_silent luck table w = go (hosted_at w table)
  where
    quiet : (d : StoreDisk) (agenda : Option (List StoreTask)) (l : Luck) → ((store.crashed d agenda l).facts ≡ []) × ((store.crashed d agenda l).sends ≡ [])
    quiet d None l = (refl, refl)
    quiet d (Some []) l = (refl, refl)
    quiet d (Some (task ∷ more)) messages.Done = (refl, refl)
    quiet d (Some (task ∷ more)) messages.FailedBefore = (refl, refl)
    quiet d (Some (task ∷ more)) messages.FailedAfter = (refl, refl)

    go : (o : Option Hosted) → AreSilent (move_hosted w table (store.Crash luck) o).outs
    go None = tt
    go (Some hosted) = let q = quiet hosted.store.disk hosted.store.agenda luck in (q.0, ap (packets_from (owner_of w) (nodes.Store (owner_of w table))) q.1, tt)

falls_silent : (tables : List ℕ) (w : World) → AreSilent (tables_fall tables w).outs
falls_silent [] w = tt
falls_silent (table ∷ tables) w =
    silent_join (table_falls table w).outs (tables_fall tables (table_falls table w).world).outs (crash_silent messages.FailedBefore table w) (falls_silent tables (table_falls table w).world)

pub store_falls_silent : (node : ℕ) (w : World) → AreSilent (store_falls node w).outs
store_falls_silent node w = silent_join (tables_fall (tables_of w node) w).outs [] (falls_silent (tables_of w node) w) tt

pub crashes_silent : (node calls : ℕ) (lucks : List Luck) (w : World) → AreSilent (store_crashes node calls lucks w).outs
crashes_silent node calls lucks w =
    let luck : Luck = crash_luck calls (other_lucks lucks) (first_luck lucks) in
    let m : Moved = table_crashes luck (busy_table w node) w in
    silent_join m.outs (store_falls node m.world).outs (one luck (busy_table w node)) (store_falls_silent node m.world)
  where
    one : (luck : Luck) (o : Option ℕ) → AreSilent (table_crashes luck o w).outs
    one luck None = tt
    one luck (Some table) = crash_silent luck table w

-- ---- a Store's moves

module _ (g : ℕ → Scheme) (table_work : TableWorks g) where
  falls_sound : (tables : List ℕ) (w : World) (s : Said) (number : ℕ) → Kept g w s → MoveSound g s w number (tables_fall tables w)
  falls_sound [] w s number k = still_sound g w s number k
  falls_sound (table ∷ tables) w s number k =
      both_sound g w s number (table_falls table w) (tables_fall tables) (table_work w s number k table (store.Crash messages.FailedBefore) tt)
      (λ x now. falls_sound tables _ x _ now)

  pub store_falls_sound : (node : ℕ) (w : World) (s : Said) (number : ℕ) → Kept g w s → MoveSound g s w number (store_falls node w)
  store_falls_sound node w s number k =
      both_sound g w s number (tables_fall (tables_of w node) w) (λ x. still (with_down (nodes.Store node) x)) (falls_sound (tables_of w node) w s number k)
      (λ x now. let v : World = (tables_fall (tables_of w node) w).world in nodes_sound g v x _ v.holds (nodes.Store node ∷ v.downs) v.cuts now)

  or_falls_sound : (node : ℕ) (w : World) (s : Said) (number : ℕ) (m : Moved) → MoveSound g s w number m → MoveSound g s w number (or_falls node m)
  or_falls_sound node w s number m a = go m.failed
    where
      go : (failed : Bool) → MoveSound g s w number (if failed then and_then m (store_falls node) else m)
      go true = both_sound g w s number m (store_falls node) a (λ x now. store_falls_sound node m.world x _ now)
      go false = a

  pub write_sound : (node : ℕ) (luck : Luck) (o : Option ℕ) (w : World) (s : Said) (number : ℕ) → Kept g w s → MoveSound g s w number (write_next node luck o w)
  write_sound node luck None w s number k = still_sound g w s number k
  write_sound node luck (Some table) w s number k = or_falls_sound node w s number (move_table table (store.Work luck) w) (table_work w s number k table (store.Work luck) tt)

  works_sound : (node count : ℕ) (lucks : List Luck) (w : World) (s : Said) (number : ℕ) → Kept g w s → MoveSound g s w number (store_works node count lucks w)
  works_sound node zero lucks w s number k = still_sound g w s number k
  works_sound node (suc more) lucks w s number k =
      unless_sound g w s number (write_next node (first_luck lucks) (busy_table w node) w) (store_works node more (other_lucks lucks))
      (write_sound node (first_luck lucks) (busy_table w node) w s number k)
      (λ x now. works_sound node more (other_lucks lucks) _ x _ now)

  pub until_idle_sound : (node : ℕ) (lucks : List Luck) (w : World) (s : Said) (number : ℕ) → Kept g w s → MoveSound g s w number (store_until_idle node lucks w)
  until_idle_sound node lucks w s number k = works_sound node (length (tasks_of w node)) lucks w s number k

  follows_sound : (node : ℕ) (lucks : List Luck) (w : World) (s : Said) (number : ℕ) → Kept g w s → MoveSound g s w number (store_follows node lucks w)
  follows_sound node lucks w s number k = go (has_node w.holds (nodes.Store node))
    where
      go : (held : Bool) → MoveSound g s w number (if held then still w else store_until_idle node lucks w)
      go true = still_sound g w s number k
      go false = until_idle_sound node lucks w s number k

  pub table_follows_sound : (table : ℕ) (lucks : List Luck) (w : World) (s : Said) (number : ℕ) → Kept g w s → MoveSound g s w number (table_follows table lucks w)
  table_follows_sound table lucks w s number k = go (is_at_work w table)
    where
      go : (busy : Bool) → MoveSound g s w number (if busy then store_follows (owner_of w table) lucks w else still w)
      go true = follows_sound (owner_of w table) lucks w s number k
      go false = still_sound g w s number k

  crash_sound : (luck : Luck) (o : Option ℕ) (w : World) (s : Said) (number : ℕ) → Kept g w s → MoveSound g s w number (table_crashes luck o w)
  crash_sound luck None w s number k = still_sound g w s number k
  crash_sound luck (Some table) w s number k = table_work w s number k table (store.Crash luck) tt

  pub crashes_sound : (node calls : ℕ) (lucks : List Luck) (w : World) (s : Said) (number : ℕ) → Kept g w s → MoveSound g s w number (store_crashes node calls lucks w)
  crashes_sound node calls lucks w s number k =
      let luck : Luck = crash_luck calls (other_lucks lucks) (first_luck lucks) in
      both_sound g w s number (table_crashes luck (busy_table w node) w) (store_falls node) (crash_sound luck (busy_table w node) w s number k)
      (λ x now. store_falls_sound node (table_crashes luck (busy_table w node) w).world x _ now)

  module _ (table_start : TableStarts g) where
    start_sound : (table : ℕ) (luck : Luck) (w : World) (s : Said) (number : ℕ) → Kept g w s → MoveSound g s w number (table_starts table luck w)
    start_sound table messages.Done w s number k = table_start w s number k table
    start_sound table messages.FailedBefore w s number k = failing_sound g w s number (still w) (still_sound g w s number k)
    start_sound table messages.FailedAfter w s number k = failing_sound g w s number (still w) (still_sound g w s number k)

    tables_sound : (tables : List ℕ) (lucks : List Luck) (w : World) (s : Said) (number : ℕ) → Kept g w s → MoveSound g s w number (tables_start tables lucks w)
    tables_sound [] lucks w s number k = still_sound g w s number k
    tables_sound (table ∷ tables) lucks w s number k =
        unless_sound g w s number (table_starts table (first_luck lucks) w) (tables_start tables (other_lucks lucks)) (start_sound table (first_luck lucks) w s number k)
        (λ x now. tables_sound tables (other_lucks lucks) _ x _ now)

    pub starts_sound : (node : ℕ) (lucks : List Luck) (w : World) (s : Said) (number : ℕ) → Kept g w s → MoveSound g s w number (store_starts node lucks w)
    starts_sound node lucks w s number k = go m.failed
      where
        tables : List ℕ
        tables = tables_of w node

        m : Moved
        m = and_then (tables_fall tables w) (tables_start tables lucks)

        started : MoveSound g s w number m
        started = both_sound g w s number (tables_fall tables w) (tables_start tables lucks) (falls_sound tables w s number k) (λ x now. tables_sound tables lucks _ x _ now)

        up : World → World
        up x = without_down (nodes.Store node) x

        go : (failed : Bool) → MoveSound g s w number (if failed then and_then m (store_falls node)
            else and_then m (λ x. store_follows node (drop (length tables) lucks) (up x)))
        go true = both_sound g w s number m (store_falls node) started (λ x now. store_falls_sound node m.world x _ now)
        go false = both_sound g w s number m (λ x. store_follows node (drop (length tables) lucks) (up x)) started (λ x now. follows x now)
          where
            follows : (x : Said) → Kept g m.world x → MoveSound g x m.world (number + sent_by g m.outs) (store_follows node (drop (length tables) lucks) (up m.world))
            follows x now =
                let held = nodes_kept g m.world x m.world.holds (without_node m.world.downs (nodes.Store node)) m.world.cuts now in
                let a = follows_sound node (drop (length tables) lucks) (up m.world) x (number + sent_by g m.outs) held in
                record { lines = a.lines; kept = a.kept; there = a.there }
