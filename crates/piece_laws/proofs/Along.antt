-- What the moves of a world keep of the names of chunks, one after the other.
use Rattle.std.proofs.Common.{◌≡◌, inl, ℕ, zero, suc, Bool, true, false, List, [], ◌∷◌, length, Option, Some, None, refl, sym, ◌∙◌, subst}
use Rattle.std.specs.Prelude.{drop, if◌then◌else◌}
use Rattle.stab_base.specs.declared.node.Node.{Node}
use Rattle.stab_base.specs.declared.node.Node.TheVariants as nodes
use Rattle.step_tables.specs.Messages.{Luck}
use Rattle.step_tables.specs.Messages as messages
use Rattle.step_tables.specs.StoreMoves as store
use Rattle.step_tables.specs.StoreMoves.{StoreDisk, StoreTask, StoreMove, StoreStep, SidePut}
use Rattle.step_tables.specs.ClientMoves as client
use Rattle.step_tables.specs.ClientMoves.{Client, ClientTask, ClientMove, Shape, no_shape, client_step}
use Rattle.world_tables.specs.World.{World, Hosted, Moved, owner_of, tables_of, hosted_at, client_at, has_node, still, and_then, and_unless}
use Rattle.world_tables.specs.World.{after_table, table_step, move_hosted, move_table, move_there, move_client, first_luck, other_lucks, client_works, client_tasks, client_until_idle, client_writes}
use Rattle.world_tables.specs.World.{client_follows, starts_by, client_falls, gets_tasks, client_follows_from}
use Rattle.world_tables.specs.World.{table_falls, tables_fall, without_down, store_falls, or_falls, is_at_work, busy_table, write_next, store_works, tasks_of, store_until_idle}
use Rattle.world_tables.specs.World.{store_follows, table_follows}
use Rattle.world_tables.specs.World.{declared_late, start_hosted, table_starts, tables_start, store_starts, crash_luck, table_crashes, store_crashes}
use Rattle.name_laws.proofs.Rows.{AreWellNamed, nothing_named}
use Rattle.piece_laws.specs.Pieces.{items_in, items_at, asked_in}
use Rattle.piece_laws.proofs.Tables.{worked_move, crashed_move, placed_move, started_move}
use Rattle.piece_laws.proofs.Moves.{Takes, move_step}
use Rattle.piece_laws.proofs.Worlds.{IsNamedWorld, client_moved, table_moved}

module _ (size : ℕ → ℕ) where
  abbrev Named : World → Type 0
  Named w = IsNamedWorld size w

  -- nor is which Stores there are
  pub stores_named : (w : World) (stores : List ℕ) (downs : List Node) → Named w → Named (record w { stores = stores; downs = downs })
  stores_named w stores downs k = record {
    sized = k.sized;
    declared = k.declared;
    tables = k.tables;
    items = k.items;
    clients = k.clients;
    packets = k.packets;
    pairs = k.pairs;
  }

  -- what is on hold, what is down, which links are down and which phases are open is no part of it
  pub nodes_named : (w : World) (holds downs cuts : List Node) (phases : List (ℕ × ℕ)) → Named w → Named (record w { holds = holds; downs = downs; cuts = cuts; phases = phases })
  nodes_named w holds downs cuts phases k = record {
    sized = k.sized;
    declared = k.declared;
    tables = k.tables;
    items = k.items;
    clients = k.clients;
    packets = k.packets;
    pairs = k.pairs;
  }

  pub unless_named : (m : Moved) (f : World → Moved) → Named m.world → (Named m.world → Named (f m.world).world) → Named (and_unless m f).world
  unless_named m f k more = go m.failed
    where
      go : (b : Bool) → Named (if b then m else and_then m f).world
      go true = k
      go false = more k

  -- ---- a table's moves

  down_worked : (d : StoreDisk) (agenda : Option (List StoreTask)) (luck : Luck) → (d.items ≡ []) × (agenda ≡ None)
      → ((store.worked d agenda luck).store.disk.items ≡ []) × ((store.worked d agenda luck).store.agenda ≡ None)
  down_worked d None messages.Done u = (u.0, refl)
  down_worked d None messages.FailedBefore u = (u.0, refl)
  down_worked d None messages.FailedAfter u = (u.0, refl)
  down_worked d (Some tasks) luck u = absurd (let none = u.1 in cc)

  down_crashed : (d : StoreDisk) (agenda : Option (List StoreTask)) (luck : Luck) → (d.items ≡ []) × (agenda ≡ None)
      → ((store.crashed d agenda luck).store.disk.items ≡ []) × ((store.crashed d agenda luck).store.agenda ≡ None)
  down_crashed d None luck u = (u.0, refl)
  down_crashed d (Some tasks) luck u = absurd (let none = u.1 in cc)

  pub works_at : (w : World) (table : ℕ) (luck : Luck) → Named w → Named (move_table table (store.Work luck) w).world
  works_at w table luck k = go (hosted_at w table) refl
    where
      go : (o : Option Hosted) → hosted_at w table ≡ o → Named (move_hosted w table (store.Work luck) o).world
      go None at = k
      go (Some hosted) at =
          let x = k.tables table hosted at in
          table_moved size w table hosted hosted (table_step w table hosted (store.Work luck)) at k
          (worked_move (size table) (asked_in w) table hosted.store.disk hosted.store.agenda luck x.grows x.sends)
          (λ none. down_worked hosted.store.disk hosted.store.agenda luck (x.unmade none))

  pub crashes_at : (w : World) (table : ℕ) (luck : Luck) → Named w → Named (move_table table (store.Crash luck) w).world
  crashes_at w table luck k = go (hosted_at w table) refl
    where
      go : (o : Option Hosted) → hosted_at w table ≡ o → Named (move_hosted w table (store.Crash luck) o).world
      go None at = k
      go (Some hosted) at =
          let x = k.tables table hosted at in
          table_moved size w table hosted hosted (table_step w table hosted (store.Crash luck)) at k
          (crashed_move (size table) (asked_in w) table hosted.store.disk hosted.store.agenda luck x.grows)
          (λ none. down_crashed hosted.store.disk hosted.store.agenda luck (x.unmade none))

  down_placed : (table : ℕ) (d : StoreDisk) (agenda : Option (List StoreTask)) (put : SidePut) → (d.items ≡ []) × (agenda ≡ None)
      → ((store.placed table d agenda put).store.disk.items ≡ []) × ((store.placed table d agenda put).store.agenda ≡ None)
  down_placed table d None put u = (u.0, refl)
  down_placed table d (Some tasks) put u = absurd (let none = u.1 in cc)

  pub places_at : (w : World) (table : ℕ) (put : SidePut) → Named w → Named (move_table table (store.Place put) w).world
  places_at w table put k = go (hosted_at w table) refl
    where
      go : (o : Option Hosted) → hosted_at w table ≡ o → Named (move_hosted w table (store.Place put) o).world
      go None at = k
      go (Some hosted) at =
          let x = k.tables table hosted at in
          table_moved size w table hosted hosted (table_step w table hosted (store.Place put)) at k
          (placed_move (size table) (asked_in w) table hosted.store.disk hosted.store.agenda put x.grows x.sends)
          (λ none. down_placed table hosted.store.disk hosted.store.agenda put (x.unmade none))

  pub starts_at : (w : World) (table : ℕ) → Named w → Named (start_hosted w table (hosted_at w table)).world
  starts_at w table k = go (hosted_at w table) refl
    where
      late : Hosted → StoreStep
      late hosted = declared_late (owner_of w table) table hosted.store.disk.state

      made : (hosted : Hosted) → hosted_at w table ≡ Some hosted → (b : Bool) → hosted.made ≡ b
          → Named (if b then move_hosted w table store.Start (Some hosted) else after_table w table (record hosted { made = true }) (late hosted)).world
      made hosted at true is =
          let x = k.tables table hosted at in
          table_moved size w table hosted hosted (table_step w table hosted store.Start) at k
          (started_move (size table) (asked_in w) table (owner_of w table) hosted.store.disk hosted.store.agenda x.grows x.sends)
          (λ none. absurd (let both : true ≡ false = sym is ∙ none in cc))
      made hosted at false is =
          let x = k.tables table hosted at in
          table_moved size w table (record hosted { made = true }) hosted (late hosted) at k
          (record { became = inl (sym (x.unmade is).0); grows = tt; sends = tt; known = tt })
          (λ none. absurd cc)

      go : (o : Option Hosted) → hosted_at w table ≡ o → Named (start_hosted w table o).world
      go None at = k
      go (Some hosted) at = subst
          (λ (o : Option Hosted). Named (if hosted.made then move_hosted w table store.Start o else after_table w table (record hosted { made = true }) (late hosted)).world)
          (sym at) (made hosted at hosted.made refl)

  pub named_at : (w : World) → Named w → (table : ℕ) → AreWellNamed (size table) (items_at w table)
  named_at w k table = go (hosted_at w table) refl
    where
      go : (o : Option Hosted) → hosted_at w table ≡ o → AreWellNamed (size table) (items_in o)
      go None at = nothing_named (size table)
      go (Some hosted) at = (k.tables table hosted at).linked.named

  -- ---- a client's moves

  pub moves_at : (w : World) (c : ℕ) (move : ClientMove) (shape : Shape) → Named w
      → ((node : Client) → client_at w c ≡ Some node → Takes size c (items_at w) (asked_in w) node move) → Named (move_client c move shape w).world
  moves_at w c move shape k takes = go (client_at w c) refl
    where
      go : (o : Option Client) → client_at w c ≡ o → Named (move_there w c move shape o).world
      go None at = k
      go (Some node) at = client_moved size w c move (client_step c shape node move) k
          (move_step size c (items_at w) shape (asked_in w) node move (k.items, named_at w k) (k.clients c node at) (takes node at))

  pub client_works_named : (c : ℕ) (tasks : List ClientTask) (lucks : List Luck) (w : World) → Named w → Named (client_works c tasks lucks w).world
  client_works_named c [] lucks w k = k
  client_works_named c (task ∷ tasks) lucks w k =
      client_works_named c tasks (other_lucks lucks) (move_client c (client.Work (first_luck lucks)) no_shape w).world (moves_at w c (client.Work (first_luck lucks)) no_shape k (λ node at. tt))

  pub client_follows_named : (c : ℕ) (lucks : List Luck) (w : World) → Named w → Named (client_follows c lucks w).world
  client_follows_named c lucks w k = go (has_node w.holds (nodes.Client c))
    where
      go : (held : Bool) → Named (if held then still w else client_until_idle c lucks w).world
      go true = k
      go false = client_works_named c (client_tasks (client_at w c)) lucks w k

  pub client_writes_named : (c : ℕ) (luck : Luck) (tasks : List ClientTask) (w : World) → Named w → Named (client_writes c luck tasks w).world
  client_writes_named c luck [] w k = k
  client_writes_named c luck (task ∷ tasks) w k = moves_at w c (client.Work luck) no_shape k (λ node at. tt)

  pub follows_from_named : (agenda : Option (List ClientTask)) (c : ℕ) (lucks : List Luck) (w : World) → Named w → Named (client_follows_from agenda c lucks w).world
  follows_from_named agenda c lucks w k = go (gets_tasks agenda w c)
    where
      go : (b : Bool) → Named (if b then client_follows c lucks w else still w).world
      go true = client_follows_named c lucks w k
      go false = k

  pub client_falls_named : (c : ℕ) (w : World) → Named w → Named (client_falls c w).world
  client_falls_named c w k = moves_at w c (client.Crash messages.FailedBefore) no_shape k (λ node at. tt)

  pub client_starts_named : (c : ℕ) (shape : Shape) (luck : Luck) (lucks : List Luck) (w : World) → Named w → Named (starts_by c shape luck lucks w).world
  client_starts_named c shape messages.Done lucks w k =
      client_follows_named c lucks (move_client c client.Start shape w).world (moves_at w c client.Start shape k (λ node at. tt))
  client_starts_named c shape messages.FailedBefore lucks w k = k
  client_starts_named c shape messages.FailedAfter lucks w k = k

  -- ---- a Store's work, falls and starts

  pub tables_fall_named : (tables : List ℕ) (w : World) → Named w → Named (tables_fall tables w).world
  tables_fall_named [] w k = k
  tables_fall_named (table ∷ tables) w k = tables_fall_named tables (table_falls table w).world (crashes_at w table messages.FailedBefore k)

  pub store_falls_named : (number : ℕ) (w : World) → Named w → Named (store_falls number w).world
  store_falls_named number w k =
      let x : World = (tables_fall (tables_of w number) w).world in
      nodes_named x x.holds (nodes.Store number ∷ x.downs) x.cuts x.phases (tables_fall_named (tables_of w number) w k)

  pub or_falls_named : (number : ℕ) (m : Moved) → Named m.world → Named (or_falls number m).world
  or_falls_named number m k = go m.failed
    where
      go : (b : Bool) → Named (if b then and_then m (store_falls number) else m).world
      go true = store_falls_named number m.world k
      go false = k

  pub write_next_named : (number : ℕ) (luck : Luck) (o : Option ℕ) (w : World) → Named w → Named (write_next number luck o w).world
  write_next_named number luck None w k = k
  write_next_named number luck (Some table) w k = or_falls_named number (move_table table (store.Work luck) w) (works_at w table luck k)

  pub store_works_named : (number count : ℕ) (lucks : List Luck) (w : World) → Named w → Named (store_works number count lucks w).world
  store_works_named number zero lucks w k = k
  store_works_named number (suc more) lucks w k =
      let m : Moved = write_next number (first_luck lucks) (busy_table w number) w in
      unless_named m (store_works number more (other_lucks lucks)) (write_next_named number (first_luck lucks) (busy_table w number) w k)
      (λ x. store_works_named number more (other_lucks lucks) m.world x)

  pub store_follows_named : (number : ℕ) (lucks : List Luck) (w : World) → Named w → Named (store_follows number lucks w).world
  store_follows_named number lucks w k = go (has_node w.holds (nodes.Store number))
    where
      go : (b : Bool) → Named (if b then still w else store_until_idle number lucks w).world
      go true = k
      go false = store_works_named number (length (tasks_of w number)) lucks w k

  pub table_follows_named : (table : ℕ) (lucks : List Luck) (w : World) → Named w → Named (table_follows table lucks w).world
  table_follows_named table lucks w k = go (is_at_work w table)
    where
      go : (b : Bool) → Named (if b then store_follows (owner_of w table) lucks w else still w).world
      go true = store_follows_named (owner_of w table) lucks w k
      go false = k

  pub store_crashes_named : (number calls : ℕ) (lucks : List Luck) (w : World) → Named w → Named (store_crashes number calls lucks w).world
  store_crashes_named number calls lucks w k = store_falls_named number (table_crashes luck (busy_table w number) w).world (one (busy_table w number))
    where
      luck : Luck
      luck = crash_luck calls (other_lucks lucks) (first_luck lucks)

      one : (o : Option ℕ) → Named (table_crashes luck o w).world
      one None = k
      one (Some table) = crashes_at w table luck k

  pub table_starts_named : (table : ℕ) (luck : Luck) (w : World) → Named w → Named (table_starts table luck w).world
  table_starts_named table messages.Done w k = starts_at w table k
  table_starts_named table messages.FailedBefore w k = k
  table_starts_named table messages.FailedAfter w k = k

  pub tables_start_named : (tables : List ℕ) (lucks : List Luck) (w : World) → Named w → Named (tables_start tables lucks w).world
  tables_start_named [] lucks w k = k
  tables_start_named (table ∷ tables) lucks w k =
      let m : Moved = table_starts table (first_luck lucks) w in
      unless_named m (tables_start tables (other_lucks lucks)) (table_starts_named table (first_luck lucks) w k) (λ x. tables_start_named tables (other_lucks lucks) m.world x)

  pub store_starts_named : (number : ℕ) (lucks : List Luck) (w : World) → Named w → Named (store_starts number lucks w).world
  store_starts_named number lucks w k = go m.failed
    where
      tables : List ℕ
      tables = tables_of w number

      m : Moved
      m = and_then (tables_fall tables w) (tables_start tables lucks)

      started : Named m.world
      started = tables_start_named tables lucks (tables_fall tables w).world (tables_fall_named tables w k)

      go : (b : Bool) → Named (if b then and_then m (store_falls number) else and_then m (λ x. store_follows number (drop (length tables) lucks) (without_down (nodes.Store number) x))).world
      go true = store_falls_named number m.world started
      go false = store_follows_named number (drop (length tables) lucks) (without_down (nodes.Store number) m.world)
          (nodes_named m.world m.world.holds (without_down (nodes.Store number) m.world).downs m.world.cuts m.world.phases started)
