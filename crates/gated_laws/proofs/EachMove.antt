-- What each move of a world keeps, each event keeps that declares nothing, for anything that is kept.
use Rattle.std.proofs.Common.{◌≡◌, ℕ, zero, suc, Bool, true, false, List, [], ◌∷◌, length, Option, Some, None, refl, true≢false}
use Rattle.std.specs.Prelude.{◌+◌, ◌&&◌, drop, slice_get, if◌then◌else◌}
use Rattle.stab_base.specs.declared.node.Node.{Node}
use Rattle.stab_base.specs.declared.node.Node.TheVariants as nodes
use Rattle.row_value.specs.declared.schema.Schema.{Schema}
use Rattle.table_model.specs.declared.event.Event.{Event}
use Rattle.table_model.specs.declared.event.Event.TheVariants as events
use Rattle.table_model.specs.declared.line.RowPair.{RowPair}
use Rattle.table_model.specs.declared.table_state.TableState.TheVariants as states
use Rattle.conflicts.specs.declared.stored.Stored.{Stored}
use Rattle.step_tables.specs.Facts.{Answer}
use Rattle.step_tables.specs.Facts as facts
use Rattle.step_tables.specs.Members.{Among}
use Rattle.step_tables.specs.Messages.{Message, Luck, table_of}
use Rattle.step_tables.specs.Messages as messages
use Rattle.step_tables.specs.StoreMoves as store
use Rattle.step_tables.specs.StoreMoves.{SidePut, StoreTask, StoreMove}
use Rattle.step_tables.specs.ClientMoves as client
use Rattle.step_tables.specs.ClientMoves.{Client, ClientTask, ClientMove, Shape, no_shape}
use Rattle.step_tables.proofs.Lists.{among_get}
use Rattle.world_tables.specs.World.{World, Packet, Hosted, Lucks, Moved, WorldStep, hosted_at, client_at, owner_of, hosted_by, has_store, has_node, is_down, without_node, with_link}
use Rattle.world_tables.specs.World.{still, and_then, and_unless, after_table, move_table, move_client, first_luck, other_lucks, tables_of, tables_fall, without_down, store_falls, or_falls}
use Rattle.world_tables.specs.World.{busy_table, write_next, store_works, tasks_of, store_until_idle, store_follows, table_follows, is_at_work, declared_late, start_hosted, table_starts}
use Rattle.world_tables.specs.World.{tables_start, store_starts, crash_luck, table_crashes, store_crashes, client_tasks, client_works, client_until_idle, client_follows, client_writes, starts_by}
use Rattle.world_tables.specs.World.{client_starts}
use Rattle.world_tables.specs.World.{client_falls, gets_tasks, client_follows_from, answering, answered, refused, unless_down, call_there, call, listed, first_shape, other_shapes, chosen_of}
use Rattle.world_tables.specs.World.{client_pairs}
use Rattle.world_tables.specs.World.{resolve_by, plan_size, resolve_each, resolve_all, take_read, take_at, to_hosted, to_there, carried, delivered, row_read, store_shows, history_lines, chunk_names}
use Rattle.world_tables.specs.World.{worked, all_worked, crashed, started, linked, schema_at, puts_beside, opens, created, dropped, step}
use Rattle.world_tables.specs.Sound.{is_declaration}
use Rattle.world_laws.proofs.Calls.{call_is}
use Rattle.fair_laws.specs.Fair.{OpensKnown}

-- a move that brings no message
abbrev pub IsOwnMove : StoreMove → Type 0
IsOwnMove (store.Take from message) = ⊥
IsOwnMove other = Unit {0}

module _ (P : World → Type 0) (beside : (w : World) (holds downs cuts : List Node) → P w → P (record w { holds = holds; downs = downs; cuts = cuts }))
    (at_table : (w : World) (table : ℕ) (move : StoreMove) → IsOwnMove move → P w → P (move_table table move w).world)
    (late : (w : World) (table : ℕ) (hosted : Hosted) → hosted_at w table ≡ Some hosted → P w
    → P (after_table w table (record hosted { made = true }) (declared_late (owner_of w table) table hosted.store.disk.state)).world)
    (takes : (w : World) (p : Packet) → Among w.packets p → P w → P (move_table (table_of p.message) (store.Take p.from p.message) w).world)
    (at_client : (w : World) (c : ℕ) (move : ClientMove) (shape : Shape) → OpensKnown (schema_at w) move → P w → P (move_client c move shape w).world) where
  unless : (m : Moved) (f : World → Moved) → P m.world → (P m.world → P (f m.world).world) → P (and_unless m f).world
  unless m f a b = go m.failed
    where
      go : (failed : Bool) → P (if failed then m else and_then m f).world
      go true = a
      go false = b a

  -- ---- a Store's moves

  falls : (tables : List ℕ) (w : World) → P w → P (tables_fall tables w).world
  falls [] w p = p
  falls (table ∷ tables) w p = falls tables (move_table table (store.Crash messages.FailedBefore) w).world (at_table w table (store.Crash messages.FailedBefore) tt p)

  a_store_falls : (number : ℕ) (w : World) → P w → P (store_falls number w).world
  a_store_falls number w p = let x : World = (tables_fall (tables_of w number) w).world in beside x x.holds (nodes.Store number ∷ x.downs) x.cuts (falls (tables_of w number) w p)

  falls_too : (number : ℕ) (m : Moved) → P m.world → P (or_falls number m).world
  falls_too number m p = go m.failed
    where
      go : (failed : Bool) → P (if failed then and_then m (store_falls number) else m).world
      go true = a_store_falls number m.world p
      go false = p

  writes : (number : ℕ) (luck : Luck) (o : Option ℕ) (w : World) → P w → P (write_next number luck o w).world
  writes number luck None w p = p
  writes number luck (Some table) w p = falls_too number (move_table table (store.Work luck) w) (at_table w table (store.Work luck) tt p)

  works : (number count : ℕ) (lucks : List Luck) (w : World) → P w → P (store_works number count lucks w).world
  works number zero lucks w p = p
  works number (suc more) lucks w p =
      let m : Moved = write_next number (first_luck lucks) (busy_table w number) w in
      unless m (store_works number more (other_lucks lucks)) (writes number (first_luck lucks) (busy_table w number) w p) (λ now. works number more (other_lucks lucks) m.world now)

  follows : (number : ℕ) (lucks : List Luck) (w : World) → P w → P (store_follows number lucks w).world
  follows number lucks w p = go (has_node w.holds (nodes.Store number))
    where
      go : (held : Bool) → P (if held then still w else store_until_idle number lucks w).world
      go true = p
      go false = works number (length (tasks_of w number)) lucks w p

  follows_table : (table : ℕ) (lucks : List Luck) (w : World) → P w → P (table_follows table lucks w).world
  follows_table table lucks w p = go (is_at_work w table)
    where
      go : (busy : Bool) → P (if busy then store_follows (owner_of w table) lucks w else still w).world
      go true = follows (owner_of w table) lucks w p
      go false = p

  crashes : (number calls : ℕ) (lucks : List Luck) (w : World) → P w → P (store_crashes number calls lucks w).world
  crashes number calls lucks w p = a_store_falls number (table_crashes luck (busy_table w number) w).world (one (busy_table w number))
    where
      luck : Luck
      luck = crash_luck calls (other_lucks lucks) (first_luck lucks)

      one : (o : Option ℕ) → P (table_crashes luck o w).world
      one None = p
      one (Some table) = at_table w table (store.Crash luck) tt p

  a_table_starts : (w : World) (table : ℕ) → P w → P (start_hosted w table (hosted_at w table)).world
  a_table_starts w table p = go (hosted_at w table) refl
    where
      made : (hosted : Hosted) (b : Bool) → hosted_at w table ≡ Some hosted
          → P (if b then move_table table store.Start w else after_table w table (record hosted { made = true }) (declared_late (owner_of w table) table hosted.store.disk.state)).world
      made hosted true at = at_table w table store.Start tt p
      made hosted false at = late w table hosted at p

      go : (o : Option Hosted) → hosted_at w table ≡ o → P (start_hosted w table o).world
      go None at = p
      go (Some hosted) at = made hosted hosted.made at

  starts : (tables : List ℕ) (lucks : List Luck) (w : World) → P w → P (tables_start tables lucks w).world
  starts [] lucks w p = p
  starts (table ∷ tables) lucks w p =
      unless (table_starts table (first_luck lucks) w) (tables_start tables (other_lucks lucks)) (one (first_luck lucks))
      (λ now. starts tables (other_lucks lucks) (table_starts table (first_luck lucks) w).world now)
    where
      one : (luck : Luck) → P (table_starts table luck w).world
      one messages.Done = a_table_starts w table p
      one messages.FailedBefore = p
      one messages.FailedAfter = p

  a_store_starts : (number : ℕ) (lucks : List Luck) (w : World) → P w → P (store_starts number lucks w).world
  a_store_starts number lucks w p = go m.failed
    where
      tables : List ℕ
      tables = tables_of w number

      m : Moved
      m = and_then (tables_fall tables w) (tables_start tables lucks)

      begun : P m.world
      begun = starts tables lucks (tables_fall tables w).world (falls tables w p)

      up : World
      up = without_down (nodes.Store number) m.world

      go : (failed : Bool) → P (if failed then and_then m (store_falls number) else and_then m (λ x. store_follows number (drop (length tables) lucks) (without_down (nodes.Store number) x))).world
      go true = a_store_falls number m.world begun
      go false = follows number (drop (length tables) lucks) up (beside m.world m.world.holds up.downs m.world.cuts begun)

  -- ---- a client's moves

  client_work : (c : ℕ) (tasks : List ClientTask) (lucks : List Luck) (w : World) → P w → P (client_works c tasks lucks w).world
  client_work c [] lucks w p = p
  client_work c (task ∷ tasks) lucks w p =
      client_work c tasks (other_lucks lucks) (move_client c (client.Work (first_luck lucks)) no_shape w).world (at_client w c (client.Work (first_luck lucks)) no_shape tt p)

  follows_client : (c : ℕ) (lucks : List Luck) (w : World) → P w → P (client_follows c lucks w).world
  follows_client c lucks w p = go (has_node w.holds (nodes.Client c))
    where
      go : (held : Bool) → P (if held then still w else client_until_idle c lucks w).world
      go true = p
      go false = client_work c (client_tasks (client_at w c)) lucks w p

  client_write : (c : ℕ) (luck : Luck) (tasks : List ClientTask) (w : World) → P w → P (client_writes c luck tasks w).world
  client_write c luck [] w p = p
  client_write c luck (task ∷ tasks) w p = at_client w c (client.Work luck) no_shape tt p

  a_client_starts : (c : ℕ) (shape : Shape) (lucks : List Luck) (w : World) → P w → P (client_starts c shape lucks w).world
  a_client_starts c shape lucks w p = go (first_luck lucks)
    where
      go : (luck : Luck) → P (starts_by c shape luck (other_lucks lucks) w).world
      go messages.Done = follows_client c (other_lucks lucks) (move_client c client.Start shape w).world (at_client w c client.Start shape tt p)
      go messages.FailedBefore = p
      go messages.FailedAfter = p

  a_client_falls : (c : ℕ) (w : World) → P w → P (client_falls c w).world
  a_client_falls c w p = at_client w c (client.Crash messages.FailedBefore) no_shape tt p

  up : (w : World) (node : Node) (s : WorldStep) → P w → P s.world → P (unless_down w node s).world
  up w node s p now = go (is_down w node)
    where
      go : (b : Bool) → P (if b then refused w (facts.NodeDown node) else s).world
      go true = p
      go false = now

  called : (w : World) (c : ℕ) (move : ClientMove) (shape : Shape) (lucks : List Luck) (o : Option Client) → client_at w c ≡ o → OpensKnown (schema_at w) move → P w
      → P (call_there w c move shape lucks o).world
  called w c move shape lucks o at opens p = call_is (λ (s : WorldStep). P s.world) w c move shape lucks (λ r before. p) (a_client_falls c w p) (λ take. p) does o at
    where
      v : World
      v = (move_client c move shape w).world

      later : (node : Client) (b : Bool) → P (if b then client_follows c (other_lucks lucks) v else still v).world
      later node true = follows_client c (other_lucks lucks) v (at_client w c move shape opens p)
      later node false = at_client w c move shape opens p

      does : (node : Client) → client_at w c ≡ Some node → P (client_follows_from node.agenda c (other_lucks lucks) v).world
      does node is = later node (gets_tasks node.agenda v c)

  calls : (w : World) (c : ℕ) (move : ClientMove) (shape : Shape) (lucks : List Luck) → OpensKnown (schema_at w) move → P w → P (call w c move shape lucks).world
  calls w c move shape lucks opens p = called w c move shape lucks (client_at w c) refl opens p

  -- a step whose answer is another one
  abbrev with_answer : WorldStep → Option Answer → WorldStep
  with_answer s o = record s { answer = o }

  lists : (s : WorldStep) → P s.world → P (listed s).world
  lists s p = go s.answer
    where
      go : (o : Option Answer) → P (listed (with_answer s o)).world
      go None = p
      go (Some facts.Done) = p
      go (Some (facts.Number count)) = p
      go (Some (facts.Shows what)) = p
      go (Some (facts.Sums sum)) = p
      go (Some (facts.Stores version content)) = p
      go (Some (facts.Did did)) = p
      go (Some (facts.Names names)) = p
      go (Some (facts.Pairs pairs)) = p
      go (Some (facts.Refuses refusal)) = p

  module _ (c table : ℕ) (by : Stored) where
    resolves : (shape : Shape) (pair : RowPair) (luck : Luck) (w : World) → P w → P (resolve_by c table by shape pair luck w).world
    resolves shape pair messages.Done w p = at_client w c (client.Resolve table pair.row pair.version (chosen_of by pair.row (client_at w c) table)) shape tt p
    resolves shape pair messages.FailedBefore w p = a_client_falls c w p
    resolves shape pair messages.FailedAfter w p = a_client_falls c w p

    resolves_each : (shapes : List Shape) (lucks : List Luck) (pairs : List RowPair) (w : World) → P w → P (resolve_each c table by shapes lucks pairs w).world
    resolves_each shapes lucks [] w p = p
    resolves_each shapes lucks (pair ∷ pairs) w p =
        unless worked_off (resolve_each c table by (other_shapes shapes) more pairs)
        (unless resolved (client_until_idle c (other_lucks lucks)) (resolves (first_shape shapes) pair (first_luck lucks) w p)
        (λ now. client_work c (client_tasks (client_at resolved.world c)) (other_lucks lucks) resolved.world now))
        (λ now. resolves_each (other_shapes shapes) more pairs worked_off.world now)
      where
        resolved : Moved
        resolved = resolve_by c table by (first_shape shapes) pair (first_luck lucks) w

        worked_off : Moved
        worked_off = and_unless resolved (client_until_idle c (other_lucks lucks))

        more : List Luck
        more = drop (1 + plan_size c resolved.world) lucks

    resolves_all : (w : World) → P w → (shapes : List Shape) (lucks : List Luck) (s : WorldStep) → P s.world → P (resolve_all w c table by shapes lucks s).world
    resolves_all w p shapes lucks s now = go s.answer
      where
        go : (o : Option Answer) → P (resolve_all w c table by shapes lucks (with_answer s o)).world
        go None = now
        go (Some facts.Done) = now
        go (Some (facts.Number count)) = resolves_each shapes lucks (client_pairs (client_at w c) table) w p
        go (Some (facts.Shows what)) = now
        go (Some (facts.Sums sum)) = now
        go (Some (facts.Stores version content)) = now
        go (Some (facts.Did did)) = now
        go (Some (facts.Names names)) = now
        go (Some (facts.Pairs pairs)) = now
        go (Some (facts.Refuses refusal)) = now

  -- ---- deliveries, and what is read

  module _ (w : World) (p : P w) where
    to_table : (table : ℕ) (move : StoreMove) → P (move_table table move w).world → (lucks : List Luck) (o : Option Hosted) → P (to_hosted w table move lucks o).world
    to_table table move first lucks None = p
    to_table table move first lucks (Some hosted) = go hosted.store.agenda
      where
        read : (luck : Luck) → P (take_read w table hosted move (other_lucks lucks) luck).world
        read messages.Done = follows_table table (other_lucks lucks) (move_table table move w).world first
        read messages.FailedBefore = a_store_falls (owner_of w table) w p
        read messages.FailedAfter = a_store_falls (owner_of w table) w p

        go : (o : Option (List StoreTask)) → P (take_at w table hosted move lucks o).world
        go None = first
        go (Some (task ∷ more)) = first
        go (Some []) = read (first_luck lucks)

    brings : (packet : Packet) → Among w.packets packet → (shape : Shape) (lucks : List Luck) (to : Node) → P (carried w packet shape lucks to).world
    brings packet a shape lucks (nodes.Store number) =
        up w (nodes.Store number) _ p (to_table (table_of packet.message) (store.Take packet.from packet.message) (takes w packet a p) lucks (hosted_by w number (table_of packet.message)))
    brings packet a shape lucks (nodes.Gate gate) = p
    brings packet a shape lucks (nodes.Client c) = go (client_at w c) refl
      where
        go : (o : Option Client) → client_at w c ≡ o → P (to_there w c packet.message shape lucks o).world
        go None at = p
        go (Some node) at = called w c (client.Take packet.message) shape lucks (Some node) at tt p

    delivers : (shape : Shape) (lucks : List Luck) (k : ℕ) (o : Option Packet) → slice_get w.packets k ≡ o → P (delivered w shape lucks o).world
    delivers shape lucks k None at = p
    delivers shape lucks k (Some packet) at = brings packet (among_get w.packets k packet at) shape lucks packet.to

    links : (c : ℕ) (b : Bool) (o : Option Client) → P (linked w c b o).world
    links c b None = p
    links c b (Some node) = up w (nodes.Client c) _ p (go b)
      where
        go : (b : Bool) → P (with_link c b w)
        go true = beside w w.holds w.downs (without_node w.cuts (nodes.Client c)) p
        go false = beside w w.holds w.downs (nodes.Client c ∷ w.cuts) p

    shows : (table : ℕ) (row : List ℕ) (lucks : List Luck) (o : Option Hosted) → P (store_shows w table row lucks o).world
    shows table row lucks None = p
    shows table row lucks (Some hosted) = up w (nodes.Store (owner_of w table)) _ p (read (first_luck lucks))
      where
        read : (luck : Luck) → P (row_read w table hosted row luck).world
        read messages.Done = p
        read messages.FailedBefore = a_store_falls (owner_of w table) w p
        read messages.FailedAfter = a_store_falls (owner_of w table) w p

    tells_history : (table : ℕ) (o : Option Hosted) → P (history_lines w table o).world
    tells_history table None = p
    tells_history table (Some hosted) = p

    names_chunks : (table : ℕ) (o : Option Hosted) → P (chunk_names w table o).world
    names_chunks table None = p
    names_chunks table (Some hosted) = up w (nodes.Store (owner_of w table)) _ p p

    -- ---- tables that are made and dropped

    puts : (number table : ℕ) (put : SidePut) (lucks : List Luck) → P (puts_beside w number table put lucks).world
    puts number table put lucks = up w (nodes.Store number) _ p (to_table table (store.Place put) (at_table w table (store.Place put) tt p) lucks (hosted_by w number table))

    opens_at : (c table : ℕ) (shape : Shape) (lucks : List Luck) (o : Option Schema) → schema_at w table ≡ o → P (opens w c table shape lucks o).world
    opens_at c table shape lucks None is = p
    opens_at c table shape lucks (Some schema) is = calls w c (client.Alter table (client.Opens schema)) shape lucks is p

    creates : (table : ℕ) (shape : Shape) (lucks : List Luck) (node : Node) → P (created w table shape lucks node).world
    creates table shape lucks (nodes.Store number) = puts number table (store.PutState states.Live) lucks
    creates table shape lucks (nodes.Client c) = opens_at c table shape lucks (schema_at w table) refl
    creates table shape lucks (nodes.Gate gate) = p

    drops : (table : ℕ) (shape : Shape) (lucks : List Luck) (node : Node) → P (dropped w table shape lucks node).world
    drops table shape lucks (nodes.Store number) = puts number table (store.PutState states.Dropped) lucks
    drops table shape lucks (nodes.Client c) = calls w c (client.Alter table client.Closes) shape lucks tt p
    drops table shape lucks (nodes.Gate gate) = p

    -- ---- what is done to a node

    does_work : (lucks : List Luck) (node : Node) → P (worked w lucks node).world
    does_work lucks (nodes.Store number) = writes number (first_luck lucks) (busy_table w number) w p
    does_work lucks (nodes.Client c) = client_write c (first_luck lucks) (client_tasks (client_at w c)) w p
    does_work lucks (nodes.Gate gate) = p

    works_off : (lucks : List Luck) (node : Node) → P (all_worked w lucks node).world
    works_off lucks (nodes.Store number) = works number (length (tasks_of w number)) lucks w p
    works_off lucks (nodes.Client c) = client_work c (client_tasks (client_at w c)) lucks w p
    works_off lucks (nodes.Gate gate) = p

    does_crash : (count : ℕ) (lucks : List Luck) (node : Node) → P (crashed w count lucks node).world
    does_crash count lucks (nodes.Store number) = crashes number count lucks w p
    does_crash count lucks (nodes.Client c) = at_client w c (client.Crash (crash_luck count (other_lucks lucks) (first_luck lucks))) no_shape tt p
    does_crash count lucks (nodes.Gate gate) = p

    does_start : (shape : Shape) (lucks : List Luck) (node : Node) → P (started w shape lucks node).world
    does_start shape lucks (nodes.Store number) = go (has_store w number && is_down w (nodes.Store number))
      where
        go : (b : Bool) → P (if b then answering facts.Done (store_starts number lucks w) else answered w facts.Done).world
        go true = a_store_starts number lucks w p
        go false = p
    does_start shape lucks (nodes.Client c) = go (is_down w (nodes.Client c))
      where
        go : (b : Bool) → P (if b then answering facts.Done (client_starts c shape lucks w) else answered w facts.Done).world
        go true = a_client_starts c shape lucks w p
        go false = p
    does_start shape lucks (nodes.Gate gate) = p

    -- ---- every event that declares nothing

    pub step_keeps : (event : Event) → is_declaration event ≡ false → (lucks : Lucks) → P (step w event lucks).world
    step_keeps (events.Store number) plain lucks = absurd (true≢false plain)
    step_keeps (events.Gate number) plain lucks = absurd (true≢false plain)
    step_keeps (events.Table table schema) plain lucks = absurd (true≢false plain)
    step_keeps (events.Draft table schema) plain lucks = absurd (true≢false plain)
    step_keeps (events.Client c gate tables) plain lucks = absurd (true≢false plain)
    step_keeps (events.Write c table row x) plain lucks = calls w c (client.Write table row x) lucks.shape lucks.calls tt p
    step_keeps (events.Edit c table row x) plain lucks = calls w c (client.Change table row x) lucks.shape lucks.calls tt p
    step_keeps (events.Link c b) plain lucks = links c b (client_at w c)
    step_keeps (events.Create node table) plain lucks = creates table lucks.shape lucks.calls node
    step_keeps (events.Drop node table) plain lucks = drops table lucks.shape lucks.calls node
    step_keeps (events.Save number table d terms) plain lucks = puts number table (store.PutSub d terms) lucks.calls
    step_keeps (events.Ask d table) plain lucks = calls w d (client.Next table [] []) lucks.shape lucks.calls tt p
    step_keeps (events.Net it) plain lucks = p
    step_keeps (events.Show c table row) plain lucks = calls w c (client.Show table row) lucks.shape lucks.calls tt p
    step_keeps (events.Sum c table row) plain lucks = calls w c (client.Sum table row) lucks.shape lucks.calls tt p
    step_keeps (events.Sync c table) plain lucks = calls w c (client.Sync table) lucks.shape lucks.calls tt p
    step_keeps (events.Pull c table) plain lucks = calls w c (client.Next table lucks.tears lucks.asks) lucks.shape lucks.calls tt p
    step_keeps (events.BeginCr c table) plain lucks = calls w c (client.BeginCr table) lucks.shape lucks.calls tt p
    step_keeps (events.Conflicts c table) plain lucks = lists (call w c (client.Conflicts table) lucks.shape lucks.calls) (calls w c (client.Conflicts table) lucks.shape lucks.calls tt p)
    step_keeps (events.EndCr c table) plain lucks = calls w c (client.EndCr table) lucks.shape lucks.calls tt p
    step_keeps (events.Resolve c table row seen choice) plain lucks = calls w c (client.Resolve table row seen choice) lucks.shape lucks.calls tt p
    step_keeps (events.ResolveAll c table by) plain lucks =
        resolves_all c table by w p lucks.shapes (other_lucks lucks.calls) (call w c (client.ResolveAll table by) lucks.shape lucks.calls)
        (calls w c (client.ResolveAll table by) lucks.shape lucks.calls tt p)
    step_keeps (events.Deliver packet) plain lucks = delivers lucks.shape lucks.calls packet (slice_get w.packets packet) refl
    step_keeps (events.StoreShow table row) plain lucks = shows table row lucks.calls (hosted_at w table)
    step_keeps (events.History table) plain lucks = tells_history table (hosted_at w table)
    step_keeps (events.Chunks table) plain lucks = names_chunks table (hosted_at w table)
    step_keeps (events.Hold node) plain lucks = up w node _ p (beside w (node ∷ w.holds) w.downs w.cuts p)
    step_keeps (events.Free node) plain lucks = up w node _ p (beside w (without_node w.holds node) w.downs w.cuts p)
    step_keeps (events.Work node) plain lucks = up w node _ p (does_work lucks.calls node)
    step_keeps (events.WorkAll node) plain lucks = up w node _ p (works_off lucks.calls node)
    step_keeps (events.Crash node count pick) plain lucks = up w node _ p (does_crash count lucks.calls node)
    step_keeps (events.Start node) plain lucks = does_start lucks.shape lucks.calls node
