-- What each move of a world has, any event has that starts and declares nothing.
use Rattle.std.proofs.Common.{◌≡◌, ℕ, zero, suc, Bool, true, false, List, [], ◌∷◌, length, Option, Some, None, refl}
use Rattle.std.specs.Prelude.{◌+◌, drop, slice_get, if◌then◌else◌}
use Rattle.stab_base.specs.declared.node.Node.{Node}
use Rattle.stab_base.specs.declared.node.Node.TheVariants as nodes
use Rattle.table_model.specs.declared.event.Event.{Event}
use Rattle.table_model.specs.declared.event.Event.TheVariants as events
use Rattle.table_model.specs.declared.table_state.TableState.TheVariants as states
use Rattle.table_model.specs.declared.line.RowPair.{RowPair}
use Rattle.row_value.specs.declared.schema.Schema.{Schema}
use Rattle.conflicts.specs.declared.stored.Stored.{Stored}
use Rattle.step_tables.specs.Facts.{Answer, Refusal}
use Rattle.step_tables.specs.Facts as facts
use Rattle.step_tables.specs.Messages.{Message, Luck, table_of}
use Rattle.step_tables.specs.Messages as messages
use Rattle.step_tables.specs.StoreMoves as store
use Rattle.step_tables.specs.StoreMoves.{StoreMove, StoreTask, SidePut}
use Rattle.step_tables.specs.ClientMoves as client
use Rattle.step_tables.specs.ClientMoves.{Client, ClientTask, ClientMove, Shape, no_shape}
use Rattle.world_tables.specs.World.{World, Packet, Hosted, Moved, WorldStep, Lucks, owner_of, hosted_at, hosted_by}
use Rattle.world_tables.specs.World.{client_at, is_down, has_node, without_node, still, and_then, and_unless}
use Rattle.world_tables.specs.World.{move_table, move_client, first_luck, other_lucks, client_works, client_tasks}
use Rattle.world_tables.specs.World.{client_until_idle, client_follows, client_follows_from, gets_tasks, client_writes}
use Rattle.world_tables.specs.World.{client_falls, store_falls, or_falls, is_at_work, busy_table}
use Rattle.world_tables.specs.World.{write_next, store_works, tasks_of, store_until_idle, store_follows, table_follows}
use Rattle.world_tables.specs.World.{crash_luck, table_crashes, store_crashes, chosen_of, first_shape, other_shapes}
use Rattle.world_tables.specs.World.{plan_size, resolve_by, resolve_each, resolve_all, client_pairs, refused}
use Rattle.world_tables.specs.World.{unless_down, call_there, call, listed, take_read, take_at, to_hosted, to_there}
use Rattle.world_tables.specs.World.{carried, delivered, row_read, store_shows, chunk_names, history_lines, worked}
use Rattle.world_tables.specs.World.{all_worked, crashed, with_link, linked, puts_beside, opens, created, dropped, schema_at, step}
use Rattle.world_laws.proofs.Calls.{call_is}

abbrev pub StartsNoTable : StoreMove → Type 0
StartsNoTable store.Start = ⊥
StartsNoTable other = Unit {0}

abbrev pub StartsNoClient : ClientMove → Type 0
StartsNoClient client.Start = ⊥
StartsNoClient other = Unit {0}

-- an event that starts no node, and declares none
abbrev pub IsPlain : Event → Type 0
IsPlain (events.Store number) = ⊥
IsPlain (events.Gate number) = ⊥
IsPlain (events.Table table schema) = ⊥
IsPlain (events.Draft table schema) = ⊥
IsPlain (events.Client c gate tables) = ⊥
IsPlain (events.Start node) = ⊥
IsPlain other = Unit {0}

module _ (R : World → World → Type 0) (here : (w : World) → R w w) (later : (w x y : World) → R w x → R x y → R w y)
    (of_table : (w : World) (t : ℕ) (move : StoreMove) → StartsNoTable move → R w (move_table t move w).world)
    (of_client : (w : World) (c : ℕ) (move : ClientMove) (shape : Shape) → StartsNoClient move
    → R w (move_client c move shape w).world)
    (falls : (w : World) (number : ℕ) → R w (store_falls number w).world)
    (of_nodes : (w : World) (holds cuts : List Node) → R w (record w { holds = holds; cuts = cuts })) where
  -- ---- one after the other

  unless : (w : World) (m : Moved) (f : World → Moved) → R w m.world → R m.world (f m.world).world → R w (and_unless m f).world
  unless w m f p q = go m.failed
    where
      go : (failed : Bool) → R w (if failed then m else and_then m f).world
      go true = p
      go false = later w m.world (f m.world).world p q

  -- ---- a Store's work

  or_fallen : (number : ℕ) (w : World) (m : Moved) → R w m.world → R w (or_falls number m).world
  or_fallen number w m p = go m.failed
    where
      go : (failed : Bool) → R w (if failed then and_then m (store_falls number) else m).world
      go true = later w m.world (store_falls number m.world).world p (falls m.world number)
      go false = p

  written : (number : ℕ) (luck : Luck) (o : Option ℕ) (w : World) → R w (write_next number luck o w).world
  written number luck None w = here w
  written number luck (Some table) w = or_fallen number w (move_table table (store.Work luck) w) (of_table w table (store.Work luck) tt)

  worked_on : (number count : ℕ) (lucks : List Luck) (w : World) → R w (store_works number count lucks w).world
  worked_on number zero lucks w = here w
  worked_on number (suc more) lucks w =
      let m : Moved = write_next number (first_luck lucks) (busy_table w number) w in
      unless w m (store_works number more (other_lucks lucks)) (written number (first_luck lucks) (busy_table w number) w)
      (worked_on number more (other_lucks lucks) m.world)

  until_idle : (number : ℕ) (lucks : List Luck) (w : World) → R w (store_until_idle number lucks w).world
  until_idle number lucks w = worked_on number (length (tasks_of w number)) lucks w

  pub followed : (number : ℕ) (lucks : List Luck) (w : World) → R w (store_follows number lucks w).world
  followed number lucks w = go (has_node w.holds (nodes.Store number))
    where
      go : (held : Bool) → R w (if held then still w else store_until_idle number lucks w).world
      go true = here w
      go false = until_idle number lucks w

  table_followed : (table : ℕ) (lucks : List Luck) (w : World) → R w (table_follows table lucks w).world
  table_followed table lucks w = go (is_at_work w table)
    where
      go : (busy : Bool) → R w (if busy then store_follows (owner_of w table) lucks w else still w).world
      go true = followed (owner_of w table) lucks w
      go false = here w

  table_crashed : (luck : Luck) (o : Option ℕ) (w : World) → R w (table_crashes luck o w).world
  table_crashed luck None w = here w
  table_crashed luck (Some table) w = of_table w table (store.Crash luck) tt

  store_crashed : (number calls : ℕ) (lucks : List Luck) (w : World) → R w (store_crashes number calls lucks w).world
  store_crashed number calls lucks w =
      let m : Moved = table_crashes (crash_luck calls (other_lucks lucks) (first_luck lucks)) (busy_table w number) w in
      later w m.world (store_falls number m.world).world
      (table_crashed (crash_luck calls (other_lucks lucks) (first_luck lucks)) (busy_table w number) w) (falls m.world number)

  -- ---- a client's work

  client_worked : (c : ℕ) (tasks : List ClientTask) (lucks : List Luck) (w : World) → R w (client_works c tasks lucks w).world
  client_worked c [] lucks w = here w
  client_worked c (task ∷ tasks) lucks w =
      let x : World = (move_client c (client.Work (first_luck lucks)) no_shape w).world in
      later w x (client_works c tasks (other_lucks lucks) x).world (of_client w c (client.Work (first_luck lucks)) no_shape tt)
      (client_worked c tasks (other_lucks lucks) x)

  pub client_followed : (c : ℕ) (lucks : List Luck) (w : World) → R w (client_follows c lucks w).world
  client_followed c lucks w = go (has_node w.holds (nodes.Client c))
    where
      go : (held : Bool) → R w (if held then still w else client_until_idle c lucks w).world
      go true = here w
      go false = client_worked c (client_tasks (client_at w c)) lucks w

  followed_from : (agenda : Option (List ClientTask)) (c : ℕ) (lucks : List Luck) (w : World) → R w (client_follows_from agenda c lucks w).world
  followed_from agenda c lucks w = go (gets_tasks agenda w c)
    where
      go : (b : Bool) → R w (if b then client_follows c lucks w else still w).world
      go true = client_followed c lucks w
      go false = here w

  client_wrote : (c : ℕ) (luck : Luck) (tasks : List ClientTask) (w : World) → R w (client_writes c luck tasks w).world
  client_wrote c luck [] w = here w
  client_wrote c luck (task ∷ tasks) w = of_client w c (client.Work luck) no_shape tt

  client_fallen : (c : ℕ) (w : World) → R w (client_falls c w).world
  client_fallen c w = of_client w c (client.Crash messages.FailedBefore) no_shape tt

  resolved_by : (c table : ℕ) (by : Stored) (shape : Shape) (pair : RowPair) (luck : Luck) (w : World) → R w (resolve_by c table by shape pair luck w).world
  resolved_by c table by shape pair messages.Done w =
      of_client w c (client.Resolve table pair.row pair.version (chosen_of by pair.row (client_at w c) table)) shape tt
  resolved_by c table by shape pair messages.FailedBefore w = client_fallen c w
  resolved_by c table by shape pair messages.FailedAfter w = client_fallen c w

  resolved_each : (c table : ℕ) (by : Stored) (shapes : List Shape) (lucks : List Luck) (pairs : List RowPair) (w : World)
      → R w (resolve_each c table by shapes lucks pairs w).world
  resolved_each c table by shapes lucks [] w = here w
  resolved_each c table by shapes lucks (pair ∷ pairs) w =
      let first : Moved = resolve_by c table by (first_shape shapes) pair (first_luck lucks) w in
      let more : List Luck = drop (1 + plan_size c first.world) lucks in
      let done : Moved = and_unless first (client_until_idle c (other_lucks lucks)) in
      unless w done (resolve_each c table by (other_shapes shapes) more pairs)
      (unless w first (client_until_idle c (other_lucks lucks)) (resolved_by c table by (first_shape shapes) pair (first_luck lucks) w)
      (client_worked c (client_tasks (client_at first.world c)) (other_lucks lucks) first.world))
      (resolved_each c table by (other_shapes shapes) more pairs done.world)

  -- ---- events

  abbrev Steps : World → WorldStep → Type 0
  Steps w s = R w s.world

  by_down : (w : World) (node : Node) (s : WorldStep) → Steps w s → Steps w (unless_down w node s)
  by_down w node s p = go (is_down w node)
    where
      go : (b : Bool) → Steps w (if b then refused w (facts.NodeDown node) else s)
      go true = here w
      go false = p

  calls_there : (w : World) (c : ℕ) (move : ClientMove) (shape : Shape) (lucks : List Luck) → StartsNoClient move → (o : Option Client) → client_at w c ≡ o
      → Steps w (call_there w c move shape lucks o)
  calls_there w c move shape lucks plain o at =
      let x : World = (move_client c move shape w).world in
      call_is (λ (s : WorldStep). Steps w s) w c move shape lucks (λ r before. here w) (client_fallen c w) (λ take. here w)
      (λ node there. later w x (client_follows_from node.agenda c (other_lucks lucks) x).world (of_client w c move shape plain)
      (followed_from node.agenda c (other_lucks lucks) x)) o at

  pub called : (w : World) (c : ℕ) (move : ClientMove) (shape : Shape) (lucks : List Luck) → StartsNoClient move → Steps w (call w c move shape lucks)
  called w c move shape lucks plain = calls_there w c move shape lucks plain (client_at w c) refl

  all_listed : (w : World) (s : WorldStep) → Steps w s → Steps w (listed s)
  all_listed w s p = go s.answer
    where
      go : (o : Option Answer) → Steps w (listed (record s { answer = o }))
      go None = p
      go (Some facts.Done) = p
      go (Some (facts.Number n)) = p
      go (Some (facts.Shows y)) = p
      go (Some (facts.Sums y)) = p
      go (Some (facts.Stores v y)) = p
      go (Some (facts.Did y)) = p
      go (Some (facts.Names y)) = p
      go (Some (facts.Pairs pairs)) = p
      go (Some (facts.Refuses r)) = p

  all_resolved : (w : World) (c table : ℕ) (by : Stored) (shapes : List Shape) (lucks : List Luck) (s : WorldStep) → Steps w s
      → Steps w (resolve_all w c table by shapes lucks s)
  all_resolved w c table by shapes lucks s p = go s.answer
    where
      go : (o : Option Answer) → Steps w (resolve_all w c table by shapes lucks (record s { answer = o }))
      go None = p
      go (Some facts.Done) = p
      go (Some (facts.Number n)) = resolved_each c table by shapes lucks (client_pairs (client_at w c) table) w
      go (Some (facts.Shows y)) = p
      go (Some (facts.Sums y)) = p
      go (Some (facts.Stores v y)) = p
      go (Some (facts.Did y)) = p
      go (Some (facts.Names y)) = p
      go (Some (facts.Pairs some)) = p
      go (Some (facts.Refuses r)) = p

  taken : (w : World) (table : ℕ) (move : StoreMove) (lucks : List Luck) → StartsNoTable move → (o : Option Hosted) → Steps w (to_hosted w table move lucks o)
  taken w table move lucks plain None = here w
  taken w table move lucks plain (Some hosted) = go hosted.store.agenda
    where
      x : World
      x = (move_table table move w).world

      first : R w (move_table table move w).world
      first = of_table w table move plain

      reads : (luck : Luck) → Steps w (take_read w table hosted move (other_lucks lucks) luck)
      reads messages.FailedBefore = falls w (owner_of w table)
      reads messages.FailedAfter = falls w (owner_of w table)
      reads messages.Done = later w x (table_follows table (other_lucks lucks) x).world first (table_followed table (other_lucks lucks) x)

      go : (o : Option (List StoreTask)) → Steps w (take_at w table hosted move lucks o)
      go None = first
      go (Some (task ∷ more)) = first
      go (Some []) = reads (first_luck lucks)

  to_client : (w : World) (c : ℕ) (m : Message) (shape : Shape) (lucks : List Luck) (o : Option Client) → client_at w c ≡ o → Steps w (to_there w c m shape lucks o)
  to_client w c m shape lucks None at = here w
  to_client w c m shape lucks (Some node) at = calls_there w c (client.Take m) shape lucks tt (Some node) at

  pub carries : (w : World) (p : Packet) (shape : Shape) (lucks : List Luck) (to : Node) → Steps w (carried w p shape lucks to)
  carries w p shape lucks (nodes.Store number) =
      by_down w (nodes.Store number) _ (taken w (table_of p.message) (store.Take p.from p.message) lucks tt (hosted_by w number (table_of p.message)))
  carries w p shape lucks (nodes.Client c) = to_client w c p.message shape lucks (client_at w c) refl
  carries w p shape lucks (nodes.Gate gate) = here w

  delivers : (w : World) (shape : Shape) (lucks : List Luck) (o : Option Packet) → Steps w (delivered w shape lucks o)
  delivers w shape lucks None = here w
  delivers w shape lucks (Some p) = carries w p shape lucks p.to

  shows : (w : World) (table : ℕ) (row : List ℕ) (lucks : List Luck) (o : Option Hosted) → Steps w (store_shows w table row lucks o)
  shows w table row lucks None = here w
  shows w table row lucks (Some hosted) = by_down w (nodes.Store (owner_of w table)) _ (go (first_luck lucks))
    where
      go : (luck : Luck) → Steps w (row_read w table hosted row luck)
      go messages.Done = here w
      go messages.FailedBefore = falls w (owner_of w table)
      go messages.FailedAfter = falls w (owner_of w table)

  names : (w : World) (table : ℕ) (o : Option Hosted) → Steps w (chunk_names w table o)
  names w table None = here w
  names w table (Some hosted) = by_down w (nodes.Store (owner_of w table)) _ (here w)

  lists : (w : World) (table : ℕ) (o : Option Hosted) → Steps w (history_lines w table o)
  lists w table None = here w
  lists w table (Some hosted) = here w

  links : (w : World) (c : ℕ) (up : Bool) (o : Option Client) → Steps w (linked w c up o)
  links w c up None = here w
  links w c up (Some node) = by_down w (nodes.Client c) _ (go up)
    where
      go : (b : Bool) → R w (with_link c b w)
      go true = of_nodes w w.holds (without_node w.cuts (nodes.Client c))
      go false = of_nodes w w.holds (nodes.Client c ∷ w.cuts)

  works : (w : World) (lucks : List Luck) (node : Node) → Steps w (worked w lucks node)
  works w lucks (nodes.Store number) = written number (first_luck lucks) (busy_table w number) w
  works w lucks (nodes.Client c) = client_wrote c (first_luck lucks) (client_tasks (client_at w c)) w
  works w lucks (nodes.Gate gate) = here w

  all_works : (w : World) (lucks : List Luck) (node : Node) → Steps w (all_worked w lucks node)
  all_works w lucks (nodes.Store number) = until_idle number lucks w
  all_works w lucks (nodes.Client c) = client_worked c (client_tasks (client_at w c)) lucks w
  all_works w lucks (nodes.Gate gate) = here w

  crashes : (w : World) (calls : ℕ) (lucks : List Luck) (node : Node) → Steps w (crashed w calls lucks node)
  crashes w calls lucks (nodes.Store number) = store_crashed number calls lucks w
  crashes w calls lucks (nodes.Client c) = of_client w c (client.Crash (crash_luck calls (other_lucks lucks) (first_luck lucks))) no_shape tt
  crashes w calls lucks (nodes.Gate gate) = here w

  puts : (w : World) (number table : ℕ) (put : SidePut) (lucks : List Luck) → Steps w (puts_beside w number table put lucks)
  puts w number table put lucks = by_down w (nodes.Store number) _ (taken w table (store.Place put) lucks tt (hosted_by w number table))

  opened : (w : World) (c table : ℕ) (shape : Shape) (lucks : List Luck) (o : Option Schema) → Steps w (opens w c table shape lucks o)
  opened w c table shape lucks None = here w
  opened w c table shape lucks (Some schema) = called w c (client.Alter table (client.Opens schema)) shape lucks tt

  creates : (w : World) (table : ℕ) (shape : Shape) (lucks : List Luck) (node : Node) → Steps w (created w table shape lucks node)
  creates w table shape lucks (nodes.Store number) = puts w number table (store.PutState states.Live) lucks
  creates w table shape lucks (nodes.Client c) = opened w c table shape lucks (schema_at w table)
  creates w table shape lucks (nodes.Gate gate) = here w

  drops : (w : World) (table : ℕ) (shape : Shape) (lucks : List Luck) (node : Node) → Steps w (dropped w table shape lucks node)
  drops w table shape lucks (nodes.Store number) = puts w number table (store.PutState states.Dropped) lucks
  drops w table shape lucks (nodes.Client c) = called w c (client.Alter table client.Closes) shape lucks tt
  drops w table shape lucks (nodes.Gate gate) = here w

  pub stepped : (w : World) (event : Event) (lucks : Lucks) → IsPlain event → Steps w (step w event lucks)
  stepped w (events.Store number) lucks plain = absurd plain
  stepped w (events.Gate number) lucks plain = absurd plain
  stepped w (events.Table table schema) lucks plain = absurd plain
  stepped w (events.Draft table schema) lucks plain = absurd plain
  stepped w (events.Client c gate tables) lucks plain = absurd plain
  stepped w (events.Write c table row x) lucks plain = called w c (client.Write table row x) lucks.shape lucks.calls tt
  stepped w (events.Edit c table row x) lucks plain = called w c (client.Change table row x) lucks.shape lucks.calls tt
  stepped w (events.Link c up) lucks plain = links w c up (client_at w c)
  stepped w (events.Create node table) lucks plain = creates w table lucks.shape lucks.calls node
  stepped w (events.Drop node table) lucks plain = drops w table lucks.shape lucks.calls node
  stepped w (events.Save number table d terms) lucks plain = puts w number table (store.PutSub d terms) lucks.calls
  stepped w (events.Ask d table) lucks plain = called w d (client.Next table [] []) lucks.shape lucks.calls tt
  stepped w (events.Net it) lucks plain = here w
  stepped w (events.Show c table row) lucks plain = called w c (client.Show table row) lucks.shape lucks.calls tt
  stepped w (events.Sum c table row) lucks plain = called w c (client.Sum table row) lucks.shape lucks.calls tt
  stepped w (events.Sync c table) lucks plain = called w c (client.Sync table) lucks.shape lucks.calls tt
  stepped w (events.Pull c table) lucks plain = called w c (client.Next table lucks.tears lucks.asks) lucks.shape lucks.calls tt
  stepped w (events.BeginCr c table) lucks plain = called w c (client.BeginCr table) lucks.shape lucks.calls tt
  stepped w (events.Conflicts c table) lucks plain =
      all_listed w (call w c (client.Conflicts table) lucks.shape lucks.calls) (called w c (client.Conflicts table) lucks.shape lucks.calls tt)
  stepped w (events.EndCr c table) lucks plain = called w c (client.EndCr table) lucks.shape lucks.calls tt
  stepped w (events.Resolve c table row version choice) lucks plain = called w c (client.Resolve table row version choice) lucks.shape lucks.calls tt
  stepped w (events.ResolveAll c table by) lucks plain =
      all_resolved w c table by lucks.shapes (other_lucks lucks.calls) (call w c (client.ResolveAll table by) lucks.shape lucks.calls)
      (called w c (client.ResolveAll table by) lucks.shape lucks.calls tt)
  stepped w (events.Deliver packet) lucks plain = delivers w lucks.shape lucks.calls (slice_get w.packets packet)
  stepped w (events.StoreShow table row) lucks plain = shows w table row lucks.calls (hosted_at w table)
  stepped w (events.History table) lucks plain = lists w table (hosted_at w table)
  stepped w (events.Chunks table) lucks plain = names w table (hosted_at w table)
  stepped w (events.Hold node) lucks plain = by_down w node _ (of_nodes w (node ∷ w.holds) w.cuts)
  stepped w (events.Free node) lucks plain = by_down w node _ (of_nodes w (without_node w.holds node) w.cuts)
  stepped w (events.Work node) lucks plain = by_down w node _ (works w lucks.calls node)
  stepped w (events.WorkAll node) lucks plain = by_down w node _ (all_works w lucks.calls node)
  stepped w (events.Crash node calls pick) lucks plain = by_down w node _ (crashes w calls lucks.calls node)
  stepped w (events.Start node) lucks plain = absurd plain
