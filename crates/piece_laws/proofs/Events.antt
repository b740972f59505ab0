-- Each event of a world keeps what it has of the names of chunks.
use Rattle.std.proofs.Common.{◌≡◌, ◌≤◌, inl, ⊎_elim, ℕ, ◌+◌, Bool, true, false, List, [], ◌∷◌, length, Option, Some, None, refl, sym, ◌∙◌, ap, subst}
use Rattle.std.specs.Prelude.{◌&&◌, drop, slice_get, if◌then◌else◌}
use Rattle.std.specs.Ordering.{nat_cmp}
use Rattle.std.specs.Map.{lookup}
use Rattle.std.specs.BTreeMap.{is_at, insert_entry}
use Rattle.conflicts.specs.declared.stored.Stored as resolvers
use Rattle.stab_base.specs.declared.node.Node.{Node}
use Rattle.stab_base.specs.declared.node.Node.TheVariants as nodes
use Rattle.row_value.specs.declared.schema.Schema.{Schema}
use Rattle.table_model.specs.declared.line.RowPair.{RowPair}
use Rattle.table_model.specs.declared.event.Event.{Event}
use Rattle.table_model.specs.declared.event.Event.TheVariants as events
use Rattle.table_model.specs.declared.table_state.TableState.{TableState}
use Rattle.table_model.specs.declared.table_state.TableState.TheVariants as states
use Rattle.row_value.specs.declared.schema.Scheme.{Scheme}
use Rattle.step_tables.specs.Store.{Stored}
use Rattle.step_tables.specs.Facts.{Answer, Refusal}
use Rattle.step_tables.specs.Facts as facts
use Rattle.step_tables.specs.Members.{Among}
use Rattle.step_tables.specs.Sayings.{Said}
use Rattle.step_tables.specs.Messages.{Request, Pull, TornPull, Message, Luck, table_of, SyncRequest, SyncResponse, PullRequest, PullResponse, TornRowRequest, TornRowResponse}
use Rattle.step_tables.specs.Messages as messages
use Rattle.step_tables.specs.StoreMoves as store
use Rattle.step_tables.specs.StoreMoves.{StoreDisk, StoreTask, StoreMove, SidePut, taken, yours_in}
use Rattle.step_tables.specs.ClientMoves as client
use Rattle.step_tables.specs.ClientMoves.{Slots, TableDisk, ClientDisk, Client, ClientTask, ClientMove, Shape, no_shape, client_step, is_cut_off, kept_out, slots_in, slots_of, table_at}
use Rattle.step_tables.specs.ClientMoves.{seen, no_slots, opened_table}
use Rattle.step_tables.proofs.Lists.{among_get}
use Rattle.world_tables.specs.World.{World, Packet, Hosted, Moved, WorldStep, Lucks, owner_of, has_store, hosted_by, schema_at, scheme_in, chunk_in, hosted_at, client_at, is_down, still}
use Rattle.world_tables.specs.World.{and_then, and_unless, failing}
use Rattle.world_tables.specs.World.{after_table, table_step, move_hosted, move_table, move_client, first_luck, other_lucks, client_tasks, client_until_idle, client_works, client_writes}
use Rattle.world_tables.specs.World.{client_starts, starts_by, client_falls}
use Rattle.world_tables.specs.World.{client_crashes, client_follows_from, store_falls, table_follows, busy_table, busy_step, write_next, tasks_of, store_until_idle, store_crashes}
use Rattle.world_tables.specs.World.{store_starts, crash_luck, next_write}
use Rattle.world_tables.specs.World.{answering, answered, refused, silent, unless_down, new_hosted, with_table, made_with, declared, with_opened, open_all, new_client, first_agenda, puts_beside, opens, created, dropped}
use Rattle.world_tables.specs.World.{joined, with_link, linked}
use Rattle.world_tables.specs.World.{is_cut, is_resolving, unless_cut, unless_kept, table_of_move, is_closed, closed_answer, unless_closed, calls, call, call_there, listed, first_shape, other_shapes, chosen_of, client_pairs, resolve_by}
use Rattle.world_tables.specs.World.{plan_size, resolve_each, resolve_all}
use Rattle.world_tables.specs.World.{take_read, take_at, to_hosted, to_there, carried, delivered, row_read, row_shown, store_shows, chunk_names, history_lines, worked, all_worked, crashed}
use Rattle.world_tables.specs.World.{started, step, without_node, joining}
use Rattle.world_tables.specs.World as world
use Rattle.world_laws.proofs.Kept.{Kept}
use Rattle.world_laws.proofs.Looks.{look_cases}
use Rattle.piece_laws.specs.Pieces.{items_in, items_at, asked_in, KeepsKnown, IsKnown, SlotsNamed}
use Rattle.piece_laws.proofs.Linked.{nothing_linked}
use Rattle.piece_laws.proofs.Tables.{IsMove, Became, taken_move}
use Rattle.piece_laws.proofs.Disks.{AreNamed, IsNamedClient, client_later}
use Rattle.piece_laws.proofs.Moves.{IsReady, Takes}
use Rattle.piece_laws.proofs.Ready.{below_yours, ready_at, given_at}
use Rattle.piece_laws.proofs.Worlds.{request_there, IsNamedWorld, IsTable, table_moved, known_later, pairs_later}
use Rattle.piece_laws.proofs.Along.{stores_named, nodes_named, unless_named, moves_at, client_works_named, client_writes_named, follows_from_named, client_falls_named, client_starts_named}
use Rattle.piece_laws.proofs.Along.{places_at, store_falls_named, write_next_named}
use Rattle.piece_laws.proofs.Along.{store_works_named, table_follows_named, store_crashes_named, store_starts_named}

module _ (size : ℕ → ℕ) where
  abbrev Named : World → Type 0
  Named w = IsNamedWorld size w

  abbrev TakesAt : World → ℕ → ClientMove → Type 0
  TakesAt w c move = (node : Client) → client_at w c ≡ Some node → Takes size c (items_at w) (asked_in w) node move

  down_named : (w : World) (node : Node) (s : WorldStep) → Named w → Named s.world → Named (unless_down w node s).world
  down_named w node s k more = go (is_down w node)
    where
      go : (b : Bool) → Named (if b then refused w (facts.NodeDown node) else s).world
      go true = k
      go false = more

  -- ---- calls

  call_named : (w : World) (c : ℕ) (move : ClientMove) (shape : Shape) (lucks : List Luck) → Named w → TakesAt w c move → (o : Option Client)
      → Named (call_there w c move shape lucks o).world
  call_named w c move shape lucks k takes None = k
  call_named w c move shape lucks k takes (Some node) = down_named w (nodes.Client c) _ k (reads (first_luck lucks))
    where
      by_link : (cut : Bool) → Named (unless_cut w cut (calls w c move shape (other_lucks lucks) node)).world
      by_link true = k
      by_link false = follows_from_named size node.agenda c (other_lucks lucks) (move_client c move shape w).world (moves_at size w c move shape k takes)

      linked_step : WorldStep
      linked_step = unless_cut w (is_cut w c && is_cut_off c shape node move) (calls w c move shape (other_lucks lucks) node)

      by_phase : (out : Option Refusal) → Named (unless_kept w out linked_step).world
      by_phase None = by_link (is_cut w c && is_cut_off c shape node move)
      by_phase (Some refusal) = k

      kept_step : WorldStep
      kept_step = unless_kept w (kept_out (is_resolving w c) move (client_step c shape node move).answer) linked_step

      by_table : (closed : Bool) → Named (unless_closed w closed (closed_answer shape (is_cut w c) node.agenda move) kept_step).world
      by_table true = k
      by_table false = by_phase (kept_out (is_resolving w c) move (client_step c shape node move).answer)

      reads : (luck : Luck) → Named (world.reads w c luck (unless_closed w (is_closed node (table_of_move move)) (closed_answer shape (is_cut w c) node.agenda move) kept_step)).world
      reads messages.Done = by_table (is_closed node (table_of_move move))
      reads messages.FailedBefore = client_falls_named size c w k
      reads messages.FailedAfter = client_falls_named size c w k

  abbrev with_answer : WorldStep → Option Answer → WorldStep
  with_answer s o = record s { answer = o }

  listed_named : (s : WorldStep) → Named s.world → Named (listed s).world
  listed_named s k = go s.answer
    where
      go : (o : Option Answer) → Named (listed (with_answer s o)).world
      go None = k
      go (Some facts.Done) = k
      go (Some (facts.Number count)) = k
      go (Some (facts.Shows what)) = k
      go (Some (facts.Sums sum)) = k
      go (Some (facts.Stores version content)) = k
      go (Some (facts.Did did)) = k
      go (Some (facts.Names names)) = k
      go (Some (facts.Refuses refusal)) = k
      go (Some (facts.Pairs pairs)) = k

  module _ (c table : ℕ) (by : resolvers.Stored) where
    resolve_by_named : (shape : Shape) (pair : RowPair) (luck : Luck) (w : World) → Named w → Named (resolve_by c table by shape pair luck w).world
    resolve_by_named shape pair messages.Done w k = moves_at size w c (client.Resolve table pair.row pair.version (chosen_of by pair.row (client_at w c) table)) shape k (λ node at. tt)
    resolve_by_named shape pair messages.FailedBefore w k = client_falls_named size c w k
    resolve_by_named shape pair messages.FailedAfter w k = client_falls_named size c w k

    resolve_each_named : (shapes : List Shape) (lucks : List Luck) (pairs : List RowPair) (w : World) → Named w → Named (resolve_each c table by shapes lucks pairs w).world
    resolve_each_named shapes lucks [] w k = k
    resolve_each_named shapes lucks (pair ∷ pairs) w k =
        unless_named size worked_one (resolve_each c table by (other_shapes shapes) more pairs)
        (unless_named size resolved (client_until_idle c (other_lucks lucks)) (resolve_by_named (first_shape shapes) pair (first_luck lucks) w k)
        (λ x. client_works_named size c (client_tasks (client_at resolved.world c)) (other_lucks lucks) resolved.world x))
        (λ x. resolve_each_named (other_shapes shapes) more pairs worked_one.world x)
      where
        resolved : Moved
        resolved = resolve_by c table by (first_shape shapes) pair (first_luck lucks) w

        worked_one : Moved
        worked_one = and_unless resolved (client_until_idle c (other_lucks lucks))

        more : List Luck
        more = drop (1 + plan_size c resolved.world) lucks

    resolve_all_named : (w : World) → Named w → (shapes : List Shape) (lucks : List Luck) (s : WorldStep) → Named s.world → Named (resolve_all w c table by shapes lucks s).world
    resolve_all_named w k shapes lucks s x = go s.answer
      where
        go : (o : Option Answer) → Named (resolve_all w c table by shapes lucks (with_answer s o)).world
        go None = x
        go (Some facts.Done) = x
        go (Some (facts.Number count)) = resolve_each_named shapes lucks (client_pairs (client_at w c) table) w k
        go (Some (facts.Shows what)) = x
        go (Some (facts.Sums sum)) = x
        go (Some (facts.Stores version content)) = x
        go (Some (facts.Did did)) = x
        go (Some (facts.Names names)) = x
        go (Some (facts.Pairs pairs)) = x
        go (Some (facts.Refuses refusal)) = x

  -- ---- messages

  chunk_is : (w : World) (table : ℕ) (hosted : Hosted) → Named w → hosted_at w table ≡ Some hosted → size table ≡ chunk_in (schema_at w table)
  chunk_is w table hosted k at = let schema = k.declared table hosted at in k.sized table schema.0 schema.1 ∙ sym (ap chunk_in schema.1)

  down_taken : (x : Scheme) (n table : ℕ) (d : StoreDisk) (agenda : Option (List StoreTask)) (from : Node) (m : Message) → (d.items ≡ []) × (agenda ≡ None)
      → ((taken x n table d agenda from m).store.disk.items ≡ []) × ((taken x n table d agenda from m).store.agenda ≡ None)
  down_taken x n table d None from m u = (u.0, refl)
  down_taken x n table d (Some tasks) from m u = absurd (let none = u.1 in cc)

  module _ (g : ℕ → Scheme) (w : World) (s : Said) (kept : Kept g w s) (k : Named w) where
    takes_at : (p : Packet) → Among w.packets p → (table : ℕ) → table_of p.message ≡ table → Named (move_table table (store.Take p.from p.message) w).world
    takes_at p a table table_is = go (hosted_at w table) refl
      where
        go : (o : Option Hosted) → hosted_at w table ≡ o → Named (move_hosted w table (store.Take p.from p.message) o).world
        go None at = k
        go (Some hosted) at =
            let x = k.tables table hosted at in
            table_moved size w table hosted hosted (table_step w table hosted (store.Take p.from p.message)) at k
            (subst (λ (n : ℕ). IsMove (size table) (asked_in w) table hosted.store.disk.items (taken (scheme_in (schema_at w table)) n table hosted.store.disk hosted.store.agenda p.from p.message))
            (chunk_is w table hosted k at)
            (taken_move (size table) (asked_in w) table (scheme_in (schema_at w table)) hosted.store.disk hosted.store.agenda p.from p.message x.linked x.grows x.sends asks pulls torns))
            (λ none. down_taken (scheme_in (schema_at w table)) (chunk_in (schema_at w table)) table hosted.store.disk hosted.store.agenda p.from p.message (x.unmade none))
          where
            asks : hosted.store.agenda ≡ Some [] → (q : Request) → p.message ≡ SyncRequest q → Among (asked_in w) q × (q.table ≡ table)
                × KeepsKnown (size table) hosted.store.disk.items q.row q.content q.pieces
                × ((i : Stored) → Among hosted.store.disk.items i → i.entry.client ≡ q.client → i.entry.row ≡ q.row → i.entry.number ≤ (yours_in hosted.store.disk.items q.client q.row).number)
            asks idle q is =
                let here : q.table ≡ table = sym (ap table_of is) ∙ table_is in
                let known : KeepsKnown (size q.table) (items_at w q.table) q.row q.content q.pieces = (subst (IsKnown size (items_at w) (asked_in w)) is (k.packets p a)).1 in (
                  request_there w.packets p q a is,
                  here,
                  subst (λ (l : List Stored). KeepsKnown (size table) l q.row q.content q.pieces) (ap items_in at)
                      (subst (λ (t : ℕ). KeepsKnown (size t) (items_at w t) q.row q.content q.pieces) here known),
                  below_yours g size w s kept table hosted at idle q.client q.row,
                )

            pulls : (pull : Pull) → p.message ≡ PullRequest pull → pull.table ≡ table
            pulls pull is = sym (ap table_of is) ∙ table_is

            torns : (torn : TornPull) → p.message ≡ TornRowRequest torn → torn.table ≡ table
            torns torn is = sym (ap table_of is) ∙ table_is

    to_hosted_named : (table : ℕ) (move : StoreMove) → Named (move_table table move w).world → (lucks : List Luck) (o : Option Hosted) → Named (to_hosted w table move lucks o).world
    to_hosted_named table move first lucks None = k
    to_hosted_named table move first lucks (Some hosted) = go hosted.store.agenda
      where
        reads : (luck : Luck) → Named (take_read w table hosted move (other_lucks lucks) luck).world
        reads messages.FailedBefore = store_falls_named size (owner_of w table) w k
        reads messages.FailedAfter = store_falls_named size (owner_of w table) w k
        reads messages.Done = table_follows_named size table (other_lucks lucks) (move_table table move w).world first

        go : (o : Option (List StoreTask)) → Named (take_at w table hosted move lucks o).world
        go None = first
        go (Some (task ∷ more)) = first
        go (Some []) = reads (first_luck lucks)

    carried_named : (p : Packet) → Among w.packets p → (shape : Shape) (lucks : List Luck) (to : Node) → p.to ≡ to → Named (carried w p shape lucks to).world
    carried_named p a shape lucks (nodes.Store number) is =
        down_named w (nodes.Store number) _ k
        (to_hosted_named (table_of p.message) (store.Take p.from p.message) (takes_at p a (table_of p.message) refl) lucks (hosted_by w number (table_of p.message)))
    carried_named p a shape lucks (nodes.Gate gate) is = k
    carried_named p a shape lucks (nodes.Client c) is = go (client_at w c)
      where
        go : (o : Option Client) → Named (to_there w c p.message shape lucks o).world
        go None = k
        go (Some node) = call_named w c (client.Take p.message) shape lucks k (λ n at. given_at g size w s kept k p a c is) (Some node)

    delivered_named : (n : ℕ) (shape : Shape) (lucks : List Luck) (o : Option Packet) → slice_get w.packets n ≡ o → Named (delivered w shape lucks o).world
    delivered_named n shape lucks None at = k
    delivered_named n shape lucks (Some p) at = carried_named p (among_get w.packets n p at) shape lucks p.to refl

    -- ---- a table that is made or dropped

    beside_named : (number table : ℕ) (put : SidePut) (lucks : List Luck) → Named (puts_beside w number table put lucks).world
    beside_named number table put lucks =
        down_named w (nodes.Store number) _ k (to_hosted_named table (store.Place put) (places_at size w table put k) lucks (hosted_by w number table))

    created_named : (table : ℕ) (shape : Shape) (lucks : List Luck) (node : Node) → Named (created w table shape lucks node).world
    created_named table shape lucks (nodes.Store number) = beside_named number table (store.PutState states.Live) lucks
    created_named table shape lucks (nodes.Client c) = go (schema_at w table) refl
      where
        go : (o : Option Schema) → schema_at w table ≡ o → Named (opens w c table shape lucks o).world
        go None at = k
        go (Some schema) at = call_named w c (client.Alter table (client.Opens schema)) shape lucks k (λ node is. sym (k.sized table schema at)) (client_at w c)
    created_named table shape lucks (nodes.Gate gate) = k

    dropped_named : (table : ℕ) (shape : Shape) (lucks : List Luck) (node : Node) → Named (dropped w table shape lucks node).world
    dropped_named table shape lucks (nodes.Store number) = beside_named number table (store.PutState states.Dropped) lucks
    dropped_named table shape lucks (nodes.Client c) = call_named w c (client.Alter table client.Closes) shape lucks k (λ node is. tt) (client_at w c)
    dropped_named table shape lucks (nodes.Gate gate) = k

    -- ---- what the Store shows

    shows_named : (table : ℕ) (row : List ℕ) (lucks : List Luck) (o : Option Hosted) → Named (store_shows w table row lucks o).world
    shows_named table row lucks None = k
    shows_named table row lucks (Some hosted) = down_named w (nodes.Store (owner_of w table)) _ k (read (first_luck lucks))
      where
        read : (luck : Luck) → Named (row_read w table hosted row luck).world
        read messages.Done = k
        read messages.FailedBefore = store_falls_named size (owner_of w table) w k
        read messages.FailedAfter = store_falls_named size (owner_of w table) w k

    history_named : (table : ℕ) (o : Option Hosted) → Named (history_lines w table o).world
    history_named table None = k
    history_named table (Some hosted) = k

    chunks_named : (table : ℕ) (o : Option Hosted) → Named (chunk_names w table o).world
    chunks_named table None = k
    chunks_named table (Some hosted) = down_named w (nodes.Store (owner_of w table)) _ k k

    -- ---- what is done to a node

    worked_named : (lucks : List Luck) (node : Node) → Named (worked w lucks node).world
    worked_named lucks (nodes.Store number) = write_next_named size number (first_luck lucks) (busy_table w number) w k
    worked_named lucks (nodes.Client c) = client_writes_named size c (first_luck lucks) (client_tasks (client_at w c)) w k
    worked_named lucks (nodes.Gate gate) = k

    all_worked_named : (lucks : List Luck) (node : Node) → Named (all_worked w lucks node).world
    all_worked_named lucks (nodes.Store number) = store_works_named size number (length (tasks_of w number)) lucks w k
    all_worked_named lucks (nodes.Client c) = client_works_named size c (client_tasks (client_at w c)) lucks w k
    all_worked_named lucks (nodes.Gate gate) = k

    crashed_named : (count : ℕ) (lucks : List Luck) (node : Node) → Named (crashed w count lucks node).world
    crashed_named count lucks (nodes.Store number) = store_crashes_named size number count lucks w k
    crashed_named count lucks (nodes.Client c) = moves_at size w c (client.Crash (crash_luck count (other_lucks lucks) (first_luck lucks))) no_shape k (λ node at. tt)
    crashed_named count lucks (nodes.Gate gate) = k

    started_named : (shape : Shape) (lucks : List Luck) (node : Node) → Named (started w shape lucks node).world
    started_named shape lucks (nodes.Store number) = go (has_store w number && is_down w (nodes.Store number))
      where
        go : (b : Bool) → Named (if b then answering facts.Done (store_starts number lucks w) else answered w facts.Done).world
        go true = store_starts_named size number lucks w k
        go false = k
    started_named shape lucks (nodes.Client c) = go (is_down w (nodes.Client c))
      where
        go : (b : Bool) → Named (if b then answering facts.Done (client_starts c shape lucks w) else answered w facts.Done).world
        go true = client_starts_named size c shape (first_luck lucks) (other_lucks lucks) w k
        go false = k
    started_named shape lucks (nodes.Gate gate) = k

    held_named : (node : Node) (holds : List Node) → Named (unless_down w node (answered (record w { holds = holds }) facts.Done)).world
    held_named node holds = down_named w node _ k (nodes_named size w holds w.downs w.cuts w.phases k)

    linked_named : (c : ℕ) (up : Bool) (o : Option Client) → Named (linked w c up o).world
    linked_named c up None = k
    linked_named c up (Some node) = down_named w (nodes.Client c) _ k (cut up)
      where
        cut : (b : Bool) → Named (with_link c b w)
        cut true = nodes_named size w w.holds w.downs (without_node w.cuts (nodes.Client c)) w.phases k
        cut false = nodes_named size w w.holds w.downs (nodes.Client c ∷ w.cuts) w.phases k

    -- ---- declarations

    with_table_named : (table : ℕ) (schema : Schema) (state : TableState) (made : Bool) → hosted_at w table ≡ None → size table ≡ schema.chunk → Named (with_table w table schema state made)
    with_table_named table schema state made none fits = record {
      sized = λ q x at. ⊎_elim
          (λ e. let both : Some schema ≡ Some x = sym e.1 ∙ at in let same : schema ≡ x = cc in ap size e.0 ∙ (fits ∙ ap (λ (y : Schema). y.chunk) same))
          (λ e. k.sized q x (sym e.1 ∙ at)) (look_cases w.schemas table schema q);
      declared = λ q x at. ⊎_elim
          (λ e. (schema, ⊎_elim (λ f. f.1) (λ f. absurd (f.0 e.0)) (look_cases w.schemas table schema q)))
          (λ e. let d = k.declared q x (sym e.1 ∙ at) in (d.0, ⊎_elim (λ f. absurd (e.0 f.0)) (λ f. f.1 ∙ d.1) (look_cases w.schemas table schema q)))
          (look_cases w.tables table new q);
      tables = λ q x at. ⊎_elim
          (λ e. let both : Some new ≡ Some x = sym e.1 ∙ at in let same : new ≡ x = cc in subst (IsTable size (asked_in w) q) same (new_table q))
          (λ e. k.tables q x (sym e.1 ∙ at)) (look_cases w.tables table new q);
      items = λ q i a. k.items q i (subst (λ (l : List Stored). Among l i) (same_items q) a);
      clients = λ c node at. client_later size c (items_at w) later (asked_in w) node became (k.clients c node at);
      packets = λ p a. known_later size (items_at w) later (asked_in w) became k.pairs p.message (k.packets p a);
      pairs = pairs_later size (items_at w) later (asked_in w) became k.pairs;
    }
      where
        new : Hosted
        new = new_hosted state made

        later : ℕ → List Stored
        later q = items_in (lookup (is_at (nat_cmp q)) (insert_entry nat_cmp w.tables table new))

        same_items : (q : ℕ) → later q ≡ items_at w q
        same_items q = ⊎_elim (λ e. ap items_in e.1 ∙ sym (ap items_in (ap (hosted_at w) e.0 ∙ none))) (λ e. ap items_in e.1) (look_cases w.tables table new q)

        became : (q : ℕ) → Became (size q) (asked_in w) q (items_at w q) (later q)
        became q = inl (same_items q)

        new_table : (q : ℕ) → IsTable size (asked_in w) q new
        new_table q = at made
          where
            at : (x : Bool) → IsTable size (asked_in w) q (new_hosted state x)
            at true = record { linked = nothing_linked (size q); grows = tt; sends = tt; unmade = λ f. absurd cc }
            at false = record { linked = nothing_linked (size q); grows = tt; sends = tt; unmade = λ f. (refl, refl) }

    declared_named : (table : ℕ) (schema : Schema) (state : TableState) (luck : Luck) (o : Option Hosted) → hosted_at w table ≡ o → (hosted_at w table ≡ None → size table ≡ schema.chunk)
        → Named (declared w table schema state luck o)
    declared_named table schema state luck (Some hosted) at fits = k
    declared_named table schema state luck None at fits = go luck
      where
        go : (l : Luck) → Named (made_with w table schema state l)
        go messages.Done = with_table_named table schema state true at (fits at)
        go messages.FailedBefore = with_table_named table schema state false at (fits at)
        go messages.FailedAfter = with_table_named table schema state false at (fits at)

    -- ---- a client that joins

    abbrev AreOpened : List (ℕ × TableDisk) → Type 0
    AreOpened some = (q : ℕ) (x : TableDisk) → lookup (is_at (nat_cmp q)) some ≡ Some x → (schema_at w q ≡ Some x.schema) × (x.rows ≡ [])

    one_opened : (some : List (ℕ × TableDisk)) (table : ℕ) (o : Option Schema) → schema_at w table ≡ o → AreOpened some → AreOpened (with_opened some table o)
    one_opened some table None at all = all
    one_opened some table (Some schema) at all = λ q x is. ⊎_elim
        (λ e. let both : Some (opened_table schema) ≡ Some x = sym e.1 ∙ is in let same : opened_table schema ≡ x = cc in
        subst (λ (y : TableDisk). (schema_at w q ≡ Some y.schema) × (y.rows ≡ [])) same (subst (λ (t : ℕ). (schema_at w t ≡ Some schema) × ((opened_table schema).rows ≡ [])) (sym e.0) (at, refl)))
        (λ e. all q x (sym e.1 ∙ is)) (look_cases some table (opened_table schema) q)

    all_opened : (some : List (ℕ × TableDisk)) (tables : List ℕ) → AreOpened some → AreOpened (open_all w some tables)
    all_opened some [] all = all
    all_opened some (table ∷ tables) all = all_opened (with_opened some table (schema_at w table)) tables (one_opened some table (schema_at w table) refl all)

    new_named : (c : ℕ) (some : List (ℕ × TableDisk)) → AreOpened some → AreNamed size c (items_at w) (asked_in w) (record { last = 0; tables = some; plan = None })
    new_named c some all = record {
      rows = λ table row. subst (λ (x : Slots). SlotsNamed (size table) c (items_at w table) (asked_in w) table row x) (sym (nothing table row))
          (record { shadow = λ x e. absurd cc; conflict = λ x e. absurd cc; out = λ x e. absurd cc });
      apart = λ table row o other place p e f n. absurd (let g2 : None ≡ Some o = sym (ap (λ (x : Slots). x.out) (nothing table row)) ∙ e in cc);
      sized = λ table x at. sym (k.sized table x.schema (all table x at).0);
    }
      where
        disk : ClientDisk
        disk = record { last = 0; tables = some; plan = None }

        nothing : (table : ℕ) (row : List ℕ) → slots_of disk table row ≡ no_slots
        nothing table row = go (table_at disk table) refl
          where
            go : (o : Option TableDisk) → table_at disk table ≡ o → slots_in o row ≡ no_slots
            go None at = refl
            go (Some x) at = ap (λ (rows : List (List ℕ × Slots)). client.slots_at (record x { rows = rows }) row) (all table x at).1

    joined_named : (c : ℕ) (tables : List ℕ) (luck : Luck) (o : Option Client) → Named (joined w c tables luck o)
    joined_named c tables luck (Some node) = k
    joined_named c tables luck None = record {
      sized = k.sized;
      declared = k.declared;
      tables = k.tables;
      items = k.items;
      clients = λ q x at. ⊎_elim
          (λ e. let both : Some new ≡ Some x = sym e.1 ∙ at in let same : new ≡ x = cc in
          subst (λ (n : ℕ). IsNamedClient size n (items_at w) (asked_in w) x) (sym e.0) (subst (IsNamedClient size c (items_at w) (asked_in w)) same (first luck)))
          (λ e. k.clients q x (sym e.1 ∙ at)) (look_cases w.clients c new q);
      packets = k.packets;
      pairs = k.pairs;
    }
      where
        new : Client
        new = new_client (open_all w [] tables) (first_agenda luck)

        blank : AreNamed size c (items_at w) (asked_in w) (record { last = 0; tables = open_all w [] tables; plan = None })
        blank = new_named c (open_all w [] tables) (all_opened [] tables (λ q x e. absurd cc))

        first : (l : Luck) → IsNamedClient size c (items_at w) (asked_in w) (new_client (open_all w [] tables) (first_agenda l))
        first messages.Done = (blank, refl)
        first messages.FailedBefore = blank
        first messages.FailedAfter = blank

    -- ---- any event

    abbrev pub FitsFirst : Event → Type 0
    FitsFirst (events.Table table schema) = hosted_at w table ≡ None → size table ≡ schema.chunk
    FitsFirst (events.Draft table schema) = hosted_at w table ≡ None → size table ≡ schema.chunk
    FitsFirst other = Unit {0}

    quiet_takes : (c : ℕ) (node : Client) → client_at w c ≡ Some node → node.agenda ≡ Some [] → IsReady c (asked_in w) node.disk
    quiet_takes c node at idle = ready_at g size w s kept c node at idle

    pub step_named : (event : Event) (lucks : Lucks) → FitsFirst event → Named (step w event lucks).world
    step_named (events.Store number) lucks f = stores_named size w (number ∷ w.stores) (joining number w.downs) k
    step_named (events.Gate number) lucks f = k
    step_named (events.Table table schema) lucks f = declared_named table schema states.Live (first_luck lucks.calls) (hosted_at w table) refl f
    step_named (events.Draft table schema) lucks f = declared_named table schema states.Draft (first_luck lucks.calls) (hosted_at w table) refl f
    step_named (events.Client c gate tables) lucks f = joined_named c tables (first_luck lucks.calls) (client_at w c)
    step_named (events.Write c table row x) lucks f = call_named w c (client.Write table row x) lucks.shape lucks.calls k (quiet_takes c) (client_at w c)
    step_named (events.Edit c table row x) lucks f = call_named w c (client.Change table row x) lucks.shape lucks.calls k (quiet_takes c) (client_at w c)
    step_named (events.Link c up) lucks f = linked_named c up (client_at w c)
    step_named (events.Create node table) lucks f = created_named table lucks.shape lucks.calls node
    step_named (events.Drop node table) lucks f = dropped_named table lucks.shape lucks.calls node
    step_named (events.Save number table d terms) lucks f = beside_named number table (store.PutSub d terms) lucks.calls
    step_named (events.Ask d table) lucks f = call_named w d (client.Next table [] []) lucks.shape lucks.calls k (λ node at. tt) (client_at w d)
    step_named (events.Net it) lucks f = k
    step_named (events.Show c table row) lucks f = call_named w c (client.Show table row) lucks.shape lucks.calls k (λ node at. tt) (client_at w c)
    step_named (events.Sum c table row) lucks f = call_named w c (client.Sum table row) lucks.shape lucks.calls k (λ node at. tt) (client_at w c)
    step_named (events.Sync c table) lucks f = call_named w c (client.Sync table) lucks.shape lucks.calls k (quiet_takes c) (client_at w c)
    step_named (events.Pull c table) lucks f = call_named w c (client.Next table lucks.tears lucks.asks) lucks.shape lucks.calls k (λ node at. tt) (client_at w c)
    step_named (events.BeginCr c table) lucks f = call_named w c (client.BeginCr table) lucks.shape lucks.calls k (λ node at. tt) (client_at w c)
    step_named (events.Conflicts c table) lucks f =
        listed_named (call w c (client.Conflicts table) lucks.shape lucks.calls) (call_named w c (client.Conflicts table) lucks.shape lucks.calls k (λ node at. tt) (client_at w c))
    step_named (events.EndCr c table) lucks f = call_named w c (client.EndCr table) lucks.shape lucks.calls k (λ node at. tt) (client_at w c)
    step_named (events.Resolve c table row seen_one choice) lucks f = call_named w c (client.Resolve table row seen_one choice) lucks.shape lucks.calls k (λ node at. tt) (client_at w c)
    step_named (events.ResolveAll c table by) lucks f =
        resolve_all_named c table by w k lucks.shapes (other_lucks lucks.calls) (call w c (client.ResolveAll table by) lucks.shape lucks.calls)
        (call_named w c (client.ResolveAll table by) lucks.shape lucks.calls k (λ node at. tt) (client_at w c))
    step_named (events.Deliver n) lucks f = delivered_named n lucks.shape lucks.calls (slice_get w.packets n) refl
    step_named (events.StoreShow table row) lucks f = shows_named table row lucks.calls (hosted_at w table)
    step_named (events.History table) lucks f = history_named table (hosted_at w table)
    step_named (events.Hold node) lucks f = held_named node (node ∷ w.holds)
    step_named (events.Free node) lucks f = held_named node (without_node w.holds node)
    step_named (events.Work node) lucks f = down_named w node _ k (worked_named lucks.calls node)
    step_named (events.WorkAll node) lucks f = down_named w node _ k (all_worked_named lucks.calls node)
    step_named (events.Crash node calls_passed pick) lucks f = down_named w node _ k (crashed_named calls_passed lucks.calls node)
    step_named (events.Start node) lucks f = started_named lucks.shape lucks.calls node
    step_named (events.Chunks table) lucks f = chunks_named table (hosted_at w table)
