-- What a read of a node's disks comes to, and which nodes may be read.
use Rattle.std.proofs.Common.{◌≡◌, ℕ, Bool, true, false, List, [], ◌∷◌, Option, Some, None, Result, Ok, Err, refl, sym, ◌∙◌, ap, subst, rules}
use Rattle.std.specs.Prelude.{IfOk, IsSome, is_some, not, ◌&&◌, ◌||◌}
use Rattle.std.specs.Ordering.{nat_cmp}
use Rattle.std.specs.BTreeMap as tree
use Rattle.disk_trait.specs.Calls.{DiskState}
use Rattle.stab_base.specs.declared.node.Node.{Node}
use Rattle.stab_base.specs.declared.node.Node.TheVariants as nodes
use Rattle.table_model.specs.declared.line.Answer.TheVariants as answers
use Rattle.table_model.specs.declared.line.Refusal.TheVariants as refusals
use Rattle.step_tables.specs.Facts as facts
use Rattle.step_tables.specs.Store.{current_of}
use Rattle.step_tables.specs.StoreMoves.{StoreDisk, StoreTask}
use Rattle.store_node.specs.declared.node.TableNode.{TableNode}
use Rattle.store_node.specs.Node.{IsTable}
use Rattle.step_tables.specs.ClientMoves.{Client, ClientTask}
use Rattle.store_node.specs.Calls.{IsRowAt}
use Rattle.store_node.specs.declared.showing.WholeRow.{WholeRow}
use Rattle.store_host.specs.declared.host.StoreHost.{StoreHost}
use Rattle.store_host.specs.declared.hosted.Hosted.{Hosted as Kept}
use Rattle.store_host.specs.declared.store.StoreState.{StoreState}
use Rattle.store_host.specs.Calls.{IsMoved}
use Rattle.store_host.specs.Holds.{HoldsStore, HostedThere, StoreThere, IsUpAt, IsUpNode, SameFaults, RisenFaults, store_in, owner_at, is_up_by, is_up_at, is_up_if, is_up_for}
use Rattle.client_node.specs.declared.node.ClientNode.{ClientNode}
use Rattle.journal_host.specs.declared.host.ClientHost.{ClientHost}
use Rattle.journal_host.specs.Calls as events
use Rattle.journal_host.specs.Holds.{HoldsClients}
use Rattle.journal_host.specs.Holds as hosts
use Rattle.journal_host.proofs.Clients.{found, not_found, up_is, down_is}
use Rattle.world_tables.specs.Ready.{is_idle, is_idle_table, is_table_ready, is_idle_client, is_client_ready}
use Rattle.world_tables.specs.World.{no_lucks, Hosted, answering, failing, hosted_at, client_at, schema_at, store_falls, client_falls, owner_of, is_down, is_cut, is_client_down, is_at_work, owner_by, has_store, has_node, has_unmade}
use Rattle.world_tables.specs.World as moves
use Rattle.node_steps.specs.declared.fault.WorldFault.{WorldFault}
use Rattle.node_steps.specs.declared.told.Read.{Read}
use Rattle.node_steps.specs.declared.told.Read.TheVariants as reads
use Rattle.node_steps.specs.declared.told.Told.{Told}
use Rattle.node_steps.specs.declared.world.World.{World}
use Rattle.node_steps.specs.Calls.{IsDone, HasTold, HasToldClients}
use Rattle.node_steps.specs.Faults.{IsCounted}
use Rattle.node_steps.specs.Holds.{Holds}
use Rattle.node_steps.specs.Reads.{HasFound, HasFallen, HasRead, IsRowIn, TellsFall}
use Rattle.node_steps.proofs.Clients.{still_store, still_clients, told_one}
use Rattle.node_steps.proofs.Counted.{some_failed, tables_counted, client_counted}
use Rattle.store_host.proofs.Serving.{up_table}
use Rattle.node_steps.proofs.Done.{told_done}
use Rattle.node_steps.proofs.Declared.{nothing_at}
use Rattle.node_steps.proofs.Going.{failing_goes, store_falls_goes}
use Rattle.node_steps.proofs.Keeping.{falls_keeps}
use Rattle.node_steps.proofs.Showing.{some_of, none_of, there_at}

and_first : (a b : Bool) → (a && b) ≡ true → a ≡ true
and_first true b e = refl
and_first false b e = absurd cc

and_second : (a b : Bool) → (a && b) ≡ true → b ≡ true
and_second true b e = e
and_second false b e = absurd cc

turned : (b : Bool) → not b ≡ true → b ≡ false
turned true e = absurd cc
turned false e = refl

or_second : (a b : Bool) → (a || b) ≡ false → b ≡ false
or_second false b e = e
or_second true b e = absurd cc

-- ---- a table that is up, and its Store

module _ {D : Type 0} (state : D → DiskState) (w : moves.World) (store : StoreHost D) (table : ℕ) (h : HoldsStore state w store) where
  abbrev at_owner : ℕ
  at_owner = owner_of w table

  up_at : is_down w (nodes.Store at_owner) ≡ false → is_up_at store at_owner ≡ true
  up_at up = go (tree.get nat_cmp store.stores at_owner) (h.stores at_owner)
    where
      go : (o : Option StoreState) → StoreThere w at_owner o → is_up_by o ≡ true
      go None k = let no : true ≡ false = sym (ap (λ (b : Bool). not b || (has_node w.downs (nodes.Store at_owner) || has_unmade w at_owner)) k) ∙ up in absurd cc
      go (Some it) k =
          ap not (ap (λ (b : Bool). b || it.is_late) k.down
          ∙ (ap (λ (b : Bool). has_node w.downs (nodes.Store at_owner) || b) k.late
          ∙ or_second (not (has_store w at_owner)) (has_node w.downs (nodes.Store at_owner) || has_unmade w at_owner) up))

  -- a table whose owner is up
  pub up_there : is_down w (nodes.Store at_owner) ≡ false → is_up_for store table ≡ true
  up_there up = go (hosted_at w table) (tree.get nat_cmp store.tables table) (h.tables.there table)
    where
      go : (o : Option Hosted) (it : Option (Kept D)) → HostedThere state at_owner (schema_at w table) table o it → is_up_if store it ≡ true
      go o None k = refl
      go None (Some it) k = absurd k
      go (Some hosted) (Some it) k = ap (is_up_at store) k.owner ∙ up_at up

  up_agenda : (node : TableNode D) (disk : StoreDisk) (agenda : Option (List StoreTask)) → IsTable state node (record { disk = disk; agenda = agenda }) → node.is_up ≡ true → IsUpAt agenda
  up_agenda node disk None t up = let no : true ≡ false = sym up ∙ t.at.0 in absurd cc
  up_agenda node disk (Some tasks) t up = (tasks, refl)

  -- it has an agenda
  pub table_is_up : (hosted : Hosted) → hosted_at w table ≡ Some hosted → is_up_for store table ≡ true → IsUpAt hosted.store.agenda
  table_is_up hosted at up = go (tree.get nat_cmp store.tables table)
      (subst (λ (o : Option Hosted). HostedThere state at_owner (schema_at w table) table o (tree.get nat_cmp store.tables table)) at (h.tables.there table)) (up_table state w store h table up)
    where
      go : (it : Option (Kept D)) → HostedThere state at_owner (schema_at w table) table (Some hosted) it → IsUpNode it → IsUpAt hosted.store.agenda
      go None k up = absurd k
      go (Some it) k up = up_agenda it.node hosted.store.disk hosted.store.agenda k.node up

-- the Store that keeps a table is its owner, and 0 where there is none
pub owner_is : {D : Type 0} (state : D → DiskState) (w : moves.World) (world : World D) → Holds state w world → (table : ℕ) → owner_at world.store.tables table ≡ owner_of w table
owner_is {D} state w world h table = go (hosted_at w table) refl (tree.get nat_cmp world.store.tables table) (h.store.tables.there table)
  where
    go : (o : Option Hosted) → hosted_at w table ≡ o → (it : Option (Kept D)) → HostedThere state (owner_of w table) (schema_at w table) table o it → store_in it ≡ owner_of w table
    go (Some hosted) at None k = absurd k
    go (Some hosted) at (Some it) k = k.owner
    go None at (Some it) k = absurd k
    go None at None k = sym (ap (owner_by w.stores) (nothing_at (schema_at w table) (h.numbered.both table ∙ ap is_some at)))

-- ---- a table that takes messages now

module _ {D : Type 0} (state : D → DiskState) (w : moves.World) (world : World D) (h : Holds state w world) (table : ℕ) where
  abbrev pub owner : Node
  owner = nodes.Store (owner_of w table)

  pub table_up : is_table_ready w table ≡ true → is_up_for world.store table ≡ true
  table_up ready = up_there state w world.store table h.store (turned (is_down w owner) (and_first (not (is_down w owner)) (is_idle_table (hosted_at w table)) ready))

  pub table_there : is_table_ready w table ≡ true → IsSome (tree.get nat_cmp world.store.tables table)
  table_there ready =
      go (hosted_at w table) (tree.get nat_cmp world.store.tables table) (h.store.tables.there table)
      (and_second (not (is_down w owner)) (is_idle_table (hosted_at w table)) ready)
    where
      go : (o : Option Hosted) (it : Option (Kept D)) → HostedThere state (owner_of w table) (schema_at w table) table o it → is_idle_table o ≡ true → IsSome it
      go None it k e = absurd cc
      go (Some hosted) None k e = absurd k
      go (Some hosted) (Some it) k e = search rules

  -- a table that is there, at a Store that is up, is idle where it has no writes to do
  pub idle_is : is_up_for world.store table ≡ true → true ≡ is_some (hosted_at w table) → not (is_at_work w table) ≡ is_idle_table (hosted_at w table)
  idle_is up is =
      let x = some_of (hosted_at w table) is in
      let agenda = table_is_up state w world.store table h.store x.0 x.1 up in
      at x.0 x.1 agenda.0 agenda.1
    where
      at : (hosted : Hosted) → hosted_at w table ≡ Some hosted → (tasks : List StoreTask) → hosted.store.agenda ≡ Some tasks → not (is_at_work w table) ≡ is_idle_table (hosted_at w table)
      at hosted there [] e = rw (there, e) refl
      at hosted there (task ∷ tasks) e = rw (there, e) refl

  pub not_idle : false ≡ is_some (hosted_at w table) → false ≡ is_idle_table (hosted_at w table)
  not_idle is = sym (ap is_idle_table (none_of (hosted_at w table) is))

  pub down_ready : true ≡ is_down w owner → false ≡ is_table_ready w table
  down_ready is = ap (λ (b : Bool). not b && is_idle_table (hosted_at w table)) is

  pub up_ready : (idle : Bool) → idle ≡ is_idle_table (hosted_at w table) → false ≡ is_down w owner → idle ≡ is_table_ready w table
  up_ready idle e is = e ∙ ap (λ (b : Bool). not b && is_idle_table (hosted_at w table)) is

-- ---- a client that takes messages now

pub ready_up : (w : moves.World) (c : ℕ) → is_client_ready w c ≡ true → is_down w (nodes.Client c) ≡ false
ready_up w c ready = idle_up (client_at w c) (and_second (not (is_cut w c)) (is_idle_client (client_at w c)) ready)
  where
    idle_up : (o : Option Client) → is_idle_client o ≡ true → is_client_down o ≡ false
    idle_up None e = refl
    idle_up (Some s) e = at s.agenda refl e
      where
        at : (agenda : Option (List ClientTask)) → s.agenda ≡ agenda → is_idle s.agenda ≡ true → is_client_down (Some s) ≡ false
        at None is idle = let no : true ≡ false = sym idle ∙ ap is_idle is in absurd cc
        at (Some tasks) is idle = rw is refl

-- one that isn't down is so in no world that is held
pub client_stays_up : {D : Type 0} (state : D → DiskState) (w : moves.World) (host : ClientHost D) (c : ℕ) → HoldsClients state w host → is_down w (nodes.Client c) ≡ false
    → (v : moves.World) → HoldsClients state v host → is_down v (nodes.Client c) ≡ false
client_stays_up {D} state w host c h up v k = go (tree.get nat_cmp host.clients c) refl
  where
    up_at : (node : ClientNode D) → Some node ≡ tree.get nat_cmp host.clients c → node.is_up ≡ true
    up_at node is = pick node.is_up refl
      where
        there : (s : Client) × (client_at w c ≡ Some s) × hosts.IsHosted state (is_cut w c) c s node
        there = found state w host.clients c h.there node is

        up_there : is_client_down (Some there.0) ≡ false
        up_there = ap is_client_down (sym there.1) ∙ up

        pick : (b : Bool) → node.is_up ≡ b → node.is_up ≡ true
        pick true e = e
        pick false e = let no : true ≡ false = sym (down_is state node there.0.disk there.0.agenda there.2.client e) ∙ up_there in absurd cc

    go : (o : Option (ClientNode D)) → tree.get nat_cmp host.clients c ≡ o → is_client_down (client_at v c) ≡ false
    go None e = ap is_client_down (not_found state v host.clients c k.there (sym e)).0
    go (Some node) e =
        let there = found state v host.clients c k.there node (sym e) in
        ap is_client_down there.1 ∙ up_is state node there.0.disk there.0.agenda there.2.client (up_at node (sym e))

pub client_up : {D : Type 0} (state : D → DiskState) (w : moves.World) (host : ClientHost D) (c : ℕ) → HoldsClients state w host → is_client_ready w c ≡ true
    → (v : moves.World) → HoldsClients state v host → is_down v (nodes.Client c) ≡ false
client_up state w host c h ready = client_stays_up state w host c h (ready_up w c ready)

-- ---- a row of a table

module _ {D : Type 0} (state : D → DiskState) (w : moves.World) (old : World D) (h : Holds state w old) (table : ℕ) (row : List ℕ) (s : StoreHost D) where
  pub row_found : (found : Option WholeRow) → IsSome (tree.get nat_cmp old.store.tables table)
      → ((hosted : Hosted) → hosted_at w table ≡ Some hosted → IsRowAt hosted.store.disk.items row (current_of hosted.store.disk.items row) found)
      → HoldsStore state w s → s.outs ≡ old.store.outs → SameFaults state old.store.tables s.tables
      → HasFound state w (IsRowIn (hosted_at w table) row) old (record old { store = s }) found
  row_found found there is held outs same =
      let x = there_at state w old.store table h.store there in
      let still = still_store state w old s h held outs same in record {
        found = subst (λ (o : Option Hosted). IsRowIn o row found) (sym x.1) (is x.0 x.1);
        held = still.held;
        same = still.same;
      }

  fallen_done : (new : World D) (told : Told) → IsMoved state old.store s (store_falls (owner_of w table) w) → HasTold (record old { store = s }) new (facts.Refuses facts.NoDevice) told
      → IsDone state w (answering facts.Done (failing (store_falls (owner_of w table) w))) told new
  fallen_done new told moved t =
      told_done state w old h (failing (store_falls (owner_of w table) w)) (failing_goes w (store_falls (owner_of w table) w) (store_falls_goes (owner_of w table) w)) facts.Done s (answers.Refused refusals.NoDevice) (Ok told) new
      (λ lucks. answering facts.Done (failing (store_falls (owner_of w table) w))) no_lucks refl (record { moved = record { held = moved.held; outs = moved.outs }; answer_is = refl }) t

  store_fell : (new : World D) (told : Told) → IsMoved state old.store s (store_falls (owner_of w table) w) → RisenFaults state old.store.tables s.tables
      → HasTold (record old { store = s }) new (facts.Refuses facts.NoDevice) told → HasFallen state w (store_falls (owner_of w table) w) old new told
  store_fell new told moved rose t =
      let done = fallen_done new told moved t in record {
        done = done;
        rose = (tables_counted state (store_falls (owner_of w table) w).world old new true done.held
            (subst (λ (x : StoreHost D). IsCounted state true old.store.tables x.tables) (sym t.store) (some_failed state old.store.tables s.tables true refl rose))
            (ap (λ (x : World D). x.clients.clients) t.same)).rose refl;
      }

  pub row_fallen : (new : World D) (result : Result (Read (Option WholeRow)) WorldFault) → IsMoved state old.store s (store_falls (owner_of w table) w) → RisenFaults state old.store.tables s.tables
      → IfOk result (TellsFall (HasTold (record old { store = s }) new (facts.Refuses facts.NoDevice)))
      → IfOk result (HasRead state w (store_falls (owner_of w table) w) (IsRowIn (hosted_at w table) row) old new)
  row_fallen new (Err e) moved rose t = tt
  row_fallen new (Ok (reads.Found found)) moved rose t = absurd t
  row_fallen new (Ok (reads.Fallen told)) moved rose t = store_fell new told moved rose t

-- what is told of a fall leaves the tables as they fell
pub fallen_tables : {D T : Type 0} (P : tree.BTreeMap ℕ (Kept D) → Type 0) (old new : World D) (s : StoreHost D) (result : Result (Read T) WorldFault) → P s.tables
    → IfOk result (TellsFall (HasTold (record old { store = s }) new (facts.Refuses facts.NoDevice))) → IfOk result (λ read. P new.store.tables)
fallen_tables P old new s (Err e) p t = tt
fallen_tables P old new s (Ok (reads.Found found)) p t = absurd t
fallen_tables {D} P old new s (Ok (reads.Fallen told)) p t = subst (λ (x : StoreHost D). P x.tables) (sym t.store) p

-- ---- what a client holds

module _ {D T : Type 0} (state : D → DiskState) (w : moves.World) (old : World D) (h : Holds state w old) (c : ℕ) (is : T → Type 0) (mid : ClientHost D) where
  pub client_found : (found : T) → is found → events.Stays state w old.clients mid → hosts.SameFaults state old.clients.clients mid.clients
      → HasFound state w is old (record old { clients = mid }) found
  client_found found it stays same =
      let still = still_clients state w old mid h stays same in record { found = it; held = still.held; same = still.same }

  client_fell : (new : World D) (told : Told) → events.IsMoved state old.clients mid (client_falls c w) → hosts.RisenFaults state c old.clients.clients mid.clients
      → HasToldClients state (record old { clients = mid }) new (facts.Refuses facts.NoDevice) told → HasFallen state w (client_falls c w) old new told
  client_fell new told moved rose t =
      let done : IsDone state w (answering facts.Done (failing (client_falls c w))) told new =
      told_one state w old h (answering facts.Done (failing (client_falls c w))) [] (falls_keeps w c) mid (answers.Refused refusals.NoDevice)
      (record { answer_is = refl; held = moved.held; outs = moved.outs }) new told t in record {
        done = done;
        rose = (client_counted state (client_falls c w).world old new c true done.held
            (λ up. subst (λ (m : tree.BTreeMap ℕ (ClientNode D)). hosts.RisenFaults state c old.clients.clients m) (sym t.nodes) rose) (λ f. absurd cc)
            (ap (λ (x : World D). x.store) t.same)).rose refl;
      }

  pub client_fallen : (new : World D) (result : Result (Read T) WorldFault) → events.IsMoved state old.clients mid (client_falls c w) → hosts.RisenFaults state c old.clients.clients mid.clients
      → IfOk result (TellsFall (HasToldClients state (record old { clients = mid }) new (facts.Refuses facts.NoDevice))) → IfOk result (HasRead state w (client_falls c w) is old new)
  client_fallen new (Err e) moved rose t = tt
  client_fallen new (Ok (reads.Found found)) moved rose t = absurd t
  client_fallen new (Ok (reads.Fallen told)) moved rose t = client_fell new told moved rose t
