-- What a call of the world comes to: an answer alone, moves of Stores that are told, and nodes that are down.
use Rattle.std.proofs.Common.{◌≡◌, ℕ, Bool, true, false, List, [], ◌∷◌, ◌++◌, Option, Result, Ok, Err, refl, sym, ◌∙◌, ap, subst}
use Rattle.std.specs.Prelude.{IfOk, if◌then◌else◌, is_some, not}
use Rattle.std.specs.Ordering.{nat_cmp}
use Rattle.std.specs.BTreeMap as tree
use Rattle.disk_trait.specs.Calls.{DiskState}
use Rattle.stab_base.specs.declared.node.Node.{Node}
use Rattle.row_value.specs.declared.schema.Schema.{Schema}
use Rattle.table_model.specs.declared.event.Event.{Event}
use Rattle.table_model.specs.declared.event.Event.TheVariants as events
use Rattle.table_model.specs.declared.line.Answer.{Answer}
use Rattle.step_tables.specs.Facts.{AnswerLine}
use Rattle.step_tables.specs.Facts as facts
use Rattle.step_tables.specs.Lines.{answer_of}
use Rattle.step_tables.specs.ClientMoves.{Client}
use Rattle.world_tables.specs.World.{Lucks, no_lucks, Moved, WorldStep, owner_of, answering, answered, refused, unless_down, is_down, has_node, step}
use Rattle.world_tables.specs.World.{schema_at, client_at}
use Rattle.world_tables.specs.World as moves
use Rattle.store_host.specs.declared.host.StoreHost.{StoreHost}
use Rattle.store_host.specs.declared.hosted.TableOut.{TableOut}
use Rattle.store_host.specs.Holds.{HoldsStore, IsStore, outs_of, outs_in, said_by}
use Rattle.journal_host.specs.Holds.{HoldsClients}
use Rattle.journal_host.proofs.Clients.{clients_stay}
use Rattle.node_steps.specs.declared.fault.WorldFault.{WorldFault}
use Rattle.node_steps.specs.declared.told.Outs.{Outs}
use Rattle.node_steps.specs.declared.told.Outs.TheVariants as sent
use Rattle.node_steps.specs.declared.told.Told.{Told}
use Rattle.node_steps.specs.declared.world.World.{World}
use Rattle.node_steps.specs.Nodes.{HasNodes}
use Rattle.node_steps.specs.Numbers.{AreNumbered}
use Rattle.node_steps.specs.Holds.{Holds}
use Rattle.node_steps.specs.Outs.{Goes, IsAnswered}
use Rattle.node_steps.specs.Calls.{IsDone, Comes, HasTold}
use Rattle.node_steps.specs.Told.{AreOuts, IsOnly}

pub held_store : {D : Type 0} (state : D → DiskState) (w : moves.World) (world : World D) → Holds state w world → IsStore state world.store
held_store state w world h = (w, h.store)

-- nothing was told or sent
pub no_outs_told : (owners : ℕ → ℕ) (o : Outs) → o ≡ sent.Nothing → AreOuts owners o []
no_outs_told owners o is = subst (λ (x : Outs). AreOuts owners x []) (sym is) refl

-- ---- a world that stays

module _ {D : Type 0} (state : D → DiskState) (w : moves.World) (world : World D) (h : Holds state w world) where
  pub stays : (a : facts.Answer) (result : Result Told WorldFault) → IfOk result (IsOnly (AnswerLine a ∷ []))
      → Comes state w (λ lucks. answered w a) result world
  stays a (Err e) k = tt
  stays a (Ok told) k = (no_lucks, record { lines_are = k.lines_are; outs_are = no_outs_told (owner_of w) told.outs k.none; held = h; tables = λ t. refl; clients = λ c. refl })

  -- a gateway that is declared
  pub gate_silent : (event : Event) (gate : ℕ) → event ≡ events.Gate gate → (told : Told) → IsOnly [] told → Comes state w (step w event) (Ok told) world
  gate_silent event gate is told only = subst (λ (e : Event). Comes state w (step w e) (Ok told) world) (sym is) (
    no_lucks,
    record { lines_are = only.lines_are; outs_are = no_outs_told (owner_of w) told.outs only.none; held = h; tables = λ t. refl; clients = λ c. refl },
  )

-- ---- another step that is the same

pub comes_as : {D : Type 0} (state : D → DiskState) (w : moves.World) (f g : Lucks → WorldStep) (result : Result Told WorldFault) (world : World D)
    → ((lucks : Lucks) → f lucks ≡ g lucks) → Comes state w g result world → Comes state w f result world
comes_as state w f g (Err e) world same k = tt
comes_as state w f g (Ok told) world same k = (k.0, subst (λ (s : WorldStep). IsDone state w s told world) (sym (same k.0)) k.1)

-- ---- a node that is down, and one that is up

module _ {D : Type 0} (state : D → DiskState) (w : moves.World) (node : Node) (f : Lucks → WorldStep) (result : Result Told WorldFault) where
  unless_is : (b : Bool) → is_down w node ≡ b → (s : WorldStep) → unless_down w node s ≡ (if b then refused w (facts.NodeDown node) else s)
  unless_is b is s = ap (λ (x : Bool). if x then refused w (facts.NodeDown node) else s) is

  pub down_refused : (world : World D) → Holds state w world → true ≡ is_down w node → IfOk result (IsOnly (AnswerLine (facts.Refuses (facts.NodeDown node)) ∷ []))
      → Comes state w (λ lucks. unless_down w node (f lucks)) result world
  down_refused world h is k =
      comes_as state w (λ lucks. unless_down w node (f lucks)) (λ lucks. refused w (facts.NodeDown node)) result world (λ lucks. unless_is true (sym is) (f lucks))
      (stays state w world h (facts.Refuses (facts.NodeDown node)) result k)

  pub up_goes_on : (new : World D) → false ≡ is_down w node → Comes state w f result new → Comes state w (λ lucks. unless_down w node (f lucks)) result new
  up_goes_on new is k = comes_as state w (λ lucks. unless_down w node (f lucks)) f result new (λ lucks. unless_is false (sym is) (f lucks)) k

pub up_now : (b : Bool) → not b ≡ false → b ≡ true
up_now true e = refl
up_now false e = absurd cc

-- ---- moves of Stores

schema_same : (w after : moves.World) → after.schemas ≡ w.schemas → (table : ℕ) → schema_at after table ≡ schema_at w table
schema_same w after same table = ap (λ (es : List (ℕ × Schema)). schema_at (record w { schemas = es }) table) same

pub same_client : (w after : moves.World) → after.clients ≡ w.clients → (c : ℕ) → is_some (client_at after c) ≡ is_some (client_at w c)
same_client w after same c = ap (λ (cs : List (ℕ × Client)). is_some (client_at (record w { clients = cs }) c)) same

-- what the program's world holds of a world beside the Stores
pub record Rest {D : Type 0} (state : D → DiskState) (w : moves.World) (world : World D) : Type 0 where
  pub schemas : (table : ℕ) → tree.get nat_cmp world.schemas table ≡ schema_at w table
  pub clients : HoldsClients state w world.clients
  pub clients_told : world.clients.outs.items ≡ []
  pub held : HasNodes w.holds world.held
  pub numbered : AreNumbered w

pub rest_of : {D : Type 0} (state : D → DiskState) (w : moves.World) (world : World D) → Holds state w world → Rest state w world
rest_of state w world h = record {
  schemas = h.schemas;
  clients = h.clients;
  clients_told = h.clients_told;
  held = h.held;
  numbered = h.numbered;
}

pub whole : {D : Type 0} (state : D → DiskState) (w : moves.World) (world : World D) → Rest state w world → HoldsStore state w world.store → world.store.outs ≡ [] → Holds state w world
whole state w world r store told = record {
  schemas = r.schemas;
  store = store;
  clients = r.clients;
  store_told = told;
  clients_told = r.clients_told;
  held = r.held;
  numbered = r.numbered;
}

module _ {D : Type 0} (state : D → DiskState) (w : moves.World) (old : World D) (r : Rest state w old) (m : Moved) (g : Goes w m) where
  numbered_behind : AreNumbered m.world
  numbered_behind = record {
    both = λ table. ap (λ (o : Option Schema). is_some o) (schema_same w m.world g.schemas table) ∙ (r.numbered.both table ∙ sym (g.tables table));
    tables = λ table there. r.numbered.tables table (sym (g.tables table) ∙ there);
    clients = λ c there. r.numbered.clients c (sym (same_client w m.world g.clients c) ∙ there);
  }

  pub rest_behind : (store : StoreHost D) → Rest state m.world (record old { store = store })
  rest_behind store = record {
    schemas = λ table. r.schemas table ∙ sym (schema_same w m.world g.schemas table);
    clients = clients_stay state w m.world old.clients r.clients (record { clients = g.clients; cuts = g.cuts; phases = g.phases });
    clients_told = r.clients_told;
    held = λ node. r.held node ∙ ap (λ (ns : List Node). has_node ns node) (sym g.holds);
    numbered = numbered_behind;
  }

module _ {D : Type 0} (state : D → DiskState) (w : moves.World) (old : World D) (h : Holds state w old) (m : Moved) (g : Goes w m) where
  pub told_done : (a : facts.Answer) (s : StoreHost D) (given : Answer) (result : Result Told WorldFault) (new : World D) (f : Lucks → WorldStep) (lucks : Lucks)
      → f lucks ≡ answering a m → IsAnswered state old.store s a m given
      → IfOk result (λ told. HasTold (record old { store = s }) new (answer_of given) told) → IfOk result (λ told. IsDone state w (f lucks) told new)
  told_done a s given (Err e) new f lucks is k t = tt
  told_done a s given (Ok told) new f lucks is k t =
      subst (λ (x : WorldStep). IsDone state w x told new) (sym is) (record {
        lines_are = t.lines_are ∙ ap (λ (x : facts.Answer). AnswerLine x ∷ []) k.answer_is;
        outs_are = subst (λ (o : Outs). AreOuts (owner_of m.world) o m.outs) (sym t.outs_are) waiting;
        held = subst (λ (x : World D). Holds state m.world x) (sym t.same)
            (whole state m.world (record old { store = new.store }) (rest_behind state w old (rest_of state w old h) m g new.store) held (ap (λ (x : StoreHost D). x.outs) t.store));
        tables = g.tables;
        clients = same_client w m.world g.clients;
      })
    where
      waiting : outs_of s ≡ said_by m
      waiting = k.moved.outs ∙ ap (λ (outs : List TableOut). outs_in outs ++ said_by m) h.store_told

      held : HoldsStore state m.world new.store
      held = subst (λ (x : StoreHost D). HoldsStore state m.world x) (sym t.store)
          (record { ring = k.moved.held.ring; stores = k.moved.held.stores; tables = k.moved.held.tables; downs = k.moved.held.downs; ups = k.moved.held.ups })

  -- they are told
  pub told_moves : (a : facts.Answer) (s : StoreHost D) (given : Answer) (result : Result Told WorldFault) (new : World D) (f : Lucks → WorldStep) (lucks : Lucks)
      → f lucks ≡ answering a m → IsAnswered state old.store s a m given
      → IfOk result (λ told. HasTold (record old { store = s }) new (answer_of given) told) → Comes state w f result new
  told_moves a s given result new f lucks is k t = go result (told_done a s given result new f lucks is k t)
    where
      go : (r : Result Told WorldFault) → IfOk r (λ told. IsDone state w (f lucks) told new) → Comes state w f r new
      go (Err e) k = tt
      go (Ok told) k = (lucks, k)
