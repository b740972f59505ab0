-- What is down stays down until it is started.
use Rattle.std.proofs.Common.{◌≡◌, ◌⊎◌, inl, inr, ⊎_elim, ℕ, Bool, true, false, List, [], ◌∷◌, Option, Some, None, refl, sym, ◌∙◌, ap, subst, true≢false}
use Rattle.std.specs.Prelude.{◌&&◌, is_some, if◌then◌else◌}
use Rattle.std.specs.Ordering.{nat_cmp}
use Rattle.std.specs.Map.{lookup}
use Rattle.std.specs.BTreeMap.{is_at, insert_entry}
use Rattle.stab_base.specs.declared.node.Node.{Node}
use Rattle.stab_base.specs.declared.node.Node.TheVariants as nodes
use Rattle.row_value.specs.declared.schema.Schema.{Schema}
use Rattle.row_value.specs.declared.schema.Scheme.{Scheme}
use Rattle.table_model.specs.declared.event.Event.{Event}
use Rattle.table_model.specs.declared.event.Event.TheVariants as events
use Rattle.table_model.specs.declared.table_state.TableState.{TableState}
use Rattle.table_model.specs.declared.table_state.TableState.TheVariants as states
use Rattle.step_tables.specs.Members.{Among}
use Rattle.step_tables.specs.Facts as facts
use Rattle.step_tables.specs.Messages.{Luck}
use Rattle.step_tables.specs.Messages as messages
use Rattle.step_tables.specs.StoreMoves as store
use Rattle.step_tables.specs.StoreMoves.{TableStore, StoreDisk, StoreTask, StoreMove, StoreStep}
use Rattle.step_tables.specs.ClientMoves as client
use Rattle.step_tables.specs.ClientMoves.{Client, ClientDisk, ClientTask, ClientMove, Shape, no_shape, client_step}
use Rattle.step_tables.proofs.Lists.{among_none, among_cons}
use Rattle.world_tables.specs.World.{World, Hosted, Lucks, schema_at, hosted_at, client_at}
use Rattle.world_tables.specs.World.{scheme_in, chunk_in, owner_of, has_store, tables_of, is_down}
use Rattle.world_tables.specs.World.{client_falls, history_on, table_step, move_hosted, move_table}
use Rattle.world_tables.specs.World.{move_there, move_client, first_luck, other_lucks, table_falls}
use Rattle.world_tables.specs.World.{tables_fall, store_falls}
use Rattle.world_tables.specs.World.{store_starts, starts_by, client_starts}
use Rattle.world_tables.specs.World.{client_follows, with_table, new_hosted, declared, joined, new_client}
use Rattle.world_tables.specs.World.{open_all, first_agenda, answering, answered, step}
use Rattle.world_laws.proofs.Looks.{look_cases}
use Rattle.world_laws.proofs.Owners.{among_tables}
use Rattle.asked_laws.proofs.Phases.{store_starts_same}
use Rattle.wire_tables.specs.Wire.{has_agenda, is_hosted_up, is_client_up}
use Rattle.wire_steps.proofs.Orders.{StartsNoTable, StartsNoClient, IsPlain, client_followed, stepped}

-- ---- of a node, before and behind

abbrev pub Lasts : {X : Type 0} → (Option X → Bool) → Option X → Option X → Type 0
Lasts up before after = (up before ≡ false → up after ≡ false) × (is_some before ≡ true → is_some after ≡ true)

lasts_self : {X : Type 0} (up : Option X → Bool) (o : Option X) → Lasts up o o
lasts_self up o = (λ down. down, λ there. there)

lasts_later : {X : Type 0} (up : Option X → Bool) (o p q : Option X) → Lasts up o p → Lasts up p q → Lasts up o q
lasts_later up o p q a b = (λ down. b.0 (a.0 down), λ there. b.1 (a.1 there))

-- ---- of all nodes, but for the clients of these numbers

pub record Last (but : ℕ → Type 0) (w x : World) : Type 0 where
  pub tables : (t : ℕ) → Lasts is_hosted_up (hosted_at w t) (hosted_at x t)
  pub clients : (c : ℕ) → (but c → ⊥) → Lasts is_client_up (client_at w c) (client_at x c)
  pub there : (c : ℕ) → is_some (client_at w c) ≡ true → is_some (client_at x c) ≡ true

module _ (but : ℕ → Type 0) where
  pub last_self : (w : World) → Last but w w
  last_self w = record {
    tables = λ t. lasts_self is_hosted_up (hosted_at w t);
    clients = λ c other. lasts_self is_client_up (client_at w c);
    there = λ c there. there;
  }

  pub last_later : (w x y : World) → Last but w x → Last but x y → Last but w y
  last_later w x y a b = record {
    tables = λ t. lasts_later is_hosted_up (hosted_at w t) (hosted_at x t) (hosted_at y t) (a.tables t) (b.tables t);
    clients = λ c other. lasts_later is_client_up (client_at w c) (client_at x c) (client_at y c) (a.clients c other) (b.clients c other);
    there = λ c there. b.there c (a.there c there);
  }

  -- where tables and clients are the same
  pub last_same : (w x : World) → x.tables ≡ w.tables → x.clients ≡ w.clients → Last but w x
  last_same w x tables clients = record {
    tables = λ t. subst (λ (o : Option Hosted). Lasts is_hosted_up (hosted_at w t) o)
        (sym (ap (λ (ts : List (ℕ × Hosted)). lookup (is_at (nat_cmp t)) ts) tables)) (lasts_self is_hosted_up (hosted_at w t));
    clients = λ c other. subst (λ (o : Option Client). Lasts is_client_up (client_at w c) o)
        (sym (ap (λ (cs : List (ℕ × Client)). lookup (is_at (nat_cmp c)) cs) clients)) (lasts_self is_client_up (client_at w c));
    there = λ c there. ap (λ (cs : List (ℕ × Client)). is_some (lookup (is_at (nat_cmp c)) cs)) clients ∙ there;
  }

-- ---- one move of a table

module _ (number : ℕ) (g : Scheme) (size table : ℕ) where
  abbrev goes : TableStore → StoreMove → StoreStep
  goes s move = store.store_step number g size table s move

  falls_down : (d : StoreDisk) (o : Option (List StoreTask)) (luck : Luck) → has_agenda (goes (record { disk = d; agenda = o }) (store.Crash luck)).store.agenda ≡ false
  falls_down d (Some (task ∷ more)) messages.Done = refl
  falls_down d (Some (task ∷ more)) messages.FailedBefore = refl
  falls_down d (Some (task ∷ more)) messages.FailedAfter = refl
  falls_down d (Some []) luck = refl
  falls_down d None luck = refl

  stays_down : (d : StoreDisk) (o : Option (List StoreTask)) (move : StoreMove) → StartsNoTable move → has_agenda o ≡ false
      → has_agenda (goes (record { disk = d; agenda = o }) move).store.agenda ≡ false
  stays_down d (Some agenda) move plain down = absurd (true≢false down)
  stays_down d None (store.Take from message) plain down = refl
  stays_down d None (store.Work messages.Done) plain down = refl
  stays_down d None (store.Work messages.FailedBefore) plain down = refl
  stays_down d None (store.Work messages.FailedAfter) plain down = refl
  stays_down d None (store.Crash luck) plain down = falls_down d None luck
  stays_down d None (store.Place put) plain down = refl
  stays_down d None store.Start plain down = absurd plain

module _ (w : World) (t : ℕ) (move : StoreMove) where
  abbrev moved_to : Hosted → Hosted
  moved_to hosted = let s : StoreStep = table_step w t hosted move in
      record { store = s.store; history = history_on hosted.history s.facts; made = hosted.made }

  table_lasts : StartsNoTable move → (o : Option Hosted) → hosted_at w t ≡ o → (q : ℕ) → Lasts is_hosted_up (hosted_at w q) (hosted_at (move_hosted w t move o).world q)
  table_lasts plain None at q = lasts_self is_hosted_up (hosted_at w q)
  table_lasts plain (Some hosted) at q = ⊎_elim
      (λ e. subst (λ (o : Option Hosted). Lasts is_hosted_up (hosted_at w q) o) (sym e.1)
      (subst (λ (o : Option Hosted). Lasts is_hosted_up o (Some (moved_to hosted))) (sym (ap (hosted_at w) e.0 ∙ at))
      (stays_down (owner_of w t) (scheme_in (schema_at w t)) (chunk_in (schema_at w t)) t hosted.store.disk hosted.store.agenda move plain, λ there. refl)))
      (λ e. subst (λ (o : Option Hosted). Lasts is_hosted_up (hosted_at w q) o) (sym e.1) (lasts_self is_hosted_up (hosted_at w q)))
      (look_cases w.tables t (moved_to hosted) q)

  table_rest : (o : Option Hosted) → (move_hosted w t move o).world.clients ≡ w.clients
  table_rest None = refl
  table_rest (Some hosted) = refl

-- the same clients
clients_last : (but : ℕ → Type 0) (w x : World) → ((t : ℕ) → Lasts is_hosted_up (hosted_at w t) (hosted_at x t)) → x.clients ≡ w.clients → Last but w x
clients_last but w x tables clients = record {
  tables = tables;
  clients = λ c other. subst (λ (o : Option Client). Lasts is_client_up (client_at w c) o)
      (sym (ap (λ (cs : List (ℕ × Client)). lookup (is_at (nat_cmp c)) cs) clients)) (lasts_self is_client_up (client_at w c));
  there = λ c there. ap (λ (cs : List (ℕ × Client)). is_some (lookup (is_at (nat_cmp c)) cs)) clients ∙ there;
}

pub table_last : (but : ℕ → Type 0) (w : World) (t : ℕ) (move : StoreMove) → StartsNoTable move → Last but w (move_table t move w).world
table_last but w t move plain =
    clients_last but w (move_table t move w).world (table_lasts w t move plain (hosted_at w t) refl) (table_rest w t move (hosted_at w t))

-- ---- one move of a client

module _ (c : ℕ) (shape : Shape) where
  client_stays_down : (d : ClientDisk) (o : Option (List ClientTask)) (move : ClientMove) → StartsNoClient move → has_agenda o ≡ false
      → has_agenda (client_step c shape (record { disk = d; agenda = o }) move).client.agenda ≡ false
  client_stays_down d (Some agenda) move plain down = absurd (true≢false down)
  client_stays_down d None (client.Write table row x) plain down = refl
  client_stays_down d None (client.Change table row x) plain down = refl
  client_stays_down d None (client.Show table row) plain down = refl
  client_stays_down d None (client.Sum table row) plain down = refl
  client_stays_down d None (client.Sync table) plain down = refl
  client_stays_down d None (client.Next table tears asks) plain down = refl
  client_stays_down d None (client.BeginCr table) plain down = refl
  client_stays_down d None (client.Conflicts table) plain down = refl
  client_stays_down d None (client.EndCr table) plain down = refl
  client_stays_down d None (client.Resolve table row version choice) plain down = refl
  client_stays_down d None (client.ResolveAll table by) plain down = refl
  client_stays_down d None (client.Take message) plain down = refl
  client_stays_down d None (client.Work messages.Done) plain down = refl
  client_stays_down d None (client.Work messages.FailedBefore) plain down = refl
  client_stays_down d None (client.Work messages.FailedAfter) plain down = refl
  client_stays_down d None (client.Crash luck) plain down = refl
  client_stays_down d None (client.Alter table change) plain down = refl
  client_stays_down d None client.Start plain down = absurd plain

module _ (but : ℕ → Type 0) (w : World) (c : ℕ) (move : ClientMove) (shape : Shape) where
  client_lasts : (StartsNoClient move ⊎ but c) → (o : Option Client) → client_at w c ≡ o → (q : ℕ) → (but q → ⊥)
      → Lasts is_client_up (client_at w q) (client_at (move_there w c move shape o).world q)
  client_lasts plain None at q other = lasts_self is_client_up (client_at w q)
  client_lasts plain (Some node) at q other =
      let s = client_step c shape node move in
      ⊎_elim
      (λ e. subst (λ (o : Option Client). Lasts is_client_up (client_at w q) o) (sym e.1)
      (subst (λ (o : Option Client). Lasts is_client_up o (Some s.client)) (sym (ap (client_at w) e.0 ∙ at))
      (⊎_elim (λ p. client_stays_down c shape node.disk node.agenda move p) (λ b. absurd (other (subst but (sym e.0) b))) plain, λ there. refl)))
      (λ e. subst (λ (o : Option Client). Lasts is_client_up (client_at w q) o) (sym e.1) (lasts_self is_client_up (client_at w q)))
      (look_cases w.clients c s.client q)

  client_stays : (o : Option Client) → client_at w c ≡ o → (q : ℕ) → is_some (client_at w q) ≡ true → is_some (client_at (move_there w c move shape o).world q) ≡ true
  client_stays None at q there = there
  client_stays (Some node) at q there = ⊎_elim (λ e. ap (λ (o : Option Client). is_some o) e.1) (λ e. ap (λ (o : Option Client). is_some o) e.1 ∙ there)
      (look_cases w.clients c (client_step c shape node move).client q)

  client_rest : (o : Option Client) → (move_there w c move shape o).world.tables ≡ w.tables
  client_rest None = refl
  client_rest (Some node) = refl

  pub client_last : (StartsNoClient move ⊎ but c) → Last but w (move_client c move shape w).world
  client_last plain = record {
    tables = λ t. subst (λ (o : Option Hosted). Lasts is_hosted_up (hosted_at w t) o)
        (sym (ap (λ (ts : List (ℕ × Hosted)). lookup (is_at (nat_cmp t)) ts) (client_rest (client_at w c)))) (lasts_self is_hosted_up (hosted_at w t));
    clients = client_lasts plain (client_at w c) refl;
    there = client_stays (client_at w c) refl;
  }

-- ---- a Store that falls

-- a table that is to fall is down then
falls_lasts : (tables : List ℕ) (w : World) (q : ℕ) → Lasts is_hosted_up (hosted_at w q) (hosted_at (tables_fall tables w).world q)
falls_lasts [] w q = lasts_self is_hosted_up (hosted_at w q)
falls_lasts (t ∷ tables) w q =
    lasts_later is_hosted_up (hosted_at w q) (hosted_at (table_falls t w).world q) (hosted_at (tables_fall tables (table_falls t w).world).world q)
    (table_lasts w t (store.Crash messages.FailedBefore) tt (hosted_at w t) refl q) (falls_lasts tables (table_falls t w).world q)

one_falls : (w : World) (t : ℕ) (o : Option Hosted) → hosted_at w t ≡ o → is_hosted_up (hosted_at (move_hosted w t (store.Crash messages.FailedBefore) o).world t) ≡ false
one_falls w t None at = ap is_hosted_up at
one_falls w t (Some hosted) at = ⊎_elim
    (λ e. ap is_hosted_up e.1
    ∙ falls_down (owner_of w t) (scheme_in (schema_at w t)) (chunk_in (schema_at w t)) t hosted.store.disk hosted.store.agenda messages.FailedBefore)
    (λ e. absurd (e.0 refl)) (look_cases w.tables t (moved_to w t (store.Crash messages.FailedBefore) hosted) t)

falls_all : (tables : List ℕ) (w : World) (q : ℕ) → Among tables q → is_hosted_up (hosted_at (tables_fall tables w).world q) ≡ false
falls_all [] w q a = absurd (among_none q a)
falls_all (t ∷ tables) w q a = ⊎_elim
    (λ e. subst (λ (n : ℕ). is_hosted_up (hosted_at (tables_fall (t ∷ tables) w).world n) ≡ false) e
    ((falls_lasts tables (table_falls t w).world t).0 (one_falls w t (hosted_at w t) refl)))
    (λ more. falls_all tables (table_falls t w).world q more) (among_cons t tables q a)

falls_rest : (tables : List ℕ) (w : World) → (tables_fall tables w).world.clients ≡ w.clients
falls_rest [] w = refl
falls_rest (t ∷ tables) w =
    falls_rest tables (table_falls t w).world ∙ table_rest w t (store.Crash messages.FailedBefore) (hosted_at w t)

pub falls_last : (but : ℕ → Type 0) (w : World) (number : ℕ) → Last but w (store_falls number w).world
falls_last but w number =
    let tables : List ℕ = tables_of w number in
    let last : Last but w (tables_fall tables w).world = clients_last but w (tables_fall tables w).world (λ t. falls_lasts tables w t) (falls_rest tables w) in
    record { tables = last.tables; clients = last.clients; there = last.there }

-- a table falls with the Store that keeps it
pub owner_falls : (w : World) (table : ℕ) → has_store w (owner_of w table) ≡ true → is_hosted_up (hosted_at (store_falls (owner_of w table) w).world table) ≡ false
owner_falls w table declared = go (hosted_at w table) refl
  where
    go : (o : Option Hosted) → hosted_at w table ≡ o → is_hosted_up (hosted_at (store_falls (owner_of w table) w).world table) ≡ false
    go None at = (falls_lasts (tables_of w (owner_of w table)) w table).0 (ap is_hosted_up at)
    go (Some hosted) at = falls_all (tables_of w (owner_of w table)) w table (among_tables w (owner_of w table) table hosted declared refl at)

-- ---- an event that starts and declares nothing

pub plain_lasts : (but : ℕ → Type 0) (w : World) (event : Event) (lucks : Lucks) → IsPlain event → Last but w (step w event lucks).world
plain_lasts but w event lucks plain =
    stepped (Last but) (last_self but) (last_later but) (table_last but) (λ x c move shape p. client_last but x c move shape (inl p)) (falls_last but)
    (λ x holds cuts. last_same but x (record x { holds = holds; cuts = cuts }) refl refl) w event lucks plain

client_follows_lasts : (but : ℕ → Type 0) (c : ℕ) (lucks : List Luck) (w : World) → Last but w (client_follows c lucks w).world
client_follows_lasts but c lucks w =
    client_followed (Last but) (last_self but) (last_later but) (table_last but) (λ x d move shape p. client_last but x d move shape (inl p)) (falls_last but)
    (λ x holds cuts. last_same but x (record x { holds = holds; cuts = cuts }) refl refl) c lucks w

-- ---- starts

-- of the client alone, as far as it isn't said
pub client_start_lasts : (w : World) (c : ℕ) (lucks : Lucks) → Last (λ q. q ≡ c) w (step w (events.Start (nodes.Client c)) lucks).world
client_start_lasts w c lucks = go (is_down w (nodes.Client c))
  where
    but : ℕ → Type 0
    but q = q ≡ c

    starts : (luck : Luck) (more : List Luck) → Last (λ q. q ≡ c) w (starts_by c lucks.shape luck more w).world
    starts messages.Done more =
        let x : World = (move_client c client.Start lucks.shape w).world in
        last_later but w x (client_follows c more x).world (client_last but w c client.Start lucks.shape (inr refl)) (client_follows_lasts but c more x)
    starts messages.FailedBefore more = last_self but w
    starts messages.FailedAfter more = last_self but w

    go : (b : Bool) → Last (λ q. q ≡ c) w (if b then answering facts.Done (client_starts c lucks.shape lucks.calls w) else answered w facts.Done).world
    go true = starts (first_luck lucks.calls) (other_lucks lucks.calls)
    go false = last_self but w

-- ---- declarations

abbrev pub MayJoin : {X : Type 0} → (Option X → Bool) → Option X → Option X → Type 0
MayJoin up before after = (up before ≡ false → is_some before ≡ true → up after ≡ false) × (is_some before ≡ true → is_some after ≡ true)

-- who is there and down stays so, but for the clients of these numbers
pub record Grows (but : ℕ → Type 0) (w x : World) : Type 0 where
  pub tables : (t : ℕ) → MayJoin is_hosted_up (hosted_at w t) (hosted_at x t)
  pub clients : (c : ℕ) → (but c → ⊥) → MayJoin is_client_up (client_at w c) (client_at x c)

joins_none : {X : Type 0} (up : Option X → Bool) (o : Option X) → MayJoin up None o
joins_none up o = (λ down there. absurd (true≢false (sym there)), λ there. absurd (true≢false (sym there)))

joins_self : {X : Type 0} (up : Option X → Bool) (o : Option X) → MayJoin up o o
joins_self up o = (λ down there. down, λ there. there)

pub grows_last : (but : ℕ → Type 0) (w x : World) → Last but w x → Grows but w x
grows_last but w x last = record {
  tables = λ t. (λ down there. (last.tables t).0 down, (last.tables t).1);
  clients = λ c other. (λ down there. (last.clients c other).0 down, (last.clients c other).1);
}

grows_self : (but : ℕ → Type 0) (w : World) → Grows but w w
grows_self but w = grows_last but w w (last_self but w)

joins_at : {X : Type 0} (up : Option X → Bool) (es : List (ℕ × X)) (k : ℕ) (x : X) → lookup (is_at (nat_cmp k)) es ≡ None → (q : ℕ)
    → MayJoin up (lookup (is_at (nat_cmp q)) es) (lookup (is_at (nat_cmp q)) (insert_entry nat_cmp es k x))
joins_at {X} up es k x none q = ⊎_elim
    (λ e. subst (λ (o : Option X). MayJoin up o (lookup (is_at (nat_cmp q)) (insert_entry nat_cmp es k x)))
    (sym (ap (λ (n : ℕ). lookup (is_at (nat_cmp n)) es) e.0 ∙ none)) (joins_none up (lookup (is_at (nat_cmp q)) (insert_entry nat_cmp es k x))))
    (λ e. subst (λ (o : Option X). MayJoin up (lookup (is_at (nat_cmp q)) es) o) (sym e.1) (joins_self up (lookup (is_at (nat_cmp q)) es)))
    (look_cases es k x q)

module _ (w : World) (table : ℕ) (schema : Schema) (stage : TableState) where
  with_grows : (but : ℕ → Type 0) (made : Bool) → hosted_at w table ≡ None → Grows but w (with_table w table schema stage made)
  with_grows but made none = record {
    tables = joins_at is_hosted_up w.tables table (new_hosted stage made) none;
    clients = λ c other. joins_self is_client_up (client_at w c);
  }

  pub declared_grows : (but : ℕ → Type 0) (luck : Luck) (o : Option Hosted) → hosted_at w table ≡ o → Grows but w (declared w table schema stage luck o)
  declared_grows but luck (Some hosted) at = grows_self but w
  declared_grows but messages.Done None at = with_grows but true at
  declared_grows but messages.FailedBefore None at = with_grows but false at
  declared_grows but messages.FailedAfter None at = with_grows but false at

pub joined_grows : (but : ℕ → Type 0) (w : World) (c : ℕ) (tables : List ℕ) (luck : Luck) (o : Option Client) → client_at w c ≡ o → Grows but w (joined w c tables luck o)
joined_grows but w c tables luck (Some node) at = grows_self but w
joined_grows but w c tables luck None at = record {
  tables = λ t. joins_self is_hosted_up (hosted_at w t);
  clients = λ q other. joins_at is_client_up w.clients c (new_client (open_all w [] tables) (first_agenda luck)) at q;
}

-- ---- every event

abbrev nobody : ℕ → Type 0
nobody q = ⊥

-- the clients of a start
abbrev pub restarts : Event → ℕ → Type 0
restarts (events.Start (nodes.Client c)) q = q ≡ c
restarts other q = ⊥

-- no Store is started
abbrev pub StartsNoStore : Event → Type 0
StartsNoStore (events.Start (nodes.Store number)) = ⊥
StartsNoStore other = Unit {0}

start_grows : (w : World) (lucks : Lucks) (node : Node) → StartsNoStore (events.Start node) → Grows (restarts (events.Start node)) w (step w (events.Start node) lucks).world
start_grows w lucks (nodes.Store number) apart = absurd apart
start_grows w lucks (nodes.Client c) apart = grows_last (λ q. q ≡ c) w (step w (events.Start (nodes.Client c)) lucks).world (client_start_lasts w c lucks)
start_grows w lucks (nodes.Gate gate) apart = grows_self nobody w

pub step_grows : (w : World) (event : Event) (lucks : Lucks) → StartsNoStore event → Grows (restarts event) w (step w event lucks).world
step_grows w (events.Store number) lucks plain = record {
  tables = λ t. joins_self is_hosted_up (hosted_at w t);
  clients = λ c other. joins_self is_client_up (client_at w c);
}
step_grows w (events.Table table schema) lucks plain = declared_grows w table schema states.Live nobody (first_luck lucks.calls) (hosted_at w table) refl
step_grows w (events.Draft table schema) lucks plain = declared_grows w table schema states.Draft nobody (first_luck lucks.calls) (hosted_at w table) refl
step_grows w (events.Gate number) lucks plain = grows_self nobody w
step_grows w (events.Client c gate tables) lucks plain = joined_grows nobody w c tables (first_luck lucks.calls) (client_at w c) refl
step_grows w (events.Start node) lucks plain = start_grows w lucks node plain
step_grows w other lucks plain = grows_last nobody w (step w other lucks).world (plain_lasts nobody w other lucks tt)

-- where a Store is started the clients are the same
pub store_start_clients : (w : World) (number : ℕ) (lucks : Lucks) → (step w (events.Start (nodes.Store number)) lucks).world.clients ≡ w.clients
store_start_clients w number lucks = go (has_store w number && is_down w (nodes.Store number))
  where
    go : (b : Bool) → (if b then answering facts.Done (store_starts number lucks.calls w) else answered w facts.Done).world.clients ≡ w.clients
    go true = (store_starts_same number lucks.calls w).0
    go false = refl

-- ---- nodes that fall

pub client_falls_down : (w : World) (c : ℕ) → is_client_up (client_at (client_falls c w).world c) ≡ false
client_falls_down w c = go (client_at w c) refl
  where
    go : (o : Option Client) → client_at w c ≡ o → is_client_up (client_at (move_there w c (client.Crash messages.FailedBefore) no_shape o).world c) ≡ false
    go None at = ap is_client_up at
    go (Some node) at = ⊎_elim (λ e. ap is_client_up e.1 ∙ fallen node.disk node.agenda) (λ e. absurd (e.0 refl))
        (look_cases w.clients c (client_step c no_shape node (client.Crash messages.FailedBefore)).client c)
      where
        fallen : (d : ClientDisk) (o : Option (List ClientTask))
            → has_agenda (client_step c no_shape (record { disk = d; agenda = o }) (client.Crash messages.FailedBefore)).client.agenda ≡ false
        fallen d None = refl
        fallen d (Some []) = refl
        fallen d (Some (task ∷ more)) = refl
