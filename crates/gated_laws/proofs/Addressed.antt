-- Where packets come from and go to: what a client asks comes from it and goes to the owner of its table, and an answer
-- goes to its client.
use Rattle.std.proofs.Common.{◌≡◌, ⊎_elim, ℕ, Bool, true, false, cond, List, [], ◌∷◌, Option, Some, None, refl, sym, ◌∙◌, ap, subst, true≢false}
use Rattle.std.specs.Prelude.{is_some}
use Rattle.std.specs.Ordering.{nat_cmp}
use Rattle.std.specs.Cmp.{nat_cmp_total}
use Rattle.std.specs.BTreeMap.{is_at}
use Rattle.stab_base.specs.declared.node.Node.{Node}
use Rattle.stab_base.specs.declared.node.Node.TheVariants as nodes
use Rattle.row_value.specs.declared.schema.Schema.{Schema}
use Rattle.table_model.specs.declared.event.Event.{Event}
use Rattle.table_model.specs.declared.event.Event.TheVariants as events
use Rattle.table_model.specs.declared.table_state.TableState.{TableState}
use Rattle.table_model.specs.declared.table_state.TableState.TheVariants as states
use Rattle.step_tables.specs.Members.{Among}
use Rattle.step_tables.specs.Messages.{Message, Send, Luck, SyncRequest, SyncResponse, PullRequest, PullResponse, TornRowRequest, TornRowResponse, table_of}
use Rattle.step_tables.specs.Messages as messages
use Rattle.step_tables.specs.StoreMoves as store
use Rattle.step_tables.specs.StoreMoves.{StoreTask, StoreMove, StoreStep}
use Rattle.step_tables.specs.ClientMoves.{Client, ClientMove, ClientStep, Shape, client_step}
use Rattle.step_tables.proofs.Lists.{among_none, among_cons, among_either, lookup-insert}
use Rattle.world_tables.specs.World.{World, Packet, Hosted, Lucks, start, schema_at, scheme_in, chunk_in, hosted_at, client_at, owner_of, tasks_in, address, packets_from, history_on}
use Rattle.world_tables.specs.World.{after_table, table_step, move_hosted, move_table, move_there, move_client, first_luck, declared_late, agenda_of, with_table, made_with, declared, open_all}
use Rattle.world_tables.specs.World.{new_client}
use Rattle.world_tables.specs.World.{first_agenda, joined, with_store, step}
use Rattle.world_tables.specs.Sound.{is_declaration}
use Rattle.name_laws.proofs.Plain.{ToOwners, IsPlainAgenda, IsPlainStep, client_plain}
use Rattle.fair_laws.specs.Fair.{IsFairRequest, AreFairSends, OpensKnown}
use Rattle.fair_laws.specs.Reached.{IsBuilt}
use Rattle.fair_laws.specs.Worlds.{IsFair}
use Rattle.fair_laws.proofs.Fairness as fairness
use Rattle.fair_laws.proofs.Stores.{IsFairMove, late_fair}
use Rattle.fair_laws.proofs.Hosting.{beside_fair, some_after, all_after, after_fair, table_fair}
use Rattle.fair_laws.proofs.Calling.{client_fair}
use Rattle.fair_laws.proofs.Events.{takes_fair, start_fair, step_fair}
use Rattle.gated_laws.proofs.EachMove.{IsOwnMove, step_keeps}
use Rattle.gated_laws.proofs.Replies.{IsReply, AreReplies, TasksReply, IsReplying, IsAsking, AsksOwn, move_replies}

abbrev pub IsFromTo : (ℕ → ℕ) → Node → Node → Message → Type 0
IsFromTo owners from to (SyncRequest q) = (from ≡ nodes.Client q.client) × (to ≡ nodes.Store (owners q.table))
IsFromTo owners from to (SyncResponse r) = to ≡ nodes.Client r.client
IsFromTo owners from to (PullRequest q) = (from ≡ nodes.Client q.client) × (to ≡ nodes.Store (owners q.table))
IsFromTo owners from to (PullResponse q) = to ≡ nodes.Client q.client
IsFromTo owners from to (TornRowRequest q) = (from ≡ nodes.Client q.client) × (to ≡ nodes.Store (owners q.table))
IsFromTo owners from to (TornRowResponse t) = to ≡ nodes.Client t.client

-- ---- what is sent

reply_to : (owners : ℕ → ℕ) (from : Node) (to : Option Node) (m : Message) → IsReply to m → IsFromTo owners from (address owners to m) m
reply_to owners from to (SyncRequest q) r = absurd r
reply_to owners from to (SyncResponse q) r = ap (λ (o : Option Node). address owners o (SyncResponse q)) r
reply_to owners from to (PullRequest q) r = absurd r
reply_to owners from to (PullResponse q) r = ap (λ (o : Option Node). address owners o (PullResponse q)) r
reply_to owners from to (TornRowRequest q) r = absurd r
reply_to owners from to (TornRowResponse q) r = ap (λ (o : Option Node). address owners o (TornRowResponse q)) r

replies_go : (owners : ℕ → ℕ) (from : Node) (sends : List Send) → AreReplies sends → (p : Packet) → Among (packets_from owners from sends) p → IsFromTo owners p.from p.to p.message
replies_go owners from [] r p a = absurd (among_none p a)
replies_go owners from (send ∷ sends) r p a =
    ⊎_elim (λ e. subst (λ (x : Packet). IsFromTo owners x.from x.to x.message) e (reply_to owners from send.to send.message r.0)) (replies_go owners from sends r.1 p)
    (among_cons _ (packets_from owners from sends) p a)

request_from : (known : ℕ → Option Schema) (owners : ℕ → ℕ) (c : ℕ) (to : Option Node) (m : Message) → IsFairRequest known c m → to ≡ None → IsFromTo owners (nodes.Client c) (address owners to m) m
request_from known owners c to (SyncRequest q) f none = (ap (λ (n : ℕ). nodes.Client n) (sym f.0), ap (λ (o : Option Node). address owners o (SyncRequest q)) none)
request_from known owners c to (SyncResponse q) f none = absurd f
request_from known owners c to (PullRequest q) f none = (ap (λ (n : ℕ). nodes.Client n) (sym f), ap (λ (o : Option Node). address owners o (PullRequest q)) none)
request_from known owners c to (PullResponse q) f none = absurd f
request_from known owners c to (TornRowRequest q) f none = (ap (λ (n : ℕ). nodes.Client n) (sym f), ap (λ (o : Option Node). address owners o (TornRowRequest q)) none)
request_from known owners c to (TornRowResponse q) f none = absurd f

requests_go : (known : ℕ → Option Schema) (owners : ℕ → ℕ) (c : ℕ) (sends : List Send) → AreFairSends known c sends → ToOwners sends
    → (p : Packet) → Among (packets_from owners (nodes.Client c) sends) p → IsFromTo owners p.from p.to p.message
requests_go known owners c [] f to p a = absurd (among_none p a)
requests_go known owners c (send ∷ sends) f to p a =
    ⊎_elim (λ e. subst (λ (x : Packet). IsFromTo owners x.from x.to x.message) e (request_from known owners c send.to send.message f.0 to.0)) (requests_go known owners c sends f.1 to.1 p)
    (among_cons _ (packets_from owners (nodes.Client c) sends) p a)

-- ---- the world

pub record IsAddressed (w : World) : Type 0 where
  pub fair : IsFair w
  pub tables : (table : ℕ) (hosted : Hosted) → hosted_at w table ≡ Some hosted → TasksReply (tasks_in hosted.store.agenda)
  pub clients : (c : ℕ) (node : Client) → client_at w c ≡ Some node → IsPlainAgenda node.agenda
  pub packets : (p : Packet) → Among w.packets p → IsFromTo (owner_of w) p.from p.to p.message

-- a later world: there is each client that there was
abbrev pub ClientsStay : World → World → Type 0
ClientsStay w later = (c : ℕ) → is_some (client_at w c) ≡ true → is_some (client_at later c) ≡ true

-- with the same Stores and schemas
pub record IsLater (w later : World) : Type 0 where
  pub addressed : IsAddressed later
  pub stores : later.stores ≡ w.stores
  pub schemas : later.schemas ≡ w.schemas
  pub clients : ClientsStay w later

module _ (w : World) where
  beside_later : (v : World) (holds downs cuts : List Node) → IsLater w v → IsLater w (record v { holds = holds; downs = downs; cuts = cuts })
  beside_later v holds downs cuts l = record {
    addressed = record { fair = beside_fair v holds downs cuts v.phases l.addressed.fair; tables = l.addressed.tables; clients = l.addressed.clients; packets = l.addressed.packets };
    stores = l.stores;
    schemas = l.schemas;
    clients = l.clients;
  }

  -- ---- a table's move

  after_later : (v : World) (table : ℕ) (hosted : Hosted) (s : StoreStep) → IsReplying s → IsFair (after_table v table hosted s).world → IsLater w v → IsLater w (after_table v table hosted s).world
  after_later v table hosted s r fair l = record {
    addressed = record {
      fair = fair;
      tables = all_after (λ (q : ℕ) (x : Hosted). TasksReply (tasks_in x.store.agenda)) v.tables table new r.tasks l.addressed.tables;
      clients = l.addressed.clients;
      packets = λ p a. ⊎_elim (l.addressed.packets p) (replies_go (owner_of v) (nodes.Store (owner_of v table)) s.sends r.sends p)
          (among_either v.packets (packets_from (owner_of v) (nodes.Store (owner_of v table)) s.sends) p a);
    };
    stores = l.stores;
    schemas = l.schemas;
    clients = l.clients;
  }
    where
      new : Hosted
      new = record { store = s.store; history = history_on hosted.history s.facts; made = hosted.made }

  move_later : (v : World) (table : ℕ) (move : StoreMove) → IsFairMove (schema_at v) table move → AsksOwn move → IsLater w v → IsLater w (move_table table move v).world
  move_later v table move fair own l = go (hosted_at v table) refl (table_fair v table move fair l.addressed.fair)
    where
      go : (o : Option Hosted) → hosted_at v table ≡ o → IsFair (move_hosted v table move o).world → IsLater w (move_hosted v table move o).world
      go None at f = l
      go (Some hosted) at f = after_later v table hosted (table_step v table hosted move)
          (move_replies (owner_of v table) (scheme_in (schema_at v table)) (chunk_in (schema_at v table)) table hosted.store move own (l.addressed.tables table hosted at)) f l

  own_later : (v : World) (table : ℕ) (move : StoreMove) → IsOwnMove move → IsLater w v → IsLater w (move_table table move v).world
  own_later v table (store.Place put) own l = move_later v table (store.Place put) tt tt l
  own_later v table (store.Work luck) own l = move_later v table (store.Work luck) tt tt l
  own_later v table (store.Crash luck) own l = move_later v table (store.Crash luck) tt tt l
  own_later v table store.Start own l = move_later v table store.Start tt tt l
  own_later v table (store.Take from m) own l = absurd own

  late_later : (v : World) (table : ℕ) (hosted : Hosted) → hosted_at v table ≡ Some hosted → IsLater w v
      → IsLater w (after_table v table (record hosted { made = true }) (declared_late (owner_of v table) table hosted.store.disk.state)).world
  late_later v table hosted at l =
      let late : StoreStep = declared_late (owner_of v table) table hosted.store.disk.state in
      after_later v table (record hosted { made = true }) late (record { sends = tt; tasks = tt })
      (after_fair v table hosted (record hosted { made = true }) late at l.addressed.fair (late_fair (schema_at v) table (owner_of v table) hosted.store.disk.state)) l

  asks_own : (owners : ℕ → ℕ) (from to : Node) (m : Message) → IsFromTo owners from to m → IsAsking from m
  asks_own owners from to (SyncRequest q) is = is.0
  asks_own owners from to (SyncResponse q) is = tt
  asks_own owners from to (PullRequest q) is = is.0
  asks_own owners from to (PullResponse q) is = tt
  asks_own owners from to (TornRowRequest q) is = is.0
  asks_own owners from to (TornRowResponse q) is = tt

  takes_later : (v : World) (p : Packet) → Among v.packets p → IsLater w v → IsLater w (move_table (table_of p.message) (store.Take p.from p.message) v).world
  takes_later v p a l = move_later v (table_of p.message) (store.Take p.from p.message)
      (takes_fair v l.addressed.fair p.from p.message (l.addressed.fair.packets p a)) (asks_own (owner_of v) p.from p.to p.message (l.addressed.packets p a)) l

  -- ---- a client's move

  client_later : (v : World) (c : ℕ) (move : ClientMove) (shape : Shape) → OpensKnown (schema_at v) move → IsLater w v → IsLater w (move_client c move shape v).world
  client_later v c move shape opens l = go (client_at v c) refl (client_fair v c move shape opens l.addressed.fair)
    where
      go : (o : Option Client) → client_at v c ≡ o → IsFair (move_there v c move shape o).world → IsLater w (move_there v c move shape o).world
      go None at f = l
      go (Some node) at f =
          let s : ClientStep = client_step c shape node move in
          let plain : IsPlainStep s = client_plain c shape node move (l.addressed.clients c node at) in
          record {
            addressed = record {
              fair = f;
              tables = l.addressed.tables;
              clients = all_after (λ (q : ℕ) (x : Client). IsPlainAgenda x.agenda) v.clients c s.client plain.agenda l.addressed.clients;
              packets = λ p a. ⊎_elim (l.addressed.packets p)
                  (requests_go (schema_at v) (owner_of v) c s.sends (fairness.step_fair (schema_at v) c shape node move opens (l.addressed.fair.clients c node at)).sends plain.sends p)
                  (among_either v.packets (packets_from (owner_of v) (nodes.Client c) s.sends) p a);
            };
            stores = l.stores;
            schemas = l.schemas;
            clients = λ q there. some_after v.clients c node s.client q at ∙ l.clients q there;
          }

  -- ---- an event that declares nothing

  pub event_later : (event : Event) → is_declaration event ≡ false → (lucks : Lucks) → IsAddressed w → IsLater w (step w event lucks).world
  event_later event plain lucks a =
      step_keeps (IsLater w) beside_later own_later late_later takes_later client_later w (record { addressed = a; stores = refl; schemas = refl; clients = λ c there. there }) event plain lucks

-- ---- a declaration, where nothing was sent

pub record IsDeclared (w later : World) : Type 0 where
  pub addressed : IsAddressed later
  pub packets : later.packets ≡ []
  pub clients : ClientsStay w later

module _ (w : World) (a : IsAddressed w) (none : w.packets ≡ []) where
  no_packet : (P : Packet → Type 0) (p : Packet) → Among w.packets p → P p
  no_packet P p b = absurd (among_none p (subst (λ (ps : List Packet). Among ps p) none b))

  declares_table : (table : ℕ) (schema : Schema) (state : TableState) (luck : Luck) (o : Option Hosted) → IsFair (declared w table schema state luck o)
      → IsDeclared w (declared w table schema state luck o)
  declares_table table schema state luck (Some hosted) fair = record { addressed = a; packets = none; clients = λ c there. there }
  declares_table table schema state luck None fair = go luck fair
    where
      new_tasks : (made : Bool) → TasksReply (tasks_in (agenda_of made))
      new_tasks true = tt
      new_tasks false = tt

      with : (made : Bool) → IsFair (with_table w table schema state made) → IsDeclared w (with_table w table schema state made)
      with made f = record {
        addressed = record {
          fair = f;
          tables = all_after (λ (q : ℕ) (x : Hosted). TasksReply (tasks_in x.store.agenda)) w.tables table _ (new_tasks made) a.tables;
          clients = a.clients;
          packets = λ p b. no_packet (λ (x : Packet). IsFromTo (owner_of (with_table w table schema state made)) x.from x.to x.message) p b;
        };
        packets = none;
        clients = λ c there. there;
      }

      go : (l : Luck) → IsFair (made_with w table schema state l) → IsDeclared w (made_with w table schema state l)
      go messages.Done f = with true f
      go messages.FailedBefore f = with false f
      go messages.FailedAfter f = with false f

  declares_client : (c : ℕ) (tables : List ℕ) (luck : Luck) (o : Option Client) → IsFair (joined w c tables luck o) → IsDeclared w (joined w c tables luck o)
  declares_client c tables luck (Some node) fair = record { addressed = a; packets = none; clients = λ c there. there }
  declares_client c tables luck None fair = record {
    addressed = record {
      fair = fair;
      tables = a.tables;
      clients = all_after (λ (q : ℕ) (x : Client). IsPlainAgenda x.agenda) w.clients c new (plain luck) a.clients;
      packets = a.packets;
    };
    packets = none;
    clients = λ q there. ap (λ (o : Option Client). is_some o) (lookup-insert nat_cmp nat_cmp_total w.clients c new q) ∙ kept q there (is_at (nat_cmp c) q);
  }
    where
      new : Client
      new = new_client (open_all w [] tables) (first_agenda luck)

      plain : (l : Luck) → IsPlainAgenda (first_agenda l)
      plain messages.Done = tt
      plain messages.FailedBefore = tt
      plain messages.FailedAfter = tt

      kept : (q : ℕ) → is_some (client_at w q) ≡ true → (b : Bool) → is_some (cond b (Some new) (client_at w q)) ≡ true
      kept q there true = refl
      kept q there false = there

  pub event_declares : (event : Event) → is_declaration event ≡ true → IsBuilt event → (lucks : Lucks) → IsDeclared w (step w event lucks).world
  event_declares event is built lucks = go event is (step_fair w a.fair event built lucks)
    where
      go : (e : Event) → is_declaration e ≡ true → IsFair (step w e lucks).world → IsDeclared w (step w e lucks).world
      go (events.Store number) d f = record {
        addressed = record { fair = f; tables = a.tables; clients = a.clients; packets = λ p b. no_packet (λ (x : Packet). IsFromTo (owner_of (with_store number w)) x.from x.to x.message) p b };
        packets = none;
        clients = λ c there. there;
      }
      go (events.Gate number) d f = record { addressed = a; packets = none; clients = λ c there. there }
      go (events.Table table schema) d f = declares_table table schema states.Live (first_luck lucks.calls) (hosted_at w table) f
      go (events.Draft table schema) d f = declares_table table schema states.Draft (first_luck lucks.calls) (hosted_at w table) f
      go (events.Client c gate tables) d f = declares_client c tables (first_luck lucks.calls) (client_at w c) f
      go other d f = absurd (true≢false (sym d))

pub start_addressed : IsAddressed start
start_addressed = record { fair = start_fair; tables = λ table hosted at. absurd cc; clients = λ c node at. absurd cc; packets = λ p a. absurd (among_none p a) }
