-- Every event makes of the phase of a client that is up what its answer says, and one that is down has none.
use Rattle.std.proofs.Common.{◌≡◌, ◌≢◌, ◌⊎◌, inl, inr, ⊎_elim, ℕ, Bool, true, false, List, [], ◌∷◌, Option, Some, None, refl, sym, ◌∙◌, ap, subst, arith, true≢false}
use Rattle.std.specs.Prelude.{◌&&◌, not, slice_get, if◌then◌else◌}
use Rattle.std.proofs.lemmas.Bool.Decides.{nat_tests}
use Rattle.stab_base.specs.declared.node.Node.{Node}
use Rattle.stab_base.specs.declared.node.Node.TheVariants as nodes
use Rattle.row_value.specs.declared.schema.Schema.{Schema}
use Rattle.table_model.specs.declared.event.Event.{Event}
use Rattle.table_model.specs.declared.event.Event.TheVariants as events
use Rattle.table_model.specs.declared.table_state.TableState.{TableState}
use Rattle.table_model.specs.declared.table_state.TableState.TheVariants as states
use Rattle.conflicts.specs.declared.stored.Stored as resolvers
use Rattle.step_tables.specs.Facts.{Answer, Refusal}
use Rattle.step_tables.specs.Facts as facts
use Rattle.step_tables.specs.Messages.{Luck, table_of}
use Rattle.step_tables.specs.Messages as messages
use Rattle.step_tables.specs.StoreMoves as store
use Rattle.step_tables.specs.StoreMoves.{SidePut, StoreTask, StoreMove}
use Rattle.step_tables.specs.ClientMoves as client
use Rattle.step_tables.specs.ClientMoves.{TableDisk, ClientDisk, Client, ClientTask, ClientMove, ClientStep, Shape, no_shape, table_at, seen, client_step, phases_by}
use Rattle.world_tables.specs.World.{World, Packet, Hosted, WorldStep, Lucks, owner_of, has_store, hosted_at, hosted_by, client_at, is_client_down, is_down, is_resolving, still, and_then, with_store}
use Rattle.world_tables.specs.World.{move_table, moved_client, move_there, move_client, first_luck, other_lucks, client_tasks, client_follows, client_follows_from, gets_tasks, starts_by, client_starts, client_falls}
use Rattle.world_tables.specs.World.{store_falls, busy_table, crash_luck, answering, answered, refused, unless_down, made_with, declared, open_all, new_client}
use Rattle.world_tables.specs.World.{first_agenda, joined, call_there, call, listed}
use Rattle.world_tables.specs.World.{client_pairs, resolve_all, take_read, take_at, to_hosted, to_there, carried, delivered, row_read, store_shows, chunk_names, history_lines, worked, all_worked, crashed, started, with_link, linked, step, table_follows}
use Rattle.world_tables.specs.World.{store_starts, without_node, schema_at, puts_beside, opens, created, dropped}
use Rattle.world_laws.proofs.Looks.{look_cases}
use Rattle.world_laws.proofs.Calls.{call_is}
use Rattle.asked_laws.specs.Phases.{is_away, phase_by}
use Rattle.asked_laws.proofs.Phases.{then_same, table_same, store_falls_same, write_same, until_idle_same, table_follows_same, store_starts_same, store_crashes_same, has_open, open_without, open_ended, down, IsClosed, Keeps, keeps_self, keeps_then, same_keeps, moved_down}
use Rattle.asked_laws.proofs.Phases.{IsPlainMove, client_keeps, start_keeps, start_opens_none, works_keep, client_follows_keeps, follows_from_keeps, client_writes_keep, each_keeps}

pub one_or_other : (c d : ℕ) → (c ≡ d) ⊎ (c ≢ d)
one_or_other c d = grind (arith, nat_tests)

module _ (c t : ℕ) (w : World) (is : IsClosed c t w) where
  abbrev Kept : World → Type 0
  Kept v = Keeps c t w v

  kept : Kept w
  kept = keeps_self c t w is

  -- ---- events that begin and end no phase

  down_kept : (node : Node) (s : WorldStep) → Kept s.world → Kept (unless_down w node s).world
  down_kept node s there = go (is_down w node)
    where
      go : (b : Bool) → Kept (if b then refused w (facts.NodeDown node) else s).world
      go true = kept
      go false = there

  fallen_kept : (d : ℕ) → Kept (client_falls d w).world
  fallen_kept d = client_keeps c t w d (client.Crash messages.FailedBefore) no_shape tt is

  store_fallen : (node : ℕ) → Kept (store_falls node w).world
  store_fallen node = same_keeps c t w (store_falls node w).world is (store_falls_same node w)

  moved_kept : (d : ℕ) (move : ClientMove) (shape : Shape) (lucks : List Luck) (node : Client) → IsPlainMove move
      → Kept (and_then (move_client d move shape w) (client_follows_from node.agenda d lucks)).world
  moved_kept d move shape lucks node plain =
      let v : World = (move_client d move shape w).world in
      let first : Kept v = client_keeps c t w d move shape plain is in
      keeps_then c t w v (client_follows_from node.agenda d lucks v).world first (follows_from_keeps c t node.agenda d lucks v first.closed)

  call_kept : (d : ℕ) (move : ClientMove) (shape : Shape) (lucks : List Luck) → IsPlainMove move → (o : Option Client) → client_at w d ≡ o → Kept (call_there w d move shape lucks o).world
  call_kept d move shape lucks plain o at =
      call_is (λ (x : WorldStep). Kept x.world) w d move shape lucks (λ r before. kept) (fallen_kept d) (λ take. kept) (λ node there. moved_kept d move shape (other_lucks lucks) node plain) o at

  listed_kept : (s : WorldStep) → Kept s.world → Kept (listed s).world
  listed_kept s there = go s.answer
    where
      go : (o : Option Answer) → Kept (listed (record s { answer = o })).world
      go None = there
      go (Some facts.Done) = there
      go (Some (facts.Number number)) = there
      go (Some (facts.Shows y)) = there
      go (Some (facts.Sums y)) = there
      go (Some (facts.Stores v y)) = there
      go (Some (facts.Did y)) = there
      go (Some (facts.Names y)) = there
      go (Some (facts.Pairs pairs)) = there
      go (Some (facts.Refuses r)) = there

  all_kept : (d table : ℕ) (by : resolvers.Stored) (shapes : List Shape) (lucks : List Luck) (s : WorldStep) → Kept s.world → Kept (resolve_all w d table by shapes lucks s).world
  all_kept d table by shapes lucks s there = go s.answer
    where
      go : (o : Option Answer) → Kept (resolve_all w d table by shapes lucks (record s { answer = o })).world
      go None = there
      go (Some facts.Done) = there
      go (Some (facts.Number number)) = each_keeps c t d table by shapes lucks (client_pairs (client_at w d) table) w is
      go (Some (facts.Shows y)) = there
      go (Some (facts.Sums y)) = there
      go (Some (facts.Stores v y)) = there
      go (Some (facts.Did y)) = there
      go (Some (facts.Names y)) = there
      go (Some (facts.Pairs some)) = there
      go (Some (facts.Refuses r)) = there

  hosted_kept : (table : ℕ) (move : StoreMove) (lucks : List Luck) (o : Option Hosted) → Kept (to_hosted w table move lucks o).world
  hosted_kept table move lucks None = kept
  hosted_kept table move lucks (Some hosted) = go hosted.store.agenda
    where
      v : World
      v = (move_table table move w).world

      first : Kept v
      first = same_keeps c t w v is (table_same table move w)

      reads : (luck : Luck) → Kept (take_read w table hosted move (other_lucks lucks) luck).world
      reads messages.FailedBefore = store_fallen (owner_of w table)
      reads messages.FailedAfter = store_fallen (owner_of w table)
      reads messages.Done =
          let x : World = (table_follows table (other_lucks lucks) v).world in
          same_keeps c t w x is (then_same w v x (table_same table move w) (table_follows_same table (other_lucks lucks) v))

      go : (o : Option (List StoreTask)) → Kept (take_at w table hosted move lucks o).world
      go None = first
      go (Some (task ∷ more)) = first
      go (Some []) = reads (first_luck lucks)

  carried_kept : (p : Packet) (shape : Shape) (lucks : List Luck) (to : Node) → Kept (carried w p shape lucks to).world
  carried_kept p shape lucks (nodes.Store number) = down_kept (nodes.Store number) _ (hosted_kept (table_of p.message) (store.Take p.from p.message) lucks (hosted_by w number (table_of p.message)))
  carried_kept p shape lucks (nodes.Gate gate) = kept
  carried_kept p shape lucks (nodes.Client d) = go (client_at w d) refl
    where
      go : (o : Option Client) → client_at w d ≡ o → Kept (to_there w d p.message shape lucks o).world
      go None at = kept
      go (Some node) at = call_kept d (client.Take p.message) shape lucks tt (Some node) at

  delivered_kept : (shape : Shape) (lucks : List Luck) (o : Option Packet) → Kept (delivered w shape lucks o).world
  delivered_kept shape lucks None = kept
  delivered_kept shape lucks (Some p) = carried_kept p shape lucks p.to

  shows_kept : (table : ℕ) (row : List ℕ) (lucks : List Luck) (o : Option Hosted) → Kept (store_shows w table row lucks o).world
  shows_kept table row lucks None = kept
  shows_kept table row lucks (Some hosted) = down_kept (nodes.Store (owner_of w table)) _ (read (first_luck lucks))
    where
      read : (luck : Luck) → Kept (row_read w table hosted row luck).world
      read messages.Done = kept
      read messages.FailedBefore = store_fallen (owner_of w table)
      read messages.FailedAfter = store_fallen (owner_of w table)

  chunks_kept : (table : ℕ) (o : Option Hosted) → Kept (chunk_names w table o).world
  chunks_kept table None = kept
  chunks_kept table (Some hosted) = down_kept (nodes.Store (owner_of w table)) _ kept

  history_kept : (table : ℕ) (o : Option Hosted) → Kept (history_lines w table o).world
  history_kept table None = kept
  history_kept table (Some hosted) = kept

  linked_kept : (d : ℕ) (up : Bool) (o : Option Client) → Kept (linked w d up o).world
  linked_kept d up None = kept
  linked_kept d up (Some node) = down_kept (nodes.Client d) _ (moved up)
    where
      moved : (b : Bool) → Kept (with_link d b w)
      moved true = same_keeps c t w (with_link d true w) is (refl, refl)
      moved false = same_keeps c t w (with_link d false w) is (refl, refl)

  puts_kept : (number table : ℕ) (put : SidePut) (lucks : List Luck) → Kept (puts_beside w number table put lucks).world
  puts_kept number table put lucks = down_kept (nodes.Store number) _ (hosted_kept table (store.Place put) lucks (hosted_by w number table))

  opens_kept : (d table : ℕ) (shape : Shape) (lucks : List Luck) (o : Option Schema) → Kept (opens w d table shape lucks o).world
  opens_kept d table shape lucks None = kept
  opens_kept d table shape lucks (Some schema) = call_kept d (client.Alter table (client.Opens schema)) shape lucks tt (client_at w d) refl

  created_kept : (table : ℕ) (shape : Shape) (lucks : List Luck) (node : Node) → Kept (created w table shape lucks node).world
  created_kept table shape lucks (nodes.Store number) = puts_kept number table (store.PutState states.Live) lucks
  created_kept table shape lucks (nodes.Client d) = opens_kept d table shape lucks (schema_at w table)
  created_kept table shape lucks (nodes.Gate gate) = kept

  dropped_kept : (table : ℕ) (shape : Shape) (lucks : List Luck) (node : Node) → Kept (dropped w table shape lucks node).world
  dropped_kept table shape lucks (nodes.Store number) = puts_kept number table (store.PutState states.Dropped) lucks
  dropped_kept table shape lucks (nodes.Client d) = call_kept d (client.Alter table client.Closes) shape lucks tt (client_at w d) refl
  dropped_kept table shape lucks (nodes.Gate gate) = kept

  worked_kept : (lucks : List Luck) (node : Node) → Kept (worked w lucks node).world
  worked_kept lucks (nodes.Store number) = same_keeps c t w _ is (write_same number (first_luck lucks) (busy_table w number) w)
  worked_kept lucks (nodes.Client d) = client_writes_keep c t d (first_luck lucks) (client_tasks (client_at w d)) w is
  worked_kept lucks (nodes.Gate gate) = kept

  all_worked_kept : (lucks : List Luck) (node : Node) → Kept (all_worked w lucks node).world
  all_worked_kept lucks (nodes.Store number) = same_keeps c t w _ is (until_idle_same number lucks w)
  all_worked_kept lucks (nodes.Client d) = works_keep c t d (client_tasks (client_at w d)) lucks w is
  all_worked_kept lucks (nodes.Gate gate) = kept

  crashed_kept : (calls : ℕ) (lucks : List Luck) (node : Node) → Kept (crashed w calls lucks node).world
  crashed_kept calls lucks (nodes.Store number) = same_keeps c t w _ is (store_crashes_same number calls lucks w)
  crashed_kept calls lucks (nodes.Client d) = client_keeps c t w d (client.Crash (crash_luck calls (other_lucks lucks) (first_luck lucks))) no_shape tt is
  crashed_kept calls lucks (nodes.Gate gate) = kept

  declared_kept : (table : ℕ) (schema : Schema) (state : TableState) (luck : Luck) (o : Option Hosted) → Kept (declared w table schema state luck o)
  declared_kept table schema state luck (Some hosted) = kept
  declared_kept table schema state luck None = go luck
    where
      go : (x : Luck) → Kept (made_with w table schema state x)
      go messages.Done = same_keeps c t w (made_with w table schema state messages.Done) is (refl, refl)
      go messages.FailedBefore = same_keeps c t w (made_with w table schema state messages.FailedBefore) is (refl, refl)
      go messages.FailedAfter = same_keeps c t w (made_with w table schema state messages.FailedAfter) is (refl, refl)

  -- ---- what an event makes of the phase

  abbrev StepIs : Event → WorldStep → Type 0
  StepIs event s = is_resolving s.world c t ≡ (not (down c t s.world) && phase_by c t event s.answer (is_resolving w c t))

  -- an event that leaves it as it was, unless the client is down behind it
  kept_is : (v : World) → Kept v → is_resolving v c t ≡ (not (down c t v) && is_resolving w c t)
  kept_is v k = go (down c t v) refl
    where
      go : (b : Bool) → down c t v ≡ b → is_resolving v c t ≡ (not b && is_resolving w c t)
      go true e = k.closed e
      go false e = k.same e

  -- a new client has none
  joined_is : (d : ℕ) (gate : Option ℕ) (tables : List ℕ) (luck : Luck) (o : Option Client) → client_at w d ≡ o
      → is_resolving (joined w d tables luck o) c t ≡ (not (down c t (joined w d tables luck o)) && is_resolving w c t)
  joined_is d gate tables luck (Some node) at = kept_is w kept
  joined_is d gate tables luck None at = ⊎_elim here apart (look_cases w.clients d node c)
    where
      node : Client
      node = new_client (open_all w [] tables) (first_agenda luck)

      v : World
      v = joined w d tables luck None

      no_more : (b x : Bool) → x ≡ false → x ≡ (not b && x)
      no_more b true none = absurd (true≢false none)
      no_more true false none = refl
      no_more false false none = refl

      here : (c ≡ d) × (client_at v c ≡ Some node) → is_resolving w c t ≡ (not (down c t v) && is_resolving w c t)
      here e = no_more (down c t v) (is_resolving w c t) (is (ap is_away (subst (λ (q : ℕ). client_at w q ≡ None) (sym e.0) at)))

      apart : (c ≢ d) × (client_at v c ≡ client_at w c) → is_resolving w c t ≡ (not (down c t v) && is_resolving w c t)
      apart e = subst (λ (b : Bool). is_resolving w c t ≡ (not b && is_resolving w c t)) (sym (ap is_away e.1)) (kept_is w kept)

  -- a client that is down and is started has none
  started_is : (shape : Shape) (lucks : List Luck) (node : Node) → StepIs (events.Start node) (started w shape lucks node)
  started_is shape lucks (nodes.Gate gate) = kept_is w kept
  started_is shape lucks (nodes.Store number) = go (has_store w number && is_down w (nodes.Store number))
    where
      go : (b : Bool) → StepIs (events.Start (nodes.Store number)) (if b then answering facts.Done (store_starts number lucks w) else answered w facts.Done)
      go true = kept_is (store_starts number lucks w).world (same_keeps c t w (store_starts number lucks w).world is (store_starts_same number lucks w))
      go false = kept_is w kept
  started_is shape lucks (nodes.Client d) = go (is_down w (nodes.Client d)) refl
    where
      v : World
      v = (move_client d client.Start shape w).world

      none_left : (x : World) → Keeps c t v x → is_resolving v c t ≡ false → is_resolving x c t ≡ false
      none_left x k none = by_down (down c t x) refl
        where
          by_down : (b : Bool) → down c t x ≡ b → is_resolving x c t ≡ false
          by_down true e = k.closed e
          by_down false e = k.same e ∙ none

      -- this client, which was down
      here : c ≡ d → is_down w (nodes.Client d) ≡ true → (lucks : List Luck)
          → is_resolving (client_follows d lucks v).world c t ≡ (not (down c t (client_follows d lucks v).world) && is_resolving w c t)
      here same was lucks =
          let away : down c t w ≡ true = was_away (client_at w c) (subst (λ (q : ℕ). is_client_down (client_at w q) ≡ true) (sym same) was) in
          let none : is_resolving v c t ≡ false = start_opens_none c t w d shape (is away) in
          let k : Keeps c t v (client_follows d lucks v).world = client_follows_keeps c t d lucks v (λ e. none) in
          none_left (client_follows d lucks v).world k none
          ∙ (sym (and_none (not (down c t (client_follows d lucks v).world))) ∙ ap (λ (x : Bool). not (down c t (client_follows d lucks v).world) && x) (sym (is away)))
        where
          was_away : (o : Option Client) → is_client_down o ≡ true → is_away o ≡ true
          was_away None e = refl
          was_away (Some node) e = e

          and_none : (b : Bool) → (b && false) ≡ false
          and_none true = refl
          and_none false = refl

      apart : c ≢ d → (lucks : List Luck)
          → is_resolving (client_follows d lucks v).world c t ≡ (not (down c t (client_follows d lucks v).world) && is_resolving w c t)
      apart other lucks =
          let first : Kept v = start_keeps c t w d shape other is in
          kept_is (client_follows d lucks v).world (keeps_then c t w v (client_follows d lucks v).world first (client_follows_keeps c t d lucks v first.closed))

      by_luck : is_down w (nodes.Client d) ≡ true → (luck : Luck) (more : List Luck)
          → is_resolving (starts_by d shape luck more w).world c t ≡ (not (down c t (starts_by d shape luck more w).world) && is_resolving w c t)
      by_luck was messages.Done more = ⊎_elim (λ same. here same was more) (λ other. apart other more) (one_or_other c d)
      by_luck was messages.FailedBefore more = kept_is w kept
      by_luck was messages.FailedAfter more = kept_is w kept

      go : (b : Bool) → is_down w (nodes.Client d) ≡ b → StepIs (events.Start (nodes.Client d)) (if b then answering facts.Done (client_starts d shape lucks w) else answered w facts.Done)
      go true was = by_luck was (first_luck lucks) (other_lucks lucks)
      go false was = kept_is w kept

  -- ---- a phase begins or ends

  -- an event that does what its move does where it is answered `ok`, and nothing where it is refused
  record IsPhaseMove (d : ℕ) (event : Event) (move : ClientMove) : Type 0 where
    done : (agenda : List ClientTask) → has_open c t (phases_by d move facts.Done (Some agenda) w.phases) ≡ phase_by c t event (Some facts.Done) (is_resolving w c t)
    refused : (r : Refusal) (agenda : List ClientTask) → phases_by d move (facts.Refuses r) (Some agenda) w.phases ≡ w.phases
    nothing : (r : Refusal) (before : Bool) → phase_by c t event (Some (facts.Refuses r)) before ≡ before
    apart : c ≢ d → phase_by c t event (Some facts.Done) false ≡ false

  module _ (d table : ℕ) (event : Event) (move : ClientMove) (phase : IsPhaseMove d event move) where
    -- what the event comes to, where a client's step is so
    abbrev Comes : ClientStep → World → Type 0
    Comes s v = is_resolving v c t ≡ (not (down c t v) && phase_by c t event (Some s.answer) (is_resolving w c t))

    -- one that was down
    fallen_comes : (disk : ClientDisk) → Comes (client.down disk) (moved_client w d move (client.down disk)).world
    fallen_comes disk = go (down c t v) refl (moved_down c t w d move (client.down disk))
      where
        v : World
        v = (moved_client w d move (client.down disk)).world

        go : (b : Bool) → down c t v ≡ b → ((c ≡ d) × (down c t v ≡ true)) ⊎ ((c ≢ d) × (down c t v ≡ down c t w))
            → is_resolving v c t ≡ (not b && phase_by c t event (Some (facts.Refuses facts.Down)) (is_resolving w c t))
        go b e (inl h) =
            let gone : b ≡ true = sym e ∙ h.1 in
            subst (λ (x : Bool). is_resolving v c t ≡ (not x && phase_by c t event (Some (facts.Refuses facts.Down)) (is_resolving w c t))) (sym gone)
            (open_without c t d w.phases ∙ grind (arith, nat_tests, h.0))
        go b e (inr h) =
            let same : is_resolving v c t ≡ is_resolving w c t = open_without c t d w.phases ∙ grind (arith, nat_tests, h.0) in
            same ∙ (left b (h.1 ∙ refl) e ∙ ap (λ (x : Bool). not b && x) (sym (phase.nothing facts.Down (is_resolving w c t))))
          where
            left : (b : Bool) → down c t v ≡ down c t w → down c t v ≡ b → is_resolving w c t ≡ (not b && is_resolving w c t)
            left true p q = is (sym p ∙ q)
            left false p q = refl

    -- one that was up
    up_comes : (disk : ClientDisk) (agenda : List ClientTask) (o : Option TableDisk) → Comes (client.phase_in disk agenda o) (moved_client w d move (client.phase_in disk agenda o)).world
    up_comes disk agenda None = go (down c t v) refl (moved_down c t w d move s)
      where
        s : ClientStep
        s = client.phase_in disk agenda None

        v : World
        v = (moved_client w d move s).world

        same : is_resolving v c t ≡ is_resolving w c t
        same = ap (has_open c t) (phase.refused facts.NoTable agenda)

        told : (b : Bool) → (not b && is_resolving w c t) ≡ (not b && phase_by c t event (Some (facts.Refuses facts.NoTable)) (is_resolving w c t))
        told b = ap (λ (x : Bool). not b && x) (sym (phase.nothing facts.NoTable (is_resolving w c t)))

        go : (b : Bool) → down c t v ≡ b → ((c ≡ d) × (down c t v ≡ false)) ⊎ ((c ≢ d) × (down c t v ≡ down c t w))
            → is_resolving v c t ≡ (not b && phase_by c t event (Some (facts.Refuses facts.NoTable)) (is_resolving w c t))
        go true e (inl h) = absurd (true≢false (sym e ∙ h.1))
        go true e (inr h) = same ∙ is (sym h.1 ∙ e)
        go false e h = same ∙ told false
    up_comes disk agenda (Some opened) = go (down c t v) refl (moved_down c t w d move s)
      where
        s : ClientStep
        s = client.phase_in disk agenda (Some opened)

        v : World
        v = (moved_client w d move s).world

        go : (b : Bool) → down c t v ≡ b → ((c ≡ d) × (down c t v ≡ false)) ⊎ ((c ≢ d) × (down c t v ≡ down c t w))
            → is_resolving v c t ≡ (not b && phase_by c t event (Some facts.Done) (is_resolving w c t))
        go true e (inl h) = absurd (true≢false (sym e ∙ h.1))
        go true e (inr h) = phase.done agenda ∙ (ap (λ (x : Bool). phase_by c t event (Some facts.Done) x) (is (sym h.1 ∙ e)) ∙ phase.apart h.0)
        go false e h = phase.done agenda

    -- no work follows
    client_there : (s : ClientStep) → client_at (moved_client w d move s).world d ≡ Some s.client
    client_there s = ⊎_elim (λ e. e.1) (λ e. absurd (e.0 refl)) (look_cases w.clients d s.client d)

    none_follows : (v : World) (disk : ClientDisk) (agenda : List ClientTask) → client_at v d ≡ Some (record { disk = disk; agenda = Some agenda }) → gets_tasks (Some agenda) v d ≡ false
    none_follows v disk [] at = rw at refl
    none_follows v disk (task ∷ more) at = refl

    does : (disk : ClientDisk) (o : Option (List ClientTask)) (lucks : List Luck)
        → StepIs event (answering (client.phase_step disk o table).answer (and_then (moved_client w d move (client.phase_step disk o table)) (client_follows_from o d lucks)))
    does disk None lucks = fallen_comes disk
    does disk (Some agenda) lucks = go (table_at (seen disk) table)
      where
        go : (o : Option TableDisk)
            → StepIs event (answering (client.phase_in disk agenda o).answer (and_then (moved_client w d move (client.phase_in disk agenda o)) (client_follows_from (Some agenda) d lucks)))
        go o = by_table o (none_follows (moved_client w d move (client.phase_in disk agenda o)).world disk agenda (there o))
          where
            there : (o : Option TableDisk) → client_at (moved_client w d move (client.phase_in disk agenda o)).world d ≡ Some (record { disk = disk; agenda = Some agenda })
            there None = client_there (client.phase_in disk agenda None)
            there (Some opened) = client_there (client.phase_in disk agenda (Some opened))

            follows : (o : Option TableDisk) → Bool → WorldStep
            follows o b =
                answering (client.phase_in disk agenda o).answer
                (and_then (moved_client w d move (client.phase_in disk agenda o)) (λ v. if b then client_follows d lucks v else still v))

            by_table : (o : Option TableDisk) → gets_tasks (Some agenda) (moved_client w d move (client.phase_in disk agenda o)).world d ≡ false
                → StepIs event (follows o (gets_tasks (Some agenda) (moved_client w d move (client.phase_in disk agenda o)).world d))
            by_table None e = subst (λ (b : Bool). StepIs event (follows None b)) (sym e) (up_comes disk agenda None)
            by_table (Some opened) e = subst (λ (b : Bool). StepIs event (follows (Some opened) b)) (sym e) (up_comes disk agenda (Some opened))

  begin_is : (d table : ℕ) (shape : Shape) (lucks : List Luck) → StepIs (events.BeginCr d table) (call w d (client.BeginCr table) shape lucks)
  begin_is d table shape lucks =
      call_is (λ (x : WorldStep). StepIs (events.BeginCr d table) x) w d (client.BeginCr table) shape lucks (λ r before. kept_is w kept) (kept_is _ (fallen_kept d)) (λ take. absurd take)
      (λ node at. subst (λ (o : Option Client). StepIs (events.BeginCr d table)
      (answering (client_step d shape node (client.BeginCr table)).answer (and_then (move_there w d (client.BeginCr table) shape o) (client_follows_from node.agenda d (other_lucks lucks))))) (sym at)
      (does d table (events.BeginCr d table) (client.BeginCr table) phase node.disk node.agenda (other_lucks lucks))) (client_at w d) refl
    where
      phase : IsPhaseMove d (events.BeginCr d table) (client.BeginCr table)
      phase = record { done = λ agenda. refl; refused = λ r agenda. refl; nothing = λ r before. refl; apart = λ other. grind (arith, nat_tests, other) }

  end_is : (d table : ℕ) (shape : Shape) (lucks : List Luck) → StepIs (events.EndCr d table) (call w d (client.EndCr table) shape lucks)
  end_is d table shape lucks =
      call_is (λ (x : WorldStep). StepIs (events.EndCr d table) x) w d (client.EndCr table) shape lucks (λ r before. kept_is w kept) (kept_is _ (fallen_kept d)) (λ take. absurd take)
      (λ node at. subst (λ (o : Option Client). StepIs (events.EndCr d table)
      (answering (client_step d shape node (client.EndCr table)).answer (and_then (move_there w d (client.EndCr table) shape o) (client_follows_from node.agenda d (other_lucks lucks))))) (sym at)
      (does d table (events.EndCr d table) (client.EndCr table) phase node.disk node.agenda (other_lucks lucks))) (client_at w d) refl
    where
      phase : IsPhaseMove d (events.EndCr d table) (client.EndCr table)
      phase = record { done = λ agenda. open_ended c t d table w.phases; refused = λ r agenda. refl; nothing = λ r before. refl; apart = λ other. grind (arith, nat_tests, other) }

  -- ---- every event

  pub step_is : (event : Event) (lucks : Lucks) → StepIs event (step w event lucks)
  step_is (events.Store number) lucks = kept_is (with_store number w) (same_keeps c t w (with_store number w) is (refl, refl))
  step_is (events.Gate number) lucks = kept_is w (same_keeps c t w w is (refl, refl))
  step_is (events.Table table schema) lucks = kept_is _ (declared_kept table schema states.Live (first_luck lucks.calls) (hosted_at w table))
  step_is (events.Draft table schema) lucks = kept_is _ (declared_kept table schema states.Draft (first_luck lucks.calls) (hosted_at w table))
  step_is (events.Client d gate tables) lucks = joined_is d gate tables (first_luck lucks.calls) (client_at w d) refl
  step_is (events.Write d table row x) lucks = kept_is _ (call_kept d (client.Write table row x) lucks.shape lucks.calls tt (client_at w d) refl)
  step_is (events.Edit d table row x) lucks = kept_is _ (call_kept d (client.Change table row x) lucks.shape lucks.calls tt (client_at w d) refl)
  step_is (events.Link d up) lucks = kept_is _ (linked_kept d up (client_at w d))
  step_is (events.Create node table) lucks = kept_is _ (created_kept table lucks.shape lucks.calls node)
  step_is (events.Drop node table) lucks = kept_is _ (dropped_kept table lucks.shape lucks.calls node)
  step_is (events.Save number table d terms) lucks = kept_is _ (puts_kept number table (store.PutSub d terms) lucks.calls)
  step_is (events.Ask d table) lucks = kept_is _ (call_kept d (client.Next table [] []) lucks.shape lucks.calls tt (client_at w d) refl)
  step_is (events.Net it) lucks = kept_is _ kept
  step_is (events.Show d table row) lucks = kept_is _ (call_kept d (client.Show table row) lucks.shape lucks.calls tt (client_at w d) refl)
  step_is (events.Sum d table row) lucks = kept_is _ (call_kept d (client.Sum table row) lucks.shape lucks.calls tt (client_at w d) refl)
  step_is (events.Sync d table) lucks = kept_is _ (call_kept d (client.Sync table) lucks.shape lucks.calls tt (client_at w d) refl)
  step_is (events.Pull d table) lucks = kept_is _ (call_kept d (client.Next table lucks.tears lucks.asks) lucks.shape lucks.calls tt (client_at w d) refl)
  step_is (events.BeginCr d table) lucks = begin_is d table lucks.shape lucks.calls
  step_is (events.Conflicts d table) lucks =
      kept_is _ (listed_kept (call w d (client.Conflicts table) lucks.shape lucks.calls) (call_kept d (client.Conflicts table) lucks.shape lucks.calls tt (client_at w d) refl))
  step_is (events.EndCr d table) lucks = end_is d table lucks.shape lucks.calls
  step_is (events.Resolve d table row version choice) lucks = kept_is _ (call_kept d (client.Resolve table row version choice) lucks.shape lucks.calls tt (client_at w d) refl)
  step_is (events.ResolveAll d table by) lucks =
      kept_is _ (all_kept d table by lucks.shapes (other_lucks lucks.calls) (call w d (client.ResolveAll table by) lucks.shape lucks.calls)
      (call_kept d (client.ResolveAll table by) lucks.shape lucks.calls tt (client_at w d) refl))
  step_is (events.Deliver packet) lucks = kept_is _ (delivered_kept lucks.shape lucks.calls (slice_get w.packets packet))
  step_is (events.StoreShow table row) lucks = kept_is _ (shows_kept table row lucks.calls (hosted_at w table))
  step_is (events.History table) lucks = kept_is _ (history_kept table (hosted_at w table))
  step_is (events.Chunks table) lucks = kept_is _ (chunks_kept table (hosted_at w table))
  step_is (events.Hold node) lucks = kept_is _ (down_kept node _ (same_keeps c t w (record w { holds = node ∷ w.holds }) is (refl, refl)))
  step_is (events.Free node) lucks = kept_is _ (down_kept node _ (same_keeps c t w (record w { holds = without_node w.holds node }) is (refl, refl)))
  step_is (events.Work node) lucks = kept_is _ (down_kept node _ (worked_kept lucks.calls node))
  step_is (events.WorkAll node) lucks = kept_is _ (down_kept node _ (all_worked_kept lucks.calls node))
  step_is (events.Crash node calls pick) lucks = kept_is _ (down_kept node _ (crashed_kept calls lucks.calls node))
  step_is (events.Start node) lucks = started_is lucks.shape lucks.calls node

-- ---- behind it a client that is away has no phase

-- an event that makes of the phase what its answer says leaves none to a client that is away
closed_by : (c t : ℕ) (v : World) (before : Bool) → is_resolving v c t ≡ (not (down c t v) && before) → IsClosed c t v
closed_by c t v before e away = e ∙ ap (λ (b : Bool). not b && before) away

pub step_closed : (c t : ℕ) (w : World) → IsClosed c t w → (event : Event) (lucks : Lucks) → IsClosed c t (step w event lucks).world
step_closed c t w is event lucks =
    closed_by c t (step w event lucks).world (phase_by c t event (step w event lucks).answer (is_resolving w c t)) (step_is c t w is event lucks)
