-- A client that crashes, starts, or joins.
use Rattle.std.proofs.Common.{◌≡◌, ◌⊎◌, ⊎_elim, ℕ, zero, suc, ◌<◌, ◌≤◌, ◌++◌, length, drop, Bool, true, false, cond, List, [], ◌∷◌, Option, Some, None, Result, Ok, Err, refl, sym, ap, ◌∙◌, subst, arith, append-nil}
use Rattle.std.specs.Prelude.{◌≢◌, IfOk, OnErr, slice_index_or, if◌then◌else◌}
use Rattle.std.specs.List.{AllByRecursion}
use Rattle.std.specs.Ordering.{nat_cmp}
use Rattle.std.specs.BTreeMap.{is_at}
use Rattle.std.specs.BTreeMap as tree
use Rattle.std.specs.Cmp.{unsigned_tied}
use Rattle.std.proofs.lemmas.Bool.{eq-eqb}
use Rattle.disk_trait.specs.Calls.{DiskState}
use Rattle.row_value.specs.declared.schema.Schema.{Schema}
use Rattle.table_model.specs.declared.line.Answer.{Answer}
use Rattle.table_model.specs.declared.line.Answer.TheVariants as answers
use Rattle.step_tables.specs.Facts as facts
use Rattle.step_tables.specs.Lines.{answer_of}
use Rattle.step_tables.specs.Messages.{Luck}
use Rattle.step_tables.specs.Messages as messages
use Rattle.step_tables.specs.ClientMoves.{TableDisk, ClientDisk, ClientTask, Client, Shape, Crash, Start, client_step, no_shape}
use Rattle.client_node.specs.declared.node.ClientNode.{ClientNode}
use Rattle.client_node.specs.Node.{IsToOpen, IsClient, to_open, opened_all, told_by, sent_by}
use Rattle.client_node.specs.Phases.{is_open, KeepsPhases}
use Rattle.client_node.specs.Calls.{Stays as NodeStays}
use Rattle.world_tables.specs.World.{World, Moved, owner_of, client_at, schema_at, is_cut, is_client_down, move_there, client_crashes, luck_of, crash_luck, first_luck, other_lucks, answering, answered, joined, open_all, with_opened, new_client, first_agenda}
use Rattle.journal_host.specs.declared.fault.ClientFault.{ClientFault}
use Rattle.journal_host.specs.declared.host.ClientHost.{ClientHost}
use Rattle.journal_host.specs.Holds.{IsHosted, HoldsClients, HasSchemas, AreToOpen, outs_of, AreSameOuts, node_faults, faults_in, faults_at}
use Rattle.journal_host.specs.Steps.{HasTold, HasCrashed, IsStarted, IsNotStarted}
use Rattle.journal_host.specs.Calls.{IsMoved, IsCalled, Stays, HasLuck}
use Rattle.journal_host.specs.Moves.{start_alone, starts_alone}
use Rattle.journal_host.specs.Opening.{put_before, declared_among, HasJoinLuck}
use Rattle.journal_host.proofs.Lists.{no_more}
use Rattle.journal_host.proofs.Clients.{at_same, busy_is, found, not_found, luck_there, move_done, held_still, moved_clients, nowhere_held, nowhere_answers}
use Rattle.journal_host.proofs.Phased.{keeps_moves, keeps_stays, put_phases, none_resolves}

some_client : (a b : Client) → Some a ≡ Some b → a ≡ b
some_client a b e = cc

-- ---- a crash

module _ {D : Type 0} (state : D → DiskState) (w : World) (old new : ClientHost D) (c calls : ℕ) (h : HoldsClients state w old) where
  pub crash_moved : (node after : ClientNode D) (is : Some node ≡ tree.get nat_cmp old.clients c)
      → ((q : ℕ) → tree.get nat_cmp new.clients q ≡ cond (is_at (nat_cmp c) q) (Some after) (tree.get nat_cmp old.clients q)) → new.outs.items ≡ old.outs.items → KeepsPhases node after
      → ((cut : Bool) (n : ℕ) (s : Client) → IsHosted state cut n s node → HasCrashed state cut n calls s node after)
      → (lucks : List Luck) × IsMoved state old new (client_crashes c calls lucks w) × HasLuck state w c old.clients new.clients lucks
  crash_moved node after is u same keeps k =
      let f = found state w old.clients c h.there node is in
      let t = k (is_cut w c) c f.0 f.2 in
      let luck = crash_luck calls (other_lucks t.lucks) (first_luck t.lucks) in (
        t.lucks,
        move_done state w old new c node after h is u f.0 f.1 (Crash luck) no_shape (silent f.0 luck t.told) (keeps_moves node after (Crash luck) (client_step c no_shape f.0 (Crash luck)).answer (λ phase table. refl) keeps),
        luck_there state old.clients new.clients c node after is u w t.lucks t.done t.counted t.later (λ none. t.idle (busy_is w c f.0 f.1 ∙ none)),
      )
    where
      silent : (s : Client) (luck : Luck) → HasTold state (is_cut w c) c (client_step c no_shape s (Crash luck)) after [] []
          → HasTold state (is_cut w c) c (client_step c no_shape s (Crash luck)) after old.outs.items new.outs.items
      silent s luck t = record { behind = t.behind; outs = λ owners. no_more owners old.outs.items new.outs.items same ∙ ap (λ l. outs_of owners old ++ l) (t.outs owners) }

  pub crash_none : None ≡ tree.get nat_cmp old.clients c → new.clients ≡ old.clients → new.outs.items ≡ old.outs.items
      → (lucks : List Luck) × IsMoved state old new (client_crashes c calls lucks w) × HasLuck state w c old.clients new.clients lucks
  crash_none none same outs =
      let gone = ap (λ (o : Option Client). move_there w c (Crash (luck_of calls messages.Done)) no_shape o) (not_found state w old.clients c h.there none).0 in (
        [],
        subst (λ (m : Moved). IsMoved state old new m) (sym gone)
            (record { held = nowhere_held state w old new c h none same outs; outs = no_more (owner_of w) old.outs.items new.outs.items outs }),
        record { done = λ as_before. refl; counted = λ is q. ap (λ m. faults_at state m q) same; cause = λ isnt. absurd (isnt refl); idle = λ none q. ap (λ m. faults_at state m q) same },
      )

-- ---- a start

module _ {D : Type 0} (state : D → DiskState) (w : World) (old new : ClientHost D) (c : ℕ) (h : HoldsClients state w old) where
  module _ (node after : ClientNode D) (is : Some node ≡ tree.get nat_cmp old.clients c)
      (u : (q : ℕ) → tree.get nat_cmp new.clients q ≡ cond (is_at (nat_cmp c) q) (Some after) (tree.get nat_cmp old.clients q)) (keeps : KeepsPhases node after) where
    -- the client stays
    stays_held : (s : Client) → client_at w c ≡ Some s → IsHosted state (is_cut w c) c s after → HoldsClients state w new
    stays_held s at t =
        let f = found state w old.clients c h.there node is in
        let same : f.0 ≡ s = some_client f.0 s (sym f.1 ∙ at) in
        held_still state w old new c node after h is u s at t
        (keeps_stays state node after s.disk s.agenda (subst (λ (x : Client). IsClient state node x) same f.2.client) t.client keeps)

    abbrev Starts : Answer → Type 0
    Starts answer = (shape : Shape) × (lucks : List Luck) × IsCalled state old new (start_alone w c shape lucks) answer

    is_started : (d : ClientDisk) (agenda : Option (List ClientTask)) → client_at w c ≡ Some (record { disk = d; agenda = agenda }) → (answer : Answer)
        → IsStarted state (is_cut w c) c (record { disk = d; agenda = agenda }) after old.outs.items new.outs.items answer → Starts answer
    is_started d None at answer k =
        let it : Client = record { disk = d; agenda = None } in
        let m = move_done state w old new c node after h is u it at Start k.shape k.told (keeps_moves node after Start (client_step c k.shape it Start).answer (λ phase table. refl) keeps) in
        let well = ap (λ (o : Option Client). (move_there w c Start k.shape o).failed) at in (
          k.shape,
          [],
          subst (λ (b : Bool). IsCalled state old new (if b then answering facts.Done (starts_alone c k.shape messages.Done w) else answered w facts.Done) answer) (sym (ap is_client_down at))
              (record {
                answer_is = ap (λ (b : Bool). Some (if b then facts.Refuses facts.NoDevice else facts.Done)) well
                    ∙ ap (λ (a : Answer). Some (answer_of a)) (sym k.answer_is);
                held = m.held;
                outs = m.outs;
              }),
        )
    is_started d (Some tasks) at answer k = (
      no_shape,
      [],
      subst (λ (b : Bool). IsCalled state old new (if b then answering facts.Done (starts_alone c no_shape messages.Done w) else answered w facts.Done) answer) (sym (ap is_client_down at))
          (record { answer_is = ap (λ (a : Answer). Some (answer_of a)) (sym k.answer_is); held = stays_held (record { disk = d; agenda = Some tasks }) at k.told.behind; outs = k.told.outs (owner_of w) }),
    )

    not_started : (d : ClientDisk) (agenda : Option (List ClientTask)) → client_at w c ≡ Some (record { disk = d; agenda = agenda }) → (answer : Answer)
        → IsNotStarted state (is_cut w c) c (record { disk = d; agenda = agenda }) after old.outs.items new.outs.items answer → Starts answer
    not_started d (Some tasks) at answer k = let bad = k.down in absurd cc
    not_started d None at answer k = (
      no_shape,
      messages.FailedBefore ∷ [],
      subst (λ (b : Bool). IsCalled state old new (if b then answering facts.Done (starts_alone c no_shape messages.FailedBefore w) else answered w facts.Done) answer) (sym (ap is_client_down at))
          (record {
            answer_is = ap (λ (a : Answer). Some (answer_of a)) (sym k.answer_is);
            held = stays_held (record { disk = d; agenda = None }) at k.held;
            outs = k.outs (owner_of w) ∙ sym (append-nil (outs_of (owner_of w) old));
          }),
    )

    pub start_called : (r : Result Answer ClientFault)
        → ((cut : Bool) (s : Client) → IsHosted state cut c s node
        → IfOk r (λ answer. IsStarted state cut c s after old.outs.items new.outs.items answer ⊎ IsNotStarted state cut c s after old.outs.items new.outs.items answer))
        → IfOk r Starts
    start_called r k = let f = found state w old.clients c h.there node is in by f.0 f.1 r (k (is_cut w c) f.0 f.2)
      where
        by : (s : Client) → client_at w c ≡ Some s → (r : Result Answer ClientFault)
            → IfOk r (λ answer. IsStarted state (is_cut w c) c s after old.outs.items new.outs.items answer ⊎ IsNotStarted state (is_cut w c) c s after old.outs.items new.outs.items answer)
            → IfOk r Starts
        by s at (Err e) x = tt
        by s at (Ok answer) x = ⊎_elim (λ y. is_started s.disk s.agenda at answer y) (λ y. not_started s.disk s.agenda at answer y) x

    pub start_stays : (r : Result Answer ClientFault)
        → ((cut : Bool) (s : Client) → IsHosted state cut c s node → OnErr r (IsHosted state cut c s after × AreSameOuts old.outs.items new.outs.items)) → OnErr r (Stays state w old new)
    start_stays r k = let f = found state w old.clients c h.there node is in by f.0 f.1 r (k (is_cut w c) f.0 f.2)
      where
        by : (s : Client) → client_at w c ≡ Some s → (r : Result Answer ClientFault) → OnErr r (IsHosted state (is_cut w c) c s after × AreSameOuts old.outs.items new.outs.items)
            → OnErr r (Stays state w old new)
        by s at (Ok answer) x = tt
        by s at (Err e) x = record { held = stays_held s at x.0; outs = x.1 }

  pub start_none : None ≡ tree.get nat_cmp old.clients c → new.clients ≡ old.clients → new.outs.items ≡ old.outs.items → (shape : Shape) × (lucks : List Luck)
      × IsCalled state old new (start_alone w c shape lucks) answers.Done
  start_none none same outs = (
    no_shape,
    [],
    subst (λ (b : Bool). IsCalled state old new (if b then answering facts.Done (starts_alone c no_shape messages.Done w) else answered w facts.Done) answers.Done)
        (sym (ap is_client_down (not_found state w old.clients c h.there none).0)) (nowhere_answers state w old new c h none same outs facts.Done answers.Done refl),
  )

-- ---- the tables that a client opens

pub all_to_open : (schemas : tree.BTreeMap ℕ Schema) → AreToOpen schemas → (tables : List ℕ) → AllByRecursion IsToOpen (declared_among schemas tables)
all_to_open schemas all [] = tt
all_to_open schemas all (table ∷ tables) = by (tree.get nat_cmp schemas table) refl (all_to_open schemas all tables)
  where
    by : (o : Option Schema) → tree.get nat_cmp schemas table ≡ o → AllByRecursion IsToOpen (declared_among schemas tables)
        → AllByRecursion IsToOpen (put_before table o (declared_among schemas tables))
    by None is rest = rest
    by (Some schema) is rest = (all table schema is, rest)

pub opens_all : (w : World) (schemas : tree.BTreeMap ℕ Schema) → HasSchemas w schemas → (tables : List ℕ) (some : List (ℕ × TableDisk)) → opened_all some (declared_among schemas tables)
    ≡ open_all w some tables
opens_all w schemas has [] some = refl
opens_all w schemas has (table ∷ tables) some = by (tree.get nat_cmp schemas table) refl (opens_all w schemas has tables)
  where
    by : (o : Option Schema) → tree.get nat_cmp schemas table ≡ o → ((some : List (ℕ × TableDisk)) → opened_all some (declared_among schemas tables) ≡ open_all w some tables)
        → opened_all some (put_before table o (declared_among schemas tables)) ≡ open_all w (with_opened some table (schema_at w table)) tables
    by None is rest = rest some ∙ ap (λ (x : Option Schema). open_all w (with_opened some table x) tables) (sym is ∙ has.there table)
    by (Some schema) is rest = rest (with_opened some table (Some schema)) ∙ ap (λ (x : Option Schema). open_all w (with_opened some table x) tables) (sym is ∙ has.there table)

pub drop_next : (schemas : tree.BTreeMap ℕ Schema) (tables : List ℕ) (i : ℕ) → i < length tables
    → declared_among schemas (drop i tables) ≡ put_before (slice_index_or tables i 0) (tree.get nat_cmp schemas (slice_index_or tables i 0)) (declared_among schemas (drop (suc i) tables))
drop_next schemas [] i below = absurd (omega (arith, below))
drop_next schemas (t ∷ ts) zero below = refl
drop_next schemas (t ∷ ts) (suc i) below = drop_next schemas ts i (omega (arith, below))

pub drop_done : (schemas : tree.BTreeMap ℕ Schema) (tables : List ℕ) (i : ℕ) → length tables ≤ i → declared_among schemas (drop i tables) ≡ []
drop_done schemas [] zero past = refl
drop_done schemas [] (suc i) past = refl
drop_done schemas (t ∷ ts) zero past = absurd (omega (arith, past))
drop_done schemas (t ∷ ts) (suc i) past = drop_done schemas ts i (omega (arith, past))

-- ---- a client that joins

module _ {D : Type 0} (state : D → DiskState) (c : ℕ) (found : List (ℕ × Schema)) (tables : List (ℕ × TableDisk)) (same : opened_all [] found ≡ tables) (fresh : ClientNode D)
    (number : fresh.number ≡ c) (linked : fresh.is_linked ≡ true) (told : told_by fresh ≡ []) (sent : sent_by fresh ≡ []) where
  pub joins : (node : ClientNode D) (agenda : Option (List ClientTask)) → NodeStays state fresh node (record { disk = to_open found; agenda = agenda })
      → IsHosted state false c (new_client tables agenda) node
  joins node agenda k = record {
    client = subst (λ (ts : List (ℕ × TableDisk)). IsClient state node (new_client ts agenda)) same k.client;
    number = k.same.number ∙ number;
    linked = k.same.linked ∙ linked;
    told = k.told ∙ told;
    sent = k.sent ∙ sent;
  }

module _ {D : Type 0} (state : D → DiskState) (w : World) (old new : ClientHost D) (c : ℕ) (tables : List ℕ) (node : ClientNode D)
    (u : (q : ℕ) → tree.get nat_cmp new.clients q ≡ cond (is_at (nat_cmp c) q) (Some node) (tree.get nat_cmp old.clients q)) where
  count_there : node_faults state node ≡ faults_at state new.clients c
  count_there = sym (ap (λ (o : Option (ClientNode D)). faults_in state o) (u c)
      ∙ ap (λ (b : Bool). faults_in state (cond b (Some node) (tree.get nat_cmp old.clients c))) (unsigned_tied c c ∙ eq-eqb c c refl))

  pub was_joined : (disks : D × D × D) → HoldsClients state w old → tree.get nat_cmp old.clients c ≡ None → ((table : ℕ) → is_open node table ≡ false)
      → (luck : Luck) × IsHosted state false c (new_client (open_all w [] tables) (first_agenda luck)) node × HasJoinLuck state disks luck (node_faults state node)
      → (luck : Luck) × HoldsClients state (joined w c tables luck (client_at w c)) new × HasJoinLuck state disks luck (faults_at state new.clients c)
  was_joined disks h absent closed k =
      let gone = not_found state w old.clients c h.there (sym absent) in
      let held = moved_clients state w old.clients new.clients c node h.there u (new_client (open_all w [] tables) (first_agenda k.0)) w.packets
      (subst (λ (cut : Bool). IsHosted state cut c (new_client (open_all w [] tables) (first_agenda k.0)) node) (sym gone.1) k.1) in (
        k.0,
        subst (λ (o : Option Client). HoldsClients state (joined w c tables k.0 o) new) (sym gone.0)
            (record { there = held; phases = put_phases w old.clients new.clients c node h.phases u w (λ q off table. refl) (λ table. closed table ∙ sym (none_resolves w old.clients c h.phases (sym absent) table)) }),
        subst (λ (count : ℕ). HasJoinLuck state disks k.0 count) count_there k.2,
      )

pub others_same : {D : Type 0} (state : D → DiskState) (old new : tree.BTreeMap ℕ (ClientNode D)) (c : ℕ) (after : ClientNode D)
    → ((q : ℕ) → tree.get nat_cmp new q ≡ cond (is_at (nat_cmp c) q) (Some after) (tree.get nat_cmp old q)) → (q : ℕ) → q ≢ c → faults_at state new q ≡ faults_at state old q
others_same state old new c after u q off = ap (λ o. faults_in state o) (u q) ∙ apart (is_at (nat_cmp c) q) refl
  where
    apart : (b : Bool) → is_at (nat_cmp c) q ≡ b → faults_in state (cond b (Some after) (tree.get nat_cmp old q)) ≡ faults_at state old q
    apart true same = absurd (off (sym (at_same c q same)))
    apart false same = refl
