-- A Store more, a table more, and a client more.
use Rattle.std.proofs.Common.{◌≡◌, ⊎_elim, ℕ, ◌+◌, ◌-◌, ◌*◌, ◌<◌, ◌≤◌, Bool, true, false, cond, List, [], ◌∷◌, ◌++◌, length, Option, Some, None, Ok, refl, sym, ◌∙◌, ap, subst, arith, length-append}
use Rattle.std.specs.Prelude.{◌≢◌, is_some, ◌==◌, ◌||◌}
use Rattle.std.specs.Ordering.{nat_cmp}
use Rattle.std.specs.Cmp.{nat_cmp_total}
use Rattle.std.specs.BTreeMap.{is_at}
use Rattle.std.specs.BTreeMap as tree
use Rattle.std.proofs.lemmas.Bool.Decides.{nat_tests, eqb_tells}
use Rattle.disk_trait.specs.Calls.{DiskState}
use Rattle.row_value.specs.declared.schema.Schema.{Schema}
use Rattle.value_codec.specs.SchemaSpelling.{schema_spelling}
use Rattle.vault.specs.Limit.{payload_most}
use Rattle.row_store.specs.Spelling.{IsClient}
use Rattle.table_model.specs.declared.event.Event.{Event}
use Rattle.table_model.specs.declared.event.Event.TheVariants as events
use Rattle.table_model.specs.declared.table_state.TableState.{TableState}
use Rattle.row_store.specs.Spelling.{table_payload}
use Rattle.step_tables.specs.ClientMoves.{Client}
use Rattle.step_tables.specs.Messages.{Luck}
use Rattle.step_tables.specs.Messages as messages
use Rattle.step_tables.proofs.Lists.{lookup-insert}
use Rattle.store_host.specs.declared.host.StoreHost.{StoreHost}
use Rattle.store_host.specs.Holds.{HoldsStore}
use Rattle.store_host.specs.Holds as stores
use Rattle.store_host.specs.Steps.{faults_of}
use Rattle.store_host.proofs.Maps.{not_found}
use Rattle.world_tables.specs.World.{Lucks, WorldStep, no_lucks, first_luck, Hosted, schema_at, hosted_at, client_at, owner_of, with_store, with_table, made_with, new_hosted, declared, joined, step}
use Rattle.world_tables.specs.World as moves
use Rattle.world_tables.specs.Faults.{is_failure, fails_new, fails_joined}
use Rattle.client_node.specs.declared.node.ClientNode.{ClientNode}
use Rattle.client_node.specs.Node.{IsToOpen}
use Rattle.journal_host.specs.declared.host.ClientHost.{ClientHost}
use Rattle.journal_host.specs.Holds.{HoldsClients, HasSchemas, AreToOpen, node_faults}
use Rattle.journal_host.specs.Holds as clients
use Rattle.journal_host.specs.Opening.{HasJoinLuck}
use Rattle.journal_host.proofs.Clients.{clients_stay, not_found as no_client}
use Rattle.store_host.proofs.Maps.{at_same}
use Rattle.fair_laws.specs.Reached.{IsMade}
use Rattle.fair_laws.specs.Worlds.{IsFair}
use Rattle.node_steps.specs.declared.told.Told.{Told}
use Rattle.node_steps.specs.declared.world.World.{World}
use Rattle.node_steps.specs.Declaring.{Declares}
use Rattle.node_steps.specs.Numbers.{AreNumbered}
use Rattle.node_steps.specs.Holds.{Holds, AreOut, first_disk, first_client_disk}
use Rattle.node_steps.specs.Faults.{IsCounted, AreTotals, ComesCounted, IsUndone}
use Rattle.node_steps.specs.Calls.{with_calls}
use Rattle.node_steps.specs.Steps.{IsStep}
use Rattle.node_steps.specs.Told.{answer_lines, AreOuts, IsOnly}
use Rattle.node_steps.proofs.Rows.{Stays}
use Rattle.node_steps.proofs.Counted.{tables_counted, client_counted, tables_same, clients_still, all_same}
use Rattle.node_steps.proofs.Staying.{store_stays}
use Rattle.node_steps.proofs.Showing.{some_of}
use Rattle.node_steps.proofs.Done.{Rest, rest_of, whole, no_outs_told}

-- ---- a Store more

pub store_declared : {D : Type 0} (state : D → DiskState) (w : moves.World) (old : World D) (number : ℕ) (store : StoreHost D) (it : Told) → Holds state w old → IsOnly [] it
    → HoldsStore state (with_store number w) store → store.outs ≡ old.store.outs → stores.SameFaults state old.store.tables store.tables
    → ComesCounted state w (step w (events.Store number)) (λ lucks. false) (Ok it) old (record old { store = store })
store_declared {D} state w old number store it h only held told same = (
  no_lucks,
  record {
    lines_are = only.lines_are;
    outs_are = no_outs_told (owner_of (step w (events.Store number) no_lucks).world) it.outs only.none;
    held = record {
      schemas = h.schemas;
      store = held;
      clients = clients_stay state w (with_store number w) old.clients h.clients (record { clients = refl; cuts = refl; phases = refl });
      store_told = told ∙ h.store_told;
      clients_told = h.clients_told;
      held = h.held;
      numbered = record { both = h.numbered.both; tables = h.numbered.tables; clients = h.numbered.clients };
    };
    tables = λ table. refl;
    clients = λ c. refl;
  },
  record {
    rose = λ no. absurd cc;
    same = λ f. all_same state old (record old { store = store }) (tables_same state old (record old { store = store }) same) (clients_still state old (record old { store = store }) refl);
  },
)

-- ---- a table more

pub nothing_at : {X : Type 0} (o : Option X) → is_some o ≡ false → o ≡ None
nothing_at None e = refl
nothing_at (Some x) e = absurd cc

module _ {D : Type 0} (state : D → DiskState) (w : moves.World) (table : ℕ) (schema : Schema) (stage : TableState) (old : World D) (r : Rest state w old) (none : hosted_at w table ≡ None) (schemas : tree.BTreeMap ℕ Schema)
    (put : (q : ℕ) → tree.get nat_cmp schemas q ≡ cond (is_at (nat_cmp table) q) (Some schema) (tree.get nat_cmp old.schemas q)) (range : (1 ≤ table) × (table ≤ 64)) where
  unknown : schema_at w table ≡ None
  unknown = nothing_at (schema_at w table) (r.numbered.both table ∙ ap (λ (o : Option Hosted). is_some o) none)

  known : (made : Bool) (q : ℕ) → schema_at (with_table w table schema stage made) q ≡ cond (is_at (nat_cmp table) q) (Some schema) (schema_at w q)
  known made q = lookup-insert nat_cmp nat_cmp_total w.schemas table schema q

  there : (made : Bool) (q : ℕ) → hosted_at (with_table w table schema stage made) q ≡ cond (is_at (nat_cmp table) q) (Some (new_hosted stage made)) (hosted_at w q)
  there made q = lookup-insert nat_cmp nat_cmp_total w.tables table (new_hosted stage made) q

  numbered_with : (made : Bool) → AreNumbered (with_table w table schema stage made)
  numbered_with made = record {
    both = λ q. ap (λ (o : Option Schema). is_some o) (known made q) ∙ (go q (is_at (nat_cmp table) q) ∙ sym (ap (λ (o : Option Hosted). is_some o) (there made q)));
    tables = λ q is. near q (is_at (nat_cmp table) q) refl (sym (ap (λ (o : Option Hosted). is_some o) (there made q)) ∙ is);
    clients = r.numbered.clients;
  }
    where
      go : (q : ℕ) (b : Bool) → is_some (cond b (Some schema) (schema_at w q)) ≡ is_some (cond b (Some (new_hosted stage made)) (hosted_at w q))
      go q true = refl
      go q false = r.numbered.both q

      near : (q : ℕ) (b : Bool) → is_at (nat_cmp table) q ≡ b → is_some (cond b (Some (new_hosted stage made)) (hosted_at w q)) ≡ true → (1 ≤ q) × (q ≤ 64)
      near q true e is = subst (λ (k : ℕ). (1 ≤ k) × (k ≤ 64)) (at_same table q e) range
      near q false e is = r.numbered.tables q is

  rest_with : (made : Bool) → Rest state (with_table w table schema stage made) (record old { schemas = schemas })
  rest_with made = record {
    schemas = λ q. put q ∙ (ap (λ (o : Option Schema). cond (is_at (nat_cmp table) q) (Some schema) o) (r.schemas q) ∙ sym (known made q));
    clients = clients_stay state w (with_table w table schema stage made) old.clients r.clients (record { clients = refl; cuts = refl; phases = refl });
    clients_told = r.clients_told;
    held = r.held;
    numbered = numbered_with made;
  }

  pub made_rest : (luck : Luck) → Rest state (made_with w table schema stage luck) (record old { schemas = schemas })
  made_rest messages.Done = rest_with true
  made_rest messages.FailedBefore = rest_with false
  made_rest messages.FailedAfter = rest_with false

  with_there : (made : Bool) (q : ℕ) → is_some (hosted_at (with_table w table schema stage made) q) ≡ cond (is_at (nat_cmp table) q) true (is_some (hosted_at w q))
  with_there made q = ap (λ (o : Option Hosted). is_some o) (there made q) ∙ go (is_at (nat_cmp table) q)
    where
      go : (b : Bool) → is_some (cond b (Some (new_hosted stage made)) (hosted_at w q)) ≡ cond b true (is_some (hosted_at w q))
      go true = refl
      go false = refl

  pub made_there : (luck : Luck) (q : ℕ) → is_some (hosted_at (made_with w table schema stage luck) q) ≡ cond (is_at (nat_cmp table) q) true (is_some (hosted_at w q))
  made_there messages.Done q = with_there true q
  made_there messages.FailedBefore q = with_there false q
  made_there messages.FailedAfter q = with_there false q

  pub made_clients : (luck : Luck) (c : ℕ) → is_some (client_at (made_with w table schema stage luck) c) ≡ is_some (client_at w c)
  made_clients messages.Done c = refl
  made_clients messages.FailedBefore c = refl
  made_clients messages.FailedAfter c = refl

-- ---- its disks

at_itself : (k : ℕ) → is_at (nat_cmp k) k ≡ true
at_itself k = grind (arith, nat_tests)

-- the three of them, and those that are out
abbrev pub with_three : ℕ → (ℕ → Bool) → ℕ → Bool
with_three first is_out k = (k == first + 2) || ((k == first + 1) || ((k == first) || is_out k))

three_here : (first k : ℕ) (b : Bool) → k < 3 → ((first + k == first + 2) || ((first + k == first + 1) || ((first + k == first) || b))) ≡ true
three_here first k b small = grind (arith, nat_tests, small)

disk_away : (table t k : ℕ) (b : Bool) → 1 ≤ table → 1 ≤ t → k < 3 → is_at (nat_cmp table) t ≡ false
    → ((3 * (t - 1) + k == 3 * (table - 1) + 2) || ((3 * (t - 1) + k == 3 * (table - 1) + 1) || ((3 * (t - 1) + k == 3 * (table - 1)) || b))) ≡ b
disk_away table t k b one here small apart = grind (arith, nat_tests)

-- a table's disks are no client's
client_apart : (table c k : ℕ) (b : Bool) → table ≤ 64
    → ((192 + 3 * (c - 1) + k == 3 * (table - 1) + 2) || ((192 + 3 * (c - 1) + k == 3 * (table - 1) + 1) || ((192 + 3 * (c - 1) + k == 3 * (table - 1)) || b))) ≡ b
client_apart table c k b most = grind (arith, nat_tests, most)

table_apart : (c t k : ℕ) (b : Bool) → t ≤ 64 → k < 3
    → ((3 * (t - 1) + k == 192 + 3 * (c - 1) + 2) || ((3 * (t - 1) + k == 192 + 3 * (c - 1) + 1) || ((3 * (t - 1) + k == 192 + 3 * (c - 1)) || b))) ≡ b
table_apart c t k b most small = grind (arith, nat_tests, most, small)

client_away : (c q k : ℕ) (b : Bool) → 1 ≤ c → 1 ≤ q → k < 3 → is_at (nat_cmp c) q ≡ false
    → ((192 + 3 * (q - 1) + k == 192 + 3 * (c - 1) + 2) || ((192 + 3 * (q - 1) + k == 192 + 3 * (c - 1) + 1) || ((192 + 3 * (q - 1) + k == 192 + 3 * (c - 1)) || b))) ≡ b
client_away c q k b one here small apart = grind (arith, nat_tests)

-- the disks of one more table
pub more_out : (w after : moves.World) (table : ℕ) (is_out out : ℕ → Bool) → 1 ≤ table → table ≤ 64 → AreOut is_out w → ((k : ℕ) → out k ≡ with_three (first_disk table) is_out k)
    → ((q : ℕ) → is_some (hosted_at after q) ≡ cond (is_at (nat_cmp table) q) true (is_some (hosted_at w q)))
    → ((c : ℕ) → is_some (client_at after c) ≡ is_some (client_at w c)) → AreOut out after
more_out w after table is_out out one most old u there others = record {
  tables = λ t k here ranged small. u (first_disk t + k) ∙ (go t k here ranged small (is_at (nat_cmp table) t) refl ∙ sym (there t));
  clients = λ c k here small. u (first_client_disk c + k) ∙ (client_apart table c k (is_out (first_client_disk c + k)) most ∙ (old.clients c k here small ∙ sym (others c)));
}
  where
    go : (t k : ℕ) → 1 ≤ t → t ≤ 64 → k < 3 → (b : Bool) → is_at (nat_cmp table) t ≡ b → with_three (first_disk table) is_out (first_disk t + k) ≡ cond b true (is_some (hosted_at w t))
    go t k here ranged small true e =
        subst (λ (n : ℕ). with_three (first_disk n) is_out (first_disk t + k) ≡ true) (sym (at_same table t e)) (three_here (first_disk t) k (is_out (first_disk t + k)) small)
    go t k here ranged small false e = disk_away table t k (is_out (first_disk t + k)) one here small e ∙ old.tables t k here ranged small

-- and of one more client
pub client_out : (w after : moves.World) (c : ℕ) (is_out out : ℕ → Bool) → 1 ≤ c → AreOut is_out w → ((k : ℕ) → out k ≡ with_three (first_client_disk c) is_out k)
    → ((q : ℕ) → is_some (client_at after q) ≡ cond (is_at (nat_cmp c) q) true (is_some (client_at w q)))
    → ((t : ℕ) → is_some (hosted_at after t) ≡ is_some (hosted_at w t)) → AreOut out after
client_out w after c is_out out one old u there others = record {
  tables = λ t k here ranged small. u (first_disk t + k) ∙ (table_apart c t k (is_out (first_disk t + k)) ranged small ∙ (old.tables t k here ranged small ∙ sym (others t)));
  clients = λ q k here small. u (first_client_disk q + k) ∙ (go q k here small (is_at (nat_cmp c) q) refl ∙ sym (there q));
}
  where
    go : (q k : ℕ) → 1 ≤ q → k < 3 → (b : Bool) → is_at (nat_cmp c) q ≡ b → with_three (first_client_disk c) is_out (first_client_disk q + k) ≡ cond b true (is_some (client_at w q))
    go q k here small true e =
        subst (λ (n : ℕ). with_three (first_client_disk n) is_out (first_client_disk q + k) ≡ true) (sym (at_same c q e)) (three_here (first_client_disk q) k (is_out (first_client_disk q + k)) small)
    go q k here small false e = client_away c q k (is_out (first_client_disk q + k)) one here small e ∙ old.clients q k here small

-- where no disk was handed out
pub still_out : (w : moves.World) (is_out out : ℕ → Bool) → AreOut is_out w → ((k : ℕ) → out k ≡ is_out k) → AreOut out w
still_out w is_out out old same = record {
  tables = λ t k here ranged small. same (first_disk t + k) ∙ old.tables t k here ranged small;
  clients = λ c k here small. same (first_client_disk c + k) ∙ old.clients c k here small;
}

-- ---- the step

module _ {D : Type 0} (state : D → DiskState) (images : D → ℕ → List ℕ → Type 0) (w : moves.World) (event : Event) (table : ℕ) (schema : Schema) (stage : TableState)
    (declares : Declares event table schema stage) (it : Told) (only : IsOnly [] it) where
  -- what the event makes of the world with these lucks
  abbrev declared_with : Lucks → moves.World
  declared_with lucks = declared w table schema stage (first_luck lucks.calls) (hosted_at w table)

  declared_step : (is_out : ℕ → Bool) (old new : World D) (lucks : Lucks) → Holds state (declared_with lucks) new → AreOut is_out (declared_with lucks)
      → AreTotals state (fails_new (hosted_at w table) lucks.calls) old new → Stays state images w event old new → IsStep state images w event it is_out old new
  declared_step is_out old new lucks held out totals stay = let is = sym (declares.steps w lucks) in record {
    lucks = lucks;
    rows = stay lucks;
    lines_are = only.lines_are ∙ ap answer_lines is;
    outs_are = subst (λ (s : WorldStep). AreOuts (owner_of s.world) it.outs s.outs) is (no_outs_told (owner_of (declared_with lucks)) it.outs only.none);
    held = subst (λ (s : WorldStep). Holds state s.world new) is held;
    out = subst (λ (s : WorldStep). AreOut is_out s.world) is out;
    rose = λ t. totals.rose (sym (declares.fails w lucks) ∙ t);
    same = λ f. totals.same (sym (declares.fails w lucks) ∙ f);
  }

  pub made_step : (is_out out : ℕ → Bool) (old : World D) (schemas : tree.BTreeMap ℕ Schema) (store : StoreHost D) → Holds state w old → AreOut is_out w → hosted_at w table ≡ None
      → (1 ≤ table) × (table ≤ 64)
      → ((q : ℕ) → tree.get nat_cmp schemas q ≡ cond (is_at (nat_cmp table) q) (Some schema) (tree.get nat_cmp old.schemas q))
      → ((k : ℕ) → out k ≡ with_three (first_disk table) is_out k)
      → (luck : Luck) → HoldsStore state (made_with w table schema stage luck) store → IsCounted state (is_failure luck) old.store.tables store.tables → store.outs ≡ old.store.outs
      → Stays state images w event old (record old { schemas = schemas; store = store })
      → IsStep state images w event it out old (record old { schemas = schemas; store = store })
  made_step is_out out old schemas store h outs none one put u luck held counted told stay = declared_step out old new (with_calls (luck ∷ []))
      (subst (λ (o : Option Hosted). Holds state (declared w table schema stage luck o) new) (sym none) behind)
      (subst (λ (o : Option Hosted). AreOut out (declared w table schema stage luck o)) (sym none)
      (more_out w after table is_out out one.0 one.1 outs u (made_there state w table schema stage old (rest_of state w old h) none schemas put one luck)
      (made_clients state w table schema stage old (rest_of state w old h) none schemas put one luck)))
      (subst (λ (o : Option Hosted). AreTotals state (fails_new o (luck ∷ [])) old new) (sym none) (tables_counted state after old new (is_failure luck) behind counted refl)) stay
    where
      new : World D
      new = record old { schemas = schemas; store = store }

      after : moves.World
      after = made_with w table schema stage luck

      again : Rest state after (record old { schemas = schemas }) → Rest state after new
      again x = record { schemas = x.schemas; clients = x.clients; clients_told = x.clients_told; held = x.held; numbered = x.numbered }

      behind : Holds state after new
      behind = whole state after new (again (made_rest state w table schema stage old (rest_of state w old h) none schemas put one luck)) held (told ∙ h.store_told)

  stays_there : (is_out : ℕ → Bool) (old : World D) (hosted : Hosted) → Holds state w old → AreOut is_out w → hosted_at w table ≡ Some hosted → Stays state images w event old old
      → IsStep state images w event it is_out old old
  stays_there is_out old hosted h outs at stay = declared_step is_out old old no_lucks
      (subst (λ (o : Option Hosted). Holds state (declared w table schema stage messages.Done o) old) (sym at) h)
      (subst (λ (o : Option Hosted). AreOut is_out (declared w table schema stage messages.Done o)) (sym at) outs)
      (subst (λ (o : Option Hosted). AreTotals state (fails_new o []) old old) (sym at) (record { rose = λ no. absurd cc; same = λ f. refl })) stay

  pub stays_declared : (is_out : ℕ → Bool) (old : World D) → Holds state w old → AreOut is_out w → true ≡ is_some (hosted_at w table) → Stays state images w event old old
      → IsStep state images w event it is_out old old
  stays_declared is_out old h outs is stay = let x = some_of (hosted_at w table) is in stays_there is_out old x.0 h outs x.1 stay

  pub made_ok : (is_out out : ℕ → Bool) (old : World D) (schemas : tree.BTreeMap ℕ Schema) (store : StoreHost D) → Holds state w old → AreOut is_out w → hosted_at w table ≡ None
      → (1 ≤ table) × (table ≤ 64)
      → ((q : ℕ) → tree.get nat_cmp schemas q ≡ cond (is_at (nat_cmp table) q) (Some schema) (tree.get nat_cmp old.schemas q))
      → ((k : ℕ) → out k ≡ with_three (first_disk table) is_out k)
      → (luck : Luck) × HoldsStore state (made_with w table schema stage luck) store × IsCounted state (is_failure luck) old.store.tables store.tables → store.outs ≡ old.store.outs
      → Stays state images w event old (record old { schemas = schemas; store = store })
      → IsStep state images w event it out old (record old { schemas = schemas; store = store })
  made_ok is_out out old schemas store h outs none one put u k told stay = made_step is_out out old schemas store h outs none one put u k.0 k.1 k.2 told stay

pub not_there : {D : Type 0} (state : D → DiskState) (w : moves.World) (table : ℕ) (world : World D) → Holds state w world → tree.get nat_cmp world.store.tables table ≡ None → hosted_at w table ≡ None
not_there state w table world h none = not_found state w world.store.tables table h.store.tables (sym none)

pub not_out : {D : Type 0} (state : D → DiskState) (w : moves.World) (table : ℕ) (world : World D) → Holds state w world → (is_out : ℕ → Bool) → AreOut is_out w
    → tree.get nat_cmp world.store.tables table ≡ None → 1 ≤ table → table ≤ 64 → (k : ℕ) → k < 3 → is_out (first_disk table + k) ≡ false
not_out state w table world h is_out outs none one most k small = outs.tables table k one most small ∙ ap (λ (o : Option Hosted). is_some o) (not_there state w table world h none)

-- a table's payload is 2 bytes more than its schema's spelling
pub payload_short : (schema : Schema) → length (schema_spelling schema) + 128 ≤ payload_most → length (table_payload schema 2) ≤ payload_most
payload_short schema short = omega (arith, short, length-append (schema_spelling schema) (2 ∷ []))

-- ---- a client more

pub to_open : (table : ℕ) (schema : Schema) → IsMade table schema → IsToOpen (table, schema)
to_open table schema m = record {
  numbered = record { least = m.least; most = m.most };
  spelled = m.spelled;
  short = m.short;
}

module _ {D : Type 0} (state : D → DiskState) (w : moves.World) (world : World D) (h : Holds state w world) where
  pub has_schemas : HasSchemas w world.schemas
  has_schemas = record { there = h.schemas }

  pub are_to_open : IsFair w → AreToOpen world.schemas
  are_to_open fair table schema at = to_open table schema (fair.made table schema (sym (h.schemas table) ∙ at))

  pub not_joined : (c : ℕ) → tree.get nat_cmp world.clients.clients c ≡ None → client_at w c ≡ None
  not_joined c none = (no_client state w world.clients.clients c h.clients.there (sym none)).0

  pub client_not_out : (c : ℕ) (is_out : ℕ → Bool) → AreOut is_out w → tree.get nat_cmp world.clients.clients c ≡ None → 1 ≤ c → (k : ℕ) → k < 3 → is_out (first_client_disk c + k) ≡ false
  client_not_out c is_out outs none one k small = outs.clients c k one small ∙ ap (λ (o : Option Client). is_some o) (not_joined c none)

  -- nothing is done
  pub undone : (is_out out : ℕ → Bool) → AreOut is_out w → ((k : ℕ) → out k ≡ is_out k) → IsUndone state w out world world
  undone is_out out outs same = record { held = h; out = still_out w is_out out outs same; same = refl }

module _ {D : Type 0} (state : D → DiskState) (w : moves.World) (old : World D) (c : ℕ) (tables : List ℕ) (luck : Luck) (h : Holds state w old) (absent : client_at w c ≡ None)
    (number : IsClient c) where
  abbrev after : moves.World
  after = joined w c tables luck None

  abbrev fresh : Client
  fresh = moves.new_client (moves.open_all w [] tables) (moves.first_agenda luck)

  joined_there : (q : ℕ) → client_at after q ≡ cond (is_at (nat_cmp c) q) (Some fresh) (client_at w q)
  joined_there q = lookup-insert nat_cmp nat_cmp_total w.clients c fresh q

  joined_some : (q : ℕ) → is_some (client_at after q) ≡ cond (is_at (nat_cmp c) q) true (is_some (client_at w q))
  joined_some q = ap (λ (o : Option Client). is_some o) (joined_there q) ∙ go (is_at (nat_cmp c) q)
    where
      go : (b : Bool) → is_some (cond b (Some fresh) (client_at w q)) ≡ cond b true (is_some (client_at w q))
      go true = refl
      go false = refl

  joined_numbered : AreNumbered after
  joined_numbered = record {
    both = h.numbered.both;
    tables = h.numbered.tables;
    clients = λ q there. one q (is_at (nat_cmp c) q) refl (sym (joined_some q) ∙ there);
  }
    where
      one : (q : ℕ) (b : Bool) → is_at (nat_cmp c) q ≡ b → cond b true (is_some (client_at w q)) ≡ true → IsClient q
      one q true is there = subst IsClient (at_same c q is) number
      one q false is there = h.numbered.clients q there

  joined_held : (host : ClientHost D) → HoldsClients state after host → host.outs.items ≡ old.clients.outs.items → Holds state after (record old { clients = host })
  joined_held host k told = record {
    schemas = h.schemas;
    store = store_stays state w old.store after.clients w.packets w.holds w.cuts w.phases h.store;
    clients = k;
    store_told = h.store_told;
    clients_told = told ∙ h.clients_told;
    held = h.held;
    numbered = joined_numbered;
  }

  pub joined_out : (is_out out : ℕ → Bool) → AreOut is_out w → ((k : ℕ) → out k ≡ with_three (first_client_disk c) is_out k) → AreOut out after
  joined_out is_out out outs u = client_out w after c is_out out number.least outs u joined_some (λ t. refl)

-- ---- its disks, which had not failed

fresh_faults : (a b c x y z : ℕ) → a ≡ x → b ≡ y → c ≡ z → x + (y + z) ≡ 0 → c + (b + a) ≡ 0
fresh_faults a b c x y z one two three none = omega (arith, one, two, three, none)

module _ {D : Type 0} (state : D → DiskState) (disks : D × D × D) (luck : Luck) (sound : faults_of state disks.0 disks.1 disks.2 ≡ 0) where
  node_fresh : (count : ℕ) (k : HasJoinLuck state disks luck count) → node_faults state k.fresh ≡ 0
  node_fresh count k =
      fresh_faults _ _ _ (state disks.0).faults (state disks.1).faults (state disks.2).faults (ap (λ (d : D). (state d).faults) k.journal_is) (ap (λ (d : D). (state d).faults) k.slots_are)
      (ap (λ (d : D). (state d).faults) k.chunks_are) sound

  -- it went well where no disk has failed
  none_fails : (count : ℕ) → HasJoinLuck state disks luck count → is_failure luck ≡ false → count ≡ 0
  none_fails count k fine = k.counted (well luck fine) ∙ node_fresh count k
    where
      well : (l : Luck) → is_failure l ≡ false → l ≡ messages.Done
      well messages.Done e = refl
      well messages.FailedBefore e = absurd cc
      well messages.FailedAfter e = absurd cc

  one_fails : (count : ℕ) → HasJoinLuck state disks luck count → is_failure luck ≡ true → 0 < count
  one_fails count k bad = subst (λ (n : ℕ). n < count) (node_fresh count k) (k.cause (λ is. let no : false ≡ true = ap is_failure (sym is) ∙ bad in absurd cc))

module _ {D : Type 0} (state : D → DiskState) (old new : tree.BTreeMap ℕ (ClientNode D)) (c : ℕ) (absent : tree.get nat_cmp old c ≡ None)
    (others : (q : ℕ) → q ≢ c → clients.faults_at state new q ≡ clients.faults_at state old q) where
  none_before : clients.faults_at state old c ≡ 0
  none_before = ap (λ (o : Option (ClientNode D)). clients.faults_in state o) absent

  join_rose : 0 < clients.faults_at state new c → clients.RisenFaults state c old new
  join_rose up = record { one = subst (λ (n : ℕ). n < clients.faults_at state new c) (sym none_before) up; others = others }

  join_same : clients.faults_at state new c ≡ 0 → clients.SameFaults state old new
  join_same none q = ⊎_elim (λ is. at q is.1) (λ no. others q no.1) (eqb_tells q c)
    where
      at : (q : ℕ) → q ≡ c → clients.faults_at state new q ≡ clients.faults_at state old q
      at q is = subst (λ (k : ℕ). clients.faults_at state new k ≡ clients.faults_at state old k) (sym is) (none ∙ sym none_before)

-- ---- its step

module _ {D : Type 0} (state : D → DiskState) (images : D → ℕ → List ℕ → Type 0) (w : moves.World) (c : ℕ) (gate : Option ℕ) (tables : List ℕ) (is_out : ℕ → Bool) (it : Told) (only : IsOnly [] it) where
  join_step : (out : ℕ → Bool) (old : World D) (host : ClientHost D) (disks : D × D × D) (luck : Luck) → Holds state w old → AreOut is_out w → tree.get nat_cmp old.clients.clients c ≡ None
      → client_at w c ≡ None → IsClient c → ((k : ℕ) → out k ≡ with_three (first_client_disk c) is_out k) → faults_of state disks.0 disks.1 disks.2 ≡ 0
      → HoldsClients state (joined w c tables luck (client_at w c)) host → HasJoinLuck state disks luck (clients.faults_at state host.clients c)
      → ((q : ℕ) → q ≢ c → clients.faults_at state host.clients q ≡ clients.faults_at state old.clients.clients q) → host.outs.items ≡ old.clients.outs.items
      → Stays state images w (events.Client c gate tables) old (record old { clients = host })
      → IsStep state images w (events.Client c gate tables) it out old (record old { clients = host })
  join_step out old host disks luck h outs none absent number u sound held k others told stay = record {
    lucks = with_calls (luck ∷ []);
    rows = stay (with_calls (luck ∷ []));
    lines_are = only.lines_are;
    outs_are = no_outs_told (owner_of (step w (events.Client c gate tables) (with_calls (luck ∷ []))).world) it.outs only.none;
    held = subst (λ (o : Option Client). Holds state (joined w c tables luck o) new) (sym absent) behind;
    out = subst (λ (o : Option Client). AreOut out (joined w c tables luck o)) (sym absent) (joined_out state w old c tables luck h absent number is_out out outs u);
    rose = λ t. totals.rose (sym fails ∙ t);
    same = λ f. totals.same (sym fails ∙ f);
  }
    where
      new : World D
      new = record old { clients = host }

      fails : fails_joined (client_at w c) (luck ∷ []) ≡ is_failure luck
      fails = ap (λ (o : Option Client). fails_joined o (luck ∷ [])) absent

      behind : Holds state (joined w c tables luck None) new
      behind = joined_held state w old c tables luck h absent number host (subst (λ (o : Option Client). HoldsClients state (joined w c tables luck o) host) absent held) told

      totals : AreTotals state (is_failure luck) old new
      totals = client_counted state (joined w c tables luck None) old new c (is_failure luck) behind
          (λ t. join_rose state old.clients.clients host.clients c none others (one_fails state disks luck sound (clients.faults_at state host.clients c) k t))
          (λ f. join_same state old.clients.clients host.clients c none others (none_fails state disks luck sound (clients.faults_at state host.clients c) k f)) refl

  pub join_ok : (out : ℕ → Bool) (old : World D) (host : ClientHost D) (disks : D × D × D) → Holds state w old → AreOut is_out w → tree.get nat_cmp old.clients.clients c ≡ None → IsClient c
      → ((k : ℕ) → out k ≡ with_three (first_client_disk c) is_out k) → faults_of state disks.0 disks.1 disks.2 ≡ 0
      → (luck : Luck) × HoldsClients state (joined w c tables luck (client_at w c)) host × HasJoinLuck state disks luck (clients.faults_at state host.clients c)
      → ((q : ℕ) → q ≢ c → clients.faults_at state host.clients q ≡ clients.faults_at state old.clients.clients q) → host.outs.items ≡ old.clients.outs.items
      → Stays state images w (events.Client c gate tables) old (record old { clients = host })
      → IsStep state images w (events.Client c gate tables) it out old (record old { clients = host })
  join_ok out old host disks h outs none number u sound k others told stay =
      join_step out old host disks k.0 h outs none (not_joined state w old h c none) number u sound k.1 k.2 others told stay

  -- one that is there stays as it is
  pub stays_joined : (old : World D) → Holds state w old → AreOut is_out w → true ≡ is_some (client_at w c) → Stays state images w (events.Client c gate tables) old old
      → IsStep state images w (events.Client c gate tables) it is_out old old
  stays_joined old h outs is stay =
      let x = some_of (client_at w c) is in
      let at = x.1 in record {
        lucks = no_lucks;
        rows = stay no_lucks;
        lines_are = only.lines_are;
        outs_are = no_outs_told (owner_of (step w (events.Client c gate tables) no_lucks).world) it.outs only.none;
        held = subst (λ (o : Option Client). Holds state (joined w c tables messages.Done o) old) (sym at) h;
        out = subst (λ (o : Option Client). AreOut is_out (joined w c tables messages.Done o)) (sym at) outs;
        rose = λ t. let no : false ≡ true = sym (ap (λ (o : Option Client). fails_joined o []) at) ∙ t in absurd cc;
        same = λ f. refl;
      }
