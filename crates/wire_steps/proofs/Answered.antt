-- How calls of the world end: what they come to, and why the run ends.
use Rattle.std.proofs.Common.{◌≡◌, ◌≢◌, ◌⊎◌, inl, inr, ⊎_elim, ℕ, zero, suc, ◌+◌, ◌<◌, ◌≤◌, Bool, true, false, List, [], ◌∷◌, map, Option, Some, None, Result, Ok, Err, refl, sym, ◌∙◌, ap, subst, arith}
use Rattle.std.specs.Prelude.{IfOk, IfErr, is_some}
use Rattle.std.specs.BTreeMap as tree
use Rattle.std.specs.Ordering.{nat_cmp}
use Rattle.disk_trait.specs.Calls.{DiskState}
use Rattle.disk_trait.specs.Fuse.{behind, inner_of}
use Rattle.disk_trait.specs.Image.{IsImage}
use Rattle.stab_base.specs.declared.node.Node.TheVariants as nodes
use Rattle.row_value.specs.declared.schema.Schema.{Schema}
use Rattle.row_store.specs.Spelling.{IsClient}
use Rattle.store_commit.proofs.Moments.{rows_then}
use Rattle.store_host.specs.Holds.{HostedThere, AreLeft}
use Rattle.store_host.proofs.Lefts.{between}
use Rattle.store_host.proofs.Maps.{found}
use Rattle.client_journal.specs.Standing.{devs, writes_of}
use Rattle.client_journal.specs.Devs.{changed_by_all}
use Rattle.client_node.specs.declared.node.ClientNode.{ClientNode}
use Rattle.journal_host.specs.Holds.{ClientThere}
use Rattle.table_model.specs.declared.line.TextLine.{TextLine}
use Rattle.table_model.specs.declared.event.Event.TheVariants as events
use Rattle.step_tables.specs.Facts.{Answer, AnswerLine}
use Rattle.step_tables.specs.Lines.{line_of}
use Rattle.step_tables.specs.ClientMoves.{Client}
use Rattle.world_tables.specs.Faults.{is_fault_answer}
use Rattle.world_tables.specs.Passed.{first_part}
use Rattle.world_tables.specs.World.{World as AWorld, Hosted, Lucks, WorldStep, no_lucks, owner_of, schema_at, hosted_at, client_at, is_cut, is_fault}
use Rattle.wire_tables.specs.Wire.{PartPacket, Wire, WireStep, spread, still, lines_of}
use Rattle.node_steps.specs.declared.fault.WorldFault.{WorldFault}
use Rattle.node_steps.specs.declared.fault.WorldFault.TheVariants.{Memory, Depot, Limit as LimitPassed}
use Rattle.node_steps.specs.declared.world.World.{World as Nodes}
use Rattle.node_steps.specs.Faults.{AreTotals, all_faults, sum_to}
use Rattle.node_steps.specs.Holds.{Holds as NodesHold}
use Rattle.node_steps.specs.Rows.{HasSome, HasSomeAt, AreLeftOver}
use Rattle.node_steps.specs.Steps.{HavePlansBelow}
use Rattle.node_steps.proofs.Rows.{over_first, none_left}
use Rattle.wire_steps.specs.declared.world.World.{World}
use Rattle.wire_steps.specs.Holds.{Holds}
use Rattle.wire_steps.specs.Views.{HasSeen}
use Rattle.wire_steps.specs.Calls.{RowsOver, IsBehind, IsDone, IsPast, Comes, EndsRun, Ends, SpendsAny, IsLimitedBy, IsLimited}
use Rattle.wire_steps.specs.Sending.{IsTold, IsSendFault, IsOverFault}
use Rattle.wire_steps.proofs.Handed.{told_done, told_past}

-- ---- why a run ends

ten : (count code other : ℕ) → LimitPassed 10 count ≡ LimitPassed code other → code ≡ 10
ten count code other e = cc

pub limit_apart : (P : Type 0) (count : ℕ) (e : WorldFault) → e ≡ LimitPassed 10 count → ((code other : ℕ) → e ≡ LimitPassed code other → (code ≡ 11) × P) → ⊥
limit_apart P count e is limit = let k = limit 10 count is in let bad : 10 ≡ 11 = k.0 in absurd (omega (arith, bad))

module _ {D : Type 0} (state : D → DiskState) (images : D → ℕ → List ℕ → Type 0) (v : Wire) (f : Lucks → WireStep) (old new : World D) where
  pub memory_ends : (e : WorldFault) → e ≡ Memory → EndsRun state images v f old new e
  memory_ends e is = record {
    over = λ count over. let both : Memory ≡ LimitPassed 10 count = sym is ∙ over in absurd cc;
    only = λ depot. let both : Memory ≡ Depot = sym is ∙ depot in absurd cc;
  }

  pub all_memory : (result : Result (List TextLine) WorldFault) → IfErr result (λ e. e ≡ Memory) → Ends state images v f result old new
  all_memory (Ok lines) k = tt
  all_memory (Err e) k = memory_ends e k

  -- a limit of the nodes
  pub nodes_end : (P : Type 0) (e : WorldFault) → ((code count : ℕ) → e ≡ LimitPassed code count → (code ≡ 11) × P) → (e ≢ Depot) → EndsRun state images v f old new e
  nodes_end P e limit only = record { over = λ count is. absurd (limit_apart P count e is limit); only = only }

  -- what was to be told wasn't
  pub send_ends : (result : Result (List TextLine) WorldFault) → IfErr result (λ e. (count : ℕ) → e ≡ LimitPassed 10 count → (lucks : Lucks) × IsPast state images v (f lucks) old new)
      → IfErr result IsSendFault → Ends state images v f result old new
  send_ends (Ok lines) over only = tt
  send_ends (Err e) over only = record {
    over = over;
    only = λ depot. ⊎_elim (λ m. let both : Memory ≡ Depot = sym m ∙ depot in absurd cc) (λ l. let both : LimitPassed 10 l.0 ≡ Depot = sym l.1 ∙ depot in absurd cc) only;
  }

  -- what the nodes told is told and sent
  module _ (kept : Wire) (s : WorldStep) (mid : Nodes D) (lucks : Lucks) (is : f lucks ≡ spread kept s) (same : new.nodes ≡ mid)
      (b : IsBehind state images v (spread kept s) old.nodes mid) where
    pub told_comes : kept.packets ≡ v.packets → (result : Result (List TextLine) WorldFault) → IfOk result (λ lines. IsTold state kept s lines new) → Comes state images v f result old new
    told_comes packets (Err e) k = tt
    told_comes packets (Ok lines) k = (lucks, told_done state images v (f lucks) kept s old new mid lines is packets same b k)

    pub told_ends : (result : Result (List TextLine) WorldFault) → IfErr result (IsOverFault (spread kept s).wire.packets) → IfErr result IsSendFault → Ends state images v f result old new
    told_ends result over only = send_ends result (past result over) only
      where
        past : (r : Result (List TextLine) WorldFault) → IfErr r (IsOverFault (spread kept s).wire.packets)
            → IfErr r (λ e. (count : ℕ) → e ≡ LimitPassed 10 count → (l : Lucks) × IsPast state images v (f l) old new)
        past (Ok lines) k = tt
        past (Err e) k = λ count e_is. (lucks, told_past state images v (f lucks) kept s old new mid is same b (k count e_is))

module _ (P : Type 0) where
  pub memory_limits : (e : WorldFault) → e ≡ Memory → (code count : ℕ) → e ≡ LimitPassed code count → (code ≡ 10) ⊎ ((code ≡ 11) × P)
  memory_limits e is code count over = let both : Memory ≡ LimitPassed code count = sym is ∙ over in absurd cc

  pub all_memory_limited : {T : Type 0} (result : Result T WorldFault) → IfErr result (λ e. e ≡ Memory) → IsLimitedBy P result
  all_memory_limited (Ok lines) k = tt
  all_memory_limited (Err e) k = memory_limits e k

  pub send_limited : {T : Type 0} (result : Result T WorldFault) → IfErr result IsSendFault → IsLimitedBy P result
  send_limited (Ok lines) k = tt
  send_limited (Err e) k = λ code count is. inl (⊎_elim (λ m. let both : Memory ≡ LimitPassed code count = sym m ∙ is in absurd cc) (λ l. ten l.0 code count (sym l.1 ∙ is)) k)

module _ (n : ℕ) (w : AWorld) where
  spends_later : SpendsAny n w → SpendsAny (suc n) w
  spends_later k = ⊎_elim (λ full. inl full) (λ c. inr (c.0, ⊎_elim (λ last. inl last) (λ most. inr (omega (arith, most))) c.1)) k

  pub limited_later : {T : Type 0} (result : Result T WorldFault) → IsLimited n w result → IsLimited (suc n) w result
  limited_later (Ok x) k = tt
  limited_later (Err e) k = λ code count is. ⊎_elim (λ ten. inl ten) (λ spent. inr (spent.0, spends_later spent.1)) (k code count is)

-- ---- plans

pub plans_stay : {D : Type 0} (state : D → DiskState) (n : ℕ) (old new : Nodes D) → new ≡ old → HavePlansBelow state n old → HavePlansBelow state n new
plans_stay {D} state n old new same k = subst (λ (x : Nodes D). HavePlansBelow state n x) (sym same) k

pub plans_later : {D : Type 0} (state : D → DiskState) (n : ℕ) (nodes : Nodes D) → HavePlansBelow state n nodes → HavePlansBelow state (suc n) nodes
plans_later state n nodes k = λ c node at declared. let few = k c node at declared in omega (arith, few)

sum_has : (f : ℕ → ℕ) (n k : ℕ) → 1 ≤ k → k ≤ n → f k ≤ sum_to f n
unfolding sum_to
sum_has f zero k one most = absurd (omega (arith, one, most))
sum_has f (suc n) k one most = ⊎_elim (λ e. subst (λ (m : ℕ). f k ≤ sum_to f n + f m) e (omega arith))
    (λ below. let few = sum_has f n k one below in omega (arith, few)) (last k n most)
  where
    last : (k n : ℕ) → k ≤ suc n → (k ≡ suc n) ⊎ (k ≤ n)
    last k n most = grind (arith, most)

-- there is some number that no plan passes
pub some_plans : {D : Type 0} (state : D → DiskState) (w : AWorld) (nodes : Nodes D) → NodesHold state w nodes → (n : ℕ) × HavePlansBelow state n nodes
some_plans {D} state w nodes h = (sum_to greatest 64, λ c node at declared. at_most c node at)
  where
    greatest_of : Option (ClientNode D) → ℕ
    greatest_of None = 0
    greatest_of (Some node) = (changed_by_all (devs (λ f. behind state f) node.devs) (writes_of node.devs)).journal.greatest

    greatest : ℕ → ℕ
    greatest c = greatest_of (tree.get nat_cmp nodes.clients.clients c)

    there : (c : ℕ) (node : ClientNode D) (o : Option Client) → ClientThere state (is_cut w c) c o (Some node) → is_some o ≡ true
    there c node (Some s) k = refl
    there c node None k = absurd k

    at_most : (c : ℕ) (node : ClientNode D) → tree.get nat_cmp nodes.clients.clients c ≡ Some node
        → (changed_by_all (devs (λ f. behind state f) node.devs) (writes_of node.devs)).journal.greatest ≤ sum_to greatest 64
    at_most c node at =
        let number : IsClient c =
        h.numbered.clients c (there c node (client_at w c) (subst (λ (o : Option (ClientNode D)). ClientThere state (is_cut w c) c (client_at w c) o) at (h.clients.there c))) in
        subst (λ (o : Option (ClientNode D)). greatest_of o ≤ sum_to greatest 64) at (sum_has greatest 64 c number.least number.most)

-- ---- a read, and what comes then

module _ {D : Type 0} (state : D → DiskState) (images : D → ℕ → List ℕ → Type 0) (w : AWorld) where
  pub left_then : (old mid new : Nodes D) (first : AWorld) → NodesHold state w old → NodesHold state w mid → AreLeft state images w old.store.tables mid.store.tables
      → AreLeftOver state images w first mid.store.tables new.store.tables → AreLeftOver state images w first old.store.tables new.store.tables
  left_then old mid new first h k a b = record {
    rows = λ table hosted before after at made was is.
        let m = between state images (owner_of w table) (schema_at w table) table hosted (tree.get nat_cmp mid.store.tables table)
        (subst (λ (o : Option Hosted). HostedThere state (owner_of w table) (schema_at w table) table o (tree.get nat_cmp mid.store.tables table)) at (k.store.tables.there table)) in
        let it = m.0 in
        let f = found state w old.store.tables table before h.store.tables (sym was) in
        let schemas : Some before.node.schema ≡ Some it.node.schema = sym f.2.schema ∙ m.2.schema in
        let schema : it.node.schema ≡ before.node.schema = cc in
        rows_then (λ x. behind state x) (λ x. images (inner_of x)) before.node.devs it.node.devs after.node.devs (HasSome hosted before.node.schema)
        (λ held. HasSome hosted it.node.schema held ⊎ HasSomeAt first table it.node.schema held)
        (λ held. HasSome hosted before.node.schema held ⊎ HasSomeAt first table before.node.schema held)
        (a.rows table hosted before it at made was m.1) (b.rows table hosted it after at made m.1 is) (λ held x. inl x)
        (λ held x. subst (λ (s : Schema). HasSome hosted s held ⊎ HasSomeAt first table s held) schema x);
  }

  pub over_then : (old mid new : Nodes D) (after : AWorld) → NodesHold state w old → NodesHold state w mid → AreLeft state images w old.store.tables mid.store.tables
      → RowsOver state images w after mid new → RowsOver state images w after old new
  over_then old mid new after h k a b = record {
    event = b.event;
    lucks = b.lucks;
    behind = b.behind;
    left = left_then old mid new (first_part w b.event b.lucks) h k a b.left;
  }

pub totals_then : {D : Type 0} (state : D → DiskState) (b : Bool) (old mid new : Nodes D) → all_faults state mid ≡ all_faults state old → AreTotals state b mid new → AreTotals state b old new
totals_then state b old mid new same k = record {
  rose = λ is. subst (λ (n : ℕ). n < all_faults state new) same (k.rose is);
  same = λ is. k.same is ∙ same;
}

module _ {D : Type 0} (state : D → DiskState) (images : D → ℕ → List ℕ → Type 0) (v : Wire) {T : Type 0} (is : T → Type 0) (old mid : World D) (found : T)
    (h : Holds state v old) (seen : HasSeen state images v is old mid found) where
  pub seen_holds : Holds state v mid
  seen_holds = subst (λ (x : World D). Holds state v x) (sym seen.rest) (record { nodes = seen.held; packets = h.packets; memory = h.memory })

  behind_then : (s : WireStep) (new : Nodes D) → IsBehind state images v s mid.nodes new → IsBehind state images v s old.nodes new
  behind_then s new b = record {
    held = b.held;
    tables = b.tables;
    clients = b.clients;
    counted = totals_then state (is_fault_answer s.answer) old.nodes mid.nodes new seen.same b.counted;
    rows = over_then state images v.world old.nodes mid.nodes new s.wire.world h.nodes seen.held seen.left b.rows;
  }

  module _ (f : Lucks → WireStep) (new : World D) where
    pub comes_then : (result : Result (List TextLine) WorldFault) → Comes state images v f result mid new → Comes state images v f result old new
    comes_then (Err e) k = tt
    comes_then (Ok lines) k = (k.0, record { behind = behind_then (f k.0) new.nodes k.1.behind; lines_are = k.1.lines_are; held = k.1.held })

    pub ends_then : (result : Result (List TextLine) WorldFault) → Ends state images v f result mid new → Ends state images v f result old new
    ends_then (Ok lines) k = tt
    ends_then (Err e) k = record {
      over = λ count at. let p = k.over count at in (p.0, record { behind = behind_then (f p.0) new.nodes p.1.behind; over = p.1.over });
      only = k.only;
    }

-- ---- where nothing is done but to keep a part

-- of a wire that has other parts in memory
behind_as : {D : Type 0} (state : D → DiskState) (images : D → ℕ → List ℕ → Type 0) (v kept : Wire) (s : WireStep) (old mid new : Nodes D) → mid ≡ old → kept.world ≡ v.world
    → IsBehind state images kept s mid new → IsBehind state images v s old new
behind_as {D} state images v kept s old mid new nodes world b = subst (λ (x : Nodes D). IsBehind state images v s x new) nodes (record {
  held = b.held;
  tables = λ t. b.tables t ∙ ap (λ (w : AWorld). is_some (hosted_at w t)) world;
  clients = λ c. b.clients c ∙ ap (λ (w : AWorld). is_some (client_at w c)) world;
  counted = b.counted;
  rows = subst (λ (w : AWorld). RowsOver state images w s.wire.world mid new) world b.rows;
})

pub comes_as : {D : Type 0} (state : D → DiskState) (images : D → ℕ → List ℕ → Type 0) (v kept : Wire) (f g : Lucks → WireStep) (result : Result (List TextLine) WorldFault) (old mid new : World D)
    → mid.nodes ≡ old.nodes → kept.world ≡ v.world → kept.packets ≡ v.packets → ((lucks : Lucks) → f lucks ≡ g lucks) → Comes state images kept g result mid new → Comes state images v f result old new
comes_as state images v kept f g (Err e) old mid new nodes world packets same k = tt
comes_as {D} state images v kept f g (Ok lines) old mid new nodes world packets same k = (
  k.0,
  subst (λ (s : WireStep). IsDone state images v s lines old new) (sym (same k.0)) (record {
    behind = behind_as state images v kept (g k.0) old.nodes mid.nodes new.nodes nodes world k.1.behind;
    lines_are = k.1.lines_are ∙ ap (λ (ps : List PartPacket). lines_of (record v { packets = ps }) (g k.0)) packets;
    held = k.1.held;
  }),
)

pub ends_as : {D : Type 0} (state : D → DiskState) (images : D → ℕ → List ℕ → Type 0) (v kept : Wire) (f g : Lucks → WireStep) (result : Result (List TextLine) WorldFault) (old mid new : World D)
    → mid.nodes ≡ old.nodes → kept.world ≡ v.world → ((lucks : Lucks) → f lucks ≡ g lucks) → Ends state images kept g result mid new → Ends state images v f result old new
ends_as state images v kept f g (Ok lines) old mid new nodes world same k = tt
ends_as {D} state images v kept f g (Err e) old mid new nodes world same k = record {
  over = λ count at.
      let p = k.over count at in (
        p.0,
        subst (λ (s : WireStep). IsPast state images v s old new) (sym (same p.0))
            (record { behind = behind_as state images v kept (g p.0) old.nodes mid.nodes new.nodes nodes world p.1.behind; over = p.1.over }),
      );
  only = k.only;
}

-- the answer alone
module _ {D : Type 0} (state : D → DiskState) (images : D → ℕ → List ℕ → Type 0) (only_now : (disk : D) (image : List ℕ) → images disk (state disk).moment image → IsImage (state disk).pending image)
    (v kept : Wire) (answer : Answer) (fine : is_fault answer ≡ false) (old new : World D) (same : new.nodes ≡ old.nodes) (world : kept.world ≡ v.world) (packets : kept.packets ≡ v.packets)
    (h : Holds state kept new) where
  still_behind : IsBehind state images v (still kept answer) old.nodes new.nodes
  still_behind = subst (λ (x : Nodes D). IsBehind state images v (still kept answer) x new.nodes) same (record {
    held = h.nodes;
    tables = λ t. ap (λ (w : AWorld). is_some (hosted_at w t)) world;
    clients = λ c. ap (λ (w : AWorld). is_some (client_at w c)) world;
    counted = record { rose = λ is. absurd (let bad : true ≡ false = sym is ∙ fine in cc); same = λ is. refl };
    rows = subst (λ (w : AWorld). RowsOver state images w kept.world new.nodes new.nodes) world (record {
      event = events.Work (nodes.Gate 0);
      lucks = no_lucks;
      behind = refl;
      left = over_first state images kept.world kept.world new.nodes.store.tables new.nodes.store.tables (none_left state images only_now kept.world new.nodes.store h.nodes.store);
    });
  })

  pub still_comes : (f : Lucks → WireStep) → f no_lucks ≡ still kept answer → (result : Result (List TextLine) WorldFault)
      → IfOk result (λ lines. map line_of lines ≡ AnswerLine answer ∷ []) → Comes state images v f result old new
  still_comes f is (Err e) k = tt
  still_comes f is (Ok lines) k = (
    no_lucks,
    subst (λ (s : WireStep). IsDone state images v s lines old new) (sym is) (record { behind = still_behind; lines_are = k; held = h }),
  )
