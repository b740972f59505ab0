-- What is in memory of parts, behind a step of the nodes and behind what comes to one of them.
use Rattle.std.proofs.Common.{◌≡◌, ◌≢◌, ◌⊎◌, inl, inr, ⊎_elim, ℕ, Bool, true, false, cond, List, [], Option, Some, None, refl, sym, ◌∙◌, ap, subst, arith, true≢false}
use Rattle.std.specs.Prelude.{◌==◌, is_some, if◌then◌else◌}
use Rattle.std.proofs.lemmas.Bool.{eqb-true}
use Rattle.std.proofs.lemmas.Bool.Decides.{nat_tests}
use Rattle.std.specs.Cmp.{unsigned_tied}
use Rattle.std.specs.Ordering.{nat_cmp}
use Rattle.std.specs.BTreeMap as tree
use Rattle.std.specs.BTreeMap.{is_at}
use Rattle.std.specs.Map.{lookup}
use Rattle.step_tables.specs.ClientMoves.{Client, no_shape}
use Rattle.step_tables.specs.ClientMoves as client
use Rattle.step_tables.specs.Messages as messages
use Rattle.world_tables.specs.World.{World, Hosted, owner_of, has_store, hosted_at, client_at}
use Rattle.world_tables.specs.World.{store_falls, client_falls}
use Rattle.world_laws.proofs.Looks.{look_cases}
use Rattle.part_tables.specs.StoreParts.{Gathering}
use Rattle.part_tables.specs.Arriving as arrivals
use Rattle.part_tables.specs.Arriving.{nothing_arriving}
use Rattle.part_store.specs.declared.gatherings.Gatherings.{Gatherings}
use Rattle.part_client.specs.declared.arriving.Arriving.{Arriving}
use Rattle.part_client.specs.Keeping.{Keeps}
use Rattle.part_client.proofs.Keepings.{nothing_of}
use Rattle.wire_tables.specs.Wire.{PartPacket, Wire, or_no_gatherings, or_nothing, gathered_at, arriving_at, with_gathered}
use Rattle.wire_tables.specs.Wire.{with_arriving, is_hosted_up, is_client_up, remembered}
use Rattle.wire_laws.proofs.Places.{lookup_some}
use Rattle.wire_steps.specs.Holds.{HasGatheredThere, KeepsThere, HoldsMemory}
use Rattle.wire_steps.proofs.Lasting.{MayJoin, Grows, grows_last, falls_last, owner_falls, client_falls_down, client_last}

abbrev pub Gathered : Type 0
Gathered = tree.BTreeMap ℕ Gatherings

abbrev pub Arrivals : Type 0
Arrivals = tree.BTreeMap ℕ Arriving

-- ---- what is lost with nodes that are down

gathered_by : (b : Bool) (o : Option (List Gathering)) → or_no_gatherings (if b then o else None) ≡ (if b then or_no_gatherings o else [])
gathered_by true o = refl
gathered_by false o = refl

arriving_by : (b : Bool) (o : Option arrivals.Arriving) → or_nothing (if b then o else None) ≡ (if b then or_nothing o else nothing_arriving)
arriving_by true o = refl
arriving_by false o = refl

module _ (u : Wire) where
  gathered_now : (t : ℕ) → gathered_at (remembered u) t ≡ (if is_hosted_up (hosted_at u.world t) then gathered_at u t else [])
  gathered_now t = ap or_no_gatherings (lookup_some (λ (n : ℕ). is_hosted_up (hosted_at u.world n)) t u.gathered)
      ∙ gathered_by (is_hosted_up (hosted_at u.world t)) (lookup (is_at (nat_cmp t)) u.gathered)

  arriving_now : (c : ℕ) → arriving_at (remembered u) c ≡ (if is_client_up (client_at u.world c) then arriving_at u c else nothing_arriving)
  arriving_now c = ap or_nothing (lookup_some (λ (n : ℕ). is_client_up (client_at u.world n)) c u.arriving)
      ∙ arriving_by (is_client_up (client_at u.world c)) (lookup (is_at (nat_cmp c)) u.arriving)

  -- what is known of those that are up is all
  pub memory_is : (gathered : Gathered) (arriving : Arrivals)
      → ((t : ℕ) → is_hosted_up (hosted_at u.world t) ≡ true → HasGatheredThere (gathered_at u t) (tree.get nat_cmp gathered t))
      → ((c : ℕ) → is_client_up (client_at u.world c) ≡ true → KeepsThere (arriving_at u c) (tree.get nat_cmp arriving c))
      → ((t : ℕ) → hosted_at u.world t ≡ None → tree.get nat_cmp gathered t ≡ None)
      → ((c : ℕ) → client_at u.world c ≡ None → tree.get nat_cmp arriving c ≡ None) → HoldsMemory (remembered u) gathered arriving
  memory_is gathered arriving gathers arrives no_table no_client = record {
    gathers = λ t up. subst (λ (gs : List Gathering). HasGatheredThere gs (tree.get nat_cmp gathered t))
        (sym (gathered_now t ∙ ap (λ (b : Bool). if b then gathered_at u t else []) up)) (gathers t up);
    arrives = λ c up. subst (λ (a : arrivals.Arriving). KeepsThere a (tree.get nat_cmp arriving c))
        (sym (arriving_now c ∙ ap (λ (b : Bool). if b then arriving_at u c else nothing_arriving) up)) (arrives c up);
    gathers_none = λ t down. gathered_now t ∙ ap (λ (b : Bool). if b then gathered_at u t else []) down;
    arrives_none = λ c down. arriving_now c ∙ ap (λ (b : Bool). if b then arriving_at u c else nothing_arriving) down;
    no_table = no_table;
    no_client = no_client;
  }

-- ---- what was kept of a node that is up was kept before

none_there : {X : Type 0} (o : Option X) → is_some o ≡ false → o ≡ None
none_there None e = refl
none_there (Some x) e = absurd (true≢false e)

none_before : {X : Type 0} (up : Option X → Bool) (o p : Option X) → MayJoin up o p → p ≡ None → o ≡ None
none_before up o p joins none = go (is_some o) refl
  where
    go : (b : Bool) → is_some o ≡ b → o ≡ None
    go false is = none_there o is
    go true is = absurd (true≢false (sym (joins.1 is) ∙ ap is_some none))

-- it was up, or not there
up_before : {X : Type 0} (up : Option X → Bool) (o p : Option X) → MayJoin up o p → up p ≡ true → (up o ≡ true) ⊎ ((up o ≡ false) × (o ≡ None))
up_before up o p joins now = go (up o) refl (is_some o) refl
  where
    go : (b : Bool) → up o ≡ b → (c : Bool) → is_some o ≡ c → (up o ≡ true) ⊎ ((up o ≡ false) × (o ≡ None))
    go true is c there = inl is
    go false is true there = absurd (true≢false (sym now ∙ joins.0 is there))
    go false is false there = inr (is, none_there o there)

nothing_gathered : HasGatheredThere [] None
nothing_gathered client = refl

nothing_kept : KeepsThere nothing_arriving None
nothing_kept table = nothing_of table

module _ (v : Wire) (gathered : Gathered) (arriving : Arrivals) (m : HoldsMemory v gathered arriving) where
  pub gathers_on : (t : ℕ) (p : Option Hosted) → MayJoin is_hosted_up (hosted_at v.world t) p → is_hosted_up p ≡ true → HasGatheredThere (gathered_at v t) (tree.get nat_cmp gathered t)
  gathers_on t p joins up = ⊎_elim (λ was. m.gathers t was)
      (λ e. subst (λ (gs : List Gathering). HasGatheredThere gs (tree.get nat_cmp gathered t)) (sym (m.gathers_none t e.0))
      (subst (λ (o : Option Gatherings). HasGatheredThere [] o) (sym (m.no_table t e.1)) nothing_gathered))
      (up_before is_hosted_up (hosted_at v.world t) p joins up)

  pub keeps_on : (c : ℕ) (p : Option Client) → MayJoin is_client_up (client_at v.world c) p → is_client_up p ≡ true → KeepsThere (arriving_at v c) (tree.get nat_cmp arriving c)
  keeps_on c p joins up = ⊎_elim (λ was. m.arrives c was)
      (λ e. subst (λ (a : arrivals.Arriving). KeepsThere a (tree.get nat_cmp arriving c)) (sym (m.arrives_none c e.0))
      (subst (λ (o : Option Arriving). KeepsThere nothing_arriving o) (sym (m.no_client c e.1)) nothing_kept))
      (up_before is_client_up (client_at v.world c) p joins up)

  pub no_table_on : (t : ℕ) (p : Option Hosted) → MayJoin is_hosted_up (hosted_at v.world t) p → p ≡ None → tree.get nat_cmp gathered t ≡ None
  no_table_on t p joins none = m.no_table t (none_before is_hosted_up (hosted_at v.world t) p joins none)

  pub no_client_on : (c : ℕ) (p : Option Client) → MayJoin is_client_up (client_at v.world c) p → p ≡ None → tree.get nat_cmp arriving c ≡ None
  no_client_on c p joins none = m.no_client c (none_before is_client_up (client_at v.world c) p joins none)

  -- ---- behind a step that starts no node

  pub memory_grown : (x : World) (packets : List PartPacket) → Grows (λ q. ⊥) v.world x → HoldsMemory (remembered (record v { world = x; packets = packets })) gathered arriving
  memory_grown x packets g = memory_is (record v { world = x; packets = packets }) gathered arriving
      (λ t up. gathers_on t (hosted_at x t) (g.tables t) up)
      (λ c up. keeps_on c (client_at x c) (g.clients c (λ e. e)) up)
      (λ t none. no_table_on t (hosted_at x t) (g.tables t) none)
      (λ c none. no_client_on c (client_at x c) (g.clients c (λ e. e)) none)

  -- ---- behind the start of a client, which keeps this then

  pub memory_noted : (x : World) (packets : List PartPacket) (c : ℕ) (a : arrivals.Arriving) (after : Arrivals) (it : Arriving) → Grows (λ q. q ≡ c) v.world x
      → is_some (client_at x c) ≡ true → Keeps it a
      → ((q : ℕ) → tree.get nat_cmp after q ≡ cond (is_at (nat_cmp c) q) (Some it) (tree.get nat_cmp arriving q))
      → HoldsMemory (remembered (record (with_arriving c a v) { world = x; packets = packets })) gathered after
  memory_noted x packets c a after it g there keeps at = memory_is (record (with_arriving c a v) { world = x; packets = packets }) gathered after
      (λ t up. gathers_on t (hosted_at x t) (g.tables t) up) arrives
      (λ t none. no_table_on t (hosted_at x t) (g.tables t) none) no_client
    where
      same : (q : ℕ) → q ≡ c → tree.get nat_cmp after q ≡ Some it
      same q e = at q ∙ ap (λ (b : Bool). cond b (Some it) (tree.get nat_cmp arriving q)) (unsigned_tied c q ∙ now)
        where
          now : (c == q) ≡ true
          now = grind (arith, nat_tests, e)

      other : (q : ℕ) → q ≢ c → tree.get nat_cmp after q ≡ tree.get nat_cmp arriving q
      other q e = at q ∙ ap (λ (b : Bool). cond b (Some it) (tree.get nat_cmp arriving q)) (unsigned_tied c q ∙ now)
        where
          now : (c == q) ≡ false
          now = grind (arith, nat_tests, e)

      arrives : (q : ℕ) → is_client_up (client_at x q) ≡ true → KeepsThere (arriving_at (with_arriving c a v) q) (tree.get nat_cmp after q)
      arrives q up = ⊎_elim
          (λ e. subst (λ (o : Option Arriving). KeepsThere (arriving_at (with_arriving c a v) q) o) (sym (same q e.0))
          (subst (λ (o : Option arrivals.Arriving). KeepsThere (or_nothing o) (Some it)) (sym e.1) keeps))
          (λ e. subst (λ (o : Option Arriving). KeepsThere (arriving_at (with_arriving c a v) q) o) (sym (other q e.0))
          (subst (λ (o : Option arrivals.Arriving). KeepsThere (or_nothing o) (tree.get nat_cmp arriving q)) (sym e.1) (keeps_on q (client_at x q) (g.clients q e.0) up)))
          (look_cases v.arriving c a q)

      no_client : (q : ℕ) → client_at x q ≡ None → tree.get nat_cmp after q ≡ None
      no_client q none = ⊎_elim
          (λ e. absurd (true≢false (sym there ∙ (ap (λ (n : ℕ). is_some (client_at x n)) (sym e.0) ∙ ap is_some none))))
          (λ e. other q e.0 ∙ no_client_on q (client_at x q) (g.clients q e.0) none)
          (look_cases v.arriving c a q)

  -- ---- behind the start of a Store, where no table that was down has gathered anything

  pub memory_started : (x : World) (packets : List PartPacket) → ((t : ℕ) → is_hosted_up (hosted_at v.world t) ≡ false → tree.get nat_cmp gathered t ≡ None)
      → ((t : ℕ) → hosted_at x t ≡ None → hosted_at v.world t ≡ None) → x.clients ≡ v.world.clients
      → HoldsMemory (remembered (record v { world = x; packets = packets })) gathered arriving
  memory_started x packets forgotten there same = memory_is (record v { world = x; packets = packets }) gathered arriving
      (λ t up. gathers t (is_hosted_up (hosted_at v.world t)) refl)
      (λ c up. m.arrives c (sym (ap is_client_up (at c)) ∙ up)) (λ t gone. m.no_table t (there t gone)) (λ c gone. m.no_client c (sym (at c) ∙ gone))
    where
      gathers : (t : ℕ) (b : Bool) → is_hosted_up (hosted_at v.world t) ≡ b → HasGatheredThere (gathered_at v t) (tree.get nat_cmp gathered t)
      gathers t true is = m.gathers t is
      gathers t false is = subst (λ (gs : List Gathering). HasGatheredThere gs (tree.get nat_cmp gathered t)) (sym (m.gathers_none t is))
          (subst (λ (o : Option Gatherings). HasGatheredThere [] o) (sym (forgotten t is)) nothing_gathered)

      at : (c : ℕ) → client_at x c ≡ client_at v.world c
      at c = ap (λ (cs : List (ℕ × Client)). lookup (is_at (nat_cmp c)) cs) same

  -- ---- behind a Store that joins: what was gathered is lost

  pub memory_joined : (x : World) (packets : List PartPacket) (none : Gathered) → ((t : ℕ) → tree.get nat_cmp none t ≡ None) → x.clients ≡ v.world.clients
      → HoldsMemory (remembered (record v { world = x; packets = packets; gathered = [] })) none arriving
  memory_joined x packets none cleared same = memory_is (record v { world = x; packets = packets; gathered = [] }) none arriving
      (λ t up. subst (λ (o : Option Gatherings). HasGatheredThere [] o) (sym (cleared t)) nothing_gathered)
      (λ c up. m.arrives c (sym (ap is_client_up (at c)) ∙ up)) (λ t gone. cleared t) (λ c gone. m.no_client c (sym (at c) ∙ gone))
    where
      at : (c : ℕ) → client_at x c ≡ client_at v.world c
      at c = ap (λ (cs : List (ℕ × Client)). lookup (is_at (nat_cmp c)) cs) same

  -- what tables that are down have isn't looked at
  pub memory_forgotten : (less : Gathered) → ((t : ℕ) → tree.get nat_cmp less t ≡ (if is_hosted_up (hosted_at v.world t) then tree.get nat_cmp gathered t else None))
      → HoldsMemory v less arriving
  memory_forgotten less at = record {
    gathers = λ t up. subst (λ (o : Option Gatherings). HasGatheredThere (gathered_at v t) o)
        (sym (at t ∙ ap (λ (b : Bool). if b then tree.get nat_cmp gathered t else None) up)) (m.gathers t up);
    arrives = m.arrives;
    gathers_none = m.gathers_none;
    arrives_none = m.arrives_none;
    no_table = λ t none. at t ∙ ap (λ (b : Bool). if b then tree.get nat_cmp gathered t else None) (ap is_hosted_up none);
    no_client = m.no_client;
  }

  -- ---- behind what comes to a table that is up, and to a client

  module _ (table : ℕ) (gs : List Gathering) (after : Gathered) (up : is_hosted_up (hosted_at v.world table) ≡ true)
      (here : HasGatheredThere gs (tree.get nat_cmp after table)) (others : (q : ℕ) → q ≢ table → tree.get nat_cmp after q ≡ tree.get nat_cmp gathered q) where
    pub memory_gathered : HoldsMemory (with_gathered table gs v) after arriving
    memory_gathered = record {
      gathers = λ t now. ⊎_elim
          (λ e. subst (λ (o : Option (List Gathering)). HasGatheredThere (or_no_gatherings o) (tree.get nat_cmp after t)) (sym e.1)
          (subst (λ (n : ℕ). HasGatheredThere gs (tree.get nat_cmp after n)) (sym e.0) here))
          (λ e. subst (λ (o : Option (List Gathering)). HasGatheredThere (or_no_gatherings o) (tree.get nat_cmp after t)) (sym e.1)
          (subst (λ (o : Option Gatherings). HasGatheredThere (gathered_at v t) o) (sym (others t e.0)) (m.gathers t now)))
          (look_cases v.gathered table gs t);
      arrives = m.arrives;
      gathers_none = λ t down. ⊎_elim
          (λ e. absurd (true≢false (sym up ∙ (ap (λ (n : ℕ). is_hosted_up (hosted_at v.world n)) (sym e.0) ∙ down))))
          (λ e. ap or_no_gatherings e.1 ∙ m.gathers_none t down)
          (look_cases v.gathered table gs t);
      arrives_none = m.arrives_none;
      no_table = λ t none. ⊎_elim
          (λ e. absurd (true≢false (sym up ∙ (ap (λ (n : ℕ). is_hosted_up (hosted_at v.world n)) (sym e.0) ∙ ap is_hosted_up none))))
          (λ e. others t e.0 ∙ m.no_table t none)
          (look_cases v.gathered table gs t);
      no_client = m.no_client;
    }

  module _ (c : ℕ) (a : arrivals.Arriving) (after : Arrivals) (up : is_client_up (client_at v.world c) ≡ true)
      (here : KeepsThere a (tree.get nat_cmp after c)) (others : (q : ℕ) → q ≢ c → tree.get nat_cmp after q ≡ tree.get nat_cmp arriving q) where
    pub memory_arrived : HoldsMemory (with_arriving c a v) gathered after
    memory_arrived = record {
      gathers = m.gathers;
      arrives = λ q now. ⊎_elim
          (λ e. subst (λ (o : Option arrivals.Arriving). KeepsThere (or_nothing o) (tree.get nat_cmp after q)) (sym e.1)
          (subst (λ (n : ℕ). KeepsThere a (tree.get nat_cmp after n)) (sym e.0) here))
          (λ e. subst (λ (o : Option arrivals.Arriving). KeepsThere (or_nothing o) (tree.get nat_cmp after q)) (sym e.1)
          (subst (λ (o : Option Arriving). KeepsThere (arriving_at v q) o) (sym (others q e.0)) (m.arrives q now)))
          (look_cases v.arriving c a q);
      gathers_none = m.gathers_none;
      arrives_none = λ q down. ⊎_elim
          (λ e. absurd (true≢false (sym up ∙ (ap (λ (n : ℕ). is_client_up (client_at v.world n)) (sym e.0) ∙ down))))
          (λ e. ap or_nothing e.1 ∙ m.arrives_none q down)
          (look_cases v.arriving c a q);
      no_table = m.no_table;
      no_client = λ q none. ⊎_elim
          (λ e. absurd (true≢false (sym up ∙ (ap (λ (n : ℕ). is_client_up (client_at v.world n)) (sym e.0) ∙ ap is_client_up none))))
          (λ e. others q e.0 ∙ m.no_client q none)
          (look_cases v.arriving c a q);
    }

  -- ---- behind a node that falls: what it had doesn't matter

  -- of the Store that falls only this table's gatherings may have gone on
  pub memory_store_fell : (kept : Wire) (packets : List PartPacket) (table : ℕ) → has_store v.world (owner_of v.world table) ≡ true → kept.arriving ≡ v.arriving
      → ((t : ℕ) → t ≢ table → gathered_at kept t ≡ gathered_at v t)
      → HoldsMemory (remembered (record kept { world = (store_falls (owner_of v.world table) v.world).world; packets = packets })) gathered arriving
  memory_store_fell kept packets table declared same others = memory_is (record kept { world = x; packets = packets }) gathered arriving
      (λ t up. by t up (table == t) refl)
      (λ c up. subst (λ (given : List (ℕ × arrivals.Arriving)). KeepsThere (or_nothing (lookup (is_at (nat_cmp c)) given)) (tree.get nat_cmp arriving c)) (sym same)
      (keeps_on c (client_at x c) (g.clients c (λ e. e)) up))
      (λ t none. no_table_on t (hosted_at x t) (g.tables t) none)
      (λ c none. no_client_on c (client_at x c) (g.clients c (λ e. e)) none)
    where
      x : World
      x = (store_falls (owner_of v.world table) v.world).world

      g : Grows (λ q. ⊥) v.world x
      g = grows_last (λ q. ⊥) v.world x (falls_last (λ q. ⊥) v.world (owner_of v.world table))

      by : (t : ℕ) → is_hosted_up (hosted_at x t) ≡ true → (b : Bool) → (table == t) ≡ b → HasGatheredThere (gathered_at kept t) (tree.get nat_cmp gathered t)
      by t up true is = absurd (true≢false (sym up ∙ (ap (λ (n : ℕ). is_hosted_up (hosted_at x n)) (sym (eqb-true table t is)) ∙ owner_falls v.world table declared)))
      by t up false is = subst (λ (gs : List Gathering). HasGatheredThere gs (tree.get nat_cmp gathered t)) (sym (others t (grind (arith, nat_tests, is))))
          (gathers_on t (hosted_at x t) (g.tables t) up)

  pub memory_client_fell : (kept : Wire) (packets : List PartPacket) (c : ℕ) → kept.gathered ≡ v.gathered → ((d : ℕ) → d ≢ c → arriving_at kept d ≡ arriving_at v d)
      → HoldsMemory (remembered (record kept { world = (client_falls c v.world).world; packets = packets })) gathered arriving
  memory_client_fell kept packets c same others = memory_is (record kept { world = x; packets = packets }) gathered arriving
      (λ t up. subst (λ (gs : List (ℕ × List Gathering)). HasGatheredThere (or_no_gatherings (lookup (is_at (nat_cmp t)) gs)) (tree.get nat_cmp gathered t)) (sym same)
      (gathers_on t (hosted_at x t) (g.tables t) up))
      (λ q up. by q up (c == q) refl)
      (λ t none. no_table_on t (hosted_at x t) (g.tables t) none)
      (λ q none. no_client_on q (client_at x q) (g.clients q (λ e. e)) none)
    where
      x : World
      x = (client_falls c v.world).world

      g : Grows (λ q. ⊥) v.world x
      g = grows_last (λ q. ⊥) v.world x (client_last (λ q. ⊥) v.world c (client.Crash messages.FailedBefore) no_shape (inl tt))

      by : (q : ℕ) → is_client_up (client_at x q) ≡ true → (b : Bool) → (c == q) ≡ b → KeepsThere (arriving_at kept q) (tree.get nat_cmp arriving q)
      by q up true is = absurd (true≢false (sym up ∙ (ap (λ (n : ℕ). is_client_up (client_at x n)) (sym (eqb-true c q is)) ∙ client_falls_down v.world c)))
      by q up false is =
          subst (λ (a : arrivals.Arriving). KeepsThere a (tree.get nat_cmp arriving q)) (sym (others q (grind (arith, nat_tests, is)))) (keeps_on q (client_at x q) (g.clients q (λ e. e)) up)
