-- What moves of tables make of the Stores.
use Rattle.std.proofs.Common.{◌≡◌, ◌≢◌, ℕ, ◌++◌, Bool, true, false, cond, true≢false, List, [], ◌∷◌, Option, Some, None, Ok, refl, sym, ap, ◌∙◌, subst, append-nil, append_assoc}
use Rattle.std.specs.Prelude.{not, ◌||◌, IsSome, option_map, if◌then◌else◌}
use Rattle.std.specs.Ordering.{nat_cmp}
use Rattle.std.specs.FinSet as set
use Rattle.std.specs.List.{list_any}
use Rattle.std.specs.List.Sorted.{IsStrictlySortedBy}
use Rattle.std.specs.BTreeMap.{is_at}
use Rattle.std.specs.BTreeMap as tree
use Rattle.std.specs.Map.{keys_of}
use Rattle.std.proofs.lemmas.List.Elements.{filter-append}
use Rattle.disk_trait.specs.Calls.{DiskState}
use Rattle.stab_base.specs.declared.node.Node.{Node}
use Rattle.stab_base.specs.declared.node.Node.TheVariants as nodes
use Rattle.stab_base.specs.declared.step.Step.TheVariants as steps
use Rattle.row_value.specs.declared.schema.Schema.{Schema}
use Rattle.step_tables.specs.Messages.{Luck}
use Rattle.step_tables.specs.Messages as messages
use Rattle.step_tables.specs.StoreMoves.{Work}
use Rattle.world_tables.specs.World.{World, Outbox, Moved, Hosted, still, and_then, has_node, without_down, with_down, schema_at, hosted_at, owner_of, has_store, tables_of, is_unmade, has_unmade}
use Rattle.world_tables.specs.World.{tables_fall, tables_start, store_falls, or_falls, write_next, move_table, busy_table, busy_step, table_crashes, store_crashes, crash_luck, first_luck, other_lucks}
use Rattle.store_host.specs.declared.hosted.Hosted as here
use Rattle.store_host.specs.declared.hosted.TableOut.{TableOut}
use Rattle.store_host.specs.declared.host.StoreHost.{StoreHost}
use Rattle.store_host.specs.declared.store.StoreState.{StoreState}
use Rattle.store_host.specs.Holds.{HostedThere, HoldsTables, StoreThere, IsPartThere, AreDeclared, AreUp, AreUpBut, HoldsParts, HoldsStore, AreTables, is_up_by, is_up_at, outs_of, says_something, said_by}
use Rattle.store_host.specs.Joining.{any_unmade, unmade_in, risen}
use Rattle.store_host.specs.Calls.{AreMoved, IsMoved, HasCause, AreCrashed, restart_moves}
use Rattle.store_host.proofs.Maps.{at_same, has}
use Rattle.store_host.proofs.Alike.{IsKept, IsAlike, IsAlikeBut, alike_but, owner_same, schema_same, has_same, tables_same, declared_same, store_same, other_same, part_same}
use Rattle.store_host.proofs.Alike.{move_alike, crash_alike, falls_alike, restart_kept}
use Rattle.store_host.proofs.Downs.{at_itself, same_or_apart, down_itself, down_other, still_gone, others_stay, declared_without, of_owner, any_alike, busy_owner}
use Rattle.store_host.proofs.Moving.{falls_silent}
use Rattle.store_host.proofs.Ups.{work_up, move_but, crash_but, falls_other, restart_made, restart_but, restart_all, restart_up}

-- ---- worlds that look the same

pub record AreSame (w v : World) : Type 0 where
  pub stores : v.stores ≡ w.stores
  pub schemas : v.schemas ≡ w.schemas
  pub keys : keys_of v.tables ≡ keys_of w.tables
  pub looks : (q : ℕ) → hosted_at v q ≡ hosted_at w q
  pub downs : v.downs ≡ w.downs

module _ {D : Type 0} (state : D → DiskState) (w v : World) (s : AreSame w v) where
  kept : IsKept v w
  kept = record { stores = sym s.stores; schemas = sym s.schemas; keys = sym s.keys }

  alike : IsAlike v w
  alike = record { kept = kept; made = λ q. sym (ap is_unmade (s.looks q)) }

  pub holds_same : (host : StoreHost D) → HoldsStore state v host → HoldsStore state w host
  holds_same host h = record {
    ring = h.ring ∙ ap (λ (ss : List ℕ). set.from_list ss) s.stores;
    stores = λ q. store_same v w alike q (ap (λ (ds : List Node). has_node ds (nodes.Store q)) (sym s.downs)) (tree.get nat_cmp host.stores q) (h.stores q);
    tables = record {
      there = λ q.
          subst (λ (n : ℕ). HostedThere state n (schema_at w q) q (hosted_at w q) (tree.get nat_cmp host.tables q)) (sym (owner_same v w kept q))
          (subst (λ (o : Option Schema). HostedThere state (owner_of v q) o q (hosted_at w q) (tree.get nat_cmp host.tables q)) (sym (schema_same v w kept q))
          (subst (λ (o : Option Hosted). HostedThere state (owner_of v q) (schema_at v q) q o (tree.get nat_cmp host.tables q)) (s.looks q) (h.tables.there q)));
      keys = sym s.keys ∙ h.tables.keys;
      rising = subst (λ (ks : List ℕ). IsStrictlySortedBy nat_cmp ks) s.keys h.tables.rising;
    };
    downs = declared_same v w kept w.downs (subst (λ (ds : List Node). AreDeclared v ds) s.downs h.downs);
    ups = λ q hosted at made out.
        h.ups q hosted (s.looks q ∙ at) made (ap (λ (ds : List Node). has_node ds (nodes.Store (owner_of v q))) s.downs ∙ (ap (λ (n : ℕ). has_node w.downs (nodes.Store n)) (sym (owner_same v w kept q)) ∙ out));
  }

-- ---- moves put together

falls_well : (number : ℕ) (m : Moved) → m.failed ≡ false → or_falls number m ≡ m
falls_well number m is = ap (λ (b : Bool). if b then and_then m (store_falls number) else m) is

falls_badly : (number : ℕ) (m : Moved) → m.failed ≡ true → or_falls number m ≡ and_then m (store_falls number)
falls_badly number m is = ap (λ (b : Bool). if b then and_then m (store_falls number) else m) is

pub said_both : (m : Moved) (f : World → Moved) → said_by (and_then m f) ≡ said_by m ++ said_by (f m.world)
said_both m f = filter-append says_something m.outs (f m.world).outs

pub no_cause : {D T : Type 0} (state : D → DiskState) (tables : tree.BTreeMap ℕ (here.Hosted D)) (x : T) → HasCause state tables tables (Ok x)
no_cause state tables x = record { counted = λ no q. refl; cause = λ failed. absurd cc; only = tt }

-- ---- what the tables say of whether they were made

unmade_as : {D : Type 0} (state : D → DiskState) (store : ℕ) (schema : Option Schema) (table : ℕ) (o : Option Hosted) (p : Option (here.Hosted D)) → HostedThere state store schema table o p
    → unmade_in p ≡ is_unmade o
unmade_as state store schema table None None h = refl
unmade_as state store schema table None (Some it) h = absurd h
unmade_as state store schema table (Some hosted) None h = absurd h
unmade_as state store schema table (Some hosted) (Some it) h = ap not h.made

pub unmade_is : {D : Type 0} (state : D → DiskState) (w : World) (tables : tree.BTreeMap ℕ (here.Hosted D)) → HoldsTables state w tables → (numbers : List ℕ) (store : ℕ) → numbers ≡ tables_of w store
    → any_unmade tables numbers ≡ has_unmade w store
unmade_is {D} state w tables h numbers store is =
    any_alike (λ table. unmade_in (tree.get nat_cmp tables table)) (λ table. is_unmade (hosted_at w table)) numbers
    (λ table there. unmade_as state (owner_of w table) (schema_at w table) table (hosted_at w table) (tree.get nat_cmp tables table) (h.there table))
    ∙ ap (λ (ns : List ℕ). list_any (λ table. is_unmade (hosted_at w table)) ns) is

-- ---- a fall

module _ {D : Type 0} (state : D → DiskState) (w : World) (number : ℕ) (old : StoreHost D) (h : HoldsParts state w number old) (declared : has_store w number ≡ true) where
  abbrev v : World
  v = (store_falls number w).world

  falls_kept : IsAlike w v
  falls_kept =
      let a = falls_alike (tables_of w number) w h.tables.rising in
      record { kept = record { stores = a.kept.stores; schemas = a.kept.schemas; keys = a.kept.keys }; made = a.made }

  downs_are : v.downs ≡ nodes.Store number ∷ w.downs
  downs_are = ap (λ (ds : List Node). nodes.Store number ∷ ds) (falls_silent (tables_of w number) w).downs

  down_is : (q : ℕ) (b : Bool) → has_node (nodes.Store number ∷ w.downs) (nodes.Store q) ≡ b → has_node v.downs (nodes.Store q) ≡ b
  down_is q b is = ap (λ (ds : List Node). has_node ds (nodes.Store q)) downs_are ∙ is

  fallen_state : (tables : tree.BTreeMap ℕ (here.Hosted D)) → HoldsTables state v tables → (s : StoreState) (late : Bool) → late ≡ any_unmade tables s.tables → IsPartThere w number (Some s)
      → StoreThere v number (Some (record s { is_down = true; is_late = late }))
  fallen_state tables k s late is p = record {
    declared = has_same w v falls_kept.kept number ∙ declared;
    tables = p.1 ∙ sym (tables_same w v falls_kept.kept number);
    down = sym (down_is number true (down_itself number w.downs));
    late = is ∙ unmade_is state v tables k s.tables number (p.1 ∙ sym (tables_same w v falls_kept.kept number));
  }

  module _ (tables : tree.BTreeMap ℕ (here.Hosted D)) (stores : tree.BTreeMap ℕ StoreState) (s : StoreState) (late : Bool) (late_is : late ≡ any_unmade tables s.tables)
      (there : Some s ≡ tree.get nat_cmp old.stores number)
      (u : (q : ℕ) → tree.get nat_cmp stores q ≡ cond (is_at (nat_cmp number) q) (Some (record s { is_down = true; is_late = late })) (tree.get nat_cmp old.stores q)) where
    fallen_stores : HoldsTables state v tables → (q : ℕ) → StoreThere v q (tree.get nat_cmp stores q)
    fallen_stores k q = subst (λ (o : Option StoreState). StoreThere v q o) (sym (u q)) (one (is_at (nat_cmp number) q) refl)
      where
        new : StoreState
        new = record s { is_down = true; is_late = late }

        other : is_at (nat_cmp number) q ≡ false → q ≢ number
        other is same = true≢false (sym (ap (λ (n : ℕ). is_at (nat_cmp number) n) same ∙ at_itself number) ∙ is)

        one : (b : Bool) → is_at (nat_cmp number) q ≡ b → StoreThere v q (cond b (Some new) (tree.get nat_cmp old.stores q))
        one true is = subst (λ (n : ℕ). StoreThere v n (Some new)) (at_same number q is) (fallen_state tables k s late late_is (subst (λ (o : Option StoreState). IsPartThere w number o) (sym there) h.own))
        one false is = other_same number w v (alike_but number w v falls_kept) q (other is) (down_is q (has_node w.downs (nodes.Store q)) (down_other number q w.downs (other is)))
            (tree.get nat_cmp old.stores q) (h.others q (other is))

    pub fallen : HoldsTables state (tables_fall (tables_of w number) w).world tables → IsMoved state old (record old { tables = tables; stores = stores }) (store_falls number w)
    fallen k =
        let held : HoldsTables state v tables = record { there = k.there; keys = k.keys; rising = k.rising } in
        let own = owner_same w v falls_kept.kept in
        record {
          held = record {
            ring = h.ring ∙ ap (λ (ss : List ℕ). set.from_list ss) (sym falls_kept.kept.stores);
            stores = fallen_stores held;
            tables = held;
            downs = subst (λ (ds : List Node). AreDeclared v ds) (sym downs_are) (has_same w v falls_kept.kept number ∙ declared, declared_same w v falls_kept.kept w.downs h.downs);
            ups = λ q hosted at made out. same_or_apart (owner_of w q) number
                (λ same. absurd (true≢false (sym (down_is (owner_of v q) true (ap (λ (n : ℕ). has_node (nodes.Store number ∷ w.downs) (nodes.Store n)) (own q ∙ same) ∙ down_itself number w.downs)) ∙ out)))
                (λ apart. h.ups q hosted (sym (falls_other (tables_of w number) w q (away q apart)) ∙ at) made
                (sym (down_is (owner_of v q) (has_node w.downs (nodes.Store (owner_of w q)))
                (ap (λ (n : ℕ). has_node (nodes.Store number ∷ w.downs) (nodes.Store n)) (own q) ∙ down_other number (owner_of w q) w.downs apart)) ∙ out) apart);
          };
          outs = sym (ap (λ (l : List Outbox). outs_of old ++ l) (said_both (tables_fall (tables_of w number) w) (λ x. still (with_down (nodes.Store number) x))
              ∙ ap (λ (l : List Outbox). l ++ []) (falls_silent (tables_of w number) w).said) ∙ append-nil (outs_of old));
        }
      where
        away : (q : ℕ) → owner_of w q ≢ number → has (tables_of w number) q ≡ false
        away q apart = go (has (tables_of w number) q) refl
          where
            go : (b : Bool) → has (tables_of w number) q ≡ b → has (tables_of w number) q ≡ false
            go true is = absurd (apart (of_owner w number q is))
            go false is = is

-- ---- moves of the Stores

module _ {D : Type 0} (state : D → DiskState) (w : World) (old : StoreHost D) (h : HoldsStore state w old) where
  pub held_tables : AreTables state old.tables
  held_tables = (w, h.tables)

  pub stays : IsMoved state old old (still w)
  stays = record { held = h; outs = sym (append-nil (outs_of old)) }

  -- the Stores that one is about to leave
  pub as_parts : (number : ℕ) → HoldsParts state w number old
  as_parts number = record {
    ring = h.ring;
    own = part (tree.get nat_cmp old.stores number) (h.stores number);
    others = λ q apart. h.stores q;
    tables = h.tables;
    downs = h.downs;
    ups = λ q hosted at made out apart. h.ups q hosted at made out;
  }
    where
      part : (o : Option StoreState) → StoreThere w number o → IsPartThere w number o
      part None k = k
      part (Some s) k = (k.declared, k.tables)

  module _ (tables : tree.BTreeMap ℕ (here.Hosted D)) (outs : List TableOut) where
    -- behind moves that make no table
    pub moved_is : (fails : Bool) (m : Moved) → AreMoved state w tables old.outs outs fails m → IsAlike w m.world → AreUp m.world → IsMoved state old (record old { tables = tables; outs = outs }) m
    moved_is fails m a alike ups = record {
      held = record {
        ring = h.ring ∙ ap (λ (ss : List ℕ). set.from_list ss) (sym alike.kept.stores);
        stores = λ q. store_same w m.world alike q (ap (λ (ds : List Node). has_node ds (nodes.Store q)) a.downs) (tree.get nat_cmp old.stores q) (h.stores q);
        tables = a.held;
        downs = declared_same w m.world alike.kept m.world.downs (subst (λ (ds : List Node). AreDeclared w ds) (sym a.downs) h.downs);
        ups = ups;
      };
      outs = a.outs;
    }

    -- and behind moves of one Store, which is about to fall
    pub moved_parts : (number : ℕ) (v : World) → HoldsTables state v tables → v.downs ≡ w.downs → IsAlikeBut number w v → AreUpBut v number → HoldsParts state v number (record old { tables = tables; outs = outs })
    moved_parts number v held downs alike ups = record {
      ring = h.ring ∙ ap (λ (ss : List ℕ). set.from_list ss) (sym alike.kept.stores);
      own = part_same w v alike.kept number (tree.get nat_cmp old.stores number) (as_parts number).own;
      others = λ q apart. other_same number w v alike q apart (ap (λ (ds : List Node). has_node ds (nodes.Store q)) downs) (tree.get nat_cmp old.stores q) (h.stores q);
      tables = held;
      downs = declared_same w v alike.kept v.downs (subst (λ (ds : List Node). AreDeclared w ds) (sym downs) h.downs);
      ups = ups;
    }

    -- moves, and then others
    pub then_moved : (new : StoreHost D) (fails : Bool) (m : Moved) (f : World → Moved) → AreMoved state w tables old.outs outs fails m
        → IsMoved state (record old { tables = tables; outs = outs }) new (f m.world) → IsMoved state old new (and_then m f)
    then_moved new fails m f a k = record {
      held = k.held;
      outs = k.outs ∙ (ap (λ (l : List Outbox). l ++ said_by (f m.world)) a.outs
          ∙ (append_assoc (outs_of old) (said_by m) (said_by (f m.world)) ∙ ap (λ (l : List Outbox). outs_of old ++ l) (sym (said_both m f))));
    }

  -- ---- a write

  module _ (number : ℕ) where
    pub write_done : (tables : tree.BTreeMap ℕ (here.Hosted D)) (outs : List TableOut) (table : ℕ) → Some table ≡ busy_table w number
        → AreMoved state w tables old.outs outs false (move_table table (Work messages.Done) w)
        → IsMoved state old (record old { tables = tables; outs = outs }) (write_next number messages.Done (busy_table w number) w)
    write_done tables outs table busy a =
        let m = move_table table (Work messages.Done) w in
        subst (λ (o : Option ℕ). IsMoved state old (record old { tables = tables; outs = outs }) (write_next number messages.Done o w)) busy
        (subst (λ (m : Moved). IsMoved state old (record old { tables = tables; outs = outs }) m) (sym (falls_well number m a.failed))
        (moved_is tables outs false m a (move_alike w table (Work messages.Done) h.tables.rising) (work_up w table h.ups)))

    pub work_parts : (tables : tree.BTreeMap ℕ (here.Hosted D)) (outs : List TableOut) (table : ℕ) (luck : Luck) → Some table ≡ busy_table w number → (fails : Bool)
        → AreMoved state w tables old.outs outs fails (move_table table (Work luck) w) → HoldsParts state (move_table table (Work luck) w).world number (record old { tables = tables; outs = outs })
    work_parts tables outs table luck busy fails a =
        let m = move_table table (Work luck) w in
        moved_parts tables outs number m.world a.held a.downs (alike_but number w m.world (move_alike w table (Work luck) h.tables.rising))
        (move_but w number table (Work luck) (busy_owner w number table (sym busy)) h.ups)

    module _ (new : StoreHost D) (declared : has_store w number ≡ true) where
      pub write_failed : (tables : tree.BTreeMap ℕ (here.Hosted D)) (outs : List TableOut) (table : ℕ) (luck : Luck) → Some table ≡ busy_table w number
          → AreMoved state w tables old.outs outs true (move_table table (Work luck) w)
          → ((x : World) → HoldsParts state x number (record old { tables = tables; outs = outs }) → has_store x number ≡ true
          → IsMoved state (record old { tables = tables; outs = outs }) new (store_falls number x))
          → IsMoved state old new (write_next number luck (busy_table w number) w)
      write_failed tables outs table luck busy a falls =
          let m = move_table table (Work luck) w in
          subst (λ (o : Option ℕ). IsMoved state old new (write_next number luck o w)) busy
          (subst (λ (x : Moved). IsMoved state old new x) (sym (falls_badly number m a.failed)) (then_moved tables outs new true m (store_falls number) a
          (falls m.world (work_parts tables outs table luck busy true a) (has_same w m.world (move_alike w table (Work luck) h.tables.rising).kept number ∙ declared))))

    pub nothing_written : None ≡ busy_table w number → IsMoved state old old (write_next number messages.Done (busy_table w number) w) × (steps.Idle ≡ busy_step w (busy_table w number))
    nothing_written none = subst (λ (o : Option ℕ). IsMoved state old old (write_next number messages.Done o w) × (steps.Idle ≡ busy_step w o)) none (stays, refl)

-- ---- a Store that is up is declared

pub up_declared : {D : Type 0} (state : D → DiskState) (w : World) (host : StoreHost D) → HoldsStore state w host → (number : ℕ) → is_up_at host number ≡ true → has_store w number ≡ true
up_declared state w host h number up = go (tree.get nat_cmp host.stores number) (h.stores number) up
  where
    go : (o : Option StoreState) → StoreThere w number o → is_up_by o ≡ true → has_store w number ≡ true
    go None k up = absurd (true≢false (sym up))
    go (Some s) k up = k.declared

-- ---- a crash

module _ {D : Type 0} (state : D → DiskState) (w : World) (old : StoreHost D) (h : HoldsStore state w old) (number : ℕ) (busy : Option ℕ) (is : busy ≡ busy_table w number) where
  any_outs : (tables : tree.BTreeMap ℕ (here.Hosted D)) (m : Moved) → AreMoved state w tables [] [] false m → AreMoved state w tables old.outs old.outs false m
  any_outs tables m a = record {
    held = a.held;
    outs = sym (append-nil (outs_of old)) ∙ ap (λ (l : List Outbox). outs_of old ++ l) a.outs;
    downs = a.downs;
    failed = a.failed;
  }

  abbrev luck_by : ℕ → List Luck → Luck
  luck_by calls lucks = crash_luck calls (other_lucks lucks) (first_luck lucks)

  pub crash_parts : (tables : tree.BTreeMap ℕ (here.Hosted D)) (calls : ℕ) (a : AreCrashed state w busy calls old.tables tables)
      → HoldsParts state (table_crashes (luck_by calls a.0) busy w).world number (record old { tables = tables })
  crash_parts tables calls a =
      let m = table_crashes (luck_by calls a.0) busy w in
      moved_parts state w old h tables old.outs number m.world a.1.held a.1.downs (alike_but number w m.world (crash_alike w busy (luck_by calls a.0) h.tables.rising))
      (subst (λ (o : Option ℕ). AreUpBut (table_crashes (luck_by calls a.0) o w).world number) (sym is) (crash_but w number (luck_by calls a.0) h.ups))

  pub crash_falls : (new : StoreHost D) → has_store w number ≡ true → (tables : tree.BTreeMap ℕ (here.Hosted D)) (calls : ℕ) (a : AreCrashed state w busy calls old.tables tables)
      → ((x : World) → HoldsParts state x number (record old { tables = tables }) → has_store x number ≡ true → IsMoved state (record old { tables = tables }) new (store_falls number x))
      → IsMoved state old new (store_crashes number calls a.0 w)
  crash_falls new declared tables calls a falls =
      let luck = luck_by calls a.0 in
      let m = table_crashes luck busy w in
      subst (λ (o : Option ℕ). IsMoved state old new (and_then (table_crashes luck o w) (store_falls number))) is
      (then_moved state w old h tables old.outs new false m (store_falls number) (any_outs tables m a.1)
      (falls m.world (crash_parts tables calls a) (has_same w m.world (crash_alike w busy luck h.tables.rising).kept number ∙ declared)))

-- ---- a start

module _ {D : Type 0} (state : D → DiskState) (w : World) (old : StoreHost D) (h : HoldsStore state w old) (number : ℕ) (tables : tree.BTreeMap ℕ (here.Hosted D)) (outs : List TableOut) (lucks : List Luck) where
  abbrev starts : Moved
  starts = restart_moves (tables_of w number) lucks w

  restarts : IsKept w starts.world
  restarts = restart_kept (tables_of w number) lucks w h.tables.rising

  pub start_parts : (fails : Bool) → AreMoved state w tables old.outs outs fails starts → HoldsParts state starts.world number (record old { tables = tables; outs = outs })
  start_parts fails a =
      moved_parts state w old h tables outs number starts.world a.held a.downs (record { kept = restarts; made = restart_made w number lucks restarts }) (restart_but w number lucks restarts a.downs h.ups)

  pub start_failed : has_store w number ≡ true → (mid new : StoreHost D) → mid ≡ record old { tables = tables; outs = outs } → AreMoved state w tables old.outs outs true starts
      → ((x : World) → HoldsParts state x number mid → has_store x number ≡ true → IsMoved state mid new (store_falls number x))
      → (starts.failed ≡ true) × IsMoved state old new (and_then starts (store_falls number))
  start_failed declared mid new same a falls = (
    a.failed,
    then_moved state w old h tables outs new true starts (store_falls number) a
        (subst (λ (host : StoreHost D). IsMoved state host new (store_falls number starts.world)) same
        (falls starts.world (subst (λ (host : StoreHost D). HoldsParts state starts.world number host) (sym same) (start_parts true a)) (has_same w starts.world restarts number ∙ declared))),
  )

  module _ (declared : has_store w number ≡ true) (a : AreMoved state w tables old.outs outs false starts) where
    abbrev up : World
    up = without_down (nodes.Store number) starts.world

    fine : (tables_start (tables_of w number) lucks (tables_fall (tables_of w number) w).world).failed ≡ false
    fine = ap (λ (b : Bool). b || (tables_start (tables_of w number) lucks (tables_fall (tables_of w number) w).world).failed) (sym (falls_silent (tables_of w number) w).failed) ∙ a.failed

    risen_state : (o : Option StoreState) → StoreThere w number o → StoreThere up number (option_map risen o)
    risen_state None k = has_same w starts.world restarts number ∙ k
    risen_state (Some s) k = record {
      declared = has_same w starts.world restarts number ∙ k.declared;
      tables = k.tables ∙ sym (tables_same w starts.world restarts number);
      down = sym (still_gone (nodes.Store number) starts.world.downs);
      late = sym (restart_all w number lucks restarts fine);
    }

    other_state : (q : ℕ) → q ≢ number → StoreThere up q (tree.get nat_cmp old.stores q)
    other_state q apart =
        other_same number w up (record { kept = record { stores = restarts.stores; schemas = restarts.schemas; keys = restarts.keys }; made = restart_made w number lucks restarts }) q apart
        (others_stay number q apart starts.world.downs ∙ ap (λ (ds : List Node). has_node ds (nodes.Store q)) a.downs) (tree.get nat_cmp old.stores q) (h.stores q)

    start_at : (stores : tree.BTreeMap ℕ StoreState)
        → ((q : ℕ) → tree.get nat_cmp stores q ≡ (if is_at (nat_cmp number) q then option_map risen (tree.get nat_cmp old.stores q) else tree.get nat_cmp old.stores q))
        → (starts.failed ≡ false) × IsMoved state old (record old { tables = tables; outs = outs; stores = stores }) (and_then starts (λ x. still (without_down (nodes.Store number) x)))
    start_at stores u = (
      a.failed,
      record {
        held = record {
          ring = h.ring ∙ ap (λ (ss : List ℕ). set.from_list ss) (sym restarts.stores);
          stores = λ q. subst (λ (o : Option StoreState). StoreThere up q o) (sym (u q)) (one q (is_at (nat_cmp number) q) refl);
          tables = record { there = a.held.there; keys = a.held.keys; rising = a.held.rising };
          downs = declared_without up (nodes.Store number) starts.world.downs
              (declared_same w up (record { stores = restarts.stores; schemas = restarts.schemas; keys = restarts.keys }) starts.world.downs (subst (λ (ds : List Node). AreDeclared w ds) (sym a.downs) h.downs));
          ups = restart_up w number lucks restarts fine declared a.downs h.ups;
        };
        outs = a.outs ∙ ap (λ (l : List Outbox). outs_of old ++ l) (sym (said_both starts (λ x. still (without_down (nodes.Store number) x)) ∙ append-nil (said_by starts)));
      },
    )
      where
        one : (q : ℕ) (b : Bool) → is_at (nat_cmp number) q ≡ b → StoreThere up q (if b then option_map risen (tree.get nat_cmp old.stores q) else tree.get nat_cmp old.stores q)
        one q true is =
            subst (λ (n : ℕ). StoreThere up n (option_map risen (tree.get nat_cmp old.stores n))) (at_same number q is) (risen_state (tree.get nat_cmp old.stores number) (h.stores number))
        one q false is = other_state q (λ same. true≢false (sym (ap (λ (n : ℕ). is_at (nat_cmp number) n) same ∙ at_itself number) ∙ is))

    pub start_done : (mid new : StoreHost D) → mid ≡ record old { tables = tables; outs = outs } → new ≡ record mid { stores = new.stores }
        → ((q : ℕ) → tree.get nat_cmp new.stores q ≡ (if is_at (nat_cmp number) q then option_map risen (tree.get nat_cmp mid.stores q) else tree.get nat_cmp mid.stores q))
        → (starts.failed ≡ false) × IsMoved state old new (and_then starts (λ x. still (without_down (nodes.Store number) x)))
    start_done mid new same only u =
        let k = start_at new.stores (λ q. u q
        ∙ ap (λ (m : StoreHost D). if is_at (nat_cmp number) q then option_map risen (tree.get nat_cmp m.stores q) else tree.get nat_cmp m.stores q) same) in (
          k.0,
          subst (λ (host : StoreHost D). IsMoved state old host (and_then starts (λ x. still (without_down (nodes.Store number) x))))
              (sym (only ∙ ap (λ (m : StoreHost D). record m { stores = new.stores }) same)) k.1,
        )

-- a Store that is there is declared
pub there_declared : {D : Type 0} (state : D → DiskState) (w : World) (host : StoreHost D) → HoldsStore state w host → (number : ℕ) → IsSome (tree.get nat_cmp host.stores number) → has_store w number ≡ true
there_declared state w host h number some = go (tree.get nat_cmp host.stores number) (h.stores number) some
  where
    go : (o : Option StoreState) → StoreThere w number o → IsSome o → has_store w number ≡ true
    go None k some = absurd cc
    go (Some s) k some = k.declared
