-- The work of a Store until it is idle: one task less behind each write.
use Rattle.std.proofs.Common.{◌≡◌, ℕ, suc, ◌+◌, ◌++◌, length, Bool, true, false, cond, true≢false, List, [], ◌∷◌, Option, Some, None, Result, Err, refl, sym, ap, ◌∙◌, subst, arith, append-nil}
use Rattle.std.proofs.Common.{append_assoc, length-append}
use Rattle.std.specs.Prelude.{◌==◌, filter, ◌||◌, if◌then◌else◌}
use Rattle.std.specs.declared.cmp.Ordering.TheVariants.{Less}
use Rattle.std.specs.Ordering.{nat_cmp, is_eq}
use Rattle.std.specs.Cmp.{nat_cmp_total}
use Rattle.std.specs.BTreeMap.{is_at, insert_entry}
use Rattle.std.specs.BTreeMap as tree
use Rattle.std.specs.Map.{keys_of, lookup}
use Rattle.std.specs.List.{flat_map, find, AllByRecursion}
use Rattle.std.specs.List.Sorted.{IsStrictlySortedBy}
use Rattle.std.proofs.lemmas.Cmp.{tied_itself}
use Rattle.std.proofs.lemmas.List.Elements.{filter-append}
use Rattle.std.proofs.lemmas.List.Kept.{IsStrictlySortedBy-filter}
use Rattle.std.proofs.lemmas.Map.Keys.{sorted_head, sorted_tail}
use Rattle.disk_trait.specs.Calls.{DiskState}
use Rattle.table_model.specs.declared.entry.Entry.{Entry}
use Rattle.step_tables.specs.Messages.{Luck}
use Rattle.step_tables.specs.Messages as messages
use Rattle.step_tables.specs.StoreMoves.{StoreDisk, StoreTask, Work, changed}
use Rattle.step_tables.proofs.Lists.{lookup-insert}
use Rattle.world_tables.specs.World.{World, Outbox, Packet, Moved, and_then, still, owner_of, has_store, tables_of, hosted_at, history_on, hosted_tasks, tasks_of, is_at_work, busy_table, write_next, store_works}
use Rattle.world_tables.specs.World.{store_until_idle, move_table, move_hosted, or_falls}
use Rattle.world_tables.specs.World as world
use Rattle.store_node.specs.declared.fault.NodeFault.{NodeFault}
use Rattle.store_node.specs.declared.fault.NodeFault.TheVariants.{Disk as DiskFailed}
use Rattle.store_host.specs.declared.hosted.Hosted.{Hosted}
use Rattle.store_host.specs.declared.host.StoreHost.{StoreHost}
use Rattle.store_host.specs.Holds.{HoldsStore, SameFaults, outs_of, says_something, said_by}
use Rattle.store_host.specs.Calls.{IsMoved, HasCause}
use Rattle.store_host.proofs.Froms.{IsFrom, GoesOn, from_itself, from_then, goes_itself, goes_then, write_from}
use Rattle.store_host.proofs.Maps.{at_same}
use Rattle.store_host.proofs.Alike.{move_alike, tables_same}
use Rattle.store_host.proofs.Moving.{put_before, later_cause}

-- ---- one task less

find_is : (p : ℕ → Bool) (keys : List ℕ) (k : ℕ) → find p keys ≡ Some k → p k ≡ true
find_is p [] k e = absurd cc
find_is p (q ∷ keys) k e = go (p q) refl (find_is p keys k)
  where
    go : (b : Bool) → p q ≡ b → (find p keys ≡ Some k → p k ≡ true) → p k ≡ true
    go true is rest = let first : Some q ≡ Some k = ap (λ (b : Bool). cond b (Some q) (find p keys)) (sym is) ∙ e in let same : q ≡ k = cc in ap p (sym same) ∙ is
    go false is rest = rest (ap (λ (b : Bool). cond b (Some q) (find p keys)) (sym is) ∙ e)

module _ {X : Type 0} (f g : ℕ → List X) (k : ℕ) (apart : (q : ℕ) → is_at (nat_cmp k) q ≡ false → g q ≡ f q) where
  same_above : (keys : List ℕ) → AllByRecursion (λ (y : ℕ). nat_cmp k y ≡ Less) keys → flat_map g keys ≡ flat_map f keys
  same_above [] all = refl
  same_above (q ∷ keys) all = ap (λ (xs : List X). xs ++ flat_map g keys) (apart q (ap is_eq all.0)) ∙ ap (λ (xs : List X). f q ++ xs) (same_above keys all.1)

  one_less : (p : ℕ → Bool) (keys : List ℕ) → IsStrictlySortedBy nat_cmp keys → find p keys ≡ Some k → length (f k) ≡ suc (length (g k)) → length (flat_map f keys) ≡ suc (length (flat_map g keys))
  one_less p [] s e less = absurd cc
  one_less p (q ∷ keys) s e less = go (p q) refl (one_less p keys (sorted_tail nat_cmp q keys s))
    where
      go : (b : Bool) → p q ≡ b → (find p keys ≡ Some k → length (f k) ≡ suc (length (g k)) → length (flat_map f keys) ≡ suc (length (flat_map g keys)))
          → length (f q ++ flat_map f keys) ≡ suc (length (g q ++ flat_map g keys))
      go true is rest =
          let first : Some q ≡ Some k = ap (λ (b : Bool). cond b (Some q) (find p keys)) (sym is) ∙ e in
          let same : q ≡ k = cc in
          let above = same_above keys (subst (λ (n : ℕ). AllByRecursion (λ (y : ℕ). nat_cmp n y ≡ Less) keys) same (sorted_head nat_cmp q keys s)) in
          let a = length-append (f q) (flat_map f keys) in
          let b = length-append (g q) (flat_map g keys) in
          let c = ap (λ (xs : List X). length xs) above in
          let d : length (f q) ≡ suc (length (g q)) = subst (λ (n : ℕ). length (f n) ≡ suc (length (g n))) (sym same) less in
          omega (arith, a, b, c, d)
      go false is rest =
          let found : find p keys ≡ Some k = ap (λ (b : Bool). cond b (Some q) (find p keys)) (sym is) ∙ e in
          let a = length-append (f q) (flat_map f keys) in
          let b = length-append (g q) (flat_map g keys) in
          let c = ap (λ (xs : List X). length xs) (apart q (away (is_at (nat_cmp k) q) refl found)) in
          let d = rest found less in
          omega (arith, a, b, c, d)
        where
          away : (b : Bool) → is_at (nat_cmp k) q ≡ b → find p keys ≡ Some k → is_at (nat_cmp k) q ≡ false
          away false here found = here
          away true here found = absurd (true≢false (sym (find_is p keys k found) ∙ (ap p (at_same k q here) ∙ is)))

none_rise : IsStrictlySortedBy nat_cmp []
unfolding IsStrictlySortedBy
none_rise = tt

-- a Store's tables rise
tables_rise : (w : World) (number : ℕ) → IsStrictlySortedBy nat_cmp (keys_of w.tables) → IsStrictlySortedBy nat_cmp (tables_of w number)
tables_rise w number s = go (has_store w number)
  where
    go : (b : Bool) → IsStrictlySortedBy nat_cmp (if b then filter (λ table. owner_of w table == number) (keys_of w.tables) else [])
    go true = IsStrictlySortedBy-filter nat_cmp (λ table. owner_of w table == number) (keys_of w.tables) s
    go false = none_rise

-- a table's write done
at_work_tasks : (w : World) (number table : ℕ) (disk : StoreDisk) (agenda : Option (List StoreTask)) (history : List Entry) (made : Bool)
    → hosted_at w table ≡ Some (record { store = record { disk = disk; agenda = agenda }; history = history; made = made }) → is_at_work w table ≡ true
    → IsStrictlySortedBy nat_cmp (keys_of w.tables) → find (is_at_work w) (tables_of w number) ≡ Some table
    → ((move_table table (Work messages.Done) w).failed ≡ false) × (length (tasks_of w number) ≡ suc (length (tasks_of (move_table table (Work messages.Done) w).world number)))
at_work_tasks w number table disk None history made e busy s is = let no : is_at_work w table ≡ false = rw e refl in absurd (true≢false (sym busy ∙ no))
at_work_tasks w number table disk (Some []) history made e busy s is = let no : is_at_work w table ≡ false = rw e refl in absurd (true≢false (sym busy ∙ no))
at_work_tasks w number table disk (Some (task ∷ more)) history made e busy s is =
    let after : world.Hosted = record { store = record { disk = changed disk task.change; agenda = Some more }; history = history_on history task.facts; made = made } in
    let tables : List (ℕ × world.Hosted) = insert_entry nat_cmp w.tables table after in
    let now = ap (λ (o : Option world.Hosted). length (hosted_tasks o)) e in
    let then_there : lookup (is_at (nat_cmp table)) tables ≡ Some after = lookup-insert nat_cmp nat_cmp_total w.tables table after table
    ∙ ap (λ r. cond (is_eq r) (Some after) (hosted_at w table)) (tied_itself nat_cmp_total table) in
    let later = ap (λ (o : Option world.Hosted). length (hosted_tasks o)) then_there in
    let less = one_less (λ q. hosted_tasks (hosted_at w q)) (λ q. hosted_tasks (lookup (is_at (nat_cmp q)) tables)) table
    (λ q away. ap (λ (o : Option world.Hosted). hosted_tasks o) (lookup-insert nat_cmp nat_cmp_total w.tables table after q ∙ ap (λ (b : Bool). cond b (Some after) (hosted_at w q)) away))
    (is_at_work w) (tables_of w number) (tables_rise w number s) is (now ∙ ap suc (sym later)) in
    let v : World = (move_hosted w table (Work messages.Done) (Some (record { store = record { disk = disk; agenda = Some (task ∷ more) }; history = history; made = made }))).world in
    let kept : tables_of v number ≡ tables_of w number =
    ap (λ (o : Option world.Hosted). tables_of (move_hosted w table (Work messages.Done) o).world number) (sym e) ∙ tables_same w (move_table table (Work messages.Done) w).world (move_alike w table (Work messages.Done) s).kept number in
    let whole : length (tasks_of w number) ≡ suc (length (tasks_of v number)) =
    less ∙ ap (λ (ks : List ℕ). suc (length (flat_map (λ q. hosted_tasks (lookup (is_at (nat_cmp q)) tables)) ks))) (sym kept) in
    subst (λ (o : Option world.Hosted). ((move_hosted w table (Work messages.Done) o).failed ≡ false)
    × (length (tasks_of w number) ≡ suc (length (tasks_of (move_hosted w table (Work messages.Done) o).world number)))) (sym e) (refl, whole)

none_works : (w : World) (table : ℕ) → hosted_at w table ≡ None → is_at_work w table ≡ false
none_works w table e = rw e refl

write_less : (w : World) (number table : ℕ) → IsStrictlySortedBy nat_cmp (keys_of w.tables) → find (is_at_work w) (tables_of w number) ≡ Some table
    → ((move_table table (Work messages.Done) w).failed ≡ false) × (length (tasks_of w number) ≡ suc (length (tasks_of (move_table table (Work messages.Done) w).world number)))
write_less w number table s is = go (hosted_at w table) refl
  where
    go : (o : Option world.Hosted) → hosted_at w table ≡ o → ((move_table table (Work messages.Done) w).failed ≡ false)
        × (length (tasks_of w number) ≡ suc (length (tasks_of (move_table table (Work messages.Done) w).world number)))
    go None e = absurd (true≢false (sym (find_is (is_at_work w) (tables_of w number) table is) ∙ none_works w table e))
    go (Some hosted) e = at_work_tasks w number table hosted.store.disk hosted.store.agenda hosted.history hosted.made e (find_is (is_at_work w) (tables_of w number) table is) s is

-- the next write of a Store
next_less : (w : World) (number table : ℕ) → IsStrictlySortedBy nat_cmp (keys_of w.tables) → Some table ≡ busy_table w number
    → ((write_next number messages.Done (busy_table w number) w).failed ≡ false)
    × (length (tasks_of w number) ≡ suc (length (tasks_of (write_next number messages.Done (busy_table w number) w).world number)))
next_less w number table s busy =
    let less = write_less w number table s (sym busy) in
    let m : Moved = move_table table (Work messages.Done) w in
    subst (λ (o : Option ℕ). ((write_next number messages.Done o w).failed ≡ false) × (length (tasks_of w number) ≡ suc (length (tasks_of (write_next number messages.Done o w).world number)))) busy
    (subst (λ (x : Moved). (x.failed ≡ false) × (length (tasks_of w number) ≡ suc (length (tasks_of x.world number)))) (sym (well m less.0)) less)
  where
    well : (m : Moved) → m.failed ≡ false → or_falls number m ≡ m
    well m is = ap (λ (b : Bool). if b then and_then m (world.store_falls number) else m) is

none_left : (w : World) (p : ℕ → Bool) (keys : List ℕ) → find p keys ≡ None → ((q : ℕ) → p q ≡ false → hosted_tasks (hosted_at w q) ≡ []) → flat_map (λ q. hosted_tasks (hosted_at w q)) keys ≡ []
none_left w p [] e rest = refl
none_left w p (q ∷ keys) e rest = go (p q) refl (none_left w p keys)
  where
    go : (b : Bool) → p q ≡ b → (find p keys ≡ None → ((q : ℕ) → p q ≡ false → hosted_tasks (hosted_at w q) ≡ []) → flat_map (λ q. hosted_tasks (hosted_at w q)) keys ≡ [])
        → hosted_tasks (hosted_at w q) ++ flat_map (λ q. hosted_tasks (hosted_at w q)) keys ≡ []
    go true is more = let no : Some q ≡ None = ap (λ (b : Bool). cond b (Some q) (find p keys)) (sym is) ∙ e in absurd cc
    go false is more = ap (λ (xs : List StoreTask). xs ++ flat_map (λ q. hosted_tasks (hosted_at w q)) keys) (rest q is) ∙ more (ap (λ (b : Bool). cond b (Some q) (find p keys)) (sym is) ∙ e) rest

rests : (w : World) (q : ℕ) → is_at_work w q ≡ false → hosted_tasks (hosted_at w q) ≡ []
rests w q is = go (hosted_at w q) refl
  where
    at : (disk : StoreDisk) (agenda : Option (List StoreTask)) (history : List Entry) (made : Bool)
        → hosted_at w q ≡ Some (record { store = record { disk = disk; agenda = agenda }; history = history; made = made }) → hosted_tasks (hosted_at w q) ≡ []
    at disk None history made e = ap hosted_tasks e
    at disk (Some []) history made e = ap hosted_tasks e
    at disk (Some (task ∷ more)) history made e = let busy : is_at_work w q ≡ true = rw e refl in absurd (true≢false (sym busy ∙ is))

    go : (o : Option world.Hosted) → hosted_at w q ≡ o → hosted_tasks (hosted_at w q) ≡ []
    go None e = ap hosted_tasks e
    go (Some hosted) e = at hosted.store.disk hosted.store.agenda hosted.history hosted.made e

idle_left : (w : World) (number : ℕ) → None ≡ busy_table w number → length (tasks_of w number) ≡ 0
idle_left w number none = ap (λ (xs : List StoreTask). length xs) (none_left w (is_at_work w) (tables_of w number) (sym none) (rests w))

-- ---- all writes

-- behind some writes that were done: the world there, what they told, and that the rest of the work goes on from there
pub record Drains {D : Type 0} (state : D → DiskState) (number : ℕ) (w : World) (old new : StoreHost D) (count : ℕ) : Type 0 where
  pub here : World
  pub told : List Outbox
  pub held : HoldsStore state here new
  pub outs : outs_of new ≡ outs_of old ++ filter says_something told
  pub from : IsFrom GoesOn w here
  pub left : length (tasks_of w number) ≡ count + length (tasks_of here number)
  pub goes : (lucks : List Luck) → (more : List Luck) × (store_until_idle number more w ≡ put_before told (store_works number (length (tasks_of here number)) lucks here))

there : (v : World) (number table : ℕ) → find (is_at_work v) (tables_of v number) ≡ Some table → (hosted : world.Hosted) × (hosted_at v table ≡ Some hosted)
there v number table is = go (hosted_at v table) refl
  where
    go : (o : Option world.Hosted) → hosted_at v table ≡ o → (hosted : world.Hosted) × (hosted_at v table ≡ Some hosted)
    go None e = absurd (true≢false (sym (find_is (is_at_work v) (tables_of v number) table is) ∙ none_works v table e))
    go (Some hosted) e = (hosted, e)

-- a write that fails
pub fails_there : (v : World) (number table : ℕ) (luck : Luck) → ((x : World) (hosted : world.Hosted) → (or_falls number (move_hosted x table (Work luck) (Some hosted))).failed ≡ true)
    → Some table ≡ busy_table v number → (write_next number luck (busy_table v number) v).failed ≡ true
fails_there v number table luck fails busy =
    let h = there v number table (sym busy) in
    subst (λ (o : Option ℕ). (write_next number luck o v).failed ≡ true) busy
    (subst (λ (o : Option world.Hosted). (or_falls number (move_hosted v table (Work luck) o)).failed ≡ true) (sym h.1) (fails v h.0))

module _ {D : Type 0} (state : D → DiskState) (number : ℕ) (w : World) (old : StoreHost D) where
  pub drains : HoldsStore state w old → Drains state number w old old 0
  drains h = record { here = w; told = []; held = h; outs = sym (append-nil (outs_of old)); from = from_itself GoesOn goes_itself w; left = omega arith; goes = λ lucks. (lucks, refl) }

  joins : (told : List Outbox) (m : Moved) (f : World → Moved) → m.failed ≡ false → put_before told (if m.failed then m else and_then m f) ≡ put_before (told ++ m.outs) (f m.world)
  joins told m f well =
      ap (λ (b : Bool). put_before told (if b then m else and_then m f)) well
      ∙ (ap (λ (b : Bool). record { world = (f m.world).world; outs = told ++ (m.outs ++ (f m.world).outs); failed = b || (f m.world).failed }) well
      ∙ ap (λ (l : List Outbox). record { world = (f m.world).world; outs = l; failed = (f m.world).failed }) (sym (append_assoc told m.outs (f m.world).outs)))

  module _ (mid : StoreHost D) (count : ℕ) (d : Drains state number w old mid count) where
    sorted : IsStrictlySortedBy nat_cmp (keys_of d.here.tables)
    sorted = d.held.tables.rising

    -- one write more
    pub drains_next : (new : StoreHost D) (table : ℕ) → Some table ≡ busy_table d.here number → IsMoved state mid new (write_next number messages.Done (busy_table d.here number) d.here)
        → Drains state number w old new (count + 1)
    drains_next new table busy k =
        let m : Moved = write_next number messages.Done (busy_table d.here number) d.here in
        let less = next_less d.here number table sorted busy in
        record {
          here = m.world;
          told = d.told ++ m.outs;
          held = k.held;
          outs = k.outs ∙ (ap (λ (l : List Outbox). l ++ said_by m) d.outs
              ∙ (append_assoc (outs_of old) (filter says_something d.told) (said_by m) ∙ ap (λ (l : List Outbox). outs_of old ++ l) (sym (filter-append says_something d.told m.outs))));
          from = from_then GoesOn GoesOn GoesOn goes_then w d.here m.world d.from
              (subst (λ (o : Option ℕ). IsFrom GoesOn d.here (write_next number messages.Done o d.here).world) busy (write_from number d.here table (write_less d.here number table sorted (sym busy)).0));
          left = let a = d.left in let b = less.1 in omega (arith, a, b);
          goes = λ lucks.
              let g = d.goes (messages.Done ∷ lucks) in (
                g.0,
                g.1 ∙ (ap (λ (n : ℕ). put_before d.told (store_works number n (messages.Done ∷ lucks) d.here)) less.1
                    ∙ joins d.told m (store_works number (length (tasks_of m.world number)) lucks) less.0),
              );
        }

    -- none is left
    pub drained : None ≡ busy_table d.here number → (count ≡ length (tasks_of w number)) × (lucks : List Luck) × ((store_until_idle number lucks w).failed ≡ false)
        × IsMoved state old mid (store_until_idle number lucks w)
    drained none =
        let g = d.goes [] in
        let zero_left = idle_left d.here number none in
        let whole : store_until_idle number g.0 w ≡ record { world = d.here; outs = d.told ++ []; failed = false } = g.1
        ∙ ap (λ (n : ℕ). put_before d.told (store_works number n [] d.here)) zero_left in (
          (let a = d.left in omega (arith, a, zero_left)),
          g.0,
          ap (λ (m : Moved). m.failed) whole,
          subst (λ (m : Moved). IsMoved state old mid m) (sym whole)
              (record { held = d.held; outs = d.outs ∙ ap (λ (l : List Outbox). outs_of old ++ filter says_something l) (sym (append-nil d.told)) }),
        )

    -- one write that fails
    pub drained_badly : (new : StoreHost D) (table : ℕ) (luck : Luck) → ((v : World) (hosted : world.Hosted) → (or_falls number (move_hosted v table (Work luck) (Some hosted))).failed ≡ true)
        → Some table ≡ busy_table d.here number
        → IsMoved state mid new (write_next number luck (busy_table d.here number) d.here) → (lucks : List Luck) × ((store_until_idle number lucks w).failed ≡ true)
        × IsMoved state old new (store_until_idle number lucks w)
    drained_badly new table luck fails busy k =
        let m : Moved = write_next number luck (busy_table d.here number) d.here in
        let bad : m.failed ≡ true = fails_there d.here number table luck fails busy in
        let less = next_less d.here number table sorted busy in
        let rest = length (tasks_of (write_next number messages.Done (busy_table d.here number) d.here).world number) in
        let g = d.goes (luck ∷ []) in
        let whole : store_until_idle number g.0 w ≡ put_before d.told m =
        g.1 ∙ (ap (λ (n : ℕ). put_before d.told (store_works number n (luck ∷ []) d.here)) less.1
        ∙ ap (λ (b : Bool). put_before d.told (if b then m else and_then m (store_works number rest []))) bad) in (
          g.0,
          ap (λ (x : Moved). x.failed) whole ∙ bad,
          subst (λ (x : Moved). IsMoved state old new x) (sym whole) (record {
            held = k.held;
            outs = k.outs ∙ (ap (λ (l : List Outbox). l ++ said_by m) d.outs
                ∙ (append_assoc (outs_of old) (filter says_something d.told) (said_by m) ∙ ap (λ (l : List Outbox). outs_of old ++ l) (sym (filter-append says_something d.told m.outs))));
          }),
        )

-- ---- a fault that is handed on, whatever the call answers else

abbrev pub err_in : (T : Type 0) → NodeFault → Result T NodeFault
err_in T e = Err e

pub err_cause : {D : Type 0} (state : D → DiskState) (old mid new : tree.BTreeMap ℕ (Hosted D)) (T S : Type 0) (e : NodeFault) → SameFaults state old mid → HasCause state mid new (err_in T e)
    → HasCause state old new (err_in S e)
err_cause state old mid new T S e same k = later_cause state old mid new (err_in S e) same (record {
  counted = λ no. k.counted (λ failed. let is : e ≡ DiskFailed = cc in no (ap (err_in S) is));
  cause = λ failed. let is : e ≡ DiskFailed = cc in k.cause (ap (err_in T) is);
  only = k.only;
})
