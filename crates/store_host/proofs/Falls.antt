-- A Store that falls where one of its tables fell before is where it falls from at once.
use Rattle.std.proofs.Common.{◌≡◌, ℕ, ◌++◌, Bool, true, false, List, [], ◌∷◌, Option, Some, None, refl, sym, ap, ◌∙◌, subst, ⊎_elim}
use Rattle.std.specs.Prelude.{◌==◌, ◌||◌}
use Rattle.std.specs.Ordering.{nat_cmp}
use Rattle.std.specs.BTreeMap.{insert_entry}
use Rattle.std.specs.Map.{keys_of}
use Rattle.std.specs.List.Sorted.{IsStrictlySortedBy}
use Rattle.disk_trait.specs.Calls.{DiskState}
use Rattle.stab_base.specs.declared.node.Node.{Node}
use Rattle.stab_base.specs.declared.node.Node.TheVariants as nodes
use Rattle.table_model.specs.declared.entry.Entry.{Entry}
use Rattle.step_tables.specs.Messages as messages
use Rattle.step_tables.specs.StoreMoves.{StoreDisk, StoreTask, Crash}
use Rattle.world_tables.specs.World.{World, Outbox, Packet, Hosted, hosted_at, owner_of, has_store, tables_of, still, and_then, move_hosted, table_falls, tables_fall, with_down, store_falls}
use Rattle.store_host.specs.declared.host.StoreHost.{StoreHost}
use Rattle.store_host.specs.Holds.{HoldsStore, outs_of, said_by}
use Rattle.store_host.specs.Calls.{IsMoved}
use Rattle.store_host.proofs.Maps.{has, has_found, look_cases}
use Rattle.store_host.proofs.Alike.{sorted_kept, tables_same, move_alike, falls_alike}
use Rattle.store_host.proofs.Downs.{number_itself, number_same, number_apart, owns}
use Rattle.store_host.proofs.Moving.{crash_silent, falls_silent}
use Rattle.store_host.proofs.Stores.{AreSame, holds_same, said_both}

-- a table that has fallen
abbrev fallen_at : Hosted → Hosted
fallen_at hosted = record { store = record { disk = hosted.store.disk; agenda = None }; history = hosted.history; made = hosted.made }

abbrev fallen_if : Bool → Option Hosted → Option Hosted
fallen_if false o = o
fallen_if true None = None
fallen_if true (Some hosted) = Some (fallen_at hosted)

fallen_twice : (a b : Bool) (o : Option Hosted) → fallen_if b (fallen_if a o) ≡ fallen_if (a || b) o
fallen_twice true true None = refl
fallen_twice true true (Some hosted) = refl
fallen_twice true false o = refl
fallen_twice false b o = refl

-- ---- one table

abbrev FallsAt : World → World → ℕ → Type 0
FallsAt w v table = (q : ℕ) → hosted_at v q ≡ fallen_if (q == table) (hosted_at w q)

fall_one : (w : World) (table : ℕ) (hosted : Hosted) (packets : List Packet) → hosted_at w table ≡ Some hosted
    → FallsAt w (record w { tables = insert_entry nat_cmp w.tables table (fallen_at hosted); packets = packets }) table
fall_one w table hosted packets there q = ⊎_elim
    (λ e. e.1 ∙ sym (ap (λ (b : Bool). fallen_if b (hosted_at w q)) (ap (λ (n : ℕ). q == n) (sym e.0) ∙ number_itself q) ∙ ap (fallen_if true) (ap (hosted_at w) e.0 ∙ there)))
    (λ e. e.1 ∙ sym (ap (λ (b : Bool). fallen_if b (hosted_at w q)) (number_apart q table e.0)))
    (look_cases w.tables table (fallen_at hosted) q)

fall_here : (w : World) (table : ℕ) (disk : StoreDisk) (agenda : Option (List StoreTask)) (history : List Entry) (made : Bool)
    → hosted_at w table ≡ Some (record { store = record { disk = disk; agenda = agenda }; history = history; made = made })
    → FallsAt w (move_hosted w table (Crash messages.FailedBefore) (Some (record { store = record { disk = disk; agenda = agenda }; history = history; made = made }))).world table
fall_here w table disk None history made there = fall_one w table (record { store = record { disk = disk; agenda = None }; history = history; made = made }) (w.packets ++ []) there
fall_here w table disk (Some []) history made there = fall_one w table (record { store = record { disk = disk; agenda = Some [] }; history = history; made = made }) (w.packets ++ []) there
fall_here w table disk (Some (task ∷ tasks)) history made there =
    fall_one w table (record { store = record { disk = disk; agenda = Some (task ∷ tasks) }; history = history; made = made }) (w.packets ++ []) there

fall_at : (w : World) (table : ℕ) → FallsAt w (table_falls table w).world table
fall_at w table = go (hosted_at w table) refl
  where
    none : (q : ℕ) → hosted_at w table ≡ None → (b : Bool) → (q == table) ≡ b → hosted_at w q ≡ fallen_if b (hosted_at w q)
    none q is false e = refl
    none q is true e = let gone : hosted_at w q ≡ None = ap (hosted_at w) (number_same q table e) ∙ is in gone ∙ sym (ap (fallen_if true) gone)

    go : (o : Option Hosted) → hosted_at w table ≡ o → FallsAt w (move_hosted w table (Crash messages.FailedBefore) o).world table
    go None is = λ q. none q is (q == table) refl
    go (Some hosted) is = fall_here w table hosted.store.disk hosted.store.agenda hosted.history hosted.made is

-- ---- some tables

fall_all : (ks : List ℕ) (w : World) (q : ℕ) → hosted_at (tables_fall ks w).world q ≡ fallen_if (has ks q) (hosted_at w q)
fall_all [] w q = refl
fall_all (k ∷ ks) w q = fall_all ks (table_falls k w).world q ∙ (ap (fallen_if (has ks q)) (fall_at w k q) ∙ fallen_twice (q == k) (has ks q) (hosted_at w q))

-- ---- the tables of a Store

module _ (w : World) (number table : ℕ) (declared : has_store w number ≡ true) (own : owner_of w table ≡ number) where
  abbrev mid : World
  mid = (table_falls table w).world

  abbrev ks : List ℕ
  ks = tables_of w number

  falls_same : (q : ℕ) → fallen_if (has ks q) (fallen_if (q == table) (hosted_at w q)) ≡ fallen_if (has ks q) (hosted_at w q)
  falls_same q = go (hosted_at w q) refl (q == table) refl
    where
      go : (o : Option Hosted) → hosted_at w q ≡ o → (b : Bool) → (q == table) ≡ b → fallen_if (has ks q) (fallen_if b o) ≡ fallen_if (has ks q) o
      go o is false e = refl
      go None is true e = refl
      go (Some hosted) is true e =
          let mine : owner_of w q ≡ number = ap (owner_of w) (number_same q table e) ∙ own in
          let there : has ks q ≡ true = owns w number q declared (has_found w.tables q hosted is) mine in
          subst (λ (b : Bool). fallen_if b (fallen_if true (Some hosted)) ≡ fallen_if b (Some hosted)) (sym there) refl

  falls_alike_after : IsStrictlySortedBy nat_cmp (keys_of w.tables) → AreSame (store_falls number w).world (and_then (tables_fall ks mid) (λ x. still (with_down (nodes.Store number) x))).world
  falls_alike_after sorted =
      let a = (move_alike w table (Crash messages.FailedBefore) sorted).kept in
      let b = (falls_alike ks mid (sorted_kept w mid a sorted)).kept in
      let d = (falls_alike ks w sorted).kept in
      record {
        stores = b.stores ∙ (a.stores ∙ sym d.stores);
        schemas = b.schemas ∙ (a.schemas ∙ sym d.schemas);
        keys = b.keys ∙ (a.keys ∙ sym d.keys);
        looks = λ q. fall_all ks mid q ∙ (ap (fallen_if (has ks q)) (fall_at w table q) ∙ (falls_same q ∙ sym (fall_all ks w q)));
        downs = ap (λ (ds : List Node). nodes.Store number ∷ ds) ((falls_silent ks mid).downs ∙ ((crash_silent w table messages.FailedBefore).downs ∙ sym (falls_silent ks w).downs));
      }

  pub falls_said : (v : World) (store : ℕ) → said_by (store_falls store v) ≡ []
  falls_said v store = said_both (tables_fall (tables_of v store) v) (λ x. still (with_down (nodes.Store store) x)) ∙ ap (λ (l : List Outbox). l ++ []) (falls_silent (tables_of v store) v).said

  module _ {D : Type 0} (state : D → DiskState) (sorted : IsStrictlySortedBy nat_cmp (keys_of w.tables)) where
    -- the Store falls behind the fall of a table
    pub falls_again : (old between new : StoreHost D) → outs_of between ≡ outs_of old → IsMoved state between new (store_falls number mid) → IsMoved state old new (store_falls number w)
    falls_again old between new same k =
        let a = (move_alike w table (Crash messages.FailedBefore) sorted).kept in
        record {
          held = holds_same state (store_falls number w).world (and_then (tables_fall ks mid) (λ x. still (with_down (nodes.Store number) x))).world (falls_alike_after sorted) new
              (subst (λ (l : List ℕ). HoldsStore state (and_then (tables_fall l mid) (λ x. still (with_down (nodes.Store number) x))).world new) (tables_same w mid a number) k.held);
          outs = k.outs ∙ (ap (λ (l : List Outbox). outs_of between ++ l) (falls_said mid number)
              ∙ (ap (λ (l : List Outbox). l ++ []) same ∙ ap (λ (l : List Outbox). outs_of old ++ l) (sym (falls_said w number))));
        }
