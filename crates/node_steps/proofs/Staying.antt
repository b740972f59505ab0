-- What the Stores hold of a world stays where the clients, the packets, the holds, the links and the phases change.
use Rattle.std.proofs.Common.{◌≡◌, ℕ, List, [], ◌∷◌, Some, None, refl, sym, ◌∙◌, ap, cond}
use Rattle.std.specs.declared.cmp.Ordering.{Ordering}
use Rattle.std.specs.declared.cmp.Ordering.TheVariants.{Less, Equal, Greater}
use Rattle.std.specs.Ordering.{nat_cmp, is_eq, match_ordering}
use Rattle.std.specs.Cmp.{nat_cmp_total}
use Rattle.std.specs.BTreeMap.{is_at, insert_entry}
use Rattle.std.specs.BTreeMap as tree
use Rattle.std.specs.Map.{lookup, keys_of}
use Rattle.std.specs.List.Sorted.{IsStrictlySortedBy}
use Rattle.std.proofs.lemmas.Map.{lookup-none}
use Rattle.std.proofs.lemmas.Map.Entries.{none_below_head}
use Rattle.std.proofs.lemmas.Map.Keys.{sorted_tail}
use Rattle.disk_trait.specs.Calls.{DiskState}
use Rattle.stab_base.specs.declared.node.Node.{Node}
use Rattle.step_tables.specs.ClientMoves.{Client}
use Rattle.world_tables.specs.World.{World, Packet}
use Rattle.store_host.specs.declared.host.StoreHost.{StoreHost}
use Rattle.store_host.specs.Holds.{HoldsStore}
use Rattle.store_host.proofs.Alike.{IsAlike, store_same, declared_same}

-- a value that is there, put in its place again
pub entry_kept : {V : Type 0} (es : List (ℕ × V)) (k : ℕ) (v : V) → IsStrictlySortedBy nat_cmp (keys_of es) → lookup (is_at (nat_cmp k)) es ≡ Some v → insert_entry nat_cmp es k v ≡ es
entry_kept [] k v s at = absurd cc
entry_kept {V} (e ∷ es) k v s at = go (nat_cmp k e.0) refl (entry_kept es k v (sorted_tail nat_cmp e.0 (keys_of es) s))
  where
    go : (o : Ordering) → nat_cmp k e.0 ≡ o → (lookup (is_at (nat_cmp k)) es ≡ Some v → insert_entry nat_cmp es k v ≡ es)
        → match_ordering o ((k, v) ∷ e ∷ es) ((e.0, v) ∷ es) (e ∷ insert_entry nat_cmp es k v) ≡ e ∷ es
    go Less is more = let none : lookup (is_at (nat_cmp k)) (e ∷ es) ≡ None = lookup-none (is_at (nat_cmp k)) (e ∷ es) (none_below_head nat_cmp_total k e es s is) in absurd cc
    go Equal is more =
        let there : Some e.1 ≡ Some v = ap (λ (r : Ordering). cond (is_eq r) (Some e.1) (lookup (is_at (nat_cmp k)) es)) (sym is) ∙ at in
        let same : v ≡ e.1 = cc in ap (λ (x : V). (e.0, x) ∷ es) same
    go Greater is more = ap (λ (l : List (ℕ × V)). e ∷ l) (more (ap (λ (r : Ordering). cond (is_eq r) (Some e.1) (lookup (is_at (nat_cmp k)) es)) (sym is) ∙ at))

module _ {D : Type 0} (state : D → DiskState) (w : World) (host : StoreHost D) (clients : List (ℕ × Client)) (packets : List Packet) (holds cuts : List Node) (phases : List (ℕ × ℕ)) where
  abbrev after : World
  after = record w { clients = clients; packets = packets; holds = holds; cuts = cuts; phases = phases }

  alike : IsAlike w after
  alike = record { kept = record { stores = refl; schemas = refl; keys = refl }; made = λ table. refl }

  pub store_stays : HoldsStore state w host → HoldsStore state after host
  store_stays h = record {
    ring = h.ring;
    stores = λ number. store_same w after alike number refl (tree.get nat_cmp host.stores number) (h.stores number);
    tables = record { there = h.tables.there; keys = h.tables.keys; rising = h.tables.rising };
    downs = declared_same w after alike.kept w.downs h.downs;
    ups = h.ups;
  }
