-- The gateways of the program have the directory of the world's tables; which of them are up.
use Rattle.std.proofs.Common.{◌≡◌, ℕ, true, false, List, [], ◌∷◌, Option, Some, None, refl, sym, ◌∙◌, ap, true≢false}
use Rattle.std.specs.Prelude.{is_some}
use Rattle.std.specs.Ordering.{nat_cmp}
use Rattle.std.specs.Map.{keys_of, lookup}
use Rattle.std.specs.BTreeMap as tree
use Rattle.std.specs.BTreeMap.{is_at}
use Rattle.std.specs.List.Sorted.{IsStrictlySortedBy}
use Rattle.row_value.specs.declared.schema.Schema.{Schema}
use Rattle.ring_map.specs.Owners.{owner_on}
use Rattle.world_tables.specs.World.{World, owner_by, owner_of}
use Rattle.gate_tables.specs.declared.timer.Placed.{Placed}
use Rattle.gate_tables.specs.Gate.{Directory, Running}
use Rattle.gate_tables.specs.Gate as gate
use Rattle.gateway_core.specs.declared.gateway.Gateway.{Gateway}
use Rattle.gateway_core.specs.Directories.{owners_of}
use Rattle.gate_host.specs.declared.gates.Gates.{Gates}
use Rattle.gate_host.specs.Moves.{places_of, directory_by, gate_in, is_up_in, up}
use Rattle.gate_host.specs.Holds.{GateThere, HoldsGates, is_up_of, is_up_at}
use Rattle.gate_host.proofs.Rising.{keyed_alike}
use Rattle.gated_tables.specs.Net.{has_none, running_in, places_in, directory_of}

-- ---- the directory

abbrev placed_so : ℕ → Schema → Placed
placed_so owner schema = record { owner = owner; scheme = schema.scheme }

abbrev directory_with : List (ℕ × Placed) → Directory
directory_with places = record { tables = places; owners = owners_of places }

module _ (w : World) (rising : IsStrictlySortedBy nat_cmp (keys_of w.schemas)) where
  places_same : (stores : List ℕ) → w.stores ≡ stores → places_of stores w.schemas ≡ places_in w stores
  places_same [] is = refl
  places_same (store ∷ more) is =
      keyed_alike (λ (table : ℕ) (s : Schema). placed_so (owner_on s.name (store ∷ more)) s) (λ (table : ℕ) (s : Schema). placed_so (owner_of w table) s) w.schemas rising one
    where
      one : (table : ℕ) (s : Schema) → lookup (is_at (nat_cmp table)) w.schemas ≡ Some s
          → placed_so (owner_on s.name (store ∷ more)) s ≡ placed_so (owner_of w table) s
      one table s at =
          ap (λ (o : ℕ). placed_so o s) (ap (λ (l : List ℕ). owner_on s.name l) (sym is) ∙ sym (ap (owner_by w.stores) at))

  pub directory_is : directory_by w.stores w.schemas ≡ directory_of w
  directory_is = ap directory_with (places_same w.stores refl)

-- ---- gateways that are up, or down

some_running : (s : gate.Gateway) → is_some s.running ≡ true → (starts : ℕ) × (running : Running) × (Some s ≡ Some (up starts running))
some_running s e = go s.running e
  where
    go : (r : Option Running) → is_some r ≡ true
        → (starts : ℕ) × (running : Running) × (Some (record { starts = s.starts; running = r }) ≡ Some (up starts running))
    go None e = absurd (true≢false (sym e))
    go (Some r) e = (s.starts, r, refl)

pub up_there : (stores : List ℕ) (schemas : List (ℕ × Schema)) (gates : List (ℕ × gate.Gateway)) (it : Gates) (number : ℕ) → HoldsGates stores schemas gates it
    → is_up_at it number ≡ true → (starts : ℕ) × (running : Running) × (gate_in gates number ≡ Some (up starts running))
up_there stores schemas gates it number h is = go (gate_in gates number) (tree.get nat_cmp it.gates number) (h.there number) is
  where
    go : (o : Option gate.Gateway) (x : Option Gateway) → GateThere (directory_by stores schemas) number o x → is_up_of x ≡ true
        → (starts : ℕ) × (running : Running) × (o ≡ Some (up starts running))
    go None None k e = absurd (true≢false (sym e))
    go None (Some here) k e = absurd k
    go (Some s) None k e = absurd k
    go (Some s) (Some here) k e = some_running s (sym (ap (λ (g : gate.Gateway). is_some g.running) k.stands) ∙ e)

pub down_node : (o : Option gate.Gateway) → is_up_in o ≡ false → has_none (running_in o) ≡ true
down_node None e = refl
down_node (Some s) e = go s.running e
  where
    go : (r : Option Running) → is_some r ≡ false → has_none r ≡ true
    go None e = refl
    go (Some r) e = absurd (true≢false e)

pub up_node : (o : Option gate.Gateway) (starts : ℕ) (running : Running) → o ≡ Some (up starts running) → has_none (running_in o) ≡ false
up_node o starts running is = ap (λ (x : Option gate.Gateway). has_none (running_in x)) is
