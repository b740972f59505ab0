-- A world that stands behind events: the next event may come there, and leads on.
use Rattle.std.proofs.Common.{◌≡◌, ℕ, Bool, true, false, List, [], ◌∷◌, ◌++◌, refl, sym, ap, subst}
use Rattle.disk_trait.specs.Calls.{DiskState}
use Rattle.table_model.specs.declared.event.Event.{Event}
use Rattle.table_model.specs.declared.line.TextLine.{TextLine}
use Rattle.world_tables.specs.Sound.{is_declaration}
use Rattle.world_tables.specs.Turns.{Happening}
use Rattle.world_tables.specs.World as moves
use Rattle.fair_laws.specs.Reached.{IsBuilt}
use Rattle.fair_laws.specs.Reached as worlds
use Rattle.script_text.specs.Names.{Names, with_event}
use Rattle.wire_laws.specs.Runs.{AreBuilt}
use Rattle.wire_laws.proofs.Carried.{reached_world}
use Rattle.gated_tables.specs.Net.{Net, start, net_step}
use Rattle.gated_tables.specs.Runs.{net_from}
use Rattle.gated_laws.specs.Runs.{AreDeclaredFirst, IsRunOfWires}
use Rattle.gated_laws.proofs.NetRuns.{run_of_wires}
use Rattle.gated_laws.proofs.Reached.{first_next, declared_push}
use Rattle.node_steps.specs.Holds.{AreOut}
use Rattle.node_steps.specs.Holds as nodes
use Rattle.net_steps.specs.declared.world.World.{World}
use Rattle.net_steps.specs.Holds.{Holds, IsAt}
use Rattle.net_steps.specs.Steps.{IsStep}
use Rattle.simba_top.specs.Stands.{IsBehind}
use Rattle.simba_top.proofs.Declared.{still_early}

-- ---- one event more

module _ (h : Happening) where
  pub net_from-push : (n : Net) (run : List Happening) → net_from n (run ++ h ∷ []) ≡ (net_step (net_from n run) h.event h.lucks).net
  net_from-push n [] = refl
  net_from-push n (first ∷ run) = net_from-push (net_step n first.event first.lucks).net run

  pub world-push : (n : Net) (run : List Happening) → (net_from n (run ++ h ∷ [])).wire.world ≡ (net_step (net_from n run) h.event h.lucks).net.wire.world
  world-push n run = ap (λ (x : Net). x.wire.world) (net_from-push n run)

pub built-push : (run : List Happening) (h : Happening) → AreBuilt run → IsBuilt h.event → AreBuilt (run ++ h ∷ [])
built-push [] h all here = (here, tt)
built-push (first ∷ run) h all here = (all.0, built-push run h all.1 here)

-- its nodes are those that whole messages may have led to
pub nodes_reached : (run : List Happening) → AreDeclaredFirst run → AreBuilt run → worlds.IsReached (net_from start run).wire.world
nodes_reached run first built =
    let r : IsRunOfWires run = run_of_wires run first built in
    reached_world (net_from start run).wire r.whole r.built r.wire

-- ---- where events led

pub behind_none : {D : Type 0} (state : D → DiskState) (names : Names) (world : World D) (is_out : ℕ → Bool) → Holds state start world → ((k : ℕ) → is_out k ≡ false)
    → IsBehind state [] names world is_out
behind_none state names world is_out held none = record {
  first = tt;
  built = tt;
  early = λ is. tt;
  held = held;
  out = record { tables = λ table k some most few. none _; clients = λ c k some few. none _ };
}

module _ {D : Type 0} (state : D → DiskState) (run : List Happening) (names : Names) (world : World D) (is_out : ℕ → Bool) (behind : IsBehind state run names world is_out) where
  -- its nodes stand where a script has led
  pub nodes_there : nodes.IsWorld state is_out world.wire.nodes
  nodes_there = record {
    w = (net_from start run).wire.world;
    reached = nodes_reached run behind.first behind.built;
    held = behind.held.wire.nodes;
    out = behind.out;
  }

  module _ (event : Event) (early : is_declaration event ≡ true → names.started ≡ false) where
    pub at_event : IsAt state is_out event (net_from start run) world
    at_event = record {
      before = record { run = run; first = behind.first; built = behind.built; is = refl; follows = λ declares. behind.early (early declares) };
      held = behind.held;
      out = behind.out;
    }

    pub first_on : (lucks : moves.Lucks) → AreDeclaredFirst (run ++ record { event = event; lucks = lucks } ∷ [])
    first_on lucks = first_next run (record { event = event; lucks = lucks }) behind.first (λ declares. behind.early (early declares))

    pub behind_on : (images : D → ℕ → List ℕ → Type 0) (lines : List TextLine) (new : World D) (out : ℕ → Bool) → IsBuilt event
        → (s : IsStep state images (net_from start run) event lines out world new) → IsBehind state (run ++ record { event = event; lucks = s.0 } ∷ []) (with_event names event) new out
    behind_on images lines new out built s =
        let h : Happening = record { event = event; lucks = s.0 } in
        record {
          first = first_on s.0;
          built = built-push run h behind.built built;
          early = λ is. let was = still_early names event is in declared_push run h (behind.early was.0) was.1;
          held = subst (λ (n : Net). Holds state n new) (sym (net_from-push h start run)) s.1.held;
          out = subst (λ (w : moves.World). AreOut out w) (sym (world-push h start run)) s.1.moved.out;
        }
