-- A run on its way: the world that its events led to, and what they may have begun.
use Rattle.std.proofs.Common.{◌≡◌, ℕ, ◌+◌, Bool, true, false, List, [], ◌∷◌, ◌++◌, refl, sym, subst, arith, length-append}
use Rattle.disk_trait.specs.Calls.{DiskState}
use Rattle.table_model.specs.declared.event.Event.{Event}
use Rattle.table_model.specs.declared.line.TextLine.{TextLine}
use Rattle.world_tables.specs.Sound.{is_declaration}
use Rattle.world_tables.specs.Turns.{Happening}
use Rattle.fair_laws.specs.Reached.{IsBuilt}
use Rattle.fair_laws.specs.Reached as worlds
use Rattle.script_text.specs.Names.{Names, with_event}
use Rattle.gated_tables.specs.Net.{Net, start, net_step}
use Rattle.gated_tables.specs.Runs.{net_from}
use Rattle.node_steps.specs.Holds as nodes
use Rattle.net_steps.specs.declared.world.World.{World}
use Rattle.net_steps.specs.Holds.{Holds, IsAt}
use Rattle.net_steps.specs.Steps.{HavePlansBelow, IsStep, IsOver, IsUndone, may_begin}
use Rattle.simba_top.specs.declared.row_names.RowNames.{RowNames}
use Rattle.simba_top.specs.declared.turn.Run.{Run}
use Rattle.simba_top.specs.Stands.{plans_from, IsBehind, IsUnderway}
use Rattle.simba_top.proofs.Behind.{net_from-push, built-push, nodes_reached, behind_none, nodes_there, at_event, first_on, behind_on}

plans-push : (h : Happening) (n : Net) (run : List Happening) → may_begin (net_from n run) h.event + plans_from n run ≡ plans_from n (run ++ h ∷ [])
plans-push h n [] = refl
plans-push h n (first ∷ run) =
    let rest = plans-push h (net_step n first.event first.lucks).net run in
    omega (arith, rest)

-- the run at its start
pub underway_new : {D : Type 0} (state : D → DiskState) (is_out : ℕ → Bool) (run : Run D) → Holds state start run.world → HavePlansBelow state 0 run.world → ((k : ℕ) → is_out k ≡ false)
    → IsUnderway state is_out run
underway_new state is_out run held plans none = record {
  happenings = [];
  behind = behind_none state run.names run.world is_out held none;
  few = omega arith;
  plans = plans;
}

module _ {D : Type 0} (state : D → DiskState) (is_out : ℕ → Bool) (run : Run D) (here : IsUnderway state is_out run) where
  -- its nodes stand where a script has led
  pub are_nodes : nodes.IsWorld state is_out run.world.wire.nodes
  are_nodes = nodes_there state here.happenings run.names run.world is_out here.behind

  -- a line was read
  pub line_read : (new : Run D) → new ≡ record run { reader = new.reader } → IsUnderway state is_out new
  line_read new same =
      subst (λ (r : Run D). IsUnderway state is_out r) (sym same) (record { happenings = here.happenings; behind = here.behind; few = here.few; plans = here.plans })

  -- a line was passed over
  pub passed_line : IsUnderway state is_out (record run { count = run.count + 1 })
  passed_line = record {
    happenings = here.happenings;
    behind = here.behind;
    few = let few = here.few in omega (arith, few);
    plans = here.plans;
  }

  module _ (event : Event) (early : is_declaration event ≡ true → run.names.started ≡ false) where
    -- it may come next
    pub may_come : IsAt state is_out event (net_from start here.happenings) run.world
    may_come = at_event state here.happenings run.names run.world is_out here.behind event early

    -- an event was carried out
    pub carried_on : (images : D → ℕ → List ℕ → Type 0) (names : Names) (rows : RowNames) (world : World D) (out : ℕ → Bool) (lines : List TextLine) (told : ℕ) → IsBuilt event
        → names ≡ with_event run.names event → IsStep state images (net_from start here.happenings) event lines out run.world world
        → HavePlansBelow state (may_begin (net_from start here.happenings) event + plans_from start here.happenings) world
        → IsUnderway state out (record run { names = names; rows = rows; world = world; told = told; count = run.count + 1 })
    carried_on images names rows world out lines told built named s plans =
        let h : Happening = record { event = event; lucks = s.0 } in
        record {
          happenings = here.happenings ++ h ∷ [];
          behind = subst (λ (ns : Names). IsBehind state (here.happenings ++ h ∷ []) ns world out) (sym named)
              (behind_on state here.happenings run.names run.world is_out here.behind event early images lines world out built s);
          few = let longer = length-append here.happenings (h ∷ []) in let few = here.few in omega (arith, longer, few);
          plans = subst (λ (n : ℕ). HavePlansBelow state n world) (plans-push h start here.happenings) plans;
        }

    -- an event sends too much, and the nodes are behind it
    pub nodes_over : (images : D → ℕ → List ℕ → Type 0) (out : ℕ → Bool) (new : World D) → IsBuilt event
        → IsOver state images (net_from start here.happenings) event out run.world new → nodes.IsWorld state out new.wire.nodes
    nodes_over images out new built o =
        let h : Happening = record { event = event; lucks = o.0 } in record {
          w = (net_step (net_from start here.happenings) event o.0).net.wire.world;
          reached = subst (λ (n : Net). worlds.IsReached n.wire.world) (net_from-push h start here.happenings)
              (nodes_reached (here.happenings ++ h ∷ []) (first_on state here.happenings run.names run.world is_out here.behind event early o.0) (built-push here.happenings h here.behind.built built));
          held = o.1.moved.held;
          out = o.1.moved.out;
        }

  -- an event wasn't carried out
  pub nodes_still : (out : ℕ → Bool) (new : World D) → IsUndone state (net_from start here.happenings) out run.world new → nodes.IsWorld state out new.wire.nodes
  nodes_still out new u = record {
    w = (net_from start here.happenings).wire.world;
    reached = nodes_reached here.happenings here.behind.first here.behind.built;
    held = u.held.wire.nodes;
    out = u.out;
  }
