-- Moves one after the other keep the world, and what no line speaks of changes nothing of it.
use Rattle.std.proofs.Common.{ℕ, ◌+◌, Bool, true, false, List, sym, subst}
use Rattle.std.specs.Prelude.{if◌then◌else◌}
use Rattle.stab_base.specs.declared.node.Node.{Node}
use Rattle.row_value.specs.declared.schema.Scheme.{Scheme}
use Rattle.step_tables.specs.Facts.{Line}
use Rattle.step_tables.specs.Sayings.{Said, hear_lines}
use Rattle.world_tables.specs.World.{World, Moved, with_store, still, and_then, and_unless, failing, lines_from}
use Rattle.world_tables.specs.Sound.{AreSaid}
use Rattle.world_laws.proofs.Kept.{Kept, MoveSound}
use Rattle.world_laws.proofs.Lines.{hear-append, said-append, lines-append, sent_by}

module _ (g : ℕ → Scheme) where
  pub still_sound : (w : World) (s : Said) (number : ℕ) → Kept g w s → MoveSound g s w number (still w)
  still_sound w s number k = record { lines = tt; kept = k; there = λ table none. none }

  -- what is on hold, what is down and which links are down is no part of it
  pub nodes_kept : (w : World) (s : Said) (holds downs cuts : List Node) → Kept g w s → Kept g (record w { holds = holds; downs = downs; cuts = cuts }) s
  nodes_kept w s holds downs cuts k = record {
    items = k.items;
    sent = k.sent;
    told = k.told;
    history = k.history;
    lawful = k.lawful;
    schemes = k.schemes;
    declared = k.declared;
    tables = k.tables;
    stores = k.stores;
    unmade = k.unmade;
    no_store = k.no_store;
    clients = k.clients;
    no_client = k.no_client;
    packets = k.packets;
  }

  pub nodes_sound : (w : World) (s : Said) (number : ℕ) (holds downs cuts : List Node) → Kept g w s
      → MoveSound g s w number (still (record w { holds = holds; downs = downs; cuts = cuts }))
  nodes_sound w s number holds downs cuts k = record { lines = tt; kept = nodes_kept w s holds downs cuts k; there = λ table none. none }

  -- nor which Stores there are
  pub store_sound : (w : World) (s : Said) (node number : ℕ) → Kept g w s → MoveSound g s w number (still (with_store node w))
  store_sound w s node number k = record {
    lines = tt;
    kept = record {
      items = k.items;
      sent = k.sent;
      told = k.told;
      history = k.history;
      lawful = k.lawful;
      schemes = k.schemes;
      declared = k.declared;
      tables = k.tables;
      stores = k.stores;
      unmade = k.unmade;
      no_store = k.no_store;
      clients = k.clients;
      no_client = k.no_client;
      packets = k.packets;
    };
    there = λ table none. none;
  }

  -- nor which phases are open
  unfoldable pub phases_kept : (w : World) (s : Said) (phases : List (ℕ × ℕ)) → Kept g w s → Kept g (record w { phases = phases }) s
  phases_kept w s phases k = record {
    items = k.items;
    sent = k.sent;
    told = k.told;
    history = k.history;
    lawful = k.lawful;
    schemes = k.schemes;
    declared = k.declared;
    tables = k.tables;
    stores = k.stores;
    unmade = k.unmade;
    no_store = k.no_store;
    clients = k.clients;
    no_client = k.no_client;
    packets = k.packets;
  }

  pub both_sound : (w : World) (s : Said) (number : ℕ) (m : Moved) (f : World → Moved) → MoveSound g s w number m
      → ((x : Said) → Kept g m.world x → MoveSound g x m.world (number + sent_by g m.outs) (f m.world)) → MoveSound g s w number (and_then m f)
  both_sound w s number m f a b =
      let rest = b (hear_lines s (lines_from number m.outs)) a.kept in
      let lines = lines-append g number m.outs (f m.world).outs in
      record {
        lines = subst (λ (ls : List Line). AreSaid g s ls) (sym lines)
            (said-append g s (lines_from number m.outs) (lines_from (number + sent_by g m.outs) (f m.world).outs) a.lines rest.lines);
        kept = subst (λ (ls : List Line). Kept g (f m.world).world (hear_lines s ls)) (sym lines)
            (subst (λ (x : Said). Kept g (f m.world).world x) (sym (hear-append g s (lines_from number m.outs) (lines_from (number + sent_by g m.outs) (f m.world).outs))) rest.kept);
        there = λ table none. a.there table (rest.there table none);
      }

  pub unless_sound : (w : World) (s : Said) (number : ℕ) (m : Moved) (f : World → Moved) → MoveSound g s w number m
      → ((x : Said) → Kept g m.world x → MoveSound g x m.world (number + sent_by g m.outs) (f m.world)) → MoveSound g s w number (and_unless m f)
  unless_sound w s number m f a b = go m.failed
    where
      go : (failed : Bool) → MoveSound g s w number (if failed then m else and_then m f)
      go true = a
      go false = both_sound w s number m f a b

  pub failing_sound : (w : World) (s : Said) (number : ℕ) (m : Moved) → MoveSound g s w number m → MoveSound g s w number (failing m)
  failing_sound w s number m a = record { lines = a.lines; kept = a.kept; there = a.there }
