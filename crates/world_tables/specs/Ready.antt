-- Which nodes take a message now: those that are up, linked, and have no write to be done.
use Rattle.std.specs.Prelude.{ℕ, Bool, true, false, ◌&&◌, not, List, [], Option, Some, None}
use Rattle.stab_base.specs.declared.node.Node.TheVariants as nodes
use Rattle.step_tables.specs.ClientMoves.{Client}
use Rattle.world_tables.specs.World.{World, Hosted, owner_of, hosted_at, client_at, is_cut, is_down}

abbrev pub is_idle : {X : Type 0} → Option (List X) → Bool
is_idle (Some []) = true
is_idle other = false

abbrev pub is_idle_table : Option Hosted → Bool
is_idle_table None = false
is_idle_table (Some hosted) = is_idle hosted.store.agenda

abbrev pub is_table_ready : World → ℕ → Bool
is_table_ready w table =
    not (is_down w (nodes.Store (owner_of w table))) && is_idle_table (hosted_at w table)

abbrev pub is_idle_client : Option Client → Bool
is_idle_client None = false
is_idle_client (Some node) = is_idle node.agenda

abbrev pub is_client_ready : World → ℕ → Bool
is_client_ready w c = not (is_cut w c) && is_idle_client (client_at w c)
