-- A client's link that is taken up or down.
use Rattle.std.specs.Prelude.{ℕ, Bool, if◌then◌else◌}
use Rattle.world_tables.specs.World.{World, client_at, is_client_down, with_link}

-- of a client that is down it stays as it is
abbrev pub link_set : ℕ → Bool → World → World
link_set c up w = if is_client_down (client_at w c) then w else with_link c up w
