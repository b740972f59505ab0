-- What is kept behind any run.
use Rattle.std.proofs.Common.{ℕ, List, refl}
use Rattle.std.specs.Prelude.{map}
use Rattle.row_value.specs.declared.schema.Scheme.{Scheme}
use Rattle.client_laws.proofs.Law.{client_law}
use Rattle.client_laws.proofs.Grows.{client_grows, lapsed_grows}
use Rattle.step_tables.specs.Sayings.{Said, nothing_said}
use Rattle.world_tables.specs.World.{start}
use Rattle.world_tables.specs.Turns.{Happening, world_from}
use Rattle.world_tables.specs.Sound.{scheme_for}
use Rattle.world_laws.proofs.Fresh.{fresh_part}
use Rattle.world_laws.proofs.Kept.{Kept}
use Rattle.world_laws.proofs.Runs.{run_kept, start_kept}
use Rattle.world_laws.proofs.Ups.{start_up}

pub schemes : List Happening → ℕ → Scheme
schemes run = scheme_for (map (λ (h : Happening). h.event) run)

pub kept_behind : (run : List Happening) → (x : Said) × Kept (schemes run) (world_from start run) x
unfolding schemes
kept_behind run = run_kept client_law client_grows lapsed_grows fresh_part (schemes run) run start nothing_said (start_kept client_law client_grows lapsed_grows fresh_part (schemes run)) start_up
    (λ table none. refl)
