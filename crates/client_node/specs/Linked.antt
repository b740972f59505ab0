-- What a move makes of a client whose link is up or down, and that resolves the conflicts of some tables.
use Rattle.std.specs.Prelude.{ℕ, Bool, not, ◌&&◌, Option, Some, None, if◌then◌else◌}
use Rattle.step_tables.specs.Facts.{Refusal}
use Rattle.step_tables.specs.Facts as facts
use Rattle.step_tables.specs.ClientMoves.{Shape, Client, ClientStep, ClientMove, client_step, is_cut_off, kept_out}
use Rattle.step_tables.specs.ClientMoves.{quiet}

-- a client whose link is down refuses what needs it, and does all else as one whose link is up
abbrev pub linked_step : Bool → ℕ → Shape → Client → ClientMove → ClientStep
linked_step up c shape s move = if not up && is_cut_off c shape s move
    then quiet s.disk s.agenda (facts.Refuses facts.Offline)
    else client_step c shape s move

abbrev pub unless_kept : Client → Option Refusal → ClientStep → ClientStep
unless_kept s None step = step
unless_kept s (Some refusal) step = quiet s.disk s.agenda (facts.Refuses refusal)

-- and one that resolves the conflicts of these tables refuses what that keeps out
abbrev pub phased_step : (ℕ → Bool) → Bool → ℕ → Shape → Client → ClientMove → ClientStep
phased_step phase up c shape s move =
    unless_kept s (kept_out phase move (client_step c shape s move).answer) (linked_step up c shape s move)
