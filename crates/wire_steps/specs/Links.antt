-- A client's link that is taken up or down, and the refusal of a Store or a table that is at work.
use Rattle.std.specs.Prelude.{ℕ, Bool, if◌then◌else◌, List, [], ◌∷◌}
use Rattle.step_tables.specs.Facts.{Line, AnswerLine}
use Rattle.step_tables.specs.Facts as facts
use Rattle.world_tables.specs.World.{World, hosted_at, client_at, is_client_down, with_link}
use Rattle.store_host.specs.Calls.{busy_version}
use Rattle.wire_tables.specs.Wire.{Wire}

-- of a client that is down it stays as it is
abbrev pub link_set : ℕ → Bool → Wire → Wire
link_set c up v = if is_client_down (client_at v.world c) then v else record v { world = with_link c up v.world }

-- the line of this table that is at work, or of its Store: the version of its next write
abbrev pub busy_lines : World → ℕ → List Line
busy_lines w table = AnswerLine (facts.Refuses (facts.Busy (busy_version (hosted_at w table)))) ∷ []
