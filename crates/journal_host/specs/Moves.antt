-- The moves of a client's events without the work that follows them, and what follows them.
use Rattle.std.specs.Prelude.{ℕ, Bool, true, false, ◌&&◌, ◌++◌, List, [], ◌∷◌, Option, Some, None, if◌then◌else◌}
use Rattle.stab_base.specs.declared.node.Node.TheVariants as nodes
use Rattle.step_tables.specs.Facts as facts
use Rattle.step_tables.specs.Messages.{Message, Luck}
use Rattle.step_tables.specs.Messages as messages
use Rattle.step_tables.specs.ClientMoves.{Client, ClientTask, ClientMove, Shape, Take, Start, client_step, is_cut_off}
use Rattle.step_tables.specs.ClientMoves.{kept_out}
use Rattle.world_tables.specs.World.{World, WorldStep, Moved, client_at, move_client, still, failing, answering}
use Rattle.world_tables.specs.World.{answered, refused, unless_down, reads, unless_kept, unless_cut, first_luck}
use Rattle.world_tables.specs.World.{is_down, is_cut, is_resolving, is_closed, table_of_move, closed_answer}
use Rattle.world_tables.specs.World.{unless_closed}

-- more moves behind those of an event: where one of them fails, that is the answer
abbrev pub then_moves : WorldStep → (World → Moved) → WorldStep
then_moves s f = record {
  world = (f s.world).world;
  answer = if (f s.world).failed then Some (facts.Refuses facts.NoDevice) else s.answer;
  counted = s.counted;
  outs = s.outs ++ (f s.world).outs;
}

-- the writes that a client has to do
abbrev pub agenda_in : Option Client → Option (List ClientTask)
agenda_in None = None
agenda_in (Some node) = node.agenda

-- ---- calls

-- of a client that is up, reads its disks, hasn't closed the table, isn't kept from it by its phases, and has its link
-- or needs none
abbrev pub move_alone : World → ℕ → ClientMove → Shape → Client → WorldStep
move_alone w c move shape node = answering (client_step c shape node move).answer (move_client c move shape w)

abbrev pub alone_there : World → ℕ → ClientMove → Shape → List Luck → Option Client → WorldStep
alone_there w c move shape lucks None = refused w facts.NoTable
alone_there w c move shape lucks (Some node) =
    unless_down w (nodes.Client c)
    (reads w c (first_luck lucks)
    (unless_closed w (is_closed node (table_of_move move)) (closed_answer shape (is_cut w c) node.agenda move)
    (unless_kept w (kept_out (is_resolving w c) move (client_step c shape node move).answer)
    (unless_cut w (is_cut w c && is_cut_off c shape node move) (move_alone w c move shape node)))))

-- a client's move
abbrev pub call_alone : World → ℕ → ClientMove → Shape → List Luck → WorldStep
call_alone w c move shape lucks = alone_there w c move shape lucks (client_at w c)

-- ---- messages

abbrev pub take_there : World → ℕ → Message → Shape → List Luck → Option Client → WorldStep
take_there w c message shape lucks None = answered w facts.Done
take_there w c message shape lucks (Some node) = alone_there w c (Take message) shape lucks (Some node)

-- a message for a client; one for a client that isn't there is lost
abbrev pub take_alone : World → ℕ → Message → Shape → List Luck → WorldStep
take_alone w c message shape lucks = take_there w c message shape lucks (client_at w c)

-- ---- starts

-- where what is read of the disks can be
abbrev pub starts_alone : ℕ → Shape → Luck → World → Moved
starts_alone c shape messages.Done w = move_client c Start shape w
starts_alone c shape messages.FailedBefore w = failing (still w)
starts_alone c shape messages.FailedAfter w = failing (still w)

-- a client that is up goes on
abbrev pub start_alone : World → ℕ → Shape → List Luck → WorldStep
start_alone w c shape lucks = if is_down w (nodes.Client c)
    then answering facts.Done (starts_alone c shape (first_luck lucks) w)
    else answered w facts.Done

-- ---- work

abbrev pub has_work : List ClientTask → Bool
has_work [] = false
has_work (task ∷ tasks) = true
