-- The tables whose conflicts a client resolves, behind a move.
use Rattle.std.specs.Prelude.{◌≡◌, ℕ, ◌==◌, Bool, true, not, ◌&&◌, ◌||◌, List, Option, Some, None, Result, Ok, Err}
use Rattle.std.specs.Prelude.{false}
use Rattle.table_model.specs.declared.line.Answer.{Answer}
use Rattle.step_tables.specs.Facts as facts
use Rattle.step_tables.specs.Lines.{answer_of}
use Rattle.step_tables.specs.ClientMoves.{ClientTask, ClientMove, BeginCr, EndCr}
use Rattle.client_node.specs.declared.node.ClientNode.{ClientNode}
use Rattle.client_node.specs.Phases.{is_open}

-- of a client that is up behind it
abbrev pub phase_behind : ClientMove → facts.Answer → (ℕ → Bool) → ℕ → Bool
phase_behind (BeginCr table) facts.Done phase other = table == other || phase other
phase_behind (EndCr table) facts.Done phase other = not (table == other) && phase other
phase_behind move answer phase other = phase other

-- one that is down has none
abbrev pub phase_left : Option (List ClientTask) → ClientMove → facts.Answer → (ℕ → Bool) → ℕ → Bool
phase_left None move answer phase other = false
phase_left (Some tasks) move answer phase other = phase_behind move answer phase other

-- the same phases are open
abbrev pub SamePhases : {D : Type 0} → (old new : ClientNode D) → Type 0
SamePhases old new = (table : ℕ) → is_open new table ≡ is_open old table

-- a node that is up behind a move has those open that the move leaves
abbrev pub MovesPhases : {D : Type 0} → ClientMove → facts.Answer → (old new : ClientNode D) → Type 0
MovesPhases move answer old new =
    new.is_up ≡ true → (table : ℕ) → is_open new table ≡ phase_behind move answer (is_open old) table

-- what a call answered; a fault is as good as a refusal
abbrev pub answer_in : {E : Type 0} → Result Answer E → facts.Answer
answer_in (Ok answer) = answer_of answer
answer_in (Err fault) = facts.Refuses facts.NoDevice
