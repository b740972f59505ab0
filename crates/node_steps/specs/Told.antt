-- What the nodes tell in an event, and what their moves told and sent.
use Rattle.std.specs.Prelude.{◌≡◌, ℕ, ◌++◌, List, [], map, filter, option_to_list}
use Rattle.step_tables.specs.Facts.{Line, AnswerLine}
use Rattle.step_tables.specs.Lines.{line_of}
use Rattle.world_tables.specs.World.{Outbox, WorldStep}
use Rattle.store_host.specs.Holds as stores
use Rattle.journal_host.specs.Holds as hosts
use Rattle.node_steps.specs.declared.told.Outs.{Outs}
use Rattle.node_steps.specs.declared.told.Outs.TheVariants as outs
use Rattle.node_steps.specs.declared.told.Told.{Told}

-- the answer, and the lines that it counts
abbrev pub answer_lines : WorldStep → List Line
answer_lines s = map AnswerLine (option_to_list s.answer) ++ s.counted

-- these are the outboxes of some moves, those that told and sent nothing left out, where these Stores keep the tables
abbrev pub AreOuts : (ℕ → ℕ) → Outs → List Outbox → Type 0
AreOuts owners outs.Nothing moves = moves ≡ []
AreOuts owners (outs.OfStore some) moves = stores.outs_in some ≡ filter stores.says_something moves
AreOuts owners (outs.OfClients some) moves = hosts.outs_in owners some ≡ hosts.said moves

-- these lines alone are told, and nothing is told or sent behind them
pub record IsOnly (lines : List Line) (told : Told) : Type 0 where
  pub lines_are : map line_of told.lines ≡ lines
  pub none : told.outs ≡ outs.Nothing
