-- What the lists of chunk names say of a table whose owner is quiet: where nothing came to that Store while it was on
-- hold that it hasn't worked off since.
use Rattle.std.specs.Prelude.{◌≡◌, ℕ, ◌==◌, ◌<◌, false, List, [], ◌∷◌, ◌++◌, map, slice_get, Option, Some, None}
use Rattle.std.specs.Prelude.{if◌then◌else◌}
use Rattle.stab_base.specs.declared.chunk_name.ChunkName.{ChunkName}
use Rattle.stab_base.specs.declared.node.Node.{Node}
use Rattle.stab_base.specs.declared.node.Node.TheVariants as nodes
use Rattle.row_value.specs.declared.schema.Schema.{Schema}
use Rattle.table_model.specs.declared.event.Event.{Event}
use Rattle.table_model.specs.declared.event.Event.TheVariants as events
use Rattle.step_tables.specs.Facts.{Answer, Line, AnswerLine, EntryLine, FactLine}
use Rattle.step_tables.specs.Facts as facts
use Rattle.step_tables.specs.Sayings.{Said, nothing_said, hear_lines}
use Rattle.world_tables.specs.Chunks.{AreChunks}
use Rattle.world_tables.specs.World.{has_node, without_node, owner_by, chunk_in, joining}
use Rattle.world_tables.specs.Turns.{Turn}

-- the nodes on hold; those to which something came while they were on hold; to whom each packet was sent; and the
-- Stores that were declared, the last one first
pub record Quiet : Type 0 where
  pub held : List Node
  pub loud : List Node
  pub sent : List Node
  pub stores : List ℕ

abbrev pub at_first : Quiet
at_first = record { held = []; loud = []; sent = []; stores = [] }

abbrev pub sent_in : List Line → List Node
sent_in [] = []
sent_in (FactLine (facts.Sent packet from to name) ∷ lines) = to ∷ sent_in lines
sent_in (other ∷ lines) = sent_in lines

abbrev pub answer_in : List Line → Option Answer
answer_in [] = None
answer_in (AnswerLine answer ∷ lines) = Some answer
answer_in (other ∷ lines) = answer_in lines

-- where it isn't refused
abbrev pub if_done : {X : Type 0} → Option Answer → X → X → X
if_done None done else_ = else_
if_done (Some (facts.Refuses refusal)) done else_ = else_
if_done (Some answer) done else_ = done

-- something comes to a node
abbrev pub comes_to : Quiet → Option Node → List Node
comes_to q None = q.loud
comes_to q (Some node) = if has_node q.held node then node ∷ q.loud else q.loud

abbrev pub held_after : Quiet → Event → Option Answer → List Node
held_after q (events.Hold node) answer = if_done answer (node ∷ q.held) q.held
held_after q (events.Free node) answer = if_done answer (without_node q.held node) q.held
held_after q other answer = q.held

abbrev pub loud_after : Quiet → Event → Option Answer → List Node
loud_after q (events.Deliver packet) answer = comes_to q (slice_get q.sent packet)
loud_after q (events.Start node) answer = comes_to q (Some node)
loud_after q (events.WorkAll node) answer = if_done answer (without_node q.loud node) q.loud
loud_after q (events.Store number) answer = joining number q.loud
loud_after q other answer = q.loud

abbrev pub stores_after : Quiet → Event → List ℕ
stores_after q (events.Store number) = number ∷ q.stores
stores_after q other = q.stores

abbrev pub after : Quiet → Turn → Quiet
after q turn =
    let answer : Option Answer = answer_in turn.lines in
    record {
      held = held_after q turn.event answer;
      loud = loud_after q turn.event answer;
      sent = q.sent ++ sent_in turn.lines;
      stores = stores_after q turn.event;
    }

-- the names that an answer lists
abbrev pub names_in : Answer → Option (List ChunkName)
names_in (facts.Names names) = Some names
names_in (facts.Number number) = if number == 0 then Some [] else None
names_in other = None

abbrev pub AreTheChunks : Said → ℕ → ℕ → Option (List ChunkName) → Type 0
AreTheChunks s table size None = Unit {0}
AreTheChunks s table size (Some names) = AreChunks s table size names

-- what a table is: its first declaration
abbrev pub schema_by : Event → ℕ → Option Schema → Option Schema
schema_by (events.Table number schema) table rest = if number == table then Some schema else rest
schema_by (events.Draft number schema) table rest = if number == table then Some schema else rest
schema_by other table rest = rest

abbrev pub schema_for : List Event → ℕ → Option Schema
schema_for [] table = None
schema_for (event ∷ more) table = schema_by event table (schema_for more table)

-- a list of a table's chunks, where its owner is quiet, has exactly those that its rows name; chunks have a size from 1
abbrev pub IsListed : (ℕ → Option Schema) → Said → Quiet → Event → Option Answer → Type 0
IsListed schemas s q (events.Chunks table) (Some answer) =
    0 < chunk_in (schemas table)
    → has_node q.loud (nodes.Store (owner_by q.stores (schemas table))) ≡ false
    → AreTheChunks s table (chunk_in (schemas table)) (names_in answer)
IsListed schemas s q event answer = Unit {0}

abbrev pub AreListedFrom : (ℕ → Option Schema) → Said → Quiet → List Turn → Type 0
AreListedFrom schemas s q [] = Unit {0}
AreListedFrom schemas s q (turn ∷ turns) =
    IsListed schemas s q turn.event (answer_in turn.lines)
    × AreListedFrom schemas (hear_lines s turn.lines) (after q turn) turns

abbrev pub AreListed : List Turn → Type 0
AreListed turns =
    AreListedFrom (schema_for (map (λ (turn : Turn). turn.event) turns)) nothing_said at_first turns
