-- What the calls of the nodes promise.
use Rattle.std.specs.Prelude.{◌≡◌, ℕ, List, [], ◌∷◌, map, is_some, Result, IfOk}
use Rattle.disk_trait.specs.Calls.{DiskState}
use Rattle.table_model.specs.declared.line.RowPair.{RowPair}
use Rattle.step_tables.specs.Facts as facts
use Rattle.step_tables.specs.Facts.{AnswerLine, PairLine}
use Rattle.step_tables.specs.Lines.{line_of}
use Rattle.step_tables.specs.Messages.{Luck}
use Rattle.step_tables.specs.ClientMoves.{Shape}
use Rattle.world_tables.specs.World.{WorldStep, Lucks, no_lucks, owner_of, hosted_at, client_at}
use Rattle.journal_host.specs.Holds.{HoldsClients}
use Rattle.world_tables.specs.World as moves
use Rattle.node_steps.specs.declared.fault.WorldFault.{WorldFault}
use Rattle.node_steps.specs.declared.told.Outs.TheVariants as outs
use Rattle.node_steps.specs.declared.told.Told.{Told}
use Rattle.node_steps.specs.declared.world.World.{World}
use Rattle.node_steps.specs.Holds.{Holds}
use Rattle.node_steps.specs.Told.{answer_lines, AreOuts}

-- What is told is that of the step, and the program's nodes hold the world behind it, which has the same tables and the
-- same clients.
pub record IsDone {D : Type 0} (state : D → DiskState) (w : moves.World) (s : WorldStep) (told : Told) (new : World D)
    : Type 0 where
  pub lines_are : map line_of told.lines ≡ answer_lines s
  pub outs_are : AreOuts (owner_of s.world) told.outs s.outs
  pub held : Holds state s.world new
  pub tables : (table : ℕ) → is_some (hosted_at s.world table) ≡ is_some (hosted_at w table)
  pub clients : (c : ℕ) → is_some (client_at s.world c) ≡ is_some (client_at w c)

-- these lucks of the device calls, and no client has writes beside those that change what its devices stand for
abbrev pub with_calls : List Luck → Lucks
with_calls calls = record no_lucks { calls = calls }

-- a client's event, by the shape of its plan and its lucks
abbrev pub by_lucks : (Shape → List Luck → WorldStep) → Lucks → WorldStep
by_lucks f lucks = f lucks.shape lucks.calls

-- the same with some lucks, unless the call ends the run
abbrev pub Comes : {D : Type 0} → (D → DiskState) → moves.World → (Lucks → WorldStep) → Result Told WorldFault
    → World D → Type 0
Comes state w f result new = IfOk result (λ told. (lucks : Lucks) × IsDone state w (f lucks) told new)

-- The answer, and behind it what waited at the Stores to be told and sent. Only what waits has changed.
pub record HasTold {D : Type 0} (old new : World D) (answer : facts.Answer) (told : Told) : Type 0 where
  pub lines_are : map line_of told.lines ≡ AnswerLine answer ∷ []
  pub outs_are : told.outs ≡ outs.OfStore old.store.outs
  pub store : new.store ≡ record old.store { outs = [] }
  pub same : new ≡ record old { store = new.store }

-- The same of what waits at the clients, behind the rows in conflict that the answer counts.
pub record HasToldPairs {D : Type 0} (state : D → DiskState) (old new : World D) (answer : facts.Answer)
    (pairs : List RowPair) (told : Told) : Type 0 where
  pub lines_are : map line_of told.lines ≡ AnswerLine answer ∷ map PairLine pairs
  pub outs_are : told.outs ≡ outs.OfClients old.clients.outs.items
  pub held : (w : moves.World) → HoldsClients state w old.clients → HoldsClients state w new.clients
  pub nodes : new.clients.clients ≡ old.clients.clients
  pub none_waits : new.clients.outs.items ≡ []
  pub same : new ≡ record old { clients = new.clients }

-- where it counts none
abbrev pub HasToldClients : {D : Type 0} → (D → DiskState) → (old new : World D) → facts.Answer → Told → Type 0
HasToldClients state old new answer told = HasToldPairs state old new answer [] told
