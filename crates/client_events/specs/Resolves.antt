-- What becomes of the clients where one of them resolves all conflicts of a table.
use Rattle.std.specs.Prelude.{◌≡◌, ◌⊎◌, ℕ, ◌+◌, ◌<◌, ◌≤◌, true, false, List, [], Option, Some, None}
use Rattle.std.specs.Prelude.{Result, IfOk}
use Rattle.disk_trait.specs.Calls.{DiskState}
use Rattle.stab_base.specs.declared.limits.TheConstants.{NUMBER_MAX}
use Rattle.conflicts.specs.declared.stored.Stored.{Stored}
use Rattle.table_model.specs.declared.line.Answer.{Answer}
use Rattle.table_model.specs.declared.line.Answer.TheVariants as answers
use Rattle.table_model.specs.declared.line.RowPair.{RowPair}
use Rattle.step_tables.specs.Lines.{answer_of}
use Rattle.step_tables.specs.Messages.{Luck}
use Rattle.step_tables.specs.ClientMoves.{ClientDisk, Client, Shape, table_at, seen}
use Rattle.world_tables.specs.World.{World, WorldStep, Moved, Lucks, and_unless, client_at, client_until_idle}
use Rattle.world_tables.specs.World.{first_luck, is_closed_in, is_fault, is_resolving, other_lucks, resolve_by}
use Rattle.journal_host.specs.declared.fault.ClientFault.{ClientFault}
use Rattle.journal_host.specs.declared.fault.ClientFault.TheVariants as fault
use Rattle.journal_host.specs.declared.host.ClientHost.{ClientHost}
use Rattle.journal_host.specs.Calls.{IsMoved, IsCalled}

-- ---- one row

-- it is resolved, and its plan worked to its end
abbrev pub resolve_row : ℕ → ℕ → Stored → Shape → RowPair → List Luck → World → Moved
resolve_row c table by shape pair lucks w =
    and_unless (resolve_by c table by shape pair (first_luck lucks) w) (client_until_idle c (other_lucks lucks))

-- A client that has nothing to do, resolves the conflicts of a table that it hasn't closed, and has given no number
-- above this.
pub record IsReady (w : World) (c table last : ℕ) : Type 0 where
  pub disk : ClientDisk
  pub at : client_at w c ≡ Some (record { disk = disk; agenda = Some [] })
  pub free : is_closed_in (table_at (seen disk) table) ≡ false
  pub phase : is_resolving w c table ≡ true
  pub given : disk.last ≤ last
  pub giving : (seen disk).last ≤ last

-- These are the moves of a row, and the answer says whether a disk failed in them.
pub record HasResolved {D : Type 0} (state : D → DiskState) (old new : ClientHost D) (m : Moved) (answer : Answer)
    : Type 0 where
  pub moved : IsMoved state old new m
  pub failed_is : m.failed ≡ is_fault (answer_of answer)

-- ---- all rows

abbrev pub number_in : Answer → Option ℕ
number_in (answers.Number count) = Some count
number_in other = None

-- The clients are where an event of many plans leads to with some lucks, with this answer.
abbrev pub ComesSo : {D : Type 0} → (D → DiskState) → (old new : ClientHost D) → (Lucks → WorldStep)
    → Result Answer ClientFault → Type 0
ComesSo state old new f result = IfOk result (λ answer. (lucks : Lucks) × IsCalled state old new (f lucks) answer)

-- with so many writes more the client has made its last one, be it one that its plan is about to make
abbrev pub IsLastWithin : ℕ → Option Client → Type 0
IsLastWithin count None = ⊥
IsLastWithin count (Some s) = (NUMBER_MAX ≤ s.disk.last + count) ⊎ (NUMBER_MAX ≤ (seen s.disk).last + count)

-- or with so many plans more the last of so many is begun
abbrev pub IsNumberCauseWithin : ℕ → ℕ → Option Client → ClientFault → Type 0
IsNumberCauseWithin n count s fault.Spent = IsLastWithin count s ⊎ (NUMBER_MAX ≤ n + count)
IsNumberCauseWithin n count s fault.Memory = Unit {0}

-- the same before the last of so many rows, where the client has given no number above this
abbrev pub IsCauseAbove : ℕ → ℕ → ℕ → ClientFault → Type 0
IsCauseAbove n last count fault.Spent = (NUMBER_MAX < last + count) ⊎ (NUMBER_MAX < n + count)
IsCauseAbove n last count fault.Memory = Unit {0}
