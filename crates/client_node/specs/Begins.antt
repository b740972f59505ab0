-- How the devices of a node take a plan on.
use Rattle.std.specs.Prelude.{◌≡◌, ℕ, ◌+◌, List}
use Rattle.disk_trait.specs.Calls.{DiskState}
use Rattle.held_value.specs.declared.local_name.LocalName.{LocalName}
use Rattle.client_journal.specs.declared.devs.Journal.{Journal}
use Rattle.client_journal.specs.declared.plan.Plan.{Plan}
use Rattle.client_journal.specs.Agenda.{plan_writes, meaning_with, IsMoment, Runs}
use Rattle.client_journal.specs.NamedSlots.{NamedSlots, IsAtRest}
use Rattle.client_journal.specs.Plan.{commit_for, intend_for}
use Rattle.client_journal.specs.Standing.{devs, writes_of}

-- the number that the next plan gets
abbrev pub next_number : {D : Type 0} → (D → DiskState) → Journal D → ℕ
next_number state client = (devs state client).journal.greatest + 1

-- The writes of this plan are to be done, and it is whole at every moment of them.
pub record BeginsPlan {D : Type 0} (state : D → DiskState) (old new : Journal D) (plan : Plan) : Type 0 where
  pub writes : writes_of new ≡ plan_writes (devs state old).held (intend_for (next_number state old) plan) plan.brought
      (commit_for (next_number state old) plan)
  pub moments : (meaning : LocalName → List ℕ) → NamedSlots meaning (devs state old) → IsAtRest (devs state old)
      → Runs (IsMoment (meaning_with meaning (next_number state old) plan.brought) (devs state old).held
      (commit_for (next_number state old) plan)) (devs state new) (writes_of new)
