-- One write more, and names that are told.
use Rattle.std.proofs.Common.{◌≡◌, ◌∙◌, ◌<◌, ℕ, List, [], ◌∷◌, Option, Result, Ok, Err, ap, arith}
use Rattle.std.specs.Prelude.{OnOk, IfOk, length}
use Rattle.disk_trait.specs.Calls.{DiskState}
use Rattle.stab_base.specs.declared.step.Step.{Step}
use Rattle.held_value.specs.declared.local_name.LocalName.{LocalName}
use Rattle.client_journal.specs.declared.devs.Journal.{Journal}
use Rattle.client_journal.specs.declared.fault.JournalFault.{JournalFault}
use Rattle.client_journal.specs.Devs.{Write}
use Rattle.client_journal.specs.Standing.{writes_of, WorksOn}
use Rattle.plan_bench.specs.declared.fault.BenchFault.{BenchFault}
use Rattle.plan_bench.specs.Rows.{listed}

module _ {D : Type 0} (state : D → DiskState) (images : D → ℕ → List ℕ → Type 0) where
  -- behind a write fewer are to come
  pub fewer : (old new : Journal D) (r : Result Step JournalFault) (ws : List Write) → writes_of old ≡ ws → (writes_of old ≡ [] → ⊥)
      → WorksOn state images old new r ws → OnOk r (length (writes_of new) < length (writes_of old))
  fewer old new (Err e) ws is some k = tt
  fewer old new (Ok step) [] is some k = absurd (some is)
  fewer old new (Ok step) (w ∷ ws) is some k = omega (arith, ap length k.1, ap length is)

-- the names of slots that are the ones that were found
pub same_names : (here found : List LocalName) (r : Result (Option LocalName) BenchFault) → here ≡ found → IfOk r (λ old. found ≡ listed old) → IfOk r (λ old. here ≡ listed old)
same_names here found (Err e) same is = tt
same_names here found (Ok old) same is = same ∙ is
