-- Which rows a start notes: those whose slots wait, and that of a plan that is redone.
use Rattle.std.specs.Prelude.{List, ℕ, IfSome}
use Rattle.plan_log.specs.Spelling.{IsTable}
use Rattle.client_journal.specs.Devs.{ClientDevs}
use Rattle.client_journal.specs.Recover.{rolled_of}
use Rattle.client_journal.specs.declared.rolled.Rolled.{Rolled}
use Rattle.client_node.specs.Answers.{held_at}
use Rattle.client_node.specs.Carrying.{IsNotedRow}
use Rattle.client_node.specs.Waiting.{IsNotedTwice}
use Rattle.client_node.specs.declared.waiting.Waiting.{Waiting}

-- a row is noted by the slots that the devices hold, a commit at work applied
abbrev pub IsNotedAt : ClientDevs → Waiting → ℕ → List ℕ → Type 0
IsNotedAt d w table row = IsNotedRow w table (record { row = row; slots = held_at d table row })

-- each row of a table is
abbrev pub AreNotedOf : ClientDevs → Waiting → ℕ → Type 0
AreNotedOf d w table = (row : List ℕ) → IsNotedAt d w table row

-- the row of a plan that is redone is noted, whatever its slots were and come to
abbrev pub IsRedoneNoted : Waiting → Rolled → Type 0
IsRedoneNoted w rolled = IfSome rolled.redone (λ redone. IfSome redone.row (IsNotedTwice w redone.table))

-- each row of the devices, and that of the commit at work
pub record AreAllNoted (d : ClientDevs) (w : Waiting) : Type 0 where
  pub each : (table : ℕ) → IsTable table → AreNotedOf d w table
  pub redone : IsRedoneNoted w (rolled_of d.journal.at_work)
