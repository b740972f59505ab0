-- Settled: every client shows of each row what the Store has, or a conflict with that.
use Rattle.std.specs.Prelude.{◌≡◌, ℕ, List, Option, Some, None}
use Rattle.row_value.specs.declared.schema.Scheme.{Scheme}
use Rattle.row_value.specs.declared.schema.Scheme.TheVariants.{Strong}
use Rattle.table_model.specs.History.{current}
use Rattle.step_tables.specs.Facts.{Shown}
use Rattle.step_tables.specs.Facts as facts
use Rattle.step_tables.specs.Members.{Among}
use Rattle.step_tables.specs.Sayings.{Said, open_of}
use Rattle.world_tables.specs.Sound.{shown_of}

-- what is shown of a row whose last version is this: that version, or a conflict that names it, or nothing where it
-- is 0
abbrev pub IsUpTo : ℕ → Option Shown → Type 0
IsUpTo version None = version ≡ 0
IsUpTo version (Some (facts.Clean shown content)) = shown ≡ version
IsUpTo version (Some (facts.Mine number content)) = ⊥
IsUpTo version (Some (facts.Contended number met content)) = met ≡ version

-- each client is up to each row of the tables that are opened at it, which stand beside it here, and no strong write is
-- open
pub record IsSettled (g : ℕ → Scheme) (s : Said) (opened : List (ℕ × ℕ)) : Type 0 where
  pub rows : (client table : ℕ) → Among opened (client, table) → (row : List ℕ)
      → IsUpTo (current (s.history table) row) (shown_of g s client table row)
  pub strong : (client table : ℕ) (row : List ℕ) → g table ≡ Strong → open_of ((s.heard client).at table row) ≡ None
