-- The script that an input spells.
use Rattle.std.specs.Prelude.{◌≡◌, ◌⊎◌, ℕ, ◌-◌, ◌≤◌, List, [], ◌∷◌, length}
use Rattle.table_model.specs.declared.event.Event.{Event}
use Rattle.stab_io.specs.declared.limits.TheConstants.{LINE_LIMIT, INPUT_LIMIT}
use Rattle.stab_io.specs.Lines.{Next, Line, next_of}
use Rattle.script_text.specs.Names.{Names, no_names, with_event}
use Rattle.script_text.specs.Grammar.{IsPassed, Spells}
use Rattle.simba_top.specs.declared.run.TheConstants.{MOST_LINES}
use Rattle.simba_top.specs.RowNames.{FewRows}

-- what comes next in an input of this length, where these bytes are left of it
abbrev pub next_in : ℕ → List ℕ → Next
next_in total bytes = next_of (record { line = LINE_LIMIT; input = INPUT_LIMIT }) (total - length bytes) bytes

-- these lines come next in an input of this length, and then these bytes are left
abbrev pub Behind : ℕ → List ℕ → List (List ℕ) → List ℕ → Type 0
Behind total bytes [] rest = rest ≡ bytes
Behind total bytes (line ∷ lines) rest =
    (left : List ℕ) × (next_in total bytes ≡ Line line left) × Behind total left lines rest

-- the events that lines spell behind what was declared, and what is declared behind them
abbrev pub Spelled : Names → List (List ℕ) → List Event → Names → Type 0
Spelled names [] script after = (script ≡ []) × (after ≡ names)
Spelled names (line ∷ lines) script after =
    (IsPassed line × Spelled names lines script after)
    ⊎ ((event : Event) × (more : List Event) × (script ≡ event ∷ more) × Spells names line event
    × Spelled (with_event names event) lines more after)

-- the first lines of an input, as many as `count`, spell this script, which names no more rows than it may; then these
-- names are declared and these bytes left
pub record IsFront (input : List ℕ) (script : List Event) (count : ℕ) (names : Names) (rest : List ℕ) : Type 0 where
  pub lines : List (List ℕ)
  pub behind : Behind (length input) input lines rest
  pub spelled : Spelled no_names lines script names
  pub counted : count ≡ length lines
  pub few : count ≤ MOST_LINES
  pub rows : FewRows script

-- the whole input spells this script
abbrev pub IsWhole : List ℕ → List Event → Type 0
IsWhole input script = (count : ℕ) × (names : Names) × IsFront input script count names []
