-- How a run over an input ends, and what it has written then.
use Rattle.std.specs.Prelude.{◌≡◌, ◌⊎◌, ℕ, ◌+◌, ◌-◌, ◌<◌, ◌≤◌, true, false, List, [], ◌∷◌, ◌++◌, length, map}
use Rattle.std.specs.Prelude.{Option}
use Rattle.std.specs.Io.KnownBytes.{Appends}
use Rattle.std.specs.List.{AllByRecursion}
use Rattle.table_model.specs.declared.event.Event.{Event}
use Rattle.table_model.specs.declared.line.TextLine.{TextLine}
use Rattle.step_tables.specs.Lines.{line_of}
use Rattle.world_tables.specs.World.{client_at, is_resolving}
use Rattle.world_tables.specs.Turns.{Happening, transcript_of}
use Rattle.gated_tables.specs.Net.{start}
use Rattle.gated_tables.specs.Runs.{net_from, net_turns}
use Rattle.world_tables.specs.Sound.{IsSound}
use Rattle.world_tables.specs.Quiet.{AreListed}
use Rattle.asked_laws.specs.Asked.{AreAsked}
use Rattle.asked_laws.specs.Phases.{is_away, has_phase}
use Rattle.stab_io.specs.declared.limits.TheConstants.{LINE_LIMIT, INPUT_LIMIT}
use Rattle.stab_io.specs.Lines.{Line, LineTooLong, InputTooLong, HasNoNewline}
use Rattle.script_text.specs.declared.fault.BadLine.{BadLine}
use Rattle.script_text.specs.Names.{Names}
use Rattle.script_text.specs.Grammar.{Spells, IsFault, PassesLimit}
use Rattle.transcript_text.specs.OneForm.{HasText}
use Rattle.transcript_text.specs.Text.{stop_text}
use Rattle.simba_top.specs.declared.run.TheConstants.{MOST_LINES}
use Rattle.simba_top.specs.declared.output.Output.{Output}
use Rattle.simba_top.specs.Faults.{GoesOver}
use Rattle.simba_top.specs.Outputs.{text_so_far, text_at_end}
use Rattle.simba_top.specs.RowNames.{NamesTooMany, FewRows}
use Rattle.simba_top.specs.Script.{next_in, IsFront, IsWhole}

-- ---- what is written

-- at each moment of a run a client resolves the conflicts of a table exactly where the lines so far tell of a phase of
-- it, and then the client is up
abbrev pub AreToldPhases : List Happening → Type 0
AreToldPhases run = (front more : List Happening) → run ≡ front ++ more → (client table : ℕ)
    → (is_resolving (net_from start front).wire.world client table ≡ has_phase (net_turns front) client table)
    × (has_phase (net_turns front) client table ≡ true
    → is_away (client_at (net_from start front).wire.world client) ≡ false)

-- A run of a script that has P, of the world with gateways, where large messages go as their parts: its events, each
-- with the lucks of its device calls, and what the lines of it are. Each of these has the text of one line alone. They
-- are sound, where chunks are listed at a quiet Store they are those that its rows name, a row is told as resolved only
-- where its client was asked to, and the phases in which clients resolve are those that the lines tell
pub record IsRun (P : List Happening → Type 0) (script : List Event) (lines : List TextLine) : Type 0 where
  pub run : List Happening
  pub events : map (λ (h : Happening). h.event) run ≡ script
  pub lines_are : map line_of lines ≡ transcript_of (net_turns run)
  pub texts : AllByRecursion HasText lines
  pub sound : IsSound (net_turns run)
  pub listed : AreListed (net_turns run)
  pub asked : AreAsked (net_turns run)
  pub phases : AreToldPhases run
  pub kept : P run

-- where the sink tells its bytes: what is written of a run of this script that goes on was added to them
abbrev pub Tells : Output → (List Happening → Type 0) → List Event → Option (List ℕ) → Option (List ℕ) → Type 0
Tells output P script before after =
    (lines : List TextLine) × IsRun P script lines × Appends before after (text_so_far output lines)

-- the same of a run that came to its end
abbrev pub TellsAll : Output → (List Happening → Type 0) → List Event → Option (List ℕ) → Option (List ℕ) → Type 0
TellsAll output P script before after =
    (lines : List TextLine) × (run : IsRun P script lines) × Appends before after (text_at_end output run.run lines)

-- what is written of a run that goes on, and behind it the line that says why it stopped
abbrev pub stopped_text : Output → List TextLine → ℕ → ℕ → ℕ → List ℕ
stopped_text output lines status line code = text_so_far output lines ++ (stop_text status line code ++ 10 ∷ [])

-- the same, with the line that says why the run stopped
abbrev pub TellsStop : Output → (List Happening → Type 0) → List Event → ℕ → ℕ → ℕ → Option (List ℕ)
    → Option (List ℕ) → Type 0
TellsStop output P script status line code before after = (lines : List TextLine) × IsRun P script lines
    × Appends before after (stopped_text output lines status line code)

-- ---- how it ends

-- the line behind these spells nothing: it is line `count + 1`, and this is its fault
pub record IsBadAt (input : List ℕ) (script : List Event) (count : ℕ) (fault : BadLine) : Type 0 where
  pub names : Names
  pub rest : List ℕ
  pub front : IsFront input script count names rest
  pub line : List ℕ
  pub left : List ℕ
  pub next : next_in (length input) rest ≡ Line line left
  pub few : count < MOST_LINES
  pub bad : IsFault names line fault

-- the line behind these spells this event: it is line `count + 1`
pub record IsNext (input : List ℕ) (script : List Event) (count : ℕ) (event : Event) : Type 0 where
  pub names : Names
  pub rest : List ℕ
  pub front : IsFront input script count names rest
  pub line : List ℕ
  pub left : List ℕ
  pub next : next_in (length input) rest ≡ Line line left
  pub few : count < MOST_LINES
  pub spelled : Spells names line event
  pub rows : FewRows (script ++ event ∷ [])

-- before these bytes of the input stand as many as an input may have
abbrev pub IsFull : List ℕ → List ℕ → Type 0
IsFull input rest = length input - length rest ≡ INPUT_LIMIT

-- the line behind these is the first that passes a limit: 1 the input's bytes, 2 its lines, 3 the bytes of a line,
-- 9 the rows that a script names in a table, or one on what the line declares. The first byte past a limit decides, so
-- behind the most lines any byte does, whatever is behind it
abbrev pub Passes : List ℕ → List Event → ℕ → Names → List ℕ → ℕ → Type 0
Passes input script count names rest limit =
    ((limit ≡ 1) × (next_in (length input) rest ≡ InputTooLong) × ((count < MOST_LINES) ⊎ IsFull input rest))
    ⊎ (((limit ≡ 2) × (count ≡ MOST_LINES) × (0 < length rest) × (length input - length rest < INPUT_LIMIT))
    ⊎ (((limit ≡ 3) × (count < MOST_LINES) × (next_in (length input) rest ≡ LineTooLong))
    ⊎ (((limit ≡ 9) × (count < MOST_LINES) × ((line : List ℕ) × (left : List ℕ) × (event : Event)
    × (next_in (length input) rest ≡ Line line left) × Spells names line event × NamesTooMany script event))
    ⊎ ((count < MOST_LINES) × ((line : List ℕ) × (left : List ℕ)
    × (next_in (length input) rest ≡ Line line left) × PassesLimit names line limit)))))

pub record IsLimitAt (input : List ℕ) (script : List Event) (count limit : ℕ) : Type 0 where
  pub names : Names
  pub rest : List ℕ
  pub front : IsFront input script count names rest
  pub passes : Passes input script count names rest limit

-- the source gave these lines whole and then failed, with these bytes left. The bytes of a line that it didn't give
-- whole pass no limit, and behind the most lines there are none
pub record IsCutOff (input : List ℕ) (script : List Event) (left : List ℕ) : Type 0 where
  pub count : ℕ
  pub names : Names
  pub held : List ℕ
  pub front : IsFront input script count names (held ++ left)
  pub unfinished : HasNoNewline held
  pub short : length held ≤ LINE_LIMIT
  pub fits : length input - length left ≤ INPUT_LIMIT
  pub few : (count < MOST_LINES) ⊎ (held ≡ [])

-- what is written of the first lines, and behind it the line that says that the event of the next one sends too much:
-- limit 10 is of the bytes of all packets. P holds of the run with that event
abbrev pub TellsOver : Output → (List Happening → Type 0) → List ℕ → Option (List ℕ) → Option (List ℕ) → Type 0
TellsOver output P input before after =
    (script : List Event) × (count : ℕ) × (event : Event) × IsNext input script count event
    × TellsStop output (GoesOver P event) script 7 (count + 1) 10 before after

-- a text that a run over this input may write: what is written of its first lines, with its stop line where it has one,
-- or of all of it
abbrev pub IsTextOf : Output → (List Happening → Type 0) → List ℕ → List ℕ → Type 0
IsTextOf output P input text = ((script : List Event) × (lines : List TextLine) × (run : IsRun P script lines) × (
    ((count : ℕ) × (names : Names) × (rest : List ℕ) × IsFront input script count names rest
    × (text ≡ text_so_far output lines))
    ⊎ (((count : ℕ) × (fault : BadLine) × IsBadAt input script count fault
    × (text ≡ stopped_text output lines 3 (count + 1) fault.code))
    ⊎ (((count limit : ℕ) × IsLimitAt input script count limit
    × (text ≡ stopped_text output lines 7 (count + 1) limit))
    ⊎ (IsWhole input script × (text ≡ text_at_end output run.run lines))))))
    ⊎ ((script : List Event) × (lines : List TextLine) × (count : ℕ) × (event : Event)
    × IsNext input script count event × IsRun (GoesOver P event) script lines
    × (text ≡ stopped_text output lines 7 (count + 1) 10))
