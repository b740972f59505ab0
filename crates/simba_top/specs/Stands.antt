-- Where a run stands over an input, and how it ends there.
use Rattle.std.specs.Prelude.{◌≡◌, ℕ, ◌+◌, ◌<◌, ◌≤◌, Bool, false, List, [], ◌∷◌, ◌++◌, length, map}
use Rattle.std.specs.Prelude.{Option, Some, None, IfSome}
use Rattle.std.specs.List.{flat_map, AllByRecursion}
use Rattle.std.specs.Io.KnownBytes.{Appends}
use Rattle.disk_trait.specs.Calls.{DiskState}
use Rattle.table_model.specs.declared.event.Event.{Event}
use Rattle.table_model.specs.declared.line.TextLine.{TextLine}
use Rattle.step_tables.specs.Lines.{line_of}
use Rattle.world_tables.specs.Turns.{Happening, transcript_of}
use Rattle.wire_laws.specs.Runs.{AreBuilt}
use Rattle.gated_tables.specs.Net.{Net, start, net_step}
use Rattle.gated_tables.specs.Runs.{net_from, net_turns}
use Rattle.gated_tables.specs.Faults.{net_faults}
use Rattle.gated_laws.specs.Runs.{AreDeclaredFirst, AreDeclarations}
use Rattle.stab_io.specs.Faults.{Rose, AppendsFront}
use Rattle.stab_io.specs.Lines.{Line}
use Rattle.stab_io.specs.Reading.{ahead}
use Rattle.stab_io.specs.declared.limits.TheConstants.{LINE_LIMIT, INPUT_LIMIT}
use Rattle.script_text.specs.Names.{Names}
use Rattle.transcript_text.specs.Text.{transcript_text}
use Rattle.line_widths.specs.Widths.{HasWidths}
use Rattle.simba_top.specs.declared.run.TheConstants.{MOST_LINES}
use Rattle.simba_top.specs.declared.stop.Stop.{Stop}
use Rattle.simba_top.specs.declared.stop.Stop.TheVariants.{Read, Put, Depot, Memory, BadLine, Limit, Sent}
use Rattle.simba_top.specs.declared.turn.Run.{Run}
use Rattle.node_steps.specs.Holds.{AreOut}
use Rattle.net_steps.specs.declared.world.World.{World}
use Rattle.net_steps.specs.Holds.{Holds}
use Rattle.net_steps.specs.Steps.{all_faults, HavePlansBelow, may_begin}
use Rattle.simba_top.specs.Faults.{Matches, AnyRun, GoesOver}
use Rattle.simba_top.specs.RowNames.{HasRows}
use Rattle.simba_top.specs.Script.{next_in, IsFront, IsWhole}
use Rattle.simba_top.specs.declared.output.Output.{Output}
use Rattle.simba_top.specs.Outputs.{lines_counted}
use Rattle.simba_top.specs.Ends.{Tells, TellsAll, TellsStop, TellsOver, IsNext, IsBadAt, IsLimitAt, IsCutOff, IsTextOf}

-- the reader answers, at the limits of a script, and the lines are no more than a script's
pub record IsReady {D : Type 0} (run : Run D) : Type 0 where
  pub stopped : run.reader.stopped ≡ None
  pub limits : run.reader.limits ≡ record { line = LINE_LIMIT; input = INPUT_LIMIT }
  pub few : run.count ≤ MOST_LINES

-- how many plans the events of a run may begin
abbrev pub plans_from : Net → List Happening → ℕ
plans_from n [] = 0
plans_from n (h ∷ more) = may_begin n h.event + plans_from (net_step n h.event h.lucks).net more

-- These events led to this world, with their lucks, and no declaration stands behind another event; the disks that are
-- out are its own. Where the names of the script allow a declaration yet, there were declarations alone.
pub record IsBehind {D : Type 0} (state : D → DiskState) (happenings : List Happening) (names : Names)
    (world : World D) (is_out : ℕ → Bool) : Type 0 where
  pub first : AreDeclaredFirst happenings
  pub built : AreBuilt happenings
  pub early : names.started ≡ false → AreDeclarations happenings
  pub held : Holds state (net_from start happenings) world
  pub out : AreOut is_out (net_from start happenings).wire.world

-- Events led to the world of a run, no more of them than there were lines; and no client has begun more plans than the
-- events may
pub record IsUnderway {D : Type 0} (state : D → DiskState) (is_out : ℕ → Bool) (run : Run D) : Type 0 where
  pub happenings : List Happening
  pub behind : IsBehind state happenings run.names run.world is_out
  pub few : length happenings ≤ run.count
  pub plans : HavePlansBelow state (plans_from start happenings) run.world

-- the events of a script, behind which stand these names, led to this world and wrote these lines
pub record Leads {D : Type 0} (state : D → DiskState) (script : List Event) (told : List TextLine) (names : Names)
    (world : World D) (is_out : ℕ → Bool) : Type 0 where
  pub run : List Happening
  pub events : map (λ (h : Happening). h.event) run ≡ script
  pub lines_are : map line_of told ≡ transcript_of (net_turns run)
  pub behind : IsBehind state run names world is_out
  pub counted : Matches (net_faults start run) (all_faults state world)
  pub widths : AllByRecursion HasWidths told

-- the lines so far are the first of the input and spell the script, and the bytes ahead are the rest
pub record Stands {D : Type 0} (state : D → DiskState) (input : List ℕ) (script : List Event) (told : List TextLine)
    (run : Run D) (is_out : ℕ → Bool) (left : Option (List ℕ)) : Type 0 where
  pub rest : List ℕ
  pub front : IsFront input script run.count run.names rest
  pub here : ahead run.reader left ≡ Some rest
  pub used : run.reader.used + length rest ≡ length input
  pub world : Leads state script told run.names run.world is_out
  pub rows : HasRows script run.rows
  pub told_is : run.told ≡ lines_counted told

-- the same, where a line has been read that isn't carried out
pub record HasLine {D : Type 0} (state : D → DiskState) (input : List ℕ) (script : List Event) (told : List TextLine)
    (line : List ℕ) (run : Run D) (is_out : ℕ → Bool) (left : Option (List ℕ)) : Type 0 where
  pub before : List ℕ
  pub front : IsFront input script run.count run.names before
  pub rest : List ℕ
  pub next : next_in (length input) before ≡ Line line rest
  pub here : ahead run.reader left ≡ Some rest
  pub used : run.reader.used + length rest ≡ length input
  pub world : Leads state script told run.names run.world is_out
  pub rows : HasRows script run.rows
  pub told_is : run.told ≡ lines_counted told

-- the run goes on to a longer script, whose transcript goes on by these texts
abbrev pub GoesOn : {D : Type 0} → (D → DiskState) → List ℕ → List TextLine → Run D → (ℕ → Bool) → Option (List ℕ)
    → List (List ℕ) → Type 0
GoesOn state input told run is_out left texts =
    (longer : List Event) × (all : List TextLine) × Stands state input longer all run is_out left
    × (transcript_text all ≡ transcript_text told ++ flat_map (λ (text : List ℕ). text) texts)

-- why a run stops behind `count` lines that spell the script
abbrev pub IsCause : Stop → List ℕ → List Event → ℕ → Option (List ℕ) → Type 0
IsCause Read input script count left = IfSome left (λ bytes. IsCutOff input script bytes)
IsCause Put input script count left = ⊥
IsCause Depot input script count left = (names : Names) × (rest : List ℕ) × IsFront input script count names rest
IsCause Memory input script count left = (names : Names) × (rest : List ℕ) × IsFront input script count names rest
IsCause (BadLine fault) input script count left = IsBadAt input script count fault
IsCause (Limit limit) input script count left = IsLimitAt input script count limit
IsCause Sent input script count left = (event : Event) × IsNext input script count event

-- and what it has written then of a run that has P, where memory wasn't refused; `before` and `after` are the bytes of
-- the sink
abbrev pub EndedBy : Output → (List Happening → Type 0) → Stop → List ℕ → ℕ → Option (List ℕ) → Option (List ℕ)
    → Option (List ℕ) → Type 0
EndedBy output P Put input count left before after =
    (text : List ℕ) × IsTextOf output P input text × AppendsFront before after text
EndedBy output P Memory input count left before after =
    (script : List Event) × IsCause Memory input script count left × Tells output AnyRun script before after
EndedBy output P Sent input count left before after = (script : List Event) × (event : Event)
    × IsNext input script count event × Tells output (GoesOver P event) script before after
EndedBy output P stop input count left before after =
    (script : List Event) × IsCause stop input script count left × Tells output P script before after

-- the same at the end, where the line that says why the run stopped is written too
abbrev pub Stopped : Output → (List Happening → Type 0) → Stop → List ℕ → Option (List ℕ) → Option (List ℕ)
    → Option (List ℕ) → Type 0
Stopped output P Read input left before after = EndedBy output P Read input 0 left before after
Stopped output P Put input left before after = EndedBy output P Put input 0 left before after
Stopped output P Depot input left before after = (count : ℕ) × EndedBy output P Depot input count left before after
Stopped output P Memory input left before after = (count : ℕ) × EndedBy output P Memory input count left before after
Stopped output P (BadLine fault) input left before after = (script : List Event) × (count : ℕ)
    × IsBadAt input script count fault × TellsStop output P script 3 (count + 1) fault.code before after
Stopped output P (Limit limit) input left before after = (script : List Event) × (count : ℕ)
    × IsLimitAt input script count limit × TellsStop output P script 7 (count + 1) limit before after
Stopped output P Sent input left before after = TellsOver output P input before after

-- the transcript of the lines so far has been added to the bytes of the sink
abbrev pub Goes : {D : Type 0} → (D → DiskState) → List ℕ → Run D → (ℕ → Bool) → Option (List ℕ) → Option (List ℕ)
    → Option (List ℕ) → Type 0
Goes state input run is_out left before now = (script : List Event) × (told : List TextLine)
    × Stands state input script told run is_out left × Appends before now (transcript_text told)

-- the input was read to its end, and what is written of the whole run was
abbrev pub IsDone : Output → (List Happening → Type 0) → List ℕ → Option (List ℕ) → Option (List ℕ) → Type 0
IsDone output P input before after =
    (script : List Event) × IsWhole input script × TellsAll output P script before after

-- the input was read to its end, and its script led to the world of this run
abbrev pub IsFinished : {D : Type 0} → (D → DiskState) → List ℕ → Run D → (ℕ → Bool) → Type 0
IsFinished state input run is_out = (script : List Event) × (told : List TextLine) × IsWhole input script
    × Leads state script told run.names run.world is_out × (run.told ≡ lines_counted told)

-- a count of faults of the source, of the sink, or of the depot rises where this stop says so, and else stays
abbrev pub CountsReads : Stop → ℕ → ℕ → Type 0
CountsReads Read old new = Rose old new
CountsReads stop old new = new ≡ old

abbrev pub CountsPuts : Stop → ℕ → ℕ → Type 0
CountsPuts Put old new = Rose old new
CountsPuts stop old new = new ≡ old

abbrev pub CountsDepots : Stop → ℕ → ℕ → Type 0
CountsDepots Depot old new = old < new
CountsDepots stop old new = new ≡ old
