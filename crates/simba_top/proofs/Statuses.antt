-- What the status of a run says.
use Rattle.std.proofs.Common.{◌≡◌, ◌≢◌, ◌⊎◌, ℕ, Bool, false, ◌+◌, ◌-◌, ◌^◌, ◌<◌, List, [], Option, Some, None, Result, Ok, Err, refl, subst, ◌∙◌, inl, inr, arith}
use Rattle.std.specs.Prelude.{IfSome, OnOk, IfErr, MatchResult}
use Rattle.std.specs.Io.KnownBytes.{IsAtEnd, Appends}
use Rattle.std.proofs.KnownBytes.{Appends-nil}
use Rattle.table_model.specs.declared.event.Event.{Event}
use Rattle.stab_io.specs.Faults.{Rose, AppendsFront}
use Rattle.script_text.specs.declared.fault.BadLine.{BadLine as ABadLine}
use Rattle.script_text.specs.Names.{Names, no_names}
use Rattle.simba_top.specs.declared.stop.Stop.{Stop}
use Rattle.simba_top.specs.declared.stop.Stop.TheVariants.{Read, Put, Depot, Memory, BadLine, Limit, Sent}
use Rattle.simba_top.specs.Script.{IsFront, IsWhole}
use Rattle.world_tables.specs.Turns.{Happening}
use Rattle.simba_top.specs.Faults.{AnyRun}
use Rattle.simba_top.specs.declared.output.Output.{Output}
use Rattle.simba_top.specs.declared.output.Output.TheVariants.{Transcript, Report}
use Rattle.simba_top.specs.Outputs.{text_so_far}
use Rattle.simba_top.specs.Ends.{IsBadAt, IsLimitAt, IsCutOff, Tells, TellsAll, TellsStop, TellsOver, IsTextOf}
use Rattle.simba_top.specs.Stops.{status_of}
use Rattle.simba_top.specs.Stands.{Stopped, IsDone, CountsReads, CountsPuts, CountsDepots}
use Rattle.simba_top.proofs.Fronts.{Grammar, front_start}
use Rattle.simba_top.proofs.Sounds.{run_with}
use Rattle.simba_top.proofs.OneEnd.{not_bad, not_limit}

if_some_map : {X : Type 0} (P Q : X → Type 0) (o : Option X) → ((x : X) → P x → Q x) → IfSome o P → IfSome o Q
if_some_map P Q None f h = tt
if_some_map P Q (Some x) f h = f x h

unrisen : (count : ℕ) → Rose count count → count < 2 ^ 64 - 1 → ⊥
unrisen count rose below = let h = rose.1 in omega arith

-- the outcome of a run, of the bytes left and the bytes held, and of the counts of faults, before and after
pub record Outcome (o : Output) (P : List Happening → Type 0) (left left' held held' : Option (List ℕ)) (reads reads' puts puts' depots depots' : ℕ) (ended : Result (Unit {0}) Stop) : Type 0 where
  pub end : OnOk ended (IsAtEnd left')
  pub done : OnOk ended (IfSome left (λ input. IsDone o P input held held'))
  pub stopped : IfErr ended (λ stop. IfSome left (λ input. Stopped o P stop input left' held held'))
  pub reads_counted : MatchResult ended (λ _. reads' ≡ reads) (λ stop. CountsReads stop reads reads')
  pub puts_counted : MatchResult ended (λ _. puts' ≡ puts) (λ stop. CountsPuts stop puts puts')
  pub depots_counted : MatchResult ended (λ _. depots' ≡ depots) (λ stop. CountsDepots stop depots depots')

-- of what is asked for
pub outcome_of : (a : Option Output) (o o' : Output) → Some o ≡ a → a ≡ Some o' → (P : List Happening → Type 0) (left left' held held' : Option (List ℕ)) (reads reads' puts puts' depots depots' : ℕ) (ended : Result (Unit {0}) Stop)
    → Outcome o P left left' held held' reads reads' puts puts' depots depots' ended → Outcome o' P left left' held held' reads reads' puts puts' depots depots' ended
outcome_of a o o' found is P left left' held held' reads reads' puts puts' depots depots' ended came =
    let same : Some o ≡ Some o' = found ∙ is in
    let one : o ≡ o' = cc in
    subst (λ (x : Output). Outcome x P left left' held held' reads reads' puts puts' depots depots' ended) one came

module _ (o : Output) (P : List Happening → Type 0) (left left' held held' : Option (List ℕ)) (reads reads' puts puts' depots depots' : ℕ) where
  abbrev Came : Result (Unit {0}) Stop → Type 0
  Came ended = Outcome o P left left' held held' reads reads' puts puts' depots depots' ended

  pub done : (ended : Result (Unit {0}) Stop) → Came ended → status_of ended ≡ 0
      → IsAtEnd left' × IfSome left (λ input. (script : List Event) × IsWhole input script × TellsAll o P script held held')
  done (Ok over) came is = (came.end, came.done)
  done (Err Read) came is = absurd (omega arith)
  done (Err Put) came is = absurd (omega arith)
  done (Err Depot) came is = absurd (omega arith)
  done (Err Memory) came is = absurd (omega arith)
  done (Err (BadLine fault)) came is = absurd (omega arith)
  done (Err (Limit limit)) came is = absurd (omega arith)
  done (Err Sent) came is = absurd (omega arith)

  abbrev BadLineOf : List ℕ → Type 0
  BadLineOf input = (script : List Event) × (count : ℕ) × (fault : ABadLine) × IsBadAt input script count fault
      × TellsStop o P script 3 (count + 1) fault.code held held'

  pub bad_line : (ended : Result (Unit {0}) Stop) → Came ended → status_of ended ≡ 3 → IfSome left BadLineOf
  bad_line (Err (BadLine fault)) came is =
      if_some_map (λ input. Stopped o P (BadLine fault) input left' held held') BadLineOf left
      (λ input at. (at.0, at.1, fault, at.2, at.3)) came.stopped
  bad_line (Ok over) came is = absurd (omega arith)
  bad_line (Err Read) came is = absurd (omega arith)
  bad_line (Err Put) came is = absurd (omega arith)
  bad_line (Err Depot) came is = absurd (omega arith)
  bad_line (Err Memory) came is = absurd (omega arith)
  bad_line (Err (Limit limit)) came is = absurd (omega arith)
  bad_line (Err Sent) came is = absurd (omega arith)

  abbrev LimitOf : List ℕ → Type 0
  LimitOf input = ((script : List Event) × (count limit : ℕ) × IsLimitAt input script count limit
      × TellsStop o P script 7 (count + 1) limit held held') ⊎ TellsOver o P input held held'

  pub limit_passed : (ended : Result (Unit {0}) Stop) → Came ended → status_of ended ≡ 7 → IfSome left LimitOf
  limit_passed (Err (Limit limit)) came is =
      if_some_map (λ input. Stopped o P (Limit limit) input left' held held') LimitOf left
      (λ input at. inl (at.0, at.1, limit, at.2, at.3)) came.stopped
  limit_passed (Err Sent) came is = if_some_map (λ input. Stopped o P Sent input left' held held') LimitOf left (λ input at. inr at) came.stopped
  limit_passed (Ok over) came is = absurd (omega arith)
  limit_passed (Err Read) came is = absurd (omega arith)
  limit_passed (Err Put) came is = absurd (omega arith)
  limit_passed (Err Depot) came is = absurd (omega arith)
  limit_passed (Err Memory) came is = absurd (omega arith)
  limit_passed (Err (BadLine fault)) came is = absurd (omega arith)

  abbrev CutOff : List ℕ → List ℕ → Type 0
  CutOff input bytes = (script : List Event) × IsCutOff input script bytes × Tells o P script held held'

  pub read : (ended : Result (Unit {0}) Stop) → Came ended → status_of ended ≡ 4
      → Rose reads reads' × IfSome left (λ input. IfSome left' (CutOff input))
  read (Err Read) came is = (
    came.reads_counted,
    if_some_map (λ input. Stopped o P Read input left' held held') (λ input. IfSome left' (CutOff input)) left
        (λ input at. if_some_map (λ bytes. IsCutOff input at.0 bytes) (CutOff input) left' (λ bytes cut. (at.0, cut, at.2)) at.1) came.stopped,
  )
  read (Ok over) came is = absurd (omega arith)
  read (Err Put) came is = absurd (omega arith)
  read (Err Depot) came is = absurd (omega arith)
  read (Err Memory) came is = absurd (omega arith)
  read (Err (BadLine fault)) came is = absurd (omega arith)
  read (Err (Limit limit)) came is = absurd (omega arith)
  read (Err Sent) came is = absurd (omega arith)

  abbrev Written : List ℕ → Type 0
  Written input = (text : List ℕ) × IsTextOf o P input text × AppendsFront held held' text

  pub write : (ended : Result (Unit {0}) Stop) → Came ended → status_of ended ≡ 5 → Rose puts puts' × IfSome left Written
  write (Err Put) came is = (came.puts_counted, if_some_map (λ input. Stopped o P Put input left' held held') Written left (λ input at. at) came.stopped)
  write (Ok over) came is = absurd (omega arith)
  write (Err Read) came is = absurd (omega arith)
  write (Err Depot) came is = absurd (omega arith)
  write (Err Memory) came is = absurd (omega arith)
  write (Err (BadLine fault)) came is = absurd (omega arith)
  write (Err (Limit limit)) came is = absurd (omega arith)
  write (Err Sent) came is = absurd (omega arith)

  abbrev NoMemory : List ℕ → Type 0
  NoMemory input = (script : List Event) × (count : ℕ) × (names : Names) × (rest : List ℕ) × IsFront input script count names rest × Tells o AnyRun script held held'

  abbrev NoDepot : List ℕ → Type 0
  NoDepot input = (script : List Event) × (count : ℕ) × (names : Names) × (rest : List ℕ) × IsFront input script count names rest × Tells o P script held held'

  pub memory : (ended : Result (Unit {0}) Stop) → Came ended → status_of ended ≡ 6 → IfSome left NoMemory
  memory (Err Memory) came is =
      if_some_map (λ input. Stopped o P Memory input left' held held') NoMemory left
      (λ input at. (at.1.0, at.0, at.1.1.0, at.1.1.1, at.1.1.2, at.1.2)) came.stopped
  memory (Ok over) came is = absurd (omega arith)
  memory (Err Depot) came is = absurd (omega arith)
  memory (Err Read) came is = absurd (omega arith)
  memory (Err Put) came is = absurd (omega arith)
  memory (Err (BadLine fault)) came is = absurd (omega arith)
  memory (Err (Limit limit)) came is = absurd (omega arith)
  memory (Err Sent) came is = absurd (omega arith)

  pub depot : (ended : Result (Unit {0}) Stop) → Came ended → status_of ended ≡ 8 → (depots < depots') × IfSome left NoDepot
  depot (Err Depot) came is = (
    came.depots_counted,
    if_some_map (λ input. Stopped o P Depot input left' held held') NoDepot left
        (λ input at. (at.1.0, at.0, at.1.1.0, at.1.1.1, at.1.1.2, at.1.2)) came.stopped,
  )
  depot (Ok over) came is = absurd (omega arith)
  depot (Err Read) came is = absurd (omega arith)
  depot (Err Put) came is = absurd (omega arith)
  depot (Err Memory) came is = absurd (omega arith)
  depot (Err (BadLine fault)) came is = absurd (omega arith)
  depot (Err (Limit limit)) came is = absurd (omega arith)
  depot (Err Sent) came is = absurd (omega arith)

  -- where the whole input spells a script and no fault came
  abbrev Completes : ℕ → List ℕ → Type 0
  Completes status input = (script : List Event) → IsWhole input script
      → reads' ≡ reads → reads < 2 ^ 64 - 1 → puts' ≡ puts → puts < 2 ^ 64 - 1 → depots' ≡ depots
      → (status ≡ 0) ⊎ ((status ≡ 6) ⊎ ((status ≡ 7) × TellsOver o P input held held'))

  given : (R : List ℕ → Type 0) → ((input : List ℕ) → R input) → IfSome left R
  given R f = elim left as (λ (o : Option (List ℕ)). IfSome o R) [ None ↦ tt | Some input ↦ f input ]

  pub complete : Grammar → (ended : Result (Unit {0}) Stop) → Came ended → IfSome left (Completes (status_of ended))
  complete grammar (Ok over) came = given (Completes 0) (λ input script whole r rb p pb d. inl refl)
  complete grammar (Err Memory) came = given (Completes 6) (λ input script whole r rb p pb d. inr (inl refl))
  complete grammar (Err Read) came =
      given (Completes 4) (λ input script whole r rb p pb d. absurd (unrisen reads (subst (Rose reads) r came.reads_counted) rb))
  complete grammar (Err Put) came =
      given (Completes 5) (λ input script whole r rb p pb d. absurd (unrisen puts (subst (Rose puts) p came.puts_counted) pb))
  complete grammar (Err Depot) came =
      given (Completes 8) (λ input script whole r rb p pb d. absurd (let rose = came.depots_counted in omega (arith, rose, d)))
  complete grammar (Err (BadLine fault)) came =
      if_some_map (λ input. Stopped o P (BadLine fault) input left' held held') (Completes 3) left
      (λ input at script whole r rb p pb d. absurd (not_bad grammar input at.0 script at.1 fault at.2 whole)) came.stopped
  complete grammar (Err (Limit limit)) came =
      if_some_map (λ input. Stopped o P (Limit limit) input left' held held') (Completes 7) left
      (λ input at script whole r rb p pb d. absurd (not_limit grammar input at.0 script at.1 limit at.2 whole)) came.stopped
  complete grammar (Err Sent) came =
      if_some_map (λ input. Stopped o P Sent input left' held held') (Completes 7) left
      (λ input at script whole r rb p pb d. inr (inr (refl, at))) came.stopped

  -- each disk has gone back, unless memory was refused
  pub backed : (is_out : ℕ → Bool) (ended : Result (Unit {0}) Stop) → OnOk ended ((k : ℕ) → is_out k ≡ false) → IfErr ended (λ stop. stop ≢ Memory → (k : ℕ) → is_out k ≡ false)
      → status_of ended ≢ 6 → (k : ℕ) → is_out k ≡ false
  backed is_out (Ok over) ok err other = ok
  backed is_out (Err Memory) ok err other = absurd (other refl)
  backed is_out (Err Read) ok err other = err (λ is. absurd cc)
  backed is_out (Err Put) ok err other = err (λ is. absurd cc)
  backed is_out (Err Depot) ok err other = err (λ is. absurd cc)
  backed is_out (Err (BadLine fault)) ok err other = err (λ is. absurd cc)
  backed is_out (Err (Limit limit)) ok err other = err (λ is. absurd cc)
  backed is_out (Err Sent) ok err other = err (λ is. absurd cc)

-- nothing was read or written
pub nothing_yet : (o : Output) (left held : Option (List ℕ)) → IfSome left (λ input. (script : List Event) × (count : ℕ) × (names : Names) × (rest : List ℕ)
    × IsFront input script count names rest × Tells o AnyRun script held held)
nothing_yet o None held = tt
nothing_yet o (Some input) held = ([], 0, no_names, input, front_start input, ([], run_with AnyRun [] [] [] refl refl tt tt tt tt, added o))
  where
    added : (o : Output) → Appends held held (text_so_far o [])
    added Transcript = Appends-nil held
    added Report = Appends-nil held
