-- A run goes on by one line.
use Rattle.std.proofs.Common.{◌≡◌, ◌⊎◌, ⊎_elim, inl, inr, ℕ, ◌+◌, ◌-◌, ◌<◌, ◌≤◌, lit≤, Bool, true, false, cond, List, [], ◌∷◌, ◌++◌, length, map, Option, Some, None, refl, sym, ap, subst, ◌∙◌, append-nil}
use Rattle.std.proofs.Common.{length-append, arith}
use Rattle.std.specs.Prelude.{◌==◌, ◌^◌, min, IfSome, IfNone, IfErr, IsSomeAnd, MatchOption, Result, Ok, Err, if◌then◌else◌}
use Rattle.std.specs.Global.{Vec}
use Rattle.std.specs.List.{flat_map, AllByRecursion}
use Rattle.std.specs.Io.KnownBytes.{Keeps}
use Rattle.std.proofs.lemmas.Bool.{eqb-true}
use Rattle.std.proofs.lemmas.Grind.{flat_map-append}
use Rattle.std.proofs.lemmas.List.Folds.{flat_map-map}
use Rattle.table_model.specs.declared.event.Event.{Event}
use Rattle.table_model.specs.declared.line.TextLine.{TextLine}
use Rattle.disk_trait.specs.Calls.{DiskState}
use Rattle.world_tables.specs.Sound.{is_declaration}
use Rattle.gated_tables.specs.Net.{start}
use Rattle.gated_tables.specs.Runs.{net_from}
use Rattle.stab_io.specs.Lines.{Next, Line, End, LineTooLong, InputTooLong, next_of}
use Rattle.stab_io.specs.Reading.{Reading, ahead, IsNextLine, ComesNext, CountsAll, IsFirstPast, IsUnfinished}
use Rattle.stab_io.specs.declared.line_fault.LineFault.{LineFault}
use Rattle.stab_io.specs.declared.line_fault.LineFault.TheVariants.{Read, LineLimit, InputLimit, Memory as NoMemory}
use Rattle.stab_io.proofs.NextLine.{no_room}
use Rattle.stab_io.specs.declared.limits.Limits.{Limits}
use Rattle.stab_io.specs.declared.limits.TheConstants.{LINE_LIMIT, INPUT_LIMIT}
use Rattle.script_text.specs.Names.{Names, no_names, with_event}
use Rattle.script_text.specs.Grammar.{IsPassed, Spells}
use Rattle.transcript_text.specs.Text.{text_of, transcript_text}
use Rattle.simba_top.specs.declared.stop.Stop.{Stop}
use Rattle.simba_top.specs.declared.stop.Stop.TheVariants as stops
use Rattle.simba_top.specs.declared.turn.Run.{Run}
use Rattle.simba_top.specs.declared.run.TheConstants.{MOST_LINES}
use Rattle.fair_laws.specs.Reached.{IsBuilt}
use Rattle.node_steps.specs.declared.fault.WorldFault.{WorldFault}
use Rattle.node_steps.specs.declared.fault.WorldFault.TheVariants as world_faults
use Rattle.node_steps.proofs.Counted.{no_faults}
use Rattle.net_steps.specs.Holds.{Holds}
use Rattle.net_steps.specs.Steps.{IsStep, Spends, all_faults}
use Rattle.simba_top.specs.Faults.{Matches}
use Rattle.simba_top.specs.RowNames.{HasRows, FewRows, IsRowCause}
use Rattle.simba_top.specs.declared.row_names.RowNames.{RowNames}
use Rattle.simba_top.specs.Script.{next_in, IsFront, IsWhole}
use Rattle.script_text.specs.declared.fault.ScriptFault.{ScriptFault}
use Rattle.script_text.specs.declared.fault.ScriptFault.TheVariants as script_faults
use Rattle.simba_top.specs.Stops.{of_line, of_script, of_world}
use Rattle.line_widths.specs.Widths.{HasWidths}
use Rattle.simba_top.specs.Outputs.{lines_counted}
use Rattle.simba_top.specs.Ends.{IsFull, IsLimitAt, IsCutOff, IsNext}
use Rattle.simba_top.specs.Stands.{IsReady, plans_from, IsUnderway, Leads, Stands, HasLine, GoesOn, IsCause}
use Rattle.net_steps.specs.declared.world.World.{World}
use Rattle.simba_top.proofs.Fronts.{front_start, front_passed, front_event}
use Rattle.simba_top.proofs.Behind.{behind_none}
use Rattle.simba_top.proofs.Sounds.{leads_on}
use Rattle.simba_top.proofs.Counts.{not_spent}

some_and : {X : Type 0} (o : Option X) (P : X → Type 0) → IsSomeAnd o P → (x : X) × (o ≡ Some x) × P x
some_and None P h = absurd h
some_and (Some x) P h = (x, refl, h)

if_some : {X : Type 0} (o : Option X) (x : X) (P : X → Type 0) → o ≡ Some x → IfSome o P → P x
if_some None x P is h = absurd cc
if_some (Some y) x P is h = let e : y ≡ x = cc in subst P e h

known : {X : Type 0} {P : X → Type 0} (o : Option X) → ((x : X) → o ≡ Some x → P x) → IfSome o P
known None f = tt
known (Some x) f = f x refl

-- a world of which nothing was asked has no disks
counted_new : {D : Type 0} (state : D → DiskState) (world : World D) (is_out : ℕ → Bool) → Holds state start world → ((k : ℕ) → is_out k ≡ false) → Matches 0 (all_faults state world)
counted_new state world is_out held none = let z = no_faults state world.wire.nodes held.wire.nodes in record { few = omega arith; one = λ up. absurd (omega (arith, up, z)) }

-- the run at its start
leads_new : {D : Type 0} (state : D → DiskState) (names : Names) (world : World D) (is_out : ℕ → Bool) → Holds state start world → ((k : ℕ) → is_out k ≡ false) → Leads state [] [] names world is_out
leads_new state names world is_out held none =
    record {
      run = [];
      events = refl;
      lines_are = refl;
      behind = behind_none state names world is_out held none;
      counted = counted_new state world is_out held none;
      widths = tt;
    }

pub stands_new : {D : Type 0} (state : D → DiskState) (input : List ℕ) (run : Run D) (is_out : ℕ → Bool)
    → run.reader ≡ record { used = 0; held = []; stopped = None; limits = record { line = LINE_LIMIT; input = INPUT_LIMIT } }
    → run.names ≡ no_names → run.count ≡ 0 → run.told ≡ 0 → HasRows [] run.rows → Holds state start run.world → ((k : ℕ) → is_out k ≡ false)
    → Stands state input [] [] run is_out (Some input)
stands_new state input run is_out reader names count told rows world none = record {
  rest = input;
  front = rw (names, count) (front_start input);
  here = ap (λ (r : Reading). ahead r (Some input)) reader;
  used = let e = ap (λ (r : Reading). r.used) reader in omega (arith, e);
  world = leads_new state run.names run.world is_out world none;
  rows = rows;
  told_is = told;
}

-- what comes next in the input, as the reader sees it
next_same : {D : Type 0} (input rest : List ℕ) (run : Run D) → IsReady run → run.reader.used + length rest ≡ length input
    → next_in (length input) rest ≡ next_of run.reader.limits run.reader.used rest
next_same input rest run ready used =
    let e : length input - length rest ≡ run.reader.used = omega (arith, used) in
    ap (λ n. next_of (record { line = LINE_LIMIT; input = INPUT_LIMIT }) n rest) e
    ∙ ap (λ (limits : Limits). next_of limits run.reader.used rest) (sym ready.limits)

-- only the end of the bytes is the end
over : (none a b : Bool) (text rest : List ℕ) → cond none End (cond a LineTooLong (cond b InputTooLong (Line text rest))) ≡ End → none ≡ true
over true a b text rest e = refl
over false true b text rest e = absurd (cc e)
over false false true text rest e = absurd (cc e)
over false false false text rest e = absurd (cc e)

end_nil : (limits : Limits) (used : ℕ) (bytes : List ℕ) → next_of limits used bytes ≡ End → bytes ≡ []
unfolding next_of
end_nil limits used [] e = refl
end_nil limits used (b ∷ bytes) e = absurd (let none = eqb-true (length (b ∷ bytes)) 0 (over _ _ _ _ _ e) in omega (arith, none))

module _ {D : Type 0} (state : D → DiskState) (input : List ℕ) (script : List Event) (told : List TextLine) (run : Run D) (is_out : ℕ → Bool) (left : Option (List ℕ))
    (ready : IsReady run) (stands : Stands state input script told run is_out left) where
  at_end : ComesNext run.reader left End → IsWhole input script
  at_end comes =
      let empty : stands.rest ≡ [] = end_nil run.reader.limits run.reader.used stands.rest
      (if_some (ahead run.reader left) stands.rest (λ bytes. next_of run.reader.limits run.reader.used bytes ≡ End) stands.here comes) in
      (run.count, run.names, subst (λ (bytes : List ℕ). IsFront input script run.count run.names bytes) empty stands.front)

  module _ (after : Reading) (left' : Option (List ℕ)) where
    has_line : (line : List ℕ) → IsNextLine run.reader left line after left' → CountsAll run.reader left after left'
        → HasLine state input script told line (record run { reader = after }) is_out left'
    has_line line next counts =
        let found = some_and (ahead after left') (λ rest. next_of run.reader.limits run.reader.used stands.rest ≡ Line line rest)
        (if_some (ahead run.reader left) stands.rest
        (λ bytes. IsSomeAnd (ahead after left') (λ rest. next_of run.reader.limits run.reader.used bytes ≡ Line line rest)) stands.here next) in
        let counted : after.used + length found.0 ≡ run.reader.used + length stands.rest =
        if_some (ahead after left') found.0 (λ rest. after.used + length rest ≡ run.reader.used + length stands.rest) found.1
        (if_some (ahead run.reader left) stands.rest
        (λ bytes. IfSome (ahead after left') (λ rest. after.used + length rest ≡ run.reader.used + length bytes)) stands.here counts) in
        record {
          before = stands.rest;
          front = stands.front;
          rest = found.0;
          next = next_same input stands.rest run ready stands.used ∙ found.2;
          here = found.1;
          used = counted ∙ stands.used;
          world = stands.world;
          rows = stands.rows;
          told_is = stands.told_is;
        }

    pub next_found : (found : Option (Vec ℕ)) → IfSome found (λ line. IsNextLine run.reader left line.items after left')
        → IfNone found (ComesNext run.reader left End) → CountsAll run.reader left after left'
        → MatchOption found (IsWhole input script) (λ line. HasLine state input script told line.items (record run { reader = after }) is_out left')
    next_found None line end counts = at_end end
    next_found (Some v) line end counts = has_line v.items line counts

    -- the stop that a refusal of the next line gives
    module _ (few : run.count < MOST_LINES) (keeps : Keeps (ahead run.reader left) (ahead after left')) (used : after.used ≡ run.reader.used)
        (limits : after.limits ≡ run.reader.limits) where
      unread : IsUnfinished after → IfSome left' (λ bytes. IsCutOff input script bytes)
      unread unfinished = known left' (λ bytes is.
          let same : after.held ++ bytes ≡ stands.rest = rw (stands.here, is) at keeps in
          let line = ap (λ (l : Limits). l.line) (limits ∙ ready.limits) in
          let whole = ap (λ (l : Limits). l.input) (limits ∙ ready.limits) in
          let len = sym (length-append after.held bytes) ∙ ap (λ (bytes : List ℕ). length bytes) same in
          record {
            count = run.count;
            names = run.names;
            held = after.held;
            front = subst (λ (bytes : List ℕ). IsFront input script run.count run.names bytes) (sym same) stands.front;
            unfinished = unfinished.0;
            short = omega (arith, unfinished.1, line);
            fits = omega (arith, stands.used, used, unfinished.2, whole, len);
            few = inl few;
          })

      comes : (next : Next) → ComesNext run.reader left next → next_in (length input) stands.rest ≡ next
      comes next is =
          next_same input stands.rest run ready stands.used
          ∙ if_some (ahead run.reader left) stands.rest (λ bytes. next_of run.reader.limits run.reader.used bytes ≡ next) stands.here is

      pub line_stops : (fault : LineFault) → (fault ≡ Read → IsUnfinished after) → ((len : ℕ) → fault ≡ LineLimit len → ComesNext run.reader left LineTooLong)
          → ((len : ℕ) → fault ≡ InputLimit len → ComesNext run.reader left InputTooLong) → IsCause (of_line fault) input script run.count left'
      line_stops Read read long past = unread (read refl)
      line_stops NoMemory read long past = (run.names, stands.rest, stands.front)
      line_stops (LineLimit len) read long past = record {
        names = run.names;
        rest = stands.rest;
        front = stands.front;
        passes = inr (inr (inl (refl, few, comes LineTooLong (long len refl))));
      }
      line_stops (InputLimit len) read long past = record {
        names = run.names;
        rest = stands.rest;
        front = stands.front;
        passes = inl (refl, comes InputTooLong (past len refl), inl few);
      }

  -- behind the most lines: the source failed before another byte, or that byte is the first past the input's limit
  module _ (after : Reading) (left' : Option (List ℕ)) (keeps : Keeps (ahead run.reader left) (ahead after left')) where
    kept : (bytes : List ℕ) → left' ≡ Some bytes → after.held ≡ [] → stands.rest ≡ bytes
    kept bytes is none =
        let same : after.held ++ bytes ≡ stands.rest = rw (stands.here, is) at keeps in
        sym same ∙ ap (λ (held : List ℕ). held ++ bytes) none

    pub cut_off : after.held ≡ [] → run.reader.used ≤ run.reader.limits.input → IfSome left' (λ bytes. IsCutOff input script bytes)
    cut_off none within = known left' (λ bytes is.
        let same = kept bytes is none in
        let limit = ap (λ (limits : Limits). limits.input) ready.limits in
        let len = ap (λ (bytes : List ℕ). length bytes) same in
        record {
          count = run.count;
          names = run.names;
          held = [];
          front = subst (λ (bytes : List ℕ). IsFront input script run.count run.names bytes) same stands.front;
          unfinished = refl;
          short = lit≤ tt;
          fits = omega (arith, stands.used, within, limit, len);
          few = inr refl;
        })

  pub first_past : IfSome (ahead run.reader left) (λ bytes. IsFirstPast run.reader bytes) → IsLimitAt input script run.count 1
  first_past past =
      let next = if_some (ahead run.reader left) stands.rest (λ bytes. IsFirstPast run.reader bytes) stands.here past in
      let limit = ap (λ (limits : Limits). limits.input) ready.limits in
      let full : IsFull input stands.rest = omega (arith, stands.used, next.1, limit) in
      record {
        names = run.names;
        rest = stands.rest;
        front = stands.front;
        passes =
            inl (
              refl,
              ap (λ n. next_of (record { line = LINE_LIMIT; input = INPUT_LIMIT }) n stands.rest) full
                  ∙ no_room (record { line = LINE_LIMIT; input = INPUT_LIMIT }) stands.rest next.0 (lit≤ tt),
              inr full,
            );
      }

  -- the stop that a refusal of another byte gives
  pub no_more : (after : Reading) (left' : Option (List ℕ)) (fault : LineFault) → Keeps (ahead run.reader left) (ahead after left')
      → run.reader.used ≤ run.reader.limits.input → (fault ≡ Read → after.held ≡ [])
      → ((len : ℕ) → fault ≡ InputLimit len → IfSome (ahead run.reader left) (λ bytes. IsFirstPast run.reader bytes))
      → (fault ≡ Read) ⊎ (fault ≡ InputLimit (run.reader.limits.input + 1)) → IsCause (of_line fault) input script run.count left'
  no_more after left' fault keeps within read past (inl is) = rw is (cut_off after left' keeps (read is) within)
  no_more after left' fault keeps within read past (inr is) = rw is (first_past (past _ is))

-- the text of some lines more
step_texts : (told lines : List TextLine) (texts : List (List ℕ)) → texts ≡ map (λ (line : TextLine). text_of line ++ 10 ∷ []) lines
    → transcript_text (told ++ lines) ≡ transcript_text told ++ flat_map (λ (text : List ℕ). text) texts
step_texts told lines texts text =
    let whole : TextLine → List ℕ = λ line. text_of line ++ 10 ∷ [] in
    flat_map-append whole told lines
    ∙ ap (λ (bytes : List ℕ). transcript_text told ++ bytes)
    (sym (ap (λ (ts : List (List ℕ)). flat_map (λ (text : List ℕ). text) ts) text ∙ flat_map-map (λ (text : List ℕ). text) whole lines))

-- the count of the lines that were told goes on, up to its type's end
more_told : (told lines : List TextLine) (old new : ℕ) → old ≡ lines_counted told → new ≡ min (old + length lines) (2 ^ 64 - 1) → new ≡ lines_counted (told ++ lines)
more_told told lines old new is next = let longer = length-append told lines in omega (arith, is, next, longer)

-- ---- why an event isn't carried out

-- so does the fault of an event that isn't carried out, of a run that has begun so many plans
abbrev pub IsSpent : {D : Type 0} (state : D → DiskState) (is_out : ℕ → Bool) (run : Run D) → IsUnderway state is_out run → Event → WorldFault → Type 0
IsSpent state is_out run here event fault = (code count : ℕ) → fault ≡ world_faults.Limit code count
    → (code ≡ 10) ⊎ ((code ≡ 11) × Spends (plans_from start here.happenings) (net_from start here.happenings) event)

limits_as : (code : ℕ) → code ≡ 10 → of_world (world_faults.Limit code 0) ≡ stops.Sent
limits_as code is = ap (λ (n : ℕ). of_world (world_faults.Limit n 0)) is

-- no number is spent yet
module _ {D : Type 0} (state : D → DiskState) (is_out : ℕ → Bool) (run : Run D) (here : IsUnderway state is_out run) (few : run.count < MOST_LINES) (event : Event) where
  not_past : Spends (plans_from start here.happenings) (net_from start here.happenings) event → ⊥
  not_past spent = not_spent here.happenings here.behind.first here.behind.built (let least = here.few in omega (arith, least, few)) event spent

  -- so a limit is of the bytes that were sent
  pub is_sent : (code count : ℕ) → IsSpent state is_out run here event (world_faults.Limit code count) → code ≡ 10
  is_sent code count spent = ⊎_elim (λ is. is) (λ past. absurd (not_past past.1)) (spent code count refl)

  -- and else the depot failed, where memory sufficed
  pub depot_failed : (fault : WorldFault) → (of_world fault ≡ stops.Memory → ⊥) → (of_world fault ≡ stops.Sent → ⊥) → IsSpent state is_out run here event fault → fault ≡ world_faults.Depot
  depot_failed world_faults.Memory ample sent spent = absurd (ample refl)
  depot_failed world_faults.Depot ample sent spent = refl
  depot_failed (world_faults.Limit code count) ample sent spent = absurd (sent (limits_as code (is_sent code count spent)))

-- a run that sends too much stops for it
pub stops_sent : (fault : WorldFault) → of_world fault ≡ stops.Sent → (count : ℕ) × (fault ≡ world_faults.Limit 10 count)
stops_sent world_faults.Memory is = absurd cc
stops_sent world_faults.Depot is = absurd cc
stops_sent (world_faults.Limit code count) is = (count, ap (λ (n : ℕ). world_faults.Limit n count) (eqb-true code 10 (go (code == 10) is)))
  where
    go : (b : Bool) → (if b then stops.Sent else stops.Limit code) ≡ stops.Sent → b ≡ true
    go true e = refl
    go false e = absurd cc

-- a fault is limit 10, or another
pub no_limit_ten : (fault : WorldFault) → (of_world fault ≡ stops.Sent → ⊥) → (count : ℕ) → fault ≡ world_faults.Limit 10 count → ⊥
no_limit_ten fault other count is = other (ap of_world is)

pub by_sent : {P : Type 0} (fault : WorldFault) → ((count : ℕ) → fault ≡ world_faults.Limit 10 count → P) → ((of_world fault ≡ stops.Sent → ⊥) → P) → P
by_sent world_faults.Memory sent other = other (λ is. absurd cc)
by_sent world_faults.Depot sent other = other (λ is. absurd cc)
by_sent {P} (world_faults.Limit code count) sent other = go (code == 10) refl
  where
    go : (b : Bool) → (code == 10) ≡ b → P
    go true e = sent count (ap (λ (n : ℕ). world_faults.Limit n count) (eqb-true code 10 e))
    go false e = other (λ is. let bad : stops.Limit code ≡ stops.Sent = sym (ap (λ (b : Bool). if b then stops.Sent else stops.Limit code) e) ∙ is in absurd cc)

-- nor is what is wrong in a line
pub script_not_sent : {P : Type 0} (fault : ScriptFault) → of_script fault ≡ stops.Sent → P
script_not_sent script_faults.Memory is = absurd cc
script_not_sent (script_faults.Limit limit) is = absurd cc
script_not_sent (script_faults.BadLine fault) is = absurd cc

-- which event it is
pub event_over : {T : Type 0} (result : Result T Stop) (event : Event) (P Q : Event → Type 0) → IfErr result (λ stop. stop ≡ stops.Sent → P event × Q event)
    → IfErr result (λ stop. stop ≡ stops.Sent → (e : Event) × P e × Q e)
event_over (Ok done) event P Q k = tt
event_over (Err stop) event P Q k = λ is. let both = k is in (event, both.0, both.1)

-- a line that names one row too many isn't such a one
pub row_not_sent : {P : Type 0} (script : List Event) (event : Event) (stop : Stop) → IsRowCause script event stop → stop ≡ stops.Sent → P
row_not_sent script event stops.Memory cause is = absurd cc
row_not_sent script event (stops.Limit limit) cause is = absurd cc
row_not_sent script event stops.Read cause is = absurd cause
row_not_sent script event stops.Put cause is = absurd cause
row_not_sent script event stops.Depot cause is = absurd cause
row_not_sent script event (stops.BadLine fault) cause is = absurd cause
row_not_sent script event stops.Sent cause is = absurd cause

module _ {D : Type 0} (state : D → DiskState) (input : List ℕ) (script : List Event) (told : List TextLine) (line : List ℕ) (run : Run D) (is_out : ℕ → Bool)
    (left : Option (List ℕ)) (has : HasLine state input script told line run is_out left) (few : run.count < MOST_LINES) where
  pub passes_over : IsPassed line → GoesOn state input told (record run { count = run.count + 1 }) is_out left []
  passes_over passed = (
    script,
    told,
    record {
      rest = has.rest;
      front = front_passed input script run.count run.names has.before line has.rest has.front has.next few passed;
      here = has.here;
      used = has.used;
      world = has.world;
      rows = has.rows;
      told_is = has.told_is;
    },
    sym (append-nil (transcript_text told)),
  )

  pub carries_out : (images : D → ℕ → List ℕ → Type 0) (event : Event) (names : Names) (rows : RowNames) (world : World D) (out : ℕ → Bool) (lines : List TextLine) (texts : List (List ℕ)) (count : ℕ)
      → Spells run.names line event → names ≡ with_event run.names event
      → HasRows (script ++ event ∷ []) rows → FewRows (script ++ event ∷ [])
      → IsBuilt event → (is_declaration event ≡ true → run.names.started ≡ false) → IsStep state images (net_from start has.world.run) event lines out run.world world
      → texts ≡ map (λ (line : TextLine). text_of line ++ 10 ∷ []) lines → AllByRecursion HasWidths lines → count ≡ min (run.told + length lines) (2 ^ 64 - 1)
      → GoesOn state input told (record run { names = names; rows = rows; world = world; told = count; count = run.count + 1 }) out left texts
  carries_out images event names rows world out lines texts count spells named has_rows few_rows built early step text widths counted = (
    script ++ event ∷ [],
    told ++ lines,
    record {
      rest = has.rest;
      front = rw named (front_event input script run.count run.names has.before line has.rest has.front has.next few event spells few_rows);
      here = has.here;
      used = has.used;
      world = rw named (leads_on state script told run.names run.world is_out has.world images event lines world out built early widths step);
      rows = has_rows;
      told_is = more_told told lines run.told count has.told_is counted;
    },
    step_texts told lines texts text,
  )

  -- why the line isn't carried out

  pub row_stops : (event : Event) (stop : Stop) → Spells run.names line event → IsRowCause script event stop → IsCause stop input script run.count left
  row_stops event stops.Memory spells cause = (run.names, has.before, has.front)
  row_stops event (stops.Limit limit) spells cause = record {
    names = run.names;
    rest = has.before;
    front = has.front;
    passes = inr (inr (inr (inl (cause.0, few, (line, has.rest, event, has.next, spells, cause.1)))));
  }
  row_stops event stops.Read spells cause = absurd cause
  row_stops event stops.Put spells cause = absurd cause
  row_stops event stops.Depot spells cause = absurd cause
  row_stops event (stops.BadLine fault) spells cause = absurd cause
  row_stops event stops.Sent spells cause = absurd cause

  -- this event is the next
  pub event_is_next : (event : Event) → Spells run.names line event → FewRows (script ++ event ∷ []) → IsNext input script run.count event
  event_is_next event spells few_rows = record {
    names = run.names;
    rest = has.before;
    front = has.front;
    line = line;
    left = has.rest;
    next = has.next;
    few = few;
    spelled = spells;
    rows = few_rows;
  }

  pub world_stops : (here : IsUnderway state is_out run) (event : Event) (fault : WorldFault) → Spells run.names line event → FewRows (script ++ event ∷ [])
      → IsSpent state is_out run here event fault → IsCause (of_world fault) input script run.count left
  world_stops here event world_faults.Memory spells few_rows spent = (run.names, has.before, has.front)
  world_stops here event world_faults.Depot spells few_rows spent = (run.names, has.before, has.front)
  world_stops here event (world_faults.Limit code count) spells few_rows spent =
      subst (λ (stop : Stop). IsCause stop input script run.count left) (sym (limits_as code (is_sent state is_out run here few event code count spent)))
      (event, event_is_next event spells few_rows)
