-- How one line more ends, or doesn't end, a run.
use Rattle.std.proofs.Common.{◌≡◌, ◌≢◌, ◌⊎◌, ℕ, Bool, ◌+◌, List, [], ◌∷◌, ◌++◌, Option, None, Result, Ok, Err, refl, sym, ap, subst, ◌∙◌, inl, inr}
use Rattle.std.specs.Prelude.{OnOk, IfErr, unwrap_or}
use Rattle.std.specs.Result.{result_err}
use Rattle.std.specs.List.{flat_map}
use Rattle.std.specs.Io.KnownBytes.{Appends}
use Rattle.std.proofs.KnownBytes.{Appends-trans, Appends-nil}
use Rattle.disk_trait.specs.Calls.{DiskState}
use Rattle.table_model.specs.declared.event.Event.{Event}
use Rattle.table_model.specs.declared.line.TextLine.{TextLine}
use Rattle.stab_io.specs.Faults.{AppendsFront}
use Rattle.simba_top.specs.declared.stop.Stop.{Stop}
use Rattle.simba_top.specs.declared.stop.Stop.TheVariants.{Read, Put, Depot, Memory, BadLine, Limit, Sent}
use Rattle.simba_top.specs.declared.turn.Run.{Run}
use Rattle.world_tables.specs.Turns.{Happening}
use Rattle.simba_top.specs.Ends.{IsRun, IsNext, Tells, IsTextOf}
use Rattle.simba_top.specs.Faults.{Led, AnyRun, GoesOver}
use Rattle.script_text.specs.declared.fault.BadLine.{BadLine as ABadLine}
use Rattle.script_text.specs.Names.{Names}
use Rattle.transcript_text.specs.Text.{stop_text, transcript_text}
use Rattle.simba_top.specs.declared.output.Output.{Output}
use Rattle.simba_top.specs.declared.output.Output.TheVariants.{Transcript, Report}
use Rattle.simba_top.specs.Outputs.{text_so_far}
use Rattle.simba_top.specs.Script.{IsFront, IsWhole}
use Rattle.simba_top.specs.Stands.{Goes, GoesOn, IsCause, EndedBy, Stopped, IsDone, IsFinished, Leads}
use Rattle.simba_top.proofs.Puts.{added_then}
use Rattle.gated_tables.specs.Net.{start}
use Rattle.gated_tables.specs.Runs.{net_from}
use Rattle.net_steps.specs.declared.world.World.{World}
use Rattle.net_steps.specs.Steps.{IsUndone}
use Rattle.simba_top.proofs.Sounds.{is_run, run_still}

pub same_count : {D : Type 0} (old new : Run D) → new ≡ record old { reader = new.reader } → new.count ≡ old.count
same_count {D} old new same = ap (λ (run : Run D). run.count) same

-- ---- runs of which less is said

abbrev pub run_map : (P Q : List Happening → Type 0) → ((run : List Happening) → P run → Q run) → (script : List Event) (lines : List TextLine) → IsRun P script lines → IsRun Q script lines
run_map P Q f script lines r = record { run = r.run; events = r.events; lines_are = r.lines_are; texts = r.texts; sound = r.sound; listed = r.listed; asked = r.asked; phases = r.phases; kept = f r.run r.kept }

tells_map : (o : Output) (P Q : List Happening → Type 0) → ((run : List Happening) → P run → Q run) → (script : List Event) (before after : Option (List ℕ)) → Tells o P script before after → Tells o Q script before after
tells_map o P Q f script before after t = (t.0, run_map P Q f script t.0 t.1, t.2)

module _ (o : Output) (P Q : List Happening → Type 0) (f : (run : List Happening) → P run → Q run) where
  over_map : (event : Event) (run : List Happening) → GoesOver P event run → GoesOver Q event run
  over_map event run x = record { lucks = x.lucks; over = x.over; kept = f (run ++ record { event = event; lucks = x.lucks } ∷ []) x.kept }

  text_map : (input text : List ℕ) → IsTextOf o P input text → IsTextOf o Q input text
  text_map input text (inl t) = inl (t.0, t.1, run_map P Q f t.0 t.1 t.2, t.3)
  text_map input text (inr t) = inr (t.0, t.1, t.2, t.3, t.4, run_map (GoesOver P t.3) (GoesOver Q t.3) (over_map t.3) t.0 t.1 t.5, t.6)

  pub ended_map : (stop : Stop) (input : List ℕ) (count : ℕ) (left before after : Option (List ℕ)) → EndedBy o P stop input count left before after → EndedBy o Q stop input count left before after
  ended_map Read input count left before after e = (e.0, e.1, tells_map o P Q f e.0 before after e.2)
  ended_map Put input count left before after e = (e.0, text_map input e.0 e.1, e.2)
  ended_map Depot input count left before after e = (e.0, e.1, tells_map o P Q f e.0 before after e.2)
  ended_map Memory input count left before after e = e
  ended_map (BadLine fault) input count left before after e = (e.0, e.1, tells_map o P Q f e.0 before after e.2)
  ended_map (Limit limit) input count left before after e = (e.0, e.1, tells_map o P Q f e.0 before after e.2)
  ended_map Sent input count left before after e = (e.0, e.1, e.2, tells_map o (GoesOver P e.1) (GoesOver Q e.1) (over_map e.1) e.0 before after e.3)

  pub done_map : (input : List ℕ) (before after : Option (List ℕ)) → IsDone o P input before after → IsDone o Q input before after
  done_map input before after d = (d.0, d.1, (d.2.0, run_map P Q f d.0 d.2.0 d.2.1, d.2.2))

tells_any : (o : Output) (P : List Happening → Type 0) (script : List Event) (before after : Option (List ℕ)) → Tells o P script before after → Tells o AnyRun script before after
tells_any o P script before after t = tells_map o P AnyRun (λ run kept. tt) script before after t

-- a run that stops before a line is carried out has written what is told of the lines before it
pub ended : (o : Output) (P : List Happening → Type 0) (stop : Stop) (input : List ℕ) (script : List Event) (count count' : ℕ) (left before now : Option (List ℕ)) → count' ≡ count
    → IsCause stop input script count left → stop ≢ Sent → Tells o P script before now → EndedBy o P stop input count' left before now
ended o P Read input script count count' left before now same cause other told = (script, cause, told)
ended o P Put input script count count' left before now same cause other told = absurd cause
ended o P Depot input script count count' left before now same cause other told = (script, rw same cause, told)
ended o P Memory input script count count' left before now same cause other told = (script, rw same cause, tells_any o P script before now told)
ended o P (BadLine fault) input script count count' left before now same cause other told = (script, rw same cause, told)
ended o P (Limit limit) input script count count' left before now same cause other told = (script, rw same cause, told)
ended o P Sent input script count count' left before now same cause other told = absurd (other refl)

-- memory was refused, or what was written is of a run that has P
pub ended_left : (o : Output) (P Q : List Happening → Type 0) (stop : Stop) (input : List ℕ) (script : List Event) (count count' : ℕ) (left before now : Option (List ℕ)) → count' ≡ count
    → IsCause stop input script count left → Tells o Q script before now → (stop ≢ Memory → stop ≢ Sent → Tells o P script before now)
    → (stop ≡ Sent → (event : Event) × IsNext input script count event × Tells o (GoesOver P event) script before now) → EndedBy o P stop input count' left before now
ended_left o P Q Read input script count count' left before now same cause told f over = (script, cause, f (λ is. absurd cc) (λ is. absurd cc))
ended_left o P Q Put input script count count' left before now same cause told f over = absurd cause
ended_left o P Q Depot input script count count' left before now same cause told f over = (script, rw same cause, f (λ is. absurd cc) (λ is. absurd cc))
ended_left o P Q Memory input script count count' left before now same cause told f over = (script, rw same cause, tells_any o Q script before now told)
ended_left o P Q (BadLine fault) input script count count' left before now same cause told f over = (script, rw same cause, f (λ is. absurd cc) (λ is. absurd cc))
ended_left o P Q (Limit limit) input script count count' left before now same cause told f over = (script, rw same cause, f (λ is. absurd cc) (λ is. absurd cc))
ended_left o P Q Sent input script count count' left before now same cause told f over = let x = over refl in (script, x.0, rw same x.1, x.2)

-- of a run that is reported nothing is written while it goes on, whatever became of its lines
report_still : (P : List Happening → Type 0) (script : List Event) (held : Option (List ℕ)) → Tells Transcript P script None None → Tells Report P script held held
report_still P script held t = (t.0, t.1, Appends-nil held)

pub report_ended : (P : List Happening → Type 0) (stop : Stop) (input : List ℕ) (count : ℕ) (left held : Option (List ℕ)) → stop ≢ Put
    → EndedBy Transcript P stop input count left None None → EndedBy Report P stop input count left held held
report_ended P Read input count left held other e = (e.0, e.1, report_still P e.0 held e.2)
report_ended P Put input count left held other e = absurd (other refl)
report_ended P Depot input count left held other e = (e.0, e.1, report_still P e.0 held e.2)
report_ended P Memory input count left held other e = (e.0, e.1, report_still AnyRun e.0 held e.2)
report_ended P (BadLine fault) input count left held other e = (e.0, e.1, report_still P e.0 held e.2)
report_ended P (Limit limit) input count left held other e = (e.0, e.1, report_still P e.0 held e.2)
report_ended P Sent input count left held other e = (e.0, e.1, e.2, report_still (GoesOver P e.1) e.0 held e.3)

-- an event isn't carried out
pub still_tells : {D : Type 0} (state : D → DiskState) (script : List Event) (told : List TextLine) (names : Names) (world new : World D) (is_out out : ℕ → Bool) (before now : Option (List ℕ))
    → (leads : Leads state script told names world is_out) → IsUndone state (net_from start leads.run) out world new → Appends before now (transcript_text told) → Tells Transcript (Led state new) script before now
still_tells state script told names world new is_out out before now leads u was = (told, run_still state script told names world is_out leads new out u, was)

world_same : {D : Type 0} (old new : Run D) → new ≡ record old { reader = new.reader } → new.world ≡ old.world
world_same {D} old new same = ap (λ (run : Run D). run.world) same

told_same : {D : Type 0} (old new : Run D) → new ≡ record old { reader = new.reader } → new.told ≡ old.told
told_same {D} old new same = ap (λ (run : Run D). run.told) same

module _ {D : Type 0} (state : D → DiskState) (input : List ℕ) (run : Run D) (is_out : ℕ → Bool) (left before now : Option (List ℕ))
    (goes : Goes state input run is_out left before now) where
  pub tells : Tells Transcript (Led state run.world) goes.0 before now
  tells = (goes.1, is_run state goes.0 goes.1 run.names run.world is_out goes.2.world, goes.3)

  -- a line more was read
  pub tells_same : (new : Run D) → new ≡ record run { reader = new.reader } → Tells Transcript (Led state new.world) goes.0 before now
  tells_same new same = subst (λ (w : World D). Tells Transcript (Led state w) goes.0 before now) (sym (world_same run new same)) tells

  -- the end was read
  pub finished : (new : Run D) → new ≡ record run { reader = new.reader } → IsWhole input goes.0 → IsFinished state input new is_out
  finished new same whole = (
    goes.0,
    goes.1,
    whole,
    subst (λ (r : Run D). Leads state goes.0 goes.1 r.names r.world is_out) (sym same) goes.2.world,
    told_same run new same ∙ goes.2.told_is,
  )

module _ {D : Type 0} (state : D → DiskState) (input : List ℕ) (told : List TextLine) (run : Run D) (is_out : ℕ → Bool) (left : Option (List ℕ)) (texts : List (List ℕ))
    (before mid now : Option (List ℕ)) (goes : GoesOn state input told run is_out left texts) (was : Appends before mid (transcript_text told)) where
  pub put_done : Appends mid now (flat_map (λ (text : List ℕ). text) texts) → Goes state input run is_out left before now
  put_done put = (
    goes.0,
    goes.1,
    goes.2,
    subst (λ (text : List ℕ). Appends before now text) (sym goes.3)
        (Appends-trans before mid now (transcript_text told) (flat_map (λ (text : List ℕ). text) texts) was put),
  )

  pub put_failed : AppendsFront mid now (flat_map (λ (text : List ℕ). text) texts) → (text : List ℕ) × IsTextOf Transcript (Led state run.world) input text × AppendsFront before now text
  put_failed put = (
    transcript_text goes.1,
    inl (goes.0, goes.1, is_run state goes.0 goes.1 run.names run.world is_out goes.2.world, inl (run.count, run.names, goes.2.rest, goes.2.front, refl)),
    subst (λ (text : List ℕ). AppendsFront before now text) (sym goes.3)
        (added_then before mid now (transcript_text told) (flat_map (λ (text : List ℕ). text) texts) was put),
  )

-- the line that says why a run stopped was written, or memory was refused, or the sink failed
abbrev pub Written : Option (List ℕ) → Option (List ℕ) → List ℕ → Result (Unit {0}) Stop → Type 0
Written mid now text (Ok done) = Appends mid now text
Written mid now text (Err stop) = ((stop ≡ Memory) × (now ≡ mid)) ⊎ ((stop ≡ Put) × AppendsFront mid now text)

pub written : (mid now : Option (List ℕ)) (text : List ℕ) (put : Result (Unit {0}) Stop) → OnOk put (Appends mid now text)
    → IfErr put (λ stop. ((stop ≡ Memory) × (now ≡ mid)) ⊎ ((stop ≡ Put) × AppendsFront mid now text)) → Written mid now text put
written mid now text (Ok done) ok err = ok
written mid now text (Err stop) ok err = err

module _ (input : List ℕ) (left before mid now : Option (List ℕ)) (script : List Event) (count : ℕ) (text : List ℕ) (o : Output) (P : List Happening → Type 0)
    (told : Tells o P script before mid) where
  no_memory : (names : Names) (rest : List ℕ) → IsFront input script count names rest → now ≡ mid → Stopped o P Memory input left before now
  no_memory names rest front same =
      (count, (script, (names, rest, front), tells_any o P script before now (told.0, told.1, subst (λ (bytes : Option (List ℕ)). Appends before bytes (text_so_far o told.0)) (sym same) told.2)))

  no_put : IsTextOf o P input (text_so_far o told.0 ++ text) → AppendsFront mid now text → Stopped o P Put input left before now
  no_put is put = (text_so_far o told.0 ++ text, is, added_then before mid now (text_so_far o told.0) text told.2 put)

pub stopped_bad : (o : Output) (P : List Happening → Type 0) (input : List ℕ) (left before mid now : Option (List ℕ)) (count : ℕ) (fault : ABadLine) (put : Result (Unit {0}) Stop)
    → EndedBy o P (BadLine fault) input count left before mid → Written mid now (stop_text 3 (count + 1) fault.code ++ 10 ∷ []) put
    → Stopped o P (unwrap_or (result_err put) (BadLine fault)) input left before now
stopped_bad o P input left before mid now count fault (Ok done) ended put =
    let t = ended.2 in
    (ended.0, count, ended.1, (t.0, t.1, Appends-trans before mid now (text_so_far o t.0) (stop_text 3 (count + 1) fault.code ++ 10 ∷ []) t.2 put))
stopped_bad o P input left before mid now count fault (Err stop) ended (inl refused) =
    rw refused.0 (no_memory input left before mid now ended.0 count (stop_text 3 (count + 1) fault.code ++ 10 ∷ []) o P ended.2 ended.1.names ended.1.rest ended.1.front refused.1)
stopped_bad o P input left before mid now count fault (Err stop) ended (inr failed) =
    let t = ended.2 in
    rw failed.0 (no_put input left before mid now ended.0 count (stop_text 3 (count + 1) fault.code ++ 10 ∷ []) o P t
    (inl (ended.0, t.0, t.1, inr (inl (count, fault, ended.1, refl)))) failed.1)

pub stopped_limit : (o : Output) (P : List Happening → Type 0) (input : List ℕ) (left before mid now : Option (List ℕ)) (count limit : ℕ) (put : Result (Unit {0}) Stop)
    → EndedBy o P (Limit limit) input count left before mid → Written mid now (stop_text 7 (count + 1) limit ++ 10 ∷ []) put
    → Stopped o P (unwrap_or (result_err put) (Limit limit)) input left before now
stopped_limit o P input left before mid now count limit (Ok done) ended put =
    let t = ended.2 in
    (ended.0, count, ended.1, (t.0, t.1, Appends-trans before mid now (text_so_far o t.0) (stop_text 7 (count + 1) limit ++ 10 ∷ []) t.2 put))
stopped_limit o P input left before mid now count limit (Err stop) ended (inl refused) =
    rw refused.0 (no_memory input left before mid now ended.0 count (stop_text 7 (count + 1) limit ++ 10 ∷ []) o P ended.2 ended.1.names ended.1.rest ended.1.front refused.1)
stopped_limit o P input left before mid now count limit (Err stop) ended (inr failed) =
    let t = ended.2 in
    rw failed.0 (no_put input left before mid now ended.0 count (stop_text 7 (count + 1) limit ++ 10 ∷ []) o P t
    (inl (ended.0, t.0, t.1, inr (inr (inl (count, limit, ended.1, refl))))) failed.1)

pub stopped_over : (o : Output) (P : List Happening → Type 0) (input : List ℕ) (left before mid now : Option (List ℕ)) (count : ℕ) (put : Result (Unit {0}) Stop)
    → EndedBy o P Sent input count left before mid → Written mid now (stop_text 7 (count + 1) 10 ++ 10 ∷ []) put
    → Stopped o P (unwrap_or (result_err put) Sent) input left before now
stopped_over o P input left before mid now count (Ok done) ended put =
    let t = ended.3 in
    (ended.0, count, ended.1, ended.2, (t.0, t.1, Appends-trans before mid now (text_so_far o t.0) (stop_text 7 (count + 1) 10 ++ 10 ∷ []) t.2 put))
stopped_over o P input left before mid now count (Err stop) ended (inl refused) =
    rw refused.0 (no_memory input left before mid now ended.0 count (stop_text 7 (count + 1) 10 ++ 10 ∷ []) o (GoesOver P ended.1) ended.3 ended.2.names ended.2.rest ended.2.front refused.1)
stopped_over o P input left before mid now count (Err stop) ended (inr failed) =
    let t = ended.3 in
    let text = stop_text 7 (count + 1) 10 ++ 10 ∷ [] in
    rw failed.0 (
      text_so_far o t.0 ++ text,
      inr (ended.0, t.0, count, ended.1, ended.2, t.1, refl),
      added_then before mid now (text_so_far o t.0) text t.2 failed.1,
    )

-- the same at the end
pub stopped_map : (o : Output) (P Q : List Happening → Type 0) → ((run : List Happening) → P run → Q run) → (stop : Stop) (input : List ℕ) (left before after : Option (List ℕ))
    → Stopped o P stop input left before after → Stopped o Q stop input left before after
stopped_map o P Q f Read input left before after s = ended_map o P Q f Read input 0 left before after s
stopped_map o P Q f Put input left before after s = ended_map o P Q f Put input 0 left before after s
stopped_map o P Q f Depot input left before after s = (s.0, ended_map o P Q f Depot input s.0 left before after s.1)
stopped_map o P Q f Memory input left before after s = s
stopped_map o P Q f (BadLine fault) input left before after s = (s.0, s.1, s.2, (s.3.0, run_map P Q f s.0 s.3.0 s.3.1, s.3.2))
stopped_map o P Q f (Limit limit) input left before after s = (s.0, s.1, s.2, (s.3.0, run_map P Q f s.0 s.3.0 s.3.1, s.3.2))
stopped_map o P Q f Sent input left before after s = (s.0, s.1, s.2, s.3, (s.4.0, run_map (GoesOver P s.2) (GoesOver Q s.2) (over_map o P Q f s.2) s.0 s.4.0 s.4.1, s.4.2))
