-- What is done to a gateway, as an event, and the step that it is.
use Rattle.std.proofs.Common.{◌≡◌, ◌⊎◌, inl, inr, ⊎_elim, ℕ, Bool, true, false, List, [], ◌∷◌, Option, Some, None, Result, Err, refl, sym, ◌∙◌, ap, subst, true≢false, arith}
use Rattle.std.specs.Prelude.{◌≢◌, ◌↔◌, map, IfOk, IfErr, IsErrOf, if◌then◌else◌}
use Rattle.disk_trait.specs.Calls.{DiskState}
use Rattle.disk_trait.specs.Image.{IsImage}
use Rattle.stab_base.specs.declared.node.Node.TheVariants as nodes
use Rattle.stab_base.specs.declared.step.Step.TheVariants as steps
use Rattle.table_model.specs.declared.event.Event.{Event}
use Rattle.table_model.specs.declared.event.Event.TheVariants as events
use Rattle.table_model.specs.declared.line.TextLine.{TextLine}
use Rattle.step_tables.specs.Facts.{Answer, AnswerLine}
use Rattle.step_tables.specs.Facts as facts
use Rattle.world_tables.specs.Faults.{is_fault_answer}
use Rattle.step_tables.specs.Lines.{line_of}
use Rattle.world_tables.specs.World.{Lucks, no_lucks}
use Rattle.fair_laws.specs.Reached.{IsBuilt}
use Rattle.wire_tables.specs.Wire.{wire_step}
use Rattle.gate_tables.specs.Gate.{Gateway, Running}
use Rattle.gateway_core.specs.declared.gate_fault.GateFault.{GateFault}
use Rattle.gateway_core.specs.declared.gate_fault.GateFault.TheVariants.{Spent}
use Rattle.gated_tables.specs.Net.{Net, NetStep, net_step, still, refused, unless_down, is_node_down, gate_at, gate_crashed, gate_started, carried_on}
use Rattle.gated_tables.specs.Faults.{is_net_fault}
use Rattle.gate_host.specs.declared.gates.Gates.{Gates}
use Rattle.gate_host.specs.Moves.{fallen, risen, with_crash, with_start, down, is_up_in, gate_in, most_starts}
use Rattle.gate_host.specs.Holds.{HoldsGates, is_up_at}
use Rattle.node_steps.specs.declared.fault.WorldFault.{WorldFault}
use Rattle.node_steps.specs.declared.fault.WorldFault.TheVariants.{Memory}
use Rattle.net_steps.specs.declared.world.World.{World}
use Rattle.net_steps.specs.declared.kinds.Deed.{Deed}
use Rattle.net_steps.specs.declared.kinds.Deed.TheVariants as deeds
use Rattle.net_steps.specs.declared.kinds.Kind.TheVariants as kinds
use Rattle.net_steps.specs.Kinds.{kind_of}
use Rattle.net_steps.specs.Holds.{Holds, IsAt}
use Rattle.net_steps.specs.Calls.{IsCarriedOn}
use Rattle.net_steps.specs.Alone.{Promises}
use Rattle.net_steps.specs.Handing.{spent_of}
use Rattle.net_steps.proofs.Directories.{up_there, down_node, up_node}
use Rattle.net_steps.proofs.Promised.{answers, spends}

-- ---- which event a deed is

abbrev pub IsDeed : Event → ℕ → Deed → Type 0
IsDeed event gate deeds.Hold = (event ≡ events.Hold (nodes.Gate gate)) ⊎ (event ≡ events.Free (nodes.Gate gate))
IsDeed event gate deeds.Work = event ≡ events.Work (nodes.Gate gate)
IsDeed event gate deeds.WorkAll = event ≡ events.WorkAll (nodes.Gate gate)
IsDeed event gate deeds.Crash = (calls : ℕ) × (pick : ℕ) × (event ≡ events.Crash (nodes.Gate gate) calls pick)
IsDeed event gate deeds.Start = event ≡ events.Start (nodes.Gate gate)

gate_same : (a b : ℕ) (d e : Deed) → kinds.Gate a d ≡ kinds.Gate b e → a ≡ b
gate_same a b d e is = cc

deed_same : (a b : ℕ) (d e : Deed) → kinds.Gate a d ≡ kinds.Gate b e → d ≡ e
deed_same a b d e is = cc

same_deed : (event : Event) (a b : ℕ) (d e : Deed) → kinds.Gate a d ≡ kinds.Gate b e → IsDeed event a d → IsDeed event b e
same_deed event a b d e is k = subst (λ (x : Deed). IsDeed event b x) (deed_same a b d e is) (subst (λ (x : ℕ). IsDeed event x d) (gate_same a b d e is) k)

pub deed_of : (event : Event) (gate : ℕ) (deed : Deed) → kind_of event ≡ kinds.Gate gate deed → IsDeed event gate deed
deed_of (events.Hold (nodes.Gate g)) gate deed is = same_deed (events.Hold (nodes.Gate g)) g gate deeds.Hold deed is (inl refl)
deed_of (events.Free (nodes.Gate g)) gate deed is = same_deed (events.Free (nodes.Gate g)) g gate deeds.Hold deed is (inr refl)
deed_of (events.Work (nodes.Gate g)) gate deed is = same_deed (events.Work (nodes.Gate g)) g gate deeds.Work deed is refl
deed_of (events.WorkAll (nodes.Gate g)) gate deed is = same_deed (events.WorkAll (nodes.Gate g)) g gate deeds.WorkAll deed is refl
deed_of (events.Crash (nodes.Gate g) calls pick) gate deed is = same_deed (events.Crash (nodes.Gate g) calls pick) g gate deeds.Crash deed is (calls, pick, refl)
deed_of (events.Start (nodes.Gate g)) gate deed is = same_deed (events.Start (nodes.Gate g)) g gate deeds.Start deed is refl
deed_of (events.Create (nodes.Client k) table) gate deed is = absurd cc
deed_of (events.Create (nodes.Store k) table) gate deed is = absurd cc
deed_of (events.Create (nodes.Gate k) table) gate deed is = absurd cc
deed_of (events.Drop (nodes.Client k) table) gate deed is = absurd cc
deed_of (events.Drop (nodes.Store k) table) gate deed is = absurd cc
deed_of (events.Drop (nodes.Gate k) table) gate deed is = absurd cc
deed_of other gate deed is = absurd cc

-- ---- a gateway that is down, or up

module _ (n : Net) (gate : ℕ) (s : NetStep) where
  pub unless_up : is_node_down n (nodes.Gate gate) ≡ false → unless_down n (nodes.Gate gate) s ≡ s
  unless_up up = go (is_node_down n (nodes.Gate gate)) up
    where
      go : (b : Bool) → b ≡ false → (if b then refused n (facts.NodeDown (nodes.Gate gate)) else s) ≡ s
      go true e = absurd (true≢false e)
      go false e = refl

  pub if_down : is_node_down n (nodes.Gate gate) ≡ true → unless_down n (nodes.Gate gate) s ≡ refused n (facts.NodeDown (nodes.Gate gate))
  if_down down = go (is_node_down n (nodes.Gate gate)) down
    where
      go : (b : Bool) → b ≡ true → (if b then refused n (facts.NodeDown (nodes.Gate gate)) else s) ≡ refused n (facts.NodeDown (nodes.Gate gate))
      go true e = refl
      go false e = absurd (true≢false (sym e))

-- what is done to one that is down is refused, but its start
pub refused_deed : (n : Net) (gate : ℕ) (deed : Deed) → is_node_down n (nodes.Gate gate) ≡ true → deed ≢ deeds.Start → (event : Event) → IsDeed event gate deed → (lucks : Lucks)
    → (net_step n event lucks ≡ refused n (facts.NodeDown (nodes.Gate gate))) × (is_net_fault n event lucks ≡ false)
refused_deed n gate deeds.Hold down other event is lucks = ⊎_elim
    (λ h. rw h (if_down n gate _ down, ap (λ (s : NetStep). is_fault_answer s.answer) (if_down n gate _ down)))
    (λ h. rw h (if_down n gate _ down, ap (λ (s : NetStep). is_fault_answer s.answer) (if_down n gate _ down))) is
refused_deed n gate deeds.Work down other event is lucks = rw is (if_down n gate _ down, ap (λ (s : NetStep). is_fault_answer s.answer) (if_down n gate _ down))
refused_deed n gate deeds.WorkAll down other event is lucks = rw is (if_down n gate _ down, ap (λ (s : NetStep). is_fault_answer s.answer) (if_down n gate _ down))
refused_deed n gate deeds.Crash down other event is lucks = rw is.2 (if_down n gate _ down, refl)
refused_deed n gate deeds.Start down other event is lucks = absurd (other refl)

pub hold_starts_nothing : deeds.Hold ≢ deeds.Start
hold_starts_nothing is = absurd cc

-- ---- the step of each

pub started_step : (n : Net) (gate : ℕ) (lucks : Lucks) → net_step n (events.Start (nodes.Gate gate)) lucks ≡ still (record n { gates = with_start gate n.gates }) facts.Done
started_step n gate lucks = go (gate_at n gate)
  where
    by_running : (starts : ℕ) (r : Option Running) → gate_started n gate (Some (record { starts = starts; running = r }))
        ≡ still (record n { gates = risen gate (Some (record { starts = starts; running = r })) n.gates }) facts.Done
    by_running starts None = refl
    by_running starts (Some running) = refl

    go : (o : Option Gateway) → gate_started n gate o ≡ still (record n { gates = risen gate o n.gates }) facts.Done
    go None = refl
    go (Some it) = by_running it.starts it.running

pub crashed_step : (n : Net) (gate : ℕ) → is_node_down n (nodes.Gate gate) ≡ false → (calls : ℕ) (pick : ℕ) (lucks : Lucks)
    → net_step n (events.Crash (nodes.Gate gate) calls pick) lucks ≡ still (record n { gates = with_crash gate n.gates }) facts.Done
crashed_step n gate up calls pick lucks = unless_up n gate (gate_crashed n gate (gate_at n gate)) up ∙ go (gate_at n gate)
  where
    go : (o : Option Gateway) → gate_crashed n gate o ≡ still (record n { gates = fallen gate o n.gates }) facts.Done
    go None = refl
    go (Some it) = refl

-- one that is up is held by the wire
pub held_on : (n : Net) (gate : ℕ) → is_node_down n (nodes.Gate gate) ≡ false → (event : Event) → IsDeed event gate deeds.Hold → IsCarriedOn n event
held_on n gate up event is = ⊎_elim
    (λ h. subst (IsCarriedOn n) (sym h) (record {
      step = λ lucks. unless_up n gate (carried_on n (wire_step n.wire (events.Hold (nodes.Gate gate)) lucks)) up;
      fault = λ lucks. ap (λ (s : NetStep). is_fault_answer s.answer) (unless_up n gate (carried_on n (wire_step n.wire (events.Hold (nodes.Gate gate)) lucks)) up);
      spends = λ m k. k;
      plain = refl;
    }))
    (λ h. subst (IsCarriedOn n) (sym h) (record {
      step = λ lucks. unless_up n gate (carried_on n (wire_step n.wire (events.Free (nodes.Gate gate)) lucks)) up;
      fault = λ lucks. ap (λ (s : NetStep). is_fault_answer s.answer) (unless_up n gate (carried_on n (wire_step n.wire (events.Free (nodes.Gate gate)) lucks)) up);
      spends = λ m k. k;
      plain = refl;
    })) is

pub held_built : (gate : ℕ) (event : Event) → IsDeed event gate deeds.Hold → IsBuilt event
held_built gate event is = ⊎_elim (λ h. subst IsBuilt (sym h) tt) (λ h. subst IsBuilt (sym h) tt) is

-- ---- promises of the same event

pub promised_as : {D : Type 0} (state : D → DiskState) (images : D → ℕ → List ℕ → Type 0) (n : Net) (event x : Event) → event ≡ x → (is_out : ℕ → Bool)
    (result : Result (List TextLine) WorldFault) (old new : World D) → (IsAt state is_out x n old → Promises state images n x is_out result old new)
    → IsAt state is_out event n old → Promises state images n event is_out result old new
promised_as {D} state images n event x is is_out result old new k b =
    subst (λ (y : Event). Promises state images n y is_out result old new) (sym is) (k (subst (λ (y : Event). IsAt state is_out y n old) is b))

-- ---- what the program does to a gateway

gates_hold : {D : Type 0} (state : D → DiskState) (n : Net) (old : World D) → Holds state n old → (it : Gates) (gates : List (ℕ × Gateway))
    → HoldsGates n.wire.world.stores n.wire.world.schemas gates it → Holds state (record n { gates = gates }) (record old { gates = it })
gates_hold state n old h it gates k = record { wire = h.wire; gates = k; devices = h.devices; sent = h.sent; short = h.short; bytes = h.bytes; numbered = h.numbered; askers = h.askers; asked = h.asked }

as_error : {T : Type 0} (result : Result T GateFault) (fault e : GateFault) → result ≡ Err fault → fault ≡ e → IsErrOf result e
as_error result fault e is same = cc

module _ {D : Type 0} (state : D → DiskState) (images : D → ℕ → List ℕ → Type 0)
    (only_now : (disk : D) (image : List ℕ) → images disk (state disk).moment image → IsImage (state disk).pending image)
    (n : Net) (gate : ℕ) (is_out : ℕ → Bool) (old : World D) where
  -- whether it is up
  pub is_down_node : Holds state n old → (b : Bool) → ((stores : List ℕ) (schemas : _) (gates : List (ℕ × Gateway)) → HoldsGates stores schemas gates old.gates → b ≡ is_up_in (gate_in gates gate))
      → b ≡ false → is_node_down n (nodes.Gate gate) ≡ true
  is_down_node h b k is = down_node (gate_at n gate) (sym (k n.wire.world.stores n.wire.world.schemas n.gates h.gates) ∙ is)

  pub is_up_node : Holds state n old → is_up_at old.gates gate ≡ true → is_node_down n (nodes.Gate gate) ≡ false
  is_up_node h up = let r = up_there n.wire.world.stores n.wire.world.schemas n.gates old.gates gate h.gates up in up_node (gate_at n gate) r.0 r.1 r.2

  module _ (it : Gates) (result : Result (List TextLine) WorldFault) (told : IfOk result (λ lines. map line_of lines ≡ AnswerLine facts.Done ∷ [])) (none : IfErr result (λ e. e ≡ Memory)) where
    pub crash_promises : (calls pick : ℕ) → IsAt state is_out (events.Crash (nodes.Gate gate) calls pick) n old → is_up_at old.gates gate ≡ true
        → HoldsGates n.wire.world.stores n.wire.world.schemas (with_crash gate n.gates) it
        → Promises state images n (events.Crash (nodes.Gate gate) calls pick) is_out result old (record old { gates = it })
    crash_promises calls pick b up k =
        answers state images only_now n (events.Crash (nodes.Gate gate) calls pick) is_out old (record old { gates = it }) b refl (record n { gates = with_crash gate n.gates }) facts.Done
        (crashed_step n gate (is_up_node b.held up) calls pick no_lucks) refl refl (gates_hold state n old b.held it (with_crash gate n.gates) k) result told none

    pub start_promises : IsAt state is_out (events.Start (nodes.Gate gate)) n old → HoldsGates n.wire.world.stores n.wire.world.schemas (with_start gate n.gates) it
        → Promises state images n (events.Start (nodes.Gate gate)) is_out result old (record old { gates = it })
    start_promises b k =
        answers state images only_now n (events.Start (nodes.Gate gate)) is_out old (record old { gates = it }) b refl (record n { gates = with_start gate n.gates }) facts.Done
        (started_step n gate no_lucks) (ap (λ (s : NetStep). is_fault_answer s.answer) (started_step n gate no_lucks)) refl (gates_hold state n old b.held it (with_start gate n.gates) k) result told none

  -- it has started for the last time
  pub start_spends : {T : Type 0} (b : IsAt state is_out (events.Start (nodes.Gate gate)) n old) (it : Gates) → HoldsGates n.wire.world.stores n.wire.world.schemas n.gates it
      → (result : Result T GateFault) (fault : GateFault) → result ≡ Err fault → fault ≡ Spent most_starts
      → IsErrOf result (Spent most_starts) ↔ ((most_starts ≡ most_starts) × (gate_in n.gates gate ≡ Some (down most_starts)))
      → (e : WorldFault) → e ≡ spent_of fault → Promises state images n (events.Start (nodes.Gate gate)) is_out (Err e) old (record old { gates = it })
  start_spends b it k result fault is last spent e same =
      spends state images only_now n (events.Start (nodes.Gate gate)) is_out old (record old { gates = it }) b refl e most_starts (same ∙ ap spent_of last)
      (λ m. record { number = gate; gateway = down most_starts; at = (spent.0 (as_error result fault (Spent most_starts) is last)).1; spent = inl (omega arith) })
      (gates_hold state n old b.held it n.gates k)

  -- an answer, and nothing changes
  module _ (event : Event) (deed : Deed) (kind : kind_of event ≡ kinds.Gate gate deed) (b : IsAt state is_out event n old) (result : Result (List TextLine) WorldFault)
      (none : IfErr result (λ e. e ≡ Memory)) where
    still_promises : (x : Event) → event ≡ x → (answer : Answer) → net_step n x no_lucks ≡ still n answer → is_net_fault n x no_lucks ≡ false
        → IfOk result (λ lines. map line_of lines ≡ AnswerLine answer ∷ []) → Promises state images n event is_out result old old
    still_promises x is answer step well told =
        promised_as state images n event x is is_out result old old (λ at. answers state images only_now n x is_out old old at refl n answer step well refl at.held result told none) b

    pub refuse_promises : is_node_down n (nodes.Gate gate) ≡ true → deed ≢ deeds.Start
        → IfOk result (λ lines. map line_of lines ≡ AnswerLine (facts.Refuses (facts.NodeDown (nodes.Gate gate))) ∷ []) → Promises state images n event is_out result old old
    refuse_promises down other told =
        let r = refused_deed n gate deed down other event (deed_of event gate deed kind) no_lucks in
        still_promises event refl (facts.Refuses (facts.NodeDown (nodes.Gate gate))) r.0 r.1 told

    pub work_promises : deed ≡ deeds.Work → is_node_down n (nodes.Gate gate) ≡ false → IfOk result (λ lines. map line_of lines ≡ AnswerLine (facts.Did steps.Idle) ∷ [])
        → Promises state images n event is_out result old old
    work_promises is up told =
        let step = unless_up n gate (still n (facts.Did steps.Idle)) up in
        still_promises (events.Work (nodes.Gate gate)) (deed_of event gate deeds.Work (kind ∙ ap (kinds.Gate gate) is)) (facts.Did steps.Idle) step
        (ap (λ (s : NetStep). is_fault_answer s.answer) step) told

    pub work_all_promises : deed ≡ deeds.WorkAll → is_node_down n (nodes.Gate gate) ≡ false → IfOk result (λ lines. map line_of lines ≡ AnswerLine (facts.Number 0) ∷ [])
        → Promises state images n event is_out result old old
    work_all_promises is up told =
        let step = unless_up n gate (still n (facts.Number 0)) up in
        still_promises (events.WorkAll (nodes.Gate gate)) (deed_of event gate deeds.WorkAll (kind ∙ ap (kinds.Gate gate) is)) (facts.Number 0) step
        (ap (λ (s : NetStep). is_fault_answer s.answer) step) told

  pub crash_as : (event : Event) (deed : Deed) → kind_of event ≡ kinds.Gate gate deed → deed ≡ deeds.Crash → IsAt state is_out event n old → (result : Result (List TextLine) WorldFault) (new : World D)
      → ((calls pick : ℕ) → IsAt state is_out (events.Crash (nodes.Gate gate) calls pick) n old
      → Promises state images n (events.Crash (nodes.Gate gate) calls pick) is_out result old new) → Promises state images n event is_out result old new
  crash_as event deed kind is b result new k =
      let d = deed_of event gate deeds.Crash (kind ∙ ap (kinds.Gate gate) is) in
      promised_as state images n event (events.Crash (nodes.Gate gate) d.0 d.1) d.2 is_out result old new (k d.0 d.1) b

  pub start_as : (event : Event) (deed : Deed) → kind_of event ≡ kinds.Gate gate deed → deed ≡ deeds.Start → IsAt state is_out event n old → (result : Result (List TextLine) WorldFault) (new : World D)
      → (IsAt state is_out (events.Start (nodes.Gate gate)) n old → Promises state images n (events.Start (nodes.Gate gate)) is_out result old new)
      → Promises state images n event is_out result old new
  start_as event deed kind is b result new k =
      promised_as state images n event (events.Start (nodes.Gate gate)) (deed_of event gate deeds.Start (kind ∙ ap (kinds.Gate gate) is)) is_out result old new k b
