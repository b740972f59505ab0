-- An event that is told, or sends too much, as a step of the world.
use Rattle.std.proofs.Common.{◌≡◌, ◌≢◌, ◌⊎◌, inl, inr, ⊎_elim, ℕ, suc, ◌+◌, Bool, List, Result, Ok, Err, refl, sym, ◌∙◌, subst, arith}
use Rattle.std.specs.Prelude.{IfOk, IfErr}
use Rattle.disk_trait.specs.Calls.{DiskState, IsCounted}
use Rattle.table_model.specs.declared.event.Event.{Event}
use Rattle.table_model.specs.declared.event.Event.TheVariants as events
use Rattle.table_model.specs.declared.line.TextLine.{TextLine}
use Rattle.world_tables.specs.Faults.{is_fault_answer}
use Rattle.world_tables.specs.World.{World as AWorld, Lucks}
use Rattle.world_laws.specs.Begun.{IsSingle}
use Rattle.wire_tables.specs.Faults.{is_wire_fault}
use Rattle.wire_tables.specs.Wire.{Wire, WireStep, wire_step}
use Rattle.node_steps.specs.declared.fault.WorldFault.{WorldFault}
use Rattle.node_steps.specs.declared.fault.WorldFault.TheVariants.{Memory, Depot as DepotFailed, Limit as LimitPassed}
use Rattle.node_steps.specs.Fits.{IsOwn}
use Rattle.node_steps.specs.Holds.{AreOut}
use Rattle.node_steps.specs.Rows.{RowsStay}
use Rattle.node_steps.specs.Steps.{SpendsNumber}
use Rattle.node_steps.proofs.Rows.{stay_over}
use Rattle.wire_steps.specs.declared.kinds.Kind.TheVariants as kind
use Rattle.wire_steps.specs.declared.world.World.{World}
use Rattle.wire_steps.specs.Kinds.{kind_of}
use Rattle.wire_steps.specs.Reached.{IsReached}
use Rattle.wire_steps.specs.Calls.{IsBehind, Comes, Ends, IsLimitedBy}
use Rattle.wire_steps.specs.Steps.{IsMoved, IsStep, IsOver, IsUndone, IsWhole, Spends, HavePlansBelow, may_begin}
use Rattle.wire_steps.proofs.Delivered.{wire_reached}

-- an event that shows a device fault where its answer tells of one
module _ {D : Type 0} (state : D → DiskState) (images : D → ℕ → List ℕ → Type 0) (v : Wire) (r : IsReached v) (event : Event)
    (shown : (lucks : Lucks) → is_wire_fault v event lucks ≡ is_fault_answer (wire_step v event lucks).answer) (is_out : ℕ → Bool) (old new : World D) (out : AreOut is_out v.world) where
  pub behind_moved : (lucks : Lucks) → IsBehind state images v (wire_step v event lucks) old.nodes new.nodes → IsMoved state images v event lucks is_out old new
  behind_moved lucks b = record {
    held = b.held;
    out = record {
      tables = λ table k least most few. out.tables table k least most few ∙ sym (b.tables table);
      clients = λ c k least few. out.clients c k least few ∙ sym (b.clients c);
    };
    rose = λ is. b.counted.rose (sym (shown lucks) ∙ is);
    same = λ is. b.counted.same (sym (shown lucks) ∙ is);
    rows = subst (λ (w : AWorld). RowsStay state images v.world w old.nodes new.nodes) b.rows.behind
        (stay_over state images v.world (wire_reached v r) b.rows.event b.rows.lucks old.nodes new.nodes b.rows.left);
  }

  pub comes_stepped : (result : Result (List TextLine) WorldFault) → Comes state images v (wire_step v event) result old new
      → IfOk result (λ lines. IsStep state images v event lines is_out old new)
  comes_stepped (Err e) k = tt
  comes_stepped (Ok lines) k = record { lucks = k.0; lines_are = k.1.lines_are; held = k.1.held; moved = behind_moved k.0 k.1.behind }

  pub ends_over : (result : Result (List TextLine) WorldFault) → Ends state images v (wire_step v event) result old new
      → IfErr result (λ e. (count : ℕ) → e ≡ LimitPassed 10 count → IsOver state images v event is_out old new)
  ends_over (Ok lines) k = tt
  ends_over (Err e) k = λ count is. let p = k.over count is in record { lucks = p.0; over = p.1.over; moved = behind_moved p.0 p.1.behind }

  -- of an event that is this one
  module _ (x : Event) (is : x ≡ event) (result : Result (List TextLine) WorldFault) where
    pub event_stepped : Comes state images v (wire_step v event) result old new → IfOk result (λ lines. IsStep state images v x lines is_out old new)
    event_stepped k = subst (λ (y : Event). IfOk result (λ lines. IsStep state images v y lines is_out old new)) (sym is) (comes_stepped result k)

    pub event_over : Ends state images v (wire_step v event) result old new
        → IfErr result (λ e. (count : ℕ) → e ≡ LimitPassed 10 count → IsOver state images v x is_out old new)
    event_over k = subst (λ (y : Event). IfErr result (λ e. (count : ℕ) → e ≡ LimitPassed 10 count → IsOver state images v y is_out old new)) (sym is) (ends_over result k)

-- ---- limits, plans, and what is left

pub event_limited : (n : ℕ) (w : AWorld) (event x : Event) → x ≡ event → (result : Result (List TextLine) WorldFault) → IsLimitedBy (Spends n w event) result
    → IsLimitedBy (Spends n w x) result
event_limited n w event x is result k = subst (λ (y : Event). IsLimitedBy (Spends n w y) result) (sym is) k

pub event_plans : {D : Type 0} (state : D → DiskState) (n : ℕ) (w : AWorld) (event x : Event) → x ≡ event → (new : World D) → HavePlansBelow state (may_begin w event + n) new
    → HavePlansBelow state (may_begin w x + n) new
event_plans state n w event x is new k = subst (λ (y : Event). HavePlansBelow state (may_begin w y + n) new) (sym is) k

pub plans_as : {D : Type 0} (state : D → DiskState) (n k : ℕ) → n ≡ k → (new : World D) → HavePlansBelow state n new → HavePlansBelow state k new
plans_as state n k is new below = subst (λ (m : ℕ). HavePlansBelow state m new) is below

pub number_more : (n : ℕ) (w : AWorld) (c : ℕ) (result : Result (List TextLine) WorldFault) → IsLimitedBy (SpendsNumber n w c) result
    → IsLimitedBy (SpendsNumber (suc (suc n)) w c) result
number_more n w c (Ok lines) k = tt
number_more n w c (Err e) k = λ code count is.
    ⊎_elim (λ ten. inl ten) (λ spent. inr (spent.0, ⊎_elim (λ last. inl last) (λ most. inr (omega (arith, most))) spent.1)) (k code count is)

-- a delivery and a pull, which no depot ends
module _ {D : Type 0} (state : D → DiskState) (images : D → ℕ → List ℕ → Type 0) (v : Wire) (f : Lucks → WireStep) (old new : World D) where
  pub event_left : (is_out : ℕ → Bool) (event x : Event) → x ≡ event → (IsOwn event → ⊥) → (result : Result (List TextLine) WorldFault) → Ends state images v f result old new
      → IfErr result (λ e. e ≢ Memory → ((count : ℕ) → e ≢ LimitPassed 10 count) → IsWhole x ⊎ (e ≡ DepotFailed) → IsUndone state v is_out old new)
  event_left is_out event x is other (Ok lines) k = tt
  event_left is_out event x is other (Err e) k = λ memory limit why. ⊎_elim (λ whole. absurd (other (subst IsOwn is whole.1))) (λ depot. absurd (k.only depot)) why

  pub event_counted : (n : ℕ) (result : Result (List TextLine) WorldFault) → Ends state images v f result old new → IsCounted DepotFailed n n result
  event_counted n (Ok lines) k = refl
  event_counted n (Err e) k = (λ depot. absurd (k.only depot), λ other. refl)

-- an event of the nodes alone
pub own_left : {D : Type 0} (state : D → DiskState) (v : Wire) (is_out : ℕ → Bool) (old new : World D) (x : Event) (result : Result (List TextLine) WorldFault)
    → IfErr result (λ e. e ≢ Memory → ((count : ℕ) → e ≢ LimitPassed 10 count) → IsSingle x ⊎ (e ≡ DepotFailed) → IsUndone state v is_out old new)
    → IfErr result (λ e. e ≢ Memory → ((count : ℕ) → e ≢ LimitPassed 10 count) → IsWhole x ⊎ (e ≡ DepotFailed) → IsUndone state v is_out old new)
own_left state v is_out old new x (Ok lines) k = tt
own_left state v is_out old new x (Err e) k = λ memory limit why. k memory limit (⊎_elim (λ whole. inl whole.0) (λ depot. inr depot) why)

-- ---- which event it is

pub delivers : (event : Event) (packet : ℕ) → kind_of event ≡ kind.Deliver packet → event ≡ events.Deliver packet
delivers (events.Deliver other) packet e = cc
delivers other packet e = absurd cc

pub pulls : (event : Event) (c table : ℕ) → kind_of event ≡ kind.Pull c table → event ≡ events.Pull c table
pulls (events.Pull d other) c table e = cc
pulls other c table e = absurd cc

pub asks : (event : Event) (c table : ℕ) → kind_of event ≡ kind.Ask c table → event ≡ events.Ask c table
asks (events.Ask d other) c table e = cc
asks other c table e = absurd cc

pub is_own : (event : Event) → kind_of event ≡ kind.Other → IsOwn event
is_own (events.Deliver packet) e = absurd cc
is_own (events.Pull c table) e = absurd cc
is_own (events.Ask c table) e = absurd cc
is_own other e = tt

-- an event that isn't the nodes' own takes no disk from the depot
pub ends_apart : {D : Type 0} (state : D → DiskState) (images : D → ℕ → List ℕ → Type 0) (v : Wire) (f : Lucks → WireStep) (old new : World D)
    (result : Result (List TextLine) WorldFault) → Ends state images v f result old new → IfErr result (λ e. e ≢ DepotFailed)
ends_apart state images v f old new (Ok lines) k = tt
ends_apart state images v f old new (Err e) k = k.only

pub own_apart : (result : Result (List TextLine) WorldFault) (Own : Type 0) → Own → (Own → ⊥) → IfErr result (λ e. e ≢ DepotFailed)
own_apart result Own own not = absurd (not own)
