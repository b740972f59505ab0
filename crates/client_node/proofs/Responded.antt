-- What a client makes of the Store's answer to a request.
use Rattle.std.proofs.Common.{◌≡◌, ◌⊎◌, inl, inr, ℕ, ◌+◌, ◌<◌, ◌≤◌, Bool, true, false, List, [], ◌∷◌, length, Option, Some, None, refl, sym, ◌∙◌, ap, subst, arith, eqb-true}
use Rattle.std.specs.Prelude.{◌==◌, if◌then◌else◌, option_map, is_some, IfSome, IsSome}
use Rattle.std.specs.List.{AllByRecursion}
use Rattle.std.proofs.lemmas.Bool.Decides.{nat_tests}
use Rattle.table_model.specs.declared.message.Outcome.{Outcome as RowOutcome}
use Rattle.table_model.specs.declared.message.Outcome.TheVariants as rows
use Rattle.row_value.specs.declared.pieces.Piece.{Piece}
use Rattle.row_value.specs.declared.schema.Scheme.TheVariants.{Eventual}
use Rattle.held_value.specs.declared.local_name.LocalName.{LocalName}
use Rattle.held_value.specs.declared.slots.Main.{Main as HeldMain}
use Rattle.held_value.specs.declared.slots.Out.{Out as HeldOut}
use Rattle.held_value.specs.declared.slots.Shadow.{Shadow as HeldShadow}
use Rattle.held_value.specs.declared.slots.Slots.{Slots as HeldSlots}
use Rattle.slot_store.specs.declared.held.TableRecord.{TableRecord}
use Rattle.client_tables.specs.declared.change.Change.{Change}
use Rattle.client_tables.specs.declared.change.Sending.{Sending}
use Rattle.client_tables.specs.declared.change.Sending.TheVariants as send
use Rattle.client_tables.specs.declared.plan.RowPlan.{RowPlan}
use Rattle.client_tables.specs.Change.{after, unchanged, IsCountableOut, AreCountable}
use Rattle.client_tables.specs.Drops.{names_in as tree_names}
use Rattle.client_tables.specs.Kept.{Answer, SlotEvent, slots_behind}
use Rattle.client_tables.specs.Plan.{IsPlan as IsRowPlanOf, AreKnown, names_with}
use Rattle.client_tables.specs.Names.{fresh_from}
use Rattle.client_tables.specs.Transitions.{answered, answered_out, by_outcome, accepted, refused}
use Rattle.client_journal.specs.Devs.{ClientDevs}
use Rattle.client_journal.specs.Names.{Has}
use Rattle.client_journal.specs.NamedSlots.{NamedSlots, IsAtRest}
use Rattle.client_journal.specs.Redone.{redone}
use Rattle.row_value.specs.declared.schema.Scheme.{Scheme}
use Rattle.step_tables.specs.Slots.{InFlight}
use Rattle.step_tables.specs.declared.message.Message.TheVariants as kinds
use Rattle.step_tables.specs.declared.message.Outcome.{Outcome}
use Rattle.step_tables.specs.declared.message.Outcome.TheVariants as outcomes
use Rattle.step_tables.specs.declared.message.SyncResponse.{SyncResponse}
use Rattle.step_tables.specs.Facts as facts
use Rattle.step_tables.specs.Messages as messages
use Rattle.step_tables.specs.ClientMoves.{TableDisk, Plan, ClientDisk, ClientStep, Slots, Shape, table_at, slots_at, slots_in, seen, begun, ignored, ack_plan, lost_plan, whole_plan, whole_out as all_out, request_for, outcome_taken, response_taken, response_in}
use Rattle.step_tables.specs.Travels.{outcome_of, message_of}
use Rattle.journal_laws.specs.Holds.{IsRecordOf}
use Rattle.journal_laws.specs.Moves.{Plans, PlansChange, plan_meaning}
use Rattle.journal_laws.specs.Whole.{whole, whole_slots, whole_out, pieces_by, SpellsAll}
use Rattle.journal_laws.proofs.Transitions.{all_fresh_again, accept_plans, again_plans, lost_plans, whole_plans}
use Rattle.held_contents.specs.Reading.{AreThere}
use Rattle.plan_limits.specs.Fit.{IsFitOutcome}
use Rattle.plan_limits.proofs.Rows.{FitOut, each_fit}
use Rattle.client_node.specs.declared.planning.Planned.{Planned}
use Rattle.client_node.specs.declared.waiting.Waiting.{Waiting}
use Rattle.client_node.specs.Answering.{outcome_in, IsThere, out_behind, asked_by}
use Rattle.client_node.specs.Answers.{record_at, held_at}
use Rattle.client_node.specs.Readied.{IsOfRow, IsReadied, IsIdleAt, IsIdle, Readies, SendsBack, Reacts, begins, taken_at}
use Rattle.client_node.proofs.AskedAgain.{out_there}
use Rattle.client_node.proofs.RowReady.{IsPlain, seen_is, last_is, opened_now, closed_now, whole_now, whole_here, fit_here, row_readied}

same_test : (n : ℕ) → (n == n) ≡ true
same_test n = grind (arith, nat_tests)

module _ (c : ℕ) (disk : ClientDisk) (means : LocalName → List ℕ) (table : ℕ) (row : List ℕ) (t : TableDisk) where
  -- the answer to the write of this number, where these are the row's slots
  abbrev step_of : ℕ → Outcome → Shape → Slots → Option InFlight → ClientStep
  step_of number outcome shape s None = ignored disk
  step_of number outcome shape s (Some out) = if out.number == number then outcome_taken c shape disk table row t s out (outcome_of outcome) else ignored disk

  pub step_is : (client number : ℕ) (outcome : Outcome) (shape : Shape) (o : Option InFlight)
      → response_taken c shape disk (record { client = client; table = table; row = row; number = number; outcome = outcome_of outcome }) t o ≡ step_of number outcome shape (slots_at t row) o
  step_is client number outcome shape None = refl
  step_is client number outcome shape (Some out) = refl

  -- the slots of a row behind an answer: this plan is begun, or no slot changes, and what is asked for is sent
  pub record IsBegun (number : ℕ) (outcome : Outcome) (slots : HeldSlots) : Type 0 where
    pub p : Plan
    pub p_table : p.table ≡ table
    pub p_last : p.last ≡ disk.last
    pub p_position : p.position ≡ None
    pub changes : IsSome (answered slots number (outcome_in outcome)).slots
    pub plain : AllByRecursion IsPlain (answered slots number (outcome_in outcome)).tells
    pub plans : PlansChange means c row slots (answered slots number (outcome_in outcome)) p
    pub step : (shape : Shape) → step_of number outcome shape (whole_slots means slots) (whole_slots means slots).out ≡ begun shape disk facts.Done p (asked_by means c table row t.position (answered slots number (outcome_in outcome)))

  pub record IsStill (number : ℕ) (outcome : Outcome) (slots : HeldSlots) : Type 0 where
    pub still : (answered slots number (outcome_in outcome)).slots ≡ None
    pub step : (shape : Shape) → step_of number outcome shape (whole_slots means slots) (whole_slots means slots).out ≡ record (ignored disk) { sends = asked_by means c table row t.position (answered slots number (outcome_in outcome)) }

  module _ (m : Option HeldMain) (s : Option HeldShadow) (k : Option HeldShadow) where
    abbrev of : HeldOut → HeldSlots
    of out = record { main = m; shadow = s; out = Some out; conflict = k }

    abbrev sent_again : HeldOut → Change
    sent_again out = record { slots = Some (record (of out) { out = Some (record out { whole = true; pieces = fresh_from 0 out.pieces }) }); tells = []; sends = send.Request }

    -- it is the write that waits
    answered_is : (out : HeldOut) (outcome : RowOutcome) → answered (of out) out.number outcome ≡ by_outcome (of out) out outcome
    answered_is out outcome = ap (λ (b : Bool). if b then by_outcome (of out) out outcome else unchanged send.Nothing) (same_test out.number)

    its_step : (out : HeldOut) (outcome : Outcome) (shape : Shape)
        → step_of out.number outcome shape (whole_slots means (of out)) (Some (whole_out means out)) ≡ outcome_taken c shape disk table row t (whole_slots means (of out)) (whole_out means out) (outcome_of outcome)
    its_step out outcome shape = ap (λ (b : Bool). if b then outcome_taken c shape disk table row t (whole_slots means (of out)) (whole_out means out) (outcome_of outcome) else ignored disk) (same_test out.number)

    module _ (out : HeldOut) (all : SpellsAll out) (version : ℕ) where
      abbrev acked : Plan
      acked = ack_plan c disk table row (whole_slots means (of out)) (whole_out means out) version

      accepted_case : (outcome : Outcome) → answered (of out) out.number (outcome_in outcome) ≡ accepted (of out) out version → PlansChange means c row (of out) (answered (of out) out.number (outcome_in outcome)) acked
          → ((shape : Shape) → outcome_taken c shape disk table row t (whole_slots means (of out)) (whole_out means out) (outcome_of outcome) ≡ begun shape disk facts.Done acked []) → IsBegun out.number outcome (of out)
      accepted_case outcome is plans step = record {
        p = acked;
        p_table = refl;
        p_last = refl;
        p_position = refl;
        changes = subst (λ (x : Change). IsSome x.slots) (sym is) refl;
        plain = subst (λ (x : Change). AllByRecursion IsPlain x.tells) (sym is) (tt, tt);
        plans = plans;
        step = λ shape. its_step out outcome shape ∙ (step shape ∙ ap (λ (x : Change). begun shape disk facts.Done acked (asked_by means c table row t.position x)) (sym is));
      }

    -- the write is refused for good, and what has changed is asked for
    refused_case : (out : HeldOut) (latest : ℕ) → IsBegun out.number (outcomes.Stale latest) (of out)
    refused_case out latest =
        let is : answered (of out) out.number (rows.Stale latest) ≡ refused (of out) out latest = answered_is out (rows.Stale latest) in
        record {
          p = lost_plan c disk table row (whole_slots means (of out)) (whole_out means out) latest;
          p_table = refl;
          p_last = refl;
          p_position = refl;
          changes = subst (λ (x : Change). IsSome x.slots) (sym is) refl;
          plain = subst (λ (x : Change). AllByRecursion IsPlain x.tells) (sym is) (tt, tt);
          plans = lost_plans c means disk table row (of out) out refl latest;
          step = λ shape. its_step out (outcomes.Stale latest) shape
              ∙ ap (λ (x : Change). begun shape disk facts.Done (lost_plan c disk table row (whole_slots means (of out)) (whole_out means out) latest) (asked_by means c table row t.position x)) (sym is);
        }

    -- no slot changes
    still_case : (out : HeldOut) (outcome : Outcome) (sends : Sending) → by_outcome (of out) out (outcome_in outcome) ≡ unchanged sends
        → ((shape : Shape) → outcome_taken c shape disk table row t (whole_slots means (of out)) (whole_out means out) (outcome_of outcome) ≡ record (ignored disk) { sends = asked_by means c table row t.position (unchanged sends) }) → IsStill out.number outcome (of out)
    still_case out outcome sends by step =
        let is : answered (of out) out.number (outcome_in outcome) ≡ unchanged sends = answered_is out (outcome_in outcome) ∙ by in
        record {
          still = ap (λ (x : Change). x.slots) is;
          step = λ shape. its_step out outcome shape ∙ (step shape ∙ ap (λ (x : Change). record (ignored disk) { sends = asked_by means c table row t.position x }) (sym is));
        }

    -- the write is sent again with all its chunks, once
    whole_case : (out : HeldOut) → SpellsAll out → (b : Bool) → out.whole ≡ b → IsBegun out.number outcomes.NeedWhole (of out) ⊎ IsStill out.number outcomes.NeedWhole (of out)
    whole_case out all true full =
        inr (still_case out outcomes.NeedWhole send.Nothing (ap (λ (b : Bool). if b then unchanged send.Nothing else sent_again out) full)
        (λ shape. ap (λ (b : Bool). if b then ignored disk else begun shape disk facts.Done (whole_plan disk table row (whole_slots means (of out)) (whole_out means out)) (request_for c table row (all_out (whole_out means out)) ∷ [])) full))
    whole_case out all false part =
        let is : answered (of out) out.number rows.NeedWhole ≡ sent_again out = answered_is out rows.NeedWhole ∙ ap (λ (b : Bool). if b then unchanged send.Nothing else sent_again out) part in
        let p : Plan = whole_plan disk table row (whole_slots means (of out)) (whole_out means out) in
        inl (record {
          p = p;
          p_table = refl;
          p_last = refl;
          p_position = refl;
          changes = subst (λ (x : Change). IsSome x.slots) (sym is) refl;
          plain = subst (λ (x : Change). AllByRecursion IsPlain x.tells) (sym is) tt;
          plans = whole_plans c means disk table row (of out) out refl all part;
          step = λ shape.
              its_step out outcomes.NeedWhole shape
              ∙ (ap (λ (b : Bool). if b then ignored disk else begun shape disk facts.Done p (request_for c table row (all_out (whole_out means out)) ∷ [])) part
              ∙ (ap (λ (l : List (List Piece)). begun shape disk facts.Done p (request_for c table row (record { number = out.number; read = out.read; base = out.base; content = whole means out.content; pieces = l; whole = true }) ∷ []))
              (sym (all_fresh_again out.pieces out.content (omega (arith, all))))
              ∙ ap (λ (x : Change). begun shape disk facts.Done p (asked_by means c table row t.position x)) (sym is)));
        })

    its : (out : HeldOut) → SpellsAll out → (outcome : Outcome) → IsBegun out.number outcome (of out) ⊎ IsStill out.number outcome (of out)
    its out all (outcomes.Accepted version) = inl (accepted_case out all version (outcomes.Accepted version) (answered_is out (rows.Accepted version)) (accept_plans c means disk table row (of out) out refl version all) (λ shape. refl))
    its out all (outcomes.Again version) = inl (accepted_case out all version (outcomes.Again version) (answered_is out (rows.Again version)) (again_plans c means disk table row (of out) out refl version all) (λ shape. refl))
    its out all (outcomes.Late last) = inr (still_case out (outcomes.Late last) send.Nothing refl (λ shape. refl))
    its out all (outcomes.Stale latest) = inl (refused_case out latest)
    its out all (outcomes.Conflict latest) = inr (still_case out (outcomes.Conflict latest) send.Pull refl (λ shape. refl))
    its out all outcomes.NeedWhole = whole_case out all out.whole refl

    -- it is, or another one
    which : (out : HeldOut) → SpellsAll out → (number : ℕ) (outcome : Outcome) (b : Bool) → (out.number == number) ≡ b → IsBegun number outcome (of out) ⊎ IsStill number outcome (of out)
    which out all number outcome true is = subst (λ (n : ℕ). IsBegun n outcome (of out) ⊎ IsStill n outcome (of out)) (eqb-true out.number number is) (its out all outcome)
    which out all number outcome false is = inr (record {
      still = ap (λ (b : Bool). (if b then by_outcome (of out) out (outcome_in outcome) else unchanged send.Nothing).slots) is;
      step = λ shape.
          ap (λ (b : Bool). if b then outcome_taken c shape disk table row t (whole_slots means (of out)) (whole_out means out) (outcome_of outcome) else ignored disk) is
          ∙ ap (λ (b : Bool). record (ignored disk) { sends = asked_by means c table row t.position (if b then by_outcome (of out) out (outcome_in outcome) else unchanged send.Nothing) }) (sym is);
    })

    pub response_case : (o : Option HeldOut) → IfSome o SpellsAll → (number : ℕ) (outcome : Outcome)
        → IsBegun number outcome (record { main = m; shadow = s; out = o; conflict = k }) ⊎ IsStill number outcome (record { main = m; shadow = s; out = o; conflict = k })
    response_case None all number outcome = inr (record { still = refl; step = λ shape. refl })
    response_case (Some out) all number outcome = which out all number outcome (out.number == number) refl

-- ---- what is asked for goes by what the names stand for

module _ (before now : LocalName → List ℕ) (c table : ℕ) (row : List ℕ) (position : ℕ) (slots : HeldSlots) where
  abbrev IsAskedSame : Change → Type 0
  IsAskedSame x = asked_by before c table row position x ≡ asked_by now c table row position x

  same_out : (out : HeldOut) (outcome : RowOutcome) → whole_out before out ≡ whole_out now out → IsAskedSame (by_outcome slots out outcome)
  same_out out (rows.Accepted version) same = refl
  same_out out (rows.Again version) same = refl
  same_out out (rows.Late last) same = refl
  same_out out (rows.Stale latest) same = refl
  same_out out (rows.Conflict latest) same = refl
  same_out out rows.NeedWhole same = pick out.whole
    where
      pick : (b : Bool) → IsAskedSame (if b then unchanged send.Nothing else (record { slots = Some (record slots { out = Some (record out { whole = true; pieces = fresh_from 0 out.pieces }) }); tells = []; sends = send.Request }))
      pick true = refl
      pick false =
          ap (λ (x : InFlight). request_for c table row (record { number = out.number; read = out.read; base = out.base; content = x.content; pieces = pieces_by out.content (fresh_from 0 out.pieces); whole = true }) ∷ []) same

  some_out : (x y : InFlight) → Some x ≡ Some y → x ≡ y
  some_out x y is = cc

  same_asked : (number : ℕ) (outcome : RowOutcome) (o : Option HeldOut) → option_map (whole_out before) o ≡ option_map (whole_out now) o → IsAskedSame (answered_out slots number outcome o)
  same_asked number outcome None same = refl
  same_asked number outcome (Some out) same = pick (out.number == number)
    where
      pick : (b : Bool) → IsAskedSame (if b then by_outcome slots out outcome else unchanged send.Nothing)
      pick true = same_out out outcome (some_out (whole_out before out) (whole_out now out) same)
      pick false = refl

-- the chunks of what waits behind an answer are those of what waited
module _ (meaning : LocalName → List ℕ) (d : ClientDevs) (slots : HeldSlots) where
  abbrev IsThereBehind : Change → Type 0
  IsThereBehind x = IsThere meaning d (out_behind x.slots)

  there_out : (out : HeldOut) (outcome : RowOutcome) → AreThere meaning d out.content → IsThereBehind (by_outcome slots out outcome)
  there_out out (rows.Accepted version) there = tt
  there_out out (rows.Again version) there = tt
  there_out out (rows.Late last) there = tt
  there_out out (rows.Stale latest) there = tt
  there_out out (rows.Conflict latest) there = tt
  there_out out rows.NeedWhole there = pick out.whole
    where
      pick : (b : Bool) → IsThereBehind (if b then unchanged send.Nothing else (record { slots = Some (record slots { out = Some (record out { whole = true; pieces = fresh_from 0 out.pieces }) }); tells = []; sends = send.Request }))
      pick true = tt
      pick false = there

  there_answered : (number : ℕ) (outcome : RowOutcome) (o : Option HeldOut) → IsThere meaning d o → IsThereBehind (answered_out slots number outcome o)
  there_answered number outcome None there = tt
  there_answered number outcome (Some out) there = pick (out.number == number)
    where
      pick : (b : Bool) → IsThereBehind (if b then by_outcome slots out outcome else unchanged send.Nothing)
      pick true = there_out out outcome there
      pick false = tt

waits_there : (meaning : LocalName → List ℕ) (d : ClientDevs) → NamedSlots meaning d → (table : ℕ) (row : List ℕ) → IsThere meaning d (held_at d table row).out
waits_there meaning d named table row = pick (held_at d table row).out refl
  where
    pick : (o : Option HeldOut) → (held_at d table row).out ≡ o → IsThere meaning d o
    pick None is = tt
    pick (Some out) is = out_there meaning d named table row (held_at d table row) refl out is

-- ---- as a prepared plan

module _ (d : ClientDevs) (c : ℕ) (response : SyncResponse) where
  -- the table isn't opened
  pub closed_readies : record_at d response.table ≡ None → Readies d c (kinds.SyncResponse response) None
  closed_readies none = record {
    none = λ _ w disk shape idle fit.
        ap (λ (x : ClientDisk). response_in c shape disk (record { client = response.client; table = response.table; row = response.row; number = response.number; outcome = outcome_of response.outcome }) (table_at x response.table)) (seen_is c d disk idle.stands idle.rests)
        ∙ ap (λ (o : Option TableDisk). response_in c shape disk (record { client = response.client; table = response.table; row = response.row; number = response.number; outcome = outcome_of response.outcome }) o) (closed_now c d disk idle.stands idle.rests response.table none);
    some = tt;
  }

  module _ (found : TableRecord) (opened : record_at d response.table ≡ Some found) (slots : HeldSlots) (here : slots ≡ held_at d response.table response.row) (last : ℕ) (number_is : last ≡ (redone d).last) (fit : IsFitOutcome (outcome_in response.outcome)) (made : RowPlan)
      (is : IsRowPlanOf slots (answered slots response.number (outcome_in response.outcome)) [] made)
      (asked : List messages.Send) (asks : (meaning : LocalName → List ℕ) → IsThere meaning d (out_behind made.change.slots) → asked ≡ asked_by meaning c response.table response.row found.position made.change) where
    abbrev now : HeldSlots
    now = held_at d response.table response.row

    is_now : IsRowPlanOf now (answered now response.number (outcome_in response.outcome)) [] made
    is_now = subst (λ (x : HeldSlots). IsRowPlanOf x (answered x response.number (outcome_in response.outcome)) [] made) here is

    module _ (w : Waiting) (disk : ClientDisk) (idle : IsIdleAt d c w disk) where
      abbrev t : TableDisk
      t = (opened_now c d disk idle.stands idle.rests response.table found opened).0

      abbrev means : LocalName → List ℕ
      means = plan_meaning idle.stands.0 (d.journal.greatest + 1) []

      whole_is : whole_slots means now ≡ slots_at t response.row
      whole_is =
          whole_now c d disk idle.stands idle.rests response.table response.row []
          ∙ ap (λ (o : Option TableDisk). slots_in o response.row) (opened_now c d disk idle.stands idle.rests response.table found opened).1

      taken_is : (shape : Shape) → taken_at c (kinds.SyncResponse response) shape disk ≡ step_of c disk means response.table response.row t response.number response.outcome shape (whole_slots means now) (whole_slots means now).out
      taken_is shape =
          let r : messages.Response = record { client = response.client; table = response.table; row = response.row; number = response.number; outcome = outcome_of response.outcome } in
          ap (λ (x : ClientDisk). response_in c shape disk r (table_at x response.table)) (seen_is c d disk idle.stands idle.rests)
          ∙ (ap (λ (o : Option TableDisk). response_in c shape disk r o) (opened_now c d disk idle.stands idle.rests response.table found opened).1
          ∙ (step_is c disk means response.table response.row t response.client response.number response.outcome shape (slots_at t response.row).out
          ∙ ap (λ (s : Slots). step_of c disk means response.table response.row t response.number response.outcome shape s s.out) (sym whole_is)))

      spells : IfSome now.out SpellsAll
      spells = (fit_here c d disk idle.stands idle.rests response.table response.row found opened).pieces

      the_case : IsBegun c disk means response.table response.row t response.number response.outcome now ⊎ IsStill c disk means response.table response.row t response.number response.outcome now
      the_case = response_case c disk means response.table response.row t now.main now.shadow now.conflict now.out spells response.number response.outcome

    -- what is asked for, from the position that the disk has
    asked_is : (w : Waiting) (disk : ClientDisk) (idle : IsIdleAt d c w disk) → asked_by (means w disk idle) c response.table response.row (t w disk idle).position (answered now response.number (outcome_in response.outcome)) ≡ asked
    asked_is w disk idle =
        let m = idle.stands.0 in
        let wholes : whole_slots (means w disk idle) now ≡ whole_slots idle.stands.0 now = whole_now c d disk idle.stands idle.rests response.table response.row [] ∙ sym (whole_here c d disk idle.stands idle.rests response.table response.row) in
        let there : IsThere idle.stands.0 d (out_behind made.change.slots) =
        subst (λ (x : Change). IsThere idle.stands.0 d (out_behind x.slots)) (sym is_now.change) (there_answered idle.stands.0 d now response.number (outcome_in response.outcome) now.out (waits_there idle.stands.0 d idle.stands.1.named response.table response.row)) in
        same_asked (means w disk idle) idle.stands.0 c response.table response.row (t w disk idle).position now response.number (outcome_in response.outcome) now.out (ap (λ (s : Slots). s.out) wholes)
        ∙ (ap (asked_by m c response.table response.row (t w disk idle).position) (sym is_now.change)
        ∙ (ap (λ (n : ℕ). asked_by m c response.table response.row n made.change) (sym (opened_now c d disk idle.stands idle.rests response.table found opened).2.position)
        ∙ sym (asks idle.stands.0 there)))

    pub still_reacts : made.change.slots ≡ None → SendsBack d c (kinds.SyncResponse response) asked
    still_reacts none = record {
      fits = λ w disk idle. tt;
      step = λ w disk shape idle. taken_is w disk idle shape ∙ pick w disk idle shape (the_case w disk idle);
    }
      where
        pick : (w : Waiting) (disk : ClientDisk) (idle : IsIdleAt d c w disk) (shape : Shape)
            → IsBegun c disk (means w disk idle) response.table response.row (t w disk idle) response.number response.outcome now ⊎ IsStill c disk (means w disk idle) response.table response.row (t w disk idle) response.number response.outcome now
            → step_of c disk (means w disk idle) response.table response.row (t w disk idle) response.number response.outcome shape (whole_slots (means w disk idle) now) (whole_slots (means w disk idle) now).out ≡ record (ignored disk) { sends = asked }
        pick w disk idle shape (inl b) = let no : (answered now response.number (outcome_in response.outcome)).slots ≡ None = ap (λ (x : Change). x.slots) (sym is_now.change) ∙ none in let wrong : IsSome {T = HeldSlots} None = subst (λ (o : Option HeldSlots). IsSome o) no b.changes in absurd cc
        pick w disk idle shape (inr i) = i.step shape ∙ ap (λ (l : List messages.Send). record (ignored disk) { sends = l }) (asked_is w disk idle)

    pub begun_reacts : length response.row ≡ 16
        → ((scheme : Scheme) (slots : HeldSlots) (event : SlotEvent) (count : ℕ) → AreKnown slots count (names_with event) → AreKnown slots count (tree_names (slots_behind scheme slots event)))
        → (planned : Planned) → IsOfRow c response.table response.row last None made asked planned → Readies d c (kinds.SyncResponse response) (Some planned)
    begun_reacts len known planned o = record {
      none = λ no. absurd cc;
      some = λ w disk idle. let its = its_plan w disk idle (the_case w disk idle) in (tt, its.0, its.1, its.2, its.3);
    }
      where
        its_plan : (w : Waiting) (disk : ClientDisk) (idle : IsIdleAt d c w disk)
            → IsBegun c disk (means w disk idle) response.table response.row (t w disk idle) response.number response.outcome now ⊎ IsStill c disk (means w disk idle) response.table response.row (t w disk idle) response.number response.outcome now
            → (p : Plan) × (sends : List messages.Send) × IsReadied d c idle.stands.0 disk planned p sends × ((shape : Shape) → taken_at c (kinds.SyncResponse response) shape disk ≡ begun shape disk facts.Done p sends)
        its_plan w disk idle (inl b) =
            let last_now : last ≡ disk.last = number_is ∙ last_is c d disk idle.stands idle.rests in
            let made_of : IsOfRow c response.table response.row disk.last None made asked planned = subst (λ (n : ℕ). IsOfRow c response.table response.row n None made asked planned) last_now o in
            let event : SlotEvent = Answer response.number (outcome_in response.outcome) in (
              b.p,
              asked,
              row_readied c d disk idle.stands idle.rests response.table response.row found opened w idle.steady Eventual event [] fit tt (known Eventual now event 0 (λ name has. absurd cc)) made is_now None tt asked planned made_of len (λ ordinal less. absurd (omega (arith, less))) tt b.p
                  b.p_table b.p_last b.p_position b.plain b.plans,
              λ shape. taken_is w disk idle shape ∙ (b.step shape ∙ ap (λ (l : List messages.Send). begun shape disk facts.Done b.p l) (asked_is w disk idle)),
            )
        its_plan w disk idle (inr i) = let no : None ≡ Some o.behind = sym i.still ∙ (ap (λ (x : Change). x.slots) (sym is_now.change) ∙ o.changes) in absurd cc

-- ---- an answer to a row of an opened table

none_is : {X : Type 0} (o : Option X) → is_some o ≡ false → o ≡ None
none_is None is = refl
none_is (Some x) is = absurd cc

some_is : {X : Type 0} (o : Option X) → is_some o ≡ true → o ≡ None → ⊥
some_is None is none = cc
some_is (Some x) is none = cc

module _ (d : ClientDevs) (c : ℕ) where
  countable_out : (meaning : LocalName → List ℕ) (table : Option TableRecord) (o : Option HeldOut) → IfSome o (FitOut meaning table) → IsCountableOut o
  countable_out meaning table None fit = tt
  countable_out meaning table (Some out) fit = fit.4.spelled.0

  pub countable_now : IsIdle d c → (table : ℕ) (row : List ℕ) (found : TableRecord) → record_at d table ≡ Some found → (slots : HeldSlots) → slots ≡ held_at d table row → AreCountable slots
  countable_now idle table row found opened slots here =
      let fit = fit_here c d idle.disk idle.at.stands idle.at.rests table row found opened in
      subst AreCountable (sym here) (countable_out idle.at.stands.0 (Some found) (held_at d table row).out (each_fit idle.at.stands.0 (Some found) (held_at d table row) fit).out)

  module _ (response : SyncResponse) (found : TableRecord) (opened : record_at d response.table ≡ Some found) (slots : HeldSlots) (here : slots ≡ held_at d response.table response.row) (last : ℕ) (number_is : last ≡ (redone d).last) (outcome : RowOutcome) (same : outcome ≡ outcome_in response.outcome) (fit : IsFitOutcome outcome)
      (made : RowPlan) (is : IsRowPlanOf slots (answered slots response.number outcome) [] made) where
    fits : IsFitOutcome (outcome_in response.outcome)
    fits = subst IsFitOutcome same fit

    made_of : IsRowPlanOf slots (answered slots response.number (outcome_in response.outcome)) [] made
    made_of = subst (λ (x : RowOutcome). IsRowPlanOf slots (answered slots response.number x) [] made) same is

    abbrev AreAsked : List messages.Send → Type 0
    AreAsked sends = (meaning : LocalName → List ℕ) → IsThere meaning d (out_behind made.change.slots) → sends ≡ asked_by meaning c response.table response.row found.position made.change

    pub row_still : (sends : List messages.Send) → AreAsked sends → is_some made.change.slots ≡ false → SendsBack d c (kinds.SyncResponse response) sends
    row_still sends sends_are none = still_reacts d c response found opened slots here last number_is fits made made_of sends sends_are (none_is made.change.slots none)

    pub row_reacts : length response.row ≡ 16 → ((scheme : Scheme) (slots : HeldSlots) (event : SlotEvent) (count : ℕ) → AreKnown slots count (names_with event) → AreKnown slots count (tree_names (slots_behind scheme slots event)))
        → (sends : List messages.Send) → AreAsked sends → is_some made.change.slots ≡ true → (o : Option Planned) → (o ≡ None → made.change.slots ≡ None) → IfSome o (IsOfRow c response.table response.row last None made sends)
        → Reacts d c (kinds.SyncResponse response) (begins o)
    row_reacts len known sends sends_are changes None none some = absurd (some_is made.change.slots changes (none refl))
    row_reacts len known sends sends_are changes (Some planned) none some =
        begun_reacts d c response found opened slots here last number_is fits made made_of sends sends_are len known planned some
