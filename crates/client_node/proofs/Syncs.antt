-- A synchronization of a table is that of the step table.
use Rattle.std.proofs.Common.{◌≡◌, ◌⊎◌, ⊎_elim, ℕ, ◌+◌, ◌++◌, Bool, true, false, List, [], ◌∷◌, length, Option, Some, None, Result, Ok, Err, refl, sym, ◌∙◌, ap, subst, arith}
use Rattle.std.specs.Prelude.{◌<◌, ◌^◌, map, option_map, IfSome, IsSome, IfOk, IfErr, OnOk, IsErrOf}
use Rattle.disk_trait.specs.Calls.{DiskState}
use Rattle.held_value.specs.declared.local_name.LocalName.{LocalName}
use Rattle.held_value.specs.declared.slots.Slots.{Slots as HeldSlots}
use Rattle.slot_store.specs.declared.held.TableRecord.{TableRecord}
use Rattle.client_journal.specs.declared.devs.Journal.{Journal}
use Rattle.client_journal.specs.Devs.{ClientDevs}
use Rattle.client_journal.specs.NamedSlots.{NamedSlots}
use Rattle.client_journal.specs.Plan.{plan_at_work}
use Rattle.client_journal.specs.Standing.{devs, writes_of}
use Rattle.step_tables.specs.Facts.{Answer, Refusal}
use Rattle.step_tables.specs.Facts as facts
use Rattle.step_tables.specs.Messages.{Send}
use Rattle.step_tables.specs.ClientMoves.{TableDisk, Plan, ClientDisk, ClientTask, ClientStep, RowOut, Slots, Shape, Sync, table_at, slots_at, slots_in, seen, begun, quiet, request_for, send_plan, row_out, first_to_send, resent, to_send, sync_first, sync_in, sync_step, is_before_link}
use Rattle.step_tables.specs.Travels.{send_of}
use Rattle.journal_laws.specs.Holds.{IsRecordOf}
use Rattle.journal_laws.specs.Whole.{whole_slots}
use Rattle.client_node.specs.declared.calls.sending.Synced.{Synced}
use Rattle.client_node.specs.declared.fault.CallFault.{CallFault}
use Rattle.client_node.specs.declared.fault.CallFault.TheVariants as call
use Rattle.client_node.specs.declared.planning.Planned.{Planned}
use Rattle.client_node.specs.declared.waiting.Waiting.{Waiting}
use Rattle.client_node.specs.Answers.{record_at, held_at, IsFault}
use Rattle.client_node.specs.Does.{refusal_in}
use Rattle.client_node.specs.Linked.{linked_step}
use Rattle.client_node.specs.Node.{StandsFor}
use Rattle.client_node.specs.NotedRows.{AreNotedRows}
use Rattle.client_node.specs.Readied.{IsReadied, IsIdleAt, IsIdle}
use Rattle.client_node.specs.Requesting.{all_asked_again, first_ready}
use Rattle.client_node.specs.Sending.{with_tasks, AreTasksOf}
use Rattle.client_node.specs.Steady.{IsSteadyTable}
use Rattle.client_node.specs.Syncing.{again_of, at_once, IsSendOf, IsNextOf, AreStale, Syncs, SendsAgain}
use Rattle.client_node.proofs.Links.{linked_by, before_link, link_down, opened_is, unopened_is}
use Rattle.client_node.proofs.Pulls.{no_refusal, same_refusal}
use Rattle.client_node.proofs.RowReady.{seen_is, opened_now, slots_here, whole_here, steady_here}
use Rattle.client_node.proofs.Synced.{AreFound, again_is, first_found}

module _ {D : Type 0} (state : D → DiskState) (client : Journal D) (c table : ℕ) (found : TableRecord) (opened : record_at (devs state client) table ≡ Some found) (waiting : Waiting) (outs ready : List (List ℕ)) (a : AreNotedRows waiting.outs table outs) (b : AreNotedRows waiting.ready table ready) (synced : Synced)
    (again : (meaning : LocalName → List ℕ) → NamedSlots meaning (devs state client) → map send_of synced.again.items ≡ all_asked_again meaning c (devs state client) table outs) (next : IsNextOf (devs state client) c table (first_ready (devs state client) table ready) synced.next) where
  abbrev d : ClientDevs
  d = devs state client

  module _ (disk : ClientDisk) (idle : IsIdleAt (devs state client) c waiting disk) where
    abbrev opened_as : (t : TableDisk) × (table_at disk table ≡ Some t) × IsRecordOf found t
    opened_as = opened_now c d disk idle.stands idle.rests table found opened

    abbrev t : TableDisk
    t = opened_as.0

    steady : IsSteadyTable waiting table t
    steady = steady_here c d disk idle.stands idle.rests table [] found opened waiting idle.steady

    same : (row : List ℕ) → whole_slots idle.stands.0 (held_at d table row) ≡ slots_in (Some t) row
    same row = whole_here c d disk idle.stands idle.rests table row ∙ ap (λ (o : Option TableDisk). slots_in o row) opened_as.1

    again_now : again_of synced ≡ resent c table t.rows
    again_now = again idle.stands.0 idle.stands.1.named ∙ sym (again_is state client c table idle.stands.0 waiting t steady same (slots_here c d disk idle.stands idle.rests table) outs a)

    found_now : AreFound idle.stands.0 d table (first_ready d table ready) (first_to_send t.rows)
    found_now = first_found state client c table idle.stands.0 waiting t steady same (slots_here c d disk idle.stands idle.rests table) ready b

    -- with its chunks spelled
    abbrev spelled_out : Option RowOut → Option RowOut
    spelled_out o = option_map (row_out t.schema.chunk) o

    step_now : (shape : Shape) → sync_step c shape disk (Some []) table ≡ sync_first c shape disk table (again_of synced) (spelled_out (first_to_send t.rows))
    step_now shape =
        ap (λ (x : ClientDisk). sync_in c shape disk [] table (table_at x table)) (seen_is c d disk idle.stands idle.rests)
        ∙ (ap (λ (o : Option TableDisk). sync_in c shape disk [] table o) opened_as.1 ∙ ap (λ (l : List Send). sync_first c shape disk table l (spelled_out (first_to_send t.rows))) (sym again_now))

    -- no row has something to send
    none_next : (f : Option (List ℕ × HeldSlots)) (y : Option RowOut) → IsNextOf (devs state client) c table f synced.next → AreFound idle.stands.0 d table f y → synced.next ≡ None → y ≡ None
    none_next None None n k none = refl
    none_next None (Some x) n k none = absurd k
    none_next (Some first) None n k none = absurd k
    none_next (Some first) (Some x) n k none = absurd (n.some none)

    some_next : (planned : Planned) (f : Option (List ℕ × HeldSlots)) (y : Option RowOut) → IsNextOf (devs state client) c table f (Some planned) → AreFound idle.stands.0 d table f y
        → (x : RowOut) × (y ≡ Some x) × IsReadied (devs state client) c idle.stands.0 disk planned (send_plan disk table (row_out t.schema.chunk x)) (request_for c table x.row (row_out t.schema.chunk x).out ∷ [])
    some_next planned None y n k = absurd cc
    some_next planned (Some first) None n k = absurd k
    some_next planned (Some first) (Some x) n k =
        let slots : x.slots ≡ slots_at t first.0 = k.slots_is ∙ (ap (λ (h : HeldSlots). whole_slots idle.stands.0 h) k.held_is ∙ same first.0) in
        let r = n.plan waiting disk idle t opened_as.1 x k.row_is slots (ap (λ (s : Slots). to_send s s.out s.main s.conflict) k.slots_is ∙ k.sends) in
        (x, refl, subst (λ (q : List ℕ). IsReadied (devs state client) c idle.stands.0 disk planned (send_plan disk table (row_out t.schema.chunk x)) (request_for c table q (row_out t.schema.chunk x).out ∷ [])) (sym k.row_is) r)

  pub syncs : Syncs (devs state client) c table waiting synced
  syncs = record {
    none = λ none disk shape idle.
        step_now disk idle shape ∙ ap (λ (o : Option RowOut). sync_first c shape disk table (again_of synced) (spelled_out disk idle o)) (none_next disk idle (first_ready d table ready) (first_to_send (t disk idle).rows) next (found_now disk idle) none);
    some = pick synced.next refl;
  }
    where
      pick : (o : Option Planned) → synced.next ≡ o
          → IfSome o (λ planned. (disk : ClientDisk) → (idle : IsIdleAt (devs state client) c waiting disk) → (p : Plan) × (sends : List Send) × IsReadied (devs state client) c idle.stands.0 disk planned p sends
          × ((shape : Shape) → sync_step c shape disk (Some []) table ≡ at_once (again_of synced) (begun shape disk (facts.Number (length (again_of synced) + 1)) p sends)))
      pick None is = tt
      pick (Some planned) is = λ disk idle.
          let n = some_next disk idle planned (first_ready d table ready) (first_to_send (t disk idle).rows) (subst (λ (o : Option Planned). IsNextOf (devs state client) c table (first_ready d table ready) o) is next) (found_now disk idle) in
          (send_plan disk table (row_out (t disk idle).schema.chunk n.0), request_for c table n.0.row (row_out (t disk idle).schema.chunk n.0).out ∷ [], n.2, λ shape. step_now disk idle shape ∙ ap (λ (o : Option RowOut). sync_first c shape disk table (again_of synced) (spelled_out disk idle o)) n.1)

-- ---- refusals

module _ {D : Type 0} (state : D → DiskState) (old : Journal D) (up : Bool) (c table : ℕ) (waiting : Waiting) where
  abbrev step_in : ClientDisk → List ClientTask → Shape → Option TableDisk → ClientStep
  step_in disk tasks shape o = linked_by up disk (Some tasks) (sync_in c shape disk tasks table o)

  -- a disk fault, or want of memory
  pub sync_fault : (e : CallFault) → IsFault e → SendsAgain state old up c table waiting (Err e)
  sync_fault e fault = record {
    syncs = tt;
    stale = tt;
    linked = tt;
    refused = λ disk tasks shape st of work refusal is. no_refusal e refusal fault is;
    unspent = λ last is. ⊎_elim (λ disk. let same : e ≡ call.Spent last = cc in cc) (λ memory. let same : e ≡ call.Spent last = cc in cc) fault;
  }

  pub sync_closed : (e : CallFault) → e ≡ call.NoTable → record_at (devs state old) table ≡ None → SendsAgain state old up c table waiting (Err e)
  sync_closed e same none = record {
    syncs = tt;
    stale = tt;
    linked = tt;
    refused = λ disk tasks shape st of work refusal is.
        let what : facts.NoTable ≡ refusal = same_refusal e call.NoTable refusal facts.NoTable same refl is in
        ap (λ (o : Option TableDisk). (step_in disk tasks shape o).answer) (unopened_is c (devs state old) disk st table none)
        ∙ (ap (λ (x : ClientStep). x.answer) (before_link up disk (Some tasks) (sync_in c shape disk tasks table None) refl) ∙ ap (λ (r : Refusal). facts.Refuses r) what);
    unspent = λ last is. cc;
  }

  module _ (found : TableRecord) (opened : record_at (devs state old) table ≡ Some found) where
    pub sync_busy : (e : CallFault) → (writes_of old ≡ [] → ⊥) → e ≡ call.Busy (plan_at_work (devs state old) (writes_of old)) → SendsAgain state old up c table waiting (Err e)
    sync_busy e busy same = record {
      syncs = tt;
      stale = tt;
      linked = tt;
      refused = λ disk tasks shape st of work refusal is.
          let with : ℕ = plan_at_work (devs state old) (writes_of old) in
          let what : facts.Busy with ≡ refusal = same_refusal e (call.Busy with) refusal (facts.Busy with) same refl is in
          let at = opened_is c (devs state old) disk st table found opened in
          ap (λ (o : Option TableDisk). (step_in disk tasks shape o).answer) at.1
          ∙ (at_work disk tasks shape at.0 (λ none. busy (of.some none)) ∙ (ap (λ (n : ℕ). facts.Refuses (facts.Busy n)) work ∙ ap (λ (r : Refusal). facts.Refuses r) what));
      unspent = λ last is. cc;
    }
      where
        at_work : (disk : ClientDisk) (tasks : List ClientTask) (shape : Shape) (t : TableDisk) → (tasks ≡ [] → ⊥) → (step_in disk tasks shape (Some t)).answer ≡ facts.Refuses (facts.Busy shape.plan)
        at_work disk [] shape t some = absurd (some refl)
        at_work disk (task ∷ more) shape t some = ap (λ (x : ClientStep). x.answer) (before_link up disk (Some (task ∷ more)) (sync_in c shape disk (task ∷ more) table (Some t)) refl)

    not_before : (shape : Shape) (disk : ClientDisk) (again : List Send) (o : Option RowOut) → is_before_link (sync_first c shape disk table again o).answer ≡ false
    not_before shape disk again None = refl
    not_before shape disk again (Some x) = refl

    pub sync_offline : (e : CallFault) → writes_of old ≡ [] → up ≡ false → e ≡ call.Offline → SendsAgain state old up c table waiting (Err e)
    sync_offline e idle down same = record {
      syncs = tt;
      stale = tt;
      linked = tt;
      refused = λ disk tasks shape st of work refusal is.
          let what : facts.Offline ≡ refusal = same_refusal e call.Offline refusal facts.Offline same refl is in
          let at = opened_is c (devs state old) disk st table found opened in
          ap (λ (o : Option TableDisk). (step_in disk tasks shape o).answer) at.1 ∙ (ap (λ (l : List ClientTask). (step_in disk l shape (Some at.0)).answer) (of.none idle)
          ∙ (ap (λ (x : ClientStep). x.answer) (link_down up disk (Some []) (sync_in c shape disk [] table (Some at.0)) down (not_before shape disk (resent c table at.0.rows) (option_map (row_out at.0.schema.chunk) (first_to_send at.0.rows)))) ∙ ap (λ (r : Refusal). facts.Refuses r) what));
      unspent = λ last is. cc;
    }

  pub sync_sent : (x : Synced) → up ≡ true → Syncs (devs state old) c table waiting x → AreStale (devs state old) table x.stale → SendsAgain state old up c table waiting (Ok x)
  sync_sent x linked s a = record { syncs = s; stale = a; linked = linked; refused = λ disk tasks shape st of work. tt; unspent = λ last is. cc }

-- an opened table has a small number
pub table_small : (d : ClientDevs) (c table : ℕ) → IsIdle d c → (found : TableRecord) → record_at d table ≡ Some found → table + 1 < 2 ^ 32
table_small d c table idle found opened =
    let most = (steady_here c d idle.disk idle.at.stands idle.at.rests table [] found opened idle.waiting idle.at.steady).numbered.most in
    omega (arith, most)

-- the requests and the plan of an opened table
pub syncs_of : {D : Type 0} (state : D → DiskState) (client : Journal D) (c table : ℕ) (found : TableRecord) → record_at (devs state client) table ≡ Some found → (waiting : Waiting) (outs ready : List (List ℕ)) → AreNotedRows waiting.outs table outs → AreNotedRows waiting.ready table ready → (synced : Synced)
    → ((meaning : LocalName → List ℕ) → NamedSlots meaning (devs state client) → map send_of synced.again.items ≡ all_asked_again meaning c (devs state client) table outs) → IsNextOf (devs state client) c table (first_ready (devs state client) table ready) synced.next → Syncs (devs state client) c table waiting synced
syncs_of state client c table found opened waiting outs ready a b synced again next = syncs state client c table found opened waiting outs ready a b synced again next

pub on_ok : {T : Type 0} (r : Result T CallFault) {P : Type 0} → P → OnOk r P
on_ok (Ok x) p = p
on_ok (Err e) p = tt

-- what an opened table sends, or why it doesn't
pub sync_done : {D : Type 0} (state : D → DiskState) (old : Journal D) (up : Bool) (c table : ℕ) (waiting : Waiting) (mid : Journal D) → devs state mid ≡ devs state old → up ≡ true → (r : Result Synced CallFault) → IfOk r (Syncs (devs state mid) c table waiting)
    → IfOk r (λ x. AreStale (devs state mid) table x.stale) → IfErr r IsFault → SendsAgain state old up c table waiting r
sync_done state old up c table waiting mid same linked (Ok x) s a fault =
    sync_sent state old up c table waiting x linked (subst (λ (d : ClientDevs). Syncs d c table waiting x) same s) (subst (λ (d : ClientDevs). AreStale d table x.stale) same a)
sync_done state old up c table waiting mid same linked (Err e) s a fault = sync_fault state old up c table waiting e fault
