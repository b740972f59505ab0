-- Rows that wait no longer are taken off: what waits is still noted.
use Rattle.std.proofs.Common.{◌≡◌, ◌⊎◌, inl, inr, ⊎_elim, ℕ, Bool, true, false, not, List, [], ◌∷◌, Option, Some, None, Result, Ok, Err, refl, sym, ◌∙◌, ap, subst}
use Rattle.std.specs.Prelude.{◌+◌, ◌&&◌, ◌||◌, length, IfSome, IsSome, is_some, option_map}
use Rattle.std.specs.List.{AllByRecursion}
use Rattle.std.specs.BTreeMap.{is_at}
use Rattle.std.specs.BTreeSet.{BTreeSet, contains}
use Rattle.disk_trait.specs.Image.{IsImage}
use Rattle.disk_trait.specs.Calls.{DiskState}
use Rattle.disk_trait.specs.Fuse.{behind, inner_of}
use Rattle.disk_trait.specs.declared.fuse.FuseDisk.{FuseDisk}
use Rattle.held_value.specs.declared.slots.Slots.{Slots as HeldSlots}
use Rattle.slot_store.specs.declared.held.RowKey.{RowKey}
use Rattle.slot_store.specs.Data.{key_cmp, key_at}
use Rattle.slot_store.proofs.Keys.{equal_is, one_key}
use Rattle.client_tables.specs.Transitions.{can_send}
use Rattle.client_journal.specs.declared.devs.Journal.{Journal}
use Rattle.client_journal.specs.Devs.{ClientDevs}
use Rattle.client_journal.specs.Standing.{devs, writes_of}
use Rattle.step_tables.specs.Messages.{Send}
use Rattle.step_tables.specs.Facts.{Answer}
use Rattle.step_tables.specs.Facts as facts
use Rattle.step_tables.specs.ClientMoves.{Slots, TableDisk, Plan, ClientDisk, ClientTask, ClientMove, Client, Shape, table_at, slots_at, slots_in, to_send, begun, sync_step}
use Rattle.journal_laws.specs.Whole.{whole_slots, whole_out, whole_shadow}
use Rattle.client_node.specs.declared.calls.sending.Synced.{Synced}
use Rattle.client_node.specs.declared.fault.CallFault.{CallFault}
use Rattle.client_node.specs.declared.node.ClientNode.{ClientNode}
use Rattle.client_node.specs.declared.planning.Planned.{Planned}
use Rattle.client_node.specs.declared.preparing.Prepared.{Prepared}
use Rattle.client_node.specs.declared.waiting.Stale.{Stale}
use Rattle.client_node.specs.declared.waiting.Waiting.{Waiting}
use Rattle.client_node.specs.Answers.{held_at}
use Rattle.client_node.specs.Calls.{Stays}
use Rattle.client_node.specs.Does.{Does}
use Rattle.client_node.specs.Listing.{AreCalm}
use Rattle.client_node.specs.Node.{IsAt, IsClient, IsWorking}
use Rattle.client_node.specs.Preparing.{IsCalled, Prepares}
use Rattle.client_node.specs.Readied.{IsIdleAt, IsReadied}
use Rattle.client_node.specs.Requesting.{NoneWaits, NoneSends, ArePassed}
use Rattle.client_node.specs.Steady.{IsNoted, IsSteadyTable, IsSteadyPlan, IsSteady, AreSteady}
use Rattle.client_node.specs.Syncing.{AreStale, Syncs, SendsAgain, again_of, at_once}
use Rattle.client_node.specs.Waiting.{IsMore, is_key_of, TakesOff}
use Rattle.client_node.proofs.NotedPlans.{sends_whole}
use Rattle.client_node.proofs.Passed.{passed_wait}
use Rattle.client_node.proofs.RowReady.{plan_none, whole_here}
use Rattle.client_node.proofs.Sent.{tasks_of_writes}
use Rattle.client_node.proofs.Steadies.{steady_more, tasks_more}
use Rattle.client_node.proofs.TakenOff.{none_off}
use Rattle.client_node.proofs.TakenPlans.{idle_at}

either : (a b : Bool) → (a || b) ≡ true → (a ≡ true) ⊎ (b ≡ true)
either true b e = inl refl
either false b e = inr e

first_of : (a b : Bool) → (a && b) ≡ true → a ≡ true
first_of true b e = refl
first_of false b e = absurd cc

kept_of : (known off : Bool) → known ≡ true → (off ≡ true → ⊥) → (known && not off) ≡ true
kept_of true true is isnt = absurd (isnt refl)
kept_of true false is isnt = refl
kept_of false off is isnt = absurd cc

-- a key of some rows has what each of these has
key_among : (P : List ℕ → Type 0) (table number : ℕ) (row : List ℕ) (rows : List (List ℕ)) → AllByRecursion P rows → is_key_of table rows (key_at number row) ≡ true → (number ≡ table) × P row
key_among P table number row [] all is = absurd cc
key_among P table number row (r ∷ rows) all is = pick (either (is_at (key_cmp (key_at table r)) (key_at number row)) (is_key_of table rows (key_at number row)) is) (key_among P table number row rows all.1)
  where
    pick : (is_at (key_cmp (key_at table r)) (key_at number row) ≡ true) ⊎ (is_key_of table rows (key_at number row) ≡ true) → (is_key_of table rows (key_at number row) ≡ true → (number ≡ table) × P row) → (number ≡ table) × P row
    pick (inl at) later =
        let same : key_at table r ≡ key_at number row = one_key (key_at table r) (key_at number row) (equal_is (key_cmp (key_at table r) (key_at number row)) at) in
        (sym (ap (λ (k : RowKey). k.table) same), subst P (ap (λ (k : RowKey). k.row) same) all.0)
    pick (inr later_is) later = later later_is

-- ---- fewer rows are noted

-- Rows of a table are taken off: those that wait for no answer, those that have nothing to send, those in no conflict.
pub record IsLess (d : ClientDevs) (table : ℕ) (old new : Waiting) : Type 0 where
  pub outs : List (List ℕ)
  pub ready : List (List ℕ)
  pub conflicts : List (List ℕ)
  pub none_waits : NoneWaits d table outs
  pub none_sends : NoneSends d table ready
  pub calm : AreCalm d table conflicts
  pub outs_off : TakesOff table outs old.outs new.outs
  pub ready_off : TakesOff table ready old.ready new.ready
  pub conflicts_off : TakesOff table conflicts old.conflicts new.conflicts

pub stale_less : (d : ClientDevs) (table : ℕ) (old new : Waiting) (stale : Stale) → AreStale d table stale → TakesOff table stale.outs.items old.outs new.outs → TakesOff table stale.ready.items old.ready new.ready → new.conflicts ≡ old.conflicts → IsLess d table old new
stale_less d table old new stale s o r k = record {
  outs = stale.outs.items;
  ready = stale.ready.items;
  conflicts = [];
  none_waits = s.outs;
  none_sends = s.ready;
  calm = tt;
  outs_off = o;
  ready_off = r;
  conflicts_off = none_off table old.conflicts new.conflicts k;
}

outs_less : (d : ClientDevs) (table : ℕ) (old new : Waiting) (rows : List (List ℕ)) → NoneWaits d table rows → TakesOff table rows old.outs new.outs → new.ready ≡ old.ready → new.conflicts ≡ old.conflicts → IsLess d table old new
outs_less d table old new rows none o r k = record {
  outs = rows;
  ready = [];
  conflicts = [];
  none_waits = none;
  none_sends = tt;
  calm = tt;
  outs_off = o;
  ready_off = none_off table old.ready new.ready r;
  conflicts_off = none_off table old.conflicts new.conflicts k;
}

calm_less : (d : ClientDevs) (table : ℕ) (old new : Waiting) (rows : List (List ℕ)) → AreCalm d table rows → new.outs ≡ old.outs → new.ready ≡ old.ready → TakesOff table rows old.conflicts new.conflicts → IsLess d table old new
calm_less d table old new rows calm o r k = record {
  outs = [];
  ready = [];
  conflicts = rows;
  none_waits = tt;
  none_sends = tt;
  calm = calm;
  outs_off = none_off table old.outs new.outs o;
  ready_off = none_off table old.ready new.ready r;
  conflicts_off = k;
}

-- what is left was there
pub less_more : (d : ClientDevs) (table : ℕ) (old new : Waiting) → IsLess d table old new → IsMore new old
less_more d table old new l = record {
  outs = λ key is. first_of _ _ (sym (l.outs_off key) ∙ is);
  ready = λ key is. first_of _ _ (sym (l.ready_off key) ∙ is);
  conflicts = λ key is. first_of _ _ (sym (l.conflicts_off key) ∙ is);
}

none_isnt : {X : Type 0} (o : Option X) → o ≡ None → IsSome o → ⊥
none_isnt None none is = cc
none_isnt (Some x) none is = cc

isnt_some : {X : Type 0} (o : Option X) → is_some o ≡ false → IsSome o → ⊥
isnt_some None none is = cc
isnt_some (Some x) none is = cc

module _ (d : ClientDevs) (c : ℕ) (old new : Waiting) (table : ℕ) (l : IsLess d table old new) (disk : ClientDisk) (idle : IsIdleAt d c old disk) where
  -- the slots of a row of the table
  same_slots : (number : ℕ) (row : List ℕ) (slots : Slots) → slots ≡ slots_in (table_at disk number) row → number ≡ table → slots ≡ whole_slots idle.stands.0 (held_at d table row)
  same_slots number row slots is at = is ∙ (ap (λ (n : ℕ). slots_in (table_at disk n) row) at ∙ sym (whole_here c d disk idle.stands idle.rests table row))

  noted_less : (number : ℕ) (row : List ℕ) (slots : Slots) → slots ≡ slots_in (table_at disk number) row → IsNoted old number row slots → IsNoted new number row slots
  noted_less number row slots is h = record {
    sent = λ some. l.outs_off (key_at number row) ∙ kept_of _ _ (h.sent some) (λ off.
        let k = key_among (λ (q : List ℕ). (held_at d table q).out ≡ None) table number row l.outs l.none_waits off in
        none_isnt slots.out (ap (λ (x : Slots). x.out) (same_slots number row slots is k.0) ∙ ap (option_map (whole_out idle.stands.0)) k.1) some);
    ready = λ some. l.ready_off (key_at number row) ∙ kept_of _ _ (h.ready some) (λ off.
        let k = key_among (λ (q : List ℕ). can_send (held_at d table q) ≡ false) table number row l.ready l.none_sends off in
        isnt_some (to_send slots slots.out slots.main slots.conflict)
        (ap (λ (x : Slots). is_some (to_send x x.out x.main x.conflict)) (same_slots number row slots is k.0) ∙ (sym (sends_whole idle.stands.0 (held_at d table row)) ∙ k.1)) some);
    conflict = λ some. l.conflicts_off (key_at number row) ∙ kept_of _ _ (h.conflict some) (λ off.
        let k = key_among (λ (q : List ℕ). (held_at d table q).conflict ≡ None) table number row l.conflicts l.calm off in
        none_isnt slots.conflict (ap (λ (x : Slots). x.conflict) (same_slots number row slots is k.0) ∙ ap (option_map (whole_shadow idle.stands.0)) k.1) some);
    sized = h.sized;
  }

  table_less : (number : ℕ) (t : Option TableDisk) → table_at disk number ≡ t → IfSome t (IsSteadyTable old number) → IfSome t (IsSteadyTable new number)
  table_less number None is h = tt
  table_less number (Some t) is h = record {
    numbered = h.numbered;
    spelled = h.spelled;
    short = h.short;
    rising = h.rising;
    noted = λ row. noted_less number row (slots_at t row) (ap (λ (x : Option TableDisk). slots_in x row) (sym is)) (h.noted row);
  }

  pub steady_less : IsSteady new disk
  steady_less = record {
    few = idle.steady.few;
    rising = idle.steady.rising;
    each = λ number. table_less number (table_at disk number) refl (idle.steady.each number);
    plan = subst (λ (p : Option Plan). IfSome p (IsSteadyPlan new)) (sym (plan_none c d disk idle.stands idle.rests)) tt;
  }

-- ---- what a synchronization sends, with fewer rows noted

module _ {D : Type 0} (state : D → DiskState) (old : Journal D) (up : Bool) (c table : ℕ) (w less : Waiting) (m : IsMore less w) where
  abbrev d : ClientDevs
  d = devs state old

  abbrev idle_more : (disk : ClientDisk) → IsIdleAt d c less disk → IsIdleAt d c w disk
  idle_more disk i = record { stands = i.stands; rests = i.rests; steady = steady_more less w m disk i.steady }

  abbrev SomeSyncs : Waiting → Synced → Option Planned → Type 0
  SomeSyncs v x next = IfSome next (λ planned. (disk : ClientDisk) → (idle : IsIdleAt d c v disk) → (p : Plan) × (sends : List Send) × IsReadied d c idle.stands.0 disk planned p sends
      × ((shape : Shape) → sync_step c shape disk (Some []) table ≡ at_once (again_of x) (begun shape disk (facts.Number (length (again_of x) + 1)) p sends)))

  some_less : (x : Synced) (next : Option Planned) → SomeSyncs w x next → SomeSyncs less x next
  some_less x None h = tt
  some_less x (Some planned) h = λ disk idle. h disk (idle_more disk idle)

  pub sends_less : (r : Result Synced CallFault) → SendsAgain state old up c table w r → SendsAgain state old up c table less r
  sends_less (Ok x) h = record {
    syncs = record { none = λ none disk shape idle. h.syncs.none none disk shape (idle_more disk idle); some = some_less x x.next h.syncs.some };
    stale = h.stale;
    linked = h.linked;
    refused = h.refused;
    unspent = h.unspent;
  }
  sends_less (Err e) h = record { syncs = tt; stale = tt; linked = h.linked; refused = h.refused; unspent = h.unspent }

-- ---- what a write comes to, with fewer rows noted

module _ {D : Type 0} (state : D → DiskState) (old : Journal D) (w less : Waiting) (m : IsMore less w) (phase : ℕ → Bool) (linked : Bool) (c : ℕ) (move : ClientMove) where
  called_more : (disk : ClientDisk) (tasks : List ClientTask) (shape : Shape) → IsCalled state old less c disk tasks shape → IsCalled state old w c disk tasks shape
  called_more disk tasks shape k = record { stands = k.stands; steady = steady_more less w m disk k.steady; rests = k.rests; tasks_are = k.tasks_are; work = k.work }

  pub prepares_less : (r : Result Prepared CallFault) → Prepares state old w phase linked c move r → Prepares state old less phase linked c move r
  prepares_less (Ok x) h = record {
    refused = λ disk tasks shape k. tt;
    spent = h.spent;
    idle = h.idle;
    prepared = λ disk idle. h.prepared disk (record { stands = idle.stands; rests = idle.rests; steady = steady_more less w m disk idle.steady });
  }
  prepares_less (Err e) h = record {
    refused = λ disk tasks shape k. h.refused disk tasks shape (called_more disk tasks shape k);
    spent = h.spent;
    idle = tt;
    prepared = λ disk idle. tt;
  }

-- ---- the node

module _ {D : Type 0} (state : D → DiskState) (images : D → ℕ → List ℕ → Type 0) (only_now : (disk : FuseDisk D) (image : List ℕ) → images (inner_of disk) (behind state disk).moment image → IsImage (behind state disk).pending image) (old : ClientNode D) (is_up : old.is_up ≡ true) (less : Waiting) where
  abbrev here : ClientDevs
  here = devs (λ f. behind state f) old.devs

  abbrev kept : ClientNode D
  kept = record old { waiting = less }

  -- what is kept by each working node with these writes is kept by the node
  working : (disk : ClientDisk) (tasks : List ClientTask) → IsWorking state old disk tasks → IsSteady less disk → AreSteady less tasks → IsWorking state kept disk tasks
  working disk tasks h steady tasks_steady = record {
    declared = h.declared;
    up = h.up;
    fresh = h.fresh;
    ready = h.ready;
    follows = h.follows;
    rests = h.rests;
    steady = steady;
    tasks_steady = tasks_steady;
    owed = h.owed;
    fact_room = h.fact_room;
    message_room = h.message_room;
  }

  of_agenda : (s : Client) (agenda : Option (List ClientTask)) → s.agenda ≡ agenda → IsClient state old s → ((tasks : List ClientTask) → agenda ≡ Some tasks → IsClient state old (record { disk = s.disk; agenda = Some tasks }) → IsWorking state kept s.disk tasks) → IsClient state kept s
  of_agenda s None is t works = let no = (subst (λ (a : Option (List ClientTask)). IsAt state old s.disk a) is t.at).0 in absurd cc
  of_agenda s (Some tasks) is t works =
      let h : IsAt state old s.disk (Some tasks) = subst (λ (a : Option (List ClientTask)). IsAt state old s.disk a) is t.at in
      record { at = subst (λ (a : Option (List ClientTask)). IsAt state kept s.disk a) (sym is) (h.0, works tasks refl (record { at = h })) }

  -- as many rows are noted
  client_more : IsMore old.waiting less → (s : Client) → IsClient state old s → IsClient state kept s
  client_more m s t = of_agenda s s.agenda refl t (λ tasks is t. working s.disk tasks t.at.1 (steady_more old.waiting less m s.disk t.at.1.steady) (tasks_more old.waiting less m tasks t.at.1.tasks_steady))

  module _ (idle : writes_of old.devs ≡ []) (table : ℕ) (l : IsLess here table old.waiting less) where
    idle_works : (disk : ClientDisk) (tasks : List ClientTask) → IsClient state old (record { disk = disk; agenda = Some tasks }) → IsWorking state kept disk tasks
    idle_works disk [] t = working disk [] t.at.1 (steady_less here old.number old.waiting less table l disk (idle_at state images only_now old disk t is_up idle)) tt
    idle_works disk (task ∷ more) t = absurd (let none = (tasks_of_writes old.number here (writes_of old.devs) disk (task ∷ more) t.at.1.follows).none idle in cc)

    pub client_less : (s : Client) → IsClient state old s → IsClient state kept s
    client_less s t = of_agenda s s.agenda refl t (λ tasks is t. idle_works s.disk tasks t)

  -- rows that were passed over are taken off, where none was at a node with writes to do
  module _ (table : ℕ) (rows : List (List ℕ)) (passed : ArePassed here (writes_of old.devs) table rows) (off : TakesOff table rows old.waiting.outs less.outs) (same_ready : less.ready ≡ old.waiting.ready) (same_conflicts : less.conflicts ≡ old.waiting.conflicts) where
    passed_less : IsLess here table old.waiting less
    passed_less = outs_less here table old.waiting less rows (passed_wait here (writes_of old.devs) table rows passed) off same_ready same_conflicts

    more_by : (some : List (List ℕ)) → some ≡ rows → ArePassed here (writes_of old.devs) table some → (IsMore old.waiting less) ⊎ (writes_of old.devs ≡ [])
    more_by [] is p = inl (record {
      outs = λ key h. subst (λ (l : List (List ℕ)). TakesOff table l old.waiting.outs less.outs) (sym is) off key ∙ kept_of _ false h (λ no. absurd cc);
      ready = λ key h. ap (λ (s : BTreeSet RowKey). contains key_cmp s key) same_ready ∙ h;
      conflicts = λ key h. ap (λ (s : BTreeSet RowKey). contains key_cmp s key) same_conflicts ∙ h;
    })
    more_by (row ∷ more) is p = inr p.0.0

    -- the node is as it was, and no row more is noted
    pub record IsPassedOver : Type 0 where
      pub client : (s : Client) → IsClient state old s → IsClient state kept s
      pub more : IsMore less old.waiting

    pub passed_over : IsPassedOver
    passed_over = record {
      client = λ s t. ⊎_elim (λ m. client_more m s t) (λ idle. client_less idle table passed_less s t) (more_by rows refl passed);
      more = less_more here table old.waiting less passed_less;
    }

  -- rows in no conflict are taken off
  pub client_calm : writes_of old.devs ≡ [] → (table : ℕ) (rows : List (List ℕ)) → AreCalm here table rows → less.outs ≡ old.waiting.outs → less.ready ≡ old.waiting.ready → TakesOff table rows old.waiting.conflicts less.conflicts
      → (s : Client) → IsClient state old s → IsClient state kept s
  client_calm idle table rows calm o r k = client_less idle table (calm_less here table old.waiting less rows calm o r k)

-- what a call promises of the node with fewer rows noted it promises of this one
module _ {D : Type 0} (state : D → DiskState) (images : D → ℕ → List ℕ → Type 0) (old : ClientNode D) (less : Waiting) where
  abbrev fewer : ClientNode D
  fewer = record old { waiting = less }

  stays_less : (new : ClientNode D) (c : Client) → Stays state fewer new c → Stays state old new c
  stays_less new c h = record { client = h.client; told = h.told; sent = h.sent; same = record { number = h.same.number; linked = h.same.linked } }

  pub does_less : {T : Type 0} (c : Client) (move : ClientMove) (said : T → Answer) (new : ClientNode D) (r : Result T CallFault) → Does {T = T} state images c move said fewer new r → Does {T = T} state images c move said old new r
  does_less c move said new (Ok value) h =
      let b = h.done.2 in
      record {
        done = (h.done.0, record { plan = h.done.1.plan }, record { client = b.client; told = b.told; sent = b.sent; same = record { number = b.same.number; linked = b.same.linked } }, h.done.3);
        refused = tt;
        spent = h.spent;
        kept = λ no. tt;
        fallen = λ is. stays_less new (record { disk = c.disk; agenda = None }) (h.fallen is);
        counted = h.counted;
        cause = h.cause;
        any_moment = h.any_moment;
        plans = h.plans;
      }
  does_less c move said new (Err e) h = record {
    done = tt;
    refused = λ refusal shape is of. h.refused refusal shape is (record { plan = of.plan });
    spent = h.spent;
    kept = λ no. stays_less new c (h.kept no);
    fallen = λ is. stays_less new (record { disk = c.disk; agenda = None }) (h.fallen is);
    counted = h.counted;
    cause = h.cause;
    any_moment = h.any_moment;
    plans = h.plans;
  }

-- and what it promised of a node it promises of that node with fewer rows noted
module _ {D : Type 0} (state : D → DiskState) (images : D → ℕ → List ℕ → Type 0) (old mid : ClientNode D) (less : Waiting) where
  pub does_after : {T : Type 0} (c : Client) (move : ClientMove) (said : T → Answer) (x : T) → Does {T = T} state images c move said old mid (Ok x) → ((s : Client) → IsClient state mid s → IsClient state (record mid { waiting = less }) s)
      → Does {T = T} state images c move said old (record mid { waiting = less }) (Ok x)
  does_after c move said x h keeps =
      let b = h.done.2 in
      record {
        done = (h.done.0, h.done.1, record { client = keeps _ b.client; told = b.told; sent = b.sent; same = record { number = b.same.number; linked = b.same.linked } }, h.done.3);
        refused = tt;
        spent = h.spent;
        kept = λ no. tt;
        fallen = λ is. absurd cc;
        counted = h.counted;
        cause = h.cause;
        any_moment = h.any_moment;
        plans = h.plans;
      }
