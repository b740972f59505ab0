-- What a move of a table, as a message for it, or a look at a row, comes to at its Store.
use Rattle.std.proofs.Common.{◌≡◌, ℕ, Bool, true, false, List, [], ◌∷◌, ◌++◌, Option, Some, None, Result, Ok, Err, refl, sym, ◌∙◌, ap, subst, append-nil, append_assoc}
use Rattle.std.specs.Prelude.{if◌then◌else◌, ◌||◌, ◌&&◌, ◌==◌, nat_lt, option_map, IfOk, IfErr, is_some}
use Rattle.std.specs.Ordering.{nat_cmp}
use Rattle.std.specs.BTreeMap.{insert_entry}
use Rattle.std.proofs.lemmas.List.Elements.{filter-append}
use Rattle.disk_trait.specs.Calls.{DiskState}
use Rattle.stab_base.specs.declared.node.Node.{Node}
use Rattle.stab_base.specs.declared.node.Node.TheVariants as nodes
use Rattle.row_value.specs.declared.schema.Scheme.{Scheme}
use Rattle.table_model.specs.declared.entry.Entry.{Entry}
use Rattle.table_model.specs.declared.line.Answer.{Answer}
use Rattle.step_tables.specs.declared.message.Message.{Message}
use Rattle.step_tables.specs.declared.message.Message.TheVariants as kinds
use Rattle.step_tables.specs.Facts as facts
use Rattle.step_tables.specs.Lines.{answer_of}
use Rattle.step_tables.specs.Messages.{Luck, Request, Pair}
use Rattle.step_tables.specs.Messages as messages
use Rattle.step_tables.specs.Store.{Stored, current_of}
use Rattle.step_tables.specs.Chunks.{is_spelled}
use Rattle.step_tables.specs.StoreMoves.{StoreDisk, StoreTask, StoreMove, StoreStep, SidePut, Take, Place, store_step, taken, asked, decided, judged, takes, keeps_there, version_of, version_at}
use Rattle.step_tables.specs.StoreMoves.{yours_in}
use Rattle.step_tables.specs.StoreMoves as store
use Rattle.store_node.specs.Calls.{IsAtWork}
use Rattle.store_node.specs.Reading.{shown_of}
use Rattle.store_node.specs.declared.showing.ShownRow.{ShownRow}
use Rattle.store_host.specs.declared.host.StoreHost.{StoreHost}
use Rattle.store_host.specs.Holds.{HoldsStore, outs_of, outs_in, says_something, said_by}
use Rattle.store_host.specs.Calls.{IsMoved, IsBusyWith, IsSpentIn}
use Rattle.world_tables.specs.World.{World, Moved, Outbox, Packet, Hosted, owner_of, hosted_at, schema_at, scheme_in, chunk_in, still, and_then, failing, is_fault, table_step}
use Rattle.world_tables.specs.World.{after_table, answering, move_table, move_hosted, store_falls, store_follows, has_node}
use Rattle.world_tables.specs.World.{table_follows, is_at_work, to_hosted, take_at, row_shown}
use Rattle.node_steps.specs.declared.fault.WorldFault.{WorldFault}
use Rattle.node_steps.specs.declared.fault.WorldFault.TheVariants.{Limit as LimitPassed}
use Rattle.node_steps.specs.Steps.{IsFull}
use Rattle.node_steps.specs.Outs.{IsAnswered, IsTakenAs, read_moves}
use Rattle.node_steps.proofs.Showing.{some_of}
use Rattle.node_steps.proofs.Staying.{entry_kept, store_stays}
use Rattle.node_steps.proofs.Going.{still_goes, then_goes, failing_goes, table_goes, table_follows_goes, store_falls_goes, owners_stay}

-- ---- what an idle table answers

judged_done : (g : Scheme) (size table : ℕ) (d : StoreDisk) (from : Node) (q : Request) (current : ℕ) → (judged g size table d from q current).answer ≡ facts.Done
judged_done g size table d from q current = go (takes g q.base current && keeps_there size d.items q)
  where
    go : (b : Bool) → (if b then store.quiet d (Some (store.accepting size table d.items from q (store.item_for d.items q))) facts.Done
        else store.sending d (store.responded from q (store.unaccepted g q.base current) ∷ [])).answer ≡ facts.Done
    go true = refl
    go false = refl

decided_done : (g : Scheme) (size table : ℕ) (d : StoreDisk) (from : Node) (q : Request) (yours : Pair) → (decided g size table d from q yours).answer ≡ facts.Done
decided_done g size table d from q yours = first (yours.number == q.number)
  where
    second : (b : Bool) → (if b then store.sending d (store.responded from q (messages.Late yours.number) ∷ []) else judged g size table d from q (version_of (current_of d.items q.row))).answer ≡
        facts.Done
    second true = refl
    second false = judged_done g size table d from q (version_of (current_of d.items q.row))

    first : (b : Bool) → (if b then store.sending d (store.responded from q (messages.Again yours.version) ∷ [])
        else (if nat_lt q.number yours.number then store.sending d (store.responded from q (messages.Late yours.number) ∷ []) else judged g size table d from q
        (version_of (current_of d.items q.row)))).answer
        ≡ facts.Done
    first true = refl
    first false = second (nat_lt q.number yours.number)

asked_done : (g : Scheme) (size table : ℕ) (d : StoreDisk) (from : Node) (q : Request) → (asked g size table d from q).answer ≡ facts.Done
asked_done g size table d from q = go (is_spelled size q.content q.pieces)
  where
    go : (b : Bool) → (if b then decided g size table d from q (yours_in d.items q.client q.row) else store.quiet d (Some []) facts.Done).answer ≡ facts.Done
    go true = decided_done g size table d from q (yours_in d.items q.client q.row)
    go false = refl

taken_done : (g : Scheme) (size table : ℕ) (d : StoreDisk) (from : Node) (m : messages.Message) → (taken g size table d (Some []) from m).answer ≡ facts.Done
taken_done g size table d from (messages.SyncRequest q) = asked_done g size table d from q
taken_done g size table d from (messages.PullRequest q) = refl
taken_done g size table d from (messages.SyncResponse r) = refl
taken_done g size table d from (messages.PullResponse q) = refl
taken_done g size table d from (messages.TornRowRequest q) = refl
taken_done g size table d from (messages.TornRowResponse q) = refl

-- ---- moves, and then others

then_said : (m : Moved) (f : World → Moved) → said_by (and_then m f) ≡ said_by m ++ said_by (f m.world)
then_said m f = filter-append says_something m.outs (f m.world).outs

pub then_answered : {D : Type 0} (state : D → DiskState) (old mid new : StoreHost D) (m : Moved) (f : World → Moved) (a : facts.Answer) (given : Answer) → IsMoved state old mid m → m.failed ≡ false
    → a ≡ facts.Done → IsAnswered state mid new facts.Done (f m.world) given → IsAnswered state old new a (and_then m f) given
then_answered state old mid new m f a given moved well is k = record {
  moved = record {
    held = k.moved.held;
    outs = k.moved.outs ∙ (ap (λ (l : List Outbox). l ++ said_by (f m.world)) moved.outs
        ∙ (append_assoc (outs_of old) (said_by m) (said_by (f m.world)) ∙ ap (λ (l : List Outbox). outs_of old ++ l) (sym (then_said m f))));
  };
  answer_is = k.answer_is ∙ (ap (λ (x : facts.Answer). if (f m.world).failed then facts.Refuses facts.NoDevice else x) (sym is)
      ∙ sym (ap (λ (b : Bool). if b || (f m.world).failed then facts.Refuses facts.NoDevice else a) well));
}

-- ---- a table that stays as it is

same_store : {D : Type 0} (state : D → DiskState) (w : World) (it : StoreHost D) (table : ℕ) (hosted : Hosted) → hosted_at w table ≡ Some hosted → (packets : List Packet) → HoldsStore state w it
    → HoldsStore state (record w { tables = insert_entry nat_cmp w.tables table hosted; packets = packets }) it
same_store {D} state w it table hosted at packets h =
    subst (λ (tables : List (ℕ × Hosted)). HoldsStore state (record w { tables = tables; packets = packets }) it) (sym (entry_kept w.tables table hosted h.tables.rising at))
    (store_stays state w it w.clients packets w.holds w.cuts w.phases h)

-- ---- a move that a table with no writes to do answers as done, and that one with some refuses

pub record IsTaking (move : StoreMove) : Type 0 where
  pub when_idle : (number : ℕ) (g : Scheme) (size table : ℕ) (d : StoreDisk) → (store_step number g size table (record { disk = d; agenda = Some [] }) move).answer ≡ facts.Done
  pub when_busy : (number : ℕ) (g : Scheme) (size table : ℕ) (d : StoreDisk) (task : StoreTask) (more : List StoreTask)
      → store_step number g size table (record { disk = d; agenda = Some (task ∷ more) }) move ≡ store.quiet d (Some (task ∷ more)) (facts.Refuses (facts.Busy (version_at d task.change)))

pub takes_message : (from : Node) (m : messages.Message) → IsTaking (Take from m)
takes_message from m = record { when_idle = λ number g size table d. taken_done g size table d from m; when_busy = λ number g size table d task more. refl }

pub takes_put : (put : SidePut) → IsTaking (Place put)
takes_put put = record { when_idle = λ number g size table d. refl; when_busy = λ number g size table d task more. refl }

module _ {D : Type 0} (state : D → DiskState) (w : World) (old : StoreHost D) (h : HoldsStore state w old) (table : ℕ) (move : StoreMove) where
  pub lost : hosted_at w table ≡ None → (given : Answer) → answer_of given ≡ facts.Done → (lucks : List Luck) × IsTakenAs state w table move lucks old old given
  lost at given is = (
    [],
    record {
      answer = facts.Done;
      moves = still w;
      step_is = ap (to_hosted w table move []) at;
      answered = record { moved = record { held = h; outs = sym (append-nil (outs_of old)) }; answer_is = is };
      goes = still_goes w;
    },
  )

  module _ (hosted : Hosted) (at : hosted_at w table ≡ Some hosted) where
    idle_done : IsTaking move → hosted.store.agenda ≡ Some [] → (table_step w table hosted move).answer ≡ facts.Done
    idle_done t idle =
        ap (λ (a : Option (List StoreTask)). (store_step (owner_of w table) (scheme_in (schema_at w table)) (chunk_in (schema_at w table)) table (record { disk = hosted.store.disk; agenda = a }) move).answer) idle
        ∙ t.when_idle (owner_of w table) (scheme_in (schema_at w table)) (chunk_in (schema_at w table)) table hosted.store.disk

    idle_well : IsTaking move → hosted.store.agenda ≡ Some [] → (move_table table move w).failed ≡ false
    idle_well t idle = ap (λ (o : Option Hosted). (move_hosted w table move o).failed) at ∙ ap is_fault (idle_done t idle)

    pub done : IsTaking move → (mid new : StoreHost D) → hosted.store.agenda ≡ Some [] → IsMoved state old mid (move_table table move w) → (lucks : List Luck) (given : Answer)
        → IsAnswered state mid new facts.Done (table_follows table lucks (move_table table move w).world) given
        → (all : List Luck) × IsTakenAs state w table move all old new given
    done t mid new idle moved lucks given k =
        let mv : Moved = move_table table move w in (
          messages.Done ∷ lucks,
          record {
            answer = (table_step w table hosted move).answer;
            moves = and_then mv (table_follows table lucks);
            step_is = ap (to_hosted w table move (messages.Done ∷ lucks)) at ∙ ap (take_at w table hosted move (messages.Done ∷ lucks)) idle;
            answered = then_answered state old mid new mv (table_follows table lucks) (table_step w table hosted move).answer given moved (idle_well t idle) (idle_done t idle) k;
            goes = then_goes w mv (table_follows table lucks) (table_goes w table move) (table_follows_goes table lucks mv.world);
          },
        )

    pub fallen : (new : StoreHost D) → hosted.store.agenda ≡ Some [] → IsMoved state old new (store_falls (owner_of w table) w) → (given : Answer) → answer_of given ≡ facts.Refuses facts.NoDevice
        → (all : List Luck) × IsTakenAs state w table move all old new given
    fallen new idle moved given is = (
      messages.FailedBefore ∷ [],
      record {
        answer = facts.Done;
        moves = failing (store_falls (owner_of w table) w);
        step_is = ap (to_hosted w table move (messages.FailedBefore ∷ [])) at ∙ ap (take_at w table hosted move (messages.FailedBefore ∷ [])) idle;
        answered = record { moved = record { held = moved.held; outs = moved.outs }; answer_is = is };
        goes = failing_goes w (store_falls (owner_of w table) w) (store_falls_goes (owner_of w table) w);
      },
    )

  pub done_ok : IsTaking move → (number : ℕ) (mid new : StoreHost D) (hosted : Hosted) → hosted_at w table ≡ Some hosted → hosted.store.agenda ≡ Some []
      → IsMoved state old mid (move_table table move w) → (is_held : Bool) → owner_of w table ≡ number → is_held ≡ has_node w.holds (nodes.Store number)
      → (named : ℕ) → named ≡ table → (result : Result Answer WorldFault)
      → ((x : World) → HoldsStore state x mid → owner_of x named ≡ number → is_held ≡ has_node x.holds (nodes.Store number) → IfOk result
      (λ given. (lucks : List Luck) × IsAnswered state mid new facts.Done (table_follows named lucks x) given))
      → IfOk result (λ given. (all : List Luck) × IsTakenAs state w table move all old new given)
  done_ok t number mid new hosted at idle moved is_held own is named same (Err e) k = tt
  done_ok t number mid new hosted at idle moved is_held own is named same (Ok given) k =
      let after : Moved = move_table table move w in
      let goes = table_goes w table move in
      let x = k after.world moved.held (ap (λ (f : ℕ → ℕ). f named) (owners_stay w after goes) ∙ (ap (owner_of w) same ∙ own)) (is ∙ ap (λ (ns : List Node). has_node ns (nodes.Store number)) (sym goes.holds)) in
      done hosted at t mid new idle moved x.0 given (subst (λ (n : ℕ). IsAnswered state mid new facts.Done (table_follows n x.0 after.world) given) same x.1)

  pub ok_there : (new : StoreHost D) (named : ℕ) → named ≡ table → true ≡ is_some (hosted_at w named) → (result : Result Answer WorldFault)
      → ((hosted : Hosted) → hosted_at w table ≡ Some hosted → IfOk result (λ given. (all : List Luck) × IsTakenAs state w table move all old new given))
      → IfOk result (λ given. (all : List Luck) × IsTakenAs state w table move all old new given)
  ok_there new named same is result k = let x = some_of (hosted_at w table) (is ∙ ap (λ (t : ℕ). is_some (hosted_at w t)) same) in k x.0 x.1

  busy_at : IsTaking move → (disk : StoreDisk) (task : StoreTask) (more : List StoreTask) (history : List Entry) (made : Bool)
      → hosted_at w table ≡ Some (record { store = record { disk = disk; agenda = Some (task ∷ more) }; history = history; made = made }) → (new : StoreHost D)
      → HoldsStore state w new → new.outs ≡ old.outs → (given : Answer) → answer_of given ≡ facts.Refuses (facts.Busy (version_at disk task.change))
      → (all : List Luck) × IsTakenAs state w table move all old new given
  busy_at t disk task more history made at new held outs given is =
      let hosted : Hosted = record { store = record { disk = disk; agenda = Some (task ∷ more) }; history = history; made = made } in
      let refuses : table_step w table hosted move ≡ store.quiet disk (Some (task ∷ more)) (facts.Refuses (facts.Busy (version_at disk task.change)))
      = t.when_busy (owner_of w table) (scheme_in (schema_at w table)) (chunk_in (schema_at w table)) table disk task more in
      let mv : Moved = after_table w table hosted (store.quiet disk (Some (task ∷ more)) (facts.Refuses (facts.Busy (version_at disk task.change)))) in
      let whole : move_table table move w ≡ mv = ap (move_hosted w table move) at ∙ ap (after_table w table hosted) refuses in (
        [],
        record {
          answer = facts.Refuses (facts.Busy (version_at disk task.change));
          moves = move_table table move w;
          step_is = ap (to_hosted w table move []) at ∙ ap (λ (s : StoreStep). answering s.answer (move_table table move w)) refuses;
          answered = subst (λ (x : Moved). IsAnswered state old new (facts.Refuses (facts.Busy (version_at disk task.change))) x given) (sym whole) (record {
            moved = record { held = same_store state w new table hosted at (w.packets ++ []) held; outs = ap outs_in outs ∙ sym (append-nil (outs_of old)) };
            answer_is = is;
          });
          goes = table_goes w table move;
        },
      )

  pub busy : IsTaking move → (version : ℕ) → IsBusyWith w table version → (new : StoreHost D) → HoldsStore state w new → new.outs ≡ old.outs → (given : Answer)
      → answer_of given ≡ facts.Refuses (facts.Busy version) → (all : List Luck) × IsTakenAs state w table move all old new given
  busy t version (hosted, at, work) new held outs given is = go hosted.store.agenda refl work
    where
      go : (agenda : Option (List StoreTask)) → hosted.store.agenda ≡ agenda → IsAtWork hosted.store.disk agenda version → (all : List Luck) × IsTakenAs state w table move all old new given
      go None e work = absurd work
      go (Some []) e work = absurd work
      go (Some (task ∷ more)) e work = busy_at t hosted.store.disk task more hosted.history hosted.made
          (at ∙ ap (λ (a : Option (List StoreTask)). Some (record { store = record { disk = hosted.store.disk; agenda = a }; history = hosted.history; made = hosted.made })) e) new held outs given
          (is ∙ ap (λ (n : ℕ). facts.Refuses (facts.Busy n)) work)

-- ---- the work that follows

module _ {D : Type 0} (state : D → DiskState) (old : StoreHost D) (w : World) (table : ℕ) (given : Answer) where
  pub rests : HoldsStore state w old → false ≡ is_at_work w table → answer_of given ≡ facts.Done → (lucks : List Luck) × IsAnswered state old old facts.Done (table_follows table lucks w) given
  rests h idle is = (
    [],
    subst (λ (m : Moved). IsAnswered state old old facts.Done m given) (ap (λ (b : Bool). if b then store_follows (owner_of w table) [] w else still w) idle)
        (record { moved = record { held = h; outs = sym (append-nil (outs_of old)) }; answer_is = is }),
  )

pub goes_on : {D : Type 0} (state : D → DiskState) (old new : StoreHost D) (number : ℕ) (w : World) (table : ℕ) (result : Result Answer WorldFault) → owner_of w table ≡ number → true ≡ is_at_work w table
    → IfOk result (λ given. (lucks : List Luck) × IsAnswered state old new facts.Done (store_follows number lucks w) given)
    → IfOk result (λ given. (lucks : List Luck) × IsAnswered state old new facts.Done (table_follows table lucks w) given)
goes_on state old new number w table (Err e) own busy k = tt
goes_on state old new number w table (Ok given) own busy k = (
  k.0,
  subst (λ (m : Moved). IsAnswered state old new facts.Done m given)
      (ap (λ (n : ℕ). store_follows n k.0 w) (sym own) ∙ ap (λ (b : Bool). if b then store_follows (owner_of w table) k.0 w else still w) busy) k.1,
)

-- ---- a look at a row

module _ {D : Type 0} (state : D → DiskState) (w : World) (table : ℕ) (old new : StoreHost D) (a : facts.Answer) (given : Answer) where
  pub read_well : HoldsStore state w new → new.outs ≡ old.outs → answer_of given ≡ a → (luck : Luck) × IsAnswered state old new a (read_moves w table luck) given
  read_well h outs is = (messages.Done, record { moved = record { held = h; outs = ap outs_in outs ∙ sym (append-nil (outs_of old)) }; answer_is = is })

  pub read_badly : IsMoved state old new (store_falls (owner_of w table) w) → answer_of given ≡ facts.Refuses facts.NoDevice → (luck : Luck) × IsAnswered state old new a (read_moves w table luck) given
  read_badly moved is = (messages.FailedBefore, record { moved = record { held = moved.held; outs = moved.outs }; answer_is = is })

-- ---- versions

-- no version is left for the write that it asks for
pub full_at : (w : World) (message : Message) → IsSpentIn w message → IsFull w
full_at w (kinds.SyncRequest q) k = record { table = q.table; hosted = k.0; at = k.1; full = k.3.2 }
full_at w (kinds.PullRequest q) k = absurd k.3
full_at w (kinds.SyncResponse r) k = absurd k.3
full_at w (kinds.PullResponse q) k = absurd k.3
full_at w (kinds.TornRowRequest q) k = absurd k.3
full_at w (kinds.TornRowResponse q) k = absurd k.3

pub full_limit : {A : Type 0} (w : World) (message : Message) (r : Result A WorldFault) → IfErr r (λ e. (code count : ℕ) → e ≡ LimitPassed code count → (code ≡ 11) × IsSpentIn w message)
    → IfErr r (λ e. (code count : ℕ) → e ≡ LimitPassed code count → (code ≡ 11) × IsFull w)
full_limit w message (Ok x) k = tt
full_limit w message (Err e) k = λ code count is. let x = k code count is in (x.0, full_at w message x.1)

pub shown_is : (o : Option Stored) (x : ShownRow) → Some x ≡ option_map shown_of o → facts.Stores x.version x.content ≡ row_shown o
shown_is None x e = absurd cc
shown_is (Some item) x e = let same : x ≡ shown_of item = cc in ap (λ (y : ShownRow). facts.Stores y.version y.content) same

pub none_is : (o : Option Stored) → None ≡ option_map shown_of o → facts.Refuses facts.NoRow ≡ row_shown o
none_is None e = refl
none_is (Some item) e = absurd cc
