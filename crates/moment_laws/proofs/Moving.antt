-- Each move of a table but a message keeps what it keeps, near the same history.
use Rattle.std.proofs.Common.{◌≡◌, inl, inr, ⊎_elim, ℕ, zero, suc, ◌<◌, Bool, true, false, List, [], ◌∷◌, ◌++◌, length, Option, Some, None, refl, sym, ◌∙◌, ap, subst, arith, true≢false}
use Rattle.std.specs.Prelude.{nat_lt, ◌==◌, ◌&&◌, if◌then◌else◌}
use Rattle.stab_base.specs.declared.chunk_name.ChunkName.{ChunkName}
use Rattle.table_model.specs.declared.entry.Entry.{Entry}
use Rattle.table_model.specs.declared.table_state.TableState.TheVariants as states
use Rattle.row_value.specs.declared.schema.Scheme.{Scheme}
use Rattle.stab_base.specs.declared.node.Node.{Node}
use Rattle.step_tables.specs.Chunks.{rising, new_names, old_names, is_spelled}
use Rattle.step_tables.specs.Facts.{Fact, Answer}
use Rattle.step_tables.specs.Facts as facts
use Rattle.step_tables.specs.Messages.{Luck, Send, Request, Pair, Message, SyncRequest, SyncResponse, PullRequest, PullResponse, TornRowRequest, TornRowResponse}
use Rattle.step_tables.specs.Messages as messages
use Rattle.step_tables.specs.Sayings.{entered}
use Rattle.step_tables.specs.Store.{Stored, current_of}
use Rattle.step_tables.specs.StoreMoves as store
use Rattle.step_tables.specs.StoreMoves.{StoreDisk, SidePut, StoreChange, StoreTask, StoreStep, changed, only, ends_with, item_at}
use Rattle.store_laws.specs.Part.{Counts}
use Rattle.store_laws.proofs.Items.{counted_up, Counts-push, pushed_at, item_at-is}
use Rattle.world_tables.specs.World.{history_on}
use Rattle.world_tables.specs.Passed.{entries_of}
use Rattle.moment_laws.proofs.Kept.{AreQuiet, LandsBy, Lands, IsUntold, IsAt, IsKept, behind, Near, IsWithin}
use Rattle.moment_laws.proofs.Landing.{entered_new, entered_old, entries_count, entries_join, lies, near_lies, near_here}

-- what a table is behind a step of its own
abbrev pub KeptBy : List Entry → Bool → StoreStep → Type 0
KeptBy h made s = IsKept (history_on h s.facts) s.store.disk s.store.agenda made

abbrev pub WithinBy : List Entry → Option Stored → List Entry → StoreStep → Type 0
WithinBy near o h s = IsWithin near o (history_on h s.facts) s.store.disk s.store.agenda

-- where the items are those told, the history is near what the items are near
told_near : (near : List Entry) (o : Option Stored) (h : List Entry) (d : StoreDisk) → entries_of d.items ≡ h → Near near o (entries_of d.items) → Near near o h
told_near near o h d e n = subst (Near near o) e n

idle : (d : StoreDisk) (k : ℕ) → behind d None k ≡ d.items
idle d zero = refl
idle d (suc k) = refl

-- what is put beside the rows touches no item, and tells none
beside_items : (d : StoreDisk) (put : SidePut) → (store.put_beside d put).items ≡ d.items
beside_items d (store.PutState state) = refl
beside_items d (store.PutSub client terms) = refl

beside_quiet : (table : ℕ) (put : SidePut) → AreQuiet (store.told_beside table put)
beside_quiet table (store.PutState states.Draft) h = refl
beside_quiet table (store.PutState states.Live) h = refl
beside_quiet table (store.PutState states.Dropped) h = refl
beside_quiet table (store.PutSub client terms) h = refl

-- ---- a table at rest

down_kept : (h : List Entry) (d : StoreDisk) (made : Bool) → Counts 0 d.items → IsAt h d None → (made ≡ false → (h ≡ []) × (d.items ≡ [])) → IsKept h d None made
down_kept h d made c at u = record { counted = c; at = at; unmade = λ is. let both = u is in (both.0, both.1, refl) }

down_within : (near : List Entry) (o : Option Stored) (h : List Entry) (d : StoreDisk) → Near near o h → Near near o (entries_of d.items) → IsWithin near o h d None
down_within near o h d told n = record { told = told; items = λ k. subst (λ (items : List Stored). Near near o (entries_of items)) (sym (idle d k)) n }

-- ---- work

module _ (h : List Entry) (d : StoreDisk) (made : Bool) (near : List Entry) (o : Option Stored) where
  -- a write that is done
  module _ (task : StoreTask) (more : List StoreTask) where
    abbrev done_step : StoreStep
    done_step = store.done d (Some (task ∷ more))

    done_kept : IsKept h d (Some (task ∷ more)) made → KeptBy h made done_step
    done_kept k = go task.change refl k.at.1.0 k.at.1.1
      where
        unmade : made ≡ false → ⊥
        unmade is = let none = (k.unmade is).2 in cc

        quiet : (change : StoreChange) → task.change ≡ change → (changed d change).items ≡ d.items → AreQuiet task.facts → (p : Option Stored) → Lands (changed d change) more p
            → IsKept (history_on h task.facts) (changed d change) (Some more) made
        quiet change is same silent p m = record {
          counted = subst (Counts 0) (sym same) k.counted;
          at = (ap entries_of same ∙ (k.at.0 ∙ sym (silent h)), (p, m));
          unmade = λ not_made. absurd (unmade not_made);
        }

        go : (change : StoreChange) → task.change ≡ change → (p : Option Stored) → LandsBy d change task.facts (Lands (changed d change) more) p
            → IsKept (history_on h task.facts) (changed d change) (Some more) made
        go store.OpenChunks is p m = quiet store.OpenChunks is refl m.0 p m.1
        go store.OpenRows is p m = quiet store.OpenRows is refl m.0 p m.1
        go store.OpenLog is p m = quiet store.OpenLog is refl m.0 p m.1
        go (store.Open item) is p m = quiet (store.Open item) is refl m.0 p m.1
        go (store.PutChunk name) is p m = quiet (store.PutChunk name) is refl m.0 p m.1
        go (store.DropChunk name) is p m = quiet (store.DropChunk name) is refl m.0 p m.1
        go store.Close is p m = quiet store.Close is refl m.0 p m.1
        go (store.PutBeside put) is p m = quiet (store.PutBeside put) is (beside_items d put) m.0 p m.1
        go (store.Put item named old) is p m = record {
          counted = Counts-push 0 d.items item k.counted (grind (arith, m.2));
          at = (entries_join d.items item ∙ (ap (λ (es : List Entry). es ++ item.entry ∷ []) k.at.0 ∙ sym told), (None, m.4));
          unmade = λ not_made. absurd (unmade not_made);
        }
          where
            new : length h < item.entry.version
            new = grind (arith, m.2, entries_count d.items, ap length k.at.0)

            told : history_on h task.facts ≡ h ++ item.entry ∷ []
            told = ap (history_on h) m.3.1 ∙ entered_new h item.entry new

    done_within : KeptBy h made done_step → IsWithin near o h d (Some (task ∷ more)) → WithinBy near o h done_step
    done_within k w = record {
      told = told_near near o (history_on h task.facts) (changed d task.change) k.at.0 (w.items 1);
      items = λ j. w.items (suc j);
    }

    -- one that a crash undoes, or that lands untold
    lost_kept : IsKept h d (Some (task ∷ more)) made → IsKept h d None made
    lost_kept k = down_kept h d made k.counted (inl k.at.0) (λ is. let all = k.unmade is in (all.0, all.1))

    landed_kept : IsKept h d (Some (task ∷ more)) made → IsKept h (changed d task.change) None made
    landed_kept k = go task.change refl k.at.1.0 k.at.1.1
      where
        quiet : (change : StoreChange) → task.change ≡ change → (changed d change).items ≡ d.items → IsKept h (changed d change) None made
        quiet change is same = down_kept h (changed d change) made (subst (Counts 0) (sym same) k.counted) (inl (ap entries_of same ∙ k.at.0))
            (λ not_made. let all = k.unmade not_made in (all.0, same ∙ all.1))

        go : (change : StoreChange) → task.change ≡ change → (p : Option Stored) → LandsBy d change task.facts (Lands (changed d change) more) p → IsKept h (changed d change) None made
        go store.OpenChunks is p m = quiet store.OpenChunks is refl
        go store.OpenRows is p m = quiet store.OpenRows is refl
        go store.OpenLog is p m = quiet store.OpenLog is refl
        go (store.Open item) is p m = quiet (store.Open item) is refl
        go (store.PutChunk name) is p m = quiet (store.PutChunk name) is refl
        go (store.DropChunk name) is p m = quiet (store.DropChunk name) is refl
        go store.Close is p m = quiet store.Close is refl
        go (store.PutBeside put) is p m = quiet (store.PutBeside put) is (beside_items d put)
        go (store.Put item named old) is p m = down_kept h (changed d (store.Put item named old)) made (Counts-push 0 d.items item k.counted (grind (arith, m.2)))
            (inr (record { before = d.items; item = item; items = refl; pending = m.1; counted = k.counted; next = m.2; told = k.at.0 }))
            (λ not_made. absurd (let none = (k.unmade not_made).2 in cc))

    lost_within : IsWithin near o h d (Some (task ∷ more)) → IsWithin near o h d None
    lost_within w = down_within near o h d w.told (w.items 0)

    landed_within : IsWithin near o h d (Some (task ∷ more)) → IsWithin near o h (changed d task.change) None
    landed_within w = down_within near o h (changed d task.change) w.told (w.items 1)

  abbrev pub Keeps : StoreStep → Type 0
  Keeps s = KeptBy h made s × WithinBy near o h s

  pub crashed_keeps : (a : Option (List StoreTask)) (luck : Luck) → IsKept h d a made → IsWithin near o h d a → Keeps (store.crashed d a luck)
  crashed_keeps None luck k w = (k, w)
  crashed_keeps (Some []) luck k w = (down_kept h d made k.counted (inl k.at.0) (λ is. let all = k.unmade is in (all.0, all.1)), down_within near o h d w.told (w.items 0))
  crashed_keeps (Some (task ∷ more)) messages.FailedBefore k w = (lost_kept task more k, lost_within task more w)
  crashed_keeps (Some (task ∷ more)) messages.FailedAfter k w = (landed_kept task more k, landed_within task more w)
  crashed_keeps (Some (task ∷ more)) messages.Done k w = (landed_kept task more k, landed_within task more w)

  pub worked_keeps : (a : Option (List StoreTask)) (luck : Luck) → IsKept h d a made → IsWithin near o h d a → Keeps (store.worked d a luck)
  worked_keeps a messages.FailedBefore k w = crashed_keeps a messages.FailedBefore k w
  worked_keeps a messages.FailedAfter k w = crashed_keeps a messages.FailedAfter k w
  worked_keeps None messages.Done k w = (k, w)
  worked_keeps (Some []) messages.Done k w = (k, w)
  worked_keeps (Some (task ∷ more)) messages.Done k w = let next = done_kept task more k in (next, done_within task more next w)

  -- what is put beside the rows begins its one write
  pub placed_keeps : (table : ℕ) (a : Option (List StoreTask)) (put : SidePut) → IsKept h d a made → IsWithin near o h d a → Keeps (store.placed table d a put)
  placed_keeps table None put k w = (k, w)
  placed_keeps table (Some (task ∷ more)) put k w = (k, w)
  placed_keeps table (Some []) put k w = (
    record {
      counted = k.counted;
      at = (k.at.0, (None, (beside_quiet table put, refl)));
      unmade = λ not_made. absurd (let none = (k.unmade not_made).2 in cc);
    },
    record { told = w.told; items = λ j. subst (λ (items : List Stored). Near near o (entries_of items)) (sym (same j)) (w.items 0) },
  )
    where
      none_left : (j : ℕ) → behind (store.put_beside d put) (Some []) j ≡ (store.put_beside d put).items
      none_left zero = refl
      none_left (suc j) = refl

      same : (j : ℕ) → behind d (Some (store.beside_task table put ∷ [])) j ≡ d.items
      same zero = refl
      same (suc j) = none_left j ∙ beside_items d put

-- ---- agendas

quiet_drop : (names : List ChunkName) (d : StoreDisk) (rest : List StoreTask) (o : Option Stored) → ((left : List ChunkName) → Lands (record d { left = left }) rest o)
    → Lands d (store.drops names ++ rest) o
quiet_drop [] d rest o f = f d.left
quiet_drop (name ∷ names) d rest o f = ((λ h. refl), quiet_drop names (changed d (store.DropChunk name)) rest o f)

quiet_put : (names : List ChunkName) (d : StoreDisk) (rest : List StoreTask) (o : Option Stored) → ((left : List ChunkName) → Lands (record d { left = left }) rest o)
    → Lands d (store.puts names ++ rest) o
quiet_put [] d rest o f = f d.left
quiet_put (name ∷ names) d rest o f = ((λ h. refl), quiet_put names (changed d (store.PutChunk name)) rest o f)

reopening_lands : (number table : ℕ) (d : StoreDisk) → Lands d (store.reopening number table) None
reopening_lands number table d = ((λ h. refl), ((λ h. refl), ((λ h. refl), refl)))

recovering_lands : (number table : ℕ) (d : StoreDisk) → Lands d (store.recovering number table d) None
recovering_lands number table d = (
  (λ h. refl),
  (
    (λ h. refl),
    (
      (λ h. refl),
      quiet_drop (rising d.left) d (ends_with store.Close (facts.StoreRecovered number table) ∷ []) None (λ left. ((λ h. refl), refl)),
    ),
  ),
)

-- ---- a start

module _ (number table : ℕ) (h : List Entry) (d : StoreDisk) (made : Bool) (near : List Entry) (o : Option Stored) where
  up_kept : (told : List Entry) (tasks : List StoreTask) → made ≡ true → Counts 0 d.items → entries_of d.items ≡ told → Lands d tasks None → IsKept told d (Some tasks) made
  up_kept told tasks is c e l = record { counted = c; at = (e, (None, l)); unmade = λ not_made. absurd (true≢false (sym is ∙ not_made)) }

  up_within : (told : List Entry) (tasks : List StoreTask) → entries_of d.items ≡ told → Lands d tasks None → Near near o (entries_of d.items) → IsWithin near o told d (Some tasks)
  up_within told tasks e l n = record {
    told = told_near near o told d e n;
    items = λ k. ⊎_elim (λ same. subst (λ (items : List Stored). Near near o (entries_of items)) (sym same) n) (λ lands. absurd (let none = lands.1 in cc)) (lies k d tasks None l);
  }

  abbrev pub Started : StoreStep → Type 0
  Started s = KeptBy h made s × WithinBy near o h s

  module _ (is : made ≡ true) (c : Counts 0 d.items) (at : IsAt h d None) (n : Near near o (entries_of d.items)) where
    both : (told : List Entry) (tasks : List StoreTask) → entries_of d.items ≡ told → Lands d tasks None → IsKept told d (Some tasks) made × IsWithin near o told d (Some tasks)
    both told tasks e l = (up_kept told tasks is c e l, up_within told tasks e l n)

    reopened : d.pending ≡ None → Started (store.quiet d (Some (store.reopening number table)) facts.Done)
    reopened none = both h (store.reopening number table)
        (⊎_elim (λ e. e) (λ (u : IsUntold h d). absurd (let other : None ≡ Some u.item = sym none ∙ u.pending in cc)) at) (reopening_lands number table d)

    -- what the pending item's version finds among the items, where the last of them is pending
    last_found : (p : Stored) → d.pending ≡ Some p → (u : IsUntold h d) → item_at p.entry.version d.items ≡ Some u.item
    last_found p pending u =
        let same : Some u.item ≡ Some p = sym u.pending ∙ pending in
        let is_p : u.item ≡ p = cc in
        subst (λ (q : Stored). item_at q.entry.version d.items ≡ Some u.item) is_p
        (subst (λ (items : List Stored). item_at u.item.entry.version items ≡ Some u.item) (sym u.items) (pushed_at 0 u.before u.item u.counted (grind (arith, u.next))))

    recovered : (p : Stored) → d.pending ≡ Some p → (i : Option Stored) → item_at p.entry.version d.items ≡ i → Started (store.recovered number table d p i)
    recovered p pending None none = both h (store.recovering number table d)
        (⊎_elim (λ e. e) (λ u. absurd (let other : None ≡ Some u.item = sym none ∙ last_found p pending u in cc)) at) (recovering_lands number table d)
    recovered p pending (Some found) there = both (entered h found.entry) (store.recovering number table d) (⊎_elim old new at) (recovering_lands number table d)
      where
        old : entries_of d.items ≡ h → entries_of d.items ≡ entered h found.entry
        old e = e ∙ sym (entered_old h found.entry (grind (arith, counted_up 0 d.items found c (item_at-is p.entry.version d.items found there).0, entries_count d.items, ap length e)))

        new : IsUntold h d → entries_of d.items ≡ entered h found.entry
        new u =
            let same : Some found ≡ Some u.item = sym there ∙ last_found p pending u in
            let is_item : found ≡ u.item = cc in
            ap entries_of u.items ∙ (entries_join u.before u.item ∙ (ap (λ (es : List Entry). es ++ u.item.entry ∷ []) u.told
            ∙ (sym (entered_new h u.item.entry (grind (arith, u.next, entries_count u.before, ap length u.told))) ∙ ap (λ (x : Stored). entered h x.entry) (sym is_item))))

    recover : (p : Option Stored) → d.pending ≡ p → Started (store.recover number table d p)
    recover None none = reopened none
    recover (Some p) pending = recovered p pending (item_at p.entry.version d.items) refl

  pub started_keeps : made ≡ true → (a : Option (List StoreTask)) → IsKept h d a made → IsWithin near o h d a → Started (store.started number table d a)
  started_keeps is (Some agenda) k w = (k, w)
  started_keeps is None k w = recover is k.counted k.at (w.items 0) d.pending refl

-- ---- a message

-- the item that may land behind it, near which the table is before and behind it
pub record Takes (h : List Entry) (d : StoreDisk) (a : Option (List StoreTask)) (made : Bool) (s : StoreStep) : Type 0 where
  pub item : Option Stored
  pub before : IsWithin h item h d a
  pub within : IsWithin h item (history_on h s.facts) s.store.disk s.store.agenda
  pub kept : IsKept (history_on h s.facts) s.store.disk s.store.agenda made

module _ (g : Scheme) (size table : ℕ) (h : List Entry) (d : StoreDisk) (made : Bool) where
  stays : (a : Option (List StoreTask)) (answer : Answer) → IsKept h d a made → Takes h d a made (store.quiet d a answer)
  stays a answer k = let n = near_here h d a k.at in record { item = n.0; before = n.1; within = n.1; kept = k }

  sends : (some : List Send) → IsKept h d (Some []) made → Takes h d (Some []) made (store.sending d some)
  sends some k = let n = near_here h d (Some []) k.at in record { item = n.0; before = n.1; within = n.1; kept = k }

  accepting_lands : (from : Node) (request : Request) → Lands d (store.accepting size table d.items from request (store.item_for d.items request)) (Some (store.item_for d.items request))
  accepting_lands from request = (
    (λ h. refl),
    quiet_put (new_names size item) (record d { pending = Some item }) _ (Some item)
        (λ left. (refl, refl, refl, (table, refl), quiet_drop (old_names size d.items item) _ _ None (λ more. ((λ h. refl), refl)))),
  )
    where
      item : Stored
      item = store.item_for d.items request

  accepts : (from : Node) (request : Request) → IsKept h d (Some []) made
      → Takes h d (Some []) made (store.quiet d (Some (store.accepting size table d.items from request (store.item_for d.items request))) facts.Done)
  accepts from request k = record {
    item = Some item;
    before = record { told = inl refl; items = λ j. inl (ap entries_of (still j) ∙ k.at.0) };
    within = record { told = inl refl; items = λ j. near_lies h d.items _ (Some item) k.at.0 (lies j d _ (Some item) (accepting_lands from request)) };
    kept = record { counted = k.counted; at = (k.at.0, (Some item, accepting_lands from request)); unmade = λ not_made. absurd (let none = (k.unmade not_made).2 in cc) };
  }
    where
      item : Stored
      item = store.item_for d.items request

      still : (j : ℕ) → behind d (Some []) j ≡ d.items
      still zero = refl
      still (suc j) = refl

  judged : (from : Node) (request : Request) (current : ℕ) → IsKept h d (Some []) made → Takes h d (Some []) made (store.judged g size table d from request current)
  judged from request current k = go (store.takes g request.base current && store.keeps_there size d.items request)
    where
      go : (b : Bool) → Takes h d (Some []) made (if b then store.quiet d (Some (store.accepting size table d.items from request (store.item_for d.items request))) facts.Done
          else store.sending d (store.responded from request (store.unaccepted g request.base current) ∷ []))
      go true = accepts from request k
      go false = sends _ k

  decided : (from : Node) (request : Request) (yours : Pair) → IsKept h d (Some []) made → Takes h d (Some []) made (store.decided g size table d from request yours)
  decided from request yours k = go (yours.number == request.number) (nat_lt request.number yours.number)
    where
      go : (a b : Bool) → Takes h d (Some []) made (if a then store.sending d (store.responded from request (messages.Again yours.version) ∷ [])
          else (if b then store.sending d (store.responded from request (messages.Late yours.number) ∷ [])
          else store.judged g size table d from request (store.version_of (current_of d.items request.row))))
      go true b = sends _ k
      go false true = sends _ k
      go false false = judged from request (store.version_of (current_of d.items request.row)) k

  asked : (from : Node) (request : Request) → IsKept h d (Some []) made → Takes h d (Some []) made (store.asked g size table d from request)
  asked from request k = go (is_spelled size request.content request.pieces)
    where
      go : (b : Bool) → Takes h d (Some []) made (if b then store.decided g size table d from request (store.yours_in d.items request.client request.row) else store.quiet d (Some []) facts.Done)
      go true = decided from request (store.yours_in d.items request.client request.row) k
      go false = stays (Some []) facts.Done k

  pub taken : (a : Option (List StoreTask)) (from : Node) (m : Message) → IsKept h d a made → Takes h d a made (store.taken g size table d a from m)
  taken None from m k = stays None (facts.Refuses facts.Down) k
  taken (Some (task ∷ more)) from m k = stays (Some (task ∷ more)) (facts.Refuses (facts.Busy (store.version_at d task.change))) k
  taken (Some []) from (SyncRequest request) k = asked from request k
  taken (Some []) from (PullRequest pull) k = sends _ k
  taken (Some []) from (SyncResponse response) k = stays (Some []) facts.Done k
  taken (Some []) from (PullResponse pulled) k = stays (Some []) facts.Done k
  taken (Some []) from (TornRowRequest torn) k = sends _ k
  taken (Some []) from (TornRowResponse answer) k = stays (Some []) facts.Done k
