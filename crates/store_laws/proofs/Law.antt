-- Each move of a table at the Store keeps its part.
use Rattle.std.proofs.Common.{◌≤◌, ◌<◌, ◌≡◌, ◌≢◌, ◌⊎◌, ℕ, ◌+◌, Bool, true, false, List, [], ◌∷◌, ◌++◌, length, Option, Some, None, refl, sym, ap, ◌∙◌, subst, arith, inl, inr, ⊎_elim}
use Rattle.std.specs.Prelude.{◌==◌, ◌&&◌, nat_lt, option_map, if◌then◌else◌}
use Rattle.std.proofs.lemmas.Bool.Decides.{nat_tests}
use Rattle.stab_base.specs.declared.node.Node.{Node}
use Rattle.row_value.specs.declared.schema.Scheme.{Scheme}
use Rattle.row_value.specs.declared.schema.Scheme.TheVariants.{Strong, Causal, Eventual}
use Rattle.table_model.specs.Last.{last_where}
use Rattle.step_tables.specs.Store.{Stored, current_of, next_changed}
use Rattle.step_tables.specs.Facts.{Fact, Answer}
use Rattle.step_tables.specs.Facts as facts
use Rattle.table_model.specs.declared.table_state.TableState.TheVariants as states
use Rattle.step_tables.specs.Members.{Among}
use Rattle.step_tables.specs.Messages.{Request, Response, Pull, Pulled, Header, Pair, Outcome, Message, Send, Luck, SyncRequest, SyncResponse, PullRequest, PullResponse}
use Rattle.step_tables.specs.Messages.{TornPull, TornRowRequest, TornRowResponse}
use Rattle.step_tables.specs.Messages as messages
use Rattle.step_tables.specs.Sayings.{Saying, SaysNothing, SaysEntry, SaysBack, saying}
use Rattle.stab_base.specs.declared.chunk_name.ChunkName.{ChunkName}
use Rattle.step_tables.specs.Chunks.{without_names, rising, new_names, names_with, old_names, is_spelled}
use Rattle.step_tables.specs.StoreMoves.{StoreDisk, StoreTask, TableStore, StoreMove, Open, Put, Close, Take, Place, Work, Crash, Start, quiet}
use Rattle.step_tables.specs.StoreMoves.{changed, done, crashed, SidePut, PutState, PutSub, placed, put_beside, told_beside, beside_task}
use Rattle.step_tables.specs.StoreMoves.{failed, worked, item_at, ends_with, drops, recovering, recovered, recover, started, takes, outdated, responded, sending, item_for, puts, accepting, version_of}
use Rattle.step_tables.specs.StoreMoves.{unaccepted, keeps_there, judged, pair_of, is_by, yours_in}
use Rattle.step_tables.specs.StoreMoves.{decided, header_for, pulled_for, answered, torn_pulled_for, torn_answered, asked, taken, store_step}
use Rattle.step_tables.specs.Items.{latest, IsBase, IsYours, IsChange}
use Rattle.step_tables.proofs.Lists.{among_push, among_left, among_cases}
use Rattle.world_tables.specs.Again.{may_repeat}
use Rattle.store_laws.specs.Part.{Known, IsLawful, IsNext, Tells, TellsAll, IsWayTo, IsLate, IsOutcome, IsHeader, IsRowFor, IsTornHeader, Answers, IsTold, IsResting, Runs, IsAt, StorePart, IsAsked}
use Rattle.store_laws.specs.Part.{IsFair, StoreLaw}
use Rattle.store_laws.proofs.Items.{Counts-push, counted_up, one_version, item_at-is, item_at-none, pushed_at, current_is, latest_most, latest_item, base_low, own_is, own_none, own_last, next_is}
use Rattle.store_laws.proofs.Items.{IsNextChange}

module _ (g : Scheme) (table : ℕ) (K : Known) where
  -- ---- an item more

  pub base_grows : (h : List Stored) (i : Stored) (row : List ℕ) (base : ℕ) → IsBase h row base → IsBase (h ++ i ∷ []) row base
  base_grows h i row base (inl zero) = inl zero
  base_grows h i row base (inr k) = inr (k.0, record { stands = among_left h (i ∷ []) k.0 k.1.stands; row_is = k.1.row_is; version_is = k.1.version_is })

  pub grown : (h : List Stored) (i : Stored) → IsLawful g K h → IsNext g K h i → IsLawful g K (h ++ i ∷ [])
  grown h i l n = record {
    counted = Counts-push 0 h i l.counted (grind (arith, n.next));
    known = λ o a. grind (arith, among_cases h i o a, l.known o, n.known);
    based = λ o a. ⊎_elim (λ b. base_grows h i o.entry.row o.entry.base (l.based o b))
        (λ e. subst (λ (x : Stored). IsBase (h ++ i ∷ []) x.entry.row x.entry.base) e (base_grows h i i.entry.row i.entry.base n.based)) (among_cases h i o a);
    over = λ exact x o a b same less. over exact x o (among_cases h i x a) (among_cases h i o b) same less;
    rises = λ x o a b client same less. grind (arith, among_cases h i x a, among_cases h i o b, l.rises x o, n.rises x, n.next, counted_up 0 h x l.counted, counted_up 0 h o l.counted);
  }
    where
      over : g ≢ Eventual → (x o : Stored) → Among h x ⊎ (i ≡ x) → Among h o ⊎ (i ≡ o) → o.entry.row ≡ x.entry.row → o.entry.version < x.entry.version → o.entry.version ≤ x.entry.base
      over exact x o (inl a) (inl b) same less = l.over exact x o a b same less
      over exact x o (inl a) (inr e) same less = absurd (let up = counted_up 0 h x l.counted a in let next = n.next in let v = ap (λ (y : Stored). y.entry.version) e in omega arith)
      over exact x o (inr e) (inl b) same less =
          let low : o.entry.version ≤ latest h o.entry.row = latest_most h o l.counted b in
          let row : o.entry.row ≡ i.entry.row = same ∙ sym (ap (λ (y : Stored). y.entry.row) e) in
          let at : o.entry.version ≤ latest h i.entry.row = rw row at low in
          let base = n.over exact in
          let there = ap (λ (y : Stored). y.entry.base) e in
          omega arith
      over exact x o (inr e) (inr f) same less = absurd (let v = ap (λ (y : Stored). y.entry.version) (sym e ∙ f) in omega arith)

  one_lawful : (h : List Stored) (again : Bool) (s : Saying) (later : List Stored) → Tells g table K h again s later → IsLawful g K h → IsLawful g K later
  one_lawful h again SaysNothing later k l = rw k l
  one_lawful h again (SaysEntry number entry) later (n, inl k) l = rw k.3 (grown h k.0 l k.2)
  one_lawful h again (SaysEntry number entry) later (n, inr k) l = rw k.1 l
  one_lawful h again (SaysBack number version) later k l = rw k.2 l
  one_lawful h again other later k l = absurd k

  pub all_lawful : (h : List Stored) (some : List Fact) (later : List Stored) → TellsAll g table K h some later → IsLawful g K h → IsLawful g K later
  all_lawful h [] later k l = rw k l
  all_lawful h (fact ∷ more) later k l = all_lawful k.0 more later k.2 (one_lawful h (may_repeat fact) (saying fact) k.0 k.1 l)

  -- ---- writes that tell and send nothing, and leave the items and the entry

  told_with : (h : List Stored) (d : StoreDisk) (left : List ChunkName) → IsTold h d → IsTold h (record d { left = left })
  told_with h d left k = record { items = k.items; open_entry = k.open_entry }

  puts_run : (h : List Stored) (d : StoreDisk) (names : List ChunkName) (rest : List StoreTask) → IsTold h d → ((left : List ChunkName) → Runs g table K h (record d { left = left }) rest)
      → Runs g table K h d (puts names ++ rest)
  puts_run h d [] rest k runs = runs d.left
  puts_run h d (name ∷ names) rest k runs =
      let now : List ChunkName = d.left ++ name ∷ [] in
      (k, inl (told_with h d now k), (h, refl, tt, puts_run h (record d { left = now }) names rest (told_with h d now k) runs))

  drops_run : (h : List Stored) (d : StoreDisk) (names : List ChunkName) (rest : List StoreTask) → IsTold h d → ((left : List ChunkName) → Runs g table K h (record d { left = left }) rest)
      → Runs g table K h d (drops names ++ rest)
  drops_run h d [] rest k runs = runs d.left
  drops_run h d (name ∷ names) rest k runs =
      let now : List ChunkName = without_names (name ∷ []) d.left in
      (k, inl (told_with h d now k), (h, refl, tt, drops_run h (record d { left = now }) names rest (told_with h d now k) runs))

  told_closed : (h : List Stored) (d : StoreDisk) → d.items ≡ h → IsTold h (changed d Close)
  told_closed h d e = record { items = e; open_entry = λ i at. absurd (let both : Some i ≡ None = sym at in cc) }

  -- a recovery, behind what its start tells
  recovering_runs : (store : ℕ) (h : List Stored) (d : StoreDisk) → IsTold h d → Runs g table K h d (recovering store table d)
  recovering_runs store h d k = (k, inl k, (h, refl, tt, (k, inl k, (h, refl, tt, (k, inl k, (h, refl, tt, drops_run h d (rising d.left) _ k closes))))))
    where
      closes : (left : List ChunkName) → Runs g table K h (record d { left = left }) (ends_with Close (facts.StoreRecovered store table) ∷ [])
      closes left =
          let shut : IsTold h (changed (record d { left = left }) Close) = told_closed h (record d { left = left }) k.items in
          (told_with h d left k, inl shut, (h, (h, refl, refl), tt, (shut, refl)))

  module _ (h : List Stored) (l : IsLawful g K h) where
    still : (d : StoreDisk) (agenda : Option (List StoreTask)) (answer : Answer) → IsAt g table K h d agenda → StoreLaw g table K h (quiet d agenda answer)
    still d agenda answer p = record { later = h; facts = refl; sends = tt; part = record { lawful = l; state = p } }

    -- ---- work and crash need nothing of any agenda

    rests : (d : StoreDisk) (agenda : List StoreTask) → Runs g table K h d agenda → IsTold h d
    rests d [] p = p.0
    rests d (task ∷ more) p = p.0

    done_law : (d : StoreDisk) (agenda : Option (List StoreTask)) → IsAt g table K h d agenda → StoreLaw g table K h (done d agenda)
    done_law d None p = still d None _ p
    done_law d (Some []) p = still d (Some []) _ p
    done_law d (Some (task ∷ more)) p = record {
      later = p.2.0;
      facts = p.2.1;
      sends = p.2.2;
      part = record { lawful = all_lawful h task.facts p.2.0 p.2.1 l; state = p.2.3 };
    }

    crash_law : (d : StoreDisk) (agenda : Option (List StoreTask)) (luck : Luck) → IsAt g table K h d agenda → StoreLaw g table K h (crashed d agenda luck)
    crash_law d None luck p = still d None _ p
    crash_law d (Some []) luck p = still d None _ (inl p.0)
    crash_law d (Some (task ∷ more)) messages.FailedBefore p = still d None _ (inl p.0)
    crash_law d (Some (task ∷ more)) messages.FailedAfter p = still (changed d task.change) None _ p.1
    crash_law d (Some (task ∷ more)) messages.Done p = still (changed d task.change) None _ p.1

    failed_law : (d : StoreDisk) (agenda : Option (List StoreTask)) (luck : Luck) → IsAt g table K h d agenda → StoreLaw g table K h (failed d agenda luck)
    failed_law d agenda luck p = let k = crash_law d agenda luck p in record { later = k.later; facts = k.facts; sends = k.sends; part = k.part }

    work_law : (d : StoreDisk) (agenda : Option (List StoreTask)) (luck : Luck) → IsAt g table K h d agenda → StoreLaw g table K h (worked d agenda luck)
    work_law d agenda messages.Done p = done_law d agenda p
    work_law d agenda messages.FailedBefore p = failed_law d agenda messages.FailedBefore p
    work_law d agenda messages.FailedAfter p = failed_law d agenda messages.FailedAfter p

    -- ---- a start

    -- a pending entry without an item was never put
    not_put : (d : StoreDisk) (i : Stored) → d.pending ≡ Some i → IsResting g K h d → item_at i.entry.version d.items ≡ None → IsTold h d
    not_put d i is (inl k) none = k
    not_put d i is (inr u) none =
        let same : Some i ≡ Some u.item = sym is ∙ u.pending in
        absurd (grind (arith, same, pushed_at 0 h u.item l.counted, u.next.next, u.items, none))

    is_next_version : (d : StoreDisk) (i : Stored) → d.pending ≡ Some i → IsTold h d → item_at i.entry.version d.items ≡ None → i.entry.version ≡ length h + 1
    is_next_version d i is k none = ⊎_elim (λ e. e) (λ o. absurd (item_at-none i.entry.version h o.0 (rw k.items at none) o.1 o.2)) (k.open_entry i is)

    recovered_law : (store : ℕ) (d : StoreDisk) (i : Stored) → d.pending ≡ Some i → IsResting g K h d → (o : Option Stored) → item_at i.entry.version d.items ≡ o
        → StoreLaw g table K h (recovered store table d i o)
    recovered_law store d i is r None at =
        let k : IsTold h d = not_put d i is r at in
        record { later = h; facts = (h, (refl, is_next_version d i is k at, refl), refl); sends = tt; part = record { lawful = l; state = recovering_runs store h d k } }
    recovered_law store d i is (inl k) (Some x) at = record {
      later = h;
      facts = (h, (refl, inr (refl, refl, (x, (item_at-is i.entry.version h x (rw k.items at at)).0, refl))), refl);
      sends = tt;
      part = record { lawful = l; state = recovering_runs store h d k };
    }
    recovered_law store d i is (inr u) (Some x) at =
        let pending : Some i ≡ Some u.item = sym is ∙ u.pending in
        let found : item_at u.item.entry.version (h ++ u.item ∷ []) ≡ Some u.item = pushed_at 0 h u.item l.counted (grind (arith, u.next.next)) in
        let items = u.items in
        let same : u.item ≡ x = grind (arith, pending, found, items, at) in
        let later : List Stored = h ++ u.item ∷ [] in
        let stands : IsTold later d = record { items = u.items; open_entry = λ o p. inr (u.item, among_push h u.item, (let e : Some u.item ≡ Some o = sym u.pending ∙ p in let e2 : u.item ≡ o = cc in ap (λ (y : Stored). y.entry.version) e2)) } in
        record {
          later = later;
          facts = (later, (refl, inl (u.item, ap (λ (y : Stored). y.entry) same, u.next, refl)), refl);
          sends = tt;
          part = record { lawful = grown h u.item l u.next; state = recovering_runs store later d stands };
        }

    start_law : (store : ℕ) (d : StoreDisk) (agenda : Option (List StoreTask)) → IsAt g table K h d agenda → StoreLaw g table K h (started store table d agenda)
    start_law store d (Some agenda) p = still d (Some agenda) _ p
    start_law store d None r = go d.pending refl r
      where
        go : (o : Option Stored) → d.pending ≡ o → IsResting g K h d → StoreLaw g table K h (recover store table d o)
        go None is (inl k) = still d _ _ (k, inl k, (h, refl, tt, (k, inl k, (h, refl, tt, (k, inl k, (h, (h, refl, refl), tt, (k, is)))))))
        go None is (inr u) = absurd (let both : Some u.item ≡ None = sym u.pending ∙ is in cc)
        go (Some i) is r2 = recovered_law store d i is r2 (item_at i.entry.version d.items) refl

    -- ---- a request

    sends_law : (d : StoreDisk) (sends : List Send) → Runs g table K h d [] → Answers g table K h sends → StoreLaw g table K h (sending d sends)
    sends_law d sends p a = record { later = h; facts = refl; sends = a; part = record { lawful = l; state = p } }

    module _ (size : ℕ) (d : StoreDisk) (p : Runs g table K h d []) (from : Node) (q : Request) (asked : IsAsked table K h from q) where
      responds : (outcome : Outcome) → IsOutcome g K h (record { client = q.client; table = q.table; row = q.row; number = q.number; outcome = outcome }) outcome
          → StoreLaw g table K h (sending d (responded from q outcome ∷ []))
      responds outcome k = sends_law d _ p ((asked.table_is, asked.way, k), tt)

      -- the whole agenda of the next item goes well
      accepts : (i : Stored) → IsNext g K h i → i.entry.client ≡ q.client → i.entry.number ≡ q.number → i.entry.row ≡ q.row → Runs g table K h d (accepting size table d.items from q i)
      accepts i n client number row = (p.0, inl here, (h, refl, tt, puts_run h opened (new_names size i) _ here placing))
        where
          later : List Stored
          later = h ++ i ∷ []

          opened : StoreDisk
          opened = changed d (Open i)

          placed : List ChunkName → StoreDisk
          placed left = record opened { items = d.items ++ i ∷ []; left = left }

          put_items : d.items ++ i ∷ [] ≡ later
          put_items = ap (λ (xs : List Stored). xs ++ i ∷ []) p.0.items

          same_item : (o : Stored) → Some i ≡ Some o → i ≡ o
          same_item o e = cc

          here : IsTold h opened
          here = record { items = p.0.items; open_entry = λ o at. inl (let e : i ≡ o = same_item o at in rw (← e) n.next) }

          there : (left : List ChunkName) → IsTold later (placed left)
          there left = record { items = put_items; open_entry = λ o at. inr (i, among_push h i, (let e : i ≡ o = same_item o at in ap (λ (y : Stored). y.entry.version) e)) }

          closing : (left : List ChunkName) → Runs g table K later (placed left)
              (record { change = Close; facts = []; sends = responded from q (messages.Accepted i.entry.version) ∷ [] } ∷ [])
          closing left =
              let shut : IsTold later (changed (placed left) Close) = told_closed later (placed left) put_items in (
                there left,
                inl shut,
                (
                  later,
                  refl,
                  ((asked.table_is, asked.way, (i, record { stands = among_push h i; client_is = client; number_is = number; row_is = row; version_is = refl })), tt),
                  (shut, refl),
                ),
              )

          placing : (left : List ChunkName) → Runs g table K h (record opened { left = left })
              (ends_with (Put i (names_with size i) (old_names size d.items i)) (facts.Accepted table i.entry) ∷ (drops (old_names size d.items i)
              ++ record { change = Close; facts = []; sends = responded from q (messages.Accepted i.entry.version) ∷ [] } ∷ []))
          placing left =
              let now : List ChunkName = without_names (names_with size i) left ++ old_names size d.items i in (
                told_with h opened left here,
                inr (record { item = i; pending = refl; items = put_items; next = n }),
                (
                  later,
                  (later, (refl, inl (i, refl, n, refl)), refl),
                  tt,
                  drops_run later (placed now) (old_names size d.items i) _ (there now) closing,
                ),
              )

      -- of this number or above it nothing of the client's on the row is accepted
      abbrev Above : Type 0
      Above = (o : Stored) → Among h o → o.entry.client ≡ q.client → o.entry.row ≡ q.row → o.entry.number < q.number

      takes_all : (x : Scheme) (b n : ℕ) → takes x b n ≡ true → x ≢ Eventual → b ≡ n
      takes_all Strong b n is exact = grind (arith, nat_tests)
      takes_all Causal b n is exact = grind (arith, nat_tests)
      takes_all Eventual b n is exact = absurd (exact refl)

      takes_not : (x : Scheme) (b n : ℕ) → takes x b n ≡ false → (b ≢ n) × (x ≢ Eventual)
      takes_not Strong b n is = ((λ e. absurd (grind (arith, nat_tests))), λ e. absurd cc)
      takes_not Causal b n is = ((λ e. absurd (grind (arith, nat_tests))), λ e. absurd cc)
      takes_not Eventual b n is = absurd cc

      late : Above → q.base ≢ latest h q.row → IsLate K h q.client q.row q.number (latest h q.row)
      late above apart =
          let low : q.base ≤ latest h q.row = base_low h q.row q.base l.counted asked.based in
          let last = latest_item h q.row (grind (arith, low, apart)) in
          record {
            base = q.base;
            content = q.content;
            known = asked.known;
            below = grind (arith, low, apart);
            item = last.0;
            is = last.1;
            none = λ i a client row same. absurd (let less = above i a client row in omega arith);
          }

      outdated_is : (x : Scheme) → g ≡ x → x ≢ Eventual → IsLate K h q.client q.row q.number (latest h q.row)
          → IsOutcome g K h (record { client = q.client; table = q.table; row = q.row; number = q.number; outcome = outdated x (latest h q.row) }) (outdated x (latest h q.row))
      outdated_is Strong is exact k = (is, k)
      outdated_is Causal is exact k = (is, k)
      outdated_is Eventual is exact k = absurd (exact refl)

      judged_law : Above → StoreLaw g table K h (judged g size table d from q (version_of (current_of d.items q.row)))
      judged_law above =
          subst (λ (xs : List Stored). StoreLaw g table K h (if takes g q.base (version_of (current_of xs q.row)) && keeps_there size xs q
          then quiet d (Some (accepting size table xs from q (item_for xs q))) facts.Done
          else sending d (responded from q (unaccepted g q.base (version_of (current_of xs q.row))) ∷ [])))
          (sym p.0.items) (go (takes g q.base (latest h q.row)) refl (keeps_there size h q))
        where
          next : takes g q.base (latest h q.row) ≡ true → IsNext g K h (item_for h q)
          next is = record {
            next = refl;
            known = asked.known;
            based = asked.based;
            over = λ exact. takes_all g q.base (latest h q.row) is exact;
            rises = above;
          }

          go : (b : Bool) → takes g q.base (latest h q.row) ≡ b → (there : Bool) → StoreLaw g table K h (if b && there
              then quiet d (Some (accepting size table h from q (item_for h q))) facts.Done
              else sending d (responded from q (if b then messages.NeedWhole else outdated g (latest h q.row)) ∷ []))
          go true is true = still d (Some (accepting size table h from q (item_for h q))) facts.Done
              (subst (λ (xs : List Stored). Runs g table K h d (accepting size table xs from q (item_for h q))) p.0.items (accepts (item_for h q) (next is) refl refl refl))
          go true is false = responds messages.NeedWhole tt
          go false is there =
              let k = takes_not g q.base (latest h q.row) is in
              responds (outdated g (latest h q.row)) (outdated_is g refl k.1 (late above k.0))

      decided_law : (o : Option Stored) → last_where (is_by q.client q.row) h ≡ o → StoreLaw g table K h (decided g size table d from q (pair_of o))
      decided_law None at = go (0 == q.number) refl
        where
          judge : (b : Bool) → nat_lt q.number 0 ≡ b → StoreLaw g table K h (if b
              then sending d (responded from q (messages.Late 0) ∷ []) else judged g size table d from q (version_of (current_of d.items q.row)))
          judge true is = absurd (grind (arith, nat_tests, is))
          judge false is = judged_law (λ o a client row. absurd (own_none q.client q.row h o at a client row))

          go : (b : Bool) → (0 == q.number) ≡ b → StoreLaw g table K h (if b then sending d (responded from q (messages.Again 0) ∷ [])
              else (if nat_lt q.number 0 then sending d (responded from q (messages.Late 0) ∷ []) else judged g size table d from q (version_of (current_of d.items q.row))))
          go true is = absurd (let positive = asked.positive in grind (arith, nat_tests, is, positive))
          go false is = judge (nat_lt q.number 0) refl
      decided_law (Some i) at = go (i.entry.number == q.number) refl
        where
          mine : Among h i × (i.entry.client ≡ q.client) × (i.entry.row ≡ q.row)
          mine = own_is q.client q.row h i at

          greatest : (o : Stored) → Among h o → o.entry.client ≡ q.client → o.entry.row ≡ q.row → o.entry.number ≤ i.entry.number
          greatest o a client row = grind (arith, mine.1, mine.2, client, row, own_last q.client q.row h i o l.counted at a client row, l.rises o i a mine.0, one_version 0 h o i l.counted a mine.0)

          judge : (b : Bool) → nat_lt q.number i.entry.number ≡ b → (i.entry.number == q.number) ≡ false → StoreLaw g table K h (if b
              then sending d (responded from q (messages.Late i.entry.number) ∷ []) else judged g size table d from q (version_of (current_of d.items q.row)))
          judge true is apart = responds (messages.Late i.entry.number) tt
          judge false is apart = judged_law (λ o a client row. grind (arith, nat_tests, greatest o a client row, is, apart))

          go : (b : Bool) → (i.entry.number == q.number) ≡ b → StoreLaw g table K h (if b then sending d (responded from q (messages.Again i.entry.version) ∷ [])
              else (if nat_lt q.number i.entry.number then sending d (responded from q (messages.Late i.entry.number) ∷ []) else judged g size table d from q (version_of (current_of d.items q.row))))
          go true is = responds (messages.Again i.entry.version)
              (i, record { stands = mine.0; client_is = mine.1; number_is = grind (arith, nat_tests, is); row_is = mine.2; version_is = refl })
          go false is = judge (nat_lt q.number i.entry.number) refl is

    -- ---- a pull

    yours : (c : ℕ) (row : List ℕ) (version : ℕ) → latest h row ≤ version → (o : Option Stored) → last_where (is_by c row) h ≡ o → IsYours c h row version (pair_of o)
    yours c row version up None at = record { all = λ o a client same le. absurd (own_none c row h o at a client same); is = inl (refl, refl) }
    yours c row version up (Some i) at =
        let m = own_is c row h i at in
        record {
          all = λ o a client same le. (
            grind (arith, m.1, m.2, client, same, own_last c row h i o l.counted at a client same, l.rises o i a m.0, one_version 0 h o i l.counted a m.0),
            own_last c row h i o l.counted at a client same,
          );
          is = inr (
            i,
            record { stands = m.0; client_is = m.1; number_is = refl; row_is = m.2; version_is = refl },
            (let low : i.entry.version ≤ latest h row = subst (λ (r : List ℕ). i.entry.version ≤ latest h r) m.2 (latest_most h i l.counted m.0) in omega arith),
          );
        }

    change_is : (c p : ℕ) (s : Stored) → next_changed p h ≡ Some s → IsChange c h p s.entry.version (header_for h c s)
    change_is c p s at =
        let k : IsNextChange p h s = next_is p 0 h s l.counted at in
        record {
          item = s;
          is = record { stands = k.stands; row_is = refl; version_is = refl };
          content = refl;
          to_is = refl;
          above = (let less = k.above_p in omega arith);
          yours = yours c s.entry.row s.entry.version (let last = k.last in omega arith) (last_where (is_by c s.entry.row) h) refl;
          others = k.others;
        }

    header_is : (pull : Pull) (o : Option Stored) → next_changed pull.position h ≡ o → IsHeader h (pulled_for h pull o) (option_map (header_for h pull.client) o)
    header_is pull None at = tt
    header_is pull (Some s) at = (change_is pull.client pull.position s at, (next_is pull.position 0 h s l.counted at).above_p)

    answered_law : (d : StoreDisk) (from : Node) (pull : Pull) → (pull.table ≡ table) × IsWayTo pull.client from → Runs g table K h d [] → StoreLaw g table K h (answered d from pull)
    answered_law d from pull fair p =
        let answer : Answers g table K h (record { to = Some from; message = PullResponse (pulled_for h pull (next_changed pull.position h)) } ∷ []) =
        ((fair.0, fair.1, header_is pull (next_changed pull.position h) refl), tt) in
        sends_law d _ p (rw p.0.items answer)

    -- ---- a row that is asked for whole

    row_is : (c : ℕ) (row : List ℕ) (s : Stored) → current_of h row ≡ Some s → IsRowFor c h (header_for h c s)
    row_is c row s at =
        let k = current_is h row s at in
        let here : latest h row ≤ s.entry.version = subst (λ (o : Option Stored). version_of o ≤ s.entry.version) (sym at) (omega arith) in
        let low : latest h s.entry.row ≤ s.entry.version = subst (λ (r : List ℕ). latest h r ≤ s.entry.version) (sym k.1) here in
        (s, record { stands = k.0; row_is = refl; version_is = refl }, refl, yours c s.entry.row s.entry.version low (last_where (is_by c s.entry.row) h) refl)

    torn_header_is : (torn : TornPull) (o : Option Stored) → current_of h torn.row ≡ o → IsTornHeader torn.client h (option_map (header_for h torn.client) o)
    torn_header_is torn None at = tt
    torn_header_is torn (Some s) at = row_is torn.client torn.row s at

    torn_law : (d : StoreDisk) (from : Node) (torn : TornPull) → (torn.table ≡ table) × IsWayTo torn.client from → Runs g table K h d [] → StoreLaw g table K h (torn_answered d from torn)
    torn_law d from torn fair p =
        let answer : Answers g table K h (record { to = Some from; message = TornRowResponse (torn_pulled_for h torn (current_of h torn.row)) } ∷ []) =
        ((fair.0, fair.1, torn_header_is torn (current_of h torn.row) refl), tt) in
        sends_law d _ p (rw p.0.items answer)

    -- a request is judged where it spells its chunks
    asked_law : (size : ℕ) (d : StoreDisk) (from : Node) (q : Request) → IsAsked table K h from q → Runs g table K h d [] → StoreLaw g table K h (asked g size table d from q)
    asked_law size d from q fair p = by_spelling (is_spelled size q.content q.pieces)
      where
        by_spelling : (b : Bool) → StoreLaw g table K h (if b then decided g size table d from q (yours_in d.items q.client q.row) else quiet d (Some []) facts.Done)
        by_spelling true =
            subst (λ (xs : List Stored). StoreLaw g table K h (decided g size table d from q (yours_in xs q.client q.row))) (sym p.0.items)
            (decided_law size d p from q fair (last_where (is_by q.client q.row) h) refl)
        by_spelling false = still d (Some []) facts.Done p

    take_law : (size : ℕ) (d : StoreDisk) (agenda : Option (List StoreTask)) (from : Node) (message : Message) → IsFair table K h (Take from message) → IsAt g table K h d agenda
        → StoreLaw g table K h (taken g size table d agenda from message)
    take_law size d None from message f p = still d None _ p
    take_law size d (Some (task ∷ more)) from message f p = still d (Some (task ∷ more)) _ p
    take_law size d (Some []) from (SyncResponse response) f p = still d (Some []) _ p
    take_law size d (Some []) from (PullResponse pulled) f p = still d (Some []) _ p
    take_law size d (Some []) from (PullRequest pull) f p = answered_law d from pull f p
    take_law size d (Some []) from (TornRowRequest torn) f p = torn_law d from torn f p
    take_law size d (Some []) from (TornRowResponse answer) f p = still d (Some []) _ p
    take_law size d (Some []) from (SyncRequest request) f p = asked_law size d from request f p

    -- ---- what is put beside the rows

    tells_beside : (put : SidePut) → TellsAll g table K h (told_beside table put) h
    tells_beside (PutState states.Draft) = refl
    tells_beside (PutState states.Live) = (h, refl, refl)
    tells_beside (PutState states.Dropped) = (h, refl, refl)
    tells_beside (PutSub client terms) = (h, refl, refl)

    told_put : (d : StoreDisk) (put : SidePut) → IsTold h d → IsTold h (put_beside d put)
    told_put d (PutState state) k = record { items = k.items; open_entry = k.open_entry }
    told_put d (PutSub client terms) k = record { items = k.items; open_entry = k.open_entry }

    closed_put : (d : StoreDisk) (put : SidePut) → d.pending ≡ None → (put_beside d put).pending ≡ None
    closed_put d (PutState state) e = e
    closed_put d (PutSub client terms) e = e

    place_law : (d : StoreDisk) (agenda : Option (List StoreTask)) (put : SidePut) → IsAt g table K h d agenda → StoreLaw g table K h (placed table d agenda put)
    place_law d None put p = still d None _ p
    place_law d (Some (task ∷ more)) put p = still d (Some (task ∷ more)) _ p
    place_law d (Some []) put p =
        let now : IsTold h (put_beside d put) = told_put d put p.0 in
        still d (Some (beside_task table put ∷ [])) facts.Done (p.0, inl now, (h, tells_beside put, tt, (now, closed_put d put p.1)))

  pub store_law : (store size : ℕ) (h : List Stored) (s : TableStore) (move : StoreMove) → IsFair table K h move → StorePart g table K h s → StoreLaw g table K h (store_step store g size table s move)
  store_law store size h s (Take from message) f p = take_law h p.lawful size s.disk s.agenda from message f p.state
  store_law store size h s (Place put) f p = place_law h p.lawful s.disk s.agenda put p.state
  store_law store size h s (Work luck) f p = work_law h p.lawful s.disk s.agenda luck p.state
  store_law store size h s (Crash luck) f p = crash_law h p.lawful s.disk s.agenda luck p.state
  store_law store size h s Start f p = start_law h p.lawful store s.disk s.agenda p.state
