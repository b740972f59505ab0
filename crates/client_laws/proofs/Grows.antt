-- A client's part stays under one more item of a table.
use Rattle.std.proofs.Common.{◌≢◌, ◌≡◌, ◌⊎◌, ℕ, ◌+◌, ◌≤◌, Bool, true, false, cond, length, List, [], ◌∷◌, ◌++◌, Option, Some, None, refl, sym, ap, subst, ◌∙◌, inl, inr, append-nil, arith}
use Rattle.std.specs.Prelude.{if◌then◌else◌, ◌==◌, nat_lt}
use Rattle.std.proofs.lemmas.Bool.Decides.{nat_tests}
use Rattle.std.proofs.lemmas.List.{length_push}
use Rattle.row_value.specs.declared.schema.Scheme.{Scheme}
use Rattle.row_value.specs.declared.schema.Scheme.TheVariants.{Strong, Causal, Eventual}
use Rattle.table_model.specs.declared.line.Write.{Write}
use Rattle.table_model.specs.History.{same_row}
use Rattle.step_tables.specs.Slots.{InFlight}
use Rattle.step_tables.specs.Slots.{Shadow}
use Rattle.step_tables.specs.Store.{Stored, current_of, is_of_row}
use Rattle.step_tables.specs.StoreMoves.{version_of}
use Rattle.step_tables.specs.Client.{version_in}
use Rattle.step_tables.specs.Facts.{Fact}
use Rattle.step_tables.specs.Members.{Among, put, put_at}
use Rattle.step_tables.specs.Messages.{Send, Message, SyncRequest, SyncResponse, PullRequest, PullResponse, TornRowRequest, TornRowResponse}
use Rattle.step_tables.specs.Sayings.{row_wrote, write_of, Saying, SaysNothing, SaysWrite, SaysEntry, SaysBack, SaysAck, SaysLoss, SaysConflict, SaysResolved, SaysRead, SaysPosition, saying, RowHeard}
use Rattle.step_tables.specs.Sayings.{Heard, own, own_all}
use Rattle.step_tables.specs.ClientMoves.{Slots, Plan, ClientDisk, ClientTask, Client, seen, applied, changed, told as told_by, retold, slots_of, position_of, top}
use Rattle.step_tables.specs.Items.{latest, IsItemOf, IsItemAt, IsBase}
use Rattle.step_tables.proofs.Lists.{among_left, among_cases, last_where-push, same_row_tells, find_left}
use Rattle.world_tables.specs.Again.{may_repeat}
use Rattle.client_laws.specs.Part.{Items, Sending, sendings, IsContent, Spans, IsAbove, IsOut, IsConflict, Fit, RowTied, TableTied, Tied, IsLapsed, Fits, IsPassed, IsOwn, AreOwn, IsRequest}
use Rattle.client_laws.specs.Part.{Requests, RestsOn, Runs, IsAt, ClientPart}

-- ---- the version of a row's last item

pub latest-push : (h : List Stored) (i : Stored) (row : List ℕ)
    → ((i.entry.row ≡ row) × (latest (h ++ i ∷ []) row ≡ i.entry.version)) ⊎ ((i.entry.row ≢ row) × (latest (h ++ i ∷ []) row ≡ latest h row))
latest-push h i row = by_row (same_row_tells i.entry.row row)
  where
    both : (b : Bool) → same_row i.entry.row row ≡ b → latest (h ++ i ∷ []) row ≡ version_of (cond b (Some i) (current_of h row))
    both b is = ap version_of (last_where-push (is_of_row row) h i) ∙ ap (λ (t : Bool). version_of (cond t (Some i) (current_of h row))) is

    by_row : ((same_row i.entry.row row ≡ true) × (i.entry.row ≡ row)) ⊎ ((same_row i.entry.row row ≡ false) × (i.entry.row ≢ row))
        → ((i.entry.row ≡ row) × (latest (h ++ i ∷ []) row ≡ i.entry.version)) ⊎ ((i.entry.row ≢ row) × (latest (h ++ i ∷ []) row ≡ latest h row))
    by_row (inl k) = inl (k.1, both true k.0)
    by_row (inr k) = inr (k.1, both false k.0)

-- ---- one table, behind its next item

module _ (g : Scheme) (c : ℕ) (h : List Stored) (next : Stored) (is_next : next.entry.version ≡ length h + 1) where
  longer : (n : ℕ) → n ≤ length h → n ≤ length (h ++ next ∷ [])
  longer n le = grind (arith, length_push)

  more : (i : Stored) → Among h i → Among (h ++ next ∷ []) i
  more i a = among_left h (next ∷ []) i a

  -- up to what stood before there are the old items
  old : (i : Stored) (n : ℕ) → n ≤ length h → i.entry.version ≤ n → Among (h ++ next ∷ []) i → Among h i
  old i n le up a = grind (arith, among_cases h next i a, is_next)

  item_grows : (row : List ℕ) (version : ℕ) (i : Stored) → IsItemAt h row version i → IsItemAt (h ++ next ∷ []) row version i
  item_grows row version i k = record { stands = more i k.stands; row_is = k.row_is; version_is = k.version_is }

  base_grows : (row : List ℕ) (base : ℕ) → IsBase h row base → IsBase (h ++ next ∷ []) row base
  base_grows row base (inl none) = inl none
  base_grows row base (inr k) = inr (k.0, item_grows row base k.0 k.1)

  content_grows : (row : List ℕ) (x : Shadow) → IsContent h row x → IsContent (h ++ next ∷ []) row x
  content_grows row x k = (k.0, item_grows row x.version k.0 k.1, k.2)

  spans_grow : (x : Scheme) (n : ℕ) (row : List ℕ) (read base : ℕ) → base ≤ length h → Spans x c n h row read base → Spans x c n (h ++ next ∷ []) row read base
  spans_grow Causal n row read base le k = λ i a here less up. k i (old i base le up a) here less up
  spans_grow Strong n row read base le k = k
  spans_grow Eventual n row read base le k = k

  above_grows : (row : List ℕ) (n v : ℕ) → v ≤ length h → IsAbove c h row n v → IsAbove c (h ++ next ∷ []) row n v
  above_grows row n v le f = λ i a client here number. grind (arith, among_cases h next i a, f i, is_next)

  module _ (table : ℕ) (row : List ℕ) where
    out_grows : (slots : Slots) (writes : List Write) (x : RowHeard) (o : InFlight) → version_in slots.shadow ≤ length h
        → IsOut g c h table row slots writes x o → IsOut g c (h ++ next ∷ []) table row slots writes x o
    out_grows slots writes x o low k =
        let le : o.base ≤ length h = let b = k.low in omega arith in
        record {
          written = k.written;
          low = k.low;
          base = base_grows row o.base k.base;
          spans = spans_grow g o.number row o.read o.base le k.spans;
          later = above_grows row o.number (version_in slots.shadow) low k.later;
          clear = k.clear;
          unlost = k.unlost;
          unacked = k.unacked;
          free = k.free;
          order = k.order;
        }

    conflict_grows : (slots : Slots) (x : RowHeard) (y : Shadow) → y.version ≤ length h → IsConflict g c h row slots x y → IsConflict g c (h ++ next ∷ []) row slots x y
    conflict_grows slots x y le k = record {
      causal = k.causal;
      content = content_grows row y k.content;
      above = k.above;
      main = k.main;
      in_main = k.in_main;
      named = k.named;
      later = above_grows row k.main.number y.version le k.later;
      idle = k.idle;
    }

    fit_grows : (slots : Slots) (writes : List Write) (x : RowHeard) (sent : List Sending) → top slots.conflict slots.shadow ≤ length h
        → Fit g c h table row slots writes x sent → Fit g c (h ++ next ∷ []) table row slots writes x sent
    fit_grows slots writes x sent up k = record {
      mine = k.mine;
      clear = k.clear;
      weak = k.weak;
      shadow = λ y at. content_grows row y (k.shadow y at);
      low = longer (version_in slots.shadow) k.low;
      out = λ o at. out_grows slots writes x o k.low (k.out o at);
      conflict = λ y at. conflict_grows slots x y (grind (arith, up, at)) (k.conflict y at);
      own = λ causal m is none i a here less below. k.own causal m is none i (old i (version_in slots.shadow) k.low below a) here less below;
      lower = k.lower;
      sent_out = k.sent_out;
      unsent = k.unsent;
    }

    pub row_grows : (slots : Slots) (writes : List Write) (x : RowHeard) (sent : List Sending) → RowTied g c h table row slots writes x sent
        → RowTied g c (h ++ next ∷ []) table row slots writes x sent
    row_grows slots writes x sent k = record {
      fit = fit_grows slots writes x sent (grind (arith, k.read, k.based)) k.fit;
      main = k.main;
      read = k.read;
      level = k.level;
      under = k.under;
      based = longer x.read k.based;
    }

  -- what a position covers is covered still
  covered_grows : (position : ℕ) (read : List ℕ → ℕ) → position ≤ length h → ((row : List ℕ) → latest h row ≤ position → read row ≡ latest h row)
      → (row : List ℕ) → latest (h ++ next ∷ []) row ≤ position → read row ≡ latest (h ++ next ∷ []) row
  covered_grows position read low covered row le = elim (latest-push h next row) [
    | inl k ↦ absurd (let e = k.1 in omega (arith, le, e, is_next, low))
    | inr k ↦ (let e = k.1 in covered row (omega (arith, le, e)) ∙ sym e)
  ]

  pub table_grows : (table position : ℕ) (t : Heard) → TableTied h table position t → TableTied (h ++ next ∷ []) table position t
  table_grows table position t k = record {
    told = k.told;
    low = longer position k.low;
    covered = covered_grows position (λ row. (t.at table row).read) k.low k.covered;
  }

-- ---- writes by their numbers

pub some_is : {X : Type 0} (x y : X) → Some x ≡ Some y → x ≡ y
some_is x y e = cc

-- one write more
abbrev pub added : Heard → Write → Heard
added t write = record t {
  writes = t.writes ++ write ∷ [];
  at = put_at t.at write.table write.row (row_wrote write (t.at write.table write.row));
}

pub write_of-left : (n : ℕ) (w : Write) (ws more : List Write) → write_of n ws ≡ Some w → write_of n (ws ++ more) ≡ Some w
write_of-left n w ws more at = find_left (λ (x : Write). x.number == n) ws more w at

-- what was written stays written
pub written_stays : (t : Heard) (x : Saying) (n : ℕ) (w : Write) → write_of n t.writes ≡ Some w → write_of n (own t x).writes ≡ Some w
written_stays t SaysNothing n w at = at
written_stays t (SaysWrite write) n w at = by_test (nat_lt (length t.writes) write.number)
  where
    by_test : (b : Bool) → write_of n (if b then added t write else t).writes ≡ Some w
    by_test true = write_of-left n w t.writes (write ∷ []) at
    by_test false = at
written_stays t (SaysEntry table entry) n w at = at
written_stays t (SaysBack table version) n w at = at
written_stays t (SaysAck client number table row version) n w at = at
written_stays t (SaysLoss client number table row latest) n w at = at
written_stays t (SaysConflict client number table row version) n w at = at
written_stays t (SaysResolved client number table row version) n w at = at
written_stays t (SaysRead client table row version) n w at = at
written_stays t (SaysPosition client table position) n w at = at

pub written_on : (t : Heard) (fs : List Fact) (n : ℕ) (w : Write) → write_of n t.writes ≡ Some w → write_of n (own_all t fs).writes ≡ Some w
written_on t [] n w at = at
written_on t (f ∷ fs) n w at = written_on (own t (saying f)) fs n w (written_stays t (saying f) n w at)

-- ---- all tables

module _ (g : ℕ → Scheme) (c : ℕ) (h : Items) (table : ℕ) (next : Stored) (bound : (row : List ℕ) → latest (h table) row ≤ length (h table)) where
  abbrev grown : Items
  grown = put h table (h table ++ next ∷ [])

  -- what fits what was told and sent fits what is told and sent behind it
  fits_on : (sent some : List Sending) (t : Heard) (fs : List Fact) → Fits g c h sent t table next → Fits g c h (sent ++ some) (own_all t fs) table next
  fits_on sent some t fs k = record {
    next = k.next;
    bound = k.bound;
    written = λ client. let w = k.written client in (w.0, written_on t fs next.entry.number w.0 w.1, w.2, w.3);
    over = λ exact client. among_left sent some _ (k.over exact client);
  }

  -- what holds of the items of each table, where it stays under the next
  at_table : (P : List Stored → Type 0) (q : ℕ) → P (h q) → (q ≡ table → P (h q ++ next ∷ [])) → P (grown q)
  at_table P q k f = by_test (q == table) refl
    where
      by_test : (b : Bool) → (q == table) ≡ b → P (if b then h table ++ next ∷ [] else h q)
      by_test true is = let same : q ≡ table = grind (arith, nat_tests, is) in subst (λ (x : ℕ). P (h x ++ next ∷ [])) same (f same)
      by_test false is = k

  bound_of : (q : ℕ) (row : List ℕ) → q ≡ table → latest (h q) row ≤ length (h q)
  bound_of q row same = subst (λ (x : ℕ). latest (h x) row ≤ length (h x)) (sym same) (bound row)

  -- an item of any table: it stood before, or is the next
  among_grown : (q : ℕ) (i : Stored) → Among (grown q) i → Among (h q) i ⊎ ((q ≡ table) × (next ≡ i))
  among_grown q i = at_table (λ items. Among items i → Among (h q) i ⊎ ((q ≡ table) × (next ≡ i))) q (λ a. inl a)
      (λ same a. elim (among_cases (h q) next i a) [ inl b ↦ inl b | inr e ↦ inr (same, e) ])

  stays : (q : ℕ) (i : Stored) → Among (h q) i → Among (grown q) i
  stays q i a = at_table (λ items. Among items i) q a (λ same. among_left (h q) (next ∷ []) i a)

  item_stays : (q : ℕ) (row : List ℕ) (version : ℕ) (i : Stored) → IsItemAt (h q) row version i → IsItemAt (grown q) row version i
  item_stays q row version i k = record { stands = stays q i k.stands; row_is = k.row_is; version_is = k.version_is }

  item_of_stays : (q n : ℕ) (row : List ℕ) (version : ℕ) (i : Stored) → IsItemOf (h q) c n row version i → IsItemOf (grown q) c n row version i
  item_of_stays q n row version i k =
      record { stands = stays q i k.stands; client_is = k.client_is; number_is = k.number_is; row_is = k.row_is; version_is = k.version_is }

  module _ (is_next : next.entry.version ≡ length (h table) + 1) where
    next_of : (q : ℕ) → q ≡ table → next.entry.version ≡ length (h q) + 1
    next_of q same = subst (λ (x : ℕ). next.entry.version ≡ length (h x) + 1) (sym same) is_next

    latest_rises : (q : ℕ) (row : List ℕ) → latest (h q) row ≤ latest (grown q) row
    latest_rises q row = at_table (λ items. latest (h q) row ≤ latest items row) q (omega arith) (λ same. elim (latest-push (h q) next row) [
      | inl k ↦ (let e = k.1 in let n = next_of q same in let low = bound_of q row same in omega (arith, e, n, low))
      | inr k ↦ (let e = k.1 in omega (arith, e))
    ])

    longer_of : (q n : ℕ) → n ≤ length (h q) → n ≤ length (grown q)
    longer_of q n le = at_table (λ items. n ≤ length items) q le (λ same. longer (g q) c (h q) next (next_of q same) n le)

    lapsed_stays : (sent : List Sending) (t : Heard) (n : ℕ) (w : Write) → Fits g c h sent t table next → write_of n t.writes ≡ Some w → g w.table ≢ Eventual
        → IsLapsed c h sent n → IsLapsed c grown sent n
    lapsed_stays sent t n w fits at exact k = record {
      below = λ r a e. let less = k.below r a e in let rises = latest_rises r.table r.row in omega (arith, less, rises);
      none = λ q i a client same. elim (among_grown q i a) [
        | inl b ↦ k.none q i b client same
        | inr e ↦ is_lapsed i e.1 client same
      ];
    }
      where
        is_lapsed : (i : Stored) → next ≡ i → i.entry.client ≡ c → i.entry.number ≡ n → ⊥
        is_lapsed i e client same =
            let mine : next.entry.client ≡ c = subst (λ (x : Stored). x.entry.client ≡ c) (sym e) client in
            let number : next.entry.number ≡ n = subst (λ (x : Stored). x.entry.number ≡ n) (sym e) same in
            let own = fits.written mine in
            let one : Some own.0 ≡ Some w = sym own.1 ∙ (ap (λ (x : ℕ). write_of x t.writes) number ∙ at) in
            let table_is : w.table ≡ table = (let s : own.0 ≡ w = some_is own.0 w one in subst (λ (x : Write). x.table ≡ table) s own.2) in
            let less = k.below (record { table = table; row = next.entry.row; number = next.entry.number; base = latest (h table) next.entry.row })
            (fits.over (subst (λ (x : ℕ). g x ≢ Eventual) table_is exact) mine) number in
            absurd (omega (arith, less))

    tied_grows : (sent : List Sending) (d : ClientDisk) (t : Heard) → Tied g c h sent d t → Tied g c grown sent d t
    tied_grows sent d t k = record {
      last = k.last;
      rows = λ q row. at_table (λ items. RowTied (g q) c items q row (slots_of d q row) t.writes (t.at q row) sent) q (k.rows q row)
          (λ same. row_grows (g q) c (h q) next (next_of q same) q row (slots_of d q row) t.writes (t.at q row) sent (k.rows q row));
      tables = λ q. at_table (λ items. TableTied items q (position_of d q) t) q (k.tables q)
          (λ same. table_grows (g q) c (h q) next (next_of q same) q (position_of d q) t (k.tables q));
      opened = k.opened;
    }

    passed_grows : (sent : List Sending) (t : Heard) (n q : ℕ) (row : List ℕ) (version : ℕ) → Fits g c h sent t table next → g q ≢ Eventual
        → (k : IsPassed c h sent t n q row version) → IsPassed c grown sent t n q row version
    passed_grows sent t n q row version fits exact k = record {
      write = k.write;
      written = k.written;
      by = k.by;
      table_is = k.table_is;
      row_is = k.row_is;
      above = k.above;
      item = k.item;
      stands = item_stays q row version k.item k.stands;
      lapsed = lapsed_stays sent t n k.write fits k.written (subst (λ (x : ℕ). g x ≢ Eventual) (sym k.table_is) exact) k.lapsed;
    }

    covers : (q position : ℕ) (read : List ℕ → ℕ) → position ≤ length (h q) → ((row : List ℕ) → latest (h q) row ≤ position → read row ≡ latest (h q) row)
        → (row : List ℕ) → latest (grown q) row ≤ position → read row ≡ latest (grown q) row
    covers q position read low k = at_table (λ items. (row : List ℕ) → latest items row ≤ position → read row ≡ latest items row) q k
        (λ same. covered_grows (g q) c (h q) next (next_of q same) position read low k)

    own_grows : (sent : List Sending) (t : Heard) (again : Bool) (x : Saying) → Fits g c h sent t table next → IsOwn g c h sent t again x → IsOwn g c grown sent t again x
    unfolding passed_grows
    own_grows sent t again SaysNothing fits k = tt
    own_grows sent t again (SaysWrite write) fits k = k
    own_grows sent t again (SaysEntry q entry) fits k = absurd k
    own_grows sent t again (SaysBack q version) fits k = absurd k
    own_grows sent t again (SaysAck client n q row version) fits k = (k.0, (k.1.0, item_of_stays q n row version k.1.0 k.1.1), k.2)
    own_grows sent t again (SaysLoss client n q row version) fits k = (k.0, k.1, passed_grows sent t n q row version fits (λ e. absurd (let s = k.1 in cc)) k.2, k.3)
    own_grows sent t again (SaysConflict client n q row version) fits k =
        (k.0, k.1, (passed_grows sent t n q row version fits (λ e. absurd (let s = k.1 in cc)) k.2.0, k.2.1), k.3)
    own_grows sent t again (SaysResolved client n q row version) fits k = k
    own_grows sent t again (SaysRead client q row version) fits k = (k.0, (k.1.0, item_stays q row version k.1.0 k.1.1, k.1.2))
    own_grows sent t again (SaysPosition client q position) fits k =
        (k.0, k.1, covers q position (λ row. (t.at q row).read) k.3 k.2, longer_of q position k.3)

    all_grow : (sent : List Sending) (t : Heard) (fs : List Fact) → Fits g c h sent t table next → AreOwn g c h sent t fs → AreOwn g c grown sent t fs
    all_grow sent t [] fits k = tt
    all_grow sent t (f ∷ fs) fits k = (
      own_grows sent t (may_repeat f) (saying f) fits k.0,
      all_grow sent (own t (saying f)) fs (subst (λ (s : List Sending). Fits g c h s (own t (saying f)) table next) (append-nil sent) (fits_on sent [] t (f ∷ []) fits)) k.1,
    )

    base_stays : (q : ℕ) (row : List ℕ) (base : ℕ) → IsBase (h q) row base → IsBase (grown q) row base
    base_stays q row base (inl none) = inl none
    base_stays q row base (inr k) = inr (k.0, item_stays q row base k.0 k.1)

    request_grows : (t : Heard) (send : Send) (m : Message) → IsRequest g c h t send m → IsRequest g c grown t send m
    request_grows t send (SyncRequest r) k = (
      k.0,
      record {
        client_is = k.1.client_is;
        write = k.1.write;
        written = k.1.written;
        table_is = k.1.table_is;
        row_is = k.1.row_is;
        content_is = k.1.content_is;
        base = base_stays r.table r.row r.base k.1.base;
        spans = at_table (λ items. Spans (g r.table) c r.number items r.row k.1.write.read r.base) r.table k.1.spans
            (λ same. spans_grow (g r.table) c (h r.table) next (next_of r.table same) (g r.table) r.number r.row k.1.write.read r.base k.1.low k.1.spans);
        low = longer_of r.table r.base k.1.low;
        clear = k.1.clear;
        unlost = k.1.unlost;
      },
    )
    request_grows t send (PullRequest pull) k = k
    request_grows t send (SyncResponse response) k = absurd k
    request_grows t send (PullResponse pulled) k = absurd k
    request_grows t send (TornRowRequest torn) k = k
    request_grows t send (TornRowResponse answer) k = absurd k

    requests_grow : (t : Heard) (sends : List Send) → Requests g c h t sends → Requests g c grown t sends
    requests_grow t [] k = tt
    requests_grow t (send ∷ more) k = (request_grows t send send.message k.0, requests_grow t more k.1)

    rests_grow : (sent : List Sending) (d : ClientDisk) (t : Heard) (o : Option Plan) → Fits g c h sent t table next
        → RestsOn g c h sent d t o → RestsOn g c grown sent d t o
    rests_grow sent d t None fits k = tied_grows sent d t k
    rests_grow sent d t (Some p) fits k =
        let behind = subst (λ (s : List Sending). Fits g c h s (own_all t (told_by p)) table next) (append-nil sent) (fits_on sent [] t (told_by p) fits) in
        record {
          now = all_grow sent t (retold p) fits k.now;
          again = all_grow sent (own_all t (told_by p)) (retold p) behind k.again;
          same = k.same;
          tied = tied_grows sent (applied p d) (own_all t (told_by p)) k.tied;
        }

    runs_grow : (sent : List Sending) (d : ClientDisk) (t : Heard) (agenda : List ClientTask) → Fits g c h sent t table next
        → Runs g c h sent d t agenda → Runs g c grown sent d t agenda
    runs_grow sent d t [] fits k = (tied_grows sent d t k.0, k.1)
    runs_grow sent d t (task ∷ more) fits k =
        let after : ClientDisk = changed d task.change in (
          tied_grows sent (seen d) t k.0,
          rests_grow sent d t d.plan fits k.1,
          rests_grow sent after t after.plan fits k.2,
          all_grow sent t task.facts fits k.3,
          requests_grow (own_all t task.facts) task.sends k.4,
          runs_grow (sent ++ sendings task.sends) after (own_all t task.facts) more (fits_on sent (sendings task.sends) t task.facts fits) k.5,
        )

    part_grows : (sent : List Sending) (d : ClientDisk) (t : Heard) (agenda : Option (List ClientTask)) → Fits g c h sent t table next
        → IsAt g c h sent d t agenda → IsAt g c grown sent d t agenda
    part_grows sent d t None fits k = rests_grow sent d t d.plan fits k
    part_grows sent d t (Some agenda) fits k = runs_grow sent d t agenda fits k

-- a client's part survives one more item of a table that fits what it told and sent
pub client_grows : (g : ℕ → Scheme) (c : ℕ) (h : Items) (sent : List Sending) (t : Heard) (s : Client) (table : ℕ) (i : Stored)
    → Fits g c h sent t table i → ClientPart g c h sent t s → ClientPart g c (put h table (h table ++ i ∷ [])) sent t s
client_grows g c h sent t s table i fits k = part_grows g c h table i fits.bound fits.next sent s.disk t s.agenda fits k

-- a lapsed write of a table that isn't eventual stays so
pub lapsed_grows : (g : ℕ → Scheme) (c : ℕ) (h : Items) (sent : List Sending) (t : Heard) (table : ℕ) (i : Stored) (n : ℕ) (w : Write)
    → Fits g c h sent t table i → write_of n t.writes ≡ Some w → g w.table ≢ Eventual
    → IsLapsed c h sent n → IsLapsed c (put h table (h table ++ i ∷ [])) sent n
lapsed_grows g c h sent t table i n w fits at exact k = lapsed_stays g c h table i fits.bound fits.next sent t n w fits at exact k
