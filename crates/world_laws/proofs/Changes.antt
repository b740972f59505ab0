-- What a client's sayings and sends make of what is said, and of what is known of it.
use Rattle.std.proofs.Common.{◌≡◌, ◌≢◌, ◌⊎◌, ℕ, ◌+◌, ◌<◌, ◌≤◌, Bool, true, false, List, [], ◌∷◌, ◌++◌, length, Option, Some, None, refl, sym, ap, ◌∙◌, subst, arith, inl, inr, ⊎_elim, true≢false}
use Rattle.std.specs.Prelude.{map, option_map, nat_lt, ◌==◌, if◌then◌else◌}
use Rattle.std.proofs.lemmas.Bool.Decides.{nat_tests}
use Rattle.row_value.specs.declared.schema.Scheme.{Scheme}
use Rattle.row_value.specs.declared.schema.Scheme.TheVariants.{Strong, Causal, Eventual}
use Rattle.table_model.specs.declared.entry.Entry.{Entry}
use Rattle.table_model.specs.declared.line.Write.{Write}
use Rattle.table_model.specs.History.{current}
use Rattle.table_model.specs.History as history
use Rattle.step_tables.specs.Store.{Stored, entries_of, current_of, is_of_row}
use Rattle.step_tables.specs.Facts.{Fact}
use Rattle.step_tables.specs.Members.{Among, put, put_at}
use Rattle.step_tables.specs.Messages.{Request, Message, Send, SyncRequest, SyncResponse, PullRequest, PullResponse, TornRowRequest, TornRowResponse}
use Rattle.step_tables.specs.StoreMoves.{version_of}
use Rattle.step_tables.specs.Items.{latest, IsItemOf, IsItemAt}
use Rattle.step_tables.specs.Sayings.{Saying, SaysNothing, SaysWrite, SaysEntry, SaysBack, SaysAck, SaysLoss, SaysConflict, SaysResolved, SaysRead, SaysPosition, saying, RowHeard, Heard, own, own_all}
use Rattle.step_tables.specs.Sayings.{at_row, wrote, row_wrote, row_acked, row_lost, row_met, row_resolved, row_saw, Said, hear, hear_all, at_client, write_of, open_of}
use Rattle.step_tables.proofs.Lists.{among_push, among_left, among_right, among_cases, among_either, among_none, among_cons, among_here, among_next, among_map, among_mapped, last_where-map}
use Rattle.step_tables.proofs.Maps.{put_here, put_apart, put_cases, place_cases}
use Rattle.client_laws.specs.Part.{Items, Sending, sending_in, sendings, IsLapsed, IsOwn, AreOwn, IsSending, IsRequest, Requests}
use Rattle.client_laws.specs.Part as part
use Rattle.world_tables.specs.Again.{may_repeat}
use Rattle.world_tables.specs.Sound.{IsWrite, IsEntryAt, HasNoEntry, IsPassed, IsMet, IsSaid}
use Rattle.world_laws.proofs.Told.{write_of-left}
use Rattle.world_laws.proofs.Kept.{IsGood, IsGone, IsLost}
use Rattle.world_laws.proofs.Lines.{FactsSaid}

-- ---- histories and items

entry_in : Stored → Entry
entry_in i = i.entry

pub stands : (h : List Stored) (i : Stored) → Among h i → Among (entries_of h) i.entry
stands h i a = among_map (λ (s : Stored). s.entry) h i a

pub item_of : (h : List Stored) (e : Entry) → Among (entries_of h) e → (i : Stored) × Among h i × (i.entry ≡ e)
item_of h e a = among_mapped (λ (s : Stored). s.entry) h e a

pub current_is : (h : List Stored) (row : List ℕ) → current (entries_of h) row ≡ latest h row
current_is h row = ap history.version_of (last_where-map (history.is_of_row row) (λ (s : Stored). s.entry) h) ∙ same (current_of h row)
  where
    same : (o : Option Stored) → history.version_of (option_map (λ (s : Stored). s.entry) o) ≡ version_of o
    same None = refl
    same (Some i) = refl

-- ---- writes only come

pub own_writes : (t : Heard) (x : Saying) (n : ℕ) (w : Write) → write_of n t.writes ≡ Some w → write_of n (own t x).writes ≡ Some w
own_writes t (SaysWrite v) n w at = go (nat_lt (length t.writes) v.number)
  where
    go : (b : Bool) → write_of n (if b then record t {
      writes = t.writes ++ v ∷ [];
      at = put_at t.at v.table v.row (row_wrote v (t.at v.table v.row));
    } else t).writes ≡ Some w
    go true = write_of-left n t.writes (v ∷ []) w at
    go false = at
own_writes t SaysNothing n w at = at
own_writes t (SaysEntry table e) n w at = at
own_writes t (SaysBack table v) n w at = at
own_writes t (SaysAck c m table row v) n w at = at
own_writes t (SaysLoss c m table row v) n w at = at
own_writes t (SaysConflict c m table row v) n w at = at
own_writes t (SaysResolved c m table row v) n w at = at
own_writes t (SaysRead c table row v) n w at = at
own_writes t (SaysPosition c table p) n w at = at

pub all_writes : (t : Heard) (some : List Fact) (n : ℕ) (w : Write) → write_of n t.writes ≡ Some w → write_of n (own_all t some).writes ≡ Some w
all_writes t [] n w at = at
all_writes t (fact ∷ more) n w at = all_writes (own t (saying fact)) more n w (own_writes t (saying fact) n w at)

module _ (g : ℕ → Scheme) (c : ℕ) (h : Items) (sent : List Sending) where
  -- ---- what is told is so

  record Says (s : Said) (again : Bool) (x : Saying) : Type 0 where
    is : IsSaid g s again x
    history : (hear s x).history ≡ s.history
    here : (hear s x).heard c ≡ own (s.heard c) x
    elsewhere : (q : ℕ) → q ≢ c → (hear s x).heard q ≡ s.heard q

  at_here : (s : Said) (client : ℕ) (x : Saying) → client ≡ c → (at_client s client x).heard c ≡ own (s.heard c) x
  at_here s client x e = rw e (put_here s.heard c (own (s.heard c) x))

  at_elsewhere : (s : Said) (client : ℕ) (x : Saying) → client ≡ c → (q : ℕ) → q ≢ c → (at_client s client x).heard q ≡ s.heard q
  at_elsewhere s client x e q apart = rw e (put_apart s.heard c (own (s.heard c) x) q apart)

  no_entry : (s : Said) (n : ℕ) → ((table : ℕ) → s.history table ≡ entries_of (h table)) → IsLapsed c h sent n → HasNoEntry s c n
  no_entry s n same l table e a client number =
      let m = item_of (h table) e (rw (same table) at a) in
      l.none table m.0 m.1 (ap (λ (x : Entry). x.client) m.2 ∙ client) (ap (λ (x : Entry). x.number) m.2 ∙ number)

  entry_at : (s : Said) (table : ℕ) (row : List ℕ) (v : ℕ) (i : Stored) → ((q : ℕ) → s.history q ≡ entries_of (h q)) → IsItemAt (h table) row v i → IsEntryAt s table row v i.entry
  entry_at s table row v i same k = record { stands = rw (same table) (stands (h table) i k.stands); row_is = k.row_is; version_is = k.version_is }

  passed_is : (s : Said) (client n table : ℕ) (row : List ℕ) (v : ℕ) → ((q : ℕ) → s.history q ≡ entries_of (h q)) → client ≡ c
      → (p : part.IsPassed c h sent (s.heard c) n table row v) → IsPassed s client n table row v
  passed_is s client n table row v same e p = rw e here
    where
      here : IsPassed s c n table row v
      here = record {
        write = p.write;
        written = record { told = p.written; by = p.by; table_is = p.table_is; row_is = p.row_is };
        above = p.above;
        entry = p.item.entry;
        stands = entry_at s table row v p.item same p.stands;
        none = no_entry s n same p.lapsed;
      }

  met_is : (s : Said) (client n table : ℕ) (row : List ℕ) (v : ℕ) → ((q : ℕ) → s.history q ≡ entries_of (h q)) → client ≡ c → g table ≡ Causal
      → (p : part.IsPassed c h sent (s.heard c) n table row v) → p.item.entry.client ≢ c → IsMet (g table) s client n table row v
  unfolding passed_is
  met_is s client n table row v same e causal p other = rw e here
    where
      here : IsMet (g table) s c n table row v
      here = record { causal = causal; passed = passed_is s c n table row v same refl p; other = other }

  one : (s : Said) → ((table : ℕ) → s.history table ≡ entries_of (h table)) → (again : Bool) (x : Saying) → IsOwn g c h sent (s.heard c) again x → Says s again x
  one s same again SaysNothing k = record { is = tt; history = refl; here = refl; elsewhere = λ q apart. refl }
  one s same again (SaysWrite w) k = record {
    is = subst (λ (q : ℕ). ((w.number ≡ length (s.heard q).writes + 1) × (w.read ≡ ((s.heard q).at w.table w.row).shadow))
        ⊎ ((again ≡ true) × (write_of w.number (s.heard q).writes ≡ Some w))) (sym k.0) k.1;
    history = refl;
    here = at_here s w.client (SaysWrite w) k.0;
    elsewhere = at_elsewhere s w.client (SaysWrite w) k.0;
  }
  one s same again (SaysEntry table e) k = absurd k
  one s same again (SaysBack table v) k = absurd k
  one s same again (SaysAck client n table row v) k = record {
    is = (
      (k.1.0.entry, record { stands = rw (same table) (stands (h table) k.1.0 k.1.1.stands); row_is = k.1.1.row_is; version_is = k.1.1.version_is }, k.1.1.client_is ∙ sym k.0, k.1.1.number_is),
      rw k.0 k.2,
    );
    history = refl;
    here = at_here s client (SaysAck client n table row v) k.0;
    elsewhere = at_elsewhere s client (SaysAck client n table row v) k.0;
  }
  one s same again (SaysLoss client n table row v) k = record {
    is = (k.1, passed_is s client n table row v same k.0 k.2, rw k.0 k.3);
    history = refl;
    here = at_here s client (SaysLoss client n table row v) k.0;
    elsewhere = at_elsewhere s client (SaysLoss client n table row v) k.0;
  }
  one s same again (SaysConflict client n table row v) k = record {
    is = (met_is s client n table row v same k.0 k.1 k.2.0 k.2.1, rw k.0 k.3);
    history = refl;
    here = at_here s client (SaysConflict client n table row v) k.0;
    elsewhere = at_elsewhere s client (SaysConflict client n table row v) k.0;
  }
  one s same again (SaysResolved client n table row v) k = record {
    is = rw k.0 (k.1, k.2, k.3);
    history = refl;
    here = at_here s client (SaysResolved client n table row v) k.0;
    elsewhere = at_elsewhere s client (SaysResolved client n table row v) k.0;
  }
  one s same again (SaysRead client table row v) k = record {
    is = (k.1.0.entry, entry_at s table row v k.1.0 same k.1.1, rw k.0 k.1.2);
    history = refl;
    here = at_here s client (SaysRead client table row v) k.0;
    elsewhere = at_elsewhere s client (SaysRead client table row v) k.0;
  }
  one s same again (SaysPosition client table p) k = record {
    is = rw (k.0, same table) (k.1, λ row. rw (current_is (h table) row) (k.2 row));
    history = refl;
    here = at_here s client (SaysPosition client table p) k.0;
    elsewhere = at_elsewhere s client (SaysPosition client table p) k.0;
  }

  pub record SaysAll (s : Said) (some : List Fact) : Type 0 where
    pub are : FactsSaid g s some
    pub history : (hear_all s some).history ≡ s.history
    pub here : (hear_all s some).heard c ≡ own_all (s.heard c) some
    pub elsewhere : (q : ℕ) → q ≢ c → (hear_all s some).heard q ≡ s.heard q

  pub all : (s : Said) → ((table : ℕ) → s.history table ≡ entries_of (h table)) → (some : List Fact) → AreOwn g c h sent (s.heard c) some → SaysAll s some
  all s same [] k = record { are = tt; history = refl; here = refl; elsewhere = λ q apart. refl }
  all s same (fact ∷ more) k =
      let first : Says s (may_repeat fact) (saying fact) = one s same (may_repeat fact) (saying fact) k.0 in
      let then_own : AreOwn g c h sent ((hear s (saying fact)).heard c) more = subst (λ (t : Heard). AreOwn g c h sent t more) (sym first.here) k.1 in
      let rest : SaysAll (hear s (saying fact)) more = all (hear s (saying fact)) (λ table. ap (λ (f : ℕ → List Entry). f table) first.history ∙ same table) more then_own in
      record {
        are = (first.is, rest.are);
        history = rest.history ∙ first.history;
        here = rest.here ∙ ap (λ (t : Heard). own_all t more) first.here;
        elsewhere = λ q apart. rest.elsewhere q apart ∙ first.elsewhere q apart;
      }

  -- ---- what was sent stays good

  pub good_all : (t : Heard) (some : List Fact) (r : Sending) → IsGood g c h t r → IsGood g c h (own_all t some) r
  good_all t some r k = record {
    write = k.write;
    written = all_writes t some r.number k.write k.written;
    table_is = k.table_is;
    row_is = k.row_is;
    base = k.base;
    spans = k.spans;
    low = k.low;
  }

  pub good_sends : (t : Heard) (sends : List Send) → Requests g c h t sends → (r : Sending) → Among (sendings sends) r → IsGood g c h t r
  good_sends t [] k r a = absurd (among_none r a)
  good_sends t (send ∷ more) k r a = ⊎_elim (λ b. one_good send.message k.0 b) (λ b. good_sends t more k.1 r b) (among_either (sending_in send.message) (sendings more) r a)
    where
      one_good : (m : Message) → IsRequest g c h t send m → Among (sending_in m) r → IsGood g c h t r
      one_good (SyncRequest q) k b = ⊎_elim (λ e. subst (λ (x : Sending). IsGood g c h t x) e (record {
        write = k.1.write;
        written = k.1.written;
        table_is = k.1.table_is;
        row_is = k.1.row_is;
        base = k.1.base;
        spans = k.1.spans;
        low = k.1.low;
      })) (λ d. absurd (among_none r d)) (among_cons _ [] r b)
      one_good (SyncResponse x) k b = absurd k
      one_good (PullRequest x) k b = absurd (among_none r b)
      one_good (PullResponse x) k b = absurd k
      one_good (TornRowRequest x) k b = absurd (among_none r b)
      one_good (TornRowResponse x) k b = absurd k

  -- ---- what is lost is so for good

  abbrev pub AreGone : Heard → Type 0
  AreGone t = (table : ℕ) (row : List ℕ) (n : ℕ) → IsLost t table row n → IsGone g c h sent t table row n

  gone_on : (t : Heard) (x : Saying) (table : ℕ) (row : List ℕ) (n : ℕ) → IsGone g c h sent t table row n → IsGone g c h sent (own t x) table row n
  gone_on t x table row n k = record { exact = k.exact; write = k.write; written = own_writes t x n k.write k.written; table_is = k.table_is; row_is = k.row_is; lapsed = k.lapsed }

  -- a change of one row that loses this number alone
  row_gone : (t : Heard) (table : ℕ) (row : List ℕ) (y : RowHeard)
      → ((n : ℕ) → ((version : ℕ) × (y.conflict n ≡ Some version)) ⊎ (y.lost n ≡ true) → IsGone g c h sent t table row n) → AreGone t
      → AreGone (record t { at = put_at t.at table row y })
  row_gone t table row y f k q r n lost = go (place_cases t.at table row y q r) lost
    where
      again : (m : ℕ) (x : List ℕ) → IsGone g c h sent t m x n → IsGone g c h sent (record t { at = put_at t.at table row y }) m x n
      again m x z = record { exact = z.exact; write = z.write; written = z.written; table_is = z.table_is; row_is = z.row_is; lapsed = z.lapsed }

      go : ((q ≡ table) × (r ≡ row) × (put_at t.at table row y q r ≡ y)) ⊎ (((q ≢ table) ⊎ (r ≢ row)) × (put_at t.at table row y q r ≡ t.at q r))
          → ((version : ℕ) × ((put_at t.at table row y q r).conflict n ≡ Some version)) ⊎ ((put_at t.at table row y q r).lost n ≡ true)
          → IsGone g c h sent (record t { at = put_at t.at table row y }) q r n
      go (inl e) (inl v) = rw (e.0, e.1) (again table row (f n (inl (v.0, sym (ap (λ (x : RowHeard). x.conflict n) e.2) ∙ v.1))))
      go (inl e) (inr v) = rw (e.0, e.1) (again table row (f n (inr (sym (ap (λ (x : RowHeard). x.lost n) e.2) ∙ v))))
      go (inr e) (inl v) = again q r (k q r n (inl (v.0, sym (ap (λ (x : RowHeard). x.conflict n) e.1) ∙ v.1)))
      go (inr e) (inr v) = again q r (k q r n (inr (sym (ap (λ (x : RowHeard). x.lost n) e.1) ∙ v)))

  passed_gone : (t : Heard) (n table : ℕ) (row : List ℕ) (v : ℕ) → g table ≢ Eventual → part.IsPassed c h sent t n table row v → IsGone g c h sent t table row n
  passed_gone t n table row v exact p = record { exact = exact; write = p.write; written = p.written; table_is = p.table_is; row_is = p.row_is; lapsed = p.lapsed }

  gone_fact : (t : Heard) (again : Bool) (x : Saying) → IsOwn g c h sent t again x → AreGone t → AreGone (own t x)
  gone_fact t again SaysNothing k f = f
  gone_fact t again (SaysEntry table e) k f = absurd k
  gone_fact t again (SaysBack table v) k f = absurd k
  gone_fact t again (SaysWrite w) k f = go (nat_lt (length t.writes) w.number)
    where
      go : (b : Bool) → AreGone (if b then record t {
        writes = t.writes ++ w ∷ [];
        at = put_at t.at w.table w.row (row_wrote w (t.at w.table w.row));
      } else t)
      go false = f
      go true = λ table row n lost.
          let z = row_gone t w.table w.row (row_wrote w (t.at w.table w.row)) (λ m v. f w.table w.row m v) f table row n lost in
          record { exact = z.exact; write = z.write; written = write_of-left n t.writes (w ∷ []) z.write z.written; table_is = z.table_is; row_is = z.row_is; lapsed = z.lapsed }
  gone_fact t again (SaysAck client n table row v) k f = row_gone t table row (row_acked n v (t.at table row)) (λ m z. f table row m z) f
  gone_fact t again (SaysResolved client n table row v) k f = row_gone t table row (row_resolved n v (t.at table row)) (λ m z. f table row m z) f
  gone_fact t again (SaysRead client table row v) k f = row_gone t table row (row_saw v (t.at table row)) (λ m z. f table row m z) f
  gone_fact t again (SaysPosition client table p) k f = λ q r n lost. let z = f q r n lost in record { exact = z.exact; write = z.write; written = z.written; table_is = z.table_is; row_is = z.row_is; lapsed = z.lapsed }
  gone_fact t again (SaysLoss client n table row v) k f = row_gone t table row (row_lost n (t.at table row)) lose f
    where
      exact : g table ≢ Eventual
      exact = λ e. absurd (let strong : Strong ≡ Eventual = sym k.1 ∙ e in cc)

      lose : (m : ℕ) → ((version : ℕ) × ((t.at table row).conflict m ≡ Some version)) ⊎ (put (t.at table row).lost n true m ≡ true) → IsGone g c h sent t table row m
      lose m (inl z) = f table row m (inl z)
      lose m (inr z) = ⊎_elim (λ e. rw e.0 (passed_gone t n table row v exact k.2)) (λ e. f table row m (inr (sym e.1 ∙ z))) (put_cases (t.at table row).lost n true m)
  gone_fact t again (SaysConflict client n table row v) k f = row_gone t table row (row_met n v (t.at table row)) lose f
    where
      exact : g table ≢ Eventual
      exact = λ e. absurd (let causal : Causal ≡ Eventual = sym k.1 ∙ e in cc)

      lose : (m : ℕ) → ((version : ℕ) × (put (t.at table row).conflict n (Some v) m ≡ Some version)) ⊎ ((t.at table row).lost m ≡ true) → IsGone g c h sent t table row m
      lose m (inr z) = f table row m (inr z)
      lose m (inl z) = ⊎_elim (λ e. rw e.0 (passed_gone t n table row v exact k.2.0)) (λ e. f table row m (inl (z.0, sym e.1 ∙ z.1))) (put_cases (t.at table row).conflict n (Some v) m)

  pub gone_facts : (t : Heard) (some : List Fact) → AreOwn g c h sent t some → AreGone t → AreGone (own_all t some)
  gone_facts t [] k f = f
  gone_facts t (fact ∷ more) k f = gone_facts (own t (saying fact)) more k.1 (gone_fact t (may_repeat fact) (saying fact) k.0 f)
