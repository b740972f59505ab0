-- What sound lines keep of writes and entries, whatever wrote them.
use Rattle.std.proofs.Common.{◌≡◌, ◌≢◌, ◌⊎◌, ℕ, ◌+◌, ◌<◌, ◌≤◌, Bool, true, false, List, [], ◌∷◌, ◌++◌, length, Option, Some, None, refl, sym, ap, ◌∙◌, subst, arith, inl, inr, ⊎_elim, true≢false}
use Rattle.std.specs.Prelude.{◌==◌, ◌||◌, nat_lt, if◌then◌else◌}
use Rattle.std.proofs.lemmas.Bool.Decides.{nat_tests}
use Rattle.std.proofs.lemmas.List.{length_push}
use Rattle.row_value.specs.declared.schema.Scheme.{Scheme}
use Rattle.row_value.specs.declared.schema.Scheme.TheVariants.{Strong, Causal, Eventual}
use Rattle.table_model.specs.declared.entry.Entry.{Entry}
use Rattle.table_model.specs.declared.line.Write.{Write}
use Rattle.step_tables.specs.Members.{Among, put, put_at}
use Rattle.step_tables.specs.Sayings.{Saying, SaysNothing, SaysWrite, SaysEntry, SaysBack, SaysAck, SaysLoss, SaysConflict, SaysResolved, SaysRead, SaysPosition, RowHeard, Heard, own, at_row, wrote}
use Rattle.step_tables.specs.Sayings.{row_wrote, row_acked, row_lost, row_met, row_resolved, row_saw, Said, nothing_said, hear, at_client, entered, write_of, open_of, if_open, open_in}
use Rattle.step_tables.proofs.Lists.{among_push, among_left, among_cases, among_none, among_cons, among_here, among_next, among_found, find_left, find_right}
use Rattle.step_tables.proofs.Maps.{put_cases, place_cases, place_here}
use Rattle.client_laws.specs.Part.{IsFresh}
use Rattle.world_tables.specs.Sound.{IsWrite, IsEntryAt, HasNoEntry, IsNew, IsPassed, IsMet, IsOpen, IsSaid, mine, shown_by, shown_of, HasEntryOf, IsInSight, InSight}

-- ---- writes by their numbers

is_number : (n : ℕ) (w : Write) → (w.number == n) ≡ true → w.number ≡ n
is_number n w e = grind (arith, nat_tests)

pub write_of-is : (n : ℕ) (ws : List Write) (w : Write) → write_of n ws ≡ Some w → Among ws w × (w.number ≡ n)
write_of-is n ws w at = let k = among_found (λ (x : Write). x.number == n) ws w at in (k.0, is_number n w k.1)

pub write_of-left : (n : ℕ) (ws more : List Write) (w : Write) → write_of n ws ≡ Some w → write_of n (ws ++ more) ≡ Some w
write_of-left n ws more w at = find_left (λ (x : Write). x.number == n) ws more w at

pub write_of-none : (n : ℕ) (ws : List Write) (w : Write) → write_of n ws ≡ None → w.number ≡ n → write_of n (ws ++ w ∷ []) ≡ Some w
write_of-none n ws w none e = find_right (λ (x : Write). x.number == n) ws (w ∷ []) none ∙ grind (arith, nat_tests, e)

-- ---- one client

-- its writes are numbered 1, 2, 3, each found by its number; no other number is told of; the last write of a row has
-- the greatest number
pub record ClientTold (c : ℕ) (t : Heard) : Type 0 where
  pub numbered : (n : ℕ) (w : Write) → write_of n t.writes ≡ Some w → (w.number ≡ n) × (w.client ≡ c) × (1 ≤ n) × (n ≤ length t.writes)
  pub found : (w : Write) → Among t.writes w → write_of w.number t.writes ≡ Some w
  pub fresh : (table : ℕ) (row : List ℕ) (n : ℕ) → length t.writes < n → IsFresh (t.at table row) n
  pub last : (table : ℕ) (row : List ℕ) (l : Write) → (t.at table row).last ≡ Some l → Among t.writes l × (l.table ≡ table) × (l.row ≡ row)
  pub newest : (w : Write) → Among t.writes w → (l : Write) × ((t.at w.table w.row).last ≡ Some l) × (w.number ≤ l.number)

-- changes of a row that leave its last write, and tell of no number but this
pub record KeepsRow (n : ℕ) (x y : RowHeard) : Type 0 where
  pub last : y.last ≡ x.last
  pub fresh : (m : ℕ) → m ≢ n → IsFresh x m → IsFresh y m

acked_keeps : (n v : ℕ) (x : RowHeard) → KeepsRow n x (row_acked n v x)
acked_keeps n v x = record { last = refl; fresh = λ m apart f. record { acked = grind (arith, nat_tests, f.acked); lost = f.lost; resolved = f.resolved; conflict = f.conflict } }

lost_keeps : (n : ℕ) (x : RowHeard) → KeepsRow n x (row_lost n x)
lost_keeps n x = record { last = refl; fresh = λ m apart f. record { acked = f.acked; lost = grind (arith, nat_tests, f.lost); resolved = f.resolved; conflict = f.conflict } }

met_keeps : (n v : ℕ) (x : RowHeard) → KeepsRow n x (row_met n v x)
met_keeps n v x = record { last = refl; fresh = λ m apart f. record { acked = f.acked; lost = f.lost; resolved = f.resolved; conflict = grind (arith, nat_tests, f.conflict) } }

resolved_keeps : (n v : ℕ) (x : RowHeard) → KeepsRow n x (row_resolved n v x)
resolved_keeps n v x = record { last = refl; fresh = λ m apart f. record { acked = f.acked; lost = f.lost; resolved = grind (arith, nat_tests, f.resolved); conflict = f.conflict } }

saw_keeps : (v : ℕ) (x : RowHeard) → KeepsRow 0 x (row_saw v x)
saw_keeps v x = record { last = refl; fresh = λ m apart f. record { acked = f.acked; lost = f.lost; resolved = f.resolved; conflict = f.conflict } }

-- a change of one row
row_told : (c : ℕ) (t : Heard) (table : ℕ) (row : List ℕ) (n : ℕ) (y : RowHeard) → n ≤ length t.writes → KeepsRow n (t.at table row) y → ClientTold c t
    → ClientTold c (record t { at = put_at t.at table row y })
row_told c t table row n y low k told = record {
  numbered = told.numbered;
  found = told.found;
  fresh = λ q r m above. fresh q r m above (place_cases t.at table row y q r);
  last = λ q r l is. last q r l is (place_cases t.at table row y q r);
  newest = λ w a. let f = told.newest w a in (f.0, newest w (place_cases t.at table row y w.table w.row) ∙ f.1, f.2);
}
  where
    fresh : (q : ℕ) (r : List ℕ) (m : ℕ) → length t.writes < m
        → ((q ≡ table) × (r ≡ row) × (put_at t.at table row y q r ≡ y)) ⊎ (((q ≢ table) ⊎ (r ≢ row)) × (put_at t.at table row y q r ≡ t.at q r))
        → IsFresh (put_at t.at table row y q r) m
    fresh q r m above (inl e) = subst (λ (x : RowHeard). IsFresh x m) (sym e.2) (k.fresh m (λ same. absurd (omega arith)) (told.fresh table row m above))
    fresh q r m above (inr e) = subst (λ (x : RowHeard). IsFresh x m) (sym e.1) (told.fresh q r m above)

    last : (q : ℕ) (r : List ℕ) (l : Write) → (put_at t.at table row y q r).last ≡ Some l
        → ((q ≡ table) × (r ≡ row) × (put_at t.at table row y q r ≡ y)) ⊎ (((q ≢ table) ⊎ (r ≢ row)) × (put_at t.at table row y q r ≡ t.at q r))
        → Among t.writes l × (l.table ≡ q) × (l.row ≡ r)
    last q r l is (inl e) =
        let there : (t.at table row).last ≡ Some l = sym k.last ∙ sym (ap (λ (x : RowHeard). x.last) e.2) ∙ is in
        let f = told.last table row l there in
        (f.0, f.1 ∙ sym e.0, f.2 ∙ sym e.1)
    last q r l is (inr e) = told.last q r l (sym (ap (λ (x : RowHeard). x.last) e.1) ∙ is)

    newest : (w : Write) → ((w.table ≡ table) × (w.row ≡ row) × (put_at t.at table row y w.table w.row ≡ y))
        ⊎ (((w.table ≢ table) ⊎ (w.row ≢ row)) × (put_at t.at table row y w.table w.row ≡ t.at w.table w.row))
        → (put_at t.at table row y w.table w.row).last ≡ (t.at w.table w.row).last
    newest w (inl e) = ap (λ (x : RowHeard). x.last) e.2 ∙ k.last ∙ rw (e.0, e.1) refl
    newest w (inr e) = ap (λ (x : RowHeard). x.last) e.1

-- a new write
wrote_told : (c : ℕ) (t : Heard) (w : Write) → w.client ≡ c → w.number ≡ length t.writes + 1 → ClientTold c t
    → ClientTold c (record t { writes = t.writes ++ w ∷ []; at = put_at t.at w.table w.row (row_wrote w (t.at w.table w.row)) })
wrote_told c t w client number told = record {
  numbered = λ n x at. numbered n x (write_of n t.writes) refl at;
  found = λ x a. ⊎_elim (λ b. write_of-left x.number t.writes (w ∷ []) x (told.found x b)) (λ e. rw (← e) (write_of-none w.number t.writes w (none (write_of w.number t.writes) refl) refl)) (among_cases t.writes w x a);
  fresh = λ q r m above. fresh q r m (grind (arith, length_push, above)) (place_cases t.at w.table w.row (row_wrote w (t.at w.table w.row)) q r);
  last = λ q r l is. last q r l is (place_cases t.at w.table w.row (row_wrote w (t.at w.table w.row)) q r);
  newest = λ x a. newest x (among_cases t.writes w x a) (place_cases t.at w.table w.row (row_wrote w (t.at w.table w.row)) x.table x.row);
}
  where
    none : (o : Option Write) → write_of w.number t.writes ≡ o → write_of w.number t.writes ≡ None
    none None is = is
    none (Some x) is = absurd (let low = (told.numbered w.number x is).3 in omega arith)

    new : (n : ℕ) (x : Write) → write_of n t.writes ≡ None → write_of n (t.writes ++ w ∷ []) ≡ Some x → (w.number ≡ n) × (w ≡ x)
    new n x unknown at =
        let one : write_of n (w ∷ []) ≡ Some x = sym (find_right (λ (y : Write). y.number == n) t.writes (w ∷ []) unknown) ∙ at in
        grind (arith, nat_tests, one)

    numbered : (n : ℕ) (x : Write) (o : Option Write) → write_of n t.writes ≡ o → write_of n (t.writes ++ w ∷ []) ≡ Some x
        → (x.number ≡ n) × (x.client ≡ c) × (1 ≤ n) × (n ≤ length (t.writes ++ w ∷ []))
    numbered n x (Some y) is at =
        let same : Some y ≡ Some x = sym (write_of-left n t.writes (w ∷ []) y is) ∙ at in
        let e : y ≡ x = cc in
        let k = told.numbered n y is in
        (ap (λ (z : Write). z.number) (sym e) ∙ k.0, ap (λ (z : Write). z.client) (sym e) ∙ k.1, k.2, (let low = k.3 in grind (arith, length_push, low)))
    numbered n x None is at =
        let k = new n x is at in
        (ap (λ (z : Write). z.number) (sym k.1) ∙ k.0, ap (λ (z : Write). z.client) (sym k.1) ∙ client, (let e = k.0 in omega arith), grind (arith, length_push, k.0, number))

    fresh : (q : ℕ) (r : List ℕ) (m : ℕ) → length t.writes < m
        → ((q ≡ w.table) × (r ≡ w.row) × (put_at t.at w.table w.row (row_wrote w (t.at w.table w.row)) q r ≡ row_wrote w (t.at w.table w.row)))
        ⊎ (((q ≢ w.table) ⊎ (r ≢ w.row)) × (put_at t.at w.table w.row (row_wrote w (t.at w.table w.row)) q r ≡ t.at q r))
        → IsFresh (put_at t.at w.table w.row (row_wrote w (t.at w.table w.row)) q r) m
    fresh q r m above (inl e) =
        let f = told.fresh w.table w.row m above in
        subst (λ (x : RowHeard). IsFresh x m) (sym e.2) (record { acked = f.acked; lost = f.lost; resolved = f.resolved; conflict = f.conflict })
    fresh q r m above (inr e) = subst (λ (x : RowHeard). IsFresh x m) (sym e.1) (told.fresh q r m above)

    last : (q : ℕ) (r : List ℕ) (l : Write) → (put_at t.at w.table w.row (row_wrote w (t.at w.table w.row)) q r).last ≡ Some l
        → ((q ≡ w.table) × (r ≡ w.row) × (put_at t.at w.table w.row (row_wrote w (t.at w.table w.row)) q r ≡ row_wrote w (t.at w.table w.row)))
        ⊎ (((q ≢ w.table) ⊎ (r ≢ w.row)) × (put_at t.at w.table w.row (row_wrote w (t.at w.table w.row)) q r ≡ t.at q r))
        → Among (t.writes ++ w ∷ []) l × (l.table ≡ q) × (l.row ≡ r)
    last q r l is (inl e) =
        let there : Some w ≡ Some l = sym (ap (λ (x : RowHeard). x.last) e.2) ∙ is in
        let same : w ≡ l = cc in
        (subst (λ (x : Write). Among (t.writes ++ w ∷ []) x) same (among_push t.writes w), ap (λ (x : Write). x.table) (sym same) ∙ sym e.0, ap (λ (x : Write). x.row) (sym same) ∙ sym e.1)
    last q r l is (inr e) = let f = told.last q r l (sym (ap (λ (x : RowHeard). x.last) e.1) ∙ is) in (among_left t.writes (w ∷ []) l f.0, f.1, f.2)

    newest : (x : Write) → Among t.writes x ⊎ (w ≡ x)
        → ((x.table ≡ w.table) × (x.row ≡ w.row) × (put_at t.at w.table w.row (row_wrote w (t.at w.table w.row)) x.table x.row ≡ row_wrote w (t.at w.table w.row)))
        ⊎ (((x.table ≢ w.table) ⊎ (x.row ≢ w.row)) × (put_at t.at w.table w.row (row_wrote w (t.at w.table w.row)) x.table x.row ≡ t.at x.table x.row))
        → (l : Write) × ((put_at t.at w.table w.row (row_wrote w (t.at w.table w.row)) x.table x.row).last ≡ Some l) × (x.number ≤ l.number)
    newest x (inl a) (inl e) = (w, ap (λ (y : RowHeard). y.last) e.2, (let low = (told.numbered x.number x (told.found x a)).3 in omega arith))
    newest x (inl a) (inr e) = let f = told.newest x a in (f.0, ap (λ (y : RowHeard). y.last) e.1 ∙ f.1, f.2)
    newest x (inr s) (inl e) = (w, ap (λ (y : RowHeard). y.last) e.2, (let n = ap (λ (y : Write). y.number) s in omega arith))
    newest x (inr s) (inr e) = absurd (⊎_elim (λ f. f (ap (λ (y : Write). y.table) (sym s))) (λ f. f (ap (λ (y : Write). y.row) (sym s))) e.0)

-- ---- all that is said

-- each entry is of a write that was told on its table and row, and each acknowledged number has an entry
pub record SaidTold (s : Said) : Type 0 where
  pub clients : (c : ℕ) → ClientTold c (s.heard c)
  pub entries : (table : ℕ) (e : Entry) → Among (s.history table) e → (w : Write) × IsWrite s e.client e.number table e.row w
  pub acks : (c n table : ℕ) (row : List ℕ) → ((s.heard c).at table row).acked n ≡ true
      → (e : Entry) × Among (s.history table) e × (e.row ≡ row) × (e.client ≡ c) × (e.number ≡ n)

-- what a client's new state has to keep
record Follows (s : Said) (c : ℕ) (t : Heard) : Type 0 where
  told : ClientTold c t
  writes : (n : ℕ) (w : Write) → write_of n (s.heard c).writes ≡ Some w → write_of n t.writes ≡ Some w
  acks : (n table : ℕ) (row : List ℕ) → (t.at table row).acked n ≡ true
      → (e : Entry) × Among (s.history table) e × (e.row ≡ row) × (e.client ≡ c) × (e.number ≡ n)

follow : (s : Said) (c : ℕ) (t : Heard) → SaidTold s → Follows s c t → SaidTold (record s { heard = put s.heard c t })
follow s c t k f = record {
  clients = λ q. client q (put_cases s.heard c t q);
  entries = λ table e a. let w = k.entries table e a in (w.0, record { told = write e.client e.number w.0 (put_cases s.heard c t e.client) w.1.told; by = w.1.by; table_is = w.1.table_is; row_is = w.1.row_is });
  acks = λ q n table row at. ack q n table row (put_cases s.heard c t q) at;
}
  where
    client : (q : ℕ) → ((q ≡ c) × (put s.heard c t q ≡ t)) ⊎ ((q ≢ c) × (put s.heard c t q ≡ s.heard q)) → ClientTold q (put s.heard c t q)
    client q (inl e) = rw (e.0) (rw (ap (put s.heard c t) (sym e.0) ∙ e.1) f.told)
    client q (inr e) = subst (λ (x : Heard). ClientTold q x) (sym e.1) (k.clients q)

    write : (q n : ℕ) (w : Write) → ((q ≡ c) × (put s.heard c t q ≡ t)) ⊎ ((q ≢ c) × (put s.heard c t q ≡ s.heard q))
        → write_of n (s.heard q).writes ≡ Some w → write_of n (put s.heard c t q).writes ≡ Some w
    write q n w (inl e) at = ap (λ (x : Heard). write_of n x.writes) e.1 ∙ f.writes n w (ap (λ (x : ℕ). write_of n (s.heard x).writes) (sym e.0) ∙ at)
    write q n w (inr e) at = ap (λ (x : Heard). write_of n x.writes) e.1 ∙ at

    ack : (q n table : ℕ) (row : List ℕ) → ((q ≡ c) × (put s.heard c t q ≡ t)) ⊎ ((q ≢ c) × (put s.heard c t q ≡ s.heard q))
        → ((put s.heard c t q).at table row).acked n ≡ true
        → (e : Entry) × Among (s.history table) e × (e.row ≡ row) × (e.client ≡ q) × (e.number ≡ n)
    ack q n table row (inl e) at =
        let m = f.acks n table row (sym (ap (λ (x : Heard). (x.at table row).acked n) e.1) ∙ at) in
        (m.0, m.1, m.2, m.3 ∙ sym e.0, m.4)
    ack q n table row (inr e) at = k.acks q n table row (sym (ap (λ (x : Heard). (x.at table row).acked n) e.1) ∙ at)

-- a change of one row of one client
module _ (s : Said) (k : SaidTold s) (c table : ℕ) (row : List ℕ) where
  abbrev Row : RowHeard
  Row = (s.heard c).at table row

  row_follows : (n : ℕ) (y : RowHeard) → n ≤ length (s.heard c).writes → KeepsRow n Row y
      → ((m : ℕ) → y.acked m ≡ true → (Row.acked m ≡ true) ⊎ ((e : Entry) × Among (s.history table) e × (e.row ≡ row) × (e.client ≡ c) × (e.number ≡ m)))
      → Follows s c (record (s.heard c) { at = put_at (s.heard c).at table row y })
  row_follows n y low keeps acks = record {
    told = row_told c (s.heard c) table row n y low keeps (k.clients c);
    writes = λ m w at. at;
    acks = λ m q r at. go m q r (place_cases (s.heard c).at table row y q r) at;
  }
    where
      go : (m q : ℕ) (r : List ℕ)
          → ((q ≡ table) × (r ≡ row) × (put_at (s.heard c).at table row y q r ≡ y)) ⊎ (((q ≢ table) ⊎ (r ≢ row)) × (put_at (s.heard c).at table row y q r ≡ (s.heard c).at q r))
          → (put_at (s.heard c).at table row y q r).acked m ≡ true
          → (e : Entry) × Among (s.history q) e × (e.row ≡ r) × (e.client ≡ c) × (e.number ≡ m)
      go m q r (inl e) at =
          let here : y.acked m ≡ true = sym (ap (λ (x : RowHeard). x.acked m) e.2) ∙ at in
          let found : (x : Entry) × Among (s.history table) x × (x.row ≡ row) × (x.client ≡ c) × (x.number ≡ m) = ⊎_elim (λ old. k.acks c m table row old) (λ new. new) (acks m here) in
          rw (e.0, e.1) found
      go m q r (inr e) at = k.acks c m q r (sym (ap (λ (x : RowHeard). x.acked m) e.1) ∙ at)

written_low : (s : Said) → SaidTold s → (c n table : ℕ) (row : List ℕ) (w : Write) → IsWrite s c n table row w → n ≤ length (s.heard c).writes
written_low s k c n table row w is = ((k.clients c).numbered n w is.told).3

entry_low : (s : Said) → SaidTold s → (table : ℕ) (e : Entry) → Among (s.history table) e → e.number ≤ length (s.heard e.client).writes
entry_low s k table e a = let w = k.entries table e a in written_low s k e.client e.number table e.row w.0 w.1

told_write : (g : ℕ → Scheme) (s : Said) (again : Bool) (w : Write) → SaidTold s → IsSaid g s again (SaysWrite w) → SaidTold (hear s (SaysWrite w))
told_write g s again w k (inl new) = go (nat_lt (length (s.heard w.client).writes) w.number) refl
  where
    go : (b : Bool) → nat_lt (length (s.heard w.client).writes) w.number ≡ b
        → SaidTold (record s {
          heard = put s.heard w.client (if b
              then record (s.heard w.client) {
                writes = (s.heard w.client).writes ++ w ∷ [];
                at = put_at (s.heard w.client).at w.table w.row (row_wrote w ((s.heard w.client).at w.table w.row));
              }
              else s.heard w.client);
        })
    go true is = follow s w.client _ k (record {
      told = wrote_told w.client (s.heard w.client) w refl new.0 (k.clients w.client);
      writes = λ n x at. write_of-left n (s.heard w.client).writes (w ∷ []) x at;
      acks = λ n table row at. acks n table row (place_cases (s.heard w.client).at w.table w.row (row_wrote w ((s.heard w.client).at w.table w.row)) table row) at;
    })
      where
        acks : (n table : ℕ) (row : List ℕ)
            → ((table ≡ w.table) × (row ≡ w.row)
            × (put_at (s.heard w.client).at w.table w.row (row_wrote w ((s.heard w.client).at w.table w.row)) table row ≡ row_wrote w ((s.heard w.client).at w.table w.row)))
            ⊎ (((table ≢ w.table) ⊎ (row ≢ w.row)) × (put_at (s.heard w.client).at w.table w.row (row_wrote w ((s.heard w.client).at w.table w.row)) table row ≡ (s.heard w.client).at table row))
            → (put_at (s.heard w.client).at w.table w.row (row_wrote w ((s.heard w.client).at w.table w.row)) table row).acked n ≡ true
            → (e : Entry) × Among (s.history table) e × (e.row ≡ row) × (e.client ≡ w.client) × (e.number ≡ n)
        acks n table row (inl e) at =
            let old : ((s.heard w.client).at w.table w.row).acked n ≡ true = sym (ap (λ (x : RowHeard). x.acked n) e.2) ∙ at in
            k.acks w.client n table row (rw (e.0, e.1) old)
        acks n table row (inr e) at = k.acks w.client n table row (sym (ap (λ (x : RowHeard). x.acked n) e.1) ∙ at)
    go false is = absurd (grind (arith, nat_tests, is, new.0))
told_write g s again w k (inr old) = go (nat_lt (length (s.heard w.client).writes) w.number) refl
  where
    go : (b : Bool) → nat_lt (length (s.heard w.client).writes) w.number ≡ b
        → SaidTold (record s {
          heard = put s.heard w.client (if b
              then record (s.heard w.client) {
                writes = (s.heard w.client).writes ++ w ∷ [];
                at = put_at (s.heard w.client).at w.table w.row (row_wrote w ((s.heard w.client).at w.table w.row));
              }
              else s.heard w.client);
        })
    go true is = absurd (let low = ((k.clients w.client).numbered w.number w old.1).3 in grind (arith, nat_tests, is, low))
    go false is = follow s w.client (s.heard w.client) k (record { told = k.clients w.client; writes = λ n x at. at; acks = λ n table row at. k.acks w.client n table row at })

told_entry : (s : Said) (table : ℕ) (e : Entry) → SaidTold s → (Among (s.history table) e ⊎ ((w : Write) × IsWrite s e.client e.number table e.row w))
    → SaidTold (hear s (SaysEntry table e))
told_entry s table e k said = record {
  clients = k.clients;
  entries = λ q x a. let w = entry q x (put_cases s.history table (entered (s.history table) e) q) a in (w.0, record { told = w.1.told; by = w.1.by; table_is = w.1.table_is; row_is = w.1.row_is });
  acks = λ c n q row at. let m = k.acks c n q row at in (m.0, more q m.0 (put_cases s.history table (entered (s.history table) e) q) m.1, m.2, m.3, m.4);
}
  where
    of_e : (w : Write) × IsWrite s e.client e.number table e.row w
    of_e = ⊎_elim (λ a. k.entries table e a) (λ w. w) said

    kept : (b : Bool) (x : Entry) → Among (s.history table) x → Among (if b then s.history table ++ e ∷ [] else s.history table) x
    kept true x a = among_left (s.history table) (e ∷ []) x a
    kept false x a = a

    new : (b : Bool) (x : Entry) → Among (if b then s.history table ++ e ∷ [] else s.history table) x → Among (s.history table) x ⊎ (e ≡ x)
    new true x a = among_cases (s.history table) e x a
    new false x a = inl a

    more : (q : ℕ) (x : Entry) → ((q ≡ table) × (put s.history table (entered (s.history table) e) q ≡ entered (s.history table) e))
        ⊎ ((q ≢ table) × (put s.history table (entered (s.history table) e) q ≡ s.history q))
        → Among (s.history q) x → Among (put s.history table (entered (s.history table) e) q) x
    more q x (inl i) a = subst (λ (es : List Entry). Among es x) (sym i.1) (kept (nat_lt (length (s.history table)) e.version) x (rw i.0 at a))
    more q x (inr i) a = subst (λ (es : List Entry). Among es x) (sym i.1) a

    entry : (q : ℕ) (x : Entry) → ((q ≡ table) × (put s.history table (entered (s.history table) e) q ≡ entered (s.history table) e))
        ⊎ ((q ≢ table) × (put s.history table (entered (s.history table) e) q ≡ s.history q))
        → Among (put s.history table (entered (s.history table) e) q) x → (w : Write) × IsWrite s x.client x.number q x.row w
    entry q x (inl i) a = ⊎_elim (λ b. rw i.0 (k.entries table x b)) (λ same. rw (i.0, ← same) of_e)
        (new (nat_lt (length (s.history table)) e.version) x (subst (λ (es : List Entry). Among es x) i.1 a))
    entry q x (inr i) a = k.entries q x (subst (λ (es : List Entry). Among es x) i.1 a)

same_acks : (s : Said) (c table : ℕ) (row : List ℕ) (x y : RowHeard) → y.acked ≡ x.acked → (m : ℕ) → y.acked m ≡ true
    → (x.acked m ≡ true) ⊎ ((e : Entry) × Among (s.history table) e × (e.row ≡ row) × (e.client ≡ c) × (e.number ≡ m))
same_acks s c table row x y same m at = inl (sym (ap (λ (f : ℕ → Bool). f m) same) ∙ at)

-- whatever is said, this stays
pub told_step : (g : ℕ → Scheme) (s : Said) (again : Bool) (x : Saying) → SaidTold s → IsSaid g s again x → SaidTold (hear s x)
told_step g s again SaysNothing k is = k
told_step g s again (SaysWrite w) k is = told_write g s again w k is
told_step g s again (SaysEntry table e) k (inr a) = told_entry s table e k (inl a.1)
told_step g s again (SaysEntry table e) k (inl n) = told_entry s table e k (inr (n.write, n.written))
told_step g s again (SaysBack table version) k is = k
told_step g s again (SaysAck c n table row v) k is =
    let e = is.0.0 in
    let stands : Among (s.history table) e = is.0.1.stands in
    let row_is : e.row ≡ row = is.0.1.row_is in
    let client : e.client ≡ c = is.0.2 in
    let number : e.number ≡ n = is.0.3 in
    let low : n ≤ length (s.heard c).writes = rw (client, number) at (entry_low s k table e stands) in
    follow s c _ k (row_follows s k c table row n (row_acked n v ((s.heard c).at table row)) low (acked_keeps n v ((s.heard c).at table row))
    (λ m at. acks m (put_cases ((s.heard c).at table row).acked n true m) at))
  where
    acks : (m : ℕ) → ((m ≡ n) × (put ((s.heard c).at table row).acked n true m ≡ true)) ⊎ ((m ≢ n) × (put ((s.heard c).at table row).acked n true m ≡ ((s.heard c).at table row).acked m))
        → put ((s.heard c).at table row).acked n true m ≡ true
        → (((s.heard c).at table row).acked m ≡ true) ⊎ ((e : Entry) × Among (s.history table) e × (e.row ≡ row) × (e.client ≡ c) × (e.number ≡ m))
    acks m (inl e) at = inr (is.0.0, is.0.1.stands, is.0.1.row_is, is.0.2, is.0.3 ∙ sym e.0)
    acks m (inr e) at = inl (sym e.1 ∙ at)
told_step g s again (SaysLoss c n table row v) k is =
    follow s c _ k (row_follows s k c table row n (row_lost n ((s.heard c).at table row)) (written_low s k c n table row is.1.write is.1.written) (lost_keeps n ((s.heard c).at table row))
    (same_acks s c table row ((s.heard c).at table row) (row_lost n ((s.heard c).at table row)) refl))
told_step g s again (SaysConflict c n table row v) k is =
    follow s c _ k (row_follows s k c table row n (row_met n v ((s.heard c).at table row)) (written_low s k c n table row is.0.passed.write is.0.passed.written)
    (met_keeps n v ((s.heard c).at table row))
    (same_acks s c table row ((s.heard c).at table row) (row_met n v ((s.heard c).at table row)) refl))
told_step g s again (SaysResolved c n table row v) k is =
    follow s c _ k (row_follows s k c table row n (row_resolved n v ((s.heard c).at table row)) low (resolved_keeps n v ((s.heard c).at table row))
    (same_acks s c table row ((s.heard c).at table row) (row_resolved n v ((s.heard c).at table row)) refl))
  where
    low : n ≤ length (s.heard c).writes
    low = go (nat_lt (length (s.heard c).writes) n) refl
      where
        go : (b : Bool) → nat_lt (length (s.heard c).writes) n ≡ b → n ≤ length (s.heard c).writes
        go false at = grind (arith, nat_tests, at)
        go true at =
            let f : IsFresh ((s.heard c).at table row) n = (k.clients c).fresh table row n (grind (arith, nat_tests, at)) in
            absurd (let both : None ≡ Some v = sym f.conflict ∙ is.0 in cc)
told_step g s again (SaysRead c table row v) k is =
    follow s c _ k (row_follows s k c table row 0 (row_saw v ((s.heard c).at table row)) (omega arith) (saw_keeps v ((s.heard c).at table row))
    (same_acks s c table row ((s.heard c).at table row) (row_saw v ((s.heard c).at table row)) refl))
told_step g s again (SaysPosition c table p) k is =
    follow s c _ k (record {
      told = (let t = k.clients c in record { numbered = t.numbered; found = t.found; fresh = t.fresh; last = t.last; newest = t.newest });
      writes = λ n w at. at;
      acks = λ n q row at. k.acks c n q row at;
    })

pub nothing_told : SaidTold nothing_said
nothing_told = record {
  clients = λ c. record {
    numbered = λ n w at. absurd cc;
    found = λ w a. absurd (among_none w a);
    fresh = λ table row n above. record { acked = refl; lost = refl; resolved = refl; conflict = refl };
    last = λ table row l at. absurd cc;
    newest = λ w a. absurd (among_none w a);
  };
  entries = λ table e a. absurd (among_none e a);
  acks = λ c n table row at. absurd (true≢false (sym at));
}

-- ---- no write is lost from sight

pub in_sight : (g : ℕ → Scheme) (s : Said) → SaidTold s → InSight g s
in_sight g s k c w a = by_client w.client (sym (((k.clients c).numbered w.number w ((k.clients c).found w a)).1))
  where
    by_client : (q : ℕ) → c ≡ w.client → IsInSight g s w
    by_client q same = here (subst (λ (x : ℕ). Among (s.heard x).writes w) same a)
      where
        x : RowHeard
        x = (s.heard w.client).at w.table w.row

        by_scheme : (y : Scheme) → g w.table ≡ y → open_of x ≡ Some w → IsInSight g s w
        by_scheme Strong is open_w = inr (inr (inl (is, open_w)))
        by_scheme Causal is open_w = inr (inl (rw (is, open_w) refl))
        by_scheme Eventual is open_w = inr (inl (rw (is, open_w) refl))

        by_flags : (a1 a2 a3 : Bool) → x.acked w.number ≡ a1 → x.lost w.number ≡ a2 → x.resolved w.number ≡ a3 → x.last ≡ Some w → IsInSight g s w
        by_flags true a2 a3 e1 e2 e3 last = inl (let m = k.acks w.client w.number w.table w.row e1 in (m.0, m.1, m.2, m.3, m.4))
        by_flags false true a3 e1 e2 e3 last = inr (inr (inr (inr (inl e2))))
        by_flags false false true e1 e2 e3 last = inr (inr (inr (inr (inr e3))))
        by_flags false false false e1 e2 e3 last = by_scheme (g w.table) refl (ap (if_open x) last ∙ rw (e1, e2, e3) refl)

        here : Among (s.heard w.client).writes w → IsInSight g s w
        here b =
            let t = k.clients w.client in
            let n = t.newest w b in
            let l : Write = n.0 in
            let at = t.last w.table w.row l n.1 in
            last l n.1 at (nat_lt w.number l.number) refl n.2
          where
            last : (l : Write) → x.last ≡ Some l → Among (s.heard w.client).writes l × (l.table ≡ w.table) × (l.row ≡ w.row) → (t : Bool) → nat_lt w.number l.number ≡ t → w.number ≤ l.number
                → IsInSight g s w
            last l is at true less low = inr (inr (inr (inl (l, at.0, at.1, at.2, grind (arith, nat_tests, less)))))
            last l is at false less low =
                let same_number : w.number ≡ l.number = grind (arith, nat_tests, less, low) in
                let t = k.clients w.client in
                let both : Some w ≡ Some l = sym (t.found w b) ∙ (ap (λ (n : ℕ). write_of n (s.heard w.client).writes) same_number ∙ t.found l at.0) in
                by_flags (x.acked w.number) (x.lost w.number) (x.resolved w.number) refl refl refl (is ∙ sym both)
