-- The plans of writes, of what is sent, and of its answers.
use Rattle.std.proofs.Common.{◌≡◌, ◌≢◌, ◌⊎◌, ℕ, Bool, true, false, ◌+◌, ◌≤◌, ◌<◌, List, [], ◌∷◌, ◌++◌, length, Option, Some, None, refl, sym, ap, subst, ◌∙◌, arith, inl, inr, append-nil}
use Rattle.std.specs.Prelude.{◌==◌, ◌||◌, map, option_map, if◌then◌else◌}
use Rattle.std.proofs.lemmas.Bool.Decides.{nat_tests}
use Rattle.std.proofs.lemmas.List.{length_push}
use Rattle.row_value.specs.declared.content.Content.{Content}
use Rattle.row_value.specs.declared.schema.Scheme.{Scheme}
use Rattle.row_value.specs.declared.schema.Scheme.TheVariants.{Strong, Causal, Eventual}
use Rattle.row_value.specs.declared.pieces.Piece.{Piece}
use Rattle.table_model.specs.declared.line.Write.{Write}
use Rattle.step_tables.specs.Slots.{Main}
use Rattle.step_tables.specs.Slots.{InFlight}
use Rattle.step_tables.specs.Slots.{Shadow}
use Rattle.step_tables.specs.Store.{Stored}
use Rattle.step_tables.specs.Client.{version_in}
use Rattle.step_tables.specs.Facts.{ClientFact, Fact}
use Rattle.step_tables.specs.Facts as facts
use Rattle.step_tables.specs.Members.{Among, put_at}
use Rattle.step_tables.specs.Sayings.{RowHeard, Heard, write_of, row_wrote, row_acked, row_lost, row_resolved, at_row, wrote, own_all, if_open, open_of, open_in}
use Rattle.step_tables.specs.ClientMoves.{Slots, TableDisk, Plan, ClientDisk, slots_at, slots_in, table_at, applied, top, main_of, slots_plan, write_plan, strong_out, strong_plan}
use Rattle.step_tables.specs.ClientMoves.{shadow_at, ack_plan, lost_plan, whole_out, whole_plan, over_plan, theirs_plan, freed, without}
use Rattle.step_tables.specs.Items.{latest, IsItemOf}
use Rattle.step_tables.proofs.Maps.{place_here, place_cases, place_twice}
use Rattle.client_laws.specs.Part.{Items, Sending, IsFresh, OfTable, Ours, IsContent, Spans, write_for, main_for, RowTied, Tied, IsPassed, AreOwn}
use Rattle.client_laws.specs.Part.{IsNewPlan, IsRefused}
use Rattle.client_laws.proofs.Grows.{some_is, added}
use Rattle.client_laws.proofs.RowFits.{write_of-push, own_only, freed_fit, raise_fit, write_fit, strong_fit, out_with, send_fit, respelled_fit, lost_fit, settled_fit, heard_fit}
use Rattle.client_laws.proofs.PlanRuns.{new_plan}
use Rattle.client_laws.proofs.Ties.{Elsewhere, tied_row}

-- ---- what is heard of a row

pub at_row_twice : (t : Heard) (table : ℕ) (row : List ℕ) (f k : RowHeard → RowHeard)
    → at_row (at_row t table row f) table row k ≡ at_row t table row (λ (x : RowHeard). k (f x))
at_row_twice t table row f k =
    let v : RowHeard = f (t.at table row) in
    ap (λ (y : RowHeard). record t { at = put_at (put_at t.at table row v) table row (k y) }) (place_here t.at table row v)
    ∙ ap (λ (m : ℕ → List ℕ → RowHeard). record t { at = m }) (place_twice t.at table row v (k v))

pub place_apart : (m : ℕ → List ℕ → RowHeard) (table : ℕ) (row : List ℕ) (v : RowHeard) (q : ℕ) (r : List ℕ) → (q ≢ table) ⊎ (r ≢ row) → put_at m table row v q r ≡ m q r
place_apart m table row v q r apart = elim (place_cases m table row v q r) [
  | inl k ↦ absurd (elim apart [ inl f ↦ f k.0 | inr f ↦ f k.1 ])
  | inr k ↦ k.1
]

pub elsewhere_at : (t : Heard) (table : ℕ) (row : List ℕ) (v : RowHeard) → Elsewhere t (record t { at = put_at t.at table row v }) table row
elsewhere_at t table row v =
    record { more = []; writes = sym (append-nil t.writes); at = place_apart t.at table row v; position = λ q apart. refl }

elsewhere_write : (t : Heard) (table : ℕ) (row : List ℕ) (w : Write) (v : RowHeard)
    → Elsewhere t (record t { writes = t.writes ++ w ∷ []; at = put_at t.at table row v }) table row
elsewhere_write t table row w v = record { more = w ∷ []; writes = refl; at = place_apart t.at table row v; position = λ q apart. refl }

-- ---- what is open

abbrev is_closed : RowHeard → ℕ → Bool
is_closed x n = (x.acked n || x.lost n) || x.resolved n

-- where one number more is closed
pub open_behind : (g : Scheme) (o : Option Write) (x y : RowHeard) (n : ℕ) → ((m : ℕ) → is_closed y m ≡ (if m == n then true else is_closed x m))
    → without n (option_map main_for (open_in g (if_open x o))) ≡ option_map main_for (open_in g (if_open y o))
open_behind Strong o x y n closed = refl
open_behind Causal None x y n closed = refl
open_behind Eventual None x y n closed = refl
open_behind Causal (Some w) x y n closed = by_tests (is_closed x w.number) (w.number == n) refl refl
  where
    by_tests : (b t : Bool) → is_closed x w.number ≡ b → (w.number == n) ≡ t
        → without n (option_map main_for (if is_closed x w.number then None else Some w)) ≡ option_map main_for (if is_closed y w.number then None else Some w)
    by_tests b t is at = grind (arith, nat_tests, is, at, closed w.number)
open_behind Eventual (Some w) x y n closed = by_tests (is_closed x w.number) (w.number == n) refl refl
  where
    by_tests : (b t : Bool) → is_closed x w.number ≡ b → (w.number == n) ≡ t
        → without n (option_map main_for (if is_closed x w.number then None else Some w)) ≡ option_map main_for (if is_closed y w.number then None else Some w)
    by_tests b t is at = grind (arith, nat_tests, is, at, closed w.number)

-- a new write is open
open_new : (g : Scheme) (x : RowHeard) (w : Write) → g ≢ Strong → is_closed x w.number ≡ false → Some (main_for w) ≡ option_map main_for (open_in g (if_open x (Some w)))
open_new Strong x w weak free = absurd (weak refl)
open_new Causal x w weak free = ap (λ (b : Bool). option_map main_for (if b then None else Some w)) (sym free)
open_new Eventual x w weak free = ap (λ (b : Bool). option_map main_for (if b then None else Some w)) (sym free)

open_strong : (g : Scheme) (m : Option Main) (p : Option Write) → g ≡ Strong → m ≡ option_map main_for (open_in g p) → m ≡ None
open_strong g m p strong e = e ∙ ap (λ (s : Scheme). option_map main_for (open_in s p)) strong

pub closed_acked : (x : RowHeard) (n v m : ℕ) → is_closed (row_acked n v x) m ≡ (if m == n then true else is_closed x m)
closed_acked x n v m = grind (arith, nat_tests)

pub closed_resolved : (x : RowHeard) (n v m : ℕ) → is_closed (row_resolved n v x) m ≡ (if m == n then true else is_closed x m)
closed_resolved x n v m = by_tests (x.acked m) (x.lost m) (m == n) refl
  where
    by_tests : (a l t : Bool) → (m == n) ≡ t → ((a || l) || (if t then true else x.resolved m)) ≡ (if t then true else ((a || l) || x.resolved m))
    by_tests true l true is = refl
    by_tests true l false is = refl
    by_tests false true true is = refl
    by_tests false true false is = refl
    by_tests false false true is = refl
    by_tests false false false is = refl

fresh_open : (x : RowHeard) (n : ℕ) → IsFresh x n → is_closed x n ≡ false
fresh_open x n k = grind (arith, k.acked, k.lost, k.resolved)

-- what is open isn't acknowledged
open_unacked : (x : RowHeard) (o : Option Write) (w : Write) → if_open x o ≡ Some w → x.acked w.number ≡ false
open_unacked x None w e = absurd cc
open_unacked x (Some v) w e = by_flag (x.acked v.number) refl e
  where
    by_flag : (a : Bool) → x.acked v.number ≡ a → (if (a || x.lost v.number) || x.resolved v.number then None else Some v) ≡ Some w → x.acked w.number ≡ false
    by_flag true is open_w = absurd cc
    by_flag false is open_w = by_rest (x.lost v.number || x.resolved v.number) open_w
      where
        by_rest : (b : Bool) → (if b then None else Some v) ≡ Some w → x.acked w.number ≡ false
        by_rest true here = absurd cc
        by_rest false here = subst (λ (z : Write). x.acked z.number ≡ false) (some_is v w here) is

-- ---- numbers

-- the next number is nobody's yet
pub next_free : (ws : List Write) → ((n : ℕ) (w : Write) → write_of n ws ≡ Some w → n ≤ length ws) → write_of (length ws + 1) ws ≡ None
next_free ws f = by_look (write_of (length ws + 1) ws) refl
  where
    by_look : (o : Option Write) → write_of (length ws + 1) ws ≡ o → o ≡ None
    by_look None is = refl
    by_look (Some w) is = absurd (let k = f (length ws + 1) w is in omega (arith, k))

wrote_new : (t : Heard) (w : Write) → w.number ≡ length t.writes + 1 → wrote t w ≡ added t w
wrote_new t w number = grind (arith, nat_tests, number)

wrote_again : (t : Heard) (w : Write) → w.number ≡ length t.writes + 1 → wrote (added t w) w ≡ added t w
wrote_again t w number = grind (arith, nat_tests, number, length_push)

module _ (g : ℕ → Scheme) (c : ℕ) (h : Items) (sent : List Sending) (t : Heard) (ours : Ours g c h sent t) (d : ClientDisk) (k : Tied g c h sent d t)
    (table : ℕ) (row : List ℕ) (o : TableDisk) (is : table_at d table ≡ Some o) where
  abbrev slots : Slots
  slots = slots_at o row

  abbrev x : RowHeard
  x = t.at table row

  abbrev RowTied_ : Slots → List Write → RowHeard → Type 0
  RowTied_ s ws y = RowTied (g table) c (h table) table row s ws y sent

  pub row_tied : RowTied_ slots t.writes x
  row_tied = subst (λ (m : Option TableDisk). RowTied_ (slots_in m row) t.writes x) is (k.rows table row)

  abbrev of : OfTable (g table) c (h table) table t.writes sent
  of = ours.of_table table

  n_free : write_of (d.last + 1) t.writes ≡ None
  n_free = subst (λ (n : ℕ). write_of (n + 1) t.writes ≡ None) (sym k.last) (next_free t.writes (λ n w at. (ours.numbered n w at).3))

  n_fresh : IsFresh x (d.last + 1)
  n_fresh = ours.fresh table row (d.last + 1) (let e = k.last in omega (arith, e))

  -- ---- a plan whose facts change what is heard of its row alone

  pub row_is_plan : (s : Slots) (fs : List ClientFact) (f : RowHeard → RowHeard)
      → ((y : Heard) → own_all y (map facts.Client fs) ≡ at_row y table row f) → f (f x) ≡ f x
      → AreOwn g c h sent t (map facts.Client fs) → AreOwn g c h sent (at_row t table row f) (map facts.Redone fs)
      → x.read ≤ (f x).read → RowTied_ s t.writes (f x) → IsNewPlan g c h sent d t (slots_plan d table row s fs)
  row_is_plan s fs f heard once now again rises here =
      let u : Heard = at_row t table row f in
      let twice : own_all u (map facts.Client fs) ≡ u = heard u ∙ at_row_twice t table row f f ∙ ap (λ (y : RowHeard). record t { at = put_at t.at table row y }) once in
      new_plan g c h sent d t (slots_plan d table row s fs) now
      (subst (λ (y : Heard). AreOwn g c h sent y (map facts.Redone fs)) (sym (heard t)) again)
      (subst (λ (y : Heard). own_all y (map facts.Client fs) ≡ y) (sym (heard t)) twice)
      (subst (λ (y : Heard). Tied g c h sent (applied (slots_plan d table row s fs) d) y) (sym (heard t))
      (tied_row g c h sent d t k table o is d.last row s u (elsewhere_at t table row (f x)) k.last
      (subst (λ (y : RowHeard). RowTied_ s t.writes y) (sym (place_here t.at table row (f x))) here) fs of.last
      (subst (λ (y : RowHeard). x.read ≤ y.read) (sym (place_here t.at table row (f x))) rises) refl))

  -- ---- writes

  -- a plan that tells a new write and nothing else
  write_plan_is : (s : Slots) (m : Main) → m.number ≡ d.last + 1 → m.read ≡ x.shadow
      → RowTied_ s (t.writes ++ write_for c table row m ∷ []) (row_wrote (write_for c table row m) x)
      → IsNewPlan g c h sent d t (record (slots_plan d table row s (facts.Wrote (write_for c table row m) ∷ [])) { last = m.number })
  write_plan_is s m number level here =
      let w : Write = write_for c table row m in
      let fs : List ClientFact = facts.Wrote w ∷ [] in
      let next : w.number ≡ length t.writes + 1 = number ∙ ap (λ (n : ℕ). n + 1) k.last in
      let u : Heard = added t w in
      let heard : own_all t (map facts.Client fs) ≡ u = wrote_new t w next in
      let p : Plan = record (slots_plan d table row s fs) { last = m.number } in
      new_plan g c h sent d t p ((refl, inl (next, level)), tt)
      (subst (λ (y : Heard). AreOwn g c h sent y (map facts.Redone fs)) (sym heard)
      ((refl, inr (refl, write_of-push w.number t.writes w (subst (λ (n : ℕ). write_of n t.writes ≡ None) (sym number) n_free) refl)), tt))
      (subst (λ (y : Heard). own_all y (map facts.Client fs) ≡ y) (sym heard) (wrote_again t w next))
      (subst (λ (y : Heard). Tied g c h sent (applied p d) y) (sym heard)
      (tied_row g c h sent d t k table o is m.number row s u (elsewhere_write t table row w (row_wrote w x))
      (next ∙ sym (length_push_is t.writes w))
      (subst (λ (y : RowHeard). RowTied_ s (t.writes ++ w ∷ []) y) (sym (place_here t.at table row (row_wrote w x))) here) fs of.last
      (subst (λ (y : RowHeard). x.read ≤ y.read) (sym (place_here t.at table row (row_wrote w x))) (omega arith)) refl))
    where
      length_push_is : (ws : List Write) (w : Write) → length (ws ++ w ∷ []) ≡ length ws + 1
      length_push_is ws w = grind (arith, length_push)

  written_low : (n : ℕ) (w : Write) → write_of n t.writes ≡ Some w → n ≤ length t.writes
  written_low n w at = (ours.numbered n w at).3

  pub write_is_plan : g table ≢ Strong → slots.conflict ≡ None → (content : Content) → IsNewPlan g c h sent d t (write_plan c d table row slots content)
  write_is_plan weak none content =
      let r = row_tied in
      let m : Main = main_of (d.last + 1) (version_in slots.shadow) content in
      let w : Write = write_for c table row m in
      write_plan_is (record slots { main = Some m }) m refl (r.level none) (record {
        fit = write_fit (g table) c (h table) table row t.writes x sent (d.last + 1) (ap (λ (n : ℕ). n + 1) k.last) n_free n_fresh written_low weak slots content r.fit none;
        main = open_new (g table) (row_wrote w x) w weak (fresh_open x (d.last + 1) n_fresh);
        read = r.read;
        level = r.level;
        under = r.under;
        based = r.based;
      })

  no_conflict : slots.main ≡ None → slots.conflict ≡ None
  no_conflict no_main = by_slot slots.conflict refl
    where
      by_slot : (y : Option Shadow) → slots.conflict ≡ y → y ≡ None
      by_slot None at = refl
      by_slot (Some z) at = absurd (let q = (row_tied.fit.conflict z at).in_main in cc)

  pub strong_is_plan : g table ≡ Strong → (size : ℕ) (content : Content) → IsNewPlan g c h sent d t (strong_plan size c d table row slots content)
  strong_is_plan strong size content =
      let r = row_tied in
      let m : Main = main_of (d.last + 1) (version_in slots.shadow) content in
      let w : Write = write_for c table row m in
      let no_main = open_strong (g table) slots.main (open_of x) strong r.main in
      let none = no_conflict no_main in
      let o : InFlight = strong_out size m.number slots content in
      write_plan_is (record slots { out = Some o }) m refl (r.level none) (record {
        fit = strong_fit (g table) c (h table) table row t.writes x sent (d.last + 1) (ap (λ (n : ℕ). n + 1) k.last) n_free n_fresh written_low strong slots content o.pieces r.fit of no_main none;
        main = no_main ∙ sym (ap (λ (s : Scheme). option_map main_for (open_in s (open_of (row_wrote w x)))) strong);
        read = r.read;
        level = r.level;
        under = r.under;
        based = r.based;
      })

  -- a full Main is the write that the lines tell as open
  main_open : (m : Main) → slots.main ≡ Some m → (w : Write) × (open_of x ≡ Some w) × (w.number ≡ m.number)
  main_open m at = by_scheme (g table) (open_of x) refl (sym at ∙ row_tied.main)
    where
      by_scheme : (s : Scheme) (q : Option Write) → open_of x ≡ q → Some m ≡ option_map main_for (open_in s q) → (w : Write) × (open_of x ≡ Some w) × (w.number ≡ m.number)
      by_scheme Strong q here e = absurd cc
      by_scheme Causal None here e = absurd cc
      by_scheme Eventual None here e = absurd cc
      by_scheme Causal (Some w) here e = (w, here, ap (λ (z : Main). z.number) (sym (some_is m (main_for w) e)))
      by_scheme Eventual (Some w) here e = (w, here, ap (λ (z : Main). z.number) (sym (some_is m (main_for w) e)))

  main_unacked : (m : Main) → slots.main ≡ Some m → x.acked m.number ≡ false
  main_unacked m at = let w = main_open m at in subst (λ (n : ℕ). x.acked n ≡ false) w.2 (open_unacked x x.last w.0 w.1)

  -- ---- what is sent

  -- a plan that tells nothing
  unheard_is_plan : (s : Slots) → RowTied_ s t.writes x → IsNewPlan g c h sent d t (slots_plan d table row s [])
  unheard_is_plan s here =
      new_plan g c h sent d t (slots_plan d table row s []) tt tt refl
      (tied_row g c h sent d t k table o is d.last row s t
      (record { more = []; writes = sym (append-nil t.writes); at = λ q y apart. refl; position = λ q apart. refl }) k.last here [] of.last (omega arith) refl)

  pub send_is_plan : (m : Main) (pieces : List (List Piece)) → slots.main ≡ Some m → slots.out ≡ None → slots.conflict ≡ None
      → IsNewPlan g c h sent d t (slots_plan d table row (record slots { out = Some (out_with m (version_in slots.shadow) pieces) }) [])
  send_is_plan m pieces at none idle =
      let r = row_tied in
      unheard_is_plan (record slots { out = Some (out_with m (version_in slots.shadow) pieces) }) (record {
        fit = send_fit (g table) c (h table) table row (r.fit.weak m at) slots m pieces t.writes x sent of r.fit at none idle (main_unacked m at);
        main = r.main;
        read = r.read;
        level = r.level;
        under = r.under;
        based = r.based;
      })

  -- and sent again with all its chunks
  pub whole_is_plan : (out : InFlight) → slots.out ≡ Some out → IsNewPlan g c h sent d t (whole_plan d table row slots out)
  whole_is_plan out at =
      let r = row_tied in
      let now : InFlight = whole_out out in
      unheard_is_plan (record slots { out = Some now }) (record {
        fit = respelled_fit (g table) c (h table) table row slots out now.pieces true t.writes x sent r.fit at;
        main = r.main;
        read = r.read;
        level = r.level;
        under = r.under;
        based = r.based;
      })

  -- ---- what is heard behind one fact of the row

  abbrev behind : (RowHeard → RowHeard) → Heard
  behind f = at_row t table row f

  pub heard_here : (f : RowHeard → RowHeard) → (behind f).at table row ≡ f x
  heard_here f = place_here t.at table row (f x)

  -- ---- answers

  -- the write of what waits
  out_content : (out : InFlight) → slots.out ≡ Some out → (i : Stored) (version : ℕ) → IsItemOf (h table) c out.number row version i → i.content ≡ out.content
  out_content out at i version item =
      let w = of.wrote i item.stands item.client_is in
      let u = row_tied.fit.out out at in
      let one : Some w.0 ≡ Some (write_for c table row (record { number = out.number; read = out.read; content = out.content })) =
      sym w.1 ∙ (ap (λ (n : ℕ). write_of n t.writes) item.number_is ∙ u.written) in
      let same : w.0 ≡ write_for c table row (record { number = out.number; read = out.read; content = out.content }) = some_is w.0 _ one in
      sym w.4 ∙ ap (λ (y : Write). y.content) same

  acked_once : (n v : ℕ) → row_acked n v (row_acked n v x) ≡ row_acked n v x
  acked_once n v = grind (arith, nat_tests)

  pub exact_causal : g table ≡ Causal → g table ≢ Eventual
  exact_causal e = λ no. absurd cc

  pub ack_is_plan : (out : InFlight) → slots.out ≡ Some out → (version : ℕ) (i : Stored) → IsItemOf (h table) c out.number row version i
      → IsNewPlan g c h sent d t (ack_plan c d table row slots out version)
  ack_is_plan out at version i item =
      let r = row_tied in
      let u = r.fit.out out at in
      let f : RowHeard → RowHeard = row_acked out.number version in
      let y : Shadow = shadow_at version out in
      let none = u.free in
      let after = u.later i item.stands item.client_is item.row_is item.number_is in
      let v = item.version_is in
      let up = of.up_to i item.stands in
      let content : IsContent (h table) row y = (i, record { stands = item.stands; row_is = item.row_is; version_is = v }, out_content out at i version item) in
      let freed_slots = freed_fit (g table) c (h table) table row t.writes x sent slots out r.fit at in
      let raised = raise_fit (g table) c (h table) table row t.writes x sent (freed slots out.number) y freed_slots content (omega (arith, after, v)) (omega (arith, up, v)) none
      (λ z no. absurd cc)
      (λ causal m main j a here less le.
      let same : j ≡ i = own_only (g table) c (h table) table row t.writes x sent of (exact_causal causal) slots r.fit i j item.stands item.client_is item.row_is a here less (omega (arith, le, v)) in
      subst (λ (z : Stored). z.entry.client ≡ c) (sym same) item.client_is) in
      let read : x.read < version = (let top_is = r.read in grind (arith, top_is, none, after, v)) in
      let under = r.under in
      let low : version ≤ length (h table) = omega (arith, up, v) in
      row_is_plan (record (freed slots out.number) { shadow = Some y }) (facts.Acked c out.number table row version ∷ []) f (λ s. refl) (acked_once out.number version)
      ((refl, (i, item), inl (u.unacked, read)), tt)
      ((refl, (i, item), inr (refl, subst (λ (z : RowHeard). z.acked out.number ≡ true) (sym (heard_here f)) (grind (arith, nat_tests)))), tt)
      (grind arith)
      (record {
        fit = heard_fit (g table) c (h table) table row t.writes x sent (record (freed slots out.number) { shadow = Some y }) (f x) refl refl (λ z now. absurd cc) raised;
        main = ap (without out.number) r.main ∙ open_behind (g table) x.last x (f x) out.number (closed_acked x out.number version);
        read = grind (arith, none, read);
        level = λ free. grind (arith, under, read);
        under = grind (arith, under);
        based = grind (arith, low, r.based);
      })

  -- each request of a write on this row is of this row
  pub requests_here : (n : ℕ) (w : Write) → write_of n t.writes ≡ Some w → w.table ≡ table → w.row ≡ row → (s : Sending) → Among sent s → s.number ≡ n
      → (s.table ≡ table) × (s.row ≡ row)
  requests_here n w written in_table here s a number =
      let q = ours.requested s a in
      let one : Some q.0 ≡ Some w = sym q.1 ∙ (ap (λ (m : ℕ). write_of m t.writes) number ∙ written) in
      let same : q.0 ≡ w = some_is q.0 w one in
      (sym q.2 ∙ (ap (λ (z : Write). z.table) same ∙ in_table), sym q.3 ∙ (ap (λ (z : Write). z.row) same ∙ here))

  -- the write of what waits, as the lines tell it
  abbrev pub out_write : InFlight → Write
  out_write out = write_for c table row (record { number = out.number; read = out.read; content = out.content })

  pub lost_is_plan : g table ≡ Strong → (out : InFlight) → slots.out ≡ Some out → (version : ℕ) → IsRefused c h sent out.number table row version
      → IsNewPlan g c h sent d t (lost_plan c d table row slots out version)
  lost_is_plan strong out at version refused =
      let r = row_tied in
      let u = r.fit.out out at in
      let f : RowHeard → RowHeard = row_lost out.number in
      let no_main = open_strong (g table) slots.main (open_of x) strong r.main in
      row_is_plan (record slots { out = None }) (facts.Refused c out.number table row version ∷ []) f (λ s. refl) (grind (arith, nat_tests))
      ((refl, strong, passed t refl, inl u.unlost), tt)
      ((refl, strong, passed (behind f) refl, inr (refl, subst (λ (z : RowHeard). z.lost out.number ≡ true) (sym (heard_here f)) (grind (arith, nat_tests)))), tt)
      (omega arith)
      (record {
        fit = lost_fit (g table) c (h table) table row t.writes x sent slots out r.fit at no_main;
        main = no_main ∙ sym (ap (λ (s : Scheme). option_map main_for (open_in s (open_of (f x)))) strong);
        read = r.read;
        level = r.level;
        under = r.under;
        based = r.based;
      })
    where
      base_is : refused.base ≡ out.base
      base_is = (row_tied.fit.sent_out out (record { table = table; row = row; number = out.number; base = refused.base }) at refused.was_sent refl refl).1 refl

      read_is : out.read ≡ out.base
      read_is = subst (λ (s : Scheme). Spans s c out.number (h table) row out.read out.base) strong (row_tied.fit.out out at).spans

      version_low : version ≤ latest (h table) row
      version_low =
          let low = of.last refused.item refused.stands.stands in
          subst (λ (z : List ℕ). version ≤ latest (h table) z) refused.stands.row_is (subst (λ (n : ℕ). n ≤ latest (h table) refused.item.entry.row) refused.stands.version_is low)

      passed : (y : Heard) → y.writes ≡ t.writes → IsPassed c h sent y out.number table row version
      passed y same = record {
        write = out_write out;
        written = subst (λ (ws : List Write). write_of out.number ws ≡ Some (out_write out)) (sym same) (row_tied.fit.out out at).written;
        by = refl;
        table_is = refl;
        row_is = refl;
        above = (let b = base_is in let e = read_is in let less = refused.below in omega (arith, b, e, less));
        item = refused.item;
        stands = refused.stands;
        lapsed = record {
          below = λ s a number.
              let here = requests_here out.number (out_write out) (row_tied.fit.out out at).written refl refl s a number in
              let base = (row_tied.fit.sent_out out s at a here.0 here.1).1 number in
              let less = refused.below in
              let b = base_is in
              let low = version_low in
              let up : latest (h s.table) s.row ≡ latest (h table) row = ap (λ (q : ℕ). latest (h q) s.row) here.0 ∙ ap (λ (z : List ℕ). latest (h table) z) here.1 in
              omega (arith, base, less, b, low, up);
          none = refused.none;
        };
      }

  -- ---- resolving

  named : (m : Main) (y : Shadow) → slots.main ≡ Some m → slots.conflict ≡ Some y → x.conflict m.number ≡ Some y.version
  named m y at is_full =
      let q = row_tied.fit.conflict y is_full in
      let same : q.main ≡ m = some_is q.main m (sym q.in_main ∙ at) in
      subst (λ (z : Main). x.conflict z.number ≡ Some y.version) same q.named

  pub conflict_read : (y : Shadow) → slots.conflict ≡ Some y → x.read ≡ y.version
  conflict_read y is_full = sym (row_tied.read) ∙ ap (λ (z : Option Shadow). top z slots.shadow) is_full

  resolved_once : (n v : ℕ) → row_resolved n v (row_resolved n v x) ≡ row_resolved n v x
  resolved_once n v = grind (arith, nat_tests)

  pub theirs_is_plan : (m : Main) (y : Shadow) → slots.main ≡ Some m → slots.conflict ≡ Some y → IsNewPlan g c h sent d t (theirs_plan c d table row slots m y)
  theirs_is_plan m y at is_full =
      let r = row_tied in
      let f : RowHeard → RowHeard = row_resolved m.number y.version in
      let read = conflict_read y is_full in
      let under = r.under in
      let based = r.based in
      row_is_plan (record slots { main = None; shadow = Some y; conflict = None }) (facts.Resolved c m.number table row y.version ∷ []) f (λ s. refl) (resolved_once m.number y.version)
      ((refl, named m y at is_full, inl (main_open m at), omega (arith, read)), tt) (
        (
          refl,
          subst (λ (z : RowHeard). z.conflict m.number ≡ Some y.version) (sym (heard_here f)) (named m y at is_full),
          inr (refl, subst (λ (z : RowHeard). z.resolved m.number ≡ true) (sym (heard_here f)) (grind (arith, nat_tests))),
          subst (λ (z : RowHeard). z.read ≤ y.version) (sym (heard_here f)) (grind (arith, read)),
        ),
        tt,
      )
      (grind arith)
      (record {
        fit = settled_fit (g table) c (h table) table row t.writes x sent slots y m.number r.fit is_full (omega (arith, read, based));
        main = none_open m at ∙ open_behind (g table) x.last x (f x) m.number (closed_resolved x m.number y.version);
        read = grind (arith, read);
        level = λ free. grind (arith, under, read);
        under = grind (arith, under);
        based = grind (arith, read, based);
      })
    where
      none_open : (m : Main) → slots.main ≡ Some m → None ≡ without m.number (option_map main_for (open_in (g table) (open_of x)))
      none_open m at = none_left m ∙ ap (without m.number) (sym at ∙ row_tied.main)
        where
          none_left : (m : Main) → None ≡ without m.number (Some m)
          none_left m = grind (arith, nat_tests)

  -- over the conflict's row stands a new write
  module _ (m : Main) (y : Shadow) (content : Content) (at : slots.main ≡ Some m) (is_full : slots.conflict ≡ Some y) where
    abbrev settled : RowHeard → RowHeard
    settled = row_resolved m.number y.version

    abbrev over : Main
    over = main_of (d.last + 1) y.version content

    abbrev over_write : Write
    over_write = write_for c table row over

    abbrev over_heard : Heard
    over_heard = record t { writes = t.writes ++ over_write ∷ []; at = put_at t.at table row (row_wrote over_write (settled x)) }

    over_facts : List ClientFact
    over_facts = facts.Resolved c m.number table row y.version ∷ facts.Wrote over_write ∷ []

    next_number : d.last + 1 ≡ length t.writes + 1
    next_number = ap (λ (n : ℕ). n + 1) k.last

    first_heard : wrote (at_row t table row settled) over_write ≡ over_heard
    first_heard =
        wrote_new (at_row t table row settled) over_write next_number
        ∙ ap (λ (z : RowHeard). record t { writes = t.writes ++ over_write ∷ []; at = put_at (put_at t.at table row (settled x)) table row (row_wrote over_write z) }) (heard_here settled)
        ∙ ap (λ (z : ℕ → List ℕ → RowHeard). record t { writes = t.writes ++ over_write ∷ []; at = z }) (place_twice t.at table row (settled x) (row_wrote over_write (settled x)))

    over_here : over_heard.at table row ≡ row_wrote over_write (settled x)
    over_here = place_here t.at table row (row_wrote over_write (settled x))

    settled_again : settled (row_wrote over_write (settled x)) ≡ row_wrote over_write (settled x)
    settled_again = ap (λ (z : RowHeard). record z { last = Some over_write }) (resolved_once m.number y.version)

    resolved_again : at_row over_heard table row settled ≡ over_heard
    resolved_again =
        ap (λ (z : RowHeard). record over_heard { at = put_at over_heard.at table row (settled z) }) over_here
        ∙ ap (λ (z : RowHeard). record over_heard { at = put_at over_heard.at table row z }) settled_again
        ∙ ap (λ (z : ℕ → List ℕ → RowHeard). record over_heard { at = z }) (place_twice t.at table row (row_wrote over_write (settled x)) (row_wrote over_write (settled x)))

    wrote_over_again : wrote over_heard over_write ≡ over_heard
    wrote_over_again = grind (arith, nat_tests, next_number, length_push)

    again_heard : wrote (at_row over_heard table row settled) over_write ≡ over_heard
    again_heard = ap (λ (z : Heard). wrote z over_write) resolved_again ∙ wrote_over_again

    over_fresh : IsFresh (settled x) (d.last + 1)
    over_fresh =
        let low = (ours.numbered m.number (write_for c table row m) (row_tied.fit.mine m at).0).3 in
        let last = k.last in
        record {
          acked = n_fresh.acked;
          lost = n_fresh.lost;
          resolved = grind (arith, nat_tests, n_fresh.resolved, low, last);
          conflict = n_fresh.conflict;
        }

    pub over_is_plan : IsNewPlan g c h sent d t (over_plan c d table row slots m y content)
    unfolding over_facts
    over_is_plan =
        let r = row_tied in
        let read = conflict_read y is_full in
        let under = r.under in
        let based = r.based in
        let weak = r.fit.weak m at in
        let s : Slots = record slots { main = None; shadow = Some y; conflict = None } in
        let low : y.version ≤ length (h table) = omega (arith, read, based) in
        let fit = settled_fit (g table) c (h table) table row t.writes x sent slots y m.number r.fit is_full low in
        let whole : RowTied_ (record slots { main = Some over; shadow = Some y; conflict = None }) (t.writes ++ over_write ∷ []) (row_wrote over_write (settled x)) = record {
          fit = write_fit (g table) c (h table) table row t.writes (settled x) sent (d.last + 1) next_number n_free over_fresh written_low weak s content fit refl;
          main = open_new (g table) (row_wrote over_write (settled x)) over_write weak (fresh_open (settled x) (d.last + 1) over_fresh);
          read = grind (arith, read);
          level = λ free. grind (arith, under, read);
          under = grind (arith, under);
          based = grind (arith, read, based);
        } in
        new_plan g c h sent d t (over_plan c d table row slots m y content) (
          (refl, named m y at is_full, inl (main_open m at), omega (arith, read)),
          ((refl, inl (next_number, subst (λ (z : RowHeard). y.version ≡ z.shadow) (sym (heard_here settled)) (grind (arith, under, read)))), tt),
        )
        (subst (λ (z : Heard). AreOwn g c h sent z (map facts.Redone over_facts)) (sym first_heard) (
          (
            refl,
            subst (λ (z : RowHeard). z.conflict m.number ≡ Some y.version) (sym over_here) (named m y at is_full),
            inr (refl, subst (λ (z : RowHeard). z.resolved m.number ≡ true) (sym over_here) (grind (arith, nat_tests))),
            subst (λ (z : RowHeard). z.read ≤ y.version) (sym over_here) (grind (arith, read)),
          ),
          ((refl, inr (refl, write_of-push (d.last + 1) t.writes over_write n_free refl)), tt),
        ))
        (subst (λ (z : Heard). own_all z (map facts.Client over_facts) ≡ z) (sym first_heard) again_heard)
        (subst (λ (z : Heard). Tied g c h sent (applied (over_plan c d table row slots m y content) d) z) (sym first_heard)
        (tied_row g c h sent d t k table o is (d.last + 1) row (record slots { main = Some over; shadow = Some y; conflict = None }) over_heard
        (elsewhere_write t table row over_write (row_wrote over_write (settled x))) (grind (arith, next_number, length_push))
        (subst (λ (z : RowHeard). RowTied_ (record slots { main = Some over; shadow = Some y; conflict = None }) (t.writes ++ over_write ∷ []) z) (sym over_here) whole)
        over_facts of.last (subst (λ (z : RowHeard). x.read ≤ z.read) (sym over_here) (grind arith)) refl))
