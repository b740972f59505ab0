-- What a client's devices have of the Store, behind a plan of one row, and behind requests that were sent.
use Rattle.std.proofs.Common.{◌≡◌, ◌≢◌, ◌⊎◌, inl, inr, ⊎_elim, ℕ, Bool, true, false, List, [], ◌∷◌, ◌++◌, Option, Some, None, refl, sym, ◌∙◌, ap, subst, arith, append-nil, append_assoc}
use Rattle.std.specs.Prelude.{◌==◌, option_map, option_to_list, if◌then◌else◌}
use Rattle.std.proofs.lemmas.Bool.Decides.{nat_tests}
use Rattle.step_tables.specs.Slots.{InFlight}
use Rattle.step_tables.specs.Store.{Stored}
use Rattle.step_tables.specs.Chunks.{is_spelled}
use Rattle.step_tables.specs.Facts.{ClientFact}
use Rattle.step_tables.specs.Members.{Among}
use Rattle.step_tables.specs.Messages.{Request, Send}
use Rattle.step_tables.specs.ClientMoves.{Slots, TableDisk, RowPut, Plan, ClientDisk, slots_at, slots_in, slots_of, table_at, put_row, applied, request_for, resent}
use Rattle.step_tables.proofs.Lists.{among_none, among_cons, among_here, among_next, among_either, among_cases}
use Rattle.client_laws.proofs.Disks.{opened_by, rows_applied_at, put_row_slots}
use Rattle.piece_laws.specs.Pieces.{request_in, KeepsKnown, IsOfRequest, IsOfOut, IsSpelledOut, SlotsNamed}
use Rattle.piece_laws.proofs.Disks.{AreNamed, IsSent, SendsAll, requests_in}

module _ (table : ℕ) (last : ℕ) (row : Option RowPut) (position : Option ℕ) (facts : List ClientFact) where
  abbrev pub plan : Plan
  plan = record { last = last; table = table; row = row; position = position; alters = None; facts = facts }

  opened_slots : (o : TableDisk) (r : List ℕ) → ((x : RowPut) × (row ≡ Some x) × (r ≡ x.row) × (slots_at (opened_by plan o) r ≡ x.slots)) ⊎ (slots_at (opened_by plan o) r ≡ slots_at o r)
  opened_slots o r = go row refl position refl
    where
      put : (x : RowPut) → row ≡ Some x → (slots_at (opened_by plan o) r ≡ slots_at (put_row x o) r)
          → ((x : RowPut) × (row ≡ Some x) × (r ≡ x.row) × (slots_at (opened_by plan o) r ≡ x.slots)) ⊎ (slots_at (opened_by plan o) r ≡ slots_at o r)
      put x is same = ⊎_elim (λ k. inl (x, is, k.0, same ∙ k.1)) (λ k. inr (same ∙ k.1)) (put_row_slots x o r)

      go : (w : Option RowPut) → row ≡ w → (n : Option ℕ) → position ≡ n
          → ((x : RowPut) × (row ≡ Some x) × (r ≡ x.row) × (slots_at (opened_by plan o) r ≡ x.slots)) ⊎ (slots_at (opened_by plan o) r ≡ slots_at o r)
      go None is None at = inr (ap (λ (p : Plan). slots_at (opened_by p o) r) (both is at))
        where
          both : row ≡ None → position ≡ None → plan ≡ record { last = last; table = table; row = None; position = None; alters = None; facts = facts }
          both e f = ap (λ (w : Option RowPut). record { last = last; table = table; row = w; position = position; alters = None; facts = facts }) e
              ∙ ap (λ (n : Option ℕ). record { last = last; table = table; row = None; position = n; alters = None; facts = facts }) f
      go None is (Some n) at = inr (ap (λ (w : Option RowPut). slots_at (opened_by (record { last = last; table = table; row = w; position = position; alters = None; facts = facts }) o) r) is
          ∙ ap (λ (m : Option ℕ). slots_at (opened_by (record { last = last; table = table; row = None; position = m; alters = None; facts = facts }) o) r) at)
      go (Some x) is None at = put x is (ap (λ (w : Option RowPut). slots_at (opened_by (record { last = last; table = table; row = w; position = position; alters = None; facts = facts }) o) r) is
          ∙ ap (λ (m : Option ℕ). slots_at (opened_by (record { last = last; table = table; row = Some x; position = m; alters = None; facts = facts }) o) r) at)
      go (Some x) is (Some n) at = put x is (ap (λ (w : Option RowPut). slots_at (opened_by (record { last = last; table = table; row = w; position = position; alters = None; facts = facts }) o) r) is
          ∙ ap (λ (m : Option ℕ). slots_at (opened_by (record { last = last; table = table; row = Some x; position = m; alters = None; facts = facts }) o) r) at)

  opened_schema : (o : TableDisk) → (opened_by plan o).schema ≡ o.schema
  opened_schema o = go row position
    where
      go : (w : Option RowPut) (n : Option ℕ) → (opened_by (record { last = last; table = table; row = w; position = n; alters = None; facts = facts }) o).schema ≡ o.schema
      go None None = refl
      go None (Some n) = refl
      go (Some x) None = refl
      go (Some x) (Some n) = refl

  abbrev IsBehind : ClientDisk → ℕ → List ℕ → Type 0
  IsBehind d t r = ((x : RowPut) × (row ≡ Some x) × (t ≡ table) × (r ≡ x.row) × (slots_of (applied plan d) t r ≡ x.slots)) ⊎ (slots_of (applied plan d) t r ≡ slots_of d t r)

  behind : (d : ClientDisk) (t : ℕ) (r : List ℕ) → IsBehind d t r
  behind d t r = go (table == t) refl (table_at d table) refl
    where
      by_test : (b : Bool) → (table == t) ≡ b → slots_of (applied plan d) t r ≡ slots_in (if b then option_map (opened_by plan) (table_at d table) else table_at d t) r
      by_test b is = ap (λ (m : Option TableDisk). slots_in m r) (rows_applied_at plan d t ∙ ap (λ (x : Bool). if x then option_map (opened_by plan) (table_at d table) else table_at d t) is)

      go : (b : Bool) → (table == t) ≡ b → (m : Option TableDisk) → table_at d table ≡ m → IsBehind d t r
      go false is m at = inr (by_test false is)
      go true is None at =
          let same : table ≡ t = grind (arith, nat_tests, is) in
          inr (by_test true is ∙ ap (λ (m : Option TableDisk). slots_in (option_map (opened_by plan) m) r) at
          ∙ sym (ap (λ (m : Option TableDisk). slots_in m r) (ap (table_at d) (sym same) ∙ at)))
      go true is (Some o) at =
          let same : table ≡ t = grind (arith, nat_tests, is) in
          let now : slots_of (applied plan d) t r ≡ slots_at (opened_by plan o) r = by_test true is ∙ ap (λ (m : Option TableDisk). slots_in (option_map (opened_by plan) m) r) at in
          let before : slots_of d t r ≡ slots_at o r = ap (λ (m : Option TableDisk). slots_in m r) (ap (table_at d) (sym same) ∙ at) in
          ⊎_elim (λ k. inl (k.0, k.1, sym same, k.2, now ∙ k.3)) (λ k. inr (now ∙ k ∙ sym before)) (opened_slots o r)

  module _ (size : ℕ → ℕ) (c : ℕ) (h : ℕ → List Stored) (sent : List Request) (d : ClientDisk) (k : AreNamed size c h sent d)
      (new : (x : RowPut) → row ≡ Some x → SlotsNamed (size table) c (h table) sent table x.row x.slots)
      (apart : (x : RowPut) → row ≡ Some x → (o : InFlight) → x.slots.out ≡ Some o → (other : ℕ) (place : List ℕ) (p : InFlight) → (slots_of d other place).out ≡ Some p
      → o.number ≡ p.number → (table ≡ other) × (x.row ≡ place)) where
    some_put : (x y : RowPut) → row ≡ Some x → row ≡ Some y → x ≡ y
    some_put x y a b = let both : Some x ≡ Some y = sym a ∙ b in cc

    rows_named : (t : ℕ) (r : List ℕ) → IsBehind d t r → SlotsNamed (size t) c (h t) sent t r (slots_of (applied plan d) t r)
    rows_named t r (inr same) = subst (λ (s : Slots). SlotsNamed (size t) c (h t) sent t r s) (sym same) (k.rows t r)
    rows_named t r (inl b) = subst (λ (s : Slots). SlotsNamed (size t) c (h t) sent t r s) (sym b.4)
        (subst (λ (n : ℕ). SlotsNamed (size n) c (h n) sent n r b.0.slots) (sym b.2) (subst (λ (z : List ℕ). SlotsNamed (size table) c (h table) sent table z b.0.slots) (sym b.3) (new b.0 b.1)))

    all_apart : (t : ℕ) (r : List ℕ) (o : InFlight) (other : ℕ) (place : List ℕ) (p : InFlight) → IsBehind d t r → IsBehind d other place → (slots_of (applied plan d) t r).out ≡ Some o
        → (slots_of (applied plan d) other place).out ≡ Some p → o.number ≡ p.number → (t ≡ other) × (r ≡ place)
    all_apart t r o other place p (inr x) (inr y) a b n = k.apart t r o other place p (ap (λ (s : Slots). s.out) (sym x) ∙ a) (ap (λ (s : Slots). s.out) (sym y) ∙ b) n
    all_apart t r o other place p (inl x) (inl y) a b n = let same = some_put x.0 y.0 x.1 y.1 in (x.2 ∙ sym y.2, x.3 ∙ (ap (λ (z : RowPut). z.row) same ∙ sym y.3))
    all_apart t r o other place p (inl x) (inr y) a b n =
        let q = apart x.0 x.1 o (ap (λ (s : Slots). s.out) (sym x.4) ∙ a) other place p (ap (λ (s : Slots). s.out) (sym y) ∙ b) n in (x.2 ∙ q.0, x.3 ∙ q.1)
    all_apart t r o other place p (inr x) (inl y) a b n =
        let q = apart y.0 y.1 p (ap (λ (s : Slots). s.out) (sym y.4) ∙ b) t r o (ap (λ (s : Slots). s.out) (sym x) ∙ a) (sym n) in (sym q.0 ∙ sym y.2, sym q.1 ∙ sym y.3)

    sized_behind : (t : ℕ) (opened : TableDisk) → table_at (applied plan d) t ≡ Some opened → opened.schema.chunk ≡ size t
    sized_behind t opened at = go (table == t) refl (table_at d table) refl
      where
        by_test : (b : Bool) → (table == t) ≡ b → (if b then option_map (opened_by plan) (table_at d table) else table_at d t) ≡ Some opened
        by_test b is = sym (ap (λ (x : Bool). if x then option_map (opened_by plan) (table_at d table) else table_at d t) is) ∙ (sym (rows_applied_at plan d t) ∙ at)

        go : (b : Bool) → (table == t) ≡ b → (m : Option TableDisk) → table_at d table ≡ m → opened.schema.chunk ≡ size t
        go false is m found = k.sized t opened (by_test false is)
        go true is None found = absurd (let none : None ≡ Some opened = sym (ap (option_map (opened_by plan)) found) ∙ by_test true is in cc)
        go true is (Some o) found =
            let same : table ≡ t = grind (arith, nat_tests, is) in
            let some : Some (opened_by plan o) ≡ Some opened = sym (ap (option_map (opened_by plan)) found) ∙ by_test true is in
            let one : opened_by plan o ≡ opened = cc in
            ap (λ (x : TableDisk). x.schema.chunk) (sym one) ∙ (ap (λ s. s.chunk) (opened_schema o) ∙ (k.sized table o found ∙ ap size same))

    pub plan_named : AreNamed size c h sent (applied plan d)
    plan_named = record {
      rows = λ t r. rows_named t r (behind d t r);
      apart = λ t r o other place p a b n. all_apart t r o other place p (behind d t r) (behind d other place) a b n;
      sized = sized_behind;
    }

  -- what waits in the row of the plan
  pub out_behind : (d : ClientDisk) (o : TableDisk) → table_at d table ≡ Some o → (x : RowPut) → row ≡ Some x → slots_of (applied plan d) table x.row ≡ x.slots
  out_behind d o at x is = ap (λ (m : Option TableDisk). slots_in m x.row) (rows_applied_at plan d table ∙ by_test (table == table) refl) ∙ here (opened_put x is)
    where
      by_test : (b : Bool) → (table == table) ≡ b → (if b then option_map (opened_by plan) (table_at d table) else table_at d table) ≡ Some (opened_by plan o)
      by_test true same = ap (option_map (opened_by plan)) at
      by_test false same = absurd (grind (arith, nat_tests, same))

      opened_put : (y : RowPut) → row ≡ Some y → slots_at (opened_by plan o) x.row ≡ slots_at (put_row y o) x.row
      opened_put y e = ap (λ (w : Option RowPut). slots_at (opened_by (record { last = last; table = table; row = w; position = position; alters = None; facts = facts }) o) x.row) e ∙ go position
        where
          go : (n : Option ℕ) → slots_at (opened_by (record { last = last; table = table; row = Some y; position = n; alters = None; facts = facts }) o) x.row ≡ slots_at (put_row y o) x.row
          go None = refl
          go (Some n) = refl

      here : slots_at (opened_by plan o) x.row ≡ slots_at (put_row x o) x.row → slots_at (opened_by plan o) x.row ≡ x.slots
      here same = same ∙ ⊎_elim (λ k. k.1) (λ k. absurd (k.0 refl)) (put_row_slots x o x.row)

-- ---- requests

abbrev pub request_of : ℕ → ℕ → List ℕ → InFlight → Request
request_of c table row o = record { client = c; table = table; row = row; number = o.number; base = o.base; content = o.content; pieces = o.pieces }

module _ (size : ℕ → ℕ) (c : ℕ) (h : ℕ → List Stored) where
  module _ (sent : List Request) (d : ClientDisk) (k : AreNamed size c h sent d) (table : ℕ) (row : List ℕ) (o : InFlight) (waits : (slots_of d table row).out ≡ Some o) where
    -- what waits for its answer may be sent
    pub request_sent : IsSent size c h sent (request_of c table row o)
    request_sent =
        let out = (k.rows table row).out o waits in
        record {
          client_is = refl;
          spells = out.spells;
          keeps = out.keeps;
          pairs = λ p a e n.
              let of = out.requests p a e n in
              record { table_is = of.table_is; row_is = of.row_is; together = ⊎_elim (λ same. inl same) (λ x. inr (inl (x.2, x.1))) of.pieces };
        }

    some_out : (x y : InFlight) → Some x ≡ Some y → x ≡ y
    some_out x y e = cc

    pub named_sent : AreNamed size c h (sent ++ request_of c table row o ∷ []) d
    named_sent = record {
      rows = λ t r. let s = k.rows t r in record { shadow = s.shadow; conflict = s.conflict; out = λ x at. spelled t r x at (s.out x at) };
      apart = k.apart;
      sized = k.sized;
    }
      where
        spelled : (t : ℕ) (r : List ℕ) (x : InFlight) → (slots_of d t r).out ≡ Some x → IsSpelledOut (size t) c (h t) sent t r x
            → IsSpelledOut (size t) c (h t) (sent ++ request_of c table row o ∷ []) t r x
        spelled t r x at s = record {
          spells = s.spells;
          keeps = s.keeps;
          names = s.names;
          requests = λ q a e n. ⊎_elim
              (λ old. s.requests q old e n)
              (λ same. subst (IsOfOut (size t) (h t) t r x) same (new (ap (λ (z : Request). z.number) same ∙ n)))
              (among_cases sent (request_of c table row o) q a);
        }
          where
            new : o.number ≡ x.number → IsOfOut (size t) (h t) t r x (request_of c table row o)
            new n =
                let key = k.apart table row o t r x waits at n in
                let here : (slots_of d t r).out ≡ Some o =
                subst (λ (u : ℕ). (slots_of d u r).out ≡ Some o) key.0 (subst (λ (z : List ℕ). (slots_of d table z).out ≡ Some o) key.1 waits) in
                let one : o ≡ x = some_out o x (sym here ∙ at) in
                record { table_is = key.0; row_is = key.1; content_is = ap (λ (y : InFlight). y.content) one; pieces = inl (ap (λ (y : InFlight). y.pieces) one) }

  -- a write of a number that was never sent
  pub new_out : (sent : List Request) → ((t : ℕ) (i : Stored) → Among (h t) i → (q : Request) × IsOfRequest sent t i q) → (table : ℕ) (row : List ℕ) (o : InFlight)
      → is_spelled (size table) o.content o.pieces ≡ true → KeepsKnown (size table) (h table) row o.content o.pieces
      → ((q : Request) → Among sent q → q.client ≡ c → q.number ≢ o.number)
      → IsSpelledOut (size table) c (h table) sent table row o
  new_out sent items table row o spells keeps none = record {
    spells = spells;
    keeps = keeps;
    names = λ version i is.
        let q = items table i is.stands in absurd (none q.0 q.1.stands (q.1.client_is ∙ is.client_is) (q.1.number_is ∙ is.number_is));
    requests = λ q a e n. absurd (none q a e n);
  }

  -- ---- all requests that wait

  module _ (d : ClientDisk) (table : ℕ) where
    abbrev pub waiting : List ℕ → Option InFlight → List Send
    waiting row out = option_to_list (option_map (request_for c table row) out)

    pub requests_join : (a b : List Send) → requests_in (a ++ b) ≡ requests_in a ++ requests_in b
    requests_join [] b = refl
    requests_join (s ∷ a) b = ap (λ (l : List Request). request_in s.message ++ l) (requests_join a b) ∙ sym (append_assoc (request_in s.message) (requests_in a) (requests_in b))

    sends_join : (sent : List Request) (a b : List Send) → SendsAll size c h sent a → SendsAll size c h (sent ++ requests_in a) b → SendsAll size c h sent (a ++ b)
    sends_join sent [] b x y = subst (λ (s : List Request). SendsAll size c h s b) (append-nil sent) y
    sends_join sent (s ∷ a) b x y =
        (x.0, sends_join (sent ++ request_in s.message) a b x.1 (subst (λ (z : List Request). SendsAll size c h z b) (sym (append_assoc sent (request_in s.message) (requests_in a))) y))

    row_sent : (sent : List Request) → AreNamed size c h sent d → (row : List ℕ) (out : Option InFlight) → (slots_of d table row).out ≡ out
        → SendsAll size c h sent (waiting row out) × AreNamed size c h (sent ++ requests_in (waiting row out)) d
    row_sent sent k row None none = (tt, subst (λ (s : List Request). AreNamed size c h s d) (sym (append-nil sent)) k)
    row_sent sent k row (Some o) waits = ((request_sent sent d k table row o waits, tt), named_sent sent d k table row o waits)

    pub all_sent : (rows : List (List ℕ × Slots)) → ((x : List ℕ × Slots) → Among rows x → slots_of d table x.0 ≡ x.1) → (sent : List Request) → AreNamed size c h sent d
        → SendsAll size c h sent (resent c table rows) × AreNamed size c h (sent ++ requests_in (resent c table rows)) d
    all_sent [] found sent k = (tt, subst (λ (s : List Request). AreNamed size c h s d) (sym (append-nil sent)) k)
    all_sent (x ∷ rows) found sent k =
        let first = row_sent sent k x.0 x.1.out (ap (λ (s : Slots). s.out) (found x (among_here x rows))) in
        let more = all_sent rows (λ y a. found y (among_next x rows y a)) (sent ++ requests_in (waiting x.0 x.1.out)) first.1 in (
          sends_join sent (waiting x.0 x.1.out) (resent c table rows) first.0 more.0,
          subst (λ (s : List Request). AreNamed size c h s d) (append_assoc sent (requests_in (waiting x.0 x.1.out)) (requests_in (resent c table rows))
              ∙ ap (λ (l : List Request). sent ++ l) (sym (requests_join (waiting x.0 x.1.out) (resent c table rows)))) more.1,
        )

    -- each is of a row that waits
    pub of_waiting : (rows : List (List ℕ × Slots)) → ((x : List ℕ × Slots) → Among rows x → slots_of d table x.0 ≡ x.1) → (q : Request) → Among (requests_in (resent c table rows)) q
        → (row : List ℕ) × (o : InFlight) × ((slots_of d table row).out ≡ Some o) × (q.number ≡ o.number)
    of_waiting [] found q a = absurd (among_none q a)
    of_waiting (x ∷ rows) found q a =
        ⊎_elim (λ b. here x.1.out (ap (λ (s : Slots). s.out) (found x (among_here x rows))) b) (λ b. of_waiting rows (λ y z. found y (among_next x rows y z)) q b)
        (among_either (requests_in (waiting x.0 x.1.out)) (requests_in (resent c table rows)) q
        (subst (λ (l : List Request). Among l q) (requests_join (waiting x.0 x.1.out) (resent c table rows)) a))
      where
        here : (out : Option InFlight) → (slots_of d table x.0).out ≡ out → Among (requests_in (waiting x.0 out)) q
            → (row : List ℕ) × (o : InFlight) × ((slots_of d table row).out ≡ Some o) × (q.number ≡ o.number)
        here None none b = absurd (among_none q b)
        here (Some o) waits b = ⊎_elim (λ e. (x.0, o, waits, ap (λ (z : Request). z.number) (sym e))) (λ e. absurd (among_none q e)) (among_cons (request_of c table x.0 o) [] q b)
