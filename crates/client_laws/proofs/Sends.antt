-- What a client sends is so, and its devices show what its lines say once it is sent.
use Rattle.std.proofs.Common.{◌≡◌, ◌≢◌, ◌⊎◌, ℕ, Bool, true, false, ◌≤◌, List, [], ◌∷◌, ◌++◌, length, Option, Some, None, refl, sym, ap, subst, ◌∙◌, arith, inl, inr, append-nil, append_assoc}
use Rattle.std.specs.Prelude.{◌==◌, option_map, option_to_list, if◌then◌else◌}
use Rattle.std.proofs.lemmas.Bool.Decides.{nat_tests}
use Rattle.std.proofs.lemmas.Cmp.{tied_itself, nat_list_cmp_total}
use Rattle.std.specs.Ordering.{is_eq, ordering_reverse}
use Rattle.std.specs.Map.{lookup}
use Rattle.std.specs.BTreeMap.{is_at}
use Rattle.row_value.specs.declared.schema.Scheme.{Scheme}
use Rattle.table_model.specs.declared.line.Write.{Write}
use Rattle.table_model.specs.History.{same_row}
use Rattle.step_tables.specs.Slots.{Main}
use Rattle.step_tables.specs.Slots.{InFlight}
use Rattle.step_tables.specs.Slots.{Shadow}
use Rattle.step_tables.specs.Client.{row_cmp, version_in}
use Rattle.step_tables.specs.Members.{Among}
use Rattle.step_tables.specs.Messages.{Send}
use Rattle.step_tables.specs.Sayings.{Heard, write_of}
use Rattle.step_tables.specs.ClientMoves.{Slots, TableDisk, ClientDisk, RowOut, slots_at, slots_of, or_none, out_of, request_for, resent, to_send, or_later}
use Rattle.step_tables.specs.ClientMoves.{first_to_send}
use Rattle.step_tables.proofs.Lists.{among_left, among_here, among_next, among_cases, same_row_tells}
use Rattle.client_laws.specs.Part.{Items, Sending, sendings, sending_in, Ours, write_for, Fit, RowTied, Tied, Rising, IsRequest, Requests}
use Rattle.client_laws.proofs.RowFits.{sent_fit, sent_apart_fit}

-- ---- lists

pub sendings-append : (a b : List Send) → sendings (a ++ b) ≡ sendings a ++ sendings b
sendings-append [] b = refl
sendings-append (s ∷ a) b = ap (λ (l : List Sending). sending_in s.message ++ l) (sendings-append a b) ∙ sym (append_assoc (sending_in s.message) (sendings a) (sendings b))

pub requests-append : (g : ℕ → Scheme) (c : ℕ) (h : Items) (t : Heard) (a b : List Send) → Requests g c h t a → Requests g c h t b → Requests g c h t (a ++ b)
requests-append g c h t [] b k q = q
requests-append g c h t (s ∷ a) b k q = (k.0, requests-append g c h t a b k.1 q)

-- ---- one request

abbrev pub sending_for : ℕ → List ℕ → InFlight → Sending
sending_for table row out = record { table = table; row = row; number = out.number; base = out.base }

module _ (g : ℕ → Scheme) (c : ℕ) (h : Items) (sent : List Sending) (e : ClientDisk) (u : Heard) (k : Tied g c h sent e u)
    (table : ℕ) (row : List ℕ) (out : InFlight) (waits : (slots_of e table row).out ≡ Some out) where
  -- what waits for its answer may be sent
  pub request_is : IsRequest g c h u (request_for c table row out) (request_for c table row out).message
  request_is =
      let fit = (k.rows table row).fit in
      let o = fit.out out waits in (
        refl,
        record {
          client_is = refl;
          write = write_for c table row (record { number = out.number; read = out.read; content = out.content });
          written = o.written;
          table_is = refl;
          row_is = refl;
          content_is = refl;
          base = o.base;
          spans = o.spans;
          low = (let low = o.low in let up = fit.low in omega (arith, low, up));
          clear = o.clear;
          unlost = o.unlost;
        },
      )

  -- and its slots are tied once it is sent
  pub sent_tied : out.number ≤ length u.writes → Tied g c h (sent ++ sending_for table row out ∷ []) e u
  sent_tied numbered = record {
    last = k.last;
    rows = λ q r. by_table q r (q == table) refl (same_row_tells r row);
    tables = k.tables;
    opened = k.opened;
  }
    where
      tied_as : (q : ℕ) (r : List ℕ) → Fit (g q) c (h q) q r (slots_of e q r) u.writes (u.at q r) (sent ++ sending_for table row out ∷ [])
          → RowTied (g q) c (h q) q r (slots_of e q r) u.writes (u.at q r) (sent ++ sending_for table row out ∷ [])
      tied_as q r fit =
          let x = k.rows q r in
          record { fit = fit; main = x.main; read = x.read; level = x.level; under = x.under; based = x.based }

      apart : (q : ℕ) (r : List ℕ) → (table ≡ q → row ≡ r → ⊥) → RowTied (g q) c (h q) q r (slots_of e q r) u.writes (u.at q r) (sent ++ sending_for table row out ∷ [])
      apart q r differ = tied_as q r (sent_apart_fit (g q) c (h q) q r (slots_of e q r) u.writes (u.at q r) sent (sending_for table row out) differ (k.rows q r).fit)

      here : RowTied (g table) c (h table) table row (slots_of e table row) u.writes (u.at table row) (sent ++ sending_for table row out ∷ [])
      here = tied_as table row (sent_fit (g table) c (h table) table row (slots_of e table row) u.writes (u.at table row) sent out numbered (k.rows table row).fit waits)

      by_table : (q : ℕ) (r : List ℕ) (b : Bool) → (q == table) ≡ b → ((same_row r row ≡ true) × (r ≡ row)) ⊎ ((same_row r row ≡ false) × (r ≢ row))
          → RowTied (g q) c (h q) q r (slots_of e q r) u.writes (u.at q r) (sent ++ sending_for table row out ∷ [])
      by_table q r false is same = apart q r (λ same_table same_one. absurd (grind (arith, nat_tests, is, same_table)))
      by_table q r true is (inr differ) = apart q r (λ same_table same_one. differ.1 (sym same_one))
      by_table q r true is (inl same) =
          let in_table : q ≡ table = grind (arith, nat_tests, is) in
          subst (λ (n : ℕ). RowTied (g n) c (h n) n r (slots_of e n r) u.writes (u.at n r) (sent ++ sending_for table row out ∷ [])) (sym in_table)
          (subst (λ (z : List ℕ). RowTied (g table) c (h table) table z (slots_of e table z) u.writes (u.at table z) (sent ++ sending_for table row out ∷ [])) (sym same.1) here)

-- what is known of what was sent holds of a request more
pub ours_sent : (g : ℕ → Scheme) (c : ℕ) (h : Items) (sent : List Sending) (t : Heard) (s : Sending) (w : Write) → write_of s.number t.writes ≡ Some w
    → w.table ≡ s.table → w.row ≡ s.row → Ours g c h sent t → Ours g c h (sent ++ s ∷ []) t
ours_sent g c h sent t s w written in_table here k = record {
  numbered = k.numbered;
  fresh = k.fresh;
  requested = λ r a. elim (among_cases sent s r a) [
    | inl b ↦ k.requested r b
    | inr e ↦ subst (λ (y : Sending). (z : Write) × (write_of y.number t.writes ≡ Some z) × (z.table ≡ y.table) × (z.row ≡ y.row)) e (w, written, in_table, here)
  ];
  of_table = λ q. let x = k.of_table q in record {
    first = x.first;
    up_to = x.up_to;
    one = x.one;
    last = x.last;
    over = x.over;
    wrote = x.wrote;
    sends = λ i a client. among_left sent (s ∷ []) _ (x.sends i a client);
  };
}

-- ---- all requests that wait

pub rising_found : (rows : List (List ℕ × Slots)) (x : List ℕ × Slots) → Rising rows → Among rows x → lookup (is_at (row_cmp x.0)) rows ≡ Some x.1
unfolding Rising Among
rising_found [] x r a = absurd a
rising_found (e ∷ es) x r (inl s) =
    subst (λ (z : List ℕ × Slots). lookup (is_at (row_cmp z.0)) (e ∷ es) ≡ Some z.1) s
    (ap (λ o. if is_eq o then Some e.1 else lookup (is_at (row_cmp e.0)) es) (tied_itself nat_list_cmp_total e.0))
rising_found (e ∷ es) x r (inr b) =
    ap (λ o. if is_eq o then Some e.1 else lookup (is_at (row_cmp x.0)) es) (nat_list_cmp_total.antisymm x.0 e.0 ∙ ap ordering_reverse (r.0 x b))
    ∙ rising_found es x r.1 b

pub rows_found : (o : TableDisk) (x : List ℕ × Slots) → Rising o.rows → Among o.rows x → slots_at o x.0 ≡ x.1
rows_found o x r a = ap or_none (rising_found o.rows x r a)

module _ (g : ℕ → Scheme) (c : ℕ) (h : Items) (d : ClientDisk) (t : Heard) (table : ℕ) where
  -- behind requests that are sent again all is as it was
  pub record IsSent (sent : List Sending) : Type 0 where
    pub ours : Ours g c h sent t
    pub tied : Tied g c h sent d t

  numbered : (sent : List Sending) → IsSent sent → (row : List ℕ) (out : InFlight) → (slots_of d table row).out ≡ Some out → out.number ≤ length t.writes
  numbered sent k row out waits = (k.ours.numbered out.number _ ((k.tied.rows table row).fit.out out waits).written).3

  one_sent : (sent : List Sending) → IsSent sent → (row : List ℕ) (out : InFlight) → (slots_of d table row).out ≡ Some out → IsSent (sent ++ sending_for table row out ∷ [])
  one_sent sent k row out waits = record {
    ours = ours_sent g c h sent t (sending_for table row out) (write_for c table row (record { number = out.number; read = out.read; content = out.content }))
        ((k.tied.rows table row).fit.out out waits).written refl refl k.ours;
    tied = sent_tied g c h sent d t k.tied table row out waits (numbered sent k row out waits);
  }

  abbrev waiting : List ℕ → Option InFlight → List Send
  waiting row out = option_to_list (option_map (request_for c table row) out)

  row_sent : (sent : List Sending) → IsSent sent → (row : List ℕ) (out : Option InFlight) → (slots_of d table row).out ≡ out
      → IsSent (sent ++ sendings (waiting row out)) × Requests g c h t (waiting row out)
  row_sent sent k row None none = (subst IsSent (sym (append-nil sent)) k, tt)
  row_sent sent k row (Some out) waits = (one_sent sent k row out waits, (request_is g c h sent d t k.tied table row out waits, tt))

  pub all_resent : (rows : List (List ℕ × Slots)) → ((x : List ℕ × Slots) → Among rows x → slots_of d table x.0 ≡ x.1) → (sent : List Sending) → IsSent sent
      → IsSent (sent ++ sendings (resent c table rows)) × Requests g c h t (resent c table rows)
  all_resent [] found sent k = (subst IsSent (sym (append-nil sent)) k, tt)
  all_resent (x ∷ rows) found sent k =
      let first = row_sent sent k x.0 x.1.out (ap (λ (s : Slots). s.out) (found x (among_here x rows))) in
      let more = all_resent rows (λ y a. found y (among_next x rows y a)) (sent ++ sendings (waiting x.0 x.1.out)) first.0 in (
        subst IsSent (append_assoc sent (sendings (waiting x.0 x.1.out)) (sendings (resent c table rows))
            ∙ ap (λ (l : List Sending). sent ++ l) (sym (sendings-append (waiting x.0 x.1.out) (resent c table rows)))) more.0,
        requests-append g c h t (waiting x.0 x.1.out) (resent c table rows) first.1 more.1,
      )

-- ---- the first row that has something to send

pub record IsFirst (rows : List (List ℕ × Slots)) (x : RowOut) : Type 0 where
  pub stands : Among rows (x.row, x.slots)
  pub main : Main
  pub main_is : x.slots.main ≡ Some main
  pub out_is : x.slots.out ≡ None
  pub free : x.slots.conflict ≡ None
  pub sends : x.out ≡ out_of main (version_in x.slots.shadow)

pub first_is : (rows : List (List ℕ × Slots)) (x : RowOut) → first_to_send rows ≡ Some x → IsFirst rows x
first_is [] x at = absurd cc
first_is (entry ∷ rows) x at = by_slots (λ e. first_is rows x e) entry.1.out refl entry.1.main refl entry.1.conflict refl at
  where
    later : (first_to_send rows ≡ Some x → IsFirst rows x) → first_to_send rows ≡ Some x → IsFirst (entry ∷ rows) x
    later more e = let k = more e in record {
      stands = among_next entry rows (x.row, x.slots) k.stands;
      main = k.main;
      main_is = k.main_is;
      out_is = k.out_is;
      free = k.free;
      sends = k.sends;
    }

    by_slots : (first_to_send rows ≡ Some x → IsFirst rows x) → (o : Option InFlight) → entry.1.out ≡ o → (m : Option Main) → entry.1.main ≡ m → (q : Option Shadow) → entry.1.conflict ≡ q
        → or_later entry.0 entry.1 (to_send entry.1 o m q) (first_to_send rows) ≡ Some x → IsFirst (entry ∷ rows) x
    by_slots more (Some o) waits m main q conflict e = later more e
    by_slots more None waits None main q conflict e = later more e
    by_slots more None waits (Some m) main (Some y) conflict e = later more e
    by_slots more None waits (Some m) main None conflict e =
        let same : record { row = entry.0; slots = entry.1; out = out_of m (version_in entry.1.shadow) } ≡ x = cc in
        subst (IsFirst (entry ∷ rows)) same (record {
          stands = among_here entry rows;
          main = m;
          main_is = main;
          out_is = waits;
          free = conflict;
          sends = refl;
        })
