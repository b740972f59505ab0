-- The slots of a row behind each change, beside the items and what was written, told and sent.
use Rattle.std.proofs.Common.{Bool, true, false, ◌≡◌, ◌≢◌, ℕ, ◌+◌, ◌≤◌, ◌<◌, List, [], ◌∷◌, ◌++◌, length, length-append, Option, Some, None, refl, sym, ap, ◌∙◌, subst, arith, inl, inr}
use Rattle.std.specs.Prelude.{◌==◌, nat_lt, if◌then◌else◌}
use Rattle.std.proofs.lemmas.Bool.Decides.{nat_tests}
use Rattle.row_value.specs.declared.content.Content.{Content}
use Rattle.row_value.specs.declared.schema.Scheme.{Scheme}
use Rattle.row_value.specs.declared.schema.Scheme.TheVariants.{Strong, Causal, Eventual}
use Rattle.row_value.specs.declared.pieces.Piece.{Piece}
use Rattle.table_model.specs.declared.line.Write.{Write}
use Rattle.step_tables.specs.Slots.{Main}
use Rattle.step_tables.specs.Slots.{InFlight}
use Rattle.step_tables.specs.Slots.{Shadow}
use Rattle.step_tables.specs.Store.{Stored}
use Rattle.step_tables.specs.Client.{version_in}
use Rattle.step_tables.specs.Members.{Among}
use Rattle.step_tables.specs.Sayings.{RowHeard, write_of, row_wrote, row_lost, row_met, row_resolved}
use Rattle.step_tables.specs.ClientMoves.{Slots, main_of, out_of, without, freed}
use Rattle.step_tables.specs.Items.{IsBase}
use Rattle.step_tables.proofs.Lists.{among_cases, find_right}
use Rattle.client_laws.specs.Part.{Sending, IsFresh, OfTable, IsContent, Spans, IsAbove, write_for, IsOut, IsConflict, Fit}
use Rattle.client_laws.proofs.Grows.{some_is, write_of-left}

pub write_of-push : (n : ℕ) (ws : List Write) (w : Write) → write_of n ws ≡ None → w.number ≡ n → write_of n (ws ++ w ∷ []) ≡ Some w
write_of-push n ws w none same = find_right (λ (x : Write). x.number == n) ws (w ∷ []) none ∙ grind (arith, nat_tests)

pub without_is : (n : ℕ) (o : Option Main) (m : Main) → without n o ≡ Some m → (o ≡ Some m) × (m.number ≢ n)
without_is n None m at = absurd cc
without_is n (Some x) m at = by_test (x.number == n) refl at
  where
    by_test : (b : Bool) → (x.number == n) ≡ b → (if b then None else Some x) ≡ Some m → (Some x ≡ Some m) × (m.number ≢ n)
    by_test true is e = absurd cc
    by_test false is e = (e, λ same. absurd (grind (arith, nat_tests)))

spans_by : (x : Scheme) (c n : ℕ) (h : List Stored) (row : List ℕ) (read base : ℕ) → x ≢ Strong → (x ≡ Causal → Spans Causal c n h row read base) → Spans x c n h row read base
spans_by Causal c n h row read base f k = k refl
spans_by Strong c n h row read base f k = absurd (f refl)
spans_by Eventual c n h row read base f k = tt

-- a write over a base, spelled by pieces
abbrev pub out_with : Main → ℕ → List (List Piece) → InFlight
out_with m base pieces = record (out_of m base) { pieces = pieces }

-- a write that waits, spelled by others
abbrev pub spelled_by : InFlight → List (List Piece) → Bool → InFlight
spelled_by o pieces whole = record o { pieces = pieces; whole = whole }

module _ (g : Scheme) (c : ℕ) (h : List Stored) (table : ℕ) (row : List ℕ) where
  abbrev Fits_ : Slots → List Write → RowHeard → List Sending → Type 0
  Fits_ slots writes x sent = Fit g c h table row slots writes x sent

  -- Shadow's version is a base
  shadow_base : (slots : Slots) (writes : List Write) (x : RowHeard) (sent : List Sending) → Fits_ slots writes x sent → IsBase h row (version_in slots.shadow)
  shadow_base slots writes x sent k = by_shadow slots.shadow refl
    where
      by_shadow : (o : Option Shadow) → slots.shadow ≡ o → IsBase h row (version_in o)
      by_shadow None is = inl refl
      by_shadow (Some y) is = let q = k.shadow y is in inr (q.0, q.1)

  module _ (writes : List Write) (x : RowHeard) (sent : List Sending) (of : OfTable g c h table writes sent) where
    -- a write that is neither waiting nor in a conflict has no item
    pub unsent_none : (slots : Slots) (m : Main) → Fits_ slots writes x sent → slots.out ≡ None → slots.conflict ≡ None → slots.main ≡ Some m
        → (i : Stored) → Among h i → i.entry.client ≡ c → i.entry.row ≡ row → i.entry.number ≢ m.number
    unsent_none slots m k none free is i a client here = λ same.
        absurd (let less = k.unsent m (record { table = table; row = i.entry.row; number = i.entry.number; base = i.entry.base }) none free is (of.sends i a client) refl here in
        omega (arith, less, same))

    -- up to an item of c's the row has no other item above Shadow
    pub own_only : g ≢ Eventual → (slots : Slots) → Fits_ slots writes x sent → (i j : Stored) → Among h i → i.entry.client ≡ c → i.entry.row ≡ row
        → Among h j → j.entry.row ≡ row → version_in slots.shadow < j.entry.version → j.entry.version ≤ i.entry.version → j ≡ i
    own_only exact slots k i j a client here b there less up = by_test (nat_lt j.entry.version i.entry.version) refl
      where
        by_test : (t : Bool) → nat_lt j.entry.version i.entry.version ≡ t → j ≡ i
        by_test true is =
            absurd (let low = (k.lower (record { table = table; row = i.entry.row; number = i.entry.number; base = i.entry.base }) (of.sends i a client) refl here).1 in
            let over = of.over exact i j a b (there ∙ sym here) (grind (arith, nat_tests, is)) in
            omega (arith, low, over, less))
        by_test false is = of.one j i b a (grind (arith, nat_tests, is, up))

  module _ (writes : List Write) (x : RowHeard) (sent : List Sending) where
    -- what waited is accepted
    pub freed_fit : (slots : Slots) (o : InFlight) → Fits_ slots writes x sent → slots.out ≡ Some o → Fits_ (freed slots o.number) writes x sent
    freed_fit slots o k is = record {
      mine = λ m at. k.mine m (without_is o.number slots.main m at).0;
      clear = λ m at. k.clear m (without_is o.number slots.main m at).0;
      weak = λ m at. k.weak m (without_is o.number slots.main m at).0;
      shadow = k.shadow;
      low = k.low;
      out = λ y at. absurd cc;
      conflict = λ y at. absurd (let none = (k.out o is).free in cc);
      own = λ causal m at none. k.own causal m (without_is o.number slots.main m at).0 none;
      lower = k.lower;
      sent_out = λ y r at. absurd cc;
      unsent = λ m r at none is_main a in_table here.
          let w = without_is o.number slots.main m is_main in
          let below = (k.sent_out o r is a in_table here).0 in
          let order : o.number ≤ m.number = (k.out o is).order m w.0 in
          grind (arith, below, order, w.1);
    }

    -- Shadow rises: what is read between is c's own where Main is full
    pub raise_fit : (slots : Slots) (y : Shadow) → Fits_ slots writes x sent → IsContent h row y → version_in slots.shadow ≤ y.version → y.version ≤ length h
        → slots.conflict ≡ None
        → ((o : InFlight) → slots.out ≡ Some o → IsAbove c h row o.number y.version)
        → (g ≡ Causal → (m : Main) → slots.main ≡ Some m → (i : Stored) → Among h i → i.entry.row ≡ row → version_in slots.shadow < i.entry.version
        → i.entry.version ≤ y.version → i.entry.client ≡ c)
        → Fits_ (record slots { shadow = Some y }) writes x sent
    raise_fit slots y k content above low none later own = record {
      mine = λ m at. ((k.mine m at).0, (let le = (k.mine m at).1 in omega (arith, le, above)));
      clear = k.clear;
      weak = k.weak;
      shadow = λ z at. subst (λ (s : Shadow). IsContent h row s) (some_is y z at) content;
      low = low;
      out = λ o at. let u = k.out o at in record {
        written = u.written;
        low = (let le = u.low in omega (arith, le, above));
        base = u.base;
        spans = u.spans;
        later = later o at;
        clear = u.clear;
        unlost = u.unlost;
        unacked = u.unacked;
        free = u.free;
        order = u.order;
      };
      conflict = λ z at. absurd cc;
      own = λ causal m at free i a here less up. between causal m at i a here less up (nat_lt (version_in slots.shadow) i.entry.version) refl;
      lower = λ r a in_table here. ((k.lower r a in_table here).0, (let le = (k.lower r a in_table here).1 in omega (arith, le, above)));
      sent_out = k.sent_out;
      unsent = k.unsent;
    }
      where
        between : g ≡ Causal → (m : Main) → slots.main ≡ Some m → (i : Stored) → Among h i → i.entry.row ≡ row → m.read < i.entry.version
            → i.entry.version ≤ y.version → (t : Bool) → nat_lt (version_in slots.shadow) i.entry.version ≡ t → i.entry.client ≡ c
        between causal m at i a here less up true is = own causal m at i a here (grind (arith, nat_tests, is)) up
        between causal m at i a here less up false is = k.own causal m at none i a here less (grind (arith, nat_tests, is))

    -- the Store's row stands against Main
    pub conflict_fit : g ≡ Causal → (slots : Slots) (y : Shadow) (m : Main) → Fits_ slots writes x sent → slots.main ≡ Some m → IsContent h row y
        → version_in slots.shadow < y.version → IsAbove c h row m.number y.version
        → Fits_ (record slots { conflict = Some y; out = None }) writes (row_met m.number y.version x) sent
    conflict_fit causal slots y m k is content above later =
        let met : IsConflict g c h row (record slots { conflict = Some y; out = None }) (row_met m.number y.version x) y = record {
          causal = causal;
          content = content;
          above = above;
          main = m;
          in_main = is;
          named = grind (arith, nat_tests);
          later = later;
          idle = refl;
        } in
        record {
          mine = k.mine;
          clear = λ z at. ((k.clear z at).0, λ none. absurd cc);
          weak = k.weak;
          shadow = k.shadow;
          low = k.low;
          out = λ o at. absurd cc;
          conflict = λ z at.
              subst (λ (s : Shadow). IsConflict g c h row (record slots { conflict = Some y; out = None }) (row_met m.number y.version x) s) (some_is y z at) met;
          own = λ is_causal z at none. absurd cc;
          lower = k.lower;
          sent_out = λ o r at. absurd cc;
          unsent = λ z r at none. absurd cc;
        }

    -- a conflict is resolved: its row is read, and nothing waits
    pub settled_fit : (slots : Slots) (y : Shadow) (n : ℕ) → Fits_ slots writes x sent → slots.conflict ≡ Some y → y.version ≤ length h
        → Fits_ (record slots { main = None; shadow = Some y; conflict = None }) writes (row_resolved n y.version x) sent
    settled_fit slots y n k is low =
        let q = k.conflict y is in
        let idle = q.idle in
        record {
          mine = λ m at. absurd cc;
          clear = λ m at. absurd cc;
          weak = λ m at. absurd cc;
          shadow = λ z at. subst (λ (s : Shadow). IsContent h row s) (some_is y z at) q.content;
          low = low;
          out = λ o at. absurd cc;
          conflict = λ z at. absurd cc;
          own = λ causal m at. absurd cc;
          lower = λ r a in_table here. ((k.lower r a in_table here).0, (let le = (k.lower r a in_table here).1 in let up = q.above in omega (arith, le, up)));
          sent_out = λ o r at. absurd cc;
          unsent = λ m r none free at. absurd cc;
        }

    -- a strong write is refused for good
    pub lost_fit : (slots : Slots) (o : InFlight) → Fits_ slots writes x sent → slots.out ≡ Some o → slots.main ≡ None
        → Fits_ (record slots { out = None }) writes (row_lost o.number x) sent
    lost_fit slots o k is no_main =
        let none = (k.out o is).free in
        record {
          mine = λ m at. absurd cc;
          clear = λ m at. absurd cc;
          weak = λ m at. absurd cc;
          shadow = k.shadow;
          low = k.low;
          out = λ y at. absurd cc;
          conflict = λ y at. absurd cc;
          own = λ causal m at. absurd cc;
          lower = k.lower;
          sent_out = λ y r at. absurd cc;
          unsent = λ m r at free now. absurd cc;
        }

    -- what is told of other numbers, of accepted ones, and of what is read, changes nothing
    pub heard_fit : (slots : Slots) (y : RowHeard) → y.conflict ≡ x.conflict → y.lost ≡ x.lost → ((o : InFlight) → slots.out ≡ Some o → x.acked o.number ≡ false → y.acked o.number ≡ false)
        → Fits_ slots writes x sent → Fits_ slots writes y sent
    heard_fit slots y same lost unacked k = record {
      mine = k.mine;
      clear = λ m at. (ap (λ (f : ℕ → Bool). f m.number) lost ∙ (k.clear m at).0, λ none. ap (λ (f : ℕ → Option ℕ). f m.number) same ∙ (k.clear m at).1 none);
      weak = k.weak;
      shadow = k.shadow;
      low = k.low;
      out = λ o at. let u = k.out o at in record {
        written = u.written;
        low = u.low;
        base = u.base;
        spans = u.spans;
        later = u.later;
        clear = ap (λ (f : ℕ → Option ℕ). f o.number) same ∙ u.clear;
        unlost = ap (λ (f : ℕ → Bool). f o.number) lost ∙ u.unlost;
        unacked = unacked o at u.unacked;
        free = u.free;
        order = u.order;
      };
      conflict = λ z at. let q = k.conflict z at in record {
        causal = q.causal;
        content = q.content;
        above = q.above;
        main = q.main;
        in_main = q.in_main;
        named = ap (λ (f : ℕ → Option ℕ). f q.main.number) same ∙ q.named;
        later = q.later;
        idle = q.idle;
      };
      own = k.own;
      lower = k.lower;
      sent_out = k.sent_out;
      unsent = k.unsent;
    }

  -- ---- more was written, and more was sent

  -- of any row
  pub written_fit : (slots : Slots) (writes more : List Write) (x : RowHeard) (sent : List Sending) → Fits_ slots writes x sent → Fits_ slots (writes ++ more) x sent
  written_fit slots writes more x sent k = record {
    mine = λ m at. (write_of-left m.number (write_for c table row m) writes more (k.mine m at).0, (k.mine m at).1);
    clear = k.clear;
    weak = k.weak;
    shadow = k.shadow;
    low = k.low;
    out = λ o at. let u = k.out o at in record {
      written = write_of-left o.number _ writes more u.written;
      low = u.low;
      base = u.base;
      spans = u.spans;
      later = u.later;
      clear = u.clear;
      unlost = u.unlost;
      unacked = u.unacked;
      free = u.free;
      order = u.order;
    };
    conflict = λ z at. k.conflict z at;
    own = k.own;
    lower = λ r a in_table here. ((let le = (k.lower r a in_table here).0 in let e = length-append writes more in omega (arith, le, e)), (k.lower r a in_table here).1);
    sent_out = k.sent_out;
    unsent = k.unsent;
  }

  -- a request of another row
  pub sent_apart_fit : (slots : Slots) (writes : List Write) (x : RowHeard) (sent : List Sending) (s : Sending) → (s.table ≡ table → s.row ≡ row → ⊥)
      → Fits_ slots writes x sent → Fits_ slots writes x (sent ++ s ∷ [])
  sent_apart_fit slots writes x sent s apart k = record {
    mine = k.mine;
    clear = k.clear;
    weak = k.weak;
    shadow = k.shadow;
    low = k.low;
    out = k.out;
    conflict = k.conflict;
    own = k.own;
    lower = λ r a in_table here. k.lower r (before r a in_table here) in_table here;
    sent_out = λ o r at a in_table here. k.sent_out o r at (before r a in_table here) in_table here;
    unsent = λ m r none free at a in_table here. k.unsent m r none free at (before r a in_table here) in_table here;
  }
    where
      before : (r : Sending) → Among (sent ++ s ∷ []) r → r.table ≡ table → r.row ≡ row → Among sent r
      before r a in_table here = elim (among_cases sent s r a) [
        | inl b ↦ b
        | inr e ↦ absurd (apart (subst (λ (y : Sending). y.table ≡ table) (sym e) in_table) (subst (λ (y : Sending). y.row ≡ row) (sym e) here))
      ]

  -- the request of what waits
  pub sent_fit : (slots : Slots) (writes : List Write) (x : RowHeard) (sent : List Sending) (o : InFlight) → o.number ≤ length writes
      → Fits_ slots writes x sent → slots.out ≡ Some o → Fits_ slots writes x (sent ++ record { table = table; row = row; number = o.number; base = o.base } ∷ [])
  sent_fit slots writes x sent o numbered k is = record {
    mine = k.mine;
    clear = k.clear;
    weak = k.weak;
    shadow = k.shadow;
    low = k.low;
    out = k.out;
    conflict = k.conflict;
    own = k.own;
    lower = λ r a in_table here. elim (among_cases sent _ r a) [
      | inl b ↦ k.lower r b in_table here
      | inr e ↦ (let low = (k.out o is).low in subst (λ (y : Sending). (y.number ≤ length writes) × (y.base ≤ version_in slots.shadow)) e (numbered, low))
    ];
    sent_out = λ y r at a in_table here. elim (among_cases sent _ r a) [
      | inl b ↦ k.sent_out y r at b in_table here
      | inr e ↦ (let same : o ≡ y = some_is o y (sym is ∙ at) in
          subst (λ (z : Sending). (z.number ≤ y.number) × (z.number ≡ y.number → z.base ≡ y.base)) e
          (subst (λ (z : InFlight). (o.number ≤ z.number) × (o.number ≡ z.number → o.base ≡ z.base)) same (omega arith, λ n. refl)))
    ];
    unsent = λ m r none. absurd cc;
  }

  -- ---- writes

  module _ (writes : List Write) (x : RowHeard) (sent : List Sending) (n : ℕ) (number : n ≡ length writes + 1) (new : write_of n writes ≡ None) (fresh : IsFresh x n)
      (numbered : (k : ℕ) (w : Write) → write_of k writes ≡ Some w → k ≤ length writes) where
    -- a new write is Main
    pub write_fit : g ≢ Strong → (slots : Slots) (content : Content) → Fits_ slots writes x sent → slots.conflict ≡ None
        → let m : Main = main_of n (version_in slots.shadow) content in let w : Write = write_for c table row m in
        Fits_ (record slots { main = Some m }) (writes ++ w ∷ []) (row_wrote w x) sent
    write_fit weak slots content k none =
        let m : Main = main_of n (version_in slots.shadow) content in
        let w : Write = write_for c table row m in
        let all = written_fit slots writes (w ∷ []) x sent k in
        record {
          mine = λ y at. subst (λ (z : Main). (write_of z.number (writes ++ w ∷ []) ≡ Some (write_for c table row z)) × (z.read ≤ version_in slots.shadow)) (some_is m y at)
              (write_of-push n writes w new refl, omega arith);
          clear = λ y at. subst (λ (z : Main). (x.lost z.number ≡ false) × (slots.conflict ≡ None → x.conflict z.number ≡ None)) (some_is m y at) (fresh.lost, λ free. fresh.conflict);
          weak = λ y at. weak;
          shadow = k.shadow;
          low = k.low;
          out = λ o at. let u = all.out o at in record {
            written = u.written;
            low = u.low;
            base = u.base;
            spans = u.spans;
            later = u.later;
            clear = u.clear;
            unlost = u.unlost;
            unacked = u.unacked;
            free = u.free;
            order = λ y now. (let le = numbered o.number _ (k.out o at).written in subst (λ (z : Main). o.number ≤ z.number) (some_is m y now) (omega (arith, le, number)));
          };
          conflict = λ y at. absurd cc;
          own = λ causal y at free i a here less up. absurd (let e = ap (λ (z : Main). z.read) (some_is m y at) in omega (arith, e, less, up));
          lower = all.lower;
          sent_out = k.sent_out;
          unsent = λ y r at free is a in_table here.
              (let le = (k.lower r a in_table here).0 in let e = ap (λ (z : Main). z.number) (some_is m y is) in omega (arith, le, e, number));
        }

    -- a strong write waits at once
    pub strong_fit : g ≡ Strong → (slots : Slots) (content : Content) (pieces : List (List Piece)) → Fits_ slots writes x sent → OfTable g c h table writes sent
        → slots.main ≡ None → slots.conflict ≡ None
        → let m : Main = main_of n (version_in slots.shadow) content in let w : Write = write_for c table row m in
        Fits_ (record slots { out = Some (out_with m (version_in slots.shadow) pieces) }) (writes ++ w ∷ []) (row_wrote w x) sent
    strong_fit strong slots content pieces k of no_main none =
        let m : Main = main_of n (version_in slots.shadow) content in
        let w : Write = write_for c table row m in
        let o : InFlight = out_with m (version_in slots.shadow) pieces in
        let all = written_fit slots writes (w ∷ []) x sent k in
        let waits : IsOut g c h table row (record slots { out = Some o }) (writes ++ w ∷ []) (row_wrote w x) o = record {
          written = write_of-push n writes w new refl;
          low = omega arith;
          base = shadow_base slots writes x sent k;
          spans = subst (λ (y : Scheme). Spans y c n h row (version_in slots.shadow) (version_in slots.shadow)) (sym strong) refl;
          later = λ i a client here same. absurd (let up = (k.lower (record { table = table; row = i.entry.row; number = i.entry.number; base = i.entry.base }) (of.sends i a client) refl here).0 in
              omega (arith, up, same, number));
          clear = fresh.conflict;
          unlost = fresh.lost;
          unacked = fresh.acked;
          free = none;
          order = λ y now. absurd cc;
        } in
        record {
          mine = λ y at. absurd cc;
          clear = λ y at. absurd cc;
          weak = λ y at. absurd cc;
          shadow = k.shadow;
          low = k.low;
          out = λ y at. subst (λ (z : InFlight). IsOut g c h table row (record slots { out = Some o }) (writes ++ w ∷ []) (row_wrote w x) z) (some_is o y at) waits;
          conflict = λ y at. absurd cc;
          own = λ causal y at. absurd cc;
          lower = all.lower;
          sent_out = λ y r at a in_table here.
              (let le = (k.lower r a in_table here).0 in let e = ap (λ (z : InFlight). z.number) (some_is o y at) in
              (omega (arith, le, e, number), λ same. absurd (omega (arith, le, e, same, number))));
          unsent = λ y r at. absurd cc;
        }

  -- Main waits, over Shadow
  pub send_fit : g ≢ Strong → (slots : Slots) (m : Main) (pieces : List (List Piece)) (writes : List Write) (x : RowHeard) (sent : List Sending) → OfTable g c h table writes sent
      → Fits_ slots writes x sent → slots.main ≡ Some m → slots.out ≡ None → slots.conflict ≡ None → x.acked m.number ≡ false
      → Fits_ (record slots { out = Some (out_with m (version_in slots.shadow) pieces) }) writes x sent
  send_fit weak slots m pieces writes x sent of k is none idle unacked =
      let o : InFlight = out_with m (version_in slots.shadow) pieces in
      let spans : g ≡ Causal → Spans Causal c m.number h row m.read (version_in slots.shadow) = λ causal i a here less up.
      let client : i.entry.client ≡ c = k.own causal m is idle i a here less up in
      (client, k.unsent m (record { table = table; row = i.entry.row; number = i.entry.number; base = i.entry.base }) none idle is (of.sends i a client) refl here) in
      let waits : IsOut g c h table row (record slots { out = Some o }) writes x o = record {
        written = (k.mine m is).0;
        low = omega arith;
        base = shadow_base slots writes x sent k;
        spans = spans_by g c m.number h row m.read (version_in slots.shadow) weak spans;
        later = λ i a client here same. absurd (unsent_none writes x sent of slots m k none idle is i a client here same);
        clear = (k.clear m is).1 idle;
        unlost = (k.clear m is).0;
        unacked = unacked;
        free = idle;
        order = λ y now. (let e = ap (λ (z : Main). z.number) (some_is m y (sym is ∙ now)) in omega (arith, e));
      } in
      record {
        mine = k.mine;
        clear = k.clear;
        weak = k.weak;
        shadow = k.shadow;
        low = k.low;
        out = λ y at. subst (λ (z : InFlight). IsOut g c h table row (record slots { out = Some o }) writes x z) (some_is o y at) waits;
        conflict = λ y at. absurd cc;
        own = k.own;
        lower = k.lower;
        sent_out = λ y r at a in_table here.
            (let less = k.unsent m r none idle is a in_table here in let e = ap (λ (z : InFlight). z.number) (some_is o y at) in
            (omega (arith, less, e), λ same. absurd (omega (arith, less, e, same))));
        unsent = λ y r at. absurd cc;
      }

  -- what waits goes on waiting, spelled by other pieces
  pub respelled_fit : (slots : Slots) (o : InFlight) (pieces : List (List Piece)) (whole : Bool) (writes : List Write) (x : RowHeard) (sent : List Sending)
      → Fits_ slots writes x sent → slots.out ≡ Some o → Fits_ (record slots { out = Some (spelled_by o pieces whole) }) writes x sent
  respelled_fit slots o pieces whole writes x sent k is =
      let now : InFlight = spelled_by o pieces whole in
      let u = k.out o is in
      let waits : IsOut g c h table row (record slots { out = Some now }) writes x now = record {
        written = u.written;
        low = u.low;
        base = u.base;
        spans = u.spans;
        later = u.later;
        clear = u.clear;
        unlost = u.unlost;
        unacked = u.unacked;
        free = u.free;
        order = u.order;
      } in
      record {
        mine = k.mine;
        clear = k.clear;
        weak = k.weak;
        shadow = k.shadow;
        low = k.low;
        out = λ y at. subst (λ (z : InFlight). IsOut g c h table row (record slots { out = Some now }) writes x z) (some_is now y at) waits;
        conflict = λ y at. absurd (let free = u.free in cc);
        own = k.own;
        lower = k.lower;
        sent_out = λ y r at a in_table here.
            subst (λ (z : InFlight). (r.number ≤ z.number) × (r.number ≡ z.number → r.base ≡ z.base)) (some_is now y at) (k.sent_out o r is a in_table here);
        unsent = λ y r at. absurd cc;
      }
