-- The plans of a row from the Store: it is read, or stands against Main, behind an acknowledgement or without one, and a position
-- moves behind it or none; and of a position alone.
use Rattle.std.proofs.Common.{◌≡◌, ◌≢◌, ◌⊎◌, ℕ, Bool, true, false, ◌≤◌, ◌<◌, List, [], ◌∷◌, ◌++◌, length, Option, Some, None, refl, sym, ap, subst, ◌∙◌, arith, inl, inr, append-nil}
use Rattle.std.specs.Prelude.{◌==◌, nat_lt, nat_le, max, map, option_map, if◌then◌else◌}
use Rattle.std.proofs.lemmas.Bool.Decides.{nat_tests}
use Rattle.row_value.specs.declared.schema.Scheme.{Scheme}
use Rattle.row_value.specs.declared.schema.Scheme.TheVariants.{Strong, Causal, Eventual}
use Rattle.table_model.specs.declared.line.Write.{Write}
use Rattle.table_model.specs.History.{same_row}
use Rattle.step_tables.specs.Slots.{Main}
use Rattle.step_tables.specs.Slots.{InFlight}
use Rattle.step_tables.specs.Slots.{Shadow}
use Rattle.step_tables.specs.Store.{Stored}
use Rattle.step_tables.specs.Client.{version_in}
use Rattle.step_tables.specs.Facts.{ClientFact, Fact}
use Rattle.step_tables.specs.Facts as facts
use Rattle.step_tables.specs.Members.{Among, put, put_at}
use Rattle.step_tables.specs.Messages.{Header}
use Rattle.step_tables.specs.Sayings.{SaysPosition, RowHeard, Heard, saying, write_of, row_acked, row_met, row_saw, at_row, own, own_all, open_of, open_in}
use Rattle.step_tables.specs.ClientMoves.{Slots, TableDisk, Plan, ClientDisk, slots_at, table_at, position_in, applied, top, slots_plan, torn_plan, freed, without, shadow_of}
use Rattle.step_tables.specs.ClientMoves.{reads_over, is_weak, Placed, placed, row_placed, row_plan, position_plan, read_new, read_conflict}
use Rattle.step_tables.specs.Items.{latest, IsItemOf, IsChange}
use Rattle.step_tables.proofs.Lists.{same_row_tells}
use Rattle.step_tables.proofs.Maps.{place_here, place_twice}
use Rattle.world_tables.specs.Again.{may_repeat, IsUp}
use Rattle.client_laws.specs.Part.{Items, Sending, OfTable, Ours, IsRowFor, IsContent, IsAbove, write_for, main_for, Fit, RowTied, TableTied, Tied, IsPassed, IsOwn, AreOwn, IsNewPlan}
use Rattle.client_laws.proofs.Grows.{some_is}
use Rattle.client_laws.proofs.RowFits.{unsent_none, own_only, freed_fit, raise_fit, conflict_fit, heard_fit}
use Rattle.client_laws.proofs.PlanRuns.{own-redone, new_plan}
use Rattle.client_laws.proofs.Ties.{read_latest, tied_row, tied_row_at, tied_position}
use Rattle.client_laws.proofs.Plans.{at_row_twice, place_apart, elsewhere_at, open_behind, closed_acked, row_tied, requests_here}

-- what may be said again where it changes nothing
abbrev Still : (ℕ → Scheme) → ℕ → Items → List Sending → Heard → List Fact → Type 0
Still g c h sent u [] = Unit {0}
Still g c h sent u (f ∷ fs) = (own u (saying f) ≡ u) × IsOwn g c h sent u (may_repeat f) (saying f) × Still g c h sent u fs

still_own : (g : ℕ → Scheme) (c : ℕ) (h : Items) (sent : List Sending) (u : Heard) (fs : List Fact) → Still g c h sent u fs → AreOwn g c h sent u fs
still_own g c h sent u [] k = tt
still_own g c h sent u (f ∷ fs) k = (k.1, subst (λ (y : Heard). AreOwn g c h sent y fs) (sym k.0) (still_own g c h sent u fs k.2))

still_same : (g : ℕ → Scheme) (c : ℕ) (h : Items) (sent : List Sending) (u : Heard) (fs : List Fact) → Still g c h sent u fs → own_all u fs ≡ u
still_same g c h sent u [] k = refl
still_same g c h sent u (f ∷ fs) k = ap (λ (y : Heard). own_all y fs) k.0 ∙ still_same g c h sent u fs k.2

reads_not : (s : Scheme) (a b : ℕ) → s ≢ Strong → reads_over s a b ≡ false → (s ≡ Causal) × (a ≢ b)
reads_not Causal a b f e = (refl, λ same. absurd (grind (arith, nat_tests)))
reads_not Strong a b f e = absurd (f refl)
reads_not Eventual a b f e = absurd cc

reads_is : (s : Scheme) (a b : ℕ) → reads_over s a b ≡ true → s ≡ Causal → a ≡ b
reads_is Causal a b e k = grind (arith, nat_tests)
reads_is Strong a b e k = absurd cc
reads_is Eventual a b e k = absurd cc

module _ (g : ℕ → Scheme) (c : ℕ) (h : Items) (sent : List Sending) (t : Heard) (ours : Ours g c h sent t) (d : ClientDisk) (k : Tied g c h sent d t)
    (table : ℕ) (o : TableDisk) (is : table_at d table ≡ Some o) (header : Header) (found : IsRowFor c (h table) header) where
  abbrev row : List ℕ
  row = header.row

  abbrev w : ℕ
  w = header.version

  abbrev i : Stored
  i = found.0

  abbrev x : RowHeard
  x = t.at table row

  abbrev slots : Slots
  slots = slots_at o row

  abbrev of : OfTable (g table) c (h table) table t.writes sent
  of = ours.of_table table

  abbrev RowTied_ : Slots → RowHeard → Type 0
  RowTied_ s y = RowTied (g table) c (h table) table row s t.writes y sent

  abbrev Fits_ : Slots → RowHeard → Type 0
  Fits_ s y = Fit (g table) c (h table) table row s t.writes y sent

  tied : RowTied_ slots x
  tied = row_tied g c h sent t ours d k table row o is

  w_low : w ≤ length (h table)
  w_low = let up = of.up_to i found.1.stands in let v = found.1.version_is in omega (arith, up, v)

  w_latest : w ≤ latest (h table) row
  w_latest =
      let low = of.last i found.1.stands in
      subst (λ (z : List ℕ). w ≤ latest (h table) z) found.1.row_is (subst (λ (n : ℕ). n ≤ latest (h table) i.entry.row) found.1.version_is low)

  -- ---- what a plan tells behind the facts of the row

  abbrev heard_at : (ℕ → ℕ) → RowHeard → Heard
  heard_at positions v = record t { at = put_at t.at table row v; position = positions }

  -- a position to which the plan moves, or nothing
  pub record Ending : Type 0 where
    pub behind : List ClientFact
    pub moved : Option ℕ
    pub positions : ℕ → ℕ
    pub heard : (v : RowHeard) → own_all (record t { at = put_at t.at table row v }) (map facts.Client behind) ≡ heard_at positions v
    pub now : (f : RowHeard → RowHeard) → (f x).read ≡ w → AreOwn g c h sent (at_row t table row f) (map facts.Client behind)
    pub still : (v : RowHeard) → v.read ≡ w → Still g c h sent (heard_at positions v) (map facts.Redone behind)
    pub tied : (s : Slots) (fs : List ClientFact) (v : RowHeard) → v.read ≡ w → RowTied_ s v
        → Tied g c h sent (applied (record (slots_plan d table row s fs) { position = moved }) d) (heard_at positions v)

  -- ---- the pair of the client

  own_is : header.yours.version ≡ w → i.entry.client ≡ c
  own_is same = elim found.3.is [
    | inl zero ↦ absurd (let first = of.first i found.1.stands in let v = found.1.version_is in let z = zero.1 in omega (arith, first, v, z, same))
    | inr j ↦ (let one : j.0 ≡ i = of.one j.0 i j.1.stands found.1.stands (j.1.version_is ∙ (same ∙ sym found.1.version_is)) in
        subst (λ (z : Stored). z.entry.client ≡ c) one j.1.client_is)
  ]

  other_is : header.yours.version ≢ w → i.entry.client ≢ c
  other_is differ = λ client.
      let v = found.1.version_is in
      let most = (found.3.all i found.1.stands client found.1.row_is (omega (arith, v))).1 in
      elim found.3.is [
        | inl zero ↦ absurd (let first = of.first i found.1.stands in let z = zero.1 in omega (arith, first, most, z))
        | inr j ↦ absurd (let up = j.2 in differ (omega (arith, most, up, v)))
      ]

  -- ---- the slots behind the row; `base` is the row's slots, with what waited taken out or not

  content : IsContent (h table) row (shadow_of header)
  content = (i, found.1, found.2)

  module _ (base : Slots) (y : RowHeard) (fit : Fits_ base y) (above : version_in base.shadow < w)
      (out_above : (p : InFlight) → base.out ≡ Some p → IsAbove c (h table) row p.number w)
      (main_above : (m : Main) → base.main ≡ Some m → IsAbove c (h table) row m.number w) where
    raised : base.conflict ≡ None → (g table ≡ Causal → (m : Main) → base.main ≡ Some m → i.entry.client ≡ c) → Fits_ (record base { shadow = Some (shadow_of header) }) y
    raised none mine = raise_fit (g table) c (h table) table row t.writes y sent base (shadow_of header) fit content (omega (arith, above)) w_low none out_above
        (λ causal m at j a here less le.
        let client = mine causal m at in
        let v = found.1.version_is in
        let same : j ≡ i = own_only (g table) c (h table) table row t.writes y sent of (exact causal) base fit i j found.1.stands client found.1.row_is a here less (omega (arith, le, v)) in
        subst (λ (z : Stored). z.entry.client ≡ c) (sym same) client)
      where
        exact : g table ≡ Causal → g table ≢ Eventual
        exact e = λ no. absurd cc

    -- a write of Main is passed by the row
    passed : g table ≡ Causal → (m : Main) → base.main ≡ Some m → (u : Heard) → u.writes ≡ t.writes → IsPassed c h sent u m.number table row w
    passed causal m at u same = record {
      write = write_for c table row m;
      written = subst (λ (ws : List Write). write_of m.number ws ≡ Some (write_for c table row m)) (sym same) (fit.mine m at).0;
      by = refl;
      table_is = refl;
      row_is = refl;
      above = (let le = (fit.mine m at).1 in omega (arith, le, above));
      item = i;
      stands = found.1;
      lapsed = record {
        below = λ s a number.
            let here = requests_here g c h sent t ours d k table row o is m.number (write_for c table row m) (fit.mine m at).0 refl refl s a number in
            let low = (fit.lower s a here.0 here.1).1 in
            let most = w_latest in
            let up : latest (h s.table) s.row ≡ latest (h table) row = ap (λ (q : ℕ). latest (h q) s.row) here.0 ∙ ap (λ (z : List ℕ). latest (h table) z) here.1 in
            omega (arith, low, above, most, up);
        none = λ q j a client number. no_item q j a client number;
      };
    }
      where
        no_item : (q : ℕ) (j : Stored) → Among (h q) j → j.entry.client ≡ c → j.entry.number ≡ m.number → ⊥
        no_item q j a client number =
            let wrote = (ours.of_table q).wrote j a client in
            let one : Some wrote.0 ≡ Some (write_for c table row m) = sym wrote.1 ∙ (ap (λ (n : ℕ). write_of n t.writes) number ∙ (fit.mine m at).0) in
            let same : wrote.0 ≡ write_for c table row m = some_is wrote.0 (write_for c table row m) one in
            let in_table : q ≡ table = sym wrote.2 ∙ ap (λ (z : Write). z.table) same in
            let here : j.entry.row ≡ row = sym wrote.3 ∙ ap (λ (z : Write). z.row) same in
            let b : Among (h table) j = subst (λ (n : ℕ). Among (h n) j) in_table a in
            let up = main_above m at j b client here number in
            let v = found.1.version_is in
            let one_item : i ≡ j = own_only (g table) c (h table) table row t.writes y sent of (λ no. absurd (let e = causal in cc)) base fit j i b client here found.1.stands found.1.row_is
            (omega (arith, above, v)) (omega (arith, up, v)) in
            let e = ap (λ (z : Stored). z.entry.version) one_item in
            omega (arith, e, up, v)

    against : g table ≡ Causal → (m : Main) → base.main ≡ Some m → Fits_ (record base { conflict = Some (shadow_of header); out = None }) (row_met m.number w y)
    against causal m at = conflict_fit (g table) c (h table) table row t.writes y sent causal base (shadow_of header) m fit at content above (main_above m at)

    -- where a row is placed: it is read, or stands against Main in a causal table as another client's
    placed_is : (P : Placed → Type 0) (before : List ClientFact) → top base.conflict base.shadow < w
        → (base.conflict ≡ None → Fits_ (record base { shadow = Some (shadow_of header) }) y → P (read_new c table header base before))
        → (g table ≡ Causal → (m : Main) → base.main ≡ Some m → i.entry.client ≢ c → P (read_conflict c table header base before m))
        → P (placed (g table) c table header base before base.main base.conflict)
    placed_is P before over N C = by_slots base.main refl base.conflict refl
      where
        by_slots : (m : Option Main) → base.main ≡ m → (q : Option Shadow) → base.conflict ≡ q → P (placed (g table) c table header base before m q)
        by_slots None at (Some q) full = absurd (let e = (fit.conflict q full).in_main in cc)
        by_slots None at None none = N none (raised none (λ causal m now. absurd cc))
        by_slots (Some m) at (Some q) full =
            let z = fit.conflict q full in
            subst (λ (s : Scheme). P (if is_weak s then read_new c table header base before else read_conflict c table header base before m)) (sym z.causal)
            (C z.causal m at (λ client.
            let v = found.1.version_is in
            let at_item = z.content.1 in
            let up : q.version < w = (let e = ap (λ (s : Option Shadow). top s base.shadow) full in omega (arith, over, e)) in
            let q_version = at_item.version_is in
            let low = z.above in
            let same : z.content.0 ≡ i = own_only (g table) c (h table) table row t.writes y sent of (λ no. absurd (let e = z.causal in cc)) base fit i z.content.0 found.1.stands client found.1.row_is
            at_item.stands at_item.row_is (omega (arith, low, q_version)) (omega (arith, up, q_version, v)) in
            let e = ap (λ (s : Stored). s.entry.version) same in
            omega (arith, e, up, q_version, v)))
        by_slots (Some m) at None none = by_test (reads_over (g table) header.yours.version w) refl
          where
            by_test : (b : Bool) → reads_over (g table) header.yours.version w ≡ b
                → P (if b then read_new c table header base before else read_conflict c table header base before m)
            by_test true e = N none (raised none (λ causal n now. own_is (reads_is (g table) header.yours.version w e causal)))
            by_test false e = let r = reads_not (g table) header.yours.version w (fit.weak m at) e in C r.0 m at (other_is r.1)

  -- ---- the plans

  module _ (e : Ending) (over : top slots.conflict slots.shadow < w) where
    abbrev IsRowPlan : Placed → Type 0
    IsRowPlan p = IsNewPlan g c h sent d t (record (slots_plan d table row p.slots (p.facts ++ e.behind)) { position = e.moved })

    abbrev heard_of : RowHeard → Heard
    heard_of v = heard_at e.positions v

    -- a fact of the row that changes nothing more
    row_still : (v : RowHeard) (f : RowHeard → RowHeard) → f v ≡ v → at_row (heard_of v) table row f ≡ heard_of v
    row_still v f once =
        ap (λ (y : RowHeard). record (heard_of v) { at = put_at (put_at t.at table row v) table row (f y) }) (place_here t.at table row v)
        ∙ ap (λ (y : RowHeard). record (heard_of v) { at = put_at (put_at t.at table row v) table row y }) once
        ∙ ap (λ (m : ℕ → List ℕ → RowHeard). record (heard_of v) { at = m }) (place_twice t.at table row v v)

    -- a plan that takes the row
    taken_plan_is : (s : Slots) (fs : List ClientFact) (v : RowHeard) → v.read ≡ w
        → own_all t (map facts.Client fs) ≡ heard_of v → AreOwn g c h sent t (map facts.Client fs) → Still g c h sent (heard_of v) (map facts.Redone fs)
        → RowTied_ s v → IsNewPlan g c h sent d t (record (slots_plan d table row s fs) { position = e.moved })
    taken_plan_is s fs v read heard now still here =
        let p : Plan = record (slots_plan d table row s fs) { position = e.moved } in
        new_plan g c h sent d t p now
        (subst (λ (y : Heard). AreOwn g c h sent y (map facts.Redone fs)) (sym heard) (still_own g c h sent (heard_of v) (map facts.Redone fs) still))
        (subst (λ (y : Heard). own_all y (map facts.Client fs) ≡ y) (sym heard)
        (sym (own-redone (heard_of v) fs) ∙ still_same g c h sent (heard_of v) (map facts.Redone fs) still))
        (subst (λ (y : Heard). Tied g c h sent (applied p d) y) (sym heard) (e.tied s fs v read here))

    shadow_low : version_in slots.shadow < w
    shadow_low = by_slot slots.conflict refl
      where
        by_slot : (q : Option Shadow) → slots.conflict ≡ q → version_in slots.shadow < w
        by_slot None none = (let e = ap (λ (s : Option Shadow). top s slots.shadow) none in omega (arith, over, e))
        by_slot (Some q) full =
            (let e = ap (λ (s : Option Shadow). top s slots.shadow) full in let low = (tied.fit.conflict q full).above in omega (arith, over, e, low))

    read_low : x.read < w
    read_low = let e = tied.read in omega (arith, e, over)

    -- what is tied where the row is read, or stands against Main
    new_tied : (base : Slots) (y : RowHeard) → base.conflict ≡ None → base.main ≡ option_map main_for (open_in (g table) (open_of y)) → y.read ≤ w → y.shadow ≤ y.read
        → Fits_ (record base { shadow = Some (shadow_of header) }) y → RowTied_ (record base { shadow = Some (shadow_of header) }) (row_saw w y)
    new_tied base y none main read under fit = record {
      fit = heard_fit (g table) c (h table) table row t.writes y sent (record base { shadow = Some (shadow_of header) }) (row_saw w y) refl refl (λ q at e. e) fit;
      main = main;
      read = grind (arith, none, read);
      level = λ free. grind (arith, read, under);
      under = grind (arith, under);
      based = grind (arith, read, w_low);
    }

    conflict_tied : (base : Slots) (y : RowHeard) (m : Main) → base.main ≡ option_map main_for (open_in (g table) (open_of y)) → y.read ≤ w → y.shadow ≤ y.read
        → Fits_ (record base { conflict = Some (shadow_of header); out = None }) (row_met m.number w y)
        → RowTied_ (record base { conflict = Some (shadow_of header); out = None }) (row_met m.number w y)
    conflict_tied base y m main read under fit = record {
      fit = fit;
      main = main;
      read = grind (arith, read);
      level = λ free. absurd cc;
      under = grind (arith, under);
      based = grind (arith, read, w_low);
    }

    -- ---- without an acknowledgement

    module _ (below : (p : InFlight) → slots.out ≡ Some p → header.yours.number < p.number) where
      out_above : (p : InFlight) → slots.out ≡ Some p → IsAbove c (h table) row p.number w
      out_above p at j a client here number = by_test (nat_lt w j.entry.version) refl
        where
          by_test : (b : Bool) → nat_lt w j.entry.version ≡ b → w < j.entry.version
          by_test true e = grind (arith, nat_tests, e)
          by_test false e = absurd (let less = below p at in let up = (found.3.all j a client here (grind (arith, nat_tests, e))).0 in omega (arith, less, up, number))

      main_above : (m : Main) → slots.main ≡ Some m → IsAbove c (h table) row m.number w
      main_above m at j a client here number = by_out slots.out refl
        where
          by_conflict : slots.out ≡ None → (q : Option Shadow) → slots.conflict ≡ q → w < j.entry.version
          by_conflict none None free = absurd (unsent_none (g table) c (h table) table row t.writes x sent of slots m tied.fit none free at j a client here number)
          by_conflict none (Some q) full =
              let z = tied.fit.conflict q full in
              let e : z.main ≡ m = some_is z.main m (sym z.in_main ∙ at) in
              let up = z.later j a client here (number ∙ ap (λ (s : Main). s.number) (sym e)) in
              let item = z.content.1 in
              let v = item.version_is in
              let low = z.above in
              let same : z.content.0 ≡ j = own_only (g table) c (h table) table row t.writes x sent of (λ no. absurd (let s = z.causal in cc)) slots tied.fit j z.content.0 a client here
              item.stands item.row_is (omega (arith, low, v)) (omega (arith, up, v)) in
              let both = ap (λ (s : Stored). s.entry.version) same in
              absurd (omega (arith, up, v, both))

          by_out : (p : Option InFlight) → slots.out ≡ p → w < j.entry.version
          by_out None none = by_conflict none slots.conflict refl
          by_out (Some p) waits = by_test (nat_lt w j.entry.version) refl
            where
              by_test : (b : Bool) → nat_lt w j.entry.version ≡ b → w < j.entry.version
              by_test true e = grind (arith, nat_tests, e)
              by_test false e = absurd (let less = below p waits in let order = (tied.fit.out p waits).order m at in
                  let up = (found.3.all j a client here (grind (arith, nat_tests, e))).0 in omega (arith, less, order, up, number))

      plain_new : slots.conflict ≡ None → Fits_ (record slots { shadow = Some (shadow_of header) }) x → IsRowPlan (read_new c table header slots [])
      plain_new none fit =
          let v : RowHeard = row_saw w x in
          let low = read_low in
          let read : v.read ≡ w = grind (arith, low) in
          taken_plan_is (record slots { shadow = Some (shadow_of header) }) (facts.New c table row w ∷ e.behind) v read (e.heard v)
          ((refl, (i, found.1, inl (inl low))), e.now (row_saw w) read) (
            row_still v (row_saw w) (grind arith),
            (refl, (i, found.1, inl (inr (refl, ap (λ (y : RowHeard). y.read) (place_here t.at table row v) ∙ read)))),
            e.still v read,
          )
          (new_tied slots x none tied.main (omega (arith, low)) tied.under fit)

      plain_conflict : g table ≡ Causal → (m : Main) → slots.main ≡ Some m → i.entry.client ≢ c → IsRowPlan (read_conflict c table header slots [] m)
      unfolding passed
      plain_conflict causal m at other =
          let v : RowHeard = row_met m.number w x in
          let low = read_low in
          let read : v.read ≡ w = grind (arith, low) in
          taken_plan_is (record slots { conflict = Some (shadow_of header); out = None }) (facts.Conflict c m.number table row w ∷ e.behind) v read (e.heard v)
          ((refl, causal, (passed slots x tied.fit shadow_low out_above main_above causal m at t refl, other), inl low), e.now (row_met m.number w) read) (
            row_still v (row_met m.number w) (grind (arith, nat_tests)),
            (
              refl,
              causal,
              (passed slots x tied.fit shadow_low out_above main_above causal m at (heard_of v) refl, other),
              inr (refl, ap (λ (y : RowHeard). y.read) (place_here t.at table row v) ∙ read),
            ),
            e.still v read,
          )
          (conflict_tied slots x m tied.main (omega (arith, low)) tied.under (against slots x tied.fit shadow_low out_above main_above causal m at))

      plain_is : IsRowPlan (placed (g table) c table header slots [] slots.main slots.conflict)
      plain_is = placed_is slots x tied.fit shadow_low out_above main_above IsRowPlan [] over plain_new plain_conflict

    -- ---- with one

    module _ (p : InFlight) (waits : slots.out ≡ Some p) (version : ℕ) (item : Stored) (stands : IsItemOf (h table) c p.number row version item) (up_to : version ≤ w) where
      abbrev base : Slots
      base = freed slots p.number

      abbrev y : RowHeard
      y = row_acked p.number version x

      free : slots.conflict ≡ None
      free = (tied.fit.out p waits).free

      after : x.read < version
      after =
          let low = (tied.fit.out p waits).later item stands.stands stands.client_is stands.row_is stands.number_is in
          let v = stands.version_is in
          let e = tied.read in
          let none = ap (λ (s : Option Shadow). top s slots.shadow) free in
          omega (arith, low, v, e, none)

      y_read : y.read ≤ w
      y_read = let low = after in grind (arith, low, up_to)

      y_under : y.shadow ≤ y.read
      y_under = let under = tied.under in grind (arith, under)

      unacked : x.acked p.number ≡ false
      unacked = (tied.fit.out p waits).unacked

      -- behind the acknowledgement the row is above what was read, or was read by it
      abbrev acked_at : Heard
      acked_at = at_row t table row (row_acked p.number version)

      read_here : (acked_at.at table row).read ≡ version
      read_here = ap (λ (s : RowHeard). s.read) (place_here t.at table row y) ∙ (let low = after in grind (arith, low))

      same_item : version ≡ w → i.entry.client ≡ c
      same_item e = subst (λ (z : Stored). z.entry.client ≡ c) (of.one item i stands.stands found.1.stands (stands.version_is ∙ (e ∙ sym found.1.version_is))) stands.client_is

      below : i.entry.client ≢ c → (acked_at.at table row).read < w
      below other = by_test (version == w) refl
        where
          by_test : (b : Bool) → (version == w) ≡ b → (acked_at.at table row).read < w
          by_test true e = absurd (other (same_item (grind (arith, nat_tests, e))))
          by_test false e = let r = read_here in grind (arith, nat_tests, e, r, up_to)

      read_on : IsUp false (acked_at.at table row).read w ⊎ ((i.entry.client ≡ c) × ((acked_at.at table row).read ≡ w))
      read_on = by_test (version == w) refl
        where
          by_test : (b : Bool) → (version == w) ≡ b → IsUp false (acked_at.at table row).read w ⊎ ((i.entry.client ≡ c) × ((acked_at.at table row).read ≡ w))
          by_test true e = let same : version ≡ w = grind (arith, nat_tests, e) in inr (same_item same, read_here ∙ same)
          by_test false e = inl (inl (let r = read_here in grind (arith, nat_tests, e, r, up_to)))

      base_fit : Fits_ base y
      base_fit = heard_fit (g table) c (h table) table row t.writes x sent base y refl refl (λ q at. absurd cc) (freed_fit (g table) c (h table) table row t.writes x sent slots p tied.fit waits)

      base_main : base.main ≡ option_map main_for (open_in (g table) (open_of y))
      base_main = ap (without p.number) tied.main ∙ open_behind (g table) x.last x y p.number (closed_acked x p.number version)

      none_waits : (q : InFlight) → base.out ≡ Some q → IsAbove c (h table) row q.number w
      none_waits q at = absurd cc

      none_main : (m : Main) → base.main ≡ Some m → IsAbove c (h table) row m.number w
      none_main m at j a client here number = absurd (unsent_none (g table) c (h table) table row t.writes y sent of base m base_fit refl free at j a client here number)

      acked_new : base.conflict ≡ None → Fits_ (record base { shadow = Some (shadow_of header) }) y
          → IsRowPlan (read_new c table header base (facts.Acked c p.number table row version ∷ []))
      acked_new none fit =
          let v : RowHeard = row_saw w y in
          let low = after in
          let read : v.read ≡ w = (let r = y_read in grind (arith, r)) in
          taken_plan_is (record base { shadow = Some (shadow_of header) })
          (facts.Acked c p.number table row version ∷ facts.New c table row w ∷ e.behind) v read
          (ap (λ (s : Heard). own_all s (map facts.Client e.behind)) (two_facts (row_saw w)) ∙ e.heard v) (
            (refl, (item, stands), inl (unacked, low)),
            (
              (refl, (i, found.1, read_on)),
              subst (λ (s : Heard). AreOwn g c h sent s (map facts.Client e.behind)) (sym (two_facts (row_saw w)))
                  (e.now (λ (s : RowHeard). row_saw w (row_acked p.number version s)) read),
            ),
          ) (
            row_still v (row_acked p.number version) (grind (arith, nat_tests, up_to)),
            (refl, (item, stands), inr (refl, subst (λ (s : RowHeard). s.acked p.number ≡ true) (sym (place_here t.at table row v)) (grind (arith, nat_tests)))),
            (
              row_still v (row_saw w) (grind arith),
              (refl, (i, found.1, inl (inr (refl, ap (λ (s : RowHeard). s.read) (place_here t.at table row v) ∙ read)))),
              e.still v read,
            ),
          )
          (new_tied base y none base_main y_read y_under fit)
        where
          two_facts : (f : RowHeard → RowHeard) → at_row (at_row t table row (row_acked p.number version)) table row f ≡ at_row t table row (λ (s : RowHeard). f (row_acked p.number version s))
          two_facts f = at_row_twice t table row (row_acked p.number version) f

      acked_conflict : g table ≡ Causal → (m : Main) → base.main ≡ Some m → i.entry.client ≢ c
          → IsRowPlan (read_conflict c table header base (facts.Acked c p.number table row version ∷ []) m)
      unfolding passed
      acked_conflict causal m at other =
          let v : RowHeard = row_met m.number w y in
          let low = after in
          let read : v.read ≡ w = (let r = y_read in grind (arith, r)) in
          taken_plan_is (record base { conflict = Some (shadow_of header); out = None })
          (facts.Acked c p.number table row version ∷ facts.Conflict c m.number table row w ∷ e.behind) v read
          (ap (λ (s : Heard). own_all s (map facts.Client e.behind)) (two_facts (row_met m.number w)) ∙ e.heard v) (
            (refl, (item, stands), inl (unacked, low)),
            (
              (
                refl,
                causal,
                (passed base y base_fit shadow_low none_waits none_main causal m at (at_row t table row (row_acked p.number version)) refl, other),
                inl (below other),
              ),
              subst (λ (s : Heard). AreOwn g c h sent s (map facts.Client e.behind)) (sym (two_facts (row_met m.number w)))
                  (e.now (λ (s : RowHeard). row_met m.number w (row_acked p.number version s)) read),
            ),
          ) (
            row_still v (row_acked p.number version) (grind (arith, nat_tests, up_to)),
            (refl, (item, stands), inr (refl, subst (λ (s : RowHeard). s.acked p.number ≡ true) (sym (place_here t.at table row v)) (grind (arith, nat_tests)))),
            (
              row_still v (row_met m.number w) (grind (arith, nat_tests)),
              (
                refl,
                causal,
                (passed base y base_fit shadow_low none_waits none_main causal m at (heard_of v) refl, other),
                inr (refl, ap (λ (s : RowHeard). s.read) (place_here t.at table row v) ∙ read),
              ),
              e.still v read,
            ),
          )
          (conflict_tied base y m base_main y_read y_under (against base y base_fit shadow_low none_waits none_main causal m at))
        where
          two_facts : (f : RowHeard → RowHeard) → at_row (at_row t table row (row_acked p.number version)) table row f ≡ at_row t table row (λ (s : RowHeard). f (row_acked p.number version s))
          two_facts f = at_row_twice t table row (row_acked p.number version) f

      acked_is : IsRowPlan (placed (g table) c table header base (facts.Acked c p.number table row version ∷ []) base.main base.conflict)
      acked_is = placed_is base y base_fit shadow_low none_waits none_main IsRowPlan (facts.Acked c p.number table row version ∷ [])
          (let s = shadow_low in let none = ap (λ (q : Option Shadow). top q slots.shadow) free in omega (arith, s, none)) acked_new acked_conflict

    placed_plan_is : IsRowPlan (row_placed (g table) c table header slots slots.out)
    placed_plan_is = by_out slots.out refl
      where
        named : (p : InFlight) → slots.out ≡ Some p → p.number ≤ header.yours.number
            → IsRowPlan (placed (g table) c table header (freed slots p.number) (facts.Acked c p.number table row header.yours.version ∷ []) (without p.number slots.main) slots.conflict)
        named p waits le = elim found.3.is [
          | inl zero ↦ absurd (let one = (ours.numbered p.number _ (tied.fit.out p waits).written).2 in let z = zero.0 in omega (arith, le, one, z))
          | inr j ↦ (let sends = tied.fit.sent_out p (record { table = table; row = j.0.entry.row; number = j.0.entry.number; base = j.0.entry.base }) waits
              (of.sends j.0 j.1.stands j.1.client_is) refl j.1.row_is in
              let low = sends.0 in let same = j.1.number_is in
              let number : header.yours.number ≡ p.number = omega (arith, low, same, le) in
              let stands : IsItemOf (h table) c p.number row header.yours.version j.0 = record {
                stands = j.1.stands;
                client_is = j.1.client_is;
                number_is = j.1.number_is ∙ number;
                row_is = j.1.row_is;
                version_is = j.1.version_is;
              } in
              acked_is p waits header.yours.version j.0 stands j.2)
        ]

        by_out : (q : Option InFlight) → slots.out ≡ q → IsRowPlan (row_placed (g table) c table header slots q)
        by_out None none = plain_is (λ p at. absurd cc)
        by_out (Some p) waits = by_test (nat_le p.number header.yours.number) refl
          where
            by_test : (b : Bool) → nat_le p.number header.yours.number ≡ b
                → IsRowPlan (if b then placed (g table) c table header (freed slots p.number) (facts.Acked c p.number table row header.yours.version ∷ []) (without p.number slots.main) slots.conflict
                else placed (g table) c table header slots [] slots.main slots.conflict)
            by_test true e = named p waits (grind (arith, nat_tests, e))
            by_test false e = plain_is (λ q at. let same : p ≡ q = some_is p q (sym waits ∙ at) in
                subst (λ (z : InFlight). header.yours.number < z.number) same (grind (arith, nat_tests, e)))

  -- ---- a row that was asked for whole: no position moves

  unmoved : top slots.conflict slots.shadow < w → Ending
  unmoved over = record {
    behind = [];
    moved = None;
    positions = t.position;
    heard = λ v. refl;
    now = λ f read. tt;
    still = λ v read. tt;
    tied = λ s fs v read here. tied_row g c h sent d t k table o is d.last row s (heard_at t.position v) (elsewhere_at t table row v) k.last
        (subst (λ (y : RowHeard). RowTied_ s y) (sym (place_here t.at table row v)) here) fs of.last
        (subst (λ (y : RowHeard). x.read ≤ y.read) (sym (place_here t.at table row v)) (let low = tied.read in omega (arith, low, read, over))) refl;
  }

  pub torn_plan_is : top slots.conflict slots.shadow < w → IsNewPlan g c h sent d t (torn_plan d table row (row_placed (g table) c table header slots slots.out))
  unfolding unmoved
  torn_plan_is over =
      let p : Placed = row_placed (g table) c table header slots slots.out in
      subst (λ (fs : List ClientFact). IsNewPlan g c h sent d t (slots_plan d table row p.slots fs)) (append-nil p.facts) (placed_plan_is (unmoved over) over)

  -- ---- the next change: the position moves behind the row

  module _ (to : ℕ) (change : IsChange c (h table) o.position to header) (rises : o.position < to) where
    before : TableTied (h table) table o.position t
    before = subst (λ (m : Option TableDisk). TableTied (h table) table (position_in m) t) is (k.tables table)

    told_position : t.position table < to
    told_position = let e = before.told in omega (arith, e, rises)

    -- what the position covers is read, where the row is read at its last version
    covered : (at : List ℕ → RowHeard) → ((r : List ℕ) → r ≢ row → at r ≡ t.at table r) → (at row).read ≡ w
        → (r : List ℕ) → latest (h table) r ≤ to → (at r).read ≡ latest (h table) r
    covered at apart read r le = by_row (same_row_tells r row)
      where
        by_row : ((same_row r row ≡ true) × (r ≡ row)) ⊎ ((same_row r row ≡ false) × (r ≢ row)) → (at r).read ≡ latest (h table) r
        by_row (inl e) =
            subst (λ (z : List ℕ). (at z).read ≡ latest (h table) z) (sym e.1)
            (let most : latest (h table) row ≤ to = subst (λ (z : List ℕ). latest (h table) z ≤ to) e.1 le in
            let least = w_latest in let here = change.to_is in omega (arith, read, most, least, here))
        by_row (inr e) = elim (change.others r le) [
          | inl same ↦ absurd (e.1 same)
          | inr low ↦ ap (λ (y : RowHeard). y.read) (apart r e.1) ∙ before.covered r low
        ]

    to_low : to ≤ length (h table)
    to_low = let e = change.to_is in let low = w_low in omega (arith, e, low)

    abbrev heard_to : RowHeard → Heard
    heard_to v = heard_at (put t.position table to) v

    position_now : (f : RowHeard → RowHeard) → (f x).read ≡ w → IsOwn g c h sent (at_row t table row f) false (SaysPosition c table to)
    position_now f read = (
      refl,
      inl told_position,
      covered (λ r. put_at t.at table row (f x) table r) (λ r apart. place_apart t.at table row (f x) table r (inr apart))
          (ap (λ (y : RowHeard). y.read) (place_here t.at table row (f x)) ∙ read),
      to_low,
    )

    position_again : (v : RowHeard) → v.read ≡ w → IsOwn g c h sent (heard_to v) true (SaysPosition c table to)
    position_again v read = (
      refl,
      inr (refl, grind (arith, nat_tests)),
      covered (λ r. put_at t.at table row v table r) (λ r apart. place_apart t.at table row v table r (inr apart))
          (ap (λ (y : RowHeard). y.read) (place_here t.at table row v) ∙ read),
      to_low,
    )

    position_still : (v : RowHeard) → own (heard_to v) (SaysPosition c table to) ≡ heard_to v
    position_still v = grind (arith, nat_tests)

    table_after : (v : RowHeard) → v.read ≡ w → TableTied (h table) table to (heard_to v)
    table_after v read = record {
      told = grind (arith, nat_tests);
      low = to_low;
      covered = covered (λ r. put_at t.at table row v table r) (λ r apart. place_apart t.at table row v table r (inr apart))
          (ap (λ (y : RowHeard). y.read) (place_here t.at table row v) ∙ read);
    }

    -- what is heard of the row behind facts and a position
    heard_moved : (v : RowHeard) → record t { at = put_at t.at table row v; position = put t.position table (max (t.position table) to) } ≡ heard_to v
    heard_moved v = ap (λ (n : ℕ). record t { at = put_at t.at table row v; position = put t.position table n }) (grind (arith, told_position))

    with_position : Ending
    with_position = record {
      behind = facts.Position c table to ∷ [];
      moved = Some to;
      positions = put t.position table to;
      heard = heard_moved;
      now = λ f read. (position_now f read, tt);
      still = λ v read. (position_still v, position_again v read, tt);
      tied = λ s fs v read here. tied_row_at g c h sent d t k table o is d.last row s (heard_to v)
          (record { more = []; writes = sym (append-nil t.writes); at = place_apart t.at table row v; position = λ q apart. grind (arith, nat_tests, apart) }) k.last
          (subst (λ (y : RowHeard). RowTied_ s y) (sym (place_here t.at table row v)) here) to fs (table_after v read);
    }

    pub row_plan_is : top slots.conflict slots.shadow < w → IsNewPlan g c h sent d t (row_plan c d table row to (row_placed (g table) c table header slots slots.out))
    unfolding with_position
    row_plan_is over = placed_plan_is with_position over

    -- ---- the position alone, where the row isn't newer

    pub position_is_plan : w ≤ top slots.conflict slots.shadow → IsNewPlan g c h sent d t (position_plan c d table to)
    position_is_plan old =
        let u : Heard = record t { position = put t.position table to } in
        let heard : record t { position = put t.position table (max (t.position table) to) } ≡ u =
        ap (λ (n : ℕ). record t { position = put t.position table n }) (grind (arith, told_position)) in
        let fs : List Fact = facts.Redone (facts.Position c table to) ∷ [] in
        let again : Still g c h sent u fs = (grind (arith, nat_tests), (refl, inr (refl, grind (arith, nat_tests)), all_read, to_low), tt) in
        new_plan g c h sent d t (position_plan c d table to) ((refl, inl told_position, all_read, to_low), tt)
        (subst (λ (y : Heard). AreOwn g c h sent y fs) (sym heard) (still_own g c h sent u fs again))
        (subst (λ (y : Heard). own_all y fs ≡ y) (sym heard) (still_same g c h sent u fs again))
        (subst (λ (y : Heard). Tied g c h sent (applied (position_plan c d table to) d) y) (sym heard)
        (tied_position g c h sent d t k table o is to (facts.Position c table to ∷ []) u refl (λ q r. refl) (λ q apart. grind (arith, nat_tests, apart))
        (record { told = grind (arith, nat_tests); low = to_low; covered = all_read })))
      where
        all_read : (r : List ℕ) → latest (h table) r ≤ to → (t.at table r).read ≡ latest (h table) r
        all_read r le = by_row (same_row_tells r row)
          where
            by_row : ((same_row r row ≡ true) × (r ≡ row)) ⊎ ((same_row r row ≡ false) × (r ≢ row)) → (t.at table r).read ≡ latest (h table) r
            by_row (inl e) =
                subst (λ (z : List ℕ). (t.at table z).read ≡ latest (h table) z) (sym e.1)
                (let most : latest (h table) row ≤ to = subst (λ (z : List ℕ). latest (h table) z ≤ to) e.1 le in
                let least = read_latest (g table) c (h table) table row slots t.writes x sent of.last tied in
                let here = change.to_is in let read = tied.read in omega (arith, most, least, here, read, old))
            by_row (inr e) = elim (change.others r le) [
              | inl same ↦ absurd (e.1 same)
              | inr low ↦ before.covered r low
            ]
