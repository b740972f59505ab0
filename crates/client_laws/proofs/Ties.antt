-- A client's devices behind a plan show what its lines say, where the row of the plan does.
use Rattle.std.proofs.Common.{◌≡◌, ◌≢◌, ◌⊎◌, ℕ, Bool, true, false, ◌≤◌, List, [], ◌++◌, length, Option, Some, None, refl, sym, ap, subst, ◌∙◌, arith, inl, inr, append-nil}
use Rattle.std.specs.Prelude.{◌==◌, option_map, if◌then◌else◌}
use Rattle.std.proofs.lemmas.Bool.Decides.{nat_tests}
use Rattle.row_value.specs.declared.schema.Scheme.{Scheme}
use Rattle.table_model.specs.declared.line.Write.{Write}
use Rattle.step_tables.specs.Slots.{Shadow}
use Rattle.step_tables.specs.Store.{Stored}
use Rattle.step_tables.specs.Client.{version_in}
use Rattle.step_tables.specs.Members.{Among}
use Rattle.step_tables.specs.Sayings.{RowHeard, Heard}
use Rattle.step_tables.specs.ClientMoves.{Slots, TableDisk, RowPut, Plan, ClientDisk, slots_at, slots_in, slots_of, table_at, position_in, position_of, put_row, applied, top}
use Rattle.step_tables.specs.Facts.{ClientFact}
use Rattle.step_tables.specs.Items.{latest}
use Rattle.step_tables.proofs.Lists.{same_row_tells}
use Rattle.client_laws.specs.Part.{Items, Sending, IsContent, RowTied, TableTied, IsOpened, Tied}
use Rattle.client_laws.proofs.RowFits.{written_fit}
use Rattle.client_laws.proofs.Disks.{opened_by, rows_applied_at, rows_applied_last, put_row_slots, rising-insert}

-- what a row reads is at most the version of its last item
pub read_latest : (g : Scheme) (c : ℕ) (h : List Stored) (table : ℕ) (row : List ℕ) (slots : Slots) (writes : List Write) (x : RowHeard) (sent : List Sending)
    → ((i : Stored) → Among h i → i.entry.version ≤ latest h i.entry.row) → RowTied g c h table row slots writes x sent → x.read ≤ latest h row
read_latest g c h table row slots writes x sent last k = subst (λ (n : ℕ). n ≤ latest h row) k.read (by_conflict slots.conflict refl)
  where
    content_low : (y : Shadow) → IsContent h row y → y.version ≤ latest h row
    content_low y q =
        let low = last q.0 q.1.stands in
        subst (λ (r : List ℕ). y.version ≤ latest h r) q.1.row_is (subst (λ (n : ℕ). n ≤ latest h q.0.entry.row) q.1.version_is low)

    by_shadow : (o : Option Shadow) → slots.shadow ≡ o → version_in o ≤ latest h row
    by_shadow None is = omega arith
    by_shadow (Some y) is = content_low y (k.fit.shadow y is)

    by_conflict : (o : Option Shadow) → slots.conflict ≡ o → top o slots.shadow ≤ latest h row
    by_conflict None is = by_shadow slots.shadow refl
    by_conflict (Some y) is = content_low y (k.fit.conflict y is).content

-- what is said of other rows stays, and more may be written
pub row_elsewhere : (g : Scheme) (c : ℕ) (h : List Stored) (table : ℕ) (row : List ℕ) (slots : Slots) (writes more : List Write) (x : RowHeard) (sent : List Sending)
    → RowTied g c h table row slots writes x sent → RowTied g c h table row slots (writes ++ more) x sent
row_elsewhere g c h table row slots writes more x sent k = record {
  fit = written_fit g c h table row slots writes more x sent k.fit;
  main = k.main;
  read = k.read;
  level = k.level;
  under = k.under;
  based = k.based;
}

-- a heard state that differs at one row, by what is written, and in the position of one table
pub record Elsewhere (t u : Heard) (table : ℕ) (row : List ℕ) : Type 0 where
  pub more : List Write
  pub writes : u.writes ≡ t.writes ++ more
  pub at : (q : ℕ) (r : List ℕ) → (q ≢ table) ⊎ (r ≢ row) → u.at q r ≡ t.at q r
  pub position : (q : ℕ) → q ≢ table → u.position q ≡ t.position q

module _ (g : ℕ → Scheme) (c : ℕ) (h : Items) (sent : List Sending) (d : ClientDisk) (t : Heard) (k : Tied g c h sent d t)
    (table : ℕ) (o : TableDisk) (is : table_at d table ≡ Some o) where
  -- ---- a plan's table behind it

  module _ (last : ℕ) (row : Option RowPut) (position : Option ℕ) (fs : List ClientFact) where
    abbrev plan : Plan
    plan = record { last = last; table = table; row = row; position = position; alters = None; facts = fs }

    table_here : table_at (applied plan d) table ≡ Some (opened_by plan o)
    table_here = rows_applied_at plan d table ∙ at_test (table == table) refl
      where
        at_test : (b : Bool) → (table == table) ≡ b → (if b then option_map (opened_by plan) (table_at d table) else table_at d table) ≡ Some (opened_by plan o)
        at_test true same = ap (λ (m : Option TableDisk). option_map (opened_by plan) m) is
        at_test false same = absurd (grind (arith, nat_tests, same))

    table_apart : (q : ℕ) → q ≢ table → table_at (applied plan d) q ≡ table_at d q
    table_apart q apart = rows_applied_at plan d q ∙ at_test (table == q) refl
      where
        at_test : (b : Bool) → (table == q) ≡ b → (if b then option_map (opened_by plan) (table_at d table) else table_at d q) ≡ table_at d q
        at_test true same = absurd (apart (grind (arith, nat_tests, same)))
        at_test false same = refl

    opened_after : (q : ℕ) (x : TableDisk) → table_at (applied plan d) q ≡ Some x → IsOpened (g q) (opened_by plan o) × (q ≡ table) ⊎ (q ≢ table)
        → IsOpened (g q) x
    opened_after q x at (inl here) =
        let same : Some (opened_by plan o) ≡ Some x = sym (subst (λ (n : ℕ). table_at (applied plan d) n ≡ Some (opened_by plan o)) (sym here.1) table_here) ∙ at in
        let e : opened_by plan o ≡ x = cc in
        subst (λ (y : TableDisk). IsOpened (g q) y) e here.0
    opened_after q x at (inr apart) = k.opened q x (sym (table_apart q apart) ∙ at)

    by_table : (q : ℕ) → (q ≡ table) ⊎ (q ≢ table)
    by_table q = at_test (q == table) refl
      where
        at_test : (b : Bool) → (q == table) ≡ b → (q ≡ table) ⊎ (q ≢ table)
        at_test true same = inl (grind (arith, nat_tests, same))
        at_test false same = inr (λ e. absurd (grind (arith, nat_tests, same, e)))

    all_opened : IsOpened (g table) (opened_by plan o) → (q : ℕ) (x : TableDisk) → table_at (applied plan d) q ≡ Some x → IsOpened (g q) x
    all_opened whole q x at = opened_after q x at (elim (by_table q) [
      | inl same ↦ inl (subst (λ (n : ℕ). IsOpened (g n) (opened_by plan o)) (sym same) whole, same)
      | inr apart ↦ inr apart
    ])

    slots_apart : (q : ℕ) (r : List ℕ) → q ≢ table → slots_of (applied plan d) q r ≡ slots_of d q r
    slots_apart q r apart = ap (λ (m : Option TableDisk). slots_in m r) (table_apart q apart)

    slots_here : (r : List ℕ) → slots_of (applied plan d) table r ≡ slots_at (opened_by plan o) r
    slots_here r = ap (λ (m : Option TableDisk). slots_in m r) table_here

    slots_before : (r : List ℕ) → slots_of d table r ≡ slots_at o r
    slots_before r = ap (λ (m : Option TableDisk). slots_in m r) is

    position_apart : (q : ℕ) → q ≢ table → position_of (applied plan d) q ≡ position_of d q
    position_apart q apart = ap position_in (table_apart q apart)

    position_here : position_of (applied plan d) table ≡ (opened_by plan o).position
    position_here = ap position_in table_here

    position_before : position_of d table ≡ o.position
    position_before = ap position_in is

    -- the tables that stay
    tables_apart : (u : Heard) (row' : List ℕ) → Elsewhere t u table row' → (q : ℕ) → q ≢ table → TableTied (h q) q (position_of (applied plan d) q) u
    tables_apart u row' other q apart = subst (λ (n : ℕ). TableTied (h q) q n u) (sym (position_apart q apart)) (record {
      told = (k.tables q).told ∙ sym (other.position q apart);
      low = (k.tables q).low;
      covered = λ r le. ap (λ (x : RowHeard). x.read) (other.at q r (inl apart)) ∙ (k.tables q).covered r le;
    })

  -- ---- a row, with the position or without

  module _ (last : ℕ) (row : List ℕ) (slots : Slots) (u : Heard) (other : Elsewhere t u table row) (numbers : last ≡ length u.writes)
      (here : RowTied (g table) c (h table) table row slots u.writes (u.at table row) sent) where
    abbrev change : RowPut
    change = record { row = row; slots = slots }

    apart_tied : (q : ℕ) (r : List ℕ) → (q ≢ table) ⊎ (r ≢ row) → RowTied (g q) c (h q) q r (slots_of d q r) u.writes (u.at q r) sent
    apart_tied q r apart =
        subst (λ (x : RowHeard). RowTied (g q) c (h q) q r (slots_of d q r) u.writes x sent) (sym (other.at q r apart))
        (subst (λ (ws : List Write). RowTied (g q) c (h q) q r (slots_of d q r) ws (t.at q r) sent) (sym other.writes)
        (row_elsewhere (g q) c (h q) q r (slots_of d q r) t.writes other.more (t.at q r) sent (k.rows q r)))

    rows_after : (position : Option ℕ) (fs : List ClientFact) → ((r : List ℕ) → slots_at (opened_by (plan last (Some change) position fs) o) r ≡ slots_at (put_row change o) r)
        → (q : ℕ) (r : List ℕ) → RowTied (g q) c (h q) q r (slots_of (applied (plan last (Some change) position fs) d) q r) u.writes (u.at q r) sent
    rows_after position fs same q r = elim (by_table last (Some change) position fs q) [
      | inr apart ↦ subst (λ (s : Slots). RowTied (g q) c (h q) q r s u.writes (u.at q r) sent) (sym (slots_apart last (Some change) position fs q r apart)) (apart_tied q r (inl apart))
      | inl in_table ↦ subst (λ (n : ℕ). RowTied (g n) c (h n) n r (slots_of (applied (plan last (Some change) position fs) d) n r) u.writes (u.at n r) sent) (sym in_table) (at_row (put_row_slots change o r))
    ]
      where
        at_row : ((r ≡ row) × (slots_at (put_row change o) r ≡ slots)) ⊎ ((r ≢ row) × (slots_at (put_row change o) r ≡ slots_at o r))
            → RowTied (g table) c (h table) table r (slots_of (applied (plan last (Some change) position fs) d) table r) u.writes (u.at table r) sent
        at_row (inl e) =
            subst (λ (s : Slots). RowTied (g table) c (h table) table r s u.writes (u.at table r) sent)
            (sym (slots_here last (Some change) position fs r ∙ same r ∙ e.1))
            (subst (λ (x : List ℕ). RowTied (g table) c (h table) table x slots u.writes (u.at table x) sent) (sym e.0) here)
        at_row (inr e) =
            subst (λ (s : Slots). RowTied (g table) c (h table) table r s u.writes (u.at table r) sent)
            (slots_before last (Some change) position fs r ∙ sym (slots_here last (Some change) position fs r ∙ same r ∙ e.1))
            (apart_tied table r (inr e.0))

    -- a row, and no position
    pub tied_row : (fs : List ClientFact) → ((i : Stored) → Among (h table) i → i.entry.version ≤ latest (h table) i.entry.row)
        → (t.at table row).read ≤ (u.at table row).read → u.position table ≡ t.position table
        → Tied g c h sent (applied (record { last = last; table = table; row = Some (record { row = row; slots = slots }); position = None; alters = None; facts = fs }) d) u
    tied_row fs up_to rises stands = record {
      last = rows_applied_last (plan last (Some change) None fs) d ∙ numbers;
      rows = rows_after None fs (λ r. refl);
      tables = λ q. elim (by_table last (Some change) None fs q) [
        | inr apart ↦ tables_apart last (Some change) None fs u row other q apart
        | inl in_table ↦ subst (λ (n : ℕ). TableTied (h n) n (position_of (applied (plan last (Some change) None fs) d) n) u) (sym in_table) table_tied
      ];
      opened = all_opened last (Some change) None fs (record { scheme_is = (k.opened table o is).scheme_is; rising = rising-insert o.rows row slots (k.opened table o is).rising });
    }
      where
        before : TableTied (h table) table o.position t
        before = subst (λ (n : ℕ). TableTied (h table) table n t) (position_before last (Some change) None fs) (k.tables table)

        covered : (r : List ℕ) → latest (h table) r ≤ o.position → ((table ≢ table) ⊎ (r ≢ row)) ⊎ (r ≡ row) → (u.at table r).read ≡ latest (h table) r
        covered r le (inl apart) = ap (λ (x : RowHeard). x.read) (other.at table r apart) ∙ before.covered r le
        covered r le (inr same) =
            let was = before.covered r le in
            let most : (u.at table r).read ≤ latest (h table) r = subst (λ (x : List ℕ). (u.at table x).read ≤ latest (h table) x) (sym same)
            (read_latest (g table) c (h table) table row slots u.writes (u.at table row) sent up_to here) in
            let least : (t.at table r).read ≤ (u.at table r).read = subst (λ (x : List ℕ). (t.at table x).read ≤ (u.at table x).read) (sym same) rises in
            omega (arith, was, most, least)

        which : (r : List ℕ) → ((table ≢ table) ⊎ (r ≢ row)) ⊎ (r ≡ row)
        which r = elim (same_row_tells r row) [ inl e ↦ inr e.1 | inr e ↦ inl (inr e.1) ]

        table_tied : TableTied (h table) table (position_of (applied (plan last (Some change) None fs) d) table) u
        table_tied = subst (λ (n : ℕ). TableTied (h table) table n u) (sym (position_here last (Some change) None fs)) (record {
          told = before.told ∙ sym stands;
          low = before.low;
          covered = λ r le. covered r le (which r);
        })

    -- a row and the position
    pub tied_row_at : (position : ℕ) (fs : List ClientFact) → TableTied (h table) table position u
        → Tied g c h sent (applied (record { last = last; table = table; row = Some (record { row = row; slots = slots }); position = Some position; alters = None; facts = fs }) d) u
    tied_row_at position fs whole = record {
      last = rows_applied_last (plan last (Some change) (Some position) fs) d ∙ numbers;
      rows = rows_after (Some position) fs (λ r. refl);
      tables = λ q. elim (by_table last (Some change) (Some position) fs q) [
        | inr apart ↦ tables_apart last (Some change) (Some position) fs u row other q apart
        | inl in_table ↦ subst (λ (n : ℕ). TableTied (h n) n (position_of (applied (plan last (Some change) (Some position) fs) d) n) u) (sym in_table)
            (subst (λ (n : ℕ). TableTied (h table) table n u) (sym (position_here last (Some change) (Some position) fs)) whole)
      ];
      opened = all_opened last (Some change) (Some position) fs (record { scheme_is = (k.opened table o is).scheme_is; rising = rising-insert o.rows row slots (k.opened table o is).rising });
    }

  -- ---- the position alone

  pub tied_position : (position : ℕ) (fs : List ClientFact) (u : Heard) → u.writes ≡ t.writes → ((q : ℕ) (r : List ℕ) → u.at q r ≡ t.at q r)
      → ((q : ℕ) → q ≢ table → u.position q ≡ t.position q) → TableTied (h table) table position u
      → Tied g c h sent (applied (record { last = d.last; table = table; row = None; position = Some position; alters = None; facts = fs }) d) u
  tied_position position fs u writes at positions whole = record {
    last = rows_applied_last (plan d.last None (Some position) fs) d ∙ (k.last ∙ sym (ap (λ (ws : List Write). length ws) writes));
    rows = λ q r.
        subst (λ (x : RowHeard). RowTied (g q) c (h q) q r (slots_of (applied (plan d.last None (Some position) fs) d) q r) u.writes x sent) (sym (at q r))
        (subst (λ (ws : List Write). RowTied (g q) c (h q) q r (slots_of (applied (plan d.last None (Some position) fs) d) q r) ws (t.at q r) sent) (sym writes)
        (subst (λ (s : Slots). RowTied (g q) c (h q) q r s t.writes (t.at q r) sent) (same_slots q r) (k.rows q r)));
    tables = λ q. elim (by_table d.last None (Some position) fs q) [
      | inr apart ↦ tables_apart d.last None (Some position) fs u [] (record { more = []; writes = writes ∙ sym (append-nil t.writes); at = λ x r any. at x r; position = positions }) q apart
      | inl in_table ↦ subst (λ (n : ℕ). TableTied (h n) n (position_of (applied (plan d.last None (Some position) fs) d) n) u) (sym in_table)
          (subst (λ (n : ℕ). TableTied (h table) table n u) (sym (position_here d.last None (Some position) fs)) whole)
    ];
    opened = all_opened d.last None (Some position) fs (record { scheme_is = (k.opened table o is).scheme_is; rising = (k.opened table o is).rising });
  }
    where
      same_slots : (q : ℕ) (r : List ℕ) → slots_of d q r ≡ slots_of (applied (plan d.last None (Some position) fs) d) q r
      same_slots q r = elim (by_table d.last None (Some position) fs q) [
        | inr apart ↦ sym (slots_apart d.last None (Some position) fs q r apart)
        | inl in_table ↦ subst (λ (n : ℕ). slots_of d n r ≡ slots_of (applied (plan d.last None (Some position) fs) d) n r) (sym in_table)
            (slots_before d.last None (Some position) fs r ∙ sym (slots_here d.last None (Some position) fs r))
      ]
