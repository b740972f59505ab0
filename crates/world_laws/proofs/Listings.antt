-- The rows in conflict that a client lists are those that it shows in a conflict.
use Rattle.std.proofs.Common.{◌≡◌, ℕ, Bool, true, false, List, [], ◌∷◌, ◌++◌, Option, Some, None, refl, sym, ap, ◌∙◌, subst, ⊎_elim}
use Rattle.std.specs.Prelude.{map, option_to_list, if◌then◌else◌}
use Rattle.std.specs.declared.cmp.Ordering.TheVariants.{Less}
use Rattle.std.specs.List.{AllByRecursion}
use Rattle.std.specs.List.Sorted.{IsStrictlySortedBy}
use Rattle.std.specs.Map.{lookup}
use Rattle.std.specs.BTreeMap.{is_at}
use Rattle.row_value.specs.declared.content.Content.{Content}
use Rattle.row_value.specs.declared.schema.Scheme.{Scheme}
use Rattle.table_model.specs.declared.line.RowPair.{RowPair}
use Rattle.table_model.specs.History.{same_row}
use Rattle.step_tables.specs.Slots.{Main}
use Rattle.step_tables.specs.Slots.{Shadow}
use Rattle.step_tables.specs.Client.{row_cmp}
use Rattle.step_tables.specs.Facts.{PairLine}
use Rattle.step_tables.specs.Facts as facts
use Rattle.step_tables.specs.Members.{Among}
use Rattle.step_tables.specs.Sayings.{Said}
use Rattle.step_tables.specs.ClientMoves.{Slots, TableDisk, ClientDisk, or_none, slots_at, slots_in, slots_of, table_at, shown_in, pair_of, pairs_of}
use Rattle.step_tables.proofs.Lists.{among_none, among_cons, among_here, among_next, among_left, among_right, same_row-is}
use Rattle.client_laws.specs.Part.{Rising, RowTied, Tied}
use Rattle.client_laws.proofs.Sends.{rows_found}
use Rattle.world_tables.specs.World.{World}
use Rattle.world_tables.specs.Sound.{shown_of, ArePairs}
use Rattle.world_laws.proofs.Kept.{Kept}
use Rattle.world_laws.proofs.Showings.{shown_is}

-- ---- the rows in conflict among rows in order

above_pairs : (row : List ℕ) (rows : List (List ℕ × Slots)) → ((other : List ℕ × Slots) → Among rows other → row_cmp row other.0 ≡ Less)
    → AllByRecursion (λ (y : List ℕ). row_cmp row y ≡ Less) (map (λ (pair : RowPair). pair.row) (pairs_of rows))
above_pairs row [] above = tt
above_pairs row (e ∷ rows) above = by_slots (above_pairs row rows (λ other a. above other (among_next e rows other a))) e.1.main e.1.conflict
  where
    by_slots : AllByRecursion (λ (y : List ℕ). row_cmp row y ≡ Less) (map (λ (pair : RowPair). pair.row) (pairs_of rows)) → (m : Option Main) (x : Option Shadow)
        → AllByRecursion (λ (y : List ℕ). row_cmp row y ≡ Less) (map (λ (pair : RowPair). pair.row) (option_to_list (pair_of e.0 m x) ++ pairs_of rows))
    by_slots rest None x = rest
    by_slots rest (Some m) None = rest
    by_slots rest (Some m) (Some x) = (above e (among_here e rows), rest)

pub pairs_rise : (rows : List (List ℕ × Slots)) → Rising rows → IsStrictlySortedBy row_cmp (map (λ (pair : RowPair). pair.row) (pairs_of rows))
unfolding Rising IsStrictlySortedBy
pairs_rise [] rising = tt
pairs_rise (e ∷ rows) rising = by_slots (pairs_rise rows rising.1) e.1.main e.1.conflict
  where
    by_slots : IsStrictlySortedBy row_cmp (map (λ (pair : RowPair). pair.row) (pairs_of rows)) → (m : Option Main) (x : Option Shadow)
        → IsStrictlySortedBy row_cmp (map (λ (pair : RowPair). pair.row) (option_to_list (pair_of e.0 m x) ++ pairs_of rows))
    by_slots rest None x = rest
    by_slots rest (Some m) None = rest
    by_slots rest (Some m) (Some x) = (above_pairs e.0 rows rising.0, rest)

-- a pair is that of one of the rows
abbrev pub IsPairOf : List (List ℕ × Slots) → RowPair → Type 0
IsPairOf rows pair = (e : List ℕ × Slots) × Among rows e × (pair_of e.0 e.1.main e.1.conflict ≡ Some pair)

pub pair_stands : (rows : List (List ℕ × Slots)) (pair : RowPair) → Among (pairs_of rows) pair → IsPairOf rows pair
pair_stands [] pair a = absurd (among_none pair a)
pair_stands (e ∷ rows) pair a = by_pair (pair_of e.0 e.1.main e.1.conflict) refl (λ b. pair_stands rows pair b) a
  where
    later : IsPairOf rows pair → IsPairOf (e ∷ rows) pair
    later f = (f.0, among_next e rows f.0 f.1, f.2)

    by_pair : (o : Option RowPair) → pair_of e.0 e.1.main e.1.conflict ≡ o → (Among (pairs_of rows) pair → IsPairOf rows pair)
        → Among (option_to_list o ++ pairs_of rows) pair → IsPairOf (e ∷ rows) pair
    by_pair None is more b = later (more b)
    by_pair (Some p) is more b = ⊎_elim (λ (same : p ≡ pair). (e, among_here e rows, is ∙ ap Some same)) (λ d. later (more d)) (among_cons p (pairs_of rows) pair b)

pub pair_among : (rows : List (List ℕ × Slots)) (row : List ℕ) (slots : Slots) (pair : RowPair) → lookup (is_at (row_cmp row)) rows ≡ Some slots
    → pair_of row slots.main slots.conflict ≡ Some pair → Among (pairs_of rows) pair
pair_among [] row slots pair at is = absurd cc
pair_among (e ∷ rows) row slots pair at is = by_row (same_row row e.0) refl (λ behind. pair_among rows row slots pair behind is) at
  where
    by_row : (b : Bool) → same_row row e.0 ≡ b → (lookup (is_at (row_cmp row)) rows ≡ Some slots → Among (pairs_of rows) pair)
        → (if b then Some e.1 else lookup (is_at (row_cmp row)) rows) ≡ Some slots → Among (pairs_of (e ∷ rows)) pair
    by_row true same more here =
        let slots_are : e.1 ≡ slots = cc in
        let pair_is : pair_of e.0 e.1.main e.1.conflict ≡ Some pair =
        subst (λ (z : List ℕ). pair_of z e.1.main e.1.conflict ≡ Some pair) (same_row-is row e.0 same)
        (subst (λ (z : Slots). pair_of row z.main z.conflict ≡ Some pair) (sym slots_are) is) in
        among_left (option_to_list (pair_of e.0 e.1.main e.1.conflict)) (pairs_of rows) pair
        (subst (λ (o : Option RowPair). Among (option_to_list o) pair) (sym pair_is) (among_here pair []))
    by_row false apart more behind = among_right (option_to_list (pair_of e.0 e.1.main e.1.conflict)) (pairs_of rows) pair (more behind)

-- ---- the rows in conflict that a client has

module _ (g : ℕ → Scheme) (w : World) (s : Said) (k : Kept g w s) (c table : ℕ) (d : ClientDisk) (tied : Tied g c k.items (k.sent c) d (s.heard c))
    (o : TableDisk) (at : table_at d table ≡ Some o) where
  row_shown : (row : List ℕ) → shown_of g s c table row ≡ shown_in (slots_at o row).main (slots_at o row).conflict (slots_at o row).shadow
  row_shown row =
      let found : slots_of d table row ≡ slots_at o row = ap (λ (m : Option TableDisk). slots_in m row) at in
      shown_is g w s k c table row (slots_at o row)
      (subst (λ (z : Slots). RowTied (g table) c (k.items table) table row z (s.heard c).writes ((s.heard c).at table row) (k.sent c)) found (tied.rows table row))

  contended : (row : List ℕ) (z : Slots) → slots_at o row ≡ z → (m : Main) → z.main ≡ Some m → (x : Shadow) → z.conflict ≡ Some x
      → shown_of g s c table row ≡ Some (facts.Contended m.number x.version m.content)
  contended row z is m main x conflict =
      row_shown row ∙ (ap (λ (y : Slots). shown_in y.main y.conflict y.shadow) is
      ∙ (ap (λ (q : Option Main). shown_in q z.conflict z.shadow) main ∙ ap (λ (q : Option Shadow). shown_in (Some m) q z.shadow) conflict))

  pair_shown : (pair : RowPair) → Among (pairs_of o.rows) pair
      → (content : Content) × (shown_of g s c table pair.row ≡ Some (facts.Contended pair.number pair.version content))
  pair_shown pair a =
      let f = pair_stands o.rows pair a in
      by_slots f.0 (rows_found o f.0 (tied.opened table o at).rising f.1) f.0.1.main refl f.0.1.conflict refl f.2
    where
      by_slots : (e : List ℕ × Slots) → slots_at o e.0 ≡ e.1 → (m : Option Main) → e.1.main ≡ m → (x : Option Shadow) → e.1.conflict ≡ x → pair_of e.0 m x ≡ Some pair
          → (content : Content) × (shown_of g s c table pair.row ≡ Some (facts.Contended pair.number pair.version content))
      by_slots e found None main x conflict is = absurd cc
      by_slots e found (Some m) main None conflict is = absurd cc
      by_slots e found (Some m) main (Some x) conflict is =
          let same : record { row = e.0; number = m.number; version = x.version } ≡ pair = cc in
          subst (λ (p : RowPair). (content : Content) × (shown_of g s c table p.row ≡ Some (facts.Contended p.number p.version content))) same
          (m.content, contended e.0 e.1 found m main x conflict)

  all_listed : (row : List ℕ) (number version : ℕ) (content : Content) → shown_of g s c table row ≡ Some (facts.Contended number version content)
      → Among (pairs_of o.rows) (record { row = row; number = number; version = version })
  all_listed row number version content is = by_row (lookup (is_at (row_cmp row)) o.rows) refl
    where
      by_slots : (z : Slots) → lookup (is_at (row_cmp row)) o.rows ≡ Some z → (m : Option Main) → z.main ≡ m → (x : Option Shadow) → z.conflict ≡ x → (y : Option Shadow)
          → shown_in m x y ≡ Some (facts.Contended number version content) → Among (pairs_of o.rows) (record { row = row; number = number; version = version })
      by_slots z found None main x conflict None e = absurd cc
      by_slots z found None main x conflict (Some y) e = absurd cc
      by_slots z found (Some m) main None conflict y e = absurd cc
      by_slots z found (Some m) main (Some x) conflict y e =
          let number_is : m.number ≡ number = cc in
          let version_is : x.version ≡ version = cc in
          pair_among o.rows row z (record { row = row; number = number; version = version }) found
          (ap (λ (q : Option Main). pair_of row q z.conflict) main ∙ (ap (λ (q : Option Shadow). pair_of row (Some m) q) conflict
          ∙ (ap (λ (n : ℕ). Some (record { row = row; number = n; version = x.version })) number_is
          ∙ ap (λ (n : ℕ). Some (record { row = row; number = number; version = n })) version_is)))

      by_row : (l : Option Slots) → lookup (is_at (row_cmp row)) o.rows ≡ l → Among (pairs_of o.rows) (record { row = row; number = number; version = version })
      by_row None none =
          absurd (let e : None ≡ Some (facts.Contended number version content) =
          sym (row_shown row ∙ ap (λ (l : Option Slots). shown_in (or_none l).main (or_none l).conflict (or_none l).shadow) none) ∙ is in cc)
      by_row (Some z) found = by_slots z found z.main refl z.conflict refl z.shadow
          (sym (row_shown row ∙ ap (λ (l : Option Slots). shown_in (or_none l).main (or_none l).conflict (or_none l).shadow) found) ∙ is)

  pub pairs_are : ArePairs g s c table (map PairLine (pairs_of o.rows))
  pairs_are = record {
    pairs = pairs_of o.rows;
    lines_are = refl;
    rising = pairs_rise o.rows (tied.opened table o at).rising;
    shown = pair_shown;
    all = all_listed;
  }
