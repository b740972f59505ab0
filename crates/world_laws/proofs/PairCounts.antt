-- A client's rows in conflict are no more than the events of a run, since each was read at an entry of its own row: the
-- writes that the events may begin are bounded by their number.
use Rattle.std.proofs.Common.{◌≡◌, ⊎_elim, ℕ, suc, ◌+◌, ◌*◌, ◌≤◌, Bool, true, false, List, [], ◌∷◌, ◌++◌, length, map, Option, Some, None, refl, sym, ap, ◌∙◌, subst, arith, length-append}
use Rattle.std.specs.Prelude.{◌||◌}
use Rattle.std.specs.Cmp.{eq_by_cmp_equiv}
use Rattle.std.specs.Set.{is_member}
use Rattle.std.proofs.lemmas.List.{length-map}
use Rattle.std.proofs.lemmas.Map.Keys.{IsDistinct-from_sorted}
use Rattle.std.proofs.lemmas.Map.Made.{length-le_from_is_member}
use Rattle.std.proofs.lemmas.Cmp.{nat_list_cmp_total}
use Rattle.row_value.specs.declared.schema.Scheme.{Scheme}
use Rattle.table_model.specs.declared.event.Event.{Event}
use Rattle.table_model.specs.declared.event.Event.TheVariants as events
use Rattle.table_model.specs.declared.line.RowPair.{RowPair}
use Rattle.table_model.specs.History.{same_row}
use Rattle.step_tables.specs.Slots.{Main}
use Rattle.step_tables.specs.Slots.{Shadow}
use Rattle.step_tables.specs.Client.{row_cmp}
use Rattle.step_tables.specs.Members.{Among}
use Rattle.step_tables.specs.Sayings.{Heard}
use Rattle.step_tables.specs.Store.{Stored}
use Rattle.step_tables.specs.StoreMoves.{StoreDisk, StoreTask}
use Rattle.step_tables.specs.ClientMoves.{Slots, TableDisk, Plan, ClientDisk, ClientTask, Client, planned_in, seen, slots_in, slots_of, table_at, pair_of, pairs_of}
use Rattle.step_tables.proofs.Lists.{among_none, among_cons, among_here, among_next, among_map, among_mapped, same_row-is, same_row-refl}
use Rattle.store_laws.specs.Part as store
use Rattle.client_laws.specs.Part.{Items, Sending, RowTied, Tied, RestsOn, ClientPart}
use Rattle.client_laws.proofs.PlanRuns.{shown_of}
use Rattle.client_laws.proofs.Sends.{rows_found}
use Rattle.world_tables.specs.World.{World, Hosted, start, client_at, client_pairs, hosted_at, step}
use Rattle.world_tables.specs.Turns.{Happening, world_from}
use Rattle.world_laws.specs.Begun.{begun_by, begun_from, begun_in}
use Rattle.world_laws.proofs.Behind.{schemes, kept_behind}
use Rattle.world_laws.proofs.Counts.{items_few}
use Rattle.world_laws.proofs.Kept.{Kept}
use Rattle.world_laws.proofs.Listings.{pair_stands, pairs_rise}

-- ---- different rows among the rows of some items are no more than these

has_row : (rows : List (List ℕ)) (row : List ℕ) → Among rows row → is_member same_row rows row ≡ true
has_row [] row a = absurd (among_none row a)
has_row (r ∷ rows) row a = ⊎_elim (λ same. here same) (λ later. there (same_row row r) (has_row rows row later)) (among_cons r rows row a)
  where
    there : (b : Bool) → is_member same_row rows row ≡ true → b || is_member same_row rows row ≡ true
    there true e = refl
    there false e = e

    here : r ≡ row → is_member same_row (r ∷ rows) row ≡ true
    here same = ap (λ (b : Bool). b || is_member same_row rows row) (ap (same_row row) same ∙ same_row-refl row)

among_rows : (rows : List (List ℕ)) (row : List ℕ) → is_member same_row rows row ≡ true → Among rows row
among_rows [] row e = absurd cc
among_rows (r ∷ rows) row e = pick (same_row row r) refl e (λ later. among_rows rows row later)
  where
    pick : (b : Bool) → same_row row r ≡ b → b || is_member same_row rows row ≡ true → (is_member same_row rows row ≡ true → Among rows row) → Among (r ∷ rows) row
    pick true same e more = subst (λ (x : List ℕ). Among (r ∷ rows) x) (sym (same_row-is row r same)) (among_here r rows)
    pick false apart e more = among_next r rows row (more e)

-- ---- each row in conflict has an item

module _ (g : ℕ → Scheme) (c table : ℕ) (h : Items) (sent : List Sending) (t : Heard) (d : ClientDisk) (tied : Tied g c h sent d t)
    (o : TableDisk) (at : table_at d table ≡ Some o) where
  pair_item : (pair : RowPair) → Among (pairs_of o.rows) pair → (i : Stored) × Among (h table) i × (i.entry.row ≡ pair.row)
  pair_item pair a =
      let f = pair_stands o.rows pair a in
      let found : slots_of d table f.0.0 ≡ f.0.1 = ap (λ (m : Option TableDisk). slots_in m f.0.0) at ∙ rows_found o f.0 (tied.opened table o at).rising f.1 in
      by_slots f.0 (subst (λ (z : Slots). RowTied (g table) c (h table) table f.0.0 z t.writes (t.at table f.0.0) sent) found (tied.rows table f.0.0))
      f.0.1.main refl f.0.1.conflict refl f.2
    where
      by_slots : (e : List ℕ × Slots) → RowTied (g table) c (h table) table e.0 e.1 t.writes (t.at table e.0) sent → (m : Option Main) → e.1.main ≡ m → (x : Option Shadow)
          → e.1.conflict ≡ x → pair_of e.0 m x ≡ Some pair → (i : Stored) × Among (h table) i × (i.entry.row ≡ pair.row)
      by_slots e row None main x conflict is = absurd cc
      by_slots e row (Some m) main None conflict is = absurd cc
      by_slots e row (Some m) main (Some x) conflict is =
          let same : record { row = e.0; number = m.number; version = x.version } ≡ pair = cc in
          let item = (row.fit.conflict x conflict).content in
          (item.0, item.1.stands, item.1.row_is ∙ ap (λ (p : RowPair). p.row) same)

  pairs_below : length (pairs_of o.rows) ≤ length (h table)
  pairs_below =
      let rows : List (List ℕ) = map (λ (pair : RowPair). pair.row) (pairs_of o.rows) in
      let items : List (List ℕ) = map (λ (i : Stored). i.entry.row) (h table) in
      let few : length rows ≤ length items = length-le_from_is_member (eq_by_cmp_equiv nat_list_cmp_total) rows items
      (IsDistinct-from_sorted row_cmp rows (pairs_rise o.rows (tied.opened table o at).rising)) (λ q m. has_row items q (stands q (among_rows rows q m))) in
      omega (arith, few, length-map (pairs_of o.rows) (λ (pair : RowPair). pair.row), length-map (h table) (λ (i : Stored). i.entry.row))
    where
      stands : (q : List ℕ) → Among (map (λ (pair : RowPair). pair.row) (pairs_of o.rows)) q → Among (map (λ (i : Stored). i.entry.row) (h table)) q
      stands q a =
          let p = among_mapped (λ (pair : RowPair). pair.row) (pairs_of o.rows) q a in
          let i = pair_item p.0 p.1 in
          subst (λ (x : List ℕ). Among (map (λ (i : Stored). i.entry.row) (h table)) x) (i.2 ∙ p.2) (among_map (λ (i : Stored). i.entry.row) (h table) i.0 i.1)

-- ---- of a client, up or down

module _ (g : ℕ → Scheme) (c table : ℕ) (h : Items) (sent : List Sending) where
  seen_below : (t : Heard) (node : Client) → Tied g c h sent (seen node.disk) t → length (client_pairs (Some node) table) ≤ length (h table)
  seen_below t node tied = by_table (table_at (seen node.disk) table) refl
    where
      by_table : (m : Option TableDisk) → table_at (seen node.disk) table ≡ m → length (client_pairs (Some node) table) ≤ length (h table)
      by_table None at = rw at (omega arith)
      by_table (Some o) at = rw at (pairs_below g c table h sent t (seen node.disk) tied o at)

  part_below : (t : Heard) (d : ClientDisk) (agenda : Option (List ClientTask)) → ClientPart g c h sent t (record { disk = d; agenda = agenda })
      → length (client_pairs (Some (record { disk = d; agenda = agenda })) table) ≤ length (h table)
  part_below t d (Some agenda) part = seen_below t (record { disk = d; agenda = Some agenda }) (shown_of g c h sent d t agenda part)
  part_below t d None part = by_plan d.plan refl part
    where
      with_plan : (p : Option Plan) → d.plan ≡ p → (u : Heard) → Tied g c h sent (planned_in d p) u → length (client_pairs (Some (record { disk = d; agenda = None })) table) ≤ length (h table)
      with_plan p is u tied = seen_below u (record { disk = d; agenda = None }) (subst (λ (q : Option Plan). Tied g c h sent (planned_in d q) u) (sym is) tied)

      by_plan : (p : Option Plan) → d.plan ≡ p → RestsOn g c h sent d t p → length (client_pairs (Some (record { disk = d; agenda = None })) table) ≤ length (h table)
      by_plan None is tied = with_plan None is t tied
      by_plan (Some p) is plan = with_plan (Some p) is _ plan.tied

-- ---- the items that were told are among those that the Store has

module _ (g : Scheme) (table : ℕ) (K : store.Known) (h : List Stored) where
  told_below : (d : StoreDisk) (agenda : Option (List StoreTask)) → store.IsAt g table K h d agenda → length h ≤ length d.items
  told_below d (Some []) at = let same = ap (λ (xs : List Stored). length xs) at.0.items in omega (arith, same)
  told_below d (Some (task ∷ more)) at = let same = ap (λ (xs : List Stored). length xs) at.0.items in omega (arith, same)
  told_below d None at = ⊎_elim
      (λ (told : store.IsTold h d). let same = ap (λ (xs : List Stored). length xs) told.items in omega (arith, same))
      (λ (untold : store.IsUntold g K h d). let same = ap (λ (xs : List Stored). length xs) untold.items in omega (arith, same, length-append h (untold.item ∷ [])))
      at

-- ---- behind a run

items_below : (run : List Happening) (table : ℕ) → length ((kept_behind run).1.items table) ≤ length run
items_below run table = go (hosted_at (world_from start run) table) refl
  where
    k : Kept (schemes run) (world_from start run) (kept_behind run).0
    k = (kept_behind run).1

    go : (o : Option Hosted) → hosted_at (world_from start run) table ≡ o → length (k.items table) ≤ length run
    go None none = let same = ap (λ (xs : List Stored). length xs) (k.no_store table none) in omega (arith, same)
    go (Some hosted) at =
        let told = told_below _ table _ (k.items table) hosted.store.disk hosted.store.agenda (k.stores table hosted at).0.state in
        let few = items_few run table hosted at in
        omega (arith, told, few)

pub pairs_few : (run : List Happening) (c table : ℕ) → length (client_pairs (client_at (world_from start run) c) table) ≤ length run
pairs_few run c table = go (client_at (world_from start run) c) refl
  where
    k : Kept (schemes run) (world_from start run) (kept_behind run).0
    k = (kept_behind run).1

    go : (o : Option Client) → client_at (world_from start run) c ≡ o → length (client_pairs o table) ≤ length run
    go None none = omega arith
    go (Some node) at =
        let below = part_below (schemes run) c table k.items (k.sent c) _ node.disk node.agenda (k.clients c node at) in
        let few = items_below run table in
        omega (arith, below, few)

-- ---- the writes that a run may begin

event_begins : (run : List Happening) (event : Event) → begun_by (world_from start run) event ≤ length run + 1
event_begins run (events.ResolveAll c table by) = let few = pairs_few run c table in omega (arith, few)
event_begins run other = omega arith

world_on : (w : World) (before : List Happening) (h : Happening) → world_from w (before ++ h ∷ []) ≡ (step (world_from w before) h.event h.lucks).world
world_on w [] h = refl
world_on w (first ∷ before) h = world_on (step w first.event first.lucks).world before h

all_begin : (before more : List Happening) → begun_from (world_from start before) more ≤ length more * (length before + length more)
all_begin before [] = omega arith
all_begin before (h ∷ more) =
    let first = event_begins before h.event in
    let rest = subst (λ (w : World). begun_from w more ≤ length more * (length (before ++ h ∷ []) + length more)) (world_on start before h) (all_begin (before ++ h ∷ []) more) in
    let longer = length-append before (h ∷ []) in
    bound (length before) (length more) _ _ first (subst (λ (n : ℕ). begun_from (step (world_from start before) h.event h.lucks).world more ≤ length more * (n + length more)) longer rest)
  where
    bound : (b m x y : ℕ) → x ≤ b + 1 → y ≤ m * (b + 1 + m) → x + y ≤ suc m * (b + suc m)
    bound b m x y p q = omega (arith, p, q)

-- an event begins one write more than there are events before it, at most
pub begun_few : (run : List Happening) → begun_in run ≤ length run * length run
begun_few run =
    let same : 0 + length run ≡ length run = omega arith in
    subst (λ (n : ℕ). begun_in run ≤ length run * n) same (all_begin [] run)
