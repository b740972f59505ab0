-- What a client's devices hold behind the writes of a plan: look-ups, and that a write done twice changes nothing more.
use Rattle.std.proofs.Common.{◌≡◌, ◌≢◌, ◌⊎◌, ℕ, Bool, true, false, cond, List, [], ◌∷◌, Option, Some, None, refl, sym, ap, subst, ◌∙◌, arith, inl, inr}
use Rattle.std.specs.Prelude.{◌==◌, option_map, if◌then◌else◌}
use Rattle.std.proofs.lemmas.Bool.Decides.{nat_tests}
use Rattle.std.proofs.lemmas.Cmp.{nat_list_cmp_total}
use Rattle.std.specs.declared.cmp.Ordering.{Ordering}
use Rattle.std.specs.declared.cmp.Ordering.TheVariants.{Less, Equal, Greater}
use Rattle.std.specs.Ordering.{nat_cmp, is_eq, match_ordering, ordering_reverse}
use Rattle.std.specs.Map.{lookup}
use Rattle.std.specs.BTreeMap.{is_at, insert_entry}
use Rattle.row_value.specs.declared.schema.Scheme.{Scheme}
use Rattle.table_model.specs.History.{same_row}
use Rattle.step_tables.specs.Client.{row_cmp}
use Rattle.step_tables.specs.Members.{Among}
use Rattle.step_tables.specs.Sayings.{Heard}
use Rattle.step_tables.specs.ClientMoves.{Slots, TableDisk, RowPut, Plan, ClientDisk, or_none, slots_at, slots_in, slots_of, table_at, position_in, position_of, with_table, put_row, put_position}
use Rattle.step_tables.specs.ClientMoves.{row_put, table_put, TableChange, Opens, Closes, opened_table, open_table, close_table, altered, rows_applied, applied_by, applied}
use Rattle.step_tables.proofs.Lists.{lookup-insert_nat, lookup-insert_row, same_row_tells}
use Rattle.client_laws.specs.Part.{Items, Sending, RowTied, TableTied, Rising, IsOpened, Tied, IsFairChange}

-- ---- the ids of rows rise

abbrev IsKeyOf : List (List ℕ × Slots) → List ℕ → List ℕ × Slots → Type 0
IsKeyOf rows row x = (x.0 ≡ row) ⊎ ((y : List ℕ × Slots) × Among rows y × (y.0 ≡ x.0))

rising_inserted : (rows : List (List ℕ × Slots)) (row : List ℕ) (slots : Slots) (x : List ℕ × Slots)
    → Among (insert_entry row_cmp rows row slots) x → IsKeyOf rows row x
unfolding Among
rising_inserted [] row slots x (inl e) = inl (ap (λ (z : List ℕ × Slots). z.0) (sym e))
rising_inserted [] row slots x (inr a) = absurd a
rising_inserted (e ∷ es) row slots x a = by_order (row_cmp row e.0) (λ b. rising_inserted es row slots x b) a
  where
    by_order : (o : Ordering) → (Among (insert_entry row_cmp es row slots) x → IsKeyOf es row x)
        → Among (match_ordering o ((row, slots) ∷ e ∷ es) ((e.0, slots) ∷ es) (e ∷ insert_entry row_cmp es row slots)) x → IsKeyOf (e ∷ es) row x
    by_order Less later (inl s) = inl (ap (λ (z : List ℕ × Slots). z.0) (sym s))
    by_order Less later (inr b) = inr (x, b, refl)
    by_order Equal later (inl s) = inr (e, inl refl, ap (λ (z : List ℕ × Slots). z.0) s)
    by_order Equal later (inr b) = inr (x, inr b, refl)
    by_order Greater later (inl s) = inr (x, inl s, refl)
    by_order Greater later (inr b) = elim (later b) [ inl s ↦ inl s | inr y ↦ inr (y.0, inr y.1, y.2) ]

pub rising-insert : (rows : List (List ℕ × Slots)) (row : List ℕ) (slots : Slots) → Rising rows → Rising (insert_entry row_cmp rows row slots)
unfolding Rising Among
rising-insert [] row slots r = ((λ other a. absurd a), tt)
rising-insert (e ∷ es) row slots r = by_order (row_cmp row e.0) refl (rising-insert es row slots r.1)
  where
    by_order : (o : Ordering) → row_cmp row e.0 ≡ o → Rising (insert_entry row_cmp es row slots)
        → Rising (match_ordering o ((row, slots) ∷ e ∷ es) ((e.0, slots) ∷ es) (e ∷ insert_entry row_cmp es row slots))
    by_order Less is later = (
      (λ other a. elim a [
        | inl s ↦ subst (λ (z : List ℕ × Slots). row_cmp row z.0 ≡ Less) s is
        | inr b ↦ nat_list_cmp_total.trans row e.0 other.0 is (r.0 other b)
      ]),
      r,
    )
    by_order Equal is later = (r.0, r.1)
    by_order Greater is later = (
      (λ other a. elim (rising_inserted es row slots other a) [
        | inl s ↦ subst (λ z. row_cmp e.0 z ≡ Less) (sym s) (nat_list_cmp_total.antisymm e.0 row ∙ ap ordering_reverse is)
        | inr y ↦ subst (λ z. row_cmp e.0 z ≡ Less) y.2 (r.0 y.0 y.1)
      ]),
      later,
    )

-- ---- look-ups behind a change of one table

abbrev row_by : Option RowPut → TableDisk → TableDisk
row_by None o = o
row_by (Some x) o = put_row x o

abbrev position_by : Option ℕ → TableDisk → TableDisk
position_by None o = o
position_by (Some n) o = put_position n o

-- an opened table behind a plan
abbrev pub opened_by : Plan → TableDisk → TableDisk
opened_by p o = position_by p.position (row_by p.row o)

with_table_at : (d : ClientDisk) (n : ℕ) (f : TableDisk → TableDisk) (q : ℕ) (m : Option TableDisk) → table_at d n ≡ m
    → table_at (with_table d n m f) q ≡ (if n == q then option_map f m else table_at d q)
with_table_at d n f q None is = by_test (n == q) refl
  where
    by_test : (b : Bool) → (n == q) ≡ b → table_at d q ≡ (if b then None else table_at d q)
    by_test true same = (let e : n ≡ q = grind (arith, nat_tests, same) in subst (λ (x : ℕ). table_at d x ≡ None) e is)
    by_test false same = refl
with_table_at d n f q (Some o) is = lookup-insert_nat d.tables n (f o) q

unchanged : (d : ClientDisk) (n q : ℕ) → table_at d q ≡ (if n == q then table_at d n else table_at d q)
unchanged d n q = by_test (n == q) refl
  where
    by_test : (b : Bool) → (n == q) ≡ b → table_at d q ≡ (if b then table_at d n else table_at d q)
    by_test true same = (let e : n ≡ q = grind (arith, nat_tests, same) in ap (λ (x : ℕ). table_at d x) (sym e))
    by_test false same = refl

option_map-same : {X : Type 0} (m : Option X) → option_map (λ (x : X). x) m ≡ m
option_map-same None = refl
option_map-same (Some x) = refl

option_map-twice : {X : Type 0} (f k : X → X) (m : Option X) → option_map f (option_map k m) ≡ option_map (λ (x : X). f (k x)) m
option_map-twice f k None = refl
option_map-twice f k (Some x) = refl

pub row_put_at : (d : ClientDisk) (last n : ℕ) (row : Option RowPut) (q : ℕ)
    → table_at (row_put d last n row) q ≡ (if n == q then option_map (row_by row) (table_at d n) else table_at d q)
row_put_at d last n None q = unchanged d n q ∙ ap (λ (m : Option TableDisk). if n == q then m else table_at d q) (sym (option_map-same (table_at d n)))
row_put_at d last n (Some x) q = with_table_at (record d { last = last }) n (put_row x) q (table_at d n) refl

pub table_put_at : (d : ClientDisk) (n : ℕ) (position : Option ℕ) (q : ℕ)
    → table_at (table_put d n position) q ≡ (if n == q then option_map (position_by position) (table_at d n) else table_at d q)
table_put_at d n None q = unchanged d n q ∙ ap (λ (m : Option TableDisk). if n == q then m else table_at d q) (sym (option_map-same (table_at d n)))
table_put_at d n (Some position) q = with_table_at d n (put_position position) q (table_at d n) refl

at_itself : {X : Type 0} (n : ℕ) (x y : X) → (if n == n then x else y) ≡ x
at_itself n x y = grind (arith, nat_tests)

nested : {X : Type 0} (b : Bool) (x y z : X) → (if b then x else (if b then y else z)) ≡ (if b then x else z)
nested true x y z = refl
nested false x y z = refl

pub rows_applied_at : (p : Plan) (d : ClientDisk) (q : ℕ)
    → table_at (rows_applied p d) q ≡ (if p.table == q then option_map (opened_by p) (table_at d p.table) else table_at d q)
rows_applied_at p d q =
    let e : ClientDisk = row_put d p.last p.table p.row in
    table_put_at e p.table p.position q
    ∙ ap (λ (m : Option TableDisk). if p.table == q then option_map (position_by p.position) m else table_at e q)
    (row_put_at d p.last p.table p.row p.table ∙ at_itself p.table (option_map (row_by p.row) (table_at d p.table)) (table_at d p.table))
    ∙ ap (λ (m : Option TableDisk). if p.table == q then option_map (position_by p.position) (option_map (row_by p.row) (table_at d p.table)) else m)
    (row_put_at d p.last p.table p.row q)
    ∙ nested (p.table == q) (option_map (position_by p.position) (option_map (row_by p.row) (table_at d p.table))) (option_map (row_by p.row) (table_at d p.table)) (table_at d q)
    ∙ ap (λ (m : Option TableDisk). if p.table == q then m else table_at d q) (option_map-twice (position_by p.position) (row_by p.row) (table_at d p.table))

-- ---- the last number, and the plan

abbrev pub last_behind : ℕ → ℕ → Option RowPut → ℕ
last_behind before last None = before
last_behind before last (Some x) = last

with_table_last : (d : ClientDisk) (n : ℕ) (m : Option TableDisk) (f : TableDisk → TableDisk) → (with_table d n m f).last ≡ d.last
with_table_last d n None f = refl
with_table_last d n (Some o) f = refl

with_table_plan : (d : ClientDisk) (n : ℕ) (m : Option TableDisk) (f : TableDisk → TableDisk) → (with_table d n m f).plan ≡ d.plan
with_table_plan d n None f = refl
with_table_plan d n (Some o) f = refl

pub row_put_last : (d : ClientDisk) (last n : ℕ) (row : Option RowPut) → (row_put d last n row).last ≡ last_behind d.last last row
row_put_last d last n None = refl
row_put_last d last n (Some x) = with_table_last (record d { last = last }) n (table_at d n) (put_row x)

pub row_put_plan : (d : ClientDisk) (last n : ℕ) (row : Option RowPut) → (row_put d last n row).plan ≡ d.plan
row_put_plan d last n None = refl
row_put_plan d last n (Some x) = with_table_plan (record d { last = last }) n (table_at d n) (put_row x)

pub table_put_last : (d : ClientDisk) (n : ℕ) (position : Option ℕ) → (table_put d n position).last ≡ d.last
table_put_last d n None = refl
table_put_last d n (Some position) = with_table_last d n (table_at d n) (put_position position)

pub table_put_plan : (d : ClientDisk) (n : ℕ) (position : Option ℕ) → (table_put d n position).plan ≡ d.plan
table_put_plan d n None = refl
table_put_plan d n (Some position) = with_table_plan d n (table_at d n) (put_position position)

pub rows_applied_last : (p : Plan) (d : ClientDisk) → (rows_applied p d).last ≡ last_behind d.last p.last p.row
rows_applied_last p d = table_put_last (row_put d p.last p.table p.row) p.table p.position ∙ row_put_last d p.last p.table p.row

-- ---- disks that hold the same

-- opened tables with the same rows and position; the ids of the second rise where those of the first do
pub record OpenedAlike (a b : TableDisk) : Type 0 where
  pub schema : b.schema ≡ a.schema
  pub position : b.position ≡ a.position
  pub slots : (row : List ℕ) → slots_at b row ≡ slots_at a row
  pub rising : Rising a.rows → Rising b.rows

abbrev pub TableAlike : Option TableDisk → Option TableDisk → Type 0
TableAlike None None = Unit {0}
TableAlike (Some a) (Some b) = OpenedAlike a b
TableAlike None (Some b) = ⊥
TableAlike (Some a) None = ⊥

pub record Alike (d e : ClientDisk) : Type 0 where
  pub last : e.last ≡ d.last
  pub tables : (q : ℕ) → TableAlike (table_at d q) (table_at e q)

slots_alike : (a b : Option TableDisk) (row : List ℕ) → TableAlike a b → slots_in b row ≡ slots_in a row
slots_alike None None row k = refl
slots_alike (Some a) (Some b) row k = k.slots row
slots_alike None (Some b) row k = absurd k
slots_alike (Some a) None row k = absurd k

position_alike : (a b : Option TableDisk) → TableAlike a b → position_in b ≡ position_in a
position_alike None None k = refl
position_alike (Some a) (Some b) k = k.position
position_alike None (Some b) k = absurd k
position_alike (Some a) None k = absurd k

opened_alike : (g : Scheme) (a b : Option TableDisk) → TableAlike a b → ((o : TableDisk) → a ≡ Some o → IsOpened g o) → (o : TableDisk) → b ≡ Some o → IsOpened g o
opened_alike g None None k f o is = absurd cc
opened_alike g (Some a) (Some b) k f o is =
    let q = f a refl in
    let all : IsOpened g b = record { scheme_is = subst (λ s. s.scheme ≡ g) (sym k.schema) q.scheme_is; rising = k.rising q.rising } in
    let same : b ≡ o = cc in
    subst (λ (x : TableDisk). IsOpened g x) same all
opened_alike g None (Some b) k f o is = absurd k
opened_alike g (Some a) None k f o is = absurd k

pub tied_alike : (g : ℕ → Scheme) (c : ℕ) (h : Items) (sent : List Sending) (d e : ClientDisk) (t : Heard) → Alike d e → Tied g c h sent d t → Tied g c h sent e t
tied_alike g c h sent d e t a k = record {
  last = a.last ∙ k.last;
  rows = λ q row. subst (λ (s : Slots). RowTied (g q) c (h q) q row s t.writes (t.at q row) sent) (sym (slots_alike (table_at d q) (table_at e q) row (a.tables q))) (k.rows q row);
  tables = λ q. subst (λ (n : ℕ). TableTied (h q) q n t) (sym (position_alike (table_at d q) (table_at e q) (a.tables q))) (k.tables q);
  opened = λ q o is. opened_alike (g q) (table_at d q) (table_at e q) (a.tables q) (k.opened q) o is;
}

-- ---- a write done again

pub put_row_slots : (x : RowPut) (o : TableDisk) (row : List ℕ)
    → ((row ≡ x.row) × (slots_at (put_row x o) row ≡ x.slots)) ⊎ ((row ≢ x.row) × (slots_at (put_row x o) row ≡ slots_at o row))
put_row_slots x o row = grind (arith, same_row_tells x.row row, lookup-insert_row o.rows x.row x.slots row)

row_again : (row : Option RowPut) (o : TableDisk) → OpenedAlike (row_by row o) (row_by row (row_by row o))
row_again None o = record { schema = refl; position = refl; slots = λ row. refl; rising = λ r. r }
row_again (Some x) o = record {
  schema = refl;
  position = refl;
  slots = λ row. grind (arith, put_row_slots x (put_row x o) row, put_row_slots x o row);
  rising = λ r. rising-insert (put_row x o).rows x.row x.slots r;
}

position_alike_by : (position : Option ℕ) (a b : TableDisk) → OpenedAlike a b → OpenedAlike (position_by position a) (position_by position b)
position_alike_by None a b k = k
position_alike_by (Some n) a b k = record { schema = k.schema; position = refl; slots = k.slots; rising = k.rising }

-- the row behind a position
swapped : (row : Option RowPut) (position : Option ℕ) (o : TableDisk) → OpenedAlike (position_by position (row_by row o)) (position_by position (row_by row (position_by position o)))
swapped None None o = record { schema = refl; position = refl; slots = λ row. refl; rising = λ r. r }
swapped None (Some n) o = record { schema = refl; position = refl; slots = λ row. refl; rising = λ r. r }
swapped (Some x) None o = record { schema = refl; position = refl; slots = λ row. refl; rising = λ r. r }
swapped (Some x) (Some n) o = record { schema = refl; position = refl; slots = λ row. refl; rising = λ r. r }

last_again : (before last : ℕ) (row : Option RowPut) → last_behind (last_behind before last row) last row ≡ last_behind before last row
last_again before last None = refl
last_again before last (Some x) = refl

-- of two look-ups behind the same table
alike_by : (b : Bool) (m rest : Option TableDisk) (f k : TableDisk → TableDisk) → ((o : TableDisk) → OpenedAlike (f o) (k o)) → ((o : TableDisk) → OpenedAlike o o)
    → TableAlike (if b then option_map f m else rest) (if b then option_map k m else rest)
alike_by true None rest f k same itself = tt
alike_by true (Some o) rest f k same itself = same o
alike_by false m None f k same itself = tt
alike_by false m (Some o) f k same itself = itself o

itself : (o : TableDisk) → OpenedAlike o o
itself o = record { schema = refl; position = refl; slots = λ row. refl; rising = λ r. r }

alike_one : (m : Option TableDisk) → TableAlike m m
alike_one None = tt
alike_one (Some x) = itself x

-- ---- a table that is opened or closed

abbrev alter_by : TableChange → Option TableDisk → Option TableDisk
alter_by (Opens schema) None = Some (opened_table schema)
alter_by (Opens schema) (Some o) = Some o
alter_by Closes m = option_map close_table m

pub altered_at : (d : ClientDisk) (n : ℕ) (change : TableChange) (q : ℕ) → table_at (altered d n change) q ≡ (if n == q then alter_by change (table_at d n) else table_at d q)
altered_at d n (Opens schema) q = by_table (table_at d n) refl
  where
    by_table : (m : Option TableDisk) → table_at d n ≡ m → table_at (open_table d n schema m) q ≡ (if n == q then alter_by (Opens schema) m else table_at d q)
    by_table None is = lookup-insert_nat d.tables n (opened_table schema) q
    by_table (Some o) is = unchanged d n q ∙ ap (λ (m : Option TableDisk). if n == q then m else table_at d q) is
altered_at d n Closes q = with_table_at d n close_table q (table_at d n) refl

pub altered_last : (d : ClientDisk) (n : ℕ) (change : TableChange) → (altered d n change).last ≡ d.last
altered_last d n (Opens schema) = by_table (table_at d n)
  where
    by_table : (m : Option TableDisk) → (open_table d n schema m).last ≡ d.last
    by_table None = refl
    by_table (Some o) = refl
altered_last d n Closes = with_table_last d n (table_at d n) close_table

pub altered_plan : (d : ClientDisk) (n : ℕ) (change : TableChange) → (altered d n change).plan ≡ d.plan
altered_plan d n (Opens schema) = by_table (table_at d n)
  where
    by_table : (m : Option TableDisk) → (open_table d n schema m).plan ≡ d.plan
    by_table None = refl
    by_table (Some o) = refl
altered_plan d n Closes = with_table_plan d n (table_at d n) close_table

-- disks of the same tables have them behind it
altered_alike : (d e : ClientDisk) (n : ℕ) (change : TableChange) → e.last ≡ d.last → ((q : ℕ) → table_at e q ≡ table_at d q) → Alike (altered d n change) (altered e n change)
altered_alike d e n change last at = record {
  last = altered_last e n change ∙ (last ∙ sym (altered_last d n change));
  tables = λ q. subst (λ (m : Option TableDisk). TableAlike (table_at (altered d n change) q) m) (same q) (alike_one (table_at (altered d n change) q));
}
  where
    same : (q : ℕ) → table_at (altered d n change) q ≡ table_at (altered e n change) q
    same q =
        altered_at d n change q
        ∙ ap (λ (m : Option TableDisk). if n == q then alter_by change m else table_at d q) (sym (at n))
        ∙ ap (λ (m : Option TableDisk). if n == q then alter_by change (table_at e n) else m) (sym (at q))
        ∙ sym (altered_at e n change q)

alter_twice : (change : TableChange) (m : Option TableDisk) → TableAlike (alter_by change m) (alter_by change (alter_by change m))
alter_twice (Opens schema) None = itself (opened_table schema)
alter_twice (Opens schema) (Some o) = itself o
alter_twice Closes None = tt
alter_twice Closes (Some o) = record { schema = refl; position = refl; slots = λ row. refl; rising = λ r. r }

-- done again it changes nothing more
pub alike_altered : (d : ClientDisk) (n : ℕ) (change : TableChange) → Alike (altered d n change) (altered (altered d n change) n change)
alike_altered d n change = record {
  last = altered_last (altered d n change) n change;
  tables = λ q.
      let at : table_at (altered (altered d n change) n change) q ≡ (if n == q then alter_by change (alter_by change (table_at d n)) else table_at d q) =
      altered_at (altered d n change) n change q
      ∙ ap (λ (m : Option TableDisk). if n == q then alter_by change m else table_at (altered d n change) q) (altered_at d n change n ∙ at_itself n (alter_by change (table_at d n)) (table_at d n))
      ∙ ap (λ (m : Option TableDisk). if n == q then alter_by change (alter_by change (table_at d n)) else m) (altered_at d n change q)
      ∙ nested (n == q) (alter_by change (alter_by change (table_at d n))) (alter_by change (table_at d n)) (table_at d q) in
      subst (λ (m : Option TableDisk). TableAlike m (table_at (altered (altered d n change) n change) q)) (sym (altered_at d n change q))
      (subst (λ (m : Option TableDisk). TableAlike (if n == q then alter_by change (table_at d n) else table_at d q) m) (sym at) (each (n == q) q));
}
  where
    each : (b : Bool) (q : ℕ) → TableAlike (if b then alter_by change (table_at d n) else table_at d q) (if b then alter_by change (alter_by change (table_at d n)) else table_at d q)
    each true q = alter_twice change (table_at d n)
    each false q = alike_one (table_at d q)

-- no row and no position shows it
pub altered_slots : (d : ClientDisk) (n : ℕ) (change : TableChange) (q : ℕ) (row : List ℕ) → slots_of (altered d n change) q row ≡ slots_of d q row
altered_slots d n change q row = ap (λ (m : Option TableDisk). slots_in m row) (altered_at d n change q) ∙ each (n == q) refl
  where
    one : (change : TableChange) (m : Option TableDisk) → slots_in (alter_by change m) row ≡ slots_in m row
    one (Opens schema) None = refl
    one (Opens schema) (Some o) = refl
    one Closes None = refl
    one Closes (Some o) = refl

    each : (b : Bool) → (n == q) ≡ b → slots_in (if b then alter_by change (table_at d n) else table_at d q) row ≡ slots_in (table_at d q) row
    each true same = one change (table_at d n) ∙ (let e : n ≡ q = grind (arith, nat_tests, same) in ap (λ (x : ℕ). slots_in (table_at d x) row) e)
    each false same = refl

pub altered_position : (d : ClientDisk) (n : ℕ) (change : TableChange) (q : ℕ) → position_of (altered d n change) q ≡ position_of d q
altered_position d n change q = ap position_in (altered_at d n change q) ∙ each (n == q) refl
  where
    one : (change : TableChange) (m : Option TableDisk) → position_in (alter_by change m) ≡ position_in m
    one (Opens schema) None = refl
    one (Opens schema) (Some o) = refl
    one Closes None = refl
    one Closes (Some o) = refl

    each : (b : Bool) → (n == q) ≡ b → position_in (if b then alter_by change (table_at d n) else table_at d q) ≡ position_in (table_at d q)
    each true same = one change (table_at d n) ∙ (let e : n ≡ q = grind (arith, nat_tests, same) in ap (λ (x : ℕ). position_in (table_at d x)) e)
    each false same = refl

altered_opened : (g : ℕ → Scheme) (d : ClientDisk) (n : ℕ) (change : TableChange) → IsFairChange (g n) change
    → ((q : ℕ) (o : TableDisk) → table_at d q ≡ Some o → IsOpened (g q) o) → (q : ℕ) (o : TableDisk) → table_at (altered d n change) q ≡ Some o → IsOpened (g q) o
unfolding Rising
altered_opened g d n change fair k q o at = each (n == q) refl (sym (altered_at d n change q) ∙ at)
  where
    one : (change : TableChange) → IsFairChange (g n) change → (m : Option TableDisk) → table_at d n ≡ m → alter_by change m ≡ Some o → IsOpened (g n) o
    one (Opens schema) fair None is e =
        let same : opened_table schema ≡ o = cc in
        let whole : IsOpened (g n) (opened_table schema) = record { scheme_is = fair; rising = tt } in
        subst (λ (x : TableDisk). IsOpened (g n) x) same whole
    one (Opens schema) fair (Some x) is e = k n o (is ∙ e)
    one Closes fair None is e = absurd cc
    one Closes fair (Some x) is e =
        let same : close_table x ≡ o = cc in
        let was = k n x is in
        let whole : IsOpened (g n) (close_table x) = record { scheme_is = was.scheme_is; rising = was.rising } in
        subst (λ (y : TableDisk). IsOpened (g n) y) same whole

    each : (b : Bool) → (n == q) ≡ b → (if b then alter_by change (table_at d n) else table_at d q) ≡ Some o → IsOpened (g q) o
    each true same e = (let here : n ≡ q = grind (arith, nat_tests, same) in subst (λ (x : ℕ). IsOpened (g x) o) here (one change fair (table_at d n) refl e))
    each false same e = k q o e

pub tied_altered : (g : ℕ → Scheme) (c : ℕ) (h : Items) (sent : List Sending) (d : ClientDisk) (t : Heard) (n : ℕ) (change : TableChange) → IsFairChange (g n) change
    → Tied g c h sent d t → Tied g c h sent (altered d n change) t
tied_altered g c h sent d t n change fair k = record {
  last = altered_last d n change ∙ k.last;
  rows = λ q row. subst (λ (s : Slots). RowTied (g q) c (h q) q row s t.writes (t.at q row) sent) (sym (altered_slots d n change q row)) (k.rows q row);
  tables = λ q. subst (λ (x : ℕ). TableTied (h q) q x t) (sym (altered_position d n change q)) (k.tables q);
  opened = altered_opened g d n change fair k.opened;
}

module _ (p : Plan) (d : ClientDisk) where
  -- behind a change of the plan's table that doesn't show once the plan is carried out
  alike_behind : (e : ClientDisk) (k : TableDisk → TableDisk) → ((o : TableDisk) → OpenedAlike (opened_by p o) (opened_by p (k o)))
      → ((q : ℕ) → table_at e q ≡ (if p.table == q then option_map k (table_at d p.table) else table_at d q))
      → last_behind e.last p.last p.row ≡ last_behind d.last p.last p.row → Alike (rows_applied p d) (rows_applied p e)
  alike_behind e k same at last = record {
    last = rows_applied_last p e ∙ last ∙ sym (rows_applied_last p d);
    tables = λ q.
        let here : table_at e p.table ≡ option_map k (table_at d p.table) = at p.table ∙ at_itself p.table (option_map k (table_at d p.table)) (table_at d p.table) in
        let behind : table_at (rows_applied p e) q ≡ (if p.table == q then option_map (λ (o : TableDisk). opened_by p (k o)) (table_at d p.table) else table_at d q) =
        rows_applied_at p e q
        ∙ ap (λ (m : Option TableDisk). if p.table == q then option_map (opened_by p) m else table_at e q) here
        ∙ ap (λ (m : Option TableDisk). if p.table == q then option_map (opened_by p) (option_map k (table_at d p.table)) else m) (at q)
        ∙ nested (p.table == q) (option_map (opened_by p) (option_map k (table_at d p.table))) (option_map k (table_at d p.table)) (table_at d q)
        ∙ ap (λ (m : Option TableDisk). if p.table == q then m else table_at d q) (option_map-twice (opened_by p) k (table_at d p.table)) in
        subst (λ (m : Option TableDisk). TableAlike m (table_at (rows_applied p e) q)) (sym (rows_applied_at p d q))
        (subst (λ (m : Option TableDisk). TableAlike (if p.table == q then option_map (opened_by p) (table_at d p.table) else table_at d q) m) (sym behind)
        (alike_by (p.table == q) (table_at d p.table) (table_at d q) (opened_by p) (λ (o : TableDisk). opened_by p (k o)) same itself));
  }

  pub alike_row : Alike (rows_applied p d) (rows_applied p (row_put d p.last p.table p.row))
  alike_row = alike_behind (row_put d p.last p.table p.row) (row_by p.row)
      (λ o. position_alike_by p.position (row_by p.row o) (row_by p.row (row_by p.row o)) (row_again p.row o))
      (row_put_at d p.last p.table p.row)
      (ap (λ (n : ℕ). last_behind n p.last p.row) (row_put_last d p.last p.table p.row) ∙ last_again d.last p.last p.row)

  pub alike_table : Alike (rows_applied p d) (rows_applied p (table_put d p.table p.position))
  alike_table = alike_behind (table_put d p.table p.position) (position_by p.position) (swapped p.row p.position) (table_put_at d p.table p.position)
      (ap (λ (n : ℕ). last_behind n p.last p.row) (table_put_last d p.table p.position))

  -- the plan that the disk names doesn't show
  rows_alike_plan : (o : Option Plan) → Alike (rows_applied p d) (rows_applied p (record d { plan = o }))
  rows_alike_plan o = alike_behind (record d { plan = o }) (λ (x : TableDisk). x) (λ x. itself (opened_by p x))
      (λ q. unchanged d p.table q ∙ ap (λ (m : Option TableDisk). if p.table == q then m else table_at d q) (sym (option_map-same (table_at d p.table)))) refl

  pub alike_plan : (o : Option Plan) → Alike (applied p d) (applied p (record d { plan = o }))
  alike_plan o = each p.alters
    where
      each : (a : Option TableChange) → Alike (applied_by p d a) (applied_by p (record d { plan = o }) a)
      each None = rows_alike_plan o
      each (Some change) = altered_alike d (record d { plan = o }) p.table change refl (λ q. refl)

pub alike_itself : (d : ClientDisk) (o : Option Plan) → Alike d (record d { plan = o })
alike_itself d o = record { last = refl; tables = λ q. alike_one (table_at d q) }
