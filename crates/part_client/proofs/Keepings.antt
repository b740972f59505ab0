-- What is kept of all tables behind a change of one.
use Rattle.std.proofs.Common.{◌≡◌, ℕ, Bool, true, false, cond, List, [], ◌∷◌, Option, Some, None, refl, sym, ap, ◌∙◌, subst, inl, inr, arith}
use Rattle.std.specs.Prelude.{◌==◌, ◌&&◌, is_some, if◌then◌else◌}
use Rattle.std.specs.List.{find, list_any}
use Rattle.std.specs.BTreeMap as tree
use Rattle.std.specs.BTreeMap.{is_at}
use Rattle.std.specs.Ordering.{nat_cmp}
use Rattle.std.specs.Cmp.{unsigned_tied}
use Rattle.std.proofs.lemmas.Bool.{eqb-true}
use Rattle.std.proofs.lemmas.Bool.Decides.{nat_tests}
use Rattle.table_model.specs.History.{same_row}
use Rattle.chunker.specs.Sized.{sized}
use Rattle.assemblies.specs.declared.sent.Sent.TheVariants as sents
use Rattle.assemblies.specs.Travel.{is_sent}
use Rattle.assemblies.specs.Places.{awaited_of}
use Rattle.assemblies.specs.Gathering.{waiting, taken, is_whole}
use Rattle.step_tables.specs.Chunks.{is_named}
use Rattle.step_tables.specs.ClientMoves.{TableDisk, slots_at, top}
use Rattle.step_tables.proofs.Lists.{same_row-refl}
use Rattle.part_tables.specs.Parts.{Part, Asks, Responds, Pulls, Answers, BringsUp, BringsDown, AsksTorn, AnswersTorn, RowHead, PulledHead, TornHead, Fragment}
use Rattle.part_tables.specs.ClientParts.{Answering, Waits, Whole, ClientTaken, is_of_table, without_table, names_in, sends_of, held_in, waits_for}
use Rattle.part_tables.specs.ClientParts as at_client
use Rattle.part_tables.specs.Arriving.{Arriving, Arrived, WholeRow, nothing_arriving, is_of_row, without_row, same_torn}
use Rattle.part_tables.specs.Arriving.{with_all_torn, torn_answer, unfinished, asking, of_pull, is_awaited, waits_whole, arrived}
use Rattle.part_tables.specs.Arriving as arrivals
use Rattle.part_client.specs.declared.arriving.Arriving as kept
use Rattle.part_client.specs.declared.table.TableParts.{TableParts}
use Rattle.part_client.specs.Weighing.{pull_weighed, row_weighed}
use Rattle.part_client.specs.Calls.{table_of, let_go}
use Rattle.part_client.specs.declared.taken.Taken.{Taken}
use Rattle.part_client.specs.Keeping.{Keeps, KeepsIn, KeepsTable, HasNothing, IsTaken, IsTakenAt, IsLeft, IsKept}
use Rattle.part_contents.proofs.Filters.{others_stay, others_found, passes}
use Rattle.part_client.proofs.Stands.{Elsewhere, same_number, pull_apart, row_apart, torn_else, still_there, nothing_else, pull_else, row_else}
use Rattle.part_client.proofs.Arrivals.{weighed_is, of_its_table, of_its_row, row_weighed_is}

-- ---- nothing is kept

pub nothing_of : (table : ℕ) → HasNothing table nothing_arriving
nothing_of table = record { pull = refl; rows = λ row. refl; torn = λ row. refl }

-- ---- of a table

pub kept_there : (it : kept.Arriving) (a : Arriving) (table : ℕ) (parts : TableParts) → Keeps it a → tree.get nat_cmp it.tables table ≡ Some parts → KeepsTable table a parts
kept_there it a table parts k e = subst (λ (o : Option TableParts). KeepsIn table a o) e (k.tables table)

pub nothing_there : (it : kept.Arriving) (a : Arriving) (table : ℕ) → Keeps it a → tree.get nat_cmp it.tables table ≡ None → HasNothing table a
nothing_there it a table k e = subst (λ (o : Option TableParts). KeepsIn table a o) e (k.tables table)

-- ---- one table changes

pub one_changed : (old new : kept.Arriving) (table : ℕ) (a b : Arriving) (parts : TableParts) → Keeps old a → Elsewhere table a b
    → ((q : ℕ) → tree.get nat_cmp new.tables q ≡ cond (is_at (nat_cmp table) q) (Some parts) (tree.get nat_cmp old.tables q)) → KeepsTable table b parts → Keeps new b
one_changed old new table a b parts k e at here = record { tables = λ q. one q (is_at (nat_cmp table) q) refl }
  where
    other : (q : ℕ) → is_at (nat_cmp table) q ≡ false → (q == table) ≡ false
    other q is = let apart : (table == q) ≡ false = sym (unsigned_tied table q) ∙ is in grind (arith, nat_tests)

    one : (q : ℕ) (c : Bool) → is_at (nat_cmp table) q ≡ c → KeepsIn q b (tree.get nat_cmp new.tables q)
    one q true is =
        subst (λ (o : Option TableParts). KeepsIn q b o) (sym (at q ∙ ap (λ (c : Bool). cond c (Some parts) (tree.get nat_cmp old.tables q)) is))
        (subst (λ (n : ℕ). KeepsTable n b parts) (eqb-true table q (sym (unsigned_tied table q) ∙ is)) here)
    one q false is =
        subst (λ (o : Option TableParts). KeepsIn q b o) (sym (at q ∙ ap (λ (c : Bool). cond c (Some parts) (tree.get nat_cmp old.tables q)) is))
        (still_there table a b e q (other q is) (tree.get nat_cmp old.tables q) (k.tables q))

-- nothing is kept of it, before and behind
pub none_changed : (old new : kept.Arriving) (table : ℕ) (a b : Arriving) → Keeps old a → Elsewhere table a b → new.tables ≡ old.tables
    → tree.get nat_cmp old.tables table ≡ None → HasNothing table b → Keeps new b
none_changed old new table a b k e same none here = record { tables = λ q. subst (λ (m : tree.BTreeMap ℕ TableParts). KeepsIn q b (tree.get nat_cmp m q)) (sym same) (one q (table == q) refl) }
  where
    turn : (q : ℕ) → (table == q) ≡ false → (q == table) ≡ false
    turn q h = grind (arith, nat_tests)

    one : (q : ℕ) (c : Bool) → (table == q) ≡ c → KeepsIn q b (tree.get nat_cmp old.tables q)
    one q true is = subst (λ (n : ℕ). KeepsIn n b (tree.get nat_cmp old.tables n)) (eqb-true table q is) (subst (λ (o : Option TableParts). KeepsIn table b o) (sym none) here)
    one q false is = still_there table a b e q (turn q is) (tree.get nat_cmp old.tables q) (k.tables q)

-- ---- what a part makes of the other tables

module _ (opened : TableDisk) (a : Arriving) where
  answered_else : (head : PulledHead) (row : RowHead) → Elsewhere head.table a (of_pull head.table a (at_client.answered opened a.pulls head (Some row))).arriving
  answered_else head row = one ((head.from == opened.position) && is_named opened.schema.chunk (sized row.content) (names_in row.content))
    where
      x : Answering
      x = record { head = head; row = row; slots = waiting (awaited_of (sends_of head) opened.schema.chunk row.content) }

      one : (b : Bool) → Elsewhere head.table a (of_pull head.table a (if b then at_client.weighed opened.schema.chunk (slots_at opened row.row) (without_table head.table a.pulls)
          (record { head = head; row = row; slots = waiting (awaited_of (sends_of head) opened.schema.chunk row.content) }) else record { taken = Waits; answerings = a.pulls })).arriving
      one true =
          subst (λ (w : ClientTaken). Elsewhere head.table a (of_pull head.table a w).arriving) (sym (weighed_is opened.schema.chunk (slots_at opened row.row) (without_table head.table a.pulls) x))
          (pull_else head.table a (pull_weighed opened.schema.chunk (top (slots_at opened row.row).conflict (slots_at opened row.row).shadow) (held_in opened.schema.chunk (slots_at opened row.row)) x)
          (of_its_table head.table opened.schema.chunk (top (slots_at opened row.row).conflict (slots_at opened row.row).shadow) (held_in opened.schema.chunk (slots_at opened row.row)) x
          (same_number head.table)))
      one false = nothing_else head.table a

  torn_answered_else : (head : TornHead) (header : Option RowHead) → Elsewhere head.table a (arrivals.answered opened a head header).arriving
  torn_answered_else head None = row_else head.table head.row a (record { taken = Whole (torn_answer head None); rows = [] }) refl
  torn_answered_else head (Some row) = one (is_named opened.schema.chunk (sized row.content) (names_in row.content))
    where
      x : WholeRow
      x = record { head = head; row = row; slots = waiting (awaited_of (is_sent sents.All) opened.schema.chunk row.content) }

      its : is_of_row head.table head.row x ≡ true
      its = ap (λ (b : Bool). b && same_row head.row head.row) (same_number head.table) ∙ same_row-refl head.row

      one : (b : Bool) → Elsewhere head.table a (if b then arrivals.weighed (slots_at opened row.row) a (without_row head.table head.row a.rows)
          (record { head = head; row = row; slots = waiting (awaited_of (is_sent sents.All) opened.schema.chunk row.content) }) else record { taken = Waits; arriving = a }).arriving
      one true =
          subst (λ (y : Arrived). Elsewhere head.table a y.arriving) (row_weighed_is head.table head.row a (slots_at opened row.row) x its)
          (row_else head.table head.row a (row_weighed (top (slots_at opened row.row).conflict (slots_at opened row.row).shadow) x)
          (of_its_row head.table head.row a (slots_at opened row.row) x its (top (slots_at opened row.row).conflict (slots_at opened row.row).shadow)))
      one false = nothing_else head.table a

  module _ (f : Fragment) where
    grown : Answering → Answering
    grown x = record x { slots = taken f.column f.place f.bytes x.slots }

    pulled_else : (x : Answering) → is_of_table f.table x ≡ true → Elsewhere f.table a (of_pull f.table a (at_client.brought_to opened a.pulls f (Some x))).arriving
    pulled_else x is = one (waits_for f x) (is_whole (taken f.column f.place f.bytes x.slots))
      where
        y : Answering
        y = record x { slots = taken f.column f.place f.bytes x.slots }

        one : (b c : Bool) → Elsewhere f.table a (of_pull f.table a (if b then (if c then at_client.weighed opened.schema.chunk (slots_at opened f.row) (without_table f.table a.pulls)
            (record x { slots = taken f.column f.place f.bytes x.slots })
            else record { taken = Waits; answerings = record x { slots = taken f.column f.place f.bytes x.slots } ∷ without_table f.table a.pulls })
            else record { taken = Waits; answerings = a.pulls })).arriving
        one false c = nothing_else f.table a
        one true true =
            subst (λ (w : ClientTaken). Elsewhere f.table a (of_pull f.table a w).arriving) (sym (weighed_is opened.schema.chunk (slots_at opened f.row) (without_table f.table a.pulls) y))
            (pull_else f.table a (pull_weighed opened.schema.chunk (top (slots_at opened f.row).conflict (slots_at opened f.row).shadow) (held_in opened.schema.chunk (slots_at opened f.row)) y)
            (of_its_table f.table opened.schema.chunk (top (slots_at opened f.row).conflict (slots_at opened f.row).shadow) (held_in opened.schema.chunk (slots_at opened f.row)) y is))
        one true false = pull_else f.table a (record { taken = Waits; answerings = y ∷ [] }) (ap (λ (b : Bool). b && true) is)

    rows_else : (o : Option WholeRow) → ((x : WholeRow) → o ≡ Some x → is_of_row f.table f.row x ≡ true) → Elsewhere f.table a (arrivals.brought_to opened a f o).arriving
    rows_else None its = nothing_else f.table a
    rows_else (Some x) its = one (waits_whole f x) (is_whole (taken f.column f.place f.bytes x.slots))
      where
        y : WholeRow
        y = record x { slots = taken f.column f.place f.bytes x.slots }

        is : is_of_row f.table f.row y ≡ true
        is = its x refl

        one : (b c : Bool) → Elsewhere f.table a (if b then (if c then arrivals.weighed (slots_at opened f.row) a (without_row f.table f.row a.rows)
            (record x { slots = taken f.column f.place f.bytes x.slots })
            else record { taken = Waits; arriving = record a { rows = record x { slots = taken f.column f.place f.bytes x.slots } ∷ without_row f.table f.row a.rows } })
            else record { taken = Waits; arriving = a }).arriving
        one false c = nothing_else f.table a
        one true true =
            subst (λ (z : Arrived). Elsewhere f.table a z.arriving) (row_weighed_is f.table f.row a (slots_at opened f.row) y is)
            (row_else f.table f.row a (row_weighed (top (slots_at opened f.row).conflict (slots_at opened f.row).shadow) y)
            (of_its_row f.table f.row a (slots_at opened f.row) y is (top (slots_at opened f.row).conflict (slots_at opened f.row).shadow)))
        one true false = row_else f.table f.row a (record { taken = Waits; rows = y ∷ [] }) (ap (λ (b : Bool). b && true) is)

    brought_else : (o : Option Answering) → ((x : Answering) → o ≡ Some x → is_of_table f.table x ≡ true)
        → Elsewhere f.table a (if is_awaited f o then of_pull f.table a (at_client.brought_to opened a.pulls f o) else arrivals.brought_to opened a f (find (is_of_row f.table f.row) a.rows)).arriving
    brought_else None its = rows_else (find (is_of_row f.table f.row) a.rows) (λ x e. passes (is_of_row f.table f.row) a.rows x e)
    brought_else (Some x) its = one (waits_for f x)
      where
        one : (b : Bool) → Elsewhere f.table a (if b then of_pull f.table a (at_client.brought_to opened a.pulls f (Some x)) else arrivals.brought_to opened a f (find
            (is_of_row f.table f.row) a.rows)).arriving
        one true = pulled_else x (its x refl)
        one false = rows_else (find (is_of_row f.table f.row) a.rows) (λ x e. passes (is_of_row f.table f.row) a.rows x e)

  pub arrived_else : (p : Part) → Elsewhere (table_of p) a (arrived opened a p).arriving
  arrived_else (Asks head) = nothing_else head.table a
  arrived_else (Responds response) = nothing_else response.table a
  arrived_else (Pulls pull) = nothing_else pull.table a
  arrived_else (Answers head) = by head.header
    where
      by : (o : Option RowHead) → Elsewhere head.table a (of_pull head.table a (at_client.answered opened a.pulls head o)).arriving
      by None = nothing_else head.table a
      by (Some row) = answered_else head row
  arrived_else (BringsUp f) = nothing_else f.table a
  arrived_else (BringsDown f) = brought_else f (find (is_of_table f.table) a.pulls) (λ x e. passes (is_of_table f.table) a.pulls x e)
  arrived_else (AsksTorn torn) = nothing_else torn.table a
  arrived_else (AnswersTorn head) = torn_answered_else head head.header

-- ---- what is let go, and what a pull asks for

pub pulls_gone : (table : ℕ) (a : Arriving) → Elsewhere table a (record a { pulls = without_table table a.pulls })
pulls_gone table a = record {
  pulls = λ other apart. others_stay (is_of_table table) (is_of_table other) (pull_apart table other apart) a.pulls;
  rows = λ other apart row. refl;
  torn = λ other apart row. refl;
}

rows_gone : (table : ℕ) (row : List ℕ) (a : Arriving) → Elsewhere table a (record a { rows = without_row table row a.rows })
rows_gone table row a = record {
  pulls = λ other apart. refl;
  rows = λ other apart q. others_found (is_of_row table row) (is_of_row other q) (row_apart table other apart row q) a.rows;
  torn = λ other apart q. refl;
}

pub let_go_else : (a : Arriving) (p : Part) → Elsewhere (table_of p) a (let_go a p)
let_go_else a (Asks head) = nothing_else head.table a
let_go_else a (Responds response) = nothing_else response.table a
let_go_else a (Pulls pull) = nothing_else pull.table a
let_go_else a (Answers head) = nothing_else head.table a
let_go_else a (BringsUp f) = nothing_else f.table a
let_go_else a (BringsDown f) = one (is_awaited f (find (is_of_table f.table) a.pulls))
  where
    one : (b : Bool) → Elsewhere f.table a (if b then record a { pulls = without_table f.table a.pulls } else record a { rows = without_row f.table f.row a.rows })
    one true = pulls_gone f.table a
    one false = rows_gone f.table f.row a
let_go_else a (AsksTorn torn) = nothing_else torn.table a
let_go_else a (AnswersTorn head) = nothing_else head.table a

pub asking_else : (table : ℕ) (a : Arriving) → Elsewhere table a (asking table a)
asking_else table a = record {
  pulls = (pulls_gone table a).pulls;
  rows = λ other apart row. refl;
  torn = λ other apart q. all_else other apart q (unfinished table a);
}
  where
    all_else : (other : ℕ) (apart : (other == table) ≡ false) (q : List ℕ) (rows : List (List ℕ)) → list_any (same_torn other q) (with_all_torn table rows a.torn) ≡ list_any (same_torn other q) a.torn
    all_else other apart q [] = refl
    all_else other apart q (row ∷ rows) =
        torn_else table other apart row q (with_all_torn table rows a.torn) (list_any (same_torn table row) (with_all_torn table rows a.torn)) ∙ all_else other apart q rows

-- ---- a part of a table is taken

module _ (old : kept.Arriving) (table : ℕ) (p : Part) (a : Arriving) (same : table ≡ table_of p) (k : Keeps old a) where
  pub part_there : (parts : TableParts) → tree.get nat_cmp old.tables table ≡ Some parts → KeepsTable (table_of p) a parts
  part_there parts e = subst (λ (t : ℕ). KeepsTable t a parts) same (kept_there old a table parts k e)

  none_is : (o : Option TableParts) → is_some o ≡ false → o ≡ None
  none_is None e = refl
  none_is (Some parts) e = absurd (let bad : true ≡ false = e in cc)

  pub part_nowhere : is_some (tree.get nat_cmp old.tables table) ≡ false → HasNothing (table_of p) a
  part_nowhere e = subst (λ (t : ℕ). HasNothing t a) same (nothing_there old a table k (none_is (tree.get nat_cmp old.tables table) e))

  module _ (new : kept.Arriving) (parts : TableParts) (at : (q : ℕ) → tree.get nat_cmp new.tables q ≡ cond (is_at (nat_cmp table) q) (Some parts) (tree.get nat_cmp old.tables q)) where
    at_part : (q : ℕ) → tree.get nat_cmp new.tables q ≡ cond (is_at (nat_cmp (table_of p)) q) (Some parts) (tree.get nat_cmp old.tables q)
    at_part q = at q ∙ ap (λ (t : ℕ). cond (is_at (nat_cmp t) q) (Some parts) (tree.get nat_cmp old.tables q)) same

    pub part_taken : (opened : TableDisk) (told : Taken) → IsTakenAt (table_of p) (arrived opened a p) parts told → IsTaken (arrived opened a p) new told
    part_taken opened told got = record {
      taken = got.taken;
      kept = one_changed old new (table_of p) a (arrived opened a p).arriving parts k (arrived_else opened a p) at_part got.kept;
    }

    pub part_left : IsLeft (table_of p) a p parts → IsKept a p new
    part_left (inl got) = inl (one_changed old new (table_of p) a a parts k (nothing_else (table_of p) a) at_part got)
    part_left (inr got) = inr (one_changed old new (table_of p) a (let_go a p) parts k (let_go_else a p) at_part got)
