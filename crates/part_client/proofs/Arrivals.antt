-- What a part comes to, by what is settled of its table.
use Rattle.std.proofs.Common.{◌≡◌, ℕ, Bool, true, false, not, List, [], ◌∷◌, ◌++◌, Option, Some, None, refl, sym, ap, ◌∙◌}
use Rattle.std.specs.Prelude.{◌==◌, ◌&&◌, nat_le, if◌then◌else◌}
use Rattle.std.specs.List.{find, list_all}
use Rattle.std.proofs.lemmas.Bool.{and_parts, eqb-true}
use Rattle.table_model.specs.History.{same_row}
use Rattle.table_model.specs.declared.message.RowHeader.{RowHeader}
use Rattle.chunker.specs.Sized.{sized}
use Rattle.assemblies.specs.declared.sent.Sent.TheVariants as sents
use Rattle.assemblies.specs.Travel.{is_sent}
use Rattle.assemblies.specs.Places.{awaited_of}
use Rattle.assemblies.specs.Gathering.{waiting, taken, is_whole, chunks_of}
use Rattle.assemblies.specs.Parts.{joined}
use Rattle.step_tables.specs.Chunks.{is_named}
use Rattle.step_tables.specs.ClientMoves.{Slots, TableDisk, slots_at, top}
use Rattle.step_tables.specs.Messages.{Message}
use Rattle.step_tables.proofs.Lists.{same_row-is}
use Rattle.part_tables.specs.Parts.{Fragment, BringsDown}
use Rattle.part_tables.specs.ClientParts.{Held, Answering, Taken, Whole, Tears, Waits, ClientTaken, is_of_table}
use Rattle.part_tables.specs.ClientParts.{without_table, names_in, header_with, held_in, sends_of, has_held, bytes_of, answer_with, waits_for}
use Rattle.part_tables.specs.ClientParts as at_client
use Rattle.part_tables.specs.Arriving.{Arriving, Arrived, WholeRow, is_of_row, without_row, without_torn, torn_answer, assembled, ended, of_pull, is_awaited, waits_whole, arrived}
use Rattle.part_tables.specs.Arriving as arrivals
use Rattle.message_parts.specs.Parts.{row_head_of}
use Rattle.part_client.specs.declared.held.RowHeld.{RowHeld}
use Rattle.part_client.specs.declared.pulls.PullHead.{PullHead}
use Rattle.part_client.specs.declared.rows.RowAsked.{RowAsked}
use Rattle.part_client.specs.Held.{IsHeldOf}
use Rattle.part_client.specs.Weighing.{WholeTaken, pull_weighed, row_weighed}
use Rattle.part_client.specs.Calls.{pulled_head, torn_head, pull_settled, row_settled, mended, grown_pull, grown_row}
use Rattle.part_contents.proofs.Filters.{without_twice, without_first, passes}

-- ---- an answer to a pull is weighed

abbrev before : List Answering → ClientTaken → ClientTaken
before others w = record { taken = w.taken; answerings = w.answerings ++ others }

pull_cases : (a b c : Bool) (t1 t2 t3 : Taken) (x : Answering) (others : List Answering)
    → (if a then record { taken = t1; answerings = others } else (if not b then record { taken = t2; answerings = others }
    else (if c then record { taken = t3; answerings = others } else record { taken = Waits; answerings = x ∷ others })))
    ≡ before others (if a then record { taken = t1; answerings = [] } else (if not b then record { taken = t2; answerings = [] }
    else (if c then record { taken = t3; answerings = [] } else record { taken = Waits; answerings = x ∷ [] })))
pull_cases true b c t1 t2 t3 x others = refl
pull_cases false false c t1 t2 t3 x others = refl
pull_cases false true true t1 t2 t3 x others = refl
pull_cases false true false t1 t2 t3 x others = refl

pub weighed_is : (size : ℕ) (slots : Slots) (others : List Answering) (x : Answering)
    → at_client.weighed size slots others x ≡ before others (pull_weighed size (top slots.conflict slots.shadow) (held_in size slots) x)
weighed_is size slots others x = pull_cases (nat_le x.row.version (top slots.conflict slots.shadow)) (has_held (sends_of x.head) size (held_in size slots) x.row.content) (is_whole x.slots)
    (Whole (answer_with x.head x.row (sized x.row.content))) (Tears x.row.row)
    (Whole (answer_with x.head x.row (joined (bytes_of (held_in size slots)) (sends_of x.head) x.row.content (chunks_of x.slots)))) x others

pull_all : (table : ℕ) (a b c : Bool) (t1 t2 t3 : Taken) (x : Answering) → is_of_table table x ≡ true
    → list_all (is_of_table table) ((λ (w : ClientTaken). w.answerings) (if a then record { taken = t1; answerings = [] } else (if not b then record { taken = t2; answerings = [] }
    else (if c then record { taken = t3; answerings = [] } else record { taken = Waits; answerings = x ∷ [] })))) ≡ true
pull_all table true b c t1 t2 t3 x is = refl
pull_all table false false c t1 t2 t3 x is = refl
pull_all table false true true t1 t2 t3 x is = refl
pull_all table false true false t1 t2 t3 x is = ap (λ (b : Bool). b && true) is

-- what waits is of its table
pub of_its_table : (table size read : ℕ) (held : List Held) (x : Answering) → is_of_table table x ≡ true → list_all (is_of_table table) (pull_weighed size read held x).answerings ≡ true
of_its_table table size read held x is = pull_all table (nat_le x.row.version read) (has_held (sends_of x.head) size held x.row.content) (is_whole x.slots)
    (Whole (answer_with x.head x.row (sized x.row.content))) (Tears x.row.row) (Whole (answer_with x.head x.row (joined (bytes_of held) (sends_of x.head) x.row.content (chunks_of x.slots)))) x is

module _ (opened : TableDisk) (row : List ℕ) (view : RowHeld) (h : IsHeldOf opened row view) where
  -- weighed by what is held
  pub by_view : (f : ℕ → Answering) → pull_weighed view.chunk view.read view.held.items (f view.chunk)
      ≡ pull_weighed opened.schema.chunk (top (slots_at opened row).conflict (slots_at opened row).shadow) (held_in opened.schema.chunk (slots_at opened row)) (f opened.schema.chunk)
  by_view f =
      ap (λ (size : ℕ). pull_weighed size view.read view.held.items (f size)) h.chunk
      ∙ (ap (λ (read : ℕ). pull_weighed opened.schema.chunk read view.held.items (f opened.schema.chunk)) h.read
      ∙ ap (λ (held : List Held). pull_weighed opened.schema.chunk (top (slots_at opened row).conflict (slots_at opened row).shadow) held (f opened.schema.chunk)) h.held)

-- ---- an answer to a pull comes

abbrev pub answering_at : PullHead → RowHeader → ℕ → Answering
answering_at head row size = record {
  head = pulled_head head row;
  row = row_head_of row;
  slots = waiting (awaited_of (is_sent (sents.Above head.from)) size row.content);
}

pub answer_kept : (opened : TableDisk) (view : RowHeld) (a : Arriving) (head : PullHead) (row : RowHeader) (w : ClientTaken) → IsHeldOf opened row.row view
    → (head.from == view.position) ≡ true → is_named view.chunk (sized row.content) (names_in row.content) ≡ true
    → w ≡ pull_weighed view.chunk view.read view.held.items (answering_at head row view.chunk)
    → pull_settled head.table a w ≡ of_pull head.table a (at_client.answered opened a.pulls (pulled_head head row) (Some (row_head_of row)))
answer_kept opened view a head row w h there named is =
    let tests : ((head.from == opened.position) && is_named opened.schema.chunk (sized row.content) (names_in row.content)) ≡ true =
    ap (λ (b : Bool). b && is_named opened.schema.chunk (sized row.content) (names_in row.content)) (ap (λ (p : ℕ). head.from == p) (sym h.position) ∙ there)
    ∙ (ap (λ (size : ℕ). is_named size (sized row.content) (names_in row.content)) (sym h.chunk) ∙ named) in
    let x : Answering = answering_at head row opened.schema.chunk in
    ap (pull_settled head.table a) (is ∙ by_view opened row.row view h (answering_at head row))
    ∙ (ap (of_pull head.table a) (sym (weighed_is opened.schema.chunk (slots_at opened row.row) (without_table head.table a.pulls) x))
    ∙ ap (λ (b : Bool). of_pull head.table a (if b then at_client.weighed opened.schema.chunk (slots_at opened row.row)
    (without_table head.table a.pulls) x else record { taken = Waits; answerings = a.pulls })) (sym tests))

-- ---- an answer to a pull is complete, or goes on to wait

pub complete_kept : (opened : TableDisk) (view : RowHeld) (table : ℕ) (row : List ℕ) (a : Arriving) (x : Answering) (w : ClientTaken) → IsHeldOf opened row view → is_whole x.slots ≡ true
    → w ≡ pull_weighed view.chunk view.read view.held.items x
    → pull_settled table (record a { pulls = without_table table a.pulls }) w ≡ of_pull table a (grown_pull opened table row a.pulls x)
complete_kept opened view table row a x w h whole is =
    ap (λ (l : List Answering). of_pull table a (before l w)) (without_twice (is_of_table table) a.pulls)
    ∙ (ap (λ (v : ClientTaken). of_pull table a (before (without_table table a.pulls) v)) (is ∙ by_view opened row view h (λ size. x))
    ∙ (ap (of_pull table a) (sym (weighed_is opened.schema.chunk (slots_at opened row) (without_table table a.pulls) x))
    ∙ ap (λ (b : Bool). of_pull table a (if b then at_client.weighed opened.schema.chunk (slots_at opened row)
    (without_table table a.pulls) x else record { taken = Waits; answerings = a.pulls })) (sym whole)))

pub still_waits : (opened : TableDisk) (table : ℕ) (row : List ℕ) (a : Arriving) (x : Answering) → is_whole x.slots ≡ false
    → of_pull table a (grown_pull opened table row a.pulls x) ≡ record { taken = Waits; arriving = a }
still_waits opened table row a x whole =
    ap (λ (b : Bool). of_pull table a (if b then at_client.weighed opened.schema.chunk (slots_at opened row) (without_table table a.pulls) x else record { taken = Waits; answerings = a.pulls })) whole

-- ---- a fragment

module _ (opened : TableDisk) (a : Arriving) (f : Fragment) where
  abbrev grown : Answering → Answering
  grown x = record x { slots = taken f.column f.place f.bytes x.slots }

  abbrev pub with_grown : Answering → Arriving
  with_grown x = record a { pulls = grown x ∷ without_table f.table a.pulls }

  pub rest_is : (x : Answering) → is_of_table f.table x ≡ true → without_table f.table (grown x ∷ without_table f.table a.pulls) ≡ without_table f.table a.pulls
  rest_is x is = without_first (is_of_table f.table) (grown x) (without_table f.table a.pulls) is ∙ without_twice (is_of_table f.table) a.pulls

  abbrev by_awaited : Bool → Option Answering → Arrived
  by_awaited b o = if b then of_pull f.table a (at_client.brought_to opened a.pulls f o) else arrivals.brought_to opened a f (find (is_of_row f.table f.row) a.rows)

  pub pull_brought : (x : Answering) → find (is_of_table f.table) a.pulls ≡ Some x → waits_for f x ≡ true
      → of_pull f.table (with_grown x) (grown_pull opened f.table f.row (with_grown x).pulls (grown x)) ≡ arrived opened a (BringsDown f)
  pull_brought x there waits =
      ap (λ (l : List Answering). of_pull f.table a (if is_whole (grown x).slots then at_client.weighed opened.schema.chunk (slots_at opened f.row) l (grown x)
      else record { taken = Waits; answerings = grown x ∷ without_table f.table a.pulls })) (rest_is x (passes (is_of_table f.table) a.pulls x there))
      ∙ (ap (λ (b : Bool). of_pull f.table a (if b then (if is_whole (grown x).slots then at_client.weighed opened.schema.chunk (slots_at opened f.row) (without_table f.table a.pulls) (grown x)
      else record { taken = Waits; answerings = grown x ∷ without_table f.table a.pulls }) else record { taken = Waits; answerings = a.pulls })) (sym waits)
      ∙ (ap (λ (b : Bool). by_awaited b (Some x)) (sym waits) ∙ ap (λ (o : Option Answering). by_awaited (is_awaited f o) o) (sym there)))

  pub not_pulled : is_awaited f (find (is_of_table f.table) a.pulls) ≡ false → arrived opened a (BringsDown f) ≡ arrivals.brought_to opened a f (find (is_of_row f.table f.row) a.rows)
  not_pulled e = ap (λ (b : Bool). by_awaited b (find (is_of_table f.table) a.pulls)) e

-- ---- a row that was asked for whole is weighed

module _ (table : ℕ) (row : List ℕ) (a : Arriving) where
  row_cases : (b c : Bool) (m1 m2 : Message) (x : WholeRow)
      → row_settled table row a (if b then record { taken = Whole m1; rows = [] } else (if c then record { taken = Whole m2; rows = [] } else record { taken = Waits; rows = x ∷ [] }))
      ≡ (if b then record { taken = Whole m1; arriving = record a { rows = without_row table row a.rows; torn = without_torn table row a.torn } }
      else (if c then record { taken = Whole m2; arriving = record a { rows = without_row table row a.rows; torn = without_torn table row a.torn } }
      else record { taken = Waits; arriving = record a { rows = x ∷ without_row table row a.rows } }))
  row_cases true c m1 m2 x = refl
  row_cases false true m1 m2 x = refl
  row_cases false false m1 m2 x = refl

  rows_all : (b c : Bool) (m1 m2 : Message) (x : WholeRow) → is_of_row table row x ≡ true
      → list_all (is_of_row table row) ((λ (w : WholeTaken). w.rows) (if b then record { taken = Whole m1; rows = [] } else
      (if c then record { taken = Whole m2; rows = [] } else record { taken = Waits; rows = x ∷ [] }))) ≡ true
  rows_all true c m1 m2 x is = refl
  rows_all false true m1 m2 x is = refl
  rows_all false false m1 m2 x is = ap (λ (b : Bool). b && true) is

  module _ (slots : Slots) (x : WholeRow) (is : is_of_row table row x ≡ true) where
    pub of_its_row : (read : ℕ) → list_all (is_of_row table row) (row_weighed read x).rows ≡ true
    of_its_row read = rows_all (nat_le x.row.version read) (is_whole x.slots) (torn_answer x.head (Some (header_with x.row (sized x.row.content)))) (torn_answer x.head (Some
        (header_with x.row (assembled x)))) x is

    pub row_weighed_is : row_settled table row a (row_weighed (top slots.conflict slots.shadow) x) ≡ arrivals.weighed slots a (without_row table row a.rows) x
    row_weighed_is =
        let there = and_parts (x.head.table == table) (same_row x.head.row row) is in
        row_cases (nat_le x.row.version (top slots.conflict slots.shadow)) (is_whole x.slots) (torn_answer x.head (Some (header_with x.row (sized x.row.content)))) (torn_answer x.head (Some
        (header_with x.row (assembled x)))) x
        ∙ (ap (λ (t : ℕ). by_place t row) (sym (eqb-true x.head.table table there.0)) ∙ ap (λ (r : List ℕ). by_place x.head.table r) (sym (same_row-is x.head.row row there.1)))
      where
        by_place : ℕ → List ℕ → Arrived
        by_place t r =
            if nat_le x.row.version (top slots.conflict slots.shadow) then record {
              taken = Whole (torn_answer x.head (Some (header_with x.row
                  (sized x.row.content))));
              arriving = record a { rows = without_row table row a.rows; torn = without_torn t r a.torn };
            }
            else (if is_whole x.slots then record {
              taken = Whole (torn_answer x.head (Some (header_with x.row
                  (assembled x))));
              arriving = record a { rows = without_row table row a.rows; torn = without_torn t r a.torn };
            }
            else record { taken = Waits; arriving = record a { rows = x ∷ without_row table row a.rows } })

-- ---- a row that was asked for whole comes

abbrev pub row_at : RowAsked → RowHeader → ℕ → WholeRow
row_at head row size = record {
  head = torn_head head (Some (row_head_of row));
  row = row_head_of row;
  slots = waiting (awaited_of (is_sent sents.All) size row.content);
}

module _ (opened : TableDisk) (view : RowHeld) (a : Arriving) (head : RowAsked) (row : RowHeader) (h : IsHeldOf opened row.row view) where
  abbrev by_named : Bool → Arrived
  by_named b = if b then arrivals.weighed (slots_at opened row.row) a (without_row head.table head.row a.rows) (row_at head row opened.schema.chunk) else record { taken = Waits; arriving = a }

  pub row_kept : (w : WholeTaken) → is_of_row head.table head.row (row_at head row opened.schema.chunk) ≡ true → is_named view.chunk (sized row.content) (names_in row.content) ≡ true
      → w ≡ row_weighed view.read (row_at head row view.chunk)
      → row_settled head.table head.row a w ≡ arrivals.answered opened a (torn_head head (Some (row_head_of row))) (Some (row_head_of row))
  row_kept w its named is =
      ap (row_settled head.table head.row a) (is ∙ (ap (λ (size : ℕ). row_weighed view.read (row_at head row size)) h.chunk ∙ ap (λ (read : ℕ). row_weighed read
      (row_at head row opened.schema.chunk)) h.read))
      ∙ (row_weighed_is head.table head.row a (slots_at opened row.row) (row_at head row opened.schema.chunk) its
      ∙ ap by_named (sym (ap (λ (size : ℕ). is_named size (sized row.content) (names_in row.content)) (sym h.chunk) ∙ named)))

-- ---- it is complete, or goes on to wait

pub complete_row_kept : (opened : TableDisk) (view : RowHeld) (table : ℕ) (row : List ℕ) (a : Arriving) (x : WholeRow) (w : WholeTaken) → IsHeldOf opened row view → is_of_row table row x ≡ true
    → is_whole x.slots ≡ true → w ≡ row_weighed view.read x
    → row_settled table row (record a { rows = without_row table row a.rows }) w ≡ grown_row opened table row a x
complete_row_kept opened view table row a x w h its whole is =
    ap (λ (l : List WholeRow). row_settled_over l) (without_twice (is_of_row table row) a.rows)
    ∙ (ap (row_settled table row a) (is ∙ ap (λ (read : ℕ). row_weighed read x) h.read)
    ∙ (row_weighed_is table row a (slots_at opened row) x its
    ∙ ap (λ (b : Bool). if b then arrivals.weighed (slots_at opened row) a (without_row table row a.rows) x else record { taken = Waits; arriving = a }) (sym whole)))
  where
    row_settled_over : List WholeRow → Arrived
    row_settled_over l = record { taken = w.taken; arriving = record a { rows = w.rows ++ l; torn = mended table row w.taken a.torn } }

module _ (opened : TableDisk) (a : Arriving) (f : Fragment) where
  abbrev row_grown : WholeRow → WholeRow
  row_grown x = record x { slots = taken f.column f.place f.bytes x.slots }

  abbrev pub with_row_grown : WholeRow → Arriving
  with_row_grown x = record a { rows = row_grown x ∷ without_row f.table f.row a.rows }

  pub others_are : (x : WholeRow) → is_of_row f.table f.row x ≡ true → without_row f.table f.row (row_grown x ∷ without_row f.table f.row a.rows) ≡ without_row f.table f.row a.rows
  others_are x is = without_first (is_of_row f.table f.row) (row_grown x) (without_row f.table f.row a.rows) is ∙ without_twice (is_of_row f.table f.row) a.rows

  pub row_brought : (x : WholeRow) → find (is_of_row f.table f.row) a.rows ≡ Some x → waits_whole f x ≡ true
      → grown_row opened f.table f.row (with_row_grown x) (row_grown x) ≡ arrivals.brought_to opened a f (find (is_of_row f.table f.row) a.rows)
  row_brought x there waits =
      ap (λ (l : List WholeRow). weighed_over l) (others_are x (passes (is_of_row f.table f.row) a.rows x there))
      ∙ (ap (λ (b : Bool). if b then (if is_whole (row_grown x).slots then arrivals.weighed (slots_at opened f.row) a (without_row f.table f.row a.rows) (row_grown x)
      else record { taken = Waits; arriving = with_row_grown x }) else record { taken = Waits; arriving = a }) (sym waits)
      ∙ ap (arrivals.brought_to opened a f) (sym there))
    where
      weighed_over : List WholeRow → Arrived
      weighed_over l = if is_whole (row_grown x).slots then arrivals.weighed (slots_at opened f.row) a l (row_grown x) else record { taken = Waits; arriving = with_row_grown x }

  pub row_unmoved : (x : WholeRow) → find (is_of_row f.table f.row) a.rows ≡ Some x → waits_whole f x ≡ false
      → arrivals.brought_to opened a f (find (is_of_row f.table f.row) a.rows) ≡ record { taken = Waits; arriving = a }
  row_unmoved x there waits =
      ap (arrivals.brought_to opened a f) there
      ∙ ap (λ (b : Bool). if b then (if is_whole (row_grown x).slots then arrivals.weighed (slots_at opened f.row) a (without_row f.table f.row a.rows) (row_grown x)
      else record { taken = Waits; arriving = with_row_grown x }) else record { taken = Waits; arriving = a }) waits

  pub no_row : find (is_of_row f.table f.row) a.rows ≡ None → arrivals.brought_to opened a f (find (is_of_row f.table f.row) a.rows) ≡ record { taken = Waits; arriving = a }
  no_row there = ap (arrivals.brought_to opened a f) there
