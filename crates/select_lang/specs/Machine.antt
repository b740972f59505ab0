-- A reader of predicates that takes one word after another. `Grammar` says what it reads.
use Rattle.std.specs.Prelude.{◌≡◌, ℕ, ◌+◌, Bool, true, false, List, [], ◌∷◌, map, reverse, codes}
use Rattle.std.specs.Prelude.{Option, Some, None, Result, Ok, Err, if◌then◌else◌}
use Rattle.std.specs.List.{list_any}
use Rattle.std.specs.Option.{is_some}
use Rattle.std.specs.Str.{bytes_eq}
use Rattle.row_value.specs.declared.content.Cell.{Cell}
use Rattle.row_value.specs.declared.schema.ColumnKind.{ColumnKind}
use Rattle.row_value.specs.declared.schema.Schema.{Schema}
use Rattle.select_lang.specs.declared.predicate.Comparison.{Comparison}
use Rattle.select_lang.specs.declared.reader.Reader.{Reader}
use Rattle.select_lang.specs.declared.reader.Next.{Next}
use Rattle.select_lang.specs.declared.reader.Next.TheVariants.{Test, NotOrColumn, Operator, Value, Join}
use Rattle.select_lang.specs.declared.predicate.Predicate.{Predicate}
use Rattle.select_lang.specs.declared.fault.SelectFault.{SelectFault}
use Rattle.select_lang.specs.declared.fault.SelectFault.TheVariants as faults
use Rattle.select_lang.specs.Formula.{Formula, Compares, formula_of}
use Rattle.select_lang.specs.Grammar.{most_nested}
use Rattle.select_lang.specs.Level.{Open, seen_level, new_level, with_test, with_all, has_room, with_not, inside}
use Rattle.select_lang.specs.Level.{predicate_in}
use Rattle.select_lang.specs.Words.{comparison_at, column_at, cell_at}

-- the predicates outside, the innermost first, the one that is read, and what may come next
pub record State : Type 0 where
  pub outer : List Open
  pub inner : Open
  pub next : Next

abbrev pub state : List Open → Open → Next → State
state outer inner next = record { outer = outer; inner = inner; next = next }

abbrev pub seen : Reader → State
seen reader = state (reverse (map seen_level reader.outer.items)) (seen_level reader.inner) reader.next

abbrev pub start : ℕ → State
start room = state [] (new_level room) Test

-- behind a test
abbrev pub tested : List Open → Open → Formula → State
tested outer inner f = state outer (with_test inner f) Join

abbrev pub opened : List Open → Open → Option Open → Option State
opened outer inner None = None
opened outer inner (Some o) = Some (state (inner ∷ outer) o Test)

abbrev pub turned_by : List Open → Option Open → Option State
turned_by outer None = None
turned_by outer (Some o) = Some (state outer o Test)

-- `not`, which is also the name of a column or not
abbrev pub not_read : List Open → Open → Option (ℕ × ColumnKind) → Option State
not_read outer inner None = turned_by outer (with_not inner)
not_read outer inner (Some c) =
    Some (state outer inner (if has_room inner then NotOrColumn c.0 c.1 else Operator c.0 c.1))

abbrev pub column_read : List Open → Open → Option (ℕ × ColumnKind) → Option State
column_read outer inner None = None
column_read outer inner (Some c) = Some (state outer inner (Operator c.0 c.1))

-- where a test may begin
abbrev pub test_read : Schema → List Open → Open → List ℕ → Option State
test_read schema outer inner word =
    if bytes_eq word (codes "(") then opened outer inner (inside inner)
    else if bytes_eq word (codes "not") then not_read outer inner (column_at schema word)
    else column_read outer inner (column_at schema word)

abbrev pub operator_read : List Open → Open → ℕ → ColumnKind → Option Comparison → Option State
operator_read outer inner number kind None = None
operator_read outer inner number kind (Some comparison) = Some (state outer inner (Value number kind comparison))

abbrev pub after_not : Schema → List ℕ → Option State → Option State
after_not schema word None = None
after_not schema word (Some s) = test_read schema s.outer s.inner word

-- behind `not`, where it is also the name of a column
abbrev pub not_or_read : Schema → List Open → Open → ℕ → ColumnKind → List ℕ → Option Comparison → Option State
not_or_read schema outer inner number kind word None = after_not schema word (turned_by outer (with_not inner))
not_or_read schema outer inner number kind word (Some comparison) =
    Some (state outer inner (Value number kind comparison))

abbrev pub value_read : List Open → Open → ℕ → Comparison → Option Cell → Option State
value_read outer inner number comparison None = None
value_read outer inner number comparison (Some cell) = Some (tested outer inner (Compares number comparison cell))

abbrev pub closed : List Open → Open → Option State
closed [] inner = None
closed (o ∷ outer) inner = Some (tested outer o (predicate_in inner))

-- behind a test
abbrev pub join_read : List Open → Open → List ℕ → Option State
join_read outer inner word =
    if bytes_eq word (codes "and") then Some (state outer inner Test)
    else if bytes_eq word (codes "or") then Some (state outer (with_all inner) Test)
    else if bytes_eq word (codes ")") then closed outer inner
    else None

abbrev pub read_by : Schema → List Open → Open → Next → List ℕ → Option State
read_by schema outer inner Test word = test_read schema outer inner word
read_by schema outer inner (NotOrColumn number kind) word =
    not_or_read schema outer inner number kind word (comparison_at word)
read_by schema outer inner (Operator number kind) word = operator_read outer inner number kind (comparison_at word)
read_by schema outer inner (Value number kind comparison) word =
    value_read outer inner number comparison (cell_at kind word)
read_by schema outer inner Join word = join_read outer inner word

-- the state behind a word; None is a word that can't come there
unfoldable pub read : Schema → State → List ℕ → Option State
read schema s word = read_by schema s.outer s.inner s.next word

-- the predicate, where it may end there
abbrev pub ended_by : List Open → Open → Next → Option Formula
ended_by [] inner Join = Some (predicate_in inner)
ended_by outer inner next = None

unfoldable pub ended : State → Option Formula
ended s = ended_by s.outer s.inner s.next

abbrev pub or_at : ℕ → Option Formula → Result Formula ℕ
or_at at None = Err at
or_at at (Some f) = Ok f

abbrev pub told : ℕ → Option State → (State → Result Formula ℕ) → Result Formula ℕ
told at None more = Err at
told at (Some s) more = more s

-- The predicate that words spell from a state on, where so many words stand before them, or the place of the first one
-- that can't come there; where words are missing it is their count.
abbrev pub read_all : Schema → ℕ → State → List (List ℕ) → Result Formula ℕ
read_all schema at s [] = or_at at (ended s)
read_all schema at s (word ∷ words) = told at (read schema s word) (λ t. read_all schema (at + 1) t words)

-- whether a word was taken, and the state behind it
abbrev pub Takes : Option State → Bool → State → Type 0
Takes behind false now = behind ≡ None
Takes behind true now = behind ≡ Some now

abbrev pub opened_in : State → Option State
opened_in s = opened s.outer s.inner (inside s.inner)

abbrev pub closed_in : State → Option State
closed_in s = closed s.outer s.inner

abbrev pub tested_in : State → Formula → State
tested_in s f = tested s.outer s.inner f

abbrev pub turned_in : State → Option State
turned_in s = turned_by s.outer (with_not s.inner)

abbrev pub not_read_in : State → Option (ℕ × ColumnKind) → Option State
not_read_in s column = not_read s.outer s.inner column

abbrev pub column_read_in : State → Option (ℕ × ColumnKind) → Option State
column_read_in s column = column_read s.outer s.inner column

abbrev pub test_in : Schema → State → List ℕ → Option State
test_in schema s word = test_read schema s.outer s.inner word

abbrev pub operator_read_in : State → ℕ → ColumnKind → List ℕ → Option State
operator_read_in s number kind word = operator_read s.outer s.inner number kind (comparison_at word)

abbrev pub behind_not_in : Schema → State → ℕ → ColumnKind → List ℕ → Option State
behind_not_in schema s number kind word = not_or_read schema s.outer s.inner number kind word (comparison_at word)

abbrev pub value_read_in : State → ℕ → ColumnKind → Comparison → List ℕ → Option State
value_read_in s number kind comparison word = value_read s.outer s.inner number comparison (cell_at kind word)

abbrev pub join_read_in : State → List ℕ → Option State
join_read_in s word = join_read s.outer s.inner word

-- whether a test can begin: some cell column can be named
abbrev pub has_tests : Schema → Bool
has_tests schema = list_any (λ column. is_some (column_at schema column.name)) schema.columns

-- what was read, where memory sufficed
abbrev pub Answers : Result Formula ℕ → Result Predicate SelectFault → Type 0
Answers told (Ok made) = told ≡ Ok (formula_of made)
Answers told (Err (faults.BadSelection at)) = told ≡ Err at
Answers told (Err faults.Memory) = Unit {0}

abbrev pub parsed : Schema → List (List ℕ) → Result Formula ℕ
parsed schema words = if has_tests schema then read_all schema 0 (start most_nested) words else Err 0
