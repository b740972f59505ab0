-- Which words spell a predicate, and which word is the first at which none goes on.
use Rattle.std.specs.Prelude.{◌≡◌, ◌⊎◌, ℕ, zero, suc, ◌+◌, ◌<◌, List, [], ◌∷◌, ◌++◌, length, take, codes}
use Rattle.std.specs.Prelude.{Some, Result, Ok, Err}
use Rattle.row_value.specs.declared.content.Cell.{Cell}
use Rattle.row_value.specs.declared.schema.ColumnKind.{ColumnKind}
use Rattle.row_value.specs.declared.schema.Schema.{Schema}
use Rattle.select_lang.specs.declared.predicate.Comparison.{Comparison}
use Rattle.select_lang.specs.declared.predicate.Predicate.{Predicate}
use Rattle.select_lang.specs.declared.fault.SelectFault.{SelectFault}
use Rattle.select_lang.specs.declared.fault.SelectFault.TheVariants.{BadSelection, Memory}
use Rattle.select_lang.specs.Formula.{Formula, NotThat, Compares, formula_of, all_of, any_of}
use Rattle.select_lang.specs.Words.{comparison_word, column_at, SpellsOf}

-- one or more parts, with this word between each two
abbrev pub Parted : List ℕ → (List (List ℕ) → Formula → Type 0) → List (List ℕ) → List Formula → Type 0
Parted word Spells words [] = ⊥
Parted word Spells words (f ∷ []) = Spells words f
Parted word Spells words (f ∷ g ∷ fs) =
    (first rest : List (List ℕ)) × (words ≡ first ++ word ∷ rest) × Spells first f
    × Parted word Spells rest (g ∷ fs)

-- `test and test ..`
abbrev pub SpellsAll : (List (List ℕ) → Formula → Type 0) → List (List ℕ) → Formula → Type 0
SpellsAll Tests words f = (fs : List Formula) × Parted (codes "and") Tests words fs × (f ≡ all_of fs)

-- `all or all ..`
abbrev pub SpellsAny : (List (List ℕ) → Formula → Type 0) → List (List ℕ) → Formula → Type 0
SpellsAny Tests words f = (fs : List Formula) × Parted (codes "or") (SpellsAll Tests) words fs × (f ≡ any_of fs)

-- `COLUMN OP VALUE`: a cell column of the table, and a value of its kind
pub record SpellsComparison (schema : Schema) (words : List (List ℕ)) (f : Formula) : Type 0 where
  pub column : List ℕ
  pub number : ℕ
  pub kind : ColumnKind
  pub comparison : Comparison
  pub value : List ℕ
  pub cell : Cell
  pub text : words ≡ column ∷ comparison_word comparison ∷ value ∷ []
  pub named : column_at schema column ≡ Some (number, kind)
  pub spelled : SpellsOf kind value cell
  pub formula : f ≡ Compares number comparison cell

-- a test in which `not` and parentheses nest at most so deep, counted together
unfoldable pub SpellsTest : Schema → ℕ → List (List ℕ) → Formula → Type 0
SpellsTest schema zero words f = SpellsComparison schema words f
SpellsTest schema (suc depth) words f =
    SpellsComparison schema words f
    ⊎ ((rest : List (List ℕ)) × (g : Formula)
    × (words ≡ codes "not" ∷ rest) × SpellsTest schema depth rest g × (f ≡ NotThat g))
    ⊎ ((inside : List (List ℕ))
    × (words ≡ codes "(" ∷ (inside ++ codes ")" ∷ [])) × SpellsAny (SpellsTest schema depth) inside f)

-- how deep they nest
abbrev pub most_nested : ℕ
most_nested = 64

-- the words spell the predicate
abbrev pub SpellsFormula : Schema → List (List ℕ) → Formula → Type 0
SpellsFormula schema words f = SpellsAny (SpellsTest schema most_nested) words f

abbrev pub SpellsPred : Schema → Predicate → List (List ℕ) → Type 0
SpellsPred schema predicate words = SpellsFormula schema words (formula_of predicate)

-- the words can go on to a predicate, or are one
abbrev pub GoesOn : Schema → List (List ℕ) → Type 0
GoesOn schema words = (rest : List (List ℕ)) × (f : Formula) × SpellsFormula schema (words ++ rest) f

-- no predicate goes on with this word, or the words end here and are none
abbrev pub StopsAt : Schema → List (List ℕ) → ℕ → Type 0
StopsAt schema words at =
    ((at < length words) × (GoesOn schema (take (at + 1) words) → ⊥))
    ⊎ ((at ≡ length words) × ((f : Formula) → SpellsFormula schema words f → ⊥))

-- The first word at which no predicate goes on: with each word before it one does, and with it none. Where one goes on
-- with every word, and the words are none, it is their count.
pub record IsBadWord (schema : Schema) (words : List (List ℕ)) (at : ℕ) : Type 0 where
  pub before : (k : ℕ) → k < at → GoesOn schema (take (k + 1) words)
  pub here : StopsAt schema words at

-- an error that blames the words; want of memory doesn't
abbrev pub Blames : Schema → List (List ℕ) → SelectFault → Type 0
Blames schema words (BadSelection at) = IsBadWord schema words at
Blames schema words Memory = Unit {0}

-- this predicate was read, where memory sufficed
abbrev pub IsReading : Formula → Result Predicate SelectFault → Type 0
IsReading f (Ok made) = formula_of made ≡ f
IsReading f (Err (BadSelection at)) = ⊥
IsReading f (Err Memory) = Unit {0}

-- the words were refused at this one, where memory sufficed
abbrev pub IsRefusal : ℕ → Result Predicate SelectFault → Type 0
IsRefusal at (Ok made) = ⊥
IsRefusal at (Err (BadSelection place)) = place ≡ at
IsRefusal at (Err Memory) = Unit {0}
