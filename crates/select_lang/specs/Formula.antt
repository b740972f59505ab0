-- A predicate as a tree, whatever memory holds it.
use Rattle.std.specs.Prelude.{ℕ, zero, suc, List, [], ◌∷◌}
use Rattle.row_value.specs.declared.content.Cell.{Cell}
use Rattle.select_lang.specs.declared.predicate.Comparison.{Comparison}
use Rattle.select_lang.specs.declared.predicate.Predicate.{Predicate}
use Rattle.select_lang.specs.declared.predicate.Predicate.TheOpen.{Predicate-F}
use Rattle.select_lang.specs.declared.predicate.Predicate.TheFolds.{fold-Predicate}

mutual
  pub data Formula : Type 0 where
    OneOf : Formulas → Formula
    EachOf : Formulas → Formula
    NotThat : Formula → Formula
    Compares : ℕ → Comparison → Cell → Formula

  pub data Formulas : Type 0 where
    nothing : Formulas
    more : Formula → Formulas → Formulas

abbrev pub formulas : List Formula → Formulas
formulas [] = nothing
formulas (f ∷ fs) = more f (formulas fs)

-- one level, with the tree of each predicate inside in its place
abbrev pub formula_step : Predicate-F Formula → Formula
formula_step (Predicate-F.Any parts) = OneOf (formulas parts.items)
formula_step (Predicate-F.All parts) = EachOf (formulas parts.items)
formula_step (Predicate-F.Not part) = NotThat part.value
formula_step (Predicate-F.Test column comparison value) = Compares column comparison value

abbrev pub formula_of : Predicate → Formula
formula_of = fold-Predicate Formula formula_step

-- what meets each of these, and what meets one of these; of one alone it is that one
abbrev pub all_of : List Formula → Formula
all_of [] = EachOf nothing
all_of (f ∷ []) = f
all_of (f ∷ g ∷ fs) = EachOf (formulas (f ∷ g ∷ fs))

abbrev pub any_of : List Formula → Formula
any_of [] = OneOf nothing
any_of (f ∷ []) = f
any_of (f ∷ g ∷ fs) = OneOf (formulas (f ∷ g ∷ fs))

-- turned round so many times
abbrev pub turned : ℕ → Formula → Formula
turned zero f = f
turned (suc n) f = NotThat (turned n f)
