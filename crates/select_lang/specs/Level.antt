-- A predicate that isn't read to its end: what stands outside of it, and what may come next.
use Rattle.std.specs.Prelude.{◌≡◌, ℕ, ◌+◌, ◌-◌, nat_lt, Bool, true, false, List, [], ◌∷◌, ◌++◌, map, Option, Some, None}
use Rattle.std.specs.Prelude.{if◌then◌else◌}
use Rattle.select_lang.specs.Formula.{Formula, formula_of, all_of, any_of, turned}
use Rattle.select_lang.specs.declared.level.Level.{Level}

-- The alternatives that have ended, the tests of the one that goes on, the `not`s behind them, and how deep tests may
-- nest here.
pub record Open : Type 0 where
  pub any : List Formula
  pub all : List Formula
  pub nots : ℕ
  pub room : ℕ

abbrev pub seen_level : Level → Open
seen_level level = record {
  any = map formula_of level.any.items;
  all = map formula_of level.all.items;
  nots = level.nots;
  room = level.room;
}

abbrev pub seen_option : Option Level → Option Open
seen_option None = None
seen_option (Some level) = Some (seen_level level)

abbrev pub new_level : ℕ → Open
new_level room = record { any = []; all = []; nots = 0; room = room }

-- behind a test
abbrev pub with_test : Open → Formula → Open
with_test o f = record o { all = o.all ++ turned o.nots f ∷ []; nots = 0 }

-- behind `or`
abbrev pub with_all : Open → Open
with_all o = record o { any = o.any ++ all_of o.all ∷ []; all = [] }

-- whether a test may nest deeper here
abbrev pub has_room : Open → Bool
has_room o = nat_lt o.nots o.room

-- behind `not`
abbrev pub with_not : Open → Option Open
with_not o = if has_room o then Some (record o { nots = o.nots + 1 }) else None

-- what begins in parentheses
abbrev pub inside : Open → Option Open
inside o = if has_room o then Some (new_level (o.room - o.nots - 1)) else None

abbrev pub predicate_in : Open → Formula
predicate_in o = any_of (o.any ++ all_of o.all ∷ [])

-- whether something was taken, and what is then there
abbrev pub Becomes : {X : Type 0} → Option X → Bool → X → X → Type 0
Becomes made false old now = (made ≡ None) × (now ≡ old)
Becomes made true old now = made ≡ Some now
