use Rattle.std.proofs.Common.{◌≡◌, ℕ, List, [], ◌∷◌, ◌++◌, length, Some, refl, sym, ap, ◌∙◌, subst, append-nil}
use Rattle.std.specs.Prelude.{map}
use Rattle.std.specs.declared.cmp.Ordering.TheVariants.{Less, Equal}
use Rattle.std.specs.List.Sorted.{IsStrictlySortedBy}
use Rattle.row_value.specs.declared.schema.Scheme.{Scheme}
use Rattle.table_model.specs.declared.event.Event.TheVariants as events
use Rattle.table_model.specs.declared.line.RowPair.{RowPair}
use Rattle.step_tables.specs.Client.{row_cmp}
use Rattle.step_tables.specs.Facts.{Fact, Answer, Line, AnswerLine, PairLine, FactLine}
use Rattle.step_tables.specs.Facts as facts
use Rattle.step_tables.specs.Members.{Among}
use Rattle.step_tables.specs.Sayings.{Said}
use Rattle.step_tables.proofs.Lists.{among_none, among_here}
use Rattle.world_tables.specs.Sound.{ArePairs, IsAnswer, IsCounted, IsAnswered}
use Rattle.world_laws.specs.Worked.{int, the_row}
use Rattle.world_laws.specs.Bad.{pair_at}
use Rattle.world_laws.proofs.other_conflicts_are_refused.Goals as goal

-- lists of pairs before facts are the same pairs
same_pairs : (ps qs : List RowPair) (told : List Fact) → map PairLine ps ≡ map PairLine qs ++ map FactLine told → qs ≡ ps
same_pairs [] [] told is = refl
same_pairs [] (q ∷ qs) told is = absurd cc
same_pairs (p ∷ ps) [] [] is = absurd cc
same_pairs (p ∷ ps) [] (f ∷ told) is = absurd cc
same_pairs (p ∷ ps) (q ∷ qs) told is =
    let first : q ≡ p = cc in
    let rest : map PairLine ps ≡ map PairLine qs ++ map FactLine told = cc in
    ap (λ (x : RowPair). x ∷ qs) first ∙ ap (λ (xs : List RowPair). p ∷ xs) (same_pairs ps qs told rest)

-- the pairs behind an answer are those of a sound list, and counted
listed : (g : ℕ → Scheme) (s : Said) (n : ℕ) (ps : List RowPair) → IsAnswered g s (events.Conflicts 1 1) (AnswerLine (facts.Number n) ∷ map PairLine ps)
    → (a : ArePairs g s 1 1 (map PairLine ps)) × (a.pairs ≡ ps) × (length ps ≡ n)
listed g s n ps k =
    let answer : k.answer ≡ facts.Number n = cc in
    let rest : map PairLine ps ≡ k.counted ++ map FactLine k.told = cc in
    let counts = subst (λ (a : Answer). IsCounted (events.Conflicts 1 1) a k.counted) answer k.counts in
    let same : counts.0 ≡ ps = same_pairs ps counts.0 k.told (rest ∙ ap (λ (ls : List Line). ls ++ map FactLine k.told) counts.1) in
    let counted : k.counted ≡ map PairLine ps = counts.1 ∙ ap (λ (qs : List RowPair). map PairLine qs) same in
    let a : ArePairs g s 1 1 (map PairLine ps) =
    subst (λ (ls : List Line). ArePairs g s 1 1 ls) counted (subst (λ (x : Answer). IsAnswer g s (events.Conflicts 1 1) x k.counted) answer k.is) in
    (a, same_pairs ps a.pairs [] (a.lines_are ∙ sym (append-nil (map PairLine a.pairs))), ap (λ (qs : List RowPair). length qs) (sym same) ∙ counts.2)

pub returns-clause-missing : goal.returns-clause-missing
returns-clause-missing c = λ sound.
    let a = listed _ _ 0 [] sound.3.3.1 in
    among_none (pair_at 1) (subst (λ (ps : List RowPair). Among ps (pair_at 1)) a.1 (a.0.all the_row 1 1 (int 5) refl))

pub returns-clause-peaceful : goal.returns-clause-peaceful
returns-clause-peaceful c = λ sound.
    let a = listed _ _ 1 (pair_at 1 ∷ []) sound.3.3.1 in
    let shown = a.0.shown (pair_at 1) (subst (λ (ps : List RowPair). Among ps (pair_at 1)) (sym a.1) (among_here (pair_at 1) [])) in
    let e : Some (facts.Mine 1 (int 5)) ≡ Some (facts.Contended 1 1 shown.0) = shown.1 in
    absurd cc

pub returns-clause-version : goal.returns-clause-version
returns-clause-version c = λ sound.
    let a = listed _ _ 1 (pair_at 2 ∷ []) sound.3.3.1 in
    let shown = a.0.shown (pair_at 2) (subst (λ (ps : List RowPair). Among ps (pair_at 2)) (sym a.1) (among_here (pair_at 2) [])) in
    let e : Some (facts.Contended 1 1 (int 5)) ≡ Some (facts.Contended 1 2 shown.0) = shown.1 in
    absurd cc

pub returns-clause-twice : goal.returns-clause-twice
unfolding IsStrictlySortedBy
returns-clause-twice c = λ sound.
    let a = listed _ _ 2 (pair_at 1 ∷ pair_at 1 ∷ []) sound.3.3.1 in
    let rising = subst (λ (ps : List RowPair). IsStrictlySortedBy row_cmp (map (λ (p : RowPair). p.row) ps)) a.1 a.0.rising in
    let e : Equal ≡ Less = rising.0.0 in
    absurd cc

pub returns-clause-uncounted : goal.returns-clause-uncounted
returns-clause-uncounted c = λ sound.
    let a = listed _ _ 0 (pair_at 1 ∷ []) sound.3.3.1 in
    absurd (let e = a.2 in cc)
