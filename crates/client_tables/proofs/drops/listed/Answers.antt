use Rattle.std.proofs.Common.{◌≡◌, ℕ, ◌++◌, List, map, sym, subst, ap, ◌∙◌}
use Rattle.std.specs.List.Sorted.{IsStrictlySortedBy}
use Rattle.std.proofs.lemmas.List.{append-nil}
use Rattle.client_tables.specs.Drops.{is_among, name_of, pair_of, pair_cmp}
use Rattle.client_tables.proofs.NameSets.{is_among-listed, pairs_of_names}
use Rattle.client_tables.proofs.drops.listed.Goals as goal

all_listed : (c : goal.In-None) → c.loop-plan.listed ≡ map name_of c.args.names.now.keys
all_listed c =
    sym (append-nil c.loop-plan.listed)
    ∙ subst (λ (left : List (ℕ × ℕ)). c.loop-plan.listed ++ map name_of left ≡ map name_of c.args.names.now.keys) c.in-None.ensures.steps.0 c.loop-plan.invariant

pub returns-clause-names : goal.returns-clause-names
returns-clause-names c = λ name. ap (λ names. is_among names name) (all_listed c) ∙ is_among-listed c.args.names.now.keys name

pub returns-clause-rising : goal.returns-clause-rising
returns-clause-rising c =
    subst (IsStrictlySortedBy pair_cmp) (sym (ap (map pair_of) (all_listed c) ∙ pairs_of_names c.args.names.now.keys)) c.iter-plan-items.ensures.ordered
