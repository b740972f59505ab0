-- A plan that puts no row and brings and drops no chunk is one that the devices take on, if it is short.
use Rattle.std.proofs.Common.{◌≡◌, ℕ, ◌<◌, ◌≤◌, List, [], length, None, sym, ap, subst, arith}
use Rattle.std.specs.List.{AllByRecursion}
use Rattle.held_value.specs.declared.local_name.LocalName.{LocalName}
use Rattle.client_journal.specs.declared.plan.Plan.{Plan}
use Rattle.client_journal.specs.Devs.{ClientDevs}
use Rattle.client_journal.specs.Names.{Has}
use Rattle.client_journal.specs.NamedSlots.{AreDifferent, names_before, names_behind}
use Rattle.client_journal.specs.Plan.{IsPlan, chunk_most}
use Rattle.plan_limits.specs.Short.{IsShort}

module _ (d : ClientDevs) (plan : Plan) (no_row : plan.row ≡ None) (brought : plan.brought ≡ []) (drops : plan.drops ≡ []) (short : IsShort plan) where
  no_names : names_behind plan.row ≡ []
  no_names = ap names_behind no_row

  none_before : names_before d.held plan.table plan.row ≡ []
  none_before = ap (names_before d.held plan.table) no_row

  no_name : {P : Type 0} (l : List LocalName) (name : LocalName) → l ≡ [] → Has l name → P
  no_name l name is has = absurd (let none : Has [] name = subst (λ (x : List LocalName). Has x name) is has in cc)

  none_brought : {P : Type 0} (ordinal : ℕ) → ordinal < length plan.brought → P
  none_brought ordinal less = absurd (let none : ordinal < length {A = List ℕ} [] = subst (λ (x : List (List ℕ)). ordinal < length x) brought less in omega (arith, none))

  pub bare_plan : IsPlan d plan
  bare_plan = record {
    brought = λ name has zero. no_name (names_behind plan.row) name no_names has;
    all_brought = λ ordinal less. none_brought ordinal less;
    kept = λ name k. no_name (names_behind plan.row) name no_names k.named;
    dropped = λ name has. no_name plan.drops name drops has;
    all_dropped = λ name has n. no_name (names_before d.held plan.table plan.row) name none_before has;
    different = subst AreDifferent (sym drops) tt;
    there = λ name has. no_name plan.drops name drops has;
    spelled = short.spelled;
    short = short.short;
    chunks = subst (AllByRecursion (λ bytes. length bytes ≤ chunk_most)) (sym brought) tt;
    few = short.few;
  }
