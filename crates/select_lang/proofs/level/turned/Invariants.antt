use Rattle.std.proofs.Common.{◌≡◌}
use Rattle.select_lang.specs.Formula.{formula_of, turned}
use Rattle.select_lang.proofs.level.turned.Given as goal

abbrev pub invariant-turns : goal.invariant-turns
invariant-turns l = formula_of l.made ≡ turned l._not (formula_of l.fn.test)
