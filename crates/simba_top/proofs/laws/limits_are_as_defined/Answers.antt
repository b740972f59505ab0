use Rattle.simba_top.proofs.Bare.{escaped_are}
use Rattle.simba_top.proofs.laws.limits_are_as_defined.Goals as goal

pub returns-clause-escaped : goal.returns-clause-escaped
returns-clause-escaped c = escaped_are
