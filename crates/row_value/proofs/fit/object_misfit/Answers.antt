use Rattle.row_value.proofs.Wrongs.{or_surplus-within}
use Rattle.row_value.proofs.fit.object_misfit.Goals as goal

pub returns-clause-within : goal.returns-clause-within
returns-clause-within c = rw c.or_surplus.ensures (or_surplus-within c.args.columns c.len.result c.first_wrong_object.result c.first_wrong_object.ensures.within)
