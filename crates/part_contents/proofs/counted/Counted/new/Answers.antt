use Rattle.part_contents.proofs.Lacks.{nothing_came}
use Rattle.part_contents.proofs.counted.Counted.new.Goals as goal

pub invariant_of-result : goal.invariant_of-result
invariant_of-result c = rw (c.in_ok-slots.ensures, c.len-lacks.ensures) (nothing_came c.args.awaited c.requires)
