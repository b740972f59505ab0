use Rattle.part_laws.proofs.Arrived.{answer_once}
use Rattle.part_laws.proofs.answers_in_parts_are_taken_once.Goals as goal

pub returns : goal.returns
returns c = answer_once
