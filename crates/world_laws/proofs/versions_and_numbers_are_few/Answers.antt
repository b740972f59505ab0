use Rattle.std.proofs.Common.{arith}
use Rattle.world_laws.proofs.Counts.{items_few, last_begun, plan_begun, singles_begin}
use Rattle.world_laws.proofs.versions_and_numbers_are_few.Goals as goal

pub returns : goal.returns
returns k = record {
  versions = items_few;
  numbers = last_begun;
  planned = plan_begun;
  free_version = λ run table hosted less at. let few = items_few run table hosted at in omega (arith, few, less);
  free_number = λ run c node less at. let few = last_begun run c node at in omega (arith, few, less);
  single = singles_begin;
  single_number = λ run c node single less at. let few = last_begun run c node at in let same = singles_begin run single in omega (arith, few, same, less);
}
