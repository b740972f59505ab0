use Rattle.part_laws.proofs.Completed.{once}
use Rattle.part_laws.proofs.requests_in_parts_are_taken_once.Goals as goal

pub returns : goal.returns
returns c = λ g size items sent gs q fragments some names are was all. once g size some items names sent are q was gs fragments all
