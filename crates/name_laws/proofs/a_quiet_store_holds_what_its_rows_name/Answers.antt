use Rattle.name_laws.proofs.Runs.{all_listed}
use Rattle.name_laws.proofs.a_quiet_store_holds_what_its_rows_name.Goals as goal

pub returns : goal.returns
returns c = λ happenings. all_listed happenings
