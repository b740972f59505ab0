use Rattle.device_laws.proofs.Small.{not_too_many, not_too_few, not_older, not_without_last}
use Rattle.device_laws.proofs.devices_that_do_not_stand.Goals as goal

pub returns-clause-too_many : goal.returns-clause-too_many
returns-clause-too_many c = not_too_many

pub returns-clause-too_few : goal.returns-clause-too_few
returns-clause-too_few c = not_too_few

pub returns-clause-older : goal.returns-clause-older
returns-clause-older c = not_older

pub returns-clause-without_last : goal.returns-clause-without_last
returns-clause-without_last c = not_without_last
