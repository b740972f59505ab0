use Rattle.part_laws.proofs.Clients.{waits_still, comes_whole, answers_still, more_sent}
use Rattle.part_laws.proofs.parts_at_a_client.Goals as goal

pub returns-clause-none : goal.returns-clause-none
returns-clause-none c = λ size sent. tt

pub returns-clause-waits : goal.returns-clause-waits
returns-clause-waits c = λ size items sent opened xs p are is_open all is. waits_still size items sent are opened xs all p is_open is

pub returns-clause-whole : goal.returns-clause-whole
returns-clause-whole c = λ size items sent opened xs p m are is_open all is e. comes_whole size items sent are opened xs all p is_open is m e

pub returns-clause-items : goal.returns-clause-items
returns-clause-items c = λ size items more sent to are. answers_still size items more sent to are

pub returns-clause-sent : goal.returns-clause-sent
returns-clause-sent c = λ size sent others xs to all. more_sent size sent others to xs all
