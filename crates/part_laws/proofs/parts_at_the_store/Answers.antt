use Rattle.part_laws.proofs.Stores.{gathers_still, comes_whole, sent_still, more_sent}
use Rattle.part_laws.proofs.parts_at_the_store.Goals as goal

pub returns-clause-none : goal.returns-clause-none
returns-clause-none c = λ size sent. tt

pub returns-clause-gathers : goal.returns-clause-gathers
returns-clause-gathers c = λ g size items sent gs p some names are all is. gathers_still g size some items names sent are gs all p is

pub returns-clause-whole : goal.returns-clause-whole
returns-clause-whole c = λ g size items sent gs p m some names are all is e. comes_whole g size some items names sent are gs all p is m e

pub returns-clause-items : goal.returns-clause-items
returns-clause-items c = sent_still

pub returns-clause-sent : goal.returns-clause-sent
returns-clause-sent c = λ size sent others gs to all. more_sent size sent others to gs all
