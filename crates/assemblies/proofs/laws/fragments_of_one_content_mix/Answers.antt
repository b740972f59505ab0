use Rattle.assemblies.proofs.Mixes.{none_came, more_came, places_stay, whole_came}
use Rattle.assemblies.proofs.laws.fragments_of_one_content_mix.Goals as goal

pub returns-clause-none : goal.returns-clause-none
returns-clause-none c = none_came

pub returns-clause-more : goal.returns-clause-more
returns-clause-more c = more_came

pub returns-clause-same : goal.returns-clause-same
returns-clause-same c = places_stay

pub returns-clause-whole : goal.returns-clause-whole
returns-clause-whole c = whole_came
