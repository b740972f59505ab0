use Rattle.assemblies.proofs.Mixes.{parts_came}
use Rattle.assemblies.proofs.laws.chunks_of_fragments_are_the_parts.Goals as goal

pub returns : goal.returns
returns c = λ sends size content whole. parts_came size whole sends content
