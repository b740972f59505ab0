use Rattle.assemblies.proofs.Lengths.{lens_of}
use Rattle.assemblies.proofs.laws.parts_have_their_lengths.Goals as goal

pub returns : goal.returns
returns c = lens_of
