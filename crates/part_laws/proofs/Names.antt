-- The test of a name.
use Rattle.std.proofs.Common.{◌≡◌, true, arith}
use Rattle.std.proofs.lemmas.Bool.Decides.{nat_tests}
use Rattle.stab_base.specs.declared.chunk_name.ChunkName.{ChunkName}
use Rattle.step_tables.specs.Chunks.{same_name}

pub same_is : (a b : ChunkName) → same_name a b ≡ true → a ≡ b
same_is a b is = grind (arith, nat_tests, is)
