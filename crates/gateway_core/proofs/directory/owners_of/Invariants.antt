use Rattle.std.proofs.Common.{◌≡◌}
use Rattle.std.specs.Prelude.{fold}
use Rattle.gateway_core.specs.Directories.{with_owner, owners_of}
use Rattle.gateway_core.proofs.directory.owners_of.Given as goal

abbrev pub invariant-loop-place : goal.invariant-loop-place
invariant-loop-place l = fold with_owner l.owners.keys l.place-iterator ≡ owners_of l.places.entries
