use Rattle.std.proofs.Common.{◌≡◌, ◌++◌, map}
use Rattle.client_tables.specs.Drops.{name_of}
use Rattle.client_tables.proofs.drops.listed.Given as goal

abbrev pub invariant-loop-plan : goal.invariant-loop-plan
invariant-loop-plan l = l.listed ++ map name_of l.plan-iterator ≡ map name_of l.names.keys
