use Rattle.std.proofs.Common.{◌≡◌, drop}
use Rattle.gate_tables.specs.Gate.{restored}
use Rattle.gateway_core.proofs.session.Session.restored.Given as goal

abbrev pub invariant-loop-kept : goal.invariant-loop-kept
invariant-loop-kept l = restored (drop l.kept-index l.some) l.made ≡ restored l.some l.self
