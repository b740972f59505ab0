use Rattle.std.proofs.Common.{◌≡◌, ◌++◌, map}
use Rattle.journal_host.specs.Holds.{disks_at}
use Rattle.journal_host.proofs.host.ClientHost.into_disks.Given as goal

abbrev pub invariant-loop-client : goal.invariant-loop-client
invariant-loop-client g l = l.disks ++ map disks_at l.client-iterator ≡ map disks_at l.fn.self.clients.entries
