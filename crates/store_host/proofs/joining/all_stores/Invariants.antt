use Rattle.std.proofs.Common.{◌≡◌, ◌++◌}
use Rattle.std.specs.Map.{keys_of}
use Rattle.store_host.proofs.joining.all_stores.Given as goal

abbrev pub invariant-loop-store : goal.invariant-loop-store
invariant-loop-store l = l.numbers ++ keys_of l.store-iterator ≡ keys_of l.stores.entries
