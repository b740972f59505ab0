use Rattle.std.proofs.Common.{◌≡◌, ◌++◌, length, take}
use Rattle.std.specs.Int.{w32, to_be_bytes}
use Rattle.std.specs.List.{flat_map}
use Rattle.sync_msgs.specs.Spelling.{subscription_spelling}
use Rattle.sync_msgs.proofs.part_writer.put_subscriptions.Given as goal

abbrev pub invariant-loop-subscription : goal.invariant-loop-subscription
invariant-loop-subscription l = l.out.items ≡ l.fn.out.items ++ (to_be_bytes w32 (length l.some) ++ flat_map subscription_spelling (take l.subscription-index l.some))
