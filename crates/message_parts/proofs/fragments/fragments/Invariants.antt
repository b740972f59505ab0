use Rattle.std.proofs.Common.{◌≡◌, ◌++◌, drop, map}
use Rattle.message_parts.specs.Fragments.{sent_at}
use Rattle.message_parts.proofs.fragments.fragments.Given as goal

abbrev pub invariant-loop-it : goal.invariant-loop-it
invariant-loop-it l =
    l.made.items ++ map (λ it. sent_at l.chunk l.way l.content it) (drop l.it-index l.awaited)
    ≡ map (λ it. sent_at l.chunk l.way l.content it) l.awaited
