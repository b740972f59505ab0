use Rattle.std.proofs.Common.{◌≡◌, map, drop}
use Rattle.store_node.specs.Due.{fact_of}
use Rattle.world_tables.specs.World.{history_on}
use Rattle.store_host.proofs.hosted.keep_all.Given as goal

abbrev pub invariant-loop-fact : goal.invariant-loop-fact
invariant-loop-fact l = history_on l.history (map fact_of (drop l.fact-index l.facts)) ≡ history_on l.fn.history (map fact_of l.facts)
