use Rattle.std.proofs.Common.{◌≡◌, take}
use Rattle.client_tables.specs.Names.{fresh_from}
use Rattle.client_tables.proofs.names.all_fresh.Given as goal

abbrev pub invariant-loop-piece : goal.invariant-loop-piece
invariant-loop-piece l = (l.ordinal ≡ l._piece-index) × (l.fresh ≡ fresh_from 0 (take l._piece-index l.pieces))
