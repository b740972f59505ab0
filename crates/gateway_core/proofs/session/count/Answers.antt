use Rattle.std.proofs.Common.{rules}
use Rattle.std.proofs.lemmas.Map.Made.{map_same_pairs}
use Rattle.gate_tables.specs.Timers.{as_counted}
use Rattle.gateway_core.proofs.session.count.Goals as goal

pub returns : goal.returns
returns c = map_same_pairs _ as_counted _ (λ k v b w f' t. search rules) _ _ c.retain.ensures.filtered
