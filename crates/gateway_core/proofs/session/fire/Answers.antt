use Rattle.std.proofs.Common.{rules}
use Rattle.std.proofs.lemmas.Map.Made.{map_same_pairs}
use Rattle.gate_tables.specs.Timers.{as_fired}
use Rattle.gateway_core.proofs.session.fire.Goals as goal

pub returns : goal.returns
returns c = map_same_pairs _ as_fired _ (λ k v b w f' t. search rules) _ _ c.retain.ensures.filtered
