use Rattle.std.proofs.Common.{rules}
use Rattle.std.proofs.lemmas.Map.Made.{map_same_pairs}
use Rattle.store_host.specs.Joining.{moved_on}
use Rattle.store_host.proofs.joining.settle_all.Goals as goal

pub returns : goal.returns
returns g c stores is = map_same_pairs _ (moved_on stores) _ (λ k v b w f' t. search rules) _ _ c.retain.ensures.filtered
