use Rattle.std.proofs.Common.{ℕ, List, Bool, None, ◌∙◌, ap, rules}
use Rattle.std.specs.Prelude.{if◌then◌else◌}
use Rattle.std.specs.BTreeMap as tree
use Rattle.std.specs.BTreeMap.{is_at}
use Rattle.std.specs.Map.{lookup}
use Rattle.std.specs.Ordering.{nat_cmp}
use Rattle.std.proofs.lemmas.Map.Made.{filter_same_pairs}
use Rattle.part_store.specs.declared.gatherings.Gatherings.{Gatherings}
use Rattle.world_tables.specs.World.{hosted_at}
use Rattle.wire_laws.proofs.Places.{lookup_some}
use Rattle.store_host.specs.Holds.{is_up_there}
use Rattle.wire_steps.proofs.Started.{up_is}
use Rattle.wire_steps.proofs.start.keep_up.Goals as goal

pub returns : goal.returns
returns g c w h table =
    ap (λ (es : List (ℕ × Gatherings)). lookup (is_at (nat_cmp table)) es)
    (filter_same_pairs _ (λ (e : ℕ × Gatherings). is_up_there (hosted_at w e.0)) _ (λ k v b x f t. search rules) _ _ c.retain.ensures.filtered)
    ∙ (lookup_some (λ (t : ℕ). is_up_there (hosted_at w t)) table c.args.gathered.now.entries
    ∙ ap (λ (b : Bool). if b then tree.get nat_cmp c.args.gathered.now table else None) (up_is (hosted_at w table)))
