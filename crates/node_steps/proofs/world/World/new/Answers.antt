use Rattle.std.proofs.Common.{ℕ, List, refl, ap}
use Rattle.std.specs.Ordering.{nat_cmp}
use Rattle.std.specs.Map.{lookup}
use Rattle.std.specs.BTreeMap.{is_at}
use Rattle.row_value.specs.declared.schema.Schema.{Schema}
use Rattle.world_tables.specs.World.{start}
use Rattle.node_steps.proofs.Starting.{start_numbered}
use Rattle.node_steps.proofs.world.World.new.Goals as goal

pub returns-clause-held : goal.returns-clause-held
returns-clause-held g c = record {
  schemas = λ table. ap (λ (es : List (ℕ × Schema)). lookup (is_at (nat_cmp table)) es) c.new.ensures.empty;
  store = c.new-2.ensures.held start refl refl refl;
  clients = c.new-3.ensures.held start refl refl refl;
  store_told = c.new-2.ensures.told;
  clients_told = c.new-3.ensures.told;
  held = c.new-4.ensures;
  numbered = start_numbered;
}
