-- A set of nodes as a list of nodes of the laws.
use Rattle.std.specs.Prelude.{◌≡◌, Bool, List}
use Rattle.std.specs.Ordering.{nat_cmp}
use Rattle.std.specs.BTreeSet.{contains_by}
use Rattle.stab_base.specs.declared.node.Node.{Node}
use Rattle.stab_base.specs.declared.node.Node.TheVariants as nodes
use Rattle.world_tables.specs.World.{has_node}
use Rattle.node_steps.specs.declared.nodes.NodeSet.{NodeSet}

abbrev pub is_in : NodeSet → Node → Bool
is_in set (nodes.Store number) = contains_by (nat_cmp number) set.stores
is_in set (nodes.Gate number) = contains_by (nat_cmp number) set.gates
is_in set (nodes.Client number) = contains_by (nat_cmp number) set.clients

-- the nodes of the list, and no others
abbrev pub HasNodes : List Node → NodeSet → Type 0
HasNodes some set = (node : Node) → is_in set node ≡ has_node some node
