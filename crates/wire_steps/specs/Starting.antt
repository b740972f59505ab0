-- What is in memory of a node that is started: nothing, but the rows that a client tells as torn. What a table has that
-- is up while its Store is down stays, and all that tables have is lost where a Store joins.
use Rattle.std.specs.Prelude.{◌≡◌, ℕ, false, cond, List, map, Option, Some, None, if◌then◌else◌}
use Rattle.std.specs.List.{flat_map}
use Rattle.std.specs.Ordering.{nat_cmp}
use Rattle.std.specs.BTreeMap as tree
use Rattle.std.specs.BTreeMap.{is_at}
use Rattle.stab_base.specs.declared.node.Node.{Node}
use Rattle.stab_base.specs.declared.node.Node.TheVariants as nodes
use Rattle.world_tables.specs.World.{World as AWorld, hosted_at, is_down}
use Rattle.table_model.specs.declared.event.Event.{Event}
use Rattle.table_model.specs.declared.event.Event.TheVariants as events
use Rattle.table_model.specs.declared.line.Fact.{Fact}
use Rattle.step_tables.specs.Lines.{fact_of}
use Rattle.part_tables.specs.Arriving.{Arriving as Arrivals, nothing_arriving}
use Rattle.part_client.specs.Keeping.{Keeps}
use Rattle.part_client.specs.declared.arriving.Arriving.{Arriving}
use Rattle.wire_tables.specs.Wire.{noting, torn_by_fact, torn_told, is_hosted_up}
use Rattle.node_steps.specs.declared.told.Outs.{Outs}
use Rattle.wire_steps.specs.declared.world.World.{World}
use Rattle.wire_steps.specs.Sending.{outs_of}

-- the torn rows that some facts tell
abbrev pub noted_in : List Fact → Arrivals → Arrivals
noted_in facts a = noting (flat_map torn_by_fact (map fact_of facts)) a

-- where it is down
abbrev pub if_down : AWorld → Option Node → Option Node
if_down w None = None
if_down w (Some node) = if is_down w node then Some node else None

-- tables that are down have gathered nothing
abbrev pub HasForgotten : {D : Type 0} → AWorld → World D → Type 0
HasForgotten w world =
    (table : ℕ) → is_hosted_up (hosted_at w table) ≡ false → tree.get nat_cmp world.gathered table ≡ None

-- where a Store is to be started
abbrev pub Forgets : {D : Type 0} → Option Node → AWorld → World D → Type 0
Forgets (Some (nodes.Store number)) w world = HasForgotten w world
Forgets other w world = Unit {0}

-- the client keeps the rows that it told as torn
pub record NotesTorn {D : Type 0} (c : ℕ) (outs : Outs) (old new : World D) : Type 0 where
  pub it : Arriving
  pub at : (q : ℕ) → tree.get nat_cmp new.arriving q
      ≡ cond (is_at (nat_cmp c) q) (Some it) (tree.get nat_cmp old.arriving q)
  pub keeps : (owners : ℕ → ℕ) → Keeps it (noting (torn_told (outs_of owners outs)) nothing_arriving)
  pub rest : new ≡ record old { arriving = new.arriving }

abbrev pub NotesOf : {D : Type 0} → Option Node → Outs → (old new : World D) → Type 0
NotesOf (Some (nodes.Client c)) outs old new = NotesTorn c outs old new
NotesOf other outs old new = new ≡ old

-- no table has gathered anything
pub record HasLostAll {D : Type 0} (old new : World D) : Type 0 where
  pub none : (table : ℕ) → tree.get nat_cmp new.gathered table ≡ None
  pub rest : new ≡ record old { gathered = new.gathered }

-- where a Store joins, and where this node is started
abbrev pub Notes : {D : Type 0} → Event → Option Node → Outs → (old new : World D) → Type 0
Notes (events.Store number) started outs old new = HasLostAll old new
Notes other started outs old new = NotesOf started outs old new
