use Rattle.std.proofs.Common.{◌≡◌, ℕ, subst, Some, cond, arith}
use Rattle.std.specs.Ordering.{nat_cmp}
use Rattle.std.specs.BTreeMap as tree
use Rattle.std.specs.BTreeMap.{is_at}
use Rattle.row_value.specs.declared.schema.Schema.{Schema}
use Rattle.step_tables.specs.Messages.{Luck}
use Rattle.world_tables.specs.World.{made_with}
use Rattle.store_host.specs.Holds.{HoldsStore}
use Rattle.world_tables.specs.Faults.{is_failure}
use Rattle.node_steps.specs.Faults.{IsCounted}
use Rattle.node_steps.proofs.Declared.{made_ok, not_there, not_out}
use Rattle.world_tables.specs.Passed.{first_part}
use Rattle.store_host.proofs.Lefts.{still_left}
use Rattle.node_steps.proofs.Rows.{over_first, stay_over}
use Rattle.node_steps.proofs.world.World.add_table.Goals as goal

pub hand_out_three-requires-clause-small : goal.hand_out_three-requires-clause-small
hand_out_three-requires-clause-small g c =
    let k = c.requires.made.most in omega (arith, k)

pub hand_out_three-requires-clause-free : goal.hand_out_three-requires-clause-free
hand_out_three-requires-clause-free g c =
    let k = c.requires.held in
    not_out g.D.Disk.state k.0 c.args.table c.args.self.now k.1 (g.P.Depot.state c.args.depot.now).is_out k.2 c.requires.absent c.requires.made.least c.requires.made.most

pub returns-clause-done : goal.returns-clause-done
returns-clause-done g c w event declares reached h out =
    let new = record c.args.self.now { schemas = c.insert.new.self; store = c.add.new.stores } in
    made_ok g.D.Disk.state g.D.Disk.images w event c.args.table c.args.schema.now c.args.state declares c.silent.result c.silent.ensures (g.P.Depot.state c.args.depot.now).is_out
    (g.P.Depot.state c.hand_out_three.new.depot).is_out c.args.self.now c.insert.new.self
    c.add.new.stores h out (not_there g.D.Disk.state w c.args.table c.args.self.now h c.requires.absent) (c.requires.made.least, c.requires.made.most)
    (subst (λ (s : Schema). (q : ℕ) → tree.get nat_cmp c.insert.new.self q ≡ cond (is_at (nat_cmp c.args.table) q) (Some s) (tree.get nat_cmp c.args.self.now.schemas q)) c.in_ok-known.ensures
    c.in_ok-insert.ensures.updates.0) c.in_ok-disks.ensures.out
    (subst (λ (s : Schema). (luck : Luck) × HoldsStore g.D.Disk.state (made_with w c.args.table s c.args.state luck) c.add.new.stores
    × IsCounted g.D.Disk.state (is_failure luck) c.args.self.now.store.tables c.add.new.stores.tables) c.in_ok-own.ensures (c.in_ok-add.ensures.added w h.store))
    c.in_ok-add.ensures.outs
    (λ lucks. stay_over g.D.Disk.state g.D.Disk.images w reached event lucks c.args.self.now new
    (over_first g.D.Disk.state g.D.Disk.images w (first_part w event lucks) c.args.self.now.store.tables c.add.new.stores.tables
    (still_left g.D.Disk.state g.D.Disk.images w c.args.self.now.store.tables c.add.new.stores.tables (c.in_ok-add.ensures.rows w h.store))))
