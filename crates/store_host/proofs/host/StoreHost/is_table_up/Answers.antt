use Rattle.std.proofs.Common.{◌≡◌, Option, Some, None, List, sym, ◌∙◌, ap}
use Rattle.std.specs.Prelude.{is_some}
use Rattle.disk_trait.specs.Calls.{DiskState}
use Rattle.step_tables.specs.StoreMoves.{StoreDisk, StoreTask}
use Rattle.store_node.specs.declared.node.TableNode.{TableNode}
use Rattle.store_node.specs.Node.{IsTable}
use Rattle.store_host.specs.Holds.{is_up_there}
use Rattle.store_host.proofs.Maps.{found, not_found}
use Rattle.store_host.proofs.host.StoreHost.is_table_up.Goals as goal

up_is : {D : Type 0} (state : D → DiskState) (node : TableNode D) (disk : StoreDisk) (agenda : Option (List StoreTask)) → IsTable state node (record { disk = disk; agenda = agenda }) → node.is_up ≡ is_some agenda
up_is state node disk None t = t.at.0
up_is state node disk (Some tasks) t = t.at.0

pub returns-in-Some : goal.returns-in-Some
returns-in-Some g c w h =
    let f = found g.D.Disk.state w c.args.self.now.tables c.args.table c.in-Some.hosted.now h.tables c.in-Some.ensures.value in
    c.is_up.ensures ∙ (up_is g.D.Disk.state c.in-Some.hosted.now.node f.0.store.disk f.0.store.agenda f.2.node ∙ ap is_up_there (sym f.1))

pub returns-in-None : goal.returns-in-None
returns-in-None g c w h = sym (ap is_up_there (not_found g.D.Disk.state w c.args.self.now.tables c.args.table h.tables c.in-None.ensures.value))
