use Rattle.std.proofs.Common.{◌≡◌, Bool}
use Rattle.stab_base.specs.declared.node.Node.TheVariants as nodes
use Rattle.step_tables.specs.Travels.{message_of}
use Rattle.journal_host.specs.Calls.{has_table}
use Rattle.world_tables.specs.World.{client_at}
use Rattle.node_steps.proofs.Found.{ready_up}
use Rattle.wire_steps.specs.Calls.{SpendsAny}
use Rattle.wire_steps.proofs.Answered.{send_limited, limited_later, plans_stay, plans_later}
use Rattle.wire_steps.proofs.Coming.{opened_seen, told_of, opened_then, unopened_then, opening_lost, still_goes, still_ends, client_tells, client_comes, client_ends, idle_carry, idle_comes, idle_ends}
use Rattle.wire_steps.proofs.world.World.bring_to_ready.Goals as goal

pub has_opened-requires : goal.has_opened-requires
has_opened-requires g c =
    let x = c.requires.brought in record { held = (x.brought.v.world, x.brought.held.nodes, ready_up x.brought.v.world c.args.client x.ready) }

pub returns-in_err-has_opened-clause-plans : goal.returns-in_err-has_opened-clause-plans
returns-in_err-has_opened-clause-plans g c n below =
    plans_later g.D.Disk.state _ c.has_opened.new.self (plans_later g.D.Disk.state _ c.has_opened.new.self (c.in_err-has_opened.ensures.plans n below))

pub bring_to_opened-requires : goal.bring_to_opened-requires
bring_to_opened-requires g c =
    let x = c.requires.brought in
    let read = (rw c.in-Found-true.is at (c.in_ok-has_opened.ensures.read x.brought.v.world x.brought.held.nodes)) in
    record { brought = (record { of_client = told_of g.D.Disk.state g.D.Disk.images g.met.D.Disk.only_now c.args.self.now c.args.client c.args.from c.args.table c.args.part x c.has_opened.new.self c.in_ok-has_opened.ensures.store c.in-Found-true.field-0 read; opened = opened_then g.D.Disk.state g.D.Disk.images g.met.D.Disk.only_now c.args.self.now c.args.client c.args.from c.args.table c.args.part x c.has_opened.new.self c.in_ok-has_opened.ensures.store c.in-Found-true.field-0 read c.in-Found-true.field-0-test }) }

pub bring-requires : goal.bring-requires
bring-requires g c =
    let x = c.requires.brought in
    let read = (rw c.in-Found-false.is at (c.in_ok-has_opened.ensures.read x.brought.v.world x.brought.held.nodes)) in
    let it = told_of g.D.Disk.state g.D.Disk.images g.met.D.Disk.only_now c.args.self.now c.args.client c.args.from c.args.table c.args.part x c.has_opened.new.self c.in_ok-has_opened.ensures.store c.in-Found-false.field-0 read in
    record { carried = idle_carry g.D.Disk.state (record c.args.self.now { nodes = c.has_opened.new.self }) c.args.from (nodes.Client c.args.client) c.args.part it.brought c.args.table it.table_is (message_of c.any_of.result) c.any_of.ensures (unopened_then g.D.Disk.state g.D.Disk.images g.met.D.Disk.only_now c.args.self.now c.args.client c.args.from c.args.table c.args.part x c.has_opened.new.self c.in_ok-has_opened.ensures.store c.in-Found-false.field-0 read c.in-Found-false.field-0-test) }

pub tell-requires : goal.tell-requires
tell-requires g c =
    let x = c.requires.brought in
    record { told = client_tells g.D.Disk.state g.D.Disk.images c.args.self.now (record c.args.self.now { nodes = c.has_opened.new.self }) c.args.client c.args.from c.args.table c.args.part x c.in-Fallen.told (opening_lost g.D.Disk.state g.D.Disk.images g.met.D.Disk.only_now c.args.self.now c.args.client c.args.from c.args.table c.args.part x c.has_opened.new.self c.in_ok-has_opened.ensures.store c.in-Fallen.told (rw c.in-Fallen.is at (c.in_ok-has_opened.ensures.read x.brought.v.world x.brought.held.nodes))) }

pub returns-in-Found-true-clause-done : goal.returns-in-Found-true-clause-done
returns-in-Found-true-clause-done g c x =
    let read = (rw c.in-Found-true.is at (c.in_ok-has_opened.ensures.read x.brought.v.world x.brought.held.nodes)) in
    still_goes g.D.Disk.state g.D.Disk.images c.args.self.now (record c.args.self.now { nodes = c.has_opened.new.self }) c.args.client c.args.from c.args.table c.args.part x (λ (f : Bool). f ≡ has_table (client_at x.brought.v.world c.args.client) c.args.table) c.in-Found-true.field-0 (opened_seen g.D.Disk.state g.D.Disk.images g.met.D.Disk.only_now c.args.self.now c.args.client c.args.from c.args.table c.args.part x c.has_opened.new.self c.in_ok-has_opened.ensures.store c.in-Found-true.field-0 read) c.bring_to_opened.new.self c.bring_to_opened.result
    (c.bring_to_opened.ensures.done (record { of_client = told_of g.D.Disk.state g.D.Disk.images g.met.D.Disk.only_now c.args.self.now c.args.client c.args.from c.args.table c.args.part x c.has_opened.new.self c.in_ok-has_opened.ensures.store c.in-Found-true.field-0 read; opened = opened_then g.D.Disk.state g.D.Disk.images g.met.D.Disk.only_now c.args.self.now c.args.client c.args.from c.args.table c.args.part x c.has_opened.new.self c.in_ok-has_opened.ensures.store c.in-Found-true.field-0 read c.in-Found-true.field-0-test }))

pub returns-in-Found-true-clause-ends : goal.returns-in-Found-true-clause-ends
returns-in-Found-true-clause-ends g c x =
    let read = (rw c.in-Found-true.is at (c.in_ok-has_opened.ensures.read x.brought.v.world x.brought.held.nodes)) in
    still_ends g.D.Disk.state g.D.Disk.images c.args.self.now (record c.args.self.now { nodes = c.has_opened.new.self }) c.args.client c.args.from c.args.table c.args.part x (λ (f : Bool). f ≡ has_table (client_at x.brought.v.world c.args.client) c.args.table) c.in-Found-true.field-0 (opened_seen g.D.Disk.state g.D.Disk.images g.met.D.Disk.only_now c.args.self.now c.args.client c.args.from c.args.table c.args.part x c.has_opened.new.self c.in_ok-has_opened.ensures.store c.in-Found-true.field-0 read) c.bring_to_opened.new.self c.bring_to_opened.result
    (c.bring_to_opened.ensures.ends (record { of_client = told_of g.D.Disk.state g.D.Disk.images g.met.D.Disk.only_now c.args.self.now c.args.client c.args.from c.args.table c.args.part x c.has_opened.new.self c.in_ok-has_opened.ensures.store c.in-Found-true.field-0 read; opened = opened_then g.D.Disk.state g.D.Disk.images g.met.D.Disk.only_now c.args.self.now c.args.client c.args.from c.args.table c.args.part x c.has_opened.new.self c.in_ok-has_opened.ensures.store c.in-Found-true.field-0 read c.in-Found-true.field-0-test }))

pub returns-in-Found-true-clause-limit : goal.returns-in-Found-true-clause-limit
returns-in-Found-true-clause-limit g c x n below =
    let read = (rw c.in-Found-true.is at (c.in_ok-has_opened.ensures.read x.brought.v.world x.brought.held.nodes)) in
    c.bring_to_opened.ensures.limit (record { of_client = told_of g.D.Disk.state g.D.Disk.images g.met.D.Disk.only_now c.args.self.now c.args.client c.args.from c.args.table c.args.part x c.has_opened.new.self c.in_ok-has_opened.ensures.store c.in-Found-true.field-0 read; opened = opened_then g.D.Disk.state g.D.Disk.images g.met.D.Disk.only_now c.args.self.now c.args.client c.args.from c.args.table c.args.part x c.has_opened.new.self c.in_ok-has_opened.ensures.store c.in-Found-true.field-0 read c.in-Found-true.field-0-test }) _ (c.in_ok-has_opened.ensures.plans n below)

pub returns-in-Found-true-clause-plans : goal.returns-in-Found-true-clause-plans
returns-in-Found-true-clause-plans g c n below = c.bring_to_opened.ensures.plans _ (c.in_ok-has_opened.ensures.plans n below)

pub returns-in-Found-false-clause-done : goal.returns-in-Found-false-clause-done
returns-in-Found-false-clause-done g c x =
    let read = (rw c.in-Found-false.is at (c.in_ok-has_opened.ensures.read x.brought.v.world x.brought.held.nodes)) in
    let it = told_of g.D.Disk.state g.D.Disk.images g.met.D.Disk.only_now c.args.self.now c.args.client c.args.from c.args.table c.args.part x c.has_opened.new.self c.in_ok-has_opened.ensures.store c.in-Found-false.field-0 read in
    still_goes g.D.Disk.state g.D.Disk.images c.args.self.now (record c.args.self.now { nodes = c.has_opened.new.self }) c.args.client c.args.from c.args.table c.args.part x (λ (f : Bool). f ≡ has_table (client_at x.brought.v.world c.args.client) c.args.table) c.in-Found-false.field-0 (opened_seen g.D.Disk.state g.D.Disk.images g.met.D.Disk.only_now c.args.self.now c.args.client c.args.from c.args.table c.args.part x c.has_opened.new.self c.in_ok-has_opened.ensures.store c.in-Found-false.field-0 read) c.bring.new.self c.bring.result
    (idle_comes g.D.Disk.state (record c.args.self.now { nodes = c.has_opened.new.self }) c.args.from (nodes.Client c.args.client) c.args.part it.brought c.args.table it.table_is (message_of c.any_of.result) c.any_of.ensures (unopened_then g.D.Disk.state g.D.Disk.images g.met.D.Disk.only_now c.args.self.now c.args.client c.args.from c.args.table c.args.part x c.has_opened.new.self c.in_ok-has_opened.ensures.store c.in-Found-false.field-0 read c.in-Found-false.field-0-test) g.D.Disk.images c.bring.new.self c.bring.result
    (c.bring.ensures.done (idle_carry g.D.Disk.state (record c.args.self.now { nodes = c.has_opened.new.self }) c.args.from (nodes.Client c.args.client) c.args.part it.brought c.args.table it.table_is (message_of c.any_of.result) c.any_of.ensures (unopened_then g.D.Disk.state g.D.Disk.images g.met.D.Disk.only_now c.args.self.now c.args.client c.args.from c.args.table c.args.part x c.has_opened.new.self c.in_ok-has_opened.ensures.store c.in-Found-false.field-0 read c.in-Found-false.field-0-test))))

pub returns-in-Found-false-clause-ends : goal.returns-in-Found-false-clause-ends
returns-in-Found-false-clause-ends g c x =
    let read = (rw c.in-Found-false.is at (c.in_ok-has_opened.ensures.read x.brought.v.world x.brought.held.nodes)) in
    let it = told_of g.D.Disk.state g.D.Disk.images g.met.D.Disk.only_now c.args.self.now c.args.client c.args.from c.args.table c.args.part x c.has_opened.new.self c.in_ok-has_opened.ensures.store c.in-Found-false.field-0 read in
    still_ends g.D.Disk.state g.D.Disk.images c.args.self.now (record c.args.self.now { nodes = c.has_opened.new.self }) c.args.client c.args.from c.args.table c.args.part x (λ (f : Bool). f ≡ has_table (client_at x.brought.v.world c.args.client) c.args.table) c.in-Found-false.field-0 (opened_seen g.D.Disk.state g.D.Disk.images g.met.D.Disk.only_now c.args.self.now c.args.client c.args.from c.args.table c.args.part x c.has_opened.new.self c.in_ok-has_opened.ensures.store c.in-Found-false.field-0 read) c.bring.new.self c.bring.result
    (idle_ends g.D.Disk.state (record c.args.self.now { nodes = c.has_opened.new.self }) c.args.from (nodes.Client c.args.client) c.args.part it.brought c.args.table it.table_is (message_of c.any_of.result) c.any_of.ensures (unopened_then g.D.Disk.state g.D.Disk.images g.met.D.Disk.only_now c.args.self.now c.args.client c.args.from c.args.table c.args.part x c.has_opened.new.self c.in_ok-has_opened.ensures.store c.in-Found-false.field-0 read c.in-Found-false.field-0-test) g.D.Disk.images c.bring.new.self c.bring.result
    (c.bring.ensures.ends (idle_carry g.D.Disk.state (record c.args.self.now { nodes = c.has_opened.new.self }) c.args.from (nodes.Client c.args.client) c.args.part it.brought c.args.table it.table_is (message_of c.any_of.result) c.any_of.ensures (unopened_then g.D.Disk.state g.D.Disk.images g.met.D.Disk.only_now c.args.self.now c.args.client c.args.from c.args.table c.args.part x c.has_opened.new.self c.in_ok-has_opened.ensures.store c.in-Found-false.field-0 read c.in-Found-false.field-0-test))))

pub returns-in-Found-false-clause-limit : goal.returns-in-Found-false-clause-limit
returns-in-Found-false-clause-limit g c x n below =
    let read = (rw c.in-Found-false.is at (c.in_ok-has_opened.ensures.read x.brought.v.world x.brought.held.nodes)) in
    let it = told_of g.D.Disk.state g.D.Disk.images g.met.D.Disk.only_now c.args.self.now c.args.client c.args.from c.args.table c.args.part x c.has_opened.new.self c.in_ok-has_opened.ensures.store c.in-Found-false.field-0 read in
    limited_later _ x.brought.v.world c.bring.result (c.bring.ensures.limit (idle_carry g.D.Disk.state (record c.args.self.now { nodes = c.has_opened.new.self }) c.args.from (nodes.Client c.args.client) c.args.part it.brought c.args.table it.table_is (message_of c.any_of.result) c.any_of.ensures (unopened_then g.D.Disk.state g.D.Disk.images g.met.D.Disk.only_now c.args.self.now c.args.client c.args.from c.args.table c.args.part x c.has_opened.new.self c.in_ok-has_opened.ensures.store c.in-Found-false.field-0 read c.in-Found-false.field-0-test)) _ (c.in_ok-has_opened.ensures.plans n below))

pub returns-in-Found-false-clause-plans : goal.returns-in-Found-false-clause-plans
returns-in-Found-false-clause-plans g c n below = plans_later g.D.Disk.state _ c.bring.new.self.nodes (c.bring.ensures.plans _ (c.in_ok-has_opened.ensures.plans n below))

pub returns-in-Fallen-clause-done : goal.returns-in-Fallen-clause-done
returns-in-Fallen-clause-done g c x =
    let lost = (opening_lost g.D.Disk.state g.D.Disk.images g.met.D.Disk.only_now c.args.self.now c.args.client c.args.from c.args.table c.args.part x c.has_opened.new.self c.in_ok-has_opened.ensures.store c.in-Fallen.told (rw c.in-Fallen.is at (c.in_ok-has_opened.ensures.read x.brought.v.world x.brought.held.nodes))) in
    client_comes g.D.Disk.state g.D.Disk.images c.args.self.now (record c.args.self.now { nodes = c.has_opened.new.self }) c.args.client c.args.from c.args.table c.args.part x c.in-Fallen.told lost c.tell.new.self c.tell.ensures.nodes c.tell.result (c.tell.ensures.told (client_tells g.D.Disk.state g.D.Disk.images c.args.self.now (record c.args.self.now { nodes = c.has_opened.new.self }) c.args.client c.args.from c.args.table c.args.part x c.in-Fallen.told lost))

pub returns-in-Fallen-clause-ends : goal.returns-in-Fallen-clause-ends
returns-in-Fallen-clause-ends g c x =
    let lost = (opening_lost g.D.Disk.state g.D.Disk.images g.met.D.Disk.only_now c.args.self.now c.args.client c.args.from c.args.table c.args.part x c.has_opened.new.self c.in_ok-has_opened.ensures.store c.in-Fallen.told (rw c.in-Fallen.is at (c.in_ok-has_opened.ensures.read x.brought.v.world x.brought.held.nodes))) in
    client_ends g.D.Disk.state g.D.Disk.images c.args.self.now (record c.args.self.now { nodes = c.has_opened.new.self }) c.args.client c.args.from c.args.table c.args.part x c.in-Fallen.told lost c.tell.new.self c.tell.ensures.nodes c.tell.result (c.tell.ensures.over (client_tells g.D.Disk.state g.D.Disk.images c.args.self.now (record c.args.self.now { nodes = c.has_opened.new.self }) c.args.client c.args.from c.args.table c.args.part x c.in-Fallen.told lost)) c.tell.ensures.only

pub returns-in-Fallen-clause-limit : goal.returns-in-Fallen-clause-limit
returns-in-Fallen-clause-limit g c x n below = send_limited (SpendsAny _ x.brought.v.world) c.tell.result c.tell.ensures.only

pub returns-in-Fallen-clause-plans : goal.returns-in-Fallen-clause-plans
returns-in-Fallen-clause-plans g c n below =
    plans_stay g.D.Disk.state _ c.has_opened.new.self c.tell.new.self.nodes c.tell.ensures.nodes
    (plans_later g.D.Disk.state _ c.has_opened.new.self (plans_later g.D.Disk.state _ c.has_opened.new.self (c.in_ok-has_opened.ensures.plans n below)))
