use Rattle.std.proofs.Common.{None, Some, Ok, Err, [], refl, ap, ◌∙◌}
use Rattle.client_node.specs.declared.fault.CallFault.{CallFault}
use Rattle.step_tables.specs.Messages as messages
use Rattle.world_tables.specs.World.{open_all}
use Rattle.client_node.specs.Node.{opened_all, to_open, IsToOpen}
use Rattle.std.specs.List.{AllByRecursion}
use Rattle.std.proofs.Common.{◌≡◌, ℕ, List, sym, subst}
use Rattle.row_value.specs.declared.schema.Schema.{Schema}
use Rattle.journal_host.proofs.Ends.{all_to_open, opens_all, joins}
use Rattle.journal_host.proofs.Phased.{same_open, down_closed}
use Rattle.journal_host.proofs.opening.joining.Goals as goal

pub new-node-requires : goal.new-node-requires
new-node-requires g c = subst (λ (l : List (ℕ × Schema)). AllByRecursion IsToOpen l) (sym c.in_ok-found.ensures.found) (all_to_open c.args.schemas.now c.requires c.args.tables.now)

pub declare-requires : goal.declare-requires
declare-requires g c = record { node = (_, c.new-node.ensures.at); undeclared = c.new-node.ensures.declared }

pub returns-in-Ok-clause-joined : goal.returns-in-Ok-clause-joined
returns-in-Ok-clause-joined g c w has =
    let k = c.in-Ok.ensures.declares (record { disk = to_open c.in_ok-found.found.items; agenda = None }) c.new-node.ensures.at in
    let is : c.declare.result ≡ Ok tt = c.in-Ok.is in (
      messages.Done,
      joins g.D.Disk.state c.args.client c.in_ok-found.found.items (open_all w [] c.args.tables.now)
          (ap (λ (l : List (ℕ × Schema)). opened_all [] l) c.in_ok-found.ensures.found ∙ opens_all w c.args.schemas.now has c.args.tables.now []) c.new-node.result c.new-node.ensures.number
          c.new-node.ensures.linked
          c.new-node.ensures.told c.new-node.ensures.sent c.declare.new.self (Some []) k.declared,
      record {
        fresh = c.new-node.result;
        journal_is = c.new-node.ensures.journal;
        slots_are = c.new-node.ensures.slots;
        chunks_are = c.new-node.ensures.chunks;
        counted = λ luck. k.counted (λ bad. absurd cc);
        cause = λ bad. absurd (bad refl);
      },
    )

pub returns-in-Err-Disk-clause-joined : goal.returns-in-Err-Disk-clause-joined
returns-in-Err-Disk-clause-joined g c w has =
    let k = c.declare.ensures.declares (record { disk = to_open c.in_ok-found.found.items; agenda = None }) c.new-node.ensures.at in (
      messages.FailedBefore,
      joins g.D.Disk.state c.args.client c.in_ok-found.found.items (open_all w [] c.args.tables.now)
          (ap (λ (l : List (ℕ × Schema)). opened_all [] l) c.in_ok-found.ensures.found ∙ opens_all w c.args.schemas.now has c.args.tables.now []) c.new-node.result c.new-node.ensures.number
          c.new-node.ensures.linked
          c.new-node.ensures.told c.new-node.ensures.sent c.declare.new.self None (let r = rw c.in-Err-Disk.is at k.refused in r),
      record {
        fresh = c.new-node.result;
        journal_is = c.new-node.ensures.journal;
        slots_are = c.new-node.ensures.slots;
        chunks_are = c.new-node.ensures.chunks;
        counted = λ luck. absurd cc;
        cause = λ bad. k.cause (c.in-Err-Disk.is ∙ ap (λ (e : CallFault). Err e) c.in-Err-Disk.field-0-is);
      },
    )

pub returns-in-Ok-clause-plans : goal.returns-in-Ok-clause-plans
returns-in-Ok-clause-plans g c n = (c.in-Ok.ensures.declares (record { disk = to_open c.in_ok-found.found.items; agenda = None }) c.new-node.ensures.at).plans n

pub returns-in-Err-Disk-clause-plans : goal.returns-in-Err-Disk-clause-plans
returns-in-Err-Disk-clause-plans g c n = (c.declare.ensures.declares (record { disk = to_open c.in_ok-found.found.items; agenda = None }) c.new-node.ensures.at).plans n

pub returns-in-Ok-clause-phases : goal.returns-in-Ok-clause-phases
returns-in-Ok-clause-phases g c table =
    same_open c.new-node.result c.declare.new.self (c.in-Ok.ensures.phases c.in-Ok.ensures.up) table
    ∙ down_closed g.D.Disk.state c.new-node.result (to_open c.in_ok-found.found.items) c.new-node.ensures.at table

pub returns-in-Err-Disk-clause-phases : goal.returns-in-Err-Disk-clause-phases
returns-in-Err-Disk-clause-phases g c table =
    let k = c.declare.ensures.declares (record { disk = to_open c.in_ok-found.found.items; agenda = None }) c.new-node.ensures.at in
    let r = rw c.in-Err-Disk.is at k.refused in
    down_closed g.D.Disk.state c.declare.new.self (to_open c.in_ok-found.found.items) r.client table
