use Rattle.std.proofs.Common.{◌∙◌, refl, arith}
use Rattle.journal_host.specs.Holds.{disks_at}
use Rattle.node_steps.proofs.Closing.{client_next, client_goes, client_small, below_clients, below_stays, stay_at_first, stay_then, at_end}
use Rattle.node_steps.proofs.Returned.{clients_start, client_ranged, clients_out, clients_end}
use Rattle.node_steps.specs.Holds.{first_client_disk}
use Rattle.node_steps.proofs.close.close_clients.Goals as goal

pub clients-init : goal.clients-init
clients-init g c =
    let k = c.requires.held in record {
      closing = clients_start g.P.Disk.Disk.state k.0 k.1 c.args.clients k.2 (g.P.Depot.state c.args.depot.now).is_out (g.P.Depot.returned c.args.depot.now) k.3;
      others = λ n below. refl;
      kept = stay_at_first (g.P.Depot.returned c.args.depot.now) 192;
      faults = refl;
    }

pub give_back-requires-clause-small : goal.give_back-requires-clause-small
give_back-requires-clause-small g c =
    client_small c.in-Some.client (client_next c.args.clients.clients c.clients.clients.clients (g.P.Depot.state c.clients.depot).is_out (g.P.Depot.returned c.clients.depot) c.clients.invariant.closing c.in-Some.client c.in-Some.disks c.in-Some.ensures.disks).most

pub give_back-requires-clause-out : goal.give_back-requires-clause-out
give_back-requires-clause-out g c =
    (client_next c.args.clients.clients c.clients.clients.clients (g.P.Depot.state c.clients.depot).is_out (g.P.Depot.returned c.clients.depot) c.clients.invariant.closing c.in-Some.client c.in-Some.disks c.in-Some.ensures.disks).out

pub clients-preserved : goal.clients-preserved
clients-preserved g c =
    let k = c.requires.held in
    record {
      closing = client_goes c.args.clients.clients c.clients.clients.clients c.take_disks.new.self.clients (g.P.Depot.state c.clients.depot).is_out (g.P.Depot.state c.give_back.new.depot).is_out (g.P.Depot.returned c.clients.depot) (g.P.Depot.returned c.give_back.new.depot)
          (λ q x at. (client_ranged g.P.Disk.Disk.state k.0 k.1 c.args.clients k.2 q x at).0) c.clients.invariant.closing c.in-Some.client c.in-Some.disks c.in-Some.ensures.disks c.take_disks.ensures.others c.in-Some.ensures.gone
          c.give_back.ensures.back c.give_back.ensures.told;
      others = below_stays (g.P.Depot.state c.args.depot.now).is_out (g.P.Depot.state c.clients.depot).is_out (g.P.Depot.state c.give_back.new.depot).is_out c.in-Some.client c.give_back.ensures.back c.clients.invariant.others;
      kept = stay_then (g.P.Depot.returned c.args.depot.now) (g.P.Depot.returned c.clients.depot) (g.P.Depot.returned c.give_back.new.depot) 192 (first_client_disk c.in-Some.client) c.in-Some.disks (λ n below. below_clients n c.in-Some.client below)
          c.clients.invariant.kept c.give_back.ensures.told;
      faults = c.give_back.ensures.faults ∙ c.clients.invariant.faults;
    }

pub returns-clause-back : goal.returns-clause-back
returns-clause-back g c =
    clients_out c.args.clients.clients c.clients.clients.clients (g.P.Depot.state c.clients.depot).is_out (g.P.Depot.returned c.clients.depot) c.clients.invariant.closing
    (at_end c.clients.clients.clients.entries disks_at c.in_default.ensures.disks)

pub returns-clause-told : goal.returns-clause-told
returns-clause-told g c =
    clients_end c.args.clients.clients c.clients.clients.clients (g.P.Depot.state c.clients.depot).is_out (g.P.Depot.returned c.clients.depot) c.clients.invariant.closing
    (at_end c.clients.clients.clients.entries disks_at c.in_default.ensures.disks)

pub overflow_sub-client : goal.overflow_sub-client
overflow_sub-client g c =
    let next = client_next c.args.clients.clients c.clients.clients.clients (g.P.Depot.state c.clients.depot).is_out (g.P.Depot.returned c.clients.depot) c.clients.invariant.closing c.in-Some.client c.in-Some.disks c.in-Some.ensures.disks in
    let least = next.least in
    let most = next.most in
    omega (arith, least, most)

pub overflow_mul-client : goal.overflow_mul-client
overflow_mul-client g c =
    let next = client_next c.args.clients.clients c.clients.clients.clients (g.P.Depot.state c.clients.depot).is_out (g.P.Depot.returned c.clients.depot) c.clients.invariant.closing c.in-Some.client c.in-Some.disks c.in-Some.ensures.disks in
    let least = next.least in
    let most = next.most in
    omega (arith, least, most)

pub overflow_add-client : goal.overflow_add-client
overflow_add-client g c =
    let next = client_next c.args.clients.clients c.clients.clients.clients (g.P.Depot.state c.clients.depot).is_out (g.P.Depot.returned c.clients.depot) c.clients.invariant.closing c.in-Some.client c.in-Some.disks c.in-Some.ensures.disks in
    let least = next.least in
    let most = next.most in
    omega (arith, least, most)
