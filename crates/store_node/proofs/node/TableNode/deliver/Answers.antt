use Rattle.std.proofs.Common.{inl, ⊎_elim}
use Rattle.disk_trait.specs.Fuse.{inner_of}
use Rattle.store_node.proofs.Delivering.{busy, delivers_node}
use Rattle.store_node.proofs.Answering.{dropped_at, delivers_request, delivers_pull, delivers_torn, passes_response, passes_pulled, passes_torn}
use Rattle.store_node.proofs.node.TableNode.deliver.Goals as goal

pub returns-then-not-idle-clause-delivers : goal.returns-then-not-idle-clause-delivers
returns-then-not-idle-clause-delivers g c s t =
    busy g.D.Disk.state g.D.Disk.images (λ f image left. g.met.D.Disk.only_now (inner_of f) image left) c.args.self.now s.disk s.agenda t c.requires.up c.if-not-idle.ensures c.args.from c.args.message.now c.at_work.result c.at_work.ensures

pub returns-then-not-is_taken-clause-delivers : goal.returns-then-not-is_taken-clause-delivers
returns-then-not-is_taken-clause-delivers g c s t =
    dropped_at g.D.Disk.state g.D.Disk.images (λ f image left. g.met.D.Disk.only_now (inner_of f) image left) c.args.self.now c.requires.up c.if-not-idle.ensures c.args.from c.args.message.now c.if-not-is_taken.ensures s t

pub returns-in-SyncRequest-clause-delivers : goal.returns-in-SyncRequest-clause-delivers
returns-in-SyncRequest-clause-delivers g c s t =
    delivers_request g.D.Disk.state g.D.Disk.images (λ f image left. g.met.D.Disk.only_now (inner_of f) image left) c.args.self.now c.requires.up c.if-not-idle.ensures c.take_spelled.new.self c.args.from c.args.message.now c.in-SyncRequest.request c.in-SyncRequest.is c.take_spelled.result c.if-not-is_taken.ensures c.take_spelled.ensures.answers s t

pub returns-in-SyncRequest-clause-node : goal.returns-in-SyncRequest-clause-node
returns-in-SyncRequest-clause-node g c =
    let n = c.requires.node in
    delivers_node g.D.Disk.state g.D.Disk.images (λ f image left. g.met.D.Disk.only_now (inner_of f) image left) n.0 c.args.from c.args.message.now c.args.self.now c.take_spelled.new.self c.take_spelled.result (inl c.if-not-is_taken.ensures) (returns-in-SyncRequest-clause-delivers g c n.0 n.1)

pub returns-in-PullRequest-clause-delivers : goal.returns-in-PullRequest-clause-delivers
returns-in-PullRequest-clause-delivers g c s t =
    delivers_pull g.D.Disk.state g.D.Disk.images (λ f image left. g.met.D.Disk.only_now (inner_of f) image left) c.args.self.now c.requires.up c.if-not-idle.ensures c.answer_pull.new.self c.args.from c.args.message.now c.in-PullRequest.request c.in-PullRequest.is c.answer_pull.result c.if-not-is_taken.ensures c.answer_pull.ensures.answers s t

pub returns-in-PullRequest-clause-node : goal.returns-in-PullRequest-clause-node
returns-in-PullRequest-clause-node g c =
    let n = c.requires.node in
    delivers_node g.D.Disk.state g.D.Disk.images (λ f image left. g.met.D.Disk.only_now (inner_of f) image left) n.0 c.args.from c.args.message.now c.args.self.now c.answer_pull.new.self c.answer_pull.result (inl c.if-not-is_taken.ensures) (returns-in-PullRequest-clause-delivers g c n.0 n.1)

pub returns-in-TornRowRequest-clause-delivers : goal.returns-in-TornRowRequest-clause-delivers
returns-in-TornRowRequest-clause-delivers g c s t =
    delivers_torn g.D.Disk.state g.D.Disk.images (λ f image left. g.met.D.Disk.only_now (inner_of f) image left) c.args.self.now c.requires.up c.if-not-idle.ensures c.answer_torn.new.self c.args.from c.args.message.now c.in-TornRowRequest.request c.in-TornRowRequest.is c.answer_torn.result c.if-not-is_taken.ensures c.answer_torn.ensures.answers s t

pub returns-in-TornRowRequest-clause-node : goal.returns-in-TornRowRequest-clause-node
returns-in-TornRowRequest-clause-node g c =
    let n = c.requires.node in
    delivers_node g.D.Disk.state g.D.Disk.images (λ f image left. g.met.D.Disk.only_now (inner_of f) image left) n.0 c.args.from c.args.message.now c.args.self.now c.answer_torn.new.self c.answer_torn.result (inl c.if-not-is_taken.ensures) (returns-in-TornRowRequest-clause-delivers g c n.0 n.1)

pub returns-in-SyncResponse-clause-delivers : goal.returns-in-SyncResponse-clause-delivers
returns-in-SyncResponse-clause-delivers g c s t =
    ⊎_elim (λ x. passes_response g.D.Disk.state g.D.Disk.images (λ f image left. g.met.D.Disk.only_now (inner_of f) image left) c.args.self.now c.requires.up c.if-not-idle.ensures c.args.from c.args.message.now x.0 x.1 s t) (λ x. passes_pulled g.D.Disk.state g.D.Disk.images (λ f image left. g.met.D.Disk.only_now (inner_of f) image left) c.args.self.now c.requires.up c.if-not-idle.ensures c.args.from c.args.message.now x.0 x.1 s t) c.in-SyncResponse.is

pub returns-in-SyncResponse-2-clause-delivers : goal.returns-in-SyncResponse-2-clause-delivers
returns-in-SyncResponse-2-clause-delivers g c s t =
    ⊎_elim (λ x. passes_response g.D.Disk.state g.D.Disk.images (λ f image left. g.met.D.Disk.only_now (inner_of f) image left) c.args.self.now c.requires.up c.if-not-idle.ensures c.args.from c.args.message.now x.0 x.1 s t) (λ x. passes_pulled g.D.Disk.state g.D.Disk.images (λ f image left. g.met.D.Disk.only_now (inner_of f) image left) c.args.self.now c.requires.up c.if-not-idle.ensures c.args.from c.args.message.now x.0 x.1 s t) c.in-SyncResponse.is

pub returns-in-TornRowResponse-clause-delivers : goal.returns-in-TornRowResponse-clause-delivers
returns-in-TornRowResponse-clause-delivers g c s t =
    passes_torn g.D.Disk.state g.D.Disk.images (λ f image left. g.met.D.Disk.only_now (inner_of f) image left) c.args.self.now c.requires.up c.if-not-idle.ensures c.args.from c.args.message.now c.in-TornRowResponse.field-0 c.in-TornRowResponse.is s t
