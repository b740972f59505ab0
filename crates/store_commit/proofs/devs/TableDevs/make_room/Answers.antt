use Rattle.std.proofs.Common.{◌≡◌, ◌+◌, ◌≤◌, [], List, map, Ok, refl, sym, ◌∙◌, ap, arith}
use Rattle.std.specs.VecDeque.{deque_len, deque_capacity}
use Rattle.std.proofs.lemmas.Result.{err_from_is_err_and}
use Rattle.store_commit.specs.declared.task.Task.{Task}
use Rattle.store_commit.specs.Standing.{write_of}
use Rattle.store_commit.proofs.Recovers.{ok_if, room_refused, chunks_refused, log_refused, room_made}
use Rattle.store_commit.proofs.Fusing.{keeps_then, keeps_same, chunk_same, log_same}
use Rattle.store_commit.proofs.devs.TableDevs.make_room.Goals as goal

pub returns-then-drops-gt-DROPS_MAX-clause-makes : goal.returns-then-drops-gt-DROPS_MAX-clause-makes
returns-then-drops-gt-DROPS_MAX-clause-makes g c =
    room_refused g.D.Disk.state g.D.Disk.images g.met.D.Disk.only_now c.args.self.now c.requires c.args.drops c.args.self.now refl refl refl c.requires.idle

pub returns-in_err-reserve-clause-makes : goal.returns-in_err-reserve-clause-makes
returns-in_err-reserve-clause-makes g c =
    let p = err_from_is_err_and c.from_residual.result c.from_residual.ensures.1 in
    let idle = ap (λ (l : List Task). map write_of l) c.reserve.ensures.items ∙ c.requires.idle in
    rw (p.1, p.2) (room_refused g.D.Disk.state g.D.Disk.images g.met.D.Disk.only_now c.args.self.now c.requires c.args.drops _ refl refl refl idle)

pub returns-in-Err-clause-makes : goal.returns-in-Err-clause-makes
returns-in-Err-clause-makes g c =
    let idle = ap (λ (l : List Task). map write_of l) c.reserve.ensures.items ∙ c.requires.idle in
    rw c.from.ensures (chunks_refused g.D.Disk.state g.D.Disk.images g.met.D.Disk.only_now c.args.self.now c.requires c.args.drops _ refl refl idle c.in-Err.fault c.in-Err.ensures)

pub returns-in-Err-reserve-clause-makes : goal.returns-in-Err-reserve-clause-makes
returns-in-Err-reserve-clause-makes g c =
    let idle = ap (λ (l : List Task). map write_of l) c.reserve.ensures.items ∙ c.requires.idle in
    let done : c.reserve-2.result ≡ Ok tt = ok_if c.reserve-2.result c.in_default.not-Err in
    let reserved = rw done at c.reserve-2.ensures in
    rw c.from-in-Err-reserve.ensures (log_refused g.D.Disk.state g.D.Disk.images g.met.D.Disk.only_now c.args.self.now c.requires c.args.drops _ refl idle reserved c.in-Err-reserve.fault c.in-Err-reserve.ensures)

pub returns-clause-makes : goal.returns-clause-makes
returns-clause-makes g c =
    let idle = ap (λ (l : List Task). map write_of l) c.reserve.ensures.items ∙ c.requires.idle in
    let room : deque_len c.reserve.new.self + (c.args.drops + 4) ≤ deque_capacity c.reserve.new.self = omega (arith, c.in_ok-reserve.ensures.ok) in
    let done : c.reserve-2.result ≡ Ok tt = ok_if c.reserve-2.result c.in_default.not-Err in
    let reserved = rw done at c.reserve-2.ensures in
    let log_done : c.reserve-3.result ≡ Ok tt = ok_if c.reserve-3.result c.in_default-reserve.not-Err in
    let log_reserved = rw log_done at c.reserve-3.ensures in
    room_made g.D.Disk.state g.D.Disk.images g.met.D.Disk.only_now c.args.self.now c.requires c.args.drops _ refl idle room reserved log_reserved

pub returns-then-drops-gt-DROPS_MAX-clause-fuse : goal.returns-then-drops-gt-DROPS_MAX-clause-fuse
returns-then-drops-gt-DROPS_MAX-clause-fuse g c = keeps_same g.D.Disk.state c.args.self.now c.args.self.now refl refl refl

pub returns-in_err-reserve-clause-fuse : goal.returns-in_err-reserve-clause-fuse
returns-in_err-reserve-clause-fuse g c = keeps_same g.D.Disk.state c.args.self.now _ refl refl refl

pub returns-in-Err-clause-fuse : goal.returns-in-Err-clause-fuse
returns-in-Err-clause-fuse g c =
    let s = g.D.Disk.state in
    let one = record c.args.self.now { agenda = c.reserve.new.self } in
    keeps_then s c.args.self.now one _ (keeps_same s c.args.self.now one refl refl refl) (chunk_same s one c.reserve-2.new.self c.reserve-2.ensures.fuse)

pub returns-in-Err-reserve-clause-fuse : goal.returns-in-Err-reserve-clause-fuse
returns-in-Err-reserve-clause-fuse g c =
    let s = g.D.Disk.state in
    let one = record c.args.self.now { agenda = c.reserve.new.self } in
    let two = record one { chunks = c.reserve-2.new.self } in
    keeps_then s c.args.self.now two _ (keeps_then s c.args.self.now one two (keeps_same s c.args.self.now one refl refl refl) (chunk_same s one c.reserve-2.new.self c.reserve-2.ensures.fuse)) (log_same s two c.reserve-3.new.self c.reserve-3.ensures.fuse)

pub returns-clause-fuse : goal.returns-clause-fuse
returns-clause-fuse g c =
    let s = g.D.Disk.state in
    let one = record c.args.self.now { agenda = c.reserve.new.self } in
    let two = record one { chunks = c.reserve-2.new.self } in
    keeps_then s c.args.self.now two _ (keeps_then s c.args.self.now one two (keeps_same s c.args.self.now one refl refl refl) (chunk_same s one c.reserve-2.new.self c.reserve-2.ensures.fuse)) (log_same s two c.reserve-3.new.self c.reserve-3.ensures.fuse)
