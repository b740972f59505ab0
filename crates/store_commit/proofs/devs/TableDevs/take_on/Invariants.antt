use Rattle.std.proofs.Common.{◌≡◌, ◌+◌, ◌≤◌, ◌∷◌, length, take, map}
use Rattle.std.specs.VecDeque.{deque_len, deque_capacity}
use Rattle.store_commit.specs.Devs.{OpenChunks, OpenRows, OpenLog}
use Rattle.store_commit.specs.Agenda.{drops}
use Rattle.store_commit.specs.Standing.{write_of}
use Rattle.store_commit.proofs.devs.TableDevs.take_on.Given as goal

abbrev pub invariant-loop-name : goal.invariant-loop-name
invariant-loop-name g l = record {
  writes : map write_of l.self.agenda.items ≡ OpenChunks ∷ (OpenRows ∷ (OpenLog ∷ drops (take l.name-index l.names)));
  room : deque_len l.self.agenda + (length l.names + 1) ≤ deque_capacity l.self.agenda + l.name-index;
  chunks : l.self.chunks ≡ l.fn.self.chunks;
  rows : l.self.rows ≡ l.fn.self.rows;
  log : l.self.log ≡ l.fn.self.log;
  scanned : l.self.scanned ≡ l.fn.self.scanned;
}
