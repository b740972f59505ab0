-- The laws of `Disk` for a record of calls.
use Rattle.std.specs.Prelude.{◌≡◌, ℕ, ◌≤◌, min, List, [], length, take, drop}
use Rattle.std.proofs.Common.{sym, ◌∙◌, ap, subst, arith, length-take}
use Rattle.std.proofs.lemmas.List.{take_all, drop_all}
use Rattle.disk_trait.specs.Image.{Pending, IsImage, settled}
use Rattle.disk_kit.specs.declared.memory.Call.{Call}
use Rattle.disk_kit.specs.Record.{Held, used, rewind, noted, pending_at, LeftSince}

pub at_end : (calls : List Call) (pool : List ℕ) (held : Held) (k : ℕ) → length calls ≤ k
    → pending_at calls pool held k ≡ noted (settled []) calls pool held
at_end calls pool held k le =
    ap (λ (cs : List Call). noted (settled []) (take k calls) pool (rewind cs (drop (used (take k calls)) pool) held))
    (drop_all k calls le)
    ∙ ap (λ (cs : List Call). noted (settled []) cs pool held) (take_all k calls le)

pub counts_since : (calls : List Call) (pool : List ℕ) (held : Held) (t : ℕ) (image : List ℕ) → t ≤ length calls
    → IsImage (noted (settled []) calls pool held) image → LeftSince calls pool held t image
counts_since calls pool held t image le is = (
  length calls,
  le,
  omega arith,
  subst (λ (p : Pending). IsImage p image)
      (sym (at_end calls pool held (length calls) (omega arith))) is,
)

pub only_since : (calls : List Call) (pool : List ℕ) (held : Held) (image : List ℕ)
    → LeftSince calls pool held (length calls) image → IsImage (noted (settled []) calls pool held) image
only_since calls pool held image left =
    subst (λ (p : Pending). IsImage p image) (at_end calls pool held left.0 left.1) left.3

pub file_bounded : (bytes : List ℕ) (len most : ℕ) → length bytes ≤ most → length (take len bytes) ≤ most
file_bounded bytes len most le = omega (arith, length-take len bytes)

pub none_stopped : 0 ≤ 0
none_stopped = omega arith

pub room_at_most : (capacity most : ℕ) → min capacity most ≤ most
room_at_most capacity most = omega arith
