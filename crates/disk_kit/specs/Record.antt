-- What a record of calls says of the file: going back from what is held now, each call gives what was held before it.
use Rattle.std.specs.Prelude.{◌≡◌, ℕ, ◌+◌, ◌-◌, ◌≤◌, min, List, [], ◌∷◌, ◌++◌, length, take, drop}
use Rattle.disk_trait.specs.Image.{Pending, IsImage, settled, touched, shortened}
use Rattle.disk_kit.specs.declared.memory.Call.{Call}
use Rattle.disk_kit.specs.declared.memory.Call.TheVariants.{Write, Cut, Sync}

-- The bytes that are held, and how many of them are the file. Those behind it were cut off.
pub record Held : Type 0 where
  pub bytes : List ℕ
  pub len : ℕ

abbrev pub file_of : Held → List ℕ
file_of held = take held.len held.bytes

-- how many bytes the call overwrote: these were saved
abbrev pub share : Call → ℕ
share (Write at count over before) = over
share (Cut before) = 0
share Sync = 0

abbrev pub used : List Call → ℕ
used [] = 0
used (call ∷ calls) = share call + used calls

-- what was held before the call
abbrev pub undo : Call → List ℕ → Held → Held
undo (Write at count over before) saved held =
    record { bytes = take at held.bytes ++ (saved ++ drop (at + count) held.bytes); len = before }
undo (Cut before) saved held = record { bytes = held.bytes; len = before }
undo Sync saved held = held

-- what was held before these calls, the oldest first, with the bytes that they saved one after the other
abbrev pub rewind : List Call → List ℕ → Held → Held
rewind [] pool held = held
rewind (call ∷ calls) pool held = undo call (take (share call) pool) (rewind calls (drop (share call) pool) held)

-- what one call makes of what a crash may leave; `held` is what it left
abbrev pub note : Call → Held → Pending → Pending
note (Write at count over before) held pending = touched at count pending
note (Cut before) held pending = shortened held.len pending
note Sync held pending = settled (file_of held)

-- what a crash may leave after these calls
abbrev pub noted : Pending → List Call → List ℕ → Held → Pending
noted pending [] pool held = pending
noted pending (call ∷ calls) pool held =
    noted (note call (rewind calls (drop (share call) pool) held) pending) calls (drop (share call) pool) held

-- after the first k calls
abbrev pub held_at : List Call → List ℕ → Held → ℕ → Held
held_at calls pool held k = rewind (drop k calls) (drop (used (take k calls)) pool) held

abbrev pub pending_at : List Call → List ℕ → Held → ℕ → Pending
pending_at calls pool held k = noted (settled []) (take k calls) pool (held_at calls pool held k)

-- a crash after the t-th call or later might have left this
abbrev pub LeftSince : List Call → List ℕ → Held → ℕ → List ℕ → Type 0
LeftSince calls pool held t image = (k : ℕ) × (t ≤ k) × (k ≤ length calls)
    × IsImage (pending_at calls pool held k) image

-- what a write of so many bytes overwrites
abbrev pub covered : ℕ → ℕ → List ℕ → List ℕ
covered at count bytes = take (min count (length bytes - at)) (drop at bytes)

-- the record accounts for the file, which was empty at first
pub record IsKept (calls : List Call) (pool : List ℕ) (held : Held) : Type 0 where
  pub used_up : used calls ≡ length pool
  pub within : held.len ≤ length held.bytes
  pub image : IsImage (noted (settled []) calls pool held) (file_of held)
  pub began : (rewind calls pool held).len ≡ 0
