-- What the calls of a disk do.
use Rattle.std.specs.Prelude.{◌≡◌, ◌⊎◌, ℕ, ◌+◌, ◌<◌, ◌≤◌, Bool, true, false, List, Result, Ok, Err, OnOk, OnErr}
use Rattle.disk_trait.specs.Image.{Pending, IsImage}
use Rattle.disk_trait.specs.declared.disk.DiskFault.{DiskFault}

pub record DiskState : Type 0 where
  -- what a read gives
  pub seen : List ℕ
  pub pending : Pending
  -- the length, the calls and the bytes for which no memory is taken any more
  pub room : ℕ
  pub calls : ℕ
  pub bytes : ℕ
  -- how often the disk has failed, the stops of a fuse among them
  pub faults : ℕ
  pub stops : ℕ
  -- a fuse is set, how many calls it still lets pass, and how many bytes of the write after them
  pub is_armed : Bool
  pub passes : ℕ
  pub pick : ℕ
  pub moment : ℕ

-- Time goes on: a crash since t may leave what it might have left before, or what it may leave now.
pub record Elapses (old new : DiskState) (past since : ℕ → List ℕ → Type 0) : Type 0 where
  pub later : old.moment ≤ new.moment
  pub nothing_else : (t : ℕ) (image : List ℕ) → t ≤ old.moment → since t image
      → past t image ⊎ IsImage new.pending image
  pub keeps : (t : ℕ) (image : List ℕ) → t ≤ old.moment → past t image → since t image

-- the count of faults rises where the call fails, and else it stands
pub record HasCause {T : Type 0} (old new : DiskState) (result : Result T DiskFault) : Type 0 where
  pub later : old.faults ≤ new.faults
  pub ok : OnOk result (new.faults ≡ old.faults)
  pub failed : OnErr result (old.faults < new.faults)

-- The same where there are other faults beside it: this one comes exactly where the count of faults rose.
abbrev pub IsCounted : {T E : Type 0} → E → ℕ → ℕ → Result T E → Type 0
IsCounted disk before after (Ok x) = after ≡ before
IsCounted disk before after (Err e) = (e ≡ disk → before < after) × ((e ≡ disk → ⊥) → after ≡ before)

-- so many calls and bytes of the room were used up, at most
pub record Spends (calls count : ℕ) (old new : DiskState) : Type 0 where
  pub room : old.room ≤ new.room
  pub calls_left : old.calls ≤ new.calls + calls
  pub bytes_left : old.bytes ≤ new.bytes + count

-- A fuse that isn't set stops nothing. One that is set lets so many calls pass, and fails the next.
pub record Burns {T E : Type 0} (calls : ℕ) (old new : DiskState) (result : Result T E) : Type 0 where
  pub later : old.stops ≤ new.stops
  pub one : new.stops ≤ old.stops + 1
  pub unarmed : old.is_armed ≡ false → (new.is_armed ≡ false) × (new.stops ≡ old.stops)
  pub passed : old.is_armed ≡ true → calls ≤ old.passes → new.stops ≡ old.stops
  pub passes_left : old.is_armed ≡ true → calls ≤ old.passes
      → OnOk result ((new.is_armed ≡ true) × (new.passes + calls ≡ old.passes) × (new.pick ≡ old.pick))
  pub stopped : old.is_armed ≡ true → old.passes < calls → OnOk result ⊥

-- only the room and the faults may differ
pub record SameFile (old new : DiskState) : Type 0 where
  pub seen : new.seen ≡ old.seen
  pub pending : new.pending ≡ old.pending
  pub moment : new.moment ≡ old.moment
  pub room : old.room ≤ new.room
  pub calls : old.calls ≤ new.calls
  pub bytes : old.bytes ≤ new.bytes
  pub stops : new.stops ≡ old.stops
  pub is_armed : new.is_armed ≡ old.is_armed
  pub passes : new.passes ≡ old.passes
  pub pick : new.pick ≡ old.pick

-- a crash at any moment since old leaves a file that has P
pub record LeavesOnly {D : Type 0} (state : D → DiskState) (images : D → ℕ → List ℕ → Type 0) (old new : D) (P : List ℕ
    → Type 0) : Type 0 where
  pub later : (state old).moment ≤ (state new).moment
  pub each : (image : List ℕ) → images new (state old).moment image → P image
  -- for a run that began earlier
  pub before : (t : ℕ) (image : List ℕ) → t ≤ (state old).moment → images new t image → images old t image ⊎ P image
