-- A disk behind a fuse.
use Rattle.std.specs.Prelude.{◌≡◌, ℕ, ◌+◌, ◌-◌, ◌^◌, ◌≤◌, Bool, true, false, ◌&&◌, nat_lt, ◌<◌}
use Rattle.std.proofs.Common.{arith}
use Rattle.disk_trait.specs.Calls.{DiskState}
use Rattle.disk_trait.specs.declared.fuse.FuseDisk.{FuseDisk}
use Rattle.disk_trait.specs.declared.fuse.FuseSetting.{FuseSetting}
use Rattle.disk_trait.specs.declared.fuse.FuseSetting.TheVariants.{Unset, Set, Blown}

-- the disk inside, and how the fuse is set
abbrev pub inner_of : {D : Type 0} → FuseDisk D → D
inner_of f = f.inner

abbrev pub setting_of : {D : Type 0} → FuseDisk D → FuseSetting
setting_of f = f.setting

abbrev pub is_set : FuseSetting → Bool
is_set Unset = false
is_set (Set passes pick) = true
is_set Blown = true

-- how many calls it still lets pass
abbrev pub passes_left : FuseSetting → ℕ
passes_left Unset = 0
passes_left (Set passes pick) = passes
passes_left Blown = 0

-- how many bytes of the write that it stops it lets land
abbrev pub landing : FuseSetting → ℕ
landing Unset = 0
landing (Set passes pick) = pick
landing Blown = 0

-- it can still count a stop
abbrev pub is_armed_at : FuseSetting → ℕ → Bool
is_armed_at setting stops = is_set setting && nat_lt stops (2 ^ 64 - 1)

-- the state of a disk with a fuse before it
abbrev pub fused : DiskState → FuseSetting → ℕ → DiskState
fused s setting stops = record {
  seen = s.seen;
  pending = s.pending;
  room = s.room;
  calls = s.calls;
  bytes = s.bytes;
  faults = s.faults + stops;
  stops = stops;
  is_armed = is_armed_at setting stops;
  passes = passes_left setting;
  pick = landing setting;
  moment = s.moment;
}

abbrev pub behind : {D : Type 0} → (D → DiskState) → FuseDisk D → DiskState
behind state f = fused (state f.inner) f.setting f.stops

-- a fuse counts its stops among the faults
pub stops_within : (faults stops : ℕ) → stops ≤ faults + stops
stops_within faults stops = omega arith

-- the same disk, whose fuse now lets so many calls pass, and so many bytes of the write after them, unless its count of
-- stops is full
pub record IsArmed (calls count : ℕ) (old new : DiskState) : Type 0 where
  pub seen : new.seen ≡ old.seen
  pub pending : new.pending ≡ old.pending
  pub room : new.room ≡ old.room
  pub calls_left : new.calls ≡ old.calls
  pub bytes_left : new.bytes ≡ old.bytes
  pub faults : new.faults ≡ old.faults
  pub stops : new.stops ≡ old.stops
  pub moment : new.moment ≡ old.moment
  pub passes : new.passes ≡ calls
  pub pick : new.pick ≡ count
  pub is_armed : old.stops + 1 < 2 ^ 64 → new.is_armed ≡ true

-- the next write, cut or sync is stopped
abbrev pub Stops : DiskState → Type 0
Stops s = (s.is_armed ≡ true) × (s.passes ≡ 0)
