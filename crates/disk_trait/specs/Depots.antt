-- What a depot has given away and got back.
use Rattle.std.specs.Prelude.{◌≡◌, ◌==◌, ℕ, Bool, if◌then◌else◌, Option, None, Some}

pub record DepotState : Type 0 where
  -- is the disk of this number out?
  pub is_out : ℕ → Bool
  pub faults : ℕ

-- the disks that a depot tells, before and after: another one under this number, and the same under each other
abbrev pub Tells : {D : Type 0} → Option (ℕ → Option D) → Option (ℕ → Option D) → ℕ → Option D → Type 0
Tells None None number disk = Unit {0}
Tells (Some old) (Some new) number disk = (k : ℕ) → new k ≡ (if k == number then disk else old k)
Tells None (Some new) number disk = ⊥
Tells (Some old) None number disk = ⊥
