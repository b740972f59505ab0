-- Room after a payload was written into its buffer.
use Rattle.std.proofs.Common.{◌≡◌, ℕ, ◌+◌, ◌≤◌, sym, subst, arith}
use Rattle.std.specs.Vec.{vec_capacity}
use Rattle.disk_trait.specs.Calls.{DiskState}
use Rattle.vault.specs.declared.folded.Folded.{Folded}
use Rattle.vault.specs.Folded.{HasRoom}

pub room_written : {D F : Type 0} (state : D → DiskState) (has_spare : F → ℕ → ℕ → Type 0) (old new : Folded D F) → new.vault ≡ old.vault → new.memory ≡ old.memory
    → vec_capacity old.payload ≤ vec_capacity new.payload
    → (openings puts size bytes len : ℕ) → len ≡ bytes → HasRoom state has_spare old openings puts (size + bytes) → HasRoom state has_spare new openings puts (size + len)
room_written state has_spare old new vault memory capacity o a size bytes len is r =
    subst (λ (n : ℕ). HasRoom state has_spare new o a (size + n)) (sym is) (record {
      vault = rw vault r.vault;
      memory = rw memory r.memory;
      payload = λ some. omega (arith, r.payload some, capacity);
    })
