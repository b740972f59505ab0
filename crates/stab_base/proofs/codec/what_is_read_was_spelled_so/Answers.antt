use Rattle.std.proofs.Common.{◌≡◌, ℕ, ◌^◌, List, [], ◌∷◌, Ok, ap}
use Rattle.std.specs.Int.{w32, w64}
use Rattle.stab_base.specs.Codec.{byte_at}
use Rattle.stab_base.proofs.Fields.{wide32, wide64, ok_is, number_takes, counted_takes}
use Rattle.stab_base.proofs.codec.what_is_read_was_spelled_so.Goals as goal

byte_is : (bytes rest : List ℕ) (n : ℕ) → byte_at bytes ≡ Ok (n, rest) → bytes ≡ n ∷ rest
unfolding byte_at
byte_is [] rest n e = absurd cc
byte_is (b ∷ bytes) rest n e = ap (λ (p : ℕ × List ℕ). p.0 ∷ p.1) (ok_is (b, bytes) (n, rest) e)

pub returns-clause-byte : goal.returns-clause-byte
returns-clause-byte c = byte_is

pub returns-clause-four : goal.returns-clause-four
returns-clause-four c = λ bytes rest n fits e. (number_takes w32 (2 ^ 32) wide32 bytes n rest fits e).0.parts

pub returns-clause-eight : goal.returns-clause-eight
returns-clause-eight c = λ bytes rest n fits e. (number_takes w64 (2 ^ 64) wide64 bytes n rest fits e).0.parts

pub returns-clause-counted : goal.returns-clause-counted
returns-clause-counted c = λ most bytes text rest fits e. let t = counted_takes most bytes text rest fits e in (t.0.parts, t.1)
