-- What becomes of a write that a client asks for.
use Rattle.std.specs.Prelude.{ℕ, ◌==◌, nat_lt, if◌then◌else◌}
use Rattle.row_value.specs.declared.schema.Scheme.{Scheme}
use Rattle.row_value.specs.declared.schema.Scheme.TheVariants.{Strong, Causal, Eventual}
use Rattle.schemes.specs.declared.decision.Decision.{Decision}
use Rattle.schemes.specs.declared.decision.Decision.TheVariants.{Again, Late, Accept, Stale, Conflict}

-- a new write, by the version that it rests on and the row's version
abbrev pub judged : Scheme → ℕ → ℕ → Decision
judged Strong base current = if base == current then Accept else Stale current
judged Causal base current = if base == current then Accept else Conflict current
judged Eventual base current = Accept

-- `last` is the number and the version of the client's last accepted write on the row
abbrev pub decision_of : Scheme → ℕ → ℕ → ℕ × ℕ → ℕ → Decision
decision_of scheme base current last number =
    if last.0 == number then Again last.1
    else (if nat_lt number last.0 then Late last.0 else judged scheme base current)
