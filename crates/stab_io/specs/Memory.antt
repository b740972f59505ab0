use Rattle.std.specs.Prelude.{ℕ, List}

-- a source in memory: the bytes left, the numbers of the calls that fail, and how many calls came and failed
pub record Giving : Type 0 where
  pub left : List ℕ
  pub failing : List ℕ
  pub calls : ℕ
  pub faults : ℕ

-- a sink in memory: the bytes held, and the same
pub record Holding : Type 0 where
  pub holds : List ℕ
  pub failing : List ℕ
  pub calls : ℕ
  pub faults : ℕ
