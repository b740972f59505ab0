-- The names of the three faults are three.
use Rattle.vault.specs.Calls.{AreApart}
use Rattle.plan_log.specs.Fault.{fault_of}

pub apart : AreApart fault_of
apart = record { down = λ same. cc; memory = λ same. cc; disk = λ same. cc }
