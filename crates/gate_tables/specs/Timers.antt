-- Timers of a client: which fire, and what is told of them.
use Rattle.std.specs.Prelude.{ℕ, ◌+◌, ◌-◌, ◌^◌, min, Bool, true, false, ◌&&◌, nat_le, if◌then◌else◌, List, map}
use Rattle.std.specs.Prelude.{fold, bit_or, Option, Some, None}
use Rattle.std.specs.List.{list_any}
use Rattle.gate_tables.specs.declared.timer.Timer.{Timer}

-- each table's timer, by rising table
abbrev pub Timers : Type 0
Timers = List (ℕ × Timer)

abbrev pub timer_of : ℕ → ℕ → Bool → Timer
timer_of period tolerance marked = record { period = period; tolerance = tolerance; count = 0; marked = marked }

-- a count that is full stands still
abbrev pub as_counted : Timer → Timer
as_counted timer = record timer { count = min (timer.count + 1) 4294967295 }

abbrev pub is_due : Timer → Bool
is_due timer = timer.marked && nat_le (timer.period + timer.tolerance) timer.count

abbrev pub as_fired : Timer → Timer
as_fired timer = if timer.marked then record timer { count = 0; marked = false } else timer

abbrev pub as_marked : Timer → Timer
as_marked timer = record timer { marked = true }

-- bit T - 1 stands for table T
abbrev pub bit : ℕ → ℕ
bit table = if nat_le 1 table && nat_le table 64 then 2 ^ (table - 1) else 0

-- the bits so far, and a timer's where it is marked
abbrev pub with_bit : ℕ → ℕ × Timer → ℕ
with_bit bits e = if e.1.marked then bit_or bits (bit e.0) else bits

abbrev pub bitmap : Timers → ℕ
bitmap timers = fold with_bit 0 timers

-- ---- all timers of a client

abbrev pub each : (Timer → Timer) → Timers → Timers
each f timers = map (λ e. (e.0, f e.1)) timers

-- where one is due, all that are marked fire
abbrev pub any_due : Timers → Bool
any_due timers = list_any (λ e. is_due e.1) timers

abbrev pub after_firing : Timers → Timers
after_firing timers = if any_due timers then each as_fired timers else timers

-- the tables of a notify
abbrev pub told : Timers → Option ℕ
told timers = if any_due timers then Some (bitmap timers) else None
