use Rattle.std.specs.Prelude.{◌≡◌, ℕ, ◌+◌, ◌≤◌, ◌<◌, Bool, List, [], ◌++◌, length, Option, None, Some, Result, Ok, Err}
use Rattle.std.specs.Prelude.{IfSome, IsSomeAnd, IsOkAnd, MatchBool}
use Rattle.std.specs.Global.{Vec}
use Rattle.std.specs.Io.KnownBytes.{prepend_known}
use Rattle.stab_io.specs.declared.limits.Limits.{Limits}
use Rattle.stab_io.specs.declared.line_fault.LineFault.{LineFault}
use Rattle.stab_io.specs.declared.line_fault.LineFault.TheVariants.{Read, LineLimit, InputLimit, Memory}
use Rattle.stab_io.specs.Lines.{HasNoNewline, Next, Line, End, LineTooLong, InputTooLong, next_of}

-- a reader: the bytes of the lines answered, newlines counted; the bytes taken and not answered; the refusal that it
-- answers again; and its limits
pub record Reading : Type 0 where
  pub used : ℕ
  pub held : List ℕ
  pub stopped : Option LineFault
  pub limits : Limits

-- the bytes to read from here on: those held, and those that the source has left, where it tells them
abbrev pub ahead : Reading → Option (List ℕ) → Option (List ℕ)
ahead reader left = prepend_known reader.held left

-- where the bytes ahead were told, this line came next in them, and the bytes behind it are ahead now
abbrev pub IsNextLine : Reading → Option (List ℕ) → List ℕ → Reading → Option (List ℕ) → Type 0
IsNextLine before left line after left_after =
    IfSome (ahead before left) (λ bytes. IsSomeAnd (ahead after left_after)
    (λ rest. next_of before.limits before.used bytes ≡ Line line rest))

-- where the bytes ahead are told, this comes next in them
abbrev pub ComesNext : Reading → Option (List ℕ) → Next → Type 0
ComesNext reader left next = IfSome (ahead reader left) (λ bytes. next_of reader.limits reader.used bytes ≡ next)

-- the bytes before those ahead, and those ahead, are as many as they were
abbrev pub CountsAll : Reading → Option (List ℕ) → Reading → Option (List ℕ) → Type 0
CountsAll before left after left_after =
    IfSome (ahead before left) (λ bytes. IfSome (ahead after left_after)
    (λ rest. after.used + length rest ≡ before.used + length bytes))

-- every line that was held whole has been answered, and what is held passes no limit
abbrev pub IsUnfinished : Reading → Type 0
IsUnfinished reader =
    HasNoNewline reader.held × (length reader.held ≤ reader.limits.line)
    × (reader.used + length reader.held ≤ reader.limits.input)

-- the refusal that a reader answers again behind this one
abbrev pub stop_of : LineFault → Option LineFault
stop_of Memory = None
stop_of Read = Some Read
stop_of (LineLimit len) = Some (LineLimit len)
stop_of (InputLimit len) = Some (InputLimit len)

-- the refusal that a reader answers again behind this answer
abbrev pub stop_after : {T : Type 0} → Result T LineFault → Option LineFault
stop_after (Ok x) = None
stop_after (Err fault) = stop_of fault

-- the next line was cut off the bytes held, whatever is behind them
abbrev pub CutsLine : Reading → List ℕ → Reading → Type 0
CutsLine before line after =
    ((more : List ℕ) → next_of before.limits before.used (before.held ++ more) ≡ Line line (after.held ++ more))
    × (length line ≤ before.limits.line)
    × (after.used ≡ before.used + length line + 1)
    × (length before.held ≡ length line + 1 + length after.held)
    × (after.limits ≡ before.limits)
    × (after.stopped ≡ before.stopped)

-- this refusal is due, whatever is behind the bytes held
abbrev pub Refuses : Reading → LineFault → Type 0
Refuses reader Memory = Unit {0}
Refuses reader Read = ⊥
Refuses reader (LineLimit len) = (len ≡ reader.limits.line + 1)
    × ((more : List ℕ) → next_of reader.limits reader.used (reader.held ++ more) ≡ LineTooLong)
Refuses reader (InputLimit len) = (len ≡ reader.limits.input + 1)
    × ((more : List ℕ) → next_of reader.limits reader.used (reader.held ++ more) ≡ InputTooLong)

-- the answer that is due where that comes next
abbrev pub IsDue : Limits → Next → Result (Option (Vec ℕ)) LineFault → Type 0
IsDue limits (Line text rest) answer = IsOkAnd answer (λ found. IsSomeAnd found (λ line. line.items ≡ text))
IsDue limits End answer = answer ≡ Ok None
IsDue limits LineTooLong answer = answer ≡ Err (LineLimit (limits.line + 1))
IsDue limits InputTooLong answer = answer ≡ Err (InputLimit (limits.input + 1))

-- whether another byte comes: one is next, and the input has room for it; or none is left
abbrev pub HasMore : Reading → List ℕ → Bool → Type 0
HasMore reader bytes more = MatchBool more ((0 < length bytes) × (reader.used < reader.limits.input)) (bytes ≡ [])

-- the next byte is the first past the input's limit
abbrev pub IsFirstPast : Reading → List ℕ → Type 0
IsFirstPast reader bytes = (0 < length bytes) × (reader.used ≡ reader.limits.input)

-- the answer that is due where it is asked whether another byte comes
abbrev pub IsMoreDue : Reading → List ℕ → Result Bool LineFault → Type 0
IsMoreDue reader bytes (Ok more) = HasMore reader bytes more
IsMoreDue reader bytes (Err fault) = (fault ≡ InputLimit (reader.limits.input + 1)) × IsFirstPast reader bytes
