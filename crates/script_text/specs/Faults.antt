-- A fault at its word.
use Rattle.std.specs.Prelude.{ℕ}
use Rattle.script_words.specs.declared.code.Code.{Code}
use Rattle.script_words.specs.Codes.{number}
use Rattle.script_text.specs.declared.fault.BadLine.{BadLine}

-- this code at the word of this index
abbrev pub bad : Code → ℕ → BadLine
bad code at = record { code = number code; word = at }
