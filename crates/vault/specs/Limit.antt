-- How long a payload may be, in bytes.
use Rattle.std.specs.Prelude.{ℕ}

abbrev pub payload_most : ℕ
payload_most = 8388608
