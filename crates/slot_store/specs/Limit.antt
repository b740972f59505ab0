-- How many tables there may be. They are numbered from 1.
use Rattle.std.specs.Prelude.{ℕ}

abbrev pub tables_most : ℕ
tables_most = 64
