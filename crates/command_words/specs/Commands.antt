-- Which command the words behind the program's name are.
use Rattle.std.specs.Prelude.{ℕ, ◌+◌, ◌-◌, ◌*◌, ◌^◌, ◌==◌, ◌&&◌, ◌||◌, not, Bool, nat_lt, nat_le, fold, slice_index}
use Rattle.std.specs.Prelude.{List, [], ◌∷◌, length, Option, Some, None, option_map, if◌then◌else◌, codes, ◌≡◌}
use Rattle.std.specs.List.{list_all}
use Rattle.std.specs.Char.{is_ascii_digit}
use Rattle.std.specs.Str.{bytes_eq}
use Rattle.command_words.specs.declared.command.Command.{Command}
use Rattle.command_words.specs.declared.command.Command.TheVariants.{Run, Report, Load}
use Rattle.command_words.specs.declared.fault.WordsFault.{WordsFault}
use Rattle.command_words.specs.declared.fault.WordsFault.TheVariants.{Usage, Memory}

-- 1 to 20 digits, of which the first is a zero only where it is the only one
abbrev pub is_decimal : List ℕ → Bool
is_decimal text = list_all is_ascii_digit text && (nat_lt 0 (length text) && (nat_le (length text) 20
    && (length text == 1 || not (slice_index text 0 == 48))))

-- the number that digits write
abbrev pub value_of : List ℕ → ℕ
value_of digits = fold (λ n digit. n * 10 + (digit - 48)) 0 digits

-- the number that a word writes, below 2 ^ 64
abbrev pub number_of : List ℕ → Option ℕ
number_of text = if is_decimal text && nat_lt (value_of text) (2 ^ 64) then Some (value_of text) else None

abbrev pub one_word : List ℕ → Option Command
one_word word = if bytes_eq word (codes "run") then Some Run
    else (if bytes_eq word (codes "report") then Some Report else None)

abbrev pub two_words : List ℕ → List ℕ → Option Command
two_words word text = if bytes_eq word (codes "load") then option_map Load (number_of text) else None

-- the command that these words are
abbrev pub command_of : List (List ℕ) → Option Command
command_of [] = None
command_of (word ∷ []) = one_word word
command_of (word ∷ text ∷ []) = two_words word text
command_of (word ∷ text ∷ more ∷ rest) = None

-- why words aren't carried out: the usage is told only of words that are no command
abbrev pub IsCause : List (List ℕ) → WordsFault → Type 0
IsCause words (Usage text) = command_of words ≡ None
IsCause words Memory = Unit {0}
