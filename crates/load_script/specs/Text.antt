-- The lines of a script that is made from a number, without their newlines.
use Rattle.std.specs.Prelude.{ℕ, List, [], ◌∷◌, ◌++◌, codes}
use Rattle.std.specs.Fmt.{decimal}
use Rattle.hex.specs.Hex.{encode_lower}

abbrev pub client_name : ℕ → List ℕ
client_name c = codes "C" ++ decimal c

abbrev pub store_name : ℕ → List ℕ
store_name s = codes "S" ++ decimal s

-- a client, which knows the three tables
abbrev pub client_line : ℕ → List ℕ
client_line c = codes "client C" ++ (decimal c ++ codes " - T1,T2,T3")

-- a row's number, in twelve hex digits
abbrev pub row_text : ℕ → List ℕ
row_text r = codes "00000000-0000-4000-8000-" ++ encode_lower (0 ∷ 0 ∷ 0 ∷ 0 ∷ 0 ∷ r ∷ [])

-- a row's values: a number, and an object of so many bytes that are all alike
abbrev pub values_text : ℕ → ℕ → ℕ → List ℕ
values_text n len byte =
    decimal n ++ (codes " r:" ++ (decimal len ++ (codes ":" ++ encode_lower (byte ∷ []))))

abbrev pub write_line : ℕ → ℕ → ℕ → List ℕ → List ℕ
write_line c t r values =
    codes "write C" ++ (decimal c ++ (codes " T" ++ (decimal t
    ++ (codes " " ++ (row_text r ++ (codes " " ++ values))))))

abbrev pub delete_line : ℕ → ℕ → ℕ → List ℕ
delete_line c t r = codes "delete C" ++ (decimal c ++ (codes " T" ++ (decimal t ++ (codes " " ++ row_text r))))

abbrev pub sync_line : ℕ → ℕ → List ℕ
sync_line c t = codes "sync C" ++ (decimal c ++ (codes " T" ++ decimal t))

abbrev pub pull_line : ℕ → ℕ → List ℕ
pull_line c t = codes "pull C" ++ (decimal c ++ (codes " T" ++ decimal t))

abbrev pub deliver_line : ℕ → List ℕ
deliver_line packet = codes "deliver " ++ decimal packet

-- a word and the node that it is said of
abbrev pub said_of : List ℕ → List ℕ → List ℕ
said_of word node = word ++ (codes " " ++ node)

abbrev pub crash_line : List ℕ → ℕ → ℕ → List ℕ
crash_line node step luck = codes "crash " ++ (node ++ (codes " " ++ (decimal step ++ (codes " " ++ decimal luck))))

-- a node is held, does what the line says, crashes in the midst of it, and comes back
abbrev pub crash_lines : List ℕ → List ℕ → ℕ → ℕ → List (List ℕ)
crash_lines node line step luck =
    said_of (codes "hold") node ∷ line ∷ crash_line node step luck ∷ said_of (codes "start") node
    ∷ said_of (codes "do") node ∷ said_of (codes "free") node ∷ []
