-- The script that is made from a number: declarations, rounds, and an end.
use Rattle.std.specs.Prelude.{ℕ, ◌-◌, ◌==◌, nat_le, List, [], ◌∷◌, ◌++◌, ◌≤◌, length, map, codes, Option, None, Some}
use Rattle.std.specs.Prelude.{if◌then◌else◌}
use Rattle.std.specs.List.{range_with_len}
use Rattle.load_script.specs.Draws.{Drawn, ◌>>=◌, gives, pick, one_of}
use Rattle.load_script.specs.Text.{client_name, store_name, client_line, values_text, write_line, delete_line}
use Rattle.load_script.specs.Text.{sync_line, pull_line, deliver_line, crash_lines}
use Rattle.load_script.specs.declared.load.Load.{Load}
use Rattle.load_script.specs.declared.load.Stage.{Stage}
use Rattle.load_script.specs.declared.load.Stage.TheVariants.{Declarations, Rounds, Ended}

abbrev pub stores_and_tables : List (List ℕ)
stores_and_tables =
    codes "store S1" ∷ codes "store S2"
    ∷ codes "table T1 a strong 64 n:int o:object" ∷ codes "table T2 b causal 64 n:int o:object"
    ∷ codes "table T3 bar eventual 64 n:int o:object" ∷ []

unfoldable pub declarations : List (List ℕ)
declarations = stores_and_tables ++ map client_line (range_with_len 1 64)

-- a row's values: a number, a length and a byte
abbrev pub values_of : ℕ → Drawn (List ℕ)
values_of = do
  n ← pick 1000
  len ← pick 513
  byte ← pick 256
  gives (values_text n len byte)

-- a write of a row by a client
abbrev pub write_of : ℕ → ℕ → ℕ → ℕ → Drawn (List ℕ)
write_of c t r = do
  values ← values_of
  gives (write_line c t r values)

-- one of the packets that were sent
abbrev pub delivery_of : ℕ → ℕ → Drawn (List ℕ)
delivery_of sent = do
  packet ← pick sent
  gives (deliver_line packet)

-- a node crashes in the midst of a line
abbrev pub crash_of : List ℕ → List ℕ → ℕ → Drawn (List (List ℕ))
crash_of node line = do
  step ← pick 5
  luck ← pick 2
  gives (crash_lines node line step luck)

abbrev pub client_crash : ℕ → ℕ → ℕ → ℕ → Drawn (List (List ℕ))
client_crash c t r = do
  line ← write_of c t r
  crash_of (client_name c) line

-- the same of a Store, which crashes in the midst of a delivery
abbrev pub delivered_crash : ℕ → ℕ → ℕ → Drawn (List (List ℕ))
delivered_crash sent s = do
  line ← delivery_of sent
  crash_of (store_name s) line

-- one line alone
abbrev pub alone : (ℕ → Drawn (List ℕ)) → ℕ → Drawn (List (List ℕ))
alone some = do
  line ← some
  gives (line ∷ [])

abbrev pub deliver_or_pull : ℕ → ℕ → ℕ → ℕ → Drawn (List (List ℕ))
deliver_or_pull c t sent = alone (if sent == 0 then gives (pull_line c t) else delivery_of sent)

abbrev pub store_crash : ℕ → ℕ → ℕ → ℕ → Drawn (List (List ℕ))
store_crash c t sent = do
  s ← one_of 2
  if sent == 0 then gives (sync_line c t ∷ []) else delivered_crash sent s

-- what a round does at client c, table t and row r, by what was drawn for it
unfoldable pub act : ℕ → ℕ → ℕ → ℕ → ℕ → ℕ → Drawn (List (List ℕ))
act sent c t r kind =
    if nat_le kind 3 then alone (write_of c t r)
    else (if kind == 4 then gives (sync_line c t ∷ [])
    else (if kind == 5 then gives (pull_line c t ∷ [])
    else (if kind == 6 then gives (delete_line c t r ∷ [])
    else (if kind == 7 then deliver_or_pull c t sent
    else (if kind == 8 then client_crash c t r
    else store_crash c t sent)))))

-- one round, where so many packets have been sent
unfoldable pub round : ℕ → ℕ → Drawn (List (List ℕ))
round sent = do
  c ← one_of 64
  t ← one_of 3
  r ← one_of 32
  a ← pick 10
  act sent c t r a

abbrev pub end : List (List ℕ)
end = codes "settle" ∷ []

-- the rounds one behind the other, with what has been sent before each of them
abbrev pub rounds : List ℕ → ℕ → List (List ℕ)
rounds [] x = []
rounds (sent ∷ more) x = (round sent x).made ++ rounds more (round sent x).x

-- the whole, with what has been sent before each round
abbrev pub script_of : ℕ → List ℕ → List (List ℕ)
script_of number sent = declarations ++ (rounds sent number ++ end)

-- ---- a group at a time

abbrev pub start : ℕ → Load
start number = record { x = number; stage = Declarations }

abbrev pub group_at : ℕ → ℕ → Stage → Option (List (List ℕ) × Load)
group_at x sent Declarations = Some (declarations, record { x = x; stage = Rounds 4000 })
group_at x sent (Rounds left) =
    if left == 0 then Some (end, record { x = x; stage = Ended })
    else Some ((round sent x).made, record { x = (round sent x).x; stage = Rounds (left - 1) })
group_at x sent Ended = None

-- the next group of lines, where so many packets have been sent, and what goes on behind it
abbrev pub next_group : Load → ℕ → Option (List (List ℕ) × Load)
next_group load sent = group_at load.x sent load.stage

abbrev pub and_then : Option (List (List ℕ) × Load) → (Load → List (List ℕ)) → List (List ℕ)
and_then None rest = []
and_then (Some group) rest = group.0 ++ rest group.1

-- the groups one behind the other, with what has been sent before each of them
abbrev pub groups : Load → List ℕ → List (List ℕ)
groups load [] = []
groups load (sent ∷ more) = and_then (next_group load sent) (λ behind. groups behind more)

-- no line is longer
abbrev pub IsShort : List ℕ → Type 0
IsShort line = length line ≤ 62
