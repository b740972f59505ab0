-- A run of wires beside a run of whole worlds, turn by turn. What either has sent so far is a list of the nodes to
-- which it sent packets, in order.
use Rattle.std.specs.Prelude.{◌≡◌, ◌⊎◌, ℕ, Bool, true, false, List, [], ◌∷◌, ◌++◌, slice_get, Option, Some, MatchBool}
use Rattle.std.specs.List.{AllByRecursion}
use Rattle.stab_base.specs.declared.node.Node.{Node}
use Rattle.stab_base.specs.declared.node.Node.TheVariants as nodes
use Rattle.table_model.specs.declared.event.Event.{Event}
use Rattle.table_model.specs.declared.event.Event.TheVariants as events
use Rattle.step_tables.specs.Facts.{Line, AnswerLine, FactLine}
use Rattle.step_tables.specs.Facts as facts
use Rattle.world_tables.specs.Quiet.{sent_in}
use Rattle.world_tables.specs.Turns.{Turn}

-- ---- lines

-- whether a line tells that a packet was sent
abbrev pub is_sending : Line → Bool
is_sending (FactLine (facts.Sent packet from to name)) = true
is_sending other = false

-- some such lines, and one at least
pub record AreSendings (lines : List Line) : Type 0 where
  pub some : lines ≡ [] → ⊥
  pub all : AllByRecursion (λ (line : Line). is_sending line ≡ true) lines

-- what the wire writes for a line of the whole world: for each packet that is sent one for each of its parts
abbrev pub IsLineAlike : List Line → Line → Type 0
IsLineAlike front line = MatchBool (is_sending line) (AreSendings front) (front ≡ line ∷ [])

abbrev pub AreLinesAlike : List Line → List Line → Type 0
AreLinesAlike lines [] = lines ≡ []
AreLinesAlike lines (line ∷ whole) =
    (front : List Line) × (rest : List Line) × (lines ≡ front ++ rest) × IsLineAlike front line
    × AreLinesAlike rest whole

-- ---- events

-- a part comes to a node where a packet comes to it, or where that client pulls
abbrev pub IsBrought : Option Node → List Node → Event → Type 0
IsBrought to whole (events.Deliver packet) = slice_get whole packet ≡ to
IsBrought to whole (events.Pull client table) = to ≡ Some (nodes.Client client)
IsBrought to whole other = ⊥

-- where these were sent on the wire, and in the whole world
abbrev pub IsEventAlike : List Node → List Node → Event → Event → Type 0
IsEventAlike sent whole (events.Deliver packet) other = IsBrought (slice_get sent packet) whole other
IsEventAlike sent whole event other = other ≡ event

-- ---- turns

pub record IsTurnAlike (sent whole : List Node) (turn other : Turn) : Type 0 where
  pub event : IsEventAlike sent whole turn.event other.event
  pub lines : AreLinesAlike turn.lines other.lines

-- a part that is kept or dropped, or a number of no part: the whole world has no such turn
abbrev pub IsLone : Event → List Line → Type 0
IsLone (events.Deliver packet) lines =
    (lines ≡ AnswerLine facts.Done ∷ [])
    ⊎ ((count : ℕ) × (lines ≡ AnswerLine (facts.Refuses (facts.NoPacket count)) ∷ []))
IsLone other lines = ⊥

abbrev pub AreAlikeFrom : List Node → List Node → List Turn → List Turn → Type 0
AreAlikeFrom sent whole [] others = others ≡ []
AreAlikeFrom sent whole (turn ∷ turns) others =
    (IsLone turn.event turn.lines × AreAlikeFrom (sent ++ sent_in turn.lines) whole turns others)
    ⊎ ((other : Turn) × (rest : List Turn) × (others ≡ other ∷ rest) × IsTurnAlike sent whole turn other
    × AreAlikeFrom (sent ++ sent_in turn.lines) (whole ++ sent_in other.lines) turns rest)

-- the turns of the wire, and those of the whole world
abbrev pub AreAlike : List Turn → List Turn → Type 0
AreAlike turns others = AreAlikeFrom [] [] turns others
