-- Worked scripts with what they write.
use Rattle.std.specs.Prelude.{ℕ, List, [], ◌∷◌, map, codes, Option, None, pos}
use Rattle.std.specs.List.{range_with_len}
use Rattle.stab_base.specs.declared.chunk_name.ChunkName.{ChunkName}
use Rattle.stab_base.specs.declared.node.Node.{Node}
use Rattle.stab_base.specs.declared.node.Node.TheVariants as nodes
use Rattle.row_value.specs.declared.content.Cell.TheVariants as cells
use Rattle.row_value.specs.declared.content.Content.{Content}
use Rattle.row_value.specs.declared.content.Content.TheVariants.{Row}
use Rattle.row_value.specs.declared.schema.ColumnKind.TheVariants as kinds
use Rattle.row_value.specs.declared.schema.Schema.{Schema}
use Rattle.row_value.specs.declared.schema.Scheme.{Scheme}
use Rattle.row_value.specs.declared.schema.Scheme.TheVariants.{Strong, Causal, Eventual}
use Rattle.table_model.specs.declared.entry.Entry.{Entry}
use Rattle.table_model.specs.declared.event.Event.{Event}
use Rattle.table_model.specs.declared.event.Event.TheVariants as events
use Rattle.table_model.specs.declared.message_name.MessageName.{MessageName}
use Rattle.table_model.specs.declared.message_name.MessageName.TheVariants as names
use Rattle.step_tables.specs.Facts.{ClientFact, Fact, Shown, Line, AnswerLine, FactLine}
use Rattle.step_tables.specs.Facts as facts
use Rattle.step_tables.specs.Messages.{Luck}
use Rattle.step_tables.specs.Messages as lucks
use Rattle.world_tables.specs.World.{no_lucks}
use Rattle.step_tables.specs.Sayings.{Said, nothing_said, hear_lines}
use Rattle.world_tables.specs.Turns.{Turn, Happening, transcript_of}
use Rattle.world_tables.specs.Sound.{scheme_for}

-- the one Store of these scripts
abbrev pub the_store : Node
the_store = nodes.Store 1

-- a table of one number
abbrev pub notes : Scheme → Schema
notes scheme = record {
  name = codes "notes";
  scheme = scheme;
  chunk = 64;
  columns = record { name = codes "n"; kind = kinds.Int } ∷ [];
}

abbrev pub int : ℕ → Content
int n = Row (cells.Int (pos n) ∷ []) []

abbrev pub the_row : List ℕ
the_row = 0 ∷ 0 ∷ 0 ∷ 0 ∷ 0 ∷ 0 ∷ 64 ∷ 0 ∷ 128 ∷ 0 ∷ 0 ∷ 0 ∷ 0 ∷ 0 ∷ 0 ∷ 1 ∷ []

abbrev pub happens : Event → Happening
happens event = record { event = event; lucks = no_lucks }

abbrev pub turn : Event → List Line → Turn
turn event lines = record { event = event; lines = lines }

abbrev pub told : ClientFact → Line
told fact = FactLine (facts.Client fact)

abbrev pub wrote_content : ℕ → ℕ → ℕ → Content → ClientFact
wrote_content client number read content =
    facts.Wrote (record {
      client = client;
      number = number;
      table = 1;
      row = the_row;
      read = read;
      content = content;
    })

abbrev pub wrote : ℕ → ℕ → ℕ → ℕ → ClientFact
wrote client number read n = wrote_content client number read (int n)

abbrev pub entry_of : ℕ → ℕ → ℕ → ℕ → Entry
entry_of version client number base =
    record {
      row = the_row;
      version = version;
      client = client;
      number = number;
      base = base;
    }

abbrev pub accepted : ℕ → ℕ → ℕ → ℕ → Line
accepted version client number base = FactLine (facts.Accepted 1 (entry_of version client number base))

abbrev pub sent : ℕ → Node → Node → MessageName → Line
sent packet from to name = FactLine (facts.Sent packet from to name)

abbrev pub late_repeat : List Happening
late_repeat =
    happens (events.Store 1)
    ∷ happens (events.Table 1 (notes Eventual))
    ∷ happens (events.Client 1 None (1 ∷ []))
    ∷ happens (events.Client 2 None (1 ∷ []))
    ∷ happens (events.Write 1 1 the_row (int 5))
    ∷ happens (events.Sync 1 1)
    ∷ happens (events.Deliver 0)
    ∷ happens (events.Deliver 1)
    ∷ happens (events.Write 1 1 the_row (int 6))
    ∷ happens (events.Sync 1 1)
    ∷ happens (events.Deliver 2)
    ∷ happens (events.Deliver 0)
    ∷ happens (events.StoreShow 1 the_row)
    ∷ []

abbrev pub late_repeat_written : List Turn
late_repeat_written =
    turn (events.Store 1) []
    ∷ turn (events.Table 1 (notes Eventual)) []
    ∷ turn (events.Client 1 None (1 ∷ [])) []
    ∷ turn (events.Client 2 None (1 ∷ [])) []
    ∷ turn (events.Write 1 1 the_row (int 5)) (AnswerLine (facts.Number 1) ∷ told (wrote 1 1 0 5) ∷ [])
    ∷ turn (events.Sync 1 1) (AnswerLine (facts.Number 1) ∷ sent 0 (nodes.Client 1) the_store names.SyncRequest ∷ [])
    ∷ turn (events.Deliver 0) (AnswerLine facts.Done ∷ accepted 1 1 1 0
    ∷ sent 1 the_store (nodes.Client 1) names.SyncResponse ∷ [])
    ∷ turn (events.Deliver 1) (AnswerLine facts.Done ∷ told (facts.Acked 1 1 1 the_row 1) ∷ [])
    ∷ turn (events.Write 1 1 the_row (int 6)) (AnswerLine (facts.Number 2) ∷ told (wrote 1 2 1 6) ∷ [])
    ∷ turn (events.Sync 1 1) (AnswerLine (facts.Number 1) ∷ sent 2 (nodes.Client 1) the_store names.SyncRequest ∷ [])
    ∷ turn (events.Deliver 2) (AnswerLine facts.Done ∷ accepted 2 1 2 1
    ∷ sent 3 the_store (nodes.Client 1) names.SyncResponse ∷ [])
    ∷ turn (events.Deliver 0) (AnswerLine facts.Done ∷ sent 4 the_store (nodes.Client 1) names.SyncResponse ∷ [])
    ∷ turn (events.StoreShow 1 the_row) (AnswerLine (facts.Stores 2 (int 6)) ∷ [])
    ∷ []

abbrev pub read_before_write_is_no_conflict : List Happening
read_before_write_is_no_conflict =
    happens (events.Store 1)
    ∷ happens (events.Table 1 (notes Causal))
    ∷ happens (events.Client 1 None (1 ∷ []))
    ∷ happens (events.Client 2 None (1 ∷ []))
    ∷ happens (events.Write 1 1 the_row (int 5))
    ∷ happens (events.Sync 1 1)
    ∷ happens (events.Deliver 0)
    ∷ happens (events.Pull 2 1)
    ∷ happens (events.Deliver 2)
    ∷ happens (events.Deliver 3)
    ∷ happens (events.Write 2 1 the_row (int 6))
    ∷ happens (events.Sync 2 1)
    ∷ happens (events.Deliver 4)
    ∷ happens (events.Pull 1 1)
    ∷ happens (events.Deliver 6)
    ∷ happens (events.Deliver 7)
    ∷ happens (events.Show 1 1 the_row)
    ∷ []

-- what that writes, but for the number that the second client writes, the version of the acknowledgement, and what is
-- shown at the end
abbrev pub read_before_write : ℕ → ℕ → Shown → List Turn
read_before_write second acked shown =
    turn (events.Store 1) []
    ∷ turn (events.Table 1 (notes Causal)) []
    ∷ turn (events.Client 1 None (1 ∷ [])) []
    ∷ turn (events.Client 2 None (1 ∷ [])) []
    ∷ turn (events.Write 1 1 the_row (int 5)) (AnswerLine (facts.Number 1) ∷ told (wrote 1 1 0 5) ∷ [])
    ∷ turn (events.Sync 1 1) (AnswerLine (facts.Number 1) ∷ sent 0 (nodes.Client 1) the_store names.SyncRequest ∷ [])
    ∷ turn (events.Deliver 0) (AnswerLine facts.Done ∷ accepted 1 1 1 0
    ∷ sent 1 the_store (nodes.Client 1) names.SyncResponse ∷ [])
    ∷ turn (events.Pull 2 1) (AnswerLine facts.Done ∷ sent 2 (nodes.Client 2) the_store names.PullRequest ∷ [])
    ∷ turn (events.Deliver 2) (AnswerLine facts.Done ∷ sent 3 the_store (nodes.Client 2) names.PullResponse ∷ [])
    ∷ turn (events.Deliver 3) (AnswerLine facts.Done ∷ told (facts.New 2 1 the_row 1) ∷ told (facts.Position 2 1 1)
    ∷ [])
    ∷ turn (events.Write 2 1 the_row (int 6)) (AnswerLine (facts.Number 1) ∷ told (wrote 2 1 1 second) ∷ [])
    ∷ turn (events.Sync 2 1) (AnswerLine (facts.Number 1) ∷ sent 4 (nodes.Client 2) the_store names.SyncRequest ∷ [])
    ∷ turn (events.Deliver 4) (AnswerLine facts.Done ∷ accepted 2 2 1 1
    ∷ sent 5 the_store (nodes.Client 2) names.SyncResponse ∷ [])
    ∷ turn (events.Pull 1 1) (AnswerLine facts.Done ∷ sent 6 (nodes.Client 1) the_store names.PullRequest ∷ [])
    ∷ turn (events.Deliver 6) (AnswerLine facts.Done ∷ sent 7 the_store (nodes.Client 1) names.PullResponse ∷ [])
    ∷ turn (events.Deliver 7) (AnswerLine facts.Done ∷ told (facts.Acked 1 1 1 the_row acked)
    ∷ told (facts.New 1 1 the_row 2) ∷ told (facts.Position 1 1 2) ∷ [])
    ∷ turn (events.Show 1 1 the_row) (AnswerLine (facts.Shows shown) ∷ [])
    ∷ []

abbrev pub read_before_write_is_no_conflict_written : List Turn
read_before_write_is_no_conflict_written = read_before_write 6 1 (facts.Clean 2 (int 6))

abbrev pub causal_conflict : List Happening
causal_conflict =
    happens (events.Store 1)
    ∷ happens (events.Table 1 (notes Causal))
    ∷ happens (events.Client 1 None (1 ∷ []))
    ∷ happens (events.Client 2 None (1 ∷ []))
    ∷ happens (events.Write 1 1 the_row (int 5))
    ∷ happens (events.Write 2 1 the_row (int 6))
    ∷ happens (events.Sync 1 1)
    ∷ happens (events.Deliver 0)
    ∷ happens (events.Deliver 1)
    ∷ happens (events.Sync 2 1)
    ∷ happens (events.Deliver 2)
    ∷ happens (events.Deliver 3)
    ∷ happens (events.Deliver 4)
    ∷ happens (events.Deliver 5)
    ∷ happens (events.Show 2 1 the_row)
    ∷ happens (events.Write 2 1 the_row (int 7))
    ∷ []

abbrev pub causal_conflict_written : List Turn
causal_conflict_written =
    turn (events.Store 1) []
    ∷ turn (events.Table 1 (notes Causal)) []
    ∷ turn (events.Client 1 None (1 ∷ [])) []
    ∷ turn (events.Client 2 None (1 ∷ [])) []
    ∷ turn (events.Write 1 1 the_row (int 5)) (AnswerLine (facts.Number 1) ∷ told (wrote 1 1 0 5) ∷ [])
    ∷ turn (events.Write 2 1 the_row (int 6)) (AnswerLine (facts.Number 1) ∷ told (wrote 2 1 0 6) ∷ [])
    ∷ turn (events.Sync 1 1) (AnswerLine (facts.Number 1) ∷ sent 0 (nodes.Client 1) the_store names.SyncRequest ∷ [])
    ∷ turn (events.Deliver 0) (AnswerLine facts.Done ∷ accepted 1 1 1 0
    ∷ sent 1 the_store (nodes.Client 1) names.SyncResponse ∷ [])
    ∷ turn (events.Deliver 1) (AnswerLine facts.Done ∷ told (facts.Acked 1 1 1 the_row 1) ∷ [])
    ∷ turn (events.Sync 2 1) (AnswerLine (facts.Number 1) ∷ sent 2 (nodes.Client 2) the_store names.SyncRequest ∷ [])
    ∷ turn (events.Deliver 2) (AnswerLine facts.Done ∷ sent 3 the_store (nodes.Client 2) names.SyncResponse ∷ [])
    ∷ turn (events.Deliver 3) (AnswerLine facts.Done ∷ sent 4 (nodes.Client 2) the_store names.PullRequest ∷ [])
    ∷ turn (events.Deliver 4) (AnswerLine facts.Done ∷ sent 5 the_store (nodes.Client 2) names.PullResponse ∷ [])
    ∷ turn (events.Deliver 5) (AnswerLine facts.Done ∷ told (facts.Conflict 2 1 1 the_row 1)
    ∷ told (facts.Position 2 1 1) ∷ [])
    ∷ turn (events.Show 2 1 the_row) (AnswerLine (facts.Shows (facts.Contended 1 1 (int 6))) ∷ [])
    ∷ turn (events.Write 2 1 the_row (int 7)) (AnswerLine (facts.Refuses (facts.Conflicted 1)) ∷ [])
    ∷ []

abbrev pub strong_write_refused : List Happening
strong_write_refused =
    happens (events.Store 1)
    ∷ happens (events.Table 1 (notes Strong))
    ∷ happens (events.Client 1 None (1 ∷ []))
    ∷ happens (events.Client 2 None (1 ∷ []))
    ∷ happens (events.Write 1 1 the_row (int 5))
    ∷ happens (events.Write 2 1 the_row (int 6))
    ∷ happens (events.Write 2 1 the_row (int 7))
    ∷ happens (events.Deliver 0)
    ∷ happens (events.Deliver 1)
    ∷ happens (events.Deliver 2)
    ∷ happens (events.Deliver 3)
    ∷ happens (events.Show 2 1 the_row)
    ∷ []

abbrev pub strong_write_refused_written : List Turn
strong_write_refused_written =
    turn (events.Store 1) []
    ∷ turn (events.Table 1 (notes Strong)) []
    ∷ turn (events.Client 1 None (1 ∷ [])) []
    ∷ turn (events.Client 2 None (1 ∷ [])) []
    ∷ turn (events.Write 1 1 the_row (int 5)) (AnswerLine (facts.Number 1) ∷ told (wrote 1 1 0 5)
    ∷ sent 0 (nodes.Client 1) the_store names.SyncRequest ∷ [])
    ∷ turn (events.Write 2 1 the_row (int 6)) (AnswerLine (facts.Number 1) ∷ told (wrote 2 1 0 6)
    ∷ sent 1 (nodes.Client 2) the_store names.SyncRequest ∷ [])
    ∷ turn (events.Write 2 1 the_row (int 7)) (AnswerLine (facts.Refuses (facts.Outstanding 1)) ∷ [])
    ∷ turn (events.Deliver 0) (AnswerLine facts.Done ∷ accepted 1 1 1 0
    ∷ sent 2 the_store (nodes.Client 1) names.SyncResponse ∷ [])
    ∷ turn (events.Deliver 1) (AnswerLine facts.Done ∷ sent 3 the_store (nodes.Client 2) names.SyncResponse ∷ [])
    ∷ turn (events.Deliver 2) (AnswerLine facts.Done ∷ told (facts.Acked 1 1 1 the_row 1) ∷ [])
    ∷ turn (events.Deliver 3) (AnswerLine facts.Done ∷ told (facts.Refused 2 1 1 the_row 1)
    ∷ sent 4 (nodes.Client 2) the_store names.PullRequest ∷ [])
    ∷ turn (events.Show 2 1 the_row) (AnswerLine (facts.Refuses facts.NoRow) ∷ [])
    ∷ []

-- ---- told again

-- starts tell again what stands: a write, its entry, and, where the row was read since, its acknowledgement
abbrev pub told_by_starts : List Fact
told_by_starts =
    facts.Client (wrote 1 1 0 5)
    ∷ facts.Redone (wrote 1 1 0 5)
    ∷ facts.Client (wrote 2 1 0 6)
    ∷ facts.Accepted 1 (entry_of 1 1 1 0)
    ∷ facts.Forward 1 (entry_of 1 1 1 0)
    ∷ facts.Accepted 1 (entry_of 2 2 1 0)
    ∷ facts.Client (facts.Acked 1 1 1 the_row 1)
    ∷ facts.Client (facts.New 1 1 the_row 2)
    ∷ facts.Redone (facts.Acked 1 1 1 the_row 1)
    ∷ facts.Redone (facts.New 1 1 the_row 2)
    ∷ []

abbrev pub starts_retell : List Turn
starts_retell =
    turn (events.Table 1 (notes Eventual)) []
    ∷ turn (events.Deliver 0) (AnswerLine facts.Done ∷ map FactLine told_by_starts)
    ∷ []

-- ---- objects

-- a table of one object, whose chunks have 64 bytes
abbrev pub pictures : Schema
pictures = record {
  name = codes "pictures";
  scheme = Eventual;
  chunk = 64;
  columns = record { name = codes "o"; kind = kinds.Object } ∷ [];
}

-- so many bytes, all the same
abbrev pub object : ℕ → Content
object len = Row [] (map (λ (place : ℕ). 65) (range_with_len 0 len) ∷ [])

abbrev pub object_update : List Happening
object_update =
    happens (events.Store 1)
    ∷ happens (events.Table 1 pictures)
    ∷ happens (events.Client 1 None (1 ∷ []))
    ∷ happens (events.Write 1 1 the_row (object 65))
    ∷ happens (events.Sync 1 1)
    ∷ happens (events.Deliver 0)
    ∷ happens (events.Deliver 1)
    ∷ happens (events.Write 1 1 the_row (object 130))
    ∷ happens (events.Sync 1 1)
    ∷ happens (events.Deliver 2)
    ∷ []

abbrev pub object_update_written : List Turn
object_update_written =
    turn (events.Store 1) []
    ∷ turn (events.Table 1 pictures) []
    ∷ turn (events.Client 1 None (1 ∷ [])) []
    ∷ turn (events.Write 1 1 the_row (object 65)) (AnswerLine (facts.Number 1)
    ∷ told (wrote_content 1 1 0 (object 65)) ∷ [])
    ∷ turn (events.Sync 1 1) (AnswerLine (facts.Number 1) ∷ sent 0 (nodes.Client 1) the_store names.SyncRequest ∷ [])
    ∷ turn (events.Deliver 0) (AnswerLine facts.Done ∷ accepted 1 1 1 0
    ∷ sent 1 the_store (nodes.Client 1) names.SyncResponse ∷ [])
    ∷ turn (events.Deliver 1) (AnswerLine facts.Done ∷ told (facts.Acked 1 1 1 the_row 1) ∷ [])
    ∷ turn (events.Write 1 1 the_row (object 130)) (AnswerLine (facts.Number 2)
    ∷ told (wrote_content 1 2 1 (object 130)) ∷ [])
    ∷ turn (events.Sync 1 1) (AnswerLine (facts.Number 1) ∷ sent 2 (nodes.Client 1) the_store names.SyncRequest ∷ [])
    ∷ turn (events.Deliver 2) (AnswerLine facts.Done ∷ accepted 2 1 2 1
    ∷ sent 3 the_store (nodes.Client 1) names.SyncResponse ∷ [])
    ∷ []

abbrev pub named : ℕ → ℕ → ChunkName
named version ordinal = record { version = version; ordinal = ordinal }

-- the first chunk of the first object, which is the second one's too, and its other two
abbrev pub object_names : List ChunkName
object_names = named 1 0 ∷ named 2 0 ∷ named 2 1 ∷ []

-- ---- what was said

abbrev pub said_by : List Turn → Said
said_by some = hear_lines nothing_said (transcript_of some)

abbrev pub schemes_of : List Turn → ℕ → Scheme
schemes_of some = scheme_for (map (λ (t : Turn). t.event) some)
