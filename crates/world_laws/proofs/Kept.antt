-- What a world keeps of what its lines say: a part for each table, each client and each packet.
use Rattle.std.proofs.Common.{◌≡◌, ◌≢◌, ◌⊎◌, ℕ, ◌+◌, ◌≤◌, ◌<◌, Bool, true, false, List, [], ◌∷◌, length, Option, Some, None}
use Rattle.std.specs.Prelude.{map}
use Rattle.stab_base.specs.declared.node.Node.{Node}
use Rattle.row_value.specs.declared.content.Content.{Content}
use Rattle.row_value.specs.declared.schema.Schema.{Schema}
use Rattle.row_value.specs.declared.schema.Scheme.{Scheme}
use Rattle.row_value.specs.declared.schema.Scheme.TheVariants.{Strong, Causal, Eventual}
use Rattle.table_model.specs.declared.entry.Entry.{Entry}
use Rattle.table_model.specs.declared.line.Write.{Write}
use Rattle.table_model.specs.declared.table_state.TableState.{TableState}
use Rattle.step_tables.specs.Store.{Stored, entries_of}
use Rattle.step_tables.specs.Facts.{Fact, Answer, Line}
use Rattle.step_tables.specs.Members.{Among}
use Rattle.step_tables.specs.Messages.{Request, Response, Pulled, TornPulled, Message, SyncRequest, SyncResponse, PullRequest, PullResponse, TornRowRequest, TornRowResponse}
use Rattle.step_tables.specs.Sayings.{Heard, nothing_heard, Said, hear_lines, write_of}
use Rattle.step_tables.specs.StoreMoves.{TableStore, new_disk}
use Rattle.step_tables.specs.ClientMoves.{Client}
use Rattle.step_tables.specs.Items.{IsBase}
use Rattle.store_laws.specs.Part.{Known, IsLawful, StorePart, IsWayTo}
use Rattle.client_laws.specs.Part.{Items, Sending, IsLapsed, Spans, ClientPart}
use Rattle.client_laws.specs.Part as part
use Rattle.world_tables.specs.World.{World, Packet, Hosted, Moved, WorldStep, schema_at, hosted_at, client_at, lines_from}
use Rattle.world_tables.specs.Sound.{AreSaid}
use Rattle.world_laws.proofs.Told.{SaidTold}

-- the lines tell this write of a table, and it was sent over this base
abbrev pub KnownIn : (ℕ → Heard) → (ℕ → List Sending) → ℕ → Known
KnownIn heard sent table c row n base x =
    (w : Write) × (write_of n (heard c).writes ≡ Some w) × (w.table ≡ table) × (w.row ≡ row) × (w.content ≡ x)
    × Among (sent c) (record { table = table; row = row; number = n; base = base })

-- a request: of a write, over a base up to which its client's own entries alone stand behind what was read
pub record IsGood (g : ℕ → Scheme) (c : ℕ) (h : Items) (t : Heard) (r : Sending) : Type 0 where
  pub write : Write
  pub written : write_of r.number t.writes ≡ Some write
  pub table_is : write.table ≡ r.table
  pub row_is : write.row ≡ r.row
  pub base : IsBase (h r.table) r.row r.base
  pub spans : Spans (g r.table) c r.number (h r.table) r.row write.read r.base
  pub low : r.base ≤ length (h r.table)

-- a number that was told as lost, in a table that isn't eventual
pub record IsGone (g : ℕ → Scheme) (c : ℕ) (h : Items) (sent : List Sending) (t : Heard) (table : ℕ) (row : List ℕ) (n : ℕ) : Type 0 where
  pub exact : g table ≢ Eventual
  pub write : Write
  pub written : write_of n t.writes ≡ Some write
  pub table_is : write.table ≡ table
  pub row_is : write.row ≡ row
  pub lapsed : IsLapsed c h sent n

abbrev pub IsLost : Heard → ℕ → List ℕ → ℕ → Type 0
IsLost t table row n = ((version : ℕ) × ((t.at table row).conflict n ≡ Some version)) ⊎ ((t.at table row).lost n ≡ true)

-- what was sent is good, and what was lost is so for good
pub record Lawful (g : ℕ → Scheme) (heard : ℕ → Heard) (h : Items) (sent : ℕ → List Sending) : Type 0 where
  pub good : (c : ℕ) (r : Sending) → Among (sent c) r → IsGood g c h (heard c) r
  pub gone : (c table : ℕ) (row : List ℕ) (n : ℕ) → IsLost (heard c) table row n → IsGone g c h (sent c) (heard c) table row n

-- each packet: a request comes from where its client is reached, and an answer goes there
abbrev pub IsFairMessage : (ℕ → Scheme) → (ℕ → Heard) → Items → (ℕ → List Sending) → Node → Node → Message → Type 0
IsFairMessage g heard h sent from to (SyncRequest q) =
    IsWayTo q.client from × KnownIn heard sent q.table q.client q.row q.number q.base q.content × IsBase (h q.table) q.row q.base
IsFairMessage g heard h sent from to (PullRequest pull) = IsWayTo pull.client from
IsFairMessage g heard h sent from to (SyncResponse r) = IsWayTo r.client to × part.IsOutcome g r.client h (sent r.client) r r.outcome
IsFairMessage g heard h sent from to (PullResponse pulled) = IsWayTo pulled.client to × part.IsHeader pulled.client h pulled pulled.header
IsFairMessage g heard h sent from to (TornRowRequest torn) = IsWayTo torn.client from
IsFairMessage g heard h sent from to (TornRowResponse answer) = IsWayTo answer.client to × part.IsTornHeader answer.client (h answer.table) answer.header

abbrev pub IsFairPacket : (ℕ → Scheme) → (ℕ → Heard) → Items → (ℕ → List Sending) → Packet → Type 0
IsFairPacket g heard h sent p = IsFairMessage g heard h sent p.from p.to p.message

-- a table whose declaration failed: it has nothing, and is down
abbrev pub nothing_there : TableState → TableStore
nothing_there state = record { disk = new_disk state; agenda = None }

pub record Kept (g : ℕ → Scheme) (w : World) (s : Said) : Type 0 where
  pub items : Items
  pub sent : ℕ → List Sending
  pub told : SaidTold s
  pub history : (table : ℕ) → s.history table ≡ entries_of (items table)
  pub lawful : Lawful g s.heard items sent
  pub schemes : (table : ℕ) (schema : Schema) → schema_at w table ≡ Some schema → schema.scheme ≡ g table
  pub declared : (table : ℕ) (hosted : Hosted) → hosted_at w table ≡ Some hosted → (schema : Schema) × (schema_at w table ≡ Some schema)
  pub tables : (table : ℕ) → IsLawful (g table) (KnownIn s.heard sent table) (items table)
  pub stores : (table : ℕ) (hosted : Hosted) → hosted_at w table ≡ Some hosted
      → StorePart (g table) table (KnownIn s.heard sent table) (items table) hosted.store × (hosted.history ≡ s.history table)
  pub unmade : (table : ℕ) (hosted : Hosted) → hosted_at w table ≡ Some hosted → hosted.made ≡ false → hosted.store ≡ nothing_there hosted.store.disk.state
  pub no_store : (table : ℕ) → hosted_at w table ≡ None → items table ≡ []
  pub clients : (c : ℕ) (node : Client) → client_at w c ≡ Some node → ClientPart g c items (sent c) (s.heard c) node
  pub no_client : (c : ℕ) → client_at w c ≡ None → (s.heard c ≡ nothing_heard) × (sent c ≡ [])
  pub packets : (p : Packet) → Among w.packets p → IsFairPacket g s.heard items sent p

-- what some moves of a world keep, whose packets have the numbers from this one on
pub record MoveSound (g : ℕ → Scheme) (s : Said) (w : World) (number : ℕ) (m : Moved) : Type 0 where
  pub lines : AreSaid g s (lines_from number m.outs)
  pub kept : Kept g m.world (hear_lines s (lines_from number m.outs))
  pub there : (table : ℕ) → hosted_at m.world table ≡ None → hosted_at w table ≡ None
