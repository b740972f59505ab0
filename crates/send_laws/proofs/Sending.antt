-- Each message that a world of a script has sent fits its table, and its numbers have their widths, so that each of its
-- parts has a frame.
use Rattle.std.proofs.Common.{◌≡◌, ℕ, true, List, [], ◌∷◌, Option, Some, None, refl, sym, subst}
use Rattle.std.specs.List.{AllByRecursion}
use Rattle.stab_base.specs.declared.chunk_name.ChunkName.{ChunkName}
use Rattle.row_value.specs.declared.schema.Schema.{Schema}
use Rattle.row_value.specs.declared.pieces.Piece.{Piece}
use Rattle.row_value.specs.declared.pieces.Piece.TheVariants.{Keep, Fresh}
use Rattle.value_codec.specs.Spelling.{HasNameSpelling, HasPieceSpelling}
use Rattle.field_codec.specs.Forms.{IsOption}
use Rattle.row_store.specs.Spelling.{IsClient}
use Rattle.sync_msgs.specs.Spelling.{IsClient as IsClientNumber}
use Rattle.assemblies.proofs.Listing.{all-append}
use Rattle.step_tables.specs.Chunks.{flat, kept_in, is_named}
use Rattle.step_tables.specs.Members.{Among}
use Rattle.step_tables.specs.Messages.{Request, Header, Pulled, TornPulled, Message, SyncRequest, SyncResponse, PullRequest, PullResponse}
use Rattle.step_tables.specs.Messages.{TornRowRequest, TornRowResponse, table_of}
use Rattle.message_parts.specs.Splits.{may_split}
use Rattle.part_network.specs.Packets.{HasFrames}
use Rattle.frame_laws.specs.Sizes.{IsRowOf, IsSizedHeader}
use Rattle.frame_laws.proofs.Frames.{response_sent, pull_sent, none_pulled_sent, torn_sent, none_torn_sent, is_sent_in_frames}
use Rattle.world_tables.specs.World.{World, Packet, schema_at, chunk_in}
use Rattle.fair_laws.specs.Reached.{IsReached}
use Rattle.fair_laws.specs.Worlds.{IsRowOf as IsRowIn, IsFairMessage, IsFair}
use Rattle.fair_laws.proofs.Worlds.{reached_fair}
use Rattle.piece_laws.specs.Pieces.{NamesStand}
use Rattle.piece_laws.proofs.Worlds.{request_there}
use Rattle.piece_laws.proofs.Runs.{all_stand}
use Rattle.send_laws.specs.Widths.{HaveNameWidths, HavePieceWidths, HasRowWidths, HasRequestWidths, HasPulledWidths, HasTornPulledWidths, HasWidths}

-- ---- names of chunks

flat_names : (names : List (List ChunkName)) → HaveNameWidths names → AllByRecursion HasNameSpelling (flat names)
flat_names [] all = tt
flat_names (object ∷ names) all = all-append HasNameSpelling object (flat names) all.0 (flat_names names all.1)

flat_pieces : (pieces : List (List Piece)) → HavePieceWidths pieces → AllByRecursion HasPieceSpelling (flat pieces)
flat_pieces [] all = tt
flat_pieces (object ∷ pieces) all = all-append HasPieceSpelling object (flat pieces) all.0 (flat_pieces pieces all.1)

kept_names : (pieces : List Piece) → AllByRecursion HasPieceSpelling pieces → AllByRecursion HasNameSpelling (kept_in pieces)
kept_names [] all = tt
kept_names (Keep name ∷ pieces) all = (all.0, kept_names pieces all.1)
kept_names (Fresh ordinal ∷ pieces) all = kept_names pieces all.1

-- ---- messages

number_of : (client : ℕ) → IsClient client → IsClientNumber client
number_of client is = record { least = is.least; most = is.most }

sized_header : (schema : Schema) (h : Header) → IsRowOf schema h.content → is_named schema.chunk h.content h.names ≡ true → HasRowWidths h → IsSizedHeader schema h
sized_header schema h content named k = record {
  row = k.row;
  version = k.version;
  number = k.number;
  accepted = k.accepted;
  content = content;
  named = named;
  names = flat_names h.names k.names;
}

abbrev IsSent : World → Message → Type 0
IsSent w m = (may_split m ≡ true) × HasFrames (chunk_in (schema_at w (table_of m))) m

module _ (w : World) (fair : IsFair w) (names : NamesStand w) (packet : Packet) (sent : Among w.packets packet) where
  fair_as : (m : Message) → packet.message ≡ m → IsFairMessage (schema_at w) packet.from m
  fair_as m is = subst (IsFairMessage (schema_at w) packet.from) is (fair.packets packet sent)

  -- where the schema of its table is known
  with_schema : (m : Message) (schema : Schema) → schema_at w (table_of m) ≡ Some schema → (may_split m ≡ true) × HasFrames schema.chunk m → IsSent w m
  with_schema m schema known k = subst (λ (o : Option Schema). (may_split m ≡ true) × HasFrames (chunk_in o) m) (sym known) k

  request_sent : (q : Request) → packet.message ≡ SyncRequest q → HasRequestWidths q → IsSent w (SyncRequest q)
  request_sent q is k =
      let f = fair_as (SyncRequest q) is in
      let schema : Schema = f.0.0 in
      let stands = names.requests q (request_there w.packets packet q sent is) schema f.0.1 in
      with_schema (SyncRequest q) schema f.0.1
      (is_sent_in_frames schema (SyncRequest q) (fair.made q.table schema f.0.1).spelled
      (record {
        client = number_of q.client f.1;
        table = k.table;
        row = k.row;
        number = k.number;
        base = k.base;
        content = record { fit = f.0.2; words = k.words };
        spelled = stands.0;
        names = kept_names (flat q.pieces) (flat_pieces q.pieces k.pieces);
      }))

  pulled_sent : (p : Pulled) → packet.message ≡ PullResponse p → HasPulledWidths p → (o : Option Header) → p.header ≡ o → IsSent w (PullResponse p)
  pulled_sent p is k None none =
      none_pulled_sent (chunk_in (schema_at w p.table)) p none (number_of p.client (fair_as (PullResponse p) is).1) k.table k.from k.to k.latest
  pulled_sent p is k (Some header) at =
      let f = fair_as (PullResponse p) is in
      let row : IsRowIn (schema_at w p.table) header.content = (f.0 header at).1 in
      let schema : Schema = row.0 in
      let widths : HasRowWidths header = subst (IsOption HasRowWidths) at k.header in
      let named = (names.headers packet sent p is header at schema row.1).1 in
      with_schema (PullResponse p) schema row.1
      (is_sent_in_frames schema (PullResponse p) (fair.made p.table schema row.1).spelled
      (record {
        client = number_of p.client f.1;
        table = k.table;
        from = k.from;
        to = k.to;
        latest = k.latest;
        header = subst (IsOption (IsSizedHeader schema)) (sym at) (sized_header schema header (record { fit = row.2; words = widths.words }) named widths);
      }))

  torn_answer_sent : (t : TornPulled) → packet.message ≡ TornRowResponse t → HasTornPulledWidths t → (o : Option Header) → t.header ≡ o → IsSent w (TornRowResponse t)
  torn_answer_sent t is k None none = none_torn_sent (chunk_in (schema_at w t.table)) t none (number_of t.client (fair_as (TornRowResponse t) is).1) k.table k.row
  torn_answer_sent t is k (Some header) at =
      let f = fair_as (TornRowResponse t) is in
      let row : IsRowIn (schema_at w t.table) header.content = (f.0 header at).1 in
      let schema : Schema = row.0 in
      let widths : HasRowWidths header = subst (IsOption HasRowWidths) at k.header in
      let named = (names.torn packet sent t is header at schema row.1).1 in
      with_schema (TornRowResponse t) schema row.1
      (is_sent_in_frames schema (TornRowResponse t) (fair.made t.table schema row.1).spelled
      (record {
        client = number_of t.client f.1;
        table = k.table;
        row = k.row;
        header = subst (IsOption (IsSizedHeader schema)) (sym at) (sized_header schema header (record { fit = row.2; words = widths.words }) named widths);
      }))

  is_sent : (m : Message) → packet.message ≡ m → HasWidths m → IsSent w m
  is_sent (SyncRequest q) is k = request_sent q is k
  is_sent (SyncResponse r) is k =
      response_sent (chunk_in (schema_at w r.table)) r
      (record { client = number_of r.client (fair_as (SyncResponse r) is); table = k.table; row = k.row; number = k.number; outcome = k.outcome })
  is_sent (PullRequest q) is k =
      pull_sent (chunk_in (schema_at w q.table)) q (record { client = number_of q.client (fair_as (PullRequest q) is); table = k.table; position = k.position })
  is_sent (PullResponse p) is k = pulled_sent p is k p.header refl
  is_sent (TornRowRequest q) is k =
      torn_sent (chunk_in (schema_at w q.table)) q (record { client = number_of q.client (fair_as (TornRowRequest q) is); table = k.table; row = k.row })
  is_sent (TornRowResponse t) is k = torn_answer_sent t is k t.header refl

pub sent_in_frames : (w : World) (packet : Packet) → IsReached w → Among w.packets packet → HasWidths packet.message → IsSent w packet.message
sent_in_frames w packet r sent k = is_sent w (reached_fair w r) (subst NamesStand (sym r.is) (all_stand r.run)) packet sent packet.message refl k
