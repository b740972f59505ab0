-- Each part of a message whose content fits its table has a frame.
use Rattle.std.proofs.Common.{◌≡◌, ℕ, ◌<◌, ◌≤◌, Bool, true, false, List, [], ◌∷◌, length, map, Option, Some, None, refl, sym, ◌∙◌, ap, subst, arith}
use Rattle.std.specs.Prelude.{◌&&◌, ◌^◌, option_map}
use Rattle.std.specs.List.{AllByRecursion}
use Rattle.std.proofs.lemmas.Bool.{and_parts}
use Rattle.row_value.specs.declared.schema.Schema.{Schema}
use Rattle.stab_base.specs.declared.chunk_name.ChunkName.{ChunkName}
use Rattle.row_value.specs.declared.content.Content.{Content}
use Rattle.row_value.specs.declared.content.Content.TheVariants as contents
use Rattle.row_value.specs.declared.pieces.Piece.{Piece}
use Rattle.value_codec.specs.Spelling.{AreKept, fresh_in}
use Rattle.value_codec.specs.SchemaSpelling.{HasSchemaSpelling}
use Rattle.field_codec.specs.Forms.{IsOption, option_spelling}
use Rattle.table_model.specs.declared.message.Message.TheVariants as kinds
use Rattle.sync_msgs.specs.Spelling.{IsClient, IsChunk, header_spelling, HasHeaderSpelling, HasOutcomeSpelling}
use Rattle.message_frames.specs.Frames.{HasFrame}
use Rattle.assemblies.specs.declared.awaiting.Awaited.{Awaited}
use Rattle.assemblies.specs.declared.sent.Sent.TheVariants as sents
use Rattle.assemblies.specs.Travel.{is_sent}
use Rattle.assemblies.specs.Places.{awaited_of}
use Rattle.assemblies.specs.Parts.{chunk_in}
use Rattle.step_tables.specs.Chunks.{flat, is_of_each, objects_of, are_counted, are_apart, kept_in}
use Rattle.step_tables.specs.Messages.{Request, Response, Pull, Header, Pulled, TornPull, TornPulled, Message, SyncRequest as Asking, SyncResponse as Responding, PullRequest as Pulling}
use Rattle.step_tables.specs.Messages.{PullResponse as Answering, TornRowRequest as AskingTorn, TornRowResponse as AnsweringTorn}
use Rattle.step_tables.specs.Messages as ends
use Rattle.part_tables.specs.Parts.{Fragment, BringsUp, BringsDown, spelled_by, kept, fragments_of, row_head}
use Rattle.part_tables.specs.Parts.{chunks_down, chunks_up, chunks_whole}
use Rattle.message_parts.specs.Parts.{outcome_at, row_header_at, fragment_at}
use Rattle.message_parts.specs.Splits.{has_words, row_has_words, may_split}
use Rattle.part_network.specs.Packets.{HasPartFrame, HasFrames}
use Rattle.frame_laws.specs.Sizes.{IsWord, IsTable, IsRow, IsSizedOutcome, IsSizedHeader, IsSizedRequest, IsSizedResponse, IsSizedPull, IsSizedPulled, IsSizedTornPull, IsSizedTornPulled, IsSized}
use Rattle.frame_laws.proofs.Bodies.{fragment_len, pull_len, pulled_len, request_len, response_len, torn_len, torn_answer_len, header_len}
use Rattle.frame_laws.proofs.Said.{pieces_back, numbered_spelled, names_spelled, kept_fresh}
use Rattle.frame_laws.proofs.Chunks.{IsSizedChunk}
use Rattle.frame_laws.proofs.Contents.{few_pieces, can_split, IsSplit, splits}

-- ---- chunks

record IsSizedFragment (f : Fragment) : Type 0 where
  pub client : IsClient f.client
  pub table : IsTable f.table
  pub row : IsRow f.row
  pub key : IsWord f.key
  pub column : f.column < 2 ^ 32
  pub place : f.place < 2 ^ 32
  pub bytes : IsChunk f.bytes

fragment_framed : (down : Bool) (f : Fragment) → IsSizedFragment f → HasFrame (kinds.ObjectFragment (fragment_at down f))
fragment_framed down f h = record {
  spelled = (h.client, (omega arith, (h.table, (h.row, (tt, (h.key, (h.column, (h.place, h.bytes))))))));
  room = omega (arith, fragment_len (fragment_at down f), h.row, h.bytes.most);
}

each_mapped : {X Y : Type 0} (f : X → Y) (P : X → Type 0) (Q : Y → Type 0) → ((x : X) → P x → Q (f x)) → (xs : List X) → AllByRecursion P xs → AllByRecursion Q (map f xs)
each_mapped f P Q holds [] all = tt
each_mapped f P Q holds (x ∷ xs) all = (holds x all.0, each_mapped f P Q holds xs all.1)

module _ (sends : Piece → Bool) (size client table : ℕ) (row : List ℕ) (key : ℕ) (content : Content) (pieces : List (List Piece))
    (is_client : IsClient client) (is_table : IsTable table) (is_row : IsRow row) (is_key : IsWord key) (split : IsSplit size content pieces) where
  fragments_sized : AllByRecursion IsSizedFragment (fragments_of sends size client table row key content pieces)
  fragments_sized = each_mapped
      (λ (it : Awaited). record {
        client = client;
        table = table;
        row = row;
        key = key;
        column = it.column;
        place = it.place;
        bytes = chunk_in size content it.column it.place;
      })
      (IsSizedChunk size content)
      IsSizedFragment
      (λ it h. record { client = is_client; table = is_table; row = is_row; key = is_key; column = h.0; place = h.1.0; bytes = h.1.1 })
      (awaited_of sends size (spelled_by content pieces))
      (split.chunks sends)

ups_framed : (fragments : List Fragment) → AllByRecursion IsSizedFragment fragments → AllByRecursion HasPartFrame (map (λ (f : Fragment). BringsUp f) fragments)
ups_framed fragments all = each_mapped (λ (f : Fragment). BringsUp f) IsSizedFragment HasPartFrame (λ f h. fragment_framed false f h) fragments all

downs_framed : (fragments : List Fragment) → AllByRecursion IsSizedFragment fragments → AllByRecursion HasPartFrame (map (λ (f : Fragment). BringsDown f) fragments)
downs_framed fragments all = each_mapped (λ (f : Fragment). BringsDown f) IsSizedFragment HasPartFrame (λ f h. fragment_framed true f h) fragments all

-- ---- rows of the Store

record IsSplitHeader (size : ℕ) (h : Header) : Type 0 where
  pub words : has_words h.content h.names ≡ true
  pub spelled : HasHeaderSpelling (row_header_at (row_head h))
  pub row : IsRow h.row
  pub version : IsWord h.version
  pub split : IsSplit size h.content (kept h.names)

none_new : (size : ℕ) (content : Content) (names : List (List ChunkName)) → is_of_each size (kept names) (objects_of content) ≡ true → AreKept (spelled_by content (kept names))
none_new size contents.Gone names each = tt
none_new size (contents.Row some objects) names each = ap fresh_in (pieces_back size objects (kept names) each) ∙ kept_fresh names

header_split : (schema : Schema) (h : Header) → HasSchemaSpelling schema → IsSizedHeader schema h → IsSplitHeader schema.chunk h
header_split schema h table s =
    let each = (and_parts (is_of_each schema.chunk h.names (objects_of h.content)) (are_apart (flat h.names)) s.named).0 in
    let spelled = names_spelled schema.chunk (objects_of h.content) h.names each s.names in
    let split = splits schema h.content (kept h.names) table s.content spelled in
    record {
      words = can_split schema h.content h.names table s.content each;
      spelled = (s.row, (s.version, (s.number, (s.accepted, record { spelled = split.spelled; kept = none_new schema.chunk h.content h.names spelled.each }))));
      row = s.row;
      version = s.version;
      split = split;
    }

option_split : (schema : Schema) (o : Option Header) → HasSchemaSpelling schema → IsOption (IsSizedHeader schema) o → IsOption (IsSplitHeader schema.chunk) o
option_split schema None table h = tt
option_split schema (Some header) table h = header_split schema header table h

option_words : (size : ℕ) (o : Option Header) → IsOption (IsSplitHeader size) o → row_has_words o ≡ true
option_words size None h = refl
option_words size (Some header) h = h.words

option_spelled : (size : ℕ) (o : Option Header) → IsOption (IsSplitHeader size) o → IsOption HasHeaderSpelling (option_map row_header_at (option_map row_head o))
option_spelled size None h = tt
option_spelled size (Some header) h = h.spelled

option_most : (size : ℕ) (o : Option Header) → IsOption (IsSplitHeader size) o → length (option_spelling header_spelling (option_map row_header_at (option_map row_head o))) ≤ 950578
option_most size None h = omega arith
option_most size (Some header) h = omega (arith, header_len (row_header_at (row_head header)), h.row, h.split.short)

-- ---- the six messages

abbrev IsSent : ℕ → Message → Type 0
IsSent size m = (may_split m ≡ true) × HasFrames size m

request_sent : (schema : Schema) (q : Request) → HasSchemaSpelling schema → IsSizedRequest schema q → IsSent schema.chunk (Asking q)
request_sent schema q table h =
    let pieces : List Piece = flat q.pieces in
    let both = and_parts (is_of_each schema.chunk q.pieces (objects_of q.content)) (are_counted 0 pieces && are_apart (kept_in pieces)) h.spelled in
    let numbered = (and_parts (are_counted 0 pieces) (are_apart (kept_in pieces)) both.1).0 in
    let few = few_pieces schema q.content q.pieces table h.content both.0 in
    let split = splits schema q.content q.pieces table h.content (numbered_spelled schema.chunk (objects_of q.content) q.pieces both.0 numbered few h.names) in (
      can_split schema q.content q.pieces table h.content both.0,
      (
        record {
          spelled = (h.client, (omega arith, (h.table, (h.row, (h.number, (h.base, split.spelled))))));
          room = omega (
            arith,
            request_len (record {
              client = q.client;
              token = 0;
              table = q.table;
              row = q.row;
              number = q.number;
              base = q.base;
              content = spelled_by q.content q.pieces;
            }),
            h.row,
            split.short,
          );
        },
        ups_framed (chunks_up schema.chunk q)
            (fragments_sized (is_sent sents.Fresh) schema.chunk q.client q.table q.row q.number q.content q.pieces h.client h.table h.row h.number split),
      ),
    )

outcome_spelled : (outcome : ends.Outcome) → IsSizedOutcome outcome → HasOutcomeSpelling (outcome_at outcome)
outcome_spelled (ends.Accepted version) h = h
outcome_spelled (ends.Again version) h = h
outcome_spelled (ends.Late last) h = h
outcome_spelled (ends.Stale latest) h = h
outcome_spelled (ends.Conflict latest) h = h
outcome_spelled ends.NeedWhole h = tt

pub response_sent : (size : ℕ) (r : Response) → IsSizedResponse r → IsSent size (Responding r)
response_sent size r h = (
  refl,
  (
    record {
      spelled = (h.client, (h.table, (h.row, (h.number, outcome_spelled r.outcome h.outcome))));
      room = omega (arith, response_len (record { client = r.client; table = r.table; row = r.row; number = r.number; outcome = outcome_at r.outcome }), h.row);
    },
    tt,
  ),
)

pub pull_sent : (size : ℕ) (q : Pull) → IsSizedPull q → IsSent size (Pulling q)
pull_sent size q h = (
  refl,
  (
    record {
      spelled = (h.client, (omega arith, (h.table, h.position)));
      room = omega (arith, pull_len (record { client = q.client; token = 0; table = q.table; position = q.position }));
    },
    tt,
  ),
)

chunks_down_sized : (size : ℕ) (p : Pulled) (o : Option Header) → IsClient p.client → IsTable p.table → IsOption (IsSplitHeader size) o → AllByRecursion IsSizedFragment (chunks_down size p o)
chunks_down_sized size p None client table h = tt
chunks_down_sized size p (Some header) client table h =
    fragments_sized (is_sent (sents.Above p.from)) size p.client p.table header.row header.version header.content (kept header.names) client table h.row h.version h.split

record AreSizedNumbers (p : Pulled) : Type 0 where
  pub client : IsClient p.client
  pub table : IsTable p.table
  pub from : IsWord p.from
  pub to : IsWord p.to
  pub latest : IsWord p.latest

pulled_split : (size : ℕ) (p : Pulled) → AreSizedNumbers p → IsOption (IsSplitHeader size) p.header → IsSent size (Answering p)
pulled_split size p h split = (
  option_words size p.header split,
  (
    record {
      spelled = (h.client, (h.table, (h.from, (h.to, (h.latest, option_spelled size p.header split)))));
      room = omega (
        arith,
        pulled_len (record {
          client = p.client;
          table = p.table;
          from = p.from;
          to = p.to;
          latest = p.latest;
          header = option_map row_header_at (option_map row_head p.header);
        }),
        option_most size p.header split,
      );
    },
    downs_framed (chunks_down size p p.header) (chunks_down_sized size p p.header h.client h.table split),
  ),
)

pulled_sent : (schema : Schema) (p : Pulled) → HasSchemaSpelling schema → IsSizedPulled schema p → IsSent schema.chunk (Answering p)
pulled_sent schema p table h =
    pulled_split schema.chunk p (record { client = h.client; table = h.table; from = h.from; to = h.to; latest = h.latest }) (option_split schema p.header table h.header)

-- an answer without a row
pub none_pulled_sent : (size : ℕ) (p : Pulled) → p.header ≡ None → IsClient p.client → IsTable p.table → IsWord p.from → IsWord p.to → IsWord p.latest → IsSent size (Answering p)
none_pulled_sent size p none client table from to latest =
    pulled_split size p (record { client = client; table = table; from = from; to = to; latest = latest }) (subst (IsOption (IsSplitHeader size)) (sym none) tt)

pub torn_sent : (size : ℕ) (q : TornPull) → IsSizedTornPull q → IsSent size (AskingTorn q)
torn_sent size q h = (
  refl,
  (
    record {
      spelled = (h.client, (omega arith, (h.table, h.row)));
      room = omega (arith, torn_len (record { client = q.client; token = 0; table = q.table; row = q.row }), h.row);
    },
    tt,
  ),
)

chunks_whole_sized : (size : ℕ) (t : TornPulled) (o : Option Header) → IsClient t.client → IsTable t.table → IsOption (IsSplitHeader size) o → AllByRecursion IsSizedFragment (chunks_whole size t o)
chunks_whole_sized size t None client table h = tt
chunks_whole_sized size t (Some header) client table h =
    fragments_sized (is_sent sents.All) size t.client t.table header.row header.version header.content (kept header.names) client table h.row h.version h.split

torn_answer_split : (size : ℕ) (t : TornPulled) → IsClient t.client → IsTable t.table → IsRow t.row → IsOption (IsSplitHeader size) t.header → IsSent size (AnsweringTorn t)
torn_answer_split size t client table row split = (
  option_words size t.header split,
  (
    record {
      spelled = (client, (table, (row, option_spelled size t.header split)));
      room = omega (
        arith,
        torn_answer_len (record {
          client = t.client;
          table = t.table;
          row = t.row;
          header = option_map row_header_at (option_map row_head t.header);
        }),
        row,
        option_most size t.header split,
      );
    },
    downs_framed (chunks_whole size t t.header) (chunks_whole_sized size t t.header client table split),
  ),
)

torn_answer_sent : (schema : Schema) (t : TornPulled) → HasSchemaSpelling schema → IsSizedTornPulled schema t → IsSent schema.chunk (AnsweringTorn t)
torn_answer_sent schema t table h = torn_answer_split schema.chunk t h.client h.table h.row (option_split schema t.header table h.header)

-- an answer without a row
pub none_torn_sent : (size : ℕ) (t : TornPulled) → t.header ≡ None → IsClient t.client → IsTable t.table → IsRow t.row → IsSent size (AnsweringTorn t)
none_torn_sent size t none client table row = torn_answer_split size t client table row (subst (IsOption (IsSplitHeader size)) (sym none) tt)

pub is_sent_in_frames : (schema : Schema) (m : Message) → HasSchemaSpelling schema → IsSized schema m → (may_split m ≡ true) × HasFrames schema.chunk m
is_sent_in_frames schema (Asking q) table h = request_sent schema q table h
is_sent_in_frames schema (Responding r) table h = response_sent schema.chunk r h
is_sent_in_frames schema (Pulling q) table h = pull_sent schema.chunk q h
is_sent_in_frames schema (Answering p) table h = pulled_sent schema p table h
is_sent_in_frames schema (AskingTorn q) table h = torn_sent schema.chunk q h
is_sent_in_frames schema (AnsweringTorn t) table h = torn_answer_sent schema t table h
