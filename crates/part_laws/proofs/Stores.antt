-- What a table at the Store makes of parts of requests that were sent to it.
use Rattle.std.proofs.Common.{◌≡◌, inl, inr, ℕ, ◌<◌, Bool, true, false, List, [], ◌∷◌, ◌++◌, length, Option, Some, None, refl, sym, ◌∙◌, ap, subst, true≢false}
use Rattle.std.specs.Prelude.{◌==◌, ◌&&◌, ◌||◌, not, nat_lt, if◌then◌else◌}
use Rattle.std.specs.List.{find, list_any}
use Rattle.std.proofs.lemmas.Bool.{and_parts, eqb-true}
use Rattle.stab_base.specs.declared.chunk_name.ChunkName.{ChunkName}
use Rattle.row_value.specs.declared.content.Content.{Content}
use Rattle.row_value.specs.declared.pieces.Piece.{Piece}
use Rattle.row_value.specs.declared.pieces.Piece.TheVariants.{Keep}
use Rattle.row_value.specs.declared.schema.Scheme.{Scheme}
use Rattle.table_model.specs.History.{same_row}
use Rattle.chunker.specs.Sized.{sized}
use Rattle.assemblies.specs.declared.sent.Sent.TheVariants as sents
use Rattle.assemblies.specs.Travel.{is_sent}
use Rattle.assemblies.specs.Places.{awaited_of}
use Rattle.assemblies.specs.Gathering.{Slot, waiting, taken, takes, is_whole}
use Rattle.assemblies.specs.Gathering as gathering
use Rattle.assemblies.specs.Parts.{chunk_in, joined}
use Rattle.assemblies.proofs.Mixes.{places_stay, places_waiting, none_came, more_came}
use Rattle.step_tables.specs.Chunks.{Named, same_name, flat, each_chunk, is_of_each, objects_of, chunks_in, chunks_of, is_spelled, are_counted, are_apart, kept_in}
use Rattle.step_tables.specs.Store.{Stored, current_of, is_of_row}
use Rattle.step_tables.specs.Members.{Among}
use Rattle.step_tables.specs.Messages.{Request, Message, SyncRequest, PullRequest, TornRowRequest, table_of}
use Rattle.step_tables.specs.StoreMoves.{StoreDisk, store_step, Take, yours_in, version_of}
use Rattle.step_tables.specs.StoreMoves as store_moves
use Rattle.step_tables.proofs.Lists.{among_none, among_left, among_last, among_found, find_some, same_row-is}
use Rattle.part_tables.specs.Parts.{Part, Asks, Responds, Pulls, Answers, BringsUp, BringsDown, AsksTorn, AnswersTorn, RequestHead, Fragment, spelled_by, pieces_in, head_of, chunks_up}
use Rattle.part_tables.specs.StoreParts.{Gathering, Taken, Whole, Waits, StoreTaken, is_of_client, without_client, is_as_long, has_kept_by_len, bytes_in, bytes_of, is_answered, assembled, weighed}
use Rattle.part_tables.specs.StoreParts.{asked, waits_for, brought_to, parted}
use Rattle.part_tables.specs.StoreParts as store_parts
use Rattle.piece_laws.specs.Pieces.{IsNamed, NamesOne, KeepsKnown}
use Rattle.part_laws.specs.Lengths.{AreAsLong}
use Rattle.part_laws.specs.Lengths as same_lengths
use Rattle.part_laws.specs.Gathers.{AreSent, IsGathered, Gathers, IsPart, AreTakenAlike, IsOfRequest, IsTakenAsSent, ComesAs}
use Rattle.part_laws.proofs.Lengths.{as_long, pieces_back}
use Rattle.part_laws.proofs.Answers.{kept_by_len, answered_alike}
use Rattle.part_laws.proofs.Members.{all_among, any_among, each_among, each_filter}
use Rattle.part_laws.proofs.Names.{same_is}
use Rattle.part_laws.proofs.Wholes.{IsFragment, fragment_is, joined_is}

-- ---- chunks of a row

row_named : (size : ℕ) (items : List Stored) (row : List ℕ) (o : Option Stored) → current_of items row ≡ o → (chunk : Named) → Among (flat (chunks_in size o)) chunk → IsNamed size items row chunk.0 chunk.1
row_named size items row None e chunk a = absurd (among_none chunk a)
row_named size items row (Some item) e chunk a =
    let found = among_last (is_of_row row) items item e in
    record { item = item; stands = found.0; row_is = same_row-is item.entry.row row found.1; chunk = a }

-- a chunk that the row has by name and length is the one that is kept
module _ (size : ℕ) (items : List Stored) (names : NamesOne size items) (row : List ℕ) (content : Content) (pieces : List (List Piece)) (keeps : KeepsKnown size items row content pieces) where
  row_bytes : (name : ChunkName) (bytes : List ℕ) → Among (flat (each_chunk size pieces (objects_of content))) (Keep name, bytes)
      → list_any (λ (held : Named). same_name held.0 name && (length held.1 == length bytes)) (flat (chunks_of size items row)) ≡ true → bytes_of (chunks_of size items row) name ≡ bytes
  row_bytes name bytes a is =
      let some = any_among (λ (held : Named). same_name held.0 name && (length held.1 == length bytes)) (flat (chunks_of size items row)) is in
      let is_same = and_parts (same_name some.0.0 name) (length some.0.1 == length bytes) some.2 in
      let first = find_some (λ (chunk : Named). same_name chunk.0 name) (flat (chunks_of size items row)) some.0 some.1 is_same.0 in
      let found = among_found (λ (chunk : Named). same_name chunk.0 name) (flat (chunks_of size items row)) first.0 first.1 in
      let here = subst (λ (n : ChunkName). IsNamed size items row n first.0.1) (same_is first.0.0 name found.1) (row_named size items row (current_of items row) refl first.0 found.0) in
      ap bytes_in first.1 ∙ (names name first.0.1 bytes row row here (keeps name bytes a)).1

  pub row_holds : is_of_each size pieces (objects_of content) ≡ true → has_kept_by_len size (chunks_of size items row) (spelled_by content pieces) ≡ true
      → (name : ChunkName) (bytes : List ℕ) → Among (flat (each_chunk size pieces (objects_of content))) (Keep name, bytes) → is_sent sents.Fresh (Keep name) ≡ false
      → bytes_of (chunks_of size items row) name ≡ bytes
  row_holds each kept name bytes a stays =
      row_bytes name bytes a (all_among (is_as_long (flat (chunks_of size items row))) (flat (each_chunk size pieces (objects_of content))) (Keep name, bytes)
      (sym (kept_by_len size (chunks_of size items row) content content pieces refl each) ∙ kept) a)

-- ---- what is weighed

-- what is gathered stays so, and what is whole is taken as a request of the client that was sent
record IsSound (g : Scheme) (size : ℕ) (items : List Stored) (sent : List Request) (client : ℕ) (t : StoreTaken) : Type 0 where
  gathers : Gathers size sent t.gatherings
  whole : (m : Message) → t.taken ≡ Whole m → IsTakenAsSent g size items sent client m

same_whole : (m n : Message) → Whole m ≡ Whole n → m ≡ n
same_whole m n e = cc

never_whole : (m : Message) → Waits ≡ Whole m → ⊥
never_whole m e = cc

unanswered : (again late base by_len : Bool) → (again || (late || (not base || not by_len))) ≡ false → by_len ≡ true
unanswered true late base by_len is = absurd (true≢false is)
unanswered false true base by_len is = absurd (true≢false is)
unanswered false false false by_len is = absurd (true≢false is)
unanswered false false true true is = refl
unanswered false false true false is = absurd (true≢false is)

-- a request that isn't answered before its content is looked at keeps what the row has
pub kept_by_name : (g : Scheme) (size : ℕ) (items : List Stored) (q : Request) → is_answered g size items (head_of q) ≡ false
    → has_kept_by_len size (chunks_of size items q.row) (spelled_by q.content q.pieces) ≡ true
kept_by_name g size items q answered =
    unanswered ((yours_in items q.client q.row).number == q.number) (nat_lt q.number (yours_in items q.client q.row).number)
    (store_moves.takes g q.base (version_of (current_of items q.row))) (has_kept_by_len size (chunks_of size items q.row) (spelled_by q.content q.pieces)) answered

-- the request of a header, with a content
with_head : (size : ℕ) (q : Request) (content : Content) → is_of_each size q.pieces (objects_of q.content) ≡ true
    → SyncRequest (store_parts.request_with (head_of q) content) ≡ SyncRequest (same_lengths.request_with q content)
with_head size q content each =
    ap (λ (pieces : List (List Piece)). SyncRequest (record {
      client = q.client;
      table = q.table;
      row = q.row;
      number = q.number;
      base = q.base;
      content = content;
      pieces = pieces;
    })) (pieces_back size q.content q.pieces each)

module _ (g : Scheme) (size : ℕ) (some : 0 < size) (items : List Stored) (names : NamesOne size items) (sent : List Request) (are : AreSent size items sent) where
  abbrev Sound : ℕ → StoreTaken → Type 0
  Sound client t = IsSound g size items sent client t

  if_sound : (client : ℕ) (b : Bool) (x y : StoreTaken) → (b ≡ true → Sound client x) → (b ≡ false → Sound client y) → Sound client (if b then x else y)
  if_sound client true x y f h = f refl
  if_sound client false x y f h = h refl

  waiting_sound : (client : ℕ) (gs : List Gathering) → Gathers size sent gs → Sound client (record { taken = Waits; gatherings = gs })
  waiting_sound client gs all = record { gathers = all; whole = λ m e. absurd (never_whole m e) }

  said_of_each : (q : Request) → Among sent q → is_of_each size q.pieces (objects_of q.content) ≡ true
  said_of_each q was = (and_parts (is_of_each size q.pieces (objects_of q.content)) (are_counted 0 (flat q.pieces) && are_apart (kept_in (flat q.pieces))) (are.spelled q was)).0

  module _ (x : Gathering) (is : IsGathered size sent x) where
    abbrev q : Request
    q = is.request

    each : is_of_each size q.pieces (objects_of q.content) ≡ true
    each = said_of_each q is.was_sent

    same_message : (content : Content) → SyncRequest (store_parts.request_with x.head content) ≡ SyncRequest (same_lengths.request_with q content)
    same_message content = ap (λ (head : RequestHead). SyncRequest (store_parts.request_with head content)) is.head ∙ with_head size q content each

    by_lens : SyncRequest (store_parts.request_with x.head (sized x.head.content)) ≡ SyncRequest (same_lengths.request_with q (sized (spelled_by q.content q.pieces)))
    by_lens =
        ap (λ (head : RequestHead). SyncRequest (store_parts.request_with head (sized head.content))) is.head ∙ with_head size q (sized (spelled_by q.content q.pieces)) each

    -- it is answered, whatever its bytes
    pub taken_by_lens : is_answered g size items x.head ≡ true → AreTakenAlike g size items (SyncRequest (store_parts.request_with x.head (sized x.head.content))) (SyncRequest q)
    taken_by_lens answered = λ store table d from same.
        ap (λ (m : Message). store_step store g size table (record { disk = d; agenda = Some [] }) (Take from m)) by_lens
        ∙ answered_alike g size table d from q (sized (spelled_by q.content q.pieces)) (sym (as_long q.content q.pieces))
        (ap (λ (h : List Stored). is_answered g size h (head_of q)) same ∙ (ap (is_answered g size items) (sym is.head) ∙ answered))

    -- it is complete
    made_whole : is_answered g size items x.head ≡ false → is_whole x.slots ≡ true → assembled size items x ≡ q.content
    made_whole answered whole =
        let by_len = kept_by_name g size items q (sym (ap (is_answered g size items) is.head) ∙ answered) in
        ap (λ (head : RequestHead). joined (bytes_of (chunks_of size items head.row)) (is_sent sents.Fresh) head.content (gathering.chunks_of x.slots)) is.head
        ∙ joined_is (bytes_of (chunks_of size items q.row)) (is_sent sents.Fresh) size some (λ ordinal. refl) q.content q.pieces x.slots each
        (row_holds size items names q.row q.content q.pieces (are.keeps q is.was_sent) each by_len) is.places is.came whole

    whole_is : is_answered g size items x.head ≡ false → is_whole x.slots ≡ true → SyncRequest (store_parts.request_with x.head (assembled size items x)) ≡ SyncRequest q
    whole_is answered whole = ap (λ (content : Content). SyncRequest (store_parts.request_with x.head content)) (made_whole answered whole) ∙ same_message q.content

    pub taken_whole : is_answered g size items x.head ≡ false → is_whole x.slots ≡ true → AreTakenAlike g size items (SyncRequest (store_parts.request_with x.head (assembled size items x))) (SyncRequest q)
    taken_whole answered whole = λ store table d from same.
        ap (λ (m : Message). store_step store g size table (record { disk = d; agenda = Some [] }) (Take from m)) (whole_is answered whole)

    q_client : q.client ≡ x.head.client
    q_client = sym (ap (λ (head : RequestHead). head.client) is.head)

    q_table : x.head.table ≡ q.table
    q_table = ap (λ (head : RequestHead). head.table) is.head

    as_sent : (content : Content) (m : Message) → AreTakenAlike g size items (SyncRequest (store_parts.request_with x.head content)) (SyncRequest q)
        → IsOfRequest q (SyncRequest (store_parts.request_with x.head content)) → Whole (SyncRequest (store_parts.request_with x.head content)) ≡ Whole m
        → IsTakenAsSent g size items sent x.head.client m
    as_sent content m alike of_it e =
        let same = same_whole (SyncRequest (store_parts.request_with x.head content)) m e in (
          q,
          is.was_sent,
          q_client,
          sym (ap table_of same) ∙ q_table,
          subst (λ (k : Message). AreTakenAlike g size items k (SyncRequest q)) same alike,
          subst (λ (k : Message). IsOfRequest q k) same of_it,
        )

    weighed_sound : (others : List Gathering) → Gathers size sent others → Sound x.head.client (weighed g size items others x)
    weighed_sound others all =
        if_sound x.head.client (is_answered g size items x.head) _ _
        (λ answered. record { gathers = all; whole = λ m e. as_sent (sized x.head.content) m (taken_by_lens answered) (inr by_lens) e })
        (λ open_still. if_sound x.head.client (is_whole x.slots) _ _
        (λ whole. record { gathers = all; whole = λ m e. as_sent (assembled size items x) m (taken_whole open_still whole) (inl (whole_is open_still whole)) e })
        (λ more. waiting_sound x.head.client (x ∷ others) (is, all)))

  -- ---- a request comes

  others_gather : (client : ℕ) (gs : List Gathering) → Gathers size sent gs → Gathers size sent (without_client client gs)
  others_gather client gs all = each_filter (IsGathered size sent) (λ (x : Gathering). not (is_of_client client x)) gs all

  begun : (q : Request) → Among sent q → IsGathered size sent (record { head = head_of q; slots = waiting (awaited_of (is_sent sents.Fresh) size (spelled_by q.content q.pieces)) })
  begun q was = record {
    request = q;
    was_sent = was;
    head = refl;
    places = places_waiting (awaited_of (is_sent sents.Fresh) size (spelled_by q.content q.pieces));
    came = none_came size q.content (awaited_of (is_sent sents.Fresh) size (spelled_by q.content q.pieces));
  }

  asked_sound : (gs : List Gathering) → Gathers size sent gs → (q : Request) → Among sent q → Sound q.client (asked g size items gs (head_of q))
  asked_sound gs all q was =
      if_sound q.client (is_spelled size (sized (spelled_by q.content q.pieces)) (pieces_in (spelled_by q.content q.pieces))) _ _
      (λ spells. weighed_sound _ (begun q was) (without_client q.client gs) (others_gather q.client gs all))
      (λ drops. waiting_sound q.client gs all)

  -- ---- a chunk comes

  module _ (f : Fragment) (q : Request) (was : Among sent q) (among : Among (chunks_up size q) f) where
    of_q : IsFragment size q.client q.table q.row q.number q.content f
    of_q = fragment_is (is_sent sents.Fresh) size q.client q.table q.row q.number q.content q.pieces f among

    module _ (x : Gathering) (is : IsGathered size sent x) (of_client : is_of_client f.client x ≡ true) where
      abbrev later : Gathering
      later = record x { slots = taken f.column f.place f.bytes x.slots }

      same_content : waits_for f x ≡ true → q.content ≡ is.request.content
      same_content waits =
          let rows = and_parts (same_row x.head.row f.row) ((x.head.number == f.key) && takes f.column f.place f.bytes x.slots) waits in
          let keys = and_parts (x.head.number == f.key) (takes f.column f.place f.bytes x.slots) rows.1 in
          are.one q is.request was is.was_sent
          (sym of_q.client_is ∙ (sym (eqb-true x.head.client f.client of_client) ∙ ap (λ (h : RequestHead). h.client) is.head))
          (sym of_q.row_is ∙ (sym (same_row-is x.head.row f.row rows.0) ∙ ap (λ (h : RequestHead). h.row) is.head))
          (sym of_q.key_is ∙ (sym (eqb-true x.head.number f.key keys.0) ∙ ap (λ (h : RequestHead). h.number) is.head))

      more_gathered : waits_for f x ≡ true → IsGathered size sent later
      more_gathered waits = record {
        request = is.request;
        was_sent = is.was_sent;
        head = is.head;
        places = places_stay f.column f.place f.bytes x.slots ∙ is.places;
        came = more_came size is.request.content f.column f.place f.bytes x.slots
            (λ takes_it. of_q.bytes_are ∙ ap (λ (content : Content). chunk_in size content f.column f.place) (same_content waits)) is.came;
      }

      found_sound : (gs : List Gathering) → Gathers size sent gs → Sound f.client (brought_to g size items gs f (Some x))
      found_sound gs all =
          if_sound f.client (waits_for f x) _ _
          (λ waits. if_sound f.client (is_whole (taken f.column f.place f.bytes x.slots)) _ _
          (λ whole. subst (λ client. Sound client (weighed g size items (without_client f.client gs) later)) (eqb-true x.head.client f.client of_client)
          (weighed_sound later (more_gathered waits) (without_client f.client gs) (others_gather f.client gs all)))
          (λ lacks. waiting_sound f.client (later ∷ without_client f.client gs) (more_gathered waits, others_gather f.client gs all)))
          (λ drops. waiting_sound f.client gs all)

    brought_sound : (gs : List Gathering) → Gathers size sent gs → (o : Option Gathering) → find (is_of_client f.client) gs ≡ o → Sound f.client (brought_to g size items gs f o)
    brought_sound gs all None e = waiting_sound f.client gs all
    brought_sound gs all (Some x) e =
        let found = among_found (is_of_client f.client) gs x e in
        found_sound x (each_among (IsGathered size sent) gs x all found.0) found.1 gs all

  -- ---- any part

  pub gathers_still : (gs : List Gathering) → Gathers size sent gs → (p : Part) → IsPart size sent p → Gathers size sent (parted g size items gs p).gatherings
  gathers_still gs all (Asks head) is = subst (λ (h : RequestHead). Gathers size sent (asked g size items gs h).gatherings) (sym is.2) (asked_sound gs all is.0 is.1).gathers
  gathers_still gs all (Responds response) is = all
  gathers_still gs all (Pulls pull) is = all
  gathers_still gs all (Answers head) is = all
  gathers_still gs all (BringsUp f) is = (brought_sound f is.0 is.1 is.2 gs all (find (is_of_client f.client) gs) refl).gathers
  gathers_still gs all (BringsDown f) is = all
  gathers_still gs all (AsksTorn torn) is = all
  gathers_still gs all (AnswersTorn head) is = all

  pub comes_whole : (gs : List Gathering) → Gathers size sent gs → (p : Part) → IsPart size sent p → (m : Message) → (parted g size items gs p).taken ≡ Whole m → ComesAs g size items sent p m
  comes_whole gs all (Asks head) is m e =
      subst (λ (h : RequestHead). IsTakenAsSent g size items sent h.client m) (sym is.2)
      ((asked_sound gs all is.0 is.1).whole m (subst (λ (h : RequestHead). (asked g size items gs h).taken ≡ Whole m) is.2 e))
  comes_whole gs all (Responds response) is m e = absurd (never_whole m e)
  comes_whole gs all (Pulls pull) is m e = sym (same_whole (PullRequest pull) m e)
  comes_whole gs all (Answers head) is m e = absurd (never_whole m e)
  comes_whole gs all (BringsUp f) is m e = (brought_sound f is.0 is.1 is.2 gs all (find (is_of_client f.client) gs) refl).whole m e
  comes_whole gs all (BringsDown f) is m e = absurd (never_whole m e)
  comes_whole gs all (AsksTorn torn) is m e = sym (same_whole (TornRowRequest torn) m e)
  comes_whole gs all (AnswersTorn head) is m e = absurd (never_whole m e)

-- ---- more items, and more that is sent

pub sent_still : (size : ℕ) (items more : List Stored) (sent : List Request) → AreSent size items sent → AreSent size (items ++ more) sent
sent_still size items more sent are = record {
  one = are.one;
  spelled = are.spelled;
  keeps = λ q was name bytes a.
      let known = are.keeps q was name bytes a in
      record { item = known.item; stands = among_left items more known.item known.stands; row_is = known.row_is; chunk = known.chunk };
}

one_still : (size : ℕ) (sent others : List Request) → ((q : Request) → Among sent q → Among others q) → (x : Gathering) → IsGathered size sent x → IsGathered size others x
one_still size sent others to x is = record { request = is.request; was_sent = to is.request is.was_sent; head = is.head; places = is.places; came = is.came }

pub more_sent : (size : ℕ) (sent others : List Request) → ((q : Request) → Among sent q → Among others q) → (gs : List Gathering) → Gathers size sent gs → Gathers size others gs
more_sent size sent others to [] all = tt
more_sent size sent others to (x ∷ gs) all = (one_still size sent others to x all.0, more_sent size sent others to gs all.1)
