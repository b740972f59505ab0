-- What a client makes of parts of answers to its pulls that were sent.
use Rattle.std.proofs.Common.{◌≡◌, inl, inr, ⊎_elim, ℕ, Bool, true, false, List, [], ◌∷◌, length, Option, Some, None, refl, sym, ◌∙◌, ap, subst, true≢false}
use Rattle.std.specs.Prelude.{◌==◌, ◌&&◌, not, nat_le, option_map, if◌then◌else◌}
use Rattle.std.specs.List.{find, list_any, list_all}
use Rattle.std.proofs.lemmas.Bool.{and_parts, eqb-true}
use Rattle.stab_base.specs.declared.chunk_name.ChunkName.{ChunkName}
use Rattle.row_value.specs.declared.content.Content.{Content}
use Rattle.row_value.specs.declared.pieces.Piece.{Piece}
use Rattle.row_value.specs.declared.pieces.Piece.TheVariants.{Keep, Fresh}
use Rattle.table_model.specs.History.{same_row}
use Rattle.chunker.specs.Sized.{sized}
use Rattle.assemblies.specs.declared.sent.Sent.TheVariants as sents
use Rattle.assemblies.specs.Travel.{is_sent}
use Rattle.assemblies.specs.Places.{awaited_of}
use Rattle.assemblies.specs.Gathering.{Slot, waiting, taken, takes, is_whole}
use Rattle.assemblies.specs.Gathering as gathering
use Rattle.assemblies.specs.Parts.{chunk_in, joined}
use Rattle.assemblies.proofs.Mixes.{places_stay, places_waiting, none_came, more_came}
use Rattle.step_tables.specs.Slots.{Shadow}
use Rattle.step_tables.specs.Chunks.{flat, each_chunk, is_of_each, objects_of, chunks_with, is_named, are_apart}
use Rattle.step_tables.specs.Store.{Stored}
use Rattle.step_tables.specs.Items.{IsItemAt}
use Rattle.step_tables.specs.Members.{Among}
use Rattle.step_tables.specs.Messages.{Pulled, Header, Message, SyncResponse, PullResponse}
use Rattle.step_tables.specs.Messages as messages
use Rattle.step_tables.specs.ClientMoves.{Slots, TableDisk, client_step, Take, table_at, seen, slots_at, top, chunks_read, known}
use Rattle.step_tables.proofs.Lists.{among_none, among_either, among_found, find_some, same_row-is}
use Rattle.part_tables.specs.Parts.{Part, Asks, Responds, Pulls, Answers, BringsUp, BringsDown, AsksTorn, AnswersTorn, PulledHead, RowHead, Fragment, spelled_by, kept, row_head, pulled_head, chunks_down}
use Rattle.part_tables.specs.ClientParts.{Answering, Taken, Whole, Tears, Waits, ClientTaken, is_of_table, without_table, Held, held_in, is_under, is_as_long, has_held, bytes_in, bytes_of, sends_of}
use Rattle.part_tables.specs.ClientParts.{names_in, assembled, weighed, answered, waits_for, brought_to, parted}
use Rattle.part_tables.specs.ClientParts as client_parts
use Rattle.piece_laws.specs.Pieces.{IsNamed, NamesOne}
use Rattle.part_laws.specs.Lengths as same_lengths
use Rattle.part_laws.specs.Answers.{IsOfItem, AreAnswers, IsReadItem, AreReadItems, IsOpened, IsAnswering, AreAnswering, table_of, IsPart, AreTakenAlike, IsTakenAsSent, ComesAs}
use Rattle.part_laws.specs.Rows.{IsOfAnswer, IsTakenAsPull, IsTornRow}
use Rattle.part_laws.proofs.Lengths.{all_alike, as_long, pieces_back, names_back, kept_of_each}
use Rattle.part_laws.proofs.Answers.{seen_alike}
use Rattle.part_laws.proofs.Members.{all_among, any_among, each_among, each_filter, said_mapped}
use Rattle.part_laws.proofs.Names.{same_is}
use Rattle.part_laws.proofs.Wholes.{IsFragment, fragment_is, joined_is}

-- ---- chunks that a client holds

same_some : (a b : ChunkName) → Some a ≡ Some b → a ≡ b
same_some a b e = cc

same_keep : (a b : ChunkName) → Keep a ≡ Keep b → a ≡ b
same_keep a b e = cc

under_is : (name : ChunkName) (o : Option ChunkName) → is_under name o ≡ true → o ≡ Some name
under_is name None is = absurd (let bad : false ≡ true = is in cc)
under_is name (Some other) is = ap (λ (n : ChunkName). Some n) (same_is other name is)

-- the name and the bytes of a chunk of a row that it has from the Store
read_named : (size : ℕ) (items : List Stored) (row : List ℕ) (x : Shadow) → IsReadItem items row x → (own : Held) (name : ChunkName) → own.0 ≡ Some name → Among (flat (chunks_read size (Some x))) own
    → IsNamed size items row name own.1
read_named size items row x is own name under a =
    let as_item : Among (flat (each_chunk size (known is.item.names) (objects_of is.item.content))) (own.0, own.1) =
    subst (λ (content : Content). Among (flat (each_chunk size (known is.item.names) (objects_of content))) (own.0, own.1)) is.content
    (subst (λ (names : List (List (Option ChunkName))). Among (flat (each_chunk size names (objects_of x.content))) (own.0, own.1)) is.names a) in
    let found = said_mapped (λ (n : ChunkName). Some n) size is.item.names (objects_of is.item.content) own.0 own.1 as_item in
    let its_name : found.0 ≡ name = same_some found.0 name (found.2 ∙ under) in
    record {
      item = is.item;
      stands = is.is.stands;
      row_is = is.is.row_is;
      chunk = subst (λ (n : ChunkName). Among (flat (chunks_with size is.item)) (n, own.1)) its_name found.1;
    }

read_by : (size : ℕ) (items : List Stored) (row : List ℕ) (o : Option Shadow) → ((x : Shadow) → o ≡ Some x → IsReadItem items row x) → (own : Held) (name : ChunkName) → own.0 ≡ Some name
    → Among (flat (chunks_read size o)) own → IsNamed size items row name own.1
read_by size items row None is own name under a = absurd (among_none own a)
read_by size items row (Some x) is own name under a = read_named size items row x (is x refl) own name under a

held_named : (size : ℕ) (items : List Stored) (row : List ℕ) (slots : Slots) → AreReadItems items row slots → (own : Held) (name : ChunkName) → own.0 ≡ Some name → Among (held_in size slots) own
    → IsNamed size items row name own.1
held_named size items row slots are own name under a =
    ⊎_elim (λ l. read_by size items row slots.shadow are.shadow own name under l) (λ r. read_by size items row slots.conflict are.conflict own name under r)
    (among_either (flat (chunks_read size slots.shadow)) (flat (chunks_read size slots.conflict)) own a)

-- the name and the bytes of a chunk of a row that comes
sent_named : (size : ℕ) (items : List Stored) (h : Header) → IsOfItem size items h → (name : ChunkName) (bytes : List ℕ) → Among (flat (each_chunk size (kept h.names) (objects_of h.content))) (Keep name, bytes)
    → IsNamed size items h.row name bytes
sent_named size items h is name bytes a =
    let found = said_mapped (λ (n : ChunkName). Keep n) size h.names (objects_of h.content) (Keep name) bytes a in
    let its_name : found.0 ≡ name = same_keep found.0 name found.2 in
    record {
      item = is.item;
      stands = is.is.stands;
      row_is = is.is.row_is;
      chunk = subst (λ (n : ChunkName). Among (flat (chunks_with size is.item)) (n, bytes)) its_name
          (subst (λ (content : Content). Among (flat (each_chunk size is.item.names (objects_of content))) (found.0, bytes)) (sym is.content)
          (subst (λ (names : List (List ChunkName)). Among (flat (each_chunk size names (objects_of h.content))) (found.0, bytes)) (sym is.names) found.1));
    }

long_by_len : (sends : Piece → Bool) (held : List Held) (piece : Piece) (a b : List ℕ) → length a ≡ length b → is_as_long sends held (piece, a) ≡ is_as_long sends held (piece, b)
long_by_len sends held (Fresh ordinal) a b e = refl
long_by_len sends held (Keep name) a b e = ap (λ n. if sends (Keep name) then true else list_any (λ (own : Held). is_under name own.0 && (length own.1 == n)) held) e

else_is : (b c : Bool) → b ≡ false → (if b then true else c) ≡ true → c ≡ true
else_is true c stays is = absurd (true≢false stays)
else_is false c stays is = is

module _ (size : ℕ) (items : List Stored) (names : NamesOne size items) (h : Header) (is : IsOfItem size items h) (slots : Slots) (are : AreReadItems items h.row slots) (sends : Piece → Bool) where
  pub each_kept : is_of_each size (kept h.names) (objects_of h.content) ≡ true
  each_kept = kept_of_each size h.names (objects_of h.content) ∙ (and_parts (is_of_each size h.names (objects_of h.content)) (are_apart (flat h.names)) is.named).0

  own_bytes : (name : ChunkName) (bytes : List ℕ) → Among (flat (each_chunk size (kept h.names) (objects_of h.content))) (Keep name, bytes)
      → list_any (λ (own : Held). is_under name own.0 && (length own.1 == length bytes)) (held_in size slots) ≡ true → bytes_of (held_in size slots) name ≡ bytes
  own_bytes name bytes a held =
      let some = any_among (λ (own : Held). is_under name own.0 && (length own.1 == length bytes)) (held_in size slots) held in
      let is_same = and_parts (is_under name some.0.0) (length some.0.1 == length bytes) some.2 in
      let first = find_some (λ (own : Held). is_under name own.0) (held_in size slots) some.0 some.1 is_same.0 in
      let found = among_found (λ (own : Held). is_under name own.0) (held_in size slots) first.0 first.1 in
      let here = held_named size items h.row slots are first.0 name (under_is name first.0.0 found.1) found.0 in
      ap bytes_in first.1 ∙ (names name first.0.1 bytes h.row h.row here (sent_named size items h is name bytes a)).1

  pub client_holds : has_held sends size (held_in size slots) (spelled_by h.content (kept h.names)) ≡ true → (name : ChunkName) (bytes : List ℕ)
      → Among (flat (each_chunk size (kept h.names) (objects_of h.content))) (Keep name, bytes) → sends (Keep name) ≡ false → bytes_of (held_in size slots) name ≡ bytes
  client_holds held name bytes a stays =
      let content = spelled_by h.content (kept h.names) in
      let test = is_as_long sends (held_in size slots) in
      let real : list_all test (flat (each_chunk size (kept h.names) (objects_of h.content))) ≡ true =
      all_alike test (long_by_len sends (held_in size slots)) size (kept h.names) (objects_of h.content) (objects_of (sized content)) each_kept (sym (as_long h.content (kept h.names)))
      ∙ (sym (ap (λ (pieces : List (List Piece)). list_all test (flat (each_chunk size pieces (objects_of (sized content))))) (pieces_back size h.content (kept h.names) each_kept)) ∙ held) in
      own_bytes name bytes a (else_is (sends (Keep name)) (list_any (λ (own : Held). is_under name own.0 && (length own.1 == length bytes)) (held_in size slots)) stays
      (all_among test (flat (each_chunk size (kept h.names) (objects_of h.content))) (Keep name, bytes) real a))

-- ---- what is weighed

-- what waits stays as it should, what is whole is taken as an answer that was sent, and a torn row is of one
pub record IsSound (size : ℕ → ℕ) (table : ℕ) (opened : TableDisk) (sent : List Pulled) (t : ClientTaken) : Type 0 where
  pub waits : AreAnswering size sent t.answerings
  pub whole : (m : Message) → t.taken ≡ Whole m → IsTakenAsPull table opened sent m
  pub tears : (row : List ℕ) → t.taken ≡ Tears row → IsTornRow table sent row

as_sent : (table : ℕ) (opened : TableDisk) (sent : List Pulled) (m : Message) → IsTakenAsPull table opened sent m → IsTakenAsSent table opened sent m
as_sent table opened sent m is = (is.answer, is.was_sent, is.alike)

pub same_whole : (m n : Message) → Whole m ≡ Whole n → m ≡ n
same_whole m n e = cc

pub wait_whole : (m : Message) → Waits ≡ Whole m → ⊥
wait_whole m e = cc

torn_whole : (row : List ℕ) (m : Message) → Tears row ≡ Whole m → ⊥
torn_whole row m e = cc

pub whole_torn : (m : Message) (row : List ℕ) → Whole m ≡ Tears row → ⊥
whole_torn m row e = cc

pub wait_torn : (row : List ℕ) → Waits ≡ Tears row → ⊥
wait_torn row e = cc

same_torn : (row other : List ℕ) → Tears row ≡ Tears other → row ≡ other
same_torn row other e = cc

not_false : (b : Bool) → not b ≡ false → b ≡ true
not_false true e = refl
not_false false e = absurd (true≢false e)

-- the answer of headers, with a content
with_heads : (size : ℕ) (p : Pulled) (h : Header) (content : Content) → is_of_each size h.names (objects_of h.content) ≡ true
    → client_parts.answer_with (pulled_head p) (row_head h) content ≡ same_lengths.answer_with p h content
with_heads size p h content each =
    ap (λ (names : List (List ChunkName)). PullResponse (record {
      client = p.client;
      table = p.table;
      from = p.from;
      to = p.to;
      latest = p.latest;
      header = Some (record { row = h.row; version = h.version; yours = h.yours; content = content; names = names });
    })) (names_back size h.content h.names each)

-- ---- a chunk on its way

pub record IsOnItsWay (size : ℕ) (items : List Stored) (table : ℕ) (f : Fragment) : Type 0 where
  pub client : ℕ
  pub header : Header
  pub its : IsOfItem size items header
  pub fragment : IsFragment size client table header.row header.version header.content f

module _ (size : ℕ → ℕ) (table : ℕ) (opened : TableDisk) (items : List Stored) (is_open : IsOpened (size table) items opened) (sent : List Pulled)
    (are : (p : Pulled) (h : Header) → Among sent p → p.table ≡ table → p.header ≡ Some h → IsOfItem (size table) items h) where
  abbrev n : ℕ
  n = size table

  abbrev Sound : ClientTaken → Type 0
  Sound t = IsSound size table opened sent t

  if_sound : (b : Bool) (x y : ClientTaken) → (b ≡ true → Sound x) → (b ≡ false → Sound y) → Sound (if b then x else y)
  if_sound true x y f h = f refl
  if_sound false x y f h = h refl

  waiting_sound : (xs : List Answering) → AreAnswering size sent xs → Sound (record { taken = Waits; answerings = xs })
  waiting_sound xs all = record { waits = all; whole = λ m e. absurd (wait_whole m e); tears = λ row e. absurd (wait_torn row e) }

  others_wait : (t : ℕ) (xs : List Answering) → AreAnswering size sent xs → AreAnswering size sent (without_table t xs)
  others_wait t xs all = each_filter (λ (x : Answering). IsAnswering (size x.head.table) sent x) (λ (x : Answering). not (is_of_table t x)) xs all

  module _ (x : Answering) (is : IsAnswering n sent x) (of_table : x.head.table ≡ table) where
    abbrev p : Pulled
    p = is.answer

    abbrev h : Header
    h = is.header

    its_item : IsOfItem n items h
    its_item = are p h is.was_sent (sym (ap (λ (head : PulledHead). head.table) is.head) ∙ of_table) is.header_is

    each : is_of_each n h.names (objects_of h.content) ≡ true
    each = (and_parts (is_of_each n h.names (objects_of h.content)) (are_apart (flat h.names)) its_item.named).0

    same_message : (content : Content) → client_parts.answer_with x.head x.row content ≡ same_lengths.answer_with p h content
    same_message content =
        ap (λ (head : PulledHead). client_parts.answer_with head x.row content) is.head
        ∙ (ap (λ (row : RowHead). client_parts.answer_with (pulled_head p) row content) is.row ∙ with_heads n p h content each)

    as_it_was : same_lengths.answer_with p h h.content ≡ PullResponse p
    as_it_was = ap (λ (o : Option Header). PullResponse (record p { header = o })) (sym is.header_is)

    p_table : p.table ≡ table
    p_table = sym (ap (λ (head : PulledHead). head.table) is.head) ∙ of_table

    by_lens : client_parts.answer_with x.head x.row (sized x.row.content) ≡ same_lengths.answer_with p h (sized (spelled_by h.content (kept h.names)))
    by_lens = ap (λ (row : RowHead). client_parts.answer_with x.head x.row (sized row.content)) is.row ∙ same_message (sized (spelled_by h.content (kept h.names)))

    -- its row isn't newer than the one that was read
    pub taken_by_lens : nat_le h.version (top (slots_at opened h.row).conflict (slots_at opened h.row).shadow) ≡ true
        → AreTakenAlike table opened (client_parts.answer_with x.head x.row (sized x.row.content)) (PullResponse p)
    taken_by_lens old = λ c shape d there.
        ap (λ (m : Message). client_step c shape (record { disk = d; agenda = Some [] }) (Take m)) by_lens
        ∙ (seen_alike c shape d opened p h (sized (spelled_by h.content (kept h.names))) (sym (as_long h.content (kept h.names))) old (ap (λ t. table_at (seen d) t) p_table ∙ there)
        ∙ ap (λ (m : Message). client_step c shape (record { disk = d; agenda = Some [] }) (Take m)) as_it_was)

    module _ (slots : Slots) (at : slots ≡ slots_at opened h.row) where
      read : AreReadItems items h.row slots
      read = subst (λ (s : Slots). AreReadItems items h.row s) (sym at) (is_open.rows h.row)

      made_whole : has_held (sends_of x.head) n (held_in n slots) x.row.content ≡ true → is_whole x.slots ≡ true → assembled n slots x ≡ h.content
      made_whole held whole =
          let sends = is_sent (sents.Above p.from) in
          let content = spelled_by h.content (kept h.names) in
          let held_all : has_held sends n (held_in n slots) content ≡ true =
          sym (ap (λ (row : RowHead). has_held (sends_of x.head) n (held_in n slots) row.content) is.row ∙ ap (λ (head : PulledHead). has_held (sends_of head) n (held_in n slots) content) is.head) ∙ held in
          ap (λ (row : RowHead). joined (bytes_of (held_in n slots)) (sends_of x.head) row.content (gathering.chunks_of x.slots)) is.row
          ∙ (ap (λ (head : PulledHead). joined (bytes_of (held_in n slots)) (sends_of head) content (gathering.chunks_of x.slots)) is.head
          ∙ joined_is (bytes_of (held_in n slots)) sends n is_open.some (λ ordinal. refl) h.content (kept h.names) x.slots (each_kept n items is_open.names_one h its_item slots read sends)
          (client_holds n items is_open.names_one h its_item slots read sends held_all) is.places is.came whole)

      whole_is : has_held (sends_of x.head) n (held_in n slots) x.row.content ≡ true → is_whole x.slots ≡ true → client_parts.answer_with x.head x.row (assembled n slots x) ≡ PullResponse p
      whole_is held whole = ap (λ (content : Content). client_parts.answer_with x.head x.row content) (made_whole held whole) ∙ (same_message h.content ∙ as_it_was)

      pub taken_whole : has_held (sends_of x.head) n (held_in n slots) x.row.content ≡ true → is_whole x.slots ≡ true
          → AreTakenAlike table opened (client_parts.answer_with x.head x.row (assembled n slots x)) (PullResponse p)
      taken_whole held whole = λ c shape d there. ap (λ (m : Message). client_step c shape (record { disk = d; agenda = Some [] }) (Take m)) (whole_is held whole)

      abbrev answer_of : Content → Message
      answer_of content = client_parts.answer_with x.head x.row content

      taken_as : (content : Content) (m : Message) → AreTakenAlike table opened (answer_of content) (PullResponse p) → IsOfAnswer p (answer_of content) → Whole (answer_of content) ≡ Whole m
          → IsTakenAsPull table opened sent m
      taken_as content m alike of_it e =
          let same = same_whole (answer_of content) m e in
          record {
            answer = p;
            was_sent = is.was_sent;
            table_is = p_table;
            to_table = sym (ap messages.table_of same) ∙ of_table;
            alike = subst (λ (z : Message). AreTakenAlike table opened z (PullResponse p)) same alike;
            of_it = subst (λ (z : Message). IsOfAnswer p z) same of_it;
          }

      whole_sound : (content : Content) (others : List Answering) → AreAnswering size sent others → AreTakenAlike table opened (answer_of content) (PullResponse p)
          → IsOfAnswer p (answer_of content) → Sound (record { taken = Whole (answer_of content); answerings = others })
      whole_sound content others all alike of_it = record { waits = all; whole = λ m e. taken_as content m alike of_it e; tears = λ row e. absurd (whole_torn (answer_of content) row e) }

      torn_sound : (others : List Answering) → AreAnswering size sent others → Sound (record { taken = Tears x.row.row; answerings = others })
      torn_sound others all = record {
        waits = all;
        whole = λ m e. absurd (torn_whole x.row.row m e);
        tears = λ row e. record {
          answer = p;
          header = h;
          was_sent = is.was_sent;
          table_is = p_table;
          header_is = is.header_is;
          row_is = sym (ap (λ (r : RowHead). r.row) is.row) ∙ same_torn x.row.row row e;
        };
      }

      old_row : nat_le x.row.version (top slots.conflict slots.shadow) ≡ true → nat_le h.version (top (slots_at opened h.row).conflict (slots_at opened h.row).shadow) ≡ true
      old_row old = sym (ap (λ (row : RowHead). nat_le row.version (top slots.conflict slots.shadow)) is.row ∙ ap (λ (s : Slots). nat_le h.version (top s.conflict s.shadow)) at) ∙ old

      weighed_sound : (others : List Answering) → AreAnswering size sent others → Sound (weighed n slots others x)
      weighed_sound others all =
          if_sound (nat_le x.row.version (top slots.conflict slots.shadow)) _ _
          (λ old. whole_sound (sized x.row.content) others all (taken_by_lens (old_row old)) (inr (h, is.header_is, by_lens)))
          (λ newer. if_sound (not (has_held (sends_of x.head) n (held_in n slots) x.row.content)) _ _
          (λ torn. torn_sound others all)
          (λ holds. if_sound (is_whole x.slots) _ _
          (λ whole.
          let held = not_false (has_held (sends_of x.head) n (held_in n slots) x.row.content) holds in
          whole_sound (assembled n slots x) others all (taken_whole held whole) (inl (whole_is held whole)))
          (λ more. waiting_sound (x ∷ others) (subst (λ t. IsAnswering (size t) sent x) (sym of_table) is, all))))

  -- where the table's size is the opened one's
  at_size : (slots : Slots) (others : List Answering) (x : Answering) → Sound (weighed n slots others x) → Sound (weighed opened.schema.chunk slots others x)
  at_size slots others x sound = subst (λ k. Sound (weighed k slots others x)) (sym is_open.size_is) sound

  -- ---- an answer comes

  begun : (p : Pulled) (h : Header) → Among sent p → p.header ≡ Some h
      → IsAnswering n sent (record { head = pulled_head p; row = row_head h; slots = waiting (awaited_of (is_sent (sents.Above p.from)) n (spelled_by h.content (kept h.names))) })
  begun p h was e = record {
    answer = p;
    header = h;
    was_sent = was;
    header_is = e;
    head = refl;
    row = refl;
    places = places_waiting (awaited_of (is_sent (sents.Above p.from)) n (spelled_by h.content (kept h.names)));
    came = none_came n h.content (awaited_of (is_sent (sents.Above p.from)) n (spelled_by h.content (kept h.names)));
  }

  begun_sound : (xs : List Answering) → AreAnswering size sent xs → (p : Pulled) (h : Header) → Among sent p → p.table ≡ table → p.header ≡ Some h
      → Sound (weighed opened.schema.chunk (slots_at opened h.row) (without_table p.table xs) (record {
        head = pulled_head p;
        row = row_head h;
        slots = waiting (awaited_of (is_sent (sents.Above p.from)) opened.schema.chunk (spelled_by h.content (kept h.names)));
      }))
  unfolding begun
  begun_sound xs all p h was of_table e =
      subst (λ k. Sound (weighed k (slots_at opened h.row) (without_table p.table xs) (record {
        head = pulled_head p;
        row = row_head h;
        slots = waiting (awaited_of (is_sent (sents.Above p.from)) k (spelled_by h.content (kept h.names)));
      }))) (sym is_open.size_is) (weighed_sound _ (begun p h was e) of_table (slots_at opened h.row) refl (without_table p.table xs) (others_wait p.table xs all))

  answered_sound : (xs : List Answering) → AreAnswering size sent xs → (p : Pulled) → Among sent p → p.table ≡ table → (o : Option Header) → p.header ≡ o
      → Sound (answered opened xs (pulled_head p) (option_map row_head o))
  answered_sound xs all p was of_table None e = waiting_sound xs all
  answered_sound xs all p was of_table (Some h) e =
      if_sound ((p.from == opened.position) && is_named opened.schema.chunk (sized (spelled_by h.content (kept h.names))) (names_in (spelled_by h.content (kept h.names)))) _ _
      (λ next. begun_sound xs all p h was of_table e) (λ drops. waiting_sound xs all)

  -- ---- a chunk comes

  module _ (f : Fragment) (brings : IsOnItsWay n items table f) (x : Answering) (is : IsAnswering n sent x) (of_table : x.head.table ≡ table) where
    abbrev g : Header
    g = brings.header

    abbrev of_q : IsFragment n brings.client table g.row g.version g.content f
    of_q = brings.fragment

    abbrev later : Answering
    later = record x { slots = taken f.column f.place f.bytes x.slots }

    rows_are : waits_for f x ≡ true → f.row ≡ is.header.row
    rows_are waits =
        let rows = and_parts (same_row x.row.row f.row) ((x.row.version == f.key) && takes f.column f.place f.bytes x.slots) waits in
        sym (same_row-is x.row.row f.row rows.0) ∙ ap (λ (row : RowHead). row.row) is.row

    same_content : waits_for f x ≡ true → g.content ≡ is.header.content
    same_content waits =
        let rows = and_parts (same_row x.row.row f.row) ((x.row.version == f.key) && takes f.column f.place f.bytes x.slots) waits in
        let keys = and_parts (x.row.version == f.key) (takes f.column f.place f.bytes x.slots) rows.1 in
        let row_is : g.row ≡ is.header.row = sym of_q.row_is ∙ rows_are waits in
        let version_is : g.version ≡ is.header.version = sym of_q.key_is ∙ (sym (eqb-true x.row.version f.key keys.0) ∙ ap (λ (row : RowHead). row.version) is.row) in
        let of_g = brings.its in
        let of_h = its_item x is of_table in
        let there : IsItemAt items is.header.row is.header.version of_g.item =
        subst (λ (r : List ℕ). IsItemAt items r is.header.version of_g.item) row_is (subst (λ v. IsItemAt items g.row v of_g.item) version_is of_g.is) in
        sym of_g.content ∙ (is_open.contents_one is.header.row is.header.version of_g.item of_h.item there of_h.is ∙ of_h.content)

    more_answered : waits_for f x ≡ true → IsAnswering n sent later
    more_answered waits = record {
      answer = is.answer;
      header = is.header;
      was_sent = is.was_sent;
      header_is = is.header_is;
      head = is.head;
      row = is.row;
      places = places_stay f.column f.place f.bytes x.slots ∙ is.places;
      came = more_came n is.header.content f.column f.place f.bytes x.slots
          (λ takes_it. of_q.bytes_are ∙ ap (λ (content : Content). chunk_in n content f.column f.place) (same_content waits)) is.came;
    }

    found_sound : (xs : List Answering) → AreAnswering size sent xs → Sound (brought_to opened xs f (Some x))
    unfolding more_answered
    found_sound xs all =
        if_sound (waits_for f x) _ _
        (λ waits. if_sound (is_whole (taken f.column f.place f.bytes x.slots)) _ _
        (λ whole. at_size (slots_at opened f.row) (without_table f.table xs) later
        (weighed_sound later (more_answered waits) of_table (slots_at opened f.row) (ap (λ (r : List ℕ). slots_at opened r) (rows_are waits)) (without_table f.table xs) (others_wait f.table xs all)))
        (λ lacks. waiting_sound (later ∷ without_table f.table xs) (subst (λ t. IsAnswering (size t) sent later) (sym of_table) (more_answered waits), others_wait f.table xs all)))
        (λ drops. waiting_sound xs all)

  brought_sound : (xs : List Answering) → AreAnswering size sent xs → (f : Fragment) → IsOnItsWay n items table f → (o : Option Answering) → find (is_of_table f.table) xs ≡ o → Sound (brought_to opened xs f o)
  brought_sound xs all f brings None e = waiting_sound xs all
  brought_sound xs all f brings (Some x) e =
      let found = among_found (is_of_table f.table) xs x e in
      let of_table : x.head.table ≡ table = eqb-true x.head.table f.table found.1 ∙ brings.fragment.table_is in
      found_sound f brings x (subst (λ t. IsAnswering (size t) sent x) of_table (each_among (λ (y : Answering). IsAnswering (size y.head.table) sent y) xs x all found.0)) of_table xs all

-- ---- any part

-- a chunk of a row that is sent is on its way
pub on_its_way : (size : ℕ → ℕ) (items : ℕ → List Stored) (client table : ℕ) (h : Header) (f : Fragment) → IsOfItem (size table) (items table) h
    → IsFragment (size table) client table h.row h.version h.content f → IsOnItsWay (size f.table) (items f.table) f.table f
on_its_way size items client table h f its is =
    subst (λ t. IsOnItsWay (size t) (items t) t f) (sym is.table_is) (record { client = client; header = h; its = its; fragment = is })

way_by : (size : ℕ → ℕ) (items : ℕ → List Stored) (q : Pulled) (f : Fragment) (o : Option Header) → ((h : Header) → o ≡ Some h → IsOfItem (size q.table) (items q.table) h)
    → Among (chunks_down (size q.table) q o) f → IsOnItsWay (size f.table) (items f.table) f.table f
way_by size items q f None its a = absurd (among_none f a)
way_by size items q f (Some h) its a =
    on_its_way size items q.client q.table h f (its h refl) (fragment_is (is_sent (sents.Above q.from)) (size q.table) q.client q.table h.row h.version h.content (kept h.names) f a)

pub pull_on_its_way : (size : ℕ → ℕ) (items : ℕ → List Stored) (sent : List Pulled) → AreAnswers size items sent → (q : Pulled) (f : Fragment) → Among sent q → Among (chunks_down (size q.table) q q.header) f
    → IsOnItsWay (size f.table) (items f.table) f.table f
pull_on_its_way size items sent are q f was a = way_by size items q f q.header (λ h e. are q h was e) a

module _ (size : ℕ → ℕ) (items : ℕ → List Stored) (sent : List Pulled) (are : AreAnswers size items sent) (opened : TableDisk) (xs : List Answering) (all : AreAnswering size sent xs) where
  -- those of a table
  of_its_table : (table : ℕ) (p : Pulled) (h : Header) → Among sent p → p.table ≡ table → p.header ≡ Some h → IsOfItem (size table) (items table) h
  of_its_table table p h was of_table e = subst (λ t. IsOfItem (size t) (items t) h) of_table (are p h was e)

  pub answers_sound : (p : Pulled) → Among sent p → IsOpened (size p.table) (items p.table) opened → IsSound size p.table opened sent (answered opened xs (pulled_head p) (pulled_head p).header)
  answers_sound p was is_open = answered_sound size p.table opened (items p.table) is_open sent (of_its_table p.table) xs all p was refl p.header refl

  pub brings_sound : (f : Fragment) → IsOpened (size f.table) (items f.table) opened → IsOnItsWay (size f.table) (items f.table) f.table f
      → IsSound size f.table opened sent (brought_to opened xs f (find (is_of_table f.table) xs))
  brings_sound f is_open way = brought_sound size f.table opened (items f.table) is_open sent (of_its_table f.table) xs all f way (find (is_of_table f.table) xs) refl

  pub waits_still : (part : Part) → IsOpened (size (table_of part)) (items (table_of part)) opened → IsPart size sent part → AreAnswering size sent (parted opened xs part).answerings
  waits_still (Asks head) is_open is = all
  waits_still (Responds response) is_open is = all
  waits_still (Pulls pull) is_open is = all
  waits_still (Answers head) is_open is =
      subst (λ (h : PulledHead). AreAnswering size sent (answered opened xs h h.header).answerings) (sym is.2)
      (answers_sound is.0 is.1 (subst (λ (h : PulledHead). IsOpened (size h.table) (items h.table) opened) is.2 is_open)).waits
  waits_still (BringsUp f) is_open is = all
  waits_still (BringsDown f) is_open is = (brings_sound f is_open (pull_on_its_way size items sent are is.0 f is.1 is.2)).waits
  waits_still (AsksTorn torn) is_open is = all
  waits_still (AnswersTorn head) is_open is = all

  pub comes_whole : (part : Part) → IsOpened (size (table_of part)) (items (table_of part)) opened → IsPart size sent part → (m : Message) → (parted opened xs part).taken ≡ Whole m → ComesAs opened sent part m
  comes_whole (Asks head) is_open is m e = absurd (wait_whole m e)
  comes_whole (Responds response) is_open is m e = sym (same_whole (SyncResponse response) m e)
  comes_whole (Pulls pull) is_open is m e = absurd (wait_whole m e)
  comes_whole (Answers head) is_open is m e =
      subst (λ (h : PulledHead). IsTakenAsSent h.table opened sent m) (sym is.2)
      (as_sent is.0.table opened sent m
      ((answers_sound is.0 is.1 (subst (λ (h : PulledHead). IsOpened (size h.table) (items h.table) opened) is.2 is_open)).whole m (subst (λ (h : PulledHead). (answered opened xs h h.header).taken ≡ Whole m) is.2 e)))
  comes_whole (BringsUp f) is_open is m e = absurd (wait_whole m e)
  comes_whole (BringsDown f) is_open is m e = as_sent f.table opened sent m ((brings_sound f is_open (pull_on_its_way size items sent are is.0 f is.1 is.2)).whole m e)
  comes_whole (AsksTorn torn) is_open is m e = absurd (wait_whole m e)
  comes_whole (AnswersTorn head) is_open is m e = absurd (wait_whole m e)

-- ---- more items, and more that is sent

item_still : (items more : List Stored) (row : List ℕ) (version : ℕ) (i : Stored) → ((j : Stored) → Among items j → Among more j) → IsItemAt items row version i → IsItemAt more row version i
item_still items more row version i to is = record { stands = to i is.stands; row_is = is.row_is; version_is = is.version_is }

pub item_of_more : (items more : List Stored) (size : ℕ) (h : Header) → ((j : Stored) → Among items j → Among more j) → IsOfItem size items h → IsOfItem size more h
item_of_more items more size h to is =
    record { item = is.item; is = item_still items more h.row h.version is.item to is.is; content = is.content; names = is.names; named = is.named }

pub answers_still : (size : ℕ → ℕ) (items more : ℕ → List Stored) (sent : List Pulled) → ((table : ℕ) (i : Stored) → Among (items table) i → Among (more table) i) → AreAnswers size items sent → AreAnswers size more sent
answers_still size items more sent to are = λ p h was e. item_of_more (items p.table) (more p.table) (size p.table) h (to p.table) (are p h was e)

one_still : (size : ℕ) (sent others : List Pulled) → ((p : Pulled) → Among sent p → Among others p) → (x : Answering) → IsAnswering size sent x → IsAnswering size others x
one_still size sent others to x is = record {
  answer = is.answer;
  header = is.header;
  was_sent = to is.answer is.was_sent;
  header_is = is.header_is;
  head = is.head;
  row = is.row;
  places = is.places;
  came = is.came;
}

pub more_sent : (size : ℕ → ℕ) (sent others : List Pulled) → ((p : Pulled) → Among sent p → Among others p) → (xs : List Answering) → AreAnswering size sent xs → AreAnswering size others xs
more_sent size sent others to [] all = tt
more_sent size sent others to (x ∷ xs) all = (one_still (size x.head.table) sent others to x all.0, more_sent size sent others to xs all.1)
