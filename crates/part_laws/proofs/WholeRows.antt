-- What a client makes of parts of answers to its pulls, and of rows that it asked for whole.
use Rattle.std.proofs.Common.{◌≡◌, ◌⊎◌, ⊎_elim, inl, inr, ℕ, Bool, true, false, List, [], ◌∷◌, Option, Some, None, refl, sym, ◌∙◌, ap, subst, true≢false}
use Rattle.std.specs.Prelude.{◌==◌, ◌&&◌, not, nat_le, option_map, if◌then◌else◌}
use Rattle.std.specs.List.{find, AllByRecursion}
use Rattle.std.proofs.lemmas.Bool.{and_parts, eqb-true}
use Rattle.stab_base.specs.declared.chunk_name.ChunkName.{ChunkName}
use Rattle.row_value.specs.declared.content.Content.{Content}
use Rattle.table_model.specs.History.{same_row}
use Rattle.chunker.specs.Sized.{sized}
use Rattle.assemblies.specs.declared.sent.Sent.TheVariants as sents
use Rattle.assemblies.specs.Travel.{is_sent}
use Rattle.assemblies.specs.Places.{awaited_of}
use Rattle.assemblies.specs.Gathering.{waiting, taken, takes, is_whole}
use Rattle.assemblies.specs.Gathering as gathering
use Rattle.assemblies.specs.Parts.{chunk_in, joined}
use Rattle.assemblies.proofs.Mixes.{places_stay, places_waiting, none_came, more_came}
use Rattle.step_tables.specs.Chunks.{flat, is_of_each, objects_of, is_named, are_apart}
use Rattle.step_tables.specs.Store.{Stored}
use Rattle.step_tables.specs.Items.{IsItemAt}
use Rattle.step_tables.specs.Members.{Among}
use Rattle.step_tables.specs.Messages.{Pulled, TornPulled, Header, Message, SyncResponse, TornRowResponse}
use Rattle.step_tables.specs.Messages as messages
use Rattle.step_tables.specs.ClientMoves.{Slots, TableDisk, client_step, Take, table_at, seen, slots_at, top}
use Rattle.step_tables.proofs.Lists.{among_none, among_found, same_row-is}
use Rattle.part_tables.specs.Parts.{Part, Asks, Responds, Pulls, Answers, BringsUp, BringsDown, AsksTorn, AnswersTorn, PulledHead, TornHead, RowHead, Fragment, spelled_by, kept}
use Rattle.part_tables.specs.Parts.{row_head, pulled_head, torn_head, chunks_whole}
use Rattle.part_tables.specs.ClientParts.{Answering, Whole, Tears, Waits, ClientTaken, is_of_table, header_with, names_in}
use Rattle.part_tables.specs.Arriving.{WholeRow, Arriving, nothing_arriving, Arrived, is_of_row, without_row, torn_answer, ended, assembled, weighed, answered}
use Rattle.part_tables.specs.Arriving.{waits_whole, brought_to, is_awaited, of_pull, arrived, asking}
use Rattle.part_laws.specs.Lengths as same_lengths
use Rattle.part_laws.specs.Answers.{IsOfItem, IsOpened, IsAnswering, table_of, AreTakenAlike}
use Rattle.part_laws.specs.Rows.{SentDown, AreOfItems, IsWholeRow, AreArriving, IsChunkSent, IsPart, IsOfWholeRow, IsTakenAsPull, IsTakenAsRow, ComesAs, IsTornRow}
use Rattle.part_laws.proofs.Lengths.{as_long, names_back, kept_of_each}
use Rattle.part_laws.proofs.Answers.{whole_alike}
use Rattle.part_laws.proofs.Members.{each_among, each_filter}
use Rattle.part_laws.proofs.Wholes.{IsFragment, fragment_is, joined_is}
use Rattle.part_laws.proofs.Clients.{IsSound, IsOnItsWay, on_its_way, pull_on_its_way, answers_sound, brings_sound, same_whole, wait_whole, whole_torn, wait_torn}
use Rattle.part_laws.proofs.Clients.{item_of_more, answers_still, more_sent}

-- ---- what a part comes to

-- what is kept stays as it should, what is whole is so, and a torn row is of an answer to a pull
pub record IsKept (size : ℕ → ℕ) (table : ℕ) (sent : SentDown) (IsSo : Message → Type 0) (t : Arrived) : Type 0 where
  pub arriving : AreArriving size sent t.arriving
  pub whole : (m : Message) → t.taken ≡ Whole m → IsSo m
  pub tears : (row : List ℕ) → t.taken ≡ Tears row → IsTornRow table sent.pulls row

kept_as : (size : ℕ → ℕ) (table : ℕ) (sent : SentDown) (P Q : Message → Type 0) → ((m : Message) → P m → Q m) → (t : Arrived) → IsKept size table sent P t → IsKept size table sent Q t
kept_as size table sent P Q to t is = record { arriving = is.arriving; whole = λ m e. to m (is.whole m e); tears = is.tears }

if_kept : (size : ℕ → ℕ) (table : ℕ) (sent : SentDown) (P : Message → Type 0) (b : Bool) (x y : Arrived) → (b ≡ true → IsKept size table sent P x) → (b ≡ false → IsKept size table sent P y)
    → IsKept size table sent P (if b then x else y)
if_kept size table sent P true x y f h = f refl
if_kept size table sent P false x y f h = h refl

-- the row of headers, with a content
with_heads : (size : ℕ) (t : TornPulled) (h : Header) (content : Content) → is_of_each size h.names (objects_of h.content) ≡ true
    → torn_answer (torn_head t) (Some (header_with (row_head h) content)) ≡ same_lengths.torn_with t h content
with_heads size t h content each =
    ap (λ (names : List (List ChunkName)). TornRowResponse (record {
      client = t.client;
      table = t.table;
      row = t.row;
      header = Some (record { row = h.row; version = h.version; yours = h.yours; content = content; names = names });
    })) (names_back size h.content h.names each)

-- nothing was written to the row
pub no_row : (t : TornPulled) → t.header ≡ None → torn_answer (torn_head t) None ≡ TornRowResponse t
no_row t e = ap (λ (o : Option Header). TornRowResponse (record t { header = o })) (sym e)

-- ---- a row that was asked for whole

module _ (size : ℕ → ℕ) (table : ℕ) (opened : TableDisk) (items : List Stored) (is_open : IsOpened (size table) items opened) (sent : SentDown)
    (are : (t : TornPulled) (h : Header) → Among sent.rows t → t.table ≡ table → t.header ≡ Some h → IsOfItem (size table) items h) (a : Arriving) (all : AreArriving size sent a) where
  abbrev n : ℕ
  n = size table

  abbrev Sound : Arrived → Type 0
  Sound t = IsKept size table sent (λ (m : Message). IsTakenAsRow table opened sent.rows m) t

  abbrev AreRows : List WholeRow → Type 0
  AreRows xs = AllByRecursion (λ (x : WholeRow). IsWholeRow (size x.head.table) sent.rows x) xs

  if_sound : (b : Bool) (x y : Arrived) → (b ≡ true → Sound x) → (b ≡ false → Sound y) → Sound (if b then x else y)
  if_sound b x y f h = if_kept size table sent (λ (m : Message). IsTakenAsRow table opened sent.rows m) b x y f h

  waiting_sound : (xs : List WholeRow) → AreRows xs → Sound (record { taken = Waits; arriving = record a { rows = xs } })
  waiting_sound xs rows = record { arriving = record { pulls = all.pulls; rows = rows }; whole = λ m e. absurd (wait_whole m e); tears = λ row e. absurd (wait_torn row e) }

  still_sound : Sound (record { taken = Waits; arriving = a })
  still_sound = record { arriving = all; whole = λ m e. absurd (wait_whole m e); tears = λ row e. absurd (wait_torn row e) }

  others_wait : (t : ℕ) (row : List ℕ) → AreRows (without_row t row a.rows)
  others_wait t row = each_filter (λ (x : WholeRow). IsWholeRow (size x.head.table) sent.rows x) (λ (x : WholeRow). not (is_of_row t row x)) a.rows all.rows

  ended_sound : (t : TornPulled) → Among sent.rows t → t.table ≡ table → (xs : List WholeRow) → AreRows xs → (head : TornHead) (o : Option Header) → head.table ≡ table
      → AreTakenAlike table opened (torn_answer head o) (TornRowResponse t) → IsOfWholeRow t (torn_answer head o) → Sound (ended a xs head o)
  ended_sound t was of_table xs rows head o to_table alike of_it = record {
    arriving = record { pulls = all.pulls; rows = rows };
    whole = λ m e. record {
      answer = t;
      was_sent = was;
      table_is = of_table;
      to_table = sym (ap messages.table_of (same_whole (torn_answer head o) m e)) ∙ to_table;
      alike = subst (λ (z : Message). AreTakenAlike table opened z (TornRowResponse t)) (same_whole (torn_answer head o) m e) alike;
      of_it = subst (λ (z : Message). IsOfWholeRow t z) (same_whole (torn_answer head o) m e) of_it;
    };
    tears = λ row e. absurd (whole_torn (torn_answer head o) row e);
  }

  module _ (x : WholeRow) (is : IsWholeRow n sent.rows x) (of_table : x.head.table ≡ table) where
    abbrev t : TornPulled
    t = is.answer

    abbrev h : Header
    h = is.header

    t_table : t.table ≡ table
    t_table = sym (ap (λ (head : TornHead). head.table) is.head) ∙ of_table

    its_item : IsOfItem n items h
    its_item = are t h is.was_sent t_table is.header_is

    each : is_of_each n h.names (objects_of h.content) ≡ true
    each = (and_parts (is_of_each n h.names (objects_of h.content)) (are_apart (flat h.names)) its_item.named).0

    same_message : (content : Content) → torn_answer x.head (Some (header_with x.row content)) ≡ same_lengths.torn_with t h content
    same_message content =
        ap (λ (head : TornHead). torn_answer head (Some (header_with x.row content))) is.head
        ∙ (ap (λ (row : RowHead). torn_answer (torn_head t) (Some (header_with row content))) is.row ∙ with_heads n t h content each)

    as_it_was : same_lengths.torn_with t h h.content ≡ TornRowResponse t
    as_it_was = ap (λ (o : Option Header). TornRowResponse (record t { header = o })) (sym is.header_is)

    by_lens : torn_answer x.head (Some (header_with x.row (sized x.row.content))) ≡ same_lengths.torn_with t h (sized (spelled_by h.content (kept h.names)))
    by_lens = ap (λ (row : RowHead). torn_answer x.head (Some (header_with x.row (sized row.content)))) is.row ∙ same_message (sized (spelled_by h.content (kept h.names)))

    -- it isn't newer than the row that was read
    pub taken_by_lens : nat_le h.version (top (slots_at opened h.row).conflict (slots_at opened h.row).shadow) ≡ true
        → AreTakenAlike table opened (torn_answer x.head (Some (header_with x.row (sized x.row.content)))) (TornRowResponse t)
    taken_by_lens old = λ c shape d there.
        ap (λ (m : Message). client_step c shape (record { disk = d; agenda = Some [] }) (Take m)) by_lens
        ∙ (whole_alike c shape d opened t h (sized (spelled_by h.content (kept h.names))) (sym (as_long h.content (kept h.names))) old (ap (λ k. table_at (seen d) k) t_table ∙ there)
        ∙ ap (λ (m : Message). client_step c shape (record { disk = d; agenda = Some [] }) (Take m)) as_it_was)

    -- all its chunks have come
    made_whole : is_whole x.slots ≡ true → assembled x ≡ h.content
    made_whole whole =
        ap (λ (row : RowHead). joined (λ (name : ChunkName). []) (is_sent sents.All) row.content (gathering.chunks_of x.slots)) is.row
        ∙ joined_is (λ (name : ChunkName). []) (is_sent sents.All) n is_open.some (λ ordinal. refl) h.content (kept h.names) x.slots (kept_of_each n h.names (objects_of h.content) ∙ each)
        (λ name bytes among stays. absurd (true≢false stays)) is.places is.came whole

    whole_is : is_whole x.slots ≡ true → torn_answer x.head (Some (header_with x.row (assembled x))) ≡ TornRowResponse t
    whole_is whole = ap (λ (content : Content). torn_answer x.head (Some (header_with x.row content))) (made_whole whole) ∙ (same_message h.content ∙ as_it_was)

    pub taken_whole : is_whole x.slots ≡ true → AreTakenAlike table opened (torn_answer x.head (Some (header_with x.row (assembled x)))) (TornRowResponse t)
    taken_whole whole = λ c shape d there. ap (λ (m : Message). client_step c shape (record { disk = d; agenda = Some [] }) (Take m)) (whole_is whole)

    old_row : (slots : Slots) → slots ≡ slots_at opened h.row → nat_le x.row.version (top slots.conflict slots.shadow) ≡ true
        → nat_le h.version (top (slots_at opened h.row).conflict (slots_at opened h.row).shadow) ≡ true
    old_row slots at old =
        sym (ap (λ (row : RowHead). nat_le row.version (top slots.conflict slots.shadow)) is.row ∙ ap (λ (s : Slots). nat_le h.version (top s.conflict s.shadow)) at) ∙ old

    weighed_sound : (slots : Slots) → slots ≡ slots_at opened h.row → (others : List WholeRow) → AreRows others → Sound (weighed slots a others x)
    weighed_sound slots at others rows =
        if_sound (nat_le x.row.version (top slots.conflict slots.shadow)) _ _
        (λ old. ended_sound t is.was_sent t_table others rows x.head _ of_table (taken_by_lens (old_row slots at old)) (inr (h, is.header_is, by_lens)))
        (λ newer. if_sound (is_whole x.slots) _ _
        (λ whole. ended_sound t is.was_sent t_table others rows x.head _ of_table (taken_whole whole) (inl (whole_is whole)))
        (λ more. waiting_sound (x ∷ others) (subst (λ k. IsWholeRow (size k) sent.rows x) (sym of_table) is, rows)))

  -- ---- its header comes

  begun : (t : TornPulled) (h : Header) → Among sent.rows t → t.header ≡ Some h
      → IsWholeRow n sent.rows (record { head = torn_head t; row = row_head h; slots = waiting (awaited_of (is_sent sents.All) n (spelled_by h.content (kept h.names))) })
  begun t h was e = record {
    answer = t;
    header = h;
    was_sent = was;
    header_is = e;
    head = refl;
    row = refl;
    places = places_waiting (awaited_of (is_sent sents.All) n (spelled_by h.content (kept h.names)));
    came = none_came n h.content (awaited_of (is_sent sents.All) n (spelled_by h.content (kept h.names)));
  }

  begun_sound : (t : TornPulled) (h : Header) → Among sent.rows t → t.table ≡ table → t.header ≡ Some h
      → Sound (weighed (slots_at opened h.row) a (without_row t.table t.row a.rows) (record {
        head = torn_head t;
        row = row_head h;
        slots = waiting (awaited_of (is_sent sents.All) opened.schema.chunk (spelled_by h.content (kept h.names)));
      }))
  unfolding begun
  begun_sound t h was of_table e =
      subst (λ k. Sound (weighed (slots_at opened h.row) a (without_row t.table t.row a.rows) (record {
        head = torn_head t;
        row = row_head h;
        slots = waiting (awaited_of (is_sent sents.All) k (spelled_by h.content (kept h.names)));
      }))) (sym is_open.size_is) (weighed_sound _ (begun t h was e) of_table (slots_at opened h.row) refl (without_row t.table t.row a.rows) (others_wait t.table t.row))

  answered_sound : (t : TornPulled) → Among sent.rows t → t.table ≡ table → (o : Option Header) → t.header ≡ o → Sound (answered opened a (torn_head t) (option_map row_head o))
  answered_sound t was of_table None e =
      ended_sound t was of_table (without_row t.table t.row a.rows) (others_wait t.table t.row) (torn_head t) None of_table
      (λ c shape d there. ap (λ (m : Message). client_step c shape (record { disk = d; agenda = Some [] }) (Take m)) (no_row t e)) (inl (no_row t e))
  answered_sound t was of_table (Some h) e =
      if_sound (is_named opened.schema.chunk (sized (spelled_by h.content (kept h.names))) (names_in (spelled_by h.content (kept h.names)))) _ _
      (λ named. begun_sound t h was of_table e) (λ drops. still_sound)

  -- ---- a chunk comes

  module _ (f : Fragment) (brings : IsOnItsWay n items table f) (x : WholeRow) (is : IsWholeRow n sent.rows x) (of_table : x.head.table ≡ table) where
    abbrev g : Header
    g = brings.header

    abbrev of_f : IsFragment n brings.client table g.row g.version g.content f
    of_f = brings.fragment

    abbrev later : WholeRow
    later = record x { slots = taken f.column f.place f.bytes x.slots }

    rows_are : waits_whole f x ≡ true → f.row ≡ is.header.row
    rows_are waits =
        let rows = and_parts (same_row x.row.row f.row) ((x.row.version == f.key) && takes f.column f.place f.bytes x.slots) waits in
        sym (same_row-is x.row.row f.row rows.0) ∙ ap (λ (row : RowHead). row.row) is.row

    same_content : waits_whole f x ≡ true → g.content ≡ is.header.content
    same_content waits =
        let rows = and_parts (same_row x.row.row f.row) ((x.row.version == f.key) && takes f.column f.place f.bytes x.slots) waits in
        let keys = and_parts (x.row.version == f.key) (takes f.column f.place f.bytes x.slots) rows.1 in
        let row_is : g.row ≡ is.header.row = sym of_f.row_is ∙ rows_are waits in
        let version_is : g.version ≡ is.header.version = sym of_f.key_is ∙ (sym (eqb-true x.row.version f.key keys.0) ∙ ap (λ (row : RowHead). row.version) is.row) in
        let of_g = brings.its in
        let of_h = its_item x is of_table in
        let there : IsItemAt items is.header.row is.header.version of_g.item =
        subst (λ (r : List ℕ). IsItemAt items r is.header.version of_g.item) row_is (subst (λ v. IsItemAt items g.row v of_g.item) version_is of_g.is) in
        sym of_g.content ∙ (is_open.contents_one is.header.row is.header.version of_g.item of_h.item there of_h.is ∙ of_h.content)

    more_came_whole : waits_whole f x ≡ true → IsWholeRow n sent.rows later
    more_came_whole waits = record {
      answer = is.answer;
      header = is.header;
      was_sent = is.was_sent;
      header_is = is.header_is;
      head = is.head;
      row = is.row;
      places = places_stay f.column f.place f.bytes x.slots ∙ is.places;
      came = more_came n is.header.content f.column f.place f.bytes x.slots
          (λ takes_it. of_f.bytes_are ∙ ap (λ (content : Content). chunk_in n content f.column f.place) (same_content waits)) is.came;
    }

    found_sound : Sound (brought_to opened a f (Some x))
    unfolding more_came_whole
    found_sound =
        if_sound (waits_whole f x) _ _
        (λ waits. if_sound (is_whole (taken f.column f.place f.bytes x.slots)) _ _
        (λ whole. weighed_sound later (more_came_whole waits) of_table (slots_at opened f.row) (ap (λ (r : List ℕ). slots_at opened r) (rows_are waits)) (without_row f.table f.row a.rows)
        (others_wait f.table f.row))
        (λ lacks. waiting_sound (later ∷ without_row f.table f.row a.rows) (subst (λ k. IsWholeRow (size k) sent.rows later) (sym of_table) (more_came_whole waits), others_wait f.table f.row)))
        (λ drops. still_sound)

  brought_sound : (f : Fragment) → IsOnItsWay n items table f → (o : Option WholeRow) → find (is_of_row f.table f.row) a.rows ≡ o → Sound (brought_to opened a f o)
  brought_sound f brings None e = still_sound
  brought_sound f brings (Some x) e =
      let found = among_found (is_of_row f.table f.row) a.rows x e in
      let of_row = and_parts (x.head.table == f.table) (same_row x.head.row f.row) found.1 in
      let of_table : x.head.table ≡ table = eqb-true x.head.table f.table of_row.0 ∙ brings.fragment.table_is in
      found_sound f brings x (subst (λ k. IsWholeRow (size k) sent.rows x) of_table (each_among (λ (y : WholeRow). IsWholeRow (size y.head.table) sent.rows y) a.rows x all.rows found.0)) of_table

-- ---- an answer to a pull

of_pull_kept : (size : ℕ → ℕ) (table : ℕ) (opened : TableDisk) (sent : SentDown) (a : Arriving) (t : ClientTaken) → AreArriving size sent a → IsSound size table opened sent.pulls t
    → IsKept size table sent (λ (m : Message). IsTakenAsPull table opened sent.pulls m) (of_pull table a t)
of_pull_kept size table opened sent a t all sound = record { arriving = record { pulls = sound.waits; rows = all.rows }; whole = sound.whole; tears = sound.tears }

-- ---- any part

whole_way_by : (size : ℕ → ℕ) (items : ℕ → List Stored) (t : TornPulled) (f : Fragment) (o : Option Header) → ((h : Header) → o ≡ Some h → IsOfItem (size t.table) (items t.table) h)
    → Among (chunks_whole (size t.table) t o) f → IsOnItsWay (size f.table) (items f.table) f.table f
whole_way_by size items t f None its a = absurd (among_none f a)
whole_way_by size items t f (Some h) its a =
    on_its_way size items t.client t.table h f (its h refl) (fragment_is (is_sent sents.All) (size t.table) t.client t.table h.row h.version h.content (kept h.names) f a)

module _ (size : ℕ → ℕ) (items : ℕ → List Stored) (sent : SentDown) (are : AreOfItems size items sent) (opened : TableDisk) (a : Arriving) (all : AreArriving size sent a) where
  sent_on_its_way : (f : Fragment) → IsChunkSent size sent f → IsOnItsWay (size f.table) (items f.table) f.table f
  sent_on_its_way f is = ⊎_elim (λ l. pull_on_its_way size items sent.pulls are.pulls l.0 f l.1 l.2) (λ r. whole_way_by size items r.0 f r.0.header (λ h e. are.rows r.0 h r.1 e) r.2) is

  of_its_table : (table : ℕ) (t : TornPulled) (h : Header) → Among sent.rows t → t.table ≡ table → t.header ≡ Some h → IsOfItem (size table) (items table) h
  of_its_table table t h was of_table e = subst (λ k. IsOfItem (size k) (items k) h) of_table (are.rows t h was e)

  abbrev Kept : Part → (Message → Type 0) → Type 0
  Kept p IsSo = IsKept size (table_of p) sent IsSo (arrived opened a p)

  waits_kept : (table : ℕ) (IsSo : Message → Type 0) → IsKept size table sent IsSo (record { taken = Waits; arriving = a })
  waits_kept table IsSo = record { arriving = all; whole = λ m e. absurd (wait_whole m e); tears = λ row e. absurd (wait_torn row e) }

  pulled_kept : (p : Pulled) → Among sent.pulls p → IsOpened (size p.table) (items p.table) opened → Kept (Answers (pulled_head p)) (λ (m : Message). IsTakenAsPull p.table opened sent.pulls m)
  pulled_kept p was is_open = of_pull_kept size p.table opened sent a _ all (answers_sound size items sent.pulls are.pulls opened a.pulls all.pulls p was is_open)

  torn_kept : (t : TornPulled) → Among sent.rows t → IsOpened (size t.table) (items t.table) opened → Kept (AnswersTorn (torn_head t)) (λ (m : Message). IsTakenAsRow t.table opened sent.rows m)
  torn_kept t was is_open = answered_sound size t.table opened (items t.table) is_open sent (of_its_table t.table) a all t was refl t.header refl

  brought_kept : (f : Fragment) → IsChunkSent size sent f → IsOpened (size f.table) (items f.table) opened
      → Kept (BringsDown f) (λ (m : Message). IsTakenAsPull f.table opened sent.pulls m ⊎ IsTakenAsRow f.table opened sent.rows m)
  brought_kept f is is_open =
      if_kept size f.table sent (λ (m : Message). IsTakenAsPull f.table opened sent.pulls m ⊎ IsTakenAsRow f.table opened sent.rows m) (is_awaited f (find (is_of_table f.table) a.pulls)) _ _
      (λ awaited. kept_as size f.table sent (λ (m : Message). IsTakenAsPull f.table opened sent.pulls m) _ (λ m so. inl so) _
      (of_pull_kept size f.table opened sent a _ all (brings_sound size items sent.pulls are.pulls opened a.pulls all.pulls f is_open (sent_on_its_way f is))))
      (λ free. kept_as size f.table sent (λ (m : Message). IsTakenAsRow f.table opened sent.rows m) _ (λ m so. inr so) _
      (brought_sound size f.table opened (items f.table) is_open sent (of_its_table f.table) a all f (sent_on_its_way f is) (find (is_of_row f.table f.row) a.rows) refl))

  pub part_kept : (p : Part) → IsOpened (size (table_of p)) (items (table_of p)) opened → IsPart size sent p → Kept p (λ (m : Message). ComesAs opened sent p m)
  part_kept (Asks head) is_open is = waits_kept head.table _
  part_kept (Responds response) is_open is = record {
    arriving = record { pulls = all.pulls; rows = all.rows };
    whole = λ m e. sym (same_whole (SyncResponse response) m e);
    tears = λ row e. absurd (whole_torn (SyncResponse response) row e);
  }
  part_kept (Pulls pull) is_open is = waits_kept pull.table _
  part_kept (Answers head) is_open is =
      subst (λ (h : PulledHead). Kept (Answers h) (λ (m : Message). IsTakenAsPull h.table opened sent.pulls m)) (sym is.2)
      (pulled_kept is.0 is.1 (subst (λ (h : PulledHead). IsOpened (size h.table) (items h.table) opened) is.2 is_open))
  part_kept (BringsUp f) is_open is = waits_kept f.table _
  part_kept (BringsDown f) is_open is = brought_kept f is is_open
  part_kept (AsksTorn torn) is_open is = waits_kept torn.table _
  part_kept (AnswersTorn head) is_open is =
      subst (λ (h : TornHead). Kept (AnswersTorn h) (λ (m : Message). IsTakenAsRow h.table opened sent.rows m)) (sym is.2)
      (torn_kept is.0 is.1 (subst (λ (h : TornHead). IsOpened (size h.table) (items h.table) opened) is.2 is_open))

-- ---- nothing, a pull, more items, and more that is sent

pub nothing_kept : (size : ℕ → ℕ) (sent : SentDown) → AreArriving size sent nothing_arriving
nothing_kept size sent = record { pulls = tt; rows = tt }

pub asking_kept : (size : ℕ → ℕ) (sent : SentDown) (table : ℕ) (a : Arriving) → AreArriving size sent a → AreArriving size sent (asking table a)
asking_kept size sent table a all = record {
  pulls = each_filter (λ (x : Answering). IsAnswering (size x.head.table) sent.pulls x) (λ (x : Answering). not (is_of_table table x)) a.pulls all.pulls;
  rows = all.rows;
}

pub items_still : (size : ℕ → ℕ) (items more : ℕ → List Stored) (sent : SentDown) → ((table : ℕ) (i : Stored) → Among (items table) i → Among (more table) i) → AreOfItems size items sent
    → AreOfItems size more sent
items_still size items more sent to are = record {
  pulls = answers_still size items more sent.pulls to are.pulls;
  rows = λ t h was e. item_of_more (items t.table) (more t.table) (size t.table) h (to t.table) (are.rows t h was e);
}

row_still : (size : ℕ) (rows others : List TornPulled) → ((t : TornPulled) → Among rows t → Among others t) → (x : WholeRow) → IsWholeRow size rows x → IsWholeRow size others x
row_still size rows others to x is = record {
  answer = is.answer;
  header = is.header;
  was_sent = to is.answer is.was_sent;
  header_is = is.header_is;
  head = is.head;
  row = is.row;
  places = is.places;
  came = is.came;
}

rows_still : (size : ℕ → ℕ) (rows others : List TornPulled) → ((t : TornPulled) → Among rows t → Among others t) → (xs : List WholeRow)
    → AllByRecursion (λ (x : WholeRow). IsWholeRow (size x.head.table) rows x) xs → AllByRecursion (λ (x : WholeRow). IsWholeRow (size x.head.table) others x) xs
rows_still size rows others to [] all = tt
rows_still size rows others to (x ∷ xs) all = (row_still (size x.head.table) rows others to x all.0, rows_still size rows others to xs all.1)

pub sent_still : (size : ℕ → ℕ) (sent others : SentDown) (a : Arriving) → ((p : Pulled) → Among sent.pulls p → Among others.pulls p) → ((t : TornPulled) → Among sent.rows t → Among others.rows t)
    → AreArriving size sent a → AreArriving size others a
sent_still size sent others a to_pulls to_rows all =
    record { pulls = more_sent size sent.pulls others.pulls to_pulls a.pulls all.pulls; rows = rows_still size sent.rows others.rows to_rows a.rows all.rows }
