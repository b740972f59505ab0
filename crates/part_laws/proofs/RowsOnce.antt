-- A row that was asked for whole, whose header comes, and then each of its chunks, is taken once.
use Rattle.std.proofs.Common.{◌≡◌, ℕ, Bool, true, false, cond, List, [], ◌∷◌, ◌++◌, Option, Some, None, refl, sym, ◌∙◌, ap, subst, true≢false}
use Rattle.std.specs.Prelude.{◌==◌, ◌&&◌, nat_le, option_map, map, if◌then◌else◌}
use Rattle.std.specs.List.{find, list_any, AllByRecursion}
use Rattle.std.proofs.lemmas.Bool.{and_parts}
use Rattle.stab_base.specs.declared.chunk_name.ChunkName.{ChunkName}
use Rattle.table_model.specs.History.{same_row}
use Rattle.chunker.specs.Sized.{sized}
use Rattle.assemblies.specs.declared.awaiting.Awaited.{Awaited}
use Rattle.assemblies.specs.declared.sent.Sent.TheVariants as sents
use Rattle.assemblies.specs.Travel.{is_sent}
use Rattle.assemblies.specs.Places.{awaited_of}
use Rattle.assemblies.specs.Gathering.{Slot, waiting, taken, takes, is_whole, stands_at}
use Rattle.assemblies.specs.Parts.{chunk_in, gathered, brings, IsChunkOf, HasItsLen}
use Rattle.assemblies.proofs.Lengths.{lens_of}
use Rattle.assemblies.proofs.Mixes.{places_stay, places_waiting, none_came, more_came, whole_when_brought}
use Rattle.step_tables.specs.Chunks.{flat, is_of_each, objects_of, is_named, are_apart}
use Rattle.step_tables.specs.Store.{Stored}
use Rattle.step_tables.specs.Members.{Among}
use Rattle.step_tables.specs.Messages.{TornPulled, Header, Message, TornRowResponse}
use Rattle.step_tables.specs.ClientMoves.{Slots, TableDisk, client_step, Take, slots_at, top}
use Rattle.step_tables.proofs.Lists.{among_here, among_next, among_none, among_map, same_row-refl}
use Rattle.part_tables.specs.Parts.{AnswersTorn, BringsDown, Fragment, spelled_by, kept, row_head, torn_head, chunks_whole}
use Rattle.part_tables.specs.ClientParts.{Answering, Whole, Waits, is_of_table, names_in}
use Rattle.part_tables.specs.ClientParts as client_parts
use Rattle.part_tables.specs.Arriving.{WholeRow, Arriving, nothing_arriving, Arrived, is_of_row, without_row, torn_answer, ended, weighed, answered, waits_whole, brought_to, is_awaited, of_pull}
use Rattle.part_laws.specs.Answers.{IsOfItem, IsOpened, AreTakenAlike}
use Rattle.part_laws.specs.Arrived.{whole_in}
use Rattle.part_laws.specs.Rows.{SentDown, AreOfItems, IsWholeRow}
use Rattle.part_laws.specs.RowsOnce.{completed, IsOfItsRow, AreAllChunks, NoneAwaits, IsTakenOnce}
use Rattle.part_laws.proofs.Lengths.{names_back, named_by_lens, kept_of_each}
use Rattle.part_laws.proofs.Members.{each_among}
use Rattle.part_laws.proofs.Completed.{none_left, all_from, any_from, not_taken, then_is, else_then, else_else, third_false, as_fragment, as_fragments}
use Rattle.part_laws.proofs.Wholes.{itself, IsFragment, fragment_is, whole_of}
use Rattle.part_laws.proofs.WholeRows.{taken_by_lens, taken_whole, nothing_kept, no_row}

empty_is : {X : Type 0} (xs : List X) → ((x : X) → Among xs x → ⊥) → xs ≡ []
empty_is [] none = refl
empty_is (x ∷ xs) none = absurd (none x (among_here x xs))

module _ (opened : TableDisk) (items : List Stored) (is_open : IsOpened opened.schema.chunk items opened) (sent : SentDown) (t : TornPulled) (h : Header) (was : Among sent.rows t)
    (header_is : t.header ≡ Some h) (row_is : h.row ≡ t.row) (are : (u : TornPulled) (g : Header) → Among sent.rows u → u.table ≡ t.table → u.header ≡ Some g → IsOfItem opened.schema.chunk items g)
    (a : Arriving) where
  abbrev k : ℕ
  k = opened.schema.chunk

  abbrev sizes : ℕ → ℕ
  sizes table = k

  abbrev here : Slots
  here = slots_at opened h.row

  abbrev Once : List Message → Type 0
  Once messages = IsTakenOnce opened t messages

  abbrev with_rows : List WholeRow → Arriving
  with_rows xs = record a { rows = xs }

  abbrev after : Arrived → List Fragment → List Message
  after r fs = whole_in r.taken ++ completed opened r.arriving (map (λ (f : Fragment). BringsDown f) fs)

  abbrev awaits : List Awaited
  awaits = awaited_of (is_sent sents.All) k (spelled_by h.content (kept h.names))

  abbrev OfRow : Fragment → Type 0
  OfRow f = IsFragment k t.client t.table h.row h.version h.content f

  -- chunks of the row for which no answer to a pull waits
  abbrev OfAll : List Fragment → Type 0
  OfAll fs = (f : Fragment) → Among fs f → OfRow f × (is_awaited f (find (is_of_table f.table) a.pulls) ≡ false)

  -- what has come of it
  record Has (slots : List Slot) : Type 0 where
    places : map (λ (slot : Slot). slot.0) slots ≡ awaits
    came : AllByRecursion (IsChunkOf k h.content) slots

  abbrev with_slots : List Slot → WholeRow
  with_slots slots = record { head = torn_head t; row = row_head h; slots = slots }

  abbrev is_row : (slots : List Slot) → Has slots → IsWholeRow k sent.rows (with_slots slots)
  is_row slots has = record { answer = t; header = h; was_sent = was; header_is = header_is; head = refl; row = refl; places = has.places; came = has.came }

  its : IsOfItem k items h
  its = are t h was refl header_is

  each : is_of_each k h.names (objects_of h.content) ≡ true
  each = (and_parts (is_of_each k h.names (objects_of h.content)) (are_apart (flat h.names)) its.named).0

  -- what a fragment makes that no answer to a pull waits for
  abbrev brought_free : Arriving → Fragment → Arrived
  brought_free b f = brought_to opened b f (find (is_of_row f.table f.row) b.rows)

  free_is : (xs : List WholeRow) (f : Fragment) (fs : List Fragment) → is_awaited f (find (is_of_table f.table) a.pulls) ≡ false
      → completed opened (with_rows xs) (map (λ (g : Fragment). BringsDown g) (f ∷ fs)) ≡ after (brought_free (with_rows xs) f) fs
  free_is xs f fs free =
      ap (λ (b : Bool). after (if b then of_pull f.table (with_rows xs) (client_parts.parted opened a.pulls (BringsDown f)) else brought_free (with_rows xs) f) fs) free

  -- ---- nothing of the row waits

  nothing_more : (torn : List (ℕ × List ℕ)) (xs : List WholeRow) → find (is_of_row t.table t.row) xs ≡ None → (fs : List Fragment) → OfAll fs
      → completed opened (record a { rows = xs; torn = torn }) (map (λ (f : Fragment). BringsDown f) fs) ≡ []
  nothing_more torn xs none [] of_all = refl
  nothing_more torn xs none (f ∷ fs) of_all =
      let b : Arriving = record a { rows = xs; torn = torn } in
      let of_f = of_all f (among_here f fs) in
      let same_place : is_of_row f.table f.row ≡ is_of_row t.table t.row =
      ap (λ table. is_of_row table f.row) of_f.0.table_is ∙ ap (λ (r : List ℕ). is_of_row t.table r) (of_f.0.row_is ∙ row_is) in
      ap (λ (w : Bool). after (if w then of_pull f.table b (client_parts.parted opened a.pulls (BringsDown f)) else brought_free b f) fs) of_f.1
      ∙ (ap (λ (o : Option WholeRow). after (brought_to opened b f o) fs) (ap (λ (p : WholeRow → Bool). find p xs) same_place ∙ none)
      ∙ nothing_more torn xs none fs (λ other among. of_all other (among_next f fs other among)))

  ends : (o : Option Header) (xs : List WholeRow) (fs : List Fragment) → find (is_of_row t.table t.row) xs ≡ None → OfAll fs → (r : Arrived) → r ≡ ended (with_rows xs) xs (torn_head t) o
      → AreTakenAlike t.table opened (torn_answer (torn_head t) o) (TornRowResponse t) → Once (after r fs)
  ends o xs fs none of_all r is alike = record {
    message = torn_answer (torn_head t) o;
    one = ap (λ (u : Arrived). after u fs) is ∙ ap (λ (ms : List Message). torn_answer (torn_head t) o ∷ ms) (nothing_more _ xs none fs of_all);
    alike = alike;
  }

  none_of : (table : ℕ) (row : List ℕ) → table ≡ t.table → row ≡ t.row → (xs : List WholeRow) → find (is_of_row t.table t.row) (without_row table row xs) ≡ None
  none_of table row table_is same xs =
      ap (λ n. find (is_of_row t.table t.row) (without_row n row xs)) table_is
      ∙ (ap (λ (r : List ℕ). find (is_of_row t.table t.row) (without_row t.table r xs)) same ∙ none_left (is_of_row t.table t.row) xs)

  module _ (newer : nat_le h.version (top here.conflict here.shadow) ≡ false) where
    whole_ends : (slots : List Slot) (has : Has slots) (before others : List WholeRow) (fs : List Fragment) → find (is_of_row t.table t.row) others ≡ None → OfAll fs → is_whole slots ≡ true
        → Once (after (weighed here (with_rows before) others (with_slots slots)) fs)
    whole_ends slots has before others fs none of_all whole =
        ends _ others fs none of_all _ (else_then (nat_le h.version (top here.conflict here.shadow)) (is_whole slots) _ _ _ newer whole)
        (taken_whole sizes t.table opened items is_open sent are nothing_arriving (nothing_kept sizes sent) (with_slots slots) (is_row slots has) refl whole)

    -- the chunks of these fragments come to what has come
    abbrev Come : List Fragment → Type 0
    Come fs = (slots : List Slot) → Has slots → (others : List WholeRow) → is_whole slots ≡ false → is_whole (gathered (as_fragments fs) slots) ≡ true
        → Once (completed opened (with_rows (with_slots slots ∷ others)) (map (λ (f : Fragment). BringsDown f) fs))

    module _ (f : Fragment) (fs : List Fragment) (of_all : OfAll (f ∷ fs)) (rest_come : Come fs) (slots : List Slot) (has : Has slots) (others : List WholeRow) (lacks : is_whole slots ≡ false)
        (whole : is_whole (gathered (as_fragments (f ∷ fs)) slots) ≡ true) where
      abbrev x : WholeRow
      x = with_slots slots

      abbrev xs : List WholeRow
      xs = x ∷ others

      abbrev more : List Slot
      more = taken f.column f.place f.bytes slots

      of_f : OfRow f
      of_f = (of_all f (among_here f fs)).0

      f_row : f.row ≡ t.row
      f_row = of_f.row_is ∙ row_is

      of_rest : OfAll fs
      of_rest other among = of_all other (among_next f fs other among)

      is_here : is_of_row f.table f.row x ≡ true
      is_here =
          ap (λ n. (t.table == n) && same_row t.row f.row) of_f.table_is
          ∙ (ap (λ (b : Bool). b && same_row t.row f.row) (itself t.table) ∙ (ap (same_row t.row) f_row ∙ same_row-refl t.row))

      found : find (is_of_row f.table f.row) xs ≡ Some x
      found = ap (λ (b : Bool). cond b (Some x) (find (is_of_row f.table f.row) others)) is_here

      has_more : Has more
      has_more = record {
        places = places_stay f.column f.place f.bytes slots ∙ has.places;
        came = more_came k h.content f.column f.place f.bytes slots (λ takes_it. of_f.bytes_are) has.came;
      }

      abbrev lacking_still : Arrived
      lacking_still = record { taken = Waits; arriving = with_rows (with_slots more ∷ without_row f.table f.row xs) }

      by_whole : (w : Bool) → is_whole more ≡ w
          → Once (after (if w then weighed (slots_at opened f.row) (with_rows xs) (without_row f.table f.row xs) (with_slots more) else lacking_still) fs)
      by_whole true is =
          subst (λ (r : List ℕ). Once (after (weighed (slots_at opened r) (with_rows xs) (without_row f.table f.row xs) (with_slots more)) fs)) (sym of_f.row_is)
          (whole_ends more has_more xs (without_row f.table f.row xs) fs (none_of f.table f.row of_f.table_is f_row xs) of_rest is)
      by_whole false is = rest_come more has_more (without_row f.table f.row xs) is whole

      by_waits : (b : Bool) → waits_whole f x ≡ b
          → Once (after (if b then (if is_whole more then weighed (slots_at opened f.row) (with_rows xs) (without_row f.table f.row xs) (with_slots more) else lacking_still)
          else record { taken = Waits; arriving = with_rows xs }) fs)
      by_waits true is = by_whole (is_whole more) refl
      by_waits false is =
          let stays = not_taken f.column f.place f.bytes slots
          (third_false (same_row h.row f.row) (h.version == f.key) (takes f.column f.place f.bytes slots) (ap (same_row h.row) of_f.row_is ∙ same_row-refl h.row)
          (ap (λ n. h.version == n) of_f.key_is ∙ itself h.version) is) in
          rest_come slots has others lacks (ap (λ (s : List Slot). is_whole (gathered (as_fragments fs) s)) (sym stays) ∙ whole)

      one_comes : Once (completed opened (with_rows xs) (map (λ (g : Fragment). BringsDown g) (f ∷ fs)))
      one_comes =
          subst Once (sym (free_is xs f fs (of_all f (among_here f fs)).1))
          (subst (λ (o : Option WholeRow). Once (after (brought_to opened (with_rows xs) f o) fs)) (sym found) (by_waits (waits_whole f x) refl))

    comes : (fs : List Fragment) → OfAll fs → Come fs
    comes [] of_all slots has others lacks whole = absurd (true≢false (sym whole ∙ lacks))
    comes (f ∷ fs) of_all slots has others lacks whole = one_comes f fs of_all (comes fs (λ other among. of_all other (among_next f fs other among))) slots has others lacks whole

  -- each chunk has come
  abbrev sent_for : Awaited → Fragment
  sent_for it = record {
    client = t.client;
    table = t.table;
    row = h.row;
    key = h.version;
    column = it.column;
    place = it.place;
    bytes = chunk_in k h.content it.column it.place;
  }

  lens : AllByRecursion (HasItsLen k h.content) awaits
  lens = lens_of (λ (name : ChunkName). []) (is_sent sents.All) k (spelled_by h.content (kept h.names)) h.content
      (whole_of (λ (name : ChunkName). []) (is_sent sents.All) k is_open.some (λ ordinal. refl) h.content (kept h.names) (kept_of_each k h.names (objects_of h.content) ∙ each)
      (λ name bytes among stays. absurd (true≢false stays)))

  is_brought : (it : Awaited) → HasItsLen k h.content it → brings it (as_fragment (sent_for it)) ≡ true
  is_brought it len =
      ap (λ n. stands_at it.column it.place it && (it.len == n)) len
      ∙ (ap (λ (b : Bool). (b && (it.place == it.place)) && (it.len == it.len)) (itself it.column) ∙ (ap (λ (b : Bool). b && (it.len == it.len)) (itself it.place) ∙ itself it.len))

  all_come : (fs : List Fragment) → ((f : Fragment) → Among (chunks_whole k t (Some h)) f → Among fs f) → is_whole (gathered (as_fragments fs) (waiting awaits)) ≡ true
  all_come fs all =
      whole_when_brought awaits (as_fragments fs) ∙ all_from (λ it. list_any (brings it) (as_fragments fs)) awaits (λ it among. any_from (brings it) (as_fragments fs) (as_fragment (sent_for it))
      (among_map as_fragment fs (sent_for it) (all (sent_for it) (among_map sent_for awaits it among))) (is_brought it (each_among (HasItsLen k h.content) awaits it lens among)))

  -- ---- the header comes, and then the chunks

  module _ (fs : List Fragment) (all : AreAllChunks k t fs) (free : NoneAwaits a fs) where
    abbrev behind : List WholeRow
    behind = without_row t.table t.row a.rows

    abbrev begun : List Slot
    begun = waiting awaits

    has_begun : Has begun
    has_begun = record { places = places_waiting awaits; came = none_came k h.content awaits }

    of_row : OfAll fs
    of_row f among = (
      fragment_is (is_sent sents.All) k t.client t.table h.row h.version h.content (kept h.names) f (subst (λ (o : Option Header). Among (chunks_whole k t o) f) header_is (all.each f among)),
      free f among,
    )

    comes_all : (f : Fragment) → Among (chunks_whole k t (Some h)) f → Among fs f
    comes_all f among = all.all f (subst (λ (o : Option Header). Among (chunks_whole k t o) f) (sym header_is) among)

    names_it : is_named k (sized (spelled_by h.content (kept h.names))) (names_in (spelled_by h.content (kept h.names))) ≡ true
    names_it = ap (is_named k (sized (spelled_by h.content (kept h.names)))) (names_back k h.content h.names each) ∙ (named_by_lens k h.content (kept h.names) h.names ∙ its.named)

    by_begun : (w : Bool) → is_whole begun ≡ w → nat_le h.version (top here.conflict here.shadow) ≡ false → Once (after (weighed here a behind (with_slots begun)) fs)
    by_begun true is newer = whole_ends newer begun has_begun a.rows behind fs (none_of t.table t.row refl refl a.rows) of_row is
    by_begun false is newer =
        subst (λ (r : Arrived). Once (after r fs)) (sym (else_else (nat_le h.version (top here.conflict here.shadow)) (is_whole begun) _ _ _ newer is))
        (comes newer fs of_row begun has_begun behind is (all_come fs comes_all))

    by_version : (b : Bool) → nat_le h.version (top here.conflict here.shadow) ≡ b → Once (after (weighed here a behind (with_slots begun)) fs)
    by_version true is =
        ends _ behind fs (none_of t.table t.row refl refl a.rows) of_row _ (then_is (nat_le h.version (top here.conflict here.shadow)) _ _ is)
        (taken_by_lens sizes t.table opened items is_open sent are nothing_arriving (nothing_kept sizes sent) (with_slots begun) (is_row begun has_begun) refl is)
    by_version false is = by_begun (is_whole begun) refl is

    pub once : IsTakenOnce opened t (completed opened a (AnswersTorn (torn_head t) ∷ map (λ (f : Fragment). BringsDown f) fs))
    once =
        subst (λ (o : Option Header). Once (after (answered opened a (torn_head t) (option_map row_head o)) fs)) (sym header_is)
        (subst (λ (r : Arrived). Once (after r fs)) (sym (then_is (is_named k (sized (spelled_by h.content (kept h.names))) (names_in (spelled_by h.content (kept h.names)))) _ _ names_it))
        (by_version (nat_le h.version (top here.conflict here.shadow)) refl))

-- the Store has no such row
module _ (opened : TableDisk) (t : TornPulled) (none : t.header ≡ None) (a : Arriving) (fs : List Fragment)
    (all : (f : Fragment) → Among fs f → Among (chunks_whole opened.schema.chunk t t.header) f) where
  no_chunks : (f : Fragment) → Among fs f → ⊥
  no_chunks f among = among_none f (subst (λ (o : Option Header). Among (chunks_whole opened.schema.chunk t o) f) none (all f among))

  no_row_once : IsTakenOnce opened t (completed opened a (AnswersTorn (torn_head t) ∷ map (λ (f : Fragment). BringsDown f) fs))
  no_row_once =
      subst (λ (gs : List Fragment). IsTakenOnce opened t (completed opened a (AnswersTorn (torn_head t) ∷ map (λ (f : Fragment). BringsDown f) gs))) (sym (empty_is fs no_chunks))
      (subst (λ (o : Option Header). IsTakenOnce opened t (whole_in (answered opened a (torn_head t) (option_map row_head o)).taken ++ [])) (sym none) (record {
        message = torn_answer (torn_head t) None;
        one = refl;
        alike = λ c shape d there. ap (λ (m : Message). client_step c shape (record { disk = d; agenda = Some [] }) (Take m)) (no_row t none);
      }))

-- where sizes and items go by tables
pub row_once : (size : ℕ → ℕ) (items : ℕ → List Stored) (sent : SentDown) (opened : TableDisk) (a : Arriving) (t : TornPulled) (fs : List Fragment) → AreOfItems size items sent
    → IsOpened (size t.table) (items t.table) opened → Among sent.rows t → IsOfItsRow t → AreAllChunks (size t.table) t fs → NoneAwaits a fs
    → IsTakenOnce opened t (completed opened a (AnswersTorn (torn_head t) ∷ map (λ (f : Fragment). BringsDown f) fs))
row_once size items sent opened a t fs are is_open was of_row all free = by_header t.header refl
  where
    chunks_are : AreAllChunks opened.schema.chunk t fs
    chunks_are = subst (λ n. AreAllChunks n t fs) (sym is_open.size_is) all

    its : (u : TornPulled) (g : Header) → Among sent.rows u → u.table ≡ t.table → u.header ≡ Some g → IsOfItem opened.schema.chunk (items t.table) g
    its u g was_u same_table is =
        subst (λ n. IsOfItem n (items t.table) g) (sym is_open.size_is) (subst (λ table. IsOfItem (size table) (items table) g) same_table (are.rows u g was_u is))

    by_header : (o : Option Header) → t.header ≡ o → IsTakenOnce opened t (completed opened a (AnswersTorn (torn_head t) ∷ map (λ (f : Fragment). BringsDown f) fs))
    by_header None e = no_row_once opened t e a fs chunks_are.each
    by_header (Some h) e =
        once opened (items t.table) (subst (λ n. IsOpened n (items t.table) opened) (sym is_open.size_is) is_open) sent t h was e (of_row h e) its a fs chunks_are free
