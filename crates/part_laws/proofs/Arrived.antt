-- An answer whose header comes, and then each chunk that travels, is taken once.
use Rattle.std.proofs.Common.{◌≡◌, ℕ, Bool, true, false, cond, List, [], ◌∷◌, ◌++◌, Option, Some, None, refl, sym, ◌∙◌, ap, subst, true≢false}
use Rattle.std.specs.Prelude.{◌==◌, ◌&&◌, not, nat_le, option_map, map, if◌then◌else◌}
use Rattle.std.specs.List.{find, list_any, AllByRecursion}
use Rattle.std.proofs.lemmas.Bool.{and_parts}
use Rattle.table_model.specs.History.{same_row}
use Rattle.chunker.specs.Sized.{sized}
use Rattle.assemblies.specs.declared.awaiting.Awaited.{Awaited}
use Rattle.assemblies.specs.declared.sent.Sent.TheVariants as sents
use Rattle.assemblies.specs.Travel.{is_sent}
use Rattle.assemblies.specs.Places.{awaited_of}
use Rattle.assemblies.specs.Gathering.{Slot, waiting, taken, takes, is_whole, stands_at}
use Rattle.assemblies.specs.Parts.{chunk_in, gathered, brings, IsChunkOf, HasItsLen}
use Rattle.assemblies.proofs.Lengths.{lens_of}
use Rattle.assemblies.proofs.Mixes.{places_stay, places_waiting, none_came, more_came, whole_when_brought}
use Rattle.step_tables.specs.Chunks.{flat, is_of_each, objects_of, is_named, are_apart}
use Rattle.step_tables.specs.Store.{Stored}
use Rattle.step_tables.specs.Members.{Among}
use Rattle.step_tables.specs.Messages.{Pulled, Header, Message, PullResponse}
use Rattle.step_tables.specs.ClientMoves.{Slots, TableDisk, slots_at, top}
use Rattle.step_tables.proofs.Lists.{among_here, among_next, among_map, same_row-refl}
use Rattle.part_tables.specs.Parts.{Answers, BringsDown, Fragment, spelled_by, kept, row_head, pulled_head, chunks_down}
use Rattle.part_tables.specs.ClientParts.{Answering, Whole, Waits, ClientTaken, is_of_table, without_table, held_in, has_held, bytes_of, names_in, weighed, answered, waits_for, brought_to}
use Rattle.part_laws.specs.Answers.{IsOfItem, AreAnswers, IsOpened, IsAnswering, AreTakenAlike}
use Rattle.part_laws.specs.Arrived.{whole_in, completed, AreAllChunks, IsNotTorn, IsTakenOnce}
use Rattle.part_laws.proofs.Lengths.{names_back, named_by_lens, kept_of_each}
use Rattle.part_laws.proofs.Members.{each_among}
use Rattle.part_laws.proofs.Clients.{client_holds, taken_by_lens, taken_whole}
use Rattle.part_laws.proofs.Completed.{none_left, all_from, any_from, not_taken, then_is, third_false, as_fragment, as_fragments}
use Rattle.part_laws.proofs.Wholes.{itself, IsFragment, fragment_is, whole_of}

third_then : {X : Type 0} (a b c : Bool) (x t y z : X) → a ≡ false → b ≡ true → c ≡ true → (if a then x else (if not b then t else (if c then y else z))) ≡ y
third_then true b c x t y z p q r = absurd (true≢false p)
third_then false false c x t y z p q r = absurd (true≢false (sym q))
third_then false true false x t y z p q r = absurd (true≢false (sym r))
third_then false true true x t y z p q r = refl

third_else : {X : Type 0} (a b c : Bool) (x t y z : X) → a ≡ false → b ≡ true → c ≡ false → (if a then x else (if not b then t else (if c then y else z))) ≡ z
third_else true b c x t y z p q r = absurd (true≢false p)
third_else false false c x t y z p q r = absurd (true≢false (sym q))
third_else false true true x t y z p q r = absurd (true≢false r)
third_else false true false x t y z p q r = refl

both_are : (a b : Bool) → a ≡ true → b ≡ true → (a && b) ≡ true
both_are true b p q = q
both_are false b p q = absurd (true≢false (sym p))

module _ (opened : TableDisk) (items : List Stored) (is_open : IsOpened opened.schema.chunk items opened) (sent : List Pulled) (p : Pulled) (h : Header) (was : Among sent p) (header_is : p.header ≡ Some h)
    (are : (q : Pulled) (g : Header) → Among sent q → q.table ≡ p.table → q.header ≡ Some g → IsOfItem opened.schema.chunk items g) where
  abbrev k : ℕ
  k = opened.schema.chunk

  abbrev sizes : ℕ → ℕ
  sizes table = k

  abbrev here : Slots
  here = slots_at opened h.row

  abbrev Once : List Message → Type 0
  Once messages = IsTakenOnce opened p messages

  abbrev after : ClientTaken → List Fragment → List Message
  after t fs = whole_in t.taken ++ completed opened t.answerings (map (λ (f : Fragment). BringsDown f) fs)

  abbrev awaits : List Awaited
  awaits = awaited_of (is_sent (sents.Above p.from)) k (spelled_by h.content (kept h.names))

  abbrev OfAnswer : Fragment → Type 0
  OfAnswer f = IsFragment k p.client p.table h.row h.version h.content f

  abbrev OfAll : List Fragment → Type 0
  OfAll fs = (f : Fragment) → Among fs f → OfAnswer f

  -- what has come of it
  record Has (slots : List Slot) : Type 0 where
    places : map (λ (slot : Slot). slot.0) slots ≡ awaits
    came : AllByRecursion (IsChunkOf k h.content) slots

  abbrev with_slots : List Slot → Answering
  with_slots slots = record { head = pulled_head p; row = row_head h; slots = slots }

  abbrev is_answering : (slots : List Slot) → Has slots → IsAnswering k sent (with_slots slots)
  is_answering slots has = record { answer = p; header = h; was_sent = was; header_is = header_is; head = refl; row = refl; places = has.places; came = has.came }

  its : IsOfItem k items h
  its = are p h was refl header_is

  each : is_of_each k h.names (objects_of h.content) ≡ true
  each = (and_parts (is_of_each k h.names (objects_of h.content)) (are_apart (flat h.names)) its.named).0

  -- ---- nothing of the table waits

  nothing_more : (xs : List Answering) → find (is_of_table p.table) xs ≡ None → (fs : List Fragment) → OfAll fs → completed opened xs (map (λ (f : Fragment). BringsDown f) fs) ≡ []
  nothing_more xs none [] of_all = refl
  nothing_more xs none (f ∷ fs) of_all =
      ap (λ (o : Option Answering). after (brought_to opened xs f o) fs) (ap (λ table. find (is_of_table table) xs) (of_all f (among_here f fs)).table_is ∙ none)
      ∙ nothing_more xs none fs (λ other a. of_all other (among_next f fs other a))

  ends : (message : Message) (xs : List Answering) (fs : List Fragment) → find (is_of_table p.table) xs ≡ None → OfAll fs → (t : ClientTaken) → t ≡ record { taken = Whole message; answerings = xs }
      → AreTakenAlike p.table opened message (PullResponse p) → Once (after t fs)
  ends message xs fs none of_all t is alike =
      record { message = message; one = ap (λ (u : ClientTaken). after u fs) is ∙ ap (λ (ms : List Message). message ∷ ms) (nothing_more xs none fs of_all); alike = alike }

  none_of : (table : ℕ) → table ≡ p.table → (xs : List Answering) → find (is_of_table p.table) (without_table table xs) ≡ None
  none_of table is xs = ap (λ t. find (is_of_table p.table) (without_table t xs)) is ∙ none_left (is_of_table p.table) xs

  module _ (newer : nat_le h.version (top here.conflict here.shadow) ≡ false) (holds : has_held (is_sent (sents.Above p.from)) k (held_in k here) (spelled_by h.content (kept h.names)) ≡ true) where
    whole_ends : (slots : List Slot) (has : Has slots) (others : List Answering) (fs : List Fragment) → find (is_of_table p.table) others ≡ None → OfAll fs → is_whole slots ≡ true
        → Once (after (weighed k here others (with_slots slots)) fs)
    whole_ends slots has others fs none of_all whole =
        ends _ others fs none of_all _
        (third_then (nat_le h.version (top here.conflict here.shadow)) (has_held (is_sent (sents.Above p.from)) k (held_in k here) (spelled_by h.content (kept h.names))) (is_whole slots) _ _ _ _ newer holds whole)
        (taken_whole sizes p.table opened items is_open sent are (with_slots slots) (is_answering slots has) refl here refl holds whole)

    -- the chunks of these fragments come to what has come
    abbrev Come : List Fragment → Type 0
    Come fs = (slots : List Slot) → Has slots → (others : List Answering) → is_whole slots ≡ false → is_whole (gathered (as_fragments fs) slots) ≡ true
        → Once (completed opened (with_slots slots ∷ others) (map (λ (f : Fragment). BringsDown f) fs))

    module _ (f : Fragment) (fs : List Fragment) (of_all : OfAll (f ∷ fs)) (rest_come : Come fs) (slots : List Slot) (has : Has slots) (others : List Answering) (lacks : is_whole slots ≡ false)
        (whole : is_whole (gathered (as_fragments (f ∷ fs)) slots) ≡ true) where
      abbrev x : Answering
      x = with_slots slots

      abbrev xs : List Answering
      xs = x ∷ others

      abbrev more : List Slot
      more = taken f.column f.place f.bytes slots

      abbrev lacking_still : ClientTaken
      lacking_still = record { taken = Waits; answerings = with_slots more ∷ without_table f.table xs }

      of_f : OfAnswer f
      of_f = of_all f (among_here f fs)

      of_rest : OfAll fs
      of_rest other a = of_all other (among_next f fs other a)

      found : find (is_of_table f.table) xs ≡ Some x
      found = ap (λ (b : Bool). cond b (Some x) (find (is_of_table f.table) others)) (ap (λ t. p.table == t) of_f.table_is ∙ itself p.table)

      has_more : Has more
      has_more = record {
        places = places_stay f.column f.place f.bytes slots ∙ has.places;
        came = more_came k h.content f.column f.place f.bytes slots (λ takes_it. of_f.bytes_are) has.came;
      }

      by_whole : (w : Bool) → is_whole more ≡ w → Once (after (if w then weighed k (slots_at opened f.row) (without_table f.table xs) (with_slots more) else lacking_still) fs)
      by_whole true is =
          subst (λ (r : List ℕ). Once (after (weighed k (slots_at opened r) (without_table f.table xs) (with_slots more)) fs)) (sym of_f.row_is)
          (whole_ends more has_more (without_table f.table xs) fs (none_of f.table of_f.table_is xs) of_rest is)
      by_whole false is = rest_come more has_more (without_table f.table xs) is whole

      by_waits : (b : Bool) → waits_for f x ≡ b
          → Once (after (if b then (if is_whole more then weighed k (slots_at opened f.row) (without_table f.table xs) (with_slots more) else lacking_still) else record { taken = Waits; answerings = xs }) fs)
      by_waits true is = by_whole (is_whole more) refl
      by_waits false is =
          let stays = not_taken f.column f.place f.bytes slots
          (third_false (same_row h.row f.row) (h.version == f.key) (takes f.column f.place f.bytes slots) (ap (same_row h.row) of_f.row_is ∙ same_row-refl h.row) (ap (λ n. h.version == n) of_f.key_is ∙ itself h.version) is) in
          rest_come slots has others lacks (ap (λ (s : List Slot). is_whole (gathered (as_fragments fs) s)) (sym stays) ∙ whole)

      one_comes : Once (completed opened xs (map (λ (g : Fragment). BringsDown g) (f ∷ fs)))
      one_comes = subst (λ (o : Option Answering). Once (after (brought_to opened xs f o) fs)) (sym found) (by_waits (waits_for f x) refl)

    comes : (fs : List Fragment) → OfAll fs → Come fs
    comes [] of_all slots has others lacks whole = absurd (true≢false (sym whole ∙ lacks))
    comes (f ∷ fs) of_all slots has others lacks whole = one_comes f fs of_all (comes fs (λ other a. of_all other (among_next f fs other a))) slots has others lacks whole

    -- each chunk has come
    abbrev sent_for : Awaited → Fragment
    sent_for it = record {
      client = p.client;
      table = p.table;
      row = h.row;
      key = h.version;
      column = it.column;
      place = it.place;
      bytes = chunk_in k h.content it.column it.place;
    }

    lens : AllByRecursion (HasItsLen k h.content) awaits
    lens = lens_of (bytes_of (held_in k here)) (is_sent (sents.Above p.from)) k (spelled_by h.content (kept h.names)) h.content
        (whole_of (bytes_of (held_in k here)) (is_sent (sents.Above p.from)) k is_open.some (λ ordinal. refl) h.content (kept h.names) (kept_of_each k h.names (objects_of h.content) ∙ each)
        (client_holds k items is_open.names_one h its here (is_open.rows h.row) (is_sent (sents.Above p.from)) holds))

    is_brought : (it : Awaited) → HasItsLen k h.content it → brings it (as_fragment (sent_for it)) ≡ true
    is_brought it len =
        ap (λ n. stands_at it.column it.place it && (it.len == n)) len
        ∙ (ap (λ (b : Bool). (b && (it.place == it.place)) && (it.len == it.len)) (itself it.column) ∙ (ap (λ (b : Bool). b && (it.len == it.len)) (itself it.place) ∙ itself it.len))

    all_come : (fs : List Fragment) → ((f : Fragment) → Among (chunks_down k p (Some h)) f → Among fs f) → is_whole (gathered (as_fragments fs) (waiting awaits)) ≡ true
    all_come fs all =
        whole_when_brought awaits (as_fragments fs) ∙ all_from (λ it. list_any (brings it) (as_fragments fs)) awaits (λ it a. any_from (brings it) (as_fragments fs) (as_fragment (sent_for it)) (among_map as_fragment fs (sent_for it)
        (all (sent_for it) (among_map sent_for awaits it a))) (is_brought it (each_among (HasItsLen k h.content) awaits it lens a)))

  -- ---- the header comes, and then the chunks

  module _ (from_is : p.from ≡ opened.position) (still : IsNotTorn opened p h) (xs : List Answering) (fs : List Fragment) (all : AreAllChunks k p fs) where
    abbrev behind : List Answering
    behind = without_table p.table xs

    abbrev begun : List Slot
    begun = waiting awaits

    has_begun : Has begun
    has_begun = record { places = places_waiting awaits; came = none_came k h.content awaits }

    of_answer : OfAll fs
    of_answer f a =
        fragment_is (is_sent (sents.Above p.from)) k p.client p.table h.row h.version h.content (kept h.names) f (subst (λ (o : Option Header). Among (chunks_down k p o) f) header_is (all.each f a))

    comes_all : (f : Fragment) → Among (chunks_down k p (Some h)) f → Among fs f
    comes_all f a = all.all f (subst (λ (o : Option Header). Among (chunks_down k p o) f) (sym header_is) a)

    names_it : ((p.from == opened.position) && is_named k (sized (spelled_by h.content (kept h.names))) (names_in (spelled_by h.content (kept h.names)))) ≡ true
    names_it =
        both_are (p.from == opened.position) (is_named k (sized (spelled_by h.content (kept h.names))) (names_in (spelled_by h.content (kept h.names)))) (ap (λ n. p.from == n) (sym from_is) ∙ itself p.from)
        (ap (is_named k (sized (spelled_by h.content (kept h.names)))) (names_back k h.content h.names each) ∙ (named_by_lens k h.content (kept h.names) h.names ∙ its.named))

    by_begun : (w : Bool) → is_whole begun ≡ w → nat_le h.version (top here.conflict here.shadow) ≡ false → Once (after (weighed k here behind (with_slots begun)) fs)
    by_begun true is newer = whole_ends newer (still newer) begun has_begun behind fs (none_of p.table refl xs) of_answer is
    by_begun false is newer =
        subst (λ (t : ClientTaken). Once (after t fs))
        (sym (third_else (nat_le h.version (top here.conflict here.shadow)) (has_held (is_sent (sents.Above p.from)) k (held_in k here) (spelled_by h.content (kept h.names))) (is_whole begun) _ _ _ _ newer (still newer) is))
        (comes newer (still newer) fs of_answer begun has_begun behind is (all_come newer (still newer) fs comes_all))

    by_version : (b : Bool) → nat_le h.version (top here.conflict here.shadow) ≡ b → Once (after (weighed k here behind (with_slots begun)) fs)
    by_version true is =
        ends _ behind fs (none_of p.table refl xs) of_answer _ (then_is (nat_le h.version (top here.conflict here.shadow)) _ _ is)
        (taken_by_lens sizes p.table opened items is_open sent are (with_slots begun) (is_answering begun has_begun) refl is)
    by_version false is = by_begun (is_whole begun) refl is

    pub once : IsTakenOnce opened p (completed opened xs (Answers (pulled_head p) ∷ map (λ (f : Fragment). BringsDown f) fs))
    once =
        subst (λ (o : Option Header). Once (after (answered opened xs (pulled_head p) (option_map row_head o)) fs)) (sym header_is)
        (subst (λ (t : ClientTaken). Once (after t fs))
        (sym (then_is ((p.from == opened.position) && is_named k (sized (spelled_by h.content (kept h.names))) (names_in (spelled_by h.content (kept h.names)))) _ _ names_it))
        (by_version (nat_le h.version (top here.conflict here.shadow)) refl))

-- where sizes and items go by tables
pub answer_once : (size : ℕ → ℕ) (items : ℕ → List Stored) (sent : List Pulled) (opened : TableDisk) (xs : List Answering) (p : Pulled) (h : Header) (fs : List Fragment) → AreAnswers size items sent
    → IsOpened (size p.table) (items p.table) opened → Among sent p → p.header ≡ Some h → p.from ≡ opened.position → IsNotTorn opened p h → AreAllChunks (size p.table) p fs
    → IsTakenOnce opened p (completed opened xs (Answers (pulled_head p) ∷ map (λ (f : Fragment). BringsDown f) fs))
answer_once size items sent opened xs p h fs are is_open was header_is from_is still all =
    once opened (items p.table) (subst (λ n. IsOpened n (items p.table) opened) (sym is_open.size_is) is_open) sent p h was header_is
    (λ q g was_q same_table is. subst (λ n. IsOfItem n (items p.table) g) (sym is_open.size_is) (subst (λ t. IsOfItem (size t) (items t) g) same_table (are q g was_q is)))
    from_is still xs fs (subst (λ n. AreAllChunks n p fs) (sym is_open.size_is) all)
