-- A request whose header comes, and then each chunk that travels, is taken once.
use Rattle.std.proofs.Common.{◌≡◌, ⊎_elim, ℕ, ◌<◌, Bool, true, false, cond, List, [], ◌∷◌, ◌++◌, length, Option, Some, None, refl, sym, ◌∙◌, ap, subst, true≢false}
use Rattle.std.specs.Prelude.{◌==◌, ◌&&◌, ◌||◌, not, map, filter, if◌then◌else◌}
use Rattle.std.specs.List.{find, list_any, list_all, AllByRecursion}
use Rattle.std.proofs.lemmas.Bool.{and_parts}
use Rattle.row_value.specs.declared.schema.Scheme.{Scheme}
use Rattle.table_model.specs.History.{same_row}
use Rattle.chunker.specs.Sized.{sized}
use Rattle.assemblies.specs.declared.awaiting.Awaited.{Awaited}
use Rattle.assemblies.specs.declared.sent.Sent.TheVariants as sents
use Rattle.assemblies.specs.Travel.{is_sent}
use Rattle.assemblies.specs.Places.{awaited_of}
use Rattle.assemblies.specs.Gathering.{Slot, waiting, is_lacking, taken, takes, is_whole, stands_at}
use Rattle.assemblies.specs.Parts.{chunk_in, gathered, brings, IsChunkOf, HasItsLen}
use Rattle.assemblies.specs.Parts as assembly
use Rattle.assemblies.proofs.Lengths.{lens_of}
use Rattle.assemblies.proofs.Mixes.{places_stay, places_waiting, none_came, more_came, whole_when_brought}
use Rattle.step_tables.specs.Chunks.{flat, is_of_each, objects_of, chunks_of, is_spelled, are_counted, are_apart, kept_in}
use Rattle.step_tables.specs.Store.{Stored}
use Rattle.step_tables.specs.Members.{Among}
use Rattle.step_tables.specs.Messages.{Request, Message, SyncRequest}
use Rattle.step_tables.proofs.Lists.{among_here, among_next, among_none, among_cons, among_map, same_row-refl}
use Rattle.part_tables.specs.Parts.{Asks, BringsUp, Fragment, spelled_by, pieces_in, head_of}
use Rattle.part_tables.specs.StoreParts.{Gathering, Whole, Waits, StoreTaken, is_of_client, without_client, bytes_of, is_answered, weighed, waits_for, brought_to}
use Rattle.piece_laws.specs.Pieces.{NamesOne}
use Rattle.part_laws.specs.Gathers.{AreSent, IsGathered, AreTakenAlike}
use Rattle.part_laws.specs.Completed.{whole_in, completed, AreAllChunks, IsTakenOnce}
use Rattle.part_laws.proofs.Lengths.{pieces_back, spelled_by_lens}
use Rattle.part_laws.proofs.Members.{each_among}
use Rattle.part_laws.proofs.Stores.{row_holds, kept_by_name, taken_by_lens, taken_whole}
use Rattle.part_laws.proofs.Wholes.{itself, IsFragment, fragment_is, whole_of}

-- ---- lists

pub none_left : {X : Type 0} (p : X → Bool) (xs : List X) → find p (filter (λ x. not (p x)) xs) ≡ None
none_left p [] = refl
none_left {X} p (x ∷ xs) = pick (p x) refl (none_left p xs)
  where
    pick : (b : Bool) → p x ≡ b → find p (filter (λ y. not (p y)) xs) ≡ None → find p (cond (not b) (x ∷ filter (λ y. not (p y)) xs) (filter (λ y. not (p y)) xs)) ≡ None
    pick true is more = more
    pick false is more = ap (λ (t : Bool). cond t (Some x) (find p (filter (λ y. not (p y)) xs))) is ∙ more

pub all_from : {X : Type 0} (p : X → Bool) (xs : List X) → ((x : X) → Among xs x → p x ≡ true) → list_all p xs ≡ true
all_from p [] is = refl
all_from p (x ∷ xs) is = ap (λ (t : Bool). t && list_all p xs) (is x (among_here x xs)) ∙ all_from p xs (λ y a. is y (among_next x xs y a))

pub any_from : {X : Type 0} (p : X → Bool) (xs : List X) (x : X) → Among xs x → p x ≡ true → list_any p xs ≡ true
any_from p [] x a is = absurd (among_none x a)
any_from p (y ∷ ys) x a is = ⊎_elim (λ e. here (p y) (list_any p ys) (ap p e ∙ is)) (λ more. behind (p y) (list_any p ys) (any_from p ys x more is)) (among_cons y ys x a)
  where
    here : (b c : Bool) → b ≡ true → (b || c) ≡ true
    here true c e = refl
    here false c e = absurd (true≢false (sym e))

    behind : (b c : Bool) → c ≡ true → (b || c) ≡ true
    behind true c e = refl
    behind false c e = e

-- ---- slots

or_none : (a b : Bool) → (a || b) ≡ false → (a ≡ false) × (b ≡ false)
or_none true b e = absurd (true≢false e)
or_none false b e = (refl, e)

pub not_taken : (column place : ℕ) (bytes : List ℕ) (slots : List Slot) → takes column place bytes slots ≡ false → taken column place bytes slots ≡ slots
not_taken column place bytes [] e = refl
not_taken column place bytes (slot ∷ slots) e =
    let both = or_none (is_lacking column place (length bytes) slot) (takes column place bytes slots) e in
    ap (λ (b : Bool). (if b then (slot.0, Some bytes) else slot) ∷ taken column place bytes slots) both.0 ∙ ap (λ (rest : List Slot). slot ∷ rest) (not_taken column place bytes slots both.1)

abbrev pub as_fragment : Fragment → assembly.Fragment
as_fragment f = record { column = f.column; place = f.place; bytes = f.bytes }

abbrev pub as_fragments : List Fragment → List assembly.Fragment
as_fragments fs = map as_fragment fs

pub else_then : {X : Type 0} (a b : Bool) (x y z : X) → a ≡ false → b ≡ true → (if a then x else (if b then y else z)) ≡ y
else_then true b x y z p q = absurd (true≢false p)
else_then false true x y z p q = refl
else_then false false x y z p q = absurd (true≢false (sym q))

pub else_else : {X : Type 0} (a b : Bool) (x y z : X) → a ≡ false → b ≡ false → (if a then x else (if b then y else z)) ≡ z
else_else true b x y z p q = absurd (true≢false p)
else_else false true x y z p q = absurd (true≢false q)
else_else false false x y z p q = refl

pub then_is : {X : Type 0} (a : Bool) (x y : X) → a ≡ true → (if a then x else y) ≡ x
then_is true x y p = refl
then_is false x y p = absurd (true≢false (sym p))

pub third_false : (a b c : Bool) → a ≡ true → b ≡ true → (a && (b && c)) ≡ false → c ≡ false
third_false true true c p q e = e
third_false true false c p q e = absurd (true≢false (sym q))
third_false false b c p q e = absurd (true≢false (sym p))

module _ (g : Scheme) (size : ℕ) (some : 0 < size) (items : List Stored) (names : NamesOne size items) (sent : List Request) (are : AreSent size items sent) (q : Request) (was : Among sent q) where
  abbrev Once : List Message → Type 0
  Once messages = IsTakenOnce g size items q messages

  abbrev after : StoreTaken → List Fragment → List Message
  after t fs = whole_in t.taken ++ completed g size items t.gatherings (map (λ (f : Fragment). BringsUp f) fs)

  abbrev awaits : List Awaited
  awaits = awaited_of (is_sent sents.Fresh) size (spelled_by q.content q.pieces)

  abbrev OfRequest : Fragment → Type 0
  OfRequest f = IsFragment size q.client q.table q.row q.number q.content f

  abbrev OfAll : List Fragment → Type 0
  OfAll fs = (f : Fragment) → Among fs f → OfRequest f

  -- what has been gathered of it
  record Has (slots : List Slot) : Type 0 where
    places : map (λ (slot : Slot). slot.0) slots ≡ awaits
    came : AllByRecursion (IsChunkOf size q.content) slots

  abbrev with_slots : List Slot → Gathering
  with_slots slots = record { head = head_of q; slots = slots }

  abbrev is_gathered : (slots : List Slot) → Has slots → IsGathered size sent (with_slots slots)
  is_gathered slots has = record { request = q; was_sent = was; head = refl; places = has.places; came = has.came }

  each : is_of_each size q.pieces (objects_of q.content) ≡ true
  each = (and_parts (is_of_each size q.pieces (objects_of q.content)) (are_counted 0 (flat q.pieces) && are_apart (kept_in (flat q.pieces))) (are.spelled q was)).0

  -- ---- nothing of the client waits

  nothing_more : (gs : List Gathering) → find (is_of_client q.client) gs ≡ None → (fs : List Fragment) → OfAll fs → completed g size items gs (map (λ (f : Fragment). BringsUp f) fs) ≡ []
  nothing_more gs none [] of_all = refl
  nothing_more gs none (f ∷ fs) of_all =
      ap (λ (o : Option Gathering). after (brought_to g size items gs f o) fs) (ap (λ client. find (is_of_client client) gs) (of_all f (among_here f fs)).client_is ∙ none)
      ∙ nothing_more gs none fs (λ other a. of_all other (among_next f fs other a))

  ends : (message : Message) (gs : List Gathering) (fs : List Fragment) → find (is_of_client q.client) gs ≡ None → OfAll fs → (t : StoreTaken) → t ≡ record { taken = Whole message; gatherings = gs }
      → AreTakenAlike g size items message (SyncRequest q) → Once (after t fs)
  ends message gs fs none of_all t is alike =
      record { message = message; one = ap (λ (u : StoreTaken). after u fs) is ∙ ap (λ (ms : List Message). message ∷ ms) (nothing_more gs none fs of_all); alike = alike }

  -- ---- chunks come

  no_client : (client : ℕ) → client ≡ q.client → (gs : List Gathering) → find (is_of_client q.client) (without_client client gs) ≡ None
  no_client client is gs = ap (λ c. find (is_of_client q.client) (without_client c gs)) is ∙ none_left (is_of_client q.client) gs

  module _ (unanswered : is_answered g size items (head_of q) ≡ false) where
    whole_ends : (slots : List Slot) (has : Has slots) (others : List Gathering) (fs : List Fragment) → find (is_of_client q.client) others ≡ None → OfAll fs → is_whole slots ≡ true
        → Once (after (weighed g size items others (with_slots slots)) fs)
    whole_ends slots has others fs none of_all whole =
        ends _ others fs none of_all _ (else_then (is_answered g size items (head_of q)) (is_whole slots) _ _ _ unanswered whole)
        (taken_whole g size some items names sent are (with_slots slots) (is_gathered slots has) unanswered whole)

    -- the chunks of these fragments come to what has been gathered
    abbrev Come : List Fragment → Type 0
    Come fs = (slots : List Slot) → Has slots → (others : List Gathering) → is_whole slots ≡ false → is_whole (gathered (as_fragments fs) slots) ≡ true
        → Once (completed g size items (with_slots slots ∷ others) (map (λ (f : Fragment). BringsUp f) fs))

    module _ (f : Fragment) (fs : List Fragment) (of_all : OfAll (f ∷ fs)) (rest_come : Come fs) (slots : List Slot) (has : Has slots) (others : List Gathering) (lacks : is_whole slots ≡ false)
        (whole : is_whole (gathered (as_fragments (f ∷ fs)) slots) ≡ true) where
      abbrev x : Gathering
      x = with_slots slots

      abbrev gs : List Gathering
      gs = x ∷ others

      abbrev more : List Slot
      more = taken f.column f.place f.bytes slots

      abbrev lacking_still : StoreTaken
      lacking_still = record { taken = Waits; gatherings = with_slots more ∷ without_client f.client gs }

      of_f : OfRequest f
      of_f = of_all f (among_here f fs)

      of_rest : OfAll fs
      of_rest other a = of_all other (among_next f fs other a)

      found : find (is_of_client f.client) gs ≡ Some x
      found = ap (λ (b : Bool). cond b (Some x) (find (is_of_client f.client) others)) (ap (λ c. q.client == c) of_f.client_is ∙ itself q.client)

      has_more : Has more
      has_more = record {
        places = places_stay f.column f.place f.bytes slots ∙ has.places;
        came = more_came size q.content f.column f.place f.bytes slots (λ takes_it. of_f.bytes_are) has.came;
      }

      by_whole : (w : Bool) → is_whole more ≡ w → Once (after (if w then weighed g size items (without_client f.client gs) (with_slots more) else lacking_still) fs)
      by_whole true is = whole_ends more has_more (without_client f.client gs) fs (no_client f.client of_f.client_is gs) of_rest is
      by_whole false is = rest_come more has_more (without_client f.client gs) is whole

      by_waits : (b : Bool) → waits_for f x ≡ b
          → Once (after (if b then (if is_whole more then weighed g size items (without_client f.client gs) (with_slots more) else lacking_still) else record { taken = Waits; gatherings = gs }) fs)
      by_waits true is = by_whole (is_whole more) refl
      by_waits false is =
          let stays = not_taken f.column f.place f.bytes slots
          (third_false (same_row q.row f.row) (q.number == f.key) (takes f.column f.place f.bytes slots) (ap (same_row q.row) of_f.row_is ∙ same_row-refl q.row) (ap (λ k. q.number == k) of_f.key_is ∙ itself q.number) is) in
          rest_come slots has others lacks (ap (λ (s : List Slot). is_whole (gathered (as_fragments fs) s)) (sym stays) ∙ whole)

      one_comes : Once (completed g size items gs (map (λ (h : Fragment). BringsUp h) (f ∷ fs)))
      one_comes = subst (λ (o : Option Gathering). Once (after (brought_to g size items gs f o) fs)) (sym found) (by_waits (waits_for f x) refl)

    comes : (fs : List Fragment) → OfAll fs → Come fs
    comes [] of_all slots has others lacks whole = absurd (true≢false (sym whole ∙ lacks))
    comes (f ∷ fs) of_all slots has others lacks whole = one_comes f fs of_all (comes fs (λ other a. of_all other (among_next f fs other a))) slots has others lacks whole

    -- each chunk has come
    abbrev sent_for : Awaited → Fragment
    sent_for it = record {
      client = q.client;
      table = q.table;
      row = q.row;
      key = q.number;
      column = it.column;
      place = it.place;
      bytes = chunk_in size q.content it.column it.place;
    }

    lens : AllByRecursion (HasItsLen size q.content) awaits
    lens = lens_of (bytes_of (chunks_of size items q.row)) (is_sent sents.Fresh) size (spelled_by q.content q.pieces) q.content
        (whole_of (bytes_of (chunks_of size items q.row)) (is_sent sents.Fresh) size some (λ ordinal. refl) q.content q.pieces each
        (row_holds size items names q.row q.content q.pieces (are.keeps q was) each (kept_by_name g size items q unanswered)))

    is_brought : (it : Awaited) → HasItsLen size q.content it → brings it (as_fragment (sent_for it)) ≡ true
    is_brought it len =
        ap (λ k. stands_at it.column it.place it && (it.len == k)) len
        ∙ (ap (λ (b : Bool). (b && (it.place == it.place)) && (it.len == it.len)) (itself it.column) ∙ (ap (λ (b : Bool). b && (it.len == it.len)) (itself it.place) ∙ itself it.len))

    all_come : (fs : List Fragment) → AreAllChunks size q fs → is_whole (gathered (as_fragments fs) (waiting awaits)) ≡ true
    all_come fs all =
        whole_when_brought awaits (as_fragments fs) ∙ all_from (λ it. list_any (brings it) (as_fragments fs)) awaits (λ it a. any_from (brings it) (as_fragments fs) (as_fragment (sent_for it)) (among_map as_fragment fs (sent_for it)
        (all.all (sent_for it) (among_map sent_for awaits it a))) (is_brought it (each_among (HasItsLen size q.content) awaits it lens a)))

  -- ---- the header comes, and then the chunks

  module _ (gs : List Gathering) (fs : List Fragment) (all : AreAllChunks size q fs) where
    abbrev behind : List Gathering
    behind = without_client q.client gs

    abbrev begun : List Slot
    begun = waiting awaits

    has_begun : Has begun
    has_begun = record { places = places_waiting awaits; came = none_came size q.content awaits }

    of_request : OfAll fs
    of_request f a = fragment_is (is_sent sents.Fresh) size q.client q.table q.row q.number q.content q.pieces f (all.each f a)

    spells : is_spelled size (sized (spelled_by q.content q.pieces)) (pieces_in (spelled_by q.content q.pieces)) ≡ true
    spells = ap (is_spelled size (sized (spelled_by q.content q.pieces))) (pieces_back size q.content q.pieces each) ∙ (spelled_by_lens size q.content q.pieces ∙ are.spelled q was)

    by_begun : (w : Bool) → is_whole begun ≡ w → is_answered g size items (head_of q) ≡ false → Once (after (weighed g size items behind (with_slots begun)) fs)
    by_begun true is unanswered = whole_ends unanswered begun has_begun behind fs (no_client q.client refl gs) of_request is
    by_begun false is unanswered =
        subst (λ (t : StoreTaken). Once (after t fs)) (sym (else_else (is_answered g size items (head_of q)) (is_whole begun) _ _ _ unanswered is))
        (comes unanswered fs of_request begun has_begun behind is (all_come unanswered fs all))

    by_answer : (b : Bool) → is_answered g size items (head_of q) ≡ b → Once (after (weighed g size items behind (with_slots begun)) fs)
    by_answer true is =
        ends _ behind fs (no_client q.client refl gs) of_request _ (then_is (is_answered g size items (head_of q)) _ _ is) (taken_by_lens g size some items names sent are (with_slots begun) (is_gathered begun has_begun) is)
    by_answer false is = by_begun (is_whole begun) refl is

    pub once : IsTakenOnce g size items q (completed g size items gs (Asks (head_of q) ∷ map (λ (f : Fragment). BringsUp f) fs))
    once =
        subst (λ (t : StoreTaken). Once (after t fs)) (sym (then_is (is_spelled size (sized (spelled_by q.content q.pieces)) (pieces_in (spelled_by q.content q.pieces))) _ _ spells)) (by_answer (is_answered g size items (head_of q)) refl)
