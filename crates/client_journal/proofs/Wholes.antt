-- Where the devices have named slots and each is whole, all rows are there.
use Rattle.std.proofs.Common.{◌≡◌, inl, inr, ⊎_elim, ◌⊎◌, ℕ, zero, suc, ◌+◌, ◌<◌, ◌≤◌, Bool, true, false, cond, not, List, [], ◌∷◌, ◌++◌, length, Option, Some, None, refl, sym, ◌∙◌, ap, subst, arith}
use Rattle.std.specs.Prelude.{◌==◌, ◌&&◌, ◌||◌, nat_lt, slice_get}
use Rattle.std.specs.declared.cmp.Ordering.TheVariants.{Less}
use Rattle.std.specs.Ordering.{is_eq}
use Rattle.std.specs.List.{list_any, list_all, AllByRecursion}
use Rattle.std.specs.List.Sorted.{IsStrictlySortedBy}
use Rattle.std.specs.Map.{lookup, keys_of}
use Rattle.std.specs.Cmp.{eq_by_cmp_equiv}
use Rattle.std.proofs.lemmas.Bool.Decides.{nat_tests}
use Rattle.std.proofs.lemmas.List.Concat.{flat_map-cons}
use Rattle.std.proofs.lemmas.List.Folds.{list_any-append}
use Rattle.std.proofs.lemmas.Map.Entries.{lookup_from_place}
use Rattle.std.proofs.lemmas.Map.Keys.{IsDistinct-from_sorted}
use Rattle.held_value.specs.declared.local_name.LocalName.{LocalName}
use Rattle.held_value.specs.declared.content.HeldPiece.{HeldPiece}
use Rattle.held_value.specs.declared.content.HeldObject.{HeldObject}
use Rattle.held_value.specs.declared.content.HeldContent.{HeldContent}
use Rattle.held_value.specs.declared.content.HeldContent.TheVariants.{Gone, Row}
use Rattle.held_value.specs.declared.slots.Main.{Main}
use Rattle.held_value.specs.declared.slots.Shadow.{Shadow}
use Rattle.held_value.specs.declared.slots.Out.{Out}
use Rattle.held_value.specs.declared.slots.Slots.{Slots}
use Rattle.chunker.specs.Sized.{count_of, len_at}
use Rattle.slot_store.specs.declared.held.RowKey.{RowKey}
use Rattle.slot_store.specs.declared.held.RowSlots.{RowSlots}
use Rattle.slot_store.specs.declared.held.TableRecord.{TableRecord}
use Rattle.slot_store.specs.Data.{SlotData, key_cmp, key_at, slots_of, record_of}
use Rattle.slot_store.proofs.Keys.{key_cmp_total}
use Rattle.client_journal.specs.Names.{same_name, is_among, Has, names_of_pieces, names_of_objects, names_of, names_of_main, names_of_shadow, names_of_out, names_in}
use Rattle.client_journal.specs.Devs.{ClientDevs, local_in}
use Rattle.client_journal.specs.Redone.{redone}
use Rattle.client_journal.specs.NamedSlots.{IsNamed, NamedSlots}
use Rattle.client_journal.specs.There.{has_len, lens_from, has_lens, lacks, repeats, misfits, is_wrong, in_main, in_shadow, in_out, any_content, shares, exceeds, Chunks, is_not_there, is_hidden_at, hidden_from, hidden_rows, WholeSlots}
use Rattle.client_journal.proofs.Lookups.{has_cases, has_head, has_tail, not_itself_key}

-- ---- lists of names

pub has_left : (xs ys : List LocalName) (q : LocalName) → Has xs q → Has (xs ++ ys) q
has_left xs ys q h = list_any-append (same_name q) xs ys ∙ ap (λ (b : Bool). b || is_among ys q) h

pub has_right : (xs ys : List LocalName) (q : LocalName) → Has ys q → Has (xs ++ ys) q
has_right xs ys q h = list_any-append (same_name q) xs ys ∙ either (is_among xs q) (is_among ys q) h
  where
    either : (a b : Bool) → b ≡ true → a || b ≡ true
    either true b h = refl
    either false b h = h

pub has_either : (xs ys : List LocalName) (q : LocalName) → Has (xs ++ ys) q → Has xs q ⊎ Has ys q
has_either xs ys q h = split (is_among xs q) (is_among ys q) (sym (list_any-append (same_name q) xs ys) ∙ h)
  where
    split : (a b : Bool) → a || b ≡ true → (a ≡ true) ⊎ (b ≡ true)
    split true b h = inl refl
    split false b h = inr h

pub not_has : (xs : List LocalName) (q : LocalName) → (Has xs q → ⊥) → is_among xs q ≡ false
not_has xs q not_ = split (is_among xs q) not_
  where
    split : (b : Bool) → (b ≡ true → ⊥) → b ≡ false
    split true no_ = absurd (no_ refl)
    split false no_ = refl

none_of : (p : LocalName → Bool) (xs : List LocalName) → ((x : LocalName) → Has xs x → p x ≡ false) → list_any p xs ≡ false
none_of p [] each = refl
none_of p (x ∷ xs) each = ap (λ (b : Bool). b || list_any p xs) (each x (has_head x x xs refl)) ∙ none_of p xs (λ y has. each y (has_tail x y xs has))

-- ---- the same is wrong, where the names stand for the same

module _ (stands others : LocalName → Option (List ℕ)) where
  abbrev Alike : List LocalName → Type 0
  Alike names = (name : LocalName) → Has names name → stands name ≡ others name

  lens_alike : (size len place : ℕ) (ps : List HeldPiece) → Alike (names_of_pieces ps) → lens_from stands size len place ps ≡ lens_from others size len place ps
  lens_alike size len place [] same = refl
  lens_alike size len place (p ∷ ps) same =
      ap (λ (o : Option (List ℕ)). has_len o (len_at size len place) && lens_from stands size len (place + 1) ps) (same p.local (has_head p.local p.local (names_of_pieces ps) refl))
      ∙ ap (λ (b : Bool). has_len (others p.local) (len_at size len place) && b) (lens_alike size len (place + 1) ps (λ q has. same q (has_tail p.local q (names_of_pieces ps) has)))

  objects_alike : (size : ℕ) (os : List HeldObject) → Alike (names_of_objects os) → list_all (has_lens stands size) os ≡ list_all (has_lens others size) os
  objects_alike size [] same = refl
  objects_alike size (o ∷ os) same =
      let parts : names_of_objects (o ∷ os) ≡ names_of_pieces o.pieces ++ names_of_objects os = flat_map-cons (λ (q : HeldObject). names_of_pieces q.pieces) o os in
      let all : Alike (names_of_pieces o.pieces ++ names_of_objects os) = subst Alike parts same in
      ap (λ (b : Bool). ((length o.pieces == count_of size o.len) && b) && list_all (has_lens stands size) os) (lens_alike size o.len 0 o.pieces (λ q has. all q (has_left (names_of_pieces o.pieces) (names_of_objects os) q has)))
      ∙ ap (λ (b : Bool). has_lens others size o && b) (objects_alike size os (λ q has. all q (has_right (names_of_pieces o.pieces) (names_of_objects os) q has)))

  module _ (table : Option TableRecord) where
    lacks_alike : (t : Option TableRecord) (c : HeldContent) → Alike (names_of c) → lacks stands t c ≡ lacks others t c
    lacks_alike None c same = refl
    lacks_alike (Some t) Gone same = refl
    lacks_alike (Some t) (Row some objects) same = ap not (objects_alike t.schema.chunk objects same)

    pub wrong_alike : (c : HeldContent) → Alike (names_of c) → is_wrong stands table c ≡ is_wrong others table c
    wrong_alike c same = ap (λ (b : Bool). b || (repeats [] (names_of c) || misfits table c)) (lacks_alike table c same)

    abbrev here : HeldContent → Bool
    here = is_wrong stands table

    abbrev there : HeldContent → Bool
    there = is_wrong others table

    main_alike : (o : Option Main) → Alike (names_of_main o) → in_main here o ≡ in_main there o
    main_alike None same = refl
    main_alike (Some main) same = wrong_alike main.content same

    shadow_alike : (o : Option Shadow) → Alike (names_of_shadow o) → in_shadow here o ≡ in_shadow there o
    shadow_alike None same = refl
    shadow_alike (Some shadow) same = wrong_alike shadow.content same

    out_alike : (o : Option Out) → Alike (names_of_out o) → in_out here o ≡ in_out there o
    out_alike None same = refl
    out_alike (Some out) same = wrong_alike out.content same

    pub slots_alike : (s : Slots) → Alike (names_in s) → any_content here s ≡ any_content there s
    slots_alike s same =
        let m = names_of_main s.main in
        let h = names_of_shadow s.shadow in
        let o = names_of_out s.out in
        let k = names_of_shadow s.conflict in
        let four : (a b c d x y z w : Bool) → a ≡ x → b ≡ y → c ≡ z → d ≡ w → a || (b || (c || d)) ≡ x || (y || (z || w)) = λ a b c d x y z w p q r t. rw (p, q, r, t) refl in
        four (in_main here s.main) (in_shadow here s.shadow) (in_out here s.out) (in_shadow here s.conflict) (in_main there s.main) (in_shadow there s.shadow) (in_out there s.out) (in_shadow there s.conflict)
        (main_alike s.main (λ q has. same q (has_left m (h ++ (o ++ k)) q has)))
        (shadow_alike s.shadow (λ q has. same q (has_right m (h ++ (o ++ k)) q (has_left h (o ++ k) q has))))
        (out_alike s.out (λ q has. same q (has_right m (h ++ (o ++ k)) q (has_right h (o ++ k) q (has_left o k q has)))))
        (shadow_alike s.conflict (λ q has. same q (has_right m (h ++ (o ++ k)) q (has_right h (o ++ k) q (has_right o k q has)))))

-- ---- rows of different keys

abbrev Rows : Type 0
Rows = List (RowKey × RowSlots)

abbrev AreApart : Rows → Type 0
AreApart [] = Unit {0}
AreApart (e ∷ es) = AllByRecursion (λ (f : RowKey × RowSlots). e.0 ≡ f.0 → ⊥) es × AreApart es

above_apart : (key : RowKey) (es : Rows) → AllByRecursion (λ (q : RowKey). key_cmp key q ≡ Less) (keys_of es) → AllByRecursion (λ (f : RowKey × RowSlots). key ≡ f.0 → ⊥) es
above_apart key [] h = tt
above_apart key (e ∷ es) h = (not_itself_key key e.0 (ap is_eq h.0), above_apart key es h.1)

rising_apart : (es : Rows) → IsStrictlySortedBy key_cmp (keys_of es) → AreApart es
unfolding IsStrictlySortedBy
rising_apart [] h = tt
rising_apart (e ∷ es) h = (above_apart e.0 es h.0, rising_apart es h.1)

all_from_get : {A : Type 0} (P : A → Type 0) (xs : List A) → ((i : ℕ) (x : A) → slice_get xs i ≡ Some x → P x) → AllByRecursion P xs
all_from_get P [] each = tt
all_from_get P (x ∷ xs) each = (each zero x refl, all_from_get P xs (λ i y is. each (suc i) y is))

pub rows_stand : (held : SlotData) → IsStrictlySortedBy key_cmp (keys_of held.rows) → AllByRecursion (λ (e : RowKey × RowSlots). slots_of held e.0.table e.0.row ≡ Some e.1) held.rows
rows_stand held rising = all_from_get (λ (e : RowKey × RowSlots). slots_of held e.0.table e.0.row ≡ Some e.1) held.rows
    (λ i e is. lookup_from_place (eq_by_cmp_equiv key_cmp_total) held.rows i e.0 e.1 (IsDistinct-from_sorted key_cmp (keys_of held.rows) rising) is)

-- ---- whole rows are there

module _ (meaning : LocalName → List ℕ) (d : ClientDevs) (n : NamedSlots meaning d) (w : WholeSlots meaning (redone d)) where
  -- each name that stood before is a row's, and none of these rows'
  abbrev StoodBefore : List LocalName → Rows → Type 0
  StoodBefore before es = (name : LocalName) → Has before name → (a : IsNamed (redone d) name) × AllByRecursion (λ (e : RowKey × RowSlots). key_at a.table a.row ≡ e.0 → ⊥) es

  is_there : (before : List LocalName) (e : RowKey × RowSlots) (es : Rows) → slots_of (redone d) e.0.table e.0.row ≡ Some e.1 → StoodBefore before (e ∷ es) → is_hidden_at d.chunks (redone d) d.journal.greatest before e ≡ false
  is_there before e es at stood =
      let s = e.1.slots in
      let table = record_of (redone d) e.0.table in
      let named : (name : LocalName) → Has (names_in s) name → IsNamed (redone d) name = λ name has. record { table = e.0.table; row = e.0.row; stored = e.1; there = at; among = has } in
      let right : any_content (is_wrong (local_in d.chunks) table) s ≡ false = slots_alike (local_in d.chunks) (λ name. Some (meaning name)) table s (λ name has. n.there name (named name has)) ∙ (w.each e.0.table e.0.row e.1 at).right in
      let alone : shares before (names_in s) ≡ false = none_of (λ (name : LocalName). is_among before name) (names_in s)
      (λ name has. not_has before name (λ was.
      let x = stood name was in
      let o = n.once name x.0 (named name has) in
      x.1.0 (ap (λ (t : ℕ). key_at t x.0.row) o.0 ∙ ap (key_at e.0.table) o.1))) in
      let below : exceeds d.journal.greatest (names_in s) ≡ false = none_of (λ (name : LocalName). nat_lt d.journal.greatest name.plan) (names_in s) (λ name has. let le = n.below name (named name has) in grind (arith, nat_tests)) in
      all_false (any_content (is_wrong (local_in d.chunks) table) s) (shares before (names_in s)) (exceeds d.journal.greatest (names_in s)) right alone below
    where
      all_false : (a b c : Bool) → a ≡ false → b ≡ false → c ≡ false → a || (b || c) ≡ false
      all_false a b c p q r = rw (p, q, r) refl

  none_hidden : (before : List LocalName) (es : Rows) → AllByRecursion (λ (e : RowKey × RowSlots). slots_of (redone d) e.0.table e.0.row ≡ Some e.1) es → AreApart es → StoodBefore before es
      → hidden_from d.chunks (redone d) d.journal.greatest before es ≡ []
  none_hidden before [] all apart stood = refl
  none_hidden before (e ∷ es) all apart stood =
      ap (λ (b : Bool). cond b (e.0 ∷ hidden_from d.chunks (redone d) d.journal.greatest before es) (hidden_from d.chunks (redone d) d.journal.greatest (before ++ names_in e.1.slots) es)) (is_there before e es all.0 stood)
      ∙ none_hidden (before ++ names_in e.1.slots) es all.1 apart.1 behind
    where
      behind : StoodBefore (before ++ names_in e.1.slots) es
      behind name has = ⊎_elim
          (λ was. let x = stood name was in (x.0, x.1.1))
          (λ its. (record { table = e.0.table; row = e.0.row; stored = e.1; there = all.0; among = its }, apart.0))
          (has_either before (names_in e.1.slots) name has)

  pub whole_shown : IsStrictlySortedBy key_cmp (keys_of (redone d).rows) → hidden_rows d ≡ []
  whole_shown rising = none_hidden [] (redone d).rows (rows_stand (redone d) rising) (rising_apart (redone d).rows rising) (λ name none. absurd cc)
