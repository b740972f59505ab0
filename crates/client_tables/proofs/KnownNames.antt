-- The local names in the slots behind an event are known.
use Rattle.std.proofs.Common.{◌≡◌, ℕ, Bool, true, false, leb, eqb, cond, List, [], ◌∷◌, ◌++◌, map, take, drop, length, Option, Some, None, refl, sym, ◌∙◌, inl, inr, subst, true≢false}
use Rattle.std.specs.Prelude.{◌⊎◌, ◌||◌, zip}
use Rattle.std.specs.List.{list_any, flat_map}
use Rattle.std.proofs.lemmas.Bool.{cases_Bool}
use Rattle.std.proofs.lemmas.List.Folds.{list_any-append}
use Rattle.row_value.specs.declared.pieces.Piece.{Piece}
use Rattle.row_value.specs.declared.schema.Scheme.{Scheme}
use Rattle.table_model.specs.declared.message.Outcome.{Outcome}
use Rattle.table_model.specs.declared.message.Outcome.TheVariants as outcomes
use Rattle.table_model.specs.declared.message.Yours.{Yours}
use Rattle.held_value.specs.declared.local_name.LocalName.{LocalName}
use Rattle.held_value.specs.declared.content.HeldPiece.{HeldPiece}
use Rattle.held_value.specs.declared.content.HeldObject.{HeldObject}
use Rattle.held_value.specs.declared.content.HeldContent.{HeldContent}
use Rattle.held_value.specs.declared.content.HeldContent.TheVariants as contents
use Rattle.held_value.specs.declared.slots.Main.{Main}
use Rattle.held_value.specs.declared.slots.Shadow.{Shadow}
use Rattle.held_value.specs.declared.slots.Out.{Out}
use Rattle.held_value.specs.declared.slots.Slots.{Slots}
use Rattle.client_tables.specs.declared.change.Change.{Change}
use Rattle.client_tables.specs.declared.header.Acknowledged.{Acknowledged}
use Rattle.client_tables.specs.declared.resolving.HeldChoice.{HeldChoice}
use Rattle.client_tables.specs.declared.resolving.HeldChoice.TheVariants as choices
use Rattle.client_tables.specs.Change.{after, seen_in}
use Rattle.client_tables.specs.Drops.{is_among, same_name, names_of_pieces, names_of_objects, names_of, names_of_main, names_of_shadow, names_of_out, names_in}
use Rattle.client_tables.specs.Names.{fresh_from, named_piece, named_pieces, named_object, named_objects, named}
use Rattle.client_tables.specs.Transitions.{written, sent_main, without, accepted, refused, sent_whole, by_outcome, answered_out, acknowledged_out, acknowledged}
use Rattle.client_tables.specs.Transitions.{read_row, in_conflict, is_read, placed, taken}
use Rattle.client_tables.specs.Transitions.{by_choice, resolved_main, resolved_row}
use Rattle.client_tables.specs.Kept.{SlotEvent, Write, WriteStrong, Send, Answer, Row, Resolve, slots_behind}
use Rattle.client_tables.specs.Plan.{Has, IsBrought, AreKnown, names_with, names_of_choice}

-- ---- lists of names

or_true : (a b : Bool) → (a || b) ≡ true → (a ≡ true) ⊎ (b ≡ true)
or_true true b e = inl refl
or_true false b e = inr e

or_left : (a b : Bool) → a ≡ true → (a || b) ≡ true
or_left true b e = refl
or_left false b e = absurd (true≢false (sym e))

or_right : (a b : Bool) → b ≡ true → (a || b) ≡ true
or_right true b e = refl
or_right false b e = e

has_parts : (xs ys : List LocalName) (name : LocalName) → Has (xs ++ ys) name → Has xs name ⊎ Has ys name
has_parts xs ys name h = or_true (is_among xs name) (is_among ys name) (sym (list_any-append (same_name name) xs ys) ∙ h)

has_front : (xs ys : List LocalName) (name : LocalName) → Has xs name → Has (xs ++ ys) name
has_front xs ys name h = list_any-append (same_name name) xs ys ∙ or_left (is_among xs name) (is_among ys name) h

has_behind : (xs ys : List LocalName) (name : LocalName) → Has ys name → Has (xs ++ ys) name
has_behind xs ys name h = list_any-append (same_name name) xs ys ∙ or_right (is_among xs name) (is_among ys name) h

none_has : {P : Type 0} (name : LocalName) → Has [] name → P
none_has name h = absurd (true≢false (sym h))

-- ---- chunks that get the Store's names

pieces-named : (version : ℕ) (pieces : List Piece) (held : List HeldPiece) (name : LocalName) → Has (names_of_pieces (named_pieces version pieces held)) name → Has (names_of_pieces held) name
pieces-named version pieces [] name h = none_has name h
pieces-named version [] (p ∷ held) name h = none_has name h
pieces-named version (piece ∷ pieces) (p ∷ held) name h =
    elim (or_true (same_name name p.local) (is_among (names_of_pieces (named_pieces version pieces held)) name) h) [
      | inl here ↦ or_left (same_name name p.local) (is_among (names_of_pieces held) name) here
      | inr later ↦ or_right (same_name name p.local) (is_among (names_of_pieces held) name) (pieces-named version pieces held name later)
    ]

objects-named : (version : ℕ) (pieces : List Piece) (objects : List HeldObject) (name : LocalName) → Has (names_of_objects (named_objects version pieces objects)) name
    → Has (names_of_objects objects) name
objects-named version pieces [] name h = none_has name h
objects-named version pieces (object ∷ objects) name h =
    let front = named_pieces version (take (length object.pieces) pieces) object.pieces in
    let rest = named_objects version (drop (length object.pieces) pieces) objects in
    elim (has_parts (names_of_pieces front) (names_of_objects rest) name h) [
      | inl here ↦ has_front (names_of_pieces object.pieces) (names_of_objects objects) name (pieces-named version (take (length object.pieces) pieces) object.pieces name here)
      | inr later ↦ has_behind (names_of_pieces object.pieces) (names_of_objects objects) name (objects-named version (drop (length object.pieces) pieces) objects name later)
    ]

content-named : (version : ℕ) (pieces : List Piece) (content : HeldContent) (name : LocalName) → Has (names_of (named version pieces content)) name → Has (names_of content) name
content-named version pieces contents.Gone name h = none_has name h
content-named version pieces (contents.Row some objects) name h = objects-named version pieces objects name h

-- ---- slots

abbrev IsKnown : Slots → ℕ → LocalName → Type 0
IsKnown slots count name = Has (names_in slots) name ⊎ IsBrought count name

module _ (slots : Slots) (count : ℕ) where
  of_main : (name : LocalName) → Has (names_of_main slots.main) name → IsKnown slots count name
  of_main name h =
      inl (has_front _ (names_of_shadow slots.conflict) name (has_front _ (names_of_out slots.out) name (has_front (names_of_main slots.main) (names_of_shadow slots.shadow) name h)))

  of_shadow : (name : LocalName) → Has (names_of_shadow slots.shadow) name → IsKnown slots count name
  of_shadow name h =
      inl (has_front _ (names_of_shadow slots.conflict) name (has_front _ (names_of_out slots.out) name (has_behind (names_of_main slots.main) (names_of_shadow slots.shadow) name h)))

  of_out : (name : LocalName) → Has (names_of_out slots.out) name → IsKnown slots count name
  of_out name h =
      inl (has_front _ (names_of_shadow slots.conflict) name (has_behind (names_of_main slots.main ++ names_of_shadow slots.shadow) (names_of_out slots.out) name h))

  of_conflict : (name : LocalName) → Has (names_of_shadow slots.conflict) name → IsKnown slots count name
  of_conflict name h =
      inl (has_behind (names_of_main slots.main ++ names_of_shadow slots.shadow ++ names_of_out slots.out) (names_of_shadow slots.conflict) name h)

  -- slots each of which is known
  each_known : (behind : Slots) → AreKnown slots count (names_of_main behind.main) → AreKnown slots count (names_of_shadow behind.shadow) → AreKnown slots count (names_of_out behind.out)
      → AreKnown slots count (names_of_shadow behind.conflict) → AreKnown slots count (names_in behind)
  each_known behind main shadow out conflict name h =
      elim (has_parts (names_of_main behind.main ++ names_of_shadow behind.shadow ++ names_of_out behind.out) (names_of_shadow behind.conflict) name h) [
        | inr last ↦ conflict name last
        | inl three ↦ elim (has_parts (names_of_main behind.main ++ names_of_shadow behind.shadow) (names_of_out behind.out) name three) [
          | inr third ↦ out name third
          | inl two ↦ elim (has_parts (names_of_main behind.main) (names_of_shadow behind.shadow) name two) [
            | inl first ↦ main name first
            | inr second ↦ shadow name second
          ]
        ]
      ]

  nothing : AreKnown slots count []
  nothing name h = none_has name h

  unchanged_known : AreKnown slots count (names_in slots)
  unchanged_known name h = inl h

  -- ---- what events make of them

  one_of : (b : Bool) (x y : Change) → AreKnown slots count (names_in (after slots x)) → AreKnown slots count (names_in (after slots y)) → AreKnown slots count (names_in (after slots (cond b x y)))
  one_of true x y one other = one
  one_of false x y one other = other

  main_content : (main : Main) → Some main ≡ slots.main → AreKnown slots count (names_of main.content)
  main_content main is name h = of_main name (subst (λ (m : Option Main). Has (names_of_main m) name) is h)

  out_content : (out : Out) → Some out ≡ slots.out → AreKnown slots count (names_of out.content)
  out_content out is name h = of_out name (subst (λ (o : Option Out). Has (names_of_out o) name) is h)

  row_content : (row : Shadow) → Some row ≡ slots.conflict → AreKnown slots count (names_of row.content)
  row_content row is name h = of_conflict name (subst (λ (s : Option Shadow). Has (names_of_shadow s) name) is h)

  sent_known : (pieces : List Piece) (main : Option Main) → main ≡ slots.main → AreKnown slots count (names_in (after slots (sent_main slots pieces main)))
  sent_known pieces None is = unchanged_known
  sent_known pieces (Some main) is = each_known (after slots (sent_main slots pieces (Some main))) of_main of_shadow (main_content main is) of_conflict

  without_known : (number : ℕ) (main : Option Main) (name : LocalName) → Has (names_of_main (without number main)) name → Has (names_of_main main) name
  without_known number None name h = h
  without_known number (Some main) name h = elim (cases_Bool (eqb main.number number)) [
    | inl is ↦ none_has name (rw is at h)
    | inr other ↦ rw other at h
  ]

  accepted_known : (out : Out) (version : ℕ) → Some out ≡ slots.out → AreKnown slots count (names_in (after slots (accepted slots out version)))
  accepted_known out version is =
      each_known (after slots (accepted slots out version)) (λ name h. of_main name (without_known out.number slots.main name h))
      (λ name h. out_content out is name (content-named version out.pieces out.content name h)) nothing of_conflict

  whole_known : (out : Out) → Some out ≡ slots.out → AreKnown slots count (names_in (after slots (sent_whole slots out)))
  whole_known out is = one_of out.whole _ _ unchanged_known
      (each_known (record slots { out = Some (record out { whole = true; pieces = fresh_from 0 out.pieces }) }) of_main of_shadow (out_content out is) of_conflict)

  outcome_known : (out : Out) (outcome : Outcome) → Some out ≡ slots.out → AreKnown slots count (names_in (after slots (by_outcome slots out outcome)))
  outcome_known out (outcomes.Accepted version) is = accepted_known out version is
  outcome_known out (outcomes.Again version) is = accepted_known out version is
  outcome_known out (outcomes.Late last) is = unchanged_known
  outcome_known out (outcomes.Stale latest) is = each_known (after slots (refused slots out latest)) of_main of_shadow nothing of_conflict
  outcome_known out (outcomes.Conflict latest) is = unchanged_known
  outcome_known out outcomes.NeedWhole is = whole_known out is

  answered_known : (number : ℕ) (outcome : Outcome) (out : Option Out) → out ≡ slots.out → AreKnown slots count (names_in (after slots (answered_out slots number outcome out)))
  answered_known number outcome None is = unchanged_known
  answered_known number outcome (Some out) is = one_of (eqb out.number number) _ _ (outcome_known out outcome is) unchanged_known

  acked_main : (yours : Yours) (main : Option Main) (out : Option Out) (name : LocalName) → Has (names_of_main (acknowledged_out yours main out).main) name → Has (names_of_main main) name
  acked_main yours main None name h = h
  acked_main yours main (Some out) name h = elim (cases_Bool (leb out.number yours.number)) [
    | inl is ↦ without_known out.number main name (rw is at h)
    | inr other ↦ rw other at h
  ]

  acked_out : (yours : Yours) (main : Option Main) (out : Option Out) (name : LocalName) → Has (names_of_out (acknowledged_out yours main out).out) name → Has (names_of_out out) name
  acked_out yours main None name h = h
  acked_out yours main (Some out) name h = elim (cases_Bool (leb out.number yours.number)) [
    | inl is ↦ none_has name (rw is at h)
    | inr other ↦ rw other at h
  ]

  taken_known : (scheme : Scheme) (yours : Yours) (row : Shadow) → AreKnown slots count (names_of row.content) → AreKnown slots count (names_in (after slots (taken scheme slots yours row)))
  taken_known scheme yours row known =
      let acked = acknowledged yours slots in
      let main : AreKnown slots count (names_of_main acked.main) = λ name h. of_main name (acked_main yours slots.main slots.out name h) in
      let out : AreKnown slots count (names_of_out acked.out) = λ name h. of_out name (acked_out yours slots.main slots.out name h) in
      one_of (leb row.version (seen_in slots.conflict slots.shadow)) _ _ unchanged_known
      (one_of (is_read scheme slots acked yours row) _ _ (each_known (after slots (read_row slots acked row)) main known out of_conflict)
      (each_known (after slots (in_conflict slots acked row)) main of_shadow nothing known))

  choice_known : (row : Shadow) (main : Main) (number : ℕ) (choice : HeldChoice) → Some row ≡ slots.conflict → Some main ≡ slots.main → AreKnown slots count (names_of_choice choice)
      → AreKnown slots count (names_in (after slots (by_choice slots row main number choice)))
  choice_known row main number choices.Theirs is now known = each_known (after slots (by_choice slots row main number choices.Theirs)) nothing (row_content row is) of_out nothing
  choice_known row main number choices.Mine is now known = each_known (after slots (by_choice slots row main number choices.Mine)) (main_content main now) (row_content row is) of_out nothing
  choice_known row main number (choices.New content) is now known = each_known (after slots (by_choice slots row main number (choices.New content))) known (row_content row is) of_out nothing

  main_resolved : (row : Shadow) (number : ℕ) (choice : HeldChoice) (main : Option Main) → Some row ≡ slots.conflict → main ≡ slots.main → AreKnown slots count (names_of_choice choice)
      → AreKnown slots count (names_in (after slots (resolved_main slots row number choice main)))
  main_resolved row number choice None is now known = unchanged_known
  main_resolved row number choice (Some main) is now known = choice_known row main number choice is now known

  row_resolved : (number : ℕ) (choice : HeldChoice) (conflict : Option Shadow) → conflict ≡ slots.conflict → AreKnown slots count (names_of_choice choice)
      → AreKnown slots count (names_in (after slots (resolved_row slots number choice conflict)))
  row_resolved number choice None is known = unchanged_known
  row_resolved number choice (Some row) is known = main_resolved row number choice slots.main is refl known

pub known_behind : (scheme : Scheme) (slots : Slots) (event : SlotEvent) (count : ℕ) → AreKnown slots count (names_with event) → AreKnown slots count (names_in (slots_behind scheme slots event))
known_behind scheme slots (Write number content) count known = each_known slots count (slots_behind scheme slots (Write number content)) known
    (of_shadow slots count) (of_out slots count) (of_conflict slots count)
known_behind scheme slots (WriteStrong number content pieces) count known = each_known slots count (slots_behind scheme slots (WriteStrong number content pieces))
    (of_main slots count) (of_shadow slots count) known (of_conflict slots count)
known_behind scheme slots (Send pieces) count known = sent_known slots count pieces slots.main refl
known_behind scheme slots (Answer number outcome) count known = answered_known slots count number outcome slots.out refl
known_behind scheme slots (Row yours row) count known = taken_known slots count scheme yours row known
known_behind scheme slots (Resolve number choice) count known = row_resolved slots count number choice slots.conflict refl known
