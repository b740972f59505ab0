-- What a plan's slots name under its number, and that its commit may be made.
use Rattle.std.proofs.Common.{◌≡◌, inl, inr, ⊎_elim, ◌⊎◌, ℕ, ◌<◌, Bool, true, false, List, [], ◌∷◌, ◌++◌, length, map, Option, Some, None, refl, sym, ◌∙◌, ap, subst, arith}
use Rattle.std.specs.Prelude.{◌==◌, if◌then◌else◌, option_map}
use Rattle.std.proofs.lemmas.Bool.{cases_eq}
use Rattle.std.proofs.lemmas.Bool.Decides.{nat_tests}
use Rattle.std.proofs.lemmas.List.{map-append}
use Rattle.std.proofs.lemmas.List.Concat.{flat_map-cons}
use Rattle.held_value.specs.declared.local_name.LocalName.{LocalName}
use Rattle.held_value.specs.declared.content.HeldPiece.{HeldPiece}
use Rattle.held_value.specs.declared.content.HeldObject.{HeldObject}
use Rattle.held_value.specs.declared.content.HeldContent.{HeldContent}
use Rattle.held_value.specs.declared.content.HeldContent.TheVariants.{Gone, Row}
use Rattle.held_value.specs.declared.slots.Main.{Main}
use Rattle.held_value.specs.declared.slots.Shadow.{Shadow}
use Rattle.held_value.specs.declared.slots.Out.{Out}
use Rattle.held_value.specs.declared.slots.Slots.{Slots}
use Rattle.slot_store.specs.Data.{SlotData}
use Rattle.plan_log.specs.declared.plan.RowChange.{RowChange}
use Rattle.client_journal.specs.declared.plan.Plan.{Plan}
use Rattle.client_journal.specs.Names.{Has, names_of_pieces, names_of_objects, names_of, names_of_main, names_of_shadow, names_of_out, names_in}
use Rattle.client_journal.specs.Devs.{ClientDevs}
use Rattle.client_journal.specs.Redone.{redone}
use Rattle.client_journal.specs.NamedSlots.{IsNamed, IsNewOf, NamedSlots, IsNotCommitted, names_before, names_behind}
use Rattle.client_journal.specs.Agenda.{Commits}
use Rattle.client_journal.specs.Plan.{numbered_name, numbered_piece, numbered_object, numbered_content, numbered_main, numbered_shadow, numbered_out, numbered_slots, numbered_row, commit_for, intend_for, Keeps, IsPlan}
use Rattle.client_journal.proofs.Lookups.{has_cases, has_head, has_tail}
use Rattle.client_journal.proofs.Applied.{as_held, named_before}

-- ---- the names

has_map : (f : LocalName → LocalName) (ns : List LocalName) (q : LocalName) → Has (map f ns) q → (p : LocalName) × Has ns p × (q ≡ f p)
has_map f [] q h = absurd cc
has_map f (n ∷ ns) q h = ⊎_elim (λ same. (n, has_head n n ns refl, same)) (λ more. let r = has_map f ns q more in (r.0, has_tail n r.0 ns r.1, r.2)) (has_cases (f n) q (map f ns) h)

map_has : (f : LocalName → LocalName) (ns : List LocalName) (p : LocalName) → Has ns p → Has (map f ns) (f p)
map_has f [] p h = absurd cc
map_has f (n ∷ ns) p h = ⊎_elim (λ same. has_head (f n) (f p) (map f ns) (ap f same)) (λ more. has_tail (f n) (f p) (map f ns) (map_has f ns p more)) (has_cases n p ns h)

module _ (number : ℕ) where
  abbrev f : LocalName → LocalName
  f = numbered_name number

  pieces_named : (ps : List HeldPiece) → names_of_pieces (map (numbered_piece number) ps) ≡ map f (names_of_pieces ps)
  pieces_named [] = refl
  pieces_named (p ∷ ps) = ap (λ (l : List LocalName). f p.local ∷ l) (pieces_named ps)

  abbrev in_object : HeldObject → List LocalName
  in_object object = names_of_pieces object.pieces

  objects_named : (os : List HeldObject) → names_of_objects (map (numbered_object number) os) ≡ map f (names_of_objects os)
  objects_named [] = refl
  objects_named (o ∷ os) =
      let rest : List HeldObject = map (numbered_object number) os in
      flat_map-cons in_object (numbered_object number o) rest
      ∙ (ap (λ (l : List LocalName). l ++ names_of_objects rest) (pieces_named o.pieces)
      ∙ (ap (λ (l : List LocalName). map f (in_object o) ++ l) (objects_named os)
      ∙ (sym (map-append f (in_object o) (names_of_objects os)) ∙ ap (map f) (sym (flat_map-cons in_object o os)))))

  content_named : (content : HeldContent) → names_of (numbered_content number content) ≡ map f (names_of content)
  content_named Gone = refl
  content_named (Row some objects) = objects_named objects

  main_named : (main : Option Main) → names_of_main (option_map (numbered_main number) main) ≡ map f (names_of_main main)
  main_named None = refl
  main_named (Some main) = content_named main.content

  shadow_named : (shadow : Option Shadow) → names_of_shadow (option_map (numbered_shadow number) shadow) ≡ map f (names_of_shadow shadow)
  shadow_named None = refl
  shadow_named (Some shadow) = content_named shadow.content

  out_named : (out : Option Out) → names_of_out (option_map (numbered_out number) out) ≡ map f (names_of_out out)
  out_named None = refl
  out_named (Some out) = content_named out.content

  joined : (a b c d a' b' c' d' : List LocalName) → a' ≡ map f a → b' ≡ map f b → c' ≡ map f c → d' ≡ map f d → a' ++ (b' ++ (c' ++ d')) ≡ map f (a ++ (b ++ (c ++ d)))
  joined a b c d a' b' c' d' pa pb pc pd =
      ap (λ (l : List LocalName). l ++ (b' ++ (c' ++ d'))) pa
      ∙ (ap (λ (l : List LocalName). map f a ++ (l ++ (c' ++ d'))) pb
      ∙ (ap (λ (l : List LocalName). map f a ++ (map f b ++ (l ++ d'))) pc
      ∙ (ap (λ (l : List LocalName). map f a ++ (map f b ++ (map f c ++ l))) pd
      ∙ (ap (λ (l : List LocalName). map f a ++ (map f b ++ l)) (sym (map-append f c d))
      ∙ (ap (λ (l : List LocalName). map f a ++ l) (sym (map-append f b (c ++ d))) ∙ sym (map-append f a (b ++ (c ++ d))))))))

  slots_named : (slots : Slots) → names_in (numbered_slots number slots) ≡ map f (names_in slots)
  slots_named slots =
      joined (names_of_main slots.main) (names_of_shadow slots.shadow) (names_of_out slots.out) (names_of_shadow slots.conflict) _ _ _ _
      (main_named slots.main) (shadow_named slots.shadow) (out_named slots.out) (shadow_named slots.conflict)

  behind_named : (row : Option RowChange) → names_behind (option_map (numbered_row number) row) ≡ map f (names_behind row)
  behind_named None = refl
  behind_named (Some change) = slots_named change.slots

  same_before : (held : SlotData) (table : ℕ) (row : Option RowChange) → names_before held table (option_map (numbered_row number) row) ≡ names_before held table row
  same_before held table None = refl
  same_before held table (Some change) = refl

  abbrev new_at : ℕ → LocalName
  new_at ordinal = record { plan = number; ordinal = ordinal }

  numbered_zero : (name : LocalName) → name.plan ≡ 0 → f name ≡ new_at name.ordinal
  numbered_zero name is = let test : (name.plan == 0) ≡ true = grind (arith, nat_tests) in ap (λ (t : Bool). if t then new_at name.ordinal else name) test

  numbered_other : (name : LocalName) → (name.plan ≡ 0 → ⊥) → f name ≡ name
  numbered_other name other = let test : (name.plan == 0) ≡ false = grind (arith, nat_tests) in ap (λ (t : Bool). if t then new_at name.ordinal else name) test

  -- ---- the commit

  module _ (meaning : LocalName → List ℕ) (d : ClientDevs) (plan : Plan) (named : NamedSlots meaning d) (not_committed : IsNotCommitted d.journal.at_work) (newest : d.journal.greatest < number) (p : IsPlan d plan) where
    abbrev before : List LocalName
    before = names_before d.held plan.table plan.row

    before_is : names_before d.held plan.table (commit_for number plan).row ≡ before
    before_is = same_before d.held plan.table plan.row

    behind_is : names_behind (commit_for number plan).row ≡ map f (names_behind plan.row)
    behind_is = behind_named plan.row

    -- a name from before is of an older plan
    older : (name : LocalName) → Has before name → name.plan < number
    older name has =
        let a : IsNamed d.held name = (named_before (commit_for number plan) d.held name (subst (λ (l : List LocalName). Has l name) (sym before_is) has)).0 in
        let b : IsNamed (redone d) name = subst (λ (s : SlotData). IsNamed s name) (sym (as_held d.journal.at_work d.held not_committed)) a in
        let most = named.below name b in
        omega (arith, most, newest)

    -- each of the new names is a kept one, or a brought chunk's
    pub record IsOf (q : LocalName) : Type 0 where
      pub from : LocalName
      pub has : Has (names_behind plan.row) from
      pub is : q ≡ f from

    of_new : (q : LocalName) → Has (names_behind (commit_for number plan).row) q → IsOf q
    of_new q h = let r = has_map f (names_behind plan.row) q (subst (λ (l : List LocalName). Has l q) behind_is h) in record { from = r.0; has = r.1; is = r.2 }

    kept_or_new : (q : LocalName) → IsOf q → Keeps plan q ⊎ IsNewOf number (length plan.brought) q
    kept_or_new q o = elim (cases_eq o.from.plan 0) [
      | inl zero_ ↦
          let is : q ≡ new_at o.from.ordinal = o.is ∙ numbered_zero o.from zero_ in
          let lt = p.brought o.from o.has zero_ in
          inr (subst (IsNewOf number (length plan.brought)) (sym is) (record { plan_is = refl; ordinal = lt }))
      | inr other ↦
          let is : q ≡ o.from = o.is ∙ numbered_other o.from other in
          inl (subst (Keeps plan) (sym is) (record { named = o.has; kept = other }))
    ]

    keeps_named : (q : LocalName) → Keeps plan q → Has (names_behind (commit_for number plan).row) q
    keeps_named q k =
        subst (λ (l : List LocalName). Has l q) (sym behind_is)
        (subst (λ (x : LocalName). Has (map f (names_behind plan.row)) x) (numbered_other q k.kept) (map_has f (names_behind plan.row) q k.named))

    new_named : (q : LocalName) → IsNewOf number (length plan.brought) q → Has (names_behind (commit_for number plan).row) q
    new_named q new =
        let from : LocalName = record { plan = 0; ordinal = q.ordinal } in
        let is : f from ≡ q = numbered_zero from refl ∙ ap (λ (n : ℕ). record { plan = n; ordinal = q.ordinal }) (sym new.plan_is) in
        subst (λ (l : List LocalName). Has l q) (sym behind_is)
        (subst (λ (x : LocalName). Has (map f (names_behind plan.row)) x) is (map_has f (names_behind plan.row) from (p.all_brought q.ordinal new.ordinal)))

    pub plan_commits : Commits d (intend_for number plan) plan.brought (commit_for number plan)
    plan_commits = record {
      plan = refl;
      count = refl;
      newest = newest;
      kept_or_new = λ q h. ⊎_elim (λ k. inl (subst (λ (l : List LocalName). Has l q) (sym before_is) (p.kept q k))) inr (kept_or_new q (of_new q h));
      all_new = new_named;
      dropped = λ q h.
          let r = p.dropped q h in (
            subst (λ (l : List LocalName). Has l q) (sym before_is) r.0,
            λ has. ⊎_elim r.1 (λ new. let lt = older q r.0 in absurd (omega (arith, new.plan_is))) (kept_or_new q (of_new q has)),
          );
      all_dropped = λ q h not_. p.all_dropped q (subst (λ (l : List LocalName). Has l q) before_is h) (λ k. not_ (keeps_named q k));
    }
