-- Edits, read and spelled.
use Rattle.std.proofs.Common.{◌≡◌, ℕ, ◌+◌, Bool, true, false, not, cond, List, [], ◌∷◌, ◌++◌, drop, codes, Option, Some, None, Result, Ok, Err, refl, sym, ap, ◌∙◌, subst, inl, inr, arith}
use Rattle.std.proofs.Common.{append-nil, append_assoc}
use Rattle.std.specs.Fmt.{decimal}
use Rattle.std.specs.Str.{bytes_eq}
use Rattle.std.proofs.lemmas.Bool.{cases_Bool}
use Rattle.std.proofs.lemmas.Slice.Eq.{bytes_eq-Decides}
use Rattle.row_value.specs.declared.schema.Column.{Column}
use Rattle.row_edits.specs.declared.change.ColumnValue.{ColumnValue}
use Rattle.row_edits.specs.declared.change.Edit.{Edit}
use Rattle.row_edits.specs.declared.change.Edit.TheVariants as edits
use Rattle.row_edits.specs.declared.change.Patch.{Patch}
use Rattle.row_edits.specs.declared.change.Value.{Value as Changed}
use Rattle.row_edits.specs.declared.change.Value.TheVariants as changed
use Rattle.script_words.specs.declared.code.Code.TheVariants.{NoName, NotDeclared}
use Rattle.script_words.specs.declared.values.Value.{Value}
use Rattle.script_words.specs.declared.values.Value.TheVariants.{OfCell, OfObject}
use Rattle.script_words.specs.Words.{is_name, sides_of}
use Rattle.script_words.specs.Values.{SpellsValue, value_at}
use Rattle.script_words.proofs.Parts.{parts_by-some, parts_by-right}
use Rattle.script_words.proofs.ColumnLemmas.{free_name}
use Rattle.script_words.proofs.ValueLemmas.{value_at-ok, value_at-right, bytes_at-ok, bytes_at-right}
use Rattle.script_text.specs.declared.fault.BadLine.{BadLine}
use Rattle.script_text.specs.declared.verb.EditVerb.{EditVerb}
use Rattle.script_text.specs.declared.verb.EditVerb.TheVariants as changes
use Rattle.script_text.specs.Names.{column_number}
use Rattle.script_text.specs.Places.{◌>>=◌, direction_at, found_column, column_at, changed_to, change_with, change_at, next_change, with_change}
use Rattle.script_text.specs.Reading.{placed, next_in, each_in, changes_in, update_in, patch_in, change_in}
use Rattle.script_text.specs.Grammar.{IsColumn, SpellsChanged, SpellsChange, AreSpelled, SpellsEdit, verb_for, patch_places, change_fault, ChangesFault, FirstFault, OneOrMore, NoMore}
use Rattle.script_text.proofs.ColumnLemmas.{placed-ok}
use Rattle.script_text.proofs.Numbers.{if-ok, unless-ok, ok_same, number_to-ok, number_to-right}
use Rattle.script_text.proofs.PlaceLemmas.{positive}
use Rattle.script_text.proofs.Steps.{ok_err, bind-ok, bind-err, word_in-ok, word_in-err, word_in-fault, word_in-right, end_in-right, end-ok, end-err, end-fault, each-err, each-fault}

-- ---- single words

pub direction_at-ok : (word : List ℕ) (up : Bool) → direction_at word ≡ Ok up → word ≡ cond up (codes "up") (codes "down")
unfolding direction_at
direction_at-ok word up e = elim (cases_Bool (bytes_eq word (codes "up"))) [
  | inl is ↦
      let same : true ≡ up = ok_same _ _ (rw is at e) in
      subst (λ (b : Bool). word ≡ cond b (codes "up") (codes "down")) same ((bytes_eq-Decides word (codes "up")).0 is)
  | inr other ↦
      let p = if-ok (bytes_eq word (codes "down")) (Ok false) NoName up (rw other at e) in
      let same : false ≡ up = ok_same _ _ p.1 in
      subst (λ (b : Bool). word ≡ cond b (codes "up") (codes "down")) same ((bytes_eq-Decides word (codes "down")).0 p.0)
]

pub direction_at-right : (up : Bool) → direction_at (cond up (codes "up") (codes "down")) ≡ Ok up
unfolding direction_at
direction_at-right true = refl
direction_at-right false = refl

found-ok : (o : Option ℕ) (n : ℕ) → found_column o ≡ Ok n → o ≡ Some n
found-ok None n e = absurd (ok_err n NotDeclared (sym e))
found-ok (Some m) n e = ap Some (ok_same _ _ e)

pub column_at-ok : (columns : List Column) (word : List ℕ) (n : ℕ) → column_at columns word ≡ Ok n → IsColumn columns word n
unfolding column_at
column_at-ok columns word n e =
    let p = unless-ok (not (is_name word)) (found_column (column_number columns word)) NoName n e in
    (positive (is_name word) p.0, found-ok (column_number columns word) n p.1)

pub column_at-right : (columns : List Column) (word : List ℕ) (n : ℕ) → IsColumn columns word n → column_at columns word ≡ Ok n
unfolding column_at
column_at-right columns word n h = rw (h.0, h.1) refl

-- ---- a column and its new value

changed-ok : (word : List ℕ) (value : Value) → SpellsValue word value → SpellsChanged word (changed_to value)
changed-ok word (OfCell cell) h = h
changed-ok word (OfObject object) h = h

changed-right : (word : List ℕ) (to : Changed) → SpellsChanged word to → (value : Value) × SpellsValue word value × (changed_to value ≡ to)
changed-right word (changed.Cell cell) h = (OfCell cell, h, refl)
changed-right word (changed.Object object) h = (OfObject object, h, refl)

abbrev change_made : ℕ → Changed → ColumnValue
change_made column to = record { column = column; value = to }

change-ok : (columns : List Column) (word : List ℕ) (change : ColumnValue) (o : Option (List ℕ × List ℕ)) → sides_of word ≡ o → change_with columns o ≡ Ok change → SpellsChange columns word change
change-ok columns word change None is e = absurd (ok_err change NoName (sym e))
change-ok columns word change (Some p) is e =
    let c = bind-ok (column_at columns p.0) (λ column. value_at p.1 >>= λ value. Ok (change_made column (changed_to value))) change e in
    let v = bind-ok (value_at p.1) (λ value. Ok (change_made c.0 (changed_to value))) change c.2 in
    subst (SpellsChange columns word) (ok_same _ _ v.2)
    (p.0, p.1, parts_by-some 61 word p is, column_at-ok columns p.0 c.0 c.1, changed-ok p.1 v.0 (value_at-ok p.1 v.0 v.1))

change_at-ok : (columns : List Column) (word : List ℕ) (change : ColumnValue) → change_at columns word ≡ Ok change → SpellsChange columns word change
unfolding change_at
change_at-ok columns word change e = change-ok columns word change (sides_of word) refl e

change_at-right : (columns : List Column) (word : List ℕ) (change : ColumnValue) → SpellsChange columns word change → change_at columns word ≡ Ok change
unfolding change_at
change_at-right columns word change h =
    let v = changed-right h.1 change.value h.4 in
    let parts : sides_of word ≡ Some (h.0, h.1) = ap sides_of h.2 ∙ parts_by-right 61 h.0 h.1 (free_name 61 h.0 refl h.3.0) in
    rw (parts, column_at-right columns h.0 change.column h.3, value_at-right h.1 v.0 v.1)
    (ap (λ (to : Changed). Ok (change_made change.column to)) v.2)

all_same : {x y : List ColumnValue} → ◌≡◌ {A = Result (List ColumnValue) BadLine} (Ok x) (Ok y) → y ≡ x
all_same e = cc

changes-ok : (columns : List Column) (at : ℕ) (before : List ColumnValue) (ws : List (List ℕ)) (all : List ColumnValue) → changes_in columns at before ws ≡ Ok all
    → (made : List ColumnValue) × (all ≡ before ++ made) × AreSpelled (SpellsChange columns) ws made
unfolding each_in
changes-ok columns at before [] all e = ([], all_same e ∙ sym (append-nil before), tt)
changes-ok columns at before (w ∷ ws) all e =
    let p = bind-ok (placed at (change_at columns w)) (λ change. changes_in columns (at + 1) (before ++ change ∷ []) ws) all e in
    let c = change_at-ok columns w p.0 (placed-ok at (change_at columns w) p.0 p.1) in
    let q = changes-ok columns (at + 1) (before ++ p.0 ∷ []) ws all p.2 in
    (p.0 ∷ q.0, q.1 ∙ append_assoc before (p.0 ∷ []) q.0, (c, q.2))

changes-right : (columns : List Column) (at : ℕ) (before : List ColumnValue) (ws : List (List ℕ)) (made : List ColumnValue) → AreSpelled (SpellsChange columns) ws made
    → changes_in columns at before ws ≡ Ok (before ++ made)
unfolding each_in
changes-right columns at before [] [] h = ap Ok (sym (append-nil before))
changes-right columns at before [] (change ∷ made) h = absurd h
changes-right columns at before (w ∷ ws) [] h = absurd h
changes-right columns at before (w ∷ ws) (change ∷ made) h =
    rw (change_at-right columns w change h.0) (changes-right columns (at + 1) (before ++ change ∷ []) ws made h.1 ∙ ap Ok (append_assoc before (change ∷ []) made))

-- ---- what is read is spelled so

edit_told : {x y : Edit} → ◌≡◌ {A = Result Edit BadLine} (Ok x) (Ok y) → x ≡ y
edit_told e = cc

-- an edit of this verb that the words spell
abbrev IsEdit : EditVerb → List Column → List (List ℕ) → Edit → Type 0
IsEdit verb columns ws edit = (verb_for edit ≡ verb) × SpellsEdit columns ws edit

module _ (columns : List Column) where
  update-ok : (ws : List (List ℕ)) (edit : Edit) → update_in columns ws ≡ Ok edit → IsEdit changes.Update columns ws edit
  unfolding update_in next_in
  update-ok [] edit e = absurd (ok_err edit _ (sym e))
  update-ok (w ∷ ws) edit e =
      let p = bind-ok (changes_in columns 4 [] (w ∷ ws)) (λ made. Ok (edits.Update made)) edit e in
      let h = changes-ok columns 4 [] (w ∷ ws) p.0 p.1 in
      subst (IsEdit changes.Update columns (w ∷ ws)) (edit_told p.2)
      (refl, ((λ none. cc), subst (AreSpelled (SpellsChange columns) (w ∷ ws)) (sym h.1) h.2))

  patch-ok : (ws : List (List ℕ)) (edit : Edit) → patch_in columns ws ≡ Ok edit → IsEdit changes.Patch columns ws edit
  unfolding patch_in
  patch-ok ws edit e =
      let a = word_in-ok _ _ _ ws edit e in
      let b = word_in-ok _ _ _ a.1 edit a.5 in
      let c = word_in-ok _ _ _ b.1 edit b.5 in
      let r = end-ok 7 (edits.Patch (record { column = a.2; at = b.2; bytes = c.2 })) c.1 edit c.5 in
      let u = number_to-ok 4294967295 b.0 b.2 b.4 in
      let is : ws ≡ a.0 ∷ decimal b.2 ∷ c.0 ∷ [] = cc (a.3, b.3, c.3, r.0, u.0) in
      subst (IsEdit changes.Patch columns ws) r.1
      (refl, (a.0, c.0, is, column_at-ok columns a.0 a.2 a.4, omega (arith, u.1), bytes_at-ok c.0 c.2 c.4))

  pub change_in-ok : (verb : EditVerb) (ws : List (List ℕ)) (edit : Edit) → change_in verb columns ws ≡ Ok edit → IsEdit verb columns ws edit
  change_in-ok changes.Update ws edit e = update-ok ws edit e
  change_in-ok changes.Patch ws edit e = patch-ok ws edit e
  change_in-ok changes.Delete ws edit e =
      let r = end-ok 4 edits.Delete ws edit e in subst (IsEdit changes.Delete columns ws) r.1 (refl, r.0)

  -- ---- what is spelled is read so

  update-right : (ws : List (List ℕ)) (made : List ColumnValue) → SpellsEdit columns ws (edits.Update made) → update_in columns ws ≡ Ok (edits.Update made)
  unfolding update_in next_in
  update-right [] made h = absurd (h.0 refl)
  update-right (w ∷ ws) made h = rw (changes-right columns 4 [] (w ∷ ws) made h.1) refl

  patch-right : (ws : List (List ℕ)) (patch : Patch) → SpellsEdit columns ws (edits.Patch patch) → patch_in columns ws ≡ Ok (edits.Patch patch)
  unfolding patch_in
  patch-right ws patch h =
      rw h.2
      (word_in-right 4 _ h.0 _ _ patch.column (column_at-right columns h.0 patch.column h.3)
      ∙ word_in-right 5 _ (decimal patch.at) _ _ patch.at (number_to-right 4294967295 patch.at (omega (arith, h.4)) (omega arith))
      ∙ word_in-right 6 _ h.1 _ _ patch.bytes (bytes_at-right h.1 patch.bytes h.5)
      ∙ rw (end_in-right 7) refl)

  pub change_in-right : (ws : List (List ℕ)) (edit : Edit) → SpellsEdit columns ws edit → change_in (verb_for edit) columns ws ≡ Ok edit
  change_in-right ws (edits.Update made) h = update-right ws made h
  change_in-right ws (edits.Patch patch) h = patch-right ws patch h
  change_in-right ws edits.Delete h = rw (h, end_in-right 4) refl

  -- ---- where the first fault is

  module _ (f : BadLine) where
    update-err : (ws : List (List ℕ)) → update_in columns ws ≡ Err f → OneOrMore (ChangesFault columns) 4 ws f
    unfolding update_in next_in
    update-err [] e = cc
    update-err (w ∷ ws) e = each-err (next_change columns) with_change f 4 [] (w ∷ ws) (bind-err (changes_in columns 4 [] (w ∷ ws)) edits.Update f e)

    update-fault : (ws : List (List ℕ)) → OneOrMore (ChangesFault columns) 4 ws f → update_in columns ws ≡ Err f
    unfolding update_in next_in
    update-fault [] h = cc
    update-fault (w ∷ ws) h = rw (each-fault (next_change columns) with_change f 4 [] (w ∷ ws) h) refl

    patch-err : (ws : List (List ℕ)) → patch_in columns ws ≡ Err f → FirstFault 4 (patch_places columns) NoMore ws f
    unfolding patch_in
    patch-err ws h =
        word_in-err _ _ _ (drop 1 (patch_places columns)) NoMore f ws h (λ va a xa ia oa ha.
        word_in-err _ _ _ (drop 2 (patch_places columns)) NoMore f a ha (λ vb b xb ib ob hb.
        word_in-err _ _ _ (drop 3 (patch_places columns)) NoMore f b hb (λ vc c xc ic oc hc.
        end-err 7 _ c f hc)))

    patch-fault : (ws : List (List ℕ)) → FirstFault 4 (patch_places columns) NoMore ws f → patch_in columns ws ≡ Err f
    unfolding patch_in
    patch-fault ws h =
        word_in-fault _ _ _ (drop 1 (patch_places columns)) NoMore f ws h (λ va a xa ia oa ha.
        word_in-fault _ _ _ (drop 2 (patch_places columns)) NoMore f a ha (λ vb b xb ib ob hb.
        word_in-fault _ _ _ (drop 3 (patch_places columns)) NoMore f b hb (λ vc c xc ic oc hc.
        end-fault 7 _ c f hc)))

    pub change_in-err : (verb : EditVerb) (ws : List (List ℕ)) → change_in verb columns ws ≡ Err f → change_fault verb columns 4 ws f
    change_in-err changes.Update ws e = update-err ws e
    change_in-err changes.Patch ws e = patch-err ws e
    change_in-err changes.Delete ws e = end-err 4 edits.Delete ws f e

    pub change_in-fault : (verb : EditVerb) (ws : List (List ℕ)) → change_fault verb columns 4 ws f → change_in verb columns ws ≡ Err f
    change_in-fault changes.Update ws h = update-fault ws h
    change_in-fault changes.Patch ws h = patch-fault ws h
    change_in-fault changes.Delete ws h = end-fault 4 edits.Delete ws f h
