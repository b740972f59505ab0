-- What a client shows, and what the Store shows, is what the lines say.
use Rattle.std.proofs.Common.{◌≡◌, ℕ, ◌+◌, ◌≤◌, List, [], ◌∷◌, Option, Some, None, refl, sym, ap, ◌∙◌, subst, arith}
use Rattle.std.specs.Prelude.{option_map}
use Rattle.std.proofs.lemmas.Bool.Decides.{nat_tests}
use Rattle.row_value.specs.declared.schema.Scheme.{Scheme}
use Rattle.table_model.specs.declared.entry.Entry.{Entry}
use Rattle.table_model.specs.declared.line.Write.{Write}
use Rattle.table_model.specs.History.{current}
use Rattle.step_tables.specs.Slots.{Main}
use Rattle.step_tables.specs.Slots.{Shadow}
use Rattle.step_tables.specs.Store.{Stored, entries_of, current_of}
use Rattle.step_tables.specs.Facts.{Answer, Refusal, Shown, ShownSum}
use Rattle.step_tables.specs.Facts as facts
use Rattle.step_tables.specs.Sums.{by_digests, or_whole, sum_of}
use Rattle.step_tables.specs.Members.{Among}
use Rattle.step_tables.specs.Sayings.{RowHeard, Said, open_of, open_in}
use Rattle.step_tables.specs.StoreMoves.{version_of}
use Rattle.step_tables.specs.ClientMoves.{Slots, shown_in}
use Rattle.step_tables.proofs.Lists.{among_none, among_cons}
use Rattle.store_laws.specs.Part.{Counts}
use Rattle.store_laws.proofs.Items.{above, current_is}
use Rattle.client_laws.specs.Part.{main_for, RowTied, ShowsRow}
use Rattle.client_laws.specs.Part as part
use Rattle.world_tables.specs.World.{World, row_shown}
use Rattle.world_tables.specs.Sound.{entry_at, content_of, content_at, clean, mine, shown_by, shown_of, IsShown, IsSum, IsStored}
use Rattle.world_laws.proofs.Kept.{Kept}
use Rattle.world_laws.proofs.Changes as changes
use Rattle.world_laws.proofs.Forms.{IsShow}

entry_above : (n v : ℕ) (h : List Stored) → Counts n h → v ≤ n → entry_at v (entries_of h) ≡ None
entry_above n v [] c le = refl
entry_above n v (x ∷ h) c le = grind (arith, nat_tests, entry_above (n + 1) v h c.1, c.0, le)

entry_stands : (n : ℕ) (h : List Stored) (i : Stored) → Counts n h → Among h i → entry_at i.entry.version (entries_of h) ≡ Some i.entry
entry_stands n [] i c a = absurd (among_none i a)
entry_stands n (x ∷ h) i c a = grind (arith, nat_tests, among_cons x h i a, above (n + 1) h i c.1, c.0, entry_stands (n + 1) h i c.1)

-- where an answer is `show`'s, the same by digests is `sum`'s
pub show_sum : (what : Option Shown) (answer : Answer) → IsShow answer → IsShown what answer → IsSum what (by_digests answer)
show_sum what (facts.Shows shown) f is = subst (λ (o : Option Shown). IsSum o (by_digests (facts.Shows shown))) (sym is) (whole (sum_of shown) refl)
  where
    whole : (o : Option ShownSum) → sum_of shown ≡ o → IsSum (Some shown) (or_whole shown o)
    whole None e = ap (λ (o : Option ShownSum). Some (or_whole shown o)) e
    whole (Some sum) e = ap (λ (o : Option ShownSum). Some (or_whole shown o)) e
show_sum what (facts.Refuses refusal) f is = refused refusal is
  where
    refused : (r : Refusal) → IsShown what (facts.Refuses r) → IsSum what (facts.Refuses r)
    refused facts.NoRow is = is
    refused other is = tt
show_sum what facts.Done f is = absurd f
show_sum what (facts.Number number) f is = absurd f
show_sum what (facts.Sums sum) f is = absurd f
show_sum what (facts.Stores version content) f is = absurd f
show_sum what (facts.Did step) f is = absurd f
show_sum what (facts.Names names) f is = absurd f
show_sum what (facts.Pairs pairs) f is = absurd f

module _ (g : ℕ → Scheme) (w : World) (s : Said) (k : Kept g w s) where
  -- the content of an item's version
  pub content_is : (table : ℕ) (i : Stored) → Among (k.items table) i → content_at s table i.entry.version ≡ Some i.content
  content_is table i a =
      let l = k.tables table in
      let found : entry_at i.entry.version (s.history table) ≡ Some i.entry =
      ap (λ (es : List Entry). entry_at i.entry.version es) (k.history table) ∙ entry_stands 0 (k.items table) i l.counted a in
      let f = l.known i a in
      ap (content_of s) found ∙ (ap (option_map (λ (x : Write). x.content)) f.1 ∙ ap Some f.4)

  pub no_content : (table : ℕ) → content_at s table 0 ≡ None
  no_content table =
      ap (content_of s) (ap (λ (es : List Entry). entry_at 0 es) (k.history table) ∙ entry_above 0 0 (k.items table) (k.tables table).counted (omega arith))

  -- slots that are tied to the lines show what these say
  pub shown_is : (c table : ℕ) (row : List ℕ) (slots : Slots)
      → RowTied (g table) c (k.items table) table row slots (s.heard c).writes ((s.heard c).at table row) (k.sent c)
      → shown_of g s c table row ≡ shown_in slots.main slots.conflict slots.shadow
  shown_is c table row slots tied = go slots.main refl slots.conflict refl slots.shadow refl (open_in (g table) (open_of x)) refl
    where
      x : RowHeard
      x = (s.heard c).at table row

      go : (m : Option Main) → slots.main ≡ m → (y : Option Shadow) → slots.conflict ≡ y → (z : Option Shadow) → slots.shadow ≡ z
          → (o : Option Write) → open_in (g table) (open_of x) ≡ o → shown_by s table x o ≡ shown_in m y z
      go (Some m) is None free z at None open_w = absurd (let both : Some m ≡ None = sym is ∙ (tied.main ∙ ap (option_map main_for) open_w) in cc)
      go (Some m) is None free z at (Some o) open_w =
          let both : Some m ≡ Some (main_for o) = sym is ∙ (tied.main ∙ ap (option_map main_for) open_w) in
          let same : m ≡ main_for o = cc in
          let clear : x.conflict o.number ≡ None = subst (λ (q : Main). x.conflict q.number ≡ None) same ((tied.fit.clear m is).1 free) in
          ap (λ (v : Option ℕ). Some (mine o v)) clear ∙ ap (λ (q : Main). Some (facts.Mine q.number q.content)) (sym same)
      go (Some m) is (Some y) full z at None open_w = absurd (let both : Some m ≡ None = sym is ∙ (tied.main ∙ ap (option_map main_for) open_w) in cc)
      go (Some m) is (Some y) full z at (Some o) open_w =
          let q = tied.fit.conflict y full in
          let both : Some m ≡ Some (main_for o) = sym is ∙ (tied.main ∙ ap (option_map main_for) open_w) in
          let same : m ≡ main_for o = cc in
          let main_is : Some q.main ≡ Some m = sym q.in_main ∙ is in
          let same_main : q.main ≡ m = cc in
          let named : x.conflict o.number ≡ Some y.version = subst (λ (p : Main). x.conflict p.number ≡ Some y.version) (same_main ∙ same) q.named in
          ap (λ (v : Option ℕ). Some (mine o v)) named ∙ ap (λ (p : Main). Some (facts.Contended p.number y.version p.content)) (sym same)
      go None is (Some y) full z at o open_w = absurd (let q = (tied.fit.conflict y full).in_main in let p = sym q ∙ is in cc)
      go None is None free z at (Some o) open_w = absurd (let both : None ≡ Some (main_for o) = sym is ∙ (tied.main ∙ ap (option_map main_for) open_w) in cc)
      go None is None free None at None open_w =
          let zero : x.shadow ≡ 0 = sym (tied.level free) ∙ rw at refl in
          ap (λ (v : ℕ). clean v (content_at s table v)) zero ∙ ap (clean 0) (no_content table)
      go None is None free (Some y) at None open_w =
          let i = tied.fit.shadow y at in
          let level : x.shadow ≡ y.version = sym (tied.level free) ∙ rw at refl in
          let content : content_at s table y.version ≡ Some y.content =
          subst (λ (v : ℕ). content_at s table v ≡ Some y.content) i.1.version_is (content_is table i.0 i.1.stands ∙ ap Some i.2) in
          ap (λ (v : ℕ). clean v (content_at s table v)) level ∙ ap (clean y.version) content

  shows : (c table : ℕ) (row : List ℕ) (what : Option Shown) → ShowsRow g c k.items (k.sent c) (s.heard c) table row what → shown_of g s c table row ≡ what
  shows c table row what f = shown_is c table row f.0 f.1 ∙ sym f.2

  pub answer_shows : (c table : ℕ) (row : List ℕ) (answer : Answer) → part.IsShown g c k.items (k.sent c) (s.heard c) table row answer → IsShown (shown_of g s c table row) answer
  answer_shows c table row (facts.Shows what) f = shows c table row (Some what) f
  answer_shows c table row (facts.Refuses facts.NoRow) f = shows c table row None f
  answer_shows c table row other f = tt

  -- the Store's row is its last item
  pub row_stored : (table : ℕ) (row : List ℕ) (o : Option Stored) → current_of (k.items table) row ≡ o → IsStored s table row (row_shown o)
  row_stored table row None at = ap (λ (es : List Entry). current es row) (k.history table) ∙ (changes.current_is (k.items table) row ∙ ap version_of at)
  row_stored table row (Some i) at =
      let f = current_is (k.items table) row i at in (
        above 0 (k.items table) i (k.tables table).counted f.0,
        ap (λ (es : List Entry). current es row) (k.history table) ∙ (changes.current_is (k.items table) row ∙ ap version_of at),
        content_is table i f.0,
      )
