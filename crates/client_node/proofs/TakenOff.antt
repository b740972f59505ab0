-- How rows of a table are taken off a set, one by one.
use Rattle.std.proofs.Common.{◌≡◌, ℕ, ◌+◌, ◌<◌, ◌≤◌, Bool, true, false, cond, not, List, [], ◌∷◌, length, drop, get_or, refl, sym, ◌∙◌, ap}
use Rattle.std.specs.Prelude.{◌&&◌, ◌||◌}
use Rattle.std.specs.BTreeMap.{is_at}
use Rattle.std.specs.BTreeSet.{BTreeSet, contains, UpdatesBy}
use Rattle.std.proofs.lemmas.List.{drop_more, drop_all}
use Rattle.slot_store.specs.declared.held.RowKey.{RowKey}
use Rattle.slot_store.specs.Data.{key_cmp, key_at}
use Rattle.client_node.specs.Waiting.{is_key_of, TakesOff}

and_all : (b : Bool) → b ≡ (b && true)
and_all true = refl
and_all false = refl

-- no row is
pub none_off : (table : ℕ) (old new : BTreeSet RowKey) → new ≡ old → TakesOff table [] old new
none_off table old new same key = ap (λ (s : BTreeSet RowKey). contains key_cmp s key) same ∙ and_all (contains key_cmp old key)

module _ (table : ℕ) (rows : List (List ℕ)) (first : BTreeSet RowKey) where
  -- without the rows that are left it is the first set without all of them
  abbrev pub LeavesRest : ℕ → BTreeSet RowKey → Type 0
  LeavesRest done now = (key : RowKey) → (contains key_cmp now key && not (is_key_of table (drop done rows) key)) ≡ (contains key_cmp first key && not (is_key_of table rows key))

  one_without : (here known rest : Bool) → (cond here false known && not rest) ≡ (known && not (here || rest))
  one_without true true rest = refl
  one_without true false rest = refl
  one_without false known rest = refl

  pub one_off : (now new : BTreeSet RowKey) (done : ℕ) (row e : List ℕ) → LeavesRest done now → done < length rows → row ≡ get_or rows done e → UpdatesBy key_cmp (key_cmp (key_at table row)) now new false → LeavesRest (done + 1) new
  one_off now new done row e h lt is u key =
      let rest : Bool = is_key_of table (drop (done + 1) rows) key in
      let known : Bool = contains key_cmp now key in
      ap (λ (b : Bool). b && not rest) (u.0 key)
      ∙ (one_without (is_at (key_cmp (key_at table row)) key) known rest
      ∙ (ap (λ (r : List ℕ). known && not (is_at (key_cmp (key_at table r)) key || rest)) is
      ∙ (ap (λ (l : List (List ℕ)). known && not (is_key_of table l key)) (sym (drop_more rows done e lt)) ∙ h key)))

  pub all_off : (now : BTreeSet RowKey) (done : ℕ) → LeavesRest done now → length rows ≤ done → TakesOff table rows first now
  all_off now done h all key =
      and_all (contains key_cmp now key) ∙ (ap (λ (l : List (List ℕ)). contains key_cmp now key && not (is_key_of table l key)) (sym (drop_all done rows all)) ∙ h key)
