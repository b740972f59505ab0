-- Where nothing is hidden, nothing is behind a write.
use Rattle.std.proofs.Common.{◌≡◌, ℕ, Bool, true, false, cond, List, [], ◌∷◌, refl, sym, ◌∙◌, ap}
use Rattle.std.specs.Prelude.{◌||◌}
use Rattle.std.specs.BTreeMap.{is_at}
use Rattle.std.specs.BTreeSet.{BTreeSet, keys, contains}
use Rattle.std.specs.List.{list_any}
use Rattle.row_store.specs.Data.{id_cmp}
use Rattle.store_commit.specs.Devs.{Write, PutRow}
use Rattle.store_commit.specs.Shows.{HiddenBehind}
use Rattle.store_commit.proofs.Lookups.{id_itself}
use Rattle.store_commit.proofs.Seen.{none_in}

no_keys : (ks : List (List ℕ)) → ((row : List ℕ) → list_any (is_at (id_cmp row)) ks ≡ false) → ks ≡ []
no_keys [] none = refl
no_keys (k ∷ ks) none = let one : true ≡ false = sym (ap (λ (b : Bool). b || list_any (is_at (id_cmp k)) ks) (id_itself k)) ∙ none k in absurd cc

never : (b c : Bool) → c ≡ false → cond b false c ≡ false
never true c none = refl
never false c none = none

pub still_hidden : (w : Write) (old new : BTreeSet (List ℕ)) → HiddenBehind w old new → keys old ≡ [] → keys new ≡ []
still_hidden (PutRow stored) old new h none = no_keys (keys new) (λ row. h row ∙ never (is_at (id_cmp stored.row) row) (contains id_cmp old row) (none_in old (is_at (id_cmp row)) none))
still_hidden _ old new h none = ap keys h ∙ none
