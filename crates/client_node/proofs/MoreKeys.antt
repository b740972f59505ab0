-- A set of rows with one key more, or with none.
use Rattle.std.proofs.Common.{◌≡◌, Bool, true, false, cond, refl, ◌∙◌}
use Rattle.std.specs.BTreeMap.{is_at}
use Rattle.std.specs.BTreeSet.{BTreeSet, contains, Updates, IsUnchanged}
use Rattle.slot_store.specs.declared.held.RowKey.{RowKey}
use Rattle.slot_store.specs.Data.{key_cmp}

or_kept : (b k : Bool) → k ≡ true → cond b true k ≡ true
or_kept true k is = refl
or_kept false k is = is

pub one_more : (old new : BTreeSet RowKey) (at : RowKey) → Updates key_cmp old new at true → (key : RowKey) → contains key_cmp old key ≡ true → contains key_cmp new key ≡ true
one_more old new at u key is = u.0 key ∙ or_kept (is_at (key_cmp at) key) (contains key_cmp old key) is

pub none_more : (old new : BTreeSet RowKey) → IsUnchanged old new → (key : RowKey) → contains key_cmp old key ≡ true → contains key_cmp new key ≡ true
none_more old new u key is = rw u is
