use Rattle.std.proofs.Common.{◌≡◌, List, refl, sym, ◌∙◌, ap, subst}
use Rattle.std.specs.Map.{keys_of}
use Rattle.std.specs.BTreeSet.{insert_key}
use Rattle.std.specs.List.Sorted.{IsStrictlySortedBy}
use Rattle.slot_store.specs.declared.held.RowKey.{RowKey}
use Rattle.slot_store.specs.Data.{key_cmp}
use Rattle.client_journal.proofs.Scans.{sorted_insert}
use Rattle.client_journal.proofs.scan.keys_with.Goals as goal

pub returns-in-None-clause-keys : goal.returns-in-None-clause-keys
returns-in-None-clause-keys c = λ held are. are ∙ sym (c.in-None.ensures.none held)

pub returns-in_ok-made-in-Some-clause-keys : goal.returns-in_ok-made-in-Some-clause-keys
returns-in_ok-made-in-Some-clause-keys c = λ held are.
    let key = c.in-Some.key in
    c.from_vec.ensures ∙ (c.in_ok-made-in-Some.ensures ∙ (ap (λ (l : List RowKey). insert_key key_cmp l key) (c.as_slice.ensures ∙ are) ∙ sym (c.in-Some.ensures.some held)))

pub returns-in_ok-made-in-Some-clause-rising : goal.returns-in_ok-made-in-Some-clause-rising
returns-in_ok-made-in-Some-clause-rising c = λ rising.
    let key = c.in-Some.key in
    let made = c.from_vec.ensures ∙ (c.in_ok-made-in-Some.ensures ∙ ap (λ (l : List RowKey). insert_key key_cmp l key) c.as_slice.ensures) in
    subst (IsStrictlySortedBy key_cmp) (sym made) (sorted_insert key c.args.keys rising)
