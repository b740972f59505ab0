use Rattle.std.proofs.Common.{cond}
use Rattle.std.specs.BTreeMap.{is_at}
use Rattle.std.specs.BTreeSet.{contains}
use Rattle.stab_base.specs.declared.chunk_name.ChunkName.{ChunkName}
use Rattle.chunk_store.specs.Payload.{name_cmp}
use Rattle.std.proofs.Common.{◌≡◌, ◌+◌, ◌++◌, ◌∷◌, [], ℕ, List, length, take, drop, Bool, true, false, Option, Some, None, Ok, Err, inr, inl, refl, sym, ◌∙◌, ap, subst, arith}
use Rattle.std.proofs.lemmas.List.{take_all}
use Rattle.held_value.specs.declared.local_name.LocalName.{LocalName}
use Rattle.client_journal.specs.There.{HasNames}
use Rattle.client_journal.proofs.Theres.{added_more}
use Rattle.client_journal.proofs.there.add_all.Goals as goal

none_behind : (l : List LocalName) → l ++ [] ≡ l
none_behind [] = refl
none_behind (x ∷ l) = ap (λ (m : List LocalName). x ∷ m) (none_behind l)

pub loop-name-init : goal.loop-name-init
loop-name-init c before has = subst (λ (l : List LocalName). HasNames l c.args.named.now) (sym (none_behind before)) has

pub loop-name-preserved : goal.loop-name-preserved
loop-name-preserved c before has =
    added_more before c.args.names.now c.loop-name.named c.insert.new.self c.loop-name.name-index _ _ c.loop-name-test.true refl (c.loop-name.invariant before has)
    (subst (λ (k : ChunkName). (q : ChunkName) → contains name_cmp c.insert.new.self q ≡ cond (is_at (name_cmp k) q) true (contains name_cmp c.loop-name.named q)) c.chunk_name.ensures c.in_ok-insert.ensures.updates.0)

pub returns : goal.returns
returns c before has = subst (λ (l : List LocalName). HasNames (before ++ l) c.loop-name.named) (take_all _ c.args.names.now c.loop-name-test.false) (c.loop-name.invariant before has)
