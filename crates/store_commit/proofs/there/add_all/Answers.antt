use Rattle.std.proofs.Common.{◌≡◌, ◌+◌, ◌++◌, ◌∷◌, [], ℕ, List, length, take, drop, Bool, true, false, Option, Some, None, Ok, Err, inr, inl, refl, sym, ◌∙◌, ap, subst, arith}
use Rattle.std.proofs.lemmas.List.{take_all}
use Rattle.stab_base.specs.declared.chunk_name.ChunkName.{ChunkName}
use Rattle.store_commit.specs.Update.{HasNames}
use Rattle.store_commit.proofs.Theres.{added_more}
use Rattle.store_commit.proofs.there.add_all.Goals as goal

none_behind : (l : List ChunkName) → l ++ [] ≡ l
none_behind [] = refl
none_behind (x ∷ l) = ap (λ (m : List ChunkName). x ∷ m) (none_behind l)

pub loop-name-init : goal.loop-name-init
loop-name-init c before has = subst (λ (l : List ChunkName). HasNames l c.args.named.now) (sym (none_behind before)) has

pub loop-name-preserved : goal.loop-name-preserved
loop-name-preserved c before has =
    added_more before c.args.names.now c.loop-name.named c.insert.new.self c.loop-name.name-index _ _ c.loop-name-test.true refl (c.loop-name.invariant before has) c.in_ok-insert.ensures.updates.0

pub returns : goal.returns
returns c before has = subst (λ (l : List ChunkName). HasNames (before ++ l) c.loop-name.named) (take_all _ c.args.names.now c.loop-name-test.false) (c.loop-name.invariant before has)
