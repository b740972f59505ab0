use Rattle.std.proofs.Common.{◌≡◌, ◌+◌, ◌++◌, ◌∷◌, [], ℕ, List, length, take, Bool, true, false, not, refl, sym, ◌∙◌, ap, subst, arith}
use Rattle.chunk_store.specs.Standing.{chunks, chunk_in}
use Rattle.store_commit.proofs.Theres.{no_names, met_once, met_twice, met_all}
use Rattle.store_commit.proofs.there.repeats.Goals as goal

pub loop-name-init : goal.loop-name-init
loop-name-init c = ([], no_names c.new-met.result c.new-met.ensures.empty, refl)

pub loop-name-preserved : goal.loop-name-preserved
loop-name-preserved c =
    met_once c.args.names.now c.loop-name.met c.loop-name.name-index _ _ c.loop-name-test.true refl c.loop-name.invariant c.insert.new.self c.in_ok-is_new.ensures.updates.0
    (let added = c.in_ok-is_new.ensures.added in let new = c.if-not-is_new.false in not_true _ (sym added ∙ new))
  where
    not_true : (b : Bool) → not b ≡ true → b ≡ false
    not_true true h = absurd cc
    not_true false h = refl

pub returns-then-not-is_new : goal.returns-then-not-is_new
returns-then-not-is_new c =
    sym (met_twice c.args.names.now c.loop-name.met c.loop-name.name-index _ _ c.loop-name-test.true refl c.loop-name.invariant (not_false _ (sym c.in_ok-is_new.ensures.added ∙ c.if-not-is_new.true)))
  where
    not_false : (b : Bool) → not b ≡ false → b ≡ true
    not_false true h = refl
    not_false false h = absurd cc

pub returns : goal.returns
returns c = sym (met_all c.args.names.now c.loop-name.met c.loop-name.name-index c.loop-name-test.false c.loop-name.invariant)
