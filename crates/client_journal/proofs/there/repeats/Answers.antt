use Rattle.std.proofs.Common.{cond}
use Rattle.std.specs.BTreeMap.{is_at}
use Rattle.std.specs.BTreeSet.{contains}
use Rattle.stab_base.specs.declared.chunk_name.ChunkName.{ChunkName}
use Rattle.chunk_store.specs.Payload.{name_cmp}
use Rattle.std.proofs.Common.{◌≡◌, ◌+◌, ◌++◌, ◌∷◌, [], ℕ, List, length, take, Bool, true, false, not, refl, sym, ◌∙◌, ap, subst, arith}
use Rattle.chunk_store.specs.Standing.{chunks}
use Rattle.client_journal.specs.Devs.{local_in}
use Rattle.client_journal.proofs.Theres.{no_names, met_once, met_twice, met_all}
use Rattle.client_journal.proofs.there.repeats.Goals as goal

pub loop-name-init : goal.loop-name-init
loop-name-init c = ([], no_names c.new-met.result c.new-met.ensures.empty, refl)

pub loop-name-preserved : goal.loop-name-preserved
loop-name-preserved c =
    met_once c.args.names.now c.loop-name.met c.loop-name.name-index _ _ c.loop-name-test.true refl c.loop-name.invariant c.insert.new.self
    (subst (λ (k : ChunkName). (q : ChunkName) → contains name_cmp c.insert.new.self q ≡ cond (is_at (name_cmp k) q) true (contains name_cmp c.loop-name.met q)) c.chunk_name.ensures c.in_ok-is_new.ensures.updates.0)
    (let added = c.in_ok-is_new.ensures.added ∙ ap (λ (k : ChunkName). not (contains name_cmp c.loop-name.met k)) c.chunk_name.ensures in let new = c.if-not-is_new.false in not_true _ (sym added ∙ new))
  where
    not_true : (b : Bool) → not b ≡ true → b ≡ false
    not_true true h = absurd cc
    not_true false h = refl

pub returns-then-not-is_new : goal.returns-then-not-is_new
returns-then-not-is_new c =
    sym (met_twice c.args.names.now c.loop-name.met c.loop-name.name-index _ _ c.loop-name-test.true refl c.loop-name.invariant (not_false _ (sym (c.in_ok-is_new.ensures.added ∙ ap (λ (k : ChunkName). not (contains name_cmp c.loop-name.met k)) c.chunk_name.ensures) ∙ c.if-not-is_new.true)))
  where
    not_false : (b : Bool) → not b ≡ false → b ≡ true
    not_false true h = refl
    not_false false h = absurd cc

pub returns : goal.returns
returns c = sym (met_all c.args.names.now c.loop-name.met c.loop-name.name-index c.loop-name-test.false c.loop-name.invariant)
