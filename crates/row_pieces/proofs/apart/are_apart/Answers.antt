use Rattle.std.proofs.Common.{◌≡◌, Bool, true, false, cond, not, refl, sym, ap, subst, ◌∙◌}
use Rattle.std.specs.BTreeMap.{is_at}
use Rattle.std.specs.BTreeSet.{contains}
use Rattle.stab_base.specs.declared.chunk_name.ChunkName.{ChunkName}
use Rattle.value_codec.specs.Spelling.{HasNameSpelling}
use Rattle.step_tables.specs.Chunks.{name_cmp}
use Rattle.row_pieces.proofs.Distinct.{none_yet, met_once, met_twice, all_more}
use Rattle.row_pieces.proofs.apart.are_apart.Goals as goal

pub loop-name-init : goal.loop-name-init
loop-name-init c = none_yet c.args.names.now c.new-met.result c.new-met.ensures.empty

pub returns-then-not-is_new-clause-apart : goal.returns-then-not-is_new-clause-apart
returns-then-not-is_new-clause-apart c =
    sym (met_twice c.args.names.now c.loop-name.met c.loop-name.name-index _ _ c.loop-name-test.true refl c.loop-name.invariant
    (not_false _ (sym (c.in_ok-is_new.ensures.added ∙ ap (λ (k : ChunkName). not (contains name_cmp c.loop-name.met k)) c.spelled.ensures.value) ∙ c.if-not-is_new.true)))
  where
    not_false : (b : Bool) → not b ≡ false → b ≡ true
    not_false true h = refl
    not_false false h = absurd cc

pub loop-name-preserved : goal.loop-name-preserved
loop-name-preserved c =
    met_once c.args.names.now c.loop-name.met c.loop-name.name-index _ _ c.loop-name-test.true refl c.loop-name.invariant c.insert.new.self
    (subst (λ (k : ChunkName). (q : ChunkName) → contains name_cmp c.insert.new.self q ≡ cond (is_at (name_cmp k) q) true (contains name_cmp c.loop-name.met q)) c.spelled.ensures.value c.in_ok-is_new.ensures.updates.0)
    (not_true _ (sym (c.in_ok-is_new.ensures.added ∙ ap (λ (k : ChunkName). not (contains name_cmp c.loop-name.met k)) c.spelled.ensures.value) ∙ c.if-not-is_new.false))
    (all_more HasNameSpelling c.args.names.now c.loop-name.name-index _ _ c.loop-name-test.true refl c.loop-name.invariant.spelled c.spelled.ensures.spelled)
  where
    not_true : (b : Bool) → not b ≡ true → b ≡ false
    not_true true h = absurd cc
    not_true false h = refl
