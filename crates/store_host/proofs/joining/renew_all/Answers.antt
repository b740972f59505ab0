use Rattle.std.proofs.Common.{ℕ, ◌+◌, List, drop, sym, ap, ◌∙◌, subst, rules}
use Rattle.std.specs.Prelude.{slice_index_or}
use Rattle.store_host.proofs.Maps.{has}
use Rattle.store_host.proofs.Moving.{drop_next, drop_done}
use Rattle.store_host.proofs.Renewing.{AreRenewed, renewed_first, renewed_on}
use Rattle.store_host.proofs.joining.renew_all.Goals as goal

pub loop-store-init : goal.loop-store-init
loop-store-init g c =
    subst (λ (l : List ℕ). AreRenewed c.args.tables.now c.args.stores.now c.args.stores.now l) (sym (c.as_slice-store-items.ensures ∙ c.in_ok-numbers.ensures.keys))
    (renewed_first c.args.tables.now c.args.stores.now)

pub loop-store-preserved : goal.loop-store-preserved
loop-store-preserved g c =
    let ns = c.as_slice-store-items.result.now in
    let i = c.loop-store.store-index in
    renewed_on c.args.tables.now c.args.stores.now c.loop-store.stores c.renew_at.new.stores (slice_index_or ns i 0) (drop i ns) (drop (i + 1) ns) (drop_next ns i (search rules)) c.loop-store.invariant
    c.in_ok-renew_at.ensures.renewed

pub returns-clause-renewed : goal.returns-clause-renewed
returns-clause-renewed g c q =
    let ns = c.as_slice-store-items.result.now in
    c.loop-store.invariant.behind q (ap (λ (l : List ℕ). has l q) (drop_done ns c.loop-store.store-index (search rules)))
