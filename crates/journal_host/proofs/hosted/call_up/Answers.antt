use Rattle.std.proofs.Common.{suc, List, Some, refl, ap, sym, ◌∙◌, subst}
use Rattle.std.proofs.lemmas.Result.{err_from_is_err_and}
use Rattle.journal_host.specs.declared.out.ClientOut.{ClientOut}
use Rattle.journal_host.specs.Holds.{outs_in}
use Rattle.journal_host.specs.Steps.{HasTold}
use Rattle.journal_host.proofs.Replying.{fits_or, number_was}
use Rattle.journal_host.proofs.Hosting.{call_made, call_dropped, call_kept, call_cause, spent_so, either_way, either_plans}
use Rattle.client_node.proofs.PlanNumbers.{next_below, spent_plans}
use Rattle.client_node.specs.Phases.{is_open}
use Rattle.step_tables.specs.Facts as facts
use Rattle.journal_host.specs.Asks.{asked_by}
use Rattle.journal_host.proofs.Phased.{refusal_leaves, answered_moves}
use Rattle.journal_host.proofs.hosted.call_up.Goals as goal

pub returns-in_err-reserve : goal.returns-in_err-reserve
returns-in_err-reserve g c = record {
  made = λ cut s h fits. let p = err_from_is_err_and c.from_residual.result c.from_residual.ensures.1 in rw p.1 tt;
  dropped = λ cut s h unfit. let p = err_from_is_err_and c.from_residual.result c.from_residual.ensures.1 in rw p.1 tt;
  spent = λ cut s n h below fits.
      let p = err_from_is_err_and c.from_residual.result c.from_residual.ensures.1 in
      rw (p.1, p.2) tt;
  pairs = λ cut s count h is.
      let p = err_from_is_err_and c.from_residual.result c.from_residual.ensures.1 in
      absurd (let bad = sym p.1 ∙ is in cc);
  phases = λ s.
      let p = err_from_is_err_and c.from_residual.result c.from_residual.ensures.1 in
      rw p.1 (λ up table. sym (refusal_leaves (asked_by s c.args.request) facts.NoDevice (is_open c.args.node.now) table));
  ends = record {
    kept = λ cut s h.
        let p = err_from_is_err_and c.from_residual.result c.from_residual.ensures.1 in
        rw p.1 (h, λ owners. ap (outs_in owners) c.reserve.ensures.items);
    cause = let p = err_from_is_err_and c.from_residual.result c.from_residual.ensures.1 in rw p.1 (record { counted = λ none. refl; cause = λ bad. absurd cc });
    plans = λ n below. next_below g.D.Disk.state n c.args.node.now below;
  };
}

pub returns : goal.returns
returns g c = record {
  made = λ cut s h fits.
      rw c.answered.ensures (call_made g.D.Disk.state g.D.Disk.images cut c.args.client c.args.request c.args.node.now c.reply-found.new.node c.tell.new.node c.args.outs.now.items c.tell.new.outs.items
      (λ step t. subst (λ (l : List ClientOut). HasTold g.D.Disk.state cut c.args.client step c.tell.new.node l c.tell.new.outs.items) c.reserve.ensures.items (c.tell.ensures.told cut step t))
      c.reply-found.result
      s.disk s.agenda h c.requires.up (c.reply-found.ensures.made s h.client fits));
  dropped = λ cut s h unfit.
      rw c.answered.ensures (call_dropped g.D.Disk.state g.D.Disk.images cut c.args.client c.args.request c.args.node.now c.reply-found.new.node c.tell.new.node c.args.outs.now.items c.tell.new.outs.items
      (λ step t. subst (λ (l : List ClientOut). HasTold g.D.Disk.state cut c.args.client step c.tell.new.node l c.tell.new.outs.items) c.reserve.ensures.items (c.tell.ensures.told cut step t))
      c.reply-found.result
      s.disk s.agenda h c.requires.up (c.reply-found.ensures.dropped s h.client unfit));
  spent = λ cut s n h below fits. rw c.answered.ensures (spent_so n (Some s) c.reply-found.result
      (λ last is. spent_plans g.D.Disk.state n c.args.node.now s.disk s.agenda h.client c.requires.up below (c.reply-found.ensures.spent s h.client fits last is)));
  pairs = λ cut s count h is. c.reply-found.ensures.pairs s count h.client (number_was c.reply-found.result count (sym c.answered.ensures ∙ is));
  phases = λ s.
      rw c.answered.ensures (answered_moves c.args.node.now c.tell.new.node c.reply-found.new.node (asked_by s c.args.request) c.reply-found.result c.tell.ensures.phases c.tell.ensures.up (c.reply-found.ensures.phases s));
  ends = record {
    kept = λ cut s h.
        rw c.answered.ensures (call_kept g.D.Disk.state g.D.Disk.images cut c.args.client c.args.request c.args.node.now c.reply-found.new.node c.tell.new.node c.args.outs.now.items c.tell.new.outs.items
        (λ step t. subst (λ (l : List ClientOut). HasTold g.D.Disk.state cut c.args.client step c.tell.new.node l c.tell.new.outs.items) c.reserve.ensures.items (c.tell.ensures.told cut step t))
        c.reply-found.result
        s.disk s.agenda h c.requires.up
        (either_way g.D.Disk.state g.D.Disk.images c.args.request s c.args.node.now c.reply-found.new.node c.reply-found.result (fits_or s.disk c.args.request)
        (λ fits. c.reply-found.ensures.made s h.client fits)
        (λ unfit. c.reply-found.ensures.dropped s h.client unfit)));
    cause =
        let n = c.requires.node in
        rw c.answered.ensures (call_cause g.D.Disk.state g.D.Disk.images c.args.request c.args.node.now c.reply-found.new.node c.tell.new.node c.tell.ensures.devs n.0.disk n.0.agenda n.1 c.requires.up
        c.reply-found.result
        (either_way g.D.Disk.state g.D.Disk.images c.args.request n.0 c.args.node.now c.reply-found.new.node c.reply-found.result (fits_or n.0.disk c.args.request)
        (λ fits. c.reply-found.ensures.made n.0 n.1 fits)
        (λ unfit. c.reply-found.ensures.dropped n.0 n.1 unfit)));
    plans = λ n below.
        let a = c.requires.node in
        c.tell.ensures.plans (suc n) (either_plans g.D.Disk.state g.D.Disk.images c.args.request a.0 c.args.node.now c.reply-found.new.node c.reply-found.result
        (either_way g.D.Disk.state g.D.Disk.images c.args.request a.0 c.args.node.now c.reply-found.new.node c.reply-found.result (fits_or a.0.disk c.args.request)
        (λ fits. c.reply-found.ensures.made a.0 a.1 fits)
        (λ unfit. c.reply-found.ensures.dropped a.0 a.1 unfit)) n below);
  };
}
