use Rattle.std.proofs.Common.{suc, length, List, Some, refl, ap, subst}
use Rattle.std.proofs.lemmas.Result.{err_from_is_err_and}
use Rattle.table_model.specs.declared.line.Answer.TheVariants as answers
use Rattle.table_model.specs.declared.line.RowPair.{RowPair}
use Rattle.step_tables.specs.ClientMoves.{Conflicts}
use Rattle.step_tables.specs.Facts as facts
use Rattle.client_node.proofs.PlanNumbers.{next_below, spent_plans}
use Rattle.journal_host.specs.declared.out.ClientOut.{ClientOut}
use Rattle.journal_host.specs.Asks.{as_answer}
use Rattle.journal_host.specs.Holds.{outs_in}
use Rattle.journal_host.specs.Steps.{HasTold}
use Rattle.journal_host.proofs.Phased.{told_keeps}
use Rattle.journal_host.proofs.Replying.{spent_any}
use Rattle.journal_host.proofs.Hosting.{call_lists, list_kept, list_cause, spent_so}
use Rattle.journal_host.proofs.hosted.list_up.Goals as goal

pub returns-in_err-reserve : goal.returns-in_err-reserve
returns-in_err-reserve g c = record {
  listed = λ cut s h. let p = err_from_is_err_and c.from_residual.result c.from_residual.ensures.1 in rw p.1 tt;
  spent = λ cut s n h below.
      let p = err_from_is_err_and c.from_residual.result c.from_residual.ensures.1 in
      rw (p.1, p.2) tt;
  phases = λ up. refl;
  ends = record {
    kept = λ cut s h.
        let p = err_from_is_err_and c.from_residual.result c.from_residual.ensures.1 in
        rw p.1 (h, λ owners. ap (outs_in owners) c.reserve.ensures.items);
    cause = let p = err_from_is_err_and c.from_residual.result c.from_residual.ensures.1 in rw p.1 (record { counted = λ none. refl; cause = λ bad. absurd cc });
    plans = λ n below. next_below g.D.Disk.state n c.args.node.now below;
  };
}

pub returns : goal.returns
returns g c = record {
  listed = λ cut s h.
      rw (c.answered.ensures, c.counted-count.ensures.answer) (call_lists g.D.Disk.state g.D.Disk.images cut c.args.client c.args.table c.args.node.now c.conflicted-found.new.self c.tell.new.node c.args.outs.now.items
      c.tell.new.outs.items
      (λ step t. subst (λ (l : List ClientOut). HasTold g.D.Disk.state cut c.args.client step c.tell.new.node l c.tell.new.outs.items) c.reserve.ensures.items (c.tell.ensures.told cut step t))
      c.conflicted-found.result s.disk s.agenda h c.requires.up c.counted-count.new.pairs c.args.pairs.now (c.conflicted-found.ensures.does s h.client) c.counted-count.ensures.listed c.counted-count.ensures.kept);
  spent = λ cut s n h below. rw (c.answered.ensures, c.counted-count.ensures.answer) (spent_so n (Some s) (as_answer (λ (listed : List RowPair). answers.Number (length listed)) c.conflicted-found.result)
      (λ last is. spent_plans g.D.Disk.state n c.args.node.now s.disk s.agenda h.client c.requires.up below
      (spent_any g.D.Disk.state g.D.Disk.images s c.args.node.now c.conflicted-found.new.self (Conflicts c.args.table) (λ listed. facts.Pairs listed) (λ (listed : List RowPair). answers.Number (length listed))
      c.conflicted-found.result (c.conflicted-found.ensures.does s h.client) last is)));
  phases = told_keeps c.args.node.now c.tell.new.node c.conflicted-found.new.self c.tell.ensures.phases c.tell.ensures.up c.conflicted-found.ensures.phases;
  ends = record {
    kept = λ cut s h.
        rw (c.answered.ensures, c.counted-count.ensures.answer) (list_kept g.D.Disk.state g.D.Disk.images cut c.args.client c.args.table c.args.node.now c.conflicted-found.new.self c.tell.new.node c.args.outs.now.items
        c.tell.new.outs.items
        (λ step t. subst (λ (l : List ClientOut). HasTold g.D.Disk.state cut c.args.client step c.tell.new.node l c.tell.new.outs.items) c.reserve.ensures.items (c.tell.ensures.told cut step t))
        c.conflicted-found.result s.disk s.agenda h c.requires.up (c.conflicted-found.ensures.does s h.client));
    cause =
        let n = c.requires.node in
        rw (c.answered.ensures, c.counted-count.ensures.answer) (list_cause g.D.Disk.state g.D.Disk.images n.0 c.args.table c.args.node.now c.conflicted-found.new.self c.tell.new.node c.tell.ensures.devs c.conflicted-found.result
        (c.conflicted-found.ensures.does n.0 n.1));
    plans = λ n below. let a = c.requires.node in c.tell.ensures.plans (suc n) ((c.conflicted-found.ensures.does a.0 a.1).plans n below);
  };
}
