use Rattle.std.proofs.Common.{◌≡◌, inl, inr, Bool, true, false, Some, None, Ok, refl, sym, ap, ◌∙◌}
use Rattle.std.specs.Prelude.{not}
use Rattle.step_tables.specs.ClientMoves.{Shape}
use Rattle.step_tables.specs.Lines.{answer_of}
use Rattle.world_tables.specs.World.{closed_answer}
use Rattle.client_node.specs.Node.{HasPlansBelow}
use Rattle.client_node.specs.Phases.{is_open}
use Rattle.client_node.proofs.PlanNumbers.{next_below}
use Rattle.journal_host.specs.Asks.{asked_by}
use Rattle.journal_host.specs.Phases.{answer_in}
use Rattle.journal_host.specs.Steps.{IsShut}
use Rattle.journal_host.proofs.Shut.{up_still, hosted_still, not_disk, ok_so, on_so, open_same, cause_then, looks_err, shut_made, fault_falls, fault_spent}
use Rattle.journal_host.proofs.Shut.{fault_kept, fault_cause, open_all, open_dropped, moves_then, cut_is, shut_no_number, shut_moves, shut_cause, fault_no_number, fault_moves}
use Rattle.journal_host.proofs.hosted.call_guarded.Goals as goal

pub call_up-requires : goal.call_up-requires
call_up-requires g c =
    let st = g.D.Disk.state in
    let old = c.args.node.now in
    let found = c.is_shut.result in
    let mid = c.is_shut.new.node in
    let here = (c.in-Ok-false.is ∙ ap (λ (b : Bool). Ok b) c.in-Ok-false.field-0-test) in
    let n = c.requires.node in
    let k = c.is_shut.ensures.looks n.0 n.1 in
    record { node = c.is_shut.ensures.node; up = up_still st n.0 old mid found false here k n.1 c.requires.up; may = c.requires.may }

pub shut_answer-requires : goal.shut_answer-requires
shut_answer-requires g c = c.is_shut.ensures.node

pub returns-in-Ok-false : goal.returns-in-Ok-false
returns-in-Ok-false g c =
    let number = c.args.client in
    let st = g.D.Disk.state in
    let old = c.args.node.now in
    let before = c.args.outs.now.items in
    let found = c.is_shut.result in
    let mid = c.is_shut.new.node in
    let new = c.call_up.new.node in
    let after = c.call_up.new.outs.items in
    let here = (c.in-Ok-false.is ∙ ap (λ (b : Bool). Ok b) c.in-Ok-false.field-0-test) in
    record {
      made = λ cut s h fits.
          let k = c.is_shut.ensures.looks s h.client in
          let there = (hosted_still st cut number s old mid h found false here k) in
          let same = (open_same st s old mid c.is_shut.ensures.phases (up_still st s old mid found false here k h.client c.requires.up)) in
          let free = (ok_so (IsShut s (asked_by (Some s) c.args.request)) found false here (c.is_shut.ensures.shut s h.client)) in
          open_all st cut number s old mid h new before after (asked_by (Some s) c.args.request) same free c.call_up.result
          (c.call_up.ensures.made cut s there fits);
      dropped = λ cut s h unfit.
          let k = c.is_shut.ensures.looks s h.client in
          let there = (hosted_still st cut number s old mid h found false here k) in
          let same = (open_same st s old mid c.is_shut.ensures.phases (up_still st s old mid found false here k h.client c.requires.up)) in
          let free = (ok_so (IsShut s (asked_by (Some s) c.args.request)) found false here (c.is_shut.ensures.shut s h.client)) in
          open_dropped st cut number s old mid h new before after (asked_by (Some s) c.args.request) same free c.call_up.result
          (c.call_up.ensures.dropped cut s there unfit);
      spent = λ cut s n h below fits.
          let k = c.is_shut.ensures.looks s h.client in
          c.call_up.ensures.spent cut s n (hosted_still st cut c.args.client s old mid h found false here k)
          (on_so (HasPlansBelow st n mid) found false here (c.is_shut.ensures.plans n below)) fits;
      pairs = λ cut s count h is.
          let k = c.is_shut.ensures.looks s h.client in
          c.call_up.ensures.pairs cut s count (hosted_still st cut c.args.client s old mid h found false here k) is;
      phases = λ s.
          let n = c.requires.node in
          let k = c.is_shut.ensures.looks n.0 n.1 in
          moves_then st n.0 old mid new (asked_by s c.args.request) (answer_in c.call_up.result)
          (open_same st n.0 old mid c.is_shut.ensures.phases (up_still st n.0 old mid found false here k n.1 c.requires.up)) (c.call_up.ensures.phases s);
      ends = record {
        kept = λ cut s h.
            let k = c.is_shut.ensures.looks s h.client in
            c.call_up.ensures.ends.kept cut s (hosted_still st cut c.args.client s old mid h found false here k);
        cause =
            let n = c.requires.node in
            let k = c.is_shut.ensures.looks n.0 n.1 in
            cause_then st n.0 old mid new c.call_up.result (k.counted (not_disk found false here)) c.call_up.ensures.ends.cause;
        plans = λ n below.
            c.call_up.ensures.ends.plans n (on_so (HasPlansBelow st n mid) found false here (c.is_shut.ensures.plans n below));
      };
    }

pub returns-in-Ok-true : goal.returns-in-Ok-true
returns-in-Ok-true g c =
    let number = c.args.client in
    let st = g.D.Disk.state in
    let old = c.args.node.now in
    let before = c.args.outs.now.items in
    let said = c.shut_answer.result in
    let found = c.is_shut.result in
    let mid = c.is_shut.new.node in
    let here = (c.in-Ok-true.is ∙ ap (λ (b : Bool). Ok b) c.in-Ok-true.field-0-test) in
    record {
      made = λ cut s h fits.
          let k = c.is_shut.ensures.looks s h.client in
          let there = (hosted_still st cut number s old mid h found true here k) in
          let closed = (ok_so (IsShut s (asked_by (Some s) c.args.request)) found true here (c.is_shut.ensures.shut s h.client)) in
          inl (shut_made st cut number s old mid h before before refl (is_open old) (asked_by (Some s) c.args.request) said closed there
          (cut_is st cut number s mid there (λ b. (shape : Shape) × (closed_answer shape b s.agenda (asked_by (Some s) c.args.request) ≡ answer_of said)) (c.shut_answer.ensures s (Some s) there.client)));
      dropped = λ cut s h unfit.
          let k = c.is_shut.ensures.looks s h.client in
          let there = (hosted_still st cut number s old mid h found true here k) in
          let closed = (ok_so (IsShut s (asked_by (Some s) c.args.request)) found true here (c.is_shut.ensures.shut s h.client)) in
          inr (inl (shut_made st cut number s old mid h before before refl (is_open old) (asked_by (Some s) c.args.request) said closed there
          (cut_is st cut number s mid there (λ b. (shape : Shape) × (closed_answer shape b s.agenda (asked_by (Some s) c.args.request) ≡ answer_of said)) (c.shut_answer.ensures s (Some s) there.client))));
      spent = λ cut s n h below fits. tt;
      pairs = λ cut s count h is.
          let n = c.is_shut.ensures.node in
          absurd (shut_no_number old mid (not mid.is_linked) n.0.agenda (asked_by (Some s) c.args.request) said (c.shut_answer.ensures n.0 (Some s) n.1) count is);
      phases = λ s.
          let n = c.is_shut.ensures.node in
          shut_moves old mid (not mid.is_linked) n.0.agenda (asked_by s c.args.request) said (c.shut_answer.ensures n.0 s n.1) c.is_shut.ensures.phases;
      ends = record {
        kept = λ cut s h. tt;
        cause =
            let a = c.requires.node in
            let n = c.is_shut.ensures.node in
            let k = c.is_shut.ensures.looks a.0 a.1 in
            shut_cause old mid (not mid.is_linked) n.0.agenda (asked_by None c.args.request) said (c.shut_answer.ensures n.0 None n.1) st (k.counted (not_disk found true here));
        plans = λ n below.
            next_below st n mid (on_so (HasPlansBelow st n mid) found true here (c.is_shut.ensures.plans n below));
      };
    }

pub returns-in-Err : goal.returns-in-Err
returns-in-Err g c =
    let st = g.D.Disk.state in
    let old = c.args.node.now in
    let before = c.args.outs.now.items in
    let found = c.is_shut.result in
    let mid = c.is_shut.new.node in
    record {
      made = λ cut s h fits.
          let k = looks_err st s old mid {T = Bool} found c.in-Err.fault c.in-Err.is (c.is_shut.ensures.looks s h.client) in
          rw c.answered.ensures (fault_falls st cut c.args.client s old mid h before before refl c.in-Err.fault k _ (λ answer x. inr x));
      dropped = λ cut s h unfit.
          let k = looks_err st s old mid {T = Bool} found c.in-Err.fault c.in-Err.is (c.is_shut.ensures.looks s h.client) in
          rw c.answered.ensures (fault_falls st cut c.args.client s old mid h before before refl c.in-Err.fault k _ (λ answer x. inr (inr x)));
      spent = λ cut s n h below fits.
          let k = looks_err st s old mid {T = Bool} found c.in-Err.fault c.in-Err.is (c.is_shut.ensures.looks s h.client) in
          rw c.answered.ensures (fault_spent st s old mid c.in-Err.fault k n (Some s));
      pairs = λ cut s count h is.
          let k = looks_err st s old mid {T = Bool} found c.in-Err.fault c.in-Err.is (c.is_shut.ensures.looks s h.client) in
          absurd (fault_no_number st s old mid c.in-Err.fault k count (sym c.answered.ensures ∙ is));
      phases = λ s.
          rw c.answered.ensures (fault_moves old mid (asked_by s c.args.request) c.in-Err.fault c.is_shut.ensures.phases);
      ends = record {
        kept = λ cut s h.
            let k = looks_err st s old mid {T = Bool} found c.in-Err.fault c.in-Err.is (c.is_shut.ensures.looks s h.client) in
            rw c.answered.ensures (fault_kept st cut c.args.client s old mid h before before refl c.in-Err.fault k);
        cause =
            let n = c.requires.node in
            let k = looks_err st n.0 old mid {T = Bool} found c.in-Err.fault c.in-Err.is (c.is_shut.ensures.looks n.0 n.1) in
            rw c.answered.ensures (fault_cause st n.0 old mid c.in-Err.fault k);
        plans = λ n below. let a = c.requires.node in (c.is_shut.ensures.looks a.0 a.1).plans n below;
      };
    }
