use Rattle.std.proofs.Common.{sym, ap, ⊎_elim, arith, true≢false}
use Rattle.table_model.specs.declared.entry.Entry.{Entry}
use Rattle.step_tables.proofs.Lists.{among_cons, among_none}
use Rattle.world_laws.proofs.a_fact_told_twice_is_refused.Goals as goal

pub returns-clause-wrote : goal.returns-clause-wrote
returns-clause-wrote c = λ sound. ⊎_elim (λ n. absurd (let e = n.0 in omega arith)) (λ a. true≢false (sym a.0)) sound.3.2.1.1.0

pub returns-clause-accepted : goal.returns-clause-accepted
returns-clause-accepted c = λ sound. ⊎_elim (λ n. absurd (let e = n.next in omega arith)) (λ a. true≢false (sym a.0)) sound.3.2.1.1.1.0

pub returns-clause-acked : goal.returns-clause-acked
returns-clause-acked c = λ sound. ⊎_elim (λ n. true≢false n.0) (λ a. true≢false (sym a.0)) sound.3.2.1.1.1.1.0.1

pub returns-clause-below : goal.returns-clause-below
returns-clause-below c = λ sound. ⊎_elim (λ n. true≢false n.0) (λ a. true≢false (sym a.0)) sound.3.2.1.1.1.1.1.1.1.0.1

pub returns-clause-refused : goal.returns-clause-refused
returns-clause-refused c = λ sound. ⊎_elim (λ n. true≢false n) (λ a. true≢false (sym a.0)) sound.3.2.1.1.1.1.1.0.2

pub returns-clause-conflict : goal.returns-clause-conflict
returns-clause-conflict c = λ sound. ⊎_elim (λ up. absurd (let e = up in omega arith)) (λ a. true≢false (sym a.0)) sound.3.2.1.1.1.1.1.0.1

pub returns-clause-resolved : goal.returns-clause-resolved
returns-clause-resolved c = λ sound. ⊎_elim (λ n. absurd (let e = n.1 in cc)) (λ a. true≢false (sym a.0)) sound.3.2.1.1.1.1.1.1.0.1

pub returns-clause-read : goal.returns-clause-read
returns-clause-read c = λ sound.
    let k = sound.3.2.1.1.1.1.0 in
    ⊎_elim (λ up. ⊎_elim (λ less. absurd (let e = less in omega arith)) (λ a. true≢false (sym a.0)) up)
    (λ own. ⊎_elim (λ e. absurd (let mine = own.0 in let one = ap (λ (x : Entry). x.client) e in omega arith)) (λ z. among_none _ z) (among_cons _ _ _ k.1.stands)) k.2

pub returns-clause-position : goal.returns-clause-position
returns-clause-position c = λ sound. ⊎_elim (λ up. absurd (let e = up in omega arith)) (λ a. true≢false (sym a.0)) sound.3.2.1.1.1.1.1.0.0
