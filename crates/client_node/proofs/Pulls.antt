-- What a pull comes to.
use Rattle.std.proofs.Common.{◌≡◌, ⊎_elim, ℕ, Bool, true, false, List, [], ◌∷◌, map, Option, Some, None, Ok, Err, refl, sym, ◌∙◌, ap}
use Rattle.disk_trait.specs.Calls.{DiskState}
use Rattle.slot_store.specs.declared.held.TableRecord.{TableRecord}
use Rattle.client_journal.specs.declared.devs.Journal.{Journal}
use Rattle.client_journal.specs.Plan.{plan_at_work}
use Rattle.client_journal.specs.Standing.{devs, writes_of}
use Rattle.step_tables.specs.Facts.{Answer, Fact, Refusal}
use Rattle.step_tables.specs.Facts as facts
use Rattle.step_tables.specs.Messages.{Send}
use Rattle.step_tables.specs.ClientMoves.{TableDisk, ClientDisk, ClientTask, ClientStep, ClientMove, Shape, Next, next_in, table_at, seen, next_from, torn_from}
use Rattle.client_node.specs.declared.fault.CallFault.{CallFault}
use Rattle.client_node.specs.declared.fault.CallFault.TheVariants as call
use Rattle.client_node.specs.Answers.{record_at, IsFault}
use Rattle.client_node.specs.Does.{refusal_in}
use Rattle.client_node.specs.Linked.{linked_step}
use Rattle.client_node.specs.Sending.{with_tasks, sending, AreTasksOf, Sends}
use Rattle.client_node.specs.Node.{StandsFor}
use Rattle.client_node.proofs.Answering.{as_err, of_err}
use Rattle.client_node.proofs.Links.{linked_by, before_link, link_up, link_down, opened_is, unopened_is}

-- a fault is no refusal
pub no_refusal : (e : CallFault) (refusal : Refusal) {P : Type 0} → IsFault e → refusal_in e ≡ Some refusal → P
no_refusal e refusal fault is = absurd (⊎_elim (λ disk. let no : None ≡ Some refusal = ap refusal_in (sym disk) ∙ is in cc) (λ memory. let no : None ≡ Some refusal = ap refusal_in (sym memory) ∙ is in cc) fault)

pub same_refusal : (e f : CallFault) (refusal what : Refusal) → e ≡ f → refusal_in f ≡ Some what → refusal_in e ≡ Some refusal → what ≡ refusal
same_refusal e f refusal what same is was = let both : Some what ≡ Some refusal = sym is ∙ (ap refusal_in (sym same) ∙ was) in cc

-- where some rows are asked for whole, nothing else is
pub asks_rows : (c table position : ℕ) (asks : List (List ℕ)) → (asks ≡ [] → ⊥) → next_from c table position asks ≡ map (torn_from c table) asks
asks_rows c table position [] some = absurd (some refl)
asks_rows c table position (row ∷ rows) some = refl

module _ {D : Type 0} (state : D → DiskState) (old : Journal D) (up : Bool) (c table : ℕ) (tears asks : List (List ℕ)) where
  abbrev said : {T : Type 0} → T → Answer
  said x = facts.Done

  abbrev step_in : ClientDisk → List ClientTask → Shape → Option TableDisk → ClientStep
  step_in disk tasks shape o = linked_by up disk (Some tasks) (next_in c shape disk tasks table tears asks o)

  step_is : (disk : ClientDisk) (tasks : List ClientTask) (shape : Shape) → linked_step up c shape (with_tasks disk tasks) (Next table tears asks) ≡ step_in disk tasks shape (table_at (seen disk) table)
  step_is disk tasks shape = refl

  -- a disk fault, or want of memory
  pub pull_fault : {T : Type 0} (told : T → List Fact) (sent : T → List Send) (e : CallFault) → IsFault e → Sends {T = T} state old up c (Next table tears asks) said told sent (Err e)
  pull_fault told sent e fault = record { answered = λ disk tasks shape st of work refusal is. no_refusal e refusal fault is; done = λ disk tasks shape st of. tt; unspent = λ last is. ⊎_elim (λ disk. let same : e ≡ call.Spent last = cc in cc) (λ memory. let same : e ≡ call.Spent last = cc in cc) fault }

  pub pull_closed : {T : Type 0} (told : T → List Fact) (sent : T → List Send) (e : CallFault) → e ≡ call.NoTable → record_at (devs state old) table ≡ None → Sends {T = T} state old up c (Next table tears asks) said told sent (Err e)
  pull_closed told sent e same none = record {
    answered = λ disk tasks shape st of work refusal is.
        let what : facts.NoTable ≡ refusal = same_refusal e call.NoTable refusal facts.NoTable same refl is in
        let at = unopened_is c (devs state old) disk st table none in
        ap (λ (o : Option TableDisk). (step_in disk tasks shape o).answer) at
        ∙ (ap (λ (x : ClientStep). x.answer) (before_link up disk (Some tasks) (next_in c shape disk tasks table tears asks None) refl) ∙ ap (λ (r : Refusal). facts.Refuses r) what);
    done = λ disk tasks shape st of. tt;
    unspent = λ last is. cc;
  }

  module _ (found : TableRecord) (opened : record_at (devs state old) table ≡ Some found) where
    pub pull_busy : {T : Type 0} (told : T → List Fact) (sent : T → List Send) (e : CallFault) → (writes_of old ≡ [] → ⊥) → e ≡ call.Busy (plan_at_work (devs state old) (writes_of old)) → Sends {T = T} state old up c (Next table tears asks) said told sent (Err e)
    pull_busy told sent e busy same = record {
      answered = λ disk tasks shape st of work refusal is.
          let what : facts.Busy (plan_at_work (devs state old) (writes_of old)) ≡ refusal = same_refusal e (call.Busy (plan_at_work (devs state old) (writes_of old))) refusal (facts.Busy (plan_at_work (devs state old) (writes_of old))) same refl is in
          let at = opened_is c (devs state old) disk st table found opened in
          ap (λ (o : Option TableDisk). (step_in disk tasks shape o).answer) at.1 ∙ (at_work disk tasks shape at.0 (λ none. busy (of.some none)) ∙ (ap (λ (n : ℕ). facts.Refuses (facts.Busy n)) work ∙ ap (λ (r : Refusal). facts.Refuses r) what));
      done = λ disk tasks shape st of. tt;
      unspent = λ last is. cc;
    }
      where
        at_work : (disk : ClientDisk) (tasks : List ClientTask) (shape : Shape) (t : TableDisk) → (tasks ≡ [] → ⊥) → (step_in disk tasks shape (Some t)).answer ≡ facts.Refuses (facts.Busy shape.plan)
        at_work disk [] shape t some = absurd (some refl)
        at_work disk (task ∷ more) shape t some = ap (λ (x : ClientStep). x.answer) (before_link up disk (Some (task ∷ more)) (next_in c shape disk (task ∷ more) table tears asks (Some t)) refl)

    module _ (idle : writes_of old ≡ []) where
      pub pull_offline : {T : Type 0} (told : T → List Fact) (sent : T → List Send) (e : CallFault) → up ≡ false → e ≡ call.Offline → Sends {T = T} state old up c (Next table tears asks) said told sent (Err e)
      pull_offline told sent e down same = record {
        answered = λ disk tasks shape st of work refusal is.
            let what : facts.Offline ≡ refusal = same_refusal e call.Offline refusal facts.Offline same refl is in
            let at = opened_is c (devs state old) disk st table found opened in
            ap (λ (o : Option TableDisk). (step_in disk tasks shape o).answer) at.1 ∙ (ap (λ (l : List ClientTask). (step_in disk l shape (Some at.0)).answer) (of.none idle)
            ∙ (ap (λ (x : ClientStep). x.answer) (link_down up disk (Some []) (next_in c shape disk [] table tears asks (Some at.0)) down refl) ∙ ap (λ (r : Refusal). facts.Refuses r) what));
        done = λ disk tasks shape st of. tt;
        unspent = λ last is. cc;
      }

      pub pull_sent : {T : Type 0} (told : T → List Fact) (sent : T → List Send) (x : T) → up ≡ true → told x ≡ map (facts.Torn c table) tears → sent x ≡ next_from c table found.position asks → Sends {T = T} state old up c (Next table tears asks) said told sent (Ok x)
      pull_sent told sent x is_up tells sends = record {
        answered = λ disk tasks shape st of work. ap (λ (y : ClientStep). y.answer) (pulled disk tasks shape st of);
        done = λ disk tasks shape st of. (of.none idle, pulled disk tasks shape st of);
        unspent = λ last is. cc;
      }
        where
          pulled : (disk : ClientDisk) (tasks : List ClientTask) (shape : Shape) → StandsFor c (devs state old) disk → AreTasksOf (writes_of old) tasks → linked_step up c shape (with_tasks disk tasks) (Next table tears asks) ≡ sending disk facts.Done (told x) (sent x)
          pulled disk tasks shape st of =
              let at = opened_is c (devs state old) disk st table found opened in
              ap (λ (o : Option TableDisk). step_in disk tasks shape o) at.1 ∙ (ap (λ (l : List ClientTask). step_in disk l shape (Some at.0)) (of.none idle)
              ∙ (link_up up disk (Some []) (next_in c shape disk [] table tears asks (Some at.0)) is_up
              ∙ (ap (λ (n : ℕ). sending disk facts.Done (map (facts.Torn c table) tears) (next_from c table n asks)) (sym at.2.position)
              ∙ (ap (λ (l : List Send). sending disk facts.Done (map (facts.Torn c table) tears) l) (sym sends) ∙ ap (λ (l : List Fact). sending disk facts.Done l (sent x)) (sym tells)))))

-- ---- a call that another one stands before

module _ {D : Type 0} (state : D → DiskState) (old : Journal D) (up : Bool) (c : ℕ) (move : ClientMove) {S T : Type 0} (said : S → Answer) (told : S → List Fact) (sent : S → List Send) (says : T → Answer) (tells : T → List Fact) (sends : T → List Send) where
  -- where that is refused, so is this
  pub sends_err : (e : CallFault) → Sends state old up c move said told sent (Err e) → Sends state old up c move says tells sends (Err e)
  sends_err e k = record { answered = k.answered; done = λ disk tasks shape st of. tt; unspent = λ last is. k.unspent last (as_err e (call.Spent last) (of_err e (call.Spent last) is)) }

  -- where it is done, this answers, tells and sends what is said of it
  pub sends_ok : (x : S) (y : T) → said x ≡ says y → told x ≡ tells y → sent x ≡ sends y → Sends state old up c move said told sent (Ok x) → Sends state old up c move says tells sends (Ok y)
  sends_ok x y same_answer same_facts same_sends k = record {
    answered = λ disk tasks shape st of work. k.answered disk tasks shape st of work ∙ same_answer;
    done = λ disk tasks shape st of.
        let z = k.done disk tasks shape st of in
        (z.0, z.1 ∙ (ap (λ (a : Answer). sending disk a (told x) (sent x)) same_answer ∙ (ap (λ (l : List Fact). sending disk (says y) l (sent x)) same_facts ∙ ap (λ (l : List Send). sending disk (says y) (tells y) l) same_sends)));
    unspent = λ last is. cc;
  }
