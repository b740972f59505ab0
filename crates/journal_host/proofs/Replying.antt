-- What a node makes of what it is asked for, from what its calls promise.
use Rattle.std.proofs.Common.{◌≡◌, ◌⊎◌, inl, inr, ℕ, length, Bool, true, false, List, Option, Some, None, Result, Ok, Err, refl, sym, ap, ◌∙◌, subst}
use Rattle.std.specs.Prelude.{◌&&◌, not, IfOk, IfSome, IsErrOf, if◌then◌else◌}
use Rattle.disk_trait.specs.Calls.{DiskState}
use Rattle.conflicts.specs.declared.stored.Stored.{Stored}
use Rattle.row_value.specs.declared.fit.FitFault.{FitFault}
use Rattle.row_value.specs.Fit.{fit_of}
use Rattle.table_model.specs.declared.line.Answer.{Answer}
use Rattle.table_model.specs.declared.line.Answer.TheVariants as answers
use Rattle.table_model.specs.declared.line.RowPair.{RowPair}
use Rattle.step_tables.specs.Slots.{Main}
use Rattle.step_tables.specs.Slots.{Shadow}
use Rattle.step_tables.specs.Facts as facts
use Rattle.step_tables.specs.Lines.{answer_of}
use Rattle.step_tables.specs.Messages.{Header, Message, SyncRequest, SyncResponse, PullRequest, PullResponse, TornRowRequest, TornRowResponse}
use Rattle.step_tables.specs.Travels.{message_of}
use Rattle.step_tables.specs.ClientMoves.{Slots, ClientDisk, ClientTask, TableDisk, Client, ClientMove, Shape, Next, ResolveAll, Take, all_in, all_step, client_step, is_cut_off, kept_out, pairs_of, quiet, slots_of, table_at, seen}
use Rattle.client_node.specs.declared.fault.CallFault.{CallFault}
use Rattle.client_node.specs.declared.fault.CallFault.TheVariants.{Disk, Spent}
use Rattle.client_node.specs.declared.fault.CallFault.TheVariants as call
use Rattle.client_node.specs.declared.node.ClientNode.{ClientNode}
use Rattle.client_node.specs.Does.{Does, HasNoNumber}
use Rattle.client_node.specs.Linked.{linked_step, phased_step, unless_kept}
use Rattle.client_node.specs.Listing.{AreContended}
use Rattle.client_node.specs.Phases.{is_open}
use Rattle.client_node.specs.Resolving.{IsChosenBy}
use Rattle.client_node.specs.Taking.{FitsTable, FitsClient, Drops}
use Rattle.world_tables.specs.World.{client_pairs, chosen_in, chosen_of}
use Rattle.journal_host.specs.declared.asking.Request.{Request}
use Rattle.journal_host.specs.declared.asking.Request.TheVariants as requests
use Rattle.journal_host.specs.Asks.{FitsDisk, as_answer, answered_as}
use Rattle.journal_host.specs.Steps.{HasMade, HasDropped, Replies}

-- the same fault of another call
pub same_err : {S T : Type 0} (e f : CallFault) → IsErrOf {T = S} (Err e) f → IsErrOf {T = T} (Err e) f
same_err e f is = let same : e ≡ f = cc in ap (λ (x : CallFault). Err x) same

pub itself : (r : Result Answer CallFault) → r ≡ as_answer (λ x. x) r
itself (Ok x) = refl
itself (Err e) = refl

module _ {D : Type 0} (state : D → DiskState) (images : D → ℕ → List ℕ → Type 0) (s : Client) (old new : ClientNode D) where
  module _ {T : Type 0} (move : ClientMove) (said : T → facts.Answer) (gives : T → Answer) (same : (x : T) → said x ≡ answer_of (gives x)) where
    replies_as : (r : Result T CallFault) → Does state images s move said old new r → Replies state images s move old new (HasMade state s move old new) (as_answer gives r)
    replies_as (Ok x) k = record {
      done = let d = k.done in (d.0, d.1, d.2, d.3 ∙ same x);
      refused = tt;
      kept = λ is. tt;
      fallen = λ bad. absurd cc;
      counted = λ is. k.counted (λ bad. absurd cc);
      cause = λ bad. absurd cc;
      any_moment = k.any_moment;
      plans = k.plans;
    }
    replies_as (Err e) k = record {
      done = tt;
      refused = k.refused;
      kept = λ is. k.kept (λ bad. is (same_err e Disk bad));
      fallen = λ is. k.fallen (same_err e Disk is);
      counted = λ is. k.counted (λ bad. is (same_err e Disk bad));
      cause = λ is. k.cause (same_err e Disk is);
      any_moment = k.any_moment;
      plans = k.plans;
    }

    pub replies : (r : Result T CallFault) (a : Result Answer CallFault) → a ≡ as_answer gives r → Does state images s move said old new r
        → Replies state images s move old new (HasMade state s move old new) a
    replies r a is k = subst (λ (x : Result Answer CallFault). Replies state images s move old new (HasMade state s move old new) x) (sym is) (replies_as r k)

    spent_as : (r : Result T CallFault) → Does state images s move said old new r → (last : ℕ) → IsErrOf (as_answer gives r) (Spent last) → HasNoNumber state old s.disk
    spent_as (Ok x) k last is = absurd cc
    spent_as (Err e) k last is = (k.spent last (same_err e (Spent last) is)).1

    pub spent : (r : Result T CallFault) (a : Result Answer CallFault) → a ≡ as_answer gives r → Does state images s move said old new r → (last : ℕ) → IsErrOf a (Spent last)
        → HasNoNumber state old s.disk
    spent r a is k last err = spent_as r k last (sym is ∙ err)

  -- what a call promises of which nothing is told but what it leaves
  pub replies_any : {T : Type 0} (move : ClientMove) (said : T → facts.Answer) (gives : T → Answer) (r : Result T CallFault) → Does state images s move said old new r
      → Replies state images s move old new (λ answer. Unit {0}) (as_answer gives r)
  replies_any move said gives (Ok x) k = record {
    done = tt;
    refused = tt;
    kept = λ is. tt;
    fallen = λ bad. absurd cc;
    counted = λ is. k.counted (λ bad. absurd cc);
    cause = λ bad. absurd cc;
    any_moment = k.any_moment;
    plans = k.plans;
  }
  replies_any move said gives (Err e) k = record {
    done = tt;
    refused = k.refused;
    kept = λ is. k.kept (λ bad. is (same_err e Disk bad));
    fallen = λ is. k.fallen (same_err e Disk is);
    counted = λ is. k.counted (λ bad. is (same_err e Disk bad));
    cause = λ is. k.cause (same_err e Disk is);
    any_moment = k.any_moment;
    plans = k.plans;
  }

  pub spent_any : {T : Type 0} (move : ClientMove) (said : T → facts.Answer) (gives : T → Answer) (r : Result T CallFault) → Does state images s move said old new r → (last : ℕ)
      → IsErrOf (as_answer gives r) (Spent last) → HasNoNumber state old s.disk
  spent_any move said gives (Ok x) k last is = absurd cc
  spent_any move said gives (Err e) k last is = (k.spent last (same_err e (Spent last) is)).1

  module _ (message : Message) where
    drops_as : (r : Result (Unit {0}) CallFault) → Drops state images s message old new r
        → Replies state images s (Take message) old new (HasDropped state s old new) (as_answer (λ x. answers.Done) r)
    drops_as (Ok x) k = record {
      done = (refl, k.dropped);
      refused = tt;
      kept = λ is. tt;
      fallen = λ bad. absurd cc;
      counted = λ is. k.counted (λ bad. absurd cc);
      cause = λ bad. absurd cc;
      any_moment = k.any_moment;
      plans = k.plans;
    }
    drops_as (Err e) k = record {
      done = tt;
      refused = k.refused;
      kept = λ is. k.kept (λ bad. is (same_err e Disk bad));
      fallen = λ is. k.fallen (same_err e Disk is);
      counted = λ is. k.counted (λ bad. is (same_err e Disk bad));
      cause = λ is. k.cause (same_err e Disk is);
      any_moment = k.any_moment;
      plans = k.plans;
    }

    pub drops : (r : Result (Unit {0}) CallFault) (a : Result Answer CallFault) → a ≡ as_answer (λ x. answers.Done) r → Drops state images s message old new r
        → Replies state images s (Take message) old new (HasDropped state s old new) a
    drops r a is k = subst (λ (x : Result Answer CallFault). Replies state images s (Take message) old new (HasDropped state s old new) x) (sym is) (drops_as r k)

-- rows that are asked for are the same by another name
pub rows_same : {D : Type 0} (state : D → DiskState) (images : D → ℕ → List ℕ → Type 0) (s : Client) (old new : ClientNode D) (table : ℕ) (a b tears rows : List (List ℕ)) (r : Result (Unit {0}) CallFault) → a ≡ tears → b ≡ rows
    → Does state images s (Next table a b) (λ x. facts.Done) old new r → Does state images s (Next table tears rows) (λ x. facts.Done) old new r
rows_same state images s old new table a b tears rows r same_tears same_rows k =
    subst (λ (l : List (List ℕ)). Does {T = Unit {0}} state images s (Next table l rows) (λ x. facts.Done) old new r) same_tears
    (subst (λ (l : List (List ℕ)). Does {T = Unit {0}} state images s (Next table a l) (λ x. facts.Done) old new r) same_rows k)

-- ---- a message fits, or doesn't

fits_table : (o : Option TableDisk) (h : Option Header) → FitsTable o h ⊎ (FitsTable o h → ⊥)
fits_table None h = inl tt
fits_table (Some table) None = inl tt
fits_table (Some table) (Some header) = go (fit_of table.schema header.content)
  where
    go : (r : Result (Unit {0}) FitFault) → (r ≡ Ok tt) ⊎ ((r ≡ Ok tt) → ⊥)
    go (Ok u) = inl refl
    go (Err e) = inr (λ is. absurd cc)

fits_client : (d : ClientDisk) (message : Message) → FitsClient d message ⊎ (FitsClient d message → ⊥)
fits_client d (PullResponse pulled) = fits_table (table_at (seen d) pulled.table) pulled.header
fits_client d (SyncRequest request) = inl tt
fits_client d (SyncResponse response) = inl tt
fits_client d (PullRequest pull) = inl tt
fits_client d (TornRowRequest torn) = inl tt
fits_client d (TornRowResponse answer) = fits_table (table_at (seen d) answer.table) answer.header

pub fits_or : (d : ClientDisk) (request : Request) → FitsDisk d request ⊎ (FitsDisk d request → ⊥)
fits_or d (requests.Deliver message) = fits_client d (message_of message)
fits_or d other = inl tt

-- ---- rows in conflict, to be resolved in one way

-- a move whose answer is a number isn't kept out
phased_number : (phase : ℕ → Bool) (up : Bool) (c : ℕ) (shape : Shape) (s : Client) (move : ClientMove) (n : ℕ) → (phased_step phase up c shape s move).answer ≡ facts.Number n
    → (client_step c shape s move).answer ≡ facts.Number n
phased_number phase up c shape s move n = by (kept_out phase move (client_step c shape s move).answer)
  where
    linked : (b : Bool) → (if b then quiet s.disk s.agenda (facts.Refuses facts.Offline) else client_step c shape s move).answer ≡ facts.Number n → (client_step c shape s move).answer ≡ facts.Number n
    linked true is = absurd cc
    linked false is = is

    by : (o : Option facts.Refusal) → (unless_kept s o (linked_step up c shape s move)).answer ≡ facts.Number n → (client_step c shape s move).answer ≡ facts.Number n
    by (Some r) is = absurd cc
    by None is = linked (not up && is_cut_off c shape s move) is

-- a table whose rows were counted is opened, and these are its rows in conflict
counted_rows : (shape : Shape) (s : Client) (table : ℕ) (way : Stored) (n : ℕ) (pairs : List RowPair) → (all_step shape s.disk s.agenda table way).answer ≡ facts.Number n → AreContended s.disk table pairs
    → pairs ≡ client_pairs (Some s) table
counted_rows shape s table way n pairs is k = by (table_at (seen s.disk) table) refl k
  where
    none : table_at (seen s.disk) table ≡ None → (agenda : Option (List ClientTask)) → (all_step shape s.disk agenda table way).answer ≡ facts.Number n → ⊥
    none at None is = absurd cc
    none at (Some tasks) is =
        let same : (all_in shape s.disk tasks way None).answer ≡ facts.Number n = ap (λ (o : Option TableDisk). (all_in shape s.disk tasks way o).answer) (sym at) ∙ is in absurd cc

    by : (o : Option TableDisk) → table_at (seen s.disk) table ≡ o → IfSome o (λ opened. pairs ≡ pairs_of opened.rows) → pairs ≡ client_pairs (Some s) table
    by None at k = absurd (none at s.agenda is)
    by (Some opened) at k = rw at k

pub hands_over : {D : Type 0} (state : D → DiskState) (images : D → ℕ → List ℕ → Type 0) (s : Client) (table : ℕ) (way : Stored) (old new : ClientNode D) (r : Result (List RowPair) CallFault)
    (a : Result Answer CallFault) → a ≡ as_answer (λ (listed : List RowPair). answers.Number (length listed)) r → Does state images s (ResolveAll table way) (λ listed. facts.Number (length listed)) old new r
    → IfOk r (AreContended s.disk table) → (pairs : List RowPair) → IfOk r (λ listed. pairs ≡ listed) → (count : ℕ) → a ≡ Ok (answers.Number count) → pairs ≡ client_pairs (Some s) table
hands_over state images s table way old new (Err e) a same k rows pairs listed count is = absurd (let bad = sym same ∙ is in cc)
hands_over state images s table way old new (Ok found) a same k rows pairs listed count is =
    let x = k.done in
    listed ∙ counted_rows x.0 s table way (length found) found (phased_number (is_open old) old.is_linked old.number x.0 s (ResolveAll table way) (length found) x.3) rows

-- a number that was answered is what the node answered
pub number_was : (r : Result Answer CallFault) (count : ℕ) → answered_as r ≡ Ok (answers.Number count) → r ≡ Ok (answers.Number count)
number_was (Ok answer) count is = ap (λ (a : Answer). Ok a) (cc)
number_was (Err call.NoTable) count is = absurd cc
number_was (Err other) count is = absurd cc

-- a way chooses so of what a client keeps of a row
pub is_chosen : (way : Stored) (row : List ℕ) (s : Client) (table : ℕ) → IsChosenBy way row (slots_of (seen s.disk) table row) (chosen_of way row (Some s) table)
is_chosen way row s table main x at_main at_conflict =
    let slots : Slots = slots_of (seen s.disk) table row in
    ap (λ (m : Option Main). chosen_in way row m slots.conflict) at_main ∙ ap (λ (k : Option Shadow). chosen_in way row (Some main) k) at_conflict
