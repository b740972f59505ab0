-- A table's part stays where more writes are known, and what it tells only adds items.
use Rattle.std.proofs.Common.{◌++◌, ℕ, Bool, List, [], ◌∷◌, Option, Some, None, inl, inr}
use Rattle.row_value.specs.declared.content.Content.{Content}
use Rattle.row_value.specs.declared.schema.Scheme.{Scheme}
use Rattle.step_tables.specs.Store.{Stored}
use Rattle.step_tables.specs.Facts.{Fact}
use Rattle.step_tables.specs.Messages.{Response, Outcome, Message, Send, SyncRequest, SyncResponse, PullRequest, PullResponse, TornRowRequest, TornRowResponse}
use Rattle.step_tables.specs.Messages as messages
use Rattle.step_tables.specs.Sayings.{Saying, SaysNothing, SaysEntry, SaysBack, saying}
use Rattle.step_tables.specs.StoreMoves.{StoreDisk, StoreTask, TableStore, changed}
use Rattle.world_tables.specs.Again.{may_repeat}
use Rattle.store_laws.specs.Part.{Known, IsLawful, IsNext, Tells, TellsAll, IsLate, IsOutcome, IsAnswer, Answers, IsResting, Runs, IsAt, StorePart}

-- what survives one more item survives all that is told
module _ (g : Scheme) (table : ℕ) (K : Known) (P : List Stored → Type 0) (step : (h : List Stored) (i : Stored) → IsNext g K h i → P h → P (h ++ i ∷ [])) where
  tells_along : (h : List Stored) (again : Bool) (s : Saying) (later : List Stored) → Tells g table K h again s later → P h → P later
  tells_along h again SaysNothing later k p = rw k p
  tells_along h again (SaysEntry number entry) later (n, inl k) p = rw k.3 (step h k.0 k.2 p)
  tells_along h again (SaysEntry number entry) later (n, inr k) p = rw k.1 p
  tells_along h again (SaysBack number version) later k p = rw k.2 p
  tells_along h again other later k p = absurd k

  pub along : (h : List Stored) (some : List Fact) (later : List Stored) → TellsAll g table K h some later → P h → P later
  along h [] later k p = rw k p
  along h (fact ∷ more) later k p = along k.0 more later k.2 (tells_along h (may_repeat fact) (saying fact) k.0 k.1 p)

-- more that is known
module _ (g : Scheme) (table : ℕ) (K L : Known) (more : (c : ℕ) (row : List ℕ) (n b : ℕ) (x : Content) → K c row n b x → L c row n b x) where
  pub next_knows : (h : List Stored) (i : Stored) → IsNext g K h i → IsNext g L h i
  next_knows h i k = record {
    next = k.next;
    known = more i.entry.client i.entry.row i.entry.number i.entry.base i.content k.known;
    based = k.based;
    over = k.over;
    rises = k.rises;
  }

  pub lawful_knows : (h : List Stored) → IsLawful g K h → IsLawful g L h
  lawful_knows h l = record {
    counted = l.counted;
    known = λ i a. more i.entry.client i.entry.row i.entry.number i.entry.base i.content (l.known i a);
    based = l.based;
    over = l.over;
    rises = l.rises;
  }

  tells_knows : (h : List Stored) (again : Bool) (s : Saying) (later : List Stored) → Tells g table K h again s later → Tells g table L h again s later
  tells_knows h again SaysNothing later k = k
  tells_knows h again (SaysEntry number entry) later (n, inl k) = (n, inl (k.0, k.1, next_knows h k.0 k.2, k.3))
  tells_knows h again (SaysEntry number entry) later (n, inr k) = (n, inr k)
  tells_knows h again (SaysBack number version) later k = k
  tells_knows h again other later k = absurd k

  all_know : (h : List Stored) (some : List Fact) (later : List Stored) → TellsAll g table K h some later → TellsAll g table L h some later
  all_know h [] later k = k
  all_know h (fact ∷ others) later k = (k.0, tells_knows h (may_repeat fact) (saying fact) k.0 k.1, all_know k.0 others later k.2)

  late_knows : (h : List Stored) (c : ℕ) (row : List ℕ) (n last : ℕ) → IsLate K h c row n last → IsLate L h c row n last
  late_knows h c row n last k = record {
    base = k.base;
    content = k.content;
    known = more c row n k.base k.content k.known;
    below = k.below;
    item = k.item;
    is = k.is;
    none = k.none;
  }

  outcome_knows : (h : List Stored) (response : Response) (outcome : Outcome) → IsOutcome g K h response outcome → IsOutcome g L h response outcome
  outcome_knows h response (messages.Accepted version) k = k
  outcome_knows h response (messages.Again version) k = k
  outcome_knows h response (messages.Late last) k = k
  outcome_knows h response (messages.Stale last) k = (k.0, late_knows h response.client response.row response.number last k.1)
  outcome_knows h response (messages.Conflict last) k = (k.0, late_knows h response.client response.row response.number last k.1)
  outcome_knows h response messages.NeedWhole k = k

  answers_know : (h : List Stored) (sends : List Send) → Answers g table K h sends → Answers g table L h sends
  answers_know h [] a = tt
  answers_know h (send ∷ sends) a = (one send.message a.0, answers_know h sends a.1)
    where
      one : (message : Message) → IsAnswer g table K h send.to message → IsAnswer g table L h send.to message
      one (SyncRequest request) k = k
      one (PullRequest pull) k = k
      one (SyncResponse response) k = (k.0, k.1, outcome_knows h response response.outcome k.2)
      one (PullResponse pulled) k = k
      one (TornRowRequest torn) k = k
      one (TornRowResponse answer) k = k

  resting_knows : (h : List Stored) (d : StoreDisk) → IsResting g K h d → IsResting g L h d
  resting_knows h d (inl k) = inl k
  resting_knows h d (inr u) = inr (record { item = u.item; pending = u.pending; items = u.items; next = next_knows h u.item u.next })

  runs_know : (h : List Stored) (d : StoreDisk) (agenda : List StoreTask) → Runs g table K h d agenda → Runs g table L h d agenda
  runs_know h d [] p = p
  runs_know h d (task ∷ tasks) p = (
    p.0,
    resting_knows h (changed d task.change) p.1,
    (p.2.0, all_know h task.facts p.2.0 p.2.1, answers_know p.2.0 task.sends p.2.2, runs_know p.2.0 (changed d task.change) tasks p.2.3),
  )

  at_knows : (h : List Stored) (d : StoreDisk) (agenda : Option (List StoreTask)) → IsAt g table K h d agenda → IsAt g table L h d agenda
  at_knows h d None p = resting_knows h d p
  at_knows h d (Some agenda) p = runs_know h d agenda p

  pub store_knows : (h : List Stored) (s : TableStore) → StorePart g table K h s → StorePart g table L h s
  store_knows h s p = record { lawful = lawful_knows h p.lawful; state = at_knows h s.disk s.agenda p.state }
