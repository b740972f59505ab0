-- What a call of one client's node promises, where it is down and where it isn't.
use Rattle.std.proofs.Common.{◌≡◌, ◌⊎◌, inl, inr, ⊎_elim, ℕ, Bool, List, Result, Ok, refl}
use Rattle.disk_trait.specs.Calls.{DiskState}
use Rattle.table_model.specs.declared.line.Answer.{Answer}
use Rattle.table_model.specs.declared.line.RowPair.{RowPair}
use Rattle.step_tables.specs.ClientMoves.{Client}
use Rattle.client_node.specs.declared.node.ClientNode.{ClientNode}
use Rattle.client_node.proofs.PlanNumbers.{next_below}
use Rattle.journal_host.specs.declared.asking.Request.{Request}
use Rattle.journal_host.specs.declared.fault.ClientFault.{ClientFault}
use Rattle.journal_host.specs.declared.out.ClientOut.{ClientOut}
use Rattle.journal_host.specs.NodeCalls.{Ends, Asked, Listed}
use Rattle.journal_host.specs.Steps.{IsFallen, IsDropped, IsDeviceFault}
use Rattle.journal_host.proofs.Shut.{if_ok}

-- where nothing has changed, and no device fault is answered
pub ends_none : {D : Type 0} (state : D → DiskState) (c : ℕ) (node : ClientNode D) (outs : List ClientOut) (answer : Answer) → (IsDeviceFault (Ok answer) → ⊥) → Ends state c node node outs outs (Ok answer)
ends_none state c node outs answer isnt = record {
  kept = λ cut s h. tt;
  cause = record { counted = λ is. refl; cause = λ bad. absurd (isnt bad) };
  plans = λ n below. next_below state n node below;
}

-- what is so in any case is so where something is
module _ (P : Type 0) where
  where_so : {A B : Type 0} → A ⊎ B → (P → A) ⊎ B
  where_so (inl a) = inl (λ p. a)
  where_so (inr b) = inr b

  module _ {D : Type 0} (state : D → DiskState) (c : ℕ) (old new : ClientNode D) (before after : List ClientOut) (found : List RowPair) (result : Result Answer ClientFault) where
    pub asked_where : (request : Request) (did_so : Bool → Client → Answer → Type 0) → Asked state c request did_so old new before after found result
        → Asked state c request (λ cut s answer. P → did_so cut s answer) old new before after found result
    asked_where request did_so k = record {
      made = λ cut s h fits. if_ok (λ answer. did_so cut s answer ⊎ IsFallen state cut c s new before after answer)
          (λ answer. (P → did_so cut s answer) ⊎ IsFallen state cut c s new before after answer) (λ answer x. where_so x) result (k.made cut s h fits);
      dropped = λ cut s h unfit. if_ok (λ answer. IsDropped state cut c s new before after answer ⊎ (did_so cut s answer ⊎ IsFallen state cut c s new before after answer))
          (λ answer. IsDropped state cut c s new before after answer ⊎ ((P → did_so cut s answer) ⊎ IsFallen state cut c s new before after answer))
          (λ answer x. ⊎_elim (λ y. inl y) (λ y. inr (where_so y)) x) result (k.dropped cut s h unfit);
      spent = k.spent;
      pairs = k.pairs;
      phases = k.phases;
      ends = k.ends;
    }

    pub listed_where : (none : List RowPair) (lists_so did_so : Bool → Client → Answer → Type 0) → Listed state c lists_so did_so old new before after none found result
        → Listed state c (λ cut s answer. P → lists_so cut s answer) (λ cut s answer. P → did_so cut s answer) old new before after none found result
    listed_where none lists_so did_so k = record {
      listed = λ cut s h. if_ok (λ answer. lists_so cut s answer ⊎ ((found ≡ none) × (did_so cut s answer ⊎ IsFallen state cut c s new before after answer)))
          (λ answer. (P → lists_so cut s answer) ⊎ ((found ≡ none) × ((P → did_so cut s answer) ⊎ IsFallen state cut c s new before after answer)))
          (λ answer x. ⊎_elim (λ y. inl (λ p. y)) (λ y. inr (y.0, where_so y.1)) x) result (k.listed cut s h);
      spent = k.spent;
      phases = k.phases;
      ends = k.ends;
    }
