-- A call of the world as a step, and the faults that come of it.
use Rattle.std.proofs.Common.{◌≡◌, ◌≢◌, ◌⊎◌, ⊎_elim, ℕ, suc, ◌+◌, ◌≤◌, List, Option, Result, Ok, Err, refl, sym, ◌∙◌, ap, subst, arith, Bool}
use Rattle.std.specs.Prelude.{IfOk, IfErr}
use Rattle.disk_trait.specs.Calls.{DiskState, IsCounted}
use Rattle.table_model.specs.declared.event.Event.{Event}
use Rattle.table_model.specs.declared.event.Event.TheVariants as events
use Rattle.world_tables.specs.World as moves
use Rattle.node_steps.specs.declared.fault.WorldFault.{WorldFault}
use Rattle.node_steps.specs.declared.fault.WorldFault.TheVariants.{Memory, Limit, Depot}
use Rattle.node_steps.specs.declared.told.Told.{Told}
use Rattle.node_steps.specs.declared.world.World.{World}
use Rattle.node_steps.specs.Steps.{HavePlansBelow, IsStep, may_begin}
use Rattle.world_laws.specs.Begun.{IsSingle}
use Rattle.journal_host.specs.declared.host.ClientHost.{ClientHost}
use Rattle.journal_host.specs.Holds as hosts

-- ---- steps

-- the tables are those of the event
pub joins_as : {D : Type 0} (state : D → DiskState) (images : D → ℕ → List ℕ → Type 0) (w : moves.World) (c : ℕ) (gate : Option ℕ) (made tables : List ℕ) (is_out : ℕ → Bool) (old new : World D)
    (result : Result Told WorldFault) → made ≡ tables → IfOk result (λ told. IsStep state images w (events.Client c gate made) told is_out old new)
    → IfOk result (λ told. IsStep state images w (events.Client c gate tables) told is_out old new)
joins_as state images w c gate made tables is_out old new result same k =
    subst (λ (ts : List ℕ). IfOk result (λ told. IsStep state images w (events.Client c gate ts) told is_out old new)) same k

-- ---- plans

pub nodes_same : {D : Type 0} (old new : World D) → new.clients ≡ old.clients → new.clients.clients ≡ old.clients.clients
nodes_same {D} old new same = ap (λ (host : ClientHost D). host.clients) same

-- more may have been begun
pub plans_later : {D : Type 0} (state : D → DiskState) (n : ℕ) (world : World D) → HavePlansBelow state n world → HavePlansBelow state (suc n) world
plans_later state n world k = λ c node at is. let few = k c node at is in omega (arith, few)

pub plans_kept : {D : Type 0} (state : D → DiskState) (n : ℕ) (old new : World D) → new.clients ≡ old.clients → HavePlansBelow state n old → HavePlansBelow state (suc n) new
plans_kept {D} state n old new same k =
    subst (λ (host : ClientHost D). hosts.HavePlansBelow state (suc n) host.clients) (sym same) (plans_later state n old k)

-- one at most, and one at least
pub one_begun : {D : Type 0} (state : D → DiskState) (w : moves.World) (event : Event) (n : ℕ) (world : World D) → may_begin w event ≡ 1 → HavePlansBelow state (suc n) world
    → HavePlansBelow state (may_begin w event + n) world
one_begun state w event n world is k = λ c node at. let few = k c node at in λ declared. let most = few declared in omega (arith, most, is)

may_begin_one : (w : moves.World) (event : Event) → 1 ≤ may_begin w event
may_begin_one w (events.ResolveAll c table by) = omega arith
may_begin_one w other = omega arith

pub least_begun : {D : Type 0} (state : D → DiskState) (w : moves.World) (event : Event) (n : ℕ) (world : World D) → HavePlansBelow state n world
    → HavePlansBelow state (may_begin w event + n) world
least_begun state w event n world k = λ c node at. let few = k c node at in λ declared. let most = few declared in let one = may_begin_one w event in omega (arith, most, one)

-- ---- faults

module _ (result : Result Told WorldFault) where
  pub memory_limit : IfErr result (λ e. e ≡ Memory) → (Q : ℕ → ℕ → Type 0) → IfErr result (λ e. (code count : ℕ) → e ≡ Limit code count → Q code count)
  memory_limit k Q = go result k
    where
      go : (r : Result Told WorldFault) → IfErr r (λ e. e ≡ Memory) → IfErr r (λ e. (code count : ℕ) → e ≡ Limit code count → Q code count)
      go (Ok told) k = tt
      go (Err e) k = λ code count is. let both : Memory ≡ Limit code count = sym k ∙ is in absurd cc

  pub either_limit : IfErr result (λ e. (e ≡ Depot) ⊎ (e ≡ Memory)) → (Q : ℕ → ℕ → Type 0) → IfErr result (λ e. (code count : ℕ) → e ≡ Limit code count → Q code count)
  either_limit k Q = go result k
    where
      go : (r : Result Told WorldFault) → IfErr r (λ e. (e ≡ Depot) ⊎ (e ≡ Memory)) → IfErr r (λ e. (code count : ℕ) → e ≡ Limit code count → Q code count)
      go (Ok told) k = tt
      go (Err e) k = λ code count is. ⊎_elim (λ (d : e ≡ Depot). let both : Depot ≡ Limit code count = sym d ∙ is in absurd cc)
          (λ (m : e ≡ Memory). let both : Memory ≡ Limit code count = sym m ∙ is in absurd cc) k

  pub other_counted : IfErr result (λ e. e ≢ Depot) → (n : ℕ) → IsCounted Depot n n result
  other_counted k n = go result k
    where
      go : (r : Result Told WorldFault) → IfErr r (λ e. e ≢ Depot) → IsCounted Depot n n r
      go (Ok told) k = refl
      go (Err e) k = (λ is. absurd (k is), λ no. refl)

  pub memory_other : IfErr result (λ e. e ≡ Memory) → IfErr result (λ e. e ≢ Depot)
  memory_other k = go result k
    where
      go : (r : Result Told WorldFault) → IfErr r (λ e. e ≡ Memory) → IfErr r (λ e. e ≢ Depot)
      go (Ok told) k = tt
      go (Err e) k = λ is. let both : Memory ≡ Depot = sym k ∙ is in absurd cc

  -- a world is left as it was behind any other event than one of many plans, and where a disk can't be had
  pub left_if : (B : Type 0) (event : Event) → IfErr result (λ e. e ≢ Memory → B) → IfErr result (λ e. e ≢ Memory → IsSingle event ⊎ (e ≡ Depot) → B)
  left_if B event k = go result k
    where
      go : (r : Result Told WorldFault) → IfErr r (λ e. e ≢ Memory → B) → IfErr r (λ e. e ≢ Memory → IsSingle event ⊎ (e ≡ Depot) → B)
      go (Ok told) k = tt
      go (Err e) k = λ no either. k no

  pub never_single : (B : Type 0) (event : Event) → (IsSingle event → ⊥) → IfErr result (λ e. e ≢ Depot) → IfErr result (λ e. e ≢ Memory → IsSingle event ⊎ (e ≡ Depot) → B)
  never_single B event many k = go result k
    where
      go : (r : Result Told WorldFault) → IfErr r (λ e. e ≢ Depot) → IfErr r (λ e. e ≢ Memory → IsSingle event ⊎ (e ≡ Depot) → B)
      go (Ok told) k = tt
      go (Err e) k = λ no either. absurd (⊎_elim many k either)
