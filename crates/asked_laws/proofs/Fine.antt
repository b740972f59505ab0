-- What a client has begun resolves only what it was asked to: no conflict of the same row is told before.
use Rattle.std.proofs.Common.{◌≡◌, ◌⊎◌, ℕ, Bool, true, false, List, [], ◌∷◌, Option, Some, None, refl, sym, ap, ◌∙◌, subst, arith, inl, inr}
use Rattle.std.specs.Prelude.{map, ◌==◌, ◌&&◌, not}
use Rattle.std.proofs.lemmas.Bool.Decides.{nat_tests}
use Rattle.table_model.specs.History.{same_row}
use Rattle.step_tables.specs.Facts.{ClientFact, Fact, Answer}
use Rattle.step_tables.specs.Facts as facts
use Rattle.step_tables.specs.Sayings.{Saying, SaysConflict, saying}
use Rattle.step_tables.specs.ClientMoves as client
use Rattle.step_tables.specs.ClientMoves.{Plan, RowPut, ClientChange, ClientDisk, ClientTask, Client, ClientStep, Shape}
use Rattle.world_tables.specs.World.{tasks_in}
use Rattle.asked_laws.specs.Asked.{Asked, said_asked, IsAsked}
use Rattle.asked_laws.proofs.Tellings.{AreUnsent, facts_asked, FactsAsked}

-- ---- what was asked of one client, and still is

abbrev pub Keeps : ℕ → Asked → Asked → Type 0
Keeps c a b = (table : ℕ) (row : List ℕ) → a c table row ≡ true → b c table row ≡ true

pub keeps_all : (c : ℕ) (a : Asked) → Keeps c a a
keeps_all c a table row is = is

-- ---- a plan resolves what was asked for and tells no conflict, or it resolves nothing

abbrev pub IsResolving : Asked → ℕ → ClientFact → Type 0
IsResolving a c (facts.Conflict client number table row version) = ⊥
IsResolving a c (facts.Resolved client number table row version) = (client ≡ c) × (a c table row ≡ true)
IsResolving a c other = Unit {0}

abbrev pub AreResolving : Asked → ℕ → List ClientFact → Type 0
AreResolving a c [] = Unit {0}
AreResolving a c (fact ∷ more) = IsResolving a c fact × AreResolving a c more

abbrev pub IsCalm : ℕ → ClientFact → Type 0
IsCalm c (facts.Conflict client number table row version) = client ≡ c
IsCalm c (facts.Resolved client number table row version) = ⊥
IsCalm c other = Unit {0}

abbrev pub AreCalm : ℕ → List ClientFact → Type 0
AreCalm c [] = Unit {0}
AreCalm c (fact ∷ more) = IsCalm c fact × AreCalm c more

abbrev pub IsFinePlan : Asked → ℕ → Plan → Type 0
IsFinePlan a c p = AreResolving a c p.facts ⊎ AreCalm c p.facts

abbrev pub IsFineKept : Asked → ℕ → Option Plan → Type 0
IsFineKept a c None = Unit {0}
IsFineKept a c (Some p) = IsFinePlan a c p

-- ---- a task that tells nothing of its client, and one that commits a plan

abbrev pub IsPlainFact : Fact → Type 0
IsPlainFact (facts.Client fact) = ⊥
IsPlainFact (facts.Redone fact) = ⊥
IsPlainFact (facts.Sent packet from to name) = ⊥
IsPlainFact other = Unit {0}

abbrev pub ArePlainFacts : List Fact → Type 0
ArePlainFacts [] = Unit {0}
ArePlainFacts (fact ∷ more) = IsPlainFact fact × ArePlainFacts more

abbrev pub IsNoCommit : ClientChange → Type 0
IsNoCommit (client.Commit p) = ⊥
IsNoCommit other = Unit {0}

abbrev pub IsPlainTask : ClientTask → Type 0
IsPlainTask task = IsNoCommit task.change × ArePlainFacts task.facts

abbrev pub ArePlainTasks : List ClientTask → Type 0
ArePlainTasks [] = Unit {0}
ArePlainTasks (task ∷ more) = IsPlainTask task × ArePlainTasks more

pub record IsCommit (P : Plan → Type 0) (task : ClientTask) : Type 0 where
  pub plan : Plan
  pub change : task.change ≡ client.Commit plan
  pub tells : task.facts ≡ client.told plan
  pub fine : P plan

-- plain tasks, with one among them at most that commits such a plan
abbrev pub HasOnePlan : (Plan → Type 0) → List ClientTask → Type 0
HasOnePlan P [] = Unit {0}
HasOnePlan P (task ∷ more) = (IsPlainTask task × HasOnePlan P more) ⊎ (IsCommit P task × ArePlainTasks more)

pub record IsFine (a : Asked) (c : ℕ) (s : Client) : Type 0 where
  pub plan : IsFineKept a c s.disk.plan
  pub tasks : HasOnePlan (IsFinePlan a c) (tasks_in s.agenda)

-- ---- where no more is asked for, and no less

pub plain_one : (P : Plan → Type 0) (tasks : List ClientTask) → ArePlainTasks tasks → HasOnePlan P tasks
plain_one P [] f = tt
plain_one P (task ∷ more) f = inl (f.0, plain_one P more f.1)

pub one_on : (P Q : Plan → Type 0) → ((p : Plan) → P p → Q p) → (tasks : List ClientTask) → HasOnePlan P tasks → HasOnePlan Q tasks
one_on P Q on [] f = tt
one_on P Q on (task ∷ more) (inl f) = inl (f.0, one_on P Q on more f.1)
one_on P Q on (task ∷ more) (inr f) = inr (record { plan = f.0.plan; change = f.0.change; tells = f.0.tells; fine = on f.0.plan f.0.fine }, f.1)

module _ (c : ℕ) (a b : Asked) (keeps : Keeps c a b) where
  resolving_on : (some : List ClientFact) → AreResolving a c some → AreResolving b c some
  resolving_on [] f = tt
  resolving_on (fact ∷ more) f = (one fact f.0, resolving_on more f.1)
    where
      one : (fact : ClientFact) → IsResolving a c fact → IsResolving b c fact
      one (facts.Conflict client number table row version) f = absurd f
      one (facts.Resolved client number table row version) f = (f.0, keeps table row f.1)
      one (facts.Wrote write) f = tt
      one (facts.Acked client number table row version) f = tt
      one (facts.Refused client number table row latest) f = tt
      one (facts.New client table row version) f = tt
      one (facts.Position client table position) f = tt
      one (facts.Opened client table) f = tt
      one (facts.Dropped client table) f = tt

  plan_on : (p : Plan) → IsFinePlan a c p → IsFinePlan b c p
  plan_on p (inl f) = inl (resolving_on p.facts f)
  plan_on p (inr f) = inr f

  kept_on : (o : Option Plan) → IsFineKept a c o → IsFineKept b c o
  kept_on None f = tt
  kept_on (Some p) f = plan_on p f

  pub fine_on : (s : Client) → IsFine a c s → IsFine b c s
  fine_on s f = record { plan = kept_on s.disk.plan f.plan; tasks = one_on (IsFinePlan a c) (IsFinePlan b c) plan_on (tasks_in s.agenda) f.tasks }

-- ---- what a plan tells

-- nothing that was asked of other clients is asked no more
abbrev pub AreOthersKept : ℕ → Asked → Asked → Type 0
AreOthersKept c a b = (d : ℕ) → (d ≡ c → ⊥) → Keeps d a b

pub others_kept : (c : ℕ) (a : Asked) → AreOthersKept c a a
others_kept c a d apart = keeps_all d a

conflict_others : (c number table version : ℕ) (row : List ℕ) (a : Asked) → AreOthersKept c a (said_asked (SaysConflict c number table row version) a)
conflict_others c number table version row a d apart t r is = go (d == c) refl
  where
    go : (x : Bool) → (d == c) ≡ x → (a d t r && not (x && (t == table && same_row r row))) ≡ true
    go true e = absurd (apart (grind (arith, nat_tests, e)))
    go false e = grind (arith, is)

-- facts that a client tells, first or again: they are asked for, and what holds of the plan holds behind them
pub record IsTold (c : ℕ) (a : Asked) (some : List Fact) (p : Plan) : Type 0 where
  pub asked : FactsAsked a some
  pub fine : IsFinePlan (facts_asked some a) c p
  pub others : AreOthersKept c a (facts_asked some a)

-- `tell` is how each fact is told
module _ (c : ℕ) (tell : ClientFact → Fact) (same : (fact : ClientFact) → saying (tell fact) ≡ saying (facts.Client fact)) where
  -- a plan that resolves changes nothing of what is asked
  resolving_told : (a : Asked) (some : List ClientFact) → AreResolving a c some → FactsAsked a (map tell some) × (facts_asked (map tell some) a ≡ a)
  resolving_told a [] f = (tt, refl)
  resolving_told a (fact ∷ more) f =
      let rest = resolving_told a more f.1 in
      let here = one fact f.0 in (
        (subst (λ (x : Saying). IsAsked a x) (sym (same fact)) here.0, subst (λ (b : Asked). FactsAsked b (map tell more)) (sym (kept here.1)) rest.0),
        ap (facts_asked (map tell more)) (kept here.1) ∙ rest.1,
      )
    where
      kept : said_asked (saying (facts.Client fact)) a ≡ a → said_asked (saying (tell fact)) a ≡ a
      kept e = ap (λ (x : Saying). said_asked x a) (same fact) ∙ e

      one : (x : ClientFact) → IsResolving a c x → IsAsked a (saying (facts.Client x)) × (said_asked (saying (facts.Client x)) a ≡ a)
      one (facts.Conflict client number table row version) f = absurd f
      one (facts.Resolved client number table row version) f = (subst (λ (d : ℕ). a d table row ≡ true) (sym f.0) f.1, refl)
      one (facts.Wrote write) f = (tt, refl)
      one (facts.Acked client number table row version) f = (tt, refl)
      one (facts.Refused client number table row latest) f = (tt, refl)
      one (facts.New client table row version) f = (tt, refl)
      one (facts.Position client table position) f = (tt, refl)
      one (facts.Opened client table) f = (tt, refl)
      one (facts.Dropped client table) f = (tt, refl)

  -- a calm one resolves nothing, and tells conflicts of its client alone
  calm_told : (a : Asked) (some : List ClientFact) → AreCalm c some → FactsAsked a (map tell some) × AreOthersKept c a (facts_asked (map tell some) a)
  calm_told a [] f = (tt, others_kept c a)
  calm_told a (fact ∷ more) f =
      let rest = calm_told (said_asked (saying (tell fact)) a) more f.1 in
      let here = one fact f.0 in (
        (subst (λ (x : Saying). IsAsked a x) (sym (same fact)) here.0, rest.0),
        λ d apart table row is. rest.1 d apart table row (subst (λ (x : Saying). said_asked x a d table row ≡ true) (sym (same fact)) (here.1 d apart table row is)),
      )
    where
      one : (x : ClientFact) → IsCalm c x → IsAsked a (saying (facts.Client x)) × AreOthersKept c a (said_asked (saying (facts.Client x)) a)
      one (facts.Conflict client number table row version) f =
          (tt, subst (λ (d : ℕ). AreOthersKept c a (said_asked (SaysConflict d number table row version) a)) (sym f) (conflict_others c number table version row a))
      one (facts.Resolved client number table row version) f = absurd f
      one (facts.Wrote write) f = (tt, others_kept c a)
      one (facts.Acked client number table row version) f = (tt, others_kept c a)
      one (facts.Refused client number table row latest) f = (tt, others_kept c a)
      one (facts.New client table row version) f = (tt, others_kept c a)
      one (facts.Position client table position) f = (tt, others_kept c a)
      one (facts.Opened client table) f = (tt, others_kept c a)
      one (facts.Dropped client table) f = (tt, others_kept c a)

  plan_told : (a : Asked) (p : Plan) → IsFinePlan a c p → IsTold c a (map tell p.facts) p
  plan_told a p (inl f) = let t = resolving_told a p.facts f in record {
    asked = t.0;
    fine = subst (λ (b : Asked). IsFinePlan b c p) (sym t.1) (inl f);
    others = subst (λ (b : Asked). AreOthersKept c a b) (sym t.1) (others_kept c a);
  }
  plan_told a p (inr f) = let t = calm_told a p.facts f in record { asked = t.0; fine = inr f; others = t.1 }

pub first_told : (c : ℕ) (a : Asked) (p : Plan) → IsFinePlan a c p → IsTold c a (client.told p) p
first_told c a p f = plan_told c facts.Client (λ fact. refl) a p f

-- a plan that resolves tells no conflict
pub resolving_same : (c : ℕ) (a : Asked) (p : Plan) → AreResolving a c p.facts → facts_asked (client.told p) a ≡ a
resolving_same c a p f = (resolving_told c facts.Client (λ fact. refl) a p.facts f).1

pub again_told : (c : ℕ) (a : Asked) (p : Plan) → IsFinePlan a c p → IsTold c a (client.retold p) p
again_told c a p f = plan_told c facts.Redone (λ fact. refl) a p f

-- plain facts tell nothing of it
pub plain_told : (a : Asked) (some : List Fact) → ArePlainFacts some → FactsAsked a some × (facts_asked some a ≡ a)
plain_told a [] f = (tt, refl)
plain_told a (fact ∷ more) f = one (plain_told a more f.1) fact f.0
  where
    one : FactsAsked a more × (facts_asked more a ≡ a) → (x : Fact) → IsPlainFact x → FactsAsked a (x ∷ more) × (facts_asked (x ∷ more) a ≡ a)
    one rest (facts.Client fact) f = absurd f
    one rest (facts.Redone fact) f = absurd f
    one rest (facts.Accepted table entry) f = ((tt, rest.0), rest.1)
    one rest (facts.Forward table entry) f = ((tt, rest.0), rest.1)
    one rest (facts.Back table version) f = ((tt, rest.0), rest.1)
    one rest (facts.StoreRecovered store table) f = ((tt, rest.0), rest.1)
    one rest (facts.Made table) f = ((tt, rest.0), rest.1)
    one rest (facts.Unmade table) f = ((tt, rest.0), rest.1)
    one rest (facts.Saved table) f = ((tt, rest.0), rest.1)
    one rest (facts.Notified number tables) f = ((tt, rest.0), rest.1)
    one rest (facts.ClientRecovered number) f = ((tt, rest.0), rest.1)
    one rest (facts.Torn number table row) f = ((tt, rest.0), rest.1)
    one rest (facts.Sent packet from to name) f = absurd f

-- ---- no fact tells that a packet was sent

pub plain_unsent : (some : List Fact) → ArePlainFacts some → AreUnsent some
plain_unsent [] f = tt
plain_unsent (fact ∷ more) f = one (plain_unsent more f.1) fact f.0
  where
    one : AreUnsent more → (x : Fact) → IsPlainFact x → AreUnsent (x ∷ more)
    one rest (facts.Client fact) f = absurd f
    one rest (facts.Redone fact) f = absurd f
    one rest (facts.Accepted table entry) f = (tt, rest)
    one rest (facts.Forward table entry) f = (tt, rest)
    one rest (facts.Back table version) f = (tt, rest)
    one rest (facts.StoreRecovered store table) f = (tt, rest)
    one rest (facts.Made table) f = (tt, rest)
    one rest (facts.Unmade table) f = (tt, rest)
    one rest (facts.Saved table) f = (tt, rest)
    one rest (facts.Notified number tables) f = (tt, rest)
    one rest (facts.ClientRecovered number) f = (tt, rest)
    one rest (facts.Torn number table row) f = (tt, rest)
    one rest (facts.Sent packet from to name) f = absurd f

pub told_unsent : (some : List ClientFact) → AreUnsent (map facts.Client some)
told_unsent [] = tt
told_unsent (fact ∷ more) = (tt, told_unsent more)

pub retold_unsent : (some : List ClientFact) → AreUnsent (map facts.Redone some)
retold_unsent [] = tt
retold_unsent (fact ∷ more) = (tt, retold_unsent more)
