-- The phases that are open behind a move, at a node and in the world.
use Rattle.std.proofs.Common.{◌≡◌, ℕ, Bool, true, false, cond, List, [], ◌∷◌, Option, Some, None, Result, Ok, Err, refl, sym, ap, ◌∙◌, subst}
use Rattle.std.specs.Prelude.{◌==◌, ◌&&◌, ◌||◌, not, filter, OnOk, OnErr}
use Rattle.std.specs.List.{list_any}
use Rattle.std.specs.Ordering.{nat_cmp}
use Rattle.std.specs.Cmp.{unsigned_tied}
use Rattle.std.specs.BTreeMap.{is_at}
use Rattle.std.specs.BTreeMap as tree
use Rattle.std.specs.BTreeSet.{BTreeSet, keys}
use Rattle.std.proofs.lemmas.Bool.{eqb-true, eq-eqb}
use Rattle.disk_trait.specs.Calls.{DiskState}
use Rattle.table_model.specs.declared.line.Answer.{Answer as Line}
use Rattle.table_model.specs.declared.line.Answer.TheVariants as answers
use Rattle.step_tables.specs.Facts.{Answer, Refusal}
use Rattle.step_tables.specs.Facts as facts
use Rattle.step_tables.specs.ClientMoves.{Shape, ClientDisk, ClientTask, ClientMove, Take, BeginCr, EndCr, Conflicts, Write, Change, Resolve, ResolveAll, is_before_write, is_before_phase, if_open, if_closed, kept_out, phases_by}
use Rattle.client_node.specs.declared.node.ClientNode.{ClientNode}
use Rattle.client_node.specs.Node.{IsClient}
use Rattle.client_node.specs.declared.fault.CallFault.{CallFault}
use Rattle.client_node.specs.declared.fault.CallFault.TheVariants as call
use Rattle.client_node.specs.Phases.{is_open, KeepsPhases, BeginsPhase, EndsPhase}
use Rattle.world_tables.specs.World.{World, is_resolving, closed_answer}
use Rattle.journal_host.specs.Holds.{HasPhases, HavePhases}
use Rattle.journal_host.specs.Asks.{as_answer, refused_as, answered_as}
use Rattle.journal_host.specs.Phases.{phase_behind, phase_left, SamePhases, MovesPhases, answer_in}

-- ---- a move that begins and ends none

-- this answer to this move leaves the phases as they are
abbrev pub LeavesPhases : ClientMove → Answer → Type 0
LeavesPhases move answer = (phase : ℕ → Bool) (table : ℕ) → phase_behind move answer phase table ≡ phase table

pub refusal_leaves : (move : ClientMove) (r : Refusal) → LeavesPhases move (facts.Refuses r)
refusal_leaves (BeginCr t) r phase table = refl
refusal_leaves (EndCr t) r phase table = refl
refusal_leaves move r phase table = refl

-- so does what a client answers that has closed the table
pub shut_leaves : (shape : Shape) (cut : Bool) (agenda : Option (List ClientTask)) (move : ClientMove) → LeavesPhases move (closed_answer shape cut agenda move)
shut_leaves shape cut agenda (Take message) phase table = refl
shut_leaves shape cut agenda (BeginCr t) phase table = refl
shut_leaves shape cut agenda (EndCr t) phase table = refl
shut_leaves shape cut agenda move phase table = refl

pub fault_leaves : (move : ClientMove) (e : CallFault) → LeavesPhases move (answer_in (refused_as e))
fault_leaves move call.NoTable = refusal_leaves move _
fault_leaves move (call.BadCell column) = refusal_leaves move _
fault_leaves move (call.BadObject column len) = refusal_leaves move _
fault_leaves move (call.RowTooLarge len) = refusal_leaves move _
fault_leaves move (call.TooManyChunks count) = refusal_leaves move _
fault_leaves move call.NoRow = refusal_leaves move _
fault_leaves move (call.Busy with) = refusal_leaves move _
fault_leaves move call.NotInResolution = refusal_leaves move _
fault_leaves move call.InResolution = refusal_leaves move _
fault_leaves move call.NoConflict = refusal_leaves move _
fault_leaves move (call.Moved seen now) = refusal_leaves move _
fault_leaves move call.Offline = refusal_leaves move _
fault_leaves move (call.Outstanding number) = refusal_leaves move _
fault_leaves move (call.Conflicted version) = refusal_leaves move _
fault_leaves move (call.Spent last) = refusal_leaves move _
fault_leaves move call.Disk = refusal_leaves move _
fault_leaves move call.Memory = refusal_leaves move _

module _ {D : Type 0} (old new : ClientNode D) where
  pub same_open : keys new.phases ≡ keys old.phases → SamePhases old new
  same_open same table = ap (λ (ks : List ℕ). list_any (is_at (nat_cmp table)) ks) same

  pub keeps_moves : (move : ClientMove) (answer : Answer) → LeavesPhases move answer → KeepsPhases old new → MovesPhases move answer old new
  keeps_moves move answer leaves k up table = same_open (k up) table ∙ sym (leaves (is_open old) table)

  -- a call of a node that keeps them
  pub told_keeps : (mid : ClientNode D) → new.phases ≡ mid.phases → new.is_up ≡ mid.is_up → KeepsPhases old mid → KeepsPhases old new
  told_keeps mid same up k is = ap keys same ∙ k (sym up ∙ is)

  -- a phase that begins, or ends
  pub begins_moves : (t : ℕ) (r : Result (Unit {0}) CallFault) (a : Result Line CallFault) → a ≡ as_answer (λ x. answers.Done) r → OnOk r (BeginsPhase t old new) → OnErr r (KeepsPhases old new)
      → MovesPhases (BeginCr t) (answer_in a) old new
  begins_moves t (Ok x) a is begun kept = subst (λ (y : Result Line CallFault). MovesPhases (BeginCr t) (answer_in y) old new) (sym is) (λ up table. begun table)
  begins_moves t (Err e) a is begun kept = subst (λ (y : Result Line CallFault). MovesPhases (BeginCr t) (answer_in y) old new) (sym is)
      (keeps_moves (BeginCr t) (facts.Refuses facts.NoDevice) (refusal_leaves (BeginCr t) facts.NoDevice) kept)

  pub ends_moves : (t : ℕ) (r : Result (Unit {0}) CallFault) (a : Result Line CallFault) → a ≡ as_answer (λ x. answers.Done) r → OnOk r (EndsPhase t old new) → OnErr r (KeepsPhases old new)
      → MovesPhases (EndCr t) (answer_in a) old new
  ends_moves t (Ok x) a is ended kept = subst (λ (y : Result Line CallFault). MovesPhases (EndCr t) (answer_in y) old new) (sym is) (λ up table. ended table)
  ends_moves t (Err e) a is ended kept = subst (λ (y : Result Line CallFault). MovesPhases (EndCr t) (answer_in y) old new) (sym is)
      (keeps_moves (EndCr t) (facts.Refuses facts.NoDevice) (refusal_leaves (EndCr t) facts.NoDevice) kept)

  -- what is answered to a fault leaves them
  pub answered_moves : (mid : ClientNode D) (move : ClientMove) (r : Result Line CallFault) → new.phases ≡ mid.phases → new.is_up ≡ mid.is_up → MovesPhases move (answer_in r) old mid
      → MovesPhases move (answer_in (answered_as r)) old new
  answered_moves mid move r same up k is table = ap (λ (s : BTreeSet ℕ). is_open (record mid { phases = s }) table) same ∙ (k (sym up ∙ is) table ∙ by r)
    where
      by : (r : Result Line CallFault) → phase_behind move (answer_in r) (is_open old) table ≡ phase_behind move (answer_in (answered_as r)) (is_open old) table
      by (Ok answer) = refl
      by (Err e) = refusal_leaves move facts.NoDevice (is_open old) table ∙ sym (fault_leaves move e (is_open old) table)

  -- the same of another move
  pub moves_as : (move other : ClientMove) (answer given : Answer) → LeavesPhases move answer → LeavesPhases other given → MovesPhases move answer old new → MovesPhases other given old new
  moves_as move other answer given leaves stays k up table = k up table ∙ (leaves (is_open old) table ∙ sym (stays (is_open old) table))

-- ---- a node

none_open : {D : Type 0} (node : ClientNode D) → keys node.phases ≡ [] → (table : ℕ) → is_open node table ≡ false
none_open node none table = ap (λ (ks : List ℕ). list_any (is_at (nat_cmp table)) ks) none

module _ {D : Type 0} (state : D → DiskState) where
  pub down_closed : (node : ClientNode D) (d : ClientDisk) → IsClient state node (record { disk = d; agenda = None }) → (table : ℕ) → is_open node table ≡ false
  down_closed node d t = none_open node t.at.1.phaseless

  -- behind a move
  pub open_left : (old new : ClientNode D) (d : ClientDisk) (agenda : Option (List ClientTask)) (move : ClientMove) (answer : Answer) → IsClient state new (record { disk = d; agenda = agenda })
      → MovesPhases move answer old new → (table : ℕ) → is_open new table ≡ phase_left agenda move answer (is_open old) table
  open_left old new d None move answer t k table = down_closed new d t table
  open_left old new d (Some tasks) move answer t k table = k t.at.0 table

  -- where the client stays
  pub open_stays : (old new : ClientNode D) (d : ClientDisk) (agenda : Option (List ClientTask)) (move : ClientMove) (answer : Answer) → IsClient state old (record { disk = d; agenda = agenda })
      → IsClient state new (record { disk = d; agenda = agenda }) → LeavesPhases move answer → MovesPhases move answer old new → SamePhases old new
  open_stays old new d None move answer t u leaves k table = down_closed new d u table ∙ sym (down_closed old d t table)
  open_stays old new d (Some tasks) move answer t u leaves k table = k u.at.0 table ∙ leaves (is_open old) table

  pub keeps_stays : (old new : ClientNode D) (d : ClientDisk) (agenda : Option (List ClientTask)) → IsClient state old (record { disk = d; agenda = agenda })
      → IsClient state new (record { disk = d; agenda = agenda }) → KeepsPhases old new → SamePhases old new
  keeps_stays old new d None t u k table = down_closed new d u table ∙ sym (down_closed old d t table)
  keeps_stays old new d (Some tasks) t u k table = same_open old new (k u.at.0) table

-- ---- the same phases

module _ (p q : ℕ → Bool) (same : (table : ℕ) → p table ≡ q table) where
  pub left_same : (agenda : Option (List ClientTask)) (move : ClientMove) (answer : Answer) (table : ℕ) → phase_left agenda move answer p table ≡ phase_left agenda move answer q table
  left_same None move answer table = refl
  left_same (Some tasks) (BeginCr t) facts.Done table = ap (λ (b : Bool). t == table || b) (same table)
  left_same (Some tasks) (EndCr t) facts.Done table = ap (λ (b : Bool). not (t == table) && b) (same table)
  left_same (Some tasks) move answer table = same table

  pub kept_same : (move : ClientMove) (answer : Answer) → kept_out p move answer ≡ kept_out q move answer
  kept_same (Write table row content) answer = ap (λ (b : Bool). if_open (is_before_write answer) b) (same table)
  kept_same (Change table row edit) answer = ap (λ (b : Bool). if_open (is_before_write answer) b) (same table)
  kept_same (BeginCr table) answer = ap (λ (b : Bool). if_open (is_before_phase (BeginCr table) answer) b) (same table)
  kept_same (Conflicts table) answer = ap (λ (b : Bool). if_closed (is_before_phase (Conflicts table) answer) b) (same table)
  kept_same (EndCr table) answer = ap (λ (b : Bool). if_closed (is_before_phase (EndCr table) answer) b) (same table)
  kept_same (Resolve table row seen choice) answer = ap (λ (b : Bool). if_closed (is_before_phase (Resolve table row seen choice) answer) b) (same table)
  kept_same (ResolveAll table by) answer = ap (λ (b : Bool). if_closed (is_before_phase (ResolveAll table by) answer) b) (same table)
  kept_same move answer = refl

-- ---- the world

abbrev of_client : ℕ → ℕ → ℕ × ℕ → Bool
of_client c table phase = phase.0 == c && phase.1 == table

abbrev any_of : ℕ → ℕ → List (ℕ × ℕ) → Bool
any_of c table phases = list_any (of_client c table) phases

abbrev but_of : ℕ → List (ℕ × ℕ) → List (ℕ × ℕ)
but_of c phases = filter (λ (phase : ℕ × ℕ). not (phase.0 == c)) phases

abbrev but_one : ℕ → ℕ → List (ℕ × ℕ) → List (ℕ × ℕ)
but_one c t phases = filter (λ (phase : ℕ × ℕ). not (phase.0 == c && phase.1 == t)) phases

all_gone : (c table : ℕ) (phases : List (ℕ × ℕ)) → any_of c table (but_of c phases) ≡ false
all_gone c table [] = refl
all_gone c table (p ∷ phases) = by (p.0 == c) refl (all_gone c table phases)
  where
    by : (b : Bool) → (p.0 == c) ≡ b → any_of c table (but_of c phases) ≡ false → any_of c table (cond (not b) (p ∷ but_of c phases) (but_of c phases)) ≡ false
    by true is rest = rest
    by false is rest = ap (λ (b : Bool). (b && p.1 == table) || any_of c table (but_of c phases)) is ∙ rest

-- a phase of one client isn't another's
not_of : (c q : ℕ) → (c == q) ≡ false → (n : ℕ) → (n == c) ≡ true → (n == q) ≡ false
not_of c q off n is = ap (λ (k : ℕ). k == q) (eqb-true n c is) ∙ off

gone_apart : (c q table : ℕ) → (c == q) ≡ false → (phases : List (ℕ × ℕ)) → any_of q table (but_of c phases) ≡ any_of q table phases
gone_apart c q table off [] = refl
gone_apart c q table off (p ∷ phases) = by (p.0 == c) refl (gone_apart c q table off phases)
  where
    by : (b : Bool) → (p.0 == c) ≡ b → any_of q table (but_of c phases) ≡ any_of q table phases
        → any_of q table (cond (not b) (p ∷ but_of c phases) (but_of c phases)) ≡ (of_client q table p || any_of q table phases)
    by true is rest = rest ∙ sym (ap (λ (b : Bool). (b && p.1 == table) || any_of q table phases) (not_of c q off p.0 is))
    by false is rest = ap (λ (b : Bool). of_client q table p || b) rest

both_true : (a b : Bool) → (a && b) ≡ true → (a ≡ true) × (b ≡ true)
both_true true true is = (refl, refl)
both_true true false is = absurd cc
both_true false b is = absurd cc

one_left : (x y : Bool) → (not x && y) ≡ (not x && (x || y))
one_left true y = refl
one_left false y = refl

one_gone : (c t table : ℕ) (phases : List (ℕ × ℕ)) → any_of c table (but_one c t phases) ≡ (not (t == table) && any_of c table phases)
one_gone c t table [] = none (t == table)
  where
    none : (x : Bool) → false ≡ (not x && false)
    none true = refl
    none false = refl
one_gone c t table (p ∷ phases) = by (of_client c t p) refl (one_gone c t table phases)
  where
    -- it is the one
    dropped : of_client c t p ≡ true → of_client c table p ≡ (t == table)
    dropped is = let k = both_true (p.0 == c) (p.1 == t) is in
        ap (λ (b : Bool). b && p.1 == table) k.0 ∙ ap (λ (n : ℕ). n == table) (eqb-true p.1 t k.1)

    stays : (x : Bool) → (t == table) ≡ x → of_client c t p ≡ false → any_of c table (but_one c t phases) ≡ (not x && any_of c table phases)
        → (of_client c table p || any_of c table (but_one c t phases)) ≡ (not x && (of_client c table p || any_of c table phases))
    stays true same off rest =
        ap (λ (n : ℕ). of_client c n p || any_of c table (but_one c t phases)) (sym (eqb-true t table same))
        ∙ (ap (λ (b : Bool). b || any_of c table (but_one c t phases)) off ∙ rest)
    stays false same off rest = ap (λ (b : Bool). of_client c table p || b) rest

    by : (b : Bool) → of_client c t p ≡ b → any_of c table (but_one c t phases) ≡ (not (t == table) && any_of c table phases)
        → any_of c table (cond (not b) (p ∷ but_one c t phases) (but_one c t phases)) ≡ (not (t == table) && (of_client c table p || any_of c table phases))
    by true is rest = rest ∙ (one_left (t == table) (any_of c table phases) ∙ ap (λ (b : Bool). not (t == table) && (b || any_of c table phases)) (sym (dropped is)))
    by false is rest = stays (t == table) refl is rest

one_apart : (c q t table : ℕ) → (c == q) ≡ false → (phases : List (ℕ × ℕ)) → any_of q table (but_one c t phases) ≡ any_of q table phases
one_apart c q t table off [] = refl
one_apart c q t table off (p ∷ phases) = by (of_client c t p) refl (one_apart c q t table off phases)
  where
    by : (b : Bool) → of_client c t p ≡ b → any_of q table (but_one c t phases) ≡ any_of q table phases
        → any_of q table (cond (not b) (p ∷ but_one c t phases) (but_one c t phases)) ≡ (of_client q table p || any_of q table phases)
    by true is rest = rest ∙ sym (ap (λ (b : Bool). (b && p.1 == table) || any_of q table phases) (not_of c q off p.0 (both_true (p.0 == c) (p.1 == t) is).0))
    by false is rest = ap (λ (b : Bool). of_client q table p || b) rest

abbrev moved : World → ℕ → ClientMove → Answer → Option (List ClientTask) → World
moved w c move answer agenda = record w { phases = phases_by c move answer agenda w.phases }

pub resolving_left : (w : World) (c : ℕ) (move : ClientMove) (answer : Answer) (agenda : Option (List ClientTask)) (table : ℕ)
    → is_resolving (moved w c move answer agenda) c table ≡ phase_left agenda move answer (is_resolving w c) table
resolving_left w c move answer None table = all_gone c table w.phases
resolving_left w c (BeginCr t) facts.Done (Some tasks) table = ap (λ (b : Bool). (b && t == table) || is_resolving w c table) (eq-eqb c c refl)
resolving_left w c (EndCr t) facts.Done (Some tasks) table = one_gone c t table w.phases
resolving_left w c move answer (Some tasks) table = refl

pub resolving_apart : (w : World) (c q : ℕ) → is_at (nat_cmp c) q ≡ false → (move : ClientMove) (answer : Answer) (agenda : Option (List ClientTask)) (table : ℕ)
    → is_resolving (moved w c move answer agenda) q table ≡ is_resolving w q table
resolving_apart w c q off move answer None table = gone_apart c q table (sym (unsigned_tied c q) ∙ off) w.phases
resolving_apart w c q off (BeginCr t) facts.Done (Some tasks) table = ap (λ (b : Bool). (b && t == table) || is_resolving w q table) (sym (unsigned_tied c q) ∙ off)
resolving_apart w c q off (EndCr t) facts.Done (Some tasks) table = one_apart c q t table (sym (unsigned_tied c q) ∙ off) w.phases
resolving_apart w c q off move answer (Some tasks) table = refl

-- ---- all clients

pub has_as : {D : Type 0} (p q : ℕ → Bool) → ((table : ℕ) → q table ≡ p table) → (o : Option (ClientNode D)) → HasPhases p o → HasPhases q o
has_as p q same None h = λ table. same table ∙ h table
has_as p q same (Some node) h = λ table. h table ∙ sym (same table)

at_one : (k q : ℕ) → is_at (nat_cmp k) q ≡ true → k ≡ q
at_one k q h = eqb-true k q (sym (unsigned_tied k q) ∙ h)

pub phases_at : {D : Type 0} (w : World) (clients : tree.BTreeMap ℕ (ClientNode D)) (c : ℕ) (node : ClientNode D) → HavePhases w clients → Some node ≡ tree.get nat_cmp clients c
    → (table : ℕ) → is_open node table ≡ is_resolving w c table
phases_at {D} w clients c node h is = subst (λ (o : Option (ClientNode D)). HasPhases (is_resolving w c) o) (sym is) (h c)

-- a client that isn't there has none
pub none_resolves : {D : Type 0} (w : World) (clients : tree.BTreeMap ℕ (ClientNode D)) (c : ℕ) → HavePhases w clients → None ≡ tree.get nat_cmp clients c → (table : ℕ) → is_resolving w c table ≡ false
none_resolves {D} w clients c h none = subst (λ (o : Option (ClientNode D)). HasPhases (is_resolving w c) o) (sym none) (h c)

module _ {D : Type 0} (w : World) (old new : tree.BTreeMap ℕ (ClientNode D)) (c : ℕ) (after : ClientNode D) (h : HavePhases w old)
    (u : (q : ℕ) → tree.get nat_cmp new q ≡ cond (is_at (nat_cmp c) q) (Some after) (tree.get nat_cmp old q)) where
  pub put_phases : (then_w : World) → ((q : ℕ) → is_at (nat_cmp c) q ≡ false → (table : ℕ) → is_resolving then_w q table ≡ is_resolving w q table)
      → ((table : ℕ) → is_open after table ≡ is_resolving then_w c table) → HavePhases then_w new
  put_phases then_w others at q = subst (λ (o : Option (ClientNode D)). HasPhases (is_resolving then_w q) o) (sym (u q)) (one (is_at (nat_cmp c) q) refl)
    where
      one : (b : Bool) → is_at (nat_cmp c) q ≡ b → HasPhases (is_resolving then_w q) (cond b (Some after) (tree.get nat_cmp old q))
      one true is = subst (λ (k : ℕ). HasPhases (is_resolving then_w k) (Some after)) (at_one c q is) at
      one false is = has_as (is_resolving w q) (is_resolving then_w q) (others q is) (tree.get nat_cmp old q) (h q)

  module _ (node : ClientNode D) (is : Some node ≡ tree.get nat_cmp old c) where
    -- the client's are as they were
    pub phases_same : SamePhases node after → HavePhases w new
    phases_same same = put_phases w (λ q off table. refl) (λ table. same table ∙ phases_at w old c node h is table)

    -- or those that a move leaves
    pub phases_moved : (state : D → DiskState) (d : ClientDisk) (agenda : Option (List ClientTask)) (move : ClientMove) (answer : Answer) → IsClient state after (record { disk = d; agenda = agenda })
        → MovesPhases move answer node after → HavePhases (moved w c move answer agenda) new
    phases_moved state d agenda move answer t k =
        put_phases (moved w c move answer agenda) (λ q off. resolving_apart w c q off move answer agenda)
        (λ table. open_left state node after d agenda move answer t k table
        ∙ (left_same (is_open node) (is_resolving w c) (phases_at w old c node h is) agenda move answer table ∙ sym (resolving_left w c move answer agenda table)))
