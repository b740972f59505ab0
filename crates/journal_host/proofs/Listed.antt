-- The rows in conflict that a client lists.
use Rattle.std.proofs.Common.{◌≡◌, ◌⊎◌, inl, inr, ⊎_elim, ℕ, length, Bool, true, false, cond, List, [], Option, Some, None, Result, Ok, Err, refl, sym, ap, ◌∙◌, subst}
use Rattle.std.specs.Prelude.{not, ◌&&◌, map, IfOk, OnErr, IfErr, if◌then◌else◌}
use Rattle.std.specs.Ordering.{nat_cmp}
use Rattle.std.specs.BTreeMap.{is_at}
use Rattle.std.specs.BTreeMap as tree
use Rattle.disk_trait.specs.Calls.{DiskState}
use Rattle.stab_base.specs.declared.node.Node.TheVariants as nodes
use Rattle.table_model.specs.declared.line.Answer.{Answer}
use Rattle.table_model.specs.declared.line.Answer.TheVariants as answers
use Rattle.table_model.specs.declared.line.Refusal.TheVariants as refusals
use Rattle.table_model.specs.declared.line.RowPair.{RowPair}
use Rattle.step_tables.specs.Facts.{PairLine}
use Rattle.step_tables.specs.Facts as facts
use Rattle.step_tables.specs.Lines.{answer_of}
use Rattle.step_tables.specs.Messages.{Luck}
use Rattle.step_tables.specs.ClientMoves.{Client, ClientStep, ClientMove, Shape, Conflicts, client_step, no_shape, quiet, is_cut_off, kept_out}
use Rattle.client_node.specs.declared.node.ClientNode.{ClientNode}
use Rattle.client_node.specs.Linked.{linked_step, phased_step, unless_kept as kept_step}
use Rattle.client_node.specs.Node.{HasPlansBelow}
use Rattle.client_node.specs.Phases.{is_open, KeepsPhases}
use Rattle.world_tables.specs.World.{World, WorldStep, listed, client_at, is_cut, is_resolving, is_client_down, refused, unless_kept, unless_cut, unless_closed, is_closed, closed_answer}
use Rattle.journal_host.specs.declared.fault.ClientFault.{ClientFault}
use Rattle.journal_host.specs.declared.host.ClientHost.{ClientHost}
use Rattle.journal_host.specs.Holds.{IsHosted, HoldsClients, AreSameOuts, HavePlansBelow}
use Rattle.journal_host.specs.Phases.{MovesPhases}
use Rattle.journal_host.specs.Steps.{HasTold, IsMade, IsListing, IsFallen, IsShut}
use Rattle.journal_host.specs.Calls.{IsCalled, IsListed, Stays, IsNumberCause}
use Rattle.journal_host.specs.Moves.{move_alone, alone_there, call_alone}
use Rattle.journal_host.proofs.Lists.{no_more}
use Rattle.journal_host.proofs.Alone.{alone_cases}
use Rattle.journal_host.proofs.Phased.{keeps_moves, keeps_stays, kept_same, phases_at}
use Rattle.journal_host.proofs.Clients.{given_is, found, not_found, not_twice, up_is, down_is, move_done, held_still, is_made, is_fallen, is_down_called, nowhere_answers}

-- ---- an answer's rows in conflict, and any other answer

listed_is : (s : WorldStep) (pairs : List RowPair) → s.answer ≡ Some (facts.Pairs pairs) → listed s ≡ record s { answer = Some (facts.Number (length pairs)); counted = map PairLine pairs }
listed_is s pairs is = rw is refl

listed_other : (s : WorldStep) (a : Answer) → s.answer ≡ Some (answer_of a) → listed s ≡ s
listed_other s answers.Done is = rw is refl
listed_other s (answers.Number number) is = rw is refl
listed_other s (answers.Shown what) is = rw is refl
listed_other s (answers.Sums sum) is = rw is refl
listed_other s (answers.Stored version content) is = rw is refl
listed_other s (answers.Did step) is = rw is refl
listed_other s (answers.Names names) is = rw is refl
listed_other s (answers.Refused refusal) is = rw is refl

alone_counted : (w : World) (c : ℕ) (move : ClientMove) (shape : Shape) (lucks : List Luck) (o : Option Client) → client_at w c ≡ o → (alone_there w c move shape lucks o).counted ≡ []
alone_counted w c move shape lucks o at = alone_cases w c move shape lucks (λ s. s.counted ≡ []) (λ r. refl) refl (λ node is. refl) o at

module _ {D : Type 0} (state : D → DiskState) (old new : ClientHost D) where
  pub other_listed : (s : WorldStep) (a : Answer) → IsCalled state old new s a → s.counted ≡ [] → IsListed state old new s [] a
  other_listed s a k none = let same = listed_other s a k.answer_is in record {
    called = subst (λ (x : WorldStep). IsCalled state old new x a) (sym same) k;
    counted = ap (λ (x : WorldStep). x.counted) same ∙ none;
  }

-- ---- a client that is there

module _ {D : Type 0} (state : D → DiskState) (w : World) (old new : ClientHost D) (c : ℕ) (node after : ClientNode D) (h : HoldsClients state w old)
    (is : Some node ≡ tree.get nat_cmp old.clients c)
    (u : (q : ℕ) → tree.get nat_cmp new.clients q ≡ cond (is_at (nat_cmp c) q) (Some after) (tree.get nat_cmp old.clients q)) (table : ℕ) (keeps : KeepsPhases node after) where
  there : (s : Client) × (client_at w c ≡ Some s) × IsHosted state (is_cut w c) c s node
  there = found state w old.clients c h.there node is

  abbrev s : Client
  s = there.0

  abbrev count : List RowPair → Answer
  count pairs = answers.Number (length pairs)

  moves : (a : facts.Answer) → MovesPhases (Conflicts table) a node after
  moves a = keeps_moves node after (Conflicts table) a (λ phase other. refl) keeps

  listing_alone : (shape : Shape) (pairs : List RowPair) → HasTold state (is_cut w c) c (client_step c shape s (Conflicts table)) after old.outs.items new.outs.items
      → (client_step c shape s (Conflicts table)).answer ≡ facts.Pairs pairs → IsListed state old new (move_alone w c (Conflicts table) shape s) pairs (count pairs)
  listing_alone shape pairs t a =
      let m = move_done state w old new c node after h is u s there.1 (Conflicts table) shape t (moves (client_step c shape s (Conflicts table)).answer) in
      let said : (move_alone w c (Conflicts table) shape s).answer ≡ Some (facts.Pairs pairs) = rw there.1 (ap Some (given_is (client_step c shape s (Conflicts table)).answer ∙ a)) in
      let same = listed_is (move_alone w c (Conflicts table) shape s) pairs said in
      record {
        called = subst (λ (x : WorldStep). IsCalled state old new x (count pairs)) (sym same) (record { answer_is = refl; held = m.held; outs = m.outs });
        counted = ap (λ (x : WorldStep). x.counted) same;
      }

  listing_linked : (shape : Shape) (pairs : List RowPair) (b : Bool)
      → HasTold state (is_cut w c) c (if b then quiet s.disk s.agenda (facts.Refuses facts.Offline) else client_step c shape s (Conflicts table)) after old.outs.items new.outs.items
      → (if b then quiet s.disk s.agenda (facts.Refuses facts.Offline) else client_step c shape s (Conflicts table)).answer ≡ facts.Pairs pairs
      → IsListed state old new (unless_cut w b (move_alone w c (Conflicts table) shape s)) pairs (count pairs)
  listing_linked shape pairs true t a = absurd cc
  listing_linked shape pairs false t a = listing_alone shape pairs t a

  abbrev kept : Shape → Option facts.Refusal
  kept shape = kept_out (is_resolving w c) (Conflicts table) (client_step c shape s (Conflicts table)).answer

  abbrev alone : Shape → WorldStep
  alone shape = unless_kept w (kept shape) (unless_cut w (is_cut w c && is_cut_off c shape s (Conflicts table)) (move_alone w c (Conflicts table) shape s))

  listing_kept : (shape : Shape) (pairs : List RowPair) (o : Option facts.Refusal)
      → HasTold state (is_cut w c) c (kept_step s o (linked_step (not (is_cut w c)) c shape s (Conflicts table))) after old.outs.items new.outs.items
      → (kept_step s o (linked_step (not (is_cut w c)) c shape s (Conflicts table))).answer ≡ facts.Pairs pairs
      → IsListed state old new (unless_kept w o (unless_cut w (is_cut w c && is_cut_off c shape s (Conflicts table)) (move_alone w c (Conflicts table) shape s))) pairs (count pairs)
  listing_kept shape pairs (Some r) t a = absurd cc
  listing_kept shape pairs None t a =
      let same : (if not (not (is_cut w c)) && is_cut_off c shape s (Conflicts table) then quiet s.disk s.agenda (facts.Refuses facts.Offline) else client_step c shape s (Conflicts table))
      ≡ (if is_cut w c && is_cut_off c shape s (Conflicts table) then quiet s.disk s.agenda (facts.Refuses facts.Offline) else client_step c shape s (Conflicts table)) =
      ap (λ (b : Bool). if b then quiet s.disk s.agenda (facts.Refuses facts.Offline) else client_step c shape s (Conflicts table)) (not_twice (is_cut w c) (is_cut_off c shape s (Conflicts table))) in
      listing_linked shape pairs (is_cut w c && is_cut_off c shape s (Conflicts table)) (subst (λ (x : ClientStep). HasTold state (is_cut w c) c x after old.outs.items new.outs.items) same t)
      (ap (λ (x : ClientStep). x.answer) (sym same) ∙ a)

  listing_called : (shape : Shape) (pairs : List RowPair) → HasTold state (is_cut w c) c (phased_step (is_open node) (not (is_cut w c)) c shape s (Conflicts table)) after old.outs.items new.outs.items
      → (phased_step (is_open node) (not (is_cut w c)) c shape s (Conflicts table)).answer ≡ facts.Pairs pairs → IsListed state old new (alone shape) pairs (count pairs)
  listing_called shape pairs t a =
      let same = ap (λ (o : Option facts.Refusal). kept_step s o (linked_step (not (is_cut w c)) c shape s (Conflicts table)))
      (kept_same (is_open node) (is_resolving w c) (phases_at w old.clients c node h.phases is) (Conflicts table) (client_step c shape s (Conflicts table)).answer) in
      listing_kept shape pairs (kept shape) (subst (λ (x : ClientStep). HasTold state (is_cut w c) c x after old.outs.items new.outs.items) same t) (ap (λ (x : ClientStep). x.answer) (sym same) ∙ a)

  abbrev guarded : Bool → Shape → WorldStep
  guarded shut shape = unless_closed w shut (closed_answer shape (is_cut w c) s.agenda (Conflicts table)) (alone shape)

  -- ---- by whether it is up

  abbrev Listed : List RowPair → Answer → Type 0
  Listed pairs answer = (shape : Shape) × (lucks : List Luck) × IsListed state old new (call_alone w c (Conflicts table) shape lucks) pairs answer

  at_client : (pairs : List RowPair) (answer : Answer) (shape : Shape) (lucks : List Luck) → IsListed state old new (alone_there w c (Conflicts table) shape lucks (Some s)) pairs answer → Listed pairs answer
  at_client pairs answer shape lucks k =
      (shape, lucks, subst (λ (o : Option Client). IsListed state old new (alone_there w c (Conflicts table) shape lucks o) pairs answer) (sym there.1) k)

  -- what isn't listed is a call as any
  as_any : (answer : Answer) → (shape : Shape) × (lucks : List Luck) × IsCalled state old new (alone_there w c (Conflicts table) shape lucks (Some s)) answer → Listed [] answer
  as_any answer k =
      at_client [] answer k.0 k.1 (other_listed state old new (alone_there w c (Conflicts table) k.0 k.1 (Some s)) answer k.2 (alone_counted w c (Conflicts table) k.0 k.1 (Some s) there.1))

  up_there : node.is_up ≡ true → is_client_down (client_at w c) ≡ false
  up_there up = ap is_client_down there.1 ∙ up_is state node s.disk s.agenda there.2.client up

  when_listed : (pairs : List RowPair) (answer : Answer) → node.is_up ≡ true → IsShut s (Conflicts table) false → IsListing state (is_open node) (is_cut w c) c s table after old.outs.items new.outs.items pairs answer → Listed pairs answer
  when_listed pairs answer up free k = at_client pairs answer k.shape []
      (subst (λ (b : Bool). IsListed state old new (if b then refused w (facts.NodeDown (nodes.Client c)) else guarded (is_closed s (Some table)) k.shape) pairs answer) (sym (up_there up))
      (subst (λ (b : Bool). IsListed state old new (guarded b k.shape) pairs answer) (sym free)
      (subst (λ (x : Answer). IsListed state old new (alone k.shape) pairs x) (sym k.answer_is) (listing_called k.shape pairs k.told k.pairs_are))))

  when_not : (answer : Answer) → node.is_up ≡ true → IsMade state (is_open node) (is_cut w c) c s (Conflicts table) after old.outs.items new.outs.items answer
      ⊎ IsFallen state (is_cut w c) c s after old.outs.items new.outs.items answer → Listed [] answer
  when_not answer up k = as_any answer
      (⊎_elim (λ m. is_made state w old new c node after h is u s there.1 (Conflicts table) there.2 answer (up_there up) m (moves (answer_of answer)))
      (λ m. is_fallen state w old new c node after h is u s there.1 (Conflicts table) there.2 answer (up_there up) m (moves (facts.Refuses facts.NoDevice))) k)

  when_down : (answer : Answer) → node.is_up ≡ false → after ≡ node → new.outs.items ≡ old.outs.items → answer ≡ answers.Refused (refusals.Down (nodes.Client c)) → Listed [] answer
  when_down answer down same outs says = as_any answer
      (is_down_called state w old new c node after h is u s there.1 (Conflicts table) there.2 answer (ap is_client_down there.1 ∙ down_is state node s.disk s.agenda there.2.client down) says
      (record { behind = subst (λ (n : ClientNode D). IsHosted state (is_cut w c) c s n) (sym same) there.2; outs = λ owners. no_more owners old.outs.items new.outs.items outs })
      (λ other. ap (λ (n : ClientNode D). is_open n other) same))

  module _ (r : Result Answer ClientFault) (pairs none : List RowPair) (is_none : none ≡ [])
      (down : node.is_up ≡ false → (after ≡ node) × (new.outs.items ≡ old.outs.items) × (pairs ≡ none) × IfOk r (λ answer. answer ≡ answers.Refused (refusals.Down (nodes.Client c)))) where
    pub client_lists : ((cut : Bool) (s : Client) → IsHosted state cut c s node
        → IfOk r (λ answer. (node.is_up ≡ true → IsShut s (Conflicts table) false × IsListing state (is_open node) cut c s table after old.outs.items new.outs.items pairs answer)
        ⊎ ((pairs ≡ none) × ((node.is_up ≡ true → IsMade state (is_open node) cut c s (Conflicts table) after old.outs.items new.outs.items answer)
        ⊎ IsFallen state cut c s after old.outs.items new.outs.items answer))))
        → IfOk r (Listed pairs)
    client_lists made = by node.is_up refl r (made (is_cut w c) s there.2) (λ d. (down d).3)
      where
        nothing : (answer : Answer) → pairs ≡ none → Listed [] answer → Listed pairs answer
        nothing answer same k = subst (λ (l : List RowPair). Listed l answer) (sym (same ∙ is_none)) k

        by : (b : Bool) → node.is_up ≡ b → (r : Result Answer ClientFault)
            → IfOk r (λ answer. (node.is_up ≡ true → IsShut s (Conflicts table) false × IsListing state (is_open node) (is_cut w c) c s table after old.outs.items new.outs.items pairs answer)
            ⊎ ((pairs ≡ none) × ((node.is_up ≡ true → IsMade state (is_open node) (is_cut w c) c s (Conflicts table) after old.outs.items new.outs.items answer)
            ⊎ IsFallen state (is_cut w c) c s after old.outs.items new.outs.items answer)))
            → (node.is_up ≡ false → IfOk r (λ answer. answer ≡ answers.Refused (refusals.Down (nodes.Client c)))) → IfOk r (Listed pairs)
        by b up (Err e) made says = tt
        by true up (Ok answer) made says = ⊎_elim (λ k. when_listed pairs answer up (k up).0 (k up).1) (λ k. nothing answer k.0 (when_not answer up (⊎_elim (λ m. inl (m up)) (λ m. inr m) k.1))) made
        by false up (Ok answer) made says = let d = down up in nothing answer d.2 (when_down answer up d.0 d.1 (says up))

  pub list_stays : (r : Result Answer ClientFault)
      → ((cut : Bool) (s : Client) → IsHosted state cut c s node → OnErr r (IsHosted state cut c s after × AreSameOuts old.outs.items new.outs.items)) → OnErr r (Stays state w old new)
  list_stays r kept_so = by r (kept_so (is_cut w c) s there.2)
    where
      by : (r : Result Answer ClientFault) → OnErr r (IsHosted state (is_cut w c) c s after × AreSameOuts old.outs.items new.outs.items) → OnErr r (Stays state w old new)
      by (Ok answer) k = tt
      by (Err e) k = record {
        held = held_still state w old new c node after h is u s there.1 k.0 (keeps_stays state node after s.disk s.agenda there.2.client k.0.client keeps);
        outs = k.1;
      }

  pub list_spent : (r : Result Answer ClientFault) (n : ℕ) → HavePlansBelow state n old.clients
      → ((cut : Bool) (s : Client) (n : ℕ) → IsHosted state cut c s node → HasPlansBelow state n node → IfErr r (IsNumberCause n (Some s))) → IfErr r (IsNumberCause n (client_at w c))
  list_spent r n below spent = subst (λ (o : Option Client). IfErr r (IsNumberCause n o)) (sym there.1) (spent (is_cut w c) s n there.2 (below c node (sym is)))

-- one that isn't refuses
pub nowhere_lists : {D : Type 0} (state : D → DiskState) (w : World) (old new : ClientHost D) (c table : ℕ) → HoldsClients state w old → None ≡ tree.get nat_cmp old.clients c → new.clients ≡ old.clients
    → new.outs.items ≡ old.outs.items → (shape : Shape) × (lucks : List Luck)
    × ((pairs : List RowPair) → pairs ≡ [] → IsListed state old new (call_alone w c (Conflicts table) shape lucks) pairs (answers.Refused refusals.NoTable))
nowhere_lists state w old new c table h none same outs =
    let gone = (not_found state w old.clients c h.there none).0 in (
      no_shape,
      [],
      λ pairs empty. subst (λ (l : List RowPair). IsListed state old new (call_alone w c (Conflicts table) no_shape []) l (answers.Refused refusals.NoTable)) (sym empty)
          (subst (λ (o : Option Client). IsListed state old new (alone_there w c (Conflicts table) no_shape [] o) [] (answers.Refused refusals.NoTable)) (sym gone)
          (other_listed state old new (refused w facts.NoTable) (answers.Refused refusals.NoTable)
          (nowhere_answers state w old new c h none same outs (facts.Refuses facts.NoTable) (answers.Refused refusals.NoTable) refl) refl)),
    )
