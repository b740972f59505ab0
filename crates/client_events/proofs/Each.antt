-- All rows of a table in conflict, resolved one after the other: the world's moves, the causes and the numbers.
use Rattle.std.proofs.Common.{◌≡◌, ◌≢◌, ◌⊎◌, inl, inr, ⊎_elim, ℕ, zero, suc, ◌+◌, ◌<◌, ◌≤◌, ◌++◌, length, Bool, true, false, List, [], ◌∷◌, Option, Some, None, Result, Ok, Err, refl, sym, ap, ◌∙◌, subst, arith, append-nil, append_assoc}
use Rattle.std.specs.Prelude.{◌||◌, IfOk, IfErr, if◌then◌else◌}
use Rattle.std.specs.BTreeMap as tree
use Rattle.disk_trait.specs.Calls.{DiskState}
use Rattle.stab_base.specs.declared.limits.TheConstants.{NUMBER_MAX}
use Rattle.conflicts.specs.declared.stored.Stored.{Stored}
use Rattle.table_model.specs.declared.event.Event.TheVariants as events
use Rattle.table_model.specs.declared.line.Answer.{Answer}
use Rattle.table_model.specs.declared.line.Answer.TheVariants as answers
use Rattle.table_model.specs.declared.line.Refusal.TheVariants as refusals
use Rattle.table_model.specs.declared.line.RowPair.{RowPair}
use Rattle.step_tables.specs.Facts as facts
use Rattle.step_tables.specs.Lines.{answer_of}
use Rattle.step_tables.specs.Messages.{Luck}
use Rattle.step_tables.specs.ClientMoves.{Client, Shape, ResolveAll, seen}
use Rattle.client_node.specs.declared.node.ClientNode.{ClientNode}
use Rattle.world_tables.specs.World.{World, WorldStep, Moved, Outbox, owner_of, and_then, and_unless, answering, call, client_at, client_pairs, client_until_idle, first_luck, is_fault, other_lucks, resolve_all, resolve_by, resolve_each, step}
use Rattle.journal_host.specs.declared.fault.ClientFault.{ClientFault}
use Rattle.journal_host.specs.declared.fault.ClientFault.TheVariants as fault
use Rattle.journal_host.specs.declared.host.ClientHost.{ClientHost}
use Rattle.journal_host.specs.Calls.{IsCalled, Comes, HasCause, IsLast, IsNumberCause}
use Rattle.journal_host.specs.Holds.{HoldsClients, AreClients, HavePlansBelow, SameFaults, faults_at, outs_of, said}
use Rattle.journal_host.specs.Steps.{IsDeviceFault}
use Rattle.journal_host.specs.Moves.{alone_there, call_alone}
use Rattle.journal_host.proofs.Lists.{outs_then}
use Rattle.journal_host.proofs.Keeping.{until_idle_keeps, owners_kept}
use Rattle.journal_host.proofs.Draining.{put_before}
use Rattle.client_events.specs.Follow.{IsFollowed, Follows, HasWorkCause}
use Rattle.client_events.specs.Resolves.{resolve_row, number_in, IsReady, HasResolved, ComesSo, IsLastWithin, IsNumberCauseWithin, IsCauseAbove}
use Rattle.client_events.proofs.CallEvents.{looks_alone}
use Rattle.client_events.proofs.Rows.{row_move, row_alone, row_answer, row_failed, row_ready, row_lucks, each_next, row_keeps, each_keeps}
use Rattle.client_events.proofs.Asked.{IsAsked, all_still, asked, held_back, outs_back, ready}
use Rattle.client_events.proofs.Wholes.{fault_is}

-- ---- answers

some_same : (a b : facts.Answer) → Some a ≡ Some b → a ≡ b
some_same a b is = cc

fault_answer : (a : facts.Answer) → is_fault a ≡ true → a ≡ facts.Refuses facts.NoDevice
fault_answer (facts.Refuses facts.NoDevice) is = refl
fault_answer (facts.Refuses other) is = absurd cc
fault_answer other is = absurd cc

-- the answer that is a device fault is the refusal
pub fault_only : (a : Answer) → is_fault (answer_of a) ≡ true → a ≡ answers.Refused refusals.NoDevice
fault_only (answers.Refused refusals.NoDevice) is = refl
fault_only (answers.Refused other) is = absurd cc
fault_only other is = absurd cc

pub no_fault : (a : Answer) → is_fault (answer_of a) ≡ false → IsDeviceFault (Ok a) → ⊥
no_fault a none is = let both : true ≡ false = ap (λ (x : Answer). is_fault (answer_of x)) (sym (fault_is a is)) ∙ none in absurd cc

-- ---- a row

module _ {D : Type 0} (state : D → DiskState) (w : World) (old mid : ClientHost D) (c table : ℕ) (way : Stored) (pair : RowPair) (last : ℕ) (r : IsReady w c table last)
    (answer : Answer) (k : Comes state old mid (call_alone w c (row_move w c table way pair)) (Ok answer)) where
  abbrev shape : Shape
  shape = k.0

  abbrev lucks : List Luck
  lucks = k.1

  abbrev m : Moved
  m = resolve_by c table way shape pair (first_luck lucks) w

  called : IsCalled state old mid (answering (row_answer w c table way pair shape last r (first_luck lucks)) m) answer
  called = subst (λ (s : WorldStep). IsCalled state old mid s answer) (row_alone w c table way pair shape last r lucks) k.2

  failed_is : m.failed ≡ is_fault (answer_of answer)
  failed_is = row_failed w c table way pair shape last r (first_luck lucks)
      ∙ ap is_fault (some_same (if m.failed then facts.Refuses facts.NoDevice else row_answer w c table way pair shape last r (first_luck lucks)) (answer_of answer) called.answer_is)

  -- where a disk fails in it
  pub row_bad : is_fault (answer_of answer) ≡ true → (shape : Shape) × (lucks : List Luck) × HasResolved state old mid (resolve_row c table way shape pair lucks w) answer
  row_bad bad =
      let failed : m.failed ≡ true = failed_is ∙ bad in
      let same : m ≡ and_unless m (client_until_idle c (other_lucks lucks)) = sym (ap (λ (b : Bool). if b then m else and_then m (client_until_idle c (other_lucks lucks))) failed) in (
        shape,
        lucks,
        subst (λ (x : Moved). HasResolved state old mid x answer) same (record { moved = record { held = called.held; outs = called.outs }; failed_is = failed_is }),
      )

  -- and the work behind it
  module _ (new : ClientHost D) where
    pub row_work : is_fault (answer_of answer) ≡ false → (result : Result Answer ClientFault) → ((v : World) → HoldsClients state v mid → Follows state v mid new c answer result)
        → IfOk result (λ given. (shape : Shape) × (lucks : List Luck) × HasResolved state old new (resolve_row c table way shape pair lucks w) given)
    row_work none (Err e) follows = tt
    row_work none (Ok given) follows =
        let f = follows m.world called.held in
        let works : Moved = client_until_idle c f.0 m.world in
        let failed : m.failed ≡ false = failed_is ∙ none in
        let all : Moved = record { world = works.world; outs = m.outs ++ works.outs; failed = works.failed } in
        let same : all ≡ and_unless m (client_until_idle c f.0) =
        sym (ap (λ (b : Bool). if b then m else record { world = works.world; outs = m.outs ++ works.outs; failed = b || works.failed }) failed) in (
          shape,
          first_luck lucks ∷ f.0,
          subst (λ (x : Moved). HasResolved state old new x given) same (record {
            moved = record {
              held = f.1.moved.held;
              outs = outs_then (owner_of m.world) (owner_of works.world) old mid new m.outs works.outs (owners_kept m.world works (until_idle_keeps c f.0 m.world)) called.outs f.1.moved.outs;
            };
            failed_is = told works.failed ∙ ap is_fault (sym f.1.answer_is);
          }),
        )
      where
        told : (b : Bool) → b ≡ is_fault (if b then facts.Refuses facts.NoDevice else answer_of answer)
        told true = refl
        told false = sym none

  pub row_held : AreClients state mid
  row_held = (m.world, called.held)

-- ---- all rows

-- So many rows are resolved, and these come next.
pub record Goes {D : Type 0} (state : D → DiskState) (w : World) (start host : ClientHost D) (c table : ℕ) (way : Stored) (last : ℕ) (pairs rest : List RowPair) (done : ℕ) : Type 0 where
  pub here : World
  pub told : List Outbox
  pub held : HoldsClients state here host
  pub outs : outs_of (owner_of here) host ≡ outs_of (owner_of here) start ++ said told
  pub ready : IsReady here c table (last + done)
  pub goes : (shapes : List Shape) (lucks : List Luck) → (ss : List Shape) × (ls : List Luck)
      × (resolve_each c table way ss ls pairs w ≡ put_before told (resolve_each c table way shapes lucks rest here))

-- what the loop keeps
pub record Resolving {D : Type 0} (state : D → DiskState) (start host : ClientHost D) (c table : ℕ) (way : Stored) (pairs rest : List RowPair) : Type 0 where
  pub some : AreClients state host
  pub counted : SameFaults state start.clients host.clients
  pub done : ℕ
  pub left : done + length rest ≡ length pairs
  pub plans : (n : ℕ) → HavePlansBelow state n start.clients → HavePlansBelow state (done + n) host.clients
  pub going : (w : World) (last : ℕ) → HoldsClients state w start → IsReady w c table last → Goes state w start host c table way last pairs rest done

-- these moves of all rows are the event's
abbrev pub Resolved : {D : Type 0} → (D → DiskState) → World → (start new : ClientHost D) → (c table : ℕ) → Stored → List RowPair → (count : ℕ) → Answer → Type 0
Resolved state w start new c table way pairs count given = (shapes : List Shape) × (lucks : List Luck)
    × IsFollowed state start new (resolve_each c table way shapes lucks pairs w) (answers.Number count) given

module _ {D : Type 0} (state : D → DiskState) (start : ClientHost D) (c table : ℕ) (way : Stored) (pairs : List RowPair) where
  pub resolving_first : AreClients state start → Resolving state start start c table way pairs pairs
  resolving_first some = record {
    some = some;
    counted = λ q. refl;
    done = 0;
    left = omega arith;
    plans = λ n below. subst (λ (i : ℕ). HavePlansBelow state i start.clients) (let is : n ≡ 0 + n = omega arith in is) below;
    going = λ w last h r. record {
      here = w;
      told = [];
      held = h;
      outs = sym (append-nil (outs_of (owner_of w) start));
      ready = subst (λ (n : ℕ). IsReady w c table n) (let is : last ≡ last + 0 = omega arith in is) r;
      goes = λ shapes lucks. (shapes, lucks, refl);
    };
  }

  module _ (host new : ClientHost D) (pair : RowPair) (rest : List RowPair) (answer : Answer) where
    module _ (w : World) (last done : ℕ) (d : Goes state w start host c table way last pairs (pair ∷ rest) done) (shape : Shape) (lucks : List Luck)
        (k : HasResolved state host new (resolve_row c table way shape pair lucks d.here) answer) where
      abbrev row : Moved
      row = resolve_row c table way shape pair lucks d.here

      behind_outs : outs_of (owner_of row.world) new ≡ outs_of (owner_of row.world) start ++ said (d.told ++ row.outs)
      behind_outs =
          outs_then (owner_of d.here) (owner_of row.world) start host new d.told row.outs (owners_kept d.here row (row_keeps c table way shape pair lucks d.here)) d.outs k.moved.outs

      -- all moves with these for the rows that come next
      all_goes : (shapes : List Shape) (more : List Luck) → (ss : List Shape) × (ls : List Luck)
          × (resolve_each c table way ss ls pairs w ≡ put_before d.told (and_unless row (resolve_each c table way shapes more rest)))
      all_goes shapes more =
          let g = d.goes (shape ∷ shapes) (row_lucks c table way shape shapes pair rest d.here lucks more) in
          (g.0, g.1, g.2 ∙ ap (λ (y : Moved). put_before d.told y) (each_next c table way shape shapes pair rest d.here lucks more))

      next_goes : row.failed ≡ false → Goes state w start new c table way last pairs rest (done + 1)
      next_goes none = record {
        here = row.world;
        told = d.told ++ row.outs;
        held = k.moved.held;
        outs = behind_outs;
        ready = subst (λ (n : ℕ). IsReady row.world c table n) (let is : last + done + 1 ≡ last + (done + 1) = omega arith in is) (row_ready d.here c table way pair shape (last + done) d.ready lucks none);
        goes = λ shapes more.
            let g = all_goes shapes more in
            let rests : Moved = resolve_each c table way shapes more rest row.world in (
              g.0,
              g.1,
              g.2 ∙ (ap (λ (b : Bool). put_before d.told (if b then row else record { world = rests.world; outs = row.outs ++ rests.outs; failed = b || rests.failed })) none
                  ∙ ap (λ (l : List Outbox). record { world = rests.world; outs = l; failed = rests.failed }) (sym (append_assoc d.told row.outs rests.outs))),
            );
      }

      ends_badly : (count : ℕ) → row.failed ≡ true → Resolved state w start new c table way pairs count answer
      ends_badly count failed =
          let g = all_goes [] [] in
          let same : resolve_each c table way g.0 g.1 pairs w ≡ put_before d.told row =
          g.2 ∙ ap (λ (b : Bool). put_before d.told (if b then row else and_then row (resolve_each c table way [] [] rest))) failed in (
            g.0,
            g.1,
            subst (λ (x : Moved). IsFollowed state start new x (answers.Number count) answer) (sym same) (record {
              moved = record { held = k.moved.held; outs = behind_outs };
              answer_is = fault_answer (answer_of answer) (sym k.failed_is ∙ failed) ∙ ap (λ (b : Bool). if b then facts.Refuses facts.NoDevice else facts.Number count) (sym failed);
            }),
          )

    -- behind a row that went well
    pub resolving_next : Resolving state start host c table way pairs (pair ∷ rest) → is_fault (answer_of answer) ≡ false → AreClients state new → HasCause state c host.clients new.clients (Ok answer)
        → ((n : ℕ) → HavePlansBelow state n host.clients → HavePlansBelow state (suc n) new.clients)
        → ((v : World) (last : ℕ) → HoldsClients state v host → IsReady v c table last
        → (shape : Shape) × (lucks : List Luck) × HasResolved state host new (resolve_row c table way shape pair lucks v) answer)
        → Resolving state start new c table way pairs rest
    resolving_next x none some cause plans one = record {
      some = some;
      counted = λ q. cause.counted (no_fault answer none) q ∙ x.counted q;
      done = x.done + 1;
      left = let left = x.left in omega (arith, left);
      plans = λ n below. subst (λ (i : ℕ). HavePlansBelow state i new.clients) (let is : suc (x.done + n) ≡ x.done + 1 + n = omega arith in is) (plans (x.done + n) (x.plans n below));
      going = λ w last h r.
          let d = x.going w last h r in
          let k = one d.here (last + x.done) d.held d.ready in
          next_goes w last x.done d k.0 k.1 k.2 (k.2.failed_is ∙ none);
    }

    -- and behind one in which a disk failed
    pub resolved_badly : Resolving state start host c table way pairs (pair ∷ rest) → is_fault (answer_of answer) ≡ true
        → ((v : World) (last : ℕ) → HoldsClients state v host → IsReady v c table last
        → (shape : Shape) × (lucks : List Luck) × HasResolved state host new (resolve_row c table way shape pair lucks v) answer)
        → (w : World) (last count : ℕ) → HoldsClients state w start → IsReady w c table last → Resolved state w start new c table way pairs count answer
    resolved_badly x bad one w last count h r =
        let d = x.going w last h r in
        let k = one d.here (last + x.done) d.held d.ready in
        ends_badly w last x.done d k.0 k.1 k.2 count (k.2.failed_is ∙ bad)

    pub plans_behind : Resolving state start host c table way pairs (pair ∷ rest) → ((n : ℕ) → HavePlansBelow state n host.clients → HavePlansBelow state (suc n) new.clients)
        → (n : ℕ) → HavePlansBelow state n start.clients → HavePlansBelow state (length pairs + n) new.clients
    plans_behind x plans n below = λ q node at.
        let few = plans (x.done + n) (x.plans n below) q node at in
        λ declared. let most = few declared in let left = x.left in omega (arith, most, left)

  -- no number is left for the next row
  pub spent_behind : (host : ClientHost D) (pair : RowPair) (rest : List RowPair) → Resolving state start host c table way pairs (pair ∷ rest) → (e : ClientFault)
      → ((v : World) (n : ℕ) → HoldsClients state v host → HavePlansBelow state n host.clients → IsNumberCause n (client_at v c) e)
      → (w : World) (n last : ℕ) → HoldsClients state w start → IsReady w c table last → HavePlansBelow state n start.clients → IsCauseAbove n last (length pairs) e
  spent_behind host pair rest x fault.Memory one w n last h r below = tt
  spent_behind host pair rest x fault.Spent one w n last h r below =
      let d = x.going w last h r in
      let left = x.left in
      ⊎_elim
      (λ (is : IsLast (client_at d.here c)).
      let spent : IsLast (Some (record { disk = d.ready.disk; agenda = Some [] })) = subst IsLast d.ready.at is in
      let few = d.ready.giving in inl (omega (arith, spent, few, left)))
      (λ (most : NUMBER_MAX ≤ x.done + n). inr (omega (arith, most, left))) (one d.here (x.done + n) d.held (x.plans n below))

  -- where no row comes next
  pub resolved_all : (host : ClientHost D) → Resolving state start host c table way pairs [] → (w : World) (last count : ℕ) → HoldsClients state w start → IsReady w c table last
      → Resolved state w start host c table way pairs count (answers.Number count)
  resolved_all host x w last count h r =
      let d = x.going w last h r in
      let g = d.goes [] [] in (
        g.0,
        g.1,
        subst (λ (y : Moved). IsFollowed state start host y (answers.Number count) (answers.Number count)) (sym g.2) (record {
          moved = record { held = d.held; outs = d.outs ∙ ap (λ (l : List Outbox). outs_of (owner_of d.here) start ++ said l) (sym (append-nil d.told)) };
          answer_is = refl;
        }),
      )

  pub plans_all : (host : ClientHost D) (rest : List RowPair) → Resolving state start host c table way pairs rest → (n : ℕ) → HavePlansBelow state n start.clients
      → HavePlansBelow state (length pairs + n) host.clients
  plans_all host rest x n below = λ q node at.
      let few = x.plans n below q node at in
      λ declared. let most = few declared in let left = x.left in omega (arith, most, left)

-- ---- the whole event

-- an answer that isn't a number is the event's
other_answer : (w : World) (c table : ℕ) (way : Stored) (shapes : List Shape) (some : List Luck) (s : WorldStep) (a : Answer) → s.answer ≡ Some (answer_of a)
    → ((count : ℕ) → a ≢ answers.Number count) → resolve_all w c table way shapes some s ≡ s
other_answer w c table way shapes some s answers.Done is isnt = rw is refl
other_answer w c table way shapes some s (answers.Number count) is isnt = absurd (isnt count refl)
other_answer w c table way shapes some s (answers.Shown what) is isnt = rw is refl
other_answer w c table way shapes some s (answers.Sums sum) is isnt = rw is refl
other_answer w c table way shapes some s (answers.Stored version content) is isnt = rw is refl
other_answer w c table way shapes some s (answers.Did it) is isnt = rw is refl
other_answer w c table way shapes some s (answers.Names names) is isnt = rw is refl
other_answer w c table way shapes some s (answers.Refused refusal) is isnt = rw is refl

number_answer : (w : World) (c table : ℕ) (way : Stored) (shapes : List Shape) (some : List Luck) (s : WorldStep) (count : ℕ) → s.answer ≡ Some (facts.Number count)
    → resolve_all w c table way shapes some s ≡ answering (facts.Number count) (resolve_each c table way shapes some (client_pairs (client_at w c) table) w)
number_answer w c table way shapes some s count is = rw is refl

first_only : (w : World) (c : ℕ) (f : Shape) (table : ℕ) (way : Stored) (some more : List Luck) (o : Option Client)
    → alone_there w c (ResolveAll table way) f (first_luck some ∷ more) o ≡ alone_there w c (ResolveAll table way) f some o
first_only w c f table way some more None = refl
first_only w c f table way some more (Some s) = refl

module _ {D : Type 0} (state : D → DiskState) (w : World) (old mid : ClientHost D) (c table : ℕ) (way : Stored) (answer : Answer)
    (k : Comes state old mid (call_alone w c (ResolveAll table way)) (Ok answer)) where
  abbrev plan_shape : Shape
  plan_shape = k.0

  abbrev all_lucks : List Luck
  all_lucks = k.1

  alone_is : call w c (ResolveAll table way) plan_shape all_lucks ≡ call_alone w c (ResolveAll table way) plan_shape all_lucks
  alone_is = looks_alone w c (ResolveAll table way) plan_shape all_lucks (all_still c plan_shape table way)

  pub all_held : AreClients state mid
  all_held = ((call_alone w c (ResolveAll table way) plan_shape all_lucks).world, k.2.held)

  -- where it is refused
  pub refused_all : ((count : ℕ) → answer ≢ answers.Number count) → ComesSo state old mid (step w (events.ResolveAll c table way)) (Ok answer)
  refused_all isnt = (
    record { calls = all_lucks; shape = plan_shape; shapes = []; tears = []; asks = [] },
    subst (λ (s : WorldStep). IsCalled state old mid s answer)
        (sym (ap (λ (s : WorldStep). resolve_all w c table way [] (other_lucks all_lucks) s) alone_is
        ∙ other_answer w c table way [] (other_lucks all_lucks) (call_alone w c (ResolveAll table way) plan_shape all_lucks) answer k.2.answer_is isnt))
        k.2,
  )

  -- where it is answered by a number
  module _ (count : ℕ) (is : answer ≡ answers.Number count) where
    said_is : (call_alone w c (ResolveAll table way) plan_shape all_lucks).answer ≡ Some (facts.Number count)
    said_is = k.2.answer_is ∙ ap (λ (a : Answer). Some (answer_of a)) is

    pub question : IsAsked w c table way plan_shape (call_alone w c (ResolveAll table way) plan_shape all_lucks)
    question = asked w c table way plan_shape count all_lucks said_is

    pub all_back : HoldsClients state w mid
    all_back = held_back state w old mid c table way plan_shape _ question answer k.2

    pub all_ready : (last : ℕ) → question.disk.last ≤ last → (seen question.disk).last ≤ last → IsReady w c table last
    all_ready last given giving = ready state w old mid c table way plan_shape _ question answer k.2 last given giving

    -- a number that is no less than two
    larger : (a b : ℕ) → (a ≤ b) ⊎ (b ≤ a)
    larger zero b = inl (omega arith)
    larger (suc a) zero = inr (omega arith)
    larger (suc a) (suc b) = ⊎_elim (λ less. inl (omega (arith, less))) (λ less. inr (omega (arith, less))) (larger a b)

    pub some_ready : (last : ℕ) × IsReady w c table last
    some_ready = ⊎_elim (λ (less : question.disk.last ≤ (seen question.disk).last). ((seen question.disk).last, all_ready (seen question.disk).last less (omega arith)))
        (λ less. (question.disk.last, all_ready question.disk.last (omega arith) less)) (larger question.disk.last (seen question.disk).last)

    pub resolved_event : (new : ClientHost D) (result : Result Answer ClientFault) → IfOk result (Resolved state w mid new c table way (client_pairs (client_at w c) table) count)
        → ComesSo state old new (step w (events.ResolveAll c table way)) result
    resolved_event new (Err e) r = tt
    resolved_event new (Ok given) r = (
      record { calls = first_luck all_lucks ∷ r.1; shape = plan_shape; shapes = r.0; tears = []; asks = [] },
      subst (λ (s : WorldStep). IsCalled state old new s given)
          (sym (ap (λ (s : WorldStep). resolve_all w c table way r.0 r.1 s) (ap_first ∙ alone_is)
          ∙ number_answer w c table way r.0 r.1 (call_alone w c (ResolveAll table way) plan_shape all_lucks) count said_is))
          (record {
            answer_is = ap (λ (a : facts.Answer). Some a) (sym r.2.answer_is);
            held = r.2.moved.held;
            outs = r.2.moved.outs ∙ ap (λ (l : List Outbox). l ++ said all.outs)
                (subst (λ (owners : ℕ → ℕ). outs_of owners mid ≡ outs_of owners old) (sym (owners_kept w all (each_keeps c table way r.0 r.1 (client_pairs (client_at w c) table) w)))
                (outs_back state w old mid c table way plan_shape _ question answer k.2));
          }),
    )
      where
        all : Moved
        all = resolve_each c table way r.0 r.1 (client_pairs (client_at w c) table) w

        -- the question takes no more than the first luck
        ap_first : call w c (ResolveAll table way) plan_shape (first_luck all_lucks ∷ r.1) ≡ call w c (ResolveAll table way) plan_shape all_lucks
        ap_first = looks_alone w c (ResolveAll table way) plan_shape (first_luck all_lucks ∷ r.1) (all_still c plan_shape table way)
            ∙ (first_only w c plan_shape table way all_lucks r.1 (client_at w c) ∙ sym alone_is)

    -- the numbers that it may need
    module _ (n : ℕ) where
      abbrev rows : ℕ
      rows = length (client_pairs (client_at w c) table)

      one_spent : (last : ℕ) → IsCauseAbove (suc n) last rows fault.Spent → (NUMBER_MAX < last + rows → IsLastWithin rows (Some (record { disk = question.disk; agenda = Some [] })))
          → IsNumberCauseWithin n rows (client_at w c) fault.Spent
      one_spent last above within = ⊎_elim (λ most. inl (subst (IsLastWithin rows) (sym question.at) (within most))) (λ (most : NUMBER_MAX < suc n + rows). inr (omega (arith, most))) above

      pub spent_all : (result : Result Answer ClientFault) → ((last : ℕ) → IsReady w c table last → IfErr result (IsCauseAbove (suc n) last rows)) → IfErr result (IsNumberCauseWithin n rows (client_at w c))
      spent_all (Ok given) spent = tt
      spent_all (Err fault.Memory) spent = tt
      spent_all (Err fault.Spent) spent = ⊎_elim
          (λ (less : question.disk.last ≤ (seen question.disk).last). one_spent (seen question.disk).last (spent (seen question.disk).last (all_ready (seen question.disk).last less (omega arith)))
          (λ most. inr (omega (arith, most))))
          (λ (less : (seen question.disk).last ≤ question.disk.last). one_spent question.disk.last (spent question.disk.last (all_ready question.disk.last (omega arith) less)) (λ most. inl (omega (arith, most))))
          (larger question.disk.last (seen question.disk).last)

-- what the question itself needs is among them
pub spent_first : (n rows : ℕ) (o : Option Client) (e : ClientFault) → IsNumberCause n o e → IsNumberCauseWithin n rows o e
spent_first n rows o fault.Memory k = tt
spent_first n rows o fault.Spent k = ⊎_elim (λ is. inl (last o is)) (λ (most : NUMBER_MAX ≤ n). inr (omega (arith, most))) k
  where
    last : (o : Option Client) → IsLast o → IsLastWithin rows o
    last None is = is
    last (Some s) is = inr (omega (arith, is))

-- ---- causes of a row, and of all

pub follows_held : {D : Type 0} (state : D → DiskState) (v : World) (mid new : ClientHost D) (c : ℕ) (answer : Answer) (result : Result Answer ClientFault) → Follows state v mid new c answer result
    → IfOk result (λ given. AreClients state new)
follows_held state v mid new c answer (Ok given) f = ((client_until_idle c f.0 v).world, f.1.moved.held)
follows_held state v mid new c answer (Err e) f = tt

pub memory_cause : (n : ℕ) (o : Option Client) (result : Result Answer ClientFault) → IfErr result (λ e. e ≡ fault.Memory) → IfErr result (IsNumberCause n o)
memory_cause n o (Ok given) k = tt
memory_cause n o (Err e) k = subst (IsNumberCause n o) (sym k) tt

-- what comes behind a call in which no disk failed
pub cause_then : {D : Type 0} (state : D → DiskState) (c : ℕ) (old mid new : tree.BTreeMap ℕ (ClientNode D)) (answer : Answer) (result : Result Answer ClientFault) → (IsDeviceFault (Ok answer) → ⊥)
    → HasCause state c old mid (Ok answer) → HasWorkCause state c mid new answer result → HasCause state c old new result
cause_then state c old mid new answer result isnt k x = record {
  counted = λ none q. x.counted none q ∙ k.counted isnt q;
  cause = λ is. record {
    one = subst (λ (n : ℕ). n < faults_at state new c) (k.counted isnt c) (x.cause is isnt).one;
    others = λ q off. (x.cause is isnt).others q off ∙ k.counted isnt q;
  };
}

pub cause_both : {D : Type 0} (state : D → DiskState) (c : ℕ) (old mid new : tree.BTreeMap ℕ (ClientNode D)) (answer : Answer) (result : Result Answer ClientFault) → (IsDeviceFault (Ok answer) → ⊥)
    → HasCause state c old mid (Ok answer) → HasCause state c mid new result → HasCause state c old new result
cause_both state c old mid new answer result isnt k x =
    cause_then state c old mid new answer result isnt k (record { counted = x.counted; cause = λ is isnt. x.cause is })

pub number_isnt : (count : ℕ) → IsDeviceFault (Ok (answers.Number count)) → ⊥
number_isnt count is = absurd cc

-- more plans than were begun
pub plans_to : {D : Type 0} (state : D → DiskState) (n m : ℕ) (clients : tree.BTreeMap ℕ (ClientNode D)) → n ≤ m → HavePlansBelow state n clients → HavePlansBelow state m clients
plans_to state n m clients less below = λ q node at. let few = below q node at in λ declared. let most = few declared in omega (arith, most, less)

-- the number that was answered, or none
pub number_is : (a : Answer) (count : ℕ) → Some count ≡ number_in a → a ≡ answers.Number count
number_is (answers.Number number) count is = cc
number_is other count is = absurd cc

pub not_number : (a : Answer) → None ≡ number_in a → (count : ℕ) → a ≢ answers.Number count
not_number a none count = λ same. absurd (let e : None ≡ Some count = none ∙ ap number_in same in cc)
