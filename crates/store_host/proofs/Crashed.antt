-- What a crash makes of a table and of all, and the lucks with which it does so.
use Rattle.std.proofs.Common.{◌≡◌, ◌⊎◌, inl, inr, ⊎_elim, ℕ, ◌<◌, ◌≤◌, true, false, cond, List, [], ◌∷◌, Option, Some, None, refl, sym, ◌∙◌, ap, subst, arith}
use Rattle.std.specs.Prelude.{nat_le, nat_lt}
use Rattle.std.proofs.lemmas.Bool.{cases_lt}
use Rattle.std.proofs.lemmas.Bool.Decides.{nat_tests}
use Rattle.std.specs.Ordering.{nat_cmp, is_eq}
use Rattle.std.specs.Cmp.{nat_cmp_total}
use Rattle.std.proofs.lemmas.Cmp.{tied_itself}
use Rattle.std.specs.BTreeMap.{is_at, WritesThrough}
use Rattle.std.specs.BTreeMap as tree
use Rattle.disk_trait.specs.Calls.{DiskState}
use Rattle.row_value.specs.declared.schema.Schema.{Schema}
use Rattle.step_tables.specs.Messages.{Luck}
use Rattle.step_tables.specs.Messages as messages
use Rattle.step_tables.specs.StoreMoves.{Crash, crashed}
use Rattle.store_node.specs.declared.node.TableNode.{TableNode}
use Rattle.store_node.specs.Node.{own_faults}
use Rattle.store_node.specs.Calls.{Crashes, IsBehind, step_at}
use Rattle.world_tables.specs.World.{World, Moved, hosted_at, schema_at, owner_of, still, move_hosted, table_crashes, luck_of, crash_luck, first_luck, other_lucks}
use Rattle.world_tables.specs.World as world
use Rattle.store_host.specs.declared.hosted.Hosted.{Hosted}
use Rattle.store_host.specs.Holds.{IsHosted, HoldsTables, SameFaults, LaterFaults}
use Rattle.store_host.specs.Steps.{HasTold, HasCrashed, moved_at}
use Rattle.store_host.specs.Calls.{AreMoved, HasLuck, AreCrashed}
use Rattle.store_host.proofs.Hosting.{telling, silent, crash_facts, down_stays}
use Rattle.store_host.proofs.Maps.{found}
use Rattle.store_host.proofs.Moving.{some_there, table_moved, crash_answer, faults_there, faults_same, faults_risen, nothing_moved}

-- ---- the luck of the write at work

few_calls : (calls : ℕ) (luck : Luck) → calls ≤ 1 → luck_of calls luck ≡ messages.FailedBefore
few_calls calls luck few = let e : nat_le calls 1 ≡ true = grind (arith, nat_tests, few) in rw e refl

some_calls : (calls : ℕ) (luck : Luck) → 1 < calls → calls < 4 → luck_of calls luck ≡ luck
some_calls calls luck more less =
    let e : nat_le calls 1 ≡ false = grind (arith, nat_tests, more) in
    let f : nat_lt calls 4 ≡ true = grind (arith, nat_tests, less) in
    rw (e, f) refl

many_calls : (calls : ℕ) (luck : Luck) → 4 ≤ calls → luck_of calls luck ≡ messages.FailedAfter
many_calls calls luck many =
    let e : nat_le calls 1 ≡ false = grind (arith, nat_tests, many) in
    let f : nat_lt calls 4 ≡ false = grind (arith, nat_tests, many) in
    rw (e, f) refl

-- ---- one table

module _ {D : Type 0} (state : D → DiskState) (images : D → ℕ → List ℕ → Type 0) (store : ℕ) (schema : Option Schema) (table : ℕ) (hosted : world.Hosted) (calls : ℕ) (old : Hosted D)
    (h : IsHosted state store schema table hosted old) where
  -- a node that is down stays
  pub crashed_down : old.node.is_up ≡ false → HasCrashed state store schema table hosted calls old old
  crashed_down down = record {
    lucks = [];
    told = (down_stays state store schema table hosted.store.disk hosted.store.agenda hosted.history hosted.made old [] h down).1 (luck_of calls messages.Done);
    done = λ same. refl;
    counted = λ is. refl;
    later = omega arith;
  }

  module _ (node : TableNode D) (k : Crashes state images calls hosted.store old.node node) (declared : node.is_declared ≡ old.node.is_declared) where
    abbrev new : Hosted D
    new = record { node = node; history = old.history }

    abbrev Told : Luck → Type 0
    Told luck = HasTold state store schema table hosted (moved_at store schema table hosted (Crash luck)) new [] []

    told_at : (luck : Luck) → IsBehind state old.node node (step_at old.node hosted.store (Crash luck)) → Told luck
    told_at luck b =
        let s = crashed hosted.store.disk hosted.store.agenda luck in
        let none = crash_facts hosted.store.disk hosted.store.agenda luck in
        silent state store schema table hosted s new [] (telling state store schema table hosted s old new h b hosted.made (declared ∙ h.made) refl) none.0 none.1

    -- a disk has failed by itself
    fell : own_faults state old.node < own_faults state node → (luck : Luck) → crash_luck calls [] luck ≡ luck → (luck ≡ messages.Done → ⊥) → Told luck
        → HasCrashed state store schema table hosted calls old new
    fell rose luck is isnt told = record {
      lucks = luck ∷ [];
      told = subst Told (sym is) told;
      done = λ same. absurd (omega (arith, rose, same));
      counted = λ e. absurd (isnt e);
      later = k.later;
    }

    -- none has
    stood : own_faults state node ≡ own_faults state old.node → (luck : Luck) → Told (luck_of calls luck) → HasCrashed state store schema table hosted calls old new
    stood same luck told = record { lucks = messages.Done ∷ luck ∷ []; told = told; done = λ _. refl; counted = λ _. same; later = k.later }

    by_calls : own_faults state node ≡ own_faults state old.node → (calls < 2) ⊎ (2 ≤ calls) → (calls < 4) ⊎ (4 ≤ calls) → HasCrashed state store schema table hosted calls old new
    by_calls same (inl few) which =
        let less : calls ≤ 1 = omega (arith, few) in stood same messages.Done (subst Told (sym (few_calls calls messages.Done less)) (told_at messages.FailedBefore (k.undone same less)))
    by_calls same (inr more) (inl less) =
        let one : 1 < calls = omega (arith, more) in
        ⊎_elim
        (λ b. stood same messages.FailedBefore (subst Told (sym (some_calls calls messages.FailedBefore one less)) (told_at messages.FailedBefore b)))
        (λ b. stood same messages.FailedAfter (subst Told (sym (some_calls calls messages.FailedAfter one less)) (told_at messages.FailedAfter b)))
        k.crashed
    by_calls same (inr more) (inr many) = stood same messages.Done (subst Told (sym (many_calls calls messages.Done many)) (told_at messages.FailedAfter (k.done same many)))

    pub crashed_up : HasCrashed state store schema table hosted calls old new
    crashed_up =
        ⊎_elim
        (λ rose. ⊎_elim (λ b. fell rose messages.FailedBefore refl (λ e. cc) (told_at messages.FailedBefore b)) (λ b. fell rose messages.FailedAfter refl (λ e. cc) (told_at messages.FailedAfter b))
        k.crashed)
        (λ most. let l = k.later in by_calls (omega (arith, most, l)) (cases_lt calls 2) (cases_lt calls 4))
        (cases_lt (own_faults state old.node) (own_faults state node))

-- ---- all tables

-- of a table that isn't there nothing does
pub crash_nowhere : (w : World) (table : ℕ) (luck : Luck) → hosted_at w table ≡ None → table_crashes luck (Some table) w ≡ still w
crash_nowhere w table luck none = ap (λ (o : Option world.Hosted). move_hosted w table (Crash luck) o) none

module _ {D : Type 0} (state : D → DiskState) (w : World) (calls : ℕ) (old : tree.BTreeMap ℕ (Hosted D)) (h : HoldsTables state w old) where
  -- no table crashes
  pub none_crashed : (busy : Option ℕ) → ((l : Luck) → table_crashes l busy w ≡ still w) → AreCrashed state w busy calls old old
  none_crashed busy quiet = (
    [],
    subst (λ (m : Moved). AreMoved state w old [] [] false m) (sym (quiet (luck_of calls messages.Done))) (nothing_moved state w old [] h),
    record { done = λ same. refl; counted = λ e q. refl; cause = λ isnt. absurd (isnt refl); idle = λ none. refl },
  )

  -- the busy one does
  module _ (new : tree.BTreeMap ℕ (Hosted D)) (table : ℕ) (it was : Hosted D) (at : Some was ≡ tree.get nat_cmp old table) (wrote : WritesThrough nat_cmp (nat_cmp table) old it new) where
    changed_at : (q : ℕ) → tree.get nat_cmp new q ≡ cond (is_at (nat_cmp table) q) (Some it) (tree.get nat_cmp old q)
    changed_at = (wrote.3 (some_there _ was at)).0

    module _ (hosted : world.Hosted) (there : hosted_at w table ≡ Some hosted) (k : HasCrashed state (owner_of w table) (schema_at w table) table hosted calls was it) where
      own_is : SameFaults state old new → own_faults state it.node ≡ own_faults state was.node
      own_is same =
          let is : is_at (nat_cmp table) table ≡ true = ap is_eq (tied_itself nat_cmp_total table) in
          let t = faults_there state old new table it was at changed_at table true is in
          sym t.0 ∙ (same table ∙ t.1 refl)

      rises : (first_luck k.lucks ≡ messages.Done → ⊥) → own_faults state was.node < own_faults state it.node
      rises isnt = ⊎_elim (λ rose. rose) (λ most. let l = k.later in absurd (isnt (k.done (omega (arith, most, l))))) (cases_lt (own_faults state was.node) (own_faults state it.node))

      crashed_at : AreCrashed state w (Some table) calls old new
      crashed_at =
          let luck = crash_luck calls (other_lucks k.lucks) (first_luck k.lucks) in (
            k.lucks,
            (table_moved state w old new table it was at wrote h (Crash luck) hosted [] [] false there k.told (crash_answer hosted.store.disk hosted.store.agenda luck)),
            record {
              done = λ same. k.done (own_is same);
              counted = λ e. faults_same state old new table it was at changed_at (k.counted e);
              cause = λ isnt. faults_risen state old new table it was at changed_at (rises isnt);
              idle = λ none. absurd cc;
            },
          )

    pub table_crashed : ((hosted : world.Hosted) → IsHosted state (owner_of w table) (schema_at w table) table hosted was → HasCrashed state (owner_of w table) (schema_at w table) table hosted calls was it)
        → AreCrashed state w (Some table) calls old new
    table_crashed crash = let f = found state w old table was h at in crashed_at f.0 f.1 (crash f.0 f.2)

-- a crash's disks fail no less often
pub luck_later : {D : Type 0} (state : D → DiskState) (busy : Option ℕ) (old new : tree.BTreeMap ℕ (Hosted D)) (lucks : List Luck) → HasLuck state busy old new lucks → LaterFaults state old new
luck_later state busy old new lucks k = by_luck (first_luck lucks) refl
  where
    by_luck : (luck : Luck) → first_luck lucks ≡ luck → LaterFaults state old new
    by_luck messages.Done is q = let same = k.counted is q in omega (arith, same)
    by_luck messages.FailedBefore is q = (k.cause (λ e. let both : messages.Done ≡ messages.FailedBefore = sym e ∙ is in cc)).each q
    by_luck messages.FailedAfter is q = (k.cause (λ e. let both : messages.Done ≡ messages.FailedAfter = sym e ∙ is in cc)).each q

-- and a fall behind it changes none of that
pub luck_then : {D : Type 0} (state : D → DiskState) (busy : Option ℕ) (old mid new : tree.BTreeMap ℕ (Hosted D)) (lucks : List Luck) → HasLuck state busy old mid lucks → SameFaults state mid new
    → HasLuck state busy old new lucks
luck_then state busy old mid new lucks k same = record {
  done = λ s. k.done (λ q. sym (same q) ∙ s q);
  counted = λ e q. same q ∙ k.counted e q;
  cause = λ isnt.
      let r = k.cause isnt in
      record {
        each = λ q. let a = r.each q in let b = same q in omega (arith, a, b);
        one = (r.one.0, let a = r.one.1 in let b = same r.one.0 in omega (arith, a, b));
      };
  idle = k.idle;
}
