-- A prepared plan taken on, step by step.
use Rattle.std.proofs.Common.{◌≡◌, ◌⊎◌, inl, inr, ℕ, ◌+◌, ◌<◌, ◌++◌, length, Bool, true, false, List, [], ◌∷◌, Option, Some, None, Result, Ok, Err, refl, sym, ◌∙◌, ap, subst}
use Rattle.std.specs.Prelude.{map, IfErr, IfSome, IsSome, OnOk, is_some, is_none, ◌&&◌, IsErrOf}
use Rattle.std.specs.Vec.{vec_len}
use Rattle.std.specs.BTreeSet.{contains}
use Rattle.std.proofs.lemmas.List.{map-append}
use Rattle.disk_trait.specs.Image.{IsImage}
use Rattle.disk_trait.specs.Calls.{DiskState}
use Rattle.disk_trait.specs.Fuse.{behind, inner_of}
use Rattle.disk_trait.specs.declared.fuse.FuseDisk.{FuseDisk}
use Rattle.stab_base.specs.declared.limits.TheConstants.{NUMBER_MAX}
use Rattle.stab_base.specs.declared.node.Node.{Node}
use Rattle.step_tables.specs.declared.message.Message.{Message}
use Rattle.table_model.specs.declared.line.Fact.{Fact as Told}
use Rattle.gathering.specs.declared.gathered.Gathered.{Gathered}
use Rattle.gathering.specs.Room.{HasRoom, HasSpare}
use Rattle.held_value.specs.declared.slots.Main.{Main as HeldMain}
use Rattle.held_value.specs.declared.slots.Out.{Out as HeldOut}
use Rattle.held_value.specs.declared.slots.Shadow.{Shadow as HeldShadow}
use Rattle.held_value.specs.declared.slots.Slots.{Slots as HeldSlots}
use Rattle.slot_store.specs.Data.{key_cmp, key_at}
use Rattle.plan_log.specs.declared.plan.RowChange.{RowChange}
use Rattle.client_tables.specs.Transitions.{can_send}
use Rattle.client_journal.specs.declared.devs.Journal.{Journal}
use Rattle.client_journal.specs.declared.plan.Plan.{Plan}
use Rattle.client_journal.specs.Standing.{devs, writes_of, AreUp, IsReady}
use Rattle.step_tables.specs.Lines.{fact_of}
use Rattle.step_tables.specs.Messages.{Send}
use Rattle.step_tables.specs.Travels.{send_of}
use Rattle.client_node.specs.declared.fault.CallFault.{CallFault}
use Rattle.client_node.specs.declared.fault.CallFault.TheVariants as call
use Rattle.client_node.specs.declared.node.ClientNode.{ClientNode}
use Rattle.client_node.specs.declared.owed.Owed.{Owed}
use Rattle.client_node.specs.declared.owed.When.TheVariants.{AtCommit}
use Rattle.client_node.specs.declared.planning.Planned.{Planned}
use Rattle.client_node.specs.declared.waiting.Waiting.{Waiting}
use Rattle.client_node.specs.Answers.{IsFault}
use Rattle.client_node.specs.Begins.{BeginsPlan}
use Rattle.client_node.specs.Calls.{Fell}
use Rattle.client_node.specs.Carrying.{IsNotedRow, NotesPlan, IsAmid, IsCarried, IsUncarried, Carries}
use Rattle.client_node.specs.Looks.{IsNotDisk, Serves}
use Rattle.client_node.specs.Node.{told_by, sent_by}
use Rattle.client_node.specs.Waiting.{IsMore}
use Rattle.client_node.proofs.Serving.{looks_none}

-- ---- the row of a plan is noted

pub more_none : (w : Waiting) → IsMore w w
more_none w = record { outs = λ k h. h; ready = λ k h. h; conflicts = λ k h. h }

pub notes_none : {E : Type 0} (w : Waiting) (plan : Plan) → plan.row ≡ None → NotesPlan {E = E} w w plan (Ok tt)
notes_none w plan none = record { more = more_none w; row = subst (λ (o : Option RowChange). IfSome o (IsNotedRow w plan.table)) (sym none) tt }

pub notes_it : {E : Type 0} (old new : Waiting) (plan : Plan) (change : RowChange) → plan.row ≡ Some change → (r : Result (Unit {0}) E) → IsMore old new → OnOk r (IsNotedRow new plan.table change) → NotesPlan old new plan r
notes_it old new plan change is (Ok x) more noted = record { more = more; row = subst (λ (o : Option RowChange). IfSome o (IsNotedRow new plan.table)) (sym is) noted }
notes_it old new plan change is (Err e) more noted = record { more = more; row = tt }

-- what isn't there is none
pub some_or_not : {X : Type 0} (o : Option X) → is_some o ≡ false → IsSome o → ⊥
some_or_not o none is = let wrong : true ≡ false = sym is ∙ none in cc

-- ---- the steps

module _ {D : Type 0} (old : ClientNode D) where
  -- room was made and rows were noted, whatever became of the devices
  pub amid : (facts : Gathered Told) (messages : Gathered (Option Node × Message)) (waiting : Waiting) (client : Journal (FuseDisk D)) → facts.items.items ≡ old.facts.items.items → messages.items.items ≡ old.messages.items.items
      → ((n : ℕ) → HasRoom old.facts n → HasRoom facts n) → ((n : ℕ) → HasRoom old.messages n → HasRoom messages n) → IsMore old.waiting waiting → IsAmid old (record old { facts = facts; messages = messages; waiting = waiting; devs = client })
  amid facts messages waiting client f m fr mr more = record {
    number = refl;
    linked = refl;
    up = refl;
    declared = refl;
    told = ap (map fact_of) f;
    sent = ap (map send_of) m;
    owed = refl;
    fact_room = fr;
    message_room = mr;
    more = more;
  }

  module _ (state : D → DiskState) (images : D → ℕ → List ℕ → Type 0) (only_now : (disk : FuseDisk D) (image : List ℕ) → images (inner_of disk) (behind state disk).moment image → IsImage (behind state disk).pending image) where
    abbrev st : FuseDisk D → DiskState
    st f = behind state f

    abbrev im : FuseDisk D → ℕ → List ℕ → Type 0
    im f = images (inner_of f)

    -- memory was refused before the devices were asked
    pub short : (new : ClientNode D) → IsAmid old new → new.devs ≡ old.devs → AreUp old.devs → IsReady st old.devs (writes_of old.devs) → (e : CallFault) → e ≡ call.Memory → IsUncarried state images old new e
    short new a same up ready e is = record {
      cause = inr (inr is);
      mid = new;
      amid = a;
      serves = subst (λ (x : Journal (FuseDisk D)). Serves {T = Unit {0}} st im old.devs x (Err e)) (sym same)
          (looks_none st im only_now old.devs up ready (Err e) (λ disk. let no : call.Memory ≡ call.Disk = sym is ∙ err_is e disk in cc)).serves;
      fell = λ disk. let no : call.Memory ≡ call.Disk = sym is ∙ disk in absurd cc;
      other = λ n. refl;
    }
      where
        err_is : (e : CallFault) → IsErrOf {T = Unit {0}} (Err e) call.Disk → e ≡ call.Disk
        err_is e is = cc

    other_serves : {S T : Type 0} (a b : Journal (FuseDisk D)) (e : CallFault) → Serves {T = S} st im a b (Err e) → Serves {T = T} st im a b (Err e)
    other_serves {S} {T} a b e k = record {
      same = λ n. k.same (λ is. n (again is));
      up = λ n. k.up (λ is. n (again is));
      ready = λ n. k.ready (λ is. n (again is));
      refused = k.refused;
      counted = λ n. k.counted (λ is. n (again is));
      disk = λ is. k.disk (back is);
      leave = k.leave;
      fuse = k.fuse;
    }
      where
        again : IsErrOf {T = S} (Err e) call.Disk → IsErrOf {T = T} (Err e) call.Disk
        again is = let same : e ≡ call.Disk = cc in ap (λ (x : CallFault). Err x) same

        back : IsErrOf {T = T} (Err e) call.Disk → IsErrOf {T = S} (Err e) call.Disk
        back is = let same : e ≡ call.Disk = cc in ap (λ (x : CallFault). Err x) same

    -- the devices didn't take the plan on
    pub not_begun : (mid new : ClientNode D) → IsAmid old mid → (found : Result Owed CallFault) (e : CallFault) → Err e ≡ found → Serves st im old.devs mid.devs found
        → IfErr found (λ e. ((e ≡ call.Spent NUMBER_MAX) × ((devs st old.devs).journal.greatest ≡ NUMBER_MAX)) ⊎ IsFault e) → (IsErrOf found call.Disk → Fell state images mid new) → ((IsErrOf found call.Disk → ⊥) → new ≡ mid) → IsUncarried state images old new e
    not_begun mid new a (Ok x) e is k cause fell other = absurd cc
    not_begun mid new a (Err f) e is k cause fell other =
        let same : f ≡ e = cc in
        subst (λ (x : CallFault). IsUncarried state images old new x) same (record {
          cause = cause;
          mid = mid;
          amid = a;
          serves = other_serves old.devs mid.devs f k;
          fell = λ disk. fell (ap (λ (x : CallFault). Err x) disk);
          other = λ n. other (λ disk. n (err_is f disk));
        })
      where
        err_is : (e : CallFault) → IsErrOf {T = Owed} (Err e) call.Disk → e ≡ call.Disk
        err_is e is = cc

    -- they did
    pub begun_serves : (client : Journal (FuseDisk D)) (found : Result Owed CallFault) (owed : Owed) → Ok owed ≡ found → Serves st im old.devs client found → Serves {T = Unit {0}} st im old.devs client (Ok tt)
    begun_serves client found owed is k =
        let n : IsNotDisk found = λ disk. let no = is ∙ disk in cc in
        record {
          same = λ _. k.same n;
          up = λ _. k.up n;
          ready = λ _. k.ready n;
          refused = tt;
          counted = λ _. k.counted n;
          disk = λ no. absurd cc;
          leave = k.leave;
          fuse = k.fuse;
        }

    pub carried : (facts : Gathered Told) (messages more : Gathered (Option Node × Message)) (waiting : Waiting) (client : Journal (FuseDisk D)) (planned : Planned) (owed : Owed) (again : List (Option Node × Message)) (settled : ClientNode D) → settled ≡ record old { facts = facts; messages = messages; waiting = waiting; devs = client }
        → IsAmid old (record old { facts = facts; messages = messages; waiting = waiting; devs = client }) → messages.items.items ≡ old.messages.items.items → more.items.items ≡ messages.items.items ++ again → BeginsPlan st old.devs client planned.plan → owed.when ≡ AtCommit → owed.facts.items ≡ planned.facts.items → owed.messages.items ≡ planned.messages.items
        → HasRoom facts (length planned.facts.items) → HasRoom more (length planned.messages.items) → IfSome planned.plan.row (IsNotedRow waiting planned.plan.table) → IsCarried state old (record settled { owed = owed; messages = more }) planned (map send_of again)
    carried facts messages more waiting client planned owed again settled is a items added begins when told sent fact_room message_room noted =
        subst (λ (t : ClientNode D). IsCarried state old (record t { owed = owed; messages = more }) planned (map send_of again)) (sym is) (record {
          number = refl;
          linked = refl;
          up = refl;
          declared = refl;
          told = a.told;
          sent = ap (map send_of) added ∙ (map-append send_of messages.items.items again ∙ ap (λ (l : List Send). l ++ map send_of again) (ap (map send_of) items));
          begins = begins;
          when = when;
          tells = ap (map fact_of) told;
          sends = ap (map send_of) sent;
          fact_room = subst (λ (l : List Told). HasRoom facts (length l)) (sym told) fact_room;
          message_room = subst (λ (l : List (Option Node × Message)). HasRoom more (length l)) (sym sent) message_room;
          more = a.more;
          noted = noted;
        })

    pub refused_of : (new : ClientNode D) (planned : Planned) (again : List Send) (e : CallFault) → IsUncarried state images old new e → Carries state images old new planned again (Err e)
    refused_of new planned again e u = record { done = tt; serves = tt; refused = u }

    pub done_of : (new : ClientNode D) (planned : Planned) (again : List Send) → IsCarried state old new planned again → Serves {T = Unit {0}} st im old.devs new.devs (Ok tt) → Carries state images old new planned again (Ok tt)
    done_of new planned again k s = record { done = k; serves = s; refused = tt }
