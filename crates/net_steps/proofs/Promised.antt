-- What the world promises of an event that leaves the wire as it is.
use Rattle.std.proofs.Common.{◌≡◌, inr, ℕ, ◌+◌, ◌<◌, Bool, false, List, [], ◌∷◌, map, Result, Ok, Err, refl, sym, ◌∙◌, ap, subst, arith}
use Rattle.std.specs.Prelude.{◌≢◌, IfOk, IfErr}
use Rattle.disk_trait.specs.Calls.{DiskState, IsCounted}
use Rattle.disk_trait.specs.Image.{IsImage}
use Rattle.table_model.specs.declared.event.Event.{Event}
use Rattle.table_model.specs.declared.line.TextLine.{TextLine}
use Rattle.step_tables.specs.Facts.{Answer, AnswerLine}
use Rattle.step_tables.specs.Lines.{line_of}
use Rattle.world_tables.specs.World.{Lucks, no_lucks}
use Rattle.wire_tables.specs.Wire.{Wire}
use Rattle.part_network.specs.Packets.{most_bytes}
use Rattle.gated_tables.specs.Net.{Net, NetStep, net_step, lines_of, still}
use Rattle.gated_tables.specs.Faults.{is_net_fault}
use Rattle.gated_laws.proofs.Reached.{before_reached}
use Rattle.net_network.specs.Packets.{net_bytes}
use Rattle.node_steps.specs.declared.fault.WorldFault.{WorldFault}
use Rattle.node_steps.specs.declared.fault.WorldFault.TheVariants.{Memory, Depot as DepotFailed, Limit as LimitPassed}
use Rattle.node_steps.specs.declared.world.World.{World as Nodes}
use Rattle.node_steps.specs.Steps as nodes
use Rattle.wire_steps.specs.declared.world.World.{World as Wires}
use Rattle.wire_steps.specs.Steps as wires
use Rattle.net_steps.specs.declared.world.World.{World}
use Rattle.net_steps.specs.Holds.{Holds, IsAt}
use Rattle.net_steps.specs.Steps.{IsMoved, IsDone, IsPast, IsStep, IsOver, HavePlansBelow, may_begin, Spends}
use Rattle.net_steps.specs.Alone.{Promises}
use Rattle.net_steps.proofs.Moved.{still_moved}

-- ---- faults that are told apart

abbrev pub code_of : WorldFault → ℕ
code_of (LimitPassed code count) = code
code_of other = 0

pub not_ten : {P : Type 0} (e : WorldFault) (last count : ℕ) → e ≡ LimitPassed 11 last → e ≡ LimitPassed 10 count → P
not_ten e last count is ten = absurd (let apart : 11 ≡ 10 = ap code_of (sym is ∙ ten) in omega (arith, apart))

pub is_eleven : (e : WorldFault) (last code count : ℕ) → e ≡ LimitPassed 11 last → e ≡ LimitPassed code count → code ≡ 11
is_eleven e last code count is other = ap code_of (sym other ∙ is)

pub memory_alone : {P : Type 0} (e : WorldFault) (code count : ℕ) → e ≡ Memory → e ≡ LimitPassed code count → P
memory_alone e code count is limit = absurd (let both : Memory ≡ LimitPassed code count = sym is ∙ limit in cc)

pub memory_apart : {T : Type 0} (result : Result T WorldFault) → IfErr result (λ e. e ≡ Memory) → IfErr result (λ e. e ≢ DepotFailed)
memory_apart (Ok x) k = tt
memory_apart (Err e) k = λ failed. let both : Memory ≡ DepotFailed = sym k ∙ failed in absurd cc

-- the depot was asked for nothing
pub counted_alone : {T : Type 0} (count : ℕ) (result : Result T WorldFault) → IfErr result (λ e. e ≢ DepotFailed) → IsCounted DepotFailed count count result
counted_alone count (Ok x) apart = refl
counted_alone count (Err e) apart = (λ failed. absurd (apart failed), λ other. refl)

-- ---- plans

grow : {D : Type 0} (state : D → DiskState) (k m : ℕ) (it : Nodes D) → nodes.HavePlansBelow state m it → nodes.HavePlansBelow state (k + m) it
grow state k m it b = λ c node at declared. let few = b c node at declared in omega (arith, few)

module _ {D : Type 0} (state : D → DiskState) (images : D → ℕ → List ℕ → Type 0)
    (only_now : (disk : D) (image : List ℕ) → images disk (state disk).moment image → IsImage (state disk).pending image)
    (n : Net) (event : Event) (is_out : ℕ → Bool) (old new : World D) (b : IsAt state is_out event n old) (same : new.wire ≡ old.wire) where
  moved : IsMoved state images n false n.wire is_out old new
  moved = still_moved state images n is_out old new only_now (before_reached n event b.before) b.held b.out same

  moved_as : (failed : Bool) (after : Wire) → failed ≡ false → after ≡ n.wire → IsMoved state images n failed after is_out old new
  moved_as failed after f a =
      subst (λ (w : Wire). IsMoved state images n failed w is_out old new) (sym a) (subst (λ (x : Bool). IsMoved state images n x n.wire is_out old new) (sym f) moved)

  -- with these lucks it is this step
  module _ (s : NetStep) (lucks : Lucks) (is : net_step n event lucks ≡ s) (well : is_net_fault n event lucks ≡ false) (wire : s.net.wire ≡ n.wire) where
    pub stepped : (lines : List TextLine) → map line_of lines ≡ lines_of n s → Holds state s.net new → IsStep state images n event lines is_out old new
    stepped lines told held = (
      lucks,
      subst (λ (t : NetStep). IsDone state images n t (is_net_fault n event lucks) lines is_out old new) (sym is)
          (record { lines_are = told; held = held; moved = moved_as (is_net_fault n event lucks) s.net.wire well wire }),
    )

    pub passed : most_bytes < net_bytes s.net.sent → IsOver state images n event is_out old new
    passed over = (
      lucks,
      subst (λ (t : NetStep). IsPast state images n t (is_net_fault n event lucks) is_out old new) (sym is)
          (record { over = over; moved = moved_as (is_net_fault n event lucks) s.net.wire well wire }),
    )

  pub plans_alone : (m : ℕ) → HavePlansBelow state m old → HavePlansBelow state (may_begin n event + m) new
  plans_alone m k = subst (λ (w : Wires D). wires.HavePlansBelow state (may_begin n event + m) w) (sym same) (grow state (may_begin n event) m old.wire.nodes k)

  -- an answer alone
  pub answers : (later : Net) (answer : Answer) → net_step n event no_lucks ≡ still later answer → is_net_fault n event no_lucks ≡ false → later.wire ≡ n.wire → Holds state later new
      → (result : Result (List TextLine) WorldFault) → IfOk result (λ lines. map line_of lines ≡ AnswerLine answer ∷ []) → IfErr result (λ e. e ≡ Memory)
      → Promises state images n event is_out result old new
  answers later answer is well wire held (Ok lines) told none = record {
    done = stepped (still later answer) no_lucks is well wire lines told held;
    over = tt;
    limit = λ m below. tt;
    plans = plans_alone;
    left = tt;
  }
  answers later answer is well wire held (Err e) told none = record {
    done = tt;
    over = λ count over. memory_alone e 10 count none over;
    limit = λ m below code count limit. memory_alone e code count none limit;
    plans = plans_alone;
    left = λ other ten whole. absurd (other none);
  }

  -- memory was refused
  pub memory_ends : (e : WorldFault) → e ≡ Memory → Promises state images n event is_out (Err e) old new
  memory_ends e none = record {
    done = tt;
    over = λ count over. memory_alone e 10 count none over;
    limit = λ m below code count limit. memory_alone e code count none limit;
    plans = plans_alone;
    left = λ other ten whole. absurd (other none);
  }

  -- a number is spent, and nothing changes
  pub spends : (e : WorldFault) (last : ℕ) → e ≡ LimitPassed 11 last → ((m : ℕ) → Spends m n event) → Holds state n new → Promises state images n event is_out (Err e) old new
  spends e last is spent held = record {
    done = tt;
    over = λ count over. not_ten e last count is over;
    limit = λ m below code count limit. inr (is_eleven e last code count is limit, spent m);
    plans = plans_alone;
    left = λ other ten whole. record { held = held; out = b.out; same = ap (λ (w : Wires D). wires.all_faults state w) same };
  }
