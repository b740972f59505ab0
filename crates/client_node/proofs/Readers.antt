-- What a call promises that only reads.
use Rattle.std.proofs.Common.{◌≡◌, ◌⊎◌, ⊎_elim, ℕ, Bool, true, false, List, [], ◌∷◌, Option, Some, None, Result, Ok, Err, refl, sym, ◌∙◌, ap, subst}
use Rattle.std.specs.Prelude.{not, ◌&&◌, if◌then◌else◌, option_map, IfSome, IfErr, IsErrOf}
use Rattle.disk_trait.specs.Image.{IsImage}
use Rattle.disk_trait.specs.Calls.{DiskState}
use Rattle.disk_trait.specs.Fuse.{behind, inner_of}
use Rattle.disk_trait.specs.declared.fuse.FuseDisk.{FuseDisk}
use Rattle.table_model.specs.declared.line.Answer.{Answer as TextAnswer}
use Rattle.table_model.specs.declared.line.Shown.{Shown}
use Rattle.table_model.specs.declared.line.Shown.TheVariants as shown
use Rattle.table_model.specs.declared.sum.RowSum.{RowSum}
use Rattle.table_model.specs.declared.sum.ShownSum.TheVariants as row_sums
use Rattle.table_model.specs.Sums as sums
use Rattle.row_value.specs.declared.content.Content.{Content}
use Rattle.held_value.specs.declared.slots.Shadow.{Shadow}
use Rattle.client_journal.specs.declared.devs.Journal.{Journal}
use Rattle.client_journal.specs.Standing.{devs}
use Rattle.step_tables.specs.Facts.{Answer}
use Rattle.step_tables.specs.Facts as facts
use Rattle.step_tables.specs.Lines.{shown_of, answer_of}
use Rattle.step_tables.specs.Sums.{by_digests}
use Rattle.step_tables.specs.Sums as table_sums
use Rattle.step_tables.specs.ClientMoves.{TableDisk, Plan, ClientDisk, ClientTask, Client, ClientStep, ClientMove, Shape, Show, Sum, quiet, show_in, slots_in, table_at, seen, planned_in}
use Rattle.journal_laws.specs.Whole.{whole_shadow}
use Rattle.client_node.specs.declared.fault.CallFault.{CallFault}
use Rattle.client_node.specs.declared.fault.CallFault.TheVariants as call
use Rattle.client_node.specs.declared.node.ClientNode.{ClientNode}
use Rattle.client_node.specs.declared.waiting.Waiting.{Waiting}
use Rattle.client_node.specs.Answers.{held_at, IsFault, IsAnswered}
use Rattle.client_node.specs.Calls.{Fell}
use Rattle.client_node.specs.Does.{Does, IsOfNode, step_with}
use Rattle.client_node.specs.Looks.{Looks}
use Rattle.client_node.specs.Node.{StandsFor, IsClient}
use Rattle.client_node.specs.Steady.{IsSteady, IsSteadyTable, IsSteadyPlan}
use Rattle.client_node.proofs.Answering.{does_quiet, of_err}
use Rattle.client_node.proofs.Asked.{stands_now, steady_now}
use Rattle.client_node.proofs.Links.{slots_are}
use Rattle.client_node.proofs.Steadies.{steady_seen}

abbrev at : ClientDisk → Option (List ClientTask) → Client
at disk agenda = record { disk = disk; agenda = agenda }

-- a move that doesn't need the link
no_link : {X : Type 0} (up : Bool) (x y : X) → (if not up && false then x else y) ≡ y
no_link true x y = refl
no_link false x y = refl

module _ {D : Type 0} (state : D → DiskState) (images : D → ℕ → List ℕ → Type 0) (only_now : (disk : FuseDisk D) (image : List ℕ) → images (inner_of disk) (behind state disk).moment image → IsImage (behind state disk).pending image) where
  abbrev im : FuseDisk D → ℕ → List ℕ → Type 0
  im f = images (inner_of f)

  module _ {T : Type 0} (old : ClientNode D) (disk : ClientDisk) (table : ℕ) (row : List ℕ) (r : Result T CallFault) (client : Journal (FuseDisk D)) (k : Looks (λ f. behind state f) im old.devs client r)
      (few : IfErr r (λ e. (e ≡ call.NoTable) ⊎ ((e ≡ call.NoRow) ⊎ IsFault e))) (new : ClientNode D) (fell : IsErrOf r call.Disk → Fell state images (record old { devs = client }) new) (other : (IsErrOf r call.Disk → ⊥) → new ≡ record old { devs = client }) where
    unspent : (q : Result T CallFault) → IfErr q (λ e. (e ≡ call.NoTable) ⊎ ((e ≡ call.NoRow) ⊎ IsFault e)) → (last : ℕ) → IsErrOf q (call.Spent last) → ⊥
    unspent (Ok x) h last is = cc
    unspent (Err e) h last is = let same : e ≡ call.Spent last = of_err e (call.Spent last) is in ⊎_elim (λ a. cc) (λ b. ⊎_elim (λ a. cc) (λ f. ⊎_elim (λ a. cc) (λ a. cc) f) b) h

    abbrev shown_answer : Answer
    shown_answer = show_in row (table_at (seen disk) table)

    pub shows : (said : T → Answer) (agenda : Option (List ClientTask)) → IsClient state old (at disk agenda) → old.is_up ≡ true → IsAnswered said shown_answer r → Does {T = T} state images (at disk agenda) (Show table row) said old new r
    shows said None t is_up a = let no = t.at.0 in absurd cc
    shows said (Some tasks) t is_up a =
        does_quiet state images only_now old disk (Some tasks) t is_up (Show table row) said shown_answer (λ shape of. no_link old.is_linked _ (quiet disk (Some tasks) shown_answer)) r client k a (unspent r few) new fell other

    pub sums_up : (said : T → Answer) (agenda : Option (List ClientTask)) → IsClient state old (at disk agenda) → old.is_up ≡ true → IsAnswered said (by_digests shown_answer) r → Does {T = T} state images (at disk agenda) (Sum table row) said old new r
    sums_up said None t is_up a = let no = t.at.0 in absurd cc
    sums_up said (Some tasks) t is_up a =
        does_quiet state images only_now old disk (Some tasks) t is_up (Sum table row) said (by_digests shown_answer) (λ shape of. no_link old.is_linked _ (quiet disk (Some tasks) (by_digests shown_answer))) r client k a (unspent r few) new fell other

-- ---- a row's objects by their digests

clean_same : (version : ℕ) (content : Content) (o : Option RowSum) → answer_of (sums.or_whole (shown.Clean version content) (option_map (row_sums.Clean version) o)) ≡ table_sums.or_whole (facts.Clean version content) (option_map (facts.CleanSum version) o)
clean_same version content None = refl
clean_same version content (Some row) = refl

mine_same : (number : ℕ) (content : Content) (o : Option RowSum) → answer_of (sums.or_whole (shown.Mine number content) (option_map (row_sums.Mine number) o)) ≡ table_sums.or_whole (facts.Mine number content) (option_map (facts.MineSum number) o)
mine_same number content None = refl
mine_same number content (Some row) = refl

conflict_same : (number version : ℕ) (content : Content) (o : Option RowSum)
    → answer_of (sums.or_whole (shown.Conflict number version content) (option_map (row_sums.Conflict number version) o)) ≡ table_sums.or_whole (facts.Contended number version content) (option_map (facts.ContendedSum number version) o)
conflict_same number version content None = refl
conflict_same number version content (Some row) = refl

pub sum_same : (what : Shown) → answer_of (sums.sum_answer what) ≡ table_sums.sum_answer (shown_of what)
sum_same (shown.Clean version content) = clean_same version content (sums.row_sum content)
sum_same (shown.Mine number content) = mine_same number content (sums.row_sum content)
sum_same (shown.Conflict number version content) = conflict_same number version content (sums.row_sum content)
