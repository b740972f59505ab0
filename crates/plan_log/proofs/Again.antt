-- Intends, commits and ends that are read as they were written, and payloads that say nothing else.
use Rattle.std.proofs.Common.{◌≡◌, ℕ, Bool, true, cond, eqb, List, [], ◌∷◌, length, Result, Ok, Err, refl, sym, ◌∙◌, ap, subst, inl, inr}
use Rattle.std.specs.Int.{w64}
use Rattle.std.proofs.lemmas.Bool.{eqb-true}
use Rattle.std.proofs.lemmas.List.{append-nil}
use Rattle.stab_base.specs.Codec.{IsBytes}
use Rattle.value_codec.specs.Reading.{◌>>=◌, byte_at, number_at, whole}
use Rattle.value_codec.proofs.FieldReads.{Reads, bind_ok, ok_is, branch, no_fault, rest_fits}
use Rattle.value_codec.proofs.Answering.{whole_found}
use Rattle.field_codec.specs.Fields.{Reader}
use Rattle.field_codec.specs.Forms.{eight}
use Rattle.plan_log.specs.declared.plan.Intend.{Intend}
use Rattle.plan_log.specs.declared.plan.Commit.{Commit}
use Rattle.plan_log.specs.Spelling.{IsPlan, intend_spelling, HasIntend, intend_payload, commit_spelling, HasCommit, commit_payload, done_payload}
use Rattle.plan_log.specs.Reading.{checked_at, is_plan, is_intend, is_commit, any_intend_at, intend_at, any_commit_at, commit_at, plan_at, tag_at, intend_in, commit_in, done_in}
use Rattle.plan_log.specs.Reading.{SaysIntend, SaysCommit, SaysDone, said_done, said_commit, said_intend, said_by}
use Rattle.plan_log.proofs.PlanCodecs.{checked_is, intend_reads, commit_reads, plan_reads}

-- ---- what was written is read again

pub intend_again : (x : Intend) → HasIntend x → intend_in (intend_payload x) ≡ Ok x
unfolding intend_in whole tag_at byte_at
intend_again x h =
    let all : intend_at (intend_spelling x) ≡ Ok (x, []) = ap intend_at (sym (append-nil (intend_spelling x))) ∙ intend_reads.again x [] h in
    rw all refl

pub commit_again : (x : Commit) → HasCommit x → commit_in (commit_payload x) ≡ Ok x
unfolding commit_in whole tag_at byte_at
commit_again x h =
    let all : commit_at (commit_spelling x) ≡ Ok (x, []) = ap commit_at (sym (append-nil (commit_spelling x))) ∙ commit_reads.again x [] h in
    rw all refl

done_again : (plan : ℕ) → IsPlan plan → done_in (done_payload plan) ≡ Ok plan
unfolding done_in whole tag_at byte_at
done_again plan h =
    let all : plan_at (eight plan) ≡ Ok (plan, []) = ap plan_at (sym (append-nil (eight plan))) ∙ plan_reads.again plan [] h in
    rw all refl

pub says_intend : (x : Intend) → HasIntend x → said_by (intend_payload x) ≡ SaysIntend x
unfolding said_by
says_intend x h = ap (λ (r : Result Intend ℕ). said_intend r (said_commit (commit_in (intend_payload x)) (said_done (done_in (intend_payload x))))) (intend_again x h)

pub says_commit : (x : Commit) → HasCommit x → said_by (commit_payload x) ≡ SaysCommit x
unfolding said_by intend_in tag_at byte_at
says_commit x h = ap (λ (r : Result Commit ℕ). said_commit r (said_done (done_in (commit_payload x)))) (commit_again x h)

pub says_done : (plan : ℕ) → IsPlan plan → said_by (done_payload plan) ≡ SaysDone plan
unfolding said_by intend_in commit_in tag_at byte_at
says_done plan h = ap said_done (done_again plan h)

-- ---- what a payload that says it has in it

pub intend_said : (payload : List ℕ) (x : Intend) → said_by payload ≡ SaysIntend x → intend_in payload ≡ Ok x
unfolding said_by
intend_said payload x e = split (intend_in payload) (commit_in payload) (done_in payload) e
  where
    split : (r : Result Intend ℕ) (s : Result Commit ℕ) (t : Result ℕ ℕ) → said_intend r (said_commit s (said_done t)) ≡ SaysIntend x → r ≡ Ok x
    split (Ok y) s t e = let same : y ≡ x = cc in ap (λ (z : Intend). Ok z) same
    split (Err left) (Ok y) t e = absurd cc
    split (Err left) (Err left') (Ok y) e = absurd cc
    split (Err left) (Err left') (Err left'') e = absurd cc

pub commit_said : (payload : List ℕ) (x : Commit) → said_by payload ≡ SaysCommit x → commit_in payload ≡ Ok x
unfolding said_by
commit_said payload x e = split (intend_in payload) (commit_in payload) (done_in payload) e
  where
    split : (r : Result Intend ℕ) (s : Result Commit ℕ) (t : Result ℕ ℕ) → said_intend r (said_commit s (said_done t)) ≡ SaysCommit x → s ≡ Ok x
    split (Ok y) s t e = absurd cc
    split (Err left) (Ok y) t e = let same : y ≡ x = cc in ap (λ (z : Commit). Ok z) same
    split (Err left) (Err left') (Ok y) e = absurd cc
    split (Err left) (Err left') (Err left'') e = absurd cc

pub done_said : (payload : List ℕ) (x : ℕ) → said_by payload ≡ SaysDone x → done_in payload ≡ Ok x
unfolding said_by
done_said payload x e = split (intend_in payload) (commit_in payload) (done_in payload) e
  where
    split : (r : Result Intend ℕ) (s : Result Commit ℕ) (t : Result ℕ ℕ) → said_intend r (said_commit s (said_done t)) ≡ SaysDone x → t ≡ Ok x
    split (Ok y) s t e = absurd cc
    split (Err left) (Ok y) t e = absurd cc
    split (Err left) (Err left') (Ok y) e = let same : y ≡ x = cc in ap (λ (z : ℕ). Ok z) same
    split (Err left) (Err left') (Err left'') e = absurd cc

tag_takes : (tag : ℕ) (payload rest : List ℕ) → tag_at tag payload ≡ Ok rest → payload ≡ tag ∷ rest
unfolding tag_at byte_at
tag_takes tag [] rest e = absurd cc
tag_takes tag (b ∷ bytes) rest e =
    elim (branch (eqb b tag) (Ok bytes) (Err (length (b ∷ bytes))) rest e) [
      | inl y ↦ let is : b ≡ tag = eqb-true _ _ y.0 in ap (λ (n : ℕ). n ∷ bytes) is ∙ ap (λ (l : List ℕ). tag ∷ l) (ok_is bytes rest y.1)
      | inr n ↦ absurd (no_fault (length (b ∷ bytes)) rest n.1)
    ]

module _ {X : Type 0} (tag : ℕ) (payload : List ℕ) (x : X) where
  payload_takes : (P : X → Type 0) (spell : X → List ℕ) (read : Reader X) → Reads P spell read → IsBytes payload → (tag_at tag payload >>= λ rest. whole (read rest)) ≡ Ok x
      → P x × (payload ≡ tag ∷ spell x)
  payload_takes P spell read r fits e =
      let a = bind_ok (tag_at tag payload) (λ rest. whole (read rest)) x e in
      let tagged = tag_takes tag payload a.0 a.1 in
      let one : List ℕ = tag ∷ [] in
      let t = whole_found P spell read r a.0 (Ok x) (rest_fits one a.0 payload tagged fits) a.2 in
      (t.0, tagged ∙ ap (λ (l : List ℕ). tag ∷ l) t.1)

  payload_checked : (test : X → Bool) (read : Reader X) → (tag_at tag payload >>= λ rest. whole (checked_at test read rest)) ≡ Ok x → test x ≡ true
  unfolding whole
  payload_checked test read e =
      let a = bind_ok (tag_at tag payload) (λ rest. whole (checked_at test read rest)) x e in
      let b = bind_ok (checked_at test read a.0) (λ y. cond (eqb (length y.1) 0) (Ok y.0) (Err (length y.1))) x a.2 in
      elim (branch (eqb (length b.0.1) 0) (Ok b.0.0) (Err (length b.0.1)) x b.2) [
        | inl y ↦ subst (λ (z : X). test z ≡ true) (ok_is b.0.0 x y.1) (checked_is read test a.0 b.0.0 b.0.1 b.1)
        | inr n ↦ absurd (no_fault (length b.0.1) x n.1)
      ]

pub commit_takes : (payload : List ℕ) (x : Commit) → IsBytes payload → commit_in payload ≡ Ok x → HasCommit x × (payload ≡ commit_payload x)
unfolding commit_in
commit_takes payload x fits e = payload_takes 2 payload x HasCommit commit_spelling commit_at commit_reads fits e

intend_takes : (payload : List ℕ) (x : Intend) → IsBytes payload → intend_in payload ≡ Ok x → HasIntend x × (payload ≡ intend_payload x)
unfolding intend_in
intend_takes payload x fits e = payload_takes 1 payload x HasIntend intend_spelling intend_at intend_reads fits e

done_takes : (payload : List ℕ) (x : ℕ) → IsBytes payload → done_in payload ≡ Ok x → IsPlan x × (payload ≡ done_payload x)
unfolding done_in
done_takes payload x fits e = payload_takes 3 payload x IsPlan eight plan_at plan_reads fits e

pub only_intend : (payload : List ℕ) (x : Intend) → IsBytes payload → said_by payload ≡ SaysIntend x → HasIntend x × (payload ≡ intend_payload x)
only_intend payload x fits e = intend_takes payload x fits (intend_said payload x e)

pub only_commit : (payload : List ℕ) (x : Commit) → IsBytes payload → said_by payload ≡ SaysCommit x → HasCommit x × (payload ≡ commit_payload x)
only_commit payload x fits e = commit_takes payload x fits (commit_said payload x e)

pub only_done : (payload : List ℕ) (x : ℕ) → IsBytes payload → said_by payload ≡ SaysDone x → IsPlan x × (payload ≡ done_payload x)
only_done payload x fits e = done_takes payload x fits (done_said payload x e)

-- ---- their numbers are within limits, whatever the bytes are

pub intend_checked : (payload : List ℕ) (x : Intend) → intend_in payload ≡ Ok x → is_intend x ≡ true
unfolding intend_in intend_at
intend_checked payload x e = payload_checked 1 payload x is_intend any_intend_at e

pub commit_checked : (payload : List ℕ) (x : Commit) → commit_in payload ≡ Ok x → is_commit x ≡ true
unfolding commit_in commit_at
commit_checked payload x e = payload_checked 2 payload x is_commit any_commit_at e

pub done_checked : (payload : List ℕ) (x : ℕ) → done_in payload ≡ Ok x → is_plan x ≡ true
unfolding done_in plan_at
done_checked payload x e = payload_checked 3 payload x is_plan (number_at w64) e
