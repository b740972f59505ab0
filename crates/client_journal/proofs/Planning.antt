-- At every moment of a plan the devices have named slots.
use Rattle.std.proofs.Common.{◌≡◌, inl, inr, ⊎_elim, ◌⊎◌, ℕ, suc, ◌+◌, ◌<◌, ◌≤◌, Bool, true, false, List, [], ◌∷◌, ◌++◌, length, get_or, Some, refl, sym, ◌∙◌, ap, subst, arith}
use Rattle.std.specs.Prelude.{◌==◌, ◌&&◌, ◌||◌, nat_lt, if◌then◌else◌}
use Rattle.std.specs.BTreeMap.{insert_entry}
use Rattle.std.proofs.lemmas.Bool.{cases_eq}
use Rattle.std.proofs.lemmas.Bool.Decides.{nat_tests}
use Rattle.stab_base.specs.declared.chunk_name.ChunkName.{ChunkName}
use Rattle.held_value.specs.declared.local_name.LocalName.{LocalName}
use Rattle.chunk_store.specs.Payload.{name_cmp}
use Rattle.slot_store.specs.Data.{SlotData, slots_of}
use Rattle.plan_log.specs.declared.plan.Intend.{Intend}
use Rattle.plan_log.specs.declared.plan.Commit.{Commit}
use Rattle.plan_log.specs.Journal.{Journal as Planned, is_intended, intended, committed, with_intend, with_commit}
use Rattle.client_journal.specs.Names.{Has}
use Rattle.client_journal.specs.Devs.{ClientDevs, Write, PutIntend, PutCommit, chunk_of, local_in}
use Rattle.client_journal.specs.Redone.{applied, redone}
use Rattle.client_journal.specs.NamedSlots.{IsNamed, IsNewOf, NamedSlots, IsAtRest, IsRow, names_behind}
use Rattle.client_journal.specs.Agenda.{fresh_name, puts, bring_writes, plan_writes, redo_writes, Commits, meaning_with, commit_is_to_come, IsMoment, Runs}
use Rattle.client_journal.proofs.Lookups.{has_or_not, local_put, local_put_other}
use Rattle.client_journal.proofs.Applied.{as_held, row_or_not, one_row, named_behind, named_new, named_other, named_before, before_named}
use Rattle.client_journal.proofs.Redoing.{Known, IsDropping, committed_at, redo_runs}

pub intends : (planned : Planned) (intend : Intend) → planned.greatest < intend.plan → with_intend planned intend ≡ intended intend
intends planned intend lt = let above : nat_lt planned.greatest intend.plan ≡ true = grind (arith, nat_tests) in ap (λ (t : Bool). if t then intended intend else planned) above

pub commits_new : (planned : Planned) (commit : Commit) → planned.greatest < commit.plan → with_commit planned commit ≡ committed commit
commits_new planned commit lt =
    let above : nat_lt planned.greatest commit.plan ≡ true = grind (arith, nat_tests) in
    ap (λ (t : Bool). if t || ((commit.plan == planned.greatest) && is_intended planned.at_work) then committed commit else planned) above

pub either_way : (t : Bool) → t || true ≡ true
either_way true = refl
either_way false = refl

pub commits_intended : (intend : Intend) (commit : Commit) → intend.plan ≡ commit.plan → with_commit (intended intend) commit ≡ committed commit
commits_intended intend commit same =
    let equal : (commit.plan == intend.plan) ≡ true = grind (arith, nat_tests) in
    ap (λ (t : Bool). if nat_lt intend.plan commit.plan || (t && true) then committed commit else intended intend) equal
    ∙ ap (λ (t : Bool). if t then committed commit else intended intend) (either_way (nat_lt intend.plan commit.plan))

module _ (meaning : LocalName → List ℕ) (d : ClientDevs) (intend : Intend) (brought : List (List ℕ)) (commit : Commit) (n : NamedSlots meaning d) (rest : IsAtRest d) (k : Commits d intend brought commit) where
  abbrev v : ℕ
  v = commit.plan

  abbrev held : SlotData
  held = d.held

  abbrev after : SlotData
  after = applied commit held

  abbrev means : LocalName → List ℕ
  means = meaning_with meaning v brought

  abbrev R : List Write → ClientDevs → Type 0
  R = IsMoment means held commit

  -- ---- what is known from before

  record Old (stood : SlotData) : Type 0 where
    pub there : (name : LocalName) → IsNamed stood name → local_in d.chunks name ≡ Some (meaning name)
    pub once : (name : LocalName) (a b : IsNamed stood name) → (a.table ≡ b.table) × (a.row ≡ b.row)
    pub below : (name : LocalName) → IsNamed stood name → name.plan < v
    pub all : (name : LocalName) (bytes : List ℕ) → local_in d.chunks name ≡ Some bytes → IsNamed stood name

  held_is : redone d ≡ held
  held_is = as_held d.journal.at_work d.held rest.not_committed

  old : Old held
  old = subst Old held_is (record {
    there = n.there;
    once = n.once;
    below = λ name a. omega (arith, n.below name a, k.newest);
    all = λ name bytes h. ⊎_elim (λ a. a) (λ left. absurd (rest.none_left name bytes left h)) (n.others name bytes h);
  })

  means_old : (name : LocalName) → name.plan < v → means name ≡ meaning name
  means_old name lt = grind (arith, nat_tests)

  means_new : (name : LocalName) → name.plan ≡ v → means name ≡ get_or brought name.ordinal []
  means_new name is = grind (arith, nat_tests)

  old_there : (name : LocalName) → IsNamed held name → local_in d.chunks name ≡ Some (means name)
  old_there name a = old.there name a ∙ ap (λ (b : List ℕ). Some b) (sym (means_old name (old.below name a)))

  -- ---- while the brought chunks are put

  record IsPutting (cs : List (ChunkName × List ℕ)) (count : ℕ) : Type 0 where
    pub most : count ≤ length brought
    pub others : (q : LocalName) → (q.plan ≡ v → ⊥) → local_in cs q ≡ local_in d.chunks q
    pub new : (q : LocalName) (bytes : List ℕ) → q.plan ≡ v → local_in cs q ≡ Some bytes → q.ordinal < count
    pub has : (i : ℕ) → i < count → local_in cs (fresh_name v i) ≡ Some (get_or brought i [])

  abbrev putting : List (ChunkName × List ℕ) → ClientDevs
  putting cs = record { chunks = cs; held = held; journal = intended intend }

  nothing_put : IsPutting d.chunks 0
  nothing_put = record {
    most = omega arith;
    others = λ q other. refl;
    new = λ q bytes is h. let lt = old.below q (old.all q bytes h) in absurd (omega arith);
    has = λ i lt. absurd (omega arith);
  }

  putting_named : (cs : List (ChunkName × List ℕ)) (count : ℕ) → IsPutting cs count → NamedSlots means (putting cs)
  putting_named cs count p = record {
    there = λ name a. p.others name (λ is. let lt = old.below name a in absurd (omega arith)) ∙ old_there name a;
    once = old.once;
    below = λ name a. omega (arith, old.below name a, k.plan);
    others = λ name bytes h. elim (cases_eq name.plan v) [
      | inl is ↦ inr (record { plan_is = omega (arith, k.plan); ordinal = let lt = p.new name bytes is h in omega (arith, p.most, k.count) })
      | inr other ↦ inl (old.all name bytes (sym (p.others name other) ∙ h))
    ];
    apart = λ name left a. let lt = old.below name a in absurd (omega (arith, left.plan_is, k.plan));
  }

  put_next : (cs : List (ChunkName × List ℕ)) (count : ℕ) (bytes : List ℕ) → IsPutting cs count → count < length brought → bytes ≡ get_or brought count []
      → IsPutting (insert_entry name_cmp cs (chunk_of (fresh_name v count)) bytes) (count + 1)
  put_next cs count bytes p lt is = record {
    most = omega arith;
    others = λ q other. local_put_other cs (fresh_name v count) bytes q (λ same. other (sym (ap (λ (x : LocalName). x.plan) same))) ∙ p.others q other;
    new = λ q found at h. elim (cases_eq q.ordinal count) [
      | inl same ↦ omega arith
      | inr other ↦
          let before : local_in cs q ≡ Some found = sym (local_put_other cs (fresh_name v count) bytes q (λ same. other (sym (ap (λ (x : LocalName). x.ordinal) same)))) ∙ h in
          let less = p.new q found at before in
          omega arith
    ];
    has = λ i less. elim (cases_eq i count) [
      | inl same ↦ subst (λ (j : ℕ). local_in (insert_entry name_cmp cs (chunk_of (fresh_name v count)) bytes) (fresh_name v j) ≡ Some (get_or brought j [])) (sym same) (local_put cs (fresh_name v count) bytes ∙ ap (λ (b : List ℕ). Some b) is)
      | inr other ↦ local_put_other cs (fresh_name v count) bytes (fresh_name v i) (λ same. other (sym (ap (λ (x : LocalName). x.ordinal) same))) ∙ p.has i (omega arith)
    ];
  }

  to_come : (count : ℕ) (more : List (List ℕ)) (ws : List Write) → commit_is_to_come (puts v count more ++ (PutCommit commit ∷ ws)) ≡ true
  to_come count [] ws = refl
  to_come count (bytes ∷ more) ws = to_come (count + 1) more ws

  more_to_come : (count : ℕ) (more : List (List ℕ)) (ws : List Write) → puts v count more ++ (PutCommit commit ∷ ws) ≡ [] → ⊥
  more_to_come count [] ws none = cc
  more_to_come count (bytes ∷ more) ws none = cc

  -- a moment before the commit
  before_moment : (ws : List Write) (e : ClientDevs) → commit_is_to_come ws ≡ true → (ws ≡ [] → ⊥) → NamedSlots means e → redone e ≡ held → R ws e
  before_moment ws e coming some named is = record {
    named = named;
    held = is ∙ sym (ap (λ (t : Bool). if t then held else after) coming);
    rests = λ none. absurd (some none);
  }

  putting_runs : (cs : List (ChunkName × List ℕ)) (count : ℕ) (more : List (List ℕ)) (ws : List Write) → IsPutting cs count → count + length more ≡ length brought
      → ((i : ℕ) → get_or more i [] ≡ get_or brought (count + i) [])
      → ((ds : List (ChunkName × List ℕ)) → IsPutting ds (length brought) → Runs R (putting ds) (PutCommit commit ∷ ws)) → Runs R (putting cs) (puts v count more ++ (PutCommit commit ∷ ws))
  putting_runs cs count [] ws p size each last = last cs (subst (IsPutting cs) (omega (arith, size)) p)
  putting_runs cs count (bytes ∷ more) ws p size each last =
      let at : count + 0 ≡ count = omega arith in
      let is : bytes ≡ get_or brought count [] = each 0 ∙ ap (λ (i : ℕ). get_or brought i []) at in
      let next : (i : ℕ) → get_or more i [] ≡ get_or brought (count + 1 + i) [] = λ i. each (suc i) ∙ ap (λ (j : ℕ). get_or brought j []) (omega arith) in (
        before_moment (puts v count (bytes ∷ more) ++ (PutCommit commit ∷ ws)) (putting cs) (to_come count (bytes ∷ more) ws) (more_to_come count (bytes ∷ more) ws) (putting_named cs count p) refl,
        putting_runs (insert_entry name_cmp cs (chunk_of (fresh_name v count)) bytes) (count + 1) more ws (put_next cs count bytes p (omega (arith, size)) is) (omega (arith, size)) next last,
      )

  -- ---- once the commit is put

  abbrev IsIts : ℕ → List ℕ → Type 0
  IsIts table row = IsRow commit.table commit.row table row

  abbrev as_old : (name : LocalName) (a : IsNamed after name) → slots_of held a.table a.row ≡ Some a.stored → IsNamed held name
  as_old name a there = record { table = a.table; row = a.row; stored = a.stored; there = there; among = a.among }

  -- what the new slots name stands in no other row
  not_elsewhere : (name : LocalName) → Has (names_behind commit.row) name → (b : IsNamed held name) → (IsIts b.table b.row → ⊥) → ⊥
  not_elsewhere name has b other =
      ⊎_elim
      (λ kept.
      let a = named_before commit held name kept in
      let same = old.once name a.0 b in
      other (subst (λ (t : ℕ). IsIts t b.row) same.0 (subst (IsIts a.0.table) same.1 a.1)))
      (λ new. let lt = old.below name b in absurd (omega (arith, new.plan_is)))
      (k.kept_or_new name has)

  abbrev Case : (name : LocalName) → IsNamed after name → Type 0
  Case name a = (IsIts a.table a.row × Has (names_behind commit.row) name) ⊎ ((IsIts a.table a.row → ⊥) × (slots_of held a.table a.row ≡ Some a.stored))

  known : Known means after commit v
  known = record {
    once = λ name a b. pick name a b (named_behind commit held name a) (named_behind commit held name b);
    below = λ name a.
        ⊎_elim
        (λ its. ⊎_elim (λ kept. let lt = old.below name (named_before commit held name kept).0 in omega arith) (λ new. omega (arith, new.plan_is)) (k.kept_or_new name its.1))
        (λ other. let lt = old.below name (as_old name a other.1) in omega arith)
        (named_behind commit held name a);
    apart = λ name has a.
        let drop_ = k.dropped name has in
        let b = named_before commit held name drop_.0 in
        ⊎_elim
        (λ its. drop_.1 its.1)
        (λ other. let same = old.once name b.0 (as_old name a other.1) in other.0 (subst (λ (t : ℕ). IsIts t a.row) same.0 (subst (IsIts b.0.table) same.1 b.1)))
        (named_behind commit held name a);
  }
    where
      pick : (name : LocalName) (a b : IsNamed after name) → Case name a → Case name b → (a.table ≡ b.table) × (a.row ≡ b.row)
      pick name a b (inl x) (inl y) = one_row commit.table commit.row a.table b.table a.row b.row x.0 y.0
      pick name a b (inl x) (inr y) = absurd (not_elsewhere name x.1 (as_old name b y.1) y.0)
      pick name a b (inr x) (inl y) = absurd (not_elsewhere name y.1 (as_old name a x.1) x.0)
      pick name a b (inr x) (inr y) = old.once name (as_old name a x.1) (as_old name b y.1)

  all_put : (cs : List (ChunkName × List ℕ)) → IsPutting cs (length brought) → IsDropping means after commit v cs commit.drops
  all_put cs p = record {
    kept = λ name a.
        ⊎_elim
        (λ its. ⊎_elim (λ kept. still name (named_before commit held name kept).0) (λ new. put name new) (k.kept_or_new name its.1))
        (λ other. still name (as_old name a other.1))
        (named_behind commit held name a);
    left = λ name bytes h. elim (cases_eq name.plan v) [
      | inl is ↦ inl (named_new commit held name (k.all_new name (record { plan_is = is; ordinal = p.new name bytes is h }))).0
      | inr other ↦ gone name (old.all name bytes (sym (p.others name other) ∙ h))
    ];
    within = λ name has. has;
  }
    where
      still : (name : LocalName) → IsNamed held name → local_in cs name ≡ Some (means name)
      still name a = p.others name (λ is. let lt = old.below name a in absurd (omega arith)) ∙ old_there name a

      put : (name : LocalName) → IsNewOf v (length brought) name → local_in cs name ≡ Some (means name)
      put name new =
          let name_is : fresh_name v name.ordinal ≡ name = ap (λ (x : ℕ). fresh_name x name.ordinal) (sym new.plan_is) in
          subst (λ (q : LocalName). local_in cs q ≡ Some (get_or brought name.ordinal [])) name_is (p.has name.ordinal new.ordinal)
          ∙ ap (λ (b : List ℕ). Some b) (sym (means_new name new.plan_is))

      gone : (name : LocalName) → IsNamed held name → IsNamed after name ⊎ Has commit.drops name
      gone name a = pick (row_or_not commit.table commit.row a.table a.row) (has_or_not (names_behind commit.row) name)
        where
          pick : IsIts a.table a.row ⊎ (IsIts a.table a.row → ⊥) → Has (names_behind commit.row) name ⊎ (Has (names_behind commit.row) name → ⊥) → IsNamed after name ⊎ Has commit.drops name
          pick (inr other) more = inl (named_other commit held name a other)
          pick (inl its) (inl has) = inl (named_new commit held name has).0
          pick (inl its) (inr not_) = inr (k.all_dropped name (before_named commit held name a its) not_)

  committed_runs : (cs : List (ChunkName × List ℕ)) → IsPutting cs (length brought) → Runs R (committed_at means after commit v held cs) (redo_writes held commit commit.drops)
  committed_runs cs p =
      redo_runs means after commit v known R
      (λ ws e not_coming named is rests. record { named = named; held = is ∙ sym (ap (λ (t : Bool). if t then held else after) not_coming); rests = rests })
      held cs commit.drops refl (all_put cs p)

  abbrev redo : List Write
  redo = redo_writes held commit commit.drops

  pub plan_runs : Runs R d (plan_writes held intend brought commit)
  plan_runs = by_brought brought refl
    where
      by_brought : (bs : List (List ℕ)) → brought ≡ bs → Runs R d (bring_writes intend bs (PutCommit commit ∷ redo))
      by_brought [] is =
          let named : NamedSlots means d = record {
            there = λ name a. n.there name a ∙ ap (λ (b : List ℕ). Some b) (sym (means_old name (omega (arith, n.below name a, k.newest))));
            once = n.once;
            below = n.below;
            others = n.others;
            apart = n.apart;
          } in
          let none : 0 ≡ length brought = ap (λ (l : List (List ℕ)). length l) (sym is) in (
            before_moment (PutCommit commit ∷ redo) d refl (λ none. cc) named held_is,
            subst (λ (j : Planned). Runs R (record { chunks = d.chunks; held = held; journal = j }) redo) (sym (commits_new d.journal commit k.newest)) (committed_runs d.chunks (subst (IsPutting d.chunks) none nothing_put)),
          )
      by_brought (bytes ∷ more) is =
          let named : NamedSlots means d = record {
            there = λ name a. n.there name a ∙ ap (λ (b : List ℕ). Some b) (sym (means_old name (omega (arith, n.below name a, k.newest))));
            once = n.once;
            below = n.below;
            others = n.others;
            apart = n.apart;
          } in
          let size : length (bytes ∷ more) ≡ length brought = ap (λ (l : List (List ℕ)). length l) (sym is) in
          let all : Runs R (putting d.chunks) (puts v 0 (bytes ∷ more) ++ (PutCommit commit ∷ redo)) =
          putting_runs d.chunks 0 (bytes ∷ more) redo nothing_put (omega (arith, size)) (λ i. let same : i ≡ 0 + i = omega arith in ap (λ (l : List (List ℕ)). get_or l i []) (sym is) ∙ ap (λ (j : ℕ). get_or brought j []) same)
          (λ ds p. (
            before_moment (PutCommit commit ∷ redo) (putting ds) refl (λ none. cc) (putting_named ds (length brought) p) refl,
            subst (λ (j : Planned). Runs R (record { chunks = ds; held = held; journal = j }) redo) (sym (commits_intended intend commit k.plan)) (committed_runs ds p),
          )) in (
            before_moment (PutIntend intend ∷ (puts intend.plan 0 (bytes ∷ more) ++ (PutCommit commit ∷ redo))) d (ap (λ (p : ℕ). commit_is_to_come (puts p 0 (bytes ∷ more) ++ (PutCommit commit ∷ redo))) k.plan ∙ to_come 0 (bytes ∷ more) redo) (λ none. cc) named held_is,
            subst (λ (j : Planned). Runs R (record { chunks = d.chunks; held = held; journal = j }) (puts intend.plan 0 (bytes ∷ more) ++ (PutCommit commit ∷ redo)))
                (sym (intends d.journal intend (omega (arith, k.newest, k.plan)))) (subst (λ (p : ℕ). Runs R (putting d.chunks) (puts p 0 (bytes ∷ more) ++ (PutCommit commit ∷ redo))) (sym k.plan) all),
          )
