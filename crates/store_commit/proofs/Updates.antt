-- At every moment of an update the devices have named chunks.
use Rattle.std.proofs.Common.{◌≡◌, inl, inr, ⊎_elim, ◌⊎◌, ℕ, suc, ◌+◌, ◌<◌, ◌≤◌, Bool, true, false, List, [], ◌∷◌, ◌++◌, length, get_or, Option, Some, None, refl, sym, ◌∙◌, ap, subst, arith}
use Rattle.std.specs.Prelude.{◌==◌, if◌then◌else◌}
use Rattle.std.specs.BTreeMap.{insert_entry, is_at}
use Rattle.std.proofs.lemmas.Bool.{cases_eq}
use Rattle.std.proofs.lemmas.Bool.Decides.{nat_tests}
use Rattle.stab_base.specs.declared.chunk_name.ChunkName.{ChunkName}
use Rattle.spare_map.specs.Late.{without}
use Rattle.chunk_store.specs.Payload.{name_cmp}
use Rattle.chunk_store.specs.Standing.{chunk_in}
use Rattle.row_store.specs.declared.stored.StoredRow.{StoredRow}
use Rattle.row_store.specs.Data.{TableData, id_cmp, with_row, row_of, version_of}
use Rattle.status_log.specs.Entry.{Entry}
use Rattle.store_commit.specs.Devs.{Devs, Write, OpenEntry, PutRow, CloseEntry, changed_by, changed_by_all}
use Rattle.store_commit.specs.NamedChunks.{Among, AreDifferent, names_of, IsNamed, IsNewOf, left_of, IsLeft, NamedChunks}
use Rattle.store_commit.specs.Agenda.{fresh_name, puts, drops, update_writes, Replaces, meaning_with, row_is_to_come, IsMoment, Runs}
use Rattle.store_commit.proofs.Lookups.{cases_id, not_itself_id, cases_among, chunk_put, chunk_put_other, chunk_dropped, chunk_dropped_other, row_put, row_put_other}

one_entry : (a b : Entry) → Some a ≡ Some b → a ≡ b
one_entry a b same = cc

module _ (meaning : ChunkName → List ℕ) (d : Devs) (entry : Entry) (fresh : List (List ℕ)) (stored : StoredRow) (n : NamedChunks meaning d) (closed : d.pending ≡ None) (r : Replaces d entry fresh stored) where
  abbrev v : ℕ
  v = entry.version

  abbrev means : ChunkName → List ℕ
  means = meaning_with meaning v fresh

  abbrev after : TableData
  after = with_row d.held stored

  abbrev R : List Write → Devs → Type 0
  R = IsMoment means d.held stored

  -- ---- old names

  old_below : (name : ChunkName) → IsNamed d.held name → name.version < v
  old_below name a = omega (arith, n.below name a, r.newest a.row a.stored a.there)

  means_old : (name : ChunkName) → name.version < v → means name ≡ meaning name
  means_old name lt = grind (arith, nat_tests)

  means_new : (name : ChunkName) → name.version ≡ v → means name ≡ get_or fresh name.ordinal []
  means_new name is = grind (arith, nat_tests)

  old_there : (name : ChunkName) → IsNamed d.held name → chunk_in d.chunks name ≡ Some (means name)
  old_there name a = n.there name a ∙ ap (λ (b : List ℕ). Some b) (sym (means_old name (old_below name a)))

  version_before : (version_of d.held entry.row == v) ≡ false
  version_before = cases (row_of d.held entry.row) refl
    where
      cases : (o : Option StoredRow) → row_of d.held entry.row ≡ o → (version_of d.held entry.row == v) ≡ false
      cases None is = let zero_is : version_of d.held entry.row ≡ 0 = rw is in let some = r.above in grind (arith, nat_tests)
      cases (Some old) is = let version_is : version_of d.held entry.row ≡ old.version = rw is in let lt = r.newest entry.row old is in grind (arith, nat_tests)

  version_after : (version_of after entry.row == v) ≡ true
  version_after =
      let is : version_of after entry.row ≡ stored.version = rw (row_put d.held stored entry.row r.row) in
      let same = r.version in
      grind (arith, nat_tests)

  -- ---- while the new chunks are put

  record IsPutting (cs : List (ChunkName × List ℕ)) (k : ℕ) : Type 0 where
    pub most : k ≤ length fresh
    pub old : (q : ChunkName) → (q.version ≡ v → ⊥) → chunk_in cs q ≡ chunk_in d.chunks q
    pub new : (q : ChunkName) (bytes : List ℕ) → q.version ≡ v → chunk_in cs q ≡ Some bytes → q.ordinal < k
    pub has : (i : ℕ) → i < k → chunk_in cs (fresh_name v i) ≡ Some (get_or fresh i [])

  abbrev putting : List (ChunkName × List ℕ) → Devs
  putting cs = record { chunks = cs; held = d.held; pending = Some entry }

  none_new : (q : ChunkName) (bytes : List ℕ) → q.version ≡ v → chunk_in d.chunks q ≡ Some bytes → ⊥
  none_new q bytes is h = ⊎_elim (λ a. absurd (let lt = old_below q a in omega arith)) (λ open_. let none : Some open_.0 ≡ None = sym open_.1 ∙ closed in absurd cc) (n.others q bytes h)

  nothing_put : IsPutting d.chunks 0
  nothing_put = record {
    most = omega arith;
    old = λ q other. refl;
    new = λ q bytes is h. absurd (none_new q bytes is h);
    has = λ i lt. absurd (omega arith);
  }

  new_left : (name : ChunkName) → IsNewOf entry name → IsLeft d.held entry name
  new_left name is = subst (λ (b : Bool). left_of b entry name) (sym version_before) is

  was_new : (name : ChunkName) → IsLeft d.held entry name → IsNewOf entry name
  was_new name left = subst (λ (b : Bool). left_of b entry name) version_before left

  putting_named : (cs : List (ChunkName × List ℕ)) (k : ℕ) → IsPutting cs k → NamedChunks means (putting cs)
  putting_named cs k p = record {
    there = λ name a. p.old name (λ is. let lt = old_below name a in absurd (omega arith)) ∙ old_there name a;
    different = n.different;
    once = n.once;
    below = n.below;
    others = λ name bytes h. elim (cases_eq name.version v) [
      | inl is ↦ inr (entry, refl, new_left name (record { version = is; ordinal = let lt = p.new name bytes is h in omega (arith, p.most, r.count) }))
      | inr other ↦ ⊎_elim inl (λ open_. let none : Some open_.0 ≡ None = sym open_.1 ∙ closed in absurd cc) (n.others name bytes (sym (p.old name other) ∙ h))
    ];
    apart = λ e name is left a.
        let same = one_entry entry e is in
        let new = was_new name (subst (λ (x : Entry). IsLeft d.held x name) (sym same) left) in
        let lt = old_below name a in
        absurd (omega (arith, new.version));
  }

  put_next : (cs : List (ChunkName × List ℕ)) (k : ℕ) (bytes : List ℕ) → IsPutting cs k → k < length fresh → bytes ≡ get_or fresh k []
      → IsPutting (insert_entry name_cmp cs (fresh_name v k) bytes) (k + 1)
  put_next cs k bytes p lt is = record {
    most = omega arith;
    old = λ q other. chunk_put_other cs (fresh_name v k) bytes q (λ same. other (sym (ap (λ (x : ChunkName). x.version) same))) ∙ p.old q other;
    new = λ q found at h. elim (cases_eq q.ordinal k) [
      | inl same ↦ omega arith
      | inr other ↦
          let before : chunk_in cs q ≡ Some found = sym (chunk_put_other cs (fresh_name v k) bytes q (λ same. other (sym (ap (λ (x : ChunkName). x.ordinal) same)))) ∙ h in
          let less = p.new q found at before in
          omega arith
    ];
    has = λ i less. elim (cases_eq i k) [
      | inl same ↦ subst (λ (j : ℕ). chunk_in (insert_entry name_cmp cs (fresh_name v k) bytes) (fresh_name v j) ≡ Some (get_or fresh j [])) (sym same) (chunk_put cs (fresh_name v k) bytes ∙ ap (λ (b : List ℕ). Some b) is)
      | inr other ↦ chunk_put_other cs (fresh_name v k) bytes (fresh_name v i) (λ same. other (sym (ap (λ (x : ChunkName). x.ordinal) same))) ∙ p.has i (omega arith)
    ];
  }

  to_come : (k : ℕ) (more : List (List ℕ)) (rest : List Write) → row_is_to_come (puts v k more ++ (PutRow stored ∷ rest)) ≡ true
  to_come k [] rest = refl
  to_come k (bytes ∷ more) rest = to_come (k + 1) more rest

  more_to_come : (k : ℕ) (more : List (List ℕ)) (rest : List Write) → puts v k more ++ (PutRow stored ∷ rest) ≡ [] → ⊥
  more_to_come k [] rest none = cc
  more_to_come k (bytes ∷ more) rest none = cc

  not_to_come : (names : List ChunkName) → row_is_to_come (drops names ++ CloseEntry ∷ []) ≡ false
  not_to_come [] = refl
  not_to_come (name ∷ names) = not_to_come names

  putting_moment : (cs : List (ChunkName × List ℕ)) (k : ℕ) (more : List (List ℕ)) (rest : List Write) → IsPutting cs k → R (puts v k more ++ (PutRow stored ∷ rest)) (putting cs)
  putting_moment cs k more rest p = record {
    named = putting_named cs k p;
    rows = sym (ap (λ (b : Bool). if b then d.held else after) (to_come k more rest));
    closed = λ none. absurd (more_to_come k more rest none);
  }

  putting_runs : (cs : List (ChunkName × List ℕ)) (k : ℕ) (more : List (List ℕ)) (rest : List Write) → IsPutting cs k → k + length more ≡ length fresh
      → ((i : ℕ) → get_or more i [] ≡ get_or fresh (k + i) [])
      → ((ds : List (ChunkName × List ℕ)) → IsPutting ds (length fresh) → Runs R (putting ds) (PutRow stored ∷ rest)) → Runs R (putting cs) (puts v k more ++ (PutRow stored ∷ rest))
  putting_runs cs k [] rest p size each last = last cs (subst (IsPutting cs) (omega (arith, size)) p)
  putting_runs cs k (bytes ∷ more) rest p size each last =
      let at : k + 0 ≡ k = omega arith in
      let is : bytes ≡ get_or fresh k [] = each 0 ∙ ap (λ (i : ℕ). get_or fresh i []) at in
      let next : (i : ℕ) → get_or more i [] ≡ get_or fresh (k + 1 + i) [] = λ i. each (suc i) ∙ ap (λ (j : ℕ). get_or fresh j []) (omega arith) in
      (putting_moment cs k (bytes ∷ more) rest p, putting_runs (insert_entry name_cmp cs (fresh_name v k) bytes) (k + 1) more rest (put_next cs k bytes p (omega (arith, size)) is) (omega (arith, size)) next last)

  -- ---- once the row is put

  -- a row that names it is the new one, or another one than that
  abbrev IsNewRow : (name : ChunkName) → IsNamed after name → Type 0
  IsNewRow name a = ((stored.row ≡ a.row) × Among name (names_of stored.content) × (a.stored ≡ stored)) ⊎ ((stored.row ≡ a.row → ⊥) × (row_of d.held a.row ≡ Some a.stored))

  row_cases : (name : ChunkName) (a : IsNamed after name) → IsNewRow name a
  row_cases name a = pick (cases_id stored.row a.row)
    where
      pick : (stored.row ≡ a.row) ⊎ (is_at (id_cmp stored.row) a.row ≡ false) → IsNewRow name a
      pick (inl same) =
          let both : Some stored ≡ Some a.stored = sym (row_put d.held stored a.row same) ∙ a.there in
          let one : a.stored ≡ stored = cc in
          inl (same, subst (λ (s : StoredRow). Among name (names_of s.content)) one a.among, one)
      pick (inr other) = inr (not_itself_id stored.row a.row other, sym (row_put_other d.held stored a.row other) ∙ a.there)

  -- as a row from before
  abbrev as_old : (name : ChunkName) (a : IsNamed after name) → row_of d.held a.row ≡ Some a.stored → IsNamed d.held name
  as_old name a there = record { row = a.row; stored = a.stored; there = there; among = a.among }

  abbrev in_old : (name : ChunkName) (old : StoredRow) → row_of d.held entry.row ≡ Some old → Among name (names_of old.content) → IsNamed d.held name
  in_old name old there among = record { row = entry.row; stored = old; there = there; among = among }

  abbrev in_new : (name : ChunkName) → Among name (names_of stored.content) → IsNamed after name
  in_new name among = record { row = stored.row; stored = stored; there = row_put d.held stored stored.row refl; among = among }

  -- what the new row names stands in no other row
  not_elsewhere : (name : ChunkName) → Among name (names_of stored.content) → (b : IsNamed d.held name) → (stored.row ≡ b.row → ⊥) → ⊥
  not_elsewhere name among b other =
      ⊎_elim
      (λ kept. other (r.row ∙ n.once name (in_old name kept.0 kept.1 kept.2) b))
      (λ new. let lt = old_below name b in absurd (omega (arith, new.version)))
      (r.kept_or_new name among)

  record IsDropping (cs : List (ChunkName × List ℕ)) (ds : List ChunkName) : Type 0 where
    pub kept : (name : ChunkName) → IsNamed after name → chunk_in cs name ≡ Some (means name)
    pub left : (name : ChunkName) (bytes : List ℕ) → chunk_in cs name ≡ Some bytes → IsNamed after name ⊎ Among name ds
    pub within : (name : ChunkName) → Among name ds → Among name entry.old

  abbrev dropping : List (ChunkName × List ℕ) → Option Entry → Devs
  dropping cs pending = record { chunks = cs; held = after; pending = pending }

  old_left : (name : ChunkName) → Among name entry.old → IsLeft after entry name
  old_left name among = subst (λ (b : Bool). left_of b entry name) (sym version_after) among

  was_old : (name : ChunkName) → IsLeft after entry name → Among name entry.old
  was_old name left = subst (λ (b : Bool). left_of b entry name) version_after left

  old_apart : (name : ChunkName) → Among name entry.old → IsNamed after name → ⊥
  old_apart name among a =
      let o = r.old_of name among in
      ⊎_elim (λ new. o.1 new.1) (λ other. other.0 (r.row ∙ n.once name (in_old name o.0.0 o.0.1 o.0.2) (as_old name a other.1))) (row_cases name a)

  different_after : (row : List ℕ) (s : StoredRow) → row_of after row ≡ Some s → AreDifferent (names_of s.content)
  different_after row s there = pick (cases_id stored.row row)
    where
      pick : (stored.row ≡ row) ⊎ (is_at (id_cmp stored.row) row ≡ false) → AreDifferent (names_of s.content)
      pick (inl same) =
          let both : Some stored ≡ Some s = sym (row_put d.held stored row same) ∙ there in
          let one : stored ≡ s = cc in
          subst (λ (x : StoredRow). AreDifferent (names_of x.content)) one r.different
      pick (inr other) = n.different row s (sym (row_put_other d.held stored row other) ∙ there)

  once_after : (name : ChunkName) (a b : IsNamed after name) → a.row ≡ b.row
  once_after name a b = pick (row_cases name a) (row_cases name b)
    where
      pick : IsNewRow name a → IsNewRow name b → a.row ≡ b.row
      pick (inl x) (inl y) = sym x.0 ∙ y.0
      pick (inl x) (inr y) = absurd (not_elsewhere name x.1 (as_old name b y.1) y.0)
      pick (inr x) (inl y) = absurd (not_elsewhere name y.1 (as_old name a x.1) x.0)
      pick (inr x) (inr y) = n.once name (as_old name a x.1) (as_old name b y.1)

  below_after : (name : ChunkName) (a : IsNamed after name) → name.version ≤ a.stored.version
  below_after name a = pick (row_cases name a)
    where
      pick : IsNewRow name a → name.version ≤ a.stored.version
      pick (inl x) =
          let version_is : a.stored.version ≡ v = ap (λ (s : StoredRow). s.version) x.2 ∙ r.version in
          ⊎_elim
          (λ kept. let lt = old_below name (in_old name kept.0 kept.1 kept.2) in omega arith)
          (λ new. omega (arith, new.version))
          (r.kept_or_new name x.1)
      pick (inr y) = n.below name (as_old name a y.1)

  dropping_named : (cs : List (ChunkName × List ℕ)) (ds : List ChunkName) → IsDropping cs ds → NamedChunks means (dropping cs (Some entry))
  dropping_named cs ds p = record {
    there = p.kept;
    different = different_after;
    once = once_after;
    below = below_after;
    others = λ name bytes h. ⊎_elim inl (λ among. inr (entry, refl, old_left name (p.within name among))) (p.left name bytes h);
    apart = λ e name is left a.
        let same = one_entry entry e is in
        old_apart name (was_old name (subst (λ (x : Entry). IsLeft after x name) (sym same) left)) a;
  }

  closed_named : (cs : List (ChunkName × List ℕ)) → IsDropping cs [] → NamedChunks means (dropping cs None)
  closed_named cs p = record {
    there = p.kept;
    different = different_after;
    once = once_after;
    below = below_after;
    others = λ name bytes h. ⊎_elim inl (λ none. absurd none) (p.left name bytes h);
    apart = λ e name is. absurd cc;
  }

  drop_next : (cs : List (ChunkName × List ℕ)) (name : ChunkName) (ds : List ChunkName) → IsDropping cs (name ∷ ds) → IsDropping (without name_cmp cs name) ds
  drop_next cs name ds p = record {
    kept = λ q a. chunk_dropped_other cs name q (λ same. old_apart name (p.within name (inl refl)) (subst (IsNamed after) (sym same) a)) ∙ p.kept q a;
    left = λ q bytes h. pick q bytes h (cases_name_here q);
    within = λ q among. p.within q (inr among);
  }
    where
      cases_name_here : (q : ChunkName) → (name ≡ q) ⊎ (name ≡ q → ⊥)
      cases_name_here q = ⊎_elim (λ same. ⊎_elim (λ e. inl (sym e)) (λ none. absurd none) same) (λ other. inr (λ e. other (inl (sym e)))) (cases_among q (name ∷ []))

      pick : (q : ChunkName) (bytes : List ℕ) → chunk_in (without name_cmp cs name) q ≡ Some bytes → (name ≡ q) ⊎ (name ≡ q → ⊥) → IsNamed after q ⊎ Among q ds
      pick q bytes h (inl same) = let gone : chunk_in (without name_cmp cs name) q ≡ None = subst (λ (x : ChunkName). chunk_in (without name_cmp cs name) x ≡ None) same (chunk_dropped cs name) in absurd cc
      pick q bytes h (inr other) =
          ⊎_elim inl (λ among. ⊎_elim (λ same. absurd (other (sym same))) inr among) (p.left q bytes (sym (chunk_dropped_other cs name q other) ∙ h))

  dropping_runs : (cs : List (ChunkName × List ℕ)) (ds : List ChunkName) → IsDropping cs ds → Runs R (dropping cs (Some entry)) (drops ds ++ CloseEntry ∷ [])
  dropping_runs cs [] p = (record { named = dropping_named cs [] p; rows = refl; closed = λ none. absurd cc }, record { named = closed_named cs p; rows = refl; closed = λ none. refl })
  dropping_runs cs (name ∷ ds) p = (
    record { named = dropping_named cs (name ∷ ds) p; rows = sym (ap (λ (b : Bool). if b then d.held else after) (not_to_come ds)); closed = λ none. absurd cc },
    dropping_runs (without name_cmp cs name) ds (drop_next cs name ds p),
  )

  -- the row is put over all its new chunks
  put_row : (cs : List (ChunkName × List ℕ)) → IsPutting cs (length fresh) → IsDropping cs entry.old
  put_row cs p = record {
    kept = λ name a. ⊎_elim (λ new. kept_new name new.1) (λ other. kept_old name (as_old name a other.1)) (row_cases name a);
    left = λ name bytes h. elim (cases_eq name.version v) [
      | inl is ↦ let lt = p.new name bytes is h in inl (in_new name (r.all_new name (record { version = is; ordinal = omega (arith, r.count) })))
      | inr other ↦ ⊎_elim (λ a. left_old name a) (λ open_. let none : Some open_.0 ≡ None = sym open_.1 ∙ closed in absurd cc) (n.others name bytes (sym (p.old name other) ∙ h))
    ];
    within = λ name among. among;
  }
    where
      kept_old : (name : ChunkName) → IsNamed d.held name → chunk_in cs name ≡ Some (means name)
      kept_old name a = p.old name (λ is. let lt = old_below name a in absurd (omega arith)) ∙ old_there name a

      kept_new : (name : ChunkName) → Among name (names_of stored.content) → chunk_in cs name ≡ Some (means name)
      kept_new name among =
          ⊎_elim
          (λ kept. kept_old name (in_old name kept.0 kept.1 kept.2))
          (λ new.
          let name_is : fresh_name v name.ordinal ≡ name = ap (λ (x : ℕ). fresh_name x name.ordinal) (sym new.version) in
          subst (λ (q : ChunkName). chunk_in cs q ≡ Some (get_or fresh name.ordinal [])) name_is (p.has name.ordinal (omega (arith, new.ordinal, r.count)))
          ∙ ap (λ (b : List ℕ). Some b) (sym (means_new name new.version)))
          (r.kept_or_new name among)

      left_old : (name : ChunkName) → IsNamed d.held name → IsNamed after name ⊎ Among name entry.old
      left_old name a = pick (cases_id stored.row a.row) (cases_among name (names_of stored.content))
        where
          pick : (stored.row ≡ a.row) ⊎ (is_at (id_cmp stored.row) a.row ≡ false) → Among name (names_of stored.content) ⊎ (Among name (names_of stored.content) → ⊥)
              → IsNamed after name ⊎ Among name entry.old
          pick (inl same) (inl among) = inl (in_new name among)
          pick (inl same) (inr gone) = inr (r.all_old name a.stored (subst (λ (q : List ℕ). row_of d.held q ≡ Some a.stored) (sym same ∙ r.row) a.there) a.among gone)
          pick (inr other) some = inl (record { row = a.row; stored = a.stored; there = row_put_other d.held stored a.row other ∙ a.there; among = a.among })

  before_named : NamedChunks means d
  before_named = record {
    there = old_there;
    different = n.different;
    once = n.once;
    below = n.below;
    others = n.others;
    apart = n.apart;
  }

  pub update_runs : Runs R d (update_writes entry fresh stored)
  update_runs = (
    record { named = before_named; rows = sym (ap (λ (b : Bool). if b then d.held else after) (to_come 0 fresh (drops entry.old ++ CloseEntry ∷ []))); closed = λ none. absurd cc },
    putting_runs d.chunks 0 fresh (drops entry.old ++ CloseEntry ∷ []) nothing_put (omega arith) (λ i. ap (λ (j : ℕ). get_or fresh j []) (omega arith))
        (λ cs p. (putting_moment cs (length fresh) [] (drops entry.old ++ CloseEntry ∷ []) p, dropping_runs cs entry.old (put_row cs p))),
  )

-- ---- the end

pub closes_behind : (xs ys : List Write) → ((d : Devs) → (changed_by_all d ys).pending ≡ None) → (d : Devs) → (changed_by_all d (xs ++ ys)).pending ≡ None
closes_behind [] ys last d = last d
closes_behind (x ∷ xs) ys last d = closes_behind xs ys last (changed_by d x)

pub update_ends : (d : Devs) (entry : Entry) (fresh : List (List ℕ)) (stored : StoredRow) → (changed_by_all d (update_writes entry fresh stored)).pending ≡ None
update_ends d entry fresh stored =
    closes_behind (puts entry.version 0 fresh) (PutRow stored ∷ (drops entry.old ++ CloseEntry ∷ []))
    (λ e. closes_behind (drops entry.old) (CloseEntry ∷ []) (λ x. refl) (changed_by e (PutRow stored)))
    (changed_by d (OpenEntry entry))
