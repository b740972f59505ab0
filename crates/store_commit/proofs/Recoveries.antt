-- At every moment of a recovery the devices have named chunks.
use Rattle.std.proofs.Common.{◌≡◌, inl, inr, ⊎_elim, ◌⊎◌, ℕ, Bool, true, false, List, [], ◌∷◌, ◌++◌, Option, Some, None, refl, sym, ◌∙◌, subst}
use Rattle.std.specs.Prelude.{is_some, if◌then◌else◌}
use Rattle.stab_base.specs.declared.chunk_name.ChunkName.{ChunkName}
use Rattle.spare_map.specs.Late.{without}
use Rattle.chunk_store.specs.Payload.{name_cmp}
use Rattle.chunk_store.specs.Standing.{chunk_in}
use Rattle.status_log.specs.Entry.{Entry}
use Rattle.store_commit.specs.Devs.{Devs, Write, CloseEntry, DropChunk, changed_by, changed_by_all}
use Rattle.store_commit.specs.NamedChunks.{Among, IsNamed, IsLeft, NamedChunks}
use Rattle.store_commit.specs.Agenda.{drops, recovery_writes, IsRecovering, AreLeftovers, Runs}
use Rattle.store_commit.proofs.Lookups.{cases_among, chunk_dropped, chunk_dropped_other}

none_if : (o : Option Entry) → is_some o ≡ false → o ≡ None
none_if None h = refl
none_if (Some entry) h = absurd cc

module _ (meaning : ChunkName → List ℕ) (d : Devs) (n : NamedChunks meaning d) where
  abbrev R : List Write → Devs → Type 0
  R = IsRecovering meaning d.held

  abbrev clearing : List (ChunkName × List ℕ) → Option Entry → Devs
  clearing cs pending = record { chunks = cs; held = d.held; pending = pending }

  record IsClearing (cs : List (ChunkName × List ℕ)) (names : List ChunkName) : Type 0 where
    pub there : (name : ChunkName) → IsNamed d.held name → chunk_in cs name ≡ Some (meaning name)
    pub others : (name : ChunkName) (bytes : List ℕ) → chunk_in cs name ≡ Some bytes → IsNamed d.held name ⊎ Among name names
    pub left : (name : ChunkName) → Among name names → (entry : Entry) × (d.pending ≡ Some entry) × IsLeft d.held entry name

  clearing_named : (cs : List (ChunkName × List ℕ)) (names : List ChunkName) → IsClearing cs names → NamedChunks meaning (clearing cs d.pending)
  clearing_named cs names p = record {
    there = p.there;
    different = n.different;
    once = n.once;
    below = n.below;
    others = λ name bytes h. ⊎_elim inl (λ among. inr (p.left name among)) (p.others name bytes h);
    apart = n.apart;
  }

  cleared_named : (cs : List (ChunkName × List ℕ)) → IsClearing cs [] → NamedChunks meaning (clearing cs None)
  cleared_named cs p = record {
    there = p.there;
    different = n.different;
    once = n.once;
    below = n.below;
    others = λ name bytes h. ⊎_elim inl (λ none. absurd none) (p.others name bytes h);
    apart = λ e name is. absurd cc;
  }

  clear_next : (cs : List (ChunkName × List ℕ)) (name : ChunkName) (names : List ChunkName) → IsClearing cs (name ∷ names) → IsClearing (without name_cmp cs name) names
  clear_next cs name names p = record {
    there = λ q a. chunk_dropped_other cs name q (λ same. let l = p.left name (inl refl) in n.apart l.0 name l.1 l.2 (subst (IsNamed d.held) (sym same) a)) ∙ p.there q a;
    others = λ q bytes h. pick q bytes h (here q);
    left = λ q among. p.left q (inr among);
  }
    where
      here : (q : ChunkName) → (name ≡ q) ⊎ (name ≡ q → ⊥)
      here q = ⊎_elim (λ same. ⊎_elim (λ e. inl (sym e)) (λ none. absurd none) same) (λ other. inr (λ e. other (inl (sym e)))) (cases_among q (name ∷ []))

      pick : (q : ChunkName) (bytes : List ℕ) → chunk_in (without name_cmp cs name) q ≡ Some bytes → (name ≡ q) ⊎ (name ≡ q → ⊥) → IsNamed d.held q ⊎ Among q names
      pick q bytes h (inl same) = let gone : chunk_in (without name_cmp cs name) q ≡ None = subst (λ (x : ChunkName). chunk_in (without name_cmp cs name) x ≡ None) same (chunk_dropped cs name) in absurd cc
      pick q bytes h (inr other) =
          ⊎_elim inl (λ among. ⊎_elim (λ same. absurd (other (sym same))) inr among) (p.others q bytes (sym (chunk_dropped_other cs name q other) ∙ h))

  abbrev last : Bool → List Write
  last is_open = if is_open then CloseEntry ∷ [] else []

  clearing_runs : (cs : List (ChunkName × List ℕ)) (names : List ChunkName) → IsClearing cs names → Runs R (clearing cs d.pending) (drops names ++ last (is_some d.pending))
  clearing_runs cs [] p = ending (is_some d.pending) refl
    where
      now : (ws : List Write) → (ws ≡ [] → d.pending ≡ None) → R ws (clearing cs d.pending)
      now ws closed = record { named = clearing_named cs [] p; rows = refl; closed = closed }

      ending : (b : Bool) → is_some d.pending ≡ b → Runs R (clearing cs d.pending) (last b)
      ending true is = (now (CloseEntry ∷ []) (λ none. absurd cc), record { named = cleared_named cs p; rows = refl; closed = λ none. refl })
      ending false is = now [] (λ none. none_if d.pending is)
  clearing_runs cs (name ∷ names) p = (
    record { named = clearing_named cs (name ∷ names) p; rows = refl; closed = λ none. absurd cc },
    clearing_runs (without name_cmp cs name) names (clear_next cs name names p),
  )

  pub recovery_runs : (names : List ChunkName) → AreLeftovers d names → Runs R d (recovery_writes names (is_some d.pending))
  recovery_runs names l =
      let start : IsClearing d.chunks names = record {
        there = n.there;
        others = λ name bytes h. ⊎_elim inl (λ open_. inr (l.all name bytes open_.0 open_.1 open_.2 h)) (n.others name bytes h);
        left = l.left;
      } in
      let now : (w : Write) (ws : List Write) → R (w ∷ ws) d = λ w ws. record { named = n; rows = refl; closed = λ none. absurd cc } in
      (now _ _, (now _ _, (now _ _, clearing_runs d.chunks names start)))

drops_leave : (names : List ChunkName) (d : Devs) → (changed_by_all d (drops names)).pending ≡ d.pending
drops_leave [] d = refl
drops_leave (name ∷ names) d = drops_leave names (changed_by d (DropChunk name))

pub recovery_ends : (d : Devs) (names : List ChunkName) → (changed_by_all d (recovery_writes names (is_some d.pending))).pending ≡ None
recovery_ends d names = cases d.pending refl
  where
    closes : (names : List ChunkName) (e : Devs) → (changed_by_all e (drops names ++ CloseEntry ∷ [])).pending ≡ None
    closes [] e = refl
    closes (name ∷ names) e = closes names (changed_by e (DropChunk name))

    stays : (names : List ChunkName) (e : Devs) → (changed_by_all e (drops names ++ [])).pending ≡ e.pending
    stays [] e = refl
    stays (name ∷ names) e = stays names (changed_by e (DropChunk name))

    cases : (o : Option Entry) → d.pending ≡ o → (changed_by_all d (drops names ++ (if is_some o then CloseEntry ∷ [] else []))).pending ≡ None
    cases None is = stays names d ∙ is
    cases (Some entry) is = closes names d
