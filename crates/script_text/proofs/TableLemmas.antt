-- Lists of tables that a client opens.
use Rattle.std.proofs.Common.{◌≡◌, ◌≢◌, ℕ, ◌+◌, ◌<◌, ◌≤◌, true, false, cond, eqb, List, [], ◌∷◌, ◌++◌, codes, map, length, take, drop, get_or, Option, Some, None, Result, Ok, Err, refl, sym, ap, ◌∙◌}
use Rattle.std.proofs.Common.{subst, inl, inr, arith, append_assoc, append-nil, add-one, zero, suc}
use Rattle.std.specs.Borrow.{Bor}
use Rattle.std.specs.List.{AllByRecursion, IsDistinct, join_with_byte}
use Rattle.std.specs.Ordering.{nat_cmp}
use Rattle.std.specs.Cmp.Lexicographic.{slice_cmp}
use Rattle.std.specs.BTreeSet.{insert_key}
use Rattle.std.specs.Str.{bytes_eq}
use Rattle.std.proofs.lemmas.Bool.{cases_Bool}
use Rattle.std.proofs.lemmas.List.Splits.{join_with_byte-slice_split}
use Rattle.std.proofs.lemmas.Slice.Eq.{bytes_eq-Decides}
use Rattle.script_words.specs.declared.code.Code.{Code}
use Rattle.script_words.specs.declared.code.Code.TheVariants.{Twice}
use Rattle.script_text.specs.Names.{Names, has_table, IsSetOf}
use Rattle.script_words.specs.Words.{texts, is_among}
use Rattle.script_text.specs.Places.{◌>>=◌, opened_at, joined, alone, tables_in, parts_at, tables_at, tables_passed, limited_at, node_at}
use Rattle.script_text.specs.Grammar.{IsUpTo, table_word, tables_word}
use Rattle.script_text.proofs.Each.{dropped, dropped_next}
use Rattle.script_text.proofs.Distinct.{set-put, NewTo, new-distinct, distinct-numbers}
use Rattle.script_text.proofs.Steps.{bind-ok}
use Rattle.script_text.proofs.Numbers.{unless-ok, some_same, ok_same, none_some}
use Rattle.script_text.proofs.PlaceLemmas.{opened_at-ok, opened_at-within, opened_at-limit}

joined-some : (front more : Option (List ℕ)) (tables : List ℕ) → joined front more ≡ Some tables → (a : List ℕ) × (b : List ℕ) × (front ≡ Some a) × (more ≡ Some b) × (a ++ b ≡ tables)
joined-some None more tables e = absurd (none_some tables e)
joined-some (Some a) None tables e = absurd (none_some tables e)
joined-some (Some a) (Some b) tables e = (a, b, refl, refl, some_same _ _ e)

alone-some : (o : Option ℕ) (tables : List ℕ) → alone o ≡ Some tables → (n : ℕ) × (o ≡ Some n) × (n ∷ [] ≡ tables)
alone-some None tables e = absurd (none_some tables e)
alone-some (Some n) tables e = (n, refl, some_same _ _ e)

joins : (front middle more : Option (List ℕ)) → joined front (joined middle more) ≡ joined (joined front middle) more
joins None middle more = refl
joins (Some a) None more = refl
joins (Some a) (Some b) None = refl
joins (Some a) (Some b) (Some c) = ap Some (sym (append_assoc a b c))

joined-end : (front : Option (List ℕ)) → joined front (Some []) ≡ front
joined-end None = refl
joined-end (Some a) = ap Some (append-nil a)

module _ (names : Names) where
  next : (before words : List (List ℕ)) (word : List ℕ) (r : Option (List ℕ)) → tables_in names before (word ∷ words) ≡ Ok r
      → (t : Option ℕ) × (more : Option (List ℕ)) × (opened_at names word ≡ Ok t) × (is_among word before ≡ false) × (tables_in names (before ++ word ∷ []) words ≡ Ok more)
      × (joined (alone t) more ≡ r)
  unfolding tables_in
  next before words word r e =
      let a = bind-ok (opened_at names word) (λ table. cond (is_among word before) (Err Twice) (tables_in names (before ++ word ∷ []) words >>= λ more. Ok (joined (alone table) more))) r e in
      let b = unless-ok (is_among word before) (tables_in names (before ++ word ∷ []) words >>= λ more. Ok (joined (alone a.0) more)) Twice r a.2 in
      let c = bind-ok (tables_in names (before ++ word ∷ []) words) (λ more. Ok (joined (alone a.0) more)) r b.1 in
      (a.0, c.0, a.1, b.0, c.1, ok_same _ _ c.2)

  none : (before : List (List ℕ)) (r : Option (List ℕ)) → tables_in names before [] ≡ Ok r → Some [] ≡ r
  unfolding tables_in
  none before r e = ok_same _ _ e

  found : (word : List ℕ) (t : Option ℕ) (more : Option (List ℕ)) (tables : List ℕ) → opened_at names word ≡ Ok t → joined (alone t) more ≡ Some tables
      → (n : ℕ) × (b : List ℕ) × (word ≡ table_word n) × (IsUpTo 64 n × (has_table names n ≡ true)) × (more ≡ Some b) × (n ∷ b ≡ tables)
  found word t more tables opened e =
      let p = joined-some (alone t) more tables e in
      let q = alone-some t p.0 p.2 in
      let o = opened_at-ok names word q.0 (opened ∙ ap Ok q.1) in
      (q.0, p.1, o.0, (o.1, o.2), p.3, ap (λ (a : List ℕ). a ++ p.1) q.2 ∙ p.4)

  tables_in-ok : (before words : List (List ℕ)) (tables : List ℕ) → tables_in names before words ≡ Ok (Some tables)
      → (words ≡ map table_word tables) × AllByRecursion (λ n. IsUpTo 64 n × (has_table names n ≡ true)) tables × NewTo before words
  tables_in-ok before [] tables e =
      let nil : [] ≡ tables = some_same _ _ (none before (Some tables) e) in
      subst (λ (ns : List ℕ). ([] ≡ map table_word ns) × AllByRecursion (λ n. IsUpTo 64 n × (has_table names n ≡ true)) ns × NewTo before []) nil (refl, tt, tt)
  tables_in-ok before (w ∷ ws) tables e =
      let s = next before ws w (Some tables) e in
      let f = found w s.0 s.1 tables s.2 s.5 in
      let more = tables_in-ok (before ++ w ∷ []) ws f.1 (s.4 ∙ ap Ok f.4) in
      let words : w ∷ ws ≡ map table_word (f.0 ∷ f.1) = cc (f.2, more.0) in
      subst (λ (ns : List ℕ). (w ∷ ws ≡ map table_word ns) × AllByRecursion (λ n. IsUpTo 64 n × (has_table names n ≡ true)) ns × NewTo before (w ∷ ws)) f.5
      (words, (f.3, more.1), (s.3, more.2))

  tables_in-within : (before words : List (List ℕ)) (tables : List ℕ) → tables_in names before words ≡ Ok (Some tables) → tables_passed words ≡ None
  tables_in-within before [] tables e = refl
  tables_in-within before (w ∷ ws) tables e =
      let s = next before ws w (Some tables) e in
      let p = joined-some (alone s.0) s.1 tables s.5 in
      let q = alone-some s.0 p.0 p.2 in
      rw (opened_at-within names w q.0 (s.2 ∙ ap Ok q.1)) (tables_in-within (before ++ w ∷ []) ws p.1 (s.4 ∙ ap Ok p.3))

  tables_in-above : (words : List (List ℕ)) (word : List ℕ) (t : Option ℕ) (more : Option (List ℕ)) → opened_at names word ≡ Ok t → joined (alone t) more ≡ None
      → (more ≡ None → tables_passed words ≡ Some 4) → tables_passed (word ∷ words) ≡ Some 4
  tables_in-above words word None more opened e go = rw (opened_at-limit names word opened) refl
  tables_in-above words word (Some n) None opened e go = rw (opened_at-within names word n opened) (go refl)
  tables_in-above words word (Some n) (Some b) opened e go = absurd (none_some (n ∷ b) (sym e))

  tables_in-limit : (before words : List (List ℕ)) → tables_in names before words ≡ Ok None → tables_passed words ≡ Some 4
  tables_in-limit before [] e = absurd (none_some [] (sym (none before None e)))
  tables_in-limit before (w ∷ ws) e =
      let s = next before ws w None e in
      tables_in-above ws w s.0 s.1 s.2 s.5 (λ gone. tables_in-limit (before ++ w ∷ []) ws (s.4 ∙ ap Ok gone))

some_part : (word : List ℕ) → parts_at word ≢ []
some_part word e =
    let nil : [] ≡ word = ap (join_with_byte 44) (sym e) ∙ join_with_byte-slice_split 44 word in
    let again : parts_at [] ≡ [] = subst (λ (w : List ℕ). parts_at w ≡ []) (sym nil) e in cc

dash_within : tables_passed (parts_at (codes "-")) ≡ None
unfolding limited_at node_at
dash_within = refl

named_word : (words : List (List ℕ)) (tables : List ℕ) → words ≢ [] → words ≡ map table_word tables → join_with_byte 44 words ≡ tables_word tables
named_word words [] some e = absurd (some e)
named_word words (n ∷ tables) some e = ap (join_with_byte 44) e

module _ (names : Names) (word : List ℕ) where
  pub tables_at-ok : (tables : List ℕ) → tables_at names word ≡ Ok (Some tables)
      → (word ≡ tables_word tables) × AllByRecursion (λ n. IsUpTo 64 n × (has_table names n ≡ true)) tables × IsDistinct (λ m n. eqb m n) tables
  unfolding tables_at IsDistinct
  tables_at-ok tables e = elim (cases_Bool (bytes_eq word (codes "-"))) [
    | inl is ↦
        let nil : [] ≡ tables = some_same _ _ (ok_same _ _ (rw is at e)) in
        subst (λ (ns : List ℕ). (word ≡ tables_word ns) × AllByRecursion (λ n. IsUpTo 64 n × (has_table names n ≡ true)) ns × IsDistinct (λ m n. eqb m n) ns) nil
        ((bytes_eq-Decides word (codes "-")).0 is, tt, tt)
    | inr other ↦
        let p = tables_in-ok names [] (parts_at word) tables (rw other at e) in (
          sym (join_with_byte-slice_split 44 word) ∙ named_word (parts_at word) tables (some_part word) p.0,
          p.1,
          distinct-numbers tables (subst (IsDistinct bytes_eq) p.0 (new-distinct (parts_at word) p.2)),
        )
  ]

  pub tables_at-within : (tables : List ℕ) → tables_at names word ≡ Ok (Some tables) → tables_passed (parts_at word) ≡ None
  unfolding tables_at
  tables_at-within tables e = elim (cases_Bool (bytes_eq word (codes "-"))) [
    | inl is ↦ rw ((bytes_eq-Decides word (codes "-")).0 is) dash_within
    | inr other ↦ tables_in-within names [] (parts_at word) tables (rw other at e)
  ]

  pub tables_at-limit : tables_at names word ≡ Ok None → tables_passed (parts_at word) ≡ Some 4
  unfolding tables_at
  tables_at-limit e = elim (cases_Bool (bytes_eq word (codes "-"))) [
    | inl is ↦ absurd (none_some [] (sym (ok_same _ _ (rw is at e))))
    | inr other ↦ tables_in-limit names [] (parts_at word) (rw other at e)
  ]

-- one turn

behind : (words : List (Bor (List ℕ))) (i : ℕ) (d : Bor (List ℕ)) → i < length words → take (suc i) (texts words) ≡ take i (texts words) ++ (get_or words i d).now ∷ []
behind [] i d h = absurd (omega (arith, h))
behind (w ∷ ws) zero d h = refl
behind (w ∷ ws) (suc i) d h = ap (λ (t : List (List ℕ)). w.now ∷ t) (behind ws i d (omega (arith, h)))

taken : (words : List (Bor (List ℕ))) (i : ℕ) (d : Bor (List ℕ)) → i < length words → take (i + 1) (texts words) ≡ take i (texts words) ++ (get_or words i d).now ∷ []
taken words i d h = rw add-one (behind words i d h)

pub named-turn : (words : List (Bor (List ℕ))) (i : ℕ) (d : Bor (List ℕ)) (keys more : List (List ℕ)) → i < length words → more ≡ insert_key (slice_cmp nat_cmp) keys (get_or words i d).now
    → IsSetOf keys (take i (texts words)) → IsSetOf more (take (i + 1) (texts words))
named-turn words i d keys more h e set =
    subst (IsSetOf more) (sym (taken words i d h)) (set-put keys more (take i (texts words)) (get_or words i d).now e set)

-- the tables of words, as far as they were read
abbrev pub left : Names → List (Bor (List ℕ)) → ℕ → Option (List ℕ) → Result (Option (List ℕ)) Code
left names words i front = tables_in names (take i (texts words)) (drop i (texts words)) >>= λ more. Ok (joined front more)

begun : (r : Result (Option (List ℕ)) Code) → r ≡ (r >>= λ more. Ok (joined (Some []) more))
begun (Ok None) = refl
begun (Ok (Some tables)) = refl
begun (Err code) = refl

regrouped : (front middle : Option (List ℕ)) (r : Result (Option (List ℕ)) Code)
    → ((r >>= λ more. Ok (joined middle more)) >>= λ more. Ok (joined front more)) ≡ (r >>= λ more. Ok (joined (joined front middle) more))
regrouped front middle (Ok more) = ap Ok (joins front middle more)
regrouped front middle (Err code) = refl

module _ (names : Names) where
  pub tables_in-init : (words : List (Bor (List ℕ))) (front : List ℕ) → front ≡ [] → tables_in names [] (texts words) ≡ left names words 0 (Some front)
  tables_in-init words front none = rw none (begun (tables_in names [] (texts words)))

  one : (before words : List (List ℕ)) (word : List ℕ) (t : Option ℕ) → opened_at names word ≡ Ok t → is_among word before ≡ false
      → tables_in names before (word ∷ words) ≡ (tables_in names (before ++ word ∷ []) words >>= λ more. Ok (joined (alone t) more))
  unfolding tables_in
  one before words word t opened fresh = rw (opened, fresh) refl

  twice : (before words : List (List ℕ)) (word : List ℕ) (t : Option ℕ) → opened_at names word ≡ Ok t → is_among word before ≡ true → tables_in names before (word ∷ words) ≡ Err Twice
  unfolding tables_in
  twice before words word t opened again = rw (opened, again) refl

  refused : (before words : List (List ℕ)) (word : List ℕ) (code : Code) → opened_at names word ≡ Err code → tables_in names before (word ∷ words) ≡ Err code
  unfolding tables_in
  refused before words word code opened = rw opened refl

  ended : (before : List (List ℕ)) → tables_in names before [] ≡ Ok (Some [])
  unfolding tables_in
  ended before = refl

  module _ (words : List (Bor (List ℕ))) (i : ℕ) (d : Bor (List ℕ)) (front : Option (List ℕ)) (h : i < length words) (before : tables_in names [] (texts words) ≡ left names words i front) where
    at_word : tables_in names [] (texts words) ≡ (tables_in names (take i (texts words)) ((get_or words i d).now ∷ drop (i + 1) (texts words)) >>= λ more. Ok (joined front more))
    at_word = before ∙ ap (λ (t : List (List ℕ)). tables_in names (take i (texts words)) t >>= λ more. Ok (joined front more)) (dropped_next words i d h)

    pub tables_in-turn : (t : Option ℕ) → opened_at names (get_or words i d).now ≡ Ok t → is_among (get_or words i d).now (take i (texts words)) ≡ false
        → tables_in names [] (texts words) ≡ left names words (i + 1) (joined front (alone t))
    tables_in-turn t opened fresh =
        at_word
        ∙ ap (λ (r : Result (Option (List ℕ)) Code). r >>= λ more. Ok (joined front more)) (one (take i (texts words)) (drop (i + 1) (texts words)) (get_or words i d).now t opened fresh)
        ∙ regrouped front (alone t) (tables_in names (take i (texts words) ++ (get_or words i d).now ∷ []) (drop (i + 1) (texts words)))
        ∙ ap (λ (b : List (List ℕ)). tables_in names b (drop (i + 1) (texts words)) >>= λ more. Ok (joined (joined front (alone t)) more)) (sym (taken words i d h))

    pub tables_in-twice : (t : Option ℕ) → opened_at names (get_or words i d).now ≡ Ok t → is_among (get_or words i d).now (take i (texts words)) ≡ true → tables_in names [] (texts words) ≡ Err Twice
    tables_in-twice t opened again =
        at_word ∙ ap (λ (r : Result (Option (List ℕ)) Code). r >>= λ more. Ok (joined front more)) (twice (take i (texts words)) (drop (i + 1) (texts words)) (get_or words i d).now t opened again)

    pub tables_in-fault : (code : Code) → opened_at names (get_or words i d).now ≡ Err code → tables_in names [] (texts words) ≡ Err code
    tables_in-fault code opened =
        at_word ∙ ap (λ (r : Result (Option (List ℕ)) Code). r >>= λ more. Ok (joined front more)) (refused (take i (texts words)) (drop (i + 1) (texts words)) (get_or words i d).now code opened)

  pub tables_in-end : (words : List (Bor (List ℕ))) (i : ℕ) (front : Option (List ℕ)) → length words ≤ i → tables_in names [] (texts words) ≡ left names words i front
      → tables_in names [] (texts words) ≡ Ok front
  tables_in-end words i front h before =
      before
      ∙ ap (λ (t : List (List ℕ)). tables_in names (take i (texts words)) t >>= λ more. Ok (joined front more)) (dropped words i h)
      ∙ ap (λ (r : Result (Option (List ℕ)) Code). r >>= λ more. Ok (joined front more)) (ended (take i (texts words)))
      ∙ ap Ok (joined-end front)
