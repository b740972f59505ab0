-- What a word is that is right at its place.
use Rattle.std.proofs.Common.{◌≡◌, ℕ, Bool, true, false, not, cond, List, ◌∷◌, codes, Option, Some, None, Result, Ok, Err, refl, sym, ap, ◌∙◌, subst}
use Rattle.std.proofs.Common.{inl, inr, true≢false}
use Rattle.std.specs.Fmt.{decimal, digits}
use Rattle.std.specs.Str.{bytes_eq}
use Rattle.std.proofs.lemmas.Bool.{cases_Bool}
use Rattle.std.proofs.lemmas.Slice.Eq.{bytes_eq-Decides}
use Rattle.stab_base.specs.Row.{row_of}
use Rattle.stab_base.specs.declared.node.Node.{Node}
use Rattle.stab_base.specs.declared.node.Node.TheVariants as nodes
use Rattle.row_value.specs.declared.schema.Scheme.{Scheme}
use Rattle.row_value.specs.declared.schema.Scheme.TheVariants as schemes
use Rattle.script_words.specs.declared.code.Code.{Code}
use Rattle.script_words.specs.declared.code.Code.TheVariants.{NoNumber, NoName, NoRow, NotDeclared, Twice}
use Rattle.script_text.specs.Names.{Names, has_store, has_gate, has_table, has_name, has_client}
use Rattle.script_words.specs.Words.{is_name}
use Rattle.script_text.specs.Places.{◌>>=◌, node_at, known, limited_at, passed, fresh, opened, opened_at, client_at, store_at, named_gate_at}
use Rattle.script_text.specs.Places.{gate_number, new_gate_at, own_gate_at, chosen}
use Rattle.script_text.specs.Places.{begins_with, party_at, table_at, store_number, table_number}
use Rattle.script_text.specs.Places.{client_number, new_store_at, new_table_at, new_client_at, gate_at, new_name_at, scheme_at, chunk_at, row_at, found_row}
use Rattle.script_text.specs.Grammar.{IsChunk, IsUpTo, scheme_word, client_word, store_word, table_word, node_word, gate_word, gateway_word, IsClient, IsTable, IsNode, IsGateway}
use Rattle.script_text.proofs.Steps.{ok_err, bind-ok}
use Rattle.script_text.proofs.Numbers.{if-ok, unless-ok, some_same, ok_same, none_some, node-some, limited-some}

pub positive : (b : Bool) → not b ≡ false → b ≡ true
positive true e = refl
positive false e = absurd (true≢false e)

known-ok : (has : ℕ → Bool) (o : Option ℕ) (n : ℕ) → known has o ≡ Ok n → (o ≡ Some n) × (has n ≡ true)
known-ok has None n e = absurd (ok_err n NotDeclared (sym e))
known-ok has (Some m) n e =
    let p = if-ok (has m) (Ok m) NotDeclared n e in
    let same : m ≡ n = ok_same _ _ p.1 in (ap Some same, subst (λ (k : ℕ). has k ≡ true) same p.0)

fresh-ok : (has : ℕ → Bool) (o : Option ℕ) (n : ℕ) → fresh has o ≡ Ok (Some n) → (o ≡ Some n) × (has n ≡ false)
fresh-ok has None n e = absurd (none_some n (ok_same _ _ e))
fresh-ok has (Some m) n e =
    let p = unless-ok (has m) (Ok (Some m)) Twice (Some n) e in
    let same : m ≡ n = some_same _ _ (ok_same _ _ p.1) in (ap Some same, subst (λ (k : ℕ). has k ≡ false) same p.0)

fresh-none : (has : ℕ → Bool) (o : Option ℕ) → fresh has o ≡ Ok None → o ≡ None
fresh-none has None e = refl
fresh-none has (Some m) e =
    let p = unless-ok (has m) (Ok (Some m)) Twice None e in absurd (none_some m (sym (ok_same _ _ p.1)))

opened-ok : (has : ℕ → Bool) (o : Option ℕ) (n : ℕ) → opened has o ≡ Ok (Some n) → (o ≡ Some n) × (has n ≡ true)
opened-ok has None n e = absurd (none_some n (ok_same _ _ e))
opened-ok has (Some m) n e =
    let p = if-ok (has m) (Ok (Some m)) NotDeclared (Some n) e in
    let same : m ≡ n = some_same _ _ (ok_same _ _ p.1) in (ap Some same, subst (λ (k : ℕ). has k ≡ true) same p.0)

opened-none : (has : ℕ → Bool) (o : Option ℕ) → opened has o ≡ Ok None → o ≡ None
opened-none has None e = refl
opened-none has (Some m) e =
    let p = if-ok (has m) (Ok (Some m)) NotDeclared None e in absurd (none_some m (sym (ok_same _ _ p.1)))

module _ (judge : Option ℕ → Result (Option ℕ) Code) (P : ℕ → Type 0) (right : (o : Option ℕ) (n : ℕ) → judge o ≡ Ok (Some n) → (o ≡ Some n) × P n) (letter most : ℕ) (word : List ℕ) where
  within : (n : ℕ) → (limited_at letter most word >>= judge) ≡ Ok (Some n) → (limited_at letter most word ≡ Ok (Some n)) × P n
  within n e =
      let p = bind-ok (limited_at letter most word) judge (Some n) e in
      let q = right p.0 n p.2 in
      (p.1 ∙ ap Ok q.0, q.1)

  numbered : (n : ℕ) → (limited_at letter most word >>= judge) ≡ Ok (Some n) → (word ≡ letter ∷ decimal n) × IsUpTo most n × P n
  numbered n e =
      let p = within n e in
      let q = limited-some letter most word n p.0 in
      (q.0, (q.1, q.2), p.1)

above : (judge : Option ℕ → Result (Option ℕ) Code) (letter most : ℕ) (word : List ℕ) (limit : ℕ) → ((o : Option ℕ) → judge o ≡ Ok None → o ≡ None) → (limited_at letter most word >>= judge) ≡ Ok None
    → passed limit (limited_at letter most word) ≡ Some limit
above judge letter most word limit none e =
    let p = bind-ok (limited_at letter most word) judge None e in
    ap (passed limit) (p.1 ∙ ap Ok (none p.0 p.2))

module _ (names : Names) (word : List ℕ) (n : ℕ) where
  pub client_at-ok : client_at names word ≡ Ok n → (word ≡ client_word n) × IsClient names n
  unfolding client_at
  client_at-ok e =
      let p = bind-ok (node_at 67 word) (known (has_client names)) n e in
      let q = known-ok (has_client names) p.0 n p.2 in
      let r = node-some 67 word n (p.1 ∙ ap Ok q.0) in
      (r.0, (r.1, r.2, q.1))

  pub table_at-ok : table_at names word ≡ Ok n → (word ≡ table_word n) × IsTable names n
  unfolding table_at
  table_at-ok e =
      let p = bind-ok (node_at 84 word) (known (has_table names)) n e in
      let q = known-ok (has_table names) p.0 n p.2 in
      let r = node-some 84 word n (p.1 ∙ ap Ok q.0) in
      (r.0, (r.1, r.2, q.1))

module _ (names : Names) (word : List ℕ) where
  store_at-ok : (n : ℕ) → store_at names word ≡ Ok n → (word ≡ node_word (nodes.Store n)) × IsNode names (nodes.Store n)
  unfolding store_at
  store_at-ok n e =
      let p = bind-ok (node_at 83 word) (known (has_store names)) n e in
      let q = known-ok (has_store names) p.0 n p.2 in
      let r = node-some 83 word n (p.1 ∙ ap Ok q.0) in
      (r.0, (r.1, r.2, q.1))

  store-ok : (node : Node) → (store_at names word >>= λ number. Ok (nodes.Store number)) ≡ Ok node → (word ≡ node_word node) × IsNode names node
  store-ok node e =
      let p = bind-ok (store_at names word) (λ number. Ok (nodes.Store number)) node e in
      subst (λ (x : Node). (word ≡ node_word x) × IsNode names x) (ok_same _ _ p.2) (store_at-ok p.0 p.1)

  client-ok : (node : Node) → (client_at names word >>= λ number. Ok (nodes.Client number)) ≡ Ok node → (word ≡ node_word node) × IsNode names node
  client-ok node e =
      let p = bind-ok (client_at names word) (λ number. Ok (nodes.Client number)) node e in
      subst (λ (x : Node). (word ≡ node_word x) × IsNode names x) (ok_same _ _ p.2) (client_at-ok names word p.0 p.1)

  named_gate_at-ok : (n : ℕ) → named_gate_at names word ≡ Ok n → (word ≡ node_word (nodes.Gate n)) × IsNode names (nodes.Gate n)
  unfolding named_gate_at
  named_gate_at-ok n e =
      let p = bind-ok (node_at 71 word) (known (has_gate names)) n e in
      let q = known-ok (has_gate names) p.0 n p.2 in
      let r = node-some 71 word n (p.1 ∙ ap Ok q.0) in
      (r.0, (r.1, r.2, q.1))

  gate-ok : (node : Node) → (named_gate_at names word >>= λ number. Ok (nodes.Gate number)) ≡ Ok node → (word ≡ node_word node) × IsNode names node
  gate-ok node e =
      let p = bind-ok (named_gate_at names word) (λ number. Ok (nodes.Gate number)) node e in
      subst (λ (x : Node). (word ≡ node_word x) × IsNode names x) (ok_same _ _ p.2) (named_gate_at-ok p.0 p.1)

  pub party_at-ok : (node : Node) → party_at names word ≡ Ok node → (word ≡ node_word node) × IsNode names node
  unfolding party_at
  party_at-ok node e = elim (cases_Bool (begins_with 83 word)) [
    | inl store ↦ store-ok node (rw store at e)
    | inr other ↦ elim (cases_Bool (begins_with 71 word)) [
      | inl gate ↦ gate-ok node (rw (other, gate) at e)
      | inr neither ↦ client-ok node (rw (other, neither) at e)
    ]
  ]

  pub new_store_at-ok : (n : ℕ) → new_store_at names word ≡ Ok (Some n) → (word ≡ store_word n) × IsUpTo 16 n × (has_store names n ≡ false)
  unfolding new_store_at
  new_store_at-ok n e = numbered (fresh (has_store names)) _ (fresh-ok (has_store names)) 83 16 word n e

  pub new_store_at-within : (n : ℕ) → new_store_at names word ≡ Ok (Some n) → passed 7 (store_number word) ≡ None
  unfolding new_store_at
  new_store_at-within n e = ap (passed 7) (within (fresh (has_store names)) _ (fresh-ok (has_store names)) 83 16 word n e).0

  pub new_store_at-limit : new_store_at names word ≡ Ok None → passed 7 (store_number word) ≡ Some 7
  unfolding new_store_at
  new_store_at-limit e = above (fresh (has_store names)) 83 16 word 7 (fresh-none (has_store names)) e

  pub new_gate_at-ok : (n : ℕ) → new_gate_at names word ≡ Ok (Some n) → (word ≡ gate_word n) × IsUpTo 16 n × (has_gate names n ≡ false)
  unfolding new_gate_at
  new_gate_at-ok n e = numbered (fresh (has_gate names)) _ (fresh-ok (has_gate names)) 71 16 word n e

  pub new_gate_at-within : (n : ℕ) → new_gate_at names word ≡ Ok (Some n) → passed 6 (gate_number word) ≡ None
  unfolding new_gate_at
  new_gate_at-within n e = ap (passed 6) (within (fresh (has_gate names)) _ (fresh-ok (has_gate names)) 71 16 word n e).0

  pub new_gate_at-limit : new_gate_at names word ≡ Ok None → passed 6 (gate_number word) ≡ Some 6
  unfolding new_gate_at
  new_gate_at-limit e = above (fresh (has_gate names)) 71 16 word 6 (fresh-none (has_gate names)) e

  own_gate_at-ok : (n : ℕ) → own_gate_at names word ≡ Ok (Some n) → (word ≡ gate_word n) × IsUpTo 16 n × (has_gate names n ≡ true)
  unfolding own_gate_at
  own_gate_at-ok n e = numbered (opened (has_gate names)) _ (opened-ok (has_gate names)) 71 16 word n e

  own_gate_at-within : (n : ℕ) → own_gate_at names word ≡ Ok (Some n) → passed 6 (gate_number word) ≡ None
  unfolding own_gate_at
  own_gate_at-within n e = ap (passed 6) (within (opened (has_gate names)) _ (opened-ok (has_gate names)) 71 16 word n e).0

  own_gate_at-limit : own_gate_at names word ≡ Ok None → passed 6 (gate_number word) ≡ Some 6
  unfolding own_gate_at
  own_gate_at-limit e = above (opened (has_gate names)) 71 16 word 6 (opened-none (has_gate names)) e

  pub new_table_at-ok : (n : ℕ) → new_table_at names word ≡ Ok (Some n) → (word ≡ table_word n) × IsUpTo 64 n × (has_table names n ≡ false)
  unfolding new_table_at
  new_table_at-ok n e = numbered (fresh (has_table names)) _ (fresh-ok (has_table names)) 84 64 word n e

  pub new_table_at-within : (n : ℕ) → new_table_at names word ≡ Ok (Some n) → passed 4 (table_number word) ≡ None
  unfolding new_table_at
  new_table_at-within n e = ap (passed 4) (within (fresh (has_table names)) _ (fresh-ok (has_table names)) 84 64 word n e).0

  pub new_table_at-limit : new_table_at names word ≡ Ok None → passed 4 (table_number word) ≡ Some 4
  unfolding new_table_at
  new_table_at-limit e = above (fresh (has_table names)) 84 64 word 4 (fresh-none (has_table names)) e

  pub new_client_at-ok : (n : ℕ) → new_client_at names word ≡ Ok (Some n) → (word ≡ client_word n) × IsUpTo 64 n × (has_client names n ≡ false)
  unfolding new_client_at
  new_client_at-ok n e = numbered (fresh (has_client names)) _ (fresh-ok (has_client names)) 67 64 word n e

  pub new_client_at-within : (n : ℕ) → new_client_at names word ≡ Ok (Some n) → passed 5 (client_number word) ≡ None
  unfolding new_client_at
  new_client_at-within n e = ap (passed 5) (within (fresh (has_client names)) _ (fresh-ok (has_client names)) 67 64 word n e).0

  pub new_client_at-limit : new_client_at names word ≡ Ok None → passed 5 (client_number word) ≡ Some 5
  unfolding new_client_at
  new_client_at-limit e = above (fresh (has_client names)) 67 64 word 5 (fresh-none (has_client names)) e

  pub opened_at-ok : (n : ℕ) → opened_at names word ≡ Ok (Some n) → (word ≡ table_word n) × IsUpTo 64 n × (has_table names n ≡ true)
  unfolding opened_at
  opened_at-ok n e = numbered (opened (has_table names)) _ (opened-ok (has_table names)) 84 64 word n e

  pub opened_at-within : (n : ℕ) → opened_at names word ≡ Ok (Some n) → passed 4 (table_number word) ≡ None
  unfolding opened_at
  opened_at-within n e = ap (passed 4) (within (opened (has_table names)) _ (opened-ok (has_table names)) 84 64 word n e).0

  pub opened_at-limit : opened_at names word ≡ Ok None → passed 4 (table_number word) ≡ Some 4
  unfolding opened_at
  opened_at-limit e = above (opened (has_table names)) 84 64 word 4 (opened-none (has_table names)) e

-- one of several words, each of which says one thing
pub one_word : {X : Type 0} (spelling : X → List ℕ) (x y : X) (word : List ℕ) (rest : Result X Code) → (rest ≡ Ok y → word ≡ spelling y)
    → cond (bytes_eq word (spelling x)) (Ok x) rest ≡ Ok y → word ≡ spelling y
one_word spelling x y word rest more e = elim (cases_Bool (bytes_eq word (spelling x))) [
  | inl is ↦ (bytes_eq-Decides word (spelling x)).0 is ∙ ap spelling (ok_same _ _ (rw is at e))
  | inr other ↦ more (rw other at e)
]

-- the gateway of a client, or that it has none; or a number above the limit
abbrev pub IsGateTold : Names → List ℕ → Option (Option ℕ) → Type 0
IsGateTold names word None = passed 6 (gate_number word) ≡ Some 6
IsGateTold names word (Some gate) = (word ≡ gateway_word gate) × IsGateway names gate × (passed 6 (gate_number word) ≡ None)

chosen-told : (names : Names) (word : List ℕ) (o : Option ℕ) → own_gate_at names word ≡ Ok o → IsGateTold names word (chosen o)
chosen-told names word None e = own_gate_at-limit names word e
chosen-told names word (Some n) e =
    let p = own_gate_at-ok names word n e in
    (p.0, (p.1, p.2), own_gate_at-within names word n e)

no-gateway : passed 6 (gate_number (codes "-")) ≡ None
unfolding limited_at node_at
no-gateway = refl

pub gate_at-ok : (names : Names) (word : List ℕ) (gate : Option (Option ℕ)) → gate_at names word ≡ Ok gate → IsGateTold names word gate
unfolding gate_at
gate_at-ok names word gate e = elim (cases_Bool (bytes_eq word (codes "-"))) [
  | inl is ↦
      let same : word ≡ codes "-" = (bytes_eq-Decides word (codes "-")).0 is in
      subst (IsGateTold names word) (ok_same _ _ (rw is at e)) (same, tt, ap (λ (w : List ℕ). passed 6 (gate_number w)) same ∙ no-gateway)
  | inr other ↦
      let p = bind-ok (own_gate_at names word) (λ o. Ok (chosen o)) gate (rw other at e) in
      subst (IsGateTold names word) (ok_same _ _ p.2) (chosen-told names word p.0 p.1)
]

pub new_name_at-ok : (names : Names) (word name : List ℕ) → new_name_at names word ≡ Ok name → (word ≡ name) × (is_name name ≡ true) × (has_name names name ≡ false)
unfolding new_name_at
new_name_at-ok names word name e =
    let p = unless-ok (not (is_name word)) (cond (has_name names word) (Err Twice) (Ok word)) NoName name e in
    let q = unless-ok (has_name names word) (Ok word) Twice name p.1 in
    let same : word ≡ name = ok_same _ _ q.1 in
    (same, subst (λ (w : List ℕ). is_name w ≡ true) same (positive (is_name word) p.0), subst (λ (w : List ℕ). has_name names w ≡ false) same q.0)

pub scheme_at-ok : (word : List ℕ) (scheme : Scheme) → scheme_at word ≡ Ok scheme → word ≡ scheme_word scheme
unfolding scheme_at
scheme_at-ok word scheme e =
    one_word scheme_word schemes.Strong scheme word _
    (one_word scheme_word schemes.Causal scheme word _
    (one_word scheme_word schemes.Eventual scheme word _ (λ none. absurd (ok_err scheme NoName (sym none)))))
    e

pub text-64 : decimal 64 ≡ codes "64"
unfolding digits
text-64 = refl

pub text-1024 : decimal 1024 ≡ codes "1024"
unfolding digits
text-1024 = refl

pub text-65536 : decimal 65536 ≡ codes "65536"
unfolding digits
text-65536 = refl

chunk-is : (word text : List ℕ) (n m : ℕ) → decimal m ≡ text → bytes_eq word text ≡ true → ◌≡◌ {A = Result ℕ Code} (Ok m) (Ok n) → IsChunk m → (word ≡ decimal n) × IsChunk n
chunk-is word text n m spelt is e chunk =
    let same : m ≡ n = ok_same _ _ e in
    ((bytes_eq-Decides word text).0 is ∙ sym spelt ∙ ap decimal same, subst IsChunk same chunk)

pub chunk_at-ok : (word : List ℕ) (n : ℕ) → chunk_at word ≡ Ok n → (word ≡ decimal n) × IsChunk n
unfolding chunk_at
chunk_at-ok word n e = elim (cases_Bool (bytes_eq word (codes "64"))) [
  | inl a ↦ chunk-is word (codes "64") n 64 text-64 a (rw a at e) (inl refl)
  | inr b ↦ elim (cases_Bool (bytes_eq word (codes "1024"))) [
    | inl c ↦ chunk-is word (codes "1024") n 1024 text-1024 c (rw (b, c) at e) (inr (inl refl))
    | inr d ↦
        let p = if-ok (bytes_eq word (codes "65536")) (Ok 65536) NoNumber n (rw (b, d) at e) in
        chunk-is word (codes "65536") n 65536 text-65536 p.0 p.1 (inr (inr refl))
  ]
]

row-ok : (o : Option (List ℕ)) (row : List ℕ) → found_row o ≡ Ok row → o ≡ Some row
row-ok None row e = absurd (ok_err row NoRow (sym e))
row-ok (Some r) row e = ap Some (ok_same _ _ e)

pub row_at-ok : (word row : List ℕ) → row_at word ≡ Ok row → row_of word ≡ Some row
unfolding row_at
row_at-ok word row e = row-ok (row_of word) row e
