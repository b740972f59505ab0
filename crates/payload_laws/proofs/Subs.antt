-- What is read as a subscription was put as its one payload.
use Rattle.std.proofs.Common.{◌≡◌, ℕ, Bool, cond, leb, List, [], ◌∷◌, ◌++◌, length, Option, Result, Ok, Err, refl, ◌∙◌, ap, subst, append_assoc, inl, inr}
use Rattle.std.specs.Prelude.{◌&&◌, nat_le}
use Rattle.std.specs.Int.{w32, to_be_bytes}
use Rattle.std.proofs.lemmas.Bool.{leb-true}
use Rattle.std.proofs.lemmas.List.{append-nil}
use Rattle.stab_base.specs.Codec.{IsBytes}
use Rattle.row_value.specs.declared.schema.Schema.{Schema}
use Rattle.value_codec.specs.Spelling.{flag_spelling}
use Rattle.value_codec.specs.Reading.{◌>>=◌, number_at, flag_at, whole}
use Rattle.value_codec.proofs.FieldReads.{bind_ok, ok_is, branch, no_fault, gives, rest_fits, four_reads, flag_reads}
use Rattle.row_store.specs.declared.stored.StoredRow.{StoredRow}
use Rattle.row_store.specs.declared.stored.SubChange.{SubChange}
use Rattle.row_store.specs.declared.stored.Terms.{Terms}
use Rattle.row_store.specs.Spelling.{IsClient}
use Rattle.row_store.specs.Reading.{terms_if, sub_at, tag_at, row_in, table_in, sub_in, said_by, said_row, said_table, said_sub, SaysSub}
use Rattle.payload_laws.proofs.Rows.{both_are, tag_takes, whole_takes}
use Rattle.payload_laws.specs.Subs.{IsSub}

sub_said : (payload : List ℕ) (change : SubChange) → said_by payload ≡ SaysSub change → sub_in payload ≡ Ok change
unfolding said_by
sub_said payload change e = split (row_in payload) (table_in payload) (sub_in payload) e
  where
    split : (r : Result StoredRow ℕ) (t : Result (Schema × ℕ) ℕ) (s : Result SubChange ℕ) → said_row r (said_table t (said_sub s)) ≡ SaysSub change → s ≡ Ok change
    split (Ok x) t s e = absurd cc
    split (Err left) (Ok x) s e = absurd cc
    split (Err left) (Err left') (Ok x) e = let same : x ≡ change = cc in ap (λ (y : SubChange). Ok y) same
    split (Err left) (Err left') (Err left'') e = absurd cc

abbrev termed : ℕ → ℕ → ℕ → Terms
termed gate period tolerance = record { gate = gate; period = period; tolerance = tolerance }

abbrev subbed : ℕ → Option Terms → SubChange
subbed client terms = record { client = client; terms = terms }

abbrev body : ℕ → Bool → Terms → List ℕ
body client on terms = to_be_bytes w32 client ++ (flag_spelling on ++ (to_be_bytes w32 terms.gate ++ (to_be_bytes w32 terms.period ++ to_be_bytes w32 terms.tolerance)))

regrouped : (c f g p t rest : List ℕ) → c ++ (f ++ (g ++ (p ++ (t ++ rest)))) ≡ (c ++ (f ++ (g ++ (p ++ t)))) ++ rest
regrouped c f g p t rest = simp append_assoc

sub_takes : (bytes : List ℕ) (change : SubChange) (rest : List ℕ) → IsBytes bytes → sub_at bytes ≡ Ok (change, rest)
    → (on : Bool) × (terms : Terms) × IsClient change.client × (change.terms ≡ terms_if on terms) × (bytes ≡ body change.client on terms ++ rest)
unfolding sub_at
sub_takes bytes change rest fits e =
    let bad : Result (SubChange × List ℕ) ℕ = Err (length bytes) in
    let f4 : ℕ × List ℕ → Bool × List ℕ → ℕ × List ℕ → ℕ × List ℕ → ℕ × List ℕ → Result (SubChange × List ℕ) ℕ = λ c o g p t. cond (nat_le 1 c.0 && nat_le c.0 64) (gives (subbed c.0 (terms_if o.0 (termed g.0 p.0 t.0))) t.1) bad in
    let f3 : ℕ × List ℕ → Bool × List ℕ → ℕ × List ℕ → ℕ × List ℕ → Result (SubChange × List ℕ) ℕ = λ c o g p. number_at w32 p.1 >>= f4 c o g p in
    let f2 : ℕ × List ℕ → Bool × List ℕ → ℕ × List ℕ → Result (SubChange × List ℕ) ℕ = λ c o g. number_at w32 g.1 >>= f3 c o g in
    let f1 : ℕ × List ℕ → Bool × List ℕ → Result (SubChange × List ℕ) ℕ = λ c o. number_at w32 o.1 >>= f2 c o in
    let f0 : ℕ × List ℕ → Result (SubChange × List ℕ) ℕ = λ c. flag_at c.1 >>= f1 c in
    let a = bind_ok (number_at w32 bytes) f0 (change, rest) e in
    let b = bind_ok (flag_at a.0.1) (f1 a.0) (change, rest) a.2 in
    let c = bind_ok (number_at w32 b.0.1) (f2 a.0 b.0) (change, rest) b.2 in
    let d = bind_ok (number_at w32 c.0.1) (f3 a.0 b.0 c.0) (change, rest) c.2 in
    let g = bind_ok (number_at w32 d.0.1) (f4 a.0 b.0 c.0 d.0) (change, rest) d.2 in
    let t = four_reads.takes bytes a.0.0 a.0.1 fits a.1 in
    let fits1 : IsBytes a.0.1 = rest_fits (to_be_bytes w32 a.0.0) a.0.1 bytes t.1 fits in
    let u = flag_reads.takes a.0.1 b.0.0 b.0.1 fits1 b.1 in
    let fits2 : IsBytes b.0.1 = rest_fits (flag_spelling b.0.0) b.0.1 a.0.1 u.1 fits1 in
    let v = four_reads.takes b.0.1 c.0.0 c.0.1 fits2 c.1 in
    let fits3 : IsBytes c.0.1 = rest_fits (to_be_bytes w32 c.0.0) c.0.1 b.0.1 v.1 fits2 in
    let w = four_reads.takes c.0.1 d.0.0 d.0.1 fits3 d.1 in
    let fits4 : IsBytes d.0.1 = rest_fits (to_be_bytes w32 d.0.0) d.0.1 c.0.1 w.1 fits3 in
    let x = four_reads.takes d.0.1 g.0.0 g.0.1 fits4 g.1 in
    let cs : List ℕ = to_be_bytes w32 a.0.0 in
    let fs : List ℕ = flag_spelling b.0.0 in
    let gs : List ℕ = to_be_bytes w32 c.0.0 in
    let ps : List ℕ = to_be_bytes w32 d.0.0 in
    let ts : List ℕ = to_be_bytes w32 g.0.0 in
    let terms : Terms = termed c.0.0 d.0.0 g.0.0 in
    let apart : bytes ≡ cs ++ (fs ++ (gs ++ (ps ++ (ts ++ g.0.1)))) =
    t.1 ∙ ap (λ (l : List ℕ). cs ++ l) (u.1 ∙ ap (λ (l : List ℕ). fs ++ l) (v.1 ∙ ap (λ (l : List ℕ). gs ++ l) (w.1 ∙ ap (λ (l : List ℕ). ps ++ l) x.1))) in
    let parts : bytes ≡ body a.0.0 b.0.0 terms ++ g.0.1 = apart ∙ regrouped cs fs gs ps ts g.0.1 in
    elim (branch (leb 1 a.0.0 && leb a.0.0 64) (gives (subbed a.0.0 (terms_if b.0.0 terms)) g.0.1) bad (change, rest) g.2) [
      | inl y ↦
          let both = both_are (leb 1 a.0.0) (leb a.0.0 64) y.0 in
          subst (λ (p : SubChange × List ℕ). (on : Bool) × (terms : Terms) × IsClient p.0.client × (p.0.terms ≡ terms_if on terms) × (bytes ≡ body p.0.client on terms ++ p.1)) (ok_is (subbed a.0.0 (terms_if b.0.0 terms), g.0.1) (change, rest) y.1)
          (b.0.0, terms, record { least = leb-true _ _ both.0; most = leb-true _ _ both.1 }, refl, parts)
      | inr n ↦ absurd (no_fault (length bytes) (change, rest) n.1)
    ]

pub only_sub : (payload : List ℕ) (change : SubChange) → IsBytes payload → said_by payload ≡ SaysSub change → IsSub payload change
unfolding sub_in
only_sub payload change fits e =
    let f : List ℕ → Result SubChange ℕ = λ rest. whole (sub_at rest) in
    let a = bind_ok (tag_at 3 payload) f change (sub_said payload change e) in
    let t = tag_takes 3 payload a.0 fits a.1 in
    let s = sub_takes a.0 change [] t.1 (whole_takes (sub_at a.0) change a.2) in
    record { on = s.0; terms = s.1; client = s.2; is = s.3; spelled = t.0 ∙ ap (λ (l : List ℕ). 3 ∷ l) (s.4 ∙ append-nil (body change.client s.0 s.1)) }
