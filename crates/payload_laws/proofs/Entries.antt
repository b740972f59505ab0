-- What is read as the opening or the close of an entry was put as its one payload.
use Rattle.std.proofs.Common.{◌≡◌, ℕ, zero, suc, ◌*◌, ◌^◌, ◌≤◌, Bool, true, false, cond, eqb, ltb, leb, List, [], ◌∷◌, ◌++◌, length, take, drop, Option, Some, None, Result, Ok, Err, refl, sym, ◌∙◌}
use Rattle.std.proofs.Common.{ap, subst, append_assoc, arith}
use Rattle.std.specs.Prelude.{◌==◌, ◌&&◌, nat_le}
use Rattle.std.specs.List.{flat_map}
use Rattle.std.specs.Int.{w32, w64, to_be_bytes, from_be_bytes}
use Rattle.std.proofs.lemmas.Bool.{eqb-true, leb-true, ltb-false, le-ltb}
use Rattle.std.proofs.lemmas.List.{append-nil, nil_from_length, length-take-le, take-append-drop, drop-drop, length-drop}
use Rattle.std.proofs.lemmas.List.Concat.{flat_map-cons}
use Rattle.stab_base.proofs.Fields.{IsBytes-drop}
use Rattle.stab_base.specs.declared.codec.TakeFault.{TakeFault}
use Rattle.stab_base.specs.declared.codec.TakeFault.TheVariants.{Short}
use Rattle.stab_base.specs.declared.limits.TheConstants.{NUMBER_MAX}
use Rattle.stab_base.specs.Codec.{◌>>=◌, IsBytes, byte_at, number_at}
use Rattle.stab_base.proofs.Fields.{bind_ok, guard_ok, ok_is, wide32, wide64, byte_takes, number_takes}
use Rattle.value_codec.specs.Spelling.{name_spelling}
use Rattle.status_log.specs.declared.payload.Opening.{Opening}
use Rattle.status_log.specs.Entry.{Entry}
use Rattle.status_log.specs.Payload.{open_payload, close_payload, id_at, opening_at, name_in, names_in, entry_in, is_whole, opened_by, opens, closes}
use Rattle.payload_laws.specs.Entries.{IsOpening}
use Rattle.payload_laws.proofs.Rows.{both_are}

abbrev Found : Type 0
Found = Result (ℕ × List ℕ) TakeFault

abbrev closed : Found → Option ℕ
closed (Ok found) = cond ((length found.1 == 0) && nat_le found.0 NUMBER_MAX) (Some found.0) None
closed (Err fault) = None

abbrev tagged : Found → Option ℕ
tagged (Ok tag) = cond (tag.0 == 2) (closed (number_at w64 tag.1)) None
tagged (Err fault) = None

pub only_close : (payload : List ℕ) (version : ℕ) → IsBytes payload → closes payload ≡ Some version → (version ≤ NUMBER_MAX) × (payload ≡ close_payload version)
unfolding closes
only_close payload version fits e = first (byte_at payload) refl e
  where
    third : (tag found : ℕ × List ℕ) → byte_at payload ≡ Ok tag → tag.0 ≡ 2 → number_at w64 tag.1 ≡ Ok found → (b : Bool) → ((length found.1 == 0) && nat_le found.0 NUMBER_MAX) ≡ b
        → cond b (Some found.0) None ≡ Some version → (version ≤ NUMBER_MAX) × (payload ≡ close_payload version)
    third tag found is two read true test e =
        let t = byte_takes payload tag.0 tag.1 fits is in
        let u = number_takes w64 (2 ^ 64) wide64 tag.1 found.0 found.1 t.0.rest_fits read in
        let both = both_are (eqb (length found.1) 0) (leb found.0 NUMBER_MAX) test in
        let nothing : found.1 ≡ [] = nil_from_length found.1 (eqb-true _ _ both.0) in
        let same : found.0 ≡ version = cc in
        let v : List ℕ = to_be_bytes w64 found.0 in
        let behind : tag.1 ≡ v = u.0.parts ∙ (ap (λ (l : List ℕ). v ++ l) nothing ∙ append-nil v) in (
          subst (λ (n : ℕ). n ≤ NUMBER_MAX) same (leb-true _ _ both.1),
          t.0.parts ∙ (ap (λ (n : ℕ). n ∷ tag.1) two ∙ (ap (λ (l : List ℕ). 2 ∷ l) behind ∙ ap (λ (n : ℕ). close_payload n) same)),
        )
    third tag found is two read false test e = absurd cc

    second : (tag : ℕ × List ℕ) → byte_at payload ≡ Ok tag → tag.0 ≡ 2 → (r : Found) → number_at w64 tag.1 ≡ r → closed r ≡ Some version → (version ≤ NUMBER_MAX) × (payload ≡ close_payload version)
    second tag is two (Ok found) read e = third tag found is two read ((length found.1 == 0) && nat_le found.0 NUMBER_MAX) refl e
    second tag is two (Err fault) read e = absurd cc

    by_tag : (tag : ℕ × List ℕ) → byte_at payload ≡ Ok tag → (b : Bool) → (tag.0 == 2) ≡ b → cond b (closed (number_at w64 tag.1)) None ≡ Some version
        → (version ≤ NUMBER_MAX) × (payload ≡ close_payload version)
    by_tag tag is true test e = second tag is (eqb-true _ _ test) (number_at w64 tag.1) refl e
    by_tag tag is false test e = absurd cc

    first : (r : Found) → byte_at payload ≡ r → tagged r ≡ Some version → (version ≤ NUMBER_MAX) × (payload ≡ close_payload version)
    first (Ok tag) is e = by_tag tag is (tag.0 == 2) refl e
    first (Err fault) is e = absurd cc

-- ---- openings

number_here : (bytes : List ℕ) → IsBytes bytes → 12 ≤ length bytes
    → bytes ≡ name_spelling (name_in bytes) ++ drop 12 bytes
number_here bytes fits long =
    let wide : ltb (length bytes) 8 ≡ false = le-ltb _ _ (omega (arith, long)) in
    let t = number_takes w64 (2 ^ 64) wide64 bytes (from_be_bytes w64 (take 8 bytes)) (drop 8 bytes) fits (rw wide refl) in
    let short : ltb (length (drop 8 bytes)) 4 ≡ false = le-ltb _ _ (omega (arith, long, length-drop 8 bytes)) in
    let u = number_takes w32 (2 ^ 32) wide32 (drop 8 bytes) (from_be_bytes w32 (take 4 (drop 8 bytes))) (drop 4 (drop 8 bytes)) t.0.rest_fits (rw short refl) in
    let v : List ℕ = to_be_bytes w64 (from_be_bytes w64 (take 8 bytes)) in
    let o : List ℕ = to_be_bytes w32 (from_be_bytes w32 (take 4 (drop 8 bytes))) in
    t.0.parts ∙ (ap (λ (l : List ℕ). v ++ l) (u.0.parts ∙ ap (λ (l : List ℕ). o ++ l) (drop-drop 4 8 bytes)) ∙ sym (append_assoc v o (drop 12 bytes)))

names_spelled : (count : ℕ) (bytes : List ℕ) → IsBytes bytes → length bytes ≡ 12 * count → flat_map name_spelling (names_in count bytes) ≡ bytes
names_spelled zero bytes fits len = sym (nil_from_length bytes (omega (arith, len)))
names_spelled (suc count) bytes fits len =
    let here = number_here bytes fits (omega (arith, len)) in
    flat_map-cons name_spelling (name_in bytes) (names_in count (drop 12 bytes))
    ∙ (ap (λ (l : List ℕ). name_spelling (name_in bytes) ++ l) (names_spelled count (drop 12 bytes) (IsBytes-drop 12 bytes fits) (omega (arith, len, length-drop 12 bytes))) ∙ sym here)

names_counted : (count : ℕ) (bytes : List ℕ) → length (names_in count bytes) ≡ count
names_counted zero bytes = refl
names_counted (suc count) bytes = ap (λ (n : ℕ). suc n) (names_counted count (drop 12 bytes))

abbrev head_spelling : Opening → List ℕ
head_spelling o = to_be_bytes w64 o.version ++ (o.row ++ (to_be_bytes w32 o.client ++ (to_be_bytes w64 o.number ++ (to_be_bytes w64 o.base ++ (to_be_bytes w32 o.fresh ++ to_be_bytes w32 o.count)))))

id_takes : (bytes id rest : List ℕ) → IsBytes bytes → id_at bytes ≡ Ok (id, rest) → (bytes ≡ id ++ rest) × (length id ≡ 16) × IsBytes rest
id_takes bytes id rest fits e =
    let g = guard_ok (ltb (length bytes) 16) (Short 16 (length bytes)) (take 16 bytes, drop 16 bytes) (id, rest) e in
    let long : 16 ≤ length bytes = ltb-false _ _ g.0 in
    subst (λ (p : List ℕ × List ℕ). (bytes ≡ p.0 ++ p.1) × (length p.0 ≡ 16) × IsBytes p.1) g.1 (sym (take-append-drop 16 bytes), length-take-le 16 bytes long, IsBytes-drop 16 bytes fits)

abbrev made : ℕ → List ℕ → ℕ → ℕ → ℕ → ℕ → ℕ → Opening
made version row client number base fresh count =
    record { version = version; row = row; client = client; number = number; base = base; fresh = fresh; count = count }

seven : (v i c n b f k rest : List ℕ) → v ++ (i ++ (c ++ (n ++ (b ++ (f ++ (k ++ rest)))))) ≡ (v ++ (i ++ (c ++ (n ++ (b ++ (f ++ k)))))) ++ rest
seven v i c n b f k rest = simp append_assoc

abbrev Read : Type 0
Read = Result (Opening × List ℕ) TakeFault

-- the fields behind the client
behind_client : ℕ → List ℕ → ℕ → List ℕ → Read
behind_client version row client bytes =
    number_at w64 bytes >>= λ n. number_at w64 n.1 >>= λ b. number_at w32 b.1 >>= λ f. number_at w32 f.1 >>= λ k. Ok (made version row client n.0 b.0 f.0 k.0, k.1)

record Behind (version : ℕ) (row : List ℕ) (client : ℕ) (bytes : List ℕ) (o : Opening) (rest : List ℕ) : Type 0 where
  pub n : ℕ
  pub b : ℕ
  pub f : ℕ
  pub k : ℕ
  pub is : made version row client n b f k ≡ o
  pub parts : bytes ≡ to_be_bytes w64 n ++ (to_be_bytes w64 b ++ (to_be_bytes w32 f ++ (to_be_bytes w32 k ++ rest)))
  pub fits : IsBytes rest

behind_takes : (version : ℕ) (row : List ℕ) (client : ℕ) (bytes : List ℕ) (o : Opening) (rest : List ℕ) → IsBytes bytes → behind_client version row client bytes ≡ Ok (o, rest)
    → Behind version row client bytes o rest
unfolding behind_client
behind_takes version row client bytes o rest fits e =
    let f3 : ℕ × List ℕ → ℕ × List ℕ → ℕ × List ℕ → ℕ × List ℕ → Result (Opening × List ℕ) TakeFault = λ n b f k. Ok (made version row client n.0 b.0 f.0 k.0, k.1) in
    let f2 : ℕ × List ℕ → ℕ × List ℕ → ℕ × List ℕ → Result (Opening × List ℕ) TakeFault = λ n b f. number_at w32 f.1 >>= f3 n b f in
    let f1 : ℕ × List ℕ → ℕ × List ℕ → Result (Opening × List ℕ) TakeFault = λ n b. number_at w32 b.1 >>= f2 n b in
    let f0 : ℕ × List ℕ → Result (Opening × List ℕ) TakeFault = λ n. number_at w64 n.1 >>= f1 n in
    let n = bind_ok (number_at w64 bytes) f0 (o, rest) e in
    let b = bind_ok (number_at w64 n.0.1) (f1 n.0) (o, rest) n.2 in
    let f = bind_ok (number_at w32 b.0.1) (f2 n.0 b.0) (o, rest) b.2 in
    let k = bind_ok (number_at w32 f.0.1) (f3 n.0 b.0 f.0) (o, rest) f.2 in
    let tn = number_takes w64 (2 ^ 64) wide64 bytes n.0.0 n.0.1 fits n.1 in
    let tb = number_takes w64 (2 ^ 64) wide64 n.0.1 b.0.0 b.0.1 tn.0.rest_fits b.1 in
    let tf = number_takes w32 (2 ^ 32) wide32 b.0.1 f.0.0 f.0.1 tb.0.rest_fits f.1 in
    let tk = number_takes w32 (2 ^ 32) wide32 f.0.1 k.0.0 k.0.1 tf.0.rest_fits k.1 in
    let last = ok_is (made version row client n.0.0 b.0.0 f.0.0 k.0.0, k.0.1) (o, rest) k.2 in
    let same : k.0.1 ≡ rest = ap (λ (p : Opening × List ℕ). p.1) last in
    record {
      n = n.0.0;
      b = b.0.0;
      f = f.0.0;
      k = k.0.0;
      is = ap (λ (p : Opening × List ℕ). p.0) last;
      parts = tn.0.parts ∙ ap (λ (l : List ℕ). to_be_bytes w64 n.0.0 ++ l) (tb.0.parts ∙ ap (λ (l : List ℕ). to_be_bytes w64 b.0.0 ++ l) (tf.0.parts ∙ ap (λ (l : List ℕ). to_be_bytes w32 f.0.0 ++ l) (tk.0.parts ∙ ap (λ (l : List ℕ). to_be_bytes w32 k.0.0 ++ l) same)));
      fits = subst IsBytes same tk.0.rest_fits;
    }

-- the fields up to the client, and those behind it
in_two : (bytes : List ℕ) → opening_at bytes ≡ (number_at w64 bytes >>= λ v. id_at v.1 >>= λ i. number_at w32 i.1 >>= λ c. behind_client v.0 i.0 c.0 c.1)
unfolding opening_at behind_client
in_two bytes = refl

head_takes : (bytes : List ℕ) (o : Opening) (rest : List ℕ) → IsBytes bytes → opening_at bytes ≡ Ok (o, rest) → (bytes ≡ head_spelling o ++ rest) × (length o.row ≡ 16) × IsBytes rest
head_takes bytes o rest fits e =
    let f2 : ℕ × List ℕ → List ℕ × List ℕ → ℕ × List ℕ → Result (Opening × List ℕ) TakeFault = λ v i c. behind_client v.0 i.0 c.0 c.1 in
    let f1 : ℕ × List ℕ → List ℕ × List ℕ → Result (Opening × List ℕ) TakeFault = λ v i. number_at w32 i.1 >>= f2 v i in
    let f0 : ℕ × List ℕ → Result (Opening × List ℕ) TakeFault = λ v. id_at v.1 >>= f1 v in
    let v = bind_ok (number_at w64 bytes) f0 (o, rest) (sym (in_two bytes) ∙ e) in
    let i = bind_ok (id_at v.0.1) (f1 v.0) (o, rest) v.2 in
    let c = bind_ok (number_at w32 i.0.1) (f2 v.0 i.0) (o, rest) i.2 in
    let tv = number_takes w64 (2 ^ 64) wide64 bytes v.0.0 v.0.1 fits v.1 in
    let ti = id_takes v.0.1 i.0.0 i.0.1 tv.0.rest_fits i.1 in
    let tc = number_takes w32 (2 ^ 32) wide32 i.0.1 c.0.0 c.0.1 ti.2 c.1 in
    let d = behind_takes v.0.0 i.0.0 c.0.0 c.0.1 o rest tc.0.rest_fits c.2 in
    let apart = tv.0.parts ∙ ap (λ (l : List ℕ). to_be_bytes w64 v.0.0 ++ l) (ti.0 ∙ ap (λ (l : List ℕ). i.0.0 ++ l) (tc.0.parts ∙ ap (λ (l : List ℕ). to_be_bytes w32 c.0.0 ++ l) d.parts)) in
    subst (λ (p : Opening). (bytes ≡ head_spelling p ++ rest) × (length p.row ≡ 16) × IsBytes rest) d.is
    (apart ∙ seven (to_be_bytes w64 v.0.0) i.0.0 (to_be_bytes w32 c.0.0) (to_be_bytes w64 d.n) (to_be_bytes w64 d.b) (to_be_bytes w32 d.f) (to_be_bytes w32 d.k) rest, ti.1, d.fits)

flat : (entry : Entry) → open_payload entry ≡ 1
    ∷ (to_be_bytes w64 entry.version
    ++ (entry.row ++ (to_be_bytes w32 entry.client
    ++ (to_be_bytes w64 entry.number ++ (to_be_bytes w64 entry.base ++ (to_be_bytes w32 entry.fresh ++ (to_be_bytes w32 (length entry.old) ++ flat_map name_spelling entry.old)))))))
flat entry = simp append_assoc

opened : (o : Opening) (names : List ℕ) (entry : Entry) → IsBytes names → length o.row ≡ 16 → opened_by o names ≡ Some entry → IsOpening (1 ∷ (head_spelling o ++ names)) entry
opened o names entry fits row e = by_test (is_whole o (length names)) refl e
  where
    by_test : (b : Bool) → is_whole o (length names) ≡ b → cond b (Some (entry_in o names)) None ≡ Some entry → IsOpening (1 ∷ (head_spelling o ++ names)) entry
    by_test true is e =
        let outer = both_are (length names == 12 * o.count) ((nat_le 1 o.client && nat_le o.client 64) && nat_le o.version NUMBER_MAX) is in
        let inner = both_are (nat_le 1 o.client && nat_le o.client 64) (nat_le o.version NUMBER_MAX) outer.1 in
        let client = both_are (nat_le 1 o.client) (nat_le o.client 64) inner.0 in
        let len : length names ≡ 12 * o.count = eqb-true _ _ outer.0 in
        let vs : List ℕ = to_be_bytes w64 o.version in
        let cs : List ℕ = to_be_bytes w32 o.client in
        let ns : List ℕ = to_be_bytes w64 o.number in
        let bs : List ℕ = to_be_bytes w64 o.base in
        let fs : List ℕ = to_be_bytes w32 o.fresh in
        let ks : List ℕ = to_be_bytes w32 o.count in
        let spelled : 1 ∷ (head_spelling o ++ names) ≡ open_payload (entry_in o names) =
        ap (λ (l : List ℕ). 1 ∷ l) (sym (seven vs o.row cs ns bs fs ks names)
        ∙ ap (λ (l : List ℕ). vs ++ (o.row ++ (cs ++ (ns ++ (bs ++ (fs ++ l)))))) (ap (λ (n : ℕ). to_be_bytes w32 n ++ names) (sym (names_counted o.count names))
        ∙ ap (λ (l : List ℕ). to_be_bytes w32 (length (names_in o.count names)) ++ l) (sym (names_spelled o.count names fits len)))) ∙ sym (flat (entry_in o names)) in
        let same : entry_in o names ≡ entry = cc in
        subst (IsOpening (1 ∷ (head_spelling o ++ names))) same
        (record { version = leb-true _ _ inner.1; row = row; client_from = leb-true _ _ client.0; client_to = leb-true _ _ client.1; spelled = spelled })
    by_test false is e = absurd cc

abbrev said : Result (Opening × List ℕ) TakeFault → Option Entry
said (Ok found) = opened_by found.0 found.1
said (Err fault) = None

abbrev tagged_open : Found → Option Entry
tagged_open (Ok tag) = cond (tag.0 == 1) (said (opening_at tag.1)) None
tagged_open (Err fault) = None

pub only_opening : (payload : List ℕ) (entry : Entry) → IsBytes payload → opens payload ≡ Some entry → IsOpening payload entry
unfolding opens
only_opening payload entry fits e = first (byte_at payload) refl e
  where
    second : (tag : ℕ × List ℕ) → byte_at payload ≡ Ok tag → tag.0 ≡ 1 → (r : Result (Opening × List ℕ) TakeFault) → opening_at tag.1 ≡ r → said r ≡ Some entry → IsOpening payload entry
    second tag is one (Ok found) read e =
        let t = byte_takes payload tag.0 tag.1 fits is in
        let h = head_takes tag.1 found.0 found.1 t.0.rest_fits read in
        let parts : payload ≡ 1 ∷ (head_spelling found.0 ++ found.1) = t.0.parts ∙ (ap (λ (n : ℕ). n ∷ tag.1) one ∙ ap (λ (l : List ℕ). 1 ∷ l) h.0) in
        subst (λ (l : List ℕ). IsOpening l entry) (sym parts) (opened found.0 found.1 entry h.2 h.1 e)
    second tag is one (Err fault) read e = absurd cc

    by_tag : (tag : ℕ × List ℕ) → byte_at payload ≡ Ok tag → (b : Bool) → (tag.0 == 1) ≡ b → cond b (said (opening_at tag.1)) None ≡ Some entry → IsOpening payload entry
    by_tag tag is true test e = second tag is (eqb-true _ _ test) (opening_at tag.1) refl e
    by_tag tag is false test e = absurd cc

    first : (r : Found) → byte_at payload ≡ r → tagged_open r ≡ Some entry → IsOpening payload entry
    first (Ok tag) is e = by_tag tag is (tag.0 == 1) refl e
    first (Err fault) is e = absurd cc
