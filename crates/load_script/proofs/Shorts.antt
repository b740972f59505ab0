-- How long the lines of a script are, and how many lines a group has.
use Rattle.std.proofs.Common.{◌≡◌, ℕ, zero, suc, ◌+◌, ◌*◌, ◌<◌, ◌≤◌, ◌≢◌, ◌^◌, Bool, true, false, List, [], ◌∷◌, ◌++◌, length, map, codes, decimal, refl, sym, ap, subst, ◌∙◌, eqb, leb}
use Rattle.std.proofs.Common.{arith, lit≤, if◌then◌else◌}
use Rattle.std.specs.List.{AllByRecursion, range_with_len}
use Rattle.std.proofs.lemmas.List.{length-append}
use Rattle.std.proofs.lemmas.List.FromFn.{length-map-range_with_len}
use Rattle.std.proofs.lemmas.Bool.{eqb-false}
use Rattle.std.proofs.lemmas.Fmt.{length-decimal-le}
use Rattle.hex.specs.Hex.{encode_lower, lower_digits}
use Rattle.hex.proofs.HexLemmas.{length-encode_with}
use Rattle.load_script.specs.Draws.{Drawn, next, pick}
use Rattle.load_script.specs.Text as text
use Rattle.load_script.specs.Script as script
use Rattle.load_script.specs.Script.{declarations, round, rounds, end, script_of, IsShort}
use Rattle.load_script.proofs.Drawing.{pick_below, pick_small, one_within}

-- ---- lines

two : (n : ℕ) → n ≤ 64 → length (decimal n) ≤ 2
two n small = length-decimal-le 2 n (omega arith) (omega arith) (omega arith)

one : (n : ℕ) → n < 10 → length (decimal n) ≤ 1
one n small = length-decimal-le 1 n (omega arith) (omega arith) (omega arith)

three : (n : ℕ) → n < 1000 → length (decimal n) ≤ 3
three n small = length-decimal-le 3 n (omega arith) (omega arith) (omega arith)

row_length : (r : ℕ) → length (text.row_text r) ≡ 36
row_length r =
    length-append (codes "00000000-0000-4000-8000-") (encode_lower (0 ∷ 0 ∷ 0 ∷ 0 ∷ 0 ∷ r ∷ []))
    ∙ ap (λ n. 24 + n) (length-encode_with lower_digits (0 ∷ 0 ∷ 0 ∷ 0 ∷ 0 ∷ r ∷ []))

values_length : (n len byte : ℕ) → n < 1000 → len < 1000 → length (text.values_text n len byte) ≤ 12
values_length n len byte ns ls = simp (length-append, length-encode_with) (omega (arith, three n ns, three len ls))

-- the parts are told by their lengths: a word, a client, a table, and what follows
placed : (word c t rest : List ℕ) → length (word ++ (c ++ (codes " T" ++ (t ++ rest)))) ≡ length word + (length c + (2 + (length t + length rest)))
placed word c t rest = simp length-append (omega arith)

write_short : (c t r : ℕ) (values : List ℕ) → c ≤ 64 → t ≤ 3 → length values ≤ 12 → IsShort (text.write_line c t r values)
write_short c t r values cs ts vs =
    let rest = codes " " ++ (text.row_text r ++ (codes " " ++ values)) in
    let behind : length rest ≡ 37 + (1 + length values) =
    length-append (codes " ") (text.row_text r ++ (codes " " ++ values))
    ∙ ap (λ n. 1 + n) (length-append (text.row_text r) (codes " " ++ values)
    ∙ ap (λ n. n + length (codes " " ++ values)) (row_length r)) ∙ omega (arith, length-append (codes " ") values) in
    omega (arith, placed (codes "write C") (decimal c) (decimal t) rest, two c cs, one t (omega arith), behind)

delete_short : (c t r : ℕ) → c ≤ 64 → t ≤ 3 → IsShort (text.delete_line c t r)
delete_short c t r cs ts =
    omega (
      arith,
      placed (codes "delete C") (decimal c) (decimal t) (codes " " ++ text.row_text r),
      two c cs,
      one t (omega arith),
      length-append (codes " ") (text.row_text r),
      row_length r,
    )

synced : (word c t : List ℕ) → length (word ++ (c ++ (codes " T" ++ t))) ≡ length word + (length c + (2 + length t))
synced word c t = simp length-append (omega arith)

sync_short : (c t : ℕ) → c ≤ 64 → t ≤ 3 → IsShort (text.sync_line c t)
sync_short c t cs ts = omega (arith, synced (codes "sync C") (decimal c) (decimal t), two c cs, one t (omega arith))

pull_short : (c t : ℕ) → c ≤ 64 → t ≤ 3 → IsShort (text.pull_line c t)
pull_short c t cs ts = omega (arith, synced (codes "pull C") (decimal c) (decimal t), two c cs, one t (omega arith))

deliver_short : (packet : ℕ) → packet < 2 ^ 31 → IsShort (text.deliver_line packet)
deliver_short packet small =
    omega (arith, length-append (codes "deliver ") (decimal packet), length-decimal-le 10 packet (omega arith) (omega arith) (omega arith))

client_short : (c : ℕ) → c ≤ 64 → IsShort (text.client_line c)
client_short c cs = simp length-append (omega (arith, two c cs))

-- ---- groups

pub record IsGroup (most : ℕ) (lines : List (List ℕ)) : Type 0 where
  pub short : AllByRecursion IsShort lines
  pub few : length lines ≤ most

alone_group : (line : List ℕ) → IsShort line → IsGroup 6 (line ∷ [])
alone_group line short = record { short = (short, tt); few = lit≤ tt }

said_short : (word node : List ℕ) → length word ≤ 5 → length node ≤ 3 → IsShort (text.said_of word node)
said_short word node ws ns = omega (arith, length-append word (codes " " ++ node), length-append (codes " ") node)

crash_short : (node : List ℕ) (step luck : ℕ) → length node ≤ 3 → step < 10 → luck < 10 → IsShort (text.crash_line node step luck)
crash_short node step luck ns ss ls = simp length-append (omega (arith, one step ss, one luck ls))

crash_group : (node line : List ℕ) (step luck : ℕ) → length node ≤ 3 → step < 10 → luck < 10 → IsShort line
    → IsGroup 6 (text.crash_lines node line step luck)
crash_group node line step luck ns ss ls short = record {
  short = (
    said_short (codes "hold") node (lit≤ tt) ns,
    (
      short,
      (
        crash_short node step luck ns ss ls,
        (said_short (codes "start") node (lit≤ tt) ns, (said_short (codes "do") node (lit≤ tt) ns, (said_short (codes "free") node (lit≤ tt) ns, tt))),
      ),
    ),
  );
  few = lit≤ tt;
}

name_length : (k : ℕ) (letter : ℕ) → k ≤ 64 → length (letter ∷ decimal k) ≤ 3
name_length k letter ks = omega (arith, two k ks)

-- ---- what is drawn

choose : (b : Bool) (f g : ℕ → Drawn (List (List ℕ))) (x : ℕ)
    → (b ≡ true → IsGroup 6 (f x).made) → (b ≡ false → IsGroup 6 (g x).made) → IsGroup 6 ((if b then f else g) x).made
choose true f g x fs gs = fs refl
choose false f g x fs gs = gs refl

choose_line : (b : Bool) (f g : ℕ → Drawn (List ℕ)) (x : ℕ)
    → (b ≡ true → IsShort (f x).made) → (b ≡ false → IsShort (g x).made) → IsShort ((if b then f else g) x).made
choose_line true f g x fs gs = fs refl
choose_line false f g x fs gs = gs refl

write_made : (c t r x : ℕ) → c ≤ 64 → t ≤ 3 → IsShort (script.write_of c t r x).made
write_made c t r x cs ts =
    let small : (pick 513 (next x)).made < 1000 = omega (arith, pick_below 513 (next x) (omega arith)) in
    write_short c t r _ cs ts (values_length _ _ _ (pick_below 1000 x (omega arith)) small)

delivery_made : (sent x : ℕ) → 0 < sent → IsShort (script.delivery_of sent x).made
delivery_made sent x some = deliver_short _ (pick_small sent x some)

crash_made : (node line : List ℕ) (x : ℕ) → length node ≤ 3 → IsShort line → IsGroup 6 (script.crash_of node line x).made
crash_made node line x ns short =
    crash_group node line _ _ ns (omega (arith, pick_below 5 x (omega arith))) (omega (arith, pick_below 2 (next x) (omega arith))) short

client_crash_made : (c t r x : ℕ) → c ≤ 64 → t ≤ 3 → IsGroup 6 (script.client_crash c t r x).made
client_crash_made c t r x cs ts = crash_made _ _ _ (name_length c 67 cs) (write_made c t r x cs ts)

store_crash_made : (c t sent x : ℕ) → c ≤ 64 → t ≤ 3 → IsGroup 6 (script.store_crash c t sent x).made
store_crash_made c t sent x cs ts =
    choose (eqb sent 0) _ _ _ (λ _. alone_group _ (sync_short c t cs ts)) (λ some.
    let has : 0 < sent = (let ne : sent ≢ 0 = eqb-false sent 0 some in omega arith) in
    crash_made _ _ _ (name_length _ 83 (omega (arith, one_within 2 x (omega arith)))) (delivery_made sent (next x) has))

deliver_made : (c t sent x : ℕ) → c ≤ 64 → t ≤ 3 → IsGroup 6 (script.deliver_or_pull c t sent x).made
deliver_made c t sent x cs ts =
    alone_group _ (choose_line (eqb sent 0) _ _ x (λ _. pull_short c t cs ts) (λ some.
    let has : 0 < sent = (let ne : sent ≢ 0 = eqb-false sent 0 some in omega arith) in delivery_made sent x has))

act_made : (sent c t r kind x : ℕ) → c ≤ 64 → t ≤ 3 → IsGroup 6 (script.act sent c t r kind x).made
unfolding script.act
act_made sent c t r kind x cs ts =
    choose (leb kind 3) _ _ x (λ _. alone_group _ (write_made c t r x cs ts)) (λ _.
    choose (eqb kind 4) _ _ x (λ _. alone_group _ (sync_short c t cs ts)) (λ _.
    choose (eqb kind 5) _ _ x (λ _. alone_group _ (pull_short c t cs ts)) (λ _.
    choose (eqb kind 6) _ _ x (λ _. alone_group _ (delete_short c t r cs ts)) (λ _.
    choose (eqb kind 7) _ _ x (λ _. deliver_made c t sent x cs ts) (λ _.
    choose (eqb kind 8) _ _ x (λ _. client_crash_made c t r x cs ts) (λ _. store_crash_made c t sent x cs ts))))))

pub round_group : (sent x : ℕ) → IsGroup 6 (round sent x).made
unfolding round
round_group sent x = act_made sent _ _ _ _ _ (one_within 64 x (omega arith)) (one_within 3 (next x) (omega arith))

-- ---- the whole

all_short : (xs ys : List (List ℕ)) → AllByRecursion IsShort xs → AllByRecursion IsShort ys → AllByRecursion IsShort (xs ++ ys)
all_short [] ys first behind = behind
all_short (x ∷ xs) ys first behind = (first.0, all_short xs ys first.1 behind)

clients_short : (a n : ℕ) → a + n ≤ 65 → AllByRecursion IsShort (map text.client_line (range_with_len a n))
clients_short a zero few = tt
clients_short a (suc n) few = (client_short a (omega arith), clients_short (a + 1) n (omega arith))

pub declarations_group : IsGroup 69 declarations
unfolding declarations
declarations_group = record {
  short = all_short script.stores_and_tables (map text.client_line (range_with_len 1 64)) (lit≤ tt, (lit≤ tt, (lit≤ tt, (lit≤ tt, (lit≤ tt, tt)))))
      (clients_short 1 64 (lit≤ tt));
  few = omega (arith, length-append script.stores_and_tables (map text.client_line (range_with_len 1 64)), length-map-range_with_len text.client_line 1 64);
}

pub end_group : IsGroup 1 end
end_group = record { short = (lit≤ tt, tt); few = lit≤ tt }

rounds_short : (sent : List ℕ) (x : ℕ) → AllByRecursion IsShort (rounds sent x)
rounds_short [] x = tt
rounds_short (s ∷ sent) x = all_short (round s x).made (rounds sent (round s x).x) (round_group s x).short (rounds_short sent (round s x).x)

rounds_few : (sent : List ℕ) (x : ℕ) → length (rounds sent x) ≤ 6 * length sent
rounds_few [] x = omega arith
rounds_few (s ∷ sent) x =
    omega (arith, length-append (round s x).made (rounds sent (round s x).x), (round_group s x).few, rounds_few sent (round s x).x)

pub script_short : (number : ℕ) (sent : List ℕ) → AllByRecursion IsShort (script_of number sent)
script_short number sent =
    all_short declarations (rounds sent number ++ end) declarations_group.short
    (all_short (rounds sent number) end (rounds_short sent number) end_group.short)

pub script_few : (number : ℕ) (sent : List ℕ) → length (script_of number sent) ≤ 70 + 6 * length sent
script_few number sent =
    omega (
      arith,
      length-append declarations (rounds sent number ++ end),
      length-append (rounds sent number) end,
      declarations_group.few,
      end_group.few,
      rounds_few sent number,
    )

-- ---- the lines of one group

pub declared_short : (lines : List (List ℕ)) → lines ≡ declarations → AllByRecursion IsShort lines
declared_short lines is = subst (λ ls. AllByRecursion IsShort ls) (sym is) declarations_group.short

pub declared_few : (lines : List (List ℕ)) → lines ≡ declarations → length lines ≤ 69
declared_few lines is = subst (λ ls. length ls ≤ 69) (sym is) declarations_group.few

pub round_short : (sent x behind : ℕ) (lines : List (List ℕ)) → round sent x ≡ record { made = lines; x = behind } → AllByRecursion IsShort lines
round_short sent x behind lines is = subst (λ (d : Drawn (List (List ℕ))). AllByRecursion IsShort d.made) is (round_group sent x).short

pub round_few : (sent x behind : ℕ) (lines : List (List ℕ)) → round sent x ≡ record { made = lines; x = behind } → length lines ≤ 69
round_few sent x behind lines is =
    let few : length lines ≤ 6 = subst (λ (d : Drawn (List (List ℕ))). length d.made ≤ 6) is (round_group sent x).few in
    omega arith
