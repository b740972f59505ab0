-- The loops that make the writes of a plan.
use Rattle.std.proofs.Common.{◌≡◌, ℕ, ◌+◌, ◌<◌, List, [], ◌∷◌, ◌++◌, length, take, get_or, Option, Some, None, refl, sym, ◌∙◌, ap, arith, append_assoc}
use Rattle.std.proofs.lemmas.List.{take_more}
use Rattle.held_value.specs.declared.local_name.LocalName.{LocalName}
use Rattle.slot_store.specs.declared.held.RowSlots.{RowSlots}
use Rattle.slot_store.specs.declared.held.TableRecord.{TableRecord}
use Rattle.plan_log.specs.declared.plan.Intend.{Intend}
use Rattle.plan_log.specs.declared.plan.Commit.{Commit}
use Rattle.client_journal.specs.Devs.{Write, PutIntend, PutChunk, PutCommit, DropChunk, PutDone}
use Rattle.client_journal.specs.Agenda.{fresh_name, puts, drops, slot_writes, record_writes, bring_writes}

pub drops-append : (xs ys : List LocalName) → drops (xs ++ ys) ≡ drops xs ++ drops ys
drops-append [] ys = refl
drops-append (x ∷ xs) ys = ap (λ (l : List Write). DropChunk x ∷ l) (drops-append xs ys)

pub drops_more : (start now next : List Write) (names : List LocalName) (i : ℕ) (name e : LocalName) → i < length names → name ≡ get_or names i e → now ≡ start ++ drops (take i names)
    → next ≡ now ++ drops (name ∷ [])
    → next ≡ start ++ drops (take (i + 1) names)
drops_more start now next names i name e lt is so_far push =
    let more : take (i + 1) names ≡ take i names ++ name ∷ [] = take_more names i e lt ∙ ap (λ (q : LocalName). take i names ++ q ∷ []) (sym is) in
    push ∙ (ap (λ (l : List Write). l ++ drops (name ∷ [])) so_far
    ∙ (append_assoc start (drops (take i names)) (drops (name ∷ []))
    ∙ ap (λ (l : List Write). start ++ l) (sym (drops-append (take i names) (name ∷ [])) ∙ ap drops (sym more))))

puts-append : (v k : ℕ) (xs ys : List (List ℕ)) → puts v k (xs ++ ys) ≡ puts v k xs ++ puts v (k + length xs) ys
puts-append v k [] ys = let same : k ≡ k + 0 = omega arith in ap (λ (j : ℕ). puts v j ys) same
puts-append v k (x ∷ xs) ys =
    let same : k + 1 + length xs ≡ k + length (x ∷ xs) = omega arith in
    ap (λ (l : List Write). PutChunk (fresh_name v k) x ∷ l) (puts-append v (k + 1) xs ys ∙ ap (λ (j : ℕ). puts v (k + 1) xs ++ puts v j ys) same)

pub puts_more : (v : ℕ) (start now next : List Write) (done : List (List ℕ)) (bytes : List ℕ) (k : ℕ) → k ≡ length done → now ≡ start ++ puts v 0 done → next ≡ now ++ puts v k (bytes ∷ [])
    → next ≡ start ++ puts v 0 (done ++ bytes ∷ [])
puts_more v start now next done bytes k is so_far push =
    let same : k ≡ 0 + length done = omega (arith, is) in
    push ∙ (ap (λ (l : List Write). l ++ puts v k (bytes ∷ [])) so_far
    ∙ (append_assoc start (puts v 0 done) (puts v k (bytes ∷ []))
    ∙ ap (λ (l : List Write). start ++ l) (ap (λ (j : ℕ). puts v 0 done ++ puts v j (bytes ∷ [])) same ∙ sym (puts-append v 0 done (bytes ∷ [])))))

-- ---- parts one behind the other

slots_then : (row : Option RowSlots) (rest : List Write) → slot_writes row [] ++ rest ≡ slot_writes row rest
slots_then None rest = refl
slots_then (Some row) rest = refl

record_then : (table : Option TableRecord) (rest : List Write) → record_writes table [] ++ rest ≡ record_writes table rest
record_then None rest = refl
record_then (Some table) rest = refl

bring_then : (intend : Intend) (brought : List (List ℕ)) (rest : List Write) → bring_writes intend brought [] ++ rest ≡ bring_writes intend brought rest
bring_then intend [] rest = refl
bring_then intend (bytes ∷ brought) rest = ap (λ (l : List Write). PutIntend intend ∷ l) (append_assoc (puts intend.plan 0 (bytes ∷ brought)) [] rest)

pub redo_joined : (start a b c d : List Write) (row : Option RowSlots) (table : Option TableRecord) (names : List LocalName) → a ≡ start ++ slot_writes row [] → b ≡ a ++ record_writes table [] → c ≡ b ++ drops names
    → d ≡ c ++ PutDone ∷ [] → d ≡ start ++ slot_writes row (record_writes table (drops names ++ PutDone ∷ []))
redo_joined start a b c d row table names pa pb pc pd =
    let last : List Write = PutDone ∷ [] in
    let tail : List Write = drops names ++ last in
    pd ∙ (ap (λ (l : List Write). l ++ last) pc
    ∙ (append_assoc b (drops names) last
    ∙ (ap (λ (l : List Write). l ++ tail) pb
    ∙ (append_assoc a (record_writes table []) tail
    ∙ (ap (λ (l : List Write). a ++ l) (record_then table tail)
    ∙ (ap (λ (l : List Write). l ++ record_writes table tail) pa
    ∙ (append_assoc start (slot_writes row []) (record_writes table tail) ∙ ap (λ (l : List Write). start ++ l) (slots_then row (record_writes table tail)))))))))

pub plan_joined : (a b c : List Write) (intend : Intend) (brought : List (List ℕ)) (commit : Commit) (rest : List Write) → a ≡ bring_writes intend brought [] → b ≡ a ++ PutCommit commit ∷ [] → c ≡ b ++ rest
    → c ≡ bring_writes intend brought (PutCommit commit ∷ rest)
plan_joined a b c intend brought commit rest pa pb pc =
    pc ∙ (ap (λ (l : List Write). l ++ rest) pb
    ∙ (append_assoc a (PutCommit commit ∷ []) rest ∙ (ap (λ (l : List Write). l ++ PutCommit commit ∷ rest) pa ∙ bring_then intend brought (PutCommit commit ∷ rest))))

pub bring_joined : (start a b : List Write) (intend : Intend) (brought : List (List ℕ)) → (brought ≡ [] → ⊥) → a ≡ start ++ PutIntend intend ∷ [] → b ≡ a ++ puts intend.plan 0 brought
    → b ≡ start ++ bring_writes intend brought []
bring_joined start a b intend [] some pa pb = absurd (some refl)
bring_joined start a b intend (bytes ∷ brought) some pa pb =
    let all : List Write = puts intend.plan 0 (bytes ∷ brought) in
    pb ∙ (ap (λ (l : List Write). l ++ all) pa
    ∙ (append_assoc start (PutIntend intend ∷ []) all ∙ ap (λ (l : List Write). start ++ PutIntend intend ∷ l) (nil_behind all)))
  where
    nil_behind : (l : List Write) → l ≡ l ++ []
    nil_behind [] = refl
    nil_behind (w ∷ ws) = ap (λ (x : List Write). w ∷ x) (nil_behind ws)
