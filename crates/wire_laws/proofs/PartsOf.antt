-- What a part of a message says of the message.
use Rattle.std.proofs.Common.{◌≡◌, ◌⊎◌, inl, inr, ⊎_elim, ℕ, List, [], ◌∷◌, Option, Some, None, refl, sym, ◌∙◌, ap, subst}
use Rattle.std.specs.Prelude.{map}
use Rattle.assemblies.specs.declared.sent.Sent.TheVariants as sents
use Rattle.assemblies.specs.Travel.{is_sent}
use Rattle.step_tables.specs.Members.{Among}
use Rattle.step_tables.specs.Messages.{Request, Pulled, TornPulled, Header, Message, SyncRequest, SyncResponse, PullRequest, PullResponse, TornRowRequest, TornRowResponse, table_of}
use Rattle.step_tables.proofs.Lists.{among_none, among_cons, among_mapped}
use Rattle.part_tables.specs.Parts.{Part, Asks, Responds, Pulls, Answers, BringsUp, BringsDown, AsksTorn, AnswersTorn, RequestHead}
use Rattle.part_tables.specs.Parts.{PulledHead, TornHead, Fragment, head_of, pulled_head, torn_head, kept, chunks_up, chunks_down, chunks_whole, parts_of}
use Rattle.part_laws.specs.Gathers as gathers
use Rattle.part_laws.specs.Answers as answers
use Rattle.part_laws.specs.Rows.{SentDown}
use Rattle.part_laws.specs.Rows as rows
use Rattle.part_laws.proofs.Wholes.{fragment_is}
use Rattle.wire_tables.specs.Wire.{part_table}

-- ---- it is one of its parts

abbrev pub IsPartOf : ℕ → Message → Part → Type 0
IsPartOf size m (Asks head) = (q : Request) × (m ≡ SyncRequest q) × (head ≡ head_of q)
IsPartOf size m (Responds response) = m ≡ SyncResponse response
IsPartOf size m (Pulls pull) = m ≡ PullRequest pull
IsPartOf size m (Answers head) = (p : Pulled) × (m ≡ PullResponse p) × (head ≡ pulled_head p)
IsPartOf size m (BringsUp f) = (q : Request) × (m ≡ SyncRequest q) × Among (chunks_up size q) f
IsPartOf size m (BringsDown f) =
    ((p : Pulled) × (m ≡ PullResponse p) × Among (chunks_down size p p.header) f)
    ⊎ ((t : TornPulled) × (m ≡ TornRowResponse t) × Among (chunks_whole size t t.header) f)
IsPartOf size m (AsksTorn torn) = m ≡ TornRowRequest torn
IsPartOf size m (AnswersTorn head) = (t : TornPulled) × (m ≡ TornRowResponse t) × (head ≡ torn_head t)

-- its one part, or its header and its fragments
alone : (size : ℕ) (m : Message) (one part : Part) → IsPartOf size m one → Among (one ∷ []) part → IsPartOf size m part
alone size m one part is a = ⊎_elim (λ e. subst (IsPartOf size m) e is) (λ none. absurd (among_none part none)) (among_cons one [] part a)

headed : (size : ℕ) (m : Message) (head part : Part) (brings : Fragment → Part) (fragments : List Fragment) → IsPartOf size m head
    → ((f : Fragment) → Among fragments f → IsPartOf size m (brings f)) → Among (head ∷ map brings fragments) part → IsPartOf size m part
headed size m head part brings fragments is each a = ⊎_elim
    (λ e. subst (IsPartOf size m) e is)
    (λ more. let r = among_mapped brings fragments part more in subst (IsPartOf size m) r.2 (each r.0 r.1))
    (among_cons head (map brings fragments) part a)

pub part_of : (size : ℕ) (m : Message) (part : Part) → Among (parts_of size m) part → IsPartOf size m part
part_of size (SyncRequest q) part a =
    headed size (SyncRequest q) (Asks (head_of q)) part (λ (f : Fragment). BringsUp f) (chunks_up size q) (q, refl, refl) (λ f b. (q, refl, b)) a
part_of size (SyncResponse r) part a = alone size (SyncResponse r) (Responds r) part refl a
part_of size (PullRequest pull) part a = alone size (PullRequest pull) (Pulls pull) part refl a
part_of size (PullResponse p) part a =
    headed size (PullResponse p) (Answers (pulled_head p)) part (λ (f : Fragment). BringsDown f) (chunks_down size p p.header) (p, refl, refl) (λ f b. inl (p, refl, b)) a
part_of size (TornRowRequest torn) part a = alone size (TornRowRequest torn) (AsksTorn torn) part refl a
part_of size (TornRowResponse t) part a =
    headed size (TornRowResponse t) (AnswersTorn (torn_head t)) part (λ (f : Fragment). BringsDown f) (chunks_whole size t t.header) (t, refl, refl) (λ f b. inr (t, refl, b)) a

pub parts_some : (size : ℕ) (m : Message) → parts_of size m ≡ [] → ⊥
parts_some size (SyncRequest q) e = cc
parts_some size (SyncResponse r) e = cc
parts_some size (PullRequest pull) e = cc
parts_some size (PullResponse p) e = cc
parts_some size (TornRowRequest torn) e = cc
parts_some size (TornRowResponse t) e = cc

-- ---- it goes to the message's table

down_table : (size : ℕ) (p : Pulled) (o : Option Header) (f : Fragment) → Among (chunks_down size p o) f → f.table ≡ p.table
down_table size p None f a = absurd (among_none f a)
down_table size p (Some h) f a = (fragment_is (is_sent (sents.Above p.from)) size p.client p.table h.row h.version h.content (kept h.names) f a).table_is

whole_table : (size : ℕ) (t : TornPulled) (o : Option Header) (f : Fragment) → Among (chunks_whole size t o) f → f.table ≡ t.table
whole_table size t None f a = absurd (among_none f a)
whole_table size t (Some h) f a = (fragment_is (is_sent sents.All) size t.client t.table h.row h.version h.content (kept h.names) f a).table_is

pub up_is : (size : ℕ) (q : Request) (f : Fragment) → Among (chunks_up size q) f → (f.client ≡ q.client) × (f.table ≡ q.table)
up_is size q f a = let is = fragment_is (is_sent sents.Fresh) size q.client q.table q.row q.number q.content q.pieces f a in (is.client_is, is.table_is)

pub same_table : (size : ℕ) (m : Message) (part : Part) → IsPartOf size m part → part_table part ≡ table_of m
same_table size m (Asks head) is = ap (λ (h : RequestHead). h.table) is.2 ∙ sym (ap table_of is.1)
same_table size m (Responds response) is = sym (ap table_of is)
same_table size m (Pulls pull) is = sym (ap table_of is)
same_table size m (Answers head) is = ap (λ (h : PulledHead). h.table) is.2 ∙ sym (ap table_of is.1)
same_table size m (BringsUp f) is = (up_is size is.0 f is.2).1 ∙ sym (ap table_of is.1)
same_table size m (BringsDown f) (inl is) = down_table size is.0 is.0.header f is.2 ∙ sym (ap table_of is.1)
same_table size m (BringsDown f) (inr is) = whole_table size is.0 is.0.header f is.2 ∙ sym (ap table_of is.1)
same_table size m (AsksTorn torn) is = sym (ap table_of is)
same_table size m (AnswersTorn head) is = ap (λ (h : TornHead). h.table) is.2 ∙ sym (ap table_of is.1)

-- ---- of those that were sent

pub store_part : (size : ℕ) (sent : List Request) (m : Message) (part : Part) → IsPartOf size m part → ((q : Request) → m ≡ SyncRequest q → Among sent q) → gathers.IsPart size sent part
store_part size sent m (Asks head) is there = (is.0, there is.0 is.1, is.2)
store_part size sent m (Responds response) is there = tt
store_part size sent m (Pulls pull) is there = tt
store_part size sent m (Answers head) is there = tt
store_part size sent m (BringsUp f) is there = (is.0, there is.0 is.1, is.2)
store_part size sent m (BringsDown f) is there = tt
store_part size sent m (AsksTorn torn) is there = tt
store_part size sent m (AnswersTorn head) is there = tt

pub client_part : (size : ℕ → ℕ) (sent : SentDown) (m : Message) (part : Part) → IsPartOf (size (table_of m)) m part → ((p : Pulled) → m ≡ PullResponse p → Among sent.pulls p)
    → ((t : TornPulled) → m ≡ TornRowResponse t → Among sent.rows t) → rows.IsPart size sent part
client_part size sent m (Asks head) is pulls torn = tt
client_part size sent m (Responds response) is pulls torn = tt
client_part size sent m (Pulls pull) is pulls torn = tt
client_part size sent m (Answers head) is pulls torn = (is.0, pulls is.0 is.1, is.2)
client_part size sent m (BringsUp f) is pulls torn = tt
client_part size sent m (BringsDown f) (inl is) pulls torn =
    inl (is.0, pulls is.0 is.1, subst (λ (n : ℕ). Among (chunks_down n is.0 is.0.header) f) (ap (λ (x : Message). size (table_of x)) is.1) is.2)
client_part size sent m (BringsDown f) (inr is) pulls torn =
    inr (is.0, torn is.0 is.1, subst (λ (n : ℕ). Among (chunks_whole n is.0 is.0.header) f) (ap (λ (x : Message). size (table_of x)) is.1) is.2)
client_part size sent m (AsksTorn torn_row) is pulls torn = tt
client_part size sent m (AnswersTorn head) is pulls torn = (is.0, torn is.0 is.1, is.2)

pub tables_agree : (part : Part) → answers.table_of part ≡ part_table part
tables_agree (Asks head) = refl
tables_agree (Responds response) = refl
tables_agree (Pulls pull) = refl
tables_agree (Answers head) = refl
tables_agree (BringsUp f) = refl
tables_agree (BringsDown f) = refl
tables_agree (AsksTorn torn) = refl
tables_agree (AnswersTorn head) = refl

-- ---- the size of the chunks matters only for a request, and for a row

abbrev pub HasRow : Message → Type 0
HasRow (SyncRequest q) = Unit {0}
HasRow (SyncResponse r) = ⊥
HasRow (PullRequest pull) = ⊥
HasRow (PullResponse p) = (h : Header) × (p.header ≡ Some h)
HasRow (TornRowRequest torn) = ⊥
HasRow (TornRowResponse t) = (h : Header) × (t.header ≡ Some h)

pub parts_same : (size other : ℕ) (m : Message) → (HasRow m → size ≡ other) → parts_of size m ≡ parts_of other m
parts_same size other (SyncRequest q) same = ap (λ (n : ℕ). parts_of n (SyncRequest q)) (same tt)
parts_same size other (SyncResponse r) same = refl
parts_same size other (PullRequest pull) same = refl
parts_same size other (PullResponse p) same = go p.header refl
  where
    go : (o : Option Header) → p.header ≡ o → parts_of size (PullResponse p) ≡ parts_of other (PullResponse p)
    go None e = ap (λ (fs : List Fragment). Answers (pulled_head p) ∷ map (λ (f : Fragment). BringsDown f) fs) (ap (chunks_down size p) e ∙ sym (ap (chunks_down other p) e))
    go (Some h) e = ap (λ (n : ℕ). parts_of n (PullResponse p)) (same (h, e))
parts_same size other (TornRowRequest torn) same = refl
parts_same size other (TornRowResponse t) same = go t.header refl
  where
    go : (o : Option Header) → t.header ≡ o → parts_of size (TornRowResponse t) ≡ parts_of other (TornRowResponse t)
    go None e = ap (λ (fs : List Fragment). AnswersTorn (torn_head t) ∷ map (λ (f : Fragment). BringsDown f) fs) (ap (chunks_whole size t) e ∙ sym (ap (chunks_whole other t) e))
    go (Some h) e = ap (λ (n : ℕ). parts_of n (TornRowResponse t)) (same (h, e))
