-- The requests that wait, behind one change of a client's.
use Rattle.std.proofs.Common.{◌≡◌, ℕ, Bool, true, false, cond, List, ◌∷◌, Option, Some, None, refl, sym, ap, ◌∙◌, subst, arith, rules}
use Rattle.std.specs.Prelude.{◌==◌, ◌&&◌, IsSome, option_map, if◌then◌else◌}
use Rattle.std.specs.List.{find}
use Rattle.std.specs.Ordering.{nat_cmp}
use Rattle.std.specs.Cmp.{unsigned_tied}
use Rattle.std.specs.BTreeMap as tree
use Rattle.std.specs.BTreeMap.{is_at, WritesThrough}
use Rattle.std.proofs.lemmas.Bool.{eqb-true, eq-eqb}
use Rattle.row_value.specs.declared.schema.Scheme.{Scheme}
use Rattle.table_model.specs.History.{same_row}
use Rattle.step_tables.specs.Store.{Stored}
use Rattle.step_tables.proofs.Lists.{same_row-is}
use Rattle.std.proofs.lemmas.Bool.Decides.{nat_tests}
use Rattle.assemblies.specs.Gathering.{Slot, takes, is_whole}
use Rattle.part_contents.proofs.Filters.{none_found, find_first, passes, others_found, other_find, without_twice, without_first}
use Rattle.part_contents.proofs.Lacks.{same_taken}
use Rattle.part_tables.specs.Parts.{Fragment}
use Rattle.part_tables.specs.StoreParts.{Gathering, StoreTaken, Waits, is_of_client, without_client, waits_for, weighed, brought_to}
use Rattle.part_contents.specs.Counted.{lacks_few}
use Rattle.part_store.specs.declared.waiting.Waiting.{Waiting}
use Rattle.part_store.specs.Gathered.{gathering_in, is_of_request, with_chunk}
use Rattle.part_store.specs.Calls.{may_complete, grown, is_done, grown_in}

-- ---- look-ups of clients

abbrev pub HasIn : tree.BTreeMap ℕ Waiting → List Gathering → Type 0
HasIn held gs = (client : ℕ) → find (is_of_client client) gs ≡ option_map gathering_in (tree.get nat_cmp held client)

apart : (client q : ℕ) → (client == q) ≡ false → (x : Gathering) → is_of_client client x ≡ true → is_of_client q x ≡ false
apart client q other x is = grind (arith, nat_tests)

pub client_is : (client : ℕ) (gs : List Gathering) (x : Gathering) → find (is_of_client client) gs ≡ Some x → x.head.client ≡ client
client_is client gs x e = eqb-true x.head.client client (passes (is_of_client client) gs x e)

module _ (client q : ℕ) (gs : List Gathering) where
  found_without : (b : Bool) → (client == q) ≡ b → find (is_of_client q) (without_client client gs) ≡ cond b None (find (is_of_client q) gs)
  found_without true is = subst (λ (c : ℕ). find (is_of_client q) (without_client c gs) ≡ None) (sym (eqb-true client q is)) (none_found (is_of_client q) gs)
  found_without false is = others_found (is_of_client client) (is_of_client q) (apart client q is) gs

  found_with : (x : Gathering) → x.head.client ≡ client → (b : Bool) → (client == q) ≡ b → find (is_of_client q) (x ∷ without_client client gs) ≡ cond b (Some x) (find (is_of_client q) gs)
  found_with x of true is = find_first (is_of_client q) x (without_client client gs) (eq-eqb x.head.client q (of ∙ eqb-true client q is))
  found_with x of false is =
      other_find (is_of_client client) (is_of_client q) (apart client q is) x (without_client client gs) (eq-eqb x.head.client client of)
      ∙ others_found (is_of_client client) (is_of_client q) (apart client q is) gs

pick : (b : Bool) (w u : Option Waiting) (v g : Option Gathering) → v ≡ option_map gathering_in w → g ≡ option_map gathering_in u → cond b v g ≡ option_map gathering_in (cond b w u)
pick true w u v g is was = is
pick false w u v g is was = was

module _ (old new : tree.BTreeMap ℕ Waiting) (client : ℕ) (gs : List Gathering) (h : HasIn old gs) where
  abbrev Changed : Option Waiting → Type 0
  Changed w = (q : ℕ) → tree.get nat_cmp new q ≡ cond (is_at (nat_cmp client) q) w (tree.get nat_cmp old q)

  changed : (w : Option Waiting) (v : Option Gathering) → v ≡ option_map gathering_in w → Changed w → (q : ℕ)
      → cond (client == q) v (find (is_of_client q) gs) ≡ option_map gathering_in (tree.get nat_cmp new q)
  changed w v is u q =
      pick (client == q) w (tree.get nat_cmp old q) v (find (is_of_client q) gs) is (h q)
      ∙ ap (option_map gathering_in) (ap (λ (b : Bool). cond b w (tree.get nat_cmp old q)) (sym (unsigned_tied client q)) ∙ sym (u q))

  pub removed_has : Changed None → HasIn new (without_client client gs)
  removed_has u q = found_without client q gs (client == q) refl ∙ changed None None refl u q

  pub put_has : (y : Waiting) (x : Gathering) → gathering_in y ≡ x → x.head.client ≡ client → Changed (Some y) → HasIn new (x ∷ without_client client gs)
  put_has y x is of u q = found_with client q gs x of (client == q) refl ∙ changed (Some y) (Some x) (ap (λ (g : Gathering). Some g) (sym is)) u q

  -- one that stays as it was
  pub written_has : (was y : Waiting) → Some was ≡ tree.get nat_cmp old client → gathering_in y ≡ gathering_in was → Changed (Some y) → HasIn new gs
  written_has was y there same u q = here (client == q) refl ∙ changed (Some y) (Some (gathering_in was)) (ap (λ (g : Gathering). Some g) (sym same)) u q
    where
      here : (b : Bool) → (client == q) ≡ b → find (is_of_client q) gs ≡ cond b (Some (gathering_in was)) (find (is_of_client q) gs)
      here true is = h q ∙ ap (option_map gathering_in) (ap (tree.get nat_cmp old) (sym (eqb-true client q is)) ∙ sym there)
      here false is = refl

  -- the others alone
  pub others_has : tree.get nat_cmp old client ≡ None → (q : ℕ) → find (is_of_client q) (without_client client gs) ≡ find (is_of_client q) gs
  others_has none q = found_without client q gs (client == q) refl ∙ there (client == q) refl
    where
      there : (b : Bool) → (client == q) ≡ b → cond b None (find (is_of_client q) gs) ≡ find (is_of_client q) gs
      there true is = sym (h q ∙ ap (option_map gathering_in) (ap (tree.get nat_cmp old) (sym (eqb-true client q is)) ∙ none))
      there false is = refl

some_there : (o : Option Waiting) (x : Waiting) → Some x ≡ o → IsSome o
some_there None x e = absurd (let bad : Some x ≡ None = e in cc)
some_there (Some y) x e = search rules

-- ---- a fragment that comes to a request

module _ (f : Fragment) (old new : tree.BTreeMap ℕ Waiting) (gs : List Gathering) (h : HasIn old gs) (was y : Waiting) (there : Some was ≡ tree.get nat_cmp old f.client) where
  pub found_is : find (is_of_client f.client) gs ≡ Some (gathering_in was)
  found_is = h f.client ∙ ap (option_map gathering_in) (sym there)

  pub grown_has : gathering_in y ≡ grown f (gathering_in was) → WritesThrough nat_cmp (nat_cmp f.client) old y new → HasIn new (grown_in f gs (find (is_of_client f.client) gs))
  grown_has is wrote = subst (λ (o : Option Gathering). HasIn new (grown_in f gs o)) (sym found_is) (one (waits_for f (gathering_in was)) is)
    where
      u : (q : ℕ) → tree.get nat_cmp new q ≡ cond (is_at (nat_cmp f.client) q) (Some y) (tree.get nat_cmp old q)
      u = (wrote.3 (some_there (tree.get nat_cmp old f.client) was there)).0

      one : (b : Bool) → gathering_in y ≡ (if b then with_chunk f (gathering_in was) else gathering_in was) → HasIn new (if b then with_chunk f (gathering_in was) ∷ without_client f.client gs else gs)
      one true made = put_has old new f.client gs h y (with_chunk f (gathering_in was)) made (client_is f.client gs (gathering_in was) found_is) u
      one false made = written_has old new f.client gs h was y there made u

  pub done_is : (b : Bool) → b ≡ (waits_for f (gathering_in was) && is_whole y.came) → gathering_in y ≡ grown f (gathering_in was) → b ≡ is_done f (find (is_of_client f.client) gs)
  done_is b told is = told ∙ (one (waits_for f (gathering_in was)) is ∙ ap (is_done f) (sym found_is))
    where
      one : (w : Bool) → gathering_in y ≡ (if w then with_chunk f (gathering_in was) else gathering_in was) → (w && is_whole y.came) ≡ (w && is_whole (with_chunk f (gathering_in was)).slots)
      one true made = ap (λ (g : Gathering). is_whole g.slots) made
      one false made = refl

  pub last_is : (is_of_request f (gathering_in was) && lacks_few was.came) ≡ true → may_complete f (find (is_of_client f.client) gs) ≡ true
  last_is few = ap (may_complete f) found_is ∙ few

-- one that isn't taken changes nothing
pub grown_none : (f : Fragment) (x y : Gathering) → y ≡ with_chunk f x → takes f.column f.place f.bytes x.slots ≡ false → y ≡ grown f x
grown_none f x y is none = is ∙ one (waits_for f x)
  where
    one : (b : Bool) → with_chunk f x ≡ (if b then with_chunk f x else x)
    one true = refl
    one false = ap (λ (slots : List Slot). record x { slots = slots }) (same_taken f.column f.place f.bytes x.slots none)

-- ---- a fragment that is the last one

pub record IsLast (f : Fragment) (gs : List Gathering) : Type 0 where
  pub x : Gathering
  pub there : find (is_of_client f.client) gs ≡ Some x
  pub waited : waits_for f x ≡ true
  pub whole : is_whole (with_chunk f x).slots ≡ true

pub last_of : (f : Fragment) (gs : List Gathering) → is_done f (find (is_of_client f.client) gs) ≡ true → IsLast f gs
last_of f gs done = one (find (is_of_client f.client) gs) refl done
  where
    both : (a b : Bool) → (a && b) ≡ true → (a ≡ true) × (b ≡ true)
    both true b h = (refl, h)
    both false b h = absurd (let bad : false ≡ true = h in cc)

    one : (o : Option Gathering) → find (is_of_client f.client) gs ≡ o → is_done f o ≡ true → IsLast f gs
    one None is h = absurd (let bad : false ≡ true = h in cc)
    one (Some x) is h = let t = both (waits_for f x) (is_whole (with_chunk f x).slots) h in record { x = x; there = is; waited = t.0; whole = t.1 }

module _ (f : Fragment) (gs : List Gathering) (l : IsLast f gs) where
  abbrev full : Gathering
  full = with_chunk f l.x

  pub of_client : l.x.head.client ≡ f.client
  of_client = client_is f.client gs l.x l.there

  pub of_row : l.x.head.row ≡ f.row
  of_row = same_row-is l.x.head.row f.row (front (same_row l.x.head.row f.row) ((l.x.head.number == f.key) && takes f.column f.place f.bytes l.x.slots) l.waited)
    where
      front : (a b : Bool) → (a && b) ≡ true → a ≡ true
      front true b h = refl
      front false b h = absurd (let bad : false ≡ true = h in cc)

  pub grown_is : grown_in f gs (find (is_of_client f.client) gs) ≡ full ∷ without_client f.client gs
  grown_is = ap (grown_in f gs) l.there ∙ ap (λ (b : Bool). if b then full ∷ without_client f.client gs else gs) l.waited

  pub full_there : find (is_of_client f.client) (full ∷ without_client f.client gs) ≡ Some full
  full_there = find_first (is_of_client f.client) full (without_client f.client gs) (eq-eqb full.head.client f.client of_client)

  pub others_are : without_client f.client (full ∷ without_client f.client gs) ≡ without_client f.client gs
  others_are = without_first (is_of_client f.client) full (without_client f.client gs) (eq-eqb full.head.client f.client of_client) ∙ without_twice (is_of_client f.client) gs

  pub brought_is : (g : Scheme) (size : ℕ) (items : List Stored) → brought_to g size items gs f (find (is_of_client f.client) gs) ≡ weighed g size items (without_client f.client gs) full
  brought_is g size items =
      let done : StoreTaken = weighed g size items (without_client f.client gs) full in
      let more : StoreTaken = record { taken = Waits; gatherings = full ∷ without_client f.client gs } in
      let dropped : StoreTaken = record { taken = Waits; gatherings = gs } in
      ap (brought_to g size items gs f) l.there
      ∙ (ap (λ (b : Bool). if b then (if is_whole full.slots then done else more) else dropped) l.waited
      ∙ ap (λ (b : Bool). if b then done else more) l.whole)

pub twice : (client : ℕ) (gs : List Gathering) → without_client client (without_client client gs) ≡ without_client client gs
twice client gs = without_twice (is_of_client client) gs
