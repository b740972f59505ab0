-- Sessions in the slots of clients: what a change of a slot makes of them.
use Rattle.std.proofs.Common.{◌≡◌, ◌≢◌, ℕ, zero, suc, ◌+◌, Bool, MutBor, true, false, cond, List, [], ◌∷◌, Option, Some, None, refl, sym, ap, ◌∙◌, subst, rules}
use Rattle.std.specs.Prelude.{map, option_map, unwrap_or, slice_index_or, IsSome, OnOk, Result, Ok, Err}
use Rattle.std.specs.declared.cmp.Ordering.{Ordering}
use Rattle.std.specs.declared.cmp.Ordering.TheVariants.{Less, Equal, Greater}
use Rattle.std.specs.List.Sorted.{IsStrictlySortedBy}
use Rattle.std.specs.Ordering.{nat_cmp, is_eq, match_ordering}
use Rattle.std.specs.Cmp.{nat_cmp_total, tied_itself, eq_by_cmp_equiv}
use Rattle.std.specs.FinMap.{nat_cmp-IsAntisymmetric}
use Rattle.std.specs.BTreeMap.{is_at, insert_entry}
use Rattle.std.specs.Map.{lookup, keys_of}
use Rattle.std.proofs.lemmas.Map.{NonePasses, lookup-none, none_passes_from_lookup}
use Rattle.std.proofs.lemmas.Map.Entries.{none_past_head, none_below_head}
use Rattle.std.proofs.lemmas.Map.Keys.{IsDistinct-from_sorted, sorted_tail}
use Rattle.slab.specs.Slab.{Slab, get, Updates, CalledAt, RetainsFrom, with_value}
use Rattle.slab.proofs.SlabLemmas.{Updates-with_value}
use Rattle.gate_tables.specs.Gate.{Session, after_change}
use Rattle.gateway_core.specs.Sessions.{nothing, at_slot, sessions_in, IsOwn, AreOwn, ArePlaced, changed_from, with_changed}

abbrev Held : Type 0
Held = ℕ × Session

-- ---- look-ups

pub look : (slab : Slab Held) (places : List (ℕ × ℕ)) (client : ℕ)
    → lookup (is_at (nat_cmp client)) (sessions_in slab places) ≡ option_map (at_slot slab) (lookup (is_at (nat_cmp client)) places)
look slab [] client = refl
look slab (e ∷ places) client = go (is_at (nat_cmp client) e.0) (look slab places client)
  where
    go : (b : Bool) → lookup (is_at (nat_cmp client)) (sessions_in slab places) ≡ option_map (at_slot slab) (lookup (is_at (nat_cmp client)) places)
        → cond b (Some (at_slot slab e.1)) (lookup (is_at (nat_cmp client)) (sessions_in slab places))
        ≡ option_map (at_slot slab) (cond b (Some e.1) (lookup (is_at (nat_cmp client)) places))
    go true more = refl
    go false more = more

-- a client without a session has no place
pub unplaced : (slab : Slab Held) (places : List (ℕ × ℕ)) (client : ℕ) → lookup (is_at (nat_cmp client)) (sessions_in slab places) ≡ None
    → lookup (is_at (nat_cmp client)) places ≡ None
unplaced slab places client h = by (lookup (is_at (nat_cmp client)) places) (sym (look slab places client) ∙ h)
  where
    by : (o : Option ℕ) → option_map (at_slot slab) o ≡ None → o ≡ None
    by None e = refl
    by (Some n) e = absurd (cc)

is_itself : (client number : ℕ) → is_at (nat_cmp client) number ≡ true → client ≡ number
is_itself client number h = by (nat_cmp client number) refl h
  where
    by : (o : Ordering) → nat_cmp client number ≡ o → is_eq o ≡ true → client ≡ number
    by Less e h = absurd (cc)
    by Equal e h = nat_cmp-IsAntisymmetric client number e
    by Greater e h = absurd (cc)

-- a client's slot holds its session
pub found_own : (slab : Slab Held) (places : List (ℕ × ℕ)) (client slot : ℕ) → AreOwn slab places
    → lookup (is_at (nat_cmp client)) places ≡ Some slot → option_map (λ (h : Held). h.0) (get slab slot) ≡ Some client
found_own slab [] client slot own h = absurd (cc)
found_own slab (e ∷ places) client slot own h = go (is_at (nat_cmp client) e.0) refl h (found_own slab places client slot own.1)
  where
    go : (b : Bool) → is_at (nat_cmp client) e.0 ≡ b → cond b (Some e.1) (lookup (is_at (nat_cmp client)) places) ≡ Some slot
        → (lookup (is_at (nat_cmp client)) places ≡ Some slot → option_map (λ (h : Held). h.0) (get slab slot) ≡ Some client)
        → option_map (λ (h : Held). h.0) (get slab slot) ≡ Some client
    go true is found more =
        let same : e.1 ≡ slot = cc in
        subst (λ (s : ℕ). option_map (λ (h : Held). h.0) (get slab s) ≡ Some client) same (own.0 ∙ ap Some (sym (is_itself client e.0 is)))
    go false is found more = more found

-- so it isn't empty
pub full : (slab : Slab Held) (places : List (ℕ × ℕ)) (client slot : ℕ) → AreOwn slab places
    → lookup (is_at (nat_cmp client)) places ≡ Some slot → None ≡ get slab slot → ⊥
full slab places client slot own h e =
    let none : None ≡ Some client = ap (option_map (λ (h : Held). h.0)) e ∙ found_own slab places client slot own h in
    cc

pub look_in : (slab : Slab Held) (places : List (ℕ × ℕ)) (client slot : ℕ) (held : Held) → lookup (is_at (nat_cmp client)) places ≡ Some slot
    → get slab slot ≡ Some held → Some held.1 ≡ lookup (is_at (nat_cmp client)) (sessions_in slab places)
look_in slab places client slot held h e = sym (look slab places client ∙ ap (option_map (at_slot slab)) h
    ∙ ap (λ (o : Option Held). Some (unwrap_or (option_map (λ (h : Held). h.1) o) nothing)) e)

pub look_none : (slab : Slab Held) (places : List (ℕ × ℕ)) (client : ℕ) → None ≡ lookup (is_at (nat_cmp client)) places
    → None ≡ lookup (is_at (nat_cmp client)) (sessions_in slab places)
look_none slab places client h = sym (look slab places client ∙ ap (option_map (at_slot slab)) (sym h))

-- ---- one slot

module _ (client slot : ℕ) (old new : Slab Held) (now : Option Held) (updates : Updates old new slot now)
    (whose : (k : ℕ) → option_map (λ (h : Held). h.0) (get old slot) ≡ Some k → k ≡ client) where
  other_slot : (e : ℕ × ℕ) → IsOwn old e → is_at (nat_cmp client) e.0 ≡ false → e.1 ≢ slot
  other_slot e own away same =
      let its : e.0 ≡ client = whose e.0 (subst (λ (s : ℕ). option_map (λ (h : Held). h.0) (get old s) ≡ Some e.0) same own) in
      let yes : is_at (nat_cmp client) e.0 ≡ true = ap (λ (k : ℕ). is_at (nat_cmp client) k) its ∙ ap is_eq (tied_itself nat_cmp_total client) in
      cc

  kept : (e : ℕ × ℕ) → IsOwn old e → is_at (nat_cmp client) e.0 ≡ false → get new e.1 ≡ get old e.1
  kept e own away = updates.others e.1 (other_slot e own away)

  own_kept : (e : ℕ × ℕ) → IsOwn old e → is_at (nat_cmp client) e.0 ≡ false → IsOwn new e
  own_kept e own away = ap (option_map (λ (h : Held). h.0)) (kept e own away) ∙ own

  session_kept : (e : ℕ × ℕ) → IsOwn old e → is_at (nat_cmp client) e.0 ≡ false → at_slot new e.1 ≡ at_slot old e.1
  session_kept e own away = ap (λ (o : Option Held). unwrap_or (option_map (λ (h : Held). h.1) o) nothing) (kept e own away)

  -- the sessions of the others
  pub others_own : (places : List (ℕ × ℕ)) → AreOwn old places → NonePasses (is_at (nat_cmp client)) places → AreOwn new places
  others_own [] own away = tt
  others_own (e ∷ places) own away = (own_kept e own.0 away.0, others_own places own.1 away.1)

  pub others_kept : (places : List (ℕ × ℕ)) → AreOwn old places → NonePasses (is_at (nat_cmp client)) places
      → sessions_in new places ≡ sessions_in old places
  others_kept [] own away = refl
  others_kept (e ∷ places) own away =
      ap (λ (s : Session). (e.0, s) ∷ sessions_in new places) (session_kept e own.0 away.0)
      ∙ ap (λ (es : List (ℕ × Session)). (e.0, at_slot old e.1) ∷ es) (others_kept places own.1 away.1)

-- ---- a client's own slot

owner_alone : (slab : Slab Held) (client slot : ℕ) → option_map (λ (h : Held). h.0) (get slab slot) ≡ Some client
    → (k : ℕ) → option_map (λ (h : Held). h.0) (get slab slot) ≡ Some k → k ≡ client
owner_alone slab client slot is k e = cc

nobody : (slab : Slab Held) (client slot : ℕ) → get slab slot ≡ None
    → (k : ℕ) → option_map (λ (h : Held). h.0) (get slab slot) ≡ Some k → k ≡ client
nobody slab client slot is k e = let none : None ≡ Some k = sym (ap (option_map (λ (h : Held). h.0)) is) ∙ e in absurd (cc)

pub record IsChanged (client : ℕ) (session : Session) (old new : Slab Held) (before after : List (ℕ × ℕ)) : Type 0 where
  pub sessions : sessions_in new after ≡ insert_entry nat_cmp (sessions_in old before) client session
  pub own : AreOwn new after

module _ (client slot : ℕ) (session : Session) (old new : Slab Held) (updates : Updates old new slot (Some (client, session))) where
  now_there : at_slot new slot ≡ session
  now_there = ap (λ (o : Option Held). unwrap_or (option_map (λ (h : Held). h.1) o) nothing) updates.changed

  now_own : option_map (λ (h : Held). h.0) (get new slot) ≡ Some client
  now_own = ap (option_map (λ (h : Held). h.0)) updates.changed

  -- a session in the place of another
  pub changes_own : (places : List (ℕ × ℕ)) → IsStrictlySortedBy nat_cmp (keys_of places) → AreOwn old places
      → option_map (λ (h : Held). h.0) (get old slot) ≡ Some client
      → lookup (is_at (nat_cmp client)) places ≡ Some slot → IsChanged client session old new places places
  changes_own [] s own its h = absurd (cc)
  changes_own (e ∷ places) s own its h = go (nat_cmp client e.0) refl (changes_own places (sorted_tail nat_cmp e.0 (keys_of places) s) own.1 its)
    where
      whose : (k : ℕ) → option_map (λ (h : Held). h.0) (get old slot) ≡ Some k → k ≡ client
      whose = owner_alone old client slot its

      go : (o : Ordering) → nat_cmp client e.0 ≡ o → (lookup (is_at (nat_cmp client)) places ≡ Some slot → IsChanged client session old new places places)
          → IsChanged client session old new (e ∷ places) (e ∷ places)
      go Less is more =
          let none : lookup (is_at (nat_cmp client)) (e ∷ places) ≡ None = lookup-none (is_at (nat_cmp client)) (e ∷ places) (none_below_head nat_cmp_total client e places s is) in
          absurd (cc)
      go Equal is more =
          let at : e.1 ≡ slot = same_slot is in
          let its_number : client ≡ e.0 = nat_cmp-IsAntisymmetric client e.0 is in
          let apart = IsDistinct-from_sorted nat_cmp (keys_of (e ∷ places)) s in
          let past = none_past_head (eq_by_cmp_equiv nat_cmp_total) client e places apart (ap is_eq is) in
          record {
            sessions = ap (λ (n : ℕ). (e.0, at_slot new n) ∷ sessions_in new places) at
                ∙ ap (λ (x : Session). (e.0, x) ∷ sessions_in new places) now_there
                ∙ ap (λ (es : List (ℕ × Session)). (e.0, session) ∷ es) (others_kept client slot old new (Some (client, session)) updates whose places own.1 past)
                ∙ ap (λ (r : Ordering). match_ordering r ((client, session) ∷ (e.0, at_slot old e.1) ∷ sessions_in old places)
                ((e.0, session) ∷ sessions_in old places) ((e.0, at_slot old e.1) ∷ insert_entry nat_cmp (sessions_in old places) client session)) (sym is);
            own = (
              subst (λ (n : ℕ). option_map (λ (h : Held). h.0) (get new n) ≡ Some e.0) (sym at) (now_own ∙ ap Some its_number),
              others_own client slot old new (Some (client, session)) updates whose places own.1 past,
            );
          }
        where
          same_slot : nat_cmp client e.0 ≡ Equal → e.1 ≡ slot
          same_slot is = let found : Some e.1 ≡ Some slot = ap (λ (r : Ordering). cond (is_eq r) (Some e.1) (lookup (is_at (nat_cmp client)) places)) (sym is) ∙ h in cc
      go Greater is more =
          let away : is_at (nat_cmp client) e.0 ≡ false = ap is_eq is in
          let rest = more (ap (λ (r : Ordering). cond (is_eq r) (Some e.1) (lookup (is_at (nat_cmp client)) places)) (sym is) ∙ h) in
          record {
            sessions = ap (λ (x : Session). (e.0, x) ∷ sessions_in new places) (session_kept client slot old new (Some (client, session)) updates whose e own.0 away)
                ∙ ap (λ (es : List (ℕ × Session)). (e.0, at_slot old e.1) ∷ es) rest.sessions
                ∙ ap (λ (r : Ordering). match_ordering r ((client, session) ∷ (e.0, at_slot old e.1) ∷ sessions_in old places)
                ((e.0, session) ∷ sessions_in old places) ((e.0, at_slot old e.1) ∷ insert_entry nat_cmp (sessions_in old places) client session)) (sym is);
            own = (own_kept client slot old new (Some (client, session)) updates whose e own.0 away, rest.own);
          }

  -- ---- one more slot

  put_mapped : (places : List (ℕ × ℕ)) → insert_entry nat_cmp (sessions_in new places) client (at_slot new slot) ≡ sessions_in new (insert_entry nat_cmp places client slot)
  put_mapped [] = refl
  put_mapped (e ∷ places) = go (nat_cmp client e.0) (put_mapped places)
    where
      go : (o : Ordering) → insert_entry nat_cmp (sessions_in new places) client (at_slot new slot) ≡ sessions_in new (insert_entry nat_cmp places client slot)
          → match_ordering o ((client, at_slot new slot) ∷ (e.0, at_slot new e.1) ∷ sessions_in new places) ((e.0, at_slot new slot) ∷ sessions_in new places)
          ((e.0, at_slot new e.1) ∷ insert_entry nat_cmp (sessions_in new places) client (at_slot new slot))
          ≡ sessions_in new (match_ordering o ((client, slot) ∷ e ∷ places) ((e.0, slot) ∷ places) (e ∷ insert_entry nat_cmp places client slot))
      go Less more = refl
      go Equal more = refl
      go Greater more = ap (λ (es : List (ℕ × Session)). (e.0, at_slot new e.1) ∷ es) more

  put_own : (places : List (ℕ × ℕ)) → AreOwn new places → AreOwn new (insert_entry nat_cmp places client slot)
  put_own [] own = (now_own, tt)
  put_own (e ∷ places) own = go (nat_cmp client e.0) refl (put_own places own.1)
    where
      go : (o : Ordering) → nat_cmp client e.0 ≡ o → AreOwn new (insert_entry nat_cmp places client slot)
          → AreOwn new (match_ordering o ((client, slot) ∷ e ∷ places) ((e.0, slot) ∷ places) (e ∷ insert_entry nat_cmp places client slot))
      go Less is more = (now_own, own)
      go Equal is more = (now_own ∙ ap Some (nat_cmp-IsAntisymmetric client e.0 is), own.1)
      go Greater is more = (own.0, more)

  -- a session of a client that has none
  pub adds_own : (places : List (ℕ × ℕ)) → AreOwn old places → get old slot ≡ None → lookup (is_at (nat_cmp client)) places ≡ None
      → IsChanged client session old new places (insert_entry nat_cmp places client slot)
  adds_own places own vacant none =
      let whose = nobody old client slot vacant in
      let absent = none_passes_from_lookup (is_at (nat_cmp client)) places none in
      record {
        sessions = sym (put_mapped places)
            ∙ ap (λ (es : List (ℕ × Session)). insert_entry nat_cmp es client (at_slot new slot)) (others_kept client slot old new (Some (client, session)) updates whose places own absent)
            ∙ ap (insert_entry nat_cmp (sessions_in old places) client) now_there;
        own = put_own places (others_own client slot old new (Some (client, session)) updates whose places own absent);
      }

-- ---- all slots

module _ (changes : Session → Session) (old new : Slab Held) (each_slot : (slot : ℕ) → get new slot ≡ option_map (λ (h : Held). (h.0, changes h.1)) (get old slot))
    (still : changes nothing ≡ nothing) where
  changed_at : (slot : ℕ) → at_slot new slot ≡ changes (at_slot old slot)
  changed_at slot = ap (λ (o : Option Held). unwrap_or (option_map (λ (h : Held). h.1) o) nothing) (each_slot slot) ∙ by (get old slot)
    where
      by : (o : Option Held) → unwrap_or (option_map (λ (h : Held). h.1) (option_map (λ (h : Held). (h.0, changes h.1)) o)) nothing
          ≡ changes (unwrap_or (option_map (λ (h : Held). h.1) o) nothing)
      by None = sym still
      by (Some h) = refl

  still_own : (slot : ℕ) → option_map (λ (h : Held). h.0) (get new slot) ≡ option_map (λ (h : Held). h.0) (get old slot)
  still_own slot = ap (option_map (λ (h : Held). h.0)) (each_slot slot) ∙ by (get old slot)
    where
      by : (o : Option Held) → option_map (λ (h : Held). h.0) (option_map (λ (h : Held). (h.0, changes h.1)) o) ≡ option_map (λ (h : Held). h.0) o
      by None = refl
      by (Some h) = refl

  pub all_changed : (places : List (ℕ × ℕ)) → sessions_in new places ≡ map (λ (e : ℕ × Session). (e.0, changes e.1)) (sessions_in old places)
  all_changed [] = refl
  all_changed (e ∷ places) =
      ap (λ (s : Session). (e.0, s) ∷ sessions_in new places) (changed_at e.1)
      ∙ ap (λ (es : List (ℕ × Session)). (e.0, changes (at_slot old e.1)) ∷ es) (all_changed places)

  pub all_own : (places : List (ℕ × ℕ)) → AreOwn old places → AreOwn new places
  all_own [] own = tt
  all_own (e ∷ places) own = (still_own e.1 ∙ own.0, all_own places own.1)

-- ---- a slab whose values are all changed

module _ {T F : Type 0} (step : F → ℕ → MutBor T → Bool → MutBor T → F → Type 0) (g : T → T) (f : F)
    (called : (key : ℕ) (v : T) (keep : Bool) (w : T) (next : F) → CalledAt step f key v keep w next → (keep ≡ true) × (w ≡ g v) × (next ≡ f)) where
  retained : (key : ℕ) (slots now : List (Option T)) → RetainsFrom step f key slots now → now ≡ map (option_map g) slots
  retained key [] now r = r
  retained key (None ∷ slots) now r = r.1 ∙ ap (λ (l : List (Option T)). None ∷ l) (retained (key + 1) slots r.0 r.2)
  retained key (Some v ∷ slots) now r =
      let a = called key v r.0 r.1 r.2 r.3 in
      r.5 ∙ ap (λ (b : Bool). cond b (Some r.1) None ∷ r.4) a.0 ∙ ap (λ (w : T). Some w ∷ r.4) a.1
      ∙ ap (λ (l : List (Option T)). Some (g v) ∷ l) (retained (key + 1) slots r.4 (subst (λ (u : F). RetainsFrom step u (key + 1) slots r.4) a.2 r.6))

  in_slot : (slots : List (Option T)) (slot : ℕ) → slice_index_or (map (option_map g) slots) slot None ≡ option_map g (slice_index_or slots slot None)
  in_slot [] slot = refl
  in_slot (o ∷ slots) zero = refl
  in_slot (o ∷ slots) (suc slot) = in_slot slots slot

  pub each_retained : (old new : Slab T) → RetainsFrom step f 0 old.slots new.slots → (slot : ℕ) → get new slot ≡ option_map g (get old slot)
  each_retained old new r slot = ap (λ (l : List (Option T)). slice_index_or l slot None) (retained 0 old.slots new.slots r) ∙ in_slot old.slots slot

-- ---- a session written in its slot

pub writes_own : (client slot : ℕ) (session : Session) (old : Slab Held) (places : List (ℕ × ℕ)) (held : Held) → ArePlaced old places
    → lookup (is_at (nat_cmp client)) places ≡ Some slot → Some held ≡ get old slot
    → IsChanged client session old (with_value old slot (client, session)) places places
writes_own client slot session old places held p h e =
    let there : IsSome (get old slot) = subst (λ (o : Option Held). IsSome o) e (search rules) in
    changes_own client slot session old (with_value old slot (client, session)) (Updates-with_value old slot (client, session) there) places p.ordered p.own
    (found_own old places client slot p.own h) h

pub writes_placed : (client slot : ℕ) (session : Session) (old : Slab Held) (places : List (ℕ × ℕ)) (held : Held) → ArePlaced old places
    → lookup (is_at (nat_cmp client)) places ≡ Some slot → Some held ≡ get old slot
    → ArePlaced (with_value old slot (client, session)) places
writes_placed client slot session old places held p h e = record { own = (writes_own client slot session old places held p h e).own; ordered = p.ordered }

module _ (changes : Session → Session) (client slot : ℕ) (session : Session) (old : Slab Held) (places : List (ℕ × ℕ)) (held : Held) (p : ArePlaced old places)
    (h : lookup (is_at (nat_cmp client)) places ≡ Some slot) (e : Some held ≡ get old slot) where
  its_owner : held.0 ≡ client
  its_owner = let same : Some held.0 ≡ Some client = ap (option_map (λ (h : Held). h.0)) e ∙ found_own old places client slot p.own h in cc

  pub written_placed : ArePlaced (with_value old slot (held.0, session)) places
  written_placed = rw its_owner (writes_placed client slot session old places held p h e)

  -- a session changed through a borrow
  pub written : session ≡ changes held.1 → sessions_in (with_value old slot (held.0, session)) places ≡ with_changed changes client (sessions_in old places)
  written is = rw (its_owner, is) ((writes_own client slot (changes held.1) old places held p h e).sessions
      ∙ ap (changed_from changes client (sessions_in old places)) (look_in old places client slot held h (sym e)))

pub unchanged : (changes : Session → Session) (client : ℕ) (old : Slab Held) (places : List (ℕ × ℕ)) → None ≡ lookup (is_at (nat_cmp client)) places
    → sessions_in old places ≡ with_changed changes client (sessions_in old places)
unchanged changes client old places h = ap (changed_from changes client (sessions_in old places)) (look_none old places client h)

pub ok_then : {T E P Q : Type 0} (r : Result T E) → OnOk r P → (P → Q) → OnOk r Q
ok_then (Ok x) p f = f p
ok_then (Err e) p f = tt

pub still_marked : (table : ℕ) (strong : Bool) → after_change table strong nothing ≡ nothing
still_marked table true = refl
still_marked table false = refl
