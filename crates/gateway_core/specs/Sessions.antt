-- Sessions in a slab, looked up by client.
use Rattle.std.specs.Prelude.{◌≡◌, ℕ, List, [], Option, Some, None, map, option_map, unwrap_or}
use Rattle.std.specs.List.{AllByRecursion}
use Rattle.std.specs.Ordering.{nat_cmp}
use Rattle.std.specs.List.Sorted.{IsStrictlySortedBy}
use Rattle.std.specs.Map.{lookup, keys_of}
use Rattle.std.specs.BTreeMap.{is_at, insert_entry}
use Rattle.slab.specs.Slab.{Slab, get}
use Rattle.gate_tables.specs.Gate.{Session}

-- where there is no session
abbrev pub nothing : Session
nothing = record { token = 0; timers = [] }

abbrev pub at_slot : Slab (ℕ × Session) → ℕ → Session
at_slot slab slot = unwrap_or (option_map (λ held. held.1) (get slab slot)) nothing

-- the sessions in the slots of clients
abbrev pub sessions_in : Slab (ℕ × Session) → List (ℕ × ℕ) → List (ℕ × Session)
sessions_in slab places = map (λ place. (place.0, at_slot slab place.1)) places

-- a client's slot holds a session of that client
abbrev pub IsOwn : Slab (ℕ × Session) → ℕ × ℕ → Type 0
IsOwn slab place = option_map (λ held. held.0) (get slab place.1) ≡ Some place.0

abbrev pub AreOwn : Slab (ℕ × Session) → List (ℕ × ℕ) → Type 0
AreOwn slab places = AllByRecursion (IsOwn slab) places

-- the slots are those of the sessions, by rising client
pub record ArePlaced (slab : Slab (ℕ × Session)) (places : List (ℕ × ℕ)) : Type 0 where
  pub own : AreOwn slab places
  pub ordered : IsStrictlySortedBy nat_cmp (keys_of places)

-- a client's session, where there is one, changed so
abbrev pub changed_from : (Session → Session) → ℕ → List (ℕ × Session) → Option Session → List (ℕ × Session)
changed_from changes client sessions None = sessions
changed_from changes client sessions (Some session) = insert_entry nat_cmp sessions client (changes session)

abbrev pub with_changed : (Session → Session) → ℕ → List (ℕ × Session) → List (ℕ × Session)
with_changed changes client sessions =
    changed_from changes client sessions (lookup (is_at (nat_cmp client)) sessions)
