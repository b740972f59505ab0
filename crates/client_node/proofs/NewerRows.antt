-- What a newer row from the Store changes of a row's slots: it is what was read, or it is in conflict.
use Rattle.std.proofs.Common.{◌≡◌, inl, inr, ◌<◌, Bool, true, false, List, [], ◌∷◌, ◌++◌, Option, Some, None, refl, sym, ap, subst}
use Rattle.std.specs.Prelude.{nat_le, IsSome, if◌then◌else◌}
use Rattle.std.specs.List.{AllByRecursion}
use Rattle.std.proofs.lemmas.Bool.{cases_Bool}
use Rattle.row_value.specs.declared.schema.Scheme.{Scheme}
use Rattle.table_model.specs.declared.message.Yours.{Yours}
use Rattle.held_value.specs.declared.local_name.LocalName.{LocalName}
use Rattle.held_value.specs.declared.slots.Main.{Main}
use Rattle.held_value.specs.declared.slots.Out.{Out}
use Rattle.held_value.specs.declared.slots.Shadow.{Shadow}
use Rattle.held_value.specs.declared.slots.Slots.{Slots}
use Rattle.held_value.specs.declared.tell.Tell.{Tell}
use Rattle.held_value.specs.declared.tell.Tell.TheVariants as tell
use Rattle.client_tables.specs.declared.change.Change.{Change}
use Rattle.client_tables.specs.declared.change.Sending.TheVariants as send
use Rattle.client_tables.specs.Change.{after, seen_in, unchanged}
use Rattle.client_tables.specs.Transitions.{taken, placed, acknowledged, acknowledged_out, read_row, in_conflict, is_read, number_in}
use Rattle.client_journal.specs.Names.{Has, names_of, names_in, names_of_main, names_of_shadow, names_of_out}
use Rattle.client_journal.proofs.Wholes.{has_left, has_right}
use Rattle.client_node.proofs.RowReady.{IsPlain}

plain_append : (a b : List Tell) → AllByRecursion IsPlain a → AllByRecursion IsPlain b → AllByRecursion IsPlain (a ++ b)
plain_append [] b x y = y
plain_append (t ∷ a) b x y = (x.0, plain_append a b x.1 y)

plain_acked : (yours : Yours) (m : Option Main) (o : Option Out) → AllByRecursion IsPlain (acknowledged_out yours m o).tells
plain_acked yours m None = tt
plain_acked yours m (Some out) = elim (cases_Bool (nat_le out.number yours.number)) [
  | inl is ↦ rw is (tt, tt)
  | inr other ↦ rw other tt
]

module _ (scheme : Scheme) (slots : Slots) (yours : Yours) (x : Shadow) where
  -- some slots change to ones that name the row's chunks, and what is told says something by itself
  pub record PutsRow (change : Change) : Type 0 where
    pub some : IsSome change.slots
    pub names : (name : LocalName) → Has (names_of x.content) name → Has (names_in (after slots change)) name
    pub plain : AllByRecursion IsPlain change.tells

  acked_plain : (t : Tell) → IsPlain t → AllByRecursion IsPlain ((acknowledged yours slots).tells ++ t ∷ [])
  acked_plain t plain = plain_append (acknowledged yours slots).tells (t ∷ []) (plain_acked yours slots.main slots.out) (plain, tt)

  reads : PutsRow (read_row slots (acknowledged yours slots) x)
  reads = record {
    some = refl;
    names = λ name has.
        has_right (names_of_main (acknowledged yours slots).main) (names_of x.content ++ (names_of_out (acknowledged yours slots).out ++ names_of_shadow slots.conflict)) name
        (has_left (names_of x.content) (names_of_out (acknowledged yours slots).out ++ names_of_shadow slots.conflict) name has);
    plain = acked_plain (tell.New x.version) tt;
  }

  conflicts : PutsRow (in_conflict slots (acknowledged yours slots) x)
  conflicts = record {
    some = refl;
    names = λ name has.
        has_right (names_of_main (acknowledged yours slots).main) (names_of_shadow slots.shadow ++ names_of x.content) name
        (has_right (names_of_shadow slots.shadow) (names_of x.content) name has);
    plain = acked_plain (tell.Conflict (number_in (acknowledged yours slots).main) x.version) tt;
  }

  either : (b : Bool) → PutsRow (if b then read_row slots (acknowledged yours slots) x else in_conflict slots (acknowledged yours slots) x)
  either true = reads
  either false = conflicts

  pub puts_row : nat_le x.version (seen_in slots.conflict slots.shadow) ≡ false → PutsRow (taken scheme slots yours x)
  puts_row newer =
      let placed_is : taken scheme slots yours x ≡ placed scheme slots (acknowledged yours slots) yours x = ap (λ (b : Bool). if b then unchanged send.Nothing else placed scheme slots (acknowledged yours slots) yours x) newer in
      subst PutsRow (sym placed_is) (either (is_read scheme slots (acknowledged yours slots) yours x))
