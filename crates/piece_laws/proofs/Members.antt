-- Members of lists, as the laws of names and those of the step tables speak of them.
use Rattle.std.proofs.Common.{inl, inr, ⊎_elim, List, [], ◌∷◌, sym, subst}
use Rattle.step_tables.specs.Members.{Among}
use Rattle.step_tables.proofs.Lists.{among_none, among_cons, among_here, among_next}
use Rattle.name_laws.proofs.Names as names

pub as_member : {X : Type 0} (x : X) (xs : List X) → names.Among x xs → Among xs x
as_member x [] a = absurd a
as_member {X} x (y ∷ xs) (inl same) = subst (λ (q : X). Among (y ∷ xs) q) (sym same) (among_here y xs)
as_member x (y ∷ xs) (inr more) = among_next y xs x (as_member x xs more)

pub member_is : {X : Type 0} (x : X) (xs : List X) → Among xs x → names.Among x xs
member_is x [] a = absurd (among_none x a)
member_is x (y ∷ xs) a = ⊎_elim (λ same. inl (sym same)) (λ more. inr (member_is x xs more)) (among_cons y xs x a)
