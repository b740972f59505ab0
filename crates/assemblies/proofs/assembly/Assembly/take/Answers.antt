use Rattle.std.proofs.Common.{◌≡◌, true, false, List, set, subst}
use Rattle.assemblies.specs.Gathering.{Slot, taken, takes, slots_of}
use Rattle.assemblies.proofs.Slots.{nothing_taken, nothing_takes, one_taken, one_takes}
use Rattle.assemblies.proofs.assembly.Assembly.take.Goals as goal

pub returns-in-None-clause-slots : goal.returns-in-None-clause-slots
returns-in-None-clause-slots c =
    let none = rw (c.as_slice-awaited.ensures, c.deref.ensures.value, c.len.ensures) at c.in-None.ensures in
    subst (λ (s : List Slot). s ≡ taken c.args.column c.args.place c.args.bytes s) c.self.view_is
    (nothing_taken c.args.column c.args.place c.args.bytes c.self.inside.awaited c.self.inside.came.items c.self.inside.chunks.items none)

pub returns-in-None-clause-took : goal.returns-in-None-clause-took
returns-in-None-clause-took c =
    let none = rw (c.as_slice-awaited.ensures, c.deref.ensures.value, c.len.ensures) at c.in-None.ensures in
    subst (λ (s : List Slot). false ≡ takes c.args.column c.args.place c.args.bytes s) c.self.view_is
    (nothing_takes c.args.column c.args.place c.args.bytes c.self.inside.awaited c.self.inside.came.items c.self.inside.chunks.items none)

pub returns-in-Some-clause-slots : goal.returns-in-Some-clause-slots
returns-in-Some-clause-slots c =
    let lacks = rw (c.as_slice-awaited.ensures, c.deref.ensures.value, c.len.ensures) at c.in-Some.ensures in
    subst (λ (s : List Slot). slots_of c.self.inside.awaited (set c.self.inside.came.items c.in-Some.number true) (set c.self.inside.chunks.items c.in-Some.number c.args.bytes)
    ≡ taken c.args.column c.args.place c.args.bytes s) c.self.view_is
    (one_taken c.args.column c.args.place c.args.bytes c.self.inside.awaited c.self.inside.came.items c.self.inside.chunks.items c.in-Some.number
    c.self.invariant.rising c.self.invariant.flags c.self.invariant.count lacks)

pub returns-in-Some-clause-took : goal.returns-in-Some-clause-took
returns-in-Some-clause-took c =
    let lacks = rw (c.as_slice-awaited.ensures, c.deref.ensures.value, c.len.ensures) at c.in-Some.ensures in
    subst (λ (s : List Slot). true ≡ takes c.args.column c.args.place c.args.bytes s) c.self.view_is
    (one_takes c.args.column c.args.place c.args.bytes c.self.inside.awaited c.self.inside.came.items c.self.inside.chunks.items c.in-Some.number
    c.self.invariant.flags c.self.invariant.count lacks)
