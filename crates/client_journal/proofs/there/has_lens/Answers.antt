use Rattle.std.specs.Prelude.{None}
use Rattle.held_value.specs.declared.content.HeldPiece.{HeldPiece}
use Rattle.std.proofs.Common.{◌≡◌, ◌+◌, ◌++◌, ◌∷◌, [], ℕ, List, length, get_or, take, Bool, true, false, refl, sym, ◌∙◌, ap, subst, arith}
use Rattle.std.proofs.lemmas.Bool.{eq-eqb, ne_eqb}
use Rattle.chunk_store.specs.Standing.{chunks}
use Rattle.client_journal.specs.Devs.{local_in}
use Rattle.client_journal.specs.There.{has_len}
use Rattle.client_journal.proofs.Theres.{lens_more, lens_wrong, lens_end, lens_differ, count_differs, lens_are}
use Rattle.client_journal.proofs.there.has_lens.Goals as goal

pub returns-then-not-are_all : goal.returns-then-not-are_all
returns-then-not-are_all g c =
    count_differs (local_in (chunks g.D.Disk.state c.args.dev.now)) c.args.size c.args.object.now c.as_slice-pieces.result.now c.as_slice-pieces.ensures (length c.as_slice-pieces.result.now) c.count_of.result refl c.count_of.ensures (ne_eqb (length c.as_slice-pieces.result.now) c.count_of.result c.if-not-are_all.true)

pub loop-place-preserved : goal.loop-place-preserved
loop-place-preserved g c =
    let stands = local_in (chunks g.D.Disk.state c.args.dev.now) in
    let e : HeldPiece = record { local = record { plan = 0; ordinal = 0 }; name = None } in
    let piece = get_or c.as_slice-pieces.result.now c.loop-place.place e in
    lens_more stands c.args.size c.args.object.now.len c.as_slice-pieces.result.now c.loop-place.place piece e c.loop-place-test.true refl c.loop-place.invariant
    (ap (λ (n : ℕ). has_len (stands piece.local) n) (sym c.len_at.ensures) ∙ (sym c.has_len.ensures ∙ c.if-not-has_len.false))

pub returns-then-not-has_len : goal.returns-then-not-has_len
returns-then-not-has_len g c =
    let stands = local_in (chunks g.D.Disk.state c.args.dev.now) in
    let e : HeldPiece = record { local = record { plan = 0; ordinal = 0 }; name = None } in
    let piece = get_or c.as_slice-pieces.result.now c.loop-place.place e in
    lens_differ stands c.args.size c.args.object.now c.as_slice-pieces.result.now c.as_slice-pieces.ensures
    (lens_wrong stands c.args.size c.args.object.now.len c.as_slice-pieces.result.now c.loop-place.place piece e c.loop-place-test.true refl c.loop-place.invariant
    (ap (λ (n : ℕ). has_len (stands piece.local) n) (sym c.len_at.ensures) ∙ (sym c.has_len.ensures ∙ c.if-not-has_len.true)))

pub returns : goal.returns
returns g c =
    let stands = local_in (chunks g.D.Disk.state c.args.dev.now) in
    lens_are stands c.args.size c.args.object.now c.as_slice-pieces.result.now c.as_slice-pieces.ensures (length c.as_slice-pieces.result.now) c.count_of.result refl c.count_of.ensures (eq-eqb (length c.as_slice-pieces.result.now) c.count_of.result c.if-not-are_all.false)
    (lens_end stands c.args.size c.args.object.now.len c.as_slice-pieces.result.now c.loop-place.place c.loop-place-test.false c.loop-place.invariant)
