use Rattle.std.proofs.Common.{rules, ◌≡◌, ◌-◌, ℕ, length, Option, Some, None, sym, ◌∙◌, ap}
use Rattle.std.proofs.lemmas.Result.{on_ok_weaker}
use Rattle.spare_map.specs.Late.{entries_of}
use Rattle.chunk_store.specs.Payload.{name_cmp, change_of}
use Rattle.chunk_store.specs.Index.{shape_of}
use Rattle.chunk_store.specs.declared.payload.Change.{Change}
use Rattle.chunk_store.specs.declared.payload.Change.TheVariants.{Put, Gone}
use Rattle.chunk_store.specs.declared.index.Place.{Place}
use Rattle.chunk_store.proofs.Notes.{moved, noted, here}
use Rattle.chunk_store.proofs.index.ChunkIndexFold.note.Goals as goal

abbrev place_at : ℕ → ℕ → Place
place_at index len = record { index = index; len = len }

place_is : (i j n m : ℕ) → i ≡ j → n ≡ m → place_at i n ≡ place_at j m
place_is i j n m p q = ap (λ (x : ℕ). place_at x n) p ∙ ap (place_at j) q

pub returns-in-None-clause-noted : goal.returns-in-None-clause-noted
returns-in-None-clause-noted c list at fit =
    let es = entries_of name_cmp c.args.self.now.places in
    let shape : shape_of (change_of c.args.payload.now) ≡ None = sym c.requires ∙ c.in-None.is in
    let both = noted list c.args.payload.now es es fit.chunks fit.places (sym (ap (λ (s : Option Change). moved es s (here list c.args.payload.now)) shape)) in
    record { chunks = both.0; places = both.1 }

pub returns-in-Some-Put-clause-noted : goal.returns-in-Some-Put-clause-noted
returns-in-Some-Put-clause-noted c =
    let es = entries_of name_cmp c.args.self.now.places in
    let fs = entries_of name_cmp c.insert.new.self in
    let shape : shape_of (change_of c.args.payload.now) ≡ Some (Put c.in-Some-Put.name) = sym c.requires ∙ (let is : c.args.change ≡ Some (Put c.in-Some-Put.name) = search rules in is) in
    on_ok_weaker c.insert.result (λ ok list at fit.
    let to : fs ≡ moved es (shape_of (change_of c.args.payload.now)) (here list c.args.payload.now) = ok ∙ (ap (λ (q : Place). moved es (Some (Put c.in-Some-Put.name)) q) (place_is c.args.index (length list) c.chunk_len-len.result (length c.args.payload.now - 13) (sym at) c.chunk_len-len.ensures) ∙ sym (ap (λ (s : Option Change). moved es s (here list c.args.payload.now)) shape)) in
    let both = noted list c.args.payload.now es fs fit.chunks fit.places to in
    record { chunks = both.0; places = both.1 }) c.insert.ensures.ok

pub returns-in-Some-Gone-clause-noted : goal.returns-in-Some-Gone-clause-noted
returns-in-Some-Gone-clause-noted c =
    let es = entries_of name_cmp c.args.self.now.places in
    let fs = entries_of name_cmp c.remove.new.self in
    let shape : shape_of (change_of c.args.payload.now) ≡ Some (Gone c.in-Some-Gone.name) = sym c.requires ∙ (let is : c.args.change ≡ Some (Gone c.in-Some-Gone.name) = search rules in is) in
    on_ok_weaker c.remove.result (λ ok list at fit.
    let to : fs ≡ moved es (shape_of (change_of c.args.payload.now)) (here list c.args.payload.now) = ok ∙ sym (ap (λ (s : Option Change). moved es s (here list c.args.payload.now)) shape) in
    let both = noted list c.args.payload.now es fs fit.chunks fit.places to in
    record { chunks = both.0; places = both.1 }) c.remove.ensures.ok
