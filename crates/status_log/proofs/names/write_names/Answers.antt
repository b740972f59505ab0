use Rattle.std.proofs.Common.{◌≡◌, ◌<◌, ◌++◌, List, ℕ, length, take, get_or, sym, ◌∙◌, ap, arith, append_assoc}
use Rattle.std.proofs.lemmas.List.{get_or_default}
use Rattle.std.specs.Int.{w32, to_be_bytes}
use Rattle.std.specs.List.{flat_map}
use Rattle.stab_base.specs.declared.chunk_name.ChunkName.{ChunkName}
use Rattle.value_codec.specs.Spelling.{name_spelling}
use Rattle.status_log.proofs.Twelves.{spelled_more}
use Rattle.status_log.proofs.names.write_names.Goals as goal

pub loop-name-preserved : goal.loop-name-preserved
loop-name-preserved c =
    let names = c.args.names.now in
    let i = c.loop-name.name-index in
    let old = c.args.payload.now.items in
    let head = to_be_bytes w32 (length names) in
    let first = flat_map name_spelling (take i names) in
    let name : ChunkName = get_or names i (record { version = 0; ordinal = 0 }) in
    let more = spelled_more names i name c.loop-name-test.true (default names i c.loop-name-test.true) in
    record {
      so_far = c.write_name.ensures.items ∙ (ap (λ (l : List ℕ). l ++ name_spelling name) c.loop-name.invariant.so_far ∙ (append_assoc old (head ++ first) (name_spelling name) ∙ ap (λ (l : List ℕ). old ++ l) (append_assoc head first (name_spelling name) ∙ ap (λ (l : List ℕ). head ++ l) (sym more))));
      capacity = omega (arith, c.loop-name.invariant.capacity, c.write_name.ensures.capacity);
      room = omega (arith, c.loop-name.invariant.room, c.write_name.ensures.len, c.write_name.ensures.capacity);
    }
  where
    default : (names : List ChunkName) (i : ℕ) → i < length names → get_or names i (get_or names i (record { version = 0; ordinal = 0 })) ≡ get_or names i (record { version = 0; ordinal = 0 })
    default names i lt = get_or_default names i _ _ lt
