use Rattle.std.proofs.Common.{◌≡◌, ◌≤◌, ◌++◌, ◌∷◌, [], ℕ, List, length, subst, sym, ap, arith, length-append}
use Rattle.std.specs.Int.{w64, to_be_bytes}
use Rattle.value_codec.specs.Spelling.{content_spelling}
use Rattle.row_store.specs.declared.stored.LastWrite.{LastWrite}
use Rattle.row_store.proofs.Again.{few}
use Rattle.row_store.proofs.Lengths.{row_len}
use Rattle.row_store.proofs.writer.write_row.Goals as goal

pub write_lasts-requires-clause-count : goal.write_lasts-requires-clause-count
write_lasts-requires-clause-count c = subst (λ (l : List LastWrite). length l ≤ 64) (sym c.as_slice.ensures) (few c.args.stored.now.pairs c.requires.spelled.lasts)

pub write_lasts-requires-clause-room : goal.write_lasts-requires-clause-room
write_lasts-requires-clause-room c =
    let stored = c.args.stored.now in
    let v = to_be_bytes w64 stored.version in
    let t = content_spelling stored.content in
    let one : List ℕ = 1 ∷ [] in
    let id = c.to_bytes.result in
    let first : c.put_u8.new.out.items ≡ c.clear.new.self.items ++ one = rw c.unwrap.ensures at c.put_u8.ensures.ok in
    let second : c.extend_from_slice.new.self.items ≡ c.put_u8.new.out.items ++ id = rw c.unwrap-2.ensures at c.extend_from_slice.ensures.items in
    let third : c.put_u64.new.out.items ≡ c.extend_from_slice.new.self.items ++ v = rw c.unwrap-3.ensures at c.put_u64.ensures.ok in
    let fourth : c.put_content.new.out.items ≡ c.put_u64.new.out.items ++ t = rw c.unwrap-4.ensures at c.put_content.ensures.ok in
    omega (
      arith,
      ap length c.clear.ensures.items,
      ap length first,
      length-append c.clear.new.self.items one,
      ap length second,
      length-append c.put_u8.new.out.items id,
      ap length third,
      length-append c.extend_from_slice.new.self.items v,
      ap length fourth,
      length-append c.put_u64.new.out.items t,
      ap length c.to_bytes.ensures,
      ap length c.as_slice.ensures,
      row_len stored,
      c.requires.room,
      c.clear.ensures.capacity,
      c.put_u8.ensures.capacity,
      c.extend_from_slice.ensures.capacity,
      c.put_u64.ensures.capacity,
      c.put_content.ensures.capacity,
      c.put_content.new.out.ok.0,
    )
