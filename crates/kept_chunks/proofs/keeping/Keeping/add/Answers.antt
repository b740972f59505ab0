use Rattle.std.proofs.Common.{rules, ◌≡◌, true, cond, refl, subst}
use Rattle.std.specs.BTreeMap.{is_at}
use Rattle.std.specs.BTreeSet.{contains}
use Rattle.stab_base.specs.declared.chunk_name.ChunkName.{ChunkName}
use Rattle.chunk_store.specs.Payload.{name_cmp}
use Rattle.client_journal.proofs.Theres.{names_push}
use Rattle.kept_chunks.proofs.keeping.Keeping.add.Goals as goal

pub returns : goal.returns
returns c = record {
  locals = search rules;
  taken = λ names has.
      names_push c.args.self.now.taken c.insert.new.self names c.args.name has
      (subst (λ (k : ChunkName). (q : ChunkName) → contains name_cmp c.insert.new.self q ≡ cond (is_at (name_cmp k) q) true (contains name_cmp c.args.self.now.taken q)) c.chunk_name.ensures c.in_ok-insert.ensures.updates.0);
  brought = refl;
}
