use Rattle.std.proofs.Common.{◌≡◌, ◌+◌, ◌++◌, ◌∷◌, [], ℕ, List, length, take, drop, Bool, true, false, Option, Some, None, Ok, Err, inr, inl, refl, sym, ◌∙◌, ap, subst, arith}
use Rattle.std.specs.Bool.{MatchBool}
use Rattle.std.proofs.lemmas.Result.{on_ok_weaker}
use Rattle.stab_base.specs.declared.chunk_name.ChunkName.{ChunkName}
use Rattle.chunk_store.specs.Standing.{chunks}
use Rattle.store_commit.specs.NamedChunks.{names_of}
use Rattle.store_commit.specs.There.{is_not_there, HasIds}
use Rattle.store_commit.specs.Update.{HasNames}
use Rattle.store_commit.proofs.Theres.{ids_push}
use Rattle.store_commit.proofs.there.note_row.Goals as goal

pub returns-then-is_hidden : goal.returns-then-is_hidden
returns-then-is_hidden g c = record {
  noted = λ before ids has hid.
      let is = sym c.if-is_hidden.true ∙ c.in_ok-is_hidden.ensures before has in
      subst (λ (b : Bool). MatchBool b (HasNames before c.args.found.now.named × HasIds (ids ++ c.args.row ∷ []) c.insert.new.self) (HasNames (before ++ names_of c.args.stored.now.content) c.args.found.now.named × HasIds ids c.insert.new.self)) is
      (has, ids_push c.args.found.now.hidden c.insert.new.self ids c.args.row hid c.in_ok-insert.ensures.updates.0);
}

pub returns : goal.returns
returns g c =
    on_ok_weaker c.add_all.result (λ all. record {
      noted = λ before ids has hid.
          let is = sym c.if-is_hidden.false ∙ c.in_ok-is_hidden.ensures before has in
          let named = subst (λ (l : List ChunkName). HasNames (before ++ l) c.add_all.new.named) (c.deref-2.ensures.value ∙ c.in_ok-names.ensures) (all before has) in
          subst (λ (b : Bool). MatchBool b (HasNames before c.add_all.new.named × HasIds (ids ++ c.args.row ∷ []) c.args.found.now.hidden) (HasNames (before ++ names_of c.args.stored.now.content) c.add_all.new.named × HasIds ids c.args.found.now.hidden)) is (named, hid);
    }) c.add_all.ensures
