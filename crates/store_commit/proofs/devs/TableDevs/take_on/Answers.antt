use Rattle.std.proofs.Common.{◌≡◌, ◌++◌, ◌∷◌, ◌+◌, ◌<◌, [], List, get_or, length, take, map, rules, refl, sym, ◌∙◌, ap, arith}
use Rattle.std.specs.Prelude.{if◌then◌else◌, is_ok}
use Rattle.std.proofs.lemmas.Grind.{common_steps}
use Rattle.std.proofs.lemmas.List.{take_more, map_push}
use Rattle.stab_base.specs.declared.chunk_name.ChunkName.{ChunkName}
use Rattle.store_commit.specs.declared.task.Task.{Task}
use Rattle.store_commit.specs.declared.task.Task.TheVariants as tasks
use Rattle.store_commit.specs.Devs.{Write, OpenChunks, OpenRows, OpenLog, DropChunk}
use Rattle.store_commit.specs.Agenda.{drops}
use Rattle.store_commit.specs.Standing.{write_of}
use Rattle.store_commit.proofs.Recovers.{drops_push}
use Rattle.store_commit.proofs.devs.TableDevs.take_on.Goals as goal

pub loop-name-preserved : goal.loop-name-preserved
loop-name-preserved g c =
    let i = c.loop-name.invariant in
    let names = c.args.names.now in
    let k = c.loop-name.name-index in
    let none : ChunkName = record { version = 0; ordinal = 0 } in
    let name : ChunkName = get_or names k none in
    let items = c.loop-name.self.agenda.items in
    let pushed : c.push_back-in-loop-name.new.self.items ≡ items ++ tasks.DropChunk name ∷ [] = grind (arith, common_steps) in
    let writes = ap (λ (l : List Task). map write_of l) pushed ∙ map_push write_of items (tasks.DropChunk name) in
    let before : map write_of items ++ DropChunk name ∷ [] ≡ OpenChunks ∷ (OpenRows ∷ (OpenLog ∷ (drops (take k names) ++ DropChunk name ∷ []))) = ap (λ (l : List Write). l ++ DropChunk name ∷ []) i.writes in
    let more : drops (take (k + 1) names) ≡ drops (take k names) ++ DropChunk name ∷ [] = ap drops (take_more names k none (omega (arith, c.loop-name-test.true))) ∙ drops_push (take k names) name in
    record {
      writes = writes ∙ (before ∙ ap (λ (l : List Write). OpenChunks ∷ (OpenRows ∷ (OpenLog ∷ l))) (sym more));
      room = search rules;
      chunks = i.chunks;
      rows = i.rows;
      log = i.log;
      scanned = i.scanned;
    }

pub returns-then-is_open-clause-scanned : goal.returns-then-is_open-clause-scanned
returns-then-is_open-clause-scanned g c = c.loop-name.invariant.scanned

pub returns-else-is_open-clause-scanned : goal.returns-else-is_open-clause-scanned
returns-else-is_open-clause-scanned g c = c.loop-name.invariant.scanned
