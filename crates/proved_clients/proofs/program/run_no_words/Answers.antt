use Rattle.std.proofs.Common.{map, ap}
use Rattle.std.specs.String.{string_bytes}
use Rattle.proved_clients.proofs.NoWords.{unanswered_if_empty}
use Rattle.proved_clients.proofs.program.run_no_words.Goals as goal

pub returns : goal.returns
returns g c = record {
  undone = λ done. unanswered_if_empty _ (g.O.Write.contents c.args.out.now) (g.O.Write.contents c.run.new.out) (ap (map string_bytes) c.new.ensures.items) (c.run.ensures.done done);
  kept = c.run.ensures.misused;
}
