use Rattle.std.proofs.Common.{◌≡◌, rules, refl, ap, subst, sym, List, String, Global, map, ◌∙◌}
use Rattle.std.specs.String.{string_bytes}
use Rattle.heap_layout.specs.Counted.{inner_of}
use Rattle.commands.specs.Tasks.{HasAnswered}
use Rattle.commands.proofs.Answered.{done_by}
use Rattle.commands.proofs.Reasons.{reason_of}
use Rattle.commands.proofs.running.run.Goals as goal

pub returns-clause-done : goal.returns-clause-done
returns-clause-done g c = λ zero.
    let words : c.deref.result.now ≡ c.args.words.items = search rules in
    let before = g.O.Write.contents (inner_of c.new-out.result).now in
    let after = g.O.Write.contents (inner_of c.answer-answered.new.out).now in
    let of_words = done_by _ _ (λ files. files.failures) (λ files. files.latest) (λ file. file.beside) c.new.result c.new.result c.answer-answered.new.files before after (map string_bytes c.deref.result.now) c.answer-answered.result c.answer-answered.ensures.done (sym c.respond.ensures.status ∙ zero) in
    let h = subst (λ (xs : List (String Global)). HasAnswered (map string_bytes xs) before after) words of_words in
    let inner = c.new-out.ensures.inner in
    let begun = rw inner at h in
    let same = c.answer-answered.ensures.same_writer in
    let writer = rw inner at same in
    rw (c.out-2-1.given.1 (sym writer)) begun

pub returns-clause-refused : goal.returns-clause-refused
returns-clause-refused g c = λ one.
    let words : c.deref.result.now ≡ c.args.words.items = search rules in
    let inner = c.new-out.ensures.inner in
    let before : g.O.Write.contents (inner_of c.new-out.result).now ≡ g.O.Write.contents c.args.out.now = rw inner refl in
    let after = g.O.Write.contents (inner_of c.answer-answered.new.out).now in
    let same = c.answer-answered.ensures.same_writer in
    let writer = rw inner at same in
    rw (c.out-2-1.given.1 (sym writer)) (reason_of (λ files. files.failures) (λ files. files.latest) (λ file. file.beside) c.new.result c.new.result c.answer-answered.new.files
    _ _ _ (g.O.Write.contents c.args.out.now) after (map string_bytes c.deref.result.now) (map string_bytes c.args.words.items) _ _ _ _ c.answer-answered.result
    (ap (λ (xs : List (String Global)). map string_bytes xs) words) before c.new-out.ensures.none c.answer-answered.ensures.cause c.respond.ensures.said (sym c.respond.ensures.status ∙ one))
