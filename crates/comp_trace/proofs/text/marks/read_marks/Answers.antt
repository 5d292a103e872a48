use Rattle.std.proofs.Common.{List, ℕ, ◌+◌, ◌∙◌, ap, arith, rules, sym}
use Rattle.comp_trace.specs.Grammar.{parts}
use Rattle.comp_trace.specs.MarksText.{marks_from}
use Rattle.comp_trace.proofs.Marked.{behind, mark_less, one_more, one_refused}
use Rattle.comp_trace.proofs.text.marks.read_marks.Goals as goal

pub returns-in_default-clause-cause : goal.returns-in_default-clause-cause
returns-in_default-clause-cause c =
    c.loop-rest.invariant.read ∙ one_refused c.loop-rest.n c.loop-rest.rest.now c.loop-rest.marks.items (search rules) c.in_default.ensures.none

pub loop-rest-preserved : goal.loop-rest-preserved
loop-rest-preserved c =
    let mark = c.in-Some.mark in let more = c.in-Some.more.now in
    record {
      read = c.loop-rest.invariant.read ∙ one_more c.loop-rest.n c.loop-rest.rest.now more c.loop-rest.marks.items mark c.in-Some.ensures.some
          ∙ ap (λ (ms : List ℕ). behind ms (marks_from (c.loop-rest.n + 1) (parts 10 more))) (sym c.in_ok-push.ensures.items);
      count = omega (arith, c.loop-rest.invariant.count, mark_less c.loop-rest.rest.now mark more c.in-Some.ensures.some);
    }
