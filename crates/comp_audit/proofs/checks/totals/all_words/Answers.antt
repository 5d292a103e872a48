use Rattle.std.proofs.Common.{ℕ, ◌+◌, length, get_or, None, ap, ◌∙◌, arith}
use Rattle.comp_audit.proofs.Entries.{few_at, words_next}
use Rattle.comp_audit.proofs.checks.totals.all_words.Goals as goal

pub words_on-requires : goal.words_on-requires
words_on-requires c =
    let few = few_at (get_or c.args.records.now c.loop-p.p None) (c.requires.pages c.loop-p.p None (omega arith)) in
    omega (arith, few, ap length c.journal_of.ensures)

pub loop-p-preserved : goal.loop-p-preserved
loop-p-preserved c =
    let i = c.loop-p.invariant in
    record {
      words = words_next c.args.edition c.args.records.now c.loop-p.p c.journal_of.result.now c.loop-p.words _ c.journal_of.ensures i.words
          (ap (λ (n : ℕ). c.loop-p.words + n) (c.from-words.ensures ∙ c.words_on.ensures.words));
      few = omega (arith, i.few, c.words_on.ensures.few, c.from-words.ensures);
    }
