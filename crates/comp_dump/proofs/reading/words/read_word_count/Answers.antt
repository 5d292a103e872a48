use Rattle.std.proofs.Common.{ℕ, ◌≤◌, IfOk, IfErr, subst}
use Rattle.heap_layout.specs.Counted.{inner_of}
use Rattle.comp_dump.specs.DumpReading.{number, Stops}
use Rattle.comp_dump.proofs.reading.words.read_word_count.Goals as goal

pub returns-clause-within : goal.returns-clause-within
returns-clause-within g c = subst (λ (most : ℕ). IfOk c.read_four.result (λ n. (0 ≤ n) × (n ≤ most))) c.max_words.ensures c.read_four.ensures.within

pub returns-clause-cause : goal.returns-clause-cause
returns-clause-cause g c = subst (λ (most : ℕ). IfErr c.read_four.result (Stops (number 4 0 most) (g.R.Read.remaining (inner_of c.args.r.now)))) c.max_words.ensures c.read_four.ensures.cause
