use Rattle.std.proofs.Common.{ℕ, ◌^◌, ap, arith}
use Rattle.heap_map.proofs.Powers.{pow_pos}
use Rattle.heap_map.proofs.Ranges.{looked_at, of_cell}
use Rattle.heap_map.proofs.dumped_cells.is_built.Goals as goal

pub returns-clause-none : goal.returns-clause-none
returns-clause-none c = λ no p lt same.
    let power = ap (λ (n : ℕ). 2 ^ n) c.from.ensures in
    let at = looked_at p (2 ^ c.args.k) c.args.cell c.saturating_pow-step.result c.saturating_mul-begin.result c.min.result c.args.pages (pow_pos c.args.k) (omega (arith, power, c.saturating_pow-step.ensures)) c.saturating_mul-begin.ensures (omega (arith, c.saturating_add.ensures, c.min.ensures)) c.requires.few lt same in
    c.any_built.ensures.none no p at.0 at.1

pub returns-clause-some : goal.returns-clause-some
returns-clause-some c = λ yes.
    let found = c.any_built.ensures.some yes in
    let power = ap (λ (n : ℕ). 2 ^ n) c.from.ensures in
    (found.0, omega (arith, found.2, c.min.ensures), of_cell found.0 (2 ^ c.args.k) c.args.cell c.saturating_pow-step.result c.saturating_mul-begin.result c.min.result c.args.pages (pow_pos c.args.k) (omega (arith, power, c.saturating_pow-step.ensures)) c.saturating_mul-begin.ensures (omega (arith, c.saturating_add.ensures, c.min.ensures)) c.requires.few found.1 found.2, found.3)
