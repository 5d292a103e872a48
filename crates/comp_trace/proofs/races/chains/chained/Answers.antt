use Rattle.std.proofs.Common.{◌≡◌, ℕ, ◌+◌, ◌-◌, length, drop, get_or, ap, subst, ◌∙◌, arith}
use Rattle.std.proofs.lemmas.List.{get_or-replicate, length-replicate, length-drop}
use Rattle.comp_trace.proofs.ChainedLines.{chained_more, chained_none, few_own, ChainedFrom}
use Rattle.comp_trace.proofs.Elements.{at_or}
use Rattle.comp_trace.specs.declared.text.line.Line.{Line}
use Rattle.comp_trace.specs.declared.text.line.Action.TheVariants.{Root}
use Rattle.comp_trace.proofs.races.chains.chained.Goals as goal

-- a line that stands for none
abbrev no_line : Line
no_line = record { mutator = 0; action = Root 0 0 }

pub loop-position-init : goal.loop-position-init
loop-position-init c =
    let n = length c.args.lines.now in
    let long = ap length (c.in_ok-nexts.ensures.items_if_clones_equal (λ y same. same)) ∙ length-replicate {A = ℕ} n 0 in
    chained_none c.args.lines.now _ _ _ (length-replicate {A = ℕ} 256 n, length-replicate {A = ℕ} 256 0) long (λ i lt. get_or-replicate {A = ℕ} 256 i n 0 lt) (λ i lt. get_or-replicate {A = ℕ} 256 i 0 0 lt)

pub loop-position-preserved : goal.loop-position-preserved
loop-position-preserved c =
    let l = c.loop-position in
    let lines = c.args.lines.now in
    let k = l.position - 1 in
    let line = get_or lines k no_line in
    let one : l.position ≡ k + 1 = omega (arith, c.loop-position-test.true) in
    let at = at_or lines k no_line (omega (arith, one, l.invariant.within)) in
    chained_more lines k line at l.firsts l.counts l.nexts.items (omega (arith, c.loop-position-test.element_fits.fits)) (subst (λ (p : ℕ). ChainedFrom lines p l.firsts l.counts l.nexts.items) one l.invariant)

-- a mutator has no more lines than there are
pub overflow_add-counts : goal.overflow_add-counts
overflow_add-counts c =
    let l = c.loop-position in
    let lines = c.args.lines.now in
    let k = l.position - 1 in
    let number = (get_or lines k no_line).mutator in
    let counted = l.invariant.count number (omega (arith, c.loop-position-test.element_fits.fits)) in
    omega (arith, counted, few_own number (l.position + 1) (drop l.position lines), length-drop l.position lines)
