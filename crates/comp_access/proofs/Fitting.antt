-- The words of a mutator's objects fit on the pages.
use Rattle.std.proofs.Common.{◌≡◌, ℕ, ◌+◌, ◌*◌, ◌/◌, ◌<◌, ◌≤◌, length, sum, subst, arith}
use Rattle.cell_steps.specs.Setup.{pages, Setup}
use Rattle.cell_steps.specs.Passes.{number_of, view_of}
use Rattle.comp_access.specs.Allocations.{Counts}
use Rattle.comp_access.specs.Hands.{made_of, pass_of}
use Rattle.comp_access.specs.declared.hand.Hand.{Hand}
use Rattle.comp_access.proofs.FillCounts.{few_own, sum_small}

-- a hand has allocated at most the words of all fresh pages that there may be
pub made_few : (hand : Hand) → made_of hand ≤ 67108864
made_few hand =
    let small : sum hand.fills.items ≤ length hand.fills.items * 64 = sum_small hand.fills.items hand.counts.small in
    let few = hand.counts.few in
    let bounded = hand.bounded in
    omega (arith, small, few, bounded)

-- the live words and the words of a hand's objects are within the words of all pages
pub made_fit : (u : Setup) (hand : Hand) (live words capacity : ℕ) → (view_of (pass_of hand)).about ≡ u → number_of (pass_of hand) < u.mutators → words ≡ live → u.compacted ≡ (live + 63) / 64
    → capacity ≡ 64 * pages u → words + made_of hand ≤ capacity
made_fit u hand live words capacity about numbered is slid all =
    let counts = subst (λ (w : Setup). Counts w hand.pass hand.fills.items) about hand.counts in
    let small : sum hand.fills.items ≤ length hand.fills.items * 64 = sum_small hand.fills.items counts.small in
    let few : length hand.fills.items ≤ u.fresh = few_own (number_of hand.pass) u.mutators u.fresh (length hand.fills.items) (omega (arith, numbered)) counts.there in
    let bounded = hand.bounded in
    omega (arith, small, few, is, slid, bounded, all)
