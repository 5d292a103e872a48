use Rattle.std.proofs.Common.{◌≡◌, ◌+◌, true, ap, ◌∙◌, arith}
use Rattle.heap_layout.specs.Bits.{bit}
use Rattle.heap_layout.specs.Header.{size_of}
use Rattle.heap_layout.specs.Heap.{header_at}
use Rattle.young_heap.proofs.Gathering.{owner-from, start-behind}
use Rattle.young_heap.proofs.remembering.owner_of.Goals as goal

pub returns-then-j-owner-clause-owner : goal.returns-then-j-owner-clause-owner
returns-then-j-owner-clause-owner c = λ row is.
    let e = c.args.edition in
    let words = c.args.words.now in
    let starts = c.args.starts.now in
    let old = c.args.old in
    let end : c.args.j ≡ c.args.owner.start + size_of (header_at e words c.args.owner.start) = omega (arith, c.if-j-owner.true, is.ends) in
    let set : bit starts c.args.j ≡ true =
    ap (bit starts) end ∙ start-behind e words starts old row c.args.owner.start is.low is.start (omega (arith, end, c.requires.low)) in
    owner-from e words starts old c.owner_at.result c.args.j c.owner_at.ensures.same c.owner_at.ensures.last_ref c.owner_at.ensures.last_weak c.owner_at.ensures.ends c.requires.low set
