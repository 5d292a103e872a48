-- How many object numbers are given out, and that they are no immediates.
use Rattle.std.proofs.Common.{◌≡◌, ◌≢◌, ℕ, ◌+◌, ◌*◌, ◌^◌, ◌<◌, ◌≤◌, List, [], ◌∷◌, length, refl, sym, subst, arith}
use Rattle.heap_layout.specs.declared.edition.Edition.{Edition}
use Rattle.heap_layout.specs.declared.edition.Edition.TheVariants.{One, Two, Three, Four}
use Rattle.heap_layout.specs.declared.kind.Kind.{Kind}
use Rattle.heap_layout.specs.declared.kind.Kind.TheVariants.{Header, Reference, Weak, Data}
use Rattle.heap_layout.specs.Heap.{Heap, IsClosed}
use Rattle.heap_layout.proofs.Bounds.{words_most}
use Rattle.page_plan.specs.Sliding.{to_address}
use Rattle.comp_journal.specs.declared.entry.Entry.{Entry}
use Rattle.comp_history.specs.Merged.{history, CanMerge}
use Rattle.comp_history.specs.Setup.{Setup, pages}
use Rattle.comp_history.specs.MadeWords.{allocated, words_by}
use Rattle.comp_history.specs.OneThread.{address_of}
use Rattle.comp_history.proofs.Fitting.{objects_fit}
use Rattle.comp_cycles.specs.declared.finished.Finished.{Finished}
use Rattle.comp_cycles.specs.Cycles.{Cycle, entries_of, given_after, given_left, heap_after, roots_after, AreApart, Follow, IsCycleOf, IsLow}
use Rattle.comp_cycles.specs.Ends.{setup_in, IsEndOf}
use Rattle.comp_cycles.specs.Finishes.{pages_of}
use Rattle.comp_cycles.specs.NumberedHeaps.{made_at, made_by}
use Rattle.comp_cycles.proofs.Immediates.{not-immediate}
use Rattle.comp_cycles.proofs.Refusals.{few_pages}
use Rattle.comp_cycles.proofs.Rows.{next_closed, next_long}

-- the other editions have no immediates
pub others-apart : (edition : Edition) (n : ℕ) → edition ≢ Four → AreApart edition n
others-apart One n other k le = refl
others-apart Two n other k le = refl
others-apart Three n other k le = refl
others-apart Four n other k le = absurd (other refl)

-- small numbers are no immediates
pub small-apart : (edition : Edition) (n : ℕ) → n < 2 ^ 63 → AreApart edition n
small-apart edition n small k le = not-immediate edition k (omega (arith, small, le))

-- ---- numbers of one cycle

-- each entry that makes an object allocates a word at least
made-few-by : (edition : Edition) (k : Kind) (a value : ℕ) (later : List ℕ) (words : ℕ) → length later ≤ words → length (made_by k a later) ≤ words_by edition k value + words
made-few-by edition Header a value later words few = omega (arith, few)
made-few-by edition Reference a value later words few = omega (arith, few)
made-few-by edition Weak a value later words few = omega (arith, few)
made-few-by edition Data a value later words few = omega (arith, few)

made-few : (edition : Edition) (xs : List (ℕ × Entry)) → length (made_at xs) ≤ allocated edition xs
made-few edition [] = omega arith
made-few edition (x ∷ xs) = made-few-by edition x.1.kind (address_of x) x.1.value (made_at xs) (allocated edition xs) (made-few edition xs)

-- the objects that a cycle makes fit on the fresh pages
made-fit : (c : Cycle) → CanMerge c.setup c.journals → allocated c.setup.heap.edition (entries_of c) ≤ 64 * c.setup.fresh
unfolding history
made-fit c can = objects_fit c.setup c.journals can

-- a cycle gives out a number for each new object, which has a word at least on a fresh page
pub given-few : (c : Cycle) (given : ℕ) → CanMerge c.setup c.journals → given_after c given ≤ given + 64 * c.setup.fresh
given-few c given can =
    let fit = made-fit c can in
    let few = made-few c.setup.heap.edition (entries_of c) in
    omega (arith, fit, few)

-- ---- addresses

-- a cycle that can be followed by another has few pages
pages-few : (heap : Heap) (c : Cycle) → IsClosed heap → IsCycleOf heap c → 64 * pages c.setup ≤ 2 ^ 31
pages-few heap c closed is =
    let own = subst IsClosed (sym is.heap_is) closed in
    let next = next_closed c.setup c.journals own is.merges (roots_after c) c.marks is.accepted in
    let few = next.few_words in
    let long = next_long c.setup c.journals own is.merges (roots_after c) c.marks in
    omega (arith, few, long, words_most c.setup.heap.edition)

pub cycle-low : (heap : Heap) (c : Cycle) → IsClosed heap → IsCycleOf heap c → IsLow c
cycle-low heap c closed is =
    let few = pages-few heap c closed is in
    small-apart c.setup.heap.edition (to_address (64 * pages c.setup)) (omega (arith, few))

pub end-low : (heap : Heap) (f : Finished) (c : Cycle) → IsEndOf heap f → c.setup ≡ setup_in heap f → IsLow c
end-low heap f c e same =
    let few = few_pages heap f [] [] e in
    let count : length (pages_of f) ≡ pages (setup_in heap f) = e.finished.pages.count in
    subst (λ (u : Setup). AreApart u.heap.edition (to_address (64 * pages u))) (sym same)
    (small-apart heap.edition (to_address (64 * pages (setup_in heap f))) (omega (arith, few, count)))

-- ---- numbers of a life

-- the next heap of a cycle is closed
after-closed : (heap : Heap) (c : Cycle) → IsClosed heap → IsCycleOf heap c → IsClosed (heap_after c)
after-closed heap c closed is = next_closed c.setup c.journals (subst IsClosed (sym is.heap_is) closed) is.merges (roots_after c) c.marks is.accepted

-- each cycle gives out 2^31 numbers at most
pub left-few : (heap last : Heap) (cycles : List Cycle) (given : ℕ) → IsClosed heap → Follow heap cycles last → given_left cycles given ≤ given + 2 ^ 31 * length cycles
left-few heap last [] given closed follow = omega arith
left-few heap last (c ∷ cs) given closed follow =
    let few = given-few c given follow.0.merges in
    let small = pages-few heap c closed follow.0 in
    let rest = left-few (heap_after c) last cs (given_after c given) (after-closed heap c closed follow.0) follow.1 in
    omega (arith, few, small, rest)

pub life-apart : (heap last : Heap) (cycles : List Cycle) → IsClosed heap → Follow heap cycles last → length cycles < 2 ^ 31 → AreApart heap.edition (given_left cycles (length heap.marks))
life-apart heap last cycles closed follow few =
    let marks = closed.few_marks in
    let most = left-few heap last cycles (length heap.marks) closed follow in
    small-apart heap.edition (given_left cycles (length heap.marks)) (omega (arith, few, marks, most, words_most heap.edition))
