-- Places of objects some of which stay.
use Rattle.std.proofs.Common.{◌≡◌, ℕ, zero, suc, ◌+◌, ◌-◌, ◌<◌, ◌≤◌, Bool, true, false, cond, List, [], ◌∷◌, length, get_or, take, refl, sym, ap, subst, ◌∙◌, arith}
use Rattle.heap_layout.specs.Heap.{Object}
use Rattle.mark_tables.specs.LiveWords.{size, live_words}
use Rattle.page_plan.proofs.Covering.{live_words-cons}
use Rattle.pinned_heap.specs.Pins.{gaps_from, indices_of, places_from, AreAtMost, AreInOrder, AreRising, IsPlacement}

-- one object
start-bounds : (stays : Bool) (index next : ℕ) → next ≤ index → (next ≤ cond stays index next) × (cond stays index next ≤ index) × (stays ≡ true → cond stays index next ≡ index)
start-bounds true index next below = (below, omega arith, λ _. refl)
start-bounds false index next below = (omega arith, below, λ no. absurd (let none : false ≡ true = no in cc))

start-least : (stays : Bool) (index next place : ℕ) → next ≤ place → (stays ≡ true → place ≡ index) → cond stays index next ≤ place
start-least true index next place below pinned = let same = pinned refl in omega (arith, same)
start-least false index next place below pinned = below

start-sum : (stays : Bool) (index live gap : ℕ) → live + gap ≤ index → cond stays index (live + gap) ≡ live + cond stays (index - live) gap
start-sum true index live gap below = omega (arith, below)
start-sum false index live gap below = refl

gap-bounds : (stays : Bool) (index live gap : ℕ) → live + gap ≤ index → (gap ≤ cond stays (index - live) gap) × (live + cond stays (index - live) gap ≤ index)
gap-bounds true index live gap below = (omega (arith, below), omega (arith, below))
gap-bounds false index live gap below = (omega arith, below)

-- all of them
pub placed : (staying : ℕ → Bool) (low next : ℕ) (objects : List Object) → AreInOrder low objects → next ≤ low → IsPlacement staying next objects (places_from staying next objects)
placed staying low next [] order below = tt
placed staying low next (object ∷ objects) order below =
    let at = start-bounds (staying object.index) object.index next (omega (arith, order.0, below)) in
    let start = cond (staying object.index) object.index next in
    let ends : start + size object ≤ object.index + size object = omega (arith, at.1) in
    (at.0, at.2, placed staying (object.index + size object) (start + size object) objects order.1 ends)

pub moved-down : (staying : ℕ → Bool) (low next : ℕ) (objects : List Object) → AreInOrder low objects → next ≤ low → AreAtMost (places_from staying next objects) (indices_of objects)
moved-down staying low next [] order below = tt
moved-down staying low next (object ∷ objects) order below =
    let at = start-bounds (staying object.index) object.index next (omega (arith, order.0, below)) in
    let start = cond (staying object.index) object.index next in
    let ends : start + size object ≤ object.index + size object = omega (arith, at.1) in
    (at.1, moved-down staying (object.index + size object) (start + size object) objects order.1 ends)

pub least : (staying : ℕ → Bool) (low next : ℕ) (objects : List Object) (places : List ℕ) → IsPlacement staying low objects places → next ≤ low
    → AreAtMost (places_from staying next objects) places
least staying low next [] [] is below = tt
least staying low next [] (place ∷ places) is below = absurd is
least staying low next (object ∷ objects) [] is below = absurd is
least staying low next (object ∷ objects) (place ∷ places) is below =
    let start = cond (staying object.index) object.index next in
    let lower : start ≤ place = start-least (staying object.index) object.index next place (omega (arith, is.0, below)) is.1 in
    let ends : start + size object ≤ place + size object = omega (arith, lower) in
    (lower, least staying (place + size object) (start + size object) objects places is.2 ends)

pub unpinned : (next : ℕ) (objects : List Object) (k : ℕ) → k < length objects → get_or (places_from (λ _. false) next objects) k 0 ≡ next + live_words (take k objects)
unpinned next [] k lt = absurd (omega arith)
unpinned next (object ∷ objects) zero lt = omega arith
unpinned next (object ∷ objects) (suc k) lt =
    let rest = unpinned (next + size object) objects k (omega arith) in
    let first = live_words-cons object (take k objects) in
    omega (arith, rest, first)

pub sums : (staying : ℕ → Bool) (low live gap : ℕ) (objects : List Object) (k : ℕ) → AreInOrder low objects → live + gap ≤ low → k < length objects
    → get_or (places_from staying (live + gap) objects) k 0 ≡ live + live_words (take k objects) + get_or (gaps_from staying live gap objects) k 0
sums staying low live gap [] k order below lt = absurd (omega arith)
sums staying low live gap (object ∷ objects) zero order below lt =
    let start = start-sum (staying object.index) object.index live gap (omega (arith, order.0, below)) in
    omega (arith, start)
sums staying low live gap (object ∷ objects) (suc k) order below lt =
    let inside : live + gap ≤ object.index = omega (arith, order.0, below) in
    let more = cond (staying object.index) (object.index - live) gap in
    let start = start-sum (staying object.index) object.index live gap inside in
    let bounds = gap-bounds (staying object.index) object.index live gap inside in
    let ends : live + size object + more ≤ object.index + size object = omega (arith, bounds.1) in
    let rest = sums staying (object.index + size object) (live + size object) more objects k order.1 ends (omega arith) in
    let next : cond (staying object.index) object.index (live + gap) + size object ≡ live + size object + more = omega (arith, start) in
    let first = live_words-cons object (take k objects) in
    ap (λ (n : ℕ). get_or (places_from staying n objects) k 0) next ∙ omega (arith, rest, first)

pub rising : (staying : ℕ → Bool) (low live gap : ℕ) (objects : List Object) → AreInOrder low objects → live + gap ≤ low → AreRising gap (gaps_from staying live gap objects)
rising staying low live gap [] order below = tt
rising staying low live gap (object ∷ objects) order below =
    let bounds = gap-bounds (staying object.index) object.index live gap (omega (arith, order.0, below)) in
    let more = cond (staying object.index) (object.index - live) gap in
    let ends : live + size object + more ≤ object.index + size object = omega (arith, bounds.1) in
    (bounds.0, rising staying (object.index + size object) (live + size object) more objects order.1 ends)
