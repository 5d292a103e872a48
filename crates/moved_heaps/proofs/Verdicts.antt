-- Why a moved heap has one first fault.
use Rattle.std.proofs.Common.{◌≡◌, ◌≢◌, ℕ, ◌<◌, ◌≤◌, length, inl, inr, refl, sym, ap₂, subst, arith, rules}
use Rattle.std.proofs.lemmas.Bool.{cases_lt}
use Rattle.heap_layout.specs.Heap.{Heap}
use Rattle.moved_heaps.specs.Moved.{Moved, IsWhole, IsWord, size_at}
use Rattle.moved_heaps.specs.MovedFaults.{IsFirstFault, IsLeast}
use Rattle.moved_heaps.specs.declared.fault.HeadPart.TheVariants.{Edition, Places, Roots}
use Rattle.moved_heaps.specs.declared.fault.MovedFault.{MovedFault}
use Rattle.moved_heaps.specs.declared.fault.MovedFault.TheVariants.{WrongHead, PlaceOutside, Overlap, WrongRoot, WrongWord, OutOfMemory}

-- the least number below a count for which something does not hold is one
least_once : (Holds : ℕ → Type 0) (count j k : ℕ) → IsLeast Holds count j → IsLeast Holds count k → j ≡ k
least_once Holds count j k x y =
    elim (cases_lt j k) [
      | inl below ↦ absurd (x.fails (y.before j below))
      | inr above ↦ elim (cases_lt k j) [
        | inl under ↦ absurd (y.fails (x.before k under))
        | inr over ↦ omega (arith, above, over)
      ]
    ]

module _ (heap : Heap) (moved : Moved) where
  -- by the first of the two faults
  edition_first : (other : MovedFault) → IsFirstFault heap moved (WrongHead Edition) → IsFirstFault heap moved other → other ≢ OutOfMemory → WrongHead Edition ≡ other
  edition_first other first second more = search rules

  places_first : (other : MovedFault) → IsFirstFault heap moved (WrongHead Places) → IsFirstFault heap moved other → other ≢ OutOfMemory → WrongHead Places ≡ other
  places_first other first second more = search rules

  roots_first : (other : MovedFault) → IsFirstFault heap moved (WrongHead Roots) → IsFirstFault heap moved other → other ≢ OutOfMemory → WrongHead Roots ≡ other
  roots_first other first second more = search rules

  outside_first : (k : ℕ) (other : MovedFault) → IsFirstFault heap moved (PlaceOutside k) → IsFirstFault heap moved other → other ≢ OutOfMemory → PlaceOutside k ≡ other
  outside_first k other first second more = search rules

  overlap_first : (k l : ℕ) (other : MovedFault) → IsFirstFault heap moved (Overlap k l) → IsFirstFault heap moved other → other ≢ OutOfMemory → Overlap k l ≡ other
  overlap_first k l other first second more = search rules

  root_first : (i : ℕ) (other : MovedFault) → IsFirstFault heap moved (WrongRoot i) → IsFirstFault heap moved other → other ≢ OutOfMemory → WrongRoot i ≡ other
  root_first i other first second more = search rules

  word_first : (k offset : ℕ) (other : MovedFault) → IsFirstFault heap moved (WrongWord k offset) → IsFirstFault heap moved other → other ≢ OutOfMemory → WrongWord k offset ≡ other
  word_first k offset (WrongHead Edition) first second more = absurd (second first.0.overlaps.places.head.edition)
  word_first k offset (WrongHead Places) first second more = absurd (second.1 first.0.overlaps.places.head.places)
  word_first k offset (WrongHead Roots) first second more = absurd (second.2 first.0.overlaps.places.head.roots)
  word_first k offset (PlaceOutside a) first second more = let least = second.1 in absurd (least.fails (first.0.overlaps.places.inside a least.below))
  word_first k offset (Overlap a b) first second more = let least = second.1 in absurd (first.0.overlaps.none a b least.overlaps)
  word_first k offset (WrongRoot a) first second more = let least = second.1 in absurd (least.fails (first.0.roots a least.below))
  word_first k offset (WrongWord a b) first second more =
      let same = least_once (IsWhole heap moved) (length heap.marks) k a first.1 second.1 in
      let there : IsLeast (IsWord heap moved k) (size_at heap k) b = subst (λ (m : ℕ). IsLeast (IsWord heap moved m) (size_at heap m) b) (sym same) second.2 in
      ap₂ WrongWord same (least_once (IsWord heap moved k) (size_at heap k) offset b first.2 there)
  word_first k offset OutOfMemory first second more = absurd (more refl)

pub one_first : (heap : Heap) (moved : Moved) (fault other : MovedFault) → IsFirstFault heap moved fault → IsFirstFault heap moved other → fault ≢ OutOfMemory → other ≢ OutOfMemory → fault ≡ other
one_first heap moved (WrongHead Edition) other first second some more = edition_first heap moved other first second more
one_first heap moved (WrongHead Places) other first second some more = places_first heap moved other first second more
one_first heap moved (WrongHead Roots) other first second some more = roots_first heap moved other first second more
one_first heap moved (PlaceOutside k) other first second some more = outside_first heap moved k other first second more
one_first heap moved (Overlap k l) other first second some more = overlap_first heap moved k l other first second more
one_first heap moved (WrongRoot i) other first second some more = root_first heap moved i other first second more
one_first heap moved (WrongWord k offset) other first second some more = word_first heap moved k offset other first second more
one_first heap moved OutOfMemory other first second some more = absurd (some refl)
