-- A survey with ephemerons and guardians: what only guarded words hold is told apart, and is held all the same.
use Rattle.std.specs.Prelude.{◌≡◌, ℕ, ◌+◌, ◌<◌, ◌⊎◌, Bool, not, List, ◌++◌, length, filter, slice_index}
use Rattle.std.specs.List.{range_with_len}
use Rattle.heap_layout.specs.declared.edition.Edition.{Edition}
use Rattle.heap_layout.specs.Heap.{from_address, is_value}
use Rattle.heap_layout.specs.Limits.{most_words, most_roots}
use Rattle.reachability.specs.Queue.{has}
use Rattle.stopped_heap.specs.Ephemerons.{AreHeld, IsHeldFaultOf}
use Rattle.rest_marks.specs.Growing.{roots_on}
use Rattle.rest_marks.specs.Reached.{AreFew, IsStray}
use Rattle.rest_marks.specs.declared.fault.SurveyFault.{SurveyFault}
use Rattle.rest_marks.specs.declared.fault.SurveyFault.TheVariants.{TooLarge, BadRoot, BadReference, BadWeak, ObjectTooLong, ObjectPastEnd, Overlap, OutOfMemory}

-- the indices of the words whose addresses are among the roots, rising
abbrev pub rooted : List ℕ → List ℕ → List ℕ
rooted words roots = filter (λ i. has roots (from_address i)) (range_with_len 0 (length words))

-- the objects at these indices are those that roots and ephemerons hold
abbrev pub AreHeldFrom : Edition → List ℕ → List ℕ → List ℕ → List ℕ → Type 0
AreHeldFrom edition words roots ephemerons marks = AreHeld edition words (rooted words roots) ephemerons marks

-- whether a word leads to no marked object, though it is neither null nor an immediate
abbrev pub is_lost : Edition → List ℕ → ℕ → Bool
is_lost edition marks word = not (is_value edition marks word)

-- The guarded words stand in another order: first the `lost` ones that lead to no object that roots and ephemerons hold
-- without them; then the other ones. Both are in the order that they had. The objects that are held are those at
-- `marks`.
pub record IsParting (edition : Edition) (words roots ephemerons before after : List ℕ) (lost : ℕ) (marks : List ℕ) : Type 0 where
  pub held : AreHeldFrom edition words roots ephemerons marks
  pub order : after ≡ filter (is_lost edition marks) before ++ filter (is_value edition marks) before
  pub count : lost ≡ length (filter (is_lost edition marks) before)

-- there are such marks, and only these
abbrev pub AreParted : Edition → List ℕ → List ℕ → List ℕ → List ℕ → List ℕ → ℕ → Type 0
AreParted edition words roots ephemerons before after lost =
    (marks : List ℕ) × IsParting edition words roots ephemerons before after lost marks

-- the fault is one of these words, of the objects that roots and ephemerons hold
abbrev pub IsFaultFrom : Edition → List ℕ → List ℕ → List ℕ → SurveyFault → Type 0
IsFaultFrom edition words roots ephemerons fault = IsHeldFaultOf edition words (rooted words roots) ephemerons fault

-- There are too many words, roots or guarded words; or there are not too many words and roots, and the fault is one of
-- these. A bad root is word k of the roots, the ephemerons and the guarded words, one behind the other. Each object of
-- another fault is held, by the guarded words too.
abbrev pub IsGuardedFaultOf : Edition → List ℕ → List ℕ → List ℕ → List ℕ → SurveyFault → Type 0
IsGuardedFaultOf edition words roots ephemerons guarded TooLarge =
    (most_words edition < length words) ⊎ ((most_roots edition < length roots) ⊎ (most_roots edition < length guarded))
IsGuardedFaultOf edition words roots ephemerons guarded (BadRoot k) =
    AreFew edition words roots × (k < length (roots ++ (ephemerons ++ guarded))) × IsStray edition words (slice_index (roots ++ (ephemerons ++ guarded)) k)
IsGuardedFaultOf edition words roots ephemerons guarded (BadReference j) = AreFew edition words roots × IsFaultFrom edition words (roots ++ guarded) ephemerons (BadReference j)
IsGuardedFaultOf edition words roots ephemerons guarded (BadWeak j) = AreFew edition words roots × IsFaultFrom edition words (roots ++ guarded) ephemerons (BadWeak j)
IsGuardedFaultOf edition words roots ephemerons guarded (ObjectTooLong i) = AreFew edition words roots × IsFaultFrom edition words (roots ++ guarded) ephemerons (ObjectTooLong i)
IsGuardedFaultOf edition words roots ephemerons guarded (ObjectPastEnd i) = AreFew edition words roots × IsFaultFrom edition words (roots ++ guarded) ephemerons (ObjectPastEnd i)
IsGuardedFaultOf edition words roots ephemerons guarded (Overlap i) = AreFew edition words roots × IsFaultFrom edition words (roots ++ guarded) ephemerons (Overlap i)
IsGuardedFaultOf edition words roots ephemerons guarded OutOfMemory = AreFew edition words roots

-- The fault of a survey that goes on from objects that were marked. A bad root is one of the more roots, or the value
-- of an ephemeron, numbered from `first` on.
abbrev pub IsOnFaultOf : Edition → List ℕ → List ℕ → List ℕ → List ℕ → ℕ → SurveyFault → Type 0
IsOnFaultOf edition words marks more ephemerons first TooLarge = most_roots edition < length more
IsOnFaultOf edition words marks more ephemerons first (BadRoot k) =
    ((k < length more) × IsStray edition words (slice_index more k))
    ⊎ ((n : ℕ) × (k ≡ first + n) × (n < length ephemerons) × IsStray edition words (slice_index ephemerons n))
IsOnFaultOf edition words marks more ephemerons first (BadReference j) = IsFaultFrom edition words (roots_on marks more) ephemerons (BadReference j)
IsOnFaultOf edition words marks more ephemerons first (BadWeak j) = IsFaultFrom edition words (roots_on marks more) ephemerons (BadWeak j)
IsOnFaultOf edition words marks more ephemerons first (ObjectTooLong i) = IsFaultFrom edition words (roots_on marks more) ephemerons (ObjectTooLong i)
IsOnFaultOf edition words marks more ephemerons first (ObjectPastEnd i) = IsFaultFrom edition words (roots_on marks more) ephemerons (ObjectPastEnd i)
IsOnFaultOf edition words marks more ephemerons first (Overlap i) = IsFaultFrom edition words (roots_on marks more) ephemerons (Overlap i)
IsOnFaultOf edition words marks more ephemerons first OutOfMemory = Unit {0}

-- a bad root is numbered from `first` on
abbrev pub numbered : ℕ → SurveyFault → SurveyFault
numbered first TooLarge = TooLarge
numbered first (BadRoot k) = BadRoot (first + k)
numbered first (BadReference j) = BadReference j
numbered first (BadWeak j) = BadWeak j
numbered first (ObjectTooLong i) = ObjectTooLong i
numbered first (ObjectPastEnd i) = ObjectPastEnd i
numbered first (Overlap i) = Overlap i
numbered first OutOfMemory = OutOfMemory
