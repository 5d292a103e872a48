-- The verdict on the bytes of an image: their fault, or none if they are the image of an accepted heap. It is defined
-- stage by stage, as an image is read. At each stage the bytes decide whether to stop or to go on, so there is only one
-- verdict.
use Rattle.std.proofs.Common.{◌≡◌, ◌≢◌, ℕ, ◌^◌, ◌<◌, ◌≤◌, ◌⊎◌, inl, inr, Bool, true, false, leb, List, [], ◌∷◌, ◌++◌, length, take, Option, None, Some, refl, sym, ap, ◌∙◌, subst, arith, append_assoc, length-append}
use Rattle.std.proofs.lemmas.Bool.{leb-true}
use Rattle.std.proofs.lemmas.List.{take_at, append_cancel_left, append-nil}
use Rattle.heap_layout.specs.declared.edition.Edition.{Edition}
use Rattle.heap_layout.specs.Heap.{Heap, IsStored}
use Rattle.heap_layout.specs.Limits.{most_words, most_roots}
use Rattle.heap_layout.specs.Faults.{unless, part_faults, faults, IsFirst, IsAccepted}
use Rattle.heap_layout.proofs.Bounds.{words_most, roots_most}
use Rattle.heap_layout.specs.Encoding.{magic, version, counts, head, encoding, body_len, AreWithin, IsOver, Behind, RefusesBy, IsOfBytes}
use Rattle.heap_layout.specs.Versions.{IsRead}
use Rattle.heap_layout.specs.declared.fault.LayoutFault.{LayoutFault}
use Rattle.heap_layout.specs.declared.fault.LayoutFault.TheVariants.{TooLarge, ObjectPastEnd, ObjectTooLong, MarkNotStart, MarksNotRising, BadRoot, UnmarkedTarget, BadWeak, Truncated, TrailingBytes, BadMagic, OutOfMemory, Device}
use Rattle.heap_layout.proofs.PartFaults.{IsOfPart}
use Rattle.heap_layout.proofs.Injective.{body, length-body, encoding_is, bodies_same, counts_same, version_same}

-- the first fault of a list
abbrev pub first_of : List LayoutFault → Option LayoutFault
first_of [] = None
first_of (fault ∷ others) = Some fault

-- ---- the stages, the last one first

-- after the image of a heap: a byte more, or the end
abbrev AtEnd : Heap → Option LayoutFault → List ℕ → Type 0
AtEnd heap verdict bytes = ((0 < length bytes) × (verdict ≡ Some TrailingBytes)) ⊎ ((bytes ≡ []) × (verdict ≡ first_of (faults heap)))

-- after the head: all the numbers of a heap
pub record HasNumbers (edition : Edition) (words marks roots : ℕ) (verdict : Option LayoutFault) (bytes : List ℕ) : Type 0 where
  heap : Heap
  stored : IsStored heap
  of_edition : heap.edition ≡ edition
  of_words : length heap.words ≡ words
  of_marks : length heap.marks ≡ marks
  of_roots : length heap.roots ≡ roots
  rest : List ℕ
  same : bytes ≡ body heap ++ rest
  next : AtEnd heap verdict rest

-- after the head: too few bytes, or all the numbers of a heap
abbrev AtNumbers : Edition → ℕ → ℕ → ℕ → Option LayoutFault → List ℕ → Type 0
AtNumbers edition words marks roots verdict bytes =
    ((length bytes < body_len words marks roots) × (verdict ≡ Some Truncated)) ⊎ HasNumbers edition words marks roots verdict bytes

-- a count is above its limit, or all are within their limits
abbrev AtLimits : Edition → ℕ → ℕ → ℕ → Option LayoutFault → List ℕ → Type 0
AtLimits edition words marks roots verdict bytes =
    (IsOver edition words marks roots × (verdict ≡ Some TooLarge)) ⊎ (AreWithin edition words marks roots × AtNumbers edition words marks roots verdict bytes)

-- after the version: three counts
pub record HasCounts (edition : Edition) (verdict : Option LayoutFault) (bytes : List ℕ) : Type 0 where
  words : ℕ
  marks : ℕ
  roots : ℕ
  words_fit : words < 2 ^ 32
  marks_fit : marks < 2 ^ 32
  roots_fit : roots < 2 ^ 32
  rest : List ℕ
  same : bytes ≡ counts words marks roots ++ rest
  next : AtLimits edition words marks roots verdict rest

-- after the version: too few bytes, or three counts
abbrev AtCounts : Edition → Option LayoutFault → List ℕ → Type 0
AtCounts edition verdict bytes = ((length bytes < 12) × (verdict ≡ Some Truncated)) ⊎ HasCounts edition verdict bytes

-- after the magic: too few bytes, bytes that are no version, or the version of an edition and what follows
abbrev AtVersion : Bool → Option LayoutFault → List ℕ → Type 0
AtVersion large verdict bytes =
    ((length bytes < 4) × (verdict ≡ Some Truncated))
    ⊎ (((4 ≤ length bytes) × ((edition : Edition) → IsRead large edition → take 4 bytes ≢ version edition)) × (verdict ≡ Some BadMagic))
    ⊎ ((edition : Edition) × Behind (version edition) (AtCounts edition verdict) bytes × IsRead large edition)

-- too few bytes, bytes that are not `front`, or `front` and what follows
abbrev AtFront : List ℕ → (Option LayoutFault → List ℕ → Type 0) → Option LayoutFault → List ℕ → Type 0
AtFront front Next verdict bytes =
    ((length bytes < length front) × (verdict ≡ Some Truncated))
    ⊎ (((length front ≤ length bytes) × (take (length front) bytes ≢ front)) × (verdict ≡ Some BadMagic))
    ⊎ Behind front (Next verdict) bytes

-- the verdict on the bytes is this fault, or none
abbrev pub IsVerdict : Bool → Option LayoutFault → List ℕ → Type 0
IsVerdict large verdict bytes = AtFront magic (AtVersion large) verdict bytes

-- ---- one verdict at each stage

-- the bytes after an image have one verdict
end_agrees : (heap : Heap) (one other : Option LayoutFault) (bytes : List ℕ) → AtEnd heap one bytes → AtEnd heap other bytes → one ≡ other
end_agrees heap one other bytes (inl p) (inl q) = p.1 ∙ sym q.1
end_agrees heap one other bytes (inl p) (inr q) = absurd (omega (arith, p.0, ap length q.0))
end_agrees heap one other bytes (inr p) (inl q) = absurd (omega (arith, q.0, ap length p.0))
end_agrees heap one other bytes (inr p) (inr q) = p.1 ∙ sym q.1

-- if all numbers are there, the bytes are not too few
enough : (edition : Edition) (words marks roots : ℕ) (verdict : Option LayoutFault) (bytes : List ℕ) → HasNumbers edition words marks roots verdict bytes
    → length bytes < body_len words marks roots → ⊥
enough edition words marks roots verdict bytes has short =
    let long = ap length has.same ∙ length-append (body has.heap) has.rest in
    let whole = length-body has.heap in
    let w = has.of_words in
    let m = has.of_marks in
    let r = has.of_roots in
    omega arith

-- the bytes after the head have one verdict
numbers_agree : (edition : Edition) (words marks roots : ℕ) (one other : Option LayoutFault) (bytes : List ℕ) → AtNumbers edition words marks roots one bytes
    → AtNumbers edition words marks roots other bytes → one ≡ other
numbers_agree edition words marks roots one other bytes (inl p) (inl q) = p.1 ∙ sym q.1
numbers_agree edition words marks roots one other bytes (inl p) (inr q) = absurd (enough edition words marks roots other bytes q p.0)
numbers_agree edition words marks roots one other bytes (inr p) (inl q) = absurd (enough edition words marks roots one bytes p q.0)
numbers_agree edition words marks roots one other bytes (inr p) (inr q) =
    let found = bodies_same p.heap q.heap p.rest q.rest p.stored q.stored (p.of_edition ∙ sym q.of_edition) (p.of_words ∙ sym q.of_words) (p.of_marks ∙ sym q.of_marks) (p.of_roots ∙ sym q.of_roots)
    (sym p.same ∙ q.same) in
    let of_heap = subst (λ (heap : Heap). AtEnd heap other q.rest) (sym found.0) q.next in
    end_agrees p.heap one other p.rest p.next (subst (AtEnd p.heap other) (sym found.1) of_heap)

-- counts are not both above a limit and within the limits
not_both : (edition : Edition) (words marks roots : ℕ) → IsOver edition words marks roots → AreWithin edition words marks roots → ⊥
not_both edition words marks roots over within =
    elim over.over [
      | inl w ↦ omega (arith, w, within.few_words)
      | inr rest ↦ elim rest [ inl m ↦ omega (arith, m, within.few_marks) | inr r ↦ omega (arith, r, within.few_roots) ]
    ]

-- the counts and the bytes after them have one verdict
limits_agree : (edition : Edition) (words marks roots : ℕ) (one other : Option LayoutFault) (bytes : List ℕ) → AtLimits edition words marks roots one bytes
    → AtLimits edition words marks roots other bytes → one ≡ other
limits_agree edition words marks roots one other bytes (inl p) (inl q) = p.1 ∙ sym q.1
limits_agree edition words marks roots one other bytes (inl p) (inr q) = absurd (not_both edition words marks roots p.0 q.0)
limits_agree edition words marks roots one other bytes (inr p) (inl q) = absurd (not_both edition words marks roots q.0 p.0)
limits_agree edition words marks roots one other bytes (inr p) (inr q) = numbers_agree edition words marks roots one other bytes p.1 q.1

-- the bytes after the version have one verdict
counts_agree : (edition : Edition) (bytes : List ℕ) (one other : Option LayoutFault) → AtCounts edition one bytes → AtCounts edition other bytes → one ≡ other
counts_agree edition bytes one other (inl p) (inl q) = p.1 ∙ sym q.1
counts_agree edition bytes one other (inl p) (inr q) = absurd (omega (arith, p.0, ap length q.same))
counts_agree edition bytes one other (inr p) (inl q) = absurd (omega (arith, q.0, ap length p.same))
counts_agree edition bytes one other (inr p) (inr q) =
    let found = counts_same p.words p.marks p.roots q.words q.marks q.roots p.rest q.rest p.words_fit p.marks_fit p.roots_fit q.words_fit q.marks_fit q.roots_fit
    (sym p.same ∙ q.same) in
    let of_words = subst (λ (n : ℕ). AtLimits edition n q.marks q.roots other q.rest) (sym found.0) q.next in
    let of_marks = subst (λ (n : ℕ). AtLimits edition p.words n q.roots other q.rest) (sym found.1) of_words in
    let of_roots = subst (λ (n : ℕ). AtLimits edition p.words p.marks n other q.rest) (sym found.2) of_marks in
    limits_agree edition p.words p.marks p.roots one other p.rest p.next (subst (AtLimits edition p.words p.marks p.roots other) (sym found.3) of_roots)

-- if bytes begin with `front`, it is their front
front_is : (front rest bytes : List ℕ) → bytes ≡ front ++ rest → take (length front) bytes ≡ front
front_is front rest bytes same = ap (take (length front)) same ∙ take_at front rest (length front) refl

-- bytes that begin with a front have one verdict, if the bytes after it have
front_agrees : (front : List ℕ) (Next : Option LayoutFault → List ℕ → Type 0)
    → ((rest : List ℕ) (one other : Option LayoutFault) → Next one rest → Next other rest → one ≡ other)
    → (bytes : List ℕ) (one other : Option LayoutFault) → AtFront front Next one bytes → AtFront front Next other bytes → one ≡ other
front_agrees front Next agree bytes one other (inl p) (inl q) = p.1 ∙ sym q.1
front_agrees front Next agree bytes one other (inl p) (inr (inl q)) = absurd (omega (arith, p.0, q.0.0))
front_agrees front Next agree bytes one other (inl p) (inr (inr q)) = absurd (omega (arith, p.0, ap length q.1 ∙ length-append front q.0))
front_agrees front Next agree bytes one other (inr (inl p)) (inl q) = absurd (omega (arith, q.0, p.0.0))
front_agrees front Next agree bytes one other (inr (inl p)) (inr (inl q)) = p.1 ∙ sym q.1
front_agrees front Next agree bytes one other (inr (inl p)) (inr (inr q)) = absurd (p.0.1 (front_is front q.0 bytes q.1))
front_agrees front Next agree bytes one other (inr (inr p)) (inl q) = absurd (omega (arith, q.0, ap length p.1 ∙ length-append front p.0))
front_agrees front Next agree bytes one other (inr (inr p)) (inr (inl q)) = absurd (q.0.1 (front_is front p.0 bytes p.1))
front_agrees front Next agree bytes one other (inr (inr p)) (inr (inr q)) =
    let rest : p.0 ≡ q.0 = append_cancel_left front p.0 q.0 (sym p.1 ∙ q.1) in
    agree p.0 one other p.2 (subst (Next other) (sym rest) q.2)

-- if bytes begin with a version, it is their first 4 bytes
version_is : (edition : Edition) (rest bytes : List ℕ) → bytes ≡ version edition ++ rest → take 4 bytes ≡ version edition
version_is edition rest bytes same = ap (take 4) same ∙ take_at (version edition) rest 4 refl

-- the bytes after the magic have one verdict
version_agrees : (large : Bool) (bytes : List ℕ) (one other : Option LayoutFault) → AtVersion large one bytes → AtVersion large other bytes → one ≡ other
version_agrees large bytes one other (inl p) (inl q) = p.1 ∙ sym q.1
version_agrees large bytes one other (inl p) (inr (inl q)) = absurd (omega (arith, p.0, q.0.0))
version_agrees large bytes one other (inl p) (inr (inr q)) = absurd (omega (arith, p.0, ap length q.1.1 ∙ length-append (version q.0) q.1.0))
version_agrees large bytes one other (inr (inl p)) (inl q) = absurd (omega (arith, q.0, p.0.0))
version_agrees large bytes one other (inr (inl p)) (inr (inl q)) = p.1 ∙ sym q.1
version_agrees large bytes one other (inr (inl p)) (inr (inr q)) = absurd (p.0.1 q.0 q.2 (version_is q.0 q.1.0 bytes q.1.1))
version_agrees large bytes one other (inr (inr p)) (inl q) = absurd (omega (arith, q.0, ap length p.1.1 ∙ length-append (version p.0) p.1.0))
version_agrees large bytes one other (inr (inr p)) (inr (inl q)) = absurd (q.0.1 p.0 p.2 (version_is p.0 p.1.0 bytes p.1.1))
version_agrees large bytes one other (inr (inr p)) (inr (inr q)) =
    let found = version_same p.0 q.0 p.1.0 q.1.0 (sym p.1.1 ∙ q.1.1) in
    let of_edition = subst (λ (e : Edition). AtCounts e other q.1.0) (sym found.0) q.1.2 in
    counts_agree p.0 p.1.0 one other p.1.2 (subst (AtCounts p.0 other) (sym found.1) of_edition)

-- all bytes have one verdict
pub verdicts_agree : (large : Bool) (bytes : List ℕ) (one other : Option LayoutFault) → IsVerdict large one bytes → IsVerdict large other bytes → one ≡ other
verdicts_agree large = front_agrees magic (AtVersion large) (version_agrees large)

-- ---- each cause is a verdict

-- the verdict after the head is that on the whole
behind_head : (large : Bool) (edition : Edition) (words marks roots : ℕ) (verdict : Option LayoutFault) (bytes rest : List ℕ) → words < 2 ^ 32 → marks < 2 ^ 32 → roots < 2 ^ 32
    → IsRead large edition → bytes ≡ head edition words marks roots ++ rest → AtLimits edition words marks roots verdict rest → IsVerdict large verdict bytes
behind_head large edition words marks roots verdict bytes rest w m r read same next =
    let behind = counts words marks roots ++ rest in
    let has : HasCounts edition verdict behind =
    record { words = words; marks = marks; roots = roots; words_fit = w; marks_fit = m; roots_fit = r; rest = rest; same = refl; next = next } in
    inr (inr (version edition ++ behind, same, inr (inr (edition, (behind, refl, inr has), read))))

-- the verdict after the image of a heap within the limits is that on the whole
behind_image : (large : Bool) (heap : Heap) (verdict : Option LayoutFault) (bytes rest : List ℕ) → IsRead large heap.edition → IsStored heap → AreWithin heap.edition (length heap.words) (length heap.marks) (length heap.roots)
    → bytes ≡ encoding heap ++ rest → AtEnd heap verdict rest → IsVerdict large verdict bytes
behind_image large heap verdict bytes rest read stored within same next =
    let words = length heap.words in
    let marks = length heap.marks in
    let roots = length heap.roots in
    let few_words = within.few_words in
    let few_marks = within.few_marks in
    let few_roots = within.few_roots in
    let most = words_most heap.edition in
    let most_r = roots_most heap.edition in
    let whole : bytes ≡ head heap.edition words marks roots ++ (body heap ++ rest) =
    same ∙ ap (λ (image : List ℕ). image ++ rest) (encoding_is heap) ∙ append_assoc (head heap.edition words marks roots) (body heap) rest in
    let has : HasNumbers heap.edition words marks roots verdict (body heap ++ rest) =
    record { heap = heap; stored = stored; of_edition = refl; of_words = refl; of_marks = refl; of_roots = refl; rest = rest; same = refl; next = next } in
    behind_head large heap.edition words marks roots verdict bytes (body heap ++ rest) (omega arith) (omega arith) (omega arith) read whole (inr (within, inr has))

-- if the first fault is not the size, the size tests hold
all_hold : (words marks roots : Bool) (parts : List LayoutFault)
    → (first_of ((unless words TooLarge ++ unless marks TooLarge ++ unless roots TooLarge) ++ parts) ≡ Some TooLarge → ⊥)
    → (words ≡ true) × (marks ≡ true) × (roots ≡ true)
all_hold false marks roots parts other = absurd (other refl)
all_hold true false roots parts other = absurd (other refl)
all_hold true true false parts other = absurd (other refl)
all_hold true true true parts other = (refl, refl, refl)

-- a heap is within the limits if its first fault is not the size
within_limits : (heap : Heap) → (first_of (faults heap) ≡ Some TooLarge → ⊥) → AreWithin heap.edition (length heap.words) (length heap.marks) (length heap.roots)
within_limits heap other =
    let most = most_words heap.edition in
    let hold = all_hold (leb (length heap.words) most) (leb (length heap.marks) most) (leb (length heap.roots) (most_roots heap.edition)) (part_faults heap) other in
    record { few_words = leb-true _ _ hold.0; few_marks = leb-true _ _ hold.1; few_roots = leb-true _ _ hold.2 }

-- the verdict on a whole image is the first fault of the heap
whole_image : (large : Bool) (heap : Heap) (bytes : List ℕ) → IsRead large heap.edition → IsStored heap → bytes ≡ encoding heap → (first_of (faults heap) ≡ Some TooLarge → ⊥)
    → IsVerdict large (first_of (faults heap)) bytes
whole_image large heap bytes read stored same other =
    behind_image large heap (first_of (faults heap)) bytes [] read stored (within_limits heap other) (same ∙ sym (append-nil (encoding heap))) (inr (refl, refl))

-- the first fault, written in two ways
first_is : (list : List LayoutFault) (fault : LayoutFault) → IsFirst list fault → first_of list ≡ Some fault
first_is [] fault first = absurd first
first_is (one ∷ others) fault first = ap (λ (x : LayoutFault). Some x) (sym first)

-- the fault of a part, in a whole image
refuses_part : (large : Bool) (fault : LayoutFault) (bytes : List ℕ) → IsOfPart fault → ((heap : Heap) × IsStored heap × (bytes ≡ encoding heap) × IsFirst (faults heap) fault × IsRead large heap.edition)
    → IsVerdict large (Some fault) bytes
refuses_part large fault bytes part cause =
    let first = first_is (faults cause.0) fault cause.3 in
    let other : first_of (faults cause.0) ≡ Some TooLarge → ⊥ = λ large. (let same : fault ≡ TooLarge = cc in subst IsOfPart same part) in
    subst (λ (verdict : Option LayoutFault). IsVerdict large verdict bytes) first (whole_image large cause.0 bytes cause.4 cause.1 cause.2 other)

-- an early end, anywhere
ends_early : (large : Bool) (bytes : List ℕ) → RefusesBy large Truncated bytes → IsVerdict large (Some Truncated) bytes
ends_early large bytes (inl short) = inl (short, refl)
ends_early large bytes (inr (inl in_version)) = inr (inr (in_version.0, in_version.1, inl (in_version.2, refl)))
ends_early large bytes (inr (inr (inl in_counts))) =
    let behind = in_counts.1 in
    inr (inr (version in_counts.0 ++ behind.0, behind.1, inr (inr (in_counts.0, (behind.0, refl, inl (behind.2, refl)), in_counts.2))))
ends_early large bytes (inr (inr (inr in_body))) =
    let within = in_body.4 in
    let few_words = within.few_words in
    let few_marks = within.few_marks in
    let few_roots = within.few_roots in
    let most = words_most in_body.0 in
    let most_r = roots_most in_body.0 in
    let behind = in_body.5 in
    behind_head large in_body.0 in_body.1 in_body.2 in_body.3 (Some Truncated) bytes behind.0 (omega arith) (omega arith) (omega arith) in_body.6 behind.1 (inr (within, inl (behind.2, refl)))

-- another magic or another version
begins_otherwise : (large : Bool) (bytes : List ℕ) → RefusesBy large BadMagic bytes → IsVerdict large (Some BadMagic) bytes
begins_otherwise large bytes (inl other) = inr (inl (other, refl))
begins_otherwise large bytes (inr version) = inr (inr (version.0, version.1, inr (inl (version.2, refl))))

-- if the bytes are refused for a fault, it is their verdict
pub refusal_is_verdict : (large : Bool) (fault : LayoutFault) (bytes : List ℕ) → IsOfBytes fault → RefusesBy large fault bytes → IsVerdict large (Some fault) bytes
refusal_is_verdict large TooLarge bytes reported cause =
    let over = cause.4 in
    behind_head large cause.0 cause.1 cause.2 cause.3 (Some TooLarge) bytes cause.5.0 over.words_fit over.marks_fit over.roots_fit cause.6 cause.5.1 (inl (over, refl))
refusal_is_verdict large (ObjectPastEnd i) bytes reported cause = refuses_part large (ObjectPastEnd i) bytes tt cause
refusal_is_verdict large (ObjectTooLong i) bytes reported cause = refuses_part large (ObjectTooLong i) bytes tt cause
refusal_is_verdict large (MarkNotStart i) bytes reported cause = refuses_part large (MarkNotStart i) bytes tt cause
refusal_is_verdict large (MarksNotRising i) bytes reported cause = refuses_part large (MarksNotRising i) bytes tt cause
refusal_is_verdict large (BadRoot k) bytes reported cause = refuses_part large (BadRoot k) bytes tt cause
refusal_is_verdict large (UnmarkedTarget i) bytes reported cause = refuses_part large (UnmarkedTarget i) bytes tt cause
refusal_is_verdict large (BadWeak i) bytes reported cause = refuses_part large (BadWeak i) bytes tt cause
refusal_is_verdict large Truncated bytes reported cause = ends_early large bytes cause
refusal_is_verdict large TrailingBytes bytes reported cause =
    behind_image large cause.0 (Some TrailingBytes) bytes cause.3.0 cause.4 cause.1 cause.2 cause.3.1 (inl (cause.3.2, refl))
refusal_is_verdict large BadMagic bytes reported cause = begins_otherwise large bytes cause
refusal_is_verdict large OutOfMemory bytes reported cause = absurd reported
refusal_is_verdict large Device bytes reported cause = absurd reported

-- the image of an accepted heap has no fault as its verdict
pub accepted_is_verdict : (large : Bool) (heap : Heap) → IsRead large heap.edition → IsStored heap → IsAccepted heap → IsVerdict large None (encoding heap)
accepted_is_verdict large heap read stored accepted =
    let none : first_of (faults heap) ≡ None = ap first_of accepted in
    let other : first_of (faults heap) ≡ Some TooLarge → ⊥ = λ large. cc in
    subst (λ (verdict : Option LayoutFault). IsVerdict large verdict (encoding heap)) none (whole_image large heap (encoding heap) read stored refl other)
