-- What a collection by roots leaves, and what its words are then.
use Rattle.std.proofs.Common.{◌≡◌, ◌∙◌, ℕ, zero, suc, ◌+◌, ◌<◌, ◌≤◌, List, [], ◌++◌, length, get_or, take, drop, refl, sym, ap, subst, arith}
use Rattle.std.proofs.lemmas.List.{take-append-le, take_all}
use Rattle.heap_layout.specs.declared.edition.Edition.{Edition}
use Rattle.heap_layout.specs.declared.fault.LayoutFault.{LayoutFault}
use Rattle.heap_layout.specs.declared.fault.LayoutFault.TheVariants as layout
use Rattle.heap_layout.specs.Faults.{faults, IsAccepted}
use Rattle.heap_layout.specs.Header.{size_of}
use Rattle.heap_layout.specs.Heap.{Heap, header_at, live, IsStored}
use Rattle.mark_tables.proofs.Sizes.{live_words-all, live_words-next}
use Rattle.page_plan.specs.Sliding.{live_words}
use Rattle.reachability.specs.Reachable.{AreReachable, RefusesFor}
use Rattle.reachability.proofs.Indices.{marks-exist}
use Rattle.reachability.proofs.Least.{accepted-least}
use Rattle.reachability.proofs.Refusals.{memory-only}
use Rattle.stopped_heap.specs.Collecting.{HasCollected}
use Rattle.rest_marks.specs.Reached.{AreReached, IsSound}
use Rattle.rest_slide.specs.Settled.{collected}
use Rattle.stopped_heap.proofs.Collected.{collected-accepted, collected-reached}
use Rattle.stopped_heap.proofs.Once.{once}
use Rattle.rest_slide.proofs.Settling.{settled-all}
use Rattle.heap_layout.proofs.Marked.{closed}
use Rattle.stopped_heap.proofs.Rows.{marks-reached}
use Rattle.commands.specs.CollectedHeaps.{AreLeftBy, AreSlid, IsLeftBy, IsReachedHeap}

-- The live words of a sound heap are no more than its words: the live objects lie apart.
module _ (heap : Heap) (sound : IsSound heap) where
  abbrev mark : ℕ → ℕ
  mark k = get_or heap.marks k 0

  -- those below a mark are no more than the words below it
  words-below : (k : ℕ) → k < length heap.marks → live_words (take k (live heap)) ≤ mark k
  words-below zero lt = omega arith
  words-below (suc k) lt =
      let one : suc k ≡ k + 1 = omega arith in
      let low : k < length heap.marks = omega (arith, lt) in
      let more = live_words-next heap.edition heap.words heap.marks k low in
      let apart = sound.apart k (omega (arith, lt)) in
      rw one (omega (arith, more, words-below k low, apart))

  live_by : (n : ℕ) → length heap.marks ≡ n → live_words (live heap) ≤ length heap.words
  live_by zero none =
      let all = live_words-all heap.edition heap.words heap.marks 0 (omega (arith, none)) in
      omega (arith, all)
  live_by (suc n) many =
      let last : n < length heap.marks = omega (arith, many) in
      let more = live_words-next heap.edition heap.words heap.marks n last in
      let all = live_words-all heap.edition heap.words heap.marks (n + 1) (omega (arith, many)) in
      let placed = (sound.placed n 0 last).within in
      omega (arith, more, all, words-below n last, placed)

  pub live-fit : live_words (live heap) ≤ length heap.words
  live-fit = live_by (length heap.marks) refl

-- what holds of some parts holds of the same ones
parts-along : (P : Edition → List ℕ → List ℕ → Type 0) (a b : Edition) (v w r s : List ℕ) → a ≡ b → v ≡ w → r ≡ s → P a v r → P b w s
parts-along P a b v w r s x y z p = subst (λ (q : List ℕ). P b w q) z (subst (λ (q : List ℕ). P b q r) y (subst (λ (e : Edition). P e v r) x p))

-- what stands before the rest is the words of the collected heap
pub left-words : (edition : Edition) (words roots before after new_roots : List ℕ) (count : ℕ) → HasCollected edition words roots count new_roots before after
    → AreSlid edition words roots (take count after) new_roots
left-words edition words roots before after new_roots count (marks, reached, h) =
    let heap : Heap = record { edition = edition; words = words; marks = marks; roots = roots } in
    let many = settled-all heap h.sound in
    let long : count ≡ length (collected heap).words = h.live ∙ sym many in
    let enough : count ≤ length (collected heap).words = omega (arith, long) in (
      heap,
      record { same = refl; reached = reached; sound = h.sound },
      record {
        words_are = ap (take count) h.words ∙ rw take-append-le (take_all count (collected heap).words (omega (arith, long)));
        roots_are = h.roots_are;
      },
    )

-- of what is left, with other marks, nothing is refused: the roots reach all of it
module _ (heap : Heap) (edition : Edition) (words roots : List ℕ) (same : edition ≡ heap.edition) (is : IsReachedHeap heap heap) (left : AreLeftBy heap words roots) where
  accepted-left : (marks : List ℕ) → AreReachable edition words roots marks → IsAccepted (record { edition = edition; words = words; marks = marks; roots = roots })
  accepted-left marks are =
      let of : AreReachable heap.edition (collected heap).words (collected heap).roots marks = parts-along (λ e w r. AreReachable e w r marks) _ _ _ _ _ _ same left.words_are left.roots_are are in
      parts-along (λ e w r. IsAccepted (record { edition = e; words = w; marks = marks; roots = r })) _ _ _ _ _ _ (sym same) (sym left.words_are) (sym left.roots_are)
      (accepted-least (collected heap) marks (collected-accepted heap is.sound) of)

  -- so it is refused only for memory
  pub left-memory : (fault : LayoutFault)
      → ((marks : List ℕ) → AreReachable edition words roots marks → RefusesFor (faults (record { edition = edition; words = words; marks = marks; roots = roots })) fault)
      → fault ≡ layout.OutOfMemory
  left-memory fault refused =
      let found = marks-exist edition words roots in
      memory-only fault (subst (λ (list : List LayoutFault). RefusesFor list fault) (accepted-left found.0 found.1) (refused found.0 found.1))

  -- and with the marks of what the roots reach it is the collected heap
  pub left-heap : (next : Heap) → next ≡ record { edition = edition; words = words; marks = next.marks; roots = roots } → AreReachable edition words roots next.marks
      → IsAccepted next → IsStored next → IsLeftBy heap next
  left-heap next made are accepted stored = record {
    same = all;
    marked = subst (λ (h : Heap). AreReachable h.edition h.words h.roots next.marks) (sym made) are;
    accepted = accepted;
    stored = stored;
  }
    where
      found : AreReached heap.edition (collected heap).words (collected heap).roots next.marks
      found =
          let parts : AreReached edition words roots next.marks = subst (λ (h : Heap). AreReached h.edition h.words h.roots next.marks) made
          (marks-reached next (closed next accepted) (subst (λ (h : Heap). AreReachable h.edition h.words h.roots next.marks) (sym made) are)) in
          parts-along (λ e w r. AreReached e w r next.marks) _ _ _ _ _ _ same left.words_are left.roots_are parts

      one : next.marks ≡ (collected heap).marks
      one = once heap.edition (collected heap).words (collected heap).roots next.marks (collected heap).marks found (collected-reached heap is.sound is.reached)

      all : next ≡ collected heap
      all = made ∙ rw (same, left.words_are, left.roots_are, one) refl
