-- Where a collection parts the objects by their ages.
use Rattle.std.proofs.Common.{◌≡◌, ℕ, ◌+◌, ◌-◌, ◌*◌, ◌<◌, ◌≤◌, true, false, List, length, get_or, take, inl, inr, refl, sym, ap, ◌∙◌, arith}
use Rattle.std.proofs.lemmas.Bool.{both_ways, cases_lt}
use Rattle.std.proofs.lemmas.List.Sums.{sum_by-take-le}
use Rattle.heap_layout.specs.declared.edition.Edition.{Edition}
use Rattle.heap_layout.specs.Bits.{bit}
use Rattle.heap_layout.specs.Header.{size_of}
use Rattle.heap_layout.specs.Heap.{Heap, header_at, live}
use Rattle.mark_tables.specs.MarkBitmap.{set_bits}
use Rattle.mark_tables.specs.LiveWords.{live_below}
use Rattle.mark_tables.proofs.NewPlaces.{below-all}
use Rattle.page_plan.specs.Sliding.{size, live_words}
use Rattle.page_plan.proofs.Objects.{live_words-next, live_words-all}
use Rattle.rest_marks.specs.Reached.{IsSound, IsWordOf}
use Rattle.rest_slide.specs.Settled.{places}
use Rattle.rest_marks.specs.Surveys.{marks_of, AreTables}
use Rattle.stopped_heap.proofs.Collected.{place-at}
use Rattle.rest_slide.proofs.Ended.{live-few, live-rises}
use Rattle.rest_marks.proofs.Heads.{head-below, mark-set}
use Rattle.rest_slide.proofs.Placing.{places-rise}
use Rattle.young_heap.specs.Aging.{AreParted}
use Rattle.young_heap.specs.Young.{AreOld}
use Rattle.young_heap.proofs.Next.{number, start-set}
use Rattle.young_heap.proofs.Safe.{counted-run}

-- no fewer live words are below a later word
below-rises : (bits : List ℕ) (i j : ℕ) → i ≤ 64 * length bits → i ≤ j → live_below (set_bits bits) i ≤ live_below (set_bits bits) j
below-rises bits i j inside order = live-rises bits i j (live_below (set_bits bits) j) inside order (λ lt. refl) (λ past. below-all bits j past)

-- at least as many as there are words below a watermark, and no more than words
pub ended-between : (bits : List ℕ) (old survived : ℕ) → old ≤ 64 * length bits → old ≤ survived → ((i : ℕ) → i < old → bit bits i ≡ true)
    → (old ≤ live_below (set_bits bits) survived) × (live_below (set_bits bits) survived ≤ survived)
ended-between bits old survived inside order ones =
    let none = counted-run bits 0 old (omega (arith, inside)) (λ j from lt. ones j (omega (arith, lt))) in
    let same : 0 + old ≡ old = omega arith in
    let low : old ≤ live_below (set_bits bits) old = omega (arith, none, ap (live_below (set_bits bits)) same) in
    let up = below-rises bits old survived inside order in (
      omega (arith, low, up),
      elim (cases_lt survived (64 * length bits)) [
        | inl lt ↦ live-few bits survived (omega (arith, lt))
        | inr past ↦ (
            let all = below-all bits survived past in
            let few = live-few bits (64 * length bits) (omega arith) in
            let whole = below-all bits (64 * length bits) (omega arith) in
            omega (arith, all, few, whole, past))
      ],
    )

-- the objects below a start, or below the end, are a row
pub lower-old : (edition : Edition) (words starts : List ℕ) (live middle : ℕ) → AreOld edition words starts live → middle ≤ live
    → (middle < live → bit starts middle ≡ true) → AreOld edition words starts middle
lower-old edition words starts live middle are le start =
    let inside : (i : ℕ) → i < middle → bit starts i ≡ true → i + size_of (header_at edition words i) ≤ middle = λ i low set.
    elim (cases_lt middle live) [
      | inl less ↦ are.apart i middle set (start less) low less
      | inr end ↦ (let fits = are.inside i (omega (arith, low, le)) set in omega (arith, fits, end))
    ] in
    record {
      within = omega (arith, le, are.within);
      placed = λ i low set. are.placed i (omega (arith, low, le)) set;
      inside = inside;
      apart = λ i j one two order low. are.apart i j one two order (omega (arith, low, le));
      row = λ j low. are.row j (omega (arith, low, le));
    }

module _ (edition : Edition) (words roots heads bits counts next : List ℕ) (total : ℕ) (tables : AreTables edition words heads bits counts)
    (room : length words ≤ 64 * length bits) (run : (i j : ℕ) → bit heads i ≡ true → IsWordOf edition words i j → bit bits j ≡ true)
    (sound : IsSound (record { edition = edition; words = words; marks = marks_of heads; roots = roots }))
    (same : marks_of next ≡ places (record { edition = edition; words = words; marks = marks_of heads; roots = roots }))
    (all : total ≡ live_words (live (record { edition = edition; words = words; marks = marks_of heads; roots = roots }))) where
  abbrev heap : Heap
  heap = record { edition = edition; words = words; marks = marks_of heads; roots = roots }

  abbrev n : ℕ
  n = length (marks_of heads)

  abbrev mark : ℕ → ℕ
  mark k = get_or (marks_of heads) k 0

  abbrev size_at : ℕ → ℕ
  size_at k = size_of (header_at edition words (mark k))

  abbrev place : ℕ → ℕ
  place k = live_words (take k (live heap))

  abbrev before : ℕ → ℕ
  before i = live_below (set_bits bits) i

  own : (k : ℕ) → k < n → place (k + 1) ≡ place k + size_at k
  own k lt = live_words-next edition words (marks_of heads) k lt

  fits : (k : ℕ) → k < n → mark k + size_at k ≤ 64 * length bits
  fits k lt = (let placed = (sound.placed k 0 lt).within in omega (arith, placed, room))

  -- the live words below a word of an object, or below its end
  word-below : (k w : ℕ) → k < n → w ≤ size_at k → before (mark k + w) ≡ place k + w
  word-below k w lt le =
      let most = fits k lt in
      let more = counted-run bits (mark k) w (omega (arith, most, le)) (λ j from to. run (mark k) j (mark-set heads k lt) (from, omega (arith, to, le))) in
      omega (arith, more, head-below edition words heads bits counts tables k lt)

  place-low : (k : ℕ) → k < n → place k + size_at k ≤ total
  place-low k lt = (let few = sum_by-take-le size (live heap) (k + 1) in omega (arith, own k lt, few, all))

  module _ (survived middle ended : ℕ) (ended_is : ended ≡ before survived) (upto : middle ≤ total) (low : middle ≤ ended)
      (start : middle < total → bit next middle ≡ true) (last : (j : ℕ) → middle < j → j ≤ ended → j < total → bit next j ≡ false)
      (whole : total ≤ ended → middle ≡ total) where
    older : (k : ℕ) → k < n → mark k + size_at k ≤ survived → place k < middle
    older k lt ends = elim (cases_lt (place k) middle) [
      | inl less ↦ less
      | inr up ↦ absurd (
          let most = fits k lt in
          let rise = below-rises bits (mark k + size_at k) survived most ends in
          let reach : place k + size_at k ≤ ended = omega (arith, rise, word-below k (size_at k) lt (omega arith), ended_is) in
          elim (cases_lt (k + 1) n) [
            | inl more ↦
                let set = start-set heap sound next same (k + 1) more in
                let inside = place-low (k + 1) more in
                both_ways (bit next (place (k + 1))) (last (place (k + 1)) (omega (arith, own k lt, up)) (omega (arith, own k lt, reach)) (omega (arith, inside))) set
            | inr done ↦
                let end = live_words-all edition words (marks_of heads) (k + 1) done in
                let top : total ≤ ended = omega (arith, end, own k lt, all, reach) in
                omega (arith, whole top, end, own k lt, all, up)
          ])
    ]

    younger : (k : ℕ) → k < n → survived < mark k + size_at k → middle ≤ place k
    younger k lt past = elim (cases_lt (place k) middle) [
      | inr le ↦ le
      | inl up ↦ absurd (
          let w = size_at k - 1 in
          let most = fits k lt in
          let rise = below-rises bits survived (mark k + w) (omega (arith, past, most)) (omega (arith, past)) in
          let here = word-below k w lt (omega arith) in
          elim (cases_lt middle total) [
            | inr top ↦ omega (arith, rise, here, ended_is, low, top, upto, place-low k lt)
            | inl inside ↦
                let at = number heap sound next same middle (start inside) in
                let m = at.0 in
                let is : place m ≡ middle = sym (place-at heap sound m at.1) ∙ at.2 in
                elim (cases_lt k m) [
                  | inl later ↦ (let above = places-rise (live heap) (k + 1) m (omega (arith, later)) in omega (arith, above, is, own k lt, low, ended_is, rise, here))
                  | inr earlier ↦ (let down = places-rise (live heap) m k earlier in omega (arith, down, is, up))
                ]
          ])
    ]

    pub parted : AreParted heap survived middle
    parted = record {
      old = λ k lt ends. (let less = older k lt ends in omega (arith, less, place-at heap sound k lt));
      young = λ k lt past. (let le = younger k lt past in omega (arith, le, place-at heap sound k lt));
    }
