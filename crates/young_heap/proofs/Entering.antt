-- The old objects, whose words stay where they are: they stand as if they had been slid.
use Rattle.std.proofs.Common.{◌≡◌, ℕ, zero, suc, ◌+◌, ◌-◌, ◌<◌, ◌≤◌, ◌⊎◌, true, List, ◌++◌, length, get_or, take, drop, inl, inr, sym, ap, subst, ◌∙◌, arith, length-append, length-drop}
use Rattle.std.proofs.lemmas.Bool.{cases_lt, cases_order}
use Rattle.std.proofs.lemmas.Grind.{same_number_lists}
use Rattle.std.proofs.lemmas.List.{get_or-take, get_or-drop, get_or_append_left, get_or-append_right, length-take-le}
use Rattle.std.proofs.lemmas.List.Sums.{sum_by-take-le}
use Rattle.heap_layout.specs.declared.edition.Edition.{Edition}
use Rattle.heap_layout.specs.Bits.{bit}
use Rattle.heap_layout.specs.Header.{header_of, refs_of, weak_of, size_of}
use Rattle.heap_layout.specs.Heap.{header_at, live}
use Rattle.mark_tables.specs.MarkBitmap.{set_bits}
use Rattle.page_plan.specs.Sliding.{size}
use Rattle.page_plan.proofs.Objects.{live_words-next}
use Rattle.rest_marks.specs.Looking.{led_to, kept_by}
use Rattle.rest_marks.specs.Surveys.{marks_of, told, AreTables}
use Rattle.rest_marks.proofs.Heads.{all-words, head-number}
use Rattle.rest_slide.proofs.SlidingDown.{IsSlidDown, IsDown, down-first, next-down, down-next}
use Rattle.young_heap.specs.Young.{AreOld}

-- one list up to index m, and another one from there on
abbrev pub mixed : List ℕ → List ℕ → ℕ → List ℕ
mixed new words m = take m new ++ drop m words

module _ (new words : List ℕ) (same : length new ≡ length words) where
  pub mixed-low : (m k : ℕ) → m ≤ length words → k < m → get_or (mixed new words m) k 0 ≡ get_or new k 0
  mixed-low m k within lt =
      let long = length-take-le m new (omega (arith, within, same)) in
      get_or_append_left (take m new) (drop m words) 0 k (omega (arith, long, lt)) ∙ get_or-take m new k 0 lt

  pub mixed-high : (m k : ℕ) → m ≤ length words → m ≤ k → get_or (mixed new words m) k 0 ≡ get_or words k 0
  mixed-high m k within le =
      let long = length-take-le m new (omega (arith, within, same)) in
      let at : m + (k - m) ≡ k = omega (arith, le) in
      get_or-append_right (take m new) (drop m words) m k 0 long le ∙ get_or-drop m words (k - m) 0 ∙ ap (λ (n : ℕ). get_or words n 0) at

  pub mixed-long : (m : ℕ) → m ≤ length words → length (mixed new words m) ≡ length words
  mixed-long m within =
      let long = length-take-le m new (omega (arith, within, same)) in
      omega (arith, length-append (take m new) (drop m words), long, length-drop m words, within)

-- The words after the fields of old objects were forwarded: of each old object the references and weak words lead where
-- they lead after the collection, and nothing else has changed.
pub record AreOldSettled (edition : Edition) (old : ℕ) (words heads bits new : List ℕ) : Type 0 where
  pub long : length new ≡ length words
  pub rest : (k : ℕ) → old ≤ k → get_or new k 0 ≡ get_or words k 0
  pub header : (i : ℕ) → i < old → bit heads i ≡ true → get_or new i 0 ≡ get_or words i 0
  pub references : (i k : ℕ) → i < old → bit heads i ≡ true → k < refs_of (header_at edition words i)
      → get_or new (i + 1 + k) 0 ≡ led_to edition (set_bits bits) (get_or words (i + 1 + k) 0)
  pub weak_words : (i k : ℕ) → i < old → bit heads i ≡ true → k < weak_of (header_at edition words i)
      → get_or new (i + 1 + refs_of (header_at edition words i) + k) 0 ≡ kept_by edition heads (set_bits bits) (get_or words (i + 1 + refs_of (header_at edition words i) + k) 0)
  pub data_words : (i k : ℕ) → i < old → bit heads i ≡ true → 1 + refs_of (header_at edition words i) + weak_of (header_at edition words i) ≤ k
      → k < size_of (header_at edition words i) → get_or new (i + k) 0 ≡ get_or words (i + k) 0

module _ (edition : Edition) (old : ℕ) (words heads bits counts new : List ℕ) (tables : AreTables edition words heads bits counts)
    (old_are : AreOld edition words heads old) (settled : AreOldSettled edition old words heads bits new) where
  abbrev mix : ℕ → List ℕ
  mix m = mixed new words m

  abbrev size_at : ℕ → ℕ
  size_at m = size_of (header_at edition words m)

  -- an object, or the end of the old ones, is behind an old object
  behind : (m : ℕ) → m < old → bit heads m ≡ true → (bit heads (m + size_at m) ≡ true) ⊎ (m + size_at m ≡ old)
  behind m lt set =
      let end = m + size_at m in
      elim (cases_lt end old) [
        | inl inside ↦
            let at = old_are.row end inside in
            let i = at.0 in
            elim (cases_order i m) [
              | inl same ↦ absurd (let sized = ap (λ (n : ℕ). size_at n) same in omega (arith, at.2.1, same, sized))
              | inr (inl less) ↦ absurd (let apart = old_are.apart i m at.1 set less lt in omega (arith, apart, at.2.1))
              | inr (inr more) ↦
                  let apart = old_are.apart m i set at.1 more (omega (arith, at.2.0, inside)) in
                  let same : i ≡ end = omega (arith, apart, at.2.0) in
                  inl (sym (ap (bit heads) same) ∙ at.1)
            ]
        | inr past ↦ inr (omega (arith, past, old_are.inside m lt set))
      ]

  -- one old object more
  one-more : (m : ℕ) → m < old → bit heads m ≡ true → IsSlidDown edition words heads m m (mix m)
      → IsSlidDown edition words heads (m + size_at m) (m + size_at m) (mix (m + size_at m))
  one-more m lt set is =
      let count = length words in
      let fit : m ≤ count = omega (arith, lt, old_are.within) in
      let ends : m + size_at m ≤ count = omega (arith, old_are.inside m lt set, old_are.within) in
      let number = head-number heads m set in
      let known : is.slid.number < length (marks_of heads) = elim (cases_lt is.slid.number (length (marks_of heads))) [
        | inl less ↦ less
        | inr all ↦ absurd (let low = is.slid.before number.0 (omega (arith, number.1, all)) in omega (arith, low, number.2))
      ] in
      let own = live_words-next edition words (marks_of heads) is.slid.number known in
      let few = sum_by-take-le size (live (told edition words heads)) (is.slid.number + 1) in
      let place : m < length (set_bits bits) = omega (arith, all-words edition words heads bits counts tables, few, own, is.slid.at) in
      let found = next-down edition words heads bits counts tables m m (mix m) is place m (omega arith) (λ j le low. absurd (omega (arith, le, low))) (λ _. set) in
      let here = mixed-high new words settled.long m m fit (omega arith) in
      let refs = refs_of (header_at edition words m) in
      let weak = weak_of (header_at edition words m) in
      let low : (k : ℕ) → k < m + size_at m → get_or (mix (m + size_at m)) k 0 ≡ get_or new k 0 = λ k less. mixed-low new words settled.long (m + size_at m) k ends less in
      let high : (k : ℕ) → m ≤ k → get_or words k 0 ≡ get_or (mix m) k 0 = λ k le. sym (mixed-high new words settled.long m k fit le) in
      let done : IsDown edition heads (set_bits bits) m m refs weak (size_at m) (mix m) (mix (m + size_at m)) = record {
        header = low m (omega arith) ∙ settled.header m lt set ∙ high m (omega arith);
        references = λ k less.
            low (m + 1 + k) (omega (arith, less)) ∙ settled.references m k lt set less ∙ ap (led_to edition (set_bits bits)) (high (m + 1 + k) (omega arith));
        weak_words = λ k less.
            low (m + 1 + refs + k) (omega (arith, less)) ∙ settled.weak_words m k lt set less ∙ ap (kept_by edition heads (set_bits bits)) (high (m + 1 + refs + k) (omega arith));
        data_words = λ k from less. low (m + k) (omega (arith, less)) ∙ settled.data_words m k lt set from less ∙ high (m + k) (omega arith);
      } in
      down-next edition words heads bits counts tables m m (mix m) is place m refs weak (size_at m) (mix (m + size_at m)) found (omega arith)
      (ap (λ (w : ℕ). refs_of (header_of edition w)) (sym here)) (ap (λ (w : ℕ). weak_of (header_of edition w)) (sym here)) (ap (λ (w : ℕ). size_of (header_of edition w)) (sym here)) done
      (λ k less. low k (omega (arith, less)) ∙ sym (mixed-low new words settled.long m k fit less))
      (λ k le. mixed-high new words settled.long (m + size_at m) k ends le ∙ high k (omega (arith, le)))
      (mixed-long new words settled.long (m + size_at m) ends ∙ sym (mixed-long new words settled.long m fit))

  -- all of them
  up-to-old : (n m : ℕ) → m ≤ old → old ≤ m + n → (bit heads m ≡ true) ⊎ (m ≡ old) → IsSlidDown edition words heads m m (mix m) → IsSlidDown edition words heads old old (mix old)
  up-to-old zero m le few at is =
      let same : m ≡ old = omega (arith, le, few) in
      subst (λ (k : ℕ). IsSlidDown edition words heads k k (mix k)) same is
  up-to-old (suc n) m le few at is = elim at [
    | inl set ↦ elim (cases_lt m old) [
      | inl lt ↦
          let ends = old_are.inside m lt set in
          up-to-old n (m + size_at m) ends (omega (arith, few)) (behind m lt set) (one-more m lt set is)
      | inr past ↦ (let same : m ≡ old = omega (arith, le, past) in subst (λ (k : ℕ). IsSlidDown edition words heads k k (mix k)) same is)
    ]
    | inr same ↦ subst (λ (k : ℕ). IsSlidDown edition words heads k k (mix k)) same is
  ]

  first-at : (bit heads 0 ≡ true) ⊎ (0 ≡ old)
  first-at = elim (cases_lt 0 old) [
    | inl some ↦
        let at = old_are.row 0 some in
        let none : at.0 ≡ 0 = omega (arith, at.2.0) in
        inl (sym (ap (bit heads) none) ∙ at.1)
    | inr none ↦ inr (omega (arith, none))
  ]

  -- so the old objects are slid, where they stand
  pub down-from : IsSlidDown edition words heads old old new
  down-from =
      let begun : IsSlidDown edition words heads 0 0 (mix 0) = down-first edition words heads bits counts tables in
      let all = up-to-old old 0 (omega arith) (omega arith) first-at begun in
      let same : mix old ≡ new = same_number_lists (mix old) new (mixed-long new words settled.long old old_are.within ∙ sym settled.long) (λ k lt.
      elim (cases_lt k old) [
        | inl low ↦ mixed-low new words settled.long old k old_are.within low
        | inr high ↦ mixed-high new words settled.long old k old_are.within high ∙ sym (settled.rest k high)
      ]) in
      subst (IsSlidDown edition words heads old old) same all
