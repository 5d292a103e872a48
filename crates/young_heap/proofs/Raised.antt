-- Rows of placed objects, and the premise of the next young collection once a watermark was raised.
use Rattle.std.proofs.Common.{◌≡◌, ℕ, ◌+◌, ◌<◌, ◌≤◌, Bool, true, false, List, [], get_or, inl, inr, refl, sym, subst, ◌∙◌, arith}
use Rattle.std.proofs.lemmas.Bool.{cases_Bool, cases_lt}
use Rattle.heap_layout.specs.declared.edition.Edition.{Edition}
use Rattle.heap_layout.specs.Bits.{bit}
use Rattle.heap_layout.specs.Header.{size_of}
use Rattle.heap_layout.specs.Heap.{header_at, IsPlaced}
use Rattle.young_heap.specs.Cards.{AreUnasked}
use Rattle.young_heap.specs.Raising.{AreUnaskedFrom, IsBrokenAt}
use Rattle.young_heap.specs.Rows.{IsInRow, IsRowTo, here, behind, done, goes}
use Rattle.young_heap.specs.Young.{AreKeptBelow, AreOld, AreRemembered}
use Rattle.young_heap.proofs.Bearing.{old-on}
use Rattle.young_heap.proofs.Lengthening.{old-next}
use Rattle.young_heap.proofs.Made.{led-more}
use Rattle.young_heap.proofs.Walking.{row-cases}

module _ (edition : Edition) (words : List ℕ) where
  -- a row ends where it begins, or behind
  pub row-up : (end i : ℕ) → IsRowTo edition words end i → i ≤ end
  row-up end i (done _ same) = omega (arith, same)
  row-up end i (goes _ placed rest) = (let up = row-up end (i + size_of (header_at edition words i)) rest in omega (arith, up))

  -- a row behind a row
  pub row-joined : (end middle i : ℕ) → IsRowTo edition words middle i → IsRowTo edition words end middle → IsRowTo edition words end i
  row-joined end middle i (done _ same) rest = subst (IsRowTo edition words end) (sym same) rest
  row-joined end middle i (goes _ placed more) rest = goes i placed (row-joined end middle (i + size_of (header_at edition words i)) more rest)

  -- what is left of a row, behind a row that begins where it does
  pub row-rest : (end middle i : ℕ) → IsRowTo edition words middle i → IsRowTo edition words end i → middle ≤ end → IsRowTo edition words end middle
  row-rest end middle i (done _ same) row le = subst (IsRowTo edition words end) same row
  row-rest end middle i (goes _ placed more) (done _ same) le =
      absurd (let up = row-up middle (i + size_of (header_at edition words i)) more in omega (arith, up, same, le))
  row-rest end middle i (goes _ placed more) (goes _ also row) le = row-rest end middle (i + size_of (header_at edition words i)) more row le

  -- the first object of a row is placed, and ends at its end or before
  row-first : (end i : ℕ) → IsRowTo edition words end i → i < end → IsPlaced edition words i × (i + size_of (header_at edition words i) ≤ end)
  row-first end i (done _ same) lt = absurd (omega (arith, same, lt))
  row-first end i (goes _ placed rest) lt = (placed, row-up end (i + size_of (header_at edition words i)) rest)

  -- where a row breaks there is none
  pub broken-no-row : (from end i : ℕ) → IsBrokenAt edition words from end i → IsRowTo edition words end from → ⊥
  broken-no-row from end i broken row =
      let first = row-first end i (row-rest end i from broken.row row (omega (arith, broken.low))) broken.low in
      elim broken.breaks [
        | inl long ↦ absurd (omega (arith, long, first.0.short))
        | inr past ↦ absurd (omega (arith, past, first.1))
      ]

  -- an object of a row starts where the row does, or behind
  row-from : (end i j : ℕ) → IsInRow edition words end i j → i ≤ j
  row-from end i j (here _ lt) = omega arith
  row-from end i j (behind _ _ lt rest) = (let from = row-from end (i + size_of (header_at edition words i)) j rest in omega (arith, from))

  module _ (starts : List ℕ) (end : ℕ) where
    -- old words with a row behind them, of which just the objects start at bits that are set
    pub old-to : (i : ℕ) → IsRowTo edition words end i → AreOld edition words starts i → ((j : ℕ) → i ≤ j → j < end → bit starts j ≡ true → IsInRow edition words end i j)
        → ((j : ℕ) → IsInRow edition words end i j → bit starts j ≡ true) → AreOld edition words starts end
    old-to i (done _ same) are only all = subst (AreOld edition words starts) same are
    old-to i (goes _ placed rest) are only all =
        let next = i + size_of (header_at edition words i) in
        let le = row-up end next rest in
        let lt : i < end = omega (arith, le) in
        let later : (j : ℕ) → i < j → j < end → bit starts j ≡ true → IsInRow edition words end next j = λ j up low set.
        elim (row-cases edition words end i j (only j (omega (arith, up)) low set)) [
          | inl same ↦ absurd (omega (arith, same, up))
          | inr row ↦ row
        ] in
        let none : (j : ℕ) → i < j → j < next → bit starts j ≡ false = λ j up low. elim (cases_Bool (bit starts j)) [
          | inr unset ↦ unset
          | inl set ↦ absurd (let from = row-from end next j (later j up (omega (arith, low, le)) set) in omega (arith, from, low))
        ] in
        old-to next rest (old-next edition words starts i are (all i (here i lt)) placed none)
        (λ j up low set. later j (omega (arith, up)) low set)
        (λ j row. all j (behind i j lt row))

-- the same, of bits that are the same below
pub raised-old : (edition : Edition) (words starts next : List ℕ) (old end : ℕ) → AreKeptBelow old starts next → IsRowTo edition words end old
    → ((j : ℕ) → old ≤ j → j < end → bit next j ≡ true → IsInRow edition words end old j) → ((j : ℕ) → IsInRow edition words end old j → bit next j ≡ true)
    → AreOld edition words starts old → AreOld edition words next end
raised-old edition words starts next old end kept row only all are =
    old-to edition words next end old row (old-on edition words starts next old kept are) only all

-- what is not asked for leads below
pub raised-clean : (edition : Edition) (words starts next : List ℕ) (old end : ℕ) (asked : ℕ → Bool) → AreKeptBelow old starts next → old ≤ end
    → AreUnasked edition words starts old asked → AreUnaskedFrom edition words next old end asked → AreUnasked edition words next end asked
raised-clean edition words starts next old end asked kept up are above = record {
  clean = λ i f low set from to none. elim (cases_lt i old) [
    | inl before ↦ led-more edition starts next old end (get_or words (i + f) 0) kept up (are.clean i f before (sym (kept i before) ∙ set) from to none)
    | inr high ↦ above (i + f) (i, high, low, set, omega (arith, from), omega (arith, to)) none
  ];
  weak = λ i f low set from to none. elim (cases_lt i old) [
    | inl before ↦ led-more edition starts next old end (get_or words (i + f) 0) kept up (are.weak i f before (sym (kept i before) ∙ set) from to none)
    | inr high ↦ above (i + f) (i, high, low, set, omega (arith, from), omega (arith, to)) none
  ];
}

-- if each word of an old object leads below, none has to be remembered
pub all-led-remembered : (edition : Edition) (words next : List ℕ) (end : ℕ) → AreUnaskedFrom edition words next 0 end (λ j. false)
    → AreRemembered edition words next end [] []
all-led-remembered edition words next end led = record {
  clean = λ i f low set from to none. led (i + f) (i, omega arith, low, set, omega (arith, from), omega (arith, to)) refl;
  weak = λ i f low set from to none. led (i + f) (i, omega arith, low, set, omega (arith, from), omega (arith, to)) refl;
  fields_are = λ j there. absurd (let no : false ≡ true = there in cc);
  weaks_are = λ j there. absurd (let no : false ≡ true = there in cc);
}
