-- The stamps of all n entries, counted: if no stamp stands twice and each number below n is one, there are no others.
use Rattle.std.proofs.Common.{◌≡◌, ℕ, zero, suc, ◌+◌, ◌<◌, ◌≤◌, inl, inr, Bool, cond, List, [], ◌∷◌, ◌++◌, length, map, leb, refl, sym, ap, ◌∙◌, arith, length-append}
use Rattle.std.proofs.lemmas.List.{length-map}
use Rattle.std.proofs.lemmas.Bool.{cases_lt, cases_eq, leb-true, eq-eqb}
use Rattle.std.specs.List.{flat_map, range_with_len}
use Rattle.comp_dump.specs.Entry.{Entry}
use Rattle.comp_dump.specs.Lists.{times, total, only, below, stamps}
use Rattle.comp_dump.specs.Locks.{Journals}
use Rattle.comp_dump.proofs.Sums.{below-at, below-ext, below-zero, times-cons, times-other}
use Rattle.comp_dump.specs.Merged.{entries_below, stamp_of, with_page}
use Rattle.comp_dump.proofs.CompHistoryPages.{total_below}
use Rattle.comp_dump.specs.declared.fault.AuditFault.{AuditFault}
use Rattle.comp_dump.specs.declared.fault.AuditFault.TheVariants.{StampRepeated, StampMissing}
use Rattle.comp_audit.specs.Checks.{unless, above, repeat_faults, missing_faults}
use Rattle.heap_layout.proofs.Rows.{append-none, unless-none}
use Rattle.comp_audit.proofs.Ranges.{somewhere, all_below}

times_stamps : (s : ℕ) (all : List (ℕ × Entry)) → times s (map stamp_of all) ≡ total (λ (x : ℕ × Entry). only s (stamp_of x)) all
times_stamps s [] = refl
times_stamps s (x ∷ xs) = let rest = times_stamps s xs in omega (arith, rest)

-- how often a stamp occurs in them
pub stamps_counted : (journals : Journals) (n s : ℕ) → times s (map stamp_of (entries_below journals n)) ≡ below (λ p. stamps (only s) (journals p)) n
stamps_counted journals n s = times_stamps s (entries_below journals n) ∙ total_below (only s) journals n

-- how many there are
pub stamps_long : (journals : Journals) (n : ℕ) → length (map stamp_of (entries_below journals n)) ≡ below (λ p. length (journals p)) n
stamps_long journals zero = refl
stamps_long journals (suc n) =
    let front = entries_below journals n in
    let last = with_page n (journals n) in
    let rest = stamps_long journals n in
    omega (arith, rest, length-map (front ++ last) stamp_of, length-map front stamp_of, length-append front last, length-map {B = ℕ × Entry} (journals n) (λ (e : Entry). (n, e)))

only_few : (s x : ℕ) (xs : List ℕ) → times s (x ∷ xs) ≤ 1 + times s xs
only_few s x xs =
    elim (cases_eq s x) [
      | inl same ↦ let here : only s x ≡ 1 = ap (λ (b : Bool). cond b 1 0) (eq-eqb s x same) in omega (arith, here)
      | inr other ↦ let h = times-other s x xs other in omega (arith, h)
    ]

-- together the numbers below n, and one at or above n, occur in a list no more often than it is long
counted_few : (n s : ℕ) (xs : List ℕ) → n ≤ s → below (λ p. times p xs) n + times s xs ≤ length xs
counted_few n s [] le = omega (arith, below-zero n)
counted_few n s (x ∷ xs) le =
    let rest = counted_few n s xs le in
    elim (cases_lt x n) [
      | inl lt ↦
          let one = below-at (λ p. times p xs) (λ p. times p (x ∷ xs)) n x 1 lt (λ q ne. times-other q x xs ne) (let h = times-cons x xs in omega (arith, h)) in
          let other = times-other s x xs (λ e. omega (arith, e, lt, le)) in
          omega (arith, rest, one, other)
      | inr ge ↦
          let same = below-ext (λ p. times p (x ∷ xs)) (λ p. times p xs) n (λ p lt. times-other p x xs (λ e. omega (arith, e, lt, ge))) in
          let most : times s (x ∷ xs) ≤ 1 + times s xs = only_few s x xs in
          omega (arith, rest, same, most)
    ]

each_once : (f : ℕ → ℕ) (n : ℕ) → ((p : ℕ) → p < n → 1 ≤ f p) → n ≤ below f n
each_once f zero some = omega arith
each_once f (suc n) some =
    let rest = each_once f n (λ p lt. some p (omega (arith, lt))) in
    let here = some n (omega arith) in
    omega (arith, rest, here)

-- no number of a range has a fault if all together have none
pub range_none : (f : ℕ → List AuditFault) (low n s : ℕ) → flat_map f (range_with_len low n) ≡ [] → low ≤ s → s < low + n → f s ≡ []
range_none f low zero s none ge lt = absurd (omega (arith, ge, lt))
range_none f low (suc n) s none ge lt =
    let both = append-none (f low) (flat_map f (range_with_len (low + 1) n)) none in
    elim (cases_lt low s) [
      | inl less ↦ range_none f (low + 1) n s both.1 (omega (arith, less)) (omega (arith, lt))
      | inr le ↦ let same : low ≡ s = omega (arith, ge, le) in ap f (sym same) ∙ both.0
    ]

pub stamps_once : (xs : List ℕ) → repeat_faults xs ≡ [] → (s : ℕ) → times s xs ≤ 1
stamps_once xs none s =
    elim (cases_lt s (above xs)) [
      | inl lt ↦ leb-true _ _ (unless-none (leb (times s xs) 1) (StampRepeated s)
          (range_none (λ k. unless (leb (times k xs) 1) (StampRepeated k)) 0 (above xs) s none (omega arith) (omega (arith, lt))))
      | inr le ↦ elim (cases_lt (times s xs) 1) [
        | inl few ↦ omega (arith, few)
        | inr some ↦ let at = somewhere s xs some in let below = all_below xs at.0 at.1 in absurd (omega (arith, below, at.2, le))
      ]
    ]

pub stamps_there : (xs : List ℕ) → missing_faults xs ≡ [] → (s : ℕ) → s < length xs → 1 ≤ times s xs
stamps_there xs none s lt =
    leb-true _ _ (unless-none (leb 1 (times s xs)) (StampMissing s)
    (range_none (λ k. unless (leb 1 (times k xs)) (StampMissing k)) 0 (length xs) s none (omega arith) (omega (arith, lt))))

pub stamps_no_more : (xs : List ℕ) → missing_faults xs ≡ [] → (s : ℕ) → length xs ≤ s → times s xs ≡ 0
stamps_no_more xs none s le =
    let few = counted_few (length xs) s xs le in
    let all = each_once (λ p. times p xs) (length xs) (λ p lt. stamps_there xs none p lt) in
    omega (arith, few, all)
