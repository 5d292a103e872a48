-- Faults by number, and how often a stamp stands in a list of stamps.
use Rattle.std.proofs.Common.{◌≡◌, ℕ, zero, suc, ◌+◌, ◌-◌, ◌<◌, ◌≤◌, inl, inr, Bool, cond, leb, List, [], ◌∷◌, ◌++◌, length, slice_index, refl, sym, ap, subst, ◌∙◌, arith}
use Rattle.std.specs.List.{flat_map, range_with_len, sum_by}
use Rattle.std.specs.List.Sorted.{IsPermutation}
use Rattle.std.proofs.Math.Path.{fun_ext}
use Rattle.std.proofs.lemmas.List.Sums.{sum_by-cons}
use Rattle.std.proofs.lemmas.List.Sorted.{sum_by-IsPermutation}
use Rattle.std.proofs.lemmas.Bool.{cases_lt, cases_eq, le-leb, lt-leb, eq-eqb, ne_eqb}
use Rattle.comp_history.specs.Lists.{times, total, only}
use Rattle.comp_dump.specs.declared.fault.AuditFault.{AuditFault}
use Rattle.comp_dump.specs.declared.fault.AuditFault.TheVariants.{StampRepeated, StampMissing}
use Rattle.comp_audit.specs.Checks.{unless, above, repeat_faults, missing_faults}
use Rattle.comp_audit.specs.Reported.{IsFirst}
use Rattle.heap_layout.proofs.Rows.{first-part}

-- the first number of a range that has a fault
pub first_in_range : (f : ℕ → List AuditFault) (low n v : ℕ) (fault : AuditFault) → low ≤ v → v < low + n → ((s : ℕ) → low ≤ s → s < v → f s ≡ [])
    → IsFirst (f v) fault → IsFirst (flat_map f (range_with_len low n)) fault
first_in_range f low zero v fault from to none h = absurd (omega (arith, from, to))
first_in_range f low (suc n) v fault from to none h =
    elim (cases_lt low v) [
      | inl lt ↦
          subst (λ (front : List AuditFault). IsFirst (front ++ flat_map f (range_with_len (low + 1) n)) fault) (sym (none low (omega arith) lt))
          (first_in_range f (low + 1) n v fault (omega (arith, lt)) (omega (arith, to)) (λ s ge less. none s (omega (arith, ge)) less) h)
      | inr le ↦
          let same : v ≡ low = omega (arith, le, from) in
          first-part (f low) (flat_map f (range_with_len (low + 1) n)) fault (subst (λ (k : ℕ). IsFirst (f k) fault) same h)
    ]

-- no number of a range has a fault
pub none_in_range : (f : ℕ → List AuditFault) (low n : ℕ) → ((s : ℕ) → low ≤ s → s < low + n → f s ≡ []) → flat_map f (range_with_len low n) ≡ []
none_in_range f low zero none = refl
none_in_range f low (suc n) none =
    ap (λ (front : List AuditFault). front ++ flat_map f (range_with_len (low + 1) n)) (none low (omega arith) (omega arith))
    ∙ none_in_range f (low + 1) n (λ s ge lt. none s (omega (arith, ge)) (omega (arith, lt)))

only_same : (s x : ℕ) → s ≡ x → only s x ≡ 1
only_same s x e = ap (λ (b : Bool). cond b 1 0) (eq-eqb s x e)

only_other : (s x : ℕ) → (s ≡ x → ⊥) → only s x ≡ 0
only_other s x ne = ap (λ (b : Bool). cond b 1 0) (ne_eqb s x ne)

-- a number stands nowhere
absent : (s : ℕ) (xs : List ℕ) → ((i : ℕ) → i < length xs → s ≡ slice_index xs i → ⊥) → times s xs ≡ 0
absent s [] none = refl
absent s (x ∷ xs) none = omega (arith, only_other s x (none 0 (omega arith)), absent s xs (λ i inside. none (suc i) (omega (arith, inside))))

-- somewhere
pub found : (s : ℕ) (xs : List ℕ) (i : ℕ) → i < length xs → s ≡ slice_index xs i → 1 ≤ times s xs
found s [] i inside is = absurd (omega (arith, inside))
found s (x ∷ xs) zero inside is = omega (arith, only_same s x is)
found s (x ∷ xs) (suc i) inside is = omega (arith, found s xs i (omega (arith, inside)) is)

-- at two positions
twice : (s : ℕ) (xs : List ℕ) (i j : ℕ) → i < j → j < length xs → s ≡ slice_index xs i → s ≡ slice_index xs j → 2 ≤ times s xs
twice s [] i j lt inside p q = absurd (omega (arith, inside))
twice s (x ∷ xs) i zero lt inside p q = absurd (omega (arith, lt))
twice s (x ∷ xs) zero (suc j) lt inside p q = omega (arith, only_same s x p, found s xs j (omega (arith, inside)) q)
twice s (x ∷ xs) (suc i) (suc j) lt inside p q = omega (arith, twice s xs i j (omega (arith, lt)) (omega (arith, inside)) p q)

-- at no two positions
once : (s : ℕ) (xs : List ℕ) → ((i j : ℕ) → i < j → j < length xs → s ≡ slice_index xs i → s ≡ slice_index xs j → ⊥) → times s xs ≤ 1
once s [] none = omega arith
once s (x ∷ xs) none =
    let others = once s xs (λ i j lt inside. none (suc i) (suc j) (omega (arith, lt)) (omega (arith, inside))) in
    elim (cases_eq s x) [
      | inl same ↦ omega (arith, only_same s x same, absent s xs (λ i inside is. none 0 (suc i) (omega arith) (omega (arith, inside)) same is))
      | inr other ↦ omega (arith, only_other s x other, others)
    ]

-- a number that is counted stands at some position
pub somewhere : (s : ℕ) (xs : List ℕ) → 1 ≤ times s xs → (i : ℕ) × (i < length xs) × (s ≡ slice_index xs i)
somewhere s [] h = absurd (omega (arith, h))
somewhere s (x ∷ xs) h =
    elim (cases_eq s x) [
      | inl same ↦ (0, omega arith, same)
      | inr other ↦ let rest = somewhere s xs (omega (arith, h, only_other s x other)) in (suc rest.0, omega (arith, rest.1), rest.2)
    ]

-- each number is below what is above all
pub all_below : (xs : List ℕ) (i : ℕ) → i < length xs → slice_index xs i < above xs
all_below [] i inside = absurd (omega (arith, inside))
all_below (x ∷ xs) zero inside = omega arith
all_below (x ∷ xs) (suc i) inside = let rest = all_below xs i (omega (arith, inside)) in omega (arith, rest)

-- and nothing less is above all
least_above : (n : ℕ) (xs : List ℕ) → ((i : ℕ) → i < length xs → slice_index xs i < n) → above xs ≤ n
least_above n [] all = omega arith
least_above n (x ∷ xs) all =
    let here : x < n = all 0 (omega arith) in
    let rest = least_above n xs (λ i inside. all (suc i) (omega (arith, inside))) in
    omega (arith, here, rest)

above_by : (xs ys : List ℕ) → ((s : ℕ) → times s ys ≡ times s xs) → above ys ≤ above xs
above_by xs ys same = least_above (above xs) ys (λ i inside.
    let s = slice_index ys i in
    let at = somewhere s xs (omega (arith, same s, found s ys i inside refl)) in
    let below = all_below xs at.0 at.1 in
    omega (arith, at.2, below))

abbrev pub Sorted : List ℕ → Type 0
Sorted xs = (i j : ℕ) → i ≤ j → j < length xs → slice_index xs i ≤ slice_index xs j

abbrev pub RisesBelow : ℕ → List ℕ → Type 0
RisesBelow n xs = (k : ℕ) → k + 1 < n → slice_index xs k < slice_index xs (k + 1)

-- if numbers rise up to position n, then of two positions below n the later one has the greater number
apart : (n : ℕ) (xs : List ℕ) (i j : ℕ) → Sorted xs → RisesBelow n xs → i < j → j < n → n ≤ length xs → slice_index xs i < slice_index xs j
apart n xs i zero sorted rises lt below inside = absurd (omega (arith, lt))
apart n xs i (suc j) sorted rises lt below inside =
    let last : slice_index xs j < slice_index xs (suc j) = let h = rises j (omega (arith, below)) in let e : j + 1 ≡ suc j = omega arith in rw e at h in
    let before = sorted i j (omega (arith, lt)) (omega (arith, below, inside)) in
    omega (arith, last, before)

abbrev repeated : List ℕ → ℕ → List AuditFault
repeated xs s = unless (leb (times s xs) 1) (StampRepeated s)

abbrev missing : List ℕ → ℕ → List AuditFault
missing xs s = unless (leb 1 (times s xs)) (StampMissing s)

not_repeated : (s : ℕ) (xs : List ℕ) → times s xs ≤ 1 → repeated xs s ≡ []
not_repeated s xs h = rw (le-leb _ _ h) refl

-- the first number that follows an equal one
pub first_repeat : (xs : List ℕ) (i : ℕ) → 0 < i → i < length xs → Sorted xs → RisesBelow i xs → slice_index xs i ≡ slice_index xs (i - 1)
    → IsFirst (repeat_faults xs) (StampRepeated (slice_index xs i))
first_repeat xs i positive inside sorted rises same =
    let v = slice_index xs i in
    let two = twice v xs (i - 1) i (omega (arith, positive)) inside same refl in
    first_in_range (repeated xs) 0 (above xs) v (StampRepeated v) (omega arith) (let h = all_below xs i inside in omega (arith, h))
    (λ s ge lt. not_repeated s xs (once s xs (λ a b less within p q.
    elim (cases_lt b i) [
      | inl early ↦ let h = apart i xs a b sorted rises less early (omega (arith, inside)) in omega (arith, h, p, q)
      | inr late ↦ let h = sorted i b late within in omega (arith, h, lt, q)
    ])))
    (rw (lt-leb (times v xs) 1 (omega (arith, two))) refl)

pub none_repeat : (xs : List ℕ) → Sorted xs → RisesBelow (length xs) xs → repeat_faults xs ≡ []
none_repeat xs sorted rises =
    none_in_range (repeated xs) 0 (above xs)
    (λ s ge lt. not_repeated s xs (once s xs (λ a b less within p q. let h = apart (length xs) xs a b sorted rises less within (omega arith) in omega (arith, h, p, q))))

not_missing : (s : ℕ) (xs : List ℕ) → 1 ≤ times s xs → missing xs s ≡ []
not_missing s xs h = rw (le-leb _ _ h) refl

-- if each number below i stands at the position of that number and i does not, the number at position i is greater
past : (xs : List ℕ) (i : ℕ) → RisesBelow (length xs) xs → i < length xs → ((k : ℕ) → k < i → slice_index xs k ≡ k) → (slice_index xs i ≡ i → ⊥) → i < slice_index xs i
past xs zero rises inside below other = elim (cases_lt 0 (slice_index xs 0)) [ inl lt ↦ lt | inr le ↦ absurd (other (omega (arith, le))) ]
past xs (suc i) rises inside below other =
    let before = below i (omega arith) in
    let last : slice_index xs i < slice_index xs (suc i) = let h = rises i (omega (arith, inside)) in let e : i + 1 ≡ suc i = omega arith in rw e at h in
    elim (cases_lt (suc i) (slice_index xs (suc i))) [ inl lt ↦ lt | inr le ↦ absurd (other (omega (arith, before, last, le))) ]

-- the first number that does not stand at the position of that number
pub first_missing : (xs : List ℕ) (i : ℕ) → i < length xs → Sorted xs → RisesBelow (length xs) xs → ((k : ℕ) → k < i → slice_index xs k ≡ k) → (slice_index xs i ≡ i → ⊥)
    → IsFirst (missing_faults xs) (StampMissing i)
first_missing xs i inside sorted rises below other =
    let greater : i < slice_index xs i = past xs i rises inside below other in
    let none : times i xs ≡ 0 = absent i xs (λ k within is.
    elim (cases_lt k i) [
      | inl early ↦ let h = below k early in omega (arith, h, is, early)
      | inr late ↦ let h = sorted i k late within in omega (arith, h, is, greater)
    ]) in
    first_in_range (missing xs) 0 (length xs) i (StampMissing i) (omega arith) (omega (arith, inside))
    (λ s ge lt. not_missing s xs (found s xs s (omega (arith, lt, inside)) (sym (below s lt))))
    (rw none refl)

pub none_missing : (xs : List ℕ) → ((k : ℕ) → k < length xs → slice_index xs k ≡ k) → missing_faults xs ≡ []
none_missing xs all =
    none_in_range (missing xs) 0 (length xs) (λ s ge lt. not_missing s xs (found s xs s (omega (arith, lt)) (sym (all s (omega (arith, lt))))))

-- the faults of stamps are those of the same stamps in another order
pub same_repeats : (xs ys : List ℕ) → ((s : ℕ) → times s ys ≡ times s xs) → repeat_faults ys ≡ repeat_faults xs
same_repeats xs ys same =
    let one = above_by xs ys same in
    let other = above_by ys xs (λ s. sym (same s)) in
    let limit : above ys ≡ above xs = omega (arith, one, other) in
    let alike : repeated ys ≡ repeated xs = fun_ext (λ (s : ℕ). ap (λ (n : ℕ). unless (leb n 1) (StampRepeated s)) (same s)) in
    ap (λ (f : ℕ → List AuditFault). flat_map f (range_with_len 0 (above ys))) alike
    ∙ ap (λ (n : ℕ). flat_map (repeated xs) (range_with_len 0 n)) limit

pub same_missing : (xs ys : List ℕ) → length ys ≡ length xs → ((s : ℕ) → times s ys ≡ times s xs) → missing_faults ys ≡ missing_faults xs
same_missing xs ys long same =
    let alike : missing ys ≡ missing xs = fun_ext (λ (s : ℕ). ap (λ (n : ℕ). unless (leb 1 n) (StampMissing s)) (same s)) in
    ap (λ (f : ℕ → List AuditFault). flat_map f (range_with_len 0 (length ys))) alike
    ∙ ap (λ (n : ℕ). flat_map (missing xs) (range_with_len 0 n)) long

total_sum : (f : ℕ → ℕ) (xs : List ℕ) → total f xs ≡ sum_by f xs
total_sum f [] = refl
total_sum f (x ∷ xs) = omega (arith, total_sum f xs, sum_by-cons f x xs)

pub times_permuted : (xs ys : List ℕ) → IsPermutation xs ys → (s : ℕ) → times s ys ≡ times s xs
times_permuted xs ys moved s = total_sum (only s) ys ∙ sum_by-IsPermutation (only s) xs ys moved ∙ sym (total_sum (only s) xs)

-- if no number is below the one before it, no later one is below an earlier one
pub sorted_from : (xs : List ℕ) → ((k : ℕ) → k + 1 < length xs → slice_index xs k ≤ slice_index xs (k + 1)) → Sorted xs
sorted_from xs next i zero le inside = let same : i ≡ 0 = omega (arith, le) in rw same (omega arith)
sorted_from xs next i (suc j) le inside =
    elim (cases_lt i (suc j)) [
      | inl lt ↦
          let before = sorted_from xs next i j (omega (arith, lt)) (omega (arith, inside)) in
          let last : slice_index xs j ≤ slice_index xs (suc j) = let h = next j (omega (arith, inside)) in let e : j + 1 ≡ suc j = omega arith in rw e at h in
          omega (arith, before, last)
      | inr ge ↦ let same : i ≡ suc j = omega (arith, le, ge) in rw same (omega arith)
    ]
