-- Pages with their numbers: which page has a number, and what one page more makes of all.
use Rattle.std.proofs.Common.{◌≡◌, ◌∙◌, ℕ, zero, suc, ◌+◌, ◌<◌, ◌≤◌, inl, inr, List, [], ◌∷◌, ◌++◌, length, map, get_or, Option, Some, None, ap, arith, eq-eqb, ne_eqb, length-append, refl, subst, sym}
use Rattle.std.specs.List.{range_with_len}
use Rattle.std.proofs.lemmas.Bool.{cases_lt}
use Rattle.std.proofs.lemmas.List.{get_or_append_left, get_or_past, get_or_push}
use Rattle.std.proofs.lemmas.List.FromFn.{fill_by_all, get_or-map-range_with_len, length-map-range_with_len, map-range_with_len_more}
use Rattle.comp_dump.specs.Dumped.{BuiltPage}
use Rattle.comp_dump.specs.Sparse.{numbered, spread, AreNumbered, AreRising}

-- no page has a number that stands nowhere
pub none_numbered : (numbers : List ℕ) (pages : List BuiltPage) (p : ℕ) → ((i : ℕ) → i < length numbers → get_or numbers i 0 ≡ p → ⊥) → numbered numbers pages p ≡ None
none_numbered [] pages p nowhere = refl
none_numbered (n ∷ numbers) [] p nowhere = refl
none_numbered (n ∷ numbers) (page ∷ pages) p nowhere =
    rw (ne_eqb n p (nowhere zero (omega arith))) (none_numbered numbers pages p (λ i lt. nowhere (suc i) (omega (arith, lt))))

-- the page at place i has the number there, if that number does not stand before it
first_numbered : (numbers : List ℕ) (pages : List BuiltPage) (i : ℕ) (d : BuiltPage) (p : ℕ) → i < length numbers → length numbers ≡ length pages → get_or numbers i 0 ≡ p
    → ((k : ℕ) → k < i → get_or numbers k 0 ≡ p → ⊥) → numbered numbers pages p ≡ Some (get_or pages i d)
first_numbered [] pages i d p lt long here before = absurd (omega (arith, lt))
first_numbered (n ∷ numbers) [] i d p lt long here before = absurd (omega (arith, long))
first_numbered (n ∷ numbers) (page ∷ pages) zero d p lt long here before = rw (eq-eqb n p here) refl
first_numbered (n ∷ numbers) (page ∷ pages) (suc i) d p lt long here before =
    rw (ne_eqb n p (before zero (omega arith))) (first_numbered numbers pages i d p (omega (arith, lt)) (omega (arith, long)) here (λ k under. before (suc k) (omega (arith, under))))

pub place_numbered : (numbers : List ℕ) (pages : List BuiltPage) (i : ℕ) (d : BuiltPage) (p : ℕ) → i < length numbers → length numbers ≡ length pages → AreRising numbers → get_or numbers i 0 ≡ p
    → numbered numbers pages p ≡ Some (get_or pages i d)
place_numbered numbers pages i d p lt long rising here =
    first_numbered numbers pages i d p lt long here (λ k under same. absurd (omega (arith, rising k i under lt, same, here)))

-- one page more does not change which page has another number
other_numbered : (numbers : List ℕ) (pages : List BuiltPage) (n p : ℕ) (page : BuiltPage) → length numbers ≡ length pages → (n ≡ p → ⊥) → numbered (numbers ++ n ∷ []) (pages ++ page ∷ []) p ≡ numbered numbers pages p
other_numbered [] [] n p page long other = rw (ne_eqb n p other) refl
other_numbered [] (x ∷ pages) n p page long other = absurd (omega (arith, long))
other_numbered (m ∷ numbers) [] n p page long other = absurd (omega (arith, long))
other_numbered (m ∷ numbers) (x ∷ pages) n p page long other = rw (other_numbered numbers pages n p page (omega (arith, long)) other) refl

-- and it has the new number, if that did not stand before
new_numbered : (numbers : List ℕ) (pages : List BuiltPage) (n : ℕ) (page : BuiltPage) → length numbers ≡ length pages → ((i : ℕ) → i < length numbers → get_or numbers i 0 < n)
    → numbered (numbers ++ n ∷ []) (pages ++ page ∷ []) n ≡ Some page
new_numbered [] [] n page long below = rw (eq-eqb n n refl) refl
new_numbered [] (x ∷ pages) n page long below = absurd (omega (arith, long))
new_numbered (m ∷ numbers) [] n page long below = absurd (omega (arith, long))
new_numbered (m ∷ numbers) (x ∷ pages) n page long below =
    rw (ne_eqb m n (λ same. absurd (omega (arith, below zero (omega arith), same)))) (new_numbered numbers pages n page (omega (arith, long)) (λ i lt. below (suc i) (omega (arith, lt))))

-- as many pages as are counted
pub length-spread : (count : ℕ) (numbers : List ℕ) (pages : List BuiltPage) → length (spread count numbers pages) ≡ count
unfolding spread
length-spread count numbers pages = length-map-range_with_len (numbered numbers pages) 0 count

-- page p is the one that has its number
pub at_spread : (count : ℕ) (numbers : List ℕ) (pages : List BuiltPage) (p : ℕ) → p < count → get_or (spread count numbers pages) p None ≡ numbered numbers pages p
unfolding spread
at_spread count numbers pages p lt = get_or-map-range_with_len (numbered numbers pages) 0 count p p None lt (omega arith)

pub past_spread : (count : ℕ) (numbers : List ℕ) (pages : List BuiltPage) (p : ℕ) → count ≤ p → get_or (spread count numbers pages) p None ≡ None
past_spread count numbers pages p le = get_or_past (spread count numbers pages) p None (omega (arith, le, length-spread count numbers pages))

-- a page more that was never built
pub spread_unbuilt : (count : ℕ) (numbers : List ℕ) (pages : List BuiltPage) → AreNumbered count numbers pages → spread (count + 1) numbers pages ≡ spread count numbers pages ++ None ∷ []
unfolding spread
spread_unbuilt count numbers pages are =
    map-range_with_len_more (numbered numbers pages) 0 count count (omega arith)
    ∙ ap (λ (page : Option BuiltPage). map (numbered numbers pages) (range_with_len 0 count) ++ page ∷ [])
    (none_numbered numbers pages count (λ i lt same. absurd (omega (arith, are.below i lt, same))))

-- a page more that was built
pub spread_built : (count : ℕ) (numbers : List ℕ) (pages : List BuiltPage) (page : BuiltPage) → AreNumbered count numbers pages
    → spread (count + 1) (numbers ++ count ∷ []) (pages ++ page ∷ []) ≡ spread count numbers pages ++ Some page ∷ []
unfolding spread
spread_built count numbers pages page are =
    let old : ℕ → Option BuiltPage = numbered numbers pages in
    let new : ℕ → Option BuiltPage = numbered (numbers ++ count ∷ []) (pages ++ page ∷ []) in
    let same : map old (range_with_len 0 count) ≡ map new (range_with_len 0 count) =
    fill_by_all new (map old (range_with_len 0 count)) count None (length-map-range_with_len old 0 count)
    (λ k lt. get_or-map-range_with_len old 0 count k k None lt (omega arith) ∙ sym (other_numbered numbers pages count k page are.long (λ is. absurd (omega (arith, lt, is))))) in
    map-range_with_len_more new 0 count count (omega arith)
    ∙ ap (λ (front : List (Option BuiltPage)). front ++ new count ∷ []) (sym same)
    ∙ ap (λ (last : Option BuiltPage). map old (range_with_len 0 count) ++ last ∷ []) (new_numbered numbers pages count page are.long are.below)

-- the numbers still rise, and are below the new count
pub still_numbered : (count : ℕ) (numbers : List ℕ) (pages : List BuiltPage) → AreNumbered count numbers pages → AreNumbered (count + 1) numbers pages
still_numbered count numbers pages are = record { long = are.long; rising = are.rising; below = λ i lt. omega (arith, are.below i lt) }

pub more_numbered : (count : ℕ) (numbers : List ℕ) (pages : List BuiltPage) (page : BuiltPage) → AreNumbered count numbers pages → AreNumbered (count + 1) (numbers ++ count ∷ []) (pages ++ page ∷ [])
more_numbered count numbers pages page are =
    let more : length (numbers ++ count ∷ []) ≡ length numbers + 1 = length-append numbers (count ∷ []) in
    let front : (i : ℕ) → i < length numbers → get_or (numbers ++ count ∷ []) i 0 ≡ get_or numbers i 0 = λ i lt. get_or_append_left numbers (count ∷ []) 0 i lt in
    let last : (i : ℕ) → length numbers ≡ i → get_or (numbers ++ count ∷ []) i 0 ≡ count = λ i is. get_or_push numbers count 0 i is in
    record {
      long = omega (arith, more, length-append pages (page ∷ []), are.long);
      rising = λ i j under lt. elim (cases_lt j (length numbers)) [
        | inl before ↦ omega (arith, front i (omega (arith, under, before)), front j before, are.rising i j under before)
        | inr behind ↦ omega (arith, front i (omega (arith, under, lt, more)), last j (omega (arith, behind, lt, more)), are.below i (omega (arith, under, lt, more)))
      ];
      below = λ i lt. elim (cases_lt i (length numbers)) [
        | inl before ↦ omega (arith, front i before, are.below i before)
        | inr behind ↦ omega (arith, last i (omega (arith, behind, lt, more)))
      ];
    }
