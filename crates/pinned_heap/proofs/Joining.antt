-- Two parts, cut at an object that stays, are one.
use Rattle.std.proofs.Common.{◌≡◌, ℕ, zero, suc, ◌+◌, ◌-◌, ◌<◌, ◌≤◌, Bool, true, false, cond, List, ◌++◌, length, get_or, take, drop, inl, inr, sym, ap, subst, ◌∙◌, arith, length-take, length-drop, length-append}
use Rattle.std.proofs.lemmas.Bool.{cases_lt, both_ways}
use Rattle.std.proofs.lemmas.List.{get_or-take, get_or-drop, get_or_append_left, get_or-append_right}
use Rattle.heap_layout.specs.declared.edition.Edition.{Edition}
use Rattle.heap_layout.specs.Bits.{bit}
use Rattle.heap_layout.specs.Header.{header_of, refs_of, size_of}
use Rattle.heap_layout.specs.Heap.{header_at, IsPlaced, IsValue}
use Rattle.rest_marks.specs.Surveys.{marks_of}
use Rattle.pinned_heap.specs.Parts.{ArePartTables, IsObjectSlid, IsPartSlid, IsRunFilled}
use Rattle.pinned_heap.specs.Tables.{end_below}
use Rattle.pinned_heap.proofs.Ends.{end-low}
use Rattle.pinned_heap.proofs.SlidingPart.{object-kept, run-kept}

-- the ends never fall
step-up : (stays live : Bool) (i end : ℕ) → end ≤ i → end ≤ cond stays i end + cond live 1 0
step-up true true i end low = omega (arith, low)
step-up true false i end low = omega (arith, low)
step-up false true i end low = omega arith
step-up false false i end low = omega arith

ends-rise : (live staying : ℕ → Bool) (a n : ℕ) → end_below live staying a ≤ end_below live staying (a + n)
ends-rise live staying a zero = let e : a + 0 ≡ a = omega arith in omega (arith, ap (end_below live staying) e)
ends-rise live staying a (suc n) =
    let e : a + suc n ≡ suc (a + n) = omega arith in
    let before = ends-rise live staying a n in
    let step = step-up (staying (a + n)) (live (a + n)) (a + n) (end_below live staying (a + n)) (end-low live staying (a + n)) in
    omega (arith, ap (end_below live staying) e, before, step)

-- behind an object that stays all words end above it
end-past : (live staying : ℕ → Bool) (a b : ℕ) → staying a ≡ true → a < b → a ≤ end_below live staying b
end-past live staying a b stays past =
    let n = b - suc a in
    let e : suc a + n ≡ b = omega (arith, past) in
    let here : end_below live staying (suc a) ≡ a + cond (live a) 1 0 = ap (λ (t : Bool). cond t a (end_below live staying a) + cond (live a) 1 0) stays in
    let rise = ends-rise live staying (suc a) n in
    omega (arith, here, rise, ap (end_below live staying) e)

module _ (edition : Edition) (heads bits stays : List ℕ) (low : ℕ) (old : List ℕ) (tables : ArePartTables edition heads bits stays low old)
    (cut : ℕ) (behind : low < cut) (inside : cut < low + length old) (still : bit stays cut ≡ true) where
  abbrev middle : ℕ
  middle = cut - low

  abbrev front : List ℕ
  front = take middle old

  abbrev back : List ℕ
  back = drop middle old

  abbrev size_at : ℕ → ℕ
  size_at i = size_of (header_at edition old (i - low))

  front-long : length front ≡ middle
  front-long = omega (arith, length-take middle old, behind, inside)

  back-long : length back ≡ length old - middle
  back-long = length-drop middle old

  -- an object before the cut ends before it
  before-cut : (i : ℕ) → low ≤ i → i < cut → bit heads i ≡ true → i + size_at i ≤ cut
  before-cut i from lt head = elim (cases_lt cut (i + size_at i)) [
    | inl over ↦ absurd (both_ways (bit heads cut) (tables.apart i cut from (omega (arith, lt, inside)) head lt over) (tables.still cut still))
    | inr fits ↦ fits
  ]

  front-word : (n : ℕ) → n < middle → get_or front n 0 ≡ get_or old n 0
  front-word n lt = get_or-take middle old n 0 lt

  back-word : (n : ℕ) → get_or back n 0 ≡ get_or old (middle + n) 0
  back-word n = get_or-drop middle old n 0

  front-size : (i : ℕ) → low ≤ i → i < cut → size_of (header_at edition front (i - low)) ≡ size_at i
  front-size i from lt = ap (λ (w : ℕ). size_of (header_of edition w)) (front-word (i - low) (omega (arith, from, lt)))

  back-header : (i : ℕ) → cut ≤ i → get_or back (i - cut) 0 ≡ get_or old (i - low) 0
  back-header i from = let e : middle + (i - cut) ≡ i - low = omega (arith, from, behind) in back-word (i - cut) ∙ ap (λ (n : ℕ). get_or old n 0) e

  back-size : (i : ℕ) → cut ≤ i → size_of (header_at edition back (i - cut)) ≡ size_at i
  back-size i from = ap (λ (w : ℕ). size_of (header_of edition w)) (back-header i from)

  -- so the tables are those of both parts
  pub front-tables : ArePartTables edition heads bits stays low (take (cut - low) old)
  front-tables = record {
    few = omega (arith, front-long, tables.few, inside, behind);
    same = tables.same;
    first = elim tables.first [ inl zero_low ↦ inl zero_low | inr stay ↦ inr (stay.0, omega (arith, front-long, behind)) ];
    still = tables.still;
    placed = λ i from lt head.
        let under : i < cut = omega (arith, lt, front-long, behind) in
        let placed = tables.placed i from (omega (arith, under, inside)) head in
        let own = front-size i from under in
        record { within = omega (arith, own, before-cut i from under head, front-long, from); short = omega (arith, own, placed.short) };
    values = λ i f from lt head some few.
        let under : i < cut = omega (arith, lt, front-long, behind) in
        let header = front-word (i - low) (omega (arith, from, under)) in
        let refs : refs_of (header_at edition front (i - low)) ≡ refs_of (header_at edition old (i - low)) = ap (λ (w : ℕ). refs_of (header_of edition w)) header in
        let fits = before-cut i from under head in
        subst (IsValue edition (marks_of heads)) (sym (front-word (i - low + f) (omega (arith, few, refs, fits, from))))
        (tables.values i f from (omega (arith, under, inside)) head some (omega (arith, few, refs)));
    run = λ i j from lt head le below.
        let under : i < cut = omega (arith, lt, front-long, behind) in
        tables.run i j from (omega (arith, under, inside)) head le (omega (arith, below, front-size i from under));
    apart = λ i j from lt head past below.
        let under : i < cut = omega (arith, lt, front-long, behind) in
        tables.apart i j from (omega (arith, under, inside)) head past (omega (arith, below, front-size i from under));
    owned = λ j from lt set.
        let under : j < cut = omega (arith, lt, front-long, behind) in
        let at = tables.owned j from (omega (arith, under, inside)) set in
        (at.0, at.1, at.2, at.3, omega (arith, at.4, front-size at.0 at.1 (omega (arith, at.2, under))));
  }

  pub back-tables : ArePartTables edition heads bits stays cut (drop (cut - low) old)
  back-tables = record {
    few = omega (arith, back-long, tables.few);
    same = tables.same;
    first = inr (still, omega (arith, back-long, inside));
    still = tables.still;
    placed = λ i from lt head.
        let placed = tables.placed i (omega (arith, from, behind)) (omega (arith, lt, back-long, inside, behind)) head in
        let own = back-size i from in
        record { within = omega (arith, own, placed.within, back-long, from, behind); short = omega (arith, own, placed.short) };
    values = λ i f from lt head some few.
        let refs : refs_of (header_at edition back (i - cut)) ≡ refs_of (header_at edition old (i - low)) = ap (λ (w : ℕ). refs_of (header_of edition w)) (back-header i from) in
        let e : middle + (i - cut + f) ≡ i - low + f = omega (arith, from, behind) in
        subst (IsValue edition (marks_of heads)) (sym (back-word (i - cut + f) ∙ ap (λ (n : ℕ). get_or old n 0) e))
        (tables.values i f (omega (arith, from, behind)) (omega (arith, lt, back-long, inside, behind)) head some (omega (arith, few, refs)));
    run = λ i j from lt head le below.
        tables.run i j (omega (arith, from, behind)) (omega (arith, lt, back-long, inside, behind)) head le (omega (arith, below, back-size i from));
    apart = λ i j from lt head past below.
        tables.apart i j (omega (arith, from, behind)) (omega (arith, lt, back-long, inside, behind)) head past (omega (arith, below, back-size i from));
    owned = λ j from lt set.
        let at = tables.owned j (omega (arith, from, behind)) (omega (arith, lt, back-long, inside, behind)) set in
        elim (cases_lt at.0 cut) [
          | inl under ↦ absurd (let fits = before-cut at.0 at.1 under at.3 in omega (arith, fits, at.4, from))
          | inr past ↦ (at.0, past, at.2, at.3, omega (arith, at.4, back-size at.0 past))
        ];
  }

  -- and if both are slid, the whole is
  pub joined : (one other : List ℕ) → IsPartSlid edition heads bits stays low (take (cut - low) old) one → IsPartSlid edition heads bits stays cut (drop (cut - low) old) other
      → IsPartSlid edition heads bits stays low old (one ++ other)
  joined one other first second =
      let all = one ++ other in
      let one_long : length one ≡ middle = first.long ∙ front-long in
      let none : low + 0 ≡ low = omega arith in
      let both : low + middle ≡ cut = omega (arith, behind) in
      let in_front : (k : ℕ) → k < length front → get_or all (0 + k) 0 ≡ get_or one k 0 = λ k lt.
      let e : 0 + k ≡ k = omega arith in
      ap (λ (n : ℕ). get_or all n 0) e ∙ get_or_append_left one other 0 k (omega (arith, lt, front-long, one_long)) in
      let in_back : (k : ℕ) → k < length back → get_or all (middle + k) 0 ≡ get_or other k 0 = λ k lt.
      let e : middle + k - middle ≡ k = omega arith in
      get_or-append_right one other middle (middle + k) 0 one_long (omega arith) ∙ ap (λ (n : ℕ). get_or other n 0) e in
      let was_front : (k : ℕ) → k < length front → get_or old (0 + k) 0 ≡ get_or front k 0 = λ k lt.
      let e : 0 + k ≡ k = omega arith in
      ap (λ (n : ℕ). get_or old n 0) e ∙ sym (front-word k (omega (arith, lt, front-long))) in
      let was_back : (k : ℕ) → k < length back → get_or old (middle + k) 0 ≡ get_or back k 0 = λ k lt. sym (back-word k) in
      record {
        long = length-append one other ∙ omega (arith, one_long, second.long, back-long, inside, behind);
        objects = λ i from lt head. elim (cases_lt i cut) [
          | inl under ↦
              object-kept edition heads bits stays low 0 front one old all (length front) (length old) (omega (arith, front-long, inside, behind)) was_front in_front
              i (omega (arith, from)) (omega (arith, under, front-long, behind))
              (subst (λ (n : ℕ). IsPlaced edition front (i - n)) (sym none) (front-tables.placed i from (omega (arith, under, front-long, behind)) head))
              (subst (λ (n : ℕ). IsObjectSlid edition heads bits stays n front (length front) one i) (sym none) (first.objects i from (omega (arith, under, front-long, behind)) head))
          | inr past ↦
              object-kept edition heads bits stays low middle back other old all (length back) (length old) (omega (arith, back-long, inside, behind)) was_back in_back
              i (omega (arith, past, both)) (omega (arith, lt, back-long, inside, behind))
              (subst (λ (n : ℕ). IsPlaced edition back (i - n)) (sym both) (back-tables.placed i past (omega (arith, lt, back-long, inside, behind)) head))
              (subst (λ (n : ℕ). IsObjectSlid edition heads bits stays n back (length back) other i) (sym both) (second.objects i past (omega (arith, lt, back-long, inside, behind)) head))
        ];
        filled = λ i past le set some. elim (cases_lt cut i) [
          | inl later ↦
              run-kept edition heads bits stays low middle back other old all (length back) (length old) (omega (arith, back-long, inside, behind)) was_back in_back i some
              (subst (λ (n : ℕ). IsRunFilled edition bits stays n (length back) other i) (sym both) (second.filled i later (omega (arith, le, back-long, inside, behind)) set some))
          | inr under ↦
              run-kept edition heads bits stays low 0 front one old all (length front) (length old) (omega (arith, front-long, inside, behind)) was_front in_front i some
              (subst (λ (n : ℕ). IsRunFilled edition bits stays n (length front) one i) (sym none) (first.filled i past (omega (arith, under, front-long, behind)) set some))
        ];
        behind = λ unset k le.
            let end : cut + length back ≡ low + length old = omega (arith, back-long, inside, behind) in
            let above = end-past (bit bits) (bit stays) cut (low + length old) still inside in
            let n = k - middle in
            let there : k ≡ middle + n = omega (arith, above, le, behind) in
            let same : get_or other n 0 ≡ get_or back n 0 =
            second.behind (ap (bit stays) end ∙ unset) n (omega (arith, ap (end_below (bit bits) (bit stays)) end, le, there, both)) in
            get_or-append_right one other middle k 0 one_long (omega (arith, there)) ∙ same ∙ back-word n ∙ ap (λ (m : ℕ). get_or old m 0) (sym there);
      }
