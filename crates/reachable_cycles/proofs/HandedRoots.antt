-- Roots that are handed in, each of which must be null, an immediate, or lead to an object.
use Rattle.std.proofs.Common.{◌≡◌, ℕ, zero, suc, ◌+◌, ◌-◌, ◌*◌, ◌^◌, ◌<◌, ◌≤◌, Bool, cond, true, false, eqb, leb, Option, Some, None, List, [], ◌∷◌, ◌++◌, All, inl, inr, length, get_or, map, refl, sym, ap, subst, ◌∙◌, arith}
use Rattle.std.specs.List.{flat_map, enumerate_from}
use Rattle.std.proofs.lemmas.Bool.{and_from, and_parts, both_ways, cases_Bool, cases_lt, eqb-true, le-leb, or_cases, or_left, or_right}
use Rattle.std.proofs.lemmas.List.{length-map, get_or-map}
use Rattle.heap_layout.specs.Bits.{bit, leads}
use Rattle.heap_layout.specs.declared.edition.Edition.{Edition}
use Rattle.heap_layout.specs.Limits.{most_words}
use Rattle.heap_layout.specs.Values.{is_immediate, or_immediate, IsImmediate}
use Rattle.heap_layout.specs.Heap.{IsClosed}
use Rattle.heap_layout.proofs.Bounds.{words_most}
use Rattle.heap_layout.proofs.Values.{no-immediate, nowhere-null, nowhere-immediate, nowhere-cases}
use Rattle.heap_layout.specs.Faults.{unless, root_faults_by, IsFirst}
use Rattle.heap_layout.specs.declared.fault.LayoutFault.{LayoutFault}
use Rattle.heap_layout.specs.declared.fault.LayoutFault.TheVariants.{BadRoot}
use Rattle.heap_layout.specs.declared.kind.Kind.{Kind}
use Rattle.heap_layout.specs.declared.kind.Kind.TheVariants.{Header, Reference, Weak, Data}
use Rattle.heap_layout.proofs.Rows.{append-none, unless-none}
use Rattle.page_plan.specs.Sliding.{to_address}
use Rattle.comp_history.specs.Setup.{Setup, pages}
use Rattle.comp_history.specs.Locks.{Journals}
use Rattle.comp_history.specs.Objects.{IsObjectAt, LeadsToObject}
use Rattle.comp_history.specs.Merged.{CanMerge}
use Rattle.comp_cycles.specs.Ends.{AreMoved}
use Rattle.comp_cycles.specs.NextHeap.{held, is_header, kind_in, lowered}
use Rattle.comp_cycles.proofs.Finals.{is_object}
use Rattle.comp_cycles.proofs.Handed.{IsHigh, all_held, held_cases, held_high, held_low, immediate_high}
use Rattle.comp_cycles.proofs.Immediates.{lower-immediate, not-immediate}
use Rattle.reachable_cycles.specs.NextRoots.{IsFirstBad}
use Rattle.reachable_cycles.proofs.NextMarks.{index_of}

-- root k is the first that fails the test
pub record IsFirstFailing (test : ℕ → Bool) (roots : List ℕ) (k : ℕ) : Type 0 where
  pub inside : k < length roots
  pub fails : test (get_or roots k 0) ≡ false
  pub others : (j : ℕ) → j < k → test (get_or roots j 0) ≡ true

-- the faults of roots of which the first has this number
abbrev faults_from : (ℕ → Bool) → ℕ → List ℕ → List LayoutFault
faults_from test number roots = flat_map (λ root. unless (test root.1) (BadRoot root.0)) (enumerate_from number roots)

first_from : (test : ℕ → Bool) (number : ℕ) (roots : List ℕ) (fault : LayoutFault) → IsFirst (faults_from test number roots) fault
    → (k : ℕ) × (fault ≡ BadRoot (number + k)) × IsFirstFailing test roots k
first_from test number [] fault first = absurd first
first_from test number (root ∷ roots) fault first =
    elim (cases_Bool (test root)) [
      | inl passes ↦
          let later : IsFirst (faults_from test (number + 1) roots) fault =
          subst (λ (b : Bool). IsFirst (unless b (BadRoot number) ++ faults_from test (number + 1) roots) fault) passes first in
          let found = first_from test (number + 1) roots fault later in
          let k = found.0 in
          let at : number + 1 + k ≡ number + suc k = omega arith in
          let is = found.2 in
          let inside = is.inside in (
            suc k,
            found.1 ∙ ap BadRoot at,
            record {
              inside = omega arith;
              fails = is.fails;
              others = λ j below. others root roots k is passes j below;
            },
          )
      | inr fails ↦
          let here : fault ≡ BadRoot number =
          subst (λ (b : Bool). IsFirst (unless b (BadRoot number) ++ faults_from test (number + 1) roots) fault) fails first in
          let at : number ≡ number + 0 = omega arith in
          (0, here ∙ ap BadRoot at, record { inside = omega arith; fails = fails; others = λ j below. absurd (omega arith) })
    ]
  where
    others : (root : ℕ) (roots : List ℕ) (k : ℕ) → IsFirstFailing test roots k → test root ≡ true → (j : ℕ) → j < suc k → test (get_or (root ∷ roots) j 0) ≡ true
    others root roots k is passes zero below = passes
    others root roots k is passes (suc j) below = is.others j (omega arith)

-- the first fault is that of the first root that fails
pub first_failing : (test : ℕ → Bool) (roots : List ℕ) (fault : LayoutFault) → IsFirst (root_faults_by test roots) fault → (k : ℕ) × (fault ≡ BadRoot k) × IsFirstFailing test roots k
first_failing test roots fault first =
    let found = first_from test 0 roots fault first in
    let at : 0 + found.0 ≡ found.0 = omega arith in
    (found.0, found.1 ∙ ap BadRoot at, found.2)

-- where there is no fault, each root passes
none_from : (test : ℕ → Bool) (number : ℕ) (roots : List ℕ) → faults_from test number roots ≡ [] → All (λ root. test root ≡ true) roots
none_from test number [] none k default within = absurd (omega arith)
none_from test number (root ∷ roots) none zero default within =
    unless-none _ _ (append-none (unless (test root) (BadRoot number)) (faults_from test (number + 1) roots) none).0
none_from test number (root ∷ roots) none (suc k) default within =
    none_from test (number + 1) roots (append-none (unless (test root) (BadRoot number)) (faults_from test (number + 1) roots) none).1 k default (omega arith)

pub none_failing : (test : ℕ → Bool) (roots : List ℕ) → root_faults_by test roots ≡ [] → All (λ root. test root ≡ true) roots
none_failing test roots none = none_from test 0 roots none

-- ---- roots of the next heap

header_is : (o : Option Kind) → is_header o ≡ true → o ≡ Some Header
header_is None is = absurd (let no : false ≡ true = is in cc)
header_is (Some Header) is = refl
header_is (Some Reference) is = absurd (let no : false ≡ true = is in cc)
header_is (Some Weak) is = absurd (let no : false ≡ true = is in cc)
header_is (Some Data) is = absurd (let no : false ≡ true = is in cc)

-- an immediate stays as it is, and any other word is lowered
lowered_stays : (edition : Edition) (w : ℕ) → IsImmediate edition w → lowered edition w ≡ w
lowered_stays edition w is = ap (λ (b : Bool). cond b w (w - 2 ^ 32)) is

lowered_moves : (edition : Edition) (w : ℕ) → is_immediate edition w ≡ false → lowered edition w ≡ w - 2 ^ 32
lowered_moves edition w other = ap (λ (b : Bool). cond b w (w - 2 ^ 32)) other

module _ (u : Setup) (journals : Journals) (closed : IsClosed u.heap) (can : CanMerge u journals) where
  -- null, immediates and the starts of objects are read as they are
  lead_high : (w : ℕ) → LeadsToObject u journals w → IsHigh w
  lead_high w (inl nowhere) = elim (nowhere-cases u.heap.edition w nowhere) [ inl null ↦ inl null | inr immediate ↦ immediate_high u.heap.edition w immediate ]
  lead_high w (inr is) = let at = index_of u journals closed can w is in let here = at.1 in inr (omega arith)

  pub lead_held : (roots : List ℕ) → All (LeadsToObject u journals) roots → map held roots ≡ roots
  lead_held roots lead = all_held roots (λ i lt. held_high (get_or roots i 0) (lead_high (get_or roots i 0) (lead i 0 lt)))

  module _ (words bits : List ℕ) (moved : AreMoved u journals (64 * pages u) words bits) (few : 64 * pages u ≤ most_words u.heap.edition) where
    abbrev low : ℕ → ℕ
    low = lowered u.heap.edition

    abbrev passes_low : ℕ → Bool
    passes_low = or_immediate u.heap.edition (leads bits)

    -- the bits say which words lead to objects: those that do pass
    object_passes : (w : ℕ) → LeadsToObject u journals w → passes_low (low (held w)) ≡ true
    object_passes w (inl nowhere) = elim (nowhere-cases u.heap.edition w nowhere) [
      | inl null ↦
          let zero_low : low 0 ≡ 0 = lowered_moves u.heap.edition 0 (not-immediate u.heap.edition 0 (omega arith)) in
          ap (λ (x : ℕ). passes_low (low (held x))) null ∙ ap passes_low zero_low ∙ or_right (is_immediate u.heap.edition 0) (leads bits 0) refl
      | inr immediate ↦
          let stays : held w ≡ w = held_high w (immediate_high u.heap.edition w immediate) in
          ap (λ (x : ℕ). passes_low (low x)) stays ∙ ap passes_low (lowered_stays u.heap.edition w immediate) ∙ or_left (is_immediate u.heap.edition w) (leads bits w) immediate
    ]
    object_passes w (inr is) =
        let at = index_of u journals closed can w is in
        let i = at.0 in
        let here = at.1 in
        let real = at.2 in
        let stays : held w ≡ w = held_high w (inr (omega arith)) in
        let inside = real.inside in
        let small : w < 2 ^ 63 = omega (arith, here, inside, few, words_most u.heap.edition) in
        let moves : low w ≡ w - 2 ^ 32 = lowered_moves u.heap.edition w (not-immediate u.heap.edition w small) in
        let at_low : low (held w) ≡ 2 ^ 32 + i = ap low stays ∙ omega arith in
        let back : 2 ^ 32 + i - 2 ^ 32 ≡ i = omega arith in
        let set : bit bits i ≡ true = moved.starts i real.inside ∙ ap is_header real.head in
        ap passes_low at_low
        ∙ or_right (is_immediate u.heap.edition (2 ^ 32 + i)) (leads bits (2 ^ 32 + i))
        (or_right (eqb (2 ^ 32 + i) 0) _ (and_from (leb (2 ^ 32) (2 ^ 32 + i)) (bit bits (2 ^ 32 + i - 2 ^ 32)) (le-leb (2 ^ 32) (2 ^ 32 + i) (omega arith)) (ap (bit bits) back ∙ set)))

    -- a bit that is set is that of an object
    object_there : (w i : ℕ) → to_address i ≡ w → bit bits i ≡ true → LeadsToObject u journals w
    object_there w i here set =
        elim (cases_lt i (64 * pages u)) [
          | inl inside ↦
              let kind : kind_in u journals i ≡ Some Header = header_is (kind_in u journals i) (sym (moved.starts i inside) ∙ set) in
              inr (subst (IsObjectAt u journals) here (is_object u journals closed can i inside kind))
          | inr past ↦ absurd (both_ways _ (moved.rest i past) set)
        ]

    -- and no others, besides immediates
    target_leads : (w : ℕ) → leads bits (held w - 2 ^ 32) ≡ true → LeadsToObject u journals w
    target_leads w passes =
        elim (cases_lt w (2 ^ 33)) [
          | inl under ↦ elim (cases_lt 0 w) [
            | inl some ↦
                let read = held_low w some under in
                let one : held w - 2 ^ 32 ≡ 1 = omega arith in
                absurd (let no : false ≡ true = sym (ap (leads bits) one) ∙ passes in cc)
            | inr none ↦ inl (nowhere-null u.heap.edition w (omega arith))
          ]
          | inr high ↦
              let stays : held w ≡ w = held_high w (inr high) in
              elim (or_cases (eqb (held w - 2 ^ 32) 0) _ passes) [
                | inl null ↦ absurd (let none = eqb-true (held w - 2 ^ 32) 0 null in omega arith)
                | inr address ↦
                    let i = w - 2 ^ 33 in
                    let at : held w - 2 ^ 32 - 2 ^ 32 ≡ i = omega arith in
                    let set : bit bits i ≡ true = sym (ap (bit bits) at) ∙ (and_parts (leb (2 ^ 32) (held w - 2 ^ 32)) (bit bits (held w - 2 ^ 32 - 2 ^ 32)) address).1 in
                    object_there w i (omega arith) set
              ]
        ]

    held_immediate : (w : ℕ) → IsImmediate u.heap.edition (held w) → LeadsToObject u journals w
    held_immediate w immediate = elim (held_cases w) [
      | inl same ↦ inl (nowhere-immediate u.heap.edition w (ap (is_immediate u.heap.edition) (sym same.0) ∙ immediate))
      | inr other ↦ absurd (no-immediate u.heap.edition (held w) (omega (arith, other)) immediate)
    ]

    passing_leads : (w : ℕ) → passes_low (low (held w)) ≡ true → LeadsToObject u journals w
    passing_leads w passes = elim (cases_Bool (is_immediate u.heap.edition (held w))) [
      | inl immediate ↦ held_immediate w immediate
      | inr other ↦
          let moves : low (held w) ≡ held w - 2 ^ 32 = lowered_moves u.heap.edition (held w) other in
          let under : is_immediate u.heap.edition (held w - 2 ^ 32) ≡ false = lower-immediate u.heap.edition (held w) (held w - 2 ^ 32) (omega arith) other in
          elim (or_cases (is_immediate u.heap.edition (held w - 2 ^ 32)) (leads bits (held w - 2 ^ 32)) (sym (ap passes_low moves) ∙ passes)) [
            | inl immediate ↦ absurd (both_ways _ under immediate)
            | inr there ↦ target_leads w there
          ]
    ]

    lowered_at : (roots : List ℕ) (k default : ℕ) → k < length roots → get_or (map low (map held roots)) k 0 ≡ low (held (get_or roots k default))
    lowered_at roots k default lt =
        let long = length-map roots held in
        get_or-map low (map held roots) k 0 0 (omega (arith, long)) ∙ ap low (get_or-map held roots k default 0 lt)

    lowered_long : (roots : List ℕ) → length (map low (map held roots)) ≡ length roots
    lowered_long roots = length-map (map held roots) low ∙ length-map roots held

    -- if the lowered roots have no fault, each root leads to an object
    pub roots_lead : (roots : List ℕ) → root_faults_by passes_low (map low (map held roots)) ≡ [] → All (LeadsToObject u journals) roots
    roots_lead roots none k default lt =
        let pass = none_failing passes_low (map low (map held roots)) none k 0 (omega (arith, lowered_long roots)) in
        passing_leads (get_or roots k default) (sym (ap passes_low (lowered_at roots k default lt)) ∙ pass)

    -- their first fault is that of the first root that does not
    pub first_bad : (roots : List ℕ) (fault : LayoutFault) → IsFirst (root_faults_by passes_low (map low (map held roots))) fault
        → (k : ℕ) × (fault ≡ BadRoot k) × IsFirstBad u journals roots k
    first_bad roots fault first =
        let found = first_failing passes_low (map low (map held roots)) fault first in
        let k = found.0 in
        let is = found.2 in
        let inside : k < length roots = (let below = is.inside in omega (arith, lowered_long roots)) in (
          k,
          found.1,
          record {
            inside = inside;
            bad = λ lead. both_ways _ (sym (ap passes_low (lowered_at roots k 0 inside)) ∙ is.fails) (object_passes (get_or roots k 0) lead);
            others = λ j below. passing_leads (get_or roots j 0) (sym (ap passes_low (lowered_at roots j 0 (omega arith))) ∙ is.others j below);
          },
        )
