-- A step that keeps objects keeps exactly those that the roots reach.
use Rattle.std.proofs.Common.{◌≡◌, ℕ, ◌+◌, ◌<◌, ◌≤◌, false, List, length, get_or, refl, sym, ap, subst, ◌∙◌, inl, inr, arith}
use Rattle.std.proofs.lemmas.Bool.{both_ways, cases_lt}
use Rattle.std.proofs.lemmas.List.{get_or_past}
use Rattle.heap_layout.specs.Header.{Head, header_of, refs_of}
use Rattle.heap_layout.specs.Kinds.{first_of}
use Rattle.heap_layout.specs.Heap.{Heap, IsClosed}
use Rattle.heap_layout.specs.declared.kind.Kind.TheVariants.{Weak}
use Rattle.heap_layout.specs.Values.{is_immediate, LeadsNowhere}
use Rattle.heap_layout.proofs.Values.{nowhere-cases}
use Rattle.heap_layout.proofs.Indexed.{at_below, read_at}
use Rattle.comp_cycles.specs.Cycles.{AreApart}
use Rattle.comp_cycles.specs.NumberedHeaps.{IsNumberedAs}
use Rattle.comp_cycles.specs.Stable.{StableHeap, Keeps, IsAmong, MayKeep, head_of, left_words, stepped}
use Rattle.comp_cycles.proofs.Leaving.{left_other, left_long, left_at}
use Rattle.reachability.specs.Reachable.{AreReachable}
use Rattle.reachable_cycles.specs.StableReach.{LeadsTo, IsReachableIn, KeepsExactly, by_root, by_reference}
use Rattle.reachable_cycles.proofs.Numbers.{number, numbers_long, number_is, to_stable, contains_at}

-- ---- words that stay

-- the header and the references of an object stay when only some objects are kept
left_first : (header : Head) (objects words : List ℕ) (at : ℕ) → at < first_of Weak header → get_or (left_words header objects 0 words) at 0 ≡ get_or words at 0
left_first header objects words at first =
    elim (cases_lt at (length words)) [
      | inl inside ↦
          let here : 0 + at ≡ at = omega arith in
          left_at header objects 0 words at inside ∙ left_other header objects (0 + at) (get_or words at 0) (λ behind. absurd (omega arith))
      | inr past ↦
          let long = left_long header objects 0 words in
          get_or_past (left_words header objects 0 words) at 0 (omega arith) ∙ sym (get_or_past words at 0 past)
    ]

module _ (stable : StableHeap) (objects : List ℕ) where
  abbrev kept : StableHeap
  kept = stepped stable (Keeps objects)

  head_kept : (m : ℕ) → head_of kept m ≡ head_of stable m
  head_kept m = ap (header_of stable.edition) (left_first (head_of stable m) objects (stable.words m) 0 (omega arith))

  -- what leads somewhere after the step led there before it
  led_before : (m n : ℕ) → LeadsTo kept m n → LeadsTo stable m n
  led_before m n leads =
      let inside : leads.field < refs_of (head_of stable m) = subst (λ h. leads.field < refs_of h) (head_kept m) leads.inside in
      record {
        field = leads.field;
        inside = inside;
        value = sym (left_first (head_of stable m) objects (stable.words m) (1 + leads.field) (omega arith)) ∙ leads.value;
      }

  -- what the roots reach after the step, they reached before it
  pub reached_before : (n : ℕ) → IsReachableIn kept stable.roots n → IsReachableIn stable stable.roots n
  reached_before n (by_root _ low on among) = by_root n low on among
  reached_before n (by_reference m _ reached low on leads) = by_reference m n (reached_before m reached) low on (led_before m n leads)

  -- an object's number leads on
  leads_on : (n : ℕ) → 1 ≤ n → is_immediate stable.edition n ≡ false → LeadsNowhere stable.edition n → ⊥
  leads_on n low on nowhere = elim (nowhere-cases stable.edition n nowhere) [ inl null ↦ omega arith | inr immediate ↦ both_ways (is_immediate stable.edition n) on immediate ]

  -- what the roots reach is kept
  pub reached_kept : MayKeep stable objects → (n : ℕ) → IsReachableIn stable stable.roots n → IsAmong objects n
  reached_kept may n (by_root _ low on among) =
      elim (may.roots n among) [ inl nowhere ↦ absurd (leads_on n low on nowhere) | inr there ↦ there ]
  reached_kept may n (by_reference m _ reached low on leads) =
      elim (may.closed m leads.field (reached_kept may m reached) leads.inside) [
        | inl nowhere ↦ absurd (leads_on n low on (subst (LeadsNowhere stable.edition) leads.value nowhere))
        | inr there ↦ subst (IsAmong objects) leads.value there
      ]

-- ---- one step

-- If the objects of a closed heap are those that its roots reach, and the step that keeps them left that heap, then the
-- step kept exactly the objects that the roots reached.
pub keeps_exactly : (heap : Heap) (numbers : List ℕ) (stable : StableHeap) → IsClosed heap → IsNumberedAs heap numbers (stepped stable (Keeps numbers)) → AreApart heap.edition stable.given → MayKeep stable numbers
    → AreReachable heap.edition heap.words heap.roots heap.marks → KeepsExactly stable numbers
keeps_exactly heap numbers stable closed is apart may are n =
    let after = stepped stable (Keeps numbers) in (
      λ among.
          let k = among.0 in
          let long = numbers_long heap numbers after closed is in
          let inside = at_below numbers k n among.1 in
          let marked : k < length heap.marks = omega arith in
          let at : number heap numbers after closed is (get_or heap.marks k 0) ≡ n = number_is heap numbers after closed is k marked ∙ read_at numbers k n 0 among.1 in
          let reached = are.reachable (get_or heap.marks k 0) (contains_at heap.marks k (get_or heap.marks k 0) marked refl) in
          subst (IsReachableIn stable stable.roots) at (reached_before stable numbers _ (to_stable heap numbers after closed is apart (get_or heap.marks k 0) reached)),
      reached_kept stable numbers may n,
    )
