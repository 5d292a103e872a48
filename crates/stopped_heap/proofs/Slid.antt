-- What slid whole out of words that nobody looked at before: the slide has asked of the objects what a survey asks.
use Rattle.std.proofs.Common.{◌≡◌, ℕ, suc, ◌+◌, ◌<◌, ◌≤◌, List, [], ◌∷◌, ◌++◌, length, get_or, take, drop, map, inl, inr, refl, sym, ap, subst, ◌∙◌, arith, length-take}
use Rattle.std.specs.Prelude.{All, Contains}
use Rattle.std.specs.List.{range_with_len}
use Rattle.std.proofs.lemmas.Bool.{cases_lt}
use Rattle.std.proofs.lemmas.List.{get_or_default, get_or-take, get_or-drop}
use Rattle.std.proofs.lemmas.List.Sums.{sum_by-take-le}
use Rattle.heap_layout.specs.declared.edition.Edition.{Edition}
use Rattle.heap_layout.specs.Header.{refs_of, size_of}
use Rattle.heap_layout.specs.Heap.{Heap, header_at, object_at, live, IsPlaced, IsValue}
use Rattle.heap_layout.specs.Limits.{most_roots}
use Rattle.mark_tables.specs.LiveWords.{live_indices, live_words, size}
use Rattle.page_plan.proofs.Marks.{length-live}
use Rattle.reachability.proofs.Rising.{contains-had}
use Rattle.rest_marks.specs.Given.{heap_now, HasCollectedAs, HasSlid, HasWeak}
use Rattle.rest_marks.specs.Places.{led_by, owner, words_now, Found, IsAsFound, IsFoundOf, IsReferenceNow}
use Rattle.rest_marks.specs.Reached.{IsReachedFrom, IsSound}
use Rattle.stopped_heap.proofs.Collected.{reached-marked}
use Rattle.rest_slide.proofs.Placing.{found_of, place-is, starts-next, size-is, index-is, owner-is}

-- the live words are where they were if the objects are as long
same-indices : (e : Edition) (ws vs ms : List ℕ) → ((k : ℕ) → k < length ms → size_of (header_at e ws (get_or ms k 0)) ≡ size_of (header_at e vs (get_or ms k 0)))
    → live_indices (map (object_at e ws) ms) ≡ live_indices (map (object_at e vs) ms)
same-indices e ws vs [] same = refl
same-indices e ws vs (m ∷ ms) same =
    ap (λ (n : ℕ). range_with_len m n ++ live_indices (map (object_at e ws) ms)) (same 0 (omega arith))
    ∙ ap (λ (xs : List ℕ). range_with_len m (size_of (header_at e vs m)) ++ xs) (same-indices e ws vs ms (λ k lt. same (suc k) (omega (arith, lt))))

module _ (before : Heap) (sound : IsSound before) (room : ℕ) (words : List ℕ) (count : length words ≡ length before.words)
    (are : IsAsFound (found_of before room) words 0 (length (live_indices (live before)))) where
  abbrev mark : ℕ → ℕ
  mark k = get_or before.marks k 0

  abbrev size_at : ℕ → ℕ
  size_at k = size_of (header_at before.edition before.words (mark k))

  abbrev starts : ℕ → ℕ
  starts k = live_words (take k (live before))

  known : (k f : ℕ) → k < length before.marks → f < size_at k → starts k + f < length (live_indices (live before))
  known k f lt inside = omega (arith, length-live (live before), starts-next before sound room k lt, sum_by-take-le size (live before) (k + 1), inside)

  -- each object is as long as when it was found
  pub same-size : (k : ℕ) → k < length before.marks → size_of (header_at before.edition words (mark k)) ≡ size_at k
  same-size k lt =
      let inside = known k 0 lt (omega arith) in
      are.sized k (starts k) lt (omega arith) (omega (arith, inside)) (omega (arith, place-is before sound room k))
      (omega (arith, place-is before sound room (k + 1), starts-next before sound room k lt))
      ∙ size-is before sound room k lt

  -- and its references lead to live objects
  leads-on : (k f : ℕ) → k < length before.marks → f < refs_of (header_at before.edition words (mark k)) → IsValue before.edition before.marks (get_or words (mark k + 1 + f) 0)
  leads-on k f lt inside =
      let within : 1 + f < size_at k = omega (arith, same-size k lt, inside) in
      let index = index-is before sound room k (1 + f) lt within in
      let owns : owner before.marks (mark k + (1 + f)) ≡ mark k = owner-is before sound room k (1 + f) lt within in
      let few : mark k + (1 + f) ≤ owner before.marks (mark k + (1 + f)) + refs_of (header_at before.edition words (owner before.marks (mark k + (1 + f)))) =
      omega (arith, owns, ap (λ (m : ℕ). refs_of (header_at before.edition words m)) owns, inside) in
      let refers : IsReferenceNow (found_of before room) words (mark k + (1 + f)) = (omega (arith, owns), few) in
      let at : get_or (live_indices (live before)) (starts k + (1 + f)) 0 ≡ mark k + 1 + f = omega (arith, index) in
      subst (λ (m : ℕ). IsValue before.edition before.marks (get_or words m 0)) at
      (are.marked (starts k + (1 + f)) (omega arith) (omega (arith, known k (1 + f) lt within)) (subst (IsReferenceNow (found_of before room) words) (sym index) refers))

  references-lead : All (λ m. All (IsValue before.edition before.marks) (object_at before.edition words m).references) before.marks
  references-lead k d lt f e inside =
      let m = get_or before.marks k d in
      let same : mark k ≡ m = get_or_default before.marks k 0 d lt in
      let refs = refs_of (header_at before.edition words m) in
      let behind = drop (m + 1) words in
      let few : f < refs = omega (arith, inside, length-take refs behind) in
      let read : get_or words (mark k + 1 + f) 0 ≡ get_or (take refs behind) f e =
      ap (λ (n : ℕ). get_or words (n + 1 + f) 0) same
      ∙ sym (get_or-drop (m + 1) words f 0)
      ∙ sym (get_or-take refs behind f 0 few)
      ∙ get_or_default (take refs behind) f 0 e inside in
      subst (IsValue before.edition before.marks) read (leads-on k f lt (subst (λ (n : ℕ). f < refs_of (header_at before.edition words n)) (sym same) few))

  module _ (roots : List ℕ) (few_roots : length roots ≤ most_roots before.edition) (roots_lead : All (IsValue before.edition before.marks) roots) where
    pub still-reached : (i : ℕ) → IsReachedFrom before.edition words roots i → Contains before.marks i
    still-reached i reached =
        let now : Heap = record { edition = before.edition; words = words; marks = before.marks; roots = roots } in
        contains-had before.marks i (reached-marked now (omega (arith, sound.few_words, count)) roots_lead references-lead i reached)

    pub still-found : HasWeak (found_of before room) words → IsFoundOf (found_of before room) (heap_now (found_of before room) words roots)
    still-found weak = record {
      edition = refl;
      count = count;
      marks = refl;
      indices = sym (same-indices before.edition words before.words before.marks same-size);
      sound = record {
        few_words = omega (arith, sound.few_words, count);
        few_roots = few_roots;
        placed = λ k d lt.
            let placed = sound.placed k 0 lt in
            subst (IsPlaced before.edition words) (get_or_default before.marks k 0 d lt)
            (record { within = omega (arith, same-size k lt, placed.within, count); short = omega (arith, same-size k lt, placed.short) });
        apart = λ k lt. (let one : k < length before.marks = omega (arith, lt) in omega (arith, same-size k one, sound.apart k lt));
        roots = roots_lead;
        references = references-lead;
        weak = weak;
      };
    }

-- what was found of a heap is what is found of it
pub found-is : (found : Found) (heap : Heap) → IsFoundOf found heap → found_of heap found.room ≡ found
found-is found heap of =
    ap (λ (e : Edition). record { edition = e; count = length heap.words; marks = heap.marks; indices = live_indices (live heap); room = found.room }) of.edition
    ∙ ap (λ (n : ℕ). record { edition = found.edition; count = n; marks = heap.marks; indices = live_indices (live heap); room = found.room }) of.count
    ∙ ap (λ (ms : List ℕ). record { edition = found.edition; count = found.count; marks = ms; indices = live_indices (live heap); room = found.room }) of.marks
    ∙ ap (λ (is : List ℕ). record { edition = found.edition; count = found.count; marks = found.marks; indices = is; room = found.room }) (sym of.indices)

pub slid-found : (found : Found) (before : Heap) (words roots : List ℕ) → IsFoundOf found before → HasSlid found words roots → HasWeak found words
    → IsFoundOf found (heap_now found words roots)
slid-found found before words roots of =
    subst (λ (f : Found). HasSlid f words roots → HasWeak f words → IsFoundOf f (heap_now f words roots)) (found-is found before of)
    (λ slid weak. still-found before of.sound found.room words slid.count slid.as_found roots slid.few_roots slid.roots_lead weak)

pub slid-reached : (found : Found) (before : Heap) (words roots : List ℕ) → IsFoundOf found before → HasSlid found words roots
    → (i : ℕ) → IsReachedFrom found.edition words roots i → Contains found.marks i
slid-reached found before words roots of =
    subst (λ (f : Found). HasSlid f words roots → (i : ℕ) → IsReachedFrom f.edition words roots i → Contains f.marks i) (found-is found before of)
    (λ slid i reached. still-reached before of.sound found.room words slid.count slid.as_found roots slid.few_roots slid.roots_lead i reached)

-- two parts, one behind the other, are a part
pub parts-found : (found : Found) (words : List ℕ) (first a b : ℕ) → IsAsFound found words first a → IsAsFound found words (first + a) b → IsAsFound found words first (a + b)
parts-found found words first a b low high = record {
  sized = λ k n lt from below begun ended. elim (cases_lt n (first + a)) [
    | inl inside ↦ low.sized k n lt from inside begun ended
    | inr past ↦ high.sized k n lt past (omega (arith, below)) begun ended
  ];
  marked = λ n from below refers. elim (cases_lt n (first + a)) [
    | inl inside ↦ low.marked n from inside refers
    | inr past ↦ high.marked n past (omega (arith, below)) refers
  ];
}

-- what slid whole was collected
pub collected-as : (found : Found) (first : Heap) (edition : Edition) (words roots marks : List ℕ) (count : ℕ) (part before new_roots : List ℕ) → IsFoundOf found first
    → found.edition ≡ edition → found.marks ≡ marks → HasSlid found words roots → count ≡ length found.indices → part ≡ words_now found words → new_roots ≡ map (led_by found) roots
    → HasCollectedAs edition words roots marks count new_roots before (part ++ drop count before)
collected-as found first edition words roots marks count part before new_roots of same_edition same_marks slid counted filled forwarded = (
  found,
  record {
    edition_is = same_edition;
    marks_are = same_marks;
    reached = λ i reached.
        subst (λ (ms : List ℕ). Contains ms i) same_marks
        (slid-reached found first words roots of slid i (subst (λ (e : Edition). IsReachedFrom e words roots i) (sym same_edition) reached));
    sound = slid-found found first words roots of slid;
    live = counted;
    words_are = ap (λ (xs : List ℕ). xs ++ drop count before) filled;
    roots_are = forwarded;
  },
)
