-- What was found, and the tables of a slide around objects that stay.
use Rattle.std.proofs.Common.{◌≡◌, ℕ, ◌-◌, ◌*◌, ◌^◌, ◌≤◌, ◌==◌, ◌&&◌, Bool, true, false, leb, not, List, [], length, get_or, map, inl, inr, refl, sym, ap, subst, ◌∙◌, arith}
use Rattle.std.specs.List.{list_any, range_with_len}
use Rattle.std.proofs.Math.Path.{fun_ext}
use Rattle.std.proofs.lemmas.Bool.{cases_Bool, and_parts, both_ways, eq-eqb, leb-true, ne_eqb}
use Rattle.std.proofs.lemmas.List.Elements.{filter_passes}
use Rattle.std.proofs.lemmas.List.Folds.{list_any_none}
use Rattle.heap_layout.specs.declared.edition.Edition.{Edition}
use Rattle.heap_layout.specs.Bits.{bit}
use Rattle.heap_layout.specs.Heap.{Object, from_address, is_start, live, object_at}
use Rattle.heap_layout.specs.Values.{is_immediate}
use Rattle.mark_tables.specs.LiveWords.{live_indices}
use Rattle.reachability.specs.Queue.{is_address}
use Rattle.rest_marks.specs.Given.{heap_now}
use Rattle.stopped_heap.specs.Growth.{IsFoundIn}
use Rattle.rest_marks.specs.Places.{Found}
use Rattle.rest_marks.specs.Reached.{IsSound}
use Rattle.rest_marks.specs.Surveys.{marks_of, told, AreTables}
use Rattle.rest_marks.proofs.Bounding.{bit-inside}
use Rattle.rest_marks.proofs.Heads.{any-at, head-number}
use Rattle.rest_slide.proofs.Settling.{is-plain}
use Rattle.pinned_heap.specs.Around.{end_from, led_around, runs_from, stays as is_pinned, IsSlidAround}
use Rattle.pinned_heap.specs.Pinned.{is_object, objects_in, AreTablesAround}
use Rattle.pinned_heap.specs.Tables.{is_pin, kept_at_place}
use Rattle.pinned_heap.specs.declared.run.Run.{Run}
use Rattle.pinned_heap.proofs.Linking.{address-marks, kept-value, link-all}
use Rattle.pinned_heap.proofs.Listed.{link-runs}

not-false : (b : Bool) → (not b && false) ≡ false
not-false true = refl
not-false false = refl

-- the address of a live object is no immediate
address-plain : (edition : Edition) (heads : List ℕ) (word : ℕ) → length heads ≤ 2 ^ 25 → is_address (bit heads) word ≡ true → is_immediate edition word ≡ false
address-plain edition heads word few is =
    let parts = and_parts (leb (2 ^ 32) word) (bit heads (word - 2 ^ 32)) is in
    let above = leb-true (2 ^ 32) word parts.0 in
    let inside = bit-inside heads (word - 2 ^ 32) parts.1 in
    is-plain edition word (omega (arith, above, inside, few))

-- a pin is the address of a live object
pub pin-object : (edition : Edition) (heads : List ℕ) (found : Found) (word : ℕ) → length heads ≤ 2 ^ 25 → marks_of heads ≡ found.marks → is_pin edition heads word ≡ is_object found word
pin-object edition heads found word few same =
    let told_by : is_address (bit heads) word ≡ is_object found word = address-marks heads word ∙ ap (λ (ms : List ℕ). list_any (λ mark. from_address mark == word) ms) same in
    elim (cases_Bool (is_address (bit heads) word)) [
      | inl is ↦
          ap (λ (b : Bool). not b && is_address (bit heads) word) (address-plain edition heads word few is) ∙ told_by
      | inr fails ↦
          ap (λ (b : Bool). not (is_immediate edition word) && b) fails ∙ not-false (is_immediate edition word) ∙ sym fails ∙ told_by
    ]

-- the indices of the bits that are set
still-bit : (bits : List ℕ) (i : ℕ) → bit bits i ≡ is_start (marks_of bits) i
still-bit bits i = elim (cases_Bool (bit bits i)) [
  | inl set ↦ (let at = head-number bits i set in set ∙ sym (any-at (λ mark. mark == i) (marks_of bits) at.0 at.1 (eq-eqb (get_or (marks_of bits) at.0 0) i at.2)))
  | inr unset ↦
      unset ∙ sym (list_any_none (λ mark. mark == i) (marks_of bits) (λ k d within.
      ne_eqb (get_or (marks_of bits) k d) i (λ same. both_ways (bit bits i) unset (sym (ap (bit bits) same) ∙ filter_passes (bit bits) (range_with_len 0 (64 * length bits)) k d within))))
]

-- as tests
pub all-still : (bits : List ℕ) → bit bits ≡ is_start (marks_of bits)
all-still bits = fun_ext (still-bit bits)

-- the pins are those that stay
pub still-pins : (bits pins : List ℕ) → ((i : ℕ) → bit bits i ≡ is_pinned pins i) → (i : ℕ) → is_start (marks_of bits) i ≡ is_pinned pins i
still-pins bits pins same i = sym (still-bit bits i) ∙ same i

-- ---- what was found is found in these words

module _ (found : Found) (words heads bits counts stays bases : List ℕ) (runs : List Run) (end : ℕ)
    (are : AreTablesAround found heads bits counts stays bases runs end) (is : IsFoundIn found words) where
  -- so the tables are those of these words
  pub tables-in : AreTables found.edition words heads bits counts
  tables-in = record {
    sound = subst (λ (ms : List ℕ). IsSound (record { edition = found.edition; words = words; marks = ms; roots = [] })) (sym are.marks) is.sound;
    indices = are.indices ∙ is.indices ∙ ap (λ (ms : List ℕ). live_indices (map (object_at found.edition words) ms)) (sym are.marks);
    offsets = are.offsets;
    same = are.same;
  }

  objects-told : live (told found.edition words heads) ≡ objects_in found words
  objects-told = ap (λ (ms : List ℕ). map (object_at found.edition words) ms) are.marks

  abbrev still : ℕ → Bool
  still i = is_start (marks_of stays) i

  pub end-found : end ≡ end_from still 0 (objects_in found words)
  end-found = subst (λ (st : ℕ → Bool). end ≡ end_from st 0 (objects_in found words)) (all-still stays) (are.ended ∙ link-all found.edition words heads bits counts stays tables-in are.objects ∙ ap (end_from (bit stays) 0) objects-told)

  pub runs-found : runs ≡ runs_from still 0 (objects_in found words)
  runs-found = subst (λ (st : ℕ → Bool). runs ≡ runs_from st 0 (objects_in found words)) (all-still stays) (are.listed ∙ link-runs found.edition words heads bits counts stays tables-in are.objects ∙ ap (runs_from (bit stays) 0) objects-told)

  led-found : (word : ℕ) → kept_at_place found.edition heads bits stays word ≡ led_around found.edition (bit stays) (objects_in found words) word
  led-found word =
      kept-value found.edition words heads bits counts stays tables-in are.objects word
      ∙ ap (λ (objects : List Object). led_around found.edition (bit stays) objects word) objects-told

  pub all-led : (xs : List ℕ) → map (kept_at_place found.edition heads bits stays) xs ≡ map (led_around found.edition still (objects_in found words)) xs
  all-led xs =
      subst (λ (st : ℕ → Bool). map (kept_at_place found.edition heads bits stays) xs ≡ map (led_around found.edition st (objects_in found words)) xs) (all-still stays)
      (ap (λ (f : ℕ → ℕ). map f xs) (fun_ext led-found))

  pub slid-found : (after : List ℕ) → IsSlidAround (told found.edition words heads) (bit stays) after → IsSlidAround (heap_now found words []) still after
  slid-found after slid =
      subst (λ (st : ℕ → Bool). IsSlidAround (heap_now found words []) st after) (all-still stays) (
      subst (λ (ms : List ℕ). IsSlidAround (record { edition = found.edition; words = words; marks = ms; roots = [] }) (bit stays) after) are.marks slid)
