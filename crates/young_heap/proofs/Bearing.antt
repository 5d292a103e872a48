-- What is so of the old objects by the bits of before is so by those of after, which are the same below.
use Rattle.std.proofs.Common.{◌≡◌, ℕ, ◌-◌, ◌^◌, ◌<◌, ◌==◌, ◌||◌, ◌&&◌, Bool, true, leb, ltb, List, length, inl, inr, sym, ap, ◌∙◌, arith}
use Rattle.std.proofs.lemmas.Bool.{cases_lt, le-ltb}
use Rattle.heap_layout.specs.declared.edition.Edition.{Edition}
use Rattle.heap_layout.specs.Bits.{bit}
use Rattle.heap_layout.specs.Values.{is_immediate}
use Rattle.rest_marks.specs.declared.fault.SurveyFault.{SurveyFault}
use Rattle.rest_marks.specs.declared.fault.SurveyFault.TheVariants.{TooLarge, BadRoot, BadReference, BadWeak, ObjectTooLong, ObjectPastEnd, Overlap, OutOfMemory}
use Rattle.young_heap.specs.Refusals.{IsYoungFaultOf}
use Rattle.young_heap.specs.Young.{is_below_led, AreKeptBelow, AreOld, AreRemembered}
use Rattle.young_heap.proofs.Leads.{led-same}

module _ (edition : Edition) (words before after : List ℕ) (old : ℕ) (kept : AreKeptBelow old before after) where
  pub below-same : (word : ℕ) → is_below_led edition after old word ≡ is_below_led edition before old word
  below-same word =
      let i = word - 2 ^ 32 in
      let at : (ltb i old && bit after i) ≡ (ltb i old && bit before i) = elim (cases_lt i old) [
        | inl low ↦ ap (λ (b : Bool). ltb i old && b) (kept i low)
        | inr high ↦ ap (λ (b : Bool). b && bit after i) (le-ltb i old high) ∙ sym (ap (λ (b : Bool). b && bit before i) (le-ltb i old high))
      ] in
      ap (λ (b : Bool). is_immediate edition word || ((word == 0) || (leb (2 ^ 32) word && b))) at

  was : (i : ℕ) → i < old → bit after i ≡ true → bit before i ≡ true
  was i low set = sym (kept i low) ∙ set

  pub old-on : AreOld edition words before old → AreOld edition words after old
  old-on are = record {
    within = are.within;
    placed = λ i low set. are.placed i low (was i low set);
    inside = λ i low set. are.inside i low (was i low set);
    apart = λ i j one two order low. are.apart i j (was i (omega (arith, order, low)) one) (was j low two) order low;
    row = λ j low. (let at = are.row j low in (at.0, kept at.0 (omega (arith, at.2.0, low)) ∙ at.1, at.2));
  }

  pub remembered-on : (fields weaks : List ℕ) → AreRemembered edition words before old fields weaks → AreRemembered edition words after old fields weaks
  remembered-on fields weaks are = record {
    clean = λ i f low set from to none. below-same _ ∙ are.clean i f low (was i low set) from to none;
    weak = λ i f low set from to none. below-same _ ∙ are.weak i f low (was i low set) from to none;
    fields_are = λ j there. (let at = are.fields_are j there in (at.0, at.1, kept at.0 at.1 ∙ at.2, at.3, at.4));
    weaks_are = λ j there. (let at = are.weaks_are j there in (at.0, at.1, kept at.0 at.1 ∙ at.2, at.3, at.4));
  }

  pub fault-back : (roots fields weaks : List ℕ) (fault : SurveyFault) → IsYoungFaultOf edition words roots after old fields weaks fault
      → IsYoungFaultOf edition words roots before old fields weaks fault
  fault-back roots fields weaks TooLarge is = is
  fault-back roots fields weaks (BadRoot k) is = (is.0, sym (led-same edition before after old (length words) _ kept) ∙ is.1)
  fault-back roots fields weaks (BadReference j) is = (is.0, sym (led-same edition before after old (length words) _ kept) ∙ is.1)
  fault-back roots fields weaks (BadWeak j) is = is
  fault-back roots fields weaks (ObjectTooLong i) is = is
  fault-back roots fields weaks (ObjectPastEnd i) is = is
  fault-back roots fields weaks (Overlap i) is = is
  fault-back roots fields weaks OutOfMemory is = is
