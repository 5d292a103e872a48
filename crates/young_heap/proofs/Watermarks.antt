-- Refusals of calls by tables with a watermark, and of the check of old words.
use Rattle.std.proofs.Common.{◌≡◌, ℕ, ◌+◌, ◌-◌, ◌*◌, ◌/◌, ◌^◌, ◌<◌, ◌≤◌, ◌==◌, ◌||◌, ◌&&◌, Bool, true, false, leb, ltb, min, Result, Ok, Err, IfErr, OnErr, List, ◌++◌, All, length, get_or, inl, inr, sym, ap, subst, ◌∙◌, arith}
use Rattle.std.proofs.lemmas.Bool.{both_ways, cases_Bool, cases_lt, le-leb}
use Rattle.std.proofs.lemmas.List.{append-nil}
use Rattle.heap_layout.specs.declared.edition.Edition.{Edition}
use Rattle.heap_layout.specs.Limits.{most_words, most_roots}
use Rattle.heap_layout.specs.Values.{is_immediate}
use Rattle.heap_layout.specs.Bits.{bit}
use Rattle.heap_layout.specs.Header.{refs_of}
use Rattle.heap_layout.specs.Heap.{header_at}
use Rattle.reachability.specs.Queue.{has}
use Rattle.rest_marks.specs.Reached.{is_within, IsFaultOf, IsReachedFrom}
use Rattle.rest_marks.specs.declared.fault.SurveyFault.{SurveyFault}
use Rattle.rest_marks.specs.declared.fault.SurveyFault.TheVariants.{TooLarge, BadRoot, BadReference, BadWeak, ObjectTooLong, ObjectPastEnd, Overlap, OutOfMemory}
use Rattle.young_heap.specs.Cards.{is_dirty, AreCleanCards}
use Rattle.young_heap.specs.OldFaults.{IsOldFaultOf}
use Rattle.young_heap.specs.Refusals.{IsMet, IsYoungFaultOf}
use Rattle.young_heap.specs.Young.{is_below_led, is_led, seeds, words_at, AreOld, IsReachedAbove}
use Rattle.young_heap.specs.Tables.{AreOldTables, RefusesAll, RefusesRoom, RefusesYoung, Watermarked}
use Rattle.young_heap.specs.declared.fault.YoungFault.{YoungFault}
use Rattle.young_heap.specs.declared.fault.YoungFault.TheVariants.{TooLarge as Large, ShortTables as Short, FewWords, FewCards, NotAField, Survey}
use Rattle.young_heap.specs.declared.fault.OldFault.{OldFault}
use Rattle.young_heap.specs.declared.fault.OldFault.TheVariants.{NotARow, LeadsAbove}
use Rattle.young_heap.proofs.Beginning.{no-fields, reached-from}

and-true : (b : Bool) → (b && true) ≡ b
and-true b = elim (cases_Bool b) [
  | inl is ↦ ap (λ (x : Bool). x && true) is ∙ sym is
  | inr fails ↦ ap (λ (x : Bool). x && true) fails ∙ sym fails
]

-- where nothing is old, a word may lead to any of the words
led-all : (edition : Edition) (starts : List ℕ) (count word : ℕ) → is_led edition starts 0 count word ≡ is_within edition count word
led-all edition starts count word =
    let i = word - 2 ^ 32 in
    let at : (ltb i count && (leb 0 i || bit starts i)) ≡ ltb i count =
    ap (λ (b : Bool). ltb i count && (b || bit starts i)) (le-leb 0 i (omega arith)) ∙ and-true (ltb i count) in
    ap (λ (b : Bool). is_immediate edition word || ((word == 0) || (leb (2 ^ 32) word && b))) at

module _ (edition : Edition) (words roots starts fields weaks : List ℕ) (below : All (λ j. j < 0) fields) (weak_below : All (λ j. j < 0) weaks) where
  met-from : (i : ℕ) → IsMet edition words roots 0 fields i → IsReachedFrom edition words roots i
  met-from i met =
      let same : seeds words roots fields ≡ roots = ap (λ (xs : List ℕ). roots ++ words_at words xs) (no-fields fields below) ∙ append-nil roots in
      reached-from edition words roots i (subst (λ (xs : List ℕ). IsReachedAbove edition 0 words xs i) same met)

  stray : (word : ℕ) → is_led edition starts 0 (length words) word ≡ false → is_within edition (length words) word ≡ false
  stray word astray = sym (led-all edition starts (length words) word) ∙ astray

  -- a fault of a young collection of a heap where nothing is old is one of a collection of all
  pub fault-all : (length words ≤ most_words edition) → (length roots ≤ most_roots edition) → (fault : SurveyFault)
      → IsYoungFaultOf edition words roots starts 0 fields weaks fault → IsFaultOf edition words roots fault
  fault-all few_words few_roots TooLarge is = absurd is
  fault-all few_words few_roots (BadRoot k) is = ((few_words, few_roots), (is.0, stray _ is.1))
  fault-all few_words few_roots (BadReference j) is = elim is.0 [
    | inl field ↦ absurd (both_ways (has fields j) (ap (λ (xs : List ℕ). has xs j) (no-fields fields below)) field)
    | inr at ↦ ((few_words, few_roots), (at.0, met-from at.0 at.1, at.2, at.3, at.4, stray _ is.1))
  ]
  fault-all few_words few_roots (BadWeak j) is = elim is.0 [
    | inl weak ↦ absurd (both_ways (has weaks j) (ap (λ (xs : List ℕ). has xs j) (no-fields weaks weak_below)) weak)
    | inr at ↦ ((few_words, few_roots), (at.0, met-from at.0 at.1, at.2, at.3, at.4, is.1))
  ]
  fault-all few_words few_roots (ObjectTooLong i) is = ((few_words, few_roots), (met-from i is.0, is.1))
  fault-all few_words few_roots (ObjectPastEnd i) is = ((few_words, few_roots), (met-from i is.0, is.1))
  fault-all few_words few_roots (Overlap i) is = ((few_words, few_roots), (met-from i is.0, is.1, met-from is.1 is.2, is.3, is.4, is.5, is.6))
  fault-all few_words few_roots OutOfMemory is = (few_words, few_roots)

-- and it is never that there are too many
pub fault-few : (edition : Edition) (words roots starts : List ℕ) (old : ℕ) (fields weaks : List ℕ) (fault : SurveyFault)
    → IsYoungFaultOf edition words roots starts old fields weaks fault → fault ≡ TooLarge → ⊥
fault-few edition words roots starts old fields weaks fault is same =
    subst (IsYoungFaultOf edition words roots starts old fields weaks) same is

-- each thing that the check finds is against what is believed
pub fault-against : (edition : Edition) (words starts : List ℕ) (old : ℕ) (cards : List ℕ) (fault : OldFault)
    → IsOldFaultOf edition words starts old cards fault → AreOld edition words starts old → AreCleanCards edition words starts old cards → ⊥
fault-against edition words starts old cards (NotARow i) is row clean = is.last old is.low (omega arith) row
fault-against edition words starts old cards (LeadsAbove j) is row clean =
    let at = is.1.word in
    let f = j - at.0 in
    let refs = refs_of (header_at edition words at.0) in
    let same : at.0 + f ≡ j = omega (arith, at.3) in
    let not_dirty = ap (is_dirty cards) same ∙ is.1.clean in
    let led : is_below_led edition starts old (get_or words (at.0 + f) 0) ≡ true = elim (cases_lt refs f) [
      | inl weak ↦ clean.weak at.0 f at.1 at.2 weak (omega (arith, at.3, at.4)) not_dirty
      | inr few ↦ clean.clean at.0 f at.1 at.2 (omega (arith, at.3)) few not_dirty
    ] in
    both_ways (is_below_led edition starts old (get_or words j 0)) is.1.above
    (sym (ap (λ (n : ℕ). is_below_led edition starts old (get_or words n 0)) same) ∙ led)

pub err-against : {T : Type 0} (edition : Edition) (words starts : List ℕ) (old : ℕ) (cards : List ℕ) (result : Result T OldFault)
    → IfErr result (IsOldFaultOf edition words starts old cards)
    → OnErr result (AreOld edition words starts old → AreCleanCards edition words starts old cards → ⊥)
err-against edition words starts old cards (Ok _) is = tt
err-against edition words starts old cards (Err fault) is = fault-against edition words starts old cards fault is

-- why no collection begins is why one of all is refused, and why a young one is
pub room-all : (edition : Edition) (words roots : List ℕ) (room : ℕ) (fault : YoungFault) → RefusesRoom edition words roots room fault
    → RefusesAll edition words roots room fault
room-all edition words roots room Large is = is
room-all edition words roots room (Short has) is = is
room-all edition words roots room (FewWords old) is = absurd is
room-all edition words roots room (FewCards count) is = absurd is
room-all edition words roots room (NotAField k) is = absurd is
room-all edition words roots room (Survey fault) is = absurd is

pub room-young : (edition : Edition) (words roots : List ℕ) (tables : Watermarked) (cards : List ℕ) (fault : YoungFault)
    → RefusesRoom edition words roots tables.room fault → RefusesYoung edition words roots tables cards fault
room-young edition words roots tables cards Large is = is
room-young edition words roots tables cards (Short has) is = is
room-young edition words roots tables cards (FewWords old) is = absurd is
room-young edition words roots tables cards (FewCards count) is = absurd is
room-young edition words roots tables cards (NotAField k) is = absurd is
room-young edition words roots tables cards (Survey fault) is = absurd is

-- tables of another watermark, out of those of before, which are as long and have as much room
pub other-tables : (room old survived : ℕ) (heads spare bits counts : List ℕ) (queue fields weaks : ℕ) → AreOldTables room old survived heads spare bits counts queue fields weaks
    → (live last : ℕ) (next_heads next_spare next_bits next_counts : List ℕ) (next_queue next_fields next_weaks : ℕ) → length next_heads ≡ length heads
    → length next_spare ≡ length heads → length next_bits ≡ length bits → length next_counts ≡ length counts → queue ≤ next_queue → fields ≤ next_fields → weaks ≤ next_weaks
    → live ≤ last → last ≤ min room (2 ^ 31) → ((i : ℕ) → i < live → bit next_bits i ≡ true) → ((b : ℕ) → b ≤ live / 64 → get_or next_counts b 0 ≡ 64 * b)
    → AreOldTables room live last next_heads next_spare next_bits next_counts next_queue next_fields next_weaks
other-tables room old survived heads spare bits counts queue fields weaks are live last h s b n q f w same_heads same_spare same_bits same_counts more_queue more_fields more_weaks before survivors ones offsets = record {
  few = omega (arith, are.few, same_heads);
  for_words = subst (λ (n : ℕ). min room (2 ^ 31) ≤ 64 * n) (sym same_heads) are.for_words;
  for_spare = same_spare ∙ sym same_heads;
  for_bits = same_bits ∙ are.for_bits ∙ sym same_heads;
  for_counts = same_counts ∙ are.for_counts ∙ ap (λ (n : ℕ). n + 1) (sym same_bits);
  for_queue = omega (arith, are.for_queue, more_queue);
  for_fields = omega (arith, are.for_fields, more_fields);
  for_weaks = omega (arith, are.for_weaks, more_weaks);
  within = omega (arith, before, survivors);
  before = before;
  survivors = survivors;
  ones = ones;
  offsets = offsets;
}
