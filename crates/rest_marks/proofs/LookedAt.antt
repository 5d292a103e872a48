-- Objects that were looked at, one more, or one again.
use Rattle.std.proofs.Common.{◌≡◌, ℕ, ◌+◌, ◌-◌, ◌/◌, ◌^◌, ◌<◌, ◌≤◌, ◌==◌, Bool, true, false, leb, List, length, fold, get_or, take, drop, inl, inr, refl, sym, ap, subst, ◌∙◌, arith, length-take, length-drop}
use Rattle.std.proofs.lemmas.Bool.{cases_lt, cases_eq, or_cases, or_left, or_right, and_parts, and_from}
use Rattle.std.proofs.lemmas.Grind.{same_number_lists}
use Rattle.std.proofs.lemmas.List.{get_or-take, get_or-drop}
use Rattle.heap_layout.specs.declared.edition.Edition.{Edition}
use Rattle.heap_layout.specs.Bits.{bit, leads}
use Rattle.heap_layout.specs.Header.{header_of, refs_of, weak_of, size_of}
use Rattle.heap_layout.specs.Heap.{header_at, object_at, IsPlaced}
use Rattle.heap_layout.specs.Limits.{most_object_words}
use Rattle.heap_layout.specs.Values.{is_immediate}
use Rattle.mark_tables.proofs.Runs.{IsRunSet}
use Rattle.reachability.specs.Queue.{has, is_address, after_word}
use Rattle.reachability.proofs.Queues.{has-at, kept as still-had, met as were-met, places}
use Rattle.rest_marks.specs.Looks.{IsAt, AreLookedAt, IsSameAt, AreSameBut}
use Rattle.rest_marks.specs.Marks.{AllKept}
use Rattle.rest_marks.specs.Meeting.{AllLead, AreMet, IsDone}
use Rattle.rest_marks.specs.Reached.{is_below, leads_within, IsWordOf}
use Rattle.rest_marks.proofs.Spread.{IsSpread, spread-next}

module _ (e : Edition) (count : ℕ) where
  -- references that were met lead to objects that were met
  lead-kept : (old new heads refs : List ℕ) → new ≡ fold (after_word (is_below count)) old refs → AreMet new heads → AllLead e count refs → AllKept e heads refs
  lead-kept old new heads refs from met lead k lt =
      let word = get_or refs k 0 in
      elim (or_cases (is_immediate e word) (leads_within count word) (lead k lt)) [
        | inl immediate ↦ or_left (is_immediate e word) (leads heads word) immediate
        | inr within ↦ or_right (is_immediate e word) (leads heads word) (elim (or_cases (word == 0) (is_address (is_below count) word) within) [
          | inl null ↦ or_left (word == 0) (is_address (bit heads) word) null
          | inr address ↦
              let i = word - 2 ^ 32 in
              let parts = and_parts (leb (2 ^ 32) word) (is_below count i) address in
              let there : has new i ≡ true = rw from (were-met (is_below count) old refs word (has-at refs k lt) address) in
              or_right (word == 0) (is_address (bit heads) word) (and_from (leb (2 ^ 32) word) (bit heads i) parts.0 (met i ∙ there))
        ])
      ]

  -- and still do when more are met
  kept-more : (old_heads heads refs : List ℕ) → ((i : ℕ) → bit old_heads i ≡ true → bit heads i ≡ true) → AllKept e old_heads refs → AllKept e heads refs
  kept-more old_heads heads refs more all k lt =
      let word = get_or refs k 0 in
      elim (or_cases (is_immediate e word) (leads old_heads word) (all k lt)) [
        | inl immediate ↦ or_left (is_immediate e word) (leads heads word) immediate
        | inr to ↦ or_right (is_immediate e word) (leads heads word) (elim (or_cases (word == 0) (is_address (bit old_heads) word) to) [
          | inl null ↦ or_left (word == 0) (is_address (bit heads) word) null
          | inr address ↦
              let parts = and_parts (leb (2 ^ 32) word) (bit old_heads (word - 2 ^ 32)) address in
              or_right (word == 0) (is_address (bit heads) word) (and_from (leb (2 ^ 32) word) (bit heads (word - 2 ^ 32)) parts.0 (more (word - 2 ^ 32) parts.1))
        ])
      ]

  heads-more : (old new old_heads heads refs : List ℕ) → new ≡ fold (after_word (is_below count)) old refs → AreMet old old_heads → AreMet new heads
      → (i : ℕ) → bit old_heads i ≡ true → bit heads i ≡ true
  heads-more old new old_heads heads refs from met_old met_new i set =
      let there : has new i ≡ true = rw from (still-had (is_below count) old refs i (sym (met_old i) ∙ set)) in
      met_new i ∙ there

-- a part of the words of an object, as it was handed in
pub same-part : (words run : List ℕ) (i first many at : ℕ) → IsAt words i run → at ≡ i + first → first + many ≤ length run → at + many ≤ length words
    → take many (drop first run) ≡ take many (drop at words)
same-part words run i first many at is place inside within =
    same_number_lists (take many (drop first run)) (take many (drop at words))
    (omega (arith, length-take many (drop first run), length-take many (drop at words), length-drop first run, length-drop at words, inside, within))
    (λ k lt.
    let few : k < many = omega (arith, lt, length-take many (drop first run)) in
    let there : i + (first + k) ≡ at + k = omega (arith, place) in
    get_or-take many (drop first run) k 0 few ∙ get_or-drop first run k 0
    ∙ sym (is (first + k) (omega (arith, few, inside)))
    ∙ ap (λ (n : ℕ). get_or words n 0) there
    ∙ sym (get_or-take many (drop at words) k 0 few ∙ get_or-drop at words k 0))

-- What was done with the object at index i, whose header word is w, and whose words were handed in.
pub record IsStep (e : Edition) (count : ℕ) (run old new old_bits bits : List ℕ) (i w : ℕ) : Type 0 where
  pub within : i + size_of (header_of e w) ≤ count
  pub short : size_of (header_of e w) ≤ most_object_words e
  pub long : 1 + refs_of (header_of e w) + weak_of (header_of e w) ≤ length run
  pub met : new ≡ fold (after_word (is_below count)) old (take (refs_of (header_of e w)) (drop 1 run))
  pub runs : IsRunSet i (size_of (header_of e w)) old_bits bits
  pub free : (j : ℕ) → i ≤ j → j < i + size_of (header_of e w) → bit old_bits j ≡ false
  pub leads : AllLead e count (take (refs_of (header_of e w)) (drop 1 run))
  pub weak : AllLead e count (take (weak_of (header_of e w)) (drop (1 + refs_of (header_of e w)) run))

-- the header that was handed in
pub same-head : (words run : List ℕ) (i : ℕ) → IsAt words i run → 0 < length run → get_or words i 0 ≡ get_or run 0 0
same-head words run i is some = (let zero : i ≡ i + 0 = omega arith in ap (λ (n : ℕ). get_or words n 0) zero ∙ is 0 some)

pub spread-of : (e : Edition) (words met : List ℕ) (looked : ℕ) (heads bits : List ℕ) → AreMet met heads → length heads ≡ length bits
    → AreLookedAt e words met looked heads bits → IsSpread e words met looked heads bits
spread-of e words met looked heads bits are same is = record {
  met = are;
  same = same;
  done = is.done;
  only = is.only;
  apart = λ k l order lt. record { clear = λ n one two. is.apart k l n order lt one two };
}

step-looked : (e : Edition) (count : ℕ) (words run old new old_heads old_bits heads bits : List ℕ) (next : ℕ) → length words ≡ count → next < length old
    → IsAt words (get_or old next 0) run → 0 < length run
    → AreMet old old_heads → AreMet new heads → length old_heads ≡ length old_bits → length heads ≡ length bits
    → IsStep e count run old new old_bits bits (get_or old next 0) (get_or words (get_or old next 0) 0)
    → AreLookedAt e words old next old_heads old_bits → AreLookedAt e words new (next + 1) heads bits
step-looked e count words run old new old_heads old_bits heads bits next counted inside at some met_old met_new same_old same step are =
    let i = get_or old next 0 in
    let h = header_at e words i in
    let refs : take (refs_of h) (drop 1 run) ≡ (object_at e words i).references =
    same-part words run i 1 (refs_of h) (i + 1) at refl (omega (arith, step.long)) (omega (arith, step.within, counted)) in
    let weak : take (weak_of h) (drop (1 + refs_of h) run) ≡ (object_at e words i).weak =
    same-part words run i (1 + refs_of h) (weak_of h) (i + 1 + refs_of h) at (omega arith) (omega (arith, step.long)) (omega (arith, step.within, counted)) in
    let from : new ≡ fold (after_word (is_below count)) old (object_at e words i).references = step.met ∙ ap (fold (after_word (is_below count)) old) refs in
    let from_words : new ≡ fold (after_word (is_below (length words))) old (object_at e words i).references = subst (λ (n : ℕ). new ≡ fold (after_word (is_below n)) old (object_at e words i).references) (sym counted) from in
    let stays : (k : ℕ) → k < length old → get_or new k 0 ≡ get_or old k 0 = λ k lt. ap (λ (xs : List ℕ). get_or xs k 0) from ∙ (places (is_below count) old (object_at e words i).references k lt).1 in
    let leads_all : AllLead e count (object_at e words i).references = subst (AllLead e count) refs step.leads in
    let leads_words : AllLead e (length words) (object_at e words i).references = subst (λ (n : ℕ). AllLead e n (object_at e words i).references) (sym counted) leads_all in
    let weak_words : AllLead e (length words) (object_at e words i).weak = subst (λ (n : ℕ). AllLead e n (object_at e words i).weak) (sym counted) (subst (AllLead e count) weak step.weak) in
    let spread = spread-next e words old next new old_heads old_bits heads bits (spread-of e words old next old_heads old_bits met_old same_old are) inside from_words met_new same
    (record { within = omega (arith, step.within, counted); short = step.short }) step.runs (λ j of. step.free j of.0 of.1) leads_words weak_words in
    record {
      done = spread.done;
      only = spread.only;
      apart = λ k l n order lt one two. (spread.apart k l order lt).clear n one two;
      closed = λ k lt. elim (cases_lt k next) [
        | inl earlier ↦
            subst (λ (m : ℕ). AllKept e heads (object_at e words m).references) (sym (stays k (omega (arith, earlier, inside))))
            (kept-more e count old_heads heads (object_at e words (get_or old k 0)).references
            (heads-more e count old new old_heads heads (object_at e words i).references from met_old met_new) (are.closed k earlier))
        | inr last ↦
            let here : k ≡ next = omega (arith, lt, last) in
            let place : get_or new k 0 ≡ i = stays k (omega (arith, lt, inside)) ∙ ap (λ (n : ℕ). get_or old n 0) here in
            subst (λ (m : ℕ). AllKept e heads (object_at e words m).references) (sym place) (lead-kept e count old new heads (object_at e words i).references from met_new leads_all)
      ];
    }

-- one object more
pub looked-next : (e : Edition) (count : ℕ) (words run old new old_heads old_bits heads bits : List ℕ) (next i : ℕ) → length words ≡ count → next < length old → get_or old next 0 ≡ i
    → IsAt words i run → 0 < length run → AreMet old old_heads → AreMet new heads → length old_heads ≡ length old_bits → length heads ≡ length bits
    → IsStep e count run old new old_bits bits i (get_or run 0 0)
    → AreLookedAt e words old next old_heads old_bits → AreLookedAt e words new (next + 1) heads bits
looked-next e count words run old new old_heads old_bits heads bits next i counted inside here at some met_old met_new same_old same step are =
    let by_word = subst (IsStep e count run old new old_bits bits i) (sym (same-head words run i at some)) step in
    let by_place = subst (λ (n : ℕ). IsStep e count run old new old_bits bits n (get_or words n 0)) (sym here) by_word in
    step-looked e count words run old new old_heads old_bits heads bits next counted inside (subst (λ (n : ℕ). IsAt words n run) (sym here) at) some met_old met_new same_old same by_place are

-- the queue keeps what it had
pub places-kept : (count : ℕ) (old new refs : List ℕ) → new ≡ fold (after_word (is_below count)) old refs → (k : ℕ) → k < length old
    → (k < length new) × (get_or new k 0 ≡ get_or old k 0)
places-kept count old new refs from k lt =
    let are = places (is_below count) old refs k lt in
    rw from are

-- ---- words that are others now

-- what was looked at is as it was, and as many objects are looked at
pub looked-same : (e : Edition) (before now met : List ℕ) (looked : ℕ) (heads bits : List ℕ) → length before ≡ length now
    → ((k : ℕ) → k < looked → IsSameAt e before now (get_or met k 0)) → AreLookedAt e before met looked heads bits → AreLookedAt e now met looked heads bits
looked-same e before now met looked heads bits counted same are = record {
  done = λ k lt.
      let is = are.done k lt in
      let of = same k lt in
      record {
        placed = record { within = omega (arith, is.placed.within, of.size, counted); short = omega (arith, is.placed.short, of.size) };
        run = λ j word. is.run j (word.0, omega (arith, word.1, of.size));
        references = subst (λ (n : ℕ). AllLead e n (object_at e now (get_or met k 0)).references) counted (subst (AllLead e (length before)) of.references is.references);
        weak = subst (λ (n : ℕ). AllLead e n (object_at e now (get_or met k 0)).weak) counted (subst (AllLead e (length before)) of.weak is.weak);
      };
  only = λ j set. (let at = are.only j set in (at.0, at.1, (at.2.0, omega (arith, at.2.1, (same at.0 at.1).size))));
  apart = λ k l n order lt one two.
      are.apart k l n order lt (one.0, omega (arith, one.1, (same k (omega (arith, order, lt))).size)) (two.0, omega (arith, two.1, (same l lt).size));
  closed = λ k lt. subst (AllKept e heads) (same k lt).references (are.closed k lt);
}

-- What was done with an object that was looked at before, as it is now.
pub record IsAgain (e : Edition) (count : ℕ) (run old new : List ℕ) (w : ℕ) : Type 0 where
  pub long : 1 + refs_of (header_of e w) + weak_of (header_of e w) ≤ length run
  pub met : new ≡ fold (after_word (is_below count)) old (take (refs_of (header_of e w)) (drop 1 run))
  pub leads : AllLead e count (take (refs_of (header_of e w)) (drop 1 run))
  pub weak : AllLead e count (take (weak_of (header_of e w)) (drop (1 + refs_of (header_of e w)) run))

-- the object at index i again, which is as long if it was looked at
module _ (e : Edition) (count : ℕ) (before now run old new old_heads heads bits : List ℕ) (next i : ℕ) (counted_before : length before ≡ count) (counted : length now ≡ count)
    (inside : next ≤ length old) (at : IsAt now i run) (some : 0 < length run) (met_old : AreMet old old_heads) (met_new : AreMet new heads)
    (step : IsAgain e count run old new (get_or now i 0)) (same : AreSameBut e before now old next i) (are : AreLookedAt e before old next old_heads bits) where
  stays : (k : ℕ) → k < length old → get_or new k 0 ≡ get_or old k 0
  stays k lt = ap (λ (xs : List ℕ). get_or xs k 0) step.met ∙ (places (is_below count) old (take (refs_of (header_at e now i)) (drop 1 run)) k lt).1

  size : (k : ℕ) → k < next → size_of (header_at e before (get_or old k 0)) ≡ size_of (header_at e now (get_or old k 0))
  size k lt = elim (cases_eq (get_or old k 0) i) [
    | inl here ↦ subst (λ (m : ℕ). size_of (header_at e before m) ≡ size_of (header_at e now m)) (sym here) (same.long k lt here)
    | inr other ↦ (same.others k lt other).size
  ]

  within : (k : ℕ) → k < next → get_or old k 0 + size_of (header_at e now (get_or old k 0)) ≤ length now
  within k lt = omega (arith, (are.done k lt).placed.within, size k lt, counted_before, counted)

  -- what is known of an object as it is now
  record IsNow (k : ℕ) : Type 0 where
    references : AllLead e (length now) (object_at e now k).references
    weak : AllLead e (length now) (object_at e now k).weak
    closed : AllKept e heads (object_at e now k).references

  again : i + size_of (header_at e now i) ≤ length now → IsNow i
  again ends =
      let h = header_at e now i in
      let refs : take (refs_of h) (drop 1 run) ≡ (object_at e now i).references = same-part now run i 1 (refs_of h) (i + 1) at refl (omega (arith, step.long)) (omega (arith, ends)) in
      let weak : take (weak_of h) (drop (1 + refs_of h) run) ≡ (object_at e now i).weak =
      same-part now run i (1 + refs_of h) (weak_of h) (i + 1 + refs_of h) at (omega arith) (omega (arith, step.long)) (omega (arith, ends)) in
      record {
        references = subst (λ (n : ℕ). AllLead e n (object_at e now i).references) (sym counted) (subst (AllLead e count) refs step.leads);
        weak = subst (λ (n : ℕ). AllLead e n (object_at e now i).weak) (sym counted) (subst (AllLead e count) weak step.weak);
        closed = subst (AllKept e heads) refs (lead-kept e count old new heads (take (refs_of h) (drop 1 run)) step.met met_new step.leads);
      }

  is-now : (k : ℕ) → k < next → IsNow (get_or old k 0)
  is-now k lt = elim (cases_eq (get_or old k 0) i) [
    | inl here ↦ subst IsNow (sym here) (again (subst (λ (m : ℕ). m + size_of (header_at e now m) ≤ length now) here (within k lt)))
    | inr other ↦
        let of = same.others k lt other in
        let is = are.done k lt in
        record {
          references = subst (λ (n : ℕ). AllLead e n (object_at e now (get_or old k 0)).references) (counted_before ∙ sym counted) (subst (AllLead e (length before)) of.references is.references);
          weak = subst (λ (n : ℕ). AllLead e n (object_at e now (get_or old k 0)).weak) (counted_before ∙ sym counted) (subst (AllLead e (length before)) of.weak is.weak);
          closed = kept-more e count old_heads heads (object_at e now (get_or old k 0)).references
              (heads-more e count old new old_heads heads (take (refs_of (header_at e now i)) (drop 1 run)) step.met met_old met_new) (subst (AllKept e old_heads) of.references (are.closed k lt));
        }
  ]

  word-before : (k n : ℕ) → k < next → IsWordOf e now (get_or new k 0) n → IsWordOf e before (get_or old k 0) n
  word-before k n lt word =
      let of = subst (λ (m : ℕ). IsWordOf e now m n) (stays k (omega (arith, lt, inside))) word in
      (of.0, omega (arith, of.1, size k lt))

  again-looked : AreLookedAt e now new next heads bits
  again-looked = record {
    done = λ k lt.
        let is = are.done k lt in
        let of = is-now k lt in
        let here : IsDone e now bits (get_or old k 0) = record {
          placed = record { within = within k lt; short = omega (arith, is.placed.short, size k lt) };
          run = λ j word. is.run j (word.0, omega (arith, word.1, size k lt));
          references = of.references;
          weak = of.weak;
        } in
        subst (IsDone e now bits) (sym (stays k (omega (arith, lt, inside)))) here;
    only = λ j set.
        let of = are.only j set in
        (of.0, of.1, subst (λ (m : ℕ). IsWordOf e now m j) (sym (stays of.0 (omega (arith, of.1, inside)))) (of.2.0, omega (arith, of.2.1, size of.0 of.1)));
    apart = λ k l n order lt one two. are.apart k l n order lt (word-before k n (omega (arith, order, lt)) one) (word-before l n lt two);
    closed = λ k lt. subst (λ (m : ℕ). AllKept e heads (object_at e now m).references) (sym (stays k (omega (arith, lt, inside)))) (is-now k lt).closed;
  }

pub looked-again : (e : Edition) (count : ℕ) (before now run old new old_heads heads bits : List ℕ) (next i : ℕ) → length before ≡ count → length now ≡ count → next ≤ length old
    → IsAt now i run → 0 < length run → AreMet old old_heads → AreMet new heads → IsAgain e count run old new (get_or run 0 0)
    → AreSameBut e before now old next i → AreLookedAt e before old next old_heads bits → AreLookedAt e now new next heads bits
looked-again e count before now run old new old_heads heads bits next i counted_before counted inside at some met_old met_new step same are =
    again-looked e count before now run old new old_heads heads bits next i counted_before counted inside at some met_old met_new
    (subst (IsAgain e count run old new) (sym (same-head now run i at some)) step) same are

-- objects were met, and none was looked at
pub looked-met : (e : Edition) (count : ℕ) (words old new values old_heads heads bits : List ℕ) (next : ℕ) → next ≤ length old → new ≡ fold (after_word (is_below count)) old values
    → AreMet old old_heads → AreMet new heads → AreLookedAt e words old next old_heads bits → AreLookedAt e words new next heads bits
looked-met e count words old new values old_heads heads bits next inside from met_old met_new are =
    let stay : (k : ℕ) → k < next → get_or new k 0 ≡ get_or old k 0 = λ k lt. (places-kept count old new values from k (omega (arith, lt, inside))).1 in
    let word : (k n : ℕ) → k < next → IsWordOf e words (get_or new k 0) n → IsWordOf e words (get_or old k 0) n = λ k n lt of. subst (λ (m : ℕ). IsWordOf e words m n) (stay k lt) of in
    record {
      done = λ k lt. subst (IsDone e words bits) (sym (stay k lt)) (are.done k lt);
      only = λ j set. (let of = are.only j set in (of.0, of.1, subst (λ (m : ℕ). IsWordOf e words m j) (sym (stay of.0 of.1)) of.2));
      apart = λ k l n order lt one two. are.apart k l n order lt (word k n (omega (arith, order, lt)) one) (word l n lt two);
      closed = λ k lt.
          subst (λ (m : ℕ). AllKept e heads (object_at e words m).references) (sym (stay k lt))
          (kept-more e count old_heads heads (object_at e words (get_or old k 0)).references (heads-more e count old new old_heads heads values from met_old met_new) (are.closed k lt));
    }

-- ---- cards

module _ (e : Edition) (before now : List ℕ) (clean : ℕ → Bool) (counted : length before ≡ length now)
    (written : (j : ℕ) → j < length before → clean (j / 64) ≡ true → get_or before j 0 ≡ get_or now j 0)
    (i : ℕ) (placed : IsPlaced e before i) (all : (j : ℕ) → IsWordOf e before i j → clean (j / 64) ≡ true) where
  word-same : (f : ℕ) → f < size_of (header_at e before i) → get_or before (i + f) 0 ≡ get_or now (i + f) 0
  word-same f lt = written (i + f) (omega (arith, lt, placed.within)) (all (i + f) (omega arith, omega (arith, lt)))

  header-same : header_at e before i ≡ header_at e now i
  header-same =
      let zero : i + 0 ≡ i = omega arith in
      let same = word-same 0 (omega arith) in
      ap (header_of e) (ap (λ (n : ℕ). get_or before n 0) (sym zero) ∙ same ∙ ap (λ (n : ℕ). get_or now n 0) zero)

  part-same : (at many : ℕ) → i < at → at + many ≤ i + size_of (header_at e before i) → take many (drop at before) ≡ take many (drop at now)
  part-same at many above inside =
      same_number_lists (take many (drop at before)) (take many (drop at now))
      (omega (arith, length-take many (drop at before), length-take many (drop at now), length-drop at before, length-drop at now, counted))
      (λ k lt.
      let few : k < many = omega (arith, lt, length-take many (drop at before)) in
      let f = at + k - i in
      let there : i + f ≡ at + k = omega (arith, above) in
      let same : get_or before (at + k) 0 ≡ get_or now (at + k) 0 = subst (λ (n : ℕ). get_or before n 0 ≡ get_or now n 0) there (word-same f (omega (arith, few, inside, there))) in
      get_or-take many (drop at before) k 0 few ∙ get_or-drop at before k 0 ∙ same ∙ sym (get_or-take many (drop at now) k 0 few ∙ get_or-drop at now k 0))

  -- an object of which no card was written to is the same
  pub clean-same : IsSameAt e before now i
  clean-same =
      let h = header_at e before i in
      record {
        size = ap size_of header-same;
        references = part-same (i + 1) (refs_of h) (omega arith) (omega arith) ∙ ap (λ (n : ℕ). take n (drop (i + 1) now)) (ap refs_of header-same);
        weak =
            part-same (i + 1 + refs_of h) (weak_of h) (omega arith) (omega arith)
            ∙ ap (λ (n : ℕ). take (weak_of h) (drop (i + 1 + n) now)) (ap refs_of header-same)
            ∙ ap (λ (n : ℕ). take n (drop (i + 1 + refs_of (header_at e now i)) now)) (ap weak_of header-same);
      }
