-- The loop that follows the references of each object in the queue.
use Rattle.std.proofs.Common.{◌≡◌, ℕ, ◌+◌, ◌-◌, ◌^◌, ◌<◌, ◌≤◌, true, leb, List, [], inl, inr, length, get_or, fold, Contains, sym, ap, subst, ◌∙◌, arith}
use Rattle.std.specs.Cmp.{nat_eq_equiv}
use Rattle.std.proofs.lemmas.Bool.{leb-true, le-leb, ltb-true, lt-ltb, eqb-true, and_parts, and_from, cases_lt}
use Rattle.std.proofs.lemmas.Map.Views.{Contains-from_any, list_any-from_Contains}
use Rattle.std.proofs.lemmas.Map.Steps.{length-le_from_distinct_below}
use Rattle.heap_layout.specs.declared.edition.Edition.{Edition}
use Rattle.heap_layout.specs.Heap.{from_address, object_at}
use Rattle.reachability.specs.Queue.{has, is_address, after_word}
use Rattle.reachability.proofs.Queues.{IsMet, IsQueue, queue-none, queue-all, kept, places, met, place-of, has-at}
use Rattle.rest_marks.specs.Reached.{is_below, LeadInto, IsReachedFrom, by_root, by_reference}

-- the references of the object at index i
abbrev pub references_of : Edition → List ℕ → ℕ → List ℕ
references_of edition words i = (object_at edition words i).references

-- what the roots reach is the index of a word
pub reached-inside : (edition : Edition) (words roots : List ℕ) (i : ℕ) → IsReachedFrom edition words roots i → i < length words
reached-inside edition words roots i (by_root _ leads) = leads.inside
reached-inside edition words roots j (by_reference i _ reached leads) = leads.inside

-- The references of the first `next` objects of the queue were followed. Each object in the queue is reached.
pub record IsFollowed (edition : Edition) (words roots queue : List ℕ) (next : ℕ) : Type 0 where
  pub objects : IsQueue (is_below (length words)) (IsReachedFrom edition words roots) queue
  pub from_roots : (word : ℕ) → has roots word ≡ true → IsMet (is_below (length words)) queue word
  pub closed : (k word : ℕ) → k < next → has (references_of edition words (get_or queue k 0)) word ≡ true → IsMet (is_below (length words)) queue word
  pub within : next ≤ length queue

-- a word that is an address leads to its object
pub leads-to : (words from : List ℕ) (word : ℕ) → has from word ≡ true → is_address (is_below (length words)) word ≡ true → LeadInto words from (word - 2 ^ 32)
leads-to words from word there address =
    let parts = and_parts (leb (2 ^ 32) word) (is_below (length words) (word - 2 ^ 32)) address in
    let above = leb-true (2 ^ 32) word parts.0 in
    let same : word ≡ from_address (word - 2 ^ 32) = omega arith in
    record {
      inside = ltb-true (word - 2 ^ 32) (length words) parts.1;
      address = subst (Contains from) same (Contains-from_any (λ x y q. eqb-true x y q) word from there);
    }

-- if words lead to an object, and were met, the queue has it
led-to : (words queue from : List ℕ) (i : ℕ) → LeadInto words from i → ((word : ℕ) → has from word ≡ true → IsMet (is_below (length words)) queue word) → has queue i ≡ true
led-to words queue from i leads were =
    let back : from_address i - 2 ^ 32 ≡ i = omega arith in
    let there = list_any-from_Contains nat_eq_equiv (from_address i) from leads.address in
    let row = is_below (length words) in
    let address : is_address row (from_address i) ≡ true =
    and_from (leb (2 ^ 32) (from_address i)) (row (from_address i - 2 ^ 32)) (le-leb (2 ^ 32) (from_address i) (omega arith)) (ap row back ∙ lt-ltb i (length words) leads.inside) in
    sym (ap (has queue) back) ∙ were (from_address i) there address

-- after the roots were looked at
pub followed-first : (edition : Edition) (words roots queue : List ℕ) → queue ≡ fold (after_word (is_below (length words))) [] roots → IsFollowed edition words roots queue 0
followed-first edition words roots queue from =
    let row = is_below (length words) in
    record {
      objects = rw from (queue-all row (IsReachedFrom edition words roots) [] roots (queue-none row (IsReachedFrom edition words roots))
          (λ word there address. by_root (word - 2 ^ 32) (leads-to words roots word there address)));
      from_roots = λ word there. rw from (met row [] roots word there);
      closed = λ k word below. absurd (omega (arith, below));
      within = omega arith;
    }

-- an object in the queue is reached
pub reached-at : (edition : Edition) (words roots queue : List ℕ) (next k : ℕ) → IsFollowed edition words roots queue next → k < length queue
    → IsReachedFrom edition words roots (get_or queue k 0)
reached-at edition words roots queue next k is within = is.objects.holds (get_or queue k 0) (has-at queue k within)

-- after the references of one object more
pub followed-next : (edition : Edition) (words roots old : List ℕ) (next : ℕ) (new : List ℕ) → IsFollowed edition words roots old next → next < length old
    → new ≡ fold (after_word (is_below (length words))) old (references_of edition words (get_or old next 0)) → IsFollowed edition words roots new (next + 1)
followed-next edition words roots old next new of within from =
    let row = is_below (length words) in
    let object = get_or old next 0 in
    let references = references_of edition words object in
    let reached = reached-at edition words roots old next next of within in
    rw from (record {
      objects = queue-all row (IsReachedFrom edition words roots) old references of.objects
          (λ word there address. by_reference object (word - 2 ^ 32) reached (leads-to words references word there address));
      from_roots = λ word there leads. kept row old references (word - 2 ^ 32) (of.from_roots word there leads);
      closed = λ k word below there leads.
          let inside : k < length old = omega (arith, below, within) in
          let stays = (places row old references k inside).1 in
          elim (cases_lt k next) [
            | inl earlier ↦ kept row old references (word - 2 ^ 32) (of.closed k word earlier (sym (ap (λ (i : ℕ). has (references_of edition words i) word) stays) ∙ there) leads)
            | inr last ↦
                let here : k ≡ next = omega (arith, below, last) in
                met row old references word (sym (ap (λ (i : ℕ). has (references_of edition words i) word) (stays ∙ ap (λ (j : ℕ). get_or old j 0) here)) ∙ there) leads
          ];
      within = let more = (places row old references next within).0 in omega (arith, more);
    })

-- an object in the queue is the index of a word
pub followed-inside : (edition : Edition) (words roots queue : List ℕ) (next k : ℕ) → IsFollowed edition words roots queue next → k < length queue → get_or queue k 0 < length words
followed-inside edition words roots queue next k of within = reached-inside edition words roots (get_or queue k 0) (reached-at edition words roots queue next k of within)

-- the queue has no more objects than there are words
pub followed-few : (edition : Edition) (words roots queue : List ℕ) (next : ℕ) → IsFollowed edition words roots queue next → length queue ≤ length words
followed-few edition words roots queue next of =
    length-le_from_distinct_below queue (length words) of.objects.once (λ i there. ltb-true i (length words) (of.objects.of_row i there))

-- if the references of all were followed, the queue has each object that the roots reach
pub all-followed : (edition : Edition) (words roots queue : List ℕ) (next : ℕ) → IsFollowed edition words roots queue next → length queue ≤ next
    → (i : ℕ) → IsReachedFrom edition words roots i → has queue i ≡ true
all-followed edition words roots queue next of done i (by_root _ leads) = led-to words queue roots i leads of.from_roots
all-followed edition words roots queue next of done j (by_reference i _ reached leads) =
    let at = place-of queue i (all-followed edition words roots queue next of done i reached) in
    led-to words queue (references_of edition words i) j leads
    (λ word there. of.closed at.0 word (omega (arith, at.1, done)) (ap (λ (k : ℕ). has (references_of edition words k) word) at.2 ∙ there))
