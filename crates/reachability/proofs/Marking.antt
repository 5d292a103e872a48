-- The loop that follows the references of each object in the queue.
use Rattle.std.proofs.Common.{◌≡◌, ℕ, zero, suc, ◌+◌, ◌-◌, ◌^◌, ◌<◌, ◌≤◌, Bool, true, leb, List, [], inl, inr, length, get_or, fold, Contains, refl, sym, ap, subst, ◌∙◌, arith}
use Rattle.std.specs.List.{flat_map}
use Rattle.std.specs.Cmp.{nat_eq_equiv}
use Rattle.std.proofs.lemmas.Bool.{leb-true, le-leb, eqb-true, and_parts, and_from, cases_lt}
use Rattle.std.proofs.lemmas.Map.Views.{Contains-from_any, list_any-from_Contains}
use Rattle.std.proofs.lemmas.Map.Steps.{length-le_from_distinct_below}
use Rattle.heap_layout.specs.declared.edition.Edition.{Edition}
use Rattle.heap_layout.specs.Heap.{from_address, is_start, object_at, starts, IsPlaced}
use Rattle.heap_layout.specs.Faults.{object_faults}
use Rattle.heap_layout.proofs.Rows.{placed-start}
use Rattle.reachability.proofs.Starts.{starts-within}
use Rattle.reachability.specs.Queue.{has, is_address, after_word}
use Rattle.reachability.specs.Reachable.{LeadTo, IsReachable, by_root, by_reference}
use Rattle.reachability.proofs.Queues.{IsMet, IsQueue, queue-none, queue-all, kept, places, met, place-of, has-at}

-- the references of the object at index i
abbrev pub references_of : Edition → List ℕ → ℕ → List ℕ
references_of edition words i = (object_at edition words i).references

-- what the roots reach is an object of the row
pub reachable-start : (edition : Edition) (words roots : List ℕ) (i : ℕ) → IsReachable edition words roots i → is_start (starts edition words) i ≡ true
reachable-start edition words roots i (by_root _ leads) = leads.start
reachable-start edition words roots j (by_reference i _ reached leads) = leads.start

-- The references of the first `next` objects of the queue were followed. Each object in the queue is reachable.
pub record IsMarking (edition : Edition) (words roots : List ℕ) (row : ℕ → Bool) (queue : List ℕ) (next : ℕ) : Type 0 where
  pub objects : IsQueue row (IsReachable edition words roots) queue
  pub from_roots : (word : ℕ) → has roots word ≡ true → IsMet row queue word
  pub closed : (k word : ℕ) → k < next → has (references_of edition words (get_or queue k 0)) word ≡ true → IsMet row queue word
  pub within : next ≤ length queue

-- the row of the bits is that of the words
abbrev pub IsRow : Edition → List ℕ → (ℕ → Bool) → Type 0
IsRow edition words row = (i : ℕ) → row i ≡ is_start (starts edition words) i

-- a word that is an address leads to its object
leads-to : (edition : Edition) (words : List ℕ) (row : ℕ → Bool) (from : List ℕ) (word : ℕ) → IsRow edition words row → has from word ≡ true → is_address row word ≡ true
    → LeadTo edition words from (word - 2 ^ 32)
leads-to edition words row from word is there address =
    let parts = and_parts (leb (2 ^ 32) word) (row (word - 2 ^ 32)) address in
    let above = leb-true (2 ^ 32) word parts.0 in
    let same : word ≡ from_address (word - 2 ^ 32) = omega arith in
    record {
      start = sym (is (word - 2 ^ 32)) ∙ parts.1;
      address = subst (Contains from) same (Contains-from_any (λ x y q. eqb-true x y q) word from there);
    }

-- if words lead to an object, and were met, the queue has it
led-to : (edition : Edition) (words : List ℕ) (row : ℕ → Bool) (queue from : List ℕ) (i : ℕ) → IsRow edition words row → LeadTo edition words from i
    → ((word : ℕ) → has from word ≡ true → IsMet row queue word) → has queue i ≡ true
led-to edition words row queue from i is leads were =
    let back : from_address i - 2 ^ 32 ≡ i = omega arith in
    let there = list_any-from_Contains nat_eq_equiv (from_address i) from leads.address in
    let address : is_address row (from_address i) ≡ true =
    and_from (leb (2 ^ 32) (from_address i)) (row (from_address i - 2 ^ 32)) (le-leb (2 ^ 32) (from_address i) (omega arith)) (ap row back ∙ is i ∙ leads.start) in
    sym (ap (has queue) back) ∙ were (from_address i) there address

-- after the roots were looked at
pub marking-first : (edition : Edition) (words roots : List ℕ) (row : ℕ → Bool) (queue : List ℕ) → IsRow edition words row → queue ≡ fold (after_word row) [] roots
    → IsMarking edition words roots row queue 0
marking-first edition words roots row queue is from = record {
  objects = rw from (queue-all row (IsReachable edition words roots) [] roots (queue-none row (IsReachable edition words roots))
      (λ word there address. by_root (word - 2 ^ 32) (leads-to edition words row roots word is there address)));
  from_roots = λ word there. rw from (met row [] roots word there);
  closed = λ k word below. absurd (omega arith);
  within = omega arith;
}

-- an object in the queue is reachable
reachable-at : (edition : Edition) (words roots : List ℕ) (row : ℕ → Bool) (queue : List ℕ) (next k : ℕ) → IsMarking edition words roots row queue next → k < length queue
    → IsReachable edition words roots (get_or queue k 0)
reachable-at edition words roots row queue next k is within = is.objects.holds (get_or queue k 0) (has-at queue k within)

-- after the references of one object more
pub marking-next : (edition : Edition) (words roots : List ℕ) (row : ℕ → Bool) (old : List ℕ) (next : ℕ) (new : List ℕ) → IsRow edition words row
    → IsMarking edition words roots row old next → next < length old → new ≡ fold (after_word row) old (references_of edition words (get_or old next 0))
    → IsMarking edition words roots row new (next + 1)
marking-next edition words roots row old next new is of within from =
    let object = get_or old next 0 in
    let references = references_of edition words object in
    let reached = reachable-at edition words roots row old next next of within in
    rw from (record {
      objects = queue-all row (IsReachable edition words roots) old references of.objects
          (λ word there address. by_reference object (word - 2 ^ 32) reached (leads-to edition words row references word is there address));
      from_roots = λ word there leads. kept row old references (word - 2 ^ 32) (of.from_roots word there leads);
      closed = λ k word below there leads.
          let inside : k < length old = omega arith in
          let stays = (places row old references k inside).1 in
          elim (cases_lt k next) [
            | inl earlier ↦ kept row old references (word - 2 ^ 32) (of.closed k word earlier (sym (ap (λ (i : ℕ). has (references_of edition words i) word) stays) ∙ there) leads)
            | inr last ↦
                let here : k ≡ next = omega arith in
                met row old references word (sym (ap (λ (i : ℕ). has (references_of edition words i) word) (stays ∙ ap (λ (j : ℕ). get_or old j 0) here)) ∙ there) leads
          ];
      within = let more = (places row old references next within).0 in omega arith;
    })

-- each object in the queue is placed
pub marking-placed : (edition : Edition) (words roots : List ℕ) (row : ℕ → Bool) (queue : List ℕ) (next k : ℕ) → IsRow edition words row
    → flat_map (object_faults edition words) (starts edition words) ≡ [] → IsMarking edition words roots row queue next → k < length queue
    → IsPlaced edition words (get_or queue k 0)
marking-placed edition words roots row queue next k is none of within =
    let i = get_or queue k 0 in
    placed-start edition words (starts edition words) i none (sym (is i) ∙ of.objects.of_row i (has-at queue k within))

-- the queue has no more objects than there are words
pub marking-few : (edition : Edition) (words roots : List ℕ) (row : ℕ → Bool) (queue : List ℕ) (next : ℕ) → IsRow edition words row → IsMarking edition words roots row queue next
    → length queue ≤ length words
marking-few edition words roots row queue next is of =
    length-le_from_distinct_below queue (length words) of.objects.once
    (λ i there. let within = starts-within edition 0 0 words i (sym (is i) ∙ of.objects.of_row i there) in omega arith)

-- if the references of all were followed, the queue has each object that the roots reach
pub all-met : (edition : Edition) (words roots : List ℕ) (row : ℕ → Bool) (queue : List ℕ) (next : ℕ) → IsRow edition words row
    → IsMarking edition words roots row queue next → length queue ≤ next → (i : ℕ) → IsReachable edition words roots i → has queue i ≡ true
all-met edition words roots row queue next is of done i (by_root _ leads) = led-to edition words row queue roots i is leads of.from_roots
all-met edition words roots row queue next is of done j (by_reference i _ reached leads) =
    let at = place-of queue i (all-met edition words roots row queue next is of done i reached) in
    let below = at.1 in
    led-to edition words row queue (references_of edition words i) j is leads
    (λ word there. of.closed at.0 word (omega arith) (ap (λ (k : ℕ). has (references_of edition words k) word) at.2 ∙ there))

-- ---- the marks exist

-- a queue that has each object that the roots reach
pub record HasReachable (edition : Edition) (words roots queue : List ℕ) : Type 0 where
  pub reachable : (i : ℕ) → has queue i ≡ true → IsReachable edition words roots i
  pub all : (i : ℕ) → IsReachable edition words roots i → has queue i ≡ true

-- the loop comes to its end
ends : (steps : ℕ) (edition : Edition) (words roots : List ℕ) (row : ℕ → Bool) (queue : List ℕ) (next : ℕ) → IsRow edition words row → IsMarking edition words roots row queue next
    → length words ≤ next + steps → (last : List ℕ) × HasReachable edition words roots last
ends zero edition words roots row queue next is of few =
    let short = marking-few edition words roots row queue next is of in
    (queue, record { reachable = of.objects.holds; all = all-met edition words roots row queue next is of (omega arith) })
ends (suc steps) edition words roots row queue next is of few =
    elim (cases_lt next (length queue)) [
      | inr done ↦ (queue, record { reachable = of.objects.holds; all = all-met edition words roots row queue next is of done })
      | inl more ↦
          let new = fold (after_word row) queue (references_of edition words (get_or queue next 0)) in
          ends steps edition words roots row new (next + 1) is (marking-next edition words roots row queue next new is of more refl) (omega arith)
    ]

pub queue-exists : (edition : Edition) (words roots : List ℕ) → (queue : List ℕ) × HasReachable edition words roots queue
queue-exists edition words roots =
    let row = is_start (starts edition words) in
    let queue = fold (after_word row) [] roots in
    ends (length words) edition words roots row queue 0 (λ i. refl) (marking-first edition words roots row queue (λ i. refl) refl) (omega arith)
