-- The loop that follows the references of each object in the queue, above the old ones.
use Rattle.std.proofs.Common.{◌≡◌, ℕ, ◌+◌, ◌-◌, ◌^◌, ◌<◌, ◌≤◌, Bool, true, leb, ltb, List, [], inl, inr, length, get_or, fold, Contains, sym, ap, subst, ◌∙◌, arith}
use Rattle.std.specs.Cmp.{nat_eq_equiv}
use Rattle.std.proofs.lemmas.Bool.{leb-true, le-leb, ltb-true, lt-ltb, eqb-true, and_parts, and_from, cases_lt}
use Rattle.std.proofs.lemmas.Map.Views.{Contains-from_any, list_any-from_Contains}
use Rattle.std.proofs.lemmas.Map.Steps.{length-le_from_distinct_below}
use Rattle.heap_layout.specs.declared.edition.Edition.{Edition}
use Rattle.heap_layout.specs.Heap.{from_address}
use Rattle.reachability.specs.Queue.{has, is_address, after_word}
use Rattle.reachability.proofs.Queues.{IsMet, IsQueue, queue-none, queue-all, kept, places, met, place-of, has-at}
use Rattle.rest_marks.proofs.Reaching.{references_of}
use Rattle.young_heap.specs.Young.{is_above, LeadAbove, IsReachedAbove, by_seed, by_reference}

-- an index above, of a word
pub record IsAbove (old count i : ℕ) : Type 0 where
  pub above : old ≤ i
  pub inside : i < count

pub above-parts : (old count i : ℕ) → is_above old count i ≡ true → IsAbove old count i
above-parts old count i is =
    let parts = and_parts (leb old i) (ltb i count) is in
    record { above = leb-true old i parts.0; inside = ltb-true i count parts.1 }

pub above-from : (old count i : ℕ) → old ≤ i → i < count → is_above old count i ≡ true
above-from old count i above inside = and_from (leb old i) (ltb i count) (le-leb old i above) (lt-ltb i count inside)

-- a word that is an address leads to its object
pub leads-to : (old : ℕ) (words from : List ℕ) (word : ℕ) → has from word ≡ true → is_address (is_above old (length words)) word ≡ true → LeadAbove old words from (word - 2 ^ 32)
leads-to old words from word there address =
    let parts = and_parts (leb (2 ^ 32) word) (is_above old (length words) (word - 2 ^ 32)) address in
    let low = leb-true (2 ^ 32) word parts.0 in
    let is = above-parts old (length words) (word - 2 ^ 32) parts.1 in
    let same : word ≡ from_address (word - 2 ^ 32) = omega (arith, low) in
    record {
      inside = is.inside;
      above = is.above;
      address = subst (Contains from) same (Contains-from_any (λ x y q. eqb-true x y q) word from there);
    }

-- if words lead to an object, and were met, the queue has it
led-to : (old : ℕ) (words queue from : List ℕ) (i : ℕ) → LeadAbove old words from i
    → ((word : ℕ) → has from word ≡ true → IsMet (is_above old (length words)) queue word) → has queue i ≡ true
led-to old words queue from i leads were =
    let back : from_address i - 2 ^ 32 ≡ i = omega arith in
    let there = list_any-from_Contains nat_eq_equiv (from_address i) from leads.address in
    let row = is_above old (length words) in
    let address : is_address row (from_address i) ≡ true =
    and_from (leb (2 ^ 32) (from_address i)) (row (from_address i - 2 ^ 32)) (le-leb (2 ^ 32) (from_address i) (omega arith))
    (ap row back ∙ above-from old (length words) i leads.above leads.inside) in
    sym (ap (has queue) back) ∙ were (from_address i) there address

module _ (edition : Edition) (old : ℕ) (words seeds : List ℕ) where
  abbrev row : ℕ → Bool
  row = is_above old (length words)

  abbrev Reached : ℕ → Type 0
  Reached = IsReachedAbove edition old words seeds

  -- what is reached is the index of a word above
  pub reached-above : (i : ℕ) → IsReachedAbove edition old words seeds i → IsAbove old (length words) i
  reached-above i (by_seed _ leads) = record { above = leads.above; inside = leads.inside }
  reached-above j (by_reference i _ reached leads) = record { above = leads.above; inside = leads.inside }

  -- The references of the first `next` objects of the queue were followed. Each object in the queue is reached.
  pub record IsFollowed (queue : List ℕ) (next : ℕ) : Type 0 where
    pub objects : IsQueue (is_above old (length words)) (IsReachedAbove edition old words seeds) queue
    pub from_seeds : (word : ℕ) → has seeds word ≡ true → IsMet (is_above old (length words)) queue word
    pub closed : (k word : ℕ) → k < next → has (references_of edition words (get_or queue k 0)) word ≡ true → IsMet (is_above old (length words)) queue word
    pub within : next ≤ length queue

  -- after the seeds were looked at
  pub followed-first : (queue : List ℕ) → queue ≡ fold (after_word (is_above old (length words))) [] seeds → IsFollowed queue 0
  followed-first queue from = record {
    objects = rw from (queue-all row Reached [] seeds (queue-none row Reached)
        (λ word there address. by_seed (word - 2 ^ 32) (leads-to old words seeds word there address)));
    from_seeds = λ word there. rw from (met row [] seeds word there);
    closed = λ k word below. absurd (omega (arith, below));
    within = omega arith;
  }

  -- an object in the queue is reached
  pub reached-at : (queue : List ℕ) (next k : ℕ) → IsFollowed queue next → k < length queue → IsReachedAbove edition old words seeds (get_or queue k 0)
  reached-at queue next k is within = is.objects.holds (get_or queue k 0) (has-at queue k within)

  -- so it is the index of a word above
  pub above-at : (queue : List ℕ) (next k : ℕ) → IsFollowed queue next → k < length queue → IsAbove old (length words) (get_or queue k 0)
  above-at queue next k is within = reached-above (get_or queue k 0) (reached-at queue next k is within)

  -- after the references of one object more
  pub followed-next : (before : List ℕ) (next : ℕ) (new : List ℕ) → IsFollowed before next → next < length before
      → new ≡ fold (after_word (is_above old (length words))) before (references_of edition words (get_or before next 0)) → IsFollowed new (next + 1)
  followed-next before next new of within from =
      let object = get_or before next 0 in
      let references = references_of edition words object in
      let reached = reached-at before next next of within in
      rw from (record {
        objects = queue-all row Reached before references of.objects
            (λ word there address. by_reference object (word - 2 ^ 32) reached (leads-to old words references word there address));
        from_seeds = λ word there leads. kept row before references (word - 2 ^ 32) (of.from_seeds word there leads);
        closed = λ k word below there leads.
            let inside : k < length before = omega (arith, below, within) in
            let stays = (places row before references k inside).1 in
            elim (cases_lt k next) [
              | inl earlier ↦ kept row before references (word - 2 ^ 32) (of.closed k word earlier (sym (ap (λ (i : ℕ). has (references_of edition words i) word) stays) ∙ there) leads)
              | inr last ↦
                  let here : k ≡ next = omega (arith, below, last) in
                  met row before references word (sym (ap (λ (i : ℕ). has (references_of edition words i) word) (stays ∙ ap (λ (j : ℕ). get_or before j 0) here)) ∙ there) leads
            ];
        within = let more = (places row before references next within).0 in omega (arith, more);
      })

  -- the queue has no more objects than there are words
  pub followed-few : (queue : List ℕ) (next : ℕ) → IsFollowed queue next → length queue ≤ length words
  followed-few queue next of =
      length-le_from_distinct_below queue (length words) of.objects.once (λ i there. (above-parts old (length words) i (of.objects.of_row i there)).inside)

  -- if the references of all were followed, the queue has each object that is reached
  pub all-followed : (queue : List ℕ) (next : ℕ) → IsFollowed queue next → length queue ≤ next → (i : ℕ) → IsReachedAbove edition old words seeds i → has queue i ≡ true
  all-followed queue next of done i (by_seed _ leads) = led-to old words queue seeds i leads of.from_seeds
  all-followed queue next of done j (by_reference i _ reached leads) =
      let at = place-of queue i (all-followed queue next of done i reached) in
      led-to old words queue (references_of edition words i) j leads
      (λ word there. of.closed at.0 word (omega (arith, at.1, done)) (ap (λ (k : ℕ). has (references_of edition words k) word) at.2 ∙ there))
