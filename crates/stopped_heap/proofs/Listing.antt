-- The objects of a settled survey, put into a queue.
use Rattle.std.proofs.Common.{◌≡◌, ℕ, ◌+◌, ◌/◌, ◌<◌, ◌==◌, ◌||◌, true, false, List, [], ◌∷◌, ◌++◌, length, inl, inr, refl, sym, subst, ◌∙◌, arith}
use Rattle.std.proofs.lemmas.Bool.{both_ways, cases_Bool, cases_lt, eq-eqb, eqb-true, or_cases, or_left, or_right}
use Rattle.std.proofs.lemmas.List.Folds.{list_any-append}
use Rattle.heap_layout.specs.declared.edition.Edition.{Edition}
use Rattle.heap_layout.specs.Bits.{bit}
use Rattle.reachability.specs.Queue.{has}
use Rattle.rest_marks.specs.Growing.{AreMarked, IsGrown}
use Rattle.rest_marks.specs.Meeting.{AreMet, AreOnce}
use Rattle.rest_marks.specs.Surveys.{AreTables}
use Rattle.stopped_heap.proofs.FoundIn.{found-marked}
use Rattle.rest_marks.proofs.Queued.{once-none, once-push}

-- the queue has the indices of the set bits below n, each once
pub record AreListed (heads : List ℕ) (n : ℕ) (queue : List ℕ) : Type 0 where
  pub here : (j : ℕ) → has queue j ≡ true → bit heads j ≡ true
  pub all : (j : ℕ) → j < n → bit heads j ≡ true → has queue j ≡ true
  pub once : AreOnce n queue

pub listed-none : (heads : List ℕ) → AreListed heads 0 []
listed-none heads = record {
  here = λ j there. absurd (let no : false ≡ true = there in cc);
  all = λ j lt set. absurd (omega (arith, lt));
  once = once-none 0;
}

-- below one more
pub once-wider : (n : ℕ) (queue : List ℕ) → AreOnce n queue → AreOnce (n + 1) queue
once-wider n queue are = record { once = are.once; within = λ i there. omega (arith, are.within i there) }

-- it has not the next index
pub listed-next : (heads : List ℕ) (n : ℕ) (queue : List ℕ) → AreListed heads n queue → has queue n ≡ false
listed-next heads n queue are = elim (cases_Bool (has queue n)) [
  | inl there ↦ absurd (let lt = are.once.within n there in omega (arith, lt))
  | inr unmet ↦ unmet
]

-- one bit more that is set
pub listed-more : (heads : List ℕ) (n : ℕ) (queue : List ℕ) → AreListed heads n queue → bit heads n ≡ true → AreListed heads (n + 1) (queue ++ n ∷ [])
listed-more heads n queue are set = record {
  here = λ j there. elim (or_cases (has queue j) ((j == n) || false) (sym (list_any-append (λ k. j == k) queue (n ∷ [])) ∙ there)) [
    | inl before ↦ are.here j before
    | inr last ↦ elim (or_cases (j == n) false last) [
      | inl same ↦ subst (λ (m : ℕ). bit heads m ≡ true) (sym (eqb-true j n same)) set
      | inr never ↦ absurd (let no : false ≡ true = never in cc)
    ]
  ];
  all = λ j lt here.
      list_any-append (λ k. j == k) queue (n ∷ []) ∙ elim (cases_lt j n) [
        | inl less ↦ or_left (has queue j) ((j == n) || false) (are.all j less here)
        | inr past ↦ or_right (has queue j) ((j == n) || false) (or_left (j == n) false (eq-eqb j n (omega (arith, lt, past))))
      ];
  once = once-push (n + 1) queue n (once-wider n queue are.once) (omega arith) (listed-next heads n queue are);
}

-- one more that is not
pub listed-same : (heads : List ℕ) (n : ℕ) (queue : List ℕ) → AreListed heads n queue → bit heads n ≡ false → AreListed heads (n + 1) queue
listed-same heads n queue are unset = record {
  here = are.here;
  all = λ j lt set. elim (cases_lt j n) [
    | inl less ↦ are.all j less set
    | inr past ↦ absurd (let same : j ≡ n = omega (arith, lt, past) in both_ways (bit heads n) unset (subst (λ (m : ℕ). bit heads m ≡ true) same set))
  ];
  once = once-wider n queue are.once;
}

-- all bits
pub listed-met : (heads : List ℕ) (n : ℕ) (queue : List ℕ) → AreListed heads n queue → ((i : ℕ) → bit heads i ≡ true → i < n) → AreMet queue heads
listed-met heads n queue are inside = λ i. elim (cases_Bool (bit heads i)) [
  | inl set ↦ set ∙ sym (are.all i (inside i set) set)
  | inr unset ↦ unset ∙ sym (elim (cases_Bool (has queue i)) [
    | inl there ↦ absurd (both_ways (bit heads i) unset (are.here i there))
    | inr unmet ↦ unmet
  ])
]

-- the tables of a survey are what marking leaves
pub tables-marked : (edition : Edition) (words heads bits counts : List ℕ) → AreTables edition words heads bits counts → AreMarked edition words heads bits
tables-marked edition words heads bits counts tables =
    found-marked edition (length words) 0 words heads bits (record { edition = refl; count = refl; marks = refl; indices = tables.indices; sound = tables.sound })

-- each of their bits is that of a word
pub tables-inside : (edition : Edition) (words heads bits counts : List ℕ) → AreTables edition words heads bits counts → (i : ℕ) → bit heads i ≡ true → i < length words
tables-inside edition words heads bits counts tables i set =
    let placed = ((tables-marked edition words heads bits counts tables).done i set).placed in
    omega (arith, placed.within)

-- with their objects in a queue they are those of a survey that grows
pub tables-grown : (edition : Edition) (words queue heads bits counts : List ℕ) → AreTables edition words heads bits counts
    → length heads ≡ (length words + 63) / 64 → AreMet queue heads → AreOnce (length words) queue → IsGrown edition words queue heads bits
tables-grown edition words queue heads bits counts tables sized met once = record {
  sized = sized;
  same = sym tables.same;
  begun = record {
    few = tables.sound.few_words;
    met = met;
    once = once;
    marked = tables-marked edition words heads bits counts tables;
  };
}
