-- Objects that were asked, one by one, and what that says of a marking.
use Rattle.std.proofs.Common.{◌≡◌, ℕ, ◌+◌, ◌-◌, ◌*◌, ◌^◌, ◌<◌, ◌≤◌, ◌==◌, ◌⊎◌, true, false, leb, List, length, get_or, inl, inr, sym, ap, subst, ◌∙◌, arith}
use Rattle.std.proofs.lemmas.Bool.{both_ways, cases_Bool, cases_lt, or_cases, or_left, or_right, and_parts, and_from, lt-ltb}
use Rattle.heap_layout.specs.declared.edition.Edition.{Edition}
use Rattle.heap_layout.specs.Bits.{bit, leads}
use Rattle.heap_layout.specs.Heap.{object_at, IsPlaced}
use Rattle.heap_layout.specs.Values.{is_immediate}
use Rattle.reachability.specs.Queue.{is_address}
use Rattle.rest_marks.specs.Checks.{AreAsked, AreOthers, IsAskFault, IsAskedFault, IsBadWeakOf, IsCheckFault, IsMisplaced, IsUnmarkedOf}
use Rattle.rest_marks.specs.Looks.{Looking, AreLookedAt}
use Rattle.rest_marks.specs.Marks.{AllKept}
use Rattle.rest_marks.specs.Meeting.{AllLead, AreMet, AreOnce}
use Rattle.rest_marks.specs.Reached.{is_below, leads_within, IsWordOf}
use Rattle.rest_marks.specs.declared.fault.CheckFault.{CheckFault}
use Rattle.rest_marks.specs.declared.fault.CheckFault.TheVariants.{WrongLength, Changed, Unmarked, BadWeak, Unowned, OutOfMemory}
use Rattle.rest_marks.proofs.Bounding.{bit-inside}

-- what was asked of the object at index i
pub record IsAsked (e : Edition) (words heads : List ℕ) (i : ℕ) (old new : List ℕ) : Type 0 where
  pub placed : IsPlaced e words i
  pub references : AllKept e heads (object_at e words i).references
  pub weak : AllLead e (length words) (object_at e words i).weak
  pub free : (j : ℕ) → IsWordOf e words i j → bit old j ≡ false
  pub set : (j : ℕ) → IsWordOf e words i j → bit new j ≡ true
  pub stay : (j : ℕ) → bit old j ≡ true → bit new j ≡ true
  pub only : (j : ℕ) → bit new j ≡ true → (bit old j ≡ true) ⊎ IsWordOf e words i j

module _ (e : Edition) (words heads objects before : List ℕ) where
  -- at first none was asked
  pub asked-first : AreAsked e words heads objects 0 before before
  asked-first = record {
    placed = λ l lt. absurd (omega (arith, lt));
    references = λ l lt. absurd (omega (arith, lt));
    weak = λ l lt. absurd (omega (arith, lt));
    free = λ l j lt. absurd (omega (arith, lt));
    set = λ l j lt. absurd (omega (arith, lt));
    stay = λ j set. set;
    only = λ j set. inl set;
    apart = λ l m j one two. absurd (omega (arith, two));
  }

  -- then one more
  pub asked-next : (old new : List ℕ) (k i : ℕ) → i ≡ get_or objects k 0 → AreAsked e words heads objects k before old → IsAsked e words heads i old new
      → AreAsked e words heads objects (k + 1) before new
  asked-next old new k i at are is =
      let here : (l : ℕ) → k ≤ l → l < k + 1 → i ≡ get_or objects l 0 =
      λ l low high. (let same : k ≡ l = omega (arith, low, high) in at ∙ ap (λ (n : ℕ). get_or objects n 0) same) in
      let word : (l j : ℕ) → k ≤ l → l < k + 1 → IsWordOf e words (get_or objects l 0) j → IsWordOf e words i j =
      λ l j low high of. subst (λ (n : ℕ). IsWordOf e words n j) (sym (here l low high)) of in
      record {
        placed = λ l lt. elim (cases_lt l k) [ inl old_one ↦ are.placed l old_one | inr last ↦ subst (IsPlaced e words) (here l last lt) is.placed ];
        references = λ l lt. elim (cases_lt l k) [
          | inl old_one ↦ are.references l old_one
          | inr last ↦ subst (λ (n : ℕ). AllKept e heads (object_at e words n).references) (here l last lt) is.references
        ];
        weak = λ l lt. elim (cases_lt l k) [
          | inl old_one ↦ are.weak l old_one
          | inr last ↦ subst (λ (n : ℕ). AllLead e (length words) (object_at e words n).weak) (here l last lt) is.weak
        ];
        free = λ l j lt of. elim (cases_lt l k) [
          | inl old_one ↦ are.free l j old_one of
          | inr last ↦ elim (cases_Bool (bit before j)) [
            | inl set ↦ absurd (both_ways (bit old j) (is.free j (word l j last lt of)) (are.stay j set))
            | inr unset ↦ unset
          ]
        ];
        set = λ l j lt of. elim (cases_lt l k) [
          | inl old_one ↦ is.stay j (are.set l j old_one of)
          | inr last ↦ is.set j (word l j last lt of)
        ];
        stay = λ j set. is.stay j (are.stay j set);
        only = λ j set. elim (is.only j set) [
          | inl was ↦ elim (are.only j was) [
            | inl first ↦ inl first
            | inr of ↦ inr (of.0, omega (arith, of.1), of.2)
          ]
          | inr of ↦ inr (k, omega arith, subst (λ (n : ℕ). IsWordOf e words n j) at of)
        ];
        apart = λ l m j order lt one two. elim (cases_lt m k) [
          | inl old_one ↦ are.apart l m j order old_one one two
          | inr last ↦
              let earlier : l < k = omega (arith, order, lt) in
              both_ways (bit old j) (is.free j (word m j last lt two)) (are.set l j earlier one)
        ];
      }

  -- why the object with number k is not as it must be
  pub asked-fault : (old : List ℕ) (k i many : ℕ) (fault : CheckFault) → i ≡ get_or objects k 0 → k < many → AreAsked e words heads objects k before old
      → IsAskFault e words heads old i fault → IsAskedFault e words heads objects many before fault
  asked-fault old k i many WrongLength at lt are cause = cause
  asked-fault old k i many (Changed n) at lt are cause = (
    k,
    lt,
    cause.0 ∙ at,
    elim cause.1 [
      | inl misplaced ↦ inl (subst (IsMisplaced e words) (sym cause.0) misplaced)
      | inr shared ↦ inr (shared.0, subst (λ (m : ℕ). IsWordOf e words m shared.0) (sym cause.0) shared.1, are.only shared.0 shared.2)
    ],
  )
  asked-fault old k i many (Unmarked j) at lt are cause = (k, lt, subst (λ (n : ℕ). IsUnmarkedOf e words heads n j) at cause)
  asked-fault old k i many (BadWeak j) at lt are cause = (k, lt, subst (λ (n : ℕ). IsBadWeakOf e words n j) at cause)
  asked-fault old k i many (Unowned j) at lt are cause = cause
  asked-fault old k i many OutOfMemory at lt are cause = cause

-- references that lead to objects that were met lead to words
pub kept-lead : (e : Edition) (count : ℕ) (heads refs : List ℕ) → ((i : ℕ) → bit heads i ≡ true → i < count) → AllKept e heads refs → AllLead e count refs
kept-lead e count heads refs inside all k lt =
    let word = get_or refs k 0 in
    elim (or_cases (is_immediate e word) (leads heads word) (all k lt)) [
      | inl immediate ↦ or_left (is_immediate e word) (leads_within count word) immediate
      | inr to ↦ or_right (is_immediate e word) (leads_within count word) (elim (or_cases (word == 0) (is_address (bit heads) word) to) [
        | inl null ↦ or_left (word == 0) (is_address (is_below count) word) null
        | inr address ↦
            let i = word - 2 ^ 32 in
            let parts = and_parts (leb (2 ^ 32) word) (bit heads i) address in
            or_right (word == 0) (is_address (is_below count) word) (and_from (leb (2 ^ 32) word) (is_below count i) parts.0 (lt-ltb i count (inside i parts.1)))
      ])
    ]

module _ (looking : Looking) (words before taken : List ℕ) (others : AreOthers looking.bits before)
    (are : AreAsked looking.edition words looking.heads looking.met looking.looked before taken) where
  abbrev e : Edition
  e = looking.edition

  abbrev at : ℕ → ℕ
  at k = get_or looking.met k 0

  was-set : (j : ℕ) → j < 64 * length looking.bits → bit before j ≡ false → bit looking.bits j ≡ true
  was-set j lt unset = elim (cases_Bool (bit looking.bits j)) [
    | inl set ↦ set
    | inr none ↦ absurd (both_ways (bit before j) unset (others.set j lt none))
  ]

  -- all objects were asked, and each word whose bit was set is one of theirs
  pub asked-looked : AreMet looking.met looking.heads → AreOnce (length words) looking.met → length words ≤ 64 * length looking.bits
      → ((j : ℕ) → j < 64 * length looking.bits → bit taken j ≡ true)
      → AreLookedAt e words looking.met looking.looked looking.heads looking.bits
  asked-looked met once room full = record {
    done = λ k lt. record {
      placed = are.placed k lt;
      run = λ j of. was-set j (omega (arith, of.1, (are.placed k lt).within, room)) (are.free k j lt of);
      references = kept-lead e (length words) looking.heads (object_at e words (at k)).references (λ i set. once.within i (sym (met i) ∙ set)) (are.references k lt);
      weak = are.weak k lt;
    };
    only = λ j set. elim (are.only j (full j (bit-inside looking.bits j set))) [
      | inl first ↦ absurd (both_ways (bit before j) (others.unset j set) first)
      | inr of ↦ of
    ];
    apart = λ k l n order lt one two. are.apart k l n order lt one two;
    closed = are.references;
  }

  -- a word whose bit was set, and which is none of theirs
  pub unowned : (j : ℕ) → length words ≡ looking.count → j < 64 * length looking.bits → bit taken j ≡ false → IsCheckFault looking words (Unowned j)
  unowned j counted lt unset = (
    counted,
    was-set j lt (elim (cases_Bool (bit before j)) [ inl set ↦ absurd (both_ways (bit taken j) unset (are.stay j set)) | inr none ↦ none ]),
    λ of. both_ways (bit taken j) unset (are.set of.0 j of.1 of.2),
  )

-- what is wrong with one of them
pub check-fault : (looking : Looking) (words before : List ℕ) (fault : CheckFault) → AreOthers looking.bits before → length words ≡ looking.count
    → IsAskedFault looking.edition words looking.heads looking.met looking.looked before fault → IsCheckFault looking words fault
check-fault looking words before WrongLength others counted cause = absurd cause
check-fault looking words before (Changed i) others counted cause = (
  counted,
  cause.0,
  cause.1,
  cause.2,
  elim cause.3 [
    | inl misplaced ↦ inl misplaced
    | inr shared ↦ inr (
      shared.0,
      shared.1,
      elim shared.2 [
        | inl set ↦ inl (elim (cases_Bool (bit looking.bits shared.0)) [
          | inl was ↦ absurd (both_ways (bit before shared.0) (others.unset shared.0 was) set)
          | inr none ↦ none
        ])
        | inr of ↦ inr of
      ],
    )
  ],
)
check-fault looking words before (Unmarked j) others counted cause = (counted, cause.0, cause.1, cause.2)
check-fault looking words before (BadWeak j) others counted cause = (counted, cause.0, cause.1, cause.2)
check-fault looking words before (Unowned j) others counted cause = absurd cause
check-fault looking words before OutOfMemory others counted cause = absurd cause
