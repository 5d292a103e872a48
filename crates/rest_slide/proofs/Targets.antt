-- What a target is.
use Rattle.std.proofs.Common.{◌≡◌, ℕ, ◌^◌, ◌<◌, ◌==◌, ◌⊎◌, true, false, List, [], ◌∷◌, inl, inr, sym, subst, arith}
use Rattle.std.specs.List.{list_any}
use Rattle.std.proofs.lemmas.Bool.{eqb-true, or_cases}
use Rattle.heap_layout.specs.Heap.{from_address, IsTarget, IsValue}
use Rattle.heap_layout.specs.declared.edition.Edition.{Edition}
use Rattle.heap_layout.proofs.Values.{no-immediate, value-cases}
use Rattle.reachability.specs.Queue.{has}
use Rattle.reachability.proofs.Queues.{has-first, has-later}

-- the address of some mark is that of a marked object
address-any : (marks : List ℕ) (reference : ℕ) → list_any (λ mark. from_address mark == reference) marks ≡ true → (i : ℕ) × (has marks i ≡ true) × (reference ≡ from_address i)
address-any [] reference found = absurd (let no : false ≡ true = found in cc)
address-any (mark ∷ marks) reference found =
    elim (or_cases (from_address mark == reference) (list_any (λ m. from_address m == reference) marks) found) [
      | inl here ↦ (mark, has-first mark marks, sym (eqb-true (from_address mark) reference here))
      | inr later ↦ let at = address-any marks reference later in (at.0, has-later mark at.0 marks at.1, at.2)
    ]

-- a target is null or the address of a marked object
pub target-cases : (marks : List ℕ) (reference : ℕ) → IsTarget marks reference → (reference ≡ 0) ⊎ ((i : ℕ) × (has marks i ≡ true) × (reference ≡ from_address i))
target-cases marks reference target =
    elim (or_cases (reference == 0) (list_any (λ mark. from_address mark == reference) marks) target) [
      | inl null ↦ inl (eqb-true reference 0 null)
      | inr marked ↦ inr (address-any marks reference marked)
    ]

-- an address that is a target is that of a marked object
target-back : (marks : List ℕ) (i : ℕ) → IsTarget marks (from_address i) → has marks i ≡ true
target-back marks i target =
    elim (target-cases marks (from_address i) target) [
      | inl null ↦ absurd (omega arith)
      | inr marked ↦ let same : marked.0 ≡ i = (let is = marked.2 in omega arith) in subst (λ (j : ℕ). has marks j ≡ true) same marked.1
    ]

-- so is one that is a value, if its index is small
pub value-back : (edition : Edition) (marks : List ℕ) (i : ℕ) → i < 2 ^ 62 → IsValue edition marks (from_address i) → has marks i ≡ true
value-back edition marks i small value =
    elim (value-cases edition marks (from_address i) value) [
      | inl immediate ↦ absurd (no-immediate edition (from_address i) (omega arith) immediate)
      | inr target ↦ target-back marks i target
    ]
