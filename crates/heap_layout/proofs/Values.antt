-- Values: immediates, and words that are null or lead to objects.
use Rattle.std.proofs.Common.{◌≡◌, ℕ, ◌^◌, ◌<◌, ◌==◌, ◌⊎◌, Bool, true, false, List, inl, inr, refl, arith}
use Rattle.std.proofs.lemmas.Bool.{leb-true, eqb-true, eq-eqb, or_cases, or_left, or_right}
use Rattle.heap_layout.specs.declared.edition.Edition.{Edition}
use Rattle.heap_layout.specs.declared.edition.Edition.TheVariants.{One, Two, Three, Four}
use Rattle.heap_layout.specs.Values.{is_immediate, IsImmediate, leads_nowhere, LeadsNowhere}
use Rattle.heap_layout.specs.Heap.{is_target, IsTarget, IsValue}

-- a number below 2^63 is no immediate of any edition
pub no-immediate : (edition : Edition) (word : ℕ) → word < 2 ^ 63 → IsImmediate edition word → ⊥
no-immediate One word small is = let no : false ≡ true = is in cc
no-immediate Two word small is = let no : false ≡ true = is in cc
no-immediate Three word small is = let no : false ≡ true = is in cc
no-immediate Four word small is = omega (arith, leb-true (2 ^ 63) word is)

-- an immediate is a value whatever is marked, and so is a target
pub value-immediate : (edition : Edition) (marks : List ℕ) (word : ℕ) → IsImmediate edition word → IsValue edition marks word
value-immediate edition marks word is = or_left (is_immediate edition word) (is_target marks word) is

pub value-target : (edition : Edition) (marks : List ℕ) (word : ℕ) → IsTarget marks word → IsValue edition marks word
value-target edition marks word target = or_right (is_immediate edition word) (is_target marks word) target

-- there are no other values
pub value-cases : (edition : Edition) (marks : List ℕ) (word : ℕ) → IsValue edition marks word → IsImmediate edition word ⊎ IsTarget marks word
value-cases edition marks word value = or_cases (is_immediate edition word) (is_target marks word) value

-- null leads nowhere, and an immediate does
pub nowhere-null : (edition : Edition) (word : ℕ) → word ≡ 0 → LeadsNowhere edition word
nowhere-null edition word null = or_left (word == 0) (is_immediate edition word) (eq-eqb word 0 null)

pub nowhere-immediate : (edition : Edition) (word : ℕ) → IsImmediate edition word → LeadsNowhere edition word
nowhere-immediate edition word is = or_right (word == 0) (is_immediate edition word) is

-- what leads nowhere is null or an immediate
pub nowhere-cases : (edition : Edition) (word : ℕ) → LeadsNowhere edition word → (word ≡ 0) ⊎ IsImmediate edition word
nowhere-cases edition word nowhere =
    elim (or_cases (word == 0) (is_immediate edition word) nowhere) [
      | inl null ↦ inl (eqb-true word 0 null)
      | inr immediate ↦ inr immediate
    ]

-- a word that is neither does not
pub leads-on : (edition : Edition) (word : ℕ) → (word ≡ 0 → ⊥) → (IsImmediate edition word → ⊥) → leads_nowhere edition word ≡ false
leads-on edition word some other =
    elim (leads_nowhere edition word) as (λ b. leads_nowhere edition word ≡ b → leads_nowhere edition word ≡ false) [
      | true ↦ λ nowhere. absurd (elim (nowhere-cases edition word nowhere) [ inl null ↦ some null | inr immediate ↦ other immediate ])
      | false ↦ λ is. is
    ] refl
