use Rattle.std.proofs.Common.{◌≡◌, ◌∙◌, ℕ, ◌+◌, ◌<◌, ◌≤◌, List, length, get_or, set, Option, Some, None, inl, inr, sym, subst, refl, arith}
use Rattle.std.specs.Prelude.{replicate, slice_get}
use Rattle.std.proofs.lemmas.Bool.{cases_lt}
use Rattle.std.proofs.lemmas.List.{length-replicate, length-set, get_or-replicate, get_or_past, get_or-set_same, get_or-set_other}
use Rattle.std.proofs.lemmas.Option.{slice_get-get_or, slice_get_past}
use Rattle.heap_layout.specs.declared.kind.Kind.{Kind}
use Rattle.heap_layout.specs.declared.kind.Kind.TheVariants.{Header}
use Rattle.comp_history.proofs.kinds.spread.Goals as goal

-- no kind is set at first
none_told : (n o : ℕ) (none : Option Kind) → get_or (replicate n none) o none ≡ none
none_told n o none =
    elim (cases_lt o n) [
      | inl lt ↦ get_or-replicate n o none none lt
      | inr ge ↦ get_or_past (replicate n none) o none (omega (arith, length-replicate n none, ge))
    ]

-- one more kind is set
told_more : (kinds : List Kind) (all : List (Option Kind)) (i : ℕ) → i < length kinds → length kinds ≤ length all
    → ((o : ℕ) → o < i → get_or all o None ≡ slice_get kinds o) → (o : ℕ) → o < i + 1 → get_or (set all i (Some (get_or kinds i Header))) o None ≡ slice_get kinds o
told_more kinds all i inside few told o lt =
    elim (cases_lt o i) [
      | inl less ↦ get_or-set_other all i o (Some (get_or kinds i Header)) None (λ e. omega (arith, less, e)) ∙ told o less
      | inr ge ↦
          let same : o ≡ i = omega (arith, ge, lt) in
          subst (λ (k : ℕ). get_or (set all i (Some (get_or kinds i Header))) k None ≡ slice_get kinds k) (sym same)
          (get_or-set_same all i (Some (get_or kinds i Header)) None (omega (arith, inside, few)) ∙ sym (slice_get-get_or kinds i Header inside))
    ]

-- no kind is set after those that were
rest_more : (all : List (Option Kind)) (i : ℕ) (kind : Option Kind) → ((o : ℕ) → i ≤ o → get_or all o None ≡ None)
    → (o : ℕ) → i + 1 ≤ o → get_or (set all i kind) o None ≡ None
rest_more all i kind rest o le = get_or-set_other all i o kind None (λ e. omega (arith, le, e)) ∙ rest o (omega (arith, le))

-- all kinds are set at the end
all_told : (kinds : List Kind) (all : List (Option Kind)) (i : ℕ) → length kinds ≤ i → ((o : ℕ) → o < i → get_or all o None ≡ slice_get kinds o)
    → ((o : ℕ) → i ≤ o → get_or all o None ≡ None) → (o : ℕ) → get_or all o None ≡ slice_get kinds o
all_told kinds all i past told rest o =
    elim (cases_lt o i) [
      | inl less ↦ told o less
      | inr ge ↦ rest o ge ∙ sym (slice_get_past kinds o (omega (arith, past, ge)))
    ]

pub loop-offset-init : goal.loop-offset-init
loop-offset-init c = record { long = refl; told = λ o lt. absurd (omega (arith, lt)); rest = λ o le. none_told 64 o None }

pub loop-offset-preserved : goal.loop-offset-preserved
loop-offset-preserved c =
    let i = c.loop-offset.invariant in
    record {
      long = length-set c.loop-offset.all _ _ ∙ i.long;
      told = told_more c.args.kinds.now c.loop-offset.all c.loop-offset.offset c.loop-offset-test.true (omega arith) i.told;
      rest = rest_more c.loop-offset.all c.loop-offset.offset _ i.rest;
    }

pub returns : goal.returns
returns c = all_told c.args.kinds.now c.loop-offset.all c.loop-offset.offset (omega arith) c.loop-offset.invariant.told c.loop-offset.invariant.rest
