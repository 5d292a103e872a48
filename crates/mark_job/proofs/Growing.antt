-- The bits of the objects that were met only grow.
use Rattle.std.proofs.Common.{◌≡◌, ℕ, zero, suc, ◌/◌, ◌%◌, ◌*◌, ◌<◌, ◌==◌, true, List, [], ◌∷◌, ◌++◌, length, get_or, set, bit_or, inl, inr, refl, sym, ap, ◌∙◌, subst, arith, ⊎_elim, length-set}
use mathlib.Core.Option.{some, none, some-injective, some-ne-none}
use lib.ListN.{get_elem?}
use Rattle.std.specs.Int.{bit_at}
use Rattle.std.proofs.lemmas.Bool.{cases_eq, eqb-true}
use Rattle.std.proofs.lemmas.Nat.Bits.{bit_at_or, bit_at-lt, bit_at-zero}
use Rattle.atomic_table.specs.Table.{State, Allows, Enters, Final, Me, Seen, opening, step}
use Rattle.atomic_table.specs.Table as act
use Rattle.atomic_table.proofs.Lists.{at_set, at_snoc}
use Rattle.heap_layout.specs.Bits.{bit}
use Rattle.mark_tables.proofs.Masks.{bit-elsewhere, bit-here}
use Rattle.mark_job.specs.Heads.{AreAmong, Grows, knows_first, sees}
use Rattle.mark_job.specs.declared.met_view.MetView.{MetView}

-- a thread that holds no slot
abbrev S : Type 0
S = Unit {0}

-- a bit of a block
pub one-bit : (bits : List ℕ) (b i : ℕ) → i / 64 ≡ b → bit_at (get_or bits b 0) (i % 64) ≡ 1 → bit bits i ≡ true
one-bit bits b i here one = ap (λ (n : ℕ). bit_at (get_or bits n 0) (i % 64) == 1) here ∙ ap (λ (n : ℕ). n == 1) one

pub bit-one : (bits : List ℕ) (b i : ℕ) → i / 64 ≡ b → bit bits i ≡ true → bit_at (get_or bits b 0) (i % 64) ≡ 1
bit-one bits b i here is = eqb-true (bit_at (get_or bits b 0) (i % 64)) 1 (subst (λ (n : ℕ). (bit_at (get_or bits n 0) (i % 64) == 1) ≡ true) here is)

-- with no bit set, a block is as it was
pub or-none : (a k : ℕ) → bit_at (bit_or a 0) k ≡ 1 → bit_at a k ≡ 1
or-none a k one = let or = bit_at_or a 0 k in let zero = bit_at-zero k in omega arith

-- what a block has, it has with more bits set
pub or-more : (a m k : ℕ) → bit_at a k ≡ 1 → bit_at (bit_or a m) k ≡ 1
or-more a m k one = let or = bit_at_or a m k in let few = bit_at-lt m k in omega arith

-- a block is written that has all bits of before
module _ (words : List ℕ) (w block : ℕ) (inside : w < length words) (more : (k : ℕ) → bit_at (get_or words w 0) k ≡ 1 → bit_at block k ≡ 1) where
  pub grown-here : (i : ℕ) → i / 64 ≡ w → bit_at block (i % 64) ≡ 1 → bit (set words w block) i ≡ true
  grown-here i here one = bit-here words w block i inside here ∙ ap (λ (n : ℕ). n == 1) one

  pub grown : AreAmong words (set words w block)
  grown i is = elim (cases_eq (i / 64) w) [
    | inl here ↦ grown-here i here (more (i % 64) (bit-one words w i here is))
    | inr other ↦ bit-elsewhere words w block i other ∙ is
  ]

-- the view of a thread that knows all words
abbrev all_of : List ℕ → MetView
all_of words = record { bits = words }

-- the thread knows what the words are after its step
kept : (first : List ℕ) (s : State S MetView) (h : Grows first s) (id w block : ℕ) → AreAmong s.words (set s.words w block)
    → Grows first (record { words = set s.words w block; homes = s.homes; views = set s.views id (all_of (set s.words w block)) })
kept first s h id w block grows =
    let next = set s.words w block in
    record {
      many = length-set s.words w block ∙ h.many;
      begun = λ i is. grows i (h.begun i is);
      known = λ j v at. ⊎_elim
          (λ here. subst (λ (u : MetView). AreAmong u.bits next) here.1 (λ i is. is))
          (λ there. λ i is. grows i (h.known j v there.1 i is))
          (at_set s.views id j (all_of next) v at);
    }

-- a step that clears no bit, and sets those of m
pub see-allowed : (first : List ℕ) (n id w m : ℕ) (f : ℕ → ℕ) (me : Me S MetView) → w < length first
    → ((x k : ℕ) → bit_at (bit_or x m) k ≡ 1 → bit_at (f x) k ≡ 1)
    → Allows (Grows first) n id me w f (sees (step n w m 0 none) me)
see-allowed first n id w m f me inside sets = λ s h many at bound.
    let found = get_or s.words w 0 in
    let within : w < length s.words = omega (arith, h.many, inside) in
    let more : (k : ℕ) → bit_at found k ≡ 1 → bit_at (f found) k ≡ 1 = λ k one. sets found k (or-more found m k one) in
    let grows = grown s.words w (f found) within more in (
      all_of (set s.words w (f found)),
      act.keeps,
      tt,
      kept first s h id w (f found) grows,
      ((λ i is. grows i (h.known id me.0 at i is)), (λ i here one. grown-here s.words w (f found) within more i here (sets found (i % 64) one))),
    )

pub opens : (first : List ℕ) → Grows first (opening first [] (knows_first first))
opens first = record {
  many = refl;
  begun = λ i is. is;
  known = alone;
} where
  alone : (id : ℕ) (v : MetView) → get_elem? (knows_first first ∷ []) id ≡ some v → AreAmong v.bits first
  alone zero v at = subst (λ (u : MetView). AreAmong u.bits first) (some-injective (knows_first first) v at) (λ i is. is)
  alone (suc id) v at = absurd (some-ne-none v (sym at))

pub enter-allowed : (first : List ℕ) (n w : ℕ) → Enters (Grows first) n w (λ found v. sees (step n w 0 0 none) (knows_first first, []) found (v, []))
enter-allowed first n w = λ s h many bound.
    let all = all_of s.words in
    let known : (j : ℕ) (v : MetView) → get_elem? (s.views ++ all ∷ []) j ≡ some v → AreAmong v.bits s.words = λ j v at. ⊎_elim
    (λ there. h.known j v there)
    (λ here. subst (λ (u : MetView). AreAmong u.bits s.words) here (λ i is. is))
    (at_snoc s.views all v j at) in
    (all, record { many = h.many; begun = h.begun; known = known }, (h.begun, λ i here one. one-bit s.words w i here (or-none (get_or s.words w 0) (i % 64) one)))

-- what is set when no thread shares the table any more
pub ends : (first words : List ℕ) (rows : List S) (id : ℕ) (v : MetView) → Final (Seen (Grows first) id v) words rows → AreAmong first words × AreAmong v.bits words
ends first words rows id v final =
    let s = final.0 in
    let held = final.1 in
    subst (λ (ws : List ℕ). AreAmong first ws × AreAmong v.bits ws) final.2 (held.0.begun, held.0.known id v held.1)

-- the first blocks are copied
pub copied : (bits words copy : List ℕ) (count : ℕ) → AreAmong bits words → ((k : ℕ) → k < count → get_or copy k 0 ≡ get_or words k 0)
    → (i : ℕ) → i < 64 * count → bit bits i ≡ true → bit copy i ≡ true
copied bits words copy count among same i inside is =
    one-bit copy (i / 64) i refl (ap (λ (n : ℕ). bit_at n (i % 64)) (same (i / 64) (omega arith)) ∙ bit-one words (i / 64) i refl (among i is))
