-- The bases of blocks, block by block.
use Rattle.std.proofs.Common.{◌≡◌, ℕ, ◌+◌, ◌-◌, ◌*◌, ◌^◌, ◌<◌, ◌≤◌, List, [], ◌∷◌, ◌++◌, length, get_or, inl, inr, refl, sym, ap, ◌∙◌, arith, length-append}
use Rattle.std.proofs.lemmas.Bool.{cases_lt}
use Rattle.std.proofs.lemmas.List.{get_or_append_left, get_or-append_right}
use Rattle.heap_layout.specs.Bits.{bit}
use Rattle.pinned_heap.specs.Tables.{end_below, AreBases}
use Rattle.pinned_heap.proofs.Ends.{end-low}

-- those of the first b blocks, and where the words of these end
pub record AreBasesTo (bits stays : List ℕ) (b next : ℕ) (bases : List ℕ) : Type 0 where
  pub long : length bases ≡ b
  pub behind : next ≡ end_below (bit bits) (bit stays) (64 * b)
  pub each : (q : ℕ) → q < b → get_or bases q 0 ≡ end_below (bit bits) (bit stays) (64 * q)

pub bases-none : (bits stays : List ℕ) → AreBasesTo bits stays 0 0 []
bases-none bits stays = record { long = refl; behind = refl; each = λ q lt. absurd (omega (arith, lt)) }

-- they are few
pub bases-few : (bits stays bases : List ℕ) (b next : ℕ) → AreBasesTo bits stays b next bases → next ≤ 64 * b
bases-few bits stays bases b next are = omega (arith, are.behind, end-low (bit bits) (bit stays) (64 * b))

-- one more
pub bases-more : (bits stays bases : List ℕ) (b next more : ℕ) → AreBasesTo bits stays b next bases → more ≡ end_below (bit bits) (bit stays) (64 * (b + 1))
    → AreBasesTo bits stays (b + 1) more (bases ++ next ∷ [])
bases-more bits stays bases b next more are is = record {
  long = omega (arith, length-append bases (next ∷ []), are.long);
  behind = is;
  each = λ q lt. elim (cases_lt q b) [
    | inl old ↦ get_or_append_left bases (next ∷ []) 0 q (omega (arith, old, are.long)) ∙ are.each q old
    | inr last ↦
        let same : q ≡ b = omega (arith, lt, last) in
        let first : b - b ≡ 0 = omega arith in
        let there : get_or (bases ++ next ∷ []) b 0 ≡ next = get_or-append_right bases (next ∷ []) b b 0 are.long (omega arith) ∙ ap (λ (n : ℕ). get_or (next ∷ []) n 0) first in
        ap (λ (n : ℕ). get_or (bases ++ next ∷ []) n 0) same ∙ there ∙ are.behind ∙ ap (λ (n : ℕ). end_below (bit bits) (bit stays) (64 * n)) (sym same)
  ];
}

-- all
pub bases-all : (bits stays bases : List ℕ) (b next : ℕ) → length bits ≤ 2 ^ 25 → length stays ≡ length bits → b ≡ length bits → AreBasesTo bits stays b next bases
    → AreBases bits stays bases
bases-all bits stays bases b next few same all are = record {
  few = few;
  same = same;
  long = omega (arith, are.long, all);
  low = end-low (bit bits) (bit stays);
  each = λ q lt. are.each q (omega (arith, lt, all));
}
