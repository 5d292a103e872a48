-- Lemmas on what was written of a part when a call ended the writing.
use Rattle.std.proofs.Common.{◌≡◌, ℕ, ◌-◌, ◌<◌, Bool, false, List, ◌++◌, length, take, drop, Option, None, Some, ap, ◌∙◌, arith, append-nil, length-take, length-drop}
use Rattle.std.specs.Io.KnownBytes.{Appends, Keeps}
use Rattle.std.proofs.KnownBytes.{Appends-kept}
use Rattle.heap_layout.specs.Counted.{AppendsBeginning}

-- a writer that took nothing has the bytes that it had
pub none_kept : (a b : Option (List ℕ)) (n : ℕ) (rest : List ℕ) → n ≡ 0 → Appends a b (take n rest) → Keeps a b
none_kept None b n rest none written = tt
none_kept (Some xs) None n rest none written = absurd written
none_kept (Some xs) (Some ys) n rest none written = written ∙ ap (λ (k : ℕ). xs ++ take k rest) none ∙ append-nil xs

-- a beginning was taken, and nothing by the call that ended the writing
pub beginning_taken : (start before after : Option (List ℕ)) (was_flushed flushed_before is_flushed : Bool) (taken : ℕ) (part : List ℕ)
    → taken < length part → Appends start before (take taken part) → Keeps before after
    → (taken ≡ 0 → flushed_before ≡ was_flushed) → (0 < taken → flushed_before ≡ false) → is_flushed ≡ flushed_before
    → AppendsBeginning start after was_flushed is_flushed part
beginning_taken start before after was_flushed flushed_before is_flushed taken part more written kept untouched unflushed same = record {
  taken = taken;
  not_all = more;
  bytes = Appends-kept start before after (take taken part) written kept;
  nothing = λ none. same ∙ untouched none;
  something = λ some. same ∙ unflushed some;
}

-- if only a beginning of a part was taken, the rest is not empty
pub rest_not_empty : (taken : ℕ) (part : List ℕ) → taken < length part → 0 < length (take (length part - taken) (drop taken part))
rest_not_empty taken part more = simp (length-take, length-drop) (omega arith)

-- and the part is not empty
pub part_not_empty : (taken long : ℕ) → taken < long → long ≡ 0 → ⊥
part_not_empty taken long more none = omega arith
