-- The last entry at an offset, entry by entry.
use Rattle.std.proofs.Common.{◌≡◌, ◌≢◌, ◌∙◌, ℕ, zero, suc, ◌+◌, ◌<◌, ◌⊎◌, List, [], ◌∷◌, ◌++◌, get_or, length, take, Option, None, Some, refl, sym, ap, subst, inl, inr, arith}
use Rattle.std.specs.List.{slice_get}
use Rattle.std.proofs.lemmas.List.{length-take-le, take_more}
use Rattle.std.proofs.lemmas.Option.{slice_get_within}
use Rattle.comp_dump.specs.Entry.{Entry}
use Rattle.comp_audit.specs.Explained.{IsLastAt, NoneAt}
use Rattle.comp_audit.proofs.Causes.{front}

-- the entry after a list is at its length
pushed : (xs : List Entry) (e : Entry) → slice_get (xs ++ e ∷ []) (length xs) ≡ Some e
pushed [] e = refl
pushed (x ∷ xs) e = pushed xs e

-- an entry of a list with one entry more is one of the list, or that one
more_cases : (xs : List Entry) (e : Entry) (k : ℕ) (f : Entry) → slice_get (xs ++ e ∷ []) k ≡ Some f → (slice_get xs k ≡ Some f) ⊎ ((k ≡ length xs) × (e ≡ f))
more_cases [] e zero f is = inr (refl, cc)
more_cases [] e (suc k) f is = absurd (cc)
more_cases (x ∷ xs) e zero f is = inl is
more_cases (x ∷ xs) e (suc k) f is =
    elim (more_cases xs e k f is) [
      | inl old ↦ inl old
      | inr new ↦ inr (ap suc new.0, new.1)
    ]

-- one more entry that is elsewhere
none_more : (xs : List Entry) (offset low : ℕ) (e : Entry) → e.offset ≢ offset → NoneAt xs offset low → NoneAt (xs ++ e ∷ []) offset low
none_more xs offset low e other none k f above is =
    elim (more_cases xs e k f is) [
      | inl old ↦ none k f above old
      | inr new ↦ λ here. other (ap (λ (x : Entry). x.offset) new.1 ∙ here)
    ]

-- no entry is after the last
none_past : (xs : List Entry) (offset : ℕ) (e : Entry) → NoneAt (xs ++ e ∷ []) offset (length xs + 1)
none_past xs offset e k f above is =
    elim (more_cases xs e k f is) [
      | inl old ↦ absurd (omega (arith, above, slice_get_within xs k f old))
      | inr new ↦ absurd (omega (arith, above, new.0))
    ]

elsewhere_then : (xs : List Entry) (offset : ℕ) (e : Entry) (last : Option (ℕ × Entry)) → e.offset ≢ offset → IsLastAt xs offset last → IsLastAt (xs ++ e ∷ []) offset last
elsewhere_then xs offset e None other before = none_more xs offset 0 e other before
elsewhere_then xs offset e (Some found) other before = record {
  entry = front xs (e ∷ []) found.0 found.1 before.entry;
  here = before.here;
  last = none_more xs offset (found.0 + 1) e other before.last;
}

-- the entries up to one
taken : (j : List Entry) (i : ℕ) (d e : Entry) → i < length j → e ≡ get_or j i d → take (i + 1) j ≡ take i j ++ e ∷ []
taken j i d e inside is = take_more j i d inside ∙ ap (λ (x : Entry). take i j ++ x ∷ []) (sym is)

-- entry i is elsewhere
pub last_before : (j : List Entry) (i offset : ℕ) (d e : Entry) (last : Option (ℕ × Entry)) → i < length j → e ≡ get_or j i d → e.offset ≢ offset
    → IsLastAt (take i j) offset last → IsLastAt (take (i + 1) j) offset last
last_before j i offset d e last inside is other before =
    subst (λ (l : List Entry). IsLastAt l offset last) (sym (taken j i d e inside is)) (elsewhere_then (take i j) offset e last other before)

-- entry i is at the offset
pub last_here : (j : List Entry) (i offset : ℕ) (d e : Entry) → i < length j → e ≡ get_or j i d → e.offset ≡ offset → IsLastAt (take (i + 1) j) offset (Some (i, e))
last_here j i offset d e inside is here =
    let long : length (take i j) ≡ i = length-take-le i j (omega (arith, inside)) in
    subst (λ (l : List Entry). IsLastAt l offset (Some (i, e))) (sym (taken j i d e inside is))
    (subst (λ (k : ℕ). IsLastAt (take i j ++ e ∷ []) offset (Some (k, e))) long (record {
      entry = pushed (take i j) e;
      here = here;
      last = none_past (take i j) offset e;
    }))
