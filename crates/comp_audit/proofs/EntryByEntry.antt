-- The entries of a page, one after the other.
use Rattle.std.proofs.Common.{◌≡◌, ℕ, suc, ◌+◌, ◌<◌, ◌≤◌, Bool, true, false, ◌⊎◌, inl, inr, leb, ◌&&◌, List, [], ◌∷◌, ◌++◌, length, take, drop, get_or, refl, sym, ap, subst, ◌∙◌, arith}
use Rattle.std.proofs.Math.Seq.{drop-cons}
use Rattle.std.proofs.lemmas.List.{take_more}
use Rattle.std.proofs.lemmas.Bool.{le-leb, lt-leb}
use Rattle.comp_journal.specs.declared.entry.Entry.{Entry}
use Rattle.comp_history.specs.Setup.{Setup}
use Rattle.comp_dump.specs.declared.fault.AuditFault.{AuditFault}
use Rattle.comp_dump.specs.declared.fault.AuditFault.TheVariants.{BadEntry}
use Rattle.comp_audit.specs.Checks.{unless, entry_faults, fits}
use Rattle.comp_audit.specs.Reported.{IsFirst}
use Rattle.comp_audit.proofs.Reporting.{both_pass}

-- after an entry that fits, the faults are those of the entries after it
pub entry_next : (u : Setup) (p i low : ℕ) (j : List Entry) (d : Entry) → i < length j → low ≤ (get_or j i d).stamp
    → fits u p (take i j) (get_or j i d).kind (get_or j i d).writer (get_or j i d).offset (get_or j i d).value ≡ true
    → entry_faults u p (i + 1) ((get_or j i d).stamp + 1) (take (i + 1) j) (drop (i + 1) j) ≡ entry_faults u p i low (take i j) (drop i j)
entry_next u p i low j d inside rises may =
    let e = get_or j i d in
    let next : i + 1 ≡ suc i = omega arith in
    let others = entry_faults u p (i + 1) (e.stamp + 1) (take i j ++ e ∷ []) (drop (suc i) j) in
    let one : unless (leb low e.stamp && fits u p (take i j) e.kind e.writer e.offset e.value) (BadEntry p i) ≡ [] =
    both_pass (leb low e.stamp) _ (BadEntry p i) (le-leb low e.stamp rises) may in
    let here : entry_faults u p i low (take i j) (drop i j) ≡ others =
    ap (λ (rest : List Entry). entry_faults u p i low (take i j) rest) (drop-cons j i d inside)
    ∙ ap (λ (front : List AuditFault). front ++ others) one in
    ap (λ (front : List Entry). entry_faults u p (i + 1) (e.stamp + 1) front (drop (i + 1) j)) (take_more j i d inside)
    ∙ ap (λ (k : ℕ). entry_faults u p (i + 1) (e.stamp + 1) (take i j ++ e ∷ []) (drop k j)) next
    ∙ sym here

one_false : (a b : Bool) → (a ≡ false) ⊎ (b ≡ false) → (a && b) ≡ false
one_false false b h = refl
one_false true false h = refl
one_false true true (inl h) = absurd cc
one_false true true (inr h) = absurd cc

-- an entry that does not fit, or whose stamp is too low, has the first fault of the entries that are left
pub entry_bad : (u : Setup) (p i low : ℕ) (j : List Entry) (d : Entry) → i < length j
    → ((get_or j i d).stamp < low) ⊎ (fits u p (take i j) (get_or j i d).kind (get_or j i d).writer (get_or j i d).offset (get_or j i d).value ≡ false)
    → IsFirst (entry_faults u p i low (take i j) (drop i j)) (BadEntry p i)
entry_bad u p i low j d inside h =
    let e = get_or j i d in
    let test = leb low e.stamp && fits u p (take i j) e.kind e.writer e.offset e.value in
    let wrong : test ≡ false = one_false (leb low e.stamp) _ (elim h [
      | inl less ↦ inl (lt-leb low e.stamp less)
      | inr unfit ↦ inr unfit
    ]) in
    let others = entry_faults u p (i + 1) (e.stamp + 1) (take i j ++ e ∷ []) (drop (suc i) j) in
    subst (λ (rest : List Entry). IsFirst (entry_faults u p i low (take i j) rest) (BadEntry p i)) (sym (drop-cons j i d inside))
    (subst (λ (t : Bool). IsFirst (unless t (BadEntry p i) ++ others) (BadEntry p i)) (sym wrong) refl)
