-- What an audit comes to, from what was compared.
use Rattle.std.proofs.Common.{◌≡◌, ◌∙◌, ℕ, Bool, true, false, List, [], ◌++◌, length, cond, codes, inl, inr, refl, sym, ap, subst, append_assoc}
use Rattle.heap_layout.specs.Heap.{Heap}
use Rattle.comp_audit.specs.Checks.{all_entries}
use Rattle.comp_audit.specs.Explained.{AreCountsOf}
use Rattle.comp_audit.specs.Judged.{Judges}
use Rattle.comp_audit.specs.Meant.{built_count}
use Rattle.comp_audit.specs.Wording.{counts_text}
use Rattle.comp_audit.specs.declared.explanation.Explanation.{Explanation}
use Rattle.comp_audit.specs.declared.verdict.Verdict.TheVariants.{No, Yes}
use Rattle.comp_dump.specs.Dumped.{Dumped}
use Rattle.comp_dump.specs.Lists.{total}
use Rattle.comp_dump.specs.declared.fault.AuditFault.{AuditFault}
use Rattle.command_io.specs.Printing.{named}
use Rattle.command_io.specs.declared.refusal.CommandRefusal.TheVariants.{Audit}
use Rattle.commands.specs.HeapTasks.{counts_lines, fault_lines, faults_by, passed_line, IsAudited}
use Rattle.commands.specs.Compared.{compared_lines, found_lines, IsFound}
use Rattle.commands.specs.Outcome.{prints, stops}
use Rattle.commands.specs.declared.explained.Compared.{Compared}
use Rattle.commands.specs.declared.explained.Found.{Found}
use Rattle.commands.specs.declared.explained.Found.TheVariants.{Failed, Passed}

-- the lines of what was compared are those of the counts of the dump, and what is said of what was found
lines_of : (compared : Compared) (dump : Dumped) → AreCountsOf dump compared.counts → compared_lines compared ≡ counts_lines dump ++ found_lines compared.found
lines_of compared dump counts =
    let found = found_lines compared.found in
    let one = ap (λ (n : ℕ). counts_text n compared.counts.pages compared.counts.entries) counts.built in
    let two = ap (λ (n : ℕ). counts_text (total built_count dump.pages) n compared.counts.entries) counts.pages in
    let three = ap (λ (n : ℕ). counts_text (total built_count dump.pages) (length dump.pages) n) counts.entries in
    let same = one ∙ two ∙ three in
    ap (λ (l : List ℕ). l ++ (codes "\n" ++ found)) same ∙ sym (append_assoc (counts_text (total built_count dump.pages) (length dump.pages) (length (all_entries dump.pages))) (codes "\n") found)

-- and so of what was found
lines_for : (compared : Compared) (dump : Dumped) → AreCountsOf dump compared.counts → (found : Found) → compared.found ≡ found → compared_lines compared ≡ counts_lines dump ++ found_lines found
lines_for compared dump counts found is = lines_of compared dump counts ∙ ap (λ (f : Found). counts_lines dump ++ found_lines f) is

module _ (whole : Bool) (heap : Heap) (dump : Dumped) where
  -- a plain audit
  pub passed : (explain : Bool) → explain ≡ false → Judges (faults_by whole heap dump) Yes → (words : ℕ) → words ≡ dump.total → IsAudited whole explain heap dump (prints (named (codes "ok ") words))
  passed explain plain judged words is =
      inl (judged, subst (λ (e : Bool). prints (named (codes "ok ") words) ≡ prints (cond e (counts_lines dump) [] ++ passed_line dump)) (sym plain) (ap (λ (n : ℕ). prints (named (codes "ok ") n)) is))

  pub failed : (explain : Bool) → explain ≡ false → (fault : AuditFault) → Judges (faults_by whole heap dump) (No fault) → IsAudited whole explain heap dump (stops [] (Audit fault))
  failed explain plain fault judged = inr (inl (fault, judged, plain, refl))

  -- one that is explained
  module _ (compared : Compared) (counts : AreCountsOf dump compared.counts) (found : IsFound whole heap dump compared.found) (text : List ℕ) (told : text ≡ compared_lines compared) where
    pub explained_passed : (words : ℕ) → compared.found ≡ Passed words → IsAudited whole true heap dump (prints text)
    explained_passed words is =
        let here = subst (IsFound whole heap dump) is found in
        inl (here.0, ap prints (told ∙ lines_for compared dump counts (Passed words) is ∙ ap (λ (n : ℕ). counts_lines dump ++ named (codes "ok ") n) here.1))

    pub explained_failed : (fault : AuditFault) (explanation : Explanation) → compared.found ≡ Failed fault explanation → IsAudited whole true heap dump (stops text (Audit fault))
    explained_failed fault explanation is =
        let here = subst (IsFound whole heap dump) is found in
        inr (inr (inl (fault, explanation, here.0, here.1, refl, ap (λ (l : List ℕ). stops l (Audit fault)) (told ∙ lines_for compared dump counts (Failed fault explanation) is))))
