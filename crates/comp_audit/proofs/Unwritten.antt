-- A page without an entry. If its words are those of its base, each reference and weak word there is null, or leads to
-- a slid object.
use Rattle.std.proofs.Common.{◌≡◌, ℕ, ◌<◌, ◌⊎◌, inl, inr, ⊎_elim, Bool, true, eqb, not, ◌||◌, is_some, List, [], length, get_or, Option, Some, sym, ap, subst, ◌∙◌, arith}
use Rattle.std.proofs.lemmas.Bool.{eqb-true}
use Rattle.std.proofs.lemmas.List.{get_or_default}
use Rattle.heap_layout.specs.declared.edition.Edition.{Edition}
use Rattle.heap_layout.specs.Values.{leads_nowhere, LeadsNowhere}
use Rattle.heap_layout.specs.Heap.{live}
use Rattle.heap_layout.specs.Kinds.{refers}
use Rattle.heap_layout.specs.declared.kind.Kind.{Kind}
use Rattle.page_plan.specs.Sliding.{LeadsToForwardingAddress}
use Rattle.comp_journal.specs.Journal.{replayed}
use Rattle.comp_history.specs.Setup.{Setup, address, base_of}
use Rattle.comp_history.specs.Lawful.{kind_at, IsLawful}
use Rattle.comp_history.proofs.Sums.{is_inside}
use Rattle.comp_history.proofs.Leading.{each_reference}
use Rattle.comp_dump.specs.Dumped.{BuiltPage}
use Rattle.comp_dump.specs.declared.fault.AuditFault.TheVariants.{LooseReference, WrongWord}
use Rattle.heap_layout.proofs.Rows.{unless-none}
use Rattle.comp_audit.specs.Checks.{unless, some_refers, is_forwarding_address, same_words, word_faults, reference_faults}
use Rattle.comp_audit.specs.Noted.{leads, stamp_at, Stamped}
use Rattle.comp_audit.proofs.Meanings.{holds, left_holds, right_holds, holds_or_not, refers_means}
use Rattle.comp_audit.proofs.Reporting.{item_none, none_items}

-- a word that has no fault is the right one
pub word_means : (right words : List ℕ) (p i : ℕ) → i < length words → same_words right p words ≡ [] → get_or words i 0 ≡ get_or right i 0
word_means right words p i inside none =
    eqb-true _ _ (unless-none (eqb (get_or words i 0) (get_or right i 0)) (WrongWord (address p i))
    (item_none (λ word. unless (eqb word.1 (get_or right word.0 0)) (WrongWord (address p word.0))) 0 words i i 0 inside (omega arith) none))

-- a word that is null or leads somewhere, if it refers, passes the check of references
pub start_tested : (edition : Edition) (leading : ℕ → Bool) (o : Option Kind) (a : ℕ) → ((k : Kind) → refers k ≡ true → o ≡ Some k → LeadsNowhere edition a ⊎ (leading a ≡ true))
    → ((not (some_refers o) || leads_nowhere edition a) || leading a) ≡ true
start_tested edition leading o a led =
    ⊎_elim
    (λ (reference : some_refers o ≡ true). ⊎_elim
    (λ (nowhere : LeadsNowhere edition a). left_holds _ (leading a) (right_holds (not (some_refers o)) (leads_nowhere edition a) nowhere))
    (λ start. right_holds (not (some_refers o) || leads_nowhere edition a) (leading a) start)
    (let r = refers_means o reference in led r.0 r.1 r.2))
    (λ other. left_holds _ (leading a) (left_holds _ (leads_nowhere edition a) (ap not other)))
    (holds_or_not (some_refers o))

-- the words of such a page have no loose reference
pub none_loose : (u : Setup) (starts : Stamped) (p : ℕ) (page : BuiltPage) → IsLawful u p page.journal → length page.words ≡ 64 → length page.journal ≡ 0 → word_faults u p page ≡ []
    → reference_faults (leads u.heap starts) u p page ≡ []
none_loose u starts p page lawful long empty right =
    let made = replayed (base_of u p) page.journal in
    none_items _ 0 page.words (λ i k x inside number is.
    let place : i ≡ k = omega (arith, number) in
    let value : get_or made k 0 ≡ x =
    ap (λ (j : ℕ). get_or made j 0) (sym place) ∙ sym (word_means made page.words p i inside right) ∙ get_or_default page.words i 0 x inside ∙ sym is in
    holds _ (LooseReference (address p k)) (start_tested u.heap.edition (leads u.heap starts) (kind_at u p page.journal k) x (λ kind referring reference.
    ⊎_elim
    (λ nowhere. inl nowhere)
    (λ slid. inr (left_holds (is_forwarding_address u.heap x) (is_some (stamp_at starts x)) (ap is_some slid.1)))
    (subst (LeadsToForwardingAddress u.heap.edition (live u.heap)) value
    (each_reference u p k page.journal (LeadsToForwardingAddress u.heap.edition (live u.heap)) lawful (λ a leading. leading)
    (λ n e at is_ref. absurd (let inside = is_inside page.journal n e at in omega (arith, inside, empty))) kind referring (record {
      inside = omega (arith, inside, long, number);
      kind_is = reference;
    }))))))
