-- The audit finds no fault in a lawful dump.
use Rattle.std.proofs.Common.{◌≡◌, ℕ, ◌+◌, ◌<◌, ◌≤◌, inl, inr, ⊎_elim, Bool, true, false, eqb, ltb, leb, not, ◌&&◌, ◌||◌, is_some, List, [], ◌∷◌, length, map, get_or, Option, Some, None, refl, sym, ap, subst, ◌∙◌, arith}
use Rattle.std.specs.Prelude.{bytes_eq}
use Rattle.std.specs.List.{list_any}
use Rattle.std.proofs.lemmas.Slice.Eq.{bytes_eq-Decides}
use Rattle.std.proofs.lemmas.Bool.{cases_lt, eq-eqb, lt-ltb, le-leb}
use Rattle.std.proofs.lemmas.List.{get_or_default}
use mathlib.Core.Option as maybe
use lib.ListN.{get_elem?}
use Rattle.heap_layout.specs.Values.{leads_nowhere, LeadsNowhere}
use Rattle.heap_layout.specs.Heap.{live}
use Rattle.heap_layout.specs.declared.edition.Edition.{Edition}
use Rattle.heap_layout.specs.declared.edition.Edition.TheVariants.{One, Two, Three, Four}
use Rattle.heap_layout.specs.Kinds.{refers}
use Rattle.heap_layout.specs.declared.kind.Kind.{Kind}
use Rattle.page_plan.specs.Sliding.{forwarded_value, live_words}
use Rattle.comp_dump.specs.Journal.{replayed}
use Rattle.comp_dump.specs.Entry.{Entry}
use Rattle.comp_dump.specs.Setup.{Setup, pages, address, base_of}
use Rattle.comp_dump.specs.Lists.{times}
use Rattle.comp_dump.specs.Locks.{Journals}
use Rattle.comp_dump.specs.History.{entries, stamped_with}
use Rattle.comp_dump.specs.Lawful.{kind_at}
use Rattle.comp_dump.specs.Starts.{IsForwardingAddress}
use Rattle.comp_dump.specs.Closing.{IsMadeBefore, LeadsToOlder}
use Rattle.comp_dump.proofs.Sums.{there_at, read_at}
use Rattle.comp_dump.specs.Objects.{IsMadeAt, LeadsToObject, ReferencesAreStarts}
use Rattle.comp_dump.proofs.Leading.{each_leads, older_closed}
use Rattle.comp_dump.specs.Merged.{entries_below, stamp_of, CanMerge}
use Rattle.comp_dump.specs.OneThread.{address_of}
use Rattle.comp_dump.specs.MadeWords.{allocated}
use Rattle.comp_dump.proofs.Sorted.{In, at_in}
use Rattle.comp_dump.proofs.CompHistoryPages.{below_in}
use Rattle.comp_dump.specs.Builds.{named}
use Rattle.comp_dump.specs.Dumped.{BuiltPage, Dumped}
use Rattle.comp_dump.specs.declared.fault.AuditFault.TheVariants.{WrongHead, WrongWord, WrongTotal, BuildUnclaimed, BadEntry, LooseReference, StampRepeated, StampMissing}
use Rattle.comp_audit.specs.Checks.{setup_for, unless, all_stamps, journal_of, journals_in, above, is_edition, head_faults, is_claimed, build_faults, journal_faults, same_words, word_faults, each_built, some_refers, makes, is_start, is_made_before, is_led, reference_faults, late_on, late_with, late_faults, repeat_faults, missing_faults, total_faults}
use Rattle.comp_audit.specs.Meant.{built_count, page_of, IsLawfulDump, LawfulIsYes}
use Rattle.comp_audit.proofs.Reporting.{both_pass, none_items}
use Rattle.comp_audit.proofs.Meanings.{true_and, faultless_is_lawful, holds, left_holds, right_holds, holds_or_not}
use Rattle.comp_audit.proofs.Noting.{makes_here}
use Rattle.comp_audit.proofs.Ranges.{none_in_range}
use Rattle.comp_audit.proofs.Built.{none_built}
use Rattle.comp_audit.proofs.Unwritten.{start_tested}
use Rattle.comp_audit.proofs.Clock.{stamps_counted, stamps_long}
use Rattle.comp_audit.proofs.Sound.{page_long, total_merged}
use Rattle.comp_audit.proofs.Earliest.{both_none}

claim_tested : (builds : List (List ℕ)) (p : ℕ) (kept : Option BuiltPage) → named p builds ≡ built_count kept → is_claimed builds (p, kept) ≡ true
claim_tested builds p None e = eq-eqb _ _ e
claim_tested builds p (Some page) e = eq-eqb _ _ e

no_claims : (builds : List (List ℕ)) (records : List (Option BuiltPage)) → ((p : ℕ) → p < length records → named p builds ≡ built_count (get_or records p None))
    → build_faults builds records ≡ []
no_claims builds records claims =
    none_items (λ place. unless (is_claimed builds place) (BuildUnclaimed place.0)) 0 records (λ p k kept inside number is.
    let same : p ≡ k = omega (arith, number) in
    let there : get_or records p None ≡ kept = get_or_default records p None kept inside ∙ sym is in
    holds (is_claimed builds (k, kept)) (BuildUnclaimed k)
    (claim_tested builds k kept (ap (λ (q : ℕ). named q builds) (sym same) ∙ claims p inside ∙ ap built_count there)))

no_words : (right words : List ℕ) (p : ℕ) → words ≡ right → same_words right p words ≡ []
no_words right words p same =
    none_items (λ word. unless (eqb word.1 (get_or right word.0 0)) (WrongWord (address p word.0))) 0 words (λ i k x inside number is.
    let place : i ≡ k = omega (arith, number) in
    let value : x ≡ get_or right k 0 = is ∙ get_or_default words i x 0 inside ∙ ap (λ (l : List ℕ). get_or l i 0) same ∙ ap (λ (j : ℕ). get_or right j 0) place in
    holds (eqb x (get_or right k 0)) (WrongWord (address p k)) (eq-eqb _ _ value))

any_in : {X : Type 0} (test : X → Bool) (xs : List X) (x : X) → In x xs → test x ≡ true → list_any test xs ≡ true
any_in test [] x i h = absurd i
any_in test (y ∷ ys) x i h = ⊎_elim
    (λ (same : y ≡ x). left_holds (test y) (list_any test ys) (ap test same ∙ h))
    (λ t. right_holds (test y) (list_any test ys) (any_in test ys x t h))
    i

edition_same : (e : Edition) → is_edition e e ≡ true
edition_same One = refl
edition_same Two = refl
edition_same Three = refl
edition_same Four = refl

module _ (u : Setup) (journals : Journals) where
  abbrev all : List (ℕ × Entry)
  all = entries_below journals (pages u)

  -- an object that was made is found among the entries
  start_found : (a : ℕ) → IsMadeAt u journals a → list_any (makes a) all ≡ true
  start_found a made =
      let p = u.compacted + made.page in
      let e = made.made.1 in
      let there : In (p, e) all = below_in journals (pages u) p e (omega (arith, made.fresh)) (at_in (journals p) made.made.0 e made.made.2) in
      let same : address_of (p, e) ≡ a = ap (λ (o : ℕ). address p o) made.made.4 ∙ sym made.at in
      any_in (makes a) all (p, e) there (subst (λ (b : ℕ). makes b (p, e) ≡ true) same (makes_here (p, e) made.made.3))

  older_found : (a n : ℕ) → IsMadeBefore u journals n a → is_made_before all a n ≡ true
  older_found a n made =
      let p = u.compacted + made.page in
      let e = made.made.1 in
      let there : In (p, e) all = below_in journals (pages u) p e (omega (arith, made.fresh)) (at_in (journals p) made.made.0 e made.made.2) in
      let same : address_of (p, e) ≡ a = ap (λ (o : ℕ). address p o) made.made.4 ∙ sym made.at in
      any_in (λ (x : ℕ × Entry). makes a x && ltb (stamp_of x) n) all (p, e) there
      (true_and (makes a (p, e)) (ltb (stamp_of (p, e)) n) (subst (λ (b : ℕ). makes b (p, e) ≡ true) same (makes_here (p, e) made.made.3)) (lt-ltb _ _ made.made.5))

  address_found : (a : ℕ) → IsForwardingAddress u.heap a → is_start u.heap all a ≡ true
  address_found a place = left_holds _ (list_any (makes a) all) (ap is_some place.1)

  -- a reference to what is older passes its test
  led_tested : (e : Entry) → (refers e.kind ≡ true → LeadsToOlder u journals e.stamp e.value) → is_led u.heap (is_made_before all) e ≡ true
  led_tested e leads =
      let before = is_made_before all e.value e.stamp in
      ⊎_elim
      (λ (reference : refers e.kind ≡ true). ⊎_elim
      (λ (nowhere : LeadsNowhere u.heap.edition e.value). left_holds _ before (left_holds _ _ (right_holds (not (refers e.kind)) (leads_nowhere u.heap.edition e.value) nowhere)))
      (λ start. ⊎_elim
      (λ (place : IsForwardingAddress u.heap e.value). left_holds _ before (right_holds (not (refers e.kind) || leads_nowhere u.heap.edition e.value) _ (ap is_some place.1)))
      (λ (made : IsMadeBefore u journals e.stamp e.value). right_holds _ before (older_found e.value e.stamp made))
      start)
      (leads reference))
      (λ (other : refers e.kind ≡ false). left_holds _ before (left_holds _ _ (left_holds _ (leads_nowhere u.heap.edition e.value) (ap not other))))
      (holds_or_not (refers e.kind))

  -- a word that is null or leads to an object passes its test, if it is a reference
  reference_tested : (o : Option Kind) (a : ℕ) → ((k : Kind) → refers k ≡ true → o ≡ Some k → LeadsToObject u journals a) → ((not (some_refers o) || leads_nowhere u.heap.edition a) || is_start u.heap all a) ≡ true
  reference_tested o a leads = start_tested u.heap.edition (is_start u.heap all) o a (λ k is_ref kind.
      ⊎_elim
      (λ (nowhere : LeadsNowhere u.heap.edition a). inl nowhere)
      (λ start. inr (⊎_elim
      (λ place. address_found a place)
      (λ made. right_holds _ (list_any (makes a) all) (start_found a made))
      start))
      (leads k is_ref kind))

-- what a lawful dump has
module _ (u : Setup) (dump : Dumped) (lawful : IsLawfulDump u dump)
    (long : (p : ℕ) (page : BuiltPage) → page_of dump p ≡ Some page → length page.words ≡ 64) where
  abbrev records : List (Option BuiltPage)
  records = dump.pages

  abbrev journals : Journals
  journals = journals_in records

  abbrev can : CanMerge u journals
  can = lawful.merges

  journal_is : (p : ℕ) (page : BuiltPage) → get_or records p None ≡ Some page → journals p ≡ page.journal
  journal_is p page at = ap journal_of at

  no_entries : each_built (journal_faults u) records ≡ []
  no_entries = none_built (journal_faults u) records (λ p page at.
      subst (λ (j : List Entry). journal_faults u p (record page { journal = j }) ≡ []) (journal_is p page at)
      ((faultless_is_lawful u p (journals p)).1 (can.lawful p, can.rises p)))

  no_wrong_words : each_built (word_faults u) records ≡ []
  no_wrong_words = none_built (word_faults u) records (λ p page at. no_words (replayed (base_of u p) page.journal) page.words p (lawful.words p page at))

  closed : ReferencesAreStarts u journals
  closed = each_leads u journals can.lawful (older_closed u journals can.references)

  loose_at : (p : ℕ) (page : BuiltPage) → get_or records p None ≡ Some page → (i k x : ℕ) → i < length page.words → k ≡ 0 + i → x ≡ get_or page.words i x
      → ((not (some_refers (kind_at u p page.journal k)) || leads_nowhere u.heap.edition x) || is_start u.heap (entries_below journals (pages u)) x) ≡ true
  loose_at p page at i k x inside number is =
      let same = journal_is p page at in
      let place : i ≡ k = omega (arith, number) in
      let few : k < 64 = omega (arith, long p page at, inside, number) in
      let value : get_or (replayed (base_of u p) (journals p)) k 0 ≡ x =
      ap (λ (j : List Entry). get_or (replayed (base_of u p) j) k 0) same ∙ ap (λ (l : List ℕ). get_or l k 0) (sym (lawful.words p page at))
      ∙ ap (λ (j : ℕ). get_or page.words j 0) (sym place) ∙ get_or_default page.words i 0 x inside ∙ sym is in
      reference_tested u journals (kind_at u p page.journal k) x (λ kind referring reference.
      subst (LeadsToObject u journals) value (closed p k kind referring (record {
        inside = few;
        kind_is = ap (λ (j : List Entry). kind_at u p j k) same ∙ reference;
      })))

  no_loose : each_built (reference_faults (is_start u.heap (entries_below journals (pages u))) u) records ≡ []
  no_loose = none_built (reference_faults (is_start u.heap (entries_below journals (pages u))) u) records (λ p page at.
      none_items _ 0 page.words (λ i k x inside number is.
      holds _ (LooseReference (address p k)) (loose_at p page at i k x inside number is)))

  counted : (s : ℕ) → times s (map stamp_of (entries_below journals (pages u))) ≡ stamped_with u journals s
  counted s = stamps_counted journals (pages u) s

  at_most_once : (s : ℕ) → stamped_with u journals s ≤ 1
  at_most_once s =
      elim (cases_lt s (entries u journals)) [
        | inl lt ↦ let h = can.stamps s lt in omega (arith, h)
        | inr le ↦ let h = can.no_more s le in omega (arith, h)
      ]

  no_repeats : repeat_faults (map stamp_of (entries_below journals (pages u))) ≡ []
  no_repeats =
      let stamps = map stamp_of (entries_below journals (pages u)) in
      none_in_range (λ s. unless (leb (times s stamps) 1) (StampRepeated s)) 0 (above stamps) (λ s ge lt.
      holds (leb (times s stamps) 1) (StampRepeated s) (le-leb _ _ (omega (arith, counted s, at_most_once s))))

  no_missing : missing_faults (map stamp_of (entries_below journals (pages u))) ≡ []
  no_missing =
      let stamps = map stamp_of (entries_below journals (pages u)) in
      none_in_range (λ s. unless (leb 1 (times s stamps)) (StampMissing s)) 0 (length stamps) (λ s ge lt.
      let one = can.stamps s (omega (arith, lt, stamps_long journals (pages u))) in
      holds (leb 1 (times s stamps)) (StampMissing s) (le-leb _ _ (omega (arith, counted s, one))))

  no_late : late_faults (is_led u.heap (is_made_before (entries_below journals (pages u)))) records ≡ []
  no_late =
      let test = is_led u.heap (is_made_before (entries_below journals (pages u))) in
      none_in_range (late_with test records) 0 (above (all_stamps records)) (λ s ge lt.
      none_built (λ p page. late_on test s p page.journal) records (λ p page at.
      none_items _ 0 page.journal (λ i k e inside number is.
      let there = there_at page.journal i inside in
      let same : there.0 ≡ e = sym (read_at page.journal i there.0 e there.1) ∙ sym is in
      let at_page : get_elem? (journals p) i ≡ maybe.some e = ap (λ (j : List Entry). get_elem? j i) (journal_is p page at) ∙ there.1 ∙ ap maybe.some same in
      holds (not (eqb e.stamp s) || test e) (BadEntry p k)
      (right_holds (not (eqb e.stamp s)) (test e) (led_tested u journals e (λ reference. can.references p i e at_page reference))))))

pub lawful_is_yes : LawfulIsYes
lawful_is_yes heap dump stored lawful =
    let u = setup_for heap dump.fresh dump.mutators in
    let records = dump.pages in
    let right = map (forwarded_value heap.edition (live heap)) heap.roots in
    let long : (p : ℕ) (page : BuiltPage) → page_of dump p ≡ Some page → length page.words ≡ 64 = λ p page at. page_long dump.edition dump.mutators records p page stored.pages at in
    let here : pages u ≡ length records = sym lawful.slots in
    let all = entries_below (journals_in records) in
    let head : head_faults u dump.edition dump.roots records ≡ [] =
    both_pass (is_edition dump.edition heap.edition) (eqb (length records) (pages u) && bytes_eq dump.roots right) WrongHead
    (ap (λ (e : Edition). is_edition dump.edition e) (sym lawful.edition) ∙ edition_same dump.edition)
    (true_and (eqb (length records) (pages u)) (bytes_eq dump.roots right) (eq-eqb _ _ lawful.slots) ((bytes_eq-Decides dump.roots right).1 lawful.roots)) in
    let builds : build_faults dump.builds records ≡ [] = no_claims dump.builds records (λ p lt. lawful.claims p (omega (arith, lt, lawful.slots))) in
    let loose = ap (λ (n : ℕ). each_built (reference_faults (is_start heap (all n)) u) records) (sym here) ∙ no_loose u dump lawful long in
    let repeats = ap (λ (n : ℕ). repeat_faults (map stamp_of (all n))) (sym here) ∙ no_repeats u dump lawful long in
    let missing = ap (λ (n : ℕ). missing_faults (map stamp_of (all n))) (sym here) ∙ no_missing u dump lawful long in
    let late = ap (λ (n : ℕ). late_faults (is_led heap (is_made_before (all n))) records) (sym here) ∙ no_late u dump lawful long in
    let sum : dump.total ≡ live_words (live heap) + allocated heap.edition (all (length records)) =
    lawful.total ∙ ap (λ (n : ℕ). live_words (live heap) + n) (total_merged u (journals_in records) ∙ ap (λ (n : ℕ). allocated heap.edition (all n)) here) in
    let total : total_faults heap dump.total records ≡ [] = holds (eqb dump.total (live_words (live heap) + allocated heap.edition (all (length records)))) WrongTotal (eq-eqb _ _ sum) in
    both_none _ _ head
    (both_none _ _ (both_none _ _ builds (both_none _ _ (no_entries u dump lawful long) (no_wrong_words u dump lawful long)))
    (both_none _ _ (both_none _ _ loose (both_none _ _ repeats (both_none _ _ missing late))) total))
