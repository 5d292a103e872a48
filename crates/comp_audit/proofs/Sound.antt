-- If the audit finds no fault, the dump is lawful, and its pages have one history.
use Rattle.std.proofs.Common.{◌≡◌, ℕ, ◌+◌, ◌-◌, ◌/◌, ◌<◌, ◌⊎◌, inl, inr, ⊎_elim, Bool, true, false, eqb, ltb, not, ◌&&◌, ◌||◌, is_some, List, [], ◌∷◌, length, map, get_or, Option, Some, None, refl, sym, ap, subst, ◌∙◌, arith}
use Rattle.std.specs.Prelude.{bytes_eq}
use Rattle.std.specs.List.{list_any}
use Rattle.std.proofs.lemmas.Slice.Eq.{bytes_eq-Decides}
use Rattle.std.proofs.lemmas.Bool.{eqb-true, ltb-true, eq-eqb}
use Rattle.std.proofs.lemmas.List.{ext_get_or}
use Rattle.std.proofs.Math.ListN.{get_or-eq_default}
use mathlib.Core.Option as maybe
use mathlib.Core.Option.{some-ne-none}
use lib.ListN.{get_elem?}
use Rattle.heap_layout.specs.Values.{leads_nowhere}
use Rattle.heap_layout.specs.Heap.{live}
use Rattle.heap_layout.specs.declared.edition.Edition.{Edition}
use Rattle.heap_layout.specs.declared.edition.Edition.TheVariants.{One, Two, Three, Four}
use Rattle.heap_layout.specs.Header.{Head}
use Rattle.heap_layout.specs.Kinds.{refers}
use Rattle.heap_layout.specs.declared.kind.Kind.{Kind}
use Rattle.heap_layout.specs.declared.kind.Kind.TheVariants.{Header}
use Rattle.page_plan.specs.Sliding.{forwarded_value, live_words, shape_at}
use Rattle.comp_dump.specs.Journal.{replayed}
use Rattle.comp_dump.specs.Entry.{Entry}
use Rattle.comp_dump.specs.Setup.{Setup, pages, address, base_of}
use Rattle.comp_dump.specs.Lists.{times}
use Rattle.comp_dump.specs.Locks.{Journals}
use Rattle.comp_dump.specs.History.{entries, stamped_with}
use Rattle.comp_dump.specs.Starts.{HasHeadBefore}
use Rattle.comp_dump.specs.Closing.{IsMadeBefore, LeadsToOlder}
use Rattle.comp_dump.proofs.Sums.{read_at, is_inside}
use Rattle.comp_dump.specs.Objects.{AreLawful}
use Rattle.comp_dump.proofs.Heads.{all_made}
use Rattle.comp_dump.proofs.LastWord.{replayed_long}
use Rattle.comp_dump.proofs.Leading.{base_long, each_leads, older_closed}
use Rattle.comp_dump.specs.Merged.{entries_below, history, stamp_of, CanMerge}
use Rattle.comp_dump.specs.OneThread.{address_of}
use Rattle.comp_dump.specs.MadeWords.{allocated, words_by}
use Rattle.comp_dump.proofs.Sorted.{In, in_at, at_in, total_sorted}
use Rattle.comp_dump.proofs.CompHistoryPages.{in_below}
use Rattle.comp_dump.proofs.Legal.{one_history}
use Rattle.comp_dump.specs.Builds.{named}
use Rattle.comp_dump.specs.Dumped.{BuiltPage, IsStoredRecord}
use Rattle.comp_dump.specs.declared.fault.AuditFault.TheVariants.{WrongHead, WrongTotal, BuildUnclaimed, BadEntry}
use Rattle.comp_audit.specs.Checks.{setup_for, unless, all_entries, all_stamps, journal_of, journals_in, above, is_edition, head_faults, is_claimed, build_faults, journal_faults, same_words, word_faults, each_built, is_kind, makes, is_forwarding_address, is_made_before, is_led, late_on, late_with, late_faults, repeat_faults, missing_faults}
use Rattle.comp_audit.specs.Meant.{built_count, journals_of, IsLawfulDump, YesIsSound}
use Rattle.heap_layout.proofs.Rows.{append-none, unless-none}
use Rattle.comp_audit.proofs.Reporting.{item_none}
use Rattle.comp_audit.proofs.Meanings.{and_true, kind_means}
use Rattle.comp_audit.proofs.Built.{built_none, built_inside, lawful_records, rising_records}
use Rattle.comp_audit.proofs.Clock.{stamps_counted, stamps_long, stamps_once, stamps_there, stamps_no_more, range_none}
use Rattle.comp_audit.proofs.Entries.{stamp_below}
use Rattle.comp_audit.proofs.Unwritten.{word_means}

-- the head
edition_means : (a b : Edition) → is_edition a b ≡ true → a ≡ b
edition_means One One h = refl
edition_means One Two h = absurd cc
edition_means Two One h = absurd cc
edition_means Two Two h = refl
edition_means One Three h = absurd cc
edition_means Two Three h = absurd cc
edition_means Three One h = absurd cc
edition_means Three Two h = absurd cc
edition_means Three Three h = refl
edition_means One Four h = absurd cc
edition_means Two Four h = absurd cc
edition_means Three Four h = absurd cc
edition_means Four One h = absurd cc
edition_means Four Two h = absurd cc
edition_means Four Three h = absurd cc
edition_means Four Four h = refl

head_means : (u : Setup) (edition : Edition) (roots : List ℕ) (records : List (Option BuiltPage)) → head_faults u edition roots records ≡ []
    → (edition ≡ u.heap.edition) × (length records ≡ pages u) × (roots ≡ map (forwarded_value u.heap.edition (live u.heap)) u.heap.roots)
head_means u edition roots records none =
    let right = map (forwarded_value u.heap.edition (live u.heap)) u.heap.roots in
    let all = and_true (is_edition edition u.heap.edition) (eqb (length records) (pages u) && bytes_eq roots right) (unless-none _ WrongHead none) in
    let both = and_true (eqb (length records) (pages u)) (bytes_eq roots right) all.1 in
    (edition_means edition u.heap.edition all.0, eqb-true _ _ both.0, (bytes_eq-Decides roots right).0 both.1)

-- who built the pages
claim_by : (builds : List (List ℕ)) (p : ℕ) (kept : Option BuiltPage) → is_claimed builds (p, kept) ≡ true → named p builds ≡ built_count kept
claim_by builds p None h = eqb-true _ _ h
claim_by builds p (Some page) h = eqb-true _ _ h

claims_mean : (builds : List (List ℕ)) (records : List (Option BuiltPage)) → build_faults builds records ≡ [] → (p : ℕ) → p < length records
    → named p builds ≡ built_count (get_or records p None)
claims_mean builds records none p lt =
    claim_by builds p (get_or records p None) (unless-none (is_claimed builds (p, get_or records p None)) (BuildUnclaimed p)
    (item_none (λ place. unless (is_claimed builds place) (BuildUnclaimed place.0)) 0 records p p None lt (omega arith) none))

-- the words of a page
words_mean : (right words : List ℕ) (p : ℕ) → length right ≡ 64 → length words ≡ 64 → same_words right p words ≡ [] → words ≡ right
words_mean right words p long as_long none = ext_get_or 0 words right (as_long ∙ sym long) (λ i lt. word_means right words p i lt none)

pub page_long : (edition : Edition) (mutators : ℕ) (records : List (Option BuiltPage)) (p : ℕ) (page : BuiltPage) → ((k : ℕ) (d : Option BuiltPage) → k < length records → IsStoredRecord edition mutators (get_or records k d))
    → get_or records p None ≡ Some page → length page.words ≡ 64
page_long edition mutators records p page stored at =
    let here : IsStoredRecord edition mutators (Some page) = subst (IsStoredRecord edition mutators) at (stored p None (built_inside records p page at)) in
    here.long

-- the targets of references
or_cases : (a b : Bool) → (a || b) ≡ true → (a ≡ true) ⊎ (b ≡ true)
or_cases true b h = inl refl
or_cases false b h = inr h

or_right : (a b : Bool) → a ≡ false → (a || b) ≡ true → b ≡ true
or_right true b e h = absurd cc
or_right false b e h = h

any_has : {X : Type 0} (test : X → Bool) (xs : List X) → list_any test xs ≡ true → (x : X) × In x xs × (test x ≡ true)
any_has test [] h = absurd cc
any_has test (x ∷ xs) h = ⊎_elim
    (λ (here : test x ≡ true). (x, inl refl, here))
    (λ (later : list_any test xs ≡ true). let rest = any_has test xs later in (rest.0, inr rest.1, rest.2))
    (or_cases (test x) (list_any test xs) h)

some_kind : (a b : Kind) → Some a ≡ Some b → a ≡ b
some_kind a b e = cc

some_header : (o : Option Head) → is_some o ≡ true → (header : Head) × (o ≡ Some header)
some_header None h = absurd cc
some_header (Some header) h = (header, refl)

module _ (u : Setup) (journals : Journals) (lawful : AreLawful u journals) where
  abbrev all : List (ℕ × Entry)
  all = entries_below journals (pages u)

  made_means : (a n : ℕ) → is_made_before all a n ≡ true → IsMadeBefore u journals n a
  made_means a n h =
      let found = any_has (λ (x : ℕ × Entry). makes a x && ltb (stamp_of x) n) all h in
      let x = found.0 in
      let both = and_true (makes a x) (ltb (stamp_of x) n) found.2 in
      let parts = and_true (is_kind Header (Some x.1.kind)) (eqb (address_of x) a) both.0 in
      let there = in_below journals (pages u) x found.1 in
      let at = in_at (journals x.0) x.1 there.1 in
      let head : x.1.kind ≡ Header = some_kind x.1.kind Header (kind_means Header (Some x.1.kind) parts.0) in
      let made = all_made u x.0 (journals x.0) [] at.0 x.1 (lawful x.0) at.1 head in
      let page : x.0 ≡ u.compacted + (x.0 - u.compacted) = omega (arith, made.fresh) in
      record {
        page = x.0 - u.compacted;
        offset = x.1.offset;
        fresh = omega (arith, made.fresh, there.0);
        inside = omega (arith, made.ends);
        at = sym (eqb-true _ _ parts.1) ∙ ap (λ (q : ℕ). address q x.1.offset) page;
        made = subst (λ (q : ℕ). HasHeadBefore (journals q) x.1.offset n) page (at.0, x.1, at.1, head, refl, ltb-true _ _ both.1);
      }

  led_means : (e : Entry) → refers e.kind ≡ true → is_led u.heap (is_made_before all) e ≡ true → LeadsToOlder u journals e.stamp e.value
  led_means e reference h =
      let is_reference = not (refers e.kind) in
      let null = leads_nowhere u.heap.edition e.value in
      let place = is_forwarding_address u.heap e.value in
      let before = is_made_before all e.value e.stamp in
      let not_other : is_reference ≡ false = ap not reference in
      ⊎_elim
      (λ (front : ((is_reference || null) || place) ≡ true). ⊎_elim
      (λ (first : (is_reference || null) ≡ true). inl (or_right is_reference null not_other first))
      (λ (second : place ≡ true). inr (inl (some_header (shape_at (live u.heap) e.value) second)))
      (or_cases (is_reference || null) place front))
      (λ (last : before ≡ true). inr (inr (made_means e.value e.stamp last)))
      (or_cases ((is_reference || null) || place) before h)

-- each entry passes the test
passes_by : (test : Entry → Bool) (records : List (Option BuiltPage)) (p i : ℕ) (e : Entry) (kept : Option BuiltPage) → late_faults test records ≡ []
    → get_or records p None ≡ kept → get_elem? (journal_of kept) i ≡ maybe.some e → test e ≡ true
passes_by test records p i e None none at there = absurd (some-ne-none e (sym there))
passes_by test records p i e (Some page) none at there =
    let inside = built_inside records p page at in
    let below = stamp_below records p page e inside at (at_in page.journal i e there) in
    let stamp = range_none (late_with test records) 0 (above (all_stamps records)) e.stamp none (omega arith) (omega (arith, below)) in
    let entries = built_none (λ q other. late_on test e.stamp q other.journal) records p page stamp at in
    let one = item_none (λ entry. unless (not (eqb entry.1.stamp e.stamp) || test entry.1) (BadEntry p entry.0)) 0 page.journal i i e (is_inside page.journal i e there) (omega arith) entries in
    let here : unless (not (eqb e.stamp e.stamp) || test e) (BadEntry p i) ≡ [] =
    subst (λ (x : Entry). unless (not (eqb x.stamp e.stamp) || test x) (BadEntry p i) ≡ []) (read_at page.journal i e e there) one in
    or_right (not (eqb e.stamp e.stamp)) (test e) (ap not (eq-eqb e.stamp e.stamp refl)) (unless-none (not (eqb e.stamp e.stamp) || test e) (BadEntry p i) here)

passes_late : (test : Entry → Bool) (records : List (Option BuiltPage)) → late_faults test records ≡ [] → (p i : ℕ) (e : Entry)
    → get_elem? (journals_in records p) i ≡ maybe.some e → test e ≡ true
passes_late test records none p i e there = passes_by test records p i e (get_or records p None) none refl there

-- the journals can be merged
module _ (u : Setup) (records : List (Option BuiltPage)) (slots : length records ≡ pages u) where
  abbrev journals : Journals
  journals = journals_in records

  stamps_are : all_stamps records ≡ map stamp_of (entries_below journals (pages u))
  stamps_are = ap (λ (n : ℕ). map stamp_of (entries_below journals n)) slots

  merges : (slid : u.compacted ≡ (live_words (live u.heap) + 63) / 64) → each_built (journal_faults u) records ≡ [] → repeat_faults (all_stamps records) ≡ []
      → missing_faults (all_stamps records) ≡ [] → late_faults (is_led u.heap (is_made_before (all_entries records))) records ≡ [] → CanMerge u journals
  merges slid lawful once there late =
      let are_lawful = lawful_records u records lawful in
      let long : length (all_stamps records) ≡ entries u journals = ap length stamps_are ∙ stamps_long journals (pages u) in
      let counted = λ (s : ℕ). let e : times s (all_stamps records) ≡ stamped_with u journals s = ap (times s) stamps_are ∙ stamps_counted journals (pages u) s in e in
      record {
        slid = slid;
        outside = λ p le. let none : get_or records p None ≡ None = get_or-eq_default records None (omega (arith, slots, le)) in ap journal_of none;
        lawful = are_lawful;
        rises = rising_records u records lawful;
        references = λ p i e at reference. led_means u journals are_lawful e reference
            (ap (λ (n : ℕ). is_led u.heap (is_made_before (entries_below journals n)) e) (sym slots) ∙ passes_late (is_led u.heap (is_made_before (all_entries records))) records late p i e at);
        stamps = λ s lt. omega (arith, counted s, stamps_once (all_stamps records) once s, stamps_there (all_stamps records) there s (omega (arith, long, lt)));
        no_more = λ s le. sym (counted s) ∙ stamps_no_more (all_stamps records) there s (omega (arith, long, le));
      }

pub total_merged : (u : Setup) (journals : Journals) → allocated u.heap.edition (history u journals) ≡ allocated u.heap.edition (entries_below journals (pages u))
unfolding history
total_merged u journals = total_sorted (λ (x : ℕ × Entry). words_by u.heap.edition x.1.kind x.1.value) (entries_below journals (pages u))

pub yes_is_sound : YesIsSound
unfolding history
yes_is_sound heap dump closed stored none =
    let u = setup_for heap dump.fresh dump.mutators in
    let records = dump.pages in
    let head = append-none _ _ none in
    let singles = append-none _ _ head.1 in
    let between = append-none _ _ singles.1 in
    let builds = append-none _ _ singles.0 in
    let entries_words = append-none _ _ builds.1 in
    let references = append-none _ _ between.0 in
    let repeats = append-none _ _ references.1 in
    let missing_late = append-none _ _ repeats.1 in
    let front = head_means u dump.edition dump.roots records head.0 in
    let can = merges u records front.1 refl entries_words.0 repeats.0 missing_late.0 missing_late.1 in
    let lawful : IsLawfulDump u dump = record {
      edition = front.0;
      slots = front.1;
      roots = front.2;
      claims = λ p lt. claims_mean dump.builds records builds.0 p (omega (arith, lt, front.1));
      words = λ p page at. words_mean (replayed (base_of u p) page.journal) page.words p (replayed_long (base_of u p) page.journal ∙ base_long u p)
          (page_long dump.edition dump.mutators records p page stored.pages at) (built_none (word_faults u) records p page entries_words.1 at);
      merges = can;
      total = eqb-true _ _ (unless-none (eqb dump.total (live_words (live heap) + allocated heap.edition (all_entries records))) WrongTotal between.1)
          ∙ ap (λ (n : ℕ). live_words (live heap) + allocated heap.edition (entries_below (journals_in records) n)) front.1
          ∙ ap (λ (n : ℕ). live_words (live heap) + n) (sym (total_merged u (journals_in records)));
    } in
    record {
      lawful = lawful;
      one = one_history u (journals_of dump) closed can;
      closed = each_leads u (journals_of dump) can.lawful (older_closed u (journals_of dump) can.references);
    }
