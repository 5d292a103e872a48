use Rattle.std.proofs.Common.{◌≡◌, ℕ, ◌+◌, ◌≤◌, List, get_or, set, sum, length-set, sym, ap, subst, refl, ◌∙◌, arith}
use Rattle.std.proofs.lemmas.List.{with_items_is}
use Rattle.heap_layout.specs.Header.{size_of, Head, header_of}
use Rattle.comp_journal.specs.Journal.{Journaled}
use Rattle.cell_steps.specs.Setup.{address, Setup}
use Rattle.cell_steps.specs.Lists.{by, on}
use Rattle.cell_steps.specs.Lawful.{IsLawful, IsNext}
use Rattle.cell_steps.specs.Passes.{did, number_of, seen, HasSeenBuilt, KnowsFresh}
use Rattle.page_cells.specs.CellViews.{setup_of, page_number, journal_of}
use Rattle.page_cells.proofs.Growing.{grows_then}
use Rattle.comp_access.specs.Allocations.{own_page, used, AreLow, AreZero, Counts, HasNoRoom, IsLowest}
use Rattle.comp_access.specs.Reads.{MayBuild}
use Rattle.comp_access.proofs.Answering.{err_anyway}
use Rattle.comp_access.proofs.Building.{builds_before}
use Rattle.comp_access.proofs.Fitting.{made_few}
use Rattle.comp_access.proofs.LowPages.{low_filled}
use Rattle.comp_access.proofs.Made.{counted_more, counts_are, counts_still, makes_nothing, words_still}
use Rattle.comp_access.proofs.OwnPages.{read_back, counts_more, lowest_own, made_own, next_own, no_room, sum_more}
use Rattle.comp_access.proofs.Refusing.{allocation_page_refused, allocation_refused}
use Rattle.comp_access.proofs.hand.Hand.alloc_with.Goals as goal

pub write_taken-requires-clause-fits : goal.write_taken-requires-clause-fits
write_taken-requires-clause-fits g c κs within =
    let u = setup_of c.args.cells.now in
    let hand = c.args.self.now in
    let old = hand.pass in
    let fills = c.deref_mut-fills.result.now in
    let counts = counts_are (sym c.requires.of.of.about) c.deref_mut-fills.ensures.value hand.counts in
    let n = number_of old in
    let index = c.in-Some.index in
    let chosen = c.in-Some.ensures in
    let taken = c.in_ok-taken.ensures in
    let journal = journal_of c.in_ok-taken.taken in
    let own = c.own_page-page.ensures.page ∙ ap (λ k. own_page u k index) c.number.ensures in
    let middle = c.take.new.pass in
    let number = page_number c.in_ok-taken.taken in
    let r = taken.of.remembers number in
    let saw : journal ≡ seen middle number = ap (λ (page : Journaled). page.journal) taken.taken.1.page in
    let lawful = subst (λ p. IsLawful u p journal) (taken.taken.0 ∙ own) (subst (IsLawful u number) (sym saw) r.lawful) in
    let mine : by n journal ≡ on (own_page u n index) (did old) = ap (by n) saw ∙ ap (λ k. by k (seen middle number)) (sym taken.grows.0.number) ∙ r.own ∙ ap (on number) taken.grows.1
    ∙ ap (λ p. on p (did old)) (taken.taken.0 ∙ own) in
    let value = ap (header_of u.heap.edition) c.word.ensures ∙ read_back u.heap.edition c.args.header c.requires.edition in
    let size = c.size-size.ensures ∙ ap size_of (sym value) in
    let ends = subst (λ s. get_or fills index 0 + s ≤ 64) size chosen.room in
    let next = next_own u n index c.word.result _ journal _ c.requires.of.numbered (counts.there index chosen.inside) lawful mine (counts.used index chosen.inside) ends in
    let offset = get_or fills index 0 in
    subst (λ p. IsNext u p journal (number_of middle) offset c.word.result) (sym (taken.taken.0 ∙ own))
    (subst (λ k. IsNext u (own_page u n index) journal k offset c.word.result) (sym c.take.ensures.grows.0.number) next)

pub returns-clause-grows : goal.returns-clause-grows
returns-clause-grows g c = grows_then c.args.self.now.pass c.take.new.pass c.write_taken.new.pass c.take.ensures.grows.0 c.write_taken.ensures.grows.0

pub returns-in_err-write_taken-clause-grows : goal.returns-in_err-write_taken-clause-grows
returns-in_err-write_taken-clause-grows g c = grows_then c.args.self.now.pass c.take.new.pass c.write_taken.new.pass c.take.ensures.grows.0 c.write_taken.ensures.grows.0

pub returns-clause-allocated : goal.returns-clause-allocated
returns-clause-allocated g c =
    let u = setup_of c.args.cells.now in
    let hand = c.args.self.now in
    let old = hand.pass in
    let fills = c.deref_mut-fills.result.now in
    let counts = counts_are (sym c.requires.of.of.about) c.deref_mut-fills.ensures.value hand.counts in
    let middle = c.take.new.pass in
    let new = c.write_taken.new.pass in
    let index = c.in-Some.index in
    let chosen = c.in-Some.ensures in
    let taken = c.in_ok-taken.ensures in
    let offset = get_or fills index 0 in
    let page = c.own_page-page.ensures.page ∙ ap (λ k. own_page u k index) c.number.ensures in
    let at = counts.used index chosen.inside in
    let lowest = lowest_own u old fills c.size-size.result index counts chosen.inside chosen.room chosen.first in
    let known = c.in_ok-write_taken.ensures.start refl in
    let zero_there = subst (λ p. AreZero u (seen new) p offset (offset + size_of (header_of u.heap.edition c.word.result))) (taken.taken.0 ∙ page) (c.in_ok-write_taken.ensures.zero refl) in
    let value = ap (header_of u.heap.edition) c.word.ensures ∙ read_back u.heap.edition c.args.header c.requires.edition in
    let zero_word = subst (λ h. AreZero u (seen new) (own_page u (number_of old) index) offset (offset + size_of h)) value zero_there in
    record {
      edition = c.requires.edition;
      index = index;
      lowest = subst (λ s. IsLowest u old s index) c.size-size.ensures lowest;
      address_is = c.address_of.ensures ∙ ap (λ p. address p offset) page ∙ ap (address (own_page u (number_of old) index)) at;
      stamp = c.in_ok-write_taken.field-0;
      adds = made_own u old middle new index c.args.header.word c.word.result _ _ c.in_ok-write_taken.field-0 c.take.ensures.grows (taken.taken.0 ∙ page) at c.word.ensures c.in_ok-write_taken.ensures.adds;
      known = subst (λ p. KnowsFresh new p (used u old index)) (taken.taken.0 ∙ page) (subst (KnowsFresh new (page_number c.in_ok-taken.taken)) at known);
      zero = subst (λ n. AreZero u (seen new) (own_page u (number_of old) index) n (n + size_of c.args.header)) at zero_word;
      builds = builds_before old middle new (own_page u (number_of old) index) (subst (λ p. MayBuild p old middle) page c.take.ensures.builds) c.write_taken.ensures.grows.0 c.write_taken.ensures.grows.1;
      built = c.write_taken.ensures.grows.0.built (own_page u (number_of old) index) (subst (HasSeenBuilt middle) page taken.taken.2);
    }

pub returns-in_default-clause-refused : goal.returns-in_default-clause-refused
returns-in_default-clause-refused g c =
    let u = setup_of c.args.cells.now in
    let hand = c.args.self.now in
    let old = hand.pass in
    let fills = c.deref_mut-fills.result.now in
    let counts = counts_are (sym c.requires.of.of.about) c.deref_mut-fills.ensures.value hand.counts in
    let none = no_room u old fills c.size-size.result counts c.in_default.ensures.none in
    (subst (λ n. n ≤ 64) c.size.ensures c.if-size-gt-MAX_FRESH_OBJECT_WORDS.false, subst (HasNoRoom u old) c.size-size.ensures none, refl, λ p. refl)

pub returns-in_err-taken-clause-refused : goal.returns-in_err-taken-clause-refused
returns-in_err-taken-clause-refused g c =
    let u = setup_of c.args.cells.now in
    let hand = c.args.self.now in
    let old = hand.pass in
    let fills = c.deref_mut-fills.result.now in
    let counts = counts_are (sym c.requires.of.of.about) c.deref_mut-fills.ensures.value hand.counts in
    let index = c.in-Some.index in
    let chosen = c.in-Some.ensures in
    let why = c.in_err-taken.ensures.refused in
    let own = c.own_page-page.ensures.page ∙ ap (λ k. own_page u k index) c.number.ensures in
    let lowest = lowest_own u old fills c.size-size.result index counts chosen.inside chosen.room chosen.first in
    err_anyway c.from_residual.result _ c.in_err-taken.field-0.0 c.from_residual.ensures.1
    (allocation_page_refused u old c.take.new.pass (size_of c.args.header) c.own_page-page.result _ (index, subst (λ s. IsLowest u old s index) c.size-size.ensures lowest, own) c.take.ensures.builds why.1 why.2)

pub returns-in_err-write_taken-clause-refused : goal.returns-in_err-write_taken-clause-refused
returns-in_err-write_taken-clause-refused g c =
    let u = setup_of c.args.cells.now in
    let hand = c.args.self.now in
    let old = hand.pass in
    let fills = c.deref_mut-fills.result.now in
    let counts = counts_are (sym c.requires.of.of.about) c.deref_mut-fills.ensures.value hand.counts in
    let middle = c.take.new.pass in
    let new = c.write_taken.new.pass in
    let index = c.in-Some.index in
    let chosen = c.in-Some.ensures in
    let taken = c.in_ok-taken.ensures in
    let p = page_number c.in_ok-taken.taken in
    let own = taken.taken.0 ∙ c.own_page-page.ensures.page ∙ ap (λ k. own_page u k index) c.number.ensures in
    let lowest = lowest_own u old fills c.size-size.result index counts chosen.inside chosen.room chosen.first in
    let built = subst (λ q. MayBuild q old middle) (sym taken.taken.0) c.take.ensures.builds in
    let wrote = c.write_taken.ensures.grows in
    err_anyway c.from_residual-in_err-write_taken.result _ c.in_err-write_taken.field-0.0 c.from_residual-in_err-write_taken.ensures.1
    (allocation_refused u old new (size_of c.args.header) p _ (index, subst (λ s. IsLowest u old s index) c.size-size.ensures lowest, own) (builds_before old middle new p built wrote.0 wrote.1) c.in_err-write_taken.ensures.refused.1)

pub invariant_of-self-in-Break-branch-2 : goal.invariant_of-self-in-Break-branch-2
invariant_of-self-in-Break-branch-2 g c =
    let u = setup_of c.args.cells.now in
    let hand = c.args.self.now in
    let fills = c.deref_mut-fills.result.now in
    let value = c.deref_mut-fills.ensures.value in
    let same = sym (with_items_is hand.fills fills c.deref_mut-fills.ensures.len) in
    let new = c.write_taken.new.pass in
    let of = c.write_taken.ensures.of in
    let number = c.write_taken.ensures.grows.0.number ∙ c.take.ensures.grows.0.number in
    let made = makes_nothing u.heap.edition hand.pass new (c.in_err-write_taken.ensures.refused.0 ∙ c.take.ensures.grows.1) in
    record {
      rests = of.1;
      counts = counts_are refl (sym same ∙ value) (counts_still u hand.pass new hand.fills.items c.requires.of.of.about of.0.of.about number made hand.counts);
      low = subst (λ (l : List ℕ). AreLow l c.find_room.new.lows) same c.find_room.ensures.low;
      bounded = subst (λ (l : List ℕ). hand.made ≤ sum l) (sym value ∙ same) hand.bounded;
      counted = words_still u hand.pass new hand.made c.requires.of.of.about of.0.of.about made hand.counted;
    }

pub overflow_add-made : goal.overflow_add-made
overflow_add-made g c =
    let few = made_few c.args.self.now in
    let size = c.in-Some.ensures.room in
    let same = c.from.ensures in
    omega (arith, few, size, same)

pub invariant_of-self-2 : goal.invariant_of-self-2
invariant_of-self-2 g c =
    let u = setup_of c.args.cells.now in
    let hand = c.args.self.now in
    let old = hand.pass in
    let header = c.args.header in
    let value = c.deref_mut-fills.ensures.value in
    let fills = c.deref_mut-fills.result.now in
    let counts = counts_are (sym c.requires.of.of.about) value hand.counts in
    let new = c.write_taken.new.pass in
    let of = c.write_taken.ensures.of in
    let index = c.in-Some.index in
    let chosen = c.in-Some.ensures in
    let more = get_or fills index 0 + c.size-size.result in
    let same = sym (with_items_is hand.fills (set fills index more) (length-set fills index more ∙ c.deref_mut-fills.ensures.len)) in
    let size = c.size-size.ensures in
    let taken = c.in_ok-taken.ensures in
    let own = taken.taken.0 ∙ c.own_page-page.ensures.page ∙ ap (λ k. own_page u k index) c.number.ensures in
    let was = counts.used index chosen.inside in
    let stamp = c.in_ok-write_taken.field-0 in
    let adds = made_own u old c.take.new.pass new index header.word c.word.result _ _ stamp c.take.ensures.grows own was c.word.ensures c.in_ok-write_taken.ensures.adds in
    let back : header_of u.heap.edition header.word ≡ header = read_back u.heap.edition header c.requires.edition in
    let ends = subst (λ (h : Head). used u old index + size_of h ≤ 64) (sym back) (subst (λ m. m + size_of header ≤ 64) was (subst (λ m. get_or fills index 0 + m ≤ 64) size chosen.room)) in
    let number = c.write_taken.ensures.grows.0.number ∙ c.take.ensures.grows.0.number in
    let counted = counts_more u old new fills index stamp (used u old index) header.word (omega (arith, c.requires.of.numbered)) number adds.did counts chosen.inside was ends in
    let count : used u old index + size_of (header_of u.heap.edition header.word) ≡ more = omega (arith, was, size, ap size_of back) in
    let filled = sum_more fills index c.size-size.result (size_of header) chosen.inside size in
    let edition = λ (w : Setup). w.heap.edition in
    record {
      rests = of.1;
      counts = counts_are of.0.of.about (sym same) (subst (λ m. Counts u new (set fills index m)) count counted);
      low = subst (λ (l : List ℕ). AreLow l c.find_room.new.lows) same (low_filled fills c.find_room.new.lows index more chosen.inside (omega arith) c.find_room.ensures.low);
      bounded = subst (λ (l : List ℕ). hand.made + c.from.result ≤ sum l) same (omega (arith, hand.bounded, ap sum value, filled, c.from.ensures, size));
      counted = counted_more u old new header index stamp hand.made c.from.result (ap edition c.requires.of.of.about) (ap edition of.0.of.about) c.requires.edition adds.did (c.from.ensures ∙ size) hand.counted;
    }
