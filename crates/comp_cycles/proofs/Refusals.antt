-- Why `next_cycle` is refused, and what it makes if it is not.
use Rattle.std.proofs.Common.{◌≡◌, ℕ, ◌*◌, ◌<◌, ◌&&◌, ltb, Bool, true, false, List, [], ◌++◌, length, map, Result, Ok, Err, IfOk, inl, inr, sym, ap, ap₂, ◌∙◌, subst, arith}
use Rattle.std.specs.List.{range_with_len}
use Rattle.std.proofs.lemmas.List.{length-map}
use Rattle.heap_layout.specs.Bits.{bit}
use Rattle.heap_layout.specs.Heap.{Heap, is_start}
use Rattle.heap_layout.specs.Faults.{unless, size_faults, mark_faults, root_faults, target_faults, weak_faults, faults, IsFirst, IsAccepted, IsAnswered}
use Rattle.heap_layout.proofs.Rows.{first-part}
use Rattle.heap_layout.specs.declared.edition.Edition.{Edition}
use Rattle.heap_layout.specs.declared.fault.LayoutFault.{LayoutFault}
use Rattle.heap_layout.specs.declared.fault.LayoutFault.TheVariants.{TooLarge, ObjectPastEnd, ObjectTooLong, MarkNotStart, MarksNotRising, BadRoot, UnmarkedTarget, Truncated, TrailingBytes, BadMagic, OutOfMemory, Device, BadWeak}
use Rattle.heap_layout.proofs.Bounds.{fresh_pages_most}
use Rattle.page_plan.proofs.Objects.{live_words-few}
use Rattle.comp_history.specs.Setup.{Setup, pages}
use Rattle.comp_history.specs.Locks.{Journals}
use Rattle.comp_cycles.specs.Finishes.{edition_in, pages_of, journals_of}
use Rattle.comp_history.specs.Merged.{CanMerge}
use Rattle.comp_cycles.specs.declared.finished.Finished.{Finished}
use Rattle.comp_cycles.specs.NextHeap.{held, lowered, next_word, object_starts}
use Rattle.comp_cycles.specs.Ends.{checked_faults, checked_heap, next_sizes, setup_in, AreMoved, IsEndOf, IsRefusedFor, IsRefusedWithin}
use Rattle.comp_cycles.proofs.MovedWords.{starts_are, words_are}
use Rattle.comp_cycles.proofs.Rows.{next_long, same_faults}

pub refused_first : (list : List LayoutFault) (fault : LayoutFault) → IsFirst list fault → IsRefusedFor list fault
refused_first list OutOfMemory h = tt
refused_first list TooLarge h = h
refused_first list (ObjectPastEnd i) h = h
refused_first list (ObjectTooLong i) h = h
refused_first list (MarkNotStart i) h = h
refused_first list (MarksNotRising i) h = h
refused_first list (BadRoot k) h = h
refused_first list (UnmarkedTarget i) h = h
refused_first list Truncated h = h
refused_first list TrailingBytes h = h
refused_first list BadMagic h = h
refused_first list Device h = h
refused_first list (BadWeak i) h = h

-- the answer that `from_parts_of` gives is one for which `next_cycle` may be refused
pub refused_answer : (list : List LayoutFault) (fault : LayoutFault) → IsAnswered list fault → IsRefusedFor list fault
refused_answer list fault (inl first) = refused_first list fault first
refused_answer list fault (inr memory) = subst (IsRefusedFor list) (sym memory.0) tt

-- the numbers of words, marks and roots have one fault only
first_size : (words marks roots : Bool) (fault : LayoutFault) → IsFirst ((unless words TooLarge ++ unless marks TooLarge) ++ unless roots TooLarge) fault → fault ≡ TooLarge
first_size false marks roots fault h = h
first_size true false roots fault h = h
first_size true true false fault h = h
first_size true true true fault h = absurd h

-- too many words, marks or roots: memory was not asked for
pub size_within : (list : List LayoutFault) (words marks roots : Bool) (fault : LayoutFault) → IsFirst ((unless words TooLarge ++ unless marks TooLarge) ++ unless roots TooLarge) fault → IsRefusedWithin list fault
size_within list words marks roots fault h = subst (IsRefusedWithin list) (sym (first_size words marks roots fault h)) tt

-- the sizes were checked
pub within : (list : List LayoutFault) (fault : LayoutFault) → list ≡ [] → IsRefusedWithin list fault
within list OutOfMemory e = e
within list TooLarge e = tt
within list (ObjectPastEnd i) e = tt
within list (ObjectTooLong i) e = tt
within list (MarkNotStart i) e = tt
within list (MarksNotRising i) e = tt
within list (BadRoot k) e = tt
within list (UnmarkedTarget i) e = tt
within list Truncated e = tt
within list TrailingBytes e = tt
within list BadMagic e = tt
within list Device e = tt
within list (BadWeak i) e = tt

abbrev heap_of : Edition → List ℕ → List ℕ → List ℕ → Heap
heap_of edition marks words roots = record { edition = edition; words = words; marks = marks; roots = roots }

module _ (heap : Heap) (f : Finished) (marks given : List ℕ) (e : IsEndOf heap f) where
  abbrev u : Setup
  u = setup_in heap f

  abbrev journals : Journals
  journals = journals_of f

  abbrev roots : List ℕ
  roots = map held given

  abbrev next : Heap
  next = checked_heap heap f given marks

  can : CanMerge u journals
  can = e.finished.history.merges

  pages_are : length (pages_of f) ≡ pages u
  pages_are = e.finished.pages.count

  -- the next heap has fewer than 2^32 words
  pub few_pages : 64 * length (pages_of f) < 4294967296
  few_pages = let few = live_words-few heap e.closed in let fresh = e.few_fresh in omega (arith, few, fresh, fresh_pages_most heap.edition)

  abbrev sizes : List LayoutFault
  sizes = next_sizes f marks given

  abbrev own : List LayoutFault
  own = size_faults heap.edition (length next.words) (length marks) (length next.roots)

  abbrev marked : List LayoutFault
  marked = mark_faults (object_starts u journals) 0 marks

  abbrev others : List LayoutFault
  others = root_faults heap.edition marks next.roots

  abbrev targets : List LayoutFault
  targets = target_faults heap.edition next.words marks marks

  abbrev last : List LayoutFault
  last = weak_faults heap.edition next.words marks

  sizes_are : sizes ≡ own
  sizes_are =
      ap (λ (edition : Edition). size_faults edition (64 * length (pages_of f)) (length marks) (length given)) e.finished.edition
      ∙ ap₂ (λ (w r : ℕ). size_faults heap.edition w (length marks) r) (ap (λ (n : ℕ). 64 * n) pages_are ∙ sym (next_long u journals e.closed can roots marks)) (sym (length-map roots (lowered heap.edition) ∙ length-map given held))

  pub size_refused : (fault : LayoutFault) → IsFirst sizes fault → IsRefusedFor (checked_faults heap f given marks) fault
  size_refused fault first =
      let here : IsFirst own fault = subst (λ l. IsFirst l fault) sizes_are first in
      refused_first (checked_faults heap f given marks) fault
      (first-part (((own ++ marked) ++ others) ++ targets) last fault
      (first-part ((own ++ marked) ++ others) targets fault (first-part (own ++ marked) others fault (first-part own marked fault here))))

  pub mark_refused : (fault : LayoutFault) → sizes ≡ [] → IsFirst marked fault → IsRefusedFor (checked_faults heap f given marks) fault
  mark_refused fault none first =
      refused_first (checked_faults heap f given marks) fault
      (subst (λ l. IsFirst ((((l ++ marked) ++ others) ++ targets) ++ last) fault) (sym none ∙ sizes_are)
      (first-part ((marked ++ others) ++ targets) last fault (first-part (marked ++ others) targets fault (first-part marked others fault first))))

  -- the bits say which marks are starts
  pub bits_are : (words bits : List ℕ) → AreMoved u journals (64 * length (pages_of f)) words bits → length bits ≡ length (pages_of f) → (i : ℕ) → is_start (object_starts u journals) i ≡ (ltb i (64 * length bits) && bit bits i)
  bits_are words bits moved long i =
      starts_are u journals (64 * length (pages_of f)) words bits moved (ap (λ n. 64 * n) pages_are) i ∙ ap (λ n. ltb i n && bit bits i) (ap (λ n. 64 * n) (sym long))

  -- the heap made of the moved words is the next heap
  pub made_next : (edition : Edition) (words bits lower : List ℕ) → edition ≡ edition_in f → AreMoved u journals (64 * length (pages_of f)) words bits → lower ≡ map (lowered edition) roots
      → record { edition = edition; words = words; marks = marks; roots = lower } ≡ next
  made_next edition words bits lower same moved roots_are =
      let w : words ≡ next.words = words_are u journals (64 * length (pages_of f)) words bits moved ∙ ap (λ n. map (next_word u journals) (range_with_len 0 (64 * n))) pages_are in
      ap (λ e. heap_of e marks words lower) (same ∙ e.finished.edition) ∙ ap₂ (heap_of heap.edition marks) w (roots_are ∙ ap (λ (own : Edition). map (lowered own) roots) (same ∙ e.finished.edition))

  pub faults_are : sizes ≡ [] → marked ≡ [] → faults next ≡ checked_faults heap f given marks
  faults_are none none_marked = same_faults u journals e.closed can roots marks (sym sizes_are ∙ none) none_marked

  pub accepted_is : (r : Result Heap LayoutFault) (made : Heap) → made ≡ next → sizes ≡ [] → marked ≡ [] → IfOk r (λ h. h ≡ made) → IfOk r IsAccepted → IfOk r (λ _. checked_faults heap f given marks ≡ [])
  accepted_is (Ok h) made is none none_marked same accepted = sym (faults_are none none_marked) ∙ subst (λ x. faults x ≡ []) (same ∙ is) accepted
  accepted_is (Err fault) made is none none_marked same accepted = tt
