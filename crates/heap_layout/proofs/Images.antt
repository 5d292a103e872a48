-- Lemmas on the parts of an image that were read, and on what is refused after them.
use Rattle.std.proofs.Common.{◌≡◌, ℕ, Bool, ◌+◌, ◌*◌, ◌≤◌, inl, inr, List, [], ◌++◌, length, Option, None, Some, IfSome, refl, sym, ap, ◌∙◌, subst, arith, append_assoc, append-nil, length-append}
use Rattle.std.specs.Io.KnownBytes.{Consumes}
use Rattle.std.specs.List.{flat_map}
use Rattle.std.proofs.KnownBytes.{Consumes-trans}
use Rattle.heap_layout.specs.declared.edition.Edition.{Edition}
use Rattle.heap_layout.specs.Heap.{Heap, IsStored}
use Rattle.heap_layout.specs.Faults.{faults, IsFirst, IsAnswered}
use Rattle.heap_layout.specs.Encoding.{four_bytes, eight_bytes, preamble, counts, head, encoding, body_len, AreWithin, RefusesBy, RefusesCounts, RefusesParts, RefusesEnd, EndsBefore}
use Rattle.heap_layout.specs.declared.fault.LayoutFault.{LayoutFault}
use Rattle.heap_layout.specs.declared.fault.LayoutFault.TheVariants.{TooLarge, ObjectPastEnd, ObjectTooLong, MarkNotStart, MarksNotRising, BadRoot, UnmarkedTarget, BadWeak, Truncated, TrailingBytes, BadMagic, OutOfMemory, Device}
use Rattle.heap_layout.specs.Versions.{IsRead}
use Rattle.heap_layout.proofs.PartFaults.{IsOfPart, first_of_part}
use Rattle.heap_layout.proofs.Reading.{behind_read}

-- if the bytes after the magic and the version are refused as counts, the whole image is refused
refused_counts : (large : Bool) (edition : Edition) (rest : List ℕ) (fault : LayoutFault) → IsRead large edition → RefusesCounts edition fault rest → RefusesParts large fault (preamble edition ++ rest)
refused_counts large edition rest TooLarge read (words, marks, roots, over, (more, same, _)) = (
  edition,
  words,
  marks,
  roots,
  over,
  (more, ap (λ (bytes : List ℕ). preamble edition ++ bytes) same ∙ sym (append_assoc (preamble edition) (counts words marks roots) more), tt),
  read,
)
refused_counts large edition rest Truncated read short = inr (inr (inl (edition, (rest, refl, short), read)))
refused_counts large edition rest OutOfMemory read short = tt
refused_counts large edition rest Device read short = tt
refused_counts large edition rest _ read short = absurd short

-- the same for a reader that has read the magic and the version
pub ends_in_counts : (large : Bool) (a b : Option (List ℕ)) (edition : Edition) (fault : LayoutFault) → IsRead large edition → Consumes a b (preamble edition) → IfSome b (RefusesCounts edition fault) → IfSome a (RefusesParts large fault)
ends_in_counts large a b edition fault known read cut =
    behind_read a b (preamble edition) (RefusesCounts edition fault) (RefusesParts large fault) read cut (λ rest why. refused_counts large edition rest fault known why)

-- if the bytes end early among the numbers, after `front`, the whole image is refused
refused_in_body : (large : Bool) (edition : Edition) (words marks roots n : ℕ) (front rest : List ℕ) (fault : LayoutFault) → IsRead large edition → AreWithin edition words marks roots
    → length front + n ≤ body_len words marks roots → EndsBefore n fault rest
    → RefusesParts large fault (head edition words marks roots ++ front ++ rest)
refused_in_body large edition words marks roots n front rest Truncated known within room short =
    inr (inr (inr (edition, words, marks, roots, within, (front ++ rest, append_assoc (head edition words marks roots) front rest, simp length-append (omega arith)), known)))
refused_in_body large edition words marks roots n front rest OutOfMemory known within room short = tt
refused_in_body large edition words marks roots n front rest Device known within room short = tt
refused_in_body large edition words marks roots n front rest _ known within room short = absurd short

-- the same for a reader that has read the head and `front`
pub ends_in_body : (large : Bool) (a b : Option (List ℕ)) (edition : Edition) (words marks roots n : ℕ) (front all : List ℕ) (fault : LayoutFault)
    → IsRead large edition → all ≡ head edition words marks roots ++ front → Consumes a b all → AreWithin edition words marks roots
    → length front + n ≤ body_len words marks roots → IfSome b (EndsBefore n fault) → IfSome a (RefusesParts large fault)
ends_in_body large a b edition words marks roots n front all fault known same read within room cut =
    behind_read a b (head edition words marks roots ++ front) (EndsBefore n fault) (RefusesParts large fault) (subst (Consumes a b) same read) cut
    (λ rest short. refused_in_body large edition words marks roots n front rest fault known within room short)

-- the same for a reader that has read only the head
pub ends_in_words : (large : Bool) (start behind_magic behind_counts : Option (List ℕ)) (edition : Edition) (words marks roots : ℕ) (fault : LayoutFault) → IsRead large edition → Consumes start behind_magic (preamble edition)
    → Consumes behind_magic behind_counts (counts words marks roots) → AreWithin edition words marks roots
    → IfSome behind_counts (EndsBefore (8 * words) fault) → IfSome start (RefusesParts large fault)
ends_in_words large start behind_magic behind_counts edition words marks roots fault known magic_read counts_read within cut =
    let read = Consumes-trans start behind_magic behind_counts (preamble edition) (counts words marks roots) magic_read counts_read in
    let front = head edition words marks roots in
    ends_in_body large start behind_counts edition words marks roots (8 * words) [] front fault known (sym (append-nil front)) read within (omega arith) cut

-- if the bytes after an image are refused, the whole is refused
refused_end : (large : Bool) (heap : Heap) (rest : List ℕ) (fault : LayoutFault) → IsRead large heap.edition → IsStored heap
    → AreWithin heap.edition (length heap.words) (length heap.marks) (length heap.roots)
    → RefusesEnd fault rest → RefusesParts large fault (encoding heap ++ rest)
refused_end large heap rest TrailingBytes known stored within more = (heap, stored, within, (rest, refl, more), known)
refused_end large heap rest Device known stored within more = tt
refused_end large heap rest _ known stored within more = absurd more

-- the same for a reader that has read the image
pub more_behind : (large : Bool) (a b : Option (List ℕ)) (heap : Heap) (fault : LayoutFault) → IsRead large heap.edition → IsStored heap
    → AreWithin heap.edition (length heap.words) (length heap.marks) (length heap.roots)
    → Consumes a b (encoding heap) → IfSome b (RefusesEnd fault) → IfSome a (RefusesParts large fault)
more_behind large a b heap fault known stored within read cut =
    behind_read a b (encoding heap) (RefusesEnd fault) (RefusesParts large fault) read cut (λ rest more. refused_end large heap rest fault known stored within more)

-- if the parts of an image are refused, the image is
parts_refused : (large : Bool) (fault : LayoutFault) (bytes : List ℕ) → RefusesParts large fault bytes → RefusesBy large fault bytes
parts_refused large TooLarge bytes why = why
parts_refused large Truncated bytes why = why
parts_refused large TrailingBytes bytes why = why
parts_refused large BadMagic bytes why = why
parts_refused large OutOfMemory bytes why = tt
parts_refused large Device bytes why = tt
parts_refused large _ bytes why = absurd why

-- the image of a heap is refused for its first fault, if that is the fault of a part
refused_part : (large : Bool) (heap : Heap) (fault : LayoutFault) → IsRead large heap.edition → IsStored heap → IsOfPart fault → IsFirst (faults heap) fault → RefusesBy large fault (encoding heap)
refused_part large heap (ObjectPastEnd i) known stored part first = (heap, stored, refl, first, known)
refused_part large heap (ObjectTooLong i) known stored part first = (heap, stored, refl, first, known)
refused_part large heap (MarkNotStart i) known stored part first = (heap, stored, refl, first, known)
refused_part large heap (MarksNotRising i) known stored part first = (heap, stored, refl, first, known)
refused_part large heap (BadRoot k) known stored part first = (heap, stored, refl, first, known)
refused_part large heap (UnmarkedTarget i) known stored part first = (heap, stored, refl, first, known)
refused_part large heap (BadWeak i) known stored part first = (heap, stored, refl, first, known)
refused_part large heap _ known stored part first = absurd part

-- the image of a heap within the limits is refused for the first fault of the heap, or for want of memory
refused_heap : (large : Bool) (heap : Heap) (fault : LayoutFault) → IsRead large heap.edition → IsStored heap
    → AreWithin heap.edition (length heap.words) (length heap.marks) (length heap.roots)
    → IsAnswered (faults heap) fault → RefusesBy large fault (encoding heap)
refused_heap large heap fault known stored within (inl first) = refused_part large heap fault known stored (first_of_part heap fault within first) first
refused_heap large heap fault known stored within (inr memory) = subst (λ (f : LayoutFault). RefusesBy large f (encoding heap)) (sym memory.0) tt

-- the same by the bytes of a reader, if they are known
pub refused_as_parts : (large : Bool) (a : Option (List ℕ)) (fault : LayoutFault) → IfSome a (RefusesParts large fault) → IfSome a (RefusesBy large fault)
refused_as_parts large None fault why = tt
refused_as_parts large (Some bytes) fault why = parts_refused large fault bytes why

pub same_image : (a : Option (List ℕ)) (heap made : Heap) → IfSome a (λ bytes. bytes ≡ encoding heap) → made ≡ heap → IfSome a (λ bytes. bytes ≡ encoding made)
same_image None heap made image same = tt
same_image (Some bytes) heap made image same = image ∙ ap encoding (sym same)

pub refused_as_heap : (large : Bool) (a : Option (List ℕ)) (heap : Heap) (fault : LayoutFault) → IfSome a (λ bytes. bytes ≡ encoding heap) → IsRead large heap.edition → IsStored heap
    → AreWithin heap.edition (length heap.words) (length heap.marks) (length heap.roots)
    → IsAnswered (faults heap) fault → IfSome a (RefusesBy large fault)
refused_as_heap large None heap fault image known stored within answered = tt
refused_as_heap large (Some bytes) heap fault image known stored within answered =
    subst (RefusesBy large fault) (sym image) (refused_heap large heap fault known stored within answered)

-- the head and the words were read
pub words_read : (start behind_magic behind_counts now : Option (List ℕ)) (edition : Edition) (words marks roots : ℕ) (numbers : List ℕ) → Consumes start behind_magic (preamble edition)
    → Consumes behind_magic behind_counts (counts words marks roots) → Consumes behind_counts now (flat_map eight_bytes numbers)
    → Consumes start now (head edition words marks roots ++ flat_map eight_bytes numbers)
words_read start behind_magic behind_counts now edition words marks roots numbers magic_read counts_read read =
    let head_read = Consumes-trans start behind_magic behind_counts (preamble edition) (counts words marks roots) magic_read counts_read in
    Consumes-trans start behind_counts now (head edition words marks roots) (flat_map eight_bytes numbers) head_read read

-- the five parts of an image were read one after the other, so the whole image was read
pub image_read : (start behind_magic behind_counts behind_words behind_marks now : Option (List ℕ)) (heap : Heap) (words marks roots : ℕ)
    → length heap.words ≡ words → length heap.marks ≡ marks → length heap.roots ≡ roots
    → Consumes start behind_magic (preamble heap.edition) → Consumes behind_magic behind_counts (counts words marks roots)
    → Consumes behind_counts behind_words (flat_map eight_bytes heap.words) → Consumes behind_words behind_marks (flat_map four_bytes heap.marks)
    → Consumes behind_marks now (flat_map eight_bytes heap.roots) → Consumes start now (encoding heap)
image_read start behind_magic behind_counts behind_words behind_marks now heap words marks roots is_words is_marks is_roots first second third fourth last =
    let of_words = flat_map eight_bytes heap.words in
    let of_marks = flat_map four_bytes heap.marks in
    let of_roots = flat_map eight_bytes heap.roots in
    let e = heap.edition in
    let same : head e words marks roots ≡ head e (length heap.words) (length heap.marks) (length heap.roots) =
    ap (λ (n : ℕ). head e n marks roots) (sym is_words)
    ∙ ap (λ (n : ℕ). head e (length heap.words) n roots) (sym is_marks)
    ∙ ap (λ (n : ℕ). head e (length heap.words) (length heap.marks) n) (sym is_roots) in
    let front = words_read start behind_magic behind_counts behind_words e words marks roots heap.words first second third in
    let both = Consumes-trans start behind_words behind_marks (head e words marks roots ++ of_words) of_marks front fourth in
    let all = Consumes-trans start behind_marks now (head e words marks roots ++ of_words ++ of_marks) of_roots both last in
    subst (Consumes start now) (ap (λ (bytes : List ℕ). bytes ++ of_words ++ of_marks ++ of_roots) same) all
