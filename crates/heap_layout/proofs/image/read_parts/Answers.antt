use Rattle.std.proofs.Common.{◌≡◌, List, ◌++◌, length, ℕ, refl, ◌∙◌, arith, append_assoc, length-append}
use Rattle.std.proofs.lemmas.Result.{err_from_is_err_and}
use Rattle.std.proofs.KnownBytes.{Consumes-trans, Consumes-whole}
use Rattle.std.specs.List.{flat_map}
use Rattle.heap_layout.specs.Heap.{Heap, IsStored}
use Rattle.heap_layout.specs.Encoding.{four_bytes, eight_bytes, head, encoding, AreWithin}
use Rattle.heap_layout.proofs.Numbers.{length-pieces}
use Rattle.heap_layout.proofs.Reading.{handed_on, failure_handed_on}
use Rattle.heap_layout.proofs.Images.{ends_in_counts, ends_in_words, ends_in_body, more_behind, words_read, image_read}
use Rattle.heap_layout.proofs.image.read_parts.Goals as goal

pub returns-in_err-edition-clause-cause : goal.returns-in_err-edition-clause-cause
returns-in_err-edition-clause-cause g c =
    handed_on _ _ _ c.from_residual.ensures.1
    c.in_err-edition.ensures.cause

pub returns-in_err-edition-clause-counts : goal.returns-in_err-edition-clause-counts
returns-in_err-edition-clause-counts g c =
    failure_handed_on _ _ _ _ _ c.from_residual.ensures.1
    refl
    c.in_err-edition.ensures.counts

pub returns-in_err-counts-clause-cause : goal.returns-in_err-counts-clause-cause
returns-in_err-counts-clause-cause g c =
    handed_on _ _ _ c.from_residual-in_err-counts.ensures.1
    (ends_in_counts c.args.large _ _ c.in_ok-edition.edition _ c.in_ok-edition.ensures.edition c.in_ok-edition.ensures.read c.in_err-counts.ensures.cause)

pub returns-in_err-counts-clause-counts : goal.returns-in_err-counts-clause-counts
returns-in_err-counts-clause-counts g c =
    failure_handed_on _ _ _ _ _ c.from_residual-in_err-counts.ensures.1
    (c.in_ok-edition.ensures.counts)
    c.in_err-counts.ensures.counts

pub returns-in_err-words-clause-cause : goal.returns-in_err-words-clause-cause
returns-in_err-words-clause-cause g c =
    handed_on _ _ _ c.from_residual-in_err-words.ensures.1
    (ends_in_words c.args.large _ _ _ c.in_ok-edition.edition c.in_ok-counts.counts.words c.in_ok-counts.counts.marks c.in_ok-counts.counts.roots _ c.in_ok-edition.ensures.edition
    c.in_ok-edition.ensures.read c.in_ok-counts.ensures.read c.in_ok-counts.ensures.within c.in_err-words.ensures.cut)

pub returns-in_err-words-clause-counts : goal.returns-in_err-words-clause-counts
returns-in_err-words-clause-counts g c =
    failure_handed_on _ _ _ _ _ c.from_residual-in_err-words.ensures.1
    (c.in_ok-counts.ensures.counts ∙ c.in_ok-edition.ensures.counts)
    c.in_err-words.ensures.counts

pub returns-in_err-marks-clause-cause : goal.returns-in_err-marks-clause-cause
returns-in_err-marks-clause-cause g c =
    let p = err_from_is_err_and c.from_residual-in_err-marks.result c.from_residual-in_err-marks.ensures.1 in
    let counts = c.in_ok-counts.counts in
    let words = c.in_ok-words.words.items in
    let of_words = flat_map eight_bytes words in
    let read = words_read _ _ _ _ c.in_ok-edition.edition counts.words counts.marks counts.roots words
    c.in_ok-edition.ensures.read c.in_ok-counts.ensures.read c.in_ok-words.ensures.read in
    let long = length-pieces eight_bytes 8 (λ _. refl) words in
    let many = c.in_ok-words.ensures.long in
    rw (p.1, p.2)
    (ends_in_body c.args.large _ _ c.in_ok-edition.edition counts.words counts.marks counts.roots _ of_words _ _ c.in_ok-edition.ensures.edition refl read c.in_ok-counts.ensures.within (omega arith)
    c.in_err-marks.ensures.cut)

pub returns-in_err-marks-clause-counts : goal.returns-in_err-marks-clause-counts
returns-in_err-marks-clause-counts g c =
    failure_handed_on _ _ _ _ _ c.from_residual-in_err-marks.ensures.1
    (c.in_ok-words.ensures.counts ∙ c.in_ok-counts.ensures.counts ∙ c.in_ok-edition.ensures.counts)
    c.in_err-marks.ensures.counts

pub returns-in_err-roots-clause-cause : goal.returns-in_err-roots-clause-cause
returns-in_err-roots-clause-cause g c =
    let p = err_from_is_err_and c.from_residual-in_err-roots.result c.from_residual-in_err-roots.ensures.1 in
    let counts = c.in_ok-counts.counts in
    let words = c.in_ok-words.words.items in
    let marks = c.in_ok-marks.marks.items in
    let of_words = flat_map eight_bytes words in
    let of_marks = flat_map four_bytes marks in
    let front = head c.in_ok-edition.edition counts.words counts.marks counts.roots in
    let front_read = words_read _ _ _ _ c.in_ok-edition.edition counts.words counts.marks counts.roots words
    c.in_ok-edition.ensures.read c.in_ok-counts.ensures.read c.in_ok-words.ensures.read in
    let read = Consumes-trans _ _ _ (front ++ of_words) of_marks front_read c.in_ok-marks.ensures.read in
    let long_words = length-pieces eight_bytes 8 (λ _. refl) words in
    let long_marks = length-pieces four_bytes 4 (λ _. refl) marks in
    let many_words = c.in_ok-words.ensures.long in
    let many_marks = c.in_ok-marks.ensures.long in
    let room = length-append of_words of_marks in
    rw (p.1, p.2)
    (ends_in_body c.args.large _ _ c.in_ok-edition.edition counts.words counts.marks counts.roots _ (of_words ++ of_marks) _ _ c.in_ok-edition.ensures.edition (append_assoc front of_words of_marks) read
    c.in_ok-counts.ensures.within (omega arith) c.in_err-roots.ensures.cut)

pub returns-in_err-roots-clause-counts : goal.returns-in_err-roots-clause-counts
returns-in_err-roots-clause-counts g c =
    failure_handed_on _ _ _ _ _ c.from_residual-in_err-roots.ensures.1
    (c.in_ok-marks.ensures.counts ∙ c.in_ok-words.ensures.counts ∙ c.in_ok-counts.ensures.counts ∙ c.in_ok-edition.ensures.counts)
    c.in_err-roots.ensures.counts

pub returns-in_err-expect_end-clause-cause : goal.returns-in_err-expect_end-clause-cause
returns-in_err-expect_end-clause-cause g c =
    let p = err_from_is_err_and c.from_residual-in_err-expect_end.result c.from_residual-in_err-expect_end.ensures.1 in
    let counts = c.in_ok-counts.counts in
    let heap : Heap = record { edition = c.in_ok-edition.edition; words = c.in_ok-words.words.items; marks = c.in_ok-marks.marks.items; roots = c.in_ok-roots.roots.items } in
    let read = image_read _ _ _ _ _ _ heap counts.words counts.marks counts.roots
    c.in_ok-words.ensures.long c.in_ok-marks.ensures.long c.in_ok-roots.ensures.long
    c.in_ok-edition.ensures.read c.in_ok-counts.ensures.read c.in_ok-words.ensures.read c.in_ok-marks.ensures.read c.in_ok-roots.ensures.read in
    let stored : IsStored heap =
    record { words = c.in_ok-words.ensures.small; marks = c.in_ok-marks.ensures.small; roots = c.in_ok-roots.ensures.small } in
    let within : AreWithin heap.edition (length heap.words) (length heap.marks) (length heap.roots) =
    rw (c.in_ok-words.ensures.long, c.in_ok-marks.ensures.long, c.in_ok-roots.ensures.long) c.in_ok-counts.ensures.within in
    rw (p.1, p.2) (more_behind c.args.large _ _ heap _ c.in_ok-edition.ensures.edition stored within read c.in_err-expect_end.ensures.cause)

pub returns-in_err-expect_end-clause-counts : goal.returns-in_err-expect_end-clause-counts
returns-in_err-expect_end-clause-counts g c =
    failure_handed_on _ _ _ _ _ c.from_residual-in_err-expect_end.ensures.1
    (c.in_ok-roots.ensures.counts ∙ c.in_ok-marks.ensures.counts ∙ c.in_ok-words.ensures.counts ∙ c.in_ok-counts.ensures.counts ∙ c.in_ok-edition.ensures.counts)
    c.in_err-expect_end.ensures.counts

pub returns-clause-image : goal.returns-clause-image
returns-clause-image g c =
    let counts = c.in_ok-counts.counts in
    let heap : Heap = record { edition = c.in_ok-edition.edition; words = c.in_ok-words.words.items; marks = c.in_ok-marks.marks.items; roots = c.in_ok-roots.roots.items } in
    let read = image_read _ _ _ _ _ _ heap counts.words counts.marks counts.roots
    c.in_ok-words.ensures.long c.in_ok-marks.ensures.long c.in_ok-roots.ensures.long
    c.in_ok-edition.ensures.read c.in_ok-counts.ensures.read c.in_ok-words.ensures.read c.in_ok-marks.ensures.read c.in_ok-roots.ensures.read in
    Consumes-whole _ _ (encoding heap) (λ (bytes : List ℕ). bytes ≡ encoding heap) read c.in_ok-expect_end.ensures.end refl

pub returns-clause-within : goal.returns-clause-within
returns-clause-within g c = rw (c.in_ok-words.ensures.long, c.in_ok-marks.ensures.long, c.in_ok-roots.ensures.long) c.in_ok-counts.ensures.within

pub returns-clause-stored : goal.returns-clause-stored
returns-clause-stored g c = record { words = c.in_ok-words.ensures.small; marks = c.in_ok-marks.ensures.small; roots = c.in_ok-roots.ensures.small }

pub returns-clause-counts : goal.returns-clause-counts
returns-clause-counts g c =
    c.in_ok-expect_end.ensures.counts ∙ c.in_ok-roots.ensures.counts ∙ c.in_ok-marks.ensures.counts
    ∙ c.in_ok-words.ensures.counts ∙ c.in_ok-counts.ensures.counts ∙ c.in_ok-edition.ensures.counts
