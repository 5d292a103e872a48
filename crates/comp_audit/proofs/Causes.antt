-- What entries make, entry by entry, and why one that writes no header does not fit.
use Rattle.std.proofs.Common.{◌≡◌, ◌≢◌, ◌∙◌, ℕ, suc, ◌+◌, ◌-◌, ◌<◌, ◌≤◌, Bool, false, ◌&&◌, List, [], ◌∷◌, ◌++◌, drop, get_or, length, zero, Option, Some, refl, sym, ap, arith}
use Rattle.std.specs.List.{slice_get}
use Rattle.std.proofs.Math.Seq.{drop-cons}
use Rattle.std.proofs.lemmas.Bool.{lt-ltb}
use Rattle.heap_layout.specs.Header.{header_of, size_of}
use Rattle.heap_layout.specs.declared.edition.Edition.{Edition}
use Rattle.heap_layout.specs.declared.kind.Kind.{Kind}
use Rattle.heap_layout.specs.declared.kind.Kind.TheVariants.{Header, Reference, Weak, Data}
use Rattle.comp_dump.specs.Entry.{Entry}
use Rattle.comp_dump.specs.Lawful.{kind_at, kinds_by, kinds_in, kinds_of_header}
use Rattle.comp_dump.specs.Setup.{Setup}
use Rattle.comp_dump.proofs.Heads.{get_behind, kinds_long}
use Rattle.comp_audit.specs.Checks.{fits, is_kind}
use Rattle.comp_audit.specs.EntryCauses.{IsCauseFor}
use Rattle.comp_audit.specs.declared.explanation.EntryCause.TheVariants.{OtherWord}

-- the kinds of the entries from entry i on
kinds_from : (edition : Edition) (journal : List Entry) (i : ℕ) (d e : Entry) → i < length journal → e ≡ get_or journal i d
    → kinds_in edition (drop i journal) ≡ kinds_by edition e.kind e.value ++ kinds_in edition (drop (i + 1) journal)
kinds_from edition journal i d e inside is =
    let next : i + 1 ≡ suc i = omega arith in
    ap (kinds_in edition) (drop-cons journal i d inside)
    ∙ ap (λ (x : Entry). kinds_in edition (x ∷ drop (suc i) journal)) (sym is)
    ∙ ap (λ (k : ℕ). kinds_by edition e.kind e.value ++ kinds_in edition (drop k journal)) (sym next)

-- an entry that makes words makes those of its header
pub header_kinds : (edition : Edition) (kind : Kind) (value n : ℕ) → n < length (kinds_by edition kind value) → kinds_by edition kind value ≡ kinds_of_header (header_of edition value)
header_kinds edition Header value n lt = refl
header_kinds edition Reference value n lt = absurd (omega (arith, lt))
header_kinds edition Weak value n lt = absurd (omega (arith, lt))
header_kinds edition Data value n lt = absurd (omega (arith, lt))

pub header_long : (edition : Edition) (kind : Kind) (value n : ℕ) → n < length (kinds_by edition kind value) → n < size_of (header_of edition value)
header_long edition kind value n lt = omega (arith, lt, ap length (header_kinds edition kind value n lt), kinds_long (header_of edition value))

-- an element of a list stays where it is if others come after it
pub front : {X : Type 0} (xs ys : List X) (n : ℕ) (x : X) → slice_get xs n ≡ Some x → slice_get (xs ++ ys) n ≡ Some x
front [] ys n x e = absurd (cc)
front (y ∷ xs) ys zero x e = e
front (y ∷ xs) ys (suc n) x e = front xs ys n x e

-- the word is one of this entry's
pub kind_here : (edition : Edition) (journal : List Entry) (i : ℕ) (d e : Entry) (left : ℕ) (k : Kind) → i < length journal → e ≡ get_or journal i d
    → left < length (kinds_by edition e.kind e.value) → slice_get (kinds_of_header (header_of edition e.value)) left ≡ Some k
    → slice_get (kinds_in edition (drop i journal)) left ≡ Some k
kind_here edition journal i d e left k inside is lt here =
    ap (λ (l : List Kind). slice_get l left) (kinds_from edition journal i d e inside is)
    ∙ front (kinds_by edition e.kind e.value) (kinds_in edition (drop (i + 1) journal)) left k
    (ap (λ (l : List Kind). slice_get l left) (header_kinds edition e.kind e.value left lt) ∙ here)

-- it is one of those after it
pub kind_later : (edition : Edition) (journal : List Entry) (i : ℕ) (d e : Entry) (left words : ℕ) → i < length journal → e ≡ get_or journal i d
    → words ≡ length (kinds_by edition e.kind e.value) → words ≤ left
    → slice_get (kinds_in edition (drop (i + 1) journal)) (left - words) ≡ slice_get (kinds_in edition (drop i journal)) left
kind_later edition journal i d e left words inside is long le =
    sym (ap (λ (l : List Kind). slice_get l left) (kinds_from edition journal i d e inside is)
    ∙ get_behind (kinds_by edition e.kind e.value) (kinds_in edition (drop (i + 1) journal)) (left - words) left (omega (arith, long, le)))

-- an entry that writes no header fits if the word at its offset is of its kind
pub fits_field : (u : Setup) (p : ℕ) (before : List Entry) (k : Kind) (writer offset value : ℕ) (found : Option Kind) → k ≢ Header → offset < 64
    → found ≡ kind_at u p before offset → fits u p before k writer offset value ≡ is_kind k found
fits_field u p before Header writer offset value found ne lt at = absurd (ne refl)
fits_field u p before Reference writer offset value found ne lt at = ap (λ (b : Bool). b && is_kind Reference (kind_at u p before offset)) (lt-ltb offset 64 lt) ∙ ap (is_kind Reference) (sym at)
fits_field u p before Weak writer offset value found ne lt at = ap (λ (b : Bool). b && is_kind Weak (kind_at u p before offset)) (lt-ltb offset 64 lt) ∙ ap (is_kind Weak) (sym at)
fits_field u p before Data writer offset value found ne lt at = ap (λ (b : Bool). b && is_kind Data (kind_at u p before offset)) (lt-ltb offset 64 lt) ∙ ap (is_kind Data) (sym at)

-- and if not, that word is the cause
pub field_cause : (u : Setup) (p : ℕ) (before : List Entry) (k : Kind) (e : Entry) (found : Option Kind) → k ≢ Header → found ≡ kind_at u p before e.offset
    → is_kind e.kind found ≡ false → IsCauseFor k u p before e (OtherWord found)
field_cause u p before Header e found ne at other = absurd (ne refl)
field_cause u p before Reference e found ne at other = (at, other)
field_cause u p before Weak e found ne at other = (at, other)
field_cause u p before Data e found ne at other = (at, other)
