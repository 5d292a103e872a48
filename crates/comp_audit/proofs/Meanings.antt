-- What the tests of entries mean for the cells: a journal without a fault is lawful, and its stamps rise.
use Rattle.std.proofs.Common.{◌≡◌, ℕ, ◌+◌, ◌-◌, ◌%◌, ◌⊎◌, inl, inr, Bool, true, false, eqb, ltb, leb, ◌&&◌, ◌||◌, List, [], ◌∷◌, ◌++◌, Option, Some, None, refl, sym, ap, ◌∙◌, arith}
use Rattle.std.proofs.lemmas.Bool.{le-leb, lt-ltb, leb-true, ltb-true, eqb-true, eq-eqb}
use Rattle.heap_layout.specs.Header.{header_of, size_of}
use Rattle.heap_layout.specs.Kinds.{refers}
use Rattle.heap_layout.specs.declared.kind.Kind.{Kind}
use Rattle.heap_layout.specs.declared.kind.Kind.TheVariants.{Header, Reference, Weak, Data}
use Rattle.comp_journal.specs.declared.entry.Entry.{Entry}
use Rattle.comp_history.specs.Lists.{Rises}
use Rattle.comp_history.specs.Setup.{Setup, pages}
use Rattle.comp_history.specs.Lawful.{filled, kind_at, Fits, IsField, LawfulAfter}
use Rattle.comp_dump.specs.declared.fault.AuditFault.{AuditFault}
use Rattle.comp_dump.specs.declared.fault.AuditFault.TheVariants.{BadEntry}
use Rattle.comp_audit.specs.Checks.{unless, entry_faults, fits, is_kind, is_fresh_of, some_refers}
use Rattle.comp_audit.specs.Faultless.{FaultlessIsLawful}

pub and_true : (a b : Bool) → (a && b) ≡ true → (a ≡ true) × (b ≡ true)
and_true true true h = (refl, refl)
and_true true false h = absurd cc
and_true false b h = absurd cc

pub true_and : (a b : Bool) → a ≡ true → b ≡ true → (a && b) ≡ true
true_and a b p q = rw (p, q) refl

pub left_holds : (a b : Bool) → a ≡ true → (a || b) ≡ true
left_holds a b e = rw e refl

pub right_holds : (a b : Bool) → b ≡ true → (a || b) ≡ true
right_holds true b e = refl
right_holds false b e = e

pub holds_or_not : (b : Bool) → (b ≡ true) ⊎ (b ≡ false)
holds_or_not true = inl refl
holds_or_not false = inr refl

-- a test that passes has no fault
pub holds : (b : Bool) (fault : AuditFault) → b ≡ true → unless b fault ≡ []
holds b fault e = rw e refl

pub refers_means : (o : Option Kind) → some_refers o ≡ true → (k : Kind) × (refers k ≡ true) × (o ≡ Some k)
refers_means None h = absurd cc
refers_means (Some k) h = (k, h, refl)

pub kind_means : (k : Kind) (o : Option Kind) → is_kind k o ≡ true → o ≡ Some k
kind_means Header (Some Header) h = refl
kind_means Reference (Some Reference) h = refl
kind_means Weak (Some Weak) h = refl
kind_means Data (Some Data) h = refl
kind_means k o h = absurd cc

pub kind_tested : (k : Kind) (o : Option Kind) → o ≡ Some k → is_kind k o ≡ true
kind_tested Header o e = rw e refl
kind_tested Reference o e = rw e refl
kind_tested Weak o e = rw e refl
kind_tested Data o e = rw e refl

field_means : (u : Setup) (p : ℕ) (before : List Entry) (k : Kind) (offset : ℕ) → (ltb offset 64 && is_kind k (kind_at u p before offset)) ≡ true → IsField u p before k offset
field_means u p before k offset h =
    let both = and_true (ltb offset 64) (is_kind k (kind_at u p before offset)) h in
    record { inside = ltb-true _ _ both.0; kind_is = kind_means k (kind_at u p before offset) both.1 }

field_tested : (u : Setup) (p : ℕ) (before : List Entry) (k : Kind) (offset : ℕ) → IsField u p before k offset → (ltb offset 64 && is_kind k (kind_at u p before offset)) ≡ true
field_tested u p before k offset is =
    true_and (ltb offset 64) (is_kind k (kind_at u p before offset)) (lt-ltb _ _ is.inside) (kind_tested k (kind_at u p before offset) is.kind_is)

-- an entry that passes its test may follow those before it
pub fits_means : (u : Setup) (p : ℕ) (before : List Entry) (k : Kind) (writer offset value : ℕ) → fits u p before k writer offset value ≡ true
    → Fits u p before k writer offset value
fits_means u p before Header writer offset value h =
    let at = eqb offset (filled u.heap.edition before) in
    let ends = leb (offset + size_of (header_of u.heap.edition value)) 64 in
    let a = and_true (is_fresh_of u writer p && at) ends h in
    let b = and_true (is_fresh_of u writer p) at a.0 in
    let c = and_true (leb u.compacted p && ltb p (pages u)) (eqb writer ((p - u.compacted) % u.mutators)) b.0 in
    let d = and_true (leb u.compacted p) (ltb p (pages u)) c.0 in
    let behind = leb-true _ _ d.0 in
    let below = ltb-true _ _ d.1 in
    record {
      page = (p - u.compacted, omega arith, omega arith, eqb-true _ _ c.1);
      offset_is = eqb-true _ _ b.1;
      ends = leb-true _ _ a.1;
    }
fits_means u p before Reference writer offset value h = field_means u p before Reference offset h
fits_means u p before Weak writer offset value h = field_means u p before Weak offset h
fits_means u p before Data writer offset value h = field_means u p before Data offset h

-- and one that may follow them passes
pub fits_tested : (u : Setup) (p : ℕ) (before : List Entry) (k : Kind) (writer offset value : ℕ) → Fits u p before k writer offset value
    → fits u p before k writer offset value ≡ true
fits_tested u p before Header writer offset value is =
    let j = is.page.0 in
    let number : p - u.compacted ≡ j = omega (arith, is.page.2) in
    let its : writer ≡ (p - u.compacted) % u.mutators = is.page.3 ∙ ap (λ (k : ℕ). k % u.mutators) (sym number) in
    let inside = true_and (leb u.compacted p) (ltb p (pages u)) (le-leb _ _ (omega (arith, is.page.2))) (lt-ltb _ _ (omega (arith, is.page.1, is.page.2))) in
    let own = true_and (leb u.compacted p && ltb p (pages u)) (eqb writer ((p - u.compacted) % u.mutators)) inside (eq-eqb _ _ its) in
    let there = true_and (is_fresh_of u writer p) (eqb offset (filled u.heap.edition before)) own (eq-eqb _ _ is.offset_is) in
    true_and (is_fresh_of u writer p && eqb offset (filled u.heap.edition before)) (leb (offset + size_of (header_of u.heap.edition value)) 64) there (le-leb _ _ is.ends)
fits_tested u p before Reference writer offset value is = field_tested u p before Reference offset is
fits_tested u p before Weak writer offset value is = field_tested u p before Weak offset is
fits_tested u p before Data writer offset value is = field_tested u p before Data offset is

unless_none : (b : Bool) (fault : AuditFault) (others : List AuditFault) → unless b fault ++ others ≡ [] → (b ≡ true) × (others ≡ [])
unless_none true fault others h = (refl, h)
unless_none false fault others h = absurd cc

none_unless : (b : Bool) (fault : AuditFault) (others : List AuditFault) → b ≡ true → others ≡ [] → unless b fault ++ others ≡ []
none_unless b fault others p q = rw (p, q) refl

lawful_from : (u : Setup) (p k low : ℕ) (before es : List Entry) → entry_faults u p k low before es ≡ [] → LawfulAfter u p before es × ((n : ℕ) × Rises low es n)
lawful_from u p k low before [] h = (tt, (low, omega arith))
lawful_from u p k low before (e ∷ es) h =
    let fit = fits u p before e.kind e.writer e.offset e.value in
    let one = unless_none (leb low e.stamp && fit) (BadEntry p k) (entry_faults u p (k + 1) (e.stamp + 1) (before ++ e ∷ []) es) h in
    let both = and_true (leb low e.stamp) fit one.0 in
    let others = lawful_from u p (k + 1) (e.stamp + 1) (before ++ e ∷ []) es one.1 in
    ((fits_means u p before e.kind e.writer e.offset e.value both.1, others.0), (others.1.0, (leb-true _ _ both.0, others.1.1)))

faultless : (u : Setup) (p k low n : ℕ) (before es : List Entry) → LawfulAfter u p before es → Rises low es n → entry_faults u p k low before es ≡ []
faultless u p k low n before [] lawful rises = refl
faultless u p k low n before (e ∷ es) lawful rises =
    none_unless (leb low e.stamp && fits u p before e.kind e.writer e.offset e.value) (BadEntry p k) (entry_faults u p (k + 1) (e.stamp + 1) (before ++ e ∷ []) es)
    (true_and (leb low e.stamp) (fits u p before e.kind e.writer e.offset e.value) (le-leb _ _ rises.0) (fits_tested u p before e.kind e.writer e.offset e.value lawful.0))
    (faultless u p (k + 1) (e.stamp + 1) n (before ++ e ∷ []) es lawful.1 rises.1)

pub faultless_is_lawful : FaultlessIsLawful
faultless_is_lawful u p journal = (lawful_from u p 0 0 [] journal, λ both. faultless u p 0 0 both.1.0 [] journal both.0 both.1.1)
