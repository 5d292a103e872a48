-- Lemmas on what was read into a buffer, and on what is refused after it.
use Rattle.std.proofs.Common.{◌≡◌, ◌≢◌, ℕ, zero, suc, ◌+◌, ◌^◌, ◌<◌, ◌≤◌, ◌⊎◌, inl, inr, Bool, true, false, leb, List, [], ◌∷◌, ◌++◌, length, take, drop, get_or, Option, None, Some, IfSome, Result, Ok, Err, IfErr, refl, sym, ap, ◌∙◌, subst, arith, length-append}
use Rattle.std.proofs.lemmas.Bool.{leb-false}
use Rattle.std.proofs.lemmas.List.{take-append-le, length-take-le, take_at}
use Rattle.std.proofs.Math.Seq.{take-append-add}
use Rattle.std.specs.Result.{IsErrAnd}
use Rattle.std.specs.Io.KnownBytes.{Consumes}
use Rattle.heap_layout.specs.Counted.{CountsFailure}
use Rattle.heap_layout.specs.declared.edition.Edition.{Edition}
use Rattle.heap_layout.specs.Limits.{most_words, most_roots}
use Rattle.heap_layout.specs.Versions.{IsRead}
use Rattle.heap_layout.specs.Faults.{size_faults, unless, IsFirst}
use Rattle.heap_layout.specs.Encoding.{magic, version, counts, IsOver, RefusesParts, RefusesCounts, EndsBefore}
use Rattle.heap_layout.specs.declared.fault.LayoutFault.{LayoutFault}
use Rattle.heap_layout.specs.declared.fault.LayoutFault.TheVariants.{TooLarge, BadMagic, Truncated, OutOfMemory, Device}
use borrow.Rule.Slice.PartMut.{put_mid, post_of}

-- a buffer was filled up to a, and then n more bytes were read into it
pub take_filled : (a k n : ℕ) (xs ys : List ℕ) → a ≤ length xs → n ≤ length ys → take (a + n) (put_mid a k xs ys) ≡ take a xs ++ take n ys
take_filled a k n xs ys h m =
    let front = take a xs in
    let rest = ys ++ post_of a k xs in
    ap (λ (at : ℕ). take (at + n) (front ++ rest)) (sym (length-take-le a xs h))
    ∙ take-append-add front rest n
    ∙ ap (λ (part : List ℕ). front ++ part) (take-append-le n ys (post_of a k xs) m)

-- if P holds for the bytes after those that were read, Q holds for all bytes
pub behind_read : (a b : Option (List ℕ)) (front : List ℕ) (P Q : List ℕ → Type 0) → Consumes a b front → IfSome b P
    → ((rest : List ℕ) → P rest → Q (front ++ rest)) → IfSome a Q
behind_read None b front P Q read rest f = tt
behind_read (Some xs) None front P Q read rest f = absurd read
behind_read (Some xs) (Some ys) front P Q read rest f = subst Q (sym read) (f ys rest)

-- what holds for all bytes that begin with those that were read
pub with_front : (a b : Option (List ℕ)) (front : List ℕ) (Q : List ℕ → Type 0) → Consumes a b front → ((rest : List ℕ) → Q (front ++ rest)) → IfSome a Q
with_front None b front Q read f = tt
with_front (Some xs) None front Q read f = absurd read
with_front (Some xs) (Some ys) front Q read f = subst Q (sym read) (f ys)

-- the bytes end within the magic
pub cut_in_magic : (large : Bool) (a : Option (List ℕ)) (fault : LayoutFault) → IfSome a (EndsBefore 8 fault) → IfSome a (RefusesParts large fault)
cut_in_magic large None fault cut = tt
cut_in_magic large (Some bytes) Truncated cut = inl cut
cut_in_magic large (Some bytes) OutOfMemory cut = tt
cut_in_magic large (Some bytes) Device cut = tt
cut_in_magic large (Some bytes) _ cut = absurd cut

-- the bytes end within the version, after the magic
ends_in_version : (large : Bool) (rest : List ℕ) (fault : LayoutFault) → EndsBefore 4 fault rest → RefusesParts large fault (magic ++ rest)
ends_in_version large rest Truncated short = inr (inl (rest, refl, short))
ends_in_version large rest OutOfMemory short = tt
ends_in_version large rest Device short = tt
ends_in_version large rest _ short = absurd short

-- the same for a reader that has read the magic
pub cut_in_version : (large : Bool) (a b : Option (List ℕ)) (fault : LayoutFault) → Consumes a b magic → IfSome b (EndsBefore 4 fault) → IfSome a (RefusesParts large fault)
cut_in_version large a b fault read cut = behind_read a b magic (EndsBefore 4 fault) (RefusesParts large fault) read cut (λ rest short. ends_in_version large rest fault short)

-- 8 bytes were read that are not the magic
pub other_magic : (large : Bool) (a b : Option (List ℕ)) (front : List ℕ) → Consumes a b front → length front ≡ 8 → front ≢ magic → IfSome a (RefusesParts large BadMagic)
other_magic large a b front read long other =
    with_front a b front (RefusesParts large BadMagic) read
    (λ rest. inl (simp length-append (omega arith), λ same. other (sym (take_at front rest 8 long) ∙ same)))

-- the magic was read, and then 4 bytes that are no version
pub other_version : (large : Bool) (a b c : Option (List ℕ)) (front : List ℕ) → Consumes a b magic → Consumes b c front
    → length front ≡ 4 → ((edition : Edition) → IsRead large edition → front ≢ version edition) → IfSome a (RefusesParts large BadMagic)
other_version large a b c front first read long other =
    let P : List ℕ → Type 0 = λ rest. (4 ≤ length rest) × ((edition : Edition) → IsRead large edition → take 4 rest ≢ version edition) in
    behind_read a b magic P (RefusesParts large BadMagic) first
    (with_front b c front P read (λ rest. (simp length-append (omega arith), λ edition read same. other edition read (sym (take_at front rest 4 long) ∙ same))))
    (λ rest is. inr (rest, refl, is))

-- three counts were read, and one of them is above its limit
pub over_limit : (a b : Option (List ℕ)) (edition : Edition) (words marks roots : ℕ) → Consumes a b (counts words marks roots)
    → IsOver edition words marks roots → IfSome a (RefusesCounts edition TooLarge)
over_limit a b edition words marks roots read over =
    with_front a b (counts words marks roots) (RefusesCounts edition TooLarge) read (λ rest. (words, marks, roots, over, (rest, refl, tt)))

-- the first fault of the three size tests is that of a test that failed
first_of_sizes : (words marks roots : Bool) (fault : LayoutFault)
    → IsFirst (unless words TooLarge ++ unless marks TooLarge ++ unless roots TooLarge) fault → (fault ≡ TooLarge) × ((words ≡ false) ⊎ (marks ≡ false) ⊎ (roots ≡ false))
first_of_sizes false marks roots fault first = (first, inl refl)
first_of_sizes true false roots fault first = (first, inr (inl refl))
first_of_sizes true true false fault first = (first, inr (inr refl))
first_of_sizes true true true fault first = absurd first

-- if the sizes have a fault, one of them is above its limit
pub size_fault : (edition : Edition) (words marks roots : ℕ) (fault : LayoutFault) → IsFirst (size_faults edition words marks roots) fault
    → (fault ≡ TooLarge) × ((most_words edition < words) ⊎ (most_words edition < marks) ⊎ (most_roots edition < roots))
size_fault edition words marks roots fault first =
    let most = most_words edition in
    let found = first_of_sizes (leb words most) (leb marks most) (leb roots (most_roots edition)) fault first in (
      found.0,
      elim found.1 [
        | inl w ↦ inl (leb-false words most w)
        | inr rest ↦ elim rest [ inl m ↦ inr (inl (leb-false marks most m)) | inr r ↦ inr (inr (leb-false roots (most_roots edition) r)) ]
      ],
    )

-- what ends before m more bytes after a front ends before n bytes, if the front and m have at most n bytes
ends_later : (m n : ℕ) (front rest : List ℕ) (fault : LayoutFault) → length front + m ≤ n → EndsBefore m fault rest → EndsBefore n fault (front ++ rest)
ends_later m n front rest Truncated h short = simp length-append (omega arith)
ends_later m n front rest OutOfMemory h short = tt
ends_later m n front rest Device h short = tt
ends_later m n front rest _ h short = absurd short

-- what ends early after the bytes that were read ends early as a whole
pub ends_behind : (a b : Option (List ℕ)) (front : List ℕ) (m n : ℕ) (fault : LayoutFault) → Consumes a b front → length front + m ≤ n
    → IfSome b (EndsBefore m fault) → IfSome a (EndsBefore n fault)
ends_behind a b front m n fault read h cut =
    behind_read a b front (EndsBefore m fault) (EndsBefore n fault) read cut (λ rest short. ends_later m n front rest fault h short)

-- running out of memory does not depend on the bytes
pub cut_for_memory : (a : Option (List ℕ)) (n : ℕ) → IfSome a (EndsBefore n OutOfMemory)
cut_for_memory None n = tt
cut_for_memory (Some bytes) n = tt

-- a call counts as failed since the start, if none had failed before it
pub failed_since : (start before after : ℕ) (fault : LayoutFault) → before ≡ start → CountsFailure {T = Unit {0}} before after (Err fault)
    → CountsFailure {T = Unit {0}} start after (Err fault)
failed_since start before after fault same = subst (λ (failures : ℕ). CountsFailure {T = Unit {0}} failures after (Err fault)) same

-- what holds for a fault holds for the answer that hands it on
pub handed_on : {T : Type 0} (r : Result T LayoutFault) (Q : LayoutFault → Type 0) (fault : LayoutFault) → IsErrAnd r (λ reported. reported ≡ fault) → Q fault → IfErr r Q
handed_on (Ok x) Q fault reported q = absurd reported
handed_on (Err y) Q fault reported q = subst Q (sym reported) q

-- a failure that is handed on counts since the start, if none had failed before
pub failure_handed_on : {T : Type 0} (r : Result T LayoutFault) (start before after : ℕ) (fault : LayoutFault) → IsErrAnd r (λ reported. reported ≡ fault)
    → before ≡ start → CountsFailure {T = Unit {0}} before after (Err fault) → CountsFailure start after r
failure_handed_on (Ok x) start before after fault reported same counted = absurd reported
failure_handed_on (Err y) start before after fault reported same counted =
    subst (λ (cause : LayoutFault). CountsFailure {T = Unit {0}} start after (Err cause)) (sym reported) (failed_since start before after fault same counted)

-- bytes stay bytes if some are taken or dropped
nothing_small : (i : ℕ) → get_or [] i 0 < 2 ^ 8
nothing_small zero = omega arith
nothing_small (suc i) = omega arith

pub small_take : (n : ℕ) (xs : List ℕ) → ((i : ℕ) → get_or xs i 0 < 2 ^ 8) → (i : ℕ) → get_or (take n xs) i 0 < 2 ^ 8
small_take zero xs h i = nothing_small i
small_take (suc n) [] h i = nothing_small i
small_take (suc n) (x ∷ xs) h zero = h zero
small_take (suc n) (x ∷ xs) h (suc i) = small_take n xs (λ j. h (suc j)) i

pub small_drop : (n : ℕ) (xs : List ℕ) → ((i : ℕ) → get_or xs i 0 < 2 ^ 8) → (i : ℕ) → get_or (drop n xs) i 0 < 2 ^ 8
small_drop zero xs h i = h i
small_drop (suc n) [] h i = nothing_small i
small_drop (suc n) (x ∷ xs) h i = small_drop n xs (λ j. h (suc j)) i
