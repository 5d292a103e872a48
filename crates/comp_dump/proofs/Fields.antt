-- Lemmas on the numbers of a dump: how they are read, and why they are not.
use Rattle.std.proofs.Common.{◌≡◌, ◌≢◌, ℕ, ◌-◌, ◌^◌, ◌<◌, ◌≤◌, ◌⊎◌, inl, inr, ◌==◌, Bool, true, false, ltb, ◌||◌, ◌&&◌, List, [], ◌∷◌, ◌++◌, length, slice_index, drop, Option, Some, None, IfSome, Err, refl, sym, ap, subst, ◌∙◌, arith, ne_eqb, length-append, All}
use Rattle.std.specs.Io.KnownBytes.{Consumes}
use Rattle.std.proofs.lemmas.Bool.{le-ltb, lt-ltb}
use Rattle.std.proofs.lemmas.List.{drop_at}
use Rattle.std.proofs.lemmas.Nat.{le_bytes_4, le_bytes_8}
use Rattle.byteorder.specs.Endian.{little_number, little_bytes}
use Rattle.byteorder.specs.Numbers.{little_number-reads_back, length-bytes_low_first, little_from-append}
use Rattle.heap_layout.specs.declared.edition.Edition.{Edition}
use Rattle.heap_layout.specs.declared.edition.Edition.TheVariants.{One, Two, Three, Four}
use Rattle.heap_layout.specs.declared.kind.Kind.{Kind}
use Rattle.heap_layout.specs.declared.kind.Kind.TheVariants.{Header, Reference, Weak, Data}
use Rattle.comp_journal.specs.declared.entry.Entry.{Entry}
use Rattle.comp_dump.specs.Dumped.{BuiltPage, IsStoredEntry, IsStoredPage, IsStoredRecord, IsStoredList}
use Rattle.heap_layout.specs.Versions.{version_of, IsRead}
use Rattle.comp_dump.specs.Codes.{kind_code, last_code}
use Rattle.comp_dump.specs.DumpEncoding.{one_byte, four_bytes, eight_bytes, entry_bytes, built_bytes, page_bytes, builds_bytes}
use Rattle.comp_dump.specs.declared.fault.DumpFault.{DumpFault}
use Rattle.comp_dump.specs.declared.fault.DumpFault.TheVariants.{Truncated, BadMagic, BadField, Device}
use Rattle.comp_dump.specs.DumpReading as reading
use Rattle.comp_dump.specs.DumpReading.{number, word, kind, kind_of, entry, built, page, page_behind, builds, EndsBefore, Fails, Stops}
use Rattle.comp_dump.proofs.Readings.{Spells, AllSpell, all_spell, spells_then, spells_last, spells_done, spells_times}

-- the bytes end in the number
ends_short : (width low high : ℕ) (bytes : List ℕ) (fault : DumpFault) → EndsBefore width fault bytes → Fails fault (number width low high bytes)
unfolding number
ends_short width low high bytes Truncated h = rw (lt-ltb _ _ h) refl
ends_short width low high bytes Device h = tt
ends_short width low high bytes _ h = absurd h

pub stops_short : (width low high : ℕ) (a : Option (List ℕ)) (fault : DumpFault) → IfSome a (EndsBefore width fault) → Stops (number width low high) a fault
stops_short width low high None fault h = tt
stops_short width low high (Some bytes) fault h = ends_short width low high bytes fault h

either_true : (p q : Bool) → (p ≡ true) ⊎ (q ≡ true) → (p || q) ≡ true
either_true true q h = refl
either_true false q (inl h) = absurd cc
either_true false q (inr h) = h

-- the bytes begin with a number that is outside the range
outside : (width low high : ℕ) (front rest : List ℕ) → length front ≡ width → (little_number width front < low) ⊎ (high < little_number width front)
    → number width low high (front ++ rest) ≡ Err BadField
unfolding number
outside width low high front rest long off =
    let whole : ltb (length (front ++ rest)) width ≡ false = le-ltb _ _ (omega (arith, length-append front rest)) in
    let same : little_number width (front ++ rest) ≡ little_number width front = little_from-append width front rest (omega arith) in
    let test : (ltb (little_number width front) low || ltb high (little_number width front)) ≡ true =
    either_true _ _ (elim off [ inl h ↦ inl (lt-ltb _ _ h) | inr h ↦ inr (lt-ltb _ _ h) ]) in
    rw (whole, same, test) refl

pub stops_outside : (width low high n : ℕ) (a b : Option (List ℕ)) (front : List ℕ) → Consumes a b front → length front ≡ width
    → n ≡ little_number width front → (n < low) ⊎ (high < n) → Stops (number width low high) a BadField
stops_outside width low high n None b front read long is off = tt
stops_outside width low high n (Some xs) None front read long is off = absurd read
stops_outside width low high n (Some xs) (Some ys) front read long is off =
    ap (number width low high) read ∙ outside width low high front ys long (subst (λ (k : ℕ). (k < low) ⊎ (high < k)) is off)

-- a number within the range is read again
pub spells_number : (width low high n : ℕ) → n < 256 ^ width → low ≤ n → n ≤ high → Spells (number width low high) (little_bytes width n) n
unfolding number
spells_number width low high n fits above below = record {
  again = λ rest.
      let front = little_bytes width n in
      let long : length front ≡ width = length-bytes_low_first 0 width n in
      let whole : ltb (length (front ++ rest)) width ≡ false = le-ltb _ _ (omega (arith, length-append front rest)) in
      let same : little_number width (front ++ rest) ≡ n = little_number-reads_back width n rest fits in
      let p : ltb n low ≡ false = le-ltb _ _ above in
      let q : ltb high n ≡ false = le-ltb _ _ below in
      let behind : drop width (front ++ rest) ≡ rest = drop_at front rest width long in
      rw (whole, same, p, q, behind) refl;
}

pub spells_word : (n : ℕ) → n < 2 ^ 64 → Spells word (little_bytes 8 n) n
spells_word n h = spells_number 8 0 (2 ^ 64 - 1) n h (omega arith) (omega arith)

-- the bytes that were read are those of the number that they make
pub four_read : (bytes : List ℕ) (n : ℕ) → ((i : ℕ) → slice_index bytes i < 256) → length bytes ≡ 4 → n ≡ little_number 4 bytes → little_bytes 4 n ≡ bytes
four_read bytes n small long is = le_bytes_4 bytes n long small (omega (arith, is))

pub eight_read : (bytes : List ℕ) (n : ℕ) → ((i : ℕ) → slice_index bytes i < 256) → length bytes ≡ 8 → n ≡ little_number 8 bytes → little_bytes 8 n ≡ bytes
eight_read bytes n small long is = le_bytes_8 bytes n long small (omega (arith, is))

pub one_read : (bytes : List ℕ) (n : ℕ) → ((i : ℕ) → slice_index bytes i < 256) → length bytes ≡ 1 → n ≡ slice_index bytes 0 → little_bytes 1 n ≡ bytes
one_read [] n small long is = absurd (omega arith)
one_read (b ∷ []) n small long is = ap (λ (k : ℕ). k ∷ []) (omega (arith, is, small 0))
one_read (b ∷ c ∷ bytes) n small long is = absurd (omega arith)

pub spells_small : (high n : ℕ) → n < 256 → n ≤ high → Spells (number 1 0 high) (one_byte n) n
spells_small high n small below = spells_number 1 0 high n small (omega arith) below

spells_code : (edition : Edition) (n : ℕ) (k : Kind) → n < 256 → n ≤ last_code edition → kind_of n ≡ k → Spells (kind edition) (one_byte n) k
unfolding kind
spells_code edition n k fits below is = spells_last _ _ _ _ _ (spells_small (last_code edition) n fits below) is

pub spells_kind : (edition : Edition) (k : Kind) → kind_code k ≤ last_code edition → Spells (kind edition) (one_byte (kind_code k)) k
spells_kind edition Header h = spells_code edition 0 Header (omega arith) h refl
spells_kind edition Reference h = spells_code edition 1 Reference (omega arith) h refl
spells_kind edition Data h = spells_code edition 2 Data (omega arith) h refl
spells_kind edition Weak h = spells_code edition 3 Weak (omega arith) h refl

-- the version is read again
pub spells_edition : (large : Bool) (e : Edition) → IsRead large e → Spells (reading.edition large) (four_bytes (version_of e)) e
unfolding reading.edition
spells_edition large One known = record {
  again = λ rest.
      let front = four_bytes (version_of One) in
      let whole : ltb (length (front ++ rest)) 4 ≡ false = le-ltb _ _ (omega (arith, length-append front rest)) in
      rw whole refl;
}
spells_edition large Two known = record {
  again = λ rest.
      let front = four_bytes (version_of Two) in
      let whole : ltb (length (front ++ rest)) 4 ≡ false = le-ltb _ _ (omega (arith, length-append front rest)) in
      rw whole refl;
}
spells_edition false Three known = absurd known
spells_edition true Three known = record {
  again = λ rest.
      let front = four_bytes (version_of Three) in
      let whole : ltb (length (front ++ rest)) 4 ≡ false = le-ltb _ _ (omega (arith, length-append front rest)) in
      rw whole refl;
}
spells_edition false Four known = absurd known
spells_edition true Four known = record {
  again = λ rest.
      let front = four_bytes (version_of Four) in
      let whole : ltb (length (front ++ rest)) 4 ≡ false = le-ltb _ _ (omega (arith, length-append front rest)) in
      rw whole refl;
}

edition_short : (large : Bool) (bytes : List ℕ) (fault : DumpFault) → EndsBefore 4 fault bytes → Fails fault (reading.edition large bytes)
unfolding reading.edition
edition_short large bytes Truncated h = rw (lt-ltb _ _ h) refl
edition_short large bytes Device h = tt
edition_short large bytes _ h = absurd h

pub stops_edition : (large : Bool) (a : Option (List ℕ)) (fault : DumpFault) → IfSome a (EndsBefore 4 fault) → Stops (reading.edition large) a fault
stops_edition large None fault h = tt
stops_edition large (Some bytes) fault h = edition_short large bytes fault h

-- a number that is not version 3, or a reading that does not take version 3
third_refused : (large : Bool) (n : ℕ) → (IsRead large Three → (n == version_of Three) ≡ false) → (large && (n == version_of Three)) ≡ false
third_refused true n differs = differs tt
third_refused false n differs = refl

fourth_refused : (large : Bool) (n : ℕ) → (IsRead large Four → (n == version_of Four) ≡ false) → (large && (n == version_of Four)) ≡ false
fourth_refused true n differs = differs tt
fourth_refused false n differs = refl

-- the bytes begin with a number that is no edition's version
other_version : (large : Bool) (front rest : List ℕ) → length front ≡ 4 → ((e : Edition) → IsRead large e → version_of e ≢ little_number 4 front) → reading.edition large (front ++ rest) ≡ Err BadMagic
unfolding reading.edition
other_version large front rest long none =
    let whole : ltb (length (front ++ rest)) 4 ≡ false = le-ltb _ _ (omega (arith, length-append front rest)) in
    let same : little_number 4 (front ++ rest) ≡ little_number 4 front = little_from-append 4 front rest (omega arith) in
    let test : (e : Edition) → IsRead large e → (little_number 4 front == version_of e) ≡ false = λ e known. ne_eqb _ _ (λ is. none e known (sym is)) in
    rw (whole, same, test One tt, test Two tt, third_refused large (little_number 4 front) (test Three), fourth_refused large (little_number 4 front) (test Four)) refl

pub stops_version : (large : Bool) (n : ℕ) (a b : Option (List ℕ)) (front : List ℕ) → Consumes a b front → length front ≡ 4 → n ≡ little_number 4 front
    → ((e : Edition) → IsRead large e → version_of e ≢ n) → Stops (reading.edition large) a BadMagic
stops_version large n None b front read long is none = tt
stops_version large n (Some xs) None front read long is none = absurd read
stops_version large n (Some xs) (Some ys) front read long is none =
    ap (reading.edition large) read ∙ other_version large front ys long (subst (λ (k : ℕ). (e : Edition) → IsRead large e → version_of e ≢ k) is none)

pub spells_entry : (edition : Edition) (mutators : ℕ) (e : Entry) → mutators ≤ 256 → IsStoredEntry edition mutators e → Spells (entry edition mutators) (entry_bytes e) e
unfolding entry entry_bytes
spells_entry edition mutators e few stored =
    spells_then _ _ _ _ _ _ (spells_word e.stamp stored.stamp)
    (spells_then _ _ _ _ _ _ (spells_small (mutators - 1) e.writer (omega (arith, stored.writer)) (omega (arith, stored.writer)))
    (spells_then _ _ _ _ _ _ (spells_kind edition e.kind stored.kind)
    (spells_then _ _ _ _ _ _ (spells_small 63 e.offset (omega (arith, stored.offset)) (omega (arith, stored.offset)))
    (spells_last _ _ _ _ _ (spells_word e.value stored.value) refl))))

pub entries_spell : (edition : Edition) (mutators : ℕ) (es : List Entry) → mutators ≤ 256 → All (IsStoredEntry edition mutators) es → AllSpell (entry edition mutators) entry_bytes es
entries_spell edition mutators es few = all_spell (entry edition mutators) entry_bytes (IsStoredEntry edition mutators) (λ e. spells_entry edition mutators e few) es

pub spells_four : (low high n : ℕ) → n < 2 ^ 32 → low ≤ n → n ≤ high → Spells (number 4 low high) (four_bytes n) n
spells_four low high n fits above below = spells_number 4 low high n fits above below

pub words_spell : (words : List ℕ) → All (λ n. n < 2 ^ 64) words → AllSpell word eight_bytes words
words_spell words = all_spell word eight_bytes (λ n. n < 2 ^ 64) spells_word words

spells_page_number : (pages p : ℕ) → pages < 2 ^ 32 → p < pages → Spells (number 4 0 (pages - 1)) (four_bytes p) p
spells_page_number pages p few below = spells_four 0 (pages - 1) p (omega arith) (omega arith) (omega arith)

pub numbers_spell : (pages : ℕ) (list : List ℕ) → pages < 2 ^ 32 → All (λ p. p < pages) list → AllSpell (number 4 0 (pages - 1)) four_bytes list
numbers_spell pages list few = all_spell (number 4 0 (pages - 1)) four_bytes (λ p. p < pages) (λ p. spells_page_number pages p few) list

pub spells_builds : (pages : ℕ) (list : List ℕ) → pages < 2 ^ 32 → IsStoredList pages list → Spells (builds pages) (builds_bytes list) list
unfolding builds
spells_builds pages list few stored =
    spells_then _ _ _ _ _ _ (spells_four 0 pages (length list) (omega (arith, stored.few)) (omega arith) stored.few)
    (spells_times (number 4 0 (pages - 1)) four_bytes (length list) list refl (numbers_spell pages list few stored.below))

pub spells_built : (edition : Edition) (mutators : ℕ) (page : BuiltPage) → mutators ≤ 256 → IsStoredPage edition mutators page → Spells (built edition mutators) (built_bytes page) page
unfolding built built_bytes
spells_built edition mutators page few stored =
    spells_then _ _ _ _ _ _ (spells_times word eight_bytes 64 page.words stored.long (words_spell page.words stored.words))
    (spells_then _ _ _ _ _ _ (spells_four 0 1024 (length page.journal) (omega (arith, stored.few_entries)) (omega arith) stored.few_entries)
    (spells_last _ _ _ _ _ (spells_times (entry edition mutators) entry_bytes (length page.journal) page.journal refl (entries_spell edition mutators page.journal few stored.entries)) refl))

pub spells_page : (edition : Edition) (mutators : ℕ) (its_page : Option BuiltPage) → mutators ≤ 256 → IsStoredRecord edition mutators its_page → Spells (page edition mutators) (page_bytes its_page) its_page
unfolding page
spells_page edition mutators None few stored = spells_then (number 1 0 1) (page_behind edition mutators) (one_byte 0) [] 0 None (spells_small 1 0 (omega arith) (omega arith)) (spells_done None)
spells_page edition mutators (Some its_page) few stored =
    spells_then (number 1 0 1) (page_behind edition mutators) (one_byte 1) (built_bytes its_page) 1 (Some its_page) (spells_small 1 1 (omega arith) (omega arith))
    (spells_last _ _ _ _ _ (spells_built edition mutators its_page few stored) refl)

pub pages_spell : (edition : Edition) (mutators : ℕ) (list : List (Option BuiltPage)) → mutators ≤ 256 → All (IsStoredRecord edition mutators) list → AllSpell (page edition mutators) page_bytes list
pages_spell edition mutators list few = all_spell (page edition mutators) page_bytes (IsStoredRecord edition mutators) (λ p. spells_page edition mutators p few) list

pub lists_spell : (pages : ℕ) (lists : List (List ℕ)) → pages < 2 ^ 32 → All (IsStoredList pages) lists → AllSpell (builds pages) builds_bytes lists
lists_spell pages lists few = all_spell (builds pages) builds_bytes (IsStoredList pages) (λ list. spells_builds pages list few) lists
