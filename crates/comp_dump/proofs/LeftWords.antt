-- Lemmas on files of words and roots, and on the dumps for which they stand.
use Rattle.std.proofs.Common.{◌≡◌, ◌∙◌, ap₂, append-nil, ℕ, ◌+◌, ◌-◌, ◌*◌, ◌^◌, ◌<◌, ◌≤◌, inl, inr, Bool, List, [], ◌∷◌, ◌++◌, length, map, min, take, drop, replicate, Option, Some, IfSome, Ok, Err, ap, arith, refl, subst, sym, length-append}
use Rattle.std.specs.List.{flat_map, range_with_len}
use Rattle.std.specs.Io.KnownBytes.{Consumes, IsAtEnd}
use Rattle.std.proofs.KnownBytes.{Consumes-trans}
use Rattle.std.proofs.lemmas.Bool.{cases_lt}
use Rattle.std.proofs.lemmas.List.{length-replicate, map-id, drop_all, drop-replicate, length-take-le, take_all, take-append-le, take-replicate}
use Rattle.std.proofs.Math.Seq.{take-append-add}
use Rattle.std.proofs.lemmas.Option.{IfSome_then}
use Rattle.std.proofs.lemmas.List.Elements.{All-append, All-drop, All-map, All-nil, All-push, All-replicate, All-take}
use Rattle.std.proofs.lemmas.List.FromFn.{map-range_with_len_more, get_or-range_with_len, length-map-range_with_len, length-range_with_len}
use Rattle.heap_layout.specs.Versions.{version_of, IsRead}
use Rattle.heap_layout.specs.Limits.{most_pages, most_roots, most_words}
use Rattle.heap_layout.proofs.Bounds.{pages_fit, pages_most, roots_most, words_most}
use Rattle.comp_dump.specs.Dumped.{BuiltPage, Dumped, IsStored, IsStoredList, IsStoredPage, IsStoredRecord}
use Rattle.comp_dump.specs.DumpEncoding.{eight_bytes, four_bytes}
use Rattle.comp_dump.specs.DumpReading.{word, RefusesEnd, Fails, Stops}
use Rattle.comp_dump.specs.WordsEncoding.{dump_of_words, page_of_words, pages_filled, words_bytes, words_magic, AreStoredWords, IsDumpOfWords, WordsFile}
use Rattle.comp_dump.specs.WordsReading.{read_whole_words, words_dump, words_file}
use Rattle.comp_dump.specs.declared.fault.DumpFault.{DumpFault}
use Rattle.comp_dump.specs.declared.fault.DumpFault.TheVariants.{TrailingBytes}
use Rattle.comp_dump.proofs.Readings.{Spells, spells_last, spells_then, spells_times, stops_first}
use Rattle.comp_dump.proofs.Wholes.{consumed_all, read_exactly, refused_longer, stops_after, stops_before}
use Rattle.comp_dump.proofs.Fields.{spells_edition, spells_four, words_spell}
use Rattle.comp_dump.proofs.Pages.{spells_expected}

-- ---- what is read

-- the counts fit their fields
pub few_words : (file : WordsFile) → AreStoredWords file → length file.words < 2 ^ 32
few_words file stored = omega (arith, stored.few_words, words_most file.edition)

pub few_roots : (file : WordsFile) → AreStoredWords file → length file.roots < 2 ^ 32
few_roots file stored = omega (arith, stored.few_roots, roots_most file.edition)

-- a file is read again
pub spells_file : (large : Bool) (file : WordsFile) → IsRead large file.edition → AreStoredWords file → Spells (words_file large) (words_bytes file) file
unfolding words_file words_bytes
spells_file large file known stored =
    spells_then _ _ _ _ _ _ (spells_expected words_magic)
    (spells_then _ _ _ _ _ _ (spells_edition large file.edition known)
    (spells_then _ _ _ _ _ _ (spells_four 0 (most_words file.edition) (length file.words) (few_words file stored) (omega arith) stored.few_words)
    (spells_then _ _ _ _ _ _ (spells_four 0 (most_roots file.edition) (length file.roots) (few_roots file stored) (omega arith) stored.few_roots)
    (spells_then _ _ _ _ _ _ (spells_times word eight_bytes (length file.roots) file.roots refl (words_spell file.roots stored.roots))
    (spells_last _ _ _ _ _ (spells_times word eight_bytes (length file.words) file.words refl (words_spell file.words stored.words)) refl)))))

-- as the dump for which it stands
pub spells_dump_of : (large : Bool) (file : WordsFile) → IsRead large file.edition → AreStoredWords file → Spells (words_dump large) (words_bytes file) (dump_of_words file)
spells_dump_of large file known stored = spells_last (words_file large) dump_of_words _ _ _ (spells_file large file known stored) refl

pub words_again : (large : Bool) (file : WordsFile) → IsRead large file.edition → AreStoredWords file → read_whole_words large (words_bytes file) ≡ Ok (dump_of_words file)
words_again large file known stored = read_exactly _ _ _ (spells_dump_of large file known stored)

pub words_longer : (large : Bool) (file : WordsFile) (rest : List ℕ) → IsRead large file.edition → AreStoredWords file → 0 < length rest
    → read_whole_words large (words_bytes file ++ rest) ≡ Err TrailingBytes
words_longer large file rest known stored some = refused_longer _ _ _ (spells_dump_of large file known stored) rest some

-- a file was not read
pub stops_file : (large : Bool) (a : Option (List ℕ)) (fault : DumpFault) → Stops (words_file large) a fault → IfSome a (λ bytes. Fails fault (read_whole_words large bytes))
stops_file large a fault h = stops_before (words_dump large) a fault (stops_first (words_file large) _ a fault h)

-- the end was not found after a file
pub stops_words_end : (large : Bool) (file : WordsFile) (a b : Option (List ℕ)) (fault : DumpFault) → IsRead large file.edition → AreStoredWords file → Consumes a b (words_bytes file)
    → IfSome b (RefusesEnd fault) → IfSome a (λ bytes. Fails fault (read_whole_words large bytes))
stops_words_end large file a b fault known stored = stops_after _ _ _ (spells_dump_of large file known stored) a b fault

-- all bytes were a file
pub words_of_all : (a b : Option (List ℕ)) (file : WordsFile) (dump : Dumped) → AreStoredWords file → Consumes a b (words_bytes file) → IsAtEnd b → dump ≡ dump_of_words file
    → IfSome a (λ bytes. IsDumpOfWords bytes dump)
words_of_all a b file dump stored read end is =
    IfSome_then a (consumed_all a b (words_bytes file) read end) (λ bytes same. record { file = file; stored = stored; bytes_are = same; dump_is = is })

-- and they are read as one
pub again_of_all : (large : Bool) (a b : Option (List ℕ)) (file : WordsFile) (dump : Dumped) → IsRead large file.edition → AreStoredWords file → Consumes a b (words_bytes file) → IsAtEnd b
    → dump ≡ dump_of_words file → IfSome a (λ bytes. read_whole_words large bytes ≡ Ok dump)
again_of_all large a b file dump known stored read end is =
    IfSome_then a (consumed_all a b (words_bytes file) read end)
    (λ bytes same. ap (λ (xs : List ℕ). read_whole_words large xs) same ∙ words_again large file known stored ∙ ap (λ (d : Dumped). Ok d) (sym is))

-- the parts of a file are the file
pub file_read : (a b c d e f g : Option (List ℕ)) (file : WordsFile) (count of_roots : ℕ) → length file.words ≡ count → length file.roots ≡ of_roots
    → Consumes a b words_magic → Consumes b c (four_bytes (version_of file.edition)) → Consumes c d (four_bytes count) → Consumes d e (four_bytes of_roots)
    → Consumes e f (flat_map eight_bytes file.roots) → Consumes f g (flat_map eight_bytes file.words) → Consumes a g (words_bytes file)
unfolding words_bytes
file_read a b c d e f g file count of_roots words_long roots_long magic version words_count roots_count roots words =
    Consumes-trans a b g _ _ magic
    (Consumes-trans b c g _ _ version
    (Consumes-trans c d g _ _ (subst (λ (n : ℕ). Consumes c d (four_bytes n)) (sym words_long) words_count)
    (Consumes-trans d e g _ _ (subst (λ (n : ℕ). Consumes d e (four_bytes n)) (sym roots_long) roots_count)
    (Consumes-trans e f g _ _ roots words))))

-- ---- the dump for which a file stands

-- each page has 64 words of 64 bits
page_stored : (file : WordsFile) → AreStoredWords file → (p : ℕ) → IsStoredPage file.edition 1 (page_of_words file.words p)
page_stored file stored p =
    let zeros : List ℕ = replicate 64 0 in
    let rest : List ℕ = drop (64 * p) file.words in
    record {
      long = length-take-le 64 (rest ++ zeros) (omega (arith, length-append rest zeros, length-replicate {A = ℕ} 64 0));
      words = All-take (λ (n : ℕ). n < 2 ^ 64) 64 (rest ++ zeros)
          (All-append (λ (n : ℕ). n < 2 ^ 64) rest zeros (All-drop (λ (n : ℕ). n < 2 ^ 64) (64 * p) file.words stored.words) (All-replicate (λ (n : ℕ). n < 2 ^ 64) 64 0 (omega arith)));
      few_entries = omega arith;
      entries = All-nil _;
    }

-- the numbers below n
below_range : (n : ℕ) → IsStoredList n (range_with_len 0 n)
below_range n = record {
  few = omega (arith, length-range_with_len 0 n);
  below = λ k d lt. omega (arith, get_or-range_with_len 0 n k d (omega (arith, lt, length-range_with_len 0 n)), lt, length-range_with_len 0 n);
}

-- so its numbers are in the range of their fields
pub words_stored : (file : WordsFile) → AreStoredWords file → IsStored (dump_of_words file)
words_stored file stored =
    let n : ℕ = pages_filled file.words in
    let page : ℕ → Option BuiltPage = λ p. Some (page_of_words file.words p) in
    let records : List (Option BuiltPage) = map page (range_with_len 0 n) in
    let long : length records ≡ n = length-map-range_with_len page 0 n in
    let few : n ≤ most_pages file.edition = pages_fit file.edition (length file.words) stored.few_words in
    record {
      counts = record {
        some_mutators = omega arith;
        few_mutators = omega arith;
        few_fresh = omega arith;
        fresh_among = omega arith;
        few_pages = omega (arith, long, few);
        few_roots = stored.few_roots;
      };
      roots = stored.roots;
      pages = All-map (IsStoredRecord file.edition 1) page (range_with_len 0 n) (λ k d lt. page_stored file stored _);
      lists = refl;
      builds = All-push (IsStoredList (length records)) [] (range_with_len 0 n) (All-nil _) (subst (λ (m : ℕ). IsStoredList m (range_with_len 0 n)) (sym long) (below_range n));
      total = omega (arith, few_words file stored);
    }

-- ---- how words are cut into pages

-- the rest of some words, at most 64 of them, with zeros after them
pub filled_page : (words : List ℕ) (kept : ℕ) → kept ≡ min (length words) 64 → take kept words ++ drop kept (replicate 64 0) ≡ take 64 (words ++ replicate 64 0)
filled_page words kept is =
    let zeros : List ℕ = replicate 64 0 in
    elim (cases_lt (length words) 64) [
      | inl short ↦
          let all : kept ≡ length words = omega (arith, is, short) in
          let front : take kept words ≡ words = take_all kept words (omega (arith, all)) in
          let back : drop kept zeros ≡ replicate (64 - kept) 0 = drop-replicate kept 64 0 in
          let cut : take (64 - kept) zeros ≡ replicate (64 - kept) 0 = take-replicate (64 - kept) 64 0 (omega arith) in
          let sum : 64 ≡ length words + (64 - kept) = omega (arith, all, short) in
          ap₂ ◌++◌ front (back ∙ sym cut) ∙ sym (take-append-add words zeros (64 - kept)) ∙ ap (λ (n : ℕ). take n (words ++ zeros)) (sym sum)
      | inr long ↦
          let all : kept ≡ 64 = omega (arith, is, long) in
          let none : drop kept zeros ≡ [] = drop_all kept zeros (omega (arith, all, length-replicate {A = ℕ} 64 0)) in
          ap (λ (back : List ℕ). take kept words ++ back) none ∙ append-nil (take kept words) ∙ ap (λ (n : ℕ). take n words) all ∙ sym (take-append-le 64 words zeros long)
    ]

-- one page more
pub pages_next : (words : List ℕ) (p : ℕ) → map (λ (q : ℕ). Some (page_of_words words q)) (range_with_len 0 (p + 1)) ≡ map (λ (q : ℕ). Some (page_of_words words q)) (range_with_len 0 p) ++ Some (page_of_words words p) ∷ []
pages_next words p = map-range_with_len_more (λ (q : ℕ). Some (page_of_words words q)) 0 p p (omega arith)

-- one number more
pub numbers_next : (n : ℕ) → range_with_len 0 (n + 1) ≡ range_with_len 0 n ++ n ∷ []
numbers_next n = sym (map-id (range_with_len 0 (n + 1))) ∙ map-range_with_len_more (λ (k : ℕ). k) 0 n n (omega arith) ∙ ap (λ (list : List ℕ). list ++ n ∷ []) (map-id (range_with_len 0 n))

-- ---- the parts of the dump

-- as many pages as the words fill
pub cut_long : (words : List ℕ) (n : ℕ) (records : List (Option BuiltPage)) → records ≡ map (λ (p : ℕ). Some (page_of_words words p)) (range_with_len 0 (pages_filled words)) → n ≡ length records
    → n ≡ pages_filled words
cut_long words n records is long = long ∙ ap length is ∙ length-map-range_with_len (λ (p : ℕ). Some (page_of_words words p)) 0 (pages_filled words)

pub few_pages : (file : WordsFile) → AreStoredWords file → pages_filled file.words < 2 ^ 32
few_pages file stored = omega (arith, pages_fit file.edition (length file.words) stored.few_words, pages_most file.edition)

-- they make the dump for which the file stands
pub dump_parts : (file : WordsFile) (words : List ℕ) (records : List (Option BuiltPage)) (lists : List (List ℕ)) (total : ℕ) → words ≡ file.words
    → records ≡ map (λ (p : ℕ). Some (page_of_words words p)) (range_with_len 0 (pages_filled words)) → lists ≡ range_with_len 0 (pages_filled words) ∷ [] → total ≡ length words
    → record { edition = file.edition; mutators = 1; fresh = 0; roots = file.roots; pages = records; builds = lists; total = total } ≡ dump_of_words file
dump_parts file words records lists total same cut built all =
    let made : List (Option BuiltPage) → List (List ℕ) → ℕ → Dumped =
    λ rs ls n. record { edition = file.edition; mutators = 1; fresh = 0; roots = file.roots; pages = rs; builds = ls; total = n } in
    let of : List ℕ → Dumped = λ ws. made (map (λ (p : ℕ). Some (page_of_words ws p)) (range_with_len 0 (pages_filled ws))) (range_with_len 0 (pages_filled ws) ∷ []) (length ws) in
    ap (λ (rs : List (Option BuiltPage)). made rs lists total) cut
    ∙ ap (λ (ls : List (List ℕ)). made (map (λ (p : ℕ). Some (page_of_words words p)) (range_with_len 0 (pages_filled words))) ls total) built
    ∙ ap (λ (n : ℕ). made (map (λ (p : ℕ). Some (page_of_words words p)) (range_with_len 0 (pages_filled words))) (range_with_len 0 (pages_filled words) ∷ []) n) all
    ∙ ap of same
