-- Lemmas on moved heaps that are read from their bytes.
use Rattle.std.proofs.Common.{◌≡◌, ℕ, ◌-◌, ◌^◌, ◌<◌, ◌≤◌, Bool, List, ◌++◌, length, Option, IfSome, Ok, Err, refl, sym, subst, arith, All}
use Rattle.std.specs.List.{flat_map}
use Rattle.std.specs.Io.KnownBytes.{Consumes}
use Rattle.std.proofs.KnownBytes.{Consumes-trans}
use Rattle.heap_layout.specs.declared.edition.Edition.{Edition}
use Rattle.heap_layout.specs.Limits.{most_words, most_roots}
use Rattle.heap_layout.specs.Versions.{IsRead}
use Rattle.heap_layout.proofs.Bounds.{roots_most, words_most}
use Rattle.comp_dump.specs.DumpEncoding.{four_bytes, eight_bytes}
use Rattle.comp_dump.specs.DumpReading.{word, Fails, RefusesEnd}
use Rattle.comp_dump.specs.declared.fault.DumpFault.{DumpFault}
use Rattle.comp_dump.specs.declared.fault.DumpFault.TheVariants.{TrailingBytes}
use Rattle.comp_dump.proofs.Readings.{Spells, AllSpell, all_spell, spells_then, spells_last, spells_times}
use Rattle.comp_dump.proofs.Fields.{spells_edition, spells_four, words_spell}
use Rattle.comp_dump.proofs.Pages.{spells_expected}
use Rattle.comp_dump.proofs.Wholes.{read_exactly, refused_longer, stops_after}
use Rattle.moved_heaps.specs.Moved.{Moved}
use Rattle.moved_heaps.specs.MovedFiles.{magic, head, moved_bytes, AreCounts, IsStored}
use Rattle.moved_heaps.specs.MovedReading as reading
use Rattle.moved_heaps.specs.MovedReading.{index, read_whole}

-- places are read again
spells_index : (n : ℕ) → n < 2 ^ 32 → Spells index (four_bytes n) n
spells_index n fits = spells_four 0 (2 ^ 32 - 1) n fits (omega arith) (omega arith)

pub indices_spell : (list : List ℕ) → All (λ n. n < 2 ^ 32) list → AllSpell index four_bytes list
indices_spell list = all_spell index four_bytes (λ n. n < 2 ^ 32) spells_index list

-- the counts are read again
pub spells_head : (large : Bool) (edition : Edition) (places roots words : ℕ) → IsRead large edition → AreCounts edition places roots words
    → Spells (reading.head large) (head edition places roots words) (record { edition = edition; places = places; roots = roots; words = words })
unfolding reading.head head
spells_head large edition places roots words known are =
    spells_then _ _ _ _ _ _ (spells_expected magic)
    (spells_then _ _ _ _ _ _ (spells_edition large edition known)
    (spells_then _ _ _ _ _ _ (spells_four 0 (most_words edition) places (omega (arith, are.few_places, words_most edition)) (omega arith) are.few_places)
    (spells_then _ _ _ _ _ _ (spells_four 0 (most_roots edition) roots (omega (arith, are.few_roots, roots_most edition)) (omega arith) are.few_roots)
    (spells_last _ _ _ _ _ (spells_four 0 (2 ^ 31) words (omega (arith, are.few_words)) (omega arith) are.few_words) refl))))

-- what is read of each part is stored
pub stored_parts : (moved : Moved) (places roots words : ℕ) → AreCounts moved.edition places roots words → length moved.places ≡ places → All (λ (n : ℕ). n < 2 ^ 32) moved.places
    → length moved.roots ≡ roots → All (λ (n : ℕ). n < 2 ^ 64) moved.roots → length moved.words ≡ words → All (λ (n : ℕ). n < 2 ^ 64) moved.words → IsStored moved
stored_parts moved places roots words are of_places stored_places of_roots stored_roots of_words stored_words = record {
  counts = record {
    few_places = subst (λ (n : ℕ). n ≤ most_words moved.edition) (sym of_places) are.few_places;
    few_roots = subst (λ (n : ℕ). n ≤ most_roots moved.edition) (sym of_roots) are.few_roots;
    few_words = subst (λ (n : ℕ). n ≤ 2 ^ 31) (sym of_words) are.few_words;
  };
  places = stored_places;
  roots = stored_roots;
  words = stored_words;
}

-- the parts of a moved heap are the moved heap
pub moved_read : (a b c d e : Option (List ℕ)) (moved : Moved) (places roots words : ℕ) → length moved.places ≡ places → length moved.roots ≡ roots → length moved.words ≡ words
    → Consumes a b (head moved.edition places roots words) → Consumes b c (flat_map four_bytes moved.places) → Consumes c d (flat_map eight_bytes moved.roots)
    → Consumes d e (flat_map eight_bytes moved.words) → Consumes a e (moved_bytes moved)
unfolding moved_bytes
moved_read a b c d e moved places roots words of_places of_roots of_words counts place_bytes root_bytes word_bytes =
    Consumes-trans a b e _ _
    (subst (λ (n : ℕ). Consumes a b (head moved.edition n (length moved.roots) (length moved.words))) (sym of_places)
    (subst (λ (n : ℕ). Consumes a b (head moved.edition places n (length moved.words))) (sym of_roots)
    (subst (λ (n : ℕ). Consumes a b (head moved.edition places roots n)) (sym of_words) counts)))
    (Consumes-trans b c e _ _ place_bytes (Consumes-trans c d e _ _ root_bytes word_bytes))

-- a moved heap is read again
pub spells_moved : (large : Bool) (moved : Moved) → IsRead large moved.edition → IsStored moved → Spells (reading.moved large) (moved_bytes moved) moved
unfolding reading.moved moved_bytes
spells_moved large moved known stored =
    spells_then _ _ _ _ _ _ (spells_head large _ _ _ _ known stored.counts)
    (spells_then _ _ _ _ _ _ (spells_times index four_bytes (length moved.places) moved.places refl (indices_spell moved.places stored.places))
    (spells_then _ _ _ _ _ _ (spells_times word eight_bytes (length moved.roots) moved.roots refl (words_spell moved.roots stored.roots))
    (spells_last _ _ _ _ _ (spells_times word eight_bytes (length moved.words) moved.words refl (words_spell moved.words stored.words)) refl)))

pub read_again : (large : Bool) (moved : Moved) → IsRead large moved.edition → IsStored moved → read_whole large (moved_bytes moved) ≡ Ok moved
read_again large moved known stored = read_exactly _ _ _ (spells_moved large moved known stored)

pub more_after : (large : Bool) (moved : Moved) (rest : List ℕ) → IsRead large moved.edition → IsStored moved → 0 < length rest → read_whole large (moved_bytes moved ++ rest) ≡ Err TrailingBytes
more_after large moved rest known stored some = refused_longer _ _ _ (spells_moved large moved known stored) rest some

-- the end was not found
pub stops_end : (large : Bool) (moved : Moved) (a b : Option (List ℕ)) (fault : DumpFault) → IsRead large moved.edition → IsStored moved → Consumes a b (moved_bytes moved) → IfSome b (RefusesEnd fault)
    → IfSome a (λ bytes. Fails fault (read_whole large bytes))
stops_end large moved a b fault known stored read h = stops_after _ _ _ (spells_moved large moved known stored) a b fault read h
