-- Words that are read from their bytes, all at once.
use Rattle.std.proofs.Common.{◌≡◌, ℕ, zero, suc, ◌+◌, ◌-◌, ◌*◌, ◌^◌, ◌<◌, List, [], ◌∷◌, ◌++◌, length, take, drop, slice_index, get_or, Option, Some, None, Err, IfSome, refl, sym, ap, subst, ◌∙◌, inl, inr, arith, All, length-take, length-drop, take-append-drop, drop-drop}
use Rattle.std.specs.List.{flat_map}
use Rattle.std.proofs.lemmas.Bool.{cases_lt, le-ltb, lt-ltb}
use Rattle.std.proofs.lemmas.List.Concat.{flat_map-cons}
use Rattle.std.proofs.lemmas.List.Elements.{All-from_get_or}
use Rattle.byteorder.specs.Endian.{little_number, IsRead}
use Rattle.byteorder.specs.Numbers.{little_from-lt, little_from-take}
use Rattle.comp_dump.specs.DumpEncoding.{eight_bytes}
use Rattle.comp_dump.specs.declared.fault.DumpFault.{DumpFault}
use Rattle.comp_dump.specs.declared.fault.DumpFault.TheVariants.{Truncated, Device}
use Rattle.comp_dump.specs.DumpReading.{number, times_read, word, EndsBefore, Fails, Stops}
use Rattle.heap_layout.proofs.Reading.{small_drop, small_take}
use Rattle.comp_dump.proofs.Fields.{eight_read}

-- the bytes are those of the words that they make
pub words_of_bytes : (words bytes : List ℕ) → length bytes ≡ 8 * length words → ((i : ℕ) → get_or bytes i 0 < 2 ^ 8) → IsRead little_number 8 bytes words → flat_map eight_bytes words ≡ bytes
words_of_bytes [] [] long small read = refl
words_of_bytes [] (b ∷ bytes) long small read = absurd (omega (arith, long))
words_of_bytes (w ∷ words) bytes long small read =
    let front = take 8 bytes in
    let behind = drop 8 bytes in
    let first : w ≡ little_number 8 front = read 0 (omega arith) ∙ sym (little_from-take 0 8 8 bytes (omega arith)) in
    let here : eight_bytes w ≡ front = eight_read front w (small_take 8 bytes small) (omega (arith, long, length-take 8 bytes)) first in
    let more : IsRead little_number 8 behind words = λ k lt.
    let place : 8 * (suc k) ≡ 8 + 8 * k = omega arith in
    read (suc k) (omega (arith, lt)) ∙ ap (λ (n : ℕ). little_number 8 (drop n bytes)) place ∙ ap (little_number 8) (sym (drop-drop (8 * k) 8 bytes)) in
    flat_map-cons eight_bytes w words ∙ ap (λ (l : List ℕ). l ++ flat_map eight_bytes words) here
    ∙ ap (λ (l : List ℕ). front ++ l) (words_of_bytes words behind (omega (arith, long, length-drop 8 bytes)) (small_drop 8 bytes small) more) ∙ take-append-drop 8 bytes

-- and fit their type
pub words_fit : (words bytes : List ℕ) → ((i : ℕ) → get_or bytes i 0 < 2 ^ 8) → IsRead little_number 8 bytes words → All (λ n. n < 2 ^ 64) words
words_fit words bytes small read = All-from_get_or (λ (n : ℕ). n < 2 ^ 64) words 0 (λ i lt. subst (λ (n : ℕ). n < 2 ^ 64) (sym (read i lt)) (little_from-lt 0 8 (drop (8 * i) bytes) (small_drop (8 * i) bytes small)))

-- fewer bytes than those of n words
words_short : (n : ℕ) (bytes : List ℕ) → ((i : ℕ) → get_or bytes i 0 < 2 ^ 8) → length bytes < 8 * n → times_read n word bytes ≡ Err Truncated
unfolding times_read number
words_short zero bytes small lt = absurd (omega (arith, lt))
words_short (suc n) bytes small lt = elim (cases_lt (length bytes) 8) [
  | inl short ↦ rw (lt-ltb _ _ short) refl
  | inr long ↦
      let fits : little_number 8 bytes < 2 ^ 64 = little_from-lt 0 8 bytes small in
      rw (le-ltb _ _ long, le-ltb (little_number 8 bytes) 0 (omega arith), le-ltb (2 ^ 64 - 1) (little_number 8 bytes) (omega (arith, fits)), words_short n (drop 8 bytes) (small_drop 8 bytes small) (omega (arith, lt, long, length-drop 8 bytes))) refl
]

short_fails : (n : ℕ) (bytes : List ℕ) (fault : DumpFault) → EndsBefore (8 * n) fault bytes → (fault ≡ Truncated → (i : ℕ) → slice_index bytes i < 2 ^ 8) → Fails fault (times_read n word bytes)
short_fails n bytes Truncated h small = words_short n bytes (small refl) h
short_fails n bytes Device h small = tt
short_fails n bytes _ h small = absurd h

pub stops_words : (n : ℕ) (a : Option (List ℕ)) (fault : DumpFault) → IfSome a (EndsBefore (8 * n) fault) → (fault ≡ Truncated → IfSome a (λ bytes. (i : ℕ) → slice_index bytes i < 2 ^ 8)) → Stops (times_read n word) a fault
stops_words n None fault h small = tt
stops_words n (Some bytes) fault h small = short_fails n bytes fault h small
