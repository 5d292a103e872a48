-- Lemmas on numbers and their bytes in an image.
use Rattle.std.proofs.Common.{◌≡◌, ℕ, zero, suc, ◌+◌, ◌*◌, ◌<◌, ◌≤◌, List, [], ◌∷◌, ◌++◌, length, get_or, slice_index, take, drop, sym, ap, ◌∙◌, arith, append_assoc, append-nil, length-take, length-drop, length-append}
use Rattle.std.specs.List.{flat_map}
use Rattle.std.proofs.Math.Seq.{take-add}
use Rattle.std.proofs.lemmas.List.{take_all, get_or-drop}
use Rattle.std.proofs.lemmas.List.Concat.{flat_map-append}
use Rattle.std.proofs.lemmas.Nat.{le_bytes_4, le_bytes_8}
use Rattle.byteorder.specs.Endian.{little_number}
use Rattle.byteorder.specs.Numbers.{little_from-take}
use Rattle.heap_layout.specs.Encoding.{four_bytes, eight_bytes, counts}

-- each byte of a beginning of bytes is a byte, and so is the 0 that is read past its end
small_in_front : (n : ℕ) (bytes : List ℕ) → ((i : ℕ) → slice_index bytes i < 256) → (i : ℕ) → get_or (take n bytes) i 0 < 256
small_in_front zero bytes small i = omega arith
small_in_front (suc n) [] small i = omega arith
small_in_front (suc n) (byte ∷ bytes) small zero = small 0
small_in_front (suc n) (byte ∷ bytes) small (suc i) = small_in_front n bytes (λ j. small (suc j)) i

-- the same for any part of bytes
small_in_part : (at n : ℕ) (bytes : List ℕ) → ((i : ℕ) → slice_index bytes i < 256) → (i : ℕ) → get_or (take n (drop at bytes)) i 0 < 256
small_in_part at n bytes small i = small_in_front n (drop at bytes) (λ j. rw get_or-drop (small (at + j))) i

-- a part that lies within a list has its length
part_length : (at n : ℕ) (bytes : List ℕ) → at + n ≤ length bytes → length (take n (drop at bytes)) ≡ n
part_length at n bytes h = simp (length-take, length-drop) (omega arith)

-- the bytes of a number that was read are the bytes from which it was read
pub four_bytes-read : (bytes : List ℕ) (at most n : ℕ) → ((i : ℕ) → slice_index bytes i < 256) → at + 4 ≤ length bytes → 4 ≤ most
    → n ≡ little_number 4 (take most (drop at bytes)) → four_bytes n ≡ take 4 (drop at bytes)
four_bytes-read bytes at most n small within long is =
    let rest = drop at bytes in
    le_bytes_4 (take 4 rest) n (part_length at 4 bytes within) (small_in_part at 4 bytes small)
    (omega (arith, is ∙ little_from-take 0 4 most rest (omega arith) ∙ sym (little_from-take 0 4 4 rest (omega arith))))

-- the same for a number of 8 bytes
pub eight_bytes-read : (bytes : List ℕ) (at most n : ℕ) → ((i : ℕ) → slice_index bytes i < 256) → at + 8 ≤ length bytes → 8 ≤ most
    → n ≡ little_number 8 (take most (drop at bytes)) → eight_bytes n ≡ take 8 (drop at bytes)
eight_bytes-read bytes at most n small within long is =
    let rest = drop at bytes in
    le_bytes_8 (take 8 rest) n (part_length at 8 bytes within) (small_in_part at 8 bytes small)
    (omega (arith, is ∙ little_from-take 0 8 most rest (omega arith) ∙ sym (little_from-take 0 8 8 rest (omega arith))))

-- one number more is one piece of the bytes more
pub pieces_more : (f : ℕ → List ℕ) (size i n : ℕ) (front done bytes : List ℕ) → f n ≡ take size (drop (size * i) bytes)
    → flat_map f done ≡ front ++ take (size * i) bytes → flat_map f (done ++ n ∷ []) ≡ front ++ take (size * (i + 1)) bytes
pieces_more f size i n front done bytes new so_far =
    let piece = take size (drop (size * i) bytes) in
    let count : size * (i + 1) ≡ size * i + size = omega arith in
    flat_map-append f done (n ∷ [])
    ∙ ap (λ (last : List ℕ). flat_map f done ++ last) (append-nil (f n) ∙ new)
    ∙ ap (λ (before : List ℕ). before ++ piece) so_far
    ∙ append_assoc front (take (size * i) bytes) piece
    ∙ ap (λ (all : List ℕ). front ++ all) (sym (take-add (size * i) size bytes) ∙ ap (λ (k : ℕ). take k bytes) (sym count))

-- the bytes of the three counts that were read are the bytes from which they were read
pub counts_read : (bytes : List ℕ) (j k words marks roots : ℕ) → ((i : ℕ) → slice_index bytes i < 256) → length bytes ≡ 12 → 4 ≤ j → 4 ≤ k
    → words ≡ little_number 4 bytes → marks ≡ little_number 4 (take j (drop 4 bytes)) → roots ≡ little_number 4 (take k (drop 8 bytes))
    → counts words marks roots ≡ bytes
counts_read bytes j k words marks roots small long more_marks more_roots is_words is_marks is_roots =
    let w : four_bytes words ≡ take 4 bytes =
    four_bytes-read bytes 0 12 words small (omega arith) (omega arith) (is_words ∙ sym (little_from-take 0 4 12 bytes (omega arith))) in
    let m = four_bytes-read bytes 4 j marks small (omega arith) more_marks is_marks in
    let r = four_bytes-read bytes 8 k roots small (omega arith) more_roots is_roots in
    let two : four_bytes words ++ four_bytes marks ≡ take 8 bytes =
    ap (λ (x : List ℕ). x ++ four_bytes marks) w ∙ ap (λ (x : List ℕ). take 4 bytes ++ x) m ∙ sym (take-add 4 4 bytes) in
    let three : four_bytes words ++ four_bytes marks ++ four_bytes roots ≡ take 12 bytes =
    ap (λ (x : List ℕ). x ++ four_bytes roots) two ∙ ap (λ (x : List ℕ). take 8 bytes ++ x) r ∙ sym (take-add 8 4 bytes) in
    three ∙ take_all 12 bytes (omega arith)

-- n numbers of the same width have n times as many bytes
pub length-pieces : (f : ℕ → List ℕ) (size : ℕ) → ((n : ℕ) → length (f n) ≡ size) → (numbers : List ℕ) → length (flat_map f numbers) ≡ size * length numbers
length-pieces f size wide [] = omega arith
length-pieces f size wide (n ∷ numbers) = omega (arith, length-append (f n) (flat_map f numbers), wide n, length-pieces f size wide numbers)
