-- Lemmas by which an image determines its heap: numbers with the same bytes are the same.
use Rattle.std.proofs.Common.{◌≡◌, ℕ, ◌^◌, ◌<◌, List, [], ◌∷◌, ◌++◌, length, take, drop, All, refl, sym, ap, ◌∙◌, arith, append_assoc, length-append}
use Rattle.std.specs.Int.{w32, w64, from_le_bytes}
use Rattle.std.specs.List.{flat_map}
use Rattle.std.proofs.lemmas.List.{take_at, drop_at, append_cancel_left, append-nil}
use Rattle.std.proofs.lemmas.List.Elements.{All-head, All-tail}
use Rattle.std.proofs.lemmas.Nat.{from_le_bytes-to_le_bytes_4, from_le_bytes-to_le_bytes_8}
use Rattle.heap_layout.specs.declared.edition.Edition.{Edition}
use Rattle.heap_layout.specs.declared.edition.Edition.TheVariants.{One, Two, Three, Four}
use Rattle.heap_layout.specs.Heap.{Heap, IsStored}
use Rattle.heap_layout.specs.Versions.{version_of}
use Rattle.heap_layout.specs.Encoding.{four_bytes, eight_bytes, magic, version, counts, head, encoding, body_len, AreCounted}
use Rattle.heap_layout.proofs.Numbers.{length-pieces}

-- if two lists are equal and their fronts have the same length, the fronts are equal, and so are the rests
pub append_same : (a b x y : List ℕ) → length a ≡ length b → a ++ x ≡ b ++ y → (a ≡ b) × (x ≡ y)
append_same a b x y long same = (
  sym (take_at a x (length a) refl) ∙ ap (take (length a)) same ∙ take_at b y (length a) (sym long),
  sym (drop_at a x (length a) refl) ∙ ap (drop (length a)) same ∙ drop_at b y (length a) (sym long),
)

-- a number that fits its field is determined by its bytes
four_bytes_same : (n m : ℕ) → n < 2 ^ 32 → m < 2 ^ 32 → four_bytes n ≡ four_bytes m → n ≡ m
four_bytes_same n m small_n small_m same = sym (from_le_bytes-to_le_bytes_4 n small_n) ∙ ap (from_le_bytes w32) same ∙ from_le_bytes-to_le_bytes_4 m small_m

-- the same for a number of 8 bytes
eight_bytes_same : (n m : ℕ) → n < 2 ^ 64 → m < 2 ^ 64 → eight_bytes n ≡ eight_bytes m → n ≡ m
eight_bytes_same n m small_n small_m same = sym (from_le_bytes-to_le_bytes_8 n small_n) ∙ ap (from_le_bytes w64) same ∙ from_le_bytes-to_le_bytes_8 m small_m

-- lists of the same length, of numbers of the same width, are equal if their bytes are
pieces_same : (f : ℕ → List ℕ) (size most : ℕ) → ((n : ℕ) → length (f n) ≡ size) → ((n m : ℕ) → n < most → m < most → f n ≡ f m → n ≡ m) → (xs ys : List ℕ)
    → All (λ n. n < most) xs → All (λ n. n < most) ys → length xs ≡ length ys → flat_map f xs ≡ flat_map f ys → xs ≡ ys
pieces_same f size most wide injective [] [] small_xs small_ys long same = refl
pieces_same f size most wide injective [] (y ∷ ys) small_xs small_ys long same = absurd (omega arith)
pieces_same f size most wide injective (x ∷ xs) [] small_xs small_ys long same = absurd (omega arith)
pieces_same f size most wide injective (x ∷ xs) (y ∷ ys) small_xs small_ys long same =
    let parts = append_same (f x) (f y) (flat_map f xs) (flat_map f ys) (wide x ∙ sym (wide y)) same in
    let first : x ≡ y = injective x y (All-head (λ n. n < most) x xs small_xs) (All-head (λ n. n < most) y ys small_ys) parts.0 in
    let others : xs ≡ ys = pieces_same f size most wide injective xs ys (All-tail (λ n. n < most) x xs small_xs) (All-tail (λ n. n < most) y ys small_ys) (omega arith) parts.1 in
    cc

-- counts with the same bytes are equal
pub counts_same : (words marks roots other_words other_marks other_roots : ℕ) (x y : List ℕ) → words < 2 ^ 32 → marks < 2 ^ 32 → roots < 2 ^ 32
    → other_words < 2 ^ 32 → other_marks < 2 ^ 32 → other_roots < 2 ^ 32 → counts words marks roots ++ x ≡ counts other_words other_marks other_roots ++ y
    → (words ≡ other_words) × (marks ≡ other_marks) × (roots ≡ other_roots) × (x ≡ y)
counts_same words marks roots other_words other_marks other_roots x y w m r v n s same =
    let all = append_same (counts words marks roots) (counts other_words other_marks other_roots) x y refl same in
    let two = append_same (four_bytes words ++ four_bytes marks) (four_bytes other_words ++ four_bytes other_marks) (four_bytes roots) (four_bytes other_roots) refl all.0 in
    let one = append_same (four_bytes words) (four_bytes other_words) (four_bytes marks) (four_bytes other_marks) refl two.0 in
    (four_bytes_same words other_words w v one.0, four_bytes_same marks other_marks m n one.1, four_bytes_same roots other_roots r s two.1, all.1)

-- the bytes after the head
abbrev pub body : Heap → List ℕ
body heap = flat_map eight_bytes heap.words ++ flat_map four_bytes heap.marks ++ flat_map eight_bytes heap.roots

-- how many bytes follow the head
pub length-body : (heap : Heap) → length (body heap) ≡ body_len (length heap.words) (length heap.marks) (length heap.roots)
length-body heap =
    let words = length-pieces eight_bytes 8 (λ _. refl) heap.words in
    let marks = length-pieces four_bytes 4 (λ _. refl) heap.marks in
    let roots = length-pieces eight_bytes 8 (λ _. refl) heap.roots in
    simp length-append (omega arith)

-- an image is its head and then its body
pub encoding_is : (heap : Heap) → encoding heap ≡ head heap.edition (length heap.words) (length heap.marks) (length heap.roots) ++ body heap
encoding_is heap =
    let front = head heap.edition (length heap.words) (length heap.marks) (length heap.roots) in
    let words = flat_map eight_bytes heap.words in
    let marks = flat_map four_bytes heap.marks in
    let roots = flat_map eight_bytes heap.roots in
    ap (λ (bytes : List ℕ). bytes ++ roots) (append_assoc front words marks) ∙ append_assoc front (words ++ marks) roots

-- a heap is determined by its edition and its three lists
heap_same : (one other : Heap) → one.edition ≡ other.edition → one.words ≡ other.words → one.marks ≡ other.marks → one.roots ≡ other.roots → one ≡ other
heap_same one other edition words marks roots =
    let heap : Edition → List ℕ → List ℕ → List ℕ → Heap = λ e a b c. record { edition = e; words = a; marks = b; roots = c } in
    ap (λ (e : Edition). heap e one.words one.marks one.roots) edition
    ∙ ap (λ (x : List ℕ). heap other.edition x one.marks one.roots) words
    ∙ ap (λ (x : List ℕ). heap other.edition other.words x one.roots) marks
    ∙ ap (λ (x : List ℕ). heap other.edition other.words other.marks x) roots

-- each version belongs to one edition
edition_same : (one other : Edition) → version_of one ≡ version_of other → one ≡ other
edition_same One One same = refl
edition_same One Two same = absurd (omega (arith, same))
edition_same Two One same = absurd (omega (arith, same))
edition_same Two Two same = refl
edition_same One Three same = absurd (omega (arith, same))
edition_same Two Three same = absurd (omega (arith, same))
edition_same Three One same = absurd (omega (arith, same))
edition_same Three Two same = absurd (omega (arith, same))
edition_same Three Three same = refl
edition_same One Four same = absurd (omega (arith, same))
edition_same Two Four same = absurd (omega (arith, same))
edition_same Three Four same = absurd (omega (arith, same))
edition_same Four One same = absurd (omega (arith, same))
edition_same Four Two same = absurd (omega (arith, same))
edition_same Four Three same = absurd (omega (arith, same))
edition_same Four Four same = refl

small_version : (edition : Edition) → version_of edition < 2 ^ 32
small_version One = omega arith
small_version Two = omega arith
small_version Three = omega arith
small_version Four = omega arith

-- versions with the same bytes belong to the same edition
pub version_same : (one other : Edition) (x y : List ℕ) → version one ++ x ≡ version other ++ y → (one ≡ other) × (x ≡ y)
version_same one other x y same =
    let parts = append_same (version one) (version other) x y refl same in
    (edition_same one other (four_bytes_same (version_of one) (version_of other) (small_version one) (small_version other) parts.0), parts.1)

-- bodies with the same counts and the same bytes are of the same heap, and what follows them is equal
pub bodies_same : (one other : Heap) (x y : List ℕ) → IsStored one → IsStored other → one.edition ≡ other.edition
    → length one.words ≡ length other.words → length one.marks ≡ length other.marks → length one.roots ≡ length other.roots
    → body one ++ x ≡ body other ++ y → (one ≡ other) × (x ≡ y)
bodies_same one other x y stored other_stored edition words marks roots same =
    let one_words = flat_map eight_bytes one.words in
    let one_marks = flat_map four_bytes one.marks in
    let one_roots = flat_map eight_bytes one.roots in
    let other_words = flat_map eight_bytes other.words in
    let other_marks = flat_map four_bytes other.marks in
    let other_roots = flat_map eight_bytes other.roots in
    let long : length (body one) ≡ length (body other) = omega (arith, length-body one, length-body other) in
    let long_words : length one_words ≡ length other_words =
    omega (arith, length-pieces eight_bytes 8 (λ _. refl) one.words, length-pieces eight_bytes 8 (λ _. refl) other.words) in
    let long_marks : length one_marks ≡ length other_marks =
    omega (arith, length-pieces four_bytes 4 (λ _. refl) one.marks, length-pieces four_bytes 4 (λ _. refl) other.marks) in
    let long_both : length (one_words ++ one_marks) ≡ length (other_words ++ other_marks) = simp length-append (omega arith) in
    let whole = append_same (body one) (body other) x y long same in
    let both = append_same (one_words ++ one_marks) (other_words ++ other_marks) one_roots other_roots long_both whole.0 in
    let each = append_same one_words other_words one_marks other_marks long_words both.0 in (
      heap_same one other edition
          (pieces_same eight_bytes 8 (2 ^ 64) (λ _. refl) eight_bytes_same one.words other.words stored.words other_stored.words words each.0)
          (pieces_same four_bytes 4 (2 ^ 32) (λ _. refl) four_bytes_same one.marks other.marks stored.marks other_stored.marks marks each.1)
          (pieces_same eight_bytes 8 (2 ^ 64) (λ _. refl) eight_bytes_same one.roots other.roots stored.roots other_stored.roots roots both.1),
      whole.1,
    )

-- two heaps with the same image are the same heap
pub images_same : (one other : Heap) → IsStored one → IsStored other → AreCounted one → AreCounted other → encoding one ≡ encoding other → one ≡ other
images_same one other stored other_stored counted other_counted same =
    let one_behind = counts (length one.words) (length one.marks) (length one.roots) ++ body one in
    let other_behind = counts (length other.words) (length other.marks) (length other.roots) ++ body other in
    let bytes : magic ++ (version one.edition ++ one_behind) ≡ magic ++ (version other.edition ++ other_behind) = sym (encoding_is one) ∙ same ∙ encoding_is other in
    let behind = version_same one.edition other.edition one_behind other_behind (append_cancel_left magic _ _ bytes) in
    let found = counts_same (length one.words) (length one.marks) (length one.roots) (length other.words) (length other.marks) (length other.roots) (body one) (body other)
    counted.words counted.marks counted.roots other_counted.words other_counted.marks other_counted.roots behind.1 in
    let bodies : body one ++ [] ≡ body other ++ [] = append-nil (body one) ∙ found.3 ∙ sym (append-nil (body other)) in
    (bodies_same one other [] [] stored other_stored behind.0 found.0 found.1 found.2 bodies).0
