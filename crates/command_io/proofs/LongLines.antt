-- What is read of a text whose lines may be too long.
use Rattle.std.proofs.Common.{◌≡◌, ◌∙◌, ℕ, ◌+◌, ◌-◌, ◌<◌, Bool, true, false, List, [], ◌∷◌, ◌++◌, Option, None, Some, IfSome, inl, inr, ap, append_assoc, append-nil, arith, eq-eqb, ne_eqb, eqb, drop, get_or, length, refl, subst, sym, take}
use Rattle.std.specs.List.{onto_first}
use Rattle.std.specs.Io.KnownBytes.{Consumes, IsAtEnd}
use Rattle.std.proofs.lemmas.Bool.{cases_eq}
use Rattle.std.proofs.lemmas.List.{take_more, take-append-drop}
use Rattle.std.proofs.lemmas.List.Splits.{slice_split-cons_yes, slice_split-cons_no}
use Rattle.comp_trace.specs.Grammar.{parts}
use Rattle.command_io.specs.LongLines.{longest, read_by, read_of}

-- all of a front was read, and this much room is left to its last line
abbrev pub IsReadTo : ℕ → List ℕ → ℕ → Type 0
IsReadTo room front left = (more : List ℕ) → read_by longest room (front ++ more) ≡ front ++ read_by longest left more

feed_read : (room b : ℕ) (more : List ℕ) → b ≡ 10 → read_by longest room (b ∷ more) ≡ b ∷ read_by longest longest more
unfolding read_by
feed_read room b more is = rw (eq-eqb b 10 is) refl

byte_read : (room b : ℕ) (more : List ℕ) → (b ≡ 10 → ⊥) → (room ≡ 0 → ⊥) → read_by longest room (b ∷ more) ≡ b ∷ read_by longest (room - 1) more
unfolding read_by
byte_read room b more other some = rw (ne_eqb b 10 other, ne_eqb room 0 some) refl

last_read : (room b : ℕ) (more : List ℕ) → (b ≡ 10 → ⊥) → room ≡ 0 → read_by longest room (b ∷ more) ≡ b ∷ []
unfolding read_by
last_read room b more other none = rw (ne_eqb b 10 other, eq-eqb room 0 none) refl

pub none_read : (room : ℕ) → IsReadTo room [] room
none_read room more = refl

-- one byte more
one_more : (room left then b : ℕ) (front more : List ℕ) → IsReadTo room front left → ((rest : List ℕ) → read_by longest left (b ∷ rest) ≡ b ∷ read_by longest then rest)
    → read_by longest room ((front ++ b ∷ []) ++ more) ≡ (front ++ b ∷ []) ++ read_by longest then more
one_more room left then b front more before next =
    ap (read_by longest room) (append_assoc front (b ∷ []) more) ∙ before (b ∷ more) ∙ ap (λ (l : List ℕ). front ++ l) (next more)
    ∙ sym (append_assoc front (b ∷ []) (read_by longest then more))

pub feed_more : (room left b : ℕ) (front : List ℕ) → IsReadTo room front left → b ≡ 10 → IsReadTo room (front ++ b ∷ []) longest
feed_more room left b front before is more = one_more room left longest b front more before (λ rest. feed_read left b rest is)

pub byte_more : (room left b : ℕ) (front : List ℕ) → IsReadTo room front left → (b ≡ 10 → ⊥) → (left ≡ 0 → ⊥) → IsReadTo room (front ++ b ∷ []) (left - 1)
byte_more room left b front before other some more = one_more room left (left - 1) b front more before (λ rest. byte_read left b rest other some)

-- the byte for which there is no room is the last
pub byte_last : (room left b : ℕ) (front more : List ℕ) → IsReadTo room front left → (b ≡ 10 → ⊥) → left ≡ 0 → read_by longest room (front ++ b ∷ more) ≡ front ++ b ∷ []
byte_last room left b front more before other none = before (b ∷ more) ∙ ap (λ (l : List ℕ). front ++ l) (last_read left b more other none)

-- ---- byte by byte

pub feed_next : (room left next i : ℕ) (piece : List ℕ) → i < length piece → IsReadTo room (take i piece) left → get_or piece i 0 ≡ 10 → next ≡ longest → IsReadTo room (take (i + 1) piece) next
feed_next room left next i piece lt before is same =
    let b : ℕ = get_or piece i 0 in
    let more : IsReadTo room (take i piece ++ b ∷ []) next = subst (IsReadTo room (take i piece ++ b ∷ [])) (sym same) (feed_more room left b (take i piece) before is) in
    subst (λ (front : List ℕ). IsReadTo room front next) (sym (take_more piece i 0 lt)) more

pub byte_next : (room left next i : ℕ) (piece : List ℕ) → i < length piece → IsReadTo room (take i piece) left → (get_or piece i 0 ≡ 10 → ⊥) → (left ≡ 0 → ⊥) → next ≡ left - 1
    → IsReadTo room (take (i + 1) piece) next
byte_next room left next i piece lt before other some same =
    let b : ℕ = get_or piece i 0 in
    let more : IsReadTo room (take i piece ++ b ∷ []) next = subst (IsReadTo room (take i piece ++ b ∷ [])) (sym same) (byte_more room left b (take i piece) before other some) in
    subst (λ (front : List ℕ). IsReadTo room front next) (sym (take_more piece i 0 lt)) more

pub byte_cut : (room left i : ℕ) (piece more : List ℕ) → i < length piece → IsReadTo room (take i piece) left → (get_or piece i 0 ≡ 10 → ⊥) → left ≡ 0
    → read_by longest room (piece ++ more) ≡ take (i + 1) piece
byte_cut room left i piece more lt before other none =
    let b : ℕ = get_or piece i 0 in
    let rest : List ℕ = drop (i + 1) piece in
    let here : take (i + 1) piece ≡ take i piece ++ b ∷ [] = take_more piece i 0 lt in
    let whole : piece ++ more ≡ take i piece ++ b ∷ (rest ++ more) =
    ap (λ (l : List ℕ). l ++ more) (sym (take-append-drop (i + 1) piece)) ∙ ap (λ (l : List ℕ). (l ++ rest) ++ more) here ∙ append_assoc (take i piece ++ b ∷ []) rest more
    ∙ append_assoc (take i piece) (b ∷ []) (rest ++ more) in
    ap (read_by longest room) whole ∙ byte_last room left b (take i piece) (rest ++ more) before other none ∙ sym here

-- ---- piece by piece

-- a piece more
pub piece_more : (room left then : ℕ) (front piece : List ℕ) → IsReadTo room front left → IsReadTo left piece then → IsReadTo room (front ++ piece) then
piece_more room left then front piece before next more =
    ap (read_by longest room) (append_assoc front piece more) ∙ before (piece ++ more) ∙ ap (λ (l : List ℕ). front ++ l) (next more)
    ∙ sym (append_assoc front piece (read_by longest then more))

-- ---- to the end

-- the reader is at its end
pub all_read : (a : Option (List ℕ)) (text : List ℕ) (left : ℕ) → IfSome a (λ bytes. bytes ≡ text) → IsReadTo longest text left → IfSome a (λ bytes. read_of bytes ≡ text)
unfolding read_of read_by
all_read None text left same before = tt
all_read (Some bytes) text left same before =
    ap (read_by longest longest) (same ∙ sym (append-nil text)) ∙ before [] ∙ append-nil text

-- a line of the piece that was read last was too long
pub cut_read : (a b c : Option (List ℕ)) (text piece kept : List ℕ) (left : ℕ) → Consumes a b text → Consumes b c piece → IsReadTo longest text left
    → ((more : List ℕ) → read_by longest left (piece ++ more) ≡ kept) → IfSome a (λ bytes. read_of bytes ≡ text ++ kept)
unfolding read_of
cut_read None b c text piece kept left p q before cut = tt
cut_read (Some x) None c text piece kept left p q before cut = absurd p
cut_read (Some x) (Some y) None text piece kept left p q before cut = absurd q
cut_read (Some x) (Some y) (Some z) text piece kept left p q before cut =
    ap (read_by longest longest) (p ∙ ap (λ (l : List ℕ). text ++ l) q) ∙ before (piece ++ z) ∙ ap (λ (l : List ℕ). text ++ l) (cut z)

-- ---- a text that is cut does not end with a line feed

-- the last of some parts
abbrev pub last_part : List (List ℕ) → List ℕ
last_part [] = []
last_part (part ∷ []) = part
last_part (part ∷ next ∷ more) = last_part (next ∷ more)

last_onto : (b : ℕ) (all : List (List ℕ)) → last_part (onto_first b all) ≡ [] → last_part all ≡ []
last_onto b [] e = refl
last_onto b (part ∷ []) e = absurd cc
last_onto b (part ∷ next ∷ more) e = e

some_parts : (text : List ℕ) → parts 10 text ≡ [] → ⊥
some_parts [] e = absurd cc
some_parts (b ∷ text) e = elim (cases_eq b 10) [
  | inl same ↦ let cut = sym (slice_split-cons_yes (λ (x : ℕ). eqb x 10) b text (eq-eqb b 10 same)) ∙ e in absurd cc
  | inr other ↦ first_some b (parts 10 text) (sym (slice_split-cons_no (λ (x : ℕ). eqb x 10) b text (ne_eqb b 10 other)) ∙ e)
]
  where
    first_some : (c : ℕ) (all : List (List ℕ)) → onto_first c all ≡ [] → ⊥
    first_some c [] h = absurd cc
    first_some c (part ∷ all) h = absurd cc

last_behind : (all : List (List ℕ)) → (all ≡ [] → ⊥) → last_part ([] ∷ all) ≡ last_part all
last_behind [] some = absurd (some refl)
last_behind (part ∷ all) some = refl

-- if what is read ends with a line feed, or is empty, it is the whole text
whole_by : (most room : ℕ) (text : List ℕ) → last_part (parts 10 (read_by most room text)) ≡ [] → read_by most room text ≡ text
unfolding read_by
whole_by most room [] e = refl
whole_by most room (b ∷ text) e = elim (cases_eq b 10) [
  | inl same ↦
      let test : eqb b 10 ≡ true = eq-eqb b 10 same in
      let rest : List ℕ = read_by most most text in
      let here : read_by most room (b ∷ text) ≡ b ∷ rest = rw test refl in
      let cut : parts 10 (b ∷ rest) ≡ [] ∷ parts 10 rest = slice_split-cons_yes (λ (x : ℕ). eqb x 10) b rest test in
      let ends : last_part (parts 10 rest) ≡ [] = sym (last_behind (parts 10 rest) (some_parts rest)) ∙ ap last_part (sym cut) ∙ ap (λ (l : List ℕ). last_part (parts 10 l)) (sym here) ∙ e in
      here ∙ ap (λ (l : List ℕ). b ∷ l) (whole_by most most text ends)
  | inr other ↦
      let test : eqb b 10 ≡ false = ne_eqb b 10 other in
      elim (cases_eq room 0) [
        | inl none ↦
            let here : read_by most room (b ∷ text) ≡ b ∷ [] = rw (test, eq-eqb room 0 none) refl in
            let cut : parts 10 (b ∷ []) ≡ (b ∷ []) ∷ [] = slice_split-cons_no (λ (x : ℕ). eqb x 10) b [] test in
            let ends : b ∷ [] ≡ [] = ap last_part (sym cut) ∙ ap (λ (l : List ℕ). last_part (parts 10 l)) (sym here) ∙ e in
            absurd cc
        | inr some ↦
            let rest : List ℕ = read_by most (room - 1) text in
            let here : read_by most room (b ∷ text) ≡ b ∷ rest = rw (test, ne_eqb room 0 some) refl in
            let cut : parts 10 (b ∷ rest) ≡ onto_first b (parts 10 rest) = slice_split-cons_no (λ (x : ℕ). eqb x 10) b rest test in
            let ends : last_part (parts 10 rest) ≡ [] =
            last_onto b (parts 10 rest) (ap last_part (sym cut) ∙ ap (λ (l : List ℕ). last_part (parts 10 l)) (sym here) ∙ e) in
            here ∙ ap (λ (l : List ℕ). b ∷ l) (whole_by most (room - 1) text ends)
      ]
]

pub whole_read : (text : List ℕ) → last_part (parts 10 (read_of text)) ≡ [] → read_of text ≡ text
unfolding read_of
whole_read text e = whole_by longest longest text e
