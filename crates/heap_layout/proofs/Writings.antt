-- Lemmas on writing one part after another.
use Rattle.std.proofs.Common.{◌≡◌, ℕ, suc, ◌+◌, ◌-◌, ◌<◌, inl, inr, List, ◌∷◌, ◌++◌, length, take, drop, get_or, Option, Result, Ok, Err, sym, ap, subst, ◌∙◌, arith, take-append-drop}
use Rattle.std.specs.List.{flat_map}
use Rattle.std.specs.Io.KnownBytes.{Appends}
use Rattle.std.proofs.KnownBytes.{Appends-trans}
use Rattle.std.proofs.lemmas.List.{take-append-le, take_all}
use Rattle.std.proofs.lemmas.List.Concat.{flat_map-append, flat_map-cons}
use Rattle.std.proofs.lemmas.Bool.{cases_lt}
use Rattle.std.proofs.Math.Seq.{take-add, take-append-add, drop-cons}
use Rattle.heap_layout.specs.Writing.{AppendsSome, Writes}

-- a beginning of the first part is a beginning of both
pub some_first : (a b : Option (List ℕ)) (part more : List ℕ) → AppendsSome a b part → AppendsSome a b (part ++ more)
some_first a b part more some =
    let taken = some.taken in
    elim (cases_lt taken (length part)) [
      | inl lt ↦ record { taken = taken; bytes = subst (Appends a b) (sym (take-append-le taken part more (omega arith))) some.bytes }
      | inr le ↦ record {
        taken = length part;
        bytes = subst (Appends a b) (take_all taken part le ∙ sym (take_all (length part) part (omega arith)) ∙ sym (take-append-le (length part) part more (omega arith))) some.bytes;
      }
    ]

-- all of the first part and a beginning of the second are a beginning of both
pub some_then : (a b c : Option (List ℕ)) (part more : List ℕ) → Appends a b part → AppendsSome b c more → AppendsSome a c (part ++ more)
some_then a b c part more first some = record {
  taken = length part + some.taken;
  bytes = subst (Appends a c) (sym (take-append-add part more some.taken)) (Appends-trans a b c part (take some.taken more) first some.bytes);
}

-- all of the first part, and then what a call wrote of the second
pub writes_then : {E : Type 0} (a b c : Option (List ℕ)) (part more : List ℕ) (result : Result (Unit {0}) E) → Appends a b part → Writes b c more result → Writes a c (part ++ more) result
writes_then a b c part more (Ok _) first next = Appends-trans a b c part more first next
writes_then a b c part more (Err _) first next = some_then a b c part more first next

-- the items before i were written, and a beginning of item i
pub some_in : {X : Type 0} (bytes : X → List ℕ) (a b c : Option (List ℕ)) (i : ℕ) (d x : X) (xs : List X) → i < length xs → x ≡ get_or xs i d
    → Appends a b (flat_map bytes (take i xs)) → AppendsSome b c (bytes x) → AppendsSome a c (flat_map bytes xs)
some_in {X = X} bytes a b c i d x xs inside is before h =
    let behind = drop (suc i) xs in
    let parts : xs ≡ take i xs ++ x ∷ behind =
    sym (take-append-drop i xs) ∙ ap (λ (rest : List X). take i xs ++ rest) (drop-cons xs i d inside ∙ ap (λ (y : X). y ∷ behind) (sym is)) in
    let all : flat_map bytes xs ≡ flat_map bytes (take i xs) ++ (bytes x ++ flat_map bytes behind) =
    ap (flat_map bytes) parts ∙ flat_map-append bytes (take i xs) (x ∷ behind) ∙ ap (λ (rest : List ℕ). flat_map bytes (take i xs) ++ rest) (flat_map-cons bytes x behind) in
    subst (AppendsSome a c) (sym all)
    (some_then a b c (flat_map bytes (take i xs)) (bytes x ++ flat_map bytes behind) before (some_first b c (bytes x) (flat_map bytes behind) h))

-- n items more, after the first i
pub items_more : {X : Type 0} (bytes : X → List ℕ) (a b c : Option (List ℕ)) (i n : ℕ) (xs : List X)
    → Appends a b (flat_map bytes (take i xs)) → Appends b c (flat_map bytes (take (i + n - i) (drop i xs))) → Appends a c (flat_map bytes (take (i + n) xs))
items_more {X = X} bytes a b c i n xs before h =
    let some = take n (drop i xs) in
    let many : i + n - i ≡ n = omega arith in
    let all : flat_map bytes (take (i + n) xs) ≡ flat_map bytes (take i xs) ++ flat_map bytes some =
    ap (flat_map bytes) (take-add i n xs) ∙ flat_map-append bytes (take i xs) some in
    let appended : Appends b c (flat_map bytes some) = subst (λ (k : ℕ). Appends b c (flat_map bytes (take k (drop i xs)))) many h in
    subst (Appends a c) (sym all) (Appends-trans a b c (flat_map bytes (take i xs)) (flat_map bytes some) before appended)

-- the first i items were written, and a beginning of the next n
pub some_within : {X : Type 0} (bytes : X → List ℕ) (a b c : Option (List ℕ)) (i n : ℕ) (xs : List X)
    → Appends a b (flat_map bytes (take i xs)) → AppendsSome b c (flat_map bytes (take n (drop i xs))) → AppendsSome a c (flat_map bytes xs)
some_within {X = X} bytes a b c i n xs before h =
    let front = take i xs in
    let rest = drop i xs in
    let parts : rest ≡ take n rest ++ drop n rest = sym (take-append-drop n rest) in
    let all : flat_map bytes xs ≡ flat_map bytes front ++ (flat_map bytes (take n rest) ++ flat_map bytes (drop n rest)) =
    ap (flat_map bytes) (sym (take-append-drop i xs)) ∙ flat_map-append bytes front rest
    ∙ ap (λ (more : List ℕ). flat_map bytes front ++ more) (ap (flat_map bytes) parts ∙ flat_map-append bytes (take n rest) (drop n rest)) in
    subst (AppendsSome a c) (sym all)
    (some_then a b c (flat_map bytes front) (flat_map bytes (take n rest) ++ flat_map bytes (drop n rest)) before
    (some_first b c (flat_map bytes (take n rest)) (flat_map bytes (drop n rest)) h))
