-- What a check answers: combined with other checks, and from one page, word or entry to the next.
use Rattle.std.proofs.Common.{◌≡◌, ℕ, zero, suc, ◌+◌, ◌<◌, Bool, true, false, ◌&&◌, List, [], ◌∷◌, ◌++◌, length, map, take, drop, get_or, Option, Some, Result, Err, refl, sym, ap, subst, ◌∙◌, arith, append-nil, length-take}
use Rattle.std.specs.Prelude.{unwrap_or}
use Rattle.std.specs.List.{flat_map, enumerate_from}
use Rattle.std.proofs.Math.Seq.{drop-cons}
use Rattle.std.proofs.lemmas.List.{take_more}
use Rattle.std.proofs.lemmas.List.Concat.{flat_map-append}
use Rattle.heap_layout.proofs.Rows.{append-none, first-part}
use Rattle.comp_dump.specs.declared.fault.AuditFault.{AuditFault}
use Rattle.comp_audit.specs.declared.checks.fault.CheckEnd.{CheckEnd}
use Rattle.comp_audit.specs.declared.checks.fault.CheckEnd.TheVariants as stop
use Rattle.comp_audit.specs.Checks.{unless}
use Rattle.comp_audit.specs.Reported.{IsFirst, Reports}

-- a test of two parts, of which the second fails
pub second_fails : (a b : Bool) (fault : AuditFault) → b ≡ false → IsFirst (unless (a && b) fault) fault
second_fails true false fault e = refl
second_fails true true fault e = absurd cc
second_fails false b fault e = refl

-- a test of two parts, both of which pass
pub both_pass : (a b : Bool) (fault : AuditFault) → a ≡ true → b ≡ true → unless (a && b) fault ≡ []
both_pass true true fault p q = refl
both_pass true false fault p q = absurd cc
both_pass false b fault p q = absurd cc

-- a check that ends early ends all that follow it
pub reports_first : (one others : List AuditFault) (why : CheckEnd) → Reports one (Err why) → Reports (one ++ others) (Err why)
reports_first one others stop.OutOfMemory h = tt
reports_first one others (stop.Fault fault) h = first-part one others fault h

-- after a check that passes, the next one answers
pub reports_then : (one others : List AuditFault) (result : Result (Unit {0}) CheckEnd) → one ≡ [] → Reports others result → Reports (one ++ others) result
reports_then one others result none h = subst (λ (front : List AuditFault). Reports (front ++ others) result) (sym none) h

-- the faults of a list from one item on are those of that item and of the items after it
pub faults_next : {X : Type 0} (f : ℕ × X → List AuditFault) (i : ℕ) (xs : List X) (x : X) → i < length xs
    → flat_map f (enumerate_from i (drop i xs)) ≡ f (i, get_or xs i x) ++ flat_map f (enumerate_from (i + 1) (drop (i + 1) xs))
faults_next {X = X} f i xs x inside =
    let next : suc i ≡ i + 1 = omega arith in
    ap (λ (rest : List X). flat_map f (enumerate_from i rest)) (drop-cons xs i x inside)
    ∙ ap (λ (k : ℕ). f (i, get_or xs i x) ++ flat_map f (enumerate_from (i + 1) (drop k xs))) next

-- an item of a list, with no fault before it: it has the first fault, or none
module _ {X : Type 0} (f : ℕ × X → List AuditFault) (i : ℕ) (xs : List X) (x : X) (all : List AuditFault) (inside : i < length xs) (is : x ≡ get_or xs i x)
    (left : flat_map f (enumerate_from i (drop i xs)) ≡ all) where
  abbrev behind : List AuditFault
  behind = flat_map f (enumerate_from (i + 1) (drop (i + 1) xs))

  parts : f (i, x) ++ behind ≡ all
  parts = ap (λ (y : X). f (i, y) ++ behind) is ∙ sym (faults_next f i xs x inside) ∙ left

  pub first_here : (fault : AuditFault) → f (i, x) ≡ fault ∷ [] → IsFirst all fault
  first_here fault one = subst (λ (l : List AuditFault). IsFirst l fault) (ap (λ (front : List AuditFault). front ++ behind) (sym one) ∙ parts) refl

  pub none_here : f (i, x) ≡ [] → behind ≡ all
  none_here none = ap (λ (front : List AuditFault). front ++ behind) (sym none) ∙ parts

-- if a list has no fault, no item of it has one
pub item_none : {X : Type 0} (f : ℕ × X → List AuditFault) (n : ℕ) (xs : List X) (i k : ℕ) (d : X) → i < length xs → k ≡ n + i
    → flat_map f (enumerate_from n xs) ≡ [] → f (k, get_or xs i d) ≡ []
item_none f n [] i k d inside is none = absurd (omega (arith, inside))
item_none f n (x ∷ xs) zero k d inside is none =
    let here : n ≡ k = omega (arith, is) in
    subst (λ (m : ℕ). f (m, x) ≡ []) here (append-none (f (n, x)) (flat_map f (enumerate_from (n + 1) xs)) none).0
item_none f n (x ∷ xs) (suc i) k d inside is none =
    item_none f (n + 1) xs i k d (omega (arith, inside)) (omega (arith, is)) (append-none (f (n, x)) (flat_map f (enumerate_from (n + 1) xs)) none).1

-- and conversely
pub none_items : {X : Type 0} (f : ℕ × X → List AuditFault) (n : ℕ) (xs : List X) → ((i k : ℕ) (x : X) → i < length xs → k ≡ n + i → x ≡ get_or xs i x → f (k, x) ≡ [])
    → flat_map f (enumerate_from n xs) ≡ []
none_items f n [] each = refl
none_items f n (x ∷ xs) each =
    ap (λ (front : List AuditFault). front ++ flat_map f (enumerate_from (n + 1) xs)) (each 0 n x (omega arith) (omega arith) refl)
    ∙ none_items f (n + 1) xs (λ i k y inside is at. each (suc i) k y (omega (arith, inside)) (omega (arith, is)) at)

-- two tests that agree on all items of a list find the same faults in it
pub same_items : {X : Type 0} (f g : ℕ × X → List AuditFault) (n : ℕ) (xs : List X) → ((k : ℕ) (x : X) → k < n + length xs → f (k, x) ≡ g (k, x))
    → flat_map f (enumerate_from n xs) ≡ flat_map g (enumerate_from n xs)
same_items f g n [] same = refl
same_items f g n (x ∷ xs) same =
    ap (λ (front : List AuditFault). front ++ flat_map f (enumerate_from (n + 1) xs)) (same n x (omega arith))
    ∙ ap (λ (rest : List AuditFault). g (n, x) ++ rest) (same_items f g (n + 1) xs (λ k y lt. same k y (omega (arith, lt))))

-- one more item has its number
enumerate_more : {X : Type 0} (n : ℕ) (xs : List X) (x : X) → enumerate_from n (xs ++ x ∷ []) ≡ enumerate_from n xs ++ (n + length xs, x) ∷ []
enumerate_more {X = X} n [] x = let here : n ≡ n + 0 = omega arith in ap (λ (k : ℕ). (k, x) ∷ []) here
enumerate_more {X = X} n (y ∷ ys) x =
    let number : n + 1 + length ys ≡ n + suc (length ys) = omega arith in
    ap (λ (rest : List (ℕ × X)). (n, y) ∷ rest)
    (enumerate_more (n + 1) ys x ∙ ap (λ (k : ℕ). enumerate_from (n + 1) ys ++ (k, x) ∷ []) number)

-- the faults of the items up to one and of that one are those of the items up to the next
pub faults_more : {X : Type 0} (f : ℕ × X → List AuditFault) (i : ℕ) (xs : List X) (x : X) → i < length xs → x ≡ get_or xs i x
    → flat_map f (enumerate_from 0 (take (i + 1) xs)) ≡ flat_map f (enumerate_from 0 (take i xs)) ++ f (i, x)
faults_more {X = X} f i xs x inside is =
    let long : 0 + length (take i xs) ≡ i = omega (arith, length-take i xs) in
    ap (λ (front : List X). flat_map f (enumerate_from 0 front)) (take_more xs i x inside ∙ ap (λ (y : X). take i xs ++ y ∷ []) (sym is))
    ∙ ap (flat_map f) (enumerate_more 0 (take i xs) x ∙ ap (λ (k : ℕ). enumerate_from 0 (take i xs) ++ (k, x) ∷ []) long)
    ∙ flat_map-append f (enumerate_from 0 (take i xs)) ((i, x) ∷ [])
    ∙ ap (λ (rest : List AuditFault). flat_map f (enumerate_from 0 (take i xs)) ++ rest) (append-nil (f (i, x)))

-- the answers of a function on a list, each a number or 0 if there is none
unwrapped : (zs : List ℕ) → zs ≡ map (λ o. unwrap_or o 0) (map (λ x. Some x) zs)
unwrapped [] = refl
unwrapped (z ∷ zs) = ap (λ (rest : List ℕ). z ∷ rest) (unwrapped zs)

unwrapped_each : (f : ℕ → Option ℕ) (zs : List ℕ) → map (λ o. unwrap_or o 0) (map f zs) ≡ map (λ y. unwrap_or (f y) 0) zs
unwrapped_each f [] = refl
unwrapped_each f (z ∷ zs) = ap (λ (rest : List ℕ). unwrap_or (f z) 0 ∷ rest) (unwrapped_each f zs)

pub are_forwarded : (f : ℕ → Option ℕ) (xs ys : List ℕ) → map (λ x. Some x) xs ≡ map f ys → xs ≡ map (λ y. unwrap_or (f y) 0) ys
are_forwarded f xs ys e = unwrapped xs ∙ ap (λ (os : List (Option ℕ)). map (λ o. unwrap_or o 0) os) e ∙ unwrapped_each f ys
