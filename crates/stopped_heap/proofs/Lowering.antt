-- The words that a collection leaves are slid words, lowered.
use Rattle.std.proofs.Common.{◌≡◌, ℕ, zero, suc, Some, List, [], ◌∷◌, ◌++◌, map, length, refl, arith}
use Rattle.std.specs.Prelude.{slice_index, slice_get}
use Rattle.std.specs.List.{flat_map}
use Rattle.heap_layout.specs.declared.edition.Edition.{Edition}
use Rattle.heap_layout.specs.Heap.{Heap, Object, object_at, live}
use Rattle.heap_layout.specs.declared.kind.Kind.{Kind}
use Rattle.heap_layout.specs.declared.kind.Kind.TheVariants.{Reference, Weak, Data}
use Rattle.page_plan.specs.Sliding.{forwarded_value, kinds_of, moved}
use Rattle.rest_slide.specs.Settled.{settled, settled_as, settled_word, AreSlid}

-- the first words are the second ones of these kinds after the collection
abbrev Lined : Edition → List ℕ → List ℕ → List Kind → Type 0
Lined edition [] [] [] = Unit {0}
Lined edition [] [] (k ∷ ks) = ⊥
Lined edition [] (y ∷ ys) ks = ⊥
Lined edition (x ∷ xs) [] ks = ⊥
Lined edition (x ∷ xs) (y ∷ ys) [] = ⊥
Lined edition (x ∷ xs) (y ∷ ys) (k ∷ ks) = (x ≡ settled_as edition (Some k) y) × Lined edition xs ys ks

module _ (edition : Edition) (all : List Object) where
  lined-append : (xs ys : List ℕ) (ks : List Kind) (xs' ys' : List ℕ) (ks' : List Kind) → Lined edition xs ys ks → Lined edition xs' ys' ks'
      → Lined edition (xs ++ xs') (ys ++ ys') (ks ++ ks')
  lined-append [] [] [] xs' ys' ks' one two = two
  lined-append [] [] (k ∷ ks) xs' ys' ks' one two = absurd one
  lined-append [] (y ∷ ys) ks xs' ys' ks' one two = absurd one
  lined-append (x ∷ xs) [] ks xs' ys' ks' one two = absurd one
  lined-append (x ∷ xs) (y ∷ ys) [] xs' ys' ks' one two = absurd one
  lined-append (x ∷ xs) (y ∷ ys) (k ∷ ks) xs' ys' ks' one two = (one.0, lined-append xs ys ks xs' ys' ks' one.1 two)

  lined-references : (words : List ℕ) → Lined edition (map (settled_word edition all) words) (map (forwarded_value edition all) words) (map (λ _. Reference) words)
  lined-references [] = tt
  lined-references (word ∷ words) = (refl, lined-references words)

  lined-weak : (words : List ℕ) → Lined edition (map (settled_word edition all) words) (map (forwarded_value edition all) words) (map (λ _. Weak) words)
  lined-weak [] = tt
  lined-weak (word ∷ words) = (refl, lined-weak words)

  lined-data : (words : List ℕ) → Lined edition words words (map (λ _. Data) words)
  lined-data [] = tt
  lined-data (word ∷ words) = (refl, lined-data words)

  lined-object : (words : List ℕ) (i : ℕ) → Lined edition (settled all (object_at edition words i)) (moved all (object_at edition words i)) (kinds_of (object_at edition words i))
  lined-object words i =
      let object = object_at edition words i in (
        refl,
        lined-append (map (settled_word edition all) object.references ++ map (settled_word edition all) object.weak)
            (map (forwarded_value edition all) object.references ++ map (forwarded_value edition all) object.weak)
            (map (λ _. Reference) object.references ++ map (λ _. Weak) object.weak) object.data_words object.data_words (map (λ _. Data) object.data_words)
            (lined-append (map (settled_word edition all) object.references) (map (forwarded_value edition all) object.references) (map (λ _. Reference) object.references)
            (map (settled_word edition all) object.weak) (map (forwarded_value edition all) object.weak) (map (λ _. Weak) object.weak)
            (lined-references object.references) (lined-weak object.weak))
            (lined-data object.data_words),
      )

  lined-objects : (words marks : List ℕ)
      → Lined edition (flat_map (settled all) (map (object_at edition words) marks)) (flat_map (moved all) (map (object_at edition words) marks))
      (flat_map kinds_of (map (object_at edition words) marks))
  lined-objects words [] = tt
  lined-objects words (mark ∷ marks) =
      let object = object_at edition words mark in
      let others = map (object_at edition words) marks in
      lined-append (settled all object) (moved all object) (kinds_of object) (flat_map (settled all) others) (flat_map (moved all) others) (flat_map kinds_of others)
      (lined-object words mark) (lined-objects words marks)

  lined-at : (xs ys : List ℕ) (ks : List Kind) → Lined edition xs ys ks → (i : ℕ) → slice_index xs i ≡ settled_as edition (slice_get ks i) (slice_index ys i)
  lined-at [] [] [] lined i = refl
  lined-at [] [] (k ∷ ks) lined i = absurd lined
  lined-at [] (y ∷ ys) ks lined i = absurd lined
  lined-at (x ∷ xs) [] ks lined i = absurd lined
  lined-at (x ∷ xs) (y ∷ ys) [] lined i = absurd lined
  lined-at (x ∷ xs) (y ∷ ys) (k ∷ ks) lined zero = lined.0
  lined-at (x ∷ xs) (y ∷ ys) (k ∷ ks) lined (suc i) = lined-at xs ys ks lined.1 i

  lined-long : (xs ys : List ℕ) (ks : List Kind) → Lined edition xs ys ks → length xs ≡ length ys
  lined-long [] [] [] lined = refl
  lined-long [] [] (k ∷ ks) lined = absurd lined
  lined-long [] (y ∷ ys) ks lined = absurd lined
  lined-long (x ∷ xs) [] ks lined = absurd lined
  lined-long (x ∷ xs) (y ∷ ys) [] lined = absurd lined
  lined-long (x ∷ xs) (y ∷ ys) (k ∷ ks) lined = let rest = lined-long xs ys ks lined.1 in omega (arith, rest)

pub are-slid : (heap : Heap) → AreSlid heap.edition (live heap)
are-slid heap =
    let all = live heap in
    let xs = flat_map (settled all) all in
    let ys = flat_map (moved all) all in
    let ks = flat_map kinds_of all in
    let lined = lined-objects heap.edition all heap.words heap.marks in
    record { many = lined-long heap.edition all xs ys ks lined; words = lined-at heap.edition all xs ys ks lined }
