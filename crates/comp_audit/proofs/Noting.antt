-- The headers of journals, and their stamps.
use Rattle.std.proofs.Common.{◌≡◌, ℕ, min, Bool, true, false, eqb, ltb, ◌&&◌, ◌||◌, Some, refl, ap, inl, inr, arith}
use Rattle.std.proofs.lemmas.Bool.{cases_lt, lt-ltb, le-ltb, eq-eqb}
use Rattle.heap_layout.specs.declared.kind.Kind.{Kind}
use Rattle.heap_layout.specs.declared.kind.Kind.TheVariants.{Header}
use Rattle.comp_journal.specs.declared.entry.Entry.{Entry}
use Rattle.comp_history.specs.OneThread.{address_of}
use Rattle.comp_audit.specs.Checks.{is_kind, makes}
use Rattle.comp_audit.proofs.Meanings.{true_and, kind_tested}

-- a header is written at its own address
pub makes_here : (x : ℕ × Entry) → x.1.kind ≡ Header → makes (address_of x) x ≡ true
makes_here x head =
    true_and (is_kind Header (Some x.1.kind)) (eqb (address_of x) (address_of x)) (kind_tested Header (Some x.1.kind) (ap (λ (k : Kind). Some k) head))
    (eq-eqb (address_of x) (address_of x) refl)

-- a conjunction is false where its second part is
pub and_false : (a b : Bool) → b ≡ false → (a && b) ≡ false
and_false true b e = e
and_false false b e = refl

-- the lesser of two stamps is below what one of them is below
pub lesser_below : (one other n : ℕ) → ltb (min one other) n ≡ (ltb one n || ltb other n)
lesser_below one other n =
    elim (cases_lt one n) [
      | inl lt ↦ rw (lt-ltb (min one other) n (omega (arith, lt)), lt-ltb one n lt) refl
      | inr ge ↦
          elim (cases_lt other n) [
            | inl less ↦ rw (lt-ltb (min one other) n (omega (arith, less)), le-ltb one n ge, lt-ltb other n less) refl
            | inr above ↦ rw (le-ltb (min one other) n (omega (arith, ge, above)), le-ltb one n ge, le-ltb other n above) refl
          ]
    ]
