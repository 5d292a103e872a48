-- One walk over the row, object by object, which meets the marks in order.
use Rattle.std.proofs.Common.{◌≡◌, ◌≢◌, ℕ, ◌+◌, ◌<◌, ◌≤◌, ◌==◌, ◌&&◌, ◌||◌, Bool, true, false, ltb, List, [], ◌∷◌, ◌++◌, inl, inr, length, get_or, take, drop, refl, sym, ap, ◌∙◌, arith}
use Rattle.std.specs.Int.{from_bool}
use Rattle.std.specs.List.{flat_map, list_any}
use Rattle.std.proofs.lemmas.List.{at_drop_more, take_more, drop_all}
use Rattle.std.proofs.lemmas.List.Folds.{list_any-append}
use Rattle.std.proofs.lemmas.Bool.{and_parts, or_right, le-leb, ltb-true, eqb-true, eq-eqb, ne_eqb, cases_eq}
use Rattle.heap_layout.specs.declared.edition.Edition.{Edition}
use Rattle.heap_layout.specs.Header.{size_of}
use Rattle.heap_layout.specs.Bits.{bit, leads}
use Rattle.heap_layout.specs.Heap.{header_at, starts, starts_at, is_start, is_target, IsPlaced}
use Rattle.heap_layout.specs.Faults.{object_faults, mark_faults, Meets}
use Rattle.heap_layout.proofs.MarkBits.{leads-targets, or_none}
use Rattle.heap_layout.proofs.Rows.{faults-behind, start-here, behind-here, IsSameFrom}

-- The walk came to index `start`, and met `met` marks. The objects from there on have the faults of the whole row.
pub record IsMet (edition : Edition) (words marks : List ℕ) (start met : ℕ) (bits : List ℕ) : Type 0 where
  pub within : start ≤ length words
  pub faults : flat_map (object_faults edition words) (starts_at edition words start) ≡ flat_map (object_faults edition words) (starts edition words)
  pub row : IsSameFrom edition words start
  pub meets : Meets (starts edition words) marks met bits
  pub before : meets.low ≤ start

-- before the first object
pub met-first : (edition : Edition) (words marks bits : List ℕ) → ((j : ℕ) → bit bits j ≡ false) → IsMet edition words marks 0 0 bits
met-first edition words marks bits none = record {
  within = omega arith;
  faults = refl;
  row = λ k above. refl;
  meets = record { low = 0; faults = refl; same = none };
  before = omega arith;
}

-- a mark that rises, at the start of an object, has no fault
mark-met : (row : List ℕ) (low mark k : ℕ) (marks : List ℕ) → k < length marks → get_or marks k 0 ≡ mark → low ≤ mark → is_start row mark ≡ true
    → mark_faults row (mark + 1) (drop (k + 1) marks) ≡ mark_faults row low (drop k marks)
mark-met row low mark k marks lt at rises start =
    sym (at_drop_more (mark_faults row low) marks k 0 lt
    ∙ rw (at, le-leb low mark rises, start) refl)

-- one mark more was met
bit-met : (marks old new : List ℕ) (k mark : ℕ) → k < length marks → get_or marks k 0 ≡ mark → ((j : ℕ) → bit old j ≡ list_any (λ m. m == j) (take k marks))
    → bit new mark ≡ (bit old mark || true) → ((j : ℕ) → j ≢ mark → bit new j ≡ bit old j) → (j : ℕ) → bit new j ≡ list_any (λ m. m == j) (take (k + 1) marks)
bit-met marks old new k mark lt at same here others j =
    let more : take (k + 1) marks ≡ take k marks ++ mark ∷ [] = take_more marks k 0 lt ∙ ap (λ (m : ℕ). take k marks ++ m ∷ []) at in
    let split : list_any (λ m. m == j) (take (k + 1) marks) ≡ (list_any (λ m. m == j) (take k marks) || ((mark == j) || false)) =
    ap (list_any (λ m. m == j)) more ∙ list_any-append (λ m. m == j) (take k marks) (mark ∷ []) in
    elim (cases_eq j mark) [
      | inl is ↦
          ap (bit new) is ∙ here ∙ or_right (bit old mark) true refl
          ∙ sym (split ∙ ap (λ (b : Bool). list_any (λ m. m == j) (take k marks) || (b || false)) (eq-eqb mark j (sym is)) ∙ or_right _ true refl)
      | inr other ↦
          others j other ∙ same j
          ∙ sym (split ∙ ap (λ (b : Bool). list_any (λ m. m == j) (take k marks) || (b || false)) (ne_eqb mark j (λ q. other (sym q))) ∙ or_none (list_any (λ m. m == j) (take k marks)))
    ]

-- one object more
pub met-next : (edition : Edition) (words marks old new : List ℕ) (start met next more : ℕ) (marked : Bool) → IsMet edition words marks start met old → start < length words
    → IsPlaced edition words start → marked ≡ (ltb met (length marks) && (get_or marks met 0 == start))
    → bit new start ≡ (bit old start || marked) → ((j : ℕ) → j ≢ start → bit new j ≡ bit old j)
    → next ≡ start + size_of (header_at edition words start) → more ≡ met + from_bool marked → IsMet edition words marks next more new
met-next edition words marks old new start met next more true of lt placed reported here others ends counted =
    let parts = and_parts (ltb met (length marks)) (get_or marks met 0 == start) (sym reported) in
    let within = ltb-true met (length marks) parts.0 in
    let at = eqb-true (get_or marks met 0) start parts.1 in
    let one : more ≡ met + 1 = counted in
    rw (ends, one) (record {
      within = placed.within;
      faults = faults-behind edition words start placed ∙ of.faults;
      row = λ k above. behind-here edition words start k of.row placed (omega arith);
      meets = record {
        low = start + 1;
        faults = mark-met (starts edition words) of.meets.low start met marks within at of.before (start-here edition words start of.row lt) ∙ of.meets.faults;
        same = bit-met marks old new met start within at of.meets.same here others;
      };
      before = omega arith;
    })
met-next edition words marks old new start met next more false of lt placed reported here others ends counted =
    let one : more ≡ met = omega (arith, counted) in
    rw (ends, one) (record {
      within = placed.within;
      faults = faults-behind edition words start placed ∙ of.faults;
      row = λ k above. behind-here edition words start k of.row placed (omega arith);
      meets = record {
        low = of.meets.low;
        faults = of.meets.faults;
        same = λ j. elim (cases_eq j start) [
          | inl is ↦ ap (bit new) is ∙ here ∙ or_none (bit old start) ∙ ap (bit old) (sym is) ∙ of.meets.same j
          | inr other ↦ others j other ∙ of.meets.same j
        ];
      };
      before = omega (arith, of.before);
    })

-- if all marks are met, they have no fault, and the bits lead to them
pub met-all : (row marks bits : List ℕ) (met : ℕ) → length marks ≤ met → Meets row marks met bits → (mark_faults row 0 marks ≡ []) × (leads bits ≡ is_target marks)
met-all row marks bits met all meets = (
  sym meets.faults ∙ ap (mark_faults row meets.low) (drop_all met marks all),
  leads-targets marks bits met all (record { same = meets.same }),
)
