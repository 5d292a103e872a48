-- What the end of the cells says about a finished heap.
use Rattle.std.proofs.Common.{rules, ◌≡◌, ℕ, zero, suc, ◌<◌, ◌≤◌, List, [], ◌∷◌, map, length, Some, None, IsSome, refl, sym, ap, ◌∙◌, ⊎_elim, subst, arith}
use Rattle.std.proofs.lemmas.Bool.{cases_lt}
use mathlib.Core.Option.{some}
use lib.ListN.{get_elem?}
use Rattle.heap_layout.specs.Heap.{live}
use Rattle.heap_layout.specs.declared.edition.Edition.{Edition}
use Rattle.page_plan.specs.Sliding as sliding
use Rattle.cell_steps.specs.Entry.{Entry}
use Rattle.cell_steps.specs.Setup.{Setup}
use Rattle.cell_steps.specs.Lists.{times, total, below, by}
use Rattle.cell_steps.specs.Locks.{Journals}
use Rattle.cell_steps.specs.View.{Slot}
use Rattle.cell_steps.specs.Closing.{journal_at, journal_in, page_at}
use Rattle.cell_steps.specs.Passes.{builds_of, did, edition_of, number_of}
use Rattle.cell_steps.specs.declared.pass.Pass.{Pass}
use Rattle.cell_steps.proofs.Joined.{nil_of}
use Rattle.page_cells.specs.CellEnds.{IsEnd}
use Rattle.comp_history.specs.Merged.{history, written_by, AreOwn, CanMerge}
use Rattle.comp_history.specs.MadeWords.{allocated}
use Rattle.comp_history.specs.Builds.{named}
use Rattle.comp_cycles.specs.Finishes.{allocated_by, there}
use Rattle.comp_access.proofs.Totals.{none_total, one_total, total_below, total_map}

-- past its end a list has no page
no_page : (slots : List Slot) (p : ℕ) → length slots ≤ p → page_at slots p ≡ None
no_page [] zero le = refl
no_page [] (suc p) le = refl
no_page (x ∷ xs) zero le = absurd (omega (arith, le))
no_page (x ∷ xs) (suc p) le = no_page xs p (omega (arith, le))

none_some : (slot : Slot) → slot ≡ None → IsSome slot → ⊥
none_some None e h = absurd (cc)
none_some (Some x) e h = absurd (cc)

some_page : (slot : Slot) (x : _) → slot ≡ Some x → IsSome slot
some_page slot x e = subst IsSome (sym e) (search rules)

module _ (u : Setup) (row : List Pass) (slots : List Slot) (numbers : (k : ℕ) (pass : Pass) → get_elem? row k ≡ some pass → number_of pass ≡ k) (end : IsEnd u row slots) (slid : u.compacted ≡ sliding.pages (live u.heap)) where
  abbrev js : Journals
  js p = journal_at slots p

  -- the journals at the end can be merged
  pub can : CanMerge u js
  can = record {
    slid = slid;
    outside = λ p le. ap journal_in (no_page slots p (omega (arith, end.count, le)));
    lawful = end.lawful;
    rises = end.rises;
    references = end.references;
    stamps = end.stamps;
    no_more = end.no_more;
  }

  strangers : (k p : ℕ) → length row ≤ k → by k (js p) ≡ []
  strangers k p le = nil_of (by k (js p)) (end.strangers k p le)

  pub own_of : (k : ℕ) (pass : Pass) → get_elem? row k ≡ some pass → AreOwn js k (did pass)
  own_of k pass e = let of = end.passes k pass e in record { own = λ p. ap (λ i. by i (js p)) (sym (numbers k pass e)) ∙ of.own p; rises = of.rises }

  own_none : (k : ℕ) → length row ≤ k → AreOwn js k []
  own_none k le = record { own = λ p. strangers k p le; rises = (0, omega arith) }

  by_slot : (p : ℕ) (slot : Slot) → page_at slots p ≡ slot → named p (map builds_of row) ≡ there slot
  by_slot p None e = total_map (times p) builds_of row ∙ none_total (λ (x : Pass). times p (builds_of x)) row (λ k x at. ⊎_elim
      (λ (lt : 0 < times p (builds_of x)). absurd (none_some (page_at slots p) e ((end.built p).1 (k, (x, at, lt)))))
      (λ (le : times p (builds_of x) ≤ 0). let r : times p (builds_of x) ≡ 0 = omega (arith, le) in r) (cases_lt 0 (times p (builds_of x))))
  by_slot p (Some page) e =
      let b = (end.built p).0 (some_page (page_at slots p) page e) in
      let once = (end.passes b.0 b.1.0 b.1.1).once p in
      total_map (times p) builds_of row
      ∙ one_total (λ (x : Pass). times p (builds_of x)) row b.0 b.1.0 b.1.1 (let r : times p (builds_of b.1.0) ≡ 1 = omega (arith, once, b.1.2) in r) (λ j y at lt. end.apart j b.0 p (y, at, lt) b.1)

  -- each page that is there is named once, and no other
  pub built_once : (p : ℕ) → named p (map builds_of row) ≡ there (page_at slots p)
  built_once p = by_slot p (page_at slots p) refl

  -- with the laws of the merged history
  module _ (own_law : (k : ℕ) (mine : List (ℕ × Entry)) → AreOwn js k mine → written_by k (history u js) ≡ mine)
      (sum_law : (n : ℕ) → ((k p : ℕ) → n ≤ k → by k (js p) ≡ []) → (weight : ℕ × Entry → ℕ) → total weight (history u js) ≡ below (λ k. total weight (written_by k (history u js))) n) where
    pub did_law : (k : ℕ) (pass : Pass) → get_elem? row k ≡ some pass → written_by k (history u js) ≡ did pass
    did_law k pass e = own_law k (did pass) (own_of k pass e)

    pub none_law : (k : ℕ) → length row ≤ k → written_by k (history u js) ≡ []
    none_law k le = own_law k [] (own_none k le)

    -- what the mutators allocated is what the history allocates
    pub shares_law : ((k : ℕ) (pass : Pass) → get_elem? row k ≡ some pass → edition_of pass ≡ u.heap.edition) → allocated_by row ≡ allocated u.heap.edition (history u js)
    shares_law about =
        total_below (λ (pass : Pass). allocated (edition_of pass) (did pass)) (λ k. allocated u.heap.edition (written_by k (history u js))) row
        (λ k pass e. ap (allocated u.heap.edition) (did_law k pass e) ∙ ap (λ (x : Edition). allocated x (did pass)) (sym (about k pass e)))
        ∙ sym (sum_law (length row) strangers _)
