-- The header of an object, by its word.
use Rattle.std.proofs.Common.{◌≡◌, ℕ, ◌+◌, true, false, cond, eqb, Some, List, [], ◌∷◌, map, sym, ap, subst, inl, ◌∙◌}
use Rattle.std.proofs.lemmas.Option.{none-some, same_Some}
use Rattle.heap_layout.specs.declared.edition.Edition.{Edition}
use Rattle.heap_layout.specs.Header.{Head}
use Rattle.heap_layout.specs.Heap.{object_at}
use Rattle.page_plan.specs.Sliding.{header_from, size, to_address}
use Rattle.cell_steps.specs.Setup.{Setup}
use Rattle.cell_steps.specs.Locks.{Journals}
use Rattle.page_cells.specs.Objects.{HasShape, HasSlid}
use Rattle.comp_access.specs.HeaderCalls.{IsHeaderWord}
use Rattle.comp_access.proofs.OwnPages.{read_back}

edition_from : (edition : Edition) (words marks : List ℕ) (here a : ℕ) (header : Head) → header_from here (map (object_at edition words) marks) a ≡ Some header
    → header.edition ≡ edition
edition_from edition words [] here a header e = absurd (none-some header e)
edition_from edition words (mark ∷ marks) here a header e =
    let first = object_at edition words mark in
    elim (eqb here a) as (λ b. cond b (Some first.header) (header_from (here + size first) (map (object_at edition words) marks) a) ≡ Some header → header.edition ≡ edition) [
      | true ↦ λ same. ap (λ (h : Head). h.edition) (sym (same_Some first.header header same))
      | false ↦ λ later. edition_from edition words marks (here + size first) a header later
    ] e

-- the header of a slid object is of the heap's edition
slid_edition : (u : Setup) (a : ℕ) (header : Head) → HasSlid u a header → header.edition ≡ u.heap.edition
slid_edition u a header slid = edition_from u.heap.edition u.heap.words u.heap.marks (to_address 0) a header slid

-- the word of the header of a slid object
pub slid_word : (u : Setup) (journals : Journals) (a : ℕ) (header : Head) → HasSlid u a header → IsHeaderWord u journals a header.word
slid_word u journals a header slid =
    let back = read_back u.heap.edition header (slid_edition u a header slid) in
    record {
      shape = subst (HasShape u journals a) (sym back) (inl slid);
      slid = λ own is. same_Some own header (sym is ∙ slid) ∙ sym back;
    }

-- the word of the header of an object that did not slide
pub fresh_word : (u : Setup) (journals : Journals) (a : ℕ) (header : Head) → ((own : Head) → HasSlid u a own → ⊥) → header.edition ≡ u.heap.edition → HasShape u journals a header
    → IsHeaderWord u journals a header.word
fresh_word u journals a header apart edition shape = record {
  shape = subst (HasShape u journals a) (sym (read_back u.heap.edition header edition)) shape;
  slid = λ own is. absurd (apart own is);
}
