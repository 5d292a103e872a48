-- Fields that the journals before an entry have already, if the entry makes no object.
use Rattle.std.proofs.Common.{◌≡◌, ℕ, zero, suc, Bool, cond, List, [], ◌∷◌, ◌++◌, sym, ap, ◌∙◌, inl, inr, eq-eqb, ne_eqb}
use Rattle.std.proofs.lemmas.List.{append-nil}
use mathlib.Core.Option as maybe
use mathlib.Core.Logic.{dite}
use native.Mathlib.Decide.{ℕ_discrete}
use lib.ListN.{get_elem?}
use Rattle.heap_layout.specs.declared.kind.Kind.{Kind}
use Rattle.heap_layout.specs.declared.kind.Kind.TheVariants.{Header}
use Rattle.heap_layout.specs.Header.{Head}
use Rattle.heap_layout.specs.declared.edition.Edition.{Edition}
use Rattle.comp_mutator.specs.Entry.{Entry}
use Rattle.comp_mutator.specs.Lists.{on}
use Rattle.comp_mutator.specs.Locks.{Journals}
use Rattle.comp_mutator.specs.Setup.{Setup}
use Rattle.comp_mutator.specs.Objects.{page_at, offset_at, HasHeader, HasShape}
use Rattle.comp_mutator.specs.Fields.{IsFieldOf}
use Rattle.comp_trace.specs.Lines.{with_entries}

at_before : (j : List Entry) (i : ℕ) (e x : Entry) → get_elem? (j ++ x ∷ []) i ≡ maybe.some e → (x.kind ≡ Header → ⊥) → e.kind ≡ Header → get_elem? j i ≡ maybe.some e
at_before [] zero e x at not is = absurd (not (ap (λ (y : Entry). y.kind) (maybe.some-injective x e at) ∙ is))
at_before [] (suc i) e x at not is = at
at_before (y ∷ ys) zero e x at not is = at
at_before (y ∷ ys) (suc i) e x at not is = at_before ys i e x at not is

header_before : (edition : Edition) (j : List Entry) (p q : ℕ) (x : Entry) (offset : ℕ) (header : Head) → (x.kind ≡ Header → ⊥) → HasHeader edition (j ++ on q ((p, x) ∷ [])) offset header → HasHeader edition j offset header
header_before edition j p q x offset header not h = dite (ℕ_discrete p q)
    (λ is. (h.0, h.1, at_before j h.0 h.1 x (ap (λ (t : Bool). get_elem? (j ++ cond t (x ∷ []) []) h.0) (sym (eq-eqb p q is)) ∙ h.2) not h.3, h.3, h.4, h.5))
    (λ other. (h.0, h.1, ap (λ (l : List Entry). get_elem? l h.0) (sym (ap (λ (t : Bool). j ++ cond t (x ∷ []) []) (ne_eqb p q other) ∙ append-nil j)) ∙ h.2, h.3, h.4, h.5))

shape_before : (u : Setup) (journals : Journals) (p : ℕ) (x : Entry) (a : ℕ) (header : Head) → (x.kind ≡ Header → ⊥) → HasShape u (with_entries journals ((p, x) ∷ [])) a header → HasShape u journals a header
shape_before u journals p x a header not (inl slid) = inl slid
shape_before u journals p x a header not (inr h) = inr (h.0, h.1, header_before u.heap.edition (journals (page_at a)) p (page_at a) x (offset_at a) header not h.2)

pub field_before : (u : Setup) (journals : Journals) (p : ℕ) (x : Entry) (kind : Kind) (object field word_address : ℕ) → (x.kind ≡ Header → ⊥) → IsFieldOf u (with_entries journals ((p, x) ∷ [])) kind object field word_address
    → IsFieldOf u journals kind object field word_address
field_before u journals p x kind object field word_address not h = record { header = h.header; shape = shape_before u journals p x object h.header not h.shape; inside = h.inside; address_is = h.address_is }
