-- Weak words are written only in heaps of edition two.
use Rattle.std.proofs.Common.{◌≡◌, ◌≢◌, ℕ, zero, suc, ◌+◌, ◌*◌, ◌<◌, ◌≤◌, List, [], ◌∷◌, ◌++◌, refl, sym, ap, ◌∙◌, ⊎_elim, subst, arith}
use Rattle.std.proofs.lemmas.Bool.{cases_lt}
use mathlib.Core.Option.{some, some-injective, some-ne-none}
use lib.ListN.{get_elem?}
use Rattle.heap_layout.specs.Header.{Head, header_of, weak_of}
use Rattle.heap_layout.specs.Heap.{IsClosed}
use Rattle.heap_layout.specs.declared.edition.Edition.{Edition}
use Rattle.heap_layout.specs.declared.edition.Edition.TheVariants.{One, Two, Three, Four}
use Rattle.heap_layout.specs.declared.kind.Kind.{Kind}
use Rattle.heap_layout.specs.declared.kind.Kind.TheVariants.{Weak}
use Rattle.page_plan.proofs.Owners.{objects_stand}
use Rattle.comp_journal.specs.declared.entry.Entry.{Entry}
use Rattle.cell_steps.specs.Setup.{Setup}
use Rattle.cell_steps.specs.Lawful.{Fits, IsField, LawfulAfter}
use Rattle.page_cells.proofs.Heads.{fresh_kind, lawful_more}
use Rattle.page_cells.proofs.Fields.{compacted_kind}
use Rattle.comp_history.proofs.Sorted.{In}
use Rattle.comp_history.proofs.Words.{owner, field_of}

-- a header with weak words is not of edition one
has_weak : (edition : Edition) (word f : ℕ) → f < weak_of (header_of edition word) → edition ≢ One
has_weak One word f lt = absurd (omega (arith, lt))
has_weak Two word f lt = λ same. cc
has_weak Three word f lt = λ same. cc
has_weak Four word f lt = λ same. cc

module _ (u : Setup) (closed : IsClosed u.heap) (p : ℕ) where
  weak_word : (before : List Entry) (o : ℕ) → LawfulAfter u p [] before → IsField u p before Weak o → u.heap.edition ≢ One
  weak_word before o lawful field = ⊎_elim
      (λ (lt : p < u.compacted).
      let stand = objects_stand u.heap closed in
      let r = stand.fields (64 * p + o) Weak (λ z. cc) (sym (compacted_kind u p before o lt) ∙ field.kind_is) in
      let word = (stand.stands r.address r.header r.starts).word in
      has_weak u.heap.edition _ r.field (subst (λ (h : Head). r.field < weak_of h) (sym word) r.inside))
      (λ (le : u.compacted ≤ p).
      let w = owner u p before [] Weak o o lawful (sym (fresh_kind u p before o le) ∙ field.kind_is) (omega arith) in
      let r = field_of u.heap.edition before Weak o (λ z. cc) w in
      has_weak u.heap.edition w.entry.value r.0 r.1)
      (cases_lt p u.compacted)

  -- an entry that writes a weak word and fits its page
  weak_fits : (before : List Entry) (k : Kind) (writer offset value : ℕ) → k ≡ Weak → LawfulAfter u p [] before → Fits u p before k writer offset value → u.heap.edition ≢ One
  weak_fits before k writer offset value is lawful fits = weak_word before offset lawful (subst (λ (c : Kind). Fits u p before c writer offset value) is fits)

  -- each entry of a lawful journal that writes a weak word
  pub weak_entry : (after before : List Entry) → LawfulAfter u p [] before → LawfulAfter u p before after
      → (i : ℕ) (e : Entry) → get_elem? after i ≡ some e → e.kind ≡ Weak → u.heap.edition ≢ One
  weak_entry [] before done h i e at is = absurd (some-ne-none e (sym at))
  weak_entry (x ∷ es) before done h zero e at is =
      weak_fits before x.kind x.writer x.offset x.value (ap (λ (y : Entry). y.kind) (some-injective x e at) ∙ is) done h.0
  weak_entry (x ∷ es) before done h (suc i) e at is = weak_entry es (before ++ x ∷ []) (lawful_more u p before [] x done h.0) h.1 i e at is

  -- the same for an entry given as a member of the journal
  pub weak_in : (after before : List Entry) → LawfulAfter u p [] before → LawfulAfter u p before after → (e : Entry) → In e after → e.kind ≡ Weak → u.heap.edition ≢ One
  weak_in [] before done h e i is = absurd i
  weak_in (x ∷ es) before done h e i is = ⊎_elim
      (λ (same : x ≡ e). weak_fits before x.kind x.writer x.offset x.value (ap (λ (y : Entry). y.kind) same ∙ is) done h.0)
      (λ t. weak_in es (before ++ x ∷ []) (lawful_more u p before [] x done h.0) h.1 e t is)
      i
