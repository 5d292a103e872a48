-- How writes and allocations change the number of words that a mutator has allocated.
use Rattle.std.proofs.Common.{◌≡◌, ◌≢◌, ℕ, ◌+◌, ◌*◌, ◌<◌, ◌==◌, Bool, true, false, cond, List, [], ◌∷◌, ◌++◌, length, Result, Ok, Err, refl, sym, ap, ◌∙◌, subst, arith}
use Rattle.std.specs.Result.{IfErr, IfOk}
use Rattle.heap_layout.specs.Header.{size_of, Head, header_of}
use Rattle.heap_layout.specs.declared.kind.Kind.{Kind}
use Rattle.heap_layout.specs.declared.kind.Kind.TheVariants.{Header, Reference, Weak, Data}
use Rattle.cell_steps.specs.Entry.{Entry}
use Rattle.cell_steps.specs.Setup.{Setup}
use Rattle.cell_steps.specs.Lists.{on}
use Rattle.cell_steps.specs.Lawful.{filled, kinds_by}
use Rattle.cell_steps.specs.Passes.{did, edition_of, number_of, view_of}
use Rattle.cell_steps.specs.declared.pass.Pass.{Pass}
use Rattle.page_cells.specs.Objects.{offset_at, page_at}
use Rattle.comp_history.specs.MadeWords.{allocated, words_by}
use Rattle.comp_access.specs.Allocations.{own_page, used, Counts}
use Rattle.comp_access.specs.Writes.{entry_by, Writes}
use Rattle.comp_access.specs.declared.refusal.Refusal.{Refusal}
use Rattle.comp_access.proofs.OwnPages.{filled_append, on_append, read_back}
use Rattle.heap_layout.specs.declared.edition.Edition.{Edition}

-- No object was made.
pub record MakesNothing (edition : Edition) (old new : Pass) : Type 0 where
  pub words : allocated edition (did new) ≡ allocated edition (did old)
  pub pages : (p : ℕ) → filled edition (on p (did new)) ≡ filled edition (on p (did old))

no_words : (edition : Edition) (kind : Kind) (value : ℕ) → kind ≢ Header → words_by edition kind value ≡ 0
no_words edition Header value h = absurd (h refl)
no_words edition Reference value h = refl
no_words edition Weak value h = refl
no_words edition Data value h = refl

no_kinds : (edition : Edition) (kind : Kind) (value : ℕ) → kind ≢ Header → length (kinds_by edition kind value ++ []) ≡ 0
no_kinds edition Header value h = absurd (h refl)
no_kinds edition Reference value h = refl
no_kinds edition Weak value h = refl
no_kinds edition Data value h = refl

-- one entry more
pub allocated_more : (edition : Edition) (xs : List (ℕ × Entry)) (p : ℕ) (e : Entry) → allocated edition (xs ++ (p, e) ∷ []) ≡ allocated edition xs + words_by edition e.kind e.value
allocated_more edition [] p e = omega arith
allocated_more edition (x ∷ xs) p e = let rest = allocated_more edition xs p e in omega arith

pub made_one : (edition : Edition) (old new : Pass) (p : ℕ) (e : Entry) → did new ≡ did old ++ (p, e) ∷ [] → allocated edition (did new) ≡ allocated edition (did old) + words_by edition e.kind e.value
made_one edition old new p e more = ap (allocated edition) more ∙ allocated_more edition (did old) p e

-- The count of allocated words, with the words of an object that was made: it agrees with what the mutator allocated.
pub counted_more : (u : Setup) (old new : Pass) (header : Head) (index stamp made words : ℕ) → edition_of old ≡ u.heap.edition → edition_of new ≡ u.heap.edition → header.edition ≡ u.heap.edition
    → did new ≡ did old ++ (own_page u (number_of old) index, entry_by old stamp Header (used u old index) header.word) ∷ [] → words ≡ size_of header
    → made ≡ allocated (edition_of old) (did old) → made + words ≡ allocated (edition_of new) (did new)
counted_more u old new header index stamp made words by_old by_new edition adds is was =
    let e = u.heap.edition in
    let one : allocated e (did new) ≡ allocated e (did old) + size_of (header_of e header.word) =
    made_one e old new (own_page u (number_of old) index) (entry_by old stamp Header (used u old index) header.word) adds in
    let size = ap size_of (read_back e header edition) in
    let before = was ∙ ap (λ (x : Edition). allocated x (did old)) by_old in
    let all : made + words ≡ allocated e (did new) = omega (arith, one, is, before, size) in
    all ∙ ap (λ (x : Edition). allocated x (did new)) (sym by_new)

one_on : (edition : Edition) (p q : ℕ) (e : Entry) (b : Bool) → e.kind ≢ Header → filled edition (cond b (e ∷ []) []) ≡ 0
one_on edition p q e true h = no_kinds edition e.kind e.value h
one_on edition p q e false h = refl

page_same : (edition : Edition) (xs : List (ℕ × Entry)) (p q : ℕ) (e : Entry) → e.kind ≢ Header → filled edition (on q (xs ++ (p, e) ∷ [])) ≡ filled edition (on q xs)
page_same edition xs p q e h =
    let rest = one_on edition p q e (p == q) h in
    let whole = ap (filled edition) (on_append q xs ((p, e) ∷ [])) ∙ filled_append edition (on q xs) (on q ((p, e) ∷ [])) in
    omega (arith, whole, rest)

-- a call that writes no entry makes no object
pub makes_nothing : (edition : Edition) (old new : Pass) → did new ≡ did old → MakesNothing edition old new
makes_nothing edition old new same = record { words = ap (allocated edition) same; pages = λ p. ap (λ l. filled edition (on p l)) same }

-- a write makes no object, nor does a refused write; before it the pass wrote nothing
pub made_nothing : (r : Result ℕ Refusal) (u : Setup) (old middle new : Pass) (kind : Kind) (object field value : ℕ) → did middle ≡ did old → kind ≢ Header
    → IfOk r (Writes u middle new kind object field value) → IfErr r (λ _. did new ≡ did middle) → MakesNothing u.heap.edition old new
made_nothing (Ok stamp) u old middle new kind object field value before h wrote same =
    let edition = u.heap.edition in
    let e = entry_by middle stamp kind (offset_at wrote.word_address) value in
    let none = no_words edition kind value h in
    let more = allocated_more edition (did middle) (page_at wrote.word_address) e in
    record {
      words = ap (allocated edition) wrote.adds.did ∙ omega (arith, more, none) ∙ ap (allocated edition) before;
      pages = λ p. ap (λ l. filled edition (on p l)) wrote.adds.did ∙ page_same edition (did middle) (page_at wrote.word_address) p e h ∙ ap (λ l. filled edition (on p l)) before;
    }
made_nothing (Err refusal) u old middle new kind object field value before h wrote same = makes_nothing u.heap.edition old new (same ∙ before)

module _ (u : Setup) (old new : Pass) where
  -- the counts of own pages stay right, whichever pass about this heap they are of
  pub counts_still : (fills : List ℕ) → (view_of old).about ≡ u → (view_of new).about ≡ u → number_of new ≡ number_of old → MakesNothing u.heap.edition old new
      → Counts (view_of old).about old fills → Counts (view_of new).about new fills
  counts_still fills by_old by_new number made was =
      let h = subst (λ (w : Setup). Counts w old fills) by_old was in
      subst (λ (w : Setup). Counts w new fills) (sym by_new) (record {
        few = h.few;
        small = h.small;
        used = λ i lt. h.used i lt ∙ ap (λ n. filled u.heap.edition (on (own_page u n i) (did old))) (sym number) ∙ sym (made.pages (own_page u (number_of new) i));
        there = λ i lt. subst (λ n. n + i * u.mutators < u.fresh) (sym number) (h.there i lt);
        all = λ i there. h.all i (subst (λ n. n + i * u.mutators < u.fresh) number there);
      })

  -- and so does the number of allocated words
  pub words_still : (total : ℕ) → (view_of old).about ≡ u → (view_of new).about ≡ u → MakesNothing u.heap.edition old new
      → total ≡ allocated (edition_of old) (did old) → total ≡ allocated (edition_of new) (did new)
  words_still total by_old by_new made was =
      was ∙ ap (λ (w : Setup). allocated w.heap.edition (did old)) by_old ∙ sym made.words ∙ ap (λ (w : Setup). allocated w.heap.edition (did new)) (sym by_new)

-- counts stay right if the setup and the counts are replaced by equal ones
pub counts_are : {u v : Setup} {pass : Pass} {fills others : List ℕ} → v ≡ u → others ≡ fills → Counts u pass fills → Counts v pass others
counts_are {u} {v} {pass} {fills} {others} about same h = subst (λ (w : Setup). Counts w pass others) (sym about) (subst (λ l. Counts u pass l) (sym same) h)
