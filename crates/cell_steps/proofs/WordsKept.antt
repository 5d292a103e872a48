-- The words of pages after a step.
use Rattle.std.proofs.Common.{◌≡◌, ℕ, ◌+◌, ◌%◌, ◌<◌, ◌≤◌, ◌≢◌, ◌⊎◌, List, [], ◌∷◌, ◌++◌, length, get_or, replicate, set, sym, refl, ap, ◌∙◌, ⊎_elim, arith, subst, None, Some, length-set, get_or-set_other, get_or-set_same, append-nil, true, false, cond, ltb}
use Rattle.std.proofs.lemmas.Bool.{cases_lt}
use Rattle.std.proofs.lemmas.Bool.Decides.{nat_tests}
use Rattle.std.proofs.lemmas.List.{length-replicate}
use Rattle.std.proofs.lemmas.List.Sums.{fold-append}
use Rattle.std.proofs.lemmas.Option.{none-some}
use Rattle.std.specs.Int.{bit_at}
use mathlib.Core.Logic.{dite}
use native.Mathlib.Decide.{ℕ_discrete}
use mathlib.Core.Option as maybe
use lib.ListN.{get_elem?}
use Rattle.atomic_table.proofs.Lists.{at_set, at_longer}
use Rattle.heap_layout.specs.Heap.{live}
use Rattle.page_plan.specs.Sliding as sliding
use Rattle.page_plan.proofs.Pages.{page-length}
use Rattle.comp_journal.specs.Journal.{written, replayed}
use Rattle.comp_journal.specs.declared.entry.Entry.{Entry}
use Rattle.cell_steps.specs.Setup.{Setup, pages, fresh_page, base_of, starts_at, page_word_at, words_end}
use Rattle.cell_steps.specs.Lists.{look, but, StartsWith}
use Rattle.cell_steps.specs.View.{Known, blank}
use Rattle.cell_steps.specs.Locks.{Journals, seen_of}
use Rattle.cell_steps.specs.Lawful.{HasHead}
use Rattle.cell_steps.specs.Plays.{drawing, storing}
use Rattle.cell_steps.specs.Words.{late_in, laid_at, word_in, made_at, Stores, Words}
use Rattle.cell_steps.specs.declared.view.View.{View}
use Rattle.cell_steps.proofs.Sums.{but-same, but-other, look-other, starts-refl, starts-more, starts-nil, each-set, each-snoc}

-- the base of a page has 64 words
pub base_long : (u : Setup) (p : ℕ) → length (base_of u p) ≡ 64
base_long u p = elim (ltb p u.compacted) as (λ b. length (cond b (sliding.page (live u.heap) p) (replicate 64 0)) ≡ 64) [ true ↦ page-length (live u.heap) p | false ↦ length-replicate {A = ℕ} 64 0 ]

-- writes do not change the number of words
pub replayed_long : (base : List ℕ) (l : List Entry) → length (replayed base l) ≡ length base
replayed_long base [] = refl
replayed_long base (e ∷ es) = replayed_long (written base e) es ∙ length-set base e.offset e.value

-- the word that a journal with one more entry makes
made_last : (u : Setup) (p : ℕ) (l : List Entry) (e : Entry) (offset : ℕ) → made_at u p (l ++ e ∷ []) offset ≡ get_or (set (replayed (base_of u p) l) e.offset e.value) offset 0
made_last u p l e offset = ap (λ (ws : List ℕ). get_or ws offset 0) (fold-append written (base_of u p) l (e ∷ []))

-- before any word of the base is stored, all are 0
pub laid_none : (u : Setup) (p offset : ℕ) → laid_at u p 0 offset ≡ 0
laid_none u p offset = let z : ltb offset 0 ≡ false = grind (arith, nat_tests) in ap (λ b. cond b (get_or (base_of u p) offset 0) 0) z

laid_all : (u : Setup) (p n offset : ℕ) → (n ≤ offset → get_or (base_of u p) offset 0 ≡ 0) → laid_at u p n offset ≡ get_or (base_of u p) offset 0
laid_all u p n offset zero_ = ⊎_elim
    (λ (lt : offset < n). let z : ltb offset n ≡ true = grind (arith, nat_tests) in ap (λ b. cond b (get_or (base_of u p) offset 0) 0) z)
    (λ (le : n ≤ offset). let z : ltb offset n ≡ false = grind (arith, nat_tests) in ap (λ b. cond b (get_or (base_of u p) offset 0) 0) z ∙ sym (zero_ le))
    (cases_lt offset n)

-- storing words that are 0 in the base changes nothing
pub laid_more : (u : Setup) (p n m offset : ℕ) → n ≤ m → (n ≤ offset → offset < m → get_or (base_of u p) offset 0 ≡ 0) → laid_at u p n offset ≡ laid_at u p m offset
laid_more u p n m offset le zero_ = ⊎_elim
    (λ (lt : offset < m). laid_all u p n offset (λ low. zero_ low lt) ∙ sym (laid_all u p m offset (λ low. absurd (omega (arith, lt, low)))))
    (λ (high : m ≤ offset). let a : ltb offset n ≡ false = grind (arith, le, high, nat_tests) in let b : ltb offset m ≡ false = grind (arith, nat_tests) in
    ap (λ c. cond c (get_or (base_of u p) offset 0) 0) a ∙ sym (ap (λ c. cond c (get_or (base_of u p) offset 0) 0) b))
    (cases_lt offset m)

pub laid_now : (u : Setup) (p offset : ℕ) → laid_at u p (offset + 1) offset ≡ get_or (base_of u p) offset 0
laid_now u p offset = laid_all u p (offset + 1) offset (λ low. absurd (omega (arith, low)))

-- a header of a journal is also one of a longer journal
pub has_longer : (l more : List Entry) (offset : ℕ) → HasHead l offset → HasHead (l ++ more) offset
has_longer l more offset h = (h.0, h.1, at_longer l more h.0 h.1 h.2, h.3, h.4)

-- a word changes that is of no page
pub word_else : (u : Setup) (words : List ℕ) (i n p offset : ℕ) → i < page_word_at u 0 0 → word_in u (set words i n) p offset ≡ word_in u words p offset
word_else u words i n p offset lt = get_or-set_other words i (page_word_at u p offset) n 0 (λ e. omega (arith, e, lt))

-- if no word is left to store, all entries of the journal are stored
all_stored : (js stored : Journals) (v : View) (p : ℕ) → v.late ≡ None → js p ≡ stored p ++ late_in v.late → stored p ≡ js p
all_stored js stored v p none late = sym (late ∙ ap (λ d. stored p ++ late_in d) none ∙ append-nil (stored p))

-- a view with the same page, the same word left to store and the same entries seen
pub stores_same : (u : Setup) (words : List ℕ) (js stored : Journals) (v w : View) → w.at ≡ v.at → w.mode ≡ v.mode → w.late ≡ v.late → w.laid ≡ v.laid
    → w.known.seen ≡ v.known.seen → ((p : ℕ) → StartsWith (stored p) (look [] w.heard.seen p)) → Stores u words js stored v → Stores u words js stored w
stores_same u words js stored v w at mode late laid seen told h = record {
  seen = λ p due. subst (λ l. StartsWith (stored p) (look [] l p)) (sym seen) (h.seen p (λ e. sym late ∙ due (at ∙ e)));
  late = λ p e. h.late p (sym at ∙ e) ∙ ap (λ d. stored p ++ late_in d) (sym late);
  laid = λ p offset e building lt. h.laid p offset (sym at ∙ e) (sym mode ∙ building) lt ∙ ap (λ n. laid_at u p n offset) (sym laid);
  heard = told;
}

-- words change that are of no page
pub stores_words : (u : Setup) (words words' : List ℕ) (js stored : Journals) (v : View) → ((p offset : ℕ) → word_in u words' p offset ≡ word_in u words p offset)
    → Stores u words js stored v → Stores u words' js stored v
stores_words u words words' js stored v same h = record {
  seen = h.seen;
  late = h.late;
  laid = λ p offset e building inside. same p offset ∙ h.laid p offset e building inside;
  heard = h.heard;
}

-- a view changes
pub words_stay : (u : Setup) (words : List ℕ) (views : List View) (js : Journals) (id : ℕ) (w : View) (h : Words u words views js) → Stores u words js h.stored w
    → Words u words (set views id w) js
words_stay u words views js id w h now = record {
  stored = h.stored;
  begins = h.begins;
  whole = h.whole;
  made = h.made;
  blank = h.blank;
  heads = h.heads;
  stores = each-set (Stores u words js h.stored) views id w h.stores now;
}

-- with one new view, which has no page, has seen no more than is stored, and heard nothing
pub words_joined : (u : Setup) (words : List ℕ) (views : List View) (js : Journals) (x : View) (h : Words u words views js) → x.at ≡ 0 → ((p : ℕ) → StartsWith (h.stored p) (seen_of x p)) → x.heard ≡ blank 0 0
    → Words u words (views ++ x ∷ []) js
words_joined u words views js x h rests seen none = record {
  stored = h.stored;
  begins = h.begins;
  whole = h.whole;
  made = h.made;
  blank = h.blank;
  heads = h.heads;
  stores = each-snoc (Stores u words js h.stored) views x h.stores record {
    seen = λ p due. seen p;
    late = λ p e. absurd (omega (arith, rests));
    laid = λ p offset e. absurd (omega (arith, rests));
    heard = λ p. subst (λ (known : Known). StartsWith (h.stored p) (look [] known.seen p)) (sym none) (starts-nil (h.stored p));
  };
}

-- a word changes that is neither a state word nor of a page
pub words_other : (u : Setup) (words : List ℕ) (views : List View) (js : Journals) (i n : ℕ) (h : Words u words views js) → pages u ≤ i → i < page_word_at u 0 0
    → ((j offset : ℕ) → j < u.fresh → bit_at (get_or (set words i n) (starts_at u j) 0) offset ≡ 1 → HasHead (h.stored (fresh_page u j)) offset)
    → Words u (set words i n) views js
words_other u words views js i n h behind before heads =
    let state : (p : ℕ) → p < pages u → get_or (set words i n) p 0 ≡ get_or words p 0 = λ p lt. get_or-set_other words i p n 0 (λ e. omega (arith, e, lt)) in
    record {
      stored = h.stored;
      begins = h.begins;
      whole = λ p lt low. h.whole p lt (subst (λ x. x < 2) (state p lt) low);
      made = λ p offset lt inside odd. word_else u words i n p offset before ∙ h.made p offset lt inside (ap (λ x. x % 2) (sym (state p lt)) ∙ odd);
      blank = λ p offset lt inside none. word_else u words i n p offset before ∙ h.blank p offset lt inside (sym (state p lt) ∙ none);
      heads = heads;
      stores = λ j v e. stores_words u words (set words i n) js h.stored v (λ p offset. word_else u words i n p offset before) (h.stores j v e);
    }

module _ (u : Setup) (words : List ℕ) (views : List View) (js : Journals) (id : ℕ) (w : View) (p n : ℕ) (inside : p < pages u) (wide : length words ≡ words_end u)
    (h : Words u words views js) (whole : n < 2 → h.stored p ≡ js p)
    (made : (offset : ℕ) → offset < 64 → n % 2 ≡ 1 → word_in u words p offset ≡ made_at u p (h.stored p) offset) (zeros : n ≡ 0 → (offset : ℕ) → offset < 64 → word_in u words p offset ≡ 0) (now : Stores u words js h.stored w) where
  -- the new state word of the page
  state : (q : ℕ) → q ≡ p → get_or (set words p n) q 0 ≡ n
  state q e = let lt : p < length words = omega (arith, inside, wide) in ap (λ r. get_or (set words p n) r 0) e ∙ get_or-set_same words p n 0 lt

  -- a state word has changed
  pub words_moved : Words u (set words p n) (set views id w) js
  words_moved =
      let same : (q offset : ℕ) → word_in u (set words p n) q offset ≡ word_in u words q offset = λ q offset. word_else u words p n q offset (omega (arith, inside)) in
      record {
        stored = h.stored;
        begins = h.begins;
        whole = λ q lt low. dite (ℕ_discrete q p)
            (λ e. subst (λ r. h.stored r ≡ js r) (sym e) (whole (subst (λ x. x < 2) (state q e) low)))
            (λ ne. h.whole q lt (subst (λ x. x < 2) (get_or-set_other words p q n 0 ne) low));
        made = λ q offset lt small odd. same q offset ∙ dite (ℕ_discrete q p)
            (λ e. subst (λ r. word_in u words r offset ≡ made_at u r (h.stored r) offset) (sym e) (made offset small (ap (λ x. x % 2) (sym (state q e)) ∙ odd)))
            (λ ne. h.made q offset lt small (ap (λ x. x % 2) (sym (get_or-set_other words p q n 0 ne)) ∙ odd));
        blank = λ q offset lt small none. same q offset ∙ dite (ℕ_discrete q p)
            (λ e. subst (λ r. word_in u words r offset ≡ 0) (sym e) (zeros (sym (state q e) ∙ none) offset small))
            (λ ne. h.blank q offset lt small (sym (get_or-set_other words p q n 0 ne) ∙ none));
        heads = λ j offset lt set_. h.heads j offset lt (ap (λ x. bit_at x offset) (sym (get_or-set_other words p (starts_at u j) n 0 (λ e. omega (arith, e, inside)))) ∙ set_);
        stores = each-set (Stores u (set words p n) js h.stored) views id w
            (λ j v e. stores_words u words (set words p n) js h.stored v same (h.stores j v e)) (stores_words u words (set words p n) js h.stored w same now);
      }

-- a pass that had no page now builds or holds one
pub stores_arriving : (u : Setup) (words : List ℕ) (js stored : Journals) (v w : View) (p : ℕ) → v.at ≡ 0 → w.at ≡ p + 1 → w.late ≡ None → w.laid ≡ 0 → w.heard ≡ v.heard
    → (w.mode ≡ 0 → (offset : ℕ) → offset < 64 → word_in u words p offset ≡ 0)
    → stored p ≡ js p → ((q : ℕ) → (seen_of w q ≡ seen_of v q) ⊎ ((q ≡ p) × (seen_of w q ≡ js q))) → Stores u words js stored v → Stores u words js stored w
stores_arriving u words js stored v w p rests at none zero_ told blank whole seen h = record {
  seen = λ q due. ⊎_elim (λ same. subst (StartsWith (stored q)) (sym same) (h.seen q (λ e. absurd (omega (arith, rests)))))
      (λ t. subst (StartsWith (stored q)) (sym (t.1 ∙ ap js t.0 ∙ sym whole ∙ ap stored (sym t.0))) (starts-refl (stored q))) (seen q);
  late = λ q e. let same : q ≡ p = omega (arith, e, at) in ap js same ∙ sym whole ∙ ap stored (sym same) ∙ sym (ap (λ d. stored q ++ late_in d) none ∙ append-nil (stored q));
  laid = λ q offset e building lt. let same : q ≡ p = omega (arith, e, at) in
      ap (λ r. word_in u words r offset) same ∙ blank building offset lt ∙ sym (ap (λ n. laid_at u q n offset) zero_ ∙ laid_none u q offset);
  heard = λ q. subst (λ (known : Known). StartsWith (stored q) (look [] known.seen q)) (sym told) (h.heard q);
}

-- a pass that had no word left to store now has no page
pub stores_leaving : (u : Setup) (words : List ℕ) (js stored : Journals) (v w : View) → v.late ≡ None → w.at ≡ 0 → w.known.seen ≡ v.known.seen → w.heard ≡ v.heard
    → Stores u words js stored v → Stores u words js stored w
stores_leaving u words js stored v w none rests seen told h = record {
  seen = λ q due. subst (λ l. StartsWith (stored q) (look [] l q)) (sym seen) (h.seen q (λ e. none));
  late = λ q e. absurd (omega (arith, rests));
  laid = λ q offset e. absurd (omega (arith, rests));
  heard = λ q. subst (λ (known : Known). StartsWith (stored q) (look [] known.seen q)) (sym told) (h.heard q);
}

-- if no word is left to store, all entries of the page are stored
pub none_due : (u : Setup) (words : List ℕ) (js stored : Journals) (v : View) (p : ℕ) → v.at ≡ p + 1 → v.late ≡ None → Stores u words js stored v → stored p ≡ js p
none_due u words js stored v p at none h = all_stored js stored v p none (h.late p at)

-- all words of the base are stored
pub all_laid : (u : Setup) (words : List ℕ) (js stored : Journals) (v : View) (p : ℕ) → v.at ≡ p + 1 → v.late ≡ None → v.mode ≡ 0 → v.laid ≤ 64 → ((offset : ℕ) → v.laid ≤ offset → offset < 64 → get_or (base_of u p) offset 0 ≡ 0) → js p ≡ []
    → Stores u words js stored v
    → (offset : ℕ) → offset < 64 → word_in u words p offset ≡ made_at u p (stored p) offset
all_laid u words js stored v p at none building all zeros empty h offset lt =
    h.laid p offset at building lt ∙ laid_all u p v.laid offset (λ le. zeros offset le lt) ∙ ap (λ l. made_at u p l offset) (sym (none_due u words js stored v p at none h ∙ empty))

-- The seat `id` with the view v draws a stamp for the entry e on page p. No word is left to store.
module _ (u : Setup) (words : List ℕ) (views : List View) (js : Journals) (id : ℕ) (v : View) (p : ℕ) (e : Entry) (h : Words u words views js)
    (at_id : get_elem? views id ≡ maybe.some v) (at : v.at ≡ p + 1) (holding : v.mode ≡ 1) (none : v.late ≡ None) (taken : 2 ≤ get_or words p 0)
    (alone : (j : ℕ) (x : View) → get_elem? views j ≡ maybe.some x → x.at ≡ p + 1 → j ≡ id) where
  -- all entries before the new one are stored
  all_before : h.stored p ≡ js p
  all_before = none_due u words js h.stored v p at none (h.stores id v at_id)

  -- the view of the writer
  stores_drawer : Stores u words (but js p (js p ++ e ∷ [])) h.stored (drawing v p e)
  stores_drawer = record {
    seen = λ q due. dite (ℕ_discrete q p)
        (λ same. absurd (none-some e (sym (due (at ∙ ap (λ r. r + 1) (sym same))))))
        (λ ne. subst (StartsWith (h.stored q)) (sym (look-other [] (seen_of v p ++ e ∷ []) v.known.seen p q ne)) ((h.stores id v at_id).seen q (λ z. none)));
    late = λ q z. let same : q ≡ p = omega (arith, z, at) in
        subst (λ r. but js p (js p ++ e ∷ []) r ≡ h.stored r ++ e ∷ []) (sym same) (but-same js p (js p ++ e ∷ []) ∙ ap (λ l. l ++ e ∷ []) (sym all_before));
    laid = λ q offset z building. absurd (omega (arith, holding, building));
    heard = (h.stores id v at_id).heard;
  }

  -- the view of another seat
  stores_beside : (j : ℕ) (x : View) → get_elem? views j ≡ maybe.some x → j ≢ id → Stores u words (but js p (js p ++ e ∷ [])) h.stored x
  stores_beside j x there ne = let old = h.stores j x there in record {
    seen = old.seen;
    late = λ q z. but-other js p (js p ++ e ∷ []) q (λ same. ne (alone j x there (z ∙ ap (λ r. r + 1) same))) ∙ old.late q z;
    laid = old.laid;
    heard = old.heard;
  }

  -- the words after the draw
  pub words_drawn : Words u words (set views id (drawing v p e)) (but js p (js p ++ e ∷ []))
  words_drawn = record {
    stored = h.stored;
    begins = λ q. dite (ℕ_discrete q p)
        (λ same. subst (λ r. StartsWith (but js p (js p ++ e ∷ []) r) (h.stored r)) (sym same) (subst (λ l. StartsWith l (h.stored p)) (sym (but-same js p (js p ++ e ∷ []))) (starts-more (js p) (h.stored p) (e ∷ []) (h.begins p))))
        (λ ne. subst (λ l. StartsWith l (h.stored q)) (sym (but-other js p (js p ++ e ∷ []) q ne)) (h.begins q));
    whole = λ q lt low. h.whole q lt low ∙ sym (but-other js p (js p ++ e ∷ []) q (λ same. omega (arith, low, taken, ap (λ r. get_or words r 0) same)));
    made = h.made;
    blank = h.blank;
    heads = h.heads;
    stores = λ j x there. ⊎_elim (λ t. subst (Stores u words (but js p (js p ++ e ∷ [])) h.stored) t.1 stores_drawer) (λ t. stores_beside j x t.1 t.0) (at_set views id j (drawing v p e) x there);
  }

-- The seat `id` with the view v stores the word of the entry e, the newest of page p.
module _ (u : Setup) (words : List ℕ) (views : List View) (js : Journals) (id : ℕ) (v : View) (p : ℕ) (e : Entry) (h : Words u words views js)
    (at_id : get_elem? views id ≡ maybe.some v) (at : v.at ≡ p + 1) (holding : v.mode ≡ 1) (some_ : v.late ≡ Some e) (inside : p < pages u) (small : e.offset < 64)
    (wide : length words ≡ words_end u) (taken : 2 ≤ get_or words p 0) (seen : seen_of v p ≡ js p)
    (alone : (j : ℕ) (x : View) → get_elem? views j ≡ maybe.some x → x.at ≡ p + 1 → j ≡ id) where
  -- the words after the step
  words' : List ℕ
  words' = set words (page_word_at u p e.offset) e.value

  -- the entries with stored words after the step
  more : Journals
  more = but h.stored p (h.stored p ++ e ∷ [])

  -- they end with the new entry
  here : more p ≡ h.stored p ++ e ∷ []
  unfolding more
  here = but-same h.stored p (h.stored p ++ e ∷ [])

  -- those of the other pages stay
  other : (q : ℕ) → q ≢ p → more q ≡ h.stored q
  unfolding more
  other q ne = but-other h.stored p (h.stored p ++ e ∷ []) q ne

  -- what they began with they still begin with
  still : (q : ℕ) (front : List Entry) → StartsWith (h.stored q) front → StartsWith (more q) front
  still q front b = dite (ℕ_discrete q p)
      (λ same. subst (λ r. StartsWith (more r) front) (sym same) (subst (λ l. StartsWith l front) (sym here) (starts-more (h.stored p) front (e ∷ []) (subst (λ r. StartsWith (h.stored r) front) same b))))
      (λ ne. subst (λ l. StartsWith l front) (sym (other q ne)) b)

  -- they are all entries of the page
  all_now : js p ≡ more p
  all_now = (h.stores id v at_id).late p at ∙ ap (λ d. h.stored p ++ late_in d) some_ ∙ sym here

  -- the state words and start bits stay
  before_same : (i : ℕ) → i < page_word_at u 0 0 → get_or words' i 0 ≡ get_or words i 0
  unfolding words'
  before_same i lt = get_or-set_other words (page_word_at u p e.offset) i e.value 0 (λ z. omega (arith, z, lt))

  -- the words of other pages, and the other words of the page, stay
  word_same : (q offset : ℕ) → offset < 64 → ((q ≡ p) → offset ≢ e.offset) → word_in u words' q offset ≡ word_in u words q offset
  unfolding words'
  word_same q offset lt ne = get_or-set_other words (page_word_at u p e.offset) (page_word_at u q offset) e.value 0
      (λ z. let page : q ≡ p = omega (arith, z, lt, small) in ne page (omega (arith, z, page)))

  -- the word is that of the entry
  word_now : word_in u words' p e.offset ≡ e.value
  unfolding words'
  word_now = get_or-set_same words (page_word_at u p e.offset) e.value 0 (omega (arith, wide, inside, small))

  -- the words of the page
  made_now : (offset : ℕ) → offset < 64 → word_in u words p offset ≡ made_at u p (h.stored p) offset → word_in u words' p offset ≡ made_at u p (h.stored p ++ e ∷ []) offset
  made_now offset lt old =
      let long : length (replayed (base_of u p) (h.stored p)) ≡ 64 = replayed_long (base_of u p) (h.stored p) ∙ base_long u p in
      dite (ℕ_discrete offset e.offset)
      (λ same. ap (λ o. word_in u words' p o) same ∙ word_now
      ∙ sym (made_last u p (h.stored p) e offset ∙ ap (λ o. get_or (set (replayed (base_of u p) (h.stored p)) e.offset e.value) o 0) same ∙ get_or-set_same (replayed (base_of u p) (h.stored p)) e.offset e.value 0 (omega (arith, long, small))))
      (λ ne. word_same p offset lt (λ z. ne) ∙ old ∙ sym (made_last u p (h.stored p) e offset ∙ get_or-set_other (replayed (base_of u p) (h.stored p)) e.offset offset e.value 0 ne))

  -- the view of the writer
  stores_writer : Stores u words' js more (storing v)
  stores_writer = record {
    seen = λ q due. dite (ℕ_discrete q p)
        (λ same. subst (λ r. StartsWith (more r) (seen_of v r)) (sym same) (subst (StartsWith (more p)) (sym (seen ∙ all_now)) (starts-refl (more p))))
        (λ ne. subst (λ l. StartsWith l (seen_of v q)) (sym (other q ne)) ((h.stores id v at_id).seen q (λ z. absurd (omega (arith, z, at, ne)))));
    late = λ q z. let same : q ≡ p = omega (arith, z, at) in subst (λ r. js r ≡ more r ++ []) (sym same) (all_now ∙ sym (append-nil (more p)));
    laid = λ q offset z building. absurd (omega (arith, holding, building));
    heard = λ q. still q (look [] v.heard.seen q) ((h.stores id v at_id).heard q);
  }

  -- the view of another seat
  stores_others : (j : ℕ) (x : View) → get_elem? views j ≡ maybe.some x → j ≢ id → Stores u words' js more x
  stores_others j x there ne =
      let old = h.stores j x there in
      let apart : (q : ℕ) → x.at ≡ q + 1 → q ≢ p = λ q z same. ne (alone j x there (z ∙ ap (λ r. r + 1) same)) in
      record {
        seen = λ q due. dite (ℕ_discrete q p)
            (λ same. subst (λ r. StartsWith (more r) (seen_of x r)) (sym same) (subst (λ l. StartsWith l (seen_of x p)) (sym here) (starts-more (h.stored p) (seen_of x p) (e ∷ []) (old.seen p (subst (λ r. x.at ≡ r + 1 → x.late ≡ None) same due)))))
            (λ away. subst (λ l. StartsWith l (seen_of x q)) (sym (other q away)) (old.seen q due));
        late = λ q z. old.late q z ∙ ap (λ l. l ++ late_in x.late) (sym (other q (apart q z)));
        laid = λ q offset z building inside_. word_same q offset inside_ (λ same. absurd (apart q z same)) ∙ old.laid q offset z building inside_;
        heard = λ q. still q (look [] x.heard.seen q) (old.heard q);
      }

  -- the words after the store
  pub words_word : Words u (set words (page_word_at u p e.offset) e.value) (set views id (storing v)) js
  unfolding words'
  words_word = record {
    stored = more;
    begins = λ q. dite (ℕ_discrete q p)
        (λ same. subst (λ r. StartsWith (js r) (more r)) (sym same) (subst (λ l. StartsWith l (more p)) (sym all_now) (starts-refl (more p))))
        (λ ne. subst (StartsWith (js q)) (sym (other q ne)) (h.begins q));
    whole = λ q lt low. let was : get_or words q 0 < 2 = subst (λ x. x < 2) (before_same q (omega (arith, lt))) low in
        other q (λ same. omega (arith, was, taken, ap (λ r. get_or words r 0) same)) ∙ h.whole q lt was;
    made = λ q offset lt small_ odd. let was : get_or words q 0 % 2 ≡ 1 = ap (λ x. x % 2) (sym (before_same q (omega (arith, lt)))) ∙ odd in dite (ℕ_discrete q p)
        (λ same. subst (λ r. word_in u words' r offset ≡ made_at u r (more r) offset) (sym same)
        (subst (λ l. word_in u words' p offset ≡ made_at u p l offset) (sym here) (made_now offset small_ (subst (λ r. word_in u words r offset ≡ made_at u r (h.stored r) offset) same (h.made q offset lt small_ was)))))
        (λ ne. word_same q offset small_ (λ same. absurd (ne same)) ∙ h.made q offset lt small_ was ∙ ap (λ l. made_at u q l offset) (sym (other q ne)));
    blank = λ q offset lt small_ none. let was : get_or words q 0 ≡ 0 = sym (before_same q (omega (arith, lt))) ∙ none in
        word_same q offset small_ (λ same. absurd (omega (arith, was, taken, ap (λ r. get_or words r 0) same))) ∙ h.blank q offset lt small_ was;
    heads = λ j offset lt set_.
        let old = h.heads j offset lt (ap (λ x. bit_at x offset) (sym (before_same (starts_at u j) (omega (arith, lt)))) ∙ set_) in
        dite (ℕ_discrete (fresh_page u j) p)
        (λ same. subst (λ r. HasHead (more r) offset) (sym same) (subst (λ l. HasHead l offset) (sym here) (has_longer (h.stored p) (e ∷ []) offset (subst (λ r. HasHead (h.stored r) offset) same old))))
        (λ ne. subst (λ l. HasHead l offset) (sym (other (fresh_page u j) ne)) old);
    stores = λ j x there. ⊎_elim (λ t. subst (Stores u words' js more) t.1 stores_writer) (λ t. stores_others j x t.1 t.0) (at_set views id j (storing v) x there);
  }
