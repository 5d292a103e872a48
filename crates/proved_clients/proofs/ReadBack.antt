-- What a mutator alone reads.
use Rattle.std.proofs.Common.{◌≡◌, ℕ, ◌+◌, ◌<◌, ◌==◌, Bool, true, false, cond, List, [], ◌∷◌, ◌++◌, get_or, Some, None, Result, Ok, Err, IfOk, refl, sym, ap, ◌∙◌, arith, eqb-true, eq-eqb, ltb-true}
use Rattle.std.specs.Prelude.{◌/◌, ◌^◌, nat_lt}
use Rattle.page_plan.specs.Header.{data_of, header_of, header_with, header_word, refs_of, size_of, weak_header_word, weak_of, Head}
use Rattle.page_plan.specs.Kinds.{count_of, first_of}
use Rattle.page_plan.specs.Edition.{Edition}
use Rattle.page_plan.specs.Edition.TheVariants.{One, Two, Three, Four}
use Rattle.page_plan.specs.Kind.{Kind}
use Rattle.page_plan.specs.Kind.TheVariants.{Header, Reference, Weak, Data}
use Rattle.page_plan.proofs.Shapes.{field-inside}
use Rattle.comp_journal.specs.Journal.{replayed}
use Rattle.comp_journal.specs.declared.entry.Entry.{Entry}
use Rattle.page_cells.specs.Setup.{Setup, base_of}
use Rattle.page_cells.specs.Passes.{number_of, seen}
use Rattle.page_cells.specs.Pass.{Pass}
use Rattle.page_cells.specs.Objects.{page_at, offset_at, word_at, HasShape}
use Rattle.comp_mutator.specs.Allocations.{own_page, used, Allocates, AllocatesAsked}
use Rattle.comp_mutator.specs.Fields.{IsFieldOf}
use Rattle.comp_mutator.specs.Reads.{Reads}
use Rattle.comp_mutator.specs.Writes.{entry_by, Writes}
use Rattle.comp_mutator.specs.Refusal.{Refusal}

-- what holds for two answers holds if both are Ok
pub both_ok : (s w : Result ℕ Refusal) (P Q R : ℕ → Type 0) → IfOk s P → IfOk w Q → ((a b : ℕ) → P a → Q b → R b) → IfOk s (λ a. IfOk w R)
both_ok (Ok a) (Ok b) P Q R h k f = f a b h k
both_ok (Ok a) (Err e) P Q R h k f = tt
both_ok (Err e) w P Q R h k f = tt

-- a field has the same place in what one pass has seen and in what another has
abbrev pub HaveOneAddress : Setup → Pass → Pass → Kind → ℕ → ℕ → Type 0
HaveOneAddress u a b kind object field = (word_address other : ℕ) → IsFieldOf u (seen a) kind object field word_address → IsFieldOf u (seen b) kind object field other → other ≡ word_address

-- a word is what was last written there
abbrev pub IsLastWritten : Setup → Type 0
IsLastWritten u = (p : ℕ) (journal : List Entry) (e : Entry) → e.offset < 64 → get_or (replayed (base_of u p) (journal ++ e ∷ [])) e.offset 0 ≡ e.value

-- a read answers what was written before it, if nothing more was seen in between
pub reads_back : (u : Setup) (old wrote read : Pass) (kind : Kind) (object field value stamp word : ℕ) → ((p : ℕ) → seen read p ≡ seen wrote p) → HaveOneAddress u wrote read kind object field
    → IsLastWritten u → Writes u old wrote kind object field value stamp → Reads u (seen read) kind object field word → word ≡ value
reads_back u old wrote read kind object field value stamp word same one last w r =
    let p = page_at w.word_address in
    let e = entry_by old stamp kind (offset_at w.word_address) value in
    r.word_is ∙ ap (word_at u (seen read)) (one w.word_address r.word_address w.field_of r.field_of)
    ∙ ap (λ journal. get_or (replayed (base_of u p) journal) (offset_at w.word_address) 0) (same p ∙ w.adds.seen) ∙ last p w.adds.journal e (omega arith)

-- An object was made with these numbers of words of each kind.
pub record IsMade (u : Setup) (old made : Pass) (refs weak data_words object : ℕ) : Type 0 where
  pub header : Head
  pub refs_are : refs_of header ≡ refs
  pub weak_are : weak_of header ≡ weak
  pub data_are : data_of header ≡ data_words
  pub allocates : Allocates u old made header object

where_so : (u : Setup) (old made : Pass) (refs weak data_words object : ℕ) (header : Head) (b : Bool) → (b ≡ true → (refs_of header ≡ refs) × (weak_of header ≡ weak) × (data_of header ≡ data_words))
    → AllocatesAsked u old made (cond b (Some header) None) object → IsMade u old made refs weak data_words object
where_so u old made refs weak data_words object header true counts h =
    let are = counts refl in
    record { header = header; refs_are = are.0; weak_are = are.1; data_are = are.2; allocates = h }
where_so u old made refs weak data_words object header false counts h = absurd h

-- an object that was asked for has the words that were asked for
pub is_made : (u : Setup) (old made : Pass) (edition : Edition) (refs weak data_words tag object : ℕ) → refs < 2 ^ 16 → weak < 2 ^ 16 → data_words < 2 ^ 16
    → AllocatesAsked u old made (header_with edition refs weak data_words tag) object → IsMade u old made refs weak data_words object
is_made u old made One refs weak data_words tag object r w d h =
    where_so u old made refs weak data_words object (header_of One (header_word refs data_words tag)) (weak == 0)
    (λ none. (omega (arith, r, d), sym (eqb-true weak 0 none), omega (arith, r, d))) h
is_made u old made Two refs weak data_words tag object r w d h =
    where_so u old made refs weak data_words object (header_of Two (weak_header_word refs weak data_words tag)) (nat_lt tag (2 ^ 16))
    (λ small. (omega (arith, r, w, d), omega (arith, r, w, d), omega (arith, r, w, d))) h
is_made u old made Three refs weak data_words tag object r w d h =
    let word = weak_header_word refs weak data_words tag in
    where_so u old made refs weak data_words object (header_of Three word) (nat_lt tag (2 ^ 14))
    (λ small.
    let low : tag < 2 ^ 14 = ltb-true tag (2 ^ 14) small in
    let mixed : (word / 2 ^ 62 == 0) ≡ true = eq-eqb (word / 2 ^ 62) 0 (omega (arith, r, w, d, low)) in
    (rw mixed (omega (arith, r, w, d)), rw mixed (omega (arith, r, w, d)), rw mixed (omega (arith, r, w, d)))) h
is_made u old made Four refs weak data_words tag object r w d h =
    let word = weak_header_word refs weak data_words tag in
    where_so u old made refs weak data_words object (header_of Four word) (nat_lt tag (2 ^ 14))
    (λ small.
    let low : tag < 2 ^ 14 = ltb-true tag (2 ^ 14) small in
    let mixed : (word / 2 ^ 62 == 0) ≡ true = eq-eqb (word / 2 ^ 62) 0 (omega (arith, r, w, d, low)) in
    (rw mixed (omega (arith, r, w, d)), rw mixed (omega (arith, r, w, d)), rw mixed (omega (arith, r, w, d)))) h

-- if there is one field, there is the first
pub first_there : (n : ℕ) → n ≡ 1 → 0 < n
first_there n one = omega (arith, one)

-- a field comes after the header
behind : (kind : Kind) (header : Head) (field : ℕ) → field < count_of kind header → 0 < first_of kind header + field
behind Header header field inside = absurd (omega arith)
behind Reference header field inside = omega arith
behind Weak header field inside = omega arith
behind Data header field inside = omega arith

module _ (u : Setup) (old made read : Pass) (refs weak data_words object : ℕ) (same : (p : ℕ) → seen read p ≡ seen made p) (is : IsMade u old made refs weak data_words object) where
  -- each word after the header of a new object is 0
  word_behind : (distance word_address word : ℕ) → 0 < distance → distance < size_of is.header → word_address ≡ object + distance → word ≡ word_at u (seen read) word_address → word ≡ 0
  word_behind distance word_address word more less at word_is =
      let a = is.allocates in
      let p = own_page u (number_of old) a.index in
      let offset = used u old a.index in
      let room = a.lowest.room in
      let page : page_at word_address ≡ p = omega (arith, a.address_is, at, room, less) in
      let there : offset_at word_address ≡ offset + distance = omega (arith, a.address_is, at, room, less) in
      word_is ∙ ap (λ q. get_or (replayed (base_of u q) (seen read q)) (offset_at word_address) 0) page ∙ ap (λ o. get_or (replayed (base_of u p) (seen read p)) o 0) there
      ∙ ap (λ journal. get_or (replayed (base_of u p) journal) (offset + distance) 0) (same p) ∙ a.zero (offset + distance) (omega (arith, more)) (omega (arith, less))

  -- each field of a new object is null or 0
  pub new_field : HasShape u (seen made) object is.header → (kind : Kind) (field word : ℕ) → field < count_of kind is.header → HaveOneAddress u made read kind object field
      → Reads u (seen read) kind object field word → word ≡ 0
  new_field shape kind field word inside one r =
      let header = is.header in
      let word_address = one (object + first_of kind header + field) r.word_address record { header = header; shape = shape; inside = inside; address_is = refl } r.field_of in
      word_behind (first_of kind header + field) r.word_address word (behind kind header field inside) (field-inside kind header field inside) (omega (arith, word_address)) r.word_is
