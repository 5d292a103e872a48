-- A line that one mutator runs, between two rounds of meetings.
use Rattle.std.proofs.Common.{◌≡◌, ◌≢◌, ℕ, ◌+◌, ◌*◌, ◌<◌, ◌≤◌, Bool, cond, List, [], ◌∷◌, ◌++◌, refl, sym, ap, subst, ◌∙◌, eq-eqb, ne_eqb}
use Rattle.std.specs.Prelude.{Option, None, Some, slice_index}
use Rattle.std.proofs.lemmas.List.{append-nil}
use native.Mathlib.Decide.{ℕ_discrete}
use mathlib.Core.Logic.{dite}
use Rattle.heap_layout.specs.Header.{header_with, size_of, Head}
use Rattle.heap_layout.specs.declared.kind.Kind.{Kind}
use Rattle.heap_layout.specs.declared.kind.Kind.TheVariants.{Header, Data}
use Rattle.comp_mutator.specs.Entry.{Entry}
use Rattle.comp_mutator.specs.Setup.{Setup, address}
use Rattle.comp_mutator.specs.Lawful.{filled, HasHead}
use Rattle.comp_mutator.specs.Lists.{on}
use Rattle.comp_mutator.specs.Locks.{Journals}
use Rattle.comp_mutator.specs.Passes.{did, number_of, seen, KnowsFresh}
use Rattle.comp_mutator.specs.Pass.{Pass}
use Rattle.comp_mutator.specs.Calls.{KnowsToo}
use Rattle.comp_mutator.specs.Steps.{Steps}
use Rattle.comp_mutator.specs.Objects.{page_at, offset_at}
use Rattle.comp_mutator.proofs.Growing.{grows_none, grows_then}
use Rattle.comp_mutator.specs.Merged.{written_by}
use Rattle.comp_mutator.specs.Fields.{IsFieldOf}
use Rattle.comp_mutator.specs.Reads.{Reads}
use Rattle.comp_mutator.specs.Writes.{entry_by, Adds, Writes}
use Rattle.comp_mutator.specs.Allocations.{own_page, used, Allocates, AllocatesAsked}
use Rattle.comp_trace.specs.Acting.{Answers}
use Rattle.comp_trace.specs.WrittenEntries.{AreMerged, KnowsMade}
use Rattle.comp_trace.specs.RoundsOfMeetings.{Advances, Learns, Met}
use Rattle.comp_trace.specs.Lines.{used_by, with_entries, Acts, IsAboveAll, IsOneEntry, MakesAsked, MakesObject, WritesField}
use Rattle.comp_trace.specs.LineBuilds.{kind_if}
use Rattle.comp_trace.specs.declared.text.line.Action.{Action}
use Rattle.comp_trace.specs.declared.text.line.Action.TheVariants.{Root, Load, Get, Store, Put, New, Nil, Immediate}
use Rattle.comp_trace.proofs.BetweenRounds.{dids, known_before, reads_all, seen_all, writes_all, IsCrew}
use Rattle.comp_trace.proofs.EarlierFields.{field_before}
use Rattle.comp_trace.proofs.MadeObjects.{made_same, made_whose, no_header}
use Rattle.comp_trace.proofs.Merging.{merged_by, merged_more, merged_once, merged_still, IsOneMore}

-- an entry of mutator i
abbrev entry_of : ℕ → ℕ → Kind → ℕ → ℕ → Entry
entry_of i stamp kind offset value = record { stamp = stamp; writer = i; kind = kind; offset = offset; value = value }

-- journals that are the same on each page are the same
same_journals : (a b : Journals) → ((p : ℕ) → a p ≡ b p) → a ≡ b
same_journals a b h = λ i p. h p i

-- A line of mutator i: the mutators before it, after the first round, after its call, and after the second round.
pub record IsBetween (table : Steps) (n i : ℕ) (first met acted last : ℕ → Pass) : Type 0 where
  pub inside : i < n
  pub crew : IsCrew table n first
  pub crew_met : IsCrew table n met
  pub crew_last : IsCrew table n last
  pub before : Met n i first met
  pub after : Met n i acted last
  pub learns : Learns (met i) (acted i)
  pub others : (k : ℕ) → k ≢ i → acted k ≡ met k

module _ (table : Steps) (n i : ℕ) (first met acted last : ℕ → Pass) (line : IsBetween table n i first met acted last) where
  pub same_deeds : did (acted i) ≡ did (met i) → (k : ℕ) → k < n → did (last k) ≡ did (first k)
  same_deeds same k lt =
      line.after.did k lt
      ∙ dite (ℕ_discrete k i) (λ is. ap (λ (x : ℕ). did (acted x)) is ∙ same ∙ ap (λ (x : ℕ). did (met x)) (sym is)) (λ not. ap did (line.others k not))
      ∙ line.before.did k lt

  -- a read answers from all that the mutators did
  pub reads_known : did (acted i) ≡ did (met i) → (u : Setup) (kind : Kind) (object field word : ℕ) → Reads u (seen (acted i)) kind object field word
      → (journals : Journals) → AreMerged n (dids first) journals → Reads u journals kind object field word
  reads_known same u kind object field word read journals merged =
      subst (λ (js : Journals). Reads u js kind object field word)
      (same_journals (seen (acted i)) journals (reads_all table n i line.inside first met acted last line.crew line.crew_met line.crew_last line.before line.after line.others line.learns.0.seen journals merged (same_deeds same))) read

  -- after the line all have seen all that the mutators did
  pub all_seen_last : (journals : Journals) → AreMerged n (dids last) journals → (k p : ℕ) → k < n → seen (last k) p ≡ journals p
  all_seen_last journals merged k p lt =
      seen_all table n i line.inside first met acted last line.crew line.crew_met line.crew_last line.before line.after line.others line.learns.0.seen journals merged k p lt

  -- only mutator i acts
  pub others_same : (k : ℕ) → k < n → k ≢ i → did (last k) ≡ did (first k)
  others_same k lt not = line.after.did k lt ∙ ap did (line.others k not) ∙ line.before.did k lt

  -- at its call it knows all that the mutators did
  pub known : AreMerged n (dids first) (seen (met i))
  known = known_before table n i line.inside first met acted last line.crew line.crew_met line.crew_last line.before line.after line.others line.learns.0.seen others_same (line.before.did i line.inside)

  pub knows : (journals : Journals) → AreMerged n (dids first) journals → (p : ℕ) → seen (met i) p ≡ journals p
  knows journals merged p = merged_once n (dids first) p (seen (met i) p) (journals p) (known p) (merged p)

  -- a call that writes nothing sees nothing new
  pub saw_none : did (acted i) ≡ did (met i) → (journals : Journals) → AreMerged n (dids first) journals → (p : ℕ) → seen (acted i) p ≡ seen (met i) p
  saw_none same journals merged p =
      reads_all table n i line.inside first met acted last line.crew line.crew_met line.crew_last line.before line.after line.others line.learns.0.seen journals merged (same_deeds same) p ∙ sym (knows journals merged p)

  -- at its call it knows what each mutator knew before the line
  pub knows_each : (k : ℕ) → k < n → KnowsToo (first k) (met i)
  knows_each k lt = record {
    seen = λ p. line.before.more k p lt;
    built = λ p. line.before.built k p lt;
    starts = λ p offset. line.before.starts k p offset lt;
    turns = λ q. line.before.turns k q lt;
  }

  module _ (u : Setup) (journals : Journals) (merged : AreMerged n (dids first) journals) where
    -- a line that adds nothing
    none : (action : Action) (registers : List ℕ) (answer : ℕ) → did (acted i) ≡ did (met i) → Acts u journals i action registers [] answer
        → Advances u n i (dids first) (dids last) journals action registers answer
    none action registers answer same acts = record {
      added = [];
      acts = acts;
      did = λ k lt. same_deeds same k lt ∙ sym (append-nil (did (first k)));
      merged = λ p. merged_still n (dids last) p (journals p) (merged_by n (dids first) (dids last) p (journals p) (λ k lt. sym (same_deeds same k lt)) (merged p));
    }

    read : (kind : Kind) (object field word : ℕ) → did (acted i) ≡ did (met i) → Reads u (seen (acted i)) kind object field word → Reads u journals kind object field word
    read kind object field word same h = reads_known same u kind object field word h journals merged

    module _ (p : ℕ) (kind : Kind) (offset value stamp : ℕ) (adds : Adds p (entry_by (met i) stamp kind offset value) (met i) (acted i)) where
      abbrev e : Entry
      e = entry_of i stamp kind offset value

      written : entry_by (met i) stamp kind offset value ≡ e
      written = ap (λ (k : ℕ). entry_of k stamp kind offset value) (line.crew_met.numbers i line.inside)

      one : IsOneMore n (dids first) (dids last) i p e
      one = (
        line.after.did i line.inside ∙ adds.did ∙ ap (λ (l : List (ℕ × Entry)). l ++ (p, entry_by (met i) stamp kind offset value) ∷ []) (line.before.did i line.inside)
            ∙ ap (λ (x : Entry). did (first i) ++ (p, x) ∷ []) written,
        others_same,
      )

      all : IsAboveAll journals stamp × ((q : ℕ) → seen (acted i) q ≡ journals q ++ on q ((p, e) ∷ []))
      all = writes_all table n i line.inside first met acted last line.crew line.crew_met line.crew_last line.before line.after line.others line.learns.0.seen journals merged p e (line.before.did i line.inside) one refl adds.above

      one_entry : IsOneEntry journals i p kind offset value stamp ((p, e) ∷ [])
      one_entry = record { above = all.0; added_is = refl }

      some : (action : Action) (registers : List ℕ) (answer : ℕ) → Acts u journals i action registers ((p, e) ∷ []) answer
          → Advances u n i (dids first) (dids last) journals action registers answer
      some action registers answer acts = record {
        added = (p, e) ∷ [];
        acts = acts;
        did = λ k lt. dite (ℕ_discrete k i)
            (λ is. subst (λ (y : ℕ). did (last y) ≡ did (first y) ++ written_by y ((p, e) ∷ [])) (sym is)
            (one.0 ∙ ap (λ (t : Bool). did (first i) ++ cond t ((p, e) ∷ []) []) (sym (eq-eqb i i refl))))
            (λ not. others_same k lt not ∙ sym (ap (λ (t : Bool). did (first k) ++ cond t ((p, e) ∷ []) []) (ne_eqb i k (λ s. not (sym s))) ∙ append-nil (did (first k))));
        merged = λ q. merged_more n (dids first) (dids last) i p q e (journals q) one line.inside refl (all.0 q) (merged q);
      }

    wrote : (kind : Kind) (object field value stamp : ℕ) → (kind ≡ Header → ⊥) → (h : Writes u (met i) (acted i) kind object field value stamp)
        → WritesField u journals i kind object field value ((page_at h.word_address, entry_of i stamp kind (offset_at h.word_address) value) ∷ []) stamp
    wrote kind object field value stamp apart h =
        let p = page_at h.word_address in
        let x = e p kind (offset_at h.word_address) value stamp h.adds in
        record {
          word_address = h.word_address;
          field_of = field_before u journals p x kind object field h.word_address apart
              (subst (λ (js : Journals). IsFieldOf u js kind object field h.word_address) (same_journals (seen (acted i)) (with_entries journals ((p, x) ∷ [])) (all p kind (offset_at h.word_address) value stamp h.adds).1) h.field_of);
          entry = one_entry p kind (offset_at h.word_address) value stamp h.adds;
        }

    -- the used words of its own pages
    used_is : (index : ℕ) → used u (met i) index ≡ used_by u journals i index
    used_is index =
        let p = own_page u i index in
        ap (λ (k : ℕ). filled u.heap.edition (on (own_page u k index) (did (met i)))) (line.crew_met.numbers i line.inside)
        ∙ ap (λ (l : List (ℕ × Entry)). filled u.heap.edition (on p l)) (line.before.did i line.inside) ∙ ap (filled u.heap.edition) (sym ((merged p).own i line.inside))

    made : (header : Head) (word_address : ℕ) (h : Allocates u (met i) (acted i) header word_address)
        → MakesObject u journals i header ((own_page u (number_of (met i)) h.index, entry_of i h.stamp Header (used u (met i) h.index) header.word) ∷ []) word_address
    made header word_address h =
        let k = number_of (met i) in
        let number : k ≡ i = line.crew_met.numbers i line.inside in
        let there = h.lowest.there in
        let size = size_of header in
        let entry = one_entry (own_page u k h.index) Header (used u (met i) h.index) header.word h.stamp h.adds in
        record {
          edition = h.edition;
          index = h.index;
          there = subst (λ (y : ℕ). y + h.index * u.mutators < u.fresh) number there;
          room = subst (λ (y : ℕ). y + size ≤ 64) (used_is h.index) h.lowest.room;
          lower = λ j lt. subst (λ (y : ℕ). 64 < y + size) (used_is j) (h.lowest.lower j lt);
          address_is = h.address_is ∙ ap (λ (y : ℕ). address (own_page u y h.index) (used u (met i) h.index)) number ∙ ap (λ (y : ℕ). address (own_page u i h.index) y) (used_is h.index);
          stamp = h.stamp;
          entry = record {
            above = entry.above;
            added_is = ap (λ (y : ℕ). (own_page u y h.index, entry_of i h.stamp Header (used u (met i) h.index) header.word) ∷ []) number
                ∙ ap (λ (y : ℕ). (own_page u i h.index, entry_of i h.stamp Header y header.word) ∷ []) (used_is h.index);
          };
        }

    -- the object that was asked for
    makes : (asked : Option Head) (action : Action) (registers : List ℕ) (answer : ℕ) → AllocatesAsked u (met i) (acted i) asked answer
        → ((added : List (ℕ × Entry)) → MakesAsked u journals i asked added answer → Acts u journals i action registers added answer)
        → Advances u n i (dids first) (dids last) journals action registers answer
    makes None action registers answer h acts = absurd h
    makes (Some header) action registers answer h acts =
        some (own_page u (number_of (met i)) h.index) Header (used u (met i) h.index) header.word h.stamp h.adds action registers answer (acts _ (made header answer h))

    -- what the call of a line answers is what the run says
    pub advances : (action : Action) (registers : List ℕ) (answer : ℕ) → Answers u action registers (met i) (acted i) answer → Advances u n i (dids first) (dids last) journals action registers answer
    advances (Root to root) registers answer h = none (Root to root) registers answer (ap did h.0) (refl, h.1)
    advances (Load weak to object field) registers answer h = none (Load weak to object field) registers answer h.0 (refl, read (kind_if weak) (slice_index registers object) field answer h.0 h.1)
    advances (Get object field) registers answer h = none (Get object field) registers answer h.0 (refl, read Data (slice_index registers object) field answer h.0 h.1)
    advances (Store weak object field value) registers answer h =
        let w = h.0 in some (page_at w.word_address) (kind_if weak) (offset_at w.word_address) (slice_index registers value) answer w.adds (Store weak object field value) registers answer
        (wrote (kind_if weak) (slice_index registers object) field (slice_index registers value) answer (no_header weak) w)
    advances (Put object field value) registers answer h =
        some (page_at h.word_address) Data (offset_at h.word_address) value answer h.adds (Put object field value) registers answer (wrote Data (slice_index registers object) field value answer (λ is. absurd cc) h)
    advances (New to refs weak data_words tag) registers answer h =
        makes (header_with u.heap.edition refs weak data_words tag) (New to refs weak data_words tag) registers answer h (λ added acts. acts)
    advances (Nil to) registers answer h = none (Nil to) registers answer (ap did h.0) (refl, h.1)
    advances (Immediate to payload) registers answer h = none (Immediate to payload) registers answer (ap did h.0) (refl, h.1)

    -- at its call it knows each object that was made, if each mutator knew what it made
    pub knows_starts : ((k : ℕ) → k < n → KnowsMade (first k)) → (p offset : ℕ) → HasHead (journals p) offset → KnowsFresh (met i) p offset
    knows_starts made p offset there =
        let whose = made_whose n (dids first) p (journals p) (merged p) offset there in
        line.before.starts whose.0 p offset whose.1 (made whose.0 whose.1 p offset whose.2)

  -- each knows no less after the line, and does not forget what it made
  pub learnt : (k : ℕ) → k < n → Learns (first k) (last k)
  learnt k lt =
      let call : Learns (met k) (acted k) = dite (ℕ_discrete k i) (λ is. subst (λ (y : ℕ). Learns (met y) (acted y)) (sym is) line.learns)
      (λ not. subst (Learns (met k)) (sym (line.others k not)) (grows_none (met k), λ h. h)) in (
        grows_then (first k) (acted k) (last k) (grows_then (first k) (met k) (acted k) (line.before.grows k lt) call.0) (line.after.grows k lt),
        λ h. made_same (acted k) (last k) (line.after.did k lt) (line.after.grows k lt) (call.1 (made_same (first k) (met k) (line.before.did k lt) (line.before.grows k lt) h)),
      )
