-- What a mutator showed, wrote and was refused in a race, by the journals that it had seen when it had met the others.
use Rattle.std.proofs.Common.{◌≡◌, ℕ, zero, suc, ◌≤◌, ◌==◌, Bool, true, false, cond, List, [], ◌∷◌, ◌++◌, length, take, refl, sym, ap, subst, ◌∙◌, ⊎_elim, arith, inl, inr, length-append}
use Rattle.std.specs.Prelude.{◌⊎◌, Option, None, Some, slice_index}
use mathlib.Core.Option.{some, some-injective, some-ne-none}
use lib.ListN.{get_elem?}
use Rattle.heap_layout.specs.Header.{header_with, Head}
use Rattle.heap_layout.specs.declared.kind.Kind.{Kind}
use Rattle.heap_layout.specs.declared.kind.Kind.TheVariants.{Data}
use Rattle.comp_mutator.specs.Allocations.{AllocatesAsked, AskedRefused}
use Rattle.comp_mutator.specs.Entry.{Entry}
use Rattle.comp_mutator.specs.Lists.{by, on, Each, StartsWith}
use Rattle.comp_mutator.specs.Locks.{Journals}
use Rattle.comp_mutator.specs.Pass.{Pass}
use Rattle.comp_mutator.specs.Passes.{did, seen}
use Rattle.comp_mutator.specs.Reads.{Reads, SeesFull}
use Rattle.comp_mutator.specs.Refusal.TheVariants.{JournalFull}
use Rattle.comp_mutator.specs.Setup.{Setup}
use Rattle.comp_mutator.specs.Writes.{Adds, DataRefused}
use Rattle.comp_mutator.proofs.Growing.{begins_then, same_begins}
use Rattle.comp_mutator.proofs.Sums.{last_of}
use Rattle.comp_trace.specs.Acting.{null_registers, registers_after, shown_at, Answers, Refuses}
use Rattle.comp_trace.specs.declared.steps.shown.Shown.{Shown}
use Rattle.comp_trace.proofs.Merging.{mine}
use Rattle.comp_trace.specs.declared.text.fault.RefusedLine.{RefusedLine}
use Rattle.comp_trace.specs.declared.text.line.Action.{Action}
use Rattle.comp_trace.specs.declared.text.line.Action.TheVariants.{Root, Load, Get, Store, Put, New, Nil, Immediate}
use Rattle.comp_trace.specs.declared.text.line.Line.{Line}
use Rattle.comp_trace.specs.Inventions.{IsOfLines, IsReadOf, MayWrite, WritesHeader}
use Rattle.comp_trace.specs.Races.{Ends, RanAndMet, Went}
use Rattle.comp_trace.proofs.OwnLines.{went_grows}

-- ---- elements of parts

-- an entry of this writer is among the writer's entries
pub in_by : (k : ℕ) (l : List Entry) (j : ℕ) (e : Entry) → get_elem? l j ≡ some e → e.writer ≡ k → (i : ℕ) × (get_elem? (by k l) i ≡ some e)
in_by k [] j e at w = absurd (some-ne-none e (sym at))
in_by k (x ∷ xs) zero e at w = (0, ap (λ (l : List Entry). get_elem? l 0) (mine x xs k (ap (λ (y : Entry). y.writer) (some-injective x e at) ∙ w)) ∙ at)
in_by k (x ∷ xs) (suc j) e at w =
    let i = in_by k xs j e at w in
    elim (x.writer == k) as (λ t. (i : ℕ) × (get_elem? (cond t (x ∷ by k xs) (by k xs)) i ≡ some e)) [ true ↦ (suc i.0, i.1) | false ↦ i ]

-- the entry is among these, on some page
abbrev pub IsOn : List (ℕ × Entry) → Entry → Type 0
IsOn l e = (j : ℕ) × (x : ℕ × Entry) × (get_elem? l j ≡ some x) × (x.1 ≡ e)

in_rest : (x : ℕ × Entry) (xs : List (ℕ × Entry)) (e : Entry) → IsOn xs e → IsOn (x ∷ xs) e
in_rest x xs e h = (suc h.0, h.1, h.2, h.3)

in_either : (t : Bool) (x : ℕ × Entry) (xs : List (ℕ × Entry)) (rest : List Entry) (e : Entry) (i : ℕ) → ((j : ℕ) → get_elem? rest j ≡ some e → IsOn xs e) → get_elem? (cond t (x.1 ∷ rest) rest) i ≡ some e → IsOn (x ∷ xs) e
in_either false x xs rest e i more at = in_rest x xs e (more i at)
in_either true x xs rest e zero more at = (0, x, refl, some-injective x.1 e at)
in_either true x xs rest e (suc i) more at = in_rest x xs e (more i at)

pub in_on : (p : ℕ) (l : List (ℕ × Entry)) (i : ℕ) (e : Entry) → get_elem? (on p l) i ≡ some e → IsOn l e
in_on p [] i e at = absurd (some-ne-none e (sym at))
in_on p (x ∷ xs) i e at = in_either (x.0 == p) x xs (on p xs) e i (λ j there. in_on p xs j e there) at

in_first : {A : Type 0} (n : ℕ) (l : List A) (j : ℕ) (x : A) → get_elem? (take n l) j ≡ some x → get_elem? l j ≡ some x
in_first zero [] j x at = at
in_first zero (y ∷ ys) j x at = absurd (some-ne-none x (sym at))
in_first (suc n) [] j x at = at
in_first (suc n) (y ∷ ys) zero x at = at
in_first (suc n) (y ∷ ys) (suc j) x at = in_first n ys j x at

-- ---- what the lines wrote

-- one entry was added by such a line
one_added : (u : Setup) (action : Action) (p : ℕ) (e : Entry) (old new : Pass) → Adds p e old new → MayWrite u action e → (j : ℕ) (x : ℕ × Entry) → get_elem? (did new) j ≡ some x
    → (get_elem? (did old) j ≡ some x) ⊎ MayWrite u action x.1
one_added u action p e old new adds may j x at =
    ⊎_elim inl (λ s. inr (subst (λ (y : ℕ × Entry). MayWrite u action y.1) s.1 may)) (last_of (did old) (p, e) x j (sym (ap (λ (l : List (ℕ × Entry)). get_elem? l j) adds.did) ∙ at))

made_by : (u : Setup) (old new : Pass) (header : Option Head) (answer : ℕ) → AllocatesAsked u old new header answer → (j : ℕ) (x : ℕ × Entry) → get_elem? (did new) j ≡ some x
    → (get_elem? (did old) j ≡ some x) ⊎ WritesHeader header x.1
made_by u old new None answer h j x at = absurd h
made_by u old new (Some header) answer h j x at =
    ⊎_elim inl (λ s. inr (subst (λ (y : ℕ × Entry). WritesHeader (Some header) y.1) s.1 (refl, refl))) (last_of (did old) _ x j (sym (ap (λ (l : List (ℕ × Entry)). get_elem? l j) h.adds.did) ∙ at))

wrote : (u : Setup) (action : Action) (registers : List ℕ) (old new : Pass) (answer : ℕ) → Answers u action registers old new answer → (j : ℕ) (x : ℕ × Entry) → get_elem? (did new) j ≡ some x
    → (get_elem? (did old) j ≡ some x) ⊎ MayWrite u action x.1
wrote u (Root to root) registers old new answer h j x at = inl (sym (ap (λ (y : Pass). get_elem? (did y) j) h.0) ∙ at)
wrote u (Load weak to object field) registers old new answer h j x at = inl (sym (ap (λ (l : List (ℕ × Entry)). get_elem? l j) h.0) ∙ at)
wrote u (Get object field) registers old new answer h j x at = inl (sym (ap (λ (l : List (ℕ × Entry)). get_elem? l j) h.0) ∙ at)
wrote u (Store weak object field value) registers old new answer h j x at = one_added u (Store weak object field value) _ _ old new h.0.adds refl j x at
wrote u (Put object field value) registers old new answer h j x at = one_added u (Put object field value) _ _ old new h.adds (refl, refl) j x at
wrote u (New to refs weak data_words tag) registers old new answer h j x at = made_by u old new (header_with u.heap.edition refs weak data_words tag) answer h j x at
wrote u (Nil to) registers old new answer h j x at = inl (sym (ap (λ (y : Pass). get_elem? (did y) j) h.0) ∙ at)
wrote u (Immediate to payload) registers old new answer h j x at = inl (sym (ap (λ (y : Pass). get_elem? (did y) j) h.0) ∙ at)

-- what a mutator did it had done before, or a line of these wrote it
went_wrote : (u : Setup) (lines : List (ℕ × Line)) (registers : List ℕ) (old : Pass) (shown : List Shown) (after : List ℕ) (new : Pass) → Went u lines registers old shown after new
    → (j : ℕ) (x : ℕ × Entry) → get_elem? (did new) j ≡ some x → (get_elem? (did old) j ≡ some x) ⊎ IsOfLines u lines x.1
went_wrote u [] registers old shown after new w j x at = inl (sym (ap (λ (y : Pass). get_elem? (did y) j) w.1) ∙ at)
went_wrote u (line ∷ lines) registers old shown after new w j x at =
    ⊎_elim
    (λ before. ⊎_elim inl (λ may. inr (0, line, refl, may)) (wrote u line.1.action registers old w.0 w.1 w.3.answers j x before))
    (λ later. inr (suc later.0, later.1, later.2, later.3))
    (went_wrote u lines (registers_after line.1.action registers w.1) w.0 w.2 after new w.5 j x at)

ends_did : (u : Setup) (lines : List (ℕ × Line)) (count : ℕ) (registers : List ℕ) (old new : Pass) (fault : Option RefusedLine) → Ends u lines count registers old new fault → did new ≡ did old
ends_did u lines count registers old new None e = ap did e.1
ends_did u lines count registers old new (Some stop) e = e.did

pub met_wrote : (u : Setup) (lines : List (ℕ × Line)) (old new : Pass) (shown : List Shown) (fault : Option RefusedLine) → RanAndMet u lines old new shown fault → did old ≡ []
    → (j : ℕ) (x : ℕ × Entry) → get_elem? (did new) j ≡ some x → IsOfLines u lines x.1
met_wrote u lines old new shown fault h none j x at =
    let r = h.ran in
    let same : did new ≡ did r.last = h.met.did ∙ ends_did u lines r.count r.registers r.last h.last fault r.ends in
    ⊎_elim
    (λ before. absurd (some-ne-none x (sym before ∙ ap (λ (l : List (ℕ × Entry)). get_elem? l j) none)))
    (λ one. (one.0, one.1, in_first r.count lines one.0 one.1 one.2, one.3))
    (went_wrote u (take r.count lines) null_registers old shown r.registers r.last r.went j x (sym (ap (λ (l : List (ℕ × Entry)). get_elem? l j) same) ∙ at))

-- ---- what the lines showed

module _ (u : Setup) (journals : Journals) where
  read_one : (object field n word : ℕ) (middle : Pass) (rest : List Shown) → ((p : ℕ) → StartsWith (journals p) (seen middle p)) → Reads u (seen middle) Data object field word
      → Each rest (IsReadOf u journals) → Each (record { line = n; value = word } ∷ rest) (IsReadOf u journals)
  read_one object field n word middle rest begins reads more zero value at =
      let one : Shown = record { line = n; value = word } in
      record {
        part = seen middle;
        begins = begins;
        object = object;
        field = field;
        reads = subst (λ (x : Shown). Reads u (seen middle) Data object field x.value) (some-injective one value at) reads;
      }
  read_one object field n word middle rest begins reads more (suc i) value at = more i value at

  read_line : (action : Action) (n : ℕ) (registers : List ℕ) (old middle : Pass) (answer : ℕ) (rest : List Shown) → ((p : ℕ) → StartsWith (journals p) (seen middle p)) → Answers u action registers old middle answer
      → Each rest (IsReadOf u journals) → Each (shown_at n action answer ++ rest) (IsReadOf u journals)
  read_line (Root to root) n registers old middle answer rest begins h more = more
  read_line (Load weak to object field) n registers old middle answer rest begins h more = more
  read_line (Get object field) n registers old middle answer rest begins h more = read_one (slice_index registers object) field n answer middle rest begins h.1 more
  read_line (Store weak object field value) n registers old middle answer rest begins h more = more
  read_line (Put object field value) n registers old middle answer rest begins h more = more
  read_line (New to refs weak data_words tag) n registers old middle answer rest begins h more = more
  read_line (Nil to) n registers old middle answer rest begins h more = more
  read_line (Immediate to payload) n registers old middle answer rest begins h more = more

  went_read : (lines : List (ℕ × Line)) (registers : List ℕ) (old : Pass) (shown : List Shown) (after : List ℕ) (new : Pass) → ((p : ℕ) → StartsWith (journals p) (seen new p))
      → Went u lines registers old shown after new → Each shown (IsReadOf u journals)
  went_read [] registers old shown after new begins w i value at = absurd (some-ne-none value (sym at ∙ ap (λ (l : List Shown). get_elem? l i) w.2))
  went_read (line ∷ lines) registers old shown after new begins w i value at =
      let then = registers_after line.1.action registers w.1 in
      let grown = went_grows u lines then w.0 w.2 after new w.5 in
      read_line line.1.action line.0 registers old w.0 w.1 w.2 (λ p. begins_then (seen w.0 p) (seen new p) (journals p) (grown.seen p) (begins p)) w.3.answers
      (went_read lines then w.0 w.2 after new begins w.5) i value (sym (ap (λ (l : List Shown). get_elem? l i) w.4) ∙ at)

  ends_seen : (lines : List (ℕ × Line)) (count : ℕ) (registers : List ℕ) (old new : Pass) (fault : Option RefusedLine) → Ends u lines count registers old new fault → (p : ℕ) → StartsWith (seen new p) (seen old p)
  ends_seen lines count registers old new None e p = same_begins (seen new p) (seen old p) (ap (λ (x : Pass). seen x p) e.1)
  ends_seen lines count registers old new (Some stop) e p = e.grows.seen p

  module _ (lines : List (ℕ × Line)) (old new : Pass) (shown : List Shown) (fault : Option RefusedLine) (h : RanAndMet u lines old new shown fault) (all : (p : ℕ) → seen new p ≡ journals p) where
    -- what it had seen after its lines
    last_begins : (p : ℕ) → StartsWith (journals p) (seen h.last p)
    last_begins p = subst (λ (l : List Entry). StartsWith l (seen h.last p)) (all p) (h.met.grows.seen p)

    pub met_read : Each shown (IsReadOf u journals)
    met_read =
        let r = h.ran in
        went_read (take r.count lines) null_registers old shown r.registers r.last
        (λ p. begins_then (seen r.last p) (seen h.last p) (journals p) (ends_seen lines r.count r.registers r.last h.last fault r.ends p) (last_begins p)) r.went

    pub met_full : (line p : ℕ) → fault ≡ Some (record { line = line; refusal = JournalFull p }) → 1024 ≤ length (journals p)
    met_full line p is =
        let r = h.ran in
        let stop : RefusedLine = record { line = line; refusal = JournalFull p } in
        let e = subst (λ (f : Option RefusedLine). Ends u lines r.count r.registers r.last h.last f) is r.ends in
        let full : SeesFull h.last p = full_seen e.line.1.action r.registers r.last h.last p e.refuses in
        let more = last_begins p in
        omega (arith, full, ap length more.1, length-append (seen h.last p) more.0)
      where
        full_data : (old new : Pass) (kind : Kind) (object field p : ℕ) → DataRefused u old new kind object field (JournalFull p) → SeesFull new p
        full_data old new kind object field p h = ⊎_elim (λ no. absurd no) (λ full. full.2) h

        full_made : (old new : Pass) (header : Option Head) (p : ℕ) → AskedRefused u old new header (JournalFull p) → SeesFull new p
        full_made old new None p h = absurd cc
        full_made old new (Some header) p h = h.1

        full_seen : (action : Action) (registers : List ℕ) (old new : Pass) (p : ℕ) → Refuses u action registers old new (JournalFull p) → SeesFull new p
        full_seen (Root to root) registers old new p h = absurd h
        full_seen (Load weak to object field) registers old new p h = absurd h
        full_seen (Get object field) registers old new p h = absurd h
        full_seen (Store weak object field value) registers old new p h = ⊎_elim (λ d. full_data old new _ _ field p d.0) (λ no. absurd no) h
        full_seen (Put object field value) registers old new p h = full_data old new _ _ field p h
        full_seen (New to refs weak data_words tag) registers old new p h = full_made old new _ p h
        full_seen (Nil to) registers old new p h = absurd h
        full_seen (Immediate to payload) registers old new p h = absurd (cc h.1.0)
