-- What a pass knows of the objects that it made.
use Rattle.std.proofs.Common.{◌≡◌, ℕ, zero, suc, ◌<◌, Bool, true, false, cond, Option, Some, None, List, [], ◌∷◌, ◌++◌, sym, ap, subst, ◌∙◌, inl, inr, Result, Ok, Err, IfOk, eq-eqb, ne_eqb}
use Rattle.std.specs.Prelude.{◌⊎◌, OnErr}
use Rattle.std.proofs.lemmas.Bool.{cases_lt}
use Rattle.std.proofs.lemmas.List.{append-nil}
use mathlib.Core.Option as maybe
use mathlib.Core.Logic.{dite, ⊎_elim}
use native.Mathlib.Decide.{ℕ_discrete}
use lib.ListN.{get_elem?}
use Rattle.heap_layout.specs.declared.kind.Kind.TheVariants.{Header}
use Rattle.comp_mutator.specs.Entry.{Entry}
use Rattle.comp_mutator.specs.Lists.{by, on}
use Rattle.comp_mutator.specs.Setup.{Setup}
use Rattle.comp_mutator.specs.Pass.{Pass}
use Rattle.comp_mutator.specs.Passes.{did, KnowsFresh}
use Rattle.comp_mutator.specs.Calls.{Grows}
use Rattle.comp_mutator.specs.Lawful.{HasHead}
use Rattle.comp_mutator.proofs.OwnPages.{on_append}
use Rattle.comp_mutator.specs.Allocations.{AllocatesAsked}
use Rattle.heap_layout.specs.Header.{header_with, Head}
use Rattle.comp_trace.specs.LineBuilds.{kind_if}
use Rattle.comp_mutator.specs.Refusal.{Refusal}
use Rattle.comp_trace.specs.Acting.{Answers, Steps}
use Rattle.comp_trace.specs.WrittenEntries.{WrittenEntries, IsMerged, KnowsMade}
use Rattle.comp_trace.specs.RoundsOfMeetings.{Learns}
use Rattle.comp_trace.specs.declared.text.line.Action.{Action}
use Rattle.comp_trace.specs.declared.text.line.Action.TheVariants.{Root, Load, Get, Store, Put, New, Nil, Immediate}
use Rattle.comp_trace.proofs.Merging.{mine, others}

-- a pass that did the same, and knows no less, knows what it made
pub made_same : (old new : Pass) → did new ≡ did old → Grows old new → KnowsMade old → KnowsMade new
made_same old new same grows made p offset h = grows.starts p offset (made p offset (subst (λ (l : List (ℕ × Entry)). HasHead (on p l) offset) same h))

at_last : (j : List Entry) (i : ℕ) (e x : Entry) → get_elem? (j ++ x ∷ []) i ≡ maybe.some e → (get_elem? j i ≡ maybe.some e) ⊎ (x ≡ e)
at_last [] zero e x at = inr (maybe.some-injective x e at)
at_last [] (suc i) e x at = inl at
at_last (y ∷ ys) zero e x at = inl at
at_last (y ∷ ys) (suc i) e x at = at_last ys i e x at

-- one entry more
made_more : (old new : Pass) (p : ℕ) (e : Entry) → did new ≡ did old ++ (p, e) ∷ [] → Grows old new → (e.kind ≡ Header → KnowsFresh new p e.offset) → KnowsMade old → KnowsMade new
made_more old new p e one grows known made q offset h =
    let at : get_elem? (on q (did old) ++ on q ((p, e) ∷ [])) h.0 ≡ maybe.some h.1 = ap (λ (l : List Entry). get_elem? l h.0) (sym (ap (on q) one ∙ on_append q (did old) ((p, e) ∷ []))) ∙ h.2 in
    dite (ℕ_discrete p q)
    (λ is. ⊎_elim
    (λ before. grows.starts q offset (made q offset (h.0, h.1, before, h.3, h.4)))
    (λ last. subst (λ (x : ℕ). KnowsFresh new x offset) is (subst (λ (o : ℕ). KnowsFresh new p o) (ap (λ (x : Entry). x.offset) last ∙ h.4) (known (ap (λ (x : Entry). x.kind) last ∙ h.3))))
    (at_last (on q (did old)) h.0 h.1 e (ap (λ (t : Bool). get_elem? (on q (did old) ++ cond t (e ∷ []) []) h.0) (sym (eq-eqb p q is)) ∙ at)))
    (λ not. grows.starts q offset (made q offset (h.0, h.1, ap (λ (l : List Entry). get_elem? l h.0) (sym (ap (λ (t : Bool). on q (did old) ++ cond t (e ∷ []) []) (ne_eqb p q not) ∙ append-nil (on q (did old)))) ∙ at, h.3, h.4)))

-- a field that a load or a store names is no header
pub no_header : (weak : Bool) → kind_if weak ≡ Header → ⊥
no_header true is = cc
no_header false is = cc

asked_by : (u : Setup) (asked : Option Head) (old new : Pass) (answer : ℕ) → AllocatesAsked u old new asked answer → Grows old new → KnowsMade old → KnowsMade new
asked_by u None old new answer h grows = absurd h
asked_by u (Some header) old new answer h grows = made_more old new _ _ h.adds.did grows (λ is. h.known)

made_by : (u : Setup) (action : Action) (registers : List ℕ) (old new : Pass) (answer : ℕ) → Answers u action registers old new answer → Grows old new → KnowsMade old → KnowsMade new
made_by u (Root to root) registers old new answer h grows = made_same old new (ap did h.0) grows
made_by u (Load weak to object field) registers old new answer h grows = made_same old new h.0 grows
made_by u (Get object field) registers old new answer h grows = made_same old new h.0 grows
made_by u (Store weak object field value) registers old new answer h grows = made_more old new _ _ h.0.adds.did grows (λ is. absurd (no_header weak is))
made_by u (Put object field value) registers old new answer h grows = made_more old new _ _ h.adds.did grows (λ is. absurd cc)
made_by u (New to refs weak data_words tag) registers old new answer h grows = asked_by u (header_with u.heap.edition refs weak data_words tag) old new answer h grows
made_by u (Nil to) registers old new answer h grows = made_same old new (ap did h.0) grows
made_by u (Immediate to payload) registers old new answer h grows = made_same old new (ap did h.0) grows

-- whatever a call answered
pub learns_by : (P : Type 0) (u : Setup) (action : Action) (registers : List ℕ) (old new : Pass) (r : Result ℕ Refusal) → IfOk r (Steps u action registers old new) → OnErr r (Grows old new)
    → OnErr r ((did new ≡ did old) × P) → Learns old new
learns_by P u action registers old new (Ok answer) h grows same = (h.grows, made_by u action registers old new answer h.answers h.grows)
learns_by P u action registers old new (Err refusal) h grows same = (grows, made_same old new same.0 grows)

-- a header is among the entries of its writer
pub header_by : (j : List Entry) (i : ℕ) (e : Entry) → get_elem? j i ≡ maybe.some e → (k : ℕ) × (get_elem? (by e.writer j) k ≡ maybe.some e)
header_by [] i e at = absurd (maybe.some-ne-none e (sym at))
header_by (x ∷ xs) zero e at =
    let is = maybe.some-injective x e at in
    (0, ap (λ (l : List Entry). get_elem? l 0) (mine x xs e.writer (ap (λ (y : Entry). y.writer) is)) ∙ at)
header_by (x ∷ xs) (suc i) e at =
    let rest = header_by xs i e at in
    dite (ℕ_discrete x.writer e.writer)
    (λ is. (suc rest.0, ap (λ (l : List Entry). get_elem? l (suc rest.0)) (mine x xs e.writer is) ∙ rest.1))
    (λ not. (rest.0, ap (λ (l : List Entry). get_elem? l rest.0) (others x xs e.writer not) ∙ rest.1))

-- an object of merged journals was made by one of the mutators
pub made_whose : (n : ℕ) (written : WrittenEntries) (p : ℕ) (journal : List Entry) → IsMerged n written p journal → (offset : ℕ) → HasHead journal offset → (k : ℕ) × (k < n) × HasHead (on p (written k)) offset
made_whose n written p journal merged offset h =
    let own = header_by journal h.0 h.1 h.2 in
    elim (cases_lt h.1.writer n) [
      | inl lt ↦ (h.1.writer, lt, (own.0, h.1, ap (λ (l : List Entry). get_elem? l own.0) (sym (merged.own h.1.writer lt)) ∙ own.1, h.3, h.4))
      | inr le ↦ absurd (maybe.some-ne-none h.1 (sym (ap (λ (l : List Entry). get_elem? l own.0) (sym (merged.strangers h.1.writer le)) ∙ own.1)))
    ]
