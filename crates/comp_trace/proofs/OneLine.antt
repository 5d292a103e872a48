-- A line: what it stores, what it shows, and the forwarding address of its root.
use Rattle.std.proofs.Common.{◌≡◌, ℕ, ◌<◌, ◌≤◌, List, length, map, get_or, IfErr, IfOk, Result, Ok, Err, Some, refl, sym, ap, ◌∙◌, arith, subst}
use mathlib.Core.Option.{some}
use lib.ListN.{get_elem?}
use Rattle.comp_mutator.proofs.Sums.{is_inside, read_at}
use Rattle.comp_mutator.proofs.Rows.{at_map, at_map_back}
use Rattle.std.specs.Prelude.{Bool, Option, None, OnErr, OnOk}
use Rattle.heap_layout.specs.Heap.{live}
use Rattle.heap_layout.specs.Header.{header_with, Head}
use Rattle.comp_mutator.specs.Sliding.{forward_value}
use Rattle.heap_layout.specs.declared.kind.Kind.{Kind}
use Rattle.heap_layout.specs.declared.kind.Kind.TheVariants.{Data}
use Rattle.comp_mutator.specs.Setup.{Setup}
use Rattle.comp_mutator.specs.Passes.{did, seen, MayRefer}
use Rattle.comp_mutator.specs.Pass.{Pass}
use Rattle.comp_mutator.specs.Calls.{Grows}
use Rattle.comp_mutator.specs.Objects.{page_at}
use Rattle.comp_mutator.proofs.Growing.{grows_none}
use Rattle.comp_mutator.specs.Allocations.{AllocatesAsked}
use Rattle.comp_mutator.specs.Reads.{FieldRefused, MayBuildTouched, Reads}
use Rattle.comp_mutator.specs.Writes.{ReferenceRefused, Writes}
use Rattle.comp_mutator.specs.Refusal.{Refusal}
use Rattle.comp_trace.specs.Acting.{shown_at, Steps}
use Rattle.comp_trace.specs.LineBuilds.{kind_if, slid_page, BuildsTouched}
use Rattle.comp_trace.specs.Immediates.{IsImmediateWith}
use Rattle.comp_trace.specs.declared.text.line.Action.{Action}
use Rattle.comp_trace.specs.declared.text.line.Action.TheVariants.{Root, Load, Get, Store, Put, New, Nil, Immediate}
use Rattle.comp_trace.proofs.Building.{field_touched, made_touched}
use Rattle.comp_trace.proofs.Elements.{at_or}

-- the page of the field of an object that a register holds
touch_of : (u : Setup) (kind : Kind) (object field : ℕ) (registers : List ℕ) (old new : Pass) (o : ℕ) → o ≡ get_or registers object 0 → MayBuildTouched u old new kind o field
    → BuildsTouched (slid_page u kind (get_or registers object 0) field) old new
touch_of u kind object field registers old new o e builds = subst (λ x. BuildsTouched (slid_page u kind x field) old new) e (field_touched u old new kind o field builds)

-- a field that refers was written
pub stored : (u : Setup) (weak : Bool) (object field value : ℕ) (registers : List ℕ) (old new : Pass) (kind : Kind) (o v : ℕ) (r : Result ℕ Refusal) → kind ≡ kind_if weak
    → o ≡ get_or registers object 0 → v ≡ get_or registers value 0 → Grows old new → IfOk r (Writes u old new kind o field v) → OnOk r (MayRefer new v)
    → OnOk r (MayBuildTouched u old new kind o field) → IfOk r (Steps u (Store weak object field value) registers old new)
stored u weak object field value registers old new kind o v (Ok a) ek eo ev grows wrote target builds =
    let there : Writes u old new (kind_if weak) o field v a = subst (λ (k : Kind). Writes u old new k o field v a) ek wrote in
    record {
      grows = grows;
      builds = touch_of u (kind_if weak) object field registers old new o eo (subst (λ (k : Kind). MayBuildTouched u old new k o field) ek builds);
      answers = (subst (λ x. Writes u old new (kind_if weak) x field (get_or registers value 0) a) eo (subst (λ x. Writes u old new (kind_if weak) o field x a) ev there), subst (MayRefer new) ev target);
    }
stored u weak object field value registers old new kind o v (Err e) ek eo ev grows wrote target builds = tt

-- why it was not
pub unstored : (u : Setup) (weak : Bool) (object field value : ℕ) (registers : List ℕ) (old new : Pass) (kind : Kind) (o v : ℕ) (r : Result ℕ Refusal) → kind ≡ kind_if weak
    → o ≡ get_or registers object 0 → v ≡ get_or registers value 0 → IfErr r (ReferenceRefused u old new kind o field v)
    → IfErr r (ReferenceRefused u old new (kind_if weak) (get_or registers object 0) field (get_or registers value 0))
unstored u weak object field value registers old new kind o v r ek eo ev h =
    subst (λ (x : ℕ). IfErr r (ReferenceRefused u old new (kind_if weak) x field (get_or registers value 0))) eo
    (subst (λ (x : ℕ). IfErr r (ReferenceRefused u old new (kind_if weak) o field x)) ev (subst (λ (k : Kind). IfErr r (ReferenceRefused u old new k o field v)) ek h))

-- a data word was read
pub got : (u : Setup) (object field : ℕ) (registers : List ℕ) (old new : Pass) (o : ℕ) (r : Result ℕ Refusal) → o ≡ get_or registers object 0 → Grows old new × (did new ≡ did old)
    → IfOk r (Reads u (seen new) Data o field) → OnOk r (MayBuildTouched u old new Data o field) → IfOk r (Steps u (Get object field) registers old new)
got u object field registers old new o (Ok a) e grows read builds = record {
  grows = grows.0;
  answers = (grows.1, subst (λ x. Reads u (seen new) Data x field a) e read);
  builds = touch_of u Data object field registers old new o e builds;
}
got u object field registers old new o (Err refusal) e grows read builds = tt

-- a data word was written
pub put : (u : Setup) (object field value : ℕ) (registers : List ℕ) (old new : Pass) (o : ℕ) (r : Result ℕ Refusal) → o ≡ get_or registers object 0 → Grows old new
    → IfOk r (Writes u old new Data o field value) → OnOk r (MayBuildTouched u old new Data o field) → IfOk r (Steps u (Put object field value) registers old new)
put u object field value registers old new o (Ok a) e grows wrote builds = record {
  grows = grows;
  answers = subst (λ x. Writes u old new Data x field value a) e wrote;
  builds = touch_of u Data object field registers old new o e builds;
}
put u object field value registers old new o (Err refusal) e grows wrote builds = tt

-- a field that refers was read
pub loaded : (u : Setup) (weak : Bool) (to object field : ℕ) (registers : List ℕ) (old new : Pass) (kind : Kind) (o : ℕ) (r : Result ℕ Refusal) → kind ≡ kind_if weak
    → o ≡ get_or registers object 0 → Grows old new × (did new ≡ did old) → IfOk r (Reads u (seen new) kind o field) → IfOk r (MayRefer new)
    → OnOk r (MayBuildTouched u old new kind o field) → IfOk r (Steps u (Load weak to object field) registers old new)
loaded u weak to object field registers old new kind o (Ok a) ek eo grows read known builds =
    let there : Reads u (seen new) (kind_if weak) o field a = subst (λ (k : Kind). Reads u (seen new) k o field a) ek read in
    record {
      grows = grows.0;
      answers = (grows.1, subst (λ x. Reads u (seen new) (kind_if weak) x field a) eo there, known);
      builds = touch_of u (kind_if weak) object field registers old new o eo (subst (λ (k : Kind). MayBuildTouched u old new k o field) ek builds);
    }
loaded u weak to object field registers old new kind o (Err refusal) ek eo grows read known builds = tt

-- why it was not
pub unloaded : (u : Setup) (weak : Bool) (object field : ℕ) (registers : List ℕ) (old new : Pass) (kind : Kind) (o : ℕ) (r : Result ℕ Refusal) → kind ≡ kind_if weak
    → o ≡ get_or registers object 0 → IfErr r (FieldRefused u old new kind o field) → IfErr r (FieldRefused u old new (kind_if weak) (get_or registers object 0) field)
unloaded u weak object field registers old new kind o r ek eo h =
    subst (λ (x : ℕ). IfErr r (FieldRefused u old new (kind_if weak) x field)) eo (subst (λ (k : Kind). IfErr r (FieldRefused u old new k o field)) ek h)

-- the page on which an object was made
asked_touched : (u : Setup) (old new : Pass) (asked : Option Head) (word_address : ℕ) → AllocatesAsked u old new asked word_address → BuildsTouched (Some (page_at word_address)) old new
asked_touched u old new None word_address h = absurd h
asked_touched u old new (Some header) word_address h = made_touched u old new header word_address h

-- an object was made
pub made : (u : Setup) (to refs weak data_words tag : ℕ) (registers : List ℕ) (old new : Pass) (r : Result ℕ Refusal) → Grows old new
    → IfOk r (AllocatesAsked u old new (header_with u.heap.edition refs weak data_words tag)) → IfOk r (Steps u (New to refs weak data_words tag) registers old new)
made u to refs weak data_words tag registers old new (Ok a) grows allocated =
    record { grows = grows; answers = allocated; builds = asked_touched u old new (header_with u.heap.edition refs weak data_words tag) a allocated }
made u to refs weak data_words tag registers old new (Err refusal) grows allocated = tt

-- a root was taken
pub rooted : (u : Setup) (to root : ℕ) (registers : List ℕ) (pass : Pass) (word_address : ℕ) → forward_value u.heap.edition (live u.heap) (get_or u.heap.roots root 0) ≡ Some word_address
    → Steps u (Root to root) registers pass pass word_address
rooted u to root registers pass word_address leads = record { grows = grows_none pass; answers = (refl, leads); builds = refl }

-- a register became null
pub nulled : (u : Setup) (to : ℕ) (registers : List ℕ) (pass : Pass) → Steps u (Nil to) registers pass pass 0
nulled u to registers pass = record { grows = grows_none pass; answers = (refl, refl); builds = refl }

-- a register became an immediate
pub immediated : (u : Setup) (to payload : ℕ) (registers : List ℕ) (pass : Pass) (word : ℕ) → IsImmediateWith u payload word → Steps u (Immediate to payload) registers pass pass word
immediated u to payload registers pass word is = record { grows = grows_none pass; answers = (refl, is); builds = refl }

-- what holds of each answer
pub on_ok : (r : Result ℕ Refusal) (P : ℕ → Type 0) → ((answer : ℕ) → P answer) → IfOk r P
on_ok (Ok answer) P h = h answer
on_ok (Err refusal) P h = tt

-- what holds anyway holds if a call is refused
pub on_err : (r : Result ℕ Refusal) (P : Type 0) → P → OnErr r P
on_err (Ok a) P h = tt
on_err (Err refusal) P h = h

-- a line shows one value at most
pub shows_one : (number : ℕ) (action : Action) (answer : ℕ) → length (shown_at number action answer) ≤ 1
shows_one number (Root to root) answer = omega arith
shows_one number (Load weak to object field) answer = omega arith
shows_one number (Get object field) answer = omega arith
shows_one number (Store weak object field value) answer = omega arith
shows_one number (Put object field value) answer = omega arith
shows_one number (New to refs weak data_words tag) answer = omega arith
shows_one number (Nil to) answer = omega arith
shows_one number (Immediate to payload) answer = omega arith

-- the forwarding address of a root
pub leads_at : (f : ℕ → Option ℕ) (xs ys : List ℕ) → map (λ (address : ℕ). Some address) xs ≡ map f ys → (i : ℕ) → i < length ys → (i < length xs) × (f (get_or ys i 0) ≡ Some (get_or xs i 0))
leads_at f xs ys e i lt =
    let there : get_elem? (map (λ (address : ℕ). Some address) xs) i ≡ some (f (get_or ys i 0)) = ap (λ l. get_elem? l i) e ∙ at_map f ys i (get_or ys i 0) (at_or ys i 0 lt) in
    let x = at_map_back (λ (address : ℕ). Some address) xs i (f (get_or ys i 0)) there in
    (is_inside xs i x.0 x.1, sym x.2 ∙ ap (λ (n : ℕ). Some n) (sym (read_at xs i x.0 0 x.1)))
