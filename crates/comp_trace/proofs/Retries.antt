-- A line that is run again while its page is busy: what its last call answers is an answer of all its calls together.
use Rattle.std.proofs.Common.{◌≡◌, ℕ, ◌⊎◌, List, get_or, Option, None, Some, Result, Ok, Err, IfErr, refl, sym, ap, ◌∙◌, subst, inl, inr}
use Rattle.std.specs.Prelude.{OnErr, option_map}
use Rattle.heap_layout.specs.Header.{header_with, size_of, Head}
use Rattle.heap_layout.specs.declared.kind.Kind.{Kind}
use Rattle.heap_layout.specs.declared.kind.Kind.TheVariants.{Data}
use Rattle.comp_mutator.specs.Setup.{Setup}
use Rattle.comp_mutator.specs.Passes.{did, KnowsStart, MayRefer}
use Rattle.comp_mutator.specs.Pass.{Pass}
use Rattle.comp_mutator.specs.Calls.{Grows, SeesNothingNew}
use Rattle.comp_mutator.specs.Starts.{IsForwardingAddress}
use Rattle.comp_mutator.specs.Objects.{page_at}
use Rattle.comp_mutator.specs.Fields.{field_address, HasSlidFieldOn}
use Rattle.comp_mutator.specs.Allocations.{AllocatesAsked, AskedRefused, IsLowestPage}
use Rattle.comp_mutator.specs.Reads.{BuildsNothing}
use Rattle.comp_mutator.specs.Refusal.{Refusal}
use Rattle.comp_mutator.specs.Refusal.TheVariants.{Busy}
use Rattle.comp_mutator.proofs.Building.{builds_after, builds_then}
use Rattle.comp_mutator.proofs.BusyPages.{judged_reference, waits_allocation, waits_data, waits_field, waits_none, waits_reference, Waits}
use Rattle.comp_mutator.proofs.CompAccessGrowing.{writes_after}
use Rattle.comp_mutator.proofs.Earlier.{reference_refused_then, refused_then, write_refused_then, Saw}
use Rattle.comp_mutator.proofs.Growing.{grows_none, grows_then}
use Rattle.comp_mutator.proofs.LowestPages.{allocates_then, allocation_refused_then}
use Rattle.comp_trace.specs.declared.text.line.Action.{Action}
use Rattle.comp_trace.specs.declared.text.line.Action.TheVariants.{Root, Load, Get, Store, Put, New, Nil, Immediate}
use Rattle.comp_trace.specs.Acting.{Refuses, Steps}
use Rattle.comp_trace.specs.LineBuilds.{kind_if, slid_page, BuildsTouched}
use Rattle.comp_trace.proofs.OneLine.{made}

-- calls on a field met busy pages
abbrev pub WaitsOn : Setup → Kind → ℕ → ℕ → Pass → Pass → Type 0
WaitsOn u kind object field old now = Waits (HasSlidFieldOn u kind object field) (Saw u object) old now

-- allocations of this object met busy pages
abbrev pub WaitsToMake : Setup → Option Head → Pass → Pass → Type 0
WaitsToMake u None old now = now ≡ old
WaitsToMake u (Some header) old now = Waits (IsLowestPage u old (size_of header)) SeesNothingNew old now

-- calls of the line met busy pages
abbrev pub WaitsFor : Setup → Action → List ℕ → Pass → Pass → Type 0
WaitsFor u (Root to root) registers old now = now ≡ old
WaitsFor u (Load weak to object field) registers old now = WaitsOn u (kind_if weak) (get_or registers object 0) field old now
WaitsFor u (Get object field) registers old now = WaitsOn u Data (get_or registers object 0) field old now
WaitsFor u (Store weak object field value) registers old now =
    WaitsOn u (kind_if weak) (get_or registers object 0) field old now × (BuildsNothing old now ⊎ MayRefer now (get_or registers value 0))
WaitsFor u (Put object field value) registers old now = WaitsOn u Data (get_or registers object 0) field old now
WaitsFor u (New to refs weak data_words tag) registers old now = WaitsToMake u (header_with u.heap.edition refs weak data_words tag) old now
WaitsFor u (Nil to) registers old now = now ≡ old
WaitsFor u (Immediate to payload) registers old now = now ≡ old

make_none : (u : Setup) (asked : Option Head) (a : Pass) → WaitsToMake u asked a a
make_none u None a = refl
make_none u (Some header) a = waits_none _ _ a (λ p. refl)

field_none : (u : Setup) (kind : Kind) (object field : ℕ) (a : Pass) → WaitsOn u kind object field a a
field_none u kind object field a = waits_none _ _ a (inl (λ p. refl))

-- before the first call
pub waits_first : (u : Setup) (action : Action) (registers : List ℕ) (a : Pass) → WaitsFor u action registers a a
waits_first u (Root to root) registers a = refl
waits_first u (Load weak to object field) registers a = field_none u (kind_if weak) (get_or registers object 0) field a
waits_first u (Get object field) registers a = field_none u Data (get_or registers object 0) field a
waits_first u (Store weak object field value) registers a = (field_none u (kind_if weak) (get_or registers object 0) field a, inl refl)
waits_first u (Put object field value) registers a = field_none u Data (get_or registers object 0) field a
waits_first u (New to refs weak data_words tag) registers a = make_none u (header_with u.heap.edition refs weak data_words tag) a
waits_first u (Nil to) registers a = refl
waits_first u (Immediate to payload) registers a = refl

make_knows : (u : Setup) (asked : Option Head) (a b : Pass) → WaitsToMake u asked a b → Grows a b × (did b ≡ did a)
make_knows u None a b same = subst (λ (p : Pass). Grows a p × (did p ≡ did a)) (sym same) (grows_none a, refl)
make_knows u (Some header) a b h = (h.grows, h.did)

-- what the pass knows grew, and it wrote nothing
pub waits_know : (u : Setup) (action : Action) (registers : List ℕ) (a b : Pass) → WaitsFor u action registers a b → Grows a b × (did b ≡ did a)
waits_know u (Root to root) registers a b same = subst (λ (p : Pass). Grows a p × (did p ≡ did a)) (sym same) (grows_none a, refl)
waits_know u (Load weak to object field) registers a b h = (h.grows, h.did)
waits_know u (Get object field) registers a b h = (h.grows, h.did)
waits_know u (Store weak object field value) registers a b h = (h.0.grows, h.0.did)
waits_know u (Put object field value) registers a b h = (h.grows, h.did)
waits_know u (New to refs weak data_words tag) registers a b h = make_knows u (header_with u.heap.edition refs weak data_words tag) a b h
waits_know u (Nil to) registers a b same = subst (λ (p : Pass). Grows a p × (did p ≡ did a)) (sym same) (grows_none a, refl)
waits_know u (Immediate to payload) registers a b same = subst (λ (p : Pass). Grows a p × (did p ≡ did a)) (sym same) (grows_none a, refl)

module _ (u : Setup) (a b c : Pass) where
  abbrev busy : ℕ → Result ℕ Refusal
  busy q = Err (Busy q)

  make_more : (asked : Option Head) → WaitsToMake u asked a b → Grows b c → did c ≡ did b → (q : ℕ) → AskedRefused u b c asked (Busy q) → WaitsToMake u asked a c
  make_more None h grows same q r = absurd (cc r.0)
  make_more (Some header) h grows same q r = waits_allocation u (size_of header) a b c h grows same (busy q) q refl r

  -- after one more call that met a busy page
  pub waits_more : (action : Action) (registers : List ℕ) → WaitsFor u action registers a b → Grows b c → did c ≡ did b → (q : ℕ) → Refuses u action registers b c (Busy q)
      → WaitsFor u action registers a c
  waits_more (Root to root) registers h grows same q r = absurd r
  waits_more (Load weak to object field) registers h grows same q r = waits_field u (kind_if weak) (get_or registers object 0) field a b c h grows same (busy q) q refl r
  waits_more (Get object field) registers h grows same q r = waits_field u Data (get_or registers object 0) field a b c h grows same (busy q) q refl r
  waits_more (Store weak object field value) registers h grows same q r = (
    waits_reference u (kind_if weak) (get_or registers object 0) field a b c h.0 grows same (busy q) q refl (get_or registers value 0) r,
    judged_reference u (kind_if weak) (get_or registers object 0) field a b c h.0 grows same (busy q) q refl (get_or registers value 0) r,
  )
  waits_more (Put object field value) registers h grows same q r = waits_data u Data (get_or registers object 0) field a b c h grows same (busy q) q refl r
  waits_more (New to refs weak data_words tag) registers h grows same q r = make_more (header_with u.heap.edition refs weak data_words tag) h grows same q r
  waits_more (Nil to) registers h grows same q r = absurd r
  waits_more (Immediate to payload) registers h grows same q r = absurd (cc r.1.0)

  touched_later : (page : Option ℕ) → Grows a b → BuildsNothing a b → BuildsTouched page b c → BuildsTouched page a c
  touched_later None h none built = built ∙ none
  touched_later (Some p) h none built = (builds_after a b c p h none built.0, built.1)

  -- no page but the one that the line touches was built
  touched_then : (kind : Kind) (object field : ℕ) → WaitsOn u kind object field a b → Grows b c → BuildsTouched (slid_page u kind object field) b c
      → BuildsTouched (slid_page u kind object field) a c
  touched_then kind object field h k built = elim h.builds [
    | inl none ↦ touched_later (slid_page u kind object field) h.grows none built
    | inr one ↦
        let page : Head → ℕ = λ header. page_at (field_address kind object header field) in
        let is : slid_page u kind object field ≡ Some one.0 = ap (option_map page) one.1.slid ∙ ap (λ (p : ℕ). Some p) (sym one.1.page_is) in
        let there = subst (λ (t : Option ℕ). BuildsTouched t b c) is built in
        subst (λ (t : Option ℕ). BuildsTouched t a c) (sym is) (builds_then a b c one.0 h.grows k (inr one.2) there.0, there.1)
  ]

  make_then : (asked : Option Head) → WaitsToMake u asked a b → Grows b c → (position : ℕ) → AllocatesAsked u b c asked position → AllocatesAsked u a c asked position
  make_then None h k position made = absurd made
  make_then (Some header) h k position made = allocates_then u a b c h.grows h.did k header position h.builds made

  -- the line ran at last
  pub steps_then : (action : Action) (registers : List ℕ) → WaitsFor u action registers a b → (answer : ℕ) → Steps u action registers b c answer → Steps u action registers a c answer
  steps_then (Root to root) registers same answer s = subst (λ (p : Pass). Steps u (Root to root) registers p c answer) same s
  steps_then (Load weak to object field) registers h answer s = record {
    grows = grows_then a b c h.grows s.grows;
    answers = (s.answers.0 ∙ h.did, s.answers.1, s.answers.2);
    builds = touched_then (kind_if weak) (get_or registers object 0) field h s.grows s.builds;
  }
  steps_then (Get object field) registers h answer s = record {
    grows = grows_then a b c h.grows s.grows;
    answers = (s.answers.0 ∙ h.did, s.answers.1);
    builds = touched_then Data (get_or registers object 0) field h s.grows s.builds;
  }
  steps_then (Store weak object field value) registers h answer s = record {
    grows = grows_then a b c h.0.grows s.grows;
    answers = (writes_after u (kind_if weak) (get_or registers object 0) field a b c h.0.grows h.0.did (get_or registers value 0) answer s.answers.0, s.answers.1);
    builds = touched_then (kind_if weak) (get_or registers object 0) field h.0 s.grows s.builds;
  }
  steps_then (Put object field value) registers h answer s = record {
    grows = grows_then a b c h.grows s.grows;
    answers = writes_after u Data (get_or registers object 0) field a b c h.grows h.did value answer s.answers;
    builds = touched_then Data (get_or registers object 0) field h s.grows s.builds;
  }
  steps_then (New to refs weak data_words tag) registers h answer s =
      let asked = header_with u.heap.edition refs weak data_words tag in
      let before = make_knows u asked a b h in
      made u to refs weak data_words tag registers a c (Ok answer) (grows_then a b c before.0 s.grows) (make_then asked h s.grows answer s.answers)
  steps_then (Nil to) registers same answer s = subst (λ (p : Pass). Steps u (Nil to) registers p c answer) same s
  steps_then (Immediate to payload) registers same answer s = subst (λ (p : Pass). Steps u (Immediate to payload) registers p c answer) same s

  make_refused : (asked : Option Head) → WaitsToMake u asked a b → Grows b c → (refusal : Refusal) → AskedRefused u b c asked refusal → AskedRefused u a c asked refusal
  make_refused None same k refusal r = subst (λ (p : Pass). AskedRefused u p c None refusal) same r
  make_refused (Some header) h k refusal r = allocation_refused_then u (size_of header) a b h.grows h.did c k h.builds h.seen refusal r

  module _ (knows : (x : ℕ) → KnowsStart a x → KnowsStart b x) (places : (x : ℕ) → IsForwardingAddress u.heap x → KnowsStart b x) (k : Grows b c) where
    refuses : (action : Action) (registers : List ℕ) → WaitsFor u action registers a b → (refusal : Refusal) → Refuses u action registers b c refusal → Refuses u action registers a c refusal
    refuses (Root to root) registers h refusal r = r
    refuses (Load weak to object field) registers h refusal r =
        let o = get_or registers object 0 in refused_then u (kind_if weak) o field a b c h.grows k h.builds h.seen knows (places o) refusal r
    refuses (Get object field) registers h refusal r = let o = get_or registers object 0 in refused_then u Data o field a b c h.grows k h.builds h.seen knows (places o) refusal r
    refuses (Store weak object field value) registers h refusal r =
        let o = get_or registers object 0 in
        reference_refused_then u (kind_if weak) o field a b c h.0.grows k h.0.builds h.0.seen knows (places o) (get_or registers value 0) h.1 refusal r
    refuses (Put object field value) registers h refusal r = let o = get_or registers object 0 in write_refused_then u Data o field a b c h.grows k h.builds h.seen knows (places o) refusal r
    refuses (New to refs weak data_words tag) registers h refusal r = make_refused (header_with u.heap.edition refs weak data_words tag) h k refusal r
    refuses (Nil to) registers h refusal r = r
    refuses (Immediate to payload) registers same refusal r = subst (λ (p : Pass). Refuses u (Immediate to payload) registers p c refusal) same r

  -- why the last call was refused
  pub refuses_then : (knows : (x : ℕ) → KnowsStart a x → KnowsStart b x) (places : (x : ℕ) → IsForwardingAddress u.heap x → KnowsStart b x) (action : Action) (registers : List ℕ)
      → WaitsFor u action registers a b → (r : Result ℕ Refusal) → OnErr r (Grows b c) → IfErr r (Refuses u action registers b c) → IfErr r (Refuses u action registers a c)
  refuses_then knows places action registers h (Ok x) grows told = tt
  refuses_then knows places action registers h (Err e) grows told = refuses knows places grows action registers h e told
