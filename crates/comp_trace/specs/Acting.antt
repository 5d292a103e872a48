-- What the call of a line does to its mutator, in a replay and in a race.
use Rattle.std.specs.Prelude.{◌≡◌, ℕ, ◌<◌, ◌^◌, List, [], ◌∷◌, length, replicate, slice_index, slice_set, Some}
use Rattle.heap_layout.specs.Heap.{live}
use Rattle.heap_layout.specs.Header.{header_with}
use Rattle.heap_layout.specs.declared.kind.Kind.TheVariants as kinds
use Rattle.comp_mutator.specs.Sliding.{forward_value}
use Rattle.comp_mutator.specs.Setup.{Setup}
use Rattle.comp_mutator.specs.Passes.{did, seen, MayRefer}
use Rattle.comp_mutator.specs.Pass.{Pass}
use Rattle.comp_mutator.specs.Calls.{Grows}
use Rattle.comp_mutator.specs.Allocations.{AllocatesAsked, AskedRefused}
use Rattle.comp_mutator.specs.Reads.{FieldRefused, Reads}
use Rattle.comp_mutator.specs.Writes.{DataRefused, ReferenceRefused, Writes}
use Rattle.comp_mutator.specs.Refusal.{Refusal}
use Rattle.comp_trace.specs.declared.text.line.Action.{Action}
use Rattle.comp_trace.specs.declared.text.line.Action.TheVariants.{Root, Load, Get, Store, Put, New, Nil, Immediate}
use Rattle.comp_trace.specs.LineBuilds.{kind_if, touched, BuildsTouched}
use Rattle.comp_trace.specs.Immediates.{HasNoImmediate, IsImmediateWith}
use Rattle.comp_trace.specs.declared.steps.shown.Shown.{Shown}

-- the registers and the root of the line exist, and the payload of an immediate is one
abbrev pub Fits : Setup → Action → Type 0
Fits u (Root to root) = (to < 16) × (root < length u.heap.roots)
Fits u (Load weak to object field) = (to < 16) × (object < 16)
Fits u (Get object field) = object < 16
Fits u (Store weak object field value) = (object < 16) × (value < 16)
Fits u (Put object field value) = object < 16
Fits u (New to refs weak data_words tag) = to < 16
Fits u (Nil to) = to < 16
Fits u (Immediate to payload) = (to < 16) × (payload < 2 ^ 63)

-- a mutator's registers at the start
abbrev pub null_registers : List ℕ
null_registers = replicate 16 0

-- the registers of a mutator after a line, if its call gave this answer
abbrev pub registers_after : Action → List ℕ → ℕ → List ℕ
registers_after (Root to root) registers answer = slice_set registers to answer
registers_after (Load weak to object field) registers answer = slice_set registers to answer
registers_after (Get object field) registers answer = registers
registers_after (Store weak object field value) registers answer = registers
registers_after (Put object field value) registers answer = registers
registers_after (New to refs weak data_words tag) registers answer = slice_set registers to answer
registers_after (Nil to) registers answer = slice_set registers to answer
registers_after (Immediate to payload) registers answer = slice_set registers to answer

-- what line n shows, if its call gave this answer
abbrev pub shown_at : ℕ → Action → ℕ → List Shown
shown_at n (Root to root) answer = []
shown_at n (Load weak to object field) answer = []
shown_at n (Get object field) answer = record { line = n; value = answer } ∷ []
shown_at n (Store weak object field value) answer = []
shown_at n (Put object field value) answer = []
shown_at n (New to refs weak data_words tag) answer = []
shown_at n (Nil to) answer = []
shown_at n (Immediate to payload) answer = []

-- What the call of a line answers, if it takes the pass from `old` to `new`. A read answers the word that the journals
-- then seen give, a write the stamp of its one entry, an allocation the address of the new object. A root answers its
-- forwarding address, null 0 and an immediate itself; these three make no call.
abbrev pub Answers : Setup → Action → List ℕ → Pass → Pass → ℕ → Type 0
Answers u (Root to root) registers old new answer = (new ≡ old) × (forward_value u.heap.edition (live u.heap) (slice_index u.heap.roots root) ≡ Some answer)
Answers u (Load weak to object field) registers old new answer =
    (did new ≡ did old) × Reads u (seen new) (kind_if weak) (slice_index registers object) field answer × MayRefer new answer
Answers u (Get object field) registers old new answer = (did new ≡ did old) × Reads u (seen new) kinds.Data (slice_index registers object) field answer
Answers u (Store weak object field value) registers old new answer =
    Writes u old new (kind_if weak) (slice_index registers object) field (slice_index registers value) answer × MayRefer new (slice_index registers value)
Answers u (Put object field value) registers old new answer = Writes u old new kinds.Data (slice_index registers object) field value answer
Answers u (New to refs weak data_words tag) registers old new answer = AllocatesAsked u old new (header_with u.heap.edition refs weak data_words tag) answer
Answers u (Nil to) registers old new answer = (new ≡ old) × (answer ≡ 0)
Answers u (Immediate to payload) registers old new answer = (new ≡ old) × IsImmediateWith u payload answer

-- Why the call of a line is refused.
abbrev pub Refuses : Setup → Action → List ℕ → Pass → Pass → Refusal → Type 0
Refuses u (Root to root) registers old new refusal = ⊥
Refuses u (Load weak to object field) registers old new refusal = FieldRefused u old new (kind_if weak) (slice_index registers object) field refusal
Refuses u (Get object field) registers old new refusal = FieldRefused u old new kinds.Data (slice_index registers object) field refusal
Refuses u (Store weak object field value) registers old new refusal =
    ReferenceRefused u old new (kind_if weak) (slice_index registers object) field (slice_index registers value) refusal
Refuses u (Put object field value) registers old new refusal = DataRefused u old new kinds.Data (slice_index registers object) field refusal
Refuses u (New to refs weak data_words tag) registers old new refusal = AskedRefused u old new (header_with u.heap.edition refs weak data_words tag) refusal
Refuses u (Nil to) registers old new refusal = ⊥
Refuses u (Immediate to payload) registers old new refusal = (new ≡ old) × HasNoImmediate u payload refusal

-- One line ran. What the mutator has seen grew. It built at most the page that the line touched, and has then seen that
-- page built.
pub record Steps (u : Setup) (action : Action) (registers : List ℕ) (old new : Pass) (answer : ℕ) : Type 0 where
  pub grows : Grows old new
  pub answers : Answers u action registers old new answer
  pub builds : BuildsTouched (touched u action registers answer) old new
