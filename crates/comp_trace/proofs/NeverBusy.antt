-- If all mutators are in hand and meet before a line and after it, no page is busy in its call: all of them rest
-- meanwhile.
use Rattle.std.proofs.Common.{◌≡◌, ◌≢◌, ℕ, ◌%◌, ◌<◌, ◌≤◌, List, None, Some, get_or, inl, inr, sym, ap, subst, ◌∙◌, arith}
use Rattle.std.specs.Prelude.{Option}
use Rattle.std.proofs.lemmas.Bool.{cases_lt}
use native.Mathlib.Decide.{ℕ_discrete}
use mathlib.Core.Logic.{dite, ⊎_elim}
use Rattle.heap_layout.specs.declared.kind.Kind.{Kind}
use Rattle.heap_layout.specs.declared.kind.Kind.TheVariants.{Data}
use Rattle.heap_layout.specs.Header.{header_with, Head}
use Rattle.comp_mutator.specs.Passes.{number_of, turns_of, IsNotMade, MetTurn, Rests}
use Rattle.comp_mutator.specs.Setup.{Setup}
use Rattle.comp_mutator.specs.Pass.{Pass}
use Rattle.comp_mutator.specs.Steps.{Steps}
use Rattle.comp_mutator.specs.Calls.{Grows}
use Rattle.comp_mutator.specs.Allocations.{AskedRefused}
use Rattle.comp_mutator.specs.Writes.{DataRefused, ReferenceRefused}
use Rattle.comp_mutator.specs.Refusal.TheVariants.{Busy}
use Rattle.comp_trace.specs.Acting.{Refuses}
use Rattle.comp_trace.specs.LineBuilds.{kind_if}
use Rattle.comp_trace.specs.RoundsOfMeetings.{Met}
use Rattle.comp_trace.specs.declared.text.line.Action.{Action}
use Rattle.comp_trace.specs.declared.text.line.Action.TheVariants.{Root, Load, Get, Store, Put, New, Nil, Immediate}
use Rattle.comp_trace.proofs.BetweenRounds.{IsCrew}

module _ (u : Setup) (old new : Pass) (p : ℕ) where
  -- a call on a data field that is busy met a turn of another mutator
  met_data : (kind : Kind) (object field : ℕ) → DataRefused u old new kind object field (Busy p) → MetTurn old new
  met_data kind object field (inl busy) = busy.2.1
  met_data kind object field (inr none) = absurd none

  met_reference : (kind : Kind) (object field value : ℕ) → ReferenceRefused u old new kind object field value (Busy p) → MetTurn old new
  met_reference kind object field value (inl data_) = met_data kind object field data_.0
  met_reference kind object field value (inr none) = absurd none

  met_asked : (asked : Option Head) → AskedRefused u old new asked (Busy p) → MetTurn old new
  met_asked None busy = absurd (cc busy.0)
  met_asked (Some header) busy = busy.1.1

  -- so did the call of a line
  met_by : (action : Action) (registers : List ℕ) → Refuses u action registers old new (Busy p) → MetTurn old new
  met_by (Root to root) registers busy = absurd busy
  met_by (Load weak to object field) registers busy = busy.2.1
  met_by (Get object field) registers busy = busy.2.1
  met_by (Store weak object field value) registers busy = met_reference (kind_if weak) (get_or registers object 0) field (get_or registers value 0) busy
  met_by (Put object field value) registers busy = met_data Data (get_or registers object 0) field busy
  met_by (New to refs weak data_words tag) registers busy = met_asked (header_with u.heap.edition refs weak data_words tag) busy
  met_by (Nil to) registers busy = absurd busy
  met_by (Immediate to payload) registers busy = absurd (cc busy.1.0)

module _ (table : Steps) (n i : ℕ) (inside : i < n) (first met acted last : ℕ → Pass) (crew_first : IsCrew table n first) (crew_met : IsCrew table n met)
    (rests : (k : ℕ) → k < n → Rests (met k)) (before : Met n i first met) (after : Met n i acted last) (call : Grows (met i) (acted i))
    (others : (k : ℕ) → k ≢ i → acted k ≡ met k) where
  -- the mutator met no turn of another one that is in hand
  none_of_these : (m : MetTurn (met i) (acted i)) → m.number < n → m.number ≢ i → ⊥
  none_of_these m lt not =
      let k = m.number in
      let same = others k not in
      let before_number = crew_first.numbers k lt in
      let now_number : number_of (acted k) ≡ k = ap number_of same ∙ crew_met.numbers k lt in
      let knew = before.turns k k lt in
      let kept : turns_of (met k) k ≡ turns_of (first k) k = subst (λ (x : ℕ). turns_of (met k) x ≡ turns_of (first k) x) before_number (before.own_turns k lt not) in
      let told = after.other_turns k k lt in
      let still : turns_of (last k) k ≡ turns_of (acted k) k = subst (λ (x : ℕ). turns_of (last k) x ≡ turns_of (acted k) x) now_number (after.own_turns k lt not) in
      let here : turns_of (acted k) k ≡ turns_of (met k) k = ap (λ (x : Pass). turns_of x k) same in
      let more = call.turns k in
      let even : turns_of (acted k) k % 2 ≡ 0 = subst (λ (x : ℕ). turns_of (acted k) x % 2 ≡ 0) now_number (after.even k lt not (subst Rests (sym same) (rests k lt))) in
      let known : turns_of (met i) k ≡ turns_of (acted k) k = omega (arith, knew, kept, told, still, here, more) in
      let less = m.more (ap (λ x. x % 2) known ∙ even) in
      omega (arith, less, told, still, known)

  -- nor one of a mutator that there is not
  none_of_others : (m : MetTurn (met i) (acted i)) → n ≤ m.number → ⊥
  none_of_others m le =
      let some : 0 < n = omega arith in
      let makes = (crew_met.works 0 some).makes (crew_met.numbers 0 some) in
      dite (ℕ_discrete 0 i)
      (λ is. m.made (subst (λ (x : ℕ). IsNotMade (met x) m.number) is (omega (arith, makes), omega (arith, makes, le))))
      (λ not. let same = others 0 not in
      let none = after.strangers 0 m.number some not (subst (λ (x : Pass). IsNotMade x m.number) (sym same) (omega (arith, makes), omega (arith, makes, le))) in
      let told = after.other_turns 0 m.number some in
      omega (arith, none, told, m.some))

  -- so it met none
  none_met : MetTurn (met i) (acted i) → ⊥
  none_met m = ⊎_elim
      (λ (lt : m.number < n). none_of_these m lt (λ is. m.other (is ∙ sym (crew_met.numbers i inside))))
      (λ (le : n ≤ m.number). none_of_others m le)
      (cases_lt m.number n)

  -- and no page was busy
  pub never_busy : (u : Setup) (action : Action) (registers : List ℕ) (p : ℕ) → Refuses u action registers (met i) (acted i) (Busy p) → ⊥
  never_busy u action registers p busy = none_met (met_by u (met i) (acted i) p action registers busy)
