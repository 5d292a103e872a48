-- The lines of one mutator, one after another.
use Rattle.std.proofs.Common.{◌≡◌, ℕ, zero, suc, ◌+◌, ◌-◌, ◌<◌, ◌≤◌, ◌≢◌, true, false, cond, List, [], ◌∷◌, ◌++◌, length, map, remove, take, get_or, None, Some, eqb, eq-eqb, ne_eqb, sym, refl, ap, ◌∙◌, arith, subst, append_assoc, append-nil, length-append}
use Rattle.std.proofs.lemmas.List.{take_all}
use mathlib.Core.Option.{some, some-injective, some-ne-none}
use lib.ListN.{get_elem?}
use Rattle.comp_mutator.proofs.Sums.{take_suc, there_at}
use Rattle.comp_mutator.proofs.Growing.{grows_none, grows_then}
use Rattle.std.specs.Prelude.{Option}
use Rattle.comp_mutator.specs.Passes.{did, number_of}
use Rattle.comp_mutator.specs.Setup.{Setup}
use Rattle.comp_mutator.specs.Pass.{Pass}
use Rattle.comp_mutator.specs.Calls.{Grows}
use Rattle.comp_mutator.specs.Refusal.TheVariants.{Busy}
use Rattle.comp_trace.specs.Acting.{null_registers, registers_after, shown_at, Refuses, Steps}
use Rattle.comp_trace.specs.Races.{numbered, own_lines, Ends, Ran, Went}
use Rattle.comp_trace.specs.Chains.{IsNextOwn}
use Rattle.comp_trace.specs.declared.text.line.Line.{Line}
use Rattle.comp_trace.specs.declared.steps.shown.Shown.{Shown}
use Rattle.comp_trace.specs.declared.text.fault.RefusedLine.{RefusedLine}
use Rattle.comp_trace.proofs.OneLine.{shows_one}
use Rattle.comp_trace.proofs.Elements.{take_first}

-- the lines of one mutator in two traces
lines_append : (n : ℕ) (a b : List (ℕ × Line)) → own_lines n (a ++ b) ≡ own_lines n a ++ own_lines n b
lines_append n [] b = refl
lines_append n (x ∷ xs) b = elim (eqb x.1.mutator n) as (λ t. cond t (x ∷ own_lines n (xs ++ b)) (own_lines n (xs ++ b)) ≡ cond t (x ∷ own_lines n xs) (own_lines n xs) ++ own_lines n b) [
  | true ↦ ap (λ l. x ∷ l) (lines_append n xs b)
  | false ↦ lines_append n xs b
]

-- a line of this mutator, or of another
line_own : (n : ℕ) (line : ℕ × Line) → line.1.mutator ≡ n → own_lines n (line ∷ []) ≡ line ∷ []
line_own n line e = ap (λ t. cond t (line ∷ []) []) (eq-eqb line.1.mutator n e)

line_other : (n : ℕ) (line : ℕ × Line) → line.1.mutator ≢ n → own_lines n (line ∷ []) ≡ []
line_other n line ne = ap (λ t. cond t (line ∷ []) []) (ne_eqb line.1.mutator n ne)

-- the first k lines and one more
pub own_more : (n : ℕ) (lines : List (ℕ × Line)) (k : ℕ) (line : ℕ × Line) → get_elem? lines k ≡ some line → line.1.mutator ≡ n
    → own_lines n (take (k + 1) lines) ≡ own_lines n (take k lines) ++ line ∷ []
own_more n lines k line at e =
    let one : k + 1 ≡ suc k = omega arith in
    ap (λ i. own_lines n (take i lines)) one ∙ ap (own_lines n) (take_suc lines k line at) ∙ lines_append n (take k lines) (line ∷ []) ∙ ap (λ l. own_lines n (take k lines) ++ l) (line_own n line e)

pub others_more : (n : ℕ) (lines : List (ℕ × Line)) (k : ℕ) (line : ℕ × Line) → get_elem? lines k ≡ some line → line.1.mutator ≢ n
    → own_lines n (take (k + 1) lines) ≡ own_lines n (take k lines)
others_more n lines k line at ne =
    let one : k + 1 ≡ suc k = omega arith in
    ap (λ i. own_lines n (take i lines)) one ∙ ap (own_lines n) (take_suc lines k line at) ∙ lines_append n (take k lines) (line ∷ []) ∙ ap (λ l. own_lines n (take k lines) ++ l) (line_other n line ne)
    ∙ append-nil (own_lines n (take k lines))

-- a list is its first k elements and the others
two_parts : {A : Type 0} (l : List A) (k : ℕ) → (rest : List A) × (l ≡ take k l ++ rest)
two_parts [] zero = ([], refl)
two_parts [] (suc k) = ([], refl)
two_parts (x ∷ xs) zero = (x ∷ xs, refl)
two_parts (x ∷ xs) (suc k) = let p = two_parts xs k in (p.0, ap (λ l. x ∷ l) p.1)

-- the mutator's lines among the first k are its first ones
pub first_own : (n : ℕ) (lines : List (ℕ × Line)) (k : ℕ) → (rest : List (ℕ × Line)) × (own_lines n lines ≡ own_lines n (take k lines) ++ rest)
first_own n lines k = let p = two_parts lines k in (own_lines n p.0, ap (own_lines n) p.1 ∙ lines_append n (take k lines) p.0)

at_front : {A : Type 0} (front rest : List A) (a : A) → get_elem? (front ++ a ∷ rest) (length front) ≡ some a
at_front [] rest a = refl
at_front (x ∷ xs) rest a = at_front xs rest a

-- one line more
pub went_more : (u : Setup) (lines : List (ℕ × Line)) (line : ℕ × Line) (registers : List ℕ) (old : Pass) (shown : List Shown) (after : List ℕ) (middle new : Pass) (answer : ℕ)
    → Went u lines registers old shown after middle → Steps u line.1.action after middle new answer
    → Went u (lines ++ line ∷ []) registers old (shown ++ shown_at line.0 line.1.action answer) (registers_after line.1.action after answer) new
went_more u [] line registers old shown after middle new answer w step = (
  new,
  answer,
  [],
  subst (λ (r : List ℕ). Steps u line.1.action r old new answer) w.0 (subst (λ (p : Pass). Steps u line.1.action after p new answer) w.1 step),
  ap (λ l. l ++ shown_at line.0 line.1.action answer) w.2 ∙ sym (append-nil (shown_at line.0 line.1.action answer)),
  (ap (λ r. registers_after line.1.action r answer) w.0, refl, refl),
)
went_more u (x ∷ xs) line registers old shown after middle new answer w step = (
  w.0,
  w.1,
  w.2 ++ shown_at line.0 line.1.action answer,
  w.3,
  ap (λ l. l ++ shown_at line.0 line.1.action answer) w.4 ∙ append_assoc (shown_at x.0 x.1.action w.1) w.2 (shown_at line.0 line.1.action answer),
  went_more u xs line (registers_after x.1.action registers w.1) w.0 w.2 after middle new answer w.5 step,
)

-- What a mutator has run of the first k lines.
pub record HasRunFirst (u : Setup) (lines : List (ℕ × Line)) (k : ℕ) (old : Pass) (registers : List ℕ) (shown : List Shown) (now : Pass) : Type 0 where
  pub number : number_of now ≡ number_of old
  pub went : Went u (own_lines (number_of old) (take k lines)) null_registers old shown registers now
  pub few : length shown ≤ length (own_lines (number_of old) (take k lines))

module _ (u : Setup) (lines : List (ℕ × Line)) (k : ℕ) (old : Pass) (registers : List ℕ) (shown : List Shown) (now : Pass) (h : HasRunFirst u lines k old registers shown now) (line : ℕ × Line)
    (at : get_elem? lines k ≡ some line) where
  -- one line more ran
  pub has_run_own : (new : Pass) (answer : ℕ) → line.1.mutator ≡ number_of now → Steps u line.1.action registers now new answer
      → HasRunFirst u lines (k + 1) old (registers_after line.1.action registers answer) (shown ++ shown_at line.0 line.1.action answer) new
  has_run_own new answer own step =
      let more = own_more (number_of old) lines k line at (own ∙ h.number) in
      record {
        number = step.grows.number ∙ h.number;
        went = subst (λ l. Went u l null_registers old (shown ++ shown_at line.0 line.1.action answer) (registers_after line.1.action registers answer) new) (sym more)
            (went_more u (own_lines (number_of old) (take k lines)) line null_registers old shown registers now new answer h.went step);
        few = omega (arith, ap length more, length-append (own_lines (number_of old) (take k lines)) (line ∷ []), length-append shown (shown_at line.0 line.1.action answer), shows_one line.0 line.1.action answer, h.few);
      }

  -- a line of another mutator is skipped
  pub has_run_other : line.1.mutator ≢ number_of now → HasRunFirst u lines (k + 1) old registers shown now
  has_run_other other =
      let more = others_more (number_of old) lines k line at (λ e. other (e ∙ sym h.number)) in
      record {
        number = h.number;
        went = subst (λ l. Went u l null_registers old shown registers now) (sym more) h.went;
        few = omega (arith, ap length more, h.few);
      }

  -- there is room for what it shows
  pub room_for : line.1.mutator ≡ number_of now → length shown < length (own_lines (number_of old) lines)
  room_for own =
      let more = own_more (number_of old) lines k line at (own ∙ h.number) in
      let first = first_own (number_of old) lines (k + 1) in
      omega (arith, ap length more, length-append (own_lines (number_of old) (take k lines)) (line ∷ []), ap length first.1, length-append (own_lines (number_of old) (take (k + 1) lines)) first.0, h.few)

  -- the line was refused
  pub ran_to : (new : Pass) (stop : RefusedLine) → line.1.mutator ≡ number_of now → stop.line ≡ line.0 → Grows now new → did new ≡ did now → Refuses u line.1.action registers now new stop.refusal → ((q : ℕ) → stop.refusal ≡ Busy q → ⊥)
      → Ran u (own_lines (number_of old) lines) old new shown (Some stop)
  ran_to new stop own number grows same refuses waited =
      let front = own_lines (number_of old) (take k lines) in
      let more = own_more (number_of old) lines k line at (own ∙ h.number) in
      let first = first_own (number_of old) lines (k + 1) in
      let all : own_lines (number_of old) lines ≡ front ++ line ∷ first.0 = first.1 ∙ ap (λ l. l ++ first.0) more ∙ append_assoc front (line ∷ []) first.0 in
      record {
        count = length front;
        registers = registers;
        last = now;
        went = subst (λ l. Went u l null_registers old shown registers now) (sym (ap (take (length front)) all ∙ take_first front (line ∷ first.0))) h.went;
        ends = record { line = line; there = ap (λ l. get_elem? l (length front)) all ∙ at_front front first.0 line; number = number; grows = grows; did = same; refuses = refuses; waited = waited };
      }

-- all lines ran
pub ran_all : (u : Setup) (lines : List (ℕ × Line)) (k : ℕ) (old : Pass) (registers : List ℕ) (shown : List Shown) (now : Pass) → HasRunFirst u lines k old registers shown now → length lines ≤ k
    → Ran u (own_lines (number_of old) lines) old now shown None
ran_all u lines k old registers shown now h le =
    let all : own_lines (number_of old) (take k lines) ≡ own_lines (number_of old) lines = ap (own_lines (number_of old)) (take_all k lines le) in
    record {
      count = length (own_lines (number_of old) lines);
      registers = registers;
      last = now;
      went = subst (λ l. Went u l null_registers old shown registers now) (all ∙ sym (take_all (length (own_lines (number_of old) lines)) (own_lines (number_of old) lines) (omega arith))) h.went;
      ends = (omega arith, refl);
    }

-- lines of other mutators are skipped, up to the next own line
pub has_run_others : (u : Setup) (lines : List (ℕ × Line)) (k more : ℕ) (old : Pass) (registers : List ℕ) (shown : List Shown) (now : Pass)
    → ((i : ℕ) (line : ℕ × Line) → k ≤ i → i < k + more → get_elem? lines i ≡ some line → line.1.mutator ≢ number_of old) → k + more ≤ length lines → HasRunFirst u lines k old registers shown now
    → HasRunFirst u lines (k + more) old registers shown now
has_run_others u lines k zero old registers shown now others le h =
    let same : k ≡ k + 0 = omega arith in subst (λ (j : ℕ). HasRunFirst u lines j old registers shown now) same h
has_run_others u lines k (suc more) old registers shown now others le h =
    let line = there_at lines k (omega (arith, le)) in
    let one = has_run_other u lines k old registers shown now h line.0 line.1 (λ e. others k line.0 (omega arith) (omega arith) line.1 (e ∙ h.number)) in
    let all = has_run_others u lines (k + 1) more old registers shown now (λ i other from lt. others i other (omega (arith, from)) (omega (arith, lt))) (omega (arith, le)) one in
    let same : k + 1 + more ≡ k + suc more = omega arith in
    subst (λ (j : ℕ). HasRunFirst u lines j old registers shown now) same all

-- the line at an index, and its number
pub numbered_at : (n : ℕ) (lines : List Line) (k : ℕ) (d : Line) → k < length lines → get_elem? (numbered n lines) k ≡ some (n + k, get_or lines k d)
numbered_at n [] k d lt = absurd (omega (arith, lt))
numbered_at n (x ∷ xs) zero d lt = let e : n ≡ n + 0 = omega arith in ap (λ (i : ℕ). some (i, x)) e
numbered_at n (x ∷ xs) (suc k) d lt = let e : n + 1 + k ≡ n + suc k = omega arith in numbered_at (n + 1) xs k d (omega (arith, lt)) ∙ ap (λ (i : ℕ). some (i, get_or xs k d)) e

pub numbered_length : (n : ℕ) (lines : List Line) → length (numbered n lines) ≡ length lines
numbered_length n [] = refl
numbered_length n (x ∷ xs) = ap suc (numbered_length (n + 1) xs)

-- the line of a number is the line at its index
pub at_numbered : (n : ℕ) (lines : List Line) (k : ℕ) (line : ℕ × Line) → get_elem? (numbered n lines) k ≡ some line → get_elem? lines k ≡ some line.1
at_numbered n [] k line at = absurd (some-ne-none line (sym at))
at_numbered n (x ∷ xs) zero line at = ap (λ (l : ℕ × Line). some l.1) (some-injective (n, x) line at)
at_numbered n (x ∷ xs) (suc k) line at = at_numbered (n + 1) xs k line at

-- the lines of others before the mutator's next one
pub run_to_next : (u : Setup) (lines : List Line) (k next : ℕ) (old : Pass) (registers : List ℕ) (shown : List Shown) (now : Pass) → IsNextOwn lines (number_of old) k next
    → HasRunFirst u (numbered 1 lines) k old registers shown now → HasRunFirst u (numbered 1 lines) next old registers shown now
run_to_next u lines k next old registers shown now h run =
    let same : k + (next - k) ≡ next = omega (arith, h.above) in
    subst (λ (j : ℕ). HasRunFirst u (numbered 1 lines) j old registers shown now) same
    (has_run_others u (numbered 1 lines) k (next - k) old registers shown now (λ i line from lt at. h.others i line.1 from (omega (arith, lt, same)) (at_numbered 1 lines i line at))
    (omega (arith, same, h.inside, numbered_length 1 lines)) run)

-- the number of the mutator is unchanged
ends_number : (u : Setup) (lines : List (ℕ × Line)) (count : ℕ) (registers : List ℕ) (old new : Pass) (fault : Option RefusedLine) → Ends u lines count registers old new fault → number_of new ≡ number_of old
ends_number u lines count registers old new None e = ap number_of e.1
ends_number u lines count registers old new (Some stop) e = e.grows.number

-- the first of a list, and the others
pub first_of : {A B : Type 0} (f : A → B) (l : List A) (x : A) → 0 < length l → x ≡ get_or l 0 x → map f l ≡ f x ∷ map f (remove l 0)
first_of f [] x lt e = absurd (omega arith)
first_of f (y ∷ ys) x lt e = ap (λ z. f z ∷ map f ys) (sym e)

-- what the mutator knew before its lines it knows after them
pub went_grows : (u : Setup) (lines : List (ℕ × Line)) (registers : List ℕ) (old : Pass) (shown : List Shown) (after : List ℕ) (new : Pass) → Went u lines registers old shown after new → Grows old new
went_grows u [] registers old shown after new w = subst (Grows old) (sym w.1) (grows_none old)
went_grows u (x ∷ xs) registers old shown after new w = grows_then old w.0 new w.3.grows (went_grows u xs (registers_after x.1.action registers w.1) w.0 w.2 after new w.5)

pub ran_number : (u : Setup) (lines : List (ℕ × Line)) (old new : Pass) (shown : List Shown) (fault : Option RefusedLine) → Ran u lines old new shown fault → number_of new ≡ number_of old
ran_number u lines old new shown fault r =
    ends_number u lines r.count r.registers r.last new fault r.ends
    ∙ (went_grows u (take r.count lines) null_registers old shown r.registers r.last r.went).number
