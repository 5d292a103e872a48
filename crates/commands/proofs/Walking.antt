-- A walk along the lines of a trace, which takes what several runs showed in the order of the lines.
use Rattle.std.proofs.Common.{◌≡◌, ◌≢◌, ℕ, zero, suc, ◌+◌, ◌<◌, ◌≤◌, ◌⊎◌, ◌==◌, if◌then◌else◌, Bool, true, false, cond, List, [], ◌∷◌, ◌++◌, Option, Some, None, length, drop, get_or, set, replicate, take, refl, sym, ap, subst, ◌∙◌, inl, inr, ⊎_elim, arith, eqb, eq-eqb, drop-cons, append_assoc}
use Rattle.std.proofs.Math.ListN.{get_or-eq_default}
use Rattle.std.proofs.lemmas.Bool.{cases_lt, le-ltb, lt-ltb, ne_eqb}
use Rattle.std.proofs.lemmas.Bool.Decides.{eqb_tells}
use Rattle.std.proofs.lemmas.List.{drop-drop, length-replicate, get_or-replicate, get_or-set_other, get_or-set_same, take_more}
use mathlib.Core.Option.{some, some-injective, some-ne-none}
use lib.ListN.{get_elem?}
use Rattle.comp_mutator.specs.Lists.{but, Each}
use Rattle.comp_mutator.specs.Setup.{Setup}
use Rattle.comp_mutator.specs.Pass.{Pass}
use Rattle.comp_mutator.proofs.Sums.{at_last, but-other, but-same, each-append, each-one, last_of}
use Rattle.comp_mutator.proofs.Sorted.{at_in, in_at, in_front, in_behind, in_parts, In}
use Rattle.comp_trace.specs.Acting.{null_registers, registers_after, shown_at}
use Rattle.comp_trace.specs.Races.{numbered, own_lines, Ran, Went}
use Rattle.comp_trace.specs.declared.text.fault.RefusedLine.{RefusedLine}
use Rattle.comp_trace.specs.declared.text.line.Action.{Action}
use Rattle.comp_trace.specs.declared.text.line.Action.TheVariants.{Root, Load, Get, Store, Put, New, Nil, Immediate}
use Rattle.comp_trace.specs.declared.text.line.Line.{Line}
use Rattle.comp_trace.specs.declared.races.racing.Run.{Run}
use Rattle.comp_trace.specs.declared.steps.shown.Shown.{Shown}
use Rattle.commands.specs.TraceTasks.{AreByLine, HasEnded, IsLeastRefusedLine, LinesRise}
use Rattle.commands.specs.JoinedRaces.{earlier_of, printed_at, AreOf, AreOwn, IsFirstRefusedLine}

-- ---- the walk

-- a value that may be there, as a list
abbrev pub listed : Option Shown → List Shown
listed None = []
listed (Some value) = value ∷ []

-- these values, without the first one if it was taken
abbrev pub unprinted : Option Shown → List Shown → List Shown
unprinted None values = values
unprinted (Some value) values = drop 1 values

-- From line n on, if the mutators have these values left: at each line, the first value that its mutator has left, if
-- it is of that line.
abbrev pub walked : ℕ → List Line → (ℕ → List Shown) → List Shown
walked n [] left = []
walked n (line ∷ lines) left =
    let value = printed_at n (left line.mutator) in
    listed value ++ walked (n + 1) lines (but left line.mutator (unprinted value (left line.mutator)))

-- what a run showed, and its place
abbrev pub shown_by : List Run → ℕ → List Shown
shown_by [] k = []
shown_by (run ∷ runs) zero = run.shown.items
shown_by (run ∷ runs) (suc k) = shown_by runs k

-- what runs have left of what they showed, after these numbers of values were taken of each
abbrev pub left_of : List Run → List ℕ → ℕ → List Shown
left_of runs next k = drop (get_or next k 0) (shown_by runs k)

some_not_none : {A : Type 0} (x : A) → Some x ≡ None → ⊥
some_not_none x e = let none : ⊥ = cc in none

at_front : {A : Type 0} (l : List A) (a : A) (j : ℕ) (x : A) → get_elem? l j ≡ some x → get_elem? (l ++ a ∷ []) j ≡ some x
at_front [] a j x e = absurd (some-ne-none x (sym e))
at_front (y ∷ l) a zero x e = e
at_front (y ∷ l) a (suc j) x e = at_front l a j x e

same_or_not : (a b : ℕ) → (a ≡ b) ⊎ (a ≡ b → ⊥)
same_or_not a b = ⊎_elim (λ (y : (eqb a b ≡ true) × (a ≡ b)). inl y.1) (λ (z : (eqb a b ≡ false) × (a ≢ b)). inr z.1) (eqb_tells a b)

-- ---- values of lines
no_values : (lines : List (ℕ × Line)) → AreOf lines []
no_values [] = refl
no_values (line ∷ lines) = inl (no_values lines)

-- what is of the first lines is of all
of_taken : (count : ℕ) (lines : List (ℕ × Line)) (values : List Shown) → AreOf (take count lines) values → AreOf lines values
of_taken zero lines values h = subst (AreOf lines) (sym h) (no_values lines)
of_taken (suc count) [] values h = h
of_taken (suc count) (line ∷ lines) values h = ⊎_elim (λ a. inl (of_taken count lines values a)) (λ b. inr (b.0, b.1, b.2, of_taken count lines b.1 b.3)) h

-- what a line shows is of it
of_line : (line : ℕ × Line) (lines : List (ℕ × Line)) (action : Action) (answer : ℕ) (more values : List Shown) → values ≡ shown_at line.0 action answer ++ more → AreOf lines more → AreOf (line ∷ lines) values
of_line line lines (Root to root) answer more values e h = inl (subst (AreOf lines) (sym e) h)
of_line line lines (Load weak to object field) answer more values e h = inl (subst (AreOf lines) (sym e) h)
of_line line lines (Get object field) answer more values e h = inr (answer, more, e, h)
of_line line lines (Store weak object field value) answer more values e h = inl (subst (AreOf lines) (sym e) h)
of_line line lines (Put object field value) answer more values e h = inl (subst (AreOf lines) (sym e) h)
of_line line lines (New to refs weak data_words tag) answer more values e h = inl (subst (AreOf lines) (sym e) h)
of_line line lines (Nil to) answer more values e h = inl (subst (AreOf lines) (sym e) h)
of_line line lines (Immediate to payload) answer more values e h = inl (subst (AreOf lines) (sym e) h)

-- what lines showed that ran is of them
of_went : (u : Setup) (lines : List (ℕ × Line)) (registers : List ℕ) (old : Pass) (values : List Shown) (after : List ℕ) (new : Pass) → Went u lines registers old values after new → AreOf lines values
of_went u [] registers old values after new h = h.2
of_went u (line ∷ lines) registers old values after new h =
    of_line line lines line.1.action h.1 h.2 values h.4 (of_went u lines (registers_after line.1.action registers h.1) h.0 h.2 after new h.5)

pub of_run : (u : Setup) (lines : List (ℕ × Line)) (old new : Pass) (values : List Shown) (fault : Option RefusedLine) → Ran u lines old new values fault → AreOf lines values
of_run u lines old new values fault h = of_taken h.count lines values (of_went u (take h.count lines) null_registers old values h.registers h.last h.went)

-- the first value of lines from n on is of none below n
starts_at : (b : Bool) (n : ℕ) (line : Line) (own : List (ℕ × Line)) (value : Shown) (values : List Shown) → (AreOf own (value ∷ values) → n + 1 ≤ value.line)
    → AreOf (cond b ((n, line) ∷ own) own) (value ∷ values) → n ≤ value.line
starts_at false n line own value values later h = let le = later h in omega (arith, le)
starts_at true n line own value values later h =
    ⊎_elim (λ a. let le = later a in omega (arith, le)) (λ b. let one : value ≡ record { line = n; value = b.0 } = cc in omega (arith, ap (λ (x : Shown). x.line) one)) h

starts_from : (k n : ℕ) (lines : List Line) (value : Shown) (values : List Shown) → AreOf (own_lines k (numbered n lines)) (value ∷ values) → n ≤ value.line
starts_from k n [] value values h = let none : ⊥ = cc in absurd none
starts_from k n (line ∷ lines) value values h = starts_at (line.mutator == k) n line (own_lines k (numbered (n + 1) lines)) value values (λ a. starts_from k (n + 1) lines value values a) h

-- ---- the line of a walk
printed_is : (n : ℕ) (P : Option Shown → Type 0) (value : Shown) → (value.line ≡ n → P (Some value)) → ((value.line ≡ n → ⊥) → P None) → P (if value.line == n then Some value else None)
printed_is n P value here other = ⊎_elim
    (λ (y : (eqb value.line n ≡ true) × (value.line ≡ n)). subst (λ (b : Bool). P (if b then Some value else None)) (sym y.0) (here y.1))
    (λ (z : (eqb value.line n ≡ false) × (value.line ≢ n)). subst (λ (b : Bool). P (if b then Some value else None)) (sym z.0) (other z.1))
    (eqb_tells value.line n)

-- what its mutator then has left is of the lines after it
left_behind : (n : ℕ) (line : Line) (lines : List Line) (m : ℕ) (values : List Shown) → AreOf ((n, line) ∷ own_lines m (numbered (n + 1) lines)) values
    → AreOf (own_lines m (numbered (n + 1) lines)) (unprinted (printed_at n values) values)
left_behind n line lines m [] h = no_values (own_lines m (numbered (n + 1) lines))
left_behind n line lines m (value ∷ values) h =
    let own = own_lines m (numbered (n + 1) lines) in
    printed_is n (λ (o : Option Shown). AreOf own (unprinted o (value ∷ values))) value
    (λ (e : value.line ≡ n). ⊎_elim (λ a. let le = starts_from m (n + 1) lines value values a in absurd (omega (arith, le, e)))
    (λ b. let same : values ≡ b.1 = cc in subst (AreOf own) (sym same) b.3) h)
    (λ (ne : value.line ≡ n → ⊥). ⊎_elim (λ a. a) (λ b. let one : value ≡ record { line = n; value = b.0 } = cc in absurd (ne (ap (λ (x : Shown). x.line) one))) h)

-- each mutator has values of its own lines left
abbrev HaveOwn : ℕ → List Line → (ℕ → List Shown) → Type 0
HaveOwn n lines left = (k : ℕ) → AreOf (own_lines k (numbered n lines)) (left k)

module _ (n : ℕ) (line : Line) (lines : List Line) (left : ℕ → List Shown) where
  -- what the line's mutator has left after it, and what each has
  abbrev behind : List Shown
  behind = unprinted (printed_at n (left line.mutator)) (left line.mutator)

  abbrev then_left : ℕ → List Shown
  then_left = but left line.mutator behind

  own_behind : HaveOwn n (line ∷ lines) left → HaveOwn (n + 1) lines then_left
  own_behind own k = ⊎_elim
      (λ (e : k ≡ line.mutator).
      let m = line.mutator in
      let own_m = subst (λ (b : Bool). AreOf (cond b ((n, line) ∷ own_lines m (numbered (n + 1) lines)) (own_lines m (numbered (n + 1) lines))) (left m)) (eq-eqb m m refl) (own m) in
      subst (λ (j : ℕ). AreOf (own_lines j (numbered (n + 1) lines)) (then_left j)) (sym e)
      (subst (AreOf (own_lines m (numbered (n + 1) lines))) (sym (but-same left m behind)) (left_behind n line lines m (left m) own_m)))
      (λ (ne : k ≡ line.mutator → ⊥).
      let m = line.mutator in
      let own_k = subst (λ (b : Bool). AreOf (cond b ((n, line) ∷ own_lines k (numbered (n + 1) lines)) (own_lines k (numbered (n + 1) lines))) (left k)) (ne_eqb m k (λ (e : m ≡ k). ne (sym e))) (own k) in
      subst (AreOf (own_lines k (numbered (n + 1) lines))) (sym (but-other left m behind k ne)) own_k)
      (same_or_not k line.mutator)

-- ---- what a walk answers
rise_lower : (low lower : ℕ) (values : List Shown) → lower ≤ low → LinesRise low values → LinesRise lower values
rise_lower low lower [] le h = tt
rise_lower low lower (value ∷ values) le h = (omega (arith, le, h.0), h.1)

rise_listed : (n : ℕ) (values more : List Shown) → LinesRise (n + 1) more → LinesRise n (listed (printed_at n values) ++ more)
rise_listed n [] more h = rise_lower (n + 1) n more (omega arith) h
rise_listed n (value ∷ values) more h = printed_is n (λ (o : Option Shown). LinesRise n (listed o ++ more)) value
    (λ (e : value.line ≡ n). (omega (arith, e), subst (λ (m : ℕ). LinesRise (m + 1) more) (sym e) h))
    (λ (ne : value.line ≡ n → ⊥). rise_lower (n + 1) n more (omega arith) h)

in_printed : (n : ℕ) (values : List Shown) (x : Shown) → In x values → In x (listed (printed_at n values)) ⊎ In x (unprinted (printed_at n values) values)
in_printed n [] x i = absurd i
in_printed n (value ∷ values) x i = printed_is n (λ (o : Option Shown). In x (listed o) ⊎ In x (unprinted o (value ∷ values))) value
    (λ (e : value.line ≡ n). ⊎_elim (λ (same : value ≡ x). inl (inl same)) (λ t. inr t) i) (λ (ne : value.line ≡ n → ⊥). inr i)

printed_in : (n : ℕ) (values : List Shown) (x : Shown) → In x (listed (printed_at n values)) → In x values
printed_in n [] x i = absurd i
printed_in n (value ∷ values) x i = printed_is n (λ (o : Option Shown). In x (listed o) → In x (value ∷ values)) value
    (λ (e : value.line ≡ n) (t : In x (value ∷ [])). ⊎_elim (λ (same : value ≡ x). inl same) (λ none. absurd none) t) (λ (ne : value.line ≡ n → ⊥) (t : In x []). absurd t) i

unprinted_in : (n : ℕ) (values : List Shown) (x : Shown) → In x (unprinted (printed_at n values) values) → In x values
unprinted_in n [] x i = absurd i
unprinted_in n (value ∷ values) x i = printed_is n (λ (o : Option Shown). In x (unprinted o (value ∷ values)) → In x (value ∷ values)) value
    (λ (e : value.line ≡ n) (t : In x values). inr t) (λ (ne : value.line ≡ n → ⊥) (t : In x (value ∷ values)). t) i

-- The values rise with their lines, and are exactly those that the mutators have left.
record IsWalk (n : ℕ) (left : ℕ → List Shown) (values : List Shown) : Type 0 where
  rise : LinesRise n values
  from : (x : Shown) → In x values → (k : ℕ) × In x (left k)
  all : (x : Shown) (k : ℕ) → In x (left k) → In x values

walk_is : (n : ℕ) (lines : List Line) (left : ℕ → List Shown) → HaveOwn n lines left → IsWalk n left (walked n lines left)
walk_is n [] left own = record { rise = tt; from = λ x i. absurd i; all = λ x k i. subst (In x) (own k) i }
walk_is n (line ∷ lines) left own =
    let m = line.mutator in
    let reported = listed (printed_at n (left m)) in
    let next = then_left n line lines left in
    let rest = behind n line lines left in
    let more = walked (n + 1) lines next in
    let h = walk_is (n + 1) lines next (own_behind n line lines left own) in
    record {
      rise = rise_listed n (left m) more h.rise;
      from = λ x i. ⊎_elim (λ t. (m, printed_in n (left m) x t))
          (λ t. let r = h.from x t in ⊎_elim
          (λ (e : r.0 ≡ m). (m, unprinted_in n (left m) x (subst (In x) (but-same left m rest) (subst (λ (j : ℕ). In x (next j)) e r.1))))
          (λ (ne : r.0 ≡ m → ⊥). (r.0, subst (In x) (but-other left m rest r.0 ne) r.1))
          (same_or_not r.0 m))
          (in_parts reported more x i);
      all = λ x k i. ⊎_elim
          (λ (e : k ≡ m). ⊎_elim (λ t. in_front reported more x t) (λ t. in_behind reported more x (h.all x m (subst (In x) (sym (but-same left m rest)) t)))
          (in_printed n (left m) x (subst (λ (j : ℕ). In x (left j)) e i)))
          (λ (ne : k ≡ m → ⊥). in_behind reported more x (h.all x k (subst (In x) (sym (but-other left m rest k ne)) i)))
          (same_or_not k m);
    }

-- ---- a walk over runs
own_shown : (P : ℕ → List Shown → Type 0) (runs : List Run) → ((k : ℕ) (run : Run) → get_elem? runs k ≡ some run → P k run.shown.items) → ((k : ℕ) → P k []) → (k : ℕ) → P k (shown_by runs k)
own_shown P [] has none k = none k
own_shown P (run ∷ runs) has none zero = has zero run refl
own_shown P (run ∷ runs) has none (suc k) = own_shown (λ j. P (suc j)) runs (λ j r e. has (suc j) r e) (λ j. none (suc j)) k

of_shown : (runs : List Run) (k : ℕ) (x : Shown) → In x (shown_by runs k) → (run : Run) × (get_elem? runs k ≡ some run) × In x run.shown.items
of_shown [] k x i = absurd i
of_shown (run ∷ runs) zero x i = (run, refl, i)
of_shown (run ∷ runs) (suc k) x i = of_shown runs k x i

shown_at_run : (runs : List Run) (k : ℕ) (run : Run) → get_elem? runs k ≡ some run → shown_by runs k ≡ run.shown.items
shown_at_run [] k run e = absurd (some-ne-none run (sym e))
shown_at_run (other ∷ runs) zero run e = ap (λ (r : Run). r.shown.items) (some-injective other run e)
shown_at_run (other ∷ runs) (suc k) run e = shown_at_run runs k run e

-- the walk along all lines answers what all runs showed
pub printed_by_line : (lines : List Line) (runs : List Run) → AreOwn lines runs → AreByLine runs (walked 1 lines (shown_by runs))
printed_by_line lines runs own =
    let h = walk_is 1 lines (shown_by runs)
    (own_shown (λ k values. AreOf (own_lines k (numbered 1 lines)) values) runs own (λ k. no_values (own_lines k (numbered 1 lines)))) in
    record {
      rise = h.rise;
      shown = λ x i. let r = h.from x (at_in (walked 1 lines (shown_by runs)) i.0 x i.1) in
          let s = of_shown runs r.0 x r.1 in (r.0, s.0, s.1, in_at s.0.shown.items x s.2);
      all = λ x i. in_at (walked 1 lines (shown_by runs)) x (h.all x i.0 (subst (In x) (sym (shown_at_run runs i.0 i.1 i.2)) (at_in i.1.shown.items i.3.0 x i.3.1)));
    }

-- ---- the loop
-- one line of the walk
walked_line : (lines : List Line) (at : ℕ) (d : Line) (left : ℕ → List Shown) → at < length lines
    → (let line : Line = get_or lines at d in
    walked (at + 1) (drop at lines) left
    ≡ listed (printed_at (at + 1) (left line.mutator)) ++ walked (at + 1 + 1) (drop (at + 1) lines) (but left line.mutator (unprinted (printed_at (at + 1) (left line.mutator)) (left line.mutator))))
walked_line lines at d left lt =
    let more : suc at ≡ at + 1 = omega arith in
    let cut : drop at lines ≡ get_or lines at d ∷ drop (at + 1) lines = drop-cons lines at d lt ∙ ap (λ (j : ℕ). get_or lines at d ∷ drop j lines) more in
    ap (λ (ls : List Line). walked (at + 1) ls left) cut

left_more_at : (runs : List Run) (next : List ℕ) (m : ℕ) → m < length next → (k : ℕ) → left_of runs (set next m (get_or next m 0 + 1)) k ≡ but (left_of runs next) m (drop 1 (left_of runs next m)) k
left_more_at runs next m lt k = ⊎_elim
    (λ (e : k ≡ m). subst (λ (j : ℕ). left_of runs (set next m (get_or next m 0 + 1)) j ≡ but (left_of runs next) m (drop 1 (left_of runs next m)) j) (sym e)
    (ap (λ (n : ℕ). drop n (shown_by runs m)) (get_or-set_same next m (get_or next m 0 + 1) 0 lt) ∙ sym (drop-drop 1 (get_or next m 0) (shown_by runs m))
    ∙ sym (but-same (left_of runs next) m (drop 1 (left_of runs next m)))))
    (λ (ne : k ≡ m → ⊥). ap (λ (n : ℕ). drop n (shown_by runs k)) (get_or-set_other next m k (get_or next m 0 + 1) 0 ne) ∙ sym (but-other (left_of runs next) m (drop 1 (left_of runs next m)) k ne))
    (same_or_not k m)

left_same_at : (runs : List Run) (next : List ℕ) (m k : ℕ) → left_of runs next k ≡ but (left_of runs next) m (left_of runs next m) k
left_same_at runs next m k = ⊎_elim
    (λ (e : k ≡ m). ap (left_of runs next) e ∙ sym (but-same (left_of runs next) m (left_of runs next m)) ∙ ap (but (left_of runs next) m (left_of runs next m)) (sym e))
    (λ (ne : k ≡ m → ⊥). sym (but-other (left_of runs next) m (left_of runs next m) k ne))
    (same_or_not k m)

zero_at : (n k : ℕ) → (let none : ℕ = 0 in get_or (replicate n none) k none ≡ none)
zero_at n k =
    let none : ℕ = 0 in
    ⊎_elim (λ lt. get_or-replicate n k none none lt) (λ le. get_or-eq_default (replicate n none) none (omega (arith, length-replicate n none, le))) (cases_lt k n)

pub left_more : (runs : List Run) (next : List ℕ) (m : ℕ) → m < length next → left_of runs (set next m (get_or next m 0 + 1)) ≡ but (left_of runs next) m (drop 1 (left_of runs next m))
left_more runs next m lt = λ i k. left_more_at runs next m lt k i

pub left_same : (runs : List Run) (next : List ℕ) (m : ℕ) → left_of runs next ≡ but (left_of runs next) m (left_of runs next m)
left_same runs next m = λ i k. left_same_at runs next m k i

-- nothing was taken yet
pub left_all : (runs : List Run) → left_of runs (replicate 64 0) ≡ shown_by runs
left_all runs = λ i k. ap (λ (n : ℕ). drop n (shown_by runs k)) (zero_at 64 k) i

shown_there : (runs : List Run) (k : ℕ) (d : Run) → k < length runs → shown_by runs k ≡ (let run : Run = get_or runs k d in run.shown.items)
shown_there [] k d lt = absurd (omega arith)
shown_there (run ∷ runs) zero d lt = refl
shown_there (run ∷ runs) (suc k) d lt = shown_there runs k d (omega arith)

-- how many values of each run were taken after this one
abbrev pub printed_after : Option Shown → List ℕ → ℕ → List ℕ
printed_after None next m = next
printed_after (Some value) next m = set next m (get_or next m 0 + 1)

left_behind_line : (runs : List Run) (next : List ℕ) (m : ℕ) (value : Option Shown) → m < length next
    → but (left_of runs next) m (unprinted value (left_of runs next m)) ≡ left_of runs (printed_after value next m)
left_behind_line runs next m None lt = sym (left_same runs next m)
left_behind_line runs next m (Some value) lt = sym (left_more runs next m lt)

-- what was taken and what is still to be taken stay the same after a line
pub walk_on : (lines : List Line) (runs : List Run) (next : List ℕ) (at m : ℕ) (d : Line) (run : Run) (value : Option Shown) (out all : List Shown)
    → at < length lines → (let line : Line = get_or lines at d in m ≡ line.mutator) → m < length next → m < length runs → run ≡ get_or runs m run
    → value ≡ printed_at (at + 1) (drop (get_or next m 0) run.shown.items) → out ++ walked (at + 1) (drop at lines) (left_of runs next) ≡ all
    → (out ++ listed value) ++ walked (at + 1 + 1) (drop (at + 1) lines) (left_of runs (printed_after value next m)) ≡ all
walk_on lines runs next at m d run value out all lt by few inside is reported so_far =
    let line : Line = get_or lines at d in
    let rest = λ (left : ℕ → List Shown). walked (at + 1 + 1) (drop (at + 1) lines) left in
    let left : left_of runs next m ≡ drop (get_or next m 0) run.shown.items =
    ap (drop (get_or next m 0)) (shown_there runs m run inside ∙ ap (λ (r : Run). r.shown.items) (sym is)) in
    let tells : printed_at (at + 1) (left_of runs next line.mutator) ≡ value = ap (λ (j : ℕ). printed_at (at + 1) (left_of runs next j)) (sym by) ∙ ap (printed_at (at + 1)) left ∙ sym reported in
    let leaves : but (left_of runs next) line.mutator (unprinted value (left_of runs next line.mutator)) ≡ left_of runs (printed_after value next m) =
    ap (λ (j : ℕ). but (left_of runs next) j (unprinted value (left_of runs next j))) (sym by) ∙ left_behind_line runs next m value few in
    let line_of : walked (at + 1) (drop at lines) (left_of runs next) ≡ listed value ++ rest (left_of runs (printed_after value next m)) =
    walked_line lines at d (left_of runs next) lt
    ∙ ap (λ (o : Option Shown). listed o ++ rest (but (left_of runs next) line.mutator (unprinted o (left_of runs next line.mutator)))) tells
    ∙ ap (λ (left : ℕ → List Shown). listed value ++ rest left) leaves in
    append_assoc out (listed value) (rest (left_of runs (printed_after value next m))) ∙ ap (λ (l : List Shown). out ++ l) (sym line_of) ∙ so_far

-- a value that is not there is none
pub none_there : (value : Option Shown) → ((one : Shown) → value ≡ Some one → ⊥) → value ≡ None
none_there None not = refl
none_there (Some one) not = absurd (not one refl)

-- ---- the refused line with the least number
first_of_more : (runs : List Run) (run : Run) (stop : RefusedLine) → Each runs HasEnded → run.fault ≡ Some stop → IsLeastRefusedLine (runs ++ run ∷ []) stop
first_of_more runs run stop ended fault = record {
  reported = (length runs, run, at_last runs run, fault);
  least = λ k r other at is. ⊎_elim
      (λ e. let none : Some other ≡ None = sym is ∙ ended k r e in absurd (some_not_none other none))
      (λ t. let same : Some other ≡ Some stop = sym is ∙ ap (λ (x : Run). x.fault) (sym t.1) ∙ fault in
      let one : other ≡ stop = cc in
      omega (arith, ap (λ (s : RefusedLine). s.line) one))
      (last_of runs run r k at);
}

least_still : (runs : List Run) (run : Run) (stop : RefusedLine) → IsLeastRefusedLine runs stop → ((other : RefusedLine) → run.fault ≡ Some other → stop.line ≤ other.line) → IsLeastRefusedLine (runs ++ run ∷ []) stop
least_still runs run stop h above = record {
  reported = (h.reported.0, h.reported.1, at_front runs run h.reported.0 h.reported.1 h.reported.2, h.reported.3);
  least = λ k r other at is. ⊎_elim (λ e. h.least k r other e is) (λ t. above other (ap (λ (x : Run). x.fault) t.1 ∙ is)) (last_of runs run r k at);
}

least_now : (runs : List Run) (run : Run) (stop other : RefusedLine) → IsLeastRefusedLine runs stop → run.fault ≡ Some other → other.line < stop.line → IsLeastRefusedLine (runs ++ run ∷ []) other
least_now runs run stop other h fault lt = record {
  reported = (length runs, run, at_last runs run, fault);
  least = λ k r third at is. ⊎_elim
      (λ e. let le = h.least k r third e is in omega (arith, le, lt))
      (λ t. let same : Some third ≡ Some other = sym is ∙ ap (λ (x : Run). x.fault) (sym t.1) ∙ fault in
      let one : third ≡ other = cc in
      omega (arith, ap (λ (s : RefusedLine). s.line) one))
      (last_of runs run r k at);
}

first_with : (runs : List Run) (run : Run) (first fault : Option RefusedLine) → run.fault ≡ fault → IsFirstRefusedLine runs first → IsFirstRefusedLine (runs ++ run ∷ []) (earlier_of first fault)
first_with runs run None None e h = each-append HasEnded runs (run ∷ []) h (each-one HasEnded run e)
first_with runs run None (Some stop) e h = first_of_more runs run stop h e
first_with runs run (Some first) None e h = least_still runs run first h (λ other is. let none : Some other ≡ None = sym is ∙ e in absurd (some_not_none other none))
first_with runs run (Some first) (Some other) e h = ⊎_elim
    (λ (lt : other.line < first.line). subst (λ (b : Bool). IsFirstRefusedLine (runs ++ run ∷ []) (if b then Some other else Some first)) (sym (lt-ltb other.line first.line lt)) (least_now runs run first other h e lt))
    (λ (le : first.line ≤ other.line). subst (λ (b : Bool). IsFirstRefusedLine (runs ++ run ∷ []) (if b then Some other else Some first)) (sym (le-ltb other.line first.line le))
    (least_still runs run first h (λ third is. let same : Some third ≡ Some other = sym is ∙ e in let one : third ≡ other = cc in omega (arith, le, ap (λ (s : RefusedLine). s.line) one))))
    (cases_lt other.line first.line)

-- one run more
pub first_on : (runs : List Run) (k : ℕ) (run : Run) (first : Option RefusedLine) → k < length runs → run ≡ get_or runs k run → IsFirstRefusedLine (take k runs) first → IsFirstRefusedLine (take (k + 1) runs) (earlier_of first run.fault)
first_on runs k run first lt is h =
    let more : take (k + 1) runs ≡ take k runs ++ run ∷ [] = take_more runs k run lt ∙ ap (λ (r : Run). take k runs ++ r ∷ []) (sym is) in
    subst (λ (rs : List Run). IsFirstRefusedLine rs (earlier_of first run.fault)) (sym more) (first_with (take k runs) run first run.fault refl h)
