-- Lines of one mutator, chained from the last line to the first.
use Rattle.std.proofs.Common.{◌≡◌, ◌≢◌, ◌⊎◌, ℕ, zero, suc, ◌+◌, ◌<◌, ◌≤◌, Bool, true, false, cond, List, [], ◌∷◌, length, drop, get_or, set, eqb, eq-eqb, ne_eqb, refl, sym, ap, subst, ◌∙◌, arith, inl, inr, get_or-set_same, get_or-set_other, length-set}
use mathlib.Core.Option.{some, some-injective}
use lib.ListN.{get_elem?}
use Rattle.std.proofs.lemmas.Bool.{cases_eq}
use Rattle.comp_mutator.proofs.Sums.{is_inside}
use Rattle.comp_trace.specs.Races.{numbered, own_lines}
use Rattle.comp_trace.specs.Chains.{IsNextOwn}
use Rattle.comp_trace.specs.declared.text.line.Line.{Line}

-- What is known of the lines from one index on.
pub record ChainedFrom (lines : List Line) (position : ℕ) (firsts counts nexts : List ℕ) : Type 0 where
  pub within : position ≤ length lines
  pub numbers : (length firsts ≡ 256) × (length counts ≡ 256)
  pub long : length nexts ≡ length lines
  pub first : (number : ℕ) → number < 256 → IsNextOwn lines number position (get_or firsts number 0)
  pub count : (number : ℕ) → number < 256 → get_or counts number 0 ≡ length (own_lines number (numbered (position + 1) (drop position lines)))
  pub next : (i : ℕ) (line : Line) → position ≤ i → get_elem? lines i ≡ some line → IsNextOwn lines line.mutator (i + 1) (get_or nexts i 0)

-- after the last line there is none
none_behind : (lines : List Line) (number : ℕ) → IsNextOwn lines number (length lines) (length lines)
none_behind lines number = record {
  above = omega arith;
  inside = omega arith;
  others = λ i line from lt at. absurd (omega (arith, from, lt));
  own = λ line at. absurd (omega (arith, is_inside lines (length lines) line at));
}

drop_all : (lines : List Line) → drop (length lines) lines ≡ []
drop_all [] = refl
drop_all (x ∷ lines) = drop_all lines

pub chained_none : (lines : List Line) (firsts counts nexts : List ℕ) → (length firsts ≡ 256) × (length counts ≡ 256) → length nexts ≡ length lines → ((i : ℕ) → i < 256 → get_or firsts i 0 ≡ length lines)
    → ((i : ℕ) → i < 256 → get_or counts i 0 ≡ 0) → ChainedFrom lines (length lines) firsts counts nexts
chained_none lines firsts counts nexts numbers long all none = record {
  within = omega arith;
  numbers = numbers;
  long = long;
  first = λ number lt. subst (IsNextOwn lines number (length lines)) (sym (all number lt)) (none_behind lines number);
  count = λ number lt. none number lt ∙ sym (ap (λ (l : List Line). length (own_lines number (numbered (length lines + 1) l))) (drop_all lines));
  next = λ i line from at. absurd (omega (arith, from, is_inside lines i line at));
}

drop_at : (lines : List Line) (k : ℕ) (line : Line) → get_elem? lines k ≡ some line → drop k lines ≡ line ∷ drop (suc k) lines
drop_at [] k line at = absurd (omega (arith, is_inside [] k line at))
drop_at (x ∷ lines) zero line at = ap (λ (l : Line). l ∷ lines) (some-injective x line at)
drop_at (x ∷ lines) (suc k) line at = drop_at lines k line at

-- the number of lines of a mutator, with one line more
count_own : (number n : ℕ) (x : Line) (lines : List Line) → x.mutator ≡ number → length (own_lines number (numbered n (x ∷ lines))) ≡ suc (length (own_lines number (numbered (n + 1) lines)))
count_own number n x lines e = ap (λ (t : Bool). length (cond t ((n, x) ∷ own_lines number (numbered (n + 1) lines)) (own_lines number (numbered (n + 1) lines)))) (eq-eqb x.mutator number e)

count_other : (number n : ℕ) (x : Line) (lines : List Line) → x.mutator ≢ number → length (own_lines number (numbered n (x ∷ lines))) ≡ length (own_lines number (numbered (n + 1) lines))
count_other number n x lines ne = ap (λ (t : Bool). length (cond t ((n, x) ∷ own_lines number (numbered (n + 1) lines)) (own_lines number (numbered (n + 1) lines)))) (ne_eqb x.mutator number ne)

-- no mutator has more lines than there are
pub few_own : (number n : ℕ) (lines : List Line) → length (own_lines number (numbered n lines)) ≤ length lines
few_own number n [] = omega arith
few_own number n (x ∷ lines) =
    let more = few_own number (n + 1) lines in
    elim (eqb x.mutator number) as (λ (t : Bool). length (cond t ((n, x) ∷ own_lines number (numbered (n + 1) lines)) (own_lines number (numbered (n + 1) lines))) ≤ suc (length lines)) [
      | true ↦ omega (arith, more)
      | false ↦ omega (arith, more)
    ]

module _ (lines : List Line) (position : ℕ) (line : Line) (at : get_elem? lines position ≡ some line) where
  -- the line itself is the next one of its mutator
  here : IsNextOwn lines line.mutator position position
  here = record {
    above = omega arith;
    inside = omega (arith, is_inside lines position line at);
    others = λ i other from lt there. absurd (omega (arith, from, lt));
    own = λ other there. ap (λ (l : Line). l.mutator) (some-injective other line (sym there ∙ at));
  }

  -- any other mutator skips the line
  passed : (number next : ℕ) → number ≢ line.mutator → IsNextOwn lines number (position + 1) next → IsNextOwn lines number position next
  passed number next ne h = record {
    above = omega (arith, h.above);
    inside = h.inside;
    others = λ i other from lt there. elim (cases_eq i position) [
      | inl same ↦ λ e. ne (sym e ∙ ap (λ (l : Line). l.mutator) (some-injective other line (sym there ∙ ap (get_elem? lines) same ∙ at)))
      | inr apart ↦ h.others i other (omega (arith, from, apart)) lt there
    ];
    own = h.own;
  }

  -- one line more
  pub chained_more : (firsts counts nexts : List ℕ) → line.mutator < 256 → ChainedFrom lines (position + 1) firsts counts nexts
      → ChainedFrom lines position (set firsts line.mutator position) (set counts line.mutator (get_or counts line.mutator 0 + 1)) (set nexts position (get_or firsts line.mutator 0))
  chained_more firsts counts nexts small h =
      let number = line.mutator in
      let behind = drop (suc position) lines in
      let one : suc position ≡ position + 1 = omega arith in
      let those : drop position lines ≡ line ∷ behind = drop_at lines position line at in
      let before : (k : ℕ) → k < 256 → get_or counts k 0 ≡ length (own_lines k (numbered (position + 1 + 1) behind)) =
      λ k lt. h.count k lt ∙ ap (λ (j : ℕ). length (own_lines k (numbered (position + 1 + 1) (drop j lines)))) (sym one) in
      let all : (k : ℕ) → length (own_lines k (numbered (position + 1) (drop position lines))) ≡ length (own_lines k (numbered (position + 1) (line ∷ behind))) =
      λ k. ap (λ (l : List Line). length (own_lines k (numbered (position + 1) l))) those in
      let counted : (k : ℕ) → k < 256 → (k ≡ number) ⊎ (k ≢ number) → get_or (set counts number (get_or counts number 0 + 1)) k 0 ≡ length (own_lines k (numbered (position + 1) (drop position lines))) =
      λ k lt which. elim which [
        | inl same ↦
            let more = count_own k (position + 1) line behind (sym same) in
            ap (λ (j : ℕ). get_or (set counts number (get_or counts number 0 + 1)) j 0) same ∙ get_or-set_same counts number (get_or counts number 0 + 1) 0 (omega (arith, small, h.numbers.1))
            ∙ ap (λ (j : ℕ). get_or counts j 0 + 1) (sym same) ∙ (let sum : get_or counts k 0 + 1 ≡ suc (length (own_lines k (numbered (position + 1 + 1) behind))) = omega (arith, before k lt) in sum) ∙ sym more ∙ sym (all k)
        | inr ne ↦
            get_or-set_other counts number k (get_or counts number 0 + 1) 0 ne ∙ before k lt ∙ sym (count_other k (position + 1) line behind (λ e. ne (sym e))) ∙ sym (all k)
      ] in
      record {
        within = omega (arith, h.within);
        numbers = (length-set firsts number position ∙ h.numbers.0, length-set counts number (get_or counts number 0 + 1) ∙ h.numbers.1);
        long = length-set nexts position (get_or firsts number 0) ∙ h.long;
        first = λ k lt. elim (cases_eq k number) [
          | inl same ↦
              subst (λ (j : ℕ). IsNextOwn lines j position (get_or (set firsts number position) j 0)) (sym same)
              (subst (IsNextOwn lines number position) (sym (get_or-set_same firsts number position 0 (omega (arith, small, h.numbers.0)))) here)
          | inr ne ↦ subst (IsNextOwn lines k position) (sym (get_or-set_other firsts number k position 0 ne)) (passed k (get_or firsts k 0) ne (h.first k lt))
        ];
        count = λ k lt. counted k lt (cases_eq k number);
        next = λ i other from there. elim (cases_eq i position) [
          | inl same ↦
              let is : other ≡ line = some-injective other line (sym there ∙ ap (get_elem? lines) same ∙ at) in
              subst (λ (l : Line). IsNextOwn lines l.mutator (i + 1) (get_or (set nexts position (get_or firsts number 0)) i 0)) (sym is)
              (subst (λ (j : ℕ). IsNextOwn lines number (j + 1) (get_or (set nexts position (get_or firsts number 0)) j 0)) (sym same)
              (subst (IsNextOwn lines number (position + 1)) (sym (get_or-set_same nexts position (get_or firsts number 0) 0 (omega (arith, h.long, h.within)))) (h.first number small)))
          | inr apart ↦
              subst (IsNextOwn lines other.mutator (i + 1)) (sym (get_or-set_other nexts position i (get_or firsts number 0) 0 apart)) (h.next i other (omega (arith, from, apart)) there)
        ];
      }
