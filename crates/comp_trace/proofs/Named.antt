-- Roots that are read one after the other.
use Rattle.std.proofs.Common.{◌≡◌, ℕ, ◌+◌, ◌^◌, ◌<◌, ◌≤◌, ◌||◌, Bool, true, false, cond, nat_le, List, [], ◌∷◌, ◌++◌, length, map, Option, Some, None, Result, Ok, Err, refl, sym, ap, subst, ◌∙◌, arith, append_assoc, length-append, inl, inr, ne_eqb}
use Rattle.std.specs.Prelude.{option_and_then}
use Rattle.std.proofs.lemmas.Bool.{cases_lt, leb-false, le-leb, lt-leb}
use Rattle.comp_trace.specs.Grammar.{clipped, numbers_of, parts}
use Rattle.comp_trace.specs.Fronts.{HasNone, NumbersOfLine, ReadsNumbers}
use Rattle.comp_trace.specs.RootsText.{new_root_of, new_roots_from, root_before, root_named, IsRootWithin, RootBefore}
use Rattle.comp_trace.specs.declared.text.roots.NewRoot.{NewRoot}
use Rattle.comp_trace.specs.declared.text.roots.NewRoot.TheVariants.{Address, Register}
use Rattle.comp_trace.proofs.Lines.{some_part}
use Rattle.comp_trace.proofs.LineForms.{line_of_numbers, numbers_of_parts}
use Rattle.comp_trace.proofs.Splits.{cut_at, first_cut, same_cut, uncut}

-- ---- the root of one line

-- a line has its numbers once
numbers_once : (text ns ms rest other : List ℕ) → NumbersOfLine text ns rest → NumbersOfLine text ms other → ns ≡ ms
numbers_once text ns ms rest other p q =
    let a = line_of_numbers text ns rest p in
    let b = line_of_numbers text ms other q in
    let same = same_cut 10 a.0 b.0 rest other a.2 b.2 (sym a.1 ∙ b.1) in
    inside ns ms (sym a.3 ∙ ap (λ (l : List ℕ). numbers_of (parts 32 l)) same.0 ∙ b.3)
  where
    inside : (a b : List ℕ) → Some a ≡ Some b → a ≡ b
    inside a b e = cc

bound_clipped : (b x : ℕ) → b ≤ 2 ^ 64 → nat_le b (clipped x) ≡ nat_le b x
bound_clipped b x bound = elim (cases_lt x b) [
  | inl lt ↦ lt-leb b (clipped x) (omega arith) ∙ sym (lt-leb b x lt)
  | inr ge ↦ le-leb b (clipped x) (omega arith) ∙ sym (le-leb b x ge)
]

same_clipped : (b x : ℕ) → b ≤ 2 ^ 64 → nat_le b x ≡ false → clipped x ≡ x
same_clipped b x bound small = omega (arith, leb-false b x small)

-- numbers past every bound name no root, so clipping changes nothing
clipped_root : (mutators : ℕ) (ns : List ℕ) → mutators < 2 ^ 8 → root_named mutators (map clipped ns) ≡ root_named mutators ns
clipped_root mutators [] few = refl
clipped_root mutators (a ∷ []) few = rw (bound_clipped (2 ^ 64) a (omega arith)) (one (nat_le (2 ^ 64) a) refl)
  where
    one : (b : Bool) → nat_le (2 ^ 64) a ≡ b → cond b None (Some (Address (clipped a))) ≡ cond b None (Some (Address a))
    one true e = refl
    one false e = ap (λ (k : ℕ). Some (Address k)) (same_clipped (2 ^ 64) a (omega arith) e)
clipped_root mutators (m ∷ d ∷ []) few = rw (bound_clipped mutators m (omega (arith, few)), bound_clipped 16 d (omega arith)) (two (nat_le mutators m) (nat_le 16 d) refl refl)
  where
    two : (a b : Bool) → nat_le mutators m ≡ a → nat_le 16 d ≡ b → cond (a || b) None (Some (Register (clipped m) (clipped d))) ≡ cond (a || b) None (Some (Register m d))
    two true b e f = refl
    two false true e f = refl
    two false false e f = rw (same_clipped mutators m (omega (arith, few)) e, same_clipped 16 d (omega arith) f) refl
clipped_root mutators (a ∷ b ∷ c ∷ ns) few = refl

-- numbers that were read name the root of the line
pub root_there : (mutators : ℕ) (text ks rest : List ℕ) (root : NewRoot) → mutators < 2 ^ 8 → ReadsNumbers text ks rest → Some root ≡ root_named mutators ks → RootBefore mutators text root rest
root_there mutators text ks rest root few h e = (h.0, h.2, sym (clipped_root mutators h.0 few) ∙ ap (root_named mutators) (sym h.1) ∙ sym e)

none_apart : (root : NewRoot) → None ≡ Some root → ⊥
none_apart root h = absurd cc

-- numbers that were read and name no root leave no root
pub root_refused : (mutators : ℕ) (text ks rest : List ℕ) → mutators < 2 ^ 8 → ReadsNumbers text ks rest → None ≡ root_named mutators ks → (root : NewRoot) (other : List ℕ) → RootBefore mutators text root other → ⊥
root_refused mutators text ks rest few h e root other before =
    let same = numbers_once text h.0 before.0 rest other h.2 before.1 in
    none_apart root (e ∙ ap (root_named mutators) h.1 ∙ clipped_root mutators h.0 few ∙ ap (root_named mutators) same ∙ before.2)

-- a line of neither one nor two numbers is no root
pub no_root : (mutators : ℕ) (text : List ℕ) → HasNone 1 text → HasNone 2 text → (root : NewRoot) (rest : List ℕ) → RootBefore mutators text root rest → ⊥
no_root mutators text one two root rest before = of before.0 before.1 before.2
  where
    of : (ns : List ℕ) → NumbersOfLine text ns rest → root_named mutators ns ≡ Some root → ⊥
    of [] line e = none_apart root e
    of (a ∷ []) line e = one (a ∷ []) rest refl line
    of (m ∷ d ∷ []) line e = two (m ∷ d ∷ []) rest refl line
    of (a ∷ b ∷ c ∷ ns) line e = none_apart root e

-- a register that is named is one of the mutators
within : (mutators : ℕ) (ns : List ℕ) (root : NewRoot) → root_named mutators ns ≡ Some root → IsRootWithin mutators root
within mutators [] root e = absurd (none_apart root e)
within mutators (a ∷ []) root e = one (nat_le (2 ^ 64) a) e
  where
    one : (b : Bool) → cond b None (Some (Address a)) ≡ Some root → IsRootWithin mutators root
    one true h = absurd (none_apart root h)
    one false h = subst (IsRootWithin mutators) (inside (Address a) root h) tt
      where
        inside : (x y : NewRoot) → Some x ≡ Some y → x ≡ y
        inside x y e = cc
within mutators (m ∷ d ∷ []) root e = two (nat_le mutators m) (nat_le 16 d) refl refl e
  where
    two : (a b : Bool) → nat_le mutators m ≡ a → nat_le 16 d ≡ b → cond (a || b) None (Some (Register m d)) ≡ Some root → IsRootWithin mutators root
    two true b p q h = absurd (none_apart root h)
    two false true p q h = absurd (none_apart root h)
    two false false p q h = subst (IsRootWithin mutators) (inside (Register m d) root h) (omega (arith, leb-false mutators m p), omega (arith, leb-false 16 d q))
      where
        inside : (x y : NewRoot) → Some x ≡ Some y → x ≡ y
        inside x y e = cc
within mutators (a ∷ b ∷ c ∷ ns) root e = absurd (none_apart root e)

pub root_within : (mutators : ℕ) (text : List ℕ) (root : NewRoot) (rest : List ℕ) → RootBefore mutators text root rest → IsRootWithin mutators root
root_within mutators text root rest h = within mutators h.0 root h.2

-- ---- one line after the other

-- these roots, and then what was read after them
abbrev pub behind : List NewRoot → Result (List NewRoot) ℕ → Result (List NewRoot) ℕ
behind front (Ok roots) = Ok (front ++ roots)
behind front (Err line) = Err line

regroup : (front : List NewRoot) (n : ℕ) (root : NewRoot) (read : Result (List NewRoot) ℕ) → behind front (root_before n (Some root) read) ≡ behind (front ++ root ∷ []) read
regroup front n root (Ok roots) = ap (λ (rs : List NewRoot). Ok rs) (sym (append_assoc front (root ∷ []) roots))
regroup front n root (Err line) = refl

-- if nothing was read before, what is read is the whole
pub at_first : (read : Result (List NewRoot) ℕ) → read ≡ behind [] read
at_first (Ok roots) = refl
at_first (Err line) = refl

-- a root before a line feed is the first line
root_line : (mutators : ℕ) (text : List ℕ) (root : NewRoot) (rest : List ℕ) → RootBefore mutators text root rest
    → (line : List ℕ) × (text ≡ line ++ 10 ∷ rest) × (parts 10 text ≡ line ∷ parts 10 rest) × (new_root_of mutators line ≡ Some root)
root_line mutators text root rest h =
    let line = line_of_numbers text h.0 rest h.1 in
    (line.0, line.1, ap (parts 10) line.1 ∙ cut_at 10 line.0 rest line.2, ap (option_and_then (root_named mutators)) line.3 ∙ h.2)

pub root_less : (mutators : ℕ) (text : List ℕ) (root : NewRoot) (rest : List ℕ) → RootBefore mutators text root rest → length rest < length text
root_less mutators text root rest h =
    let line = line_of_numbers text h.0 rest h.1 in omega (arith, ap length line.1, length-append line.0 (10 ∷ rest))

-- one more root is read, and the roots after it
pub one_more : (mutators n : ℕ) (text more : List ℕ) (front : List NewRoot) (root : NewRoot) → RootBefore mutators text root more
    → behind front (new_roots_from mutators n (parts 10 text)) ≡ behind (front ++ root ∷ []) (new_roots_from mutators (n + 1) (parts 10 more))
one_more mutators n text more front root h =
    let line = root_line mutators text root more h in
    let next = some_part 10 more in
    let read : new_roots_from mutators n (parts 10 text) ≡ root_before n (Some root) (new_roots_from mutators (n + 1) (parts 10 more)) = rw (line.2, next.2, line.3) refl in
    ap (behind front) read ∙ regroup front n root (new_roots_from mutators (n + 1) (parts 10 more))

-- a line that is a root has its numbers
line_named : (mutators : ℕ) (o : Option (List ℕ)) (root : NewRoot) → option_and_then (root_named mutators) o ≡ Some root → (ns : List ℕ) × (o ≡ Some ns) × (root_named mutators ns ≡ Some root)
line_named mutators None root e = absurd (none_apart root e)
line_named mutators (Some ns) root e = (ns, refl, e)

none_or : (o : Option NewRoot) → ((root : NewRoot) → o ≡ Some root → ⊥) → o ≡ None
none_or None f = refl
none_or (Some root) f = absurd (f root refl)

-- a text that does not begin with a root is refused
pub one_refused : (mutators n : ℕ) (text : List ℕ) (front : List NewRoot) → 0 < length text → ((root : NewRoot) (rest : List ℕ) → RootBefore mutators text root rest → ⊥)
    → behind front (new_roots_from mutators n (parts 10 text)) ≡ Err n
one_refused mutators n text front some none = elim (first_cut 10 text) [
  | inl without ↦ ap (λ (ps : List (List ℕ)). behind front (new_roots_from mutators n ps)) (uncut 10 text without) ∙ ap (behind front) (last_refused n text some)
  | inr c ↦
      let next = some_part 10 c.1 in
      let there : parts 10 text ≡ c.0 ∷ parts 10 c.1 = ap (parts 10) c.2 ∙ cut_at 10 c.0 c.1 c.3 in
      let is : new_root_of mutators c.0 ≡ None = none_or (new_root_of mutators c.0) (λ root e.
      let named = line_named mutators (numbers_of (parts 32 c.0)) root e in
      none root c.1 (named.0, subst (λ (t : List ℕ). NumbersOfLine t named.0 c.1) (sym c.2) (numbers_of_parts (parts 32 c.0) c.0 named.0 c.1 refl named.1), named.2)) in
      let read : new_roots_from mutators n (parts 10 text) ≡ Err n = rw (there, next.2, is) refl in
      ap (behind front) read
]
  where
    last_refused : (n : ℕ) (text : List ℕ) → 0 < length text → new_roots_from mutators n (text ∷ []) ≡ Err n
    last_refused n text some = rw (ne_eqb (length text) 0 (λ e. omega (arith, e, some))) refl
