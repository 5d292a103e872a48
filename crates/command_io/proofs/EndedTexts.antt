-- A text that is read without a fault is empty, or ends with a line feed; so it was not cut.
use Rattle.std.proofs.Common.{◌≡◌, ◌∙◌, ℕ, ◌+◌, ◌==◌, false, List, [], ◌∷◌, length, Option, None, Some, IfSome, Result, Ok, Err, arith, eqb, ne_eqb, refl, subst, sym}
use Rattle.comp_trace.specs.Grammar.{◌>>=◌, judged, line_of, parts, read_from, trace_of}
use Rattle.comp_trace.specs.MarksText.{mark_before, mark_of, marks_from, marks_of}
use Rattle.comp_trace.specs.RootsText.{new_root_of, new_roots_from, new_roots_of, root_before}
use Rattle.comp_trace.specs.declared.text.fault.TraceFault.{TraceFault}
use Rattle.comp_trace.specs.declared.text.fault.TraceFault.TheVariants.{BadLine}
use Rattle.comp_trace.specs.declared.text.line.Line.{Line}
use Rattle.comp_trace.specs.declared.text.roots.NewRoot.{NewRoot}
use Rattle.command_io.specs.LongLines.{read_of}
use Rattle.command_io.specs.Texts.{SomeText}
use Rattle.command_io.proofs.LongLines.{last_part, whole_read}

-- a part that has a byte is not empty
some_bytes : (b : ℕ) (part : List ℕ) → (length (b ∷ part) == 0) ≡ false
some_bytes b part = ne_eqb (length (b ∷ part)) 0 (λ none. absurd (omega (arith, none)))

-- what went on was no fault
went_on : {A B : Type 0} (first : Result A TraceFault) (next : A → Result B TraceFault) (y : B) → (first >>= next) ≡ Ok y → (x : A) × (first ≡ Ok x) × (next x ≡ Ok y)
went_on (Ok x) next y e = (x, refl, e)
went_on (Err fault) next y e = absurd cc

ended_lines : (mutators roots n : ℕ) (all : List (List ℕ)) (lines : List Line) → read_from mutators roots n all ≡ Ok lines → last_part all ≡ []
ended_lines mutators roots n [] lines e = refl
ended_lines mutators roots n ([] ∷ []) lines e = refl
ended_lines mutators roots n ((b ∷ part) ∷ []) lines e =
    let here : read_from mutators roots n ((b ∷ part) ∷ []) ≡ Err (BadLine n) = rw (some_bytes b part) refl in
    let bad : Err (BadLine n) ≡ Ok lines = sym here ∙ e in
    absurd cc
ended_lines mutators roots n (text ∷ next ∷ more) lines e =
    let rest : Result (List Line) TraceFault = read_from mutators roots (n + 1) (next ∷ more) in
    let first = went_on (judged mutators roots n (line_of (parts 32 text))) (λ (line : Line). rest >>= λ (others : List Line). Ok (line ∷ others)) lines e in
    let others = went_on rest (λ (others : List Line). Ok (first.0 ∷ others)) lines first.2 in
    ended_lines mutators roots (n + 1) (next ∷ more) others.0 others.1

pub ended_trace : (mutators roots : ℕ) (lines : List Line) (text : List ℕ) → trace_of mutators roots text ≡ Ok lines → last_part (parts 10 text) ≡ []
ended_trace mutators roots lines text e = ended_lines mutators roots 1 (parts 10 text) lines e

-- the marks after a mark were read
marks_behind : (n : ℕ) (mark : Option ℕ) (read : Result (List ℕ) ℕ) (marks : List ℕ) → mark_before n mark read ≡ Ok marks → (others : List ℕ) × (read ≡ Ok others)
marks_behind n None read marks e = absurd cc
marks_behind n (Some mark) (Ok others) marks e = (others, refl)
marks_behind n (Some mark) (Err line) marks e = absurd cc

ended_from : (n : ℕ) (all : List (List ℕ)) (marks : List ℕ) → marks_from n all ≡ Ok marks → last_part all ≡ []
ended_from n [] marks e = refl
ended_from n ([] ∷ []) marks e = refl
ended_from n ((b ∷ part) ∷ []) marks e =
    let here : marks_from n ((b ∷ part) ∷ []) ≡ Err n = rw (some_bytes b part) refl in
    let bad : Err n ≡ Ok marks = sym here ∙ e in
    absurd cc
ended_from n (line ∷ next ∷ more) marks e =
    let others = marks_behind n (mark_of line) (marks_from (n + 1) (next ∷ more)) marks e in
    ended_from (n + 1) (next ∷ more) others.0 others.1

pub ended_marks : (marks text : List ℕ) → marks_of text ≡ Ok marks → last_part (parts 10 text) ≡ []
ended_marks marks text e = ended_from 1 (parts 10 text) marks e

-- the roots after a root were read
roots_behind : (n : ℕ) (root : Option NewRoot) (read : Result (List NewRoot) ℕ) (roots : List NewRoot) → root_before n root read ≡ Ok roots → (others : List NewRoot) × (read ≡ Ok others)
roots_behind n None read roots e = absurd cc
roots_behind n (Some root) (Ok others) roots e = (others, refl)
roots_behind n (Some root) (Err line) roots e = absurd cc

ended_new : (mutators n : ℕ) (all : List (List ℕ)) (roots : List NewRoot) → new_roots_from mutators n all ≡ Ok roots → last_part all ≡ []
ended_new mutators n [] roots e = refl
ended_new mutators n ([] ∷ []) roots e = refl
ended_new mutators n ((b ∷ part) ∷ []) roots e =
    let here : new_roots_from mutators n ((b ∷ part) ∷ []) ≡ Err n = rw (some_bytes b part) refl in
    let bad : Err n ≡ Ok roots = sym here ∙ e in
    absurd cc
ended_new mutators n (line ∷ next ∷ more) roots e =
    let others = roots_behind n (new_root_of mutators line) (new_roots_from mutators (n + 1) (next ∷ more)) roots e in
    ended_new mutators (n + 1) (next ∷ more) others.0 others.1

pub ended_roots : (mutators : ℕ) (roots : List NewRoot) (text : List ℕ) → new_roots_of mutators text ≡ Ok roots → last_part (parts 10 text) ≡ []
ended_roots mutators roots text e = ended_new mutators 1 (parts 10 text) roots e

-- what holds of what was read, and only of a text that ends so, holds of the text
pub of_whole : (P : List ℕ → Type 0) (known : Option (List ℕ)) (text : List ℕ) → ((some : List ℕ) → P some → last_part (parts 10 some) ≡ []) → IfSome known (λ bytes. read_of bytes ≡ text) → P text → SomeText P known
of_whole P None text ends same holds = (text, tt, holds)
of_whole P (Some bytes) text ends same holds =
    let whole : read_of bytes ≡ bytes = whole_read bytes (subst (λ (some : List ℕ). last_part (parts 10 some) ≡ []) (sym same) (ends text holds)) in
    (bytes, refl, subst P (sym same ∙ whole) holds)
