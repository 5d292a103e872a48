use Rattle.std.proofs.Common.{ℕ, ◌-◌, ◌∷◌, ◌++◌, ◌∙◌, List, length, drop, ap, sym, None, Some, arith, take_all, length-drop}
use Rattle.std.proofs.lemmas.Bool.{eqb-false}
use Rattle.std.proofs.lemmas.Bool.Decides.{Decides-eqb}
use Rattle.std.proofs.lemmas.Slice.Eq.{strip_prefix_is}
use Rattle.comp_trace.proofs.NameForms.{word_there}
use Rattle.comp_trace.proofs.text.name.behind.Goals as goal

pub returns-in_default-clause-none : goal.returns-in_default-clause-none
returns-in_default-clause-none c rest h = strip_prefix_is Decides-eqb c.args.text.now c.args.word.now None c.in_default.ensures.cases (32 ∷ rest) h

pub returns-clause-some : goal.returns-clause-some
returns-clause-some c =
    let text = c.args.text.now in
    let word = c.args.word.now in
    let rest = c.in-Some.rest.now in
    let begins = strip_prefix_is Decides-eqb text word (Some c.in-Some.rest) c.in-Some.ensures.cases in
    word_there text word rest begins (omega (arith, eqb-false (length rest) 0 (sym c.if-is_empty.ensures))) c.if-rest-ne32.false
    ∙ ap (λ (l : List ℕ). word ++ 32 ∷ l) (sym (take_all (length rest - 1) (drop 1 rest) (omega (arith, length-drop 1 rest))))
