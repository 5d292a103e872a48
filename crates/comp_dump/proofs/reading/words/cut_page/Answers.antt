use Rattle.std.proofs.Common.{◌≡◌, ◌∙◌, ◌-◌, ◌*◌, ◌++◌, ℕ, List, ap, ap₂, arith, drop, length, length-drop, replicate, take}
use Rattle.std.proofs.lemmas.List.{take_all}
use Rattle.comp_journal.specs.declared.entry.Entry.{Entry}
use Rattle.comp_dump.specs.Dumped.{BuiltPage}
use Rattle.comp_dump.proofs.LeftWords.{filled_page}
use Rattle.comp_dump.proofs.reading.words.cut_page.Goals as goal

pub returns : goal.returns
returns c =
    let words : List ℕ = c.args.words.now in
    let after : List ℕ = drop (64 * c.args.p) words in
    let rest : List ℕ = take (length words - 64 * c.args.p) after in
    let same : rest ≡ after = take_all (length words - 64 * c.args.p) after (omega (arith, length-drop (64 * c.args.p) words)) in
    let page : List ℕ → List Entry → BuiltPage = λ words journal. record { words = words; journal = journal } in
    c.new-2.ensures
    ∙ ap₂ page
    (c.in_ok-copied.ensures ∙ ap (λ (front : List ℕ). front ++ drop c.min-kept.result (replicate 64 0)) c.copy_from_slice.ensures.after ∙ filled_page rest c.min-kept.result (omega (arith, c.min-kept.ensures))
    ∙ ap (λ (xs : List ℕ). take 64 (xs ++ replicate 64 0)) same)
    c.new.ensures.items
