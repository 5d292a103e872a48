use Rattle.std.proofs.Common.{◌∙◌, ◌+◌, ◌++◌, ◌∷◌, [], ℕ, List, Some, ap, arith, length, map, sym}
use Rattle.std.specs.List.{range_with_len}
use Rattle.std.proofs.lemmas.List.FromFn.{length-map-range_with_len}
use Rattle.comp_dump.specs.Dumped.{BuiltPage}
use Rattle.comp_dump.specs.WordsEncoding.{page_of_words}
use Rattle.comp_dump.proofs.LeftWords.{pages_next}
use Rattle.comp_dump.proofs.reading.words.cut_pages.Goals as goal

pub push-requires : goal.push-requires
push-requires c =
    let words : List ℕ = c.args.words.now in
    omega (arith, ap length c.loop-p.invariant, length-map-range_with_len (λ (q : ℕ). Some (page_of_words words q)) 0 c.loop-p.p, c.requires)

pub loop-p-preserved : goal.loop-p-preserved
loop-p-preserved c =
    let words : List ℕ = c.args.words.now in
    c.in_ok-push.ensures ∙ ap (λ front. front ++ Some c.in_ok-cut_page.field-0 ∷ []) c.loop-p.invariant
    ∙ ap (λ (page : BuiltPage). map (λ (q : ℕ). Some (page_of_words words q)) (range_with_len 0 c.loop-p.p) ++ Some page ∷ []) c.in_ok-cut_page.ensures ∙ sym (pages_next words c.loop-p.p)
