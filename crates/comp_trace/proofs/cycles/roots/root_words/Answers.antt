use Rattle.std.proofs.Common.{◌∙◌, ◌+◌, ap, arith, get_or, length, map, take, ℕ, [], ◌∷◌}
use Rattle.std.proofs.lemmas.List.{length-append, map-append, take_more}
use Rattle.comp_trace.specs.declared.text.roots.NewRoot.TheVariants.{Address}
use Rattle.comp_trace.specs.RootsNamed.{word_named}
use Rattle.comp_trace.proofs.cycles.roots.root_words.Goals as goal

pub loop-root-preserved : goal.loop-root-preserved
loop-root-preserved c = record {
  words = λ now hold.
      let roots = c.args.roots.now in
      let i = c.loop-root.root-index in
      let said = c.root_word.ensures now hold in
      let old = c.loop-root.invariant.words now hold in
      let pushed = c.push_reserved.ensures.items in
      let more = ap (map (word_named now)) (take_more roots i (Address 0) c.loop-root-test.true) ∙ map-append (word_named now) (take i roots) (get_or roots i (Address 0) ∷ []) in
      cc;
  count = ap length c.push_reserved.ensures.items ∙ length-append c.loop-root.words.items (c.root_word.result ∷ []) ∙ ap (λ (n : ℕ). n + 1) c.loop-root.invariant.count;
  room = omega (arith, c.loop-root.invariant.room, c.push_reserved.ensures.capacity);
}
