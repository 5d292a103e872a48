use Rattle.std.proofs.Common.{All, List, ◌+◌, ◌∙◌, ap, arith, rules, subst, sym}
use Rattle.std.proofs.lemmas.List.Elements.{All-push}
use Rattle.comp_trace.specs.Grammar.{parts}
use Rattle.comp_trace.specs.RootsText.{new_roots_from, IsRootWithin}
use Rattle.comp_trace.specs.declared.text.roots.NewRoot.{NewRoot}
use Rattle.comp_trace.proofs.Named.{behind, root_less, root_within, one_more, one_refused}
use Rattle.comp_trace.proofs.text.roots.read_roots.Goals as goal

pub returns-in_default-clause-cause : goal.returns-in_default-clause-cause
returns-in_default-clause-cause c =
    c.loop-rest.invariant.read ∙ one_refused c.args.mutators c.loop-rest.n c.loop-rest.rest.now c.loop-rest.roots.items (search rules) c.in_default.ensures.none

pub loop-rest-preserved : goal.loop-rest-preserved
loop-rest-preserved c =
    let ms = c.args.mutators in
    let root = c.in-Some.root in let more = c.in-Some.more.now in
    record {
      read = c.loop-rest.invariant.read ∙ one_more ms c.loop-rest.n c.loop-rest.rest.now more c.loop-rest.roots.items root c.in-Some.ensures.some
          ∙ ap (λ (rs : List NewRoot). behind rs (new_roots_from ms (c.loop-rest.n + 1) (parts 10 more))) (sym c.in_ok-push.ensures.items);
      within = subst (λ (rs : List NewRoot). All (IsRootWithin ms) rs) (sym c.in_ok-push.ensures.items)
          (All-push (IsRootWithin ms) c.loop-rest.roots.items root c.loop-rest.invariant.within (root_within ms c.loop-rest.rest.now root more c.in-Some.ensures.some));
      count = omega (arith, c.loop-rest.invariant.count, root_less ms c.loop-rest.rest.now root more c.in-Some.ensures.some);
    }
