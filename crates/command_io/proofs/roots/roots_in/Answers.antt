use Rattle.std.proofs.Common.{◌≡◌, ℕ, List, Ok, subst}
use Rattle.heap_layout.specs.Counted.{inner_of}
use Rattle.comp_trace.specs.RootsText.{new_roots_of}
use Rattle.comp_trace.specs.declared.text.roots.NewRoot.{NewRoot}
use Rattle.command_io.proofs.EndedTexts.{ended_roots, of_whole}
use Rattle.command_io.proofs.roots.roots_in.Goals as goal

pub returns-in-Ok-read_roots-clause-roots : goal.returns-in-Ok-read_roots-clause-roots
returns-in-Ok-read_roots-clause-roots g c =
    let mutators : ℕ = c.args.mutators in
    let roots : List NewRoot = c.in-Ok-read_roots.roots.items in
    let holds : new_roots_of mutators c.in-Ok.text.items ≡ Ok roots = subst (λ (text : List ℕ). new_roots_of mutators text ≡ Ok roots) c.deref.ensures.value c.in-Ok-read_roots.ensures.roots in
    of_whole (λ (text : List ℕ). new_roots_of mutators text ≡ Ok roots) (g.S.Read.remaining (inner_of c.args.r.now)) c.in-Ok.text.items (ended_roots mutators roots) c.in-Ok.ensures.text holds
