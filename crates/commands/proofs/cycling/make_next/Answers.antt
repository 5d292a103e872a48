use Rattle.std.proofs.Common.{ℕ, List, IfErr, IfOk, length, subst, sym}
use Rattle.std.proofs.lemmas.Result.{IfErr-weaker, IfOk-weaker}
use Rattle.comp_trace.specs.Replays.{Hold}
use Rattle.comp_trace.specs.RootsNamed.{words_named}
use Rattle.commands.specs.Following.{given_by, IsNextHeap, IsUnmarked}
use Rattle.commands.specs.declared.cycling.Handed.{Handed}
use Rattle.commands.proofs.CycledHeaps.{named_by, next_named, refused_named}
use Rattle.commands.proofs.cycling.make_next.Goals as goal

pub returns-in_ok-words-in-Roots-clause-next : goal.returns-in_ok-words-in-Roots-clause-next
returns-in_ok-words-in-Roots-clause-next g c =
    let heap = c.args.plan.value in
    let f = c.args.finished in
    let registers = c.args.registers.now in
    let roots = c.in-Roots.roots.items in
    let words = c.in_ok-words-in-Roots.words.items in
    let handed = c.deref-in-Roots.result.now in
    let named = named_by (length registers) registers words handed c.deref.result.now roots c.in_ok-words-in-Roots.ensures c.deref.ensures.value c.deref-in-Roots.ensures.value in
    subst (λ (given : Handed). IfOk c.root_anew.result (λ next. (now : ℕ → List ℕ) → Hold (length registers) registers now → IsNextHeap heap f (given_by given).marks (words_named now (given_by given).roots) next))
    (sym c.in-Roots.is) (IfOk-weaker c.root_anew.result _ _ (next_named heap f (length registers) registers handed roots named) c.root_anew.ensures.next)

pub returns-in_ok-words-in-Roots-clause-refused : goal.returns-in_ok-words-in-Roots-clause-refused
returns-in_ok-words-in-Roots-clause-refused g c =
    let heap = c.args.plan.value in
    let f = c.args.finished in
    let registers = c.args.registers.now in
    let roots = c.in-Roots.roots.items in
    let words = c.in_ok-words-in-Roots.words.items in
    let handed = c.deref-in-Roots.result.now in
    let named = named_by (length registers) registers words handed c.deref.result.now roots c.in_ok-words-in-Roots.ensures c.deref.ensures.value c.deref-in-Roots.ensures.value in
    subst (λ (given : Handed). IfErr c.root_anew.result (λ refusal. (now : ℕ → List ℕ) → Hold (length registers) registers now → IsUnmarked heap f (given_by given).marks (words_named now (given_by given).roots) refusal))
    (sym c.in-Roots.is) (IfErr-weaker c.root_anew.result _ _ (refused_named heap f (length registers) registers handed roots named) c.root_anew.ensures.refused)
