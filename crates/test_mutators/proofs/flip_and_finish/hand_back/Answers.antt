use Rattle.std.proofs.Common.{◌≡◌, Bool, true, false, List, [], ◌∷◌, ◌++◌, if◌then◌else◌, is_ok, IfSome, sym, subst}
use Rattle.std.proofs.lemmas.List.Elements.{All-pop, All-push, All-same}
use Rattle.std.specs.List.{All}
use Rattle.comp_mutator.specs.Mutators.{AreMutatorsOf, IsMutatorOf}
use Rattle.test_mutators.proofs.flip_and_finish.hand_back.Goals as goal

-- whether a push finds room or not
All-tried : {X : Type 0} (P : X → Type 0) (b : Bool) (xs ys : List X) (x : X) → ys ≡ (if b then xs ++ x ∷ [] else xs) → All P xs → P x → All P ys
All-tried P true xs ys x e h p = All-same P ys (xs ++ x ∷ []) e (All-push P xs x h p)
All-tried P false xs ys x e h p = All-same P ys xs e h

pub finish-requires-clause-of : goal.finish-requires-clause-of
finish-requires-clause-of g c κs within =
    (All-pop (IsMutatorOf c.args.space) c.args.mutators.items c.pop.new.self.items c.pop.result c.pop.ensures.items c.requires.of).0

pub returns-clause-of : goal.returns-clause-of
returns-clause-of g c =
    let of = IsMutatorOf c.args.space in
    let popped = All-pop of c.args.mutators.items c.pop.new.self.items c.pop.result c.pop.ensures.items c.requires.of in
    let back = c.in-Err.ensures.back in
    let last = subst (λ m. IfSome m of) c.expect-last.ensures popped.1 in
    let kept = All-same of c.in-Err.left.mutators.items c.pop.new.self.items back.1 popped.0 in
    subst (λ s. AreMutatorsOf s c.push.new.self.items) (sym back.0) (All-tried of (is_ok c.push.result) c.in-Err.left.mutators.items c.push.new.self.items c.expect-last.result c.push.ensures.items kept last)
