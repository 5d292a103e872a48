use Rattle.std.proofs.Common.{◌++◌, drop, sym, subst, take}
use Rattle.std.proofs.lemmas.List.Elements.{All-append, All-drop, All-same, All-take}
use Rattle.comp_mutator.specs.Mutators.{AreMutatorsOf, IsMutatorOf}
use Rattle.test_mutators.proofs.flip_and_finish.finish.Goals as goal

pub finish-requires-clause-of : goal.finish-requires-clause-of
finish-requires-clause-of g c κs within =
    let of = IsMutatorOf c.args.space in
    let given = c.args.mutators.items in
    All-same of c.rotate_left.new.self.items (drop 1 given ++ take 1 given) c.rotate_left.ensures.items (All-append of (drop 1 given) (take 1 given) (All-drop of 1 given c.requires.of) (All-take of 1 given c.requires.of))

pub finish_again-requires-clause-of : goal.finish_again-requires-clause-of
finish_again-requires-clause-of g c κs within =
    let of = IsMutatorOf c.args.space in
    let given = c.args.mutators.items in
    let back = c.in-Err.ensures.back in
    let all = All-same of c.rotate_left.new.self.items (drop 1 given ++ take 1 given) c.rotate_left.ensures.items (All-append of (drop 1 given) (take 1 given) (All-drop of 1 given c.requires.of) (All-take of 1 given c.requires.of)) in
    subst (λ s. AreMutatorsOf s c.in-Err.left.mutators.items) (sym back.0) (All-same of c.in-Err.left.mutators.items c.rotate_left.new.self.items back.1 all)
