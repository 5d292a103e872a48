use Rattle.std.proofs.Common.{◌<◌, length, get_or, set, sym, subst, arith}
use Rattle.comp_mutator.specs.Mutators.{AreMutatorsOf, IsMutatorOf}
use Rattle.comp_trace.proofs.MetPairs.{each_set, high_pair, in_back, in_front, low_pair, pair_met}
use Rattle.comp_trace.proofs.steps.stepping.meet_at.Goals as goal

pub returns-then-k-i-clause-of : goal.returns-then-k-i-clause-of
returns-then-k-i-clause-of g c =
    let s = c.split_at_mut-front in
    let old = c.args.mutators.now in
    let Q = IsMutatorOf c.args.space.now in
    subst (AreMutatorsOf c.args.space.now) (sym (low_pair old s.result.0.now s.result.1.now c.args.k c.args.i c.meet.new.other c.meet.new.m s.ensures.value s.ensures.front_len c.if-k-i.true))
    (each_set Q (set old c.args.k c.meet.new.other) c.args.i c.meet.new.m (each_set Q old c.args.k c.meet.new.other c.requires.of c.meet.ensures.of.0) c.meet.ensures.of.1)

pub returns-then-k-i-clause-met : goal.returns-then-k-i-clause-met
returns-then-k-i-clause-met g c =
    let s = c.split_at_mut-front.ensures in
    let front = c.split_at_mut-front.result.0.now in
    let back = c.split_at_mut-front.result.1.now in
    let old = c.args.mutators.now in
    let k = c.args.k in
    let i = c.args.i in
    let lt : k < i = c.if-k-i.true in
    let some : 0 < length back = omega (arith, s.back_len, c.requires.inside.1) in
    pair_met old _ k i (get_or front k c.index-front-k.result) (get_or back 0 c.index-back-0.result) c.meet.new.other c.meet.new.m c.requires.inside.2 c.requires.inside.0 c.requires.inside.1
    (λ d. in_front old front back k d c.index-front-k.result s.value (omega (arith, lt, s.front_len))) (λ d. in_back old front back i d c.index-back-0.result s.value s.front_len some)
    (low_pair old front back k i c.meet.new.other c.meet.new.m s.value s.front_len lt) c.meet.ensures.other c.meet.ensures.m c.meet.ensures.same

pub returns-else-k-i-clause-of : goal.returns-else-k-i-clause-of
returns-else-k-i-clause-of g c =
    let s = c.split_at_mut-front-else-k-i in
    let e = c.meet-else-k-i in
    let old = c.args.mutators.now in
    let Q = IsMutatorOf c.args.space.now in
    let lt : c.args.i < c.args.k = let t = c.if-k-i.false in omega (arith, t, c.requires.inside.2) in
    subst (AreMutatorsOf c.args.space.now) (sym (high_pair old s.result.0.now s.result.1.now c.args.k c.args.i e.new.other e.new.m s.ensures.value s.ensures.front_len lt))
    (each_set Q (set old c.args.k e.new.other) c.args.i e.new.m (each_set Q old c.args.k e.new.other c.requires.of e.ensures.of.0) e.ensures.of.1)

pub returns-else-k-i-clause-met : goal.returns-else-k-i-clause-met
returns-else-k-i-clause-met g c =
    let s = c.split_at_mut-front-else-k-i.ensures in
    let e = c.meet-else-k-i in
    let front = c.split_at_mut-front-else-k-i.result.0.now in
    let back = c.split_at_mut-front-else-k-i.result.1.now in
    let old = c.args.mutators.now in
    let k = c.args.k in
    let i = c.args.i in
    let lt : i < k = let t = c.if-k-i.false in omega (arith, t, c.requires.inside.2) in
    let some : 0 < length back = omega (arith, s.back_len, c.requires.inside.0) in
    pair_met old _ k i (get_or back 0 c.index-back-0-else-k-i.result) (get_or front i c.index-front-i.result) e.new.other e.new.m c.requires.inside.2 c.requires.inside.0 c.requires.inside.1
    (λ d. in_back old front back k d c.index-back-0-else-k-i.result s.value s.front_len some) (λ d. in_front old front back i d c.index-front-i.result s.value (omega (arith, lt, s.front_len)))
    (high_pair old front back k i e.new.other e.new.m s.value s.front_len lt) e.ensures.other e.ensures.m e.ensures.same
