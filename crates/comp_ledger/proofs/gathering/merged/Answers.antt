use Rattle.std.proofs.Common.{◌≡◌, ◌+◌, [], ◌∷◌, ◌++◌, length, ap, ◌∙◌, arith, rules}
use Rattle.std.proofs.lemmas.List.{length_push}
use Rattle.std.proofs.lemmas.List.Sums.{sum_by_push}
use Rattle.comp_ledger.specs.Shares.{posted_of, total_posted}
use Rattle.comp_ledger.proofs.Numbers.{all_parts}
use Rattle.comp_ledger.proofs.gathering.merged.Goals as goal

pub returns-clause-whole : goal.returns-clause-whole
returns-clause-whole g c =
    let none : length c.loop-share.shares.items ≡ 0 = search rules in
    let are : c.loop-share.all.parts ≡ length c.args.shares.items = omega (arith, none, c.loop-share.invariant.parts) in
    all_parts c.loop-share.all.parts g.L.Ledger.parts c.args.shares.items c.requires.all c.requires.some are c.loop-share.invariant.few

pub loop-share-preserved : goal.loop-share-preserved
loop-share-preserved g c =
    let rest = c.pop-in-loop-share.new.self.items in
    let share = c.in-Some.share in
    let popped : c.loop-share.shares.items ≡ rest ++ share ∷ [] = c.in-Some.ensures.items in
    let long : length c.loop-share.shares.items ≡ length rest + 1 = ap length popped ∙ length_push rest share in
    let posted : total_posted c.loop-share.shares.items ≡ total_posted rest + posted_of share = ap total_posted popped ∙ sum_by_push posted_of rest share in
    record {
      parts = omega arith;
      amount = omega arith;
      some = omega arith;
      few = λ _. omega arith;
    }

pub loop-share-init : goal.loop-share-init
loop-share-init g c =
    let rest = c.pop.new.self.items in
    let share = c.unwrap-all.result in
    let popped : c.args.shares.items ≡ rest ++ share ∷ [] = rw c.unwrap-all.ensures at c.pop.ensures.items in
    let long : length c.args.shares.items ≡ length rest + 1 = ap length popped ∙ length_push rest share in
    let posted : total_posted c.args.shares.items ≡ total_posted rest + posted_of share = ap total_posted popped ∙ sum_by_push posted_of rest share in
    record {
      parts = omega arith;
      amount = omega arith;
      some = omega arith;
      few = λ many. absurd (omega arith);
    }
