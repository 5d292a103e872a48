use Rattle.std.proofs.Common.{◌≡◌, ◌+◌, ◌≤◌, ◌++◌, All, map, length, vec_capacity}
use Rattle.comp_access.specs.Hands.{pass_of, IsHandOf}
use Rattle.comp_access.specs.declared.hand.Hand.{Hand}
use Rattle.comp_crew.proofs.flipping.new_hands.Given as goal

abbrev pub invariant-loop-pass : goal.invariant-loop-pass
invariant-loop-pass l = record {
  made : map pass_of l.made.items ++ l.pass-iterator.rest.items ≡ l.fn.passes.items;
  of : All (λ (hand : Hand). IsHandOf l.fn.cells hand) l.made.items;
  room : length l.made.items + length l.pass-iterator.rest.items ≤ vec_capacity l.made;
  all : l.fn.mutators ≤ vec_capacity l.made;
}
