use Rattle.std.proofs.Common.{◌≡◌, ℕ, ◌+◌, ◌<◌, List, ◌∷◌, Ok, length, get_or, fold, map, drop, All, sym, ap, subst, ◌∙◌, arith, rules, refl}
use Rattle.std.proofs.lemmas.List.{drop_more, take_all}
use Rattle.std.proofs.lemmas.List.Elements.{All-more}
use Rattle.heap_layout.specs.Bits.{bit}
use Rattle.heap_layout.specs.Heap.{from_address}
use Rattle.reachability.specs.Queue.{after_word, after_part, IsFound}
use Rattle.reachability.proofs.found.meet_parts.Goals as goal

pub loop-part-preserved : goal.loop-part-preserved
loop-part-preserved c =
    let row = bit c.args.starts.now in
    let parts = c.args.parts.now in
    let k = c.loop-part.part-index in
    let part = Ok c.in-Ok.found in
    let within : k < length parts = omega arith in
    let item : get_or parts k part ≡ part = search rules in
    let old = c.loop-part.queue.items in
    let rest = drop (k + 1) parts in
    let made = c.in_ok-meet_found-in-Ok.ensures.queue ∙ ap (λ (xs : List ℕ). fold (after_word row) old (map from_address xs)) c.deref.ensures.value in
    record {
      queue = ap (λ (q : List ℕ). fold (after_part row) q rest) made
          ∙ sym (ap (fold (after_part row) old) (drop_more parts k part within ∙ ap (λ p. p ∷ rest) item)) ∙ c.loop-part.invariant.queue;
      found = All-more IsFound parts k part within c.loop-part.invariant.found (rw item refl);
      unmet = c.in_ok-meet_found-in-Ok.ensures.unmet;
    }

pub returns-clause-found : goal.returns-clause-found
returns-clause-found c = subst (All IsFound) (take_all c.loop-part.part-index c.args.parts.now (omega arith)) c.loop-part.invariant.found
