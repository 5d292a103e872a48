use Rattle.std.proofs.Common.{◌≡◌, ◌*◌, ◌++◌, true, false, List, [], ◌∷◌, length, refl, sym, ap, ◌∙◌, arith}
use Rattle.heap_layout.specs.Bits.{bit}
use Rattle.pinned_heap.specs.Listing.{runs_below}
use Rattle.pinned_heap.specs.declared.run.Run.{Run}
use Rattle.pinned_heap.proofs.Listed.{runs-up, runs-some, runs-none}
use Rattle.pinned_heap.proofs.listing.list_runs.Goals as goal
use Rattle.pinned_heap.proofs.listing.list_runs.Goals.{then-start-end+in_ok-push, else-start-end}

pub returns-then-end-limit : goal.returns-then-end-limit
returns-then-end-limit c =
    let limit = 64 * length c.args.stays.now in
    c.loop-next.invariant.listed
    ∙ sym (runs-up (bit c.args.bits.now) (bit c.args.stays.now) c.loop-next.next limit c.loop-next.invariant.within
    (λ j from lt. c.next_set-end.ensures.none j from (omega (arith, lt, c.if-end-limit.true))))

pub end_at-start-requires-clause-known : goal.end_at-start-requires-clause-known
end_at-start-requires-clause-known c = omega (arith, c.if-end-limit.false, c.requires.bases.same)

pub overflow_add-next : goal.overflow_add-next
overflow_add-next c = omega (arith, c.if-end-limit.false, c.requires.bases.same, c.requires.bases.few)

pub loop-next-preserved : goal.loop-next-preserved
loop-next-preserved c =
    let live = bit c.args.bits.now in
    let stay = bit c.args.stays.now in
    let end = c.next_set-end.result in
    let here : stay end ≡ true = c.next_set-end.ensures.here c.if-end-limit.false in
    let up : runs_below live stay end ≡ runs_below live stay c.loop-next.next = runs-up live stay c.loop-next.next end c.next_set-end.ensures.from c.next_set-end.ensures.none in
    let before : c.loop-next.runs.items ≡ runs_below live stay end = c.loop-next.invariant.listed ∙ sym up in
    elim c.if-start-end.branch [
      | then-start-end+in_ok-push w ↦
          let run : Run = record { start = c.end_at-start.result; end = end } in
          let more = runs-some live stay end c.end_at-start.result here c.end_at-start.ensures.end w.if-start-end.true in
          rw w.runs-is (record {
            listed = rw w.in_ok-push.ensures.items (ap (λ (xs : List Run). xs ++ run ∷ []) before ∙ sym more);
            limit = refl;
            within = omega (arith, c.if-end-limit.false);
          })
      | else-start-end w ↦
          let all = runs-none live stay end here (omega (arith, c.end_at-start.ensures.end, c.end_at-start.ensures.few, w.if-start-end.false)) in
          rw w.runs-is (record {
            listed = before ∙ sym all;
            limit = refl;
            within = omega (arith, c.if-end-limit.false);
          })
    ]
