use Rattle.pinned_heap.proofs.parts.+fn-slide_parts-join_mut+arg2+fn-slide_parts-join_mut+arg3+slide_parts.Given as goal

abbrev pub decreases-join_mut+arg2 : goal.decreases-join_mut+arg2
decreases-join_mut+arg2 g l = l.share

abbrev pub decreases-join_mut+arg3 : goal.decreases-join_mut+arg3
decreases-join_mut+arg3 g l = l.rest

abbrev pub decreases-slide_parts : goal.decreases-slide_parts
decreases-slide_parts g l = l.threads
