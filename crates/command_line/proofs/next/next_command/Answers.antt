use Rattle.command_line.proofs.next.next_command.Goals as goal

pub returns-then-reaches : goal.returns-then-reaches
returns-then-reaches c =
    let one = c.with_argument-of_mutators.ensures _ _ c.bare_next.ensures c.mutators_option.ensures.rule c.mutators_option.ensures.local in
    let two = c.with_argument-of_counts.ensures _ _ one c.fresh_option.ensures.rule c.fresh_option.ensures.local in
    let three = c.with_argument-of_roots.ensures _ _ two c.roots_option.ensures.rule c.roots_option.ensures.local in
    let four = c.with_argument-of_workers.ensures _ _ three c.workers_option.ensures.rule c.workers_option.ensures.local in
    let five = c.with_inputs-of_inputs.ensures _ four in
    rw c.if-reaches.true (c.with_argument.ensures _ _ five c.new_argument.ensures.rule c.new_argument.ensures.local)

pub returns-else-reaches : goal.returns-else-reaches
returns-else-reaches c =
    let one = c.with_argument-of_mutators.ensures _ _ c.bare_next.ensures c.mutators_option.ensures.rule c.mutators_option.ensures.local in
    let two = c.with_argument-of_counts.ensures _ _ one c.fresh_option.ensures.rule c.fresh_option.ensures.local in
    let three = c.with_inputs-of_inputs-else-reaches.ensures _ two in
    let four = c.with_argument-of_marks.ensures _ _ three c.path_argument.ensures.rule c.path_argument.ensures.local in
    rw c.if-reaches.false (c.with_argument-else-reaches.ensures _ _ four c.new_argument-else-reaches.ensures.rule c.new_argument-else-reaches.ensures.local)
