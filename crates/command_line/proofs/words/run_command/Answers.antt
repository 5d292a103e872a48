use Rattle.command_line.proofs.words.run_command.Goals as goal

pub returns : goal.returns
returns c =
    let one = c.with_argument-of_mutators.ensures _ _ c.named_command-run.ensures c.mutators_option.ensures.rule c.mutators_option.ensures.local in
    let two = c.with_argument-of_counts.ensures _ _ one c.fresh_option.ensures.rule c.fresh_option.ensures.local in
    let three = c.with_argument-of_switch.ensures _ _ two c.large_switch.ensures.rule c.large_switch.ensures.local in
    let four = c.with_argument-of_image.ensures _ _ three c.image_argument.ensures.rule c.image_argument.ensures.local in
    let five = c.with_argument-of_trace.ensures _ _ four c.trace_argument.ensures.rule c.trace_argument.ensures.local in
    c.with_argument.ensures _ _ five c.dump_argument.ensures.rule c.dump_argument.ensures.local
