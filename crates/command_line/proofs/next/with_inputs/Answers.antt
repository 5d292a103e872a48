use Rattle.command_line.proofs.next.with_inputs.Goals as goal

pub returns : goal.returns
returns c = λ app is.
    let one = c.with_argument-of_large.ensures _ _ is c.large_switch.ensures.rule c.large_switch.ensures.local in
    let two = c.with_argument-of_switches.ensures _ _ one c.reachable_switch.ensures.rule c.reachable_switch.ensures.local in
    let three = c.with_argument-of_image.ensures _ _ two c.image_argument.ensures.rule c.image_argument.ensures.local in
    c.with_argument.ensures _ _ three c.trace_argument.ensures.rule c.trace_argument.ensures.local
