use Rattle.command_line.proofs.audit.audit_command.Goals as goal

pub returns : goal.returns
returns c =
    let one = c.with_argument-of_large.ensures _ _ c.named_command-audit.ensures c.large_switch.ensures.rule c.large_switch.ensures.local in
    let two = c.with_argument-of_whole.ensures _ _ one c.switch_of-whole.ensures.rule c.switch_of-whole.ensures.local in
    let three = c.with_argument-of_words.ensures _ _ two c.switch_of-words.ensures.rule c.switch_of-words.ensures.local in
    let four = c.with_argument-of_switches.ensures _ _ three c.switch_of-explain.ensures.rule c.switch_of-explain.ensures.local in
    let five = c.with_argument-of_image.ensures _ _ four c.image_argument.ensures.rule c.image_argument.ensures.local in
    c.with_argument.ensures _ _ five c.path_argument.ensures.rule c.path_argument.ensures.local
