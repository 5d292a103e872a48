use Rattle.command_line.proofs.words.mark_command.Goals as goal

pub returns : goal.returns
returns c =
    let one = c.with_argument-of_workers.ensures _ _ c.named_command-mark.ensures c.workers_option.ensures.rule c.workers_option.ensures.local in
    let two = c.with_argument-of_switch.ensures _ _ one c.large_switch.ensures.rule c.large_switch.ensures.local in
    let three = c.with_argument-of_image.ensures _ _ two c.image_argument.ensures.rule c.image_argument.ensures.local in
    c.with_argument.ensures _ _ three c.new_argument.ensures.rule c.new_argument.ensures.local
