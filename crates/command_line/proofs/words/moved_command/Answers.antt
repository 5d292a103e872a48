use Rattle.command_line.proofs.words.moved_command.Goals as goal

pub returns : goal.returns
returns c =
    let one = c.with_argument-of_switch.ensures _ _ c.named_command-moved.ensures c.large_switch.ensures.rule c.large_switch.ensures.local in
    let two = c.with_argument-of_image.ensures _ _ one c.image_argument.ensures.rule c.image_argument.ensures.local in
    c.with_argument.ensures _ _ two c.path_argument.ensures.rule c.path_argument.ensures.local
