use Rattle.command_line.proofs.mapping.map_command.Goals as goal

pub returns : goal.returns
returns c =
    let one = c.with_argument-of_dump.ensures _ _ c.named_command-map.ensures c.dump_option.ensures.rule c.dump_option.ensures.local in
    let two = c.with_argument-of_switch.ensures _ _ one c.large_switch.ensures.rule c.large_switch.ensures.local in
    let three = c.with_argument-of_image.ensures _ _ two c.image_argument.ensures.rule c.image_argument.ensures.local in
    c.with_argument.ensures _ _ three c.path_argument.ensures.rule c.path_argument.ensures.local
