use Rattle.command_line.proofs.Found.{answer_counts, answer_reported, error_reported, found_at, kind_at, none_reported, taken_at, texts_utf8}
use Rattle.command_line.proofs.TopLevel.{standing_program}
use Rattle.command_line.specs.Parser.{standing}
use Rattle.command_line.proofs.words.parsed_task.Goals as goal

pub task_of-requires-clause-taken : goal.task_of-requires-clause-taken
task_of-requires-clause-taken c = taken_at (standing c.says_reachable-reaches.result) (standing_program c.says_reachable-reaches.result) _ _ c.in_ok-command.ensures c.in-Ok.ensures.kinds

pub task_of-requires-clause-found : goal.task_of-requires-clause-found
task_of-requires-clause-found c = found_at (standing c.says_reachable-reaches.result) (standing_program c.says_reachable-reaches.result) _ _ _ c.in_ok-command.ensures c.in-Ok.ensures.matches

pub returns-in-Err-clause-asked : goal.returns-in-Err-clause-asked
returns-in-Err-clause-asked c = answer_reported c.says_reachable-reaches.result _ c.says_reachable-reaches.ensures (texts_utf8 c.args.words.now) c.in-Err.error c.answer_task.result
    (kind_at (standing c.says_reachable-reaches.result) (standing_program c.says_reachable-reaches.result) _ _ c.in-Err.error c.in_ok-command.ensures c.in-Err.ensures.kinds) c.answer_task.ensures.answer c.requires.others

pub returns-in-Err-clause-none : goal.returns-in-Err-clause-none
returns-in-Err-clause-none c = none_reported _ c.says_reachable-reaches.result c.says_reachable-reaches.ensures c.answer_task.result (error_reported c.says_reachable-reaches.result _ c.says_reachable-reaches.ensures (texts_utf8 c.args.words.now) c.in-Err.error c.answer_task.result
    (kind_at (standing c.says_reachable-reaches.result) (standing_program c.says_reachable-reaches.result) _ _ c.in-Err.error c.in_ok-command.ensures c.in-Err.ensures.kinds) c.answer_task.ensures.error)

pub returns-in-Err-clause-counts : goal.returns-in-Err-clause-counts
returns-in-Err-clause-counts c = answer_counts c.in-Err.error c.answer_task.result c.answer_task.ensures.answer
