use Rattle.std.proofs.Common.{codes, refl}
use Rattle.command_line.specs.Forms.{audit_form, map_form, moved_form, next_form, plan_form, run_form, workers_form, word_form}
use Rattle.command_line.specs.Parser.{command}
use Rattle.command_line.proofs.words.command.Goals as goal

pub returns : goal.returns
returns c =
    let one = c.with_command-planning.ensures _ (command plan_form) c.bare_command.ensures c.plan_command.ensures refl in
    let two = c.with_command-reading.ensures _ (command word_form) one c.word_command.ensures refl in
    let three = c.with_command-replaying.ensures _ (command (run_form (codes "replay"))) two c.replay_command.ensures refl in
    let four = c.with_command-racing.ensures _ (command (run_form (codes "race"))) three c.race_command.ensures refl in
    let five = c.with_command-compacting.ensures _ (command (workers_form (codes "compact") (codes "DUMP"))) four c.compact_command.ensures refl in
    let six = c.with_command-auditing.ensures _ (command audit_form) five c.audit_command.ensures refl in
    let seven = c.with_command-running.ensures _ (command (next_form c.args.reaches)) six c.next_command.ensures refl in
    let eight = c.with_command-marking.ensures _ (command (workers_form (codes "mark") (codes "NEW"))) seven c.mark_command.ensures refl in
    let nine = c.with_command-collecting.ensures _ (command (workers_form (codes "collect") (codes "NEW"))) eight c.collect_command.ensures refl in
    let ten = c.with_command-judging.ensures _ (command moved_form) nine c.moved_command.ensures refl in
    c.with_command.ensures _ (command map_form) ten c.map_command.ensures refl
