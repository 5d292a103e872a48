use Rattle.std.proofs.Common.{arith, ◌≡◌, ◌∙◌, Bool, [], codes, ap, Global, List, map, None, ℕ, refl, Some, String}
use Rattle.std.specs.Prelude.{option_map}
use Rattle.std.specs.String.{string_bytes}
use Rattle.clap.specs.Words.{fault_of, found_of, rows_of, subcommand_name_of, subcommand_of, subcommand_rows_of, Row}
use Rattle.clap.specs.declared.parser.matches.ArgMatches.{ArgMatches}
use Rattle.clap.specs.declared.parser.matches.Found.{Found}
use Rattle.command_line.specs.Forms.{Form, audit_form, map_form, moved_form, named, next_form, plan_form, run_form, workers_form, word_form}
use Rattle.command_line.specs.Parser.{program, standing}
use Rattle.command_line.proofs.TopLevel.{IsCommand, standing_audit, standing_collect, standing_compact, standing_map, standing_mark, standing_moved, standing_next, standing_plan, standing_program, standing_race, standing_replay, standing_word}
use Rattle.command_line.proofs.Found.{CommandAsked, argument_reported, argument_there, asked_with, command_asked, entered_as, image_there, index_reported, index_there, none_entered, none_of_standing, run_asked, run_found, same_name, workers_form_asked, workers_form_fits, texts_utf8}
use Rattle.command_line.proofs.AuditFound.{audit_asked, audit_found}
use Rattle.command_line.proofs.MapFound.{map_asked, map_found}
use Rattle.command_line.proofs.NextFound.{next_asked, next_found}
use Rattle.command_line.proofs.RunCounts.{workers_among, workers_number}
use Rattle.command_line.proofs.words.task_of.Goals as goal

-- the command that was entered was asked with what was given
given_to : (r : Bool) (form : Form) → IsCommand (standing r) form → (words : List (String Global)) (m : ArgMatches) (name : List ℕ) (f : Found) → name ≡ form.name
    → fault_of (program (standing r)) (map string_bytes words) ≡ [] → subcommand_rows_of m ≡ subcommand_of (program (standing r)) (map string_bytes words)
    → Some name ≡ subcommand_name_of m → Some (rows_of f) ≡ option_map (λ (p : List ℕ × List Row). p.1) (subcommand_rows_of m) → CommandAsked (map string_bytes words) f form
given_to r form command words m name f is taken found named has =
    let entered = entered_as m (subcommand_of (program (standing r)) (map string_bytes words)) name (rows_of f) found named has in
    command_asked (standing r) (standing_program r) form command (map string_bytes words) f (texts_utf8 words) taken (entered ∙ ap (λ (n : List ℕ). Some (n, rows_of f)) is)

pub text_of-requires : goal.text_of-requires
text_of-requires c =
    let f = found_of c.in-Some.found.now in
    let given = given_to c.args.reaches plan_form (standing_plan c.args.reaches) c.args.words.now _ _ f c.in-plan.is c.requires.taken c.requires.found c.in-Some.ensures.name c.in-Some.ensures.rows in
    image_there _ f _ _ _ _ given

pub returns-in-plan-clause-asked : goal.returns-in-plan-clause-asked
returns-in-plan-clause-asked c =
    let f = found_of c.in-Some.found.now in
    let given = given_to c.args.reaches plan_form (standing_plan c.args.reaches) c.args.words.now _ _ f c.in-plan.is c.requires.taken c.requires.found c.in-Some.ensures.name c.in-Some.ensures.rows in
    asked_with _ f _ _ _ _ given refl _ _ _ c.text_of.ensures c.is_large.ensures tt

pub text_of-requires-in-word : goal.text_of-requires-in-word
text_of-requires-in-word c =
    let f = found_of c.in-Some.found.now in
    let given = given_to c.args.reaches word_form (standing_word c.args.reaches) c.args.words.now _ _ f c.in-word.is c.requires.taken c.requires.found c.in-Some.ensures.name c.in-Some.ensures.rows in
    image_there _ f _ _ _ _ given

pub number_of-requires : goal.number_of-requires
number_of-requires c =
    let f = found_of c.in-Some.found.now in
    let given = given_to c.args.reaches word_form (standing_word c.args.reaches) c.args.words.now _ _ f c.in-word.is c.requires.taken c.requires.found c.in-Some.ensures.name c.in-Some.ensures.rows in
    index_there _ f given

pub returns-in-word-clause-asked : goal.returns-in-word-clause-asked
returns-in-word-clause-asked c =
    let f = found_of c.in-Some.found.now in
    let given = given_to c.args.reaches word_form (standing_word c.args.reaches) c.args.words.now _ _ f c.in-word.is c.requires.taken c.requires.found c.in-Some.ensures.name c.in-Some.ensures.rows in
    asked_with _ f _ _ _ _ given refl _ _ _ c.text_of-in-word.ensures c.is_large-in-word.ensures (index_reported _ f given c.number_of.result c.number_of.ensures)

pub trace_run-requires : goal.trace_run-requires
trace_run-requires c =
    let f = found_of c.in-Some.found.now in
    let given = given_to c.args.reaches (run_form (codes "replay")) (standing_replay c.args.reaches) c.args.words.now _ _ f c.in-replay.is c.requires.taken c.requires.found c.in-Some.ensures.name c.in-Some.ensures.rows in
    run_found _ f (codes "replay") given

pub returns-in-replay-clause-asked : goal.returns-in-replay-clause-asked
returns-in-replay-clause-asked c =
    let f = found_of c.in-Some.found.now in
    let given = given_to c.args.reaches (run_form (codes "replay")) (standing_replay c.args.reaches) c.args.words.now _ _ f c.in-replay.is c.requires.taken c.requires.found c.in-Some.ensures.name c.in-Some.ensures.rows in
    run_asked _ f (codes "replay") given c.trace_run.result c.trace_run.ensures.run

pub returns-in-replay-clause-counts : goal.returns-in-replay-clause-counts
returns-in-replay-clause-counts c = c.trace_run.ensures.counts

pub trace_run-requires-in-race : goal.trace_run-requires-in-race
trace_run-requires-in-race c =
    let f = found_of c.in-Some.found.now in
    let given = given_to c.args.reaches (run_form (codes "race")) (standing_race c.args.reaches) c.args.words.now _ _ f c.in-race.is c.requires.taken c.requires.found c.in-Some.ensures.name c.in-Some.ensures.rows in
    run_found _ f (codes "race") given

pub returns-in-race-clause-asked : goal.returns-in-race-clause-asked
returns-in-race-clause-asked c =
    let f = found_of c.in-Some.found.now in
    let given = given_to c.args.reaches (run_form (codes "race")) (standing_race c.args.reaches) c.args.words.now _ _ f c.in-race.is c.requires.taken c.requires.found c.in-Some.ensures.name c.in-Some.ensures.rows in
    run_asked _ f (codes "race") given c.trace_run-in-race.result c.trace_run-in-race.ensures.run

pub returns-in-race-clause-counts : goal.returns-in-race-clause-counts
returns-in-race-clause-counts c = c.trace_run-in-race.ensures.counts

pub text_of-requires-in-compact : goal.text_of-requires-in-compact
text_of-requires-in-compact c =
    let f = found_of c.in-Some.found.now in
    let given = given_to c.args.reaches (workers_form (codes "compact") (codes "DUMP")) (standing_compact c.args.reaches) c.args.words.now _ _ f c.in-compact.is c.requires.taken c.requires.found c.in-Some.ensures.name c.in-Some.ensures.rows in
    image_there _ f _ _ _ _ given

pub text_of-requires-in-compact-2 : goal.text_of-requires-in-compact-2
text_of-requires-in-compact-2 c =
    let f = found_of c.in-Some.found.now in
    let given = given_to c.args.reaches (workers_form (codes "compact") (codes "DUMP")) (standing_compact c.args.reaches) c.args.words.now _ _ f c.in-compact.is c.requires.taken c.requires.found c.in-Some.ensures.name c.in-Some.ensures.rows in
    argument_there _ f _ given (named (codes "DUMP")) refl

pub count_of-requires : goal.count_of-requires
count_of-requires c =
    let f = found_of c.in-Some.found.now in
    let given = given_to c.args.reaches (workers_form (codes "compact") (codes "DUMP")) (standing_compact c.args.reaches) c.args.words.now _ _ f c.in-compact.is c.requires.taken c.requires.found c.in-Some.ensures.name c.in-Some.ensures.rows in
    workers_number f (workers_form_fits _ f (codes "compact") (codes "DUMP") given)

pub overflow_cast-result : goal.overflow_cast-result
overflow_cast-result c =
    let f = found_of c.in-Some.found.now in
    let given = given_to c.args.reaches (workers_form (codes "compact") (codes "DUMP")) (standing_compact c.args.reaches) c.args.words.now _ _ f c.in-compact.is c.requires.taken c.requires.found c.in-Some.ensures.name c.in-Some.ensures.rows in
    omega (arith, (workers_among f (workers_form_fits _ f (codes "compact") (codes "DUMP") given) c.count_of.result c.count_of.ensures).1)

pub returns-in-compact-clause-asked : goal.returns-in-compact-clause-asked
returns-in-compact-clause-asked c =
    let f = found_of c.in-Some.found.now in
    let given = given_to c.args.reaches (workers_form (codes "compact") (codes "DUMP")) (standing_compact c.args.reaches) c.args.words.now _ _ f c.in-compact.is c.requires.taken c.requires.found c.in-Some.ensures.name c.in-Some.ensures.rows in
    workers_form_asked _ f (codes "compact") (codes "DUMP") given refl _ _ _ _ c.text_of-in-compact.ensures c.text_of-in-compact-2.ensures c.count_of.ensures c.is_large-in-compact.ensures

pub returns-in-compact-clause-counts : goal.returns-in-compact-clause-counts
returns-in-compact-clause-counts c =
    let f = found_of c.in-Some.found.now in
    let given = given_to c.args.reaches (workers_form (codes "compact") (codes "DUMP")) (standing_compact c.args.reaches) c.args.words.now _ _ f c.in-compact.is c.requires.taken c.requires.found c.in-Some.ensures.name c.in-Some.ensures.rows in
    workers_among f (workers_form_fits _ f (codes "compact") (codes "DUMP") given) c.count_of.result c.count_of.ensures

pub audit_run-requires : goal.audit_run-requires
audit_run-requires c =
    let f = found_of c.in-Some.found.now in
    let given = given_to c.args.reaches audit_form (standing_audit c.args.reaches) c.args.words.now _ _ f c.in-audit.is c.requires.taken c.requires.found c.in-Some.ensures.name c.in-Some.ensures.rows in
    audit_found _ f given

pub returns-in-audit-clause-asked : goal.returns-in-audit-clause-asked
returns-in-audit-clause-asked c =
    let f = found_of c.in-Some.found.now in
    let given = given_to c.args.reaches audit_form (standing_audit c.args.reaches) c.args.words.now _ _ f c.in-audit.is c.requires.taken c.requires.found c.in-Some.ensures.name c.in-Some.ensures.rows in
    audit_asked _ f given c.audit_run.result c.audit_run.ensures

pub next_run-requires : goal.next_run-requires
next_run-requires c =
    let f = found_of c.in-Some.found.now in
    let given = given_to c.args.reaches (next_form c.args.reaches) (standing_next c.args.reaches) c.args.words.now _ _ f c.in-next.is c.requires.taken c.requires.found c.in-Some.ensures.name c.in-Some.ensures.rows in
    next_found c.args.reaches _ c.requires.reaches f given

pub returns-in-next-clause-asked : goal.returns-in-next-clause-asked
returns-in-next-clause-asked c =
    let f = found_of c.in-Some.found.now in
    let given = given_to c.args.reaches (next_form c.args.reaches) (standing_next c.args.reaches) c.args.words.now _ _ f c.in-next.is c.requires.taken c.requires.found c.in-Some.ensures.name c.in-Some.ensures.rows in
    next_asked c.args.reaches _ c.requires.reaches f given c.next_run.result c.next_run.ensures.run

pub returns-in-next-clause-counts : goal.returns-in-next-clause-counts
returns-in-next-clause-counts c = c.next_run.ensures.counts

pub text_of-requires-in-mark : goal.text_of-requires-in-mark
text_of-requires-in-mark c =
    let f = found_of c.in-Some.found.now in
    let given = given_to c.args.reaches (workers_form (codes "mark") (codes "NEW")) (standing_mark c.args.reaches) c.args.words.now _ _ f c.in-mark.is c.requires.taken c.requires.found c.in-Some.ensures.name c.in-Some.ensures.rows in
    image_there _ f _ _ _ _ given

pub text_of-marked-requires : goal.text_of-marked-requires
text_of-marked-requires c =
    let f = found_of c.in-Some.found.now in
    let given = given_to c.args.reaches (workers_form (codes "mark") (codes "NEW")) (standing_mark c.args.reaches) c.args.words.now _ _ f c.in-mark.is c.requires.taken c.requires.found c.in-Some.ensures.name c.in-Some.ensures.rows in
    argument_there _ f _ given (named (codes "NEW")) refl

pub count_of-markers-requires : goal.count_of-markers-requires
count_of-markers-requires c =
    let f = found_of c.in-Some.found.now in
    let given = given_to c.args.reaches (workers_form (codes "mark") (codes "NEW")) (standing_mark c.args.reaches) c.args.words.now _ _ f c.in-mark.is c.requires.taken c.requires.found c.in-Some.ensures.name c.in-Some.ensures.rows in
    workers_number f (workers_form_fits _ f (codes "mark") (codes "NEW") given)

pub overflow_cast-markers : goal.overflow_cast-markers
overflow_cast-markers c =
    let f = found_of c.in-Some.found.now in
    let given = given_to c.args.reaches (workers_form (codes "mark") (codes "NEW")) (standing_mark c.args.reaches) c.args.words.now _ _ f c.in-mark.is c.requires.taken c.requires.found c.in-Some.ensures.name c.in-Some.ensures.rows in
    omega (arith, (workers_among f (workers_form_fits _ f (codes "mark") (codes "NEW") given) c.count_of-markers.result c.count_of-markers.ensures).1)

pub returns-in-mark-clause-asked : goal.returns-in-mark-clause-asked
returns-in-mark-clause-asked c =
    let f = found_of c.in-Some.found.now in
    let given = given_to c.args.reaches (workers_form (codes "mark") (codes "NEW")) (standing_mark c.args.reaches) c.args.words.now _ _ f c.in-mark.is c.requires.taken c.requires.found c.in-Some.ensures.name c.in-Some.ensures.rows in
    workers_form_asked _ f (codes "mark") (codes "NEW") given refl _ _ _ _ c.text_of-in-mark.ensures c.text_of-marked.ensures c.count_of-markers.ensures c.is_large-in-mark.ensures

pub returns-in-mark-clause-counts : goal.returns-in-mark-clause-counts
returns-in-mark-clause-counts c =
    let f = found_of c.in-Some.found.now in
    let given = given_to c.args.reaches (workers_form (codes "mark") (codes "NEW")) (standing_mark c.args.reaches) c.args.words.now _ _ f c.in-mark.is c.requires.taken c.requires.found c.in-Some.ensures.name c.in-Some.ensures.rows in
    workers_among f (workers_form_fits _ f (codes "mark") (codes "NEW") given) c.count_of-markers.result c.count_of-markers.ensures

pub text_of-requires-in-collect : goal.text_of-requires-in-collect
text_of-requires-in-collect c =
    let f = found_of c.in-Some.found.now in
    let given = given_to c.args.reaches (workers_form (codes "collect") (codes "NEW")) (standing_collect c.args.reaches) c.args.words.now _ _ f c.in-collect.is c.requires.taken c.requires.found c.in-Some.ensures.name c.in-Some.ensures.rows in
    image_there _ f _ _ _ _ given

pub text_of-new-requires : goal.text_of-new-requires
text_of-new-requires c =
    let f = found_of c.in-Some.found.now in
    let given = given_to c.args.reaches (workers_form (codes "collect") (codes "NEW")) (standing_collect c.args.reaches) c.args.words.now _ _ f c.in-collect.is c.requires.taken c.requires.found c.in-Some.ensures.name c.in-Some.ensures.rows in
    argument_there _ f _ given (named (codes "NEW")) refl

pub count_of-workers-requires : goal.count_of-workers-requires
count_of-workers-requires c =
    let f = found_of c.in-Some.found.now in
    let given = given_to c.args.reaches (workers_form (codes "collect") (codes "NEW")) (standing_collect c.args.reaches) c.args.words.now _ _ f c.in-collect.is c.requires.taken c.requires.found c.in-Some.ensures.name c.in-Some.ensures.rows in
    workers_number f (workers_form_fits _ f (codes "collect") (codes "NEW") given)

pub overflow_cast-workers : goal.overflow_cast-workers
overflow_cast-workers c =
    let f = found_of c.in-Some.found.now in
    let given = given_to c.args.reaches (workers_form (codes "collect") (codes "NEW")) (standing_collect c.args.reaches) c.args.words.now _ _ f c.in-collect.is c.requires.taken c.requires.found c.in-Some.ensures.name c.in-Some.ensures.rows in
    omega (arith, (workers_among f (workers_form_fits _ f (codes "collect") (codes "NEW") given) c.count_of-workers.result c.count_of-workers.ensures).1)

pub returns-in-collect-clause-asked : goal.returns-in-collect-clause-asked
returns-in-collect-clause-asked c =
    let f = found_of c.in-Some.found.now in
    let given = given_to c.args.reaches (workers_form (codes "collect") (codes "NEW")) (standing_collect c.args.reaches) c.args.words.now _ _ f c.in-collect.is c.requires.taken c.requires.found c.in-Some.ensures.name c.in-Some.ensures.rows in
    workers_form_asked _ f (codes "collect") (codes "NEW") given refl _ _ _ _ c.text_of-in-collect.ensures c.text_of-new.ensures c.count_of-workers.ensures c.is_large-in-collect.ensures

pub returns-in-collect-clause-counts : goal.returns-in-collect-clause-counts
returns-in-collect-clause-counts c =
    let f = found_of c.in-Some.found.now in
    let given = given_to c.args.reaches (workers_form (codes "collect") (codes "NEW")) (standing_collect c.args.reaches) c.args.words.now _ _ f c.in-collect.is c.requires.taken c.requires.found c.in-Some.ensures.name c.in-Some.ensures.rows in
    workers_among f (workers_form_fits _ f (codes "collect") (codes "NEW") given) c.count_of-workers.result c.count_of-workers.ensures

pub text_of-requires-in-moved : goal.text_of-requires-in-moved
text_of-requires-in-moved c =
    let f = found_of c.in-Some.found.now in
    let given = given_to c.args.reaches moved_form (standing_moved c.args.reaches) c.args.words.now _ _ f c.in-moved.is c.requires.taken c.requires.found c.in-Some.ensures.name c.in-Some.ensures.rows in
    image_there _ f _ _ _ _ given

pub text_of-requires-in-moved-2 : goal.text_of-requires-in-moved-2
text_of-requires-in-moved-2 c =
    let f = found_of c.in-Some.found.now in
    let given = given_to c.args.reaches moved_form (standing_moved c.args.reaches) c.args.words.now _ _ f c.in-moved.is c.requires.taken c.requires.found c.in-Some.ensures.name c.in-Some.ensures.rows in
    argument_there _ f _ given (named (codes "MOVED")) refl

pub returns-in-moved-clause-asked : goal.returns-in-moved-clause-asked
returns-in-moved-clause-asked c =
    let f = found_of c.in-Some.found.now in
    let given = given_to c.args.reaches moved_form (standing_moved c.args.reaches) c.args.words.now _ _ f c.in-moved.is c.requires.taken c.requires.found c.in-Some.ensures.name c.in-Some.ensures.rows in
    asked_with _ f _ _ _ _ given refl _ _ _ c.text_of-in-moved.ensures c.is_large-in-moved.ensures
    (argument_reported _ f _ given (named (codes "MOVED")) refl _ c.text_of-in-moved-2.ensures)

pub map_run-requires : goal.map_run-requires
map_run-requires c =
    let f = found_of c.in-Some.found.now in
    let given = given_to c.args.reaches map_form (standing_map c.args.reaches) c.args.words.now _ _ f c.in-map.is c.requires.taken c.requires.found c.in-Some.ensures.name c.in-Some.ensures.rows in
    map_found _ f given

pub returns-in-map-clause-asked : goal.returns-in-map-clause-asked
returns-in-map-clause-asked c =
    let f = found_of c.in-Some.found.now in
    let given = given_to c.args.reaches map_form (standing_map c.args.reaches) c.args.words.now _ _ f c.in-map.is c.requires.taken c.requires.found c.in-Some.ensures.name c.in-Some.ensures.rows in
    map_asked _ f given c.map_run.result c.map_run.ensures

-- no command was entered, which cannot be
pub unreachable-requires : goal.unreachable-requires
unreachable-requires c =
    let words = map string_bytes c.args.words.now in
    let found = none_entered c.args.matches.now (subcommand_of (program (standing c.args.reaches)) words) c.requires.found c.in_default.ensures.name in
    none_of_standing c.args.reaches words None (texts_utf8 c.args.words.now) c.requires.taken found
    (λ rows e. cc, (λ rows e. cc, (λ rows e. cc, (λ rows e. cc, (λ rows e. cc, (λ rows e. cc, (λ rows e. cc, (λ rows e. cc, (λ rows e. cc, (λ rows e. cc, (λ rows e. cc, tt)))))))))))

-- or one by another name
pub unreachable-requires-in_default-name : goal.unreachable-requires-in_default-name
unreachable-requires-in_default-name c =
    let words = map string_bytes c.args.words.now in
    let name = c.in-Some.name.now in
    let mine = rows_of (found_of c.in-Some.found.now) in
    let found = entered_as c.args.matches.now (subcommand_of (program (standing c.args.reaches)) words) name mine c.requires.found c.in-Some.ensures.name c.in-Some.ensures.rows in
    let other = c.in_default-name in
    let same : (id : List ℕ) (rows : List Row) → Some (name, mine) ≡ Some (id, rows) → name ≡ id = λ id rows e. same_name _ name id mine rows refl e in
    none_of_standing c.args.reaches words (Some (name, mine)) (texts_utf8 c.args.words.now) c.requires.taken found
    (λ rows e. other.not-plan (same _ rows e), (λ rows e. other.not-word (same _ rows e), (λ rows e. other.not-replay (same _ rows e), (λ rows e. other.not-race (same _ rows e), (λ rows e. other.not-compact (same _ rows e), (λ rows e. other.not-audit (same _ rows e), (λ rows e. other.not-next (same _ rows e), (λ rows e. other.not-mark (same _ rows e), (λ rows e. other.not-collect (same _ rows e), (λ rows e. other.not-moved (same _ rows e), (λ rows e. other.not-map (same _ rows e), tt)))))))))))
