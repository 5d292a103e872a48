use Rattle.std.proofs.Common.{◌++◌, length}
use Rattle.std.specs.List.{flat_map}
use Rattle.std.proofs.KnownBytes.{Appends-trans}
use Rattle.std.proofs.lemmas.Result.{err_from_is_err_and}
use Rattle.heap_layout.specs.Encoding.{eight_bytes, four_bytes, head}
use Rattle.heap_layout.proofs.Writings.{some_first, some_then, writes_then}
use Rattle.heap_layout.proofs.writing.write_heap.Goals as goal

pub returns-in_err-write_head-clause-writes : goal.returns-in_err-write_head-clause-writes
returns-in_err-write_head-clause-writes g c =
    let front = head c.args.edition (length c.args.words.now) (length c.args.marks.now) (length c.args.roots.now) in
    let words = flat_map eight_bytes c.args.words.now in
    let marks = flat_map four_bytes c.args.marks.now in
    let p = err_from_is_err_and c.from_residual.result c.from_residual.ensures.1 in
    rw p.1
    (some_first _ _ (front ++ words ++ marks) (flat_map eight_bytes c.args.roots.now)
    (some_first _ _ (front ++ words) marks (some_first _ _ front words c.in_err-write_head.ensures.writes)))

pub returns-in_err-write_words-clause-writes : goal.returns-in_err-write_words-clause-writes
returns-in_err-write_words-clause-writes g c =
    let front = head c.args.edition (length c.args.words.now) (length c.args.marks.now) (length c.args.roots.now) in
    let words = flat_map eight_bytes c.args.words.now in
    let marks = flat_map four_bytes c.args.marks.now in
    let p = err_from_is_err_and c.from_residual-in_err-write_words.result c.from_residual-in_err-write_words.ensures.1 in
    rw p.1
    (some_first _ _ (front ++ words ++ marks) (flat_map eight_bytes c.args.roots.now)
    (some_first _ _ (front ++ words) marks (some_then _ _ _ front words c.in_ok-write_head.ensures.writes c.in_err-write_words.ensures.writes)))

pub returns-in_err-write_numbers-clause-writes : goal.returns-in_err-write_numbers-clause-writes
returns-in_err-write_numbers-clause-writes g c =
    let front = head c.args.edition (length c.args.words.now) (length c.args.marks.now) (length c.args.roots.now) in
    let words = flat_map eight_bytes c.args.words.now in
    let marks = flat_map four_bytes c.args.marks.now in
    let p = err_from_is_err_and c.from_residual-in_err-write_numbers.result c.from_residual-in_err-write_numbers.ensures.1 in
    rw p.1
    (some_first _ _ (front ++ words ++ marks) (flat_map eight_bytes c.args.roots.now)
    (some_then _ _ _ (front ++ words) marks (Appends-trans _ _ _ front words c.in_ok-write_head.ensures.writes c.in_ok-write_words.ensures.writes) c.in_err-write_numbers.ensures.writes))

pub returns-clause-writes : goal.returns-clause-writes
returns-clause-writes g c =
    let front = head c.args.edition (length c.args.words.now) (length c.args.marks.now) (length c.args.roots.now) in
    let words = flat_map eight_bytes c.args.words.now in
    let marks = flat_map four_bytes c.args.marks.now in
    let two = Appends-trans _ _ _ front words c.in_ok-write_head.ensures.writes c.in_ok-write_words.ensures.writes in
    writes_then _ _ _ (front ++ words ++ marks) (flat_map eight_bytes c.args.roots.now) _
    (Appends-trans _ _ _ (front ++ words) marks two c.in_ok-write_numbers.ensures.writes) c.write_words-2.ensures.writes
