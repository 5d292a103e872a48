use Rattle.std.proofs.Common.{◌∙◌, refl}
use Rattle.std.proofs.lemmas.Result.{err_from_is_err_and}
use Rattle.heap_layout.specs.Counted.{failures_of}
use Rattle.comp_dump.specs.DumpEncoding.{eight_bytes, four_bytes}
use Rattle.comp_dump.specs.DumpReading.{word}
use Rattle.comp_dump.proofs.Readings.{counts_on, stops_first, stops_then, spells_times}
use Rattle.comp_dump.proofs.Fields.{words_spell}
use Rattle.moved_heaps.specs.Moved.{Moved}
use Rattle.moved_heaps.specs.MovedReading.{index, moved}
use Rattle.moved_heaps.proofs.FileReading.{indices_spell, moved_read, spells_head, stored_parts}
use Rattle.moved_heaps.proofs.reading.read_parts.Goals as goal

pub returns-in_err-head-clause-cause : goal.returns-in_err-head-clause-cause
unfolding moved
returns-in_err-head-clause-cause g c =
    let p = err_from_is_err_and c.from_residual.result c.from_residual.ensures.1 in
    rw (p.1, p.2)
    (stops_first _ _ _ _ c.in_err-head.ensures.cause)

pub returns-in_err-places-clause-cause : goal.returns-in_err-places-clause-cause
unfolding moved
returns-in_err-places-clause-cause g c =
    let p = err_from_is_err_and c.from_residual-in_err-places.result c.from_residual-in_err-places.ensures.1 in
    rw (p.1, p.2)
    (stops_then _ _ _ _ _ (record { edition = c.in_ok-head.head.edition; places = c.in_ok-head.head.places; roots = c.in_ok-head.head.roots; words = c.in_ok-head.head.words }) _ c.in_ok-head.ensures.read (spells_head c.args.large _ _ _ _ c.in_ok-head.ensures.edition c.in_ok-head.ensures.within)
    (stops_first _ _ _ _ c.in_err-places.ensures.cause))

pub returns-in_err-roots-clause-cause : goal.returns-in_err-roots-clause-cause
unfolding moved
returns-in_err-roots-clause-cause g c =
    let p = err_from_is_err_and c.from_residual-in_err-roots.result c.from_residual-in_err-roots.ensures.1 in
    rw (p.1, p.2)
    (stops_then _ _ _ _ _ (record { edition = c.in_ok-head.head.edition; places = c.in_ok-head.head.places; roots = c.in_ok-head.head.roots; words = c.in_ok-head.head.words }) _ c.in_ok-head.ensures.read (spells_head c.args.large _ _ _ _ c.in_ok-head.ensures.edition c.in_ok-head.ensures.within)
    (stops_then _ _ _ _ _ c.in_ok-places.places.items _ c.in_ok-places.ensures.read (spells_times index four_bytes _ _ c.in_ok-places.ensures.long (indices_spell _ c.in_ok-places.ensures.stored))
    (stops_first _ _ _ _ c.in_err-roots.ensures.cause)))

pub returns-in_err-words-clause-cause : goal.returns-in_err-words-clause-cause
unfolding moved
returns-in_err-words-clause-cause g c =
    let p = err_from_is_err_and c.from_residual-in_err-words.result c.from_residual-in_err-words.ensures.1 in
    rw (p.1, p.2)
    (stops_then _ _ _ _ _ (record { edition = c.in_ok-head.head.edition; places = c.in_ok-head.head.places; roots = c.in_ok-head.head.roots; words = c.in_ok-head.head.words }) _ c.in_ok-head.ensures.read (spells_head c.args.large _ _ _ _ c.in_ok-head.ensures.edition c.in_ok-head.ensures.within)
    (stops_then _ _ _ _ _ c.in_ok-places.places.items _ c.in_ok-places.ensures.read (spells_times index four_bytes _ _ c.in_ok-places.ensures.long (indices_spell _ c.in_ok-places.ensures.stored))
    (stops_then _ _ _ _ _ c.in_ok-roots.roots.items _ c.in_ok-roots.ensures.read (spells_times word eight_bytes _ _ c.in_ok-roots.ensures.long (words_spell _ c.in_ok-roots.ensures.stored))
    (stops_first _ _ _ _ c.in_err-words.ensures.cause))))

pub returns-clause-read : goal.returns-clause-read
returns-clause-read g c =
    let head = c.in_ok-head.head in
    let made : Moved = record { edition = head.edition; places = c.in_ok-places.places.items; roots = c.in_ok-roots.roots.items; words = c.in_ok-words.words.items } in
    rw c.new.ensures
    (moved_read _ _ _ _ _ made head.places head.roots head.words c.in_ok-places.ensures.long c.in_ok-roots.ensures.long c.in_ok-words.ensures.long
    c.in_ok-head.ensures.read c.in_ok-places.ensures.read c.in_ok-roots.ensures.read c.in_ok-words.ensures.read)

pub returns-clause-stored : goal.returns-clause-stored
returns-clause-stored g c =
    let head = c.in_ok-head.head in
    let made : Moved = record { edition = head.edition; places = c.in_ok-places.places.items; roots = c.in_ok-roots.roots.items; words = c.in_ok-words.words.items } in
    rw c.new.ensures
    (stored_parts made head.places head.roots head.words c.in_ok-head.ensures.within c.in_ok-places.ensures.long c.in_ok-places.ensures.stored c.in_ok-roots.ensures.long c.in_ok-roots.ensures.stored
    c.in_ok-words.ensures.long c.in_ok-words.ensures.stored)

pub returns-in_err-head-clause-counts : goal.returns-in_err-head-clause-counts
returns-in_err-head-clause-counts g c =
    counts_on (failures_of c.args.r.now) (failures_of c.args.r.now) (failures_of c.read_head.new.r) c.read_head.result c.from_residual.result c.in_err-head.field-0.0
    c.in_err-head.was c.from_residual.ensures.1 refl c.read_head.ensures.counts

pub returns-in_err-places-clause-counts : goal.returns-in_err-places-clause-counts
returns-in_err-places-clause-counts g c =
    counts_on (failures_of c.args.r.now) (failures_of c.read_head.new.r) (failures_of c.read_places.new.r) c.read_places.result c.from_residual-in_err-places.result c.in_err-places.field-0.0
    c.in_err-places.was c.from_residual-in_err-places.ensures.1 c.in_ok-head.ensures.counts c.read_places.ensures.counts

pub returns-in_err-roots-clause-counts : goal.returns-in_err-roots-clause-counts
returns-in_err-roots-clause-counts g c =
    counts_on (failures_of c.args.r.now) (failures_of c.read_places.new.r) (failures_of c.read_list.new.r) c.read_list.result c.from_residual-in_err-roots.result c.in_err-roots.field-0.0
    c.in_err-roots.was c.from_residual-in_err-roots.ensures.1 (c.in_ok-places.ensures.counts ∙ c.in_ok-head.ensures.counts) c.read_list.ensures.counts

pub returns-in_err-words-clause-counts : goal.returns-in_err-words-clause-counts
returns-in_err-words-clause-counts g c =
    counts_on (failures_of c.args.r.now) (failures_of c.read_list.new.r) (failures_of c.read_list-2.new.r) c.read_list-2.result c.from_residual-in_err-words.result c.in_err-words.field-0.0
    c.in_err-words.was c.from_residual-in_err-words.ensures.1 (c.in_ok-roots.ensures.counts ∙ c.in_ok-places.ensures.counts ∙ c.in_ok-head.ensures.counts) c.read_list-2.ensures.counts

pub returns-clause-counts : goal.returns-clause-counts
returns-clause-counts g c = c.in_ok-words.ensures.counts ∙ c.in_ok-roots.ensures.counts ∙ c.in_ok-places.ensures.counts ∙ c.in_ok-head.ensures.counts
