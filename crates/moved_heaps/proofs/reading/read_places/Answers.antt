use Rattle.std.proofs.Common.{ℕ, ◌<◌, ◌^◌, refl, ◌∙◌, arith}
use Rattle.std.proofs.lemmas.Result.{err_from_is_err_and}
use Rattle.heap_layout.specs.Counted.{inner_of, failures_of}
use Rattle.comp_dump.specs.DumpEncoding.{four_bytes}
use Rattle.comp_dump.proofs.Readings.{counts_memory, counts_on, have_read_none, have_read_one, stops_in}
use Rattle.moved_heaps.specs.MovedReading.{index}
use Rattle.moved_heaps.proofs.FileReading.{indices_spell}
use Rattle.moved_heaps.proofs.reading.read_places.Goals as goal

pub returns-in_err-place-clause-cause : goal.returns-in_err-place-clause-cause
returns-in_err-place-clause-cause g c =
    let p = err_from_is_err_and c.from_residual.result c.from_residual.ensures.1 in
    let i = c.loop.invariant in
    rw (p.1, p.2) (stops_in index four_bytes c.args.count c.loop.places.items _ _ _ (omega arith) i.read (indices_spell c.loop.places.items i.stored) c.in_err-place.ensures.cause)

pub loop-init : goal.loop-init
loop-init g c =
    let none = have_read_none four_bytes (λ (n : ℕ). n < 2 ^ 32) (g.R.Read.remaining (inner_of c.args.r.now)) c.new-places.result.items c.new-places.ensures.items in
    record { read = none.read; long = none.long; stored = none.stored; none_failed = refl }

pub loop-preserved : goal.loop-preserved
loop-preserved g c =
    let i = c.loop.invariant in
    let more = have_read_one four_bytes (λ (n : ℕ). n < 2 ^ 32) _ _ _ c.loop.places.items c.push.new.self.items c.in_ok-place.place c.loop.counter c.in_ok-push.ensures.items
    i.read i.long i.stored c.in_ok-place.ensures.read (omega (arith, c.in_ok-place.ensures.within)) in
    record { read = more.read; long = more.long; stored = more.stored; none_failed = c.in_ok-place.ensures.counts ∙ i.none_failed }

pub returns-in_err-place-clause-counts : goal.returns-in_err-place-clause-counts
returns-in_err-place-clause-counts g c =
    counts_on (failures_of c.args.r.now) (failures_of c.loop.r) (failures_of c.read_four.new.r) c.read_four.result c.from_residual.result c.in_err-place.field-0.0
    c.in_err-place.was c.from_residual.ensures.1 c.loop.invariant.none_failed c.read_four.ensures.counts

pub returns-in_err-push-clause-counts : goal.returns-in_err-push-clause-counts
returns-in_err-push-clause-counts g c =
    counts_memory (failures_of c.args.r.now) (failures_of c.read_four.new.r) c.from_residual-in_err-push.result c.from_residual-in_err-push.ensures.1
    (c.in_ok-place.ensures.counts ∙ c.loop.invariant.none_failed)
