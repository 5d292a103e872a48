use Rattle.std.proofs.Common.{ℕ, ◌<◌, ◌^◌, refl, ◌∙◌, arith}
use Rattle.std.proofs.lemmas.Result.{err_from_is_err_and}
use Rattle.heap_layout.specs.Counted.{inner_of, failures_of}
use Rattle.comp_dump.specs.DumpEncoding.{eight_bytes}
use Rattle.comp_dump.specs.DumpReading.{word}
use Rattle.comp_dump.proofs.Readings.{counts_memory, counts_on, have_read_none, have_read_one, stops_in}
use Rattle.comp_dump.proofs.Fields.{words_spell}
use Rattle.comp_dump.proofs.reading.read_list.Goals as goal

pub returns-in_err-number-clause-cause : goal.returns-in_err-number-clause-cause
returns-in_err-number-clause-cause g c =
    let p = err_from_is_err_and c.from_residual.result c.from_residual.ensures.1 in
    let i = c.loop.invariant in
    rw (p.1, p.2) (stops_in (word) eight_bytes c.args.count c.loop.list.items _ _ _ (omega arith) i.read (words_spell c.loop.list.items i.stored) c.in_err-number.ensures.cause)

pub loop-init : goal.loop-init
loop-init g c =
    let none = have_read_none eight_bytes (λ (n : ℕ). n < 2 ^ 64) (g.R.Read.remaining (inner_of c.args.r.now)) c.new-list.result.items c.new-list.ensures.items in
    record { read = none.read; long = none.long; stored = none.stored; none_failed = refl }

pub loop-preserved : goal.loop-preserved
loop-preserved g c =
    let i = c.loop.invariant in
    let more = have_read_one eight_bytes (λ (n : ℕ). n < 2 ^ 64) _ _ _ c.loop.list.items c.push.new.self.items c.in_ok-number.number c.loop.counter c.in_ok-push.ensures.items
    i.read i.long i.stored c.in_ok-number.ensures.read (omega arith) in
    record { read = more.read; long = more.long; stored = more.stored; none_failed = c.in_ok-number.ensures.counts ∙ i.none_failed }

pub returns-in_err-number-clause-counts : goal.returns-in_err-number-clause-counts
returns-in_err-number-clause-counts g c =
    counts_on (failures_of c.args.r.now) (failures_of c.loop.r) (failures_of c.read_eight.new.r) c.read_eight.result c.from_residual.result c.in_err-number.field-0.0
    c.in_err-number.was c.from_residual.ensures.1 c.loop.invariant.none_failed c.read_eight.ensures.counts

pub returns-in_err-push-clause-counts : goal.returns-in_err-push-clause-counts
returns-in_err-push-clause-counts g c =
    counts_memory (failures_of c.args.r.now) (failures_of c.read_eight.new.r) c.from_residual-in_err-push.result c.from_residual-in_err-push.ensures.1
    (c.in_ok-number.ensures.counts ∙ c.loop.invariant.none_failed)
