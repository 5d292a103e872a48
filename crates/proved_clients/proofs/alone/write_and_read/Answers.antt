use Rattle.std.proofs.Common.{◌≡◌, ℕ, ◌∙◌, ap, sym}
use Rattle.page_plan.specs.Kind.TheVariants.{Data}
use Rattle.page_cells.specs.Lists.{on}
use Rattle.page_cells.specs.Passes.{seen}
use Rattle.comp_mutator.specs.Mutators.{pass_of, setup_of}
use Rattle.comp_mutator.specs.Reads.{Reads}
use Rattle.comp_mutator.specs.Writes.{Writes}
use Rattle.proved_clients.proofs.ReadBack.{both_ok, reads_back}
use Rattle.proved_clients.proofs.alone.write_and_read.Goals as goal

pub returns : goal.returns
returns g c =
    let u = setup_of c.args.space.now in
    let w = c.try_write_data-stamp in
    let r = c.try_read_data-word in
    let old = pass_of c.args.m.now in
    let wrote = pass_of w.new.m in
    let read = pass_of r.new.m in
    let object = c.args.object in
    let field = c.args.field in
    let alone = c.alone_sees_its_own.ensures c.requires.alone in
    let same : (p : ℕ) → seen read p ≡ seen wrote p = λ p. alone r.new.m r.ensures.of p ∙ ap (on p) r.ensures.read.did ∙ sym (alone w.new.m w.ensures.of p) in
    let one = c.fields_keep_their_addresses.ensures (seen wrote) (seen read) r.ensures.read.grows.seen (λ p. (r.ensures.of.remembers p).lawful) Data object field in
    record {
      read = both_ok w.result r.result (Writes u old wrote Data object field c.args.value) (Reads u (seen read) Data object field) (λ word. word ≡ c.args.value) w.ensures.write.wrote r.ensures.read.word
          (λ stamp word. reads_back u old wrote read Data object field c.args.value stamp word same one (c.last_written.ensures u));
    }
