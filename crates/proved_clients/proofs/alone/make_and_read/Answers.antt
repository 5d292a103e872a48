use Rattle.std.proofs.Common.{◌≡◌, ℕ, ◌∙◌, ap, sym, arith}
use Rattle.std.proofs.lemmas.Result.{IfOk-weaker}
use Rattle.page_plan.specs.Kind.TheVariants.{Reference, Data}
use Rattle.page_cells.specs.Lists.{on}
use Rattle.page_cells.specs.Passes.{seen}
use Rattle.page_cells.proofs.Growing.{grows_then}
use Rattle.comp_mutator.specs.Mutators.{pass_of, setup_of}
use Rattle.proved_clients.proofs.ReadBack.{first_there, is_made, new_field}
use Rattle.proved_clients.proofs.alone.make_and_read.Goals as goal

pub returns : goal.returns
returns g c =
    let u = setup_of c.args.space.now in
    let n = c.try_alloc in
    let r = c.try_read_ref-reference in
    let d = c.try_read_data-data in
    let old = pass_of c.args.m.now in
    let made = pass_of n.new.m in
    let read = pass_of r.new.m in
    let last = pass_of d.new.m in
    let object = c.in_ok-object.object in
    let is = is_made u old made u.heap.edition 1 0 1 c.args.tag object (omega arith) (omega arith) (omega arith) c.in_ok-object.ensures.allocated in
    let shape = c.made_objects_start.ensures old made is.header object is.allocates in
    let alone = c.alone_sees_its_own.ensures c.requires.alone in
    let same : (p : ℕ) → seen read p ≡ seen made p = λ p. alone r.new.m r.ensures.of p ∙ ap (on p) r.ensures.read.did ∙ sym (alone n.new.m n.ensures.of p) in
    let again : (p : ℕ) → seen last p ≡ seen made p = λ p. alone d.new.m d.ensures.of p ∙ ap (on p) (d.ensures.read.did ∙ r.ensures.read.did) ∙ sym (alone n.new.m n.ensures.of p) in
    let grows = grows_then made read last r.ensures.read.grows d.ensures.read.grows in
    let first = c.fields_keep_their_addresses.ensures (seen made) (seen read) r.ensures.read.grows.seen (λ p. (r.ensures.of.remembers p).lawful) Reference object 0 in
    let second = c.fields_keep_their_addresses.ensures (seen made) (seen last) grows.seen (λ p. (d.ensures.of.remembers p).lawful) Data object 0 in
    record {
      null = IfOk-weaker r.result _ _ (λ word. new_field u old made read 1 0 1 object same is shape Reference 0 word (first_there _ is.refs_are) first) r.ensures.read.word;
      zero = IfOk-weaker d.result _ _ (λ word. new_field u old made last 1 0 1 object again is shape Data 0 word (first_there _ is.data_are) second) d.ensures.read.word;
    }
