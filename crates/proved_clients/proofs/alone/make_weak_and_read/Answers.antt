use Rattle.std.proofs.Common.{◌≡◌, ℕ, ◌∙◌, ap, sym, arith}
use Rattle.std.proofs.lemmas.Result.{IfOk-weaker}
use Rattle.page_plan.specs.Kind.TheVariants.{Weak}
use Rattle.page_cells.specs.Lists.{on}
use Rattle.page_cells.specs.Passes.{seen}
use Rattle.comp_mutator.specs.Mutators.{pass_of, setup_of}
use Rattle.proved_clients.proofs.ReadBack.{first_there, is_made, new_field}
use Rattle.proved_clients.proofs.alone.make_weak_and_read.Goals as goal

pub returns : goal.returns
returns g c =
    let u = setup_of c.args.space.now in
    let n = c.try_alloc_weak in
    let r = c.try_read_weak-weak in
    let old = pass_of c.args.m.now in
    let made = pass_of n.new.m in
    let read = pass_of r.new.m in
    let object = c.in_ok-object.object in
    let is = is_made u old made u.heap.edition 0 1 0 c.args.tag object (omega arith) (omega arith) (omega arith) c.in_ok-object.ensures.allocated in
    let shape = c.made_objects_start.ensures old made is.header object is.allocates in
    let alone = c.alone_sees_its_own.ensures c.requires.alone in
    let same : (p : ℕ) → seen read p ≡ seen made p = λ p. alone r.new.m r.ensures.of p ∙ ap (on p) r.ensures.read.did ∙ sym (alone n.new.m n.ensures.of p) in
    let one = c.fields_keep_their_addresses.ensures (seen made) (seen read) r.ensures.read.grows.seen (λ p. (r.ensures.of.remembers p).lawful) Weak object 0 in
    record {
      null = IfOk-weaker r.result _ _ (λ word. new_field u old made read 0 1 0 object same is shape Weak 0 word (first_there _ is.weak_are) one) r.ensures.read.word;
    }
