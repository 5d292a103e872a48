use Rattle.std.proofs.Common.{◌≡◌, ℕ, ◌∙◌, sym, subst}
use Rattle.page_plan.specs.Kind.TheVariants.{Data}
use Rattle.page_cells.specs.Lists.{StartsWith}
use Rattle.page_cells.specs.Passes.{seen}
use Rattle.page_cells.proofs.Sums.{starts-refl}
use Rattle.page_cells.proofs.Growing.{begins_then}
use Rattle.comp_mutator.specs.Mutators.{pass_of, setup_of}
use Rattle.comp_mutator.specs.Reads.{Reads}
use Rattle.comp_mutator.specs.Writes.{Writes}
use Rattle.proved_clients.proofs.Between.{sees_what_it_met}
use Rattle.proved_clients.proofs.ReadBack.{both_ok, reads_back}
use Rattle.proved_clients.proofs.meetings.read_after_meeting.Goals as goal

pub returns : goal.returns
returns g c =
    let u = setup_of c.args.space.now in
    let w = c.try_write_data-stamp in
    let r = c.try_read_data-word in
    let old = pass_of c.args.m0.now in
    let wrote = pass_of w.new.m in
    let read = pass_of r.new.m in
    let reader = pass_of c.args.m1.now in
    let object = c.args.object in
    let field = c.args.field in
    let all : (p : ℕ) → StartsWith (seen wrote p) (seen reader p) = λ p. begins_then (seen reader p) (seen old p) (seen wrote p) (c.requires.seen p) (w.ensures.write.grows.seen p) in
    let same : (p : ℕ) → seen read p ≡ seen wrote p = sees_what_it_met u wrote (pass_of c.meet.new.other) (pass_of c.meet-2.new.other) reader (pass_of c.meet.new.m) read (pass_of c.meet-2.new.m) record {
      two = c.requires.two;
      first = w.ensures.write.grows.number ∙ c.requires.first.1;
      second = c.requires.second.1;
      meets_a = c.meet.ensures.other;
      meets_b = c.meet.ensures.m;
      same = c.meet.ensures.same;
      remembers_a = c.meet.ensures.of.0.remembers;
      remembers_b = c.meet.ensures.of.1.remembers;
      grows = r.ensures.read.grows;
      wrote_none = r.ensures.read.did;
      again_a = c.meet-2.ensures.other;
      again_b = c.meet-2.ensures.m;
      same_again = c.meet-2.ensures.same;
      last_remembers_a = c.meet-2.ensures.of.0.remembers;
      last_remembers_b = c.meet-2.ensures.of.1.remembers;
    } all in
    let grows : (p : ℕ) → StartsWith (seen read p) (seen wrote p) = λ p. subst (λ l. StartsWith l (seen wrote p)) (sym (same p)) (starts-refl (seen wrote p)) in
    let one = c.fields_keep_their_addresses.ensures (seen wrote) (seen read) grows (λ p. (r.ensures.of.remembers p).lawful) Data object field in
    record {
      read = both_ok w.result r.result (Writes u old wrote Data object field c.args.value) (Reads u (seen read) Data object field) (λ word. word ≡ c.args.value) w.ensures.write.wrote r.ensures.read.word
          (λ stamp word. reads_back u old wrote read Data object field c.args.value stamp word same one (c.last_written.ensures u));
    }
