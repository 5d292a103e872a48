use Rattle.std.proofs.Common.{◌≡◌, ◌∙◌, ◌≤◌, ℕ, [], map, subst, sym, arith}
use Rattle.std.proofs.lemmas.List.{length-map}
use Rattle.heap_layout.specs.Heap.{Heap, IsClosed}
use Rattle.comp_mutator.specs.Finishes.{IsOfFlip}
use Rattle.comp_mutator.specs.Mutators.{pass_of, setup_of}
use Rattle.comp_audit.specs.Judged.{faults, Judges}
use Rattle.proved_clients.proofs.Verdicts.{is_yes}
use Rattle.proved_clients.proofs.audits.finish_and_audit.Goals as goal

pub of-requires : goal.of-requires
of-requires g c =
    subst (λ (n : ℕ). IsOfFlip n c.args.fresh c.in-Ok.finished) c.requires.count
    (subst (λ (n : ℕ). IsOfFlip (setup_of c.args.space).mutators n c.in-Ok.finished) c.requires.fresh c.in-Ok.ensures.flipped)

pub returns-in-Ok-audit : goal.returns-in-Ok-audit
returns-in-Ok-audit g c =
    let u = setup_of c.args.space in
    let f = c.in-Ok.finished in
    let done = c.in-Ok.ensures.finished in
    let flipped = c.in-Ok.ensures.flipped in
    let dump = c.in-Ok-of.dump in
    let made = c.in-Ok-of.ensures in
    let verdict = c.in-Ok-audit.verdict in
    let of : IsOfFlip c.args.count c.args.fresh f = record {
      setup = u;
      row = map pass_of done.0;
      finished = done.2;
      heap = subst IsClosed (sym c.requires.heap) c.heap_is_closed.ensures;
      crew = length-map done.0 pass_of ∙ (done.1.count ∙ c.requires.count);
      mutators_are = c.requires.count;
      some_mutators = subst (λ (n : ℕ). 1 ≤ n) c.requires.count flipped.some_mutators;
      few_mutators = subst (λ (n : ℕ). n ≤ 64) c.requires.count flipped.few_mutators;
      fresh_are = c.requires.fresh;
      few_fresh = omega (arith, flipped.few_fresh, c.requires.fresh);
    } in
    let none : faults u.heap dump ≡ [] = c.lawful_is_yes.ensures.finished c.args.count c.args.fresh f of dump c.live_words-words.ensures.stored
    (record { edition_is = made.edition; mutators_are = made.mutators; fresh_are = made.fresh; roots = made.roots; pages = made.pages; builds = made.builds; total = made.total }) in
    let judged : Judges (faults u.heap dump) verdict = subst (λ (h : Heap). Judges (faults h dump) verdict) (sym c.requires.heap) c.in-Ok-audit.ensures in
    record { yes = is_yes verdict (subst (λ list. Judges list verdict) none judged) }
