use Rattle.std.proofs.Common.{◌≡◌, ◌∙◌, ℕ, List, get_or, ap, sym, subst}
use mathlib.Core.Option.{some}
use lib.ListN.{get_elem?}
use Rattle.comp_journal.specs.Journal.{Journaled, replayed}
use Rattle.comp_journal.specs.declared.entry.Entry.{Entry}
use Rattle.cell_steps.specs.Setup.{base_of}
use Rattle.cell_steps.specs.Lawful.{IsField}
use Rattle.cell_steps.specs.Passes.{did, seen, KnowsFresh, MayRefer}
use Rattle.cell_steps.specs.declared.pass.Pass.{Pass}
use Rattle.page_cells.specs.Calls.{Grows}
use Rattle.page_cells.specs.CellViews.{journal_of, setup_of, KnowsObjects}
use Rattle.comp_access.specs.Copies.{AreWordsOf}
use Rattle.comp_access.proofs.Growing.{still_then}
use Rattle.comp_access.proofs.hand.Hand.page_copy.Goals as goal

pub returns-in-Ok-clause-grows : goal.returns-in-Ok-clause-grows
returns-in-Ok-clause-grows g c =
    let same = c.copy_taken-copied.ensures.same in
    let back = c.put_back.ensures in
    let grows = subst (λ (m : Pass). Grows m c.put_back.new.pass) same back.grows.0 in
    still_then c.args.self.now.pass c.take.new.pass c.put_back.new.pass c.take.ensures.grows (grows, back.grows.1.did ∙ ap did same)

pub returns-in-Err-clause-grows : goal.returns-in-Err-clause-grows
returns-in-Err-clause-grows g c =
    let same = c.copy_taken-copied.ensures.same in
    let back = c.put_back.ensures in
    let grows = subst (λ (m : Pass). Grows m c.put_back.new.pass) same back.grows.0 in
    still_then c.args.self.now.pass c.take.new.pass c.put_back.new.pass c.take.ensures.grows (grows, back.grows.1.did ∙ ap did same)

pub returns-in-Ok-clause-copy : goal.returns-in-Ok-clause-copy
returns-in-Ok-clause-copy g c =
    let back = c.put_back.ensures in
    let grows = subst (λ (m : Pass). Grows m c.put_back.new.pass) c.copy_taken-copied.ensures.same back.grows.0 in
    let u = setup_of c.args.cells.now in
    let p = c.args.p in
    let new = c.put_back.new.pass in
    let taken = c.in_ok-taken.taken in
    let told = c.in_ok-taken.ensures.taken in
    let saw : seen new p ≡ journal_of taken = ap (seen new) (sym told.0) ∙ back.seen in
    let base : taken.page.page.base ≡ base_of u p = ap (λ (page : Journaled). page.base) told.1.page ∙ ap (base_of u) told.0 in
    let words : AreWordsOf u p (seen new p) c.in-Ok.copy.words = λ offset lt. c.in-Ok.ensures.words offset lt
    ∙ ap (λ (b : List ℕ). get_or (replayed b (journal_of taken)) offset 0) base ∙ ap (λ (j : List Entry). get_or (replayed (base_of u p) j) offset 0) (sym saw) in
    let journal = c.in-Ok.ensures.journal ∙ sym saw in
    let held : journal_of taken ≡ seen c.take.new.pass taken.number = ap (λ (page : Journaled). page.journal) told.1.page in
    let starts : KnowsObjects new p c.in-Ok.copy.journal.items = λ i e at header. subst (λ n. KnowsFresh new n e.offset) told.0
    (grows.starts taken.number e.offset (told.1.starts i e (subst (λ l. get_elem? l i ≡ some e) (c.in-Ok.ensures.journal ∙ held) at) header)) in
    record {
      words = words;
      journal = journal;
      built = grows.built p told.2;
      starts = starts;
      references = λ offset k is_ref field. subst (MayRefer new) (sym (words offset field.inside))
          (c.seen_references_lead.ensures.seen new back.of.0 p offset k is_ref (subst (λ l. IsField u p l k offset) journal field));
    }
