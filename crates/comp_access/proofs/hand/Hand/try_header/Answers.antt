use Rattle.std.proofs.Common.{◌∙◌, refl, sym, subst}
use Rattle.cell_steps.specs.Passes.{seen}
use Rattle.page_cells.specs.CellViews.{setup_of}
use Rattle.page_cells.proofs.Growing.{grows_none, grows_then}
use Rattle.comp_access.specs.HeaderCalls.{IsHeaderWord}
use Rattle.comp_access.proofs.Headers.{fresh_word, slid_word}
use Rattle.comp_access.proofs.KnownStarts.{knows_fresh, knows_slid}
use Rattle.comp_access.proofs.hand.Hand.try_header.Goals as goal

pub returns-in-Some-clause-header : goal.returns-in-Some-clause-header
returns-in-Some-clause-header g c =
    let u = setup_of c.args.cells.now in
    let pass = c.args.self.now.pass in
    let slid = sym c.in-Some.ensures.shape in
    record {
      grows = grows_none pass;
      did = refl;
      builds = refl;
      word = subst (IsHeaderWord u (seen pass) c.args.object) (sym c.word.ensures) (slid_word u (seen pass) c.args.object c.in-Some.header slid);
      known = knows_slid _ _ pass c.requires c.args.object c.in-Some.header slid;
      apart = λ place p. refl;
      refused = tt;
    }

pub returns-then-start_known-clause-header : goal.returns-then-start_known-clause-header
returns-then-start_known-clause-header g c =
    let u = setup_of c.args.cells.now in
    let new = c.fresh_header.new.pass in
    let first = c.start_known.ensures in
    let h = c.fresh_header.ensures in
    record {
      grows = grows_then c.args.self.now.pass c.start_known.new.pass new first.grows.0 h.grows.0;
      did = h.grows.1 ∙ first.grows.1.did;
      builds = h.builds ∙ first.builds;
      word = subst (IsHeaderWord u (seen new) c.args.object) (sym c.word-then-start_known.ensures)
          (fresh_word u (seen new) c.args.object c.fresh_header.result (λ own slid. h.fresh.apart (own, slid)) h.edition h.shape);
      known = knows_fresh _ _ new h.of.0 c.args.object h.fresh;
      apart = λ place. absurd (h.fresh.apart place);
      refused = tt;
    }
