use Rattle.std.proofs.Common.{◌∙◌, refl, sym}
use Rattle.comp_audit.specs.EntryCauses.{setup_of}
use Rattle.comp_audit.proofs.Causes.{field_cause, fits_field}
use Rattle.comp_audit.proofs.explaining.causes.field_misfit.Goals as goal

pub returns-then-is_word_of : goal.returns-then-is_word_of
returns-then-is_word_of c =
    let e = c.args.entry in
    record {
      some = tt;
      none = λ dump.
          let u = setup_of c.args.plan.now dump in
          fits_field u c.args.p c.args.before.now e.kind e.writer e.offset e.value c.word_kind-found.result c.requires.other c.requires.inside (c.word_kind-found.ensures u refl refl)
          ∙ sym c.is_word_of.ensures ∙ c.if-is_word_of.true;
    }

pub returns-else-is_word_of : goal.returns-else-is_word_of
returns-else-is_word_of c =
    let e = c.args.entry in
    let bad = sym c.is_word_of.ensures ∙ c.if-is_word_of.false in
    record {
      some = λ dump.
          let u = setup_of c.args.plan.now dump in
          let found = c.word_kind-found.ensures u refl refl in (
            fits_field u c.args.p c.args.before.now e.kind e.writer e.offset e.value c.word_kind-found.result c.requires.other c.requires.inside found ∙ bad,
            field_cause u c.args.p c.args.before.now e.kind e c.word_kind-found.result c.requires.other found bad,
          );
      none = tt;
    }
