use Rattle.std.proofs.Common.{◌≡◌, ◌<◌, ◌∙◌, Ok, IfErr, IfOk, ℕ, ap, refl, set, sym, subst}
use Rattle.std.proofs.lemmas.Result.{IfOk-from_err, on_err_weaker}
use Rattle.heap_layout.specs.declared.kind.Kind.TheVariants.{Data}
use Rattle.comp_mutator.specs.Passes.{did}
use Rattle.comp_mutator.specs.Calls.{Grows}
use Rattle.comp_mutator.specs.Reads.{FieldRefused}
use Rattle.comp_mutator.specs.Writes.{DataRefused}
use Rattle.comp_mutator.proofs.Answering.{err_anyway}
use Rattle.comp_trace.specs.Acting.{registers_after, Fits, Refuses, Steps}
use Rattle.comp_trace.specs.declared.text.line.Action.{Action}
use Rattle.comp_mutator.specs.Mutators.{pass_of, setup_of}
use Rattle.comp_trace.proofs.OneLine.{got, immediated, loaded, made, nulled, on_err, on_ok, put, rooted, stored, unloaded, unstored}
use Rattle.comp_trace.proofs.steps.acting.act.Goals as goal

pub returns-in_default-clause-refused : goal.returns-in_default-clause-refused
returns-in_default-clause-refused g c =
    let u = setup_of c.args.space.now in
    let old = pass_of c.args.m.now in
    let call = c.try_read_referring-answer in
    let new = pass_of call.new.m in
    let registers = c.args.registers.now in
    subst (λ (a : Action). IfErr call.result (Refuses u a registers old new)) (sym c.in-Load.is)
    (unloaded u c.in-Load.weak c.in-Load.object c.in-Load.field registers old new c.kind_if-kind.result c.held.result call.result c.kind_if-kind.ensures.kind c.held.ensures call.ensures.read.refused)

pub returns-in-Root : goal.returns-in-Root
returns-in-Root g c =
    let u = setup_of c.args.space.now in
    let old = pass_of c.args.m.now in
    let registers = c.args.registers.now in
    let reference = c.root_at-reference.result in
    let is = sym c.in-Root.is in
    record {
      of = c.requires.of;
      went = subst (λ (a : Action). Steps u a registers old old reference) is (rooted u c.in-Root.to c.in-Root.root registers old reference c.root_at-reference.ensures);
      registers = ap (λ to. set registers to reference) c.from.ensures ∙ ap (λ (a : Action). registers_after a registers reference) is;
      grows = tt;
      did = tt;
      refused = tt;
    }

pub returns-in-Nil : goal.returns-in-Nil
returns-in-Nil g c =
    let u = setup_of c.args.space.now in
    let old = pass_of c.args.m.now in
    let registers = c.args.registers.now in
    let is = sym c.in-Nil.is in
    record {
      of = c.requires.of;
      went = subst (λ (a : Action). Steps u a registers old old 0) is (nulled u c.in-Nil.to registers old);
      registers = ap (λ to. set registers to 0) c.from-in-Nil.ensures ∙ ap (λ (a : Action). registers_after a registers 0) is;
      grows = tt;
      did = tt;
      refused = tt;
    }

pub returns-in_ok-word-in-Immediate : goal.returns-in_ok-word-in-Immediate
returns-in_ok-word-in-Immediate g c =
    let u = setup_of c.args.space.now in
    let old = pass_of c.args.m.now in
    let registers = c.args.registers.now in
    let word = c.in_ok-word-in-Immediate.word in
    let is = sym c.in-Immediate.is in
    record {
      of = c.requires.of;
      went = subst (λ (a : Action). Steps u a registers old old word) is (immediated u c.in-Immediate.to c.in-Immediate.payload registers old word c.in_ok-word-in-Immediate.ensures.word);
      registers = ap (λ to. set registers to word) c.from-in-Immediate.ensures ∙ ap (λ (a : Action). registers_after a registers word) is;
      grows = tt;
      did = tt;
      refused = tt;
    }

pub returns-in-Ok : goal.returns-in-Ok
returns-in-Ok g c =
    let u = setup_of c.args.space.now in
    let old = pass_of c.args.m.now in
    let registers = c.args.registers.now in
    let new = pass_of c.try_read_referring-answer.new.m in
    let told = c.try_read_referring-answer.ensures in
    let word = c.in-Ok.word in
    let kind = c.kind_if-kind in
    let is = sym c.in-Load.is in
    record {
      of = told.of;
      went = subst (λ (a : Action). Steps u a registers old new word) is (loaded u c.in-Load.weak c.in-Load.to c.in-Load.object c.in-Load.field registers old new kind.result c.held.result (Ok word) kind.ensures.kind c.held.ensures (told.read.grows, told.read.did)
          c.in-Ok.ensures.read.word (c.in-Ok.ensures.read.known kind.ensures.refers) c.in-Ok.ensures.read.builds);
      registers = ap (λ to. set registers to word) c.from-in-Ok.ensures ∙ ap (λ (a : Action). registers_after a registers word) is;
      grows = tt;
      did = tt;
      refused = tt;
    }

pub returns-in_ok-reference-in-New : goal.returns-in_ok-reference-in-New
returns-in_ok-reference-in-New g c =
    let u = setup_of c.args.space.now in
    let old = pass_of c.args.m.now in
    let registers = c.args.registers.now in
    let new = pass_of c.try_alloc_weak.new.m in
    let reference = c.in_ok-reference-in-New.reference in
    let allocated = c.in_ok-reference-in-New.ensures.allocated in
    let is = sym c.in-New.is in
    record {
      of = c.try_alloc_weak.ensures.of;
      went = subst (λ (a : Action). Steps u a registers old new reference) is (made u c.in-New.to c.in-New.refs c.in-New.weak c.in-New.data_words c.in-New.tag registers old new (Ok reference) c.try_alloc_weak.ensures.grows allocated);
      registers = ap (λ to. set registers to reference) c.from-in-New.ensures ∙ ap (λ (a : Action). registers_after a registers reference) is;
      grows = tt;
      did = tt;
      refused = tt;
    }

pub returns-in-Get : goal.returns-in-Get
returns-in-Get g c =
    let u = setup_of c.args.space.now in
    let old = pass_of c.args.m.now in
    let registers = c.args.registers.now in
    let new = pass_of c.try_read_data.new.m in
    let r = c.try_read_data.result in
    let told = c.try_read_data.ensures.read in
    let object = c.held-in-Get in
    let field = c.in-Get.field in
    let is = sym c.in-Get.is in
    record {
      of = c.try_read_data.ensures.of;
      went = subst (λ (a : Action). IfOk r (Steps u a registers old new)) is (got u c.in-Get.object field registers old new object.result r object.ensures (told.grows, told.did) told.word told.builds);
      registers = on_ok r (λ answer. registers ≡ registers_after c.args.action registers answer) (λ answer. ap (λ (a : Action). registers_after a registers answer) is);
      grows = on_err r (Grows old new) told.grows;
      did = on_err r ((did new ≡ did old) × (registers ≡ registers)) (told.did, refl);
      refused = subst (λ (a : Action). IfErr r (Refuses u a registers old new)) is
          (subst (λ (o : ℕ). IfErr r (FieldRefused u old new Data o field)) object.ensures told.refused);
    }

pub returns-in-Store : goal.returns-in-Store
returns-in-Store g c =
    let u = setup_of c.args.space.now in
    let old = pass_of c.args.m.now in
    let registers = c.args.registers.now in
    let new = pass_of c.try_write_referring.new.m in
    let r = c.try_write_referring.result in
    let told = c.try_write_referring.ensures.write in
    let object = c.held-in-Store in
    let field = c.in-Store.field in
    let value = c.held-value in
    let kind = c.kind_if-kind-in-Store in
    let is = sym c.in-Store.is in
    record {
      of = c.try_write_referring.ensures.of;
      went = subst (λ (a : Action). IfOk r (Steps u a registers old new)) is (stored u c.in-Store.weak c.in-Store.object field c.in-Store.value registers old new kind.result object.result value.result r
          kind.ensures.kind object.ensures value.ensures told.grows told.wrote (told.target kind.ensures.refers) told.builds);
      registers = on_ok r (λ answer. registers ≡ registers_after c.args.action registers answer) (λ answer. ap (λ (a : Action). registers_after a registers answer) is);
      grows = on_err r (Grows old new) told.grows;
      did = on_err_weaker r (λ same. (same, refl)) told.did;
      refused = subst (λ (a : Action). IfErr r (Refuses u a registers old new)) is
          (unstored u c.in-Store.weak c.in-Store.object field c.in-Store.value registers old new kind.result object.result value.result r kind.ensures.kind object.ensures value.ensures (told.reference_refused kind.ensures.refers));
    }

pub returns-in-Put : goal.returns-in-Put
returns-in-Put g c =
    let u = setup_of c.args.space.now in
    let old = pass_of c.args.m.now in
    let registers = c.args.registers.now in
    let new = pass_of c.try_write_data.new.m in
    let r = c.try_write_data.result in
    let told = c.try_write_data.ensures.write in
    let object = c.held-in-Put in
    let field = c.in-Put.field in
    let is = sym c.in-Put.is in
    record {
      of = c.try_write_data.ensures.of;
      went = subst (λ (a : Action). IfOk r (Steps u a registers old new)) is (put u c.in-Put.object field c.in-Put.value registers old new object.result r object.ensures told.grows told.wrote told.builds);
      registers = on_ok r (λ answer. registers ≡ registers_after c.args.action registers answer) (λ answer. ap (λ (a : Action). registers_after a registers answer) is);
      grows = on_err r (Grows old new) told.grows;
      did = on_err_weaker r (λ same. (same, refl)) told.did;
      refused = subst (λ (a : Action). IfErr r (Refuses u a registers old new)) is
          (subst (λ (o : ℕ). IfErr r (DataRefused u old new Data o field)) object.ensures (told.data_refused refl));
    }

pub returns-in_err-reference-in-New : goal.returns-in_err-reference-in-New
returns-in_err-reference-in-New g c =
    let u = setup_of c.args.space.now in
    let old = pass_of c.args.m.now in
    let new = pass_of c.try_alloc_weak.new.m in
    let registers = c.args.registers.now in
    let back = c.from_residual.result in
    let none = c.from_residual.ensures.0 in
    let same = c.from_residual.ensures.1 in
    let why = c.in_err-reference-in-New.ensures in
    record {
      of = c.try_alloc_weak.ensures.of;
      went = IfOk-from_err back _ none;
      registers = IfOk-from_err back _ none;
      grows = on_err back (Grows old new) c.try_alloc_weak.ensures.grows;
      did = on_err back ((did new ≡ did old) × (registers ≡ registers)) (why.did.0, refl);
      refused = subst (λ (a : Action). IfErr back (Refuses u a registers old new)) (sym c.in-New.is) (err_anyway back _ c.in_err-reference-in-New.field-0.0 same why.refused);
    }

pub held-requires : goal.held-requires
held-requires g c = (subst (Fits (setup_of c.args.space.now)) c.in-Load.is c.requires.fits).1

pub held-requires-in-Get : goal.held-requires-in-Get
held-requires-in-Get g c = subst (Fits (setup_of c.args.space.now)) c.in-Get.is c.requires.fits

pub held-value-requires : goal.held-value-requires
held-value-requires g c = (subst (Fits (setup_of c.args.space.now)) c.in-Store.is c.requires.fits).1

pub held-requires-in-Store : goal.held-requires-in-Store
held-requires-in-Store g c = (subst (Fits (setup_of c.args.space.now)) c.in-Store.is c.requires.fits).0

pub held-requires-in-Put : goal.held-requires-in-Put
held-requires-in-Put g c = subst (Fits (setup_of c.args.space.now)) c.in-Put.is c.requires.fits

pub root_at-reference-requires-after_bounds : goal.root_at-reference-requires-after_bounds
root_at-reference-requires-after_bounds g c κs within = (subst (Fits (setup_of c.args.space.now)) c.in-Root.is c.requires.fits).1

pub bounds-registers-from : goal.bounds-registers-from
bounds-registers-from g c = subst (λ n. n < 16) (sym c.from.ensures) (subst (Fits (setup_of c.args.space.now)) c.in-Root.is c.requires.fits).0

pub bounds-registers-from-in-Ok : goal.bounds-registers-from-in-Ok
bounds-registers-from-in-Ok g c = subst (λ n. n < 16) (sym c.from-in-Ok.ensures) (subst (Fits (setup_of c.args.space.now)) c.in-Load.is c.requires.fits).0

pub bounds-registers-from-in-New : goal.bounds-registers-from-in-New
bounds-registers-from-in-New g c = subst (λ n. n < 16) (sym c.from-in-New.ensures) (subst (Fits (setup_of c.args.space.now)) c.in-New.is c.requires.fits)

pub bounds-registers-from-in-Nil : goal.bounds-registers-from-in-Nil
bounds-registers-from-in-Nil g c = subst (λ n. n < 16) (sym c.from-in-Nil.ensures) (subst (Fits (setup_of c.args.space.now)) c.in-Nil.is c.requires.fits)

pub bounds-registers-from-in-Immediate : goal.bounds-registers-from-in-Immediate
bounds-registers-from-in-Immediate g c = subst (λ n. n < 16) (sym c.from-in-Immediate.ensures) (subst (Fits (setup_of c.args.space.now)) c.in-Immediate.is c.requires.fits).0

pub try_read_referring-answer-requires-clause-of : goal.try_read_referring-answer-requires-clause-of
try_read_referring-answer-requires-clause-of g c κs within = c.requires.of

pub try_read_referring-answer-requires-clause-refers : goal.try_read_referring-answer-requires-clause-refers
try_read_referring-answer-requires-clause-refers g c κs within = c.kind_if-kind.ensures.refers

pub try_read_data-requires-after_bounds : goal.try_read_data-requires-after_bounds
try_read_data-requires-after_bounds g c κs within = c.requires.of

pub try_write_referring-requires-clause-of : goal.try_write_referring-requires-clause-of
try_write_referring-requires-clause-of g c κs within = c.requires.of

pub try_write_referring-requires-clause-refers : goal.try_write_referring-requires-clause-refers
try_write_referring-requires-clause-refers g c κs within = c.kind_if-kind-in-Store.ensures.refers

pub try_write_data-requires-after_bounds : goal.try_write_data-requires-after_bounds
try_write_data-requires-after_bounds g c κs within = c.requires.of

pub try_alloc_weak-requires-after_bounds : goal.try_alloc_weak-requires-after_bounds
try_alloc_weak-requires-after_bounds g c κs within = c.requires.of
