use Rattle.comp_trace.proofs.Named.{no_root, root_refused, root_there}
use Rattle.comp_trace.proofs.text.roots.read_root.Goals as goal

pub returns-in_default-address-clause-none : goal.returns-in_default-address-clause-none
returns-in_default-address-clause-none c =
    root_refused c.args.mutators c.args.text.now _ c.in-Some.rest.now c.ranges.mutators.fits c.in-Some.ensures.some (c.in_default-address.ensures c.args.mutators)

pub returns-in-Some-clause-some : goal.returns-in-Some-clause-some
returns-in-Some-clause-some c =
    root_there c.args.mutators c.args.text.now _ c.in-Some.rest.now c.in-Some-address.root c.ranges.mutators.fits c.in-Some.ensures.some (c.in-Some-address.ensures c.args.mutators)

pub returns-in_default-two_numbers-clause-none : goal.returns-in_default-two_numbers-clause-none
returns-in_default-two_numbers-clause-none c = no_root c.args.mutators c.args.text.now c.in_default.ensures.none c.in_default-two_numbers.ensures.none

pub returns-in_default-register-clause-none : goal.returns-in_default-register-clause-none
returns-in_default-register-clause-none c =
    root_refused c.args.mutators c.args.text.now _ c.in-Some-two_numbers.rest.now c.ranges.mutators.fits c.in-Some-two_numbers.ensures.some c.in_default-register.ensures

pub returns-clause-some : goal.returns-clause-some
returns-clause-some c =
    root_there c.args.mutators c.args.text.now _ c.in-Some-two_numbers.rest.now _ c.ranges.mutators.fits c.in-Some-two_numbers.ensures.some c.in-Some-register.ensures
