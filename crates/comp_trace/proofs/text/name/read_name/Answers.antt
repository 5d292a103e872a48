use Rattle.comp_trace.specs.declared.text.name.Name.TheVariants.{Root, Load, Get, Store, Put, New, Nil, Immediate, WeakLoad, WeakStore, WeakNew}
use Rattle.comp_trace.proofs.text.name.read_name.Goals as goal

pub returns-in_default-behind-10-clause-none : goal.returns-in_default-behind-10-clause-none
returns-in_default-behind-10-clause-none c Load rest h = c.in_default.ensures.none rest h
returns-in_default-behind-10-clause-none c Get rest h = c.in_default-behind.ensures.none rest h
returns-in_default-behind-10-clause-none c Store rest h = c.in_default-behind-2.ensures.none rest h
returns-in_default-behind-10-clause-none c Put rest h = c.in_default-behind-3.ensures.none rest h
returns-in_default-behind-10-clause-none c New rest h = c.in_default-behind-4.ensures.none rest h
returns-in_default-behind-10-clause-none c Nil rest h = c.in_default-behind-5.ensures.none rest h
returns-in_default-behind-10-clause-none c Immediate rest h = c.in_default-behind-6.ensures.none rest h
returns-in_default-behind-10-clause-none c Root rest h = c.in_default-behind-7.ensures.none rest h
returns-in_default-behind-10-clause-none c WeakLoad rest h = c.in_default-behind-8.ensures.none rest h
returns-in_default-behind-10-clause-none c WeakStore rest h = c.in_default-behind-9.ensures.none rest h
returns-in_default-behind-10-clause-none c WeakNew rest h = c.in_default-behind-10.ensures.none rest h
