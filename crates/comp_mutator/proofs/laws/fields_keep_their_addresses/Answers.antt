use Rattle.std.proofs.Common.{◌∙◌, ap, sym}
use Rattle.comp_access.specs.Fields.{field_address}
use Rattle.comp_mutator.proofs.laws.fields_keep_their_addresses.Goals as goal

pub returns : goal.returns
returns g c = λ before after more lawful kind object field word_address other f f'.
    let one = c.headers_are_one.ensures.one after lawful object f.header f'.header (c.headers_are_one.ensures.kept before after more object f.header f.shape) f'.shape in
    f'.address_is ∙ ap (λ h. field_address kind object h field) one ∙ sym f.address_is
