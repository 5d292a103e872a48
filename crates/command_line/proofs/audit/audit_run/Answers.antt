use Rattle.command_line.proofs.audit.audit_run.Goals as goal

pub returns : goal.returns
returns c = record {
  image_is = c.text_of.ensures;
  dump_is = c.text_of-2.ensures;
  whole_is = c.is_given.ensures;
  words_is = c.is_given-2.ensures;
  explain_is = c.is_given-3.ensures;
  large_is = c.is_large.ensures;
}
