use Rattle.command_line.proofs.mapping.map_run.Goals as goal

pub returns : goal.returns
returns c = record {
  image_is = c.text_of.ensures;
  dump_is = c.get_str.ensures;
  out_is = c.text_of-2.ensures;
  large_is = c.is_large.ensures;
}
