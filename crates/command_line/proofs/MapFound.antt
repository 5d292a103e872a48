-- From what the parser found of `map` to what the words ask.
use Rattle.std.proofs.Common.{◌∙◌, ℕ, List, codes, refl, sym}
use Rattle.clap.specs.declared.parser.matches.Found.{Found}
use Rattle.command_line.specs.AskedTasks.{AsksCommand}
use Rattle.command_line.specs.Forms.{map_form, named, path_option}
use Rattle.command_line.specs.ParserFinds.{IsMapFound, IsMapRequest}
use Rattle.command_line.specs.declared.mapping.MapRun.{MapRun}
use Rattle.command_line.specs.declared.words.Task.TheVariants.{Map}
use Rattle.command_line.proofs.Found.{CommandAsked, argument_reported, argument_there, asked_with, option_read}

module _ (words : List (List ℕ)) (f : Found) (asked : CommandAsked words f map_form) where
  -- its paths are found if it is asked for
  pub map_found : IsMapRequest f
  map_found = record {
    has_image = argument_there words f map_form asked (named (codes "IMAGE")) refl;
    has_out = argument_there words f map_form asked (named (codes "OUT")) refl;
  }

  -- and what was found is what the words ask
  pub map_asked : (run : MapRun) → IsMapFound f run → AsksCommand words (Map run)
  map_asked run is = asked_with words f _ _ _ _ asked refl _ _ _ is.image_is is.large_is (
    sym (is.dump_is ∙ option_read words f map_form asked (path_option (codes "dump")) refl),
    argument_reported words f map_form asked (named (codes "OUT")) refl run.out.now is.out_is,
  )
