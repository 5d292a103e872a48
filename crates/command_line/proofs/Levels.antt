-- The built commands of the command line, and the level of a parse at which one is entered.
use Rattle.std.specs.Prelude.{List, [], true, false}
use Rattle.clap.specs.Words.{Shape, Text}
use Rattle.clap.specs.Kinds.{Kinds}
use Rattle.clap.specs.Simple.{built_leaf}
use Rattle.clap.specs.Faults.{level_fault}
use Rattle.clap.specs.Walk.{nothing_held}
use Rattle.command_line.specs.Forms.{Form}
use Rattle.command_line.specs.Parser.{command}

-- the command of a form
abbrev pub shape : Form → Shape
shape form = built_leaf (record (command form).top { no_binary_name = true })

-- what is wrong with the words after a command's name
abbrev pub level : Shape → List Text → Kinds
level shape rest = level_fault shape [] nothing_held rest false []
