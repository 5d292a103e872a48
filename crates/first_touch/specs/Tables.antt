-- The tables that threads share.
use Rattle.atomic_table.specs.Seated.{TableId}
use Rattle.first_touch.specs.Asked.{Asked}
use Rattle.first_touch.specs.declared.pages.Pages.{Pages}
use Rattle.first_touch.specs.declared.turn_words.TurnWords.{TurnWords}

-- which table the pages are in
abbrev pub pages_id : Pages → TableId
pages_id pages = pages.table.shared.table_id

-- what slides into the pages
abbrev pub pages_asked : Pages → Asked
pages_asked pages = pages.table.shared.key

-- which table the words of turns are in
abbrev pub words_id : TurnWords → TableId
words_id words = words.table.shared.table_id
