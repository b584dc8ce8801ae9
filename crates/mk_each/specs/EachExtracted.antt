-- Sections of each message of a mailbox, extracted (own).
use Rattle.std.specs.Prelude.{◌≡◌, ℕ, List}
use Rattle.mk_transfer.specs.Said.{Run, Said}
use Rattle.mk_show.specs.declared.portions.Portion.{Portion}
use Rattle.mk_show.specs.Portions.{ShowsAllAs}
use Rattle.mk_each.specs.Labels.{said_of_run}

-- what is said of a message is what a run says that gives the portions of the sections at some paths
pub record IsExtractedInTurn (wanted : Portion) (paths : List (List ℕ)) (number : ℕ) (message : List ℕ) (said : Said) : Type 0 where
  pub run : Run
  pub taken : ShowsAllAs wanted paths message run
  pub said_is : said ≡ said_of_run number run
