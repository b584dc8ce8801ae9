-- What orders leave, by names.
use Rattle.std.specs.Result.{result_unwrap_or}
use Rattle.mk_decide.specs.Edits.{Order}
use Rattle.mk_edit.specs.History.{History}
use Rattle.mk_edit.specs.Histories.{step}

-- what an order leaves
abbrev pub after : Order → History → History
after o h = result_unwrap_or (step o h) h
