-- Names and edits in memory as plain data, for private contracts.
use Rattle.std.specs.Prelude.{ℕ, List, map}
use Rattle.std.specs.Cow.{cow_slice_items}
use Rattle.std.specs.Global.{Global}
use Rattle.std.specs.declared.borrow.CowSlice.{CowSlice}
use Rattle.mk_decide.specs.declared.edits.Edit.{Edit}
use Rattle.mk_decide.specs.Edits.{PlainEdit}
use Rattle.mk_decide.specs.Views.{edit_of}
use Rattle.mk_mail.specs.declared.filtering.Filter.{Filter}
use Rattle.mk_mail.specs.declared.patterns.Removal as declared
use Rattle.mk_mail.specs.LetterViews.{pattern_of}
use Rattle.mk_mail.specs.Letters.{Removal, Work}

-- names in memory as lists
abbrev pub texts_of : List (CowSlice ℕ Global) → List (List ℕ)
texts_of names = map cow_slice_items names

-- edits in memory as plain edits
abbrev pub plain_edits : List Edit → List PlainEdit
plain_edits es = map edit_of es

-- what was done so far
abbrev pub work_of : Filter → Work
work_of f = record { names = texts_of f.names.items; edits = plain_edits f.edits.items }

-- which fields go, as it is
abbrev pub removal_by : declared.Removal → Removal
removal_by r = record { drops = map pattern_of r.drops.now; keeps = map pattern_of r.keeps.now; only = r.only }
