-- Edits and errors in memory as plain data.
use Rattle.std.specs.Prelude.{◌≡◌, Result, Err, List, map}
use Rattle.mk_decide.specs.declared.edits.Edit.{Edit}
use Rattle.mk_decide.specs.Edits.{PlainEdit}
use Rattle.mk_decide.specs.Views.{edit_of}
use Rattle.mk_expand.specs.declared.errors.WordError.{WordError}
use Rattle.mk_expand.specs.declared.errors.WordError.TheVariants as error
use Rattle.mk_script.specs.ScriptViews.{items_of}
use Rattle.mk_expand.specs.declared.pieces.Pieces.{Pieces as PiecesIn}
use Rattle.mk_expand.specs.Pieces.{Pieces}
use Rattle.mk_expand.specs.Meanings.{WordFault, BadBase64, UnknownEncoding, BadType, BadName, BadCharset, BinaryContent}

-- the pieces of a script
abbrev pub pieces_of : PiecesIn → Pieces
pieces_of p = record { texts = items_of p.texts.now; turned = p.turned }

-- edits as they are
abbrev pub plain_edits : List Edit → List PlainEdit
plain_edits edits = map edit_of edits

-- an error is the fault of a word, or running out of memory, which may come in place of any answer
abbrev pub IsFault : {X : Type 0} → WordError → Result X WordFault → Type 0
IsFault error.BadBase64 meaning = meaning ≡ Err BadBase64
IsFault error.UnknownEncoding meaning = meaning ≡ Err UnknownEncoding
IsFault error.BadType meaning = meaning ≡ Err BadType
IsFault error.BadName meaning = meaning ≡ Err BadName
IsFault error.BadCharset meaning = meaning ≡ Err BadCharset
IsFault error.BinaryContent meaning = meaning ≡ Err BinaryContent
IsFault error.Memory meaning = Unit {0}
