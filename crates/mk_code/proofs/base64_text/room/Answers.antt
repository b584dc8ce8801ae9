use Rattle.mk_code.proofs.Base64Lines.{room_told}
use Rattle.mk_code.proofs.base64_text.room.Goals as goal

pub returns : goal.returns
returns c = room_told c.args.bytes.now c.args.ending.now c.div_ceil-letters.result c.saturating_sub-endings.result c.div_ceil-letters.ensures c.saturating_sub-endings.ensures
