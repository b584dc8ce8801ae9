use Rattle.std.proofs.Common.{[], List, ℕ, subst}
use Rattle.mk_code.specs.inner.Decoded.{HasDecoded, EncodesNone}
use Rattle.mk_code.proofs.PieceLetters.{piece_taken, refused_piece}
use Rattle.mk_code.proofs.piecewise.decode_block.Goals as goal

pub returns-in-Ok-clause-content : goal.returns-in-Ok-clause-content
returns-in-Ok-clause-content c content h =
    let P : List ℕ → Type 0 = λ xs. HasDecoded c.args.bytes.now.items xs c.push_decoded.new.out.items [] in
    let Q : List ℕ → Type 0 = λ xs. HasDecoded xs c.gather_block.new.found.items c.push_decoded.new.out.items [] in
    piece_taken c.args.text.now c.gather_block.new.found.items c.in_ok-left.left.now c.push_decoded.new.out.items content
    c.in_ok-left.ensures.letters c.in_ok-left.ensures.whole (subst Q c.requires (subst P c.deref.ensures.value c.in-Ok.ensures.ok)) h

pub returns-in-Err-clause-refused : goal.returns-in-Err-clause-refused
returns-in-Err-clause-refused c =
    let P : List ℕ → Type 0 = λ xs. EncodesNone xs c.in-Err.error in
    refused_piece c.args.text.now c.gather_block.new.found.items c.in_ok-left.left.now c.in-Err.error c.in_ok-left.ensures.letters c.in_ok-left.ensures.whole (subst P c.deref.ensures.value c.in-Err.ensures.err)
