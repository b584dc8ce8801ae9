use Rattle.std.proofs.Common.{◌≡◌, ◌++◌, ◌∷◌, List, ℕ, OnOk, subst, sym}
use Rattle.mk_line.specs.Ascii.{slash}
use Rattle.mk_head.specs.Values.{Plain, pieces, type_of_pieces}
use Rattle.mk_head.proofs.Commentless.{all_kept}
use Rattle.mk_head.proofs.content.push_media_type.Goals as goal

pub returns-in-None-clause-appended : goal.returns-in-None-clause-appended
returns-in-None-clause-appended c =
    let P : List ℕ → Type 0 = λ value. OnOk c.push_first_type.result (c.push_first_type.new.text.items ≡ c.args.text.now.items ++ ((type_of_pieces (pieces Plain value)).main ++ slash ∷ (type_of_pieces (pieces Plain value)).sub)) in
    subst P (sym (all_kept c.args.value.now c.in-None.ensures)) c.push_first_type.ensures.appended
