-- Rounds in a header: what they make of a message with this header.
use Rattle.std.proofs.Common.{◌≡◌, ◌<◌, ◌++◌, ℕ, true, None, Some, Ok, Err, List, [], ◌∷◌, ap, sym, ◌∙◌, subst, length, arith}
use Rattle.std.specs.List.{list_all}
use Rattle.mk_tree.specs.Documents.{tree}
use Rattle.mk_decide.specs.declared.errors.EditError.{EditError}
use Rattle.mk_decide.specs.Answers.{is_memory}
use Rattle.mk_decide.specs.Edits.{PlainEdit}
use Rattle.std.proofs.Common.{false}
use Rattle.mk_edit.specs.Groups.{together}
use Rattle.mk_edit.specs.Histories.{started, text_now}
use Rattle.mk_edit.specs.History.{History}
use Rattle.mk_edit.specs.HeaderEdits.{edits_header}
use Rattle.mk_line.specs.Results.{made_of}
use Rattle.mk_mail.specs.Letters.{root_path}
use Rattle.mk_mail.specs.Rounds.{Made, PlainRound, made_text, round_edits, round_outcome, rounds_made, rounds_made_at}
use Rattle.mk_field.specs.FilterClauses.{AreEditsMade, IsReason}
use Rattle.mk_field.specs.declared.headers.ByHeader.TheVariants.{Refused}
use Rattle.mk_field.specs.inner.ByHeaders.{IsHeader, Tells}
use Rattle.mk_field.proofs.HeadersAlone.{AreMadeApart, round_apart, with_body}
use Rattle.mk_field.proofs.RoundLemmas.{group_stands, refused_now}

-- rounds were made so far: what is to be made of the message is what the others make of the header that stands, and its body
pub record SoFarBy (all rest : List PlainRound) (header : List ℕ) (h : History) : Type 0 where
  pub made : (body : List ℕ) → rounds_made all (header ++ body) ≡ rounds_made rest (text_now h ++ body)
  pub is_header : IsHeader (text_now h)
  pub room : h.place < length h.texts

pub begun_by : (all : List PlainRound) (header : List ℕ) (h : History) → h ≡ started header → IsHeader (text_now h) → SoFarBy all all header h
begun_by all header h e i = record { made = λ body. ap (λ (x : History). rounds_made all (text_now x ++ body)) (sym e); is_header = i; room = subst (λ (x : History). x.place < length x.texts) (sym e) (omega arith) }

-- the round that comes next, in the header and in the message
next_round : (all rest : List PlainRound) (r : PlainRound) (es : List PlainEdit) (header : List ℕ) (h : History) (body : List ℕ) → es ≡ round_edits root_path (text_now h) r → list_all edits_header es ≡ true → SoFarBy all (r ∷ rest) header h
    → AreMadeApart (made_text (together es (tree (text_now h)))) (made_text (round_outcome root_path (text_now h ++ body) r)) body
next_round all rest r es header h body d s k =
    let a = text_now h in
    subst (λ x. AreMadeApart (made_text (together x (tree a))) (made_text (round_outcome root_path (a ++ body) r)) body) (sym d)
    (round_apart r a body (ap (list_all edits_header) (sym d) ∙ s) k.is_header)

-- it was made
pub round_by : (all rest : List PlainRound) (r : PlainRound) (es : List PlainEdit) (header : List ℕ) (h new : History) → es ≡ round_edits root_path (text_now h) r → list_all edits_header es ≡ true → SoFarBy all (r ∷ rest) header h → AreEditsMade es None h new
    → SoFarBy all rest header new
round_by all rest r es header h new d s k m =
    let g = group_stands h new (together es (tree (text_now h))) k.room m in
    record {
      made = λ body. (let n = next_round all rest r es header h body d s k in k.made body ∙ (ap (made_of (rounds_made_at root_path rest)) n.same ∙ ap (λ x. made_of (rounds_made_at root_path rest) (with_body body x)) g.text));
      is_header = (let n = next_round all rest r es header h [] d s k in n.header (text_now new) g.text);
      room = g.room;
    }

reason_on : (e : EditError) (m : Made) (body : List ℕ) → IsReason (Some e) m → IsReason (Some e) (with_body body m)
reason_on e (Ok made) body h = absurd h
reason_on e (Err reason) body h = h

-- or refused
pub refused_round : (all rest : List PlainRound) (r : PlainRound) (es : List PlainEdit) (header : List ℕ) (h new : History) (error : EditError) (body : List ℕ) → es ≡ round_edits root_path (text_now h) r → list_all edits_header es ≡ true
    → SoFarBy all (r ∷ rest) header h → AreEditsMade es (Some error) h new → is_memory error ≡ false → Tells (Refused error) body (rounds_made all (header ++ body))
refused_round all rest r es header h new error body d s k m n =
    let next = next_round all rest r es header h body d s k in (
      subst (IsReason (Some error)) (sym (k.made body ∙ ap (made_of (rounds_made_at root_path rest)) next.same))
          (refused_now (with_body body (made_text (together es (tree (text_now h))))) error (rounds_made_at root_path rest) (reason_on error (made_text (together es (tree (text_now h)))) body m.1)),
      n,
    )
