-- A quoted-printable text piece by piece: its first lines, and the others.
use Rattle.std.proofs.Common.{◌≡◌, ◌<◌, ◌⊎◌, ◌++◌, ℕ, List, ◌∷◌, ap, ◌∙◌, sym, append_assoc, length, inl, inr, arith}
use Rattle.std.specs.List.{flat_map}
use Rattle.mk_line.specs.Lines.{TextLine, cut, ending_bytes}
use Rattle.mk_line.specs.Marks.{trimmed}
use Rattle.mk_code.specs.QuotedPrintable.{line_unquoted, qp_decoded, unquoted}

-- what is decoded of the lines so far
pub record IsLined (text rest out : List ℕ) : Type 0 where
  pub parts : qp_decoded text ≡ out ++ qp_decoded rest
  pub less : (length rest < length text) ⊎ ((length out ≡ 0) × (rest ≡ text))

pub lines_more : (text rest following out out1 ending : List ℕ) (l : TextLine) → cut rest ≡ l ∷ cut following → ending ≡ ending_bytes l.ending → out1 ≡ out ++ unquoted ending (trimmed l.content) → length following < length rest
    → IsLined text rest out → IsLined text following out1
lines_more text rest following out out1 ending l c e p less h = record {
  parts =
      h.parts
      ∙ (ap (λ ls. out ++ flat_map line_unquoted ls) c
      ∙ (sym (append_assoc out (line_unquoted l) (qp_decoded following))
      ∙ ap (λ xs. xs ++ qp_decoded following) (sym (p ∙ ap (λ xs. out ++ unquoted xs (trimmed l.content)) e))));
  less = inl (elim h.less [ inl k ↦ omega (arith, k, less) | inr both ↦ (let k = ap length both.1 in omega (arith, k, less)) ]);
}
