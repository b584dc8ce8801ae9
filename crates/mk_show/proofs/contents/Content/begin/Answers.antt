use Rattle.std.proofs.Common.{◌≡◌, ◌⊎◌, ◌↔◌, refl, sym, subst, inl, inr, List, ℕ}
use Rattle.mk_head.specs.declared.encodings.Encoding.{Encoding}
use Rattle.mk_head.specs.declared.encodings.Encoding.TheVariants.{Identity, Qp, Base64, Other}
use Rattle.mk_code.specs.Contents.{IsContent}
use Rattle.mk_code.specs.QuotedPrintable.{qp_decoded}
use Rattle.mk_tree.specs.Sections.{Placed, content_text}
use Rattle.mk_view.specs.Extracts.{IsContentOf}
use Rattle.mk_show.proofs.contents.Content.begin.Goals as goal
use Rattle.mk_show.proofs.contents.Content.begin.Goals.{in-Identity, in-Base64+in_ok-content_size-in-Base64}

-- any text decodes
decodes : (encoding : Encoding) (section : Placed) (text : List ℕ) → (encoding ≡ Identity) ⊎ (encoding ≡ Qp) → ((bytes : List ℕ) → IsContentOf section bytes ↔ IsContent encoding text bytes)
    → (bytes : List ℕ) × IsContentOf section bytes × IsContent encoding text bytes
decodes Identity section text e same = (text, (same text).1 refl, refl)
decodes Qp section text e same = (qp_decoded text, (same (qp_decoded text)).1 refl, refl)
decodes Base64 section text (inl e) same = cc
decodes Base64 section text (inr e) same = cc
decodes Other section text (inl e) same = cc
decodes Other section text (inr e) same = cc

pub returns-clause-begun : goal.returns-clause-begun
returns-clause-begun c =
    let section = c.args.section.now in
    let encoding = c.in-Ok.encoding in
    let begun : (bytes : List ℕ) × IsContentOf section bytes × IsContent encoding (content_text section) bytes =
    elim c.match-encoding.branch [
      | in-Identity w ↦ decodes encoding section (content_text section) w.in-Identity.is c.in-Ok.ensures
      | in-Base64+in_ok-content_size-in-Base64 w ↦
          let size = w.in_ok-content_size-in-Base64.ensures.size in
          (size.0, size.1, (c.in-Ok.ensures size.0).0 size.1)
    ] in
    subst (λ text. (bytes : List ℕ) × IsContentOf section bytes × IsContent encoding text bytes) (sym c.content-self-inside.ensures) begun
