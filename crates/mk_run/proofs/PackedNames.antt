-- The parts of a built message say the names of the files that they were made of.
use Rattle.std.proofs.Common.{◌≡◌, ◌≢◌, ◌∷◌, [], ℕ, zero, suc, true, None, Option, Some, List, ap, sym, ◌∙◌}
use Rattle.std.specs.List.{AllByRecursion}
use Rattle.std.specs.Option.{option_map_or}
use Rattle.mk_line.specs.declared.cutting.Ending.{Ending}
use Rattle.mk_line.specs.declared.cutting.Ending.TheVariants.{Missing}
use Rattle.mk_head.specs.Fields.{counted}
use Rattle.mk_tree.specs.Documents.{tree}
use Rattle.mk_tree.specs.Sections.{Placed, section_at}
use Rattle.mk_build.specs.Building.{Attached, is_name}
use Rattle.mk_build.specs.Forwards.{Forwarded, built_with, refusal_with}
use Rattle.mk_build.specs.Multiparts.{Multipart}
use Rattle.mk_mail.specs.BuiltLaws.{AreBytes}
use Rattle.mk_mail.proofs.BuiltMessages.{AreGood, is_built, part_at}
use Rattle.mk_run.specs.AttachLaws.{SaysName}
use Rattle.mk_run.proofs.AttachedNames.{built_says}

-- a name of a part that isn't refused may be written
named_well : (parts : List Attached) (k : ℕ) (a : Attached) (name : List ℕ) → AreGood parts → counted k parts ≡ Some a → a.name ≡ Some name → is_name name ≡ true
named_well [] k a name g e n = absurd cc
named_well (x ∷ parts) zero a name g e n = absurd cc
named_well (x ∷ parts) (suc zero) a name g e n = let same : x ≡ a = cc in ap (λ o. option_map_or is_name o true) (sym (ap (λ (y : Attached). y.name) same ∙ n)) ∙ g.1
named_well (x ∷ parts) (suc (suc k)) a name g e n = named_well parts (suc k) a name g.3 e n

pub packed_says : (eol : Ending) (fields : List (List ℕ)) (parts : List Attached) (messages : List Forwarded) (m : Multipart) → eol ≢ Missing
    → AllByRecursion (λ a. AreBytes a.text) parts → refusal_with fields parts messages m ≡ None
    → (k : ℕ) (a : Attached) (name : List ℕ) (p : Placed) → counted k parts ≡ Some a → a.name ≡ Some name → a.said ≡ None
    → section_at (1 ∷ k ∷ []) (tree (built_with eol fields parts messages m)) ≡ Some p → SaysName name p
packed_says eol fields parts messages m is small none k a name p c n s found =
    let whole = is_built eol fields parts messages m is small none in
    let part = part_at eol fields m parts messages k a c in
    let same : ◌≡◌ {A = Option Placed} (Some part.place) (Some p) = sym part.found ∙ (ap (section_at (1 ∷ k ∷ [])) (sym whole.read) ∙ found) in
    let here : part.place ≡ p = cc in
    built_says eol m.charset a name p (ap (λ (q : Placed). q.entity) (sym here) ∙ part.entity_is) n s (named_well parts k a name whole.good c n)
