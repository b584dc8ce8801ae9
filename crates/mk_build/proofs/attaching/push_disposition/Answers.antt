use Rattle.std.proofs.Common.{ap, sym, ◌∙◌, ◌++◌, [], codes}
use Rattle.std.specs.Option.{option_map, option_map_or}
use Rattle.mk_line.specs.Lines.{ending_bytes}
use Rattle.mk_param.specs.Percents.{percent_encoded}
use Rattle.mk_build.specs.Building.{disposition_line}
use Rattle.mk_line.proofs.Joined.{on_ok, written, joined}
use Rattle.mk_build.proofs.attaching.push_disposition.Goals as goal

pub returns-in_ok-push_said-in-Some : goal.returns-in_ok-push_said-in-Some
returns-in_ok-push_said-in-Some c =
    let end = ending_bytes c.args.eol in
    let name = c.in-Some.name.items in
    let said = option_map (λ v. v.now) c.args.written.now.said in
    let again = option_map_or (λ text. codes "; filename*=utf-8''" ++ percent_encoded text) said [] in
    let last = c.extend_from_slice-in-Some-3.new.self.items in
    let t = c.args.text.now.items in
    on_ok c.extend_from_slice-in-Some-3.result _ _ (written c.extend_from_slice-in-Some-3.result c.push_said.new.text.items c.bytes.result.now last c.extend_from_slice-in-Some-3.ensures.items)
    (λ h.
    joined t (codes "Content-Disposition: attachment; filename=\"") (name ++ (codes "\"" ++ (again ++ end))) c.extend_from_slice.new.self.items last c.in_ok-extend_from_slice-in-Some.ensures.items
    (joined c.extend_from_slice.new.self.items name (codes "\"" ++ (again ++ end)) c.extend_from_slice-in-Some.new.self.items last (c.in_ok-extend_from_slice-in-Some-2.ensures.items ∙ ap (λ x. c.extend_from_slice.new.self.items ++ x) c.deref.ensures.value)
    (joined c.extend_from_slice-in-Some.new.self.items (codes "\"") (again ++ end) c.extend_from_slice-in-Some-2.new.self.items last c.in_ok-extend_from_slice-in-Some-3.ensures.items
    (joined c.extend_from_slice-in-Some-2.new.self.items again end c.push_said.new.text.items last c.in_ok-push_said-in-Some.ensures (h ∙ ap (λ x. c.push_said.new.text.items ++ x) c.bytes.ensures))))
    ∙ ap (λ o. t ++ disposition_line c.args.eol (option_map (λ v. v.items) o) said) (sym c.in-Some.is))
