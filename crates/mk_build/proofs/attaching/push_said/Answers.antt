use Rattle.std.proofs.Common.{ap, sym, ◌∙◌, ◌++◌, [], codes}
use Rattle.std.specs.Option.{option_map, option_map_or}
use Rattle.mk_line.proofs.Joined.{on_ok, joined}
use Rattle.mk_param.specs.Percents.{percent_encoded}
use Rattle.mk_build.proofs.attaching.push_said.Goals as goal

pub returns-in_ok-extend_from_slice-in-Some : goal.returns-in_ok-extend_from_slice-in-Some
returns-in_ok-extend_from_slice-in-Some c =
    on_ok c.push_percent.result _ _ c.push_percent.ensures.appended
    (λ h.
    joined c.args.text.now.items (codes "; filename*=utf-8''") (percent_encoded c.in-Some.said.now) c.extend_from_slice.new.self.items c.push_percent.new.text.items c.in_ok-extend_from_slice-in-Some.ensures.items h
    ∙ ap (λ o. c.args.text.now.items ++ option_map_or (λ said. codes "; filename*=utf-8''" ++ percent_encoded said) (option_map (λ v. v.now) o) []) (sym c.in-Some.is))
