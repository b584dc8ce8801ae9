use Rattle.std.proofs.Common.{ap, ◌∙◌, ◌++◌, if◌then◌else◌, None, [], codes}
use Rattle.mk_line.specs.Lines.{ending_bytes}
use Rattle.mk_build.specs.BuildViews.{written_of}
use Rattle.std.specs.Option.{option_map, option_map_or}
use Rattle.mk_build.specs.Multiparts.{charset_param, is_text}
use Rattle.mk_line.proofs.Joined.{on_ok, written, joined}
use Rattle.mk_build.proofs.attaching.push_type.Goals as goal

pub returns : goal.returns
returns c =
    let a = written_of c.args.written.now in
    let charset = charset_param (if is_text a.media then option_map (λ v. v.now) c.args.charset else None) in
    let name = option_map_or (λ n. codes "; name=\"" ++ (n ++ codes "\"")) a.name [] in
    let t = c.args.text.now.items in
    let end = ending_bytes c.args.eol in
    on_ok c.extend_from_slice-3.result _ _ (written c.extend_from_slice-3.result c.push_name.new.text.items c.bytes.result.now c.extend_from_slice-3.new.self.items c.extend_from_slice-3.ensures.items)
    (λ h.
    joined t (codes "Content-Type: ") (a.media ++ (charset ++ (name ++ end))) c.extend_from_slice.new.self.items c.extend_from_slice-3.new.self.items c.in_ok-extend_from_slice.ensures.items
    (joined c.extend_from_slice.new.self.items a.media (charset ++ (name ++ end)) c.extend_from_slice-2.new.self.items c.extend_from_slice-3.new.self.items c.in_ok-extend_from_slice-2.ensures.items
    (joined c.extend_from_slice-2.new.self.items charset (name ++ end) c.push_charset.new.text.items c.extend_from_slice-3.new.self.items (c.in_ok-push_charset.ensures ∙ ap (λ o. c.extend_from_slice-2.new.self.items ++ charset_param o) c.charset_for.ensures)
    (joined c.push_charset.new.text.items (name) end c.push_name.new.text.items c.extend_from_slice-3.new.self.items c.in_ok-push_name.ensures (h ∙ ap (λ x. c.push_name.new.text.items ++ x) c.bytes.ensures)))))
