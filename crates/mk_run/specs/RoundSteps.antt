-- Fields of a message that are filtered as one step of its history (own).
use Rattle.std.specs.Prelude.{if◌then◌else◌, ◌++◌, ℕ, Result, Ok, Err, List, [], ◌∷◌}
use Rattle.mk_tree.specs.Documents.{printed}
use Rattle.mk_splice.specs.Splices.{Splice}
use Rattle.mk_decide.specs.Edits.{NoSuchSection, Refusal}
use Rattle.mk_edit.specs.Groups.{Together}
use Rattle.mk_edit.specs.History.{History}
use Rattle.mk_edit.specs.Histories.{text_now, with_step}
use Rattle.mk_mail.specs.Apart.{has_section}
use Rattle.mk_mail.specs.Rounds.{PlainRound, round_outcome}
use Rattle.mk_report.specs.Reports.{message_line_at}

-- a text that was made and the splices that led to it, or the reason against the first edit that was refused
abbrev pub Led : Type 0
Led = Result (List ℕ × List Splice) Refusal

-- with the splices before
abbrev pub led_after : List Splice → Led → Led
led_after ss (Ok p) = Ok (p.0, ss ++ p.1)
led_after ss (Err reason) = Err reason

-- what is made of the text that edits gave
abbrev pub led_on : Together → (List ℕ → Led) → Led
led_on (Ok p) f = led_after p.1 (f (printed p.0))
led_on (Err q) f = Err q.1

-- what rounds at a path make of a text, each of what the one before it made, and the splices of all of them
abbrev pub rounds_led : List ℕ → List PlainRound → List ℕ → Led
rounds_led path [] text = Ok (text, [])
rounds_led path (r ∷ rs) text = led_on (round_outcome path text r) (rounds_led path rs)

-- what that is in a history: one step
abbrev pub led_step : History → Led → Result History Refusal
led_step h (Ok p) = Ok (with_step h p.0 p.1)
led_step h (Err reason) = Err reason

-- what rounds at a section make of a history: one step more; where there is no such section they are refused
abbrev pub rounds_step : List ℕ → List PlainRound → History → Result History Refusal
rounds_step path rs h = if has_section path (text_now h) then led_step h (rounds_led path rs (text_now h)) else Err NoSuchSection

-- what is reported of them, as of a message whose fields are filtered by itself
abbrev pub round_lines : List ℕ → Result History Refusal → List ℕ
round_lines path (Ok h) = []
round_lines path (Err reason) = message_line_at path 1 reason
