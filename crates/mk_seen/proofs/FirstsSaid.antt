-- What is said of messages that don't come again, in turn.
use Rattle.std.proofs.Common.{◌≡◌, ◌++◌, ◌||◌, ◌∙◌, if◌then◌else◌, ℕ, suc, Bool, true, false, List, [], ◌∷◌, Option, None, Some, refl, sym, ap, append_assoc, append-nil}
use Rattle.std.specs.FinSet as set
use Rattle.std.specs.List.{list_any}
use Rattle.std.specs.Option.{option_map_or}
use Rattle.std.specs.Ordering.{eq_by_cmp, nat_cmp}
use Rattle.std.specs.Cmp.Lexicographic.{nat_list_cmp_total, slice_cmp}
use Rattle.mk_field.specs.Filtering.{PlainFilter}
use Rattle.mk_transfer.specs.Said.{Said, said_after}
use Rattle.mk_messages.specs.Working.{WorksOn}
use Rattle.mk_seen.specs.declared.ids.IdFile.{IdFile}
use Rattle.mk_seen.specs.declared.listing.ListedSoFar.{ListedSoFar}
use Rattle.mk_seen.specs.FirstLaws.{FiltersFirst, FirstsAreFiltered, FirstsAreListed, ListsFirst, NoneComesAgain, seen_after_all}
use Rattle.mk_seen.specs.Firsts.{first_lines, new_lines, said_of_firsts, said_once}
use Rattle.mk_seen.specs.SeenIds.{Seen, is_repeated, message_id, new_line, seen_after}

-- what was listed of messages in turn
listed : (line : ℕ → ℕ → List ℕ → List ℕ) (number : ℕ) (ms : List (List ℕ)) (said : Said) (old new : ListedSoFar)
    → WorksOn ListedSoFar (ListsFirst line) number ms said old new → said ≡ record { output = first_lines line old.seen number old.start ms; errors = [] }
listed line number [] said old new w = w.0
listed line number (m ∷ ms) said old new (first, more, between, (is, seen, start), rest, all) =
    let more_is = listed line (suc number) ms more between new rest in
    let one : Said = record { output = if is_repeated old.seen m then [] else line number old.start m; errors = [] } in
    all ∙ (ap (λ s. said_after s more) is ∙ (ap (said_after one) more_is ∙ (
    ap (λ seen_now. said_after one (record { output = first_lines line seen_now (suc number) between.start ms; errors = [] })) seen
    ∙ ap (λ start_now. said_after one (record { output = first_lines line (seen_after old.seen m) (suc number) start_now ms; errors = [] })) start)))

pub firsts_are_listed_lem : FirstsAreListed
firsts_are_listed_lem = listed

-- what was said of messages in turn
filtered : (f : PlainFilter) (number : ℕ) (ms : List (List ℕ)) (said : Said) (old new : IdFile)
    → WorksOn IdFile (FiltersFirst f) number ms said old new → (said ≡ said_of_firsts f old.seen number ms) × (new.lines.items ≡ old.lines.items ++ new_lines old.seen ms)
filtered f number [] said old new w = (w.0, ap (λ (d : IdFile). d.lines.items) w.1 ∙ sym (append-nil old.lines.items))
filtered f number (m ∷ ms) said old new (first, more, between, (is, seen, lines), rest, all) =
    let after = filtered f (suc number) ms more between new rest in (
      all ∙ (ap (λ s. said_after s more) is ∙ (ap (said_after (said_once f old.seen number m)) after.0 ∙ ap (λ seen_now. said_after (said_once f old.seen number m) (said_of_firsts f seen_now (suc number) ms)) seen)),
      after.1 ∙ (ap (λ ls. ls ++ new_lines between.seen ms) lines ∙ (ap (λ seen_now. (old.lines.items ++ new_line old.seen m) ++ new_lines seen_now ms) seen ∙ append_assoc old.lines.items (new_line old.seen m) (new_lines (seen_after old.seen m) ms))),
    )

pub firsts_are_filtered_lem : FirstsAreFiltered
firsts_are_filtered_lem = filtered

-- ---- what counts as seen

abbrev same_id : List ℕ → Option (List ℕ) → Bool
same_id id o = option_map_or (eq_by_cmp (slice_cmp nat_cmp) id) o false

or_swapped : (a b c : Bool) → ((a || b) || c) ≡ (b || (a || c))
or_swapped true true c = refl
or_swapped true false c = refl
or_swapped false true c = refl
or_swapped false false c = refl

inserted : (seen : Seen) (o : Option (List ℕ)) (id : List ℕ) → set.contains (option_map_or (set.insert seen) o seen) id ≡ (same_id id o || set.contains seen id)
inserted seen None id = refl
inserted seen (Some k) id = set.contains-insert nat_list_cmp_total seen k id

none_again : (seen : Seen) (ms : List (List ℕ)) (id : List ℕ) → set.contains (seen_after_all seen ms) id ≡ (set.contains seen id || list_any (λ m. same_id id (message_id m)) ms)
none_again seen [] id = or_false (set.contains seen id)
  where
    or_false : (b : Bool) → b ≡ (b || false)
    or_false true = refl
    or_false false = refl
none_again seen (m ∷ ms) id =
    none_again (seen_after seen m) ms id
    ∙ (ap (λ b. b || list_any (λ n. same_id id (message_id n)) ms) (inserted seen (message_id m) id) ∙ or_swapped (same_id id (message_id m)) (set.contains seen id) (list_any (λ n. same_id id (message_id n)) ms))

pub none_comes_again_lem : NoneComesAgain
none_comes_again_lem = none_again
