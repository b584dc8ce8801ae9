use Rattle.std.proofs.Common.{◌≡◌, IfOk, map, subst, rules}
use Rattle.std.proofs.lemmas.List.Sorted.{IsNonDecreasingBy-from_sort_by_key}
use Rattle.clap.specs.Matches.{found_of}
use Rattle.mk_asked.specs.Found.{letters_found}
use Rattle.mk_asked.proofs.InOrder.{in_order}
use Rattle.mk_asked.proofs.letters.letter_words.Goals as goal

pub returns : goal.returns
returns c =
    let after = c.sort_by_key.new.self.items in
    in_order (letters_found (found_of c.args.matches.now)) c.in_ok-placed.placed.items after c.without_places.result c.in_ok-placed.ensures c.sort_by_key.ensures.permutation
    (IsNonDecreasingBy-from_sort_by_key (λ p. p.0) after c.in_ok-sort_by_key.ensures.sorted (λ a r q k. search rules))
    (subst (λ xs. IfOk c.without_places.result (λ words. words.items ≡ map (λ p. p.1) xs)) c.deref.ensures.value c.without_places.ensures)
