-- Names that are tried in turn.
use Rattle.std.proofs.Common.{◌≡◌, ◌<◌, ◌⊎◌, ℕ, false, List, Option, subst, ◌∙◌, inl, inr}
use Rattle.mk_show.specs.declared.placing.Clash.{Clash}
use Rattle.mk_show.specs.declared.placing.Clash.TheVariants.{Over, Numbered, Counted}
use Rattle.mk_show.specs.Folders.{Files, Gets, GetsFront, IsFree, IsThere}
use Rattle.mk_show.specs.Unpacking.{IsNumbered, IsTarget, is_over, most_tries, tried}
use Rattle.mk_show.specs.UnpackClauses.{PutsFront}

-- the first free name is that under which a text is put, where no file is written over
pub numbered_target : (clash : Clash) (files : Option Files) (name target : List ℕ) → is_over clash ≡ false → IsNumbered (most_tries clash) files name target → IsTarget clash files name target
numbered_target Over files name target h n = absurd cc
numbered_target Numbered files name target h n = n
numbered_target Counted files name target h n = n

-- a front of a text under the name of a number, where files have those of all numbers below it
pub front_numbered : (clash : Clash) (old between new : Option Files) (name text target : List ℕ) (number : ℕ) → number < most_tries clash → is_over clash ≡ false → between ≡ old
    → ((n : ℕ) → n < number → IsThere old (tried name n)) → target ≡ tried name number
    → (new ≡ between) ⊎ GetsFront between new target text → (new ≡ old) ⊎ PutsFront clash old new name text
front_numbered clash old between new name text target number within kept same there is h = elim h [
  | inl stays ↦ inl (stays ∙ same)
  | inr put ↦
      let free : IsFree old target = subst (λ files. IsFree files target) same put.free in
      inr (record {
        target = target;
        target_is = numbered_target clash old name target kept (number, record { within = within; free = subst (λ t. IsFree old t) is free; least = there }, is);
        free = free;
        front = put.front;
        rest = put.rest;
        text_is = put.text_is;
        gets = subst (λ files. Gets files new target put.front) same put.gets;
      })
]
