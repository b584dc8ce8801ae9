-- The boundary that is made of what is packed is one.
use Rattle.std.proofs.Common.{◌≡◌, ◌≤◌, ◌==◌, ℕ, zero, suc, true, false, List, [], ◌∷◌, ◌++◌, refl, length, take, arith, nat_le}
use Rattle.std.specs.List.{list_all}
use Rattle.mk_line.specs.Ascii.{space}
use Rattle.mk_head.specs.Boundaries.{ends_in_space, is_boundary, is_boundary_byte}
use Rattle.mk_splice.specs.Readers.{AllGood}
use Rattle.mk_splice.specs.Grammar.{is_hex}
use Rattle.mk_splice.specs.Journals.{digest_of}
use Rattle.mk_splice.proofs.Hexes.{digest_good}
use Rattle.mk_build.specs.Building.{Attached}
use Rattle.mk_pack.specs.OwnBoundary.{all_packed, boundary_beside, measured, own_boundary}

-- digits alone
abbrev pub AreHex : List ℕ → Type 0
AreHex [] = Unit {0}
AreHex (c ∷ cs) = (is_hex c ≡ true) × AreHex cs

pub taken : (k n : ℕ) (cs : List ℕ) → AllGood (λ c. is_hex c ≡ true) n cs → AreHex (take k cs)
taken zero n cs g = tt
taken (suc k) n [] g = tt
taken (suc k) zero (c ∷ cs) g = absurd g
taken (suc k) (suc n) (c ∷ cs) g = (g.0, taken k n cs g.1)

pub stands : (c : ℕ) → is_hex c ≡ true → is_boundary_byte c ≡ true
stands c h = grind (arith, h)

all_stand : (cs : List ℕ) → AreHex cs → list_all is_boundary_byte cs ≡ true
all_stand [] h = refl
all_stand (c ∷ cs) h = rw (stands c h.0, all_stand cs h.1) refl

pub no_space : (c : ℕ) → is_hex c ≡ true → (c == space) ≡ false
no_space c h = grind (arith, h)

ends_well : (c : ℕ) (cs : List ℕ) → (c == space) ≡ false → AreHex cs → ends_in_space (c ∷ cs) ≡ false
ends_well c [] n h = n
ends_well c (d ∷ cs) n h = ends_well d cs (no_space d h.0) h.1

pub few : (k : ℕ) (cs : List ℕ) → length (take k cs) ≤ k
few zero cs = omega arith
few (suc k) [] = omega arith
few (suc k) (c ∷ cs) = omega (arith, few k cs)

short : (n : ℕ) → n ≤ 24 → nat_le (suc (suc n)) 70 ≡ true
short n h = grind (arith, h)

good : (cs : List ℕ) → AreHex cs → length cs ≤ 24 → is_boundary (61 ∷ 95 ∷ cs) ≡ true
good cs h less = rw (all_stand cs h, ends_well 95 cs refl h, short (length cs) less) refl

-- the digest of any text
digest_is_boundary : (text : List ℕ) → is_boundary (61 ∷ 95 ∷ take 24 (digest_of text)) ≡ true
digest_is_boundary text = good (take 24 (digest_of text)) (taken 24 64 (digest_of text) (digest_good text)) (few 24 (digest_of text))

pub own_is_boundary : (fields : List (List ℕ)) (parts : List Attached) → is_boundary (own_boundary fields parts) ≡ true
own_is_boundary fields parts = digest_is_boundary (all_packed fields parts)

pub beside_is_boundary : (section part : List ℕ) → is_boundary (boundary_beside section part) ≡ true
beside_is_boundary section part = digest_is_boundary (measured section ++ measured part)
