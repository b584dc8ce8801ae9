-- How the logic stores an entity in its place: as a tree of numbers that gives it back.
use Rattle.std.specs.Prelude.{◌≡◌, ℕ, zero, suc, Bool, Option, List, refl}
use Rattle.std.specs.Coded.{Coded, code_by, coded×, coded_ℕ, coded_bool, coded_list, coded_option}
use Rattle.std.proofs.Common.{ap, subst}
use base.Stored.{Gv, gnil, gnum, gcons}
use Rattle.mk_line.specs.declared.cutting.Ending.{Ending}
use Rattle.mk_line.specs.declared.cutting.Ending.TheVariants.{Crlf, Lf, Missing}
use Rattle.mk_line.specs.Lines.{TextLine}
use Rattle.mk_head.specs.Split.{Head}
use Rattle.mk_tree.specs.Tree.{Entity, leaf, message, multi, Parts, no_parts, part}
use Rattle.mk_tree.specs.Sections.{Placed}

-- an ending as a number
abbrev ending_number : Ending → ℕ
ending_number Crlf = 0
ending_number Lf = 1
ending_number Missing = 2

-- the ending of a number
abbrev ending_at : ℕ → Ending
ending_at zero = Crlf
ending_at (suc zero) = Lf
ending_at (suc (suc n)) = Missing

-- it is the one that the number was made of
pub ending_back : (e : Ending) → ending_at (ending_number e) ≡ e
ending_back Crlf = refl
ending_back Lf = refl
ending_back Missing = refl

-- lines are told apart by their contents and endings
abbrev pub line_code : Coded TextLine
line_code =
    code_by (List ℕ × Ending) (coded× (coded_list coded_ℕ) (code_by ℕ coded_ℕ ending_number ending_at ending_back))
    (λ l. (l.content, l.ending)) (λ p. record { content = p.0; ending = p.1 }) (λ _. refl)

-- lists of lines are told apart
abbrev pub lines_code : Coded (List TextLine)
lines_code = coded_list line_code

-- heads are told apart by their fields and separators
abbrev pub head_code : Coded Head
head_code =
    code_by (List TextLine × Option TextLine) (coded× lines_code (coded_option line_code))
    (λ h. (h.fields, h.separator)) (λ p. record { fields = p.0; separator = p.1 }) (λ _. refl)

-- what a multipart has beside its head and its parts
abbrev Rest : Type 0
Rest = List ℕ × (List TextLine × Option (TextLine × List TextLine))

-- what a multipart has beside its head and its parts is told apart
abbrev rest_code : Coded Rest
rest_code = coded× (coded_list coded_ℕ) (coded× lines_code (coded_option (coded× line_code lines_code)))

abbrev mutual
  entity_number : Entity → Gv
  entity_number (leaf h ls) = gcons gnil (gcons (head_code.code h) (lines_code.code ls))
  entity_number (message h e) = gcons (gnum 0) (gcons (head_code.code h) (entity_number e))
  entity_number (multi h b pre ps t) = gcons (gcons gnil gnil) (gcons (head_code.code h) (gcons (rest_code.code (b, (pre, t))) (parts_number ps)))

  parts_number : Parts → Gv
  parts_number no_parts = gnil
  parts_number (part l e ps) = gcons (line_code.code l) (gcons (entity_number e) (parts_number ps))

-- the first of a pair
abbrev first : Gv → Gv
first gnil = gnil
first (gnum n) = gnil
first (gcons a b) = a

-- the second of a pair
abbrev second : Gv → Gv
second gnil = gnil
second (gnum n) = gnil
second (gcons a b) = b

pairs_same : (a b c d : Gv) → gcons a b ≡ gcons c d → (a ≡ c) × (b ≡ d)
pairs_same a b c d p = (ap first p, ap second p)

-- a code is empty
abbrev IsNone : Gv → Type 0
IsNone gnil = Unit {0}
IsNone (gnum n) = ⊥
IsNone (gcons a b) = ⊥

-- a code is a number
abbrev IsNumber : Gv → Type 0
IsNumber gnil = ⊥
IsNumber (gnum n) = Unit {0}
IsNumber (gcons a b) = ⊥

-- a code is a pair
abbrev IsPair : Gv → Type 0
IsPair gnil = ⊥
IsPair (gnum n) = ⊥
IsPair (gcons a b) = Unit {0}

mutual
  entity_one : (d e : Entity) → entity_number d ≡ entity_number e → d ≡ e
  entity_one (leaf h ls) (leaf k ms) p =
      let q = ap second p in
      λ i. leaf (head_code.inj h k (ap first q) i) (lines_code.inj ls ms (ap second q) i)
  entity_one (leaf h ls) (message k f) p = absurd (subst IsNone (ap first p) tt)
  entity_one (leaf h ls) (multi k c qre qs u) p = absurd (subst IsNone (ap first p) tt)
  entity_one (message h e) (leaf k ms) p = absurd (subst IsNumber (ap first p) tt)
  entity_one (message h e) (message k f) p =
      let q = ap second p in
      λ i. message (head_code.inj h k (ap first q) i) (entity_one e f (ap second q) i)
  entity_one (message h e) (multi k c qre qs u) p = absurd (subst IsNumber (ap first p) tt)
  entity_one (multi h b pre ps t) (leaf k ms) p = absurd (subst IsPair (ap first p) tt)
  entity_one (multi h b pre ps t) (message k f) p = absurd (subst IsPair (ap first p) tt)
  entity_one (multi h b pre ps t) (multi k c qre qs u) p =
      let q = ap second p in
      let r : ◌≡◌ {A = Rest} (b, (pre, t)) (c, (qre, u)) = rest_code.inj (b, (pre, t)) (c, (qre, u)) (ap first (ap second q)) in
      λ i. multi (head_code.inj h k (ap first q) i) (r i).0 (r i).1.0 (parts_one ps qs (ap second (ap second q)) i) (r i).1.1

  parts_one : (ps qs : Parts) → parts_number ps ≡ parts_number qs → ps ≡ qs
  parts_one no_parts no_parts p = refl
  parts_one no_parts (part m f qs) p = absurd (subst IsNone p tt)
  parts_one (part l e ps) no_parts p = absurd (subst IsPair p tt)
  parts_one (part l e ps) (part m f qs) p =
      let q = ap second p in
      λ i. part (line_code.inj l m (ap first p) i) (entity_one e f (ap first q) i) (parts_one ps qs (ap second q) i)

-- entities are told apart by their codes
pub entity_code : Coded Entity
entity_code = record { code = entity_number; inj = entity_one }

-- and entities in their places
abbrev pub placed_code : Coded Placed
placed_code =
    code_by (ℕ × (Bool × (Bool × Entity))) (coded× coded_ℕ (coded× coded_bool (coded× coded_bool entity_code)))
    (λ p. (p.start, (p.followed, (p.digest, p.entity)))) (λ q. record { start = q.0; followed = q.1.0; digest = q.1.1.0; entity = q.1.1.1 }) (λ _. refl)
