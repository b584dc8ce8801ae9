-- The boundary of a multipart that is read: its delimiter is a line, and a mark.
use Rattle.std.proofs.Common.{◌≡◌, ◌==◌, ◌&&◌, ◌++◌, if◌then◌else◌, ℕ, zero, suc, Bool, true, false, not, Option, None, Some, List, [], ◌∷◌, refl, ap, sym, ◌∙◌, subst, inl, inr, codes, length, length-append, arith}
use Rattle.std.proofs.lemmas.Bool.{cases_Bool, or_parts}
use Rattle.std.proofs.lemmas.Slice.Eq.{bytes_eq-Decides}
use Rattle.std.specs.List.{list_all, list_any}
use Rattle.mk_line.specs.Ascii.{carriage_return, is_blank}
use Rattle.std.specs.Str.{bytes_eq}
use Rattle.mk_line.specs.declared.cutting.Ending.{Ending}
use Rattle.mk_line.specs.declared.cutting.Ending.TheVariants.{Crlf, Lf, Missing}
use Rattle.mk_line.specs.declared.marks.Mark.TheVariants.{Part, Close}
use Rattle.mk_line.specs.Lines.{TextLine, text_line, is_nil, is_open, has_line_feed, ends_in_return, IsLine}
use Rattle.mk_line.specs.Marks.{trimmed_before, trimmed, dashed, mark, delimiter_line}
use Rattle.mk_line.proofs.Blanks.{trimmed_kept, untold}
use Rattle.mk_head.specs.declared.encodings.Encoding.{Encoding}
use Rattle.mk_head.specs.Split.{is_start, is_more}
use Rattle.mk_head.specs.Fields.{continuations, field_text, is_named}
use Rattle.mk_head.specs.Unfolding.{contents, value_in}
use Rattle.mk_line.specs.Parting.{following}
use Rattle.mk_head.specs.Values.{param_of, content_type_of}
use Rattle.mk_head.specs.Types.{field_value, type_by, header_encoding, boundary_of}
use Rattle.std.specs.Prelude.{unwrap_or}
use Rattle.mk_head.proofs.Bytes.{parameters_bytes, boundaries_trimmed}
use Rattle.mk_tree.specs.Kinds.{Leaf, Message, Multi, has_boundary, holds_message, kind_of, kind, kind_at}
use Rattle.mk_decide.proofs.Openings.{Each}
use Rattle.mk_decide.proofs.Renaming.{both, feed_tested}

-- some byte is a carriage return
abbrev pub has_return : List ℕ → Bool
has_return cs = list_any (λ c. c == carriage_return) cs

-- what is known of a boundary
pub record IsBound (b : List ℕ) : Type 0 where
  pub trimmed_so : trimmed b ≡ b
  pub some : is_nil b ≡ false
  pub no_return : has_return b ≡ false
  pub no_feed : has_line_feed b ≡ false

-- a byte that is no line feed
abbrev no_feed_byte : ℕ → Bool
no_feed_byte byte = not (byte == 10)

and_true : (a b : Bool) → a ≡ true → b ≡ true → (a && b) ≡ true
and_true a b h k = rw (h, k) refl

feed_pass : (cs : List ℕ) → has_line_feed cs ≡ false → list_all no_feed_byte cs ≡ true
feed_pass [] h = refl
feed_pass (c ∷ cs) h = let p = or_parts (c == 10) (has_line_feed cs) h in and_true (no_feed_byte c) (list_all no_feed_byte cs) (ap not p.0) (feed_pass cs p.1)

join_pass : (f : ℕ → Bool) (xs ys : List ℕ) → list_all f xs ≡ true → list_all f ys ≡ true → list_all f (xs ++ ys) ≡ true
join_pass f [] ys h k = k
join_pass f (x ∷ xs) ys h k = let p = both (f x) (list_all f xs) h in and_true (f x) (list_all f (xs ++ ys)) p.0 (join_pass f xs ys p.1 k)

after_pass : (f : ℕ → Bool) (byte : ℕ) (xs : List ℕ) → list_all f xs ≡ true → list_all f (unwrap_or (following byte xs) []) ≡ true
after_pass f byte [] h = refl
after_pass f byte (x ∷ xs) h =
    let p = both (f x) (list_all f xs) h in
    elim (cases_Bool (x == byte)) [
      | inl k ↦ rw k p.1
      | inr k ↦ rw k (after_pass f byte xs p.1)
    ]

before_pass : (f : ℕ → Bool) (x : ℕ) (ys : List ℕ) → f x ≡ true → list_all f ys ≡ true → list_all f (trimmed_before x ys) ≡ true
before_pass f x [] h k =
    elim (cases_Bool (is_blank x)) [
      | inl b ↦ rw b refl
      | inr b ↦ rw b (and_true (f x) true h refl)
    ]
before_pass f x (y ∷ ys) h k = and_true (f x) (list_all f (y ∷ ys)) h k

trimmed_pass : (f : ℕ → Bool) (xs : List ℕ) → list_all f xs ≡ true → list_all f (trimmed xs) ≡ true
trimmed_pass f [] h = refl
trimmed_pass f (x ∷ xs) h = let p = both (f x) (list_all f xs) h in before_pass f x (trimmed xs) p.0 (trimmed_pass f xs p.1)

-- no byte of a value is a line feed
more_pass : (ls : List TextLine) → Each ls → list_all no_feed_byte (contents (continuations ls)) ≡ true
more_pass [] e = refl
more_pass (l ∷ ls) e =
    elim (cases_Bool (is_more l)) [
      | inl h ↦ rw h (join_pass no_feed_byte l.content (contents (continuations ls)) (feed_pass l.content e.0.no_feed) (more_pass ls e.1))
      | inr h ↦ rw h refl
    ]

-- what a value, where there is one, passes
abbrev ValuePasses : (ℕ → Bool) → Option (List ℕ) → Type 0
ValuePasses f None = Unit {0}
ValuePasses f (Some value) = list_all f value ≡ true

value_by : (f : ℕ → Bool) (t : Bool) (value : List ℕ) (o : Option (List ℕ)) → list_all f value ≡ true → ValuePasses f o → ValuePasses f (if t then Some value else o)
value_by f true value o h k = h
value_by f false value o h k = k

value_pass : (name : List ℕ) (ls : List TextLine) → Each ls → ValuePasses no_feed_byte (field_value name ls)
value_pass name [] e = tt
value_pass name (l ∷ ls) e =
    value_by no_feed_byte (is_start l && is_named name (field_text l [])) (value_in (l ∷ continuations ls)) (field_value name ls)
    (after_pass no_feed_byte 58 (l.content ++ contents (continuations ls)) (join_pass no_feed_byte l.content (contents (continuations ls)) (feed_pass l.content e.0.no_feed) (more_pass ls e.1)))
    (value_pass name ls e.1)

param_pass : (f : ℕ → Bool) (value name : List ℕ) (o : Option (List ℕ)) → list_all f value ≡ true → param_of name (content_type_of value).params ≡ o → list_all f (trimmed (unwrap_or o [])) ≡ true
param_pass f value name None h e = refl
param_pass f value name (Some b) h e = trimmed_pass f b (parameters_bytes f value name b h e)

type_pass : (f : ℕ → Bool) (d : Bool) (o : Option (List ℕ)) → ValuePasses f o → list_all f (boundary_of (type_by d o)) ≡ true
type_pass f true None h = refl
type_pass f false None h = refl
type_pass f d (Some value) h = param_pass f value (codes "boundary") (param_of (codes "boundary") (content_type_of value).params) h refl

-- a kind that is a multipart's
multi_by : (c h : Bool) (x b : List ℕ) (f g : Bool) → (if c then Multi x f else (if h then Message else Leaf)) ≡ Multi b g → (c ≡ true) × (x ≡ b)
multi_by true h x b f g e = (refl, cc e)
multi_by false true x b f g e = cc
multi_by false false x b f g e = cc

not_false : (t : Bool) → not t ≡ true → t ≡ false
not_false true h = cc
not_false false h = refl

type_bound : (d : Bool) (o : Option (List ℕ)) (e : Encoding) (b : List ℕ) (g : Bool) → ValuePasses no_feed_byte o → kind_of (type_by d o) e ≡ Multi b g → IsBound b
type_bound d o e b g v k =
    let t = type_by d o in
    let m = multi_by (bytes_eq t.main (codes "multipart") && has_boundary t) (holds_message t e) (boundary_of t) b (bytes_eq t.sub (codes "digest")) g k in
    let h = both (bytes_eq t.main (codes "multipart")) (has_boundary t) m.0 in
    let p = both (not (is_nil (boundary_of t))) (not (has_return (boundary_of t))) h.1 in
    subst IsBound m.1 (record {
      trimmed_so = boundaries_trimmed t;
      some = not_false (is_nil (boundary_of t)) p.0;
      no_return = not_false (has_return (boundary_of t)) p.1;
      no_feed = feed_tested no_feed_byte (boundary_of t) refl (type_pass no_feed_byte d o v);
    })

kind_bound : (fields : List TextLine) (d : Bool) (b : List ℕ) (g : Bool) → Each fields → kind fields d ≡ Multi b g → IsBound b
unfolding kind
kind_bound fields d b g e k = type_bound d (field_value (codes "Content-Type") fields) (header_encoding fields) b g (value_pass (codes "Content-Type") fields e) k

leaf_bound : {A : Type 0} (b : List ℕ) (g : Bool) → Leaf ≡ Multi b g → A
leaf_bound b g e = cc

pub read_bound : (n : ℕ) (fields : List TextLine) (d : Bool) (b : List ℕ) (g : Bool) → Each fields → kind_at n fields d ≡ Multi b g → IsBound b
read_bound zero fields d b g e k = leaf_bound b g k
read_bound (suc n) fields d b g e k = kind_bound fields d b g e k

-- made lines are lines
pub return_ends : (cs : List ℕ) → has_return cs ≡ false → ends_in_return cs ≡ false
return_ends [] h = refl
return_ends (c ∷ []) h = (or_parts (c == 13) false h).0
return_ends (c ∷ d ∷ cs) h = return_ends (d ∷ cs) (or_parts (c == 13) (has_return (d ∷ cs)) h).1

pub made_line : (eol : Ending) (cs : List ℕ) → is_open eol ≡ false → has_line_feed cs ≡ false → ends_in_return cs ≡ false → IsLine (text_line cs eol)
made_line Crlf cs o f r = record { no_feed = f; ends_well = tt }
made_line Lf cs o f r = record { no_feed = f; ends_well = r }
made_line Missing cs o f r = cc

pub delimiter_is : (eol : Ending) (b : List ℕ) → is_open eol ≡ false → IsBound b → IsLine (delimiter_line eol b)
delimiter_is eol b o h = made_line eol (dashed b) o h.no_feed (return_ends (dashed b) h.no_return)

-- made marks are marks
before_hyphens : (b : List ℕ) → trimmed_before 45 (trimmed_before 45 b) ≡ dashed b
before_hyphens [] = refl
before_hyphens (c ∷ b) = refl

pub delimiter_mark : (b : List ℕ) → trimmed b ≡ b → mark b (dashed b) ≡ Part
delimiter_mark b h =
    let t : trimmed (dashed b) ≡ dashed b = ap (λ c. trimmed_before 45 (trimmed_before 45 c)) h ∙ before_hyphens b in
    rw ((bytes_eq-Decides (trimmed (dashed b)) (dashed b)).1 t) refl

two_hyphens : (b : List ℕ) → b ++ (45 ∷ 45 ∷ []) ≡ (b ++ (45 ∷ [])) ++ (45 ∷ [])
two_hyphens [] = refl
two_hyphens (c ∷ b) = ap (λ cs. c ∷ cs) (two_hyphens b)

longer : (b : List ℕ) → dashed b ++ (45 ∷ 45 ∷ []) ≡ dashed b → ⊥
longer b e = omega (arith, ap length e, length-append (dashed b) (45 ∷ 45 ∷ []))

pub close_mark_is : (b : List ℕ) → mark b (dashed b ++ (45 ∷ 45 ∷ [])) ≡ Close
close_mark_is b =
    let whole = dashed b ++ (45 ∷ 45 ∷ []) in
    let t : trimmed (dashed b ++ (45 ∷ 45 ∷ [])) ≡ dashed b ++ (45 ∷ 45 ∷ []) = ap trimmed (two_hyphens (dashed b)) ∙ (trimmed_kept (dashed b ++ (45 ∷ [])) 45 refl ∙ sym (two_hyphens (dashed b))) in
    let other : bytes_eq (trimmed (dashed b ++ (45 ∷ 45 ∷ []))) (dashed b) ≡ false = untold (trimmed (dashed b ++ (45 ∷ 45 ∷ []))) (dashed b) (λ e. longer b (sym t ∙ e)) in
    let same : bytes_eq (trimmed (dashed b ++ (45 ∷ 45 ∷ []))) (dashed b ++ (45 ∷ 45 ∷ [])) ≡ true = (bytes_eq-Decides (trimmed (dashed b ++ (45 ∷ 45 ∷ []))) (dashed b ++ (45 ∷ 45 ∷ []))).1 t in
    rw (other, same) refl
