-- Names of fields: those of a message, and what letters make of them.
use Rattle.std.proofs.Common.{◌≡◌, ◌&&◌, ◌||◌, ◌⊎◌, ◌++◌, ℕ, Bool, true, false, not, List, [], ◌∷◌, Option, None, Some, refl, ap, sym, ◌∙◌, subst, inl, inr, map, drop, filter, append_assoc, append-nil, ◌==◌, zero, suc}
use Rattle.std.specs.List.{list_any}
use Rattle.std.proofs.lemmas.Bool.{cases_Bool, or_parts, eqb-true}
use Rattle.std.proofs.lemmas.List.Elements.{filter-append}
use Rattle.std.proofs.lemmas.List.{map-append}
use Rattle.std.specs.Option.{option_map_or}
use Rattle.mk_line.specs.declared.cutting.Ending.{Ending}
use Rattle.mk_line.specs.Lines.{cut}
use Rattle.mk_head.specs.Fields.{FieldText, fields_of}
use Rattle.mk_head.specs.Split.{fields_from}
use Rattle.mk_head.specs.Splits.{IsRun}
use Rattle.mk_tree.specs.Documents.{tree}
use Rattle.mk_tree.specs.Sections.{Placed, head_text, section_at, section_fields}
use Rattle.mk_tree.specs.Tree.{field_lines}
use Rattle.mk_decide.proofs.FieldPlaces.{run_all}
use Rattle.mk_decide.proofs.SectionSites.{head_cut, head_is_run, site}
use Rattle.mk_mail.proofs.PartTypes.{both}
use Rattle.mk_mail.specs.Letters.{PlainPattern, Work, dropped, fields_at, goes, names_at, others, prepending, respelling, respelt, same_name, then_do, those, with_first}
use Rattle.mk_mail.specs.Prepended.{PlainPrepend}
use Rattle.mk_decide.specs.Edits.{PlainEdit, RemoveField}
use Rattle.mk_mailbox.proofs.Intaking.{true_or_false}

-- the fields of a section are those of the lines of its head
pub fields_read : (path text : List ℕ) (p : Placed) → section_at path (tree text) ≡ Some p → fields_of (fields_from false (cut (head_text p))) ≡ section_fields p
fields_read path text p e =
    let s = site text path p e in
    let lines = head_cut text path p s in
    ap (λ ls. fields_of (fields_from false ls)) lines ∙ ap fields_of (run_all false (field_lines p.entity) (subst (IsRun false) lines (head_is_run text path p s)))

-- the same of those at a path
pub fields_found : (path text head : List ℕ) (p : Placed) → Some p ≡ section_at path (tree text) → head ≡ head_text p → fields_of (fields_from false (cut head)) ≡ fields_at path text
fields_found path text head p e h = ap (λ b. fields_of (fields_from false (cut b))) h ∙ (fields_read path text p (sym e) ∙ ap (λ o. option_map_or section_fields o []) e)

pub names_found : (path text head : List ℕ) (p : Placed) → Some p ≡ section_at path (tree text) → head ≡ head_text p → map (λ f. f.name) (fields_of (fields_from false (cut head))) ≡ names_at path text
names_found path text head p e h = ap (λ fs. map (λ f. f.name) fs) (fields_found path text head p e h)

-- work after other work
pub chained : (old mid : Work) (f g : List (List ℕ) → Work) → mid ≡ then_do old g → then_do mid f ≡ then_do old (λ names. then_do (g names) f)
chained old mid f g e = ap (λ w. then_do w f) e ∙ (λ i. record { names = (f (g old.names).names).names; edits = append_assoc old.edits (g old.names).edits (f (g old.names).names).edits i })

-- whether one is there, once one more has come
pub any_on : {X : Type 0} (p : X → Bool) (xs : List X) (x : X) → list_any p (xs ++ x ∷ []) ≡ (list_any p xs || p x)
any_on p [] x = or_none (p x)
  where
    or_none : (b : Bool) → (b || false) ≡ b
    or_none true = refl
    or_none false = refl
any_on p (y ∷ ys) x = rw (any_on p ys x) (or_apart (p y) (list_any p ys) (p x))
  where
    or_apart : (a b d : Bool) → (a || (b || d)) ≡ ((a || b) || d)
    or_apart true b d = refl
    or_apart false b d = refl

no_such : {X : Type 0} (p : X → Bool) (xs : List X) → list_any p xs ≡ false → filter p xs ≡ []
no_such p [] h = refl
no_such p (x ∷ xs) h = let t = or_parts (p x) (list_any p xs) h in rw t.0 (no_such p xs t.1)

drop_first : {X : Type 0} (p : X → Bool) (xs zs : List X) → list_any p xs ≡ true → drop 1 (filter p xs ++ zs) ≡ drop 1 (filter p xs) ++ zs
drop_first p [] zs h = cc
drop_first p (x ∷ xs) zs h =
    elim (cases_Bool (p x)) [
      | inl t ↦ rw t refl
      | inr n ↦ rw n (drop_first p xs zs (rw n at h))
    ]

filter_hit : {X : Type 0} (p : X → Bool) (x : X) → p x ≡ true → filter p (x ∷ []) ≡ x ∷ []
filter_hit p x t = rw t refl

filter_miss : {X : Type 0} (p : X → Bool) (x : X) → p x ≡ false → filter p (x ∷ []) ≡ []
filter_miss p x n = rw n refl

pub both_true : (a b : Bool) → (a && b) ≡ true → (a ≡ true) × (b ≡ true)
both_true true b h = (refl, h)
both_true false b h = absurd (cc)

-- one more of a name, of which one was there, goes
later_gone : (name : List ℕ) (xs : List (List ℕ)) (x : List ℕ) (t : Bool) → t ≡ list_any (same_name name) xs → (t && same_name name x) ≡ true → drop 1 (those name (xs ++ x ∷ [])) ≡ drop 1 (those name xs) ++ x ∷ []
later_gone name xs x t e h =
    let b = both_true t (same_name name x) h in
    ap (drop 1) (filter-append (same_name name) xs (x ∷ []))
    ∙ (drop_first (same_name name) xs (filter (same_name name) (x ∷ [])) (sym e ∙ b.0) ∙ ap (λ ys. drop 1 (those name xs) ++ ys) (filter_hit (same_name name) x b.1))

kept_by : (name : List ℕ) (xs : List (List ℕ)) (x : List ℕ) (t : Bool) → t ≡ list_any (same_name name) xs → (t && same_name name x) ≡ false → (same_name name x ≡ true) ⊎ (same_name name x ≡ false) → drop 1 (those name (xs ++ x ∷ [])) ≡ drop 1 (those name xs)
kept_by name xs x true e h (inl s) = true_or_false (same_name name x) s h
kept_by name xs x false e h (inl s) =
    let none = no_such (same_name name) xs (sym e) in
    ap (drop 1) (filter-append (same_name name) xs (x ∷ []) ∙ (ap (λ ys. ys ++ filter (same_name name) (x ∷ [])) none ∙ filter_hit (same_name name) x s)) ∙ ap (drop 1) (sym none)
kept_by name xs x t e h (inr n) =
    ap (drop 1) (filter-append (same_name name) xs (x ∷ []) ∙ (ap (λ ys. those name xs ++ ys) (filter_miss (same_name name) x n) ∙ append-nil (those name xs)))

-- any other stays
pub later_kept : (name : List ℕ) (xs : List (List ℕ)) (x : List ℕ) (t : Bool) → t ≡ list_any (same_name name) xs → (t && same_name name x) ≡ false → drop 1 (those name (xs ++ x ∷ [])) ≡ drop 1 (those name xs)
later_kept name xs x t e h = kept_by name xs x t e h (cases_Bool (same_name name x))

others_hit : (name : List ℕ) (xs : List (List ℕ)) (x : List ℕ) → same_name name x ≡ true → others name (xs ++ x ∷ []) ≡ others name xs
others_hit name xs x t = filter-append (λ own. not (same_name name own)) xs (x ∷ []) ∙ (ap (λ ys. others name xs ++ ys) (filter_miss (λ own. not (same_name name own)) x (ap not t)) ∙ append-nil (others name xs))

others_miss : (name : List ℕ) (xs : List (List ℕ)) (x : List ℕ) → same_name name x ≡ false → others name (xs ++ x ∷ []) ≡ others name xs ++ x ∷ []
others_miss name xs x n = filter-append (λ own. not (same_name name own)) xs (x ∷ []) ∙ ap (λ ys. others name xs ++ ys) (filter_hit (λ own. not (same_name name own)) x (ap not n))

first_gone : (name : List ℕ) (xs : List (List ℕ)) (x : List ℕ) (t : Bool) → t ≡ list_any (same_name name) xs → (t && same_name name x) ≡ true → with_first name (xs ++ x ∷ []) ≡ with_first name xs
first_gone name xs x t e h = let b = both_true t (same_name name x) h in gone name xs x (sym e ∙ b.0) b.1
  where
    gone : (name : List ℕ) (xs : List (List ℕ)) (x : List ℕ) → list_any (same_name name) xs ≡ true → same_name name x ≡ true → with_first name (xs ++ x ∷ []) ≡ with_first name xs
    gone name [] x h s = cc
    gone name (y ∷ ys) x h s =
        elim (cases_Bool (same_name name y)) [
          | inl t ↦ rw t (ap (λ (zs : List (List ℕ)). y ∷ zs) (others_hit name ys x s))
          | inr n ↦ rw n (ap (λ (zs : List (List ℕ)). y ∷ zs) (gone name ys x (rw n at h) s))
        ]

first_alone : (name x : List ℕ) → with_first name (x ∷ []) ≡ x ∷ []
first_alone name x =
    elim (cases_Bool (same_name name x)) [
      | inl t ↦ rw t refl
      | inr n ↦ rw n refl
    ]

pub first_kept : (name : List ℕ) (xs : List (List ℕ)) (x : List ℕ) (t : Bool) → t ≡ list_any (same_name name) xs → (t && same_name name x) ≡ false → with_first name (xs ++ x ∷ []) ≡ with_first name xs ++ x ∷ []
first_kept name xs x t e h = kept name xs x (ap (λ b. b && same_name name x) (sym e) ∙ h)
  where
    kept : (name : List ℕ) (xs : List (List ℕ)) (x : List ℕ) → (list_any (same_name name) xs && same_name name x) ≡ false → with_first name (xs ++ x ∷ []) ≡ with_first name xs ++ x ∷ []
    kept name [] x h = first_alone name x
    kept name (y ∷ ys) x h =
        elim (cases_Bool (same_name name y)) [
          | inl t ↦ rw t (ap (λ (zs : List (List ℕ)). y ∷ zs) (others_miss name ys x (rw t at h)))
          | inr n ↦ rw n (ap (λ (zs : List (List ℕ)). y ∷ zs) (kept name ys x (rw n at h)))
        ]

-- where numbers go no further all is left as it is
none_respelt : (old new : List ℕ) (names : List (List ℕ)) → respelt old new None names ≡ names
none_respelt old new [] = refl
none_respelt old new (own ∷ names) = refl

none_respelling : (path old new : List ℕ) (names : List (List ℕ)) → respelling path old new None names ≡ []
none_respelling path old new [] = refl
none_respelling path old new (own ∷ names) = refl

pub rest_respelt : (old new own : List ℕ) (o : Option ℕ) (list now all names rest : List (List ℕ)) → o ≡ None → names ≡ own ∷ rest → now ≡ list ++ own ∷ [] → list ++ respelt old new o names ≡ all → now ++ respelt old new o rest ≡ all
rest_respelt old new own o list now all names rest n e k h =
    (λ i. k i ++ respelt old new (n i) rest)
    ∙ (append_assoc list (own ∷ []) (respelt old new None rest) ∙ (ap (λ ys. list ++ own ∷ ys) (none_respelt old new rest) ∙ ((λ i. list ++ respelt old new (sym n i) (sym e i)) ∙ h)))

pub rest_respelling : (path old new own : List ℕ) (o : Option ℕ) (list all : List PlainEdit) (names rest : List (List ℕ)) → o ≡ None → names ≡ own ∷ rest → list ++ respelling path old new o names ≡ all → list ++ respelling path old new o rest ≡ all
rest_respelling path old new own o list all names rest n e h =
    (λ i. list ++ respelling path old new (n i) rest) ∙ (ap (λ ys. list ++ ys) (none_respelling path old new rest) ∙ ((λ i. list ++ respelling path old new (sym n i) (sym e i)) ∙ h))

none_prepending : (path : List ℕ) (eol : Ending) (p : PlainPrepend) (fields : List FieldText) → prepending path eol p None fields ≡ []
none_prepending path eol p [] = refl
none_prepending path eol p (f ∷ fields) = refl

pub rest_prepending : (path : List ℕ) (eol : Ending) (p : PlainPrepend) (f : FieldText) (o : Option ℕ) (list all : List PlainEdit) (fields rest : List FieldText) → o ≡ None → fields ≡ f ∷ rest
    → list ++ prepending path eol p o fields ≡ all → list ++ prepending path eol p o rest ≡ all
rest_prepending path eol p f o list all fields rest n e h =
    (λ i. list ++ prepending path eol p (n i) rest) ∙ (ap (λ ys. list ++ ys) (none_prepending path eol p rest) ∙ ((λ i. list ++ prepending path eol p (sym n i) (sym e i)) ∙ h))

-- one edit more
edits_more : (f : List ℕ → PlainEdit) (old now new : List PlainEdit) (done more : List (List ℕ)) (x : List ℕ) → now ≡ old ++ map f done → new ≡ now ++ f x ∷ [] → more ≡ done ++ x ∷ [] → new ≡ old ++ map f more
edits_more f old now new done more x h n m =
    n ∙ (ap (λ es. es ++ f x ∷ []) h ∙ (append_assoc old (map f done) (f x ∷ []) ∙ ap (λ es. old ++ es) (sym (map-append f done (x ∷ [])) ∙ ap (map f) (sym m))))

there_still : (p : List ℕ → Bool) (xs more : List (List ℕ)) (x : List ℕ) (t : Bool) → more ≡ xs ++ x ∷ [] → t ≡ list_any p xs → t ≡ true → t ≡ list_any p more
there_still p xs more x t m e h = h ∙ sym (ap (list_any p) m ∙ (any_on p xs x ∙ ap (λ b. b || p x) (sym e ∙ h)))

-- where two lists are told to be empty, both are
pub both_zero : (m n : ℕ) (b : Bool) → b ≡ ((m == 0) && (n == 0)) → b ≡ true → (m ≡ 0) × (n ≡ 0)
both_zero m n b e h = let p = both (m == 0) (n == 0) (sym e ∙ h) in (eqb-true m 0 p.0, eqb-true n 0 p.1)

-- where nothing is dropped and nothing kept, no name goes
all_stay : (only : Bool) (names : List (List ℕ)) → filter (λ own. not (goes (record { drops = []; keeps = []; only = only }) own)) names ≡ names
all_stay only [] = refl
all_stay only (own ∷ names) = ap (λ (ns : List (List ℕ)). own ∷ ns) (all_stay only names)

none_go : (only : Bool) (names : List (List ℕ)) → filter (goes (record { drops = []; keeps = []; only = only })) names ≡ []
none_go only [] = refl
none_go only (own ∷ names) = none_go only names

pub none_dropped : (path : List ℕ) (w : Work) (drops keeps : List PlainPattern) (only : Bool) → drops ≡ [] → keeps ≡ [] → w ≡ then_do w (dropped path (record { drops = drops; keeps = keeps; only = only }))
none_dropped path w drops keeps only d k =
    sym ((λ i. then_do w (dropped path (record { drops = d i; keeps = k i; only = only })))
    ∙ (λ i. record { names = all_stay only w.names i; edits = (ap (λ ns. w.edits ++ map (λ own. RemoveField path own 1) ns) (none_go only w.names) ∙ append-nil w.edits) i }))

-- what stands after one more of a name, of which one was there, has gone
pub record LaterGone (path name : List ℕ) (k : ℕ) (t : Bool) (list more : List (List ℕ)) (old new : List PlainEdit) : Type 0 where
  pub there : t ≡ list_any (same_name name) more
  pub names : list ≡ with_first name more
  pub edits : new ≡ old ++ map (λ own. RemoveField path name k) (drop 1 (those name more))

pub gone_on : (path name own : List ℕ) (k : ℕ) (t : Bool) (list xs more : List (List ℕ)) (old now new : List PlainEdit)
    → more ≡ xs ++ own ∷ [] → (t && same_name name own) ≡ true → LaterGone path name k t list xs old now → new ≡ now ++ RemoveField path name k ∷ [] → LaterGone path name k t list more old new
gone_on path name own k t list xs more old now new m h l n = record {
  there = there_still (same_name name) xs more own t m l.there (both_true t (same_name name own) h).0;
  names = l.names ∙ sym (ap (with_first name) m ∙ first_gone name xs own t l.there h);
  edits = edits_more (λ own. RemoveField path name k) old now new (drop 1 (those name xs)) _ own l.edits n (ap (λ ns. drop 1 (those name ns)) m ∙ later_gone name xs own t l.there h);
}
