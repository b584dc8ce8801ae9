-- The words of a script that stand for lists of edits, as they are written.
use Rattle.std.proofs.Common.{◌≡◌, ℕ, true, if◌then◌else◌, List, ◌∷◌, ◌++◌, Option, Some, None, codes, decimal, refl, sym, ap, ◌∙◌, subst, inl, inr, arith}
use Rattle.std.proofs.lemmas.Bool.{cases_Bool}
use Rattle.std.specs.Option.{option_map}
use Rattle.std.specs.Str.{bytes_eq}
use Rattle.mk_line.specs.Ascii.{space}
use Rattle.std.proofs.lemmas.Slice.Eq.{bytes_eq-Decides}
use Rattle.mk_script.specs.declared.script.ChosenEncoding.{ChosenEncoding}
use Rattle.mk_script.specs.declared.script.ChosenEncoding.TheVariants.{Qp, QuotedPrintable, Base64, EightBit, Identity}
use Rattle.mk_script.specs.Paths.{parted, path_of}
use Rattle.mk_script.specs.Targets.{as_name, is_field_name, is_file_name, is_name, read_file, read_first}
use Rattle.mk_script.specs.Script.{ScriptWord, SetsContent, SetsText, Encodes, Puts, PutsPiece, DropsAll, Appends, AppendsText, Attaches, AttachesText, chosen, past_charset, piece_of, job_of}
use Rattle.mk_script.specs.inner.Words.{attaching, attaching_text, content_by, dropping, encoding, placing, putting, with_charset}
use Rattle.mk_script.specs.Written.{IsPath, IsPiece, encoding_word, written_path, written_place, IsWord, written}
use Rattle.mk_script.proofs.NumberLemmas.{decimal_digits, some_same, none_some}
use Rattle.mk_script.proofs.PieceLemmas.{HoldsNo-digits, last-append, parted-append, parted-joined}
use Rattle.mk_script.proofs.PlacedWords.{named, piece-read, piece-written, placing-read, placing-written}
use Rattle.mk_script.proofs.WrittenLemmas.{path_of-written}
use Rattle.mk_script.proofs.FirstWords.{and_then-some, file-read, map-some, name-read, name_holds, path-read, path_holds}

-- the name of a transfer encoding
chosen-read : (name : List ℕ) (to : ChosenEncoding) → chosen name ≡ Some to → name ≡ encoding_word to
chosen-read name to e = elim (cases_Bool (bytes_eq name (codes "qp"))) [
  | inl qp ↦ (bytes_eq-Decides name (codes "qp")).0 qp ∙ ap encoding_word (some_same (rw qp at e))
  | inr a ↦ elim (cases_Bool (bytes_eq name (codes "quoted-printable"))) [
    | inl full ↦ (bytes_eq-Decides name (codes "quoted-printable")).0 full ∙ ap encoding_word (some_same (rw (a, full) at e))
    | inr b ↦ elim (cases_Bool (bytes_eq name (codes "base64"))) [
      | inl base64 ↦ (bytes_eq-Decides name (codes "base64")).0 base64 ∙ ap encoding_word (some_same (rw (a, b, base64) at e))
      | inr c ↦ elim (cases_Bool (bytes_eq name (codes "8bit"))) [
        | inl eight ↦ (bytes_eq-Decides name (codes "8bit")).0 eight ∙ ap encoding_word (some_same (rw (a, b, c, eight) at e))
        | inr d ↦ elim (cases_Bool (bytes_eq name (codes "identity"))) [
          | inl same ↦ (bytes_eq-Decides name (codes "identity")).0 same ∙ ap encoding_word (some_same (rw (a, b, c, d, same) at e))
          | inr f ↦ absurd (none_some (rw (a, b, c, d, f) at e))
        ]
      ]
    ]
  ]
]

encode-read : (count : ℕ) (rest : List ℕ) (word : ScriptWord) → encoding rest ≡ Some word → IsWord count word × (codes "encode" ++ (space ∷ rest) ≡ written word)
encode-read count rest word e =
    let p = path-read (λ path name. option_map (λ to. Encodes path to) (chosen name)) rest word e in
    let k = map-some (λ to. Encodes p.0 to) (chosen p.1) word p.3 in
    let whole : rest ≡ written_path p.0 ++ (space ∷ encoding_word k.0) = p.4 ∙ ap (λ l. written_path p.0 ++ (space ∷ l)) (chosen-read p.1 k.0 k.1) in
    subst (λ w. IsWord count w × (codes "encode" ++ (space ∷ rest) ≡ written w)) k.2 (p.2, ap (λ l. codes "encode" ++ (space ∷ l)) whole)

chosen-written : (to : ChosenEncoding) → chosen (encoding_word to) ≡ Some to
chosen-written Qp = refl
chosen-written QuotedPrintable = refl
chosen-written Base64 = refl
chosen-written EightBit = refl
chosen-written Identity = refl

pub encoding-written : (path : List ℕ) (to : ChosenEncoding) → IsPath path → encoding (written_path path ++ (space ∷ encoding_word to)) ≡ Some (Encodes path to)
encoding-written path to h = rw (parted-append space (written_path path) (encoding_word to) (path_holds path h), path_of-written path h, chosen-written to) refl

put-read : (count : ℕ) (rest : List ℕ) (word : ScriptWord) → putting rest ≡ Some word → IsWord count word × (codes "put" ++ (space ∷ rest) ≡ written word)
put-read count rest word e =
    let p = path-read (λ path field. Some (Puts path field)) rest word e in
    subst (λ w. IsWord count w × (codes "put" ++ (space ∷ rest) ≡ written w)) (some_same p.3) (p.2, ap (λ l. codes "put" ++ (space ∷ l)) p.4)

pub putting-written : (path field : List ℕ) → IsPath path → putting (written_path path ++ (space ∷ field)) ≡ Some (Puts path field)
putting-written path field h = rw (parted-append space (written_path path) field (path_holds path h), path_of-written path h) refl

drop-named : (path name : List ℕ) (word : ScriptWord) → (if is_field_name name then Some (DropsAll path name) else None) ≡ Some word → (is_field_name name ≡ true) × (DropsAll path name ≡ word)
drop-named path name word e = elim (cases_Bool (is_field_name name)) [
  | inr f ↦ absurd (none_some (rw f at e))
  | inl t ↦ (t, some_same (rw t at e))
]

drop-read : (count : ℕ) (rest : List ℕ) (word : ScriptWord) → dropping rest ≡ Some word → IsWord count word × (codes "drop" ++ (space ∷ rest) ≡ written word)
drop-read count rest word e =
    let p = path-read (λ path name. if is_field_name name then Some (DropsAll path name) else None) rest word e in
    let said = drop-named p.0 p.1 word p.3 in
    subst (λ w. IsWord count w × (codes "drop" ++ (space ∷ rest) ≡ written w)) said.1 ((p.2, said.0), ap (λ l. codes "drop" ++ (space ∷ l)) p.4)

pub dropping-written : (path name : List ℕ) → IsPath path → is_field_name name ≡ true → dropping (written_path path ++ (space ∷ name)) ≡ Some (DropsAll path name)
dropping-written path name h n = rw (parted-append space (written_path path) name (path_holds path h), path_of-written path h, n) refl

-- a type, the name of a file and a piece
attach-read : (count : ℕ) (rest : List ℕ) (word : ScriptWord) → attaching count rest ≡ Some word → IsWord count word × (codes "attach" ++ (space ∷ rest) ≡ written word)
attach-read count rest word e =
    let p = path-read (λ path. read_first as_name (λ media. read_file (λ name number. option_map (λ piece. Attaches path media name piece) (piece_of count number)))) rest word e in
    let m = name-read (λ media. read_file (λ name number. option_map (λ piece. Attaches p.0 media name piece) (piece_of count number))) p.1 word p.3 in
    let n = file-read (λ name number. option_map (λ piece. Attaches p.0 m.0 name piece) (piece_of count number)) m.1 word m.3 in
    let k = map-some (λ piece. Attaches p.0 m.0 n.0 piece) (piece_of count n.1) word n.3 in
    let read = piece-read count n.1 k.0 k.1 in
    let third : m.1 ≡ n.0 ++ (space ∷ decimal k.0) = n.4 ∙ ap (λ l. n.0 ++ (space ∷ l)) read.1 in
    let whole : rest ≡ written_path p.0 ++ (space ∷ (m.0 ++ (space ∷ (n.0 ++ (space ∷ decimal k.0))))) =
    p.4 ∙ ap (λ l. written_path p.0 ++ (space ∷ l)) (m.4 ∙ ap (λ l. m.0 ++ (space ∷ l)) third) in
    subst (λ w. IsWord count w × (codes "attach" ++ (space ∷ rest) ≡ written w)) k.2 ((p.2, m.2, n.2, read.0), ap (λ l. codes "attach" ++ (space ∷ l)) whole)

pub attaching-written : (count : ℕ) (path media name : List ℕ) (piece : ℕ) → IsPath path → is_name media ≡ true → is_file_name name ≡ true → IsPiece count piece
    → attaching count (written_path path ++ (space ∷ (media ++ (space ∷ (name ++ (space ∷ decimal piece)))))) ≡ Some (Attaches path media name piece)
attaching-written count path media name piece h m n k =
    rw (parted-append space (written_path path) (media ++ (space ∷ (name ++ (space ∷ decimal piece)))) (path_holds path h), path_of-written path h, parted-append space media (name ++ (space ∷ decimal piece)) (name_holds media m), m, last-append space name (decimal piece) (HoldsNo-digits space (decimal piece) (omega arith) (decimal_digits piece k.fits)), n, piece-written count piece k) refl

-- a type and a piece
attach_text-read : (count : ℕ) (rest : List ℕ) (word : ScriptWord) → attaching_text count rest ≡ Some word → IsWord count word × (codes "attach-text" ++ (space ∷ rest) ≡ written word)
attach_text-read count rest word e =
    let p = path-read (λ path. read_first as_name (λ media number. option_map (λ piece. AttachesText path media piece) (piece_of count number))) rest word e in
    let m = name-read (λ media number. option_map (λ piece. AttachesText p.0 media piece) (piece_of count number)) p.1 word p.3 in
    let k = map-some (λ piece. AttachesText p.0 m.0 piece) (piece_of count m.1) word m.3 in
    let read = piece-read count m.1 k.0 k.1 in
    let whole : rest ≡ written_path p.0 ++ (space ∷ (m.0 ++ (space ∷ decimal k.0))) =
    p.4 ∙ ap (λ l. written_path p.0 ++ (space ∷ l)) (m.4 ∙ ap (λ l. m.0 ++ (space ∷ l)) read.1) in
    subst (λ w. IsWord count w × (codes "attach-text" ++ (space ∷ rest) ≡ written w)) k.2 ((p.2, m.2, read.0), ap (λ l. codes "attach-text" ++ (space ∷ l)) whole)

pub attaching_text-written : (count : ℕ) (path media : List ℕ) (piece : ℕ) → IsPath path → is_name media ≡ true → IsPiece count piece
    → attaching_text count (written_path path ++ (space ∷ (media ++ (space ∷ decimal piece)))) ≡ Some (AttachesText path media piece)
attaching_text-written count path media piece h m k =
    rw (parted-append space (written_path path) (media ++ (space ∷ decimal piece)) (path_holds path h), path_of-written path h, parted-append space media (decimal piece) (name_holds media m), m, piece-written count piece k) refl

-- a path and a piece after a charset
charset-read : (count : ℕ) (rest : List ℕ) (word : ScriptWord) → with_charset count rest ≡ Some word
    → IsWord count word × (codes "content" ++ (space ∷ (codes "--charset" ++ (space ∷ rest))) ≡ written word)
charset-read count rest word e =
    let m = name-read (λ charset place. placing count (λ path piece. SetsText charset path piece) place) rest word e in
    let front = codes "content" ++ (space ∷ (codes "--charset" ++ (space ∷ m.0))) in
    let read = placing-read count front (λ path piece. SetsText m.0 path piece) m.1 word (λ path piece h k. ((m.2, h, k), refl)) m.3 in
    (read.0, ap (λ l. codes "content" ++ (space ∷ (codes "--charset" ++ (space ∷ l)))) m.4 ∙ read.1)

past-read : (rest more : List ℕ) → past_charset rest ≡ Some more → rest ≡ codes "--charset" ++ (space ∷ more)
past-read rest more e =
    let p = and_then-some (λ (p : List ℕ × List ℕ). if bytes_eq p.0 (codes "--charset") then Some p.1 else None) (parted space rest) more e in
    elim (cases_Bool (bytes_eq p.0.0 (codes "--charset"))) [
      | inr f ↦ absurd (none_some (rw f at p.2))
      | inl t ↦
          let same : p.0.1 ≡ more = some_same (rw t at p.2) in
          parted-joined space rest p.0 p.1 ∙ (ap (λ front. front ++ (space ∷ p.0.1)) ((bytes_eq-Decides p.0.0 (codes "--charset")).0 t) ∙ ap (λ l. codes "--charset" ++ (space ∷ l)) same)
    ]

content-read : (count : ℕ) (rest : List ℕ) (word : ScriptWord) (past : Option (List ℕ)) → past_charset rest ≡ past → content_by count rest past ≡ Some word
    → IsWord count word × (codes "content" ++ (space ∷ rest) ≡ written word)
content-read count rest word None e said = placing-read count (codes "content") (λ path piece. SetsContent path piece) rest word (λ path piece h k. ((h, k), refl)) said
content-read count rest word (Some more) e said =
    let read = charset-read count more word said in
    (read.0, ap (λ l. codes "content" ++ (space ∷ l)) (past-read rest more e) ∙ read.1)

-- a path holds no option: it is numbers
past-none : (path : List ℕ) (piece : ℕ) → IsPath path → past_charset (written_place path piece) ≡ None
past-none path piece h =
    rw (parted-append space (written_path path) (decimal piece) (path_holds path h))
    (elim (cases_Bool (bytes_eq (written_path path) (codes "--charset"))) [
      | inl t ↦
          let none : path_of (codes "--charset") ≡ None = refl in
          absurd (none_some (sym none ∙ (ap path_of (sym ((bytes_eq-Decides (written_path path) (codes "--charset")).0 t)) ∙ path_of-written path h)))
      | inr f ↦ rw f refl
    ])

pub content-written : (count : ℕ) (path : List ℕ) (piece : ℕ) → IsPath path → IsPiece count piece → content_by count (written_place path piece) (past_charset (written_place path piece)) ≡ Some (SetsContent path piece)
content-written count path piece h k = rw (past-none path piece h) (placing-written count (λ p k. SetsContent p k) path piece h k)

pub charset-written : (count : ℕ) (charset path : List ℕ) (piece : ℕ) → is_name charset ≡ true → IsPath path → IsPiece count piece
    → content_by count (codes "--charset" ++ (space ∷ (charset ++ (space ∷ written_place path piece)))) (past_charset (codes "--charset" ++ (space ∷ (charset ++ (space ∷ written_place path piece))))) ≡ Some (SetsText charset path piece)
charset-written count charset path piece n h k =
    rw (parted-append space (codes "--charset") (charset ++ (space ∷ written_place path piece)) (name_holds (codes "--charset") refl), parted-append space charset (written_place path piece) (name_holds charset n), n)
    (placing-written count (λ p k. SetsText charset p k) path piece h k)

pub job_of-parts : (count : ℕ) (line : List ℕ) (word : ScriptWord) (p : List ℕ × List ℕ) → line ≡ p.0 ++ (space ∷ p.1) → job_of count p ≡ Some word → IsWord count word × (line ≡ written word)
job_of-parts count line word p parts said = elim (cases_Bool (bytes_eq p.0 (codes "content"))) [
  | inl content ↦ let read = content-read count p.1 word (past_charset p.1) refl (rw content at said) in (read.0, named (codes "content") line word p parts content read.1)
  | inr a ↦ elim (cases_Bool (bytes_eq p.0 (codes "encode"))) [
    | inl encode ↦ let read = encode-read count p.1 word (rw (a, encode) at said) in (read.0, named (codes "encode") line word p parts encode read.1)
    | inr z ↦ elim (cases_Bool (bytes_eq p.0 (codes "put"))) [
      | inl put ↦ let read = put-read count p.1 word (rw (a, z, put) at said) in (read.0, named (codes "put") line word p parts put read.1)
      | inr b ↦ elim (cases_Bool (bytes_eq p.0 (codes "put-piece"))) [
        | inl piece ↦ let read = placing-read count (codes "put-piece") (λ path piece. PutsPiece path piece) p.1 word (λ path piece h k. ((h, k), refl)) (rw (a, z, b, piece) at said) in (read.0, named (codes "put-piece") line word p parts piece read.1)
        | inr c ↦ elim (cases_Bool (bytes_eq p.0 (codes "drop"))) [
          | inl drop ↦ let read = drop-read count p.1 word (rw (a, z, b, c, drop) at said) in (read.0, named (codes "drop") line word p parts drop read.1)
          | inr d ↦ elim (cases_Bool (bytes_eq p.0 (codes "append"))) [
            | inl append ↦ let read = placing-read count (codes "append") (λ path piece. Appends path piece) p.1 word (λ path piece h k. ((h, k), refl)) (rw (a, z, b, c, d, append) at said) in (read.0, named (codes "append") line word p parts append read.1)
            | inr e ↦ elim (cases_Bool (bytes_eq p.0 (codes "append-text"))) [
              | inl append ↦ let read = placing-read count (codes "append-text") (λ path piece. AppendsText path piece) p.1 word (λ path piece h k. ((h, k), refl)) (rw (a, z, b, c, d, e, append) at said) in (read.0, named (codes "append-text") line word p parts append read.1)
              | inr f ↦ elim (cases_Bool (bytes_eq p.0 (codes "attach"))) [
                | inl attach ↦ let read = attach-read count p.1 word (rw (a, z, b, c, d, e, f, attach) at said) in (read.0, named (codes "attach") line word p parts attach read.1)
                | inr g ↦ elim (cases_Bool (bytes_eq p.0 (codes "attach-text"))) [
                  | inl attach ↦ let read = attach_text-read count p.1 word (rw (a, z, b, c, d, e, f, g, attach) at said) in (read.0, named (codes "attach-text") line word p parts attach read.1)
                  | inr h ↦ absurd (none_some (rw (a, z, b, c, d, e, f, g, h) at said))
                ]
              ]
            ]
          ]
        ]
      ]
    ]
  ]
]
