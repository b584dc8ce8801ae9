-- A content that goes out piece by piece.
use Rattle.std.proofs.Common.{true, false, ◌≡◌, ◌≢◌, ◌++◌, ◌∙◌, Result, Ok, Err, Some, IfOk, IfErr, OnOk, OnErr, inl, inr, ℕ, List, [], Option, refl, ap, sym, append_assoc, arith, subst}
use Rattle.std.proofs.lemmas.List.{append-nil}
use Rattle.std.proofs.KnownBytes.{Appends-nil, Appends-trans}
use Rattle.std.specs.Io.KnownBytes.{Appends, IsAtEnd}
use Rattle.base64.specs.Rfc4648.{encode_symbols}
use Rattle.mk_head.specs.declared.encodings.Encoding.{Encoding}
use Rattle.mk_head.specs.declared.encodings.Encoding.TheVariants.{Identity, Qp, Base64, Other}
use Rattle.mk_code.specs.Contents.{IsContent}
use Rattle.mk_code.proofs.Contents.{content_same}
use Rattle.mk_mailbox.specs.Devices.{AppendsFront, Rose}
use Rattle.mk_transfer.specs.RunClauses.{IsSent, IsStopped}
use Rattle.mk_transfer.specs.declared.transfer.Stop.{Stop}
use Rattle.mk_transfer.specs.declared.transfer.Stop.TheVariants.{Fault, Memory}
use Rattle.mk_transfer.specs.declared.status.Cause.{Cause}
use Rattle.mk_transfer.specs.declared.status.Cause.TheVariants.{Read}
use Rattle.mk_transfer.specs.declared.status.Status.{Status}
use Rattle.mk_transfer.specs.declared.status.Status.TheVariants.{Well, Refused, Usage}
use Rattle.mk_transfer.specs.declared.status.Status.TheVariants as status
use Rattle.mk_transfer.specs.RunClauses.{held}
use Rattle.mk_transfer.specs.Said.{shown}
use Rattle.mk_tree.specs.Documents.{tree}
use Rattle.mk_tree.specs.Sections.{Placed, section_at}
use Rattle.mk_view.specs.Extracts.{IsExtract}
use Rattle.mk_show.specs.GivenPieces.{Given, GivesPiece, IsLeft}
use Rattle.mk_show.specs.Shown.{IsTaken, ShowsSoFar}
use Rattle.mk_transfer.proofs.Fronts.{AppendsFront-following, AppendsFront-none}

-- an empty text has an empty content
pub nothing : (encoding : Encoding) (more : List ℕ) → IsContent encoding [] more → more ≡ []
unfolding encode_symbols
nothing Identity more h = h
nothing Qp more h = h
nothing Base64 more h = content_same Base64 [] more [] h (λ i. omega arith, refl)
nothing Other more h = absurd h

-- what was sent of a content, and what is left
abbrev pub IsHalfSent : Given → Given → Option (List ℕ) → Option (List ℕ) → Type 0
IsHalfSent first given old new = (bytes : List ℕ) → IsLeft first bytes
    → (sent : List ℕ) × (more : List ℕ) × (bytes ≡ sent ++ more) × IsLeft given more × Appends old new sent

-- one piece more
pub piece_sent : (first given after : Given) (piece : List ℕ) (old mid new : Option (List ℕ)) → IsHalfSent first given old mid
    → ((bytes : List ℕ) → IsLeft given bytes → GivesPiece true bytes after) → piece ≡ after.piece → Appends mid new piece → IsHalfSent first after old new
piece_sent first given after piece old mid new h next e a bytes is =
    let before = h bytes is in
    let p = next before.1 before.3 in (
      before.0 ++ piece,
      p.0,
      before.2 ∙ (ap (λ xs. before.0 ++ xs) (p.1 ∙ ap (λ xs. xs ++ p.0) (sym e)) ∙ sym (append_assoc before.0 piece p.0)),
      p.2,
      Appends-trans old mid new before.0 piece before.4 a,
    )

-- all was sent
pub all_sent : (first given after : Given) (old new : Option (List ℕ)) (before then : ℕ) → IsHalfSent first given old new
    → ((bytes : List ℕ) → IsLeft given bytes → GivesPiece false bytes after) → then ≡ before
    → (bytes : List ℕ) → IsLeft first bytes → IsSent bytes old new before then
all_sent first given after old new before then h end w bytes is =
    let half = h bytes is in
    let none : half.1 ≡ [] = end half.1 half.3 in
    let whole : half.0 ≡ bytes = sym (half.2 ∙ (ap (λ xs. half.0 ++ xs) none ∙ append-nil half.0)) in
    record { whole = subst (λ xs. Appends old new xs) whole half.4; well = w }

-- the pieces end where memory is missing
pub stopped_without_memory : (first given : Given) (old new : Option (List ℕ)) (before then : ℕ) → IsHalfSent first given old new → then ≡ before
    → (bytes : List ℕ) → IsLeft first bytes → IsStopped Memory bytes old new before then
stopped_without_memory first given old new before then h w bytes is =
    let half = h bytes is in
    record { front = (half.0, half.1, half.2, half.4); fault = (λ e. absurd (not_fault e)); steady = λ e. w; counted = omega (arith, w) }
  where
    not_fault : Memory ≡ Fault → ⊥
    not_fault e = cc

-- or where the device stops
pub stopped_in_a_piece : (first given after : Given) (piece : List ℕ) (old mid new : Option (List ℕ)) (before between then : ℕ) (stop : Stop) → IsHalfSent first given old mid
    → ((bytes : List ℕ) → IsLeft given bytes → GivesPiece true bytes after) → piece ≡ after.piece → between ≡ before → IsStopped stop piece mid new between then
    → (bytes : List ℕ) → IsLeft first bytes → IsStopped stop bytes old new before then
stopped_in_a_piece first given after piece old mid new before between then stop h next e w s bytes is =
    let half = h bytes is in
    let p = next half.1 half.3 in
    let all : bytes ≡ half.0 ++ (piece ++ p.0) = half.2 ∙ ap (λ xs. half.0 ++ xs) (p.1 ∙ ap (λ xs. xs ++ p.0) (sym e)) in
    record {
      front = AppendsFront-following old mid new half.0 piece p.0 bytes half.4 s.front all;
      fault = λ e. (let r = s.fault e in rose_from before between then w r);
      steady = λ e. s.steady e ∙ w;
      counted = (let r = s.counted in omega (arith, w, r));
    }
  where
    rose_from : (before between then : ℕ) → between ≡ before → Rose between then → Rose before then
    rose_from before between then w r = subst (λ n. Rose n then) w r

-- what was gathered of a content, and what is left
abbrev pub IsHalfGathered : Given → Given → List ℕ → Type 0
IsHalfGathered first given all = (bytes : List ℕ) → IsLeft first bytes → (more : List ℕ) × (bytes ≡ all ++ more) × IsLeft given more

-- one piece more
pub piece_gathered : (first given after : Given) (piece all : List ℕ) → IsHalfGathered first given all
    → ((bytes : List ℕ) → IsLeft given bytes → GivesPiece true bytes after) → piece ≡ after.piece → IsHalfGathered first after (all ++ piece)
piece_gathered first given after piece all h next e bytes is =
    let before = h bytes is in
    let p = next before.0 before.2 in
    (p.0, before.1 ∙ (ap (λ xs. all ++ xs) (p.1 ∙ ap (λ xs. xs ++ p.0) (sym e)) ∙ sym (append_assoc all piece p.0)), p.2)

-- all was gathered
pub all_gathered : (first given after : Given) (all : List ℕ) → IsHalfGathered first given all
    → ((bytes : List ℕ) → IsLeft given bytes → GivesPiece false bytes after) → (bytes : List ℕ) → IsLeft first bytes → all ≡ bytes
all_gathered first given after all h end bytes is =
    let half = h bytes is in
    sym (half.1 ∙ (ap (λ xs. all ++ xs) (end half.0 half.2) ∙ append-nil all))

-- a content that went out, or a front of it, as a run
pub ShowsSoFar-content : (path message : List ℕ) (place : Placed) (bytes : List ℕ) (result : Result Status Cause) (input left out out_after err : Option (List ℕ))
    → section_at path (tree message) ≡ Some place → IsExtract (Some place) bytes → IsAtEnd left
    → IfOk result (λ status. status ≡ Well) → OnOk result (Appends out out_after bytes)
    → OnErr result (AppendsFront out out_after bytes) → IfErr result (λ cause. cause ≢ Read)
    → ShowsSoFar (IsTaken path message) result (held input out err) (held left out_after err)
ShowsSoFar-content path message place bytes (Ok Well) input left out out_after err s is e w a f n = (
  shown bytes [],
  inl (record { bytes = bytes; content = subst (λ p. IsExtract p bytes) (sym s) is; run_is = refl }),
  record { status_is = refl; written = record { output = a; errors = Appends-nil err }; read = e },
)
ShowsSoFar-content path message place bytes (Ok Refused) input left out out_after err s is e w a f n = absurd cc
ShowsSoFar-content path message place bytes (Ok Usage) input left out out_after err s is e w a f n = absurd cc
ShowsSoFar-content path message place bytes (Ok status.Fault) input left out out_after err s is e w a f n = absurd cc
ShowsSoFar-content path message place bytes (Ok status.Memory) input left out out_after err s is e w a f n = absurd cc
ShowsSoFar-content path message place bytes (Err cause) input left out out_after err s is e w a f n =
    inr (
      shown bytes [],
      inl (record { bytes = bytes; content = subst (λ p. IsExtract p bytes) (sym s) is; run_is = refl }),
      record { output = f; errors = AppendsFront-none err []; silent = λ read. absurd (n read) },
    )
