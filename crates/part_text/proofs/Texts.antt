-- The text of a partition, piece by piece and line by line.
use Rattle.std.proofs.Common.{◌≡◌, ℕ, ◌+◌, ◌-◌, ◌^◌, ◌<◌, ◌≤◌, List, [], ◌∷◌, ◌++◌, length, take, drop, set, sym, ap}
use Rattle.std.proofs.Common.{subst, ◌∙◌, append_assoc, append-nil, arith, take-append-drop}
use Rattle.std.proofs.lemmas.List.{drop-set}
use Rattle.std.proofs.lemmas.Grind.{flat_map-append}
use Rattle.std.proofs.lemmas.Fmt.{length-decimal-le}
use Rattle.std.specs.Fmt.{decimal}
use Rattle.std.specs.Prelude.{Option, Result, Ok, Err, IsErr}
use Rattle.std.specs.Io.KnownBytes.{Appends}
use Rattle.hg_io.specs.Transfers.{AppendsPrefix, PutsAll}
use Rattle.hg_io.proofs.TransferLemmas.{AppendsPrefix-more, AppendsPrefix-after}
use Rattle.part_text.specs.Part.{number_line, part_text}

-- a block takes ten digits at most
pub decimal-short : (n : ℕ) → n < 2 ^ 32 → length (decimal n) ≤ 10
decimal-short n h = length-decimal-le 10 n (omega arith) (omega arith) (omega arith)

-- one more line before a text
part_text-push : (rest text : List ℕ) (b : ℕ) → part_text (rest ++ b ∷ []) ++ text ≡ part_text rest ++ (decimal b ++ 10 ∷ text)
part_text-push rest text b = rw (flat_map-append number_line rest (b ∷ [])) (simp (append_assoc, append-nil))

-- a line that is written before the later ones, from its end
pub part_text-line : (whole rest room digits : List ℕ) (b start : ℕ) → whole ≡ part_text (rest ++ b ∷ []) ++ drop start room → 0 < start →
    start ≤ length room → digits ≡ decimal b ++ drop (start - 1) (set room (start - 1) 10) → whole ≡ part_text rest ++ digits
part_text-line whole rest room digits b start is low high written =
    let next : start - 1 + 1 ≡ start = omega arith in
    let line : drop (start - 1) (set room (start - 1) 10) ≡ 10 ∷ drop start room =
    drop-set room (start - 1) 10 (omega arith) ∙ ap (λ n. 10 ∷ drop n room) next in
    is ∙ part_text-push rest (drop start room) b ∙ ap (λ l. part_text rest ++ l) (sym (written ∙ ap (λ l. decimal b ++ l) line))

-- the text of a partition, from its next piece on
pub part_text-split : (p front : List ℕ) (i : ℕ) → front ≡ part_text (take i p) → part_text p ≡ front ++ part_text (drop i p)
part_text-split p front i is =
    ap part_text (sym (take-append-drop i p)) ∙ flat_map-append number_line (take i p) (drop i p) ∙ ap (λ l. l ++ part_text (drop i p)) (sym is)

-- a piece failed to be put behind the ones before it
pub piece-failed : {T E : Type 0} (r : Result T E) (a b c : Option (List ℕ)) (done front later whole : List ℕ) → IsErr r → Appends a b done →
    AppendsPrefix b c front → whole ≡ done ++ (front ++ later) → PutsAll a c r whole
piece-failed (Ok x) a b c done front later whole fails before part is = cc
piece-failed (Err e) a b c done front later whole fails before part is =
    record {
      ok = tt;
      err = subst (AppendsPrefix a c) (sym is) (AppendsPrefix-after a b c done (front ++ later) before
          (AppendsPrefix-more b c front later part));
    }
