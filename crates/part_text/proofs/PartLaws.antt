-- A partition file that was written is read back.
use Rattle.std.proofs.Common.{◌≡◌, ℕ, ◌+◌, ◌^◌, ◌<◌, ◌≤◌, Bool, true, cond, List, [], ◌∷◌, length, map, All, refl, sym, ap, ◌∙◌, arith}
use Rattle.std.proofs.lemmas.Bool.Decides.{nat_tests}
use Rattle.std.proofs.lemmas.List.Elements.{All-nil, All-cons, All-head, All-tail}
use Rattle.std.proofs.lemmas.List.Folds.{flat_map-map}
use Rattle.std.specs.Prelude.{Ok, Err, nat_lt}
use Rattle.std.specs.List.{enumerate_from}
use Rattle.hg_text.specs.Kept.{Line, Reading, lines, kept_from}
use Rattle.part_text.specs.declared.fault.PartKind.TheVariants.{BlockRange}
use Rattle.part_text.specs.NumberLines.{numbers_line}
use Rattle.part_text.specs.Part.{part_text}
use Rattle.part_text.specs.Entries.{block_in, block_entry, spelled}
use Rattle.part_text.specs.Laws.{PartIsReadBack}
use Rattle.part_text.proofs.LineLemmas.{AreLines, number_of-decimal, numbers_kept, kept_from-numbers}
use Rattle.part_text.proofs.ReadLemmas.{behind, spelled-end, spelled-next}
use Rattle.std.specs.Fmt.{decimal}

-- the lines of a partition
abbrev part_lines : List ℕ → List (List ℕ)
part_lines p = map (λ b. b ∷ []) p

AreLines-part : (k : ℕ) (p : List ℕ) → k ≤ 2 ^ 32 → All (λ b. b < k) p → AreLines (part_lines p)
AreLines-part k [] few below = tt
AreLines-part k (b ∷ p) few below =
    let small = All-head (λ b. b < k) b p below in
    (All-cons (λ m. m < 2 ^ 64) b [] (omega arith) (All-nil (λ m. m < 2 ^ 64)), AreLines-part k p few (All-tail (λ b. b < k) b p below))

block_entry-decimal : (k b : ℕ) → k ≤ 2 ^ 32 → b < k → block_entry k (decimal b ∷ []) ≡ Ok b
block_entry-decimal k b few small =
    let is : nat_lt b k ≡ true = grind (arith, nat_tests) in
    ap (block_in k) (number_of-decimal b (omega arith)) ∙ ap (λ (t : Bool). cond t (Ok b) (Err BlockRange)) is

spelled-part : (k count start : ℕ) (p : List ℕ) → k ≤ 2 ^ 32 → All (λ b. b < k) p → spelled (block_entry k) (length p)
    (record { kept = map numbers_kept (enumerate_from start (part_lines p)); count = count }) ≡ Ok p
spelled-part k count start [] few below = spelled-end (block_entry k) (record { kept = []; count = count }) refl
spelled-part k count start (b ∷ p) few below =
    let rest : Reading = record { kept = map numbers_kept (enumerate_from (start + 1) (part_lines p)); count = count } in
    let line : Line = numbers_kept (start, b ∷ []) in
    spelled-next (block_entry k) (length p) (record { kept = line ∷ rest.kept; count = count }) rest line b refl refl
    (block_entry-decimal k b few (All-head (λ b. b < k) b p below))
    ∙ ap (behind (b ∷ [])) (spelled-part k count (start + 1) p few (All-tail (λ b. b < k) b p below))

pub part_is_read_back : PartIsReadBack
part_is_read_back p k few below =
    let kept = ap (λ (text : List ℕ). kept_from 1 text) (sym (flat_map-map numbers_line (λ b. b ∷ []) p)) ∙ kept_from-numbers 1 (part_lines p)
    (AreLines-part k p few below) in
    ap (λ (ls : List Line). spelled (block_entry k) (length p) (record { kept = ls; count = length (lines (part_text p)) })) kept
    ∙ spelled-part k (length (lines (part_text p))) 1 p few below
